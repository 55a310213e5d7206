-- A session that has ended has heard no more than before its cause came.
use Rattle.std.proofs.Common.{◌≡◌, ℕ, cond, List, [], ◌∷◌, ◌++◌, refl, sym, ap, ◌∙◌, append-nil, append_assoc, arith}
use Rattle.std.proofs.lemmas.List.Concat.{flat_map-append}
use Rattle.std.proofs.lemmas.List.Sums.{sum_by-append}
use Rattle.std.specs.List.{count_by}
use Rattle.dap_frames.specs.Frames.{frame_front}
use Rattle.machine_model.specs.Runs.{Message}
use Rattle.session_laws.specs.Bytes.{came_by, came_from}
use Rattle.session_model.specs.Causes.{Cause}
use Rattle.session_laws.specs.Hearing.{AreHeard}
use Rattle.session_model.specs.LastWords.{AreSpoken, LastWord, word_bytes, word_side}
use Rattle.session_model.specs.Names.{Ending, Entry, Limits, Out, Side, Client, Target}
use Rattle.session_laws.specs.Replies.{AreReplied, is_end_come}
use Rattle.session_model.specs.Session.{Ended, EndedState}
use Rattle.session_model.specs.States.{SessionState, StreamState}
use Rattle.session_laws.proofs.GreetLaws.{are_replied}
use Rattle.session_laws.proofs.HearLaws.{are_heard}
use Rattle.session_laws.proofs.Steps.{came-broken}
use Rattle.wire_core.specs.Outside.{broken_send}
use Rattle.wire_core.specs.Streams.{IsSteady}

-- nothing of a side, and no end of the target's stream
record IsDeaf (entries : List Entry) : Type 0 where
  pub none : (side : Side) → came_from side entries ≡ []
  pub no_end : count_by is_end_come entries ≡ 0

joined : {entries : List Entry} (more : List Entry) → IsDeaf entries → IsDeaf more → IsDeaf (entries ++ more)
joined {entries} more h k = record {
  none = λ side. flat_map-append (came_by side) entries more ∙ ap (λ all. all ++ came_from side more) (h.none side)
      ∙ k.none side;
  no_end = let first = h.no_end in let then_none = k.no_end in
      omega (arith, sum_by-append (λ (entry : Entry). cond (is_end_come entry) 1 0) entries more);
}

nothing : IsDeaf []
nothing = record { none = λ side. refl; no_end = refl }

out : (side : Side) (bytes : List ℕ) → IsDeaf (Out side bytes ∷ [])
out side bytes = record { none = λ from. refl; no_end = refl }

cut : (side : Side) (bytes : List ℕ) → IsDeaf (broken_send side bytes)
cut side bytes = record { none = λ from. came-broken from side bytes; no_end = no_end bytes }
  where
    no_end : (bytes : List ℕ) → count_by is_end_come (broken_send side bytes) ≡ 0
    no_end [] = refl
    no_end (b ∷ bytes) = refl

by_words : {begin : StreamState} {words said left : List LastWord} {entries : List Entry} {now : StreamState}
    → AreSpoken begin words said left entries now → IsDeaf entries
by_words AreSpoken.none = nothing
by_words (AreSpoken.one_more {now} {word} h) = joined _ (by_words h) (out (word_side word) (word_bytes now word))
by_words (AreSpoken.cut_short h proper) = joined _ (by_words h) (cut _ _)

by_cause : {limits : Limits} {turns : ℕ} {s : SessionState} {ending : Ending} {entries : List Entry} {taken : ℕ}
    → Cause limits turns s ending entries taken → IsDeaf entries
by_cause (Cause.shut listens) = record { none = λ side. refl; no_end = refl }
by_cause (Cause.lost side listens) = record { none = λ from. refl; no_end = refl }
by_cause (Cause.broken {side} on allows speaks proper) = cut side _
by_cause _ = nothing

-- the whole log says no more than what was before
record IsSame (log before : List Entry) : Type 0 where
  pub bytes : (side : Side) → came_from side log ≡ came_from side before
  pub ends : count_by is_end_come log ≡ count_by is_end_come before

same_so : {limits : Limits} {log : List Entry} {messages : List Message} {turns : ℕ} {e : EndedState}
    (h : Ended limits log messages turns e) → IsSame log h.before
same_so h =
    let deaf : IsDeaf (h.by_cause ++ h.by_words) = joined h.by_words (by_cause h.cause) (by_words h.words) in
    let parts = h.log_is ∙ append_assoc h.before h.by_cause h.by_words in
    record {
      bytes = λ side. ap (λ l. came_from side l) parts
          ∙ flat_map-append (came_by side) h.before (h.by_cause ++ h.by_words)
          ∙ ap (λ more. came_from side h.before ++ more) (deaf.none side) ∙ append-nil (came_from side h.before);
      ends = let all = ap (λ l. count_by is_end_come l) parts in
          let none = deaf.no_end in
          omega (
            arith,
            all,
            none,
            sum_by-append (λ (entry : Entry). cond (is_end_come entry) 1 0) h.before
                (h.by_cause ++ h.by_words),
          );
    }

pub are_heard_then : IsSteady frame_front → {limits : Limits} {log : List Entry} {messages : List Message} {turns : ℕ}
    {e : EndedState} → Ended limits log messages turns e → AreHeard log messages e.last
are_heard_then steady h =
    let k = are_heard steady h.going in
    let same = (same_so h).bytes Client in
    record { frames = k.frames; cut = rw same k.cut; read = k.read; uncut_bytes = rw same k.uncut_bytes }

pub are_replied_then : {limits : Limits} {log : List Entry} {messages : List Message} {turns : ℕ} {e : EndedState}
    → Ended limits log messages turns e → AreReplied log messages e.last
are_replied_then h =
    let k = are_replied h.going in
    let same = (same_so h).bytes Target in
    record {
      packets = k.packets;
      count = k.count;
      unreplied = k.unreplied;
      cut = rw same k.cut;
      uncut_bytes = rw same k.uncut_bytes;
      said = k.said;
      pending = k.pending;
      apart = k.apart;
      same = k.same;
      few = k.few;
      kept = k.kept;
      begun = rw same k.begun;
      greeted = rw same k.greeted;
      ended = k.ended ∙ sym (same_so h).ends;
    }
