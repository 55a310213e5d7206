-- Worked examples: the log of the smallest session, and what is wrong with others that begin so.
use Rattle.std.proofs.Common.{◌≡◌, ◌⊎◌, inl, inr, ℕ, zero, suc, ◌≤◌, Bool, true, false, List, [], ◌∷◌, ◌++◌}
use Rattle.std.proofs.Common.{Option, None, Some}
use Rattle.std.specs.Fmt.{digits}
use Rattle.std.proofs.Common.{length, take, refl, sym, ap, subst, ◌∙◌, arith, append-nil, take_all}
use Rattle.dap_messages.specs.Telling.{target_gone, told_text}
use Rattle.dap_messages.specs.declared.told.Outcome.TheVariants as outcomes
use Rattle.dap_messages.specs.declared.told.Response.{Response}
use Rattle.jdwp_packets.specs.Packets.{handshake}
use Rattle.json.specs.Print.{escape_byte}
use Rattle.legal_logs.proofs.Smallest.{SaysLeave, Stage, Fits, all_read, answer, answer_bytes, answered_over}
use Rattle.legal_logs.proofs.Smallest.{begun_goes, came, chosen_tells, ends_so, fits_before, fits_less, fresh_waits}
use Rattle.legal_logs.proofs.Smallest.{has_chosen, heard_goes, is_answered, is_heard, leave, limits}
use Rattle.legal_logs.proofs.Smallest.{m_chosen, no_frame_yet, none_said, none_waits, not_joined, one_waits}
use Rattle.legal_logs.proofs.Smallest.{only_answer, stands_at}
use Rattle.legal_logs.specs.Asking.{IsHeld, MaySay, due_asked}
use Rattle.legal_logs.specs.Clauses.{Blames, Clause, IsForDue, IsSettled, IsSpelled, IsToFirst, NoneGoes, Responds}
use Rattle.legal_logs.specs.Clauses.{StopsIn, acting, answering, number_of, spelling}
use Rattle.legal_logs.specs.Endings.{EndsHere, HasPart, HasWordPart, Halts, ReadOut, halted}
use Rattle.legal_logs.specs.Fronts.{IsFront, IsLegal}
use Rattle.legal_logs.specs.Readings.{HasReadAll, IsAdded, MayWait, Reading}
use Rattle.legal_logs.specs.Verdicts.{BreaksAt, IsBroken}
use Rattle.machine_model.specs.Due.{load_of, newly_lacked, wanted}
use Rattle.machine_model.specs.Rest.{awaits_greeting, is_silent, without_response}
use Rattle.machine_model.specs.Runs.{Allows, Message, said}
use Rattle.machine_model.specs.State.{fresh}
use Rattle.run_outcomes.specs.Lines.{status_of_ending}
use Rattle.session_model.specs.LastWords.{word_bytes, word_side}
use Rattle.session_model.specs.Names.{a_response, Client, Done, Ending, Entry, Failed, In, Out, Quiet}
use Rattle.session_model.specs.Names.{Shut, Side, Target}
use Rattle.session_model.specs.Saying.{Brings, Speaks, told_bytes}
use Rattle.session_model.specs.Session.{Comes, EndedState}
use Rattle.session_model.specs.States.{SessionState, StreamState, start}

-- The log of the smallest session -------------------------------------------------------------------------------------

start_read : HasReadAll limits start
start_read = record {
  reads = record {
    reads = record { nothing_due = fresh_waits; on = record { no_flood = omega arith } };
    none_to_read = refl;
    greeted = refl;
  };
  no_frame = inr no_frame_yet;
  no_packet = refl;
  not_ended = refl;
}

start_waits : MayWait limits 0 start
start_waits = record {
  turn = record { read = start_read; more_turns = omega arith; patient = omega arith };
  held = IsHeld.no_item refl;
}

reads_came : {piece : List ℕ} → Reading limits (In Client piece ∷ []) [] 1 (came piece)
reads_came = Reading.happens Reading.begins start_waits Comes.piece

abbrev asks_to_leave : List Message
asks_to_leave = Message.hears leave ∷ []

few : length fresh.waiting ≤ 2
few = omega arith

reads_heard : {piece : List ℕ} {n : ℕ} → SaysLeave piece n
    → Reading limits (In Client piece ∷ []) asks_to_leave 1 (is_heard piece n)
reads_heard h =
    Reading.hears reads_came (record { nothing_due = fresh_waits; on = record { no_flood = few } })
    (Allows.hears refl refl) (Brings.hears h.whole h.says)

reads_chosen : {piece : List ℕ} {n : ℕ} → SaysLeave piece n
    → Reading limits (In Client piece ∷ []) asks_to_leave 1 (has_chosen piece n)
reads_chosen h =
    Reading.goes (Reading.goes (reads_heard h) (record { no_flood = one_waits }) heard_goes)
    (record { no_flood = none_waits.0 }) begun_goes

reads_answered : {piece : List ℕ} {n : ℕ} → SaysLeave piece n
    → Reading limits (In Client piece ∷ Out Client answer_bytes ∷ []) (Message.hears leave ∷ Message.tells answer ∷ [])
    1 (is_answered piece n)
reads_answered h =
    Reading.speaks (reads_chosen h) (record { no_flood = none_waits.1.0 }) (MaySay.acts (ap said chosen_tells))
    Speaks.tells IsAdded.apart

-- it is legal, with the status of a session that is done
smallest_is_legal : {piece : List ℕ} {n : ℕ} → SaysLeave piece n
    → IsLegal limits (In Client piece ∷ Out Client answer_bytes ∷ []) (Some 0)
smallest_is_legal {piece} {n} h =
    IsLegal.to_the_end {e = halted (is_answered piece n) Done} (ReadOut.halts (Halts.here (reads_answered h)
    (EndsHere.over (record { no_flood = none_waits.1.1 }) answered_over))) refl

-- What other logs may be that begin so --------------------------------------------------------------------------------

not_one : {piece : List ℕ} {second : Entry} → In Client piece ∷ [] ≡ In Client piece ∷ second ∷ [] → ⊥
not_one is = cc

-- a part of the answer stands behind the piece
record IsPart (piece : List ℕ) (log : List Entry) : Type 0 where
  kept : ℕ
  log_is : log ≡ In Client piece ∷ Out Client (take kept answer_bytes) ∷ []

added_is : {piece bytes sent : List ℕ} {side : Side} {before log : List Entry} → IsAdded side bytes before log
    → before ≡ In Client piece ∷ [] → side ≡ Client → bytes ≡ sent
    → log ≡ In Client piece ∷ Out Client sent ∷ []
added_is {piece} {bytes} {side = side} IsAdded.apart before_is side_is bytes_are =
    ap (λ (entries : List Entry). entries ++ Out side bytes ∷ []) before_is
    ∙ ap (λ (to : Side). In Client piece ∷ Out to bytes ∷ []) side_is
    ∙ ap (λ (these : List ℕ). In Client piece ∷ Out Client these ∷ []) bytes_are
added_is {side = side} (IsAdded.joined log begun) before_is side_is bytes_are =
    absurd (not_joined log side begun before_is)

part_is : {piece : List ℕ} {n turns : ℕ} {log : List Entry} {messages : List Message} {s : SessionState} {side : Side}
    → SaysLeave piece n → Fits piece log → HasPart limits log messages turns s side → IsPart piece log
part_is {piece} h fits part =
    let a = only_answer (stands_at h part.reading (fits_before piece part.added fits)) part.may part.speaks in
    record {
      kept = part.kept;
      log_is = added_is part.added a.log_is a.side_is (ap (λ (bytes : List ℕ). take part.kept bytes) a.bytes_are);
    }

-- the session is done behind the answer; or its link failed in place of it
data EndsAs (piece : List ℕ) (log : List Entry) (ending : Ending) : Type 0 where
  done : log ≡ In Client piece ∷ Out Client answer_bytes ∷ [] → ending ≡ Done → EndsAs piece log ending
  lost : log ≡ In Client piece ∷ Failed Client ∷ [] → EndsAs piece log ending

-- nothing follows then
no_third : {piece : List ℕ} {log : List Entry} {ending : Ending} (last : Entry) → EndsAs piece log ending
    → Fits piece (log ++ last ∷ []) → ⊥
no_third {piece} last (EndsAs.done is so) fits =
    subst (λ (entries : List Entry). Fits piece (entries ++ last ∷ [])) is fits
no_third {piece} last (EndsAs.lost is) fits =
    subst (λ (entries : List Entry). Fits piece (entries ++ last ∷ [])) is fits

no_first : {piece : List ℕ} {log : List Entry} {last : Entry} → log ≡ [] → Fits piece (log ++ last ∷ [])
    → last ≡ In Client piece
no_first {piece} {last = last} is fits = subst (λ (entries : List Entry). Fits piece (entries ++ last ∷ [])) is fits

halts_as : {piece : List ℕ} {n turns : ℕ} {log : List Entry} {messages : List Message} {s : SessionState}
    {ending : Ending} → SaysLeave piece n → Fits piece log → Halts limits log messages turns s ending
    → EndsAs piece log ending
halts_as h fits (Halts.here r ends) =
    let so = ends_so h (stands_at h r fits) ends in EndsAs.done so.0 so.1
halts_as {piece} h fits (Halts.shut {log} r waits) =
    let none : Shut Client ≡ In Client piece =
    no_first (all_read h (stands_at h r (fits_less piece log (Shut Client) fits)) waits.turn.read) fits in absurd cc
halts_as {piece} h fits (Halts.lost {log} side r turn) =
    let none : Failed side ≡ In Client piece =
    no_first (all_read h (stands_at h r (fits_less piece log (Failed side) fits)) turn.read) fits in absurd cc
halts_as {piece} h fits (Halts.unsent {log} {side = side} r on may speaks) =
    let a = only_answer (stands_at h r (fits_less piece log (Failed side) fits)) may speaks in
    EndsAs.lost (ap (λ (entries : List Entry). entries ++ Failed side ∷ []) a.log_is
    ∙ ap (λ (from : Side). In Client piece ∷ Failed from ∷ []) a.side_is)
halts_as {piece} h fits (Halts.broken {log} {side = side} part) =
    let is = part_is h (fits_less piece log (Failed side) fits) part in
    absurd (subst (λ (entries : List Entry). Fits piece (entries ++ Failed side ∷ [])) is.log_is fits)

ended_as : {piece : List ℕ} {n turns : ℕ} {log : List Entry} {messages : List Message} {e : EndedState}
    → SaysLeave piece n → Fits piece log → ReadOut limits log messages turns e → EndsAs piece log e.ending
ended_as h fits (ReadOut.halts halts) = halts_as h fits halts
ended_as {piece} h fits (ReadOut.says {log} {e = e} {word} r is) =
    let last : Entry = Out (word_side word) (word_bytes e.streams word) in
    absurd (no_third last (ended_as h (fits_less piece log last fits) r) fits)
ended_as {piece} h fits (ReadOut.fails {log} {word = word} r is) =
    let last : Entry = Failed (word_side word) in
    absurd (no_third last (ended_as h (fits_less piece log last fits) r) fits)
ended_as {piece} h fits (ReadOut.breaks {log} {kept = kept} {e} {word} r is some proper) =
    let last : Entry = Out (word_side word) (take kept (word_bytes e.streams word)) in
    let less = fits_less piece (log ++ last ∷ []) (Failed (word_side word)) fits in
    absurd (no_third last (ended_as h (fits_less piece log last less) r) less)

no_word_third : {piece : List ℕ} {n : ℕ} {log : List Entry} {e : EndedState} → SaysLeave piece n → Fits piece log
    → HasWordPart limits log e → ⊥
no_word_third {piece} {e = e} h fits part =
    let last : Entry = Out (word_side part.word) (take part.kept (word_bytes e.streams part.word)) in
    let so = subst (λ (entries : List Entry). Fits piece entries) part.log_is fits in
    no_third last (ended_as h (fits_less piece part.before last so) part.ended) so

-- the second entry of a front: the answer or a part of it, or the failure of its link
data IsSecond (entry : Entry) : Type 0 where
  by_answer : (kept : ℕ) → entry ≡ Out Client (take kept answer_bytes) → IsSecond entry
  by_failure : entry ≡ Failed Client → IsSecond entry

second_of : {piece : List ℕ} {entry other : Entry} → In Client piece ∷ entry ∷ [] ≡ In Client piece ∷ other ∷ []
    → entry ≡ other
second_of is = cc

stage_second : {piece : List ℕ} {n turns : ℕ} {log : List Entry} {s : SessionState} {entry : Entry}
    → Stage piece n log turns s → log ≡ In Client piece ∷ entry ∷ [] → entry ≡ Out Client answer_bytes
stage_second Stage.at_first is = absurd cc
stage_second Stage.came_now is = absurd (not_one is)
stage_second Stage.heard_now is = absurd (not_one is)
stage_second Stage.begun_now is = absurd (not_one is)
stage_second Stage.chosen_now is = absurd (not_one is)
stage_second Stage.answered_now is = sym (second_of is)

whole_kept : (bytes : List ℕ) → take (length bytes) bytes ≡ bytes
whole_kept bytes = take_all (length bytes) bytes (omega arith)

all_sent : Out Client answer_bytes ≡ Out Client (take (length answer_bytes) answer_bytes)
all_sent = ap (λ (bytes : List ℕ). Out Client bytes) (sym (whole_kept answer_bytes))

ends_second : {piece : List ℕ} {entry : Entry} {ending : Ending} → EndsAs piece (In Client piece ∷ entry ∷ []) ending
    → IsSecond entry
ends_second (EndsAs.done is so) = IsSecond.by_answer (length answer_bytes) (second_of is ∙ all_sent)
ends_second (EndsAs.lost is) = IsSecond.by_failure (second_of is)

second_is : {piece : List ℕ} {n : ℕ} {entry : Entry} → SaysLeave piece n
    → IsFront limits (In Client piece ∷ entry ∷ []) → IsSecond entry
second_is h (IsFront.goes_on r) =
    IsSecond.by_answer (length answer_bytes) (stage_second (stands_at h r refl) refl ∙ all_sent)
second_is h (IsFront.with_part part) =
    let is = part_is h refl part in IsSecond.by_answer is.kept (second_of is.log_is)
second_is h (IsFront.ended r) = ends_second (ended_as h refl r)
second_is h (IsFront.with_word_part part) = absurd (no_word_third h refl part)

-- What is wrong with others -------------------------------------------------------------------------------------------

-- the piece alone is no end
no_end : {piece : List ℕ} {n turns : ℕ} {messages : List Message} {e : EndedState} → SaysLeave piece n
    → ReadOut limits (In Client piece ∷ []) messages turns e → ⊥
no_end h r = of_ending (ended_as h refl r)
  where
    of_ending : {piece : List ℕ} {ending : Ending} → EndsAs piece (In Client piece ∷ []) ending → ⊥
    of_ending (EndsAs.done is so) = not_one is
    of_ending (EndsAs.lost is) = not_one is

no_part : {piece : List ℕ} {n turns : ℕ} {messages : List Message} {s : SessionState} {side : Side}
    → SaysLeave piece n → HasPart limits (In Client piece ∷ []) messages turns s side → ⊥
no_part h part = not_one (part_is h refl part).log_is

no_word_part : {piece : List ℕ} {e : EndedState} → HasWordPart limits (In Client piece ∷ []) e → ⊥
no_word_part {e = e} part =
    not_joined part.before (word_side part.word) (take part.kept (word_bytes e.streams part.word)) (sym part.log_is)

-- how a log ends whose status is a number
record EndsWith (log : List Entry) (status : ℕ) : Type 0 where
  messages : List Message
  turns : ℕ
  e : EndedState
  ended : ReadOut limits log messages turns e
  status_is : status_of_ending e.ending ≡ status

same_status : {one other : ℕ} → Some one ≡ Some other → one ≡ other
same_status is = cc

legal_as : {log : List Entry} {status : Option ℕ} {number : ℕ} → IsLegal limits log status → status ≡ Some number
    → (number ≡ 70) ⊎ EndsWith log number
legal_as (IsLegal.so_far front) is = absurd cc
legal_as (IsLegal.no_memory front) is = inl (sym (same_status is))
legal_as (IsLegal.to_the_end ended none) is =
    inr (record { messages = _; turns = _; e = _; ended = ended; status_is = same_status is })

-- without its answer the log doesn't end with that status
unanswered_is_broken : {piece : List ℕ} {n : ℕ} → SaysLeave piece n
    → IsBroken limits (In Client piece ∷ []) (Some 0) Clause.ending 1
unanswered_is_broken {piece} h = IsBroken.at_end (IsFront.goes_on reads_came) (λ legal. of_end (legal_as legal refl))
  where
    of_end : (◌≡◌ {A = ℕ} 0 70) ⊎ EndsWith (In Client piece ∷ []) 0 → ⊥
    of_end (inl memory) = omega (arith, memory)
    of_end (inr ends) = no_end h ends.ended

-- nor does it end with another, once it is done
other_status_is_broken : {piece : List ℕ} {n : ℕ} → SaysLeave piece n
    → IsBroken limits (In Client piece ∷ Out Client answer_bytes ∷ []) (Some 1) Clause.ending 2
other_status_is_broken {piece} h =
    IsBroken.at_end (IsFront.goes_on (reads_answered h)) (λ legal. of_end (legal_as legal refl))
  where
    of_ending : {e : Ending} → EndsAs piece (In Client piece ∷ Out Client answer_bytes ∷ []) e
        → status_of_ending e ≡ 1 → ⊥
    of_ending (EndsAs.done is so) status =
        let no : 0 ≡ 1 = sym (ap status_of_ending so) ∙ status in omega (arith, no)
    of_ending (EndsAs.lost is) status = let no : Out Client answer_bytes ≡ Failed Client = second_of is in cc

    of_end : (◌≡◌ {A = ℕ} 1 70) ⊎ EndsWith (In Client piece ∷ Out Client answer_bytes ∷ []) 1 → ⊥
    of_end (inl memory) = omega (arith, memory)
    of_end (inr ends) = of_ending (ended_as h refl ends.ended) ends.status_is

-- Where readings stop -------------------------------------------------------------------------------------------------

-- a reading that read all there is stands where the answer is due
settles : {piece : List ℕ} {n turns : ℕ} {log : List Entry} {s : SessionState} → SaysLeave piece n
    → Stage piece n log turns s → IsSettled limits turns s
    → (log ≡ []) ⊎ ((log ≡ In Client piece ∷ []) × (s ≡ has_chosen piece n))
settles h st (IsSettled.waits turn) = inl (all_read h st turn.read)
settles {piece} {n} h st (IsSettled.says on says) = of_stage st says
  where
    of_stage : {log : List Entry} {turns : ℕ} {s : SessionState} {message : Message} → Stage piece n log turns s
        → said (due_asked s.machine).act ≡ Some message
        → (log ≡ []) ⊎ ((log ≡ In Client piece ∷ []) × (s ≡ has_chosen piece n))
    of_stage Stage.at_first says = inl refl
    of_stage Stage.came_now says = absurd (none_said (ap said fresh_waits) says)
    of_stage Stage.heard_now says = absurd (none_said (ap said heard_goes) says)
    of_stage Stage.begun_now says = absurd (none_said (ap said begun_goes) says)
    of_stage Stage.chosen_now says = inr (refl, refl)
    of_stage Stage.answered_now says = absurd (none_said (ap said answered_over) says)

stands_so : {piece : List ℕ} {n turns : ℕ} {messages : List Message} {s : SessionState} → SaysLeave piece n
    → Reading limits (In Client piece ∷ []) messages turns s → IsSettled limits turns s → s ≡ has_chosen piece n
stands_so {piece} {n} {s = s} h r settled = of_place (settles h (stands_at h r refl) settled)
  where
    of_place : (In Client piece ∷ [] ≡ [])
        ⊎ ((In Client piece ∷ [] ≡ In Client piece ∷ []) × (s ≡ has_chosen piece n)) → s ≡ has_chosen piece n
    of_place (inl none) = absurd cc
    of_place (inr so) = so.1

-- it stops in the next entry at its front
record StopsSo (piece : List ℕ) (n : ℕ) (entry : Entry) (s : SessionState) (side : Side) (rest : List ℕ)
    : Type 0 where
  entry_is : entry ≡ Out side rest
  stands : s ≡ has_chosen piece n

no_begun : {piece : List ℕ} {n turns : ℕ} {messages : List Message} {s : SessionState} {side : Side} {begun : List ℕ}
    → SaysLeave piece n → Reading limits (In Client piece ∷ Out side begun ∷ []) messages turns s
    → IsSettled limits turns s → ⊥
no_begun {piece} {n} {s = s} {side} {begun} h r settled = of_place (settles h (stands_at h r refl) settled)
  where
    of_place : (In Client piece ∷ Out side begun ∷ [] ≡ [])
        ⊎ ((In Client piece ∷ Out side begun ∷ [] ≡ In Client piece ∷ []) × (s ≡ has_chosen piece n)) → ⊥
    of_place (inl none) = cc
    of_place (inr so) = not_one (sym so.0)

stops_so : {piece : List ℕ} {n : ℕ} {entry : Entry} {s : SessionState} {side : Side} {rest : List ℕ}
    → SaysLeave piece n → StopsIn limits (In Client piece ∷ []) entry s side rest → StopsSo piece n entry s side rest
stops_so h (StopsIn.at_front r settled none) = record { entry_is = refl; stands = stands_so h r settled }
stops_so h (StopsIn.inside begun r settled none some) = absurd (no_begun h r settled)

-- no message but the answer may go there
none_goes : (piece rest : List ℕ) (n : ℕ) {side : Side}
    → ((more : List ℕ) → side ≡ Client → rest ≡ answer_bytes ++ more → ⊥) → NoneGoes (has_chosen piece n) side rest
none_goes piece rest n other message next bytes more streams may speaks is =
    let a = only_answer {piece = piece} {n = n} Stage.chosen_now may speaks in
    other more a.side_is (is ∙ ap (λ (sent : List ℕ). sent ++ more) a.bytes_are)

settled_there : (piece : List ℕ) (n : ℕ) → IsSettled limits 1 (has_chosen piece n)
settled_there piece n = IsSettled.says (record { no_flood = none_waits.1.0 }) (ap said chosen_tells)

same_out : {side other : Side} {bytes others : List ℕ} → Out side bytes ≡ Out other others → side ≡ other
same_out is = cc

same_sent : {side other : Side} {bytes others : List ℕ} → Out side bytes ≡ Out other others → bytes ≡ others
same_sent is = cc

-- bytes to a client begin with those of a header
abbrev head_of : List ℕ → ℕ
head_of [] = 0
head_of (byte ∷ bytes) = byte

-- where a log that begins with the piece may break at the next entry
breaks_at : {piece : List ℕ} {n : ℕ} {entry : Entry} {clause : Clause} → SaysLeave piece n
    → ¬ (IsSecond entry) → Blames limits (In Client piece ∷ []) entry clause
    → ((other : Clause) → Blames limits (In Client piece ∷ []) entry other → number_of clause ≤ number_of other)
    → BreaksAt limits (In Client piece ∷ []) entry clause
breaks_at h second blames first = record {
  front = IsFront.goes_on reads_came;
  none = λ front. second (second_is h front);
  blames = blames;
  first = first;
}

-- Spelling ------------------------------------------------------------------------------------------------------------

-- the client is sent a byte that no message begins with
abbrev zero_byte : Entry
zero_byte = Out Client (0 ∷ [])

no_zero : (bytes more : List ℕ) → 0 ∷ [] ≡ 67 ∷ (bytes ++ more) → ⊥
no_zero bytes more is = let no : 0 ≡ 67 = ap head_of is in omega (arith, no)

told_first : {s : SessionState} {message : Message} {side : Side} {bytes : List ℕ} {streams : StreamState}
    → Speaks s message side bytes streams → side ≡ Client → (others : List ℕ) × (bytes ≡ 67 ∷ others)
told_first Speaks.tells is = (_, refl)
told_first Speaks.greets is = absurd cc
told_first (Speaks.sends id serves) is = absurd cc

zero_unspelled : {s : SessionState} → ¬ (IsSpelled s Client (0 ∷ []))
zero_unspelled (IsSpelled.whole more speaks is) =
    let first = told_first speaks refl in
    no_zero first.0 more (is ∙ ap (λ (bytes : List ℕ). bytes ++ more) first.1)
zero_unspelled (IsSpelled.part more speaks is) =
    let first = told_first speaks refl in
    let no : 67 ≡ 0 = ap head_of (sym first.1 ∙ is) in omega (arith, no)

no_bytes : {byte : ℕ} {bytes : List ℕ} → byte ∷ bytes ≡ [] → ⊥
no_bytes is = cc

zero_not_second : ¬ (IsSecond zero_byte)
zero_not_second (IsSecond.by_answer zero is) = no_bytes (same_sent is)
zero_not_second (IsSecond.by_answer (suc kept) is) =
    let no : 0 ≡ 67 = ap head_of (same_sent is) in omega (arith, no)
zero_not_second (IsSecond.by_failure is) = cc

least_of_all : (other : Clause) → 1 ≤ number_of other
least_of_all spelling = omega arith
least_of_all answering = omega arith
least_of_all acting = omega arith
least_of_all Clause.outcome = omega arith
least_of_all Clause.ending = omega arith

zero_breaks_spelling : {piece : List ℕ} {n : ℕ} → SaysLeave piece n
    → IsBroken limits (In Client piece ∷ zero_byte ∷ []) (Some 0) spelling 1
zero_breaks_spelling {piece} {n} h =
    IsBroken.at_entry {before = In Client piece ∷ []} {entry = zero_byte} [] refl
    (breaks_at h zero_not_second (Blames.not_spelled (StopsIn.at_front (reads_chosen h) (settled_there piece n)
    (none_goes piece (0 ∷ []) n (λ more side is. let no : 0 ≡ 67 = ap head_of is in omega (arith, no)))) zero_unspelled)
    (λ other blames. least_of_all other))

-- Answering -----------------------------------------------------------------------------------------------------------

-- nothing is pending, the request has no response, and the bridge waits in vain
at_rest : (is_silent m_chosen ≡ true)
    × ((awaits_greeting m_chosen.state ≡ false) × (without_response m_chosen ≡ leave ∷ []))
unfolding due_asked load_of wanted newly_lacked
at_rest = (refl, (refl, refl))

quiet_not_second : ¬ (IsSecond Quiet)
quiet_not_second (IsSecond.by_answer kept is) = cc
quiet_not_second (IsSecond.by_failure is) = cc

no_send : {side : Side} {rest : List ℕ} → Quiet ≡ Out side rest → ⊥
no_send is = cc

quiet_spelled : {piece : List ℕ} {n : ℕ} {clause : Clause} → SaysLeave piece n
    → Blames limits (In Client piece ∷ []) Quiet clause → clause ≡ spelling → ⊥
quiet_spelled h (Blames.not_spelled stops not) is = no_send (stops_so h stops).entry_is
quiet_spelled h (Blames.not_spelled_behind sends not) is = no_send sends.sends
quiet_spelled h (Blames.cut_short part not) is = no_part h part
quiet_spelled h (Blames.word_cut_short part not) is = no_word_part part
quiet_spelled h (Blames.not_first response stops responds not) is = cc
quiet_spelled h (Blames.not_first_behind response sends responds not) is = cc
quiet_spelled h (Blames.unanswered_here stops wait silent greeted some) is = cc
quiet_spelled h (Blames.not_allowed stops spelled not) is = cc
quiet_spelled h (Blames.missing stops says) is = cc
quiet_spelled h (Blames.idle_hand stops wait all not) is = cc
quiet_spelled h (Blames.other_outcome stops responds due) is = cc
quiet_spelled h (Blames.other_outcome_behind sends responds left same not) is = cc
quiet_spelled h (Blames.behind_the_end r) is = cc

second_least : (other : Clause) → ¬ (other ≡ spelling) → 2 ≤ number_of other
second_least spelling not = absurd (not refl)
second_least answering not = omega arith
second_least acting not = omega arith
second_least Clause.outcome not = omega arith
second_least Clause.ending not = omega arith

a_wait_breaks_answering : {piece : List ℕ} {n : ℕ} → SaysLeave piece n
    → IsBroken limits (In Client piece ∷ Quiet ∷ []) None answering 1
a_wait_breaks_answering {piece} {n} h =
    IsBroken.at_entry {before = In Client piece ∷ []} {entry = Quiet} [] refl (breaks_at h quiet_not_second
    (Blames.unanswered_here {s = has_chosen piece n}
    (record { messages = _; turns = _; reading = reads_chosen h; settled = settled_there piece n; no_send = refl })
    refl at_rest.0 at_rest.1.0 at_rest.1.1)
    (λ other blames. second_least other (λ is. quiet_spelled h blames is)))

-- Acting --------------------------------------------------------------------------------------------------------------

-- the target is greeted where nothing is due for it
abbrev greeting : Entry
greeting = Out Target handshake

greeting_not_second : ¬ (IsSecond greeting)
greeting_not_second (IsSecond.by_answer kept is) = let no : Target ≡ Client = same_out is in cc
greeting_not_second (IsSecond.by_failure is) = cc

greeting_no_response : (streams : StreamState) (response : Response) → ¬ (Responds streams handshake response)
greeting_no_response streams response (more, is) = let no : 74 ≡ 67 = ap head_of is in omega (arith, no)

greeting_spelled : {s : SessionState} → IsSpelled s Target handshake
greeting_spelled = IsSpelled.whole [] Speaks.greets (sym (append-nil handshake))

spelled_so : {piece : List ℕ} {n : ℕ} {s : SessionState} {side : Side} {rest : List ℕ} {to : Side} {bytes : List ℕ}
    → SaysLeave piece n → StopsIn limits (In Client piece ∷ []) (Out to bytes) s side rest
    → IsSpelled (has_chosen piece n) to bytes → IsSpelled s side rest
spelled_so {piece} {n} {s} {side} {rest} {to} {bytes} h stops spelled =
    let so = stops_so h stops in
    subst (λ (place : SessionState). IsSpelled place side rest) (sym so.stands)
    (subst (λ (sent : List ℕ). IsSpelled (has_chosen piece n) side sent) (same_sent so.entry_is)
    (subst (λ (to_side : Side). IsSpelled (has_chosen piece n) to_side bytes) (same_out so.entry_is) spelled))

-- no spelling is wrong where what is sent is a message
spelling_good : {piece : List ℕ} {n : ℕ} {side : Side} {bytes : List ℕ} {clause : Clause} → SaysLeave piece n
    → IsSpelled (has_chosen piece n) side bytes
    → Blames limits (In Client piece ∷ []) (Out side bytes) clause → clause ≡ spelling → ⊥
spelling_good h spelled (Blames.not_spelled stops not) is = not (spelled_so h stops spelled)
spelling_good h spelled (Blames.not_spelled_behind sends not) is = no_end h sends.ended
spelling_good h spelled (Blames.cut_short part not) is = no_part h part
spelling_good h spelled (Blames.word_cut_short part not) is = no_word_part part
spelling_good h spelled (Blames.not_first response stops responds not) is = cc
spelling_good h spelled (Blames.not_first_behind response sends responds not) is = cc
spelling_good h spelled (Blames.unanswered_here stops wait silent greeted some) is = cc
spelling_good h spelled (Blames.not_allowed stops spelled_as not) is = cc
spelling_good h spelled (Blames.missing stops says) is = cc
spelling_good h spelled (Blames.idle_hand stops wait all not) is = cc
spelling_good h spelled (Blames.other_outcome stops responds due) is = cc
spelling_good h spelled (Blames.other_outcome_behind sends responds left same not) is = cc
spelling_good h spelled (Blames.behind_the_end r) is = cc

is_sent : {b : Bool} → true ≡ b → b ≡ false → ⊥
is_sent sent held = cc

-- no request is passed over where no response goes out, or one to the first request
answering_good : {piece : List ℕ} {n : ℕ} {side : Side} {bytes : List ℕ} {clause : Clause} → SaysLeave piece n
    → ((s : SessionState) (rest : List ℕ) (response : Response)
    → StopsIn limits (In Client piece ∷ []) (Out side bytes) s Client rest → Responds s.streams rest response
    → ((read : Response) → Responds s.streams rest read → ¬ (IsToFirst (without_response s.machine) read)) → ⊥)
    → Blames limits (In Client piece ∷ []) (Out side bytes) clause → clause ≡ answering → ⊥
answering_good h good (Blames.not_first {s} {rest} response stops responds not) is =
    good s rest response stops responds not
answering_good h good (Blames.not_first_behind response sends responds not) is = no_end h sends.ended
answering_good h good (Blames.unanswered_here stops wait silent greeted some) is = is_sent refl stops.no_send
answering_good h good (Blames.not_spelled stops not) is = cc
answering_good h good (Blames.not_spelled_behind sends not) is = cc
answering_good h good (Blames.cut_short part not) is = cc
answering_good h good (Blames.word_cut_short part not) is = cc
answering_good h good (Blames.not_allowed stops spelled_as not) is = cc
answering_good h good (Blames.missing stops says) is = cc
answering_good h good (Blames.idle_hand stops wait all not) is = cc
answering_good h good (Blames.other_outcome stops responds due) is = cc
answering_good h good (Blames.other_outcome_behind sends responds left same not) is = cc
answering_good h good (Blames.behind_the_end r) is = cc

third_least : (other : Clause) → ¬ (other ≡ spelling) → ¬ (other ≡ answering) → 3 ≤ number_of other
third_least spelling not never = absurd (not refl)
third_least answering not never = absurd (never refl)
third_least acting not never = omega arith
third_least Clause.outcome not never = omega arith
third_least Clause.ending not never = omega arith

a_greeting_breaks_acting : {piece : List ℕ} {n : ℕ} → SaysLeave piece n
    → IsBroken limits (In Client piece ∷ greeting ∷ []) (Some 0) acting 1
a_greeting_breaks_acting {piece} {n} h =
    IsBroken.at_entry {before = In Client piece ∷ []} {entry = greeting} [] refl
    (breaks_at h greeting_not_second (Blames.not_allowed (StopsIn.at_front (reads_chosen h) (settled_there piece n)
    (none_goes piece handshake n (λ more side is. let no : Target ≡ Client = side in cc)))
    greeting_spelled (λ response responds for. greeting_no_response (has_chosen piece n).streams response responds))
    (λ other blames. third_least other (λ is. spelling_good h greeting_spelled blames is)
    (λ is. answering_good h (λ s rest response stops responds not.
    let no : Target ≡ Client = same_out (stops_so h stops).entry_is in cc) blames is)))

-- Outcomes ------------------------------------------------------------------------------------------------------------

-- the request fails, where it is to succeed
abbrev failure : Response
failure = record { request_seq = 1; command = leave.name; outcome = outcomes.Failure target_gone }

abbrev failing : Entry
failing = Out Client (told_bytes 0 (a_response failure))

abbrev nth : ℕ → List ℕ → ℕ
nth n [] = 0
nth zero (byte ∷ bytes) = byte
nth (suc n) (byte ∷ bytes) = nth n bytes

nth_take : (n kept : ℕ) (bytes : List ℕ) → (nth n (take kept bytes) ≡ nth n bytes) ⊎ (nth n (take kept bytes) ≡ 0)
nth_take n zero [] = inr refl
nth_take n zero (byte ∷ bytes) = inr refl
nth_take n (suc kept) [] = inr refl
nth_take zero (suc kept) (byte ∷ bytes) = inl refl
nth_take (suc n) (suc kept) (byte ∷ bytes) = nth_take n kept bytes

-- the answer's body has 80 bytes, and that of the failure some hundred more
digit_of_answer : (more : List ℕ) → (nth 16 answer_bytes ≡ 56) × (nth 16 (answer_bytes ++ more) ≡ 56)
unfolding told_text digits escape_byte
digit_of_answer more = (refl, refl)

digit_of_failure : nth 16 (told_bytes 0 (a_response failure)) ≡ 49
unfolding told_text digits escape_byte
digit_of_failure = refl

failing_not_second : ¬ (IsSecond failing)
failing_not_second (IsSecond.by_failure is) = cc
failing_not_second (IsSecond.by_answer kept is) = of_digit (nth_take 16 kept answer_bytes)
  where
    here : 49 ≡ nth 16 (take kept answer_bytes)
    here = sym digit_of_failure ∙ ap (λ (bytes : List ℕ). nth 16 bytes) (same_sent is)

    of_digit : (nth 16 (take kept answer_bytes) ≡ nth 16 answer_bytes) ⊎ (nth 16 (take kept answer_bytes) ≡ 0) → ⊥
    of_digit (inl same) = let no : 49 ≡ 56 = here ∙ same ∙ (digit_of_answer []).0 in omega (arith, no)
    of_digit (inr none) = let no : 49 ≡ 0 = here ∙ none in omega (arith, no)

failing_not_answer : (more : List ℕ) → told_bytes 0 (a_response failure) ≡ answer_bytes ++ more → ⊥
failing_not_answer more is =
    let no : 49 ≡ 56 = sym digit_of_failure ∙ ap (λ (bytes : List ℕ). nth 16 bytes) is ∙ (digit_of_answer more).1 in
    omega (arith, no)

failing_responds : (piece : List ℕ) (n : ℕ)
    → Responds (has_chosen piece n).streams (told_bytes 0 (a_response failure)) failure
failing_responds piece n = ([], sym (append-nil _))

failing_for_due : (piece : List ℕ) (n : ℕ) → IsForDue (has_chosen piece n) failure
failing_for_due piece n = record { due = _; is_due = chosen_tells; same = record { seq = refl; command = refl } }

failing_first : IsToFirst (without_response m_chosen) failure
unfolding due_asked load_of wanted newly_lacked
failing_first = record { seq = refl; command = refl }

failing_spelled : (piece : List ℕ) (n : ℕ) → IsSpelled (has_chosen piece n) Client (told_bytes 0 (a_response failure))
failing_spelled piece n = IsSpelled.whole [] Speaks.tells (sym (append-nil _))

-- what is said of where the answer is due holds where a reading stops
there : {piece bytes rest : List ℕ} {n : ℕ} {s : SessionState} {side : Side}
    (holds : SessionState → List ℕ → Type 0) → SaysLeave piece n
    → StopsIn limits (In Client piece ∷ []) (Out Client bytes) s side rest → holds (has_chosen piece n) bytes
    → holds s rest
there {piece} {bytes} {rest} {n} {s} holds h stops is =
    let so = stops_so h stops in
    subst (λ (place : SessionState). holds place rest) (sym so.stands)
    (subst (λ (sent : List ℕ). holds (has_chosen piece n) sent) (same_sent so.entry_is) is)

acting_good : {piece : List ℕ} {n : ℕ} {clause : Clause} → SaysLeave piece n
    → Blames limits (In Client piece ∷ []) failing clause → clause ≡ acting → ⊥
acting_good {piece} {n} h (Blames.not_allowed stops spelled not) is =
    not failure
    (there (λ (place : SessionState) (bytes : List ℕ). Responds place.streams bytes failure) h stops
    (failing_responds piece n))
    (there (λ (place : SessionState) (bytes : List ℕ). IsForDue place failure) h stops (failing_for_due piece n))
acting_good h (Blames.missing stops says) is = is_sent refl stops.no_send
acting_good h (Blames.idle_hand stops wait all not) is = is_sent refl stops.no_send
acting_good h (Blames.not_spelled stops not) is = cc
acting_good h (Blames.not_spelled_behind sends not) is = cc
acting_good h (Blames.cut_short part not) is = cc
acting_good h (Blames.word_cut_short part not) is = cc
acting_good h (Blames.not_first response stops responds not) is = cc
acting_good h (Blames.not_first_behind response sends responds not) is = cc
acting_good h (Blames.unanswered_here stops wait silent greeted some) is = cc
acting_good h (Blames.other_outcome stops responds due) is = cc
acting_good h (Blames.other_outcome_behind sends responds left same not) is = cc
acting_good h (Blames.behind_the_end r) is = cc

eighth_least : (other : Clause) → ¬ (other ≡ spelling) → ¬ (other ≡ answering) → ¬ (other ≡ acting)
    → 8 ≤ number_of other
eighth_least spelling not never none = absurd (not refl)
eighth_least answering not never none = absurd (never refl)
eighth_least acting not never none = absurd (none refl)
eighth_least Clause.outcome not never none = omega arith
eighth_least Clause.ending not never none = omega arith

a_failure_breaks_outcome : {piece : List ℕ} {n : ℕ} → SaysLeave piece n
    → IsBroken limits (In Client piece ∷ failing ∷ []) (Some 0) Clause.outcome 1
a_failure_breaks_outcome {piece} {n} h =
    IsBroken.at_entry {before = In Client piece ∷ []} {entry = failing} [] refl
    (breaks_at h failing_not_second (Blames.other_outcome (StopsIn.at_front (reads_chosen h) (settled_there piece n)
    (none_goes piece (told_bytes 0 (a_response failure)) n (λ more side is. failing_not_answer more is)))
    (failing_responds piece n) (failing_for_due piece n))
    (λ other blames. eighth_least other (λ is. spelling_good h (failing_spelled piece n) blames is)
    (λ is. answering_good h (λ s rest response stops responds not. not failure
    (there (λ (place : SessionState) (bytes : List ℕ). Responds place.streams bytes failure) h stops
    (failing_responds piece n))
    (there (λ (place : SessionState) (bytes : List ℕ). IsToFirst (without_response place.machine) failure) h stops
    failing_first)) blames is)
    (λ is. acting_good h blames is)))
