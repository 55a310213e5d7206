-- The turns of a session are the entries of its log that were waited for, and its last words are its ending's.
use Rattle.std.proofs.Common.{◌≡◌, ℕ, ◌+◌, ◌≤◌, List, [], ◌∷◌, ◌++◌, append_assoc, refl, sym, ap, ◌∙◌}
use Rattle.std.proofs.Common.{◌<◌, length, take, arith}
use Rattle.machine_model.specs.Runs.{Message}
use Rattle.session_model.specs.Names.{Ending, Entry, Limits, Out}
use Rattle.session_model.specs.Causes.{Cause}
use Rattle.session_model.specs.LastWords.{AreSpoken, LastWord, last_words, word_bytes, word_side}
use Rattle.session_model.specs.Session.{Ended, EndedState, Going, Comes}
use Rattle.session_model.specs.States.{SessionState, StreamState}
use Rattle.session_laws.specs.Turns.{AreTurns, AreTurnsThen, SaysLast}
use Rattle.session_laws.proofs.Steps.{waited, waited-append, waited-broken}
use Rattle.wire_core.specs.Outside.{broken_send}

-- what comes is one thing that was waited for
one_waited : {streams next : StreamState} {entry : Entry} → Comes streams entry next → waited (entry ∷ []) ≡ 1
one_waited Comes.piece = refl
one_waited Comes.packets = refl
one_waited Comes.ends = refl
one_waited Comes.passes_quiet = refl

are_waited : {limits : Limits} {log : List Entry} {messages : List Message} {turns : ℕ} {s : SessionState}
    → Going limits log messages turns s → waited log ≡ turns
are_waited Going.begins = refl
are_waited (Going.goes g on is) = are_waited g
are_waited (Going.speaks {log} {side} {bytes} g on allows speaks) =
    omega (arith, are_waited g, waited-append log (Out side bytes ∷ []))
are_waited (Going.hears g reads allows brings) = are_waited g
are_waited (Going.ignores g reads whole reading) = are_waited g
are_waited (Going.happens {log} {entry} g listens comes) =
    omega (arith, are_waited g, one_waited comes, waited-append log (entry ∷ []))

within : {limits : Limits} {log : List Entry} {messages : List Message} {turns : ℕ} {s : SessionState}
    → Going limits log messages turns s → turns ≤ limits.turns
within Going.begins = omega arith
within (Going.goes g on is) = within g
within (Going.speaks g on allows speaks) = within g
within (Going.hears g reads allows brings) = within g
within (Going.ignores g reads whole reading) = within g
within (Going.happens g listens comes) = let more = listens.more_turns in omega arith

pub are_turns : {limits : Limits} {log : List Entry} {messages : List Message} {turns : ℕ} {s : SessionState}
    → Going limits log messages turns s → AreTurns limits log turns
are_turns g = record { are_waited = are_waited g; within = within g }

-- Once it has ended ---------------------------------------------------------------------------------------------------

-- what a cause leaves in the log: the turn that it takes, or a send that failed
record IsOne (limits : Limits) (turns : ℕ) (entries : List Entry) (taken : ℕ) : Type 0 where
  pub broken : ℕ
  pub are_waited : waited entries ≡ taken + broken
  pub few : broken ≤ 1
  pub within : turns ≤ limits.turns → turns + taken ≤ limits.turns

by_cause : {limits : Limits} {turns : ℕ} {s : SessionState} {ending : Ending} {entries : List Entry} {taken : ℕ}
    → Cause limits turns s ending entries taken → IsOne limits turns entries taken
by_cause (Cause.shut listens) = let more = listens.more_turns in
    record { broken = 0; are_waited = refl; few = omega arith; within = λ few. omega arith }
by_cause (Cause.lost side listens) = let more = listens.more_turns in
    record { broken = 0; are_waited = refl; few = omega arith; within = λ few. omega arith }
by_cause (Cause.broken {side} {bytes} {kept} on allows speaks proper) = record {
  broken = 1;
  are_waited = waited-broken side (take kept bytes);
  few = omega arith;
  within = λ few. omega arith;
}
by_cause _ = record { broken = 0; are_waited = refl; few = omega arith; within = λ few. omega arith }

-- how many sends of last words may fail yet
abbrev may_fail : List LastWord → ℕ
may_fail [] = 0
may_fail (word ∷ left) = 1

by_words : {begin : StreamState} {words said left : List LastWord} {entries : List Entry} {now : StreamState}
    → AreSpoken begin words said left entries now → waited entries + may_fail left ≤ 1
by_words {words} AreSpoken.none = omega (arith, at_most_one words)
  where
    at_most_one : (words : List LastWord) → may_fail words ≤ 1
    at_most_one [] = omega arith
    at_most_one (word ∷ left) = omega arith
by_words (AreSpoken.one_more {left} {entries} {now} {word} h) =
    let before = by_words h in
    let more = waited-append entries (Out (word_side word) (word_bytes now word) ∷ []) in
    by_left left (omega arith)
  where
    by_left : {n : ℕ} (left : List LastWord) → n ≡ 0 → n + may_fail left ≤ 1
    by_left [] is = omega arith
    by_left (word ∷ left) is = omega arith
by_words (AreSpoken.cut_short {entries} {now} {word} {kept} h proper) =
    let cut = take kept (word_bytes now word) in
    let more = waited-append entries (broken_send (word_side word) cut) in
    omega (arith, by_words h, more, waited-broken (word_side word) cut)

pub are_turns_then : {limits : Limits} {log : List Entry} {messages : List Message} {turns : ℕ} {e : EndedState}
    → Ended limits log messages turns e → AreTurnsThen limits log turns
are_turns_then {log} h =
    let c = by_cause h.cause in
    let before = are_turns h.going in
    let words = by_words h.words in
    let all = ap waited h.log_is in
    let here = c.are_waited in
    let few = c.few in
    let joined = waited-append (h.before ++ h.by_cause) h.by_words in
    let first = waited-append h.before h.by_cause in
    let was = before.are_waited in
    let turns_are = h.turns_are in
    let in_turns = c.within before.within in
    record {
      broken = c.broken + waited h.by_words;
      are_waited = omega arith;
      few_broken = omega arith;
      within = omega arith;
    }

-- Last words ----------------------------------------------------------------------------------------------------------

-- all words, up to the first that can't be sent
pub data Said (words said left : List LastWord) (entries : List Entry) (now : StreamState) : Type 0 where
  whole : said ++ left ≡ words → Said words said left entries now
  broken : {kept : ℕ} (before : List Entry) (word : LastWord) (unsaid : List LastWord) → said ++ word ∷ unsaid ≡ words
      → left ≡ [] → kept < length (word_bytes now word)
      → entries ≡ before ++ broken_send (word_side word) (take kept (word_bytes now word))
      → Said words said left entries now

said_more : {words said left : List LastWord} {entries more : List Entry} {now next : StreamState} {word : LastWord}
    → Said words said (word ∷ left) entries now → Said words (said ++ word ∷ []) left more next
said_more {said} {left} {word} (Said.whole all) = Said.whole (append_assoc said (word ∷ []) left ∙ all)
said_more (Said.broken before word unsaid all none proper is) = cc

said_cut : {words said left : List LastWord} {entries : List Entry} {now : StreamState} {word : LastWord} {kept : ℕ}
    → kept < length (word_bytes now word) → Said words said (word ∷ left) entries now
    → Said words said [] (entries ++ broken_send (word_side word) (take kept (word_bytes now word))) now
said_cut {left} {entries} {word} proper (Said.whole all) = Said.broken entries word left all refl proper refl
said_cut proper (Said.broken before word unsaid all none less is) = cc

pub are_said : {begin : StreamState} {words said left : List LastWord} {entries : List Entry} {now : StreamState}
    → AreSpoken begin words said left entries now → Said words said left entries now
are_said AreSpoken.none = Said.whole refl
are_said (AreSpoken.one_more {said} {left} {word} h) = said_more (are_said h)
are_said (AreSpoken.cut_short h proper) = said_cut proper (are_said h)

pub says_last : {limits : Limits} {log : List Entry} {messages : List Message} {turns : ℕ} {e : EndedState}
    → Ended limits log messages turns e → SaysLast log e
says_last {log} {e} h = by_said (are_said h.words)
  where
    by_said : Said (last_words e.ending e.last.machine) e.said e.left h.by_words e.streams → SaysLast log e
    by_said (Said.whole all) = SaysLast.all_said all
    by_said (Said.broken before word unsaid all none proper is) =
        SaysLast.cut_short ((h.before ++ h.by_cause) ++ before) word unsaid all none proper
        (h.log_is ∙ ap (λ l. (h.before ++ h.by_cause) ++ l) is
        ∙ sym (append_assoc (h.before ++ h.by_cause) before _))
