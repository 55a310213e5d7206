-- A front of a front is one, and so no log is both legal and broken.
use Rattle.std.proofs.Common.{◌≡◌, ◌⊎◌, inl, inr, ℕ, List, [], ◌∷◌, ◌++◌, Option, take, refl, sym, ap}
use Rattle.std.proofs.Common.{subst, ◌∙◌}
use Rattle.std.proofs.Common.{append_assoc}
use Rattle.legal_logs.specs.Clauses.{Clause}
use Rattle.legal_logs.specs.Endings.{HasPart, HasWordPart, Halts, ReadOut}
use Rattle.legal_logs.specs.Fronts.{IsFront, IsLegal}
use Rattle.legal_logs.specs.Readings.{IsAdded, Reading}
use Rattle.legal_logs.specs.Verdicts.{IsBroken}
use Rattle.machine_model.specs.Runs.{Message}
use Rattle.session_model.specs.LastWords.{word_bytes, word_side}
use Rattle.session_model.specs.Names.{Client, Ending, Entry, Failed, Limits, Out, Shut, Side}
use Rattle.session_model.specs.Session.{EndedState}
use Rattle.session_model.specs.States.{SessionState}

-- Lists ---------------------------------------------------------------------------------------------------------------

-- what stands in front of a list with one more at its end is the whole, or stands in front of the others
abbrev Parting : List Entry → Entry → List Entry → Type 0
Parting xs last before = (before ≡ xs ++ last ∷ []) ⊎ ((rest : List Entry) × (xs ≡ before ++ rest))

no_more : {x b c : Entry} (bs after : List Entry) → x ∷ [] ≡ b ∷ c ∷ (bs ++ after) → ⊥
no_more bs after is = cc

one_front : {x b : Entry} {after : List Entry} → x ∷ [] ≡ b ∷ after → b ∷ [] ≡ x ∷ []
one_front is = cc

same_first : {x b : Entry} {xs bs : List Entry} → x ∷ xs ≡ b ∷ bs → x ≡ b
same_first is = cc

same_others : {x b : Entry} {xs bs : List Entry} → x ∷ xs ≡ b ∷ bs → xs ≡ bs
same_others is = cc

parted : {x b : Entry} {xs bs : List Entry} (last : Entry) → x ≡ b → Parting xs last bs
    → Parting (x ∷ xs) last (b ∷ bs)
parted {x} {bs = bs} last same (inl whole) =
    inl (ap (λ (first : Entry). first ∷ bs) (sym same) ∙ ap (λ (others : List Entry). x ∷ others) whole)
parted {x} {bs = bs} last same (inr (rest, is)) =
    inr (rest, ap (λ (others : List Entry). x ∷ others) is ∙ ap (λ (first : Entry). first ∷ (bs ++ rest)) same)

parting : (xs : List Entry) (last : Entry) (before after : List Entry) → xs ++ last ∷ [] ≡ before ++ after
    → Parting xs last before
parting xs last [] after is = inr (xs, refl)
parting [] last (b ∷ []) after is = inl (one_front is)
parting [] last (b ∷ c ∷ bs) after is = absurd (no_more bs after is)
parting (x ∷ xs) last (b ∷ bs) after is = parted last (same_first is) (parting xs last bs after (same_others is))

-- Fronts --------------------------------------------------------------------------------------------------------------

-- all that stands in front in this log is a front
abbrev AllFronts : Limits → List Entry → Type 0
AllFronts limits log = (before after : List Entry) → log ≡ before ++ after → IsFront limits before

-- what stands in front of a log with one entry more
in_longer : {limits : Limits} (log before : List Entry) (entry : Entry) → AllFronts limits log
    → IsFront limits (log ++ entry ∷ []) → Parting log entry before → IsFront limits before
in_longer {limits} log before entry all front (inl whole) =
    subst (λ (entries : List Entry). IsFront limits entries) (sym whole) front
in_longer log before entry all front (inr (rest, split)) = all before rest split

longer_by : {limits : Limits} (log : List Entry) (entry : Entry) → AllFronts limits log
    → IsFront limits (log ++ entry ∷ []) → AllFronts limits (log ++ entry ∷ [])
longer_by log entry all front =
    λ before after is. in_longer log before entry all front (parting log entry before after is)

-- the same of a log whose last entry is another
in_changed : {limits : Limits} (log before : List Entry) (old new : Entry) → AllFronts limits (log ++ old ∷ [])
    → IsFront limits (log ++ new ∷ []) → Parting log new before → IsFront limits before
in_changed {limits} log before old new all front (inl whole) =
    subst (λ (entries : List Entry). IsFront limits entries) (sym whole) front
in_changed log before old new all front (inr (rest, split)) =
    all before (rest ++ old ∷ [])
    (ap (λ (entries : List Entry). entries ++ old ∷ []) split ∙ append_assoc before rest (old ∷ []))

changed_to : {limits : Limits} (log : List Entry) (old new : Entry) → AllFronts limits (log ++ old ∷ [])
    → IsFront limits (log ++ new ∷ []) → AllFronts limits (log ++ new ∷ [])
changed_to log old new all front =
    λ before after is. in_changed log before old new all front (parting log new before after is)

grown : {limits : Limits} {side : Side} {bytes : List ℕ} {log longer : List Entry} → AllFronts limits log
    → IsAdded side bytes log longer → IsFront limits longer → AllFronts limits longer
grown {side = side} {bytes} {log} all IsAdded.apart front = longer_by log (Out side bytes) all front
grown {side = side} {bytes} all (IsAdded.joined log begun) front =
    changed_to log (Out side begun) (Out side (begun ++ bytes)) all front

empty_front : {limits : Limits} (before after : List Entry) → [] ≡ before ++ after → IsFront limits before
empty_front [] after is = IsFront.goes_on Reading.begins
empty_front (entry ∷ before) after is = absurd cc

reading_fronts : {limits : Limits} {log : List Entry} {messages : List Message} {turns : ℕ} {s : SessionState}
    → Reading limits log messages turns s → AllFronts limits log
reading_fronts Reading.begins = λ before after is. empty_front before after is
reading_fronts (Reading.goes r on is) = reading_fronts r
reading_fronts (Reading.speaks r on may speaks added) =
    grown (reading_fronts r) added (IsFront.goes_on (Reading.speaks r on may speaks added))
reading_fronts (Reading.hears r reads allows brings) = reading_fronts r
reading_fronts (Reading.ignores r reads whole reading) = reading_fronts r
reading_fronts (Reading.happens {log} {entry = entry} r waits comes) =
    longer_by log entry (reading_fronts r) (IsFront.goes_on (Reading.happens r waits comes))

part_fronts : {limits : Limits} {log : List Entry} {messages : List Message} {turns : ℕ} {s : SessionState}
    {side : Side} → HasPart limits log messages turns s side → AllFronts limits log
part_fronts part = grown (reading_fronts part.reading) part.added (IsFront.with_part part)

halted_fronts : {limits : Limits} {log : List Entry} {messages : List Message} {turns : ℕ} {s : SessionState}
    {ending : Ending} → Halts limits log messages turns s ending → AllFronts limits log
halted_fronts (Halts.here r ends) = reading_fronts r
halted_fronts (Halts.shut {log} r waits) =
    longer_by log (Shut Client) (reading_fronts r) (IsFront.ended (ReadOut.halts (Halts.shut r waits)))
halted_fronts (Halts.lost {log} side r turn) =
    longer_by log (Failed side) (reading_fronts r) (IsFront.ended (ReadOut.halts (Halts.lost side r turn)))
halted_fronts (Halts.unsent {log} {side = side} r on may speaks) =
    longer_by log (Failed side) (reading_fronts r)
    (IsFront.ended (ReadOut.halts (Halts.unsent r on may speaks)))
halted_fronts (Halts.broken {log} {side = side} part) =
    longer_by log (Failed side) (part_fronts part) (IsFront.ended (ReadOut.halts (Halts.broken part)))

ended_fronts : {limits : Limits} {log : List Entry} {messages : List Message} {turns : ℕ} {e : EndedState}
    → ReadOut limits log messages turns e → AllFronts limits log
ended_fronts (ReadOut.halts h) = halted_fronts h
ended_fronts (ReadOut.says {log} {e = e} {word} r is) =
    longer_by log (Out (word_side word) (word_bytes e.streams word)) (ended_fronts r)
    (IsFront.ended (ReadOut.says r is))
ended_fronts (ReadOut.fails {log} {word = word} r is) =
    longer_by log (Failed (word_side word)) (ended_fronts r) (IsFront.ended (ReadOut.fails r is))
ended_fronts (ReadOut.breaks {log} {messages} {turns} {kept} {e} {word} {rest} r is some proper) =
    let last : Entry = Out (word_side word) (take kept (word_bytes e.streams word)) in
    longer_by (log ++ last ∷ []) (Failed (word_side word))
    (longer_by log last (ended_fronts r) (IsFront.with_word_part {e = e} (record {
      before = log;
      messages = messages;
      turns = turns;
      word = word;
      rest = rest;
      kept = kept;
      ended = r;
      is_next = is;
      some = some;
      proper = proper;
      log_is = refl;
    }))) (IsFront.ended (ReadOut.breaks r is some proper))

word_part_fronts : {limits : Limits} {log : List Entry} {e : EndedState} → HasWordPart limits log e
    → AllFronts limits log
word_part_fronts {limits} {e = e} part =
    let last : Entry = Out (word_side part.word) (take part.kept (word_bytes e.streams part.word)) in
    subst (λ (entries : List Entry). AllFronts limits entries) (sym part.log_is)
    (longer_by part.before last (ended_fronts part.ended)
    (subst (λ (entries : List Entry). IsFront limits entries) part.log_is (IsFront.with_word_part part)))

all_fronts : {limits : Limits} {log : List Entry} → IsFront limits log → AllFronts limits log
all_fronts (IsFront.goes_on r) = reading_fronts r
all_fronts (IsFront.with_part part) = part_fronts part
all_fronts (IsFront.ended r) = ended_fronts r
all_fronts (IsFront.with_word_part part) = word_part_fronts part

pub front_of : {limits : Limits} (before after : List Entry) → IsFront limits (before ++ after)
    → IsFront limits before
front_of before after front = all_fronts front before after refl

-- Verdicts ------------------------------------------------------------------------------------------------------------

legal_front : {limits : Limits} {log : List Entry} {status : Option ℕ} → IsLegal limits log status
    → IsFront limits log
legal_front (IsLegal.so_far front) = front
legal_front (IsLegal.no_memory front) = front
legal_front (IsLegal.to_the_end ended none) = IsFront.ended ended

pub not_both : {limits : Limits} {log : List Entry} {status : Option ℕ} {clause : Clause} {place : ℕ}
    → IsLegal limits log status → IsBroken limits log status clause place → ⊥
not_both {limits} {log} legal (IsBroken.at_entry {before} {entry} after is breaks) =
    breaks.none (all_fronts (legal_front legal) (before ++ entry ∷ []) after
    (is ∙ sym (append_assoc before (entry ∷ []) after)))
not_both legal (IsBroken.at_end front none) = none legal
