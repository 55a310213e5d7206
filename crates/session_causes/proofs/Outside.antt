-- What the outside ends shows in the ending.
use Rattle.std.proofs.Common.{◌≡◌, ◌⊎◌, inl, inr, ℕ, Bool, true, false, List, [], ◌∷◌, ◌++◌, take, refl, sym, ap, subst}
use Rattle.std.proofs.Common.{◌∙◌}
use Rattle.std.specs.List.{AllByRecursion}
use Rattle.machine_model.specs.Runs.{Message}
use Rattle.session_causes.specs.Outside.{HasEntry, IsLost, client_end}
use Rattle.session_model.specs.Causes.{Cause, link_ending}
use Rattle.session_model.specs.LastWords.{AreSpoken, LastWord, word_bytes, word_side}
use Rattle.session_model.specs.Names.{Client, Ending, Entry, Failed, In, Left, Limits, NoMemory, Out, Quiet, Shut, Side}
use Rattle.session_model.specs.Names.{Target}
use Rattle.session_model.specs.Session.{Comes, Ended, EndedState, Going, IsLeft}
use Rattle.session_model.specs.States.{SessionState, StreamState}
use Rattle.wire_core.specs.Outside.{broken_send}

-- Entries of a log ----------------------------------------------------------------------------------------------------

abbrev AllAre : (Entry → Bool) → List Entry → Type 0
AllAre test log = AllByRecursion (λ (entry : Entry). test entry ≡ true) log

all_more : (test : Entry → Bool) (log more : List Entry) → AllAre test log → AllAre test more
    → AllAre test (log ++ more)
all_more test [] more all others = others
all_more test (entry ∷ log) more all others = (all.0, all_more test log more all.1 others)

all_at : (test : Entry → Bool) (before : List Entry) (entry : Entry) (after : List Entry)
    → AllAre test (before ++ entry ∷ after) → test entry ≡ true
all_at test [] entry after all = all.0
all_at test (first ∷ before) entry after all = all_at test before entry after all.1

-- what isn't so of all can't be so of one that stands there
has_none : (test : Entry → Bool) {entry : Entry} {log : List Entry} → AllAre test log → test entry ≡ false
    → HasEntry entry log → ⊥
has_none test {entry} all none (before, after, is) =
    let no : true ≡ false = sym (all_at test before entry after (subst (λ log. AllAre test log) is all)) ∙ none in cc

-- An entry of two logs stands in one of them.
in_either : {entry : Entry} (log more : List Entry) → HasEntry entry (log ++ more)
    → HasEntry entry log ⊎ HasEntry entry more
in_either [] more has = inr has
in_either (first ∷ log) more ([], after, is) = inl (by_first is)
  where
    by_first : {entry : Entry} → first ∷ (log ++ more) ≡ entry ∷ after → HasEntry entry (first ∷ log)
    by_first {entry} is = let same : first ≡ entry = cc in ([], log, ap (λ one. one ∷ log) same)
in_either {entry} (first ∷ log) more (other ∷ before, after, is) = by_rest (in_either log more (before, after, rest))
  where
    rest : log ++ more ≡ before ++ entry ∷ after
    rest = cc

    by_rest : HasEntry entry log ⊎ HasEntry entry more → HasEntry entry (first ∷ log) ⊎ HasEntry entry more
    by_rest (inl (before, after, is)) = inl (first ∷ before, after, ap (λ log. first ∷ log) is)
    by_rest (inr has) = inr has

-- Which entries a session that goes on has ----------------------------------------------------------------------------

-- it ends no session from the outside
abbrev goes_on : Entry → Bool
goes_on (In side bytes) = true
goes_on (Out side bytes) = true
goes_on (Shut Client) = false
goes_on (Shut Target) = true
goes_on (Failed side) = false
goes_on Quiet = true

one_goes_on : {streams next : StreamState} {entry : Entry} → Comes streams entry next → goes_on entry ≡ true
one_goes_on Comes.piece = refl
one_goes_on Comes.packets = refl
one_goes_on Comes.ends = refl
one_goes_on Comes.passes_quiet = refl

all_go_on : {limits : Limits} {log : List Entry} {messages : List Message} {turns : ℕ} {s : SessionState}
    → Going limits log messages turns s → AllAre goes_on log
all_go_on Going.begins = tt
all_go_on (Going.goes g on is) = all_go_on g
all_go_on (Going.speaks {log} g on allows says) = all_more goes_on log _ (all_go_on g) (refl, tt)
all_go_on (Going.hears g reads allows brings) = all_go_on g
all_go_on (Going.ignores g reads whole reading) = all_go_on g
all_go_on (Going.happens {log} g listens comes) = all_more goes_on log _ (all_go_on g) (one_goes_on comes, tt)

-- no link fails by it
abbrev goes_or_shuts : Entry → Bool
goes_or_shuts (In side bytes) = true
goes_or_shuts (Out side bytes) = true
goes_or_shuts (Shut side) = true
goes_or_shuts (Failed side) = false
goes_or_shuts Quiet = true

-- What a cause leaves -------------------------------------------------------------------------------------------------

-- it isn't the end of the client's stream
abbrev no_end : Entry → Bool
no_end (Shut Client) = false
no_end _ = true

broken_no_end : (side : Side) (bytes : List ℕ) → AllAre no_end (broken_send side bytes)
broken_no_end side [] = (refl, tt)
broken_no_end side (b ∷ bytes) = (refl, (refl, tt))

words_no_end : {begin : StreamState} {words said left : List LastWord} {entries : List Entry} {now : StreamState}
    → AreSpoken begin words said left entries now → AllAre no_end entries
words_no_end AreSpoken.none = tt
words_no_end (AreSpoken.one_more {entries} h) = all_more no_end entries _ (words_no_end h) (refl, tt)
words_no_end (AreSpoken.cut_short {entries} {now} {word} {kept} h proper) =
    all_more no_end entries _ (words_no_end h) (broken_no_end (word_side word) (take kept (word_bytes now word)))

-- the end of the client's stream is left by one cause alone
by_shut : {limits : Limits} {turns : ℕ} {s : SessionState} {ending : Ending} {entries : List Entry} {taken : ℕ}
    → Cause limits turns s ending entries taken → HasEntry client_end entries → ending ≡ Left
by_shut (Cause.shut listens) has = refl
by_shut (Cause.lost side listens) has = absurd (has_none no_end (refl, tt) refl has)
by_shut (Cause.broken {side} {bytes} {kept} on allows says proper) has =
    absurd (has_none no_end (broken_no_end side (take kept bytes)) refl has)
by_shut _ has = absurd (has_none no_end tt refl has)

-- a failure is that of the other side's link
abbrev is_other : Side → Side → Bool
is_other Client Client = false
is_other Client Target = true
is_other Target Client = true
is_other Target Target = false

abbrev no_failure : Side → Entry → Bool
no_failure side (In from bytes) = true
no_failure side (Out to bytes) = true
no_failure side (Shut closed) = true
no_failure side (Failed lost) = is_other side lost
no_failure side Quiet = true

broken_other : (side other : Side) (bytes : List ℕ) → is_other side other ≡ true
    → AllAre (no_failure side) (broken_send other bytes)
broken_other side other [] is = (is, tt)
broken_other side other (b ∷ bytes) is = (refl, (is, tt))

same_link : (side other : Side) (bytes : List ℕ) → HasEntry (Failed side) (broken_send other bytes)
    → link_ending other ≡ link_ending side
same_link Client Client bytes has = refl
same_link Client Target bytes has =
    absurd (has_none (no_failure Client) (broken_other Client Target bytes refl) refl has)
same_link Target Client bytes has =
    absurd (has_none (no_failure Target) (broken_other Target Client bytes refl) refl has)
same_link Target Target bytes has = refl

-- and a link's failure by its own
by_failure : {limits : Limits} {turns : ℕ} {s : SessionState} {ending : Ending} {entries : List Entry} {taken : ℕ}
    (side : Side) → Cause limits turns s ending entries taken → HasEntry (Failed side) entries
    → ending ≡ link_ending side
by_failure side (Cause.lost other listens) has = same_link side other [] has
by_failure side (Cause.broken {side = other} {bytes} {kept} on allows says proper) has =
    same_link side other (take kept bytes) has
by_failure side (Cause.shut listens) has = absurd (has_none goes_or_shuts (refl, tt) refl has)
by_failure side _ has = absurd (has_none goes_or_shuts tt refl has)

-- In a session that has ended -----------------------------------------------------------------------------------------

-- it stands in the session, in what the cause left, or among the last words
stands_in : {entry : Entry} {limits : Limits} {log : List Entry} {messages : List Message} {turns : ℕ}
    {e : EndedState} (h : Ended limits log messages turns e) → HasEntry entry log
    → HasEntry entry h.before ⊎ (HasEntry entry h.by_cause ⊎ HasEntry entry h.by_words)
stands_in {entry} h has = by (in_either (h.before ++ h.by_cause) h.by_words
    (subst (λ log. HasEntry entry log) h.log_is has))
  where
    first : HasEntry entry h.before ⊎ HasEntry entry h.by_cause
        → HasEntry entry h.before ⊎ (HasEntry entry h.by_cause ⊎ HasEntry entry h.by_words)
    first (inl has) = inl has
    first (inr has) = inr (inl has)

    by : HasEntry entry (h.before ++ h.by_cause) ⊎ HasEntry entry h.by_words
        → HasEntry entry h.before ⊎ (HasEntry entry h.by_cause ⊎ HasEntry entry h.by_words)
    by (inl has) = first (in_either h.before h.by_cause has)
    by (inr has) = inr (inr has)

shut_ends : {limits : Limits} {log : List Entry} {messages : List Message} {turns : ℕ} {e : EndedState}
    → Ended limits log messages turns e → HasEntry client_end log → e.ending ≡ Left
shut_ends {e = e} h has = by (stands_in h has)
  where
    by : HasEntry client_end h.before ⊎ (HasEntry client_end h.by_cause ⊎ HasEntry client_end h.by_words)
        → e.ending ≡ Left
    by (inl has) = absurd (has_none goes_on (all_go_on h.going) refl has)
    by (inr (inl has)) = by_shut h.cause has
    by (inr (inr has)) = absurd (has_none no_end (words_no_end h.words) refl has)

pub shut_is_left : {limits : Limits} {log : List Entry} {messages : List Message} {turns : ℕ} {ending : Ending}
    → IsLeft limits log messages turns ending → HasEntry client_end log → (ending ≡ Left) ⊎ (ending ≡ NoMemory)
shut_is_left (IsLeft.ended h done) has = inl (shut_ends h has)
shut_is_left (IsLeft.no_memory g) has = inr refl
shut_is_left (IsLeft.no_memory_then h) has = inr refl

pub failed_is_lost : {limits : Limits} {log : List Entry} {messages : List Message} {turns : ℕ} {ending : Ending}
    (side : Side) → IsLeft limits log messages turns ending → HasEntry (Failed side) log
    → IsLost limits log messages turns side ending
failed_is_lost {limits} {log} {messages} {turns} side (IsLeft.ended {e} h done) has = by (stands_in h has)
  where
    by : HasEntry (Failed side) h.before ⊎ (HasEntry (Failed side) h.by_cause ⊎ HasEntry (Failed side) h.by_words)
        → IsLost limits log messages turns side e.ending
    by (inl has) = absurd (has_none goes_on (all_go_on h.going) refl has)
    by (inr (inl has)) =
        subst (λ (ending : Ending). IsLost limits log messages turns side ending) (sym (by_failure side h.cause has))
        IsLost.by_link
    by (inr (inr has)) = IsLost.in_words (record { e = e; ended = h; is_it = refl; among = has })
failed_is_lost side (IsLeft.no_memory g) has = IsLost.by_memory
failed_is_lost side (IsLeft.no_memory_then h) has = IsLost.by_memory
