-- How a session ends, and how its last words are said one by one, over any log.
use Rattle.std.proofs.Common.{◌≡◌, ℕ, ◌+◌, ◌<◌, List, [], ◌∷◌, ◌++◌, length, take, refl, sym, ap, subst, ◌∙◌}
use Rattle.std.proofs.Common.{append_assoc, append-nil}
use Rattle.machine_model.specs.Runs.{Message}
use Rattle.session_model.specs.Causes.{Cause}
use Rattle.session_model.specs.LastWords.{AreSpoken, LastWord, last_word_said, last_words, word_bytes, word_side}
use Rattle.session_model.specs.Names.{Ending, Entry, Limits, Out}
use Rattle.session_model.specs.Session.{Ended, EndedState, Going}
use Rattle.session_model.specs.States.{SessionState, StreamState}
use Rattle.wire_core.specs.Outside.{broken_send}

-- the cause has come, and all last words are left
abbrev pub ended_by : SessionState → Ending → EndedState
ended_by s ending =
    record { last = s; ending = ending; said = []; left = last_words ending s.machine; streams = s.streams }

pub ends_by : {limits : Limits} {log : List Entry} {messages : List Message} {turns : ℕ} {s : SessionState}
    {ending : Ending} {entries : List Entry} {taken : ℕ} → Going limits log messages turns s
    → Cause limits turns s ending entries taken
    → Ended limits (log ++ entries) messages (turns + taken) (ended_by s ending)
ends_by {log} {turns} {entries} {taken} g cause = record {
  before = log;
  by_cause = entries;
  by_words = [];
  earlier = turns;
  taken = taken;
  log_is = sym (append-nil (log ++ entries));
  turns_are = refl;
  going = g;
  cause = cause;
  words = AreSpoken.none;
}

-- more words, as these entries
more_words : {limits : Limits} {log : List Entry} {messages : List Message} {turns : ℕ} {e : EndedState}
    (more : List Entry) (said left : List LastWord) (streams : StreamState) (h : Ended limits log messages turns e)
    → AreSpoken e.last.streams (last_words e.ending e.last.machine) said left (h.by_words ++ more) streams
    → Ended limits (log ++ more) messages turns (record e { said = said; left = left; streams = streams })
more_words more said left streams h words = record {
  before = h.before;
  by_cause = h.by_cause;
  by_words = h.by_words ++ more;
  earlier = h.earlier;
  taken = h.taken;
  log_is = ap (λ log. log ++ more) h.log_is ∙ append_assoc (h.before ++ h.by_cause) h.by_words more;
  turns_are = h.turns_are;
  going = h.going;
  cause = h.cause;
  words = words;
}

-- the next word is said
pub says_next : {limits : Limits} {log : List Entry} {messages : List Message} {turns : ℕ} {e : EndedState}
    {word : LastWord} {left : List LastWord} → Ended limits log messages turns e → e.left ≡ word ∷ left
    → Ended limits (log ++ Out (word_side word) (word_bytes e.streams word) ∷ []) messages turns
    (record e { said = e.said ++ word ∷ []; left = left; streams = last_word_said e.streams word })
says_next {e = e} {word} {left} h is =
    more_words _ (e.said ++ word ∷ []) left (last_word_said e.streams word) h (AreSpoken.one_more
    (subst (λ left. AreSpoken e.last.streams (last_words e.ending e.last.machine) e.said left h.by_words e.streams) is
    h.words))

-- it can't be said, and no other is
pub breaks_off : {limits : Limits} {log : List Entry} {messages : List Message} {turns kept : ℕ} {e : EndedState}
    {word : LastWord} {left : List LastWord} → Ended limits log messages turns e → e.left ≡ word ∷ left
    → kept < length (word_bytes e.streams word)
    → Ended limits (log ++ broken_send (word_side word) (take kept (word_bytes e.streams word))) messages turns
    (record e { left = [] })
breaks_off {e = e} h is proper =
    more_words _ e.said [] e.streams h (AreSpoken.cut_short
    (subst (λ left. AreSpoken e.last.streams (last_words e.ending e.last.machine) e.said left h.by_words e.streams) is
    h.words) proper)
