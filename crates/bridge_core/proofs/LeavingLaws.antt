-- The last words of a session, one at a time.
use Rattle.std.proofs.Common.{◌≡◌, ℕ, ◌∷◌, List, [], Option, None, Some, refl, sym, ap, ◌∙◌}
use Rattle.std.specs.Prelude.{IfNone, IfSome, MatchOption}
use Rattle.machine_model.specs.State.{Machine}
use Rattle.bridge_core.specs.Calls.{SaysNoMore, SaysWord, words_left, words_of}
use Rattle.bridge_core.specs.Cores.{CoreState, Unheard, streams_in}
use Rattle.bridge_core.specs.Going.{HasNext, IsSaid}
use Rattle.bridge_core.specs.Wording.{word_seen}
use Rattle.bridge_core.specs.declared.words.Word.{Word}
use Rattle.session_model.specs.LastWords.{LastWord, last_word_said, word_bytes}
use Rattle.session_model.specs.States.{StreamState}
use Rattle.session_endings.specs.declared.ending.Ending.{Ending}
use Rattle.wire_core.specs.declared.outside.Side.{Side}

-- the next of the words that were formed, and those that are left
abbrev NextOf : Option (List LastWord) → Option Word → Option (List LastWord) → Type 0
NextOf words next now = (left : List LastWord) (ending : Ending) (m : Machine) → words ≡ Some left
    → MatchOption next ((left ≡ []) × (words_of now ending m ≡ []))
    (λ word. left ≡ word_seen word ∷ words_of now ending m)

-- where there is none, all were said
pub says_no_more : (next : Option Word) (old : CoreState) (words now : Option (List LastWord)) (ending : Ending)
    → words ≡ Some (words_left ending old) → NextOf words next now
    → IfNone next (SaysNoMore ending old (record old { words = now }))
says_no_more (Some word) old words now ending is of = tt
says_no_more None old words now ending is of =
    let none = of (words_left ending old) ending old.machine is in
    record { none_left = none.0; still_none = none.1; same = refl }

-- where there is one, the others are left
pub has_next : (next : Option Word) (old : CoreState) (words now : Option (List LastWord)) (ending : Ending)
    → words ≡ Some (words_left ending old) → NextOf words next now
    → IfSome next (λ word. HasNext ending old (word_seen word) (record old { words = now }))
has_next None old words now ending is of = tt
has_next (Some word) old words now ending is of =
    record { left = of (words_left ending old) ending old.machine is; same = refl }

-- the next word is said
pub says_word : (ending : Ending) (old mid new : CoreState) (word : LastWord) (side : Side) (bytes : List ℕ)
    → HasNext ending old word mid → IsSaid mid word side bytes new → SaysWord ending old side bytes new
says_word ending old mid new word side bytes next said = record {
  word = word;
  left = next.left ∙ ap (λ (core : CoreState). word ∷ words_left ending core) (sym said.same);
  side_is = said.side_is;
  bytes_are = λ unheard. said.bytes_are unheard
      ∙ ap (λ (streams : StreamState). word_bytes streams word) (same_streams unheard);
  streams_are = λ unheard. said.streams_are unheard
      ∙ ap (λ (streams : StreamState). last_word_said streams word) (same_streams unheard);
  same = said.same ∙ ap (λ (core : CoreState). record core { told = new.told }) next.same
      ∙ ap (λ (words : Option (List LastWord)). record old { told = new.told; words = words })
      (sym (ap (λ (core : CoreState). core.words) said.same));
  small = said.small;
}
  where
    same_streams : (unheard : Unheard) → streams_in mid unheard ≡ streams_in old unheard
    same_streams unheard = ap (λ (core : CoreState). streams_in core unheard) next.same
