-- How the book stays tied to the wires inside.
use Rattle.std.proofs.Common.{◌≡◌, ℕ, Bool, true, false, ◌⊎◌, inl, inr, ◌||◌, List, [], ◌∷◌, ◌++◌, Option, Some, None, option_map}
use Rattle.std.proofs.Common.{length, take, Result, Ok, Err, IsErr, IsOk, OnOk, OnErr, arith, refl, sym, ap, ◌∙◌, append_assoc}
use Rattle.std.proofs.lemmas.List.{append-nil}
use Rattle.wire_core.specs.Outside.{Adds, Connects, Counts, FailsToConnect, FailsToReach, FailsToSend, Hears, Outside}
use Rattle.wire_core.specs.Outside.{Reaches, Sends, broken_send, entry_of}
use Rattle.wire_core.specs.declared.outside.Entry.{Entry}
use Rattle.wire_core.specs.declared.outside.Entry.TheVariants.{Out, Failed}
use Rattle.wire_core.specs.declared.outside.Happening.{Happening}
use Rattle.wire_core.specs.declared.outside.OpenFailed.{OpenFailed}
use Rattle.wire_core.specs.declared.outside.Side.{Side}
use Rattle.wire_core.specs.declared.outside.Side.TheVariants.{Client, Target}
use Rattle.session_recorder.specs.Books.{Adds as AddsTo, DoesNotOpen, Fails, HearsBy, Opens, Takes, entries_in, is_refused}
use Rattle.session_recorder.specs.Books.{blamed, state_in}
use Rattle.session_recorder.specs.Recording.{Follows, IsKept, IsTied, agrees}
use Rattle.session_recorder.specs.States.{is_lost, closed}
use Rattle.session_recorder.specs.declared.book.Book.{Book}
use Rattle.session_recorder.specs.declared.side_state.SideState.{SideState}
use Rattle.session_recorder.specs.declared.side_state.SideState.TheVariants.{Open, Closed, Lost}
use Rattle.session_recorder.proofs.StateLaws.{lost_after, lost_closed, or_both, or_false}
use Rattle.session_recorder.specs.Ties.{nothing_more, same_counts}
use Rattle.session_recorder.proofs.HeardLaws.{heard_right}
use Rattle.session_recorder.proofs.SendLaws.{fails_right, loses_right, sends_right}

-- Each call -----------------------------------------------------------------------------------------------------------

lost_no : (s : SideState) → s ≡ Lost → is_lost s ≡ false → ⊥
lost_no Open is whole = cc
lost_no Closed is whole = cc
lost_no Lost is whole = cc

-- a side that is lost was refused
refused_by : (side : Side) (b : Book) → state_in side b ≡ Lost → is_refused b ≡ false → ⊥
refused_by Client b is whole = lost_no b.client is (or_both _ _ whole).0
refused_by Target b is whole = lost_no b.target is (or_both _ _ whole).1

-- nothing is lost where nothing was lost more
whole_before : (b b' : Book) → is_lost b'.client ≡ is_lost b.client → is_lost b'.target ≡ is_lost b.target
    → is_refused b' ≡ false → is_refused b ≡ false
whole_before b b' client target whole =
    let parts = or_both _ _ whole in or_false _ _ (sym client ∙ parts.0) (sym target ∙ parts.1)

-- names that are there
apart : {a : List ℕ} {l : List (List ℕ)} → a ∷ l ≡ [] → ⊥
apart is = cc

-- with a side lost, only what the wires inside tell is left to say
module _ (o o' : Outside) (b b' : Book) where
  lost_tied : (side : Side) (added : List Entry) → Fails side b b' Lost → Counts o o' → o'.asked ≡ o.asked
      → (agrees o b ≡ true → agrees o' b' ≡ true) → Adds o o' added → IsTied o b o' b'
  lost_tied side added loses counts asked right inside = record {
    before = λ whole. absurd (refused_by side b' loses.side_is whole);
    counts = counts;
    follows = Follows.goes_on asked right;
    added = added;
    kept = [];
    inside = inside;
    own = λ whole. absurd (refused_by side b' loses.side_is whole);
    is_kept = λ whole. absurd (refused_by side b' loses.side_is whole);
  }

  takes_tied : (buffer : List ℕ) (happening : Happening) → Hears o o' buffer happening → Takes b b' buffer happening
      → (agrees o b ≡ true → agrees o' b' ≡ true) → IsTied o b o' b'
  takes_tied buffer happening hears takes right = record {
    before = whole_before b b' (ap is_lost takes.client ∙ lost_after Client happening b.client)
        (ap is_lost takes.target ∙ lost_after Target happening b.target);
    counts = hears.counts;
    follows = Follows.goes_on hears.asked right;
    added = entry_of buffer happening ∷ [];
    kept = entry_of buffer happening ∷ [];
    inside = hears.log;
    own = λ whole. takes.entries;
    is_kept = λ whole. IsKept.same _ IsKept.none;
  }

  pub tied_by_hearing : (buffer : List ℕ) (happening result : Happening) → Hears o o' buffer happening
      → HearsBy b b' buffer happening result → IsTied o b o' b'
  tied_by_hearing buffer happening result hears (inl hands) =
      takes_tied buffer happening hears hands.takes
      (heard_right o o' b b' buffer happening hears.happens result (inl hands))
  tied_by_hearing buffer happening result hears (inr refuses) =
      lost_tied (blamed happening b) (entry_of buffer happening ∷ []) refuses.loses hears.counts hears.asked
      (heard_right o o' b b' buffer happening hears.happens result (inr refuses)) hears.log

  pub tied_by_sending : (side : Side) (bytes : List ℕ) → Sends o o' side bytes → AddsTo b b' (Out side bytes)
      → IsTied o b o' b'
  tied_by_sending side bytes sends adds = record {
    before = whole_before b b' (ap is_lost adds.client) (ap is_lost adds.target);
    counts = sends.counts;
    follows = Follows.goes_on sends.asked (sends_right o o' b b' side bytes sends adds);
    added = Out side bytes ∷ [];
    kept = Out side bytes ∷ [];
    inside = sends.log;
    own = λ whole. adds.entries;
    is_kept = λ whole. IsKept.same _ IsKept.none;
  }

  broken_kept : (side : Side) (part : List ℕ) → IsKept (broken_send side part) (Failed side ∷ [])
  broken_kept side [] = IsKept.same (Failed side) IsKept.none
  broken_kept side (byte ∷ bytes) = IsKept.broken side (byte ∷ bytes) IsKept.none

  closes_lost : (side : Side) → Fails side b b' (closed (state_in side b)) → is_refused b' ≡ false → is_refused b ≡ false
  closes_lost Client loses =
      whole_before b b' (ap is_lost loses.side_is ∙ lost_closed b.client) (ap is_lost loses.other_is)
  closes_lost Target loses =
      whole_before b b' (ap is_lost loses.other_is) (ap is_lost loses.side_is ∙ lost_closed b.target)

  pub tied_by_failing : (side : Side) (bytes : List ℕ) → FailsToSend o o' side bytes
      → Fails side b b' (closed (state_in side b)) → IsTied o b o' b'
  tied_by_failing side bytes fails loses = record {
    before = closes_lost side loses;
    counts = fails.counts;
    follows = Follows.goes_on fails.asked (fails_right o o' b b' side bytes fails loses);
    added = broken_send side (take fails.kept bytes);
    kept = Failed side ∷ [];
    inside = fails.log;
    own = λ whole. loses.entries;
    is_kept = λ whole. broken_kept side (take fails.kept bytes);
  }

  -- links were asked for, and nothing was logged
  asked_tied : (is_refused b' ≡ false → is_refused b ≡ false) → Counts o o' → o.asked ≡ [] → ¬ (o'.asked ≡ [])
      → Adds o o' [] → entries_in b' ≡ entries_in b → IsTied o b o' b'
  asked_tied before counts none some_ inside same = record {
    before = before;
    counts = counts;
    follows = Follows.asks none some_;
    added = [];
    kept = [];
    inside = inside;
    own = λ whole. same ∙ sym (append-nil (entries_in b));
    is_kept = λ whole. IsKept.none;
  }

  not_opened : {opened : Result Unit OpenFailed} → DoesNotOpen b b' opened → is_refused b' ≡ false
      → is_refused b ≡ false
  not_opened fails =
      whole_before b b' (ap is_lost fails.client ∙ lost_closed b.client) (ap is_lost fails.target ∙ lost_closed b.target)

  pub tied_by_connecting : (listen target : List ℕ) (client : SideState) → o.asked ≡ [] → Connects o o' listen target
      → is_refused b ≡ false → Opens b b' client → IsTied o b o' b'
  tied_by_connecting listen target client none connects whole opens =
      asked_tied (λ is. whole) connects.counts none (λ is. apart (sym connects.asked ∙ is)) connects.log
      opens.entries

  pub tied_by_not_connecting : (opened : Result Unit OpenFailed) (listen target : List ℕ) → o.asked ≡ []
      → OnOk opened (Connects o o' listen target) → OnErr opened (FailsToConnect o o' listen target)
      → DoesNotOpen b b' opened → IsTied o b o' b'
  tied_by_not_connecting (Ok u) listen target none connects nothing fails =
      asked_tied (not_opened fails) connects.counts none (λ is. apart (sym connects.asked ∙ is)) connects.log
      fails.entries
  tied_by_not_connecting (Err e) listen target none nothing not_ fails =
      asked_tied (not_opened fails) not_.counts none (λ is. apart (sym not_.asked ∙ is)) not_.log fails.entries

  pub tied_by_reaching : (target : List ℕ) (client : SideState) → o.asked ≡ [] → Reaches o o' target
      → is_refused b ≡ false → Opens b b' client → IsTied o b o' b'
  tied_by_reaching target client none reaches whole opens =
      asked_tied (λ is. whole) reaches.counts none (λ is. apart (sym reaches.asked ∙ is)) reaches.log opens.entries

  pub tied_by_not_reaching : (opened : Result Unit OpenFailed) (target : List ℕ) → o.asked ≡ []
      → OnOk opened (Reaches o o' target) → OnErr opened (FailsToReach o o' target)
      → DoesNotOpen b b' opened → IsTied o b o' b'
  tied_by_not_reaching (Ok u) target none reaches nothing fails =
      asked_tied (not_opened fails) reaches.counts none (λ is. apart (sym reaches.asked ∙ is)) reaches.log fails.entries
  tied_by_not_reaching (Err e) target none nothing not_ fails =
      asked_tied (not_opened fails) not_.counts none (λ is. apart (sym not_.asked ∙ is)) not_.log fails.entries

-- nothing was sent, since memory was refused
pub tied_by_refusing : (o : Outside) (b b' : Book) (side : Side) → Fails side b b' Lost → IsTied o b o b'
tied_by_refusing o b b' side loses =
    lost_tied o o b b' side [] loses (same_counts o) refl (loses_right o b b' side loses) (nothing_more o)
