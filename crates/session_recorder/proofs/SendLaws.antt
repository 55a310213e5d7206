-- What is sent, and what is opened, over a recorder.
use Rattle.std.proofs.Common.{◌≡◌, ℕ, ◌≤◌, ◌<◌, Bool, true, false, not, ◌⊎◌, inl, inr, List, [], ◌∷◌, ◌++◌, Some, length, arith}
use Rattle.std.proofs.Common.{Result, Ok, Err, IsErr, IsOk, OnOk, OnErr, refl, sym, ap, subst, ◌∙◌, if◌then◌else◌}
use Rattle.std.proofs.lemmas.List.{append-nil}
use Rattle.wire_core.specs.Outside.{Connects, Counts, FailsToConnect, FailsToReach, FailsToSend, IsOpen, Outside, Reaches}
use Rattle.wire_core.specs.Outside.{Rose, SameWaits, Sends, link_of, other_side, raised}
use Rattle.wire_core.specs.declared.outside.Entry.{Entry}
use Rattle.wire_core.specs.declared.outside.Entry.TheVariants.{Out, Failed}
use Rattle.wire_core.specs.declared.outside.OpenFailed.{OpenFailed}
use Rattle.wire_core.specs.declared.outside.Side.{Side}
use Rattle.wire_core.specs.declared.outside.Side.TheVariants.{Client, Target}
use Rattle.session_recorder.specs.Books.{Adds, DoesNotOpen, Fails, Opens, Same, entries_in, is_refused, state_in}
use Rattle.session_recorder.specs.Recording.{agrees, outside_over}
use Rattle.session_recorder.specs.States.{opens, is_lost, fits, closed}
use Rattle.session_recorder.specs.declared.book.Book.{Book}
use Rattle.session_recorder.specs.declared.side_state.SideState.{SideState}
use Rattle.session_recorder.specs.declared.side_state.SideState.TheVariants.{Open, Closed, Lost}
use Rattle.session_recorder.proofs.StateLaws.{faults_failed, fits_closed, fits_kept, lost_closed, opens_closed, or_both}
use Rattle.session_recorder.proofs.StateLaws.{raised_more, sum_raised, sum_rose}
use Rattle.session_recorder.proofs.OverLaws.{Fits, both_fit, closes_over, counts_over, open_parts, opens_over}
use Rattle.session_recorder.specs.Ties.{same_counts}
use Rattle.session_recorder.proofs.OverLaws.{side_fits, sides_fit, stays_over}
use Rattle.session_recorder.proofs.HeardLaws.{counts_fails, lost_fits, loses_happens, same_is}

-- Books ---------------------------------------------------------------------------------------------------------------

-- what was made ready, and then added
same_adds : (a b c : Book) (entry : Entry) → Same a b → Adds b c entry → Adds a c entry
same_adds a b c entry same adds = record {
  entries = adds.entries ∙ ap (λ (l : List Entry). l ++ entry ∷ []) same.entries;
  client = adds.client ∙ same.client;
  target = adds.target ∙ same.target;
  open_refusals = adds.open_refusals ∙ same.open_refusals;
}

-- an entry that was made, and then added
pub same_sends : (a b c : Book) (entry : Entry) (side : Side) (bytes : List ℕ) → entry ≡ Out side bytes → Same a b
    → Adds b c entry → Adds a c (Out side bytes)
same_sends a b c entry side bytes is same adds =
    subst (λ (e : Entry). Adds a c e) is (same_adds a b c entry same adds)

same_state : (side : Side) (a b : Book) → Same a b → state_in side b ≡ state_in side a
same_state Client a b same = same.client
same_state Target a b same = same.target

pub same_fails : (side : Side) (a b c : Book) (state : SideState) → Same a b → Fails side b c state → Fails side a c state
same_fails side a b c state same fails = record {
  entries = fails.entries ∙ ap (λ (l : List Entry). l ++ Failed side ∷ []) same.entries;
  side_is = fails.side_is;
  other_is = fails.other_is ∙ same_state (other_side side) a b same;
  open_refusals = fails.open_refusals ∙ same.open_refusals;
}

pub same_closes : (side : Side) (a b c : Book) → Same a b → Fails side b c (closed (state_in side b))
    → Fails side a c (closed (state_in side a))
same_closes side a b c same fails =
    let far = same_fails side a b c (closed (state_in side b)) same fails in
    record {
      entries = far.entries;
      side_is = far.side_is ∙ ap closed (same_state side a b same);
      other_is = far.other_is;
      open_refusals = far.open_refusals;
    }

-- Sends ---------------------------------------------------------------------------------------------------------------

module _ (o o' : Outside) (b b' : Book) where
  pub sends_right : (side : Side) (bytes : List ℕ) → Sends o o' side bytes → Adds b b' (Out side bytes)
      → agrees o b ≡ true → agrees o' b' ≡ true
  sends_right side bytes sends adds right =
      both_fit o' b'
      (ap (λ (s : SideState). fits s o'.client) adds.client
      ∙ fits_kept b.client o.client o'.client sends.stays.client (side_fits Client o b right))
      (ap (λ (s : SideState). fits s o'.target) adds.target
      ∙ fits_kept b.target o.target o'.target sends.stays.target (side_fits Target o b right))

  pub sends_over : (side : Side) (bytes : List ℕ) → Sends o o' side bytes → Adds b b' (Out side bytes)
      → IsOpen side (outside_over o b) → Sends (outside_over o b) (outside_over o' b') side bytes
  sends_over side bytes sends adds over =
      let right = (open_parts side o b over).0 in
      let right' = sends_right side bytes sends adds right in
      record {
        log = ap Some adds.entries;
        waits = sends.waits;
        counts = counts_over o o' b b' sends.counts (λ is. ap is_lost adds.client ∙ is)
            (λ is. ap is_lost adds.target ∙ is) (same_is adds.open_refusals);
        asked = sends.asked;
        stays = stays_over o o' b b' right right' adds.client adds.target;
      }

  pub fails_right : (side : Side) (bytes : List ℕ) → FailsToSend o o' side bytes
      → Fails side b b' (closed (state_in side b)) → agrees o b ≡ true → agrees o' b' ≡ true
  fails_right side bytes fails loses right =
      let other = other_side side in
      sides_fit side o' b'
      (ap (λ (s : SideState). fits s (link_of side o')) loses.side_is
      ∙ fits_closed (state_in side b) (link_of side o') fails.closes.closed)
      (ap (λ (s : SideState). fits s (link_of other o')) loses.other_is
      ∙ fits_kept (state_in other b) (link_of other o) (link_of other o') fails.closes.other (side_fits other o b right))

  rose_over : (side : Side) → opens (state_in side b) ≡ true → Fails side b b' (closed (state_in side b))
      → Rose (link_of side o).faults (link_of side o').faults
      → Rose (link_of side (outside_over o b)).faults (link_of side (outside_over o' b')).faults
  rose_over Client was loses rose =
      faults_failed b.client b'.client o.client.faults o'.client.faults was loses.side_is rose
  rose_over Target was loses rose =
      faults_failed b.target b'.target o.target.faults o'.target.faults was loses.side_is rose

  pub fails_over : (side : Side) (bytes : List ℕ) → FailsToSend o o' side bytes
      → Fails side b b' (closed (state_in side b)) → IsOpen side (outside_over o b) → 0 < length bytes
      → FailsToSend (outside_over o b) (outside_over o' b') side bytes
  fails_over side bytes fails loses over some_ =
      let parts = open_parts side o b over in
      let right' = fails_right side bytes fails loses parts.0 in
      record {
        kept = 0;
        proper = some_;
        log = ap Some loses.entries;
        waits = fails.waits;
        counts = counts_fails side o o' b b' (closed (state_in side b)) fails.counts loses
            (λ is. lost_closed (state_in side b) ∙ is);
        asked = fails.asked;
        closes = closes_over o o' b b' parts.0 right' side parts.1
            (ap opens loses.side_is ∙ opens_closed (state_in side b)) loses.other_is;
        rose = rose_over side parts.1 loses fails.rose;
      }

-- memory was refused for what was to be sent, and nothing was
module _ (o : Outside) (b b' : Book) where
  pub loses_right : (side : Side) → Fails side b b' Lost → agrees o b ≡ true → agrees o b' ≡ true
  loses_right side loses right =
      let other = other_side side in
      sides_fit side o b' (lost_fits side o b' loses.side_is)
      (ap (λ (s : SideState). fits s (link_of other o)) loses.other_is ∙ side_fits other o b right)

  pub loses_over : (side : Side) (bytes : List ℕ) → Fails side b b' Lost → IsOpen side (outside_over o b)
      → 0 < length bytes → FailsToSend (outside_over o b) (outside_over o b') side bytes
  loses_over side bytes loses over some_ =
      let parts = open_parts side o b over in
      let happens = loses_happens o o b b' parts.0 (loses_right side loses parts.0) side bytes parts.1 (same_counts o)
      loses in
      record {
        kept = 0;
        proper = some_;
        log = ap Some loses.entries;
        waits = refl;
        counts = counts_fails side o o b b' Lost (same_counts o) loses (λ is. refl);
        asked = refl;
        closes = happens.0;
        rose = happens.1;
      }

-- Links that are opened -----------------------------------------------------------------------------------------------

-- what comes of a call that answered so
pub of_ok : {P : Type 0} (r : Result Unit OpenFailed) → IsOk r → OnOk r P → P
of_ok (Ok u) is p = p
of_ok (Err e) is p = absurd cc

-- what follows of either answer
pub either_way : {P Q T : Type 0} (r : Result Unit OpenFailed) → OnOk r P → OnErr r Q → (P → T) → (Q → T) → T
either_way (Ok u) p q on other = on p
either_way (Err e) p q on other = other q

pub on_err : {P Q : Type 0} (r : Result Unit OpenFailed) → OnErr r P → (P → Q) → OnErr r Q
on_err (Ok u) p more = tt
on_err (Err e) p more = more p

refusals_grow : {n m : ℕ} (k : Bool) → m ≡ (if k then raised n else n) → n ≤ m
refusals_grow {n} true is = let more = raised_more n in omega arith
refusals_grow false is = omega arith

no_more : (a b : List Entry) → b ≡ a → b ≡ a ++ []
no_more a b is = is ∙ sym (append-nil a)

module _ (o o' : Outside) (b b' : Book) where
  not_lost : is_refused b ≡ false → (is_lost b.client ≡ false) × (is_lost b.target ≡ false)
  not_lost is = or_both _ _ is

  opens_counts : (client : SideState) → Counts o o' → is_refused b ≡ false → Opens b b' client
      → Counts (outside_over o b) (outside_over o' b')
  opens_counts client counts whole opens_ =
      let none = not_lost whole in
      counts_over o o' b b' counts (λ is. absurd (clash none.0 is)) (λ is. absurd (clash none.1 is))
      (same_is opens_.open_refusals)
    where
      clash : {k : Bool} → k ≡ false → k ≡ true → ⊥
      clash is so = cc

  fails_counts : {opened : Result Unit OpenFailed} → Counts o o' → DoesNotOpen b b' opened
      → Counts (outside_over o b) (outside_over o' b')
  fails_counts counts fails =
      counts_over o o' b b' counts (λ is. ap is_lost fails.client ∙ lost_closed b.client ∙ is)
      (λ is. ap is_lost fails.target ∙ lost_closed b.target ∙ is) (refusals_grow (is_refused b) fails.open_refusals)

  fails_rose : {opened : Result Unit OpenFailed} → Counts o o' → DoesNotOpen b b' opened
      → (IsErr opened → Rose o.open_faults o'.open_faults)
      → Rose (outside_over o b).open_faults (outside_over o' b').open_faults
  fails_rose counts fails rose = elim fails.cause [
    | inl err ↦ sum_rose o.open_faults o'.open_faults b.open_refusals b'.open_refusals (rose err)
        (refusals_grow (is_refused b) fails.open_refusals)
    | inr lost ↦ sum_raised o.open_faults o'.open_faults b.open_refusals b'.open_refusals counts.open_faults
        (fails.open_refusals ∙ ap (λ (k : Bool). if k then raised b.open_refusals else b.open_refusals) lost)
  ]

  pub connects_over : (listen target : List ℕ) → Connects o o' listen target → is_refused b ≡ false
      → Opens b b' Open → Connects (outside_over o b) (outside_over o' b') listen target
  connects_over listen target connects whole opens_ =
      let right = both_fit o' b'
      (ap (λ (s : SideState). fits s o'.client) opens_.client_is ∙ connects.client_open)
      (ap (λ (s : SideState). fits s o'.target) opens_.target_is ∙ connects.target_open) in
      record {
        log = ap Some (no_more _ _ opens_.entries);
        waits = connects.waits;
        counts = opens_counts Open connects.counts whole opens_;
        asked = connects.asked;
        client_open = opens_over Client o' b' right ∙ ap opens opens_.client_is;
        target_open = opens_over Target o' b' right ∙ ap opens opens_.target_is;
      }

  pub fails_to_connect : (opened : Result Unit OpenFailed) (listen target : List ℕ)
      → OnOk opened (Connects o o' listen target) → OnErr opened (FailsToConnect o o' listen target)
      → DoesNotOpen b b' opened → FailsToConnect (outside_over o b) (outside_over o' b') listen target
  fails_to_connect (Ok u) listen target connects none fails = record {
    log = ap Some (no_more _ _ fails.entries);
    waits = connects.waits;
    counts = fails_counts connects.counts fails;
    asked = connects.asked;
    rose = fails_rose connects.counts fails (λ is. absurd cc);
  }
  fails_to_connect (Err e) listen target none not_ fails = record {
    log = ap Some (no_more _ _ fails.entries);
    waits = not_.waits;
    counts = fails_counts not_.counts fails;
    asked = not_.asked;
    rose = fails_rose not_.counts fails (λ is. not_.rose);
  }

  pub reaches_over : (target : List ℕ) → Reaches o o' target → is_refused b ≡ false → Opens b b' Closed
      → Reaches (outside_over o b) (outside_over o' b') target
  reaches_over target reaches whole opens_ =
      let right = both_fit o' b'
      (ap (λ (s : SideState). fits s o'.client) opens_.client_is ∙ ap not reaches.client_closed)
      (ap (λ (s : SideState). fits s o'.target) opens_.target_is ∙ reaches.target_open) in
      record {
        log = ap Some (no_more _ _ opens_.entries);
        waits = reaches.waits;
        counts = opens_counts Closed reaches.counts whole opens_;
        asked = reaches.asked;
        client_closed = opens_over Client o' b' right ∙ ap opens opens_.client_is;
        target_open = opens_over Target o' b' right ∙ ap opens opens_.target_is;
      }

  pub fails_to_reach : (opened : Result Unit OpenFailed) (target : List ℕ)
      → OnOk opened (Reaches o o' target) → OnErr opened (FailsToReach o o' target)
      → DoesNotOpen b b' opened → FailsToReach (outside_over o b) (outside_over o' b') target
  fails_to_reach (Ok u) target reaches none fails = record {
    log = ap Some (no_more _ _ fails.entries);
    waits = reaches.waits;
    counts = fails_counts reaches.counts fails;
    asked = reaches.asked;
    rose = fails_rose reaches.counts fails (λ is. absurd cc);
  }
  fails_to_reach (Err e) target none not_ fails = record {
    log = ap Some (no_more _ _ fails.entries);
    waits = not_.waits;
    counts = fails_counts not_.counts fails;
    asked = not_.asked;
    rose = fails_rose not_.counts fails (λ is. not_.rose);
  }
