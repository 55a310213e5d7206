-- What comes over a recorder: both sides are taken for what they are still, and what is heard is what the wires inside
-- gave, or that a side failed.
use Rattle.std.proofs.Common.{◌≡◌, ℕ, ◌≤◌, ◌<◌, Bool, true, false, ◌⊎◌, inl, inr, List, Some, length, arith, refl, sym, ap, ◌∙◌, subst}
use Rattle.wire_core.specs.Links.{IsWithin}
use Rattle.wire_core.specs.Outside.{Closes, Counts, Happens, HasOpen, Hears, IsOpen, Outside, Rose, StaysOpen, WasEmpty, link_of}
use Rattle.wire_core.specs.Outside.{other_side}
use Rattle.wire_core.specs.declared.outside.Side.{Side}
use Rattle.wire_core.specs.declared.outside.Side.TheVariants.{Client, Target}
use Rattle.wire_core.specs.declared.outside.Happening.{Happening}
use Rattle.wire_core.specs.declared.outside.Happening.TheVariants.{Bytes, Shut, Failed, Quiet}
use Rattle.session_recorder.specs.Books.{Fails, Hands, HearsBy, Refuses, Takes, blamed, is_heard, named, state_in}
use Rattle.session_recorder.specs.Recording.{agrees, outside_over}
use Rattle.session_recorder.specs.States.{opens, is_lost, fits, closed, state_after}
use Rattle.session_recorder.specs.declared.book.Book.{Book}
use Rattle.session_recorder.specs.declared.side_state.SideState.{SideState}
use Rattle.session_recorder.specs.declared.side_state.SideState.TheVariants.{Open, Lost}
use Rattle.session_recorder.proofs.StateLaws.{fits_kept, fits_closed, fits_lost, opens_closed, lost_after, faults_lost}
use Rattle.session_recorder.proofs.StateLaws.{faults_failed}
use Rattle.session_recorder.proofs.OverLaws.{Fits, blamed_open, open_inside, both_fit, closes_over, counts_over, has_right, keeps_over}
use Rattle.session_recorder.proofs.OverLaws.{opens_over, side_fits, sides_fit, stays_over, unblamed_shut}

-- what came fits the buffer
pub is_within : (o o' : Outside) (buffer : List ℕ) (happening : Happening) → Happens o o' buffer happening
    → IsWithin (length buffer) happening
is_within o o' buffer (Bytes side n) is = is.1
is_within o o' buffer (Shut side) is = tt
is_within o o' buffer (Failed side) is = tt
is_within o o' buffer Quiet is = tt

-- Taken for what they are ---------------------------------------------------------------------------------------------

-- a side is as it is taken for behind what came
client_after : (o o' : Outside) (buffer : List ℕ) (happening : Happening) (s : SideState)
    → Happens o o' buffer happening → fits s o.client ≡ true
    → fits (state_after Client happening s) o'.client ≡ true
client_after o o' buffer (Bytes side n) s is right = fits_kept s o.client o'.client is.3.client right
client_after o o' buffer (Shut Client) s is right = fits_closed s o'.client is.closed
client_after o o' buffer (Shut Target) s is right = fits_kept s o.client o'.client is.other right
client_after o o' buffer (Failed Client) s is right = fits_closed s o'.client is.0.closed
client_after o o' buffer (Failed Target) s is right = fits_kept s o.client o'.client is.0.other right
client_after o o' buffer Quiet s is right = fits_kept s o.client o'.client is.0.client right

target_after : (o o' : Outside) (buffer : List ℕ) (happening : Happening) (s : SideState)
    → Happens o o' buffer happening → fits s o.target ≡ true
    → fits (state_after Target happening s) o'.target ≡ true
target_after o o' buffer (Bytes side n) s is right = fits_kept s o.target o'.target is.3.target right
target_after o o' buffer (Shut Client) s is right = fits_kept s o.target o'.target is.other right
target_after o o' buffer (Shut Target) s is right = fits_closed s o'.target is.closed
target_after o o' buffer (Failed Client) s is right = fits_kept s o.target o'.target is.0.other right
target_after o o' buffer (Failed Target) s is right = fits_closed s o'.target is.0.closed
target_after o o' buffer Quiet s is right = fits_kept s o.target o'.target is.0.target right

-- a side that stays as it is taken for, unless what came names it and it was not taken for open
unblamed_fits : (side : Side) (o o' : Outside) (buffer : List ℕ) (happening : Happening) (s : SideState)
    → Happens o o' buffer happening → (named happening ≡ side → opens s ≡ false) → fits s (link_of side o) ≡ true
    → fits s (link_of side o') ≡ true
unblamed_fits Client o o' buffer (Bytes k n) s is shut right = fits_kept s o.client o'.client is.3.client right
unblamed_fits Client o o' buffer (Shut Client) s is shut right =
    fits_lost s o.client o'.client is.was_open (shut refl) right
unblamed_fits Client o o' buffer (Shut Target) s is shut right = fits_kept s o.client o'.client is.other right
unblamed_fits Client o o' buffer (Failed Client) s is shut right =
    fits_lost s o.client o'.client is.0.was_open (shut refl) right
unblamed_fits Client o o' buffer (Failed Target) s is shut right = fits_kept s o.client o'.client is.0.other right
unblamed_fits Client o o' buffer Quiet s is shut right = fits_kept s o.client o'.client is.0.client right
unblamed_fits Target o o' buffer (Bytes k n) s is shut right = fits_kept s o.target o'.target is.3.target right
unblamed_fits Target o o' buffer (Shut Client) s is shut right = fits_kept s o.target o'.target is.other right
unblamed_fits Target o o' buffer (Shut Target) s is shut right =
    fits_lost s o.target o'.target is.was_open (shut refl) right
unblamed_fits Target o o' buffer (Failed Client) s is shut right = fits_kept s o.target o'.target is.0.other right
unblamed_fits Target o o' buffer (Failed Target) s is shut right =
    fits_lost s o.target o'.target is.0.was_open (shut refl) right
unblamed_fits Target o o' buffer Quiet s is shut right = fits_kept s o.target o'.target is.0.target right

-- a side that was lost is as it is taken for, whatever it is
pub lost_fits : (side : Side) (o : Outside) (b : Book) → state_in side b ≡ Lost → Fits side o b
lost_fits side o b is = ap (λ (s : SideState). fits s (link_of side o)) is

module _ (o o' : Outside) (b b' : Book) (buffer : List ℕ) (happening : Happening) where
  hands_right : Happens o o' buffer happening → Takes b b' buffer happening → agrees o b ≡ true → agrees o' b' ≡ true
  hands_right is takes right =
      both_fit o' b'
      (ap (λ (s : SideState). fits s o'.client) takes.client
      ∙ client_after o o' buffer happening b.client is (side_fits Client o b right))
      (ap (λ (s : SideState). fits s o'.target) takes.target
      ∙ target_after o o' buffer happening b.target is (side_fits Target o b right))

  refuses_right : Happens o o' buffer happening → Fails (blamed happening b) b b' Lost → agrees o b ≡ true
      → agrees o' b' ≡ true
  refuses_right is loses right =
      let side = blamed happening b in
      let other = other_side side in
      sides_fit side o' b' (lost_fits side o' b' loses.side_is)
      (ap (λ (s : SideState). fits s (link_of other o')) loses.other_is
      ∙ unblamed_fits other o o' buffer happening (state_in other b) is
      (λ same. subst (λ (k : Side). opens (state_in k b) ≡ false) same (unblamed_shut happening b same))
      (side_fits other o b right))

  -- whatever becomes of what came
  pub heard_right : Happens o o' buffer happening → (result : Happening) → HearsBy b b' buffer happening result
      → agrees o b ≡ true → agrees o' b' ≡ true
  heard_right is result (inl hands) right = hands_right is hands.takes right
  heard_right is result (inr refuses) right = refuses_right is refuses.loses right

-- What is heard -------------------------------------------------------------------------------------------------------

-- a side's state changed so
after_is : (side : Side) (b b' : Book) (buffer : List ℕ) (happening : Happening) → Takes b b' buffer happening
    → state_in side b' ≡ state_after side happening (state_in side b)
after_is Client b b' buffer happening takes = takes.client
after_is Target b b' buffer happening takes = takes.target

module _ (o o' : Outside) (b b' : Book) (right : agrees o b ≡ true) (right' : agrees o' b' ≡ true) where
  -- a side of which an end or a failure was heard is closed
  closes_after : (side : Side) (buffer : List ℕ) (happening : Happening) → opens (state_in side b) ≡ true
      → Takes b b' buffer happening → state_after side happening (state_in side b) ≡ closed (state_in side b)
      → state_after (other_side side) happening (state_in (other_side side) b) ≡ state_in (other_side side) b
      → Closes side (outside_over o b) (outside_over o' b')
  closes_after side buffer happening was takes here there =
      closes_over o o' b b' right right' side was
      (ap opens (after_is side b b' buffer happening takes ∙ here) ∙ opens_closed (state_in side b))
      (after_is (other_side side) b b' buffer happening takes ∙ there)

  empty_over : (side : Side) → WasEmpty side o o' → WasEmpty side (outside_over o b) (outside_over o' b')
  empty_over Client empty = λ over. empty (open_inside Client o b over)
  empty_over Target empty = λ over. empty (open_inside Target o b over)

  -- what was handed on happened
  hands_happens : (buffer : List ℕ) (happening : Happening) → is_heard happening b ≡ true
      → Happens o o' buffer happening → Takes b b' buffer happening
      → Happens (outside_over o b) (outside_over o' b') buffer happening
  hands_happens buffer (Bytes side n) heard is takes =
      (is.0, is.1, opens_over side o b right ∙ heard, stays_over o o' b b' right right' takes.client takes.target)
  hands_happens buffer (Shut Client) heard is takes = closes_after Client buffer (Shut Client) heard takes refl refl
  hands_happens buffer (Shut Target) heard is takes = closes_after Target buffer (Shut Target) heard takes refl refl
  hands_happens buffer (Failed Client) heard is takes = (
    closes_after Client buffer (Failed Client) heard takes refl refl,
    faults_failed b.client b'.client o.client.faults o'.client.faults heard takes.client is.1,
  )
  hands_happens buffer (Failed Target) heard is takes = (
    closes_after Target buffer (Failed Target) heard takes refl refl,
    faults_failed b.target b'.target o.target.faults o'.target.faults heard takes.target is.1,
  )
  hands_happens buffer Quiet heard is takes =
      (stays_over o o' b b' right right' takes.client takes.target, empty_over Client is.1, empty_over Target is.2)

  -- a side that was lost has failed
  pub loses_happens : (side : Side) (buffer : List ℕ) → opens (state_in side b) ≡ true → Counts o o'
      → Fails side b b' Lost → Closes side (outside_over o b) (outside_over o' b')
      × Rose (link_of side (outside_over o b)).faults (link_of side (outside_over o' b')).faults
  loses_happens Client buffer was counts loses = (
    closes_over o o' b b' right right' Client was (ap opens loses.side_is) loses.other_is,
    faults_lost b.client b'.client o.client.faults o'.client.faults was loses.side_is counts.client_faults,
  )
  loses_happens Target buffer was counts loses = (
    closes_over o o' b b' right right' Target was (ap opens loses.side_is) loses.other_is,
    faults_lost b.target b'.target o.target.faults o'.target.faults was loses.side_is counts.target_faults,
  )

pub same_is : {n n' : ℕ} → n' ≡ n → n ≤ n'
same_is is = omega arith

-- what was lost stays so
lost_fails : (side : Side) (b b' : Book) (state : SideState) → Fails side b b' state
    → (is_lost (state_in side b) ≡ true → is_lost state ≡ true) → (k : Side) → is_lost (state_in k b) ≡ true
    → is_lost (state_in k b') ≡ true
lost_fails Client b b' state fails stays Client is = ap is_lost fails.side_is ∙ stays is
lost_fails Client b b' state fails stays Target is = ap is_lost fails.other_is ∙ is
lost_fails Target b b' state fails stays Client is = ap is_lost fails.other_is ∙ is
lost_fails Target b b' state fails stays Target is = ap is_lost fails.side_is ∙ stays is

-- no count falls where a side failed
pub counts_fails : (side : Side) (o o' : Outside) (b b' : Book) (state : SideState) → Counts o o'
    → Fails side b b' state → (is_lost (state_in side b) ≡ true → is_lost state ≡ true)
    → Counts (outside_over o b) (outside_over o' b')
counts_fails side o o' b b' state counts fails stays =
    counts_over o o' b b' counts (lost_fails side b b' state fails stays Client)
    (lost_fails side b b' state fails stays Target) (same_is fails.open_refusals)

counts_takes : (o o' : Outside) (b b' : Book) (buffer : List ℕ) (happening : Happening) → Counts o o'
    → Takes b b' buffer happening → Counts (outside_over o b) (outside_over o' b')
counts_takes o o' b b' buffer happening counts takes =
    counts_over o o' b b' counts
    (λ is. ap is_lost takes.client ∙ lost_after Client happening b.client ∙ is)
    (λ is. ap is_lost takes.target ∙ lost_after Target happening b.target ∙ is) (same_is takes.open_refusals)

module _ (o o' : Outside) (b b' : Book) (buffer : List ℕ) (happening : Happening) where
  hands_over : Hears o o' buffer happening → Takes b b' buffer happening → is_heard happening b ≡ true
      → HasOpen (outside_over o b) → Hears (outside_over o b) (outside_over o' b') buffer happening
  hands_over hears takes heard one =
      let right = has_right o b one in
      let right' = hands_right o o' b b' buffer happening hears.happens takes right in
      record {
        log = ap Some takes.entries;
        waits = hears.waits;
        counts = counts_takes o o' b b' buffer happening hears.counts takes;
        asked = hears.asked;
        happens = hands_happens o o' b b' right right' buffer happening heard hears.happens takes;
      }

  refuses_over : Hears o o' buffer happening → Fails (blamed happening b) b b' Lost → HasOpen (outside_over o b)
      → Hears (outside_over o b) (outside_over o' b') buffer (Failed (blamed happening b))
  refuses_over hears loses one =
      let right = has_right o b one in
      let right' = refuses_right o o' b b' buffer happening hears.happens loses right in
      record {
        log = ap Some loses.entries;
        waits = hears.waits;
        counts = counts_fails (blamed happening b) o o' b b' Lost hears.counts loses (λ is. refl);
        asked = hears.asked;
        happens = loses_happens o o' b b' right right' (blamed happening b) buffer
            (ap opens (blamed_open happening o b one)) hears.counts loses;
      }

  -- what is heard over a recorder
  pub hears_over : (result : Happening) → Hears o o' buffer happening → HearsBy b b' buffer happening result
      → HasOpen (outside_over o b) → Hears (outside_over o b) (outside_over o' b') buffer result
  hears_over result hears (inl hands) one =
      subst (λ (h : Happening). Hears (outside_over o b) (outside_over o' b') buffer h) (sym hands.answer)
      (hands_over hears hands.takes hands.heard one)
  hears_over result hears (inr refuses) one =
      subst (λ (h : Happening). Hears (outside_over o b) (outside_over o' b') buffer h) (sym refuses.answer)
      (refuses_over hears refuses.loses one)
