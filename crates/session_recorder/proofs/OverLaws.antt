-- What the recorder tells of its wires, where it takes both sides for what they are.
use Rattle.std.proofs.Common.{◌≡◌, ℕ, ◌≤◌, ◌<◌, Bool, true, false, ◌⊎◌, inl, inr, ◌&&◌, if◌then◌else◌, length, arith, refl, sym, ap, ◌∙◌}
use Rattle.wire_core.specs.Links.{IsWithin}
use Rattle.wire_core.specs.Outside.{Counts, Closes, Happens, HasOpen, IsOpen, KeepsOpen, Link, Outside, StaysOpen}
use Rattle.wire_core.specs.Outside.{link_of, other_side}
use Rattle.wire_core.specs.declared.outside.Side.{Side}
use Rattle.wire_core.specs.declared.outside.Side.TheVariants.{Client, Target}
use Rattle.wire_core.specs.declared.outside.Happening.{Happening}
use Rattle.wire_core.specs.declared.outside.Happening.TheVariants.{Bytes, Shut, Failed, Quiet}
use Rattle.session_recorder.specs.Books.{blamed, named, state_in}
use Rattle.session_recorder.specs.Recording.{agrees, outside_over}
use Rattle.session_recorder.specs.States.{opens, is_lost, fits, closed}
use Rattle.session_recorder.specs.declared.book.Book.{Book}
use Rattle.session_recorder.specs.declared.side_state.SideState.{SideState}
use Rattle.session_recorder.specs.declared.side_state.SideState.TheVariants.{Open}
use Rattle.session_recorder.proofs.StateLaws.{and_both, and_true, opens_is, opens_closed, fits_kept, fits_open, faults_grow}
use Rattle.session_recorder.proofs.StateLaws.{sum_grows}

-- a side's link is as it is taken for
abbrev pub Fits : Side → Outside → Book → Type 0
Fits side o b = fits (state_in side b) (link_of side o) ≡ true

pub side_fits : (side : Side) (o : Outside) (b : Book) → agrees o b ≡ true → Fits side o b
side_fits Client o b is = (and_both _ _ is).0
side_fits Target o b is = (and_both _ _ is).1

pub both_fit : (o : Outside) (b : Book) → Fits Client o b → Fits Target o b → agrees o b ≡ true
both_fit o b client target = and_true _ _ client target

-- where one side and the other fit, both do
pub sides_fit : (side : Side) (o : Outside) (b : Book) → Fits side o b → Fits (other_side side) o b → agrees o b ≡ true
sides_fit Client o b this that = both_fit o b this that
sides_fit Target o b this that = both_fit o b that this

-- Which sides are open ------------------------------------------------------------------------------------------------

-- a side is open where it is taken for that
pub opens_over : (side : Side) (o : Outside) (b : Book) → agrees o b ≡ true
    → (link_of side (outside_over o b)).is_open ≡ opens (state_in side b)
opens_over Client o b is = ap (λ (a : Bool). a && opens b.client) is
opens_over Target o b is = ap (λ (a : Bool). a && opens b.target) is

-- a side that the recorder tells as open is so, and rightly
pub open_parts : (side : Side) (o : Outside) (b : Book) → IsOpen side (outside_over o b)
    → (agrees o b ≡ true) × (opens (state_in side b) ≡ true)
open_parts Client o b is = and_both _ _ is
open_parts Target o b is = and_both _ _ is

pub open_inside : (side : Side) (o : Outside) (b : Book) → IsOpen side (outside_over o b) → IsOpen side o
open_inside Client o b is =
    let parts = open_parts Client o b is in fits_open b.client o.client parts.1 (side_fits Client o b parts.0)
open_inside Target o b is =
    let parts = open_parts Target o b is in fits_open b.target o.target parts.1 (side_fits Target o b parts.0)

pub one_inside : (o : Outside) (b : Book) → HasOpen (outside_over o b) → HasOpen o
one_inside o b (inl client) = inl (open_inside Client o b client)
one_inside o b (inr target) = inr (open_inside Target o b target)

pub has_right : (o : Outside) (b : Book) → HasOpen (outside_over o b) → agrees o b ≡ true
has_right o b (inl client) = (open_parts Client o b client).0
has_right o b (inr target) = (open_parts Target o b target).0

pub has_state : (o : Outside) (b : Book) → HasOpen (outside_over o b)
    → (opens b.client ≡ true) ⊎ (opens b.target ≡ true)
has_state o b (inl client) = inl (open_parts Client o b client).1
has_state o b (inr target) = inr (open_parts Target o b target).1

-- Which side is blamed ------------------------------------------------------------------------------------------------

blamed_opens : (side : Side) (b : Book) → (opens b.client ≡ true) ⊎ (opens b.target ≡ true)
    → opens (state_in (if opens (state_in side b) then side else other_side side) b) ≡ true
blamed_opens Client b one = by (opens b.client) refl
  where
    by : (k : Bool) → opens b.client ≡ k → opens (state_in (if k then Client else Target) b) ≡ true
    by true is = is
    by false is = elim one [ inl client ↦ absurd cc | inr target ↦ target ]
blamed_opens Target b one = by (opens b.target) refl
  where
    by : (k : Bool) → opens b.target ≡ k → opens (state_in (if k then Target else Client) b) ≡ true
    by true is = is
    by false is = elim one [ inl client ↦ client | inr target ↦ absurd cc ]

pub blamed_open : (happening : Happening) (o : Outside) (b : Book) → HasOpen (outside_over o b)
    → state_in (blamed happening b) b ≡ Open
blamed_open happening o b one = opens_is _ (blamed_opens (named happening) b (has_state o b one))

-- a side that what came names, and that isn't blamed, is not taken for open
other_shut : (side : Side) (b : Book)
    → side ≡ other_side (if opens (state_in side b) then side else other_side side)
    → opens (state_in side b) ≡ false
other_shut Client b = by (opens b.client) refl
  where
    by : (k : Bool) → opens b.client ≡ k → Client ≡ other_side (if k then Client else Target) → opens b.client ≡ false
    by true is same = absurd cc
    by false is same = is
other_shut Target b = by (opens b.target) refl
  where
    by : (k : Bool) → opens b.target ≡ k → Target ≡ other_side (if k then Target else Client) → opens b.target ≡ false
    by true is same = absurd cc
    by false is same = is

pub unblamed_shut : (happening : Happening) (b : Book) → named happening ≡ other_side (blamed happening b)
    → opens (state_in (named happening) b) ≡ false
unblamed_shut happening b is = other_shut (named happening) b is

-- Two moments ---------------------------------------------------------------------------------------------------------

module _ (o o' : Outside) (b b' : Book) (right : agrees o b ≡ true) (right' : agrees o' b' ≡ true) where
  pub keeps_over : (side : Side) → state_in side b' ≡ state_in side b
      → KeepsOpen side (outside_over o b) (outside_over o' b')
  keeps_over side same = opens_over side o' b' right' ∙ ap opens same ∙ sym (opens_over side o b right)

  pub stays_over : b'.client ≡ b.client → b'.target ≡ b.target → StaysOpen (outside_over o b) (outside_over o' b')
  stays_over client target = record { client = keeps_over Client client; target = keeps_over Target target }

  pub closes_over : (side : Side) → opens (state_in side b) ≡ true → opens (state_in side b') ≡ false
      → state_in (other_side side) b' ≡ state_in (other_side side) b
      → Closes side (outside_over o b) (outside_over o' b')
  closes_over side was is same = record {
    was_open = opens_over side o b right ∙ was;
    closed = opens_over side o' b' right' ∙ is;
    other = keeps_over (other_side side) same;
  }

-- no count falls, where none of the wires inside does and what is lost stays so
pub counts_over : (o o' : Outside) (b b' : Book) → Counts o o' → (is_lost b.client ≡ true → is_lost b'.client ≡ true)
    → (is_lost b.target ≡ true → is_lost b'.target ≡ true) → b.open_refusals ≤ b'.open_refusals
    → Counts (outside_over o b) (outside_over o' b')
counts_over o o' b b' counts client target more = record {
  client_faults = faults_grow b.client b'.client o.client.faults o'.client.faults client counts.client_faults;
  target_faults = faults_grow b.target b'.target o.target.faults o'.target.faults target counts.target_faults;
  client_empties = counts.client_empties;
  target_empties = counts.target_empties;
  open_faults = sum_grows o.open_faults o'.open_faults b.open_refusals b'.open_refusals counts.open_faults more;
}
