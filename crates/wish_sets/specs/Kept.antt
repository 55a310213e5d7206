-- How wishes are kept: a slot for each that is wished or installed, in wish order, and fixed ones for exceptions and
-- for steps, so that these take no memory.
use Rattle.std.specs.Prelude.{◌≡◌, ◌+◌, ◌<◌, ◌^◌, ◌&&◌, ◌||◌, not, Bool, true, false, if◌then◌else◌}
use Rattle.std.specs.Prelude.{List, [], ◌∷◌, ◌++◌, map, length, Option, Some, None, is_some}
use Rattle.std.specs.List.{AllByRecursion}
use Rattle.std.specs.List.Sorted.{IsStrictlySortedBy}
use Rattle.std.specs.Ordering.{is_lt}
use Rattle.wish_sets.specs.declared.slot.Slot.{Slot}
use Rattle.wish_sets.specs.declared.wants.Wants.{Wants}
use Rattle.wish_sets.specs.declared.wish.Depth.TheVariants.{Into, Over}
use Rattle.wish_sets.specs.declared.wish.StepWish.{StepWish}
use Rattle.wish_sets.specs.declared.wish.Wish.{Wish}
use Rattle.wish_sets.specs.declared.wish.Wish.TheVariants as wishes
use Rattle.wish_sets.specs.Order.{in_order, is_wish, wish_cmp, wish_rank}
use Rattle.wish_sets.specs.Slots.{wishes_in, requests_in, refusals_in, new_slot, wanted_slot}
use Rattle.wish_sets.specs.Wanted.{Wanted}
use Rattle.wish_sets.specs.Wished.{watched, stops, thrown, stepping}
use Rattle.wish_sets.specs.Wishes.{Wishes}

-- what is wanted
abbrev pub wanted_by : Wants → Wanted
wanted_by wants = record {
  lists = wants.lists.items;
  functions = wants.functions;
  caught = wants.caught;
  uncaught = wants.uncaught;
  step = wants.step;
  classes = wants.classes.entries;
}

-- what is wanted, and what stands
abbrev pub wishes_by : Wants → List Slot → Wishes
wishes_by wants slots =
    record { wanted = wanted_by wants; installed = requests_in slots; refused = refusals_in slots }

-- all that is wished but exceptions and the step
abbrev pub listed_wishes : Wanted → List Wish
listed_wishes wanted = wishes.ThreadStart ∷ wishes.ThreadDeath ∷ map wishes.Watch (watched wanted) ++ stops wanted

-- the wish of a step
abbrev pub step_wish : StepWish → Wish
step_wish step = wishes.Step step.thread step.depth

-- a slot for each two flags of exceptions of which one is set, and two for steps
abbrev pub fixed_slots : List Slot
fixed_slots =
    new_slot (wishes.Thrown false true) false ∷ new_slot (wishes.Thrown true false) false
    ∷ new_slot (wishes.Thrown true true) false ∷ new_slot (wishes.Step (record { 0 = 0 }) Into) false
    ∷ new_slot (wishes.Step (record { 0 = 0 }) Over) false ∷ []

-- exceptions of these flags are wished, and no others
abbrev pub with_thrown : Bool → Bool → List Slot → List Slot
with_thrown caught uncaught (p ∷ q ∷ r ∷ steps) =
    wanted_slot (not caught && uncaught) p ∷ wanted_slot (caught && not uncaught) q
    ∷ wanted_slot (caught && uncaught) r ∷ steps
with_thrown caught uncaught fixed = fixed

-- the two slots of steps are changed
abbrev pub at_steps : (Slot → Slot → List Slot) → List Slot → List Slot
at_steps change (p ∷ q ∷ r ∷ a ∷ b ∷ []) = p ∷ q ∷ r ∷ change a b
at_steps change fixed = fixed

-- a slot is that of a step
abbrev pub is_of_step : Option StepWish → Slot → Bool
is_of_step None slot = false
is_of_step (Some step) slot = is_wish slot.wish (step_wish step)

-- the slot of a step that isn't installed becomes that of another step
abbrev pub replaced : StepWish → Slot → Slot → List Slot
replaced step a b =
    if is_some b.request then new_slot (step_wish step) false ∷ b ∷ []
    else a ∷ new_slot (step_wish step) false ∷ []

-- two slots in wish order
abbrev pub two_slots : Slot → Slot → List Slot
two_slots a b = if is_lt (wish_cmp b.wish a.wish) then b ∷ a ∷ [] else a ∷ b ∷ []

-- the slots of steps stand out of wish order
abbrev pub are_backwards : List Slot → Bool
are_backwards (p ∷ q ∷ r ∷ a ∷ b ∷ []) = is_lt (wish_cmp b.wish a.wish)
are_backwards fixed = false

-- two slots of a list, in wish order
abbrev pub ordered : List Slot → List Slot
ordered (a ∷ b ∷ []) = two_slots a b
ordered slots = slots

-- a step has a slot: its own where there is one, else that of a step which isn't installed
abbrev pub with_step_slot : StepWish → Slot → Slot → List Slot
with_step_slot step a b =
    if not (is_of_step (Some step) a) && not (is_of_step (Some step) b) then ordered (replaced step a b)
    else a ∷ b ∷ []

-- this step is wished, or none is
abbrev pub wanted_steps : Option StepWish → Slot → Slot → List Slot
wanted_steps step a b = wanted_slot (is_of_step step a) a ∷ wanted_slot (is_of_step step b) b ∷ []

-- it has a slot
abbrev pub placed_step : Option StepWish → List Slot → List Slot
placed_step None fixed = fixed
placed_step (Some step) fixed = at_steps (with_step_slot step) fixed

abbrev pub with_step_wanted : Option StepWish → List Slot → List Slot
with_step_wanted step fixed = at_steps (wanted_steps step) (placed_step step fixed)

-- What is kept of exceptions: a slot for each two flags of which one is set.
pub record AreThrown (wanted : Wanted) (p q r : Slot) : Type 0 where
  pub uncaught : p.wish ≡ wishes.Thrown false true
  pub caught : q.wish ≡ wishes.Thrown true false
  pub both : r.wish ≡ wishes.Thrown true true
  pub wishes : wishes_in (p ∷ q ∷ r ∷ []) ≡ thrown wanted.caught wanted.uncaught

-- What is kept of steps: two slots, of which one at most is installed.
pub record AreSteps (wanted : Wanted) (a b : Slot) : Type 0 where
  pub first : StepWish
  pub second : StepWish
  pub first_is : a.wish ≡ step_wish first
  pub second_is : b.wish ≡ step_wish second
  pub wishes : wishes_in (a ∷ b ∷ []) ≡ stepping wanted.step
  pub once : (is_some a.request && is_some b.request) ≡ false

-- those two kinds
pub record AreFixed (wanted : Wanted) (fixed : List Slot) : Type 0 where
  pub p : Slot
  pub q : Slot
  pub r : Slot
  pub a : Slot
  pub b : Slot
  pub these : fixed ≡ p ∷ q ∷ r ∷ a ∷ b ∷ []
  pub exceptions : AreThrown wanted p q r
  pub steps : AreSteps wanted a b

-- what was refused is wished, and isn't installed
abbrev pub is_sound : Slot → Bool
is_sound slot = not slot.refused || (slot.wished && not (is_some slot.request))

-- What is kept fits what is wanted: each wish has a slot, all slots are in wish order, and places fit their type.
pub record AreKept (wanted : Wanted) (slots fixed : List Slot) : Type 0 where
  pub sorted : IsStrictlySortedBy wish_cmp (map (λ slot. slot.wish) (slots ++ fixed))
  pub early : AllByRecursion (λ slot. wish_rank slot.wish < 4) slots
  pub wishes : wishes_in slots ≡ in_order (listed_wishes wanted)
  pub ends : AreFixed wanted fixed
  pub sound : AllByRecursion (λ slot. is_sound slot ≡ true) (slots ++ fixed)
  pub counted : length slots + 5 < 2 ^ 31
