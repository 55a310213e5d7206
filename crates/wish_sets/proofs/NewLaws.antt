-- What is kept before anything was asked for.
use Rattle.std.proofs.Common.{◌≡◌, ◌<◌, true, false, [], ◌∷◌, refl, arith}
use Rattle.std.specs.List.Sorted.{IsStrictlySortedBy}
use Rattle.wish_sets.specs.declared.wish.Wish.TheVariants as wishes
use Rattle.wish_sets.specs.declared.wish.Depth.TheVariants.{Into, Over}
use Rattle.wish_sets.specs.declared.wish.Wish.{Wish}
use Rattle.wish_sets.specs.Counts.{wishers, AreCounts}
use Rattle.wish_sets.specs.Forming.{has_its_slot}
use Rattle.wish_sets.specs.Kept.{fixed_slots, AreKept}
use Rattle.wish_sets.specs.Slots.{new_slot}
use Rattle.wish_sets.specs.Wanted.{nothing_wanted}

pub new_kept : AreKept nothing_wanted (new_slot wishes.ThreadStart true ∷ new_slot wishes.ThreadDeath true ∷ [])
    fixed_slots
unfolding IsStrictlySortedBy
new_kept = record {
  sorted = (
    (refl, (refl, (refl, (refl, (refl, (refl, tt)))))),
    (
      (refl, (refl, (refl, (refl, (refl, tt))))),
      ((refl, (refl, (refl, (refl, tt)))), ((refl, (refl, (refl, tt))), ((refl, (refl, tt)), ((refl, tt), (tt, tt))))),
    ),
  );
  early = (omega arith, (omega arith, tt));
  wishes = refl;
  ends = record {
    p = new_slot (wishes.Thrown false true) false;
    q = new_slot (wishes.Thrown true false) false;
    r = new_slot (wishes.Thrown true true) false;
    a = new_slot (wishes.Step (record { 0 = 0 }) Into) false;
    b = new_slot (wishes.Step (record { 0 = 0 }) Over) false;
    these = refl;
    exceptions = record { uncaught = refl; caught = refl; both = refl; wishes = refl };
    steps = record {
      first = record { thread = record { 0 = 0 }; depth = Into };
      second = record { thread = record { 0 = 0 }; depth = Over };
      first_is = refl;
      second_is = refl;
      wishes = refl;
      once = refl;
    };
  };
  sound = (refl, (refl, (refl, (refl, (refl, (refl, (refl, tt)))))));
  counted = omega arith;
}

-- nothing is counted but the starts and ends of threads
pub new_counts : AreCounts nothing_wanted (new_slot wishes.ThreadStart true ∷ new_slot wishes.ThreadDeath true ∷ [])
new_counts = record {
  slotted = each;
  numbers = (refl, (refl, tt));
  wished = (refl, (refl, tt));
}
  where
    each : (wish : Wish) → 0 < wishers wish nothing_wanted
        → has_its_slot (new_slot wishes.ThreadStart true ∷ new_slot wishes.ThreadDeath true ∷ []) wish ≡ true
    each wishes.ThreadStart above = refl
    each wishes.ThreadDeath above = refl
    each (wishes.Watch path) above = absurd (let h : 0 < 0 = above in omega (arith, h))
    each (wishes.Stop at) above = absurd (let h : 0 < 0 = above in omega (arith, h))
    each (wishes.Thrown caught uncaught) above = absurd (let h : 0 < 0 = above in omega (arith, h))
    each (wishes.Step thread depth) above = absurd (let h : 0 < 0 = above in omega (arith, h))
