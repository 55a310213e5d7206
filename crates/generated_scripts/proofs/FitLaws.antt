-- A generated script is fit for a target.
use Rattle.std.proofs.Common.{◌≡◌, ℕ, zero, suc, ◌+◌, ◌%◌, ◌≤◌, List, [], ◌∷◌, ◌++◌, Some, None, Ok, true, append_assoc, arith, refl, subst, sym}
use Rattle.std.specs.List.{IsDistinct}
use Rattle.jdwp_events.specs.declared.composite.Composite.{Composite}
use Rattle.jdwp_events.specs.declared.event.Event.TheVariants.{VMDeath}
use Rattle.jdwp_events.specs.declared.kind.Policy.TheVariants.{NoThread}
use Rattle.world_model.specs.declared.moves.Move.{Move}
use Rattle.world_model.specs.declared.moves.Move.TheVariants.{Death}
use Rattle.world_model.specs.declared.world.World.{World}
use Rattle.world_model.specs.Moving.{moved}
use Rattle.world_model.specs.Sound.{IsSound}
use Rattle.world_model.proofs.MoveSound.{moves_sound}
use Rattle.target_scripts.specs.Fit.{AreMade, IsFit}
use Rattle.generated_scripts.specs.Generated.{generated}
use Rattle.generated_scripts.specs.Numbers.{for_each_to, number_behind}
use Rattle.generated_scripts.specs.Worlds.{move_to, moves, world_at}

-- The world at the start is sound, whatever number it has.
pub world_sound : (number : ℕ) → IsSound (world_at number 0 0)
unfolding IsDistinct
world_sound number = record {
  program = record {
    classes = (tt, tt);
    no_null = (omega arith, tt);
    class_sizes = (omega arith, tt);
    chains = (refl, tt);
    methods = (tt, tt);
    method_sizes = (omega arith, tt);
    fields = tt;
    field_sizes = tt;
  };
  values = record {
    objects = (tt, tt);
    object_sizes = (omega arith, tt);
    puts = tt;
    arrays = tt;
    frame_ids = (tt, tt);
    frames = (
      record {
        id_size = omega arith;
        there = refl;
        this_size = omega arith;
        slots = (tt, tt);
      },
      tt,
    );
    few = (omega arith, tt);
  };
  hold = record {
    distinct = tt;
    numbers = tt;
    next_number = (omega arith, omega arith);
    few = omega arith;
  };
}

-- where the thread stands behind so many moves, and the value that `n` has there
abbrev world_behind : ℕ → ℕ → World
world_behind number zero = world_at number 0 0
world_behind number (suc i) = world_at number (suc i % number) (number_behind number (suc i))

-- from wherever it stands, the thread comes to the next line, and no request is matched
comes : (number index value i : ℕ) → moved (world_at number index value) (move_to number i)
    ≡ Ok (world_at number (i % number) (number_behind number i), None)
comes number index value i = refl

comes_next : (number i : ℕ) → moved (world_behind number i) (move_to number (suc i))
    ≡ Ok (world_behind number (suc i), None)
comes_next number zero = comes number 0 0 1
comes_next number (suc i) = comes number (suc i % number) (number_behind number (suc i)) (suc (suc i))

-- all worlds on the way are sound
sound_behind : (number i : ℕ) → IsSound (world_behind number i)
sound_behind number zero = world_sound number
sound_behind number (suc i) =
    moves_sound (world_behind number i) (world_behind number (suc i)) (move_to number (suc i)) None
    (sound_behind number i) (comes_next number i)

-- what can be made behind so many moves can be made behind them from the start
all_made : (number i : ℕ) (rest : List Move) → AreMade (world_behind number i) rest
    → AreMade (world_behind number 0) (for_each_to (λ i. move_to number i ∷ []) i ++ rest)
all_made number zero rest made = made
all_made number (suc i) rest made =
    subst (AreMade (world_behind number 0))
    (sym (append_assoc (for_each_to (λ i. move_to number i ∷ []) i) (move_to number (suc i) ∷ []) rest))
    (all_made number i (move_to number (suc i) ∷ rest)
    ((world_behind number (suc i), None), comes_next number i, sound_behind number (suc i), made))

-- the world of a target that has ended
abbrev ended : World → World
ended w = record w { dead = true }

-- the end is told unasked, and suspends nothing
abbrev end : Composite
end = record { policy = NoThread; events = VMDeath 0 ∷ [] }

ends : (number index value : ℕ) → moved (world_at number index value) Death
    ≡ Ok (ended (world_at number index value), Some end)
ends number index value = refl

ends_behind : (number i : ℕ) → moved (world_behind number i) Death ≡ Ok (ended (world_behind number i), Some end)
ends_behind number zero = ends number 0 0
ends_behind number (suc i) = ends number (suc i % number) (number_behind number (suc i))

end_made : (number i : ℕ) → AreMade (world_behind number i) (Death ∷ [])
end_made number i = (
  (ended (world_behind number i), Some end),
  ends_behind number i,
  moves_sound (world_behind number i) (ended (world_behind number i)) Death (Some end) (sound_behind number i)
      (ends_behind number i),
  tt,
)

pub generated_fit : (number : ℕ) → IsFit (generated number)
generated_fit number = record {
  sound = world_sound number;
  requests = refl;
  free = refl;
  alive = refl;
  moves = all_made number number (Death ∷ []) (end_made number number);
  begin = tt;
  limits = record {
    some_turns = omega arith;
    few_turns = omega arith;
    some_quiet = omega arith;
    some_waiting = omega arith;
  };
}
