-- The worlds of the examples are sound.
use Rattle.std.proofs.Common.{ℕ, ◌<◌, ◌^◌, refl, arith}
use Rattle.std.specs.List.{IsDistinct}
use Rattle.jdwp_values.specs.Sizes.{IsSize}
use Rattle.joint_examples.specs.Worlds.{later, world}
use Rattle.world_model.specs.Sound.{IsSound}

pub world_sound : (fits : IsSize 8) (count : ℕ) → count < 2 ^ 64 → IsSound (world fits count)
unfolding IsDistinct
world_sound fits count few = record {
  program = record {
    classes = ((refl, tt), (tt, tt));
    no_null = (omega arith, (omega arith, tt));
    class_sizes = (omega arith, (omega arith, tt));
    chains = (refl, (refl, tt));
    methods = (tt, tt);
    method_sizes = (omega arith, tt);
    fields = tt;
    field_sizes = tt;
  };
  values = record {
    objects = ((refl, tt), (tt, tt));
    object_sizes = (omega arith, (omega arith, tt));
    puts = tt;
    arrays = tt;
    frame_ids = ((refl, tt), (tt, tt));
    frames = (
      record { id_size = omega arith; there = refl; this_size = omega arith; slots = tt },
      (record { id_size = omega arith; there = refl; this_size = omega arith; slots = tt }, tt),
    );
    few = (omega arith, (omega arith, tt));
  };
  hold = record {
    distinct = ((refl, tt), (tt, tt));
    numbers = ((omega arith, omega arith), ((omega arith, omega arith), tt));
    next_number = (omega arith, omega arith);
    few = few;
  };
}

pub later_sound : (fits : IsSize 8) → IsSound (later fits)
unfolding IsDistinct
later_sound fits = record {
  program = record {
    classes = ((refl, tt), (tt, tt));
    no_null = (omega arith, (omega arith, tt));
    class_sizes = (omega arith, (omega arith, tt));
    chains = (refl, (refl, tt));
    methods = (tt, tt);
    method_sizes = (omega arith, tt);
    fields = tt;
    field_sizes = tt;
  };
  values = record {
    objects = ((refl, (refl, tt)), ((refl, tt), (tt, tt)));
    object_sizes = (omega arith, (omega arith, (omega arith, tt)));
    puts = tt;
    arrays = tt;
    frame_ids = ((refl, tt), (tt, tt));
    frames = (
      record { id_size = omega arith; there = refl; this_size = omega arith; slots = tt },
      (record { id_size = omega arith; there = refl; this_size = omega arith; slots = tt }, tt),
    );
    few = (omega arith, (omega arith, tt));
  };
  hold = (world_sound fits 0 (omega arith)).hold;
}
