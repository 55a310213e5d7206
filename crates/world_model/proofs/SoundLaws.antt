use Rattle.std.proofs.Common.{◌≡◌, ℕ, ◌+◌, ◌-◌, ◌<◌, ◌^◌, true, false, List, [], ◌∷◌, ◌++◌}
use Rattle.std.proofs.Common.{map, sym, subst, arith, nat_eq, nat_lt, ℤ}
use Rattle.std.specs.Prelude.{nat_abs}
use Rattle.std.specs.List.{AllByRecursion, IsDistinct}
use Rattle.jdwp_values.specs.declared.id.FrameId.{FrameId}
use Rattle.jdwp_values.specs.declared.id.ObjectId.{ObjectId}
use Rattle.jdwp_values.specs.declared.id.ThreadId.{ThreadId}
use Rattle.jdwp_values.specs.declared.value.Value.{Value}
use Rattle.jdwp_values.specs.Spelling.{FitsValue}
use Rattle.jdwp_commands.specs.declared.answer.Answer.TheVariants as answers
use Rattle.jdwp_commands.specs.declared.asked.Replied.{Replied}
use Rattle.jdwp_commands.specs.declared.effect.Effect.{Effect}
use Rattle.jdwp_commands.specs.declared.effect.Effect.TheVariants as effects
use Rattle.world_model.specs.declared.rows.Put.{Put}
use Rattle.world_model.specs.declared.rows.WorldObject.{WorldObject}
use Rattle.world_model.specs.declared.rows.WorldString.{WorldString}
use Rattle.world_model.specs.declared.rows.WorldThread.{WorldThread}
use Rattle.world_model.specs.declared.world.World.{World}
use Rattle.world_model.specs.Effects.{applied, living, with_put, with_element, with_slot}
use Rattle.world_model.specs.Kept.{program_of}
use Rattle.world_model.specs.Requests.{allowed}
use Rattle.world_model.specs.Sound.{IsHold, IsSound, IsOfSize}
use Rattle.world_model.specs.Storing.{field_stored, element_stored, slot_stored}
use Rattle.world_model.proofs.ChangeLaws.{array_id, same_arrays, arrays_stay, same_frames, frames_stay, few_frames}
use Rattle.world_model.proofs.HoldLaws.{hold_left, hold_with, free_found, all_push}
use Rattle.world_model.proofs.KeptLaws.{Leaves, leaves, leaves_with, leaves_suspended, leaves_set, leaves_applied}
use Rattle.world_model.proofs.ReferenceLaws.{all_front}
use Rattle.world_model.proofs.StoringLaws.{IsForArray, put_is, slot_is, element_is}

abbrev pub StaysSound : World → Replied → Type 0
StaysSound now replied = IsSound now

abbrev held : World → Type 0
held w = IsHold w.requests w.next_request w.count

less : (w : World) → held w → IsHold w.requests w.next_request (w.count - 1)
less w h = let few : w.count < 2 ^ 64 = h.few in
    record { distinct = h.distinct; numbers = h.numbers; next_number = h.next_number; few = omega arith }

more : (w : World) → held w → nat_lt (w.count + 1) (2 ^ 64) ≡ true → IsHold w.requests w.next_request (w.count + 1)
more w h e = record { distinct = h.distinct; numbers = h.numbers; next_number = h.next_number; few = grind arith }

none : (w : World) → held w → IsHold [] w.next_request 0
unfolding IsDistinct
none w h = record { distinct = tt; numbers = tt; next_number = h.next_number; few = omega arith }

-- Values -------------------------------------------------------------------------------------------------------------

distinct_front : (xs ys : List ℕ) → IsDistinct nat_eq (xs ++ ys) → IsDistinct nat_eq xs
unfolding IsDistinct
distinct_front [] ys h = tt
distinct_front (x ∷ xs) ys h = (all_front (λ y. nat_eq x y ≡ false) xs ys h.0, distinct_front xs ys h.1)

pub put_sound : (w : World) (put : Put) → IsSound w → FitsValue w.sizes put.value → IsSound (with_put w put)
put_sound w put s fits = record {
  program = s.program;
  values = record {
    objects = s.values.objects;
    object_sizes = s.values.object_sizes;
    puts = all_push (λ row. FitsValue w.sizes row.value) w.puts put s.values.puts fits;
    arrays = s.values.arrays;
    frame_ids = s.values.frame_ids;
    frames = s.values.frames;
    few = s.values.few;
  };
  hold = s.hold;
}

element_sound : (w : World) (id : ObjectId) (place : ℕ) (value : Value) → IsSound w → IsForArray w id value
    → IsSound (with_element w id place value)
element_sound w id place value s is =
    let program = program_of w in
    let others = map (λ (row : WorldObject). row.id.0) w.objects
    ++ (map (λ (row : WorldString). row.id.0) w.strings ++ map (λ (row : WorldThread). row.id.0) w.threads) in
    let same = sym (same_arrays program id place value w.arrays) in
    let apart = distinct_front (map array_id w.arrays) others s.values.objects in
    record {
      program = s.program;
      values = record {
        objects = subst (λ ids. IsDistinct nat_eq (ids ++ others)) same s.values.objects;
        object_sizes =
            subst (λ ids. AllByRecursion (IsOfSize w.sizes.object) (ids ++ others)) same s.values.object_sizes;
        puts = s.values.puts;
        arrays = arrays_stay program id place value w.arrays is.row is.is_row is.element apart s.values.arrays;
        frame_ids = s.values.frame_ids;
        frames = s.values.frames;
        few = s.values.few;
      };
      hold = s.hold;
    }

slot_sound : (w : World) (thread : ThreadId) (frame : FrameId) (slot : ℤ) (value : Value) → IsSound w
    → FitsValue w.sizes value → IsSound (with_slot w thread frame slot value)
slot_sound w thread frame slot value s fits =
    let program = program_of w in
    record {
      program = s.program;
      values = record {
        objects = s.values.objects;
        object_sizes = s.values.object_sizes;
        puts = s.values.puts;
        arrays = s.values.arrays;
        frame_ids = subst (IsDistinct nat_eq) (sym (same_frames program thread frame slot value w.frames))
            s.values.frame_ids;
        frames = frames_stay program thread frame slot value w.frames fits s.values.frames;
        few = few_frames program thread frame slot value w.frames w.threads s.values.few;
      };
      hold = s.hold;
    }

-- All commands -------------------------------------------------------------------------------------------------------

pub living_sound : (w : World) (effect : Effect) → IsSound w → Leaves StaysSound (living w effect)
living_sound w effects.Dispose s =
    leaves StaysSound _ _ (record { program = s.program; values = s.values; hold = none w s.hold })
living_sound w effects.Suspend s = leaves_suspended StaysSound w (nat_lt (w.count + 1) (2 ^ 64))
    (λ e. record { program = s.program; values = s.values; hold = more w s.hold e })
living_sound w effects.Resume s =
    leaves StaysSound _ _ (record { program = s.program; values = s.values; hold = less w s.hold })
living_sound w (effects.Exit code) s =
    leaves StaysSound _ _ (record { program = s.program; values = s.values; hold = s.hold })
living_sound w (effects.SetField object field bytes) s =
    leaves_with StaysSound w (with_put w) answers.SetField (field_stored w object field bytes)
    (λ put e. put_sound w put s (put_is w object field bytes put s.values e)) (λ code. s)
living_sound w (effects.SetElement array first bytes) s =
    leaves_with StaysSound w (with_element w array (nat_abs first)) answers.SetElement
    (element_stored w array first bytes)
    (λ value e. element_sound w array (nat_abs first) value s (element_is w array first bytes value s.values e))
    (λ code. s)
living_sound w (effects.Set kind policy modifiers) s =
    leaves_set StaysSound w kind policy modifiers (allowed w kind policy modifiers)
    (λ n e. record {
      program = s.program;
      values = s.values;
      hold = hold_with w.requests _ w.next_request w.count s.hold
          (free_found w.requests w.requests w.next_request n s.hold.next_number e);
    })
    (λ code. s)
living_sound w (effects.Clear kind request) s =
    leaves StaysSound _ _ (record {
      program = s.program;
      values = s.values;
      hold = hold_left _ w.requests w.next_request w.count s.hold;
    })
living_sound w (effects.SetSlot thread frame slot value) s =
    leaves_with StaysSound w (with_slot w thread frame slot) answers.SetSlot (slot_stored w thread frame slot value)
    (λ kept e. slot_sound w thread frame slot kept s (slot_is w thread frame slot value kept s.values e)) (λ code. s)

pub sound : (w : World) (effect : Effect) → IsSound w → Leaves StaysSound (applied w effect)
sound w effect s = leaves_applied StaysSound w effect w.dead s (living_sound w effect s)
