-- What becomes of a world by a command that changes it, and what is replied (JDWP, Detailed Command Information).
use Rattle.std.specs.Prelude.{ℕ, ◌+◌, ◌-◌, ◌^◌, ℤ, nat_abs, nat_lt, Bool, true, not, ◌==◌, ◌&&◌, if◌then◌else◌}
use Rattle.std.specs.Prelude.{List, [], ◌∷◌, ◌++◌, map, filter, set, Option, Some, None, Result, Ok, Err}
use Rattle.std.specs.Ordering.{int_eq}
use Rattle.jdwp_values.specs.declared.id.FrameId.{FrameId}
use Rattle.jdwp_values.specs.declared.id.ObjectId.{ObjectId}
use Rattle.jdwp_values.specs.declared.id.ThreadId.{ThreadId}
use Rattle.jdwp_values.specs.declared.value.Value.{Value}
use Rattle.jdwp_events.specs.declared.kind.EventKind.{EventKind}
use Rattle.jdwp_events.specs.declared.kind.EventKind.TheVariants.{SingleStep}
use Rattle.jdwp_events.specs.declared.kind.Policy.{Policy}
use Rattle.jdwp_events.specs.declared.modifier.Modifier.{Modifier}
use Rattle.jdwp_events.specs.Kinds.{byte_of_kind}
use Rattle.jdwp_commands.specs.declared.answer.Answer.{Answer}
use Rattle.jdwp_commands.specs.declared.answer.Answer.TheVariants as answers
use Rattle.jdwp_commands.specs.declared.asked.Replied.{Replied}
use Rattle.jdwp_commands.specs.declared.asked.Replied.TheVariants as replies
use Rattle.jdwp_commands.specs.declared.effect.Effect.{Effect}
use Rattle.jdwp_commands.specs.declared.effect.Effect.TheVariants as effects
use Rattle.world_model.specs.declared.rows.Installed.{Installed}
use Rattle.world_model.specs.declared.rows.Put.{Put}
use Rattle.slot_values.specs.declared.slot.SlotValue.{SlotValue}
use Rattle.world_model.specs.declared.rows.StepStart.{StepStart}
use Rattle.world_model.specs.declared.rows.WorldArray.{WorldArray}
use Rattle.world_model.specs.declared.rows.WorldFrame.{WorldFrame}
use Rattle.world_model.specs.declared.world.World.{World}
use Rattle.world_model.specs.Codes.{vm_dead}
use Rattle.world_model.specs.Requests.{allowed, free_id, behind_id, step_starts}
use Rattle.world_model.specs.Storing.{field_stored, element_stored, slot_stored}

-- What becomes of a world, and the reply; none where the world has no number left for it.
abbrev pub Outcome : Type 0
Outcome = Option (World × Replied)

-- it is done
abbrev pub done : World → Answer → Outcome
done w answer = Some (w, replies.Answer answer)

-- it is refused, and the world stays
abbrev pub refused : World → ℕ → Outcome
refused w code = Some (w, replies.Error code)

-- it is done with what was found, or refused
abbrev pub done_with : {A : Type 0} → World → (A → World) → Answer → Result A ℕ → Outcome
done_with w change answer (Ok x) = done (change x) answer
done_with w change answer (Err code) = refused w code

-- all threads are suspended once more (JDWP, VirtualMachine command set, Suspend)
abbrev pub suspended : World → Outcome
suspended w =
    if nat_lt (w.count + 1) (2 ^ 64) then done (record w { count = w.count + 1 }) answers.Suspend else None

-- and once less, where they were (JDWP, VirtualMachine command set, Resume)
abbrev pub resumed : World → Outcome
resumed w = done (record w { count = w.count - 1 }) answers.Resume

-- all requests go, and all suspensions (JDWP, VirtualMachine command set, Dispose)
abbrev pub disposed : World → Outcome
disposed w = done (record w { requests = []; steps = []; count = 0 }) answers.Dispose

-- the target ends (JDWP, VirtualMachine command set, Exit)
abbrev pub exited : World → Outcome
exited w = done (record w { dead = true }) answers.Exit

-- whether two kinds are one
abbrev pub same_event : EventKind → EventKind → Bool
same_event a b = byte_of_kind a == byte_of_kind b

-- the requests that are left
abbrev pub requests_left : EventKind → ℕ → List Installed → List Installed
requests_left kind id requests = filter (λ row. not ((row.request == id) && same_event row.wish_kind kind)) requests

-- the starts of steps that are left
abbrev pub steps_left : EventKind → ℕ → List StepStart → List StepStart
steps_left kind id steps = filter (λ row. not ((row.request == id) && same_event SingleStep kind)) steps

-- the request of a kind under a number goes, if it is there (JDWP, EventRequest command set, Clear)
abbrev pub cleared : World → EventKind → ℕ → Outcome
cleared w kind id = done
    (record w { requests = requests_left kind id w.requests; steps = steps_left kind id w.steps }) answers.Clear

-- a request is installed under a number
abbrev pub with_request : World → EventKind → Policy → List Modifier → ℕ → World
with_request w kind policy modifiers id = record w {
  requests = w.requests
      ++ record { request = id; wish_kind = kind; policy = policy; modifiers = modifiers } ∷ [];
  steps = w.steps ++ step_starts w modifiers id;
  next_request = behind_id id;
}

-- a request is installed under the number that is free
abbrev pub installed : World → EventKind → Policy → List Modifier → Option ℕ → Outcome
installed w kind policy modifiers None = None
installed w kind policy modifiers (Some id) = done (with_request w kind policy modifiers id) (answers.Set id)

-- a request is installed where it is allowed
abbrev pub set_where : World → EventKind → Policy → List Modifier → Result (Unit {0}) ℕ → Outcome
set_where w kind policy modifiers (Ok _) = installed w kind policy modifiers (free_id w)
set_where w kind policy modifiers (Err code) = refused w code

-- a request is installed under the next number that is free (JDWP, EventRequest command set, Set)
abbrev pub requested : World → EventKind → Policy → List Modifier → Outcome
requested w kind policy modifiers = set_where w kind policy modifiers (allowed w kind policy modifiers)

-- a value is put to a field
abbrev pub with_put : World → Put → World
with_put w put = record w { puts = w.puts ++ put ∷ [] }

-- a value is put to an element, where it is of this array
abbrev pub array_with : ObjectId → ℕ → Value → WorldArray → WorldArray
array_with id place value row =
    if row.id.0 == id.0 then record row { values = set row.values place value } else row

-- a world with a value put to an element of an array
abbrev pub with_element : World → ObjectId → ℕ → Value → World
with_element w id place value = record w { arrays = map (array_with id place value) w.arrays }

-- a value is put to a slot, where it is this one
abbrev pub slot_with : ℤ → Value → SlotValue → SlotValue
slot_with slot value row = if int_eq row.slot slot then record row { value = value } else row

-- the frame of a thread with an id
abbrev pub is_frame : ThreadId → FrameId → WorldFrame → Bool
is_frame thread frame row = (row.thread.0 == thread.0) && (row.id.0 == frame.0)

-- a value is put to a slot, where it is of this frame
abbrev pub frame_with : ThreadId → FrameId → ℤ → Value → WorldFrame → WorldFrame
frame_with thread frame slot value row =
    if is_frame thread frame row
    then record row { slots = map (slot_with slot value) row.slots } else row

-- a world with a value put to a slot of a frame
abbrev pub with_slot : World → ThreadId → FrameId → ℤ → Value → World
with_slot w thread frame slot value = record w { frames = map (frame_with thread frame slot value) w.frames }

-- what a living target makes of each command
abbrev pub living : World → Effect → Outcome
living w effects.Dispose = disposed w
living w effects.Suspend = suspended w
living w effects.Resume = resumed w
living w (effects.Exit code) = exited w
-- JDWP, ObjectReference command set, SetValues
living w (effects.SetField object field bytes) =
    done_with w (with_put w) answers.SetField (field_stored w object field bytes)
-- JDWP, ArrayReference command set, SetValues
living w (effects.SetElement array first bytes) =
    done_with w (with_element w array (nat_abs first)) answers.SetElement (element_stored w array first bytes)
living w (effects.Set kind policy modifiers) = requested w kind policy modifiers
living w (effects.Clear kind id) = cleared w kind id
-- JDWP, StackFrame command set, SetValues
living w (effects.SetSlot thread frame slot value) =
    done_with w (with_slot w thread frame slot) answers.SetSlot (slot_stored w thread frame slot value)

-- what a target makes of a command; one that has ended does nothing more
abbrev pub applied : World → Effect → Outcome
applied w effect = if w.dead then refused w vm_dead else living w effect
