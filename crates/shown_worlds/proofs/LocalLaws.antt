-- A frame's receiver and its variables.
use Rattle.std.proofs.Common.{◌≡◌, ◌∷◌, ℕ, cond, List, [], refl, ap, ◌∙◌}
use Rattle.std.specs.Prelude.{int_lt, if◌then◌else◌, Option, Some, None, option_and_then, option_map, ok_or, pos, ◌==◌}
use Rattle.std.specs.Prelude.{Result, Ok, Err}
use Rattle.std.specs.Result.{result_ok, result_unwrap_or}
use Rattle.jdwp_commands.specs.declared.answer.Answer.TheVariants as answers
use Rattle.jdwp_commands.specs.declared.listed.Slot.{Slot}
use Rattle.jdwp_values.specs.declared.class.Variable.{Variable}
use Rattle.jdwp_values.specs.declared.id.ClassId.{ClassId}
use Rattle.jdwp_values.specs.declared.id.MethodId.{MethodId}
use Rattle.machine_model.specs.Children.{by_slot, listed_variables, put_variable, this_in, this_plan, variables_plan}
use Rattle.machine_model.specs.Facts.{variables_in}
use Rattle.machine_model.specs.Plans.{answer_in, of_world}
use Rattle.machine_model.specs.Variables.{slots_plan, values_in}
use Rattle.shown_worlds.specs.ChildRows.{frame_row, in_slots, into_slots, this_of}
use Rattle.shown_worlds.specs.Facts.{variables}
use Rattle.shown_worlds.specs.FrameRows.{may_look}
use Rattle.shown_worlds.proofs.FrameLaws.{by_may}
use Rattle.shown_worlds.proofs.PlanLemmas.{must_said}
use Rattle.stop_refs.specs.declared.thing.FrameThing.{FrameThing}
use Rattle.world_model.specs.Classes as rows
use Rattle.world_model.specs.Codes.{invalid_object, not_implemented, told}
use Rattle.world_model.specs.Objects.{reference_in}
use Rattle.world_model.specs.Objects.{this_in as this_there_in}
use Rattle.world_model.specs.Replies.{living_reply}
use Rattle.world_model.specs.Scans.{all_of}
use Rattle.world_model.specs.Threads.{frame_at, frame_in, is_alive, slot_value, slots_in}
use Rattle.world_model.specs.declared.rows.WorldFrame.{WorldFrame}
use Rattle.world_model.specs.declared.world.World.{World}

-- Results -------------------------------------------------------------------------------------------------------------

pub ok_ok_or : {A : Type 0} (o : Option A) (code : ℕ) → result_ok (ok_or o code) ≡ o
ok_ok_or None code = refl
ok_ok_or (Some a) code = refl

pub ok_then : {A B : Type 0} (f : A → Result B ℕ) (r : Result A ℕ)
    → result_ok (rows.and_then f r) ≡ option_and_then (λ a. result_ok (f a)) (result_ok r)
ok_then f (Ok a) = refl
ok_then f (Err code) = refl

pub same_map : {A : Type 0} (o : Option A) → option_map (λ a. a) o ≡ o
same_map None = refl
same_map (Some a) = refl

-- The frame -----------------------------------------------------------------------------------------------------------

frame_known : (w : World) (frame : FrameThing)
    → result_ok (frame_at w frame.thread frame.frame) ≡ frame_row w frame
frame_known w frame =
    by_may (is_alive w frame.thread) (w.count == 0) (ok_or (frame_in w frame.thread frame.frame) not_implemented)
    ∙ ap (λ (o : Option WorldFrame). if may_look w frame.thread then o else None)
    (ok_ok_or (frame_in w frame.thread frame.frame) not_implemented)

this_known : (w : World) (there : Option WorldFrame)
    → option_and_then (λ (row : WorldFrame). result_ok (ok_or (reference_in w row.this) invalid_object)) there
    ≡ option_and_then (λ (row : WorldFrame). reference_in w row.this) there
this_known w None = refl
this_known w (Some row) = ok_ok_or (reference_in w row.this) invalid_object

pub this_there : (w : World) (frame : FrameThing) → of_world (living_reply w) (this_plan frame) ≡ this_of w frame
unfolding of_world
this_there w frame =
    must_said answers.ThisObject this_in (λ v. v) (λ v. refl) (this_there_in w frame.thread frame.frame)
    ∙ same_map (result_ok (this_there_in w frame.thread frame.frame))
    ∙ ok_then (λ (row : WorldFrame). ok_or (reference_in w row.this) invalid_object)
    (frame_at w frame.thread frame.frame)
    ∙ ap (option_and_then (λ (row : WorldFrame). result_ok (ok_or {E = ℕ} (reference_in w row.this) invalid_object)))
    (frame_known w frame)
    ∙ this_known w (frame_row w frame)

slots_known : (slots : List Slot) (row : WorldFrame)
    → option_and_then (λ (r : WorldFrame). result_ok (ok_or (all_of (slot_value r.slots) slots) not_implemented))
    (Some row)
    ≡ all_of (slot_value row.slots) slots
slots_known slots row = ok_ok_or (all_of (slot_value row.slots) slots) not_implemented

-- slots of a frame that may be looked at
pub slots_there : (w : World) (frame : FrameThing) (row : WorldFrame) (slots : List Slot) → frame_row w frame ≡ Some row
    → of_world (living_reply w) (slots_plan frame slots) ≡ all_of (slot_value row.slots) slots
unfolding of_world
slots_there w frame row [] is = refl
slots_there w frame row (slot ∷ slots) is =
    must_said answers.GetSlots values_in (λ l. l) (λ l. refl)
    (slots_in w frame.thread frame.frame (slot ∷ slots))
    ∙ same_map (result_ok (slots_in w frame.thread frame.frame (slot ∷ slots)))
    ∙ ok_then (λ (r : WorldFrame). ok_or (all_of (slot_value r.slots) (slot ∷ slots)) not_implemented)
    (frame_at w frame.thread frame.frame)
    ∙ ap (option_and_then (λ (r : WorldFrame). result_ok (ok_or {E = ℕ} (all_of (slot_value r.slots) (slot ∷ slots))
    not_implemented))) (frame_known w frame ∙ is)
    ∙ slots_known (slot ∷ slots) row

-- of one that may not nothing is said
pub no_slots : (w : World) (frame : FrameThing) (slot : Slot) (slots : List Slot) → frame_row w frame ≡ None
    → of_world (living_reply w) (slots_plan frame (slot ∷ slots)) ≡ None
unfolding of_world
no_slots w frame slot slots is =
    must_said answers.GetSlots values_in (λ l. l) (λ l. refl)
    (slots_in w frame.thread frame.frame (slot ∷ slots))
    ∙ same_map (result_ok (slots_in w frame.thread frame.frame (slot ∷ slots)))
    ∙ ok_then (λ (r : WorldFrame). ok_or (all_of (slot_value r.slots) (slot ∷ slots)) not_implemented)
    (frame_at w frame.thread frame.frame)
    ∙ ap (option_and_then (λ (r : WorldFrame). result_ok (ok_or {E = ℕ} (all_of (slot_value r.slots) (slot ∷ slots))
    not_implemented))) (frame_known w frame ∙ is)

-- Variables -----------------------------------------------------------------------------------------------------------

variables_heard : (r : Result (List Variable) ℕ)
    → listed_variables (option_map (answers.VariableTable (pos 0))
    (variables_in (answer_in (told (answers.VariableTable (pos 0)) r)))) ≡ result_unwrap_or r []
variables_heard (Ok found) = refl
variables_heard (Err code) = refl

pub variables_there : (w : World) (class : ClassId) (method : MethodId)
    → of_world (living_reply w) (variables_plan class method) ≡ Some (variables w class method)
unfolding of_world
variables_there w class method = ap Some (variables_heard (rows.variables_in w class method))

put_same : (v : Variable) (others : List Variable) → put_variable v others ≡ into_slots v others
put_same v [] = refl
put_same v (other ∷ others) =
    ap (λ (l : List Variable). cond (int_lt other.slot v.slot) (other ∷ l) (v ∷ other ∷ others)) (put_same v others)

pub slots_same : (vs : List Variable) → by_slot vs ≡ in_slots vs
slots_same [] = refl
slots_same (v ∷ others) = ap (put_variable v) (slots_same others) ∙ put_same v (in_slots others)
