-- The type of what a thread threw (DAP specification, Events, Stopped, text; ExceptionInfo request; JDWP, ObjectReference
-- command set, ReferenceType; JDWP, ReferenceType command set, Signature).
use Rattle.std.specs.Prelude.{ℕ, List, [], Bool, true, false, codes, Option, None, Some}
use Rattle.dap_messages.specs.declared.told.BreakMode.{BreakMode}
use Rattle.dap_messages.specs.declared.told.BreakMode.TheVariants.{Always, Unhandled}
use Rattle.jdwp_commands.specs.declared.answer.Answer.TheVariants as answers
use Rattle.jdwp_commands.specs.declared.question.Question.TheVariants as questions
use Rattle.machine_model.specs.Frames.{signature_plan}
use Rattle.machine_model.specs.Names.{Answer, Finding, Thrown, Want, exception_found, text_found}
use Rattle.machine_model.specs.Plans.{Plan, asking, chained, gives, made_with}
use Rattle.machine_model.specs.Values.{by_id, type_plan}
use Rattle.value_views.specs.Names.{class_name}

-- For an event: the name of the object's type, unless the target refuses to say its class.
abbrev pub name_by : List ℕ → Option (List ℕ)
name_by signature = Some (class_name signature)

abbrev pub text_by : Option Answer → Plan (Option (List ℕ))
text_by (Some (answers.ObjectType tag class)) = made_with name_by (signature_plan class)
text_by _ = gives None

abbrev pub heard_plan : ℕ → Plan (Option Answer)
heard_plan id = asking (λ heard. heard) (Want.May (questions.ObjectType (record { 0 = id })))

abbrev pub named_plan : ℕ → Plan (Option (List ℕ))
named_plan id = chained (heard_plan id) text_by

-- nothing is asked of null, which has no type
abbrev pub text_plan : ℕ → Plan Finding
text_plan id = made_with text_found (by_id id (gives None) named_plan)

-- when a thread stops at it (DAP specification, Types, ExceptionBreakMode)
abbrev pub mode_of : Bool → BreakMode
mode_of true = Always
mode_of false = Unhandled

-- For a response: the name is that of the object's type, or of null.
abbrev pub exception_plan : Thrown → Plan Finding
exception_plan thrown = made_with (λ id. exception_found id (mode_of thrown.caught))
    (by_id thrown.object.0 (gives (codes "null")) (λ id. made_with class_name (type_plan id)))
