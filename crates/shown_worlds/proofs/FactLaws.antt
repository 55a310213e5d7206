-- What a world that lives says of classes and objects, as plans hear it.
use Rattle.std.proofs.Common.{◌≡◌, ℕ, List, [], refl, ap, ◌∙◌}
use Rattle.std.specs.Prelude.{Option, Some, None, option_and_then, option_map, ok_or, Result, Ok, Err}
use Rattle.std.specs.Result.{result_ok, result_unwrap_or}
use Rattle.jdwp_commands.specs.declared.answer.Answer.TheVariants as answers
use Rattle.jdwp_values.specs.declared.class.LineTable.{LineTable}
use Rattle.jdwp_values.specs.declared.class.Method.{Method}
use Rattle.jdwp_values.specs.declared.id.ClassId.{ClassId}
use Rattle.jdwp_values.specs.declared.id.MethodId.{MethodId}
use Rattle.jdwp_values.specs.declared.id.ObjectId.{ObjectId}
use Rattle.jdwp_values.specs.declared.tag.TypeTag.{TypeTag}
use Rattle.machine_model.specs.Facts.{lines_in, methods_in, signature_in, source_in}
use Rattle.machine_model.specs.Frames.{lines_plan, methods_plan, signature_plan, source_plan}
use Rattle.machine_model.specs.Plans.{answer_in, must_say, of_world}
use Rattle.machine_model.specs.Values.{class_in, class_plan, type_plan}
use Rattle.shown_worlds.specs.Facts.{line_table, methods, signature, source, type_of}
use Rattle.shown_worlds.proofs.PlanLemmas.{and_then_some, said_chained}
use Rattle.world_model.specs.Classes as rows
use Rattle.world_model.specs.Codes.{invalid_object, told}
use Rattle.world_model.specs.Objects.{class_of, tag_of_type}
use Rattle.world_model.specs.Replies.{living_reply}
use Rattle.world_model.specs.declared.world.World.{World}

-- Facts of classes ----------------------------------------------------------------------------------------------------

signature_heard : (r : Result (List ℕ) ℕ) → signature_in (answer_in (told answers.Signature r)) ≡ result_unwrap_or r []
signature_heard (Ok found) = refl
signature_heard (Err code) = refl

pub signature_there : (w : World) (class : ClassId)
    → of_world (living_reply w) (signature_plan class) ≡ Some (signature w class)
unfolding of_world
signature_there w class = ap Some (signature_heard (rows.signature_in w class))

source_heard : (r : Result (List ℕ) ℕ)
    → source_in (option_map answers.SourceFile (source_in (answer_in (told answers.SourceFile r)))) ≡ result_ok r
source_heard (Ok found) = refl
source_heard (Err code) = refl

pub source_there : (w : World) (class : ClassId)
    → of_world (living_reply w) (source_plan class) ≡ Some (source w class)
unfolding of_world
source_there w class = ap Some (source_heard (rows.source_in w class))

methods_heard : (r : Result (List Method) ℕ)
    → methods_in (answer_in (told answers.Methods r)) ≡ result_unwrap_or r []
methods_heard (Ok found) = refl
methods_heard (Err code) = refl

pub methods_there : (w : World) (class : ClassId)
    → of_world (living_reply w) (methods_plan class) ≡ Some (methods w class)
unfolding of_world
methods_there w class = ap Some (methods_heard (rows.methods_in w class))

lines_heard : (r : Result LineTable ℕ)
    → lines_in (option_map answers.LineTable (lines_in (answer_in (told answers.LineTable r)))) ≡ result_ok r
lines_heard (Ok found) = refl
lines_heard (Err code) = refl

pub lines_there : (w : World) (class : ClassId) (method : MethodId)
    → of_world (living_reply w) (lines_plan class method) ≡ Some (line_table w class method)
unfolding of_world
lines_there w class method = ap Some (lines_heard (rows.lines_in w class method))

-- Classes of objects --------------------------------------------------------------------------------------------------

abbrev pub object : ℕ → ObjectId
object n = record { 0 = n }

class_said : (w : World) (found : Option ClassId) → option_and_then (λ heard. Some (class_in heard)) (must_say (told
    (λ (t : TypeTag × ClassId). answers.ObjectType t.0 t.1)
    (ok_or (option_map (λ class. (tag_of_type w class, class)) found) invalid_object))) ≡ found
class_said w None = refl
class_said w (Some class) = refl

pub class_there : (w : World) (n : ℕ) → of_world (living_reply w) (class_plan n) ≡ class_of w (object n)
unfolding of_world
class_there w n = class_said w (class_of w (object n))

pub type_there : (w : World) (n : ℕ) → of_world (living_reply w) (type_plan n) ≡ type_of w (object n)
type_there w n =
    said_chained (living_reply w) (class_plan n) signature_plan
    ∙ ap (option_and_then (λ class. of_world (living_reply w) (signature_plan class))) (class_there w n)
    ∙ and_then_some (λ class. of_world (living_reply w) (signature_plan class)) (signature w) (signature_there w)
    (class_of w (object n))
