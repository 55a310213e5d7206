-- The text of a value is found by one question behind the other, as what an expression names is.
use Rattle.std.proofs.Common.{◌≡◌, ℕ, List, refl}
use Rattle.jdwp_values.specs.declared.value.Value.{Value}
use Rattle.jdwp_values.specs.declared.value.Value.TheVariants as values
use Rattle.machine_model.specs.Caught.{IsChain}
use Rattle.machine_model.specs.Judging.{array_text, object_text, shown_text, string_text}
use Rattle.machine_model.specs.Values.{class_plan, length_plan, text_plan, type_plan}
use Rattle.machine_model.proofs.CaughtLaws.{chains, if_there, makes, none, one}

of_type : (id : ℕ) → IsChain (type_plan id)
of_type id = chains (class_plan id) _ (one _ _ refl) (λ class. one _ _ refl)

of_object : (value : Value) (id : ℕ) → IsChain (object_text value id)
of_object value id = makes _ (type_plan id) (of_type id)

pub shown_by_chain : (value other : Value) → IsChain (shown_text value other)
shown_by_chain value (values.Array o) = if_there o.0 _ (array_text value) (none _)
    (λ id. chains (type_plan id) _ (of_type id) (λ signature. makes _ (length_plan id) (one _ _ refl)))
shown_by_chain value (values.String o) =
    if_there o.0 _ (string_text value) (none _) (λ id. makes _ (text_plan id) (one _ _ refl))
shown_by_chain value (values.Object o) = if_there o.0 _ (object_text value) (none _) (of_object value)
shown_by_chain value (values.Thread o) = if_there o.0 _ (object_text value) (none _) (of_object value)
shown_by_chain value (values.ThreadGroup o) = if_there o.0 _ (object_text value) (none _) (of_object value)
shown_by_chain value (values.ClassLoader o) = if_there o.0 _ (object_text value) (none _) (of_object value)
shown_by_chain value (values.ClassObject o) = if_there o.0 _ (object_text value) (none _) (of_object value)
shown_by_chain value _ = none _
