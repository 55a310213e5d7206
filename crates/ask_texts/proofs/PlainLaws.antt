-- No number in what is printed is a float.
use Rattle.std.proofs.Common.{◌≡◌, ℕ, ℤ, pos, negsuc, Bool, true, false, ◌||◌, List, [], ◌∷◌, map, refl, ap}
use Rattle.jdwp_commands.specs.declared.answer.Answer.{Answer}
use Rattle.jdwp_commands.specs.declared.answer.Answer.TheVariants as answers
use Rattle.jdwp_commands.specs.Items.{class_statuses, fields, frames, lines, loaded_classes, methods, threads}
use Rattle.jdwp_commands.specs.Items.{variables}
use Rattle.jdwp_values.specs.declared.value.Value.{Value}
use Rattle.jdwp_values.specs.declared.value.Value.TheVariants as values
use Rattle.line_elements.specs.Numbers.{signed_data}
use Rattle.line_elements.specs.Values.{told_data, value_data}
use Rattle.serde_json.specs.Data.{Data}
use Rattle.serde_json.specs.View.{items_of}
use Rattle.serde_json.specs.Written.{has_float, items_have_float}
use Rattle.tap_model.specs.declared.ask.Reached.{Reached}
use Rattle.tap_model.specs.declared.ask.Reached.TheVariants.{Answer as an_answer, Error, Unfit, Never}
use Rattle.ask_texts.specs.Forms.{answer_data, listed_data}
use Rattle.ask_texts.specs.Texts.{reached_data}

-- neither of two
pub neither : (a b : Bool) → a ≡ false → b ≡ false → (a || b) ≡ false
neither a b e f = rw (e, f) refl

-- nor the last of some
last_plain : (a : Bool) → a ≡ false → (a || false) ≡ false
last_plain a e = neither a false e refl

pub signed_plain : (z : ℤ) → has_float (signed_data z) ≡ false
signed_plain (pos n) = refl
signed_plain (negsuc n) = refl

pub list_plain : {A : Type 0} (f : A → Data) (xs : List A) → ((x : A) → has_float (f x) ≡ false)
    → items_have_float (items_of (map f xs)) ≡ false
list_plain f [] each = refl
list_plain f (x ∷ xs) each =
    neither (has_float (f x)) (items_have_float (items_of (map f xs))) (each x) (list_plain f xs each)

told_plain : (v : Value) → has_float (told_data v) ≡ false
told_plain (values.Byte z) = signed_plain z
told_plain (values.Char n) = refl
told_plain (values.Double n) = refl
told_plain (values.Float n) = refl
told_plain (values.Int z) = signed_plain z
told_plain (values.Long z) = signed_plain z
told_plain (values.Short z) = signed_plain z
told_plain (values.Boolean n) = refl
told_plain values.Void = refl
told_plain (values.Object id) = refl
told_plain (values.Array id) = refl
told_plain (values.String id) = refl
told_plain (values.Thread id) = refl
told_plain (values.ThreadGroup id) = refl
told_plain (values.ClassLoader id) = refl
told_plain (values.ClassObject id) = refl

value_plain : (v : Value) → has_float (value_data v) ≡ false
value_plain v = last_plain (has_float (told_data v)) (told_plain v)

values_plain : (vs : List Value) → items_have_float (items_of (map value_data vs)) ≡ false
values_plain vs = list_plain value_data vs value_plain

pub answer_plain : (a : Answer) → has_float (answer_data a) ≡ false
answer_plain (answers.ClassesBySignature cs) =
    list_plain (listed_data class_statuses) cs
    (λ c. last_plain (has_float (signed_data c.status)) (signed_plain c.status))
answer_plain (answers.AllClasses cs) =
    list_plain (listed_data loaded_classes) cs
    (λ c. last_plain (has_float (signed_data c.status)) (signed_plain c.status))
answer_plain (answers.AllThreads ts) = list_plain (listed_data threads) ts (λ t. refl)
answer_plain (answers.IdSizes f m o c r) = refl
answer_plain (answers.Signature s) = refl
answer_plain (answers.Fields fs) =
    list_plain (listed_data fields) fs (λ f. last_plain (has_float (signed_data f.bits)) (signed_plain f.bits))
answer_plain (answers.Methods ms) =
    list_plain (listed_data methods) ms (λ m. last_plain (has_float (signed_data m.bits)) (signed_plain m.bits))
answer_plain (answers.SourceFile s) = refl
answer_plain (answers.Superclass c) = refl
answer_plain (answers.LineTable t) =
    neither (has_float (signed_data t.start)) _ (signed_plain t.start)
    (neither (has_float (signed_data t.end)) _ (signed_plain t.end)
    (last_plain (items_have_float (items_of (map (listed_data lines) t.lines)))
    (list_plain (listed_data lines) t.lines
    (λ l. last_plain (has_float (signed_data l.line)) (signed_plain l.line)))))
answer_plain (answers.VariableTable n vs) =
    neither (has_float (signed_data n)) _ (signed_plain n)
    (last_plain (items_have_float (items_of (map (listed_data variables) vs)))
    (list_plain (listed_data variables) vs
    (λ v. last_plain (has_float (signed_data v.slot)) (signed_plain v.slot))))
answer_plain (answers.ObjectType tag c) = refl
answer_plain (answers.GetFields vs) = values_plain vs
answer_plain (answers.StringValue s) = refl
answer_plain (answers.ThreadName s) = refl
answer_plain (answers.Frames fs) = list_plain (listed_data frames) fs (λ f. refl)
answer_plain (answers.FrameCount n) = refl
answer_plain (answers.ArrayLength n) = refl
answer_plain (answers.GetElements r) =
    last_plain (items_have_float (items_of (map value_data r.values))) (values_plain r.values)
answer_plain (answers.GetSlots vs) = values_plain vs
answer_plain (answers.ThisObject o) = refl
answer_plain answers.Dispose = refl
answer_plain answers.Suspend = refl
answer_plain answers.Resume = refl
answer_plain answers.Exit = refl
answer_plain answers.SetField = refl
answer_plain answers.SetElement = refl
answer_plain (answers.Set r) = refl
answer_plain answers.Clear = refl
answer_plain answers.SetSlot = refl

pub reached_plain : (n : ℕ) (r : Reached) → has_float (reached_data n r) ≡ false
reached_plain n (an_answer a) = last_plain (has_float (answer_data a)) (answer_plain a)
reached_plain n (Error code) = refl
reached_plain n Unfit = refl
reached_plain n Never = refl
