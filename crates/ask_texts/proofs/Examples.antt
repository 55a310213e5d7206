-- Lines at their edges, by computation.
use Rattle.std.proofs.Common.{◌≡◌, ◌-◌, ◌^◌, [], ◌∷◌, negsuc, codes, false, Some, None, refl}
use Rattle.hex.specs.Hex.{encode_with}
use Rattle.jdwp_commands.specs.declared.answer.Answer.TheVariants as answers
use Rattle.jdwp_commands.specs.declared.question.Question.TheVariants as questions
use Rattle.jdwp_values.specs.declared.tag.Tag.TheVariants as tags
use Rattle.jdwp_values.specs.declared.tag.TypeTag.TheVariants as type_tags
use Rattle.jdwp_values.specs.declared.value.Value.TheVariants as values
use Rattle.line_elements.specs.Numbers.{natural_data, signed_data}
use Rattle.line_elements.specs.Values.{array_of}
use Rattle.serde_json.specs.Data.{string}
use Rattle.ask_texts.specs.declared.rows.Row.TheVariants.{Head, Ask}
use Rattle.ask_texts.specs.Forms.{answer_data}
use Rattle.ask_texts.specs.Rows.{row_of}

-- Questions -----------------------------------------------------------------------------------------------------------

highest_id : row_of (array_of
    (string (codes "ask") ∷ string (codes "ThreadName") ∷ natural_data (2 ^ 64 - 1) ∷ []))
    ≡ Some (Ask (questions.ThreadName (record { 0 = 2 ^ 64 - 1 })))
highest_id = refl

an_effect_is_none : row_of (array_of (string (codes "ask") ∷ string (codes "Resume") ∷ [])) ≡ None
an_effect_is_none = refl

a_part_too_many : row_of (array_of (string (codes "ask") ∷ string (codes "AllThreads") ∷ natural_data 1 ∷ [])) ≡ None
a_part_too_many = refl

a_part_too_few : row_of (array_of (string (codes "ask") ∷ string (codes "LineTable") ∷ natural_data 1 ∷ [])) ≡ None
a_part_too_few = refl

another_version : row_of (array_of (string (codes "tap") ∷ natural_data 2 ∷ [])) ≡ Some (Head false)
another_version = refl

-- Answers -------------------------------------------------------------------------------------------------------------

one_thread : answer_data (answers.AllThreads (record { 0 = 1 } ∷ [])) ≡ array_of (natural_data 1 ∷ [])
one_thread = refl

a_size_that_is_none : answer_data (answers.IdSizes 8 8 8 8 (2 ^ 32 - 1))
    ≡ array_of
    (natural_data 8 ∷ natural_data 8 ∷ natural_data 8 ∷ natural_data 8 ∷ natural_data 4294967295 ∷ [])
a_size_that_is_none = refl

a_frame : answer_data (answers.Frames (record {
  id = record { 0 = 9 };
  at = record { tag = type_tags.Class; class = record { 0 = 2 }; method = record { 0 = 3 }; index = 4 };
} ∷ [])) ≡ array_of (array_of (natural_data 9
    ∷ array_of (natural_data 1 ∷ natural_data 2 ∷ natural_data 3 ∷ natural_data 4 ∷ []) ∷ []) ∷ [])
a_frame = refl

an_object_with_its_tag : answer_data (answers.ThisObject (values.Object (record { 0 = 5 })))
    ≡ array_of (natural_data 76 ∷ natural_data 5 ∷ [])
an_object_with_its_tag = refl

a_region : answer_data (answers.GetElements (record { tag = tags.Int; values = values.Int (negsuc 0) ∷ [] }))
    ≡ array_of (natural_data 73
    ∷ array_of (array_of (string (codes "I") ∷ signed_data (negsuc 0) ∷ []) ∷ []) ∷ [])
a_region = refl

no_fields : answer_data (answers.GetFields []) ≡ array_of []
no_fields = refl

no_signature : answer_data (answers.Signature []) ≡ string []
unfolding encode_with
no_signature = refl
