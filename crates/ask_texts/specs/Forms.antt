-- The text form of what questions and answers say, as JSON values: numbers and ids as integers, texts as lower-case
-- hexadecimal, lists and what has several parts as arrays, values as scripts spell them.
use Rattle.std.specs.Prelude.{ℕ, ℤ, List, [], ◌∷◌, map, codes}
use Rattle.hex.specs.Hex.{encode_lower}
use Rattle.jdwp_commands.specs.declared.answer.Answer.{Answer}
use Rattle.jdwp_commands.specs.declared.question.Question.{Question}
use Rattle.jdwp_commands.specs.declared.region.Region.{Region}
use Rattle.jdwp_commands.specs.Answers.{told_answer}
use Rattle.jdwp_commands.specs.Commands.{kind_of_question, told_question}
use Rattle.jdwp_commands.specs.Items.{Item, part, many, region, event_kind, policy, OfItem, Saying, says}
use Rattle.jdwp_commands.specs.Items.{Listed, threads, field_ids, values, modifiers, methods, fields, lines, variables}
use Rattle.jdwp_commands.specs.Items.{class_statuses, loaded_classes, frames, slots, OfListed}
use Rattle.jdwp_commands.specs.Listed.{class_status_row, loaded_class_row, frame_row, slot_row}
use Rattle.jdwp_events.specs.Kinds.{byte_of_kind, byte_of_policy}
use Rattle.jdwp_values.specs.declared.limit.Limit.TheVariants.{Any}
use Rattle.jdwp_values.specs.declared.location.Location.{Location}
use Rattle.jdwp_values.specs.declared.value.Value.{Value}
use Rattle.jdwp_values.specs.declared.value.Value.TheVariants as kinds
use Rattle.jdwp_values.specs.Classes.{method_row, field_row, line_row, variable_row}
use Rattle.jdwp_values.specs.Parts.{Simple, unsigned, signed, object_id, thread_id, class_id, method_id, field_id}
use Rattle.jdwp_values.specs.Parts.{frame_id, type_tag_byte, nothing, OfSimple, tag_of_value, Part, simple, count, text}
use Rattle.jdwp_values.specs.Parts.{location, value, reference, untagged, tail, Of}
use Rattle.jdwp_values.specs.Rows.{Holds, RowOf}
use Rattle.jdwp_values.specs.Tags.{byte_of_tag, byte_of_type_tag}
use Rattle.line_elements.specs.Numbers.{natural_data, signed_data}
use Rattle.line_elements.specs.Values.{array_of, list_data, value_data}
use Rattle.serde_json.specs.Data.{Data, null, string}
use Rattle.ask_texts.specs.Names.{name_of}

-- Parts ---------------------------------------------------------------------------------------------------------------

-- a number, an id, or the byte of a type tag, is an integer
abbrev pub simple_data : (s : Simple) → OfSimple s → Data
simple_data (unsigned size) n = natural_data n
simple_data (signed w) z = signed_data z
simple_data object_id id = natural_data id.0
simple_data thread_id id = natural_data id.0
simple_data class_id id = natural_data id.0
simple_data method_id id = natural_data id.0
simple_data field_id id = natural_data id.0
simple_data frame_id id = natural_data id.0
simple_data type_tag_byte tag = natural_data (byte_of_type_tag tag)
simple_data nothing x = null

-- bytes are lower-case hexadecimal
abbrev pub bytes_data : List ℕ → Data
bytes_data bytes = string (encode_lower bytes)

-- a location is an array of its parts
abbrev pub location_data : Location → Data
location_data l = array_of (natural_data (byte_of_type_tag l.tag) ∷ natural_data l.class.0 ∷ natural_data l.method.0
    ∷ natural_data l.index ∷ [])

-- the id of an object, and the 0 of a value that is none
abbrev pub id_in : Value → ℕ
id_in (kinds.Byte z) = 0
id_in (kinds.Char n) = 0
id_in (kinds.Double n) = 0
id_in (kinds.Float n) = 0
id_in (kinds.Int z) = 0
id_in (kinds.Long z) = 0
id_in (kinds.Short z) = 0
id_in (kinds.Boolean n) = 0
id_in kinds.Void = 0
id_in (kinds.Object id) = id.0
id_in (kinds.Array id) = id.0
id_in (kinds.String id) = id.0
id_in (kinds.Thread id) = id.0
id_in (kinds.ThreadGroup id) = id.0
id_in (kinds.ClassLoader id) = id.0
id_in (kinds.ClassObject id) = id.0

-- and so is an object with its tag (JDWP, Detailed Command Information, common data types, tagged-objectID)
abbrev pub reference_data : Value → Data
reference_data v = array_of (natural_data (byte_of_tag (tag_of_value v)) ∷ natural_data (id_in v) ∷ [])

-- a part of any kind
abbrev pub part_data : (p : Part) → Of p → Data
part_data (simple s) x = simple_data s x
part_data (count limit) n = natural_data n
part_data text bytes = bytes_data bytes
part_data location l = location_data l
part_data value v = value_data v
part_data reference v = reference_data v
part_data (untagged byte) v = value_data v
part_data tail bytes = bytes_data bytes

-- Items ---------------------------------------------------------------------------------------------------------------

-- of one part its form, and of several the array of their forms
abbrev pub form_of : List Data → Data
form_of [] = array_of []
form_of (d ∷ []) = d
form_of (d ∷ e ∷ ds) = array_of (d ∷ e ∷ ds)

abbrev pub row_data : (row : List Part) → Holds row → List Data
row_data [] held = []
row_data (p ∷ row) held = part_data p held.0 ∷ row_data row held.1

abbrev pub data_by : {A : Type 0} → RowOf A → A → Data
data_by row x = form_of (row_data row.parts (row.values x))

-- an element of a list; modifiers stand in no question, and in no answer
abbrev pub listed_data : (l : Listed) → OfListed l → Data
listed_data threads id = natural_data id.0
listed_data field_ids id = natural_data id.0
listed_data values v = value_data v
listed_data modifiers modifier = null
listed_data methods x = data_by method_row x
listed_data fields x = data_by field_row x
listed_data lines x = data_by line_row x
listed_data variables x = data_by variable_row x
listed_data class_statuses x = data_by class_status_row x
listed_data loaded_classes x = data_by loaded_class_row x
listed_data frames x = data_by frame_row x
listed_data slots x = data_by slot_row x

-- elements of an array: the byte of their tag, and each as a value
abbrev pub region_data : Region → Data
region_data r = array_of (natural_data (byte_of_tag r.tag) ∷ list_data value_data r.values ∷ [])

abbrev pub item_data : (i : Item) → OfItem i → Data
item_data (part p) x = part_data p x
item_data (many limit l) xs = list_data (listed_data l) xs
item_data (region limit) r = region_data r
item_data event_kind kind = natural_data (byte_of_kind kind)
item_data policy p = natural_data (byte_of_policy p)

abbrev pub saying_data : Saying → Data
saying_data (says i x) = item_data i x

-- Questions and answers -----------------------------------------------------------------------------------------------

-- the line of a question: its name, and then what its body says
abbrev pub ask_data : Question → Data
ask_data question = array_of
    (string (codes "ask") ∷ string (name_of (kind_of_question question)) ∷ map saying_data (told_question question))

-- what the body of an answer says
abbrev pub answer_data : Answer → Data
answer_data answer = form_of (map saying_data (told_answer Any answer))
