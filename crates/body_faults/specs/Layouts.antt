-- What a body of the target is made of from left to right (JDWP, Detailed Command Information): a part, and by that
-- part's value what stands behind it. `x_then` is one thing of a kind, and what stands behind it.
use Rattle.std.specs.Prelude.{ℕ, zero, suc, Bool, true, false, List, [], ◌∷◌, Option, Some, None}
use Rattle.jdwp_values.specs.declared.limit.Limit.{Limit}
use Rattle.jdwp_values.specs.declared.limit.Limit.TheVariants.{Any}
use Rattle.jdwp_values.specs.declared.tag.Tag.{Tag}
use Rattle.jdwp_values.specs.Classes.{method_row, field_row, line_row, variable_row}
use Rattle.jdwp_values.specs.Parts.{Part, Of, byte, count, field, reference, thread, untagged, value}
use Rattle.jdwp_values.specs.Tags.{byte_of_tag, is_reference}
use Rattle.jdwp_events.specs.Events.{event_row}
use Rattle.jdwp_events.specs.Kinds.{kind_of_byte, policy_of_byte}
use Rattle.jdwp_events.specs.Modifiers.{modifier_of_byte, modifier_row}
use Rattle.jdwp_commands.specs.declared.asked.Asked.{Asked}
use Rattle.jdwp_commands.specs.declared.kind.CommandKind.{CommandKind}
use Rattle.jdwp_commands.specs.declared.kind.CommandKind.TheVariants as commands
use Rattle.jdwp_commands.specs.Answers.{limit_of, question_answer_row, effect_answer_row}
use Rattle.jdwp_commands.specs.Commands.{kind_of}
use Rattle.jdwp_commands.specs.Items.{Listed, threads, field_ids, values, modifiers, methods, fields, lines, variables}
use Rattle.jdwp_commands.specs.Items.{class_statuses, loaded_classes, frames, slots, Item, part, many, region, policy}
use Rattle.jdwp_commands.specs.Items.{event_kind}
use Rattle.jdwp_commands.specs.Listed.{class_status_row, loaded_class_row, frame_row, slot_row}
use Rattle.jdwp_commands.specs.Regions.{region_tag_of}

-- What is wrong at a place of a body: too few bytes are left, a count or a byte is none that stands there, or all is
-- spelled and bytes are left.
pub data Cause : Type 0 where
  short : Cause
  bad_count : Cause
  bad_tag : Cause
  bad_kind : Cause
  bad_policy : Cause
  trailing : Cause

-- What stands from a place on: nothing; or a part, and by its value what stands behind it. Where the place of a part
-- refuses a value, nothing can stand behind that, for this cause.
pub data Layout : Type 0 where
  ends : Layout
  begins : (p : Part) → (Of p → Layout) → Layout
  refuses : Cause → Layout

-- the parts of a row
abbrev pub row_then : List Part → Layout → Layout
row_then [] next = next
row_then (p ∷ row) next = begins p (λ x. row_then row next)

-- so many
abbrev pub times_then : ℕ → (Layout → Layout) → Layout → Layout
times_then zero one next = next
times_then (suc n) one next = one (times_then n one next)

-- a count, and so many
abbrev pub list_then : Limit → (Layout → Layout) → Layout → Layout
list_then limit one next = begins (count limit) (λ n. times_then n one next)

-- by what a byte means what stands behind it, if it means something
abbrev pub meant : {A : Type 0} → Option A → Cause → (A → Layout) → Layout
meant (Some x) cause behind = behind x
meant None cause behind = refuses cause

-- a byte that means something
abbrev pub byte_then : {A : Type 0} → (ℕ → Option A) → Cause → (A → Layout) → Layout
byte_then of_byte cause behind = begins byte (λ b. meant (of_byte b) cause behind)

-- an event: the byte of its kind, and its kind's row
abbrev pub event_then : Layout → Layout
event_then next = byte_then kind_of_byte bad_kind (λ kind. row_then (event_row kind) next)

-- a composite (JDWP, Event command set, Composite): the byte of a suspend policy, and the events
abbrev pub composite_layout : Layout
composite_layout = byte_then policy_of_byte bad_policy (λ policy. list_then Any event_then ends)

-- a modifier: the byte that says which, and its row
abbrev pub modifier_then : Layout → Layout
modifier_then next = byte_then modifier_of_byte bad_tag (λ kind. row_then (modifier_row kind) next)

-- an element of a region with this tag: a reference with a tag of its own, or a value without one
abbrev pub element_part : Bool → Tag → Part
element_part true tag = reference
element_part false tag = untagged (byte_of_tag tag)

abbrev pub element_then : Tag → Layout → Layout
element_then tag next = begins (element_part (is_reference tag) tag) (λ v. next)

-- a region: the byte of a tag, and the elements
abbrev pub region_then : Limit → Layout → Layout
region_then limit next = byte_then region_tag_of bad_tag (λ tag. list_then limit (element_then tag) next)

-- an element of a list
abbrev pub listed_then : Listed → Layout → Layout
listed_then threads = row_then (thread ∷ [])
listed_then field_ids = row_then (field ∷ [])
listed_then values = row_then (value ∷ [])
listed_then modifiers = modifier_then
listed_then methods = row_then method_row.parts
listed_then fields = row_then field_row.parts
listed_then lines = row_then line_row.parts
listed_then variables = row_then variable_row.parts
listed_then class_statuses = row_then class_status_row.parts
listed_then loaded_classes = row_then loaded_class_row.parts
listed_then frames = row_then frame_row.parts
listed_then slots = row_then slot_row.parts

abbrev pub item_then : Item → Layout → Layout
item_then (part p) next = begins p (λ x. next)
item_then (many limit l) next = list_then limit (listed_then l) next
item_then (region limit) next = region_then limit next
item_then event_kind next = byte_then kind_of_byte bad_tag (λ kind. next)
item_then policy next = byte_then policy_of_byte bad_tag (λ policy. next)

abbrev pub items_then : List Item → Layout → Layout
items_then [] next = next
items_then (i ∷ row) next = item_then i (items_then row next)

-- the items of a command's answer
abbrev pub answer_row : CommandKind → Limit → List Item
answer_row (commands.Question kind) limit = question_answer_row kind limit
answer_row (commands.Effect kind) limit = effect_answer_row kind

-- an answer to this command, with as many items as the command allows
abbrev pub answer_layout : Asked → Layout
answer_layout asked = items_then (answer_row (kind_of asked) (limit_of asked)) ends
