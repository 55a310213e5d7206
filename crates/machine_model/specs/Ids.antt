-- The ids that stand in commands, in answers and in events, by their kinds, and that each in a command was read before
-- it, a frame's in the stop in hand (JDWP, Detailed Command Information, common data types).
use Rattle.std.specs.Prelude.{ℕ, zero, suc, ◌≡◌, ◌⊎◌, ◌∷◌, ◌++◌, Bool, true, false, List, []}
use Rattle.std.specs.List.{AllByRecursion, Contains, flat_map}
use Rattle.dap_messages.specs.declared.told.Event.TheVariants as told_events
use Rattle.jdwp_commands.specs.Answers.{told_answer}
use Rattle.jdwp_commands.specs.Commands.{told}
use Rattle.jdwp_commands.specs.Items as items
use Rattle.jdwp_commands.specs.Items.{Item, Listed, OfItem, OfListed, Saying, says}
use Rattle.jdwp_commands.specs.Listed.{class_status_row, frame_row, loaded_class_row}
use Rattle.jdwp_commands.specs.declared.asked.Asked.{Asked}
use Rattle.jdwp_commands.specs.declared.question.Question.TheVariants as questions
use Rattle.jdwp_events.specs.Events as events
use Rattle.jdwp_events.specs.Modifiers as modifiers
use Rattle.jdwp_events.specs.declared.event.Event.{Event}
use Rattle.jdwp_values.specs.Classes.{field_row, method_row}
use Rattle.jdwp_values.specs.Parts as parts
use Rattle.jdwp_values.specs.Parts.{Of, OfSimple, Part, Simple}
use Rattle.jdwp_values.specs.Rows.{Holds, RowOf, Said, said}
use Rattle.jdwp_values.specs.declared.limit.Limit.TheVariants.{Any}
use Rattle.jdwp_values.specs.declared.value.Value.{Value}
use Rattle.jdwp_values.specs.declared.value.Value.TheVariants as values
use Rattle.machine_model.specs.Names.{Answer, Composite, Does, Question, Replied, Suspend, TargetCommand, a_question}
use Rattle.machine_model.specs.Names.{an_answer, an_effect, an_error, an_event}
use Rattle.machine_model.specs.ReferenceNumbers.{ends_stop}
use Rattle.machine_model.specs.Replying.{wire}
use Rattle.machine_model.specs.Runs.{Message, Run}
use Rattle.machine_model.specs.State.{Machine}

-- an id of its kind: a thread is an object, and a frame is one of its thread
pub data Id : Type 0 where
  object : ℕ → Id
  class : ℕ → Id
  method : ℕ → Id
  field : ℕ → Id
  frame : ℕ → ℕ → Id

-- The ids in bodies ---------------------------------------------------------------------------------------------------

-- those of a part of one number; a frame's is one of this thread
abbrev pub ids_of_simple : ℕ → (s : Simple) → OfSimple s → List Id
ids_of_simple thread (parts.unsigned size) x = []
ids_of_simple thread (parts.signed width) x = []
ids_of_simple thread parts.object_id x = object x.0 ∷ []
ids_of_simple thread parts.thread_id x = object x.0 ∷ []
ids_of_simple thread parts.class_id x = class x.0 ∷ []
ids_of_simple thread parts.method_id x = method x.0 ∷ []
ids_of_simple thread parts.field_id x = field x.0 ∷ []
ids_of_simple thread parts.frame_id x = frame thread x.0 ∷ []
ids_of_simple thread parts.type_tag_byte x = []
ids_of_simple thread parts.nothing x = []

-- no thread, of what has no frame in it
abbrev pub no_thread : ℕ
no_thread = 0

-- null has no id
abbrev pub id_of_object : ℕ → List Id
id_of_object zero = []
id_of_object (suc id) = object (suc id) ∷ []

-- that of a value, where it is an object's
abbrev pub ids_of_value : Value → List Id
ids_of_value (values.Object x) = id_of_object x.0
ids_of_value (values.Array x) = id_of_object x.0
ids_of_value (values.String x) = id_of_object x.0
ids_of_value (values.Thread x) = id_of_object x.0
ids_of_value (values.ThreadGroup x) = id_of_object x.0
ids_of_value (values.ClassLoader x) = id_of_object x.0
ids_of_value (values.ClassObject x) = id_of_object x.0
ids_of_value _ = []

-- those of a part; what is set of a field or an element has no tag, and is read as bytes
abbrev pub ids_of_part : ℕ → (p : Part) → Of p → List Id
ids_of_part thread (parts.simple s) x = ids_of_simple thread s x
ids_of_part thread (parts.count limit) x = []
ids_of_part thread parts.text x = []
ids_of_part thread parts.location x = class x.class.0 ∷ method x.method.0 ∷ []
ids_of_part thread parts.value x = ids_of_value x
ids_of_part thread parts.reference x = ids_of_value x
ids_of_part thread (parts.untagged byte) x = ids_of_value x
ids_of_part thread parts.tail x = []

-- those of a part that is said, of an event or a modifier
abbrev pub ids_of_said : Said → List Id
ids_of_said (said p x) = ids_of_part no_thread p x

-- those of a row's parts
abbrev pub ids_of_row : ℕ → (row : List Part) → Holds row → List Id
ids_of_row thread [] held = []
ids_of_row thread (p ∷ row) held = ids_of_part thread p held.0 ++ ids_of_row thread row held.1

-- those of a row without a frame
abbrev pub ids_of : {A : Type 0} → RowOf A → A → List Id
ids_of row x = ids_of_row no_thread row.parts (row.values x)

-- those of an element of a list
abbrev pub ids_of_listed : ℕ → (l : Listed) → OfListed l → List Id
ids_of_listed thread items.threads x = object x.0 ∷ []
ids_of_listed thread items.field_ids x = field x.0 ∷ []
ids_of_listed thread items.values x = ids_of_value x
ids_of_listed thread items.modifiers x = flat_map ids_of_said (modifiers.told x)
ids_of_listed thread items.methods x = ids_of method_row x
ids_of_listed thread items.fields x = ids_of field_row x
ids_of_listed thread items.lines x = []
ids_of_listed thread items.variables x = []
ids_of_listed thread items.class_statuses x = ids_of class_status_row x
ids_of_listed thread items.loaded_classes x = ids_of loaded_class_row x
ids_of_listed thread items.frames x = ids_of_row thread frame_row.parts (frame_row.values x)
ids_of_listed thread items.slots x = []

-- those of an item of a body
abbrev pub ids_of_item : ℕ → (i : Item) → OfItem i → List Id
ids_of_item thread (items.part p) x = ids_of_part thread p x
ids_of_item thread (items.many limit l) xs = flat_map (ids_of_listed thread l) xs
ids_of_item thread (items.region limit) x = flat_map ids_of_value x.values
ids_of_item thread items.event_kind x = []
ids_of_item thread items.policy x = []

abbrev pub ids_of_saying : ℕ → Saying → List Id
ids_of_saying thread (says i x) = ids_of_item thread i x

-- The ids in messages -------------------------------------------------------------------------------------------------

-- the thread whose frame is in a command: the first that it names (JDWP, StackFrame command set)
abbrev pub thread_in : List Saying → ℕ
thread_in [] = no_thread
thread_in (says (items.part (parts.simple parts.thread_id)) x ∷ sayings) = x.0
thread_in (_ ∷ sayings) = thread_in sayings

-- those in a command
abbrev pub ids_asked : Asked → List Id
ids_asked asked = flat_map (ids_of_saying (thread_in (told asked))) (told asked)

-- the thread whose frames are in an answer (JDWP, ThreadReference command set, Frames)
abbrev pub thread_of : Question → ℕ
thread_of (questions.Frames thread start length) = thread.0
thread_of _ = no_thread

abbrev pub thread_asked : TargetCommand → ℕ
thread_asked (a_question question) = thread_of question
thread_asked (an_effect effect) = no_thread

-- those in an answer, whose frames are of this thread
abbrev pub ids_answered : ℕ → Answer → List Id
ids_answered thread answer = flat_map (ids_of_saying thread) (told_answer Any answer)

abbrev pub ids_replied : ℕ → Replied → List Id
ids_replied thread (an_answer answer) = ids_answered thread answer
ids_replied thread (an_error code) = []

-- those in an event, and in a composite
abbrev pub ids_of_event : Event → List Id
ids_of_event event = flat_map ids_of_said (events.told event)

abbrev pub ids_of_composite : Composite → List Id
ids_of_composite composite = flat_map ids_of_event composite.events

-- those that the target gives by a message: in an answer, or in a composite that is read
abbrev pub ids_given : Message → List Id
ids_given (Message.answers command replied) = ids_replied (thread_asked command) replied
ids_given (Message.comes at composite) = ids_of_composite composite
ids_given (Message.reads at body composite) = ids_of_composite composite
ids_given _ = []

-- all that were read in these messages
abbrev pub ids_read : List Message → List Id
ids_read messages = flat_map ids_given messages

-- The stop in hand ----------------------------------------------------------------------------------------------------

-- a stop is in hand behind it (DAP specification, Events, Stopped; JDWP, VirtualMachine command set, Suspend)
abbrev pub begins_stop : Message → Bool
begins_stop (Message.tells (an_event (told_events.Stopped stop))) = true
begins_stop (Message.sends (an_effect (Does Suspend))) = true
begins_stop _ = false

-- These messages, the last ones, are of the stop in hand: none of them ends it, and the one before them began it or told
-- of it again (DAP specification, Events, Stopped; JDWP, VirtualMachine command set, Suspend and Resume). Once the
-- target is gone no command follows.
pub record AreOfStop (messages since : List Message) : Type 0 where
  pub before : List Message
  pub beginning : Message
  pub messages_are : messages ≡ before ++ beginning ∷ since
  pub begins : begins_stop beginning ≡ true
  pub goes_on : AllByRecursion (λ message. ends_stop message ≡ false) since

-- the id was read in the stop in hand
pub record WasReadInStop (messages : List Message) (id : Id) : Type 0 where
  pub since : List Message
  pub of_stop : AreOfStop messages since
  pub is_read : Contains (ids_read since) id

-- The law -------------------------------------------------------------------------------------------------------------

-- no id of a class is that of any class (JDWP, EventRequest command set, Set, ExceptionOnly)
pub data IsNull : Id → Type 0 where
  any_class : IsNull (class 0)

-- it was read in these messages, a frame's in the stop in hand
abbrev pub IsAmong : List Message → Id → Type 0
IsAmong messages (frame thread id) = WasReadInStop messages (frame thread id)
IsAmong messages id = Contains (ids_read messages) id

-- the id is null, or was read in these messages
abbrev pub WasRead : List Message → Id → Type 0
WasRead messages id = IsNull id ⊎ IsAmong messages id

-- each id in the command is null, or was read in these messages
abbrev pub HasReadIds : List Message → TargetCommand → Type 0
HasReadIds messages command = AllByRecursion (WasRead messages) (ids_asked (wire command))

-- In every run each id in a command that was sent was read before it, in an answer or in a composite, and a frame's in
-- the stop in hand, in an answer to the question for the frames of its thread; only the class 0, which stands for any,
-- needs none.
abbrev pub Ids : Type 0
Ids = (messages before after : List Message) (m : Machine) (command : TargetCommand) → Run messages m
    → messages ≡ before ++ Message.sends command ∷ after → HasReadIds before command
