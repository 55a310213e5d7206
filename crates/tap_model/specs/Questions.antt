-- Which questions are asked: those that have a spelling under the target's sizes of ids, and fit a packet.
use Rattle.std.specs.Prelude.{ℕ, ◌+◌, ◌*◌, ◌^◌, ◌≤◌, Bool, true, ◌&&◌, if◌then◌else◌, List, [], ◌∷◌, length}
use Rattle.std.specs.Prelude.{nat_le, nat_lt}
use Rattle.std.specs.List.{list_all}
use Rattle.jdwp_commands.specs.Commands.{FitsCommand, spell_command}
use Rattle.jdwp_commands.specs.declared.question.Question.TheVariants as questions
use Rattle.tap_model.specs.Names.{a_question, Ask, IdSizes, Never, Question, Reached, Unfit}

-- the longest body of a packet, whose header has 11 bytes (JDWP, JDWP Packets)
abbrev pub most_body : ℕ
most_body = 67108853

-- so many bytes hold an id (JDWP, Detailed Command Information, common data types)
abbrev pub id_fits : ℕ → ℕ → Bool
id_fits size id = nat_lt id (256 ^ size)

-- The body of a question has a spelling under these sizes of ids, and fits a packet: its ids fit, and it isn't too long
-- (JDWP, Detailed Command Information). A length has 4 bytes, a slot 4 and a tag.
abbrev pub is_fit : IdSizes → Question → Bool
is_fit sizes (questions.ClassesBySignature signature) = nat_le (4 + length signature) most_body
is_fit sizes questions.AllClasses = true
is_fit sizes questions.AllThreads = true
is_fit sizes questions.IdSizes = true
is_fit sizes (questions.Signature class) = id_fits sizes.class class.0
is_fit sizes (questions.Fields class) = id_fits sizes.class class.0
is_fit sizes (questions.Methods class) = id_fits sizes.class class.0
is_fit sizes (questions.SourceFile class) = id_fits sizes.class class.0
is_fit sizes (questions.Superclass class) = id_fits sizes.class class.0
is_fit sizes (questions.LineTable class method) = id_fits sizes.class class.0 && id_fits sizes.method method.0
is_fit sizes (questions.VariableTable class method) = id_fits sizes.class class.0 && id_fits sizes.method method.0
is_fit sizes (questions.ObjectType object) = id_fits sizes.object object.0
is_fit sizes (questions.GetFields object fields) = (id_fits sizes.object object.0
    && list_all (λ field. id_fits sizes.field field.0) fields)
    && nat_le (sizes.object + (4 + sizes.field * length fields)) most_body
is_fit sizes (questions.StringValue object) = id_fits sizes.object object.0
is_fit sizes (questions.ThreadName thread) = id_fits sizes.object thread.0
is_fit sizes (questions.Frames thread first n) = id_fits sizes.object thread.0
is_fit sizes (questions.FrameCount thread) = id_fits sizes.object thread.0
is_fit sizes (questions.ArrayLength array) = id_fits sizes.object array.0
is_fit sizes (questions.GetElements array first n) = id_fits sizes.object array.0
is_fit sizes (questions.GetSlots thread frame slots) = (id_fits sizes.object thread.0 && id_fits sizes.frame frame.0)
    && nat_le (sizes.object + (sizes.frame + (4 + 5 * length slots))) most_body
is_fit sizes (questions.ThisObject thread frame) = id_fits sizes.object thread.0 && id_fits sizes.frame frame.0

-- what a question has come to that has no reply
abbrev pub unanswered : IdSizes → Ask → Reached
unanswered sizes ask = if is_fit sizes ask.question then Never else Unfit

-- the numbers of the questions that are fit, where the first of these has this number
abbrev pub fitting : IdSizes → ℕ → List Ask → List ℕ
fitting sizes n [] = []
fitting sizes n (ask ∷ asks) =
    if is_fit sizes ask.question then n ∷ fitting sizes (n + 1) asks else fitting sizes (n + 1) asks

-- The body of a question has a spelling under these sizes of ids, and a packet has room for it (JDWP, Detailed Command
-- Information; JDWP, JDWP Packets).
pub record IsFit (sizes : IdSizes) (question : Question) : Type 0 where
  pub spelled : FitsCommand sizes (a_question question)
  pub short : length (spell_command sizes (a_question question)) ≤ most_body
