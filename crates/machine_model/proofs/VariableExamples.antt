-- Worked examples of `scopes` and `variables`, checked by computation.
use Rattle.std.proofs.Common.{◌≡◌, ℕ, ℤ, pos, List, [], ◌∷◌, Option, None, Some, refl}
use Rattle.std.specs.Fmt.{digits}
use Rattle.std.specs.Prelude.{codes}
use Rattle.std.specs.Str.{chars, is_utf8}
use Rattle.dap_messages.specs.Telling.{references_spent, stale, target_error, unknown_reference, wrong_kind}
use Rattle.dap_messages.specs.declared.requests.Filter.{Filter}
use Rattle.dap_messages.specs.declared.requests.Filter.TheVariants.{Both, Indexed, Named}
use Rattle.dap_messages.specs.declared.told.Outcome.TheVariants as outcomes
use Rattle.dap_messages.specs.declared.told.Shape.TheVariants as shapes
use Rattle.dap_messages.specs.declared.told.Variable.{Variable}
use Rattle.jdwp_commands.specs.declared.answer.Answer.TheVariants as answers
use Rattle.jdwp_commands.specs.declared.listed.Slot.{Slot}
use Rattle.jdwp_commands.specs.declared.question.Question.TheVariants as questions
use Rattle.jdwp_values.specs.Lossy.{lossy, lossy_after}
use Rattle.jdwp_values.specs.declared.class.Field.{Field}
use Rattle.jdwp_values.specs.declared.class.Variable.{Variable as ALocal}
use Rattle.jdwp_values.specs.declared.id.FrameId.{FrameId}
use Rattle.jdwp_values.specs.declared.id.ObjectId.{ObjectId}
use Rattle.jdwp_values.specs.declared.tag.Tag.TheVariants as kinds
use Rattle.jdwp_values.specs.declared.tag.TypeTag.TheVariants as tags
use Rattle.jdwp_values.specs.declared.value.Value.TheVariants as values
use Rattle.machine_model.specs.Breakpoints.{key_of}
use Rattle.machine_model.specs.Children.{chain}
use Rattle.machine_model.specs.Due.{due, load_of, newly_lacked, wanted}
use Rattle.machine_model.specs.Names.{ClassId, Request, Scopes, Variables, a_question, an_answer, an_error}
use Rattle.machine_model.specs.Plans.{chained, each, made_with, need}
use Rattle.machine_model.specs.Replying.{answered}
use Rattle.machine_model.specs.Runs.{Message, heard}
use Rattle.machine_model.specs.State.{Machine}
use Rattle.machine_model.proofs.BreakpointExamples.{at}
use Rattle.machine_model.proofs.Examples.{asks, drive, request, responds, said_on}
use Rattle.machine_model.proofs.FrameExamples.{known, says}
use Rattle.machine_model.proofs.StopExamples.{continues, fails, one}
use Rattle.wish_sets.specs.Wished.{wished}
use Rattle.wish_sets.specs.Wishes.{next_change}
use lib.Utf8.{encode}

-- Words ---------------------------------------------------------------------------------------------------------------

-- frames 1 and 2 were told
abbrev pub shown : Machine
shown = drive 8 known

abbrev scopes_of : ℕ → Request
scopes_of frame = request 9 (Scopes (record { frame_id = frame }))

abbrev page_of : ℕ → Filter → ℕ → ℕ → Request
page_of reference filter start count = request 10
    (Variables (record { variables_reference = reference; filter = filter; start = start; count = count }))

abbrev children_of : ℕ → Request
children_of reference = page_of reference Both 0 0

abbrev pub upper : FrameId
upper = record { 0 = 131072 }

abbrev pub object : ℕ → ObjectId
object id = record { 0 = id }

abbrev pub class : ℕ → ClassId
class id = record { 0 = id }

abbrev local : List ℕ → List ℕ → ℤ → ℕ → ALocal
local name signature slot index =
    record { index = index; name = name; signature = signature; length = 4; slot = slot }

abbrev told : List ℕ → List ℕ → Option ℕ → ℕ → Variable
told name value indexed reference =
    record { name = name; value = value; kind = None; indexed = indexed; reference = reference }

abbrev tells : Request → List Variable → Message
tells asked variables = responds asked (outcomes.Success (shapes.Variables variables))

-- Scopes --------------------------------------------------------------------------------------------------------------

-- the variables of a frame get the next number, and nothing is asked
scopes : said_on 8 (heard shown (scopes_of 1)) ≡ responds (scopes_of 1) (outcomes.Success (shapes.Scopes 3)) ∷ []
unfolding due wanted load_of newly_lacked next_change wished need chained made_with each key_of chars encode lossy
    lossy_after is_utf8
scopes = refl

abbrev pub opened : Machine
opened = drive 8 (heard shown (scopes_of 1))

-- Variables of a frame ------------------------------------------------------------------------------------------------

asks_locals : said_on 8 (heard opened (children_of 3))
    ≡ asks (questions.ThisObject one upper) ∷ asks (questions.VariableTable (at 5).class (at 5).method) ∷ []
unfolding due wanted load_of newly_lacked next_change wished need chained made_with each key_of chars encode lossy
    lossy_after is_utf8
asks_locals = refl

-- in order of slots, without one that isn't visible there, and without `this`
abbrev pub table : List ALocal
table = local (codes "a") (codes "[I") (pos 2) 3 ∷ local (codes "this") (codes "La/F;") (pos 0) 0
    ∷ local (codes "n") (codes "I") (pos 1) 5 ∷ local (codes "late") (codes "J") (pos 3) 6 ∷ []

abbrev listed : Machine
listed = says (questions.VariableTable (at 5).class (at 5).method)
    (answers.VariableTable (pos 0) table)
    (says (questions.ThisObject one upper) (answers.ThisObject (values.Object (object 31)))
    (drive 8 (heard opened (children_of 3))))

abbrev slots : List Slot
slots = record { slot = pos 1; tag = 73 } ∷ record { slot = pos 2; tag = 91 } ∷ []

waits_for_slots : said_on 8 (answered (drive 8 (answered (drive 8 (heard opened (children_of 3)))
    (a_question (questions.ThisObject one upper)) (an_answer (answers.ThisObject (values.Object (object 31))))))
    (a_question (questions.VariableTable (at 5).class (at 5).method))
    (an_answer (answers.VariableTable (pos 0) table)))
    ≡ asks (questions.GetSlots one upper slots) ∷ []
unfolding due wanted load_of newly_lacked next_change wished need chained made_with each key_of chars encode lossy
    lossy_after is_utf8
waits_for_slots = refl

-- an object is asked for its type, an array for its length too
abbrev filled : Machine
filled = answered listed (a_question (questions.GetSlots one upper slots))
    (an_answer (answers.GetSlots (values.Int (pos 5) ∷ values.Array (object 40) ∷ [])))

asks_values : said_on 8 filled ≡ asks (questions.ObjectType (object 31)) ∷ asks (questions.ObjectType (object 40))
    ∷ asks (questions.ArrayLength (object 40)) ∷ []
unfolding due wanted load_of newly_lacked next_change wished need chained made_with each key_of chars encode lossy
    lossy_after is_utf8
asks_values = refl

abbrev typed : Machine
typed = answered
    (says (questions.ArrayLength (object 40)) (answers.ArrayLength 3)
    (says (questions.ObjectType (object 40)) (answers.ObjectType tags.Array (class 50))
    (says (questions.ObjectType (object 31)) (answers.ObjectType tags.Class (class 16)) (drive 8 filled))))
    (a_question (questions.Signature (class 50))) (an_answer (answers.Signature (codes "[I")))

shows_locals : said_on 8 typed ≡ tells (children_of 3) (told (codes "this") (codes "a.F@1f") None 4
    ∷ told (codes "n") (codes "5") None 0 ∷ told (codes "a") (codes "int[3]") (Some 3) 5 ∷ []) ∷ []
unfolding due wanted load_of newly_lacked next_change wished need chained made_with each key_of chars encode lossy
    lossy_after is_utf8 digits
shows_locals = refl

-- a slot that is refused fails the request (JDWP, Error Constants, INVALID_SLOT)
fails_slots : said_on 8 (answered listed (a_question (questions.GetSlots one upper slots)) (an_error 35))
    ≡ fails (children_of 3) (target_error 35) ∷ []
unfolding due wanted load_of newly_lacked next_change wished need chained made_with each key_of chars encode lossy
    lossy_after is_utf8
fails_slots = refl

-- without a table only the receiver is shown; nothing is asked of null, and no slot where none is shown (JDWP, Error
-- Constants, ABSENT_INFORMATION)
shows_none : said_on 8 (answered (drive 8 (answered (drive 8 (heard opened (children_of 3)))
    (a_question (questions.VariableTable (at 5).class (at 5).method)) (an_error 101)))
    (a_question (questions.ThisObject one upper)) (an_answer (answers.ThisObject (values.Object (object 0)))))
    ≡ tells (children_of 3) [] ∷ []
unfolding due wanted load_of newly_lacked next_change wished need chained made_with each key_of chars encode lossy
    lossy_after is_utf8
shows_none = refl

-- Fields of an object -------------------------------------------------------------------------------------------------

abbrev pub numbered : Machine
numbered = drive 8 typed

abbrev pub field : ℕ → List ℕ → List ℕ → ℤ → Field
field id name signature bits =
    record { id = record { 0 = id }; name = name; signature = signature; bits = bits }

-- the classes are asked one above the other, and then the fields of all
abbrev with_fields : Machine
with_fields = says (questions.Fields (class 17))
    (answers.Fields (field 3 (codes "x") (codes "J") (pos 2) ∷ []))
    (says (questions.Fields (class 16)) (answers.Fields (field 1 (codes "x") (codes "I") (pos 0)
    ∷ field 2 (codes "all") (codes "I") (pos 8) ∷ []))
    (says (questions.Superclass (class 17)) (answers.Superclass (class 0))
    (says (questions.Superclass (class 16)) (answers.Superclass (class 17))
    (says (questions.ObjectType (object 31)) (answers.ObjectType tags.Class (class 16))
    (drive 8 (heard numbered (children_of 4)))))))

asks_fields : said_on 8 (answered (says (questions.ObjectType (object 31)) (answers.ObjectType tags.Class (class 16))
    (drive 8 (heard numbered (children_of 4)))) (a_question (questions.Superclass (class 16)))
    (an_answer (answers.Superclass (class 0)))) ≡ asks (questions.Fields (class 16)) ∷ []
unfolding due wanted load_of newly_lacked next_change wished need chained made_with each key_of chars encode lossy
    lossy_after is_utf8 chain
asks_fields = refl

-- a name that was met has its class's behind it; a static field isn't shown
shows_fields : said_on 8 (answered with_fields
    (a_question (questions.GetFields (object 31) (record { 0 = 1 } ∷ record { 0 = 3 } ∷ [])))
    (an_answer (answers.GetFields (values.Int (pos 1) ∷ values.Long (pos 2) ∷ []))))
    ≡ tells (children_of 4) (told (codes "x") (codes "1") None 0 ∷ told (codes "x@b.G") (codes "2") None 0 ∷ []) ∷ []
unfolding due wanted load_of newly_lacked next_change wished need chained made_with each key_of chars encode lossy
    lossy_after is_utf8 chain digits
shows_fields = refl

-- Elements of an array ------------------------------------------------------------------------------------------------

-- a page of them, clipped at the end
shows_elements : said_on 8 (answered (says (questions.ArrayLength (object 40)) (answers.ArrayLength 3)
    (drive 8 (heard numbered (page_of 5 Indexed 2 5))))
    (a_question (questions.GetElements (object 40) (pos 2) (pos 1)))
    (an_answer (answers.GetElements (record { tag = kinds.Int; values = values.Int (pos 7) ∷ [] }))))
    ≡ tells (page_of 5 Indexed 2 5) (told (codes "[2]") (codes "7") None 0 ∷ []) ∷ []
unfolding due wanted load_of newly_lacked next_change wished need chained made_with each key_of chars encode lossy
    lossy_after is_utf8 digits
shows_elements = refl

-- past the end nothing is asked, nor for a filter that leaves nothing
past_end : said_on 8 (answered (drive 8 (heard numbered (page_of 5 Both 3 0)))
    (a_question (questions.ArrayLength (object 40))) (an_answer (answers.ArrayLength 3)))
    ≡ tells (page_of 5 Both 3 0) [] ∷ []
unfolding due wanted load_of newly_lacked next_change wished need chained made_with each key_of chars encode lossy
    lossy_after is_utf8
past_end = refl

no_named : said_on 8 (heard numbered (page_of 5 Named 0 0)) ≡ tells (page_of 5 Named 0 0) [] ∷ []
unfolding due wanted load_of newly_lacked next_change wished need chained made_with each key_of chars encode lossy
    lossy_after is_utf8
no_named = refl

-- Numbers -------------------------------------------------------------------------------------------------------------

-- of another kind, and never told
fails_kinds : (said_on 8 (heard opened (children_of 1)) ≡ fails (children_of 1) wrong_kind ∷ [])
    × (said_on 8 (heard opened (scopes_of 3)) ≡ fails (scopes_of 3) wrong_kind ∷ [])
    × (said_on 8 (heard opened (children_of 99)) ≡ fails (children_of 99) (unknown_reference 4) ∷ [])
    × (said_on 8 (heard opened (scopes_of 0)) ≡ fails (scopes_of 0) (unknown_reference 4) ∷ [])
unfolding due wanted load_of newly_lacked next_change wished need chained made_with each key_of chars encode lossy
    lossy_after is_utf8
fails_kinds = (refl, refl, refl, refl)

-- once the target runs on, those of the stop are stale
abbrev left : Machine
left = drive 8 (heard opened (continues 1))

fails_stale : (said_on 8 (heard (record left { hand = None }) (children_of 3)) ≡ fails (children_of 3) (stale 1) ∷ [])
    × (said_on 8 (heard (record left { hand = None }) (scopes_of 99)) ≡ fails (scopes_of 99) (unknown_reference 4) ∷ [])
unfolding due wanted load_of newly_lacked next_change wished need chained made_with each key_of chars encode lossy
    lossy_after is_utf8
fails_stale = (refl, refl)

-- the last number is 2^31 - 1
abbrev near_end : ℕ → Machine
near_end next = record opened {
  state = record opened.state {
    numbers = record opened.state.numbers {
      past = record { firsts = 1 ∷ []; next = next };
    };
  };
}

spends_numbers : (said_on 8 (heard (near_end 2147483644) (scopes_of 2147483645))
    ≡ responds (scopes_of 2147483645) (outcomes.Success (shapes.Scopes 2147483647)) ∷ [])
    × (said_on 8 (heard (near_end 2147483645) (scopes_of 2147483646))
    ≡ fails (scopes_of 2147483646) references_spent ∷ [])
unfolding due wanted load_of newly_lacked next_change wished need chained made_with each key_of chars encode lossy
    lossy_after is_utf8
spends_numbers = (refl, refl)
