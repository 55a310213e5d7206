-- Worked examples of what look-ups ask and find, at their edges.
use Rattle.std.proofs.Common.{◌≡◌, ℕ, zero, suc, Bool, true, false, cond, List, [], ◌∷◌, Option, Some, None, refl}
use Rattle.std.proofs.Common.{map, negsuc, pos}
use Rattle.std.specs.Prelude.{Result, Err, Ok, codes}
use Rattle.std.specs.Str.{chars, is_utf8}
use lib.Utf8.{encode}
use Rattle.class_tables.specs.Facts.{nothing}
use Rattle.class_tables.specs.Lookups.{found_in}
use Rattle.dap_messages.specs.Telling.{target_error}
use Rattle.dap_messages.specs.declared.requests.Filter.TheVariants.{Both}
use Rattle.dap_messages.specs.declared.told.BreakMode.TheVariants.{Always, Unhandled}
use Rattle.dap_messages.specs.declared.told.Outcome.TheVariants as outcomes
use Rattle.jdwp_commands.specs.declared.answer.Answer.TheVariants as answers
use Rattle.jdwp_commands.specs.declared.question.Question.TheVariants as questions
use Rattle.jdwp_values.specs.Lossy.{lossy, lossy_after}
use Rattle.jdwp_values.specs.declared.id.ObjectId.{ObjectId}
use Rattle.jdwp_values.specs.declared.tag.TypeTag.TheVariants as tags
use Rattle.machine_model.specs.Breakpoints.{key_of}
use Rattle.machine_model.specs.Due.{due, load_of, newly_lacked, wanted}
use Rattle.machine_model.specs.Exceptions.{exception_plan}
use Rattle.machine_model.specs.Keys.{same_question}
use Rattle.machine_model.specs.Names.{Answer, Question, Request, Variables, an_answer, an_error}
use Rattle.machine_model.specs.Plans.{Refusal, Sight, chained, each, has, made_with, need, no_thread, other_error}
use Rattle.machine_model.specs.Plans.{tried_of}
use Rattle.machine_model.specs.References.{has_room}
use Rattle.machine_model.specs.Replying.{answered}
use Rattle.machine_model.specs.Runs.{heard, said}
use Rattle.machine_model.specs.State.{Machine, is_some}
use Rattle.machine_model.specs.Values.{behind_bracket}
use Rattle.machine_model.specs.declared.acts.Sent.{Sent}
use Rattle.machine_model.specs.declared.acts.TargetCommand.TheVariants.{Question as a_question}
use Rattle.machine_model.specs.declared.acts.Want.{Want}
use Rattle.machine_model.specs.declared.parts.Finding.TheVariants.{Exception as exception_found}
use Rattle.machine_model.specs.declared.parts.Thrown.{Thrown}
use Rattle.machine_model.proofs.BreakpointExamples.{at, class}
use Rattle.machine_model.proofs.VariableExamples.{opened, upper}
use Rattle.stop_refs.specs.Numbers.{InHand, begun, from, with_thing}
use Rattle.stop_refs.specs.declared.thing.Thing.TheVariants.{Object as an_object}
use Rattle.wish_sets.specs.Wished.{wished}
use Rattle.wish_sets.specs.Wishes.{next_change}
use Rattle.edge_examples.proofs.Words.{asks, one, request, responds, said_on}

-- What fails ----------------------------------------------------------------------------------------------------------

-- the machine goes on until it has said something
abbrev until_said : ℕ → Machine → Machine
until_said zero m = m
until_said (suc n) m = cond (is_some (said (due false m).act)) (due false m).next (until_said n (due false m).next)

-- the variables of a frame: its receiver is asked for, and then the table of its method
abbrev lists : Request
lists = request 10 (Variables (record { variables_reference = 3; filter = Both; start = 0; count = 0 }))

asks_two : said_on 8 (heard opened lists)
    ≡ asks (questions.ThisObject one upper) ∷ asks (questions.VariableTable (at 5).class (at 5).method) ∷ []
unfolding due wanted load_of newly_lacked next_change wished need chained made_with each key_of chars encode lossy
    lossy_after is_utf8
asks_two = refl

-- Where the first is refused before the other was asked for, the other isn't asked for any more (JDWP, Error Constants,
-- INVALID_FRAMEID).
asks_one : said_on 8 (answered (until_said 8 (heard opened lists)) (a_question (questions.ThisObject one upper))
    (an_error 30))
    ≡ responds lists (outcomes.Failure (target_error 30)) ∷ []
unfolding due wanted load_of newly_lacked next_change wished need chained made_with each key_of chars encode lossy
    lossy_after is_utf8
asks_one = refl

-- Questions -----------------------------------------------------------------------------------------------------------

abbrev object : ℕ → ObjectId
object id = record { 0 = id }

-- Questions are apart that differ in a sign, in an order, in a tag, or in the command alone.
are_apart : (same_question (questions.Frames one (pos 1) (pos 1)) (questions.Frames one (negsuc 1) (pos 1)) ≡ false)
    × (same_question (questions.GetElements (object 5) (pos 0) (pos 2))
    (questions.GetElements (object 5) (pos 2) (pos 0)) ≡ false)
    × (same_question (questions.GetSlots one upper (record { slot = pos 1; tag = 73 } ∷ []))
    (questions.GetSlots one upper (record { slot = pos 1; tag = 74 } ∷ [])) ≡ false)
    × (same_question (questions.LineTable (class 16) (record { 0 = 3 })) (questions.VariableTable (class 16)
    (record { 0 = 3 })) ≡ false)
    × (same_question (questions.ObjectType (object 5)) (questions.StringValue (object 5)) ≡ false)
are_apart = (refl, refl, refl, refl, refl)

-- the error of a thread that isn't there, to a question
abbrev why : Question → Result Answer Refusal
why question = tried_of question (an_error 10)

abbrev of_class : ℕ → List Question
of_class id = questions.Signature (class id) ∷ questions.Fields (class id) ∷ questions.Methods (class id)
    ∷ questions.SourceFile (class id) ∷ questions.Superclass (class id)
    ∷ questions.LineTable (class id) (record { 0 = 3 }) ∷ questions.VariableTable (class id) (record { 0 = 3 }) ∷ []

-- To a question for a fact of a class it says nothing of a thread, to any other it does (JDWP, Error Constants,
-- INVALID_THREAD).
says_why : (map why (of_class 16) ≡ Err other_error ∷ Err other_error ∷ Err other_error ∷ Err other_error
    ∷ Err other_error ∷ Err other_error ∷ Err other_error ∷ [])
    × (why (questions.Frames one (pos 0) (pos 1)) ≡ Err no_thread) × (why (questions.ThreadName one) ≡ Err no_thread)
    × (why (questions.GetFields (object 5) []) ≡ Err no_thread)
says_why = (refl, refl, refl, refl)

-- What was thrown -----------------------------------------------------------------------------------------------------

abbrev sees : List Sent → Sight
sees asked = record { classes = found_in nothing; asked = asked }

-- the object 77 is an `a.E`
abbrev named : Sight
named = sees (record {
  want = Want.Must (questions.ObjectType (object 77));
  reply = Some (an_answer (answers.ObjectType tags.Class (class 50)));
} ∷ record {
  want = Want.Fact (questions.Signature (class 50));
  reply = Some (an_answer (answers.Signature (codes "La/E;")));
} ∷ [])

abbrev threw : ℕ → Bool → Thrown
threw id caught = record { thread = one; object = object id; caught = caught }

-- One that something catches is stopped at in any case, another since nothing handles it; null has no type (DAP
-- specification, Types, ExceptionBreakMode).
says_mode : (need named (exception_plan (threw 77 true)) ≡ has (exception_found (codes "a.E") Always))
    × (need named (exception_plan (threw 77 false)) ≡ has (exception_found (codes "a.E") Unhandled))
    × (need (sees []) (exception_plan (threw 0 true)) ≡ has (exception_found (codes "null") Always))
unfolding need chained made_with chars encode lossy lossy_after is_utf8
says_mode = (refl, refl, refl)

-- the elements of what is no array have no type (JDWP, Detailed Command Information, JNI signature)
opens_brackets : (behind_bracket (codes "[I") ≡ codes "I") × (behind_bracket (codes "[[I") ≡ codes "[I")
    × (behind_bracket (codes "La/F;") ≡ []) × (behind_bracket [] ≡ [])
opens_brackets = (refl, refl, refl, refl)

-- Numbers (DAP specification, Types, Variable, variablesReference) ----------------------------------------------------

-- one number is left
abbrev last : InHand
last = begun (from 2147483647)

-- What was told has its number, and needs none: the last goes to one thing, however often it is told.
has_last : (has_room (an_object (object 31) ∷ []) last ≡ true)
    × (has_room (an_object (object 31) ∷ an_object (object 31) ∷ []) last ≡ true)
    × (has_room (an_object (object 31) ∷ an_object (object 32) ∷ []) last ≡ false)
    × (has_room (an_object (object 31) ∷ []) (with_thing (an_object (object 31)) last) ≡ true)
    × (has_room (an_object (object 32) ∷ []) (with_thing (an_object (object 31)) last) ≡ false)
has_last = (refl, refl, refl, refl, refl)
