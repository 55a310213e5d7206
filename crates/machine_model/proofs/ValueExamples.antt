-- Worked examples of `evaluate` and `setVariable`, checked by computation.
use Rattle.std.proofs.Common.{◌≡◌, ℕ, pos, List, [], ◌∷◌, None, refl}
use Rattle.std.specs.Fmt.{digits}
use Rattle.std.specs.Prelude.{codes}
use Rattle.std.specs.Str.{chars, is_utf8}
use Rattle.dap_messages.specs.Telling.{bad_expression, bad_index, no_such_name, not_writable, wrong_kind}
use Rattle.dap_messages.specs.declared.told.Outcome.TheVariants as outcomes
use Rattle.dap_messages.specs.declared.told.Shape.TheVariants as shapes
use Rattle.field_exprs.specs.Parsing.{parsed, steps_at}
use Rattle.jdwp_commands.specs.declared.answer.Answer.TheVariants as answers
use Rattle.jdwp_commands.specs.declared.question.Question.TheVariants as questions
use Rattle.jdwp_values.specs.Lossy.{lossy, lossy_after}
use Rattle.jdwp_values.specs.declared.tag.TypeTag.TheVariants as tags
use Rattle.jdwp_values.specs.declared.value.Value.TheVariants as values
use Rattle.machine_model.specs.Breakpoints.{key_of}
use Rattle.machine_model.specs.Due.{due, load_of, newly_lacked, wanted}
use Rattle.machine_model.specs.Expressions.{field_from}
use Rattle.machine_model.specs.Names.{Does, Evaluate, Request, SetVariable, Writes, a_question, an_answer, an_effect}
use Rattle.machine_model.specs.Names.{to_slot}
use Rattle.machine_model.specs.Plans.{chained, each, made_with, need}
use Rattle.machine_model.specs.Replying.{answered}
use Rattle.machine_model.specs.Runs.{Message, heard}
use Rattle.machine_model.specs.State.{Machine}
use Rattle.machine_model.proofs.BreakpointExamples.{at}
use Rattle.machine_model.proofs.Examples.{changes, drive, request, responds, said_on}
use Rattle.machine_model.proofs.FrameExamples.{says}
use Rattle.machine_model.proofs.StopExamples.{fails, one}
use Rattle.machine_model.proofs.VariableExamples.{class, field, object, opened, shown, table, upper}
use Rattle.value_views.specs.Reads.{write_value}
use Rattle.wish_sets.specs.Wished.{wished}
use Rattle.wish_sets.specs.Wishes.{next_change}
use lib.Utf8.{encode}

-- Expressions ---------------------------------------------------------------------------------------------------------

abbrev evaluates : ℕ → List ℕ → Request
evaluates frame text = request 11 (Evaluate (record { expression = text; frame_id = frame }))

abbrev is_value : Request → List ℕ → Message
is_value asked text = responds asked (outcomes.Success
    (shapes.Evaluated (record { result = text; kind = None; indexed = None; reference = 0 })))

-- a text that is no expression fails at its place, and so does what is no frame
fails_texts : (said_on 8 (heard opened (evaluates 1 (codes "a."))) ≡ fails (evaluates 1 (codes "a.")) (bad_expression 2) ∷ [])
    × (said_on 8 (heard opened (evaluates 3 (codes "a."))) ≡ fails (evaluates 3 (codes "a.")) wrong_kind ∷ [])
unfolding due wanted load_of newly_lacked next_change wished need chained made_with each key_of chars encode lossy
    lossy_after is_utf8 parsed steps_at
fails_texts = (refl, refl)

-- a variable is asked for by its slot alone
abbrev with_table : Request → Machine
with_table asked = says (questions.VariableTable (at 5).class (at 5).method) (answers.VariableTable (pos 0) table)
    (drive 8 (heard shown asked))

shows_local : said_on 8 (answered (with_table (evaluates 1 (codes "n")))
    (a_question (questions.GetSlots one upper (record { slot = pos 1; tag = 73 } ∷ [])))
    (an_answer (answers.GetSlots (values.Int (pos 5) ∷ []))))
    ≡ is_value (evaluates 1 (codes "n")) (codes "5") ∷ []
unfolding due wanted load_of newly_lacked next_change wished need chained made_with each key_of chars encode lossy
    lossy_after is_utf8 parsed steps_at digits
shows_local = refl

-- a name that no variable has is a field of the receiver, of the class that it is found in first
abbrev with_class : Request → Machine
with_class asked = says (questions.ObjectType (object 31)) (answers.ObjectType tags.Class (class 16))
    (says (questions.ThisObject one upper) (answers.ThisObject (values.Object (object 31))) (with_table asked))

abbrev with_upper : Request → Machine
with_upper asked = says (questions.Fields (class 17)) (answers.Fields (field 3 (codes "x") (codes "J") (pos 2) ∷ []))
    (says (questions.Superclass (class 16)) (answers.Superclass (class 17))
    (says (questions.Fields (class 16)) (answers.Fields (field 2 (codes "all") (codes "I") (pos 8) ∷ []))
    (with_class asked)))

shows_field : said_on 8 (answered (with_upper (evaluates 1 (codes "x")))
    (a_question (questions.GetFields (object 31) (record { 0 = 3 } ∷ [])))
    (an_answer (answers.GetFields (values.Long (pos 2) ∷ []))))
    ≡ is_value (evaluates 1 (codes "x")) (codes "2") ∷ []
unfolding due wanted load_of newly_lacked next_change wished need chained made_with each key_of chars encode lossy
    lossy_after is_utf8 parsed steps_at field_from digits
shows_field = refl

-- a static field is none of an object's, and above the last class there is none
fails_name : said_on 8 (answered (with_upper (evaluates 1 (codes "all"))) (a_question (questions.Superclass (class 17)))
    (an_answer (answers.Superclass (class 0)))) ≡ fails (evaluates 1 (codes "all")) no_such_name ∷ []
unfolding due wanted load_of newly_lacked next_change wished need chained made_with each key_of chars encode lossy
    lossy_after is_utf8 parsed steps_at field_from
fails_name = refl

-- an index stays inside its array
abbrev with_array : Request → Machine
with_array asked = says (questions.GetSlots one upper (record { slot = pos 2; tag = 91 } ∷ []))
    (answers.GetSlots (values.Array (object 40) ∷ [])) (with_table asked)

fails_index : said_on 8 (answered (with_array (evaluates 1 (codes "a[3]"))) (a_question (questions.ArrayLength (object 40)))
    (an_answer (answers.ArrayLength 3))) ≡ fails (evaluates 1 (codes "a[3]")) bad_index ∷ []
unfolding due wanted load_of newly_lacked next_change wished need chained made_with each key_of chars encode lossy
    lossy_after is_utf8 parsed steps_at
fails_index = refl

-- Writing -------------------------------------------------------------------------------------------------------------

abbrev writes : List ℕ → List ℕ → Request
writes name value = request 12 (SetVariable (record { variables_reference = 3; name = name; value = value }))

abbrev found : Request → Machine
found asked = answered
    (says (questions.ThisObject one upper) (answers.ThisObject (values.Object (object 31))) (drive 8 (heard opened asked)))
    (a_question (questions.VariableTable (at 5).class (at 5).method)) (an_answer (answers.VariableTable (pos 0) table))

sends_write : said_on 8 (found (writes (codes "n") (codes "007")))
    ≡ changes (Does (Writes (record { store = to_slot one upper (pos 1); value = values.Int (pos 7); size = 8 }))) ∷ []
unfolding due wanted load_of newly_lacked next_change wished need chained made_with each key_of chars encode lossy
    lossy_after is_utf8 write_value
sends_write = refl

tells_written : said_on 8 (answered (drive 8 (found (writes (codes "n") (codes "007"))))
    (an_effect (Does (Writes (record { store = to_slot one upper (pos 1); value = values.Int (pos 7); size = 8 }))))
    (an_answer answers.SetSlot))
    ≡ responds (writes (codes "n") (codes "007")) (outcomes.Success
    (shapes.Written (record { value = codes "7"; kind = None }))) ∷ []
unfolding due wanted load_of newly_lacked next_change wished need chained made_with each key_of chars encode lossy
    lossy_after is_utf8 write_value digits
tells_written = refl

-- the receiver takes no value, a reference takes null alone, and a number has to be one
fails_writes : (said_on 8 (found (writes (codes "this") (codes "null"))) ≡ fails (writes (codes "this") (codes "null")) not_writable ∷ [])
    × (said_on 8 (found (writes (codes "a") (codes "7"))) ≡ fails (writes (codes "a") (codes "7")) not_writable ∷ [])
    × (said_on 8 (found (writes (codes "n") (codes "x"))) ≡ fails (writes (codes "n") (codes "x")) (bad_expression 0) ∷ [])
    × (said_on 8 (found (writes (codes "late") (codes "7"))) ≡ fails (writes (codes "late") (codes "7")) no_such_name ∷ [])
unfolding due wanted load_of newly_lacked next_change wished need chained made_with each key_of chars encode lossy
    lossy_after is_utf8 write_value
fails_writes = (refl, refl, refl, refl)
