-- Worked examples of breakpoints, checked by computation.
use Rattle.std.proofs.Common.{◌≡◌, ℕ, true, false, List, [], ◌∷◌, Some, None, refl}
use Rattle.std.specs.Prelude.{ℤ, pos, negsuc, codes}
use Rattle.std.specs.Str.{chars, is_utf8}
use lib.Utf8.{encode}
use Rattle.dap_messages.specs.declared.requests.SourceBreakpoint.{SourceBreakpoint}
use Rattle.dap_messages.specs.declared.told.Breakpoint.{Breakpoint}
use Rattle.dap_messages.specs.declared.told.BreakpointStatus.{BreakpointStatus}
use Rattle.dap_messages.specs.declared.told.BreakpointStatus.TheVariants as status
use Rattle.dap_messages.specs.declared.told.Event.TheVariants as events
use Rattle.dap_messages.specs.declared.told.Outcome.TheVariants as outcomes
use Rattle.dap_messages.specs.declared.told.Shape.TheVariants as shapes
use Rattle.jdwp_commands.specs.declared.answer.Answer.TheVariants as answers
use Rattle.jdwp_commands.specs.declared.listed.LoadedClass.{LoadedClass}
use Rattle.jdwp_commands.specs.declared.question.Question.TheVariants as questions
use Rattle.jdwp_events.specs.declared.kind.Policy.TheVariants.{All, EventThread, NoThread}
use Rattle.jdwp_events.specs.declared.kind.Policy.{Policy}
use Rattle.jdwp_values.specs.Lossy.{lossy, lossy_after}
use Rattle.jdwp_events.specs.declared.event.Event.TheVariants as happened
use Rattle.jdwp_values.specs.declared.class.Line.{Line}
use Rattle.jdwp_values.specs.declared.class.Method.{Method}
use Rattle.jdwp_values.specs.declared.id.ClassId.{ClassId}
use Rattle.jdwp_values.specs.declared.location.Location.{Location}
use Rattle.jdwp_values.specs.declared.tag.TypeTag.{TypeTag}
use Rattle.jdwp_values.specs.declared.tag.TypeTag.TheVariants as tags
use Rattle.machine_model.specs.Breakpoints.{key_of}
use Rattle.machine_model.specs.Due.{due, load_of, newly_lacked, wanted}
use Rattle.machine_model.specs.Names.{Act, Answer, Clear, Composite, Does, OneThread, Question, Request, Resume, Set}
use Rattle.machine_model.specs.Names.{SetBreakpoints, a_composite, a_question, an_answer, an_effect, an_error, an_event}
use Rattle.machine_model.specs.Names.{of_composite}
use Rattle.machine_model.specs.Plans.{chained, each, made_with, need}
use Rattle.machine_model.specs.Replying.{answered}
use Rattle.machine_model.specs.Runs.{Message, heard, with_item}
use Rattle.machine_model.specs.State.{Machine}
use Rattle.machine_model.proofs.Examples.{asks, attached, changes, drive, request, responds, said_on}
use Rattle.wish_sets.specs.Wished.{wished}
use Rattle.wish_sets.specs.Wishes.{next_change}
use Rattle.wish_sets.specs.declared.wish.Wish.TheVariants as wishes

-- The key of a source -------------------------------------------------------------------------------------------------

abbrev roots : List (List ℕ)
roots = codes "/p/src/" ∷ codes "C:\\x" ∷ codes "/" ∷ []

-- behind the first folder that the path stands in, with `/` between its parts
finds_keys : (key_of roots (codes "/p/src/com/acme/Foo.java") ≡ Some (codes "com/acme/Foo.java"))
    × (key_of roots (codes "C:\\x\\a\\B.java") ≡ Some (codes "a/B.java"))
    × (key_of roots (codes "/q/B.java") ≡ Some (codes "q/B.java"))
    × (key_of roots (codes "C:\\xy\\B.java") ≡ None)
    × (key_of roots (codes "B.java") ≡ None)
unfolding key_of chars encode
finds_keys = (refl, refl, refl, refl, refl)

-- A list --------------------------------------------------------------------------------------------------------------

abbrev at_line : ℕ → SourceBreakpoint
at_line line = record { line = line; plain = true }

abbrev source : List ℕ
source = codes "s/a/F"

abbrev sets : ℕ → List SourceBreakpoint → Request
sets seq breakpoints = request seq (SetBreakpoints (record { path = source; breakpoints = breakpoints }))

abbrev shown : ℕ → ℕ → BreakpointStatus → Breakpoint
shown id line standing = record { id = id; line = Some line; status = standing }

abbrev lists : Request → List Breakpoint → Message
lists asked breakpoints = responds asked (outcomes.Success (shapes.Breakpoints breakpoints))

abbrev first_list : Request
first_list = sets 4 (at_line 10 ∷ [])

-- the package is watched first
watches_package : said_on 8 (heard attached first_list) ≡ changes (Set (wishes.Watch (codes "a"))) ∷ []
unfolding due wanted load_of newly_lacked next_change wished need chained made_with each key_of chars encode lossy
    lossy_after is_utf8
watches_package = refl

-- then all classes are listed
abbrev watched : Machine
watched = answered (drive 8 (heard attached first_list)) (an_effect (Set (wishes.Watch (codes "a"))))
    (an_answer (answers.Set 3))

lists_classes : said_on 8 watched ≡ asks questions.AllClasses ∷ []
unfolding due wanted load_of newly_lacked next_change wished need chained made_with each key_of chars encode lossy
    lossy_after is_utf8
lists_classes = refl

-- a target without classes binds nothing yet
abbrev without_classes : Machine
without_classes = answered (drive 8 watched) (a_question questions.AllClasses) (an_answer (answers.AllClasses []))

waits_for_class : said_on 8 without_classes ≡ lists first_list (shown 1 10 status.NotBoundYet ∷ []) ∷ []
unfolding due wanted load_of newly_lacked next_change wished need chained made_with each key_of chars encode lossy
    lossy_after is_utf8
waits_for_class = refl

-- Classes -------------------------------------------------------------------------------------------------------------

abbrev loaded : TypeTag → ℕ → List ℕ → ℤ → LoadedClass
loaded tag class signature status =
    record { tag = tag; class = record { 0 = class }; signature = signature; status = status }

-- a class of the package, one of another, an array, one that isn't prepared, and a hidden one without a source
abbrev pub classes : List LoadedClass
classes = loaded tags.Class 16 (codes "La/F;") (pos 7) ∷ loaded tags.Class 17 (codes "Lb/G;") (pos 7)
    ∷ loaded tags.Array 18 (codes "[La/F;") (pos 0) ∷ loaded tags.Class 19 (codes "La/H;") (pos 1)
    ∷ loaded tags.Interface 20 (codes "La/F$1.0x1f;") (pos 3) ∷ []

abbrev pub class : ℕ → ClassId
class id = record { 0 = id }

abbrev with_classes : Machine
with_classes = answered (drive 8 watched) (a_question questions.AllClasses) (an_answer (answers.AllClasses classes))

-- those of the package that are prepared are asked for their source, side by side
asks_sources : said_on 8 with_classes
    ≡ asks (questions.SourceFile (class 16)) ∷ asks (questions.SourceFile (class 20)) ∷ []
unfolding due wanted load_of newly_lacked next_change wished need chained made_with each key_of chars encode lossy
    lossy_after is_utf8
asks_sources = refl

abbrev pub says_of : Question → Answer → Machine → Machine
says_of question answer m = drive 8 (answered m (a_question question) (an_answer answer))

abbrev with_sources : Machine
with_sources = says_of (questions.SourceFile (class 16)) (answers.SourceFile (codes "F"))
    (drive 8 (answered (drive 8 with_classes) (a_question (questions.SourceFile (class 20))) (an_error 101)))

-- the one whose source is listed is asked for its methods
asks_methods : said_on 8 (answered (drive 8 (answered (drive 8 with_classes)
    (a_question (questions.SourceFile (class 20))) (an_error 101))) (a_question (questions.SourceFile (class 16)))
    (an_answer (answers.SourceFile (codes "F")))) ≡ asks (questions.Methods (class 16)) ∷ []
unfolding due wanted load_of newly_lacked next_change wished need chained made_with each key_of chars encode lossy
    lossy_after is_utf8
asks_methods = refl

abbrev pub method : ℕ → Method
method id = record { id = record { 0 = id }; name = codes "m"; signature = codes "()V"; bits = pos 1 }

abbrev with_methods : Machine
with_methods = answered with_sources (a_question (questions.Methods (class 16)))
    (an_answer (answers.Methods (method 3 ∷ method 4 ∷ [])))

abbrev lines_of : ℕ → Question
lines_of id = questions.LineTable (class 16) (record { 0 = id })

asks_lines : said_on 8 with_methods ≡ asks (lines_of 3) ∷ asks (lines_of 4) ∷ []
unfolding due wanted load_of newly_lacked next_change wished need chained made_with each key_of chars encode lossy
    lossy_after is_utf8
asks_lines = refl

abbrev pub line : ℕ → ℕ → Line
line index number = record { index = index; line = pos number }

-- a native method has no lines
abbrev with_lines : Machine
with_lines = answered (says_of (lines_of 4) (answers.LineTable (record { start = negsuc 0; end = negsuc 0; lines = [] }))
    (drive 8 with_methods)) (a_question (lines_of 3)) (an_answer (answers.LineTable (record {
      start = pos 0;
      end = pos 12;
      lines = line 0 9 ∷ line 5 10 ∷ line 9 11 ∷ [];
    })))

abbrev pub at : ℕ → Location
at index = record { tag = tags.Class; class = class 16; method = record { 0 = 3 }; index = index }

-- the breakpoint is bound where its line begins
binds : said_on 8 with_lines ≡ changes (Set (wishes.Stop (at 5))) ∷ []
unfolding due wanted load_of newly_lacked next_change wished need chained made_with each key_of chars encode lossy
    lossy_after is_utf8
binds = refl

abbrev pub bound : Machine
bound = answered (drive 8 with_lines) (an_effect (Set (wishes.Stop (at 5)))) (an_answer (answers.Set 4))

is_verified : said_on 8 bound ≡ lists first_list (shown 1 10 status.Verified ∷ []) ∷ []
unfolding due wanted load_of newly_lacked next_change wished need chained made_with each key_of chars encode lossy
    lossy_after is_utf8
is_verified = refl

-- one that the target refuses isn't
is_refused : said_on 8 (answered (drive 8 with_lines) (an_effect (Set (wishes.Stop (at 5)))) (an_error 24))
    ≡ lists first_list (shown 1 10 status.RefusedByTarget ∷ []) ∷ []
unfolding due wanted load_of newly_lacked next_change wished need chained made_with each key_of chars encode lossy
    lossy_after is_utf8
is_refused = refl

-- Lists that are replaced ---------------------------------------------------------------------------------------------

abbrev two_lines : Request
two_lines = sets 5 (at_line 10 ∷ at_line 11 ∷ [])

-- what is known isn't asked again, and what is installed stays
sets_one_more : said_on 8 (heard (drive 8 bound) two_lines) ≡ changes (Set (wishes.Stop (at 9))) ∷ []
unfolding due wanted load_of newly_lacked next_change wished need chained made_with each key_of chars encode lossy
    lossy_after is_utf8
sets_one_more = refl

abbrev two_bound : Machine
two_bound = drive 8 (answered (drive 8 (heard (drive 8 bound) two_lines)) (an_effect (Set (wishes.Stop (at 9))))
    (an_answer (answers.Set 5)))

abbrev other_lines : Request
other_lines = sets 6 (at_line 11 ∷ at_line 9 ∷ [])

clears_first : said_on 8 (heard two_bound other_lines) ≡ changes (Clear (wishes.Stop (at 5)) 4) ∷ []
unfolding due wanted load_of newly_lacked next_change wished need chained made_with each key_of chars encode lossy
    lossy_after is_utf8
clears_first = refl

abbrev cleared : Machine
cleared = answered (drive 8 (heard two_bound other_lines)) (an_effect (Clear (wishes.Stop (at 5)) 4))
    (an_answer answers.Clear)

sets_then : said_on 8 cleared ≡ changes (Set (wishes.Stop (at 0))) ∷ []
unfolding due wanted load_of newly_lacked next_change wished need chained made_with each key_of chars encode lossy
    lossy_after is_utf8
sets_then = refl

tells_both : said_on 8 (answered (drive 8 cleared) (an_effect (Set (wishes.Stop (at 0)))) (an_answer (answers.Set 6)))
    ≡ lists other_lines (shown 4 11 status.Verified ∷ shown 5 9 status.Verified ∷ []) ∷ []
unfolding due wanted load_of newly_lacked next_change wished need chained made_with each key_of chars encode lossy
    lossy_after is_utf8
tells_both = refl

-- Facts at once -------------------------------------------------------------------------------------------------------

abbrev other_source : Request
other_source = request 8 (SetBreakpoints (record { path = codes "s/b/G"; breakpoints = at_line 3 ∷ [] }))

abbrev other_watched : Machine
other_watched = answered (drive 8 (heard (drive 8 bound) other_source)) (an_effect (Set (wishes.Watch (codes "b"))))
    (an_answer (answers.Set 5))

-- the class of the other package that is known is asked for its source beside the list of all classes
asks_beside : said_on 8 other_watched ≡ asks questions.AllClasses ∷ asks (questions.SourceFile (class 17)) ∷ []
unfolding due wanted load_of newly_lacked next_change wished need chained made_with each key_of chars encode lossy
    lossy_after is_utf8
asks_beside = refl

-- and for its methods, though that list isn't there yet
asks_on : said_on 8 (answered (drive 8 other_watched) (a_question (questions.SourceFile (class 17)))
    (an_answer (answers.SourceFile (codes "G")))) ≡ asks (questions.Methods (class 17)) ∷ []
unfolding due wanted load_of newly_lacked next_change wished need chained made_with each key_of chars encode lossy
    lossy_after is_utf8
asks_on = refl

-- Entries that are never bound ----------------------------------------------------------------------------------------

abbrev outside : Request
outside = request 7 (SetBreakpoints (record {
  path = codes "t/F";
  breakpoints = at_line 3 ∷ record { line = 4; plain = false } ∷ [];
}))

-- a source outside all folders, and a breakpoint with a condition: nothing is sent
tells_outside : said_on 8 (heard attached outside)
    ≡ lists outside (shown 1 3 status.NoSourceRoot ∷ shown 2 4 status.ConditionsUnsupported ∷ []) ∷ []
unfolding due wanted load_of newly_lacked next_change wished need chained made_with each key_of chars encode lossy
    lossy_after is_utf8
tells_outside = refl

-- Classes that are prepared later -------------------------------------------------------------------------------------

abbrev prepared_under : Policy → Composite
prepared_under policy = record {
  policy = policy;
  events = happened.ClassPrepare 3 (record { 0 = 1 }) tags.Class (class 16) (codes "La/F;") (pos 7) ∷ [];
}

abbrev prepared : Policy → Machine
prepared policy = with_item (drive 8 without_classes) (a_composite 75 (prepared_under policy))

-- the class is learnt, and asked for its source
asks_prepared : said_on 8 (prepared All) ≡ asks (questions.SourceFile (class 16)) ∷ []
unfolding due wanted load_of newly_lacked next_change wished need chained made_with each key_of chars encode lossy
    lossy_after is_utf8
asks_prepared = refl

abbrev learnt : Policy → Machine
learnt policy = says_of (lines_of 3)
    (answers.LineTable (record { start = pos 0; end = pos 12; lines = line 5 10 ∷ [] }))
    (says_of (questions.Methods (class 16)) (answers.Methods (method 3 ∷ []))
    (says_of (questions.SourceFile (class 16)) (answers.SourceFile (codes "F")) (drive 8 (prepared policy))))

abbrev later_bound : Policy → Machine
later_bound policy = answered (learnt policy) (an_effect (Set (wishes.Stop (at 5)))) (an_answer (answers.Set 4))

abbrev tells_verified : Message
tells_verified = Message.tells (an_event (events.Breakpoint (shown 1 10 status.Verified)))

-- once its breakpoint is set, the client is told so, and the suspension is undone
resumes_bound : said_on 8 (later_bound All) ≡ tells_verified ∷ changes (Does (Resume of_composite)) ∷ []
unfolding due wanted load_of newly_lacked next_change wished need chained made_with each key_of chars encode lossy
    lossy_after is_utf8
resumes_bound = refl

-- without a suspension there is nothing to undo
tells_alone : said_on 8 (later_bound NoThread) ≡ tells_verified ∷ []
unfolding due wanted load_of newly_lacked next_change wished need chained made_with each key_of chars encode lossy
    lossy_after is_utf8
tells_alone = refl

-- one thread alone was never to be suspended
ends_at_one_thread : (due false (drive 2 (prepared EventThread))).act ≡ Act.Over (OneThread 75)
unfolding due wanted load_of newly_lacked next_change wished need chained made_with each key_of chars encode lossy
    lossy_after is_utf8
ends_at_one_thread = refl
