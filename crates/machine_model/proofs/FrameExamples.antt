-- Worked examples of `stackTrace`, checked by computation.
use Rattle.std.proofs.Common.{◌≡◌, ℕ, ℤ, pos, List, [], ◌∷◌, Option, None, Some, refl}
use Rattle.std.specs.Prelude.{codes}
use Rattle.std.specs.Str.{chars, is_utf8}
use Rattle.dap_messages.specs.Telling.{not_stopped, target_error, unknown_thread}
use Rattle.dap_messages.specs.declared.told.Outcome.TheVariants as outcomes
use Rattle.dap_messages.specs.declared.told.Shape.TheVariants as shapes
use Rattle.dap_messages.specs.declared.told.Source.{Source}
use Rattle.dap_messages.specs.declared.told.StackFrame.{StackFrame}
use Rattle.jdwp_commands.specs.declared.answer.Answer.TheVariants as answers
use Rattle.jdwp_commands.specs.declared.listed.Frame.{Frame}
use Rattle.jdwp_commands.specs.declared.question.Question.TheVariants as questions
use Rattle.jdwp_events.specs.declared.event.Event.TheVariants as happened
use Rattle.jdwp_values.specs.Lossy.{lossy, lossy_after}
use Rattle.jdwp_values.specs.declared.location.Location.{Location}
use Rattle.jdwp_values.specs.declared.tag.TypeTag.TheVariants as tags
use Rattle.machine_model.specs.Breakpoints.{key_of}
use Rattle.machine_model.specs.Due.{due, load_of, newly_lacked, wanted}
use Rattle.machine_model.specs.Names.{Answer, Question, Request, StackTrace, a_question, an_answer, an_error, of_stop}
use Rattle.machine_model.specs.Names.{Resume}
use Rattle.machine_model.specs.Plans.{chained, each, made_with, need}
use Rattle.machine_model.specs.Replying.{answered}
use Rattle.machine_model.specs.Runs.{Message, heard}
use Rattle.machine_model.specs.State.{Machine}
use Rattle.machine_model.proofs.BreakpointExamples.{at}
use Rattle.machine_model.proofs.Examples.{asks, drive, request, responds, said_on}
use Rattle.machine_model.proofs.StopExamples.{continues, done, fails, happens, one, resumed, stopped}
use Rattle.wish_sets.specs.Wished.{wished}
use Rattle.wish_sets.specs.Wishes.{next_change}
use lib.Utf8.{encode}

-- Words ---------------------------------------------------------------------------------------------------------------

abbrev shows : ℕ → ℕ → ℕ → Request
shows thread start levels =
    request 8 (StackTrace (record { thread_id = thread; start_frame = start; levels = levels }))

abbrev counts : Question
counts = questions.FrameCount one

abbrev frames_of : ℕ → ℕ → Question
frames_of start length = questions.Frames one (pos start) (pos length)

-- the target answers, and the machine goes on
abbrev pub says : Question → Answer → Machine → Machine
says question answer m = drive 8 (answered m (a_question question) (an_answer answer))

-- a frame in the class where the breakpoint stands, and one in a class that was never listed
abbrev upper : Frame
upper = record { id = record { 0 = 131072 }; at = at 5 }

abbrev place : Location
place = record { tag = tags.Class; class = record { 0 = 32 }; method = record { 0 = 9 }; index = 2 }

abbrev lower : Frame
lower = record { id = record { 0 = 131073 }; at = place }

abbrev told : ℕ → List ℕ → ℤ → ℕ → Option Source → StackFrame
told id name line column source =
    record { id = id; name = name; line = line; column = column; source = source }

abbrev upper_told : ℕ → StackFrame
upper_told id = told id (codes "a.F.m") (pos 10) 1 (Some (record { name = codes "F"; path = codes "s/a/F" }))

abbrev lower_told : ℕ → StackFrame
lower_told id = told id (codes "b.K.") (pos 0) 0 None

abbrev lists : Request → List StackFrame → ℕ → Message
lists asked frames total = responds asked (outcomes.Success (shapes.StackFrames frames total))

-- A stack -------------------------------------------------------------------------------------------------------------

abbrev asked : Machine
asked = heard stopped (shows 1 0 0)

-- the frames are counted first
counts_first : said_on 8 asked ≡ asks counts ∷ []
unfolding due wanted load_of newly_lacked next_change wished need chained made_with each key_of chars encode lossy
    lossy_after is_utf8
counts_first = refl

abbrev counted : Machine
counted = answered (drive 8 asked) (a_question counts) (an_answer (answers.FrameCount 2))

asks_frames : said_on 8 counted ≡ asks (frames_of 0 2) ∷ []
unfolding due wanted load_of newly_lacked next_change wished need chained made_with each key_of chars encode lossy
    lossy_after is_utf8
asks_frames = refl

abbrev framed : Machine
framed = answered (drive 8 counted) (a_question (frames_of 0 2)) (an_answer (answers.Frames (upper ∷ lower ∷ [])))

-- what is known of classes isn't asked, and all else at once
asks_facts : said_on 8 framed ≡ asks (questions.Signature place.class) ∷ asks (questions.SourceFile place.class)
    ∷ asks (questions.Methods place.class) ∷ asks (questions.LineTable place.class place.method) ∷ []
unfolding due wanted load_of newly_lacked next_change wished need chained made_with each key_of chars encode lossy
    lossy_after is_utf8
asks_facts = refl

-- a class without a source, whose method isn't known: the replies come in another order
abbrev pub known : Machine
known = answered
    (drive 8 (answered (drive 8 (answered (says (questions.Methods place.class) (answers.Methods []) (drive 8 framed))
    (a_question (questions.LineTable place.class place.method)) (an_error 101)))
    (a_question (questions.SourceFile place.class)) (an_error 101)))
    (a_question (questions.Signature place.class)) (an_answer (answers.Signature (codes "Lb/K;")))

shows_both : said_on 8 known ≡ lists (shows 1 0 0) (upper_told 1 ∷ lower_told 2 ∷ []) 2 ∷ []
unfolding due wanted load_of newly_lacked next_change wished need chained made_with each key_of chars encode lossy
    lossy_after is_utf8
shows_both = refl

-- Numbers -------------------------------------------------------------------------------------------------------------

-- a frame keeps its number in its stop
again : said_on 8 (answered (says counts (answers.FrameCount 2) (drive 8 (heard (drive 8 known) (shows 1 0 1))))
    (a_question (frames_of 0 1)) (an_answer (answers.Frames (upper ∷ []))))
    ≡ lists (shows 1 0 1) (upper_told 1 ∷ []) 2 ∷ []
unfolding due wanted load_of newly_lacked next_change wished need chained made_with each key_of chars encode lossy
    lossy_after is_utf8
again = refl

-- and another in the next one
abbrev later_stop : Machine
later_stop = drive 16 (happens (happened.Breakpoint 4 one (at 5) ∷ [])
    (drive 8 (done (Resume of_stop) answers.Resume (drive 8 (heard (drive 8 known) (continues 1))))))

goes_on : said_on 8 (answered (says counts (answers.FrameCount 2) (drive 8 (heard later_stop (shows 1 0 1))))
    (a_question (frames_of 0 1)) (an_answer (answers.Frames (upper ∷ []))))
    ≡ lists (shows 1 0 1) (upper_told 3 ∷ []) 2 ∷ []
unfolding due wanted load_of newly_lacked next_change wished need chained made_with each key_of chars encode lossy
    lossy_after is_utf8
goes_on = refl

-- Frames that aren't shown --------------------------------------------------------------------------------------------

-- past the last frame nothing is asked
past_last : said_on 8 (answered (drive 8 (heard stopped (shows 1 2 0))) (a_question counts)
    (an_answer (answers.FrameCount 2))) ≡ lists (shows 1 2 0) [] 2 ∷ []
unfolding due wanted load_of newly_lacked next_change wished need chained made_with each key_of chars encode lossy
    lossy_after is_utf8
past_last = refl

-- a thread that has ended, and another error (JDWP, Error Constants, INVALID_THREAD and THREAD_NOT_SUSPENDED)
fails_ended : said_on 8 (answered (drive 8 asked) (a_question counts) (an_error 10))
    ≡ fails (shows 1 0 0) unknown_thread ∷ []
unfolding due wanted load_of newly_lacked next_change wished need chained made_with each key_of chars encode lossy
    lossy_after is_utf8
fails_ended = refl

fails_refused : said_on 8 (answered (drive 8 asked) (a_question counts) (an_error 13))
    ≡ fails (shows 1 0 0) (target_error 13) ∷ []
unfolding due wanted load_of newly_lacked next_change wished need chained made_with each key_of chars encode lossy
    lossy_after is_utf8
fails_refused = refl

-- a thread that was never told, and no stop
fails_unknown : said_on 8 (heard stopped (shows 2 0 0)) ≡ fails (shows 2 0 0) unknown_thread ∷ []
unfolding due wanted load_of newly_lacked next_change wished need chained made_with each key_of chars encode lossy
    lossy_after is_utf8
fails_unknown = refl

fails_running : said_on 8 (heard (drive 8 resumed) (shows 1 0 0)) ≡ fails (shows 1 0 0) not_stopped ∷ []
unfolding due wanted load_of newly_lacked next_change wished need chained made_with each key_of chars encode lossy
    lossy_after is_utf8
fails_running = refl
