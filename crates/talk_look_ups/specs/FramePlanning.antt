-- What is shown of frames, in the words of the code: what is heard of the class of each, what it lacks, and how it is
-- shown once nothing is lacking (JDWP, ThreadReference command set, Frames; JDWP, ReferenceType command set, Signature,
-- SourceFile and Methods; JDWP, Method command set, LineTable).
use Rattle.std.specs.Prelude.{ℕ, ℤ, pos, ◌++◌, codes, List, [], ◌∷◌, Option, None, option_copied, option_map, unwrap_or}
use Rattle.jdwp_commands.specs.declared.listed.Frame.{Frame}
use Rattle.jdwp_commands.specs.declared.question.Question.TheVariants as questions
use Rattle.jdwp_values.specs.declared.class.Method.{Method}
use Rattle.jdwp_values.specs.declared.id.ClassId.{ClassId}
use Rattle.jdwp_values.specs.declared.id.ThreadId.{ThreadId}
use Rattle.jdwp_values.specs.declared.location.Location.{Location}
use Rattle.machine_model.specs.Facts.{signature_in}
use Rattle.machine_model.specs.Frames.{counted_plan, frame_shown, frames_in, frames_plan, line_at, method_name, shown_plan}
use Rattle.machine_model.specs.Frames.{spot_by}
use Rattle.machine_model.specs.Plans.{Need, Plan, Sight, asking, chained, found_from, need}
use Rattle.machine_model.specs.State.{State}
use Rattle.machine_model.specs.declared.acts.Want.{Want}
use Rattle.machine_model.specs.declared.parts.Finding.{Finding}
use Rattle.machine_model.specs.declared.parts.ShownFrame.{ShownFrame}
use Rattle.session_facts.specs.ClassPlanning.{known_or, lines_heard, lines_lacking, methods_heard, source_heard}
use Rattle.session_facts.specs.ClassPlanning.{unless_heard}
use Rattle.talk_look_ups.specs.declared.frame_names.ClassHeard.{ClassHeard}
use Rattle.value_views.specs.Names.{class_name}
use Rattle.wish_sets.specs.Places.{key_by}

-- the signature of a class, where it was learnt or replied
abbrev pub signature_heard : Sight → ClassId → Option (List ℕ)
signature_heard sight class =
    known_or (option_map (λ loaded. loaded.signature) (sight.classes.loaded class)) signature_in
    (found_from 0 sight.asked (questions.Signature class))

-- so many frames are asked for, from a place on, and each is shown, of so many in all
abbrev pub listed_plan : State → ThreadId → ℕ → ℕ → ℕ → Plan Finding
listed_plan state thread total start count =
    chained (asking frames_in (Want.Must (questions.Frames thread (pos start) (pos count))))
    (shown_plan state thread total)

-- what they come to, by what was replied so far
unfoldable pub shown_in : Sight → State → ThreadId → ℕ → List Frame → Need Finding
shown_in sight state thread total frames = need sight (shown_plan state thread total frames)

unfoldable pub listed_in : Sight → State → ThreadId → ℕ → ℕ → ℕ → Need Finding
listed_in sight state thread total start count = need sight (listed_plan state thread total start count)

unfoldable pub counted_in : Sight → State → ThreadId → ℕ → ℕ → ℕ → Need Finding
counted_in sight state thread start levels total = need sight (counted_plan state thread start levels total)

unfoldable pub stack_in : Sight → State → ThreadId → ℕ → ℕ → Need Finding
stack_in sight state thread start levels = need sight (frames_plan state thread start levels)

-- a frame as it is shown, by what was heard of its class and by its line
abbrev pub frame_by : State → ThreadId → Frame → ClassHeard → ShownFrame
frame_by state thread frame heard = record {
  frame = record { thread = thread; frame = frame.id; at = frame.at };
  name = class_name heard.signature.now ++ codes "." ++ method_name frame.at.method heard.methods.now;
  spot = spot_by state (key_by heard.signature.now (option_copied heard.source)) heard.line;
}

-- the line of a location, where the lines of its method were learnt or replied
abbrev pub line_found : Sight → Location → Option ℤ
line_found sight at = line_at at.index (unwrap_or (lines_heard sight at.class at.method) None)

-- What is lacking -----------------------------------------------------------------------------------------------------

abbrev pub signature_lacking : Sight → ClassId → List Want
signature_lacking sight class = unless_heard (signature_heard sight class) (questions.Signature class)

abbrev pub source_lacking : Sight → ClassId → List Want
source_lacking sight class = unless_heard (source_heard sight class) (questions.SourceFile class)

abbrev pub methods_lacking : Sight → ClassId → List Want
methods_lacking sight class = unless_heard (methods_heard sight class) (questions.Methods class)

-- what a frame lacks: facts of its class, and of its method
abbrev pub frame_lacking : Sight → Frame → List Want
frame_lacking sight frame =
    (signature_lacking sight frame.at.class ++ source_lacking sight frame.at.class)
    ++ (methods_lacking sight frame.at.class ++ lines_lacking sight frame.at.class frame.at.method)

-- What is found -------------------------------------------------------------------------------------------------------

abbrev pub signature_found : Sight → ClassId → List ℕ
signature_found sight class = unwrap_or (signature_heard sight class) []

abbrev pub source_found : Sight → ClassId → Option (List ℕ)
source_found sight class = unwrap_or (source_heard sight class) None

abbrev pub methods_found : Sight → ClassId → List Method
methods_found sight class = unwrap_or (methods_heard sight class) []

-- a frame as it is shown, by what is heard of its class and its method
abbrev pub frame_found : State → Sight → ThreadId → Frame → ShownFrame
frame_found state sight thread frame = frame_shown state thread frame (
  (signature_found sight frame.at.class, source_found sight frame.at.class),
  (methods_found sight frame.at.class, unwrap_or (lines_heard sight frame.at.class frame.at.method) None),
)
