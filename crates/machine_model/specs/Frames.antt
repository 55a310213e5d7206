-- What `stackTrace` shows of a thread (DAP specification, StackTrace request; JDWP, ThreadReference command set,
-- FrameCount and Frames).
use Rattle.std.specs.Prelude.{ℕ, zero, suc, ℤ, pos, ◌-ℤ◌, ◌-◌, ◌==◌, ◌∷◌, ◌++◌, Bool, true, false, cond, List, [], min}
use Rattle.std.specs.Prelude.{find, unwrap_or, codes, bytes_eq}
use Rattle.std.specs.Prelude.{Option, None, Some, option_map}
use Rattle.class_tables.specs.Lines.{entry_at}
use Rattle.class_tables.specs.Tables.{put}
use Rattle.class_tables.specs.Views.{Key, entries_of}
use Rattle.dap_messages.specs.declared.told.StackFrame.{StackFrame}
use Rattle.jdwp_commands.specs.declared.answer.Answer.TheVariants as answers
use Rattle.jdwp_commands.specs.declared.listed.Frame.{Frame}
use Rattle.jdwp_commands.specs.declared.question.Question.TheVariants as questions
use Rattle.jdwp_values.specs.Lossy.{lossy}
use Rattle.jdwp_values.specs.declared.class.LineTable.{LineTable}
use Rattle.jdwp_values.specs.declared.class.Method.{Method}
use Rattle.jdwp_values.specs.declared.id.ClassId.{ClassId}
use Rattle.jdwp_values.specs.declared.id.MethodId.{MethodId}
use Rattle.machine_model.specs.Breakpoints.{trimmed}
use Rattle.machine_model.specs.Facts.{lines_in, methods_in, signature_in, source_in}
use Rattle.machine_model.specs.Names.{Answer, ClientOptions, Finding, ShownFrame, Spot, ThreadId, Want, frames_found}
use Rattle.machine_model.specs.Plans.{Plan, asking, both, chained, each, gives, made_with}
use Rattle.machine_model.specs.State.{State}
use Rattle.stop_refs.specs.Numbers.{InHand, number_of}
use Rattle.stop_refs.specs.declared.thing.Thing.TheVariants.{Frame as a_frame}
use Rattle.value_views.specs.Names.{class_name}
use Rattle.wish_sets.specs.Names.{key_parts, same_key}
use Rattle.wish_sets.specs.Places.{key_by}

-- Sources -------------------------------------------------------------------------------------------------------------

-- a client listed breakpoints of a source under this path; without a key nothing is kept
abbrev pub with_path : Option (List ℕ) → List ℕ → List (List ℕ × List ℕ) → List (List ℕ × List ℕ)
with_path None path paths = paths
with_path (Some key) path paths = put bytes_eq key path paths

-- a file in the folder of its package
abbrev pub in_package : List ℕ → List ℕ → List ℕ
in_package [] file = file
in_package (byte ∷ bytes) file = lossy (byte ∷ bytes) ++ codes "/" ++ file

-- a source in the first folder of sources
abbrev pub path_in : List (List ℕ) → Key → List ℕ
path_in [] key = codes "/" ++ in_package key.package_path (lossy key.file)
path_in (root ∷ roots) key = trimmed root ++ codes "/" ++ in_package key.package_path (lossy key.file)

-- the path under which the client listed breakpoints of a source last
abbrev pub path_listed : Key → List (List ℕ × List ℕ) → Option (List ℕ)
path_listed key [] = None
path_listed key (listed ∷ paths) = cond (same_key (key_parts listed.0) key) (Some listed.1) (path_listed key paths)

-- the path of a source: as the client named it, else in the first folder (DAP specification, Types, Source, path)
abbrev pub path_of : State → Key → List ℕ
path_of state key = unwrap_or (path_listed key state.paths) (path_in state.roots key)

-- where a frame stands: in a source that has a key, at a line that is known (DAP specification, Types, StackFrame)
abbrev pub spot_by : State → Option Key → Option ℤ → Option Spot
spot_by state None line = None
spot_by state (Some key) None = None
spot_by state (Some key) (Some line) =
    Some (record { source = record { name = lossy key.file; path = path_of state key }; line = line })

-- Frames --------------------------------------------------------------------------------------------------------------

-- the name of the first method with this id, empty where there is none (JDWP, ReferenceType command set, Methods)
abbrev pub method_name : MethodId → List Method → List ℕ
method_name id methods =
    unwrap_or (option_map (λ method. lossy method.name) (find (λ method. method.id.0 == id.0) methods)) []

-- the line of a code index (JDWP, Method command set, LineTable)
abbrev pub line_at : ℕ → Option LineTable → Option ℤ
line_at index table = option_map (λ entry. entry.line) (entry_at index (entries_of (Some table)))

-- a frame by its class's signature and source, and by its class's methods and its method's lines
abbrev pub frame_shown
    : State → ThreadId → Frame → (List ℕ × Option (List ℕ)) × (List Method × Option LineTable) → ShownFrame
frame_shown state thread frame facts = record {
  frame = record { thread = thread; frame = frame.id; at = frame.at };
  name = class_name facts.0.0 ++ codes "." ++ method_name frame.at.method facts.1.0;
  spot = spot_by state (key_by facts.0.0 facts.0.1) (line_at frame.at.index facts.1.1);
}

-- facts of a class (JDWP, ReferenceType command set, Signature, SourceFile and Methods; JDWP, Method command set,
-- LineTable)
abbrev pub signature_plan : ClassId → Plan (List ℕ)
signature_plan class = asking signature_in (Want.Fact (questions.Signature class))

abbrev pub source_plan : ClassId → Plan (Option (List ℕ))
source_plan class = asking source_in (Want.Fact (questions.SourceFile class))

abbrev pub methods_plan : ClassId → Plan (List Method)
methods_plan class = asking methods_in (Want.Fact (questions.Methods class))

abbrev pub lines_plan : ClassId → MethodId → Plan (Option LineTable)
lines_plan class method = asking lines_in (Want.Fact (questions.LineTable class method))

-- all of them are asked at once
abbrev pub frame_plan : State → ThreadId → Frame → Plan ShownFrame
frame_plan state thread frame = made_with (frame_shown state thread frame)
    (both (both (signature_plan frame.at.class) (source_plan frame.at.class))
    (both (methods_plan frame.at.class) (lines_plan frame.at.class frame.at.method)))

-- The look-up ---------------------------------------------------------------------------------------------------------

-- so many frames are shown at most
abbrev pub most_frames : ℕ
most_frames = 10000

-- So many are shown from a place on: as many as are asked for, where 0 is all (DAP specification, StackTrace request,
-- startFrame and levels).
abbrev pub count_from : ℕ → ℕ → ℕ → ℕ
count_from total start zero = min most_frames (total - start)
count_from total start (suc levels) = min most_frames (min (suc levels) (total - start))

abbrev pub count_in : Option Answer → ℕ
count_in (Some (answers.FrameCount count)) = count
count_in _ = 0

abbrev pub frames_in : Option Answer → List Frame
frames_in (Some (answers.Frames frames)) = frames
frames_in _ = []

-- where no frame is shown nothing is asked (JDWP, ThreadReference command set, Frames)
abbrev pub frames_from : ThreadId → ℕ → ℕ → Plan (List Frame)
frames_from thread start zero = gives []
frames_from thread start (suc count) =
    asking frames_in (Want.Must (questions.Frames thread (pos start) (pos (suc count))))

-- each frame is shown, of so many in all
abbrev pub shown_plan : State → ThreadId → ℕ → List Frame → Plan Finding
shown_plan state thread total frames = made_with (frames_found total) (each (frame_plan state thread) frames)

abbrev pub counted_plan : State → ThreadId → ℕ → ℕ → ℕ → Plan Finding
counted_plan state thread start levels total =
    chained (frames_from thread start (count_from total start levels)) (shown_plan state thread total)

abbrev pub frames_plan : State → ThreadId → ℕ → ℕ → Plan Finding
frames_plan state thread start levels =
    chained (asking count_in (Want.Must (questions.FrameCount thread))) (counted_plan state thread start levels)

-- How they are told --------------------------------------------------------------------------------------------------

-- a line as the client counts lines (DAP specification, Initialize request, linesStartAt1)
abbrev pub client_line : Bool → ℤ → ℤ
client_line true line = line
client_line false line = line -ℤ pos 1

-- the first column, as the client counts columns (DAP specification, Initialize request, columnsStartAt1)
abbrev pub first_column : Bool → ℕ
first_column true = 1
first_column false = 0

-- a frame without a source stands at line 0 and column 0 (DAP specification, Types, StackFrame, line and column)
abbrev pub frame_by : ℕ → List ℕ → ClientOptions → Option Spot → StackFrame
frame_by id name options None =
    record { id = id; name = name; line = pos 0; column = 0; source = None }
frame_by id name options (Some spot) = record {
  id = id;
  name = name;
  line = client_line options.lines_from_one spot.line;
  column = first_column options.columns_from_one;
  source = Some spot.source;
}

abbrev pub frame_told : ClientOptions → InHand → ShownFrame → StackFrame
frame_told options numbers shown =
    frame_by (number_of (a_frame shown.frame) numbers) shown.name options shown.spot
