-- What the client set for its breakpoints, by its requests and their responses; and what is wished by that, in every
-- run. The law stands at the end, behind what it speaks of.
use Rattle.std.specs.Prelude.{ℕ, pos, ◌≡◌, ◌+◌, ◌∷◌, Bool, true, false, cond, fold, length, min, List, []}
use Rattle.std.specs.Prelude.{Option, None, Some, bytes_eq}
use Rattle.std.specs.List.{zip}
use Rattle.class_tables.specs.Tables.{put}
use Rattle.dap_messages.specs.declared.requests.FunctionBreakpoint.{FunctionBreakpoint}
use Rattle.dap_messages.specs.declared.requests.SourceBreakpoint.{SourceBreakpoint}
use Rattle.dap_messages.specs.declared.told.Outcome.{Outcome as OutcomeTold}
use Rattle.dap_messages.specs.declared.told.Outcome.TheVariants as outcomes
use Rattle.dap_messages.specs.declared.told.Response.{Response}
use Rattle.machine_model.specs.Breakpoints.{key_of, last_line, short_name}
use Rattle.machine_model.specs.Names.{Attach, Command, Initialize, Request, SetBreakpoints, SetExceptionBreakpoints}
use Rattle.machine_model.specs.Names.{SetFunctionBreakpoints}
use Rattle.machine_model.specs.Rest.{requests_of, responses_of, unanswered_hand}
use Rattle.machine_model.specs.Runs.{Message, Run}
use Rattle.machine_model.specs.State.{Machine, State, is_gone}
use Rattle.wish_sets.specs.declared.entry.FunctionEntry.{FunctionEntry}
use Rattle.wish_sets.specs.declared.entry.LineEntry.{LineEntry}

-- What the messages say -----------------------------------------------------------------------------------------------

-- What the client set: whether its first line is 1; the folders that sources stand in; the id that its next breakpoint
-- gets; the path of each source, and the breakpoints in it, by the source's key; the functions to stop in; and whether
-- caught and uncaught exceptions stop.
pub record Settings : Type 0 where
  pub lines_from_one : Bool
  pub roots : List (List ℕ)
  pub next_id : ℕ
  pub paths : List (List ℕ × List ℕ)
  pub lists : List (List ℕ × List LineEntry)
  pub functions : List FunctionEntry
  pub caught : Bool
  pub uncaught : Bool

abbrev pub nothing_set : Settings
nothing_set = record {
  lines_from_one = true;
  roots = [];
  next_id = 1;
  paths = [];
  lists = [];
  functions = [];
  caught = false;
  uncaught = false;
}

-- each gets the next id (DAP specification, Types, Breakpoint, id)
abbrev pub with_ids : {A B : Type 0} → (ℕ → A → B) → ℕ → List A → List B
with_ids make id [] = []
with_ids make id (one ∷ others) = make id one ∷ with_ids make (id + 1) others

-- one of a source, at a line as the target counts it, from 1 and up to its greatest (DAP specification, Types,
-- SourceBreakpoint; JDWP, Method command set, LineTable, lineNumber)
abbrev pub line_set : Bool → ℕ → SourceBreakpoint → LineEntry
line_set from_one id one =
    record { id = id; line = pos (min (cond from_one one.line (one.line + 1)) last_line); plain = one.plain }

-- one of a function (DAP specification, Types, FunctionBreakpoint)
abbrev pub function_set : ℕ → FunctionBreakpoint → FunctionEntry
function_set id one = record { id = id; name = short_name one.name; plain = one.plain }

-- it takes the place of what stood under the key; without a key nothing is kept
abbrev pub kept_under : {A : Type 0} → Option (List ℕ) → A → List (List ℕ × A) → List (List ℕ × A)
kept_under None new old = old
kept_under (Some key) new old = put bytes_eq key new old

-- what a request sets that succeeds (DAP specification, Requests)
abbrev pub set_by : Command → Settings → Settings
set_by (Initialize arguments) s = record s { lines_from_one = arguments.lines_start_at1 }
set_by (Attach arguments) s = record s { roots = arguments.source_roots }
set_by (SetBreakpoints arguments) s = record s {
  next_id = s.next_id + length arguments.breakpoints;
  paths = kept_under (key_of s.roots arguments.path) arguments.path s.paths;
  lists = kept_under (key_of s.roots arguments.path)
      (with_ids (line_set s.lines_from_one) s.next_id arguments.breakpoints) s.lists;
}
set_by (SetFunctionBreakpoints arguments) s = record s {
  next_id = s.next_id + length arguments.breakpoints;
  functions = with_ids function_set s.next_id arguments.breakpoints;
}
set_by (SetExceptionBreakpoints arguments) s =
    record s { caught = arguments.caught; uncaught = arguments.uncaught }
set_by _ s = s

-- one that fails sets nothing
abbrev pub set_if : OutcomeTold → Command → Settings → Settings
set_if (outcomes.Success shape) command s = set_by command s
set_if (outcomes.Failure failure) command s = s

abbrev pub answered_set : Settings → Request × Response → Settings
answered_set s answered = set_if answered.1.outcome answered.0.command s

-- what the requests set that have a response, in order: the responses answer the first of the requests, one each
abbrev pub settings_of : List Message → Settings
settings_of messages = fold answered_set nothing_set (zip (requests_of messages) (responses_of messages))

-- The law -------------------------------------------------------------------------------------------------------------

-- what is known, and what is wished, is what the client set
pub record IsAsSet (set : Settings) (state : State) : Type 0 where
  pub roots : state.roots ≡ set.roots
  pub next_id : state.next_entry ≡ set.next_id
  pub paths : state.paths ≡ set.paths
  pub lists : state.wishes.wanted.lists ≡ set.lists
  pub functions : state.wishes.wanted.functions ≡ set.functions
  pub caught : state.wishes.wanted.caught ≡ set.caught
  pub uncaught : state.wishes.wanted.uncaught ≡ set.uncaught

-- Until the target is gone, and as long as no request is in hand whose response is to come, all is as the client set it
-- (DAP specification, SetBreakpoints, SetFunctionBreakpoints and SetExceptionBreakpoints requests).
abbrev pub Sets : Type 0
Sets = (messages : List Message) (m : Machine) → Run messages m → is_gone m.state.phase ≡ false
    → unanswered_hand m.hand ≡ [] → IsAsSet (settings_of messages) m.state
