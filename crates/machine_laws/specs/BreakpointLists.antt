-- The breakpoints that a response lists, in every run (DAP specification, SetBreakpoints and SetFunctionBreakpoints
-- requests). The law stands at the end, behind what it speaks of.
use Rattle.std.specs.Prelude.{ℕ, ◌≡◌, IfSome, List, Option, None, Some, false, map, option_map}
use Rattle.std.specs.List.{AllByRecursion}
use Rattle.dap_messages.specs.declared.requests.FunctionBreakpoint.{FunctionBreakpoint}
use Rattle.dap_messages.specs.declared.requests.SourceBreakpoint.{SourceBreakpoint}
use Rattle.dap_messages.specs.declared.told.Breakpoint.{Breakpoint}
use Rattle.dap_messages.specs.declared.told.Outcome.TheVariants as outcomes
use Rattle.dap_messages.specs.declared.told.Response.{Response}
use Rattle.dap_messages.specs.declared.told.Shape.{Shape}
use Rattle.dap_messages.specs.declared.told.Shape.TheVariants as shapes
use Rattle.machine_laws.specs.Settings.{Settings, settings_of, with_ids}
use Rattle.machine_model.specs.Breakpoints.{is_verified}
use Rattle.machine_model.specs.Due.{due}
use Rattle.machine_model.specs.Leaving.{IsFirst}
use Rattle.machine_steps.specs.Names.{Act, Command, Request, SetBreakpoints, SetFunctionBreakpoints, a_response}
use Rattle.machine_model.specs.Requests.{Wishes}
use Rattle.machine_model.specs.Rest.{IsAnswer}
use Rattle.machine_model.specs.Runs.{Message, Run}
use Rattle.machine_model.specs.State.{Machine}
use Rattle.wish_sets.specs.Entries.{has_location}
use Rattle.wish_sets.specs.Places.{places}
use Rattle.wish_sets.specs.Wishes.{is_installed}

-- the breakpoints in a response
abbrev pub breakpoints_in : Shape → Option (List Breakpoint)
breakpoints_in (shapes.Breakpoints told) = Some told
breakpoints_in _ = None

-- one that is told, and one that is asked for, by its id and its line as the client counts it (DAP specification,
-- Types, Breakpoint, SourceBreakpoint and FunctionBreakpoint)
abbrev pub spot_told : Breakpoint → ℕ × Option ℕ
spot_told told = (told.id, told.line)

abbrev pub line_asked : ℕ → SourceBreakpoint → ℕ × Option ℕ
line_asked id one = (id, Some one.line)

abbrev pub function_asked : ℕ → FunctionBreakpoint → ℕ × Option ℕ
function_asked id one = (id, None)

-- those that a request asks for, in its order, with the next ids
abbrev pub spots_asked : Command → Settings → Option (List (ℕ × Option ℕ))
spots_asked (SetBreakpoints arguments) s = Some (with_ids line_asked s.next_id arguments.breakpoints)
spots_asked (SetFunctionBreakpoints arguments) s = Some (with_ids function_asked s.next_id arguments.breakpoints)
spots_asked _ s = None

-- it is called verified just where one of its locations is installed (DAP specification, Types, Breakpoint, verified)
abbrev pub IsRight : Wishes → Breakpoint → Type 0
IsRight wishes told =
    is_verified told.status ≡ has_location (places wishes.wanted) told.id (is_installed wishes.installed)

-- A success is told to the first request without a response. It lists the breakpoints that this one asks for, and no
-- other request has any; each is called verified where it is.
pub record ListsAsked (messages : List Message) (wishes : Wishes) (response : Response) (shape : Shape) : Type 0 where
  pub request : Request
  pub first : IsFirst messages request
  pub answers : IsAnswer request response
  pub asked : option_map (map spot_told) (breakpoints_in shape) ≡ spots_asked request.command (settings_of messages)
  pub verified : IfSome (breakpoints_in shape) (AllByRecursion (IsRight wishes))

-- A success lists just the breakpoints that its request asks for.
abbrev pub Lists : Type 0
Lists = (messages : List Message) (m : Machine) (response : Response) (shape : Shape) → Run messages m
    → (due false m).act ≡ Act.Tells (a_response response) → response.outcome ≡ outcomes.Success shape
    → ListsAsked messages m.state.wishes response shape
