-- Breakpoints as a client lists them: the key of their source, their ids, and how each is told (DAP specification,
-- SetBreakpoints request; Types, Source, SourceBreakpoint and Breakpoint).
use Rattle.std.specs.Prelude.{ℕ, ℤ, pos, ◌+◌, ◌-◌, ◌==◌, ◌∷◌, ◌++◌, ◌||◌, Bool, true, false, not, cond, List, []}
use Rattle.std.specs.Prelude.{take, drop, min, nat_le, bytes_eq, filter, map, length, Option, None, Some, option_map}
use Rattle.std.specs.Prelude.{unwrap_or}
use Rattle.std.specs.Int.{cast_unsigned, w32}
use Rattle.std.specs.Option.{option_or}
use Rattle.std.specs.Str.{chars, encode_utf8_all}
use Rattle.dap_messages.specs.declared.requests.FunctionBreakpoint.{FunctionBreakpoint}
use Rattle.dap_messages.specs.declared.requests.SourceBreakpoint.{SourceBreakpoint}
use Rattle.dap_messages.specs.declared.told.Breakpoint.{Breakpoint}
use Rattle.dap_messages.specs.declared.told.BreakpointStatus.{BreakpointStatus}
use Rattle.dap_messages.specs.declared.told.BreakpointStatus.TheVariants as status
use Rattle.machine_model.specs.Names.{ListedBreakpoint}
use Rattle.machine_model.specs.Requests.{Wishes}
use Rattle.wish_sets.specs.Entries.{state_of, verified}
use Rattle.wish_sets.specs.Wanted.{with_functions, with_lines}
use Rattle.wish_sets.specs.Wishes.{rewished}
use Rattle.wish_sets.specs.declared.entry.EntryState.{EntryState}
use Rattle.wish_sets.specs.declared.entry.EntryState.TheVariants.{Verified, Refused, Waiting}
use Rattle.wish_sets.specs.declared.entry.FunctionEntry.{FunctionEntry}
use Rattle.wish_sets.specs.declared.entry.LineEntry.{LineEntry}
use Rattle.wish_sets.specs.declared.entry.VerifiedEntry.{VerifiedEntry}

-- The key of a source -------------------------------------------------------------------------------------------------

-- `/` in place of `\`, which parts of a path may stand between, too
abbrev pub slash_for : ℕ → ℕ
slash_for char = cond (char == 92) 47 char

-- a path with `/` between its parts
abbrev pub slashed : List ℕ → List ℕ
slashed path = encode_utf8_all (map slash_for (chars path))

-- a folder without the `/` at its end, where it has one
abbrev pub trimmed : List ℕ → List ℕ
trimmed root =
    cond (bytes_eq (drop (length root - 1) root) (47 ∷ [])) (take (length root - 1) root) root

-- what stands behind a `/`
abbrev pub behind_slash : List ℕ → Option (List ℕ)
behind_slash [] = None
behind_slash (byte ∷ path) = cond (byte == 47) (Some path) None

-- what stands behind a folder and a `/`, where a path begins with both
abbrev pub behind_root : List ℕ → List ℕ → Option (List ℕ)
behind_root root path =
    cond (bytes_eq (take (length root) path) root) (behind_slash (drop (length root) path)) None

-- that of the first folder that the path stands in
abbrev pub behind_roots : List (List ℕ) → List ℕ → Option (List ℕ)
behind_roots [] path = None
behind_roots (root ∷ roots) path = option_or (behind_root (trimmed (slashed root)) path) (behind_roots roots path)

-- So many bytes may a key have: as many as the body of a frame, so that the pattern of its package has a spelling (JDWP,
-- EventRequest command set, Set, ClassMatch).
abbrev pub longest_key : ℕ
longest_key = 16777216

-- a key that isn't longer
abbrev pub short_key : Option (List ℕ) → Option (List ℕ)
short_key None = None
short_key (Some key) = cond (nat_le (length key) longest_key) (Some key) None

-- The key of a source: its path behind the first folder of sources that it stands in (DAP specification, Types, Source,
-- path).
unfoldable pub key_of : List (List ℕ) → List ℕ → Option (List ℕ)
key_of roots path = short_key (behind_roots roots (slashed path))

-- Ids and lines -------------------------------------------------------------------------------------------------------

-- the breakpoints of a source, with ids from this one on (DAP specification, Types, Breakpoint, id)
abbrev pub numbered_from : ℕ → List SourceBreakpoint → List ListedBreakpoint
numbered_from id [] = []
numbered_from id (breakpoint ∷ breakpoints) =
    record { id = id; line = Some breakpoint.line; plain = breakpoint.plain } ∷ numbered_from (id + 1) breakpoints

-- the greatest line (JDWP, Method command set, LineTable, lineNumber)
abbrev pub last_line : ℕ
last_line = 2147483647

-- a line as the target counts it, from 1 (DAP specification, Initialize request, linesStartAt1)
abbrev pub target_line : Bool → ℕ → ℕ
target_line true line = min line last_line
target_line false line = min (line + 1) last_line

-- a breakpoint of a source as it is wished
abbrev pub entry_of : Bool → ListedBreakpoint → LineEntry
entry_of from_one listed =
    record { id = listed.id; line = pos (target_line from_one (unwrap_or listed.line 0)); plain = listed.plain }

-- the list of a source replaces the one that was there; without a key nothing is kept
abbrev pub lines_wished : Option (List ℕ) → List LineEntry → Wishes → Wishes
lines_wished None entries wishes = wishes
lines_wished (Some key) entries wishes = rewished (with_lines key entries wishes.wanted) wishes

-- Functions -----------------------------------------------------------------------------------------------------------

-- a longer name names nothing
abbrev pub short_name : List ℕ → List ℕ
short_name name = cond (nat_le (length name) longest_key) name []

-- functions to stop in, with ids from this one on (DAP specification, SetFunctionBreakpoints request)
abbrev pub functions_from : ℕ → List FunctionBreakpoint → List FunctionEntry
functions_from id [] = []
functions_from id (function ∷ functions) =
    record { id = id; name = short_name function.name; plain = function.plain } ∷ functions_from (id + 1) functions

-- one of a function has no line
abbrev pub function_listed : FunctionEntry → ListedBreakpoint
function_listed entry = record { id = entry.id; line = None; plain = entry.plain }

-- the functions replace those that were there
abbrev pub functions_wished : List FunctionEntry → Wishes → Wishes
functions_wished entries wishes = rewished (with_functions entries wishes.wanted) wishes

-- How they are told ---------------------------------------------------------------------------------------------------

-- a breakpoint is verified where one of its locations is installed (DAP specification, Types, Breakpoint, verified)
abbrev pub status_by : Option EntryState → BreakpointStatus
status_by None = status.NotBoundYet
status_by (Some Verified) = status.Verified
status_by (Some Refused) = status.RefusedByTarget
status_by (Some Waiting) = status.NotBoundYet

-- one with a condition is never bound, and one whose source stands in no folder of sources neither
abbrev pub status_of : Bool → Bool → Option EntryState → BreakpointStatus
status_of rooted false stands = status.ConditionsUnsupported
status_of false true stands = status.NoSourceRoot
status_of true true stands = status_by stands

-- its line is told as the client gave it (DAP specification, Types, Breakpoint)
abbrev pub breakpoint_told : Bool → Wishes → ListedBreakpoint → Breakpoint
breakpoint_told rooted wishes listed = record {
  id = listed.id;
  line = listed.line;
  status = status_of rooted listed.plain (state_of wishes listed.id);
}

-- What the client knows of them ---------------------------------------------------------------------------------------

abbrev pub has_id : List ℕ → ℕ → Bool
has_id [] id = false
has_id (first ∷ ids) id = (first == id) || has_id ids id

-- an id stands behind those that were told before, once
abbrev pub with_id : List ℕ → ℕ → List ℕ
with_id ids id = cond (has_id ids id) ids (ids ++ id ∷ [])

abbrev pub is_verified : BreakpointStatus → Bool
is_verified status.Verified = true
is_verified _ = false

-- those that are told to be verified are known to be from there on
abbrev pub with_told : List ℕ → List Breakpoint → List ℕ
with_told ids [] = ids
with_told ids (breakpoint ∷ breakpoints) =
    with_told (cond (is_verified breakpoint.status) (with_id ids breakpoint.id) ids) breakpoints

-- a breakpoint is news, where its id is below this one and the client doesn't know that it is verified
abbrev pub is_news : ℕ → List ℕ → VerifiedEntry → Bool
is_news below ids entry = cond (nat_le below entry.id) false (not (has_id ids entry.id))

-- those that are verified, which is news, in order of their ids
abbrev pub newly_verified : ℕ → List ℕ → Wishes → List VerifiedEntry
newly_verified below ids wishes = filter (is_news below ids) (verified wishes)

-- a line as the client counts it
abbrev pub client_line : Bool → ℤ → ℕ
client_line true line = cast_unsigned w32 line
client_line false line = cast_unsigned w32 line - 1

-- a breakpoint that is verified, as it is told (DAP specification, Events, Breakpoint)
abbrev pub verified_told : Bool → VerifiedEntry → Breakpoint
verified_told from_one entry =
    record { id = entry.id; line = option_map (client_line from_one) entry.line; status = status.Verified }
