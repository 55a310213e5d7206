-- What is done in the session of a generated script: an editor attaches, sets a breakpoint on each line, and looks at
-- the variables of the innermost frame at each stop (DAP overview, Launching and attaching; DAP overview, Stopping and
-- accessing debuggee state).
use Rattle.std.specs.Prelude.{ℕ, ◌-◌, ◌*◌, List, [], ◌∷◌, ◌++◌, codes, map}
use Rattle.serde_json.specs.Data.{Data, number, unsigned, string, array, object, no_members, member}
use Rattle.serde_json.specs.View.{items_of}
use Rattle.script_rows.specs.declared.script.Turn.{Turn}
use Rattle.script_rows.specs.declared.script.Turn.TheVariants.{Ask, Settle, Deliver}
use Rattle.generated_scripts.specs.Numbers.{for_each_to}

-- Arguments ----------------------------------------------------------------------------------------------------------

-- none
abbrev pub nothing : Data
nothing = object no_members

-- one, under its name
abbrev pub one : List ℕ → Data → Data
one name value = object (member name value no_members)

-- one that is a number
abbrev pub one_number : List ℕ → ℕ → Data
one_number name n = one name (number (unsigned n))

-- the adapter that the editor asks for (DAP specification, Initialize request)
abbrev pub initialize_data : Data
initialize_data = one (codes "adapterID") (string (codes "gen"))

-- the root of the sources
abbrev pub attach_data : Data
attach_data = one (codes "sourceRoots") (array (items_of (string (codes "/gen") ∷ [])))

-- the breakpoints on all lines of the class (DAP specification, SetBreakpoints request)
abbrev pub breakpoints_data : ℕ → Data
breakpoints_data n = object (
    member (codes "breakpoints") (array (items_of (for_each_to (λ i. one_number (codes "line") i ∷ []) n))) (
    member (codes "source") (one (codes "path") (string (codes "/gen/gen/Main.java"))) no_members))

-- the innermost frames of the thread (DAP specification, StackTrace request)
abbrev pub stack_data : Data
stack_data = object (
    member (codes "levels") (number (unsigned 20)) (
    member (codes "threadId") (number (unsigned 1)) no_members))

-- Turns --------------------------------------------------------------------------------------------------------------

-- a request, and all that comes of it while the target stands still
abbrev pub ask : List ℕ → Data → List Turn
ask command arguments = Ask command arguments ∷ Deliver ∷ []

-- a request, and all that comes of it
abbrev pub ask_on : List ℕ → Data → List Turn
ask_on command arguments = Ask command arguments ∷ Settle ∷ []

-- the editor attaches and sets breakpoints, and the target runs to the first
abbrev pub opening : ℕ → List Turn
opening n =
    ask (codes "initialize") initialize_data
    ++ ask (codes "attach") attach_data
    ++ ask (codes "setBreakpoints") (breakpoints_data n)
    ++ ask (codes "configurationDone") nothing
    ++ Settle ∷ []

-- At a stop it looks at the variables of the innermost frame, and lets the target run on. Each stop takes two numbers
-- of references: the frame's, and that of its variables (DAP overview, Lifetime of object references).
abbrev pub looking : ℕ → List Turn
looking i =
    ask (codes "threads") nothing
    ++ ask (codes "stackTrace") stack_data
    ++ ask (codes "scopes") (one_number (codes "frameId") (i * 2 - 1))
    ++ ask (codes "variables") (one_number (codes "variablesReference") (i * 2))
    ++ ask_on (codes "continue") (one_number (codes "threadId") 1)

-- all of the session, with as many stops as the number says
abbrev pub turns : ℕ → List Turn
turns n = opening n ++ for_each_to looking n ++ ask_on (codes "disconnect") nothing
