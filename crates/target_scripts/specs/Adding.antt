-- What rows make of a script, line by line.
use Rattle.std.specs.Prelude.{◌≡◌, ℕ, ◌<◌, ◌^◌, List, [], ◌∷◌, ◌++◌, Option, Some, None, Result, Ok, Err}
use Rattle.jdwp_events.specs.declared.composite.Composite.{Composite}
use Rattle.jdwp_values.specs.declared.sizes.IdSizes.{IdSizes}
use Rattle.script_rows.specs.declared.rows.Row.{Row}
use Rattle.script_rows.specs.declared.rows.Row.TheVariants as rows
use Rattle.script_rows.specs.declared.script.Script.{Script}
use Rattle.script_text.specs.declared.log.ScriptFault.{ScriptFault}
use Rattle.script_text.specs.declared.log.ScriptFault.TheVariants as faults
use Rattle.script_worlds.specs.Growing.{empty_world, with_class, with_method, with_variable, with_field, with_object}
use Rattle.script_worlds.specs.Growing.{with_array, with_string, with_put, with_thread, with_frame}
use Rattle.world_model.specs.declared.moves.Move.{Move}
use Rattle.world_model.specs.declared.moves.MoveTrouble.{MoveTrouble}
use Rattle.world_model.specs.declared.world.World.{World}
use Rattle.world_model.specs.Moving.{moved}
use Rattle.target_scripts.specs.declared.building.Building.{Building}
use Rattle.target_scripts.specs.declared.building.RowTrouble.{RowTrouble}
use Rattle.target_scripts.specs.declared.building.RowTrouble.TheVariants as troubles
use Rattle.target_scripts.specs.Judging.{rank, fault_of}

-- a world with one row more; rows of other parts leave it as it is
abbrev pub with_row : World → Row → World
with_row w (rows.Head told) = w
with_row w (rows.Sizes sizes) = w
with_row w (rows.Limits turns quiet waiting) = w
with_row w (rows.Class row) = with_class w row
with_row w (rows.Method row) = with_method w row
with_row w (rows.Variable row) = with_variable w row
with_row w (rows.Field row) = with_field w row
with_row w (rows.Object row) = with_object w row
with_row w (rows.Array row) = with_array w row
with_row w (rows.Text row) = with_string w row
with_row w (rows.Put row) = with_put w row
with_row w (rows.Thread row) = with_thread w row
with_row w (rows.Frame row) = with_frame w row
with_row w (rows.Begin begin) = w
with_row w (rows.Move row) = w
with_row w (rows.Turn turn) = w
with_row w rows.End = w

-- a row of the world: it stands in the world as it is at the start, and in that behind all moves so far
unfoldable pub in_world : Building → Row → Building
in_world b row = record b {
  last = rank row;
  script = record b.script { world = with_row b.script.world row };
  running = with_row b.running row;
}

-- limits of the script's own; the first class stands one line further down
unfoldable pub limited : Building → ℕ → ℕ → ℕ → Building
limited b turns quiet waiting = record b {
  last = 1;
  first_class = 4;
  script = record b.script { turns = turns; quiet = quiet; waiting = waiting };
}

-- the world behind a move, or that it can't be made
abbrev pub world_behind : Result (World × Option Composite) MoveTrouble → Result World ScriptFault
world_behind (Ok made) = Ok made.0
world_behind (Err trouble) = Err faults.BadMove

unfoldable pub made : World → Move → Result World ScriptFault
made w next = world_behind (moved w next)

-- a move, where it can be made in the world behind all moves before it
abbrev pub moved_on : Building → Move → Result World ScriptFault → Result Building ScriptFault
moved_on b row (Ok now) =
    Ok (record b { last = 13; script = record b.script { program = b.script.program ++ row ∷ [] }; running = now })
moved_on b row (Err kind) = Err kind

-- a row that has no other fault
unfoldable pub added : Building → Row → Result Building ScriptFault
added b (rows.Head told) = Ok (record b { last = 0 })
added b (rows.Sizes sizes) = Ok (record b { last = 0 })
added b (rows.Limits turns quiet waiting) = Ok (limited b turns quiet waiting)
added b (rows.Class row) = Ok (in_world b (rows.Class row))
added b (rows.Method row) = Ok (in_world b (rows.Method row))
added b (rows.Variable row) = Ok (in_world b (rows.Variable row))
added b (rows.Field row) = Ok (in_world b (rows.Field row))
added b (rows.Object row) = Ok (in_world b (rows.Object row))
added b (rows.Array row) = Ok (in_world b (rows.Array row))
added b (rows.Text row) = Ok (in_world b (rows.Text row))
added b (rows.Put row) = Ok (in_world b (rows.Put row))
added b (rows.Thread row) = Ok (in_world b (rows.Thread row))
added b (rows.Frame row) = Ok (in_world b (rows.Frame row))
added b (rows.Begin begin) = Ok (record b { last = 12; script = record b.script { begin = Some begin } })
added b (rows.Move row) = moved_on b row (made b.running row)
added b (rows.Turn turn) =
    Ok (record b { last = 14; script = record b.script { schedule = b.script.schedule ++ turn ∷ [] } })
added b rows.End = Ok (record b { last = 15 })

-- what stands behind one row more, or the first fault that the row has
abbrev pub unless_faulty : Building → Row → Option ScriptFault → Result Building ScriptFault
unless_faulty b row None = added b row
unless_faulty b row (Some fault) = Err fault

abbrev pub grown : Building → Row → Result Building ScriptFault
grown b row = unless_faulty b row (fault_of b row)

-- the limits of a script that says none
abbrev pub usual_turns : ℕ
usual_turns = 2 ^ 40

abbrev pub usual_quiet : ℕ
usual_quiet = 43200000

abbrev pub usual_waiting : ℕ
usual_waiting = 65536

-- a script of which nothing was said but how many bytes ids take
abbrev pub begun : IdSizes → Building
begun sizes = record {
  last = 0;
  first_class = 3;
  script = record {
    world = empty_world sizes;
    program = [];
    begin = None;
    schedule = [];
    turns = usual_turns;
    quiet = usual_quiet;
    waiting = usual_waiting;
  };
  running = empty_world sizes;
}

-- The result is this one, unless memory was refused; a fault leaves all as it was.
abbrev pub IsGrown : Building → Building → Result (Unit {0}) RowTrouble → Result Building ScriptFault → Type 0
IsGrown old new (Ok done) result = result ≡ Ok new
IsGrown old new (Err troubles.NoMemory) result = Unit {0}
IsGrown old new (Err (troubles.Fault kind)) result = (result ≡ Err kind) × (new ≡ old)

-- the same of a move of a world
abbrev pub IsMade : World → World → Result (Unit {0}) RowTrouble → Result World ScriptFault → Type 0
IsMade old new (Ok done) result = result ≡ Ok new
IsMade old new (Err troubles.NoMemory) result = Unit {0}
IsMade old new (Err (troubles.Fault kind)) result = (result ≡ Err kind) × (new ≡ old)
