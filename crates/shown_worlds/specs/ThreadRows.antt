-- What a world shows of its threads, and of what they throw.
use Rattle.std.specs.Prelude.{ℕ, Bool, if◌then◌else◌, List, codes, map, Option, Some, None, option_map}
use Rattle.dap_messages.specs.declared.told.BreakMode.{BreakMode}
use Rattle.dap_messages.specs.declared.told.BreakMode.TheVariants.{Always, Unhandled}
use Rattle.jdwp_values.specs.declared.id.ObjectId.{ObjectId}
use Rattle.machine_model.specs.declared.parts.Finding.{Finding}
use Rattle.machine_model.specs.declared.parts.Finding.TheVariants as found
use Rattle.machine_model.specs.declared.parts.NamedThread.{NamedThread}
use Rattle.machine_model.specs.declared.parts.Thrown.{Thrown}
use Rattle.shown_worlds.specs.Facts.{if_null, type_of}
use Rattle.value_views.specs.Names.{class_name}
use Rattle.world_model.specs.declared.rows.WorldThread.{WorldThread}
use Rattle.world_model.specs.declared.world.World.{World}

-- a thread by its id and its name (JDWP, ThreadReference command set, Name)
abbrev pub named : WorldThread → NamedThread
named row = record { thread = row.id; name = row.name }

-- each thread that is alive (DAP specification, Threads request; JDWP, VirtualMachine command set, AllThreads)
abbrev pub world_threads : World → Finding
world_threads w = found.Threads (map named w.threads)

-- The name of the class of what was thrown, for the event `stopped`: null has none, nor has what isn't there (DAP
-- specification, Events, Stopped, text).
abbrev pub world_thrown_text : World → ObjectId → Finding
world_thrown_text w object =
    found.ExceptionText (if_null object.0 None (option_map class_name (type_of w object)))

-- the name of the class of what was thrown; null is named so
abbrev pub thrown_name : World → ObjectId → Option (List ℕ)
thrown_name w object = if_null object.0 (Some (codes "null")) (option_map class_name (type_of w object))

-- when a thread stops at it (DAP specification, Types, ExceptionBreakMode)
abbrev pub break_mode : Bool → BreakMode
break_mode caught = if caught then Always else Unhandled

-- what is told of it by `exceptionInfo`: nothing where it isn't there (DAP specification, ExceptionInfo request)
abbrev pub world_thrown : World → Thrown → Option Finding
world_thrown w thrown = option_map (λ name. found.Exception name (break_mode thrown.caught))
    (thrown_name w thrown.object)
