-- What a world shows of a thread's frames (DAP specification, StackTrace request).
use Rattle.std.specs.Prelude.{ℕ, ℤ, not, ◌==◌, ◌&&◌, ◌++◌, Bool, if◌then◌else◌, List, [], codes, filter, find, length}
use Rattle.std.specs.Prelude.{map, Option, Some, None, option_and_then, option_map}
use Rattle.std.specs.Option.{option_map_or}
use Rattle.class_tables.specs.Lines.{entry_at}
use Rattle.class_tables.specs.Signatures.{package_in}
use Rattle.class_tables.specs.Views.{Key}
use Rattle.jdwp_values.specs.Lossy.{lossy}
use Rattle.jdwp_values.specs.declared.id.ClassId.{ClassId}
use Rattle.jdwp_values.specs.declared.id.ThreadId.{ThreadId}
use Rattle.jdwp_values.specs.declared.location.Location.{Location}
use Rattle.machine_model.specs.declared.parts.Finding.{Finding}
use Rattle.machine_model.specs.declared.parts.Finding.TheVariants as found
use Rattle.machine_model.specs.declared.parts.ShownFrame.{ShownFrame}
use Rattle.machine_model.specs.declared.parts.Spot.{Spot}
use Rattle.shown_worlds.specs.Facts.{line_table, methods, signature, source}
use Rattle.shown_worlds.specs.Paging.{page}
use Rattle.value_views.specs.Names.{class_name}
use Rattle.world_model.specs.Classes.{tag_in}
use Rattle.world_model.specs.Threads.{is_alive}
use Rattle.world_model.specs.declared.rows.WorldFrame.{WorldFrame}
use Rattle.world_model.specs.declared.world.World.{World}

-- the frames of a thread, the innermost first (JDWP, ThreadReference command set, Frames)
abbrev pub frames_of : World → ThreadId → List WorldFrame
frames_of w thread = filter (λ row. row.thread.0 == thread.0) w.frames

-- they may be looked at while the thread is alive and suspended (JDWP, ThreadReference command set, Frames)
abbrev pub may_look : World → ThreadId → Bool
may_look w thread = is_alive w thread && not (w.count == 0)

-- where a frame stands (JDWP, Detailed Command Information, common data types, location)
abbrev pub place_of : World → WorldFrame → Location
place_of w row = record { tag = tag_in w row.class; class = row.class; method = row.method; index = row.index }

-- the name of its method, empty where that isn't there (JDWP, ReferenceType command set, Methods)
abbrev pub method_name : World → WorldFrame → List ℕ
method_name w row = option_map_or (λ method. lossy method.name)
    (find (λ method. method.id.0 == row.method.0) (methods w row.class)) []

-- its line: that of the entry of the greatest index not above its own (JDWP, Method command set, LineTable)
abbrev pub line_of : World → WorldFrame → Option ℤ
line_of w row = option_map (λ entry. entry.line)
    (option_and_then (λ table. entry_at row.index table.lines) (line_table w row.class row.method))

-- its source: the path of the package of its class, and the name of the source file (JDWP, ReferenceType command set,
-- Signature and SourceFile)
abbrev pub source_of : World → ClassId → Option Key
source_of w class = option_and_then (λ file. option_map (λ path. record { package_path = path; file = file })
    (package_in (signature w class))) (source w class)

-- the line of a source, whose file the client finds under a path (DAP specification, Types, Source)
abbrev pub spot_at : (Key → List ℕ) → Key → ℤ → Spot
spot_at path key line = record { source = record { name = lossy key.file; path = path key }; line = line }

-- where it stands, if both are known
abbrev pub spot_of : (Key → List ℕ) → World → WorldFrame → Option Spot
spot_of path w row = option_and_then (λ key. option_map (spot_at path key) (line_of w row)) (source_of w row.class)

-- a frame as it is shown, named by its class and its method (DAP specification, Types, StackFrame)
abbrev pub frame_of : (Key → List ℕ) → World → ThreadId → WorldFrame → ShownFrame
frame_of path w thread row = record {
  frame = record { thread = thread; frame = row.id; at = place_of w row };
  name = class_name (signature w row.class) ++ codes "." ++ method_name w row;
  spot = spot_of path w row;
}

-- a page of a thread's frames, of so many in all; nothing of a thread that has ended or runs
abbrev pub world_frames : (Key → List ℕ) → World → ThreadId → ℕ → ℕ → Option Finding
world_frames path w thread start levels =
    if may_look w thread
    then Some (found.Frames (length (frames_of w thread))
    (map (frame_of path w thread) (page start levels (frames_of w thread))))
    else None
