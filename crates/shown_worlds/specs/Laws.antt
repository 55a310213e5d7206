-- What each look-up shows, by the rows of the world in which its questions are answered: no plan stands in what is
-- shown. The laws stand behind what they speak of.
use Rattle.std.specs.Prelude.{ℕ, ◌≡◌, ◌<◌, ◌^◌, false, length, List, Option, Some}
use Rattle.dap_messages.specs.declared.requests.Filter.{Filter}
use Rattle.field_exprs.specs.declared.expr.Expr.{Expr}
use Rattle.jdwp_values.specs.declared.id.ObjectId.{ObjectId}
use Rattle.jdwp_values.specs.declared.id.ThreadId.{ThreadId}
use Rattle.machine_model.specs.Frames.{path_of}
use Rattle.machine_model.specs.Lookups.{plan}
use Rattle.machine_model.specs.Plans.{of_world}
use Rattle.machine_model.specs.State.{State}
use Rattle.machine_model.specs.Writing.{object_size}
use Rattle.machine_model.specs.declared.parts.Lookup.{Lookup}
use Rattle.machine_model.specs.declared.parts.Lookup.TheVariants as look_ups
use Rattle.machine_model.specs.declared.parts.Finding.{Finding}
use Rattle.machine_model.specs.declared.parts.Thrown.{Thrown}
use Rattle.shown_worlds.specs.ChildRows.{world_children}
use Rattle.shown_worlds.specs.ExpressionRows.{world_value}
use Rattle.shown_worlds.specs.FrameRows.{world_frames}
use Rattle.shown_worlds.specs.ThreadRows.{world_threads, world_thrown, world_thrown_text}
use Rattle.shown_worlds.specs.WriteRows.{Wish, world_write}
use Rattle.stop_refs.specs.declared.thing.FrameThing.{FrameThing}
use Rattle.stop_refs.specs.declared.thing.Thing.{Thing}
use Rattle.world_model.specs.Replies.{reply_of}
use Rattle.world_model.specs.Sound.{IsSound}
use Rattle.world_model.specs.declared.world.World.{World}

-- A target that lives, of a sound world; of its classes there are fewer than a look-up follows upwards.
pub record IsLive (w : World) : Type 0 where
  pub alive : w.dead ≡ false
  pub sound : IsSound w
  pub few : length w.classes < 2 ^ 40

-- what a look-up finds in a world: none where the world refuses what it can't do without
abbrev pub found_in : World → State → Lookup → Option Finding
found_in w state lookup = of_world (reply_of w) (plan lookup state)

-- `threads` shows each thread of the world, with its name.
abbrev pub ShowsThreads : Type 0
ShowsThreads = (w : World) (state : State) → IsLive w → found_in w state look_ups.Threads ≡ Some (world_threads w)

-- The event `stopped` and `exceptionInfo` tell what was thrown, by the name of its class.
pub record TellsThrown (w : World) (state : State) : Type 0 where
  pub text : (thread : ThreadId) (object : ObjectId)
      → found_in w state (look_ups.ExceptionText thread object) ≡ Some (world_thrown_text w object)
  pub info : (thrown : Thrown) → found_in w state (look_ups.Exception thrown) ≡ world_thrown w thrown

abbrev pub ShowsThrown : Type 0
ShowsThrown = (w : World) (state : State) → IsLive w → TellsThrown w state

-- `stackTrace` shows the frames of a thread.
abbrev pub ShowsFrames : Type 0
ShowsFrames = (w : World) (state : State) (thread : ThreadId) (start levels : ℕ) → IsLive w
    → found_in w state (look_ups.Frames thread start levels) ≡ world_frames (path_of state) w thread start levels

-- `variables` shows the children of a container, a page of them.
abbrev pub ShowsChildren : Type 0
ShowsChildren = (w : World) (state : State) (thing : Thing) (filter : Filter) (start count : ℕ) → IsLive w
    → found_in w state (look_ups.Variables thing filter start count)
    ≡ world_children w state.options.shows_types thing filter start count

-- `evaluate` shows the value that an expression has in a frame.
abbrev pub ShowsValues : Type 0
ShowsValues = (w : World) (state : State) (frame : FrameThing) (expression : Expr) → IsLive w
    → found_in w state (look_ups.Value frame expression)
    ≡ world_value w state.options.shows_types frame expression

-- how `setVariable` is asked for
abbrev pub wish : State → List ℕ → Wish
wish state text = record { types = state.options.shows_types; size = object_size state.sizes; text = text }

-- `setVariable` writes to the child of a container.
abbrev pub ShowsWrites : Type 0
ShowsWrites = (w : World) (state : State) (thing : Thing) (name text : List ℕ) → IsLive w
    → found_in w state (look_ups.Write thing name text) ≡ world_write w (wish state text) thing name
