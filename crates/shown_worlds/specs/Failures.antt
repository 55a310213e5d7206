-- With which error a look-up fails that shows nothing (JDWP, Error Constants).
use Rattle.std.specs.Prelude.{ℕ, ◌≡◌, Bool, true, false, Contains, is_some, List, [], ◌∷◌}
use Rattle.dap_messages.specs.declared.requests.Filter.{Filter}
use Rattle.field_exprs.specs.declared.expr.Expr.{Expr}
use Rattle.jdwp_commands.specs.declared.asked.Replied.{Replied}
use Rattle.jdwp_commands.specs.declared.question.Question.{Question}
use Rattle.jdwp_values.specs.declared.id.ObjectId.{ObjectId}
use Rattle.jdwp_values.specs.declared.id.ThreadId.{ThreadId}
use Rattle.machine_model.specs.Lookups.{plan}
use Rattle.machine_model.specs.PlanLaws.{HasMet, IsOf, IsReply}
use Rattle.machine_model.specs.Plans.{Fault, Sight}
use Rattle.machine_model.specs.State.{State}
use Rattle.machine_model.specs.declared.parts.Lookup.TheVariants as look_ups
use Rattle.machine_model.specs.declared.parts.Thrown.{Thrown}
use Rattle.shown_worlds.specs.ChildRows.{world_children}
use Rattle.shown_worlds.specs.FailureRows.{children_errors, why_no_children, why_no_frames, why_no_value}
use Rattle.shown_worlds.specs.Laws.{IsLive}
use Rattle.stop_refs.specs.declared.thing.FrameThing.{FrameThing}
use Rattle.stop_refs.specs.declared.thing.Thing.{Thing}
use Rattle.world_model.specs.Codes.{invalid_object}
use Rattle.world_model.specs.Replies.{reply_of}
use Rattle.world_model.specs.declared.world.World.{World}

-- what was replied is what the world replies, its errors too
abbrev pub IsSaidBy : World → Sight → Type 0
IsSaidBy w sight =
    (question : Question) (replied : Replied) → IsReply sight.asked question replied → replied ≡ reply_of w question

-- The errors that a look-up has met: `threads` meets none, and `stackTrace` that of its thread.
pub record FailsSo (w : World) (state : State) (sight : Sight) (fault : Fault) : Type 0 where
  pub threads : HasMet sight (plan look_ups.Threads state) fault → ⊥
  pub frames : (thread : ThreadId) (start levels : ℕ)
      → HasMet sight (plan (look_ups.Frames thread start levels) state) fault → fault.code ≡ why_no_frames w thread

abbrev pub Fails : Type 0
Fails = (w : World) (state : State) (sight : Sight) (fault : Fault) → IsLive w → IsSaidBy w sight
    → FailsSo w state sight fault

-- The errors that the other look-ups have met. `variables` meets one of those that the page of children has, `evaluate`
-- that of the expression, and `setVariable` that of the container. What was thrown isn't there; the event `stopped` says
-- so without an error.
pub record FailsBy (w : World) (state : State) (sight : Sight) (fault : Fault) : Type 0 where
  pub children : (thing : Thing) (filter : Filter) (start count : ℕ)
      → HasMet sight (plan (look_ups.Variables thing filter start count) state) fault
      → Contains (children_errors w state.options.shows_types thing filter start count) fault.code
  pub value : (frame : FrameThing) (expression : Expr)
      → HasMet sight (plan (look_ups.Value frame expression) state) fault → fault.code ≡ why_no_value w frame expression
  pub write : (thing : Thing) (name text : List ℕ)
      → HasMet sight (plan (look_ups.Write thing name text) state) fault → fault.code ≡ why_no_children w thing
  pub info : (thrown : Thrown)
      → HasMet sight (plan (look_ups.Exception thrown) state) fault → fault.code ≡ invalid_object
  pub text : (thread : ThreadId) (object : ObjectId)
      → HasMet sight (plan (look_ups.ExceptionText thread object) state) fault → ⊥

-- Where what is known of classes is so in the world, too.
abbrev pub FailsByRows : Type 0
FailsByRows = (w : World) (state : State) (sight : Sight) (fault : Fault) → IsLive w → IsSaidBy w sight
    → IsOf (reply_of w) sight → FailsBy w state sight fault

abbrev pub is_empty : {A : Type 0} → List A → Bool
is_empty [] = true
is_empty (item ∷ items) = false

-- A page of children has such errors just where it isn't shown.
abbrev pub FailsJust : Type 0
FailsJust = (w : World) (types : Bool) (thing : Thing) (filter : Filter) (start count : ℕ)
    → is_empty (children_errors w types thing filter start count)
    ≡ is_some (world_children w types thing filter start count)
