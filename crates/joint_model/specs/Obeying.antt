-- What a target that obeys JDWP may do, over its world. Where JDWP leaves a choice to the target, any is allowed here:
-- which number an error has, which id a request gets, which of the requests that match an event are told of it.
use Rattle.std.specs.Prelude.{ℕ, ◌≡◌, ◌<◌, ◌==◌, ◌/◌, ◌%◌, ◌∷◌, ℤ, pos, Bool, true, false, List, [], map, fold}
use Rattle.std.specs.Prelude.{Contains, Option, Some, Ok, is_some, unwrap_or}
use Rattle.std.specs.List.{AllByRecursion}
use Rattle.jdwp_values.specs.declared.id.ClassId.{ClassId}
use Rattle.jdwp_values.specs.declared.id.ObjectId.{ObjectId}
use Rattle.jdwp_values.specs.declared.id.ThreadId.{ThreadId}
use Rattle.jdwp_values.specs.declared.location.Location.{Location}
use Rattle.jdwp_values.specs.declared.value.Value.{Value}
use Rattle.jdwp_events.specs.declared.composite.Composite.{Composite}
use Rattle.jdwp_events.specs.declared.event.Event.{Event}
use Rattle.jdwp_events.specs.declared.event.Event.TheVariants as events
use Rattle.jdwp_events.specs.declared.kind.EventKind.{EventKind}
use Rattle.jdwp_events.specs.declared.kind.EventKind.TheVariants as kinds
use Rattle.jdwp_events.specs.declared.kind.Policy.{Policy}
use Rattle.jdwp_events.specs.declared.kind.Policy.TheVariants.{NoThread, EventThread}
use Rattle.jdwp_events.specs.declared.modifier.Modifier.{Modifier}
use Rattle.jdwp_commands.specs.declared.answer.Answer.{Answer}
use Rattle.jdwp_commands.specs.declared.answer.Answer.TheVariants as answers
use Rattle.jdwp_commands.specs.declared.asked.Asked.{Asked}
use Rattle.jdwp_commands.specs.declared.asked.Asked.TheVariants as commands
use Rattle.jdwp_commands.specs.declared.asked.Replied.{Replied}
use Rattle.jdwp_commands.specs.declared.asked.Replied.TheVariants.{Answer as an_answer, Error as an_error}
use Rattle.jdwp_commands.specs.declared.effect.Effect.{Effect}
use Rattle.jdwp_commands.specs.declared.effect.Effect.TheVariants as effects
use Rattle.jdwp_commands.specs.declared.question.Question.{Question}
use Rattle.machine_model.specs.Facts.{is_of_class}
use Rattle.world_model.specs.declared.rows.Installed.{Installed}
use Rattle.world_model.specs.declared.rows.WorldFrame.{WorldFrame}
use Rattle.world_model.specs.declared.world.World.{World}
use Rattle.world_model.specs.Classes.{tag_in}
use Rattle.world_model.specs.Codes.{invalid_thread, vm_dead}
use Rattle.world_model.specs.Effects.{applied, same_event, with_request}
use Rattle.world_model.specs.Emitting.{greatest, hit_of, is_hit, is_stepped, is_thrown, nowhere, signature_of, watches}
use Rattle.world_model.specs.Happenings.{is_unprepared, place_at, running}
use Rattle.world_model.specs.MoveFacts.{facts_of, is_prepared, requested_of}
use Rattle.world_model.specs.Moving.{count_behind, prepared}
use Rattle.world_model.specs.Objects.{reference_to}
use Rattle.world_model.specs.Replies.{reply_of}
use Rattle.world_model.specs.Requests.{allowed, frames_under, is_in_use, line_of_thread}
use Rattle.world_model.specs.Sound.{IsRequest, IsSound}
use Rattle.world_model.specs.Threads.{is_alive}

-- Replies -------------------------------------------------------------------------------------------------------------

-- Which error a target may choose in the place of the usual one: any, but 112 says that the target has ended, and 10
-- that a thread isn't alive, and they say just that; of an absent fact any but 112 will do (JDWP, Error Constants,
-- VM_DEAD and INVALID_THREAD).
pub record MayRefuse (of_class : Bool) (usual code : ℕ) : Type 0 where
  pub is_error : 0 < code
  pub ended : (code == vm_dead) ≡ (usual == vm_dead)
  pub no_thread : of_class ≡ false → (code == invalid_thread) ≡ (usual == invalid_thread)

-- the reply to a question: what is so in the world, or an error where the world has none (JDWP, Detailed Command
-- Information)
pub data Replies (w : World) (question : Question) : Replied → Type 0 where
  says : {answer : Answer} → reply_of w question ≡ an_answer answer → Replies w question (an_answer answer)
  refuses : {usual code : ℕ} → reply_of w question ≡ an_error usual → MayRefuse (is_of_class question) usual code
      → Replies w question (an_error code)

-- What becomes of a world by a command, and what is replied: a question changes nothing; an event request gets any id
-- that isn't in use; and what can't be done is refused (JDWP, Detailed Command Information; JDWP, EventRequest command
-- set, Set).
pub data Serves (w : World) : Asked → Replied → World → Type 0 where
  replies : {question : Question} {replied : Replied} → Replies w question replied
      → Serves w (commands.Question question) replied w
  does : {effect : Effect} {answer : Answer} {now : World} → applied w effect ≡ Some (now, an_answer answer)
      → Serves w (commands.Effect effect) (an_answer answer) now
  installs : {kind : EventKind} {policy : Policy} {modifiers : List Modifier} {id : ℕ} → w.dead ≡ false
      → allowed w kind policy modifiers ≡ Ok tt → IsRequest id → is_in_use w.requests id ≡ false
      → Serves w (commands.Effect (effects.Set kind policy modifiers)) (an_answer (answers.Set id))
      (with_request w kind policy modifiers id)
  refuses : {effect : Effect} {usual code : ℕ} {now : World} → applied w effect ≡ Some (now, an_error usual)
      → MayRefuse false usual code → Serves w (commands.Effect effect) (an_error code) now

-- The program runs ----------------------------------------------------------------------------------------------------

-- Only a target that isn't suspended runs. Its threads, frames and objects may change as they will; what is said of
-- classes and the event requests stay, and no class is prepared unseen that a request watches (JDWP, VirtualMachine
-- command set, Suspend; JDWP, EventRequest command set, Set, ClassMatch).
pub record Runs (w now : World) : Type 0 where
  pub alive : w.dead ≡ false
  pub free : w.count ≡ 0
  pub still_alive : now.dead ≡ false
  pub still_free : now.count ≡ 0
  pub facts : facts_of now ≡ facts_of w
  pub requests : requested_of now ≡ requested_of w
  pub stay_prepared : (class : ClassId) → is_prepared w class ≡ true → is_prepared now class ≡ true
  pub unwatched : (class : ClassId) → is_prepared w class ≡ false → is_prepared now class ≡ true
      → AllByRecursion (λ (request : Installed). watches w class request ≡ false) w.requests
  pub sound : IsSound now

-- Events --------------------------------------------------------------------------------------------------------------

-- the innermost frame of a thread stands at a place
abbrev pub IsThere : World → ThreadId → Location → Type 0
IsThere w thread at =
    (row : WorldFrame) × (running w thread ≡ Some row) × (at ≡ place_at w row.class row.method row.index)

-- an object that is thrown is there
abbrev pub IsObject : World → Value → Type 0
IsObject w exception = (object : ObjectId) × (reference_to w object ≡ Some exception)

-- its status has the bit of a class that is prepared (JDWP, Constants, ClassStatus, PREPARED)
abbrev pub IsPrepared : ℤ → Type 0
IsPrepared status = (bits : ℕ) × (status ≡ pos bits) × ((bits / 2) % 2 ≡ 1)

-- the id of the request that an event tells
abbrev pub request_in : Event → ℕ
request_in (events.SingleStep id thread at) = id
request_in (events.Breakpoint id thread at) = id
request_in (events.Exception id thread at exception catch) = id
request_in (events.ThreadStart id thread) = id
request_in (events.ThreadDeath id thread) = id
request_in (events.ClassPrepare id thread tag class signature status) = id
request_in (events.VMStart id thread) = id
request_in (events.VMDeath id) = id

-- What happens as the world stands, by its event, and which event requests it matches: a thread stands at a breakpoint,
-- at the end of its step, or where it throws something; one has started, or ends; or it prepares a class, while nothing
-- is suspended (JDWP, Event command set, Composite; JDWP, EventRequest command set, Set).
abbrev pub Matches : World → Installed → Event → Type 0
Matches w request (events.Breakpoint id thread at) = IsThere w thread at × (is_hit at true request ≡ true)
Matches w request (events.SingleStep id thread at) =
    IsThere w thread at
    × (is_stepped w thread (frames_under w.frames thread) (line_of_thread w thread) request ≡ true)
Matches w request (events.Exception id thread at exception catch) =
    IsThere w thread at × IsObject w exception
    × (caught : Option Location) × (catch ≡ unwrap_or caught nowhere) × (is_thrown (is_some caught) request ≡ true)
Matches w request (events.ThreadStart id thread) =
    (is_alive w thread ≡ true) × (same_event request.wish_kind kinds.ThreadStart ≡ true)
Matches w request (events.ThreadDeath id thread) =
    (is_alive w thread ≡ true) × (same_event request.wish_kind kinds.ThreadDeath ≡ true)
Matches w request (events.ClassPrepare id thread tag class signature status) =
    (w.count ≡ 0) × (is_alive w thread ≡ true) × (is_unprepared w class ≡ true) × (tag ≡ tag_in w class)
    × (signature ≡ signature_of w class) × IsPrepared status × (watches w class request ≡ true)
Matches w request (events.VMStart id thread) = ⊥
Matches w request (events.VMDeath id) = ⊥

-- an event request of the world is told of an event that matches it
pub record IsTold (w : World) (told : Installed × Event) : Type 0 where
  pub asked : Contains w.requests told.0
  pub id : request_in told.1 ≡ told.0.request
  pub matches : Matches w told.0 told.1

-- the composite of some requests and their events, under the greatest of the requests' policies
abbrev pub composite_of : List (Installed × Event) → Composite
composite_of told = record {
  policy = greatest (map (λ (one : Installed × Event). hit_of one.0) told);
  events = map (λ (one : Installed × Event). one.1) told;
}

-- a class of which an event tells that it is prepared is so behind it
abbrev pub prepared_by : World → Event → World
prepared_by w (events.ClassPrepare id thread tag class signature status) = prepared w class
prepared_by w _ = w

-- all threads are suspended once more where the policy of a composite says so (JDWP, Constants, SuspendPolicy, ALL)
abbrev pub counted : World → Composite → World
counted w composite = record w { count = count_behind w.count (Some composite) }

-- the world behind a composite
abbrev pub behind : World → Composite → World
behind w composite = counted (fold prepared_by w composite.events) composite

-- the target has started, in this thread (JDWP, Event command set, Composite, VMStart)
abbrev pub start_of : Policy → ThreadId → Composite
start_of policy thread = record { policy = policy; events = events.VMStart 0 thread ∷ [] }

-- the target ends (JDWP, Event command set, Composite, VMDeath)
abbrev pub end_of : Composite
end_of = record { policy = NoThread; events = events.VMDeath 0 ∷ [] }

-- A composite goes out: some of the event requests are told of what happens; or, unasked, the target's start is told,
-- whatever became of its thread, or its end, by which it has ended if it had not before (JDWP, Event command set,
-- Composite; JDWP, VirtualMachine command set, Exit).
pub data Emits (w : World) : Composite → World → Type 0 where
  tells : (first : Installed × Event) (others : List (Installed × Event)) → w.dead ≡ false
      → AllByRecursion (IsTold w) (first ∷ others) → IsSound (behind w (composite_of (first ∷ others)))
      → Emits w (composite_of (first ∷ others)) (behind w (composite_of (first ∷ others)))
  begins : {policy : Policy} {thread : ThreadId} → w.dead ≡ false → (policy ≡ EventThread → ⊥)
      → IsSound (behind w (start_of policy thread))
      → Emits w (start_of policy thread) (behind w (start_of policy thread))
  ends : Emits w end_of (record w { dead = true })
