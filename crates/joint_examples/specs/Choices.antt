-- What a target that obeys JDWP may choose, over a small world. It says so of all joints in which the target has that
-- world.
use Rattle.std.specs.Prelude.{ℕ, ◌∷◌, ◌++◌, pos, true, List, []}
use Rattle.jdwp_commands.specs.declared.answer.Answer.TheVariants as answers
use Rattle.jdwp_commands.specs.declared.asked.Asked.TheVariants as commands
use Rattle.jdwp_commands.specs.declared.effect.Effect.TheVariants as effects
use Rattle.jdwp_commands.specs.declared.question.Question.TheVariants as questions
use Rattle.jdwp_events.specs.declared.event.Event.TheVariants as events
use Rattle.jdwp_events.specs.declared.kind.EventKind.TheVariants as kinds
use Rattle.jdwp_events.specs.declared.kind.Policy.TheVariants.{All, NoThread}
use Rattle.jdwp_events.specs.declared.modifier.Modifier.TheVariants as modifiers
use Rattle.jdwp_values.specs.Sizes.{IsSize}
use Rattle.joint_examples.specs.Worlds.{class_of, later, place, thread_of, world}
use Rattle.joint_model.specs.Joints.{Joint, Packet, a_reply, some_events}
use Rattle.joint_model.specs.Names.{Set, TargetCommand, a_question, an_effect}
use Rattle.joint_model.specs.Obeying.{Serves, end_of, start_of}
use Rattle.machine_model.specs.Names.{Composite, Question, an_answer, an_error}
use Rattle.machine_model.specs.Runs.{Message}
use Rattle.machine_model.specs.State.{Machine}
use Rattle.wish_sets.specs.declared.wish.Wish.TheVariants as wishes
use Rattle.world_model.specs.Effects.{with_request}
use Rattle.world_model.specs.Emitting.{nowhere}
use Rattle.world_model.specs.declared.world.World.{World}

-- a joint of the target in one world goes on to one in another, with these packets more in flight
abbrev pub Sends : World → World → List Packet → Type 0
Sends w now more = (messages : List Message) (m : Machine) (commands : List TargetCommand) (packets : List Packet)
    (kept : List Composite) → Joint messages m w commands packets kept
    → Joint messages m now commands (packets ++ more) kept

-- Events --------------------------------------------------------------------------------------------------------------

-- the second thread is at a breakpoint
abbrev pub hit : Composite
hit = record { policy = All; events = events.Breakpoint 7 (thread_of 2) place ∷ [] }

-- the first has started, and the second is at a breakpoint
abbrev pub start_and_hit : Composite
start_and_hit = record {
  policy = All;
  events = events.ThreadStart 9 (thread_of 1) ∷ events.Breakpoint 7 (thread_of 2) place ∷ [];
}

pub record ToldBesideAt (fits : IsSize 8) : Type 0 where
  pub alone : Sends (world fits 1) (world fits 2) (some_events hit ∷ [])
  pub together : Sends (world fits 1) (world fits 2) (some_events start_and_hit ∷ [])

-- Events are told beside a stop.
abbrev pub ToldBeside : Type 0
ToldBeside = (fits : IsSize 8) → ToldBesideAt fits

-- Errors --------------------------------------------------------------------------------------------------------------

-- a question that waits alone is refused with this number
abbrev pub Refuses : World → Question → ℕ → Type 0
Refuses w question code = (messages : List Message) (m : Machine) (packets : List Packet) (kept : List Composite)
    → Joint messages m w (a_question question ∷ []) packets kept
    → Joint messages m w [] (packets ++ a_reply (a_question question) (an_error code) ∷ []) kept

pub record AnyNumbersAt (fits : IsSize 8) : Type 0 where
  pub source : Refuses (world fits 1) (questions.SourceFile (class_of 16)) 502
  pub of_class : Refuses (world fits 1) (questions.SourceFile (class_of 16)) 10
  pub slot : Refuses (world fits 1)
      (questions.GetSlots (thread_of 1) (record { 0 = 64 }) (record { slot = pos 4; tag = 73 } ∷ [])) 35
  pub effect : Serves (world fits 1)
      (commands.Effect (effects.Set kinds.Breakpoint All (modifiers.LocationOnly nowhere ∷ []))) (an_error 41)
      (world fits 1)

-- A refusal has any number that says nothing else.
abbrev pub AnyNumbers : Type 0
AnyNumbers = (fits : IsSize 8) → AnyNumbersAt fits

-- Ids -----------------------------------------------------------------------------------------------------------------

-- the world with a request for threads that end
abbrev pub with_ends : World → ℕ → World
with_ends w id = with_request w kinds.ThreadDeath NoThread [] id

abbrev pub ends_set : TargetCommand
ends_set = an_effect (Set wishes.ThreadDeath)

-- such a request is set under this id, with these packets in flight
abbrev pub Installs : World → List Packet → ℕ → Type 0
Installs w packets id = (messages : List Message) (m : Machine) (kept : List Composite)
    → Joint messages m w (ends_set ∷ []) packets kept
    → Joint messages m (with_ends w id) [] (packets ++ a_reply ends_set (an_answer (answers.Set id)) ∷ []) kept

-- events that name the id of a request that is no more
abbrev pub of_old : Packet
of_old = some_events (record { policy = All; events = events.Breakpoint 8 (thread_of 2) place ∷ [] })

pub record AnyIdsAt (fits : IsSize 8) : Type 0 where
  pub greatest : Installs (world fits 0) [] 2147483647
  pub named : Installs (world fits 1) (of_old ∷ []) 8

-- Ids of event requests are chosen at will.
abbrev pub AnyIds : Type 0
AnyIds = (fits : IsSize 8) → AnyIdsAt fits

-- Order ---------------------------------------------------------------------------------------------------------------

abbrev pub threads_asked : TargetCommand
threads_asked = a_question questions.AllThreads

abbrev pub name_asked : TargetCommand
name_asked = a_question (questions.ThreadName (thread_of 1))

abbrev pub threads_told : Packet
threads_told = a_reply threads_asked (an_answer (answers.AllThreads (thread_of 1 ∷ thread_of 2 ∷ [])))

abbrev pub name_told : Packet
name_told = a_reply name_asked (an_answer (answers.ThreadName (109 ∷ [])))

-- two commands are served, each before the other
pub record AnyOrderAt (fits : IsSize 8) : Type 0 where
  pub first : (messages : List Message) (m : Machine) (kept : List Composite)
      → Joint messages m (world fits 1) (threads_asked ∷ name_asked ∷ []) [] kept
      → Joint messages m (world fits 1) [] (threads_told ∷ name_told ∷ []) kept
  pub second : (messages : List Message) (m : Machine) (kept : List Composite)
      → Joint messages m (world fits 1) (threads_asked ∷ name_asked ∷ []) [] kept
      → Joint messages m (world fits 1) [] (name_told ∷ threads_told ∷ []) kept

-- Commands are served in any order.
abbrev pub AnyOrder : Type 0
AnyOrder = (fits : IsSize 8) → AnyOrderAt fits

-- The program ---------------------------------------------------------------------------------------------------------

-- A target that isn't suspended runs as it will.
abbrev pub AnyRun : Type 0
AnyRun = (fits : IsSize 8) → Sends (world fits 0) (later fits) []

-- Start and end -------------------------------------------------------------------------------------------------------

-- the same world, once it has ended
abbrev pub ended : World → World
ended w = record w { dead = true }

pub record UnaskedAt (fits : IsSize 8) : Type 0 where
  pub starts : Sends (world fits 1) (world fits 2) (some_events (start_of All (thread_of 5)) ∷ [])
  pub starts_free : Sends (world fits 1) (world fits 1) (some_events (start_of NoThread (thread_of 1)) ∷ [])
  pub twice : Sends (world fits 0) (world fits 2)
      (some_events (start_of All (thread_of 1)) ∷ some_events (start_of All (thread_of 1)) ∷ [])
  pub ends : Sends (world fits 1) (ended (world fits 1)) (some_events end_of ∷ [])
  pub ends_again : Sends (ended (world fits 1)) (ended (world fits 1)) (some_events end_of ∷ [])
  pub dies : Sends (world fits 1) (ended (world fits 1)) []

-- Starts and ends are told unasked.
abbrev pub Unasked : Type 0
Unasked = (fits : IsSize 8) → UnaskedAt fits
