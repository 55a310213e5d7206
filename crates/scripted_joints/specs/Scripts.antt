-- What a script gives, and what is so of the joint of a scripted target at any time.
use Rattle.std.specs.Prelude.{◌≡◌, false, true, [], Option, Some}
use Rattle.std.specs.List.{AllByRecursion}
use Rattle.jdwp_values.specs.declared.id.ThreadId.{ThreadId}
use Rattle.jdwp_events.specs.declared.kind.EventKind.TheVariants as kinds
use Rattle.jdwp_events.specs.declared.kind.Policy.{Policy}
use Rattle.jdwp_events.specs.declared.kind.Policy.TheVariants.{EventThread}
use Rattle.target_server.specs.Joints.{Joint}
use Rattle.world_model.specs.declared.rows.Installed.{Installed}
use Rattle.world_model.specs.declared.world.World.{World}
use Rattle.world_model.specs.Effects.{same_event}
use Rattle.world_model.specs.Requests.{suspends}
use Rattle.world_model.specs.Sound.{IsSound}

-- the start is told under a policy that an obeying target may have (JDWP, Event command set, Composite, VMStart)
abbrev pub MayBegin : Option (ThreadId × Policy) → Type 0
MayBegin begin = (thread : ThreadId) (policy : Policy) → begin ≡ Some (thread, policy) → policy ≡ EventThread → ⊥

-- What a script gives: a sound world that lives, with no event request and no suspension.
pub record IsScript (world : World) (begin : Option (ThreadId × Policy)) : Type 0 where
  pub sound : IsSound world
  pub lives : world.dead ≡ false
  pub free : world.count ≡ 0
  pub none : world.requests ≡ []
  pub start : MayBegin begin

-- a request for threads that end suspends nothing (JDWP, EventRequest command set, Set, suspendPolicy)
abbrev pub IsQuiet : Installed → Type 0
IsQuiet request = same_event request.wish_kind kinds.ThreadDeath ≡ true → suspends request.policy 2 ≡ false

-- before the handshake no command came, no event request is set, and nothing waits but the end of a target that has
-- ended
pub record IsUntouched (j : Joint) : Type 0 where
  pub unserved : j.unserved ≡ []
  pub requests : j.world.requests ≡ []
  pub held : j.world.dead ≡ false → j.flight.held ≡ []

-- What is so of the joint of a scripted target at any time.
pub record IsScripted (j : Joint) : Type 0 where
  pub sound : IsSound j.world
  pub quiet : AllByRecursion IsQuiet j.world.requests
  pub begin : MayBegin j.begin
  pub first : j.flight.greeted ≡ false → IsUntouched j
