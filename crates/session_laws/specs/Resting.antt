-- What holds where a session waits.
use Rattle.machine_model.specs.Rest.{AreAnswered, IsAtRest, requests_of, responses_of}
use Rattle.machine_model.specs.Runs.{Message}
use Rattle.machine_model.specs.State.{Machine}
use Rattle.std.specs.Prelude.{List}

-- The machine is at rest, and all requests that were heard are answered, one by one, in order.
pub record IsAnswered (messages : List Message) (m : Machine) : Type 0 where
  pub at_rest : IsAtRest m
  pub answered : AreAnswered (requests_of messages) (responses_of messages)
