-- The summary of a session log: how many requests its client made, what it was told, and the sum of the values of `n`
-- that it was shown.
use Rattle.std.specs.Prelude.{ℕ, List, [], flat_map}
use Rattle.wire_core.specs.declared.outside.Entry.{Entry}
use Rattle.wire_core.specs.declared.outside.Entry.TheVariants.{In, Out, Shut, Failed, Quiet}
use Rattle.wire_core.specs.declared.outside.Side.{Side}
use Rattle.wire_core.specs.declared.outside.Side.TheVariants.{Client, Target}
use Rattle.session_summaries.specs.declared.summary.Summary.{Summary}
use Rattle.session_summaries.specs.declared.told.Tally.{Tally}
use Rattle.session_summaries.specs.Bodies.{bodies_of}
use Rattle.session_summaries.specs.Requests.{requests_in}
use Rattle.session_summaries.specs.Told.{told_in}

-- bytes of the client; of the target's none
abbrev pub of_client : Side → List ℕ → List ℕ
of_client Client bytes = bytes
of_client Target bytes = []

-- the bytes of an entry that the client sent
abbrev pub said_by_client : Entry → List ℕ
said_by_client (In side bytes) = of_client side bytes
said_by_client (Out side bytes) = []
said_by_client (Shut side) = []
said_by_client (Failed side) = []
said_by_client Quiet = []

-- the bytes of an entry that were sent to it
abbrev pub told_to_client : Entry → List ℕ
told_to_client (In side bytes) = []
told_to_client (Out side bytes) = of_client side bytes
told_to_client (Shut side) = []
told_to_client (Failed side) = []
told_to_client Quiet = []

-- the requests of a log
abbrev pub requests_of : List Entry → ℕ
requests_of log = requests_in (bodies_of (flat_map said_by_client log))

-- what is told in it
abbrev pub told_of_log : List Entry → Tally
told_of_log log = told_in (bodies_of (flat_map told_to_client log))

-- so many requests, and what is told
abbrev pub summed : ℕ → Tally → Summary
summed requests told = record {
  requests = requests;
  responses = told.responses;
  events = told.events;
  stops = told.stops;
  sum = told.sum;
}

-- the summary of a log
abbrev pub summary_of : List Entry → Summary
summary_of log = summed (requests_of log) (told_of_log log)
