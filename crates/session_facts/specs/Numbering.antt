-- The stop in hand and its numbers, as the code keeps them.
use Rattle.std.specs.Prelude.{Bool, true, false, List, ◌++◌}
use Rattle.stop_refs.specs.Numbers.{InHand, begun}
use Rattle.stop_refs.specs.declared.thing.Thing.{Thing}
use Rattle.session_facts.specs.declared.numbers.Numbers.{Numbers}
use Rattle.session_facts.specs.declared.numbers.Numbers.TheVariants.{Running, Stopped}

-- a stop is in hand
abbrev pub has_stop : Numbers → Bool
has_stop (Running past) = false
has_stop (Stopped stop) = true

-- more things are told in a stop
abbrev pub grown : InHand → List Thing → InHand
grown stop fresh = record stop { things = stop.things ++ fresh }

-- what was told in it; without a stop nothing was
abbrev pub stop_of : Numbers → InHand
stop_of (Running past) = begun past
stop_of (Stopped stop) = stop
