-- Numbers of what is told in a stop: frames, their variables, objects and arrays (DAP specification, Overview, Lifetime
-- of Objects References; Types, StackFrame, id; Types, Variable, variablesReference).
use Rattle.std.specs.Prelude.{ℕ, ◌-◌, Bool, List, [], ◌∷◌, filter_map, fold, map, nat_le, option_to_list}
use Rattle.machine_model.specs.Names.{Body, Capabilities, Continued, Nothing, ShownFrame, ShownVariable, breakpoint_list}
use Rattle.machine_model.specs.Names.{a_value, a_written, an_exception, frame_list, scope_list, thread_list, variable_list}
use Rattle.stop_refs.specs.Numbers.{InHand, next_in, room, with_thing}
use Rattle.stop_refs.specs.declared.thing.Thing.{Thing}
use Rattle.stop_refs.specs.declared.thing.Thing.TheVariants.{Frame as a_frame, Locals as some_locals}

-- what a body tells by numbers, in order
abbrev pub things_of : Body → List Thing
things_of Nothing = []
things_of Capabilities = []
things_of (breakpoint_list rooted listed) = []
things_of Continued = []
things_of (an_exception id mode) = []
things_of (frame_list total frames) = map (λ (shown : ShownFrame). a_frame shown.frame) frames
things_of (scope_list frame) = some_locals frame ∷ []
things_of (variable_list shown) = filter_map (λ (shown : ShownVariable). shown.seen.thing) shown
things_of (a_value seen) = option_to_list seen.thing
things_of (a_written seen) = []
things_of (thread_list named) = []

-- they are told, each under the number that it has or gets
abbrev pub with_things : List Thing → InHand → InHand
with_things things numbers = fold (λ numbers thing. with_thing thing numbers) numbers things

-- how many of them have no number yet
abbrev pub new_among : List Thing → InHand → ℕ
new_among things numbers = next_in (with_things things numbers) - next_in numbers

-- these all get one
abbrev pub has_room : List Thing → InHand → Bool
has_room things numbers = nat_le (new_among things numbers) (room numbers)
