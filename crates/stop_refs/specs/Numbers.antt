-- The numbers by which a client names frames and containers. They are given in order over all stops of a session, and
-- each is good in its own stop alone (DAP, Overview, Lifetime of Objects References).
use Rattle.std.specs.Prelude.{ℕ, zero, suc, ◌+◌, ◌-◌, ◌==◌, ◌&&◌, Bool, not, List, [], ◌∷◌, ◌++◌, length, count_by}
use Rattle.std.specs.Prelude.{nat_le, nat_lt, if◌then◌else◌, Option, Some, None, slice_get, Result, Ok, Err}
use Rattle.std.specs.List.{list_any, position_or_len}
use Rattle.stop_refs.specs.declared.thing.FrameThing.{FrameThing}
use Rattle.stop_refs.specs.declared.thing.Thing.{Thing}
use Rattle.stop_refs.specs.declared.fault.RefFault.{RefFault}
use Rattle.stop_refs.specs.declared.fault.RefFault.TheVariants.{Unknown, Stale}
use Rattle.stop_refs.specs.Things.{same_thing, as_frame, as_container}

-- The stops that are over, by the first number of each, in order; and the next number. No stop is in hand.
pub record Past : Type 0 where
  pub firsts : List ℕ
  pub next : ℕ

-- A stop in hand: what was before it, where the next number became its first; and the things that were told in it, in
-- the order in which they were first told.
pub record InHand : Type 0 where
  pub past : Past
  pub things : List Thing

-- no stop yet: numbers begin here
abbrev pub from : ℕ → Past
from first = record { firsts = []; next = first }

-- a stop begins, and nothing was told in it
abbrev pub begun : Past → InHand
begun past = record { past = past; things = [] }

-- the next number of a stop
abbrev pub next_in : InHand → ℕ
next_in stop = stop.past.next + length stop.things

-- a stop is over, and its numbers with it
abbrev pub over : InHand → Past
over stop = record { firsts = stop.past.firsts ++ stop.past.next ∷ []; next = next_in stop }

-- the number of a thing, by its place among those that were told; of a new thing the next number
abbrev pub number_of : Thing → InHand → ℕ
number_of thing stop = stop.past.next + position_or_len (same_thing thing) stop.things

-- a thing that was not told in this stop
abbrev pub is_new : Thing → InHand → Bool
is_new thing stop = not (list_any (same_thing thing) stop.things)

-- a thing is told: behind those that were, where it is new
abbrev pub with_thing : Thing → InHand → InHand
with_thing thing stop =
    if list_any (same_thing thing) stop.things then stop else record stop { things = stop.things ++ thing ∷ [] }

-- the number behind the last one: references are below 2^31 (DAP, Types, Variable, variablesReference)
abbrev pub end : ℕ
end = 2147483648

-- how many more new things can be told in a stop
abbrev pub room : InHand → ℕ
room stop = end - next_in stop

-- a thing can't be told: it is new, and no number is left
abbrev pub is_spent : Thing → InHand → Bool
is_spent thing stop = is_new thing stop && (next_in stop == end)

-- the stop in which a number was given, counted from 1: the last that began with it or below it; 0 where none did
abbrev pub stop_with : List ℕ → ℕ → ℕ
stop_with firsts n = count_by (λ first. nat_le first n) firsts

-- why a number below that of the stop in hand is refused, where the next number is this
abbrev pub refused_in : ℕ → ℕ → RefFault
refused_in next zero = Unknown next
refused_in next (suc earlier) = Stale (suc earlier)

-- why a number is refused while no stop is in hand: it was given in a stop that is over, or never
abbrev pub look : ℕ → Past → RefFault
look n past = if nat_lt n past.next then refused_in past.next (stop_with past.firsts n) else Unknown past.next

-- the thing at a place of a stop, where the next number is this
abbrev pub or_unknown : ℕ → Option Thing → Result Thing RefFault
or_unknown next (Some thing) = Ok thing
or_unknown next None = Err (Unknown next)

-- what a number stands for in a stop, or why for nothing
abbrev pub thing_with : ℕ → InHand → Result Thing RefFault
thing_with n stop =
    if nat_lt n stop.past.next then Err (refused_in (next_in stop) (stop_with stop.past.firsts n))
    else or_unknown (next_in stop) (slice_get stop.things (n - stop.past.next))

-- a result read once more
abbrev pub and_then : {A B : Type 0} → (A → Result B RefFault) → Result A RefFault → Result B RefFault
and_then read (Ok x) = read x
and_then read (Err fault) = Err fault

-- the frame that a number stands for (DAP, Requests, Scopes, frameId)
abbrev pub frame : ℕ → InHand → Result FrameThing RefFault
frame n stop = and_then as_frame (thing_with n stop)

-- the container that a number stands for (DAP, Requests, Variables, variablesReference)
abbrev pub container : ℕ → InHand → Result Thing RefFault
container n stop = and_then as_container (thing_with n stop)
