-- What was told over a whole session, and under which numbers.
use Rattle.std.specs.Prelude.{◌≡◌, ℕ, ◌+◌, List, [], ◌∷◌, ◌++◌, length}
use Rattle.stop_refs.specs.declared.thing.Thing.{Thing}
use Rattle.stop_refs.specs.Numbers.{Past, InHand, from, begun, over, number_of, with_thing}

-- a stop after these things were told in it, the latest first
abbrev pub told : List Thing → Past → InHand
told [] past = begun past
told (latest ∷ earlier) past = with_thing latest (told earlier past)

-- what is past after these stops, the latest first, each by the things that were told in it; where numbers began
abbrev pub past_of : ℕ → List (List Thing) → Past
past_of start [] = from start
past_of start (latest ∷ earlier) = over (told latest (past_of start earlier))

-- in one of these stops, the n-th from 1, a thing was told under a number: that which it had behind all that was told
-- before it
pub record Gave (start : ℕ) (stops : List (List Thing)) (stop number : ℕ) (thing : Thing) : Type 0 where
  pub later : List (List Thing)
  pub earlier : List (List Thing)
  pub behind : List Thing
  pub before : List Thing
  pub stops_are : stops ≡ later ++ (behind ++ thing ∷ before) ∷ earlier
  pub stop_is : stop ≡ length earlier + 1
  pub number_is : number ≡ number_of thing (told before (past_of start earlier))
