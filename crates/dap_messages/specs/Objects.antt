-- The objects of JSON that a told message is made of. (DAP specification, Base Protocol, ProtocolMessage)
use Rattle.std.specs.Prelude.{ℕ, List, [], ◌∷◌, ℤ, codes, Option, Some, None}
use Rattle.serde_json.specs.Data.{Data, number, unsigned, object, Members, no_members, member}
use Rattle.serde_json.specs.Find.{of_integer}

-- members in this order
abbrev pub members_of : List (List ℕ × Data) → Members
members_of [] = no_members
members_of (m ∷ ms) = member m.0 m.1 (members_of ms)

-- an object of these members
abbrev pub object_of : List (List ℕ × Data) → Data
object_of members = object (members_of members)

-- a member that is left out where it has nothing to say
abbrev pub maybe_member : List ℕ → Option Data → List (List ℕ × Data)
maybe_member name None = []
maybe_member name (Some said) = (name, said) ∷ []

-- the member `body`, which stands before all others of a message
abbrev pub body_member : Option Data → List (List ℕ × Data)
body_member body = maybe_member (codes "body") body

-- a number that is an integer from 0
abbrev pub count : ℕ → Data
count n = number (unsigned n)

-- a number that is an integer
abbrev pub integer : ℤ → Data
integer z = number (of_integer z)
