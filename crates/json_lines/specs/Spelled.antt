-- Values that a text in UTF-8 can spell.
use Rattle.std.specs.Prelude.{◌≡◌, ℕ, ◌<◌, ◌^◌, pos, negsuc, List}
use Rattle.std.specs.Cmp.Lexicographic.{slice_cmp}
use Rattle.std.specs.Ordering.{nat_cmp}
use Rattle.std.specs.declared.cmp.Ordering.TheVariants.{Less}
use Rattle.std.specs.Str.{IsUtf8}
use Rattle.serde_json.specs.Data.{Num, unsigned, negative, float, Data, null, boolean, number, string, array, object}
use Rattle.serde_json.specs.Data.{Items, no_items, item, Members, no_members, member}

-- an integer that 64 bits hold, and a float
abbrev pub IsNumber : Num → Type 0
IsNumber (unsigned n) = n < 2 ^ 64
IsNumber (negative (pos n)) = ⊥
IsNumber (negative (negsuc n)) = n < 2 ^ 63
IsNumber (float x) = Unit {0}

-- a name comes before those of other members
abbrev pub IsBelow : List ℕ → Members → Type 0
IsBelow name no_members = Unit {0}
IsBelow name (member k d ms) = (slice_cmp nat_cmp name k ≡ Less) × IsBelow name ms

-- texts are UTF-8, numbers are such, and an object has each name once, in the order of its bytes
abbrev mutual
  pub IsSpelled : Data → Type 0
  IsSpelled null = Unit {0}
  IsSpelled (boolean b) = Unit {0}
  IsSpelled (number n) = IsNumber n
  IsSpelled (string s) = IsUtf8 s
  IsSpelled (array ds) = AreSpelled ds
  IsSpelled (object ms) = AreMembers ms

  pub AreSpelled : Items → Type 0
  AreSpelled no_items = Unit {0}
  AreSpelled (item d ds) = IsSpelled d × AreSpelled ds

  pub AreMembers : Members → Type 0
  AreMembers no_members = Unit {0}
  AreMembers (member k d ms) = IsUtf8 k × (IsSpelled d × (IsBelow k ms × AreMembers ms))
