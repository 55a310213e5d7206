-- What the members say that the code gives an object.
use Rattle.std.specs.Prelude.{ℕ, List, [], ◌∷◌, ◌++◌, map, Bool, true, ◌&&◌, Option, Some, option_map}
use Rattle.std.specs.Borrow.{Bor}
use Rattle.std.specs.Ordering.{nat_cmp, is_gt}
use Rattle.std.specs.Cmp.Lexicographic.{slice_cmp}
use Rattle.serde_json.specs.Data.{Data, boolean, string, array}
use Rattle.serde_json.specs.View.{view, items_of}
use Rattle.dap_messages.specs.Objects.{count, integer, maybe_member}
use Rattle.dap_messages.specs.declared.objects.Member.{Member}
use Rattle.dap_messages.specs.declared.objects.Member.TheVariants.{Flag, Count, Integer, Words, Items, Inner}
use Rattle.dap_messages.specs.declared.objects.Member.TheVariants.{MaybeCount, MaybeText, MaybeWords, MaybeInner}

-- what a member says, if it isn't left out
abbrev pub member_data : Member → Option Data
member_data (Flag flag) = Some (boolean flag)
member_data (Count n) = Some (count n)
member_data (Integer z) = Some (integer z)
member_data (Words words) = Some (string words.now)
member_data (Items items) = Some (array (items_of (map view items.items)))
member_data (Inner value) = Some (view value)
member_data (MaybeCount n) = option_map count n
member_data (MaybeText text) = option_map string text.now
member_data (MaybeWords words) = option_map string (option_map (λ w. w.now) words)
member_data (MaybeInner value) = option_map view value

-- what members say
abbrev pub members_data : List (Bor (List ℕ) × Member) → List (List ℕ × Data)
members_data [] = []
members_data (m ∷ ms) = maybe_member m.0.now (member_data m.1) ++ members_data ms

-- a name stands before those of all these members
abbrev pub is_before : List ℕ → List (Bor (List ℕ) × Member) → Bool
is_before name [] = true
is_before name (m ∷ ms) = is_gt (slice_cmp nat_cmp m.0.now name) && is_before name ms

-- the names of members ascend
abbrev pub ascends : List (Bor (List ℕ) × Member) → Bool
ascends [] = true
ascends (m ∷ ms) = is_before m.0.now ms && ascends ms
