-- The order of wishes: by their kinds, and within a kind by what they say.
use Rattle.std.specs.Prelude.{ℕ, Bool, true, false, List, [], ◌∷◌, fold}
use Rattle.std.specs.BTreeSet.{insert_key}
use Rattle.std.specs.Cmp.{IsTotalOrder, on_total}
use Rattle.std.specs.Cmp.Lexicographic.{slice_cmp, nat_list_cmp_total}
use Rattle.std.specs.List.{list_any}
use Rattle.std.specs.Ordering.{nat_cmp, is_eq}
use Rattle.std.specs.declared.cmp.Ordering.{Ordering}
use Rattle.jdwp_values.specs.Tags.{byte_of_type_tag}
use Rattle.jdwp_values.specs.declared.location.Location.{Location}
use Rattle.wish_sets.specs.declared.wish.Depth.{Depth}
use Rattle.wish_sets.specs.declared.wish.Depth.TheVariants.{Into, Over, Out}
use Rattle.wish_sets.specs.declared.wish.Wish.{Wish}
use Rattle.wish_sets.specs.declared.wish.Wish.TheVariants as wishes

-- a location stands by its class, its method and its code index; the tag decides between equal ones (JDWP, Detailed
-- Command Information, common data types, location)
abbrev pub location_key : Location → List ℕ
location_key at = at.class.0 ∷ at.method.0 ∷ at.index ∷ byte_of_type_tag at.tag ∷ []

-- 1 where it is so
abbrev pub bit : Bool → ℕ
bit false = 0
bit true = 1

-- the number of a depth (JDWP, Constants, StepDepth)
abbrev pub number_of_depth : Depth → ℕ
number_of_depth Into = 0
number_of_depth Over = 1
number_of_depth Out = 2

-- the place of a wish's kind among the kinds
abbrev pub wish_rank : Wish → ℕ
wish_rank wishes.ThreadStart = 0
wish_rank wishes.ThreadDeath = 1
wish_rank (wishes.Watch path) = 2
wish_rank (wishes.Stop at) = 3
wish_rank (wishes.Thrown caught uncaught) = 4
wish_rank (wishes.Step thread depth) = 5

-- what a wish says
abbrev pub wish_said : Wish → List ℕ
wish_said wishes.ThreadStart = []
wish_said wishes.ThreadDeath = []
wish_said (wishes.Watch path) = path
wish_said (wishes.Stop at) = location_key at
wish_said (wishes.Thrown caught uncaught) = bit caught ∷ bit uncaught ∷ []
wish_said (wishes.Step thread depth) = thread.0 ∷ number_of_depth depth ∷ []

-- the key of a wish: its kind, and what it says
abbrev pub wish_key : Wish → List ℕ
wish_key wish = wish_rank wish ∷ wish_said wish

-- the order of two wishes: that of the first numbers of their keys that differ
abbrev pub wish_cmp : Wish → Wish → Ordering
wish_cmp a b = slice_cmp nat_cmp (wish_key a) (wish_key b)

-- the wishes in their order, each once
abbrev pub in_order : List Wish → List Wish
in_order those = fold (insert_key wish_cmp) [] those

-- two wishes are one
abbrev pub is_wish : Wish → Wish → Bool
is_wish a b = is_eq (wish_cmp a b)

-- a wish is among these
abbrev pub has_wish : List Wish → Wish → Bool
has_wish those wish = list_any (is_wish wish) those

-- it is a total order
pub wish_total : IsTotalOrder wish_cmp
wish_total = on_total wish_key nat_list_cmp_total
