-- Worked examples: what is wished of a small session, and the changes that lead there.
use Rattle.std.proofs.Common.{◌≡◌, ℕ, ℤ, true, false, List, [], ◌∷◌, refl, Some, None, pos, negsuc}
use Rattle.std.specs.Prelude.{codes}
use Rattle.std.specs.Str.{is_utf8, chars}
use lib.Utf8.{encode}
use Rattle.jdwp_events.specs.declared.kind.EventKind.TheVariants as kinds
use Rattle.jdwp_values.specs.Lossy.{lossy, lossy_after}
use Rattle.jdwp_values.specs.declared.class.Line.{Line}
use Rattle.jdwp_values.specs.declared.location.Location.{Location}
use Rattle.jdwp_values.specs.declared.tag.TypeTag.TheVariants as tags
use Rattle.wish_sets.specs.declared.change.Settled.TheVariants as outcomes
use Rattle.wish_sets.specs.declared.entry.EntryState.TheVariants as states
use Rattle.wish_sets.specs.declared.facts.KnownClass.{KnownClass}
use Rattle.wish_sets.specs.declared.facts.KnownMethod.{KnownMethod}
use Rattle.wish_sets.specs.declared.wish.Depth.TheVariants.{Over}
use Rattle.wish_sets.specs.declared.wish.Wish.TheVariants as wishes
use Rattle.wish_sets.specs.Counts.{wishers}
use Rattle.wish_sets.specs.Entries.{state_of, entries_at, verified}
use Rattle.wish_sets.specs.Wanted.{Wanted}
use Rattle.wish_sets.specs.Wished.{wished, is_listed, is_named}
use Rattle.wish_sets.specs.Wishes.{Wishes, clears, sets, next_change, next_place, settled, owner_of, rewished}
use Rattle.wish_sets.specs.Wishes.{new_wishes}

-- a line of the source, from a code index on
abbrev from : ℕ → ℕ → Line
from index line = record { index = index; line = pos line }

-- a method, by its number and name, the first index of its code, and its lines
abbrev method_of : ℕ → List ℕ → ℤ → List Line → KnownMethod
method_of id name start lines =
    record { id = record { 0 = id }; name = name; lines = Some (record { start = start; end = pos 9; lines = lines }) }

-- A class `Cart` in the default package: a method whose code begins at 0, with line 3 at 2 and at 0 and line 4 at 5,
-- and a native one.
abbrev cart : KnownClass
cart = record {
  tag = tags.Class;
  signature = codes "LCart;";
  prepared = true;
  source = Some (codes "Cart.java");
  methods = method_of 7 (codes "add") (pos 0) (from 2 3 ∷ from 0 3 ∷ from 5 4 ∷ [])
      ∷ method_of 8 (codes "pay") (negsuc 0) (from 1 3 ∷ []) ∷ [];
}

-- its lines 3 and 4 are listed, line 4 with a condition, and line 9, where no code is; a function of it is listed too
abbrev shop : Wanted
shop = record {
  lists = (
    codes "Cart.java",
    record { id = 1; line = pos 3; plain = true } ∷ record { id = 2; line = pos 4; plain = false }
        ∷ record { id = 3; line = pos 9; plain = true } ∷ [],
  ) ∷ (codes "Empty.java", []) ∷ [];
  functions = record { id = 4; name = codes "Cart.add"; plain = true } ∷ [];
  caught = false;
  uncaught = true;
  step = Some (record { thread = record { 0 = 6 }; depth = Over });
  classes = (record { 0 = 5 }, cart) ∷ [];
}

-- where line 3, and the function, begins
abbrev start : Location
start = record { tag = tags.Class; class = record { 0 = 5 }; method = record { 0 = 7 }; index = 0 }

-- the default package is watched once, and the breakpoint is wished once; the native method binds nothing
all_is_wished : wished shop ≡ wishes.ThreadStart ∷ wishes.ThreadDeath ∷ wishes.Watch [] ∷ wishes.Stop start
    ∷ wishes.Thrown false true ∷ wishes.Step (record { 0 = 6 }) Over ∷ []
unfolding wished lossy lossy_after is_utf8 chars encode
all_is_wished = refl

-- How many entries wish each: the package by three lines and a function, and the breakpoint by line 3 and the
-- function. A line with a condition, or without code, wishes its package alone; the native method has no breakpoint.
four_wish_the_package : wishers (wishes.Watch []) shop ≡ 4
unfolding lossy lossy_after is_utf8 chars encode
four_wish_the_package = refl

two_wish_the_breakpoint : wishers (wishes.Stop start) shop ≡ 2
unfolding lossy lossy_after is_utf8 chars encode
two_wish_the_breakpoint = refl

none_wishes_another : wishers (wishes.Stop (record start { index = 5 })) shop ≡ 0
unfolding lossy lossy_after is_utf8 chars encode
none_wishes_another = refl

one_wishes_the_starts : wishers wishes.ThreadStart shop ≡ 1
unfolding lossy lossy_after is_utf8 chars encode
one_wishes_the_starts = refl

-- a class that isn't prepared binds nothing
nothing_before_it_is_prepared :
    wished (record shop { classes = (record { 0 = 5 }, record cart { prepared = false }) ∷ [] })
    ≡ wishes.ThreadStart ∷ wishes.ThreadDeath ∷ wishes.Watch [] ∷ wishes.Thrown false true
    ∷ wishes.Step (record { 0 = 6 }) Over ∷ []
unfolding wished lossy lossy_after is_utf8 chars encode
nothing_before_it_is_prepared = refl

-- a package is watched by its name, where a class of it is named, too
packages_are_watched : wished (record shop {
  lists = (codes "com/shop/Till.java", record { id = 1; line = pos 3; plain = false } ∷ []) ∷ [];
  functions = record { id = 4; name = codes "com.bank.Till.open"; plain = true }
      ∷ record { id = 5; name = codes "main"; plain = true } ∷ [];
  caught = false;
  uncaught = false;
  step = None;
}) ≡ wishes.ThreadStart ∷ wishes.ThreadDeath ∷ wishes.Watch (codes "com.bank") ∷ wishes.Watch (codes "com.shop") ∷ []
unfolding wished lossy lossy_after is_utf8 chars encode
packages_are_watched = refl

-- a list without entries is none; a key is its package and its file
listed : is_listed shop (record { package_path = []; file = codes "Cart.java" }) ≡ true
listed = refl

empty_is_not_listed : is_listed shop (record { package_path = []; file = codes "Empty.java" }) ≡ false
empty_is_not_listed = refl

named : is_named shop (codes "LCart;") (Some (codes "add")) ≡ true
unfolding lossy lossy_after is_utf8 chars encode
named = refl

another_method_is_not_named : is_named shop (codes "LCart;") (Some (codes "pay")) ≡ false
unfolding lossy lossy_after is_utf8 chars encode
another_method_is_not_named = refl

-- What stands from before: the thread requests, and a breakpoint at line 9, which is wished no longer. The watch was
-- refused.
abbrev stands : Wishes
stands = record {
  wanted = shop;
  installed = record { wish = wishes.ThreadStart; request = 1 } ∷ record { wish = wishes.ThreadDeath; request = 2 }
      ∷ record { wish = wishes.Stop (record start { index = 9 }); request = 3 } ∷ [];
  refused = wishes.Watch [] ∷ [];
}

-- the breakpoint goes first, from its place among what is installed
it_is_cleared_first : next_change stands
    ≡ Some (clears (record { wish = wishes.Stop (record start { index = 9 }); request = 3 }))
unfolding next_change wished lossy lossy_after is_utf8 chars encode
it_is_cleared_first = refl

from_its_place : next_place stands ≡ Some 2
unfolding next_place wished lossy lossy_after is_utf8 chars encode
from_its_place = refl

-- then the first wish that neither stands nor was refused is set: the breakpoint at line 3, in the fourth place
then_one_is_set : next_change (settled outcomes.Cleared stands) ≡ Some (sets (wishes.Stop start))
unfolding next_change wished lossy lossy_after is_utf8 chars encode
then_one_is_set = refl

at_its_place : next_place (settled outcomes.Cleared stands) ≡ Some 3
unfolding next_change next_place wished lossy lossy_after is_utf8 chars encode
at_its_place = refl

-- it stands under its id, in wish order; the entries of line 3 and of the function are verified, that of line 9 waits,
-- and one that isn't plain has no location
abbrev bound : Wishes
bound = record stands {
  installed = record { wish = wishes.ThreadStart; request = 1 } ∷ record { wish = wishes.ThreadDeath; request = 2 }
      ∷ record { wish = wishes.Stop start; request = 8 } ∷ [];
}

it_is_installed : settled (outcomes.Installed 8) (settled outcomes.Cleared stands) ≡ bound
unfolding next_change wished lossy lossy_after is_utf8 chars encode
it_is_installed = refl

line_is_verified : state_of bound 1 ≡ Some states.Verified
unfolding lossy lossy_after is_utf8 chars encode
line_is_verified = refl

function_is_verified : state_of bound 4 ≡ Some states.Verified
unfolding lossy lossy_after is_utf8 chars encode
function_is_verified = refl

condition_waits : state_of bound 2 ≡ Some states.Waiting
unfolding lossy lossy_after is_utf8 chars encode
condition_waits = refl

unknown_entry : state_of bound 5 ≡ None
unfolding lossy lossy_after is_utf8 chars encode
unknown_entry = refl

refused_entry : state_of (record stands { refused = wishes.Stop start ∷ [] }) 4 ≡ Some states.Refused
unfolding lossy lossy_after is_utf8 chars encode
refused_entry = refl

both_are_hit : entries_at shop start ≡ record { id = 1; line = true } ∷ record { id = 4; line = false } ∷ []
unfolding lossy lossy_after is_utf8 chars encode
both_are_hit = refl

-- of the entries that are verified the breakpoint of the source has its line, and that of the function has none
both_are_verified : verified bound ≡ record { id = 1; line = Some (pos 3) } ∷ record { id = 4; line = None } ∷ []
unfolding lossy lossy_after is_utf8 chars encode
both_are_verified = refl

-- an event belongs to the wish of its kind and id alone
owner : owner_of bound.installed kinds.Breakpoint 8 ≡ Some (wishes.Stop start)
owner = refl

another_kind_owns_nothing : owner_of bound.installed kinds.ThreadStart 8 ≡ None
another_kind_owns_nothing = refl

-- nothing is listed any more: the refusal is forgotten, and what is installed stays until it is cleared
refusal_is_forgotten : rewished new_wishes.wanted stands ≡ record stands { wanted = new_wishes.wanted; refused = [] }
unfolding wished
refusal_is_forgotten = refl
