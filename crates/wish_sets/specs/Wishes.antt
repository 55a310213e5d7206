-- What is wanted, what stands, and the next change that leads there (JDWP, EventRequest command set, Set and Clear).
use Rattle.std.specs.Prelude.{ℕ, ◌==◌, ◌&&◌, ◌||◌, not, Bool, true, false, if◌then◌else◌, List, [], filter, find}
use Rattle.std.specs.Prelude.{Option, Some, None, option_map}
use Rattle.std.specs.BTreeSet.{insert_key}
use Rattle.std.specs.List.{list_any, position_from}
use Rattle.std.specs.Option.{option_or}
use Rattle.std.specs.Ordering.{on}
use Rattle.jdwp_events.specs.Kinds.{byte_of_kind}
use Rattle.jdwp_events.specs.declared.kind.EventKind.{EventKind}
use Rattle.wish_sets.specs.declared.change.Settled.{Settled}
use Rattle.wish_sets.specs.declared.change.Settled.TheVariants as outcomes
use Rattle.wish_sets.specs.declared.wish.Wish.{Wish}
use Rattle.wish_sets.specs.Order.{has_wish, is_wish, wish_cmp}
use Rattle.wish_sets.specs.Requests.{kind_of_wish}
use Rattle.wish_sets.specs.Wanted.{Wanted, nothing_wanted}
use Rattle.wish_sets.specs.Wished.{wished}

-- an event request that the target holds: its wish, and the id that the target gave it
pub record EventRequest : Type 0 where
  pub wish : Wish
  pub request : ℕ

-- What is wanted, apart from what stands: the event requests that the target holds, and the wishes that it refused and
-- that were wished ever since, both in wish order.
pub record Wishes : Type 0 where
  pub wanted : Wanted
  pub installed : List EventRequest
  pub refused : List Wish

-- before anything was asked for
abbrev pub new_wishes : Wishes
new_wishes = record { wanted = nothing_wanted; installed = []; refused = [] }

-- Something else is wanted: what was refused and is wished no longer is forgotten. What is installed stays.
abbrev pub rewished : Wanted → Wishes → Wishes
rewished wanted w = record w { wanted = wanted; refused = filter (has_wish (wished wanted)) w.refused }

-- The next change -----------------------------------------------------------------------------------------------------

-- a change of what is installed: a request is cleared, or a wish is set
pub data WishChange : Type 0 where
  clears : EventRequest → WishChange
  sets : Wish → WishChange

-- a request is no longer wished
abbrev pub is_surplus : List Wish → EventRequest → Bool
is_surplus those r = not (has_wish those r.wish)

-- a wish is installed
abbrev pub is_installed : List EventRequest → Wish → Bool
is_installed installed wish = list_any (λ r. is_wish wish r.wish) installed

-- a wish is neither installed nor refused
abbrev pub is_missing : List EventRequest → List Wish → Wish → Bool
is_missing installed refused wish = not (is_installed installed wish || has_wish refused wish)

-- The next change: the first request that is installed and not wished is cleared; else the first wish that is neither
-- installed nor refused is set; none where what is installed is what is wished less what was refused.
unfoldable pub next_change : Wishes → Option WishChange
next_change w =
    option_or (option_map clears (find (is_surplus (wished w.wanted)) w.installed))
    (option_map sets (find (is_missing w.installed w.refused) (wished w.wanted)))

-- its place, from 0: that of the request among those that are installed, or that of the wish among those that are
-- wished
unfoldable pub next_place : Wishes → Option ℕ
next_place w =
    option_or (position_from (is_surplus (wished w.wanted)) 0 w.installed)
    (position_from (is_missing w.installed w.refused) 0 (wished w.wanted))

-- What comes of it ----------------------------------------------------------------------------------------------------

-- a request takes its place in wish order
abbrev pub with_request : EventRequest → List EventRequest → List EventRequest
with_request r installed = insert_key (on (λ other. other.wish) wish_cmp) installed r

-- a wish is installed, under the id of its request
abbrev pub installed_as : ℕ → Wish → Wishes → Wishes
installed_as request wish w =
    record w { installed = with_request (record { wish = wish; request = request }) w.installed }

-- a wish was refused
abbrev pub refused_now : Wish → Wishes → Wishes
refused_now wish w = record w { refused = insert_key wish_cmp w.refused wish }

-- what came of a Set
abbrev pub set_by : Wish → Settled → Wishes → Wishes
set_by wish outcomes.Cleared w = w
set_by wish (outcomes.Installed request) w = installed_as request wish w
set_by wish (outcomes.Refused code) w = refused_now wish w

-- a request was cleared
abbrev pub is_cleared : Settled → Bool
is_cleared outcomes.Cleared = true
is_cleared (outcomes.Installed request) = false
is_cleared (outcomes.Refused code) = false

-- a wish is installed no longer
abbrev pub cleared : Wish → Wishes → Wishes
cleared wish w = record w { installed = filter (λ r. not (is_wish wish r.wish)) w.installed }

-- what came of a change is marked
abbrev pub settled_by : Option WishChange → Settled → Wishes → Wishes
settled_by None outcome w = w
settled_by (Some (clears r)) outcome w = if is_cleared outcome then cleared r.wish w else w
settled_by (Some (sets wish)) outcome w = set_by wish outcome w

-- what came of the next change is marked, where it is an outcome of that change
abbrev pub settled : Settled → Wishes → Wishes
settled outcome w = settled_by (next_change w) outcome w

-- an outcome is one of a change: `Cleared` that of a Clear, the others those of a Set
abbrev pub is_outcome : Option WishChange → Settled → Bool
is_outcome None outcome = false
is_outcome (Some (clears r)) outcome = is_cleared outcome
is_outcome (Some (sets wish)) outcome = not (is_cleared outcome)

-- Owners --------------------------------------------------------------------------------------------------------------

-- a request is of this kind and has this id
abbrev pub is_request : EventKind → ℕ → EventRequest → Bool
is_request kind request r = (byte_of_kind (kind_of_wish r.wish) == byte_of_kind kind) && (r.request == request)

-- the wish of an event: the first installed of this kind and with this request (JDWP, Event command set, Composite,
-- requestID)
abbrev pub owner_of : List EventRequest → EventKind → ℕ → Option Wish
owner_of installed kind request = option_map (λ r. r.wish) (find (is_request kind request) installed)
