-- What a recorder keeps, and what its calls make of that.
use Rattle.std.specs.Prelude.{ℕ, ◌≡◌, ◌+◌, ◌≤◌, ◌⊎◌, Bool, true, ◌||◌, if◌then◌else◌, List, [], ◌∷◌, ◌++◌}
use Rattle.std.specs.Prelude.{Result, IsErr}
use Rattle.wire_core.specs.Outside.{entry_of, other_side, raised}
use Rattle.wire_core.specs.declared.outside.Entry.{Entry}
use Rattle.wire_core.specs.declared.outside.Entry.TheVariants.{Failed}
use Rattle.wire_core.specs.declared.outside.Happening.{Happening}
use Rattle.wire_core.specs.declared.outside.Happening.TheVariants.{Bytes, Shut as ends, Failed as fails, Quiet as nothing}
use Rattle.wire_core.specs.declared.outside.OpenFailed.{OpenFailed}
use Rattle.wire_core.specs.declared.outside.Side.{Side}
use Rattle.wire_core.specs.declared.outside.Side.TheVariants.{Client, Target}
use Rattle.session_recorder.specs.States.{opens, is_lost, room_for, closed, state_after}
use Rattle.session_recorder.specs.declared.book.Book.{Book}
use Rattle.session_recorder.specs.declared.side_state.SideState.{SideState}
use Rattle.session_recorder.specs.declared.side_state.SideState.TheVariants.{Open, Lost}

-- the entries that were kept
abbrev pub entries_in : Book → List Entry
entries_in b = b.log.entries

-- what a side is taken for
abbrev pub state_in : Side → Book → SideState
state_in Client b = b.client
state_in Target b = b.target

-- whether memory was refused for what had to be logged
abbrev pub is_refused : Book → Bool
is_refused b = is_lost b.client || is_lost b.target

-- how many failures have to be logged where memory is refused
abbrev pub rooms_in : Book → ℕ
rooms_in b = room_for b.client + room_for b.target

-- a book in which nothing is kept yet: both sides are taken for open
pub record IsNew (b : Book) : Type 0 where
  pub entries : entries_in b ≡ []
  pub client : b.client ≡ Open
  pub target : b.target ≡ Open
  pub open_refusals : b.open_refusals ≡ 0

-- nothing changed but how much room there is
pub record Same (old new : Book) : Type 0 where
  pub entries : entries_in new ≡ entries_in old
  pub client : new.client ≡ old.client
  pub target : new.target ≡ old.target
  pub open_refusals : new.open_refusals ≡ old.open_refusals

-- an entry more
pub record Adds (old new : Book) (entry : Entry) : Type 0 where
  pub entries : entries_in new ≡ entries_in old ++ entry ∷ []
  pub client : new.client ≡ old.client
  pub target : new.target ≡ old.target
  pub open_refusals : new.open_refusals ≡ old.open_refusals

-- a side's failure more, and it is taken for this from now on
pub record Fails (side : Side) (old new : Book) (state : SideState) : Type 0 where
  pub entries : entries_in new ≡ entries_in old ++ Failed side ∷ []
  pub side_is : state_in side new ≡ state
  pub other_is : state_in (other_side side) new ≡ state_in (other_side side) old
  pub open_refusals : new.open_refusals ≡ old.open_refusals

-- what came is logged, and a side that ended or failed is closed
pub record Takes (old new : Book) (buffer : List ℕ) (happening : Happening) : Type 0 where
  pub entries : entries_in new ≡ entries_in old ++ entry_of buffer happening ∷ []
  pub client : new.client ≡ state_after Client happening old.client
  pub target : new.target ≡ state_after Target happening old.target
  pub open_refusals : new.open_refusals ≡ old.open_refusals

-- what came is of a side that is taken for open, or it was a wait in vain
abbrev pub is_heard : Happening → Book → Bool
is_heard (Bytes side n) b = opens (state_in side b)
is_heard (ends side) b = opens (state_in side b)
is_heard (fails side) b = opens (state_in side b)
is_heard nothing b = true

-- the side that a happening names, and the client where it names none
abbrev pub named : Happening → Side
named (Bytes side n) = side
named (ends side) = side
named (fails side) = side
named nothing = Client

-- the side that fails where there is no memory for what came: the one that it names, or the client, where that is open,
-- else the other
abbrev pub blamed : Happening → Book → Side
blamed happening b =
    if opens (state_in (named happening) b) then named happening else other_side (named happening)

-- what came is logged and answered
pub record Hands (old new : Book) (buffer : List ℕ) (happening result : Happening) : Type 0 where
  pub heard : is_heard happening old ≡ true
  pub takes : Takes old new buffer happening
  pub answer : result ≡ happening

-- there was no memory for what came: a side's failure is logged and answered
pub record Refuses (old new : Book) (happening result : Happening) : Type 0 where
  pub loses : Fails (blamed happening old) old new Lost
  pub answer : result ≡ fails (blamed happening old)

abbrev pub HearsBy : Book → Book → List ℕ → Happening → Happening → Type 0
HearsBy old new buffer happening result = Hands old new buffer happening result ⊎ Refuses old new happening result

-- both sides opened, or the target's alone
pub record Opens (old new : Book) (client : SideState) : Type 0 where
  pub entries : entries_in new ≡ entries_in old
  pub client_is : new.client ≡ client
  pub target_is : new.target ≡ Open
  pub open_refusals : new.open_refusals ≡ old.open_refusals

-- No link opened: it was not opened, or a side was lost before, and that is counted.
pub record DoesNotOpen (old new : Book) (opened : Result Unit OpenFailed) : Type 0 where
  pub entries : entries_in new ≡ entries_in old
  pub client : new.client ≡ closed old.client
  pub target : new.target ≡ closed old.target
  pub open_refusals : new.open_refusals ≡ (if is_refused old then raised old.open_refusals else old.open_refusals)
  pub cause : IsErr opened ⊎ (is_refused old ≡ true)

-- there is room for an entry beside that for the failures
abbrev pub HasSpare : Book → Type 0
HasSpare b = rooms_in b + 1 ≤ b.log.room
