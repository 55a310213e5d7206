-- What wires tell over which a book is kept, and how the book is tied to the wires inside.
use Rattle.std.specs.Prelude.{ℕ, ◌≡◌, ◌+◌, ◌≤◌, min, Bool, true, false, ◌&&◌, List, [], ◌∷◌, ◌++◌, Some}
use Rattle.wire_core.specs.Outside.{Adds, Counts, Link, Outside, last_count}
use Rattle.wire_core.specs.declared.outside.Entry.{Entry}
use Rattle.wire_core.specs.declared.outside.Entry.TheVariants.{In, Out, Shut, Failed, Quiet}
use Rattle.wire_core.specs.declared.outside.Side.{Side}
use Rattle.session_recorder.specs.Books.{entries_in, is_refused}
use Rattle.session_recorder.specs.States.{opens, fits, faults_with}
use Rattle.session_recorder.specs.declared.book.Book.{Book}
use Rattle.session_recorder.specs.declared.side_state.SideState.{SideState}

-- Entries of wires, and what is kept of them: the same in the same order, but that the part that went out of a send which
-- failed is left out.
pub data IsKept : List Entry → List Entry → Type 0 where
  none : IsKept [] []
  same : {told kept : List Entry} (entry : Entry) → IsKept told kept → IsKept (entry ∷ told) (entry ∷ kept)
  broken : {told kept : List Entry} (side : Side) (part : List ℕ) → IsKept told kept
      → IsKept (Out side part ∷ Failed side ∷ told) (Failed side ∷ kept)

-- entries but for what went out
abbrev pub unsent : List Entry → List Entry
unsent [] = []
unsent (In side bytes ∷ entries) = In side bytes ∷ unsent entries
unsent (Out side bytes ∷ entries) = unsent entries
unsent (Shut side ∷ entries) = Shut side ∷ unsent entries
unsent (Failed side ∷ entries) = Failed side ∷ unsent entries
unsent (Quiet ∷ entries) = Quiet ∷ unsent entries

-- whether a link failed
abbrev pub has_failure : List Entry → Bool
has_failure [] = false
has_failure (In side bytes ∷ entries) = has_failure entries
has_failure (Out side bytes ∷ entries) = has_failure entries
has_failure (Shut side ∷ entries) = has_failure entries
has_failure (Failed side ∷ entries) = true
has_failure (Quiet ∷ entries) = has_failure entries

-- both links are as the book takes them for
abbrev pub agrees : Outside → Book → Bool
agrees o b = fits b.client o.client && fits b.target o.target

-- a side's link as the recorder tells it: open where the book takes it for that, and rightly
abbrev pub link_over : Bool → SideState → Link → Link
link_over right state l =
    record { faults = faults_with state l.faults; empties = l.empties; is_open = right && opens state }

-- what the recorder tells of itself: the log that it kept, and what the wires inside tell beside theirs, with what memory
-- was refused for
abbrev pub outside_over : Outside → Book → Outside
outside_over o b =
    record {
      log = Some (entries_in b);
      waits = o.waits;
      client = link_over (agrees o b) b.client o.client;
      target = link_over (agrees o b) b.target o.target;
      open_faults = min last_count (o.open_faults + b.open_refusals);
      asked = o.asked;
    }

-- No name was asked for, and the links are as the book takes them for, if they were; or the names were asked for.
pub data Follows (old : Outside) (book : Book) (new : Outside) (book' : Book) : Type 0 where
  goes_on : new.asked ≡ old.asked → (agrees old book ≡ true → agrees new book' ≡ true) → Follows old book new book'
  asks : old.asked ≡ [] → ¬ (new.asked ≡ []) → Follows old book new book'

-- What the wires inside logged, where they tell a log, is what the book kept, but for the parts of sends that failed,
-- unless memory was refused; a refusal stays.
pub record IsTied (old : Outside) (book : Book) (new : Outside) (book' : Book) : Type 0 where
  pub before : is_refused book' ≡ false → is_refused book ≡ false
  pub counts : Counts old new
  pub follows : Follows old book new book'
  pub added : List Entry
  pub kept : List Entry
  pub inside : Adds old new added
  pub own : is_refused book' ≡ false → entries_in book' ≡ entries_in book ++ kept
  pub is_kept : is_refused book' ≡ false → IsKept added kept
