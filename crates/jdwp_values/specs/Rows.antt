-- A row of a table is a list of parts. Its spelling is its parts' spellings one after the other, and it is read part by
-- part from left to right, so that its fault is that of the first part that can't be read.
--
-- For each kind of thing: `x_at` reads it, `spell_x` is its bytes, `FitsX` says that it has a spelling, and `InRangeX`
-- that its numbers are of their types.
use Rattle.std.specs.Prelude.{◌≡◌, ℕ, zero, suc, ◌<◌, ◌^◌, List, [], ◌∷◌, ◌++◌, length, Result, Ok, Err}
use Rattle.std.specs.List.{flat_map, AllByRecursion}
use Rattle.std.specs.Int.{bytes_high_first}
use Rattle.jdwp_values.specs.declared.fault.ReadTrouble.{ReadTrouble}
use Rattle.jdwp_values.specs.declared.fault.RowFault.{RowFault}
use Rattle.jdwp_values.specs.declared.fault.RowFault.TheVariants as faults
use Rattle.jdwp_values.specs.declared.limit.Limit.{Limit}
use Rattle.jdwp_values.specs.declared.sizes.IdSizes.{IdSizes}
use Rattle.jdwp_values.specs.Parts.{Part, count, Of}
use Rattle.jdwp_values.specs.Reading.{Place, part_at}
use Rattle.jdwp_values.specs.Spelling.{spell_part, FitsPart, InRangePart}

-- the values of a row's parts
abbrev pub Holds : List Part → Type 0
Holds [] = Unit {0}
Holds (p ∷ row) = Of p × Holds row

-- what makes something of a row's values, one argument for each
abbrev pub From : List Part → Type 0 → Type 0
From [] A = A
From (p ∷ row) A = Of p → From row A

-- what is made of these values
abbrev pub made : (row : List Part) {A : Type 0} → From row A → Holds row → A
made [] make values = make
made (p ∷ row) make values = made row (make values.0) values.1

-- the spellings of the parts, one after the other
abbrev pub spell_row : IdSizes → (row : List Part) → Holds row → List ℕ
spell_row sizes [] values = []
spell_row sizes (p ∷ row) values = spell_part sizes p values.0 ++ spell_row sizes row values.1

-- each part has a spelling
abbrev pub FitsRow : IdSizes → (row : List Part) → Holds row → Type 0
FitsRow sizes [] values = Unit {0}
FitsRow sizes (p ∷ row) values = FitsPart sizes p values.0 × FitsRow sizes row values.1

-- each part's numbers are of their types
abbrev pub InRangeRow : (row : List Part) → Holds row → Type 0
InRangeRow [] values = Unit {0}
InRangeRow (p ∷ row) values = InRangePart p values.0 × InRangeRow row values.1

-- what was read is handed on, and a fault stays
infixl 10 ◌>>=◌
abbrev pub ◌>>=◌ : {A B E : Type 0} → Result A E → (A → Result B E) → Result B E
(Ok x) >>= f = f x
(Err e) >>= f = Err e

-- a part of a row
abbrev pub in_row : {A : Type 0} → Result A ReadTrouble → Result A RowFault
in_row (Ok x) = Ok x
in_row (Err trouble) = Err (faults.Part trouble)

-- the parts from left to right, and what is made of their values
abbrev pub row_at : (row : List Part) {A : Type 0} → From row A → Place → Result (A × Place) RowFault
row_at [] make place = Ok (make, place)
row_at (p ∷ row) make place = in_row (part_at p place) >>= λ x. row_at row (make x.0) x.1

-- What one kind of thing is told by: a row of parts, what is made of their values, and the values that it has.
pub record RowOf (A : Type 0) : Type 0 where
  pub parts : List Part
  pub make : From parts A
  pub values : A → Holds parts

-- how one kind of thing is read and spelled, and what has a spelling and is in range, by the row that it is told by
abbrev pub read_by : {A : Type 0} → RowOf A → Place → Result (A × Place) RowFault
read_by row place = row_at row.parts row.make place

abbrev pub spell_by : {A : Type 0} → RowOf A → IdSizes → A → List ℕ
spell_by row sizes x = spell_row sizes row.parts (row.values x)

abbrev pub FitsBy : {A : Type 0} → RowOf A → IdSizes → A → Type 0
FitsBy row sizes x = FitsRow sizes row.parts (row.values x)

abbrev pub InRangeBy : {A : Type 0} → RowOf A → A → Type 0
InRangeBy row x = InRangeRow row.parts (row.values x)

-- so many of what a row's reading reads
unfoldable pub times_at : {A : Type 0} → ℕ → (Place → Result (A × Place) RowFault) → Place
    → Result (List A × Place) RowFault
times_at zero read place = Ok ([], place)
times_at (suc n) read place =
    read place >>= λ first. times_at n read first.1 >>= λ others. Ok (first.0 ∷ others.0, others.1)

-- a list: how many, and so many rows
unfoldable pub list_at : {A : Type 0} → Limit → (Place → Result (A × Place) RowFault) → Place
    → Result (List A × Place) RowFault
list_at limit read place = in_row (part_at (count limit) place) >>= λ n. times_at n.0 read n.1

-- how many there are, and the spelling of each
abbrev pub spell_list : {A : Type 0} → (A → List ℕ) → List A → List ℕ
spell_list spell items = bytes_high_first 4 (length items) ++ flat_map spell items

-- there are few enough for a count, and each has a spelling
pub record FitsList {A : Type 0} (Fits : A → Type 0) (items : List A) : Type 0 where
  pub count : length items < 2 ^ 31
  pub each : AllByRecursion Fits items

-- What a function that reads a row answers, seen by view, and where it leaves the reader. Memory may run out, which is
-- the one free answer; after a fault the reader's place says nothing.
abbrev pub Tells : {X Y : Type 0} → (X → Y) → Result (Y × Place) RowFault → Place → Result X RowFault → Type 0
Tells view read new (Ok x) = read ≡ Ok (view x, new)
Tells view read new (Err faults.NoMemory) = Unit {0}
Tells view read new (Err (faults.Part trouble)) = read ≡ Err (faults.Part trouble)
Tells view read new (Err (faults.BadKind at)) = read ≡ Err (faults.BadKind at)

-- a part with its value, as something that was made of a row says it
pub data Said : Type 0 where
  said : (p : Part) → Of p → Said

-- the spelling of a part that is said
abbrev pub spell_said : IdSizes → Said → List ℕ
spell_said sizes (said p x) = spell_part sizes p x

-- the spellings of all that is told, one after the other
abbrev pub spell_told : IdSizes → List Said → List ℕ
spell_told sizes [] = []
spell_told sizes (s ∷ told) = spell_said sizes s ++ spell_told sizes told

-- a part that is said, and each that is told, has a spelling
abbrev pub FitsSaid : IdSizes → Said → Type 0
FitsSaid sizes (said p x) = FitsPart sizes p x

abbrev pub FitsTold : IdSizes → List Said → Type 0
FitsTold sizes [] = Unit {0}
FitsTold sizes (s ∷ told) = FitsSaid sizes s × FitsTold sizes told

-- a part that is said, and each that is told, has numbers of their types
abbrev pub InRangeSaid : Said → Type 0
InRangeSaid (said p x) = InRangePart p x

abbrev pub InRangeTold : List Said → Type 0
InRangeTold [] = Unit {0}
InRangeTold (s ∷ told) = InRangeSaid s × InRangeTold told
