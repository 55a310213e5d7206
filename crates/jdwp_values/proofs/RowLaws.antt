-- A row that is read was spelled, and a row that is spelled is read again; the same of lists.
use Rattle.std.proofs.Common.{◌≡◌, ℕ, zero, suc, true, List, [], ◌∷◌, ◌++◌, length, Result, Ok, Err, refl, sym, ap}
use Rattle.std.proofs.Common.{subst, ◌∙◌, append_assoc, arith}
use Rattle.std.specs.Int.{bytes_high_first}
use Rattle.std.specs.List.{flat_map, AllByRecursion}
use Rattle.std.proofs.lemmas.List.Concat.{flat_map-cons}
use Rattle.jdwp_values.specs.declared.fault.ReadTrouble.{ReadTrouble}
use Rattle.jdwp_values.specs.declared.fault.RowFault.{RowFault}
use Rattle.jdwp_values.specs.declared.fault.ValueFault.{ValueFault}
use Rattle.jdwp_values.specs.declared.limit.Limit.{Limit}
use Rattle.jdwp_values.specs.declared.sizes.IdSizes.{IdSizes}
use Rattle.jdwp_values.specs.Bytes.{IsBytes}
use Rattle.jdwp_values.specs.Counts.{allows}
use Rattle.jdwp_values.specs.Parts.{Part, count, Of}
use Rattle.jdwp_values.specs.Reading.{Place, behind, placed, part_at, read_part}
use Rattle.jdwp_values.specs.Rows.{Holds, From, made, spell_row, FitsRow, InRangeRow, ◌>>=◌, in_row, row_at, RowOf}
use Rattle.jdwp_values.specs.Rows.{read_by, spell_by, FitsBy, InRangeBy, times_at, list_at, spell_list, FitsList}
use Rattle.jdwp_values.specs.Spelling.{spell_part, FitsPart, InRangePart, Ends}
use Rattle.jdwp_values.proofs.PartLaws.{Takes, Takes-then, part_takes, part_again}

-- the value of a step that did not fail
pub bind_ok : {A B E : Type 0} (r : Result A E) (f : A → Result B E) (y : B) → (r >>= f) ≡ Ok y
    → (x : A) × (r ≡ Ok x) × (f x ≡ Ok y)
bind_ok (Ok x) f y e = (x, refl, e)
bind_ok (Err d) f y e = absurd cc

-- a step that did not fail
pub bind_is : {A B E : Type 0} (r : Result A E) (f : A → Result B E) (x : A) → r ≡ Ok x → (r >>= f) ≡ f x
bind_is r f x e = ap (λ q. q >>= f) e

abbrev done : {A E : Type 0} → A → Result A E
done x = Ok x

pub ok_is : {A E : Type 0} (x y : A) → done {E = E} x ≡ done y → x ≡ y
ok_is x y e = cc

pub in_row_ok : {A : Type 0} (r : Result A ReadTrouble) (x : A) → in_row r ≡ Ok x → r ≡ Ok x
in_row_ok {A} (Ok y) x e = ap (λ (z : A). Ok z) (ok_is {E = RowFault} y x e)
in_row_ok (Err d) x e = absurd cc

placed_ok : {A : Type 0} (place : Place) (r : Result (A × List ℕ) ValueFault) (x : A × Place) → placed place r ≡ Ok x
    → (y : A × List ℕ) × (r ≡ Ok y) × ((y.0 ≡ x.0) × (behind place y.1 ≡ x.1))
placed_ok {A} place (Ok y) x e =
    let here : A × Place = (y.0, behind place y.1) in
    let is : here ≡ x = ok_is {E = ReadTrouble} here x e in
    (y, refl, (ap (λ (z : A × Place). z.0) is, ap (λ (z : A × Place). z.1) is))
placed_ok place (Err d) x e = absurd cc

-- what was taken between two places
pub record TakesPlace (place : Place) (text : List ℕ) (new : Place) : Type 0 where
  pub rest : List ℕ
  pub new_is : new ≡ behind place rest
  pub takes : Takes place.rest text rest

pub TakesPlace-then : (a : Place) (x : List ℕ) (b : Place) (y : List ℕ) (c : Place) → TakesPlace a x b
    → TakesPlace b y c → TakesPlace a (x ++ y) c
TakesPlace-then a x b y c p q =
    let r : TakesPlace (behind a p.rest) y c = subst (λ (z : Place). TakesPlace z y c) p.new_is q in
    record { rest = r.rest; new_is = r.new_is; takes = Takes-then a.rest x p.rest y r.rest p.takes r.takes }

pub TakesPlace-none : (place : Place) → IsBytes place.rest → TakesPlace place [] place
TakesPlace-none place fits =
    record { rest = place.rest; new_is = refl; takes = record { parts = refl; rest_fits = fits } }

pub part_at_takes : (p : Part) (place : Place) (x : Of p × Place) → IsBytes place.rest → part_at p place ≡ Ok x
    → TakesPlace place (spell_part place.sizes p x.0) x.1 × FitsPart place.sizes p x.0
unfolding part_at
part_at_takes p place x fits e =
    let y = placed_ok place (read_part place.sizes p place.rest) x e in
    let t = part_takes place.sizes p place.rest y.0 fits y.1 in
    let here : TakesPlace place (spell_part place.sizes p y.0.0) x.1 =
    record { rest = y.0.1; new_is = sym y.2.1; takes = t.0 } in
    subst (λ (v : Of p). TakesPlace place (spell_part place.sizes p v) x.1 × FitsPart place.sizes p v) y.2.0 (here, t.1)

pub part_at_again : (p : Part) (place : Place) (x : Of p) (rest : List ℕ) → FitsPart place.sizes p x → InRangePart p x
    → Ends p rest → place.rest ≡ spell_part place.sizes p x ++ rest → part_at p place ≡ Ok (x, behind place rest)
unfolding part_at
part_at_again p place x rest fits range ends e =
    ap (placed place) (ap (read_part place.sizes p) e ∙ part_again place.sizes p x rest fits range ends)

-- ---- rows

pub record TakesRow (row : List Part) {A : Type 0} (make : From row A) (place : Place) (x : A × Place) : Type 0 where
  pub values : Holds row
  pub is : made row make values ≡ x.0
  pub takes : TakesPlace place (spell_row place.sizes row values) x.1
  pub fits : FitsRow place.sizes row values

pub row_takes : (row : List Part) {A : Type 0} (make : From row A) (place : Place) (x : A × Place) → IsBytes place.rest
    → row_at row make place ≡ Ok x → TakesRow row make place x
row_takes [] {A} make place x fits e =
    let here : A × Place = (make, place) in
    let is : here ≡ x = ok_is {E = RowFault} here x e in
    subst (λ (y : A × Place). TakesRow [] make place y) is
    (record { values = tt; is = refl; takes = TakesPlace-none place fits; fits = tt })
row_takes (p ∷ row) {A} make place x fits e =
    let b = bind_ok (in_row (part_at p place)) (λ y. row_at row (make y.0) y.1) x e in
    let t = part_at_takes p place b.0 fits (in_row_ok (part_at p place) b.0 b.1) in
    let next = behind place t.0.rest in
    let e' : row_at row (make b.0.0) next ≡ Ok x =
    subst (λ (z : Place). row_at row (make b.0.0) z ≡ Ok x) t.0.new_is b.2 in
    let others = row_takes row (make b.0.0) next x t.0.takes.rest_fits e' in
    let first : TakesPlace place (spell_part place.sizes p b.0.0) next =
    record { rest = t.0.rest; new_is = refl; takes = t.0.takes } in
    record {
      values = (b.0.0, others.values);
      is = others.is;
      takes =
          TakesPlace-then place (spell_part place.sizes p b.0.0) next (spell_row place.sizes row others.values) x.1
          first others.takes;
      fits = (t.1, others.fits);
    }

-- only a last part takes what is left
abbrev pub EndsRow : IdSizes → (row : List Part) → Holds row → List ℕ → Type 0
EndsRow sizes [] values rest = Unit {0}
EndsRow sizes (p ∷ row) values rest = Ends p (spell_row sizes row values.1 ++ rest) × EndsRow sizes row values.1 rest

pub row_again : (row : List Part) {A : Type 0} (make : From row A) (place : Place) (values : Holds row) (rest : List ℕ)
    → FitsRow place.sizes row values → InRangeRow row values → EndsRow place.sizes row values rest
    → place.rest ≡ spell_row place.sizes row values ++ rest
    → row_at row make place ≡ Ok (made row make values, behind place rest)
row_again [] {A} make place values rest fits range ends e = ap (λ (r : List ℕ). Ok (make, behind place r)) e
row_again (p ∷ row) {A} make place values rest fits range ends e =
    let more = spell_row place.sizes row values.1 ++ rest in
    let next = behind place more in
    let one = part_at_again p place values.0 more fits.0 range.0 ends.0
    (e ∙ append_assoc (spell_part place.sizes p values.0) (spell_row place.sizes row values.1) rest) in
    bind_is (in_row (part_at p place)) (λ y. row_at row (make y.0) y.1) (values.0, next) (ap in_row one)
    ∙ row_again row (make values.0) next values.1 rest fits.1 range.1 ends.1 refl

-- ---- what is read and spelled in one way

pub record IsFormat {A : Type 0} (read : Place → Result (A × Place) RowFault) (spell : IdSizes → A → List ℕ)
    (Fits : IdSizes → A → Type 0) (InRange : A → Type 0) : Type 0 where
  pub takes : (place : Place) (x : A × Place) → IsBytes place.rest → read place ≡ Ok x
      → TakesPlace place (spell place.sizes x.0) x.1 × Fits place.sizes x.0
  pub again : (place : Place) (x : A) (rest : List ℕ) → Fits place.sizes x → InRange x
      → place.rest ≡ spell place.sizes x ++ rest → read place ≡ Ok (x, behind place rest)

-- a row that makes something which holds just its values
pub row_format : (row : List Part) {A : Type 0} (make : From row A) (values : A → Holds row)
    → ((x : A) → made row make (values x) ≡ x) → ((v : Holds row) → values (made row make v) ≡ v)
    → ((sizes : IdSizes) (v : Holds row) (rest : List ℕ) → EndsRow sizes row v rest)
    → IsFormat (row_at row make) (λ sizes x. spell_row sizes row (values x)) (λ sizes x. FitsRow sizes row (values x))
    (λ x. InRangeRow row (values x))
row_format row {A} make values same back ends = record {
  takes = λ place x fits e.
      let t = row_takes row make place x fits e in
      let held : t.values ≡ values x.0 = sym (back t.values) ∙ ap values t.is in
      subst (λ (v : Holds row). TakesPlace place (spell_row place.sizes row v) x.1 × FitsRow place.sizes row v) held
      (t.takes, t.fits);
  again = λ place x rest fits range e.
      row_again row make place (values x) rest fits range (ends place.sizes (values x) rest) e ∙ ap
      (λ (y : A). Ok (y, behind place rest)) (same x);
}

abbrev pub IsFormatBy : {A : Type 0} → RowOf A → Type 0
IsFormatBy row = IsFormat (read_by row) (spell_by row) (FitsBy row) (InRangeBy row)

pub format_by : {A : Type 0} (row : RowOf A) → ((x : A) → made row.parts row.make (row.values x) ≡ x)
    → ((v : Holds row.parts) → row.values (made row.parts row.make v) ≡ v)
    → ((sizes : IdSizes) (v : Holds row.parts) (rest : List ℕ) → EndsRow sizes row.parts v rest) → IsFormatBy row
format_by row same back ends = row_format row.parts row.make row.values same back ends

-- ---- lists

module _ {A : Type 0} (read : Place → Result (A × Place) RowFault) (spell : IdSizes → A → List ℕ)
    (Fits : IdSizes → A → Type 0) (InRange : A → Type 0) (format : IsFormat read spell Fits InRange) where
  times_take : (n : ℕ) (place : Place) (x : List A × Place) → IsBytes place.rest → times_at n read place ≡ Ok x
      → TakesPlace place (flat_map (spell place.sizes) x.0) x.1 × (length x.0 ≡ n)
      × AllByRecursion (Fits place.sizes) x.0
  unfolding times_at
  times_take zero place x fits e =
      let here : List A × Place = ([], place) in
      subst (λ (y : List A × Place). TakesPlace place (flat_map (spell place.sizes) y.0) y.1 × (length y.0 ≡ 0)
      × AllByRecursion (Fits place.sizes) y.0) (ok_is {E = RowFault} here x e)
      (TakesPlace-none place fits, refl, tt)
  times_take (suc n) place x fits e =
      let a =
      bind_ok (read place) (λ first. times_at n read first.1 >>= λ others. Ok (first.0 ∷ others.0, others.1)) x e in
      let t = format.takes place a.0 fits a.1 in
      let next = behind place t.0.rest in
      let b = bind_ok (times_at n read a.0.1) (λ others. Ok (a.0.0 ∷ others.0, others.1)) x a.2 in
      let e' : times_at n read next ≡ Ok b.0 = subst (λ (z : Place). times_at n read z ≡ Ok b.0) t.0.new_is b.1 in
      let others = times_take n next b.0 t.0.takes.rest_fits e' in
      let first : TakesPlace place (spell place.sizes a.0.0) next =
      record { rest = t.0.rest; new_is = refl; takes = t.0.takes } in
      let whole =
      TakesPlace-then place (spell place.sizes a.0.0) next (flat_map (spell place.sizes) b.0.0) b.0.1 first
      others.0 in
      let here : List A × Place = (a.0.0 ∷ b.0.0, b.0.1) in
      subst (λ (y : List A × Place). TakesPlace place (flat_map (spell place.sizes) y.0) y.1 × (length y.0 ≡ suc n)
      × AllByRecursion (Fits place.sizes) y.0) (ok_is {E = RowFault} here x b.2)
      (rw flat_map-cons whole, ap suc others.1, (t.1, others.2))

  times_again : (xs : List A) (place : Place) (rest : List ℕ) → AllByRecursion (Fits place.sizes) xs
      → AllByRecursion InRange xs → place.rest ≡ flat_map (spell place.sizes) xs ++ rest
      → times_at (length xs) read place ≡ Ok (xs, behind place rest)
  unfolding times_at
  times_again [] place rest fits range e = ap (λ (r : List ℕ). Ok ([], behind place r)) e
  times_again (x ∷ xs) place rest fits range e =
      let more = flat_map (spell place.sizes) xs ++ rest in
      let next = behind place more in
      let regrouped : flat_map (spell place.sizes) (x ∷ xs) ++ rest ≡ spell place.sizes x ++ more = ap
      (λ (t : List ℕ). t ++ rest) (flat_map-cons (spell place.sizes) x xs) ∙ append_assoc (spell place.sizes x)
      (flat_map (spell place.sizes) xs) rest in
      let one = format.again place x more fits.0 range.0 (e ∙ regrouped) in
      bind_is (read place) (λ first. times_at (length xs) read first.1 >>= λ others. Ok (first.0 ∷ others.0, others.1))
      (x, next) one
      ∙ bind_is (times_at (length xs) read next) (λ others. Ok (x ∷ others.0, others.1)) (xs, behind place rest)
      (times_again xs next rest fits.1 range.1 refl)

  pub list_format : (limit : Limit)
      → IsFormat (list_at limit read) (λ sizes xs. spell_list (spell sizes) xs)
      (λ sizes xs. FitsList (Fits sizes) xs × (allows limit (length xs) ≡ true)) (λ xs. AllByRecursion InRange xs)
  unfolding list_at
  list_format limit = record {
    takes = λ place x fits e.
        let a = bind_ok (in_row (part_at (count limit) place)) (λ n. times_at n.0 read n.1) x e in
        let t = part_at_takes (count limit) place a.0 fits (in_row_ok (part_at (count limit) place) a.0 a.1) in
        let next = behind place t.0.rest in
        let e' : times_at a.0.0 read next ≡ Ok x = subst (λ (z : Place). times_at a.0.0 read z ≡ Ok x) t.0.new_is a.2 in
        let items = times_take a.0.0 next x t.0.takes.rest_fits e' in
        let first : TakesPlace place (bytes_high_first 4 (length x.0)) next = rw items.1
        (record { rest = t.0.rest; new_is = refl; takes = t.0.takes }) in (
          TakesPlace-then place (bytes_high_first 4 (length x.0)) next (flat_map (spell place.sizes) x.0) x.1 first
              items.0,
          (record { count = omega (arith, items.1, t.1.0); each = items.2 }, rw items.1 t.1.1),
        );
    again = λ place xs rest fits range e.
        let more = flat_map (spell place.sizes) xs ++ rest in
        let next = behind place more in
        let one = part_at_again (count limit) place (length xs) more (fits.0.count, fits.1) tt tt
        (e ∙ append_assoc (bytes_high_first 4 (length xs)) (flat_map (spell place.sizes) xs) rest) in
        bind_is (in_row (part_at (count limit) place)) (λ n. times_at n.0 read n.1) (length xs, next) (ap in_row one)
        ∙ times_again xs next rest fits.0.each range refl;
  }
