-- What was made of a row says the row's values, so that it is spelled as the row is.
use Rattle.std.proofs.Common.{◌≡◌, ℕ, List, [], ◌∷◌, ◌++◌, Ok, refl, sym, ap, subst, ◌∙◌}
use Rattle.jdwp_values.specs.declared.sizes.IdSizes.{IdSizes}
use Rattle.jdwp_values.specs.Bytes.{IsBytes}
use Rattle.jdwp_values.specs.Parts.{Part}
use Rattle.jdwp_values.specs.Reading.{Place}
use Rattle.jdwp_values.specs.Rows.{Holds, From, made, spell_row, FitsRow, row_at, Said, said, spell_told, FitsTold}
use Rattle.jdwp_values.specs.Spelling.{spell_part}
use Rattle.jdwp_values.proofs.RowLaws.{TakesPlace, row_takes}

-- a row's values as parts with their values
abbrev pub said_of : (row : List Part) → Holds row → List Said
said_of [] values = []
said_of (p ∷ row) values = said p values.0 ∷ said_of row values.1

spell_said_of : (sizes : IdSizes) (row : List Part) (values : Holds row)
    → spell_told sizes (said_of row values) ≡ spell_row sizes row values
spell_said_of sizes [] values = refl
spell_said_of sizes (p ∷ row) values =
    ap (λ (t : List ℕ). spell_part sizes p values.0 ++ t) (spell_said_of sizes row values.1)

fits_said_of : (sizes : IdSizes) (row : List Part) (values : Holds row) → FitsRow sizes row values
    → FitsTold sizes (said_of row values)
fits_said_of sizes [] values fits = tt
fits_said_of sizes (p ∷ row) values fits = (fits.0, fits_said_of sizes row values.1 fits.1)

-- what was taken says this
pub record TakesTold (place : Place) (told : List Said) (new : Place) : Type 0 where
  pub takes : TakesPlace place (spell_told place.sizes told) new
  pub fits : FitsTold place.sizes told

pub told_takes : {A : Type 0} (told : A → List Said) (row : List Part) (make : From row A)
    → ((values : Holds row) → told (made row make values) ≡ said_of row values)
    → (place : Place) (x : A × Place) → IsBytes place.rest → row_at row make place ≡ Ok x
    → TakesTold place (told x.0) x.1
told_takes {A} told row make same place x fits e =
    let t = row_takes row make place x fits e in
    let says : said_of row t.values ≡ told x.0 = sym (same t.values) ∙ ap told t.is in
    let here : TakesTold place (said_of row t.values) x.1 =
    record { takes = rw spell_said_of t.takes; fits = fits_said_of place.sizes row t.values t.fits } in
    subst (λ (s : List Said). TakesTold place s x.1) says here

-- what holds of all that a row makes holds of what was read
pub of_made : {A : Type 0} (P : A → Type 0) (row : List Part) (make : From row A)
    → ((values : Holds row) → P (made row make values)) → (place : Place) (x : A × Place) → IsBytes place.rest
    → row_at row make place ≡ Ok x → P x.0
of_made {A} P row make holds place x fits e = let t = row_takes row make place x fits e in subst P t.is (holds t.values)
