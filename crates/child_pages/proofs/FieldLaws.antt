-- The fields of classes, one by one.
use Rattle.std.proofs.Common.{◌≡◌, ℕ, List, [], ◌∷◌, ◌++◌, Bool, true, false, cond, not, refl}
use Rattle.jdwp_values.specs.declared.class.Field.{Field}
use Rattle.machine_model.specs.Children.{is_static, names_met, of_fields, own_fields}

-- a field, and then the others
pub fields_step : (class : ℕ) (met : List (List ℕ)) (f : Field) (others : List Field)
    → of_fields class met (own_fields (f ∷ others))
    ≡ of_fields class met (own_fields (f ∷ [])) ++ of_fields class (names_met met (own_fields (f ∷ [])))
    (own_fields others)
fields_step class met f others = by_kind (not (is_static f.bits))
  where
    by_kind : (own : Bool)
        → of_fields class met (cond own (f ∷ own_fields others) (own_fields others))
        ≡ of_fields class met (cond own (f ∷ []) [])
        ++ of_fields class (names_met met (cond own (f ∷ []) [])) (own_fields others)
    by_kind true = refl
    by_kind false = refl

pub names_step : (met : List (List ℕ)) (f : Field) (others : List Field)
    → names_met met (own_fields (f ∷ others)) ≡ names_met (names_met met (own_fields (f ∷ []))) (own_fields others)
names_step met f others = by_kind (not (is_static f.bits))
  where
    by_kind : (own : Bool)
        → names_met met (cond own (f ∷ own_fields others) (own_fields others))
        ≡ names_met (names_met met (cond own (f ∷ []) [])) (own_fields others)
    by_kind true = refl
    by_kind false = refl
