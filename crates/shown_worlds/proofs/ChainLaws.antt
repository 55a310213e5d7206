-- A class, and those above it.
use Rattle.std.proofs.Common.{◌≡◌, ◌<◌, ◌≤◌, ◌∷◌, ◌++◌, ℕ, zero, suc, Bool, true, false, List, [], map, refl, sym, ap}
use Rattle.std.proofs.Common.{subst, ◌∙◌, append-nil, append_assoc, arith, length, ◌||◌}
use Rattle.std.specs.Prelude.{if◌then◌else◌, ok_or, Option, Some, None, option_and_then, option_map, ◌==◌, is_some}
use Rattle.std.specs.Prelude.{Result, Ok, Err}
use Rattle.std.specs.List.{AllByRecursion, list_any}
use Rattle.std.specs.Option.{option_map_or}
use Rattle.std.specs.Result.{result_unwrap_or}
use Rattle.std.proofs.lemmas.Bool.{eqb-true}
use Rattle.jdwp_commands.specs.declared.answer.Answer.TheVariants as answers
use Rattle.jdwp_values.specs.declared.class.Field.{Field}
use Rattle.jdwp_values.specs.declared.id.ClassId.{ClassId}
use Rattle.machine_model.specs.Children.{above_plan, chain, fields_plan}
use Rattle.machine_model.specs.Facts.{above_in, fields_in}
use Rattle.machine_model.specs.Plans.{answer_in, chained, gives, of_world}
use Rattle.shown_worlds.specs.FieldRows.{upwards, with_above}
use Rattle.shown_worlds.proofs.PlanLemmas.{said_chained}
use Rattle.shown_worlds.proofs.RowLemmas.{found_all, found_passes}
use Rattle.shown_worlds.proofs.ValueLaws.{not_null}
use Rattle.world_model.specs.Classes as rows
use Rattle.world_model.specs.Classes.{class_in, fields_of}
use Rattle.world_model.specs.Codes.{invalid_class, told}
use Rattle.world_model.specs.Replies.{living_reply}
use Rattle.world_model.specs.Sound.{IsSound, ends}
use Rattle.world_model.specs.declared.rows.WorldClass.{WorldClass}
use Rattle.world_model.specs.declared.world.World.{World}

abbrev pub class_id : ℕ → ClassId
class_id n = record { 0 = n }

-- Facts of a class that is there --------------------------------------------------------------------------------------

fields_heard : (r : Result (List Field) ℕ) → fields_in (answer_in (told answers.Fields r)) ≡ result_unwrap_or r []
fields_heard (Ok found) = refl
fields_heard (Err code) = refl

-- the fields that are heard of a class
abbrev pub heard_fields : World → ℕ → List Field
heard_fields w class = result_unwrap_or (rows.fields_in w (class_id class)) []

pub fields_there : (w : World) (class : ℕ)
    → of_world (living_reply w) (fields_plan class) ≡ Some (heard_fields w class)
unfolding of_world
fields_there w class = ap Some (fields_heard (rows.fields_in w (class_id class)))

pub fields_known : (w : World) (class : ℕ) (row : WorldClass) → class_in w (class_id (suc class)) ≡ Some row
    → heard_fields w (suc class) ≡ fields_of w (class_id (suc class))
fields_known w class row is =
    ap (λ b. result_unwrap_or (if b then Ok [] else if rows.has_class w (class_id (suc class))
    then Ok (fields_of w (class_id (suc class))) else Err invalid_class) []) (not_null class)
    ∙ ap (λ (o : Option WorldClass). result_unwrap_or (if is_some o
    then Ok (fields_of w (class_id (suc class))) else Err invalid_class) []) is

pub no_fields : (w : World) (class : ℕ) → class_in w (class_id (suc class)) ≡ None → heard_fields w (suc class) ≡ []
no_fields w class is =
    ap (λ b. result_unwrap_or (if b then Ok [] else if rows.has_class w (class_id (suc class))
    then Ok (fields_of w (class_id (suc class))) else Err invalid_class) []) (not_null class)
    ∙ ap (λ (o : Option WorldClass). result_unwrap_or (if is_some o
    then Ok (fields_of w (class_id (suc class))) else Err invalid_class) []) is

above_heard : (r : Result ClassId ℕ) → above_in (answer_in (told answers.Superclass r))
    ≡ result_unwrap_or r (class_id 0)
above_heard (Ok found) = refl
above_heard (Err code) = refl

pub above_there : (w : World) (class : ℕ) (found : Option WorldClass) → class_in w (class_id (suc class)) ≡ found
    → of_world (living_reply w) (above_plan (suc class))
    ≡ Some (result_unwrap_or (ok_or (option_map (λ (row : WorldClass). row.above) found) invalid_class) (class_id 0))
unfolding of_world
above_there w class found is =
    ap Some (above_heard (rows.above_in w (class_id (suc class))))
    ∙ ap (λ b. Some (result_unwrap_or (if b then Ok (class_id (suc class))
    else ok_or {E = ℕ} (option_map (λ (row : WorldClass). row.above) (class_in w (class_id (suc class)))) invalid_class)
    (class_id 0))) (not_null class)
    ∙ ap (λ (o : Option WorldClass). Some (result_unwrap_or (ok_or {E = ℕ}
    (option_map (λ (row : WorldClass). row.above) o) invalid_class) (class_id 0))) is

-- How high a class stands ---------------------------------------------------------------------------------------------

-- so many classes stand above null, this one too
abbrev pub IsHigh : World → ℕ → ℕ → Type 0
IsHigh w zero class = class ≡ 0
IsHigh w (suc n) class = (row : WorldClass) × (class_in w (class_id class) ≡ Some row) ×
    (0 < class) × IsHigh w n row.above.0

one_row : (a b : WorldClass) → ◌≡◌ {A = Option WorldClass} (Some a) (Some b) → a ≡ b
one_row a b h = cc

some_class : (class : ℕ) → (class == 0) ≡ false → 0 < class
some_class zero is = cc
some_class (suc class) is = omega arith

high_once : (w : World) (n m class : ℕ) → IsHigh w n class → IsHigh w m class → n ≡ m
high_once w zero zero class h k = refl
high_once w zero (suc m) class h k = absurd (omega (arith, h, k.2))
high_once w (suc n) zero class h k = absurd (omega (arith, k, h.2))
high_once w (suc n) (suc m) class h k =
    ap suc (high_once w n m h.0.above.0 h.3
    (subst (λ (row : WorldClass). IsHigh w m row.above.0) (sym (one_row h.0 k.0 (sym h.1 ∙ k.1)))
    k.3))

pub record Stands (w : World) (most class : ℕ) : Type 0 where
  pub height : ℕ
  pub high : IsHigh w height class
  pub within : height ≤ most

-- a class whose chain ends within so many steps
ends_by : (w : World) (class : ℕ) (more : List WorldClass) (b : Bool) (found : Option WorldClass)
    → (class == 0) ≡ b → class_in w (class_id class) ≡ found
    → ((row : WorldClass) → ends more w.classes row.above ≡ true → Stands w (length more) row.above.0)
    → (if b then true else option_map_or (λ (row : WorldClass). ends more w.classes row.above) found false) ≡ true
    → Stands w (suc (length more)) class
ends_by w class more true found is there on h =
    record { height = 0; high = eqb-true class 0 is; within = omega arith }
ends_by w class more false None is there on h = cc
ends_by w class more false (Some row) is there on h =
    let above = on row h in record {
      height = suc above.height;
      high = (row, there, some_class class is, above.high);
      within = omega (arith, above.within);
    }

pub ends_high : (w : World) (fuel : List WorldClass) (class : ClassId) → ends fuel w.classes class ≡ true
    → Stands w (length fuel) class.0
ends_high w [] class h = record { height = 0; high = eqb-true class.0 0 h; within = omega arith }
ends_high w (step ∷ more) class h =
    ends_by w class.0 more (class.0 == 0) (class_in w class) refl refl (λ row. ends_high w more row.above) h

-- Upwards -------------------------------------------------------------------------------------------------------------

-- no class has the id of null
pub not_there : (w : World) → IsSound w → (found : Option WorldClass) → class_in w (class_id 0) ≡ found → found ≡ None
not_there w sound None is = refl
not_there w sound (Some row) is =
    let null : row.id.0 ≡ 0 = eqb-true row.id.0 0 (found_passes (λ (r : WorldClass). r.id.0 == 0) w.classes row is) in
    let some : 0 < row.id.0 = found_all (λ (r : WorldClass). 0 < r.id.0) (λ (r : WorldClass). r.id.0 == 0) w.classes
    sound.program.no_null row is in
    absurd (omega (arith, null, some))

pub no_more : (w : World) (fuel : List WorldClass) (class : ℕ) → class_in w (class_id class) ≡ None
    → upwards fuel w (class_id class) ≡ []
no_more w [] class is = refl
no_more w (step ∷ more) class is = ap (with_above (upwards more w)) is

-- the ids of classes
abbrev pub ids : List WorldClass → List ℕ
ids classes = map (λ (row : WorldClass). row.id.0) classes

pub own_id : (w : World) (class : ℕ) (row : WorldClass) → class_in w (class_id class) ≡ Some row → row.id.0 ≡ class
own_id w class row is =
    eqb-true row.id.0 class (found_passes (λ (r : WorldClass). r.id.0 == class) w.classes row is)

-- the classes that were met stand higher
abbrev pub Higher : World → ℕ → ℕ → Type 0
Higher w n class = (k : ℕ) × (n < k) × IsHigh w k class

pub not_met : (w : World) (n class : ℕ) (met : List ℕ) → IsHigh w n class → AllByRecursion (Higher w n) met
    → list_any (λ other. other == class) met ≡ false
not_met w n class [] high all = refl
not_met w n class (other ∷ met) high all =
    by_test (other == class) refl (not_met w n class met high all.1)
  where
    by_test : (b : Bool) → (other == class) ≡ b → list_any (λ o. o == class) met ≡ false
        → (b || list_any (λ o. o == class) met) ≡ false
    by_test true is rest =
        let same : n ≡ all.0.0 = high_once w n all.0.0 class high
        (subst (IsHigh w all.0.0) (eqb-true other class is) all.0.2) in
        absurd (omega (arith, same, all.0.1))
    by_test false is rest = rest

pub higher_on : (w : World) (n : ℕ) (met : List ℕ) → AllByRecursion (Higher w (suc n)) met
    → AllByRecursion (Higher w n) met
higher_on w n [] all = tt
higher_on w n (class ∷ met) all = ((all.0.0, omega (arith, all.0.1), all.0.2), higher_on w n met all.1)

pub all_push : {A : Type 0} (P : A → Type 0) (xs : List A) (y : A) → AllByRecursion P xs → P y
    → AllByRecursion P (xs ++ y ∷ [])
all_push P [] y all p = (p, tt)
all_push P (x ∷ xs) y all p = (all.0, all_push P xs y all.1 p)

chain_step : (w : World) (steps : ℕ) (met : List ℕ) (class : ℕ) (was : Bool) (above : ClassId) (there : List ℕ)
    → was ≡ false → of_world (living_reply w) (above_plan (suc class)) ≡ Some above
    → of_world (living_reply w) (chain steps (met ++ suc class ∷ []) above.0) ≡ Some there
    → of_world (living_reply w) (elim was [
      | true ↦ gives met
      | false ↦ chained (above_plan (suc class)) (λ above. chain steps (met ++ suc class ∷ []) above.0)
    ]) ≡ Some there
chain_step w steps met class true above there is said on = cc
chain_step w steps met class false above there is said on =
    said_chained (living_reply w) (above_plan (suc class)) (λ above. chain steps (met ++ suc class ∷ []) above.0)
    ∙ ap (option_and_then (λ (a : ClassId). of_world (living_reply w) (chain steps (met ++ suc class ∷ []) a.0))) said
    ∙ on

pub chain_high : (w : World) (n steps : ℕ) (met : List ℕ) (fuel : List WorldClass) (class : ℕ) → IsSound w
    → IsHigh w n class → n < steps → n ≤ length fuel → AllByRecursion (Higher w n) met
    → of_world (living_reply w) (chain steps met class) ≡ Some (met ++ ids (upwards fuel w (class_id class)))
unfolding chain of_world
chain_high w n zero met fuel class sound high less enough higher = absurd (omega (arith, less))
chain_high w n (suc steps) met fuel zero sound high less enough higher =
    ap Some (sym (append-nil met))
    ∙ ap (λ l. Some (met ++ ids l)) (sym (no_more w fuel 0 (not_there w sound (class_in w (class_id 0)) refl)))
chain_high w zero (suc steps) met fuel (suc class) sound high less enough higher = absurd (omega (arith, high))
chain_high w (suc n) (suc steps) met [] (suc class) sound high less enough higher = absurd (omega (arith, enough))
chain_high w (suc n) (suc steps) met (step ∷ more) (suc class) sound high less enough higher =
    chain_step w steps met class (list_any (λ other. other == suc class) met) high.0.above
    ((met ++ suc class ∷ []) ++ ids (upwards more w high.0.above))
    (not_met w (suc n) (suc class) met high higher)
    (above_there w class (Some high.0) high.1)
    (chain_high w n steps (met ++ suc class ∷ []) more high.0.above.0 sound high.3 (omega (arith, less))
    (omega (arith, enough)) (all_push (Higher w n) met (suc class) (higher_on w n met higher)
    (suc n, omega arith, high)))
    ∙ ap Some (append_assoc met (suc class ∷ []) (ids (upwards more w high.0.above)))
    ∙ ap (λ (c : ℕ). Some (met ++ c ∷ ids (upwards more w high.0.above))) (sym (own_id w (suc class) high.0 high.1))
    ∙ ap (λ (found : Option WorldClass). Some (met ++ ids (with_above (upwards more w) found))) (sym high.1)

-- of a class that isn't there nothing is above
pub chain_alone : (w : World) (steps class : ℕ) → class_in w (class_id (suc class)) ≡ None
    → of_world (living_reply w) (chain (suc (suc steps)) [] (suc class)) ≡ Some (suc class ∷ [])
unfolding chain of_world
chain_alone w steps class is =
    said_chained (living_reply w) (above_plan (suc class)) (λ above. chain (suc steps) (suc class ∷ []) above.0)
    ∙ ap (option_and_then (λ (a : ClassId). of_world (living_reply w) (chain (suc steps) (suc class ∷ []) a.0)))
    (above_there w class None is)
