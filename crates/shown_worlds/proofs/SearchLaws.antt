-- The first field of a name, from a class upwards.
use Rattle.std.proofs.Common.{◌≡◌, ◌<◌, ◌≤◌, ◌∷◌, ◌++◌, ℕ, zero, suc, Bool, true, false, cond, List, [], length, map}
use Rattle.std.proofs.Common.{refl, sym, ap, subst, ◌∙◌, arith, lt_of_le_of_lt}
use Rattle.std.specs.Prelude.{bytes_eq, filter, find, not, ◌==◌, Option, Some, None, option_and_then, option_map}
use Rattle.std.specs.List.{AllByRecursion, flat_map, list_any}
use Rattle.std.specs.Option.{option_or}
use Rattle.std.proofs.lemmas.List.Folds.{find-append}
use Rattle.jdwp_values.specs.declared.class.Field.{Field}
use Rattle.jdwp_values.specs.declared.id.ClassId.{ClassId}
use Rattle.machine_model.specs.Children.{above_plan, fields_plan, reach}
use Rattle.machine_model.specs.Expressions.{field_from, field_named, found_or}
use Rattle.machine_model.specs.Plans.{Plan, chained, gives, of_world}
use Rattle.shown_worlds.specs.FieldRows.{FieldOf, of_class, upwards, with_above}
use Rattle.shown_worlds.specs.FieldRows as rows
use Rattle.shown_worlds.specs.Laws.{IsLive}
use Rattle.shown_worlds.proofs.ChainLaws.{Higher, IsHigh, Stands, above_there, all_push, class_id, ends_high}
use Rattle.shown_worlds.proofs.ChainLaws.{fields_known, fields_there, heard_fields, higher_on, no_fields, no_more}
use Rattle.shown_worlds.proofs.ChainLaws.{not_met, not_there, own_id}
use Rattle.shown_worlds.proofs.FieldLaws.{own_same}
use Rattle.shown_worlds.proofs.PlanLemmas.{said_chained}
use Rattle.shown_worlds.proofs.RowLemmas.{found_all}
use Rattle.world_model.specs.Classes.{class_in}
use Rattle.world_model.specs.Classes.{fields_of as fields_of_class}
use Rattle.world_model.specs.Replies.{living_reply}
use Rattle.world_model.specs.Sound.{IsSound, ends}
use Rattle.world_model.specs.declared.rows.WorldClass.{WorldClass}
use Rattle.world_model.specs.declared.world.World.{World}

-- it is called so
abbrev is_called : List ℕ → FieldOf → Bool
is_called name it = bytes_eq it.field.name name

abbrev field_of : Option FieldOf → Option Field
field_of found = option_map (λ (it : FieldOf). it.field) found

found_here : (name : List ℕ) (class : ClassId) (fields : List Field)
    → field_of (find (is_called name) (map (of_class class) fields))
    ≡ find (λ (f : Field). bytes_eq f.name name) fields
found_here name class [] = refl
found_here name class (f ∷ others) = by_test (bytes_eq f.name name) (found_here name class others)
  where
    by_test : (b : Bool)
        → field_of (find (is_called name) (map (of_class class) others))
        ≡ find (λ (f : Field). bytes_eq f.name name) others
        → field_of (cond b (Some (of_class class f))
        (find (is_called name) (map (of_class class) others)))
        ≡ cond b (Some f) (find (λ (f : Field). bytes_eq f.name name) others)
    by_test true rest = refl
    by_test false rest = rest

field_or : (here there : Option FieldOf) → field_of (option_or here there) ≡ option_or (field_of here) (field_of there)
field_or None there = refl
field_or (Some it) there = refl

found_or_there : (w : World) (here : Option Field) (above : Plan (Option Field)) (there : Option Field)
    → of_world (living_reply w) above ≡ Some there
    → of_world (living_reply w) (found_or here above) ≡ Some (option_or here there)
unfolding of_world
found_or_there w None above there is = is
found_or_there w (Some f) above there is = refl

-- what the class itself has
named_here : (w : World) (name : List ℕ) (class : ℕ) (row : WorldClass) → class_in w (class_id (suc class)) ≡ Some row
    → field_named name (heard_fields w (suc class)) ≡ field_of (find (is_called name) (rows.own_fields w row))
named_here w name class row is =
    ap (field_named name) (fields_known w class row is
    ∙ ap (λ c. fields_of_class w (class_id c)) (sym (own_id w (suc class) row is)))
    ∙ ap (find (λ (f : Field). bytes_eq f.name name)) (own_same (fields_of_class w row.id))
    ∙ sym (found_here name row.id (filter
    (λ (f : Field). not (rows.is_static f.bits)) (fields_of_class w row.id)))

abbrev found_in : World → List ℕ → List WorldClass → Option Field
found_in w name classes = field_of (find (is_called name) (flat_map (rows.own_fields w) classes))

found_on : (w : World) (name : List ℕ) (row : WorldClass) (others : List WorldClass)
    → found_in w name (row ∷ others)
    ≡ option_or (field_of (find (is_called name) (rows.own_fields w row))) (found_in w name others)
found_on w name row others =
    ap field_of (find-append (is_called name) (rows.own_fields w row) (flat_map (rows.own_fields w) others))
    ∙ field_or (find (is_called name) (rows.own_fields w row))
    (find (is_called name) (flat_map (rows.own_fields w) others))

abbrev above_of : ℕ → List ℕ → List ℕ → ℕ → Plan (Option Field)
above_of steps met name class =
    chained (above_plan (suc class)) (λ above. field_from steps (met ++ suc class ∷ []) name above.0)

search_step : (w : World) (steps : ℕ) (met name : List ℕ) (class : ℕ) (was : Bool) (there : Option Field)
    → was ≡ false → of_world (living_reply w) (above_of steps met name class) ≡ Some there
    → of_world (living_reply w) (elim was [
      | true ↦ gives None
      | false ↦ chained (fields_plan (suc class)) (λ fields. found_or (field_named name fields)
          (chained (above_plan (suc class)) (λ above. field_from steps (met ++ suc class ∷ []) name above.0)))
    ]) ≡ Some (option_or (field_named name (heard_fields w (suc class))) there)
search_step w steps met name class true there is on = cc
search_step w steps met name class false there is on =
    said_chained (living_reply w) (fields_plan (suc class))
    (λ fields. found_or (field_named name fields) (above_of steps met name class))
    ∙ ap (option_and_then (λ (fields : List Field). of_world (living_reply w)
    (found_or (field_named name fields) (above_of steps met name class)))) (fields_there w (suc class))
    ∙ found_or_there w (field_named name (heard_fields w (suc class))) (above_of steps met name class) there on

above_said : (w : World) (steps : ℕ) (met name : List ℕ) (class : ℕ) (above : ClassId) (there : Option Field)
    → of_world (living_reply w) (above_plan (suc class)) ≡ Some above
    → of_world (living_reply w) (field_from steps (met ++ suc class ∷ []) name above.0) ≡ Some there
    → of_world (living_reply w) (above_of steps met name class) ≡ Some there
above_said w steps met name class above there said on =
    said_chained (living_reply w) (above_plan (suc class))
    (λ above. field_from steps (met ++ suc class ∷ []) name above.0)
    ∙ ap (option_and_then (λ (a : ClassId). of_world (living_reply w)
    (field_from steps (met ++ suc class ∷ []) name a.0))) said
    ∙ on

search_high : (w : World) (name : List ℕ) (n steps : ℕ) (met : List ℕ) (fuel : List WorldClass) (class : ℕ) → IsSound w
    → IsHigh w n class → n < steps → n ≤ length fuel → AllByRecursion (Higher w n) met
    → of_world (living_reply w) (field_from steps met name class)
    ≡ Some (found_in w name (upwards fuel w (class_id class)))
unfolding field_from of_world
search_high w name n zero met fuel class sound high less enough higher = absurd (omega (arith, less))
search_high w name n (suc steps) met fuel zero sound high less enough higher =
    ap (λ l. Some (found_in w name l)) (sym (no_more w fuel 0 (not_there w sound (class_in w (class_id 0)) refl)))
search_high w name zero (suc steps) met fuel (suc class) sound high less enough higher = absurd (omega (arith, high))
search_high w name (suc n) (suc steps) met [] (suc class) sound high less enough higher = absurd (omega (arith, enough))
search_high w name (suc n) (suc steps) met (step ∷ more) (suc class) sound high less enough higher =
    search_step w steps met name class (list_any (λ other. other == suc class) met)
    (found_in w name (upwards more w high.0.above))
    (not_met w (suc n) (suc class) met high higher)
    (above_said w steps met name class high.0.above (found_in w name (upwards more w high.0.above))
    (above_there w class (Some high.0) high.1)
    (search_high w name n steps (met ++ suc class ∷ []) more high.0.above.0 sound high.3 (omega (arith, less))
    (omega (arith, enough)) (all_push (Higher w n) met (suc class) (higher_on w n met higher)
    (suc n, omega arith, high))))
    ∙ ap (λ f. Some (option_or f (found_in w name (upwards more w high.0.above))))
    (named_here w name class high.0 high.1)
    ∙ ap Some (sym (found_on w name high.0 (upwards more w high.0.above)))
    ∙ ap (λ (found : Option WorldClass). Some (found_in w name (with_above (upwards more w) found))) (sym high.1)

search_alone : (w : World) (name : List ℕ) (steps class : ℕ) → class_in w (class_id (suc class)) ≡ None
    → of_world (living_reply w) (field_from (suc (suc steps)) [] name (suc class)) ≡ Some None
unfolding field_from of_world
search_alone w name steps class is =
    search_step w (suc steps) [] name class false None refl
    (above_said w (suc steps) [] name class (class_id 0) None (above_there w class None is) refl)
    ∙ ap (λ (l : List Field). Some (option_or (field_named name l) None)) (no_fields w class is)

search_by : (w : World) (name : List ℕ) (class : ℕ) (found : Option WorldClass) → IsLive w
    → class_in w (class_id class) ≡ found
    → of_world (living_reply w) (field_from reach [] name class)
    ≡ Some (found_in w name (upwards w.classes w (class_id class)))
search_by w name class (Some row) live is =
    let stands : Stands w (length w.classes) class = ends_high w w.classes (class_id class)
    (subst (λ (c : ℕ). ends w.classes w.classes (class_id c) ≡ true) (own_id w class row is)
    (found_all (λ (r : WorldClass). ends w.classes w.classes r.id ≡ true) (λ (r : WorldClass). r.id.0 == class)
    w.classes live.sound.program.chains row is)) in
    search_high w name stands.height reach [] w.classes class live.sound stands.high
    (lt_of_le_of_lt stands.within live.few) stands.within tt
search_by w name zero None live is =
    search_high w name 0 reach [] w.classes 0 live.sound refl (omega arith) (omega arith) tt
search_by w name (suc class) None live is =
    search_alone w name 1099511627774 class is
    ∙ ap (λ l. Some (found_in w name l)) (sym (no_more w w.classes (suc class) is))

-- the first field of a name, as the world has it
pub searched : (w : World) (name : List ℕ) (class : ClassId) → IsLive w
    → of_world (living_reply w) (field_from reach [] name class.0)
    ≡ Some (option_map (λ (it : FieldOf). it.field) (find (λ (it : FieldOf). bytes_eq it.field.name name)
    (rows.object_fields w class)))
searched w name class live = search_by w name class.0 (class_in w class) live refl
