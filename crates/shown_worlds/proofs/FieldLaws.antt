-- The fields of an object.
use Rattle.std.proofs.Common.{◌≡◌, ◌∷◌, ◌++◌, ◌||◌, ℕ, zero, suc, Bool, true, false, cond, List, [], map, take, drop}
use Rattle.std.proofs.Common.{length, refl, sym, ap, subst, ◌∙◌, arith, lt_of_le_of_lt, pos, negsuc, ℤ, not}
use Rattle.std.specs.Prelude.{bytes_eq, codes, filter, if◌then◌else◌, ok_or, Option, Some, None, option_and_then}
use Rattle.std.specs.Prelude.{option_map, zip, ◌==◌}
use Rattle.std.specs.List.{AllByRecursion, flat_map, list_any}
use Rattle.std.specs.Result.{result_ok}
use Rattle.std.proofs.lemmas.List.{drop-map, take-map}
use Rattle.std.proofs.lemmas.List.Folds.{list_any-append}
use Rattle.std.proofs.lemmas.Slice.Eq.{bytes_eq-Decides}
use Rattle.jdwp_commands.specs.declared.answer.Answer.TheVariants as answers
use Rattle.jdwp_values.specs.Lossy.{lossy}
use Rattle.jdwp_values.specs.declared.class.Field.{Field}
use Rattle.jdwp_values.specs.declared.id.ClassId.{ClassId}
use Rattle.jdwp_values.specs.declared.id.FieldId.{FieldId}
use Rattle.jdwp_values.specs.declared.value.Value.{Value}
use Rattle.machine_model.specs.Children.{Child, FieldOf, Place, at_index, chain, chain_fields, class_fields}
use Rattle.machine_model.specs.Children.{field_plan, fields_named, fields_plan, in_field, in_slot, is_known, name_plan}
use Rattle.machine_model.specs.Children.{names_met, object_fields, of_classes, of_field, of_fields, own_fields, reach}
use Rattle.machine_model.specs.Children.{with_class, with_name}
use Rattle.machine_model.specs.Children as machine
use Rattle.machine_model.specs.Frames.{count_from, signature_plan}
use Rattle.machine_model.specs.Plans.{chained, each, of_world}
use Rattle.machine_model.specs.Values.{class_plan}
use Rattle.machine_model.specs.Variables.{field_values, fields_of, fields_page, fields_valued, shown_plan, values_in}
use Rattle.machine_model.specs.Variables as variables
use Rattle.machine_model.specs.Writing.{field_store}
use Rattle.machine_model.specs.declared.parts.Store.TheVariants as stores
use Rattle.shown_worlds.specs.ChildRows as shown
use Rattle.shown_worlds.specs.Facts.{signature}
use Rattle.shown_worlds.specs.FieldRows.{of_class, upwards, with_above}
use Rattle.shown_worlds.specs.FieldRows as rows
use Rattle.shown_worlds.specs.Laws.{IsLive}
use Rattle.shown_worlds.proofs.ChainLaws.{Stands, chain_alone, chain_high, class_id, ends_high, fields_known}
use Rattle.shown_worlds.proofs.ChainLaws.{fields_there, heard_fields, ids, no_fields, no_more, not_there, own_id}
use Rattle.shown_worlds.proofs.ChildLaws.{AreRead, page_said, row_of}
use Rattle.shown_worlds.proofs.FactLaws.{class_there, object, signature_there}
use Rattle.shown_worlds.proofs.FrameLaws.{map_then}
use Rattle.shown_worlds.proofs.LocalLaws.{ok_ok_or, ok_then, same_map}
use Rattle.shown_worlds.proofs.PlanLemmas.{each_has, must_said, said_chained, said_made}
use Rattle.shown_worlds.proofs.RowLemmas.{found_all}
use Rattle.value_views.specs.Names.{class_name}
use Rattle.world_model.specs.Classes.{class_in}
use Rattle.world_model.specs.Classes.{fields_of as fields_of_class}
use Rattle.world_model.specs.Codes.{not_implemented}
use Rattle.world_model.specs.Objects.{class_of, field_value, fields_of_object, object_fault, object_in}
use Rattle.world_model.specs.Replies.{living_reply}
use Rattle.world_model.specs.Scans.{all_of}
use Rattle.world_model.specs.Sound.{IsSound, ends}
use Rattle.world_model.specs.declared.rows.WorldClass.{WorldClass}
use Rattle.world_model.specs.declared.rows.WorldObject.{WorldObject}
use Rattle.world_model.specs.declared.world.World.{World}

-- Values of fields ----------------------------------------------------------------------------------------------------

abbrev pub read_field : World → ℕ → Place → Option Value
read_field w n (in_field field) = rows.value_in w (object n) field
read_field w n (is_known value) = None
read_field w n (in_slot slot tag) = None
read_field w n (at_index i) = None

each_said : (w : World) (there : Option WorldObject) (field : FieldId) (fields : List FieldId)
    → option_and_then (λ (o : WorldObject). result_ok (ok_or
    (all_of (field_value w o) (field ∷ fields)) not_implemented))
    there
    ≡ all_of (λ (f : FieldId). option_and_then (λ (o : WorldObject). field_value w o f) there) (field ∷ fields)
each_said w None field fields = refl
each_said w (Some o) field fields = ok_ok_or (all_of (field_value w o) (field ∷ fields)) not_implemented

pub values_there : (w : World) (n : ℕ) (fields : List FieldId)
    → of_world (living_reply w) (field_values n fields) ≡ all_of (rows.value_in w (object n)) fields
unfolding of_world
values_there w n [] = refl
values_there w n (field ∷ fields) =
    must_said answers.GetFields values_in (λ l. l) (λ l. refl) (fields_of_object w (object n) (field ∷ fields))
    ∙ same_map (result_ok (fields_of_object w (object n) (field ∷ fields)))
    ∙ ok_then (λ (o : WorldObject). ok_or (all_of (field_value w o) (field ∷ fields)) not_implemented)
    (ok_or (object_in w (object n)) (object_fault w (object n)))
    ∙ ap (option_and_then (λ (o : WorldObject). result_ok (ok_or {E = ℕ} (all_of (field_value w o) (field ∷ fields))
    not_implemented))) (ok_ok_or (object_in w (object n)) (object_fault w (object n)))
    ∙ each_said w (object_in w (object n)) field fields

-- a field as it is named
abbrev pub child_of : World → FieldOf → Child
child_of w f = of_field f.field
    (cond f.is_met (with_class (lossy f.field.name) (signature w (class_id f.class))) (lossy f.field.name))

all_fields : (w : World) (n : ℕ) (fs : List FieldOf)
    → all_of (rows.value_in w (object n)) (fields_of (map (child_of w) fs))
    ≡ all_of (λ (child : Child). read_field w n child.place) (map (child_of w) fs)
all_fields w n [] = refl
all_fields w n (f ∷ others) =
    ap (λ o. option_and_then (λ y. option_map (λ ys. y ∷ ys) o) (rows.value_in w (object n) f.field.id))
    (all_fields w n others)

fields_read : (w : World) (n : ℕ) (fs : List FieldOf)
    → AreRead w (read_field w n) (map (child_of w) fs) (fields_valued n (map (child_of w) fs))
fields_read w n fs =
    said_made (living_reply w) (zip (map (child_of w) fs)) (field_values n (fields_of (map (child_of w) fs)))
    ∙ ap (option_map (zip (map (child_of w) fs)))
    (values_there w n (fields_of (map (child_of w) fs)) ∙ all_fields w n fs)

pub fields_page_read : (w : World) (n m start : ℕ) (fs : List FieldOf)
    → AreRead w (read_field w n) (take m (drop start (map (child_of w) fs)))
    (fields_valued n (take m (drop start (map (child_of w) fs))))
fields_page_read w n m start fs =
    subst (λ l. AreRead w (read_field w n) l (fields_valued n l))
    (sym (ap (take m) (drop-map (child_of w) start fs) ∙ take-map (child_of w) m (drop start fs)))
    (fields_read w n (take m (drop start fs)))

-- Names of fields -----------------------------------------------------------------------------------------------------

abbrev field_row : World → ℕ → FieldOf → shown.Child
field_row w n f = row_of w (read_field w n) (field_store n) (child_of w f)

-- the same names were met
abbrev Same : List (List ℕ) → List (List ℕ) → Type 0
Same met before = (name : List ℕ) → list_any (bytes_eq name) met ≡ list_any (bytes_eq name) before

or_swap : (a b : Bool) → (a || (b || false)) ≡ (b || a)
or_swap true true = refl
or_swap true false = refl
or_swap false true = refl
or_swap false false = refl

-- a name that was met is met
met_again : (n name : List ℕ) (met : List (List ℕ)) (same : Bool) → bytes_eq n name ≡ same
    → list_any (bytes_eq name) met ≡ true → list_any (bytes_eq n) met ≡ (same || list_any (bytes_eq n) met)
met_again n name met true is h =
    ap (λ (x : List ℕ). list_any (bytes_eq x) met) ((bytes_eq-Decides n name).0 is) ∙ h
met_again n name met false is h = refl

with_same : (met : List (List ℕ)) (name n : List ℕ) (was : Bool) → list_any (bytes_eq name) met ≡ was
    → list_any (bytes_eq n) (cond was met (met ++ name ∷ [])) ≡ (bytes_eq n name || list_any (bytes_eq n) met)
with_same met name n true is = met_again n name met (bytes_eq n name) refl is
with_same met name n false is =
    list_any-append (bytes_eq n) met (name ∷ []) ∙ or_swap (list_any (bytes_eq n) met) (bytes_eq n name)

one_met : (met before : List (List ℕ)) (name : List ℕ) → Same met before → Same (with_name met name) (name ∷ before)
one_met met before name same n =
    with_same met name n (list_any (bytes_eq name) met) refl ∙ ap (λ b. bytes_eq n name || b) (same n)

named_by : (w : World) (n class : ℕ) (before : List (List ℕ)) (f : Field) (met : Bool)
    → list_any (bytes_eq (lossy f.name)) before ≡ met
    → field_row w n (record { class = class; is_met = met; field = f })
    ≡ shown.field_in w (object n) before (of_class (class_id class) f)
named_by w n class before f true is =
    ap (λ (name : List ℕ). record {
      name = name;
      signature = Some f.signature;
      value = rows.value_in w (object n) f.id;
      store = Some (stores.Field (object n) f.id);
    }) (ap (λ b. if b then lossy f.name ++ codes "@"
    ++ class_name (signature w (class_id class)) else lossy f.name) (sym is))
named_by w n class before f false is =
    ap (λ (name : List ℕ). record {
      name = name;
      signature = Some f.signature;
      value = rows.value_in w (object n) f.id;
      store = Some (stores.Field (object n) f.id);
    }) (ap (λ b. if b then lossy f.name ++ codes "@"
    ++ class_name (signature w (class_id class)) else lossy f.name) (sym is))

-- the fields of a class, and what stands behind them
fields_row : (w : World) (n class : ℕ) (fs : List Field) (met before : List (List ℕ)) (others : List FieldOf)
    (rest : List rows.FieldOf) → Same met before
    → ((later : List (List ℕ)) → Same (names_met met fs) later
    → map (field_row w n) others ≡ shown.fields_in w (object n) later rest)
    → map (field_row w n) (of_fields class met fs ++ others)
    ≡ shown.fields_in w (object n) before (map (of_class (class_id class)) fs ++ rest)
fields_row w n class [] met before others rest same on = on before same
fields_row w n class (f ∷ fs) met before others rest same on =
    ap (λ c. c ∷ map (field_row w n) (of_fields class (with_name met (lossy f.name)) fs ++ others))
    (named_by w n class before f (list_any (bytes_eq (lossy f.name)) met) (sym (same (lossy f.name))))
    ∙ ap (λ l. shown.field_in w (object n) before (of_class (class_id class) f) ∷ l)
    (fields_row w n class fs (with_name met (lossy f.name)) (lossy f.name ∷ before) others rest
    (one_met met before (lossy f.name) same) on)

static_same : (bits : ℤ) → machine.is_static bits ≡ rows.is_static bits
static_same (pos n) = refl
static_same (negsuc n) = refl

pub own_same : (fs : List Field) → own_fields fs ≡ filter (λ (f : Field). not (rows.is_static f.bits)) fs
own_same [] = refl
own_same (f ∷ others) =
    ap (λ b. cond (not b) (f ∷ own_fields others) (own_fields others)) (static_same f.bits)
    ∙ ap (λ l. cond (not (rows.is_static f.bits)) (f ∷ l) l) (own_same others)

-- the fields that are heard of classes
abbrev flat : List (ℕ × List Field) → List rows.FieldOf
flat classes = flat_map (λ (one : ℕ × List Field). map (of_class (class_id one.0)) (own_fields one.1)) classes

classes_row : (w : World) (n : ℕ) (classes : List (ℕ × List Field)) (met before : List (List ℕ)) → Same met before
    → map (field_row w n) (of_classes met classes) ≡ shown.fields_in w (object n) before (flat classes)
classes_row w n [] met before same = refl
classes_row w n (one ∷ others) met before same =
    fields_row w n one.0 (own_fields one.1) met before (of_classes (names_met met (own_fields one.1)) others)
    (flat others) same (λ later so. classes_row w n others (names_met met (own_fields one.1)) later so)

-- The classes of an object --------------------------------------------------------------------------------------------

-- a class that is there under its own id
abbrev IsThere : World → WorldClass → Type 0
IsThere w row = (class : ℕ) × (row.id.0 ≡ suc class) × (class_in w (class_id (suc class)) ≡ Some row)

there_by : (w : World) (more : List WorldClass) (class : ℕ) (found : Option WorldClass) → IsSound w
    → class_in w (class_id class) ≡ found
    → ((row : WorldClass) → AllByRecursion (IsThere w) (upwards more w row.above))
    → AllByRecursion (IsThere w) (with_above (upwards more w) found)
there_by w more class None sound is on = tt
there_by w more zero (Some row) sound is on =
    absurd (let none : ◌≡◌ {A = Option WorldClass} (Some row) None = not_there w sound (Some row) is in cc)
there_by w more (suc class) (Some row) sound is on = ((class, own_id w (suc class) row is, is), on row)

all_there : (w : World) (fuel : List WorldClass) (class : ClassId) → IsSound w
    → AllByRecursion (IsThere w) (upwards fuel w class)
all_there w [] class sound = tt
all_there w (step ∷ more) class sound =
    there_by w more class.0 (class_in w class) sound refl (λ row. all_there w more row.above sound)

-- each class with its fields, as they are heard
abbrev heard : World → ℕ → ℕ × List Field
heard w class = (class, heard_fields w class)

own_heard : (w : World) (row : WorldClass) → IsThere w row
    → map (of_class (class_id row.id.0)) (own_fields (heard_fields w row.id.0)) ≡ rows.own_fields w row
own_heard w row there =
    ap (λ (l : List Field). map (of_class row.id) (own_fields l))
    (ap (heard_fields w) there.1 ∙ fields_known w there.0 row there.2
    ∙ ap (λ c. fields_of_class w (class_id c)) (sym there.1))
    ∙ ap (map (of_class row.id)) (own_same (fields_of_class w row.id))

flat_heard : (w : World) (classes : List WorldClass) → AllByRecursion (IsThere w) classes
    → flat (map (heard w) (ids classes)) ≡ flat_map (rows.own_fields w) classes
flat_heard w [] all = refl
flat_heard w (row ∷ others) all =
    ap (λ l. l ++ flat (map (heard w) (ids others))) (own_heard w row all.0)
    ∙ ap (λ l. rows.own_fields w row ++ l) (flat_heard w others all.1)

class_heard : (w : World) (class : ℕ) → of_world (living_reply w) (class_fields class) ≡ Some (heard w class)
class_heard w class =
    said_made (living_reply w) (λ fields. (class, fields)) (fields_plan class)
    ∙ ap (option_map (λ fields. (class, fields))) (fields_there w class)

-- The classes of an object with their fields, as they are heard; their fields are those that the world has.
pub record Heard (w : World) (class : ClassId) : Type 0 where
  pub classes : List (ℕ × List Field)
  pub said : of_world (living_reply w) (chain_fields class) ≡ Some classes
  pub fields : flat classes ≡ rows.object_fields w class

chain_heard : (w : World) (class : ClassId) (met : List ℕ)
    → of_world (living_reply w) (chain reach [] class.0) ≡ Some met
    → of_world (living_reply w) (chain_fields class) ≡ Some (map (heard w) met)
chain_heard w class met is =
    said_chained (living_reply w) (chain reach [] class.0) (each class_fields)
    ∙ ap (option_and_then (λ (l : List ℕ). of_world (living_reply w) (each class_fields l))) is
    ∙ each_has (living_reply w) class_fields (heard w) (class_heard w) met

heard_high : (w : World) (class : ClassId) → IsLive w → Stands w (length w.classes) class.0 → Heard w class
heard_high w class live stands = record {
  classes = map (heard w) (ids (upwards w.classes w class));
  said = chain_heard w class (ids (upwards w.classes w class))
      (chain_high w stands.height reach [] w.classes class.0 live.sound stands.high
      (lt_of_le_of_lt stands.within live.few) stands.within tt);
  fields = flat_heard w (upwards w.classes w class) (all_there w w.classes class live.sound);
}

heard_by : (w : World) (class : ℕ) (found : Option WorldClass) → IsLive w → class_in w (class_id class) ≡ found
    → Heard w (class_id class)
heard_by w class (Some row) live is =
    heard_high w (class_id class) live (ends_high w w.classes (class_id class)
    (subst (λ (c : ℕ). ends w.classes w.classes (class_id c) ≡ true) (own_id w class row is)
    (found_all (λ (r : WorldClass). ends w.classes w.classes r.id ≡ true)
    (λ (r : WorldClass). r.id.0 == class) w.classes
    live.sound.program.chains row is)))
heard_by w zero None live is =
    heard_high w (class_id 0) live (record { height = 0; high = refl; within = omega arith })
heard_by w (suc class) None live is = record {
  classes = heard w (suc class) ∷ [];
  said = chain_heard w (class_id (suc class)) (suc class ∷ []) (chain_alone w 1099511627774 class is);
  fields = ap (λ (l : List Field). map (of_class (class_id (suc class))) (own_fields l) ++ []) (no_fields w class is)
      ∙ ap (flat_map (rows.own_fields w)) (sym (no_more w w.classes (suc class) is));
}

pub classes_heard : (w : World) (class : ClassId) → IsLive w → Heard w class
classes_heard w class live = heard_by w class.0 (class_in w class) live refl

-- The fields of an object ---------------------------------------------------------------------------------------------

name_there : (w : World) (class : ℕ) (name : List ℕ) (met : Bool)
    → of_world (living_reply w) (name_plan class name met)
    ≡ Some (cond met (with_class name (signature w (class_id class))) name)
unfolding of_world
name_there w class name false = refl
name_there w class name true =
    said_made (living_reply w) (with_class name) (signature_plan (class_id class))
    ∙ ap (option_map (with_class name)) (signature_there w (class_id class))

field_there : (w : World) (f : FieldOf) → of_world (living_reply w) (field_plan f) ≡ Some (child_of w f)
field_there w f =
    said_made (living_reply w) (of_field f.field) (name_plan f.class (lossy f.field.name) f.is_met)
    ∙ ap (option_map (of_field f.field)) (name_there w f.class (lossy f.field.name) f.is_met)

-- its children, as they are heard of its class
abbrev pub heard_children : (w : World) (live : IsLive w) → ClassId → List Child
heard_children w live class = map (child_of w) (of_classes [] (classes_heard w class live).classes)

pub named_there : (w : World) (live : IsLive w) (class : ClassId)
    → option_and_then (λ (l : List (ℕ × List Field)). of_world (living_reply w) (fields_named l))
    (of_world (living_reply w) (chain_fields class)) ≡ Some (heard_children w live class)
named_there w live class =
    ap (option_and_then (λ (l : List (ℕ × List Field)). of_world (living_reply w) (fields_named l)))
    (classes_heard w class live).said
    ∙ each_has (living_reply w) field_plan (child_of w) (field_there w)
    (of_classes [] (classes_heard w class live).classes)

pub children_there : (w : World) (live : IsLive w) (n : ℕ)
    → of_world (living_reply w) (object_fields n)
    ≡ option_map (heard_children w live) (class_of w (object n))
children_there w live n =
    said_chained (living_reply w) (chained (class_plan n) chain_fields) fields_named
    ∙ ap (option_and_then (λ (l : List (ℕ × List Field)). of_world (living_reply w) (fields_named l)))
    (said_chained (living_reply w) (class_plan n) chain_fields
    ∙ ap (option_and_then (λ (c : ClassId). of_world (living_reply w) (chain_fields c))) (class_there w n))
    ∙ by_class (class_of w (object n))
  where
    by_class : (found : Option ClassId)
        → option_and_then (λ (l : List (ℕ × List Field)). of_world (living_reply w) (fields_named l))
        (option_and_then (λ (c : ClassId). of_world (living_reply w) (chain_fields c)) found)
        ≡ option_map (heard_children w live) found
    by_class None = refl
    by_class (Some class) = named_there w live class

pub children_same : (w : World) (live : IsLive w) (n : ℕ) (class : ClassId)
    → map (row_of w (read_field w n) (field_store n)) (heard_children w live class)
    ≡ shown.fields_in w (object n) [] (rows.object_fields w class)
children_same w live n class =
    map_then (child_of w) (row_of w (read_field w n) (field_store n))
    (of_classes [] (classes_heard w class live).classes)
    ∙ classes_row w n (classes_heard w class live).classes [] [] (λ name. refl)
    ∙ ap (shown.fields_in w (object n) []) (classes_heard w class live).fields

fields_by : (w : World) (types : Bool) (n start count : ℕ) (live : IsLive w) (found : Option ClassId)
    → option_and_then (λ pairs. of_world (living_reply w) (shown_plan types pairs))
    (option_and_then (λ children. of_world (living_reply w) (fields_valued n (variables.page start count children)))
    (option_map (heard_children w live) found))
    ≡ option_and_then (shown.page_shown w types start count)
    (option_map (λ class. shown.fields_in w (object n) [] (rows.object_fields w class)) found)
fields_by w types n start count live None = refl
fields_by w types n start count live (Some class) =
    page_said w types (read_field w n) (field_store n) start count (heard_children w live class) (fields_valued n)
    live.sound (fields_page_read w n (count_from (length (heard_children w live class)) start count) start
    (of_classes [] (classes_heard w class live).classes))
    ∙ ap (shown.page_shown w types start count) (children_same w live n class)

-- a page of an object's fields
pub fields_shown : (w : World) (types : Bool) (n start count : ℕ) → IsLive w
    → option_and_then (λ pairs. of_world (living_reply w) (shown_plan types pairs))
    (of_world (living_reply w) (fields_page start count n))
    ≡ option_and_then (shown.page_shown w types start count) (shown.fields w (object n))
fields_shown w types n start count live =
    ap (option_and_then (λ pairs. of_world (living_reply w) (shown_plan types pairs)))
    (said_chained (living_reply w) (object_fields n)
    (λ children. fields_valued n (variables.page start count children))
    ∙ ap (option_and_then (λ children. of_world (living_reply w)
    (fields_valued n (variables.page start count children)))) (children_there w live n))
    ∙ fields_by w types n start count live (class_of w (object n))
