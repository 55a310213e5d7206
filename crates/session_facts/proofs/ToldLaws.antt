-- Classes that are told join those that are left, so that what is left out still lacks nothing, or isn't found.
use Rattle.std.proofs.Common.{◌≡◌, ℕ, Bool, true, false, cond, ◌||◌, List, [], ◌∷◌, ◌++◌, Option, Some, None}
use Rattle.std.proofs.Common.{refl, sym, ap, ◌∙◌, flat_map, fold, length, option_map, subst}
use Rattle.std.specs.Prelude.{IfSome, is_some, nat_le}
use Rattle.std.specs.List.{list_any}
use Rattle.std.proofs.lemmas.Bool.{eq-eqb, or_parts}
use Rattle.std.proofs.lemmas.Grind.{flat_map-append}
use Rattle.std.proofs.lemmas.List.{append-nil}
use Rattle.class_tables.specs.Facts.{Known, is_prepared, same_class}
use Rattle.class_tables.specs.Lookups.{found_in}
use Rattle.class_tables.specs.Tables.{keys, under}
use Rattle.class_tables.specs.declared.loaded.Loaded.{Loaded}
use Rattle.class_tables.proofs.TableLaws.{keys-put, under-put}
use Rattle.jdwp_commands.specs.declared.listed.LoadedClass.{LoadedClass}
use Rattle.jdwp_events.specs.declared.composite.Composite.{Composite}
use Rattle.jdwp_values.specs.declared.id.ClassId.{ClassId}
use Rattle.machine_model.specs.Classes.{has_prepared, with_listed}
use Rattle.machine_model.specs.declared.items.Phase.{Phase}
use Rattle.session_facts.proofs.AlikeLaws.{AreAlike, signed_alike}
use Rattle.session_facts.proofs.OpenLaws.{one_class}
use Rattle.session_facts.specs.ClassPlanning.{watched_in}
use Rattle.session_facts.specs.OpenClasses.{AreLeft, AreOpen, class_standing, kept_by, left_in, left_told, may_be_found}
use Rattle.session_facts.specs.OpenClasses.{has_class, may_lack, most_found, placed, risen, signed_standing}
use Rattle.session_facts.specs.OpenClasses.{stands_within, told_as, told_in, with_told}
use Rattle.session_facts.specs.declared.open_classes.OpenClasses.{OpenClasses}
use Rattle.session_facts.specs.declared.open_classes.Standing.{Standing}
use Rattle.session_facts.specs.declared.open_classes.Standing.TheVariants.{Passed, Settled, Open}
use Rattle.wish_sets.specs.Wanted.{Wanted}

-- How two classes stand to each other ---------------------------------------------------------------------------------

turned : (a b : ClassId) → same_class a b ≡ false → same_class b a ≡ false
turned a b other = by (same_class b a) refl
  where
    by : (same : Bool) → same_class b a ≡ same → same ≡ false
    by false is = refl
    by true is =
        let back : same_class a b ≡ true =
        subst (λ (c : ClassId). same_class a c ≡ true) (sym (one_class b a is)) (eq-eqb a.0 a.0 refl) in
        absurd cc

-- a class that has a fact is among those that have one
under_any : {V : Type 0} (class : ClassId) (entries : List (ClassId × V))
    → list_any (same_class class) (keys entries) ≡ is_some (under same_class class entries)
under_any class [] = refl
under_any class (entry ∷ entries) = by (same_class class entry.0) (under_any class entries)
  where
    by : (same : Bool) → list_any (same_class class) (keys entries) ≡ is_some (under same_class class entries)
        → (same || list_any (same_class class) (keys entries))
        ≡ is_some (cond same (Some entry.1) (under same_class class entries))
    by true again = refl
    by false again = again

-- what is kept of a class that isn't there doesn't matter
outside : {V : Type 0} (keeps : ClassId → Bool) (kept : Bool) (class : ClassId) (entries : List (ClassId × V))
    → under same_class class entries ≡ None
    → flat_map (λ other. kept_by (cond (same_class class other) kept (keeps other)) other) (keys entries)
    ≡ flat_map (λ other. kept_by (keeps other) other) (keys entries)
outside keeps kept class [] none = refl
outside keeps kept class (entry ∷ entries) none =
    by (same_class class entry.0) none (λ others. outside keeps kept class entries others)
  where
    by : (same : Bool) → cond same (Some entry.1) (under same_class class entries) ≡ None
        → (under same_class class entries ≡ None
        → flat_map (λ other. kept_by (cond (same_class class other) kept (keeps other)) other) (keys entries)
        ≡ flat_map (λ other. kept_by (keeps other) other) (keys entries))
        → kept_by (cond same kept (keeps entry.0)) entry.0
        ++ flat_map (λ other. kept_by (cond (same_class class other) kept (keeps other)) other) (keys entries)
        ≡ kept_by (keeps entry.0) entry.0 ++ flat_map (λ other. kept_by (keeps other) other) (keys entries)
    by true h again = absurd cc
    by false h again = ap (λ rest. kept_by (keeps entry.0) entry.0 ++ rest) (again h)

-- a class that is kept, and isn't among those that are kept of some, isn't among these
kept_in : (class : ClassId) (keeps : ClassId → Bool) → keeps class ≡ true → (all : List ClassId)
    → has_class (flat_map (λ other. kept_by (keeps other) other) all) class ≡ false → has_class all class ≡ false
kept_in class keeps kept [] out = refl
kept_in class keeps kept (one ∷ others) out =
    by (same_class class one) refl (keeps one) refl out (kept_in class keeps kept others)
  where
    by : (same : Bool) → same_class class one ≡ same → (kept_one : Bool) → keeps one ≡ kept_one
        → has_class (kept_by kept_one one ++ flat_map (λ other. kept_by (keeps other) other) others) class ≡ false
        → (has_class (flat_map (λ other. kept_by (keeps other) other) others) class ≡ false
        → has_class others class ≡ false)
        → (same || has_class others class) ≡ false
    by true is true keeps_one h again =
        absurd (let both = or_parts (same_class class one)
        (has_class (flat_map (λ other. kept_by (keeps other) other) others) class) h in cc)
    by true is false keeps_one h again =
        absurd (let too = ap keeps (one_class class one is) in cc)
    by false is true keeps_one h again = again (or_parts (same_class class one)
        (has_class (flat_map (λ other. kept_by (keeps other) other) others) class) h).1
    by false is false keeps_one h again = again h

-- A class that stands as before, or lower -----------------------------------------------------------------------------

lacks_within : (now was : Standing) → stands_within now was ≡ true → may_lack was ≡ false → may_lack now ≡ false
lacks_within Passed was within out = refl
lacks_within Settled was within out = refl
lacks_within Open was within out = absurd cc

found_within : (now was : Standing) → stands_within now was ≡ true → may_be_found was ≡ false
    → may_be_found now ≡ false
found_within Passed was within out = refl
found_within Settled was within out = absurd cc
found_within Open Passed within out = absurd cc
found_within Open Settled within out = absurd cc
found_within Open Open within out = absurd cc

-- One class is told ---------------------------------------------------------------------------------------------------

module _ (wanted : Wanted) (known : Known) (told : LoadedClass) where
  abbrev later : Known
  later = with_listed known told

  abbrev loaded_now : Loaded
  loaded_now = record {
    tag = told.tag;
    signature = told.signature;
    prepared = has_prepared told.status || is_prepared (under same_class told.class known.loaded);
  }

  abbrev stands : ClassId → Standing
  stands class = class_standing wanted (found_in later) class

  abbrev stood_before : ClassId → Standing
  stood_before class = class_standing wanted (found_in known) class

  -- any other stands as before
  other_stays : (other : ClassId) → same_class other told.class ≡ false → stands other ≡ stood_before other
  other_stays other is =
      ap (λ (loaded : Option Loaded). signed_standing wanted (found_in later) other (watched_in wanted loaded))
      (under-put same_class one_class told.class loaded_now other known.loaded
      ∙ ap (λ (b : Bool). cond b (Some loaded_now) (under same_class other known.loaded)) is)
      ∙ signed_alike wanted wanted (found_in known) (found_in later)
      (record { lists = refl; functions = refl; source = refl; methods = refl; lines = refl }) other
      (watched_in wanted (under same_class other known.loaded))

  order_is : (loaded : Option Loaded) → under same_class told.class known.loaded ≡ loaded
      → keys later.loaded ≡ cond (is_some loaded) (keys known.loaded) (keys known.loaded ++ told.class ∷ [])
  order_is loaded is = keys-put same_class told.class loaded_now known.loaded
      ∙ ap (λ (b : Bool). cond b (keys known.loaded) (keys known.loaded ++ told.class ∷ []))
      (under_any told.class known.loaded ∙ ap (λ (l : Option Loaded). is_some l) is)

  module _ (P : Standing → Bool) where
    -- it was known before
    again_left : (P (stood_before told.class) ≡ false → P (stands told.class) ≡ false) → (left : List ClassId)
        → AreLeft (λ class. P (stood_before class)) (keys known.loaded) left
        → AreLeft (λ class. P (stands class)) (keys known.loaded) left
    again_left within left are = record {
      keeps = are.keeps;
      are = are.are;
      needless = λ class out. by class (same_class class told.class) refl (are.needless class out);
    }
      where
        by : (class : ClassId) (same : Bool) → same_class class told.class ≡ same → P (stood_before class) ≡ false
            → P (stands class) ≡ false
        by class false is h = ap P (other_stays class is) ∙ h
        by class true is h =
            let one : class ≡ told.class = one_class class told.class is in
            subst (λ (c : ClassId). P (stands c) ≡ false) (sym one)
            (within (subst (λ (c : ClassId). P (stood_before c) ≡ false) one h))

    -- it takes its place
    risen_left : P Passed ≡ false → (left : List ClassId)
        → AreLeft (λ class. P (stood_before class)) (keys known.loaded) left
        → AreLeft (λ class. P (stands class)) (keys known.loaded) (placed told.class left (keys known.loaded))
    risen_left passes left are = record {
      keeps = λ class. same_class told.class class || has_class left class;
      are = refl;
      needless = λ class out.
          let two = or_parts (same_class told.class class) (has_class left class) out in
          ap P (other_stays class (turned told.class class two.0)) ∙ by_kept class (are.keeps class) refl two.1;
    }
      where
        by_known : (class : ClassId) (loaded : Option Loaded) → under same_class class known.loaded ≡ loaded
            → is_some loaded ≡ false → P (stood_before class) ≡ false
        by_known class None is h = ap (λ (one : Option Loaded).
            P (signed_standing wanted (found_in known) class (watched_in wanted one))) is ∙ passes
        by_known class (Some loaded) is h = absurd cc

        by_kept : (class : ClassId) (kept : Bool) → are.keeps class ≡ kept → has_class left class ≡ false
            → P (stood_before class) ≡ false
        by_kept class false is out = are.needless class is
        by_kept class true is out = by_known class (under same_class class known.loaded) refl
            (sym (under_any class known.loaded) ∙ kept_in class are.keeps is (keys known.loaded)
            (subst (λ (those : List ClassId). has_class those class ≡ false) are.are out))

    -- it is new
    new_left : under same_class told.class known.loaded ≡ None → (left : List ClassId)
        → AreLeft (λ class. P (stood_before class)) (keys known.loaded) left
        → AreLeft (λ class. P (stands class)) (keys known.loaded ++ told.class ∷ [])
        (left ++ kept_by (P (stands told.class)) told.class)
    new_left none left are = record {
      keeps = λ class. cond (same_class told.class class) (P (stands told.class)) (are.keeps class);
      are =
          let those : ClassId → List ClassId = λ class. kept_by
          (cond (same_class told.class class) (P (stands told.class)) (are.keeps class)) class in
          let last : flat_map those (told.class ∷ []) ≡ kept_by (P (stands told.class)) told.class =
          append-nil (those told.class)
          ∙ ap (λ (b : Bool). kept_by (cond b (P (stands told.class)) (are.keeps told.class)) told.class)
          (eq-eqb told.class.0 told.class.0 refl) in
          sym (flat_map-append those (keys known.loaded) (told.class ∷ [])
          ∙ ap (λ (front : List ClassId). front ++ flat_map those (told.class ∷ []))
          (outside are.keeps (P (stands told.class)) told.class known.loaded none ∙ sym are.are)
          ∙ ap (λ (back : List ClassId). left ++ back) last);
      needless = λ class out. by class (same_class told.class class) refl out;
    }
      where
        by : (class : ClassId) (same : Bool) → same_class told.class class ≡ same
            → cond same (P (stands told.class)) (are.keeps class) ≡ false → P (stands class) ≡ false
        by class false is h = ap P (other_stays class (turned told.class class is)) ∙ are.needless class h
        by class true is h = subst (λ (c : ClassId). P (stands c) ≡ false) (one_class told.class class is) h

  told_open : (left : Option OpenClasses) → IfSome left (AreOpen wanted (found_in known))
      → IfSome (left_told wanted known told left) (AreOpen wanted (found_in later))
  told_open None h = tt
  told_open (Some left) h = by_known (under same_class told.class known.loaded) refl
    where
      by_few : (few : Bool) → keys later.loaded ≡ keys known.loaded
          → IfSome (cond few (Some (record {
            lacking = placed told.class left.lacking (keys later.loaded);
            found = placed told.class left.found (keys later.loaded);
          })) None) (AreOpen wanted (found_in later))
      by_few false order = tt
      by_few true order = record {
        lacking = subst (λ (all : List ClassId). AreLeft (λ class. may_lack (stands class)) all
            (placed told.class left.lacking all)) (sym order) (risen_left may_lack refl left.lacking h.lacking);
        found = subst (λ (all : List ClassId). AreLeft (λ class. may_be_found (stands class)) all
            (placed told.class left.found all)) (sym order) (risen_left may_be_found refl left.found h.found);
      }

      by_within : (within : Bool) → stands_within (stands told.class) (stood_before told.class) ≡ within
          → keys later.loaded ≡ keys known.loaded
          → IfSome (cond within (Some left) (risen (keys later.loaded) told.class left)) (AreOpen wanted (found_in later))
      by_within false is order = by_few (nat_le (length left.found) most_found) order
      by_within true is order = record {
        lacking = subst (λ (all : List ClassId). AreLeft (λ class. may_lack (stands class)) all left.lacking)
            (sym order) (again_left may_lack (lacks_within (stands told.class) (stood_before told.class) is)
            left.lacking h.lacking);
        found = subst (λ (all : List ClassId). AreLeft (λ class. may_be_found (stands class)) all left.found)
            (sym order) (again_left may_be_found (found_within (stands told.class) (stood_before told.class) is)
            left.found h.found);
      }

      by_known : (loaded : Option Loaded) → under same_class told.class known.loaded ≡ loaded
          → IfSome (told_as (keys later.loaded) (option_map (λ (l : Loaded). stood_before told.class) loaded)
          (stands told.class) told.class left) (AreOpen wanted (found_in later))
      by_known None is = record {
        lacking = subst (λ (all : List ClassId). AreLeft (λ class. may_lack (stands class)) all
            (left.lacking ++ kept_by (may_lack (stands told.class)) told.class)) (sym (order_is None is))
            (new_left may_lack is left.lacking h.lacking);
        found = subst (λ (all : List ClassId). AreLeft (λ class. may_be_found (stands class)) all
            (left.found ++ kept_by (may_be_found (stands told.class)) told.class)) (sym (order_is None is))
            (new_left may_be_found is left.found h.found);
      }
      by_known (Some loaded) is = by_within (stands_within (stands told.class) (stood_before told.class)) refl
          (order_is (Some loaded) is)

-- Several -------------------------------------------------------------------------------------------------------------

all_told : (wanted : Wanted) (told : List LoadedClass) (known : Known) (left : Option OpenClasses)
    → IfSome left (AreOpen wanted (found_in known))
    → IfSome (fold (with_told wanted) (known, left) told).1
    (AreOpen wanted (found_in (fold (with_told wanted) (known, left) told).0))
all_told wanted [] known left h = h
all_told wanted (one ∷ others) known left h = all_told wanted others (with_listed known one)
    (left_told wanted known one left) (told_open wanted known one left h)

-- an item that tells of classes
pub taken_open : (wanted : Wanted) (phase : Phase) (composite : Composite) (known now : Known)
    (held left : Option OpenClasses) → (now, left) ≡ left_in wanted phase composite known held
    → IfSome held (AreOpen wanted (found_in known)) → IfSome left (AreOpen wanted (found_in now))
taken_open wanted phase composite known now held left is h =
    subst (λ (pair : Known × Option OpenClasses). IfSome pair.1 (AreOpen wanted (found_in pair.0))) (sym is)
    (all_told wanted (told_in phase composite) known held h)
