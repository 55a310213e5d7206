-- What tables have after a session is what a scan of it tells.
use Rattle.std.proofs.Common.{◌≡◌, ℕ, Bool, true, false, cond, List, [], ◌∷◌, ◌++◌, filter, reverse, Option}
use Rattle.std.proofs.Common.{None, Some}
use Rattle.std.proofs.Common.{option_map, refl, sym, ap, ◌∙◌}
use Rattle.std.specs.Prelude.{◌==◌, not, ◌||◌, ◌&&◌, filter_map}
use Rattle.std.specs.List.{list_any, cons_option}
use Rattle.std.proofs.lemmas.List.{append-nil}
use Rattle.std.proofs.lemmas.Bool.{eqb-true, cond-true, cond-false}
use Rattle.std.proofs.lemmas.List.Elements.{filter-append, filter_map-append}
use Rattle.std.proofs.lemmas.Map.Views.{any-filter_same}
use Rattle.std.proofs.lemmas.Grind.{reverse_onto}
use Rattle.jdwp_values.specs.declared.id.ClassId.{ClassId}
use Rattle.jdwp_values.specs.declared.id.MethodId.{MethodId}
use Rattle.jdwp_values.specs.declared.tag.TypeTag.{TypeTag}
use Rattle.class_tables.specs.declared.loaded.Loaded.{Loaded}
use Rattle.class_tables.specs.Tables.{under, keys}
use Rattle.class_tables.specs.Facts.{Fact, is_loaded, has_source, has_methods, has_lines, has_variables, has_fields}
use Rattle.class_tables.specs.Facts.{is_below, MethodOf, same_class, same_method, is_prepared}
use Rattle.class_tables.specs.Lookups.{found_in}
use Rattle.class_tables.specs.Histories.{firsts, after, told_by, first_some, last_told, loaded_told, source_told}
use Rattle.class_tables.specs.Histories.{methods_told, lines_told, variables_told, fields_told, super_told}
use Rattle.class_tables.specs.Histories.{tells_prepared, class_listed, ever_prepared}
use Rattle.class_tables.proofs.TableLaws.{under-put, keys-put}

-- two ids that pass the test are one
one_class : (a b : ClassId) → same_class a b ≡ true → a ≡ b
one_class a b e = let n : a.0 ≡ b.0 = eqb-true a.0 b.0 e in λ i. record { 0 = n i }

both_true : (a b : Bool) → (a && b) ≡ true → (a ≡ true) × (b ≡ true)
both_true true b e = (refl, e)
both_true false b e = absurd cc

one_method : (a b : MethodOf) → same_method a b ≡ true → a ≡ b
one_method a b e =
    let both = both_true (same_class a.0 b.0) (a.1.0 == b.1.0) e in
    let class : a.0 ≡ b.0 = one_class a.0 b.0 both.0 in
    let method : a.1.0 ≡ b.1.0 = eqb-true a.1.0 b.1.0 both.1 in
    λ i. (class i, record { 0 = method i })

-- a fact of this key is the last that was told, another leaves what was told before
told_next : {A : Type 0} (b : Bool) (x : A) (found told : Option A) → found ≡ told
    → cond b (Some x) found ≡ first_some (cond b (Some x) None) told
told_next true x found told e = refl
told_next false x found told e = e

source : (class : ClassId) (history : List Fact)
    → under same_class class (after history).sources ≡ last_told (source_told class) history
source class [] = refl
source class (has_source other x ∷ earlier) =
    under-put same_class one_class other x class (after earlier).sources
    ∙ told_next (same_class class other) x _ _ (source class earlier)
source class (fact ∷ earlier) = source class earlier

methods : (class : ClassId) (history : List Fact)
    → under same_class class (after history).methods ≡ last_told (methods_told class) history
methods class [] = refl
methods class (has_methods other x ∷ earlier) =
    under-put same_class one_class other x class (after earlier).methods
    ∙ told_next (same_class class other) x _ _ (methods class earlier)
methods class (fact ∷ earlier) = methods class earlier

lines : (class : ClassId) (method : MethodId) (history : List Fact)
    → under same_method (class, method) (after history).lines ≡ last_told (lines_told class method) history
lines class method [] = refl
lines class method (has_lines c m x ∷ earlier) =
    under-put same_method one_method (c, m) x (class, method) (after earlier).lines
    ∙ told_next (same_method (class, method) (c, m)) x _ _ (lines class method earlier)
lines class method (fact ∷ earlier) = lines class method earlier

variables : (class : ClassId) (method : MethodId) (history : List Fact)
    → under same_method (class, method) (after history).variables ≡ last_told (variables_told class method) history
variables class method [] = refl
variables class method (has_variables c m x ∷ earlier) =
    under-put same_method one_method (c, m) x (class, method) (after earlier).variables
    ∙ told_next (same_method (class, method) (c, m)) x _ _ (variables class method earlier)
variables class method (fact ∷ earlier) = variables class method earlier

fields : (class : ClassId) (history : List Fact)
    → under same_class class (after history).fields ≡ last_told (fields_told class) history
fields class [] = refl
fields class (has_fields other x ∷ earlier) =
    under-put same_class one_class other x class (after earlier).fields
    ∙ told_next (same_class class other) x _ _ (fields class earlier)
fields class (fact ∷ earlier) = fields class earlier

above : (class : ClassId) (history : List Fact)
    → under same_class class (after history).supers ≡ last_told (super_told class) history
above class [] = refl
above class (is_below other x ∷ earlier) =
    under-put same_class one_class other x class (after earlier).supers
    ∙ told_next (same_class class other) x _ _ (above class earlier)
above class (fact ∷ earlier) = above class earlier

-- whether a class was ever told to be prepared
abbrev was_prepared : ClassId → List Fact → Bool
was_prepared class history = list_any (tells_prepared class) history

-- a class that was never listed was never told to be prepared
never_prepared : (class : ClassId) (history : List Fact) → last_told (loaded_told class) history ≡ None
    → was_prepared class history ≡ false
never_prepared class [] none = refl
never_prepared class (is_loaded other tag signature prepared ∷ earlier) none =
    by (same_class class other) none (never_prepared class earlier)
  where
    by : (b : Bool)
        → first_some (cond b (Some (record { tag = tag; signature = signature; prepared = prepared })) None)
        (last_told (loaded_told class) earlier) ≡ None
        → (last_told (loaded_told class) earlier ≡ None → was_prepared class earlier ≡ false)
        → ((b && prepared) || was_prepared class earlier) ≡ false
    by true e again = absurd cc
    by false e again = again e
never_prepared class (fact ∷ earlier) none = never_prepared class earlier none

-- whether the class is prepared as it is found
prepared_so_far : (class : ClassId) (history : List Fact)
    → is_prepared (option_map (ever_prepared (was_prepared class history)) (last_told (loaded_told class) history))
    ≡ was_prepared class history
prepared_so_far class history = by (last_told (loaded_told class) history) refl
  where
    by : (told : Option Loaded) → last_told (loaded_told class) history ≡ told
        → is_prepared (option_map (ever_prepared (was_prepared class history)) told) ≡ was_prepared class history
    by None e = sym (never_prepared class history e)
    by (Some x) e = refl

abbrev listed : TypeTag → List ℕ → Bool → Loaded
listed tag signature prepared = record { tag = tag; signature = signature; prepared = prepared }

loaded : (class : ClassId) (history : List Fact)
    → under same_class class (after history).loaded
    ≡ option_map (ever_prepared (was_prepared class history)) (last_told (loaded_told class) history)
loaded class [] = refl
loaded class (is_loaded other tag signature prepared ∷ earlier) =
    under-put same_class one_class other _ class (after earlier).loaded
    ∙ by (same_class class other) refl (loaded class earlier)
  where
    by : (b : Bool) → same_class class other ≡ b
        → under same_class class (after earlier).loaded
        ≡ option_map (ever_prepared (was_prepared class earlier)) (last_told (loaded_told class) earlier)
        → cond b (Some (listed tag signature (prepared || is_prepared (under same_class other (after earlier).loaded))))
        (under same_class class (after earlier).loaded)
        ≡ option_map (ever_prepared ((b && prepared) || was_prepared class earlier))
        (first_some (cond b (Some (listed tag signature prepared)) None) (last_told (loaded_told class) earlier))
    by true e again =
        let one : class ≡ other = one_class class other e in
        let same : under same_class other (after earlier).loaded ≡ under same_class class (after earlier).loaded =
        ap (λ (c : ClassId). under same_class c (after earlier).loaded) (sym one) in
        ap (λ (stays : Bool). Some (listed tag signature (prepared || stays)))
        (ap is_prepared (same ∙ again) ∙ prepared_so_far class earlier)
    by false e again = again
loaded class (fact ∷ earlier) = loaded class earlier

-- the test doesn't mind the order of two ids
same_back : (a b : ClassId) → same_class a b ≡ same_class b a
same_back a b = by (same_class a b) refl (same_class b a) refl
  where
    by : (x : Bool) → same_class a b ≡ x → (y : Bool) → same_class b a ≡ y → x ≡ y
    by true e true f = refl
    by false e false f = refl
    by true e false f =
        absurd (let is = ap (λ (c : ClassId). same_class c a) (one_class a b e) in
        let back = ap (same_class a) (one_class a b e) in cc)
    by false e true f =
        absurd (let is = ap (λ (c : ClassId). same_class c b) (one_class b a f) in
        let back = ap (same_class b) (one_class b a f) in cc)

-- a class that is left out isn't another
kept : (key x : ClassId) → same_class key x ≡ false → (other : ClassId) → same_class key other ≡ true
    → not (same_class x other) ≡ true
kept key x apart other is =
    let at : same_class x key ≡ same_class x other = ap (same_class x) (one_class key other is) in
    ap not (sym at ∙ same_back x key ∙ apart)

-- each class that is among some is among the firsts of them
any_first : (key : ClassId) (classes : List ClassId)
    → list_any (same_class key) (firsts classes) ≡ list_any (same_class key) classes
any_first key [] = refl
any_first key (x ∷ classes) = by (same_class key x) refl (any_first key classes)
  where
    by : (b : Bool) → same_class key x ≡ b
        → list_any (same_class key) (firsts classes) ≡ list_any (same_class key) classes
        → (b || list_any (same_class key) (filter (λ other. not (same_class x other)) (firsts classes)))
        ≡ (b || list_any (same_class key) classes)
    by true e again = refl
    by false e again =
        any-filter_same (same_class key) (λ other. not (same_class x other)) true (kept key x e) (firsts classes)
        ∙ again

-- some classes but one
abbrev others : ClassId → List ClassId → List ClassId
others x classes = filter (λ other. not (same_class x other)) classes

-- the firsts, where one more class comes
firsts-push : (key : ClassId) (classes : List ClassId)
    → firsts (classes ++ key ∷ [])
    ≡ cond (list_any (same_class key) classes) (firsts classes) (firsts classes ++ key ∷ [])
firsts-push key [] = refl
firsts-push key (x ∷ classes) =
    by (same_class key x) refl (list_any (same_class key) classes) (firsts-push key classes)
  where
    left_out : (b : Bool) → same_class key x ≡ b → others x (key ∷ []) ≡ cond b [] (key ∷ [])
    left_out true e = cond-false _ (key ∷ []) [] (ap not (same_back x key ∙ e))
    left_out false e = cond-true _ (key ∷ []) [] (ap not (same_back x key ∙ e))

    apart : (b : Bool) → same_class key x ≡ b
        → others x (firsts classes ++ key ∷ []) ≡ others x (firsts classes) ++ cond b [] (key ∷ [])
    apart b e =
        filter-append (λ other. not (same_class x other)) (firsts classes) (key ∷ [])
        ∙ ap (λ (l : List ClassId). others x (firsts classes) ++ l) (left_out b e)

    by : (b : Bool) → same_class key x ≡ b → (c : Bool)
        → firsts (classes ++ key ∷ []) ≡ cond c (firsts classes) (firsts classes ++ key ∷ [])
        → x ∷ others x (firsts (classes ++ key ∷ []))
        ≡ cond (b || c) (x ∷ others x (firsts classes)) ((x ∷ others x (firsts classes)) ++ key ∷ [])
    by true e true again = ap (λ (l : List ClassId). x ∷ others x l) again
    by false e true again = ap (λ (l : List ClassId). x ∷ others x l) again
    by true e false again =
        ap (λ (l : List ClassId). x ∷ others x l) again
        ∙ ap (λ (l : List ClassId). x ∷ l) (apart true e ∙ append-nil (others x (firsts classes)))
    by false e false again =
        ap (λ (l : List ClassId). x ∷ others x l) again ∙ ap (λ (l : List ClassId). x ∷ l) (apart false e)

-- the classes that were listed, the first of them first
abbrev classes_listed : List Fact → List ClassId
classes_listed history = filter_map class_listed (reverse history)

listed_next : (fact : Fact) (earlier : List Fact)
    → classes_listed (fact ∷ earlier) ≡ classes_listed earlier ++ filter_map class_listed (fact ∷ [])
listed_next fact earlier =
    ap (filter_map class_listed) (reverse_onto earlier fact [])
    ∙ filter_map-append class_listed (reverse earlier) (fact ∷ [])

lists_none : (fact : Fact) (earlier : List Fact) → class_listed fact ≡ None
    → classes_listed (fact ∷ earlier) ≡ classes_listed earlier
lists_none fact earlier none =
    listed_next fact earlier
    ∙ ap (λ (o : Option ClassId). classes_listed earlier ++ cons_option o []) none
    ∙ append-nil (classes_listed earlier)

order : (history : List Fact) → keys (after history).loaded ≡ firsts (classes_listed history)
order [] = refl
order (is_loaded class tag signature prepared ∷ earlier) =
    keys-put same_class class _ (after earlier).loaded
    ∙ ap (λ (l : List ClassId). cond (list_any (same_class class) l) l (l ++ class ∷ [])) (order earlier)
    ∙ ap (λ (b : Bool). cond b (firsts (classes_listed earlier)) (firsts (classes_listed earlier) ++ class ∷ []))
    (any_first class (classes_listed earlier))
    ∙ sym (firsts-push class (classes_listed earlier))
    ∙ ap firsts (sym (listed_next (is_loaded class tag signature prepared) earlier))
order (fact ∷ earlier) = order earlier ∙ ap firsts (sym (lists_none fact earlier refl))

pub found_is_told : (history : List Fact) → found_in (after history) ≡ told_by history
found_is_told history = λ i. record {
  order = order history i;
  loaded = λ class. loaded class history i;
  source = λ class. source class history i;
  methods = λ class. methods class history i;
  lines = λ class method. lines class method history i;
  variables = λ class method. variables class method history i;
  fields = λ class. fields class history i;
  above = λ class. above class history i;
}
