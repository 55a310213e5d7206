-- The things that were told in a stop, each once, and their places.
use Rattle.std.proofs.Common.{◌≡◌, ℕ, zero, suc, Bool, true, false, List, [], ◌∷◌, ◌++◌, length}
use Rattle.std.proofs.Common.{Some, refl, sym, ap, ◌∙◌, ◌⊎◌, inl, inr, arith, rules}
use Rattle.std.specs.Prelude.{slice_get, if◌then◌else◌}
use Rattle.std.specs.List.{list_any, position_or_len}
use Rattle.std.proofs.lemmas.Bool.{cond-true, cond-false}
use Rattle.stop_refs.specs.declared.thing.Thing.{Thing}
use Rattle.stop_refs.specs.Things.{same_thing}
use Rattle.stop_refs.specs.Numbers.{Past, InHand, with_thing}
use Rattle.stop_refs.specs.Sessions.{told}

pub same_is : (a b : Thing) → same_thing a b ≡ true → a ≡ b
same_is a b same = search rules

pub same_self : (a : Thing) → same_thing a a ≡ true
same_self a = search rules

-- the things that were told, each once
abbrev pub distinct : List Thing → List Thing
distinct [] = []
distinct (latest ∷ earlier) =
    if list_any (same_thing latest) (distinct earlier) then distinct earlier else distinct earlier ++ latest ∷ []

abbrev pub place : Thing → List Thing → ℕ
place thing things = position_or_len (same_thing thing) things

pub told_is : (things : List Thing) (past : Past)
    → told things past ≡ record { past = past; things = distinct things }
told_is [] past = refl
told_is (latest ∷ earlier) past =
    ap (with_thing latest) (told_is earlier past)
    ∙ by (list_any (same_thing latest) (distinct earlier))
  where
    by : (b : Bool) → (if b then record { past = past; things = distinct earlier }
        else record { past = past; things = distinct earlier ++ latest ∷ [] })
        ≡ (let h : InHand = record {
          past = past;
          things = if b then distinct earlier else distinct earlier ++ latest ∷ [];
        } in h)
    by true = refl
    by false = refl

place-∷ : (thing first : Thing) (others : List Thing)
    → place thing (first ∷ others) ≡ (if same_thing thing first then 0 else suc (place thing others))
place-∷ thing first others = search rules

any-∷ : (thing first : Thing) (others : List Thing)
    → list_any (same_thing thing) (first ∷ others)
    ≡ (if same_thing thing first then true else list_any (same_thing thing) others)
any-∷ thing first others = search rules

-- a thing that is there stands at its place
pub at_place : (thing : Thing) (things : List Thing) → list_any (same_thing thing) things ≡ true
    → slice_get things (place thing things) ≡ Some thing
at_place thing [] there = absurd cc
at_place thing (first ∷ others) there = by (at_place thing others) (same_thing thing first) refl
  where
    by : (list_any (same_thing thing) others ≡ true → slice_get others (place thing others) ≡ Some thing)
        → (b : Bool) → same_thing thing first ≡ b
        → slice_get (first ∷ others) (place thing (first ∷ others)) ≡ Some thing
    by behind_it true same =
        let here : place thing (first ∷ others) ≡ 0 = place-∷ thing first others ∙ cond-true _ _ _ same in
        ap (slice_get (first ∷ others)) here ∙ ap (λ (t : Thing). Some t) (sym (same_is thing first same))
    by behind_it false other =
        let behind : place thing (first ∷ others) ≡ suc (place thing others) =
        place-∷ thing first others ∙ cond-false _ _ _ other in
        let rest : list_any (same_thing thing) others ≡ true =
        sym (cond-false _ _ _ other) ∙ sym (any-∷ thing first others) ∙ there in
        ap (slice_get (first ∷ others)) behind ∙ behind_it rest

-- a thing that stands somewhere is there
pub there_at : (thing : Thing) (things : List Thing) (p : ℕ) → slice_get things p ≡ Some thing
    → list_any (same_thing thing) things ≡ true
there_at thing [] p is = absurd cc
there_at thing (first ∷ others) zero is =
    let same : first ≡ thing = cc in
    any-∷ thing first others ∙ cond-true _ _ _ (ap (same_thing thing) same ∙ same_self thing)
there_at thing (first ∷ others) (suc p) is =
    any-∷ thing first others ∙ by (there_at thing others p is) (same_thing thing first)
  where
    by : list_any (same_thing thing) others ≡ true
        → (b : Bool) → (if b then true else list_any (same_thing thing) others) ≡ true
    by there true = refl
    by there false = there

-- the place of a thing that isn't there is behind all
pub place_of_new : (thing : Thing) (things : List Thing) → list_any (same_thing thing) things ≡ false
    → place thing things ≡ length things
place_of_new thing [] new = refl
place_of_new thing (first ∷ others) new = by (place_of_new thing others) (same_thing thing first) refl
  where
    by : (list_any (same_thing thing) others ≡ false → place thing others ≡ length others)
        → (b : Bool) → same_thing thing first ≡ b → place thing (first ∷ others) ≡ length (first ∷ others)
    by behind_it true same = absurd (let there = any-∷ thing first others ∙ cond-true _ _ _ same in cc)
    by behind_it false other =
        let rest : list_any (same_thing thing) others ≡ false =
        sym (cond-false _ _ _ other) ∙ sym (any-∷ thing first others) ∙ new in
        let n : place thing others ≡ length others = behind_it rest in
        place-∷ thing first others ∙ cond-false _ _ _ other ∙ ap suc n ∙ omega arith

-- what stands in front stays where it is
pub get_in_front : (things others : List Thing) (p : ℕ) (thing : Thing) → slice_get things p ≡ Some thing
    → slice_get (things ++ others) p ≡ Some thing
get_in_front [] others p thing is = absurd cc
get_in_front (first ∷ things) others zero thing is = is
get_in_front (first ∷ things) others (suc p) thing is = get_in_front things others p thing is

pub get_last : (things : List Thing) (thing : Thing) → slice_get (things ++ thing ∷ []) (length things) ≡ Some thing
get_last [] thing = refl
get_last (first ∷ things) thing =
    let n : length (first ∷ things) ≡ suc (length things) = omega arith in
    ap (slice_get (first ∷ (things ++ thing ∷ []))) n ∙ get_last things thing

-- a thing stands in front, or is the last one
pub get_either : (things : List Thing) (last : Thing) (p : ℕ) (thing : Thing)
    → slice_get (things ++ last ∷ []) p ≡ Some thing
    → (slice_get things p ≡ Some thing) ⊎ ((p ≡ length things) × (thing ≡ last))
get_either [] last zero thing is = inr (refl, cc)
get_either [] last (suc p) thing is = absurd cc
get_either (first ∷ things) last zero thing is = inl is
get_either (first ∷ things) last (suc p) thing is =
    elim (get_either things last p thing is) [
      | inl front ↦ inl front
      | inr end ↦ inr (let n = end.0 in omega arith, end.1)
    ]

-- a thing that was told keeps its place, whatever is told behind it
pub keeps_place : (behind before : List Thing) (p : ℕ) (thing : Thing) → slice_get (distinct before) p ≡ Some thing
    → slice_get (distinct (behind ++ before)) p ≡ Some thing
keeps_place [] before p thing is = is
keeps_place (latest ∷ behind) before p thing is =
    by (keeps_place behind before p thing is) (list_any (same_thing latest) (distinct (behind ++ before)))
  where
    by : slice_get (distinct (behind ++ before)) p ≡ Some thing
        → (b : Bool) → slice_get
        (if b then distinct (behind ++ before) else distinct (behind ++ before) ++ latest ∷ []) p ≡ Some thing
    by kept true = kept
    by kept false = get_in_front (distinct (behind ++ before)) (latest ∷ []) p thing kept

-- a thing that is told has its place from then on
pub told_at : (thing : Thing) (before : List Thing)
    → slice_get (distinct (thing ∷ before)) (place thing (distinct before)) ≡ Some thing
told_at thing before = by (list_any (same_thing thing) (distinct before)) refl
  where
    by : (b : Bool) → list_any (same_thing thing) (distinct before) ≡ b
        → slice_get (distinct (thing ∷ before)) (place thing (distinct before)) ≡ Some thing
    by true there =
        ap (λ (l : List Thing). slice_get l (place thing (distinct before))) (cond-true _ _ _ there)
        ∙ at_place thing (distinct before) there
    by false new =
        ap (λ (l : List Thing). slice_get l (place thing (distinct before))) (cond-false _ _ _ new)
        ∙ ap (slice_get (distinct before ++ thing ∷ [])) (place_of_new thing (distinct before) new)
        ∙ get_last (distinct before) thing

-- what stands at a place was told there
pub record WasTold (things : List Thing) (p : ℕ) (thing : Thing) : Type 0 where
  pub behind : List Thing
  pub before : List Thing
  pub things_are : things ≡ behind ++ thing ∷ before
  pub place_is : p ≡ place thing (distinct before)

pub was_told : (things : List Thing) (p : ℕ) (thing : Thing) → slice_get (distinct things) p ≡ Some thing
    → WasTold things p thing
was_told [] p thing is = absurd cc
was_told (latest ∷ earlier) p thing is =
    by (was_told earlier p thing) (list_any (same_thing latest) (distinct earlier)) refl
  where
    more : WasTold earlier p thing → WasTold (latest ∷ earlier) p thing
    more told = record {
      behind = latest ∷ told.behind;
      before = told.before;
      things_are = ap (λ (l : List Thing). latest ∷ l) told.things_are;
      place_is = told.place_is;
    }

    by : (slice_get (distinct earlier) p ≡ Some thing → WasTold earlier p thing)
        → (b : Bool) → list_any (same_thing latest) (distinct earlier) ≡ b → WasTold (latest ∷ earlier) p thing
    by in_front true there =
        more (in_front
        (ap (λ (l : List Thing). slice_get l p) (sym (cond-true _ _ _ there)) ∙ is))
    by in_front false new =
        elim (get_either (distinct earlier) latest p thing
        (ap (λ (l : List Thing). slice_get l p) (sym (cond-false _ _ _ new)) ∙ is)) [
          | inl front ↦ more (in_front front)
          | inr end ↦ record {
            behind = [];
            before = earlier;
            things_are = ap (λ (t : Thing). t ∷ earlier) (sym end.1);
            place_is = end.0 ∙ sym (place_of_new latest (distinct earlier) new)
                ∙ ap (λ (t : Thing). place t (distinct earlier)) (sym end.1);
          }
        ]

-- a thing stands at one place alone
pub one_place : (things : List Thing) (p q : ℕ) (thing : Thing) → slice_get (distinct things) p ≡ Some thing
    → slice_get (distinct things) q ≡ Some thing → p ≡ q
one_place [] p q thing is other = absurd cc
one_place (latest ∷ earlier) p q thing is other =
    by (one_place earlier p q thing) (list_any (same_thing latest) (distinct earlier)) refl
  where
    never : (r : ℕ) → list_any (same_thing latest) (distinct earlier) ≡ false → thing ≡ latest
        → slice_get (distinct earlier) r ≡ Some thing → ⊥
    never r new same there =
        let t : list_any (same_thing latest) (distinct earlier) ≡ true =
        there_at latest (distinct earlier) r (there ∙ ap (λ (t : Thing). Some t) same) in
        cc

    by : (slice_get (distinct earlier) p ≡ Some thing → slice_get (distinct earlier) q ≡ Some thing → p ≡ q)
        → (b : Bool) → list_any (same_thing latest) (distinct earlier) ≡ b → p ≡ q
    by in_front true there =
        in_front (ap (λ (l : List Thing). slice_get l p) (sym (cond-true _ _ _ there)) ∙ is)
        (ap (λ (l : List Thing). slice_get l q) (sym (cond-true _ _ _ there)) ∙ other)
    by in_front false new =
        elim (get_either (distinct earlier) latest p thing
        (ap (λ (l : List Thing). slice_get l p) (sym (cond-false _ _ _ new)) ∙ is)) [
          | inl front ↦ elim (get_either (distinct earlier) latest q thing
              (ap (λ (l : List Thing). slice_get l q) (sym (cond-false _ _ _ new)) ∙ other)) [
                | inl also ↦ in_front front also
                | inr end ↦ absurd (never p new end.1 front)
              ]
          | inr end ↦ elim (get_either (distinct earlier) latest q thing
              (ap (λ (l : List Thing). slice_get l q) (sym (cond-false _ _ _ new)) ∙ other)) [
                | inl also ↦ absurd (never q new end.1 also)
                | inr last ↦ end.0 ∙ sym last.0
              ]
        ]
