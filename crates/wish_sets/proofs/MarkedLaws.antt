-- A slot is marked as the outcome of a change says: what is kept fits what is wanted still, and says what stands.
use Rattle.std.proofs.Common.{◌≡◌, ℕ, ◌+◌, ◌<◌, ◌^◌, Bool, true, false, not, List, [], ◌∷◌, ◌++◌, refl, ap, sym, subst}
use Rattle.std.proofs.Common.{◌∙◌, cond, Option, Some, None}
use Rattle.std.specs.Prelude.{◌||◌, ◌&&◌, find, filter, map, filter_map, is_some}
use Rattle.std.specs.BTreeSet.{insert_key}
use Rattle.std.specs.List.{list_any, AllByRecursion, cons_option}
use Rattle.std.specs.List.Sorted.{IsStrictlySortedBy}
use Rattle.wish_sets.specs.declared.change.Settled.{Settled}
use Rattle.wish_sets.specs.declared.change.Settled.TheVariants as outcomes
use Rattle.wish_sets.specs.declared.slot.Slot.{Slot}
use Rattle.wish_sets.specs.declared.wants.Wants.{Wants}
use Rattle.wish_sets.specs.declared.wish.StepWish.{StepWish}
use Rattle.wish_sets.specs.declared.wish.Wish.{Wish}
use Rattle.wish_sets.specs.Kept.{wanted_by, wishes_by, AreThrown, AreSteps, AreFixed, AreKept, is_sound}
use Rattle.wish_sets.specs.Order.{has_wish, wish_cmp, wish_rank}
use Rattle.wish_sets.specs.Slots.{wishes_in, requests_in, request_in, refusals_in, is_late, is_unset, awaits, marked}
use Rattle.wish_sets.specs.Slots.{with_first}
use Rattle.wish_sets.specs.Wanted.{Wanted}
use Rattle.wish_sets.specs.Wished.{wished, stepping}
use Rattle.wish_sets.specs.Wishes.{Wishes, EventRequest, WishChange, clears, sets, next_change, is_outcome, is_cleared}
use Rattle.wish_sets.specs.Wishes.{settled, settled_by, is_missing, is_surplus, cleared, installed_as, refused_now}
use Rattle.wish_sets.specs.Wishes.{set_by}
use Rattle.wish_sets.proofs.WishLaws.{none-any}
use Rattle.wish_sets.proofs.NextLaws.{clears-is, sets-is}
use Rattle.wish_sets.proofs.FirstLaws.{changed-append, each_changed, length-changed}
use Rattle.wish_sets.proofs.SlotLaws.{wishes_of, Tells}
use Rattle.wish_sets.proofs.KeptLaws.{kept_wishes, tells_wished, tells_unset}
use Rattle.wish_sets.proofs.OutcomeLaws.{cleared_first, set_first}

-- What a mark keeps ---------------------------------------------------------------------------------------------------

-- a slot is of the same wish, and wished as before
record IsAlike (new old : Slot) : Type 0 where
  wish : new.wish ≡ old.wish
  wished : new.wished ≡ old.wished

marked_alike : (outcome : Settled) (slot : Slot) → IsAlike (marked outcome slot) slot
marked_alike outcomes.Cleared slot = record { wish = refl; wished = refl }
marked_alike (outcomes.Installed request) slot = record { wish = refl; wished = refl }
marked_alike (outcomes.Refused code) slot = record { wish = refl; wished = refl }

itself : (slot : Slot) → IsAlike slot slot
itself slot = record { wish = refl; wished = refl }

alike_wishes : (new old : Slot) (slots others : List Slot) → IsAlike new old → wishes_in slots ≡ wishes_in others
    → wishes_in (new ∷ slots) ≡ wishes_in (old ∷ others)
alike_wishes new old slots others alike e = by old.wished alike.wished
  where
    by : (b : Bool) → new.wished ≡ b → wishes_in (new ∷ slots) ≡ wishes_in (record old { wished = b } ∷ others)
    by true f = rw f (ap (λ w. w ∷ wishes_in slots) alike.wish ∙ ap (λ ws. old.wish ∷ ws) e)
    by false f = rw f e

module _ (test : Slot → Bool) (outcome : Settled) where
  wishes_stay : (slots : List Slot) → wishes_of (with_first test (marked outcome) slots) ≡ wishes_of slots
  wishes_stay [] = refl
  wishes_stay (slot ∷ slots) = by (test slot) (wishes_stay slots)
    where
      by : (b : Bool) → wishes_of (with_first test (marked outcome) slots) ≡ wishes_of slots
          → wishes_of (cond b (marked outcome slot ∷ slots) (slot ∷ with_first test (marked outcome) slots))
          ≡ slot.wish ∷ wishes_of slots
      by true e = ap (λ w. w ∷ wishes_of slots) (marked_alike outcome slot).wish
      by false e = ap (λ ws. slot.wish ∷ ws) e

  wished_stay : (slots : List Slot) → wishes_in (with_first test (marked outcome) slots) ≡ wishes_in slots
  wished_stay [] = refl
  wished_stay (slot ∷ slots) = by (test slot) (wished_stay slots)
    where
      by : (b : Bool) → wishes_in (with_first test (marked outcome) slots) ≡ wishes_in slots
          → wishes_in (cond b (marked outcome slot ∷ slots) (slot ∷ with_first test (marked outcome) slots))
          ≡ wishes_in (slot ∷ slots)
      by true e = alike_wishes (marked outcome slot) slot slots slots (marked_alike outcome slot) refl
      by false e = alike_wishes slot slot (with_first test (marked outcome) slots) slots (itself slot) e

sound_marked : (outcome : Settled) (slot : Slot) → awaits outcome slot ≡ true → is_sound slot ≡ true
    → is_sound (marked outcome slot) ≡ true
sound_marked outcomes.Cleared slot e sound = by (is_some slot.request) slot.wished slot.refused e sound
  where
    by : (a b c : Bool) → (a && not b) ≡ true → (not c || (b && not a)) ≡ true → (not c || (b && true)) ≡ true
    by a b false e f = refl
    by true true true e f = absurd (cc)
    by true false true e f = absurd (cc)
    by false b true e f = absurd (cc)
sound_marked (outcomes.Installed request) slot e sound = by slot.wished (is_some slot.request) slot.refused e
  where
    by : (a b c : Bool) → (a && (not b && not c)) ≡ true → (not c || (a && false)) ≡ true
    by a b false e = refl
    by true true true e = absurd (cc)
    by true false true e = absurd (cc)
    by false b true e = absurd (cc)
sound_marked (outcomes.Refused code) slot e sound = by slot.wished (is_some slot.request) slot.refused e
  where
    by : (a b c : Bool) → (a && (not b && not c)) ≡ true → (a && not b) ≡ true
    by true false c e = refl
    by true true c e = absurd (cc)
    by false b c e = absurd (cc)

-- What is fixed -------------------------------------------------------------------------------------------------------

thrown_stay : (wanted : Wanted) (p q r p' q' r' : Slot) → AreThrown wanted p q r → IsAlike p' p → IsAlike q' q
    → IsAlike r' r → AreThrown wanted p' q' r'
thrown_stay wanted p q r p' q' r' these at_p at_q at_r = record {
  uncaught = at_p.wish ∙ these.uncaught;
  caught = at_q.wish ∙ these.caught;
  both = at_r.wish ∙ these.both;
  wishes = alike_wishes p' p (q' ∷ r' ∷ []) (q ∷ r ∷ []) at_p (alike_wishes q' q (r' ∷ []) (r ∷ []) at_q
      (alike_wishes r' r [] [] at_r refl)) ∙ these.wishes;
}

steps_stay : (wanted : Wanted) (a b a' b' : Slot) → AreSteps wanted a b → IsAlike a' a → IsAlike b' b
    → (is_some a'.request && is_some b'.request) ≡ false → AreSteps wanted a' b'
steps_stay wanted a b a' b' these at_a at_b once = record {
  first = these.first;
  second = these.second;
  first_is = at_a.wish ∙ these.first_is;
  second_is = at_b.wish ∙ these.second_is;
  wishes = alike_wishes a' a (b' ∷ []) (b ∷ []) at_a (alike_wishes b' b [] [] at_b refl) ∙ these.wishes;
  once = once;
}

two_steps : (x y : Wish) (step : Option StepWish) → x ∷ y ∷ [] ≡ stepping step → true ≡ false
two_steps x y None e = absurd (cc)
two_steps x y (Some step) e = absurd (cc)

-- of two steps that are wished one is no wish
one_step : (wanted : Wanted) (a b : Slot) → AreSteps wanted a b → a.wished ≡ true → b.wished ≡ true → true ≡ false
one_step wanted a b these e f =
    two_steps a.wish b.wish wanted.step (sym (rw (e, f) refl) ∙ these.wishes)

none_stands : (slot : Slot) → is_late slot ≡ false → (slot.wished ≡ true → true ≡ false) → is_some slot.request ≡ false
none_stands slot quiet not_wished = by (is_some slot.request) refl slot.wished refl quiet
  where
    by : (a : Bool) → is_some slot.request ≡ a → (b : Bool) → slot.wished ≡ b → (a && not b) ≡ false → a ≡ false
    by false e b f g = refl
    by true e true f g = absurd (let h = not_wished f in cc)
    by true e false f g = absurd (cc)

unset_wished : (slot : Slot) → is_unset slot ≡ true → slot.wished ≡ true
unset_wished slot e = by slot.wished e
  where
    by : (a : Bool) → (a && (not (is_some slot.request) && not slot.refused)) ≡ true → a ≡ true
    by true e = refl
    by false e = absurd (cc)

-- nothing has to be cleared where a wish is installed
abbrev pub IsQuiet : Settled → List Slot → Type 0
IsQuiet outcome slots = is_cleared outcome ≡ false → list_any is_late slots ≡ false

and-last : (b : Bool) → (b && false) ≡ false
and-last true = refl
and-last false = refl

once_first : (wanted : Wanted) (a b : Slot) (outcome : Settled) → AreSteps wanted a b → awaits outcome a ≡ true
    → (is_cleared outcome ≡ false → is_late b ≡ false)
    → (is_some (marked outcome a).request && is_some b.request) ≡ false
once_first wanted a b outcomes.Cleared these e quiet = refl
once_first wanted a b (outcomes.Refused code) these e quiet = these.once
once_first wanted a b (outcomes.Installed request) these e quiet =
    none_stands b (quiet refl) (λ f. one_step wanted a b these (unset_wished a e) f)

once_second : (wanted : Wanted) (a b : Slot) (outcome : Settled) → AreSteps wanted a b → awaits outcome b ≡ true
    → (is_cleared outcome ≡ false → is_late a ≡ false)
    → (is_some a.request && is_some (marked outcome b).request) ≡ false
once_second wanted a b outcomes.Cleared these e quiet = and-last (is_some a.request)
once_second wanted a b (outcomes.Refused code) these e quiet = these.once
once_second wanted a b (outcomes.Installed request) these e quiet =
    rw (none_stands a (quiet refl) (λ f. one_step wanted a b these f (unset_wished b e))) refl

or-parts : (a b : Bool) → (a || b) ≡ false → (a ≡ false) × (b ≡ false)
or-parts true b e = absurd (cc)
or-parts false b e = (refl, e)

module _ (wanted : Wanted) (outcome : Settled) (p q r a b : Slot) (exceptions : AreThrown wanted p q r)
    (steps : AreSteps wanted a b) (quiet : IsQuiet outcome (p ∷ q ∷ r ∷ a ∷ b ∷ [])) where
  with_thrown : (p' q' r' : Slot) → IsAlike p' p → IsAlike q' q → IsAlike r' r
      → AreFixed wanted (p' ∷ q' ∷ r' ∷ a ∷ b ∷ [])
  with_thrown p' q' r' at_p at_q at_r = record {
    p = p';
    q = q';
    r = r';
    a = a;
    b = b;
    these = refl;
    exceptions = thrown_stay wanted p q r p' q' r' exceptions at_p at_q at_r;
    steps = steps;
  }

  with_steps : (a' b' : Slot) → IsAlike a' a → IsAlike b' b → (is_some a'.request && is_some b'.request) ≡ false
      → AreFixed wanted (p ∷ q ∷ r ∷ a' ∷ b' ∷ [])
  with_steps a' b' at_a at_b once = record {
    p = p;
    q = q;
    r = r;
    a = a';
    b = b';
    these = refl;
    exceptions = exceptions;
    steps = steps_stay wanted a b a' b' steps at_a at_b once;
  }

  late_last : is_cleared outcome ≡ false → (is_late a ≡ false) × (is_late b ≡ false)
  late_last e =
      let all : (is_late p || (is_late q || (is_late r || (is_late a || (is_late b || false))))) ≡ false =
      quiet e in
      let ab = (or-parts (is_late r) _ (or-parts (is_late q) _ (or-parts (is_late p) _ all).1).1).1 in
      let parts = or-parts (is_late a) (is_late b || false) ab in
      (parts.0, (or-parts (is_late b) false parts.1).0)

  five_marked : (at_p at_q at_r at_a : Bool) → awaits outcome a ≡ at_a → (at_b : Bool) → awaits outcome b ≡ at_b
      → AreFixed wanted (cond at_p (marked outcome p ∷ q ∷ r ∷ a ∷ b ∷ []) (p ∷ cond at_q (marked outcome q ∷ r ∷ a ∷ b
      ∷ [])
      (q ∷ cond at_r (marked outcome r ∷ a ∷ b ∷ []) (r ∷ cond at_a (marked outcome a ∷ b ∷ [])
      (a ∷ cond at_b (marked outcome b ∷ []) (b ∷ []))))))
  five_marked true at_q at_r at_a e at_b f =
      with_thrown (marked outcome p) q r (marked_alike outcome p) (itself q) (itself r)
  five_marked false true at_r at_a e at_b f =
      with_thrown p (marked outcome q) r (itself p) (marked_alike outcome q) (itself r)
  five_marked false false true at_a e at_b f =
      with_thrown p q (marked outcome r) (itself p) (itself q) (marked_alike outcome r)
  five_marked false false false true e at_b f =
      with_steps (marked outcome a) b (marked_alike outcome a) (itself b)
      (once_first wanted a b outcome steps e (λ h. (late_last h).1))
  five_marked false false false false e true f =
      with_steps a (marked outcome b) (itself a) (marked_alike outcome b)
      (once_second wanted a b outcome steps f (λ h. (late_last h).0))
  five_marked false false false false e false f = with_steps a b (itself a) (itself b) steps.once

pub fixed_marked : (wanted : Wanted) (outcome : Settled) (fixed : List Slot) → AreFixed wanted fixed
    → IsQuiet outcome fixed → AreFixed wanted (with_first (awaits outcome) (marked outcome) fixed)
fixed_marked wanted outcome fixed these quiet =
    subst (λ slots. AreFixed wanted (with_first (awaits outcome) (marked outcome) slots)) (sym these.these)
    (five_marked wanted outcome these.p these.q these.r these.a these.b these.exceptions these.steps
    (subst (IsQuiet outcome) these.these quiet)
    (awaits outcome these.p) (awaits outcome these.q) (awaits outcome these.r) (awaits outcome these.a) refl
    (awaits outcome these.b) refl)

-- All that is kept ----------------------------------------------------------------------------------------------------

module _ (wanted : Wanted) (outcome : Settled) (slots fixed : List Slot) (kept : AreKept wanted slots fixed)
    (quiet : IsQuiet outcome fixed) where
  abbrev pub slots_after : List Slot
  slots_after = with_first (awaits outcome) (marked outcome) slots

  abbrev pub fixed_after : List Slot
  fixed_after = cond (list_any (awaits outcome) slots) fixed (with_first (awaits outcome) (marked outcome) fixed)

  pub all_after : with_first (awaits outcome) (marked outcome) (slots ++ fixed) ≡ slots_after ++ fixed_after
  all_after = changed-append (awaits outcome) (marked outcome) slots fixed

  pub kept_marked : AreKept wanted slots_after fixed_after
  kept_marked = record {
    sorted = subst (IsStrictlySortedBy wish_cmp)
        (sym (ap wishes_of (sym all_after) ∙ wishes_stay (awaits outcome) outcome (slots ++ fixed))) kept.sorted;
    early = each_changed (awaits outcome) (marked outcome) (λ slot. wish_rank slot.wish < 4)
        (λ slot e early. subst (λ wish. wish_rank wish < 4) (sym (marked_alike outcome slot).wish) early) slots
        kept.early;
    wishes = wished_stay (awaits outcome) outcome slots ∙ kept.wishes;
    ends = ends (list_any (awaits outcome) slots);
    sound = subst (AllByRecursion (λ slot. is_sound slot ≡ true)) all_after
        (each_changed (awaits outcome) (marked outcome) (λ slot. is_sound slot ≡ true)
        (sound_marked outcome) (slots ++ fixed) kept.sound);
    counted = subst (λ n. n + 5 < 2 ^ 31) (sym (length-changed (awaits outcome) (marked outcome) slots)) kept.counted;
  }
    where
      ends : (b : Bool) → AreFixed wanted (cond b fixed (with_first (awaits outcome) (marked outcome) fixed))
      ends true = kept.ends
      ends false = fixed_marked wanted outcome fixed kept.ends quiet

-- What stands ---------------------------------------------------------------------------------------------------------

-- a slot's wish, where it was refused
abbrev refusal_in : Slot → Option Wish
refusal_in slot = cond slot.refused (Some slot.wish) None

refusals_are : (slots : List Slot) → refusals_in slots ≡ filter_map refusal_in slots
refusals_are [] = refl
refusals_are (slot ∷ slots) = by slot.refused (refusals_are slots)
  where
    by : (b : Bool) → refusals_in slots ≡ filter_map refusal_in slots
        → map (λ (s : Slot). s.wish) (cond b (slot ∷ filter (λ s. s.refused) slots) (filter (λ s. s.refused) slots))
        ≡ cons_option (cond b (Some slot.wish) None) (filter_map refusal_in slots)
    by true e = ap (λ ws. slot.wish ∷ ws) e
    by false e = e

-- a mark of another kind leaves what is listed of slots
module _ {K : Type 0} (pick : Slot → Option K) (test : Slot → Bool) (change : Slot → Slot)
    (same : (slot : Slot) → pick (change slot) ≡ pick slot) where
  picks_stay : (slots : List Slot) → filter_map pick (with_first test change slots) ≡ filter_map pick slots
  picks_stay [] = refl
  picks_stay (slot ∷ slots) = by (test slot) (picks_stay slots)
    where
      by : (b : Bool) → filter_map pick (with_first test change slots) ≡ filter_map pick slots
          → filter_map pick (cond b (change slot ∷ slots) (slot ∷ with_first test change slots))
          ≡ cons_option (pick slot) (filter_map pick slots)
      by true e = ap (λ o. cons_option o (filter_map pick slots)) (same slot)
      by false e = ap (cons_option (pick slot)) e

refusals_stay : (test : Slot → Bool) (change : Slot → Slot) → ((slot : Slot)
    → refusal_in (change slot) ≡ refusal_in slot)
    → (slots : List Slot) → refusals_in (with_first test change slots) ≡ refusals_in slots
refusals_stay test change same slots =
    refusals_are (with_first test change slots) ∙ (picks_stay refusal_in test change same slots
    ∙ sym (refusals_are slots))

module _ (wants : Wants) (slots fixed : List Slot) (kept : AreKept (wanted_by wants) slots fixed) where
  abbrev all : List Slot
  all = slots ++ fixed

  abbrev before : Wishes
  before = wishes_by wants all

  abbrev those : List Wish
  those = wished (wanted_by wants)

  abbrev with_both : List EventRequest → List Wish → Wishes
  with_both rs ws = record { wanted = wanted_by wants; installed = rs; refused = ws }

  both_are : (rs others : List EventRequest) (ws more : List Wish) → rs ≡ others → ws ≡ more
      → with_both rs ws ≡ with_both others more
  both_are rs others ws more e f = ap (λ xs. with_both xs ws) e ∙ ap (with_both others) f

  cleared_is : (r : EventRequest) → next_change before ≡ Some (clears r)
      → wishes_by wants (with_first is_late (marked outcomes.Cleared) all) ≡ cleared r.wish before
  cleared_is r e =
      both_are _ _ _ _ (sym (cleared_first (has_wish those) all r kept.sorted (tells_wished wants slots fixed kept)
      (clears-is before r e)))
      (refusals_stay is_late (marked outcomes.Cleared) (λ slot. refl) all)

  no_request : (slot : Slot) → is_unset slot ≡ true → request_in slot ≡ None
  no_request slot e = by slot.wished slot.request e
    where
      by : (a : Bool) (o : Option ℕ) → (a && (not (is_some o) && not slot.refused)) ≡ true
          → request_in (record slot { request = o }) ≡ None
      by a None e = refl
      by true (Some request) e = absurd (cc)
      by false (Some request) e = absurd (cc)

  no_refusal : (slot : Slot) → is_unset slot ≡ true → refusal_in slot ≡ None
  no_refusal slot e = by slot.wished (is_some slot.request) slot.refused e
    where
      by : (a b c : Bool) → (a && (not b && not c)) ≡ true → cond c (Some slot.wish) None ≡ None
      by a b false e = refl
      by true true true e = absurd (cc)
      by true false true e = absurd (cc)
      by false b true e = absurd (cc)

  own_request : (slot : Slot) (r : EventRequest) → request_in slot ≡ Some r → r.wish ≡ slot.wish
  own_request slot r e = by slot.request e
    where
      by : (o : Option ℕ) → request_in (record slot { request = o }) ≡ Some r → r.wish ≡ slot.wish
      by None e = absurd (cc)
      by (Some request) e = let same : record { wish = slot.wish; request = request } ≡ r = cc in
          sym (ap (λ (one : EventRequest). one.wish) same)

  own_refusal : (slot : Slot) (wish : Wish) → refusal_in slot ≡ Some wish → wish ≡ slot.wish
  own_refusal slot wish e = by slot.refused e
    where
      by : (c : Bool) → cond c (Some slot.wish) None ≡ Some wish → wish ≡ slot.wish
      by true e = cc
      by false e = absurd (cc)

  -- the next Set is of the first wish that has to be set
  first_is : (wish : Wish) → next_change before ≡ Some (sets wish)
      → find (is_missing before.installed before.refused) (wishes_in all) ≡ Some wish
  first_is wish e =
      ap (find (is_missing before.installed before.refused)) (kept_wishes (wanted_by wants) slots fixed kept)
      ∙ (sets-is before wish e).1

  installed_is : (wish : Wish) (request : ℕ) → next_change before ≡ Some (sets wish)
      → wishes_by wants (with_first is_unset (marked (outcomes.Installed request)) all)
      ≡ installed_as request wish before
  installed_is wish request e =
      both_are _ _ _ _
      (sym (set_first (λ (r : EventRequest). r.wish) request_in (marked (outcomes.Installed request))
      (record { wish = wish; request = request }) (is_missing before.installed before.refused) own_request no_request
      (λ slot same. ap (λ w. Some (record { wish = w; request = request })) same) all kept.sorted
      (tells_unset wants slots fixed kept) (first_is wish e)))
      (refusals_stay is_unset (marked (outcomes.Installed request)) (λ slot. refl) all)

  refused_is : (wish : Wish) (code : ℕ) → next_change before ≡ Some (sets wish)
      → wishes_by wants (with_first is_unset (marked (outcomes.Refused code)) all) ≡ refused_now wish before
  refused_is wish code e =
      both_are _ _ _ _ (picks_stay request_in is_unset (marked (outcomes.Refused code)) (λ slot. refl) all)
      (refusals_are (with_first is_unset (marked (outcomes.Refused code)) all)
      ∙ (sym (set_first (λ (w : Wish). w) refusal_in (marked (outcomes.Refused code)) wish
      (is_missing before.installed before.refused) own_refusal no_refusal (λ slot same. ap Some same) all kept.sorted
      (tells_unset wants slots fixed kept) (first_is wish e))
      ∙ ap (λ ws. insert_key wish_cmp ws wish) (sym (refusals_are all))))

  pub settled_is : (outcome : Settled) → is_outcome (next_change before) outcome ≡ true
      → wishes_by wants (with_first (awaits outcome) (marked outcome) all) ≡ settled outcome before
  settled_is outcome is = by (next_change before) refl is
    where
      clear : (o : Settled) (r : EventRequest) → next_change before ≡ Some (clears r) → is_cleared o ≡ true
          → wishes_by wants (with_first (awaits o) (marked o) all) ≡ cond (is_cleared o) (cleared r.wish before) before
      clear outcomes.Cleared r e h = cleared_is r e
      clear (outcomes.Installed request) r e h = absurd (cc)
      clear (outcomes.Refused code) r e h = absurd (cc)

      set : (o : Settled) (wish : Wish) → next_change before ≡ Some (sets wish) → not (is_cleared o) ≡ true
          → wishes_by wants (with_first (awaits o) (marked o) all) ≡ set_by wish o before
      set outcomes.Cleared wish e h = absurd (cc)
      set (outcomes.Installed request) wish e h = installed_is wish request e
      set (outcomes.Refused code) wish e h = refused_is wish code e

      by : (change : Option WishChange) → next_change before ≡ change → is_outcome change outcome ≡ true
          → wishes_by wants (with_first (awaits outcome) (marked outcome) all) ≡ settled_by change outcome before
      by None e h = absurd (cc)
      by (Some (clears r)) e h = clear outcome r e h
      by (Some (sets wish)) e h = set outcome wish e h

  none_late : (is_in : Wish → Bool) (xs : List Slot) → AllByRecursion (Tells is_in) xs
      → list_any (λ r. not (is_in r.wish)) (requests_in xs) ≡ list_any is_late xs
  none_late is_in [] all = refl
  none_late is_in (slot ∷ xs) all = by slot.request (none_late is_in xs all.1)
    where
      by : (o : Option ℕ) → list_any (λ r. not (is_in r.wish)) (requests_in xs) ≡ list_any is_late xs
          → list_any (λ r. not (is_in r.wish)) (requests_in (record slot { request = o } ∷ xs))
          ≡ list_any is_late (record slot { request = o } ∷ xs)
      by None e = e
      by (Some request) e = rw (all.0, e) refl

  any-last : (xs ys : List Slot) → list_any is_late (xs ++ ys) ≡ false → list_any is_late ys ≡ false
  any-last [] ys e = e
  any-last (x ∷ xs) ys e = any-last xs ys (or-parts (is_late x) (list_any is_late (xs ++ ys)) e).1

  pub quiet_is : (outcome : Settled) → is_outcome (next_change before) outcome ≡ true → IsQuiet outcome fixed
  quiet_is outcome is set = by (next_change before) refl is
    where
      by : (change : Option WishChange) → next_change before ≡ change → is_outcome change outcome ≡ true
          → list_any is_late fixed ≡ false
      by None e h = absurd (cc)
      by (Some (clears r)) e h = absurd (cc)
      by (Some (sets wish)) e h =
          any-last slots fixed (sym (none_late (has_wish those) all (tells_wished wants slots fixed kept))
          ∙ none-any (is_surplus those) before.installed (sets-is before wish e).0)
