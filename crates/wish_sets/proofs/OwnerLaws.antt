-- The owner of an event is in the slot to which its request leads.
use Rattle.std.proofs.Common.{◌≡◌, ℕ, zero, suc, ◌+◌, ◌*◌, ◌<◌, ◌≤◌, ◌^◌, Bool, true, false, cond, not, List, [], ◌∷◌}
use Rattle.std.proofs.Common.{refl, ap, sym, ◌∙◌, subst, length, Option, Some, None, IfSome, arith, slice_get, nat_eq, eqb}
use Rattle.std.specs.Prelude.{◌&&◌, ◌==◌, is_some}
use Rattle.std.specs.List.{position_from}
use Rattle.std.proofs.lemmas.Bool.{eqb-true, eqb-false, eq-eqb, ne_eqb}
use Rattle.indexmap.specs.IndexMap.{IndexMap, get}
use Rattle.jdwp_events.specs.Kinds.{byte_of_kind}
use Rattle.jdwp_events.specs.declared.kind.EventKind.{EventKind}
use Rattle.wish_sets.specs.declared.slot.Slot.{Slot}
use Rattle.wish_sets.specs.declared.wish.Wish.{Wish}
use Rattle.wish_sets.specs.Owners.{IsFound, is_other, request_key}
use Rattle.wish_sets.specs.Requests.{kind_of_wish}
use Rattle.wish_sets.specs.Slots.{is_owner, owner_in, request_in, with_first}
use Rattle.wish_sets.proofs.FirstLaws.{place_above, place_within, first_nowhere, unchanged, length-changed}

one : {A : Type 0} (x y : A) → Some x ≡ Some y → x ≡ y
one x y e = cc

-- What is changed -----------------------------------------------------------------------------------------------------

module _ {A : Type 0} (test : A → Bool) (change : A → A) where
  changed_elsewhere : (n : ℕ) (xs : List A) (at place : ℕ) → position_from test n xs ≡ Some (n + at)
      → nat_eq place at ≡ false → slice_get (with_first test change xs) place ≡ slice_get xs place
  changed_elsewhere n [] at place e other = refl
  changed_elsewhere n (x ∷ xs) at place e other = by (test x) e at place e other (changed_elsewhere (n + 1) xs)
    where
      by : (b : Bool) → cond b (Some n) (position_from test (n + 1) xs) ≡ Some (n + at) → (at place : ℕ)
          → cond b (Some n) (position_from test (n + 1) xs) ≡ Some (n + at) → nat_eq place at ≡ false
          → ((at place : ℕ) → position_from test (n + 1) xs ≡ Some (n + 1 + at) → nat_eq place at ≡ false
          → slice_get (with_first test change xs) place ≡ slice_get xs place)
          → slice_get (cond b (change x ∷ xs) (x ∷ with_first test change xs)) place ≡ slice_get (x ∷ xs) place
      by true _ at zero e other again =
          absurd (let h = one n (n + at) e in let same : zero ≡ at = omega (arith, h) in
          eqb-false zero at other same)
      by true _ at (suc k) e other again = refl
      by false _ at zero e other again = refl
      by false _ zero (suc k) e other again =
          absurd (let h = place_above test (n + 1) xs (n + 0) e in omega (arith, h))
      by false _ (suc j) (suc k) e other again =
          let to : n + suc j ≡ n + 1 + j = omega arith in
          again j k (e ∙ ap Some to) (ne_eqb k j (λ same. eqb-false (suc k) (suc j) other (ap suc same)))

  pub elsewhere : (xs : List A) (changed : Option ℕ) (place : ℕ) → changed ≡ position_from test 0 xs
      → is_other changed place ≡ true → slice_get (with_first test change xs) place ≡ slice_get xs place
  elsewhere xs None place e other =
      ap (λ ys. slice_get ys place) (unchanged test change xs (first_nowhere test 0 xs (sym e)))
  elsewhere xs (Some at) place e other =
      changed_elsewhere 0 xs at place (sym e ∙ ap Some (let to : at ≡ 0 + at = omega arith in to))
      (not_so (nat_eq place at) other)
    where
      not_so : (b : Bool) → not b ≡ true → b ≡ false
      not_so true e = absurd (cc)
      not_so false e = refl

  -- what is changed is there
  pub changed_within : (xs : List A) (changed : Option ℕ) → changed ≡ position_from test 0 xs
      → IfSome changed (λ at. at < length (with_first test change xs))
  changed_within xs None e = tt
  changed_within xs (Some at) e =
      let less = place_within test 0 xs at (sym e) in
      let same = length-changed test change xs in
      omega (arith, less, same)

-- a slot that was found is found still, where it is as it was
pub found_still : {S : Type 0} (places : IndexMap ℕ ℕ S) (before after : List Slot) (place : ℕ)
    → slice_get after place ≡ slice_get before place → IsFound places before place → IsFound places after place
found_still places before after place e found slot request f g = found slot request (sym e ∙ f) g

-- What is put ---------------------------------------------------------------------------------------------------------

module _ {S : Type 0} (old new : IndexMap ℕ ℕ S) (slots : List Slot) (at key : ℕ)
    (is : (asked : ℕ) → get nat_eq new asked ≡ cond (nat_eq key asked) (Some at) (get nat_eq old asked)) where
  pub put_kept : ((place : ℕ) (slot : Slot) → get nat_eq old key ≡ Some place → slice_get slots place ≡ Some slot
      → is_some slot.request ≡ false) → (place : ℕ) → IsFound old slots place → IsFound new slots place
  put_kept free place found slot request e f = by (nat_eq key to) refl
    where
      to : ℕ
      to = request_key (kind_of_wish slot.wish) request

      by : (b : Bool) → nat_eq key to ≡ b → get nat_eq new to ≡ Some place
      by false g = is to ∙ (ap (λ b. cond b (Some at) (get nat_eq old to)) g ∙ found slot request e f)
      by true g =
          absurd (let same = eqb-true key to g in
          let none = free place slot (ap (get nat_eq old) same ∙ found slot request e f) e in
          let some = ap is_some f in cc)

-- the one that was changed is found, and so are the others
pub all_found : {S : Type 0} (old new : IndexMap ℕ ℕ S) (slots : List Slot) (changed : Option ℕ) (at : ℕ)
    → changed ≡ Some at → IsFound new slots at
    → ((place : ℕ) → IsFound old slots place → IsFound new slots place)
    → ((place : ℕ) → is_other changed place ≡ true → IsFound old slots place) → (place : ℕ) → IsFound new slots place
all_found old new slots changed at is here kept before place = by (nat_eq place at) refl
  where
    by : (b : Bool) → nat_eq place at ≡ b → IsFound new slots place
    by true e = subst (IsFound new slots) (sym (eqb-true place at e)) here
    by false e = kept place (before place (ap (λ o. is_other o place) is ∙ ap not e))

-- The owner -----------------------------------------------------------------------------------------------------------

module _ (kind : EventKind) (request : ℕ) where
  none_owned : (slots : List Slot)
      → ((place : ℕ) (slot : Slot) → slice_get slots place ≡ Some slot → is_owner kind request slot ≡ false)
      → owner_in slots kind request ≡ None
  none_owned [] none = refl
  none_owned (slot ∷ slots) none =
      by slot.request (none 0 slot refl) (none_owned slots (λ place other e. none (suc place) other e))
    where
      by : (r : Option ℕ) → is_owner kind request (record slot { request = r }) ≡ false
          → owner_in slots kind request ≡ None → owner_in (record slot { request = r } ∷ slots) kind request ≡ None
      by None e again = again
      by (Some r) e again = rw e again

  one_owned : (slots : List Slot) (p : ℕ) (slot : Slot) → slice_get slots p ≡ Some slot
      → is_owner kind request slot ≡ true
      → ((place : ℕ) (other : Slot) → slice_get slots place ≡ Some other → is_owner kind request other ≡ true
      → place ≡ p) → owner_in slots kind request ≡ Some slot.wish
  one_owned [] p slot e is only = absurd (cc)
  one_owned (first ∷ slots) zero slot e is only =
      by first.request (subst (λ s. is_owner kind request s ≡ true) (sym (one first slot e)) is)
      ∙ ap (λ (s : Slot). Some s.wish) (one first slot e)
    where
      by : (r : Option ℕ) → is_owner kind request (record first { request = r }) ≡ true
          → owner_in (record first { request = r } ∷ slots) kind request ≡ Some first.wish
      by None e = absurd (cc)
      by (Some r) e = rw e refl
  one_owned (first ∷ slots) (suc q) slot e is only =
      by first.request (not_first (is_owner kind request first) refl)
      (one_owned slots q slot e is (λ place other f g. let h = only (suc place) other f g in omega (arith, h)))
    where
      not_first : (b : Bool) → is_owner kind request first ≡ b → is_owner kind request first ≡ false
      not_first true f = absurd (let h = only 0 first refl f in omega (arith, h))
      not_first false f = f

      by : (r : Option ℕ) → is_owner kind request (record first { request = r }) ≡ false
          → owner_in slots kind request ≡ Some slot.wish
          → owner_in (record first { request = r } ∷ slots) kind request ≡ Some slot.wish
      by None f again = again
      by (Some r) f again = rw f again

  module _ {S : Type 0} (places : IndexMap ℕ ℕ S) (slots : List Slot)
      (found : (place : ℕ) → IsFound places slots place) where
    -- the request leads to its owner
    leads : (place : ℕ) (slot : Slot) → slice_get slots place ≡ Some slot → is_owner kind request slot ≡ true
        → get nat_eq places (request_key kind request) ≡ Some place
    leads place slot e is = by slot.request refl is
      where
        left : (b c : Bool) → (b && c) ≡ true → b ≡ true
        left true c e = refl
        left false c e = absurd (cc)

        right : (b c : Bool) → (b && c) ≡ true → c ≡ true
        right true c e = e
        right false c e = absurd (cc)

        by : (r : Option ℕ) → slot.request ≡ r → is_owner kind request (record slot { request = r }) ≡ true
            → get nat_eq places (request_key kind request) ≡ Some place
        by None f is = absurd (cc)
        by (Some r) f is =
            let byte = eqb-true (byte_of_kind (kind_of_wish slot.wish)) (byte_of_kind kind)
            (left (byte_of_kind (kind_of_wish slot.wish) == byte_of_kind kind) (r == request) is) in
            let number = eqb-true r request
            (right (byte_of_kind (kind_of_wish slot.wish) == byte_of_kind kind) (r == request) is) in
            subst (λ b. get nat_eq places (b * 2 ^ 32 + request) ≡ Some place) byte
            (subst (λ n. get nat_eq places (request_key (kind_of_wish slot.wish) n) ≡ Some place) number
            (found place slot r e f))

    pub owner_none : None ≡ get nat_eq places (request_key kind request) → None ≡ owner_in slots kind request
    owner_none e =
        sym (none_owned slots (λ place slot f. by place slot f (is_owner kind request slot) refl))
      where
        by : (place : ℕ) (slot : Slot) → slice_get slots place ≡ Some slot → (b : Bool)
            → is_owner kind request slot ≡ b → is_owner kind request slot ≡ false
        by place slot f true g = absurd (let h = leads place slot f g in cc)
        by place slot f false g = g

    pub owner_beyond : (p : ℕ) → Some p ≡ get nat_eq places (request_key kind request)
        → None ≡ slice_get slots p → None ≡ owner_in slots kind request
    owner_beyond p e none =
        sym (none_owned slots (λ place slot f. by place slot f (is_owner kind request slot) refl))
      where
        by : (place : ℕ) (slot : Slot) → slice_get slots place ≡ Some slot → (b : Bool)
            → is_owner kind request slot ≡ b → is_owner kind request slot ≡ false
        by place slot f true g =
            absurd (let here = one p place (e ∙ leads place slot f g) in
            let there = ap (slice_get slots) here in cc)
        by place slot f false g = g

    pub owner_is : (p : ℕ) (slot : Slot) → Some p ≡ get nat_eq places (request_key kind request)
        → Some slot ≡ slice_get slots p
        → cond (is_owner kind request slot) (Some slot.wish) None ≡ owner_in slots kind request
    owner_is p slot e here = by (is_owner kind request slot) refl
      where
        not_other : is_owner kind request slot ≡ false → (place : ℕ) (other : Slot)
            → slice_get slots place ≡ Some other → (b : Bool) → is_owner kind request other ≡ b
            → is_owner kind request other ≡ false
        not_other none place other f true g =
            let place_is = one p place (e ∙ leads place other f g) in
            let same = one slot other (here ∙ (ap (slice_get slots) place_is ∙ f)) in
            sym (ap (is_owner kind request) same) ∙ none
        not_other none place other f false g = g

        by : (b : Bool) → is_owner kind request slot ≡ b
            → cond b (Some slot.wish) None ≡ owner_in slots kind request
        by true g =
            sym (one_owned slots p slot (sym here) g (λ place other f h. sym (one p place (e ∙ leads place other f h))))
        by false g =
            sym (none_owned slots (λ place other f. not_other g place other f (is_owner kind request other) refl))
