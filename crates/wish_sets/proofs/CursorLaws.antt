-- What is before a place where no slot has to be changed is passed over, and a mark keeps the place.
use Rattle.std.proofs.Common.{◌≡◌, ℕ, zero, suc, ◌+◌, ◌<◌, ◌≤◌, Bool, true, false, not, cond, List, [], ◌∷◌, refl, ap}
use Rattle.std.proofs.Common.{sym, ◌∙◌, subst, length, length-drop, drop, get_or, Option, Some, None, Err, arith}
use Rattle.std.specs.Prelude.{◌&&◌, is_some, nat_lt}
use Rattle.std.specs.List.{position_from}
use Rattle.std.proofs.lemmas.Bool.{lt-ltb, le-ltb, ltb-true, ltb-false}
use Rattle.wish_sets.specs.declared.change.Settled.{Settled}
use Rattle.wish_sets.specs.declared.change.Settled.TheVariants as outcomes
use Rattle.wish_sets.specs.declared.cursor.Cursor.{Cursor}
use Rattle.wish_sets.specs.declared.slot.Slot.{Slot}
use Rattle.wish_sets.specs.Cursors.{NoneBefore, counted, is_held, is_wanted, IsPast, start_of, cursor_after}
use Rattle.wish_sets.specs.Slots.{is_late, is_unset, awaits, marked, with_first, late_from, unset_from}
use Rattle.wish_sets.specs.Wishes.{sets}
use Rattle.wish_sets.proofs.FirstLaws.{unchanged, first_nowhere, place_above}

-- One place more ------------------------------------------------------------------------------------------------------

module _ (stops : Slot → Bool) where
  pub none_within : (k : ℕ) (slots : List Slot) → NoneBefore stops k slots → k ≤ length slots
  none_within zero slots none = omega arith
  none_within (suc k) [] none = absurd none
  none_within (suc k) (slot ∷ slots) none = let less = none_within k slots none.1 in omega (arith, less)

  pub none_more : (k : ℕ) (slots : List Slot) (d : Slot) → NoneBefore stops k slots → k < length slots
      → stops (get_or slots k d) ≡ false → NoneBefore stops (suc k) slots
  none_more k [] d none less e = absurd (omega (arith, less))
  none_more zero (slot ∷ slots) d none less e = (e, tt)
  none_more (suc k) (slot ∷ slots) d none less e =
      (none.0, none_more k slots d none.1 (omega (arith, less)) e)

  pub found_here : (n k : ℕ) (slots : List Slot) (d : Slot) → NoneBefore stops k slots → k < length slots
      → stops (get_or slots k d) ≡ true → position_from stops n slots ≡ Some (n + k)
  found_here n k [] d none less e = absurd (omega (arith, less))
  found_here n zero (slot ∷ slots) d none less e = rw e (ap Some (omega arith))
  found_here n (suc k) (slot ∷ slots) d none less e =
      rw none.0 (found_here (n + 1) k slots d none.1 (omega (arith, less)) e ∙ ap Some (omega arith))

  pub found_nowhere : (n k : ℕ) (slots : List Slot) → NoneBefore stops k slots → length slots ≤ k
      → position_from stops n slots ≡ None
  found_nowhere n k [] none more = refl
  found_nowhere n zero (slot ∷ slots) none more = absurd (omega (arith, more))
  found_nowhere n (suc k) (slot ∷ slots) none more =
      rw none.0 (found_nowhere (n + 1) k slots none.1 (omega (arith, more)))

module _ (counts : Slot → Bool) where
  pub counted_few : (k : ℕ) (slots : List Slot) → counted counts k slots ≤ k
  counted_few zero slots = omega arith
  counted_few (suc k) [] = omega arith
  counted_few (suc k) (slot ∷ slots) = by (counts slot) (counted_few k slots)
    where
      by : (b : Bool) → counted counts k slots ≤ k
          → cond b (suc (counted counts k slots)) (counted counts k slots) ≤ suc k
      by true less = omega (arith, less)
      by false less = omega (arith, less)

  pub counted_more : (k : ℕ) (slots : List Slot) (d : Slot) → k < length slots
      → counted counts (suc k) slots
      ≡ cond (counts (get_or slots k d)) (suc (counted counts k slots)) (counted counts k slots)
  counted_more k [] d less = absurd (omega (arith, less))
  counted_more zero (slot ∷ slots) d less = refl
  counted_more (suc k) (slot ∷ slots) d less =
      by (counts slot) (counts (get_or slots k d)) (counted counts k slots) (counted counts (suc k) slots)
      (counted_more k slots d (omega (arith, less)))
    where
      by : (b c : Bool) (n m : ℕ) → m ≡ cond c (suc n) n
          → cond b (suc m) m ≡ cond c (suc (cond b (suc n) n)) (cond b (suc n) n)
      by true true n m e = ap suc e
      by true false n m e = ap suc e
      by false true n m e = e
      by false false n m e = e

-- One slot is passed over --------------------------------------------------------------------------------------------

one_more : (b : Bool) (m : ℕ) → cond b (m + 1) m ≡ cond b (suc m) m
one_more true m = omega arith
one_more false m = refl

module _ (cursor : Cursor) (slots : List Slot) (d : Slot) (b : Bool) (n : ℕ) (past : IsPast cursor slots) where
  pub late_over : cursor.late < length slots → false ≡ is_late (get_or slots cursor.late d)
      → b ≡ is_held (get_or slots cursor.late d) → n ≡ cond b (cursor.installed + 1) cursor.installed
      → IsPast (record cursor { late = cursor.late + 1; installed = n }) slots
  late_over less not_late held counts =
      let next : suc cursor.late ≡ cursor.late + 1 = omega arith in record {
        late = subst (λ k. NoneBefore is_late k slots) next
            (none_more is_late cursor.late slots d past.late less (sym not_late));
        installed = subst (λ k. n ≡ counted is_held k slots) next
            (counts ∙ (one_more b cursor.installed ∙ (ap (λ c. cond c (suc cursor.installed) cursor.installed) held
            ∙ (ap (λ m. cond (is_held (get_or slots cursor.late d)) (suc m) m) past.installed
            ∙ sym (counted_more is_held cursor.late slots d less)))));
        unset = past.unset;
        wished = past.wished;
      }

  pub unset_over : cursor.unset < length slots → false ≡ is_unset (get_or slots cursor.unset d)
      → b ≡ is_wanted (get_or slots cursor.unset d) → n ≡ cond b (cursor.wished + 1) cursor.wished
      → IsPast (record cursor { unset = cursor.unset + 1; wished = n }) slots
  unset_over less not_unset wanted counts =
      let next : suc cursor.unset ≡ cursor.unset + 1 = omega arith in record {
        late = past.late;
        installed = past.installed;
        unset = subst (λ k. NoneBefore is_unset k slots) next
            (none_more is_unset cursor.unset slots d past.unset less (sym not_unset));
        wished = subst (λ k. n ≡ counted is_wanted k slots) next
            (counts ∙ (one_more b cursor.wished ∙ (ap (λ c. cond c (suc cursor.wished) cursor.wished) wanted
            ∙ (ap (λ m. cond (is_wanted (get_or slots cursor.unset d)) (suc m) m) past.wished
            ∙ sym (counted_more is_wanted cursor.unset slots d less)))));
      }

-- Passed over ---------------------------------------------------------------------------------------------------------

pub late_passed : (k m j : ℕ) (slots : List Slot) → NoneBefore is_late k slots → j ≡ m + counted is_held k slots
    → late_from m slots ≡ late_from j (drop k slots)
late_passed zero m j slots none e = ap (λ n. late_from n slots) (omega (arith, e))
late_passed (suc k) m j [] none e = absurd none
late_passed (suc k) m j (slot ∷ slots) none e =
    by slot.request slot.wished none.0 e (λ n. late_passed k n j slots none.1)
  where
    by : (o : Option ℕ) (b : Bool) → (is_some o && not b) ≡ false
        → j ≡ m + cond (is_some o) (suc (counted is_held k slots)) (counted is_held k slots)
        → ((n : ℕ) → j ≡ n + counted is_held k slots → late_from n slots ≡ late_from j (drop k slots))
        → late_from m (record slot { request = o; wished = b } ∷ slots) ≡ late_from j (drop k slots)
    by None b f g again = again m g
    by (Some request) true f g again = again (m + 1) (omega (arith, g))
    by (Some request) false f g again = absurd (cc)

pub unset_passed : (k m j : ℕ) (slots : List Slot) → NoneBefore is_unset k slots → j ≡ m + counted is_wanted k slots
    → unset_from m slots ≡ unset_from j (drop k slots)
unset_passed zero m j slots none e = ap (λ n. unset_from n slots) (omega (arith, e))
unset_passed (suc k) m j [] none e = absurd none
unset_passed (suc k) m j (slot ∷ slots) none e =
    by (is_unset slot) slot.wished none.0 e (λ n. unset_passed k n j slots none.1)
  where
    by : (c b : Bool) → c ≡ false
        → j ≡ m + cond b (suc (counted is_wanted k slots)) (counted is_wanted k slots)
        → ((n : ℕ) → j ≡ n + counted is_wanted k slots → unset_from n slots ≡ unset_from j (drop k slots))
        → cond c (Err (m, sets slot.wish)) (unset_from (cond b (m + 1) m) slots) ≡ unset_from j (drop k slots)
    by true b f g again = absurd (cc)
    by false true f g again = again (m + 1) (omega (arith, g))
    by false false f g again = again m g

lt_both : (q k : ℕ) → nat_lt (suc q) (suc k) ≡ nat_lt q k
lt_both q k = by (nat_lt q k) refl
  where
    by : (b : Bool) → nat_lt q k ≡ b → nat_lt (suc q) (suc k) ≡ b
    by true e = lt-ltb (suc q) (suc k) (let less = ltb-true q k e in omega (arith, less))
    by false e = le-ltb (suc q) (suc k) (let more = ltb-false q k e in omega (arith, more))

-- Marked --------------------------------------------------------------------------------------------------------------

module _ (test : Slot → Bool) (change : Slot → Slot) where
  -- where none of the first ones is changed
  own_none : (k : ℕ) (slots : List Slot) → NoneBefore test k slots → NoneBefore test k (with_first test change slots)
  own_none zero slots none = tt
  own_none (suc k) [] none = absurd none
  own_none (suc k) (slot ∷ slots) none = rw none.0 (none.0, own_none k slots none.1)

  own_counted : (counts : Slot → Bool) (k : ℕ) (slots : List Slot) → NoneBefore test k slots
      → counted counts k slots ≡ counted counts k (with_first test change slots)
  own_counted counts zero slots none = refl
  own_counted counts (suc k) [] none = absurd none
  own_counted counts (suc k) (slot ∷ slots) none =
      rw none.0 (ap (λ n. cond (counts slot) (suc n) n) (own_counted counts k slots none.1))

  -- where the one that is changed passes another test no more
  other_none : (stops : Slot → Bool) → ((slot : Slot) → test slot ≡ true → stops (change slot) ≡ false) → (k : ℕ)
      (slots : List Slot) → NoneBefore stops k slots → NoneBefore stops k (with_first test change slots)
  other_none stops clean zero slots none = tt
  other_none stops clean (suc k) [] none = absurd none
  other_none stops clean (suc k) (slot ∷ slots) none = by (test slot) refl (other_none stops clean k slots none.1)
    where
      by : (b : Bool) → test slot ≡ b → NoneBefore stops k (with_first test change slots)
          → NoneBefore stops (suc k) (cond b (change slot ∷ slots) (slot ∷ with_first test change slots))
      by true e again = (clean slot e, none.1)
      by false e again = (none.0, again)

  -- where the one that is changed is counted as before
  other_counted : (counts : Slot → Bool) → ((slot : Slot) → test slot ≡ true → counts slot ≡ counts (change slot))
      → (k : ℕ) (slots : List Slot) → counted counts k slots ≡ counted counts k (with_first test change slots)
  other_counted counts same zero slots = refl
  other_counted counts same (suc k) [] = refl
  other_counted counts same (suc k) (slot ∷ slots) = by (test slot) refl (other_counted counts same k slots)
    where
      by : (b : Bool) → test slot ≡ b → counted counts k slots ≡ counted counts k (with_first test change slots)
          → counted counts (suc k) (slot ∷ slots)
          ≡ counted counts (suc k) (cond b (change slot ∷ slots) (slot ∷ with_first test change slots))
      by true e again = ap (λ c. cond c (suc (counted counts k slots)) (counted counts k slots)) (same slot e)
      by false e again = ap (λ n. cond (counts slot) (suc n) n) again

  -- where the one that is changed is counted from now on
  more_counted : (counts : Slot → Bool) → ((slot : Slot) → test slot ≡ true → counts slot ≡ false)
      → ((slot : Slot) → test slot ≡ true → counts (change slot) ≡ true) → (n k p : ℕ) (slots : List Slot)
      → position_from test n slots ≡ Some (n + p)
      → cond (nat_lt p k) (counted counts k slots + 1) (counted counts k slots)
      ≡ counted counts k (with_first test change slots)
  more_counted counts not_yet now n zero p slots e = rw (le-ltb p 0 (omega arith)) refl
  more_counted counts not_yet now n (suc k) p [] e = absurd (cc)
  more_counted counts not_yet now n (suc k) p (slot ∷ slots) e =
      by (test slot) p refl e (λ q. more_counted counts not_yet now (n + 1) k q slots)
    where
      later : (b c : Bool) (m m' : ℕ) → cond b (m + 1) m ≡ m'
          → cond b (cond c (suc m) m + 1) (cond c (suc m) m) ≡ cond c (suc m') m'
      later true true m m' f = omega (arith, f)
      later true false m m' f = f
      later false true m m' f = ap suc f
      later false false m m' f = f

      by : (b : Bool) (p : ℕ) → test slot ≡ b → cond b (Some n) (position_from test (n + 1) slots) ≡ Some (n + p)
          → ((q : ℕ) → position_from test (n + 1) slots ≡ Some (n + 1 + q)
          → cond (nat_lt q k) (counted counts k slots + 1) (counted counts k slots)
          ≡ counted counts k (with_first test change slots))
          → cond (nat_lt p (suc k)) (counted counts (suc k) (slot ∷ slots) + 1) (counted counts (suc k) (slot ∷ slots))
          ≡ counted counts (suc k) (cond b (change slot ∷ slots) (slot ∷ with_first test change slots))
      by true zero f g again =
          rw (lt-ltb 0 (suc k) (omega arith), not_yet slot f, now slot f) (omega arith)
      by true (suc q) f g again = absurd (let h : n ≡ n + suc q = cc in omega (arith, h))
      by false zero f g again = absurd (let h = place_above test (n + 1) slots (n + 0) g in omega (arith, h))
      by false (suc q) f g again =
          let same : n + suc q ≡ n + 1 + q = omega arith in
          rw (lt_both q k) (later (nat_lt q k) (counts slot) (counted counts k slots)
          (counted counts k (with_first test change slots)) (again q (g ∙ ap Some same)))

cleared_wanted : (slot : Slot) → is_late slot ≡ true → slot.wished ≡ false
cleared_wanted slot e = by (is_some slot.request) slot.wished e
  where
    by : (a b : Bool) → (a && not b) ≡ true → b ≡ false
    by true false e = refl
    by true true e = absurd (cc)
    by false b e = absurd (cc)

unset_wanted : (slot : Slot) → is_unset slot ≡ true → slot.wished ≡ true
unset_wanted slot e = by slot.wished e
  where
    by : (a : Bool) → (a && (not (is_some slot.request) && not slot.refused)) ≡ true → a ≡ true
    by true e = refl
    by false e = absurd (cc)

unset_held : (slot : Slot) → is_unset slot ≡ true → is_held slot ≡ false
unset_held slot e = by slot.wished (is_some slot.request) e
  where
    by : (a b : Bool) → (a && (not b && not slot.refused)) ≡ true → b ≡ false
    by true false e = refl
    by true true e = absurd (cc)
    by false b e = absurd (cc)

never_late : (b c : Bool) → c ≡ true → (b && not c) ≡ false
never_late true true e = refl
never_late true false e = absurd (cc)
never_late false c e = refl

never_unset : (b c : Bool) → c ≡ false → (c && b) ≡ false
never_unset b true e = absurd (cc)
never_unset b false e = refl

-- no slot waits for an outcome before the place from which on it is looked for
pub none_awaits : (cursor : Cursor) (slots : List Slot) (outcome : Settled) → IsPast cursor slots
    → NoneBefore (awaits outcome) (start_of outcome cursor) slots
none_awaits cursor slots outcomes.Cleared past = past.late
none_awaits cursor slots (outcomes.Installed request) past = past.unset
none_awaits cursor slots (outcomes.Refused code) past = past.unset

module _ (cursor : Cursor) (slots : List Slot) (past : IsPast cursor slots) where
  past_cleared : IsPast cursor (with_first is_late (marked outcomes.Cleared) slots)
  past_cleared = record {
    late = own_none is_late (marked outcomes.Cleared) cursor.late slots past.late;
    installed = past.installed ∙ own_counted is_late (marked outcomes.Cleared) is_held cursor.late slots past.late;
    unset = other_none is_late (marked outcomes.Cleared) is_unset
        (λ slot e. never_unset (true && not slot.refused) slot.wished (cleared_wanted slot e)) cursor.unset slots
        past.unset;
    wished = past.wished
        ∙ other_counted is_late (marked outcomes.Cleared) is_wanted (λ slot e. refl) cursor.unset slots;
  }

  past_refused : (code : ℕ) → IsPast cursor (with_first is_unset (marked (outcomes.Refused code)) slots)
  past_refused code = record {
    late = other_none is_unset (marked (outcomes.Refused code)) is_late
        (λ slot e. never_late (is_some slot.request) slot.wished (unset_wanted slot e)) cursor.late slots past.late;
    installed = past.installed
        ∙ other_counted is_unset (marked (outcomes.Refused code)) is_held (λ slot e. refl) cursor.late slots;
    unset = own_none is_unset (marked (outcomes.Refused code)) cursor.unset slots past.unset;
    wished = past.wished
        ∙ own_counted is_unset (marked (outcomes.Refused code)) is_wanted cursor.unset slots past.unset;
  }

  past_installed : (request : ℕ) (found : Option ℕ) → found ≡ position_from is_unset 0 slots
      → IsPast (cursor_after (outcomes.Installed request) found cursor)
      (with_first is_unset (marked (outcomes.Installed request)) slots)
  past_installed request None e =
      subst (IsPast cursor) (sym (unchanged is_unset (marked (outcomes.Installed request)) slots
      (first_nowhere is_unset 0 slots (sym e)))) past
  past_installed request (Some place) e = by (nat_lt place cursor.late) counts
    where
      counts : cond (nat_lt place cursor.late) (cursor.installed + 1) cursor.installed
          ≡ counted is_held cursor.late (with_first is_unset (marked (outcomes.Installed request)) slots)
      counts =
          ap (λ n. cond (nat_lt place cursor.late) (n + 1) n) past.installed
          ∙ more_counted is_unset (marked (outcomes.Installed request)) is_held unset_held (λ slot f. refl)
          0 cursor.late place slots (sym e ∙ ap Some (let same : place ≡ 0 + place = omega arith in same))

      with_count : (n : ℕ)
          → n ≡ counted is_held cursor.late (with_first is_unset (marked (outcomes.Installed request)) slots)
          → IsPast (record cursor { installed = n }) (with_first is_unset (marked (outcomes.Installed request)) slots)
      with_count n f = record {
        late = other_none is_unset (marked (outcomes.Installed request)) is_late
            (λ slot e. never_late true slot.wished (unset_wanted slot e)) cursor.late slots past.late;
        installed = f;
        unset = own_none is_unset (marked (outcomes.Installed request)) cursor.unset slots past.unset;
        wished = past.wished
            ∙ own_counted is_unset (marked (outcomes.Installed request)) is_wanted cursor.unset slots past.unset;
      }

      by : (b : Bool) → cond b (cursor.installed + 1) cursor.installed
          ≡ counted is_held cursor.late (with_first is_unset (marked (outcomes.Installed request)) slots)
          → IsPast (cond b (record cursor { installed = cursor.installed + 1 }) cursor)
          (with_first is_unset (marked (outcomes.Installed request)) slots)
      by true f = with_count (cursor.installed + 1) f
      by false f = with_count cursor.installed f

-- a mark keeps the places, and counts what was installed
pub past_marked : (cursor : Cursor) (slots : List Slot) (outcome : Settled) (found : Option ℕ) → IsPast cursor slots
    → found ≡ position_from (awaits outcome) 0 slots
    → IsPast (cursor_after outcome found cursor) (with_first (awaits outcome) (marked outcome) slots)
past_marked cursor slots outcomes.Cleared found past e = past_cleared cursor slots past
past_marked cursor slots (outcomes.Installed request) found past e = past_installed cursor slots past request found e
past_marked cursor slots (outcomes.Refused code) found past e = past_refused cursor slots past code

-- how many slots are left
module _ (cursor : Cursor) (slots : List Slot) (past : IsPast cursor slots) where
  pub late_left : cursor.installed + length (drop cursor.late slots) ≤ length slots
  late_left =
      let few = counted_few is_held cursor.late slots in
      let within = none_within is_late cursor.late slots past.late in
      omega (arith, few, within, past.installed, length-drop cursor.late slots)

  pub unset_left : cursor.wished + length (drop cursor.unset slots) ≤ length slots
  unset_left =
      let few = counted_few is_wanted cursor.unset slots in
      let within = none_within is_unset cursor.unset slots past.unset in
      omega (arith, few, within, past.wished, length-drop cursor.unset slots)
