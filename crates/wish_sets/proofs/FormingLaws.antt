-- Each wish that is listed gets its slot, and then slots say what is wished.
use Rattle.std.proofs.Common.{◌≡◌, ℕ, zero, suc, ◌+◌, ◌<◌, ◌≤◌, ◌^◌, Bool, true, false, List, [], ◌∷◌, ◌++◌, refl, ap}
use Rattle.std.proofs.Common.{sym}
use Rattle.std.proofs.Common.{◌∙◌, subst, length, take, get_or, Option, Some, None, arith}
use Rattle.std.specs.Prelude.{◌||◌, ◌&&◌, filter, map, filter_map, fold, is_some, nat_lt}
use Rattle.std.specs.BTreeSet.{insert_key}
use Rattle.std.specs.List.{list_any, AllByRecursion, insert}
use Rattle.std.specs.List.Sorted.{IsStrictlySortedBy}
use Rattle.std.specs.Ordering.{is_eq, match_ordering, ordering_reverse}
use Rattle.std.specs.declared.cmp.Ordering.{Ordering}
use Rattle.std.specs.declared.cmp.Ordering.TheVariants.{Less, Equal, Greater}
use Rattle.std.proofs.lemmas.Map.Text.{is_eq-slice_cmp}
use Rattle.wish_sets.specs.declared.slot.Slot.{Slot}
use Rattle.wish_sets.specs.declared.wish.Wish.{Wish}
use Rattle.wish_sets.specs.declared.wish.Wish.TheVariants as wishes
use Rattle.wish_sets.specs.declared.entry.FunctionEntry.{FunctionEntry}
use Rattle.wish_sets.specs.declared.entry.LineEntry.{LineEntry}
use Rattle.wish_sets.specs.Forming.{by_wish, new_place, has_its_slot, list_watches, function_watches}
use Rattle.wish_sets.specs.Forming.{AreInOrder, IsWider}
use Rattle.wish_sets.specs.Names.{key_parts, has_class, package_name, package_named}
use Rattle.wish_sets.specs.Places.{Place, places}
use Rattle.wish_sets.specs.Wanted.{Wanted}
use Rattle.wish_sets.specs.Wished.{has_entries}
use Rattle.wish_sets.specs.Kept.{is_sound, listed_wishes}
use Rattle.wish_sets.specs.Order.{is_wish, wish_cmp, wish_rank, wish_total}
use Rattle.wish_sets.specs.Slots.{wishes_in, requests_in, refusals_in, new_slot, AreWithin}
use Rattle.wish_sets.proofs.OrderLaws.{any-insert, before_all, each-insert, sorted-insert}
use Rattle.wish_sets.proofs.WishLaws.{alike, is_itself}
use Rattle.wish_sets.proofs.SlotLaws.{none_behind, wishes_of}

-- the order of two does not matter to whether they are one
pub is_wish_sym : (a b : Wish) → is_wish a b ≡ is_wish b a
is_wish_sym a b = ap is_eq (wish_total.antisymm a b) ∙ by (wish_cmp b a)
  where
    by : (o : Ordering) → is_eq (ordering_reverse o) ≡ is_eq o
    by Less = refl
    by Equal = refl
    by Greater = refl

pub same_package : (name other : List ℕ) → Rattle.std.specs.Prelude.bytes_eq name other
    ≡ is_wish (wishes.Watch other) (wishes.Watch name)
same_package name other =
    sym (is_eq-slice_cmp name other) ∙ is_wish_sym (wishes.Watch name) (wishes.Watch other)

-- A slot is added -----------------------------------------------------------------------------------------------------

module _ (wish : Wish) where
  abbrev one : Slot
  one = new_slot wish false

  above : (n : ℕ) (xs : List Slot) (i : ℕ) → new_place n wish xs ≡ Some i → n ≤ i
  above n [] i e = let h : n ≡ i = cc in omega arith
  above n (x ∷ xs) i e = by (wish_cmp wish x.wish) e (above (n + 1) xs i)
    where
      by : (o : Ordering) → match_ordering o (Some n) None (new_place (n + 1) wish xs) ≡ Some i
          → (new_place (n + 1) wish xs ≡ Some i → n + 1 ≤ i) → n ≤ i
      by Less e again = let h : n ≡ i = cc in omega arith
      by Equal e again = absurd (cc)
      by Greater e again = let h : n + 1 ≤ i = again e in omega arith

  pub at_its_place : (n : ℕ) (xs : List Slot) (k : ℕ) → new_place n wish xs ≡ Some (n + k)
      → insert xs k one ≡ insert_key by_wish xs one
  at_its_place n [] zero e = refl
  at_its_place n [] (suc k) e = absurd (let h : n ≡ n + suc k = cc in omega (arith, h))
  at_its_place n (x ∷ xs) k e = by (wish_cmp wish x.wish) k e (λ j. at_its_place (n + 1) xs j)
    where
      by : (o : Ordering) (k : ℕ) → match_ordering o (Some n) None (new_place (n + 1) wish xs) ≡ Some (n + k)
          → ((j : ℕ) → new_place (n + 1) wish xs ≡ Some (n + 1 + j) → insert xs j one ≡ insert_key by_wish xs one)
          → insert (x ∷ xs) k one ≡ match_ordering o (one ∷ x ∷ xs) (x ∷ xs) (x ∷ insert_key by_wish xs one)
      by Less zero e again = refl
      by Less (suc k) e again = absurd (let h : n ≡ n + suc k = cc in omega (arith, h))
      by Equal k e again = absurd (cc)
      by Greater zero e again = absurd (let h = above (n + 1) xs (n + 0) e in omega (arith, h))
      by Greater (suc k) e again =
          let same : n + suc k ≡ n + 1 + k = omega arith in ap (λ ys. x ∷ ys) (again k (e ∙ ap Some same))

  pub has_a_place : (n : ℕ) (xs : List Slot) → new_place n wish xs ≡ None → has_its_slot xs wish ≡ true
  has_a_place n [] e = absurd (cc)
  has_a_place n (x ∷ xs) e = by (wish_cmp wish x.wish) e (has_a_place (n + 1) xs)
    where
      by : (o : Ordering) → match_ordering o (Some n) None (new_place (n + 1) wish xs) ≡ None
          → (new_place (n + 1) wish xs ≡ None → has_its_slot xs wish ≡ true)
          → (is_eq o || has_its_slot xs wish) ≡ true
      by Less e again = absurd (cc)
      by Equal e again = refl
      by Greater e again = again e

  -- where there is a place for it, it has no slot
  pub no_slot_yet : (n : ℕ) (xs : List Slot) (i : ℕ) → IsStrictlySortedBy wish_cmp (wishes_of xs)
      → new_place n wish xs ≡ Some i → has_its_slot xs wish ≡ false
  unfolding IsStrictlySortedBy
  no_slot_yet n [] i sorted e = refl
  no_slot_yet n (x ∷ xs) i sorted e = by (wish_cmp wish x.wish) refl e (no_slot_yet (n + 1) xs i sorted.1)
    where
      by : (o : Ordering) → wish_cmp wish x.wish ≡ o
          → match_ordering o (Some n) None (new_place (n + 1) wish xs) ≡ Some i
          → (new_place (n + 1) wish xs ≡ Some i → has_its_slot xs wish ≡ false)
          → (is_eq o || has_its_slot xs wish) ≡ false
      by Less f e again =
          none_behind (λ slot. true) wish xs (before_all wish_total wish x.wish (wishes_of xs) f sorted.0)
      by Equal f e again = absurd (cc)
      by Greater f e again = again e

  -- what is listed of slots stays, where nothing is listed of the new one
  stays : {K : Type 0} (list : List Slot → List K) → ((xs : List Slot) → list (one ∷ xs) ≡ list xs)
      → ((x : Slot) (xs ys : List Slot) → list xs ≡ list ys → list (x ∷ xs) ≡ list (x ∷ ys)) → (xs : List Slot)
      → list (insert_key by_wish xs one) ≡ list xs
  stays list nothing same [] = nothing []
  stays list nothing same (x ∷ xs) =
      by (wish_cmp wish x.wish) (same x (insert_key by_wish xs one) xs (stays list nothing same xs))
    where
      by : (o : Ordering) → list (x ∷ insert_key by_wish xs one) ≡ list (x ∷ xs)
          → list (match_ordering o (one ∷ x ∷ xs) (x ∷ xs) (x ∷ insert_key by_wish xs one)) ≡ list (x ∷ xs)
      by Less e = nothing (x ∷ xs)
      by Equal e = refl
      by Greater e = e

  wishes_with : (xs : List Slot) → wishes_of (insert_key by_wish xs one) ≡ insert_key wish_cmp (wishes_of xs) wish
  wishes_with [] = refl
  wishes_with (x ∷ xs) = by (wish_cmp wish x.wish) (wishes_with xs)
    where
      by : (o : Ordering) → wishes_of (insert_key by_wish xs one) ≡ insert_key wish_cmp (wishes_of xs) wish
          → wishes_of (match_ordering o (one ∷ x ∷ xs) (x ∷ xs) (x ∷ insert_key by_wish xs one))
          ≡ match_ordering o (wish ∷ x.wish ∷ wishes_of xs) (x.wish ∷ wishes_of xs)
          (x.wish ∷ insert_key wish_cmp (wishes_of xs) wish)
      by Less e = refl
      by Equal e = refl
      by Greater e = ap (λ ws. x.wish ∷ ws) e

  one_longer : (xs : List Slot) → length (insert_key by_wish xs one) ≤ suc (length xs)
  one_longer [] = omega arith
  one_longer (x ∷ xs) = by (wish_cmp wish x.wish) (one_longer xs)
    where
      by : (o : Ordering) → length (insert_key by_wish xs one) ≤ suc (length xs)
          → length (match_ordering o (one ∷ x ∷ xs) (x ∷ xs) (x ∷ insert_key by_wish xs one)) ≤ suc (suc (length xs))
      by Less e = omega arith
      by Equal e = omega arith
      by Greater e = omega (arith, e)

  has-with : (xs : List Slot) (other : Wish)
      → has_its_slot (insert_key by_wish xs one) other ≡ (is_wish other wish || has_its_slot xs other)
  has-with xs other =
      any-insert by_wish (λ slot. is_wish other slot.wish) (λ a b e. alike other a.wish b.wish e) one xs

  pub has_now : (xs : List Slot) → has_its_slot (insert_key by_wish xs one) wish ≡ true
  has_now xs = has-with xs wish ∙ rw (is_itself wish) refl

  pub wider : (xs : List Slot) → AreInOrder xs → wish_rank wish < 4 → length xs + 6 < 2 ^ 31
      → has_its_slot xs wish ≡ false → IsWider xs (insert_key by_wish xs one)
  wider xs are early room fresh = record {
    wishes = stays wishes_in (λ ys. refl) (λ x ys zs e. wished x ys zs e x.wished) xs;
    requests = stays requests_in (λ ys. refl) (λ x ys zs e. requested x ys zs e x.request) xs;
    refusals = stays refusals_in (λ ys. refl) (λ x ys zs e. refused x ys zs e x.refused) xs;
    kept = λ other e. has-with xs other ∙ by (is_wish other wish) (has_its_slot xs other) e;
    numbers = λ number none all. each-insert by_wish (λ slot. slot.count ≡ number slot.wish) one xs
        (sym (none wish fresh)) all;
    flags = λ all. each-insert by_wish (λ slot. slot.wished ≡ nat_lt 0 slot.count) one xs refl all;
    within = λ other most all. each-insert by_wish (λ slot. is_wish other slot.wish ≡ true → slot.count ≤ most) one xs
        (λ e. omega arith) all;
    in_order = record {
      sorted = subst (IsStrictlySortedBy wish_cmp) (sym (wishes_with xs))
          (sorted-insert wish_total wish (wishes_of xs) are.sorted);
      early = each-insert by_wish (λ slot. wish_rank slot.wish < 4) one xs early are.early;
      sound = each-insert by_wish (λ slot. is_sound slot ≡ true) one xs refl are.sound;
      counted = omega (arith, one_longer xs, room);
    };
  }
    where
      by : (a b : Bool) → b ≡ true → (a || b) ≡ true
      by true b e = refl
      by false b e = e

      wished : (x : Slot) (ys zs : List Slot) → wishes_in ys ≡ wishes_in zs → (b : Bool)
          → wishes_in (record x { wished = b } ∷ ys) ≡ wishes_in (record x { wished = b } ∷ zs)
      wished x ys zs e true = ap (λ ws. x.wish ∷ ws) e
      wished x ys zs e false = e

      requested : (x : Slot) (ys zs : List Slot) → requests_in ys ≡ requests_in zs → (o : Option ℕ)
          → requests_in (record x { request = o } ∷ ys) ≡ requests_in (record x { request = o } ∷ zs)
      requested x ys zs e None = e
      requested x ys zs e (Some request) = ap (λ rs. record { wish = x.wish; request = request } ∷ rs) e

      refused : (x : Slot) (ys zs : List Slot) → refusals_in ys ≡ refusals_in zs → (b : Bool)
          → refusals_in (record x { refused = b } ∷ ys) ≡ refusals_in (record x { refused = b } ∷ zs)
      refused x ys zs e true = ap (λ ws. x.wish ∷ ws) e
      refused x ys zs e false = e

pub wider-trans : (xs ys zs : List Slot) → IsWider xs ys → IsWider ys zs → IsWider xs zs
wider-trans xs ys zs first second = record {
  wishes = second.wishes ∙ first.wishes;
  requests = second.requests ∙ first.requests;
  refusals = second.refusals ∙ first.refusals;
  kept = λ wish e. second.kept wish (first.kept wish e);
  numbers = λ number none all. second.numbers number (λ wish e. none wish (lacks wish e))
      (first.numbers number none all);
  flags = λ all. second.flags (first.flags all);
  within = λ wish most all. second.within wish most (first.within wish most all);
  in_order = second.in_order;
}
  where
    lacks : (wish : Wish) → has_its_slot ys wish ≡ false → has_its_slot xs wish ≡ false
    lacks wish e = by (has_its_slot xs wish) refl
      where
        by : (b : Bool) → has_its_slot xs wish ≡ b → b ≡ false
        by true f = absurd (let h = first.kept wish f in cc)
        by false f = refl

pub wider-refl : (xs : List Slot) → AreInOrder xs → IsWider xs xs
wider-refl xs are = record {
  wishes = refl;
  requests = refl;
  refusals = refl;
  kept = λ wish e. e;
  numbers = λ number none all. all;
  flags = λ all. all;
  within = λ wish most all. all;
  in_order = are;
}

one_room : (those : List Wish) (xs ys : List Slot) (at most : ℕ) (d : Wish) → at < length those → IsWider xs ys
    → AllByRecursion (λ wish. AreWithin wish most xs) (take at those) → AreWithin (get_or those at d) most ys
    → AllByRecursion (λ wish. AreWithin wish most ys) (take (suc at) those)
one_room [] xs ys at most d within wide all has = absurd (omega (arith, within))
one_room (w ∷ those) xs ys zero most d within wide all has = (has, tt)
one_room (w ∷ those) xs ys (suc at) most d within wide all has =
    (wide.within w most all.0, one_room those xs ys at most d (omega (arith, within)) wide all.1 has)

-- one wish more has its slot
pub one_more : (those : List Wish) (xs ys : List Slot) (at : ℕ) (d : Wish) → at < length those → IsWider xs ys
    → AllByRecursion (λ wish. has_its_slot xs wish ≡ true) (take at those)
    → has_its_slot ys (get_or those at d) ≡ true
    → AllByRecursion (λ wish. has_its_slot ys wish ≡ true) (take (suc at) those)
one_more [] xs ys at d within wide all has = absurd (omega (arith, within))
one_more (w ∷ those) xs ys zero d within wide all has = (has, tt)
one_more (w ∷ those) xs ys (suc at) d within wide all has =
    (wide.kept w all.0, one_more those xs ys at d (omega (arith, within)) wide all.1 has)

-- one wish more has room
pub room_more : (those : List Wish) (xs ys zs : List Slot) (at most : ℕ) (d : Wish) → at < length those → IsWider xs ys
    → AllByRecursion (λ wish. AreWithin wish most xs) (take at those) → d ≡ get_or those at d → zs ≡ ys
    → AreWithin d most zs → AllByRecursion (λ wish. AreWithin wish most ys) (take (suc at) those)
room_more those xs ys zs at most d within wide all e f has =
    one_room those xs ys at most d within wide all
    (subst (λ wish. AreWithin wish most ys) e (subst (AreWithin d most) f has))

-- What is listed ------------------------------------------------------------------------------------------------------

module _ {A : Type 0} (name : A → List ℕ) where
  watches-map : (xs : List A) → map wishes.Watch (map name xs) ≡ map (λ x. wishes.Watch (name x)) xs
  watches-map [] = refl
  watches-map (x ∷ xs) = ap (λ ws. wishes.Watch (name x) ∷ ws) (watches-map xs)

watches-append : (xs ys : List (List ℕ)) → map wishes.Watch (xs ++ ys) ≡ map wishes.Watch xs ++ map wishes.Watch ys
watches-append [] ys = refl
watches-append (x ∷ xs) ys = ap (λ ws. wishes.Watch x ∷ ws) (watches-append xs ys)

abbrev pub stop_at : Place → Wish
stop_at place = wishes.Stop place.at

pub listed_are : (wanted : Wanted)
    → (((([] ++ wishes.ThreadStart ∷ []) ++ wishes.ThreadDeath ∷ []) ++ list_watches wanted.lists)
    ++ function_watches wanted.functions) ++ map stop_at (places wanted) ≡ listed_wishes wanted
listed_are wanted =
    ap (λ ws. wishes.ThreadStart ∷ wishes.ThreadDeath ∷ ws ++ map stop_at (places wanted))
    (sym (watches-append
    (map (λ (list : List ℕ × List LineEntry). package_name (key_parts list.0).package_path) (filter has_entries
    wanted.lists))
    (map (λ (entry : FunctionEntry). package_named entry.name) (filter (λ entry. has_class entry.name)
    wanted.functions))
    ∙ (ap (λ ws. ws ++ map wishes.Watch
    (map (λ (entry : FunctionEntry). package_named entry.name) (filter (λ entry. has_class entry.name)
    wanted.functions)))
    (watches-map (λ (list : List ℕ × List LineEntry). package_name (key_parts list.0).package_path)
    (filter has_entries wanted.lists))
    ∙ ap (λ ws. list_watches wanted.lists ++ ws)
    (watches-map (λ (entry : FunctionEntry). package_named entry.name)
    (filter (λ entry. has_class entry.name) wanted.functions)))))
