-- Entries that are verified: they are listed, and each takes its place by its id.
use Rattle.std.proofs.Common.{◌≡◌, ℕ, zero, suc, ◌+◌, ◌≤◌, Bool, true, false, List, [], ◌∷◌, ◌++◌, refl, ap, sym, ◌∙◌}
use Rattle.std.proofs.Common.{Some, None, Result, Ok, Err, arith}
use Rattle.std.proofs.lemmas.Bool.Decides.{nat_tests}
use Rattle.std.proofs.lemmas.List.Elements.{filter-append}
use Rattle.std.proofs.lemmas.List.Sums.{fold-append}
use Rattle.std.specs.Prelude.{◌||◌, ◌==◌, if◌then◌else◌, map, filter, flat_map, fold, IfOk}
use Rattle.std.specs.BTreeSet.{insert_key}
use Rattle.std.specs.List.{list_any, insert}
use Rattle.std.specs.Ordering.{match_ordering, nat_cmp, on}
use Rattle.std.specs.declared.cmp.Ordering.{Ordering}
use Rattle.std.specs.declared.cmp.Ordering.TheVariants.{Less, Equal, Greater}
use Rattle.wish_sets.specs.declared.entry.FunctionEntry.{FunctionEntry}
use Rattle.wish_sets.specs.declared.entry.LineEntry.{LineEntry}
use Rattle.wish_sets.specs.declared.entry.VerifiedEntry.{VerifiedEntry}
use Rattle.wish_sets.specs.declared.entry.EntryState.TheVariants.{Verified, Refused, Waiting}
use Rattle.wish_sets.specs.Entries.{all_entries, entry_ids, entry_state, function_seen, has_location, is_verified}
use Rattle.wish_sets.specs.Entries.{line_seen, state_of, verified}
use Rattle.wish_sets.specs.Order.{has_wish}
use Rattle.wish_sets.specs.Places.{places}
use Rattle.wish_sets.specs.Verified.{entry_place, is_sure, with_verified}
use Rattle.wish_sets.specs.Wanted.{Wanted}
use Rattle.wish_sets.specs.Wishes.{Wishes, is_installed}

-- Entries by their ids ------------------------------------------------------------------------------------------------

abbrev pub by_id : VerifiedEntry → VerifiedEntry → Ordering
by_id = on (λ (entry : VerifiedEntry). entry.id) nat_cmp

module _ (one : VerifiedEntry) where
  id_above : (n : ℕ) (xs : List VerifiedEntry) (i : ℕ) → entry_place n one.id xs ≡ Some i → n ≤ i
  id_above n [] i e = let h : n ≡ i = cc in omega arith
  id_above n (x ∷ xs) i e = by (nat_cmp one.id x.id) e (id_above (n + 1) xs i)
    where
      by : (o : Ordering) → match_ordering o (Some n) None (entry_place (n + 1) one.id xs) ≡ Some i
          → (entry_place (n + 1) one.id xs ≡ Some i → n + 1 ≤ i) → n ≤ i
      by Less e again = let h : n ≡ i = cc in omega arith
      by Equal e again = absurd (cc)
      by Greater e again = let h : n + 1 ≤ i = again e in omega arith

  placed_from : (n : ℕ) (xs : List VerifiedEntry) (k : ℕ) → entry_place n one.id xs ≡ Some (n + k)
      → insert xs k one ≡ insert_key by_id xs one
  placed_from n [] zero e = refl
  placed_from n [] (suc k) e = absurd (let h : n ≡ n + suc k = cc in omega (arith, h))
  placed_from n (x ∷ xs) k e = by (nat_cmp one.id x.id) k e (λ j. placed_from (n + 1) xs j)
    where
      by : (o : Ordering) (k : ℕ) → match_ordering o (Some n) None (entry_place (n + 1) one.id xs) ≡ Some (n + k)
          → ((j : ℕ) → entry_place (n + 1) one.id xs ≡ Some (n + 1 + j) → insert xs j one ≡ insert_key by_id xs one)
          → insert (x ∷ xs) k one ≡ match_ordering o (one ∷ x ∷ xs) (x ∷ xs) (x ∷ insert_key by_id xs one)
      by Less zero e again = refl
      by Less (suc k) e again = absurd (let h : n ≡ n + suc k = cc in omega (arith, h))
      by Equal k e again = absurd (cc)
      by Greater zero e again = absurd (let h = id_above (n + 1) xs (n + 0) e in omega (arith, h))
      by Greater (suc k) e again =
          let same : n + suc k ≡ n + 1 + k = omega arith in ap (λ ys. x ∷ ys) (again k (e ∙ ap Some same))

  pub at_its_id : (xs : List VerifiedEntry) (k : ℕ) → Some k ≡ entry_place 0 one.id xs
      → insert xs k one ≡ insert_key by_id xs one
  at_its_id xs k e = placed_from 0 xs k (sym e ∙ ap Some (let zero_on : k ≡ 0 + k = omega arith in zero_on))

  none_from : (n : ℕ) (xs : List VerifiedEntry) → entry_place n one.id xs ≡ None → insert_key by_id xs one ≡ xs
  none_from n [] e = absurd (cc)
  none_from n (x ∷ xs) e = by (nat_cmp one.id x.id) e (none_from (n + 1) xs)
    where
      by : (o : Ordering) → match_ordering o (Some n) None (entry_place (n + 1) one.id xs) ≡ None
          → (entry_place (n + 1) one.id xs ≡ None → insert_key by_id xs one ≡ xs)
          → match_ordering o (one ∷ x ∷ xs) (x ∷ xs) (x ∷ insert_key by_id xs one) ≡ x ∷ xs
      by Less e again = absurd (cc)
      by Equal e again = refl
      by Greater e again = ap (λ ys. x ∷ ys) (again e)

  pub no_entry_place : (xs : List VerifiedEntry) → None ≡ entry_place 0 one.id xs → insert_key by_id xs one ≡ xs
  no_entry_place xs e = none_from 0 xs (sym e)

-- List by list --------------------------------------------------------------------------------------------------------

-- those of two lists are those of the one, and then those of the other
pub list_by_list : (w : Wishes) (xs ys found : List VerifiedEntry)
    → with_verified w (xs ++ ys) found ≡ with_verified w ys (with_verified w xs found)
list_by_list w xs ys found =
    ap (fold (insert_key by_id) found) (filter-append (λ (entry : VerifiedEntry). is_sure (state_of w entry.id)) xs ys)
    ∙ fold-append (insert_key by_id) found (filter (λ (entry : VerifiedEntry). is_sure (state_of w entry.id)) xs)
    (filter (λ (entry : VerifiedEntry). is_sure (state_of w entry.id)) ys)

-- Each entry is listed ------------------------------------------------------------------------------------------------

-- an id is among some
abbrev is_among : List ℕ → ℕ → Bool
is_among ids id = list_any (λ other. other == id) ids

abbrev ids_of : List VerifiedEntry → List ℕ
ids_of entries = map (λ (entry : VerifiedEntry). entry.id) entries

abbrev seen_of : List (List ℕ × List LineEntry) → List VerifiedEntry
seen_of lists = flat_map (λ (list : List ℕ × List LineEntry). map line_seen list.1) lists

itself : (id : ℕ) (ids : List ℕ) → is_among (id ∷ ids) id ≡ true
itself id ids = grind (arith, nat_tests)

behind : (first id : ℕ) (ids : List ℕ) → is_among ids id ≡ true → is_among (first ∷ ids) id ≡ true
behind first id ids e = by (first == id)
  where
    by : (b : Bool) → (b || is_among ids id) ≡ true
    by true = refl
    by false = e

ids-append : (xs ys : List VerifiedEntry) → ids_of (xs ++ ys) ≡ ids_of xs ++ ids_of ys
ids-append [] ys = refl
ids-append (x ∷ xs) ys = ap (λ ids. x.id ∷ ids) (ids-append xs ys)

ids_of_lines : (entries : List LineEntry)
    → ids_of (map line_seen entries) ≡ map (λ (entry : LineEntry). entry.id) entries
ids_of_lines [] = refl
ids_of_lines (x ∷ xs) = ap (λ ids. x.id ∷ ids) (ids_of_lines xs)

ids_of_functions : (functions : List FunctionEntry)
    → ids_of (map function_seen functions) ≡ map (λ (entry : FunctionEntry). entry.id) functions
ids_of_functions [] = refl
ids_of_functions (x ∷ xs) = ap (λ ids. x.id ∷ ids) (ids_of_functions xs)

ids_of_lists : (lists : List (List ℕ × List LineEntry))
    → ids_of (seen_of lists)
    ≡ flat_map (λ (list : List ℕ × List LineEntry). map (λ (entry : LineEntry). entry.id) list.1) lists
ids_of_lists [] = refl
ids_of_lists (list ∷ lists) =
    ids-append (map line_seen list.1) (seen_of lists)
    ∙ (ap (λ ids. ids ++ ids_of (seen_of lists)) (ids_of_lines list.1)
    ∙ ap (λ ids. map (λ (entry : LineEntry). entry.id) list.1 ++ ids) (ids_of_lists lists))

-- the ids of all entries are those that are listed
ids_of_all : (wanted : Wanted) → ids_of (all_entries wanted) ≡ entry_ids wanted
ids_of_all wanted =
    ids-append (seen_of wanted.lists) (map function_seen wanted.functions)
    ∙ (ap (λ ids. ids ++ ids_of (map function_seen wanted.functions)) (ids_of_lists wanted.lists)
    ∙ ap (λ ids. flat_map (λ (list : List ℕ × List LineEntry). map (λ (entry : LineEntry). entry.id) list.1)
    wanted.lists ++ ids) (ids_of_functions wanted.functions))

-- an entry that is listed is verified by its state where one of its locations is installed
sure : (w : Wishes) (entry : VerifiedEntry) → is_among (entry_ids w.wanted) entry.id ≡ true
    → is_sure (state_of w entry.id) ≡ is_verified w entry
sure w entry listed =
    ap (λ b. is_sure (if b then Some (entry_state w entry.id) else None)) listed
    ∙ by (has_location (places w.wanted) entry.id (is_installed w.installed))
    (has_location (places w.wanted) entry.id (has_wish w.refused))
  where
    by : (b c : Bool) → is_sure (Some (if b then Verified else (if c then Refused else Waiting))) ≡ b
    by true c = refl
    by false true = refl
    by false false = refl

same_entries : (w : Wishes) (entries : List VerifiedEntry)
    → ((id : ℕ) → is_among (ids_of entries) id ≡ true → is_among (entry_ids w.wanted) id ≡ true)
    → filter (λ (entry : VerifiedEntry). is_sure (state_of w entry.id)) entries ≡ filter (is_verified w) entries
same_entries w [] listed = refl
same_entries w (x ∷ xs) listed =
    ap (λ b. if b then x ∷ filter (λ (entry : VerifiedEntry). is_sure (state_of w entry.id)) xs
    else filter (λ (entry : VerifiedEntry). is_sure (state_of w entry.id)) xs)
    (sure w x (listed x.id (itself x.id (ids_of xs))))
    ∙ ap (λ ys. if is_verified w x then x ∷ ys else ys)
    (same_entries w xs (λ id e. listed id (behind x.id id (ids_of xs) e)))

-- all that are verified are found by their states
pub all_verified : (w : Wishes) → with_verified w (all_entries w.wanted) [] ≡ verified w
all_verified w =
    ap (fold (insert_key by_id) []) (same_entries w (all_entries w.wanted)
    (λ id e. sym (ap (λ ids. is_among ids id) (ids_of_all w.wanted)) ∙ e))

-- the entries that are found of what is wanted are those that are verified
pub ok_verified : {E : Type 0} (w : Wishes) {wanted : Wanted} → wanted ≡ w.wanted
    → (r : Result (List VerifiedEntry) E)
    → IfOk r (λ entries. entries ≡ with_verified w (all_entries wanted) [])
    → IfOk r (λ entries. entries ≡ verified w)
ok_verified w same (Err e) h = tt
ok_verified w same (Ok entries) h =
    h ∙ (ap (λ those. with_verified w (all_entries those) []) same ∙ all_verified w)
