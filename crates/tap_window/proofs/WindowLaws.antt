-- Commands that have no reply yet, as they are kept, and as the definitions have them.
use Rattle.std.proofs.Common.{◌≡◌, ℕ, ◌+◌, ◌-◌, ◌<◌, ◌%◌, ◌==◌, Bool, true, false, not, cond, List, [], ◌∷◌, ◌++◌}
use Rattle.std.proofs.Common.{Option, Some, None, refl, subst, sym, ap, ◌∙◌, arith}
use Rattle.std.specs.Prelude.{count_by, nat_le}
use Rattle.std.specs.BTreeMap.{insert_entry, is_at}
use Rattle.std.specs.List.{AllByRecursion}
use Rattle.std.specs.List.Sorted.{IsStrictlySortedBy}
use Rattle.std.specs.Map.{keys_of, lookup, remove_entry}
use Rattle.std.specs.Ordering.{is_eq, nat_cmp}
use Rattle.std.specs.declared.cmp.Ordering.TheVariants.{Greater, Less}
use Rattle.std.proofs.lemmas.Bool.{eqb-true}
use Rattle.std.proofs.lemmas.Cmp.{ranked}
use Rattle.std.proofs.lemmas.List.Sums.{sum_by-cons}
use Rattle.std.proofs.lemmas.Map.Keys.{sorted_head, sorted_tail}
use Rattle.pending_table.specs.Windows.{id_of, turn}
use Rattle.tap_window.specs.Pending.{IsKept, IsWindow, former_behind, id_in, is_of, key_of, pending_in, per_turn}
use Rattle.tap_model.specs.declared.owner.Owner.{Owner}
use Rattle.tap_model.specs.States.{SentCommands, is_debuggers, is_question, pending_under, settled, without}

abbrev Kept : Type 0
Kept = List (ℕ × Owner)

-- Numbers -------------------------------------------------------------------------------------------------------------

same_test : (k x : ℕ) → is_eq (nat_cmp k x) ≡ (k == x)
same_test k x = grind arith

is_less : (k x : ℕ) → nat_cmp k x ≡ Less → k < x
is_less k x e = ranked k x Less (sym e)

is_greater : (k x : ℕ) → x < k → nat_cmp k x ≡ Greater
is_greater k x e = grind arith

less_differs : (k x : ℕ) → k < x → (k == x) ≡ false
less_differs k x e = grind arith

-- the number that a command is kept under tells its id
tells_id : (former latest id : ℕ) → former % per_turn ≡ 0 → id < per_turn → id_in (key_of former latest id) ≡ id
tells_id former latest id begins small = by (nat_le id latest)
  where
    by : (b : Bool) → id_in (cond b (former + per_turn + id) (former + id)) ≡ id
    by true = omega arith
    by false = omega arith

same_number : (a b : ℕ) → a ≡ b → (a == b) ≡ true
same_number a b e = grind arith

-- a command is that of an id just where it is kept under the number of that id
here : (former latest id key : ℕ) → former % per_turn ≡ 0 → id < per_turn → IsKept former latest key
    → (key_of former latest id == key) ≡ (id_in key == id)
here former latest id key begins small kept = by (key_of former latest id == key) (id_in key == id) refl refl
  where
    by : (a b : Bool) → (key_of former latest id == key) ≡ a → (id_in key == id) ≡ b → a ≡ b
    by true true is has = refl
    by false false is has = refl
    by true false is has =
        let same = eqb-true (key_of former latest id) key is in
        let named : id_in key ≡ id = ap id_in (sym same) ∙ tells_id former latest id begins small in
        sym (same_number _ _ named) ∙ has
    by false true is has =
        let same : id_in key ≡ id = eqb-true (id_in key) id has in
        let kept_so : key_of former latest id ≡ key =
        ap (key_of former latest) (sym same) ∙ sym kept.latest_so in
        sym is ∙ same_number _ _ kept_so

found_here : (former latest id key : ℕ) → former % per_turn ≡ 0 → id < per_turn → IsKept former latest key
    → is_at (nat_cmp (key_of former latest id)) key ≡ (id_in key == id)
found_here former latest id key begins small kept =
    same_test (key_of former latest id) key ∙ here former latest id key begins small kept

-- Look-ups ------------------------------------------------------------------------------------------------------------

-- the command of a number is the one that is pending under its id
pub found_under : (former latest id : ℕ) (kept : Kept) → former % per_turn ≡ 0 → id < per_turn
    → AllByRecursion (λ (e : ℕ × Owner). IsKept former latest e.0) kept
    → lookup (is_at (nat_cmp (key_of former latest id))) kept ≡ pending_under id (pending_in kept)
found_under former latest id [] begins small each = refl
found_under former latest id (e ∷ kept) begins small each =
    by (is_at (nat_cmp (key_of former latest id)) e.0) (id_in e.0 == id)
    (found_here former latest id e.0 begins small each.0) (found_under former latest id kept begins small each.1)
  where
    by : (a b : Bool) → a ≡ b
        → lookup (is_at (nat_cmp (key_of former latest id))) kept ≡ pending_under id (pending_in kept)
        → cond a (Some e.1) (lookup (is_at (nat_cmp (key_of former latest id))) kept)
        ≡ cond b (Some e.1) (pending_under id (pending_in kept))
    by true true is again = refl
    by false false is again = again
    by true false is again = absurd cc
    by false true is again = absurd cc

-- Commands that are let go --------------------------------------------------------------------------------------------

-- behind a command none is of its id
none_after : (former latest id : ℕ) (kept : Kept) → former % per_turn ≡ 0 → id < per_turn
    → AllByRecursion (λ (e : ℕ × Owner). IsKept former latest e.0) kept
    → AllByRecursion (λ key. nat_cmp (key_of former latest id) key ≡ Less) (keys_of kept)
    → without id (pending_in kept) ≡ pending_in kept
none_after former latest id [] begins small each above = refl
none_after former latest id (e ∷ kept) begins small each above =
    by (id_in e.0 == id)
    (sym (here former latest id e.0 begins small each.0)
    ∙ less_differs _ _ (is_less _ _ above.0))
    (none_after former latest id kept begins small each.1 above.1)
  where
    by : (b : Bool) → b ≡ false → without id (pending_in kept) ≡ pending_in kept
        → cond (not b) ((id_in e.0, e.1) ∷ without id (pending_in kept)) (without id (pending_in kept))
        ≡ (id_in e.0, e.1) ∷ pending_in kept
    by true is again = absurd cc
    by false is again = ap (λ (rest : Kept). (id_in e.0, e.1) ∷ rest) again

-- without the command of a number, those are left that aren't of its id
pub others_kept : (former latest id : ℕ) (kept : Kept) → former % per_turn ≡ 0 → id < per_turn
    → IsStrictlySortedBy nat_cmp (keys_of kept)
    → AllByRecursion (λ (e : ℕ × Owner). IsKept former latest e.0) kept
    → pending_in (remove_entry (is_at (nat_cmp (key_of former latest id))) kept) ≡ without id (pending_in kept)
others_kept former latest id [] begins small ordered each = refl
others_kept former latest id (e ∷ kept) begins small ordered each =
    by (is_at (nat_cmp (key_of former latest id)) e.0) (id_in e.0 == id) refl
    (found_here former latest id e.0 begins small each.0)
    (others_kept former latest id kept begins small (sorted_tail nat_cmp e.0 (keys_of kept) ordered) each.1)
  where
    key : ℕ
    key = key_of former latest id

    by : (a b : Bool) → is_at (nat_cmp key) e.0 ≡ a → a ≡ b
        → pending_in (remove_entry (is_at (nat_cmp key)) kept) ≡ without id (pending_in kept)
        → pending_in (cond a kept (e ∷ remove_entry (is_at (nat_cmp key)) kept))
        ≡ cond (not b) ((id_in e.0, e.1) ∷ without id (pending_in kept)) (without id (pending_in kept))
    by true true at is again =
        let same : key ≡ e.0 = eqb-true key e.0 (sym (same_test key e.0) ∙ at) in
        sym (none_after former latest id kept begins small each.1
        (subst (λ k. AllByRecursion (λ other. nat_cmp k other ≡ Less) (keys_of kept)) (sym same)
        (sorted_head nat_cmp e.0 (keys_of kept) ordered)))
    by false false at is again = ap (λ (rest : Kept). (id_in e.0, e.1) ∷ rest) again
    by true false at is again = absurd cc
    by false true at is again = absurd cc

-- what holds of all holds of those that are left
pub all_left : (P : ℕ × Owner → Type 0) (test : ℕ → Bool) (kept : Kept) → AllByRecursion P kept
    → AllByRecursion P (remove_entry test kept)
all_left P test [] all = tt
all_left P test (e ∷ kept) all = by (test e.0) (all_left P test kept all.1)
  where
    by : (b : Bool) → AllByRecursion P (remove_entry test kept)
        → AllByRecursion P (cond b kept (e ∷ remove_entry test kept))
    by true again = all.1
    by false again = (all.0, again)

-- one of a kind less is left where the one that is let go is of that kind
counted_less : (kind : Owner → Bool) (test : ℕ → Bool) (kept : Kept)
    → count_by (λ (p : ℕ × Owner). kind p.1) (pending_in (remove_entry test kept))
    + cond (is_of kind (lookup test kept)) 1 0 ≡ count_by (λ (p : ℕ × Owner). kind p.1) (pending_in kept)
counted_less kind test [] = refl
counted_less kind test (e ∷ kept) =
    by (test e.0) (counted_less kind test kept) ∙ sym (sum_by-cons weight (id_in e.0, e.1) (pending_in kept))
  where
    weight : ℕ × Owner → ℕ
    weight p = cond (kind p.1) 1 0

    many : Kept → ℕ
    many pending = count_by (λ (p : ℕ × Owner). kind p.1) pending

    by : (b : Bool)
        → many (pending_in (remove_entry test kept)) + cond (is_of kind (lookup test kept)) 1 0
        ≡ many (pending_in kept)
        → many (pending_in (cond b kept (e ∷ remove_entry test kept)))
        + cond (is_of kind (cond b (Some e.1) (lookup test kept))) 1 0
        ≡ weight (id_in e.0, e.1) + many (pending_in kept)
    by true again = omega arith
    by false again =
        let one = sum_by-cons weight (id_in e.0, e.1) (pending_in (remove_entry test kept)) in
        omega (arith, one, again)

-- the same by what is subtracted
pub debuggers_left : (test : ℕ → Bool) (kept : Kept)
    → count_by is_debuggers (pending_in kept)
    - cond (is_of (λ owner. is_debuggers (0, owner)) (lookup test kept)) 1 0
    ≡ count_by is_debuggers (pending_in (remove_entry test kept))
debuggers_left test kept =
    let all = counted_less (λ owner. is_debuggers (0, owner)) test kept in
    omega (arith, all)

pub questions_left : (test : ℕ → Bool) (kept : Kept)
    → count_by is_question (pending_in kept)
    - cond (is_of (λ owner. is_question (0, owner)) (lookup test kept)) 1 0
    ≡ count_by is_question (pending_in (remove_entry test kept))
questions_left test kept =
    let all = counted_less (λ owner. is_question (0, owner)) test kept in
    omega (arith, all)

-- One command more ----------------------------------------------------------------------------------------------------

-- what was let go is pending no more
pub none_left : (id : ℕ) (pending : Kept) → pending_under id (without id pending) ≡ None
none_left id [] = refl
none_left id (p ∷ pending) = by (p.0 == id) refl (none_left id pending)
  where
    by : (b : Bool) → (p.0 == id) ≡ b → pending_under id (without id pending) ≡ None
        → pending_under id (cond (not b) (p ∷ without id pending) (without id pending)) ≡ None
    by true is again = again
    by false is again =
        ap (λ (b : Bool). cond b (Some p.1) (pending_under id (without id pending))) is ∙ again

-- a number above all others goes behind them
appended : (key : ℕ) (owner : Owner) (kept : Kept) → AllByRecursion (λ (e : ℕ × Owner). e.0 < key) kept
    → insert_entry nat_cmp kept key owner ≡ kept ++ (key, owner) ∷ []
appended key owner [] below = refl
appended key owner (e ∷ kept) below =
    rw (is_greater key e.0 below.0) (ap (λ (rest : Kept). e ∷ rest) (appended key owner kept below.1))

-- the number of the next command
abbrev next_key : ℕ → ℕ → ℕ
next_key former latest = former + per_turn + (latest + 1)

is_below : (former latest key : ℕ) → IsKept former latest key → key < next_key former latest
is_below former latest key kept = by (nat_le (id_in key) latest) refl kept.latest_so
  where
    by : (b : Bool) → nat_le (id_in key) latest ≡ b
        → key ≡ cond b (former + per_turn + id_in key) (former + id_in key) → key < next_key former latest
    by true is same = grind arith
    by false is same = omega arith

all_below : (former latest : ℕ) (kept : Kept)
    → AllByRecursion (λ (e : ℕ × Owner). IsKept former latest e.0) kept
    → AllByRecursion (λ (e : ℕ × Owner). e.0 < next_key former latest) kept
all_below former latest [] each = tt
all_below former latest (e ∷ kept) each =
    (is_below former latest e.0 each.0, all_below former latest kept each.1)

-- a command of another id stays under its number
key_stays : (former latest id : ℕ) → latest < turn → 0 < id → id < per_turn → (id == latest + 1) ≡ false
    → key_of (former_behind former latest) ((latest + 1) % turn) id ≡ key_of former latest id
key_stays former latest id within named small differs = grind arith

stays_kept : (former latest key : ℕ) → latest < turn → IsKept former latest key
    → (id_in key == latest + 1) ≡ false → IsKept (former_behind former latest) ((latest + 1) % turn) key
stays_kept former latest key within kept differs = record {
  named = kept.named;
  latest_so = kept.latest_so
      ∙ sym (key_stays former latest (id_in key) within kept.named (omega arith) differs);
}

-- and the next command is kept under the number that its id has from then on
new_id : (former latest : ℕ) → former % per_turn ≡ 0 → latest < turn
    → id_in (next_key former latest) ≡ latest + 1
new_id former latest begins within = omega arith

key_new : (former latest : ℕ) → latest < turn
    → key_of (former_behind former latest) ((latest + 1) % turn) (latest + 1) ≡ next_key former latest
key_new former latest within = grind arith

new_kept : (former latest : ℕ) → former % per_turn ≡ 0 → latest < turn
    → IsKept (former_behind former latest) ((latest + 1) % turn) (next_key former latest)
new_kept former latest begins within = record {
  named = (let is = new_id former latest begins within in omega (arith, is));
  latest_so = sym (ap (key_of (former_behind former latest) ((latest + 1) % turn))
      (new_id former latest begins within) ∙ key_new former latest within);
}

all_kept : (former latest : ℕ) (owner : Owner) (kept : Kept) → former % per_turn ≡ 0 → latest < turn
    → AllByRecursion (λ (e : ℕ × Owner). IsKept former latest e.0) kept
    → pending_under (latest + 1) (pending_in kept) ≡ None
    → AllByRecursion (λ (e : ℕ × Owner). IsKept (former_behind former latest) ((latest + 1) % turn) e.0)
    (kept ++ (next_key former latest, owner) ∷ [])
all_kept former latest owner [] begins within each none = (new_kept former latest begins within, tt)
all_kept former latest owner (e ∷ kept) begins within each none =
    by (id_in e.0 == latest + 1) refl (all_kept former latest owner kept begins within each.1) none
  where
    by : (b : Bool) → (id_in e.0 == latest + 1) ≡ b
        → (pending_under (latest + 1) (pending_in kept) ≡ None
        → AllByRecursion (λ (x : ℕ × Owner). IsKept (former_behind former latest) ((latest + 1) % turn) x.0)
        (kept ++ (next_key former latest, owner) ∷ []))
        → cond b (Some e.1) (pending_under (latest + 1) (pending_in kept)) ≡ None
        → AllByRecursion (λ (x : ℕ × Owner). IsKept (former_behind former latest) ((latest + 1) % turn) x.0)
        (e ∷ kept ++ (next_key former latest, owner) ∷ [])
    by true is again none_here = absurd cc
    by false is again none_here = (stays_kept former latest e.0 within each.0 is, again none_here)

pending_more : (former latest : ℕ) (owner : Owner) (kept : Kept) → former % per_turn ≡ 0 → latest < turn
    → pending_in (kept ++ (next_key former latest, owner) ∷ []) ≡ pending_in kept ++ (latest + 1, owner) ∷ []
pending_more former latest owner [] begins within =
    ap (λ (id : ℕ). (id, owner) ∷ []) (new_id former latest begins within)
pending_more former latest owner (e ∷ kept) begins within =
    ap (λ (rest : Kept). (id_in e.0, e.1) ∷ rest) (pending_more former latest owner kept begins within)

counted_more : (kind : Owner → Bool) (pending : Kept) (id : ℕ) (owner : Owner)
    → count_by (λ (p : ℕ × Owner). kind p.1) (pending ++ (id, owner) ∷ [])
    ≡ count_by (λ (p : ℕ × Owner). kind p.1) pending + cond (kind owner) 1 0
counted_more kind [] id owner = refl
counted_more kind (p ∷ pending) id owner =
    let again = counted_more kind pending id owner in
    let long = sum_by-cons (λ (x : ℕ × Owner). cond (kind x.1) 1 0) p (pending ++ (id, owner) ∷ []) in
    let short = sum_by-cons (λ (x : ℕ × Owner). cond (kind x.1) 1 0) p pending in
    omega (arith, again, long, short)

former_begins : (former latest : ℕ) → former % per_turn ≡ 0 → former_behind former latest % per_turn ≡ 0
former_begins former latest begins = by (nat_le turn (latest + 1))
  where
    by : (b : Bool) → cond b (former + per_turn) former % per_turn ≡ 0
    by true = omega arith
    by false = begins

former_small : (former latest : ℕ) → former < 4611686018427387904
    → former_behind former latest < 9223372036854775808
former_small former latest small = by (nat_le turn (latest + 1))
  where
    by : (b : Bool) → cond b (former + per_turn) former < 9223372036854775808
    by true = omega arith
    by false = omega arith

-- Windows -------------------------------------------------------------------------------------------------------------

-- where the command of a number was let go
pub window_settled : (former latest debuggers questions key d q : ℕ) (kept kept' : Kept) (found : Option Owner)
    (a b : Bool) → IsWindow kept former latest debuggers questions
    → kept' ≡ remove_entry (is_at (nat_cmp key)) kept → IsStrictlySortedBy nat_cmp (keys_of kept')
    → found ≡ lookup (is_at (nat_cmp key)) kept
    → a ≡ is_of (λ owner. is_debuggers (0, owner)) found → d ≡ debuggers - cond a 1 0
    → b ≡ is_of (λ owner. is_question (0, owner)) found → q ≡ questions - cond b 1 0
    → IsWindow kept' former latest d q
window_settled former latest debuggers questions key d q kept kept' found a b window same ordered found_is a_is d_is
    b_is q_is = record {
      ordered = ordered;
      each = subst (λ (k : Kept). AllByRecursion (λ (e : ℕ × Owner). IsKept former latest e.0) k) (sym same)
          (all_left (λ (e : ℕ × Owner). IsKept former latest e.0) (is_at (nat_cmp key)) kept window.each);
      begins = window.begins;
      within = window.within;
      small = window.small;
      debuggers_counted = d_is
          ∙ (ap (λ (n : ℕ). n - cond a 1 0) window.debuggers_counted
          ∙ (ap (λ (t : Bool). count_by is_debuggers (pending_in kept) - cond t 1 0) a_is
          ∙ (ap (λ (o : Option Owner). count_by is_debuggers (pending_in kept)
          - cond (is_of (λ owner. is_debuggers (0, owner)) o) 1 0) found_is
          ∙ (debuggers_left (is_at (nat_cmp key)) kept
          ∙ ap (λ (k : Kept). count_by is_debuggers (pending_in k)) (sym same)))));
      questions_counted = q_is
          ∙ (ap (λ (n : ℕ). n - cond b 1 0) window.questions_counted
          ∙ (ap (λ (t : Bool). count_by is_question (pending_in kept) - cond t 1 0) b_is
          ∙ (ap (λ (o : Option Owner). count_by is_question (pending_in kept)
          - cond (is_of (λ owner. is_question (0, owner)) o) 1 0) found_is
          ∙ (questions_left (is_at (nat_cmp key)) kept
          ∙ ap (λ (k : Kept). count_by is_question (pending_in k)) (sym same)))));
    }

pub view_settled : (former latest debuggers questions id key : ℕ) (kept kept' : Kept) (old : SentCommands)
    → IsWindow kept former latest debuggers questions → id < per_turn → key ≡ key_of former latest id
    → kept' ≡ remove_entry (is_at (nat_cmp key)) kept → record { pending = pending_in kept; next = latest } ≡ old
    → record { pending = pending_in kept'; next = latest } ≡ settled id old
view_settled former latest debuggers questions id key kept kept' old window small key_is same view =
    let left : pending_in kept' ≡ without id (pending_in kept) =
    ap pending_in same
    ∙ (ap (λ (k : ℕ). pending_in (remove_entry (is_at (nat_cmp k)) kept)) key_is
    ∙ others_kept former latest id kept window.begins small window.ordered window.each) in
    ap (λ (p : Kept). record { pending = p; next = latest }) left ∙ ap (settled id) view

-- where one more was sent
kept_behind : (former latest debuggers questions key : ℕ) (kept kept' : Kept) (owner : Owner)
    → IsWindow kept former latest debuggers questions → key ≡ next_key former latest
    → kept' ≡ insert_entry nat_cmp kept key owner → kept' ≡ kept ++ (next_key former latest, owner) ∷ []
kept_behind former latest debuggers questions key kept kept' owner window key_is same =
    same
    ∙ (ap (λ (k : ℕ). insert_entry nat_cmp kept k owner) key_is
    ∙ appended (next_key former latest) owner kept (all_below former latest kept window.each))

pub window_sent : (former latest debuggers questions key former' latest' d q : ℕ) (kept kept' : Kept)
    (owner : Owner) (a b : Bool) → IsWindow kept former latest debuggers questions → former < 4611686018427387904
    → key ≡ next_key former latest → kept' ≡ insert_entry nat_cmp kept key owner
    → IsStrictlySortedBy nat_cmp (keys_of kept') → pending_under (latest + 1) (pending_in kept) ≡ None
    → former' ≡ former_behind former latest → latest' ≡ (latest + 1) % turn
    → a ≡ is_debuggers (0, owner) → d ≡ debuggers + cond a 1 0
    → b ≡ is_question (0, owner) → q ≡ questions + cond b 1 0
    → IsWindow kept' former' latest' d q
window_sent former latest debuggers questions key former' latest' d q kept kept' owner a b window small key_is same
    ordered none former_is latest_is a_is d_is b_is q_is =
    let behind = kept_behind former latest debuggers questions key kept kept' owner window key_is same in
    let pending : pending_in kept' ≡ pending_in kept ++ (latest + 1, owner) ∷ [] =
    ap pending_in behind ∙ pending_more former latest owner kept window.begins window.within in
    record {
      ordered = ordered;
      each = subst (λ (k : Kept). AllByRecursion (λ (e : ℕ × Owner). IsKept former' latest' e.0) k) (sym behind)
          (rw (former_is, latest_is) (all_kept former latest owner kept window.begins window.within window.each none));
      begins = rw former_is (former_begins former latest window.begins);
      within = (let is = latest_is in omega (arith, is));
      small = rw former_is (former_small former latest small);
      debuggers_counted = d_is
          ∙ (ap (λ (n : ℕ). n + cond a 1 0) window.debuggers_counted
          ∙ (ap (λ (t : Bool). count_by is_debuggers (pending_in kept) + cond t 1 0) a_is
          ∙ (sym (counted_more (λ o. is_debuggers (0, o)) (pending_in kept) (latest + 1) owner)
          ∙ ap (λ (p : Kept). count_by is_debuggers p) (sym pending))));
      questions_counted = q_is
          ∙ (ap (λ (n : ℕ). n + cond b 1 0) window.questions_counted
          ∙ (ap (λ (t : Bool). count_by is_question (pending_in kept) + cond t 1 0) b_is
          ∙ (sym (counted_more (λ o. is_question (0, o)) (pending_in kept) (latest + 1) owner)
          ∙ ap (λ (p : Kept). count_by is_question p) (sym pending))));
    }

next_named : (latest : ℕ) → latest < turn → latest + 1 ≡ id_of latest
next_named latest within = omega arith

-- the next id isn't pending
pub none_next : (former latest debuggers questions : ℕ) (kept : Kept) (old : SentCommands)
    → IsWindow kept former latest debuggers questions → record { pending = pending_in kept; next = latest } ≡ old
    → pending_under (id_of old.next) old.pending ≡ None → pending_under (latest + 1) (pending_in kept) ≡ None
none_next former latest debuggers questions kept old window view none =
    ap (λ (id : ℕ). pending_under id (pending_in kept)) (next_named latest window.within)
    ∙ (ap (λ (w : SentCommands). pending_under (id_of w.next) w.pending) view ∙ none)

abbrev window_of : Kept → ℕ → SentCommands
window_of pending next = record { pending = pending; next = next }

abbrev with_next : Owner → SentCommands → SentCommands
with_next owner w = record { pending = w.pending ++ (id_of w.next, owner) ∷ []; next = (w.next + 1) % turn }

pub view_sent : (former latest debuggers questions key latest' : ℕ) (kept kept' : Kept) (owner : Owner)
    (old : SentCommands) → IsWindow kept former latest debuggers questions → key ≡ next_key former latest
    → kept' ≡ insert_entry nat_cmp kept key owner → latest' ≡ (latest + 1) % turn
    → window_of (pending_in kept) latest ≡ old → window_of (pending_in kept') latest' ≡ with_next owner old
view_sent former latest debuggers questions key latest' kept kept' owner old window key_is same latest_is view =
    let behind = kept_behind former latest debuggers questions key kept kept' owner window key_is same in
    let pending : pending_in kept' ≡ pending_in kept ++ (id_of latest, owner) ∷ [] =
    ap pending_in behind
    ∙ (pending_more former latest owner kept window.begins window.within
    ∙ ap (λ (id : ℕ). pending_in kept ++ (id, owner) ∷ []) (next_named latest window.within)) in
    ap (λ (p : Kept). window_of p latest') pending
    ∙ (ap (λ (n : ℕ). window_of (pending_in kept ++ (id_of latest, owner) ∷ []) n) latest_is
    ∙ ap (with_next owner) view)
