-- Where the command of an id stands, and what is left without it.
use Rattle.std.proofs.Common.{◌≡◌, ℕ, zero, suc, ◌+◌, ◌<◌, Bool, true, false, cond, List, [], ◌∷◌, ◌++◌, length}
use Rattle.std.proofs.Common.{get_or, Option, Some, None, refl, sym, ap, ◌∙◌, arith}
use Rattle.std.specs.Prelude.{◌==◌, is_some, nat_lt, option_map, position}
use Rattle.std.specs.List.{remove, position_or_len}
use Rattle.std.proofs.lemmas.Bool.{cond-true, cond-false}
use Rattle.std.proofs.lemmas.List.Quantifiers.{position-Some}
use Rattle.jdwp_commands.specs.declared.asked.Asked.{Asked}
use Rattle.pending_table.specs.declared.place.Sent.{Sent}
use Rattle.pending_table.specs.Windows.{pending_under, place_under, without}
use Rattle.pending_table.specs.Places.{sent_in}

-- as many as they are
pub as_many : (xs : List Sent) → length (sent_in xs) ≡ length xs
as_many [] = refl
as_many (s ∷ xs) = ap suc (as_many xs)

-- one more behind them
pub sent_in-push : (xs : List Sent) (s : Sent) → sent_in (xs ++ s ∷ []) ≡ sent_in xs ++ (s.id, s.asked) ∷ []
sent_in-push [] s = refl
sent_in-push (x ∷ xs) s = ap (λ (l : List (ℕ × Asked)). (x.id, x.asked) ∷ l) (sent_in-push xs s)

-- none only where none is
pub none_sent : (xs : List Sent) → sent_in xs ≡ [] → length xs ≡ 0
none_sent xs e = sym (as_many xs) ∙ ap length e

pub nothing_sent : (xs : List Sent) → length xs ≡ 0 → sent_in xs ≡ []
nothing_sent [] e = refl
nothing_sent (s ∷ xs) e = absurd (omega arith)

abbrev IsOf : ℕ → Sent → Bool
IsOf id s = s.id == id

more_less : (n count : ℕ) → nat_lt (1 + n) (suc count) ≡ nat_lt n count
more_less n count = grind arith

first_less : (count : ℕ) → nat_lt 0 (suc count) ≡ true
first_less count = grind arith

-- the first place of an id is that of its command
pub placed : (id : ℕ) (xs : List Sent) → position (λ s. s.id == id) xs ≡ place_under id (sent_in xs)
placed id [] = refl
placed id (s ∷ xs) = by_id (s.id == id) refl (placed id xs)
  where
    by_less : (less : Bool) → cond less (Some (1 + position_or_len (IsOf id) xs)) None
        ≡ option_map (λ (n : ℕ). 1 + n) (cond less (Some (position_or_len (IsOf id) xs)) None)
    by_less true = refl
    by_less false = refl

    by_id : (here : Bool) → (s.id == id) ≡ here → position (IsOf id) xs ≡ place_under id (sent_in xs)
        → position (IsOf id) (s ∷ xs) ≡ place_under id ((s.id, s.asked) ∷ sent_in xs)
    by_id true is rest = rw (is, first_less (length xs)) refl
    by_id false is rest =
        rw (is, sym rest, more_less (position_or_len (IsOf id) xs) (length xs))
        (by_less (nat_lt (position_or_len (IsOf id) xs) (length xs)))

-- a command has a place where it is pending
is_placed : (id : ℕ) (sent : List (ℕ × Asked)) → is_some (place_under id sent) ≡ is_some (pending_under id sent)
is_placed id [] = refl
is_placed id (s ∷ sent) = by (s.0 == id) (is_placed id sent)
  where
    mapped : (o : Option ℕ) → is_some (option_map (λ (n : ℕ). 1 + n) o) ≡ is_some o
    mapped None = refl
    mapped (Some n) = refl

    by : (b : Bool) → is_some (place_under id sent) ≡ is_some (pending_under id sent)
        → is_some (cond b (Some 0) (option_map (λ (n : ℕ). 1 + n) (place_under id sent)))
        ≡ is_some (cond b (Some s.1) (pending_under id sent))
    by true rest = refl
    by false rest = mapped (place_under id sent) ∙ rest

pub looked_up : (id : ℕ) (xs : List Sent)
    → is_some (position (λ s. s.id == id) xs) ≡ is_some (pending_under id (sent_in xs))
looked_up id xs = ap is_some (placed id xs) ∙ is_placed id (sent_in xs)

-- without a place none is pending
pub none_placed : (id : ℕ) (xs : List Sent) → position (λ s. s.id == id) xs ≡ None
    → pending_under id (sent_in xs) ≡ None
none_placed id xs e = by (pending_under id (sent_in xs)) (sym (looked_up id xs) ∙ ap is_some e)
  where
    by : (o : Option Asked) → is_some o ≡ false → o ≡ None
    by None e = refl
    by (Some asked) e = absurd cc

-- The first command of an id, by its place.
pub record IsFirst (id : ℕ) (xs : List Sent) (at : ℕ) (s : Sent) : Type 0 where
  pub within : at < length xs
  pub is : get_or xs at s ≡ s
  pub has : (s.id == id) ≡ true
  pub before : (k : ℕ) (d : Sent) → k < at → ((get_or xs k d).id == id) ≡ false

first_behind : (id : ℕ) (x : Sent) (xs : List Sent) (at : ℕ) (s : Sent) → IsFirst id (x ∷ xs) (suc at) s
    → IsFirst id xs at s
first_behind id x xs at s first = record {
  within = let w = first.within in omega arith;
  is = first.is;
  has = first.has;
  before = λ k d below. first.before (suc k) d (omega arith);
}

pub first_is_pending : (id : ℕ) (xs : List Sent) (at : ℕ) (s : Sent) → IsFirst id xs at s
    → pending_under id (sent_in xs) ≡ Some s.asked
first_is_pending id [] at s first = absurd (let w = first.within in omega arith)
first_is_pending id (x ∷ xs) zero s first =
    let has : (x.id == id) ≡ true = ap (λ (v : Sent). v.id == id) first.is ∙ first.has in
    cond-true (x.id == id) (Some x.asked) (pending_under id (sent_in xs)) has
    ∙ ap (λ (v : Sent). Some v.asked) first.is
first_is_pending id (x ∷ xs) (suc at) s first =
    cond-false (x.id == id) (Some x.asked) (pending_under id (sent_in xs)) (first.before zero x (omega arith))
    ∙ first_is_pending id xs at s (first_behind id x xs at s first)

pub first_is_left_out : (id : ℕ) (xs : List Sent) (at : ℕ) (s : Sent) → IsFirst id xs at s
    → sent_in (remove xs at) ≡ without id (sent_in xs)
first_is_left_out id [] at s first = absurd (let w = first.within in omega arith)
first_is_left_out id (x ∷ xs) zero s first =
    let has : (x.id == id) ≡ true = ap (λ (v : Sent). v.id == id) first.is ∙ first.has in
    sym (cond-true (x.id == id) (sent_in xs) ((x.id, x.asked) ∷ without id (sent_in xs)) has)
first_is_left_out id (x ∷ xs) (suc at) s first =
    ap (λ (l : List (ℕ × Asked)). (x.id, x.asked) ∷ l)
    (first_is_left_out id xs at s (first_behind id x xs at s first))
    ∙ sym (cond-false (x.id == id) (sent_in xs) ((x.id, x.asked) ∷ without id (sent_in xs))
    (first.before zero x (omega arith)))

-- what stands at the place of an id is its first command
pub first_at : (id : ℕ) (xs : List Sent) (at : ℕ) (s : Sent) → position (λ s. s.id == id) xs ≡ Some at
    → s ≡ get_or xs at s → IsFirst id xs at s
first_at id xs at s place is =
    let found = position-Some (IsOf id) xs at s place in
    record {
      within = found.0;
      is = sym is;
      has = ap (λ (v : Sent). v.id == id) is ∙ found.1;
      before = λ k d below. (position-Some (IsOf id) xs at d place).2 k below;
    }

-- the place in a list that is another by name
pub found_at : (id : ℕ) (xs ys : List Sent) (found at : Option ℕ) → ys ≡ xs
    → found ≡ position (λ s. s.id == id) ys → found ≡ at → position (λ s. s.id == id) xs ≡ at
found_at id xs ys found at same is here = ap (position (IsOf id)) (sym same) ∙ sym is ∙ here
