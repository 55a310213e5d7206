use Rattle.std.proofs.Common.{◌≡◌, ◌∙◌, ℕ, Bool, true, false, cond, List, [], ◌∷◌, map, refl, sym, ap, subst}
use Rattle.std.proofs.Common.{arith, Option, Some, None, nat_eq}
use Rattle.std.specs.Prelude.{find, filter, fold, Ok, ◌&&◌, ◌||◌}
use Rattle.std.specs.BTreeSet.{insert_key}
use Rattle.std.specs.Cmp.{nat_eq_equiv}
use Rattle.std.specs.List.{AllByRecursion, list_any}
use Rattle.std.specs.Option.{option_map_or}
use Rattle.std.specs.Ordering.{match_ordering, nat_cmp}
use Rattle.std.specs.declared.cmp.Ordering.{Ordering}
use Rattle.std.specs.declared.cmp.Ordering.TheVariants.{Less, Equal, Greater}
use Rattle.std.proofs.lemmas.Bool.{eqb-true}
use Rattle.std.proofs.lemmas.Map.Lookups.{exact_unsigned}
use Rattle.jdwp_values.specs.declared.id.ClassId.{ClassId}
use Rattle.jdwp_values.specs.declared.id.ThreadId.{ThreadId}
use Rattle.jdwp_events.specs.declared.composite.Composite.{Composite}
use Rattle.world_model.specs.declared.happening.Happening.{Happening}
use Rattle.world_model.specs.declared.happening.Happening.TheVariants as happenings
use Rattle.world_model.specs.declared.hits.Hit.{Hit}
use Rattle.world_model.specs.declared.moves.Move.{Move}
use Rattle.world_model.specs.declared.moves.Move.TheVariants as moves
use Rattle.world_model.specs.declared.rows.Installed.{Installed}
use Rattle.world_model.specs.declared.rows.WorldClass.{WorldClass}
use Rattle.world_model.specs.declared.world.World.{World}
use Rattle.world_model.specs.Emitting.{watches, hit_of, hits, event_of, composite_of, emitted}
use Rattle.world_model.specs.Happenings.{what_happens, stored}
use Rattle.world_model.specs.MoveFacts.{is_prepared, is_prepare_of, tells_prepared}
use Rattle.world_model.specs.Moving.{class_behind, behind, moved}
use Rattle.world_model.specs.Requests.{innermost}
use Rattle.world_model.proofs.HitLaws.{by_number}
use Rattle.world_model.proofs.MoveLaws.{makes, by_frame, by_put, can_happen}

-- The numbers of those that are matched ------------------------------------------------------------------------------

abbrev has : ℕ → List Hit → Bool
has n those = list_any (λ (hit : Hit). nat_eq hit.request n) those

or_true : (b : Bool) → (b || true) ≡ true
or_true true = refl
or_true false = refl

or_later : (a b : Bool) → b ≡ true → (a || b) ≡ true
or_later a b h = rw h (or_true a)

or_kept : (a b c : Bool) → (b ≡ true → c ≡ true) → (a || b) ≡ true → (a || c) ≡ true
or_kept true b c later h = refl
or_kept false b c later h = later h

-- one more keeps the numbers
module _ (one : Hit) where
  keeps_number : (n : ℕ) (xs : List Hit) → has n xs ≡ true → has n (insert_key by_number xs one) ≡ true
  keeps_number n [] h = absurd cc
  keeps_number n (x ∷ xs) h = by (nat_cmp one.request x.request) (keeps_number n xs) where
    by : (o : Ordering) → (has n xs ≡ true → has n (insert_key by_number xs one) ≡ true)
        → has n (match_ordering o (one ∷ x ∷ xs) (x ∷ xs) (x ∷ insert_key by_number xs one)) ≡ true
    by Less later = or_later (nat_eq one.request n) (has n (x ∷ xs)) h
    by Equal later = h
    by Greater later = or_kept (nat_eq x.request n) (has n xs) (has n (insert_key by_number xs one)) later h

  one_has : (xs : List Hit) → has one.request (insert_key by_number xs one) ≡ true
  one_has [] = rw (nat_eq_equiv.refl one.request) refl
  one_has (x ∷ xs) = by (nat_cmp one.request x.request) refl (one_has xs) where
    by : (o : Ordering) → nat_cmp one.request x.request ≡ o → has one.request (insert_key by_number xs one) ≡ true
        → has one.request (match_ordering o (one ∷ x ∷ xs) (x ∷ xs) (x ∷ insert_key by_number xs one)) ≡ true
    by Less e later = rw (nat_eq_equiv.refl one.request) refl
    by Equal e later = rw (sym (exact_unsigned one.request x.request e), nat_eq_equiv.refl one.request) refl
    by Greater e later = or_later (nat_eq x.request one.request) (has one.request (insert_key by_number xs one)) later

all_keep_number : (n : ℕ) (those xs : List Hit) → has n xs ≡ true → has n (fold (insert_key by_number) xs those) ≡ true
all_keep_number n [] xs h = h
all_keep_number n (one ∷ those) xs h =
    all_keep_number n those (insert_key by_number xs one) (keeps_number one n xs h)

-- each request that is matched is among those
abbrev AllMatched : (Installed → Bool) → List Installed → List Hit → Type 0
AllMatched passes rows those =
    AllByRecursion (λ (row : Installed). passes row ≡ true → has row.request those ≡ true) rows

matched_at : (passes : Installed → Bool) (b : Bool) (row : Installed) (rows : List Installed) (xs : List Hit)
    → passes row ≡ b
    → ((ys : List Hit) → AllMatched passes rows (fold (insert_key by_number) ys (map hit_of (filter passes rows))))
    → AllMatched passes (row ∷ rows)
    (fold (insert_key by_number) xs (map hit_of (cond b (row ∷ filter passes rows) (filter passes rows))))
matched_at passes true row rows xs e later = (
  λ is. all_keep_number row.request (map hit_of (filter passes rows)) (insert_key by_number xs (hit_of row))
      (one_has (hit_of row) xs),
  later (insert_key by_number xs (hit_of row)),
)
matched_at passes false row rows xs e later = ((λ is. absurd cc), later xs)

all_matched : (passes : Installed → Bool) (rows : List Installed) (xs : List Hit)
    → AllMatched passes rows (fold (insert_key by_number) xs (map hit_of (filter passes rows)))
all_matched passes [] xs = tt
all_matched passes (row ∷ rows) xs = matched_at passes (passes row) row rows xs refl (all_matched passes rows)

-- Their events -------------------------------------------------------------------------------------------------------

-- the event of each number that is there tells of the class
told_of : (w : World) (thread : ThreadId) (class : ClassId) (n : ℕ) (those : List Hit) → has n those ≡ true
    → list_any (is_prepare_of n class) (map (event_of w (happenings.Prepares thread class)) those) ≡ true
told_of w thread class n [] h = absurd cc
told_of w thread class n (hit ∷ those) h = by (nat_eq hit.request n) h (told_of w thread class n those) where
  rest : Bool
  rest = list_any (is_prepare_of n class) (map (event_of w (happenings.Prepares thread class)) those)

  by : (b : Bool) → (b || has n those) ≡ true → (has n those ≡ true → rest ≡ true)
      → ((b && nat_eq class.0 class.0) || rest) ≡ true
  by true e later = rw (nat_eq_equiv.refl class.0) refl
  by false e later = later e

told_by : (w : World) (thread : ThreadId) (class : ClassId) (n : ℕ) (those : List Hit) → has n those ≡ true
    → tells_prepared (composite_of w (happenings.Prepares thread class) those) n class ≡ true
told_by w thread class n [] h = absurd cc
told_by w thread class n (hit ∷ those) h = told_of w thread class n (hit ∷ those) h

all_told : (w : World) (thread : ThreadId) (class : ClassId) (rows : List Installed) (those : List Hit)
    → AllByRecursion (λ (row : Installed). watches w class row ≡ true → has row.request those ≡ true) rows
    → AllByRecursion (λ (row : Installed). watches w class row ≡ true
    → tells_prepared (composite_of w (happenings.Prepares thread class) those) row.request class ≡ true) rows
all_told w thread class [] those h = tt
all_told w thread class (row ∷ rows) those h = (
  λ is. told_by w thread class row.request those (h.0 is),
  all_told w thread class rows those h.1,
)

prepares_told : (w : World) (thread : ThreadId) (class : ClassId)
    → AllByRecursion (λ (row : Installed). watches w class row ≡ true
    → tells_prepared (emitted w (happenings.Prepares thread class)) row.request class ≡ true) w.requests
prepares_told w thread class = all_told w thread class w.requests (hits w (happenings.Prepares thread class))
    (all_matched (watches w class) w.requests [])

-- Which class is prepared --------------------------------------------------------------------------------------------

abbrev prepared_in : List WorldClass → ClassId → Bool
prepared_in rows class =
    option_map_or (λ (row : WorldClass). row.prepared) (find (λ row. nat_eq row.id.0 class.0) rows) false

id_at : (b : Bool) (row : WorldClass) → (cond b (record row { prepared = true }) row).id ≡ row.id
id_at true row = refl
id_at false row = refl

was_at : (b : Bool) (row : WorldClass) → b ≡ false → (cond b (record row { prepared = true }) row).prepared ≡ row.prepared
was_at true row e = absurd cc
was_at false row e = refl

-- another class is prepared if it was
others_stay : (class other : ClassId) (rows : List WorldClass) → nat_eq class.0 other.0 ≡ false
    → prepared_in (map (class_behind other) rows) class ≡ prepared_in rows class
others_stay class other [] apart = refl
others_stay class other (row ∷ rows) apart =
    rw (id_at (nat_eq row.id.0 other.0) row) (by (nat_eq row.id.0 class.0) refl (others_stay class other rows apart)) where
      by : (b : Bool) → nat_eq row.id.0 class.0 ≡ b
          → prepared_in (map (class_behind other) rows) class ≡ prepared_in rows class
          → option_map_or (λ (r : WorldClass). r.prepared)
          (cond b (Some (class_behind other row)) (find (λ r. nat_eq r.id.0 class.0) (map (class_behind other) rows))) false
          ≡ option_map_or (λ (r : WorldClass). r.prepared) (cond b (Some row) (find (λ r. nat_eq r.id.0 class.0) rows)) false
      by true e later = was_at (nat_eq row.id.0 other.0) row (rw (eqb-true row.id.0 class.0 e) apart)
      by false e later = later

-- What was told ------------------------------------------------------------------------------------------------------

-- what a class that is prepared now and was not is told by
abbrev Told : World → Option Composite → ClassId → World → Type 0
Told w told class then = is_prepared w class ≡ false → is_prepared then class ≡ true
    → AllByRecursion (λ (row : Installed). watches w class row ≡ true
    → tells_prepared told row.request class ≡ true) w.requests

same_classes : (w : World) (told : Option Composite) (class : ClassId) → Told w told class w
same_classes w told class was is = absurd cc

told_behind : (w : World) (next : Move) (class : ClassId) (happened : Happening) → what_happens w next ≡ Some happened
    → Told w (emitted w happened) class (behind w next)
told_behind w (moves.At thread index slots) class happened h =
    by_frame (Told w (emitted w happened) class) w _ (innermost w thread) (same_classes w (emitted w happened) class)
    (λ top was is. absurd cc)
told_behind w (moves.Call thread frame called method index this slots) class happened h = λ was is. absurd cc
told_behind w (moves.Return thread) class happened h =
    by_frame (Told w (emitted w happened) class) w _ (innermost w thread) (same_classes w (emitted w happened) class)
    (λ top was is. absurd cc)
told_behind w (moves.Prepare other thread) class happened h = by (nat_eq class.0 other.0) refl where
  by : (b : Bool) → nat_eq class.0 other.0 ≡ b → Told w (emitted w happened) class (behind w (moves.Prepare other thread))
  by true e was is =
      let same : class ≡ other = ap (λ n. record { 0 = n }) (eqb-true class.0 other.0 e) in
      let so : happenings.Prepares thread other ≡ happened = can_happen _ _ _ h in
      subst (λ what. AllByRecursion (λ (row : Installed). watches w class row ≡ true
      → tells_prepared (emitted w what) row.request class ≡ true) w.requests) so
      (subst (λ (c : ClassId). AllByRecursion (λ (row : Installed). watches w class row ≡ true
      → tells_prepared (emitted w (happenings.Prepares thread c)) row.request class ≡ true) w.requests) same
      (prepares_told w thread class))
  by false e was is = absurd (let stays = others_stay class other w.classes e in cc)
told_behind w (moves.Throw thread object caught method index) class happened h = λ was is. absurd cc
told_behind w (moves.Start thread name) class happened h = λ was is. absurd cc
told_behind w (moves.Die thread) class happened h = λ was is. absurd cc
told_behind w (moves.Store object field value) class happened h =
    by_put (Told w (emitted w happened) class) w (stored w object field value) (same_classes w (emitted w happened) class)
    (λ put was is. absurd cc)
told_behind w moves.Death class happened h = λ was is. absurd cc

pub told_to_watches : (w now : World) (next : Move) (told : Option Composite) (class : ClassId)
    → moved w next ≡ Ok (now, told) → is_prepared w class ≡ false → is_prepared now class ≡ true
    → AllByRecursion (λ (row : Installed). watches w class row ≡ true
    → tells_prepared told row.request class ≡ true) w.requests
told_to_watches w now next told class h was is =
    let m = makes w next now told h in
    let then : is_prepared (behind w next) class ≡ true =
    ap (λ (x : World). is_prepared x class) m.is_now ∙ is in
    subst (λ t. AllByRecursion (λ (row : Installed). watches w class row ≡ true
    → tells_prepared t row.request class ≡ true) w.requests) m.is_told
    (told_behind w next class m.happened m.is_happened was then)
