-- The events of a move are those of requests that it matches.
use Rattle.std.proofs.Common.{◌≡◌, ◌∙◌, Bool, true, false, cond, List, [], ◌∷◌, map, refl, sym, ap, subst}
use Rattle.std.specs.Prelude.{filter, fold, Contains}
use Rattle.std.specs.BTreeSet.{insert_key}
use Rattle.std.specs.List.{AllByRecursion}
use Rattle.std.specs.Ordering.{match_ordering}
use Rattle.std.specs.declared.cmp.Ordering.{Ordering}
use Rattle.std.specs.declared.cmp.Ordering.TheVariants.{Less, Equal, Greater}
use Rattle.std.proofs.lemmas.List.Elements.{All-contains_itself, recursion_from_All}
use Rattle.jdwp_events.specs.declared.composite.Composite.{Composite}
use Rattle.jdwp_events.specs.declared.event.Event.{Event}
use Rattle.joint_model.specs.Obeying.{Emits, IsTold, behind, composite_of, prepared_by}
use Rattle.world_model.specs.declared.rows.Installed.{Installed}
use Rattle.world_model.specs.declared.world.World.{World}
use Rattle.world_model.specs.Emitting.{greatest, hit_of, hits, is_end, matches}
use Rattle.world_model.specs.Sound.{IsSound}
use Rattle.world_model.proofs.HitLaws.{by_number}

-- The types of what happens, and of the requests that it matches, which have no name here.
abbrev From : {A B : Type 0} → (A → B) → Type 0
From {A} of = A

abbrev To : {A B : Type 0} → (A → B) → Type 0
To {A} {B} of = B

abbrev pub Happening : Type 0
Happening = From is_end

abbrev pub Hit : Type 0
Hit = To hit_of

-- Hits ----------------------------------------------------------------------------------------------------------------

inserted : (P : Hit → Type 0) (one : Hit) (xs : List Hit) → P one → AllByRecursion P xs
    → AllByRecursion P (insert_key by_number xs one)
inserted P one [] p h = (p, tt)
inserted P one (x ∷ xs) p h = by (by_number one x) (inserted P one xs p h.1) where
  by : (o : Ordering) → AllByRecursion P (insert_key by_number xs one)
      → AllByRecursion P (match_ordering o (one ∷ x ∷ xs) (x ∷ xs) (x ∷ insert_key by_number xs one))
  by Less later = (p, h)
  by Equal later = h
  by Greater later = (h.0, later)

all_inserted : (P : Hit → Type 0) (those xs : List Hit) → AllByRecursion P those → AllByRecursion P xs
    → AllByRecursion P (fold (insert_key by_number) xs those)
all_inserted P [] xs h k = k
all_inserted P (one ∷ those) xs h k =
    all_inserted P those (insert_key by_number xs one) h.1 (inserted P one xs h.0 k)

-- a hit is that of a request that is matched
pub record IsMatched (w : World) (happened : Happening) (hit : Hit) : Type 0 where
  pub request : Installed
  pub asked : Contains w.requests request
  pub is_hit : hit ≡ hit_of request
  pub passes : matches w happened request ≡ true

module _ (w : World) (happened : Happening) where
  matched : (rows : List Installed) → AllByRecursion (Contains w.requests) rows
      → AllByRecursion (IsMatched w happened) (map hit_of (filter (matches w happened) rows))
  matched [] h = tt
  matched (row ∷ rows) h = by (matches w happened row) refl (matched rows h.1) where
    by : (b : Bool) → matches w happened row ≡ b
        → AllByRecursion (IsMatched w happened) (map hit_of (filter (matches w happened) rows))
        → AllByRecursion (IsMatched w happened)
        (map hit_of (cond b (row ∷ filter (matches w happened) rows) (filter (matches w happened) rows)))
    by true e later = (record { request = row; asked = h.0; is_hit = refl; passes = e }, later)
    by false e later = later

  none_unasked : (b : Bool) (one : Hit) → b ≡ false → AllByRecursion (IsMatched w happened) (cond b (one ∷ []) [])
  none_unasked true one e = absurd cc
  none_unasked false one e = tt

  -- all hits are those of requests that are matched, but for the end of the target
  pub all_matched : is_end happened ≡ false → AllByRecursion (IsMatched w happened) (hits w happened)
  all_matched none = all_inserted (IsMatched w happened) (map hit_of (filter (matches w happened) w.requests)) _
      (matched w.requests (recursion_from_All (Contains w.requests) w.requests (All-contains_itself w.requests)))
      (none_unasked (is_end happened) _ none)

-- Events --------------------------------------------------------------------------------------------------------------

-- a hit is that of a request which may be told its event
pub record IsToldSo (w : World) (of : Hit → Event) (hit : Hit) : Type 0 where
  pub request : Installed
  pub is_hit : hit ≡ hit_of request
  pub told : IsTold w (request, of hit)

abbrev pub Pair : Type 0
Pair = Installed × Event

record TellsAll (w : World) (of : Hit → Event) (those : List Hit) : Type 0 where
  told : List Pair
  hits_are : map (λ (one : Pair). hit_of one.0) told ≡ those
  events_are : map (λ (one : Pair). one.1) told ≡ map of those
  may : AllByRecursion (IsTold w) told

tells_all : (w : World) (of : Hit → Event) (those : List Hit) → AllByRecursion (IsToldSo w of) those
    → TellsAll w of those
tells_all w of [] h = record { told = []; hits_are = refl; events_are = refl; may = tt }
tells_all w of (hit ∷ those) h =
    let rest = tells_all w of those h.1 in
    record {
      told = (h.0.request, of hit) ∷ rest.told;
      hits_are = ap (λ (x : Hit). x ∷ map (λ (one : Pair). hit_of one.0) rest.told) (sym h.0.is_hit)
          ∙ ap (λ (xs : List Hit). hit ∷ xs) rest.hits_are;
      events_are = ap (λ (xs : List Event). of hit ∷ xs) rest.events_are;
      may = (h.0.told, rest.may);
    }

-- the composite of some hits and their events
abbrev pub told_of : (Hit → Event) → Hit → List Hit → Composite
told_of of hit those = record { policy = greatest (hit ∷ those); events = map of (hit ∷ those) }

-- it goes out where each event may be told to its request
pub emits_so : (w : World) (of : Hit → Event) (hit : Hit) (those : List Hit) → w.dead ≡ false
    → AllByRecursion (IsToldSo w of) (hit ∷ those) → IsSound (behind w (told_of of hit those))
    → Emits w (told_of of hit those) (behind w (told_of of hit those))
unfolding tells_all
emits_so w of hit those lives may sound =
    let rest = tells_all w of those may.1 in
    let all = tells_all w of (hit ∷ those) may in
    let same : composite_of ((may.0.request, of hit) ∷ rest.told) ≡ told_of of hit those =
    ap (λ (hs : List Hit). record { policy = greatest hs; events = map (λ (one : Pair). one.1) all.told }) all.hits_are
    ∙ ap (λ (es : List Event). record { policy = greatest (hit ∷ those); events = es }) all.events_are in
    subst (λ (c : Composite). Emits w c (behind w c)) same
    (Emits.tells (may.0.request, of hit) rest.told lives (may.0.told, rest.may)
    (subst (λ (c : Composite). IsSound (behind w c)) (sym same) sound))

-- events that prepare no class leave the world as it is
pub prepare_none : (of : Hit → Event) → ((u : World) (hit : Hit) → prepared_by u (of hit) ≡ u) → (those : List Hit)
    → (u : World) → fold prepared_by u (map of those) ≡ u
prepare_none of none [] u = refl
prepare_none of none (hit ∷ those) u =
    ap (λ (v : World). fold prepared_by v (map of those)) (none u hit) ∙ prepare_none of none those u
