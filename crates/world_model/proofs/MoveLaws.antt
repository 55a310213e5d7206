use Rattle.std.proofs.Common.{◌≡◌, ◌∙◌, ℕ, ◌<◌, Bool, true, false, cond, List, [], ◌∷◌, map, refl, sym, ap, subst}
use Rattle.std.proofs.Common.{arith, Option, Some, None, nat_eq}
use Rattle.std.specs.Prelude.{Result, Ok, Err}
use Rattle.std.specs.Option.{option_map_or}
use Rattle.std.proofs.lemmas.Bool.{eqb-true}
use Rattle.jdwp_values.specs.declared.id.ClassId.{ClassId}
use Rattle.jdwp_events.specs.declared.composite.Composite.{Composite}
use Rattle.world_model.specs.declared.happening.Happening.{Happening}
use Rattle.world_model.specs.declared.moves.Move.{Move}
use Rattle.world_model.specs.declared.moves.Move.TheVariants as moves
use Rattle.world_model.specs.declared.moves.MoveTrouble.{MoveTrouble}
use Rattle.world_model.specs.declared.moves.MoveTrouble.TheVariants as troubles
use Rattle.world_model.specs.declared.rows.Put.{Put}
use Rattle.world_model.specs.declared.rows.WorldClass.{WorldClass}
use Rattle.world_model.specs.declared.rows.WorldFrame.{WorldFrame}
use Rattle.world_model.specs.declared.world.World.{World}
use Rattle.world_model.specs.Emitting.{emitted}
use Rattle.world_model.specs.Happenings.{only_if, what_happens, stored}
use Rattle.world_model.specs.MoveFacts.{class_facts, Facts, facts_of, Requested, requested_of}
use Rattle.world_model.specs.Moving.{class_behind, put_behind, behind, count_behind, made, moved}
use Rattle.world_model.specs.Requests.{innermost}

-- A move that was made -----------------------------------------------------------------------------------------------

-- the world with another number of suspensions
abbrev pub counted_at : World → ℕ → World
counted_at w count = record w { count = count }

-- what is so of a move that was made
pub record Makes (w : World) (next : Move) (now : World) (told : Option Composite) : Type 0 where
  pub lives : w.dead ≡ false
  pub free : w.count ≡ 0
  pub happened : Happening
  pub is_happened : what_happens w next ≡ Some happened
  pub is_told : emitted w happened ≡ told
  pub is_now : counted_at (behind w next) (count_behind w.count told) ≡ now

makes_by : (w : World) (next : Move) (now : World) (told : Option Composite) (dead free : Bool) (found : Option Happening)
    → w.dead ≡ dead → nat_eq w.count 0 ≡ free → what_happens w next ≡ found
    → cond dead (Err troubles.Ended) (cond free (made w next found) (Err troubles.Held)) ≡ Ok (now, told)
    → Makes w next now told
makes_by w next now told true free found d f h e = absurd cc
makes_by w next now told false false found d f h e = absurd cc
makes_by w next now told false true None d f h e = absurd cc
makes_by w next now told false true (Some happened) d f h e =
    let same : ◌≡◌ {A = World × Option Composite}
    (counted_at (behind w next) (count_behind w.count (emitted w happened)), emitted w happened) (now, told) = cc in
    let is_told : emitted w happened ≡ told = ap (λ p. p.1) same in
    record {
      lives = d;
      free = eqb-true w.count 0 f;
      happened = happened;
      is_happened = h;
      is_told = is_told;
      is_now = subst (λ t. counted_at (behind w next) (count_behind w.count t) ≡ now) is_told (ap (λ p. p.0) same);
    }

pub makes : (w : World) (next : Move) (now : World) (told : Option Composite) → moved w next ≡ Ok (now, told)
    → Makes w next now told
makes w next now told e =
    makes_by w next now told w.dead (nat_eq w.count 0) (what_happens w next) refl refl refl e

-- what happens, if it can
pub can_happen : (can : Bool) (what happened : Happening) → only_if can what ≡ Some happened → what ≡ happened
can_happen true what happened h = cc
can_happen false what happened h = absurd cc

pub can_be : (can : Bool) (what happened : Happening) → only_if can what ≡ Some happened → can ≡ true
can_be true what happened h = refl
can_be false what happened h = absurd cc

-- No move ------------------------------------------------------------------------------------------------------------

pub ended_stays : (w : World) (next : Move) → w.dead ≡ true → moved w next ≡ Err troubles.Ended
ended_stays w next dead = ap (λ b. cond b (Err troubles.Ended)
    (cond (nat_eq w.count 0) (made w next (what_happens w next)) (Err troubles.Held))) dead

pub held_stays : (w : World) (next : Move) → w.dead ≡ false → 0 < w.count → moved w next ≡ Err troubles.Held
held_stays w next alive held =
    let some : nat_eq w.count 0 ≡ false = grind arith in
    ap (λ b. cond b (Err troubles.Ended)
    (cond (nat_eq w.count 0) (made w next (what_happens w next)) (Err troubles.Held))) alive
    ∙ ap (λ b. cond b (made w next (what_happens w next)) (Err troubles.Held)) some

-- What stays ---------------------------------------------------------------------------------------------------------

-- what holds of the world by an innermost frame, and without one, holds by the one that is found
pub by_frame : (P : World → Type 0) (w : World) (go : WorldFrame → World) (found : Option WorldFrame) → P w
    → ((top : WorldFrame) → P (go top)) → P (option_map_or go found w)
by_frame P w go None stays goes = stays
by_frame P w go (Some top) stays goes = goes top

pub by_put : (P : World → Type 0) (w : World) (found : Result Put ℕ) → P w → ((put : Put) → P (put_behind w (Ok put)))
    → P (put_behind w found)
by_put P w (Ok put) stays goes = goes put
by_put P w (Err code) stays goes = stays

same_facts_at : (b : Bool) (row : WorldClass) → class_facts (cond b (record row { prepared = true }) row) ≡ class_facts row
same_facts_at true row = refl
same_facts_at false row = refl

same_facts : (class : ClassId) (rows : List WorldClass)
    → map class_facts (map (class_behind class) rows) ≡ map class_facts rows
same_facts class [] = refl
same_facts class (row ∷ rows) =
    ap (λ r. r ∷ map class_facts (map (class_behind class) rows)) (same_facts_at (nat_eq row.id.0 class.0) row)
    ∙ ap (λ rs. class_facts row ∷ rs) (same_facts class rows)

abbrev with_classes : World → List WorldClass → Facts
with_classes w classes = record {
  sizes = w.sizes;
  classes = classes;
  methods = w.methods;
  variables = w.variables;
  fields = w.fields;
}

facts_behind : (w : World) (next : Move) → facts_of (behind w next) ≡ facts_of w
facts_behind w (moves.At thread index slots) =
    by_frame (λ now. facts_of now ≡ facts_of w) w _ (innermost w thread) refl (λ top. refl)
facts_behind w (moves.Call thread frame class method index this slots) = refl
facts_behind w (moves.Return thread) =
    by_frame (λ now. facts_of now ≡ facts_of w) w _ (innermost w thread) refl (λ top. refl)
facts_behind w (moves.Prepare class thread) = ap (with_classes w) (same_facts class w.classes)
facts_behind w (moves.Throw thread object class method index) = refl
facts_behind w (moves.Start thread name) = refl
facts_behind w (moves.Die thread) = refl
facts_behind w (moves.Store object field value) =
    by_put (λ now. facts_of now ≡ facts_of w) w (stored w object field value) refl (λ put. refl)
facts_behind w moves.Death = refl

requests_behind : (w : World) (next : Move) → requested_of (behind w next) ≡ requested_of w
requests_behind w (moves.At thread index slots) =
    by_frame (λ now. requested_of now ≡ requested_of w) w _ (innermost w thread) refl (λ top. refl)
requests_behind w (moves.Call thread frame class method index this slots) = refl
requests_behind w (moves.Return thread) =
    by_frame (λ now. requested_of now ≡ requested_of w) w _ (innermost w thread) refl (λ top. refl)
requests_behind w (moves.Prepare class thread) = refl
requests_behind w (moves.Throw thread object class method index) = refl
requests_behind w (moves.Start thread name) = refl
requests_behind w (moves.Die thread) = refl
requests_behind w (moves.Store object field value) =
    by_put (λ now. requested_of now ≡ requested_of w) w (stored w object field value) refl (λ put. refl)
requests_behind w moves.Death = refl

pub facts_stay : (w now : World) (next : Move) (told : Option Composite) → moved w next ≡ Ok (now, told)
    → facts_of now ≡ facts_of w
facts_stay w now next told h = let m = makes w next now told h in
    subst (λ then. facts_of then ≡ facts_of w) m.is_now (facts_behind w next)

pub requests_stay : (w now : World) (next : Move) (told : Option Composite) → moved w next ≡ Ok (now, told)
    → requested_of now ≡ requested_of w
requests_stay w now next told h = let m = makes w next now told h in
    subst (λ then. requested_of then ≡ requested_of w) m.is_now (requests_behind w next)

pub suspends_so : (w now : World) (next : Move) (told : Option Composite) → moved w next ≡ Ok (now, told)
    → now.count ≡ count_behind 0 told
suspends_so w now next told h = let m = makes w next now told h in
    sym (ap (λ (then : World). then.count) m.is_now) ∙ ap (λ n. count_behind n told) m.free
