-- A script is sound row by row, and fit for a target at its end.
use Rattle.std.proofs.Common.{◌≡◌, ◌∙◌, ℕ, ◌+◌, ◌<◌, ◌≤◌, ◌^◌, Bool, true, false, cond, List, [], ◌∷◌, ◌++◌, refl, arith}
use Rattle.std.proofs.Common.{sym, ap, subst, Option, Some, None, Result, Ok, Err, nat_eq, nat_lt, nat_le, length}
use Rattle.std.specs.Prelude.{not, ◌||◌, ◌&&◌, position, option_map}
use Rattle.std.specs.List.{AllByRecursion, list_any, position_from}
use Rattle.std.specs.Option.{option_or}
use Rattle.std.proofs.lemmas.Bool.{ltb-true, leb-true}
use Rattle.std.proofs.lemmas.Iterator.Adapters.{position_from-zero}
use Rattle.std.proofs.lemmas.List.Folds.{list_any-append}
use Rattle.jdwp_events.specs.declared.composite.Composite.{Composite}
use Rattle.jdwp_events.specs.declared.kind.Policy.{Policy}
use Rattle.jdwp_events.specs.declared.kind.Policy.TheVariants as policies
use Rattle.jdwp_values.specs.declared.id.ThreadId.{ThreadId}
use Rattle.jdwp_values.specs.declared.sizes.IdSizes.{IdSizes}
use Rattle.world_model.specs.declared.moves.Move.{Move}
use Rattle.world_model.specs.declared.moves.MoveTrouble.{MoveTrouble}
use Rattle.world_model.specs.declared.rows.Put.{Put}
use Rattle.world_model.specs.declared.rows.WorldArray.{WorldArray}
use Rattle.world_model.specs.declared.rows.WorldClass.{WorldClass}
use Rattle.world_model.specs.declared.rows.WorldFrame.{WorldFrame}
use Rattle.world_model.specs.declared.rows.WorldField.{WorldField}
use Rattle.world_model.specs.declared.rows.WorldMethod.{WorldMethod}
use Rattle.world_model.specs.declared.rows.WorldObject.{WorldObject}
use Rattle.world_model.specs.declared.rows.WorldString.{WorldString}
use Rattle.world_model.specs.declared.rows.WorldVariable.{WorldVariable}
use Rattle.world_model.specs.declared.rows.WorldThread.{WorldThread}
use Rattle.world_model.specs.declared.world.World.{World}
use Rattle.world_model.specs.Moving.{moved}
use Rattle.world_model.specs.Sound.{IsSound, ends}
use Rattle.world_model.proofs.MoveSound.{moves_sound}
use Rattle.script_rows.specs.declared.rows.Row.{Row}
use Rattle.script_rows.specs.declared.rows.Row.TheVariants as rows
use Rattle.script_rows.specs.declared.script.Begin.{Begin}
use Rattle.script_rows.specs.declared.script.Turn.{Turn}
use Rattle.script_text.specs.declared.log.ScriptFault.{ScriptFault}
use Rattle.script_text.specs.declared.log.ScriptFault.TheVariants as faults
use Rattle.script_worlds.specs.Given.{is_class, is_method, is_field, is_object, is_frame, is_thread}
use Rattle.script_worlds.specs.Growing.{IsGrowing, HasChains}
use Rattle.script_worlds.specs.Known.{is_known_value, frame_is_known}
use Rattle.script_worlds.specs.Shapes.{array_fits, has_elements, field_value_fits, is_for_field, frame_fits, has_room}
use Rattle.script_worlds.specs.Shapes.{thread_fits}
use Rattle.script_worlds.proofs.GrowingLaws.{empty_grows, class_grows, method_grows, variable_grows, field_grows}
use Rattle.script_worlds.proofs.GrowingLaws.{object_grows, array_grows, string_grows, put_grows, thread_grows}
use Rattle.script_worlds.proofs.GrowingLaws.{frame_grows, whole_is_sound}
use Rattle.script_worlds.proofs.ListLaws.{first_of, second_of}
use Rattle.target_scripts.specs.declared.building.Building.{Building}
use Rattle.target_scripts.specs.Adding.{with_row, in_world, limited, world_behind, made, moved_on, added, grown, begun}
use Rattle.target_scripts.specs.Adding.{unless_faulty}
use Rattle.target_scripts.specs.Chains.{is_open, goes_on, first_open, line_of_class, chain_fault}
use Rattle.target_scripts.specs.Fit.{AreMade, HasBegun, IsFit, Leads, IsSoundSoFar}
use Rattle.target_scripts.specs.Judging.{rank, is_twice, may_follow, row_fits, row_is_new, row_is_known, unless, fault_of}
use Rattle.target_scripts.specs.Judging.{array_stands, frame_stands, may_begin, put_stands}

-- A row without a fault ----------------------------------------------------------------------------------------------

is_not : (b : Bool) → not b ≡ true → b ≡ false
is_not true h = absurd cc
is_not false h = refl

unless_none : (holds : Bool) (fault : ScriptFault) (next : Option ScriptFault) → unless holds fault next ≡ None
    → (holds ≡ true) × (next ≡ None)
unless_none true fault next h = (refl, h)
unless_none false fault next h = absurd cc

-- what is so of a row that has no fault
record HasNoFault (b : Building) (row : Row) : Type 0 where
  fits : row_fits b.script.world row ≡ true
  order : may_follow b.last (rank row) ≡ true
  new : row_is_new b.script row ≡ true
  known : row_is_known b.script row ≡ true

no_fault : (b : Building) (row : Row) → fault_of b row ≡ None → HasNoFault b row
unfolding fault_of
no_fault b row h =
    let ids = unless (row_is_new b.script row) faults.RepeatedId
    (unless (row_is_known b.script row) faults.UnknownId None) in
    let order = unless (may_follow b.last (rank row)) faults.BadOrder ids in
    let shape = unless_none (row_fits b.script.world row) faults.BadShape
    (unless (not (nat_eq b.last 15)) faults.AfterEnd order) h in
    let open_still = unless_none (not (nat_eq b.last 15)) faults.AfterEnd order shape.1 in
    let stands = unless_none (may_follow b.last (rank row)) faults.BadOrder ids open_still.1 in
    let gives = unless_none (row_is_new b.script row) faults.RepeatedId
    (unless (row_is_known b.script row) faults.UnknownId None) stands.1 in
    let names = unless_none (row_is_known b.script row) faults.UnknownId None gives.1 in
    record { fits = shape.0; order = stands.0; new = gives.0; known = names.0 }

-- rows stand in the order of their kinds
in_order : (last next : ℕ) → may_follow last next ≡ true → last ≤ next
in_order last next h =
    leb-true last next (second_of (nat_lt 0 next) (nat_le last next)
    (first_of (nat_lt 0 next && nat_le last next) (not (is_twice last next)) h))

-- Rows of the world --------------------------------------------------------------------------------------------------

-- threads stay
abbrev KeepsThreads : World → World → Type 0
KeepsThreads old new = (thread : ThreadId) → is_thread old thread ≡ true → is_thread new thread ≡ true

still_begun : (old new : World) (begin : Option Begin) → KeepsThreads old new → HasBegun old begin
    → HasBegun new begin
still_begun old new None keeps h = tt
still_begun old new (Some begin) keeps h = (keeps begin.thread h.0, h.1)

lead_by_none : (old now : World) (program : List Move) (row : Row) → program ≡ [] → Leads old program now
    → Leads (with_row old row) program (with_row now row)
lead_by_none old now [] row e leads = ap (λ w. with_row w row) leads
lead_by_none old now (next ∷ rest) row e leads = absurd cc

in_world_sound : (b : Building) (row : Row) → IsSoundSoFar b → HasNoFault b row → rank row < 13
    → KeepsThreads b.script.world (with_row b.script.world row) → IsGrowing (with_row b.script.world row)
    → IsSoundSoFar (in_world b row)
unfolding in_world
in_world_sound b row s fair early keeps grows =
    let order = in_order b.last (rank row) fair.order in
    let none = s.first (omega (arith, order, early)) in
    record {
      world = grows;
      begin = still_begun b.script.world (with_row b.script.world row) b.script.begin keeps s.begin;
      moves = lead_by_none b.script.world b.running b.script.program row none s.moves;
      first = λ earlier. none;
      limits = s.limits;
    }

array_sound : (b : Building) (row : WorldArray) → IsSoundSoFar b → HasNoFault b (rows.Array row)
    → IsGrowing (with_row b.script.world (rows.Array row))
unfolding row_fits row_is_new row_is_known array_stands
array_sound b row s fair =
    let w = b.script.world in
    array_grows w row s.world
    (first_of (array_fits w.sizes row) (has_elements w row) fair.fits)
    (second_of (array_fits w.sizes row) (has_elements w row) fair.fits)
    (is_not (is_object w row.id) fair.new)
    (first_of (is_class w row.class) _ fair.known)

frame_sound : (b : Building) (row : WorldFrame) → IsSoundSoFar b → HasNoFault b (rows.Frame row)
    → IsGrowing (with_row b.script.world (rows.Frame row))
unfolding row_fits row_is_new row_is_known frame_stands
frame_sound b row s fair =
    let w = b.script.world in
    frame_grows w row s.world
    (first_of (frame_fits w.sizes row) (has_room w row.thread) fair.fits)
    (second_of (frame_fits w.sizes row) (has_room w row.thread) fair.fits)
    (is_not (is_frame w row.id) fair.new)
    (second_of (is_thread w row.thread) (is_method w row.class row.method)
    (first_of (is_thread w row.thread && is_method w row.class row.method) _ fair.known))

put_sound : (b : Building) (row : Put) → IsSoundSoFar b → HasNoFault b (rows.Put row)
    → IsGrowing (with_row b.script.world (rows.Put row))
unfolding row_fits put_stands
put_sound b row s fair =
    let w = b.script.world in
    put_grows w row s.world
    (first_of (field_value_fits w.sizes row.object row.field row.value) (is_for_field w row.object row.field row.value)
    fair.fits)

thread_kept : (w : World) (row : WorldThread) → KeepsThreads w (with_row w (rows.Thread row))
thread_kept w row thread h =
    list_any-append (λ (r : WorldThread). nat_eq r.id.0 thread.0) w.threads (row ∷ [])
    ∙ ap (λ b. b || list_any (λ (r : WorldThread). nat_eq r.id.0 thread.0) (row ∷ [])) h

-- Moves --------------------------------------------------------------------------------------------------------------

lead_on : (w now : World) (program : List Move) (next : Move) (made : World × Option Composite)
    → Leads w program now → moved now next ≡ Ok made → Leads w (program ++ next ∷ []) made.0
lead_on w now [] next made leads h =
    (made, subst (λ (x : World). moved x next ≡ Ok made) (sym leads) h, refl)
lead_on w now (first ∷ rest) next made leads h =
    (leads.0, leads.1, lead_on leads.0.0 now rest next made leads.2 h)

-- All rows -----------------------------------------------------------------------------------------------------------

abbrev IfSound : Result Building ScriptFault → Type 0
IfSound (Ok b) = IsSoundSoFar b
IfSound (Err fault) = Unit {0}

-- a move that was made
record IsMove (w : World) (next : Move) (now : World) : Type 0 where
  found : World × Option Composite
  is : moved w next ≡ Ok found
  same : found.0 ≡ now

move_found : (w : World) (next : Move) (result : Result (World × Option Composite) MoveTrouble) (now : World)
    → moved w next ≡ result → world_behind result ≡ Ok now → IsMove w next now
move_found w next (Ok found) now e h = record { found = found; is = e; same = cc }
move_found w next (Err trouble) now e h = absurd cc

move_is : (w : World) (next : Move) (now : World) → made w next ≡ Ok now → IsMove w next now
unfolding made
move_is w next now h = move_found w next (moved w next) now refl h

move_sound : (b : Building) (row : Move) (result : Result World ScriptFault) → IsSoundSoFar b
    → made b.running row ≡ result → IfSound (moved_on b row result)
move_sound b row (Ok now) s h =
    let m = move_is b.running row now h in
    record {
      world = s.world;
      begin = s.begin;
      moves = subst (Leads b.script.world (b.script.program ++ row ∷ [])) m.same
          (lead_on b.script.world b.running b.script.program row m.found s.moves m.is);
      first = λ early. absurd (omega (arith, early));
      limits = s.limits;
    }
move_sound b row (Err kind) s h = tt

class_added : (b : Building) (row : WorldClass) → IsSoundSoFar b → HasNoFault b (rows.Class row) → IfSound (added b (rows.Class row))
unfolding added row_fits row_is_new row_is_known
class_added b row s fair =
    in_world_sound b (rows.Class row) s fair (omega arith) (λ thread h. h)
    (class_grows b.script.world row s.world fair.fits (is_not (is_class b.script.world row.id) fair.new))

method_added : (b : Building) (row : WorldMethod) → IsSoundSoFar b → HasNoFault b (rows.Method row) → IfSound (added b (rows.Method row))
unfolding added row_fits row_is_new row_is_known
method_added b row s fair =
    in_world_sound b (rows.Method row) s fair (omega arith) (λ thread h. h)
    (method_grows b.script.world row s.world fair.fits (is_not (is_method b.script.world row.class row.method.id) fair.new))

variable_added : (b : Building) (row : WorldVariable) → IsSoundSoFar b → HasNoFault b (rows.Variable row) → IfSound (added b (rows.Variable row))
unfolding added row_fits row_is_new row_is_known
variable_added b row s fair =
    in_world_sound b (rows.Variable row) s fair (omega arith) (λ thread h. h)
    (variable_grows b.script.world row s.world)

field_added : (b : Building) (row : WorldField) → IsSoundSoFar b → HasNoFault b (rows.Field row) → IfSound (added b (rows.Field row))
unfolding added row_fits row_is_new row_is_known
field_added b row s fair =
    in_world_sound b (rows.Field row) s fair (omega arith) (λ thread h. h)
    (field_grows b.script.world row s.world fair.fits (is_not (is_field b.script.world row.class row.field.id) fair.new))

object_added : (b : Building) (row : WorldObject) → IsSoundSoFar b → HasNoFault b (rows.Object row) → IfSound (added b (rows.Object row))
unfolding added row_fits row_is_new row_is_known
object_added b row s fair =
    in_world_sound b (rows.Object row) s fair (omega arith) (λ thread h. h)
    (object_grows b.script.world row s.world fair.fits (is_not (is_object b.script.world row.id) fair.new))

array_added : (b : Building) (row : WorldArray) → IsSoundSoFar b → HasNoFault b (rows.Array row) → IfSound (added b (rows.Array row))
unfolding added row_fits row_is_new row_is_known
array_added b row s fair =
    in_world_sound b (rows.Array row) s fair (omega arith) (λ thread h. h)
    (array_sound b row s fair)

string_added : (b : Building) (row : WorldString) → IsSoundSoFar b → HasNoFault b (rows.Text row) → IfSound (added b (rows.Text row))
unfolding added row_fits row_is_new row_is_known
string_added b row s fair =
    in_world_sound b (rows.Text row) s fair (omega arith) (λ thread h. h)
    (string_grows b.script.world row s.world fair.fits (is_not (is_object b.script.world row.id) fair.new))

put_added : (b : Building) (row : Put) → IsSoundSoFar b → HasNoFault b (rows.Put row) → IfSound (added b (rows.Put row))
unfolding added row_fits row_is_new row_is_known
put_added b row s fair =
    in_world_sound b (rows.Put row) s fair (omega arith) (λ thread h. h)
    (put_sound b row s fair)

thread_added : (b : Building) (row : WorldThread) → IsSoundSoFar b → HasNoFault b (rows.Thread row) → IfSound (added b (rows.Thread row))
unfolding added row_fits row_is_new row_is_known
thread_added b row s fair =
    in_world_sound b (rows.Thread row) s fair (omega arith) (thread_kept b.script.world row)
    (thread_grows b.script.world row s.world fair.fits
    (is_not (is_object b.script.world (record { 0 = row.id.0 })) fair.new))

frame_added : (b : Building) (row : WorldFrame) → IsSoundSoFar b → HasNoFault b (rows.Frame row) → IfSound (added b (rows.Frame row))
unfolding added row_fits row_is_new row_is_known
frame_added b row s fair =
    in_world_sound b (rows.Frame row) s fair (omega arith) (λ thread h. h)
    (frame_sound b row s fair)

never_one : (policy : Policy) → may_begin policy ≡ true → policy ≡ policies.EventThread → ⊥
never_one policy may one = let never : false ≡ true = ap may_begin (sym one) ∙ may in cc

begin_added : (b : Building) (start : Begin) → IsSoundSoFar b → HasNoFault b (rows.Begin start) → IfSound (added b (rows.Begin start))
unfolding added row_fits row_is_new row_is_known
begin_added b start s fair =
    let order = in_order b.last 12 fair.order in
    record {
      world = s.world;
      begin = (
        fair.known,
        never_one start.policy
            (second_of (thread_fits b.script.world.sizes start.thread) (may_begin start.policy) fair.fits),
      );
      moves = s.moves;
      first = λ early. s.first (omega (arith, order));
      limits = s.limits;
    }

move_added : (b : Building) (row : Move) → IsSoundSoFar b → HasNoFault b (rows.Move row) → IfSound (added b (rows.Move row))
unfolding added
move_added b row s fair =
    move_sound b row (made b.running row) s refl

turn_added : (b : Building) (turn : Turn) → IsSoundSoFar b → HasNoFault b (rows.Turn turn) → IfSound (added b (rows.Turn turn))
unfolding added
turn_added b turn s fair =
    record {
      world = s.world;
      begin = s.begin;
      moves = s.moves;
      first = λ early. absurd (omega (arith, early));
      limits = s.limits;
    }

end_added : (b : Building) → IsSoundSoFar b → IfSound (added b rows.End)
unfolding added
end_added b s =
    record {
      world = s.world;
      begin = s.begin;
      moves = s.moves;
      first = λ early. absurd (omega (arith, early));
      limits = s.limits;
    }

limits_added : (b : Building) (turns quiet waiting : ℕ) → IsSoundSoFar b → HasNoFault b (rows.Limits turns quiet waiting)
    → IfSound (added b (rows.Limits turns quiet waiting))
unfolding added limited row_fits
limits_added b turns quiet waiting s fair =
    let order = in_order b.last 1 fair.order in
    let most = nat_lt 0 turns && nat_le turns (2 ^ 40) in
    let others = nat_lt 0 quiet && nat_lt 0 waiting in
    record {
      world = s.world;
      begin = s.begin;
      moves = s.moves;
      first = λ early. s.first (omega (arith, order));
      limits = record {
        some_turns = ltb-true 0 turns (first_of (nat_lt 0 turns) (nat_le turns (2 ^ 40)) (first_of most others fair.fits));
        few_turns =
            leb-true turns (2 ^ 40) (second_of (nat_lt 0 turns) (nat_le turns (2 ^ 40)) (first_of most others fair.fits));
        some_quiet = ltb-true 0 quiet (first_of (nat_lt 0 quiet) (nat_lt 0 waiting) (second_of most others fair.fits));
        some_waiting =
            ltb-true 0 waiting (second_of (nat_lt 0 quiet) (nat_lt 0 waiting) (second_of most others fair.fits));
      };
    }

-- no row stands behind the sizes of ids that stands in one of the first two lines
too_early : (last : ℕ) → may_follow last 0 ≡ true → ⊥
too_early last h =
    let first = first_of (nat_lt 0 0) (nat_le last 0)
    (first_of (nat_lt 0 0 && nat_le last 0) (not (is_twice last 0)) h) in
    let behind : 0 < 0 = ltb-true 0 0 first in omega arith

added_sound : (b : Building) (row : Row) → IsSoundSoFar b → HasNoFault b row → IfSound (added b row)
added_sound b (rows.Head told) s fair = absurd (too_early b.last fair.order)
added_sound b (rows.Sizes sizes) s fair = absurd (too_early b.last fair.order)
added_sound b (rows.Limits turns quiet waiting) s fair = limits_added b turns quiet waiting s fair
added_sound b (rows.Class row) s fair = class_added b row s fair
added_sound b (rows.Method row) s fair = method_added b row s fair
added_sound b (rows.Variable row) s fair = variable_added b row s fair
added_sound b (rows.Field row) s fair = field_added b row s fair
added_sound b (rows.Object row) s fair = object_added b row s fair
added_sound b (rows.Array row) s fair = array_added b row s fair
added_sound b (rows.Text row) s fair = string_added b row s fair
added_sound b (rows.Put row) s fair = put_added b row s fair
added_sound b (rows.Thread row) s fair = thread_added b row s fair
added_sound b (rows.Frame row) s fair = frame_added b row s fair
added_sound b (rows.Begin start) s fair = begin_added b start s fair
added_sound b (rows.Move row) s fair = move_added b row s fair
added_sound b (rows.Turn turn) s fair = turn_added b turn s fair
added_sound b rows.End s fair = end_added b s

unless_sound : (b : Building) (row : Row) (fault : Option ScriptFault) → IsSoundSoFar b → fault_of b row ≡ fault
    → IfSound (unless_faulty b row fault)
unless_sound b row None s h = added_sound b row s (no_fault b row h)
unless_sound b row (Some fault) s h = tt

pub grown_sound : (old new : Building) (row : Row) → IsSoundSoFar old → grown old row ≡ Ok new → IsSoundSoFar new
grown_sound old new row s h = subst IfSound h (unless_sound old row (fault_of old row) s refl)

pub begun_sound : (sizes : IdSizes) → IsSoundSoFar (begun sizes)
begun_sound sizes = record {
  world = empty_grows sizes;
  begin = tt;
  moves = refl;
  first = λ early. refl;
  limits = record {
    some_turns = omega arith;
    few_turns = omega arith;
    some_quiet = omega arith;
    some_waiting = omega arith;
  };
}

-- The end ------------------------------------------------------------------------------------------------------------

sound_moves : (w now : World) (program : List Move) → IsSound w → Leads w program now → AreMade w program
sound_moves w now [] s leads = tt
sound_moves w now (next ∷ rest) s leads =
    let after = moves_sound w leads.0.0 next leads.0.1 s leads.1 in
    (leads.0, leads.1, after, sound_moves leads.0.0 now rest after leads.2)

-- where no chain goes on, each ends
all_end_from : (classes : List WorldClass) (n : ℕ) (rows : List WorldClass)
    → position_from (goes_on classes) n rows ≡ None
    → AllByRecursion (λ (row : WorldClass). ends classes classes row.id ≡ true) rows
all_end_from classes n [] h = tt
all_end_from classes n (row ∷ rows) h =
    by (ends classes classes row.id) refl h (all_end_from classes (n + 1) rows) where
      by : (b : Bool) → ends classes classes row.id ≡ b
          → cond (not b) (Some n) (position_from (goes_on classes) (n + 1) rows) ≡ None
          → (position_from (goes_on classes) (n + 1) rows ≡ None
          → AllByRecursion (λ (r : WorldClass). ends classes classes r.id ≡ true) rows)
          → AllByRecursion (λ (r : WorldClass). ends classes classes r.id ≡ true) (row ∷ rows)
      by true e k later = (e, later k)
      by false e k later = absurd cc

all_end : (classes rows : List WorldClass) → position (goes_on classes) rows ≡ None
    → AllByRecursion (λ (row : WorldClass). ends classes classes row.id ≡ true) rows
all_end classes rows h = all_end_from classes 0 rows (sym (position_from-zero (goes_on classes) rows) ∙ h)

no_second_open : (first : ℕ) (a b : Option ℕ) → option_map (line_of_class first) (option_or a b) ≡ None → b ≡ None
no_second_open first None None h = refl
no_second_open first None (Some n) h = absurd cc
no_second_open first (Some m) b h = absurd cc

pub whole_fit : (b : Building) → IsSoundSoFar b → chain_fault b ≡ None → IsFit b.script
whole_fit b s h =
    let classes = b.script.world.classes in
    let sound = whole_is_sound b.script.world s.world (all_end classes classes
    (no_second_open b.first_class (position (is_open classes) classes) (position (goes_on classes) classes) h)) in
    record {
      sound = sound;
      requests = s.world.requests;
      free = s.world.count;
      alive = s.world.alive;
      moves = sound_moves b.script.world b.running b.script.program sound s.moves;
      begin = s.begin;
      limits = s.limits;
    }
