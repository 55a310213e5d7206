-- What is left to do gets less with each line of which the bridge hears nothing.
use Rattle.std.proofs.Common.{◌≡◌, ℕ, ◌+◌, ◌<◌, Bool, true, false, List, [], ◌∷◌, length, drop, refl, ap, arith}
use Rattle.std.proofs.Common.{Option, None, Some}
use Rattle.std.proofs.lemmas.List.{length-drop}
use Rattle.std.proofs.lemmas.List.Edits.{length-remove}
use Rattle.std.proofs.lemmas.Option.{slice_get_within}
use Rattle.jdwp_events.specs.declared.composite.Composite.{Composite}
use Rattle.world_model.specs.declared.moves.Move.{Move}
use Rattle.world_model.specs.declared.world.World.{World}
use Rattle.target_server.specs.Joints.{Joint, Serves, Advances, next_move}
use Rattle.script_rows.specs.declared.script.Turn.{Turn}
use Rattle.script_rows.specs.declared.script.Turn.TheVariants as lines
use Rattle.script_wires.specs.Playing.{Playing, with_lines}
use Rattle.script_wires.specs.Schedules.{ServesAt, MovesOn, ServesIf, MovesIf, Works, GivesIfOpen, GivesFirst, Settles, Does, Steps}

-- the lines, the unserved commands and the moves that are left
abbrev pub weight : Playing → ℕ
weight p = length p.schedule + (length p.target.joint.unserved + length p.target.joint.program)

no_some : {A : Type 0} (x : A) → ◌≡◌ {A = Option A} None (Some x) → ⊥
no_some x h = cc

-- The target ----------------------------------------------------------------------------------------------------------

record IsLess (old new : Joint) : Type 0 where
  unserved : length new.unserved + length new.program + 1 ≡ length old.unserved + length old.program

serves_less : (old new : Joint) (place : ℕ) → Serves old place new → IsLess old new
serves_less old new place s =
    let within = slice_get_within old.unserved place s.command s.waited in
    let fewer = length-remove old.unserved place within in
    let unserved = ap (λ (j : Joint). length j.unserved) s.others in
    let program = ap (λ (j : Joint). length j.program) s.others in
    record { unserved = omega (arith, fewer, unserved, program) }

-- a program of which a move is made has one
some_left : (w : World) (program : List Move) (made : World × Option Composite) → next_move w program ≡ Some made
    → length (drop 1 program) + 1 ≡ length program
some_left w [] made can = absurd (no_some made can)
some_left w (next ∷ rest) made can = omega (arith, length-drop 1 (next ∷ rest))

advances_less : (old new : Joint) → Advances old new → IsLess old new
advances_less old new a =
    let fewer = some_left old.world old.program a.made a.can in
    let unserved = ap (λ (j : Joint). length j.unserved) a.same in
    let program = ap (λ (j : Joint). length j.program) a.same in
    record { unserved = omega (arith, fewer, unserved, program) }

-- Lines ---------------------------------------------------------------------------------------------------------------

serves_at_less : (old new : Playing) (place : ℕ) → ServesAt place old new → weight new < weight old
serves_at_less old new place s =
    let less = (serves_less old.target.joint new.target.joint place s.serves).unserved in
    let schedule = ap (λ (p : Playing). length p.schedule) s.others in
    omega (arith, less, schedule)

moves_on_less : (old new : Playing) → MovesOn old new → weight new < weight old
moves_on_less old new m =
    let less = (advances_less old.target.joint new.target.joint m.advances).unserved in
    let schedule = ap (λ (p : Playing). length p.schedule) m.others in
    omega (arith, less, schedule)

works_less : (moving : Bool) (old new : Playing) → Works moving old new → weight new < weight old
works_less moving old new (Works.serves s) = serves_at_less old new 0 s
works_less moving old new (Works.moves none asks m) = moves_on_less old new m

serves_if_less : (place : ℕ) (old new : Playing) → ServesIf place old new → weight new < weight old + 1
serves_if_less place old new (ServesIf.serves s) =
    let less = serves_at_less old new place s in
    omega (arith, less)
serves_if_less place old new (ServesIf.has_none none same) =
    let e = ap weight same in
    omega (arith, e)

moves_if_less : (old new : Playing) → MovesIf old new → weight new < weight old + 1
moves_if_less old new (MovesIf.moves m) =
    let less = moves_on_less old new m in
    omega (arith, less)
moves_if_less old new (MovesIf.is_held held same) =
    let e = ap weight same in
    omega (arith, e)

gives_none : (old new : Playing) → GivesFirst old None new → ⊥
gives_none old new (GivesFirst.of_client some gives) = no_some _ gives.hears
gives_none old new (GivesFirst.of_target none some gives) = no_some _ gives.hears

-- a line is done
lines_less : (old : Playing) (line : Turn) (rest : List Turn) → old.schedule ≡ line ∷ rest
    → weight (with_lines rest old) + 1 ≡ weight old
lines_less old line rest is =
    let e = ap (λ (l : List Turn). length l) is in
    omega (arith, e)

settles_less : (moving : Bool) (line : Turn) (rest : List Turn) (old new : Playing) → old.schedule ≡ line ∷ rest
    → Settles moving rest old None new → weight new < weight old
settles_less moving line rest old new is (Settles.gives gives) = absurd (gives_none old new gives)
settles_less moving line rest old new is (Settles.works still said works) = works_less moving old new works
settles_less moving line rest old new is (Settles.is_done still idle said same) =
    let e = ap weight same in
    let less = lines_less old line rest is in
    omega (arith, e, less)

does_less : (lines : List Turn) (old new : Playing) → old.schedule ≡ lines → Does lines old None new
    → weight new < weight old
does_less [] old new is does = absurd (no_some _ does.0)
does_less (lines.Ask command arguments ∷ rest) old new is does =
    let e = ap weight does.1 in
    let less = lines_less old (lines.Ask command arguments) rest is in
    omega (arith, e, less)
does_less (lines.Client most ∷ rest) old new is (GivesIfOpen.gives is_so gives) = absurd (no_some _ gives.hears)
does_less (lines.Client most ∷ rest) old new is (GivesIfOpen.passes shut said same) =
    let e = ap weight same in
    let less = lines_less old (lines.Client most) rest is in
    omega (arith, e, less)
does_less (lines.Target most ∷ rest) old new is does = absurd (no_some _ does.hears)
does_less (lines.Serve place ∷ rest) old new is does =
    let served = serves_if_less place (with_lines rest old) new does.1 in
    let less = lines_less old (lines.Serve place) rest is in
    omega (arith, served, less)
does_less (lines.Move ∷ rest) old new is does =
    let moved = moves_if_less (with_lines rest old) new does.1 in
    let less = lines_less old lines.Move rest is in
    omega (arith, moved, less)
does_less (lines.Settle ∷ rest) old new is does = settles_less true lines.Settle rest old new is does
does_less (lines.Deliver ∷ rest) old new is does = settles_less false lines.Deliver rest old new is does
does_less (lines.Shut side ∷ rest) old new is does =
    let e = ap weight does.1 in
    let less = lines_less old (lines.Shut side) rest is in
    omega (arith, e, less)

pub steps_less : (old new : Playing) → Steps old None new → weight new < weight old
steps_less old new steps = does_less old.schedule old new refl steps
