-- What an act of the machine's own leaves as it was: what was heard of both sides, and that no composite can be read.
use Rattle.std.proofs.Common.{◌≡◌, ◌||◌, Bool, true, false, cond, List, [], ◌∷◌, Option, Some, None, refl, sym, ap, ◌∙◌}
use Rattle.std.proofs.Common.{arith, subst}
use Rattle.machine_model.specs.Due.{Picked, can_read, due, passed_by, pick}
use Rattle.machine_model.specs.Rows.{noted}
use Rattle.machine_model.specs.Runs.{Message, said}
use Rattle.machine_model.specs.State.{Machine, State, has_raw, is_gone, is_raw, is_some}
use Rattle.machine_model.specs.Telling.{after_event, numbered_by}
use Rattle.machine_steps.proofs.Stepping.{Moves}
use Rattle.machine_work.specs.Names.{Event, Item, Note, Outcome}
use Rattle.machine_work.specs.Working.{is_work}
use Rattle.machine_work.proofs.OwnMoves.{is_own, not_lost}
use Rattle.machine_work.proofs.WorkLaws.{due_moves, due_stays, own_said}

-- What was heard is as it was, and so are the sizes of ids, and whether a `disconnect` was heard; a target that is gone stays gone; and where no
-- composite could be read none can.
pub record Framed (m next : Machine) : Type 0 where
  pub closing : next.closing ≡ m.closing
  pub heard : next.state.greeting_heard ≡ m.state.greeting_heard
  pub gone : is_gone m.state.phase ≡ true → is_gone next.state.phase ≡ true
  pub sizes : next.state.sizes ≡ m.state.sizes
  pub unread : can_read m ≡ false → can_read next ≡ false

-- The item that is taken -------------------------------------------------------------------------------------------

-- the first item that can be begun is taken out, and the others stay
picked_raw : (gone : Bool) (items : List Item) (picked : Picked) → pick gone items ≡ Some picked
    → has_raw items ≡ false → has_raw picked.rest ≡ false
picked_raw gone [] picked is none = cc
picked_raw gone (item ∷ items) picked is none =
    by_test (cond gone false (is_raw item)) (pick gone items) is (both (is_raw item) (has_raw items) none).0
    (both (is_raw item) (has_raw items) none).1
    (λ other same. picked_raw gone items other same (both (is_raw item) (has_raw items) none).1)
  where
    both : (raw others : Bool) → (raw || others) ≡ false → (raw ≡ false) × (others ≡ false)
    both false others none = (refl, none)
    both true others none = cc

    by_below : (below : Option Picked) → passed_by item below ≡ Some picked → is_raw item ≡ false
        → ((other : Picked) → below ≡ Some other → has_raw other.rest ≡ false) → has_raw picked.rest ≡ false
    by_below None is first rest = cc
    by_below (Some other) is first rest =
        let same : item ∷ other.rest ≡ picked.rest = cc in
        sym (ap has_raw same) ∙ ap (λ (raw : Bool). raw || has_raw other.rest) first ∙ rest other refl

    by_test : (skips : Bool) (below : Option Picked)
        → cond skips (passed_by item below) (Some (record { item = item; rest = items })) ≡ Some picked
        → is_raw item ≡ false → has_raw items ≡ false
        → ((other : Picked) → below ≡ Some other → has_raw other.rest ≡ false) → has_raw picked.rest ≡ false
    by_test true below is first none rest = by_below below is first rest
    by_test false below is first none rest =
        let same : items ≡ picked.rest = cc in sym (ap has_raw same) ∙ none

-- The moves -----------------------------------------------------------------------------------------------------------

-- what was heard of the target is as it was, and a target that is gone stays gone
record SameState (state now : State) : Type 0 where
  heard : now.greeting_heard ≡ state.greeting_heard
  sizes : now.sizes ≡ state.sizes
  gone : is_gone state.phase ≡ true → is_gone now.phase ≡ true

no_change : (state : State) → SameState state state
no_change state = record { heard = refl; sizes = refl; gone = λ is. is }

framed_by : (m next : Machine) → next.closing ≡ m.closing → SameState m.state next.state
    → (has_raw m.waiting ≡ false → has_raw next.waiting ≡ false) → Framed m next
framed_by m next closing same raw = record {
  closing = closing;
  heard = same.heard;
  gone = same.gone;
  sizes = same.sizes;
  unread = λ is. by_bools (is_gone m.state.phase) (is_gone next.state.phase) (is_some m.state.sizes)
      (is_some next.state.sizes) (ap is_some same.sizes) same.gone is;
}
  where
    by_bools : (was now sized still : Bool) → still ≡ sized → (was ≡ true → now ≡ true)
        → cond was false (cond sized (has_raw m.waiting) false) ≡ false
        → cond now false (cond still (has_raw next.waiting) false) ≡ false
    by_bools was true sized still same gone is = refl
    by_bools was false sized false same gone is = refl
    by_bools true false sized true same gone is = let no : false ≡ true = gone refl in cc
    by_bools false false true true same gone is = raw is
    by_bools false false false true same gone is = cc

numbered_same : (outcome : Outcome) (state : State) → SameState state (numbered_by outcome state)
numbered_same outcome state = record {
  heard = numbered_heard outcome state;
  sizes = numbered_sizes outcome state;
  gone = λ is. ap is_gone (numbered_phase outcome state) ∙ is;
}
  where
    numbered_heard : (outcome : Outcome) (state : State)
        → (numbered_by outcome state).greeting_heard ≡ state.greeting_heard
    numbered_heard outcome state = grind arith

    numbered_sizes : (outcome : Outcome) (state : State) → (numbered_by outcome state).sizes ≡ state.sizes
    numbered_sizes outcome state = grind arith

    numbered_phase : (outcome : Outcome) (state : State) → (numbered_by outcome state).phase ≡ state.phase
    numbered_phase outcome state = grind arith

told_same : (event : Event) (state : State) → SameState state (after_event event state)
told_same event state = record {
  heard = told_heard event state;
  sizes = told_sizes event state;
  gone = told_gone event state;
}
  where
    told_heard : (event : Event) (state : State) → (after_event event state).greeting_heard ≡ state.greeting_heard
    told_heard event state = grind arith

    told_sizes : (event : Event) (state : State) → (after_event event state).sizes ≡ state.sizes
    told_sizes event state = grind arith

    told_gone : (event : Event) (state : State) → is_gone state.phase ≡ true
        → is_gone (after_event event state).phase ≡ true
    told_gone event state is = grind (arith, is)

noted_same : (note : Note) (state : State) → SameState state (noted note state)
noted_same note state = record {
  heard = noted_heard note state;
  sizes = noted_sizes note state;
  gone = λ is. ap is_gone (noted_phase note state) ∙ is;
}
  where
    noted_heard : (note : Note) (state : State) → (noted note state).greeting_heard ≡ state.greeting_heard
    noted_heard note state = grind arith

    noted_sizes : (note : Note) (state : State) → (noted note state).sizes ≡ state.sizes
    noted_sizes note state = grind arith

    noted_phase : (note : Note) (state : State) → (noted note state).phase ≡ state.phase
    noted_phase note state = grind arith

framed_on : (m next : Machine) (said : Option Message) → is_own said ≡ true → Moves m said next → Framed m next
framed_on m next said own (Moves.begins picked free none is) =
    framed_by m next refl (record { heard = refl; sizes = refl; gone = λ is. is }) (picked_raw (is_gone m.state.phase) m.waiting picked is)
framed_on m next said own (Moves.responds {outcome = outcome} free at is) =
    framed_by m next refl (numbered_same outcome m.state) (λ none. none)
framed_on m next said own (Moves.tells {event = event} free at) =
    framed_by m next refl (told_same event m.state) (λ none. none)
framed_on m next said own (Moves.sends free at near) =
    framed_by m next refl (record { heard = refl; sizes = refl; gone = λ is. is }) (λ none. none)
framed_on m next said own (Moves.notes {note = note} free at) =
    framed_by m next refl (noted_same note m.state) (λ none. none)
framed_on m next said own (Moves.greets free at is near) =
    framed_by m next refl (record { heard = refl; sizes = refl; gone = λ is. is }) (λ none. none)
framed_on m next said own (Moves.hears read is) = cc
framed_on m next said own (Moves.greeted read is) = cc
framed_on m next said own (Moves.answers is waits reply last) = cc
framed_on m next said own (Moves.replies is flies reply last) = cc
framed_on m next said own (Moves.late before after is reply) = cc
framed_on m next said own (Moves.ends gone) = cc
framed_on m next said own (Moves.loses {message} late near why) =
    let no : true ≡ false = sym own ∙ not_lost m message late why in cc
framed_on m next said own (Moves.comes read sized taken) = cc
framed_on m next said own (Moves.keeps is) = cc
framed_on m next said own (Moves.reads before after read is none taken) = cc
framed_on m next said own _ = framed_by m next refl (no_change m.state) (λ none. none)

-- what an act of the machine's own leaves as it was
pub due_framed : (id_pending : Bool) (m : Machine) → Framed m (due id_pending m).next
due_framed id_pending m = by_work (is_work (due id_pending m).act) refl
  where
    by_work : (works : Bool) → is_work (due id_pending m).act ≡ works → Framed m (due id_pending m).next
    by_work true is =
        framed_on m (due id_pending m).next (said (due id_pending m).act) (own_said (due id_pending m).act)
        (due_moves id_pending m is)
    by_work false is =
        subst (λ (next : Machine). Framed m next) (sym (due_stays id_pending m is))
        (framed_by m m refl (no_change m.state) (λ none. none))
