-- What holds of each move of a joint.
use Rattle.std.proofs.Common.{◌≡◌, ℕ, ◌<◌, ◌^◌, true, false, cond, List, [], ◌∷◌, refl, sym, ap, subst, ◌∙◌, arith, inl, inr}
use Rattle.std.proofs.Common.{◌⊎◌, Option, None, Some}
use Rattle.std.proofs.lemmas.Bool.{cases_Bool, cases_lt}
use Rattle.std.specs.Prelude.{Result, Ok, Err, nat_eq}
use Rattle.jdwp_events.specs.declared.composite.Composite.{Composite}
use Rattle.jdwp_commands.specs.declared.asked.Asked.{Asked}
use Rattle.jdwp_commands.specs.declared.asked.Asked.TheVariants as commands
use Rattle.jdwp_commands.specs.declared.asked.Replied.{Replied}
use Rattle.jdwp_commands.specs.declared.effect.Effect.{Effect}
use Rattle.jdwp_commands.specs.declared.question.Question.{Question}
use Rattle.world_model.specs.declared.moves.Move.{Move}
use Rattle.world_model.specs.declared.moves.MoveTrouble.{MoveTrouble}
use Rattle.world_model.specs.declared.moves.MoveTrouble.TheVariants as troubles
use Rattle.world_model.specs.declared.world.World.{World}
use Rattle.world_model.specs.Effects.{applied}
use Rattle.world_model.specs.Kept.{program_of, values_of, puts_values}
use Rattle.world_model.specs.Happenings.{what_happens}
use Rattle.world_model.specs.Moving.{made as made_by, moved}
use Rattle.world_model.specs.Replies.{reply_of}
use Rattle.world_model.specs.Sound.{IsSound}
use Rattle.world_model.proofs.KeptLaws.{programs, values}
use Rattle.world_model.proofs.MoveLaws.{ended_stays, held_stays}
use Rattle.world_model.proofs.MoveSound.{moves_sound}
use Rattle.world_model.proofs.SoundLaws.{sound}
use Rattle.target_server.specs.Courses.{Goes, PutsOne, IsStuck}
use Rattle.target_server.specs.Joints.{Joint, answered, if_made, next_move, Greets, Serves, Moves}

-- Commands -----------------------------------------------------------------------------------------------------------

-- a question is answered by the world as it stands
asked_stays : (w now : World) (reply replied : Replied)
    → ◌≡◌ {A = Option (World × Replied)} (Some (w, reply)) (Some (now, replied)) → now ≡ w
asked_stays w now reply replied h =
    let same : ◌≡◌ {A = World × Replied} (w, reply) (now, replied) = cc in
    ap (λ (p : World × Replied). p.0) (sym same)

question_stays : (w now : World) (question : Question) (replied : Replied)
    → answered w (commands.Question question) ≡ Some (now, replied) → now ≡ w
unfolding answered
question_stays w now question replied h = asked_stays w now (reply_of w question) replied h

-- an effect is what the world makes of it
effect_done : (w now : World) (effect : Effect) (replied : Replied)
    → answered w (commands.Effect effect) ≡ Some (now, replied) → applied w effect ≡ Some (now, replied)
unfolding answered
effect_done w now effect replied h = h

pub answered_program : (w now : World) (asked : Asked) (replied : Replied) → answered w asked ≡ Some (now, replied)
    → program_of now ≡ program_of w
answered_program w now (commands.Question question) replied h = ap program_of (question_stays w now question replied h)
answered_program w now (commands.Effect effect) replied h =
    programs w effect now replied (effect_done w now effect replied h)

pub answered_sound : (w now : World) (asked : Asked) (replied : Replied) → IsSound w
    → answered w asked ≡ Some (now, replied) → IsSound now
answered_sound w now (commands.Question question) replied s h =
    subst IsSound (sym (question_stays w now question replied h)) s
answered_sound w now (commands.Effect effect) replied s h =
    sound w effect s now replied (effect_done w now effect replied h)

-- Moves --------------------------------------------------------------------------------------------------------------

no_some : {A : Type 0} (x : A) → ◌≡◌ {A = Option A} None (Some x) → ⊥
no_some x h = cc

pub made_is : (found : Result (World × Option Composite) MoveTrouble) (made : World × Option Composite)
    → if_made found ≡ Some made → found ≡ Ok made
made_is (Ok x) made h =
    let same : x ≡ made = cc in
    ap (λ m. Ok m) same
made_is (Err trouble) made h = absurd (no_some made h)

pub none_while_held : (w : World) (program : List Move) (made : World × Option Composite) → 0 < w.count
    → next_move w program ≡ Some made → ⊥
none_while_held w [] made held h = no_some made h
none_while_held w (next ∷ rest) made held h =
    elim (cases_Bool w.dead) [
      | inl dead ↦ no_some made (sym (ap if_made (ended_stays w next dead)) ∙ h)
      | inr lives ↦ no_some made (sym (ap if_made (held_stays w next lives held)) ∙ h)
    ]

pub advanced_sound : (w : World) (program : List Move) (made : World × Option Composite) → IsSound w
    → next_move w program ≡ Some made → IsSound made.0
advanced_sound w [] made s h = absurd (no_some made h)
advanced_sound w (next ∷ rest) made s h = moves_sound w made.0 next made.1 s (made_is (moved w next) made h)

-- A suspended target -------------------------------------------------------------------------------------------------

pub program_stays : (old new : Joint) → Moves old new → 0 < old.world.count
    → program_of new.world ≡ program_of old.world
program_stays old new (Moves.greets g) held = ap (λ (j : Joint). program_of j.world) g.same
program_stays old new (Moves.receives command g) held = refl
program_stays old new (Moves.serves place s) held =
    answered_program old.world new.world s.command.asked s.reply s.answers
program_stays old new (Moves.advances a) held =
    absurd (none_while_held old.world old.program a.made held a.can)
program_stays old new (Moves.leaves n) held = refl

-- what a command that was served does to values
served_values : (old new : Joint) (place : ℕ) (s : Serves old place new) (asked : Asked) → s.command.asked ≡ asked
    → (values_of new.world ≡ values_of old.world) ⊎ PutsOne old new
served_values old new place s (commands.Question question) is =
    let answers = ap (λ (a : Asked). answered old.world a) (sym is) ∙ s.answers in
    inl (ap values_of (question_stays old.world new.world question s.reply answers))
served_values old new place s (commands.Effect effect) is =
    let answers = ap (λ (a : Asked). answered old.world a) (sym is) ∙ s.answers in
    let done = effect_done old.world new.world effect s.reply answers in
    elim (cases_Bool (puts_values effect)) [
      | inl puts ↦ inr (record {
        command = s.command;
        place = place;
        waited = s.waited;
        effect = effect;
        asked = is;
        puts = puts;
        replied = s.reply;
        done = done;
      })
      | inr puts_none ↦ inl (values old.world effect puts_none new.world s.reply done)
    ]

pub values_stay : (old new : Joint) → Moves old new → 0 < old.world.count
    → (values_of new.world ≡ values_of old.world) ⊎ PutsOne old new
values_stay old new (Moves.greets g) held = inl (ap (λ (j : Joint). values_of j.world) g.same)
values_stay old new (Moves.receives command g) held = inl refl
values_stay old new (Moves.serves place s) held = served_values old new place s s.command.asked refl
values_stay old new (Moves.advances a) held =
    absurd (none_while_held old.world old.program a.made held a.can)
values_stay old new (Moves.leaves n) held = inl refl

-- A sound target -----------------------------------------------------------------------------------------------------

greeted_sound : (old new : Joint) → Greets old new → IsSound old.world → IsSound new.world
greeted_sound old new g s =
    let few = g.few in
    subst (λ (j : Joint). IsSound j.world) (sym g.same) (record {
      program = s.program;
      values = s.values;
      hold = record {
        distinct = s.hold.distinct;
        numbers = s.hold.numbers;
        next_number = s.hold.next_number;
        few = subst (λ (j : Joint). j.world.count < 2 ^ 64) g.same few;
      };
    })

pub moves_stay_sound : (old new : Joint) → Moves old new → IsSound old.world → IsSound new.world
moves_stay_sound old new (Moves.greets g) s = greeted_sound old new g s
moves_stay_sound old new (Moves.receives command g) s = s
moves_stay_sound old new (Moves.serves place v) s =
    answered_sound old.world new.world v.command.asked v.reply s v.answers
moves_stay_sound old new (Moves.advances a) s =
    subst (λ (j : Joint). IsSound j.world) (sym a.same) (advanced_sound old.world old.program a.made s a.can)
moves_stay_sound old new (Moves.leaves n) s = s

pub goes_sound : (old new : Joint) → Goes old new → IsSound old.world → IsSound new.world
goes_sound old new Goes.stays s = s
goes_sound old new (Goes.goes {middle = middle} before move) s =
    moves_stay_sound middle new move (goes_sound old middle before s)

-- A program that waits -----------------------------------------------------------------------------------------------

pub none_ended : (w : World) (program : List Move) → w.dead ≡ true → next_move w program ≡ None
none_ended w [] dead = refl
none_ended w (next ∷ rest) dead = ap if_made (ended_stays w next dead)

pub none_held : (w : World) (program : List Move) → 0 < w.count → next_move w program ≡ None
none_held w [] held = refl
none_held w (next ∷ rest) held =
    elim (cases_Bool w.dead) [
      | inl dead ↦ ap if_made (ended_stays w next dead)
      | inr lives ↦ ap if_made (held_stays w next lives held)
    ]

abbrev Waits : World → List Move → Type 0
Waits w program = (w.dead ≡ true) ⊎ ((0 < w.count) ⊎ ((program ≡ []) ⊎ IsStuck w program))

-- what a move that is tried comes to: it is made, or it can't be
tried : (w : World) (next : Move) → w.dead ≡ false → w.count ≡ 0 → moved w next ≡ made_by w next (what_happens w next)
tried w next lives free =
    let zero : nat_eq w.count 0 ≡ true = grind arith in
    ap (λ b. cond b (Err troubles.Ended)
    (cond (nat_eq w.count 0) (made_by w next (what_happens w next)) (Err troubles.Held))) lives
    ∙ ap (λ b. cond b (made_by w next (what_happens w next)) (Err troubles.Held)) zero

-- what can't be made is a bad move
made_or_bad : {H : Type 0} (make : Option H → Result (World × Option Composite) MoveTrouble)
    → make None ≡ Err troubles.BadMove → ((h : H) → (m : World × Option Composite) × (make (Some h) ≡ Ok m))
    → (happened : Option H) → if_made (make happened) ≡ None → make happened ≡ Err troubles.BadMove
made_or_bad make bad good None none = bad
made_or_bad make bad good (Some h) none =
    let can = good h in
    absurd (no_some can.0 (sym none ∙ ap if_made can.1))

-- why a move that was tried was not made
not_made : (w : World) (next : Move) (rest : List Move) → w.dead ≡ false → w.count ≡ 0
    → if_made (moved w next) ≡ None → Waits w (next ∷ rest)
not_made w next rest lives free none = inr (inr (inr (record {
  next = next;
  rest = rest;
  parts = refl;
  bad = let try = tried w next lives free in
      try ∙ made_or_bad (made_by w next) refl (λ h. (_, refl)) (what_happens w next) (sym (ap if_made try) ∙ none);
})))

pub only_waits : (w : World) (program : List Move) → next_move w program ≡ None → Waits w program
only_waits w [] none = inr (inr (inl refl))
only_waits w (next ∷ rest) none =
    elim (cases_Bool w.dead) [
      | inl dead ↦ inl dead
      | inr lives ↦ elim (cases_lt 0 w.count) [
        | inl held ↦ inr (inl held)
        | inr free ↦ not_made w next rest lives (omega (arith, free)) none
      ]
    ]
