-- Nothing is pending where no command stands in the window.
use Rattle.std.proofs.Common.{◌≡◌, ℕ, ◌++◌, ◌∷◌, Bool, true, false, cond, not, List, [], map, Option, None, Some, refl}
use Rattle.std.proofs.Common.{sym, ap, ◌∙◌}
use Rattle.std.specs.List.{flat_map}
use Rattle.jdwp_commands.specs.declared.asked.Asked.{Asked}
use Rattle.machine_model.specs.Due.{can_read}
use Rattle.machine_model.specs.Plans.{question_of}
use Rattle.machine_model.specs.Replying.{pending_in, pending_of, unanswered, unanswered_effect, wire}
use Rattle.machine_model.specs.Rest.{awaits_greeting, hand_silent}
use Rattle.machine_model.specs.State.{Hand, has_waiting, is_empty, is_flying, is_gone, is_none}
use Rattle.machine_model.specs.declared.acts.Doing.{Doing}
use Rattle.machine_model.specs.declared.acts.Sent.{Sent}
use Rattle.bridge_core.specs.Cores.{CoreState, IsReady}
use Rattle.bridge_core.specs.Going.{awaits_nothing, rests}
use Rattle.bridge_core.specs.Names.{TargetCommand, a_question, an_effect}
use Rattle.bridge_core.proofs.RunLaws.{near_late, silent_hand}
use Rattle.bridge_core.proofs.WindowLaws.{none_sent}

none_waits : (asked : List Sent) (rest : List TargetCommand) → flat_map unanswered asked ++ rest ≡ []
    → (has_waiting asked ≡ false) × (rest ≡ [])
none_waits [] rest is = (refl, is)
none_waits (sent ∷ asked) rest is = by_reply (is_none sent.reply) refl is (λ others. none_waits asked rest others)
  where
    by_reply : (none : Bool) → is_none sent.reply ≡ none
        → (cond none (a_question (question_of sent.want) ∷ []) [] ++ flat_map unanswered asked) ++ rest ≡ []
        → (flat_map unanswered asked ++ rest ≡ [] → (has_waiting asked ≡ false) × (rest ≡ []))
        → (has_waiting (sent ∷ asked) ≡ false) × (rest ≡ [])
    by_reply true at is others = cc
    by_reply false at is others = let o = others is in (rw (at, o.0) refl, o.1)

none_flies : (effect : Option Doing) → unanswered_effect effect ≡ [] → is_flying effect ≡ false
none_flies None is = refl
none_flies (Some doing) is = by_reply (is_none doing.reply) is
  where
    by_reply : (none : Bool) → cond none (an_effect doing.effect ∷ []) [] ≡ [] → none ≡ false
    by_reply true is = cc
    by_reply false is = refl

-- an item of which nothing is pending is silent
silent_so : (hand : Option Hand) → pending_in hand ≡ [] → hand_silent hand ≡ true
silent_so None is = refl
silent_so (Some hand) is =
    let n = none_waits hand.asked (unanswered_effect hand.effect) is in
    rw (none_flies hand.effect n.1, n.0) refl

-- the window is empty where the item in hand is silent
silent_sent : (core : CoreState) → IsReady core → is_gone core.machine.state.phase ≡ false
    → is_empty core.commands.sent ≡ hand_silent core.machine.hand
silent_sent core ready near = by_silent (hand_silent core.machine.hand) refl
  where
    late : core.machine.late ≡ []
    late = near_late ready.sound.run near

    pending : pending_of core.machine ≡ pending_in core.machine.hand
    pending = ap (λ (l : List TargetCommand). l ++ pending_in core.machine.hand) late

    empty_none : {A : Type 0} (items : List A) → is_empty items ≡ true → items ≡ []
    empty_none [] is = refl
    empty_none (item ∷ items) is = cc

    none_mapped : (commands : List TargetCommand) → [] ≡ map wire commands → commands ≡ []
    none_mapped [] is = refl
    none_mapped (command ∷ commands) is = cc

    by_silent : (silent : Bool) → hand_silent core.machine.hand ≡ silent → is_empty core.commands.sent ≡ silent
    by_silent true is =
        ap is_empty (none_sent core.commands.sent core.machine (pending ∙ silent_hand core.machine.hand is)
        ready.sound.aligned)
    by_silent false is = by_empty (is_empty core.commands.sent) refl
      where
        by_empty : (empty : Bool) → is_empty core.commands.sent ≡ empty → empty ≡ false
        by_empty false at = refl
        by_empty true at =
            let none = empty_none core.commands.sent at in
            let mapped : [] ≡ map wire (pending_of core.machine) =
            sym (ap (λ (sent : List (ℕ × Asked)). map (λ (s : ℕ × Asked). s.1) sent) none) ∙ ready.sound.aligned in
            let silent = silent_so core.machine.hand (sym pending ∙ none_mapped (pending_of core.machine) mapped) in
            sym silent ∙ is

-- no command and no handshake is awaited
pub rests_so : (core : CoreState) → IsReady core → is_gone core.machine.state.phase ≡ false
    → awaits_nothing core ≡ rests core.machine
rests_so core ready near =
    ap (λ (none : Bool). cond none (not (awaits_greeting core.machine.state)) false)
    (silent_sent core ready near ∙ sym (silent_is (is_gone core.machine.state.phase) (can_read core.machine) near
    ready.sound.none_to_read))
  where
    silent_is : (gone read : Bool) → gone ≡ false → read ≡ false
        → cond gone true (cond read false (hand_silent core.machine.hand)) ≡ hand_silent core.machine.hand
    silent_is true read near none = cc
    silent_is false true near none = cc
    silent_is false false near none = refl
