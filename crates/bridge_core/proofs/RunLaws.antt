-- What holds of every run that the core takes up: what is pending, what was asked, and what is sent.
use Rattle.std.proofs.Common.{◌≡◌, Bool, true, false, cond, not, List, [], Option, Some, None, refl, sym}
use Rattle.std.proofs.Common.{ap, ◌∙◌, arith}
use Rattle.jdwp_commands.specs.Commands.{FitsCommand}
use Rattle.jdwp_values.specs.declared.sizes.IdSizes.{IdSizes}
use Rattle.machine_model.specs.Due.{due}
use Rattle.machine_model.specs.Replying.{SizesFor, pending_in, wire}
use Rattle.machine_model.specs.Rest.{hand_silent}
use Rattle.machine_model.specs.Runs.{Allows, Message, Run, said}
use Rattle.machine_model.specs.State.{Hand, Machine, has_waiting, is_flying, is_gone}
use Rattle.machine_steps.proofs.KeptLaws.{always_kept}
use Rattle.machine_steps.proofs.PendingLaws.{all_open, pending_is}
use Rattle.machine_steps.proofs.QuietLaws.{near_flies}
use Rattle.machine_steps.proofs.RequestLaws.{IsDue, settling, was_due}
use Rattle.machine_steps.proofs.RequestSteps.{flying_in, flying_of, parts_left}
use Rattle.machine_steps.proofs.SpellLaws.{are_spelled}
use Rattle.machine_steps.proofs.TurnLaws.{none_flies, none_out}
use Rattle.bridge_core.specs.Names.{Act, Effect, Question, TargetCommand, a_question, an_effect}
use Rattle.bridge_core.specs.Names.{Clear, Does, Set}
use Rattle.talk_plans.specs.Talking.{AreSized}
use Rattle.session_facts.specs.Effects.{IsNext}

-- What is pending -----------------------------------------------------------------------------------------------------

pub silent_hand : (hand : Option Hand) → hand_silent hand ≡ true → pending_in hand ≡ []
silent_hand None is = refl
silent_hand (Some hand) is =
    rw (
      none_out hand.asked (no_waits (is_flying hand.effect) (has_waiting hand.asked) is),
      none_flies hand.effect (no_flight (is_flying hand.effect) (has_waiting hand.asked) is),
    ) refl
  where
    no_waits : (flies waits : Bool) → cond flies false (not waits) ≡ true → waits ≡ false
    no_waits flies waits is = grind (arith, is)

    no_flight : (flies waits : Bool) → cond flies false (not waits) ≡ true → flies ≡ false
    no_flight flies waits is = grind (arith, is)

-- in a target that is gone no command of the item in hand is pending
pub gone_silent : {messages : List Message} {m : Machine} → Run messages m → is_gone m.state.phase ≡ true
    → pending_in m.hand ≡ []
gone_silent {messages} {m} r gone =
    silent_hand m.hand (ap (λ (over : Bool). cond over (hand_silent m.hand) true) (sym gone)
    ∙ (all_open r).holds.quiet)

-- while the target isn't gone, no command was left without a reply
pub near_late : {messages : List Message} {m : Machine} → Run messages m → is_gone m.state.phase ≡ false → m.late ≡ []
near_late {messages} {m} r near = (pending_is messages m r).in_hand near

-- What is asked and sent ----------------------------------------------------------------------------------------------

second : (one other : Bool) → cond one other false ≡ true → other ≡ true
second true other is = is
second false other is = cc

-- the sizes of ids are known, once they were asked for the item in hand and replied to
pub hand_sized : {messages : List Message} {m : Machine} → Run messages m → (hand : Hand) → m.hand ≡ Some hand
    → AreSized m.state hand
hand_sized {messages} {m} r hand is = let kept = rw is at (always_kept r) in second _ _ kept

-- the effect in flight is no change of event requests, or the one that is due
pub hand_next : {messages : List Message} {m : Machine} → Run messages m → (hand : Hand) → m.hand ≡ Some hand
    → (effect : Effect) → hand.effect ≡ Some (record { effect = effect; reply = None })
    → IsNext effect m.state.wishes
hand_next {messages} {m} r hand is effect flies =
    let near = near_flies m hand effect (all_open r).holds.quiet is flies in
    let flew : flying_in m.hand ≡ Some effect = ap flying_in is ∙ ap flying_of flies in
    by_effect effect (was_due m effect (settling r near).awaited flew)
  where
    by_effect : (effect : Effect) → IsDue m.state.wishes (parts_left m.hand) (Some effect)
        → IsNext effect m.state.wishes
    by_effect (Does deed) due = tt
    by_effect (Set wish) due = (due refl).0
    by_effect (Clear wish request) due = (due refl).0

-- Commands have a spelling --------------------------------------------------------------------------------------------

-- a command that is due has a spelling with sizes that serve
pub due_fits : {messages : List Message} {m : Machine} → Run messages m → (id_pending : Bool)
    (command : TargetCommand) (used : IdSizes) → said (due id_pending m).act ≡ Some (Message.sends command)
    → SizesFor m.state.sizes used → FitsCommand used (wire command)
due_fits {messages} {m} r id_pending command used is serves =
    ((are_spelled messages m r).due id_pending command is).fits used serves

-- a question that is due
pub asks_fits : {messages : List Message} {m : Machine} → Run messages m → (id_pending : Bool) (question : Question)
    (used : IdSizes) → (due id_pending m).act ≡ Act.Asks question → SizesFor m.state.sizes used
    → FitsCommand used (wire (a_question question))
asks_fits r id_pending question used is serves = due_fits r id_pending (a_question question) used (ap said is) serves

-- an effect that is due
pub sends_fits : {messages : List Message} {m : Machine} → Run messages m → (id_pending : Bool) (effect : Effect)
    (used : IdSizes) → (due id_pending m).act ≡ Act.Sends effect → SizesFor m.state.sizes used
    → FitsCommand used (wire (an_effect effect))
sends_fits r id_pending effect used is serves = due_fits r id_pending (an_effect effect) used (ap said is) serves

-- a command that the machine allows to be sent has a spelling with sizes that serve
pub allowed_fits : {messages : List Message} {m next : Machine} {command : TargetCommand} → Run messages m
    → Allows m (Message.sends command) next → (used : IdSizes) → SizesFor m.state.sizes used
    → FitsCommand used (wire command)
allowed_fits {command = command} r (Allows.acts is) used serves = due_fits r false command used is serves
