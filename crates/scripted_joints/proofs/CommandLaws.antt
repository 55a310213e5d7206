-- What a world makes of a command is what an obeying target may make of it.
use Rattle.std.proofs.Common.{◌≡◌, ℕ, ◌+◌, ◌^◌, Bool, true, false, cond, List, refl, subst, Option, Some}
use Rattle.std.specs.Prelude.{Result, Ok, Err, nat_abs, nat_lt}
use Rattle.std.specs.List.{AllByRecursion}
use Rattle.jdwp_events.specs.declared.kind.EventKind.{EventKind}
use Rattle.jdwp_events.specs.declared.kind.EventKind.TheVariants as kinds
use Rattle.jdwp_events.specs.declared.kind.Policy.{Policy}
use Rattle.jdwp_events.specs.declared.kind.Policy.TheVariants as policies
use Rattle.jdwp_events.specs.declared.modifier.Modifier.{Modifier}
use Rattle.jdwp_commands.specs.declared.answer.Answer.TheVariants as answers
use Rattle.jdwp_commands.specs.declared.asked.Asked.TheVariants as commands
use Rattle.jdwp_commands.specs.declared.asked.Replied.{Replied}
use Rattle.jdwp_commands.specs.declared.asked.Replied.TheVariants.{Answer as an_answer, Error as an_error}
use Rattle.jdwp_commands.specs.declared.effect.Effect.{Effect}
use Rattle.jdwp_commands.specs.declared.effect.Effect.TheVariants as effects
use Rattle.jdwp_commands.specs.declared.question.Question.{Question}
use Rattle.joint_model.specs.Obeying.{Replies, Serves}
use Rattle.world_model.specs.declared.world.World.{World}
use Rattle.world_model.specs.Codes.{not_implemented}
use Rattle.world_model.specs.Effects.{applied, living, same_event, set_where, with_element, with_put}
use Rattle.world_model.specs.Effects.{with_slot}
use Rattle.world_model.specs.Replies.{reply_of}
use Rattle.world_model.specs.Requests.{allowed, free_id, of_none, suspends}
use Rattle.world_model.specs.Storing.{element_stored, field_stored, slot_stored}
use Rattle.world_model.proofs.FilterLaws.{all_left}
use Rattle.world_model.proofs.HoldLaws.{all_push}
use Rattle.world_model.proofs.KeptLaws.{Leaves, leaves, leaves_applied, leaves_installed, leaves_suspended, leaves_with}
use Rattle.scripted_joints.specs.Scripts.{IsQuiet}
use Rattle.scripted_joints.proofs.ErrorNumbers.{IsNumbered, effect_numbers, question_numbers}

-- Served as by an obeying target --------------------------------------------------------------------------------------

replies_so : (w : World) (question : Question) (replied : Replied) → reply_of w question ≡ replied
    → Replies w question replied
replies_so w question (an_answer answer) e = Replies.says e
replies_so w question (an_error code) e = Replies.refuses {usual = code} e (record {
  is_error = subst IsNumbered e (question_numbers w question);
  ended = refl;
  no_thread = λ apart. refl;
})

-- a question
pub serves_question : (w now : World) (question : Question) (replied : Replied)
    → ◌≡◌ {A = Option (World × Replied)} (Some (w, reply_of w question)) (Some (now, replied))
    → Serves w (commands.Question question) replied now
serves_question w now question replied h =
    let same : ◌≡◌ {A = World × Replied} (w, reply_of w question) (now, replied) = cc in
    subst (λ (p : World × Replied). Serves w (commands.Question question) p.1 p.0) same
    (Serves.replies (replies_so w question (reply_of w question) refl))

-- an effect
pub serves_effect : (w now : World) (effect : Effect) (replied : Replied) → applied w effect ≡ Some (now, replied)
    → Serves w (commands.Effect effect) replied now
serves_effect w now effect (an_answer answer) e = Serves.does e
serves_effect w now effect (an_error code) e = Serves.refuses {usual = code} e (record {
  is_error = effect_numbers w now effect (an_error code) e;
  ended = refl;
  no_thread = λ apart. refl;
})

-- Requests for threads that end ---------------------------------------------------------------------------------------

nothing_suspends : (policy : Policy) → suspends policy 0 ≡ true → suspends policy 2 ≡ false
nothing_suspends policies.NoThread h = refl
nothing_suspends policies.EventThread h = absurd cc
nothing_suspends policies.All h = absurd cc

if_allowed : (policy : Policy) (b : Bool) (list : List Modifier) (x : Unit {0})
    → ◌≡◌ {A = Result (Unit {0}) ℕ} (cond b (of_none list) (Err not_implemented)) (Ok x) → b ≡ true
if_allowed policy true list x h = refl
if_allowed policy false list x h = absurd cc

quiet_kind : (w : World) (kind : EventKind) (policy : Policy) (list : List Modifier) (x : Unit {0})
    → allowed w kind policy list ≡ Ok x → same_event kind kinds.ThreadDeath ≡ true → suspends policy 2 ≡ false
quiet_kind w kinds.ThreadDeath policy list x h is =
    nothing_suspends policy (if_allowed policy (suspends policy 0) list x h)
quiet_kind w _ policy list x h is = absurd cc

-- requests that are all quiet behind a command
abbrev AreQuiet : World → Replied → Type 0
AreQuiet now replied = AllByRecursion IsQuiet now.requests

set_quiet : (w : World) (kind : EventKind) (policy : Policy) (list : List Modifier) (found : Result (Unit {0}) ℕ)
    → AllByRecursion IsQuiet w.requests → allowed w kind policy list ≡ found
    → Leaves AreQuiet (set_where w kind policy list found)
set_quiet w kind policy list (Ok x) quiet is = leaves_installed AreQuiet w kind policy list (free_id w)
    (λ n free. all_push IsQuiet w.requests
    (record { request = n; wish_kind = kind; policy = policy; modifiers = list }) quiet
    (quiet_kind w kind policy list x is))
set_quiet w kind policy list (Err code) quiet is = leaves AreQuiet w (an_error code) quiet

living_quiet : (w : World) (effect : Effect) → AllByRecursion IsQuiet w.requests → Leaves AreQuiet (living w effect)
living_quiet w effects.Dispose quiet = leaves AreQuiet _ _ tt
living_quiet w effects.Suspend quiet = leaves_suspended AreQuiet w (nat_lt (w.count + 1) (2 ^ 64)) (λ fits. quiet)
living_quiet w effects.Resume quiet = leaves AreQuiet _ _ quiet
living_quiet w (effects.Exit code) quiet = leaves AreQuiet _ _ quiet
living_quiet w (effects.SetField object field value) quiet =
    leaves_with AreQuiet w (with_put w) answers.SetField (field_stored w object field value) (λ x e. quiet)
    (λ code. quiet)
living_quiet w (effects.SetElement array first value) quiet =
    leaves_with AreQuiet w (with_element w array (nat_abs first)) answers.SetElement
    (element_stored w array first value) (λ x e. quiet) (λ code. quiet)
living_quiet w (effects.Set kind policy list) quiet =
    set_quiet w kind policy list (allowed w kind policy list) quiet refl
living_quiet w (effects.Clear kind request) quiet = leaves AreQuiet _ _ (all_left IsQuiet _ w.requests quiet)
living_quiet w (effects.SetSlot thread frame slot value) quiet =
    leaves_with AreQuiet w (with_slot w thread frame slot) answers.SetSlot (slot_stored w thread frame slot value)
    (λ x e. quiet) (λ code. quiet)

-- they stay so
pub applied_quiet : (w now : World) (effect : Effect) (replied : Replied) → AllByRecursion IsQuiet w.requests
    → applied w effect ≡ Some (now, replied) → AllByRecursion IsQuiet now.requests
applied_quiet w now effect replied quiet e =
    leaves_applied AreQuiet w effect w.dead quiet (living_quiet w effect quiet) now replied e
