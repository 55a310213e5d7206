use Rattle.std.proofs.Common.{◌≡◌, ℕ, ◌+◌, ◌^◌, Bool, true, false, List, refl, ap, subst, cond, Option, Some}
use Rattle.std.proofs.Common.{None}
use Rattle.std.specs.Prelude.{nat_abs, nat_lt, Result, Ok, Err}
use Rattle.jdwp_events.specs.declared.kind.EventKind.{EventKind}
use Rattle.jdwp_events.specs.declared.kind.Policy.{Policy}
use Rattle.jdwp_events.specs.declared.modifier.Modifier.{Modifier}
use Rattle.jdwp_commands.specs.declared.answer.Answer.{Answer}
use Rattle.jdwp_commands.specs.declared.answer.Answer.TheVariants as answers
use Rattle.jdwp_commands.specs.declared.asked.Replied.{Replied}
use Rattle.jdwp_commands.specs.declared.asked.Replied.TheVariants as replies
use Rattle.jdwp_commands.specs.declared.effect.Effect.{Effect}
use Rattle.jdwp_commands.specs.declared.effect.Effect.TheVariants as effects
use Rattle.jdwp_commands.specs.declared.question.Question.{Question}
use Rattle.world_model.specs.declared.world.World.{World}
use Rattle.world_model.specs.Codes.{vm_dead}
use Rattle.world_model.specs.Effects.{Outcome, done, refused, done_with, installed, set_where}
use Rattle.world_model.specs.Effects.{living}
use Rattle.world_model.specs.Effects.{applied, with_request, with_put, with_element, with_slot}
use Rattle.world_model.specs.Kept.{program_of, values_of, puts_values}
use Rattle.world_model.specs.Replies.{living_reply, reply_of}
use Rattle.world_model.specs.Requests.{allowed, free_id}
use Rattle.world_model.specs.Storing.{field_stored, element_stored, slot_stored}

-- An outcome that leaves a world of which something holds, if it leaves one.
abbrev pub Leaves : (World → Replied → Type 0) → Outcome → Type 0
Leaves holds outcome = (now : World) (replied : Replied) → outcome ≡ Some (now, replied) → holds now replied

module _ (holds : World → Replied → Type 0) where
  pub leaves : (then : World) (told : Replied) → holds then told → Leaves holds (Some (then, told))
  leaves then told is now replied h =
      let same : ◌≡◌ {A = World × Replied} (then, told) (now, replied) = cc in
      subst (λ p. holds p.0 p.1) same is

  pub leaves_none : Leaves holds None
  leaves_none now replied h = absurd cc

  pub leaves_with : {A : Type 0} (w : World) (change : A → World) (answer : Answer) (found : Result A ℕ)
      → ((x : A) → found ≡ Ok x → holds (change x) (replies.Answer answer))
      → ((code : ℕ) → holds w (replies.Error code))
      → Leaves holds (done_with w change answer found)
  leaves_with w change answer (Ok x) changed stays = leaves (change x) (replies.Answer answer) (changed x refl)
  leaves_with w change answer (Err code) changed stays = leaves w (replies.Error code) (stays code)

  pub leaves_suspended : (w : World) (fits : Bool)
      → (fits ≡ true → holds (record w { count = w.count + 1 }) (replies.Answer answers.Suspend))
      → Leaves holds (cond fits (done (record w { count = w.count + 1 }) answers.Suspend) None)
  leaves_suspended w true is = leaves (record w { count = w.count + 1 }) (replies.Answer answers.Suspend) (is refl)
  leaves_suspended w false is = leaves_none

  pub leaves_installed : (w : World) (kind : EventKind) (policy : Policy) (modifiers : List Modifier) (id : Option ℕ)
      → ((n : ℕ) → id ≡ Some n → holds (with_request w kind policy modifiers n) (replies.Answer (answers.Set n)))
      → Leaves holds (installed w kind policy modifiers id)
  leaves_installed w kind policy modifiers None is = leaves_none
  leaves_installed w kind policy modifiers (Some n) is =
      leaves (with_request w kind policy modifiers n) (replies.Answer (answers.Set n)) (is n refl)

  pub leaves_set : (w : World) (kind : EventKind) (policy : Policy) (modifiers : List Modifier)
      (found : Result (Unit {0}) ℕ)
      → ((n : ℕ) → free_id w ≡ Some n → holds (with_request w kind policy modifiers n) (replies.Answer (answers.Set n)))
      → ((code : ℕ) → holds w (replies.Error code))
      → Leaves holds (set_where w kind policy modifiers found)
  leaves_set w kind policy modifiers (Ok x) is stays = leaves_installed w kind policy modifiers (free_id w) is
  leaves_set w kind policy modifiers (Err code) is stays = leaves w (replies.Error code) (stays code)

  pub leaves_applied : (w : World) (effect : Effect) (dead : Bool) → holds w (replies.Error vm_dead)
      → Leaves holds (living w effect) → Leaves holds (cond dead (refused w vm_dead) (living w effect))
  leaves_applied w effect true stays lives = leaves w (replies.Error vm_dead) stays
  leaves_applied w effect false stays lives = lives

-- Refusals -----------------------------------------------------------------------------------------------------------

abbrev pub StaysIfRefused : World → World → Replied → Type 0
StaysIfRefused w now (replies.Error code) = now ≡ w
StaysIfRefused w now (replies.Answer answer) = Unit {0}

pub living_refusals : (w : World) (effect : Effect) → Leaves (StaysIfRefused w) (living w effect)
living_refusals w effects.Dispose = leaves (StaysIfRefused w) _ _ tt
living_refusals w effects.Suspend = leaves_suspended (StaysIfRefused w) w (nat_lt (w.count + 1) (2 ^ 64)) (λ e. tt)
living_refusals w effects.Resume = leaves (StaysIfRefused w) _ _ tt
living_refusals w (effects.Exit code) = leaves (StaysIfRefused w) _ _ tt
living_refusals w (effects.SetField object field value) =
    leaves_with (StaysIfRefused w) w (with_put w) answers.SetField (field_stored w object field value) (λ x e. tt)
    (λ code. refl)
living_refusals w (effects.SetElement array first value) =
    leaves_with (StaysIfRefused w) w (with_element w array (nat_abs first)) answers.SetElement
    (element_stored w array first value) (λ x e. tt) (λ code. refl)
living_refusals w (effects.Set kind policy modifiers) =
    leaves_set (StaysIfRefused w) w kind policy modifiers (allowed w kind policy modifiers) (λ n e. tt) (λ code. refl)
living_refusals w (effects.Clear kind request) = leaves (StaysIfRefused w) _ _ tt
living_refusals w (effects.SetSlot thread frame slot value) =
    leaves_with (StaysIfRefused w) w (with_slot w thread frame slot) answers.SetSlot
    (slot_stored w thread frame slot value) (λ x e. tt) (λ code. refl)

pub refusals : (w : World) (effect : Effect) → Leaves (StaysIfRefused w) (applied w effect)
refusals w effect = leaves_applied (StaysIfRefused w) w effect w.dead refl (living_refusals w effect)

-- The program --------------------------------------------------------------------------------------------------------

abbrev pub KeepsProgram : World → World → Replied → Type 0
KeepsProgram w now replied = program_of now ≡ program_of w

pub living_program : (w : World) (effect : Effect) → Leaves (KeepsProgram w) (living w effect)
living_program w effects.Dispose = leaves (KeepsProgram w) _ _ refl
living_program w effects.Suspend = leaves_suspended (KeepsProgram w) w (nat_lt (w.count + 1) (2 ^ 64)) (λ e. refl)
living_program w effects.Resume = leaves (KeepsProgram w) _ _ refl
living_program w (effects.Exit code) = leaves (KeepsProgram w) _ _ refl
living_program w (effects.SetField object field value) =
    leaves_with (KeepsProgram w) w (with_put w) answers.SetField (field_stored w object field value) (λ x e. refl)
    (λ code. refl)
living_program w (effects.SetElement array first value) =
    leaves_with (KeepsProgram w) w (with_element w array (nat_abs first)) answers.SetElement
    (element_stored w array first value) (λ x e. refl) (λ code. refl)
living_program w (effects.Set kind policy modifiers) =
    leaves_set (KeepsProgram w) w kind policy modifiers (allowed w kind policy modifiers) (λ n e. refl) (λ code. refl)
living_program w (effects.Clear kind request) = leaves (KeepsProgram w) _ _ refl
living_program w (effects.SetSlot thread frame slot value) =
    leaves_with (KeepsProgram w) w (with_slot w thread frame slot) answers.SetSlot
    (slot_stored w thread frame slot value) (λ x e. refl) (λ code. refl)

pub programs : (w : World) (effect : Effect) → Leaves (KeepsProgram w) (applied w effect)
programs w effect = leaves_applied (KeepsProgram w) w effect w.dead refl (living_program w effect)

-- The values ---------------------------------------------------------------------------------------------------------

abbrev pub KeepsValues : World → World → Replied → Type 0
KeepsValues w now replied = values_of now ≡ values_of w

pub living_values : (w : World) (effect : Effect) → puts_values effect ≡ false
    → Leaves (KeepsValues w) (living w effect)
living_values w effects.Dispose apart = leaves (KeepsValues w) _ _ refl
living_values w effects.Suspend apart = leaves_suspended (KeepsValues w) w (nat_lt (w.count + 1) (2 ^ 64)) (λ e. refl)
living_values w effects.Resume apart = leaves (KeepsValues w) _ _ refl
living_values w (effects.Exit code) apart = leaves (KeepsValues w) _ _ refl
living_values w (effects.SetField object field value) apart = absurd cc
living_values w (effects.SetElement array first value) apart = absurd cc
living_values w (effects.Set kind policy modifiers) apart =
    leaves_set (KeepsValues w) w kind policy modifiers (allowed w kind policy modifiers) (λ n e. refl) (λ code. refl)
living_values w (effects.Clear kind request) apart = leaves (KeepsValues w) _ _ refl
living_values w (effects.SetSlot thread frame slot value) apart = absurd cc

pub values : (w : World) (effect : Effect) → puts_values effect ≡ false → Leaves (KeepsValues w) (applied w effect)
values w effect apart = leaves_applied (KeepsValues w) w effect w.dead refl (living_values w effect apart)

-- The end ------------------------------------------------------------------------------------------------------------

pub replies_of_dead : (w : World) (question : Question) → w.dead ≡ true → reply_of w question ≡ replies.Error vm_dead
replies_of_dead w question dead = ap (λ b. cond b (replies.Error vm_dead) (living_reply w question)) dead

pub dead_stays : (w : World) (effect : Effect) → w.dead ≡ true → applied w effect ≡ Some (w, replies.Error vm_dead)
dead_stays w effect dead = ap (λ b. cond b (refused w vm_dead) (living w effect)) dead
