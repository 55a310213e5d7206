-- What a served command makes of the suspensions of a target that lives.
use Rattle.std.proofs.Common.{◌≡◌, ◌≤◌, ℕ, ◌+◌, ◌^◌, Bool, true, false, cond}
use Rattle.std.proofs.Common.{refl, sym, ◌∙◌, arith}
use Rattle.std.specs.Prelude.{nat_abs, nat_lt}
use Rattle.jdwp_commands.specs.declared.answer.Answer.TheVariants as answers
use Rattle.jdwp_commands.specs.declared.asked.Asked.{Asked}
use Rattle.jdwp_commands.specs.declared.asked.Asked.TheVariants as commands
use Rattle.jdwp_commands.specs.declared.asked.Replied.{Replied}
use Rattle.jdwp_commands.specs.declared.asked.Replied.TheVariants.{Error as an_error}
use Rattle.jdwp_commands.specs.declared.effect.Effect.{Effect}
use Rattle.jdwp_commands.specs.declared.effect.Effect.TheVariants as effects
use Rattle.joint_model.specs.Obeying.{Serves}
use Rattle.world_model.specs.declared.world.World.{World}
use Rattle.world_model.specs.Codes.{vm_dead}
use Rattle.world_model.specs.Effects.{living, refused, with_element, with_put, with_slot}
use Rattle.world_model.specs.Requests.{allowed}
use Rattle.world_model.specs.Storing.{element_stored, field_stored, slot_stored}
use Rattle.world_model.proofs.KeptLaws.{Leaves, leaves, leaves_set, leaves_suspended, leaves_with}

abbrev pub suspends : Effect → ℕ
suspends effects.Suspend = 1
suspends _ = 0

abbrev pub resumes : Effect → ℕ
resumes effects.Resume = 1
resumes _ = 0

abbrev pub lets_go : Effect → Bool
lets_go effects.Dispose = true
lets_go _ = false

-- the count behind a command, where the target lives on and isn't let go
abbrev Counts : World → Effect → World → Replied → Type 0
Counts w effect now replied = now.dead ≡ false → lets_go effect ≡ false → resumes effect ≤ w.count
    → (w.dead ≡ false) × (now.count + resumes effect ≡ w.count + suspends effect)

living_counts : (w : World) (effect : Effect) → w.dead ≡ false → Leaves (Counts w effect) (living w effect)
living_counts w effects.Dispose lives = leaves (Counts w effects.Dispose) _ _ (λ alive stays enough. absurd cc)
living_counts w effects.Suspend lives =
    leaves_suspended (Counts w effects.Suspend) w (nat_lt (w.count + 1) (2 ^ 64))
    (λ fits alive stays enough. (lives, omega arith))
living_counts w effects.Resume lives =
    leaves (Counts w effects.Resume) _ _ (λ alive stays enough. (lives, omega arith))
living_counts w (effects.Exit code) lives =
    leaves (Counts w (effects.Exit code)) _ _ (λ alive stays enough. absurd cc)
living_counts w (effects.SetField object field value) lives =
    leaves_with (Counts w (effects.SetField object field value)) w (with_put w) answers.SetField
    (field_stored w object field value) (λ x e alive stays enough. (lives, refl))
    (λ code alive stays enough. (lives, refl))
living_counts w (effects.SetElement array first value) lives =
    leaves_with (Counts w (effects.SetElement array first value)) w (with_element w array (nat_abs first))
    answers.SetElement (element_stored w array first value) (λ x e alive stays enough. (lives, refl))
    (λ code alive stays enough. (lives, refl))
living_counts w (effects.Set kind policy modifiers) lives =
    leaves_set (Counts w (effects.Set kind policy modifiers)) w kind policy modifiers (allowed w kind policy modifiers)
    (λ n e alive stays enough. (lives, refl)) (λ code alive stays enough. (lives, refl))
living_counts w (effects.Clear kind request) lives =
    leaves (Counts w (effects.Clear kind request)) _ _ (λ alive stays enough. (lives, refl))
living_counts w (effects.SetSlot thread frame slot value) lives =
    leaves_with (Counts w (effects.SetSlot thread frame slot value)) w (with_slot w thread frame slot) answers.SetSlot
    (slot_stored w thread frame slot value) (λ x e alive stays enough. (lives, refl))
    (λ code alive stays enough. (lives, refl))

applied_counts : (w : World) (effect : Effect) (dead : Bool) → w.dead ≡ dead
    → Leaves (Counts w effect) (cond dead (refused w vm_dead) (living w effect))
applied_counts w effect true is =
    leaves (Counts w effect) w (an_error vm_dead) (λ alive stays enough. let no : true ≡ false = sym is ∙ alive in cc)
applied_counts w effect false is = living_counts w effect is

-- the same of each command
abbrev pub suspends_asked : Asked → ℕ
suspends_asked (commands.Question question) = 0
suspends_asked (commands.Effect effect) = suspends effect

abbrev pub resumes_asked : Asked → ℕ
resumes_asked (commands.Question question) = 0
resumes_asked (commands.Effect effect) = resumes effect

abbrev pub lets_go_asked : Asked → Bool
lets_go_asked (commands.Question question) = false
lets_go_asked (commands.Effect effect) = lets_go effect

pub served_counts : {w now : World} {asked : Asked} {replied : Replied} → Serves w asked replied now
    → now.dead ≡ false → lets_go_asked asked ≡ false → resumes_asked asked ≤ w.count
    → (w.dead ≡ false) × (now.count + resumes_asked asked ≡ w.count + suspends_asked asked)
served_counts (Serves.replies is) alive stays enough = (alive, refl)
served_counts {w} {now} {replied = replied} (Serves.does {effect} is) alive stays enough =
    applied_counts w effect w.dead refl now replied is alive stays enough
served_counts (Serves.installs lives may id free) alive stays enough = (lives, refl)
served_counts {w} {now} (Serves.refuses {effect} {usual} is may) alive stays enough =
    applied_counts w effect w.dead refl now (an_error usual) is alive stays enough

-- a target that lives behind a command has lived before it
abbrev Lives : World → World → Replied → Type 0
Lives w now replied = now.dead ≡ false → w.dead ≡ false

applied_lives : (w : World) (effect : Effect) (dead : Bool) → w.dead ≡ dead
    → Leaves (Lives w) (cond dead (refused w vm_dead) (living w effect))
applied_lives w effect true is = leaves (Lives w) w (an_error vm_dead) (λ alive. alive)
applied_lives w effect false is = λ now replied same alive. is

pub served_lives : {w now : World} {asked : Asked} {replied : Replied} → Serves w asked replied now
    → now.dead ≡ false → w.dead ≡ false
served_lives (Serves.replies is) alive = alive
served_lives {w} {now} {replied = replied} (Serves.does {effect} is) alive =
    applied_lives w effect w.dead refl now replied is alive
served_lives (Serves.installs lives may id free) alive = lives
served_lives {w} {now} (Serves.refuses {effect} {usual} is may) alive =
    applied_lives w effect w.dead refl now (an_error usual) is alive
