-- An error that a target may reply ends no session.
use Rattle.std.proofs.Common.{◌≡◌, ◌<◌, ℕ, ◌==◌, ◌+◌, ◌^◌, Bool, true, false, cond, Option, refl, sym, ap, subst}
use Rattle.std.proofs.Common.{◌∙◌, arith}
use Rattle.std.specs.Prelude.{nat_lt}
use Rattle.jdwp_commands.specs.declared.asked.Asked.{Asked}
use Rattle.jdwp_commands.specs.declared.asked.Asked.TheVariants as commands
use Rattle.jdwp_commands.specs.declared.asked.Replied.{Replied}
use Rattle.jdwp_commands.specs.declared.asked.Replied.TheVariants.{Error as an_error}
use Rattle.jdwp_commands.specs.declared.effect.Effect.{Effect}
use Rattle.jdwp_commands.specs.declared.effect.Effect.TheVariants as effects
use Rattle.jdwp_commands.specs.declared.question.Question.{Question}
use Rattle.jdwp_commands.specs.declared.question.Question.TheVariants as questions
use Rattle.joint_model.specs.Names.{TargetCommand}
use Rattle.joint_model.specs.Obeying.{Replies, Serves}
use Rattle.machine_model.specs.Replying.{IsReply, is_essential, is_essential_question, wire}
use Rattle.machine_model.specs.State.{SizesRead}
use Rattle.world_model.specs.declared.world.World.{World}
use Rattle.world_model.specs.Codes.{vm_dead}
use Rattle.world_model.specs.Effects.{living, refused}
use Rattle.world_model.specs.Replies.{living_reply}
use Rattle.world_model.proofs.KeptLaws.{Leaves, leaves, leaves_suspended}

-- the commands that no target refuses while it lives
abbrev is_needed : Effect → Bool
is_needed effects.Suspend = true
is_needed effects.Resume = true
is_needed (effects.Clear kind request) = true
is_needed _ = false

abbrev is_needed_asked : Asked → Bool
is_needed_asked (commands.Question question) = is_essential_question question
is_needed_asked (commands.Effect effect) = is_needed effect

abbrev SaysEnd : World → Replied → Type 0
SaysEnd now replied = (code : ℕ) → replied ≡ an_error code → code ≡ vm_dead

living_needs : (w : World) (effect : Effect) → is_needed effect ≡ true → Leaves SaysEnd (living w effect)
living_needs w effects.Suspend is =
    leaves_suspended SaysEnd w (nat_lt (w.count + 1) (2 ^ 64)) (λ fits code same. absurd cc)
living_needs w effects.Resume is = leaves SaysEnd _ _ (λ code same. absurd cc)
living_needs w (effects.Clear kind request) is = leaves SaysEnd _ _ (λ code same. absurd cc)
living_needs w _ is = absurd cc

end_said : (code : ℕ) → ◌≡◌ {A = Replied} (an_error vm_dead) (an_error code) → code ≡ vm_dead
end_said code same = let codes : vm_dead ≡ code = cc in sym codes

applied_needs : (w : World) (effect : Effect) (dead : Bool) → is_needed effect ≡ true
    → Leaves SaysEnd (cond dead (refused w vm_dead) (living w effect))
applied_needs w effect true is = leaves SaysEnd w (an_error vm_dead) end_said
applied_needs w effect false is = living_needs w effect is

-- so too of questions
needs_said : (w : World) (question : Question) (dead : Bool) → is_essential_question question ≡ true
    → SaysEnd w (cond dead (an_error vm_dead) (living_reply w question))
needs_said w question true is = end_said
needs_said w questions.IdSizes false is = λ code same. absurd cc
needs_said w questions.AllClasses false is = λ code same. absurd cc
needs_said w _ false is = absurd cc

-- the number that was chosen says so, too
chosen_end : (usual code : ℕ) → usual ≡ vm_dead → (code == vm_dead) ≡ (usual == vm_dead) → (code == vm_dead) ≡ true
chosen_end usual code is same = same ∙ ap (λ (n : ℕ). n == vm_dead) is

abbrev IsError : Asked → ℕ → Type 0
IsError asked code = (0 < code) × (is_needed_asked asked ≡ true → (code == vm_dead) ≡ true)

-- an error is one, and of what is needed it says the target's end
served_error : {w now : World} {asked : Asked} (replied : Replied) (code : ℕ) → replied ≡ an_error code
    → Serves w asked replied now → IsError asked code
served_error replied code same (Serves.replies (Replies.says said)) = absurd cc
served_error {w} replied code same (Serves.replies {question} (Replies.refuses {usual} {code = other} said may)) =
    let codes : other ≡ code = cc in
    subst (IsError (commands.Question question)) codes (
      may.is_error,
      λ needed. chosen_end usual other (needs_said w question w.dead needed usual said) may.ended,
    )
served_error replied code same (Serves.does is) = absurd cc
served_error replied code same (Serves.installs lives may id free) = absurd cc
served_error {w} {now} replied code same (Serves.refuses {effect} {usual} {code = other} is may) =
    let codes : other ≡ code = cc in
    subst (IsError (commands.Effect effect)) codes (
      may.is_error,
      λ needed. chosen_end usual other (applied_needs w effect w.dead needed now (an_error usual) is usual refl)
          may.ended,
    )

needed_there : (command : TargetCommand) → is_essential command ≡ true → is_needed_asked (wire command) ≡ true
needed_there command is = grind (arith, is)

tolerated : (code : ℕ) (needed : Bool) → (needed ≡ true → (code == vm_dead) ≡ true)
    → cond needed (code == vm_dead) true ≡ true
tolerated code true is = is refl
tolerated code false is = refl

pub errors_taken : (w now : World) (sizes : Option SizesRead) (command : TargetCommand) (code : ℕ)
    → Serves w (wire command) (an_error code) now → IsReply sizes command (an_error code)
errors_taken w now sizes command code serves =
    let error = served_error (an_error code) code refl serves in
    IsReply.with_error error.0
    (tolerated code (is_essential command) (λ needed. error.1 (needed_there command needed)))
