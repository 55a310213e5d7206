-- A reply is read alike with all sizes of ids that serve where it comes.
use Rattle.std.proofs.Common.{◌≡◌, ℕ, Bool, true, false, List, [], ◌∷◌, Some, Result, Ok, Err, refl, sym, ap}
use Rattle.std.proofs.Common.{subst, ◌∙◌}
use Rattle.jdwp_commands.specs.Answers.{answer_at}
use Rattle.jdwp_commands.specs.Bodies.{ended, in_body}
use Rattle.jdwp_commands.specs.Items.{FromItems, Item, items_at, part}
use Rattle.jdwp_commands.specs.declared.answer.Answer.TheVariants as variants
use Rattle.jdwp_commands.specs.declared.asked.Asked.{Asked}
use Rattle.jdwp_commands.specs.declared.asked.Asked.TheVariants as commands
use Rattle.jdwp_commands.specs.declared.effect.Effect.TheVariants as effects
use Rattle.jdwp_commands.specs.declared.fault.BodyFault.{BodyFault}
use Rattle.jdwp_commands.specs.declared.question.Question.TheVariants as questions
use Rattle.jdwp_values.specs.Parts.{simple, unsigned}
use Rattle.jdwp_values.specs.Reading.{Place, part_at, placed, simple_at, unsigned_at}
use Rattle.jdwp_values.specs.Rows.{◌>>=◌, in_row}
use Rattle.jdwp_values.specs.declared.fault.RowFault.{RowFault}
use Rattle.jdwp_values.specs.declared.fault.ValueFault.{ValueFault}
use Rattle.jdwp_values.specs.declared.sizes.IdSizes.{IdSizes}
use Rattle.machine_model.specs.Replying.{SizesFor, pending_of, wire}
use Rattle.machine_model.specs.Runs.{Message}
use Rattle.machine_model.specs.State.{is_some}
use Rattle.machine_steps.proofs.StandingReplies.{sizes_is}
use Rattle.pending_table.specs.Windows.{pending_under}
use Rattle.session_model.specs.Names.{Entry, Limits, TargetCommand}
use Rattle.session_model.specs.Session.{Going}
use Rattle.session_model.specs.States.{SessionState}
use Rattle.session_laws.proofs.EarlyLaws.{all_early, early_asked, early_under, is_late, none_late}
use Rattle.session_laws.proofs.PendingLaws.{same_pending}
use Rattle.session_laws.proofs.ReplyLaws.{is_said}
use Rattle.session_laws.proofs.RunLaws.{is_run}
use Rattle.session_laws.proofs.SizeLaws.{one_read}

-- Bodies --------------------------------------------------------------------------------------------------------------

-- a row of unsigned numbers
data OnlyNumbers : List Item → Type 0 where
  no_more : OnlyNumbers []
  a_number : {size : ℕ} {row : List Item} → OnlyNumbers row → OnlyNumbers (part (simple (unsigned size)) ∷ row)

-- where a reader stands in a body, with these sizes
abbrev standing : IdSizes → List ℕ → List ℕ → Place
standing sizes body rest = record { sizes = sizes; body = body; rest = rest }

-- all of a body, once its items were read
abbrev finished : {A : Type 0} → Result (A × Place) RowFault → Result A BodyFault
finished read = in_body read >>= λ x. ended x

-- numbers are read alike with any sizes
same_read : {A : Type 0} {row : List Item} → OnlyNumbers row → (make : FromItems row A) (used other : IdSizes)
    (body rest : List ℕ)
    → finished (items_at row make (standing used body rest)) ≡ finished (items_at row make (standing other body rest))
unfolding part_at simple_at
same_read no_more make used other body rest = refl
same_read {A} (a_number {size} {row} only) make used other body rest =
    by (unsigned_at size rest) (λ x. same_read only (make x.0) used other body x.1)
  where
    from : IdSizes → Result (ℕ × List ℕ) ValueFault → Result (A × Place) RowFault
    from sizes read = in_row (placed (standing sizes body rest) read) >>= λ x. items_at row (make x.0) x.1

    by : (read : Result (ℕ × List ℕ) ValueFault)
        → ((x : ℕ × List ℕ) → finished (items_at row (make x.0) (standing used body x.1))
        ≡ finished (items_at row (make x.0) (standing other body x.1)))
        → finished (from used read) ≡ finished (from other read)
    by (Ok x) again = again x
    by (Err fault) again = refl

sizes_alike : (used other : IdSizes) (body : List ℕ)
    → answer_at used (commands.Question questions.IdSizes) body
    ≡ answer_at other (commands.Question questions.IdSizes) body
unfolding answer_at
sizes_alike used other body =
    same_read (a_number (a_number (a_number (a_number (a_number no_more))))) variants.IdSizes used other body body

early_alike : (asked : Asked) → early_asked asked ≡ true → (used other : IdSizes) (body : List ℕ)
    → answer_at used asked body ≡ answer_at other asked body
unfolding answer_at
early_alike (commands.Question question) is used other body =
    subst (λ question. answer_at used (commands.Question question) body
    ≡ answer_at other (commands.Question question) body) (sym (sizes_is question is)) (sizes_alike used other body)
early_alike (commands.Effect effects.Suspend) is used other body =
    same_read no_more variants.Suspend used other body body
early_alike (commands.Effect effects.Resume) is used other body =
    same_read no_more variants.Resume used other body body
early_alike (commands.Effect effects.Dispose) is used other body =
    same_read no_more variants.Dispose used other body body
early_alike (commands.Effect (effects.Exit code)) is used other body =
    same_read no_more variants.Exit used other body body
early_alike (commands.Effect _) is used other body = cc

-- Sessions ------------------------------------------------------------------------------------------------------------

-- whichever sizes serve, the answer to a pending command is the same
pub read_alike : {limits : Limits} {log : List Entry} {messages : List Message} {turns : ℕ} {s : SessionState}
    → Going limits log messages turns s → (id : ℕ) (command : TargetCommand) (body : List ℕ) (used other : IdSizes)
    → pending_under id s.streams.commands.sent ≡ Some (wire command) → SizesFor s.machine.state.sizes used
    → SizesFor s.machine.state.sizes other → answer_at used (wire command) body ≡ answer_at other (wire command) body
read_alike {s} g id command body used other under serves served = by_sized (is_some s.machine.state.sizes) refl
  where
    by_sized : (sized : Bool) → is_some s.machine.state.sizes ≡ sized
        → answer_at used (wire command) body ≡ answer_at other (wire command) body
    by_sized true is =
        ap (λ sizes. answer_at sizes (wire command) body) (one_read s.machine.state.sizes used other serves served is)
    by_sized false is =
        early_alike (wire command) (early_under id (wire command) s.streams.commands.sent under
        (same_pending is_late (is_run g) (is_said g)
        ∙ none_late (pending_of s.machine) (all_early (is_run g) is))) used other body
