-- What is due is what waits first.
use Rattle.std.proofs.Common.{◌≡◌, List, refl, sym, subst}
use Rattle.tap_core.specs.Names.{Next}
use Rattle.tap_core.specs.Saying.{Decides, Means, said_next}
use Rattle.tap_core.specs.Names.{Ask}
use Rattle.tap_model.specs.Rules.{AllSaid, IsDue, Rule}
use Rattle.tap_model.specs.States.{Said, TapState}
use Rattle.tap_model.specs.Steps.{Step, due}
use Rattle.tap_model.proofs.RuleLaws.{due_by}

means : (asks : List Ask) (s : TapState) {what : Said} → IsDue asks s what → Means asks s (said_next what) what
means asks s (IsDue.target_greeted none) = refl
means asks s (IsDue.debugger_greeted target both) = refl
means asks s (IsDue.asks_sizes greeted target unasked) = refl
means asks s (IsDue.passes {command} {others} joined first free) = (command, others, first, refl)
means asks s (IsDue.hands_on {bytes} {others} joined none told first) = (bytes, others, first, refl)
means asks s (IsDue.asks_question {sizes} {n} {left} {ask} joined none packet known first there free) =
    (sizes, n, left, ask, known, first, there, refl)

pub meant : (asks : List Ask) (s : TapState) (what : Said) (next : Next) → due asks s ≡ Step.says what
    → Decides (Step.says what) next → Means asks s next what
meant asks s what next is decides =
    subst (λ (n : Next). Means asks s n what) (sym decides)
    (means asks s (subst (Rule asks s (AllSaid asks s)) is (due_by asks s)))
