use Rattle.std.proofs.Common.{◌≡◌, ℕ, List, refl, subst, ne_eqb}
use Rattle.run_outcomes.specs.Lines.{Prints, unprinted_status}
use Rattle.wire_core.specs.Output.{Printed, FailsToWrite}
use Rattle.run_outcomes.proofs.printing.print.Goals as goal

memory_stays : (old new : Printed) (text : List ℕ) (status : ℕ) → FailsToWrite old new text → status ≡ 70
    → Prints old new text status status
memory_stays old new text status failed is =
    let same : unprinted_status status ≡ status = rw is refl in
    let printed : Prints old new text status (unprinted_status status) = Prints.fails failed in
    subst (λ s. Prints old new text status s) same printed

others_change : (old new : Printed) (text : List ℕ) (status : ℕ) → FailsToWrite old new text → (status ≡ 70 → ⊥)
    → Prints old new text status 9
others_change old new text status failed other =
    let same : unprinted_status status ≡ 9 = rw (ne_eqb status 70 other) refl in
    let printed : Prints old new text status (unprinted_status status) = Prints.fails failed in
    subst (λ s. Prints old new text status s) same printed

pub returns-in-Ok : goal.returns-in-Ok
returns-in-Ok g c = Prints.prints c.in-Ok.ensures.writes

pub returns-in-Err-NoMemory : goal.returns-in-Err-NoMemory
returns-in-Err-NoMemory g c = Prints.forgets (rw c.in-Err-NoMemory.field-0-is at c.in-Err-NoMemory.ensures.writes)

pub returns-then-status-eq-OUT_OF_MEMORY : goal.returns-then-status-eq-OUT_OF_MEMORY
returns-then-status-eq-OUT_OF_MEMORY g c =
    memory_stays _ _ _ _ (rw c.in-Err-Failed.field-0-is at c.in-Err-Failed.ensures.writes)
    c.if-status-eq-OUT_OF_MEMORY.true

pub returns-else-status-eq-OUT_OF_MEMORY : goal.returns-else-status-eq-OUT_OF_MEMORY
returns-else-status-eq-OUT_OF_MEMORY g c =
    others_change _ _ _ _ (rw c.in-Err-Failed.field-0-is at c.in-Err-Failed.ensures.writes)
    c.if-status-eq-OUT_OF_MEMORY.false
