-- The numbers of frames and of containers, in every run (DAP specification, Overview, Lifetime of Objects References;
-- StackTrace, Scopes and Variables requests). The law stands at the end, behind what it speaks of.
use Rattle.std.specs.Prelude.{ℕ, zero, suc, ◌≡◌, ◌≤◌, ◌<◌, ◌+◌, ◌∷◌, ◌++◌, Bool, true, false, List, [], filter, map}
use Rattle.dap_messages.specs.declared.told.Outcome.{Outcome as OutcomeTold}
use Rattle.dap_messages.specs.declared.told.Outcome.TheVariants as outcomes
use Rattle.dap_messages.specs.declared.told.Shape.{Shape}
use Rattle.dap_messages.specs.declared.told.Shape.TheVariants as shapes
use Rattle.dap_messages.specs.declared.told.StackFrame.{StackFrame}
use Rattle.dap_messages.specs.declared.told.Variable.{Variable}
use Rattle.machine_model.specs.Names.{Does, Resume, Told, a_response, an_effect, an_event, of_stop}
use Rattle.machine_model.specs.Runs.{Message, Run}
use Rattle.machine_model.specs.State.{Machine}

abbrev pub frame_number : StackFrame → ℕ
frame_number frame = frame.id

-- of a value that is no container it is 0 (DAP specification, Types, Variable, variablesReference)
abbrev pub variable_number : Variable → ℕ
variable_number variable = variable.reference

abbrev pub not_zero : ℕ → Bool
not_zero zero = false
not_zero (suc number) = true

-- the numbers of frames and of containers in a body
abbrev pub references_in_shape : Shape → List ℕ
references_in_shape (shapes.StackFrames frames total) = map frame_number frames
references_in_shape (shapes.Scopes reference) = reference ∷ []
references_in_shape (shapes.Variables variables) = filter not_zero (map variable_number variables)
references_in_shape (shapes.Evaluated value) = filter not_zero (value.reference ∷ [])
references_in_shape _ = []

abbrev pub references_in_outcome : OutcomeTold → List ℕ
references_in_outcome (outcomes.Success shape) = references_in_shape shape
references_in_outcome (outcomes.Failure failure) = []

abbrev pub references_in : Told → List ℕ
references_in (a_response response) = references_in_outcome response.outcome
references_in (an_event event) = []

abbrev pub references_by : Message → List ℕ
references_by (Message.tells told) = references_in told
references_by _ = []

-- the stop in hand is over by it (JDWP, VirtualMachine command set, Resume)
abbrev pub ends_stop : Message → Bool
ends_stop (Message.sends (an_effect (Does (Resume of_stop)))) = true
ends_stop _ = false

-- These numbers are told in a stop, whose first number is this, where the next number is known: one that was told in the
-- stop is told again, or a new one gets the next number. The next number behind them is known.
pub data AreNumbered (first : ℕ) : ℕ → List ℕ → ℕ → Type 0 where
  none : {next : ℕ} → AreNumbered first next [] next
  again : {next last number : ℕ} {numbers : List ℕ} → first ≤ number → number < next
      → AreNumbered first next numbers last → AreNumbered first next (number ∷ numbers) last
  one_new : {next last : ℕ} {numbers : List ℕ} → AreNumbered first (next + 1) numbers last
      → AreNumbered first next (next ∷ numbers) last

-- By these messages the stop in hand has this first number, or the next one would have it, and this is the next number. A
-- stop is over with the Resume that ends it; with its target it may be over before.
pub data ReferencesAre : List Message → ℕ → ℕ → Type 0 where
  none : ReferencesAre [] 1 1
  shown : {messages : List Message} {first next last : ℕ} (message : Message) → ends_stop message ≡ false
      → AreNumbered first next (references_by message) last → ReferencesAre messages first next
      → ReferencesAre (messages ++ message ∷ []) first last
  resumed : {messages : List Message} {first next : ℕ} (message : Message) → ends_stop message ≡ true
      → ReferencesAre messages first next → ReferencesAre (messages ++ message ∷ []) next next
  lost : {messages : List Message} {first next : ℕ} → ReferencesAre messages first next → ReferencesAre messages next next

-- which they are
pub record HaveReferences (messages : List Message) : Type 0 where
  pub first : ℕ
  pub next : ℕ
  pub are : ReferencesAre messages first next

-- Frames and containers are numbered 1, 2, 3 as they are first told in a stop; a number is told again in its stop alone.
abbrev pub NumbersReferences : Type 0
NumbersReferences = (messages : List Message) (m : Machine) → Run messages m → HaveReferences messages
