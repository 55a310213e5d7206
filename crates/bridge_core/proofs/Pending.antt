-- Words for proofs: where a command that is pending stands, in the window and in the machine.
use Rattle.std.specs.Prelude.{ℕ, ◌≡◌, ◌==◌, ◌∷◌, ◌++◌, Bool, true, List, [], length, None, Some}
use Rattle.std.specs.List.{position_or_len, remove}
use Rattle.bridge_core.specs.Aligning.{Aligned}
use Rattle.bridge_core.specs.Names.{Act, Asked, Effect, Question, Replied, TargetCommand, WireEffect, a_question}
use Rattle.bridge_core.specs.Names.{an_effect}
use Rattle.jdwp_commands.specs.declared.asked.Asked.TheVariants as commands
use Rattle.machine_model.specs.Replying.{answered, is_waiting, wire}
use Rattle.machine_model.specs.State.{Hand, Machine}
use Rattle.pending_table.specs.Windows.{without}

-- the command of an id
abbrev pub has_id : ℕ → ℕ × Asked → Bool
has_id id s = s.0 == id

-- the place of an id in a window
abbrev pub place_under : ℕ → List (ℕ × Asked) → ℕ
place_under id sent = position_or_len (has_id id) sent

-- the commands that an act sends
abbrev pub sent_by : Act → List TargetCommand
sent_by Act.Waits = []
sent_by Act.Goes = []
sent_by (Act.Tells told) = []
sent_by Act.Greets = []
sent_by (Act.Sends effect) = an_effect effect ∷ []
sent_by (Act.Asks question) = a_question question ∷ []
sent_by (Act.Over finish) = []

-- the question waits for its reply in the item in hand; once it is replied to, the window without it is the machine's
pub record IsQuestion (id : ℕ) (question : Question) (sent : List (ℕ × Asked)) (m : Machine)
    (hand : Hand) : Type 0 where
  pub waits : is_waiting question hand.asked ≡ true
  pub aligned : (replied : Replied) → Aligned (without id sent) (answered m (a_question question) replied)

-- the effect is the one in flight; once it is replied to, the window without it is the machine's
pub record IsEffect (id : ℕ) (effect : WireEffect) (sent : List (ℕ × Asked)) (m : Machine) (hand : Hand) : Type 0 where
  pub of : Effect
  pub flies : hand.effect ≡ Some (record { effect = of; reply = None })
  pub is_sent : wire (an_effect of) ≡ commands.Effect effect
  pub aligned : (replied : Replied) → Aligned (without id sent) (answered m (an_effect of) replied)

-- The command was left without a reply at the target's end, and stands among those at the place of its id in the
-- window; without it, both stand by one another again.
pub record IsLate (id : ℕ) (asked : Asked) (sent : List (ℕ × Asked)) (m : Machine) : Type 0 where
  pub before : List TargetCommand
  pub command : TargetCommand
  pub after : List TargetCommand
  pub late_is : m.late ≡ before ++ command ∷ after
  pub is_sent : wire command ≡ asked
  pub place : length before ≡ place_under id sent
  pub removed : before ++ after ≡ remove m.late (place_under id sent)
  pub aligned : Aligned (without id sent) (record m { late = before ++ after })
