-- Why a tap ends, ending by ending.
use Rattle.std.specs.Prelude.{ℕ, ◌≡◌, ◌<◌, ◌⊎◌, true, false, List, [], ◌∷◌, length}
use Rattle.tap_model.specs.Names.{Ask, Done, Entry, Failed, Idle, Left, Limits, NoMemory, Shut, Side, Spent, TapEnding}
use Rattle.tap_model.specs.Names.{TargetGone}
use Rattle.tap_model.specs.Rules.{IsDue, IsEnding}
use Rattle.tap_model.specs.States.{Said, TapState, bytes_of, side_of}
use Rattle.tap_model.specs.Steps.{Step, step}
use Rattle.tap_model.specs.Tapping.{Listens, TapCause, is_whole, link_ending, shut_ending}

-- The causes of each ending. The debugger's stream ends behind whole packets, or the target's once it was let go
-- (done); the debugger's ends before (left); the target's ends, and it wasn't let go (gone); what came, or is due, is
-- wrong; a link fails where the tap waits, or in the middle of what is due; the limit on waits in vain in a row is
-- reached, or that on turns, which comes first.
pub data IsCause (limits : Limits) (asks : List Ask) (turns : ℕ) (s : TapState) : TapEnding → Type 0 where
  debugger_is_done : Listens limits asks turns s → is_whole s.debugger ≡ true → IsCause limits asks turns s Done
  target_was_let_go : Listens limits asks turns s → s.left_by ≡ true → IsCause limits asks turns s Done
  debugger_has_left : Listens limits asks turns s → is_whole s.debugger ≡ false → IsCause limits asks turns s Left
  target_is_gone : Listens limits asks turns s → s.left_by ≡ false → IsCause limits asks turns s TargetGone
  is_wrong : {ending : TapEnding} → IsEnding asks s ending → IsCause limits asks turns s ending
  link_is_lost : (side : Side) → Listens limits asks turns s → IsCause limits asks turns s (link_ending side)
  link_breaks : {what : Said} → IsDue asks s what → 0 < length (bytes_of what)
      → IsCause limits asks turns s (link_ending (side_of what))
  too_quiet : step asks s ≡ Step.waits → turns < limits.turns → s.quiets ≡ limits.quiet
      → IsCause limits asks turns s Idle
  too_long : step asks s ≡ Step.waits → turns ≡ limits.turns → IsCause limits asks turns s Spent

-- A tap that stands here has no other cause than those of the table, and each of them ends it, but for want of memory,
-- which no packet is a cause of.
pub record AreCauses (limits : Limits) (asks : List Ask) (turns : ℕ) (s : TapState) : Type 0 where
  pub only : (ending : TapEnding) (entries : List Entry) (taken : ℕ) → TapCause limits asks turns s ending entries taken
      → IsCause limits asks turns s ending
  pub each : (ending : TapEnding) → IsCause limits asks turns s ending
      → (ending ≡ NoMemory) ⊎ ((entries : List Entry) × (taken : ℕ) × TapCause limits asks turns s ending entries taken)

-- The first cause decides. Where what came is wrong, the tap ends so, and neither says nor waits; in the middle of what
-- is due only the failure of that side's link ends it; and where it waits, what comes decides, or the limits do.
pub record IsDecided (limits : Limits) (asks : List Ask) (turns : ℕ) (s : TapState) : Type 0 where
  pub judged : (first ending : TapEnding) (entries : List Entry) (taken : ℕ) → step asks s ≡ Step.ends first
      → TapCause limits asks turns s ending entries taken → ending ≡ first
  pub speaks : (what : Said) (ending : TapEnding) (entries : List Entry) (taken : ℕ) → step asks s ≡ Step.says what
      → TapCause limits asks turns s ending entries taken → ending ≡ link_ending (side_of what)
  pub shut : (side : Side) (ending : TapEnding) (entries : List Entry) (taken : ℕ) → step asks s ≡ Step.waits
      → entries ≡ Shut side ∷ [] → TapCause limits asks turns s ending entries taken → ending ≡ shut_ending side s
  pub lost : (side : Side) (ending : TapEnding) (entries : List Entry) (taken : ℕ) → step asks s ≡ Step.waits
      → entries ≡ Failed side ∷ [] → TapCause limits asks turns s ending entries taken → ending ≡ link_ending side
  pub limited : (ending : TapEnding) (entries : List Entry) (taken : ℕ) → step asks s ≡ Step.waits → entries ≡ []
      → TapCause limits asks turns s ending entries taken
      → ((ending ≡ Idle) × (turns < limits.turns)) ⊎ ((ending ≡ Spent) × (turns ≡ limits.turns))
