-- The bytes of event kinds and suspend policies (JDWP, Constants, EventKind and SuspendPolicy).
use Rattle.std.specs.Prelude.{ℕ, zero, suc, List, [], ◌∷◌, Option, Some, None, ◌==◌, find}
use Rattle.jdwp_events.specs.declared.kind.EventKind.{EventKind}
use Rattle.jdwp_events.specs.declared.kind.EventKind.TheVariants as kinds
use Rattle.jdwp_events.specs.declared.kind.Policy.{Policy}
use Rattle.jdwp_events.specs.declared.kind.Policy.TheVariants as policies

-- the byte of each policy (JDWP, Constants, SuspendPolicy)
abbrev pub byte_of_policy : Policy → ℕ
byte_of_policy policies.NoThread = 0
byte_of_policy policies.EventThread = 1
byte_of_policy policies.All = 2

-- the policy that has this byte
abbrev pub policy_of_byte : ℕ → Option Policy
policy_of_byte zero = Some policies.NoThread
policy_of_byte (suc zero) = Some policies.EventThread
policy_of_byte (suc (suc zero)) = Some policies.All
policy_of_byte (suc (suc (suc above))) = None

-- the byte of each kind (JDWP, Constants, EventKind)
abbrev pub byte_of_kind : EventKind → ℕ
byte_of_kind kinds.SingleStep = 1
byte_of_kind kinds.Breakpoint = 2
byte_of_kind kinds.Exception = 4
byte_of_kind kinds.ThreadStart = 6
byte_of_kind kinds.ThreadDeath = 7
byte_of_kind kinds.ClassPrepare = 8
byte_of_kind kinds.VMStart = 90
byte_of_kind kinds.VMDeath = 99

-- all kinds
abbrev pub event_kinds : List EventKind
event_kinds = kinds.SingleStep ∷ kinds.Breakpoint ∷ kinds.Exception ∷ kinds.ThreadStart ∷ kinds.ThreadDeath
    ∷ kinds.ClassPrepare ∷ kinds.VMStart ∷ kinds.VMDeath ∷ []

-- the kind that has this byte
abbrev pub kind_of_byte : ℕ → Option EventKind
kind_of_byte byte = find (λ kind. byte_of_kind kind == byte) event_kinds
