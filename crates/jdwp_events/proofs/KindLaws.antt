-- A byte is the byte of the kind, the modifier or the policy that it stands for.
use Rattle.std.proofs.Common.{◌≡◌, ℕ, zero, suc, ◌<◌, ◌^◌, Some, refl, subst, arith, ◌==◌}
use Rattle.std.proofs.lemmas.Bool.{eqb-true}
use Rattle.jdwp_values.proofs.PartLaws.{found_passes, some_is}
use Rattle.jdwp_events.specs.declared.kind.EventKind.{EventKind}
use Rattle.jdwp_events.specs.declared.kind.EventKind.TheVariants as kinds
use Rattle.jdwp_events.specs.declared.kind.Policy.{Policy}
use Rattle.jdwp_events.specs.declared.kind.Policy.TheVariants as policies
use Rattle.jdwp_events.specs.declared.modifier.ModifierKind.{ModifierKind}
use Rattle.jdwp_events.specs.declared.modifier.ModifierKind.TheVariants as modifiers
use Rattle.jdwp_events.specs.Kinds.{byte_of_policy, policy_of_byte, byte_of_kind, event_kinds, kind_of_byte}
use Rattle.jdwp_events.specs.Modifiers.{byte_of_modifier, modifier_kinds, modifier_of_byte}

pub kind_back : (n : ℕ) (kind : EventKind) → kind_of_byte n ≡ Some kind → byte_of_kind kind ≡ n
kind_back n kind e = eqb-true _ _ (found_passes (λ k. byte_of_kind k == n) event_kinds kind e)

pub kind_of-byte : (kind : EventKind) → kind_of_byte (byte_of_kind kind) ≡ Some kind
kind_of-byte kinds.SingleStep = refl
kind_of-byte kinds.Breakpoint = refl
kind_of-byte kinds.Exception = refl
kind_of-byte kinds.ThreadStart = refl
kind_of-byte kinds.ThreadDeath = refl
kind_of-byte kinds.ClassPrepare = refl
kind_of-byte kinds.VMStart = refl
kind_of-byte kinds.VMDeath = refl

pub kind_small : (kind : EventKind) → byte_of_kind kind < 256 ^ 1
kind_small kinds.SingleStep = omega arith
kind_small kinds.Breakpoint = omega arith
kind_small kinds.Exception = omega arith
kind_small kinds.ThreadStart = omega arith
kind_small kinds.ThreadDeath = omega arith
kind_small kinds.ClassPrepare = omega arith
kind_small kinds.VMStart = omega arith
kind_small kinds.VMDeath = omega arith

pub modifier_back : (n : ℕ) (kind : ModifierKind) → modifier_of_byte n ≡ Some kind → byte_of_modifier kind ≡ n
modifier_back n kind e = eqb-true _ _ (found_passes (λ k. byte_of_modifier k == n) modifier_kinds kind e)

pub modifier_of-byte : (kind : ModifierKind) → modifier_of_byte (byte_of_modifier kind) ≡ Some kind
modifier_of-byte modifiers.Count = refl
modifier_of-byte modifiers.ThreadOnly = refl
modifier_of-byte modifiers.ClassOnly = refl
modifier_of-byte modifiers.ClassMatch = refl
modifier_of-byte modifiers.ClassExclude = refl
modifier_of-byte modifiers.LocationOnly = refl
modifier_of-byte modifiers.ExceptionOnly = refl
modifier_of-byte modifiers.Step = refl

pub modifier_small : (kind : ModifierKind) → byte_of_modifier kind < 256 ^ 1
modifier_small modifiers.Count = omega arith
modifier_small modifiers.ThreadOnly = omega arith
modifier_small modifiers.ClassOnly = omega arith
modifier_small modifiers.ClassMatch = omega arith
modifier_small modifiers.ClassExclude = omega arith
modifier_small modifiers.LocationOnly = omega arith
modifier_small modifiers.ExceptionOnly = omega arith
modifier_small modifiers.Step = omega arith

pub policy_back : (n : ℕ) (policy : Policy) → policy_of_byte n ≡ Some policy → byte_of_policy policy ≡ n
policy_back zero policy e = subst (λ (p : Policy). byte_of_policy p ≡ 0) (some_is policies.NoThread policy e) refl
policy_back (suc zero) policy e =
    subst (λ (p : Policy). byte_of_policy p ≡ 1) (some_is policies.EventThread policy e) refl
policy_back (suc (suc zero)) policy e =
    subst (λ (p : Policy). byte_of_policy p ≡ 2) (some_is policies.All policy e) refl
policy_back (suc (suc (suc n))) policy e = absurd cc

pub policy_of-byte : (policy : Policy) → policy_of_byte (byte_of_policy policy) ≡ Some policy
policy_of-byte policies.NoThread = refl
policy_of-byte policies.EventThread = refl
policy_of-byte policies.All = refl

pub policy_small : (policy : Policy) → byte_of_policy policy < 256 ^ 1
policy_small policies.NoThread = omega arith
policy_small policies.EventThread = omega arith
policy_small policies.All = omega arith
