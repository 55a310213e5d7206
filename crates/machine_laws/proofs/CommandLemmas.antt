-- Two wishes have two commands (JDWP, EventRequest command set, Set).
use Rattle.std.proofs.Common.{◌≡◌, ℕ, Bool, List, [], ◌∷◌, ◌++◌, length, take, refl, sym, ap, ◌∙◌, arith, length-append}
use Rattle.std.specs.Prelude.{ℤ, pos, negsuc, ◌==◌, ◌-◌, if◌then◌else◌, codes}
use Rattle.std.proofs.Math.Seq.{take-append_seam}
use Rattle.jdwp_commands.specs.declared.effect.Effect.{Effect as WireEffect}
use Rattle.jdwp_commands.specs.declared.effect.Effect.TheVariants as effects
use Rattle.jdwp_events.specs.declared.kind.EventKind.{EventKind}
use Rattle.jdwp_events.specs.declared.kind.EventKind.TheVariants as kinds
use Rattle.jdwp_events.specs.declared.modifier.Modifier.{Modifier}
use Rattle.jdwp_events.specs.declared.modifier.Modifier.TheVariants as modifiers
use Rattle.machine_model.specs.Requests.{set_of}
use Rattle.wish_sets.specs.Order.{bit, number_of_depth}
use Rattle.wish_sets.specs.Requests.{package_pattern}
use Rattle.wish_sets.specs.declared.wish.Depth.{Depth}
use Rattle.wish_sets.specs.declared.wish.Depth.TheVariants.{Into, Over, Out}
use Rattle.wish_sets.specs.declared.wish.Wish.{Wish}
use Rattle.wish_sets.specs.declared.wish.Wish.TheVariants as wishes

-- a command, read back
abbrev path_in : List ℕ → List ℕ
path_in pattern = take (length pattern - 2) pattern

abbrev depth_in : ℤ → Depth
depth_in (pos n) = if n == 0 then Into else (if n == 1 then Over else Out)
depth_in (negsuc n) = Into

abbrev thread_wish : EventKind → Wish
thread_wish kinds.ThreadDeath = wishes.ThreadDeath
thread_wish _ = wishes.ThreadStart

abbrev wish_by : Modifier → Wish
wish_by (modifiers.ClassMatch pattern) = wishes.Watch (path_in pattern)
wish_by (modifiers.LocationOnly at) = wishes.Stop at
wish_by (modifiers.ExceptionOnly class caught uncaught) = wishes.Thrown (caught == 1) (uncaught == 1)
wish_by (modifiers.Step thread size depth) = wishes.Step thread (depth_in depth)
wish_by _ = wishes.ThreadStart

abbrev wish_in : EventKind → List Modifier → Wish
wish_in kind [] = thread_wish kind
wish_in kind (modifier ∷ others) = wish_by modifier

abbrev wish_of : WireEffect → Wish
wish_of (effects.Set kind policy those) = wish_in kind those
wish_of _ = wishes.ThreadStart

path_back : (path : List ℕ) → path_in (package_pattern path) ≡ path
path_back [] = refl
path_back (byte ∷ bytes) =
    ap (λ (n : ℕ). take n ((byte ∷ bytes) ++ codes ".*")) (ends (byte ∷ bytes))
    ∙ take-append_seam (byte ∷ bytes) (codes ".*")
  where
    ends : (path : List ℕ) → length (path ++ codes ".*") - 2 ≡ length path
    ends path = rw (length-append path (codes ".*")) (omega arith)

flag_back : (flag : Bool) → (bit flag == 1) ≡ flag
flag_back flag = grind arith

depth_back : (depth : Depth) → depth_in (pos (number_of_depth depth)) ≡ depth
depth_back depth = grind arith

wish_back : (wish : Wish) → wish_of (set_of wish) ≡ wish
wish_back (wishes.Watch path) = ap wishes.Watch (path_back path)
wish_back (wishes.Thrown caught uncaught) =
    ap (λ (flag : Bool). wishes.Thrown flag (bit uncaught == 1)) (flag_back caught)
    ∙ ap (wishes.Thrown caught) (flag_back uncaught)
wish_back (wishes.Step thread depth) = ap (wishes.Step thread) (depth_back depth)
wish_back _ = refl

-- the command of a wish is its own
pub one_command : (a b : Wish) → set_of a ≡ set_of b → a ≡ b
one_command a b same = sym (wish_back a) ∙ ap wish_of same ∙ wish_back b
