-- What the parts of a play come to.
use Rattle.std.proofs.Common.{◌≡◌, ℕ, ◌<◌, ◌≤◌, Bool, cond, List, [], ◌∷◌, length, take, drop, refl, sym, ap}
use Rattle.std.proofs.Common.{subst, ◌∙◌, arith, Option, None, Some}
use Rattle.std.proofs.lemmas.List.{length-take}
use Rattle.wire_core.specs.declared.outside.Side.{Side}
use Rattle.wire_core.specs.declared.outside.Side.TheVariants.{Client, Target}
use Rattle.wire_core.specs.declared.outside.Entry.{Entry}
use Rattle.wire_core.specs.declared.outside.Entry.TheVariants.{Shut as ends}
use Rattle.target_server.specs.declared.trouble.TargetTrouble.{TargetTrouble}
use Rattle.target_server.specs.Hearing.{TargetState, FeedsUpTo}
use Rattle.script_rows.specs.declared.script.Turn.{Turn}
use Rattle.script_rows.specs.declared.script.Turn.TheVariants as lines
use Rattle.script_wires.specs.Played.{Takes, TakesIn}
use Rattle.script_wires.specs.Playing.{Playing, is_open, coming, come, heard, with_lines}
use Rattle.script_wires.specs.Schedules.{ServesIf, MovesIf, Works, IsIdle, Gives, GivesFirst, IsStill, Settles, DoesLine}
use Rattle.script_wires.specs.Schedules.{Does, Steps}

-- What the target takes ------------------------------------------------------------------------------------------------

-- where it takes any, it takes all up to a trouble
abbrev pub MayFeed : TargetState → List ℕ → TargetState → TargetTrouble → Type 0
MayFeed old bytes new trouble = old.trouble ≡ None → FeedsUpTo old bytes trouble new

takes_by : (old new : TargetState) (bytes : List ℕ) (trouble : TargetTrouble) (before : Option TargetTrouble)
    → old.trouble ≡ before → MayFeed old bytes new trouble
    → ((other : TargetTrouble) → old.trouble ≡ Some other → new ≡ old) → Takes old bytes new
takes_by old new bytes trouble None is feeds again = Takes.some trouble is (feeds is)
takes_by old new bytes trouble (Some other) is feeds again = Takes.none other is (again other is)

pub takes_in : (old : Playing) (new : TargetState) (bytes : List ℕ) (trouble : TargetTrouble)
    → MayFeed old.target bytes new trouble
    → ((other : TargetTrouble) → old.target.trouble ≡ Some other → new ≡ old.target)
    → TakesIn old bytes (record old { target = new })
takes_in old new bytes trouble feeds again =
    record { takes = takes_by old.target new bytes trouble old.target.trouble refl feeds again; others = refl }

-- Bytes that come ------------------------------------------------------------------------------------------------------

pub few_by : (bytes : List ℕ) (n : ℕ) → n ≡ length (take 65536 bytes) → n ≤ 65536
few_by bytes n is =
    let e = length-take 65536 bytes in
    omega (arith, e, is)

some_by : (bytes : List ℕ) (n : ℕ) → n ≡ length (take 65536 bytes) → 0 < n → 0 < length bytes
some_by bytes n is some =
    let e = length-take 65536 bytes in
    omega (arith, e, is, some)

none_by : (bytes : List ℕ) (n : ℕ) → n ≡ length (take 65536 bytes) → n ≤ 0 → bytes ≡ []
none_by [] n is none = refl
none_by (b ∷ bytes) n is none =
    let e = length-take 65536 (b ∷ bytes) in
    absurd (omega (arith, e, is, none))

come_zero : (side : Side) (p : Playing) → come side 0 p ≡ p
come_zero Client p = refl
come_zero Target p = refl

come_none : (side : Side) (n : ℕ) (p q : Playing) → q ≡ come side n p → n ≤ 0 → q ≡ p
come_none side n p q is none =
    let zero : n ≡ 0 = omega (arith, none) in
    is ∙ (ap (λ (m : ℕ). come side m p) zero ∙ come_zero side p)

gives_by : (side : Side) (p q : Playing) (n : ℕ) (e : Entry) → n ≡ length (take 65536 (coming side p))
    → q ≡ come side n p → e ≡ heard side (take 65536 (coming side p)) → Gives side 65536 p (Some e) q
gives_by side p q n e count rest is = record {
  hears = ap (λ (x : Entry). Some x) is;
  rest = rest ∙ ap (λ (m : ℕ). come side m p) count;
}

pub gives_of_client : (p q : Playing) (n : ℕ) (e : Entry) → n ≡ length (take 65536 (coming Client p)) → 0 < n
    → q ≡ come Client n p → e ≡ heard Client (take 65536 (coming Client p)) → GivesFirst p (Some e) q
gives_of_client p q n e count some rest is =
    GivesFirst.of_client (some_by (coming Client p) n count some) (gives_by Client p q n e count rest is)

pub gives_of_target : (p q r : Playing) (n m : ℕ) (e : Entry) → n ≡ length (take 65536 (coming Client p)) → n ≤ 0
    → q ≡ come Client n p → m ≡ length (take 65536 (coming Target q)) → 0 < m → r ≡ come Target m q
    → e ≡ heard Target (take 65536 (coming Target q)) → GivesFirst p (Some e) r
gives_of_target p q r n m e count none rest count_then some rest_then is =
    let same = come_none Client n p q rest none in
    GivesFirst.of_target (none_by (coming Client p) n count none)
    (subst (λ (x : Playing). 0 < length (coming Target x)) same (some_by (coming Target q) m count_then some))
    (subst (λ (x : Playing). Gives Target 65536 x (Some e) r) same
    (gives_by Target q r m e count_then rest_then is))

pub still_by : (p q : Playing) (n m : ℕ) → n ≡ length (take 65536 (coming Client p)) → n ≤ 0 → q ≡ come Client n p
    → m ≡ length (take 65536 (coming Target q)) → m ≤ 0 → IsStill p
still_by p q n m count none rest count_then none_then = record {
  client = none_by (coming Client p) n count none;
  target = subst (λ (x : Playing). coming Target x ≡ []) (come_none Client n p q rest none)
      (none_by (coming Target q) m count_then none_then);
}

-- Lines that settle ---------------------------------------------------------------------------------------------------

pub done_by : (moving : Bool) (p q r : Playing) (rest : List Turn) → IsStill p → q ≡ p → IsIdle moving q → r ≡ q
    → rest ≡ drop 1 r.schedule → Settles moving (drop 1 p.schedule) p None (with_lines rest r)
done_by moving p q r rest still same idle same_then is =
    Settles.is_done still (subst (λ (x : Playing). IsIdle moving x) same idle) refl
    (ap (λ (l : List Turn). with_lines l r) is
    ∙ ap (λ (x : Playing). with_lines (drop 1 x.schedule) x) (same_then ∙ same))

pub works_by : (moving : Bool) (rest : List Turn) (p q r : Playing) → IsStill p → q ≡ p → Works moving q r
    → Settles moving rest p None r
works_by moving rest p q r still same works =
    Settles.works still refl (subst (λ (x : Playing). Works moving x r) same works)

-- Other lines ---------------------------------------------------------------------------------------------------------

steps_by : (p q : Playing) (line : Turn) (rest : List Turn) (said : Option Entry) → p.schedule ≡ line ∷ rest
    → DoesLine line rest p said q → Steps p said q
steps_by p q line rest said is does = subst (λ (l : List Turn). Does l p said q) (sym is) does

-- the first line, and those behind it
first_is : (p : Playing) (line known : Turn) → p.schedule ≡ line ∷ drop 1 p.schedule → line ≡ known
    → p.schedule ≡ known ∷ drop 1 p.schedule
first_is p line known first is = first ∙ ap (λ (l : Turn). l ∷ drop 1 p.schedule) is

pub serve_by : (p q : Playing) (line : Turn) (left : List Turn) (place : ℕ) → p.schedule ≡ line ∷ drop 1 p.schedule
    → line ≡ lines.Serve place → left ≡ drop 1 p.schedule → ServesIf place (with_lines left p) q → Steps p None q
serve_by p q line left place first is rest does =
    steps_by p q (lines.Serve place) (drop 1 p.schedule) None (first_is p line (lines.Serve place) first is)
    (refl, subst (λ (l : List Turn). ServesIf place (with_lines l p) q) rest does)

pub move_by : (p q : Playing) (line : Turn) (left : List Turn) → p.schedule ≡ line ∷ drop 1 p.schedule
    → line ≡ lines.Move → left ≡ drop 1 p.schedule → MovesIf (with_lines left p) q → Steps p None q
move_by p q line left first is rest does =
    steps_by p q lines.Move (drop 1 p.schedule) None (first_is p line lines.Move first is)
    (refl, subst (λ (l : List Turn). MovesIf (with_lines l p) q) rest does)

abbrev end_if : Bool → Side → Option Entry
end_if is_so side = cond is_so (Some (ends side)) None

pub shut_by : (p : Playing) (line : Turn) (left : List Turn) (side : Side) (is_so : Bool) (said : Option Entry)
    → p.schedule ≡ line ∷ drop 1 p.schedule → line ≡ lines.Shut side → left ≡ drop 1 p.schedule
    → is_open side p ≡ is_so → said ≡ end_if is_so side → Steps p said (with_lines left p)
shut_by p line left side is_so said first is rest open_is said_is =
    steps_by p (with_lines left p) (lines.Shut side) (drop 1 p.schedule) said (first_is p line (lines.Shut side) first is)
    (said_is ∙ ap (λ (b : Bool). end_if b side) (sym open_is), ap (λ (l : List Turn). with_lines l p) rest)
