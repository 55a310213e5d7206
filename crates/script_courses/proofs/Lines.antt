-- What a line of a schedule does is one thing, and so is what comes next.
use Rattle.std.proofs.Common.{◌≡◌, ℕ, ◌<◌, Bool, true, false, List, [], ◌∷◌, length, Option, None, Some, refl, sym, ap}
use Rattle.std.proofs.Common.{subst, ◌∙◌, arith, cond}
use Rattle.script_courses.proofs.Targets.{advances_one, not_both, not_none, serves_one, some_same}
use Rattle.script_courses.specs.Courses.{sent_in}
use Rattle.script_rows.specs.declared.script.Turn.{Turn}
use Rattle.script_rows.specs.declared.script.Turn.TheVariants as lines
use Rattle.script_wires.specs.Playing.{Playing, closed_by, heard, is_open, piece, with_joint}
use Rattle.script_wires.specs.Schedules.{Comes, Does, Gives, GivesFirst, GivesIfOpen, GoesOn, HasNone, IsHeld, IsIdle}
use Rattle.script_wires.specs.Schedules.{IsStill, MovesIf, MovesOn, ServesAt, ServesIf, Settles, Steps, Works}
use Rattle.target_server.specs.Joints.{Joint}
use Rattle.wire_core.specs.declared.outside.Entry.{Entry}
use Rattle.wire_core.specs.declared.outside.Entry.TheVariants.{Shut as ends}
use Rattle.wire_core.specs.declared.outside.Side.{Side}
use Rattle.wire_core.specs.declared.outside.Side.TheVariants.{Client, Target}

-- two ends of a line are one
abbrev AreSame : Option Entry → Option Entry → Playing → Playing → Type 0
AreSame said also new other = (said ≡ also) × (new ≡ other)

-- The target ----------------------------------------------------------------------------------------------------------

serves_at_one : {place : ℕ} {old new other : Playing} → ServesAt place old new → ServesAt place old other → new ≡ other
serves_at_one {old = old} a b =
    a.others ∙ ap (λ (j : Joint). with_joint j old) (serves_one a.serves b.serves) ∙ sym b.others

moves_on_one : {old new other : Playing} → MovesOn old new → MovesOn old other → new ≡ other
moves_on_one {old} a b =
    a.others ∙ ap (λ (j : Joint). with_joint j old) (advances_one a.advances b.advances) ∙ sym b.others

none_served : {place : ℕ} {old new : Playing} → ServesAt place old new → HasNone place old → ⊥
none_served s none = not_none s.serves.waited none

none_moved : {old new : Playing} → MovesOn old new → IsHeld old → ⊥
none_moved m held = not_none m.advances.can held

serves_if_one : {place : ℕ} {old new other : Playing} → ServesIf place old new → ServesIf place old other → new ≡ other
serves_if_one (ServesIf.serves a) (ServesIf.serves b) = serves_at_one a b
serves_if_one (ServesIf.serves a) (ServesIf.has_none none same) = absurd (none_served a none)
serves_if_one (ServesIf.has_none none same) (ServesIf.serves b) = absurd (none_served b none)
serves_if_one (ServesIf.has_none none same) (ServesIf.has_none again same_too) = same ∙ sym same_too

moves_if_one : {old new other : Playing} → MovesIf old new → MovesIf old other → new ≡ other
moves_if_one (MovesIf.moves a) (MovesIf.moves b) = moves_on_one a b
moves_if_one (MovesIf.moves a) (MovesIf.is_held held same) = absurd (none_moved a held)
moves_if_one (MovesIf.is_held held same) (MovesIf.moves b) = absurd (none_moved b held)
moves_if_one (MovesIf.is_held held same) (MovesIf.is_held again same_too) = same ∙ sym same_too

works_one : {moving : Bool} {old new other : Playing} → Works moving old new → Works moving old other → new ≡ other
works_one (Works.serves a) (Works.serves b) = serves_at_one a b
works_one (Works.serves a) (Works.moves none asks b) = absurd (none_served a none)
works_one (Works.moves none asks a) (Works.serves b) = absurd (none_served b none)
works_one (Works.moves none asks a) (Works.moves none_too asks_too b) = moves_on_one a b

idle_works : {moving : Bool} {old new : Playing} → Works moving old new → IsIdle moving old → ⊥
idle_works (Works.serves a) idle = none_served a idle.none_waits
idle_works (Works.moves none asks a) idle = none_moved a (idle.is_held asks)

-- Bytes ---------------------------------------------------------------------------------------------------------------

gives_one : {side : Side} {most : ℕ} {old new other : Playing} {said also : Option Entry} → Gives side most old said new
    → Gives side most old also other → AreSame said also new other
gives_one a b = (a.hears ∙ sym b.hears, a.rest ∙ sym b.rest)

gives_if_one : {most : ℕ} {old new other : Playing} {said also : Option Entry} → GivesIfOpen most old said new
    → GivesIfOpen most old also other → AreSame said also new other
gives_if_one (GivesIfOpen.gives is a) (GivesIfOpen.gives again b) = gives_one a b
gives_if_one (GivesIfOpen.gives is a) (GivesIfOpen.passes shut none same) = absurd (not_both is shut)
gives_if_one (GivesIfOpen.passes shut none same) (GivesIfOpen.gives is b) = absurd (not_both is shut)
gives_if_one (GivesIfOpen.passes shut none same) (GivesIfOpen.passes again none_too same_too) =
    (none ∙ sym none_too, same ∙ sym same_too)

some_there : {bytes : List ℕ} → 0 < length bytes → bytes ≡ [] → ⊥
some_there more none = omega (arith, more, ap length none)

gives_first_one : {old new other : Playing} {said also : Option Entry} → GivesFirst old said new
    → GivesFirst old also other → AreSame said also new other
gives_first_one (GivesFirst.of_client more a) (GivesFirst.of_client again b) = gives_one a b
gives_first_one (GivesFirst.of_client more a) (GivesFirst.of_target none some b) = absurd (some_there more none)
gives_first_one (GivesFirst.of_target none some a) (GivesFirst.of_client more b) = absurd (some_there more none)
gives_first_one (GivesFirst.of_target none some a) (GivesFirst.of_target none_too some_too b) = gives_one a b

still_gives : {old new : Playing} {said : Option Entry} → GivesFirst old said new → IsStill old → ⊥
still_gives (GivesFirst.of_client more a) still = some_there more still.client
still_gives (GivesFirst.of_target none more a) still = some_there more still.target

-- Lines ---------------------------------------------------------------------------------------------------------------

settles_one : {moving : Bool} {rest : List Turn} {old new other : Playing} {said also : Option Entry}
    → Settles moving rest old said new → Settles moving rest old also other → AreSame said also new other
settles_one (Settles.gives a) (Settles.gives b) = gives_first_one a b
settles_one (Settles.gives a) (Settles.works still none b) = absurd (still_gives a still)
settles_one (Settles.gives a) (Settles.is_done still idle none same) = absurd (still_gives a still)
settles_one (Settles.works still none a) (Settles.gives b) = absurd (still_gives b still)
settles_one (Settles.works still none a) (Settles.works again none_too b) = (none ∙ sym none_too, works_one a b)
settles_one (Settles.works still none a) (Settles.is_done again idle none_too same) = absurd (idle_works a idle)
settles_one (Settles.is_done still idle none same) (Settles.gives b) = absurd (still_gives b still)
settles_one (Settles.is_done still idle none same) (Settles.works again none_too b) = absurd (idle_works b idle)
settles_one (Settles.is_done still idle none same) (Settles.is_done again idle_too none_too same_too) =
    (none ∙ sym none_too, same ∙ sym same_too)

does_one : (schedule : List Turn) (old new other : Playing) (said also : Option Entry) → Does schedule old said new
    → Does schedule old also other → AreSame said also new other
does_one [] old new other said also a b = (a.0 ∙ sym b.0, a.1 ∙ sym b.1)
does_one (lines.Ask command arguments ∷ rest) old new other said also a b = (a.0 ∙ sym b.0, a.1 ∙ sym b.1)
does_one (lines.Client most ∷ rest) old new other said also a b = gives_if_one a b
does_one (lines.Target most ∷ rest) old new other said also a b = gives_one a b
does_one (lines.Serve place ∷ rest) old new other said also a b = (a.0 ∙ sym b.0, serves_if_one a.1 b.1)
does_one (lines.Move ∷ rest) old new other said also a b = (a.0 ∙ sym b.0, moves_if_one a.1 b.1)
does_one (lines.Settle ∷ rest) old new other said also a b = settles_one a b
does_one (lines.Deliver ∷ rest) old new other said also a b = settles_one a b
does_one (lines.Shut side ∷ rest) old new other said also a b = (a.0 ∙ sym b.0, a.1 ∙ sym b.1)

-- Over lines ----------------------------------------------------------------------------------------------------------

-- lines are done of which nothing is heard, told from the first on
data Ahead : Playing → Playing → Type 0 where
  stops : {p : Playing} → Ahead p p
  steps : {old middle new : Playing} → Steps old None middle → Ahead middle new → Ahead old new

ahead : {old middle new : Playing} → GoesOn old middle → Ahead middle new → Ahead old new
ahead GoesOn.none rest = rest
ahead (GoesOn.one_more before one) rest = ahead before (Ahead.steps one rest)

some_none : {entry : Entry} → ◌≡◌ {A = Option Entry} (Some entry) None → ⊥
some_none h = cc

steps_one : {old start : Playing} (said also : Option Entry) (new other : Playing) → old ≡ start → Steps old said new
    → Steps start also other → AreSame said also new other
steps_one {start = start} said also new other same a b =
    does_one start.schedule start new other said also (subst (λ (p : Playing). Steps p said new) same a) b

meet : {old start one other new last : Playing} {entry also : Entry} → old ≡ start → Ahead old one → Ahead start other
    → Steps one (Some entry) new → Steps other (Some also) last → (entry ≡ also) × (new ≡ last)
meet {new = new} {last = last} {entry = entry} {also = also} same Ahead.stops Ahead.stops a b =
    let both = steps_one (Some entry) (Some also) new last same a b in (some_same both.0, both.1)
meet {new = new} {entry = entry} same Ahead.stops (Ahead.steps {middle = middle} one rest) a b =
    absurd (some_none (steps_one (Some entry) None new middle same a one).0)
meet {last = last} {also = also} same (Ahead.steps {middle = middle} one rest) Ahead.stops a b =
    absurd (some_none (sym (steps_one None (Some also) middle last same one b).0))
meet same (Ahead.steps {middle = middle} one rest) (Ahead.steps {middle = behind} other more) a b =
    meet (steps_one None None middle behind same one other).1 rest more a b

-- what comes next is one thing
pub comes_one : {old new other : Playing} {entry also : Entry} → Comes old entry new → Comes old also other
    → (entry ≡ also) × (new ≡ other)
comes_one {entry = entry} {also = also} a b =
    let both = meet refl (ahead a.reaches.goes_on Ahead.stops) (ahead b.reaches.goes_on Ahead.stops) a.reaches.steps
    b.reaches.steps in (
      both.0,
      a.closes ∙ ap (λ (e : Entry). closed_by e a.behind) both.0
          ∙ ap (λ (p : Playing). closed_by also p) both.1 ∙ sym b.closes,
    )

-- What is heard is not sent -------------------------------------------------------------------------------------------

heard_unsent : (side : Side) (bytes : List ℕ) → sent_in (heard side bytes) ≡ None
heard_unsent side [] = refl
heard_unsent side (b ∷ bytes) = refl

-- of what a line may say
abbrev IsUnsent : Option Entry → Type 0
IsUnsent None = Unit {0}
IsUnsent (Some entry) = sent_in entry ≡ None

unsent : {said also : Option Entry} → said ≡ also → IsUnsent also → IsUnsent said
unsent same is = subst IsUnsent (sym same) is

gives_unsent : {side : Side} {most : ℕ} {old new : Playing} {said : Option Entry} → Gives side most old said new
    → IsUnsent said
gives_unsent {side} {most} {old} a = unsent a.hears (heard_unsent side (piece most side old))

gives_if_unsent : {most : ℕ} {old new : Playing} {said : Option Entry} → GivesIfOpen most old said new → IsUnsent said
gives_if_unsent (GivesIfOpen.gives is a) = gives_unsent a
gives_if_unsent (GivesIfOpen.passes is none same) = unsent none tt

settles_unsent : {moving : Bool} {rest : List Turn} {old new : Playing} {said : Option Entry}
    → Settles moving rest old said new → IsUnsent said
settles_unsent (Settles.gives (GivesFirst.of_client more a)) = gives_unsent a
settles_unsent (Settles.gives (GivesFirst.of_target none more a)) = gives_unsent a
settles_unsent (Settles.works still none a) = unsent none tt
settles_unsent (Settles.is_done still idle none same) = unsent none tt

ends_unsent : (side : Side) (is : Bool) → IsUnsent (cond is (Some (ends side)) None)
ends_unsent side true = refl
ends_unsent side false = tt

does_unsent : (schedule : List Turn) (old new : Playing) (said : Option Entry) → Does schedule old said new
    → IsUnsent said
does_unsent [] old new said a = unsent a.0 refl
does_unsent (lines.Ask command arguments ∷ rest) old new said a = unsent a.0 tt
does_unsent (lines.Client most ∷ rest) old new said a = gives_if_unsent a
does_unsent (lines.Target most ∷ rest) old new said a = gives_unsent a
does_unsent (lines.Serve place ∷ rest) old new said a = unsent a.0 tt
does_unsent (lines.Move ∷ rest) old new said a = unsent a.0 tt
does_unsent (lines.Settle ∷ rest) old new said a = settles_unsent a
does_unsent (lines.Deliver ∷ rest) old new said a = settles_unsent a
does_unsent (lines.Shut side ∷ rest) old new said a = unsent a.0 (ends_unsent side (is_open side old))

pub comes_unsent : {old new : Playing} {entry : Entry} → Comes old entry new → sent_in entry ≡ None
comes_unsent a = does_unsent a.reaches.before.schedule _ _ _ a.reaches.steps
