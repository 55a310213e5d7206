-- An event that is read was spelled, and one that is spelled is read.
use Rattle.std.proofs.Common.{◌≡◌, ℕ, List, ◌++◌, Option, Some, None, Ok, refl, sym, ap, subst, ◌∙◌, append_assoc}
use Rattle.std.specs.Int.{bytes_high_first}
use Rattle.jdwp_values.specs.Bytes.{IsBytes}
use Rattle.jdwp_values.specs.Parts.{byte}
use Rattle.jdwp_values.specs.Reading.{Place, behind, offset, part_at}
use Rattle.jdwp_values.specs.Rows.{in_row, spell_told}
use Rattle.jdwp_values.proofs.RowLaws.{bind_ok, bind_is, in_row_ok, TakesPlace, TakesPlace-then, part_at_takes}
use Rattle.jdwp_values.proofs.RowLaws.{part_at_again, row_again, IsFormat}
use Rattle.jdwp_values.proofs.ToldLaws.{TakesTold, told_takes, of_made}
use Rattle.jdwp_events.specs.declared.event.Event.{Event}
use Rattle.jdwp_events.specs.declared.event.Event.TheVariants as events
use Rattle.jdwp_events.specs.declared.kind.EventKind.{EventKind}
use Rattle.jdwp_events.specs.declared.kind.EventKind.TheVariants as kinds
use Rattle.jdwp_events.specs.Events.{kind_of, event_row, event_behind, event_of_kind, event_at, told, spell_event}
use Rattle.jdwp_events.specs.Events.{FitsEvent, InRangeEvent}
use Rattle.jdwp_events.specs.Kinds.{byte_of_kind, kind_of_byte}
use Rattle.jdwp_events.proofs.KindLaws.{kind_back, kind_of-byte, kind_small}

of_kind_ok : (o : Option EventKind) (at : ℕ) (place : Place) (x : Event × Place) → event_of_kind o at place ≡ Ok x
    → (kind : EventKind) × (o ≡ Some kind) × (event_behind kind place ≡ Ok x)
of_kind_ok (Some kind) at place x e = (kind, refl, e)
of_kind_ok None at place x e = absurd cc

behind_takes : (kind : EventKind) (place : Place) (x : Event × Place) → IsBytes place.rest
    → event_behind kind place ≡ Ok x → TakesTold place (told x.0) x.1
behind_takes kinds.SingleStep = told_takes told (event_row kinds.SingleStep) events.SingleStep (λ v. refl)
behind_takes kinds.Breakpoint = told_takes told (event_row kinds.Breakpoint) events.Breakpoint (λ v. refl)
behind_takes kinds.Exception = told_takes told (event_row kinds.Exception) events.Exception (λ v. refl)
behind_takes kinds.ThreadStart = told_takes told (event_row kinds.ThreadStart) events.ThreadStart (λ v. refl)
behind_takes kinds.ThreadDeath = told_takes told (event_row kinds.ThreadDeath) events.ThreadDeath (λ v. refl)
behind_takes kinds.ClassPrepare = told_takes told (event_row kinds.ClassPrepare) events.ClassPrepare (λ v. refl)
behind_takes kinds.VMStart = told_takes told (event_row kinds.VMStart) events.VMStart (λ v. refl)
behind_takes kinds.VMDeath = told_takes told (event_row kinds.VMDeath) events.VMDeath (λ v. refl)

behind_kind : (kind : EventKind) (place : Place) (x : Event × Place) → IsBytes place.rest
    → event_behind kind place ≡ Ok x → kind_of x.0 ≡ kind
behind_kind kinds.SingleStep =
    of_made (λ v. kind_of v ≡ kinds.SingleStep) (event_row kinds.SingleStep) events.SingleStep (λ v. refl)
behind_kind kinds.Breakpoint =
    of_made (λ v. kind_of v ≡ kinds.Breakpoint) (event_row kinds.Breakpoint) events.Breakpoint (λ v. refl)
behind_kind kinds.Exception =
    of_made (λ v. kind_of v ≡ kinds.Exception) (event_row kinds.Exception) events.Exception (λ v. refl)
behind_kind kinds.ThreadStart =
    of_made (λ v. kind_of v ≡ kinds.ThreadStart) (event_row kinds.ThreadStart) events.ThreadStart (λ v. refl)
behind_kind kinds.ThreadDeath =
    of_made (λ v. kind_of v ≡ kinds.ThreadDeath) (event_row kinds.ThreadDeath) events.ThreadDeath (λ v. refl)
behind_kind kinds.ClassPrepare =
    of_made (λ v. kind_of v ≡ kinds.ClassPrepare) (event_row kinds.ClassPrepare) events.ClassPrepare (λ v. refl)
behind_kind kinds.VMStart =
    of_made (λ v. kind_of v ≡ kinds.VMStart) (event_row kinds.VMStart) events.VMStart (λ v. refl)
behind_kind kinds.VMDeath =
    of_made (λ v. kind_of v ≡ kinds.VMDeath) (event_row kinds.VMDeath) events.VMDeath (λ v. refl)

behind_again : (x : Event) (place : Place) (rest : List ℕ) → FitsEvent place.sizes x → InRangeEvent x
    → place.rest ≡ spell_told place.sizes (told x) ++ rest → event_behind (kind_of x) place ≡ Ok (x, behind place rest)
behind_again (events.SingleStep r t at) place rest fits range is =
    row_again (event_row kinds.SingleStep) events.SingleStep place (r, (t, (at, tt))) rest fits range
    (tt, (tt, (tt, tt))) is
behind_again (events.Breakpoint r t at) place rest fits range is =
    row_again (event_row kinds.Breakpoint) events.Breakpoint place (r, (t, (at, tt))) rest fits range
    (tt, (tt, (tt, tt))) is
behind_again (events.Exception r t at e catch) place rest fits range is =
    row_again (event_row kinds.Exception) events.Exception place (r, (t, (at, (e, (catch, tt))))) rest fits range
    (tt, (tt, (tt, (tt, (tt, tt))))) is
behind_again (events.ThreadStart r t) place rest fits range is =
    row_again (event_row kinds.ThreadStart) events.ThreadStart place (r, (t, tt)) rest fits range (tt, (tt, tt)) is
behind_again (events.ThreadDeath r t) place rest fits range is =
    row_again (event_row kinds.ThreadDeath) events.ThreadDeath place (r, (t, tt)) rest fits range (tt, (tt, tt)) is
behind_again (events.ClassPrepare r t tag c s status) place rest fits range is =
    row_again (event_row kinds.ClassPrepare) events.ClassPrepare place (r, (t, (tag, (c, (s, (status, tt)))))) rest fits
    range (tt, (tt, (tt, (tt, (tt, (tt, tt)))))) is
behind_again (events.VMStart r t) place rest fits range is =
    row_again (event_row kinds.VMStart) events.VMStart place (r, (t, tt)) rest fits range (tt, (tt, tt)) is
behind_again (events.VMDeath r) place rest fits range is =
    row_again (event_row kinds.VMDeath) events.VMDeath place (r, tt) rest fits range (tt, tt) is

event_takes : (place : Place) (x : Event × Place) → IsBytes place.rest → event_at place ≡ Ok x
    → TakesPlace place (spell_event place.sizes x.0) x.1 × FitsEvent place.sizes x.0
unfolding event_at
event_takes place x fits e =
    let b = bind_ok (in_row (part_at byte place)) (λ b. event_of_kind (kind_of_byte b.0) (offset place) b.1) x e in
    let t = part_at_takes byte place b.0 fits (in_row_ok (part_at byte place) b.0 b.1) in
    let next = behind place t.0.rest in
    let e' : event_of_kind (kind_of_byte b.0.0) (offset place) next ≡ Ok x =
    subst (λ (z : Place). event_of_kind (kind_of_byte b.0.0) (offset place) z ≡ Ok x) t.0.new_is b.2 in
    let k = of_kind_ok (kind_of_byte b.0.0) (offset place) next x e' in
    let parts = behind_takes k.0 next x t.0.takes.rest_fits k.2 in
    let same : byte_of_kind (kind_of x.0) ≡ b.0.0 =
    ap byte_of_kind (behind_kind k.0 next x t.0.takes.rest_fits k.2) ∙ kind_back b.0.0 k.0 k.1 in
    let here : TakesPlace place (bytes_high_first 1 b.0.0) next =
    record { rest = t.0.rest; new_is = refl; takes = t.0.takes } in
    let first : TakesPlace place (bytes_high_first 1 (byte_of_kind (kind_of x.0))) next =
    subst (λ (n : ℕ). TakesPlace place (bytes_high_first 1 n) next) (sym same) here in (
      TakesPlace-then place (bytes_high_first 1 (byte_of_kind (kind_of x.0))) next (spell_told place.sizes (told x.0))
          x.1 first parts.takes,
      parts.fits,
    )

event_again : (place : Place) (x : Event) (rest : List ℕ) → FitsEvent place.sizes x → InRangeEvent x
    → place.rest ≡ spell_event place.sizes x ++ rest → event_at place ≡ Ok (x, behind place rest)
unfolding event_at
event_again place x rest fits range e =
    let n = byte_of_kind (kind_of x) in
    let more = spell_told place.sizes (told x) ++ rest in
    let next = behind place more in
    let one = part_at_again byte place n more tt (kind_small (kind_of x)) tt
    (e ∙ append_assoc (bytes_high_first 1 n) (spell_told place.sizes (told x)) rest) in
    bind_is (in_row (part_at byte place)) (λ b. event_of_kind (kind_of_byte b.0) (offset place) b.1) (n, next)
    (ap in_row one)
    ∙ ap (λ (o : Option EventKind). event_of_kind o (offset place) next) (kind_of-byte (kind_of x))
    ∙ behind_again x next rest fits range refl

pub event_format : IsFormat event_at spell_event FitsEvent InRangeEvent
event_format = record { takes = event_takes; again = event_again }
