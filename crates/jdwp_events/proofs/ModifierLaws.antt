-- A modifier that is read was spelled, and one that is spelled is read.
use Rattle.std.proofs.Common.{◌≡◌, ℕ, List, ◌++◌, Option, Some, None, Ok, refl, sym, ap, subst, ◌∙◌, append_assoc}
use Rattle.std.specs.Int.{bytes_high_first}
use Rattle.jdwp_values.specs.Bytes.{IsBytes}
use Rattle.jdwp_values.specs.Parts.{byte}
use Rattle.jdwp_values.specs.Reading.{Place, behind, offset, part_at}
use Rattle.jdwp_values.specs.Rows.{in_row, spell_told}
use Rattle.jdwp_values.proofs.RowLaws.{bind_ok, bind_is, in_row_ok, TakesPlace, TakesPlace-then, part_at_takes}
use Rattle.jdwp_values.proofs.RowLaws.{part_at_again, row_again, IsFormat}
use Rattle.jdwp_values.proofs.ToldLaws.{TakesTold, told_takes, of_made}
use Rattle.jdwp_events.specs.declared.modifier.Modifier.{Modifier}
use Rattle.jdwp_events.specs.declared.modifier.Modifier.TheVariants as modifiers
use Rattle.jdwp_events.specs.declared.modifier.ModifierKind.{ModifierKind}
use Rattle.jdwp_events.specs.declared.modifier.ModifierKind.TheVariants as kinds
use Rattle.jdwp_events.specs.Modifiers.{byte_of_modifier, modifier_of_byte, kind_of, modifier_row, modifier_behind}
use Rattle.jdwp_events.specs.Modifiers.{modifier_of_kind, modifier_at, told, spell_modifier, FitsModifier}
use Rattle.jdwp_events.specs.Modifiers.{InRangeModifier}
use Rattle.jdwp_events.proofs.KindLaws.{modifier_back, modifier_of-byte, modifier_small}

of_kind_ok : (o : Option ModifierKind) (at : ℕ) (place : Place) (x : Modifier × Place)
    → modifier_of_kind o at place ≡ Ok x → (kind : ModifierKind) × (o ≡ Some kind) × (modifier_behind kind place ≡ Ok x)
of_kind_ok (Some kind) at place x e = (kind, refl, e)
of_kind_ok None at place x e = absurd cc

behind_takes : (kind : ModifierKind) (place : Place) (x : Modifier × Place) → IsBytes place.rest
    → modifier_behind kind place ≡ Ok x → TakesTold place (told x.0) x.1
behind_takes kinds.Count = told_takes told (modifier_row kinds.Count) modifiers.Count (λ v. refl)
behind_takes kinds.ThreadOnly = told_takes told (modifier_row kinds.ThreadOnly) modifiers.ThreadOnly (λ v. refl)
behind_takes kinds.ClassOnly = told_takes told (modifier_row kinds.ClassOnly) modifiers.ClassOnly (λ v. refl)
behind_takes kinds.ClassMatch = told_takes told (modifier_row kinds.ClassMatch) modifiers.ClassMatch (λ v. refl)
behind_takes kinds.ClassExclude = told_takes told (modifier_row kinds.ClassExclude) modifiers.ClassExclude (λ v. refl)
behind_takes kinds.LocationOnly = told_takes told (modifier_row kinds.LocationOnly) modifiers.LocationOnly (λ v. refl)
behind_takes kinds.ExceptionOnly =
    told_takes told (modifier_row kinds.ExceptionOnly) modifiers.ExceptionOnly (λ v. refl)
behind_takes kinds.Step = told_takes told (modifier_row kinds.Step) modifiers.Step (λ v. refl)

behind_kind : (kind : ModifierKind) (place : Place) (x : Modifier × Place) → IsBytes place.rest
    → modifier_behind kind place ≡ Ok x → kind_of x.0 ≡ kind
behind_kind kinds.Count = of_made (λ v. kind_of v ≡ kinds.Count) (modifier_row kinds.Count) modifiers.Count (λ v. refl)
behind_kind kinds.ThreadOnly =
    of_made (λ v. kind_of v ≡ kinds.ThreadOnly) (modifier_row kinds.ThreadOnly) modifiers.ThreadOnly (λ v. refl)
behind_kind kinds.ClassOnly =
    of_made (λ v. kind_of v ≡ kinds.ClassOnly) (modifier_row kinds.ClassOnly) modifiers.ClassOnly (λ v. refl)
behind_kind kinds.ClassMatch =
    of_made (λ v. kind_of v ≡ kinds.ClassMatch) (modifier_row kinds.ClassMatch) modifiers.ClassMatch (λ v. refl)
behind_kind kinds.ClassExclude =
    of_made (λ v. kind_of v ≡ kinds.ClassExclude) (modifier_row kinds.ClassExclude) modifiers.ClassExclude (λ v. refl)
behind_kind kinds.LocationOnly =
    of_made (λ v. kind_of v ≡ kinds.LocationOnly) (modifier_row kinds.LocationOnly) modifiers.LocationOnly (λ v. refl)
behind_kind kinds.ExceptionOnly =
    of_made (λ v. kind_of v ≡ kinds.ExceptionOnly) (modifier_row kinds.ExceptionOnly) modifiers.ExceptionOnly
    (λ v. refl)
behind_kind kinds.Step = of_made (λ v. kind_of v ≡ kinds.Step) (modifier_row kinds.Step) modifiers.Step (λ v. refl)

behind_again : (x : Modifier) (place : Place) (rest : List ℕ) → FitsModifier place.sizes x → InRangeModifier x
    → place.rest ≡ spell_told place.sizes (told x) ++ rest
    → modifier_behind (kind_of x) place ≡ Ok (x, behind place rest)
behind_again (modifiers.Count n) place rest fits range is =
    row_again (modifier_row kinds.Count) modifiers.Count place (n, tt) rest fits range (tt, tt) is
behind_again (modifiers.ThreadOnly t) place rest fits range is =
    row_again (modifier_row kinds.ThreadOnly) modifiers.ThreadOnly place (t, tt) rest fits range (tt, tt) is
behind_again (modifiers.ClassOnly c) place rest fits range is =
    row_again (modifier_row kinds.ClassOnly) modifiers.ClassOnly place (c, tt) rest fits range (tt, tt) is
behind_again (modifiers.ClassMatch p) place rest fits range is =
    row_again (modifier_row kinds.ClassMatch) modifiers.ClassMatch place (p, tt) rest fits range (tt, tt) is
behind_again (modifiers.ClassExclude p) place rest fits range is =
    row_again (modifier_row kinds.ClassExclude) modifiers.ClassExclude place (p, tt) rest fits range (tt, tt) is
behind_again (modifiers.LocationOnly at) place rest fits range is =
    row_again (modifier_row kinds.LocationOnly) modifiers.LocationOnly place (at, tt) rest fits range (tt, tt) is
behind_again (modifiers.ExceptionOnly c caught uncaught) place rest fits range is =
    row_again (modifier_row kinds.ExceptionOnly) modifiers.ExceptionOnly place (c, (caught, (uncaught, tt))) rest fits
    range (tt, (tt, (tt, tt))) is
behind_again (modifiers.Step t size depth) place rest fits range is =
    row_again (modifier_row kinds.Step) modifiers.Step place (t, (size, (depth, tt))) rest fits range
    (tt, (tt, (tt, tt))) is

modifier_takes : (place : Place) (x : Modifier × Place) → IsBytes place.rest → modifier_at place ≡ Ok x
    → TakesPlace place (spell_modifier place.sizes x.0) x.1 × FitsModifier place.sizes x.0
unfolding modifier_at
modifier_takes place x fits e =
    let b =
    bind_ok (in_row (part_at byte place)) (λ b. modifier_of_kind (modifier_of_byte b.0) (offset place) b.1) x e in
    let t = part_at_takes byte place b.0 fits (in_row_ok (part_at byte place) b.0 b.1) in
    let next = behind place t.0.rest in
    let e' : modifier_of_kind (modifier_of_byte b.0.0) (offset place) next ≡ Ok x =
    subst (λ (z : Place). modifier_of_kind (modifier_of_byte b.0.0) (offset place) z ≡ Ok x) t.0.new_is b.2 in
    let k = of_kind_ok (modifier_of_byte b.0.0) (offset place) next x e' in
    let parts = behind_takes k.0 next x t.0.takes.rest_fits k.2 in
    let same : byte_of_modifier (kind_of x.0) ≡ b.0.0 =
    ap byte_of_modifier (behind_kind k.0 next x t.0.takes.rest_fits k.2) ∙ modifier_back b.0.0 k.0 k.1 in
    let here : TakesPlace place (bytes_high_first 1 b.0.0) next =
    record { rest = t.0.rest; new_is = refl; takes = t.0.takes } in
    let first : TakesPlace place (bytes_high_first 1 (byte_of_modifier (kind_of x.0))) next =
    subst (λ (n : ℕ). TakesPlace place (bytes_high_first 1 n) next) (sym same) here in (
      TakesPlace-then place (bytes_high_first 1 (byte_of_modifier (kind_of x.0))) next
          (spell_told place.sizes (told x.0)) x.1 first parts.takes,
      parts.fits,
    )

modifier_again : (place : Place) (x : Modifier) (rest : List ℕ) → FitsModifier place.sizes x → InRangeModifier x
    → place.rest ≡ spell_modifier place.sizes x ++ rest → modifier_at place ≡ Ok (x, behind place rest)
unfolding modifier_at
modifier_again place x rest fits range e =
    let n = byte_of_modifier (kind_of x) in
    let more = spell_told place.sizes (told x) ++ rest in
    let next = behind place more in
    let one = part_at_again byte place n more tt (modifier_small (kind_of x)) tt
    (e ∙ append_assoc (bytes_high_first 1 n) (spell_told place.sizes (told x)) rest) in
    bind_is (in_row (part_at byte place)) (λ b. modifier_of_kind (modifier_of_byte b.0) (offset place) b.1) (n, next)
    (ap in_row one)
    ∙ ap (λ (o : Option ModifierKind). modifier_of_kind o (offset place) next) (modifier_of-byte (kind_of x))
    ∙ behind_again x next rest fits range refl

pub modifier_format : IsFormat modifier_at spell_modifier FitsModifier InRangeModifier
modifier_format = record { takes = modifier_takes; again = modifier_again }
