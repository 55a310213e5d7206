-- The modifiers of an event request (JDWP, EventRequest command set, Set): a byte that says which it is, and its parts.
--
-- `modifier_at` reads one from a place, `spell_modifier` is its bytes, `FitsModifier` says that it has a spelling, and
-- `InRangeModifier` that its numbers are of their types.
use Rattle.std.specs.Prelude.{ℕ, List, [], ◌∷◌, ◌++◌, Option, Some, None, Result, Err, ◌==◌, find}
use Rattle.std.specs.Int.{bytes_high_first}
use Rattle.jdwp_values.specs.declared.fault.RowFault.{RowFault}
use Rattle.jdwp_values.specs.declared.fault.RowFault.TheVariants as faults
use Rattle.jdwp_values.specs.declared.fault.ValueFault.TheVariants.{BadTag}
use Rattle.jdwp_values.specs.declared.sizes.IdSizes.{IdSizes}
use Rattle.jdwp_values.specs.Parts.{Part, byte, int, thread, class, text, location}
use Rattle.jdwp_values.specs.Reading.{Place, offset, part_at}
use Rattle.jdwp_values.specs.Rows.{◌>>=◌, in_row, row_at, Said, said, spell_told, FitsTold, InRangeTold}
use Rattle.jdwp_events.specs.declared.modifier.Modifier.{Modifier}
use Rattle.jdwp_events.specs.declared.modifier.Modifier.TheVariants as modifiers
use Rattle.jdwp_events.specs.declared.modifier.ModifierKind.{ModifierKind}
use Rattle.jdwp_events.specs.declared.modifier.ModifierKind.TheVariants as kinds

-- the byte of each modifier (JDWP, EventRequest command set, Set, modKind)
abbrev pub byte_of_modifier : ModifierKind → ℕ
byte_of_modifier kinds.Count = 1
byte_of_modifier kinds.ThreadOnly = 3
byte_of_modifier kinds.ClassOnly = 4
byte_of_modifier kinds.ClassMatch = 5
byte_of_modifier kinds.ClassExclude = 6
byte_of_modifier kinds.LocationOnly = 7
byte_of_modifier kinds.ExceptionOnly = 8
byte_of_modifier kinds.Step = 10

-- all kinds
abbrev pub modifier_kinds : List ModifierKind
modifier_kinds = kinds.Count ∷ kinds.ThreadOnly ∷ kinds.ClassOnly ∷ kinds.ClassMatch ∷ kinds.ClassExclude
    ∷ kinds.LocationOnly ∷ kinds.ExceptionOnly ∷ kinds.Step ∷ []

-- the kind that has this byte
abbrev pub modifier_of_byte : ℕ → Option ModifierKind
modifier_of_byte byte = find (λ kind. byte_of_modifier kind == byte) modifier_kinds

-- which modifier it is
abbrev pub kind_of : Modifier → ModifierKind
kind_of (modifiers.Count _) = kinds.Count
kind_of (modifiers.ThreadOnly _) = kinds.ThreadOnly
kind_of (modifiers.ClassOnly _) = kinds.ClassOnly
kind_of (modifiers.ClassMatch _) = kinds.ClassMatch
kind_of (modifiers.ClassExclude _) = kinds.ClassExclude
kind_of (modifiers.LocationOnly _) = kinds.LocationOnly
kind_of (modifiers.ExceptionOnly _ _ _) = kinds.ExceptionOnly
kind_of (modifiers.Step _ _ _) = kinds.Step

-- the parts behind a kind's byte (JDWP, EventRequest command set, Set)
abbrev pub modifier_row : ModifierKind → List Part
modifier_row kinds.Count = int ∷ []
modifier_row kinds.ThreadOnly = thread ∷ []
modifier_row kinds.ClassOnly = class ∷ []
modifier_row kinds.ClassMatch = text ∷ []
modifier_row kinds.ClassExclude = text ∷ []
modifier_row kinds.LocationOnly = location ∷ []
modifier_row kinds.ExceptionOnly = class ∷ byte ∷ byte ∷ []
modifier_row kinds.Step = thread ∷ int ∷ int ∷ []

-- the modifier behind its kind's byte, read by the kind's row
abbrev pub modifier_behind : ModifierKind → Place → Result (Modifier × Place) RowFault
modifier_behind kinds.Count = row_at (modifier_row kinds.Count) modifiers.Count
modifier_behind kinds.ThreadOnly = row_at (modifier_row kinds.ThreadOnly) modifiers.ThreadOnly
modifier_behind kinds.ClassOnly = row_at (modifier_row kinds.ClassOnly) modifiers.ClassOnly
modifier_behind kinds.ClassMatch = row_at (modifier_row kinds.ClassMatch) modifiers.ClassMatch
modifier_behind kinds.ClassExclude = row_at (modifier_row kinds.ClassExclude) modifiers.ClassExclude
modifier_behind kinds.LocationOnly = row_at (modifier_row kinds.LocationOnly) modifiers.LocationOnly
modifier_behind kinds.ExceptionOnly = row_at (modifier_row kinds.ExceptionOnly) modifiers.ExceptionOnly
modifier_behind kinds.Step = row_at (modifier_row kinds.Step) modifiers.Step

-- the modifier that begins here with its kind's byte; another byte is a bad tag
abbrev pub modifier_of_kind : Option ModifierKind → ℕ → Place → Result (Modifier × Place) RowFault
modifier_of_kind (Some kind) at place = modifier_behind kind place
modifier_of_kind None at place = Err (faults.Part (record { fault = BadTag; at = at }))

unfoldable pub modifier_at : Place → Result (Modifier × Place) RowFault
modifier_at place = in_row (part_at byte place) >>= λ b. modifier_of_kind (modifier_of_byte b.0) (offset place) b.1

-- what a modifier says in the parts of its kind's row
abbrev pub told : Modifier → List Said
told (modifiers.Count n) = said int n ∷ []
told (modifiers.ThreadOnly t) = said thread t ∷ []
told (modifiers.ClassOnly c) = said class c ∷ []
told (modifiers.ClassMatch pattern) = said text pattern ∷ []
told (modifiers.ClassExclude pattern) = said text pattern ∷ []
told (modifiers.LocationOnly at) = said location at ∷ []
told (modifiers.ExceptionOnly c caught uncaught) = said class c ∷ said byte caught ∷ said byte uncaught ∷ []
told (modifiers.Step t size depth) = said thread t ∷ said int size ∷ said int depth ∷ []

-- a modifier's byte, and what it says
abbrev pub spell_modifier : IdSizes → Modifier → List ℕ
spell_modifier sizes modifier =
    bytes_high_first 1 (byte_of_modifier (kind_of modifier)) ++ spell_told sizes (told modifier)

abbrev pub FitsModifier : IdSizes → Modifier → Type 0
FitsModifier sizes modifier = FitsTold sizes (told modifier)

abbrev pub InRangeModifier : Modifier → Type 0
InRangeModifier modifier = InRangeTold (told modifier)
