-- The first wrong part of a body, from the left: what stands before it is spelled, and no value that its place allows
-- is spelled where it begins.
use Rattle.std.specs.Prelude.{◌≡◌, ℕ, ◌+◌, ◌<◌, ◌^◌, Bool, true, ◌&&◌, ◌||◌, List, ◌∷◌, ◌++◌, length, take, nat_lt}
use Rattle.std.specs.Prelude.{is_some, if◌then◌else◌}
use Rattle.std.specs.Int.Digits.{number_from_digits}
use Rattle.jdwp_values.specs.declared.limit.Limit.{Limit}
use Rattle.jdwp_values.specs.declared.limit.Limit.TheVariants.{Any}
use Rattle.jdwp_values.specs.declared.sizes.IdSizes.{IdSizes}
use Rattle.jdwp_values.specs.Counts.{allows}
use Rattle.jdwp_values.specs.Parts.{Part, Of, type_tag_byte, simple, count, text, location, value, reference, untagged}
use Rattle.jdwp_values.specs.Reading.{reference_tag}
use Rattle.jdwp_values.specs.Spelling.{spell_part, FitsPart, InRangePart, Ends}
use Rattle.jdwp_values.specs.Tags.{type_tag_of, tag_of}
use Rattle.jdwp_events.specs.declared.composite.CompositeFault.{CompositeFault}
use Rattle.jdwp_events.specs.declared.composite.CompositeFault.TheVariants as composite_faults
use Rattle.jdwp_commands.specs.declared.fault.BodyFault.{BodyFault}
use Rattle.jdwp_commands.specs.declared.fault.BodyFault.TheVariants as body_faults
use Rattle.body_faults.specs.Layouts.{Cause, short, bad_count, bad_tag, bad_kind, bad_policy, trailing, Layout, ends}
use Rattle.body_faults.specs.Layouts.{begins, refuses}

-- A value of the part is spelled at the front of the bytes, and the rest stands behind it. A part that takes all that
-- is left takes eight bytes at most: behind fewer there is no rest.
pub record Stands (sizes : IdSizes) (p : Part) (bytes : List ℕ) (x : Of p) (rest : List ℕ) : Type 0 where
  pub fits : FitsPart sizes p x
  pub in_range : InRangePart p x
  pub spelled : bytes ≡ spell_part sizes p x ++ rest
  pub ends : length (spell_part sizes p x) < 8 → Ends p rest

-- no value of the part is spelled at the front of the bytes
abbrev pub HasNone : IdSizes → Part → List ℕ → Type 0
HasNone sizes p bytes = (x : Of p) (rest : List ℕ) → ¬ Stands sizes p bytes x rest

-- How many bytes the number takes that a part begins with and by which it can be bad: a count, or the byte of a tag. A
-- part with neither may begin with any byte. A value without its tag has that from what stands before.
abbrev pub lead_size : Part → ℕ
lead_size (count limit) = 4
lead_size text = 4
lead_size (untagged byte) = 0
lead_size p = 1

-- that number, where the bytes have all of it
abbrev pub lead : Part → List ℕ → ℕ
lead p bytes = number_from_digits 256 (take (lead_size p) bytes)

-- whether a number is a count that isn't negative and that the place allows
abbrev pub is_count : Limit → ℕ → Bool
is_count limit n = nat_lt n (2 ^ 31) && allows limit n

-- whether the part may begin with this number
abbrev pub may_lead : Part → ℕ → Bool
may_lead (simple type_tag_byte) n = is_some (type_tag_of n)
may_lead (count limit) n = is_count limit n
may_lead text n = is_count Any n
may_lead location n = is_some (type_tag_of n)
may_lead value n = is_some (tag_of n)
may_lead reference n = is_some (reference_tag (tag_of n))
may_lead (untagged byte) n = is_some (tag_of byte)
may_lead p n = true

-- the fault of a part that begins with another
abbrev pub bad_lead : Part → Cause
bad_lead (count limit) = bad_count
bad_lead text = bad_count
bad_lead p = bad_tag

-- Why no value of a part is spelled at the front of the bytes: that number is whole and may not stand there; else too
-- few bytes are left.
abbrev pub cause_of : Part → List ℕ → Cause
cause_of p bytes =
    if nat_lt (length bytes) (lead_size p) || may_lead p (lead p bytes) then short else bad_lead p

-- The first wrong part of what is left of a body stands so many bytes from here, for this cause.
pub data IsWrongAt (sizes : IdSizes) : Layout → List ℕ → ℕ → Cause → Type 0 where
  -- no value of the part is spelled here
  has_none : {p : Part} {behind : Of p → Layout} {bytes : List ℕ} → HasNone sizes p bytes
      → IsWrongAt sizes (begins p behind) bytes 0 (cause_of p bytes)
  -- one is, and it is none that stands here
  is_refused : {p : Part} {behind : Of p → Layout} {bytes : List ℕ} {cause : Cause} (x : Of p) (rest : List ℕ)
      → Stands sizes p bytes x rest → behind x ≡ refuses cause → IsWrongAt sizes (begins p behind) bytes 0 cause
  -- one is, and what is wrong stands behind it
  is_behind : {p : Part} {behind : Of p → Layout} {bytes : List ℕ} {at : ℕ} {cause : Cause} (x : Of p) (rest : List ℕ)
      → Stands sizes p bytes x rest → IsWrongAt sizes (behind x) rest at cause
      → IsWrongAt sizes (begins p behind) bytes (length (spell_part sizes p x) + at) cause
  -- all is spelled, and bytes are left
  is_left : {b : ℕ} {bytes : List ℕ} → IsWrongAt sizes ends (b ∷ bytes) 0 trailing

-- the fault of an answer's body; none of its bytes is a kind's or a policy's
abbrev pub body_fault_of : Cause → ℕ → BodyFault
body_fault_of short at = body_faults.Short at
body_fault_of bad_count at = body_faults.BadCount at
body_fault_of bad_tag at = body_faults.BadTag at
body_fault_of bad_kind at = body_faults.BadTag at
body_fault_of bad_policy at = body_faults.BadTag at
body_fault_of trailing at = body_faults.Trailing at

-- the fault of a composite
abbrev pub composite_fault_of : Cause → ℕ → CompositeFault
composite_fault_of short at = composite_faults.Short at
composite_fault_of bad_count at = composite_faults.BadCount at
composite_fault_of bad_tag at = composite_faults.BadTag at
composite_fault_of bad_kind at = composite_faults.BadKind at
composite_fault_of bad_policy at = composite_faults.BadPolicy at
composite_fault_of trailing at = composite_faults.Trailing at
