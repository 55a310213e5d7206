-- A region of an array (JDWP, Detailed Command Information, common data types, arrayregion): the byte of a tag, and a
-- list of values. Where the tag is a reference's each value stands behind a reference's tag of its own, else behind
-- none.
--
-- For a region and its elements: `x_at` reads one from a place, `spell_x` is its bytes, `FitsX` says that it has a
-- spelling, and `InRangeX` that its numbers are of their types.
use Rattle.std.specs.Prelude.{◌≡◌, ℕ, Bool, true, false, ◌==◌, List, [], ◌∷◌, ◌++◌, length, Option, Some, None, Result}
use Rattle.std.specs.Prelude.{Ok, Err, find}
use Rattle.std.specs.List.{AllByRecursion}
use Rattle.std.specs.Int.{bytes_high_first}
use Rattle.jdwp_values.specs.declared.fault.RowFault.{RowFault}
use Rattle.jdwp_values.specs.declared.fault.RowFault.TheVariants as faults
use Rattle.jdwp_values.specs.declared.fault.ValueFault.TheVariants.{BadTag}
use Rattle.jdwp_values.specs.declared.limit.Limit.{Limit}
use Rattle.jdwp_values.specs.declared.sizes.IdSizes.{IdSizes}
use Rattle.jdwp_values.specs.declared.tag.Tag.{Tag}
use Rattle.jdwp_values.specs.declared.tag.Tag.TheVariants as tags
use Rattle.jdwp_values.specs.declared.value.Value.{Value}
use Rattle.jdwp_values.specs.Counts.{allows}
use Rattle.jdwp_values.specs.Parts.{byte, reference, untagged}
use Rattle.jdwp_values.specs.Reading.{Place, offset, part_at}
use Rattle.jdwp_values.specs.Rows.{◌>>=◌, in_row, list_at, spell_list, FitsList}
use Rattle.jdwp_values.specs.Spelling.{spell_part, FitsPart, InRangePart}
use Rattle.jdwp_values.specs.Tags.{byte_of_tag, is_reference}
use Rattle.jdwp_commands.specs.declared.region.Region.{Region}

-- the tags that values of an array have: all but void's
abbrev pub region_tags : List Tag
region_tags = tags.Byte ∷ tags.Char ∷ tags.Double ∷ tags.Float ∷ tags.Int ∷ tags.Long ∷ tags.Short ∷ tags.Boolean
    ∷ tags.Object ∷ tags.Array ∷ tags.String ∷ tags.Thread ∷ tags.ThreadGroup ∷ tags.ClassLoader ∷ tags.ClassObject ∷ []

-- the tag of a region that has this byte
abbrev pub region_tag_of : ℕ → Option Tag
region_tag_of byte = find (λ tag. byte_of_tag tag == byte) region_tags

-- what a byte means, if it means something here
abbrev pub meant_at : {A : Type 0} → Option A → Place → Place → Result (A × Place) RowFault
meant_at (Some x) place rest = Ok (x, rest)
meant_at None place rest = Err (faults.Part (record { fault = BadTag; at = offset place }))

-- a byte that means something
abbrev pub meaning_at : {A : Type 0} → (ℕ → Option A) → Place → Result (A × Place) RowFault
meaning_at of_byte place = in_row (part_at byte place) >>= λ b. meant_at (of_byte b.0) place b.1

-- a value, with a reference's tag of its own where the region's tag is a reference's
abbrev pub value_behind : Bool → Tag → Place → Result (Value × Place) RowFault
value_behind true tag place = in_row (part_at reference place)
value_behind false tag place = in_row (part_at (untagged (byte_of_tag tag)) place)

-- an element of a region with this tag
abbrev pub element_at : Tag → Place → Result (Value × Place) RowFault
element_at tag = value_behind (is_reference tag) tag

-- the tag, and as many elements as the limit allows
unfoldable pub region_at : Limit → Place → Result (Region × Place) RowFault
region_at limit place =
    meaning_at region_tag_of place >>= λ tag.
    list_at limit (element_at tag.0) tag.1 >>= λ values.
    Ok (record { tag = tag.0; values = values.0 }, values.1)

-- the bytes of an element of a region with this tag
abbrev pub spell_behind : Bool → Tag → IdSizes → Value → List ℕ
spell_behind true tag sizes v = spell_part sizes reference v
spell_behind false tag sizes v = spell_part sizes (untagged (byte_of_tag tag)) v

abbrev pub spell_element : Tag → IdSizes → Value → List ℕ
spell_element tag = spell_behind (is_reference tag) tag

-- the tag's byte, the count of the elements, and the elements
abbrev pub spell_region : IdSizes → Region → List ℕ
spell_region sizes region =
    bytes_high_first 1 (byte_of_tag region.tag) ++ spell_list (spell_element region.tag sizes) region.values

-- an element that has a spelling in a region with this tag
abbrev pub FitsBehind : Bool → Tag → IdSizes → Value → Type 0
FitsBehind true tag sizes v = FitsPart sizes reference v
FitsBehind false tag sizes v = FitsPart sizes (untagged (byte_of_tag tag)) v

abbrev pub FitsElement : Tag → IdSizes → Value → Type 0
FitsElement tag = FitsBehind (is_reference tag) tag

-- a region that has a spelling, with as many values as its place allows
pub record FitsRegion (limit : Limit) (sizes : IdSizes) (region : Region) : Type 0 where
  pub tag : region_tag_of (byte_of_tag region.tag) ≡ Some region.tag
  pub values : FitsList (FitsElement region.tag sizes) region.values
  pub count : allows limit (length region.values) ≡ true

abbrev pub InRangeRegion : Region → Type 0
InRangeRegion region = AllByRecursion (InRangePart reference) region.values
