use Rattle.std.proofs.Common.{◌≡◌, ℕ, Bool, true, false, cond, List, length, refl}
use Rattle.std.proofs.Common.{subst}
use Rattle.std.proofs.Common.{Option, Some, None, nat_eq, nat_lt, ℤ}
use Rattle.std.specs.Prelude.{Result, Ok, Err, ok_or, option_and_then, int_lt, nat_le, nat_abs, pos, ◌||◌}
use Rattle.jdwp_values.specs.declared.fault.ValueFault.{ValueFault}
use Rattle.jdwp_values.specs.declared.id.FieldId.{FieldId}
use Rattle.jdwp_values.specs.declared.id.FrameId.{FrameId}
use Rattle.jdwp_values.specs.declared.id.ObjectId.{ObjectId}
use Rattle.jdwp_values.specs.declared.id.ThreadId.{ThreadId}
use Rattle.jdwp_values.specs.declared.sizes.IdSizes.{IdSizes}
use Rattle.jdwp_values.specs.declared.tag.Tag.{Tag}
use Rattle.jdwp_values.specs.declared.tag.Tag.TheVariants as tags
use Rattle.jdwp_values.specs.declared.value.Value.{Value}
use Rattle.jdwp_values.specs.declared.value.Value.TheVariants as values
use Rattle.jdwp_values.specs.Parts.{tag_of_value}
use Rattle.jdwp_values.specs.Reading.{◌>>=◌, Place, placed, part_at, untagged_at, tagged, of_tag_at, as_value}
use Rattle.jdwp_values.specs.Spelling.{FitsValue}
use Rattle.jdwp_values.specs.Tags.{tag_of, byte_of_tag}
use Rattle.world_model.specs.declared.rows.Put.{Put}
use Rattle.world_model.specs.declared.rows.WorldArray.{WorldArray}
use Rattle.world_model.specs.declared.rows.WorldField.{WorldField}
use Rattle.world_model.specs.declared.rows.WorldFrame.{WorldFrame}
use Rattle.world_model.specs.declared.rows.WorldObject.{WorldObject}
use Rattle.world_model.specs.declared.world.World.{World}
use Rattle.world_model.specs.Classes.{and_then}
use Rattle.world_model.specs.Codes.{invalid_object, not_implemented}
use Rattle.world_model.specs.Kept.{program_of, values_of}
use Rattle.world_model.specs.Kinds.{same_kind, kind_in}
use Rattle.world_model.specs.Objects.{reference_in, object_at, array_at, array_in, object_fault, kind_of_array}
use Rattle.world_model.specs.Objects.{field_of}
use Rattle.world_model.specs.Sound.{AreValues, IsElement}
use Rattle.world_model.specs.Storing.{whole, untagged_value, kept_value, value_from, put_of}
use Rattle.world_model.specs.Storing.{field_put, field_stored, element_put, element_stored, slot_put, slot_stored}
use Rattle.world_model.specs.Threads.{frame_at, slot_in}
use Rattle.world_model.proofs.ReferenceLaws.{IsReference, reference_is}

-- Results ------------------------------------------------------------------------------------------------------------

pub and_then_ok : {A B : Type 0} (of : A → Result B ℕ) (found : Result A ℕ) (y : B) → and_then of found ≡ Ok y
    → (x : A) × (found ≡ Ok x) × (of x ≡ Ok y)
and_then_ok of (Ok x) y h = (x, refl, h)
and_then_ok of (Err code) y h = absurd cc

pub ok_or_ok : {A : Type 0} (found : Option A) (code : ℕ) (x : A) → ok_or found code ≡ Ok x → found ≡ Some x
ok_or_ok (Some y) code x h = cc
ok_or_ok None code x h = absurd cc

-- Values that are kept -----------------------------------------------------------------------------------------------

-- what is kept of a value: its id fits, and it is of the same kind
pub record IsKept (sizes : IdSizes) (value kept : Value) : Type 0 where
  pub fits : FitsValue sizes kept
  pub kind : same_kind (tag_of_value value) (tag_of_value kept) ≡ true

by_reference : (w : World) (id : ObjectId) (kept : Value) → AreValues (program_of w) (values_of w)
    → ok_or (reference_in w id) invalid_object ≡ Ok kept → IsReference w.sizes kept
by_reference w id kept s h = reference_is w id kept s (ok_or_ok (reference_in w id) invalid_object kept h)

pub kept_is : (w : World) (value kept : Value) → AreValues (program_of w) (values_of w)
    → kept_value w value ≡ Ok kept → IsKept w.sizes value kept
kept_is w (values.Object id) kept s h = let r = by_reference w id kept s h in record { fits = r.fits; kind = r.is }
kept_is w (values.Array id) kept s h = let r = by_reference w id kept s h in record { fits = r.fits; kind = r.is }
kept_is w (values.String id) kept s h = let r = by_reference w id kept s h in record { fits = r.fits; kind = r.is }
kept_is w (values.Thread id) kept s h = let r = by_reference w id kept s h in record { fits = r.fits; kind = r.is }
kept_is w (values.ThreadGroup id) kept s h = let r = by_reference w id kept s h in record { fits = r.fits; kind = r.is }
kept_is w (values.ClassLoader id) kept s h = let r = by_reference w id kept s h in record { fits = r.fits; kind = r.is }
kept_is w (values.ClassObject id) kept s h = let r = by_reference w id kept s h in record { fits = r.fits; kind = r.is }
kept_is w (values.Byte x) kept s h = let e : values.Byte x ≡ kept = cc in
    subst (IsKept w.sizes (values.Byte x)) e (record { fits = tt; kind = refl })
kept_is w (values.Char x) kept s h = let e : values.Char x ≡ kept = cc in
    subst (IsKept w.sizes (values.Char x)) e (record { fits = tt; kind = refl })
kept_is w (values.Double x) kept s h = let e : values.Double x ≡ kept = cc in
    subst (IsKept w.sizes (values.Double x)) e (record { fits = tt; kind = refl })
kept_is w (values.Float x) kept s h = let e : values.Float x ≡ kept = cc in
    subst (IsKept w.sizes (values.Float x)) e (record { fits = tt; kind = refl })
kept_is w (values.Int x) kept s h = let e : values.Int x ≡ kept = cc in
    subst (IsKept w.sizes (values.Int x)) e (record { fits = tt; kind = refl })
kept_is w (values.Long x) kept s h = let e : values.Long x ≡ kept = cc in
    subst (IsKept w.sizes (values.Long x)) e (record { fits = tt; kind = refl })
kept_is w (values.Short x) kept s h = let e : values.Short x ≡ kept = cc in
    subst (IsKept w.sizes (values.Short x)) e (record { fits = tt; kind = refl })
kept_is w (values.Boolean x) kept s h = let e : values.Boolean x ≡ kept = cc in
    subst (IsKept w.sizes (values.Boolean x)) e (record { fits = tt; kind = refl })
kept_is w values.Void kept s h = let e : values.Void ≡ kept = cc in
    subst (IsKept w.sizes values.Void) e (record { fits = tt; kind = refl })

-- Values that are read -----------------------------------------------------------------------------------------------

as_value_tag : {A : Type 0} (make : A → Value) (tag : Tag) → ((x : A) → tag_of_value (make x) ≡ tag)
    → (read : Result (A × List ℕ) ValueFault) (found : Value × List ℕ) → as_value make read ≡ Ok found
    → tag_of_value found.0 ≡ tag
as_value_tag make tag is (Ok x) found h =
    let same : ◌≡◌ {A = Value × List ℕ} (make x.0, x.1) found = cc in
    subst (λ (y : Value × List ℕ). tag_of_value y.0 ≡ tag) same (is x.0)
as_value_tag make tag is (Err fault) found h = absurd cc

of_tag_is : (sizes : IdSizes) (tag : Tag) (bytes : List ℕ) (found : Value × List ℕ)
    → of_tag_at sizes tag bytes ≡ Ok found → tag_of_value found.0 ≡ tag
unfolding of_tag_at
of_tag_is sizes tags.Byte bytes found h = as_value_tag values.Byte tags.Byte (λ x. refl) _ found h
of_tag_is sizes tags.Char bytes found h = as_value_tag values.Char tags.Char (λ x. refl) _ found h
of_tag_is sizes tags.Double bytes found h = as_value_tag values.Double tags.Double (λ x. refl) _ found h
of_tag_is sizes tags.Float bytes found h = as_value_tag values.Float tags.Float (λ x. refl) _ found h
of_tag_is sizes tags.Int bytes found h = as_value_tag values.Int tags.Int (λ x. refl) _ found h
of_tag_is sizes tags.Long bytes found h = as_value_tag values.Long tags.Long (λ x. refl) _ found h
of_tag_is sizes tags.Short bytes found h = as_value_tag values.Short tags.Short (λ x. refl) _ found h
of_tag_is sizes tags.Boolean bytes found h = as_value_tag values.Boolean tags.Boolean (λ x. refl) _ found h
of_tag_is sizes tags.Void bytes found h =
    let same : ◌≡◌ {A = Value × List ℕ} (values.Void, bytes) found = cc in
    subst (λ (y : Value × List ℕ). tag_of_value y.0 ≡ tags.Void) same refl
of_tag_is sizes tags.Object bytes found h = as_value_tag values.Object tags.Object (λ x. refl) _ found h
of_tag_is sizes tags.Array bytes found h = as_value_tag values.Array tags.Array (λ x. refl) _ found h
of_tag_is sizes tags.String bytes found h = as_value_tag values.String tags.String (λ x. refl) _ found h
of_tag_is sizes tags.Thread bytes found h = as_value_tag values.Thread tags.Thread (λ x. refl) _ found h
of_tag_is sizes tags.ThreadGroup bytes found h = as_value_tag values.ThreadGroup tags.ThreadGroup (λ x. refl) _ found h
of_tag_is sizes tags.ClassLoader bytes found h = as_value_tag values.ClassLoader tags.ClassLoader (λ x. refl) _ found h
of_tag_is sizes tags.ClassObject bytes found h = as_value_tag values.ClassObject tags.ClassObject (λ x. refl) _ found h

-- the byte of each tag is the tag's
tag_again : (tag : Tag) → tag_of (byte_of_tag tag) ≡ Some tag
tag_again tags.Byte = refl
tag_again tags.Char = refl
tag_again tags.Double = refl
tag_again tags.Float = refl
tag_again tags.Int = refl
tag_again tags.Long = refl
tag_again tags.Short = refl
tag_again tags.Boolean = refl
tag_again tags.Void = refl
tag_again tags.Object = refl
tag_again tags.Array = refl
tag_again tags.String = refl
tag_again tags.Thread = refl
tag_again tags.ThreadGroup = refl
tag_again tags.ClassLoader = refl
tag_again tags.ClassObject = refl

untagged_is : (sizes : IdSizes) (tag : Tag) (bytes : List ℕ) (found : Value × List ℕ)
    → untagged_at sizes (byte_of_tag tag) bytes ≡ Ok found → tag_of_value found.0 ≡ tag
unfolding untagged_at
untagged_is sizes tag bytes found h =
    of_tag_is sizes tag bytes found
    (subst (λ (o : Option Tag). (tagged o bytes >>= λ t. of_tag_at sizes t.0 t.1) ≡ Ok found) (tag_again tag) h)

placed_is : (tag : Tag) (place : Place) (read : Result (Value × List ℕ) ValueFault) (v : Value)
    → ((found : Value × List ℕ) → read ≡ Ok found → tag_of_value found.0 ≡ tag) → whole (placed place read) ≡ Some v
    → tag_of_value v ≡ tag
placed_is tag place (Err fault) v is h = absurd cc
placed_is tag place (Ok found) v is h = by (nat_eq (length found.1) 0) h where
  by : (b : Bool) → cond b (Some found.0) None ≡ Some v → tag_of_value v ≡ tag
  by true e = let same : found.0 ≡ v = cc in subst (λ y. tag_of_value y ≡ tag) same (is found refl)
  by false e = absurd cc

-- bytes that are a value of a kind
pub value_is : (sizes : IdSizes) (tag : Tag) (bytes : List ℕ) (v : Value) → untagged_value sizes tag bytes ≡ Some v
    → tag_of_value v ≡ tag
unfolding part_at
value_is sizes tag bytes v h = by (nat_lt 8 (length bytes)) h where
  by : (b : Bool)
      → cond b None (whole (placed (record { sizes = sizes; body = bytes; rest = bytes })
      (untagged_at sizes (byte_of_tag tag) bytes))) ≡ Some v → tag_of_value v ≡ tag
  by true e = absurd cc
  by false e = placed_is tag (record { sizes = sizes; body = bytes; rest = bytes })
      (untagged_at sizes (byte_of_tag tag) bytes) v (untagged_is sizes tag bytes) e

-- What is kept in a place of a kind ----------------------------------------------------------------------------------

kinds_meet : (kind : Option Tag) (tag : Tag) → kind ≡ Some tag → (sizes : IdSizes) (bytes : List ℕ) (v : Value)
    → option_and_then (λ t. untagged_value sizes t bytes) kind ≡ Some v → tag_of_value v ≡ tag
kinds_meet None tag e sizes bytes v h = absurd cc
kinds_meet (Some other) tag e sizes bytes v h =
    let same : other ≡ tag = cc in subst (λ t. tag_of_value v ≡ t) same (value_is sizes other bytes v h)

pub from_bytes : (w : World) (bytes : List ℕ) (kind : Option Tag) (v : Value) → AreValues (program_of w) (values_of w)
    → value_from w bytes kind ≡ Ok v
    → FitsValue w.sizes v × ((tag : Tag) → kind ≡ Some tag → IsElement w.sizes tag v)
from_bytes w bytes kind v s h =
    let read = option_and_then (λ tag. untagged_value w.sizes tag bytes) kind in
    let x = and_then_ok (kept_value w) (ok_or read not_implemented) v h in
    let k = kept_is w x.0 v s x.2 in
    let is = ok_or_ok read not_implemented x.0 x.1 in (
      k.fits,
      λ tag e. (
        subst (λ t. same_kind t (tag_of_value v) ≡ true) (kinds_meet kind tag e w.sizes bytes x.0 is) k.kind,
        k.fits,
      ),
    )

-- What is put --------------------------------------------------------------------------------------------------------

pub put_fits : (w : World) (id : ObjectId) (field : FieldId) (found : Result Value ℕ) (put : Put)
    → ((v : Value) → found ≡ Ok v → FitsValue w.sizes v) → put_of id field found ≡ Ok put → FitsValue w.sizes put.value
put_fits w id field (Err code) put is h = absurd cc
put_fits w id field (Ok v) put is h =
    let same : ◌≡◌ {A = Put} (record { object = id; field = field; value = v }) put = cc in
    subst (λ (p : Put). FitsValue w.sizes p.value) same (is v refl)

field_fits : (w : World) (object : WorldObject) (field : FieldId) (bytes : List ℕ) (row : Option WorldField) (put : Put)
    → AreValues (program_of w) (values_of w) → field_put w object field bytes row ≡ Ok put
    → FitsValue w.sizes put.value
field_fits w object field bytes None put s h = absurd cc
field_fits w object field bytes (Some row) put s h =
    put_fits w object.id field (value_from w bytes (kind_in row.field.signature)) put
    (λ v e. (from_bytes w bytes (kind_in row.field.signature) v s e).0) h

-- what is put to a field has an id that fits
pub put_is : (w : World) (id : ObjectId) (field : FieldId) (bytes : List ℕ) (put : Put)
    → AreValues (program_of w) (values_of w) → field_stored w id field bytes ≡ Ok put → FitsValue w.sizes put.value
put_is w id field bytes put s h =
    let x = and_then_ok (λ (object : WorldObject). field_put w object field bytes (field_of w object.class field))
    (object_at w id) put h in
    field_fits w x.0 field bytes (field_of w x.0.class field) put s x.2

slot_fits : (w : World) (value : Value) (held : Option Value) (kept : Value) → AreValues (program_of w) (values_of w)
    → slot_put w value held ≡ Ok kept → FitsValue w.sizes kept
slot_fits w value None kept s h = absurd cc
slot_fits w value (Some held) kept s h = by (same_kind (tag_of_value held) (tag_of_value value)) h where
  by : (b : Bool) → cond b (kept_value w value) (Err not_implemented) ≡ Ok kept → FitsValue w.sizes kept
  by true e = (kept_is w value kept s e).fits
  by false e = absurd cc

-- what is put to a slot has an id that fits
pub slot_is : (w : World) (thread : ThreadId) (frame : FrameId) (slot : ℤ) (value kept : Value)
    → AreValues (program_of w) (values_of w) → slot_stored w thread frame slot value ≡ Ok kept
    → FitsValue w.sizes kept
slot_is w thread frame slot value kept s h =
    let x = and_then_ok (λ (row : WorldFrame). slot_put w value (slot_in row.slots slot))
    (frame_at w thread frame) kept h in
    slot_fits w value (slot_in x.0.slots slot) kept s x.2

element_fits : (w : World) (row : WorldArray) (first : ℤ) (bytes : List ℕ) (kept : Value)
    → AreValues (program_of w) (values_of w) → element_put w row first bytes ≡ Ok kept
    → (tag : Tag) → kind_of_array w row ≡ Some tag → IsElement w.sizes tag kept
element_fits w row first bytes kept s h =
    by (int_lt first (pos 0) || nat_le (length row.values) (nat_abs first)) h where
      by : (b : Bool) → cond b (Err not_implemented) (value_from w bytes (kind_of_array w row)) ≡ Ok kept
          → (tag : Tag) → kind_of_array w row ≡ Some tag → IsElement w.sizes tag kept
      by true e = absurd cc
      by false e = (from_bytes w bytes (kind_of_array w row) kept s e).1

-- what is put to an element is of the kind of the array that is found
pub record IsForArray (w : World) (id : ObjectId) (kept : Value) : Type 0 where
  pub row : WorldArray
  pub is_row : array_in w id ≡ Some row
  pub element : (tag : Tag) → kind_of_array w row ≡ Some tag → IsElement w.sizes tag kept

pub element_is : (w : World) (id : ObjectId) (first : ℤ) (bytes : List ℕ) (kept : Value)
    → AreValues (program_of w) (values_of w) → element_stored w id first bytes ≡ Ok kept → IsForArray w id kept
element_is w id first bytes kept s h =
    let x = and_then_ok (λ (row : WorldArray). element_put w row first bytes) (array_at w id) kept h in
    record {
      row = x.0;
      is_row = ok_or_ok (array_in w id) (object_fault w id) x.0 x.1;
      element = element_fits w x.0 first bytes kept s x.2;
    }
