-- What is written: its ids pass, and its command has a spelling.
use Rattle.std.proofs.Common.{◌≡◌, ◌≢◌, ◌<◌, ◌≤◌, ◌^◌, ◌∷◌, ◌++◌, ℕ, zero, suc, Bool, true, false, cond, List, []}
use Rattle.std.proofs.Common.{Option, Some, None, refl, sym, subst, ◌∙◌, arith, length, option_map}
use Rattle.std.specs.List.{AllByRecursion as All}
use Rattle.std.specs.Int.{bytes_high_first, cast_unsigned, w8, w16, w32, w64}
use Rattle.std.specs.Option.{ok_or}
use Rattle.std.specs.Prelude.{Result, Ok, Err, bytes_eq, codes, if◌then◌else◌}
use Rattle.jdwp_commands.specs.Commands.{FitsCommand}
use Rattle.jdwp_values.proofs.Numbers.{length-bytes_high_first}
use Rattle.jdwp_values.specs.Spelling.{FitsValue}
use Rattle.jdwp_values.specs.Tags.{tag_of}
use Rattle.jdwp_values.specs.declared.id.ObjectId.{ObjectId}
use Rattle.jdwp_values.specs.declared.sizes.IdSizes.{IdSizes}
use Rattle.jdwp_values.specs.declared.tag.Tag.{Tag}
use Rattle.jdwp_values.specs.declared.tag.Tag.TheVariants as tags
use Rattle.jdwp_values.specs.declared.value.Value.{Value}
use Rattle.jdwp_values.specs.declared.value.Value.TheVariants as values
use Rattle.machine_model.specs.Children.{first_byte}
use Rattle.machine_model.specs.Ids.{Id, field, frame, ids_asked, ids_of_value, object}
use Rattle.machine_model.specs.Names.{Deed, Does, Failure, Store, Write, Writes, an_effect, to_element, to_field}
use Rattle.machine_model.specs.Names.{to_slot}
use Rattle.machine_model.specs.Replying.{wire}
use Rattle.machine_model.specs.State.{is_empty}
use Rattle.machine_model.specs.Writing.{good_size, untagged_bytes, value_for, value_or}
use Rattle.machine_model.proofs.IdRows.{FitsId, all_joined}
use Rattle.value_views.specs.Reads.{char_in, is_writable, null_in, truth_in, value_by, value_in, whole_in, write_value}
use Rattle.value_views.specs.declared.fault.WriteFault.TheVariants.{BadText, NotWritable}
use Rattle.machine_model.proofs.Bools.{always}

-- What is written has ids that pass -----------------------------------------------------------------------------------

-- where it stands
abbrev pub OfStore : (Id → Type 0) → Store → Type 0
OfStore P (to_slot thread one slot) = P (object thread.0) × P (frame thread.0 one.0)
OfStore P (to_field one number) = P (object one.0) × P (field number.0)
OfStore P (to_element array index) = P (object array.0)

abbrev pub is_nothing : Value → Bool
is_nothing values.Void = true
is_nothing _ = false

-- a value that is null or no reference, and is some bytes
pub record IsPlain (value : Value) : Type 0 where
  pub no_ids : ids_of_value value ≡ []
  pub some : is_nothing value ≡ false

pub record IsWrite (P : Id → Type 0) (write : Write) : Type 0 where
  pub of_store : OfStore P write.store
  pub plain : IsPlain write.value

abbrev pub OfDeed : (Id → Type 0) → Deed → Type 0
OfDeed P (Writes write) = IsWrite P write
OfDeed P _ = Unit {0}

-- Values that are read from texts -------------------------------------------------------------------------------------

abbrev OnValue : Option Value → Type 0
OnValue None = Unit {0}
OnValue (Some value) = IsPlain value

mapped : {A : Type 0} (make : A → Value) → ((a : A) → IsPlain (make a)) → (found : Option A)
    → OnValue (option_map make found)
mapped make k None = tt
mapped make k (Some a) = k a

nulls : (make : ObjectId → Value) → IsPlain (make (record { 0 = 0 })) → (text : List ℕ) → OnValue (option_map make (null_in text))
nulls make k text = by_text (bytes_eq text (codes "null"))
  where
    by_text : (is : Bool) → OnValue (option_map make (if is then Some (record { 0 = 0 }) else None))
    by_text true = k
    by_text false = tt

plain_in : (tag : Tag) (text : List ℕ) → OnValue (value_in tag text)
plain_in tags.Byte text = mapped values.Byte (λ n. record { no_ids = refl; some = refl }) (whole_in (2 ^ 7) text)
plain_in tags.Char text = mapped values.Char (λ n. record { no_ids = refl; some = refl }) (char_in text)
plain_in tags.Int text = mapped values.Int (λ n. record { no_ids = refl; some = refl }) (whole_in (2 ^ 31) text)
plain_in tags.Long text = mapped values.Long (λ n. record { no_ids = refl; some = refl }) (whole_in (2 ^ 63) text)
plain_in tags.Short text = mapped values.Short (λ n. record { no_ids = refl; some = refl }) (whole_in (2 ^ 15) text)
plain_in tags.Boolean text = mapped values.Boolean (λ n. record { no_ids = refl; some = refl }) (truth_in text)
plain_in tags.Object text = nulls values.Object (record { no_ids = refl; some = refl }) text
plain_in tags.Array text = nulls values.Array (record { no_ids = refl; some = refl }) text
plain_in tags.String text = nulls values.String (record { no_ids = refl; some = refl }) text
plain_in tags.Thread text = nulls values.Thread (record { no_ids = refl; some = refl }) text
plain_in tags.ThreadGroup text = nulls values.ThreadGroup (record { no_ids = refl; some = refl }) text
plain_in tags.ClassLoader text = nulls values.ClassLoader (record { no_ids = refl; some = refl }) text
plain_in tags.ClassObject text = nulls values.ClassObject (record { no_ids = refl; some = refl }) text
plain_in _ text = tt

abbrev pub OfValueRead : Result Value Failure → Type 0
OfValueRead (Ok value) = IsPlain value
OfValueRead (Err failure) = Unit {0}

pub value_read : (declared text : List ℕ) → OfValueRead (value_for declared text)
unfolding write_value
value_read declared text = by_tag (tag_of (first_byte declared))
  where
    found : (tag : Tag) (value : Option Value) → OnValue value → OfValueRead (value_or (Some tag) (ok_or value BadText))
    found tag None k = tt
    found tag (Some value) k = k

    writable : (tag : Tag) (is : Bool)
        → OfValueRead (value_or (Some tag) (if is then ok_or (value_in tag text) BadText else Err NotWritable))
    writable tag true = found tag (value_in tag text) (plain_in tag text)
    writable tag false = tt

    by_tag : (tag : Option Tag) → OfValueRead (value_or tag (value_by tag text))
    by_tag None = tt
    by_tag (Some tag) = writable tag (is_writable tag)

-- Commands ------------------------------------------------------------------------------------------------------------

without : (P : Id → Type 0) (value : Value) → IsPlain value → All P (ids_of_value value ++ [])
without P value k = all_joined P (ids_of_value value) [] (subst (λ (ids : List Id). All P ids) (sym k.no_ids) tt) tt

pub written_ids : (P : Id → Type 0) (write : Write) → IsWrite P write
    → All P (ids_asked (wire (an_effect (Does (Writes write)))))
written_ids P write k = by_store write.store k.of_store
  where
    by_store : (store : Store) → OfStore P store
        → All P (ids_asked (wire (an_effect (Does (Writes (record write { store = store }))))))
    by_store (to_slot thread one slot) h = (h.0, (h.1, without P write.value k.plain))
    by_store (to_field one number) h = (h.0, (h.1, tt))
    by_store (to_element array index) h = (h, tt)

pub written_sized : (write : Write) → cond (is_empty (ids_asked (wire (an_effect (Does (Writes write)))))) true true ≡ true
written_sized write = always (is_empty (ids_asked (wire (an_effect (Does (Writes write))))))

pub power : (n : ℕ) → 0 < 256 ^ n
power zero = omega arith
power (suc n) = omega (arith, power n)

good : (size : ℕ) → (1 ≤ good_size size) × (good_size size ≤ 8)
good size = (grind arith, grind arith)

bytes : (size n : ℕ) → 1 ≤ size → size ≤ 8
    → (1 ≤ length (bytes_high_first size n)) × (length (bytes_high_first size n) ≤ 8)
bytes size n one eight = (rw (length-bytes_high_first size n) one, rw (length-bytes_high_first size n) eight)

short_bytes : (size : ℕ) (value : Value) → is_nothing value ≡ false
    → (1 ≤ length (untagged_bytes (good_size size) value)) × (length (untagged_bytes (good_size size) value) ≤ 8)
short_bytes size (values.Byte n) is = bytes 1 (cast_unsigned w8 n) (omega arith) (omega arith)
short_bytes size (values.Char n) is = bytes 2 n (omega arith) (omega arith)
short_bytes size (values.Double n) is = bytes 8 n (omega arith) (omega arith)
short_bytes size (values.Float n) is = bytes 4 n (omega arith) (omega arith)
short_bytes size (values.Int n) is = bytes 4 (cast_unsigned w32 n) (omega arith) (omega arith)
short_bytes size (values.Long n) is = bytes 8 (cast_unsigned w64 n) (omega arith) (omega arith)
short_bytes size (values.Short n) is = bytes 2 (cast_unsigned w16 n) (omega arith) (omega arith)
short_bytes size (values.Boolean n) is = bytes 1 n (omega arith) (omega arith)
short_bytes size values.Void is = cc
short_bytes size (values.Object o) is = bytes (good_size size) o.0 (good size).0 (good size).1
short_bytes size (values.Array o) is = bytes (good_size size) o.0 (good size).0 (good size).1
short_bytes size (values.String o) is = bytes (good_size size) o.0 (good size).0 (good size).1
short_bytes size (values.Thread o) is = bytes (good_size size) o.0 (good size).0 (good size).1
short_bytes size (values.ThreadGroup o) is = bytes (good_size size) o.0 (good size).0 (good size).1
short_bytes size (values.ClassLoader o) is = bytes (good_size size) o.0 (good size).0 (good size).1
short_bytes size (values.ClassObject o) is = bytes (good_size size) o.0 (good size).0 (good size).1

-- null fits ids of any size
null_fits : (used : IdSizes) (id : ℕ) → ids_of_value (values.Object (record { 0 = id })) ≡ [] → id < 256 ^ used.object
null_fits used zero is = power used.object
null_fits used (suc id) is = cc

value_fits : (used : IdSizes) (value : Value) → ids_of_value value ≡ [] → FitsValue used value
value_fits used (values.Object o) is = null_fits used o.0 is
value_fits used (values.Array o) is = null_fits used o.0 is
value_fits used (values.String o) is = null_fits used o.0 is
value_fits used (values.Thread o) is = null_fits used o.0 is
value_fits used (values.ThreadGroup o) is = null_fits used o.0 is
value_fits used (values.ClassLoader o) is = null_fits used o.0 is
value_fits used (values.ClassObject o) is = null_fits used o.0 is
value_fits used _ is = tt

pub written_fits : (used : IdSizes) (write : Write) → IsPlain write.value
    → All (FitsId used) (ids_asked (wire (an_effect (Does (Writes write)))))
    → FitsCommand used (wire (an_effect (Does (Writes write))))
written_fits used write k h = by_store write.store h
  where
    by_store : (store : Store)
        → All (FitsId used) (ids_asked (wire (an_effect (Does (Writes (record write { store = store }))))))
        → FitsCommand used (wire (an_effect (Does (Writes (record write { store = store })))))
    by_store (to_slot thread one slot) h =
        (h.0, (h.1.0, ((omega arith, refl), (tt, (value_fits used write.value k.no_ids, tt)))))
    by_store (to_field one number) h =
        (h.0, ((omega arith, refl), (h.1.0, (short_bytes write.size write.value k.some, tt))))
    by_store (to_element array index) h =
        (h.0, (tt, ((omega arith, refl), (short_bytes write.size write.value k.some, tt))))
