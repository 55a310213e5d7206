-- A part that was read is read again from what is printed of it.
use Rattle.std.proofs.Common.{◌≡◌, ℕ, zero, suc, ◌<◌, ◌-◌, ◌^◌, ◌+◌, ℤ, pos, negsuc, Bool, true, false, if◌then◌else◌, List, [], ◌∷◌}
use Rattle.std.proofs.Common.{Option, Some, None, option_map, option_and_then, map, nat_le, nat_lt, int_le, ◌&&◌, not, is_some, FitsSigned, IsUtf8}
use Rattle.std.proofs.Common.{refl, sym, subst, ap, ◌∙◌, arith}
use Rattle.std.specs.Int.{w64, cast_signed, cast_unsigned}
use Rattle.std.specs.Str.{is_utf8}
use Rattle.std.proofs.lemmas.Bool.{and_parts, leb-true}
use Rattle.std.proofs.lemmas.Int.{to_z-of_z}
use Rattle.std.proofs.lemmas.Option.{cond_some, none-some, same_Some, option_and_then_some}
use Rattle.std.proofs.lemmas.Str.{IsUtf8-from_is_utf8}
use Rattle.jdwp_values.proofs.LossyLaws.{itself}
use Rattle.jdwp_values.specs.Lossy.{lossy}
use Rattle.jdwp_values.specs.declared.class.Line.{Line}
use Rattle.jdwp_values.specs.declared.tag.Tag.{Tag}
use Rattle.jdwp_values.specs.declared.tag.Tag.TheVariants as tags
use Rattle.jdwp_values.specs.declared.tag.TypeTag.{TypeTag}
use Rattle.jdwp_values.specs.declared.tag.TypeTag.TheVariants as type_tags
use Rattle.jdwp_values.specs.declared.value.Value.{Value}
use Rattle.jdwp_values.specs.declared.value.Value.TheVariants as values
use Rattle.jdwp_events.specs.declared.kind.Policy.{Policy}
use Rattle.jdwp_events.specs.declared.kind.Policy.TheVariants as policies
use Rattle.wire_core.specs.declared.outside.Side.{Side}
use Rattle.wire_core.specs.declared.outside.Side.TheVariants.{Client, Target}
use Rattle.slot_values.specs.declared.slot.SlotValue.{SlotValue}
use Rattle.serde_json.specs.Data.{Data, null, Num, unsigned, negative, float, Items, no_items, item}
use Rattle.serde_json.specs.Written.{has_float}
use Rattle.serde_json.specs.Find.{as_array, as_number, as_object, as_str, as_u64, as_integer, of_integer}
use Rattle.serde_json.specs.View.{items_of}
use Rattle.line_elements.proofs.BitLaws.{bits_again}
use Rattle.line_elements.specs.declared.version.Version.{Version}
use Rattle.line_elements.specs.declared.version.Version.TheVariants.{First, Second}
use Rattle.line_elements.specs.Numbers.{natural_within, natural_of, natural_data, signed_within, signed_of, signed_data}
use Rattle.line_elements.specs.Numbers.{int_of, long_of, index_of, index_data, utf8_text, text_of, text_data}
use Rattle.line_elements.specs.Numbers.{text_or_null_of, text_or_null_data, version_of, version_data}
use Rattle.line_elements.specs.Values.{tag_of_text, tag_in, tag_data, is_object_tag, only_object, object_tag_of}
use Rattle.line_elements.specs.Values.{class_tag_at, class_tag_of}
use Rattle.line_elements.specs.Values.{class_tag_data, policy_at, policy_of, policy_data, side_of, side_data, pair_of}
use Rattle.line_elements.specs.Values.{each_of}
use Rattle.line_elements.specs.Values.{list_of, list_data, at_most, plain_bits, bits_in, bits_data, tagged_of, value_in}
use Rattle.line_elements.specs.Values.{value_of, value_data}
use Rattle.line_elements.specs.Values.{slot_in}
use Rattle.line_elements.specs.Values.{slot_of, slot_data, line_in, line_of, line_data, lines_of, lines_data}
use Rattle.line_elements.specs.Values.{arguments_of}
use Rattle.line_elements.specs.Parts.{Part, natural, int, long, index, text, text_or_null, word, truth, class_tag}
use Rattle.line_elements.specs.Parts.{object_tag}
use Rattle.line_elements.specs.Parts.{policy, side, value, values as value_list, slots, lines, arguments, version as version_part}
use Rattle.line_elements.specs.Parts.{Of}
use Rattle.line_elements.specs.Parts.{part_of, part_data}

-- ---- options

-- a test that was passed is passed again
test_again : {A : Type 0} (test : A → Bool) (x y : A) → (if test x then Some x else None) ≡ Some y →
    (if test y then Some y else None) ≡ Some y
test_again {A} test x y e =
    let p = cond_some (test x) x y e in
    subst (λ (z : A). (if test z then Some z else None) ≡ Some y) p.1 e

map_some : {A B P : Type 0} (f : A → B) (o : Option A) (y : B) → option_map f o ≡ Some y →
    ((x : A) → o ≡ Some x → f x ≡ y → P) → P
map_some f None y e k = absurd (none-some y e)
map_some f (Some x) y e k = k x refl (same_Some (f x) y e)

-- ---- numbers

pub natural_again : (least bound : ℕ) (d : Data) (n : ℕ) → natural_of least bound d ≡ Some n →
    natural_of least bound (natural_data n) ≡ Some n
natural_again least bound d n e =
    option_and_then_some (natural_within least bound) (option_and_then as_u64 (as_number d)) n e
    (λ m _ within. test_again (λ k. nat_le least k && nat_lt k bound) m n within)

integer_again : (z : ℤ) → as_integer (of_integer z) ≡ Some z
integer_again (pos n) = refl
integer_again (negsuc n) = refl

signed_within-again : (least most z : ℤ) → signed_within least most z ≡ Some z →
    signed_of least most (signed_data z) ≡ Some z
signed_within-again least most z e = ap (option_and_then (signed_within least most)) (integer_again z) ∙ e

signed_inside : (least most : ℤ) (d : Data) (z : ℤ) → signed_of least most d ≡ Some z → signed_within least most z ≡ Some z
signed_inside least most d z e =
    option_and_then_some (signed_within least most) (option_and_then as_integer (as_number d)) z e
    (λ y _ within. test_again (λ x. int_le least x && int_le x most) y z within)

pub signed_again : (least most : ℤ) (d : Data) (z : ℤ) → signed_of least most d ≡ Some z →
    signed_of least most (signed_data z) ≡ Some z
signed_again least most d z e = signed_within-again least most z (signed_inside least most d z e)

index_fits : (z : ℤ) → (int_le (negsuc 0) z && int_le z (pos (2 ^ 63 - 1))) ≡ true → FitsSigned w64 z
index_fits (pos n) e = record { sfits = omega (arith, leb-true n (2 ^ 63 - 1) e) }
index_fits (negsuc n) e =
    record { sfits = omega (arith, leb-true n 0 (and_parts (nat_le n 0) true e).0) }

index_again : (d : Data) (n : ℕ) → index_of d ≡ Some n → index_of (index_data n) ≡ Some n
index_again d n e =
    map_some (cast_unsigned w64) (signed_of (negsuc 0) (pos (2 ^ 63 - 1)) d) n e
    (λ z found is.
    let inside = signed_inside (negsuc 0) (pos (2 ^ 63 - 1)) d z found in
    let fits = index_fits z (cond_some (int_le (negsuc 0) z && int_le z (pos (2 ^ 63 - 1))) z z inside).0 in
    let back : cast_signed w64 n ≡ z = ap (cast_signed w64) (sym is) ∙ to_z-of_z w64 z fits in
    ap (λ y. option_map (cast_unsigned w64) (signed_of (negsuc 0) (pos (2 ^ 63 - 1)) (signed_data y))) back
    ∙ ap (option_map (cast_unsigned w64)) (signed_within-again (negsuc 0) (pos (2 ^ 63 - 1)) z inside)
    ∙ ap Some is)

version_again : (version : Option Version) → version_of (version_data version) ≡ Some version
version_again None = refl
version_again (Some First) = refl
version_again (Some Second) = refl

-- ---- texts

utf8_again : (s t : List ℕ) → utf8_text s ≡ Some t → text_of (text_data t) ≡ Some t
utf8_again s t e =
    let again = test_again is_utf8 s t e in
    let utf8 = IsUtf8-from_is_utf8 t (cond_some (is_utf8 t) t t again).0 in
    ap utf8_text (itself t utf8) ∙ again

text_again : (d : Data) (s : List ℕ) → text_of d ≡ Some s → text_of (text_data s) ≡ Some s
text_again d s e = option_and_then_some utf8_text (as_str d) s e (λ t _ is. utf8_again t s is)

text_or_null_again : (d : Data) (s : Option (List ℕ)) → text_or_null_of d ≡ Some s →
    text_or_null_of (text_or_null_data s) ≡ Some s
text_or_null_again null s e = subst (λ o. text_or_null_of (text_or_null_data o) ≡ Some o) (same_Some None s e) refl
text_or_null_again (Data.boolean b) s e = absurd (none-some s e)
text_or_null_again (Data.number n) s e = absurd (none-some s e)
text_or_null_again (Data.string t) s e =
    map_some Some (utf8_text t) s e
    (λ u found is. subst (λ o. text_or_null_of (text_or_null_data o) ≡ Some o) is
    (ap (option_map Some) (utf8_again t u found)))
text_or_null_again (Data.array ds) s e = absurd (none-some s e)
text_or_null_again (Data.object ms) s e = absurd (none-some s e)

-- ---- tags, and the like

tag_again : (tag : Tag) → tag_in (tag_data tag) ≡ Some tag
tag_again tags.Byte = refl
tag_again tags.Char = refl
tag_again tags.Double = refl
tag_again tags.Float = refl
tag_again tags.Int = refl
tag_again tags.Long = refl
tag_again tags.Short = refl
tag_again tags.Boolean = refl
tag_again tags.Void = refl
tag_again tags.Object = refl
tag_again tags.Array = refl
tag_again tags.String = refl
tag_again tags.Thread = refl
tag_again tags.ThreadGroup = refl
tag_again tags.ClassLoader = refl
tag_again tags.ClassObject = refl

object_tag_again : (d : Data) (tag : Tag) → object_tag_of d ≡ Some tag → object_tag_of (tag_data tag) ≡ Some tag
object_tag_again d tag e =
    option_and_then_some only_object (tag_in d) tag e
    (λ t _ only. ap (option_and_then only_object) (tag_again tag) ∙ test_again is_object_tag t tag only)

class_tag_at-again : (n : ℕ) (tag : TypeTag) → class_tag_at n ≡ Some tag → class_tag_of (class_tag_data tag) ≡ Some tag
class_tag_at-again zero tag e = absurd (none-some tag e)
class_tag_at-again (suc zero) tag e = subst (λ t. class_tag_of (class_tag_data t) ≡ Some t) (same_Some _ tag e) refl
class_tag_at-again (suc (suc zero)) tag e = subst (λ t. class_tag_of (class_tag_data t) ≡ Some t) (same_Some _ tag e) refl
class_tag_at-again (suc (suc (suc zero))) tag e =
    subst (λ t. class_tag_of (class_tag_data t) ≡ Some t) (same_Some _ tag e) refl
class_tag_at-again (suc (suc (suc (suc n)))) tag e = absurd (none-some tag e)

policy_at-again : (n : ℕ) (p : Policy) → policy_at n ≡ Some p → policy_of (policy_data p) ≡ Some p
policy_at-again zero p e = subst (λ q. policy_of (policy_data q) ≡ Some q) (same_Some _ p e) refl
policy_at-again (suc zero) p e = absurd (none-some p e)
policy_at-again (suc (suc zero)) p e = subst (λ q. policy_of (policy_data q) ≡ Some q) (same_Some _ p e) refl
policy_at-again (suc (suc (suc n))) p e = absurd (none-some p e)

side_again : (s : Side) → side_of (side_data s) ≡ Some s
side_again Client = refl
side_again Target = refl

-- ---- values

-- bits are read in the second version, whichever they were read in
bits_in_again : (version : Version) (most : ℕ) (d : Data) (n : ℕ) → most < 2 ^ 64 → bits_in version most d ≡ Some n →
    bits_in Second most (bits_data n) ≡ Some n
bits_in_again version most d n small e =
    option_and_then_some (at_most most) (plain_bits version d) n e
    (λ m _ within.
    let again = test_again (λ k. nat_le k most) m n within in
    let fits = leb-true n most (cond_some (nat_le n most) n n again).0 in
    ap (option_and_then (at_most most)) (bits_again n (omega (arith, small, fits))) ∙ again)

tagged_again : {A : Type 0} (make : A → Value) (read later : Data → Option A) (write : A → Data) (d : Data) (v : Value) →
    ((x : A) → read d ≡ Some x → later (write x) ≡ Some x) →
    ((x : A) → value_of Second (value_data (make x)) ≡ option_map make (later (write x))) →
    option_map make (read d) ≡ Some v → value_of Second (value_data v) ≡ Some v
tagged_again make read later write d v again shown e =
    map_some make (read d) v e
    (λ x found is. subst (λ u. value_of Second (value_data u) ≡ Some u) is
    (shown x ∙ ap (option_map make) (again x found)))

signed_value : (make : ℤ → Value) (least most : ℤ) (d : Data) (v : Value) →
    ((x : ℤ) → value_of Second (value_data (make x)) ≡ option_map make (signed_of least most (signed_data x))) →
    option_map make (signed_of least most d) ≡ Some v → value_of Second (value_data v) ≡ Some v
signed_value make least most d v shown e =
    tagged_again make (signed_of least most) (signed_of least most) signed_data d v (signed_again least most d) shown e

bits_value : (make : ℕ → Value) (version : Version) (most : ℕ) (d : Data) (v : Value) → most < 2 ^ 64 →
    ((x : ℕ) → value_of Second (value_data (make x)) ≡ option_map make (bits_in Second most (bits_data x))) →
    option_map make (bits_in version most d) ≡ Some v → value_of Second (value_data v) ≡ Some v
bits_value make version most d v small shown e =
    tagged_again make (bits_in version most) (bits_in Second most) bits_data d v
    (λ n found. bits_in_again version most d n small found) shown e

by_tag : (version : Version) (tag : Tag) (d : Data) (v : Value) → tagged_of version tag d ≡ Some v →
    value_of Second (value_data v) ≡ Some v
by_tag version tags.Byte d v e = signed_value values.Byte (negsuc 127) (pos 127) d v (λ x. refl) e
by_tag version tags.Char d v e = bits_value values.Char version (2 ^ 16 - 1) d v (omega arith) (λ x. refl) e
by_tag version tags.Double d v e = bits_value values.Double version (2 ^ 64 - 1) d v (omega arith) (λ x. refl) e
by_tag version tags.Float d v e = bits_value values.Float version (2 ^ 32 - 1) d v (omega arith) (λ x. refl) e
by_tag version tags.Int d v e =
    signed_value values.Int (negsuc (2 ^ 31 - 1)) (pos (2 ^ 31 - 1)) d v (λ x. refl) e
by_tag version tags.Long d v e =
    signed_value values.Long (negsuc (2 ^ 63 - 1)) (pos (2 ^ 63 - 1)) d v (λ x. refl) e
by_tag version tags.Short d v e =
    signed_value values.Short (negsuc (2 ^ 15 - 1)) (pos (2 ^ 15 - 1)) d v (λ x. refl) e
by_tag version tags.Boolean d v e = bits_value values.Boolean version 255 d v (omega arith) (λ x. refl) e
by_tag version tags.Void d v e = absurd (none-some v e)
by_tag version tags.Object d v e =
    bits_value (λ n. values.Object (record { 0 = n })) version (2 ^ 64 - 1) d v (omega arith) (λ x. refl) e
by_tag version tags.Array d v e =
    bits_value (λ n. values.Array (record { 0 = n })) version (2 ^ 64 - 1) d v (omega arith) (λ x. refl) e
by_tag version tags.String d v e =
    bits_value (λ n. values.String (record { 0 = n })) version (2 ^ 64 - 1) d v (omega arith) (λ x. refl) e
by_tag version tags.Thread d v e =
    bits_value (λ n. values.Thread (record { 0 = n })) version (2 ^ 64 - 1) d v (omega arith) (λ x. refl) e
by_tag version tags.ThreadGroup d v e =
    bits_value (λ n. values.ThreadGroup (record { 0 = n })) version (2 ^ 64 - 1) d v (omega arith) (λ x. refl) e
by_tag version tags.ClassLoader d v e =
    bits_value (λ n. values.ClassLoader (record { 0 = n })) version (2 ^ 64 - 1) d v (omega arith) (λ x. refl) e
by_tag version tags.ClassObject d v e =
    bits_value (λ n. values.ClassObject (record { 0 = n })) version (2 ^ 64 - 1) d v (omega arith) (λ x. refl) e

pub value_again : (version : Version) (d : Data) (v : Value) → value_of version d ≡ Some v →
    value_of Second (value_data v) ≡ Some v
value_again version d v e =
    option_and_then_some (value_in version) (pair_of d) v e
    (λ pair _ found. option_and_then_some (λ tag. tagged_of version tag pair.1) (tag_in pair.0) v found
    (λ tag _ is. by_tag version tag pair.1 v is))

slot_again : (version : Version) (d : Data) (s : SlotValue) → slot_of version d ≡ Some s →
    slot_of Second (slot_data s) ≡ Some s
slot_again version d s e =
    option_and_then_some (slot_in version) (pair_of d) s e
    (λ pair _ found. option_and_then_some
    (λ n. option_map (λ v. record { slot = n; value = v }) (value_of version pair.1)) (int_of pair.0) s found
    (λ n number made. map_some (λ v. record { slot = n; value = v }) (value_of version pair.1) s made
    (λ v read is. subst (λ (t : SlotValue). slot_of Second (slot_data t) ≡ Some t) is
    (both n v (signed_again (negsuc (2 ^ 31 - 1)) (pos (2 ^ 31 - 1)) pair.0 n number)
    (value_again version pair.1 v read)))))
  where
    both : (n : ℤ) (v : Value) → int_of (signed_data n) ≡ Some n → value_of Second (value_data v) ≡ Some v →
        slot_of Second (slot_data (record { slot = n; value = v })) ≡ Some (record { slot = n; value = v })
    both n v p q = rw (p, q) refl

line_again : (d : Data) (l : Line) → line_of d ≡ Some l → line_of (line_data l) ≡ Some l
line_again d l e =
    option_and_then_some line_in (pair_of d) l e
    (λ pair _ found. option_and_then_some
    (λ n. option_map (λ z. record { index = n; line = z }) (int_of pair.1)) (natural_of 0 (2 ^ 63) pair.0) l found
    (λ n number made. map_some (λ z. record { index = n; line = z }) (int_of pair.1) l made
    (λ z read is. subst (λ (t : Line). line_of (line_data t) ≡ Some t) is
    (both n z (natural_again 0 (2 ^ 63) pair.0 n number)
    (signed_again (negsuc (2 ^ 31 - 1)) (pos (2 ^ 31 - 1)) pair.1 z read)))))
  where
    both : (n : ℕ) (z : ℤ) → natural_of 0 (2 ^ 63) (natural_data n) ≡ Some n → int_of (signed_data z) ≡ Some z →
        line_of (line_data (record { index = n; line = z })) ≡ Some (record { index = n; line = z })
    both n z p q = rw (p, q) refl

-- ---- lists

each_again : {A : Type 0} (read later : Data → Option A) (write : A → Data) →
    ((d : Data) (x : A) → read d ≡ Some x → later (write x) ≡ Some x) →
    (items : Items) (xs : List A) → each_of read items ≡ Some xs → each_of later (items_of (map write xs)) ≡ Some xs
each_again {A} read later write again no_items xs e =
    subst (λ (ys : List A). each_of later (items_of (map write ys)) ≡ Some ys) (same_Some [] xs e) refl
each_again {A} read later write again (item d ds) xs e =
    option_and_then_some (λ x. option_map (λ ys. x ∷ ys) (each_of read ds)) (read d) xs e
    (λ x found others. map_some (λ ys. x ∷ ys) (each_of read ds) xs others
    (λ ys read_ys is. subst (λ (zs : List A). each_of later (items_of (map write zs)) ≡ Some zs) is
    (ap (option_and_then (λ y. option_map (λ zs. y ∷ zs) (each_of later (items_of (map write ys))))) (again d x found)
    ∙ ap (option_map (λ zs. x ∷ zs)) (each_again read later write again ds ys read_ys))))

list_again : {A : Type 0} (read later : Data → Option A) (write : A → Data) →
    ((d : Data) (x : A) → read d ≡ Some x → later (write x) ≡ Some x) →
    (d : Data) (xs : List A) → list_of read d ≡ Some xs → list_of later (list_data write xs) ≡ Some xs
list_again read later write again d xs e =
    option_and_then_some (each_of read) (as_array d) xs e
    (λ items _ found. each_again read later write again items xs found)

lines_again : (d : Data) (ls : Option (List Line)) → lines_of d ≡ Some ls → lines_of (lines_data ls) ≡ Some ls
lines_again null ls e = subst (λ o. lines_of (lines_data o) ≡ Some o) (same_Some None ls e) refl
lines_again (Data.boolean b) ls e = absurd (none-some ls e)
lines_again (Data.number n) ls e = absurd (none-some ls e)
lines_again (Data.string s) ls e = absurd (none-some ls e)
lines_again (Data.array items) ls e =
    map_some Some (each_of line_of items) ls e
    (λ found is_found is. subst (λ o. lines_of (lines_data o) ≡ Some o) is
    (ap (option_map Some) (each_again line_of line_of line_data line_again items found is_found)))
lines_again (Data.object ms) ls e = absurd (none-some ls e)

-- ---- parts

-- what is printed of a part is read as it is, values in the second version
abbrev pub Again : (p : Part) → Of p → Type 0
Again (natural least bound) x = part_of (natural least bound) (part_data (natural least bound) x) ≡ Some x
Again int x = part_of int (part_data int x) ≡ Some x
Again long x = part_of long (part_data long x) ≡ Some x
Again index x = part_of index (part_data index x) ≡ Some x
Again text x = part_of text (part_data text x) ≡ Some x
Again text_or_null x = part_of text_or_null (part_data text_or_null x) ≡ Some x
Again word x = part_of word (part_data word x) ≡ Some x
Again truth x = part_of truth (part_data truth x) ≡ Some x
Again class_tag x = part_of class_tag (part_data class_tag x) ≡ Some x
Again object_tag x = part_of object_tag (part_data object_tag x) ≡ Some x
Again policy x = part_of policy (part_data policy x) ≡ Some x
Again side x = part_of side (part_data side x) ≡ Some x
Again (value v) x = value_of Second (value_data x) ≡ Some x
Again (value_list v) xs = list_of (value_of Second) (list_data value_data xs) ≡ Some xs
Again (slots v) xs = list_of (slot_of Second) (list_data slot_data xs) ≡ Some xs
Again lines x = part_of lines (part_data lines x) ≡ Some x
Again arguments x = part_of arguments (part_data arguments x) ≡ Some x
Again version_part x = part_of version_part (part_data version_part x) ≡ Some x

pub part_again : (p : Part) (d : Data) (x : Of p) → part_of p d ≡ Some x → Again p x
part_again (natural least bound) d x e = natural_again least bound d x e
part_again int d x e = signed_again (negsuc (2 ^ 31 - 1)) (pos (2 ^ 31 - 1)) d x e
part_again long d x e = signed_again (negsuc (2 ^ 63 - 1)) (pos (2 ^ 63 - 1)) d x e
part_again index d x e = index_again d x e
part_again text d x e = text_again d x e
part_again text_or_null d x e = text_or_null_again d x e
part_again word d x e = refl
part_again truth d x e = refl
part_again class_tag d x e =
    option_and_then_some class_tag_at (option_and_then as_u64 (as_number d)) x e (λ n _ is. class_tag_at-again n x is)
part_again object_tag d x e = object_tag_again d x e
part_again policy d x e =
    option_and_then_some policy_at (option_and_then as_u64 (as_number d)) x e (λ n _ is. policy_at-again n x is)
part_again side d x e = side_again x
part_again (value v) d x e = value_again v d x e
part_again (value_list v) d x e = list_again (value_of v) (value_of Second) value_data (value_again v) d x e
part_again (slots v) d x e = list_again (slot_of v) (slot_of Second) slot_data (slot_again v) d x e
part_again lines d x e = lines_again d x e
part_again arguments d x e = test_again (λ y. is_some (as_object y) && not (has_float y)) d x e
part_again version_part d x e = version_again x
