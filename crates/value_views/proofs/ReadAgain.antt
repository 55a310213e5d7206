-- Values that can be written, and that they are read from what is shown of them.
use Rattle.std.proofs.Common.{◌≡◌, ℕ, zero, suc, ◌^◌, ◌<◌, ◌≤◌, ◌&&◌, Bool, true, false, cond, nat_lt, nat_le, List}
use Rattle.std.proofs.Common.{length, drop, Option, Some, None, Ok, Err, option_and_then, refl, ap, sym, subst, ◌∙◌}
use Rattle.std.proofs.Common.{ℤ, pos, negsuc, neg_ℤ, option_map, arith, ⊎_elim}
use Rattle.std.proofs.lemmas.Bool.{and_from, eqb-true, cases_Bool, cond-true, cond-false, ne_eqb}
use Rattle.std.proofs.lemmas.Bool.{lt-ltb, le-leb, ltb-true, leb-true}
use Rattle.std.proofs.lemmas.Fmt.{decimal_nonempty, length-decimal-le, digits_decimal, digits_value-decimal}
use Rattle.std.proofs.lemmas.Fmt.{decimal_is_IsNumeral}
use Rattle.std.proofs.lemmas.Option.{cond_some, option_and_then_some, none-some, same_Some}
use Rattle.std.proofs.lemmas.Str.Parse.{digit_at}
use Rattle.std.specs.Char.{is_ascii_digit}
use Rattle.std.specs.Fmt.{decimal, signed_decimal}
use Rattle.std.specs.List.{list_all}
use Rattle.std.specs.Option.{ok_or}
use Rattle.std.specs.Prelude.{codes, ◌==◌}
use Rattle.std.specs.Str.{bytes_eq}
use Rattle.std.specs.Str.Parse.{starts_with_minus}
use Rattle.jdwp_values.specs.declared.id.ObjectId.{ObjectId}
use Rattle.jdwp_values.specs.declared.tag.Tag.{Tag}
use Rattle.jdwp_values.specs.declared.tag.Tag.TheVariants as tags
use Rattle.jdwp_values.specs.declared.value.Value.{Value}
use Rattle.jdwp_values.specs.declared.value.Value.TheVariants as values
use Rattle.jdwp_values.specs.Parts.{tag_of_value}
use Rattle.jdwp_values.specs.Tags.{byte_of_tag, tag_of, tags_of_values}
use Rattle.value_views.specs.declared.fault.WriteFault.TheVariants.{NotWritable, BadText}
use Rattle.value_views.specs.declared.known.Known.{Known}
use Rattle.value_views.specs.Reads.{is_number, number_in, positive, negative, whole_in, truth_in, char_in, null_in}
use Rattle.value_views.specs.Reads.{is_writable, value_in, value_by, write_value}
use Rattle.value_views.specs.Texts.{truth_text, reference_text, value_text}
use Rattle.value_views.proofs.CharLaws.{char_again, char_fits, found_passes}
use Rattle.value_views.specs.Written.{IsWritten}
use Rattle.value_views.proofs.Digits.{own}
use lib.Signed.{mag}

-- a number is read from its decimal digits
number_again : (n : ℕ) → n < 2 ^ 64 → number_in (decimal n) ≡ Some n
number_again n small =
    let len = length (decimal n) in
    let some = lt-ltb 0 len (decimal_nonempty n small) in
    let few = le-leb len 20 (length-decimal-le 20 n (omega arith) (omega arith) small) in
    let test = and_from (nat_lt 0 len && nat_le len 20) (list_all is_ascii_digit (decimal n))
    (and_from (nat_lt 0 len) (nat_le len 20) some few) (digits_decimal own n small) in
    cond-true (is_number (decimal n)) _ _ test ∙ ap (λ m. Some m) (digits_value-decimal own n small)

-- which begin with no sign
no_sign : (n : ℕ) → n < 2 ^ 64 → starts_with_minus (decimal n) ≡ false
no_sign n small =
    let first = digit_at (decimal n) 0 (decimal_is_IsNumeral n small).0.1 (decimal_nonempty n small) in
    ne_eqb _ 45 (λ e. omega (arith, first, e))

positive_again : (half n : ℕ) → half ≤ 2 ^ 63 → n < half → whole_in half (decimal n) ≡ Some (pos n)
positive_again half n big low =
    let small : n < 2 ^ 64 = omega arith in
    cond-false (starts_with_minus (decimal n)) _ _ (no_sign n small)
    ∙ ap (option_and_then (positive half)) (number_again n small)
    ∙ cond-true (nat_lt n half) _ _ (lt-ltb n half low)

-- a whole number is read from what is shown of it
whole_again : (half : ℕ) (n : ℤ) → half ≤ 2 ^ 63 → mag n < half → whole_in half (signed_decimal n) ≡ Some n
whole_again half (pos n) big low = positive_again half n big low
whole_again half (negsuc n) big low =
    ap (option_and_then (negative half)) (number_again (suc n) (omega arith))
    ∙ cond-true (nat_le (suc n) half) _ _ (le-leb (suc n) half (omega arith))

below_zero : (half m : ℕ) → 0 < half → m ≤ half → mag (neg_ℤ (pos m)) < half
below_zero half zero some low = some
below_zero half (suc m) some low = omega arith

-- a whole number that is read is in the range
whole_fits : (half : ℕ) (text : List ℕ) (n : ℤ) → 0 < half → whole_in half text ≡ Some n → mag n < half
whole_fits half text n some e =
    ⊎_elim (λ minus. option_and_then_some (negative half) (number_in (drop 1 text)) n
    (sym (cond-true (starts_with_minus text) _ _ minus) ∙ e) (λ m read left.
    let at = cond_some (nat_le m half) (neg_ℤ (pos m)) n left in
    subst (λ z. mag z < half) at.1 (below_zero half m some (leb-true m half at.0))))
    (λ plain. option_and_then_some (positive half) (number_in text) n
    (sym (cond-false (starts_with_minus text) _ _ plain) ∙ e) (λ m read left.
    let at = cond_some (nat_lt m half) (pos m) n left in
    subst (λ z. mag z < half) at.1 (ltb-true m half at.0)))
    (cases_Bool (starts_with_minus text))

truth_again : (byte : ℕ) → byte < 2 → truth_in (truth_text byte) ≡ Some byte
truth_again zero small = refl
truth_again (suc zero) small = refl
truth_again (suc (suc byte)) small = absurd (omega arith)

truth_fits : (yes_text no_text : Bool) (byte : ℕ) → cond yes_text (Some 1) (cond no_text (Some 0) None) ≡ Some byte
    → byte < 2
truth_fits true no_text byte e = let same = same_Some 1 byte e in omega arith
truth_fits false true byte e = let same = same_Some 0 byte e in omega arith
truth_fits false false byte e = absurd (none-some byte e)

null_fits : (is_null : Bool) (o : ObjectId) → cond is_null (Some (record { 0 = 0 })) None ≡ Some o → o.0 ≡ 0
null_fits true o e = ap (λ (x : ObjectId). x.0) (sym (same_Some (record { 0 = 0 }) o e))
null_fits false o e = absurd (none-some o e)

-- null, of any kind
null_again : (known : Known) (make : ObjectId → Value) (o : ObjectId) → o.0 ≡ 0
    → ok_or (option_map make (null_in (reference_text o.0 known))) BadText ≡ Ok (make o)
null_again known make o e =
    ap (λ i. ok_or (option_map make (null_in (reference_text i known))) BadText) e
    ∙ ap (λ i. Ok (make (record { 0 = i }))) (sym e)

-- a value that can be written is read from what is shown of it
pub shown_read : (value : Value) (known : Known) → IsWritten value
    → write_value (byte_of_tag (tag_of_value value)) (value_text value known) ≡ Ok value
unfolding write_value
shown_read (values.Byte n) known fits =
    ap (λ o. ok_or (option_map values.Byte o) BadText) (whole_again (2 ^ 7) n (omega arith) fits.sfits)
shown_read (values.Char n) known fits =
    ap (λ o. ok_or (option_map values.Char o) BadText) (char_again n fits)
shown_read (values.Double bits) known fits = absurd fits
shown_read (values.Float bits) known fits = absurd fits
shown_read (values.Int n) known fits =
    ap (λ o. ok_or (option_map values.Int o) BadText) (whole_again (2 ^ 31) n (omega arith) fits.sfits)
shown_read (values.Long n) known fits =
    ap (λ o. ok_or (option_map values.Long o) BadText) (whole_again (2 ^ 63) n (omega arith) fits.sfits)
shown_read (values.Short n) known fits =
    ap (λ o. ok_or (option_map values.Short o) BadText) (whole_again (2 ^ 15) n (omega arith) fits.sfits)
shown_read (values.Boolean byte) known fits =
    ap (λ o. ok_or (option_map values.Boolean o) BadText) (truth_again byte fits)
shown_read values.Void known fits = absurd fits
shown_read (values.Object o) known fits = null_again known values.Object o fits
shown_read (values.Array o) known fits = null_again known values.Array o fits
shown_read (values.String o) known fits = null_again known values.String o fits
shown_read (values.Thread o) known fits = null_again known values.Thread o fits
shown_read (values.ThreadGroup o) known fits = null_again known values.ThreadGroup o fits
shown_read (values.ClassLoader o) known fits = null_again known values.ClassLoader o fits
shown_read (values.ClassObject o) known fits = null_again known values.ClassObject o fits

-- what holds of a value of a kind
made : {A : Type 0} (P : Value → Type 0) (make : A → Value) (o : Option A) (value : Value)
    → ((x : A) → o ≡ Some x → P (make x)) → option_map make o ≡ Some value → P value
made P make None value holds e = absurd (none-some value e)
made P make (Some x) value holds e = subst P (same_Some (make x) value e) (holds x refl)

-- a value that can be written, of a kind
abbrev IsOfKind : Tag → Value → Type 0
IsOfKind tag value = IsWritten value × (tag_of_value value ≡ tag)

of_kind : (tag : Tag) (text : List ℕ) (value : Value) → value_in tag text ≡ Some value → IsOfKind tag value
of_kind tags.Byte text value e =
    made (IsOfKind tags.Byte) values.Byte (whole_in (2 ^ 7) text) value
    (λ n read. (record { sfits = whole_fits (2 ^ 7) text n (omega arith) read }, refl)) e
of_kind tags.Char text value e =
    made (IsOfKind tags.Char) values.Char (char_in text) value (λ n read. (char_fits text n read, refl)) e
of_kind tags.Double text value e = absurd (none-some value e)
of_kind tags.Float text value e = absurd (none-some value e)
of_kind tags.Int text value e =
    made (IsOfKind tags.Int) values.Int (whole_in (2 ^ 31) text) value
    (λ n read. (record { sfits = whole_fits (2 ^ 31) text n (omega arith) read }, refl)) e
of_kind tags.Long text value e =
    made (IsOfKind tags.Long) values.Long (whole_in (2 ^ 63) text) value
    (λ n read. (record { sfits = whole_fits (2 ^ 63) text n (omega arith) read }, refl)) e
of_kind tags.Short text value e =
    made (IsOfKind tags.Short) values.Short (whole_in (2 ^ 15) text) value
    (λ n read. (record { sfits = whole_fits (2 ^ 15) text n (omega arith) read }, refl)) e
of_kind tags.Boolean text value e =
    made (IsOfKind tags.Boolean) values.Boolean (truth_in text) value
    (λ n read. (truth_fits (bytes_eq text (codes "true")) (bytes_eq text (codes "false")) n read, refl)) e
of_kind tags.Void text value e = absurd (none-some value e)
of_kind tags.Object text value e =
    made (IsOfKind tags.Object) values.Object (null_in text) value
    (λ o read. (null_fits (bytes_eq text (codes "null")) o read, refl)) e
of_kind tags.Array text value e =
    made (IsOfKind tags.Array) values.Array (null_in text) value
    (λ o read. (null_fits (bytes_eq text (codes "null")) o read, refl)) e
of_kind tags.String text value e =
    made (IsOfKind tags.String) values.String (null_in text) value
    (λ o read. (null_fits (bytes_eq text (codes "null")) o read, refl)) e
of_kind tags.Thread text value e =
    made (IsOfKind tags.Thread) values.Thread (null_in text) value
    (λ o read. (null_fits (bytes_eq text (codes "null")) o read, refl)) e
of_kind tags.ThreadGroup text value e =
    made (IsOfKind tags.ThreadGroup) values.ThreadGroup (null_in text) value
    (λ o read. (null_fits (bytes_eq text (codes "null")) o read, refl)) e
of_kind tags.ClassLoader text value e =
    made (IsOfKind tags.ClassLoader) values.ClassLoader (null_in text) value
    (λ o read. (null_fits (bytes_eq text (codes "null")) o read, refl)) e
of_kind tags.ClassObject text value e =
    made (IsOfKind tags.ClassObject) values.ClassObject (null_in text) value
    (λ o read. (null_fits (bytes_eq text (codes "null")) o read, refl)) e

found : (o : Option Value) (value : Value) → ok_or o BadText ≡ Ok value → o ≡ Some value
found (Some x) value e = cc
found None value e = absurd cc

by_tag : (o : Option Tag) (text : List ℕ) (value : Value) → value_by o text ≡ Ok value
    → (tag : Tag) × (o ≡ Some tag) × IsOfKind tag value
by_tag None text value e = absurd cc
by_tag (Some tag) text value e = by (is_writable tag) e
  where
    by : (b : Bool) → cond b (ok_or (value_in tag text) BadText) (Err NotWritable) ≡ Ok value
        → (t : Tag) × (Some tag ≡ Some t) × IsOfKind t value
    by true e = (tag, refl, of_kind tag text value (found (value_in tag text) value e))
    by false e = absurd cc

-- a value that is read can be written, and its kind is the byte's
pub read_written : (kind : ℕ) (text : List ℕ) (value : Value) → write_value kind text ≡ Ok value
    → IsWritten value × (kind ≡ byte_of_tag (tag_of_value value))
unfolding write_value
read_written kind text value e =
    let tag = by_tag (tag_of kind) text value e in
    let passes = found_passes (λ t. byte_of_tag t == kind) tags_of_values tag.0 tag.1 in
    let byte = eqb-true (byte_of_tag tag.0) kind passes in
    (tag.2.0, sym byte ∙ ap byte_of_tag (sym tag.2.1))

pub read_again : (kind : ℕ) (text : List ℕ) (value : Value) (known : Known) → write_value kind text ≡ Ok value
    → write_value kind (value_text value known) ≡ Ok value
read_again kind text value known e =
    let written = read_written kind text value e in
    ap (λ k. write_value k (value_text value known)) written.1 ∙ shown_read value known written.0
