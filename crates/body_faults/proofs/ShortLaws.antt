-- A part that is short is cut off: each value that begins as it does is longer than what is left.
use Rattle.std.proofs.Common.{◌≡◌, ℕ, ◌+◌, ◌≤◌, ◌<◌, ◌^◌, Bool, cond, ltb, ◌&&◌, List, [], ◌∷◌, ◌++◌}
use Rattle.std.proofs.Common.{length, take, Option, Some, None, Result, Ok, Err, refl, sym, ap, ◌∙◌, arith}
use Rattle.std.proofs.Common.{inl, inr}
use Rattle.std.proofs.lemmas.Bool.{ltb-true}
use Rattle.std.proofs.lemmas.List.{length-append, take_at}
use Rattle.std.specs.Int.{Width, w8, w16, w32, w64, byte_len, bytes_high_first, cast_signed, cast_unsigned}
use Rattle.std.specs.Int.Digits.{number_from_digits}
use Rattle.jdwp_values.specs.declared.fault.ValueFault.{ValueFault}
use Rattle.jdwp_values.specs.declared.fault.ValueFault.TheVariants.{Short, BadTag, BadCount}
use Rattle.jdwp_values.specs.declared.id.ClassId.{ClassId}
use Rattle.jdwp_values.specs.declared.id.MethodId.{MethodId}
use Rattle.jdwp_values.specs.declared.id.ObjectId.{ObjectId}
use Rattle.jdwp_values.specs.declared.limit.Limit.{Limit}
use Rattle.jdwp_values.specs.declared.limit.Limit.TheVariants.{Any}
use Rattle.jdwp_values.specs.declared.location.Location.{Location}
use Rattle.jdwp_values.specs.declared.sizes.IdSizes.{IdSizes}
use Rattle.jdwp_values.specs.declared.tag.Tag.{Tag}
use Rattle.jdwp_values.specs.declared.tag.Tag.TheVariants as tags
use Rattle.jdwp_values.specs.declared.value.Value.{Value}
use Rattle.jdwp_values.specs.declared.value.Value.TheVariants as values
use Rattle.jdwp_values.specs.Bytes.{IsBytes}
use Rattle.jdwp_values.specs.Counts.{allows}
use Rattle.jdwp_values.specs.Parts.{Simple, unsigned, signed, object_id, thread_id, class_id, method_id, field_id}
use Rattle.jdwp_values.specs.Parts.{frame_id, type_tag_byte, nothing, OfSimple, tag_of_value, Part, simple, count, text}
use Rattle.jdwp_values.specs.Parts.{location, value, reference, untagged, tail, Of}
use Rattle.jdwp_values.specs.Reading.{◌>>=◌, bytes_at, unsigned_at, signed_at, tagged, type_tag_at, simple_at, count_at}
use Rattle.jdwp_values.specs.Reading.{text_at, location_at, as_value, of_tag_at, untagged_at, value_at, reference_tag}
use Rattle.jdwp_values.specs.Reading.{reference_at, tail_at, read_part}
use Rattle.jdwp_values.specs.Spelling.{spell_simple, spell_untagged, spell_value, spell_location, spell_part, FitsPart}
use Rattle.jdwp_values.specs.Tags.{byte_of_type_tag, type_tag_of, byte_of_tag, tag_of}
use Rattle.jdwp_values.proofs.Numbers.{number_again, length-bytes_high_first}
use Rattle.jdwp_values.proofs.PartLaws.{bind_ok, passed, tag_small, unsigned_takes}
use Rattle.body_faults.specs.Layouts.{short}
use Rattle.body_faults.specs.Wrongs.{HasNone, lead, is_count, cause_of}
use Rattle.body_faults.proofs.CauseLaws.{cause_in, bind_err, made_err, as_value_err, passed_err, tagged_err, bytes_err}
use Rattle.body_faults.proofs.CauseLaws.{unsigned_err, unsigned_ok, made_by, located, part_cause}
use Rattle.body_faults.proofs.RangeLaws.{part_stands}
use Rattle.body_faults.proofs.WrongLaws.{stands_long}

-- ---- numbers

number_cut : (size n : ℕ) (bytes : List ℕ) (d : ValueFault) → unsigned_at size bytes ≡ Err d
    → length bytes < length (bytes_high_first size n)
number_cut size n bytes d e =
    let few : length bytes < size = ltb-true _ _ (unsigned_err size bytes d e).0 in
    let long : length (bytes_high_first size n) ≡ size = length-bytes_high_first size n in
    omega (arith, few, long)

signed_cut : (w : Width) (n : ℕ) (bytes : List ℕ) (d : ValueFault) → signed_at w bytes ≡ Err d
    → length bytes < length (bytes_high_first (byte_len w) n)
unfolding signed_at
signed_cut w n bytes d e =
    number_cut (byte_len w) n bytes d
    (made_err (unsigned_at (byte_len w) bytes) (λ m. (cast_signed w m.0, m.1)) d e)

id_cut : {A : Type 0} (make : ℕ → A) (size n : ℕ) (bytes : List ℕ) (d : ValueFault)
    → (unsigned_at size bytes >>= λ m. Ok (made_by make m)) ≡ Err d → length bytes < length (bytes_high_first size n)
id_cut make size n bytes d e = number_cut size n bytes d (made_err (unsigned_at size bytes) (made_by make) d e)

-- the number that was read, and the bytes behind it
number_read : (size : ℕ) (bytes : List ℕ) (x : ℕ × List ℕ) → IsBytes bytes → unsigned_at size bytes ≡ Ok x
    → (length bytes ≡ size + length x.1) × IsBytes x.1
number_read size bytes x fits e =
    let t = (unsigned_takes size bytes x fits e).0 in
    let text = bytes_high_first size x.0 in
    let all : length bytes ≡ length text + length x.1 = ap length t.parts ∙ length-append text x.1 in
    let long : length text ≡ size = length-bytes_high_first size x.0 in
    (omega (arith, all, long), t.rest_fits)

-- the number at the front of what is spelled
front_number : (size n : ℕ) (rest : List ℕ) → n < 256 ^ size
    → number_from_digits 256 (take size (bytes_high_first size n ++ rest)) ≡ n
front_number size n rest small =
    ap (number_from_digits 256) (take_at (bytes_high_first size n) rest size (length-bytes_high_first size n))
    ∙ number_again size n small

-- ---- simple parts, counts and texts

no_bad_tag : {A : Type 0} (d : ValueFault) → BadTag ≡ d → d ≡ Short → A
no_bad_tag d is shorts = let both : BadTag ≡ Short = is ∙ shorts in absurd cc

no_bad_count : {A : Type 0} (d : ValueFault) → BadCount ≡ d → d ≡ Short → A
no_bad_count d is shorts = let both : BadCount ≡ Short = is ∙ shorts in absurd cc

type_tag_cut : (n : ℕ) (bytes : List ℕ) (d : ValueFault) → type_tag_at bytes ≡ Err d → d ≡ Short
    → length bytes < length (bytes_high_first 1 n)
unfolding type_tag_at
type_tag_cut n bytes d e shorts =
    elim (bind_err (unsigned_at 1 bytes) (λ b. tagged (type_tag_of b.0) b.1) d e) [
      | inl first ↦ number_cut 1 n bytes d first
      | inr second ↦ no_bad_tag d (tagged_err (type_tag_of second.0.0) second.0.1 d second.2).1 shorts
    ]

simple_cut : (sizes : IdSizes) (s : Simple) (x : OfSimple s) (bytes : List ℕ) (d : ValueFault)
    → simple_at sizes s bytes ≡ Err d → d ≡ Short → length bytes < length (spell_simple sizes s x)
unfolding simple_at
simple_cut sizes (unsigned size) x bytes d e shorts = number_cut size x bytes d e
simple_cut sizes (signed w) x bytes d e shorts = signed_cut w (cast_unsigned w x) bytes d e
simple_cut sizes object_id x bytes d e shorts = id_cut (λ n. record { 0 = n }) sizes.object x.0 bytes d e
simple_cut sizes thread_id x bytes d e shorts = id_cut (λ n. record { 0 = n }) sizes.object x.0 bytes d e
simple_cut sizes class_id x bytes d e shorts = id_cut (λ n. record { 0 = n }) sizes.class x.0 bytes d e
simple_cut sizes method_id x bytes d e shorts = id_cut (λ n. record { 0 = n }) sizes.method x.0 bytes d e
simple_cut sizes field_id x bytes d e shorts = id_cut (λ n. record { 0 = n }) sizes.field x.0 bytes d e
simple_cut sizes frame_id x bytes d e shorts = id_cut (λ n. record { 0 = n }) sizes.frame x.0 bytes d e
simple_cut sizes type_tag_byte x bytes d e shorts = type_tag_cut (byte_of_type_tag x) bytes d e shorts
simple_cut sizes nothing x bytes d e shorts = absurd cc

count_cut : (limit : Limit) (n : ℕ) (bytes : List ℕ) (d : ValueFault) → count_at limit bytes ≡ Err d → d ≡ Short
    → length bytes < length (bytes_high_first 4 n)
unfolding count_at
count_cut limit n bytes d e shorts =
    elim (bind_err (unsigned_at 4 bytes)
    (λ m. cond (ltb m.0 (2 ^ 31) && allows limit m.0) (Ok m) (Err BadCount)) d e) [
      | inl first ↦ number_cut 4 n bytes d first
      | inr second ↦ no_bad_count d (passed_err (is_count limit second.0.0) BadCount d second.0 second.2).1 shorts
    ]

count_number : (limit : Limit) (bytes : List ℕ) (x : ℕ × List ℕ) → count_at limit bytes ≡ Ok x
    → unsigned_at 4 bytes ≡ Ok x
unfolding count_at
count_number limit bytes x e =
    let b = bind_ok (unsigned_at 4 bytes)
    (λ n. cond (ltb n.0 (2 ^ 31) && allows limit n.0) (Ok n) (Err BadCount)) x e in
    b.1 ∙ ap (λ (y : ℕ × List ℕ). Ok y) (passed (is_count limit b.0.0) BadCount b.0 x b.2).1

text_cut : (x bytes : List ℕ) (d : ValueFault) → IsBytes bytes → length x < 2 ^ 31 → text_at bytes ≡ Err d
    → d ≡ Short → lead text (bytes_high_first 4 (length x) ++ x) ≡ lead text bytes
    → length bytes < length (bytes_high_first 4 (length x) ++ x)
unfolding text_at
text_cut x bytes d fits small e shorts leads =
    let front = bytes_high_first 4 (length x) in
    let all : length (front ++ x) ≡ length front + length x = length-append front x in
    elim (bind_err (count_at Any bytes) (λ len. bytes_at len.0 len.1) d e) [
      | inl first ↦
          let few : length bytes < length front = count_cut Any (length x) bytes d first shorts in
          omega (arith, few, all)
      | inr second ↦
          let number = count_number Any bytes second.0 second.1 in
          let read : length bytes ≡ 4 + length second.0.1 = (number_read 4 bytes second.0 fits number).0 in
          let few : length second.0.1 < second.0.0 =
          ltb-true _ _ (bytes_err second.0.0 second.0.1 d second.2).0 in
          let low : length x < 256 ^ 4 = omega arith in
          let same : length x ≡ second.0.0 =
          sym (front_number 4 (length x) x low) ∙ leads ∙ (unsigned_ok 4 bytes second.0 number).1 in
          let long : length front ≡ 4 = length-bytes_high_first 4 (length x) in
          omega (arith, read, few, same, long, all)
    ]

-- ---- locations

location_cut : (sizes : IdSizes) (x : Location) (bytes : List ℕ) (d : ValueFault) → IsBytes bytes
    → location_at sizes bytes ≡ Err d → d ≡ Short → length bytes < length (spell_location sizes x)
unfolding location_at type_tag_at simple_at
location_cut sizes x bytes d fits e shorts =
    let tag = bytes_high_first 1 (byte_of_type_tag x.tag) in
    let class = bytes_high_first sizes.class x.class.0 in
    let method = bytes_high_first sizes.method x.method.0 in
    let index = bytes_high_first 8 x.index in
    let all : length (spell_location sizes x) ≡ length tag + length class + length method + length index =
    length-append (tag ++ class ++ method) index
    ∙ ap (λ (n : ℕ). n + length index) (length-append (tag ++ class) method
    ∙ ap (λ (n : ℕ). n + length method) (length-append tag class)) in
    let one : length tag ≡ 1 = length-bytes_high_first 1 (byte_of_type_tag x.tag) in
    let two : length class ≡ sizes.class = length-bytes_high_first sizes.class x.class.0 in
    let three : length method ≡ sizes.method = length-bytes_high_first sizes.method x.method.0 in
    elim (bind_err (type_tag_at bytes) (located sizes) d e) [
      | inl first ↦
          let few : length bytes < length tag = type_tag_cut (byte_of_type_tag x.tag) bytes d first shorts in
          omega (arith, few, all)
      | inr t ↦
          let a = part_stands sizes (simple type_tag_byte) bytes t.0 fits t.1 in
          let a_long : length bytes ≡ length (bytes_high_first 1 (byte_of_type_tag t.0.0)) + length t.0.1 =
          stands_long sizes (simple type_tag_byte) bytes t.0.0 t.0.1 a.0 in
          let a_one : length (bytes_high_first 1 (byte_of_type_tag t.0.0)) ≡ 1 =
          length-bytes_high_first 1 (byte_of_type_tag t.0.0) in
          elim (bind_err (simple_at sizes class_id t.0.1) (λ c. simple_at sizes method_id c.1 >>= λ m.
          unsigned_at 8 m.1 >>= λ i.
          Ok (record { tag = t.0.0; class = c.0; method = m.0; index = i.0 }, i.1)) d t.2) [
            | inl second ↦
                let few : length t.0.1 < length class =
                id_cut {A = ClassId} (λ n. record { 0 = n }) sizes.class x.class.0 t.0.1 d second in
                omega (arith, few, all, one, a_long, a_one)
            | inr c ↦
                let b = part_stands sizes (simple class_id) t.0.1 c.0 a.1 c.1 in
                let b_long : length t.0.1 ≡ length (bytes_high_first sizes.class c.0.0.0) + length c.0.1 =
                stands_long sizes (simple class_id) t.0.1 c.0.0 c.0.1 b.0 in
                let b_two : length (bytes_high_first sizes.class c.0.0.0) ≡ sizes.class =
                length-bytes_high_first sizes.class c.0.0.0 in
                elim (bind_err (simple_at sizes method_id c.0.1) (λ m. unsigned_at 8 m.1 >>= λ i.
                Ok (record { tag = t.0.0; class = c.0.0; method = m.0; index = i.0 }, i.1)) d c.2) [
                  | inl third ↦
                      let few : length c.0.1 < length method =
                      id_cut {A = MethodId} (λ n. record { 0 = n }) sizes.method x.method.0 c.0.1 d third in
                      omega (arith, few, all, one, two, a_long, a_one, b_long, b_two)
                  | inr m ↦
                      let g = part_stands sizes (simple method_id) c.0.1 m.0 b.1 m.1 in
                      let g_long : length c.0.1 ≡ length (bytes_high_first sizes.method m.0.0.0) + length m.0.1 =
                      stands_long sizes (simple method_id) c.0.1 m.0.0 m.0.1 g.0 in
                      let g_three : length (bytes_high_first sizes.method m.0.0.0) ≡ sizes.method =
                      length-bytes_high_first sizes.method m.0.0.0 in
                      let few : length m.0.1 < length index =
                      number_cut 8 x.index m.0.1 d (made_err (unsigned_at 8 m.0.1) (λ i.
                      (record { tag = t.0.0; class = c.0.0; method = m.0.0; index = i.0 }, i.1)) d m.2) in
                      omega (arith, few, all, one, two, three, a_long, a_one, b_long, b_two, g_long, g_three)
                ]
          ]
    ]

-- ---- values

object_cut : (make : ObjectId → Value) (sizes : IdSizes) (n : ℕ) (bytes : List ℕ) (d : ValueFault)
    → as_value make (simple_at sizes object_id bytes) ≡ Err d → length bytes < length (bytes_high_first sizes.object n)
unfolding simple_at
object_cut make sizes n bytes d e =
    id_cut (λ m. record { 0 = m }) sizes.object n bytes d (as_value_err make (simple_at sizes object_id bytes) d e)

of_tag_cut : (sizes : IdSizes) (v : Value) (bytes : List ℕ) (d : ValueFault)
    → of_tag_at sizes (tag_of_value v) bytes ≡ Err d → length bytes < length (spell_untagged sizes v)
unfolding of_tag_at
of_tag_cut sizes (values.Byte x) bytes d e =
    signed_cut w8 (cast_unsigned w8 x) bytes d (as_value_err values.Byte (signed_at w8 bytes) d e)
of_tag_cut sizes (values.Char x) bytes d e =
    number_cut 2 x bytes d (as_value_err values.Char (unsigned_at 2 bytes) d e)
of_tag_cut sizes (values.Double x) bytes d e =
    number_cut 8 x bytes d (as_value_err values.Double (unsigned_at 8 bytes) d e)
of_tag_cut sizes (values.Float x) bytes d e =
    number_cut 4 x bytes d (as_value_err values.Float (unsigned_at 4 bytes) d e)
of_tag_cut sizes (values.Int x) bytes d e =
    signed_cut w32 (cast_unsigned w32 x) bytes d (as_value_err values.Int (signed_at w32 bytes) d e)
of_tag_cut sizes (values.Long x) bytes d e =
    signed_cut w64 (cast_unsigned w64 x) bytes d (as_value_err values.Long (signed_at w64 bytes) d e)
of_tag_cut sizes (values.Short x) bytes d e =
    signed_cut w16 (cast_unsigned w16 x) bytes d (as_value_err values.Short (signed_at w16 bytes) d e)
of_tag_cut sizes (values.Boolean x) bytes d e =
    number_cut 1 x bytes d (as_value_err values.Boolean (unsigned_at 1 bytes) d e)
of_tag_cut sizes values.Void bytes d e = absurd cc
of_tag_cut sizes (values.Object x) bytes d e = object_cut values.Object sizes x.0 bytes d e
of_tag_cut sizes (values.Array x) bytes d e = object_cut values.Array sizes x.0 bytes d e
of_tag_cut sizes (values.String x) bytes d e = object_cut values.String sizes x.0 bytes d e
of_tag_cut sizes (values.Thread x) bytes d e = object_cut values.Thread sizes x.0 bytes d e
of_tag_cut sizes (values.ThreadGroup x) bytes d e = object_cut values.ThreadGroup sizes x.0 bytes d e
of_tag_cut sizes (values.ClassLoader x) bytes d e = object_cut values.ClassLoader sizes x.0 bytes d e
of_tag_cut sizes (values.ClassObject x) bytes d e = object_cut values.ClassObject sizes x.0 bytes d e

tag_of-byte : (tag : Tag) → tag_of (byte_of_tag tag) ≡ Some tag
tag_of-byte tags.Byte = refl
tag_of-byte tags.Char = refl
tag_of-byte tags.Double = refl
tag_of-byte tags.Float = refl
tag_of-byte tags.Int = refl
tag_of-byte tags.Long = refl
tag_of-byte tags.Short = refl
tag_of-byte tags.Boolean = refl
tag_of-byte tags.Void = refl
tag_of-byte tags.Object = refl
tag_of-byte tags.Array = refl
tag_of-byte tags.String = refl
tag_of-byte tags.Thread = refl
tag_of-byte tags.ThreadGroup = refl
tag_of-byte tags.ClassLoader = refl
tag_of-byte tags.ClassObject = refl

-- behind a tag that was looked up
looked_cut : (sizes : IdSizes) (v : Value) (o : Option Tag) (bytes : List ℕ) (d : ValueFault)
    → o ≡ Some (tag_of_value v) → (tagged o bytes >>= λ tag. of_tag_at sizes tag.0 tag.1) ≡ Err d
    → length bytes < length (spell_untagged sizes v)
looked_cut sizes v o bytes d is e =
    of_tag_cut sizes v bytes d
    (sym (ap (λ (q : Option Tag). tagged q bytes >>= λ tag. of_tag_at sizes tag.0 tag.1) is) ∙ e)

value_cut : (sizes : IdSizes) (v : Value) (o : ℕ → Option Tag) (bytes : List ℕ) (d : ValueFault) → IsBytes bytes
    → o (byte_of_tag (tag_of_value v)) ≡ Some (tag_of_value v)
    → (unsigned_at 1 bytes >>= λ b. tagged (o b.0) b.1 >>= λ tag. of_tag_at sizes tag.0 tag.1) ≡ Err d
    → number_from_digits 256 (take 1 (spell_value sizes v)) ≡ number_from_digits 256 (take 1 bytes)
    → length bytes < length (spell_value sizes v)
value_cut sizes v o bytes d fits known e leads =
    let n = byte_of_tag (tag_of_value v) in
    let front = bytes_high_first 1 n in
    let all : length (spell_value sizes v) ≡ length front + length (spell_untagged sizes v) =
    length-append front (spell_untagged sizes v) in
    elim (bind_err (unsigned_at 1 bytes) (λ b. tagged (o b.0) b.1 >>= λ tag. of_tag_at sizes tag.0 tag.1) d e) [
      | inl first ↦
          let few : length bytes < length front = number_cut 1 n bytes d first in
          omega (arith, few, all)
      | inr second ↦
          let same : n ≡ second.0.0 = sym (front_number 1 n (spell_untagged sizes v) (tag_small (tag_of_value v)))
          ∙ leads ∙ (unsigned_ok 1 bytes second.0 second.1).1 in
          let found : o second.0.0 ≡ Some (tag_of_value v) = ap o (sym same) ∙ known in
          let few : length second.0.1 < length (spell_untagged sizes v) =
          looked_cut sizes v (o second.0.0) second.0.1 d found second.2 in
          let read : length bytes ≡ 1 + length second.0.1 = (number_read 1 bytes second.0 fits second.1).0 in
          let long : length front ≡ 1 = length-bytes_high_first 1 n in
          omega (arith, few, read, long, all)
    ]

tail_cut : (x bytes : List ℕ) (d : ValueFault) → 1 ≤ length x → tail_at bytes ≡ Err d → length bytes < length x
unfolding tail_at
tail_cut x [] d some e = omega arith
tail_cut x (b ∷ bytes) d some e = absurd cc

-- ---- any part

read_cut : (sizes : IdSizes) (p : Part) (x : Of p) (bytes : List ℕ) (d : ValueFault) → IsBytes bytes
    → FitsPart sizes p x → read_part sizes p bytes ≡ Err d → d ≡ Short
    → lead p (spell_part sizes p x) ≡ lead p bytes → length bytes < length (spell_part sizes p x)
unfolding value_at untagged_at reference_at
read_cut sizes (simple s) x bytes d fits f e shorts leads = simple_cut sizes s x bytes d e shorts
read_cut sizes (count limit) x bytes d fits f e shorts leads = count_cut limit x bytes d e shorts
read_cut sizes text x bytes d fits f e shorts leads = text_cut x bytes d fits f e shorts leads
read_cut sizes location x bytes d fits f e shorts leads = location_cut sizes x bytes d fits e shorts
read_cut sizes value x bytes d fits f e shorts leads =
    value_cut sizes x tag_of bytes d fits (tag_of-byte (tag_of_value x)) e leads
read_cut sizes reference x bytes d fits f e shorts leads =
    let tag = tag_of_value x in
    let known : reference_tag (tag_of (byte_of_tag tag)) ≡ Some tag =
    ap reference_tag (tag_of-byte tag) ∙ ap (λ (b : Bool). cond b (Some tag) None) f.0 in
    value_cut sizes x (λ n. reference_tag (tag_of n)) bytes d fits known e leads
read_cut sizes (untagged byte) x bytes d fits f e shorts leads =
    let known : tag_of byte ≡ Some (tag_of_value x) = ap tag_of (sym f.0) ∙ tag_of-byte (tag_of_value x) in
    looked_cut sizes x (tag_of byte) bytes d known e
read_cut sizes tail x bytes d fits f e shorts leads = tail_cut x bytes d f.0 e

short_is : (d : ValueFault) → cause_in d ≡ short → d ≡ Short
short_is Short e = refl
short_is BadTag e = absurd cc
short_is BadCount e = absurd cc

cut_by : (sizes : IdSizes) (p : Part) (bytes : List ℕ) (x : Of p) → IsBytes bytes → HasNone sizes p bytes
    → cause_of p bytes ≡ short → FitsPart sizes p x → lead p (spell_part sizes p x) ≡ lead p bytes
    → (r : Result (Of p × List ℕ) ValueFault) → read_part sizes p bytes ≡ r
    → length bytes < length (spell_part sizes p x)
cut_by sizes p bytes x fits none shorts f leads (Ok y) is =
    absurd (none y.0 y.1 (part_stands sizes p bytes y fits is).0)
cut_by sizes p bytes x fits none shorts f leads (Err d) is =
    let d_is = short_is d (sym (part_cause sizes p bytes d is) ∙ shorts) in
    read_cut sizes p x bytes d fits f is d_is leads

pub short_cut : (sizes : IdSizes) (p : Part) (bytes : List ℕ) (x : Of p) → IsBytes bytes → HasNone sizes p bytes
    → cause_of p bytes ≡ short → FitsPart sizes p x → lead p (spell_part sizes p x) ≡ lead p bytes
    → length bytes < length (spell_part sizes p x)
short_cut sizes p bytes x fits none shorts f leads =
    cut_by sizes p bytes x fits none shorts f leads (read_part sizes p bytes) refl
