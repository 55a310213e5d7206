-- Why a part can't be read is what its bytes say.
use Rattle.std.proofs.Common.{◌≡◌, ℕ, ◌^◌, Bool, true, false, cond, ltb, ◌&&◌, ◌||◌, List, [], ◌∷◌, length, take}
use Rattle.std.proofs.Common.{drop, Option, Some, None, Result, Ok, Err, refl, sym, ap, ◌∙◌, ◌⊎◌, inl, inr, arith}
use Rattle.std.proofs.lemmas.Bool.{le-ltb}
use Rattle.std.specs.Prelude.{is_some}
use Rattle.std.specs.Int.{Width, w8, w16, w32, w64, byte_len, cast_signed}
use Rattle.std.specs.Int.Digits.{number_from_digits}
use Rattle.jdwp_values.specs.declared.fault.ValueFault.{ValueFault}
use Rattle.jdwp_values.specs.declared.fault.ValueFault.TheVariants.{Short, BadTag, BadCount}
use Rattle.jdwp_values.specs.declared.id.ObjectId.{ObjectId}
use Rattle.jdwp_values.specs.declared.limit.Limit.{Limit}
use Rattle.jdwp_values.specs.declared.limit.Limit.TheVariants.{Any}
use Rattle.jdwp_values.specs.declared.location.Location.{Location}
use Rattle.jdwp_values.specs.declared.sizes.IdSizes.{IdSizes}
use Rattle.jdwp_values.specs.declared.tag.Tag.{Tag}
use Rattle.jdwp_values.specs.declared.tag.Tag.TheVariants as tags
use Rattle.jdwp_values.specs.declared.tag.TypeTag.{TypeTag}
use Rattle.jdwp_values.specs.declared.value.Value.{Value}
use Rattle.jdwp_values.specs.declared.value.Value.TheVariants as values
use Rattle.jdwp_values.specs.Counts.{allows}
use Rattle.jdwp_values.specs.Parts.{Simple, unsigned, signed, object_id, thread_id, class_id, method_id, field_id}
use Rattle.jdwp_values.specs.Parts.{frame_id, type_tag_byte, nothing, Part, simple, count, text, location, value}
use Rattle.jdwp_values.specs.Parts.{reference, untagged, tail}
use Rattle.jdwp_values.specs.Reading.{◌>>=◌, bytes_at, unsigned_at, signed_at, tagged, type_tag_at, simple_at, count_at}
use Rattle.jdwp_values.specs.Reading.{text_at, location_at, as_value, of_tag_at, untagged_at, value_at, reference_tag}
use Rattle.jdwp_values.specs.Reading.{reference_at, tail_at, read_part}
use Rattle.jdwp_values.specs.Tags.{type_tag_of, tag_of}
use Rattle.jdwp_values.proofs.PartLaws.{bind_ok, guard_ok, passed}
use Rattle.body_faults.specs.Layouts.{Cause, short, bad_count, bad_tag}
use Rattle.body_faults.specs.Wrongs.{is_count, cause_of}

-- a part's fault as a cause
abbrev pub cause_in : ValueFault → Cause
cause_in Short = short
cause_in BadTag = bad_tag
cause_in BadCount = bad_count

-- ---- steps that failed

abbrev failed : {A : Type 0} → ValueFault → Result A ValueFault
failed d = Err d

-- which of two steps failed
pub bind_err : {A B : Type 0} (r : Result A ValueFault) (f : A → Result B ValueFault) (d : ValueFault)
    → (r >>= f) ≡ Err d → (r ≡ Err d) ⊎ ((x : A) × (r ≡ Ok x) × (f x ≡ Err d))
bind_err (Ok x) f d e = inr (x, refl, e)
bind_err {A} (Err c) f d e = let is : c ≡ d = cc in inl (ap (λ (q : ValueFault). failed {A = A} q) is)

-- a step that only makes something of what was read doesn't fail
pub made_err : {A B : Type 0} (r : Result A ValueFault) (make : A → B) (d : ValueFault)
    → (r >>= λ x. Ok (make x)) ≡ Err d → r ≡ Err d
made_err (Ok x) make d e = absurd cc
made_err {A} (Err c) make d e = let is : c ≡ d = cc in ap (λ (q : ValueFault). failed {A = A} q) is

pub as_value_err : {A : Type 0} (make : A → Value) (r : Result (A × List ℕ) ValueFault) (d : ValueFault)
    → as_value make r ≡ Err d → r ≡ Err d
as_value_err make (Ok x) d e = absurd cc
as_value_err {A} make (Err c) d e = let is : c ≡ d = cc in ap (λ (q : ValueFault). failed {A = A × List ℕ} q) is

guard_err : {A : Type 0} (b : Bool) (c d : ValueFault) (y : A) → cond b (Err c) (Ok y) ≡ Err d → (b ≡ true) × (c ≡ d)
guard_err true c d y e = (refl, cc)
guard_err false c d y e = absurd cc

pub passed_err : {A : Type 0} (b : Bool) (c d : ValueFault) (y : A) → cond b (Ok y) (Err c) ≡ Err d
    → (b ≡ false) × (c ≡ d)
passed_err true c d y e = absurd cc
passed_err false c d y e = (refl, cc)

pub tagged_err : {A : Type 0} (o : Option A) (rest : List ℕ) (d : ValueFault) → tagged o rest ≡ Err d
    → (is_some o ≡ false) × (BadTag ≡ d)
tagged_err (Some x) rest d e = absurd cc
tagged_err None rest d e = (refl, cc)

tagged_some : {A : Type 0} (o : Option A) (rest : List ℕ) (x : A × List ℕ) → tagged o rest ≡ Ok x → is_some o ≡ true
tagged_some (Some y) rest x e = refl
tagged_some None rest x e = absurd cc

-- ---- numbers

pub bytes_err : (size : ℕ) (bytes : List ℕ) (d : ValueFault) → bytes_at size bytes ≡ Err d
    → (ltb (length bytes) size ≡ true) × (Short ≡ d)
bytes_err size bytes d e = guard_err (ltb (length bytes) size) Short d (take size bytes, drop size bytes) e

pub unsigned_err : (size : ℕ) (bytes : List ℕ) (d : ValueFault) → unsigned_at size bytes ≡ Err d
    → (ltb (length bytes) size ≡ true) × (Short ≡ d)
unfolding unsigned_at
unsigned_err size bytes d e =
    bytes_err size bytes d
    (made_err (bytes_at size bytes) (λ front. (number_from_digits 256 front.0, front.1)) d e)

pub unsigned_ok : (size : ℕ) (bytes : List ℕ) (x : ℕ × List ℕ) → unsigned_at size bytes ≡ Ok x
    → (ltb (length bytes) size ≡ false) × (number_from_digits 256 (take size bytes) ≡ x.0)
unfolding unsigned_at
unsigned_ok size bytes x e =
    let b = bind_ok (bytes_at size bytes) (λ front. Ok (number_from_digits 256 front.0, front.1)) x e in
    let g = guard_ok (ltb (length bytes) size) Short (take size bytes, drop size bytes) b.0 b.1 in
    let made : ℕ × List ℕ = (number_from_digits 256 b.0.0, b.0.1) in
    let same : made ≡ x = cc in
    (g.0, ap (λ (y : List ℕ × List ℕ). number_from_digits 256 y.0) g.1 ∙ ap (λ (y : ℕ × List ℕ). y.0) same)

signed_err : (w : Width) (bytes : List ℕ) (d : ValueFault) → signed_at w bytes ≡ Err d → Short ≡ d
unfolding signed_at
signed_err w bytes d e =
    (unsigned_err (byte_len w) bytes d
    (made_err (unsigned_at (byte_len w) bytes) (λ n. (cast_signed w n.0, n.1)) d e)).1

abbrev pub made_by : {A : Type 0} → (ℕ → A) → ℕ × List ℕ → A × List ℕ
made_by make n = (make n.0, n.1)

id_err : {A : Type 0} (make : ℕ → A) (size : ℕ) (bytes : List ℕ) (d : ValueFault)
    → (unsigned_at size bytes >>= λ n. Ok (made_by make n)) ≡ Err d → Short ≡ d
id_err make size bytes d e = (unsigned_err size bytes d (made_err (unsigned_at size bytes) (made_by make) d e)).1

-- ---- a part that begins with a number by which it can be bad

abbrev judged : ℕ → (ℕ → Bool) → Cause → List ℕ → Cause
judged size may bad bytes =
    cond (ltb (length bytes) size || may (number_from_digits 256 (take size bytes))) short bad

-- that number isn't whole
judged_short : (size : ℕ) (may : ℕ → Bool) (bad : Cause) (bytes : List ℕ) (d : ValueFault)
    → unsigned_at size bytes ≡ Err d → judged size may bad bytes ≡ cause_in d
judged_short size may bad bytes d e =
    let u = unsigned_err size bytes d e in
    ap (λ (b : Bool). cond (b || may (number_from_digits 256 (take size bytes))) short bad) u.0 ∙ ap cause_in u.1

judged_whole : (size : ℕ) (may : ℕ → Bool) (bad : Cause) (bytes : List ℕ) (x : ℕ × List ℕ) (b : Bool)
    → unsigned_at size bytes ≡ Ok x → may x.0 ≡ b → judged size may bad bytes ≡ cond b short bad
judged_whole size may bad bytes x b e is =
    let u = unsigned_ok size bytes x e in
    ap (λ (c : Bool). cond (c || may (number_from_digits 256 (take size bytes))) short bad) u.0
    ∙ ap (λ (n : ℕ). cond (may n) short bad) u.1 ∙ ap (λ (c : Bool). cond c short bad) is

-- it may stand there
judged_may : (size : ℕ) (may : ℕ → Bool) (bad : Cause) (bytes : List ℕ) (x : ℕ × List ℕ) (d : ValueFault)
    → unsigned_at size bytes ≡ Ok x → may x.0 ≡ true → Short ≡ d → judged size may bad bytes ≡ cause_in d
judged_may size may bad bytes x d e is shorts = judged_whole size may bad bytes x true e is ∙ ap cause_in shorts

-- no number is bad
or_true : (b : Bool) → (b || true) ≡ true
or_true true = refl
or_true false = refl

free : (size : ℕ) (bad : Cause) (bytes : List ℕ) (d : ValueFault) → Short ≡ d
    → judged size (λ n. true) bad bytes ≡ cause_in d
free size bad bytes d shorts =
    ap (λ (b : Bool). cond b short bad) (or_true (ltb (length bytes) size)) ∙ ap cause_in shorts

-- ---- tags

tag_judged : {A : Type 0} (o : ℕ → Option A) (bytes : List ℕ) (d : ValueFault)
    → (unsigned_at 1 bytes >>= λ b. tagged (o b.0) b.1) ≡ Err d
    → judged 1 (λ n. is_some (o n)) bad_tag bytes ≡ cause_in d
tag_judged o bytes d e =
    elim (bind_err (unsigned_at 1 bytes) (λ b. tagged (o b.0) b.1) d e) [
      | inl first ↦ judged_short 1 (λ n. is_some (o n)) bad_tag bytes d first
      | inr second ↦ let t = tagged_err (o second.0.0) second.0.1 d second.2 in
          judged_whole 1 (λ n. is_some (o n)) bad_tag bytes second.0 false second.1 t.0 ∙ ap cause_in t.1
    ]

tag_stands : {A : Type 0} (o : ℕ → Option A) (bytes : List ℕ) (x : A × List ℕ) (d : ValueFault)
    → (unsigned_at 1 bytes >>= λ b. tagged (o b.0) b.1) ≡ Ok x → Short ≡ d
    → judged 1 (λ n. is_some (o n)) bad_tag bytes ≡ cause_in d
tag_stands o bytes x d e shorts =
    let b = bind_ok (unsigned_at 1 bytes) (λ b. tagged (o b.0) b.1) x e in
    judged_may 1 (λ n. is_some (o n)) bad_tag bytes b.0 d b.1 (tagged_some (o b.0.0) b.0.1 x b.2) shorts

regrouped : {A B C : Type 0} (r : Result A ValueFault) (f : A → Result B ValueFault) (g : B → Result C ValueFault)
    → (r >>= λ x. f x >>= g) ≡ ((r >>= f) >>= g)
regrouped (Ok x) f g = refl
regrouped (Err d) f g = refl

-- behind the byte of a tag only bytes can be missing
behind_tag : {A B : Type 0} (o : ℕ → Option A) (f : A × List ℕ → Result B ValueFault)
    → ((x : A × List ℕ) (d : ValueFault) → f x ≡ Err d → Short ≡ d) → (bytes : List ℕ) (d : ValueFault)
    → ((unsigned_at 1 bytes >>= λ b. tagged (o b.0) b.1) >>= f) ≡ Err d
    → judged 1 (λ n. is_some (o n)) bad_tag bytes ≡ cause_in d
behind_tag o f shorts bytes d e =
    elim (bind_err (unsigned_at 1 bytes >>= λ b. tagged (o b.0) b.1) f d e) [
      | inl first ↦ tag_judged o bytes d first
      | inr second ↦ tag_stands o bytes second.0 d second.1 (shorts second.0 d second.2)
    ]

-- ---- parts

simple_cause : (sizes : IdSizes) (s : Simple) (bytes : List ℕ) (d : ValueFault) → simple_at sizes s bytes ≡ Err d
    → cause_of (simple s) bytes ≡ cause_in d
unfolding simple_at type_tag_at
simple_cause sizes (unsigned size) bytes d e = free 1 bad_tag bytes d (unsigned_err size bytes d e).1
simple_cause sizes (signed w) bytes d e = free 1 bad_tag bytes d (signed_err w bytes d e)
simple_cause sizes object_id bytes d e =
    free 1 bad_tag bytes d (id_err (λ n. record { 0 = n }) sizes.object bytes d e)
simple_cause sizes thread_id bytes d e =
    free 1 bad_tag bytes d (id_err (λ n. record { 0 = n }) sizes.object bytes d e)
simple_cause sizes class_id bytes d e =
    free 1 bad_tag bytes d (id_err (λ n. record { 0 = n }) sizes.class bytes d e)
simple_cause sizes method_id bytes d e =
    free 1 bad_tag bytes d (id_err (λ n. record { 0 = n }) sizes.method bytes d e)
simple_cause sizes field_id bytes d e =
    free 1 bad_tag bytes d (id_err (λ n. record { 0 = n }) sizes.field bytes d e)
simple_cause sizes frame_id bytes d e =
    free 1 bad_tag bytes d (id_err (λ n. record { 0 = n }) sizes.frame bytes d e)
simple_cause sizes type_tag_byte bytes d e = tag_judged type_tag_of bytes d e
simple_cause sizes nothing bytes d e = absurd cc

count_cause : (limit : Limit) (bytes : List ℕ) (d : ValueFault) → count_at limit bytes ≡ Err d
    → judged 4 (is_count limit) bad_count bytes ≡ cause_in d
unfolding count_at
count_cause limit bytes d e =
    elim (bind_err (unsigned_at 4 bytes)
    (λ n. cond (ltb n.0 (2 ^ 31) && allows limit n.0) (Ok n) (Err BadCount)) d e) [
      | inl first ↦ judged_short 4 (is_count limit) bad_count bytes d first
      | inr second ↦ let p = passed_err (is_count limit second.0.0) BadCount d second.0 second.2 in
          judged_whole 4 (is_count limit) bad_count bytes second.0 false second.1 p.0 ∙ ap cause_in p.1
    ]

count_stands : (limit : Limit) (bytes : List ℕ) (x : ℕ × List ℕ) (d : ValueFault) → count_at limit bytes ≡ Ok x
    → Short ≡ d → judged 4 (is_count limit) bad_count bytes ≡ cause_in d
unfolding count_at
count_stands limit bytes x d e shorts =
    let b = bind_ok (unsigned_at 4 bytes)
    (λ n. cond (ltb n.0 (2 ^ 31) && allows limit n.0) (Ok n) (Err BadCount)) x e in
    let p = passed (is_count limit b.0.0) BadCount b.0 x b.2 in
    judged_may 4 (is_count limit) bad_count bytes b.0 d b.1 p.0 shorts

text_cause : (bytes : List ℕ) (d : ValueFault) → text_at bytes ≡ Err d
    → judged 4 (is_count Any) bad_count bytes ≡ cause_in d
unfolding text_at
text_cause bytes d e =
    elim (bind_err (count_at Any bytes) (λ len. bytes_at len.0 len.1) d e) [
      | inl first ↦ count_cause Any bytes d first
      | inr second ↦ count_stands Any bytes second.0 d second.1 (bytes_err second.0.0 second.0.1 d second.2).1
    ]

-- the rest of a location
abbrev pub located : IdSizes → TypeTag × List ℕ → Result (Location × List ℕ) ValueFault
located sizes tag = do
  class ← simple_at sizes class_id tag.1
  method ← simple_at sizes method_id class.1
  index ← unsigned_at 8 method.1
  Ok (record { tag = tag.0; class = class.0; method = method.0; index = index.0 }, index.1)

located_err : (sizes : IdSizes) (tag : TypeTag × List ℕ) (d : ValueFault) → located sizes tag ≡ Err d → Short ≡ d
unfolding simple_at
located_err sizes tag d e =
    elim (bind_err (simple_at sizes class_id tag.1) (λ class. simple_at sizes method_id class.1 >>= λ method.
    unsigned_at 8 method.1 >>= λ index. Ok
    (record { tag = tag.0; class = class.0; method = method.0; index = index.0 }, index.1)) d e) [
      | inl no_class ↦ id_err (λ n. record { 0 = n }) sizes.class tag.1 d no_class
      | inr class ↦ elim (bind_err (simple_at sizes method_id class.0.1) (λ method. unsigned_at 8 method.1 >>= λ index.
          Ok (record { tag = tag.0; class = class.0.0; method = method.0; index = index.0 }, index.1)) d class.2) [
            | inl no_method ↦ id_err (λ n. record { 0 = n }) sizes.method class.0.1 d no_method
            | inr method ↦ (unsigned_err 8 method.0.1 d (made_err (unsigned_at 8 method.0.1) (λ index.
                (record { tag = tag.0; class = class.0.0; method = method.0.0; index = index.0 }, index.1)) d
                method.2)).1
          ]
    ]

location_cause : (sizes : IdSizes) (bytes : List ℕ) (d : ValueFault) → location_at sizes bytes ≡ Err d
    → cause_of location bytes ≡ cause_in d
unfolding location_at type_tag_at
location_cause sizes bytes d e = behind_tag type_tag_of (located sizes) (located_err sizes) bytes d e

object_err : (make : ObjectId → Value) (sizes : IdSizes) (bytes : List ℕ) (d : ValueFault)
    → as_value make (simple_at sizes object_id bytes) ≡ Err d → Short ≡ d
unfolding simple_at
object_err make sizes bytes d e =
    id_err (λ n. record { 0 = n }) sizes.object bytes d (as_value_err make (simple_at sizes object_id bytes) d e)

of_tag_err : (sizes : IdSizes) (tag : Tag) (bytes : List ℕ) (d : ValueFault) → of_tag_at sizes tag bytes ≡ Err d
    → Short ≡ d
unfolding of_tag_at simple_at
of_tag_err sizes tags.Byte bytes d e = signed_err w8 bytes d (as_value_err values.Byte (signed_at w8 bytes) d e)
of_tag_err sizes tags.Char bytes d e =
    (unsigned_err 2 bytes d (as_value_err values.Char (unsigned_at 2 bytes) d e)).1
of_tag_err sizes tags.Double bytes d e =
    (unsigned_err 8 bytes d (as_value_err values.Double (unsigned_at 8 bytes) d e)).1
of_tag_err sizes tags.Float bytes d e =
    (unsigned_err 4 bytes d (as_value_err values.Float (unsigned_at 4 bytes) d e)).1
of_tag_err sizes tags.Int bytes d e = signed_err w32 bytes d (as_value_err values.Int (signed_at w32 bytes) d e)
of_tag_err sizes tags.Long bytes d e = signed_err w64 bytes d (as_value_err values.Long (signed_at w64 bytes) d e)
of_tag_err sizes tags.Short bytes d e = signed_err w16 bytes d (as_value_err values.Short (signed_at w16 bytes) d e)
of_tag_err sizes tags.Boolean bytes d e =
    (unsigned_err 1 bytes d (as_value_err values.Boolean (unsigned_at 1 bytes) d e)).1
of_tag_err sizes tags.Void bytes d e = absurd cc
of_tag_err sizes tags.Object bytes d e = object_err values.Object sizes bytes d e
of_tag_err sizes tags.Array bytes d e = object_err values.Array sizes bytes d e
of_tag_err sizes tags.String bytes d e = object_err values.String sizes bytes d e
of_tag_err sizes tags.Thread bytes d e = object_err values.Thread sizes bytes d e
of_tag_err sizes tags.ThreadGroup bytes d e = object_err values.ThreadGroup sizes bytes d e
of_tag_err sizes tags.ClassLoader bytes d e = object_err values.ClassLoader sizes bytes d e
of_tag_err sizes tags.ClassObject bytes d e = object_err values.ClassObject sizes bytes d e

value_cause : (sizes : IdSizes) (bytes : List ℕ) (d : ValueFault) → value_at sizes bytes ≡ Err d
    → cause_of value bytes ≡ cause_in d
unfolding value_at untagged_at
value_cause sizes bytes d e =
    behind_tag tag_of (λ tag. of_tag_at sizes tag.0 tag.1) (λ tag c is. of_tag_err sizes tag.0 tag.1 c is) bytes d
    (sym (regrouped (unsigned_at 1 bytes) (λ b. tagged (tag_of b.0) b.1) (λ tag. of_tag_at sizes tag.0 tag.1)) ∙ e)

reference_cause : (sizes : IdSizes) (bytes : List ℕ) (d : ValueFault) → reference_at sizes bytes ≡ Err d
    → cause_of reference bytes ≡ cause_in d
unfolding reference_at
reference_cause sizes bytes d e =
    behind_tag (λ n. reference_tag (tag_of n)) (λ tag. of_tag_at sizes tag.0 tag.1)
    (λ tag c is. of_tag_err sizes tag.0 tag.1 c is) bytes d
    (sym (regrouped (unsigned_at 1 bytes) (λ b. tagged (reference_tag (tag_of b.0)) b.1)
    (λ tag. of_tag_at sizes tag.0 tag.1)) ∙ e)

none_below : (n : ℕ) → ltb n 0 ≡ false
none_below n = le-ltb _ _ (omega arith)

untagged_cause : (sizes : IdSizes) (byte : ℕ) (bytes : List ℕ) (d : ValueFault) → untagged_at sizes byte bytes ≡ Err d
    → cause_of (untagged byte) bytes ≡ cause_in d
unfolding untagged_at
untagged_cause sizes byte bytes d e =
    ap (λ (b : Bool). cond (b || is_some (tag_of byte)) short bad_tag) (none_below (length bytes))
    ∙ elim (bind_err (tagged (tag_of byte) bytes) (λ tag. of_tag_at sizes tag.0 tag.1) d e) [
      | inl first ↦ let t = tagged_err (tag_of byte) bytes d first in
          ap (λ (b : Bool). cond b short bad_tag) t.0 ∙ ap cause_in t.1
      | inr second ↦
          ap (λ (b : Bool). cond b short bad_tag) (tagged_some (tag_of byte) bytes second.0 second.1)
          ∙ ap cause_in (of_tag_err sizes second.0.0 second.0.1 d second.2)
    ]

tail_cause : (bytes : List ℕ) (d : ValueFault) → tail_at bytes ≡ Err d → cause_of tail bytes ≡ cause_in d
unfolding tail_at
tail_cause [] d e = let is : Short ≡ d = cc in ap cause_in is
tail_cause (b ∷ bytes) d e = absurd cc

pub part_cause : (sizes : IdSizes) (p : Part) (bytes : List ℕ) (d : ValueFault) → read_part sizes p bytes ≡ Err d
    → cause_of p bytes ≡ cause_in d
part_cause sizes (simple s) bytes d e = simple_cause sizes s bytes d e
part_cause sizes (count limit) bytes d e = count_cause limit bytes d e
part_cause sizes text bytes d e = text_cause bytes d e
part_cause sizes location bytes d e = location_cause sizes bytes d e
part_cause sizes value bytes d e = value_cause sizes bytes d e
part_cause sizes reference bytes d e = reference_cause sizes bytes d e
part_cause sizes (untagged byte) bytes d e = untagged_cause sizes byte bytes d e
part_cause sizes tail bytes d e = tail_cause bytes d e
