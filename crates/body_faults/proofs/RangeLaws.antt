-- A part that is read stands at the front of the bytes, with numbers of its types, and what stands there is read.
use Rattle.std.proofs.Common.{◌≡◌, ℕ, ℤ, ◌<◌, ◌≤◌, ◌^◌, List, [], ◌∷◌, ◌++◌, length, take, drop, min, Option}
use Rattle.std.proofs.Common.{Some, None}
use Rattle.std.proofs.Common.{Result, Ok, Err, refl, sym, ap, subst, ◌∙◌, arith, Bool, true, false, ltb}
use Rattle.std.specs.Prelude.{FitsSigned}
use Rattle.std.specs.Int.{Width, w8, w16, w32, w64, byte_len, cast_signed}
use Rattle.std.proofs.lemmas.List.{take_at, drop_at, drop_all, length-take}
use Rattle.std.proofs.lemmas.Bool.{ltb-false, ltb-true}
use borrow.Author.Gap.{read_sfits}
use Rattle.jdwp_values.specs.declared.fault.ValueFault.{ValueFault}
use Rattle.jdwp_values.specs.declared.location.Location.{Location}
use Rattle.jdwp_values.specs.declared.sizes.IdSizes.{IdSizes}
use Rattle.jdwp_values.specs.declared.tag.Tag.{Tag}
use Rattle.jdwp_values.specs.declared.tag.Tag.TheVariants as tags
use Rattle.jdwp_values.specs.declared.value.Value.{Value}
use Rattle.jdwp_values.specs.declared.value.Value.TheVariants as values
use Rattle.jdwp_values.specs.Bytes.{IsBytes}
use Rattle.jdwp_values.specs.Parts.{Simple, unsigned, signed, object_id, thread_id, class_id, method_id, field_id}
use Rattle.jdwp_values.specs.Parts.{frame_id, type_tag_byte, nothing, OfSimple, Part, simple, count, text, location}
use Rattle.jdwp_values.specs.Parts.{value, reference, untagged, tail, Of}
use Rattle.jdwp_values.specs.Reading.{◌>>=◌, unsigned_at, signed_at, tagged, type_tag_at, simple_at, location_at}
use Rattle.jdwp_values.specs.Reading.{as_value, of_tag_at, untagged_at, value_at, reference_tag, reference_at, tail_at}
use Rattle.jdwp_values.specs.Reading.{read_part}
use Rattle.jdwp_values.specs.Spelling.{spell_part, FitsPart, InRangeSimple, InRangeValue, InRangePart, Ends}
use Rattle.jdwp_values.specs.Tags.{tag_of}
use Rattle.jdwp_values.proofs.PartLaws.{bind_ok, unsigned_takes, part_takes, part_again}
use Rattle.body_faults.specs.Wrongs.{Stands}

signed_in : (w : Width) (bytes : List ℕ) (x : ℤ × List ℕ) → signed_at w bytes ≡ Ok x → FitsSigned w x.0
unfolding signed_at
signed_in w bytes x e =
    let b = bind_ok (unsigned_at (byte_len w) bytes) (λ n. Ok (cast_signed w n.0, n.1)) x e in
    let made : ℤ × List ℕ = (cast_signed w b.0.0, b.0.1) in
    let same : made ≡ x = cc in
    subst (λ (y : ℤ × List ℕ). FitsSigned w y.0) same (read_sfits w b.0.0)

simple_in : (sizes : IdSizes) (s : Simple) (bytes : List ℕ) (x : OfSimple s × List ℕ) → IsBytes bytes
    → simple_at sizes s bytes ≡ Ok x → InRangeSimple s x.0
unfolding simple_at
simple_in sizes (unsigned size) bytes x fits e = (unsigned_takes size bytes x fits e).1
simple_in sizes (signed w) bytes x fits e = signed_in w bytes x e
simple_in sizes object_id bytes x fits e = tt
simple_in sizes thread_id bytes x fits e = tt
simple_in sizes class_id bytes x fits e = tt
simple_in sizes method_id bytes x fits e = tt
simple_in sizes field_id bytes x fits e = tt
simple_in sizes frame_id bytes x fits e = tt
simple_in sizes type_tag_byte bytes x fits e = tt
simple_in sizes nothing bytes x fits e = tt

as_value_in : {A : Type 0} (make : A → Value) (read : Result (A × List ℕ) ValueFault)
    → ((y : A × List ℕ) → read ≡ Ok y → InRangeValue (make y.0)) → (x : Value × List ℕ) → as_value make read ≡ Ok x
    → InRangeValue x.0
as_value_in make (Ok y) holds x e =
    let here : Value × List ℕ = (make y.0, y.1) in
    let is : here ≡ x = cc in
    subst (λ (z : Value × List ℕ). InRangeValue z.0) is (holds y refl)
as_value_in make (Err d) holds x e = absurd cc

of_tag_in : (sizes : IdSizes) (tag : Tag) (bytes : List ℕ) (x : Value × List ℕ) → IsBytes bytes
    → of_tag_at sizes tag bytes ≡ Ok x → InRangeValue x.0
unfolding of_tag_at
of_tag_in sizes tags.Byte bytes x fits e = as_value_in values.Byte (signed_at w8 bytes) (signed_in w8 bytes) x e
of_tag_in sizes tags.Char bytes x fits e =
    as_value_in values.Char (unsigned_at 2 bytes) (λ y is. (unsigned_takes 2 bytes y fits is).1) x e
of_tag_in sizes tags.Double bytes x fits e =
    as_value_in values.Double (unsigned_at 8 bytes) (λ y is. (unsigned_takes 8 bytes y fits is).1) x e
of_tag_in sizes tags.Float bytes x fits e =
    as_value_in values.Float (unsigned_at 4 bytes) (λ y is. (unsigned_takes 4 bytes y fits is).1) x e
of_tag_in sizes tags.Int bytes x fits e = as_value_in values.Int (signed_at w32 bytes) (signed_in w32 bytes) x e
of_tag_in sizes tags.Long bytes x fits e = as_value_in values.Long (signed_at w64 bytes) (signed_in w64 bytes) x e
of_tag_in sizes tags.Short bytes x fits e = as_value_in values.Short (signed_at w16 bytes) (signed_in w16 bytes) x e
of_tag_in sizes tags.Boolean bytes x fits e =
    as_value_in values.Boolean (unsigned_at 1 bytes) (λ y is. (unsigned_takes 1 bytes y fits is).1) x e
of_tag_in sizes tags.Void bytes x fits e =
    let here : Value × List ℕ = (values.Void, bytes) in
    let is : here ≡ x = cc in
    subst (λ (z : Value × List ℕ). InRangeValue z.0) is tt
of_tag_in sizes tags.Object bytes x fits e =
    as_value_in values.Object (simple_at sizes object_id bytes) (λ y is. tt) x e
of_tag_in sizes tags.Array bytes x fits e =
    as_value_in values.Array (simple_at sizes object_id bytes) (λ y is. tt) x e
of_tag_in sizes tags.String bytes x fits e =
    as_value_in values.String (simple_at sizes object_id bytes) (λ y is. tt) x e
of_tag_in sizes tags.Thread bytes x fits e =
    as_value_in values.Thread (simple_at sizes object_id bytes) (λ y is. tt) x e
of_tag_in sizes tags.ThreadGroup bytes x fits e =
    as_value_in values.ThreadGroup (simple_at sizes object_id bytes) (λ y is. tt) x e
of_tag_in sizes tags.ClassLoader bytes x fits e =
    as_value_in values.ClassLoader (simple_at sizes object_id bytes) (λ y is. tt) x e
of_tag_in sizes tags.ClassObject bytes x fits e =
    as_value_in values.ClassObject (simple_at sizes object_id bytes) (λ y is. tt) x e

tagged_rest : {A : Type 0} (o : Option A) (rest : List ℕ) (x : A × List ℕ) → tagged o rest ≡ Ok x → rest ≡ x.1
tagged_rest {A} (Some y) rest x e =
    let here : A × List ℕ = (y, rest) in
    let is : here ≡ x = cc in
    ap (λ (z : A × List ℕ). z.1) is
tagged_rest None rest x e = absurd cc

-- a value behind a tag that was looked up
tagged_in : (sizes : IdSizes) (o : Option Tag) (bytes : List ℕ) (x : Value × List ℕ) → IsBytes bytes
    → (tagged o bytes >>= λ tag. of_tag_at sizes tag.0 tag.1) ≡ Ok x → InRangeValue x.0
tagged_in sizes o bytes x fits e =
    let b = bind_ok (tagged o bytes) (λ tag. of_tag_at sizes tag.0 tag.1) x e in
    let rest_fits : IsBytes b.0.1 = subst (λ (r : List ℕ). IsBytes r) (tagged_rest o bytes b.0 b.1) fits in
    of_tag_in sizes b.0.0 b.0.1 x rest_fits b.2

location_in : (sizes : IdSizes) (bytes : List ℕ) (x : Location × List ℕ) → IsBytes bytes
    → location_at sizes bytes ≡ Ok x → x.0.index < 256 ^ 8
unfolding location_at simple_at
location_in sizes bytes x fits e =
    let a = bind_ok (type_tag_at bytes)
    (λ tag. simple_at sizes class_id tag.1 >>= λ class. simple_at sizes method_id class.1 >>= λ method. unsigned_at 8
    method.1 >>= λ index. Ok
    (record { tag = tag.0; class = class.0; method = method.0; index = index.0 }, index.1)) x e in
    let b = bind_ok (simple_at sizes class_id a.0.1)
    (λ class. simple_at sizes method_id class.1 >>= λ method. unsigned_at 8 method.1 >>= λ index. Ok
    (record { tag = a.0.0; class = class.0; method = method.0; index = index.0 }, index.1)) x a.2 in
    let c = bind_ok (simple_at sizes method_id b.0.1)
    (λ method. unsigned_at 8 method.1 >>= λ index. Ok
    (record { tag = a.0.0; class = b.0.0; method = method.0; index = index.0 }, index.1)) x b.2 in
    let d = bind_ok (unsigned_at 8 c.0.1)
    (λ index. Ok (record { tag = a.0.0; class = b.0.0; method = c.0.0; index = index.0 }, index.1)) x c.2 in
    let t0 = part_takes sizes (simple type_tag_byte) bytes a.0 fits a.1 in
    let t1 = part_takes sizes (simple class_id) a.0.1 b.0 t0.0.rest_fits b.1 in
    let t2 = part_takes sizes (simple method_id) b.0.1 c.0 t1.0.rest_fits c.1 in
    let t3 = unsigned_takes 8 c.0.1 d.0 t2.0.rest_fits d.1 in
    let here : Location × List ℕ = (record { tag = a.0.0; class = b.0.0; method = c.0.0; index = d.0.0 }, d.0.1) in
    let is : here ≡ x = cc in
    subst (λ (y : Location × List ℕ). y.0.index < 256 ^ 8) {x = here} is t3.1

value_in : (sizes : IdSizes) (bytes : List ℕ) (x : Value × List ℕ) → IsBytes bytes → value_at sizes bytes ≡ Ok x
    → InRangeValue x.0
unfolding value_at untagged_at
value_in sizes bytes x fits e =
    let b = bind_ok (unsigned_at 1 bytes) (λ byte. untagged_at sizes byte.0 byte.1) x e in
    let t = unsigned_takes 1 bytes b.0 fits b.1 in
    tagged_in sizes (tag_of b.0.0) b.0.1 x t.0.rest_fits b.2

reference_in : (sizes : IdSizes) (bytes : List ℕ) (x : Value × List ℕ) → IsBytes bytes
    → reference_at sizes bytes ≡ Ok x → InRangeValue x.0
unfolding reference_at
reference_in sizes bytes x fits e =
    let b = bind_ok (unsigned_at 1 bytes)
    (λ byte. tagged (reference_tag (tag_of byte.0)) byte.1 >>= λ tag. of_tag_at sizes tag.0 tag.1) x e in
    let t = unsigned_takes 1 bytes b.0 fits b.1 in
    tagged_in sizes (reference_tag (tag_of b.0.0)) b.0.1 x t.0.rest_fits b.2

untagged_in : (sizes : IdSizes) (byte : ℕ) (bytes : List ℕ) (x : Value × List ℕ) → IsBytes bytes
    → untagged_at sizes byte bytes ≡ Ok x → InRangeValue x.0
unfolding untagged_at
untagged_in sizes byte bytes x fits e = tagged_in sizes (tag_of byte) bytes x fits e

part_in : (sizes : IdSizes) (p : Part) (bytes : List ℕ) (x : Of p × List ℕ) → IsBytes bytes
    → read_part sizes p bytes ≡ Ok x → InRangePart p x.0
part_in sizes (simple s) bytes x fits e = simple_in sizes s bytes x fits e
part_in sizes (count limit) bytes x fits e = tt
part_in sizes text bytes x fits e = tt
part_in sizes location bytes x fits e = location_in sizes bytes x fits e
part_in sizes value bytes x fits e = value_in sizes bytes x fits e
part_in sizes reference bytes x fits e = reference_in sizes bytes x fits e
part_in sizes (untagged byte) bytes x fits e = untagged_in sizes byte bytes x fits e
part_in sizes tail bytes x fits e = tt

tail_ends : (bytes : List ℕ) (x : List ℕ × List ℕ) → tail_at bytes ≡ Ok x → length x.0 < 8 → x.1 ≡ []
unfolding tail_at
tail_ends [] x e few = absurd cc
tail_ends (b ∷ bytes) x e few =
    let all : List ℕ = b ∷ bytes in
    let here : List ℕ × List ℕ = (take 8 all, drop 8 all) in
    let is : here ≡ x = cc in
    let len : length (take 8 all) ≡ min 8 (length all) = length-take 8 all in
    let front : length (take 8 all) < 8 = subst (λ (y : List ℕ × List ℕ). length y.0 < 8) (sym is) few in
    let little : length all ≤ 8 = omega arith in
    subst (λ (y : List ℕ × List ℕ). y.1 ≡ []) is (drop_all 8 all little)

part_ends : (sizes : IdSizes) (p : Part) (bytes : List ℕ) (x : Of p × List ℕ) → read_part sizes p bytes ≡ Ok x
    → length (spell_part sizes p x.0) < 8 → Ends p x.1
part_ends sizes (simple s) bytes x e few = tt
part_ends sizes (count limit) bytes x e few = tt
part_ends sizes text bytes x e few = tt
part_ends sizes location bytes x e few = tt
part_ends sizes value bytes x e few = tt
part_ends sizes reference bytes x e few = tt
part_ends sizes (untagged byte) bytes x e few = tt
part_ends sizes tail bytes x e few = tail_ends bytes x e few

-- what is read stands there
pub part_stands : (sizes : IdSizes) (p : Part) (bytes : List ℕ) (x : Of p × List ℕ) → IsBytes bytes
    → read_part sizes p bytes ≡ Ok x → Stands sizes p bytes x.0 x.1 × IsBytes x.1
part_stands sizes p bytes x fits e =
    let t = part_takes sizes p bytes x fits e in (
      record {
        fits = t.1;
        in_range = part_in sizes p bytes x fits e;
        spelled = t.0.parts;
        ends = part_ends sizes p bytes x e;
      },
      t.0.rest_fits,
    )

tail_again : (x rest : List ℕ) → 1 ≤ length x → length x ≡ 8 → tail_at (x ++ rest) ≡ Ok (x, rest)
unfolding tail_at
tail_again [] rest some full = absurd (omega arith)
tail_again (b ∷ bytes) rest some full = rw (take_at (b ∷ bytes) rest 8 full, drop_at (b ∷ bytes) rest 8 full) refl

tail_read : (sizes : IdSizes) (x rest : List ℕ) (few : Bool) → ltb (length x) 8 ≡ few
    → (1 ≤ length x) × (length x ≤ 8) → (length x < 8 → rest ≡ []) → tail_at (x ++ rest) ≡ Ok (x, rest)
tail_read sizes x rest true is fits ends = part_again sizes tail x rest fits tt (ends (ltb-true _ _ is))
tail_read sizes x rest false is fits ends =
    let full : 8 ≤ length x = ltb-false _ _ is in
    tail_again x rest fits.0 (omega (arith, full, fits.1))

read_again : (sizes : IdSizes) (p : Part) (x : Of p) (rest : List ℕ) → FitsPart sizes p x → InRangePart p x
    → (length (spell_part sizes p x) < 8 → Ends p rest)
    → read_part sizes p (spell_part sizes p x ++ rest) ≡ Ok (x, rest)
read_again sizes (simple s) x rest fits range ends = part_again sizes (simple s) x rest fits range tt
read_again sizes (count limit) x rest fits range ends = part_again sizes (count limit) x rest fits range tt
read_again sizes text x rest fits range ends = part_again sizes text x rest fits range tt
read_again sizes location x rest fits range ends = part_again sizes location x rest fits range tt
read_again sizes value x rest fits range ends = part_again sizes value x rest fits range tt
read_again sizes reference x rest fits range ends = part_again sizes reference x rest fits range tt
read_again sizes (untagged byte) x rest fits range ends = part_again sizes (untagged byte) x rest fits range tt
read_again sizes tail x rest fits range ends = tail_read sizes x rest (ltb (length x) 8) refl fits ends

-- what stands there is read
pub part_read : (sizes : IdSizes) (p : Part) (bytes : List ℕ) (x : Of p) (rest : List ℕ) → Stands sizes p bytes x rest
    → read_part sizes p bytes ≡ Ok (x, rest)
part_read sizes p bytes x rest s =
    ap (read_part sizes p) s.spelled ∙ read_again sizes p x rest s.fits s.in_range s.ends
