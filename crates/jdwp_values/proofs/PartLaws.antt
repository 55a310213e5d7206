-- A part that is read is the part that was spelled there, and a part that is spelled is read again.
use Rattle.std.proofs.Common.{◌≡◌, ℕ, ℤ, zero, suc, ◌^◌, ◌<◌, ◌≤◌, Bool, true, false, cond, ltb, ◌&&◌, List, [], ◌∷◌}
use Rattle.std.proofs.Common.{◌++◌, length, take, drop, min, Option, Some, None, Result, Ok, Err, refl, sym, ap, subst}
use Rattle.std.proofs.Common.{◌∙◌, append_assoc, arith, ◌⊎◌, inl, inr, ◌==◌}
use Rattle.std.specs.Int.{Width, w8, w16, w32, w64, w128, byte_len, bytes_high_first, cast_signed, cast_unsigned}
use Rattle.std.specs.Int.Digits.{number_from_digits}
use mir.Val.{bits}
use Rattle.std.specs.Prelude.{FitsSigned, find}
use Rattle.std.proofs.lemmas.Int.{to_z-of_z, of_z-to_z}
use Rattle.std.proofs.Math.Facts.{Fits-of_z}
use Rattle.std.proofs.lemmas.Bool.{ltb-false, ltb-true, le-ltb, lt-ltb, eqb-true}
use Rattle.std.proofs.lemmas.List.{take_at, drop_at, take-append-drop, length-append, length-take, append-nil, take_all}
use Rattle.std.proofs.lemmas.List.{drop_all}
use Rattle.jdwp_values.specs.declared.fault.ValueFault.{ValueFault}
use Rattle.jdwp_values.specs.declared.fault.ValueFault.TheVariants.{Short, BadCount}
use Rattle.jdwp_values.specs.declared.limit.Limit.{Limit}
use Rattle.jdwp_values.specs.declared.limit.Limit.TheVariants.{Any}
use Rattle.jdwp_values.specs.declared.location.Location.{Location}
use Rattle.jdwp_values.specs.declared.sizes.IdSizes.{IdSizes}
use Rattle.jdwp_values.specs.declared.tag.Tag.{Tag}
use Rattle.jdwp_values.specs.declared.tag.Tag.TheVariants as tags
use Rattle.jdwp_values.specs.declared.tag.TypeTag.{TypeTag}
use Rattle.jdwp_values.specs.declared.tag.TypeTag.TheVariants as type_tags
use Rattle.jdwp_values.specs.declared.value.Value.{Value}
use Rattle.jdwp_values.specs.declared.value.Value.TheVariants as values
use Rattle.jdwp_values.specs.Bytes.{IsBytes}
use Rattle.jdwp_values.specs.Counts.{allows}
use Rattle.jdwp_values.specs.Parts.{Simple, unsigned, signed, object_id, thread_id, class_id, method_id, field_id}
use Rattle.jdwp_values.specs.Parts.{frame_id, type_tag_byte, nothing, OfSimple, tag_of_value, Part, simple, count, text}
use Rattle.jdwp_values.specs.Parts.{location, value, reference, untagged, tail, Of}
use Rattle.jdwp_values.specs.Spelling.{spell_simple, spell_untagged, spell_value, spell_location, spell_part}
use Rattle.jdwp_values.specs.Spelling.{FitsSimple, FitsValue, FitsLocation, FitsPart, InRangeSimple, InRangeValue}
use Rattle.jdwp_values.specs.Spelling.{InRangePart, Ends}
use Rattle.jdwp_values.specs.Tags.{byte_of_type_tag, type_tag_of, byte_of_tag, tag_of, tags_of_values, is_reference}
use Rattle.jdwp_values.specs.Reading.{◌>>=◌, bytes_at, unsigned_at, signed_at, tagged, type_tag_at, simple_at, count_at}
use Rattle.jdwp_values.specs.Reading.{text_at, location_at, as_value, of_tag_at, untagged_at, value_at, reference_tag}
use Rattle.jdwp_values.specs.Reading.{reference_at, tail_at, read_part}
use Rattle.jdwp_values.proofs.Numbers.{IsBytes-take, IsBytes-drop, number-below, spelled, number_again}
use Rattle.jdwp_values.proofs.Numbers.{length-bytes_high_first}

-- the value of a step that did not fail
pub bind_ok : {A B : Type 0} (r : Result A ValueFault) (f : A → Result B ValueFault) (y : B) → (r >>= f) ≡ Ok y
    → (x : A) × (r ≡ Ok x) × (f x ≡ Ok y)
bind_ok (Ok x) f y e = (x, refl, e)
bind_ok (Err d) f y e = absurd cc

-- a test that did not fail
pub guard_ok : {A : Type 0} (b : Bool) (d : ValueFault) (x y : A) → cond b (Err d) (Ok x) ≡ Ok y → (b ≡ false) × (x ≡ y)
guard_ok true d x y e = absurd cc
guard_ok false d x y e = (refl, cc)

-- what a reader took from the front
pub record Takes (bytes text rest : List ℕ) : Type 0 where
  pub parts : bytes ≡ text ++ rest
  pub rest_fits : IsBytes rest

pub Takes-then : (a x b y c : List ℕ) → Takes a x b → Takes b y c → Takes a (x ++ y) c
Takes-then a x b y c p q =
    record { parts = p.parts ∙ ap (λ (t : List ℕ). x ++ t) q.parts ∙ sym (append_assoc x y c); rest_fits = q.rest_fits }

pub bytes_take : (size : ℕ) (bytes : List ℕ) (x : List ℕ × List ℕ) → IsBytes bytes → bytes_at size bytes ≡ Ok x
    → Takes bytes x.0 x.1 × (length x.0 ≡ size) × IsBytes x.0
bytes_take size bytes x fits e =
    let g = guard_ok (ltb (length bytes) size) Short (take size bytes, drop size bytes) x e in
    let long : size ≤ length bytes = ltb-false _ _ g.0 in
    let here : Takes bytes (take size bytes) (drop size bytes) =
    record { parts = sym (take-append-drop size bytes); rest_fits = IsBytes-drop size bytes fits } in
    subst (λ (y : List ℕ × List ℕ). Takes bytes y.0 y.1 × (length y.0 ≡ size) × IsBytes y.0) g.1
    (here, omega (arith, length-take size bytes), IsBytes-take size bytes fits)

pub bytes_again : (front rest : List ℕ) (size : ℕ) → length front ≡ size
    → bytes_at size (front ++ rest) ≡ Ok (front, rest)
bytes_again front rest size len =
    let long : ltb (length (front ++ rest)) size ≡ false = le-ltb _ _ (omega (arith, length-append front rest)) in
    rw (long, take_at front rest size len, drop_at front rest size len) refl

pub unsigned_takes : (size : ℕ) (bytes : List ℕ) (x : ℕ × List ℕ) → IsBytes bytes → unsigned_at size bytes ≡ Ok x
    → Takes bytes (bytes_high_first size x.0) x.1 × (x.0 < 256 ^ size)
unfolding unsigned_at
unsigned_takes size bytes x fits e =
    let b = bind_ok (bytes_at size bytes) (λ front. Ok (number_from_digits 256 front.0, front.1)) x e in
    let front = b.0 in
    let t = bytes_take size bytes front fits b.1 in
    let made : ℕ × List ℕ = (number_from_digits 256 front.0, front.1) in
    let same : made ≡ x = cc in
    let again : bytes_high_first size (number_from_digits 256 front.0) ≡ front.0 = spelled size front.0 t.1 t.2 in
    let small : number_from_digits 256 front.0 < 256 ^ size =
    subst (λ (n : ℕ). number_from_digits 256 front.0 < 256 ^ n) t.1 (number-below front.0 t.2) in
    subst (λ (y : ℕ × List ℕ). Takes bytes (bytes_high_first size y.0) y.1 × (y.0 < 256 ^ size)) same
    (rw again t.0, small)

pub unsigned_again : (size n : ℕ) (rest : List ℕ) → n < 256 ^ size
    → unsigned_at size (bytes_high_first size n ++ rest) ≡ Ok (n, rest)
unfolding unsigned_at
unsigned_again size n rest lt =
    rw (bytes_again (bytes_high_first size n) rest size (length-bytes_high_first size n), number_again size n lt) refl

width_bits : (w : Width) → 256 ^ byte_len w ≡ 2 ^ bits w
width_bits w8 = refl
width_bits w16 = refl
width_bits w32 = refl
width_bits w64 = refl
width_bits w128 = refl

signed_takes : (w : Width) (bytes : List ℕ) (x : ℤ × List ℕ) → IsBytes bytes → signed_at w bytes ≡ Ok x
    → Takes bytes (bytes_high_first (byte_len w) (cast_unsigned w x.0)) x.1
unfolding signed_at
signed_takes w bytes x fits e =
    let b = bind_ok (unsigned_at (byte_len w) bytes) (λ n. Ok (cast_signed w n.0, n.1)) x e in
    let t = unsigned_takes (byte_len w) bytes b.0 fits b.1 in
    let made : ℤ × List ℕ = (cast_signed w b.0.0, b.0.1) in
    let same : made ≡ x = cc in
    let small : b.0.0 < 2 ^ bits w = rw (width_bits w) at t.1 in
    let back : cast_unsigned w (cast_signed w b.0.0) ≡ b.0.0 = of_z-to_z w b.0.0 small in
    subst (λ (y : ℤ × List ℕ). Takes bytes (bytes_high_first (byte_len w) (cast_unsigned w y.0)) y.1) same (rw back t.0)

-- ---- an id

id_takes : {A : Type 0} (make : ℕ → A) (number : A → ℕ) → ((n : ℕ) → number (make n) ≡ n)
    → (size : ℕ) (bytes : List ℕ) (x : A × List ℕ) → IsBytes bytes
    → (unsigned_at size bytes >>= λ n. Ok (make n.0, n.1)) ≡ Ok x
    → Takes bytes (bytes_high_first size (number x.0)) x.1 × (number x.0 < 256 ^ size)
id_takes {A} make number same size bytes x fits e =
    let b = bind_ok (unsigned_at size bytes) (λ n. Ok (make n.0, n.1)) x e in
    let t = unsigned_takes size bytes b.0 fits b.1 in
    let here : A × List ℕ = (make b.0.0, b.0.1) in
    let is : here ≡ x = cc in
    subst (λ (y : A × List ℕ). Takes bytes (bytes_high_first size (number y.0)) y.1 × (number y.0 < 256 ^ size)) is
    (rw same t)

-- ---- tags

tagged_ok : {A : Type 0} (o : Option A) (rest : List ℕ) (x : A × List ℕ) → tagged o rest ≡ Ok x
    → (o ≡ Some x.0) × (rest ≡ x.1)
tagged_ok {A} (Some y) rest x e =
    let here : A × List ℕ = (y, rest) in
    let is : here ≡ x = cc in
    (ap (λ (z : A × List ℕ). Some z.0) is, ap (λ (z : A × List ℕ). z.1) is)
tagged_ok None rest x e = absurd cc

pub some_is : {A : Type 0} (x y : A) → Some x ≡ Some y → x ≡ y
some_is x y e = cc

type_tag_back : (n : ℕ) (tag : TypeTag) → type_tag_of n ≡ Some tag → byte_of_type_tag tag ≡ n
type_tag_back zero tag e = subst (λ (t : TypeTag). byte_of_type_tag t ≡ 0) (some_is type_tags.Nothing tag e) refl
type_tag_back (suc zero) tag e = subst (λ (t : TypeTag). byte_of_type_tag t ≡ 1) (some_is type_tags.Class tag e) refl
type_tag_back (suc (suc zero)) tag e =
    subst (λ (t : TypeTag). byte_of_type_tag t ≡ 2) (some_is type_tags.Interface tag e) refl
type_tag_back (suc (suc (suc zero))) tag e =
    subst (λ (t : TypeTag). byte_of_type_tag t ≡ 3) (some_is type_tags.Array tag e) refl
type_tag_back (suc (suc (suc (suc n)))) tag e = absurd cc

pub chosen : {A : Type 0} (b : Bool) (x : A) (o : Option A) (y : A) → cond b (Some x) o ≡ Some y
    → ((b ≡ true) × (x ≡ y)) ⊎ (o ≡ Some y)
chosen true x o y e = inl (refl, cc)
chosen false x o y e = inr e

pub found_passes : {A : Type 0} (p : A → Bool) (xs : List A) (y : A) → find p xs ≡ Some y → p y ≡ true
found_passes p [] y e = absurd cc
found_passes {A} p (x ∷ xs) y e =
    elim (chosen (p x) x (find p xs) y e) [
      | inl here ↦ subst (λ (z : A). p z ≡ true) here.1 here.0
      | inr later ↦ found_passes p xs y later
    ]

tag_back : (n : ℕ) (tag : Tag) → tag_of n ≡ Some tag → byte_of_tag tag ≡ n
tag_back n tag e = eqb-true _ _ (found_passes (λ t. byte_of_tag t == n) tags_of_values tag e)

reference_back : (o : Option Tag) (tag : Tag) → reference_tag o ≡ Some tag → (o ≡ Some tag) × (is_reference tag ≡ true)
reference_back None tag e = absurd cc
reference_back (Some t) tag e =
    elim (chosen (is_reference t) t None tag e) [
      | inl here ↦ (ap Some here.1, subst (λ (u : Tag). is_reference u ≡ true) here.1 here.0)
      | inr never ↦ absurd cc
    ]

type_tag_takes : (bytes : List ℕ) (x : TypeTag × List ℕ) → IsBytes bytes → type_tag_at bytes ≡ Ok x
    → Takes bytes (bytes_high_first 1 (byte_of_type_tag x.0)) x.1
unfolding type_tag_at
type_tag_takes bytes x fits e =
    let b = bind_ok (unsigned_at 1 bytes) (λ byte. tagged (type_tag_of byte.0) byte.1) x e in
    let t = unsigned_takes 1 bytes b.0 fits b.1 in
    let o = tagged_ok (type_tag_of b.0.0) b.0.1 x b.2 in
    let back : byte_of_type_tag x.0 ≡ b.0.0 = type_tag_back b.0.0 x.0 o.0 in
    let first : Takes bytes (bytes_high_first 1 (byte_of_type_tag x.0)) b.0.1 =
    subst (λ (n : ℕ). Takes bytes (bytes_high_first 1 n) b.0.1) (sym back) t.0 in
    subst (λ (r : List ℕ). Takes bytes (bytes_high_first 1 (byte_of_type_tag x.0)) r) o.1 first

simple_takes : (sizes : IdSizes) (s : Simple) (bytes : List ℕ) (x : OfSimple s × List ℕ) → IsBytes bytes
    → simple_at sizes s bytes ≡ Ok x → Takes bytes (spell_simple sizes s x.0) x.1 × FitsSimple sizes s x.0
unfolding simple_at
simple_takes sizes (unsigned size) bytes x fits e = ((unsigned_takes size bytes x fits e).0, tt)
simple_takes sizes (signed w) bytes x fits e = (signed_takes w bytes x fits e, tt)
simple_takes sizes object_id bytes x fits e =
    id_takes (λ n. record { 0 = n }) (λ i. i.0) (λ n. refl) sizes.object bytes x fits e
simple_takes sizes thread_id bytes x fits e =
    id_takes (λ n. record { 0 = n }) (λ i. i.0) (λ n. refl) sizes.object bytes x fits e
simple_takes sizes class_id bytes x fits e =
    id_takes (λ n. record { 0 = n }) (λ i. i.0) (λ n. refl) sizes.class bytes x fits e
simple_takes sizes method_id bytes x fits e =
    id_takes (λ n. record { 0 = n }) (λ i. i.0) (λ n. refl) sizes.method bytes x fits e
simple_takes sizes field_id bytes x fits e =
    id_takes (λ n. record { 0 = n }) (λ i. i.0) (λ n. refl) sizes.field bytes x fits e
simple_takes sizes frame_id bytes x fits e =
    id_takes (λ n. record { 0 = n }) (λ i. i.0) (λ n. refl) sizes.frame bytes x fits e
simple_takes sizes type_tag_byte bytes x fits e = (type_tag_takes bytes x fits e, tt)
simple_takes sizes nothing bytes x fits e =
    let here : Unit {0} × List ℕ = (tt, bytes) in
    let is : here ≡ x = cc in
    (subst (λ (y : Unit {0} × List ℕ). Takes bytes [] y.1) is (record { parts = refl; rest_fits = fits }), tt)

-- ---- counts and texts

pub passed : {A : Type 0} (b : Bool) (d : ValueFault) (x y : A) → cond b (Ok x) (Err d) ≡ Ok y → (b ≡ true) × (x ≡ y)
passed true d x y e = (refl, cc)
passed false d x y e = absurd cc

pub both : (a b : Bool) → (a && b) ≡ true → (a ≡ true) × (b ≡ true)
both true b e = (refl, e)
both false b e = absurd cc

count_takes : (limit : Limit) (bytes : List ℕ) (x : ℕ × List ℕ) → IsBytes bytes → count_at limit bytes ≡ Ok x
    → Takes bytes (bytes_high_first 4 x.0) x.1 × ((x.0 < 2 ^ 31) × (allows limit x.0 ≡ true))
unfolding count_at
count_takes limit bytes x fits e =
    let b =
    bind_ok (unsigned_at 4 bytes) (λ n. cond (ltb n.0 (2 ^ 31) && allows limit n.0) (Ok n) (Err BadCount)) x e in
    let g = passed (ltb b.0.0 (2 ^ 31) && allows limit b.0.0) BadCount b.0 x b.2 in
    let tests = both (ltb b.0.0 (2 ^ 31)) (allows limit b.0.0) g.0 in
    let t = unsigned_takes 4 bytes b.0 fits b.1 in
    subst (λ (y : ℕ × List ℕ). Takes bytes (bytes_high_first 4 y.0) y.1 × ((y.0 < 2 ^ 31) × (allows limit y.0 ≡ true)))
    g.1 (t.0, (ltb-true _ _ tests.0, tests.1))

text_takes : (bytes : List ℕ) (x : List ℕ × List ℕ) → IsBytes bytes → text_at bytes ≡ Ok x
    → Takes bytes (bytes_high_first 4 (length x.0) ++ x.0) x.1 × (length x.0 < 2 ^ 31)
unfolding text_at
text_takes bytes x fits e =
    let b = bind_ok (count_at Any bytes) (λ len. bytes_at len.0 len.1) x e in
    let n = count_takes Any bytes b.0 fits b.1 in
    let t = bytes_take b.0.0 b.0.1 x n.0.rest_fits b.2 in
    let first : Takes bytes (bytes_high_first 4 (length x.0)) b.0.1 = rw t.1 n.0 in
    (Takes-then bytes (bytes_high_first 4 (length x.0)) b.0.1 x.0 x.1 first t.0, rw t.1 n.1.0)

-- ---- locations and values

location_takes : (sizes : IdSizes) (bytes : List ℕ) (x : Location × List ℕ) → IsBytes bytes
    → location_at sizes bytes ≡ Ok x → Takes bytes (spell_location sizes x.0) x.1 × FitsLocation sizes x.0
unfolding location_at
location_takes sizes bytes x fits e =
    let a = bind_ok (type_tag_at bytes)
    (λ tag. simple_at sizes class_id tag.1 >>= λ class. simple_at sizes method_id class.1 >>= λ method. unsigned_at
    8 method.1 >>= λ index. Ok
    (record { tag = tag.0; class = class.0; method = method.0; index = index.0 }, index.1)) x e in
    let b = bind_ok (simple_at sizes class_id a.0.1)
    (λ class. simple_at sizes method_id class.1 >>= λ method. unsigned_at 8 method.1 >>= λ index. Ok
    (record { tag = a.0.0; class = class.0; method = method.0; index = index.0 }, index.1)) x a.2 in
    let c = bind_ok (simple_at sizes method_id b.0.1)
    (λ method. unsigned_at 8 method.1 >>= λ index. Ok
    (record { tag = a.0.0; class = b.0.0; method = method.0; index = index.0 }, index.1)) x b.2 in
    let d = bind_ok (unsigned_at 8 c.0.1)
    (λ index. Ok (record { tag = a.0.0; class = b.0.0; method = c.0.0; index = index.0 }, index.1)) x c.2 in
    let t0 = type_tag_takes bytes a.0 fits a.1 in
    let t1 = simple_takes sizes class_id a.0.1 b.0 t0.rest_fits b.1 in
    let t2 = simple_takes sizes method_id b.0.1 c.0 t1.0.rest_fits c.1 in
    let t3 = unsigned_takes 8 c.0.1 d.0 t2.0.rest_fits d.1 in
    let e1 =
    Takes-then bytes (spell_simple sizes type_tag_byte a.0.0) a.0.1 (spell_simple sizes class_id b.0.0) b.0.1 t0
    t1.0 in
    let e2 = Takes-then bytes (spell_simple sizes type_tag_byte a.0.0 ++ spell_simple sizes class_id b.0.0) b.0.1
    (spell_simple sizes method_id c.0.0) c.0.1 e1 t2.0 in
    let e3 = Takes-then bytes
    (spell_simple sizes type_tag_byte a.0.0 ++ spell_simple sizes class_id b.0.0 ++ spell_simple sizes method_id
    c.0.0) c.0.1 (bytes_high_first 8 d.0.0) d.0.1 e2 t3.0 in
    let here : Location × List ℕ = (record { tag = a.0.0; class = b.0.0; method = c.0.0; index = d.0.0 }, d.0.1) in
    let is : here ≡ x = cc in
    subst (λ (y : Location × List ℕ). Takes bytes (spell_location sizes y.0) y.1 × FitsLocation sizes y.0) is
    (e3, record { class = t1.1; method = t2.1 })

as_value_ok : {A : Type 0} (make : A → Value) (read : Result (A × List ℕ) ValueFault) (x : Value × List ℕ)
    → as_value make read ≡ Ok x → (y : A × List ℕ) × (read ≡ Ok y) × ((make y.0 ≡ x.0) × (y.1 ≡ x.1))
as_value_ok make (Ok y) x e =
    let here : Value × List ℕ = (make y.0, y.1) in
    let is : here ≡ x = cc in
    (y, refl, (ap (λ (z : Value × List ℕ). z.0) is, ap (λ (z : Value × List ℕ). z.1) is))
as_value_ok make (Err d) x e = absurd cc

-- what a value behind a tag is
record TakesValue (sizes : IdSizes) (tag : Tag) (bytes : List ℕ) (v : Value) (rest : List ℕ) : Type 0 where
  takes : Takes bytes (spell_untagged sizes v) rest
  tag_is : tag_of_value v ≡ tag
  fits : FitsValue sizes v

simple_value : (sizes : IdSizes) (s : Simple) (make : OfSimple s → Value) (tag : Tag)
    → ((a : OfSimple s) → spell_untagged sizes (make a) ≡ spell_simple sizes s a)
    → ((a : OfSimple s) → tag_of_value (make a) ≡ tag)
    → ((a : OfSimple s) → FitsSimple sizes s a → FitsValue sizes (make a))
    → (bytes : List ℕ) (x : Value × List ℕ) → IsBytes bytes → as_value make (simple_at sizes s bytes) ≡ Ok x
    → TakesValue sizes tag bytes x.0 x.1
simple_value sizes s make tag spelling tag_is fit bytes x fits e =
    let y = as_value_ok make (simple_at sizes s bytes) x e in
    let t = simple_takes sizes s bytes y.0 fits y.1 in
    let made : TakesValue sizes tag bytes (make y.0.0) y.0.1 =
    record { takes = rw spelling t.0; tag_is = tag_is y.0.0; fits = fit y.0.0 t.1 } in
    subst (λ (r : List ℕ). TakesValue sizes tag bytes x.0 r) y.2.1
    (subst (λ (v : Value). TakesValue sizes tag bytes v y.0.1) y.2.0 made)

of_tag_takes : (sizes : IdSizes) (tag : Tag) (bytes : List ℕ) (x : Value × List ℕ) → IsBytes bytes
    → of_tag_at sizes tag bytes ≡ Ok x → TakesValue sizes tag bytes x.0 x.1
unfolding of_tag_at simple_at
of_tag_takes sizes tags.Byte bytes x fits e =
    simple_value sizes (signed w8) values.Byte tags.Byte (λ a. refl) (λ a. refl) (λ a h. tt) bytes x fits e
of_tag_takes sizes tags.Char bytes x fits e =
    simple_value sizes (unsigned 2) values.Char tags.Char (λ a. refl) (λ a. refl) (λ a h. tt) bytes x fits e
of_tag_takes sizes tags.Double bytes x fits e =
    simple_value sizes (unsigned 8) values.Double tags.Double (λ a. refl) (λ a. refl) (λ a h. tt) bytes x fits e
of_tag_takes sizes tags.Float bytes x fits e =
    simple_value sizes (unsigned 4) values.Float tags.Float (λ a. refl) (λ a. refl) (λ a h. tt) bytes x fits e
of_tag_takes sizes tags.Int bytes x fits e =
    simple_value sizes (signed w32) values.Int tags.Int (λ a. refl) (λ a. refl) (λ a h. tt) bytes x fits e
of_tag_takes sizes tags.Long bytes x fits e =
    simple_value sizes (signed w64) values.Long tags.Long (λ a. refl) (λ a. refl) (λ a h. tt) bytes x fits e
of_tag_takes sizes tags.Short bytes x fits e =
    simple_value sizes (signed w16) values.Short tags.Short (λ a. refl) (λ a. refl) (λ a h. tt) bytes x fits e
of_tag_takes sizes tags.Boolean bytes x fits e =
    simple_value sizes (unsigned 1) values.Boolean tags.Boolean (λ a. refl) (λ a. refl) (λ a h. tt) bytes x fits e
of_tag_takes sizes tags.Void bytes x fits e =
    let here : Value × List ℕ = (values.Void, bytes) in
    let is : here ≡ x = cc in
    subst (λ (y : Value × List ℕ). TakesValue sizes tags.Void bytes y.0 y.1) is
    (record { takes = record { parts = refl; rest_fits = fits }; tag_is = refl; fits = tt })
of_tag_takes sizes tags.Object bytes x fits e =
    simple_value sizes object_id values.Object tags.Object (λ a. refl) (λ a. refl) (λ a h. h) bytes x fits e
of_tag_takes sizes tags.Array bytes x fits e =
    simple_value sizes object_id values.Array tags.Array (λ a. refl) (λ a. refl) (λ a h. h) bytes x fits e
of_tag_takes sizes tags.String bytes x fits e =
    simple_value sizes object_id values.String tags.String (λ a. refl) (λ a. refl) (λ a h. h) bytes x fits e
of_tag_takes sizes tags.Thread bytes x fits e =
    simple_value sizes object_id values.Thread tags.Thread (λ a. refl) (λ a. refl) (λ a h. h) bytes x fits e
of_tag_takes sizes tags.ThreadGroup bytes x fits e =
    simple_value sizes object_id values.ThreadGroup tags.ThreadGroup (λ a. refl) (λ a. refl) (λ a h. h) bytes x fits e
of_tag_takes sizes tags.ClassLoader bytes x fits e =
    simple_value sizes object_id values.ClassLoader tags.ClassLoader (λ a. refl) (λ a. refl) (λ a h. h) bytes x fits e
of_tag_takes sizes tags.ClassObject bytes x fits e =
    simple_value sizes object_id values.ClassObject tags.ClassObject (λ a. refl) (λ a. refl) (λ a h. h) bytes x fits e

untagged_takes : (sizes : IdSizes) (byte : ℕ) (bytes : List ℕ) (x : Value × List ℕ) → IsBytes bytes
    → untagged_at sizes byte bytes ≡ Ok x
    → Takes bytes (spell_untagged sizes x.0) x.1 × ((byte_of_tag (tag_of_value x.0) ≡ byte) × FitsValue sizes x.0)
unfolding untagged_at
untagged_takes sizes byte bytes x fits e =
    let b = bind_ok (tagged (tag_of byte) bytes) (λ tag. of_tag_at sizes tag.0 tag.1) x e in
    let o = tagged_ok (tag_of byte) bytes b.0 b.1 in
    let rest_fits : IsBytes b.0.1 = subst (λ (r : List ℕ). IsBytes r) o.1 fits in
    let t = of_tag_takes sizes b.0.0 b.0.1 x rest_fits b.2 in (
      subst (λ (r : List ℕ). Takes r (spell_untagged sizes x.0) x.1) (sym o.1) t.takes,
      (rw t.tag_is (tag_back byte b.0.0 o.0), t.fits),
    )

value_takes : (sizes : IdSizes) (bytes : List ℕ) (x : Value × List ℕ) → IsBytes bytes → value_at sizes bytes ≡ Ok x
    → Takes bytes (spell_value sizes x.0) x.1 × FitsValue sizes x.0
unfolding value_at
value_takes sizes bytes x fits e =
    let b = bind_ok (unsigned_at 1 bytes) (λ byte. untagged_at sizes byte.0 byte.1) x e in
    let t = unsigned_takes 1 bytes b.0 fits b.1 in
    let v = untagged_takes sizes b.0.0 b.0.1 x t.0.rest_fits b.2 in
    let first : Takes bytes (bytes_high_first 1 (byte_of_tag (tag_of_value x.0))) b.0.1 = rw v.1.0 t.0 in (
      Takes-then bytes (bytes_high_first 1 (byte_of_tag (tag_of_value x.0))) b.0.1 (spell_untagged sizes x.0) x.1 first
          v.0,
      v.1.1,
    )

reference_takes : (sizes : IdSizes) (bytes : List ℕ) (x : Value × List ℕ) → IsBytes bytes
    → reference_at sizes bytes ≡ Ok x
    → Takes bytes (spell_value sizes x.0) x.1 × ((is_reference (tag_of_value x.0) ≡ true) × FitsValue sizes x.0)
unfolding reference_at
reference_takes sizes bytes x fits e =
    let b =
    bind_ok (unsigned_at 1 bytes)
    (λ byte. tagged (reference_tag (tag_of byte.0)) byte.1 >>= λ tag. of_tag_at sizes tag.0 tag.1) x e in
    let t = unsigned_takes 1 bytes b.0 fits b.1 in
    let c = bind_ok (tagged (reference_tag (tag_of b.0.0)) b.0.1) (λ tag. of_tag_at sizes tag.0 tag.1) x b.2 in
    let o = tagged_ok (reference_tag (tag_of b.0.0)) b.0.1 c.0 c.1 in
    let r = reference_back (tag_of b.0.0) c.0.0 o.0 in
    let rest_fits : IsBytes c.0.1 = subst (λ (bs : List ℕ). IsBytes bs) o.1 t.0.rest_fits in
    let v = of_tag_takes sizes c.0.0 c.0.1 x rest_fits c.2 in
    let back : byte_of_tag (tag_of_value x.0) ≡ b.0.0 = rw v.tag_is (tag_back b.0.0 c.0.0 r.0) in
    let first : Takes bytes (bytes_high_first 1 (byte_of_tag (tag_of_value x.0))) c.0.1 = rw (back, ← o.1) t.0 in (
      Takes-then bytes (bytes_high_first 1 (byte_of_tag (tag_of_value x.0))) c.0.1 (spell_untagged sizes x.0) x.1 first
          v.takes,
      (rw v.tag_is r.1, v.fits),
    )

tail_takes : (bytes : List ℕ) (x : List ℕ × List ℕ) → IsBytes bytes → tail_at bytes ≡ Ok x
    → Takes bytes x.0 x.1 × ((1 ≤ length x.0) × (length x.0 ≤ 8))
unfolding tail_at
tail_takes [] x fits e = absurd cc
tail_takes (b ∷ bytes) x fits e =
    let all : List ℕ = b ∷ bytes in
    let here : List ℕ × List ℕ = (take 8 all, drop 8 all) in
    let is : here ≡ x = cc in
    let len : length (take 8 all) ≡ min 8 (length all) = length-take 8 all in
    let some : 1 ≤ length all = omega arith in
    let takes : Takes all (take 8 all) (drop 8 all) =
    record { parts = sym (take-append-drop 8 all); rest_fits = IsBytes-drop 8 all fits } in
    subst (λ (y : List ℕ × List ℕ). Takes all y.0 y.1 × ((1 ≤ length y.0) × (length y.0 ≤ 8))) is
    (takes, (omega arith, omega arith))

-- A part that is read was spelled at the front, and it fits.
pub part_takes : (sizes : IdSizes) (p : Part) (bytes : List ℕ) (x : Of p × List ℕ) → IsBytes bytes
    → read_part sizes p bytes ≡ Ok x → Takes bytes (spell_part sizes p x.0) x.1 × FitsPart sizes p x.0
part_takes sizes (simple s) bytes x fits e = simple_takes sizes s bytes x fits e
part_takes sizes (count limit) bytes x fits e = count_takes limit bytes x fits e
part_takes sizes text bytes x fits e = text_takes bytes x fits e
part_takes sizes location bytes x fits e = location_takes sizes bytes x fits e
part_takes sizes value bytes x fits e = value_takes sizes bytes x fits e
part_takes sizes reference bytes x fits e = reference_takes sizes bytes x fits e
part_takes sizes (untagged byte) bytes x fits e = untagged_takes sizes byte bytes x fits e
part_takes sizes tail bytes x fits e = tail_takes bytes x fits e

-- ---- what is spelled is read again

-- a step that did not fail
pub bind_is : {A B : Type 0} (r : Result A ValueFault) (f : A → Result B ValueFault) (x : A) → r ≡ Ok x
    → (r >>= f) ≡ f x
bind_is r f x e = ap (λ q. q >>= f) e

signed_again : (w : Width) (z : ℤ) (rest : List ℕ) → FitsSigned w z
    → signed_at w (bytes_high_first (byte_len w) (cast_unsigned w z) ++ rest) ≡ Ok (z, rest)
unfolding signed_at
signed_again w z rest fits =
    let small : cast_unsigned w z < 256 ^ byte_len w = omega (arith, Fits-of_z fits, width_bits w) in
    let u = unsigned_again (byte_len w) (cast_unsigned w z) rest small in
    bind_is (unsigned_at (byte_len w) (bytes_high_first (byte_len w) (cast_unsigned w z) ++ rest))
    (λ n. Ok (cast_signed w n.0, n.1)) (cast_unsigned w z, rest) u
    ∙ ap (λ (x : ℤ). Ok (x, rest)) (to_z-of_z w z fits)

abbrev made_by : {A : Type 0} → (ℕ → A) → ℕ × List ℕ → Result (A × List ℕ) ValueFault
made_by make n = Ok (make n.0, n.1)

id_again : {A : Type 0} (make : ℕ → A) (number : A → ℕ) → ((i : A) → make (number i) ≡ i)
    → (size : ℕ) (i : A) (rest : List ℕ) → number i < 256 ^ size
    → (unsigned_at size (bytes_high_first size (number i) ++ rest) >>= made_by make) ≡ Ok (i, rest)
id_again {A} make number same size i rest small =
    bind_is (unsigned_at size (bytes_high_first size (number i) ++ rest)) (made_by make) (number i, rest)
    (unsigned_again size (number i) rest small)
    ∙ ap (λ (j : A). Ok (j, rest)) (same i)

type_tag_of-byte : (tag : TypeTag) → type_tag_of (byte_of_type_tag tag) ≡ Some tag
type_tag_of-byte type_tags.Nothing = refl
type_tag_of-byte type_tags.Class = refl
type_tag_of-byte type_tags.Interface = refl
type_tag_of-byte type_tags.Array = refl

type_tag_small : (tag : TypeTag) → byte_of_type_tag tag < 256 ^ 1
type_tag_small type_tags.Nothing = omega arith
type_tag_small type_tags.Class = omega arith
type_tag_small type_tags.Interface = omega arith
type_tag_small type_tags.Array = omega arith

tag_of-byte : (tag : Tag) → tag_of (byte_of_tag tag) ≡ Some tag
tag_of-byte tags.Byte = refl
tag_of-byte tags.Char = refl
tag_of-byte tags.Double = refl
tag_of-byte tags.Float = refl
tag_of-byte tags.Int = refl
tag_of-byte tags.Long = refl
tag_of-byte tags.Short = refl
tag_of-byte tags.Boolean = refl
tag_of-byte tags.Void = refl
tag_of-byte tags.Object = refl
tag_of-byte tags.Array = refl
tag_of-byte tags.String = refl
tag_of-byte tags.Thread = refl
tag_of-byte tags.ThreadGroup = refl
tag_of-byte tags.ClassLoader = refl
tag_of-byte tags.ClassObject = refl

pub tag_small : (tag : Tag) → byte_of_tag tag < 256 ^ 1
tag_small tags.Byte = omega arith
tag_small tags.Char = omega arith
tag_small tags.Double = omega arith
tag_small tags.Float = omega arith
tag_small tags.Int = omega arith
tag_small tags.Long = omega arith
tag_small tags.Short = omega arith
tag_small tags.Boolean = omega arith
tag_small tags.Void = omega arith
tag_small tags.Object = omega arith
tag_small tags.Array = omega arith
tag_small tags.String = omega arith
tag_small tags.Thread = omega arith
tag_small tags.ThreadGroup = omega arith
tag_small tags.ClassLoader = omega arith
tag_small tags.ClassObject = omega arith

type_tag_again : (tag : TypeTag) (rest : List ℕ)
    → type_tag_at (bytes_high_first 1 (byte_of_type_tag tag) ++ rest) ≡ Ok (tag, rest)
unfolding type_tag_at
type_tag_again tag rest =
    bind_is (unsigned_at 1 (bytes_high_first 1 (byte_of_type_tag tag) ++ rest))
    (λ byte. tagged (type_tag_of byte.0) byte.1) (byte_of_type_tag tag, rest)
    (unsigned_again 1 (byte_of_type_tag tag) rest (type_tag_small tag))
    ∙ ap (λ (o : Option TypeTag). tagged o rest) (type_tag_of-byte tag)

simple_again : (sizes : IdSizes) (s : Simple) (x : OfSimple s) (rest : List ℕ) → FitsSimple sizes s x
    → InRangeSimple s x → simple_at sizes s (spell_simple sizes s x ++ rest) ≡ Ok (x, rest)
unfolding simple_at
simple_again sizes (unsigned size) x rest fits range = unsigned_again size x rest range
simple_again sizes (signed w) x rest fits range = signed_again w x rest range
simple_again sizes object_id x rest fits range =
    id_again (λ n. record { 0 = n }) (λ i. i.0) (λ i. refl) sizes.object x rest fits
simple_again sizes thread_id x rest fits range =
    id_again (λ n. record { 0 = n }) (λ i. i.0) (λ i. refl) sizes.object x rest fits
simple_again sizes class_id x rest fits range =
    id_again (λ n. record { 0 = n }) (λ i. i.0) (λ i. refl) sizes.class x rest fits
simple_again sizes method_id x rest fits range =
    id_again (λ n. record { 0 = n }) (λ i. i.0) (λ i. refl) sizes.method x rest fits
simple_again sizes field_id x rest fits range =
    id_again (λ n. record { 0 = n }) (λ i. i.0) (λ i. refl) sizes.field x rest fits
simple_again sizes frame_id x rest fits range =
    id_again (λ n. record { 0 = n }) (λ i. i.0) (λ i. refl) sizes.frame x rest fits
simple_again sizes type_tag_byte x rest fits range = type_tag_again x rest
simple_again sizes nothing x rest fits range = refl

count_again : (limit : Limit) (n : ℕ) (rest : List ℕ) → n < 2 ^ 31 → allows limit n ≡ true
    → count_at limit (bytes_high_first 4 n ++ rest) ≡ Ok (n, rest)
unfolding count_at
count_again limit n rest small allowed =
    let fits : n < 256 ^ 4 = omega arith in
    let test : ltb n (2 ^ 31) ≡ true = lt-ltb _ _ small in
    bind_is (unsigned_at 4 (bytes_high_first 4 n ++ rest))
    (λ x. cond (ltb x.0 (2 ^ 31) && allows limit x.0) (Ok x) (Err BadCount)) (n, rest)
    (unsigned_again 4 n rest fits)
    ∙ rw (test, allowed) refl

text_again : (x rest : List ℕ) → length x < 2 ^ 31
    → text_at ((bytes_high_first 4 (length x) ++ x) ++ rest) ≡ Ok (x, rest)
unfolding text_at
text_again x rest small =
    ap text_at (append_assoc (bytes_high_first 4 (length x)) x rest)
    ∙ bind_is (count_at Any (bytes_high_first 4 (length x) ++ (x ++ rest))) (λ len. bytes_at len.0 len.1)
    (length x, x ++ rest) (count_again Any (length x) (x ++ rest) small refl)
    ∙ bytes_again x rest (length x) refl

location_again : (sizes : IdSizes) (x : Location) (rest : List ℕ) → FitsLocation sizes x → x.index < 256 ^ 8
    → location_at sizes (spell_location sizes x ++ rest) ≡ Ok (x, rest)
unfolding location_at
location_again sizes x rest fits range =
    let tag = spell_simple sizes type_tag_byte x.tag in
    let class = spell_simple sizes class_id x.class in
    let method = spell_simple sizes method_id x.method in
    let index = bytes_high_first 8 x.index in
    let regrouped : spell_location sizes x ++ rest ≡ tag ++ (class ++ (method ++ (index ++ rest))) =
    append_assoc (tag ++ class ++ method) index rest ∙ append_assoc (tag ++ class) method (index ++ rest) ∙ append_assoc
    tag class (method ++ (index ++ rest)) in
    ap (location_at sizes) regrouped
    ∙ bind_is (type_tag_at (tag ++ (class ++ (method ++ (index ++ rest)))))
    (λ t. simple_at sizes class_id t.1 >>= λ c. simple_at sizes method_id c.1 >>= λ m. unsigned_at 8 m.1 >>= λ i. Ok
    (record { tag = t.0; class = c.0; method = m.0; index = i.0 }, i.1))
    (x.tag, class ++ (method ++ (index ++ rest)))
    (type_tag_again x.tag (class ++ (method ++ (index ++ rest))))
    ∙ bind_is (simple_at sizes class_id (class ++ (method ++ (index ++ rest))))
    (λ c. simple_at sizes method_id c.1 >>= λ m. unsigned_at 8 m.1 >>= λ i. Ok
    (record { tag = x.tag; class = c.0; method = m.0; index = i.0 }, i.1)) (x.class, method ++ (index ++ rest))
    (simple_again sizes class_id x.class (method ++ (index ++ rest)) fits.class tt)
    ∙ bind_is (simple_at sizes method_id (method ++ (index ++ rest)))
    (λ m. unsigned_at 8 m.1 >>= λ i. Ok (record { tag = x.tag; class = x.class; method = m.0; index = i.0 }, i.1))
    (x.method, index ++ rest) (simple_again sizes method_id x.method (index ++ rest) fits.method tt)
    ∙ bind_is (unsigned_at 8 (index ++ rest))
    (λ i. Ok (record { tag = x.tag; class = x.class; method = x.method; index = i.0 }, i.1)) (x.index, rest)
    (unsigned_again 8 x.index rest range)

of_tag_again : (sizes : IdSizes) (v : Value) (rest : List ℕ) → FitsValue sizes v → InRangeValue v
    → of_tag_at sizes (tag_of_value v) (spell_untagged sizes v ++ rest) ≡ Ok (v, rest)
unfolding of_tag_at
of_tag_again sizes (values.Byte x) rest fits range = ap (as_value values.Byte) (signed_again w8 x rest range)
of_tag_again sizes (values.Char x) rest fits range = ap (as_value values.Char) (unsigned_again 2 x rest range)
of_tag_again sizes (values.Double x) rest fits range = ap (as_value values.Double) (unsigned_again 8 x rest range)
of_tag_again sizes (values.Float x) rest fits range = ap (as_value values.Float) (unsigned_again 4 x rest range)
of_tag_again sizes (values.Int x) rest fits range = ap (as_value values.Int) (signed_again w32 x rest range)
of_tag_again sizes (values.Long x) rest fits range = ap (as_value values.Long) (signed_again w64 x rest range)
of_tag_again sizes (values.Short x) rest fits range = ap (as_value values.Short) (signed_again w16 x rest range)
of_tag_again sizes (values.Boolean x) rest fits range = ap (as_value values.Boolean) (unsigned_again 1 x rest range)
of_tag_again sizes values.Void rest fits range = refl
of_tag_again sizes (values.Object x) rest fits range =
    ap (as_value values.Object) (simple_again sizes object_id x rest fits tt)
of_tag_again sizes (values.Array x) rest fits range =
    ap (as_value values.Array) (simple_again sizes object_id x rest fits tt)
of_tag_again sizes (values.String x) rest fits range =
    ap (as_value values.String) (simple_again sizes object_id x rest fits tt)
of_tag_again sizes (values.Thread x) rest fits range =
    ap (as_value values.Thread) (simple_again sizes object_id x rest fits tt)
of_tag_again sizes (values.ThreadGroup x) rest fits range =
    ap (as_value values.ThreadGroup) (simple_again sizes object_id x rest fits tt)
of_tag_again sizes (values.ClassLoader x) rest fits range =
    ap (as_value values.ClassLoader) (simple_again sizes object_id x rest fits tt)
of_tag_again sizes (values.ClassObject x) rest fits range =
    ap (as_value values.ClassObject) (simple_again sizes object_id x rest fits tt)

untagged_again : (sizes : IdSizes) (v : Value) (rest : List ℕ) → FitsValue sizes v → InRangeValue v
    → untagged_at sizes (byte_of_tag (tag_of_value v)) (spell_untagged sizes v ++ rest) ≡ Ok (v, rest)
unfolding untagged_at
untagged_again sizes v rest fits range =
    let bytes = spell_untagged sizes v ++ rest in
    let tag = tag_of_value v in
    bind_is (tagged (tag_of (byte_of_tag tag)) bytes) (λ t. of_tag_at sizes t.0 t.1) (tag, bytes)
    (ap (λ (o : Option Tag). tagged o bytes) (tag_of-byte tag))
    ∙ of_tag_again sizes v rest fits range

value_again : (sizes : IdSizes) (v : Value) (rest : List ℕ) → FitsValue sizes v → InRangeValue v
    → value_at sizes (spell_value sizes v ++ rest) ≡ Ok (v, rest)
unfolding value_at
value_again sizes v rest fits range =
    let byte = byte_of_tag (tag_of_value v) in
    let bytes = spell_untagged sizes v ++ rest in
    ap (value_at sizes) (append_assoc (bytes_high_first 1 byte) (spell_untagged sizes v) rest)
    ∙ bind_is (unsigned_at 1 (bytes_high_first 1 byte ++ bytes)) (λ b. untagged_at sizes b.0 b.1) (byte, bytes)
    (unsigned_again 1 byte bytes (tag_small (tag_of_value v)))
    ∙ untagged_again sizes v rest fits range

reference_again : (sizes : IdSizes) (v : Value) (rest : List ℕ) → is_reference (tag_of_value v) ≡ true
    → FitsValue sizes v → InRangeValue v → reference_at sizes (spell_value sizes v ++ rest) ≡ Ok (v, rest)
unfolding reference_at
reference_again sizes v rest refers fits range =
    let tag = tag_of_value v in
    let byte = byte_of_tag tag in
    let bytes = spell_untagged sizes v ++ rest in
    let found : reference_tag (tag_of byte) ≡ Some tag =
    ap reference_tag (tag_of-byte tag) ∙ ap (λ (b : Bool). cond b (Some tag) None) refers in
    ap (reference_at sizes) (append_assoc (bytes_high_first 1 byte) (spell_untagged sizes v) rest)
    ∙ bind_is (unsigned_at 1 (bytes_high_first 1 byte ++ bytes))
    (λ b. tagged (reference_tag (tag_of b.0)) b.1 >>= λ t. of_tag_at sizes t.0 t.1) (byte, bytes)
    (unsigned_again 1 byte bytes (tag_small tag))
    ∙ bind_is (tagged (reference_tag (tag_of byte)) bytes) (λ t. of_tag_at sizes t.0 t.1) (tag, bytes)
    (ap (λ (o : Option Tag). tagged o bytes) found)
    ∙ of_tag_again sizes v rest fits range

tail_again : (x : List ℕ) → 1 ≤ length x → length x ≤ 8 → tail_at x ≡ Ok (x, [])
unfolding tail_at
tail_again [] some few = absurd (omega arith)
tail_again (b ∷ bytes) some few = rw (take_all 8 (b ∷ bytes) few, drop_all 8 (b ∷ bytes) few) refl

-- A part that is spelled, fits and is in range is read again.
pub part_again : (sizes : IdSizes) (p : Part) (x : Of p) (rest : List ℕ) → FitsPart sizes p x → InRangePart p x
    → Ends p rest → read_part sizes p (spell_part sizes p x ++ rest) ≡ Ok (x, rest)
part_again sizes (simple s) x rest fits range ends = simple_again sizes s x rest fits range
part_again sizes (count limit) x rest fits range ends = count_again limit x rest fits.0 fits.1
part_again sizes text x rest fits range ends = text_again x rest fits
part_again sizes location x rest fits range ends = location_again sizes x rest fits range
part_again sizes value x rest fits range ends = value_again sizes x rest fits range
part_again sizes reference x rest fits range ends = reference_again sizes x rest fits.0 fits.1 range
part_again sizes (untagged byte) x rest fits range ends =
    subst (λ (b : ℕ). untagged_at sizes b (spell_untagged sizes x ++ rest) ≡ Ok (x, rest)) fits.0
    (untagged_again sizes x rest fits.1 range)
part_again sizes tail x rest fits range ends =
    subst (λ (r : List ℕ). tail_at (x ++ r) ≡ Ok (x, r)) (sym ends)
    (ap tail_at (append-nil x) ∙ tail_again x fits.0 fits.1)
