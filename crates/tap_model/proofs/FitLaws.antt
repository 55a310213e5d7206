-- Which questions are fit: just those that have a spelling, and fit a packet.
use Rattle.std.proofs.Common.{◌≡◌, ℕ, suc, ◌+◌, ◌*◌, ◌^◌, ◌≤◌, ◌&&◌, Bool, true, false, List, [], ◌∷◌, ◌++◌, length}
use Rattle.std.proofs.Common.{refl, sym, ap, ◌∙◌, arith, length-append, mul-suc, mul-zero, mul-le-mul_right}
use Rattle.std.specs.Prelude.{nat_le}
use Rattle.std.specs.Int.{w32, bytes_high_first, cast_unsigned}
use Rattle.std.specs.List.{AllByRecursion, flat_map, list_all}
use Rattle.std.proofs.lemmas.Bool.{and_parts, le-leb, leb-true, lt-ltb, ltb-true}
use Rattle.jdwp_commands.specs.Commands.{spell_command}
use Rattle.jdwp_commands.specs.Items.{FitsListed, field_ids, slots, spell_listed}
use Rattle.jdwp_commands.specs.declared.listed.Slot.{Slot}
use Rattle.jdwp_commands.specs.declared.question.Question.TheVariants as questions
use Rattle.jdwp_values.proofs.Numbers.{length-bytes_high_first}
use Rattle.jdwp_values.specs.declared.id.FieldId.{FieldId}
use Rattle.tap_model.specs.Names.{IdSizes, Question}
use Rattle.tap_model.specs.Questions.{IsFit, id_fits, is_fit, most_body}

-- Tests ---------------------------------------------------------------------------------------------------------------

both_are : (x y : Bool) → x ≡ true → y ≡ true → x && y ≡ true
both_are true y a b = b
both_are false y a b = absurd cc

-- Lengths -------------------------------------------------------------------------------------------------------------

-- a number of so many bytes, and what is behind it
number_long : (size n : ℕ) (rest : List ℕ) → length (bytes_high_first size n ++ rest) ≡ size + length rest
number_long size n rest =
    length-append (bytes_high_first size n) rest ∙ ap (λ k. k + length rest) (length-bytes_high_first size n)

-- so many things of the same length
each_long : {A : Type 0} (spell : A → List ℕ) (size : ℕ) → ((x : A) → length (spell x) ≡ size) → (xs : List A)
    → length (flat_map spell xs) ≡ size * length xs
each_long spell size long [] = sym (mul-zero size)
each_long spell size long (x ∷ xs) =
    length-append (spell x) (flat_map spell xs)
    ∙ (ap (λ k. k + length (flat_map spell xs)) (long x) ∙ (ap (λ k. size + k) (each_long spell size long xs) ∙ by))
  where
    by : size + size * length xs ≡ size * suc (length xs)
    by = let more = mul-suc size (length xs) in omega (arith, more)

field_long : (sizes : IdSizes) (field : FieldId) → length (spell_listed field_ids sizes field) ≡ sizes.field
field_long sizes field = length-bytes_high_first sizes.field field.0

slot_long : (sizes : IdSizes) (slot : Slot) → length (spell_listed slots sizes slot) ≡ 5
slot_long sizes slot =
    number_long 4 (cast_unsigned w32 slot.slot) (bytes_high_first 1 slot.tag ++ [])
    ∙ ap (λ k. 4 + k) (number_long 1 slot.tag [])

-- a list behind what is before it
list_long : {A : Type 0} (spell : A → List ℕ) (size : ℕ) → ((x : A) → length (spell x) ≡ size) → (xs : List A)
    → length ((bytes_high_first 4 (length xs) ++ flat_map spell xs) ++ []) ≡ 4 + size * length xs
list_long spell size long xs =
    length-append (bytes_high_first 4 (length xs) ++ flat_map spell xs) []
    ∙ (let front = number_long 4 (length xs) (flat_map spell xs) in
    let back = each_long spell size long xs in omega (arith, front, back))

-- a list of things that have a byte or more is no longer than they are
few_of : (size n : ℕ) → 1 ≤ size → n ≤ size * n
few_of size n least = let more = mul-le-mul_right n least in omega (arith, more)

-- Fields --------------------------------------------------------------------------------------------------------------

fields_fit : (sizes : IdSizes) (fields : List FieldId) → list_all (λ field. id_fits sizes.field field.0) fields ≡ true
    → AllByRecursion (FitsListed field_ids sizes) fields
fields_fit sizes [] all = tt
fields_fit sizes (field ∷ fields) all =
    let parts = and_parts (id_fits sizes.field field.0) (list_all (λ f. id_fits sizes.field f.0) fields) all in
    (ltb-true field.0 (256 ^ sizes.field) parts.0, fields_fit sizes fields parts.1)

fields_are : (sizes : IdSizes) (fields : List FieldId) → AllByRecursion (FitsListed field_ids sizes) fields
    → list_all (λ field. id_fits sizes.field field.0) fields ≡ true
fields_are sizes [] all = refl
fields_are sizes (field ∷ fields) all =
    both_are (id_fits sizes.field field.0) (list_all (λ f. id_fits sizes.field f.0) fields)
    (lt-ltb field.0 (256 ^ sizes.field) all.0) (fields_are sizes fields all.1)

slots_fit : (sizes : IdSizes) (xs : List Slot) → AllByRecursion (FitsListed slots sizes) xs
slots_fit sizes [] = tt
slots_fit sizes (slot ∷ xs) = ((tt, (tt, tt)), slots_fit sizes xs)

-- Questions -----------------------------------------------------------------------------------------------------------

module _ (sizes : IdSizes) where
  class_small : sizes.class ≤ 8
  class_small = sizes.class_is_size.1

  object_small : sizes.object ≤ 8
  object_small = sizes.object_is_size.1

  method_small : sizes.method ≤ 8
  method_small = sizes.method_is_size.1

  frame_small : sizes.frame ≤ 8
  frame_small = sizes.frame_is_size.1

  -- a body of one id, and of two
  one_id : (size id : ℕ) → size ≤ 8 → length (bytes_high_first size id ++ []) ≤ most_body
  one_id size id small = let long = number_long size id [] in omega (arith, small, long)

  two_ids : (a x b y : ℕ) → a ≤ 8 → b ≤ 8 → length (bytes_high_first a x ++ (bytes_high_first b y ++ [])) ≤ most_body
  two_ids a x b y small less =
      let long = number_long a x (bytes_high_first b y ++ []) in
      let rest = number_long b y [] in
      omega (arith, small, less, long, rest)

  three : (a x y z : ℕ) → a ≤ 8
      → length (bytes_high_first a x ++ (bytes_high_first 4 y ++ (bytes_high_first 4 z ++ []))) ≤ most_body
  three a x y z small =
      let long = number_long a x (bytes_high_first 4 y ++ (bytes_high_first 4 z ++ [])) in
      let rest = number_long 4 y (bytes_high_first 4 z ++ []) in
      let last = number_long 4 z [] in
      omega (arith, small, long, rest, last)

  fields_long : (object : ℕ) (fields : List FieldId)
      → length (bytes_high_first sizes.object object
      ++ ((bytes_high_first 4 (length fields) ++ flat_map (spell_listed field_ids sizes) fields) ++ []))
      ≡ sizes.object + (4 + sizes.field * length fields)
  fields_long object fields =
      number_long sizes.object object
      ((bytes_high_first 4 (length fields) ++ flat_map (spell_listed field_ids sizes) fields) ++ [])
      ∙ ap (λ k. sizes.object + k)
      (list_long (spell_listed field_ids sizes) sizes.field (field_long sizes) fields)

  slots_long : (thread frame : ℕ) (xs : List Slot)
      → length (bytes_high_first sizes.object thread ++ (bytes_high_first sizes.frame frame
      ++ ((bytes_high_first 4 (length xs) ++ flat_map (spell_listed slots sizes) xs) ++ [])))
      ≡ sizes.object + (sizes.frame + (4 + 5 * length xs))
  slots_long thread frame xs =
      number_long sizes.object thread (bytes_high_first sizes.frame frame
      ++ ((bytes_high_first 4 (length xs) ++ flat_map (spell_listed slots sizes) xs) ++ []))
      ∙ ap (λ k. sizes.object + k) (number_long sizes.frame frame
      ((bytes_high_first 4 (length xs) ++ flat_map (spell_listed slots sizes) xs) ++ [])
      ∙ ap (λ k. sizes.frame + k) (list_long (spell_listed slots sizes) 5 (slot_long sizes) xs))

  text_long : (text : List ℕ) → length ((bytes_high_first 4 (length text) ++ text) ++ []) ≡ 4 + length text
  text_long text =
      length-append (bytes_high_first 4 (length text) ++ text) []
      ∙ (let front = number_long 4 (length text) text in omega (arith, front))

  pub fits : (question : Question) → is_fit sizes question ≡ true → IsFit sizes question
  unfolding spell_command
  fits (questions.ClassesBySignature text) is =
      let short : 4 + length text ≤ most_body = leb-true (4 + length text) most_body is in
      let long = text_long text in
      record { spelled = (omega (arith, short), tt); short = omega (arith, short, long) }
  fits questions.AllClasses is = record { spelled = tt; short = omega arith }
  fits questions.AllThreads is = record { spelled = tt; short = omega arith }
  fits questions.IdSizes is = record { spelled = tt; short = omega arith }
  fits (questions.Signature class) is =
      record { spelled = (ltb-true _ _ is, tt); short = one_id sizes.class class.0 class_small }
  fits (questions.Fields class) is =
      record { spelled = (ltb-true _ _ is, tt); short = one_id sizes.class class.0 class_small }
  fits (questions.Methods class) is =
      record { spelled = (ltb-true _ _ is, tt); short = one_id sizes.class class.0 class_small }
  fits (questions.SourceFile class) is =
      record { spelled = (ltb-true _ _ is, tt); short = one_id sizes.class class.0 class_small }
  fits (questions.Superclass class) is =
      record { spelled = (ltb-true _ _ is, tt); short = one_id sizes.class class.0 class_small }
  fits (questions.LineTable class method) is =
      let parts = and_parts (id_fits sizes.class class.0) (id_fits sizes.method method.0) is in
      record {
        spelled = (ltb-true _ _ parts.0, (ltb-true _ _ parts.1, tt));
        short = two_ids sizes.class class.0 sizes.method method.0 class_small method_small;
      }
  fits (questions.VariableTable class method) is =
      let parts = and_parts (id_fits sizes.class class.0) (id_fits sizes.method method.0) is in
      record {
        spelled = (ltb-true _ _ parts.0, (ltb-true _ _ parts.1, tt));
        short = two_ids sizes.class class.0 sizes.method method.0 class_small method_small;
      }
  fits (questions.ObjectType object) is =
      record { spelled = (ltb-true _ _ is, tt); short = one_id sizes.object object.0 object_small }
  fits (questions.GetFields object fields) is =
      let parts = and_parts (id_fits sizes.object object.0
      && list_all (λ field. id_fits sizes.field field.0) fields)
      (nat_le (sizes.object + (4 + sizes.field * length fields)) most_body) is in
      let ids = and_parts (id_fits sizes.object object.0)
      (list_all (λ field. id_fits sizes.field field.0) fields) parts.0 in
      let short : sizes.object + (4 + sizes.field * length fields) ≤ most_body = leb-true _ _ parts.1 in
      let long = fields_long object.0 fields in
      let few = few_of sizes.field (length fields) sizes.field_is_size.0 in
      record {
        spelled = (
          ltb-true _ _ ids.0,
          ((record { count = omega (arith, short, few); each = fields_fit sizes fields ids.1 }, refl), tt),
        );
        short = omega (arith, short, long);
      }
  fits (questions.StringValue object) is =
      record { spelled = (ltb-true _ _ is, tt); short = one_id sizes.object object.0 object_small }
  fits (questions.ThreadName thread) is =
      record { spelled = (ltb-true _ _ is, tt); short = one_id sizes.object thread.0 object_small }
  fits (questions.Frames thread first n) is =
      record { spelled = (ltb-true _ _ is, (tt, (tt, tt))); short = three sizes.object thread.0 _ _ object_small }
  fits (questions.FrameCount thread) is =
      record { spelled = (ltb-true _ _ is, tt); short = one_id sizes.object thread.0 object_small }
  fits (questions.ArrayLength array) is =
      record { spelled = (ltb-true _ _ is, tt); short = one_id sizes.object array.0 object_small }
  fits (questions.GetElements array first n) is =
      record { spelled = (ltb-true _ _ is, (tt, (tt, tt))); short = three sizes.object array.0 _ _ object_small }
  fits (questions.GetSlots thread frame xs) is =
      let parts = and_parts (id_fits sizes.object thread.0 && id_fits sizes.frame frame.0)
      (nat_le (sizes.object + (sizes.frame + (4 + 5 * length xs))) most_body) is in
      let ids = and_parts (id_fits sizes.object thread.0) (id_fits sizes.frame frame.0) parts.0 in
      let short : sizes.object + (sizes.frame + (4 + 5 * length xs)) ≤ most_body = leb-true _ _ parts.1 in
      let long = slots_long thread.0 frame.0 xs in
      record {
        spelled = (
          ltb-true _ _ ids.0,
          (
            ltb-true _ _ ids.1,
            ((record { count = omega (arith, short); each = slots_fit sizes xs }, refl), tt),
          ),
        );
        short = omega (arith, short, long);
      }
  fits (questions.ThisObject thread frame) is =
      let parts = and_parts (id_fits sizes.object thread.0) (id_fits sizes.frame frame.0) is in
      record {
        spelled = (ltb-true _ _ parts.0, (ltb-true _ _ parts.1, tt));
        short = two_ids sizes.object thread.0 sizes.frame frame.0 object_small frame_small;
      }

  pub is_so : (question : Question) → IsFit sizes question → is_fit sizes question ≡ true
  unfolding spell_command
  is_so (questions.ClassesBySignature text) fit =
      let short = fit.short in
      let long = text_long text in
      le-leb (4 + length text) most_body (omega (arith, short, long))
  is_so questions.AllClasses fit = refl
  is_so questions.AllThreads fit = refl
  is_so questions.IdSizes fit = refl
  is_so (questions.Signature class) fit = lt-ltb _ _ fit.spelled.0
  is_so (questions.Fields class) fit = lt-ltb _ _ fit.spelled.0
  is_so (questions.Methods class) fit = lt-ltb _ _ fit.spelled.0
  is_so (questions.SourceFile class) fit = lt-ltb _ _ fit.spelled.0
  is_so (questions.Superclass class) fit = lt-ltb _ _ fit.spelled.0
  is_so (questions.LineTable class method) fit =
      both_are (id_fits sizes.class class.0) (id_fits sizes.method method.0) (lt-ltb _ _ fit.spelled.0)
      (lt-ltb _ _ fit.spelled.1.0)
  is_so (questions.VariableTable class method) fit =
      both_are (id_fits sizes.class class.0) (id_fits sizes.method method.0) (lt-ltb _ _ fit.spelled.0)
      (lt-ltb _ _ fit.spelled.1.0)
  is_so (questions.ObjectType object) fit = lt-ltb _ _ fit.spelled.0
  is_so (questions.GetFields object fields) fit =
      let short = fit.short in
      let long = fields_long object.0 fields in
      both_are (id_fits sizes.object object.0 && list_all (λ field. id_fits sizes.field field.0) fields)
      (nat_le (sizes.object + (4 + sizes.field * length fields)) most_body)
      (both_are (id_fits sizes.object object.0) (list_all (λ field. id_fits sizes.field field.0) fields)
      (lt-ltb _ _ fit.spelled.0) (fields_are sizes fields fit.spelled.1.0.0.each))
      (le-leb (sizes.object + (4 + sizes.field * length fields)) most_body (omega (arith, short, long)))
  is_so (questions.StringValue object) fit = lt-ltb _ _ fit.spelled.0
  is_so (questions.ThreadName thread) fit = lt-ltb _ _ fit.spelled.0
  is_so (questions.Frames thread first n) fit = lt-ltb _ _ fit.spelled.0
  is_so (questions.FrameCount thread) fit = lt-ltb _ _ fit.spelled.0
  is_so (questions.ArrayLength array) fit = lt-ltb _ _ fit.spelled.0
  is_so (questions.GetElements array first n) fit = lt-ltb _ _ fit.spelled.0
  is_so (questions.GetSlots thread frame xs) fit =
      let short = fit.short in
      let long = slots_long thread.0 frame.0 xs in
      both_are (id_fits sizes.object thread.0 && id_fits sizes.frame frame.0)
      (nat_le (sizes.object + (sizes.frame + (4 + 5 * length xs))) most_body)
      (both_are (id_fits sizes.object thread.0) (id_fits sizes.frame frame.0) (lt-ltb _ _ fit.spelled.0)
      (lt-ltb _ _ fit.spelled.1.0))
      (le-leb (sizes.object + (sizes.frame + (4 + 5 * length xs))) most_body (omega (arith, short, long)))
  is_so (questions.ThisObject thread frame) fit =
      both_are (id_fits sizes.object thread.0) (id_fits sizes.frame frame.0) (lt-ltb _ _ fit.spelled.0)
      (lt-ltb _ _ fit.spelled.1.0)
