use Rattle.std.proofs.Common.{◌≡◌, ℕ, Bool, true, false, cond, List, [], ◌∷◌, ◌++◌, map, refl}
use Rattle.std.proofs.Common.{subst}
use Rattle.std.proofs.Common.{arith, Option, Some, None, option_map, nat_eq}
use Rattle.std.specs.Prelude.{find, is_some}
use Rattle.std.specs.List.{AllByRecursion}
use Rattle.std.specs.Option.{option_or}
use Rattle.std.proofs.lemmas.Bool.{eqb-true}
use Rattle.std.proofs.Math.Nat.{one-le-pow}
use Rattle.jdwp_values.specs.declared.id.ObjectId.{ObjectId}
use Rattle.jdwp_values.specs.declared.sizes.IdSizes.{IdSizes}
use Rattle.jdwp_values.specs.declared.tag.Tag.{Tag}
use Rattle.jdwp_values.specs.declared.tag.Tag.TheVariants as tags
use Rattle.jdwp_values.specs.declared.value.Value.{Value}
use Rattle.jdwp_values.specs.declared.value.Value.TheVariants as values
use Rattle.jdwp_values.specs.Parts.{tag_of_value}
use Rattle.jdwp_values.specs.Spelling.{FitsValue}
use Rattle.jdwp_values.specs.Tags.{is_reference}
use Rattle.world_model.specs.declared.rows.WorldArray.{WorldArray}
use Rattle.world_model.specs.declared.rows.WorldObject.{WorldObject}
use Rattle.world_model.specs.declared.rows.WorldString.{WorldString}
use Rattle.world_model.specs.declared.rows.WorldThread.{WorldThread}
use Rattle.world_model.specs.declared.world.World.{World}
use Rattle.world_model.specs.Kept.{program_of, values_of}
use Rattle.world_model.specs.Kinds.{reference_of, null}
use Rattle.world_model.specs.Objects.{object_in, array_in, string_in, reference_to, reference_in}
use Rattle.world_model.specs.Sound.{IsOfSize, AreValues}
use Rattle.world_model.specs.Threads.{thread_in}

-- Lists --------------------------------------------------------------------------------------------------------------

pub all_front : {A : Type 0} (P : A → Type 0) (xs ys : List A) → AllByRecursion P (xs ++ ys) → AllByRecursion P xs
all_front P [] ys h = tt
all_front P (x ∷ xs) ys h = (h.0, all_front P xs ys h.1)

pub all_back : {A : Type 0} (P : A → Type 0) (xs ys : List A) → AllByRecursion P (xs ++ ys) → AllByRecursion P ys
all_back P [] ys h = h
all_back P (x ∷ xs) ys h = all_back P xs ys h.1

module _ {A : Type 0} (P : ℕ → Type 0) (key : A → ℕ) (id : ℕ) where
  found_at : (b : Bool) (x row : A) (rest : Option A) → nat_eq (key x) id ≡ b → P (key x) → (rest ≡ Some row → P id)
      → cond b (Some x) rest ≡ Some row → P id
  found_at true x row rest e p later h = subst P (eqb-true (key x) id e) p
  found_at false x row rest e p later h = later h

  -- the id of a row that is found by it
  pub found_id : (rows : List A) (row : A) → find (λ x. nat_eq (key x) id) rows ≡ Some row
      → AllByRecursion P (map key rows) → P id
  found_id [] row h all = absurd cc
  found_id (x ∷ xs) row h all =
      found_at (nat_eq (key x) id) x row (find (λ y. nat_eq (key y) id) xs) refl all.0
      (λ e. found_id xs row e all.1) h

-- References ---------------------------------------------------------------------------------------------------------

-- a reference whose id fits its size
pub record IsReference (sizes : IdSizes) (v : Value) : Type 0 where
  pub fits : FitsValue sizes v
  pub is : is_reference (tag_of_value v) ≡ true

of_tag : (sizes : IdSizes) (tag : Tag) (id : ObjectId) → IsOfSize sizes.object id.0
    → IsReference sizes (reference_of tag id)
of_tag sizes tags.Array id h = record { fits = h; is = refl }
of_tag sizes tags.String id h = record { fits = h; is = refl }
of_tag sizes tags.Thread id h = record { fits = h; is = refl }
of_tag sizes tags.ThreadGroup id h = record { fits = h; is = refl }
of_tag sizes tags.ClassLoader id h = record { fits = h; is = refl }
of_tag sizes tags.ClassObject id h = record { fits = h; is = refl }
of_tag sizes tags.Object id h = record { fits = h; is = refl }
of_tag sizes tags.Byte id h = record { fits = h; is = refl }
of_tag sizes tags.Char id h = record { fits = h; is = refl }
of_tag sizes tags.Double id h = record { fits = h; is = refl }
of_tag sizes tags.Float id h = record { fits = h; is = refl }
of_tag sizes tags.Int id h = record { fits = h; is = refl }
of_tag sizes tags.Long id h = record { fits = h; is = refl }
of_tag sizes tags.Short id h = record { fits = h; is = refl }
of_tag sizes tags.Boolean id h = record { fits = h; is = refl }
of_tag sizes tags.Void id h = record { fits = h; is = refl }

null_is : (sizes : IdSizes) → IsReference sizes null
null_is sizes = record { fits = one-le-pow sizes.object 256 (omega arith); is = refl }

-- one look-up behind another
or_else : {A : Type 0} (sizes : IdSizes) (v : Value) (found : Option A) (make : A → Value) (rest : Option Value)
    → ((row : A) → found ≡ Some row → IsReference sizes (make row)) → (rest ≡ Some v → IsReference sizes v)
    → option_or (option_map make found) rest ≡ Some v → IsReference sizes v
or_else sizes v None make rest is later h = later h
or_else sizes v (Some row) make rest is later h = let same : make row ≡ v = cc in
    subst (IsReference sizes) same (is row refl)

of_thread : (w : World) (id : ObjectId) (v : Value) (found : Option WorldThread)
    → ((row : WorldThread) → found ≡ Some row → IsOfSize w.sizes.object id.0)
    → cond (is_some found) (Some (values.Thread id)) None ≡ Some v → IsReference w.sizes v
of_thread w id v None is h = absurd cc
of_thread w id v (Some row) is h = let same : values.Thread id ≡ v = cc in
    subst (IsReference w.sizes) same (record { fits = is row refl; is = refl })

pub to_object : (w : World) (id : ObjectId) (v : Value) → AreValues (program_of w) (values_of w)
    → reference_to w id ≡ Some v → IsReference w.sizes v
to_object w id v s h =
    let P = IsOfSize w.sizes.object in
    let arrays = map (λ (row : WorldArray). row.id.0) w.arrays in
    let objects = map (λ (row : WorldObject). row.id.0) w.objects in
    let strings = map (λ (row : WorldString). row.id.0) w.strings in
    let threads = map (λ (row : WorldThread). row.id.0) w.threads in
    let all = s.object_sizes in
    let behind = all_back P arrays (objects ++ (strings ++ threads)) all in
    let last = all_back P objects (strings ++ threads) behind in
    or_else w.sizes v (object_in w id) (λ row. reference_of row.tag id) _
    (λ row e. of_tag w.sizes row.tag id
    (found_id P (λ (r : WorldObject). r.id.0) id.0 w.objects row e (all_front P objects (strings ++ threads) behind)))
    (or_else w.sizes v (array_in w id) (λ row. values.Array id) _
    (λ row e. record {
      fits = found_id P (λ (r : WorldArray). r.id.0) id.0 w.arrays row e
          (all_front P arrays (objects ++ (strings ++ threads)) all);
      is = refl;
    })
    (or_else w.sizes v (string_in w id) (λ row. values.String id) _
    (λ row e. record {
      fits = found_id P (λ (r : WorldString). r.id.0) id.0 w.strings row e (all_front P strings threads last);
      is = refl;
    })
    (of_thread w id v (thread_in w (record { 0 = id.0 }))
    (λ row e. found_id P (λ (r : WorldThread). r.id.0) id.0 w.threads row e (all_back P strings threads last)))))
    h

at_null : (w : World) (id : ObjectId) (v : Value) (b : Bool) → AreValues (program_of w) (values_of w)
    → cond b (Some null) (reference_to w id) ≡ Some v → IsReference w.sizes v
at_null w id v true s h = let same : null ≡ v = cc in subst (IsReference w.sizes) same (null_is w.sizes)
at_null w id v false s h = to_object w id v s h

-- what is referred to is a reference whose id fits
pub reference_is : (w : World) (id : ObjectId) (v : Value) → AreValues (program_of w) (values_of w)
    → reference_in w id ≡ Some v → IsReference w.sizes v
reference_is w id v s h = at_null w id v (nat_eq id.0 0) s h
