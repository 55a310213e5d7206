-- A world stays sound as it grows by rows that fit it, name what it was given and give what it was not.
use Rattle.std.proofs.Common.{◌≡◌, ◌∙◌, ℕ, ◌+◌, ◌<◌, ◌^◌, Bool, true, false, cond, List, [], ◌∷◌, ◌++◌, map, refl, arith}
use Rattle.std.proofs.Common.{sym, ap, subst, Option, Some, None, nat_eq, nat_lt, length}
use Rattle.std.specs.Prelude.{find, is_some, ◌||◌, ◌&&◌, option_and_then, count_by}
use Rattle.std.specs.Cmp.{nat_eq_equiv}
use Rattle.std.specs.List.{AllByRecursion, IsDistinct, list_any, list_all}
use Rattle.std.specs.Option.{option_map_or}
use Rattle.std.proofs.lemmas.Bool.{eqb-true, ltb-true}
use Rattle.std.proofs.lemmas.List.{map-append}
use Rattle.std.proofs.lemmas.List.Folds.{list_any-append}
use Rattle.std.proofs.lemmas.List.Sums.{sum_by_push}
use Rattle.jdwp_values.specs.declared.id.ClassId.{ClassId}
use Rattle.jdwp_values.specs.declared.id.ObjectId.{ObjectId}
use Rattle.jdwp_values.specs.declared.id.ThreadId.{ThreadId}
use Rattle.jdwp_values.specs.declared.sizes.IdSizes.{IdSizes}
use Rattle.jdwp_values.specs.declared.tag.Tag.{Tag}
use Rattle.jdwp_values.specs.declared.value.Value.{Value}
use Rattle.jdwp_values.specs.declared.value.Value.TheVariants as values
use Rattle.jdwp_values.specs.Parts.{tag_of_value}
use Rattle.jdwp_values.specs.Spelling.{FitsValue}
use Rattle.world_model.specs.declared.rows.Installed.{Installed}
use Rattle.world_model.specs.declared.rows.Put.{Put}
use Rattle.slot_values.specs.declared.slot.SlotValue.{SlotValue}
use Rattle.world_model.specs.declared.rows.WorldArray.{WorldArray}
use Rattle.world_model.specs.declared.rows.WorldClass.{WorldClass}
use Rattle.world_model.specs.declared.rows.WorldField.{WorldField}
use Rattle.world_model.specs.declared.rows.WorldFrame.{WorldFrame}
use Rattle.world_model.specs.declared.rows.WorldMethod.{WorldMethod}
use Rattle.world_model.specs.declared.rows.WorldObject.{WorldObject}
use Rattle.world_model.specs.declared.rows.WorldString.{WorldString}
use Rattle.world_model.specs.declared.rows.WorldThread.{WorldThread}
use Rattle.world_model.specs.declared.rows.WorldVariable.{WorldVariable}
use Rattle.world_model.specs.declared.world.World.{World}
use Rattle.world_model.specs.Classes.{class_in}
use Rattle.world_model.specs.Happenings.{fits}
use Rattle.world_model.specs.Kept.{Program, program_of, values_of}
use Rattle.world_model.specs.Kinds.{same_kind, element_kind}
use Rattle.world_model.specs.Requests.{frames_under}
use Rattle.world_model.specs.Sound.{IsOfSize, IsElement, IsArray, IsFrame, IsHold, IsRequest, IsSound}
use Rattle.world_model.specs.Sound.{object_ids, same_member}
use Rattle.world_model.specs.Sound.{kind_of_class, is_method as is_method_of}
use Rattle.script_worlds.specs.Given.{is_class, is_method, is_above, are_related, is_field, is_object, is_frame}
use Rattle.script_worlds.specs.Given.{is_array, is_plain, is_string, is_thread}
use Rattle.script_worlds.specs.Growing.{HasOwnIds, IsGrowing, HasChains, empty_world, with_class, with_method}
use Rattle.script_worlds.specs.Growing.{with_variable, with_field, with_object, with_array, with_string, with_put}
use Rattle.script_worlds.specs.Growing.{with_thread, with_frame}
use Rattle.script_worlds.specs.Shapes.{value_fits, slots_fit, place_fits, are_of_kind, class_fits, method_fits}
use Rattle.script_worlds.specs.Shapes.{variable_fits, field_fits, object_fits, array_fits, has_elements, string_fits}
use Rattle.script_worlds.specs.Shapes.{field_value_fits, thread_fits, frame_fits, has_room}
use Rattle.script_worlds.proofs.ListLaws.{first_of, second_of, Splits, at_end, before, behind, all_with, all_push}
use Rattle.script_worlds.proofs.ListLaws.{distinct_with, among_keys, none_narrower, there_found, said_more}
use Rattle.script_worlds.proofs.ListLaws.{still_there, all_from}

-- Ids ----------------------------------------------------------------------------------------------------------------

swap_ids : (a b : ℕ) → nat_eq a b ≡ nat_eq b a
swap_ids a b = nat_eq_equiv.symm a b

swap_members : (a b : ℕ × ℕ) → same_member a b ≡ same_member b a
swap_members a b =
    ap (λ x. x && nat_eq a.1 b.1) (swap_ids a.0 b.0) ∙ ap (λ x. nat_eq b.0 a.0 && x) (swap_ids a.1 b.1)

size_is : (size id : ℕ) → fits size id ≡ true → IsOfSize size id
size_is size id h = ltb-true id (256 ^ size) h

-- rows of one kind, with ids of their own, and one more
new_id : {A : Type 0} (key : A → ℕ) (rows : List A) (row : A) → IsDistinct nat_eq (map key rows)
    → list_any (λ r. nat_eq (key r) (key row)) rows ≡ false → IsDistinct nat_eq (map key (rows ++ row ∷ []))
new_id key rows row h none =
    subst (IsDistinct nat_eq) (sym (map-append key rows (row ∷ [])))
    (distinct_with nat_eq swap_ids (map key rows) (map key rows ++ key row ∷ []) (key row)
    (at_end (map key rows) (key row)) h (among_keys nat_eq swap_ids key (key row) rows ∙ none))

-- the same of ids that hold within their classes alone
new_member : {A : Type 0} (key : A → ℕ × ℕ) (rows : List A) (row : A) → IsDistinct same_member (map key rows)
    → list_any (λ r. same_member (key r) (key row)) rows ≡ false → IsDistinct same_member (map key (rows ++ row ∷ []))
new_member key rows row h none =
    subst (IsDistinct same_member) (sym (map-append key rows (row ∷ [])))
    (distinct_with same_member swap_members (map key rows) (map key rows ++ key row ∷ []) (key row)
    (at_end (map key rows) (key row)) h (among_keys same_member swap_members key (key row) rows ∙ none))

-- Ids of objects -----------------------------------------------------------------------------------------------------

abbrev ids_of : World → List ℕ
ids_of w = object_ids (program_of w) (values_of w)

abbrev A-ids : World → List ℕ
A-ids w = map (λ (row : WorldArray). row.id.0) w.arrays

abbrev O-ids : World → List ℕ
O-ids w = map (λ (row : WorldObject). row.id.0) w.objects

abbrev S-ids : World → List ℕ
S-ids w = map (λ (row : WorldString). row.id.0) w.strings

abbrev T-ids : World → List ℕ
T-ids w = map (λ (row : WorldThread). row.id.0) w.threads

-- an object's id is one of those of all objects
given_id : (w : World) (id : ObjectId) → list_any (nat_eq id.0) (ids_of w) ≡ is_object w id
given_id w id =
    list_any-append (nat_eq id.0) (A-ids w) (O-ids w ++ (S-ids w ++ T-ids w))
    ∙ ap (λ b. b || list_any (nat_eq id.0) (O-ids w ++ (S-ids w ++ T-ids w)))
    (among_keys nat_eq swap_ids (λ (row : WorldArray). row.id.0) id.0 w.arrays)
    ∙ ap (λ b. is_array w id || b)
    (list_any-append (nat_eq id.0) (O-ids w) (S-ids w ++ T-ids w)
    ∙ ap (λ b. b || list_any (nat_eq id.0) (S-ids w ++ T-ids w))
    (among_keys nat_eq swap_ids (λ (row : WorldObject). row.id.0) id.0 w.objects)
    ∙ ap (λ b. is_plain w id || b)
    (list_any-append (nat_eq id.0) (S-ids w) (T-ids w)
    ∙ ap (λ b. b || list_any (nat_eq id.0) (T-ids w))
    (among_keys nat_eq swap_ids (λ (row : WorldString). row.id.0) id.0 w.strings)
    ∙ ap (λ b. is_string w id || b)
    (among_keys nat_eq swap_ids (λ (row : WorldThread). row.id.0) id.0 w.threads)))

-- the ids of all objects of a world with one object more
split_array : (w : World) (row : WorldArray) → Splits (ids_of w) (ids_of (with_array w row)) row.id.0
split_array w row =
    subst (λ ids. Splits (ids_of w) (ids ++ (O-ids w ++ (S-ids w ++ T-ids w))) row.id.0)
    (sym (map-append (λ (r : WorldArray). r.id.0) w.arrays (row ∷ [])))
    (before (A-ids w) (O-ids w ++ (S-ids w ++ T-ids w)) row.id.0)

split_object : (w : World) (row : WorldObject) → Splits (ids_of w) (ids_of (with_object w row)) row.id.0
split_object w row =
    behind (A-ids w) _ _ row.id.0
    (subst (λ ids. Splits (O-ids w ++ (S-ids w ++ T-ids w)) (ids ++ (S-ids w ++ T-ids w)) row.id.0)
    (sym (map-append (λ (r : WorldObject). r.id.0) w.objects (row ∷ [])))
    (before (O-ids w) (S-ids w ++ T-ids w) row.id.0))

split_string : (w : World) (row : WorldString) → Splits (ids_of w) (ids_of (with_string w row)) row.id.0
split_string w row =
    behind (A-ids w) _ _ row.id.0 (behind (O-ids w) _ _ row.id.0
    (subst (λ ids. Splits (S-ids w ++ T-ids w) (ids ++ T-ids w) row.id.0)
    (sym (map-append (λ (r : WorldString). r.id.0) w.strings (row ∷ [])))
    (before (S-ids w) (T-ids w) row.id.0)))

split_thread : (w : World) (row : WorldThread) → Splits (ids_of w) (ids_of (with_thread w row)) row.id.0
split_thread w row =
    behind (A-ids w) _ _ row.id.0 (behind (O-ids w) _ _ row.id.0 (behind (S-ids w) _ _ row.id.0
    (subst (λ ids. Splits (T-ids w) ids row.id.0)
    (sym (map-append (λ (r : WorldThread). r.id.0) w.threads (row ∷ [])))
    (at_end (T-ids w) row.id.0))))

-- they stay apart, and fit their size
module _ (w : World) (new : List ℕ) (id : ObjectId) (s : Splits (ids_of w) new id.0) (g : IsGrowing w) where
  still_apart : is_object w id ≡ false → IsDistinct nat_eq new
  still_apart none = distinct_with nat_eq swap_ids (ids_of w) new id.0 s g.objects (given_id w id ∙ none)

  still_fit : fits w.sizes.object id.0 ≡ true → AllByRecursion (IsOfSize w.sizes.object) new
  still_fit h = all_with (IsOfSize w.sizes.object) (ids_of w) new id.0 s g.object_sizes (size_is w.sizes.object id.0 h)

-- Arrays and frames in a program that says more ----------------------------------------------------------------------

-- what is so of arrays and frames stays so in a program with the same sizes that has all classes and methods
record SaysMore (old new : Program) : Type 0 where
  sizes : new.sizes ≡ old.sizes
  kinds : (class : ClassId) (kind : Tag) → kind_of_class old.classes class ≡ Some kind
      → kind_of_class new.classes class ≡ Some kind
  methods : (row : WorldFrame) → is_method_of old.methods row ≡ true → is_method_of new.methods row ≡ true

module _ (old new : Program) (more : SaysMore old new) where
  arrays_stay : (arrays : List WorldArray) → AllByRecursion (IsArray old) arrays → AllByRecursion (IsArray new) arrays
  arrays_stay [] h = tt
  arrays_stay (row ∷ rows) h = (
    record {
      kind = h.0.kind;
      is_kind = more.kinds row.class h.0.kind h.0.is_kind;
      elements = subst (λ sizes. AllByRecursion (IsElement sizes h.0.kind) row.values) (sym more.sizes) h.0.elements;
      few = h.0.few;
    },
    arrays_stay rows h.1,
  )

  frames_stay : (frames : List WorldFrame) → AllByRecursion (IsFrame old) frames → AllByRecursion (IsFrame new) frames
  frames_stay [] h = tt
  frames_stay (row ∷ rows) h = (
    record {
      id_size = subst (λ (sizes : IdSizes). IsOfSize sizes.frame row.id.0) (sym more.sizes) h.0.id_size;
      there = more.methods row h.0.there;
      this_size = subst (λ (sizes : IdSizes). IsOfSize sizes.object row.this.0) (sym more.sizes) h.0.this_size;
      slots = subst (λ sizes. AllByRecursion (λ slot. FitsValue sizes slot.value) row.slots) (sym more.sizes) h.0.slots;
    },
    frames_stay rows h.1,
  )

-- a program that says the same of classes and methods
abbrev SameClasses : Program → Program → Type 0
SameClasses old new = (new.sizes ≡ old.sizes) × (new.classes ≡ old.classes) × (new.methods ≡ old.methods)

says_as_much : (old new : Program) → SameClasses old new → SaysMore old new
says_as_much old new same = record {
  sizes = same.0;
  kinds = λ class kind h. ap (λ classes. kind_of_class classes class) same.1 ∙ h;
  methods = λ row h. ap (λ methods. is_method_of methods row) same.2 ∙ h;
}

more_classes : (w : World) (row : WorldClass) → SaysMore (program_of w) (program_of (with_class w row))
more_classes w row = record {
  sizes = refl;
  kinds = λ class kind h. said_more (λ (r : WorldClass). nat_eq r.id.0 class.0)
      (λ (r : WorldClass). element_kind r.signature) w.classes row kind h;
  methods = λ frame h. h;
}

more_methods : (w : World) (row : WorldMethod) → SaysMore (program_of w) (program_of (with_method w row))
more_methods w row = record {
  sizes = refl;
  kinds = λ class kind h. h;
  methods = λ frame h. still_there
      (λ (r : WorldMethod). nat_eq r.class.0 frame.class.0 && nat_eq r.method.id.0 frame.method.0) w.methods row h;
}

-- Each kind of row ---------------------------------------------------------------------------------------------------

pub empty_grows : (sizes : IdSizes) → IsGrowing (empty_world sizes)
unfolding IsDistinct
empty_grows sizes = record {
  own = record { classes = tt; no_null = tt; class_sizes = tt; methods = tt; method_sizes = tt; fields = tt; field_sizes = tt };
  objects = tt;
  object_sizes = tt;
  puts = tt;
  arrays = tt;
  frame_ids = tt;
  frames = tt;
  few = λ thread. omega arith;
  requests = refl;
  next_request = refl;
  count = refl;
  alive = refl;
}

pub class_grows : (w : World) (row : WorldClass) → IsGrowing w → class_fits w.sizes row ≡ true
    → is_class w row.id ≡ false → IsGrowing (with_class w row)
class_grows w row g fit new = record {
  own = record {
    classes = new_id (λ (r : WorldClass). r.id.0) w.classes row g.own.classes new;
    no_null = all_push (λ (r : WorldClass). 0 < r.id.0) w.classes row g.own.no_null
        (ltb-true 0 row.id.0 (first_of (nat_lt 0 row.id.0) _ fit));
    class_sizes = all_push (λ (r : WorldClass). IsOfSize w.sizes.class r.id.0) w.classes row g.own.class_sizes
        (size_is w.sizes.class row.id.0 (first_of (fits w.sizes.class row.id.0) (fits w.sizes.class row.above.0)
        (second_of (nat_lt 0 row.id.0) _ fit)));
    methods = g.own.methods;
    method_sizes = g.own.method_sizes;
    fields = g.own.fields;
    field_sizes = g.own.field_sizes;
  };
  objects = g.objects;
  object_sizes = g.object_sizes;
  puts = g.puts;
  arrays = arrays_stay (program_of w) (program_of (with_class w row)) (more_classes w row) w.arrays g.arrays;
  frame_ids = g.frame_ids;
  frames = frames_stay (program_of w) (program_of (with_class w row)) (more_classes w row) w.frames g.frames;
  few = g.few;
  requests = g.requests;
  next_request = g.next_request;
  count = g.count;
  alive = g.alive;
}

pub method_grows : (w : World) (row : WorldMethod) → IsGrowing w → method_fits w.sizes row ≡ true
    → is_method w row.class row.method.id ≡ false → IsGrowing (with_method w row)
method_grows w row g fit new = record {
  own = record {
    classes = g.own.classes;
    no_null = g.own.no_null;
    class_sizes = g.own.class_sizes;
    methods = new_member (λ (r : WorldMethod). (r.class.0, r.method.id.0)) w.methods row g.own.methods new;
    method_sizes = all_push (λ (r : WorldMethod). IsOfSize w.sizes.method r.method.id.0) w.methods row
        g.own.method_sizes
        (size_is w.sizes.method row.method.id.0
        (second_of (fits w.sizes.class row.class.0) (fits w.sizes.method row.method.id.0) fit));
    fields = g.own.fields;
    field_sizes = g.own.field_sizes;
  };
  objects = g.objects;
  object_sizes = g.object_sizes;
  puts = g.puts;
  arrays = arrays_stay (program_of w) (program_of (with_method w row)) (more_methods w row) w.arrays g.arrays;
  frame_ids = g.frame_ids;
  frames = frames_stay (program_of w) (program_of (with_method w row)) (more_methods w row) w.frames g.frames;
  few = g.few;
  requests = g.requests;
  next_request = g.next_request;
  count = g.count;
  alive = g.alive;
}

-- classes and methods stay, and so do ids that classes, methods and fields have
module _ (w new : World) (g : IsGrowing w) (same : SameClasses (program_of w) (program_of new)) where
  same_arrays : AllByRecursion (IsArray (program_of new)) w.arrays
  same_arrays =
      arrays_stay (program_of w) (program_of new) (says_as_much (program_of w) (program_of new) same) w.arrays g.arrays

  same_frames : AllByRecursion (IsFrame (program_of new)) w.frames
  same_frames =
      frames_stay (program_of w) (program_of new) (says_as_much (program_of w) (program_of new) same) w.frames g.frames

pub variable_grows : (w : World) (row : WorldVariable) → IsGrowing w → IsGrowing (with_variable w row)
variable_grows w row g = record {
  own = record {
    classes = g.own.classes;
    no_null = g.own.no_null;
    class_sizes = g.own.class_sizes;
    methods = g.own.methods;
    method_sizes = g.own.method_sizes;
    fields = g.own.fields;
    field_sizes = g.own.field_sizes;
  };
  objects = g.objects;
  object_sizes = g.object_sizes;
  puts = g.puts;
  arrays = same_arrays w (with_variable w row) g (refl, refl, refl);
  frame_ids = g.frame_ids;
  frames = same_frames w (with_variable w row) g (refl, refl, refl);
  few = g.few;
  requests = g.requests;
  next_request = g.next_request;
  count = g.count;
  alive = g.alive;
}

-- a class is above itself
own_class : (steps : List WorldClass) (w : World) (class above : ClassId) → nat_eq class.0 above.0 ≡ true
    → is_above steps w class above ≡ true
own_class [] w class above e = e
own_class (step ∷ steps) w class above e =
    ap (λ b. b || option_map_or (λ (row : WorldClass). is_above steps w row.above above)
    (find (λ (row : WorldClass). nat_eq row.id.0 class.0) w.classes) false) e

-- a field of the class itself has the id as a field of the class, of one above it or of one below it
own_field : (w : World) (row r : WorldField)
    → same_member (r.class.0, r.field.id.0) (row.class.0, row.field.id.0) ≡ true
    → (nat_eq r.field.id.0 row.field.id.0 && are_related w row.class r.class) ≡ true
own_field w row r h =
    let class = first_of (nat_eq r.class.0 row.class.0) (nat_eq r.field.id.0 row.field.id.0) h in
    let field = second_of (nat_eq r.class.0 row.class.0) (nat_eq r.field.id.0 row.field.id.0) h in
    let above = own_class w.classes w row.class r.class (swap_ids row.class.0 r.class.0 ∙ class) in
    ap (λ b. b && are_related w row.class r.class) field
    ∙ ap (λ b. b || is_above w.classes w r.class row.class) above

pub field_grows : (w : World) (row : WorldField) → IsGrowing w → field_fits w.sizes row ≡ true
    → is_field w row.class row.field.id ≡ false → IsGrowing (with_field w row)
field_grows w row g fit new = record {
  own = record {
    classes = g.own.classes;
    no_null = g.own.no_null;
    class_sizes = g.own.class_sizes;
    methods = g.own.methods;
    method_sizes = g.own.method_sizes;
    fields = new_member (λ (r : WorldField). (r.class.0, r.field.id.0)) w.fields row g.own.fields
        (none_narrower (λ (r : WorldField). same_member (r.class.0, r.field.id.0) (row.class.0, row.field.id.0))
        (λ (r : WorldField). nat_eq r.field.id.0 row.field.id.0 && are_related w row.class r.class) w.fields
        (own_field w row) new);
    field_sizes = all_push (λ (r : WorldField). IsOfSize w.sizes.field r.field.id.0) w.fields row g.own.field_sizes
        (size_is w.sizes.field row.field.id.0
        (second_of (fits w.sizes.class row.class.0) (fits w.sizes.field row.field.id.0) fit));
  };
  objects = g.objects;
  object_sizes = g.object_sizes;
  puts = g.puts;
  arrays = same_arrays w (with_field w row) g (refl, refl, refl);
  frame_ids = g.frame_ids;
  frames = same_frames w (with_field w row) g (refl, refl, refl);
  few = g.few;
  requests = g.requests;
  next_request = g.next_request;
  count = g.count;
  alive = g.alive;
}

-- ids that classes, methods and fields have of their own
same_own : (w new : World) → IsGrowing w → new.sizes ≡ w.sizes → new.classes ≡ w.classes → new.methods ≡ w.methods
    → new.fields ≡ w.fields → HasOwnIds (program_of new)
same_own w new g sizes classes methods fields = record {
  classes = subst (λ rows. IsDistinct nat_eq (map (λ (r : WorldClass). r.id.0) rows)) (sym classes) g.own.classes;
  no_null = rw (classes) g.own.no_null;
  class_sizes = rw (sizes, classes) g.own.class_sizes;
  methods = subst (λ rows. IsDistinct same_member (map (λ (r : WorldMethod). (r.class.0, r.method.id.0)) rows))
      (sym methods) g.own.methods;
  method_sizes = rw (sizes, methods) g.own.method_sizes;
  fields = subst (λ rows. IsDistinct same_member (map (λ (r : WorldField). (r.class.0, r.field.id.0)) rows))
      (sym fields) g.own.fields;
  field_sizes = rw (sizes, fields) g.own.field_sizes;
}

pub object_grows : (w : World) (row : WorldObject) → IsGrowing w → object_fits w.sizes row ≡ true
    → is_object w row.id ≡ false → IsGrowing (with_object w row)
object_grows w row g fit new = record {
  own = same_own w (with_object w row) g refl refl refl refl;
  objects = still_apart w (ids_of (with_object w row)) row.id (split_object w row) g new;
  object_sizes = still_fit w (ids_of (with_object w row)) row.id (split_object w row) g
      (first_of (fits w.sizes.object row.id.0) (fits w.sizes.class row.class.0) fit);
  puts = g.puts;
  arrays = same_arrays w (with_object w row) g (refl, refl, refl);
  frame_ids = g.frame_ids;
  frames = same_frames w (with_object w row) g (refl, refl, refl);
  few = g.few;
  requests = g.requests;
  next_request = g.next_request;
  count = g.count;
  alive = g.alive;
}

pub string_grows : (w : World) (row : WorldString) → IsGrowing w → string_fits w.sizes row ≡ true
    → is_object w row.id ≡ false → IsGrowing (with_string w row)
string_grows w row g fit new = record {
  own = same_own w (with_string w row) g refl refl refl refl;
  objects = still_apart w (ids_of (with_string w row)) row.id (split_string w row) g new;
  object_sizes = still_fit w (ids_of (with_string w row)) row.id (split_string w row) g
      (first_of (fits w.sizes.object row.id.0) (fits w.sizes.class row.class.0) fit);
  puts = g.puts;
  arrays = same_arrays w (with_string w row) g (refl, refl, refl);
  frame_ids = g.frame_ids;
  frames = same_frames w (with_string w row) g (refl, refl, refl);
  few = g.few;
  requests = g.requests;
  next_request = g.next_request;
  count = g.count;
  alive = g.alive;
}

pub thread_grows : (w : World) (row : WorldThread) → IsGrowing w → thread_fits w.sizes row.id ≡ true
    → is_object w (record { 0 = row.id.0 }) ≡ false → IsGrowing (with_thread w row)
thread_grows w row g fit new = record {
  own = same_own w (with_thread w row) g refl refl refl refl;
  objects = still_apart w (ids_of (with_thread w row)) (record { 0 = row.id.0 }) (split_thread w row) g new;
  object_sizes = still_fit w (ids_of (with_thread w row)) (record { 0 = row.id.0 }) (split_thread w row) g fit;
  puts = g.puts;
  arrays = same_arrays w (with_thread w row) g (refl, refl, refl);
  frame_ids = g.frame_ids;
  frames = same_frames w (with_thread w row) g (refl, refl, refl);
  few = g.few;
  requests = g.requests;
  next_request = g.next_request;
  count = g.count;
  alive = g.alive;
}

-- Values -------------------------------------------------------------------------------------------------------------

-- the id of a value fits
value_is : (sizes : IdSizes) (value : Value) → value_fits sizes value ≡ true → FitsValue sizes value
value_is sizes (values.Object id) h = size_is sizes.object id.0 h
value_is sizes (values.Array id) h = size_is sizes.object id.0 h
value_is sizes (values.String id) h = size_is sizes.object id.0 h
value_is sizes (values.Thread id) h = size_is sizes.object id.0 h
value_is sizes (values.ThreadGroup id) h = size_is sizes.object id.0 h
value_is sizes (values.ClassLoader id) h = size_is sizes.object id.0 h
value_is sizes (values.ClassObject id) h = size_is sizes.object id.0 h
value_is sizes (values.Byte x) h = tt
value_is sizes (values.Char x) h = tt
value_is sizes (values.Double x) h = tt
value_is sizes (values.Float x) h = tt
value_is sizes (values.Int x) h = tt
value_is sizes (values.Long x) h = tt
value_is sizes (values.Short x) h = tt
value_is sizes (values.Boolean x) h = tt
value_is sizes values.Void h = tt

pub put_grows : (w : World) (row : Put) → IsGrowing w
    → field_value_fits w.sizes row.object row.field row.value ≡ true → IsGrowing (with_put w row)
put_grows w row g fit = record {
  own = g.own;
  objects = g.objects;
  object_sizes = g.object_sizes;
  puts = all_push (λ (r : Put). FitsValue w.sizes r.value) w.puts row g.puts
      (value_is w.sizes row.value
      (second_of (fits w.sizes.object row.object.0 && fits w.sizes.field row.field.0) (value_fits w.sizes row.value) fit));
  arrays = g.arrays;
  frame_ids = g.frame_ids;
  frames = g.frames;
  few = g.few;
  requests = g.requests;
  next_request = g.next_request;
  count = g.count;
  alive = g.alive;
}

-- values of a kind whose ids fit
elements_are : (sizes : IdSizes) (kind : Tag) (vs : List Value)
    → list_all (λ value. same_kind kind (tag_of_value value)) vs ≡ true → list_all (value_fits sizes) vs ≡ true
    → AllByRecursion (IsElement sizes kind) vs
elements_are sizes kind [] h k = tt
elements_are sizes kind (v ∷ vs) h k = (
  (
    first_of (same_kind kind (tag_of_value v)) (list_all (λ value. same_kind kind (tag_of_value value)) vs) h,
    value_is sizes v (first_of (value_fits sizes v) (list_all (value_fits sizes) vs) k),
  ),
  elements_are sizes kind vs
      (second_of (same_kind kind (tag_of_value v)) (list_all (λ value. same_kind kind (tag_of_value value)) vs) h)
      (second_of (value_fits sizes v) (list_all (value_fits sizes) vs) k),
)

-- an array whose class was given
module _ (w : World) (row : WorldArray) (fit : array_fits w.sizes row ≡ true) where
  values_do_fit : list_all (value_fits w.sizes) row.values ≡ true
  values_do_fit = first_of (list_all (value_fits w.sizes) row.values) (nat_lt (length row.values) (2 ^ 31))
      (second_of (fits w.sizes.object row.id.0 && fits w.sizes.class row.class.0) _ fit)

  are_few : length row.values < 2 ^ 31
  are_few = ltb-true (length row.values) (2 ^ 31)
      (second_of (list_all (value_fits w.sizes) row.values) (nat_lt (length row.values) (2 ^ 31))
      (second_of (fits w.sizes.object row.id.0 && fits w.sizes.class row.class.0) _ fit))

  with_kind : (kind : Option Tag) → kind_of_class w.classes row.class ≡ kind → are_of_kind kind row.values ≡ true
      → IsArray (program_of w) row
  with_kind None e h = absurd cc
  with_kind (Some kind) e h = record {
    kind = kind;
    is_kind = e;
    elements = elements_are w.sizes kind row.values h values_do_fit;
    few = are_few;
  }

  with_its_class : (class : Option WorldClass) → class_in w row.class ≡ class → is_some class ≡ true
      → option_map_or (λ (c : WorldClass). are_of_kind (element_kind c.signature) row.values) class true ≡ true
      → IsArray (program_of w) row
  with_its_class None e there h = absurd cc
  with_its_class (Some class) e there h =
      with_kind (element_kind class.signature)
      (ap (option_and_then (λ (c : WorldClass). element_kind c.signature)) e) h

  array_is : has_elements w row ≡ true → is_class w row.class ≡ true → IsArray (program_of w) row
  array_is has known =
      with_its_class (class_in w row.class) refl
      (sym (there_found (λ (c : WorldClass). nat_eq c.id.0 row.class.0) w.classes) ∙ known) has

pub array_grows : (w : World) (row : WorldArray) → IsGrowing w → array_fits w.sizes row ≡ true
    → has_elements w row ≡ true → is_object w row.id ≡ false → is_class w row.class ≡ true
    → IsGrowing (with_array w row)
array_grows w row g fit has new known = record {
  own = g.own;
  objects = still_apart w (ids_of (with_array w row)) row.id (split_array w row) g new;
  object_sizes = still_fit w (ids_of (with_array w row)) row.id (split_array w row) g
      (first_of (fits w.sizes.object row.id.0) (fits w.sizes.class row.class.0)
      (first_of (fits w.sizes.object row.id.0 && fits w.sizes.class row.class.0) _ fit));
  puts = g.puts;
  arrays = all_push (IsArray (program_of w)) w.arrays row g.arrays (array_is w row fit has known);
  frame_ids = g.frame_ids;
  frames = g.frames;
  few = g.few;
  requests = g.requests;
  next_request = g.next_request;
  count = g.count;
  alive = g.alive;
}

-- Frames -------------------------------------------------------------------------------------------------------------

frame_is : (w : World) (row : WorldFrame) → frame_fits w.sizes row ≡ true
    → is_method w row.class row.method ≡ true → IsFrame (program_of w) row
frame_is w row fit known =
    let ids = first_of (fits w.sizes.object row.thread.0 && fits w.sizes.frame row.id.0) _ fit in
    let rest = second_of (fits w.sizes.object row.thread.0 && fits w.sizes.frame row.id.0) _ fit in
    let this = second_of (place_fits w.sizes row.class row.method) _ rest in
    record {
      id_size = size_is w.sizes.frame row.id.0 (second_of (fits w.sizes.object row.thread.0) _ ids);
      there = sym (there_found
          (λ (r : WorldMethod). nat_eq r.class.0 row.class.0 && nat_eq r.method.id.0 row.method.0) w.methods) ∙ known;
      this_size = size_is w.sizes.object row.this.0 (first_of (fits w.sizes.object row.this.0) _ this);
      slots = all_from (λ (slot : SlotValue). FitsValue w.sizes slot.value)
          (λ (slot : SlotValue). value_fits w.sizes slot.value) row.slots
          (λ slot h. value_is w.sizes slot.value h) (second_of (fits w.sizes.object row.this.0) _ this);
    }

-- how many frames a thread has, and so many more
abbrev frames_more : World → ThreadId → ℕ → ℕ
frames_more w thread n = frames_under w.frames thread + n

frames_pushed : (w : World) (row : WorldFrame) (thread : ThreadId) (b : Bool) → nat_eq row.thread.0 thread.0 ≡ b
    → frames_under (w.frames ++ row ∷ []) thread ≡ frames_more w thread (cond b 1 0)
frames_pushed w row thread b e =
    sum_by_push (λ (r : WorldFrame). cond (nat_eq r.thread.0 thread.0) 1 0) w.frames row
    ∙ ap (λ b. frames_more w thread (cond b 1 0)) e

-- a thread's frames are few still
still_few : (w : World) (row : WorldFrame) → ((thread : ThreadId) → frames_under w.frames thread < 2 ^ 31)
    → has_room w row.thread ≡ true → (thread : ThreadId) → frames_under (w.frames ++ row ∷ []) thread < 2 ^ 31
still_few w row few room thread = by (nat_eq row.thread.0 thread.0) refl where
  by : (b : Bool) → nat_eq row.thread.0 thread.0 ≡ b → frames_under (w.frames ++ row ∷ []) thread < 2 ^ 31
  by true e =
      subst (λ n. n < 2 ^ 31) (sym (frames_pushed w row thread true e))
      (subst (λ n. count_by (λ (r : WorldFrame). nat_eq r.thread.0 n) w.frames + 1 < 2 ^ 31)
      (eqb-true row.thread.0 thread.0 e)
      (ltb-true (frames_under w.frames row.thread + 1) (2 ^ 31) room))
  by false e =
      let here : frames_under w.frames thread < 2 ^ 31 = few thread in
      subst (λ n. n < 2 ^ 31) (sym (frames_pushed w row thread false e)) (omega arith)

pub frame_grows : (w : World) (row : WorldFrame) → IsGrowing w → frame_fits w.sizes row ≡ true
    → has_room w row.thread ≡ true → is_frame w row.id ≡ false → is_method w row.class row.method ≡ true
    → IsGrowing (with_frame w row)
frame_grows w row g fit room new known = record {
  own = g.own;
  objects = g.objects;
  object_sizes = g.object_sizes;
  puts = g.puts;
  arrays = g.arrays;
  frame_ids = new_id (λ (r : WorldFrame). r.id.0) w.frames row g.frame_ids new;
  frames = all_push (IsFrame (program_of w)) w.frames row g.frames (frame_is w row fit known);
  few = still_few w row g.few room;
  requests = g.requests;
  next_request = g.next_request;
  count = g.count;
  alive = g.alive;
}

-- A whole world ------------------------------------------------------------------------------------------------------

few_of_all : (w : World) → ((thread : ThreadId) → frames_under w.frames thread < 2 ^ 31) → (threads : List WorldThread)
    → AllByRecursion (λ (row : WorldThread). frames_under w.frames row.id < 2 ^ 31) threads
few_of_all w few [] = tt
few_of_all w few (row ∷ rows) = (few row.id, few_of_all w few rows)

free_hold : (requests : List Installed) (next count : ℕ) → requests ≡ [] → next ≡ 1 → count ≡ 0
    → IsHold requests next count
unfolding IsDistinct
free_hold requests next count none first free = record {
  distinct = subst (λ rows. IsDistinct nat_eq (map (λ (r : Installed). r.request) rows)) (sym none) tt;
  numbers = subst (AllByRecursion (λ (r : Installed). IsRequest r.request)) (sym none) tt;
  next_number = subst IsRequest (sym first) (omega arith, omega arith);
  few = subst (λ n. n < 2 ^ 64) (sym free) (omega arith);
}

pub whole_is_sound : (w : World) → IsGrowing w → HasChains w → IsSound w
whole_is_sound w g chains = record {
  program = record {
    classes = g.own.classes;
    no_null = g.own.no_null;
    class_sizes = g.own.class_sizes;
    chains = chains;
    methods = g.own.methods;
    method_sizes = g.own.method_sizes;
    fields = g.own.fields;
    field_sizes = g.own.field_sizes;
  };
  values = record {
    objects = g.objects;
    object_sizes = g.object_sizes;
    puts = g.puts;
    arrays = g.arrays;
    frame_ids = g.frame_ids;
    frames = g.frames;
    few = few_of_all w g.few w.threads;
  };
  hold = free_hold w.requests w.next_request w.count g.requests g.next_request g.count;
}
