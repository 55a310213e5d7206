-- With which errors the children of a container are refused.
use Rattle.std.proofs.Common.{◌≡◌, ◌≤◌, ◌+◌, ◌-◌, ◌∷◌, ◌++◌, ◌&&◌, ℕ, zero, suc, Bool, true, false, cond, List, [], map, Option}
use Rattle.std.proofs.Common.{Some, None, drop, take, length, refl, sym, ap, ◌∙◌, subst, arith, ⊎_elim}
use Rattle.std.specs.Prelude.{Contains, filter, if◌then◌else◌, is_some, not, option_and_then, option_map, zip}
use Rattle.std.specs.List.{list_all}
use Rattle.std.specs.Option.{option_map_or}
use Rattle.std.proofs.lemmas.List.Elements.{Contains-append_right}
use Rattle.dap_messages.specs.declared.requests.Filter.{Filter}
use Rattle.dap_messages.specs.declared.requests.Filter.TheVariants.{Both, Indexed, Named}
use Rattle.jdwp_values.specs.declared.id.ClassId.{ClassId}
use Rattle.jdwp_values.specs.declared.value.Value.{Value}
use Rattle.machine_model.specs.Children.{Child, Place, by_slot, chain_fields, elements_of, fields_named, is_visible, of_classes}
use Rattle.machine_model.specs.Children.{locals_plan, object_fields, object_named, this_plan, visible_plan, with_this}
use Rattle.machine_model.specs.Frames.{count_from}
use Rattle.machine_model.specs.Plans.{Plan, both, chained, each, gives, made_with, of_world}
use Rattle.machine_model.specs.Values.{by_id, class_plan, length_plan, seen_plan}
use Rattle.machine_model.specs.Variables.{child_plan, children_plan, elements_page, elements_plan, elements_valued}
use Rattle.machine_model.specs.Variables.{field_values, fields_of, fields_page, fields_valued, locals_page, locals_valued}
use Rattle.machine_model.specs.Variables.{page_plan, shown_plan, slots_of, slots_plan, with_known}
use Rattle.machine_model.specs.Variables as machine
use Rattle.machine_model.specs.Writing.{element_store, field_store, slot_store}
use Rattle.machine_model.specs.declared.parts.Finding.TheVariants as found
use Rattle.machine_model.specs.declared.parts.ShownVariable.{ShownVariable}
use Rattle.machine_model.specs.declared.parts.Store.{Store}
use Rattle.shown_worlds.specs.ChildRows as shown
use Rattle.shown_worlds.specs.Facts.{variables}
use Rattle.shown_worlds.specs.FailureRows.{children_errors, errors_of, has_value, not_shown, page_errors, why_no_child}
use Rattle.shown_worlds.specs.FailureRows.{why_no_receiver, why_not_shown}
use Rattle.shown_worlds.specs.Failures.{FailsJust, is_empty}
use Rattle.shown_worlds.specs.FieldRows.{object_fields as fields_there}
use Rattle.shown_worlds.specs.Laws.{IsLive}
use Rattle.shown_worlds.specs.Paging.{page}
use Rattle.shown_worlds.specs.ValueRows as values_shown
use Rattle.shown_worlds.proofs.ChildLaws.{AreRead, child_there, heard, local_page, local_row, locals_same, locals_there}
use Rattle.shown_worlds.proofs.ChildLaws.{read_local, row_of, visible_there}
use Rattle.shown_worlds.proofs.ElementLaws.{all_read, counted_le, elements_paged, elements_row, elements_there}
use Rattle.shown_worlds.proofs.ElementLaws.{read_element}
use Rattle.shown_worlds.proofs.FactLaws.{object}
use Rattle.shown_worlds.proofs.FieldLaws.{children_same, children_there, classes_heard, fields_page_read, heard_children}
use Rattle.shown_worlds.proofs.FieldLaws.{named_there, read_field}
use Rattle.shown_worlds.proofs.FrameLaws.{page_map, paged}
use Rattle.shown_worlds.proofs.PlanErrors.{Errs, errs_both, errs_chained, errs_made, errs_none, errs_over}
use Rattle.shown_worlds.proofs.PlanLemmas.{said_chained, said_made}
use Rattle.shown_worlds.proofs.ValueErrors.{class_gone, class_why, elements_errs, fields_errs, frame_why, length_errs, seen_errs}
use Rattle.shown_worlds.proofs.ValueErrors.{slots_errs, this_errs, why_array, why_there}
use Rattle.shown_worlds.proofs.ValueLaws.{length_there, signature_at}
use Rattle.stop_refs.specs.declared.thing.FrameThing.{FrameThing}
use Rattle.stop_refs.specs.declared.thing.Thing.{Thing}
use Rattle.stop_refs.specs.declared.thing.Thing.TheVariants as things
use Rattle.world_model.specs.Codes.{not_implemented}
use Rattle.world_model.specs.Objects.{array_in, class_of, reference_in}
use Rattle.world_model.specs.Replies.{living_reply}
use Rattle.world_model.specs.Scans.{all_of}
use Rattle.world_model.specs.Sound.{IsSound}
use Rattle.world_model.specs.Storing.{referred}
use Rattle.world_model.specs.declared.rows.WorldArray.{WorldArray}
use Rattle.world_model.specs.declared.rows.WorldFrame.{WorldFrame}
use Rattle.world_model.specs.declared.world.World.{World}

-- What was found ------------------------------------------------------------------------------------------------------

-- what gives something comes to no error
pub never : {A : Type 0} (w : World) (code : ℕ) (p : Plan A) (a : A) → of_world (living_reply w) p ≡ Some a
    → Errs (living_reply w) code p → ⊥
never w code p a is h = let none : None ≡ Some a = sym (errs_none (living_reply w) code p h) ∙ is in cc

pub map_some : {A B : Type 0} (f : A → B) (o : Option A) (b : B) → option_map f o ≡ Some b
    → (a : A) × (o ≡ Some a) × (f a ≡ b)
map_some f None b is = absurd cc
map_some f (Some a) b is = (a, refl, let same : f a ≡ b = cc in same)

map_none : {A B : Type 0} (f : A → B) (o : Option A) → option_map f o ≡ None → o ≡ None
map_none f None is = refl
map_none f (Some a) is = absurd cc

then_some : {A B : Type 0} (f : A → Option B) (o : Option A) (b : B) → option_and_then f o ≡ Some b
    → (a : A) × (o ≡ Some a) × (f a ≡ Some b)
then_some f None b is = absurd cc
then_some f (Some a) b is = (a, refl, is)

all_some : {A : Type 0} (one : Option A) (others : Option (List A)) (all : List A)
    → option_and_then (λ y. option_map (λ ys. y ∷ ys) others) one ≡ Some all
    → (y : A) × (ys : List A) × (one ≡ Some y) × (others ≡ Some ys) × (all ≡ y ∷ ys)
all_some None others all is = absurd cc
all_some (Some y) None all is = absurd cc
all_some (Some y) (Some ys) all is = (y, ys, refl, refl, let same : y ∷ ys ≡ all = cc in sym same)

all_is : {A : Type 0} (one : Option A) (others : Option (List A))
    → (is_some one && is_some others) ≡ is_some (option_and_then (λ y. option_map (λ ys. y ∷ ys) others) one)
all_is None others = refl
all_is (Some y) None = refl
all_is (Some y) (Some ys) = refl

-- A page --------------------------------------------------------------------------------------------------------------

-- children of which each is read from its place have values
values_there : (w : World) (read : Place → Option Value) (store : Place → Option Store) (list : List Child)
    → list_all has_value (map (row_of w read store) list)
    ≡ is_some (all_of (λ (child : Child). read child.place) list)
values_there w read store [] = refl
values_there w read store (child ∷ others) =
    ap (λ b. is_some (read child.place) && b) (values_there w read store others)
    ∙ all_is (read child.place) (all_of (λ (c : Child). read c.place) others)

-- a child that isn't shown has its error
first_error : (w : World) (code : ℕ) (child : shown.Child) (rest : List shown.Child) (o : Option ShownVariable)
    → o ≡ None → why_no_child w child ≡ code
    → Contains (map (why_no_child w) (cond (not (is_some o)) (child ∷ rest) rest)) code
first_error w code child rest None is same = (0, omega arith, same)
first_error w code child rest (Some one) is same = absurd cc

later_error : (w : World) (code : ℕ) (child : shown.Child) (rest : List shown.Child) (hidden : Bool)
    → Contains (map (why_no_child w) rest) code
    → Contains (map (why_no_child w) (cond hidden (child ∷ rest) rest)) code
later_error w code child rest false h = h
later_error w code child rest true h =
    Contains-append_right (why_no_child w child ∷ []) (map (why_no_child w) rest) code h

child_why : (w : World) (types : Bool) (code : ℕ) (child : Child) (value : Value)
    → Errs (living_reply w) code (child_plan types (child, value)) → code ≡ why_not_shown w value
child_why w types code child value h =
    seen_errs w types (record { value = value; declared = child.declared }) code
    (errs_made (living_reply w) code (machine.shown_as child.name)
    (seen_plan types (record { value = value; declared = child.declared })) h)

child_hidden : (w : World) (types : Bool) (read : Place → Option Value) (store : Place → Option Store) (code : ℕ)
    (child : Child) (value : Value) → IsSound w → read child.place ≡ Some value
    → Errs (living_reply w) code (child_plan types (child, value))
    → shown.child_shown w types (row_of w read store child) ≡ None
child_hidden w types read store code child value sound is h =
    ap (option_and_then (λ (v : Value). option_map (shown.shown_as child.name)
    (values_shown.shown w types (record { value = v; signature = signature_at w child.declared })))) is
    ∙ sym (child_there w types child value sound)
    ∙ errs_none (living_reply w) code (child_plan types (child, value)) h

each_errors : (w : World) (types : Bool) (read : Place → Option Value) (store : Place → Option Store) (code : ℕ)
    (list : List Child) (values : List Value) → IsSound w
    → all_of (λ (child : Child). read child.place) list ≡ Some values
    → Errs (living_reply w) code (each (child_plan types) (zip list values))
    → Contains (map (why_no_child w) (not_shown w types (map (row_of w read store) list))) code
unfolding each
each_errors w types read store code [] values sound is h = absurd h
each_errors w types read store code (child ∷ others) values sound is h =
    let split = all_some (read child.place) (all_of (λ (c : Child). read c.place) others) values is in
    let parts : Errs (living_reply w) code (each (child_plan types) ((child, split.0) ∷ zip others split.1))
    = subst (λ (l : List Value). Errs (living_reply w) code (each (child_plan types) (zip (child ∷ others) l)))
    split.4 h in
    ⊎_elim (λ either. ⊎_elim (λ one. first_error w code (row_of w read store child)
    (not_shown w types (map (row_of w read store) others))
    (shown.child_shown w types (row_of w read store child))
    (child_hidden w types read store code child split.0 sound split.2 one)
    (ap (λ (o : Option Value). option_map_or (why_not_shown w) o not_implemented) split.2
    ∙ sym (child_why w types code child split.0 one)))
    (λ rest. later_error w code (row_of w read store child) (not_shown w types (map (row_of w read store) others))
    (not (is_some (shown.child_shown w types (row_of w read store child))))
    (each_errors w types read store code others split.1 sound split.3 rest)) either) (λ more. absurd more.3) parts

unread : (code : ℕ) (all : Bool) (errors : List ℕ) → all ≡ false → code ≡ not_implemented
    → Contains (if all then errors else not_implemented ∷ []) code
unread code true errors is same = absurd cc
unread code false errors is same = (0, omega arith, sym same)

read_all : (code : ℕ) (all : Bool) (errors : List ℕ) → all ≡ true → Contains errors code
    → Contains (if all then errors else not_implemented ∷ []) code
read_all code true errors is h = h
read_all code false errors is h = absurd cc

page_error : (w : World) (types : Bool) (read : Place → Option Value) (store : Place → Option Store) (code : ℕ)
    (list : List Child) (valued : Plan (List (Child × Value))) → IsSound w → AreRead w read list valued
    → (Errs (living_reply w) code valued → code ≡ not_implemented)
    → Errs (living_reply w) code (chained valued (shown_plan types))
    → Contains (page_errors w types (map (row_of w read store) list)) code
page_error w types read store code list valued sound are so h =
    let errors = map (why_no_child w) (not_shown w types (map (row_of w read store) list)) in
    let all = list_all has_value (map (row_of w read store) list) in
    ⊎_elim (λ one. unread code all errors (values_there w read store list ∙ ap (λ o. is_some o) (map_none (zip list)
    (all_of (λ (c : Child). read c.place) list) (sym are ∙ errs_none (living_reply w) code valued one))) (so one))
    (λ more. let found = map_some (zip list) (all_of (λ (c : Child). read c.place) list) more.0 (sym are ∙ more.1) in
    read_all code all errors (values_there w read store list ∙ ap (λ o. is_some o) found.1)
    (each_errors w types read store code list found.0 sound found.1
    (subst (λ (l : List (Child × Value)). Errs (living_reply w) code (each (child_plan types) l)) (sym found.2) more.2)))
    (errs_chained (living_reply w) code valued (shown_plan types) h)

-- Variables of a frame ------------------------------------------------------------------------------------------------

pub locals_why : (w : World) (frame : FrameThing) (code : ℕ) → Errs (living_reply w) code (locals_plan frame)
    → code ≡ why_no_receiver w frame
locals_why w frame code h =
    ⊎_elim (λ one. this_errs w frame code one)
    (λ other. absurd (never w code (visible_plan frame) (heard w frame) (visible_there w frame) other))
    (errs_both (living_reply w) code (this_plan frame) (visible_plan frame)
    (errs_made (living_reply w) code with_this (both (this_plan frame) (visible_plan frame)) h))

no_locals : (w : World) (frame : FrameThing) → shown.this_of w frame ≡ None → shown.locals w frame ≡ None
no_locals w frame is = by_row (shown.frame_row w frame) is
  where
    by_this : (row : WorldFrame) (this : Option Value) → this ≡ None
        → option_map (λ (this : Value). shown.receiver_if this (referred this)
        ++ map (shown.variable_in frame row.slots) (shown.scope_of w frame)) this ≡ None
    by_this row None is = refl
    by_this row (Some this) is = absurd cc

    by_row : (there : Option WorldFrame) → option_and_then (λ (row : WorldFrame). reference_in w row.this) there ≡ None
        → option_and_then (shown.locals_in w frame) there ≡ None
    by_row None is = refl
    by_row (Some row) is = by_this row (reference_in w row.this) is

some_locals : (w : World) (frame : FrameThing) (row : WorldFrame) (this : Value) → shown.frame_row w frame ≡ Some row
    → reference_in w row.this ≡ Some this
    → shown.locals w frame ≡ Some (map (local_row w frame row.slots) (with_this (this, heard w frame)))
some_locals w frame row this there is =
    ap (option_and_then (shown.locals_in w frame)) there
    ∙ ap (option_map (λ (this : Value). shown.receiver_if this (referred this)
    ++ map (shown.variable_in frame row.slots) (shown.scope_of w frame))) is
    ∙ ap Some (sym (locals_same w frame row.slots this))

-- the page of what the world has is that of what is heard
page_row : (w : World) (read : Place → Option Value) (store : Place → Option Store) (start count : ℕ)
    (children : List Child)
    → map (row_of w read store) (machine.page start count children)
    ≡ page start count (map (row_of w read store) children)
page_row w read store start count children =
    ap (map (row_of w read store)) (paged start count children)
    ∙ sym (page_map (row_of w read store) start count children)

local_errors : (w : World) (types : Bool) (frame : FrameThing) (start count code : ℕ) (row : WorldFrame) (this : Value)
    → IsSound w → shown.frame_row w frame ≡ Some row → reference_in w row.this ≡ Some this
    → Errs (living_reply w) code (chained
    (locals_valued frame (machine.page start count (with_this (this, heard w frame)))) (shown_plan types))
    → Contains (errors_of w types (things.Locals frame) start count (shown.locals w frame)) code
local_errors w types frame start count code row this sound there is h =
    let list = machine.page start count (with_this (this, heard w frame)) in
    subst (λ (o : Option (List shown.Child)). Contains (errors_of w types (things.Locals frame) start count o) code)
    (sym (some_locals w frame row this there is))
    (subst (λ (l : List shown.Child). Contains (page_errors w types l) code)
    (page_row w (read_local row.slots) (slot_store frame) start count (with_this (this, heard w frame)))
    (page_error w types (read_local row.slots) (slot_store frame) code list (locals_valued frame list) sound
    (local_page w frame row there this (object_named this)
    (count_from (length (with_this (this, heard w frame))) start count) start
    (by_slot (filter (is_visible frame.at.index) (variables w frame.at.class frame.at.method))))
    (λ one. slots_errs w frame code (slots_of list)
    (errs_made (living_reply w) code (with_known list) (slots_plan frame (slots_of list)) one)
    ∙ frame_why w frame row there) h))

locals_errors : (w : World) (types : Bool) (frame : FrameThing) (start count code : ℕ) → IsSound w
    → Errs (living_reply w) code (chained (locals_page frame start count) (shown_plan types))
    → Contains (errors_of w types (things.Locals frame) start count (shown.locals w frame)) code
locals_errors w types frame start count code sound h =
    ⊎_elim (λ one. subst
    (λ (o : Option (List shown.Child)). Contains (errors_of w types (things.Locals frame) start count o) code)
    (sym (no_locals w frame (map_none (λ this. with_this (this, heard w frame)) (shown.this_of w frame)
    (sym (locals_there w frame) ∙ errs_none (living_reply w) code (locals_plan frame) one))))
    (0, omega arith, sym (locals_why w frame code one)))
    (λ more. let this = map_some (λ this. with_this (this, heard w frame)) (shown.this_of w frame) more.0
    (sym (locals_there w frame) ∙ more.1) in
    let row = then_some (λ (row : WorldFrame). reference_in w row.this) (shown.frame_row w frame) this.0 this.1 in
    local_errors w types frame start count code row.0 this.0 sound row.1 row.2
    (subst (λ (l : List Child). Errs (living_reply w) code (chained
    (locals_valued frame (machine.page start count l)) (shown_plan types))) (sym this.2) more.2))
    (errs_chained (living_reply w) code (locals_plan frame)
    (λ children. chained (locals_valued frame (machine.page start count children)) (shown_plan types))
    (errs_over (living_reply w) code (locals_plan frame)
    (λ children. locals_valued frame (machine.page start count children)) (shown_plan types) h))

-- Fields of an object -------------------------------------------------------------------------------------------------

-- classes and their fields are told
pub object_class : (w : World) (n code : ℕ) → IsLive w → Errs (living_reply w) code (object_fields n)
    → Errs (living_reply w) code (class_plan n)
object_class w n code live h =
    ⊎_elim (λ here. here) (λ more. absurd (never w code (chained (chain_fields more.0) fields_named)
    (heard_children w live more.0) (fields_heard more.0) more.2))
    (errs_chained (living_reply w) code (class_plan n) (λ class. chained (chain_fields class) fields_named)
    (errs_over (living_reply w) code (class_plan n) chain_fields fields_named h))
  where
    fields_heard : (class : ClassId)
        → of_world (living_reply w) (chained (chain_fields class) fields_named) ≡ Some (heard_children w live class)
    fields_heard class = said_chained (living_reply w) (chain_fields class) fields_named ∙ named_there w live class

some_fields : (w : World) (live : IsLive w) (n : ℕ) (class : ClassId) → class_of w (object n) ≡ Some class
    → shown.fields w (object n)
    ≡ Some (map (row_of w (read_field w n) (field_store n)) (heard_children w live class))
some_fields w live n class is =
    ap (option_map (λ (c : ClassId). shown.fields_in w (object n) [] (fields_there w c))) is
    ∙ ap Some (sym (children_same w live n class))

field_errors : (w : World) (types : Bool) (n start count code : ℕ) (live : IsLive w) (class : ClassId)
    → class_of w (object n) ≡ Some class
    → Errs (living_reply w) code (chained
    (fields_valued n (machine.page start count (heard_children w live class))) (shown_plan types))
    → Contains (errors_of w types (things.Object (object n)) start count (shown.fields w (object n))) code
field_errors w types n start count code live class is h =
    let list = machine.page start count (heard_children w live class) in
    subst
    (λ (o : Option (List shown.Child)). Contains (errors_of w types (things.Object (object n)) start count o) code)
    (sym (some_fields w live n class is))
    (subst (λ (l : List shown.Child). Contains (page_errors w types l) code)
    (page_row w (read_field w n) (field_store n) start count (heard_children w live class))
    (page_error w types (read_field w n) (field_store n) code list (fields_valued n list) live.sound
    (fields_page_read w n (count_from (length (heard_children w live class)) start count) start
    (of_classes [] (classes_heard w class live).classes))
    (λ one. fields_errs w n code (fields_of list)
    (errs_made (living_reply w) code (zip list) (field_values n (fields_of list)) one)
    ∙ why_there w (object n) class is) h))

fields_errors : (w : World) (types : Bool) (n start count code : ℕ) → IsLive w
    → Errs (living_reply w) code (chained (fields_page start count n) (shown_plan types))
    → Contains (errors_of w types (things.Object (object n)) start count (shown.fields w (object n))) code
fields_errors w types n start count code live h =
    ⊎_elim (λ one. subst
    (λ (o : Option (List shown.Child)). Contains (errors_of w types (things.Object (object n)) start count o) code)
    (ap (option_map (λ (c : ClassId). shown.fields_in w (object n) [] (fields_there w c)))
    (sym (class_gone w n code (object_class w n code live one))))
    (0, omega arith, sym (class_why w n code (object_class w n code live one))))
    (λ more. let class = map_some (heard_children w live) (class_of w (object n)) more.0
    (sym (children_there w live n) ∙ more.1) in
    field_errors w types n start count code live class.0 class.1 (subst (λ (l : List Child).
    Errs (living_reply w) code (chained (fields_valued n (machine.page start count l)) (shown_plan types)))
    (sym class.2) more.2))
    (errs_chained (living_reply w) code (object_fields n)
    (λ children. chained (fields_valued n (machine.page start count children)) (shown_plan types))
    (errs_over (living_reply w) code (object_fields n)
    (λ children. fields_valued n (machine.page start count children)) (shown_plan types) h))

-- Elements of an array ------------------------------------------------------------------------------------------------

element_errors : (w : World) (types : Bool) (n start count code found : ℕ) (row : WorldArray) → IsSound w
    → array_in w (object (suc n)) ≡ Some row → found ≤ length row.values - start
    → found ≡ count_from (length row.values) start count
    → Errs (living_reply w) code (chained (elements_valued (suc n) start found) (shown_plan types))
    → Contains (errors_of w types (things.Array (object (suc n))) start count (shown.elements w (object (suc n)))) code
unfolding chained made_with each
element_errors w types n start count code zero row sound is within same h = absurd h
element_errors w types n start count code (suc found) row sound is within same h =
    let list = elements_of (suc n) start (suc found) in
    let fits : start + suc found ≤ length row.values = omega (arith, within) in
    subst
    (λ (o : Option (List shown.Child)).
    Contains (errors_of w types (things.Array (object (suc n))) start count o) code)
    (ap (option_map (λ (r : WorldArray). shown.elements_in w (object (suc n)) 0 r.values)) (sym is))
    (subst (λ (l : List shown.Child). Contains (page_errors w types l) code)
    (elements_row w n row.values (suc found) start fits
    ∙ ap (λ m. take m (shown.elements_in w (object (suc n)) start (drop start row.values))) same
    ∙ elements_paged w n start count row)
    (page_error w types (read_element row.values) (element_store (suc n)) code list
    (elements_valued (suc n) start (suc found)) sound
    (said_made (living_reply w) (zip list) (elements_plan (suc n) start (suc found))
    ∙ ap (option_map (zip list)) (elements_there w (suc n) row start (suc found) sound is fits
    ∙ sym (all_read row.values (suc n) (suc found) start fits)))
    (λ one. elements_errs w (suc n) start (suc found) code
    (errs_made (living_reply w) code (zip list) (elements_plan (suc n) start (suc found)) one)
    ∙ why_array w (object (suc n)) row is) h))

elements_errors : (w : World) (types : Bool) (n start count code : ℕ) → IsSound w
    → Errs (living_reply w) code (chained (elements_page start count (suc n)) (shown_plan types))
    → Contains (errors_of w types (things.Array (object (suc n))) start count (shown.elements w (object (suc n)))) code
elements_errors w types n start count code sound h =
    ⊎_elim (λ one. subst
    (λ (o : Option (List shown.Child)).
    Contains (errors_of w types (things.Array (object (suc n))) start count o) code)
    (ap (option_map (λ (r : WorldArray). shown.elements_in w (object (suc n)) 0 r.values))
    (sym (map_none (λ (r : WorldArray). length r.values) (array_in w (object (suc n)))
    (sym (length_there w (suc n) sound) ∙ errs_none (living_reply w) code (length_plan (suc n)) one))))
    (0, omega arith, sym (length_errs w (suc n) code one)))
    (λ more. let row = map_some (λ (r : WorldArray). length r.values) (array_in w (object (suc n))) more.0
    (sym (length_there w (suc n) sound) ∙ more.1) in
    element_errors w types n start count code (count_from (length row.0.values) start count) row.0 sound row.1
    (counted_le (length row.0.values) start count) refl (subst (λ (total : ℕ). Errs (living_reply w) code
    (chained (elements_valued (suc n) start (count_from total start count)) (shown_plan types))) (sym row.2) more.2))
    (errs_chained (living_reply w) code (length_plan (suc n))
    (λ total. chained (elements_valued (suc n) start (count_from total start count)) (shown_plan types))
    (errs_over (living_reply w) code (length_plan (suc n))
    (λ total. elements_valued (suc n) start (count_from total start count)) (shown_plan types) h))

-- The look-up ---------------------------------------------------------------------------------------------------------

-- these children are refused so
abbrev RefusedSo : World → Bool → Thing → ℕ → ℕ → ℕ → Plan (List (Child × Value)) → Option (List shown.Child) → Type 0
RefusedSo w types thing start count code valued children =
    Errs (living_reply w) code (chained valued (shown_plan types))
    → Contains (errors_of w types thing start count children) code

none_refused : (w : World) (types : Bool) (thing : Thing) (start count code : ℕ)
    → RefusedSo w types thing start count code (gives []) (Some [])
unfolding chained each
none_refused w types thing start count code h = absurd h

named : (w : World) (types : Bool) (thing : Thing) (filter : Filter) (start count code : ℕ)
    (valued : Plan (List (Child × Value))) (children : Option (List shown.Child))
    → RefusedSo w types thing start count code valued children
    → RefusedSo w types thing start count code (machine.if_named filter valued) (shown.if_named filter children)
named w types thing Both start count code valued children is = is
named w types thing Named start count code valued children is = is
named w types thing Indexed start count code valued children is = none_refused w types thing start count code

indexed : (w : World) (types : Bool) (thing : Thing) (filter : Filter) (start count code : ℕ)
    (valued : Plan (List (Child × Value))) (children : Option (List shown.Child))
    → RefusedSo w types thing start count code valued children
    → RefusedSo w types thing start count code (machine.if_indexed filter valued) (shown.if_indexed filter children)
indexed w types thing Both start count code valued children is = is
indexed w types thing Indexed start count code valued children is = is
indexed w types thing Named start count code valued children is = none_refused w types thing start count code

fields_by : (w : World) (types : Bool) (start count code n : ℕ) → IsLive w
    → RefusedSo w types (things.Object (object n)) start count code (by_id n (gives []) (fields_page start count))
    (shown.unless_null (object n) (shown.fields w (object n)))
fields_by w types start count code zero live = none_refused w types (things.Object (object 0)) start count code
fields_by w types start count code (suc n) live = fields_errors w types (suc n) start count code live

elements_by : (w : World) (types : Bool) (start count code n : ℕ) → IsLive w
    → RefusedSo w types (things.Array (object n)) start count code (by_id n (gives []) (elements_page start count))
    (shown.unless_null (object n) (shown.elements w (object n)))
elements_by w types start count code zero live = none_refused w types (things.Array (object 0)) start count code
elements_by w types start count code (suc n) live = elements_errors w types n start count code live.sound

page_refused : (w : World) (types : Bool) (thing : Thing) (filter : Filter) (start count code : ℕ) → IsLive w
    → RefusedSo w types thing start count code (page_plan thing filter start count) (shown.children_of w filter thing)
page_refused w types (things.Frame frame) filter start count code live =
    none_refused w types (things.Frame frame) start count code
page_refused w types (things.Locals frame) filter start count code live =
    named w types (things.Locals frame) filter start count code (locals_page frame start count) (shown.locals w frame)
    (locals_errors w types frame start count code live.sound)
page_refused w types (things.Object id) filter start count code live =
    named w types (things.Object id) filter start count code (by_id id.0 (gives []) (fields_page start count))
    (shown.unless_null id (shown.fields w id)) (fields_by w types start count code id.0 live)
page_refused w types (things.Array id) filter start count code live =
    indexed w types (things.Array id) filter start count code (by_id id.0 (gives []) (elements_page start count))
    (shown.unless_null id (shown.elements w id)) (elements_by w types start count code id.0 live)

pub children_errs : (w : World) (types : Bool) (thing : Thing) (filter : Filter) (start count code : ℕ) → IsLive w
    → Errs (living_reply w) code (children_plan types thing filter start count)
    → Contains (children_errors w types thing filter start count) code
children_errs w types thing filter start count code live h =
    page_refused w types thing filter start count code live (errs_made (living_reply w) code found.Variables
    (chained (page_plan thing filter start count) (shown_plan types)) h)

-- Just where nothing is shown -----------------------------------------------------------------------------------------

some_map : {A B : Type 0} (f : A → B) (o : Option A) → is_some o ≡ is_some (option_map f o)
some_map f None = refl
some_map f (Some a) = refl

nor : (a b : Bool) → b ≡ false → (a && b) ≡ false
nor true b is = is
nor false b is = refl

-- those that aren't shown are none just where all are
all_shown : (w : World) (types : Bool) (list : List shown.Child)
    → is_empty (map (why_no_child w) (not_shown w types list)) ≡ is_some (all_of (shown.child_shown w types) list)
all_shown w types [] = refl
all_shown w types (child ∷ others) =
    by_shown (shown.child_shown w types child) (all_of (shown.child_shown w types) others)
    (all_shown w types others)
  where
    by_shown : (o : Option ShownVariable) (rest : Option (List ShownVariable))
        → is_empty (map (why_no_child w) (not_shown w types others)) ≡ is_some rest
        → is_empty (map (why_no_child w) (cond (not (is_some o)) (child ∷ not_shown w types others)
        (not_shown w types others)))
        ≡ is_some (option_and_then (λ y. option_map (λ ys. y ∷ ys) rest) o)
    by_shown None rest is = refl
    by_shown (Some one) rest is = is ∙ some_map (λ ys. one ∷ ys) rest

-- nor are all where one has no value
lost : (w : World) (types : Bool) (list : List shown.Child) → list_all has_value list ≡ false
    → is_some (all_of (shown.child_shown w types) list) ≡ false
lost w types [] is = cc
lost w types (child ∷ others) is =
    by_value child.value (all_of (shown.child_shown w types) others) is (lost w types others)
  where
    by_value : (v : Option Value) (rest : Option (List ShownVariable))
        → (is_some v && list_all has_value others) ≡ false
        → (list_all has_value others ≡ false → is_some rest ≡ false)
        → is_some (option_and_then (λ y. option_map (λ ys. y ∷ ys) rest) (option_and_then
        (λ value. option_map (shown.shown_as child.name)
        (values_shown.shown w types (record { value = value; signature = child.signature }))) v)) ≡ false
    by_value None rest is on = refl
    by_value (Some value) rest is on =
        sym (all_is (option_map (shown.shown_as child.name)
        (values_shown.shown w types (record { value = value; signature = child.signature }))) rest)
        ∙ nor (is_some (option_map (shown.shown_as child.name)
        (values_shown.shown w types (record { value = value; signature = child.signature })))) (is_some rest) (on is)

page_just : (w : World) (types : Bool) (list : List shown.Child)
    → is_empty (page_errors w types list) ≡ is_some (all_of (shown.child_shown w types) list)
page_just w types list = by_all (list_all has_value list) refl
  where
    by_all : (all : Bool) → list_all has_value list ≡ all
        → is_empty (if all then map (why_no_child w) (not_shown w types list) else not_implemented ∷ [])
        ≡ is_some (all_of (shown.child_shown w types) list)
    by_all true is = all_shown w types list
    by_all false is = sym (lost w types list is)

pub fails_just : FailsJust
fails_just w types thing filter start count = by_children (shown.children_of w filter thing)
  where
    by_children : (children : Option (List shown.Child))
        → is_empty (errors_of w types thing start count children)
        ≡ is_some (option_map found.Variables (option_and_then (shown.page_shown w types start count) children))
    by_children None = refl
    by_children (Some children) =
        page_just w types (page start count children)
        ∙ some_map found.Variables (all_of (shown.child_shown w types) (page start count children))
