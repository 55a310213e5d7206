-- Children with their values; a frame's.
use Rattle.std.proofs.Common.{◌≡◌, ◌∷◌, ◌++◌, ℕ, zero, suc, Bool, List, [], map, take, drop, length, refl, sym, ap}
use Rattle.std.proofs.Common.{subst, ◌∙◌}
use Rattle.std.specs.Prelude.{codes, filter, Option, Some, None, option_and_then, option_map, zip}
use Rattle.std.proofs.lemmas.List.{drop-map, map-append, take-map}
use Rattle.jdwp_values.specs.declared.class.Variable.{Variable}
use Rattle.jdwp_values.specs.declared.value.Value.{Value}
use Rattle.jdwp_values.specs.declared.value.Value.TheVariants as values
use Rattle.machine_model.specs.Children.{Child, Place, at_index, in_field, in_slot, is_known, is_visible, locals_plan}
use Rattle.machine_model.specs.Children.{object_named, of_this, of_variable, this_plan, variables_plan, visible_at}
use Rattle.machine_model.specs.Children.{by_slot, first_byte, visible_plan, with_this}
use Rattle.machine_model.specs.Frames.{count_from}
use Rattle.machine_model.specs.Plans.{Plan, both, of_world, two_of}
use Rattle.machine_model.specs.Values.{is_signature, seen_plan}
use Rattle.machine_model.specs.Variables.{child_plan, locals_page, locals_valued, shown_plan, slots_of, slots_plan}
use Rattle.machine_model.specs.Variables.{values_known, with_known}
use Rattle.machine_model.specs.Variables as machine
use Rattle.machine_model.specs.Writing.{slot_store}
use Rattle.machine_model.specs.declared.parts.Store.{Store}
use Rattle.shown_worlds.specs.ChildRows as shown
use Rattle.shown_worlds.specs.Facts.{if_null, variables}
use Rattle.shown_worlds.specs.ValueRows.{Placed}
use Rattle.shown_worlds.specs.ValueRows as values_shown
use Rattle.shown_worlds.proofs.FrameLaws.{page_map, paged}
use Rattle.shown_worlds.proofs.LocalLaws.{slots_same, slots_there, this_there, variables_there}
use Rattle.shown_worlds.proofs.PlanLemmas.{all_alike, and_then_alike, map_map, said_both, said_chained, said_each}
use Rattle.shown_worlds.proofs.PlanLemmas.{said_made}
use Rattle.shown_worlds.proofs.ValueLaws.{seen_there, signature_at}
use Rattle.slot_values.specs.declared.slot.SlotValue.{SlotValue}
use Rattle.stop_refs.specs.declared.thing.FrameThing.{FrameThing}
use Rattle.world_model.specs.Objects.{reference_in}
use Rattle.world_model.specs.Replies.{living_reply}
use Rattle.world_model.specs.Scans.{all_of}
use Rattle.world_model.specs.Sound.{IsSound}
use Rattle.world_model.specs.Storing.{referred}
use Rattle.world_model.specs.Threads.{slot_value}
use Rattle.world_model.specs.declared.rows.WorldFrame.{WorldFrame}
use Rattle.world_model.specs.declared.world.World.{World}

-- Lists ---------------------------------------------------------------------------------------------------------------

zip_step : {B C : Type 0} (all : List B → Option (List C)) (one : B → Option C) (rest : List B → Option (List C))
    → ((y : B) (ys : List B) → all (y ∷ ys) ≡ option_and_then (λ z. option_map (λ zs. z ∷ zs) (rest ys)) (one y))
    → (y : Option B) (ys : Option (List B)) (zs : Option (List C)) → option_and_then rest ys ≡ zs
    → option_and_then all (option_and_then (λ y. option_map (λ ys. y ∷ ys) ys) y)
    ≡ option_and_then (λ z. option_map (λ zs. z ∷ zs) zs) (option_and_then one y)
zip_step all one rest is None ys zs same = refl
zip_step all one rest is (Some y) None zs same = nothing (one y) zs same
  where
    nothing : {C : Type 0} (z : Option C) (zs : Option (List C)) → None ≡ zs
        → None ≡ option_and_then (λ z. option_map (λ zs. z ∷ zs) zs) z
    nothing None zs same = refl
    nothing (Some z) zs same = ap (option_map (λ zs. z ∷ zs)) same
zip_step all one rest is (Some y) (Some ys) zs same =
    is y ys ∙ ap (λ o. option_and_then (λ z. option_map (λ zs. z ∷ zs) o) (one y)) same

-- what is made of items and of what is found for each
zip_all : {A B C : Type 0} (f : A → Option B) (g : A × B → Option C) (items : List A)
    → option_and_then (λ ys. all_of g (zip items ys)) (all_of f items)
    ≡ all_of (λ a. option_and_then (λ b. g (a, b)) (f a)) items
zip_all f g [] = refl
zip_all f g (a ∷ others) =
    zip_step (λ ys. all_of g (zip (a ∷ others) ys)) (λ b. g (a, b)) (λ ys. all_of g (zip others ys)) (λ y ys. refl)
    (f a)
    (all_of f others) (all_of (λ a. option_and_then (λ b. g (a, b)) (f a)) others) (zip_all f g others)

all_map : {A B C : Type 0} (f : A → B) (g : B → Option C) (items : List A)
    → all_of g (map f items) ≡ all_of (λ a. g (f a)) items
all_map f g [] = refl
all_map f g (a ∷ others) =
    ap (λ o. option_and_then (λ y. option_map (λ ys. y ∷ ys) o) (g (f a))) (all_map f g others)

pub and_then_of_map : {A B C : Type 0} (f : A → B) (g : B → Option C) (o : Option A)
    → option_and_then g (option_map f o) ≡ option_and_then (λ a. g (f a)) o
and_then_of_map f g None = refl
and_then_of_map f g (Some a) = refl

-- Children ------------------------------------------------------------------------------------------------------------

-- a child as the world has it, by how its place is read and written
abbrev pub row_of : World → (Place → Option Value) → (Place → Option Store) → Child → shown.Child
row_of w read store child = record {
  name = child.name;
  signature = signature_at w child.declared;
  value = read child.place;
  store = store child.place;
}

pub child_there : (w : World) (types : Bool) (child : Child) (value : Value) → IsSound w
    → of_world (living_reply w) (child_plan types (child, value))
    ≡ option_map (shown.shown_as child.name)
    (values_shown.shown w types (record { value = value; signature = signature_at w child.declared }))
child_there w types child value sound =
    said_made (living_reply w) (machine.shown_as child.name)
    (seen_plan types (record { value = value; declared = child.declared }))
    ∙ ap (option_map (shown.shown_as child.name))
    (seen_there w types (record { value = value; declared = child.declared }) sound)

-- children whose values are read from their places
pub children_said : (w : World) (types : Bool) (read : Place → Option Value) (store : Place → Option Store)
    (children : List Child) → IsSound w
    → option_and_then (λ found. of_world (living_reply w) (shown_plan types (zip children found)))
    (all_of (λ (child : Child). read child.place) children)
    ≡ all_of (shown.child_shown w types) (map (row_of w read store) children)
children_said w types read store children sound =
    and_then_alike (λ found. of_world (living_reply w) (shown_plan types (zip children found)))
    (λ found. all_of (λ (two : Child × Value). of_world (living_reply w) (child_plan types two)) (zip children found))
    (λ found. said_each (living_reply w) (child_plan types) (zip children found))
    (all_of (λ (child : Child). read child.place) children)
    ∙ zip_all (λ (child : Child). read child.place)
    (λ (two : Child × Value). of_world (living_reply w) (child_plan types two)) children
    ∙ all_alike (λ (child : Child). option_and_then (λ value. of_world (living_reply w)
    (child_plan types (child, value)))
    (read child.place)) (λ child. shown.child_shown w types (row_of w read store child))
    (λ child. and_then_alike (λ value. of_world (living_reply w) (child_plan types (child, value)))
    (λ value. option_map (shown.shown_as child.name)
    (values_shown.shown w types (record { value = value; signature = signature_at w child.declared })))
    (λ value. child_there w types child value sound) (read child.place)) children
    ∙ sym (all_map (row_of w read store) (shown.child_shown w types) children)

-- the values of these children are read from their places
abbrev pub AreRead : World → (Place → Option Value) → List Child → Plan (List (Child × Value)) → Type 0
AreRead w read children valued =
    of_world (living_reply w) valued ≡ option_map (zip children) (all_of (λ (child : Child). read child.place) children)

-- a page of children
pub page_said : (w : World) (types : Bool) (read : Place → Option Value) (store : Place → Option Store)
    (start count : ℕ)
    (children : List Child) (valued : List Child → Plan (List (Child × Value))) → IsSound w
    → AreRead w read (machine.page start count children) (valued (machine.page start count children))
    → option_and_then (λ found. of_world (living_reply w) (shown_plan types found))
    (of_world (living_reply w) (valued (machine.page start count children)))
    ≡ shown.page_shown w types start count (map (row_of w read store) children)
page_said w types read store start count children valued sound is =
    ap (option_and_then (λ found. of_world (living_reply w) (shown_plan types found))) is
    ∙ and_then_of_map (zip (machine.page start count children))
    (λ found. of_world (living_reply w) (shown_plan types found))
    (all_of (λ (child : Child). read child.place) (machine.page start count children))
    ∙ children_said w types read store (machine.page start count children) sound
    ∙ ap (λ l. all_of (shown.child_shown w types) l) (ap (map (row_of w read store)) (paged start count children)
    ∙ sym (page_map (row_of w read store) start count children))

-- A frame's -----------------------------------------------------------------------------------------------------------

-- a value that is known, or that lies in a slot
abbrev pub read_local : List SlotValue → Place → Option Value
read_local slots (is_known value) = Some value
read_local slots (in_slot slot tag) = slot_value slots (record { slot = slot; tag = tag })
read_local slots (in_field field) = None
read_local slots (at_index i) = None

none_known : (vs : List Variable) → values_known (map of_variable vs) ≡ []
none_known [] = refl
none_known (v ∷ others) = none_known others

all_slots : (slots : List SlotValue) (vs : List Variable)
    → all_of (slot_value slots) (slots_of (map of_variable vs))
    ≡ all_of (λ (child : Child). read_local slots child.place) (map of_variable vs)
all_slots slots [] = refl
all_slots slots (v ∷ others) =
    ap (λ o. option_and_then (λ y. option_map (λ ys. y ∷ ys) o)
    (slot_value slots (record { slot = v.slot; tag = first_byte v.signature })))
    (all_slots slots others)

-- in a frame that may be looked at
abbrev Local : World → FrameThing → WorldFrame → List Child → Type 0
Local w frame row children = AreRead w (read_local row.slots) children (locals_valued frame children)

variables_read : (w : World) (frame : FrameThing) (row : WorldFrame) → shown.frame_row w frame ≡ Some row
    → (vs : List Variable) → Local w frame row (map of_variable vs)
variables_read w frame row is vs =
    said_made (living_reply w) (with_known (map of_variable vs)) (slots_plan frame (slots_of (map of_variable vs)))
    ∙ ap (option_map (with_known (map of_variable vs)))
    (slots_there w frame row (slots_of (map of_variable vs)) is ∙ all_slots row.slots vs)
    ∙ ap (λ (known : List Value). option_map (λ found. zip (map of_variable vs) (known ++ found))
    (all_of (λ (child : Child). read_local row.slots child.place) (map of_variable vs))) (none_known vs)

-- the receiver
abbrev receiver : Value → Child
receiver value = record { name = codes "this"; declared = is_signature []; place = is_known value }

receiver_read : (w : World) (frame : FrameThing) (row : WorldFrame) → shown.frame_row w frame ≡ Some row
    → (value : Value) (vs : List Variable) → Local w frame row (receiver value ∷ map of_variable vs)
receiver_read w frame row is value vs =
    said_made (living_reply w) (with_known (receiver value ∷ map of_variable vs))
    (slots_plan frame (slots_of (map of_variable vs)))
    ∙ ap (option_map (with_known (receiver value ∷ map of_variable vs)))
    (slots_there w frame row (slots_of (map of_variable vs)) is ∙ all_slots row.slots vs)
    ∙ ap (λ (known : List Value). option_map
    (λ found. zip (receiver value ∷ map of_variable vs) (value ∷ (known ++ found)))
    (all_of (λ (child : Child). read_local row.slots child.place) (map of_variable vs))) (none_known vs)
    ∙ sym (map_map (λ found. value ∷ found) (zip (receiver value ∷ map of_variable vs))
    (all_of (λ (child : Child). read_local row.slots child.place) (map of_variable vs)))

variables_page : (P : List Child → Type 0) → ((vs : List Variable) → P (map of_variable vs)) → (n start : ℕ)
    (vs : List Variable) → P (take n (drop start (map of_variable vs)))
variables_page P all n start vs =
    subst P (sym (ap (take n) (drop-map of_variable start vs) ∙ take-map of_variable n (drop start vs)))
    (all (take n (drop start vs)))

receiver_page : (P : List Child → Type 0) (one : Child) → ((vs : List Variable) → P (map of_variable vs))
    → ((vs : List Variable) → P (one ∷ map of_variable vs)) → (n start : ℕ) (vs : List Variable)
    → P (take n (drop start (one ∷ map of_variable vs)))
receiver_page P one all more zero start vs = all []
receiver_page P one all more (suc n) zero vs =
    subst P (ap (λ l. one ∷ l) (sym (take-map of_variable n vs))) (more (take n vs))
receiver_page P one all more (suc n) (suc start) vs = variables_page P all (suc n) start vs

pub local_page : (w : World) (frame : FrameThing) (row : WorldFrame) → shown.frame_row w frame ≡ Some row
    → (value : Value) (id n start : ℕ) (vs : List Variable)
    → Local w frame row (take n (drop start (of_this value id ++ map of_variable vs)))
local_page w frame row is value zero n start vs =
    variables_page (Local w frame row) (variables_read w frame row is) n start vs
local_page w frame row is value (suc id) n start vs =
    receiver_page (Local w frame row) (receiver value) (variables_read w frame row is)
    (receiver_read w frame row is value) n start vs

-- As the world has them -----------------------------------------------------------------------------------------------

abbrev pub local_row : World → FrameThing → List SlotValue → Child → shown.Child
local_row w frame slots = row_of w (read_local slots) (slot_store frame)

receiver_by : (w : World) (frame : FrameThing) (slots : List SlotValue) (value : Value) (n : ℕ)
    → map (local_row w frame slots) (of_this value n)
    ≡ if_null n [] (record { name = codes "this"; signature = Some []; value = Some value; store = None } ∷ [])
receiver_by w frame slots value zero = refl
receiver_by w frame slots value (suc n) = refl

receiver_same : (w : World) (frame : FrameThing) (slots : List SlotValue) (value : Value)
    → map (local_row w frame slots) (of_this value (object_named value)) ≡ shown.receiver_if value (referred value)
receiver_same w frame slots (values.Object o) = receiver_by w frame slots (values.Object o) o.0
receiver_same w frame slots (values.Array o) = receiver_by w frame slots (values.Array o) o.0
receiver_same w frame slots (values.String o) = receiver_by w frame slots (values.String o) o.0
receiver_same w frame slots (values.Thread o) = receiver_by w frame slots (values.Thread o) o.0
receiver_same w frame slots (values.ThreadGroup o) = receiver_by w frame slots (values.ThreadGroup o) o.0
receiver_same w frame slots (values.ClassLoader o) = receiver_by w frame slots (values.ClassLoader o) o.0
receiver_same w frame slots (values.ClassObject o) = receiver_by w frame slots (values.ClassObject o) o.0
receiver_same w frame slots _ = refl

variables_same : (w : World) (frame : FrameThing) (slots : List SlotValue) (vs : List Variable)
    → map (local_row w frame slots) (map of_variable vs) ≡ map (shown.variable_in frame slots) vs
variables_same w frame slots [] = refl
variables_same w frame slots (v ∷ others) =
    ap (λ l. shown.variable_in frame slots v ∷ l) (variables_same w frame slots others)

-- the variables that are heard to be visible
abbrev pub heard : World → FrameThing → List Child
heard w frame = visible_at frame.at.index (variables w frame.at.class frame.at.method)

pub scope_same : (w : World) (frame : FrameThing) (slots : List SlotValue)
    → map (local_row w frame slots) (heard w frame) ≡ map (shown.variable_in frame slots) (shown.scope_of w frame)
scope_same w frame slots =
    variables_same w frame slots (by_slot (filter (is_visible frame.at.index) (variables w frame.at.class frame.at.method)))
    ∙ ap (map (shown.variable_in frame slots)) (slots_same
    (filter (is_visible frame.at.index) (variables w frame.at.class frame.at.method)))

pub visible_there : (w : World) (frame : FrameThing)
    → of_world (living_reply w) (visible_plan frame) ≡ Some (heard w frame)
visible_there w frame =
    said_made (living_reply w) (visible_at frame.at.index) (variables_plan frame.at.class frame.at.method)
    ∙ ap (option_map (visible_at frame.at.index)) (variables_there w frame.at.class frame.at.method)

pub locals_same : (w : World) (frame : FrameThing) (slots : List SlotValue) (value : Value)
    → map (local_row w frame slots) (with_this (value, heard w frame))
    ≡ shown.receiver_if value (referred value) ++ map (shown.variable_in frame slots) (shown.scope_of w frame)
locals_same w frame slots value =
    map-append (local_row w frame slots) (of_this value (object_named value)) (heard w frame)
    ∙ ap (λ l. l ++ map (local_row w frame slots) (heard w frame)) (receiver_same w frame slots value)
    ∙ ap (λ l. shown.receiver_if value (referred value) ++ l) (scope_same w frame slots)

with_one : {A B C : Type 0} (f : A × B → C) (o : Option A) (b : B)
    → option_map f (two_of o (Some b)) ≡ option_map (λ a. f (a, b)) o
with_one f None b = refl
with_one f (Some a) b = refl

pub locals_there : (w : World) (frame : FrameThing)
    → of_world (living_reply w) (locals_plan frame)
    ≡ option_map (λ this. with_this (this, heard w frame)) (shown.this_of w frame)
locals_there w frame =
    said_made (living_reply w) with_this (both (this_plan frame) (visible_plan frame))
    ∙ ap (option_map with_this) (said_both (living_reply w) (this_plan frame) (visible_plan frame)
    ∙ ap (λ o. two_of o (of_world (living_reply w) (visible_plan frame))) (this_there w frame)
    ∙ ap (two_of (shown.this_of w frame)) (visible_there w frame))
    ∙ with_one with_this (shown.this_of w frame) (heard w frame)

locals_by_this : (w : World) (types : Bool) (frame : FrameThing) (row : WorldFrame) (start count : ℕ)
    (this : Option Value)
    → IsSound w → shown.frame_row w frame ≡ Some row
    → option_and_then (λ found. of_world (living_reply w) (shown_plan types found))
    (option_and_then (λ children. of_world (living_reply w) (locals_valued frame (machine.page start count children)))
    (option_map (λ this. with_this (this, heard w frame)) this))
    ≡ option_and_then (shown.page_shown w types start count) (option_map
    (λ this. shown.receiver_if this (referred this) ++ map (shown.variable_in frame row.slots) (shown.scope_of w frame))
    this)
locals_by_this w types frame row start count None sound is = refl
locals_by_this w types frame row start count (Some this) sound is =
    page_said w types (read_local row.slots) (slot_store frame) start count (with_this (this, heard w frame))
    (locals_valued frame) sound
    (local_page w frame row is this (object_named this)
    (count_from (length (with_this (this, heard w frame))) start count) start
    (by_slot (filter (is_visible frame.at.index)
    (variables w frame.at.class frame.at.method))))
    ∙ ap (shown.page_shown w types start count) (locals_same w frame row.slots this)

locals_by : (w : World) (types : Bool) (frame : FrameThing) (start count : ℕ) (there : Option WorldFrame) → IsSound w
    → shown.frame_row w frame ≡ there
    → option_and_then (λ found. of_world (living_reply w) (shown_plan types found))
    (option_and_then (λ children. of_world (living_reply w) (locals_valued frame (machine.page start count children)))
    (option_map (λ this. with_this (this, heard w frame))
    (option_and_then (λ (row : WorldFrame). reference_in w row.this) there)))
    ≡ option_and_then (shown.page_shown w types start count) (option_and_then (shown.locals_in w frame) there)
locals_by w types frame start count None sound is = refl
locals_by w types frame start count (Some row) sound is =
    locals_by_this w types frame row start count (reference_in w row.this) sound is

-- a page of a frame's variables
pub locals_shown : (w : World) (types : Bool) (frame : FrameThing) (start count : ℕ) → IsSound w
    → option_and_then (λ found. of_world (living_reply w) (shown_plan types found))
    (of_world (living_reply w) (locals_page frame start count))
    ≡ option_and_then (shown.page_shown w types start count) (shown.locals w frame)
locals_shown w types frame start count sound =
    ap (option_and_then (λ found. of_world (living_reply w) (shown_plan types found)))
    (said_chained (living_reply w) (locals_plan frame)
    (λ children. locals_valued frame (machine.page start count children))
    ∙ ap (option_and_then (λ children. of_world (living_reply w)
    (locals_valued frame (machine.page start count children)))) (locals_there w frame))
    ∙ locals_by w types frame start count (shown.frame_row w frame) sound refl
