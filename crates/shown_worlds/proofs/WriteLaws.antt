-- What is written.
use Rattle.std.proofs.Common.{◌≡◌, ◌∷◌, ◌++◌, ℕ, zero, suc, Bool, true, false, cond, List, [], length, map, refl, sym}
use Rattle.std.proofs.Common.{ap, ◌∙◌, get_or}
use Rattle.std.specs.Prelude.{bytes_eq, find, if◌then◌else◌, nat_lt, Option, Some, None, option_and_then, option_map}
use Rattle.std.specs.Prelude.{slice_get, Result, Ok, Err}
use Rattle.std.specs.Str.Parse.{digits_value}
use Rattle.std.proofs.lemmas.Bool.{ltb-false, ltb-true}
use Rattle.std.proofs.lemmas.Option.{slice_get-get_or, slice_get_past}
use Rattle.dap_messages.specs.Telling.{no_such_name}
use Rattle.jdwp_values.specs.Tags.{tag_of}
use Rattle.jdwp_values.specs.declared.id.ClassId.{ClassId}
use Rattle.jdwp_values.specs.declared.tag.Tag.{Tag}
use Rattle.jdwp_values.specs.declared.value.Value.{Value}
use Rattle.jdwp_values.specs.declared.value.Value.TheVariants as values
use Rattle.machine_model.specs.Children.{Child, Place, first_byte, locals_plan, object_fields, of_index, visible_plan}
use Rattle.machine_model.specs.Children.{with_this}
use Rattle.machine_model.specs.Plans.{chained, gives, of_world}
use Rattle.machine_model.specs.Values.{by_id, declared_plan, length_plan}
use Rattle.machine_model.specs.Writing.{Writing, child_named, child_written, element_by, element_store}
use Rattle.machine_model.specs.Writing.{element_written, field_store, field_written, index_written, is_index_name}
use Rattle.machine_model.specs.Writing.{is_this, object_size, slot_store, sought_in, value_failure, value_for, value_or}
use Rattle.machine_model.specs.Writing.{write_by, write_with}
use Rattle.machine_model.specs.declared.parts.Finding.TheVariants as found
use Rattle.machine_model.specs.declared.parts.Store.{Store}
use Rattle.shown_worlds.specs.ChildRows as children
use Rattle.shown_worlds.specs.FieldRows as rows
use Rattle.shown_worlds.specs.Laws.{IsLive, ShowsWrites}
use Rattle.shown_worlds.specs.WriteRows as shown
use Rattle.shown_worlds.proofs.ChildLaws.{heard, locals_same, locals_there, read_local, row_of, scope_same, visible_there}
use Rattle.shown_worlds.proofs.FactLaws.{object}
use Rattle.shown_worlds.proofs.FieldLaws.{children_same, children_there, heard_children, read_field}
use Rattle.shown_worlds.proofs.PlanLemmas.{living, map_alike, said_chained, said_made}
use Rattle.shown_worlds.proofs.ValueLaws.{declared_there, length_there, signature_at, type_same}
use Rattle.stop_refs.specs.declared.thing.FrameThing.{FrameThing}
use Rattle.stop_refs.specs.declared.thing.Thing.{Thing}
use Rattle.stop_refs.specs.declared.thing.Thing.TheVariants as things
use Rattle.value_views.specs.Reads.{write_value}
use Rattle.value_views.specs.Texts.{value_text}
use Rattle.value_views.specs.declared.fault.WriteFault.{WriteFault}
use Rattle.value_views.specs.declared.fault.WriteFault.TheVariants.{BadText}
use Rattle.value_views.specs.declared.known.Known.TheVariants.{Plain}
use Rattle.world_model.specs.Objects.{array_in, class_of, reference_in}
use Rattle.world_model.specs.Replies.{living_reply}
use Rattle.world_model.specs.Sound.{IsSound}
use Rattle.world_model.specs.Storing.{referred}
use Rattle.world_model.specs.declared.rows.WorldArray.{WorldArray}
use Rattle.world_model.specs.declared.rows.WorldFrame.{WorldFrame}
use Rattle.world_model.specs.declared.world.World.{World}

-- as it is asked for
abbrev wish_of : Writing → shown.Wish
wish_of writing = record { types = writing.types; size = writing.size; text = writing.text }

-- Values --------------------------------------------------------------------------------------------------------------

bad_same : (tag : Option Tag) → value_failure tag BadText ≡ shown.why_bad tag
bad_same None = refl
bad_same (Some tag) = refl

put_same : (writing : Writing) (store : Option Store) (declared : List ℕ) (value : Result Value WriteFault)
    → write_with writing store declared (value_or (tag_of (first_byte declared)) value)
    ≡ shown.put_to (wish_of writing) store declared value
put_same writing None declared (Ok value) = refl
put_same writing (Some store) declared (Ok value) =
    ap (λ kind. found.Write (record { store = store; value = value; size = writing.size })
    (record { text = value_text value Plain; kind = kind; indexed = None; thing = None }))
    (type_same writing.types declared)
put_same writing None declared (Err BadText) = ap found.NoValue (bad_same (tag_of (first_byte declared)))
put_same writing (Some store) declared (Err BadText) = ap found.NoValue (bad_same (tag_of (first_byte declared)))
put_same writing None declared (Err _) = refl
put_same writing (Some store) declared (Err _) = refl

bytes_same : (signature : List ℕ) → first_byte signature ≡ children.kind_byte signature
bytes_same [] = refl
bytes_same (byte ∷ bytes) = refl

write_same : (writing : Writing) (store : Option Store) (declared : List ℕ)
    → write_with writing store declared (value_for declared writing.text)
    ≡ shown.written_to (wish_of writing) store declared
write_same writing store declared =
    put_same writing store declared (write_value (first_byte declared) writing.text)
    ∙ ap (λ byte. shown.put_to (wish_of writing) store declared (write_value byte writing.text)) (bytes_same declared)

-- Children ------------------------------------------------------------------------------------------------------------

child_there : (w : World) (writing : Writing) (read : Place → Option Value) (store : Place → Option Store)
    (child : Option Child)
    → of_world (living_reply w) (child_written writing store child)
    ≡ shown.child_written (wish_of writing) (option_map (row_of w read store) child)
unfolding of_world
child_there w writing read store None = refl
child_there w writing read store (Some child) =
    said_made (living_reply w)
    (λ declared. write_with writing (store child.place) declared (value_for declared writing.text))
    (declared_plan child.declared)
    ∙ ap (option_map (λ declared. write_with writing (store child.place) declared (value_for declared writing.text)))
    (declared_there w child.declared)
    ∙ map_alike (λ declared. write_with writing (store child.place) declared (value_for declared writing.text))
    (shown.written_to (wish_of writing) (store child.place)) (write_same writing (store child.place))
    (signature_at w child.declared)

found_row : (row : Child → children.Child) (name : List ℕ) (list : List Child)
    → ((child : Child) → (row child).name ≡ child.name)
    → option_map row (child_named name list) ≡ find (λ (c : children.Child). bytes_eq c.name name) (map row list)
found_row row name [] same = refl
found_row row name (child ∷ others) same =
    by_test (bytes_eq child.name name) (bytes_eq (row child).name name) (ap (λ n. bytes_eq n name) (sym (same child)))
    (found_row row name others same)
  where
    by_test : (a b : Bool) → a ≡ b
        → option_map row (child_named name others) ≡ find (λ (c : children.Child). bytes_eq c.name name)
        (map row others)
        → option_map row (cond a (Some child) (child_named name others))
        ≡ cond b (Some (row child)) (find (λ (c : children.Child). bytes_eq c.name name) (map row others))
    by_test true true is rest = refl
    by_test false false is rest = rest
    by_test true false is rest = cc
    by_test false true is rest = cc

named_there : (w : World) (writing : Writing) (read : Place → Option Value) (store : Place → Option Store)
    (name : List ℕ) (list : List Child)
    → of_world (living_reply w) (child_written writing store (child_named name list))
    ≡ shown.name_written (wish_of writing) name (map (row_of w read store) list)
named_there w writing read store name list =
    child_there w writing read store (child_named name list)
    ∙ ap (shown.child_written (wish_of writing)) (found_row (row_of w read store) name list (λ child. refl))

-- Containers ----------------------------------------------------------------------------------------------------------

local_there : (w : World) (writing : Writing) (frame : FrameThing) (name : List ℕ) (this : Bool)
    → of_world (living_reply w) (chained (sought_in frame this)
    (λ list. child_written writing (slot_store frame) (child_named name list)))
    ≡ option_and_then (shown.name_written (wish_of writing) name) (shown.sought w frame this)
local_there w writing frame name false =
    let slots = shown.slots_in (children.frame_row w frame) in
    said_chained (living_reply w) (visible_plan frame)
    (λ list. child_written writing (slot_store frame) (child_named name list))
    ∙ ap (option_and_then (λ (list : List Child). of_world (living_reply w)
    (child_written writing (slot_store frame) (child_named name list)))) (visible_there w frame)
    ∙ named_there w writing (read_local slots) (slot_store frame) name (heard w frame)
    ∙ ap (shown.name_written (wish_of writing) name) (scope_same w frame slots)
local_there w writing frame name true =
    said_chained (living_reply w) (locals_plan frame)
    (λ list. child_written writing (slot_store frame) (child_named name list))
    ∙ ap (option_and_then (λ (list : List Child). of_world (living_reply w)
    (child_written writing (slot_store frame) (child_named name list)))) (locals_there w frame)
    ∙ by_row (children.frame_row w frame)
  where
    by_this : (row : WorldFrame) (this : Option Value)
        → option_and_then (λ (list : List Child). of_world (living_reply w)
        (child_written writing (slot_store frame) (child_named name list)))
        (option_map (λ this. with_this (this, heard w frame)) this)
        ≡ option_and_then (shown.name_written (wish_of writing) name) (option_map (λ this.
        children.receiver_if this (referred this) ++ map (children.variable_in frame row.slots)
        (children.scope_of w frame))
        this)
    by_this row None = refl
    by_this row (Some this) =
        named_there w writing (read_local row.slots) (slot_store frame) name (with_this (this, heard w frame))
        ∙ ap (shown.name_written (wish_of writing) name) (locals_same w frame row.slots this)

    by_row : (there : Option WorldFrame)
        → option_and_then (λ (list : List Child). of_world (living_reply w)
        (child_written writing (slot_store frame) (child_named name list)))
        (option_map (λ this. with_this (this, heard w frame))
        (option_and_then (λ (row : WorldFrame). reference_in w row.this) there))
        ≡ option_and_then (shown.name_written (wish_of writing) name)
        (option_and_then (children.locals_in w frame) there)
    by_row None = refl
    by_row (Some row) = by_this row (reference_in w row.this)

field_there : (w : World) (writing : Writing) (name : List ℕ) (n : ℕ) (live : IsLive w)
    → of_world (living_reply w) (field_written writing name n)
    ≡ option_and_then (shown.name_written (wish_of writing) name) (children.fields w (object n))
field_there w writing name n live =
    said_chained (living_reply w) (object_fields n)
    (λ list. child_written writing (field_store n) (child_named name list))
    ∙ ap (option_and_then (λ (list : List Child). of_world (living_reply w)
    (child_written writing (field_store n) (child_named name list)))) (children_there w live n)
    ∙ by_class (class_of w (object n))
  where
    by_class : (class : Option ClassId)
        → option_and_then (λ (list : List Child). of_world (living_reply w)
        (child_written writing (field_store n) (child_named name list))) (option_map (heard_children w live) class)
        ≡ option_and_then (shown.name_written (wish_of writing) name)
        (option_map (λ c. children.fields_in w (object n) [] (rows.object_fields w c)) class)
    by_class None = refl
    by_class (Some class) =
        named_there w writing (read_field w n) (field_store n) name (heard_children w live class)
        ∙ ap (shown.name_written (wish_of writing) name) (children_same w live n class)

element_by_name : (w : World) (writing : Writing) (name : List ℕ) (n i : ℕ) (value : Value) (is : Bool)
    → of_world (living_reply w) (element_by writing true is (suc n) i)
    ≡ (if is then shown.child_written (wish_of writing) (Some (children.element_in w (object (suc n)) i value))
    else Some (found.NoValue no_such_name))
unfolding of_world
element_by_name w writing name n i value true =
    child_there w writing (λ place. Some value) (element_store (suc n)) (Some (of_index (suc n) i))
element_by_name w writing name n i value false = refl

element_there : (w : World) (writing : Writing) (name : List ℕ) (n i : ℕ) (items : List Value) (within : Bool)
    → nat_lt i (length items) ≡ within
    → of_world (living_reply w)
    (element_by writing within (bytes_eq name (children.element_name i)) (suc n) i)
    ≡ shown.element_written w (wish_of writing) name (object (suc n)) i (slice_get items i)
unfolding of_world
element_there w writing name n i items false within =
    ap (shown.element_written w (wish_of writing) name (object (suc n)) i)
    (sym (slice_get_past items i (ltb-false i (length items) within)))
element_there w writing name n i items true within =
    element_by_name w writing name n i (get_or items i values.Void) (bytes_eq name (children.element_name i))
    ∙ ap (shown.element_written w (wish_of writing) name (object (suc n)) i)
    (sym (slice_get-get_or items i values.Void (ltb-true i (length items) within)))

elements_there : (w : World) (writing : Writing) (name : List ℕ) (n i : ℕ) → IsSound w
    → of_world (living_reply w) (element_written writing name i (suc n))
    ≡ shown.index_written w (wish_of writing) name (object (suc n)) i
elements_there w writing name n i sound =
    said_chained (living_reply w) (length_plan (suc n))
    (λ total. element_by writing (nat_lt i total) (bytes_eq name (children.element_name i)) (suc n) i)
    ∙ ap (option_and_then (λ total. of_world (living_reply w)
    (element_by writing (nat_lt i total) (bytes_eq name (children.element_name i)) (suc n) i)))
    (length_there w (suc n) sound)
    ∙ by_array (array_in w (object (suc n)))
  where
    by_array : (there : Option WorldArray)
        → option_and_then (λ total. of_world (living_reply w)
        (element_by writing (nat_lt i total) (bytes_eq name (children.element_name i)) (suc n) i))
        (option_map (λ (row : WorldArray). length row.values) there)
        ≡ option_and_then (λ (row : WorldArray).
        shown.element_written w (wish_of writing) name (object (suc n)) i (slice_get row.values i)) there
    by_array None = refl
    by_array (Some row) = element_there w writing name n i row.values (nat_lt i (length row.values)) refl

index_there : (w : World) (writing : Writing) (name : List ℕ) (n : ℕ) (is : Bool) → IsSound w
    → of_world (living_reply w) (index_written writing name is (suc n))
    ≡ (if is then shown.index_written w (wish_of writing) name (object (suc n)) (digits_value 10 (shown.inside name))
    else Some (found.NoValue no_such_name))
unfolding of_world
index_there w writing name n false sound = refl
index_there w writing name n true sound =
    elements_there w writing name n (digits_value 10 (shown.inside name)) sound

in_object : (w : World) (writing : Writing) (name : List ℕ) (n : ℕ) → IsLive w
    → of_world (living_reply w) (by_id n (gives (found.NoValue no_such_name)) (field_written writing name))
    ≡ shown.unless_null (object n) (option_and_then (shown.name_written (wish_of writing) name)
    (children.fields w (object n)))
unfolding of_world
in_object w writing name zero live = refl
in_object w writing name (suc n) live = field_there w writing name (suc n) live

in_array : (w : World) (writing : Writing) (name : List ℕ) (n : ℕ) → IsLive w
    → of_world (living_reply w)
    (by_id n (gives (found.NoValue no_such_name)) (index_written writing name (is_index_name name)))
    ≡ shown.unless_null (object n) (shown.array_written w (wish_of writing) name (object n))
unfolding of_world
in_array w writing name zero live = refl
in_array w writing name (suc n) live = index_there w writing name n (is_index_name name) live.sound

write_there : (w : World) (writing : Writing) (thing : Thing) (name : List ℕ) → IsLive w
    → of_world (living_reply w) (write_by writing thing name) ≡ shown.world_write w (wish_of writing) thing name
unfolding of_world
write_there w writing (things.Frame frame) name live = refl
write_there w writing (things.Locals frame) name live = local_there w writing frame name (is_this name)
write_there w writing (things.Object id) name live = in_object w writing name id.0 live
write_there w writing (things.Array id) name live = in_array w writing name id.0 live

pub shows_writes : ShowsWrites
shows_writes w state thing name text live =
    let writing : Writing
    = record { types = state.options.shows_types; size = object_size state.sizes; text = text } in
    living w (write_by writing thing name) live.alive ∙ write_there w writing thing name live
