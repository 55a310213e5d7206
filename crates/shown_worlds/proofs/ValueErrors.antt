-- With which errors a world refuses to say something of objects, frames and values.
use Rattle.std.proofs.Common.{◌≡◌, ◌∷◌, ℕ, zero, suc, Bool, true, false, List, [], Option, Some, None, refl, sym, ap, ◌∙◌}
use Rattle.std.proofs.Common.{⊎_elim}
use Rattle.std.specs.Prelude.{◌==◌, ◌&&◌, if◌then◌else◌, is_some, length, nat_lt, not, ok_or, option_map, pos, Ok}
use Rattle.std.specs.Prelude.{Err, ◌^◌}
use Rattle.std.specs.Option.{option_map_or, option_or}
use Rattle.jdwp_commands.specs.declared.answer.Answer.TheVariants as answers
use Rattle.jdwp_commands.specs.declared.listed.Slot.{Slot}
use Rattle.jdwp_commands.specs.declared.question.Question.TheVariants as questions
use Rattle.jdwp_values.specs.declared.id.FieldId.{FieldId}
use Rattle.jdwp_values.specs.declared.id.ObjectId.{ObjectId}
use Rattle.jdwp_values.specs.declared.tag.TypeTag.{TypeTag}
use Rattle.jdwp_values.specs.declared.id.ClassId.{ClassId}
use Rattle.jdwp_values.specs.declared.value.Value.{Value}
use Rattle.jdwp_values.specs.declared.value.Value.TheVariants as values
use Rattle.machine_model.specs.Children.{this_in, this_plan}
use Rattle.machine_model.specs.Frames.{signature_plan}
use Rattle.machine_model.specs.Facts.{signature_in}
use Rattle.machine_model.specs.Plans.{Plan, both}
use Rattle.machine_model.specs.Values.{Declared, Valued, array_plan, array_seen, behind_bracket, by_id, childless, class_in}
use Rattle.machine_model.specs.Values.{class_plan, declared_plan, element_of, is_signature, length_in, length_plan}
use Rattle.machine_model.specs.Values.{null_plan, object_plan, object_seen, seen_plan, string_plan, string_seen, text_in}
use Rattle.machine_model.specs.Values.{text_plan, type_if, type_plan, typed}
use Rattle.machine_model.specs.Variables.{elements_plan, field_values, slots_plan, values_in}
use Rattle.shown_worlds.specs.ChildRows.{frame_row}
use Rattle.shown_worlds.specs.FailureRows.{why_no_frames, why_no_object, why_no_receiver, why_not_shown}
use Rattle.shown_worlds.specs.Facts.{if_null}
use Rattle.shown_worlds.proofs.FactLaws.{class_there, object}
use Rattle.shown_worlds.proofs.FailureLaws.{counted_error, found_error, told_error}
use Rattle.shown_worlds.proofs.PlanErrors.{Errs, errs_both, errs_chained, errs_fact, errs_made, errs_must, errs_none}
use Rattle.stop_refs.specs.declared.thing.FrameThing.{FrameThing}
use Rattle.value_views.specs.Texts.{value_text}
use Rattle.value_views.specs.declared.known.Known.TheVariants as knowns
use Rattle.world_model.specs.Classes.{and_then}
use Rattle.world_model.specs.Codes.{invalid_object, invalid_thread, not_implemented}
use Rattle.world_model.specs.Kinds.{reference_of}
use Rattle.world_model.specs.Objects.{array_in, class_of, elements_in, elements_from, field_value, fields_of_object}
use Rattle.world_model.specs.Objects.{is_there, is_thread, kind_of_array, object_fault, object_in, reference_in, region_of}
use Rattle.world_model.specs.Objects.{string_in, tag_of_type, type_in}
use Rattle.world_model.specs.Objects as objects
use Rattle.world_model.specs.Replies.{living_reply}
use Rattle.world_model.specs.Scans.{all_of}
use Rattle.world_model.specs.Threads.{counted, frame_in, is_alive, slot_value, slots_in}
use Rattle.world_model.specs.declared.rows.WorldArray.{WorldArray}
use Rattle.world_model.specs.declared.rows.WorldFrame.{WorldFrame}
use Rattle.world_model.specs.declared.rows.WorldObject.{WorldObject}
use Rattle.world_model.specs.declared.rows.WorldString.{WorldString}
use Rattle.world_model.specs.declared.world.World.{World}

-- Objects that are there ----------------------------------------------------------------------------------------------

-- an object that has a class is there
pub there_same : (w : World) (id : ObjectId) → is_there w id ≡ is_some (class_of w id)
there_same w id = by_rows (object_in w id) (array_in w id) (string_in w id) (is_thread w id)
  where
    by_rows : (o : Option WorldObject) (a : Option WorldArray) (s : Option WorldString) (t : Bool)
        → is_some (option_or (option_map (λ (row : WorldObject). reference_of row.tag id) o)
        (option_or (option_map (λ (row : WorldArray). values.Array id) a)
        (option_or (option_map (λ (row : WorldString). values.String id) s) (if t then Some (values.Thread id)
        else None))))
        ≡ is_some (option_or (option_map (λ (row : WorldObject). row.class) o)
        (option_or (option_map (λ (row : WorldArray). row.class) a)
        (option_or (option_map (λ (row : WorldString). row.class) s) (if t then Some (record { 0 = 0 }) else None))))
    by_rows (Some o) a s t = refl
    by_rows None (Some a) s t = refl
    by_rows None None (Some s) t = refl
    by_rows None None None true = refl
    by_rows None None None false = refl

pub why_gone : (w : World) (id : ObjectId) → class_of w id ≡ None → why_no_object w id ≡ invalid_object
why_gone w id gone =
    ap (λ b. if b then not_implemented else invalid_object) (there_same w id ∙ ap (λ o. is_some o) gone)

pub why_there : (w : World) (id : ObjectId) (class : ClassId) → class_of w id ≡ Some class
    → why_no_object w id ≡ not_implemented
why_there w id class is =
    ap (λ b. if b then not_implemented else invalid_object) (there_same w id ∙ ap (λ o. is_some o) is)

why_row : (w : World) (id : ObjectId) (row : WorldObject) → object_in w id ≡ Some row
    → why_no_object w id ≡ not_implemented
why_row w id row is =
    ap (λ (o : Option WorldObject). if is_some (option_or (option_map (λ (r : WorldObject). reference_of r.tag id) o)
    (option_or (option_map (λ (r : WorldArray). values.Array id) (array_in w id))
    (option_or (option_map (λ (r : WorldString). values.String id) (string_in w id)) (if is_thread w id
    then Some (values.Thread id) else None)))) then not_implemented else invalid_object) is

pub why_array : (w : World) (id : ObjectId) (row : WorldArray) → array_in w id ≡ Some row
    → why_no_object w id ≡ not_implemented
why_array w id row is = ap (λ b. if b then not_implemented else invalid_object)
    (ap (λ (a : Option WorldArray). is_some (option_or
    (option_map (λ (r : WorldObject). reference_of r.tag id) (object_in w id))
    (option_or (option_map (λ (r : WorldArray). values.Array id) a)
    (option_or (option_map (λ (r : WorldString). values.String id) (string_in w id)) (if is_thread w id
    then Some (values.Thread id) else None))))) is ∙ by_row (object_in w id))
  where
    by_row : (o : Option WorldObject)
        → is_some (option_or (option_map (λ (r : WorldObject). reference_of r.tag id) o) (option_or (Some
        (values.Array id)) (option_or (option_map (λ (r : WorldString). values.String id) (string_in w id))
        (if is_thread w id then Some (values.Thread id) else None)))) ≡ true
    by_row None = refl
    by_row (Some o) = refl

-- Objects -------------------------------------------------------------------------------------------------------------

gone_error : {A : Type 0} (o : Option A) (c : ℕ) → ok_or o invalid_object ≡ Err c → c ≡ invalid_object
gone_error None c is = cc
gone_error (Some a) c is = cc

-- the class of an object
pub class_errs : (w : World) (n code : ℕ) → Errs (living_reply w) code (class_plan n) → code ≡ invalid_object
class_errs w n code h =
    told_error (λ (t : TypeTag × ClassId). answers.ObjectType t.0 t.1) (type_in w (object n)) code invalid_object
    (gone_error (option_map (λ class. (tag_of_type w class, class)) (class_of w (object n))))
    (sym (errs_must (living_reply w) code class_in (questions.ObjectType (object n)) h))

pub class_gone : (w : World) (n code : ℕ) → Errs (living_reply w) code (class_plan n) → class_of w (object n) ≡ None
class_gone w n code h = sym (class_there w n) ∙ errs_none (living_reply w) code (class_plan n) h

pub class_why : (w : World) (n code : ℕ) → Errs (living_reply w) code (class_plan n) → code ≡ why_no_object w (object n)
class_why w n code h = class_errs w n code h ∙ sym (why_gone w (object n) (class_gone w n code h))

pub type_class : (w : World) (n code : ℕ) → Errs (living_reply w) code (type_plan n)
    → Errs (living_reply w) code (class_plan n)
type_class w n code h =
    ⊎_elim (λ here. here)
    (λ more. absurd (errs_fact (living_reply w) code signature_in (questions.Signature more.0) more.2))
    (errs_chained (living_reply w) code (class_plan n) signature_plan h)

-- the length of an array
pub length_errs : (w : World) (n code : ℕ) → Errs (living_reply w) code (length_plan n)
    → code ≡ why_no_object w (object n)
length_errs w n code h =
    told_error answers.ArrayLength (objects.length_in w (object n)) code (why_no_object w (object n))
    (by_array (array_in w (object n)) refl)
    (sym (errs_must (living_reply w) code length_in (questions.ArrayLength (object n)) h))
  where
    by_array : (there : Option WorldArray) → array_in w (object n) ≡ there → (c : ℕ)
        → and_then (λ (row : WorldArray). counted (length row.values)) (ok_or there (object_fault w (object n)))
        ≡ Err c → c ≡ why_no_object w (object n)
    by_array None is c said = let same : object_fault w (object n) ≡ c = cc in sym same
    by_array (Some row) is c said =
        counted_error (length row.values) (nat_lt (length row.values) (2 ^ 31)) c said
        ∙ sym (why_array w (object n) row is)

-- the text of a string
text_errs : (w : World) (n code : ℕ) → Errs (living_reply w) code (text_plan n) → code ≡ why_no_object w (object n)
text_errs w n code h =
    told_error answers.StringValue (objects.text_in w (object n)) code (why_no_object w (object n))
    (by_string (string_in w (object n)))
    (sym (errs_must (living_reply w) code text_in (questions.StringValue (object n)) h))
  where
    by_string : (there : Option WorldString) (c : ℕ)
        → ok_or (option_map (λ (row : WorldString). row.text) there) (object_fault w (object n)) ≡ Err c
        → c ≡ why_no_object w (object n)
    by_string None c said = let same : object_fault w (object n) ≡ c = cc in sym same
    by_string (Some row) c said = cc

-- the fields of an object
pub fields_errs : (w : World) (n code : ℕ) (fields : List FieldId)
    → Errs (living_reply w) code (field_values n fields) → code ≡ why_no_object w (object n)
fields_errs w n code [] h = absurd h
fields_errs w n code (field ∷ fields) h =
    told_error answers.GetFields (fields_of_object w (object n) (field ∷ fields)) code (why_no_object w (object n))
    (by_object (object_in w (object n)) refl)
    (sym (errs_must (living_reply w) code values_in (questions.GetFields (object n) (field ∷ fields)) h))
  where
    by_object : (there : Option WorldObject) → object_in w (object n) ≡ there → (c : ℕ)
        → and_then (λ (o : WorldObject). ok_or (all_of (field_value w o) (field ∷ fields)) not_implemented)
        (ok_or there (object_fault w (object n))) ≡ Err c → c ≡ why_no_object w (object n)
    by_object None is c said = let same : object_fault w (object n) ≡ c = cc in sym same
    by_object (Some row) is c said =
        found_error (all_of (field_value w row) (field ∷ fields)) c said ∙ sym (why_row w (object n) row is)

-- the elements of an array
pub elements_errs : (w : World) (n start count code : ℕ)
    → Errs (living_reply w) code (elements_plan n start count) → code ≡ why_no_object w (object n)
elements_errs w n start zero code h = absurd h
elements_errs w n start (suc count) code h =
    told_error answers.GetElements (elements_in w (object n) (pos start) (pos (suc count))) code
    (why_no_object w (object n)) (by_array (array_in w (object n)) refl)
    (sym (errs_must (living_reply w) code values_in
    (questions.GetElements (object n) (pos start) (pos (suc count))) h))
  where
    by_array : (there : Option WorldArray) → array_in w (object n) ≡ there → (c : ℕ)
        → and_then (λ (row : WorldArray). ok_or (region_of (kind_of_array w row)
        (elements_from row.values (pos start) (pos (suc count)))) not_implemented)
        (ok_or there (object_fault w (object n))) ≡ Err c → c ≡ why_no_object w (object n)
    by_array None is c said = let same : object_fault w (object n) ≡ c = cc in sym same
    by_array (Some row) is c said =
        found_error (region_of (kind_of_array w row) (elements_from row.values (pos start) (pos (suc count)))) c said
        ∙ sym (why_array w (object n) row is)

-- Frames --------------------------------------------------------------------------------------------------------------

-- the values in slots
pub slots_errs : (w : World) (frame : FrameThing) (code : ℕ) (slots : List Slot)
    → Errs (living_reply w) code (slots_plan frame slots) → code ≡ why_no_frames w frame.thread
slots_errs w frame code [] h = absurd h
slots_errs w frame code (slot ∷ slots) h =
    told_error answers.GetSlots (slots_in w frame.thread frame.frame (slot ∷ slots)) code
    (why_no_frames w frame.thread)
    (by_may (is_alive w frame.thread) (w.count == 0) (frame_in w frame.thread frame.frame))
    (sym (errs_must (living_reply w) code values_in
    (questions.GetSlots frame.thread frame.frame (slot ∷ slots)) h))
  where
    by_may : (alive runs : Bool) (found : Option WorldFrame) (c : ℕ)
        → and_then (λ (row : WorldFrame). ok_or (all_of (slot_value row.slots) (slot ∷ slots)) not_implemented)
        (and_then (λ (u : Unit {0}). ok_or found not_implemented)
        (if alive then if runs then Err not_implemented else Ok tt else Err invalid_thread)) ≡ Err c
        → c ≡ (if alive then not_implemented else invalid_thread)
    by_may true true found c said = cc
    by_may true false None c said = cc
    by_may true false (Some row) c said = found_error (all_of (slot_value row.slots) (slot ∷ slots)) c said
    by_may false runs found c said = cc

-- the receiver
pub this_errs : (w : World) (frame : FrameThing) (code : ℕ) → Errs (living_reply w) code (this_plan frame)
    → code ≡ why_no_receiver w frame
this_errs w frame code h =
    told_error answers.ThisObject (objects.this_in w frame.thread frame.frame) code (why_no_receiver w frame)
    (by_may (is_alive w frame.thread) (w.count == 0) (frame_in w frame.thread frame.frame))
    (sym (errs_must (living_reply w) code this_in (questions.ThisObject frame.thread frame.frame) h))
  where
    by_may : (alive runs : Bool) (found : Option WorldFrame) (c : ℕ)
        → and_then (λ (row : WorldFrame). ok_or (reference_in w row.this) invalid_object)
        (and_then (λ (u : Unit {0}). ok_or found not_implemented)
        (if alive then if runs then Err not_implemented else Ok tt else Err invalid_thread)) ≡ Err c
        → c ≡ option_map_or (λ row. invalid_object) (if alive && not runs then found else None)
        (if alive then not_implemented else invalid_thread)
    by_may true true found c said = cc
    by_may true false None c said = cc
    by_may true false (Some row) c said = gone_error (reference_in w row.this) c said
    by_may false true found c said = cc
    by_may false false found c said = cc

-- a frame that is there is one of a thread that lives
pub frame_why : (w : World) (frame : FrameThing) (row : WorldFrame) → frame_row w frame ≡ Some row
    → why_no_frames w frame.thread ≡ not_implemented
frame_why w frame row is = by_may (is_alive w frame.thread) (w.count == 0) (frame_in w frame.thread frame.frame) is
  where
    by_may : (alive runs : Bool) (found : Option WorldFrame) → (if alive && not runs then found else None) ≡ Some row
        → (if alive then not_implemented else invalid_thread) ≡ not_implemented
    by_may true runs found is = refl
    by_may false true found is = cc
    by_may false false found is = cc

-- Values --------------------------------------------------------------------------------------------------------------

-- the signature of a place
pub declared_errs : (w : World) (code : ℕ) (declared : Declared) → Errs (living_reply w) code (declared_plan declared)
    → code ≡ invalid_object
declared_errs w code (is_signature signature) h = absurd h
declared_errs w code (element_of zero) h = absurd h
declared_errs w code (element_of (suc id)) h =
    class_errs w (suc id) code (type_class w (suc id) code
    (errs_made (living_reply w) code behind_bracket (type_plan (suc id)) h))

typed_errs : (w : World) (types : Bool) (code : ℕ) (p : Plan (List ℕ)) → Errs (living_reply w) code (typed types p)
    → Errs (living_reply w) code p
typed_errs w false code p h = absurd h
typed_errs w true code p h = errs_made (living_reply w) code (type_if true) p h

null_errs : (w : World) (types : Bool) (v : Valued) (code : ℕ) → Errs (living_reply w) code (null_plan types v)
    → code ≡ invalid_object
null_errs w types v code h =
    declared_errs w code v.declared (typed_errs w types code (declared_plan v.declared)
    (errs_made (living_reply w) code (childless (value_text v.value knowns.Plain)) (typed types (declared_plan v.declared))
    h))

abbrev at : Value → Declared → Valued
at value declared = record { value = value; declared = declared }

-- what is asked of a value that isn't null is refused so
by_errs : (w : World) (types : Bool) (value : Value) (d : Declared) (n code : ℕ) (other : ℕ → Plan _)
    → ((m : ℕ) → Errs (living_reply w) code (other (suc m)) → code ≡ why_no_object w (object (suc m)))
    → Errs (living_reply w) code (by_id n (null_plan types (at value d)) other)
    → code ≡ if_null n invalid_object (why_no_object w (object n))
by_errs w types value d zero code other so h = null_errs w types (at value d) code h
by_errs w types value d (suc n) code other so h = so n h

object_errs : (w : World) (types : Bool) (value : Value) (n code : ℕ)
    → Errs (living_reply w) code (object_plan types value n) → code ≡ why_no_object w (object n)
object_errs w types value n code h =
    class_why w n code (type_class w n code
    (errs_made (living_reply w) code (object_seen types value n) (type_plan n) h))

array_errs : (w : World) (types : Bool) (value : Value) (n code : ℕ)
    → Errs (living_reply w) code (array_plan types value n) → code ≡ why_no_object w (object n)
array_errs w types value n code h =
    ⊎_elim (λ one. class_why w n code (type_class w n code one)) (λ other. length_errs w n code other)
    (errs_both (living_reply w) code (type_plan n) (length_plan n)
    (errs_made (living_reply w) code (array_seen types value n) (both (type_plan n) (length_plan n)) h))

string_errs : (w : World) (types : Bool) (value : Value) (n code : ℕ)
    → Errs (living_reply w) code (string_plan types value n) → code ≡ why_no_object w (object n)
string_errs w types value n code h =
    ⊎_elim (λ one. text_errs w n code one)
    (λ other. class_why w n code (type_class w n code (typed_errs w types code (type_plan n) other)))
    (errs_both (living_reply w) code (text_plan n) (typed types (type_plan n))
    (errs_made (living_reply w) code (string_seen value) (both (text_plan n) (typed types (type_plan n))) h))

seen_at : (w : World) (types : Bool) (value : Value) (d : Declared) (code : ℕ)
    → Errs (living_reply w) code (seen_plan types (at value d)) → code ≡ why_not_shown w value
seen_at w types (values.Object o) d code h = by_errs w types (values.Object o) d o.0 code
    (object_plan types (values.Object o)) (λ m. object_errs w types (values.Object o) (suc m) code) h
seen_at w types (values.Thread o) d code h = by_errs w types (values.Thread o) d o.0 code
    (object_plan types (values.Thread o)) (λ m. object_errs w types (values.Thread o) (suc m) code) h
seen_at w types (values.ThreadGroup o) d code h = by_errs w types (values.ThreadGroup o) d o.0 code
    (object_plan types (values.ThreadGroup o)) (λ m. object_errs w types (values.ThreadGroup o) (suc m) code) h
seen_at w types (values.ClassLoader o) d code h = by_errs w types (values.ClassLoader o) d o.0 code
    (object_plan types (values.ClassLoader o)) (λ m. object_errs w types (values.ClassLoader o) (suc m) code) h
seen_at w types (values.ClassObject o) d code h = by_errs w types (values.ClassObject o) d o.0 code
    (object_plan types (values.ClassObject o)) (λ m. object_errs w types (values.ClassObject o) (suc m) code) h
seen_at w types (values.Array o) d code h = by_errs w types (values.Array o) d o.0 code
    (array_plan types (values.Array o)) (λ m. array_errs w types (values.Array o) (suc m) code) h
seen_at w types (values.String o) d code h = by_errs w types (values.String o) d o.0 code
    (string_plan types (values.String o)) (λ m. string_errs w types (values.String o) (suc m) code) h
seen_at w types _ d code h = absurd h

-- a value is refused by what it refers to
pub seen_errs : (w : World) (types : Bool) (v : Valued) (code : ℕ)
    → Errs (living_reply w) code (seen_plan types v) → code ≡ why_not_shown w v.value
seen_errs w types v code h = seen_at w types v.value v.declared code h
