-- How values are shown.
use Rattle.std.proofs.Common.{◌≡◌, ◌<◌, ◌^◌, ◌∷◌, ℕ, zero, suc, Bool, true, false, List, [], refl, ap, ◌∙◌, arith}
use Rattle.std.proofs.Common.{length}
use Rattle.std.specs.Prelude.{chars, codes, ◌==◌, if◌then◌else◌, Option, Some, None, option_and_then, option_map}
use Rattle.std.specs.Prelude.{ok_or, Result, Ok, Err}
use Rattle.std.specs.Result.{result_ok}
use Rattle.std.proofs.lemmas.Bool.{lt-ltb, ne_eqb}
use Rattle.jdwp_commands.specs.declared.answer.Answer.TheVariants as answers
use Rattle.jdwp_values.specs.Lossy.{lossy}
use Rattle.jdwp_values.specs.declared.value.Value.{Value}
use Rattle.jdwp_values.specs.declared.value.Value.TheVariants as values
use Rattle.machine_model.specs.Plans.{Plan, both, of_world, two_of}
use Rattle.machine_model.specs.Values.{Declared, Valued, array_plan, array_seen, by_id, childless, declared_plan}
use Rattle.machine_model.specs.Values.{element_of, element_plan, is_signature, length_in, length_plan, null_plan}
use Rattle.machine_model.specs.Values.{object_plan, object_seen, primitive_seen, seen_plan, string_plan, string_seen}
use Rattle.machine_model.specs.Values.{text_in, text_plan, type_if, type_plan, typed}
use Rattle.machine_model.specs.Values.{behind_bracket as behind}
use Rattle.shown_worlds.specs.ChildRows.{behind_bracket, element_signature}
use Rattle.shown_worlds.specs.Facts.{if_null, type_of}
use Rattle.shown_worlds.specs.ValueRows as shown
use Rattle.shown_worlds.specs.ValueRows.{Placed}
use Rattle.shown_worlds.proofs.FactLaws.{object, type_there}
use Rattle.shown_worlds.proofs.PlanLemmas.{map_alike, must_said, said_both, said_made}
use Rattle.shown_worlds.proofs.RowLemmas.{found_all}
use Rattle.stop_refs.specs.declared.thing.Thing.TheVariants as things
use Rattle.value_views.specs.Names.{class_name}
use Rattle.value_views.specs.Quotes.{quote}
use Rattle.value_views.specs.Texts.{known_text, reference_text, value_text}
use Rattle.value_views.specs.declared.known.Known.{Known}
use Rattle.value_views.specs.declared.known.Known.TheVariants as knowns
use Rattle.world_model.specs.Classes.{and_then}
use Rattle.world_model.specs.Codes.{not_implemented}
use Rattle.world_model.specs.Kept.{program_of}
use Rattle.world_model.specs.Objects.{array_in, object_fault, string_in}
use Rattle.world_model.specs.Objects.{length_in as length_there_in, text_in as text_there_in}
use Rattle.world_model.specs.Replies.{living_reply}
use Rattle.world_model.specs.Sound.{IsArray, IsSound}
use Rattle.world_model.specs.Threads.{counted}
use Rattle.world_model.specs.declared.rows.WorldArray.{WorldArray}
use Rattle.world_model.specs.declared.rows.WorldString.{WorldString}
use Rattle.world_model.specs.declared.world.World.{World}

-- Objects -------------------------------------------------------------------------------------------------------------

-- an array that is there has so few elements that they can be counted
counted_few : (n : ℕ) → n < 2 ^ 31 → counted n ≡ Ok n
counted_few n few = ap (λ b. if b then Ok n else Err not_implemented) (lt-ltb n (2 ^ 31) few)

length_found : (w : World) (n : ℕ) (there : Option WorldArray) → IsSound w → array_in w (object n) ≡ there
    → option_map (λ (c : ℕ). c) (result_ok (and_then (λ (row : WorldArray). counted (length row.values))
    (ok_or there (object_fault w (object n)))))
    ≡ option_map (λ (row : WorldArray). length row.values) there
length_found w n None sound is = refl
length_found w n (Some row) sound is =
    ap (λ (r : Result ℕ ℕ). option_map (λ (c : ℕ). c) (result_ok r)) (counted_few (length row.values)
    (found_all (IsArray (program_of w)) (λ (r : WorldArray). r.id.0 == n) w.arrays sound.values.arrays row is).few)

pub length_there : (w : World) (n : ℕ) → IsSound w
    → of_world (living_reply w) (length_plan n)
    ≡ option_map (λ (row : WorldArray). length row.values) (array_in w (object n))
unfolding of_world
length_there w n sound =
    must_said answers.ArrayLength length_in (λ c. c) (λ c. refl) (length_there_in w (object n))
    ∙ length_found w n (array_in w (object n)) sound refl

text_found : (code : ℕ) (there : Option WorldString)
    → option_map (λ (t : List ℕ). t) (result_ok (ok_or (option_map (λ (row : WorldString). row.text) there) code))
    ≡ option_map (λ (row : WorldString). row.text) there
text_found code None = refl
text_found code (Some row) = refl

pub text_there : (w : World) (n : ℕ) → of_world (living_reply w) (text_plan n)
    ≡ option_map (λ (row : WorldString). row.text) (string_in w (object n))
unfolding of_world
text_there w n =
    must_said answers.StringValue text_in (λ t. t) (λ t. refl) (text_there_in w (object n))
    ∙ text_found (object_fault w (object n)) (string_in w (object n))

-- Where a value stands ------------------------------------------------------------------------------------------------

-- the signature of a place, as the world has it
abbrev pub signature_at : World → Declared → Option (List ℕ)
signature_at w (is_signature signature) = Some signature
signature_at w (element_of id) = if_null id (Some []) (element_signature w (object id))

abbrev pub placed : World → Valued → Placed
placed w v = record { value = v.value; signature = signature_at w v.declared }

bracket_same : (signature : List ℕ)
    → behind signature ≡ behind_bracket signature
bracket_same [] = refl
bracket_same (byte ∷ bytes) = refl

pub element_there : (w : World) (n : ℕ)
    → of_world (living_reply w) (element_plan n) ≡ element_signature w (object n)
element_there w n =
    said_made (living_reply w) behind (type_plan n)
    ∙ ap (option_map behind) (type_there w n)
    ∙ map_alike behind behind_bracket
    bracket_same (type_of w (object n))

pub declared_there : (w : World) (declared : Declared)
    → of_world (living_reply w) (declared_plan declared) ≡ signature_at w declared
unfolding of_world
declared_there w (is_signature signature) = refl
declared_there w (element_of zero) = refl
declared_there w (element_of (suc id)) = element_there w (suc id)

-- Types ---------------------------------------------------------------------------------------------------------------

typed_there : (w : World) (types : Bool) (p : Plan (List ℕ)) (there : Option (List ℕ))
    → of_world (living_reply w) p ≡ there → of_world (living_reply w) (typed types p) ≡ shown.typed types there
unfolding of_world
typed_there w false p there is = refl
typed_there w true p there is =
    said_made (living_reply w) (type_if true) p ∙ ap (option_map (λ (s : List ℕ). Some (class_name s))) is

pub type_same : (types : Bool) (signature : List ℕ) → type_if types signature ≡ shown.type_if types signature
type_same true signature = refl
type_same false signature = refl

-- References ----------------------------------------------------------------------------------------------------------

pub not_null : (n : ℕ) → (suc n == 0) ≡ false
not_null n = ne_eqb (suc n) 0 (λ e. omega (arith, e))

-- the text of an object that isn't null
text_of : (n : ℕ) (known : Known) → reference_text (suc n) known ≡ known_text (suc n) known
text_of n known = ap (λ b. if b then codes "null" else known_text (suc n) known) (not_null n)

-- a value is the reference with this id
abbrev Names : Value → ℕ → Type 0
Names value n = (known : Known) → value_text value known ≡ reference_text n known

null_there : (w : World) (types : Bool) (v : Valued) → Names v.value 0
    → of_world (living_reply w) (null_plan types v) ≡ shown.null_shown types (signature_at w v.declared)
null_there w types v names =
    said_made (living_reply w) (childless (value_text v.value knowns.Plain)) (typed types (declared_plan v.declared))
    ∙ ap (option_map (childless (value_text v.value knowns.Plain)))
    (typed_there w types (declared_plan v.declared) (signature_at w v.declared) (declared_there w v.declared))
    ∙ ap (λ text. option_map (shown.leaf text) (shown.typed types (signature_at w v.declared))) (names knowns.Plain)

object_same : (types : Bool) (value : Value) (n : ℕ) (signature : List ℕ) → Names value (suc n)
    → object_seen types value (suc n) signature ≡ shown.object_seen types (object (suc n)) signature
object_same types value n signature names =
    ap (λ (text : List ℕ). record {
      text = text;
      kind = type_if types signature;
      indexed = None;
      thing = Some (things.Object (object (suc n)));
    }) (names (knowns.Object signature) ∙ text_of n (knowns.Object signature))
    ∙ ap (λ (kind : Option (List ℕ)). record {
      text = known_text (suc n) (knowns.Object signature);
      kind = kind;
      indexed = None;
      thing = Some (things.Object (object (suc n)));
    }) (type_same types signature)

object_there : (w : World) (types : Bool) (value : Value) (n : ℕ) → Names value (suc n)
    → of_world (living_reply w) (object_plan types value (suc n)) ≡ shown.object_shown w types (object (suc n))
object_there w types value n names =
    said_made (living_reply w) (object_seen types value (suc n)) (type_plan (suc n))
    ∙ ap (option_map (object_seen types value (suc n))) (type_there w (suc n))
    ∙ map_alike (object_seen types value (suc n))
    (shown.object_seen types (object (suc n))) (λ signature. object_same types value n signature names)
    (type_of w (object (suc n)))

array_same : (types : Bool) (value : Value) (n : ℕ) (row : WorldArray) (signature : List ℕ) → Names value (suc n)
    → array_seen types value (suc n) (signature, length row.values)
    ≡ shown.array_seen types (object (suc n)) row signature
array_same types value n row signature names =
    ap (λ (text : List ℕ). record {
      text = text;
      kind = type_if types signature;
      indexed = Some (length row.values);
      thing = Some (things.Array (object (suc n)));
    }) (names (knowns.Array signature (length row.values)) ∙ text_of n (knowns.Array signature (length row.values)))
    ∙ ap (λ (kind : Option (List ℕ)). record {
      text = known_text (suc n) (knowns.Array signature (length row.values));
      kind = kind;
      indexed = Some (length row.values);
      thing = Some (things.Array (object (suc n)));
    }) (type_same types signature)

array_by : (types : Bool) (value : Value) (n : ℕ) (signature : Option (List ℕ)) (there : Option WorldArray)
    → Names value (suc n)
    → option_map (array_seen types value (suc n)) (two_of signature (option_map (λ row. length row.values) there))
    ≡ option_and_then (λ row. option_map (shown.array_seen types (object (suc n)) row) signature) there
array_by types value n None None names = refl
array_by types value n None (Some row) names = refl
array_by types value n (Some signature) None names = refl
array_by types value n (Some signature) (Some row) names = ap Some (array_same types value n row signature names)

array_there : (w : World) (types : Bool) (value : Value) (n : ℕ) → IsSound w → Names value (suc n)
    → of_world (living_reply w) (array_plan types value (suc n)) ≡ shown.array_shown w types (object (suc n))
array_there w types value n sound names =
    said_made (living_reply w) (array_seen types value (suc n)) (both (type_plan (suc n)) (length_plan (suc n)))
    ∙ ap (option_map (array_seen types value (suc n)))
    (said_both (living_reply w) (type_plan (suc n)) (length_plan (suc n))
    ∙ ap (λ o. two_of o (of_world (living_reply w) (length_plan (suc n)))) (type_there w (suc n))
    ∙ ap (two_of (type_of w (object (suc n)))) (length_there w (suc n) sound))
    ∙ array_by types value n (type_of w (object (suc n))) (array_in w (object (suc n))) names

string_same : (value : Value) (n : ℕ) (text : List ℕ) (kind : Option (List ℕ)) → Names value (suc n)
    → string_seen value (text, kind) ≡ shown.leaf (shown.in_quotes (chars (lossy text))) kind
unfolding quote
string_same value n text kind names =
    ap (λ t. shown.leaf t kind) (names (knowns.Text text) ∙ text_of n (knowns.Text text))

string_by : (value : Value) (n : ℕ) (there : Option WorldString) (kind : Option (Option (List ℕ))) → Names value (suc n)
    → option_map (string_seen value) (two_of (option_map (λ row. row.text) there) kind)
    ≡ option_and_then (λ row. option_map (shown.leaf (shown.in_quotes (chars (lossy row.text)))) kind) there
string_by value n None kind names = refl
string_by value n (Some row) None names = refl
string_by value n (Some row) (Some kind) names = ap Some (string_same value n row.text kind names)

string_there : (w : World) (types : Bool) (value : Value) (n : ℕ) → Names value (suc n)
    → of_world (living_reply w) (string_plan types value (suc n)) ≡ shown.string_shown w types (object (suc n))
string_there w types value n names =
    said_made (living_reply w) (string_seen value) (both (text_plan (suc n)) (typed types (type_plan (suc n))))
    ∙ ap (option_map (string_seen value))
    (said_both (living_reply w) (text_plan (suc n)) (typed types (type_plan (suc n)))
    ∙ ap (λ o. two_of o (of_world (living_reply w) (typed types (type_plan (suc n))))) (text_there w (suc n))
    ∙ ap (two_of (option_map (λ row. row.text) (string_in w (object (suc n)))))
    (typed_there w types (type_plan (suc n)) (type_of w (object (suc n))) (type_there w (suc n))))
    ∙ string_by value n (string_in w (object (suc n))) (shown.typed types (type_of w (object (suc n)))) names

-- Values --------------------------------------------------------------------------------------------------------------

abbrev at : Value → Declared → Valued
at value declared = record { value = value; declared = declared }

plain_same : (types : Bool) (value : Value) → primitive_seen types value ≡ shown.plain types value
plain_same true value = refl
plain_same false value = refl

by_object : (w : World) (types : Bool) (value : Value) (d : Declared) (n : ℕ) → Names value n
    → of_world (living_reply w) (by_id n (null_plan types (at value d)) (object_plan types value))
    ≡ if_null n (shown.null_shown types (signature_at w d)) (shown.object_shown w types (object n))
by_object w types value d zero names = null_there w types (at value d) names
by_object w types value d (suc n) names = object_there w types value n names

by_array : (w : World) (types : Bool) (value : Value) (d : Declared) (n : ℕ) → IsSound w → Names value n
    → of_world (living_reply w) (by_id n (null_plan types (at value d)) (array_plan types value))
    ≡ if_null n (shown.null_shown types (signature_at w d)) (shown.array_shown w types (object n))
by_array w types value d zero sound names = null_there w types (at value d) names
by_array w types value d (suc n) sound names = array_there w types value n sound names

by_string : (w : World) (types : Bool) (value : Value) (d : Declared) (n : ℕ) → Names value n
    → of_world (living_reply w) (by_id n (null_plan types (at value d)) (string_plan types value))
    ≡ if_null n (shown.null_shown types (signature_at w d)) (shown.string_shown w types (object n))
by_string w types value d zero names = null_there w types (at value d) names
by_string w types value d (suc n) names = string_there w types value n names

seen_at : (w : World) (types : Bool) (value : Value) (d : Declared) → IsSound w
    → of_world (living_reply w) (seen_plan types (at value d)) ≡ shown.shown w types (placed w (at value d))
unfolding of_world
seen_at w types (values.Object o) d sound = by_object w types (values.Object o) d o.0 (λ known. refl)
seen_at w types (values.Thread o) d sound = by_object w types (values.Thread o) d o.0 (λ known. refl)
seen_at w types (values.ThreadGroup o) d sound = by_object w types (values.ThreadGroup o) d o.0 (λ known. refl)
seen_at w types (values.ClassLoader o) d sound = by_object w types (values.ClassLoader o) d o.0 (λ known. refl)
seen_at w types (values.ClassObject o) d sound = by_object w types (values.ClassObject o) d o.0 (λ known. refl)
seen_at w types (values.Array o) d sound = by_array w types (values.Array o) d o.0 sound (λ known. refl)
seen_at w types (values.String o) d sound = by_string w types (values.String o) d o.0 (λ known. refl)
seen_at w types (values.Byte n) d sound = ap Some (plain_same types (values.Byte n))
seen_at w types (values.Char n) d sound = ap Some (plain_same types (values.Char n))
seen_at w types (values.Double n) d sound = ap Some (plain_same types (values.Double n))
seen_at w types (values.Float n) d sound = ap Some (plain_same types (values.Float n))
seen_at w types (values.Int n) d sound = ap Some (plain_same types (values.Int n))
seen_at w types (values.Long n) d sound = ap Some (plain_same types (values.Long n))
seen_at w types (values.Short n) d sound = ap Some (plain_same types (values.Short n))
seen_at w types (values.Boolean n) d sound = ap Some (plain_same types (values.Boolean n))
seen_at w types values.Void d sound = ap Some (plain_same types values.Void)

-- a value is shown as the world has it
pub seen_there : (w : World) (types : Bool) (v : Valued) → IsSound w
    → of_world (living_reply w) (seen_plan types v) ≡ shown.shown w types (placed w v)
seen_there w types v sound = seen_at w types v.value v.declared sound
