-- Expressions in the innermost frame of a thread: their values and the texts of these.
use Rattle.std.proofs.Common.{◌≡◌, ◌∷◌, ℕ, zero, suc, Bool, true, false, not, List, [], length, refl, sym, ap, ◌∙◌, map}
use Rattle.std.proofs.Common.{arith}
use Rattle.std.proofs.lemmas.Bool.Decides.{nat_tests}
use Rattle.std.specs.Prelude.{chars, codes, filter, if◌then◌else◌, Option, Some, None, option_and_then, option_map, ok_or, pos}
use Rattle.std.specs.Prelude.{Result as Tried, Ok, Err, ◌==◌, ◌&&◌, nat_lt}
use Rattle.dap_messages.specs.Telling.{target_error, unknown_thread}
use Rattle.dap_messages.specs.declared.told.Failure.{Failure}
use Rattle.field_exprs.specs.declared.expr.Expr.{Expr}
use Rattle.jdwp_commands.specs.declared.answer.Answer.TheVariants as answers
use Rattle.jdwp_commands.specs.declared.listed.Frame.{Frame}
use Rattle.jdwp_commands.specs.declared.question.Question.TheVariants as questions
use Rattle.jdwp_values.specs.Lossy.{lossy}
use Rattle.jdwp_values.specs.declared.id.ThreadId.{ThreadId}
use Rattle.jdwp_values.specs.declared.value.Value.{Value}
use Rattle.jdwp_values.specs.declared.value.Value.TheVariants as values
use Rattle.judged_worlds.specs.PathRows.{frame_thing, innermost, innermost_of, or_no_text, or_refused, path_in}
use Rattle.judged_worlds.specs.PathRows.{sought_from, text_from, text_in, why_no_frames}
use Rattle.judged_worlds.proofs.CalmPlans.{calm_other, named_calm, text_calm}
use Rattle.machine_model.specs.Caught.{ValueOf, caught}
use Rattle.machine_model.specs.Expressions.{Sought, named_in}
use Rattle.machine_model.specs.Judging.{Taken, array_text, failure_by, frame_heard, innermost_plan, object_text, path_plan}
use Rattle.machine_model.specs.Judging.{path_text, plain_text, shown_text, sought_taken, string_text, text_by, text_taken, value_by}
use Rattle.machine_model.specs.Plans.{Plan, Refusal, chained, made_with, of_world, tried_of}
use Rattle.machine_model.specs.Values.{Valued, by_id, length_plan, text_plan, type_plan}
use Rattle.machine_model.specs.declared.parts.Seen.{Seen}
use Rattle.machine_model.proofs.CaughtLaws.{caught_there, names_by_chain}
use Rattle.machine_model.proofs.JudgingLaws.{shown_by_chain}
use Rattle.shown_worlds.specs.ExpressionRows as shown
use Rattle.shown_worlds.specs.Facts.{if_null, type_of}
use Rattle.shown_worlds.specs.FrameRows.{frames_of, may_look}
use Rattle.shown_worlds.specs.Laws.{IsLive}
use Rattle.shown_worlds.specs.ValueRows as rows
use Rattle.shown_worlds.proofs.ExpressionLaws.{Finds, found_as, named_there}
use Rattle.shown_worlds.proofs.FactLaws.{object, type_there}
use Rattle.shown_worlds.proofs.PlanLemmas.{said_chained, said_made}
use Rattle.shown_worlds.proofs.ValueLaws.{length_there, not_null, placed, text_there}
use Rattle.stop_refs.specs.declared.thing.FrameThing.{FrameThing}
use Rattle.value_views.specs.Quotes.{quote}
use Rattle.value_views.specs.Texts.{known_text, reference_text, value_text}
use Rattle.value_views.specs.declared.known.Known.{Known}
use Rattle.value_views.specs.declared.known.Known.TheVariants as knowns
use Rattle.world_model.specs.Classes.{and_then}
use Rattle.world_model.specs.Codes.{told}
use Rattle.world_model.specs.Objects.{array_in, string_in}
use Rattle.world_model.specs.Replies.{living_reply}
use Rattle.world_model.specs.Sound.{IsSound}
use Rattle.world_model.specs.Threads as threads
use Rattle.world_model.specs.declared.rows.WorldArray.{WorldArray}
use Rattle.world_model.specs.declared.rows.WorldFrame.{WorldFrame}
use Rattle.world_model.specs.declared.rows.WorldString.{WorldString}
use Rattle.world_model.specs.declared.world.World.{World}

-- The innermost frame -------------------------------------------------------------------------------------------------

-- whether frames may be asked of a thread that is alive or not, and that runs or not
abbrev asked : Bool → Bool → Tried (Unit {0}) ℕ
asked alive runs = if alive then if runs then Err 99 else Ok tt else Err 10

-- what is heard of them where it has these
abbrev heard : World → ThreadId → Bool → Bool → List WorldFrame → Taken FrameThing
heard w thread alive runs rows = frame_heard thread (tried_of (questions.Frames thread (pos 0) (pos 1)) (told
    answers.Frames (and_then (λ _. ok_or (threads.frames_from (map (threads.shown_frame w) rows) (pos 0) (pos 1)) 99)
    (asked alive runs))))

none_below : (n : ℕ) → nat_lt n 0 ≡ false
none_below n = grind (arith, nat_tests)

-- what is heard where more frames were asked for than there are, or else
abbrev heard_of : ThreadId → List Frame → Bool → Taken FrameThing
heard_of thread frames past = frame_heard thread (tried_of (questions.Frames thread (pos 0) (pos 1)) (told
    answers.Frames (ok_or (if past then None else Some (threads.at_most (pos 1) frames)) 99)))

innermost_heard : (w : World) (thread : ThreadId) (alive runs : Bool) (rows : List WorldFrame)
    → heard w thread alive runs rows ≡ (if alive && not runs then innermost_of w thread rows
    else Err (if alive then target_error 0 else unknown_thread))
innermost_heard w thread false runs rows = refl
innermost_heard w thread true true rows = refl
innermost_heard w thread true false [] = refl
innermost_heard w thread true false (row ∷ rows) =
    ap (heard_of thread (map (threads.shown_frame w) (row ∷ rows)))
    (none_below (length (map (threads.shown_frame w) (row ∷ rows))))

innermost_there : (w : World) (thread : ThreadId)
    → of_world (living_reply w) (innermost_plan thread) ≡ Some (innermost w thread)
unfolding of_world
innermost_there w thread =
    ap Some (innermost_heard w thread (threads.is_alive w thread) (w.count == 0) (frames_of w thread))

-- Values --------------------------------------------------------------------------------------------------------------

-- in a frame of a thread that is alive
in_frame : (w : World) (frame : FrameThing) (e : Expr) → IsLive w → threads.is_alive w frame.thread ≡ true
    → option_map (found_as w) (of_world (living_reply w) (value_by e (Ok frame)))
    ≡ Some (or_refused (shown.named_in w frame e))
in_frame w frame e live alive =
    ap (option_map (found_as w)) (said_made (living_reply w) sought_taken (caught (named_in frame e)))
    ∙ by_caught (of_world (living_reply w) (caught (named_in frame e))) refl
    (caught_there (living_reply w) (named_in frame e) (names_by_chain frame e))
  where
    by_caught : (there : Option (Tried Sought Refusal))
        → of_world (living_reply w) (caught (named_in frame e)) ≡ there
        → ValueOf there (of_world (living_reply w) (named_in frame e))
        → option_map (found_as w) (option_map sought_taken there) ≡ Some (or_refused (shown.named_in w frame e))
    by_caught None is value = absurd value
    by_caught (Some (Ok sought)) is value =
        ap (λ (o : Option shown.Sought). Some (or_refused o))
        (sym (ap (option_map (found_as w)) value) ∙ named_there w frame e live)
    by_caught (Some (Err why)) is value =
        ap (λ (r : Refusal). Some (Err (failure_by r))) (calm_other w (named_in frame e) why (named_calm w frame alive e) is)
        ∙ ap (λ (o : Option shown.Sought). Some (or_refused o))
        (sym (ap (option_map (found_as w)) value) ∙ named_there w frame e live)

alive_of : (alive still : Bool) → (alive && still) ≡ true → alive ≡ true
alive_of true still is = refl
alive_of false still is = cc

from_innermost : (w : World) (thread : ThreadId) (e : Expr) → IsLive w
    → option_map (found_as w) (of_world (living_reply w) (value_by e (innermost w thread)))
    ≡ Some (sought_from w e (innermost w thread))
unfolding of_world
from_innermost w thread e live = by_look (may_look w thread) refl
  where
    by_frames : (frames : List WorldFrame) → threads.is_alive w thread ≡ true
        → option_map (found_as w) (of_world (living_reply w) (value_by e (innermost_of w thread frames)))
        ≡ Some (sought_from w e (innermost_of w thread frames))
    by_frames [] alive = refl
    by_frames (row ∷ rows) alive = in_frame w (frame_thing w thread row) e live alive

    by_look : (look : Bool) → may_look w thread ≡ look
        → option_map (found_as w) (of_world (living_reply w) (value_by e
        (if look then innermost_of w thread (frames_of w thread) else Err (why_no_frames w thread))))
        ≡ Some (sought_from w e
        (if look then innermost_of w thread (frames_of w thread) else Err (why_no_frames w thread)))
    by_look false is = refl
    by_look true is =
        by_frames (frames_of w thread) (alive_of (threads.is_alive w thread) (not (w.count == 0)) is)

-- the value of an expression, or why it can't be had
pub path_there : (w : World) (thread : ThreadId) (e : Expr) → IsLive w
    → Finds w (path_plan thread e) (Some (path_in w thread e))
path_there w thread e live =
    ap (option_map (found_as w)) (said_chained (living_reply w) (innermost_plan thread) (value_by e)
    ∙ ap (option_and_then (λ (f : Taken FrameThing). of_world (living_reply w) (value_by e f)))
    (innermost_there w thread))
    ∙ from_innermost w thread e live

-- Texts ---------------------------------------------------------------------------------------------------------------

-- a value that refers to an object, by the object's id
abbrev Names : Value → ℕ → Type 0
Names value n = (known : Known) → value_text value known ≡ reference_text n known

-- the text of what isn't null
known_as : (n : ℕ) (value : Value) (known : Known) → Names value (suc n)
    → value_text value known ≡ known_text (suc n) known
known_as n value known names =
    names known ∙ ap (λ b. if b then codes "null" else known_text (suc n) known) (not_null n)

abbrev text_of : Option Seen → Option (List ℕ)
text_of seen = option_map (λ (s : Seen). s.text) seen

object_there : (w : World) (value : Value) (n : ℕ) → Names value (suc n)
    → of_world (living_reply w) (object_text value (suc n)) ≡ text_of (rows.object_shown w false (object (suc n)))
object_there w value n names =
    said_made (living_reply w) (λ signature. value_text value (knowns.Object signature)) (type_plan (suc n))
    ∙ ap (option_map (λ signature. value_text value (knowns.Object signature))) (type_there w (suc n))
    ∙ by_type (type_of w (object (suc n)))
  where
    by_type : (type : Option (List ℕ)) → option_map (λ signature. value_text value (knowns.Object signature)) type
        ≡ text_of (option_map (rows.object_seen false (object (suc n))) type)
    by_type None = refl
    by_type (Some signature) = ap Some (known_as n value (knowns.Object signature) names)

array_there : (w : World) (value : Value) (n : ℕ) → IsSound w → Names value (suc n)
    → of_world (living_reply w) (array_text value (suc n)) ≡ text_of (rows.array_shown w false (object (suc n)))
array_there w value n sound names =
    said_chained (living_reply w) (type_plan (suc n))
    (λ signature. made_with (λ total. value_text value (knowns.Array signature total)) (length_plan (suc n)))
    ∙ ap (option_and_then (λ signature. of_world (living_reply w)
    (made_with (λ total. value_text value (knowns.Array signature total)) (length_plan (suc n)))))
    (type_there w (suc n))
    ∙ by_type (type_of w (object (suc n)))
  where
    by_array : (signature : List ℕ) (there : Option WorldArray)
        → option_map (λ total. value_text value (knowns.Array signature total))
        (option_map (λ (row : WorldArray). length row.values) there)
        ≡ text_of (option_and_then (λ row. option_map (rows.array_seen false (object (suc n)) row) (Some signature)) there)
    by_array signature None = refl
    by_array signature (Some row) = ap Some (known_as n value (knowns.Array signature (length row.values)) names)

    no_type : (there : Option WorldArray) → None
        ≡ text_of (option_and_then (λ row. option_map (rows.array_seen false (object (suc n)) row) None) there)
    no_type None = refl
    no_type (Some row) = refl

    by_type : (type : Option (List ℕ))
        → option_and_then (λ signature. of_world (living_reply w)
        (made_with (λ total. value_text value (knowns.Array signature total)) (length_plan (suc n)))) type
        ≡ text_of (option_and_then (λ row. option_map (rows.array_seen false (object (suc n)) row) type)
        (array_in w (object (suc n))))
    by_type None = no_type (array_in w (object (suc n)))
    by_type (Some signature) =
        said_made (living_reply w) (λ total. value_text value (knowns.Array signature total)) (length_plan (suc n))
        ∙ ap (option_map (λ total. value_text value (knowns.Array signature total))) (length_there w (suc n) sound)
        ∙ by_array signature (array_in w (object (suc n)))

string_there : (w : World) (value : Value) (n : ℕ) → Names value (suc n)
    → of_world (living_reply w) (string_text value (suc n)) ≡ text_of (rows.string_shown w false (object (suc n)))
unfolding quote
string_there w value n names =
    said_made (living_reply w) (λ text. value_text value (knowns.Text text)) (text_plan (suc n))
    ∙ ap (option_map (λ text. value_text value (knowns.Text text))) (text_there w (suc n))
    ∙ by_string (string_in w (object (suc n)))
  where
    by_string : (there : Option WorldString)
        → option_map (λ text. value_text value (knowns.Text text)) (option_map (λ (row : WorldString). row.text) there)
        ≡ text_of (option_and_then (λ (row : WorldString). option_map
        (rows.leaf (rows.in_quotes (chars (lossy row.text)))) (rows.typed false (type_of w (object (suc n))))) there)
    by_string None = refl
    by_string (Some row) = ap Some (known_as n value (knowns.Text row.text) names)

by_object : (w : World) (value : Value) (signature : Option (List ℕ)) (n : ℕ) → Names value n
    → of_world (living_reply w) (by_id n (plain_text value) (object_text value))
    ≡ text_of (if_null n (rows.null_shown false signature) (rows.object_shown w false (object n)))
unfolding of_world
by_object w value signature zero names = ap Some (names knowns.Plain)
by_object w value signature (suc n) names = object_there w value n names

by_array : (w : World) (value : Value) (signature : Option (List ℕ)) (n : ℕ) → IsSound w → Names value n
    → of_world (living_reply w) (by_id n (plain_text value) (array_text value))
    ≡ text_of (if_null n (rows.null_shown false signature) (rows.array_shown w false (object n)))
unfolding of_world
by_array w value signature zero sound names = ap Some (names knowns.Plain)
by_array w value signature (suc n) sound names = array_there w value n sound names

by_string : (w : World) (value : Value) (signature : Option (List ℕ)) (n : ℕ) → Names value n
    → of_world (living_reply w) (by_id n (plain_text value) (string_text value))
    ≡ text_of (if_null n (rows.null_shown false signature) (rows.string_shown w false (object n)))
unfolding of_world
by_string w value signature zero names = ap Some (names knowns.Plain)
by_string w value signature (suc n) names = string_there w value n names

-- the text of a value, wherever it stands
text_at : (w : World) (value : Value) (signature : Option (List ℕ)) → IsSound w
    → of_world (living_reply w) (shown_text value value)
    ≡ text_of (rows.shown w false (record { value = value; signature = signature }))
unfolding of_world
text_at w (values.Object o) s sound = by_object w (values.Object o) s o.0 (λ known. refl)
text_at w (values.Thread o) s sound = by_object w (values.Thread o) s o.0 (λ known. refl)
text_at w (values.ThreadGroup o) s sound = by_object w (values.ThreadGroup o) s o.0 (λ known. refl)
text_at w (values.ClassLoader o) s sound = by_object w (values.ClassLoader o) s o.0 (λ known. refl)
text_at w (values.ClassObject o) s sound = by_object w (values.ClassObject o) s o.0 (λ known. refl)
text_at w (values.Array o) s sound = by_array w (values.Array o) s o.0 sound (λ known. refl)
text_at w (values.String o) s sound = by_string w (values.String o) s o.0 (λ known. refl)
text_at w _ s sound = refl

-- as it is told, or why it can't be had
value_text_there : (w : World) (v : Valued) → IsSound w
    → of_world (living_reply w) (text_by (Ok v)) ≡ Some (text_from w (Ok (placed w v)))
value_text_there w v sound =
    said_made (living_reply w) text_taken (caught (shown_text v.value v.value))
    ∙ by_caught (of_world (living_reply w) (caught (shown_text v.value v.value))) refl
    (caught_there (living_reply w) (shown_text v.value v.value) (shown_by_chain v.value v.value))
  where
    same : of_world (living_reply w) (shown_text v.value v.value) ≡ text_of (rows.shown w false (placed w v))
    same = text_at w v.value (placed w v).signature sound

    by_caught : (there : Option (Tried (List ℕ) Refusal))
        → of_world (living_reply w) (caught (shown_text v.value v.value)) ≡ there
        → ValueOf there (of_world (living_reply w) (shown_text v.value v.value))
        → option_map text_taken there ≡ Some (or_no_text (text_of (rows.shown w false (placed w v))))
    by_caught None is value = absurd value
    by_caught (Some (Ok text)) is value =
        ap (λ (o : Option (List ℕ)). Some (or_no_text o)) (sym value ∙ same)
    by_caught (Some (Err why)) is value =
        ap (λ (r : Refusal). Some (Err (failure_by r)))
        (calm_other w (shown_text v.value v.value) why (text_calm w v.value v.value) is)
        ∙ ap (λ (o : Option (List ℕ)). Some (or_no_text o)) (sym value ∙ same)

-- the text of the value of an expression, or why it can't be had
pub path_text_there : (w : World) (thread : ThreadId) (e : Expr) → IsLive w
    → of_world (living_reply w) (path_text thread e) ≡ Some (text_in w thread e)
unfolding of_world
path_text_there w thread e live =
    said_chained (living_reply w) (path_plan thread e) text_by
    ∙ by_path (of_world (living_reply w) (path_plan thread e)) (path_in w thread e) (path_there w thread e live)
  where
    by_path : (there : Option Sought) (s : shown.Sought) → option_map (found_as w) there ≡ Some s
        → option_and_then (λ (taken : Sought). of_world (living_reply w) (text_by taken)) there ≡ Some (text_from w s)
    by_path None s is = cc
    by_path (Some (Ok v)) s is = value_text_there w v live.sound ∙ ap (option_map (text_from w)) is
    by_path (Some (Err failure)) s is = ap (option_map (text_from w)) is
