-- While a suspension is held, a target that lives and wasn't left stands still.
use Rattle.std.proofs.Common.{◌≡◌, ◌<◌, ℕ, zero, suc, Bool, false, cond, List, [], ◌∷◌, map, fold, refl, sym}
use Rattle.std.proofs.Common.{ap, ◌∙◌, arith, Option, Some, None, option_map}
use Rattle.std.specs.Prelude.{◌==◌, length, Result, Ok, Err, ok_or, option_and_then, unwrap_or}
use Rattle.std.specs.List.{AllByRecursion}
use Rattle.std.specs.Option.{option_or}
use Rattle.jdwp_values.specs.declared.id.ClassId.{ClassId}
use Rattle.jdwp_values.specs.declared.id.FieldId.{FieldId}
use Rattle.jdwp_values.specs.declared.id.FrameId.{FrameId}
use Rattle.jdwp_values.specs.declared.id.ObjectId.{ObjectId}
use Rattle.jdwp_values.specs.declared.id.ThreadId.{ThreadId}
use Rattle.jdwp_values.specs.declared.value.Value.{Value}
use Rattle.jdwp_commands.specs.declared.answer.Answer.TheVariants as answers
use Rattle.jdwp_commands.specs.declared.asked.Asked.{Asked}
use Rattle.jdwp_commands.specs.declared.asked.Replied.{Replied}
use Rattle.jdwp_commands.specs.declared.asked.Replied.TheVariants.{Error as an_error}
use Rattle.jdwp_commands.specs.declared.question.Question.{Question}
use Rattle.jdwp_commands.specs.declared.question.Question.TheVariants as questions
use Rattle.jdwp_events.specs.declared.composite.Composite.{Composite}
use Rattle.jdwp_events.specs.declared.event.Event.{Event}
use Rattle.jdwp_events.specs.declared.event.Event.TheVariants as events
use Rattle.joint_model.specs.Joints.{Joint, Packet}
use Rattle.joint_model.specs.Laws.{IsHeld, IsStill, StaysSo, held, is_suspend, puts}
use Rattle.joint_model.specs.Names.{TargetCommand}
use Rattle.joint_model.specs.Obeying.{Emits, IsTold, Matches, Runs, Serves, prepared_by}
use Rattle.machine_model.specs.Leaving.{sends_farewell}
use Rattle.machine_model.specs.Pending.{count, has_such}
use Rattle.machine_model.specs.Replying.{pending_of}
use Rattle.machine_model.specs.Runs.{Message}
use Rattle.machine_model.specs.State.{Machine}
use Rattle.world_model.specs.declared.rows.Installed.{Installed}
use Rattle.world_model.specs.declared.world.World.{World}
use Rattle.world_model.specs.declared.rows.WorldClass.{WorldClass}
use Rattle.world_model.specs.declared.rows.WorldField.{WorldField}
use Rattle.world_model.specs.declared.rows.WorldFrame.{WorldFrame}
use Rattle.world_model.specs.declared.rows.WorldObject.{WorldObject}
use Rattle.world_model.specs.Classes.{and_then, class_in}
use Rattle.world_model.specs.Codes.{invalid_object, invalid_thread, not_implemented, told, vm_dead}
use Rattle.world_model.specs.Kept.{Program, Values, program_of, values_of}
use Rattle.world_model.specs.Kinds.{zero_in}
use Rattle.world_model.specs.Objects.{field_from, field_in, field_value, object_at, put_in, reference_in}
use Rattle.world_model.specs.Scans.{all_of}
use Rattle.world_model.specs.Threads.{counted, frame_in, frames_from, frames_of, is_alive, slot_value}
use Rattle.world_model.specs.Replies.{living_reply, reply_of}
use Rattle.world_model.proofs.KeptLaws.{programs, values}
use Rattle.joint_model.proofs.BalanceLaws.{balances, run_of}
use Rattle.joint_model.proofs.HeldLaws.{some_held}

-- What is replied depends on no event request, and on suspensions only in that there are any.
abbrev world_of : Program → Values → ℕ → World
world_of program held count = record {
  sizes = program.sizes;
  classes = program.classes;
  methods = program.methods;
  variables = program.variables;
  fields = program.fields;
  objects = program.objects;
  arrays = held.arrays;
  strings = program.strings;
  puts = held.puts;
  threads = program.threads;
  frames = held.frames;
  requests = [];
  steps = [];
  next_request = 1;
  count = count;
  dead = false;
}

and_then_alike : {A B : Type 0} (f g : A → Option B) (found : Option A) → ((a : A) → f a ≡ g a)
    → option_and_then f found ≡ option_and_then g found
and_then_alike f g None same = refl
and_then_alike f g (Some a) same = same a

all_alike : {A B : Type 0} (f g : A → Option B) (some : List A) → ((a : A) → f a ≡ g a) → all_of f some ≡ all_of g some
all_alike f g [] same = refl
all_alike f g (a ∷ some) same = rw (same a, all_alike f g some same) refl

result_alike : {A B : Type 0} (f g : A → Result B ℕ) (found : Result A ℕ) → ((a : A) → f a ≡ g a)
    → and_then f found ≡ and_then g found
result_alike f g (Ok a) same = same a
result_alike f g (Err code) same = refl

-- the same fields are found from a class upwards
fields_alike : (w : World) (count : ℕ) (steps : List WorldClass) (class : ClassId) (field : FieldId)
    → field_from steps w class field ≡ field_from steps (world_of (program_of w) (values_of w) count) class field
fields_alike w count [] class field = refl
fields_alike w count (step ∷ steps) class field = ap (option_or (field_in w class field))
    (and_then_alike (λ row. field_from steps w row.above field)
    (λ row. field_from steps (world_of (program_of w) (values_of w) count) row.above field) (class_in w class)
    (λ row. fields_alike w count steps row.above field))

value_alike : (w : World) (count : ℕ) (object : WorldObject) (field : FieldId)
    → field_value w object field ≡ field_value (world_of (program_of w) (values_of w) count) object field
value_alike w count object field =
    ap (option_map (λ (row : WorldField). unwrap_or (put_in w object.id field) (zero_in row.field.signature)))
    (fields_alike w count w.classes object.class field)

values_alike : (w : World) (count : ℕ) (object : ObjectId) (fields : List FieldId)
    → living_reply w (questions.GetFields object fields)
    ≡ living_reply (world_of (program_of w) (values_of w) count) (questions.GetFields object fields)
values_alike w count object fields = ap (told answers.GetFields)
    (result_alike (λ row. ok_or (all_of (field_value w row) fields) not_implemented)
    (λ row. ok_or (all_of (field_value (world_of (program_of w) (values_of w) count) row) fields) not_implemented)
    (object_at w object)
    (λ row. ap (λ (found : Option (List Value)). ok_or found not_implemented)
    (all_alike (field_value w row) (field_value (world_of (program_of w) (values_of w) count) row) fields
    (value_alike w count row))))

replied_by : (w : World) (question : Question)
    → living_reply w question ≡ living_reply (world_of (program_of w) (values_of w) w.count) question
replied_by w (questions.GetFields object fields) = values_alike w w.count object fields
replied_by w _ = refl

-- frames may be asked of a thread that is alive, unless nothing is suspended
abbrev asking : World → ThreadId → Bool → Result (Unit {0}) ℕ
asking w thread none = cond (is_alive w thread) (cond none (Err not_implemented) (Ok tt)) (Err invalid_thread)

abbrev frame_asked : World → ThreadId → FrameId → Bool → Result WorldFrame ℕ
frame_asked w thread frame none =
    and_then (λ _. ok_or (frame_in w thread frame) not_implemented) (asking w thread none)

some_alike : (n k : ℕ) → (suc n == 0) ≡ (suc k == 0)
some_alike n k = grind arith

suspended_alike : (program : Program) (kept : Values) (n k : ℕ) (question : Question)
    → living_reply (world_of program kept (suc n)) question ≡ living_reply (world_of program kept (suc k)) question
suspended_alike program kept n k (questions.GetFields object fields) =
    values_alike (world_of program kept (suc n)) (suc k) object fields
suspended_alike program kept n k (questions.Frames thread start few) = let w = world_of program kept 0 in
    ap (λ (none : Bool). told answers.Frames (and_then
    (λ _. ok_or (frames_from (frames_of w thread) start few) not_implemented) (asking w thread none)))
    (some_alike n k)
suspended_alike program kept n k (questions.FrameCount thread) = let w = world_of program kept 0 in
    ap (λ (none : Bool). told answers.FrameCount (and_then
    (λ _. counted (length (frames_of w thread))) (asking w thread none)))
    (some_alike n k)
suspended_alike program kept n k (questions.GetSlots thread frame slots) = let w = world_of program kept 0 in
    ap (λ (none : Bool). told answers.GetSlots (and_then
    (λ row. ok_or (all_of (slot_value row.slots) slots) not_implemented) (frame_asked w thread frame none)))
    (some_alike n k)
suspended_alike program kept n k (questions.ThisObject thread frame) = let w = world_of program kept 0 in
    ap (λ (none : Bool). told answers.ThisObject (and_then
    (λ row. ok_or (reference_in w row.this) invalid_object) (frame_asked w thread frame none)))
    (some_alike n k)
suspended_alike program kept n k _ = refl

some_more : (n : ℕ) → 0 < n → (k : ℕ) × (n ≡ suc k)
some_more zero some = absurd (omega arith)
some_more (suc k) some = (k, refl)

living_is : (w : World) (question : Question) → w.dead ≡ false → reply_of w question ≡ living_reply w question
living_is w question lives = ap (λ (dead : Bool). cond dead (an_error vm_dead) (living_reply w question)) lives

same_replies : (w now : World) → w.dead ≡ false → 0 < w.count → program_of now ≡ program_of w
    → values_of now ≡ values_of w → now.dead ≡ false → 0 < now.count → (question : Question)
    → reply_of now question ≡ reply_of w question
same_replies w now lives held program_is values_is still some question =
    let here = some_more w.count held in
    let there = some_more now.count some in
    living_is now question still
    ∙ replied_by now question
    ∙ ap (λ (p : Program). living_reply (world_of p (values_of now) now.count) question) program_is
    ∙ ap (λ (v : Values). living_reply (world_of (program_of w) v now.count) question) values_is
    ∙ ap (λ (n : ℕ). living_reply (world_of (program_of w) (values_of w) n) question) there.1
    ∙ suspended_alike (program_of w) (values_of w) there.0 here.0 question
    ∙ ap (λ (n : ℕ). living_reply (world_of (program_of w) (values_of w) n) question) (sym here.1)
    ∙ sym (replied_by w question)
    ∙ sym (living_is w question lives)

stays_so : (w now : World) → w.dead ≡ false → 0 < w.count → program_of now ≡ program_of w
    → values_of now ≡ values_of w → StaysSo w now
stays_so w now lives held program_is values_is = record {
  program = program_is;
  values = values_is;
  replies = same_replies w now lives held program_is values_is;
}

-- no class is prepared by an event while all threads are suspended
prepares_none : (w : World) (told : Installed × Event) → 0 < w.count → IsTold w told → prepared_by w told.1 ≡ w
prepares_none w told held is = by_event told.1 (λ suspended. omega arith) is.matches
  where
    by_event : (event : Event) → (w.count ≡ 0 → ⊥) → Matches w told.0 event → prepared_by w event ≡ w
    by_event (events.ClassPrepare id thread tag class signature status) held is = absurd (held is.0)
    by_event _ held is = refl

prepare_none : (w : World) (told : List (Installed × Event)) → 0 < w.count → AllByRecursion (IsTold w) told
    → fold prepared_by w (map (λ (one : Installed × Event). one.1) told) ≡ w
prepare_none w [] held are = refl
prepare_none w (one ∷ told) held are =
    ap (λ (now : World). fold prepared_by now (map (λ (one : Installed × Event). one.1) told))
    (prepares_none w one held are.0) ∙ prepare_none w told held are.1

told_still : {w now : World} {composite : Composite} → 0 < w.count → Emits w composite now
    → (program_of now ≡ program_of w) × (values_of now ≡ values_of w)
told_still {w} held (Emits.tells first others lives told sound) =
    let same = prepare_none w (first ∷ others) held told in (ap program_of same, ap values_of same)
told_still held (Emits.begins lives other sound) = (refl, refl)
told_still held Emits.ends = (refl, refl)

served_still : {w now : World} {asked : Asked} {replied : Replied} → Serves w asked replied now → puts asked ≡ false
    → (program_of now ≡ program_of w) × (values_of now ≡ values_of w)
served_still (Serves.replies is) apart = (refl, refl)
served_still {w} {now} {replied = replied} (Serves.does {effect} is) apart =
    (programs w effect now replied is, values w effect apart now replied is)
served_still (Serves.installs lives may id free) apart = (refl, refl)
served_still {w} {now} (Serves.refuses {effect} {usual} is may) apart =
    (programs w effect now (an_error usual) is, values w effect apart now (an_error usual) is)

runs_not : {w now : World} → 0 < w.count → Runs w now → ⊥
runs_not held runs = let free = runs.free in omega arith

pub stands_still : (messages : List Message) (m : Machine) (w : World) (commands : List TargetCommand)
    (packets : List Packet) (kept : List Composite) → Joint messages m w commands packets kept → w.dead ≡ false
    → has_such sends_farewell messages ≡ false → IsHeld m → count is_suspend (pending_of m) ≡ 0 → IsStill w
stands_still messages m w commands packets kept j lives near here none =
    let balance = balances messages m w commands packets kept j lives near in
    let some = some_held (run_of j) here none in
    let held : 0 < w.count = omega arith in
    record {
      suspended = held;
      no_run = λ now runs. runs_not held runs;
      told = λ composite now emits.
          let same = told_still held emits in stays_so w now lives held same.0 same.1;
      served = λ asked replied now serves apart.
          let same = served_still serves apart in stays_so w now lives held same.0 same.1;
    }
