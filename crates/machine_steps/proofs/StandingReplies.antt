-- What each move keeps of the ids that stand in the machine: questions and their replies.
use Rattle.std.proofs.Common.{◌≡◌, ◌≤◌, ◌+◌, ℕ, Bool, true, false, cond, not, ◌||◌, List, [], ◌∷◌, ◌++◌, length, Option}
use Rattle.std.proofs.Common.{Some, None, refl, sym, ap, subst, ◌∙◌, option_map, arith, length-append}
use Rattle.std.specs.List.{AllByRecursion as All, flat_map}
use Rattle.class_tables.specs.Facts.{Known, same_class}
use Rattle.jdwp_commands.specs.declared.answer.Answer.TheVariants as answers
use Rattle.jdwp_commands.specs.declared.question.Question.TheVariants as questions
use Rattle.jdwp_values.specs.Classes.{field_row, method_row}
use Rattle.jdwp_values.specs.declared.class.Field.{Field}
use Rattle.jdwp_values.specs.declared.class.Method.{Method}
use Rattle.jdwp_values.specs.declared.id.ClassId.{ClassId}
use Rattle.machine_model.specs.Apart.{are_apart, is_new, was_asked}
use Rattle.machine_model.specs.Due.{asked_by, asked_hand, lacked_by, lacking_more, load_of, newly_lacked, queued}
use Rattle.machine_model.specs.Due.{is_listed, way, with_want, with_wants, asked_now, behind_first, Load, clear}
use Rattle.machine_model.specs.Due.{greeted_by, queueing, sized_by as due_sized}
use Rattle.machine_model.specs.Facts.{above_in, fields_in, methods_in}
use Rattle.machine_model.specs.Ids.{Id, class, ids_of, ids_replied, thread_of}
use Rattle.machine_model.specs.Lookups.{found_for}
use Rattle.machine_model.specs.Plans.{Need, answer_in, asks_for, lacking, lacks, question_of}
use Rattle.machine_model.specs.Replying.{replied_machine, is_failed, IsReply, ended_with, filled, given_up}
use Rattle.machine_model.specs.Replying.{hand_replied, is_waiting, knows_fact, learnt, pending_in, shows_end, sizes_in}
use Rattle.machine_model.specs.Replying.{told_by, unanswered, unless_failed, unanswered_effect, waits_for}
use Rattle.machine_model.specs.Replying.{still_unlisted, with_heard}
use Rattle.machine_model.specs.Runs.{MayQueue, Message, to_ask}
use Rattle.machine_model.specs.Spelling.{listed, all_sizes, first_sizes, sizes_by, sizes_replied}
use Rattle.machine_model.specs.State.{Hand, Machine, SizesRead, State, is_attached, is_gone, is_none, is_some}
use Rattle.machine_model.proofs.IdRows.{all_front, all_joined, all_weak}
use Rattle.machine_model.proofs.KeyLaws.{is_one}
use Rattle.machine_model.proofs.PlanIds.{AreKnown, IsAsked, IsGood, IsHeard, IsHeardOf, IsWanted, NeedStands, is_sizes}
use Rattle.machine_model.proofs.PlanIds.{put_all, put_key, reply_heard}
use Rattle.machine_model.specs.Keys.{same_question}
use Rattle.machine_steps.specs.Names.{Answer, Guard, Handshake, IdSizes, Part, Phase, Question, Replied, Sent}
use Rattle.machine_steps.specs.Names.{TargetCommand, Want, a_question, an_effect}
use Rattle.machine_steps.proofs.Stepping.{Loses, all_to_ask, holds_hand}
use Rattle.machine_steps.proofs.Testing.{same_replied}
use Rattle.machine_steps.proofs.StandingMoves.{in_any_order, looks_stand, sized_by}
use Rattle.machine_steps.proofs.Standing.{IsKept, Kept, KeptHand, Near, asked_in, by_command, by_sent, by_want, one_if}
use Rattle.machine_steps.proofs.Standing.{put_back, queue_in, same_sizes, sizes_more, taken_out, total}
use Rattle.class_tables.specs.declared.loaded.Loaded.{Loaded}
use Rattle.jdwp_commands.specs.declared.listed.LoadedClass.{LoadedClass}
use Rattle.machine_model.specs.Classes.{classes_in, with_listed}
use Rattle.std.specs.Prelude.{fold}
use Rattle.machine_model.proofs.Bools.{second_holds}
use Rattle.std.proofs.lemmas.Bool.{not-true}
use Rattle.machine_steps.proofs.RestLaws.{near_queue}
use Rattle.machine_steps.proofs.SizeLaws.{good_answer}

-- Numbers -------------------------------------------------------------------------------------------------------------

total_joined : {A : Type 0} (count : A → ℕ) (xs ys : List A) → total count (xs ++ ys) ≡ total count xs + total count ys
total_joined count [] ys = omega arith
total_joined count (x ∷ xs) ys = omega (arith, total_joined count xs ys)

-- a question that is IDSizes by its key is that one
pub sizes_is : (question : Question) → is_sizes question ≡ true → question ≡ questions.IdSizes
sizes_is question is = grind (arith, is)

none_waits : (asked : List Sent) → is_waiting questions.IdSizes asked ≡ false → total by_sent asked ≡ 0
none_waits [] is = refl
none_waits (sent ∷ asked) is = grind (arith, is, none_waits asked)

one_waits : (asked : List Sent) → is_waiting questions.IdSizes asked ≡ true → 1 ≤ total by_sent asked
one_waits [] is = cc
one_waits (sent ∷ asked) is = grind (arith, is, one_waits asked)

none_listed : (queue : List Want) → is_listed questions.IdSizes queue ≡ false → total by_want queue ≡ 0
none_listed [] is = refl
none_listed (want ∷ queue) is = grind (arith, is, none_listed queue)

-- what is to be asked takes the question of the sizes once
few_more : (asked : List Sent) (queue : List Want) (want : Want) → total by_want queue + total by_sent asked ≤ 1
    → total by_want (with_want asked queue want) + total by_sent asked ≤ 1
few_more asked queue want h = grind (
  arith,
  h,
  total_joined by_want queue
      (want ∷ []),
  none_listed queue,
  none_waits asked,
  sizes_is (question_of want),
)

few_all : (asked : List Sent) (queue wants : List Want) → total by_want queue + total by_sent asked ≤ 1
    → total by_want (with_wants asked queue wants) + total by_sent asked ≤ 1
few_all asked queue [] h = h
few_all asked queue (want ∷ wants) h = few_all asked (with_want asked queue want) wants (few_more asked queue want h)

-- What is to be asked -------------------------------------------------------------------------------------------------

all_taken : (Good : Want → Type 0) (asked : List Sent) (queue wants : List Want) → All Good queue → All Good wants
    → All Good (with_wants asked queue wants)
all_taken Good asked queue [] h k = h
all_taken Good asked queue (want ∷ wants) h k =
    all_taken Good asked (with_want asked queue want) wants
    (by_test (is_waiting (question_of want) asked || is_listed (question_of want) queue)) k.1
  where
    by_test : (known : Bool) → All Good (cond known queue (queue ++ want ∷ []))
    by_test true = h
    by_test false = all_joined Good queue (want ∷ []) h (k.0, tt)

lacking_all : {A : Type 0} (P : Id → Type 0) (Good : A → Type 0) (found : Need A) → NeedStands P Good found
    → All (IsWanted P true) (lacking found)
lacking_all P Good (lacks want others) h = h
lacking_all P Good _ h = tt

guard_all : (P : Id → Type 0) (guard : Guard) (state : State)
    → All (IsWanted P (is_some state.sizes)) (asked_by (way guard state))
guard_all P IdSizes state = by_sizes state.sizes
  where
    by_sizes : (sizes : Option SizesRead) → All (IsWanted P (is_some sizes)) (asked_by (due_sized sizes))
    by_sizes None = (record { ids = tt; plain = refl; first = refl }, tt)
    by_sizes (Some sizes) = tt
guard_all P Handshake state = by_tests state.greeting_sent state.greeting_heard
  where
    by_tests : (sent heard : Bool) → All (IsWanted P (is_some state.sizes)) (asked_by (greeted_by sent heard))
    by_tests false heard = tt
    by_tests true false = tt
    by_tests true true = tt

lacked_all : {P : Id → Type 0} {state : State} {queue : List Want} (hand : Hand) (left : List Part)
    → P (class 0) → Near P state left queue hand.asked
    → All (IsWanted P (is_some state.sizes)) (lacked_by state hand left)
lacked_all {P} {state} hand (Part.Looks lookup ∷ rest) null n =
    let sized = sized_by (is_some state.sizes) (is_attached state.phase) (Part.Looks lookup) rest n.order refl refl in
    subst (λ sized. All (IsWanted P sized) (lacking (found_for lookup state hand))) (sym sized)
    (lacking_all P (IsGood P) (found_for lookup state hand) (looks_stand hand lookup null n sized n.parts.0))
lacked_all {P} {state} hand (Part.Awaits guard ∷ rest) null n = guard_all P guard state
lacked_all hand _ null n = tt

none_of : (P : Id → Type 0) (queue : List Want) → All (IsWanted P true) queue → total by_want queue ≡ 0
none_of P [] h = refl
none_of P (want ∷ queue) h = let one : by_want want ≡ 0 = ap one_if h.0.first in omega (arith, one, none_of P queue h.1)

near_by : (gone : Bool) (load other : Load) → cond gone clear load ≡ other → (clear ≡ other → gone ≡ false)
    → gone ≡ false
near_by true load other is apart = apart is
near_by false load other is apart = refl

pub queued_near : (m : Machine) → load_of m ≡ queued → is_gone m.state.phase ≡ false
unfolding load_of
queued_near m is = near_by (is_gone m.state.phase) _ queued is (λ no. cc)

-- sizes that are known were replied, and else none were
known_once : (sizes : List SizesRead) → is_some (first_sizes sizes) ≡ true → 1 ≤ length sizes
known_once [] is = cc
known_once (one ∷ later) is = omega arith

none_known : (sizes : List SizesRead) → is_some (first_sizes sizes) ≡ false → length sizes ≡ 0
none_known sizes is = grind (arith, is)

new_few : {P : Id → Type 0} {messages : List Message} {state : State} (hand : Hand) {late : List TargetCommand}
    (sized : Bool) → P (class 0) → KeptHand P messages state (Some hand) late → is_gone state.phase ≡ false
    → is_some state.sizes ≡ sized
    → length (all_sizes messages) + total by_want (with_wants hand.asked [] (lacked_by state hand hand.parts))
    + total by_sent hand.asked ≤ 1
new_few {P} {messages} {state} hand true null k near sized =
    let wants = subst (λ sized. All (IsWanted P sized) (lacked_by state hand hand.parts)) sized
    (lacked_all hand hand.parts null (k.near near)) in
    let zero = none_of P (with_wants hand.asked [] (lacked_by state hand hand.parts))
    (all_taken (IsWanted P true) hand.asked [] (lacked_by state hand hand.parts) tt wants) in
    let old = k.once in omega (arith, zero, old)
new_few {P} {messages} {state} hand false null k near sized =
    let none = none_known (all_sizes messages) (ap is_some (sym (k.sizes near)) ∙ sized) in
    let old = k.once in
    let all = few_all hand.asked [] (lacked_by state hand hand.parts) (omega (arith, old)) in
    omega (arith, none, all)

pub queued_kept : {P : Id → Type 0} {messages : List Message} (m : Machine) {hand : Hand} → P (class 0)
    → IsKept P messages m → load_of m ≡ lacking_more → m.hand ≡ Some hand → IsKept P messages (queueing m hand)
unfolding newly_lacked
queued_kept {P} {messages} m {hand} null kept load is =
    let k = taken_out m kept is in
    let gone = near_queue m load in
    let n = k.near gone in
    let late : total by_command m.late ≡ 0 = ap (total by_command) (k.none_late gone) in
    let few = new_few hand (is_some m.state.sizes) null k gone refl in
    record {
      once = omega (arith, late, few);
      sizes = k.sizes;
      none_late = k.none_late;
      near = λ near. record {
        classes = n.classes;
        wanted = n.wanted;
        order = n.order;
        parts = n.parts;
        wants = all_taken (IsWanted P (is_some m.state.sizes)) hand.asked [] (lacked_by m.state hand hand.parts) tt
            (lacked_all hand hand.parts null n);
        replies = n.replies;
      };
    }

-- a queue in which each question is new takes that of the sizes once, and not where it was asked
apart_few : (asked : List Sent) (queue : List Want) → are_apart asked queue ≡ true → total by_sent asked ≤ 1
    → total by_want queue + total by_sent asked ≤ 1
apart_few asked [] apart few = omega (arith, few)
apart_few asked (want ∷ queue) apart few =
    by_sizes (is_sizes (question_of want)) refl (is_new want asked) refl (is_listed (question_of want) queue) refl apart
    (λ others. apart_few asked queue others few)
  where
    none_asked : (asked : List Sent) → was_asked questions.IdSizes asked ≡ false → total by_sent asked ≡ 0
    none_asked [] is = refl
    none_asked (sent ∷ asked) is = grind (arith, is, none_asked asked)

    by_sizes : (one : Bool) → is_sizes (question_of want) ≡ one → (new : Bool) → is_new want asked ≡ new
        → (listed : Bool) → is_listed (question_of want) queue ≡ listed
        → cond new (cond listed false (are_apart asked queue)) false ≡ true
        → (are_apart asked queue ≡ true → total by_want queue + total by_sent asked ≤ 1)
        → one_if (is_sizes (question_of want)) + total by_want queue + total by_sent asked ≤ 1
    by_sizes false other true once false alone others rest =
        let none : one_if (is_sizes (question_of want)) ≡ 0 = ap one_if other in
        let fit = rest others in omega (arith, none, fit)
    by_sizes true is true once false alone others rest =
        let same = sizes_is (question_of want) is in
        let one : one_if (is_sizes (question_of want)) ≡ 1 = ap one_if is in
        let none = none_listed queue (ap (λ (q : Question). is_listed q queue) (sym same) ∙ alone) in
        let first = none_asked asked (not-true (was_asked questions.IdSizes asked)
        (ap (λ (q : Question). not (was_asked q asked)) (sym same) ∙ once)) in
        omega (arith, one, none, first)
    by_sizes one is new once listed alone others rest = cc

-- what is to be asked is put anew
pub anew_kept : {P : Id → Type 0} {messages : List Message} (m : Machine) (hand : Hand) {queue : List Want}
    → P (class 0) → MayQueue m hand queue → IsKept P messages (holds_hand m hand)
    → IsKept P messages (to_ask m hand queue)
anew_kept {P} {messages} m hand {queue} null may k =
    let n = k.near may.near in
    let wants = all_to_ask (IsWanted P (is_some m.state.sizes)) may (lacked_all hand hand.parts null n) in
    let late : total by_command m.late ≡ 0 = ap (total by_command) (k.none_late may.near) in
    let few = by_sizes (is_some m.state.sizes) refl wants in
    record {
      once = omega (arith, late, few);
      sizes = k.sizes;
      none_late = k.none_late;
      near = λ near. record {
        classes = n.classes;
        wanted = n.wanted;
        order = n.order;
        parts = n.parts;
        wants = wants;
        replies = n.replies;
      };
    }
  where
    by_sizes : (sized : Bool) → is_some m.state.sizes ≡ sized → All (IsWanted P sized) queue
        → length (all_sizes messages) + total by_want queue + total by_sent hand.asked ≤ 1
    by_sizes true sized wants = let zero = none_of P queue wants in let old = k.once in omega (arith, zero, old)
    by_sizes false sized wants =
        let none = none_known (all_sizes messages) (ap is_some (sym (k.sizes may.near)) ∙ sized) in
        let old = k.once in
        let all = apart_few hand.asked queue may.apart (omega (arith, old)) in
        omega (arith, none, all)

asked_first : (P : Id → Type 0) (sized : Bool) (want : Want) → IsWanted P sized want
    → IsAsked P sized (record { want = want; reply = None })
asked_first P sized want w = record { reply = tt; first = by_sized sized w.first }
  where
    by_sized : (sized : Bool) → is_sizes (question_of want) ≡ not sized
        → cond sized true (is_sizes (question_of want)) ≡ true
    by_sized sized is = grind (arith, is)

asked_on : {P : Id → Type 0} {messages : List Message} {state : State} {left : List Part} {want : Want}
    {wants : List Want} {asked : List Sent} {late : List TargetCommand} → Kept P messages state left
    (want ∷ wants) asked late
    → Kept P (messages ++ Message.sends (a_question (question_of want)) ∷ []) state left wants
    (asked ++ record { want = want; reply = None } ∷ []) late
asked_on {P} {messages} {state} {left} {want} {wants} {asked} k =
    let said : Option Message = Some (Message.sends (a_question (question_of want))) in
    record {
      once = rw (same_sizes messages said refl, total_joined by_sent asked (record { want = want; reply = None } ∷ []))
          (let old = k.once in omega (arith, old));
      sizes = λ near. k.sizes near ∙ ap first_sizes (sym (same_sizes messages said refl));
      none_late = k.none_late;
      near = λ near. let n = k.near near in record {
        classes = n.classes;
        wanted = n.wanted;
        order = n.order;
        parts = n.parts;
        wants = n.wants.1;
        replies = all_joined (IsAsked P (is_some state.sizes)) asked
            (record { want = want; reply = None } ∷ []) n.replies
            (asked_first P (is_some state.sizes) want n.wants.0, tt);
      };
    }

pub asked_kept : {P : Id → Type 0} {messages : List Message}
    (m : Machine) {hand : Hand} {want : Want} {wants : List Want}
    → IsKept P messages m → m.hand ≡ Some hand → hand.queue ≡ want ∷ wants
    → IsKept P (messages ++ Message.sends (a_question (question_of want)) ∷ []) (asked_now m want)
asked_kept {P} {messages} m {hand} {want} {wants} k is are =
    put_back (asked_hand want) is
    (subst (λ queue. Kept P (messages ++ Message.sends (a_question (question_of want)) ∷ []) m.state hand.parts queue
    (hand.asked ++ record { want = want; reply = None } ∷ []) m.late) (sym (ap behind_first are))
    (asked_on (subst (λ queue. Kept P messages m.state hand.parts queue hand.asked m.late) are (taken_out m k is))))

-- Replies -------------------------------------------------------------------------------------------------------------

filled_fewer : (question : Question) (replied : Replied) (asked : List Sent)
    → total by_sent (filled question replied asked) ≤ total by_sent asked
filled_fewer question replied [] = omega arith
filled_fewer question replied (sent ∷ asked) = grind (arith, filled_fewer question replied asked)

filled_one : (replied : Replied) (asked : List Sent) → is_waiting questions.IdSizes asked ≡ true
    → total by_sent (filled questions.IdSizes replied asked) + 1 ≤ total by_sent asked
filled_one replied [] is = cc
filled_one replied (sent ∷ asked) is = grind (arith, is, filled_one replied asked)

-- a reply to the question of the sizes closes it
filled_few : (question : Question) (replied : Replied) (asked : List Sent) → is_waiting question asked ≡ true
    → total by_sent (filled question replied asked) + one_if (is_sizes question) ≤ total by_sent asked
filled_few question replied asked waits = by_kind (is_sizes question) refl
  where
    by_kind : (is : Bool) → is_sizes question ≡ is
        → total by_sent (filled question replied asked) + one_if (is_sizes question) ≤ total by_sent asked
    by_kind true is = subst (λ (q : Question). total by_sent (filled q replied asked) + one_if
        (is_sizes q) ≤ total by_sent asked)
        (sym (sizes_is question is)) (filled_one replied asked
        (subst (λ (q : Question). is_waiting q asked ≡ true) (sizes_is question is) waits))
    by_kind false is = rw is (let few = filled_fewer question replied asked in omega (arith, few))

listed_few : (sizes : Option SizesRead) → length (listed sizes) ≤ 1
listed_few None = omega arith
listed_few (Some sizes) = omega arith

said_few : (command : TargetCommand) (replied : Replied)
    → length (sizes_by (Message.answers command replied)) ≤ by_command command
said_few (a_question questions.IdSizes) replied = listed_few (sizes_in replied)
said_few _ replied = omega arith

unless_fewer : (failed : Bool) (queue : List Want) → total by_want (unless_failed failed queue) ≤ total by_want queue
unless_fewer true queue = omega arith
unless_fewer false queue = omega arith

filled_all : (P : Id → Type 0) (sized : Bool) (question : Question) (replied : Replied) (asked : List Sent)
    → All P (ids_replied (thread_of question) replied) → All (IsAsked P sized) asked
    → All (IsAsked P sized) (filled question replied asked)
filled_all P sized question replied [] r h = tt
filled_all P sized question replied (sent ∷ asked) r h =
    by_test (waits_for sent question) refl (filled_all P sized question replied asked r h.1)
  where
    by_test : (waits : Bool) → waits_for sent question ≡ waits → All (IsAsked P sized) (filled question replied asked)
        → All (IsAsked P sized)
        (cond waits (record sent { reply = Some replied } ∷ asked) (sent ∷ filled question replied asked))
    by_test true is rest = (
      record {
        reply = subst (λ (q : Question). All P (ids_replied (thread_of q) replied))
            (sym (is_one (question_of sent.want) question (second_holds (is_none sent.reply) (asks_for sent question) is))) r;
        first = h.0.first;
      },
      h.1,
    )
    by_test false is rest = (h.0, rest)

unless_all : (Good : Want → Type 0) (failed : Bool) (queue : List Want) → All Good queue → All Good
    (unless_failed failed queue)
unless_all Good true queue h = tt
unless_all Good false queue h = h

-- a list of all classes says nothing else of them
pub only_loaded : (classes : List LoadedClass) (known : Known)
    → fold with_listed known classes ≡ record known { loaded = (fold with_listed known classes).loaded }
only_loaded [] known = refl
only_loaded (c ∷ classes) known = only_loaded classes (with_listed known c)

-- the ids of classes that are listed
pub loaded_known : (P : Id → Type 0) (classes : List LoadedClass) (known : Known)
    → All (λ (c : LoadedClass). P (class c.class.0)) classes → AreKnown P known
    → AreKnown P (fold with_listed known classes)
loaded_known P classes known r h = subst (AreKnown P) (sym (only_loaded classes known)) (record {
  loaded = each_listed classes known r h.loaded;
  methods = h.methods;
  fields = h.fields;
  supers = h.supers;
})
  where
    each_listed : (classes : List LoadedClass) (known : Known) → All (λ (c : LoadedClass). P (class c.class.0)) classes
        → All (λ (entry : ClassId × Loaded). P (class entry.0.0)) known.loaded
        → All (λ (entry : ClassId × Loaded). P (class entry.0.0)) (fold with_listed known classes).loaded
    each_listed [] known r h = h
    each_listed (c ∷ classes) known r h = each_listed classes (with_listed known c) r.1
        (put_key (λ (c : ClassId). P (class c.0)) same_class c.class _ known.loaded r.0 h)

-- the facts of classes that an answer tells
heard_known : (P : Id → Type 0) → P (class 0) → (question : Question) (heard : Option Answer) (known : Known)
    → IsHeardOf P question heard → AreKnown P known → AreKnown P (with_heard question heard known)
heard_known P null questions.AllClasses heard known r h =
    loaded_known P (classes_in heard) known (by_heard heard r) h
  where
    by_heard : (heard : Option Answer) → IsHeard P heard → All (λ (c : LoadedClass). P (class c.class.0))
        (classes_in heard)
    by_heard (Some (answers.AllClasses (c ∷ classes))) r = (r.0, by_heard (Some (answers.AllClasses classes)) r.1)
    by_heard _ r = tt
heard_known P null (questions.Methods c) heard known r h = record {
  loaded = h.loaded;
  methods = put_all (λ (found : List Method). All P (flat_map (ids_of method_row) found)) same_class c
      (methods_in heard)
      known.methods (by_heard heard r) h.methods;
  fields = h.fields;
  supers = h.supers;
}
  where
    by_heard : (heard : Option Answer) → IsHeard P heard → All P (flat_map (ids_of method_row) (methods_in heard))
    by_heard (Some (answers.Methods found)) r = all_front P (flat_map (ids_of method_row) found) [] r
    by_heard _ r = tt
heard_known P null (questions.Fields c) heard known r h = record {
  loaded = h.loaded;
  methods = h.methods;
  fields = put_all (λ (found : List Field). All P (flat_map (ids_of field_row) found)) same_class c (fields_in heard)
      known.fields (by_heard heard r) h.fields;
  supers = h.supers;
}
  where
    by_heard : (heard : Option Answer) → IsHeard P heard → All P (flat_map (ids_of field_row) (fields_in heard))
    by_heard (Some (answers.Fields found)) r = all_front P (flat_map (ids_of field_row) found) [] r
    by_heard _ r = tt
heard_known P null (questions.Superclass c) heard known r h = record {
  loaded = h.loaded;
  methods = h.methods;
  fields = h.fields;
  supers = put_all (λ (above : ClassId). P (class above.0)) same_class c (above_in heard) known.supers
      (by_heard heard r)
      h.supers;
}
  where
    by_heard : (heard : Option Answer) → IsHeard P heard → P (class (above_in heard).0)
    by_heard (Some (answers.Superclass above)) r = r.0
    by_heard _ r = null
heard_known P null (questions.SourceFile c) heard known r h =
    record { loaded = h.loaded; methods = h.methods; fields = h.fields; supers = h.supers }
heard_known P null (questions.LineTable c method) heard known r h =
    record { loaded = h.loaded; methods = h.methods; fields = h.fields; supers = h.supers }
heard_known P null (questions.VariableTable c method) heard known r h =
    record { loaded = h.loaded; methods = h.methods; fields = h.fields; supers = h.supers }
heard_known P null _ heard known r h = h

learnt_known : (P : Id → Type 0) → P (class 0) → (question : Question) (heard : Option Answer) (known : Known)
    → IsHeardOf P question heard → AreKnown P known → AreKnown P (learnt question heard known)
learnt_known P null question heard known r h = by_known (knows_fact question known)
  where
    by_known : (knows : Bool) → AreKnown P (cond knows known (with_heard question heard known))
    by_known true = h
    by_known false = heard_known P null question heard known r h

told_learns : (question : Question) (replied : Replied) (state : State) → is_sizes question ≡ false
    → told_by question replied state ≡ record state {
      classes = learnt question (answer_in replied) state.classes;
      unlisted = still_unlisted question state.unlisted;
    }
told_learns question replied state is = grind (arith, is)

-- before the sizes are known nothing else is waited for
pub only_sizes : (P : Id → Type 0) (question : Question) (asked : List Sent) → All (IsAsked P false) asked
    → is_waiting question asked ≡ true → is_sizes question ≡ true
only_sizes P question [] h waits = cc
only_sizes P question (sent ∷ asked) h waits =
    by_test (is_none sent.reply) (asks_for sent question) refl waits (only_sizes P question asked h.1)
  where
    as_sizes : (question : Question) → same_question questions.IdSizes question ≡ true → is_sizes question ≡ true
    as_sizes question is = grind (arith, is)

    by_test : (open_one asks : Bool) → asks_for sent question ≡ asks
        → (cond open_one asks false || is_waiting question asked) ≡ true
        → (is_waiting question asked ≡ true → is_sizes question ≡ true) → is_sizes question ≡ true
    by_test true true asks waits rest = as_sizes question
        (subst (λ (q : Question). same_question q question ≡ true) (sizes_is (question_of sent.want) h.0.first) asks)
    by_test _ _ _ waits rest = rest waits

-- What a reply to a question leaves -----------------------------------------------------------------------------------

sizes_given : (sizes : Option SizesRead) (phase : Phase) (replied : Replied) → IsReply sizes
    (a_question questions.IdSizes) replied
    → is_gone phase ≡ false → shows_end phase (a_question questions.IdSizes) replied ≡ false → is_some
    (sizes_in replied) ≡ true
sizes_given sizes phase replied (IsReply.with_answer {answer} used serves is good) near last = good_answer answer is.row
sizes_given sizes phase replied (IsReply.with_error some tolerated) near last = grind (arith, tolerated, near, last)

sizes_long : (messages : List Message) (message : Message)
    → length (all_sizes (messages ++ message ∷ [])) ≡ length (all_sizes messages) + length (sizes_by message)
sizes_long messages message = ap length (sizes_more messages (Some message)) ∙ length-append (all_sizes messages)
    (sizes_by message)

first_more : (all : List SizesRead) (sizes : Option SizesRead) → length all ≡ 0 → first_sizes
    (all ++ listed sizes) ≡ sizes
first_more [] None none = refl
first_more [] (Some sizes) none = refl
first_more (one ∷ all) sizes none = absurd (omega arith)

empty_queue : (P : Id → Type 0) (queue : List Want) → All (IsWanted P false) queue → total by_want queue ≡ 0
    → queue ≡ []
empty_queue P [] h none = refl
empty_queue P (want ∷ queue) h none = let one : by_want want ≡ 1 = ap one_if h.0.first in absurd (omega arith)

module _ {P : Id → Type 0} {messages : List Message} {state : State} {left : List Part} {queue : List Want}
    {asked : List Sent} {late : List TargetCommand} (replied : Replied) (failed : Bool)
    (k : Kept P messages state left queue asked late) where
  -- what is known and stands once the question is replied to
  record Later (question : Question) (next : State) : Type 0 where
    sizes : next.sizes ≡ sizes_replied (messages ++ Message.answers (a_question question) replied ∷ [])
    near : Near P next left (unless_failed failed queue) (filled question replied asked)

  later_sizes : All P (ids_replied (thread_of questions.IdSizes) replied) → is_waiting questions.IdSizes asked ≡ true
      → is_some (sizes_in replied) ≡ true → is_gone state.phase ≡ false
      → Later questions.IdSizes (told_by questions.IdSizes replied state)
  later_sizes brought waits given near = by_sizes (is_some state.sizes) refl
    where
      by_sizes : (sized : Bool) → is_some state.sizes ≡ sized
          → Later questions.IdSizes (told_by questions.IdSizes replied state)
      by_sizes true sized =
          let once = known_once (all_sizes messages) (ap is_some (sym (k.sizes near)) ∙ sized) in
          let one = one_waits asked waits in let all = k.once in absurd (omega (arith, once, one, all))
      by_sizes false sized =
          let n = k.near near in
          let none = none_known (all_sizes messages) (ap is_some (sym (k.sizes near)) ∙ sized) in
          let one = one_waits asked waits in
          let all = k.once in
          let empty : queue ≡ [] = empty_queue P queue (subst (λ sized. All (IsWanted P sized) queue) sized n.wants)
          (omega (arith, one, all)) in
          record {
            sizes = sym (first_more (all_sizes messages) (sizes_in replied) none)
                ∙ ap first_sizes (sym (sizes_more messages (Some (Message.answers
                (a_question questions.IdSizes) replied))));
            near = record {
              classes = n.classes;
              wanted = n.wanted;
              order = in_any_order _ _ left given;
              parts = n.parts;
              wants = rw empty (unless_all (IsWanted P (is_some (sizes_in replied))) failed [] tt);
              replies = rw given (filled_all P true questions.IdSizes replied asked brought
                  (all_weak (IsAsked P (is_some state.sizes)) (IsAsked P true)
                  (λ sent a. record { reply = a.reply; first = refl }) asked n.replies));
            };
          }

  later_other : (question : Question) → All P (ids_replied (thread_of question) replied) → P (class 0)
      → is_sizes question ≡ false
      → sizes_by (Message.answers (a_question question) replied) ≡ [] → is_gone state.phase ≡ false
      → Later question (told_by question replied state)
  later_other question brought null other quiet near =
      let n = k.near near in
      subst (λ next. Later question next) (sym (told_learns question replied state other)) (record {
        sizes = k.sizes near
            ∙ ap first_sizes (sym (same_sizes messages (Some (Message.answers (a_question question) replied)) quiet));
        near = record {
          classes = learnt_known P null question (answer_in replied) state.classes
              (reply_heard P question replied brought) n.classes;
          wanted = n.wanted;
          order = n.order;
          parts = n.parts;
          wants = unless_all (IsWanted P (is_some state.sizes)) failed queue n.wants;
          replies = filled_all P (is_some state.sizes) question replied asked brought n.replies;
        };
      })

  later : (question : Question) → All P (ids_replied (thread_of question) replied) → P (class 0)
      → is_waiting question asked ≡ true → IsReply state.sizes (a_question question) replied
      → shows_end state.phase (a_question question) replied ≡ false → is_gone state.phase ≡ false
      → Later question (told_by question replied state)
  later questions.IdSizes brought null waits reply last near =
      later_sizes brought waits (sizes_given state.sizes state.phase replied reply near last) near
  later question brought null waits reply last near = later_other question brought null refl refl near

pub answered_kept : {P : Id → Type 0} {messages : List Message} (m : Machine) {hand : Hand} (question : Question)
    (replied : Replied) → P (class 0) → IsKept P messages m → m.hand ≡ Some hand → is_waiting question hand.asked ≡ true
    → IsReply m.state.sizes (a_question question) replied → shows_end m.state.phase
    (a_question question) replied ≡ false
    → (is_gone m.state.phase ≡ false → All P (ids_replied (thread_of question) replied))
    → IsKept P (messages ++ Message.answers (a_question question) replied ∷ []) (replied_machine m
    (a_question question) replied)
answered_kept {P} {messages} m {hand} question replied null kept is waits reply last brought =
    let k = taken_out m kept is in
    let failed = is_failed question replied hand.asked in
    let back : is_gone (told_by question replied m.state).phase ≡ false → is_gone m.state.phase ≡ false =
    λ near. ap is_gone (sym (same_replied (a_question question) replied m.state)) ∙ near in
    put_back (hand_replied (a_question question) replied) is (record {
      once = rw (sizes_long messages (Message.answers (a_question question) replied))
          (let old = k.once in let said = said_few (a_question question) replied in
          let few = filled_few question replied hand.asked waits in let fewer = unless_fewer failed hand.queue in
          omega (arith, old, said, few, fewer));
      none_late = λ near. k.none_late (back near);
      sizes = λ near. (later replied failed k question (brought (back near)) null waits reply last (back near)).sizes;
      near = λ near. (later replied failed k question (brought (back near)) null waits reply last (back near)).near;
    })

-- The target's end, and late replies ----------------------------------------------------------------------------------

asked_few : (asked : List Sent) → total by_command (flat_map unanswered asked) ≤ total by_sent asked
asked_few [] = omega arith
asked_few (sent ∷ asked) =
    grind (arith, asked_few asked, total_joined by_command (unanswered sent) (flat_map unanswered asked))

pending_few : (hand : Option Hand) → total by_command (pending_in hand) ≤ total by_sent (asked_in hand)
pending_few None = omega arith
pending_few (Some hand) = grind (
  arith,
  asked_few hand.asked,
  total_joined by_command (flat_map unanswered hand.asked) (unanswered_effect hand.effect),
)

given_up_none : (hand : Option Hand) → total by_want (queue_in (option_map given_up hand))
    + total by_sent (asked_in (option_map given_up hand)) ≡ 0
given_up_none hand = grind arith

-- what is left pending has the question of the sizes no more often than it was asked
lost_few : {m : Machine} (message : Message) (late : List TargetCommand) → Loses m message late
    → length (sizes_by message) + total by_command late ≤ total by_sent (asked_in m.hand)
lost_few {m} message late Loses.by_end = let few = pending_few m.hand in omega (arith, few)
lost_few {m} message late (Loses.by_question {question} {replied} {hand} is waits reply last) =
    subst (λ held. length (sizes_by (Message.answers (a_question question) replied))
    + total by_command (pending_in (option_map (hand_replied (a_question question) replied) held))
    ≤ total by_sent (asked_in held)) (sym is)
    (let few = pending_few (Some (hand_replied (a_question question) replied hand)) in
    let said = said_few (a_question question) replied in let one = filled_few question replied hand.asked waits in
    omega (arith, few, said, one))
lost_few {m} message late (Loses.by_effect {effect} {replied} {hand} is flying reply last) =
    subst (λ held. 0 + total by_command (pending_in (option_map (hand_replied (an_effect effect) replied) held))
    ≤ total by_sent (asked_in held)) (sym is)
    (let few = pending_few (Some (hand_replied (an_effect effect) replied hand)) in omega (arith, few))

pub lost_kept : {P : Id → Type 0} {messages : List Message} {m : Machine} (message : Message)
    (late : List TargetCommand)
    → IsKept P messages m → Loses m message late → IsKept P (messages ++ message ∷ []) (ended_with late m)
lost_kept {P} {messages} {m} message late k why = record {
  once = rw (sizes_long messages message, total_joined by_command m.late late)
      (let old = k.once in let few = lost_few message late why in let none = given_up_none m.hand in
      omega (arith, old, few, none));
  sizes = λ near. let no : true ≡ false = near in cc;
  none_late = λ near. let no : true ≡ false = near in cc;
  near = λ near. let no : true ≡ false = near in cc;
}

pub not_empty : (before : List TargetCommand) (command : TargetCommand) (after : List TargetCommand)
    → [] ≡ before ++ command ∷ after → ⊥
not_empty [] command after is = cc
not_empty (first ∷ before) command after is = cc

pub late_kept : {P : Id → Type 0} {messages : List Message} (m : Machine) (command : TargetCommand) (replied : Replied)
    (before after : List TargetCommand) → IsKept P messages m → m.late ≡ before ++ command ∷ after
    → IsKept P (messages ++ Message.answers command replied ∷ []) (record m { late = before ++ after })
late_kept {P} {messages} m command replied before after k is = record {
  once = rw (sizes_long messages (Message.answers command replied), total_joined by_command before after)
      (let old = k.once in let said = said_few command replied in
      let late = ap (total by_command) is ∙ total_joined by_command before (command ∷ after) in
      omega (arith, old, said, late));
  sizes = λ near. absurd (not_empty before command after (sym (k.none_late near) ∙ is));
  none_late = λ near. absurd (not_empty before command after (sym (k.none_late near) ∙ is));
  near = λ near. absurd (not_empty before command after (sym (k.none_late near) ∙ is));
}
