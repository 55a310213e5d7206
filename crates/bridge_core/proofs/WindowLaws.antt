-- The window of pending commands stands by the machine: what each act and each thing that comes makes of both.
use Rattle.std.proofs.Common.{◌≡◌, ℕ, ◌≤◌, Bool, true, false, cond, not, ◌||◌, List, [], ◌∷◌, ◌++◌, length, map}
use Rattle.std.proofs.Common.{Option, Some, None, refl, sym, ap, subst, ◌∙◌, option_map, append-nil, arith}
use Rattle.std.proofs.Common.{nat_le}
use Rattle.std.specs.Prelude.{◌==◌, is_some}
use Rattle.std.proofs.lemmas.List.{length-map, map-append}
use Rattle.std.specs.List.{flat_map, remove}
use Rattle.jdwp_commands.specs.declared.asked.Asked.TheVariants as commands
use Rattle.machine_model.specs.Apart.{is_new, was_asked}
use Rattle.machine_model.specs.Due.{asked_hand, due, is_full}
use Rattle.machine_model.specs.Keys.{same_question}
use Rattle.machine_model.specs.Plans.{asks_for, question_of}
use Rattle.machine_model.specs.Replying.{answered, answered_by, ended, ended_with, filled, given_up, hand_replied}
use Rattle.machine_model.specs.Replying.{is_waiting, pending_in, pending_of, shows_end, unanswered, unanswered_effect}
use Rattle.machine_model.specs.Replying.{waits_for, wire}
use Rattle.machine_model.specs.Runs.{Message, Run, greeting_heard, heard, said, with_item}
use Rattle.machine_model.specs.State.{Hand, Machine, is_gone, is_none}
use Rattle.machine_model.proofs.AskedLaws.{was_filled, was_more}
use Rattle.machine_model.proofs.KeyLaws.{is_one, is_same, same_back}
use Rattle.machine_steps.proofs.HandshakeLaws.{has_handshake}
use Rattle.machine_steps.proofs.KeptLaws.{always_kept, next_new}
use Rattle.machine_steps.proofs.PendingLaws.{all_open}
use Rattle.machine_steps.proofs.Standing.{asked_in}
use Rattle.machine_steps.proofs.Stepping.{Moves, by_runs}
use Rattle.machine_steps.proofs.TurnLaws.{Turns, is_beside, turned}
use Rattle.pending_table.specs.Windows.{Window, id_of, is_full as is_window_full, pending_under, without}
use Rattle.bridge_core.specs.Aligning.{Aligned, commands_of}
use Rattle.bridge_core.proofs.Pending.{IsEffect, IsLate, IsQuestion, place_under, sent_by}
use Rattle.bridge_core.specs.Names.{Act, Asked, Doing, Effect, Item, Question, Replied, Request, Sent, TargetCommand}
use Rattle.bridge_core.specs.Names.{Want, WireEffect, a_question, an_effect}
use Rattle.machine_work.specs.Working.{is_work}
use Rattle.bridge_core.proofs.RunLaws.{gone_silent}
use Rattle.machine_work.proofs.WorkLaws.{due_moves, due_stays}

-- Plain facts of lists ------------------------------------------------------------------------------------------------

-- a window that stands by the machine has as many commands
pub aligned_length : (sent : List (ℕ × Asked)) (m : Machine) → Aligned sent m → length sent ≡ length (pending_of m)
aligned_length sent m is =
    sym (length-map sent (λ (s : ℕ × Asked). s.1)) ∙ ap length is ∙ length-map (pending_of m) wire

-- where the same is pending, the window stands by the machine still
pub aligned_same : (sent : List (ℕ × Asked)) (m next : Machine) → pending_of next ≡ pending_of m → Aligned sent m
    → Aligned sent next
aligned_same sent m next same is = is ∙ ap (map wire) (sym same)

-- where nothing is pending, the window is empty
pub none_sent : (sent : List (ℕ × Asked)) (m : Machine) → pending_of m ≡ [] → Aligned sent m → sent ≡ []
none_sent sent m none is = by_list sent (is ∙ ap (map wire) none)
  where
    by_list : (sent : List (ℕ × Asked)) → commands_of sent ≡ [] → sent ≡ []
    by_list [] is = refl
    by_list (s ∷ sent) is = cc

-- with no item in hand, and nothing late, the window is empty
pub none_held : (sent : List (ℕ × Asked)) (m : Machine) → m.late ≡ [] → m.hand ≡ None → Aligned sent m → sent ≡ []
none_held sent m late none is =
    none_sent sent m
    (ap (λ (before : List TargetCommand). before ++ pending_in m.hand) late ∙ ap pending_in none) is

-- Acts ----------------------------------------------------------------------------------------------------------------

-- the commands that a message sends
abbrev said_sent : Option Message → List TargetCommand
said_sent None = []
said_sent (Some (Message.sends command)) = command ∷ []
said_sent (Some _) = []

abbrev answers_none : Option Message → Bool
answers_none None = true
answers_none (Some (Message.answers command replied)) = false
answers_none (Some _) = true

grown : (pending now : List TargetCommand) (both sent : Bool) (said : Option Message) → answers_none said ≡ true
    → Turns pending both sent said now → now ≡ pending ++ said_sent said
grown pending now both sent None own (Turns.stays beside same) = same ∙ sym (append-nil pending)
grown pending now both sent (Some message) own (Turns.stays beside same) =
    same ∙ sym (append-nil pending)
    ∙ ap (λ (more : List TargetCommand). pending ++ more) (sym (none_said message beside))
  where
    none_said : (message : Message) → is_beside (Some message) ≡ true → said_sent (Some message) ≡ []
    none_said message beside = grind (arith, beside)
grown pending now both sent said own (Turns.greets unsent same) = same ∙ sym (append-nil pending)
grown pending now both sent said own (Turns.asks question shakes room only same) = same
grown pending now both sent said own (Turns.changes effect shakes none same) =
    same ∙ ap (λ (before : List TargetCommand). before ++ an_effect effect ∷ []) (sym none)
grown pending now both sent said own (Turns.answers command replied before after was same) = cc

answers_nothing : (act : Act) → answers_none (said act) ≡ true
answers_nothing act = grind arith

said_by : (act : Act) → said_sent (said act) ≡ sent_by act
said_by act = grind arith

rests_none : (act : Act) → is_work act ≡ false → sent_by act ≡ []
rests_none act is = grind (arith, is)

-- behind an act that is due the commands are pending that were, and those that it sends
pub due_pending : {messages : List Message} {m : Machine} → Run messages m → (id_pending : Bool)
    → pending_of (due id_pending m).next ≡ pending_of m ++ sent_by (due id_pending m).act
due_pending {messages} {m} r id_pending = by_work (is_work (due id_pending m).act) refl
  where
    by_work : (works : Bool) → is_work (due id_pending m).act ≡ works
        → pending_of (due id_pending m).next ≡ pending_of m ++ sent_by (due id_pending m).act
    by_work true is =
        grown (pending_of m) (pending_of (due id_pending m).next) (has_handshake m.state) m.state.greeting_sent
        (said (due id_pending m).act) (answers_nothing (due id_pending m).act)
        (turned m (due id_pending m).next (said (due id_pending m).act) (all_open r).holds (due_moves id_pending m is))
        ∙ ap (λ (more : List TargetCommand). pending_of m ++ more) (said_by (due id_pending m).act)
    by_work false is =
        ap pending_of (due_stays id_pending m is) ∙ sym (append-nil (pending_of m))
        ∙ ap (λ (more : List TargetCommand). pending_of m ++ more) (sym (rests_none (due id_pending m).act is))

sent_aligned : (sent : List (ℕ × Asked)) (id : ℕ) (m next : Machine) (command : TargetCommand)
    → pending_of next ≡ pending_of m ++ command ∷ [] → Aligned sent m
    → Aligned (sent ++ (id, wire command) ∷ []) next
sent_aligned sent id m next command more is =
    map-append (λ (s : ℕ × Asked). s.1) sent ((id, wire command) ∷ [])
    ∙ ap (λ (all : List Asked). all ++ wire command ∷ []) is
    ∙ sym (map-append wire (pending_of m) (command ∷ []))
    ∙ ap (map wire) (sym more)

-- a question is asked
pub asks_aligned : {messages : List Message} {m : Machine} → Run messages m → (id_pending : Bool)
    (question : Question) (sent : List (ℕ × Asked)) (id : ℕ) → (due id_pending m).act ≡ Act.Asks question
    → Aligned sent m
    → Aligned (sent ++ (id, wire (a_question question)) ∷ []) (due id_pending m).next
asks_aligned {messages} {m} r id_pending question sent id is aligned =
    sent_aligned sent id m (due id_pending m).next (a_question question)
    (due_pending r id_pending ∙ ap (λ (act : Act). pending_of m ++ sent_by act) is) aligned

-- an effect is sent
pub sends_aligned : {messages : List Message} {m : Machine} → Run messages m → (id_pending : Bool)
    (effect : Effect) (sent : List (ℕ × Asked)) (id : ℕ) → (due id_pending m).act ≡ Act.Sends effect
    → Aligned sent m
    → Aligned (sent ++ (id, wire (an_effect effect)) ∷ []) (due id_pending m).next
sends_aligned {messages} {m} r id_pending effect sent id is aligned =
    sent_aligned sent id m (due id_pending m).next (an_effect effect)
    (due_pending r id_pending ∙ ap (λ (act : Act). pending_of m ++ sent_by act) is) aligned

-- any other act leaves the window as it is
pub acts_aligned : {messages : List Message} {m : Machine} → Run messages m → (id_pending : Bool)
    (sent : List (ℕ × Asked)) → sent_by (due id_pending m).act ≡ [] → Aligned sent m
    → Aligned sent (due id_pending m).next
acts_aligned {messages} {m} r id_pending sent none aligned =
    aligned_same sent m (due id_pending m).next
    (due_pending r id_pending ∙ ap (λ (more : List TargetCommand). pending_of m ++ more) none
    ∙ append-nil (pending_of m)) aligned

-- What comes ----------------------------------------------------------------------------------------------------------

-- a request is heard
pub heard_aligned : (sent : List (ℕ × Asked)) (m : Machine) (request : Request) → Aligned sent m
    → Aligned sent (heard m request)
heard_aligned sent m request is = is

-- the target's handshake came
pub greeted_aligned : (sent : List (ℕ × Asked)) (m : Machine) → Aligned sent m → Aligned sent (greeting_heard m)
greeted_aligned sent m is = is

-- an item came
pub item_aligned : (sent : List (ℕ × Asked)) (m : Machine) (item : Item) → Aligned sent m
    → Aligned sent (with_item m item)
item_aligned sent m item is = is

-- other items wait
pub items_aligned : (sent : List (ℕ × Asked)) (m : Machine) (items : List Item) → Aligned sent m
    → Aligned sent (record m { waiting = items })
items_aligned sent m items is = is

given_none : (hand : Option Hand) → pending_in (option_map given_up hand) ≡ []
given_none None = refl
given_none (Some hand) = refl

ended_pending : (late : List TargetCommand) (m : Machine) → pending_of (ended_with late m) ≡ m.late ++ late
ended_pending late m =
    ap (λ (more : List TargetCommand). (m.late ++ late) ++ more) (given_none m.hand) ∙ append-nil (m.late ++ late)

-- at the target's end what is pending stays pending
pub end_pending : (gone : Bool) (m : Machine) → pending_of (ended gone m) ≡ pending_of m
end_pending true m = refl
end_pending false m = ended_pending (pending_in m.hand) m

-- the target ends
pub ended_aligned : (sent : List (ℕ × Asked)) (m : Machine) (gone : Bool) → Aligned sent m
    → Aligned sent (ended gone m)
ended_aligned sent m gone is = aligned_same sent m (ended gone m) (end_pending gone m) is

-- The place of a command ----------------------------------------------------------------------------------------------

-- where the command of an id stands in the window
record IsUnder (id : ℕ) (asked : Asked) (sent : List (ℕ × Asked)) : Type 0 where
  front : List (ℕ × Asked)
  back : List (ℕ × Asked)
  sent_are : commands_of sent ≡ commands_of front ++ asked ∷ commands_of back
  without_are : commands_of (without id sent) ≡ commands_of front ++ commands_of back
  place : length front ≡ place_under id sent

under : (id : ℕ) (asked : Asked) (sent : List (ℕ × Asked)) → pending_under id sent ≡ Some asked → IsUnder id asked sent
under id asked [] is = absurd cc
under id asked (s ∷ sent) is = by (s.0 == id) refl (under id asked sent) is
  where
    by : (b : Bool) → (s.0 == id) ≡ b → (pending_under id sent ≡ Some asked → IsUnder id asked sent)
        → cond b (Some s.1) (pending_under id sent) ≡ Some asked → IsUnder id asked (s ∷ sent)
    by true has again e =
        let same : s.1 ≡ asked = cc in
        record {
          front = [];
          back = sent;
          sent_are = ap (λ (a : Asked). a ∷ commands_of sent) same;
          without_are = rw has refl;
          place = rw has refl;
        }
    by false has again e =
        let others = again e in
        record {
          front = s ∷ others.front;
          back = others.back;
          sent_are = ap (λ (l : List Asked). s.1 ∷ l) others.sent_are;
          without_are = rw has (ap (λ (l : List Asked). s.1 ∷ l) others.without_are);
          place = (let more = others.place in rw has (omega arith));
        }

-- where it stands in the machine
record IsAmong (asked : Asked) (front back : List Asked) (pending : List TargetCommand) : Type 0 where
  before : List TargetCommand
  command : TargetCommand
  after : List TargetCommand
  pending_is : pending ≡ before ++ command ∷ after
  is_sent : wire command ≡ asked
  before_are : map wire before ≡ front
  after_are : map wire after ≡ back

among : (asked : Asked) (front back : List Asked) (pending : List TargetCommand)
    → map wire pending ≡ front ++ asked ∷ back → IsAmong asked front back pending
among asked [] back [] is = absurd cc
among asked [] back (command ∷ pending) is = record {
  before = [];
  command = command;
  after = pending;
  pending_is = refl;
  is_sent = cc;
  before_are = refl;
  after_are = cc;
}
among asked (first ∷ front) back [] is = absurd cc
among asked (first ∷ front) back (command ∷ pending) is =
    let same : wire command ≡ first = cc in
    let rest : map wire pending ≡ front ++ asked ∷ back = cc in
    let s = among asked front back pending rest in
    record {
      before = command ∷ s.before;
      command = s.command;
      after = s.after;
      pending_is = ap (λ (more : List TargetCommand). command ∷ more) s.pending_is;
      is_sent = s.is_sent;
      before_are = ap (λ (more : List Asked). wire command ∷ more) s.before_are
          ∙ ap (λ (a : Asked). a ∷ front) same;
      after_are = s.after_are;
    }

-- the command of an id, in both
pub record IsFound (id : ℕ) (asked : Asked) (sent : List (ℕ × Asked)) (pending : List TargetCommand) : Type 0 where
  pub before : List TargetCommand
  pub command : TargetCommand
  pub after : List TargetCommand
  pub pending_is : pending ≡ before ++ command ∷ after
  pub is_sent : wire command ≡ asked
  pub place : length before ≡ place_under id sent
  pub left : commands_of (without id sent) ≡ map wire (before ++ after)

pub found : (id : ℕ) (asked : Asked) (sent : List (ℕ × Asked)) (pending : List TargetCommand)
    → commands_of sent ≡ map wire pending → pending_under id sent ≡ Some asked → IsFound id asked sent pending
found id asked sent pending is has =
    let u = under id asked sent has in
    let a = among asked (commands_of u.front) (commands_of u.back) pending (sym is ∙ u.sent_are) in
    record {
      before = a.before;
      command = a.command;
      after = a.after;
      pending_is = a.pending_is;
      is_sent = a.is_sent;
      place = sym (length-map a.before wire) ∙ ap length a.before_are
          ∙ length-map u.front (λ (s : ℕ × Asked). s.1) ∙ u.place;
      left = u.without_are ∙ ap (λ (front : List Asked). front ++ commands_of u.back) (sym a.before_are)
          ∙ ap (λ (back : List Asked). map wire a.before ++ back) (sym a.after_are)
          ∙ sym (map-append wire a.before a.after);
    }

-- Each question is asked once -----------------------------------------------------------------------------------------

-- no question stands among them twice
abbrev pub are_once : List Sent → Bool
are_once [] = true
are_once (one ∷ asked) = cond (was_asked (question_of one.want) asked) false (are_once asked)

once_last : (asked : List Sent) (want : Want) → is_new want asked ≡ true → are_once asked ≡ true
    → are_once (asked ++ record { want = want; reply = None } ∷ []) ≡ true
once_last [] want new h = refl
once_last (one ∷ asked) want new h =
    rw (was_more (question_of one.want) want asked, same_back (question_of want) (question_of one.want))
    (by_bools (was_asked (question_of one.want) asked) (same_question (question_of one.want) (question_of want))
    (was_asked (question_of want) asked) (are_once asked) _ h new (λ n k. once_last asked want n k))
  where
    by_bools : (was same there once more : Bool) → cond was false once ≡ true → not (same || there) ≡ true
        → (not there ≡ true → once ≡ true → more ≡ true) → cond (was || same) false more ≡ true
    by_bools was same there once more h new rest = grind (arith, h, new, rest)

once_filled : (question : Question) (replied : Replied) (asked : List Sent)
    → are_once (filled question replied asked) ≡ are_once asked
once_filled question replied [] = refl
once_filled question replied (one ∷ asked) =
    by_test (waits_for one question) (was_filled (question_of one.want) question replied asked)
    (once_filled question replied asked)
  where
    by_test : (waits : Bool)
        → was_asked (question_of one.want) (filled question replied asked) ≡ was_asked (question_of one.want) asked
        → are_once (filled question replied asked) ≡ are_once asked
        → are_once (cond waits (record one { reply = Some replied } ∷ asked) (one ∷ filled question replied asked))
        ≡ cond (was_asked (question_of one.want) asked) false (are_once asked)
    by_test true same once = refl
    by_test false same once = rw (same, once) refl

abbrev IsOnce : Option Hand → Type 0
IsOnce hand = are_once (asked_in hand) ≡ true

held_once : {held : Option Hand} {hand : Hand} → held ≡ Some hand → IsOnce held → are_once hand.asked ≡ true
held_once is h = ap (λ (held : Option Hand). are_once (asked_in held)) (sym is) ∙ h

asked_once : (want : Want) (hand : Hand) (held : Option Hand) → held ≡ Some hand → is_new want hand.asked ≡ true
    → IsOnce held → IsOnce (option_map (asked_hand want) held)
asked_once want hand held is new h =
    ap (λ (held : Option Hand). are_once (asked_in (option_map (asked_hand want) held))) is
    ∙ once_last hand.asked want new (held_once is h)

answered_once : (question : Question) (replied : Replied) (held : Option Hand) → IsOnce held
    → IsOnce (option_map (hand_replied (a_question question) replied) held)
answered_once question replied None h = refl
answered_once question replied (Some hand) h = once_filled question replied hand.asked ∙ h

replied_once : (effect : Effect) (replied : Replied) (held : Option Hand) → IsOnce held
    → IsOnce (option_map (hand_replied (an_effect effect) replied) held)
replied_once effect replied None h = refl
replied_once effect replied (Some hand) h = h

given_once : (held : Option Hand) → IsOnce (option_map given_up held)
given_once None = refl
given_once (Some hand) = refl

once_on : {messages : List Message} (m next : Machine) (said : Option Message) → Run messages m → IsOnce m.hand
    → Moves m said next → IsOnce next.hand
once_on m next said r h (Moves.begins picked free none is) = refl
once_on m next said r h (Moves.drops free is none) = refl
once_on m next said r h (Moves.responds free at is) = held_once at.in_hand h
once_on m next said r h (Moves.finds found free at needs done) = held_once at.in_hand h
once_on m next said r h (Moves.passes_over free at why) = held_once at.in_hand h
once_on m next said r h (Moves.tells free at) = held_once at.in_hand h
once_on m next said r h (Moves.sends free at near) = held_once at.in_hand h
once_on m next said r h (Moves.updates free at is near) = held_once at.in_hand h
once_on m next said r h (Moves.greets free at is near) = h
once_on m next said r h (Moves.notes free at) = held_once at.in_hand h
once_on m next said r h (Moves.unfolds free at) = held_once at.in_hand h
once_on m next said r h (Moves.queues free is) = held_once is h
once_on m next said r h (Moves.asks {hand} {want} {wants} free room is are) =
    asked_once want hand m.hand is (next_new m hand want wants (always_kept r) is are) h
once_on m next said r h (Moves.answers {question} {replied} is waits reply stays) =
    answered_once question replied m.hand h
once_on m next said r h (Moves.replies {effect} {replied} is flying reply stays) =
    replied_once effect replied m.hand h
once_on m next said r h (Moves.loses late near why) = given_once m.hand
once_on m next said r h _ = h

always_once : {messages : List Message} {m : Machine} → Run messages m → IsOnce m.hand
always_once r = by_runs {Holds = λ (messages : List Message) (m : Machine). IsOnce m.hand} (record {
  starts = refl;
  moves = λ messages m next said r h moved after. once_on m next said r h moved;
  queues = λ messages m hand queue r may h. h;
}) r

-- in every run no question was asked twice for the item in hand
pub hand_once : {messages : List Message} {m : Machine} → Run messages m → (hand : Hand) → m.hand ≡ Some hand
    → are_once hand.asked ≡ true
hand_once r hand is = held_once is (always_once r)

-- A reply to a question -----------------------------------------------------------------------------------------------

waits_asked : (question : Question) (asked : List Sent) → is_waiting question asked ≡ true
    → was_asked question asked ≡ true
waits_asked question [] is = cc
waits_asked question (one ∷ asked) is =
    by_bools (is_none one.reply) (asks_for one question) (is_waiting question asked) _ is (waits_asked question asked)
  where
    by_bools : (none asks waits was : Bool) → (cond none asks false || waits) ≡ true → (waits ≡ true → was ≡ true)
        → (asks || was) ≡ true
    by_bools none asks waits was is rest = grind (arith, is, rest)

-- a question that stands among what is pending waits there, and its reply leaves the others where they are
record IsOut (question : Question) (asked : List Sent) (more before after : List TargetCommand) : Type 0 where
  waits : is_waiting question asked ≡ true
  now : (replied : Replied) → flat_map unanswered (filled question replied asked) ++ more ≡ before ++ after

abbrev HasNone : Question → List TargetCommand → Type 0
HasNone question more = (before after : List TargetCommand) → ¬ (more ≡ before ++ a_question question ∷ after)

out_at : (question : Question) (one : Sent) (asked : List Sent) (more before after : List TargetCommand) (none : Bool)
    → is_none one.reply ≡ none → are_once (one ∷ asked) ≡ true
    → (cond none (a_question (question_of one.want) ∷ []) [] ++ flat_map unanswered asked) ++ more
    ≡ before ++ a_question question ∷ after
    → ((before : List TargetCommand) → flat_map unanswered asked ++ more ≡ before ++ a_question question ∷ after
    → IsOut question asked more before after)
    → IsOut question (one ∷ asked) more before after
out_at question one asked more before after false no_reply once is rest =
    let r = rest before is in record {
      waits = rw (no_reply, r.waits) refl;
      now = λ replied. rw no_reply (rw no_reply (r.now replied));
    }
out_at question one asked more [] after true no_reply once is rest =
    let same : question_of one.want ≡ question = cc in
    let others : flat_map unanswered asked ++ more ≡ after = cc in
    let yes : same_question (question_of one.want) question ≡ true =
    subst (λ (q : Question). same_question (question_of one.want) q ≡ true) same (is_same (question_of one.want)) in
    record {
      waits = rw (no_reply, yes) refl;
      now = λ replied. rw (no_reply, yes) others;
    }
out_at question one asked more (first ∷ before) after true no_reply once is rest =
    let same : a_question (question_of one.want) ≡ first = cc in
    let r = rest before cc in
    let no = differs (same_question (question_of one.want) question) refl r.waits in
    record {
      waits = rw (no_reply, no, r.waits) refl;
      now = λ replied. rw (no_reply, no) (rw no_reply
          (ap (λ (more : List TargetCommand). a_question (question_of one.want) ∷ more) (r.now replied)
          ∙ ap (λ (c : TargetCommand). c ∷ (before ++ after)) same));
    }
  where
    never : (was once : Bool) → cond was false once ≡ true → ¬ (was ≡ true)
    never true once h is = cc
    never false once h is = cc

    differs : (same : Bool) → same_question (question_of one.want) question ≡ same → is_waiting question asked ≡ true
        → same_question (question_of one.want) question ≡ false
    differs false is waits = is
    differs true is waits =
        absurd (never (was_asked (question_of one.want) asked) (are_once asked) once
        (ap (λ (q : Question). was_asked q asked) (is_one (question_of one.want) question is)
        ∙ waits_asked question asked waits))

out : (question : Question) (asked : List Sent) (more before after : List TargetCommand) → HasNone question more
    → are_once asked ≡ true → flat_map unanswered asked ++ more ≡ before ++ a_question question ∷ after
    → IsOut question asked more before after
out question [] more before after none once is = absurd (none before after is)
out question (one ∷ asked) more before after none once is =
    out_at question one asked more before after (is_none one.reply) refl once is
    (λ before others. out question asked more before after none (rest_once _ _ once) others)
  where
    rest_once : (was once : Bool) → cond was false once ≡ true → once ≡ true
    rest_once true once h = cc
    rest_once false once h = h

none_asked : (question : Question) (effect : Option Doing) → HasNone question (unanswered_effect effect)
none_asked question None = none_in
  where
    none_in : HasNone question []
    none_in [] after is = cc
    none_in (first ∷ before) after is = cc
none_asked question (Some doing) = by_reply (is_none doing.reply)
  where
    by_reply : (none : Bool) → HasNone question (cond none (an_effect doing.effect ∷ []) [])
    by_reply true [] after is = cc
    by_reply true (first ∷ []) after is = cc
    by_reply true (first ∷ second ∷ before) after is = cc
    by_reply false [] after is = cc
    by_reply false (first ∷ before) after is = cc

-- what is pending while nothing is late
pending_here : (m : Machine) (hand : Hand) → m.late ≡ [] → m.hand ≡ Some hand
    → pending_of m ≡ flat_map unanswered hand.asked ++ unanswered_effect hand.effect
pending_here m hand late is =
    ap (λ (before : List TargetCommand). before ++ pending_in m.hand) late ∙ ap pending_in is

-- what is pending behind a reply, also where it shows the target's end
answered_pending : (m : Machine) (command : TargetCommand) (replied : Replied)
    → pending_of (answered m command replied)
    ≡ m.late ++ pending_in (option_map (hand_replied command replied) m.hand)
answered_pending m command replied = by_end (shows_end m.state.phase command replied)
  where
    by_end : (ends : Bool) → pending_of (answered_by ends m command replied)
        ≡ m.late ++ pending_in (option_map (hand_replied command replied) m.hand)
    by_end true = ended_pending (pending_in (option_map (hand_replied command replied) m.hand)) m
    by_end false = refl

answered_here : (m : Machine) (hand : Hand) (command : TargetCommand) (replied : Replied) → m.late ≡ []
    → m.hand ≡ Some hand
    → pending_of (answered m command replied) ≡ pending_in (Some (hand_replied command replied hand))
answered_here m hand command replied late is =
    answered_pending m command replied
    ∙ ap (λ (before : List TargetCommand). before ++ pending_in (option_map (hand_replied command replied) m.hand)) late
    ∙ ap (λ (held : Option Hand). pending_in (option_map (hand_replied command replied) held)) is

wire_question : (command : TargetCommand) (question : Question) → wire command ≡ commands.Question question
    → command ≡ a_question question
wire_question (a_question other) question is = let same : other ≡ question = cc in ap a_question same
wire_question (an_effect effect) question is = absurd cc

-- the reply to a question of the item in hand
pub question_under : {messages : List Message} {m : Machine} → Run messages m → m.late ≡ [] → (hand : Hand)
    → m.hand ≡ Some hand → (sent : List (ℕ × Asked)) → Aligned sent m → (id : ℕ) (question : Question)
    → pending_under id sent ≡ Some (commands.Question question) → IsQuestion id question sent m hand
question_under {messages} {m} r late hand is sent aligned id question has =
    let f = found id (commands.Question question) sent (pending_of m) aligned has in
    let same = wire_question f.command question f.is_sent in
    let all : flat_map unanswered hand.asked ++ unanswered_effect hand.effect
    ≡ f.before ++ a_question question ∷ f.after =
    sym (pending_here m hand late is) ∙ f.pending_is
    ∙ ap (λ (c : TargetCommand). f.before ++ c ∷ f.after) same in
    let o = out question hand.asked (unanswered_effect hand.effect) f.before f.after
    (none_asked question hand.effect) (hand_once r hand is) all in
    record {
      waits = o.waits;
      aligned = λ replied. f.left ∙ ap (map wire)
          (sym (answered_here m hand (a_question question) replied late is ∙ o.now replied));
    }

-- A reply to an effect ------------------------------------------------------------------------------------------------

-- an effect that stands among what is pending is the one in flight, behind all else
record IsLast (effect : Option Doing) (of : Effect) (asked : List Sent) (before after : List TargetCommand)
    : Type 0 where
  flies : effect ≡ Some (record { effect = of; reply = None })
  rest : flat_map unanswered asked ++ [] ≡ before ++ after

last_of : (effect : Option Doing) (of : Effect) (asked : List Sent) (before after : List TargetCommand)
    → flat_map unanswered asked ++ unanswered_effect effect ≡ before ++ an_effect of ∷ after
    → IsLast effect of asked before after
last_of effect of [] before after is = by_effect effect before is
  where
    by_reply : (doing : Doing) (reply : Option Replied) (before : List TargetCommand) → doing.reply ≡ reply
        → cond (is_none reply) (an_effect doing.effect ∷ []) [] ≡ before ++ an_effect of ∷ after
        → IsLast (Some doing) of [] before after
    by_reply doing None [] none is =
        let same : doing.effect ≡ of = cc in
        let last : [] ≡ after = cc in
        record {
          flies = ap (λ (reply : Option Replied). Some (record { effect = doing.effect; reply = reply })) none
              ∙ ap (λ (effect : Effect). Some (record { effect = effect; reply = None })) same;
          rest = last;
        }
    by_reply doing None (first ∷ []) none is = absurd cc
    by_reply doing None (first ∷ second ∷ before) none is = absurd cc
    by_reply doing (Some replied) [] none is = absurd cc
    by_reply doing (Some replied) (first ∷ before) none is = absurd cc

    by_effect : (effect : Option Doing) (before : List TargetCommand)
        → unanswered_effect effect ≡ before ++ an_effect of ∷ after → IsLast effect of [] before after
    by_effect None [] is = absurd cc
    by_effect None (first ∷ before) is = absurd cc
    by_effect (Some doing) before is = by_reply doing doing.reply before refl is
last_of effect of (one ∷ asked) before after is =
    let two = by_reply (is_none one.reply) before is (λ before others. last_of effect of asked before after others) in
    record { flies = two.0; rest = two.1 }
  where
    by_reply : (none : Bool) (before : List TargetCommand)
        → (cond none (a_question (question_of one.want) ∷ []) [] ++ flat_map unanswered asked)
        ++ unanswered_effect effect ≡ before ++ an_effect of ∷ after
        → ((before : List TargetCommand)
        → flat_map unanswered asked ++ unanswered_effect effect ≡ before ++ an_effect of ∷ after
        → IsLast effect of asked before after)
        → (effect ≡ Some (record { effect = of; reply = None }))
        × ((cond none (a_question (question_of one.want) ∷ []) [] ++ flat_map unanswered asked) ++ [] ≡ before ++ after)
    by_reply false before is rest = let r = rest before is in (r.flies, r.rest)
    by_reply true [] is rest = absurd cc
    by_reply true (first ∷ before) is rest =
        let same : a_question (question_of one.want) ≡ first = cc in
        let r = rest before cc in (
          r.flies,
          ap (λ (more : List TargetCommand). a_question (question_of one.want) ∷ more) r.rest
              ∙ ap (λ (c : TargetCommand). c ∷ (before ++ after)) same,
        )

-- the effect of a command
record IsOf (command : TargetCommand) (effect : WireEffect) : Type 0 where
  of : Effect
  command_is : command ≡ an_effect of
  is_sent : wire (an_effect of) ≡ commands.Effect effect

wire_change : (command : TargetCommand) (effect : WireEffect) → wire command ≡ commands.Effect effect
    → IsOf command effect
wire_change (a_question question) effect is = absurd cc
wire_change (an_effect of) effect is = record { of = of; command_is = refl; is_sent = is }

-- the reply to the effect in flight
pub effect_under : {messages : List Message} {m : Machine} → Run messages m → m.late ≡ [] → (hand : Hand)
    → m.hand ≡ Some hand → (sent : List (ℕ × Asked)) → Aligned sent m → (id : ℕ) (effect : WireEffect)
    → pending_under id sent ≡ Some (commands.Effect effect) → IsEffect id effect sent m hand
effect_under {messages} {m} r late hand is sent aligned id effect has =
    let f = found id (commands.Effect effect) sent (pending_of m) aligned has in
    let c = wire_change f.command effect f.is_sent in
    let all : flat_map unanswered hand.asked ++ unanswered_effect hand.effect
    ≡ f.before ++ an_effect c.of ∷ f.after =
    sym (pending_here m hand late is) ∙ f.pending_is
    ∙ ap (λ (one : TargetCommand). f.before ++ one ∷ f.after) c.command_is in
    let l = last_of hand.effect c.of hand.asked f.before f.after all in
    record {
      of = c.of;
      flies = l.flies;
      is_sent = c.is_sent;
      aligned = λ replied. f.left ∙ ap (map wire)
          (sym (answered_here m hand (an_effect c.of) replied late is ∙ l.rest));
    }

-- A late reply --------------------------------------------------------------------------------------------------------

remove_at : (before after : List TargetCommand) (command : TargetCommand)
    → remove (before ++ command ∷ after) (length before) ≡ before ++ after
remove_at [] after command = refl
remove_at (first ∷ before) after command =
    ap (λ (more : List TargetCommand). first ∷ more) (remove_at before after command)

-- the reply to a command that was left at the target's end
pub late_under : {messages : List Message} {m : Machine} → Run messages m → is_gone m.state.phase ≡ true
    → (sent : List (ℕ × Asked)) → Aligned sent m → (id : ℕ) (asked : Asked) → pending_under id sent ≡ Some asked
    → IsLate id asked sent m
late_under {messages} {m} r gone sent aligned id asked has =
    let silent = gone_silent r gone in
    let f = found id asked sent (pending_of m) aligned has in
    let all : m.late ≡ f.before ++ f.command ∷ f.after =
    sym (append-nil m.late) ∙ ap (λ (more : List TargetCommand). m.late ++ more) (sym silent) ∙ f.pending_is in
    record {
      before = f.before;
      command = f.command;
      after = f.after;
      late_is = all;
      is_sent = f.is_sent;
      place = f.place;
      removed = sym (ap (λ (late : List TargetCommand). remove late (place_under id sent)) all
          ∙ ap (λ (at : ℕ). remove (f.before ++ f.command ∷ f.after) at) (sym f.place)
          ∙ remove_at f.before f.after f.command);
      aligned = f.left ∙ ap (map wire) (sym (
          ap (λ (more : List TargetCommand). (f.before ++ f.after) ++ more) silent ∙ append-nil (f.before ++ f.after)));
    }

-- Whether it is full --------------------------------------------------------------------------------------------------

-- the window is full just where the machine's is, given whether the next id is pending
pub same_full : (w : Window) (m : Machine) → Aligned w.sent m → length (pending_of m) ≤ 16
    → is_window_full w ≡ is_full (is_some (pending_under (id_of w.next) w.sent)) m
same_full w m aligned few =
    by_count (length w.sent) (length (pending_of m)) (is_some (pending_under (id_of w.next) w.sent))
    (aligned_length w.sent m aligned) few
  where
    by_count : (n k : ℕ) (pending : Bool) → n ≡ k → k ≤ 16 → ((n == 16) || pending) ≡ (pending || nat_le 16 k)
    by_count n k pending same few = grind (arith, same, few)
