-- No Resume is sent but for a suspension that is held. The machine's laws say what is held by its view of the
-- messages, in which a composite counts from its turn on, and a Suspend from its sending; here both count once they
-- came.
use Rattle.std.proofs.Common.{◌≡◌, ◌≤◌, ◌<◌, ℕ, ◌+◌, Bool, true, false, cond, List, [], ◌∷◌, ◌++◌, Option, Some, None}
use Rattle.std.proofs.Common.{refl, sym, ap, subst, ◌∙◌, arith, nat_lt}
use Rattle.jdwp_commands.specs.declared.question.Question.TheVariants as questions
use Rattle.dap_messages.specs.declared.told.Event.{Event as EventTold}
use Rattle.dap_messages.specs.declared.told.Event.TheVariants as events
use Rattle.joint_model.specs.Laws.{IsHeld, held, held_by, held_from, is_suspend, suspends_by, total}
use Rattle.joint_model.specs.Names.{Clear, Dispose, Does, Effect, Exit, Resume, Set, Suspend, Suspension, TargetCommand}
use Rattle.joint_model.specs.Names.{Writes, a_question, an_effect}
use Rattle.machine_model.specs.Composites.{has_death}
use Rattle.machine_model.specs.Knowing.{AreSaid, View, come_view, event_view, is_farewell, learnt_view}
use Rattle.machine_model.specs.Knowing.{may_be, may_resume, replied_view, says, says_dead, turned_view, view_of}
use Rattle.machine_model.specs.Names.{Composite, Replied, a_response, an_event}
use Rattle.machine_model.specs.Pending.{bit, commands_replied, commands_sent, count}
use Rattle.machine_model.specs.Replying.{pending_of}
use Rattle.machine_model.specs.Runs.{Allows, Message, Run}
use Rattle.machine_model.specs.State.{Machine, is_gone}
use Rattle.machine_laws.proofs.KnowingLaws.{Sees, is_known, sees_on}
use Rattle.machine_steps.proofs.PendingLaws.{all_open, pending_is}
use Rattle.machine_steps.proofs.HeldLaws.{gone_owed}
use Rattle.machine_steps.proofs.HoldingParts.{lost_flags, lost_held}
use Rattle.machine_steps.proofs.Stepping.{Moves, moved}
use Rattle.machine_steps.proofs.Tables.{free}
use Rattle.machine_steps.proofs.Testing.{tested}
use Rattle.machine_steps.proofs.TurnLaws.{Turns, is_beside, none_late, turned}
use Rattle.suspend_ledger.specs.Suspensions.{suspensions_by}

-- Sums ----------------------------------------------------------------------------------------------------------------

pub total_last : {A : Type 0} (of : A → ℕ) (some : List A) (one : A)
    → total of (some ++ one ∷ []) ≡ of one + total of some
total_last of [] one = refl
total_last of (first ∷ some) one = grind (arith, total_last of some one)

pub total_middle : {A : Type 0} (of : A → ℕ) (before after : List A) (one : A)
    → total of (before ++ one ∷ after) ≡ of one + total of (before ++ after)
total_middle of [] after one = refl
total_middle of (first ∷ before) after one = grind (arith, total_middle of before after one)

pub held_last : (n : ℕ) (messages : List Message) (message : Message)
    → held_from n (messages ++ message ∷ []) ≡ held_by (held_from n messages) message
held_last n [] message = refl
held_last n (first ∷ messages) message = held_last (held_by n first) messages message

-- What messages count -------------------------------------------------------------------------------------------------

-- suspensions by composites that came
abbrev pub came_by : Message → ℕ
came_by (Message.comes at composite) = suspensions_by composite.policy
came_by (Message.reads at body composite) = suspensions_by composite.policy
came_by _ = 0

abbrev is_resume : TargetCommand → Bool
is_resume (an_effect (Does (Resume suspension))) = true
is_resume _ = false

abbrev pub asked_by : Message → ℕ
asked_by (Message.sends command) = bit (is_suspend command)
asked_by _ = 0

abbrev pub done_by : Message → ℕ
done_by (Message.answers command replied) = bit (is_suspend command)
done_by _ = 0

abbrev pub undone_by : Message → ℕ
undone_by (Message.sends command) = bit (is_resume command)
undone_by _ = 0

pub sent_is : (messages : List Message) → count is_suspend (commands_sent messages) ≡ total asked_by messages
sent_is [] = refl
sent_is (Message.sends command ∷ messages) = let more = sent_is messages in omega arith
sent_is (message ∷ messages) = let more = sent_is messages in omega arith

pub done_is : (messages : List Message) → count is_suspend (commands_replied messages) ≡ total done_by messages
done_is [] = refl
done_is (Message.answers command replied ∷ messages) = let more = done_is messages in omega arith
done_is (message ∷ messages) = let more = done_is messages in omega arith

-- The view of the messages --------------------------------------------------------------------------------------------

-- what is held in a view, and what waits in it, came or was asked for, and wasn't undone
abbrev Covers : ℕ → ℕ → View → Type 0
Covers some undone view = view.held + total suspends_by view.composites + undone ≤ some

turned_held : (dies : Bool) (n more : ℕ) → cond dies n (n + more) ≤ n + more
turned_held true n more = omega arith
turned_held false n more = omega arith

turned_covers : (some undone : ℕ) (view : View) (composite : Composite) (others : List Composite)
    → view.composites ≡ composite ∷ others → Covers some undone view
    → Covers some undone (turned_view composite others view)
turned_covers some undone view composite others are h =
    let waiting = ap (total suspends_by) are in
    let now = turned_held (has_death composite.events) view.held (suspensions_by composite.policy) in omega arith

event_covers : (some undone : ℕ) (view : View) (event : EventTold) → Covers some undone view
    → Covers some undone (event_view event view)
event_covers some undone view events.Terminated h = omega arith
event_covers some undone view _ h = h

pub learnt_held : (command : TargetCommand) (replied : Replied) (view : View)
    → ((learnt_view command replied view).held ≡ view.held)
    × ((learnt_view command replied view).composites ≡ view.composites)
learnt_held (a_question questions.IdSizes) replied view = (refl, refl)
learnt_held (a_question _) replied view = (refl, refl)
learnt_held (an_effect effect) replied view = (refl, refl)

replied_covers : (gone ended : Bool) (some undone : ℕ) (view : View) (command : TargetCommand) (replied : Replied)
    → Covers some undone view → Covers some undone (replied_view gone ended command replied view)
replied_covers true ended some undone view command replied h = h
replied_covers false true some undone view command replied h = omega arith
replied_covers false false some undone view command replied h =
    let same = learnt_held command replied view in
    let held_same = same.0 in
    let waiting = ap (total suspends_by) same.1 in omega arith

come_covers : (gone : Bool) (some undone : ℕ) (view : View) (composite : Composite) → Covers some undone view
    → Covers (suspensions_by composite.policy + some) undone (come_view gone composite view)
come_covers true some undone view composite h = omega arith
come_covers false some undone view composite h =
    let waiting = total_last suspends_by view.composites composite in omega arith

pub may_undo : (gone may some : Bool) → cond gone false (cond may some false) ≡ true → some ≡ true
may_undo gone may some is = grind (arith, is)

says_covers : (came asked undone : ℕ) (view : View) (message : Message) → may_be view message ≡ true
    → Covers (came + asked) undone view
    → Covers ((came_by message + came) + (asked_by message + asked)) (undone_by message + undone) (says message view)
says_covers came asked undone view (Message.hears request) may h = omega arith
says_covers came asked undone view (Message.tells (a_response response)) may h = omega arith
says_covers came asked undone view (Message.tells (an_event event)) may h =
    let now = event_covers (came + asked) undone view event h in omega arith
says_covers came asked undone view Message.greets may h = omega arith
says_covers came asked undone view Message.greeted may h = omega arith
says_covers came asked undone view (Message.sends (a_question question)) may h = omega arith
says_covers came asked undone view (Message.sends (an_effect (Set wish))) may h = omega arith
says_covers came asked undone view (Message.sends (an_effect (Clear wish request))) may h = omega arith
says_covers came asked undone view (Message.sends (an_effect (Does Suspend))) may h = omega arith
says_covers came asked undone view (Message.sends (an_effect (Does (Resume suspension)))) may h =
    let some = may_undo (is_gone view.phase) (may_resume suspension view) (nat_lt 0 view.held) may in
    let more : 0 < view.held = grind (arith, some) in omega arith
says_covers came asked undone view (Message.sends (an_effect (Does Dispose))) may h = omega arith
says_covers came asked undone view (Message.sends (an_effect (Does Exit))) may h = omega arith
says_covers came asked undone view (Message.sends (an_effect (Does (Writes write)))) may h = omega arith
says_covers came asked undone view (Message.answers command replied) may h =
    let now = replied_covers (is_gone view.phase) (cond (is_farewell command) false (says_dead replied)) (came + asked)
    undone view command replied h in omega arith
says_covers came asked undone view Message.ends may h = omega arith
says_covers came asked undone view (Message.comes at composite) may h =
    let now = come_covers (is_gone view.phase) (came + asked) undone view composite h in omega arith
says_covers came asked undone view (Message.keeps at body) may h = omega arith
says_covers came asked undone view (Message.reads at body composite) may h =
    let now = come_covers (is_gone view.phase) (came + asked) undone view composite h in omega arith

abbrev CoversAll : List Message → View → Type 0
CoversAll messages view = Covers (total came_by messages + total asked_by messages) (total undone_by messages) view

covers : {messages : List Message} {view : View} → AreSaid messages view → CoversAll messages view
covers AreSaid.none = omega arith
covers (AreSaid.turns {messages} {view} composite others said attached are) =
    turned_covers (total came_by messages + total asked_by messages) (total undone_by messages) view composite others
    are
    (covers said)
covers (AreSaid.one_more {messages} {view} message may said) =
    rw (
      total_last came_by messages message,
      total_last asked_by messages message,
      total_last undone_by messages message,
    )
    (says_covers (total came_by messages) (total asked_by messages) (total undone_by messages) view message may
    (covers said))

-- Resumes -------------------------------------------------------------------------------------------------------------

-- a command that changes the target goes alone
pub none_before : {pending now : List TargetCommand} {both sent : Bool} {said : Option Message} (effect : Effect)
    → said ≡ Some (Message.sends (an_effect effect)) → Turns pending both sent said now → pending ≡ []
none_before effect is (Turns.stays beside same) =
    let other : true ≡ false = sym beside ∙ ap is_beside is in cc
none_before effect is (Turns.greets unsent same) = cc
none_before effect is (Turns.asks question shakes room only same) = cc
none_before effect is (Turns.changes other shakes none same) = none
none_before effect is (Turns.answers command replied before after was same) = cc

abbrev pub IsExact : List Message → Type 0
IsExact messages = held messages + total undone_by messages ≡ total came_by messages + total done_by messages

resume_held : {messages : List Message} {m next : Machine} {suspension : Suspension} → Run messages m
    → Allows m (Message.sends (an_effect (Does (Resume suspension)))) next → IsExact messages → 0 < held messages
resume_held {messages} {m} {next} {suspension} r allows exact =
    let effect : Effect = Does (Resume suspension) in
    let message : Message = Message.sends (an_effect effect) in
    let alone : pending_of m ≡ [] =
    none_before effect refl (turned m next (Some message) (all_open r).holds (moved allows)) in
    let counted = (pending_is messages m r).counted is_suspend in
    let none : count is_suspend (pending_of m) ≡ 0 = ap (count is_suspend) alone in
    let some = covers (is_known (messages ++ message ∷ []) next (Run.moves r allows)).said in
    let came = total_last came_by messages message in
    let asked = total_last asked_by messages message in
    let undone = total_last undone_by messages message in
    let sent = sent_is messages in
    let done = done_is messages in omega arith

message_exact : (n came done undone : ℕ) (message : Message)
    → ((suspension : Suspension) → message ≡ Message.sends (an_effect (Does (Resume suspension))) → 0 < n)
    → n + undone ≡ came + done
    → held_by n message + (undone_by message + undone) ≡ (came_by message + came) + (done_by message + done)
message_exact n came done undone (Message.sends (an_effect (Does (Resume suspension)))) some is =
    let more = some suspension refl in omega arith
message_exact n came done undone (Message.sends (an_effect (Does _))) some is = omega arith
message_exact n came done undone (Message.sends (an_effect _)) some is = omega arith
message_exact n came done undone (Message.sends (a_question question)) some is = omega arith
message_exact n came done undone (Message.answers (an_effect (Does Suspend)) replied) some is = omega arith
message_exact n came done undone (Message.answers (an_effect (Does _)) replied) some is = omega arith
message_exact n came done undone (Message.answers (an_effect _) replied) some is = omega arith
message_exact n came done undone (Message.answers (a_question question) replied) some is = omega arith
message_exact n came done undone (Message.comes at composite) some is = omega arith
message_exact n came done undone (Message.reads at body composite) some is = omega arith
message_exact n came done undone _ some is = omega arith

pub exact : {messages : List Message} {m : Machine} → Run messages m → IsExact messages
exact Run.starts = refl
exact (Run.goes r is) = exact r
exact (Run.queues r may) = exact r
exact (Run.moves {messages} {m} {next} {message} r allows) =
    let before = exact r in
    rw (
      held_last 0 messages message,
      total_last undone_by messages message,
      total_last came_by messages message,
      total_last done_by messages message,
    )
    (message_exact (held messages) (total came_by messages) (total done_by messages) (total undone_by messages) message
    (λ suspension is. resume_held r (subst (λ (message : Message). Allows m message next) is allows) before) before)

pub resumes_held : (messages : List Message) (m next : Machine) (suspension : Suspension) → Run messages m
    → Allows m (Message.sends (an_effect (Does (Resume suspension)))) next → 0 < held messages
resumes_held messages m next suspension r allows = resume_held r allows (exact r)

-- What the machine holds is held by the messages, once the Suspend of a pause is replied to.
pub some_held : {messages : List Message} {m : Machine} → Run messages m → IsHeld m
    → count is_suspend (pending_of m) ≡ 0 → 0 < held messages
some_held {messages} {m} r some none =
    let before = exact r in
    let counted = (pending_is messages m r).counted is_suspend in
    let here = covers (is_known messages m r).said in
    let sent = sent_is messages in
    let done = done_is messages in omega arith

-- in a stop one is held
pub stops_are_held : (m : Machine) → m.state.stopped ≡ true → IsHeld m
stops_are_held m is = let one = ap bit is in omega arith

-- in a target that is gone none is
pub near_held : {messages : List Message} {m : Machine} → Run messages m → IsHeld m → is_gone m.state.phase ≡ false
near_held {m = m} r some = by_gone (is_gone m.state.phase) refl
  where
    by_gone : (gone : Bool) → is_gone m.state.phase ≡ gone → gone ≡ false
    by_gone true gone =
        let flags = lost_flags m (lost_held r) gone in
        let stop = ap bit flags.0 in
        let entry = ap bit flags.1 in
        let owed = gone_owed (is_gone m.state.phase) m.state.stopped m.hand gone (tested free r) in absurd (omega arith)
    by_gone false near = refl

-- Where one is held behind a move -------------------------------------------------------------------------------------

event_less : (event : EventTold) (view : View) → (event_view event view).held ≤ view.held
event_less events.Initialized view = omega arith
event_less (events.Breakpoint breakpoint) view = omega arith
event_less (events.Thread change) view = omega arith
event_less (events.Stopped stop) view = omega arith
event_less (events.Output text) view = omega arith
event_less events.Terminated view = omega arith

replied_less : (gone ended : Bool) (command : TargetCommand) (replied : Replied) (view : View)
    → (replied_view gone ended command replied view).held ≤ view.held
replied_less true ended command replied view = omega arith
replied_less false true command replied view = omega arith
replied_less false false command replied view = let same = (learnt_held command replied view).0 in omega arith

come_less : (gone : Bool) (composite : Composite) (view : View) → (come_view gone composite view).held ≤ view.held
come_less true composite view = omega arith
come_less false composite view = omega arith

-- a message holds no suspension more, but for a Suspend
says_less : (message : Message) (view : View) → (message ≡ Message.sends (an_effect (Does Suspend)) → ⊥)
    → (says message view).held ≤ view.held
says_less (Message.hears request) view apart = omega arith
says_less (Message.tells (a_response response)) view apart = omega arith
says_less (Message.tells (an_event event)) view apart = event_less event view
says_less Message.greets view apart = omega arith
says_less Message.greeted view apart = omega arith
says_less (Message.sends (a_question question)) view apart = omega arith
says_less (Message.sends (an_effect (Set wish))) view apart = omega arith
says_less (Message.sends (an_effect (Clear wish request))) view apart = omega arith
says_less (Message.sends (an_effect (Does Suspend))) view apart = absurd (apart refl)
says_less (Message.sends (an_effect (Does (Resume suspension)))) view apart = omega arith
says_less (Message.sends (an_effect (Does Dispose))) view apart = omega arith
says_less (Message.sends (an_effect (Does Exit))) view apart = omega arith
says_less (Message.sends (an_effect (Does (Writes write)))) view apart = omega arith
says_less (Message.answers command replied) view apart =
    replied_less (is_gone view.phase) (cond (is_farewell command) false (says_dead replied)) command replied view
says_less Message.ends view apart = omega arith
says_less (Message.comes at composite) view apart = come_less (is_gone view.phase) composite view
says_less (Message.keeps at body) view apart = omega arith
says_less (Message.reads at body composite) view apart = come_less (is_gone view.phase) composite view

-- one was held before it, or an item came to its turn with nothing pending
pub data Begins (m : Machine) : Type 0 where
  stood : IsHeld m → Begins m
  silent : m.hand ≡ None → pending_of m ≡ [] → Begins m

-- where one is held behind a move that sends no Suspend
pub begins : {messages : List Message} {m next : Machine} {said : Option Message} → Run messages m
    → Moves m said next → IsHeld next → (said ≡ Some (Message.sends (an_effect (Does Suspend))) → ⊥) → Begins m
begins {m = m} {next} {said} r moved some apart = by_said said (sees_on r moved) apart
  where
    by_said : (said : Option Message) → Sees m next said
        → (said ≡ Some (Message.sends (an_effect (Does Suspend))) → ⊥) → Begins m
    by_said None (Sees.as_said is) apart =
        let same = ap (λ (view : View). view.held) is in Begins.stood (omega arith)
    by_said (Some message) (Sees.as_said is) apart =
        let same = ap (λ (view : View). view.held) is in
        let less = says_less message (view_of m) (λ one. apart (ap Some one)) in Begins.stood (omega arith)
    by_said None (Sees.at_turn composite others none attached are is) apart =
        Begins.silent none (rw (none_late m (all_open r).holds.late (ap is_gone attached), none) refl)
