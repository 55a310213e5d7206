-- While the sizes of ids aren't known, nothing is pending whose reply has an id.
use Rattle.std.proofs.Common.{◌≡◌, ℕ, ◌+◌, ◌==◌, Bool, true, false, cond, not, List, [], ◌∷◌, ◌++◌, Option, Some, None}
use Rattle.std.proofs.Common.{refl, sym, ap, subst, ◌∙◌, arith}
use Rattle.dap_messages.specs.declared.told.Event.TheVariants as events
use Rattle.jdwp_commands.specs.declared.asked.Asked.{Asked}
use Rattle.jdwp_commands.specs.declared.asked.Asked.TheVariants as commands
use Rattle.jdwp_commands.specs.declared.effect.Effect.TheVariants as effects
use Rattle.jdwp_commands.specs.declared.answer.Answer.TheVariants as answers
use Rattle.jdwp_commands.specs.declared.question.Question.TheVariants as questions
use Rattle.machine_model.specs.Knowing.{AreSaid, View, come_view, deed_view, is_farewell, learnt_view, nothing_said}
use Rattle.machine_model.specs.Knowing.{replied_view, says, says_dead, sent_view, sizes_said, told_view}
use Rattle.machine_model.specs.Pending.{bit}
use Rattle.machine_model.specs.Pending.{count as count_of}
use Rattle.machine_model.specs.Replying.{pending_of, wire}
use Rattle.machine_model.specs.Runs.{Message, Run}
use Rattle.machine_model.specs.State.{Machine, SizesRead, is_gone, is_some}
use Rattle.machine_model.proofs.PlanIds.{is_sizes}
use Rattle.machine_steps.proofs.IdLaws.{always_kept}
use Rattle.machine_laws.proofs.KnowingLaws.{is_known}
use Rattle.machine_steps.proofs.PendingLaws.{all_open}
use Rattle.machine_steps.proofs.Stepping.{Moves, by_runs, with_said}
use Rattle.machine_steps.proofs.TurnLaws.{Turns, turned}
use Rattle.session_model.specs.Names.{Writes}
use Rattle.session_model.specs.Names.{Clear, Composite, Deed, Dispose, Does, Exit, Question, Replied, Resume, Set}
use Rattle.session_model.specs.Names.{Suspend, TargetCommand, Told, a_question, a_response, an_answer, an_effect}
use Rattle.session_model.specs.Names.{an_error, an_event}
use Rattle.session_laws.specs.Replies.{count_under}
use Rattle.session_laws.proofs.SizeLaws.{any_id, early_sent, is_early}
use Rattle.pending_table.specs.Windows.{pending_under}

-- The sizes are what the messages say ---------------------------------------------------------------------------------

view_from : View → List Message → View
view_from view [] = view
view_from view (message ∷ messages) = view_from (says message view) messages

view_more : (view : View) (messages : List Message) (message : Message)
    → view_from view (messages ++ message ∷ []) ≡ says message (view_from view messages)
unfolding view_from
view_more view [] message = refl
view_more view (first ∷ messages) message = view_more (says first view) messages message

-- they agree in what the sizes are learnt by
abbrev Alike : View → View → Type 0
Alike a b = (a.phase ≡ b.phase) × (a.sizes ≡ b.sizes)

replied_alike : (gone last : Bool) (command : TargetCommand) (replied : Replied) (a b : View) → Alike a b
    → Alike (replied_view gone last command replied a) (replied_view gone last command replied b)
replied_alike true last command replied a b h = h
replied_alike false true command replied a b h = (refl, h.1)
replied_alike false false (an_effect effect) replied a b h = h
replied_alike false false (a_question questions.IdSizes) replied a b h = (h.0, ap (sizes_said replied) h.1)
replied_alike false false (a_question _) replied a b h = h

told_alike : (told : Told) (a b : View) → Alike a b → Alike (told_view told a) (told_view told b)
told_alike (a_response response) a b h = h
told_alike (an_event events.Initialized) a b h = (refl, h.1)
told_alike (an_event (events.Breakpoint breakpoint)) a b h = h
told_alike (an_event (events.Thread change)) a b h = h
told_alike (an_event (events.Stopped stop)) a b h = h
told_alike (an_event (events.Output text)) a b h = h
told_alike (an_event events.Terminated) a b h = (refl, h.1)

come_alike : (gone other : Bool) (composite : Composite) (a b : View) → Alike a b
    → Alike (come_view gone composite a) (come_view other composite b)
come_alike true true composite a b h = h
come_alike true false composite a b h = h
come_alike false true composite a b h = h
come_alike false false composite a b h = h

done_alike : (deed : Deed) (a b : View) → Alike a b → Alike (deed_view deed a) (deed_view deed b)
done_alike Suspend a b h = h
done_alike (Resume suspension) a b h = h
done_alike Dispose a b h = h
done_alike Exit a b h = h
done_alike (Writes write) a b h = h

sent_alike : (command : TargetCommand) (a b : View) → Alike a b → Alike (sent_view command a) (sent_view command b)
sent_alike (a_question question) a b h = h
sent_alike (an_effect (Does deed)) a b h = done_alike deed a b h
sent_alike (an_effect (Set wish)) a b h = h
sent_alike (an_effect (Clear wish request)) a b h = h

says_alike : (message : Message) (a b : View) → Alike a b → Alike (says message a) (says message b)
says_alike (Message.answers command replied) a b h =
    subst (λ (gone : Bool). Alike (says (Message.answers command replied) a)
    (replied_view gone (cond (is_farewell command) false (says_dead replied)) command replied b)) (ap is_gone h.0)
    (replied_alike (is_gone a.phase) (cond (is_farewell command) false (says_dead replied)) command replied a b h)
says_alike (Message.tells told) a b h = told_alike told a b h
says_alike Message.ends a b h = (refl, h.1)
says_alike (Message.sends command) a b h = sent_alike command a b h
says_alike (Message.comes at composite) a b h = come_alike (is_gone a.phase) (is_gone b.phase) composite a b h
says_alike (Message.reads at body composite) a b h = come_alike (is_gone a.phase) (is_gone b.phase) composite a b h
says_alike _ a b h = h

view_is : {messages : List Message} {view : View} → AreSaid messages view
    → Alike view (view_from nothing_said messages)
unfolding view_from
view_is AreSaid.none = (refl, refl)
view_is (AreSaid.turns composite others said attached first) = view_is said
view_is (AreSaid.one_more {messages} {view} message may said) =
    subst (λ (after : View). Alike (says message view) after) (sym (view_more nothing_said messages message))
    (says_alike message view (view_from nothing_said messages) (view_is said))

sizes_are : {messages : List Message} {m : Machine} → Run messages m
    → m.state.sizes ≡ (view_from nothing_said messages).sizes
sizes_are {messages} {m} run = (view_is (is_known messages m run).said).1

-- once they are known they stay so
sizes_none : (replied : Replied) (sizes : Option SizesRead) → is_some (sizes_said replied sizes) ≡ false
    → is_some sizes ≡ false
sizes_none (an_answer (answers.IdSizes field method object class frame)) sizes is = cc
sizes_none (an_answer _) sizes is = is
sizes_none (an_error code) sizes is = is

learnt_none : (question : Question) (replied : Replied) (view : View)
    → is_some (learnt_view (a_question question) replied view).sizes ≡ false → is_some view.sizes ≡ false
learnt_none questions.IdSizes replied view is = sizes_none replied view.sizes is
learnt_none _ replied view is = is

replied_none : (gone last : Bool) (command : TargetCommand) (replied : Replied) (view : View)
    → is_some (replied_view gone last command replied view).sizes ≡ false → is_some view.sizes ≡ false
replied_none true last command replied view is = is
replied_none false true command replied view is = is
replied_none false false (a_question question) replied view is = learnt_none question replied view is
replied_none false false (an_effect effect) replied view is = is

told_none : (told : Told) (view : View) → is_some (told_view told view).sizes ≡ false → is_some view.sizes ≡ false
told_none told view is = grind (arith, is)

come_none : (gone : Bool) (composite : Composite) (view : View)
    → is_some (come_view gone composite view).sizes ≡ false → is_some view.sizes ≡ false
come_none true composite view is = is
come_none false composite view is = is

done_none : (deed : Deed) (view : View) → is_some (deed_view deed view).sizes ≡ false → is_some view.sizes ≡ false
done_none Suspend view is = is
done_none (Resume suspension) view is = is
done_none Dispose view is = is
done_none Exit view is = is
done_none (Writes write) view is = is

sent_none : (command : TargetCommand) (view : View) → is_some (sent_view command view).sizes ≡ false
    → is_some view.sizes ≡ false
sent_none (a_question question) view is = is
sent_none (an_effect (Does deed)) view is = done_none deed view is
sent_none (an_effect (Set wish)) view is = is
sent_none (an_effect (Clear wish request)) view is = is

says_none : (message : Message) (view : View) → is_some (says message view).sizes ≡ false
    → is_some view.sizes ≡ false
says_none (Message.answers command replied) view is =
    replied_none (is_gone view.phase) (cond (is_farewell command) false (says_dead replied)) command replied view is
says_none (Message.sends command) view is = sent_none command view is
says_none (Message.tells told) view is = told_none told view is
says_none (Message.comes at composite) view is = come_none (is_gone view.phase) composite view is
says_none (Message.reads at body composite) view is = come_none (is_gone view.phase) composite view is
says_none _ view is = is

none_before : (messages : List Message) (m next : Machine) (said : Option Message) → Run messages m
    → Run (with_said messages said) next → is_some next.state.sizes ≡ false → is_some m.state.sizes ≡ false
none_before messages m next None before after is =
    ap (λ sizes. is_some sizes) (sizes_are before ∙ sym (sizes_are after)) ∙ is
none_before messages m next (Some message) before after is =
    ap (λ sizes. is_some sizes) (sizes_are before) ∙ says_none message (view_from nothing_said messages)
    (ap (λ (view : View). is_some view.sizes) (sym (view_more nothing_said messages message))
    ∙ ap (λ sizes. is_some sizes) (sym (sizes_are after)) ∙ is)

-- What is pending -----------------------------------------------------------------------------------------------------

abbrev AllEarly : List TargetCommand → Type 0
AllEarly [] = Unit {0}
AllEarly (command ∷ commands) = (is_early command ≡ true) × AllEarly commands

one_more : (commands : List TargetCommand) (command : TargetCommand) → AllEarly commands → is_early command ≡ true
    → AllEarly (commands ++ command ∷ [])
one_more [] command all is = (is, tt)
one_more (first ∷ commands) command all is = (all.0, one_more commands command all.1 is)

one_less : (before : List TargetCommand) (command : TargetCommand) (after : List TargetCommand)
    → AllEarly (before ++ command ∷ after) → AllEarly (before ++ after)
one_less [] command after all = all.1
one_less (first ∷ before) command after all = (all.0, one_less before command after all.1)

early_by : (pending now : List TargetCommand) (both sent : Bool) (said : Option Message)
    → ((command : TargetCommand) → said ≡ Some (Message.sends command) → is_early command ≡ true)
    → AllEarly pending → Turns pending both sent said now → AllEarly now
early_by pending now both sent said early all (Turns.stays is same) = subst (λ l. AllEarly l) (sym same) all
early_by pending now both sent said early all (Turns.greets is same) = subst (λ l. AllEarly l) (sym same) all
early_by pending now both sent said early all (Turns.asks question shakes room only same) =
    subst (λ l. AllEarly l) (sym same) (one_more pending (a_question question) all (early (a_question question) refl))
early_by pending now both sent said early all (Turns.changes effect shakes none same) =
    subst (λ l. AllEarly l) (sym same) (early (an_effect effect) refl, tt)
early_by pending now both sent said early all (Turns.answers command replied before after was same) =
    subst (λ l. AllEarly l) (sym same) (one_less before command after (subst (λ l. AllEarly l) was all))

abbrev IsEarly : List Message → Machine → Type 0
IsEarly messages m = is_some m.state.sizes ≡ false → AllEarly (pending_of m)

early_on : (messages : List Message) (m next : Machine) (said : Option Message) → Run messages m → IsEarly messages m
    → Moves m said next → Run (with_said messages said) next → IsEarly (with_said messages said) next
early_on messages m next said before h moves after is =
    let none = none_before messages m next said before after is in
    early_by (pending_of m) (pending_of next) _ _ said
    (λ command sends. early_sent command said (always_kept any_id before) none sends moves) (h none)
    (turned m next said (all_open before).holds moves)

pub all_early : {messages : List Message} {m : Machine} → Run messages m → IsEarly messages m
all_early r = by_runs {Holds = IsEarly} (record {
  starts = λ _. tt;
  moves = λ messages m next said before h moves after. early_on messages m next said before h moves after;
  queues = λ messages m hand queue before may h. h;
}) r

-- Under ids -----------------------------------------------------------------------------------------------------------

-- a command of the wire whose answer has no id
abbrev pub early_asked : Asked → Bool
early_asked (commands.Question question) = is_sizes question
early_asked (commands.Effect effects.Suspend) = true
early_asked (commands.Effect effects.Resume) = true
early_asked (commands.Effect effects.Dispose) = true
early_asked (commands.Effect (effects.Exit code)) = true
early_asked _ = false

early_wire : (command : TargetCommand) → is_early command ≡ true → early_asked (wire command) ≡ true
early_wire (a_question question) is = is
early_wire (an_effect (Does Suspend)) is = refl
early_wire (an_effect (Does (Resume suspension))) is = refl
early_wire (an_effect (Does Dispose)) is = refl
early_wire (an_effect (Does Exit)) is = refl
early_wire (an_effect (Does (Writes write))) is = cc
early_wire (an_effect (Set wish)) is = cc
early_wire (an_effect (Clear wish request)) is = cc

abbrev pub is_late : Asked → Bool
is_late asked = not (early_asked asked)

pub none_late : (commands : List TargetCommand) → AllEarly commands
    → count_of (λ command. is_late (wire command)) commands ≡ 0
none_late [] all = refl
none_late (command ∷ commands) all =
    let here : is_late (wire command) ≡ false = ap not (early_wire command all.0) in
    let others = none_late commands all.1 in
    ap (λ late. bit late + count_of (λ command. is_late (wire command)) commands) here ∙ omega (arith, others)

pub early_under : (id : ℕ) (asked : Asked) (sent : List (ℕ × Asked)) → pending_under id sent ≡ Some asked
    → count_under is_late sent ≡ 0 → early_asked asked ≡ true
early_under id asked [] is none = cc
early_under id asked (first ∷ sent) is none =
    by_id (first.0 == id) (early_under id asked sent) is
    (by_first (is_late first.1) (count_under is_late sent) none)
  where
    by_first : (late : Bool) (others : ℕ) → bit late + others ≡ 0 → (late ≡ false) × (others ≡ 0)
    by_first true others is = absurd (omega (arith, is))
    by_first false others is = (refl, omega (arith, is))

    not_late : (early : Bool) → not early ≡ false → early ≡ true
    not_late true is = refl
    not_late false is = cc

    by_id : (same : Bool)
        → (pending_under id sent ≡ Some asked → count_under is_late sent ≡ 0 → early_asked asked ≡ true)
        → cond same (Some first.1) (pending_under id sent) ≡ Some asked
        → (is_late first.1 ≡ false) × (count_under is_late sent ≡ 0) → early_asked asked ≡ true
    by_id true rest found none =
        let one : first.1 ≡ asked = cc in ap early_asked (sym one) ∙ not_late (early_asked first.1) none.0
    by_id false rest found none = rest found none.1
