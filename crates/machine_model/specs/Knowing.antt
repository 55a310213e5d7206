-- What is known is what the messages say.
use Rattle.std.specs.Prelude.{ℕ, ◌≡◌, ◌≤◌, ◌<◌, ◌+◌, ◌==◌, ◌∷◌, ◌++◌, Bool, true, false, not, cond, List, [], length}
use Rattle.std.specs.Prelude.{map, Option, None, Some, ◌||◌, nat_lt}
use Rattle.std.specs.List.{flat_map}
use Rattle.class_tables.specs.Facts.{Fact, Known, has_fields, has_lines, has_methods, has_source, has_variables}
use Rattle.class_tables.specs.Facts.{is_below, is_loaded, nothing, same_class, same_method, with_fact}
use Rattle.class_tables.specs.Tables.{under}
use Rattle.dap_messages.specs.declared.told.Breakpoint.{Breakpoint}
use Rattle.dap_messages.specs.declared.told.Event.{Event as EventTold}
use Rattle.dap_messages.specs.declared.told.Event.TheVariants as events
use Rattle.dap_messages.specs.declared.told.Outcome.{Outcome as OutcomeTold}
use Rattle.dap_messages.specs.declared.told.Outcome.TheVariants as outcomes
use Rattle.dap_messages.specs.declared.told.Shape.{Shape}
use Rattle.dap_messages.specs.declared.told.Shape.TheVariants as shapes
use Rattle.dap_messages.specs.declared.told.Thread.{Thread}
use Rattle.jdwp_commands.specs.declared.answer.Answer.TheVariants as answers
use Rattle.jdwp_commands.specs.declared.question.Question.TheVariants as questions
use Rattle.jdwp_commands.specs.declared.listed.LoadedClass.{LoadedClass}
use Rattle.jdwp_events.specs.declared.kind.Policy.{Policy}
use Rattle.jdwp_events.specs.declared.kind.Policy.TheVariants.{NoThread, EventThread, All}
use Rattle.machine_model.specs.Breakpoints.{with_told}
use Rattle.machine_model.specs.Classes.{classes_in, has_prepared}
use Rattle.machine_model.specs.Composites.{has_death, prepared_in}
use Rattle.machine_model.specs.Due.{stopped_by}
use Rattle.machine_model.specs.Facts.{above_in, fields_in, lines_in, methods_in, source_in, variables_in}
use Rattle.machine_model.specs.Names.{Answer, Attached, Choice, Clear, Command, Composite, Decides, Deed, Disconnect}
use Rattle.machine_model.specs.Names.{Dispose, Does, Effect, EntryHeld, Event, Exit, Fresh, Gone, Hit, Initialized}
use Rattle.machine_model.specs.Names.{Item, Leaves, Note, Part, Phase, Question, Replied, Resume, Set, StopCause}
use Rattle.machine_model.specs.Names.{Suspend, Suspension, TargetCommand, TellsNews, Terminated, ThreadId, Told}
use Rattle.machine_model.specs.Names.{a_composite, a_question, a_response, a_stop, an_answer, an_effect, an_error}
use Rattle.machine_model.specs.Names.{an_event, by_client, by_exception, by_step, exception_text, of_composite, of_entry}
use Rattle.machine_model.specs.Names.{of_stop, some_news, Judges, Logged, Lookup, Stepped, Writes, Written}
use Rattle.machine_model.specs.Names.{breakpoint_hits}
use Rattle.machine_model.specs.Pending.{bit}
use Rattle.machine_model.specs.Plans.{answer_in}
use Rattle.machine_model.specs.Runs.{Message, Run}
use Rattle.machine_model.specs.State.{Hand, Machine, SizesRead, State, is_gone, is_some}
use Rattle.suspend_ledger.specs.Suspensions.{composite as composite_came, resumed, suspended, with_happening}
use Rattle.wish_sets.specs.declared.wish.Wish.{Wish}
use Rattle.wish_sets.specs.declared.wish.Wish.TheVariants as wishes

-- What anybody knows who reads the messages; of composites those that came and weren't at their turn, and whether the one
-- at its turn tells of the target's end; how many suspensions of the whole target are held, and whether a stop is in hand.
pub record View : Type 0 where
  pub phase : Phase
  pub greeting_sent : Bool
  pub greeting_heard : Bool
  pub sizes : Option SizesRead
  pub classes : Known
  pub unlisted : Bool
  pub composites : List Composite
  pub dying : Bool
  pub held : ℕ
  pub stopped : Bool
  pub bound : List ℕ
  pub terminated : Bool
  pub closing : Bool

abbrev pub nothing_said : View
nothing_said = record {
  phase = Fresh;
  greeting_sent = false;
  greeting_heard = false;
  sizes = None;
  classes = nothing;
  unlisted = false;
  composites = [];
  dying = false;
  held = 0;
  stopped = false;
  bound = [];
  terminated = false;
  closing = false;
}

-- the target is gone: nothing that happened in it is learnt any more, no suspension is held, and no stop is in hand
abbrev pub gone_view : View → View
gone_view view =
    record view { phase = Gone; composites = []; dying = false; held = 0; stopped = false }

-- Replies -------------------------------------------------------------------------------------------------------------

-- the target is left by it, and any reply will do
abbrev pub is_farewell : TargetCommand → Bool
is_farewell (a_question question) = false
is_farewell (an_effect (Does Dispose)) = true
is_farewell (an_effect (Does Exit)) = true
is_farewell (an_effect effect) = false

-- its error is that of a target that has ended (JDWP, Error Constants, VM_DEAD)
abbrev pub says_dead : Replied → Bool
says_dead (an_answer answer) = false
says_dead (an_error code) = code == 112

-- the sizes of ids, once they are answered (JDWP, VirtualMachine command set, IDSizes)
abbrev pub sizes_said : Replied → Option SizesRead → Option SizesRead
sizes_said (an_answer (answers.IdSizes field method object class frame)) sizes =
    Some (record { field = field; method = method; object = object; class = class; frame = frame })
sizes_said _ sizes = sizes

-- a class that is listed (JDWP, VirtualMachine command set, AllClasses; JDWP, Constants, ClassStatus)
abbrev pub class_said : LoadedClass → Fact
class_said class = is_loaded class.class class.tag class.signature (has_prepared class.status)

-- the facts of classes that are replied (JDWP, VirtualMachine, ReferenceType, ClassType and Method command sets)
abbrev pub facts_said : Question → Option Answer → List Fact
facts_said questions.AllClasses heard = map class_said (classes_in heard)
facts_said (questions.SourceFile class) heard = has_source class (source_in heard) ∷ []
facts_said (questions.Methods class) heard = has_methods class (methods_in heard) ∷ []
facts_said (questions.Fields class) heard = has_fields class (fields_in heard) ∷ []
facts_said (questions.Superclass class) heard = is_below class (above_in heard) ∷ []
facts_said (questions.LineTable class method) heard = has_lines class method (lines_in heard) ∷ []
facts_said (questions.VariableTable class method) heard = has_variables class method (variables_in heard) ∷ []
facts_said _ heard = []

abbrev pub with_facts : List Fact → Known → Known
with_facts [] known = known
with_facts (fact ∷ facts) known = with_facts facts (with_fact fact known)

-- the fact that is asked for was said, or that there is none
abbrev pub was_said : Question → Known → Bool
was_said (questions.SourceFile class) known = is_some (under same_class class known.sources)
was_said (questions.Methods class) known = is_some (under same_class class known.methods)
was_said (questions.Fields class) known = is_some (under same_class class known.fields)
was_said (questions.Superclass class) known = is_some (under same_class class known.supers)
was_said (questions.LineTable class method) known = is_some (under same_method (class, method) known.lines)
was_said (questions.VariableTable class method) known = is_some (under same_method (class, method) known.variables)
was_said _ known = false

-- of what is said of a fact the first counts
abbrev pub newly_said : Question → Option Answer → Known → List Fact
newly_said question heard known = cond (was_said question known) [] (facts_said question heard)

-- all classes were listed
abbrev pub lists_all : Question → Bool
lists_all questions.AllClasses = true
lists_all _ = false

-- a watch has an event request now (JDWP, EventRequest command set, Set, ClassMatch)
abbrev pub is_watch : Wish → Bool
is_watch (wishes.Watch path) = true
is_watch _ = false

abbrev pub has_request : Replied → Bool
has_request (an_answer (answers.Set request)) = true
has_request _ = false

-- a watch was set since all classes were listed
abbrev pub watch_set : Effect → Replied → Bool → Bool
watch_set (Set wish) replied unlisted = cond (is_watch wish) (has_request replied || unlisted) unlisted
watch_set (Clear wish request) replied unlisted = unlisted
watch_set (Does deed) replied unlisted = unlisted

abbrev pub learnt_view : TargetCommand → Replied → View → View
learnt_view (a_question questions.IdSizes) replied view = record view { sizes = sizes_said replied view.sizes }
learnt_view (a_question question) replied view = record view {
  classes = with_facts (newly_said question (answer_in replied) view.classes) view.classes;
  unlisted = cond (lists_all question) false view.unlisted;
}
learnt_view (an_effect effect) replied view =
    record view { unlisted = watch_set effect replied view.unlisted }

-- until the target is gone, a reply tells something, or that it is gone
abbrev pub replied_view : Bool → Bool → TargetCommand → Replied → View → View
replied_view true ended command replied view = view
replied_view false true command replied view = gone_view view
replied_view false false command replied view = learnt_view command replied view

-- Messages ------------------------------------------------------------------------------------------------------------

-- `initialized` attaches the session, `terminated` ends it; with `stopped` a stop is in hand (DAP specification, Events)
abbrev pub event_view : EventTold → View → View
event_view events.Initialized view = record view { phase = Attached }
event_view (events.Breakpoint breakpoint) view = record view { bound = with_told view.bound (breakpoint ∷ []) }
event_view (events.Thread change) view = view
event_view (events.Stopped stop) view = record view { stopped = true }
event_view (events.Output text) view = view
event_view events.Terminated view = record (gone_view view) { terminated = true }

-- the breakpoints that a body shows (DAP specification, SetBreakpoints request)
abbrev pub breakpoints_in_shape : Shape → List Breakpoint
breakpoints_in_shape (shapes.Breakpoints breakpoints) = breakpoints
breakpoints_in_shape _ = []

abbrev pub breakpoints_in : OutcomeTold → List Breakpoint
breakpoints_in (outcomes.Success shape) = breakpoints_in_shape shape
breakpoints_in (outcomes.Failure failure) = []

abbrev pub told_view : Told → View → View
told_view (a_response response) view =
    record view { bound = with_told view.bound (breakpoints_in response.outcome) }
told_view (an_event event) view = event_view event view

-- the request that ends the session (DAP specification, Disconnect request)
abbrev pub closes : Command → Bool
closes (Disconnect arguments) = true
closes _ = false

-- a composite came; where the target is gone it is passed over
abbrev pub come_view : Bool → Composite → View → View
come_view true composite view = view
come_view false composite view = record view { composites = view.composites ++ composite ∷ [] }

-- the stop in hand is over, where it is its suspension that is undone
abbrev pub stopped_after : Suspension → Bool → Bool
stopped_after of_composite stopped = stopped
stopped_after of_entry stopped = stopped
stopped_after of_stop stopped = false

-- one suspension of the whole target is held more, for a stop; or one is undone (JDWP, VirtualMachine command set,
-- Suspend and Resume)
abbrev pub deed_view : Deed → View → View
deed_view Suspend view = record view { held = with_happening suspended view.held; stopped = true }
deed_view (Resume suspension) view = record view {
  held = with_happening resumed view.held;
  stopped = stopped_after suspension view.stopped;
}
deed_view Dispose view = view
deed_view Exit view = view
deed_view (Writes write) view = view

abbrev pub effect_view : Effect → View → View
effect_view (Does deed) view = deed_view deed view
effect_view (Set wish) view = view
effect_view (Clear wish request) view = view

abbrev pub sent_view : TargetCommand → View → View
sent_view (a_question question) view = view
sent_view (an_effect effect) view = effect_view effect view

-- what a message says
abbrev pub says : Message → View → View
says (Message.hears request) view = record view { closing = closes request.command }
says (Message.tells told) view = told_view told view
says (Message.sends command) view = sent_view command view
says Message.greets view = record view { greeting_sent = true }
says Message.greeted view = record view { greeting_heard = true }
says (Message.answers command replied) view =
    replied_view (is_gone view.phase) (cond (is_farewell command) false (says_dead replied)) command replied view
says Message.ends view = gone_view view
says (Message.comes at composite) view = come_view (is_gone view.phase) composite view
says (Message.reads at body composite) view = come_view (is_gone view.phase) composite view
says _ view = view

-- A composite is at its turn: the classes that it tells of are learnt, and under its suspend policy one suspension more
-- is held; of one that tells of the target's end nothing else is (JDWP, Event command set, Composite; JDWP, Constants,
-- SuspendPolicy).
abbrev pub held_after : Composite → ℕ → ℕ
held_after composite held =
    cond (has_death composite.events) held (with_happening (composite_came composite.policy) held)

abbrev pub dying_by : Policy → Bool → Bool
dying_by NoThread dies = dies
dying_by EventThread dies = false
dying_by All dies = dies

abbrev pub turned_view : Composite → List Composite → View → View
turned_view composite others view = record view {
  composites = others;
  dying = dying_by composite.policy (has_death composite.events);
  held = held_after composite view.held;
  classes = with_facts (map class_said (prepared_in composite)) view.classes;
}

abbrev pub is_fresh : Phase → Bool
is_fresh Fresh = true
is_fresh Attached = false
is_fresh Gone = false

-- the session is attached once, and before its target is gone; breakpoints, threads and stops are told until then; that it
-- is gone is told once, and only where it is, or where a composite tells so
abbrev pub may_tell : Told → View → Bool
may_tell (a_response response) view = true
may_tell (an_event events.Initialized) view = is_fresh view.phase
may_tell (an_event (events.Breakpoint breakpoint)) view = not (is_gone view.phase)
may_tell (an_event (events.Thread change)) view = not (is_gone view.phase)
may_tell (an_event (events.Stopped stop)) view = cond (is_gone view.phase) false (nat_lt 0 view.held)
may_tell (an_event (events.Output text)) view = cond (is_gone view.phase) false (nat_lt 0 view.held)
may_tell (an_event events.Terminated) view =
    cond (is_gone view.phase) (not view.terminated) (cond view.dying (not view.terminated) false)

-- a suspension is undone only where one is held, and that of a stop only in a stop; a stop begins where none is in hand
abbrev pub may_resume : Suspension → View → Bool
may_resume of_composite view = true
may_resume of_entry view = true
may_resume of_stop view = view.stopped

abbrev pub may_do : Deed → View → Bool
may_do Suspend view = not view.stopped
may_do (Resume suspension) view = cond (may_resume suspension view) (nat_lt 0 view.held) false
may_do Dispose view = true
may_do Exit view = true
may_do (Writes write) view = true

abbrev pub may_send : TargetCommand → View → Bool
may_send (an_effect (Does deed)) view = may_do deed view
may_send command view = true

-- When a message may be: nothing is heard behind `disconnect`; each side of the handshake is there once; and nothing
-- goes to a target that is gone.
abbrev pub may_be : View → Message → Bool
may_be view (Message.hears request) = not view.closing
may_be view (Message.tells told) = may_tell told view
may_be view Message.greets = cond view.greeting_sent false (not (is_gone view.phase))
may_be view Message.greeted = not view.greeting_heard
may_be view (Message.sends command) = cond (is_gone view.phase) false (may_send command view)
may_be view _ = true

-- Read in order, the messages say this, each of which may be where it stands. Between two of them a composite may be at
-- its turn, the first that waits, once the session is attached.
pub data AreSaid : List Message → View → Type 0 where
  none : AreSaid [] nothing_said
  turns : {messages : List Message} {view : View} (composite : Composite) (others : List Composite)
      → AreSaid messages view → view.phase ≡ Attached → view.composites ≡ composite ∷ others
      → AreSaid messages (turned_view composite others view)
  one_more : {messages : List Message} {view : View} (message : Message) → may_be view message ≡ true
      → AreSaid messages view → AreSaid (messages ++ message ∷ []) (says message view)

-- the composites that wait for their turn
abbrev pub composite_in : Item → List Composite
composite_in (a_composite at composite) = composite ∷ []
composite_in _ = []

abbrev pub waiting_composites : Bool → List Item → List Composite
waiting_composites true items = []
waiting_composites false items = flat_map composite_in items

-- What a part does with the suspension of the composite in hand: it is still to be decided on, to be undone, or to be held
-- as the entry or for the stop that begins.
abbrev pub begins : Bool → StopCause → Bool
begins true reason = false
begins false (Hit entries) = true
begins false (by_exception text) = true
begins false by_step = true
begins false by_client = false

abbrev pub undoes : Suspension → Bool
undoes of_composite = true
undoes of_entry = false
undoes of_stop = false

abbrev pub event_owes : Bool → Event → Bool
event_owes stopped Initialized = false
event_owes stopped (some_news news) = false
event_owes stopped (a_stop stopping) = begins stopped stopping.cause
event_owes stopped (Logged text) = false
event_owes stopped Terminated = false

abbrev pub deed_owes : Deed → Bool
deed_owes Suspend = false
deed_owes (Resume suspension) = undoes suspension
deed_owes Dispose = false
deed_owes Exit = false
deed_owes (Writes write) = false

abbrev pub note_owes : Note → Bool
note_owes EntryHeld = true
note_owes _ = false

abbrev pub choice_owes : Choice → Bool
choice_owes (TellsNews below) = false
choice_owes Judges = true
choice_owes (Decides logged stops) = true
choice_owes Stepped = false
choice_owes (Written seen) = false
choice_owes (Leaves exits) = false

-- the look-up of what was thrown begins a stop, where none is in hand; that of hits decides on the suspension
abbrev pub lookup_owes : Bool → Lookup → Bool
lookup_owes stopped (exception_text thread object) = not stopped
lookup_owes stopped (breakpoint_hits strikes) = true
lookup_owes stopped _ = false

-- the look-up of what was thrown is told of as a stop
abbrev pub lookup_stops : Lookup → Bool
lookup_stops (exception_text thread object) = true
lookup_stops _ = false

abbrev pub part_owes : Bool → Part → Bool
part_owes stopped (Part.Tells event) = event_owes stopped event
part_owes stopped (Part.Sends deed) = deed_owes deed
part_owes stopped (Part.Notes note) = note_owes note
part_owes stopped (Part.Unfolds choice) = choice_owes choice
part_owes stopped (Part.Looks lookup) = lookup_owes stopped lookup
part_owes stopped _ = false

-- whether a stop is in hand behind a part
abbrev pub stopped_told : Event → Bool → Bool
stopped_told Initialized stopped = stopped
stopped_told (some_news news) stopped = stopped
stopped_told (a_stop stopping) stopped = true
stopped_told (Logged text) stopped = stopped
stopped_told Terminated stopped = false

abbrev pub stopped_behind : Part → Bool → Bool
stopped_behind (Part.Tells event) stopped = stopped_told event stopped
stopped_behind (Part.Sends deed) stopped = stopped_by deed stopped
stopped_behind (Part.Looks lookup) stopped = lookup_stops lookup || stopped
stopped_behind _ stopped = stopped

-- the suspension of the composite in hand, as long as it is held for that
abbrev pub owed_in : Bool → List Part → ℕ
owed_in stopped [] = 0
owed_in stopped (part ∷ parts) = cond (part_owes stopped part) (owed_in (stopped_behind part stopped) parts + 1)
    (owed_in (stopped_behind part stopped) parts)

abbrev pub owed_by : Bool → Option Hand → ℕ
owed_by stopped None = 0
owed_by stopped (Some hand) = owed_in stopped hand.parts

-- the suspensions that are held: for the stop in hand, as the entry, and for the composite in hand
abbrev pub held_with : Bool → Bool → ℕ → ℕ
held_with stopped entry owed = bit stopped + bit entry + owed

abbrev pub held_in : State → Option Hand → ℕ
held_in state hand = held_with state.stopped state.entry (owed_by state.stopped hand)

-- a part that tells of the target's end (DAP specification, Events, Terminated)
abbrev pub is_last : Part → Bool
is_last (Part.Tells Terminated) = true
is_last _ = false

abbrev pub has_last : List Part → Bool
has_last [] = false
has_last (part ∷ parts) = is_last part || has_last parts

-- the item in hand is to tell of it
abbrev pub dies : Option Hand → Bool
dies None = false
dies (Some hand) = has_last hand.parts

-- what the machine knows of it
abbrev pub view_of : Machine → View
view_of m = record {
  phase = m.state.phase;
  greeting_sent = m.state.greeting_sent;
  greeting_heard = m.state.greeting_heard;
  sizes = m.state.sizes;
  classes = m.state.classes;
  unlisted = m.state.unlisted;
  composites = waiting_composites (is_gone m.state.phase) m.waiting;
  dying = cond (is_gone m.state.phase) false (dies m.hand);
  held = held_in m.state m.hand;
  stopped = m.state.stopped;
  bound = m.state.bound;
  terminated = m.state.terminated;
  closing = m.closing;
}

-- Numbers of threads --------------------------------------------------------------------------------------------------

-- the thread has this number: threads are numbered from 1, in this order
pub record HasNumber (threads : List ThreadId) (thread : ThreadId) (number : ℕ) : Type 0 where
  pub before : List ThreadId
  pub after : List ThreadId
  pub threads_are : threads ≡ before ++ thread ∷ after
  pub number_is : number ≡ length before + 1

-- one thread has one number, and different threads have different numbers
pub record AreNumberedOnce (threads : List ThreadId) : Type 0 where
  pub one_number : {one other : ThreadId} {first second : ℕ} → HasNumber threads one first
      → HasNumber threads other second → one.0 ≡ other.0 → first ≡ second
  pub one_thread : {one other : ThreadId} {first second : ℕ} → HasNumber threads one first
      → HasNumber threads other second → first ≡ second → one.0 ≡ other.0

-- These numbers were told in this order, so many different ones. Each is one that was told before, or the next: new
-- threads are numbered 1, 2, 3, and so on as they are told.
pub data AreInOrder : List ℕ → ℕ → Type 0 where
  none : AreInOrder [] 0
  again : {numbers : List ℕ} {count number : ℕ} → AreInOrder numbers count → 0 < number → number ≤ count
      → AreInOrder (numbers ++ number ∷ []) count
  one_new : {numbers : List ℕ} {count : ℕ} → AreInOrder numbers count
      → AreInOrder (numbers ++ (count + 1) ∷ []) (count + 1)

abbrev pub thread_number : Thread → ℕ
thread_number thread = thread.id

-- the numbers of threads in a body (DAP specification, Threads request)
abbrev pub numbers_in_shape : Shape → List ℕ
numbers_in_shape shapes.Nothing = []
numbers_in_shape shapes.Capabilities = []
numbers_in_shape (shapes.Breakpoints breakpoints) = []
numbers_in_shape (shapes.Threads threads) = map thread_number threads
numbers_in_shape shapes.Continued = []
numbers_in_shape (shapes.StackFrames frames total) = []
numbers_in_shape (shapes.Scopes reference) = []
numbers_in_shape (shapes.Variables variables) = []
numbers_in_shape (shapes.Written value) = []
numbers_in_shape (shapes.Evaluated value) = []
numbers_in_shape (shapes.ExceptionInfo id mode) = []

abbrev pub numbers_in_outcome : OutcomeTold → List ℕ
numbers_in_outcome (outcomes.Success shape) = numbers_in_shape shape
numbers_in_outcome (outcomes.Failure failure) = []

-- the number of the thread in an event (DAP specification, Events, Thread and Stopped)
abbrev pub numbers_in_event : EventTold → List ℕ
numbers_in_event events.Initialized = []
numbers_in_event (events.Breakpoint breakpoint) = []
numbers_in_event (events.Thread change) = change.id ∷ []
numbers_in_event (events.Stopped stop) = stop.thread ∷ []
numbers_in_event (events.Output text) = []
numbers_in_event events.Terminated = []

abbrev pub numbers_in : Told → List ℕ
numbers_in (a_response response) = numbers_in_outcome response.outcome
numbers_in (an_event event) = numbers_in_event event

abbrev pub numbers_by : Message → List ℕ
numbers_by (Message.tells told) = numbers_in told
numbers_by _ = []

-- the numbers of threads in all that the client was told, in order
abbrev pub thread_numbers : List Message → List ℕ
thread_numbers messages = flat_map numbers_by messages

-- The law -------------------------------------------------------------------------------------------------------------

-- What is known is what the messages say, each of which may be where it stands. Threads are numbered as they are first
-- told.
pub record IsKnown (messages : List Message) (m : Machine) : Type 0 where
  pub said : AreSaid messages (view_of m)
  pub once : AreNumberedOnce m.state.threads
  pub in_order : AreInOrder (thread_numbers messages) (length m.state.threads)

abbrev pub Knows : Type 0
Knows = (messages : List Message) (m : Machine) → Run messages m → IsKnown messages m
