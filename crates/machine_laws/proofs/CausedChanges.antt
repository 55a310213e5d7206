-- What the target is changed for, by what is left of the item in hand.
use Rattle.std.proofs.Common.{◌≡◌, ℕ, Bool, true, false, cond, List, [], ◌∷◌, ◌++◌, Option, Some, None, refl, sym}
use Rattle.std.proofs.Common.{ap, subst, ◌∙◌, option_map, arith}
use Rattle.jdwp_events.specs.declared.kind.Policy.{Policy}
use Rattle.jdwp_events.specs.declared.kind.Policy.TheVariants.{NoThread, EventThread, All}
use Rattle.machine_model.specs.Composites.{composite_parts, has_death}
use Rattle.machine_model.specs.Due.{asked_hand, due}
use Rattle.machine_model.specs.Leaving.{IsFarewell, deed_for}
use Rattle.machine_model.specs.Lookups.{finished}
use Rattle.machine_model.specs.Outcomes.{result_of}
use Rattle.machine_model.specs.Plans.{Result}
use Rattle.machine_model.specs.Replying.{given_up, hand_replied}
use Rattle.machine_model.specs.Rows.{chosen, failure_of, gone_parts, has_response, news_of, parts_by, parts_of}
use Rattle.machine_model.specs.Rows.{refused_with, row_of, stepped_by, wanting}
use Rattle.machine_model.specs.Runs.{Allows, Message, Run, said}
use Rattle.machine_model.specs.State.{Hand, Machine, State}
use Rattle.machine_model.specs.Stops.{surplus, told_part}
use Rattle.machine_model.proofs.Bools.{both_hold, first_holds, second_holds}
use Rattle.machine_laws.specs.Changing.{AsksFor, IsCause}
use Rattle.machine_steps.specs.Names.{Act, Choice, Command, ConfigurationDone, Continue, Decides, Deed}
use Rattle.machine_steps.specs.Names.{Judges, Strike, breakpoint_hits}
use Rattle.machine_steps.specs.Names.{Disconnect, Dispose, Does, Exit, Failure, Finding, HaltCause, Item, Lookup}
use Rattle.machine_steps.specs.Names.{Next, Part, Pause, Phase, Replied, Request, Resume, SetVariable, StepIn}
use Rattle.machine_steps.specs.Names.{StepOut, Stepped, Suspend, Suspension, TargetCommand, TellsNews, ThreadId}
use Rattle.machine_steps.specs.Names.{Want, Write, Writes, a_composite, a_question, a_raw, a_request, an_effect}
use Rattle.machine_steps.specs.Names.{of_composite, of_entry, of_stop, target_end, variable_write}
use Rattle.machine_laws.proofs.LeavingLaws.{farewells, first_in}
use Rattle.machine_steps.proofs.ReferenceLaws.{due_request}
use Rattle.machine_steps.proofs.RequestSteps.{is_deed}
use Rattle.machine_steps.proofs.Stepping.{IsAt, Loses, Moves, by_moves, moved}
use Rattle.machine_steps.proofs.Tables.{of_decided, of_judged, told_alike}

-- What an item is for -------------------------------------------------------------------------------------------------

-- what an item changes in the target: it begins a stop, it ends one, it lets the entry go, it writes, or it undoes the
-- suspension that it brought
pub data Purpose : Type 0 where
  pausing : Purpose
  running : Purpose
  configuring : Purpose
  writing : Purpose
  undoing : Purpose
  nothing : Purpose

abbrev pub purpose : Command → Purpose
purpose (Pause arguments) = pausing
purpose (Continue arguments) = running
purpose (Next arguments) = running
purpose (StepIn arguments) = running
purpose (StepOut arguments) = running
purpose ConfigurationDone = configuring
purpose (SetVariable arguments) = writing
purpose _ = nothing

abbrev pub purpose_under : Policy → Purpose
purpose_under NoThread = nothing
purpose_under EventThread = nothing
purpose_under All = undoing

abbrev pub purpose_of : Item → Purpose
purpose_of (a_request request) = purpose request.command
purpose_of (a_composite at composite) = purpose_under composite.policy
purpose_of (a_raw at body) = nothing
purpose_of target_end = nothing

abbrev is_pausing : Purpose → Bool
is_pausing pausing = true
is_pausing _ = false

abbrev pub is_running : Purpose → Bool
is_running running = true
is_running _ = false

abbrev is_configuring : Purpose → Bool
is_configuring configuring = true
is_configuring _ = false

abbrev pub is_writing : Purpose → Bool
is_writing writing = true
is_writing _ = false

abbrev is_undoing : Purpose → Bool
is_undoing undoing = true
is_undoing _ = false

-- Lists of parts ------------------------------------------------------------------------------------------------------

abbrev may_undo : Suspension → Purpose → Bool → Bool
may_undo of_composite aim responds = is_undoing aim
may_undo of_entry aim responds = cond (is_configuring aim) responds false
may_undo of_stop aim responds = cond (is_running aim) responds false

-- an item may do this, where its response is behind it or not; how the target is left is told elsewhere
abbrev may_do : Deed → Purpose → Bool → Bool
may_do Suspend aim responds = cond (is_pausing aim) responds false
may_do (Resume suspension) aim responds = may_undo suspension aim responds
may_do (Writes write) aim responds = cond (is_writing aim) responds false
may_do Dispose aim responds = true
may_do Exit aim responds = true

abbrev may_stand : Purpose → Part → Bool → Bool
may_stand aim (Part.Sends deed) responds = may_do deed aim responds
may_stand aim (Part.Unfolds Stepped) responds = is_running aim
may_stand aim (Part.Unfolds Judges) responds = is_undoing aim
may_stand aim (Part.Looks (breakpoint_hits strikes)) responds = is_undoing aim
may_stand aim (Part.Unfolds (Decides logged stops)) responds = is_undoing aim
may_stand aim (Part.Looks (variable_write thing name text)) responds = is_writing aim
may_stand aim _ responds = true

abbrev fits : Purpose → List Part → Bool
fits aim [] = true
fits aim (part ∷ parts) = cond (may_stand aim part (has_response parts)) (fits aim parts) false

abbrev hand_fits : Option Hand → Bool
hand_fits None = true
hand_fits (Some hand) = fits (purpose_of hand.item) hand.parts

-- The tables ----------------------------------------------------------------------------------------------------------

row_fits : (failure : Option Failure) (command : Command) (state : State)
    → fits (purpose command) (parts_by failure (row_of command state)) ≡ true
row_fits failure command state = grind arith

begun_fits : (state : State) (item : Item) → fits (purpose_of item) (parts_of state item) ≡ true
begun_fits state (a_request request) = row_fits (failure_of (wanting request.command) state) request.command state
begun_fits state (a_composite at composite) = by_phase state.phase (has_death composite.events) composite.policy
  where
    by_phase : (phase : Phase) (dies : Bool) (policy : Policy)
        → fits (purpose_under policy) (composite_parts phase dies policy at state.next_entry) ≡ true
    by_phase phase dies policy = grind arith
begun_fits state (a_raw at body) = refl
begun_fits state target_end = grind arith

found_fits : (aim : Purpose) (lookup : Lookup) (result : Result Finding) (state : State) (rest : List Part)
    → fits aim (Part.Looks lookup ∷ rest) ≡ true → fits aim (finished lookup result state ++ rest) ≡ true
found_fits aim (variable_write thing name text) result state rest is = grind (arith, is)
found_fits aim _ result state rest is = is

chosen_fits : (aim : Purpose) (choice : Choice) (state : State) (hand : Hand) (rest : List Part)
    → fits aim (Part.Unfolds choice ∷ rest) ≡ true → fits aim (chosen choice state hand ++ rest) ≡ true
chosen_fits aim (TellsNews below) state hand rest is =
    told_alike (fits aim) (λ news parts. refl) state.phase (news_of below state hand.item) rest ∙ is
chosen_fits aim Stepped state hand rest is = by_code (refused_with hand.effect)
  where
    by_code : (code : Option ℕ) → fits aim (stepped_by code ++ rest) ≡ true
    by_code code = grind (arith, is)
chosen_fits aim Judges state hand rest is = let h = second_holds (is_undoing aim) (fits aim rest) is in
    of_judged (λ (parts : List Part). fits aim (parts ++ rest) ≡ true) h (λ strikes. is) state hand.item
chosen_fits aim (Decides logged stops) state hand rest is = let h = second_holds (is_undoing aim) (fits aim rest) is in
    of_decided (λ (parts : List Part). fits aim (parts ++ rest) ≡ true) h h is
    (λ again thrown stops halt. by_halt again stops halt.cause halt.thread) (λ text texts stops. is) state logged stops
    hand.item
  where
    by_halt : (again : Bool) (stops : List Strike) (cause : HaltCause) (thread : ThreadId)
        → fits aim (told_part stops cause thread ∷ surplus again ++ rest) ≡ true
    by_halt again stops cause thread = grind (arith, is)
chosen_fits aim choice state hand rest is = grind (arith, is)

gone_fits : (responds : Bool) (item : Item) → fits (purpose_of item) (gone_parts responds item) ≡ true
gone_fits responds item = grind arith

-- In runs -------------------------------------------------------------------------------------------------------------

front_fits : {m : Machine} {hand : Hand} {part : Part} {rest : List Part} → hand_fits m.hand ≡ true
    → IsAt m hand part rest → fits (purpose_of hand.item) (part ∷ rest) ≡ true
front_fits {hand = hand} h at = subst (λ (parts : List Part). fits (purpose_of hand.item) parts ≡ true) at.parts
    (subst (λ (held : Option Hand). hand_fits held ≡ true) at.in_hand h)

tail_fits : (aim : Purpose) (part : Part) (rest : List Part) → fits aim (part ∷ rest) ≡ true → fits aim rest ≡ true
tail_fits aim part rest is = second_holds (may_stand aim part (has_response rest)) (fits aim rest) is

replied_fits : (command : TargetCommand) (replied : Replied) (hand : Option Hand)
    → hand_fits (option_map (hand_replied command replied) hand) ≡ hand_fits hand
replied_fits command replied hand = grind arith

asked_fits : (want : Want) (hand : Option Hand) → hand_fits (option_map (asked_hand want) hand) ≡ hand_fits hand
asked_fits want hand = grind arith

given_fits : (hand : Option Hand) → hand_fits (option_map given_up hand) ≡ true
given_fits None = refl
given_fits (Some hand) = gone_fits (has_response hand.parts) hand.item

fits_on : (m next : Machine) (said : Option Message) → hand_fits m.hand ≡ true → Moves m said next
    → hand_fits next.hand ≡ true
fits_on m next said h (Moves.begins picked free none is) = begun_fits m.state picked.item
fits_on m next said h (Moves.drops free is none) = refl
fits_on m next said h (Moves.responds {hand} {rest} {outcome = outcome} free at is) =
    tail_fits (purpose_of hand.item) (Part.Responds outcome) rest (front_fits h at)
fits_on m next said h (Moves.finds {hand} {rest} {lookup} found free at needs done) =
    found_fits (purpose_of hand.item) lookup (result_of found) m.state rest (front_fits h at)
fits_on m next said h (Moves.passes_over {hand} {part} {rest} free at why) =
    tail_fits (purpose_of hand.item) part rest (front_fits h at)
fits_on m next said h (Moves.tells {hand} {rest} {event} free at) =
    tail_fits (purpose_of hand.item) (Part.Tells event) rest (front_fits h at)
fits_on m next said h (Moves.sends {hand} {rest} {deed} free at near) =
    tail_fits (purpose_of hand.item) (Part.Sends deed) rest (front_fits h at)
fits_on m next said h (Moves.updates free at is near) = front_fits h at
fits_on m next said h (Moves.notes {hand} {note} {rest} free at) =
    tail_fits (purpose_of hand.item) (Part.Notes note) rest (front_fits h at)
fits_on m next said h (Moves.unfolds {hand} {choice} {rest} free at) =
    chosen_fits (purpose_of hand.item) choice m.state hand rest (front_fits h at)
fits_on m next said h (Moves.queues free is) = subst (λ (held : Option Hand). hand_fits held ≡ true) is h
fits_on m next said h (Moves.asks {want = want} free room is are) = asked_fits want m.hand ∙ h
fits_on m next said h (Moves.answers {question} {replied} is waits reply lasts) =
    replied_fits (a_question question) replied m.hand ∙ h
fits_on m next said h (Moves.replies {effect} {replied} is flies reply lasts) =
    replied_fits (an_effect effect) replied m.hand ∙ h
fits_on m next said h (Moves.loses late near why) = given_fits m.hand
fits_on m next said h _ = h

fitting : {messages : List Message} {m : Machine} → Run messages m → hand_fits m.hand ≡ true
fitting r = by_moves {Holds = λ (messages : List Message) (m : Machine). hand_fits m.hand ≡ true}
    (record {
      starts = refl;
      moves = λ messages m next said h moved. fits_on m next said h moved;
      queues = λ messages m hand queue may h. h;
    }) r

-- a value is written for a `setVariable` alone, and the stop is over for a request that runs on
pub is_to_write : {messages : List Message} {m : Machine} {hand : Hand} {rest : List Part} (write : Write)
    → Run messages m → IsAt m hand (Part.Sends (Writes write)) rest → is_writing (purpose_of hand.item) ≡ true
is_to_write {hand = hand} {rest} write r at = first_holds (is_writing (purpose_of hand.item)) (has_response rest)
    (first_holds (may_do (Writes write) (purpose_of hand.item) (has_response rest)) (fits (purpose_of hand.item) rest)
    (front_fits (fitting r) at))

pub is_to_run : {messages : List Message} {m : Machine} {hand : Hand} {rest : List Part} → Run messages m
    → IsAt m hand (Part.Sends (Resume of_stop)) rest → is_running (purpose_of hand.item) ≡ true
is_to_run {hand = hand} {rest} r at = first_holds (is_running (purpose_of hand.item)) (has_response rest)
    (first_holds (may_do (Resume of_stop) (purpose_of hand.item) (has_response rest))
    (fits (purpose_of hand.item) rest) (front_fits (fitting r) at))

-- What asks for a change ----------------------------------------------------------------------------------------------

asks_pause : (command : Command) → is_pausing (purpose command) ≡ true → AsksFor command Suspend
asks_pause (Pause arguments) is = AsksFor.pauses
asks_pause _ is = cc

asks_run : (command : Command) → is_running (purpose command) ≡ true → AsksFor command (Resume of_stop)
asks_run (Continue arguments) is = AsksFor.continues
asks_run (Next arguments) is = AsksFor.steps
asks_run (StepIn arguments) is = AsksFor.steps_in
asks_run (StepOut arguments) is = AsksFor.steps_out
asks_run _ is = cc

asks_entry : (command : Command) → is_configuring (purpose command) ≡ true → AsksFor command (Resume of_entry)
asks_entry ConfigurationDone is = AsksFor.configures
asks_entry _ is = cc

asks_write : (write : Write) (command : Command) → is_writing (purpose command) ≡ true → AsksFor command (Writes write)
asks_write write (SetVariable arguments) is = AsksFor.writes
asks_write write _ is = cc

-- only a request has such a purpose
record IsFor (item : Item) (deed : Deed) : Type 0 where
  request : Request
  is_request : item ≡ a_request request
  asks : AsksFor request.command deed

item_for : (test : Purpose → Bool) (deed : Deed) (item : Item) → test undoing ≡ false → test nothing ≡ false
    → ((command : Command) → test (purpose command) ≡ true → AsksFor command deed) → test (purpose_of item) ≡ true
    → IsFor item deed
item_for test deed (a_request request) no_event no_more asks is =
    record { request = request; is_request = refl; asks = asks request.command is }
item_for test deed (a_composite at composite) no_event no_more asks is = by_policy composite.policy is
  where
    by_policy : (policy : Policy) → test (purpose_under policy) ≡ true → IsFor (a_composite at composite) deed
    by_policy All is = let no : true ≡ false = sym is ∙ no_event in cc
    by_policy NoThread is = let no : true ≡ false = sym is ∙ no_more in cc
    by_policy EventThread is = let no : true ≡ false = sym is ∙ no_more in cc
item_for test deed _ no_event no_more asks is = let no : true ≡ false = sym is ∙ no_more in cc

-- only a composite that suspends the whole target undoes its suspension
undone_at : {messages : List Message} {m : Machine} {hand : Hand} → m.hand ≡ Some hand → (item : Item)
    → hand.item ≡ item → is_undoing (purpose_of item) ≡ true → IsCause messages m (Resume of_composite)
undone_at {messages} {m} held (a_composite at composite) same is = by_policy composite.policy refl is
  where
    by_policy : (policy : Policy) → composite.policy ≡ policy → is_undoing (purpose_under policy) ≡ true
        → IsCause messages m (Resume of_composite)
    by_policy All under is = IsCause.of_event held same under
    by_policy _ under is = cc
undone_at held (a_request request) same is = absurd (none request.command is)
  where
    none : (command : Command) → is_undoing (purpose command) ≡ true → ⊥
    none command is = grind (arith, is)
undone_at held _ same is = cc

asked_at : {messages : List Message} {m : Machine} {hand : Hand} {deed : Deed} {rest : List Part} → Run messages m
    → IsAt m hand (Part.Sends deed) rest → IsFor hand.item deed → has_response rest ≡ true → IsCause messages m deed
asked_at r at f responds = IsCause.of_request f.request (first_in r at f.is_request responds) f.asks

-- The law -------------------------------------------------------------------------------------------------------------

-- the target is left
left_for : {messages : List Message} {m : Machine} (deed : Deed) → IsFarewell messages (an_effect (Does deed))
    → IsCause messages m deed
left_for deed f =
    let same : deed_for f.arguments.terminate_debuggee ≡ deed = let is = f.as_asked in cc in
    IsCause.of_request f.request f.first (subst (λ (command : Command). AsksFor command deed) (sym f.is_disconnect)
    (subst (λ (deed : Deed). AsksFor (Disconnect f.arguments) deed) same AsksFor.leaves))

farewell_run : {messages : List Message} {m : Machine} (deed : Deed) → Run messages m
    → (due false m).act ≡ Act.Sends (Does deed) → Run (messages ++ Message.sends (an_effect (Does deed)) ∷ [])
    (due false m).next
farewell_run deed r is = Run.moves r (Allows.acts (ap said is))

caused_at : {messages : List Message} {m : Machine} {hand : Hand} {rest : List Part} (deed : Deed) → Run messages m
    → (due false m).act ≡ Act.Sends (Does deed) → IsAt m hand (Part.Sends deed) rest
    → may_do deed (purpose_of hand.item) (has_response rest) ≡ true → IsCause messages m deed
caused_at {hand = hand} {rest} Suspend r is at may =
    let (aims, responds) = both_hold (is_pausing (purpose_of hand.item)) (has_response rest) may in
    asked_at r at (item_for is_pausing Suspend hand.item refl refl asks_pause aims) responds
caused_at {hand = hand} {rest} (Resume of_stop) r is at may =
    let (aims, responds) = both_hold (is_running (purpose_of hand.item)) (has_response rest) may in
    asked_at r at (item_for is_running (Resume of_stop) hand.item refl refl asks_run aims) responds
caused_at {hand = hand} {rest} (Resume of_entry) r is at may =
    let (aims, responds) = both_hold (is_configuring (purpose_of hand.item)) (has_response rest) may in
    asked_at r at (item_for is_configuring (Resume of_entry) hand.item refl refl asks_entry aims) responds
caused_at {hand = hand} {rest} (Resume of_composite) r is at may = undone_at at.in_hand hand.item refl may
caused_at {hand = hand} {rest} (Writes write) r is at may =
    let (aims, responds) = both_hold (is_writing (purpose_of hand.item)) (has_response rest) may in
    asked_at r at (item_for is_writing (Writes write) hand.item refl refl (asks_write write) aims) responds
caused_at {messages} {m} Dispose r is at may =
    left_for Dispose (farewells (messages ++ Message.sends (an_effect (Does Dispose)) ∷ []) messages []
    (due false m).next (an_effect (Does Dispose)) (farewell_run Dispose r is) refl refl)
caused_at {messages} {m} Exit r is at may =
    left_for Exit (farewells (messages ++ Message.sends (an_effect (Does Exit)) ∷ []) messages [] (due false m).next
    (an_effect (Does Exit)) (farewell_run Exit r is) refl refl)

caused_by : {messages : List Message} (m next : Machine) (said : Option Message) (deed : Deed) → Run messages m
    → (due false m).act ≡ Act.Sends (Does deed) → said ≡ Some (Message.sends (an_effect (Does deed)))
    → Moves m said next → IsCause messages m deed
caused_by {messages} m next said deed r due_now is (Moves.sends {hand} {rest} {deed = one} free at near) =
    let same : one ≡ deed = cc in
    subst (λ (deed : Deed). IsCause messages m deed) same
    (caused_at one r (due_now ∙ ap (λ (deed : Deed). Act.Sends (Does deed)) (sym same)) at
    (first_holds (may_do one (purpose_of hand.item) (has_response rest)) (fits (purpose_of hand.item) rest)
    (front_fits (fitting r) at)))
caused_by m next said deed r due_now is (Moves.updates {effect = effect} free at change near) =
    let same : effect ≡ Does deed = cc in
    let no : false ≡ true = sym (due_request m.state.wishes effect change) ∙ ap is_deed same in cc
caused_by {messages} m next said deed r due_now is (Moves.loses late near why) = by_loss why is
  where
    by_loss : {message : Message} {late : List TargetCommand} → Loses m message late
        → Some message ≡ Some (Message.sends (an_effect (Does deed))) → IsCause messages m deed
    by_loss Loses.by_end is = cc
    by_loss _ is = cc
caused_by m next said deed r due_now is _ = cc

pub changes : (messages : List Message) (m : Machine) (deed : Deed) → Run messages m
    → (due false m).act ≡ Act.Sends (Does deed) → IsCause messages m deed
changes messages m deed r is = caused_by m (due false m).next _ deed r is refl (moved (Allows.acts (ap said is)))
