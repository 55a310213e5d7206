-- The target is left for a `disconnect`, which is answered behind that; and the handshake goes out for an `attach`.
use Rattle.std.proofs.Common.{◌≡◌, Bool, true, false, cond, ◌||◌, List, [], ◌∷◌, ◌++◌, Option, Some, None, refl, sym}
use Rattle.std.proofs.Common.{ap, subst, ◌∙◌, arith}
use Rattle.std.specs.List.{flat_map}
use Rattle.dap_messages.specs.declared.requests.AttachArguments.{AttachArguments}
use Rattle.dap_messages.specs.declared.requests.DisconnectArguments.{DisconnectArguments}
use Rattle.dap_messages.specs.declared.told.Response.{Response}
use Rattle.machine_model.specs.Due.{clear, load_of, sized_by, way}
use Rattle.machine_model.specs.Due.Way.{greets as greets_way}
use Rattle.machine_model.specs.Knowing.{is_farewell, is_fresh, view_of}
use Rattle.machine_model.specs.Leaving.{IsFarewell, IsFirst, IsGreeting, IsInTurn, answers_farewell, deed_for}
use Rattle.machine_model.specs.Leaving.{sends_farewell}
use Rattle.machine_model.specs.Pending.{has_such}
use Rattle.machine_model.specs.Plans.{question_of}
use Rattle.machine_model.specs.Rest.{request_in}
use Rattle.machine_model.specs.Rows.{has_response}
use Rattle.machine_model.specs.Runs.{Message, Run}
use Rattle.machine_model.specs.State.{Hand, Machine, SizesRead, is_attached, is_flying, is_gone, is_none}
use Rattle.machine_model.specs.Telling.{outcome_told}
use Rattle.machine_model.proofs.Bools.{both_hold}
use Rattle.machine_steps.specs.Names.{Attach, Attached, Command, Deed, Disconnect, Dispose, Does, Doing, Exit, Fresh}
use Rattle.machine_steps.specs.Names.{Guard, Handshake, IdSizes, Item, Outcome, Part, Phase, Request, TargetCommand}
use Rattle.machine_steps.specs.Names.{a_question, a_request, a_response, an_effect}
use Rattle.machine_laws.proofs.KnowingLaws.{is_known}
use Rattle.machine_laws.proofs.LeavingParts.{Aim, aim_of_command, aim_of, attaches, is_to_leave, is_sends, is_leave}
use Rattle.machine_laws.proofs.LeavingParts.{is_ends, has_part, leaves_well, may_stand, left_by, none_behind, fits_of}
use Rattle.machine_laws.proofs.LeavingParts.{left_of, split_fit, leaving_of, sends_there, sends_leave, leaving}
use Rattle.machine_laws.proofs.LeavingWalk.{stands_at, due_aside, deed_farewell, lost_apart, none_fresh, standing}
use Rattle.machine_steps.proofs.RestLaws.{is_free}
use Rattle.machine_steps.proofs.ServedLaws.{owing}
use Rattle.machine_steps.proofs.Stepping.{IsAt, Loses, Moves, moved}
use Rattle.machine_steps.proofs.Tables.{once, responds_once}
use Rattle.machine_steps.proofs.Testing.{tested, whole}

-- Where a message stands ----------------------------------------------------------------------------------------------

-- where one stands among the messages of which this is the last
data IsAmong (all : List Message) (final : Message) (before : List Message) (message : Message) : Type 0 where
  at_end : all ≡ before → final ≡ message → IsAmong all final before message
  earlier : (rest : List Message) → all ≡ before ++ message ∷ rest → IsAmong all final before message

is_among : (all : List Message) (final : Message) (before after : List Message) (message : Message)
    → all ++ final ∷ [] ≡ before ++ message ∷ after → IsAmong all final before message
is_among [] final [] after message is = IsAmong.at_end refl (cc)
is_among [] final (one ∷ []) after message is = cc
is_among [] final (one ∷ other ∷ before) after message is = cc
is_among (first ∷ all) final [] after message is = IsAmong.earlier all (ap (λ (m : Message). m ∷ all) (cc))
is_among (first ∷ all) final (one ∷ before) after message is =
    onward (is_among all final before after message (cc))
  where
    same : first ≡ one
    same = cc

    onward : IsAmong all final before message → IsAmong (first ∷ all) final (one ∷ before) message
    onward (IsAmong.at_end are one_is) =
        IsAmong.at_end (ap (λ (m : Message). m ∷ all) same ∙ ap (λ (rest : List Message). one ∷ rest) are) one_is
    onward (IsAmong.earlier rest are) =
        IsAmong.earlier rest (ap (λ (m : Message). m ∷ all) same ∙ ap (λ (rest : List Message). one ∷ rest) are)

-- behind these messages the machine came here, and this message was the next
record IsNext (before : List Message) (message : Message) : Type 0 where
  here : Machine
  next : Machine
  run : Run before here
  moves : Moves here (Some message) next

next_of : {messages : List Message} {m : Machine} → Run messages m → (before after : List Message) (message : Message)
    → messages ≡ before ++ message ∷ after → IsNext before message
next_of Run.starts [] after message is = cc
next_of Run.starts (first ∷ before) after message is = cc
next_of (Run.goes r still) before after message is = next_of r before after message is
next_of (Run.queues r may) before after message is = next_of r before after message is
next_of (Run.moves {messages} {m} {next} {message = final} r allows) before after message is =
    by_place (is_among messages final before after message is) (λ rest are. next_of r before rest message are)
  where
    by_place : IsAmong messages final before message
        → ((rest : List Message) → messages ≡ before ++ message ∷ rest → IsNext before message)
        → IsNext before message
    by_place (IsAmong.at_end are same) others = record {
      here = m;
      next = next;
      run = subst (λ (messages : List Message). Run messages m) are r;
      moves = subst (λ (message : Message). Moves m (Some message) next) same (moved allows);
    }
    by_place (IsAmong.earlier rest are) others = others rest are

-- The laws ------------------------------------------------------------------------------------------------------------

-- the request in hand is the first without a response
pub first_in : {messages : List Message} {m : Machine} {hand : Hand} {part : Part} {rest : List Part} {request : Request}
    → Run messages m → IsAt m hand part rest → hand.item ≡ a_request request → has_response (part ∷ rest) ≡ true
    → IsFirst messages request
first_in {messages} {m} {hand} {part} {rest} {request} r at is responds =
    let o = owing r in record {
      answered = o.answered;
      others = flat_map request_in m.waiting;
      heard = o.requests
          ∙ ap (λ (left : List Request). o.answered ++ left) (rw (at.in_hand, at.parts, responds, is) refl);
      in_turn = o.responses;
    }

-- an item that is to leave the target is a `disconnect`
record IsToLeave (item : Item) (exits : Bool) : Type 0 where
  request : Request
  arguments : DisconnectArguments
  is_request : item ≡ a_request request
  is_disconnect : request.command ≡ Disconnect arguments
  as_asked : exits ≡ arguments.terminate_debuggee

same_end : (terminates exits responds ends leaves : Bool)
    → leaves_well (leaving terminates) exits responds ends leaves ≡ true → exits ≡ terminates
same_end terminates exits responds ends leaves h = grind (arith, h)

to_leave : (item : Item) (exits responds ends leaves : Bool)
    → leaves_well (aim_of item) exits responds ends leaves ≡ true → IsToLeave item exits
to_leave (a_request request) exits responds ends leaves h = by_command request.command refl h
  where
    by_command : (command : Command) → request.command ≡ command
        → leaves_well (aim_of_command command) exits responds ends leaves ≡ true
        → IsToLeave (a_request request) exits
    by_command (Disconnect arguments) is h = record {
      request = request;
      arguments = arguments;
      is_request = refl;
      is_disconnect = is;
      as_asked = same_end arguments.terminate_debuggee exits responds ends leaves h;
    }
    by_command _ is h = cc
to_leave _ exits responds ends leaves h = cc

-- the deed says whether the target is to end
deed_is : (aim : Aim) (deed : Deed) (responds ends leaves : Bool) → is_sends (Part.Sends deed) ≡ true
    → may_stand aim (Part.Sends deed) responds ends leaves ≡ true
    → (exits : Bool) × (deed ≡ deed_for exits) × (leaves_well aim exits responds ends leaves ≡ true)
deed_is aim Exit responds ends leaves is h = (true, refl, h)
deed_is aim Dispose responds ends leaves is h = (false, refl, h)
deed_is aim _ responds ends leaves is h = cc

is_attached_now : (phase : Phase) → is_attached phase ≡ true → phase ≡ Attached
is_attached_now phase is = grind (arith, is)

farewell_at : {messages : List Message} {m : Machine} {hand : Hand} {rest : List Part} (deed : Deed) → Run messages m
    → IsAt m hand (Part.Sends deed) rest → is_sends (Part.Sends deed) ≡ true
    → IsFarewell messages (an_effect (Does deed))
farewell_at {messages} {m} {hand} {rest} deed r at is =
    let attached = is_attached m.state.phase in
    let sent = has_such sends_farewell messages in
    let replied = has_such answers_farewell messages in
    let h = stands_at attached sent replied at (standing r) in
    let l = leaving_of attached sent replied (aim_of hand.item) (Part.Sends deed) rest hand.effect
    (sends_leave (Part.Sends deed) is) h in
    let (exits, same, well) = deed_is (aim_of hand.item) deed (has_response rest) (has_part is_ends rest)
    (has_part is_leave rest) is l.may in
    let d = to_leave hand.item exits (has_response rest) (has_part is_ends rest) (has_part is_leave rest) well in
    record {
      request = d.request;
      arguments = d.arguments;
      view = view_of m;
      first = first_in r at d.is_request l.responds;
      is_disconnect = d.is_disconnect;
      as_asked = ap (λ (deed : Deed). an_effect (Does deed)) (same ∙ ap deed_for d.as_asked);
      said = (is_known messages m r).said;
      attached = is_attached_now m.state.phase
          (sends_there attached sent replied (aim_of hand.item) (Part.Sends deed) rest hand.effect is h);
      none_before = l.none_sent;
    }

-- a command that leaves the target is a part's
farewell_of : {messages : List Message} {m next : Machine} (said : Option Message) (command : TargetCommand)
    → Run messages m → Moves m said next → said ≡ Some (Message.sends command) → is_farewell command ≡ true
    → IsFarewell messages command
farewell_of {messages} said command r (Moves.sends {deed = deed} free at near) is farewell =
    let same : an_effect (Does deed) ≡ command = cc in
    subst (λ (command : TargetCommand). IsFarewell messages command) same
    (farewell_at deed r at (sym (deed_farewell deed) ∙ ap is_farewell same ∙ farewell))
farewell_of {m = m} said command r (Moves.updates {effect = effect} free at due near) is farewell =
    let same : an_effect effect ≡ command = cc in
    let no : false ≡ true = sym (due_aside m.state.wishes effect due) ∙ ap is_farewell same ∙ farewell in cc
farewell_of said command r (Moves.asks {want = want} free room held are) is farewell =
    let same : a_question (question_of want) ≡ command = cc in
    let no : false ≡ true = ap is_farewell same ∙ farewell in cc
farewell_of said command r (Moves.loses {message} late near why) is farewell =
    let same : message ≡ Message.sends command = cc in
    let no : false ≡ true = sym (lost_apart why) ∙ ap sends_farewell same ∙ farewell in cc
farewell_of said command r _ is farewell = cc

pub farewells : (messages before after : List Message) (m : Machine) (command : TargetCommand) → Run messages m
    → messages ≡ before ++ Message.sends command ∷ after → is_farewell command ≡ true → IsFarewell before command
farewells messages before after m command r is farewell =
    let n = next_of r before after (Message.sends command) is in
    farewell_of (Some (Message.sends command)) command n.run n.moves refl farewell

-- the response of a `disconnect`
left_now : {messages : List Message} {m : Machine} {hand : Hand} {rest : List Part} {request : Request}
    {outcome : Outcome} → Run messages m → load_of m ≡ clear → IsAt m hand (Part.Responds outcome) rest
    → hand.item ≡ a_request request → (arguments : DisconnectArguments) → request.command ≡ Disconnect arguments
    → m.state.phase ≡ Attached → has_such answers_farewell messages ≡ true
left_now {messages} {m} {hand} {rest} {request} {outcome} r free at is arguments command near =
    let attached = is_attached m.state.phase in
    let sent = has_such sends_farewell messages in
    let replied = has_such answers_farewell messages in
    let aim = aim_of hand.item in
    let h = stands_at attached sent replied at (standing r) in
    let fit = split_fit aim (Part.Responds outcome) rest
    (fits_of attached sent replied aim (Part.Responds outcome ∷ rest) hand.effect h) in
    let last : has_response rest ≡ false = grind (arith, whole responds_once (tested once r) at) in
    by_bools attached replied (is_to_leave aim) (has_part is_leave rest) (left_by hand.effect replied)
    (ap is_attached near)
    (ap (λ (item : Item). is_to_leave (aim_of item)) is ∙ ap (λ (c : Command). is_to_leave (aim_of_command c)) command)
    (none_behind aim rest last fit.1)
    (landed hand.effect replied (is_free m hand free (ap is_gone near) at.in_hand).lands)
    (left_of attached sent replied aim (Part.Responds outcome ∷ rest) hand.effect h)
  where
    landed : (effect : Option Doing) (replied : Bool) → is_flying effect ≡ false → left_by effect replied ≡ true
        → replied ≡ true
    landed None replied lands h = cc
    landed (Some doing) replied lands h =
        by_tests (is_farewell (an_effect doing.effect)) (is_none doing.reply) replied lands h
      where
        by_tests : (leaves none replied : Bool) → none ≡ false → cond leaves (none || replied) false ≡ true
            → replied ≡ true
        by_tests leaves none replied lands h = grind (arith, lands, h)

    by_bools : (attached replied leaves more left : Bool) → attached ≡ true → leaves ≡ true → more ≡ false
        → (left ≡ true → replied ≡ true) → cond leaves (cond attached (more || left) true) true ≡ true
        → replied ≡ true
    by_bools attached replied leaves more left near is none lands h = grind (arith, near, is, none, lands, h)

none_sent : (phase : Phase) (sent : Bool) → phase ≡ Fresh → (sent ≡ true → is_fresh phase ≡ false) → sent ≡ false
none_sent phase true fresh is = let no : true ≡ false = sym (ap is_fresh fresh) ∙ is refl in cc
none_sent phase false fresh is = refl

in_turn_of : {messages : List Message} {m next : Machine} (said : Option Message) (response : Response)
    → Run messages m → Moves m said next → said ≡ Some (Message.tells (a_response response))
    → IsInTurn messages response
in_turn_of {messages} {m} said response r (Moves.responds {hand} {rest} {request} {outcome} free at item) is =
    let same : response ≡ record {
      request_seq = request.seq;
      command = request.name;
      outcome = outcome_told outcome
          m.state;
    } = cc in
    record {
      request = request;
      view = view_of m;
      first = first_in r at item refl;
      answers = record {
        seq = ap (λ (response : Response). response.request_seq) same;
        command = ap (λ (response : Response). response.command) same;
      };
      said = (is_known messages m r).said;
      left = λ arguments command near. left_now r free at item arguments command near;
      none_sent = λ fresh. none_sent m.state.phase (has_such sends_farewell messages) fresh (none_fresh r);
    }
in_turn_of {messages = messages} said response r (Moves.loses late near why) is = by_loss why is
  where
    by_loss : {m : Machine} {message : Message} {late : List TargetCommand} → Loses m message late
        → Some message ≡ Some (Message.tells (a_response response)) → IsInTurn messages response
    by_loss Loses.by_end is = cc
    by_loss _ is = cc
in_turn_of said response r _ is = cc

pub disconnects : (messages before after : List Message) (m : Machine) (response : Response) → Run messages m
    → messages ≡ before ++ Message.tells (a_response response) ∷ after → IsInTurn before response
disconnects messages before after m response r is =
    let n = next_of r before after (Message.tells (a_response response)) is in
    in_turn_of (Some (Message.tells (a_response response))) response n.run n.moves refl

-- The handshake
record IsToAttach (item : Item) : Type 0 where
  request : Request
  arguments : AttachArguments
  is_request : item ≡ a_request request
  is_attach : request.command ≡ Attach arguments

to_attach : (item : Item) → attaches (aim_of item) ≡ true → IsToAttach item
to_attach (a_request request) h = by_command request.command refl h
  where
    by_command : (command : Command) → request.command ≡ command → attaches (aim_of_command command) ≡ true
        → IsToAttach (a_request request)
    by_command (Attach arguments) is h =
        record { request = request; arguments = arguments; is_request = refl; is_attach = is }
    by_command _ is h = cc
to_attach _ h = cc

greeting_at : {messages : List Message} {m : Machine} {hand : Hand} {rest : List Part} → Run messages m
    → IsAt m hand (Part.Awaits Handshake) rest → IsGreeting messages
greeting_at {messages} {m} {hand} {rest} r at =
    let attached = is_attached m.state.phase in
    let sent = has_such sends_farewell messages in
    let replied = has_such answers_farewell messages in
    let h = stands_at attached sent replied at (standing r) in
    let may = split_fit (aim_of hand.item) (Part.Awaits Handshake) rest
    (fits_of attached sent replied (aim_of hand.item) (Part.Awaits Handshake ∷ rest) hand.effect h) in
    let (for_attach, responds) = both_hold (attaches (aim_of hand.item)) (has_response rest) may.0 in
    let a = to_attach hand.item for_attach in
    record {
      request = a.request;
      arguments = a.arguments;
      first = first_in r at a.is_request responds;
      is_attach = a.is_attach;
    }

-- only the guard of the handshake greets
greeting_by : {messages : List Message} {m : Machine} {hand : Hand} {rest : List Part} (guard : Guard) → Run messages m
    → IsAt m hand (Part.Awaits guard) rest → way guard m.state ≡ greets_way → IsGreeting messages
greeting_by Handshake r at is = greeting_at r at
greeting_by {messages} {m} IdSizes r at is = by_sizes m.state.sizes is
  where
    by_sizes : (sizes : Option SizesRead) → sized_by sizes ≡ greets_way → IsGreeting messages
    by_sizes None is = cc
    by_sizes (Some sizes) is = cc

greeting_of : {messages : List Message} {m next : Machine} (said : Option Message) → Run messages m
    → Moves m said next → said ≡ Some Message.greets → IsGreeting messages
greeting_of said r (Moves.greets {guard = guard} free at by near) is = greeting_by guard r at by
greeting_of {messages = messages} said r (Moves.loses late near why) is = by_loss why is
  where
    by_loss : {m : Machine} {message : Message} {late : List TargetCommand} → Loses m message late
        → Some message ≡ Some Message.greets → IsGreeting messages
    by_loss Loses.by_end is = cc
    by_loss _ is = cc
greeting_of said r _ is = cc

pub greetings : (messages before after : List Message) (m : Machine) → Run messages m
    → messages ≡ before ++ Message.greets ∷ after → IsGreeting before
greetings messages before after m r is =
    let n = next_of r before after Message.greets is in greeting_of (Some Message.greets) n.run n.moves refl
