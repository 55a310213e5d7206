-- A session that is done has told the success of its last request, a `disconnect`, last.
use Rattle.std.proofs.Common.{◌≡◌, ℕ, Bool, true, false, cond, not, List, [], ◌∷◌, ◌++◌, Option, Some, None, refl, sym}
use Rattle.std.proofs.Common.{ap, subst, ◌∙◌, append-nil}
use Rattle.dap_frames.specs.Frames.{Frame, frame_front}
use Rattle.dap_messages.specs.declared.told.Outcome.TheVariants as outcomes
use Rattle.dap_messages.specs.declared.told.Shape.TheVariants as shapes
use Rattle.machine_model.specs.Due.{clear, due}
use Rattle.machine_model.specs.Due.{load_of}
use Rattle.machine_model.specs.Rest.{AreAnswered, request_by, requests_of, responses_of, without_response}
use Rattle.machine_model.specs.Runs.{Allows, Message, Run, is_disconnect, said}
use Rattle.machine_model.specs.State.{Hand, Machine, left}
use Rattle.machine_model.specs.Telling.{response_to}
use Rattle.machine_steps.proofs.ServedLaws.{owing, responded_left}
use Rattle.machine_steps.proofs.Stepping.{IsAt, Moves, moved, walks_due}
use Rattle.session_model.specs.Causes.{Cause, link_ending}
use Rattle.session_laws.specs.Endings.{IsDone}
use Rattle.session_laws.specs.Hearing.{AreRead}
use Rattle.session_model.specs.Names.{a_request, Act, Client, Done, Ending, Entry}
use Rattle.session_model.specs.Names.{finish_done, finish_one_thread, Limits, Nothing, Part, Request, Side, Success}
use Rattle.session_model.specs.Names.{Target}
use Rattle.session_model.specs.Saying.{Speaks}
use Rattle.session_model.specs.Session.{Ended, EndedState, Going}
use Rattle.session_model.specs.States.{SessionState, StreamState, due_now, id_pending}
use Rattle.session_laws.proofs.DueLaws.{clear_behind, ends_now, is_over, over_ends, over_now}
use Rattle.session_laws.proofs.HearLaws.{are_heard}
use Rattle.session_laws.proofs.PartLaws.{Steps, ends_first, hand_on, is_fit, leaves_by, only_end, step_on}
use Rattle.session_laws.proofs.RunLaws.{is_run}
use Rattle.session_laws.proofs.Steps.{flat_map_same}
use Rattle.wire_core.specs.Streams.{IsSteady}

-- A `disconnect` is the last request ----------------------------------------------------------------------------------

abbrev HasNoDisconnect : List Request → Type 0
HasNoDisconnect [] = Unit {0}
HasNoDisconnect (request ∷ requests) = (is_disconnect request.command ≡ false) × HasNoDisconnect requests

abbrev HasItLast : List Request → Type 0
HasItLast [] = Unit {0}
HasItLast (request ∷ requests) = (is_disconnect request.command ≡ true → requests ≡ []) × HasItLast requests

none_more : (requests : List Request) (request : Request) → HasNoDisconnect requests
    → is_disconnect request.command ≡ false → HasNoDisconnect (requests ++ request ∷ [])
none_more [] request none_yet last = (last, tt)
none_more (first ∷ requests) request none_yet last = (none_yet.0, none_more requests request none_yet.1 last)

last_more : (requests : List Request) (request : Request) → HasNoDisconnect requests
    → HasItLast (requests ++ request ∷ [])
last_more [] request none_yet = (λ is. refl, tt)
last_more (first ∷ requests) request none_yet = (λ is. cc, last_more requests request none_yet.1)

last_of_none : (requests : List Request) → HasNoDisconnect requests → HasItLast requests
last_of_none [] none_yet = tt
last_of_none (request ∷ requests) none_yet = (λ is. cc, last_of_none requests none_yet.1)

read_open : {frames : List (ℕ × Frame)} {requests : List Request} {closing : Bool} → AreRead frames requests closing
    → closing ≡ false → HasNoDisconnect requests
read_open AreRead.none is = tt
read_open (AreRead.one_more {requests} {request} frame read reading) is =
    none_more requests request (read_open read refl) is
read_open (AreRead.passed_over frame read reading) is = read_open read refl

read_last : {frames : List (ℕ × Frame)} {requests : List Request} {closing : Bool} → AreRead frames requests closing
    → HasItLast requests
read_last AreRead.none = tt
read_last (AreRead.one_more {requests} {request} frame read reading) = last_more requests request (read_open read refl)
read_last (AreRead.passed_over {requests} frame read reading) = last_of_none requests (read_open read refl)

none_after : (before : List Request) (request : Request) (after : List Request)
    → HasItLast (before ++ request ∷ after) → is_disconnect request.command ≡ true → after ≡ []
none_after [] request after last is = last.0 is
none_after (first ∷ before) request after last is = none_after before request after last.1 is

-- The session ---------------------------------------------------------------------------------------------------------

-- the end is due, and all is done
record IsReady (messages : List Message) (m : Machine) : Type 0 where
  pub done : IsDone messages
  pub hand : Hand
  pub rest : List Part
  pub free : load_of m ≡ clear
  pub held : m.hand ≡ Some hand
  pub parts : hand.parts ≡ Part.Ends finish_done ∷ rest

data Stands (messages : List Message) (m : Machine) : Type 0 where
  on : hand_on m.hand ≡ true → Stands messages m
  ready : IsReady messages m → Stands messages m

over_ready : {messages : List Message} {m : Machine} (id_pending : Bool) (r : IsReady messages m)
    → (due id_pending m).act ≡ Act.Over finish_done
over_ready {m = m} id_pending r = over_now id_pending m r.hand r.rest r.free r.held r.parts

only_is : (rest : List Part) → only_end rest ≡ true → rest ≡ Part.Ends finish_done ∷ []
only_is [] is = cc
only_is (Part.Ends finish_done ∷ []) is = refl
only_is (Part.Ends finish_done ∷ part ∷ rest) is = cc
only_is (Part.Ends (finish_one_thread at) ∷ rest) is = cc
only_is (Part.Responds outcome ∷ rest) is = cc
only_is (Part.Tells event ∷ rest) is = cc
only_is (Part.Sends deed ∷ rest) is = cc
only_is (Part.Looks lookup ∷ rest) is = cc
only_is (Part.Awaits guard ∷ rest) is = cc
only_is (Part.Updates ∷ rest) is = cc
only_is (Part.Notes note ∷ rest) is = cc
only_is (Part.Unfolds choice ∷ rest) is = cc

-- a step that nobody sees is a move
silent_move : {m : Machine} → (due false m).act ≡ Act.Goes → Moves m None (due false m).next
silent_move {m} is = rw is at (walks_due m)

-- the success of a `disconnect` is told
told_last : {limits : Limits} {log : List Entry} {messages : List Message} {turns : ℕ} {s : SessionState}
    {message : Message} {next : Machine} → IsSteady frame_front → Going limits log messages turns s
    → Run (messages ++ message ∷ []) next → (hand : Hand) (request : Request) → load_of s.machine ≡ clear
    → IsAt s.machine hand (Part.Responds (Success Nothing)) (Part.Ends finish_done ∷ []) → hand.item ≡ a_request request
    → is_disconnect request.command ≡ true
    → message ≡ Message.tells (response_to request (outcomes.Success shapes.Nothing))
    → next ≡ left s.machine hand (Part.Ends finish_done ∷ []) → IsReady (messages ++ message ∷ []) next
told_last {messages} {s} {message} {next} steady g run hand request free at item leaves is becomes =
    let before = owing (is_run g) in
    let now = owing run in
    let left_now : without_response s.machine ≡ request ∷ without_response next =
    responded_left at item refl ∙ ap (λ n. request ∷ without_response n) (sym becomes) in
    let all : requests_of messages ≡ before.answered ++ request ∷ without_response next =
    before.requests ∙ ap (λ left. before.answered ++ left) left_now in
    let none : without_response next ≡ [] =
    none_after before.answered request (without_response next)
    (subst (λ requests. HasItLast requests) all (read_last (are_heard steady g).read)) leaves in
    let same : requests_of (messages ++ message ∷ []) ≡ requests_of messages =
    ap (λ m. requests_of (messages ++ m ∷ [])) is ∙ flat_map_same request_by messages _ refl in
    record {
      done = record {
        before = messages;
        earlier = before.answered;
        request = request;
        disconnects = leaves;
        heard = same ∙ all ∙ ap (λ left. before.answered ++ request ∷ left) none;
        last = ap (λ m. messages ++ m ∷ []) is;
        answered = subst (λ requests. AreAnswered requests (responses_of (messages ++ message ∷ [])))
            (sym (now.requests ∙ ap (λ left. now.answered ++ left) none ∙ append-nil now.answered)) now.responses;
      };
      hand = record hand { parts = Part.Ends finish_done ∷ [] };
      rest = [];
      free = ap load_of becomes ∙ clear_behind s.machine hand _ free at;
      held = ap (λ n. n.hand) becomes;
      parts = refl;
    }

-- one step, of the machine alone
step_alone : {messages : List Message} {m next : Machine} → Steps m next None → Stands messages next
step_alone (Steps.on is) = Stands.on is
step_alone (Steps.last hand request rest free at item is only says becomes) = cc

-- one message
step_said : {limits : Limits} {log : List Entry} {messages : List Message} {turns : ℕ} {s : SessionState}
    {message : Message} {next : Machine} → IsSteady frame_front → Going limits log messages turns s
    → Run (messages ++ message ∷ []) next → Steps s.machine next (Some message)
    → Stands (messages ++ message ∷ []) next
step_said steady g run (Steps.on is) = Stands.on is
step_said {s} {message} steady g run (Steps.last hand request rest free at item is only says becomes) =
    let rest_is = only_is rest only in
    let told : message ≡ Message.tells (response_to request (outcomes.Success shapes.Nothing)) = cc in
    Stands.ready (told_last steady g run hand request free
    (subst (λ r. IsAt s.machine hand (Part.Responds (Success Nothing)) r) rest_is at) item is told
    (becomes ∙ ap (λ r. left s.machine hand r) rest_is))

no_over : {act : Act} → act ≡ Act.Over finish_done → act ≡ Act.Waits → ⊥
no_over over waits = let no : Act.Over finish_done ≡ Act.Waits = sym over ∙ waits in cc

-- what goes out is what is due
due_said : {s : SessionState} {message : Message} {side : Side} {bytes : List ℕ} {streams : StreamState}
    {next : Machine} → Speaks s message side bytes streams → Allows s.machine message next
    → said (due false s.machine).act ≡ Some message
due_said Speaks.tells (Allows.acts is) = is
due_said Speaks.greets (Allows.acts is) = is
due_said (Speaks.sends apart serves) (Allows.acts is) = is

none_said : {act : Act} (message : Message) → act ≡ Act.Over finish_done → said act ≡ Some message → ⊥
none_said message over is = let no : None ≡ Some message = ap said (sym over) ∙ is in cc

no_going : {act : Act} → act ≡ Act.Over finish_done → act ≡ Act.Goes → ⊥
no_going over goes = let no : Act.Over finish_done ≡ Act.Goes = sym over ∙ goes in cc

-- a step from here, unless the end is due
step_from : {messages : List Message} {m next : Machine} → (IsReady messages m → ⊥) → Moves m None next
    → Stands messages m → Stands messages next
step_from unready moves (Stands.on h) = step_alone (step_on _ _ None h moves)
step_from unready moves (Stands.ready r) = absurd (unready r)

message_from : {limits : Limits} {log : List Entry} {messages : List Message} {turns : ℕ} {s : SessionState}
    {message : Message} {next : Machine} → IsSteady frame_front → Going limits log messages turns s
    → Run (messages ++ message ∷ []) next → (IsReady messages s.machine → ⊥) → Moves s.machine (Some message) next
    → Stands messages s.machine → Stands (messages ++ message ∷ []) next
message_from {message = message} steady g run unready moves (Stands.on h) =
    step_said steady g run (step_on _ _ (Some message) h moves)
message_from steady g run unready moves (Stands.ready r) = absurd (unready r)

stands : IsSteady frame_front → {limits : Limits} {log : List Entry} {messages : List Message} {turns : ℕ}
    {s : SessionState} → Going limits log messages turns s → Stands messages s.machine
stands steady Going.begins = Stands.on refl
stands steady (Going.goes g within is) =
    step_from (λ r. no_going (over_ready false r) is) (silent_move is) (stands steady g)
stands steady (Going.speaks {message} g within allows speaks) =
    message_from steady g (is_run (Going.speaks g within allows speaks))
    (λ r. none_said message (over_ready false r) (due_said speaks allows)) (moved allows) (stands steady g)
stands steady (Going.hears {s} g reads allows brings) =
    message_from steady g (is_run (Going.hears g reads allows brings))
    (λ r. no_over (over_ready (id_pending s.streams.commands) r) reads.nothing_due) (moved allows) (stands steady g)
stands steady (Going.ignores g reads whole reading) = stands steady g
stands steady (Going.happens g listens comes) = stands steady g

-- Once it has ended ---------------------------------------------------------------------------------------------------

no_link : (side : Side) → link_ending side ≡ Done → ⊥
no_link Client is = cc
no_link Target is = cc

over_so : {limits : Limits} {turns : ℕ} {s : SessionState} {ending : Ending} {entries : List Entry} {taken : ℕ}
    → Cause limits turns s ending entries taken → ending ≡ Done → is_over (due_now s).act ≡ true
over_so (Cause.over within is) same = ap is_over is
over_so (Cause.lost side listens) same = absurd (no_link side same)
over_so (Cause.broken {side} within allows speaks proper) same = absurd (no_link side same)
over_so _ same = cc

not_first : (hand : Option Hand) → hand_on hand ≡ true → ends_now hand ≡ true → ⊥
not_first None h is = cc
not_first (Some hand) h is = by_tests (is_fit (leaves_by hand.item) hand.parts) (ends_first hand.parts) h is
  where
    by_tests : (fit ends : Bool) → cond fit (not ends) false ≡ true → ends ≡ true → ⊥
    by_tests true true h is = cc
    by_tests true false h is = cc
    by_tests false ends h is = cc

pub is_done : IsSteady frame_front → {limits : Limits} {log : List Entry} {messages : List Message} {turns : ℕ}
    {e : EndedState} → Ended limits log messages turns e → e.ending ≡ Done → IsDone messages
is_done steady {messages} {e} h is = by_state (stands steady h.going)
  where
    by_state : Stands messages e.last.machine → IsDone messages
    by_state (Stands.on h_on) =
        absurd (not_first e.last.machine.hand h_on
        (over_ends (id_pending e.last.streams.commands) e.last.machine (over_so h.cause is)))
    by_state (Stands.ready r) = r.done
