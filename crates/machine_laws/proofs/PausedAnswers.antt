-- The event `stopped` of a `pause` comes right behind the success of this request.
use Rattle.std.proofs.Common.{◌≡◌, Bool, true, false, cond, List, [], ◌∷◌, ◌++◌, Option, Some, None, refl, sym, ap}
use Rattle.std.proofs.Common.{ℕ, subst, ◌∙◌, append-nil, option_map, arith}
use Rattle.machine_model.specs.Due.{asked_hand}
use Rattle.machine_model.specs.Lookups.{finished}
use Rattle.machine_model.specs.Outcomes.{result_of}
use Rattle.machine_model.specs.Plans.{Result}
use Rattle.machine_model.specs.Replying.{given_up, hand_replied}
use Rattle.machine_model.specs.Rest.{request_in, told_by, told_of}
use Rattle.machine_model.specs.Rows.{chosen, failure_of, gone_parts, has_response, news_of, parts_by, parts_of, row_of}
use Rattle.machine_model.specs.Rows.{leaves, refused_with, stepped_by, told_in, wanting, written_by}
use Rattle.machine_model.specs.Runs.{Message, Run}
use Rattle.machine_model.specs.State.{Hand, Machine, State}
use Rattle.machine_model.specs.Stops.{surplus, told_part}
use Rattle.machine_model.specs.Telling.{body_told, numbered, outcome_told, response_to}
use Rattle.machine_model.proofs.Bools.{first_fails, second_holds}
use Rattle.machine_steps.specs.Names.{Attached, Choice, Command, Decides, Failed, Failure, Finding, HaltCause, Item}
use Rattle.machine_steps.specs.Names.{Judges, Strike}
use Rattle.machine_steps.specs.Names.{Leaves, Lookup, News, Outcome, Part, Phase, Replied, Request, StopCause, Stopping}
use Rattle.machine_steps.specs.Names.{Success, TargetCommand, TellsNews, ThreadId, Want, a_question, a_request, a_stop}
use Rattle.machine_steps.specs.Names.{Stepped, Written, an_effect, by_client}
use Rattle.machine_model.specs.Names.{Told}
use Rattle.machine_laws.specs.Pausing.{IsToldLast}
use Rattle.machine_steps.proofs.ServedLaws.{one_more}
use Rattle.machine_steps.proofs.Stepping.{IsAt, Moves, Skips, by_runs, with_said}
use Rattle.machine_steps.proofs.Tables.{of_decided, of_judged}
use Rattle.machine_steps.proofs.Testing.{IsTest, tested, whole}

-- Lists of parts ------------------------------------------------------------------------------------------------------

abbrev pub is_client : StopCause → Bool
is_client by_client = true
is_client _ = false

-- it tells of a stop that the client asked for
abbrev pub tells_pause : Part → Bool
tells_pause (Part.Tells (a_stop stopping)) = is_client stopping.cause
tells_pause _ = false

abbrev pub starts_paused : List Part → Bool
starts_paused [] = false
starts_paused (part ∷ parts) = tells_pause part

abbrev is_success : Part → Bool
is_success (Part.Responds (Success body)) = true
is_success _ = false

-- such a stop is told right behind a success
abbrev are_behind : List Part → Bool
are_behind [] = true
are_behind (part ∷ parts) = cond (cond (starts_paused parts) (is_success part) true) (are_behind parts) false

abbrev paused_last : Bool → List Part → Bool
paused_last gone parts = are_behind parts

row_behind : (failure : Option Failure) (command : Command) (state : State)
    → are_behind (parts_by failure (row_of command state)) ≡ true
row_behind failure command state = grind arith

begun_behind : (state : State) (item : Item) → are_behind (parts_of state item) ≡ true
begun_behind state (a_request request) = row_behind (failure_of (wanting request.command) state) request.command state
begun_behind state _ = grind arith

row_starts : (failure : Option Failure) (command : Command) (state : State)
    → starts_paused (parts_by failure (row_of command state)) ≡ false
row_starts failure command state = grind arith

begun_starts : (state : State) (item : Item) → starts_paused (parts_of state item) ≡ false
begun_starts state (a_request request) = row_starts (failure_of (wanting request.command) state) request.command state
begun_starts state _ = grind arith

gone_starts : (responds : Bool) (item : Item) → starts_paused (gone_parts responds item) ≡ false
gone_starts responds item = grind arith

found_starts : (lookup : Lookup) (result : Result Finding) (state : State) (rest : List Part)
    → starts_paused (finished lookup result state ++ rest) ≡ false
found_starts lookup result state rest = grind arith

-- what a choice becomes, in front of parts that don't start so
record Behind (parts : List Part) : Type 0 where
  starts : starts_paused parts ≡ false
  behind : are_behind parts ≡ true

chosen_behind : (choice : Choice) (state : State) (hand : Hand) (rest : List Part) → Behind rest
    → Behind (chosen choice state hand ++ rest)
chosen_behind (TellsNews below) state hand rest h = by_news state.phase (news_of below state hand.item)
  where
    by_news : (phase : Phase) (news : List News) → Behind (told_in phase news ++ rest)
    by_news Attached (one ∷ news) = let others = by_news Attached news in
        record { starts = refl; behind = rw (others.starts, others.behind) refl }
    by_news _ _ = h
chosen_behind Judges state hand rest h =
    of_judged (λ (parts : List Part). Behind (parts ++ rest)) h
    (λ strikes. record { starts = refl; behind = rw (h.starts, h.behind) refl }) state hand.item
chosen_behind (Decides logged stops) state hand rest h =
    of_decided (λ (parts : List Part). Behind (parts ++ rest)) h
    (record { starts = refl; behind = rw (h.starts, h.behind) refl })
    (record { starts = refl; behind = rw (h.starts, h.behind) refl })
    (λ again thrown stops halt. record { starts = refl; behind = by_halt again stops halt.cause halt.thread })
    (λ text texts stops. record { starts = refl; behind = rw (h.starts, h.behind) refl }) state logged stops hand.item
  where
    by_halt : (again : Bool) (stops : List Strike) (cause : HaltCause) (thread : ThreadId)
        → are_behind (Part.Updates ∷ told_part stops cause thread ∷ surplus again ++ rest) ≡ true
    by_halt again stops cause thread = grind (arith, h.starts, h.behind)
chosen_behind Stepped state hand rest h = by_code (refused_with hand.effect)
  where
    by_code : (code : Option ℕ) → Behind (stepped_by code ++ rest)
    by_code None = record { starts = refl; behind = rw (h.starts, h.behind) refl }
    by_code (Some code) = record { starts = refl; behind = rw (h.starts, h.behind) refl }
chosen_behind (Written seen) state hand rest h = by_code (refused_with hand.effect)
  where
    by_code : (code : Option ℕ) → Behind (written_by seen code ++ rest)
    by_code None = record { starts = refl; behind = rw (h.starts, h.behind) refl }
    by_code (Some code) = record { starts = refl; behind = rw (h.starts, h.behind) refl }
chosen_behind (Leaves exits) state hand rest h = by_phase state.phase
  where
    by_phase : (phase : Phase) → Behind (leaves phase exits ++ rest)
    by_phase Attached = record { starts = refl; behind = rw (h.starts, h.behind) refl }
    by_phase _ = h

found_behind : (lookup : Lookup) (result : Result Finding) (state : State) (rest : List Part) → Behind rest
    → are_behind (finished lookup result state ++ rest) ≡ true
found_behind lookup result state rest h = grind (arith, h.starts, h.behind)

-- what stands behind a part that isn't the success
rest_behind : (rest : List Part) → cond (cond (starts_paused rest) false true) (are_behind rest) false ≡ true
    → Behind rest
rest_behind rest is =
    record {
      starts = first_fails (starts_paused rest) (are_behind rest) is;
      behind = second_holds (cond (starts_paused rest) false true) (are_behind rest) is;
    }

gone_behind : (responds : Bool) (item : Item) → are_behind (gone_parts responds item) ≡ true
gone_behind responds item = grind arith

paused_test : IsTest paused_last
paused_test = record {
  none = λ gone. refl;
  tail = λ gone part rest is. second_holds (cond (starts_paused rest) (is_success part) true) (are_behind rest) is;
  begins = begun_behind;
  unfolds = λ choice state hand rest is. (chosen_behind choice state hand rest (rest_behind rest is)).behind;
  finds = λ lookup result state rest is. found_behind lookup result state rest (rest_behind rest is);
  gives_up = gone_behind;
}

-- In runs -------------------------------------------------------------------------------------------------------------

-- where such a stop is to be told next, the success of its request was told last
abbrev Ready : List Message → Option Hand → Type 0
Ready messages None = Unit {0}
Ready messages (Some hand) = starts_paused hand.parts ≡ true → (request : Request) → hand.item ≡ a_request request
    → IsToldLast messages request

abbrev told_so : Option Message → List Told
told_so None = []
told_so (Some message) = told_by message

last_still : (messages : List Message) (said : Option Message) (request : Request) → told_so said ≡ []
    → IsToldLast messages request → IsToldLast (with_said messages said) request
last_still messages None request none h = h
last_still messages (Some message) request none h = record {
  earlier = h.earlier;
  shape = h.shape;
  told = one_more told_by messages message ∙ ap (λ (more : List Told). told_of messages ++ more) none
      ∙ append-nil (told_of messages) ∙ h.told;
}

still : (messages : List Message) (said : Option Message) (hand : Option Hand) → told_so said ≡ []
    → Ready messages hand → Ready (with_said messages said) hand
still messages said None none h = tt
still messages said (Some hand) none h =
    λ starts request same. last_still messages said request none (h starts request same)

replied_ready : (messages : List Message) (command : TargetCommand) (replied : Replied) (hand : Option Hand)
    → Ready messages hand → Ready messages (option_map (hand_replied command replied) hand)
replied_ready messages command replied None h = tt
replied_ready messages (a_question question) replied (Some hand) h = h
replied_ready messages (an_effect effect) replied (Some hand) h = h

asked_ready : (messages : List Message) (want : Want) (hand : Option Hand) → Ready messages hand
    → Ready messages (option_map (asked_hand want) hand)
asked_ready messages want None h = tt
asked_ready messages want (Some hand) h = h

given_ready : (messages : List Message) (hand : Option Hand) → Ready messages (option_map given_up hand)
given_ready messages None = tt
given_ready messages (Some hand) = λ starts request same.
    let no : false ≡ true = sym (gone_starts (has_response hand.parts) hand.item) ∙ starts in cc

success_of : (starts success behind : Bool) → cond (cond starts success true) behind false ≡ true → starts ≡ true
    → success ≡ true
success_of starts success behind is so = grind (arith, is, so)

-- a part in front of such a stop is a success
in_front : {messages : List Message} {m : Machine} {hand : Hand} {part : Part} {rest : List Part} → Run messages m
    → IsAt m hand part rest → starts_paused rest ≡ true → is_success part ≡ true
in_front {part = part} {rest} r at starts =
    success_of (starts_paused rest) (is_success part) (are_behind rest) (whole paused_last (tested paused_test r) at)
    starts

skipped_ready : {messages : List Message} {m : Machine} {hand : Hand} {part : Part} (request : Request)
    → Skips m hand part → is_success part ≡ true → hand.item ≡ a_request request → IsToldLast messages request
skipped_ready request (Skips.by_guard is) success same = cc
skipped_ready request (Skips.by_wishes is) success same = cc
skipped_ready request (Skips.no_request is) success same =
    let no : [] ≡ request ∷ [] = sym is ∙ ap request_in same in cc

responded_ready : (messages : List Message) (request other : Request) (outcome : Outcome) (state : State) (item : Item)
    → item ≡ a_request request → item ≡ a_request other → is_success (Part.Responds outcome) ≡ true
    → IsToldLast (messages ++ Message.tells (response_to request (outcome_told outcome state)) ∷ []) other
responded_ready messages request other (Success body) state item is same success =
    let both : a_request request ≡ a_request other = sym is ∙ same in
    let one : request ≡ other = cc in
    subst (λ (other : Request). IsToldLast (messages ++ Message.tells (response_to request (outcome_told
    (Success body) state)) ∷ []) other) one (record {
      earlier = told_of messages;
      shape = body_told body (numbered body state);
      told = one_more told_by messages (Message.tells (response_to request (outcome_told (Success body) state)));
    })
responded_ready messages request other (Failed failure) state item is same success = cc

ready_on : (messages : List Message) (m next : Machine) (said : Option Message) → Run messages m
    → Ready messages m.hand → Moves m said next → Ready (with_said messages said) next.hand
ready_on messages m next said r h (Moves.begins picked free none is) = λ starts request same.
    let no : false ≡ true = sym (begun_starts m.state picked.item) ∙ starts in cc
ready_on messages m next said r h (Moves.drops free is none) = tt
ready_on messages m next said r h (Moves.responds {hand} {rest} {request} {outcome} free at is) = λ starts other same.
    responded_ready messages request other outcome m.state hand.item is same (in_front r at starts)
ready_on messages m next said r h (Moves.finds {rest = rest} {lookup} found free at needs done) = λ starts request same.
    let no : false ≡ true = sym (found_starts lookup (result_of found) m.state rest) ∙ starts in cc
ready_on messages m next said r h (Moves.passes_over free at why) = λ starts request same.
    skipped_ready request why (in_front r at starts) same
ready_on messages m next said r h (Moves.tells free at) = λ starts request same.
    let no : false ≡ true = in_front r at starts in cc
ready_on messages m next said r h (Moves.sends free at near) = λ starts request same.
    let no : false ≡ true = in_front r at starts in cc
ready_on messages m next said r h (Moves.updates free at is near) = λ starts request same. cc
ready_on messages m next said r h (Moves.notes free at) = λ starts request same.
    let no : false ≡ true = in_front r at starts in cc
ready_on messages m next said r h (Moves.unfolds {hand} {choice} {rest} free at) = λ starts request same.
    let no : false ≡ true = sym (chosen_behind choice m.state hand rest
    (rest_behind rest (whole paused_last (tested paused_test r) at))).starts ∙ starts in cc
ready_on messages m next said r h (Moves.queues free is) =
    subst (λ (held : Option Hand). Ready messages held) is h
ready_on messages m next said r h (Moves.asks {want = want} free room is are) =
    still messages said (option_map (asked_hand want) m.hand) refl (asked_ready messages want m.hand h)
ready_on messages m next said r h (Moves.answers {question} {replied} is waits reply lasts) =
    still messages said (option_map (hand_replied (a_question question) replied) m.hand) refl
    (replied_ready messages (a_question question) replied m.hand h)
ready_on messages m next said r h (Moves.replies {effect} {replied} is flies reply lasts) =
    still messages said (option_map (hand_replied (an_effect effect) replied) m.hand) refl
    (replied_ready messages (an_effect effect) replied m.hand h)
ready_on messages m next said r h (Moves.loses {message} late near why) =
    given_ready (messages ++ message ∷ []) m.hand
ready_on messages m next said r h _ = still messages said m.hand refl h

always_ready : {messages : List Message} {m : Machine} → Run messages m → Ready messages m.hand
always_ready r = by_runs {Holds = λ (messages : List Message) (m : Machine). Ready messages m.hand} (record {
  starts = tt;
  moves = λ messages m next said before h moved after. ready_on messages m next said before h moved;
  queues = λ messages m hand queue before may h. h;
}) r

-- where a stop is told that the client asked for, the success of the request was told last
pub told_last : {messages : List Message} {m : Machine} {hand : Hand} {rest : List Part} (stopping : Stopping)
    (request : Request) → Run messages m → IsAt m hand (Part.Tells (a_stop stopping)) rest
    → stopping.cause ≡ by_client → hand.item ≡ a_request request → IsToldLast messages request
told_last {messages} {m} {hand} {rest} stopping request r at client same =
    subst (λ (held : Option Hand). Ready messages held) at.in_hand (always_ready r)
    (ap starts_paused at.parts ∙ ap is_client client) request same
