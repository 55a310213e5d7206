-- Whether a stop is in hand by what the client is told, as each move keeps it.
use Rattle.std.proofs.Common.{◌≡◌, Bool, true, false, cond, ◌||◌, List, [], ◌∷◌, ◌++◌, Option, Some, None, refl}
use Rattle.std.proofs.Common.{sym, ap, subst, ◌∙◌, option_map, arith, ℕ}
use Rattle.dap_messages.specs.declared.requests.ThreadArguments.{ThreadArguments}
use Rattle.machine_model.specs.Due.{asked_hand}
use Rattle.machine_model.specs.Events.{is_clients}
use Rattle.machine_model.specs.Knowing.{lookup_stops, stopped_behind, stopped_told}
use Rattle.machine_model.specs.Lookups.{finished}
use Rattle.machine_model.specs.Outcomes.{result_of}
use Rattle.machine_model.specs.Plans.{Result}
use Rattle.machine_model.specs.Replying.{hand_replied}
use Rattle.machine_model.specs.Rest.{request_by, request_in, unanswered_hand, unanswered_item}
use Rattle.machine_model.specs.Rest.{without_response}
use Rattle.machine_model.specs.Rows.{chosen, failure_of, has_response, news_of, parts_by, parts_of, refused_with}
use Rattle.machine_model.specs.Rows.{row_of, stepped_by, wanting}
use Rattle.machine_model.specs.Runs.{Message, Run}
use Rattle.machine_model.specs.State.{Hand, Machine, State, is_empty, is_gone, knowing, left}
use Rattle.machine_model.specs.Stops.{surplus, told_part}
use Rattle.machine_model.specs.Telling.{after_event, event_told, numbered_by, outcome_told, response_to}
use Rattle.machine_model.proofs.Bools.{first_holds, second_holds}
use Rattle.machine_laws.specs.ClientStops.{AreRead, IsShown, configured_by, stop_by_event, stop_by_outcome}
use Rattle.machine_steps.specs.Names.{Body, Choice, Command, Continue, Decides, Event, Failure, Finding, HaltCause}
use Rattle.machine_steps.specs.Names.{Judges, Strike, breakpoint_hits}
use Rattle.machine_steps.specs.Names.{Item, Lookup, Next, Outcome, Part, Pause, Replied, Request, Resume}
use Rattle.machine_steps.specs.Names.{StepIn, StepOut, Stepped, Steps, Success, Suspend, TargetCommand, TellsNews}
use Rattle.machine_steps.specs.Names.{ThreadId, Throws, Thrown}
use Rattle.machine_steps.specs.Names.{Want, a_question, a_request, a_stop, an_effect, of_stop}
use Rattle.machine_steps.specs.Names.{variable_write}
use Rattle.machine_laws.proofs.ConfiguredEntry.{IsSettled, is_other, none_held, settled_on, settled_told, succeeds}
use Rattle.machine_steps.proofs.HoldingParts.{numbered_stop, same_stop}
use Rattle.machine_laws.proofs.PausedAnswers.{starts_paused}
use Rattle.machine_steps.proofs.RequestSteps.{near_before}
use Rattle.machine_steps.proofs.ServedLaws.{IsLeft, aside_left, left_on, responded_left}
use Rattle.machine_steps.proofs.Stepping.{IsAt, Moves, Skips, by_runs, with_said}
use Rattle.machine_laws.proofs.StepLaws.{noted_stop}
use Rattle.machine_steps.proofs.Tables.{of_decided, once, responds_once, same, told_alike, of_judged}
use Rattle.machine_steps.proofs.Testing.{tested, whole}
use Rattle.std.proofs.lemmas.Bool.{not-true}

-- What is left of an item ---------------------------------------------------------------------------------------------

-- with its success the target runs on, or a stop is in hand; or it changes nothing of it
pub data Turning : Type 0 where
  runs_on : Turning
  halts : Turning
  stays : Turning

abbrev pub turning : Command → Turning
turning (Continue arguments) = runs_on
turning (Next arguments) = runs_on
turning (StepIn arguments) = runs_on
turning (StepOut arguments) = runs_on
turning (Pause arguments) = halts
turning _ = stays

abbrev pub turning_of : Item → Turning
turning_of (a_request request) = turning request.command
turning_of _ = stays

-- what its response shows
abbrev turned_by : Turning → Outcome → Bool → Bool
turned_by runs_on outcome shown = cond (succeeds outcome) false shown
turned_by halts outcome shown = cond (succeeds outcome) true shown
turned_by stays outcome shown = shown

-- what the client knows behind a part
abbrev shown_behind : Turning → Part → Bool → Bool
shown_behind turn (Part.Responds outcome) shown = turned_by turn outcome shown
shown_behind turn (Part.Tells event) shown = stopped_told event shown
shown_behind turn (Part.Looks lookup) shown = lookup_stops lookup || shown
shown_behind turn _ shown = shown

-- a part that changes a stop only by telling it
abbrev is_steady : Part → List Part → Bool
is_steady (Part.Sends Suspend) rest = false
is_steady (Part.Sends (Resume of_stop)) rest = false
is_steady (Part.Unfolds Stepped) rest = false
is_steady (Part.Unfolds Judges) rest = is_empty rest
is_steady (Part.Looks (breakpoint_hits strikes)) rest = is_empty rest
is_steady (Part.Unfolds (Decides logged stops)) rest = is_empty rest
is_steady _ rest = true

-- a part of an item that changes it
abbrev may_turn : Bool → Part → List Part → Bool
may_turn steps (Part.Responds outcome) rest = true
may_turn steps (Part.Tells (a_stop stopping)) rest = true
may_turn steps (Part.Sends deed) rest = true
may_turn steps (Part.Notes note) rest = true
may_turn steps Part.Updates rest = true
may_turn steps (Part.Unfolds Stepped) rest = cond steps (is_empty rest) false
may_turn steps _ rest = false

-- its success is told where a stop is in hand that the client knows of, or with one that is told next
abbrev may_halt : Bool → Part → List Part → Bool
may_halt shown (Part.Responds outcome) rest = cond (succeeds outcome) (shown || starts_paused rest) true
may_halt shown part rest = may_turn false part rest

-- before the response of such an item the client may know less than is so
abbrev is_even : Bool → Bool → List Part → Bool
is_even shown stopped parts = cond (has_response parts) true (same shown stopped)

abbrev may_stand : Turning → Bool → Bool → Part → List Part → Bool
may_stand runs_on shown stopped part rest =
    cond (may_turn (same shown stopped) part rest) (is_even shown stopped (part ∷ rest)) false
may_stand halts shown stopped part rest = cond (may_halt shown part rest) (is_even shown stopped (part ∷ rest)) false
may_stand stays shown stopped part rest = cond (same shown stopped) (is_steady part rest) false

abbrev fits : Turning → Bool → Bool → List Part → Bool
fits turn shown stopped [] = same shown stopped
fits turn shown stopped (part ∷ parts) = cond (may_stand turn shown stopped part parts)
    (fits turn (shown_behind turn part shown) (stopped_behind part stopped) parts) false

abbrev hand_fits : Bool → Bool → Option Hand → Bool
hand_fits shown stopped None = same shown stopped
hand_fits shown stopped (Some hand) = fits (turning_of hand.item) shown stopped hand.parts

-- The tables ----------------------------------------------------------------------------------------------------------

row_fits : (failure : Option Failure) (command : Command) (state : State)
    → fits (turning command) state.stopped state.stopped (parts_by failure (row_of command state)) ≡ true
row_fits failure command state = grind arith

begun_fits : (state : State) (item : Item)
    → fits (turning_of item) state.stopped state.stopped (parts_of state item) ≡ true
begun_fits state (a_request request) = row_fits (failure_of (wanting request.command) state) request.command state
begun_fits state _ = grind arith

found_fits : (turn : Turning) (shown stopped : Bool) (lookup : Lookup) (result : Result Finding) (state : State)
    (rest : List Part) → fits turn shown stopped (Part.Looks lookup ∷ rest) ≡ true
    → fits turn shown stopped (finished lookup result state ++ rest) ≡ true
found_fits stays shown stopped (variable_write thing name text) result state rest is = grind (arith, is)
found_fits stays shown stopped _ result state rest is = is
found_fits _ shown stopped lookup result state rest is = cc

stepped_fits : (shown stopped : Bool) (rest : List Part) (code : Option ℕ)
    → fits runs_on shown stopped (Part.Unfolds Stepped ∷ rest) ≡ true
    → fits runs_on shown stopped (stepped_by code ++ rest) ≡ true
stepped_fits shown stopped rest code is = grind (arith, is)

-- where the client knows what is so
steady_fits : (known : Bool) (choice : Choice) (state : State) (hand : Hand) (rest : List Part)
    → fits stays known known (Part.Unfolds choice ∷ rest) ≡ true
    → fits stays known known (chosen choice state hand ++ rest) ≡ true
steady_fits true (TellsNews below) state hand rest is =
    told_alike (fits stays true true) (λ news parts. refl) state.phase (news_of below state hand.item) rest ∙ is
steady_fits false (TellsNews below) state hand rest is =
    told_alike (fits stays false false) (λ news parts. refl) state.phase (news_of below state hand.item) rest ∙ is
steady_fits known Judges state hand [] is =
    of_judged (λ (parts : List Part). fits stays known known (parts ++ []) ≡ true) (grind arith) (λ strikes. grind arith)
    state hand.item
steady_fits known Judges state hand (part ∷ rest) is = grind (arith, is)
steady_fits known (Decides logged stops) state hand [] is =
    of_decided (λ (parts : List Part). fits stays known known (parts ++ []) ≡ true) (grind arith) (grind arith)
    (grind arith) (λ again thrown stops halt. by_halt again thrown stops halt.cause halt.thread)
    (λ text texts stops. grind arith) state logged stops hand.item
  where
    by_halt : (again : Bool) (thrown : List Thrown) (stops : List Strike) (cause : HaltCause) (thread : ThreadId)
        → fits stays known known (Part.Notes (Throws thrown) ∷ Part.Notes (Steps None) ∷ Part.Updates
        ∷ told_part stops cause thread ∷ surplus again ++ []) ≡ true
    by_halt again thrown stops cause thread = grind arith
steady_fits known (Decides logged stops) state hand (part ∷ rest) is = grind (arith, is)
steady_fits known choice state hand rest is = grind (arith, is)

chosen_fits : (turn : Turning) (shown stopped : Bool) (choice : Choice) (state : State) (hand : Hand) (rest : List Part)
    → fits turn shown stopped (Part.Unfolds choice ∷ rest) ≡ true
    → fits turn shown stopped (chosen choice state hand ++ rest) ≡ true
chosen_fits runs_on shown stopped Stepped state hand rest is =
    stepped_fits shown stopped rest (refused_with hand.effect) is
chosen_fits halts shown stopped choice state hand rest is = grind (arith, is)
chosen_fits stays true true choice state hand rest is = steady_fits true choice state hand rest is
chosen_fits stays false false choice state hand rest is = steady_fits false choice state hand rest is
chosen_fits _ shown stopped choice state hand rest is = cc

-- In runs -------------------------------------------------------------------------------------------------------------

same_is : (one other : Bool) → same one other ≡ true → one ≡ other
same_is one other is = grind (arith, is)

front_fits : {m : Machine} {hand : Hand} {part : Part} {rest : List Part} (shown : Bool)
    → hand_fits shown m.state.stopped m.hand ≡ true → IsAt m hand part rest
    → fits (turning_of hand.item) shown m.state.stopped (part ∷ rest) ≡ true
front_fits {m} {hand} shown h at =
    subst (λ (parts : List Part). fits (turning_of hand.item) shown m.state.stopped parts ≡ true) at.parts
    (subst (λ (held : Option Hand). hand_fits shown m.state.stopped held ≡ true) at.in_hand h)

tail_fits : (turn : Turning) (shown stopped : Bool) (part : Part) (rest : List Part)
    → fits turn shown stopped (part ∷ rest) ≡ true
    → fits turn (shown_behind turn part shown) (stopped_behind part stopped) rest ≡ true
tail_fits turn shown stopped part rest is = second_holds (may_stand turn shown stopped part rest) _ is

skipped_fits : {m : Machine} {hand : Hand} {part : Part} (shown : Bool) (rest : List Part) → Skips m hand part
    → fits (turning_of hand.item) shown m.state.stopped (part ∷ rest) ≡ true
    → fits (turning_of hand.item) shown m.state.stopped rest ≡ true
skipped_fits {m} {hand} shown rest (Skips.by_guard {guard} is) h =
    tail_fits (turning_of hand.item) shown m.state.stopped (Part.Awaits guard) rest h
skipped_fits {m} {hand} shown rest (Skips.by_wishes is) h =
    tail_fits (turning_of hand.item) shown m.state.stopped Part.Updates rest h
skipped_fits {m} {hand} shown rest (Skips.no_request {outcome} is) h = by_item hand.item is h
  where
    by_item : (item : Item) → request_in item ≡ []
        → fits (turning_of item) shown m.state.stopped (Part.Responds outcome ∷ rest) ≡ true
        → fits (turning_of item) shown m.state.stopped rest ≡ true
    by_item (a_request request) is h = cc
    by_item _ is h = tail_fits stays shown m.state.stopped (Part.Responds outcome) rest h

replied_fits : (shown stopped : Bool) (command : TargetCommand) (replied : Replied) (hand : Option Hand)
    → hand_fits shown stopped (option_map (hand_replied command replied) hand) ≡ hand_fits shown stopped hand
replied_fits shown stopped command replied hand = grind arith

asked_fits : (shown stopped : Bool) (want : Want) (hand : Option Hand)
    → hand_fits shown stopped (option_map (asked_hand want) hand) ≡ hand_fits shown stopped hand
asked_fits shown stopped want hand = grind arith

-- nothing is told
abbrev is_silent : Option Message → Bool
is_silent (Some (Message.tells told)) = false
is_silent _ = true

fits_on : (m next : Machine) (said : Option Message) (shown : Bool) → is_gone next.state.phase ≡ false
    → is_silent said ≡ true → hand_fits shown m.state.stopped m.hand ≡ true → Moves m said next
    → hand_fits shown next.state.stopped next.hand ≡ true
fits_on m next said shown near silent h (Moves.begins picked free none is) =
    rw (same_is shown m.state.stopped (subst (λ (held : Option Hand). hand_fits shown m.state.stopped held ≡ true) none
    h)) (begun_fits m.state picked.item)
fits_on m next said shown near silent h (Moves.drops {hand} free is none) =
    subst (λ (parts : List Part). fits (turning_of hand.item) shown m.state.stopped parts ≡ true) none
    (subst (λ (held : Option Hand). hand_fits shown m.state.stopped held ≡ true) is h)
fits_on m next said shown near silent h (Moves.responds free at is) = cc
fits_on m next said shown near silent h (Moves.finds {hand} {rest} {lookup} found free at needs done) =
    found_fits (turning_of hand.item) shown m.state.stopped lookup (result_of found) m.state rest
    (front_fits shown h at)
fits_on m next said shown near silent h (Moves.passes_over {rest = rest} free at why) =
    skipped_fits shown rest why (front_fits shown h at)
fits_on m next said shown near silent h (Moves.tells free at) = cc
fits_on m next said shown near silent h (Moves.sends {hand} {rest} {deed} free at close) =
    tail_fits (turning_of hand.item) shown m.state.stopped (Part.Sends deed) rest (front_fits shown h at)
fits_on m next said shown near silent h (Moves.updates free at is close) = front_fits shown h at
fits_on m next said shown near silent h (Moves.notes {hand} {note} {rest} free at) =
    rw (noted_stop note m.state)
    (tail_fits (turning_of hand.item) shown m.state.stopped (Part.Notes note) rest (front_fits shown h at))
fits_on m next said shown near silent h (Moves.unfolds {hand} {choice} {rest} free at) =
    chosen_fits (turning_of hand.item) shown m.state.stopped choice m.state hand rest (front_fits shown h at)
fits_on m next said shown near silent h (Moves.queues free is) =
    subst (λ (held : Option Hand). hand_fits shown m.state.stopped held ≡ true) is h
fits_on m next said shown near silent h (Moves.asks {want = want} free room is are) =
    asked_fits shown m.state.stopped want m.hand ∙ h
fits_on m next said shown near silent h (Moves.answers {question} {replied} is waits reply lasts) =
    rw (same_stop (a_question question) replied m.state)
    (replied_fits shown m.state.stopped (a_question question) replied m.hand ∙ h)
fits_on m next said shown near silent h (Moves.replies {effect} {replied} is flies reply lasts) =
    rw (same_stop (an_effect effect) replied m.state)
    (replied_fits shown m.state.stopped (an_effect effect) replied m.hand ∙ h)
fits_on m next said shown near silent h (Moves.loses late close why) = cc
fits_on m next said shown near silent h _ = h

-- What is told --------------------------------------------------------------------------------------------------------

record Shows (messages : List Message) (m : Machine) : Type 0 where
  shown : Bool
  configured : Bool
  told : AreRead messages (without_response m) shown configured
  fits : hand_fits shown m.state.stopped m.hand ≡ true
  is_settled : IsSettled configured m

apart_clients : (message : Message) → is_silent (Some message) ≡ true → request_by message ≡ []
    → is_clients message ≡ false
apart_clients message silent none = grind (arith, silent, none)

silent_other : (said : Option Message) → is_silent said ≡ true → is_other said ≡ true
silent_other said silent = grind (arith, silent)

silent_on : (messages : List Message) (left now : List Request) (said : Option Message) (shown configured : Bool)
    → is_silent said ≡ true → IsLeft left now said → AreRead messages left shown configured
    → AreRead (with_said messages said) now shown configured
silent_on messages left now said shown configured silent (IsLeft.silent alike) h =
    subst (λ (left : List Request). AreRead messages left shown configured) alike h
silent_on messages left now said shown configured silent (IsLeft.aside message no_request no_response alike) h =
    AreRead.aside message (apart_clients message silent no_request)
    (subst (λ (left : List Request). AreRead messages left shown configured) alike h)
silent_on messages left now said shown configured silent (IsLeft.hears request is) h =
    subst (λ (now : List Request). AreRead (messages ++ Message.hears request ∷ []) now shown configured) (sym is)
    (AreRead.hears request h)
silent_on messages left now said shown configured silent (IsLeft.responds request outcome was) h = cc

outcome_is : (command : Command) (outcome : Outcome) (state : State) (shown : Bool)
    → turned_by (turning command) outcome shown ≡ stop_by_outcome command (outcome_told outcome state) shown
outcome_is command outcome state shown = grind arith

event_is : (event : Event) (state : State) (shown : Bool)
    → stopped_told event shown ≡ stop_by_event (event_told event state) shown
event_is event state shown = grind arith

event_stop : (event : Event) (state : State) → (after_event event state).stopped ≡ stopped_told event state.stopped
event_stop event state = grind arith

responded_on : (messages : List Message) (m : Machine) (hand : Hand) (rest : List Part) (request : Request)
    (outcome : Outcome) → Run messages m → has_response rest ≡ false → IsAt m hand (Part.Responds outcome) rest
    → hand.item ≡ a_request request → Shows messages m
    → Shows (messages ++ Message.tells (response_to request (outcome_told outcome m.state)) ∷ [])
    (left (knowing m (numbered_by outcome m.state)) hand rest)
responded_on messages m hand rest request outcome r none at is h = record {
  shown = stop_by_outcome request.command (outcome_told outcome m.state) h.shown;
  configured = configured_by request.command (outcome_told outcome m.state) h.configured;
  told = AreRead.responds {request = request} _ (record { seq = refl; command = refl })
      (subst (λ (left : List Request). AreRead messages left h.shown h.configured) (responded_left at is none) h.told);
  fits = rw (numbered_stop outcome m.state)
      (subst (λ (shown : Bool). fits (turning_of hand.item) shown m.state.stopped rest ≡ true)
      (ap (λ (item : Item). turned_by (turning_of item) outcome h.shown) is
      ∙ outcome_is request.command outcome m.state h.shown)
      (tail_fits (turning_of hand.item) h.shown m.state.stopped (Part.Responds outcome) rest
      (front_fits h.shown h.fits at)));
  is_settled = settled_told request outcome h.configured r at is h.is_settled;
}

shows_on : (messages : List Message) (m next : Machine) (said : Option Message) → Run messages m → Shows messages m
    → is_gone next.state.phase ≡ false → Moves m said next → Shows (with_said messages said) next
shows_on messages m next said r h near moved =
    by_said near (left_on m next said (tested once r) moved)
    (λ other. settled_on m next said h.configured r other h.is_settled moved) (λ silent. record {
      shown = h.shown;
      configured = h.configured;
      told = silent_on messages (without_response m) (without_response next) said h.shown h.configured silent
          (left_on m next said (tested once r) moved) h.told;
      fits = fits_on m next said h.shown near silent h.fits moved;
      is_settled = settled_on m next said h.configured r (silent_other said silent) h.is_settled moved;
    }) moved
  where
    by_said : {next : Machine} {said : Option Message} → is_gone next.state.phase ≡ false
        → IsLeft (without_response m) (without_response next) said
        → (is_other said ≡ true → IsSettled h.configured next)
        → (is_silent said ≡ true → Shows (with_said messages said) next) → Moves m said next
        → Shows (with_said messages said) next
    by_said near l keeps others (Moves.responds {hand} {rest} {request} {outcome} free at is) =
        responded_on messages m hand rest request outcome r
        (not-true (has_response rest) (whole responds_once (tested once r) at)) at is h
    by_said near l keeps others (Moves.tells {hand} {rest} {event} free at) = record {
      shown = stop_by_event (event_told event (after_event event m.state)) h.shown;
      configured = h.configured;
      told = AreRead.tells (event_told event (after_event event m.state))
          (subst (λ (left : List Request). AreRead messages left h.shown h.configured) (aside_left _ refl refl l)
          h.told);
      fits = rw (← event_is event (after_event event m.state) h.shown, event_stop event m.state)
          (tail_fits (turning_of hand.item) h.shown m.state.stopped (Part.Tells event) rest
          (front_fits h.shown h.fits at));
      is_settled = keeps refl;
    }
    by_said near l keeps others (Moves.loses late close why) = cc
    by_said near l keeps others _ = others refl

-- The law -------------------------------------------------------------------------------------------------------------

-- where no response is to come the client knows what is so
even_parts : (turn : Turning) (shown stopped : Bool) (parts : List Part) → has_response parts ≡ false
    → fits turn shown stopped parts ≡ true → same shown stopped ≡ true
even_parts turn shown stopped [] none h = h
even_parts turn shown stopped (part ∷ rest) none h =
    by_turn turn (first_holds (may_stand turn shown stopped part rest) _ h)
  where
    by_bools : (may even : Bool) → cond may (cond (has_response (part ∷ rest)) true even) false ≡ true → even ≡ true
    by_bools may even is = grind (arith, none, is)

    by_turn : (turn : Turning) → may_stand turn shown stopped part rest ≡ true → same shown stopped ≡ true
    by_turn runs_on is = by_bools (may_turn (same shown stopped) part rest) (same shown stopped) is
    by_turn halts is = by_bools (may_halt shown part rest) (same shown stopped) is
    by_turn stays is = first_holds (same shown stopped) (is_steady part rest) is

steady_parts : (shown stopped : Bool) (parts : List Part) → fits stays shown stopped parts ≡ true
    → same shown stopped ≡ true
steady_parts shown stopped [] h = h
steady_parts shown stopped (part ∷ rest) h =
    first_holds (same shown stopped) (is_steady part rest) (first_holds (may_stand stays shown stopped part rest) _ h)

even_hand : (shown stopped : Bool) (hand : Option Hand) → unanswered_hand hand ≡ []
    → hand_fits shown stopped hand ≡ true → stopped ≡ shown
even_hand shown stopped None none h = sym (same_is shown stopped h)
even_hand shown stopped (Some hand) none h = sym (same_is shown stopped (by_item hand.item none h))
  where
    unanswered : (responds : Bool) (request : Request) → unanswered_item responds (a_request request) ≡ []
        → responds ≡ false
    unanswered true request none = cc
    unanswered false request none = refl

    by_item : (item : Item) → unanswered_item (has_response hand.parts) item ≡ []
        → fits (turning_of item) shown stopped hand.parts ≡ true → same shown stopped ≡ true
    by_item (a_request request) none h =
        even_parts (turning request.command) shown stopped hand.parts
        (unanswered (has_response hand.parts) request none) h
    by_item _ none h = steady_parts shown stopped hand.parts h

showing : {messages : List Message} {m : Machine} → Run messages m → is_gone m.state.phase ≡ false → Shows messages m
showing r = by_runs {Holds = λ (messages : List Message) (m : Machine). is_gone m.state.phase ≡ false
    → Shows messages m} (record {
      starts = λ near.
          record { shown = false; configured = false; told = AreRead.none; fits = refl; is_settled = refl };
      moves = λ messages m next said before h moved after near.
          shows_on messages m next said before (h (near_before m next said moved near)) near moved;
      queues = λ messages m hand queue before may h near. let s = h near in record {
        shown = s.shown;
        configured = s.configured;
        told = s.told;
        fits = s.fits;
        is_settled = s.is_settled;
      };
    }) r

-- the success of a `pause` has the stop right behind it, where the client knows of none
pub paused_next : {messages : List Message} {m : Machine} {hand : Hand} {rest : List Part} {request : Request}
    {arguments : ThreadArguments} {body : Body} → Run messages m → is_gone m.state.phase ≡ false
    → IsAt m hand (Part.Responds (Success body)) rest → hand.item ≡ a_request request
    → request.command ≡ Pause arguments
    → ((shown configured : Bool) → AreRead messages (without_response m) shown configured → shown ≡ false)
    → starts_paused rest ≡ true
paused_next {m = m} {hand} {rest} {body = body} r near at is pauses none =
    let s = showing r near in
    let halting : turning_of hand.item ≡ halts = ap turning_of is ∙ ap turning pauses in
    let fit = subst (λ (turn : Turning). fits turn s.shown m.state.stopped (Part.Responds (Success body) ∷ rest) ≡ true)
    halting (front_fits s.shown s.fits at) in
    let stands = first_holds (may_stand halts s.shown m.state.stopped (Part.Responds (Success body)) rest) _ fit in
    ap (λ (shown : Bool). shown || starts_paused rest) (sym (none s.shown s.configured s.told))
    ∙ first_holds (s.shown || starts_paused rest)
    (is_even s.shown m.state.stopped (Part.Responds (Success body) ∷ rest)) stands

-- as long as an item is in hand that changes nothing of it, too
pub shown_beside : {messages : List Message} {m : Machine} {hand : Hand} {part : Part} {rest : List Part}
    → Run messages m → is_gone m.state.phase ≡ false → IsAt m hand part rest → turning_of hand.item ≡ stays
    → (configured : Bool) × AreRead messages (without_response m) m.state.stopped configured
shown_beside {messages} {m} {hand} {part} {rest} r near at still =
    let h = showing r near in
    let fit = subst (λ (turn : Turning). fits turn h.shown m.state.stopped (part ∷ rest) ≡ true) still
    (front_fits h.shown h.fits at) in
    let same = same_is h.shown m.state.stopped (steady_parts h.shown m.state.stopped (part ∷ rest) fit) in
    (h.configured, subst (λ (shown : Bool). AreRead messages (without_response m) shown h.configured) same h.told)

pub shows_stops : (messages : List Message) (m : Machine) → Run messages m → is_gone m.state.phase ≡ false
    → IsShown messages m
shows_stops messages m r near =
    let h = showing r near in record {
      stopped = h.shown;
      configured = h.configured;
      told = h.told;
      is_so = λ none. even_hand h.shown m.state.stopped m.hand none h.fits;
      no_entry = none_held h.configured m h.is_settled;
    }
