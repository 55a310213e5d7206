-- In a target that is gone no success lists breakpoints, and no request succeeds that asks for some.
use Rattle.std.proofs.Common.{◌≡◌, Bool, true, false, not, ◌||◌, List, [], ◌∷◌, ◌++◌, Option, Some, None, refl}
use Rattle.std.proofs.Common.{sym, ap, subst, ◌∙◌, arith, option_map}
use Rattle.std.proofs.lemmas.Bool.{not-true}
use Rattle.machine_model.specs.Due.{asked_hand}
use Rattle.machine_model.specs.Replying.{given_up, hand_replied}
use Rattle.machine_model.specs.Rest.{request_in}
use Rattle.machine_model.specs.Rows.{chosen, gone_parts, has_response, is_response, leaves}
use Rattle.machine_model.specs.Rows.{parts_of, request_parts}
use Rattle.machine_model.specs.Runs.{Message, Run}
use Rattle.machine_model.specs.State.{Hand, Machine, State, is_gone}
use Rattle.machine_model.specs.Telling.{after_event}
use Rattle.machine_model.proofs.Bools.{first_holds}
use Rattle.machine_steps.specs.Names.{Choice, Command, Event, Gone, Initialized, Item, Leaves, Outcome, Part}
use Rattle.machine_steps.specs.Names.{Phase, Replied, Request, TargetCommand, Terminated, Want, a_question, a_request}
use Rattle.machine_steps.specs.Names.{an_effect}
use Rattle.machine_laws.specs.Settings.{Settings}
use Rattle.machine_steps.proofs.QuietLaws.{attached_gone}
use Rattle.machine_laws.proofs.SettingLaws.{answer, listed_as, listed_in}
use Rattle.machine_steps.proofs.Stepping.{IsAt, Moves, Skips, by_runs}
use Rattle.machine_steps.proofs.Tables.{free as free_test, free_once, last_silent, once, responds_once, silent_last}
use Rattle.machine_steps.proofs.Tables.{silent_test}
use Rattle.machine_steps.proofs.Testing.{same_noted, same_replied, tested, whole}

-- no response is to come that lists breakpoints, nor a success of a request that asks for some
abbrev pub IsFar : Option Outcome → Command → Type 0
IsFar outcome command = (listed_in outcome ≡ None) × ((set : Settings) → listed_as outcome command set ≡ None)

abbrev pub FarItem : Item → List Part → Type 0
FarItem (a_request request) parts = has_response parts ≡ true → IsFar (answer parts) request.command
FarItem _ parts = Unit {0}

abbrev pub FarHand : Option Hand → Type 0
FarHand None = Unit {0}
FarHand (Some hand) = FarItem hand.item hand.parts

silent_far : (item : Item) (parts : List Part) → has_response parts ≡ false → FarItem item parts
silent_far (a_request request) parts silent = λ has. let no : true ≡ false = sym has ∙ silent in cc
silent_far _ parts silent = tt

far_tail : (item : Item) (part : Part) (rest : List Part) → is_response part ≡ false
    → ((command : Command) → IsFar (answer (part ∷ rest)) command → IsFar (answer rest) command)
    → FarItem item (part ∷ rest) → FarItem item rest
far_tail (a_request request) part rest silent still h = λ has.
    let here : (is_response part || has_response rest) ≡ true = rw silent has in still request.command (h here)
far_tail _ part rest silent still h = tt

no_request_far : (item : Item) (rest : List Part) → request_in item ≡ [] → FarItem item rest
no_request_far (a_request request) rest none = cc
no_request_far _ rest none = tt

-- The tables ----------------------------------------------------------------------------------------------------------

row_far : (state : State) (command : Command) → is_gone state.phase ≡ true
    → listed_in (answer (request_parts command state)) ≡ None
row_far state command gone = grind (arith, gone)

row_set_far : (state : State) (command : Command) (set : Settings) → is_gone state.phase ≡ true
    → listed_as (answer (request_parts command state)) command set ≡ None
row_set_far state command set gone = grind (arith, gone)

begun_far : (state : State) (item : Item) → is_gone state.phase ≡ true → FarItem item (parts_of state item)
begun_far state (a_request request) gone =
    λ has. (row_far state request.command gone, λ set. row_set_far state request.command set gone)
begun_far state _ gone = tt

given_row : (responds : Bool) (request : Request) → listed_in (answer (gone_parts responds (a_request request))) ≡ None
given_row responds request = grind arith

given_set : (responds : Bool) (request : Request) (set : Settings)
    → listed_as (answer (gone_parts responds (a_request request))) request.command set ≡ None
given_set responds request set = grind arith

given_far : (hand : Option Hand) → FarHand (option_map given_up hand)
given_far None = tt
given_far (Some hand) = by_item hand.item
  where
    by_item : (item : Item) → FarItem item (gone_parts (has_response hand.parts) item)
    by_item (a_request request) = λ has. (
      given_row (has_response hand.parts) request,
      λ set. given_set (has_response hand.parts) request set,
    )
    by_item _ = tt

told_far : (event : Event) (state : State) (item : Item) (rest : List Part)
    → is_gone (after_event event state).phase ≡ true → last_silent (Part.Tells event ∷ rest) ≡ true
    → (is_gone state.phase ≡ true → FarItem item rest) → FarItem item rest
told_far Terminated state item rest gone silent others =
    silent_far item rest
    (not-true (has_response rest) (first_holds (not (has_response rest)) (last_silent rest) silent))
told_far Initialized state item rest gone silent others = others (sym (attached_gone state.phase) ∙ gone)
told_far _ state item rest gone silent others = others gone

-- only one choice needs no target, and then it leaves none
chosen_far : (choice : Choice) (state : State) (hand : Hand) (item : Item) (rest : List Part)
    → is_gone state.phase ≡ true → free_once true (Part.Unfolds choice ∷ rest) ≡ true
    → FarItem item (Part.Unfolds choice ∷ rest) → FarItem item (chosen choice state hand ++ rest)
chosen_far (Leaves exits) state hand item rest gone front h = by_phase state.phase gone
  where
    by_phase : (phase : Phase) → is_gone phase ≡ true → FarItem item (leaves phase exits ++ rest)
    by_phase Gone gone = far_tail item (Part.Unfolds (Leaves exits)) rest refl (λ command h. h) h
    by_phase _ gone = cc
chosen_far _ state hand item rest gone front h = cc

asked_far : (want : Want) (hand : Option Hand) → FarHand hand → FarHand (option_map (asked_hand want) hand)
asked_far want None h = tt
asked_far want (Some hand) h = h

replied_far : (command : TargetCommand) (replied : Replied) (hand : Option Hand) → FarHand hand
    → FarHand (option_map (hand_replied command replied) hand)
replied_far command replied None h = tt
replied_far (a_question question) replied (Some hand) h = h
replied_far (an_effect effect) replied (Some hand) h = h

-- The walk ------------------------------------------------------------------------------------------------------------

pub far_at : {m : Machine} {hand : Hand} {part : Part} {rest : List Part} → IsAt m hand part rest → FarHand m.hand
    → FarItem hand.item (part ∷ rest)
far_at {m} {hand} at h =
    subst (λ (parts : List Part). FarItem hand.item parts) at.parts
    (subst (λ (held : Option Hand). FarHand held) at.in_hand h)

abbrev AreFar : List Message → Machine → Type 0
AreFar messages m = is_gone m.state.phase ≡ true → FarHand m.hand

free_front : {messages : List Message} {m : Machine} {hand : Hand} {part : Part} {rest : List Part} → Run messages m
    → IsAt m hand part rest → is_gone m.state.phase ≡ true → free_once true (part ∷ rest) ≡ true
free_front {part = part} {rest} r at gone =
    subst (λ (b : Bool). free_once b (part ∷ rest) ≡ true) gone (whole free_once (tested free_test r) at)

far_on : (messages : List Message) (m next : Machine) (said : Option Message) → Run messages m → AreFar messages m
    → Moves m said next → is_gone next.state.phase ≡ true → FarHand next.hand
far_on messages m next said r f (Moves.begins picked free none is) gone = begun_far m.state picked.item gone
far_on messages m next said r f (Moves.drops free is none) gone = tt
far_on messages m next said r f (Moves.responds {hand} {rest} free at is) gone =
    silent_far hand.item rest (not-true (has_response rest) (whole responds_once (tested once r) at))
far_on messages m next said r f (Moves.finds {hand} {rest} {lookup} found free at needs ready) gone =
    let no : false ≡ true = free_front r at gone in cc
far_on messages m next said r f (Moves.passes_over {hand} {rest = rest} free at (Skips.by_guard {guard} is)) gone =
    far_tail hand.item (Part.Awaits guard) rest refl (λ command h. h) (far_at at (f gone))
far_on messages m next said r f (Moves.passes_over {hand} {rest = rest} free at (Skips.by_wishes is)) gone =
    far_tail hand.item Part.Updates rest refl (λ command h. h) (far_at at (f gone))
far_on messages m next said r f (Moves.passes_over {hand} {rest = rest} free at (Skips.no_request is)) gone =
    no_request_far hand.item rest is
far_on messages m next said r f (Moves.tells {hand} {rest} {event} free at) gone =
    told_far event m.state hand.item rest gone (whole silent_last (tested silent_test r) at)
    (λ was. far_tail hand.item (Part.Tells event) rest refl (λ command h. h) (far_at at (f was)))
far_on messages m next said r f (Moves.sends {hand} {rest} {deed} free at near) gone =
    far_tail hand.item (Part.Sends deed) rest refl (λ command h. h) (far_at at (f gone))
far_on messages m next said r f (Moves.updates free at is near) gone = far_at at (f gone)
far_on messages m next said r f (Moves.notes {hand} {note} {rest} free at) gone =
    far_tail hand.item (Part.Notes note) rest refl (λ command h. h)
    (far_at at (f (ap is_gone (sym (same_noted note m.state)) ∙ gone)))
far_on messages m next said r f (Moves.unfolds {hand} {choice} {rest} free at) gone =
    chosen_far choice m.state hand hand.item rest gone (free_front r at gone) (far_at at (f gone))
far_on messages m next said r f (Moves.queues {hand} free is) gone =
    subst (λ (held : Option Hand). FarHand held) is (f gone)
far_on messages m next said r f (Moves.asks {want = want} free room is are) gone = asked_far want m.hand (f gone)
far_on messages m next said r f (Moves.answers {question} {replied} is waits reply stays) gone =
    replied_far (a_question question) replied m.hand
    (f (ap is_gone (sym (same_replied (a_question question) replied m.state)) ∙ gone))
far_on messages m next said r f (Moves.replies {effect} {replied} is flies reply stays) gone =
    replied_far (an_effect effect) replied m.hand
    (f (ap is_gone (sym (same_replied (an_effect effect) replied m.state)) ∙ gone))
far_on messages m next said r f (Moves.loses late near why) gone = given_far m.hand
far_on messages m next said r f _ gone = f gone

pub far : {messages : List Message} {m : Machine} → Run messages m → is_gone m.state.phase ≡ true → FarHand m.hand
far r = by_runs {Holds = AreFar} (record {
  starts = λ gone. tt;
  moves = λ messages m next said before f moved after gone. far_on messages m next said before f moved gone;
  queues = λ messages m hand queue before may f. f;
}) r
