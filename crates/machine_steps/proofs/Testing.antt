-- Tests on what is left of the item in hand: what each row passes, each tail, choice and result, holds in every run.
use Rattle.std.proofs.Common.{◌≡◌, Bool, true, List, [], ◌∷◌, ◌++◌, Option, Some, None, refl, sym, ap, subst, ◌∙◌}
use Rattle.std.proofs.Common.{option_map, arith}
use Rattle.machine_model.specs.Due.{asked_hand}
use Rattle.machine_model.specs.Lookups.{finished}
use Rattle.machine_model.specs.Plans.{Result}
use Rattle.machine_model.specs.Replying.{given_up, hand_replied, replied_to}
use Rattle.machine_model.specs.Rows.{chosen, gone_parts, has_response, noted, parts_of}
use Rattle.machine_model.specs.Runs.{Message, Run}
use Rattle.machine_model.specs.State.{Hand, Machine, State, is_gone}
use Rattle.machine_model.specs.Telling.{after_event, numbered_by}
use Rattle.machine_model.specs.Outcomes.{result_of}
use Rattle.machine_steps.specs.Names.{Choice, Event, Finding, Item, Lookup, Note, Outcome, Part, Phase, Replied}
use Rattle.machine_steps.specs.Names.{TargetCommand, Terminated, Want, a_question, an_effect}
use Rattle.machine_steps.proofs.Stepping.{IsAt, Moves, Skips, by_moves}

-- the target is gone behind this part
abbrev pub gone_behind : Part → Bool → Bool
gone_behind (Part.Tells Terminated) gone = true
gone_behind _ gone = gone

-- a test, of a target that is gone or not, that each list of the tables passes, and each tail of a list that passes it
pub record IsTest (test : Bool → List Part → Bool) : Type 0 where
  pub none : (gone : Bool) → test gone [] ≡ true
  pub tail : (gone : Bool) (part : Part) (rest : List Part) → test gone (part ∷ rest) ≡ true
      → test (gone_behind part gone) rest ≡ true
  pub begins : (state : State) (item : Item) → test (is_gone state.phase) (parts_of state item) ≡ true
  pub unfolds : (choice : Choice) (state : State) (hand : Hand) (rest : List Part)
      → test (is_gone state.phase) (Part.Unfolds choice ∷ rest) ≡ true
      → test (is_gone state.phase) (chosen choice state hand ++ rest) ≡ true
  pub finds : (lookup : Lookup) (result : Result Finding) (state : State) (rest : List Part)
      → test (is_gone state.phase) (Part.Looks lookup ∷ rest) ≡ true
      → test (is_gone state.phase) (finished lookup result state ++ rest) ≡ true
  pub gives_up : (responds : Bool) (item : Item) → test true (gone_parts responds item) ≡ true

abbrev pub passed : (Bool → List Part → Bool) → Bool → Option Hand → Bool
passed test gone None = true
passed test gone (Some hand) = test gone hand.parts

-- what is left of the item in hand passes the test
abbrev pub Passed : (Bool → List Part → Bool) → Machine → Type 0
Passed test m = passed test (is_gone m.state.phase) m.hand ≡ true

pub whole : (test : Bool → List Part → Bool) {m : Machine} {hand : Hand} {part : Part} {rest : List Part}
    → Passed test m → IsAt m hand part rest → test (is_gone m.state.phase) (part ∷ rest) ≡ true
whole test {m} h at =
    subst (λ (parts : List Part). test (is_gone m.state.phase) parts ≡ true) at.parts
    (subst (λ (hand : Option Hand). passed test (is_gone m.state.phase) hand ≡ true) at.in_hand h)

behind : {test : Bool → List Part → Bool} {m : Machine} {hand : Hand} {part : Part} {rest : List Part}
    → IsTest test → (phase : Phase) → Passed test m → IsAt m hand part rest
    → is_gone phase ≡ gone_behind part (is_gone m.state.phase) → test (is_gone phase) rest ≡ true
behind {test} {m} {hand} {part} {rest} t phase h at is =
    subst (λ (gone : Bool). test gone rest ≡ true) (sym is) (t.tail (is_gone m.state.phase) part rest (whole test h at))

pub same_numbered : (outcome : Outcome) (state : State) → (numbered_by outcome state).phase ≡ state.phase
same_numbered outcome state = grind arith

pub same_noted : (note : Note) (state : State) → (noted note state).phase ≡ state.phase
same_noted note state = grind arith

pub same_replied : (command : TargetCommand) (replied : Replied) (state : State)
    → (replied_to command replied state).phase ≡ state.phase
same_replied command replied state = grind arith

behind_event : (event : Event) (state : State)
    → is_gone (after_event event state).phase ≡ gone_behind (Part.Tells event) (is_gone state.phase)
behind_event event state = grind arith

replied_passed : (test : Bool → List Part → Bool) (gone : Bool) (command : TargetCommand) (replied : Replied)
    (hand : Option Hand) → passed test gone (option_map (hand_replied command replied) hand) ≡ passed test gone hand
replied_passed test gone command replied hand = grind arith

asked_passed : (test : Bool → List Part → Bool) (gone : Bool) (want : Want) (hand : Option Hand)
    → passed test gone (option_map (asked_hand want) hand) ≡ passed test gone hand
asked_passed test gone want hand = grind arith

given_up_hand : {test : Bool → List Part → Bool} → IsTest test → (hand : Option Hand)
    → passed test true (option_map given_up hand) ≡ true
given_up_hand t None = refl
given_up_hand t (Some hand) = t.gives_up (has_response hand.parts) hand.item

now_passed : (test : Bool → List Part → Bool) (m : Machine) (command : TargetCommand) (replied : Replied)
    → Passed test m
    → passed test (is_gone (replied_to command replied m.state).phase) (option_map
    (hand_replied command replied) m.hand)
    ≡ true
now_passed test m command replied h =
    ap (λ (phase : Phase). passed test (is_gone phase) (option_map (hand_replied command replied) m.hand))
    (same_replied command replied m.state)
    ∙ replied_passed test (is_gone m.state.phase) command replied m.hand ∙ h

pub passed_on : {test : Bool → List Part → Bool} → IsTest test → (m next : Machine) (said : Option Message)
    → Passed test m → Moves m said next → Passed test next
passed_on t m next said h (Moves.begins picked free none is) = t.begins m.state picked.item
passed_on t m next said h (Moves.drops free is none) = refl
passed_on t m next said h (Moves.responds {outcome} free at is) =
    behind t (numbered_by outcome m.state).phase h at (ap is_gone (same_numbered outcome m.state))
passed_on {test} t m next said h (Moves.finds {hand} {rest} {lookup} found free at needs done) =
    t.finds lookup (result_of found) m.state rest (whole test h at)
passed_on t m next said h (Moves.passes_over free at (Skips.by_guard is)) = behind t m.state.phase h at refl
passed_on t m next said h (Moves.passes_over free at (Skips.by_wishes is)) = behind t m.state.phase h at refl
passed_on t m next said h (Moves.passes_over free at (Skips.no_request is)) = behind t m.state.phase h at refl
passed_on t m next said h (Moves.tells {event} free at) =
    behind t (after_event event m.state).phase h at (behind_event event m.state)
passed_on t m next said h (Moves.sends free at near) = behind t m.state.phase h at refl
passed_on {test} t m next said h (Moves.updates free at is near) = whole test h at
passed_on t m next said h (Moves.notes {note} free at) =
    behind t (noted note m.state).phase h at (ap is_gone (same_noted note m.state))
passed_on {test} t m next said h (Moves.unfolds {hand} {choice} {rest} free at) =
    t.unfolds choice m.state hand rest (whole test h at)
passed_on {test} t m next said h (Moves.queues free is) =
    subst (λ (hand : Option Hand). passed test (is_gone m.state.phase) hand ≡ true) is h
passed_on {test} t m next said h (Moves.asks {hand} {want} free room is are) =
    asked_passed test (is_gone m.state.phase) want m.hand ∙ h
passed_on {test} t m next said h (Moves.answers {question} {replied} is waits reply stays) =
    now_passed test m (a_question question) replied h
passed_on {test} t m next said h (Moves.replies {effect} {replied} is flying reply stays) =
    now_passed test m (an_effect effect) replied h
passed_on t m next said h (Moves.loses late near why) = given_up_hand t m.hand
passed_on t m next said h _ = h

-- a test that the tables pass is passed by what is left in every run
pub tested : {test : Bool → List Part → Bool} → IsTest test → {messages : List Message} {m : Machine}
    → Run messages m → Passed test m
tested {test} t r =
    by_moves {Holds = λ (messages : List Message) (m : Machine). Passed test m}
    (record {
      starts = refl;
      moves = λ messages m next said h moved. passed_on t m next said h moved;
      queues = λ messages m hand queue may h. h;
    }) r
