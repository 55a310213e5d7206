-- The effect in flight is the one that is due, what stands is tidy, and at rest nothing is to be cleared or set.
use Rattle.std.proofs.Common.{◌≡◌, ℕ, Bool, true, false, List, [], ◌∷◌, ◌++◌, Option, Some, None, refl, sym, ap, subst}
use Rattle.std.proofs.Common.{◌∙◌, inl, inr, arith}
use Rattle.machine_model.specs.EventRequests.{IsSettled}
use Rattle.machine_model.specs.Lookups.{finished}
use Rattle.machine_model.specs.Outcomes.{result_of}
use Rattle.machine_model.specs.Replying.{replied_to}
use Rattle.machine_model.specs.Requests.{Wishes, effect_due, request_in, set_to, wishes_after}
use Rattle.machine_model.specs.Rest.{IsAtRest}
use Rattle.machine_model.specs.Rows.{chosen, news_of, noted, parts_of, request_parts}
use Rattle.machine_model.specs.Runs.{Message, Run}
use Rattle.machine_model.specs.State.{Hand, Machine, State, is_attached, is_gone}
use Rattle.machine_steps.specs.Names.{Written, Attached, Choice, Clear, Command, Does, Effect, Finding, Fresh}
use Rattle.machine_steps.specs.Names.{Initialized, Item, Leaves, Lookup, Note, Part, Phase, Replied, Set, TellsNews}
use Rattle.machine_steps.specs.Names.{Terminated, a_question, a_raw, a_request, a_stop, an_answer, an_effect, some_news}
use Rattle.machine_steps.specs.Names.{Logged}
use Rattle.machine_steps.proofs.RestLaws.{no_late}
use Rattle.machine_steps.proofs.SizeLaws.{is_idle}
use Rattle.machine_steps.proofs.Stepping.{IsAt, Moves, Skips, by_runs}
use Rattle.machine_steps.proofs.Tables.{are_followed, followed, followed_test, rewants, starts_updates, told_alike}
use Rattle.machine_steps.proofs.Testing.{same_noted, same_numbered, same_replied, Passed, passed_on, whole}
use Rattle.machine_steps.proofs.WishLemmas.{new_set_due, none_due_change}
use Rattle.wish_sets.proofs.LeftLaws.{at_rest}
use Rattle.wish_sets.proofs.TidyLaws.{cleared_is_tidy, installed_is_tidy, new_is_tidy, refused_is_tidy}
use Rattle.wish_sets.proofs.TidyLaws.{rewished_is_tidy}
use Rattle.wish_sets.specs.Tidy.{IsNewSet, IsTidy}
use Rattle.machine_model.specs.Plans.{Result}
use Rattle.machine_steps.proofs.RequestSteps.{Step, asked_left, flying_in, flying_of, is_deed, learnt_wishes}
use Rattle.machine_steps.proofs.RequestSteps.{near_before, noted_wishes, numbered_wishes, parts_left, replied_left}
use Rattle.machine_steps.proofs.RequestSteps.{steps, needs_set}

-- What is in flight is still due --------------------------------------------------------------------------------------

-- the Set or Clear in flight is the one that is due now, and `updates` is in front
abbrev pub IsDue : Wishes → List Part → Option Effect → Type 0
IsDue w parts None = Unit {0}
IsDue w parts (Some effect) = is_deed effect ≡ false → (effect_due w ≡ Some effect) × (starts_updates parts ≡ true)

abbrev pub IsAwaited : Machine → Type 0
IsAwaited m = IsDue m.state.wishes (parts_left m.hand) (flying_in m.hand)

pub none_due : (w : Wishes) (parts : List Part) (flying : Option Effect) → flying ≡ None → IsDue w parts flying
none_due w parts None is = tt
none_due w parts (Some effect) is = cc

awaited_on : (m next : Machine) (said : Option Message) → IsAwaited m → Step m next said → IsAwaited next
awaited_on m next said h (Step.aside quiet same flew (inl none)) = none_due _ _ (flying_in next.hand) (flew ∙ none)
awaited_on m next said h (Step.aside quiet same flew (inr left)) = rw (same, flew, left) h
awaited_on m next said h (Step.wants wanted same none now needs) = none_due _ _ (flying_in next.hand) now
awaited_on m next said h (Step.sends {effect} same none flies due) = rw (same, flies) due
awaited_on m next said h (Step.replies same flew none reply) = none_due _ _ (flying_in next.hand) none

-- the effect that is replied to was due
pub was_due : (m : Machine) (effect : Effect) → IsAwaited m → flying_in m.hand ≡ Some effect
    → IsDue m.state.wishes (parts_left m.hand) (Some effect)
was_due m effect h is = subst (λ (flying : Option Effect). IsDue m.state.wishes (parts_left m.hand) flying) is h

-- What stands is tidy -------------------------------------------------------------------------------------------------

tidy_replied : (w : Wishes) (parts : List Part) (effect : Effect) (replied : Replied) → IsDue w parts (Some effect)
    → IsTidy w → IsTidy (wishes_after effect replied w)
tidy_replied w parts (Set wish) replied due tidy = by_id (request_in replied) (new_set_due w wish (due refl).0)
  where
    by_id : (found : Option ℕ) → IsNewSet w wish → IsTidy (set_to found wish w)
    by_id None new = refused_is_tidy wish w tidy new
    by_id (Some request) new = installed_is_tidy request wish w tidy new
tidy_replied w parts (Clear wish request) (an_answer answer) due tidy = cleared_is_tidy wish w tidy
tidy_replied w parts _ _ due tidy = tidy

tidy_on : (m next : Machine) (said : Option Message) → IsAwaited m → IsTidy m.state.wishes → Step m next said
    → IsTidy next.state.wishes
tidy_on m next said h tidy (Step.aside quiet same flew left) = subst (λ (w : Wishes). IsTidy w) (sym same) tidy
tidy_on m next said h tidy (Step.wants wanted same none now needs) =
    subst (λ (w : Wishes). IsTidy w) (sym same) (rewished_is_tidy wanted m.state.wishes tidy)
tidy_on m next said h tidy (Step.sends same none flies due) = subst (λ (w : Wishes). IsTidy w) (sym same) tidy
tidy_on m next said h tidy (Step.replies {effect} {replied} same flew none reply) =
    subst (λ (w : Wishes). IsTidy w) (sym same)
    (tidy_replied m.state.wishes (parts_left m.hand) effect replied (was_due m effect h flew) tidy)

-- All that is wished is set -------------------------------------------------------------------------------------------

abbrev pub IsSet : Machine → Type 0
IsSet m = needs_set (is_attached m.state.phase) (parts_left m.hand) ≡ true → effect_due m.state.wishes ≡ None

-- each row that attaches the session updates first
begun_needs : (state : State) (item : Item) → needs_set (is_attached state.phase) (parts_of state item) ≡ true
    → is_attached state.phase ≡ true
begun_needs state (a_request request) is = row_needs state request.command is
  where
    row_needs : (state : State) (command : Command)
        → needs_set (is_attached state.phase) (request_parts command state) ≡ true → is_attached state.phase ≡ true
    row_needs state command is = grind (arith, is)
begun_needs state (a_raw at body) is = is
begun_needs state _ is = grind (arith, is)

-- what a part becomes changes what is wanted only where it does
found_needs : (attached : Bool) (lookup : Lookup) (result : Result Finding) (state : State) (rest : List Part)
    → needs_set attached (finished lookup result state ++ rest) ≡ true
    → needs_set attached (Part.Looks lookup ∷ rest) ≡ true
found_needs attached lookup result state rest is = grind (arith, is)

chosen_needs : (attached : Bool) (choice : Choice) (state : State) (hand : Hand) (rest : List Part)
    → needs_set attached (chosen choice state hand ++ rest) ≡ true
    → needs_set attached (Part.Unfolds choice ∷ rest) ≡ true
chosen_needs attached (TellsNews below) state hand rest is =
    sym (told_alike (needs_set attached) (λ news parts. refl) state.phase
    (news_of below state hand.item) rest) ∙ is
chosen_needs attached (Written seen) state hand rest is = grind (arith, is)
chosen_needs attached (Leaves exits) state hand rest is = grind (arith, is)
chosen_needs attached _ state hand rest is = refl

-- a part in front that isn't `updates` is done
pub front_set : (m : Machine) (hand : Hand) (part : Part) (rest : List Part) → IsSet m → IsAt m hand part rest
    → needs_set (is_attached m.state.phase) (part ∷ rest) ≡ true → effect_due m.state.wishes ≡ None
front_set m hand part rest h at needs =
    h (ap (needs_set (is_attached m.state.phase)) (ap parts_left at.in_hand ∙ at.parts) ∙ needs)

-- nothing has to be set yet where `updates` is in front
in_front : (attached : Bool) (parts : List Part) → starts_updates parts ≡ true → ¬ (needs_set attached parts ≡ true)
in_front attached [] is needs = cc
in_front attached (part ∷ parts) is needs = let no : needs_set attached (part ∷ parts) ≡ false = rw is refl in cc

replied_set : (m : Machine) (effect : Effect) (replied : Replied) → IsSet m
    → IsDue m.state.wishes (parts_left m.hand) (Some effect)
    → needs_set (is_attached m.state.phase) (parts_left m.hand) ≡ true
    → effect_due (wishes_after effect replied m.state.wishes) ≡ None
replied_set m (Does deed) replied h due needs = h needs
replied_set m _ replied h due needs =
    absurd (in_front (is_attached m.state.phase) (parts_left m.hand) (due refl).1 needs)

-- behind a note that changes what is wanted stands `updates`
noted_set : (m : Machine) (hand : Hand) (note : Note) (rest : List Part) (changes : Bool) → IsSet m
    → IsAt m hand (Part.Notes note) rest → are_followed (Part.Notes note ∷ rest) ≡ true
    → rewants (Part.Notes note) ≡ changes → needs_set (is_attached m.state.phase) rest ≡ true
    → effect_due (noted note m.state).wishes ≡ None
noted_set m hand note rest true h at followed changes needs =
    absurd (in_front (is_attached m.state.phase) rest (grind (arith, followed, changes)) needs)
noted_set m hand note rest false h at followed changes needs = ap effect_due (noted_wishes note m.state changes)
    ∙ front_set m hand (Part.Notes note) rest h at (grind (arith, changes, needs))

set_on : (m next : Machine) (said : Option Message) → IsAwaited m → Passed followed m → IsSet m → Moves m said next
    → is_gone next.state.phase ≡ false → IsSet next
set_on m next said a f h (Moves.begins picked free none is) here = λ needs.
    h (ap (needs_set (is_attached m.state.phase)) (ap parts_left none) ∙ begun_needs m.state picked.item needs)
set_on m next said a f h (Moves.drops {hand} free is none) here = λ needs.
    h (ap (needs_set (is_attached m.state.phase)) (ap parts_left is ∙ none) ∙ needs)
set_on m next said a f h (Moves.responds {hand} {rest} {outcome = outcome} free at is) here = λ needs.
    ap effect_due (numbered_wishes outcome m.state)
    ∙ front_set m hand (Part.Responds outcome) rest h at
    (ap (λ (phase : Phase). needs_set (is_attached phase) rest) (sym (same_numbered outcome m.state)) ∙ needs)
set_on m next said a f h (Moves.finds {hand} {rest} {lookup} found free at is done_now) here = λ needs.
    front_set m hand (Part.Looks lookup) rest h at
    (found_needs (is_attached m.state.phase) lookup (result_of found) m.state rest needs)
set_on m next said a f h (Moves.passes_over {hand} {rest = rest} free at (Skips.by_guard {guard} is)) here = λ needs.
    front_set m hand (Part.Awaits guard) rest h at needs
set_on m next said a f h (Moves.passes_over free at (Skips.by_wishes is)) here = λ needs. is
set_on m next said a f h (Moves.passes_over {hand} {rest = rest} free at (Skips.no_request {outcome} is)) here = λ needs.
    front_set m hand (Part.Responds outcome) rest h at needs
set_on m next said a f h (Moves.tells {hand} {rest} {event = Initialized} free at) here = λ needs.
    front_set m hand (Part.Tells Initialized) rest h at refl
set_on m next said a f h (Moves.tells {hand} {rest} {event = some_news news} free at) here = λ needs.
    front_set m hand (Part.Tells (some_news news)) rest h at needs
set_on m next said a f h (Moves.tells {hand} {rest} {event = a_stop stopping} free at) here = λ needs.
    front_set m hand (Part.Tells (a_stop stopping)) rest h at needs
set_on m next said a f h (Moves.tells {hand} {rest} {event = Logged text} free at) here = λ needs.
    front_set m hand (Part.Tells (Logged text)) rest h at needs
set_on m next said a f h (Moves.tells {event = Terminated} free at) here = cc
set_on m next said a f h (Moves.sends {hand} {rest} {deed} free at is) here = λ needs.
    front_set m hand (Part.Sends deed) rest h at needs
set_on m next said a f h (Moves.updates free at is away) here = λ needs. cc
set_on m next said a f h (Moves.notes {hand} {note} {rest} free at) here = λ needs.
    noted_set m hand note rest (rewants (Part.Notes note)) h at (whole followed f at) refl
    (ap (λ (phase : Phase). needs_set (is_attached phase) rest) (sym (same_noted note m.state)) ∙ needs)
set_on m next said a f h (Moves.unfolds {hand} {choice} {rest} free at) here = λ needs.
    front_set m hand (Part.Unfolds choice) rest h at
    (chosen_needs (is_attached m.state.phase) choice m.state hand rest needs)
set_on m next said a f h (Moves.queues free is) here = λ needs.
    h (ap (needs_set (is_attached m.state.phase)) (ap parts_left is) ∙ needs)
set_on m next said a f h (Moves.asks {want = want} free room is are) here = λ needs.
    h (ap (needs_set (is_attached m.state.phase)) (sym (asked_left want m.hand)) ∙ needs)
set_on m next said a f h (Moves.answers {question} {replied} is waits reply stays) here = λ needs.
    ap effect_due (learnt_wishes question replied m.state)
    ∙ h (ap (λ (phase : Phase). needs_set (is_attached phase) (parts_left m.hand))
    (sym (same_replied (a_question question) replied m.state))
    ∙ ap (needs_set (is_attached (replied_to (a_question question) replied m.state).phase))
    (sym (replied_left (a_question question) replied m.hand)) ∙ needs)
set_on m next said a f h (Moves.replies {effect} {replied} is flying reply stays) here = λ needs.
    replied_set m effect replied h (was_due m effect a (ap flying_in is ∙ ap flying_of flying))
    (ap (needs_set (is_attached m.state.phase)) (sym (replied_left (an_effect effect) replied m.hand)) ∙ needs)
set_on m next said a f h (Moves.loses late near why) here = cc
set_on m next said a f h _ here = h

-- All of it -----------------------------------------------------------------------------------------------------------

pub record Settling (m : Machine) : Type 0 where
  pub awaited : IsAwaited m
  pub tidy : IsTidy m.state.wishes
  pub followed : Passed followed m
  pub set : IsSet m

pub settling_on : (m next : Machine) (said : Option Message) → Settling m → Moves m said next → Step m next said
    → is_gone next.state.phase ≡ false → Settling next
settling_on m next said h moved step here = record {
  awaited = awaited_on m next said h.awaited step;
  tidy = tidy_on m next said h.awaited h.tidy step;
  followed = passed_on followed_test m next said h.followed moved;
  set = set_on m next said h.awaited h.followed h.set moved here;
}

-- each move of a run is a step, while there is a target
pub step_of : {messages : List Message} {m : Machine} → Run messages m → (next : Machine) (said : Option Message)
    → Moves m said next → is_gone next.state.phase ≡ false → Step m next said
step_of {messages} {m} r next said moved here =
    steps m next said (no_late r) moved (near_before m next said moved here) here

-- while there is a target
abbrev pub Near : Machine → Type 0
Near m = is_gone m.state.phase ≡ false → Settling m

pub settling : {messages : List Message} {m : Machine} → Run messages m → Near m
settling r = by_runs {Holds = λ (messages : List Message) (m : Machine). Near m} (record {
  starts = λ near. record { awaited = tt; tidy = new_is_tidy; followed = refl; set = λ needs. cc };
  moves = λ messages m next said r h moved after here.
      settling_on m next said (h (near_before m next said moved here)) moved (step_of r next said moved here) here;
  queues = λ messages m hand queue r may h near. let s = h near in
      record { awaited = s.awaited; tidy = s.tidy; followed = s.followed; set = s.set };
}) r

-- The law -------------------------------------------------------------------------------------------------------------

pub settles : (messages : List Message) (m : Machine) → Run messages m → IsAtRest m → m.state.phase ≡ Attached
    → IsSettled m
settles messages m r rests attached =
    let idle = is_idle messages m r rests in
    let s = settling r (ap is_gone attached) in
    let none : effect_due m.state.wishes ≡ None =
    s.set (ap (needs_set (is_attached m.state.phase)) (ap parts_left idle.no_hand) ∙ ap is_attached attached) in
    record {
      none_due = none;
      just_wished = at_rest m.state.wishes s.tidy (none_due_change m.state.wishes none);
      none_in_hand = idle.no_hand;
      none_waits = idle.none_later (λ fresh. let no : Attached ≡ Fresh = sym attached ∙ fresh in cc);
    }
