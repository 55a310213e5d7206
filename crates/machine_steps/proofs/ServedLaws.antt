-- The responses answer the first of the requests, one each, in order.
use Rattle.std.proofs.Common.{◌≡◌, Bool, true, false, cond, ◌||◌, List, [], ◌∷◌, ◌++◌, Option, Some, None, refl, sym}
use Rattle.std.proofs.Common.{ap, ap₂, subst, ◌∙◌, append_assoc, append-nil, option_map, arith}
use Rattle.std.specs.List.{flat_map}
use Rattle.std.proofs.lemmas.List.{flat_map_more}
use Rattle.std.proofs.lemmas.List.Concat.{flat_map-append}
use Rattle.dap_messages.specs.declared.told.Outcome.{Outcome as OutcomeTold}
use Rattle.dap_messages.specs.declared.told.Response.{Response}
use Rattle.machine_model.specs.Due.{Picked, asked_hand, passed_by, pick}
use Rattle.machine_model.specs.Lookups.{finished}
use Rattle.machine_model.specs.Replying.{given_up, hand_replied}
use Rattle.machine_model.specs.Responses.{AreServed}
use Rattle.machine_model.specs.Rest.{AreAnswered, request_by, request_in, requests_of, response_by, responses_of}
use Rattle.machine_model.specs.Rest.{unanswered_hand, unanswered_item, without_response}
use Rattle.machine_model.specs.Rows.{chosen, failure_of, gone_parts, has_response, parts_of, wanting}
use Rattle.machine_model.specs.Runs.{Message, Run}
use Rattle.machine_model.specs.State.{Hand, Machine, State, is_gone, is_raw, knowing, left}
use Rattle.machine_model.specs.Telling.{numbered_by, outcome_told, response_to}
use Rattle.machine_model.specs.Outcomes.{result_of}
use Rattle.machine_steps.specs.Names.{Item, Outcome, Part, Replied, Request, TargetCommand, Want, a_composite}
use Rattle.machine_steps.specs.Names.{a_question, a_raw, a_request, an_effect, target_end}
use Rattle.machine_steps.proofs.RestLaws.{at_rest, no_request_waits}
use Rattle.machine_steps.proofs.Stepping.{IsAt, Loses, Moves, Skips, by_runs, with_said}
use Rattle.machine_steps.proofs.Tables.{chosen_is, finished_is, has_joined, once, responds_once, row_is}
use Rattle.machine_steps.proofs.Testing.{Passed, tested, whole}

no_item : (item : Item) (b : Bool) → request_in item ≡ [] → unanswered_item b item ≡ []
no_item item b is = grind (arith, is)

pub begun_item : (state : State) (item : Item)
    → unanswered_item (has_response (parts_of state item)) item ≡ request_in item
begun_item state (a_request request) =
    rw (row_is (failure_of (wanting request.command) state) request.command state).responds refl
begun_item state target_end = no_item target_end (has_response (parts_of state target_end)) refl
begun_item state (a_composite at composite) = grind arith
begun_item state (a_raw at body) = refl

given_up_item : (responds : Bool) (item : Item)
    → unanswered_item (has_response (gone_parts responds item)) item ≡ unanswered_item responds item
given_up_item responds item = grind arith

pub given_up_same : (hand : Option Hand) → unanswered_hand (option_map given_up hand) ≡ unanswered_hand hand
given_up_same None = refl
given_up_same (Some hand) = given_up_item (has_response hand.parts) hand.item

pub replied_same : (command : TargetCommand) (replied : Replied) (hand : Option Hand)
    → unanswered_hand (option_map (hand_replied command replied) hand) ≡ unanswered_hand hand
replied_same command replied hand = grind arith

pub asked_same : (want : Want) (hand : Option Hand)
    → unanswered_hand (option_map (asked_hand want) hand) ≡ unanswered_hand hand
asked_same want hand = grind arith

-- what is picked leaves what there is of the others, in order, where there is nothing of a raw composite
picked_first : {A : Type 0} (f : Item → List A) (item : Item) (items : List Item) (picked : Picked) (raw : Bool)
    (others : Option Picked) → (raw ≡ true → f item ≡ [])
    → ((other : Picked) → others ≡ Some other → flat_map f items ≡ f other.item ++ flat_map f other.rest)
    → cond raw (passed_by item others) (Some (record { item = item; rest = items })) ≡ Some picked
    → flat_map f (item ∷ items) ≡ f picked.item ++ flat_map f picked.rest
picked_first f item items picked false others none rest now =
    let one : record { item = item; rest = items } ≡ picked = cc in
    subst (λ (picked : Picked). flat_map f (item ∷ items) ≡ f picked.item ++ flat_map f picked.rest) one refl
picked_first f item items picked true None none rest now = cc
picked_first f item items picked true (Some other) none rest now =
    let one : record { item = other.item; rest = item ∷ other.rest } ≡ picked = cc in
    subst (λ (picked : Picked). flat_map f (item ∷ items) ≡ f picked.item ++ flat_map f picked.rest) one
    (rw (none refl) (rest other refl))

pub picked_all : {A : Type 0} (f : Item → List A) (gone : Bool) (waiting : List Item) (picked : Picked)
    → ((item : Item) → is_raw item ≡ true → f item ≡ []) → pick gone waiting ≡ Some picked
    → flat_map f waiting ≡ f picked.item ++ flat_map f picked.rest
picked_all f gone [] picked none is = cc
picked_all f gone (item ∷ items) picked none is =
    picked_first f item items picked (cond gone false (is_raw item)) (pick gone items)
    (λ raw. none item (not_gone gone (is_raw item) raw)) (λ other are. picked_all f gone items other none are) is
  where
    not_gone : (gone raw : Bool) → cond gone false raw ≡ true → raw ≡ true
    not_gone gone raw is = grind (arith, is)

raw_none : (item : Item) → is_raw item ≡ true → request_in item ≡ []
raw_none item is = grind (arith, is)

pub picked_requests : (gone : Bool) (waiting : List Item) (picked : Picked) → pick gone waiting ≡ Some picked
    → flat_map request_in waiting ≡ request_in picked.item ++ flat_map request_in picked.rest
picked_requests gone waiting picked is = picked_all request_in gone waiting picked raw_none is

-- What is left without a response -------------------------------------------------------------------------------------

pub one_more : {A B : Type 0} (f : A → List B) (xs : List A) (x : A) → flat_map f (xs ++ x ∷ []) ≡ flat_map f xs ++ f x
one_more f xs x = sym (flat_map_more f [] xs x)

-- how a message, or none, changes what is left without a response
pub data IsLeft (left now : List Request) : Option Message → Type 0 where
  silent : left ≡ now → IsLeft left now None
  aside : (message : Message) → request_by message ≡ [] → response_by message ≡ [] → left ≡ now
      → IsLeft left now (Some message)
  hears : (request : Request) → now ≡ left ++ request ∷ [] → IsLeft left now (Some (Message.hears request))
  responds : (request : Request) (outcome : OutcomeTold) → left ≡ request ∷ now
      → IsLeft left now (Some (Message.tells (response_to request outcome)))

pub hand_on : (m : Machine) {left : List Request} → left ≡ unanswered_hand m.hand
    → without_response m ≡ left ++ flat_map request_in m.waiting
hand_on m same = ap (λ (first : List Request). first ++ flat_map request_in m.waiting) (sym same)

-- the part at the front becomes these, which bring the response where it did
pub same_front : {m : Machine} {hand : Hand} {part : Part} {rest : List Part} (parts : List Part)
    → IsAt m hand part rest
    → has_response (part ∷ rest) ≡ has_response parts
    → unanswered_item (has_response parts) hand.item ≡ unanswered_hand m.hand
same_front parts at is = rw (at.in_hand, at.parts, is) refl

pub skipped_same : {m : Machine} {hand : Hand} {part : Part} {rest : List Part} → IsAt m hand part rest
    → Skips m hand part → unanswered_item (has_response rest) hand.item ≡ unanswered_hand m.hand
skipped_same at why = grind (arith, at.in_hand, at.parts, why)

pub waiting_same : (m : Machine) (item : Item) → request_in item ≡ []
    → without_response m ≡ unanswered_hand m.hand ++ flat_map request_in (m.waiting ++ item ∷ [])
waiting_same m item none = ap (λ (left : List Request). unanswered_hand m.hand ++ left)
    (sym (one_more request_in m.waiting item ∙ ap (λ (more : List Request). flat_map request_in m.waiting ++ more) none
    ∙ append-nil (flat_map request_in m.waiting)))

pub loss_silent : {m : Machine} {message : Message} {late : List TargetCommand} → Loses m message late
    → (request_by message ≡ []) × (response_by message ≡ [])
loss_silent Loses.by_end = (refl, refl)
loss_silent _ = (refl, refl)

-- what is left, by what is said
pub silent_left : {left now : List Request} → IsLeft left now None → left ≡ now
silent_left (IsLeft.silent same) = same

pub aside_left : {left now : List Request} (message : Message) → request_by message ≡ [] → response_by message ≡ []
    → IsLeft left now (Some message) → left ≡ now
aside_left message none_heard none_told apart = grind (arith, none_heard, none_told, apart)

-- the response is told: the request in hand was the first without one
pub responded_left : {m : Machine} {hand : Hand} {rest : List Part} {request : Request} {outcome : Outcome}
    → IsAt m hand (Part.Responds outcome) rest → hand.item ≡ a_request request → has_response rest ≡ false
    → without_response m
    ≡ request ∷ without_response (left (knowing m (numbered_by outcome m.state)) hand rest)
responded_left at is others = rw (at.in_hand, at.parts, is, others) refl

pub left_on : (m next : Machine) (said : Option Message) → Passed responds_once m → Moves m said next
    → IsLeft (without_response m) (without_response next) said
left_on m next said once (Moves.begins picked free none is) =
    IsLeft.silent (rw (none, begun_item m.state picked.item)
    (picked_requests (is_gone m.state.phase) m.waiting picked is))
left_on m next said once (Moves.drops {hand} free is none) = IsLeft.silent (rw (is, none) refl)
left_on m next said once (Moves.responds {hand} {rest} {request} {outcome} free at is) =
    let others : has_response rest ≡ false = grind (arith, whole responds_once once at) in
    IsLeft.responds request (outcome_told outcome m.state) (responded_left at is others)
left_on m next said once (Moves.finds {hand} {rest} {lookup} found free at needs done) =
    let b = finished_is lookup (result_of found) m.state in
    IsLeft.silent (hand_on m (same_front (finished lookup (result_of found) m.state ++ rest) at
    (sym (has_joined (finished lookup (result_of found) m.state) rest
    ∙ ap (λ (b : Bool). b || has_response rest) b.is))))
left_on m next said once (Moves.passes_over free at why) = IsLeft.silent (hand_on m (skipped_same at why))
left_on m next said once (Moves.tells {rest = rest} free at) =
    IsLeft.aside _ refl refl (hand_on m (same_front rest at refl))
left_on m next said once (Moves.sends {rest = rest} free at near) =
    IsLeft.aside _ refl refl (hand_on m (same_front rest at refl))
left_on m next said once (Moves.updates {rest = rest} free at is near) =
    IsLeft.aside _ refl refl (hand_on m (same_front (Part.Updates ∷ rest) at refl))
left_on m next said once (Moves.notes {rest = rest} free at) = IsLeft.silent (hand_on m (same_front rest at refl))
left_on m next said once (Moves.unfolds {hand} {choice} {rest} free at) =
    let b = chosen_is choice m.state hand in
    IsLeft.silent (hand_on m (same_front (chosen choice m.state hand ++ rest) at
    (sym (has_joined (chosen choice m.state hand) rest ∙ ap (λ (b : Bool). b || has_response rest) b.is))))
left_on m next said once (Moves.queues free is) = IsLeft.silent (hand_on m (rw is refl))
left_on m next said once (Moves.asks {want = want} free room is are) =
    IsLeft.aside _ refl refl (hand_on m (asked_same want m.hand))
left_on m next said once (Moves.hears {request} read is) =
    IsLeft.hears request (ap (λ (left : List Request). unanswered_hand m.hand ++ left)
    (one_more request_in m.waiting (a_request request))
    ∙ sym (append_assoc (unanswered_hand m.hand) (flat_map request_in m.waiting) (request ∷ [])))
left_on m next said once (Moves.answers {question} {replied} is waits reply stays) =
    IsLeft.aside _ refl refl (hand_on m (replied_same (a_question question) replied m.hand))
left_on m next said once (Moves.replies {effect} {replied} is flying reply stays) =
    IsLeft.aside _ refl refl (hand_on m (replied_same (an_effect effect) replied m.hand))
left_on m next said once (Moves.loses {message} late near why) =
    IsLeft.aside message (loss_silent why).0 (loss_silent why).1 (waiting_same m target_end refl
    ∙ ap (λ (first : List Request). first ++ flat_map request_in (m.waiting ++ target_end ∷ []))
    (sym (given_up_same m.hand)))
left_on m next said once (Moves.comes {at} {composite} read sized taken) =
    IsLeft.aside _ refl refl (waiting_same m (a_composite at composite) refl)
left_on m next said once (Moves.keeps {at} {body} is) =
    IsLeft.aside _ refl refl (waiting_same m (a_raw at body) refl)
left_on m next said once (Moves.reads {at} {body} {composite} before after read is none taken) =
    IsLeft.aside _ refl refl (ap (λ (left : List Request). unanswered_hand m.hand ++ left)
    (ap (λ (items : List Item). flat_map request_in items) is ∙ flat_map-append request_in before
    (a_raw at body ∷ after)
    ∙ sym (flat_map-append request_in before (a_composite at composite ∷ after))))
left_on m next said once _ = IsLeft.aside _ refl refl refl

-- The invariant ------------------------------------------------------------------------------------------------------

pub record Owes (messages : List Message) (m : Machine) : Type 0 where
  pub answered : List Request
  pub requests : requests_of messages ≡ answered ++ without_response m
  pub responses : AreAnswered answered (responses_of messages)

owes_on : (messages : List Message) (m next : Machine) (said : Option Message) → Owes messages m
    → IsLeft (without_response m) (without_response next) said → Owes (with_said messages said) next
owes_on messages m next said h (IsLeft.silent same) = record {
  answered = h.answered;
  requests = h.requests ∙ ap (λ (left : List Request). h.answered ++ left) same;
  responses = h.responses;
}
owes_on messages m next said h (IsLeft.aside message no_request no_response same) = record {
  answered = h.answered;
  requests = one_more request_by messages message
      ∙ ap (λ (more : List Request). requests_of messages ++ more) no_request
      ∙ append-nil (requests_of messages) ∙ h.requests ∙ ap (λ (left : List Request). h.answered ++ left) same;
  responses = subst (λ (all : List Response). AreAnswered h.answered all)
      (sym (one_more response_by messages message
      ∙ ap (λ (more : List Response). responses_of messages ++ more) no_response ∙ append-nil (responses_of messages)))
      h.responses;
}
owes_on messages m next said h (IsLeft.hears request is) = record {
  answered = h.answered;
  requests = one_more request_by messages (Message.hears request)
      ∙ ap (λ (all : List Request). all ++ request ∷ []) h.requests
      ∙ append_assoc h.answered (without_response m) (request ∷ [])
      ∙ ap (λ (left : List Request). h.answered ++ left) (sym is);
  responses = subst (λ (all : List Response). AreAnswered h.answered all)
      (sym (one_more response_by messages (Message.hears request) ∙ append-nil (responses_of messages))) h.responses;
}
owes_on messages m next said h (IsLeft.responds request outcome was) = record {
  answered = h.answered ++ request ∷ [];
  requests = one_more request_by messages (Message.tells (response_to request outcome))
      ∙ append-nil (requests_of messages) ∙ h.requests ∙ ap (λ (left : List Request). h.answered ++ left) was
      ∙ sym (append_assoc h.answered (request ∷ []) (without_response next));
  responses = subst (λ (all : List Response). AreAnswered (h.answered ++ request ∷ []) all)
      (sym (one_more response_by messages (Message.tells (response_to request outcome))))
      (AreAnswered.one_more h.responses (record { seq = refl; command = refl }));
}

pub owing : {messages : List Message} {m : Machine} → Run messages m → Owes messages m
owing r = by_runs {Holds = Owes} (record {
  starts = record { answered = []; requests = refl; responses = AreAnswered.none };
  moves = λ messages m next said before h moved after.
      owes_on messages m next said h (left_on m next said (tested once before) moved);
  queues = λ messages m hand queue before may h.
      record { answered = h.answered; requests = h.requests; responses = h.responses };
}) r

pub are_served : (messages : List Message) (m : Machine) → Run messages m → AreServed messages m
are_served messages m r =
    let h = owing r in
    record {
      answered = h.answered;
      requests = h.requests;
      responses = h.responses;
      all = λ rests. h.requests ∙ ap (λ (left : List Request). h.answered ++ left)
          (ap₂ (λ (hand : Option Hand) (left : List Request). unanswered_hand hand ++ left) (at_rest r rests).no_hand
          (no_request_waits (is_gone m.state.phase) m.waiting (at_rest r rests).picks_none)) ∙ append-nil h.answered;
    }
