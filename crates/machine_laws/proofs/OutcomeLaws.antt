-- Each response has the outcome that its row leads to, by what was asked for it since its turn; or its target ended.
use Rattle.std.proofs.Common.{◌≡◌, Bool, true, false, cond, ◌||◌, List, [], ◌∷◌, ◌++◌, Option, Some, None, refl, sym}
use Rattle.std.proofs.Common.{ap, ap₂, subst, ◌∙◌, append_assoc, append-nil, option_map, arith}
use Rattle.std.specs.List.{flat_map}
use Rattle.std.proofs.lemmas.List.Concat.{flat_map-append}
use Rattle.dap_messages.specs.declared.told.Response.{Response}
use Rattle.machine_model.specs.Asking.{AreAsked, is_aside}
use Rattle.machine_model.specs.Due.{Picked, asked_hand, asked_now, begun, pick}
use Rattle.machine_model.specs.Lookups.{finished, found_for, lookup_responds}
use Rattle.machine_model.specs.Outcomes.{AreExplained, IsExplained, IsInHand, Leads, Reason, answer_part, responds}
use Rattle.machine_model.specs.Outcomes.{result_of}
use Rattle.machine_model.specs.Plans.{Need, is_done, question_of}
use Rattle.machine_model.specs.Replying.{given_up, hand_replied, replied_machine}
use Rattle.machine_model.specs.Rest.{AreAnswered, request_in, requests_of, response_by, responses_of}
use Rattle.machine_model.specs.Rows.{choice_responds, chosen, gone_parts, gone_row, has_response, is_response, parts_of}
use Rattle.machine_model.specs.Rows.{taken}
use Rattle.machine_model.specs.Runs.{Message, Run}
use Rattle.machine_model.specs.State.{Hand, Machine, State, in_hand, is_gone, knowing, left}
use Rattle.machine_model.specs.Telling.{after_event, attached_from, event_told, outcome_told, response_to}
use Rattle.machine_steps.specs.Names.{Choice, Does, Doing, Event, Finding, Initialized, Item, Lookup, Outcome, Part}
use Rattle.machine_steps.specs.Names.{Phase, Request, TargetCommand, Terminated, a_question, a_request, an_effect}
use Rattle.machine_steps.specs.Names.{an_event}
use Rattle.machine_steps.proofs.KeptLaws.{always_kept, next_new}
use Rattle.machine_steps.proofs.RestLaws.{is_free as is_free_hand, late_gone, near_asks, no_late}
use Rattle.machine_steps.proofs.ServedLaws.{loss_silent, owing, picked_requests}
use Rattle.machine_steps.proofs.Stepping.{IsAt, Loses, Moves, Skips, by_runs, with_said}
use Rattle.machine_steps.proofs.Tables.{choice_near, chosen_is, finished_is, free, free_once, has_joined, is_free}
use Rattle.machine_steps.proofs.Tables.{last_silent, once, responds_once, silent_last, silent_test}
use Rattle.machine_steps.proofs.Testing.{same_noted, same_numbered, same_replied, tested, whole}

-- The part that brings the response -----------------------------------------------------------------------------------

answers_here : (parts rest : List Part) → has_response parts ≡ true → answer_part (parts ++ rest) ≡ answer_part parts
answers_here [] rest is = cc
answers_here (part ∷ parts) rest is = by_test (is_response part) is (λ later. answers_here parts rest later)
  where
    by_test : (here : Bool) → (here || has_response parts) ≡ true
        → (has_response parts ≡ true → answer_part (parts ++ rest) ≡ answer_part parts)
        → cond here (Some part) (answer_part (parts ++ rest)) ≡ cond here (Some part) (answer_part parts)
    by_test true is k = refl
    by_test false is k = k is

answers_later : (parts rest : List Part) → has_response parts ≡ false → answer_part (parts ++ rest) ≡ answer_part rest
answers_later [] rest is = refl
answers_later (part ∷ parts) rest is = by_test (is_response part) is (λ none. answers_later parts rest none)
  where
    by_test : (here : Bool) → (here || has_response parts) ≡ false
        → (has_response parts ≡ false → answer_part (parts ++ rest) ≡ answer_part rest)
        → cond here (Some part) (answer_part (parts ++ rest)) ≡ answer_part rest
    by_test true is k = cc
    by_test false is k = k is

none_answers : (parts : List Part) → has_response parts ≡ false → answer_part parts ≡ None
none_answers [] is = refl
none_answers (part ∷ parts) is = by_test (is_response part) is (λ none. none_answers parts none)
  where
    by_test : (here : Bool) → (here || has_response parts) ≡ false
        → (has_response parts ≡ false → answer_part parts ≡ None) → cond here (Some part) (answer_part parts) ≡ None
    by_test true is k = cc
    by_test false is k = k is

gone_tail_none : (item : Item) → answer_part (gone_parts false item) ≡ None
gone_tail_none item = grind arith

-- What is known of the item in hand -----------------------------------------------------------------------------------

pub record InOrder (earlier : List Message) (request : Request) : Type 0 where
  pub answered : List Request
  pub others : List Request
  pub heard : requests_of earlier ≡ answered ++ request ∷ others
  pub in_turn : AreAnswered answered (responses_of earlier)

data LeadsNow (earlier messages : List Message) (request : Request) (turn now : State) (part : Part) : Type 0 where
  same_target : is_gone now.phase ≡ is_gone turn.phase → Leads earlier messages request turn part
      → LeadsNow earlier messages request turn now part
  target_ended : is_gone turn.phase ≡ false → is_gone now.phase ≡ true
      → answer_part (gone_row request.command) ≡ Some part → LeadsNow earlier messages request turn now part

record Held (messages : List Message) (m : Machine) (hand : Hand) : Type 0 where
  earlier : List Message
  since : List Message
  turn : Machine
  messages_are : messages ≡ earlier ++ since
  began : Run earlier turn
  begun : turn.hand ≡ Some (in_hand hand.item (parts_of turn.state hand.item))
  asked : is_gone m.state.phase ≡ false → AreAsked since hand.asked hand.effect
  none_told : has_response hand.parts ≡ true → responses_of since ≡ []
  stays_gone : is_gone turn.state.phase ≡ true → is_gone m.state.phase ≡ true
  in_order : (request : Request) → hand.item ≡ a_request request → InOrder earlier request
  leads : (request : Request) → hand.item ≡ a_request request → (part : Part) → answer_part hand.parts ≡ Some part
      → LeadsNow earlier messages request turn.state m.state part

abbrev HeldIn : List Message → Machine → Option Hand → Type 0
HeldIn messages m None = Unit {0}
HeldIn messages m (Some hand) = Held messages m hand

record Explains (messages : List Message) (m : Machine) : Type 0 where
  explained : AreExplained messages
  held : HeldIn messages m m.hand

held_of : {messages : List Message} {m : Machine} {hand : Hand} → Explains messages m → m.hand ≡ Some hand
    → Held messages m hand
held_of {messages} {m} h is = subst (λ (hand : Option Hand). HeldIn messages m hand) is h.held

-- one message more
leads_more : {earlier messages : List Message} {request : Request} {turn : State} {part : Part} (more : List Message)
    → Leads earlier messages request turn part → Leads earlier (messages ++ more) request turn part
leads_more more (Leads.own is) = Leads.own is
leads_more {earlier} more (Leads.by_lookup since later there hand are l in_hand done is) =
    Leads.by_lookup since (later ++ more) there hand
    (ap (λ (all : List Message). all ++ more) are ∙ append_assoc (earlier ++ since) later more) (leads_more more l)
    in_hand done is
leads_more {earlier} more (Leads.by_choice since later there hand are l in_hand is) =
    Leads.by_choice since (later ++ more) there hand
    (ap (λ (all : List Message). all ++ more) are ∙ append_assoc (earlier ++ since) later more) (leads_more more l)
    in_hand is

now_more : {earlier messages : List Message} {request : Request} {turn now later : State} {part : Part}
    (more : List Message) → is_gone later.phase ≡ is_gone now.phase → LeadsNow earlier messages request turn now part
    → LeadsNow earlier (messages ++ more) request turn later part
now_more more same (LeadsNow.same_target is l) = LeadsNow.same_target (same ∙ is) (leads_more more l)
now_more more same (LeadsNow.target_ended near gone is) = LeadsNow.target_ended near (same ∙ gone) is

-- The item in hand behind a move: a message more or none, with these parts left, and this asked
record IsBehind (messages : List Message) (m : Machine) (hand : Hand) (more : List Message) (next : Machine)
    (now : Hand)
    (h : Held messages m hand) : Type 0 where
  item : now.item ≡ hand.item
  phase : is_gone next.state.phase ≡ is_gone m.state.phase
  asked : is_gone m.state.phase ≡ false → AreAsked (h.since ++ more) now.asked now.effect
  silent : has_response now.parts ≡ true → responses_of more ≡ []
  responds : has_response now.parts ≡ true → has_response hand.parts ≡ true
  leads : (request : Request) → hand.item ≡ a_request request → (part : Part) → answer_part now.parts ≡ Some part
      → LeadsNow h.earlier (messages ++ more) request h.turn.state next.state part

both_none : (before more : List Message) → responses_of before ≡ [] → responses_of more ≡ []
    → responses_of (before ++ more) ≡ []
both_none before more h k = flat_map-append response_by before more ∙ ap₂ (λ (a b : List Response). a ++ b) h k

held_on : {messages : List Message} {m next : Machine} {hand now : Hand} (more : List Message)
    (h : Held messages m hand)
    → IsBehind messages m hand more next now h → Held (messages ++ more) next now
held_on {messages} {m} {next} {hand} {now} more h b = record {
  earlier = h.earlier;
  since = h.since ++ more;
  turn = h.turn;
  messages_are = ap (λ (all : List Message). all ++ more) h.messages_are ∙ append_assoc h.earlier h.since more;
  began = h.began;
  begun = subst (λ (item : Item). h.turn.hand ≡ Some (in_hand item (parts_of h.turn.state item))) (sym b.item) h.begun;
  asked = λ near. b.asked (sym b.phase ∙ near);
  none_told = λ responds. both_none h.since more (h.none_told (b.responds responds)) (b.silent responds);
  stays_gone = λ gone. b.phase ∙ h.stays_gone gone;
  in_order = λ request is. h.in_order request (sym b.item ∙ is);
  leads = λ request is part answers. b.leads request (sym b.item ∙ is) part answers;
}

-- Moves ---------------------------------------------------------------------------------------------------------------

-- nothing is said
asked_still : {messages : List Message} {m : Machine} {hand : Hand} (h : Held messages m hand)
    → is_gone m.state.phase ≡ false → AreAsked (h.since ++ []) hand.asked hand.effect
asked_still {hand = hand} h near =
    subst (λ (since : List Message). AreAsked since hand.asked hand.effect) (sym (append-nil h.since)) (h.asked near)

asked_aside : {messages : List Message} {m : Machine} {hand : Hand} (message : Message) (h : Held messages m hand)
    → is_aside message ≡ true → is_gone m.state.phase ≡ false
    → AreAsked (h.since ++ message ∷ []) hand.asked hand.effect
asked_aside message h is near = AreAsked.aside message is (h.asked near)

-- the part in front is none that brings the response
passed_answer : (part : Part) (rest : List Part) → is_response part ≡ false
    → (answer_part (part ∷ rest) ≡ answer_part rest) × (has_response (part ∷ rest) ≡ has_response rest)
passed_answer part rest is = (rw is refl, rw is refl)

-- behind a part that brings no response, a message that is no response, or none
passed_on_held : {messages : List Message} {m next : Machine} {hand : Hand} {part : Part} {rest : List Part}
    (more : List Message) (now : Hand) (h : Held messages m hand) → IsAt m hand part rest → is_response part ≡ false
    → is_gone next.state.phase ≡ is_gone m.state.phase → responses_of more ≡ [] → now.item ≡ hand.item
    → now.parts ≡ rest → (is_gone m.state.phase ≡ false → AreAsked (h.since ++ more) now.asked now.effect)
    → Held (messages ++ more) next now
passed_on_held {messages} {m} {next} {hand} {part} {rest} more now h at is same silent item parts asked =
    held_on more h (record {
      item = item;
      phase = same;
      asked = asked;
      silent = λ responds. silent;
      responds = λ responds. ap has_response at.parts ∙ (passed_answer part rest is).1
          ∙ sym (ap has_response parts) ∙ responds;
      leads = λ request item answer answers. now_more more same
          (h.leads request item answer (ap answer_part at.parts ∙ (passed_answer part rest is).0
          ∙ sym (ap answer_part parts) ∙ answers));
    })

none_more : {messages : List Message} {m : Machine} {hand : Hand} → Held (messages ++ []) m hand → Held messages m hand
none_more {messages} {m} {hand} h = subst (λ (all : List Message). Held all m hand) (append-nil messages) h

-- the hand as it is, where something comes
same_held : {messages : List Message} {m next : Machine} {hand now : Hand} (message : Message)
    (h : Held messages m hand)
    → now.item ≡ hand.item → now.parts ≡ hand.parts → is_gone next.state.phase ≡ is_gone m.state.phase
    → response_by message ≡ []
    → (is_gone m.state.phase ≡ false → AreAsked (h.since ++ message ∷ []) now.asked now.effect)
    → Held (messages ++ message ∷ []) next now
same_held {hand = hand} message h item parts same silent asked = held_on (message ∷ []) h (record {
  item = item;
  phase = same;
  asked = asked;
  silent = λ responds. rw silent refl;
  responds = λ responds. sym (ap has_response parts) ∙ responds;
  leads = λ request is answer answers. now_more (message ∷ []) same
      (h.leads request is answer (sym (ap answer_part parts) ∙ answers));
})

-- an item in hand that is a request's is there
in_hand_there : {messages : List Message} {m : Machine} {hand : Hand} (request : Request) → Run messages m
    → m.hand ≡ Some hand → is_gone m.state.phase ≡ false → hand.item ≡ a_request request → (h : Held messages m hand)
    → IsInHand h.earlier h.since request m hand
in_hand_there {messages} {m} request r is near item h = record {
  run = subst (λ (all : List Message). Run all m) h.messages_are r;
  is_held = is;
  is_item = item;
  asked = h.asked near;
}

no_later : {messages : List Message} {m : Machine} {hand : Hand} (h : Held messages m hand)
    → messages ≡ (h.earlier ++ h.since) ++ []
no_later h = h.messages_are ∙ sym (append-nil (h.earlier ++ h.since))

-- where the target isn't gone, what leads to the response is the row's
near_leads : {earlier messages : List Message} {request : Request} {turn now : State} {part : Part}
    → is_gone now.phase ≡ false → LeadsNow earlier messages request turn now part
    → Leads earlier messages request turn part
near_leads near (LeadsNow.same_target is l) = l
near_leads near (LeadsNow.target_ended turn gone is) = let no : true ≡ false = sym gone ∙ near in cc

near_same : {earlier messages : List Message} {request : Request} {turn now : State} {part : Part}
    → is_gone now.phase ≡ false → LeadsNow earlier messages request turn now part
    → is_gone now.phase ≡ is_gone turn.phase
near_same near (LeadsNow.same_target is l) = is
near_same near (LeadsNow.target_ended turn gone is) = let no : true ≡ false = sym gone ∙ near in cc

-- a part becomes these, which bring the response where it did
becomes : {messages : List Message} {m : Machine} {hand : Hand} {part : Part} {rest : List Part} (parts : List Part)
    (responds : Bool) (h : Held messages m hand) → IsAt m hand part rest → is_response part ≡ responds
    → has_response parts ≡ responds
    → (responds ≡ true → (request : Request) → hand.item ≡ a_request request → (answer : Part)
    → answer_part parts ≡ Some answer → LeadsNow h.earlier messages request h.turn.state m.state part
    → LeadsNow h.earlier messages request h.turn.state m.state answer)
    → Held messages (left m hand (parts ++ rest)) (record hand { parts = parts ++ rest })
becomes {messages} {m} {hand} {part} {rest} parts responds h at is brings leads =
    by_responds responds is brings (λ b request item answer answers l. leads b request item answer answers l)
  where
    front : answer_part hand.parts ≡ answer_part (part ∷ rest)
    front = ap answer_part at.parts

    response : has_response hand.parts ≡ has_response (part ∷ rest)
    response = ap has_response at.parts

    by_responds : (b : Bool) → is_response part ≡ b → has_response parts ≡ b
        → (b ≡ true → (request : Request) → hand.item ≡ a_request request → (answer : Part)
        → answer_part parts ≡ Some answer → LeadsNow h.earlier messages request h.turn.state m.state part
        → LeadsNow h.earlier messages request h.turn.state m.state answer)
        → Held messages (left m hand (parts ++ rest)) (record hand { parts = parts ++ rest })
    by_responds true is brings leads = record {
      earlier = h.earlier;
      since = h.since;
      turn = h.turn;
      messages_are = h.messages_are;
      began = h.began;
      begun = h.begun;
      asked = h.asked;
      none_told = λ later. h.none_told (response ∙ rw is refl);
      stays_gone = h.stays_gone;
      in_order = h.in_order;
      leads = λ request item answer answers. leads refl request item answer
          (sym (answers_here parts rest brings) ∙ answers)
          (h.leads request item part (front ∙ rw is refl));
    }
    by_responds false is brings leads = record {
      earlier = h.earlier;
      since = h.since;
      turn = h.turn;
      messages_are = h.messages_are;
      began = h.began;
      begun = h.begun;
      asked = h.asked;
      none_told = λ later. h.none_told (response ∙ (passed_answer part rest is).1
          ∙ sym (has_joined parts rest ∙ ap (λ (b : Bool). b || has_response rest) brings) ∙ later);
      stays_gone = h.stays_gone;
      in_order = h.in_order;
      leads = λ request item answer answers. h.leads request item answer
          (front ∙ (passed_answer part rest is).0 ∙ sym (answers_later parts rest brings) ∙ answers);
    }

loss_aside : {m : Machine} {message : Message} {late : List TargetCommand} → Loses m message late
    → responds message ≡ false
loss_aside why = grind (arith, why)

-- something comes, or is said, that changes neither the item in hand nor whether the target is gone
same_all : (messages : List Message) (m next : Machine) (hand : Option Hand) (message : Message)
    → is_gone next.state.phase ≡ is_gone m.state.phase → response_by message ≡ []
    → (is_gone m.state.phase ≡ false → is_aside message ≡ true) → HeldIn messages m hand
    → HeldIn (messages ++ message ∷ []) next hand
same_all messages m next None message same silent aside h = tt
same_all messages m next (Some hand) message same silent aside h =
    same_held message h refl refl same silent (λ near. AreAsked.aside message (aside near) (h.asked near))

-- this is to be asked for it now
requeued : {messages : List Message} {m next : Machine} {hand now : Hand} (h : Held messages m hand)
    → now.item ≡ hand.item → now.parts ≡ hand.parts → now.asked ≡ hand.asked → now.effect ≡ hand.effect
    → is_gone next.state.phase ≡ is_gone m.state.phase → Held messages next now
requeued {messages} {m} {next} {hand} {now} h item parts asked effect same = none_more (held_on [] h (record {
  item = item;
  phase = same;
  asked = λ near. rw (asked, effect) (asked_still h near);
  silent = λ responds. refl;
  responds = λ responds. sym (ap has_response parts) ∙ responds;
  leads = λ request is answer answers. now_more [] same
      (h.leads request is answer (sym (ap answer_part parts) ∙ answers));
}))

-- An item is begun ----------------------------------------------------------------------------------------------------

begun_order : {messages : List Message} {m : Machine} (picked : Picked) (request : Request) → Run messages m
    → m.hand ≡ None → pick (is_gone m.state.phase) m.waiting ≡ Some picked → picked.item ≡ a_request request
    → InOrder messages request
begun_order {messages} {m} picked request r none is item =
    let o = owing r in
    record {
      answered = o.answered;
      others = flat_map request_in picked.rest;
      heard = o.requests ∙ ap (λ (left : List Request). o.answered ++ left)
          (rw none (picked_requests (is_gone m.state.phase) m.waiting picked is
          ∙ ap (λ (item : Item). request_in item ++ flat_map request_in picked.rest) item));
      in_turn = o.responses;
    }

-- what is learnt at its turn decides nothing of what an item does
parts_taken : (state : State) (item : Item) → parts_of (taken item state) item ≡ parts_of state item
parts_taken state item = grind arith

begun_held : {messages : List Message} {m : Machine} (picked : Picked) → Run messages m → m.hand ≡ None
    → pick (is_gone m.state.phase) m.waiting ≡ Some picked → Run messages (begun m picked.item picked.rest)
    → Held messages (begun m picked.item picked.rest) (in_hand picked.item (parts_of m.state picked.item))
begun_held {messages} {m} picked r none is now = record {
  earlier = messages;
  since = [];
  turn = begun m picked.item picked.rest;
  messages_are = sym (append-nil messages);
  began = now;
  begun = ap (λ (parts : List Part). Some (in_hand picked.item parts)) (sym (parts_taken m.state picked.item));
  asked = λ near. AreAsked.none;
  none_told = λ responds. refl;
  stays_gone = λ gone. gone;
  in_order = λ request item. begun_order picked request r none is item;
  leads = λ request item part answers. LeadsNow.same_target refl
      (Leads.own (ap (λ (item : Item). answer_part (parts_of (taken picked.item m.state) item)) (sym item)
      ∙ ap answer_part (parts_taken m.state picked.item) ∙ answers));
}

-- The response is told ------------------------------------------------------------------------------------------------

reason_of : {earlier messages : List Message} {request : Request} {turn now : State} {outcome : Outcome}
    → LeadsNow earlier messages request turn now (Part.Responds outcome)
    → Reason earlier messages request turn now outcome
reason_of (LeadsNow.same_target is l) = Reason.by_row is l
reason_of (LeadsNow.target_ended near gone is) = Reason.by_end near gone is

told_explained : {messages : List Message} {m : Machine} {hand : Hand} {rest : List Part} {request : Request}
    {outcome : Outcome} → Held messages m hand → IsAt m hand (Part.Responds outcome) rest
    → hand.item ≡ a_request request
    → IsExplained messages m (Message.tells (response_to request (outcome_told outcome m.state)))
told_explained {messages} {m} {hand} {rest} {request} {outcome} h at is =
    let o = h.in_order request is in
    record {
      earlier = h.earlier;
      since = h.since;
      request = request;
      answered = o.answered;
      others = o.others;
      turn = h.turn;
      outcome = outcome;
      messages_are = h.messages_are;
      heard = o.heard;
      in_turn = o.in_turn;
      none_told = h.none_told (ap has_response at.parts);
      began = h.began;
      begun = subst (λ (item : Item). h.turn.hand ≡ Some (in_hand item (parts_of h.turn.state item))) is h.begun;
      reason = reason_of (h.leads request is (Part.Responds outcome) (ap answer_part at.parts));
      told_is = refl;
    }

-- behind the response there is none
answered_held : {messages : List Message} {m next : Machine} {hand : Hand} {rest : List Part} (message : Message)
    (h : Held messages m hand) → has_response rest ≡ false → is_gone next.state.phase ≡ is_gone m.state.phase
    → is_aside message ≡ true → Held (messages ++ message ∷ []) next (record hand { parts = rest })
answered_held {messages} {m} {next} {hand} {rest} message h none same aside = held_on (message ∷ []) h (record {
  item = refl;
  phase = same;
  asked = λ near. AreAsked.aside message aside (h.asked near);
  silent = λ responds. let no : true ≡ false = sym responds ∙ none in cc;
  responds = λ responds. let no : true ≡ false = sym responds ∙ none in cc;
  leads = λ request item answer answers. let no : Some answer ≡ None = sym answers ∙ none_answers rest none in cc;
})

-- the word that nothing more comes of the target
ended_held : {messages : List Message} {m next : Machine} {hand : Hand} {rest : List Part} (message : Message)
    (h : Held messages m hand) → has_response rest ≡ false → is_gone next.state.phase ≡ true
    → Held (messages ++ message ∷ []) next (record hand { parts = rest })
ended_held {messages} {m} {next} {hand} {rest} message h none gone = record {
  earlier = h.earlier;
  since = h.since ++ message ∷ [];
  turn = h.turn;
  messages_are = ap (λ (all : List Message). all ++ message ∷ []) h.messages_are
      ∙ append_assoc h.earlier h.since (message ∷ []);
  began = h.began;
  begun = h.begun;
  asked = λ near. let no : true ≡ false = sym gone ∙ near in cc;
  none_told = λ responds. let no : true ≡ false = sym responds ∙ none in cc;
  stays_gone = λ was. gone;
  in_order = h.in_order;
  leads = λ request item answer answers. let no : Some answer ≡ None = sym answers ∙ none_answers rest none in cc;
}

-- The target ends -----------------------------------------------------------------------------------------------------

given_leads : {earlier messages : List Message} {turn now : State} (responds : Bool) (request : Request) (part : Part)
    → is_gone turn.phase ≡ false → is_gone now.phase ≡ true
    → answer_part (gone_parts responds (a_request request)) ≡ Some part
    → LeadsNow earlier messages request turn now part
given_leads true request part near gone is = LeadsNow.target_ended near gone is
given_leads false request part near gone is =
    let no : None ≡ Some part = sym (gone_tail_none (a_request request)) ∙ is in cc

not_yet : (was now : Bool) → (was ≡ true → now ≡ true) → now ≡ false → was ≡ false
not_yet true now stays near = sym (stays refl) ∙ near
not_yet false now stays near = refl

gone_responds : (responds : Bool) (item : Item) → has_response (gone_parts responds item) ≡ true → responds ≡ true
gone_responds responds item is = grind (arith, is)

given_held : (messages : List Message) (m next : Machine) (hand : Option Hand) (message : Message)
    → response_by message ≡ [] → is_gone m.state.phase ≡ false → is_gone next.state.phase ≡ true
    → HeldIn messages m hand → HeldIn (messages ++ message ∷ []) next (option_map given_up hand)
given_held messages m next None message silent near gone h = tt
given_held messages m next (Some hand) message silent near gone h = record {
  earlier = h.earlier;
  since = h.since ++ message ∷ [];
  turn = h.turn;
  messages_are = ap (λ (all : List Message). all ++ message ∷ []) h.messages_are
      ∙ append_assoc h.earlier h.since (message ∷ []);
  began = h.began;
  begun = h.begun;
  asked = λ still. let no : true ≡ false = sym gone ∙ still in cc;
  none_told = λ responds. both_none h.since (message ∷ [])
      (h.none_told (gone_responds (has_response hand.parts) hand.item responds)) (rw silent refl);
  stays_gone = λ was. gone;
  in_order = h.in_order;
  leads = λ request item part answers. given_leads (has_response hand.parts) request part
      (not_yet (is_gone h.turn.state.phase) (is_gone m.state.phase) h.stays_gone near) gone
      (ap (λ (item : Item). answer_part (gone_parts (has_response hand.parts) item)) (sym item) ∙ answers);
}

-- The induction -------------------------------------------------------------------------------------------------------

-- a look-up stands only where the target isn't gone
pub near_of : {messages : List Message} {m : Machine} {hand : Hand} {part : Part} {rest : List Part} → Run messages m
    → IsAt m hand part rest → (is_free part) ≡ false → is_gone m.state.phase ≡ false
near_of {messages} {m} {hand} {part} {rest} r at is =
    by_gone (is_gone m.state.phase) (whole free_once (tested free r) at)
  where
    by_gone : (gone : Bool) → free_once gone (part ∷ rest) ≡ true → gone ≡ false
    by_gone true h = let no : false ≡ true = grind (arith, is, h) in cc
    by_gone false h = refl

found_held : {messages : List Message} {m : Machine} {hand : Hand} {lookup : Lookup} {rest : List Part}
    (found : Need Finding) (h : Held messages m hand) → Run messages m → IsAt m hand (Part.Looks lookup) rest
    → found_for lookup m.state hand ≡ found → is_done found ≡ true
    → Held messages (left m hand (finished lookup (result_of found) m.state ++ rest))
    (record hand { parts = finished lookup (result_of found) m.state ++ rest })
found_held {messages} {m} {hand} {lookup} {rest} found h r at is done =
    let near = near_of r at refl in
    becomes (finished lookup (result_of found) m.state) (lookup_responds lookup) h at refl
    (finished_is lookup (result_of found) m.state).is
    (λ b request item answer answers l. LeadsNow.same_target (near_same near l)
    (Leads.by_lookup h.since [] m hand (no_later h) (near_leads near l)
    (in_hand_there request r at.in_hand near item h) (ap is_done is ∙ done)
    (ap (λ (found : Need Finding). answer_part (finished lookup (result_of found) m.state)) is ∙ answers)))

chosen_held : {messages : List Message} {m : Machine} {hand : Hand} {choice : Choice} {rest : List Part}
    (h : Held messages m hand) → Run messages m → IsAt m hand (Part.Unfolds choice) rest
    → Held messages (left m hand (chosen choice m.state hand ++ rest))
    (record hand { parts = chosen choice m.state hand ++ rest })
chosen_held {messages} {m} {hand} {choice} {rest} h r at =
    becomes (chosen choice m.state hand) (choice_responds choice) h at refl (chosen_is choice m.state hand).is
    (λ b request item answer answers l. let near = near_of r at (choice_near choice b) in
    LeadsNow.same_target (near_same near l)
    (Leads.by_choice h.since [] m hand (no_later h) (near_leads near l)
    (in_hand_there request r at.in_hand near item h) answers))

skipped_held : {messages : List Message} {m : Machine} {hand : Hand} {part : Part} {rest : List Part}
    (h : Held messages m hand) → IsAt m hand part rest → Skips m hand part
    → Held messages (left m hand rest) (record hand { parts = rest })
skipped_held {messages} {m} {hand} {part} {rest} h at (Skips.no_request is) = record {
  earlier = h.earlier;
  since = h.since;
  turn = h.turn;
  messages_are = h.messages_are;
  began = h.began;
  begun = h.begun;
  asked = h.asked;
  none_told = λ responds. h.none_told (ap has_response at.parts);
  stays_gone = h.stays_gone;
  in_order = h.in_order;
  leads = λ request item answer answers. let no : request ∷ [] ≡ [] = sym (ap request_in item) ∙ is in cc;
}
skipped_held {hand = hand} {rest = rest} h at _ =
    none_more (passed_on_held [] (record hand { parts = rest }) h at refl refl refl refl refl
    (λ near. asked_still h near))

told_event : {messages : List Message} {m : Machine} {hand : Hand} {rest : List Part} (event : Event)
    (h : Held messages m hand) → Run messages m → IsAt m hand (Part.Tells event) rest
    → Held (messages ++ Message.tells (an_event (event_told event (after_event event m.state))) ∷ [])
    (left (knowing m (after_event event m.state)) hand rest) (record hand { parts = rest })
told_event {hand = hand} {rest} Initialized h r at =
    passed_on_held _ (record hand { parts = rest }) h at refl (same_attached _) refl refl refl
    (λ near. asked_aside _ h refl near)
  where
    same_attached : (phase : Phase) → is_gone (attached_from phase) ≡ is_gone phase
    same_attached phase = grind arith
told_event {hand = hand} {rest} Terminated h r at =
    ended_held _ h (silent_behind (whole silent_last (tested silent_test r) at)) refl
  where
    silent_behind : last_silent (Part.Tells Terminated ∷ rest) ≡ true → has_response rest ≡ false
    silent_behind is = grind (arith, is)
told_event {hand = hand} {rest} _ h r at =
    passed_on_held _ (record hand { parts = rest }) h at refl refl refl refl refl (λ near. asked_aside _ h refl near)

one_response : {messages : List Message} {m : Machine} {hand : Hand} {outcome : Outcome} {rest : List Part}
    → Run messages m → IsAt m hand (Part.Responds outcome) rest → has_response rest ≡ false
one_response {rest = rest} r at = grind (arith, whole responds_once (tested once r) at)

explains_on : (messages : List Message) (m next : Machine) (said : Option Message) → Run messages m
    → Explains messages m → Moves m said next → Run (with_said messages said) next
    → Explains (with_said messages said) next
explains_on messages m next said r h (Moves.begins picked free none is) now =
    record { explained = h.explained; held = begun_held picked r none is now }
explains_on messages m next said r h (Moves.drops free is none) now =
    record { explained = h.explained; held = tt }
explains_on messages m next said r h (Moves.responds {hand} {rest} {request} {outcome} free at is) now = record {
  explained = AreExplained.response _ r (told_explained (held_of h at.in_hand) at is) h.explained;
  held = answered_held _ (held_of h at.in_hand) (one_response r at) (ap is_gone (same_numbered outcome m.state)) refl;
}
explains_on messages m next said r h (Moves.finds found free at needs done) now =
    record { explained = h.explained; held = found_held found (held_of h at.in_hand) r at needs done }
explains_on messages m next said r h (Moves.passes_over free at why) now =
    record { explained = h.explained; held = skipped_held (held_of h at.in_hand) at why }
explains_on messages m next said r h (Moves.tells {event = event} free at) now = record {
  explained = AreExplained.aside _ refl h.explained;
  held = told_event event (held_of h at.in_hand) r at;
}
explains_on messages m next said r h (Moves.sends {hand} {rest} {deed} free at near) now =
    let b = is_free_hand m hand free near at.in_hand in
    record {
      explained = AreExplained.aside _ refl h.explained;
      held = passed_on_held _ _ (held_of h at.in_hand) at refl refl refl refl refl
          (λ still. AreAsked.sends (Does deed) b.silent b.lands ((held_of h at.in_hand).asked near));
    }
explains_on messages m next said r h (Moves.updates {hand} {effect} {rest} free at is near) now =
    let b = is_free_hand m hand free near at.in_hand in
    record {
      explained = AreExplained.aside _ refl h.explained;
      held = same_held _ (held_of h at.in_hand) refl (sym at.parts) refl refl
          (λ still. AreAsked.sends effect b.silent b.lands ((held_of h at.in_hand).asked near));
    }
explains_on messages m next said r h (Moves.notes {hand} {note} {rest} free at) now = record {
  explained = h.explained;
  held = none_more (passed_on_held [] _ (held_of h at.in_hand) at refl (ap is_gone (same_noted note m.state)) refl refl
      refl (λ near. asked_still (held_of h at.in_hand) near));
}
explains_on messages m next said r h (Moves.unfolds free at) now =
    record { explained = h.explained; held = chosen_held (held_of h at.in_hand) r at }
explains_on messages m next said r h (Moves.queues {hand} free is) now =
    record { explained = h.explained; held = requeued (held_of h is) refl refl refl refl refl }
explains_on messages m next said r h (Moves.asks {hand} {want} {wants = others} free room is are) now =
    let (near, lands) = near_asks m hand free is in
    record {
      explained = AreExplained.aside _ refl h.explained;
      held = subst (λ (held : Option Hand). HeldIn (messages ++ Message.sends (a_question (question_of want)) ∷ [])
          (asked_now m want) (option_map (asked_hand want) held)) (sym is)
          (same_held _ (held_of h is) refl refl refl refl
          (λ still. AreAsked.asks want (next_new m hand want others (always_kept r) is are) lands
          ((held_of h is).asked near)));
    }
explains_on messages m next said r h (Moves.answers {question} {replied} {hand} is waits reply stays) now = record {
  explained = AreExplained.aside _ refl h.explained;
  held = subst (λ (held : Option Hand). HeldIn (messages ++ Message.answers (a_question question) replied ∷ [])
      (replied_machine m (a_question question) replied) (option_map (hand_replied (a_question question) replied) held))
      (sym is)
      (same_held _ (held_of h is) refl refl (ap is_gone (same_replied (a_question question) replied m.state)) refl
      (λ still. AreAsked.answers question replied waits ((held_of h is).asked still)));
}
explains_on messages m next said r h (Moves.replies {effect} {replied} {hand} is flying reply stays) now = record {
  explained = AreExplained.aside _ refl h.explained;
  held = subst (λ (held : Option Hand). HeldIn (messages ++ Message.answers (an_effect effect) replied ∷ [])
      (replied_machine m (an_effect effect) replied) (option_map (hand_replied (an_effect effect) replied) held))
      (sym is)
      (same_held _ (held_of h is) refl refl refl refl
      (λ still. AreAsked.replies effect replied (subst (λ (doing : Option Doing). AreAsked
      (held_of h is).since hand.asked doing)
      flying ((held_of h is).asked still))));
}
explains_on messages m next said r h (Moves.late {command} before after is reply) now = record {
  explained = AreExplained.aside _ refl h.explained;
  held = same_all messages m next m.hand _ refl refl
      (λ near. let no : true ≡ false = sym (late_gone m before after command (no_late r) is) ∙ near in cc) h.held;
}
explains_on messages m next said r h (Moves.loses {message} late near why) now = record {
  explained = AreExplained.aside message (loss_aside why) h.explained;
  held = given_held messages m next m.hand message (loss_silent why).1 near refl h.held;
}
explains_on messages m next said r h _ now = record {
  explained = AreExplained.aside _ refl h.explained;
  held = same_all messages m next m.hand _ refl refl (λ still. refl) h.held;
}

explaining : {messages : List Message} {m : Machine} → Run messages m → Explains messages m
explaining r = by_runs {Holds = Explains} (record {
  starts = record { explained = AreExplained.none; held = tt };
  moves = λ messages m next said before h moved now. explains_on messages m next said before h moved now;
  queues = λ messages m hand queue before may h.
      record { explained = h.explained; held = requeued h.held refl refl refl refl refl };
}) r

pub are_explained : (messages : List Message) (m : Machine) → Run messages m → AreExplained messages
are_explained messages m r = (explaining r).explained

-- the messages before the turn of the request in hand, and those since then, by which this was asked for it
pub record IsAsked (messages : List Message) (hand : Hand) (request : Request) : Type 0 where
  pub earlier : List Message
  pub since : List Message
  pub messages_are : messages ≡ earlier ++ since
  pub in_order : InOrder earlier request
  pub none_told : responses_of since ≡ []
  pub asked : AreAsked since hand.asked hand.effect

pub asked_since : {messages : List Message} {m : Machine} {hand : Hand} {request : Request} → Run messages m
    → is_gone m.state.phase ≡ false → m.hand ≡ Some hand → hand.item ≡ a_request request
    → has_response hand.parts ≡ true → IsAsked messages hand request
asked_since {request = request} r near is item responds = let h = held_of (explaining r) is in record {
  earlier = h.earlier;
  since = h.since;
  messages_are = h.messages_are;
  in_order = h.in_order request item;
  none_told = h.none_told responds;
  asked = h.asked near;
}
