-- What the item in hand does in a stop: frames are asked for in a stop alone, and an item that ends the stop has asked
-- nothing.
use Rattle.std.proofs.Common.{◌≡◌, Bool, true, false, cond, ◌||◌, List, [], ◌∷◌, ◌++◌, Option, Some, None, refl, sym}
use Rattle.std.proofs.Common.{ap, subst, ◌∙◌, arith, option_map, ℕ}
use Rattle.std.specs.List.{AllByRecursion as All}
use Rattle.machine_model.specs.Due.{asked_hand, behind_first, lacked_by, newly_lacked, stopped_by, with_wants}
use Rattle.machine_model.specs.Lookups.{finished}
use Rattle.machine_model.specs.Outcomes.{result_of}
use Rattle.machine_model.specs.Plans.{Result, asks_for, question_of}
use Rattle.machine_model.specs.Replying.{filled, given_up, hand_replied, is_failed, is_waiting, unless_failed}
use Rattle.machine_model.specs.Replying.{waits_for}
use Rattle.machine_model.specs.Rows.{chosen, news_of, noted, parts_of, refused_with, stepped_by}
use Rattle.machine_model.specs.Runs.{MayQueue, Message, Run}
use Rattle.machine_model.specs.State.{Hand, Machine, State, is_gone, is_none}
use Rattle.machine_model.specs.Telling.{after_event, numbered_by}
use Rattle.machine_model.proofs.IdRows.{all_joined}
use Rattle.machine_model.proofs.KeyLaws.{is_one}
use Rattle.machine_steps.specs.Names.{Choice, Decides, Deed, Event, Finding, Initialized, Item, Lookup, Part, Phase}
use Rattle.machine_steps.specs.Names.{Judges, Logged}
use Rattle.machine_steps.specs.Names.{Question, Replied, Resume, Sent, Suspend, TellsNews, Want, a_question, an_effect}
use Rattle.machine_steps.specs.Names.{of_stop, Stepped, some_news}
use Rattle.machine_laws.proofs.BindingPlans.{asks}
use Rattle.machine_steps.proofs.Frameless.{asks_frames, asks_stack, no_frames}
use Rattle.machine_steps.proofs.HoldingParts.{numbered_stop, same_stop}
use Rattle.machine_steps.proofs.Standing.{asked_in, queue_in}
use Rattle.machine_steps.proofs.Stepping.{IsAt, Moves, all_to_ask, by_runs, none_to_ask}
use Rattle.machine_steps.proofs.Tables.{decided_alike, told_alike, judged_alike}
use Rattle.machine_steps.proofs.Testing.{Passed, passed, same_noted, same_numbered, same_replied, tested}
use Rattle.machine_laws.proofs.StopParts.{IsCalm, IsCalmSent, are_bare, bare_ends, bare_parts, bare_test, ends_ahead}
use Rattle.machine_laws.proofs.StopParts.{ends_one, frames_ahead, lacked_calm, lacked_none, looks_frames, taken_calm}
use Rattle.machine_laws.proofs.StepLaws.{noted_stop}
use Rattle.machine_steps.proofs.RequestSteps.{parts_left}

-- The invariant -------------------------------------------------------------------------------------------------------

record Calm (parts : List Part) (queue : List Want) (asked : List Sent) : Type 0 where
  looks : frames_ahead parts ≡ false
  wants : All IsCalm queue
  sent : All IsCalmSent asked

-- an item that ends the stop has asked nothing; and outside a stop frames aren't asked for
record Quiet (state : State) (parts : List Part) (queue : List Want) (asked : List Sent) : Type 0 where
  idle : ends_ahead parts ≡ true → (queue ≡ []) × (asked ≡ [])
  calm : is_gone state.phase ≡ false → state.stopped ≡ false → Calm parts queue asked

abbrev QuietHand : State → Option Hand → Type 0
QuietHand state hand = Quiet state (parts_left hand) (queue_in hand) (asked_in hand)

abbrev IsQuiet : Machine → Type 0
IsQuiet m = QuietHand m.state m.hand

in_front : {m : Machine} {hand : Hand} {part : Part} {rest : List Part} → IsQuiet m → IsAt m hand part rest
    → Quiet m.state (part ∷ rest) hand.queue hand.asked
in_front {m} {hand} q at = subst (λ (parts : List Part). Quiet m.state parts hand.queue hand.asked) at.parts
    (subst (λ (held : Option Hand). QuietHand m.state held) at.in_hand q)

-- none of both
none_of : (first others : Bool) → cond first true others ≡ false → others ≡ false
none_of first others is = grind (arith, is)

-- what is left of the parts, in a stop where one was, and not in one where none was
behind : {state : State} {part : Part} {rest : List Part} {queue : List Want} {asked : List Sent} (next : State)
    → Quiet state (part ∷ rest) queue asked
    → (is_gone next.phase ≡ false → next.stopped ≡ false → (is_gone state.phase ≡ false) × (state.stopped ≡ false))
    → Quiet next rest queue asked
behind {part = part} {rest} next q back = record {
  idle = λ ends. q.idle (more (ends_one part) (ends_ahead rest) ends);
  calm = λ near running. let was = back near running in let c = q.calm was.0 was.1 in record {
    looks = none_of (looks_frames part) (frames_ahead rest) c.looks;
    wants = c.wants;
    sent = c.sent;
  };
}
  where
    more : (first others : Bool) → others ≡ true → cond first true others ≡ true
    more first others is = grind (arith, is)

-- other parts stand in place of one
instead : {state : State} {part : Part} {rest : List Part} {queue : List Want} {asked : List Sent} (parts : List Part)
    → Quiet state (part ∷ rest) queue asked → (ends_ahead parts ≡ true → ends_ahead (part ∷ rest) ≡ true)
    → (frames_ahead (part ∷ rest) ≡ false → frames_ahead parts ≡ false) → Quiet state parts queue asked
instead parts q ends looks = record {
  idle = λ is. q.idle (ends is);
  calm = λ near running. let c = q.calm near running in
      record { looks = looks c.looks; wants = c.wants; sent = c.sent };
}

-- The moves -----------------------------------------------------------------------------------------------------------

begun_looks : (state : State) (item : Item) → state.stopped ≡ false → frames_ahead (parts_of state item) ≡ false
begun_looks state item is = grind (arith, is)

chosen_ends : (choice : Choice) (state : State) (hand : Hand) (rest : List Part)
    → ends_ahead (chosen choice state hand ++ rest) ≡ true → ends_ahead (Part.Unfolds choice ∷ rest) ≡ true
chosen_ends (TellsNews below) state hand rest is =
    sym (told_alike ends_ahead (λ news parts. refl) state.phase (news_of below state hand.item) rest) ∙ is
chosen_ends Judges state hand rest is =
    sym (judged_alike ends_ahead (λ strikes parts. refl) state hand.item rest) ∙ is
chosen_ends (Decides logged stops) state hand rest is =
    sym (decided_alike ends_ahead (λ thrown parts. refl) (λ stopping parts. refl) (λ thread object parts. refl)
    (λ parts. refl) (λ parts. refl) (λ text texts strikes parts. refl) state logged stops hand.item rest) ∙ is
chosen_ends Stepped state hand rest is = refl
chosen_ends _ state hand rest is = grind (arith, is)

chosen_looks : (choice : Choice) (state : State) (hand : Hand) (rest : List Part)
    → frames_ahead (Part.Unfolds choice ∷ rest) ≡ false → frames_ahead (chosen choice state hand ++ rest) ≡ false
chosen_looks (TellsNews below) state hand rest is =
    told_alike frames_ahead (λ news parts. refl) state.phase (news_of below state hand.item) rest ∙ is
chosen_looks Judges state hand rest is =
    judged_alike frames_ahead (λ strikes parts. refl) state hand.item rest ∙ is
chosen_looks (Decides logged stops) state hand rest is =
    decided_alike frames_ahead (λ thrown parts. refl) (λ stopping parts. refl) (λ thread object parts. refl)
    (λ parts. refl) (λ parts. refl) (λ text texts strikes parts. refl) state logged stops hand.item rest ∙ is
chosen_looks Stepped state hand rest is = by_code (refused_with hand.effect)
  where
    by_code : (code : Option ℕ) → frames_ahead (stepped_by code ++ rest) ≡ false
    by_code code = grind arith
chosen_looks _ state hand rest is = grind (arith, is)

found_ends : (lookup : Lookup) (result : Result Finding) (state : State) (rest : List Part)
    → ends_ahead (finished lookup result state ++ rest) ≡ ends_ahead rest
found_ends lookup result state rest = grind arith

found_looks : (lookup : Lookup) (result : Result Finding) (state : State) (rest : List Part)
    → frames_ahead (finished lookup result state ++ rest) ≡ frames_ahead rest
found_looks lookup result state rest = grind arith

was_running : (event : Event) (state : State) → is_gone (after_event event state).phase ≡ false
    → (after_event event state).stopped ≡ false → (is_gone state.phase ≡ false) × (state.stopped ≡ false)
was_running Initialized state near running = (by_phase state.phase near, running)
  where
    by_phase : (phase : Phase) → is_gone (after_event Initialized (record state { phase = phase })).phase ≡ false
        → is_gone phase ≡ false
    by_phase phase near = grind (arith, near)
was_running (some_news news) state near running = (near, running)
was_running (Logged text) state near running = (near, running)
was_running _ state near running = cc

noted_running : (state now : State) → now.phase ≡ state.phase → now.stopped ≡ state.stopped
    → is_gone now.phase ≡ false → now.stopped ≡ false → (is_gone state.phase ≡ false) × (state.stopped ≡ false)
noted_running state now phase stopped near running = (ap is_gone (sym phase) ∙ near, sym stopped ∙ running)

-- behind the end of a stop nothing of it is left
ended : {state : State} {rest : List Part} {queue : List Want} {asked : List Sent} (next : State)
    → Quiet state (Part.Sends (Resume of_stop) ∷ rest) queue asked → are_bare rest ≡ true → Quiet next rest queue asked
ended {rest = rest} {queue} {asked} next q bare = let none = q.idle refl in record {
  idle = λ ends. none;
  calm = λ near running. record {
    looks = bare_looks rest bare;
    wants = subst (λ (wants : List Want). All IsCalm wants) (sym none.0) tt;
    sent = subst (λ (sent : List Sent). All IsCalmSent sent) (sym none.1) tt;
  };
}
  where
    bare_looks : (parts : List Part) → are_bare parts ≡ true → frames_ahead parts ≡ false
    bare_looks [] is = refl
    bare_looks (part ∷ parts) is = grind (arith, is, bare_looks parts)

sent_on : (m : Machine) {rest : List Part} (hand : Hand) (deed : Deed)
    → Quiet m.state (Part.Sends deed ∷ rest) hand.queue hand.asked → (ends_one (Part.Sends deed) ≡ true → are_bare rest ≡ true) → (next : State) → next.phase ≡ m.state.phase
    → next.stopped ≡ stopped_by deed m.state.stopped → Quiet next rest hand.queue hand.asked
sent_on m hand (Resume of_stop) q bare next phase stopped = ended next q (bare refl)
sent_on m hand Suspend q bare next phase stopped =
    behind next q (λ near running. absurd (let no : true ≡ false = sym stopped ∙ running in cc))
sent_on m hand _ q bare next phase stopped = behind next q (noted_running m.state next phase stopped)

filled_calm : (question : Question) (replied : Replied) (asked : List Sent) → All IsCalmSent asked
    → All IsCalmSent (filled question replied asked)
filled_calm question replied [] h = tt
filled_calm question replied (sent ∷ asked) h = by_test (waits_for sent question) (filled_calm question replied asked h.1)
  where
    by_test : (waits : Bool) → All IsCalmSent (filled question replied asked)
        → All IsCalmSent (cond waits (record sent { reply = Some replied } ∷ asked) (sent ∷ filled question replied asked))
    by_test true rest = h
    by_test false rest = (h.0, rest)

unless_calm : (failed : Bool) (queue : List Want) → All IsCalm queue → All IsCalm (unless_failed failed queue)
unless_calm true queue h = tt
unless_calm false queue h = h

unless_none : (failed : Bool) (queue : List Want) → queue ≡ [] → unless_failed failed queue ≡ []
unless_none failed queue is = grind (arith, is)

-- a question is replied to
answered_on : {state : State} {parts : List Part} {queue : List Want} {asked : List Sent} (question : Question)
    (replied : Replied) (failed : Bool) (next : State) → Quiet state parts queue asked → next.phase ≡ state.phase
    → next.stopped ≡ state.stopped → Quiet next parts (unless_failed failed queue) (filled question replied asked)
answered_on {state} {queue = queue} {asked} question replied failed next q phase stopped = record {
  idle = λ ends. let none = q.idle ends in
      (unless_none failed queue none.0, ap (filled question replied) none.1);
  calm = λ near running. let was = noted_running state next phase stopped near running in
      let c = q.calm was.0 was.1 in record {
        looks = c.looks;
        wants = unless_calm failed queue c.wants;
        sent = filled_calm question replied asked c.sent;
      };
}

-- the first of what is to be asked is asked
asked_on : {state : State} {parts : List Part} {want : Want} {wants : List Want} {asked : List Sent}
    → Quiet state parts (want ∷ wants) asked
    → Quiet state parts wants (asked ++ record { want = want; reply = None } ∷ [])
asked_on {want = want} {wants} {asked} q = record {
  idle = λ ends. let none : want ∷ wants ≡ [] = (q.idle ends).0 in cc;
  calm = λ near running. let c = q.calm near running in record {
    looks = c.looks;
    wants = c.wants.1;
    sent = all_joined IsCalmSent asked (record { want = want; reply = None } ∷ []) c.sent (c.wants.0, tt);
  };
}

all_bare : (ends bare : Bool) → ends ≡ true → cond ends bare true ≡ true → bare ≡ true
all_bare ends bare ended is = grind (arith, ended, is)

-- what is lacking is to be asked
queued_on : {state : State} (hand : Hand) → Quiet state hand.parts hand.queue hand.asked
    → bare_ends false hand.parts ≡ true → Quiet state hand.parts (newly_lacked state hand) hand.asked
unfolding newly_lacked
queued_on {state} hand q bare = record {
  idle = λ ends. (
    ap (with_wants hand.asked []) (lacked_none state hand hand.parts (all_bare (ends_ahead hand.parts) _ ends bare)),
    (q.idle ends).1,
  );
  calm = λ near running. let c = q.calm near running in record {
    looks = c.looks;
    wants = taken_calm hand.asked [] (lacked_by state hand hand.parts) tt (lacked_calm state hand hand.parts c.looks);
    sent = c.sent;
  };
}

-- what is to be asked is put anew
anew_on : {m : Machine} (hand : Hand) {queue : List Want} → MayQueue m hand queue
    → Quiet m.state hand.parts hand.queue hand.asked → bare_ends false hand.parts ≡ true
    → Quiet m.state hand.parts queue hand.asked
anew_on {m} hand may q bare = record {
  idle = λ ends. (
    none_to_ask may (lacked_none m.state hand hand.parts (all_bare (ends_ahead hand.parts) _ ends bare)),
    (q.idle ends).1,
  );
  calm = λ near running. let c = q.calm near running in record {
    looks = c.looks;
    wants = all_to_ask IsCalm may (lacked_calm m.state hand hand.parts c.looks);
    sent = c.sent;
  };
}

-- what is left of the item in hand is bare where it ends the stop
at_once : (m : Machine) {hand : Hand} → Passed bare_ends m → m.hand ≡ Some hand → bare_ends false hand.parts ≡ true
at_once m h is = subst (λ (held : Option Hand). passed bare_ends (is_gone m.state.phase) held ≡ true) is h

-- nothing is left of an item that is given up
given_on : (state : State) (hand : Option Hand) → is_gone state.phase ≡ true → QuietHand state (option_map given_up hand)
given_on state None gone = record { idle = λ ends. (refl, refl); calm = λ near. let no : true ≡ false = sym gone ∙ near in cc }
given_on state (Some hand) gone =
    record { idle = λ ends. (refl, refl); calm = λ near. let no : true ≡ false = sym gone ∙ near in cc }

same_hand : (state next : State) (hand : Option Hand) → next.phase ≡ state.phase → next.stopped ≡ state.stopped
    → QuietHand state hand → QuietHand next hand
same_hand state next hand phase stopped q = record {
  idle = q.idle;
  calm = λ near running. let was = noted_running state next phase stopped near running in q.calm was.0 was.1;
}

quiet_on : (messages : List Message) (m next : Machine) (said : Option Message) → Run messages m → IsQuiet m
    → Moves m said next → IsQuiet next
quiet_on messages m next said r q (Moves.begins picked free none is) = record {
  idle = λ ends. (refl, refl);
  calm = λ near running. record { looks = begun_looks m.state picked.item running; wants = tt; sent = tt };
}
quiet_on messages m next said r q (Moves.drops free is none) =
    record { idle = λ ends. (refl, refl); calm = λ near running. record { looks = refl; wants = tt; sent = tt } }
quiet_on messages m next said r q (Moves.responds {outcome = outcome} free at is) =
    behind (numbered_by outcome m.state) (in_front q at) (noted_running m.state (numbered_by outcome m.state)
    (same_numbered outcome m.state) (numbered_stop outcome m.state))
quiet_on messages m next said r q (Moves.finds {rest = rest} {lookup} found free at needs done) =
    instead (finished lookup (result_of found) m.state ++ rest) (in_front q at)
    (λ ends. sym (found_ends lookup (result_of found) m.state rest) ∙ ends)
    (λ none. found_looks lookup (result_of found) m.state rest ∙ none_of (looks_frames (Part.Looks lookup)) (frames_ahead rest) none)
quiet_on messages m next said r q (Moves.passes_over free at why) =
    behind m.state (in_front q at) (λ near running. (near, running))
quiet_on messages m next said r q (Moves.tells {event = event} free at) =
    behind (after_event event m.state) (in_front q at) (was_running event m.state)
quiet_on messages m next said r q (Moves.sends {hand} {deed = deed} free at near) =
    sent_on m hand deed (in_front q at) (bare_parts r at) next.state refl refl
quiet_on messages m next said r q (Moves.updates {rest = rest} free at is near) = in_front q at
quiet_on messages m next said r q (Moves.greets free at is near) = same_hand m.state next.state m.hand refl refl q
quiet_on messages m next said r q (Moves.notes {note = note} free at) =
    behind (noted note m.state) (in_front q at)
    (noted_running m.state (noted note m.state) (same_noted note m.state) (noted_stop note m.state))
quiet_on messages m next said r q (Moves.unfolds {hand} {choice} {rest} free at) =
    instead (chosen choice m.state hand ++ rest) (in_front q at) (chosen_ends choice m.state hand rest)
    (chosen_looks choice m.state hand rest)
quiet_on messages m next said r q (Moves.queues {hand} free is) =
    queued_on hand (subst (λ (held : Option Hand). QuietHand m.state held) is q) (at_once m (tested bare_test r) is)
quiet_on messages m next said r q (Moves.asks {hand} {want} {wants} free room is are) =
    subst (λ (held : Option Hand). QuietHand m.state (option_map (asked_hand want) held)) (sym is)
    (subst (λ (queue : List Want). Quiet m.state hand.parts (behind_first queue)
    (hand.asked ++ record { want = want; reply = None } ∷ [])) (sym are)
    (asked_on (subst (λ (queue : List Want). Quiet m.state hand.parts queue hand.asked) are
    (subst (λ (held : Option Hand). QuietHand m.state held) is q))))
quiet_on messages m next said r q (Moves.greeted read is) = same_hand m.state next.state m.hand refl refl q
quiet_on messages m next said r q (Moves.answers {question} {replied} {hand} is waits reply last) =
    subst (λ (held : Option Hand). QuietHand next.state (option_map (hand_replied (a_question question) replied) held))
    (sym is) (answered_on question replied (is_failed question replied hand.asked) next.state
    (subst (λ (held : Option Hand). QuietHand m.state held) is q) (same_replied (a_question question) replied m.state)
    (same_stop (a_question question) replied m.state))
quiet_on messages m next said r q (Moves.replies {effect} {replied} {hand} is flying reply last) =
    subst (λ (held : Option Hand). QuietHand next.state (option_map (hand_replied (an_effect effect) replied) held))
    (sym is) (same_hand m.state next.state (Some hand) (same_replied (an_effect effect) replied m.state)
    (same_stop (an_effect effect) replied m.state) (subst (λ (held : Option Hand). QuietHand m.state held) is q))
quiet_on messages m next said r q (Moves.loses late near why) = given_on next.state m.hand refl
quiet_on messages m next said r q _ = q

quiet : {messages : List Message} {m : Machine} → Run messages m → IsQuiet m
quiet r = by_runs {Holds = λ (messages : List Message) (m : Machine). IsQuiet m} (record {
  starts = record { idle = λ ends. (refl, refl); calm = λ near running. record { looks = refl; wants = tt; sent = tt } };
  moves = λ messages m next said before q moved after. quiet_on messages m next said before q moved;
  queues = λ messages m hand queue before may q. anew_on hand may q (at_once m (tested bare_test before) may.held);
}) r

-- What it says --------------------------------------------------------------------------------------------------------

-- an item that ends the stop has nothing to be asked, and has asked nothing
pub asked_none : {messages : List Message} {m : Machine} {hand : Hand} {part : Part} {rest : List Part} → Run messages m
    → IsAt m hand part rest → ends_one part ≡ true → (hand.queue ≡ []) × (hand.asked ≡ [])
asked_none {rest = rest} r at ends = (in_front (quiet r) at).idle (ap (λ (is : Bool). cond is true (ends_ahead rest)) ends)

-- a question that is replied to outside a stop asks for no frames
pub calm_reply : {messages : List Message} {m : Machine} {hand : Hand} (question : Question) → Run messages m
    → m.hand ≡ Some hand → is_waiting question hand.asked ≡ true → is_gone m.state.phase ≡ false
    → m.state.stopped ≡ false → asks_frames question ≡ false
calm_reply {m = m} {hand} question r is waits near running = no_frames question (by_asked hand.asked waits
    ((subst (λ (held : Option Hand). QuietHand m.state held) is (quiet r)).calm near running).sent)
  where
    by_asked : (asked : List Sent) → is_waiting question asked ≡ true → All IsCalmSent asked
        → asks_stack question ≡ false
    by_asked [] waits h = cc
    by_asked (sent ∷ asked) waits h =
        by_test (is_none sent.reply) (asks_for sent question) refl waits (λ later. by_asked asked later h.1)
      where
        by_test : (open_one asks : Bool) → asks_for sent question ≡ asks
            → (cond open_one asks false || is_waiting question asked) ≡ true
            → (is_waiting question asked ≡ true → asks_stack question ≡ false) → asks_stack question ≡ false
        by_test true true same waits rest =
            ap asks_stack (sym (is_one (question_of sent.want) question same)) ∙ h.0
        by_test _ _ same waits rest = rest waits
