-- Each frame's id in a command was read in the stop in hand: what holds of the frames that stand in the machine, by
-- number, in the parts of the item in hand, and in what was asked for it.
use Rattle.std.proofs.Common.{◌≡◌, ◌⊎◌, inl, inr, Bool, true, false, List, [], ◌∷◌, ◌++◌, Option, Some, None, refl, sym}
use Rattle.std.proofs.Common.{subst, ◌∙◌}
use Rattle.std.specs.List.{AllByRecursion as All, Contains}
use Rattle.std.proofs.lemmas.List.Elements.{Contains-get_or, recursion_from_All}
use Rattle.machine_model.specs.Due.{after_deed, sent}
use Rattle.machine_model.specs.Ids.{AreOfStop, HasReadIds, Id, WasRead, WasReadInStop, frame, ids_asked, ids_given}
use Rattle.machine_model.specs.Ids.{no_thread, thread_of}
use Rattle.machine_model.specs.ReferenceNumbers.{ends_stop}
use Rattle.machine_model.specs.Replying.{wire}
use Rattle.machine_model.specs.Runs.{Message, Run}
use Rattle.machine_model.specs.State.{Hand, Machine, is_gone, knowing, numbers_over}
use Rattle.machine_model.proofs.IdRows.{all_weak}
use Rattle.machine_model.proofs.PlanIds.{OfThing}
use Rattle.machine_steps.specs.Names.{Does, Part, Resume, TargetCommand, an_effect, of_stop}
use Rattle.machine_steps.proofs.Frameless.{composite_free, effect_free, is_frame, reply_free}
use Rattle.machine_steps.proofs.IdLaws.{WasReadOnce, ids_were_read, last_or_not, none_yet, sends_may, weak_kept}
use Rattle.machine_steps.proofs.IdLaws.{weak_thing}
use Rattle.machine_steps.proofs.RequestSteps.{near_before}
use Rattle.machine_steps.proofs.Standing.{IsKept, ids_said}
use Rattle.machine_steps.proofs.StandingReplies.{not_empty}
use Rattle.machine_steps.proofs.StandingWalk.{kept_on}
use Rattle.machine_steps.proofs.StandingReplies.{anew_kept}
use Rattle.machine_steps.proofs.Stepping.{IsAt, Moves, by_runs, with_said}
use Rattle.machine_laws.proofs.StopHands.{asked_none, calm_reply}
use Rattle.machine_laws.proofs.StopParts.{bare_parts}
use Rattle.machine_laws.proofs.StopTurns.{Turns, says_end, turns}
use Rattle.machine_steps.proofs.ThingIds.{AreThings, things_on}
use Rattle.machine_laws.proofs.FrameTests.{IsOfStop, begun_now, free, grows, items_free, longer, near_free, read_now}

-- The invariant -------------------------------------------------------------------------------------------------------

-- a stop is in hand by these messages
record IsBegun (messages : List Message) : Type 0 where
  since : List Message
  of_stop : AreOfStop messages since

record Framed (messages : List Message) (m : Machine) : Type 0 where
  kept : IsKept (IsOfStop m.state.stopped messages) messages m
  things : is_gone m.state.phase ≡ false → AreThings (IsOfStop m.state.stopped messages) m.state.numbers
  begun : m.state.stopped ≡ true → IsBegun messages

-- outside a stop nothing that comes has frames
given_free : {messages : List Message} {m next : Machine} {said : Option Message} (P : Id → Type 0)
    → ((id : Id) → is_frame id ≡ false → P id) → Run messages m → Framed messages m → Moves m said next
    → is_gone next.state.phase ≡ false → m.state.stopped ≡ false → All P (ids_said said)
given_free {m = m} {next} {said} P free r h (Moves.answers {question} {replied} is waits reply last) near running =
    reply_free P free (thread_of question) question replied reply
    (calm_reply question r is waits (near_before m next said (Moves.answers is waits reply last) near) running)
given_free P free r h (Moves.replies {effect} {replied} is flying reply last) near running =
    effect_free P free no_thread effect replied reply
given_free P free r h (Moves.late before after is reply) near running =
    absurd (not_empty before _ after (sym (h.kept.none_late near) ∙ is))
given_free P free r h (Moves.loses late away why) near running = let no : true ≡ false = near in cc
given_free P free r h (Moves.comes {composite = composite} read sized taken) near running =
    composite_free P free composite
given_free P free r h (Moves.reads {composite = composite} before after read is none taken) near running =
    composite_free P free composite
given_free P free r h _ near running = tt

-- and in a stop what comes is of the stop
given_now : {messages since : List Message} (message : Message) (stopped : Bool) → stopped ≡ true
    → ends_stop message ≡ false → AreOfStop messages since
    → All (IsOfStop stopped (messages ++ message ∷ [])) (ids_given message)
given_now {messages} message stopped is on h =
    all_weak (Contains (ids_given message)) (IsOfStop stopped (messages ++ message ∷ [])) each (ids_given message)
    (recursion_from_All (Contains (ids_given message)) (ids_given message)
    (λ place id less. Contains-get_or (ids_given message) place id less))
  where
    each : (id : Id) → Contains (ids_given message) id → IsOfStop stopped (messages ++ message ∷ []) id
    each (frame thread id) among = (is, read_now message (frame thread id) on h among)
    each _ among = tt

brought_on : {messages : List Message} {m next : Machine} (said : Option Message) → Run messages m → Framed messages m
    → Moves m said next → next.state.stopped ≡ m.state.stopped → says_end said ≡ false → (stopped : Bool)
    → m.state.stopped ≡ stopped → is_gone next.state.phase ≡ false
    → All (IsOfStop next.state.stopped (with_said messages said)) (ids_said said)
brought_on None r h moved same on stopped is near = tt
brought_on {messages} {m} {next} (Some message) r h moved same on true is near =
    given_now message next.state.stopped (same ∙ is) on (h.begun is).of_stop
brought_on {messages} {m} {next} (Some message) r h moved same on false is near =
    given_free (IsOfStop next.state.stopped (messages ++ message ∷ []))
    (free next.state.stopped (messages ++ message ∷ [])) r h moved near is

-- The moves -----------------------------------------------------------------------------------------------------------

-- the stop goes on, or one begins
goes_kept : {messages : List Message} {m next : Machine} (said : Option Message) → Framed messages m → Moves m said next
    → (m.state.stopped ≡ true → next.state.stopped ≡ true) → says_end said ≡ false
    → (is_gone next.state.phase ≡ false → All (IsOfStop next.state.stopped (with_said messages said)) (ids_said said))
    → (next.state.stopped ≡ true → IsBegun (with_said messages said)) → Framed (with_said messages said) next
goes_kept {messages} {m} {next} said h moved up on brought begun = record {
  kept = kept_on messages m next said tt (λ near. items_free next.state.stopped now m (things_now near)) kept_now moved brought;
  things = λ near. things_on Q messages m next said (things_now (near_before m next said moved near)) kept_now near moved;
  begun = begun;
}
  where
    now : List Message
    now = with_said messages said

    Q : Id → Type 0
    Q = IsOfStop next.state.stopped now

    k : (id : Id) → IsOfStop m.state.stopped messages id → Q id
    k = grows messages said m.state.stopped next.state.stopped up on

    kept_now : IsKept Q messages m
    kept_now = weak_kept (IsOfStop m.state.stopped messages) Q k messages m h.kept

    things_now : is_gone m.state.phase ≡ false → AreThings Q m.state.numbers
    things_now near = all_weak (OfThing (IsOfStop m.state.stopped messages)) (OfThing Q)
        (weak_thing (IsOfStop m.state.stopped messages) Q k) m.state.numbers.things (h.things near)

-- the target is gone, and nothing more is asked of it
gone_kept : {messages : List Message} {m next : Machine} (said : Option Message) → Framed messages m → Moves m said next
    → is_gone next.state.phase ≡ true → next.state.stopped ≡ false → Framed (with_said messages said) next
gone_kept {messages} {m} {next} said h moved gone running = record {
  kept = record {
    once = k.once;
    sizes = k.sizes;
    none_late = k.none_late;
    near = λ near. absurd (not_near near);
  };
  things = λ near. absurd (not_near near);
  begun = λ is. absurd (let no : true ≡ false = sym is ∙ running in cc);
}
  where
    not_near : is_gone next.state.phase ≡ false → ⊥
    not_near near = let no : true ≡ false = sym gone ∙ near in cc

    k : IsKept (IsOfStop m.state.stopped messages) (with_said messages said) next
    k = kept_on messages m next said tt (λ near. items_free m.state.stopped messages m (h.things near)) h.kept moved
        (λ near. absurd (not_near near))

-- the stop is over: nothing is left of it
ended_kept : {messages : List Message} {m : Machine} {hand : Hand} {rest : List Part} → Run messages m
    → Framed messages m → IsAt m hand (Part.Sends (Resume of_stop)) rest
    → Moves m (Some (Message.sends (an_effect (Does (Resume of_stop)))))
    (sent (knowing m (after_deed (Resume of_stop) m.state)) hand rest (Does (Resume of_stop)))
    → Framed (messages ++ Message.sends (an_effect (Does (Resume of_stop))) ∷ [])
    (sent (knowing m (after_deed (Resume of_stop) m.state)) hand rest (Does (Resume of_stop)))
ended_kept {messages} {m} {hand} {rest} r h at moved = let none = asked_none r at refl in record {
  kept = record {
    once = k.once;
    sizes = k.sizes;
    none_late = k.none_late;
    near = λ near. near_free false now (IsOfStop m.state.stopped messages) next.state rest hand.queue hand.asked
        (bare_parts r at refl) none.0 none.1 (k.near near);
  };
  things = λ near. by_stop m.state.stopped (h.things near);
  begun = λ is. cc;
}
  where
    now : List Message
    now = messages ++ Message.sends (an_effect (Does (Resume of_stop))) ∷ []

    next : Machine
    next = sent (knowing m (after_deed (Resume of_stop) m.state)) hand rest (Does (Resume of_stop))

    k : IsKept (IsOfStop m.state.stopped messages) now next
    k = kept_on messages m next (Some (Message.sends (an_effect (Does (Resume of_stop))))) tt
        (λ near. items_free m.state.stopped messages m (h.things near)) h.kept moved (λ near. tt)

    by_stop : (stopped : Bool) → AreThings (IsOfStop stopped messages) m.state.numbers
        → AreThings (IsOfStop false now) (numbers_over stopped m.state.numbers)
    by_stop true things = tt
    by_stop false things = all_weak (OfThing (IsOfStop false messages)) (OfThing (IsOfStop false now))
        (weak_thing (IsOfStop false messages) (IsOfStop false now) never) m.state.numbers.things things
      where
        never : (id : Id) → IsOfStop false messages id → IsOfStop false now id
        never (frame thread id) h = let no : false ≡ true = h.0 in cc
        never _ h = tt

framed_on : {messages : List Message} {m next : Machine} {said : Option Message} → Run messages m → Framed messages m
    → Moves m said next → Turns m said next → Framed (with_said messages said) next
framed_on {messages} {m} {next} {said} r h moved (Turns.goes_on same on) =
    goes_kept said h moved (λ is. same ∙ is) on (brought_on said r h moved same on m.state.stopped refl)
    (λ is. still said on (h.begun (sym same ∙ is)))
  where
    still : (said : Option Message) → says_end said ≡ false → IsBegun messages → IsBegun (with_said messages said)
    still None on b = b
    still (Some message) on b = record { since = b.since ++ message ∷ []; of_stop = longer message on b.of_stop }
framed_on {messages} {m} {next} r h moved (Turns.begins {message} is begins on none) =
    goes_kept (Some message) h moved (λ any. is) on
    (λ near. subst (λ (ids : List Id). All (IsOfStop next.state.stopped (messages ++ message ∷ [])) ids) (sym none) tt)
    (λ any. record { since = []; of_stop = begun_now messages message begins })
framed_on r h moved (Turns.ends at) = ended_kept r h at moved
framed_on {said = said} r h moved (Turns.loses gone running) = gone_kept said h moved gone running

framed : {messages : List Message} {m : Machine} → Run messages m → Framed messages m
framed r = by_runs {Holds = Framed} (record {
  starts = record { kept = none_yet (IsOfStop false []); things = λ near. tt; begun = λ is. cc };
  moves = λ messages m next said before h moved after. framed_on before h moved (turns m next said moved);
  queues = λ messages m hand queue before may h. record {
    kept = anew_kept m hand tt may h.kept;
    things = h.things;
    begun = h.begun;
  };
}) r

-- The law -------------------------------------------------------------------------------------------------------------

-- a frame was read in the stop in hand
abbrev OfStop : List Message → Id → Type 0
OfStop messages (frame thread id) = WasReadInStop messages (frame thread id)
OfStop messages _ = Unit {0}

-- what was sent up to here
record AllSent (messages : List Message) (m : Machine) : Type 0 where
  all : (before after : List Message) (command : TargetCommand) → messages ≡ before ++ Message.sends command ∷ after
      → All (OfStop before) (ids_asked (wire command))

sent_now : {messages : List Message} {m next : Machine} (command : TargetCommand) → Run messages m
    → Moves m (Some (Message.sends command)) next → All (OfStop messages) (ids_asked (wire command))
sent_now {messages} {m} command r moved = all_weak (IsOfStop m.state.stopped messages) (OfStop messages) each
    (ids_asked (wire command)) (sends_may command tt (framed r).kept moved).1.ids
  where
    each : (id : Id) → IsOfStop m.state.stopped messages id → OfStop messages id
    each (frame thread id) h = h.1
    each _ h = tt

sent_on : (messages : List Message) (m next : Machine) (said : Option Message) → Run messages m → AllSent messages m
    → Moves m said next → AllSent (with_said messages said) next
sent_on messages m next None r h moved = record { all = h.all }
sent_on messages m next (Some message) r h moved = record { all = more }
  where
    more : (before after : List Message) (command : TargetCommand)
        → messages ++ message ∷ [] ≡ before ++ Message.sends command ∷ after
        → All (OfStop before) (ids_asked (wire command))
    more before after command is = by_place (last_or_not messages message (Message.sends command) before after is)
      where
        by_place : ((messages ≡ before) × (message ≡ Message.sends command))
            ⊎ ((rest : List Message) × (messages ≡ before ++ Message.sends command ∷ rest))
            → All (OfStop before) (ids_asked (wire command))
        by_place (inl (same, it)) =
            subst (λ (earlier : List Message). All (OfStop earlier) (ids_asked (wire command))) same
            (sent_now command r (subst (λ (message : Message). Moves m (Some message) next) it moved))
        by_place (inr (rest, earlier)) = h.all before rest command earlier

frames_sent : {messages : List Message} {m : Machine} → Run messages m → AllSent messages m
frames_sent r = by_runs {Holds = AllSent} (record {
  starts = record { all = none_sent };
  moves = λ messages m next said before h moved after. sent_on messages m next said before h moved;
  queues = λ messages m hand queue before may h. record { all = h.all };
}) r
  where
    none_sent : (before after : List Message) (command : TargetCommand) → [] ≡ before ++ Message.sends command ∷ after
        → All (OfStop before) (ids_asked (wire command))
    none_sent [] after command is = cc
    none_sent (first ∷ before) after command is = cc

one_read : (messages : List Message) (id : Id) → WasReadOnce messages id → OfStop messages id → WasRead messages id
one_read messages (frame thread id) once now = inr now
one_read messages _ once now = once

all_read : (messages : List Message) (ids : List Id) → All (WasReadOnce messages) ids → All (OfStop messages) ids
    → All (WasRead messages) ids
all_read messages [] once now = tt
all_read messages (id ∷ ids) once now = (one_read messages id once.0 now.0, all_read messages ids once.1 now.1)

pub commands_read : (messages before after : List Message) (m : Machine) (command : TargetCommand) → Run messages m
    → messages ≡ before ++ Message.sends command ∷ after → HasReadIds before command
commands_read messages before after m command r is = all_read before (ids_asked (wire command))
    (ids_were_read messages before after m command r is) ((frames_sent r).all before after command is)
