-- Commands go behind both sides of the handshake.
use Rattle.std.proofs.Common.{◌≡◌, Bool, true, false, cond, ◌||◌, List, [], ◌∷◌, ◌++◌, Option, Some, None, refl}
use Rattle.std.proofs.Common.{◌∙◌, option_map, arith}
use Rattle.machine_model.specs.Due.{asked_by, greeted_by, lacked_by, newly_lacked, passes, with_wants}
use Rattle.machine_model.specs.Pending.{has_such, have_handshake, is_greeted, is_greets}
use Rattle.machine_model.specs.Replying.{given_up, hand_replied, is_failed, replied_machine, replied_to, unless_failed}
use Rattle.machine_model.specs.Rows.{chosen, gone_parts, has_response, parts_of}
use Rattle.machine_model.specs.Runs.{MayQueue, Message, to_ask}
use Rattle.machine_model.specs.State.{Hand, Machine, State, is_attached, is_empty, left}
use Rattle.machine_model.proofs.Bools.{second_more}
use Rattle.machine_steps.specs.Names.{Choice, Handshake, IdSizes, Initialized, Item, Part, Replied, TargetCommand, Want}
use Rattle.machine_steps.specs.Names.{a_question, an_effect, Sent, Stepped}
use Rattle.machine_steps.proofs.QuietLaws.{lacking_hand}
use Rattle.machine_steps.proofs.Testing.{same_replied}
use Rattle.machine_steps.proofs.Stepping.{IsAt, Moves, Skips, holds_hand, none_to_ask, of_hand, with_said, Loses}

-- Lists of parts ------------------------------------------------------------------------------------------------------

-- it sends commands, or attaches the session
abbrev needs : Part → Bool
needs (Part.Sends deed) = true
needs (Part.Looks lookup) = true
needs (Part.Awaits IdSizes) = true
needs Part.Updates = true
needs (Part.Tells Initialized) = true
needs (Part.Unfolds Stepped) = true
needs _ = false

abbrev pub is_handshake : Part → Bool
is_handshake (Part.Awaits Handshake) = true
is_handshake _ = false

-- what needs the target stands behind the handshake
abbrev behind_handshake : List Part → Bool
behind_handshake [] = true
behind_handshake (part ∷ parts) = cond (is_handshake part) true (cond (needs part) false (behind_handshake parts))

abbrev need_none : List Part → Bool
need_none [] = true
need_none (part ∷ parts) = cond (is_handshake part) false (cond (needs part) false (need_none parts))

begun_behind : (state : State) (item : Item) → is_attached state.phase ≡ false
    → behind_handshake (parts_of state item) ≡ true
begun_behind state item is = grind (arith, is)

chosen_none : (choice : Choice) (state : State) (hand : Hand) → is_attached state.phase ≡ false
    → needs (Part.Unfolds choice) ≡ false → need_none (chosen choice state hand) ≡ true
chosen_none choice state hand is free = grind (arith, is, free)

gone_behind : (responds : Bool) (item : Item) → behind_handshake (gone_parts responds item) ≡ true
gone_behind responds item = grind arith

behind_joined : (parts rest : List Part) → need_none parts ≡ true → behind_handshake rest ≡ true
    → behind_handshake (parts ++ rest) ≡ true
behind_joined [] rest none is = is
behind_joined (part ∷ parts) rest none is = grind (arith, none, behind_joined parts rest)

-- The invariant -------------------------------------------------------------------------------------------------------

abbrev pub has_handshake : State → Bool
has_handshake state = cond state.greeting_sent state.greeting_heard false

abbrev hand_behind : Option Hand → Bool
hand_behind None = true
hand_behind (Some hand) = cond (behind_handshake hand.parts) (is_empty hand.queue) false

abbrev behind_both : Bool → Bool → Bool → Bool
behind_both both attached behind = cond both true (cond attached false behind)

-- before the handshake the session isn't attached, and what needs the target stands behind it
abbrev pub IsBehind : Machine → Type 0
IsBehind m = behind_both (has_handshake m.state) (is_attached m.state.phase) (hand_behind m.hand) ≡ true

-- where a part needs the target, both sides of the handshake are there
pub both_there : (m : Machine) (hand : Hand) (part : Part) (rest : List Part) → IsBehind m → IsAt m hand part rest
    → is_handshake part ≡ false → needs part ≡ true → has_handshake m.state ≡ true
both_there m hand part rest h at other is = grind (arith, h, at.in_hand, at.parts, other, is)

pub both_queued : (m : Machine) (hand : Hand) (want : Want) (wants : List Want) → IsBehind m → m.hand ≡ Some hand
    → hand.queue ≡ want ∷ wants → has_handshake m.state ≡ true
both_queued m hand want wants h is are = grind (arith, h, is, are)

-- what lacks anything needs the target
lacks_there : (both : Bool) (state : State) (hand : Hand) (parts : List Part) → hand.parts ≡ parts
    → behind_both both false (behind_handshake hand.parts) ≡ true
    → is_empty (lacked_by state hand parts) ≡ false → both ≡ true
lacks_there both state hand (Part.Looks lookup ∷ rest) are h lacks = grind (arith, are, h)
lacks_there both state hand (Part.Awaits Handshake ∷ rest) are h lacks =
    never state.greeting_sent state.greeting_heard lacks
  where
    never : (sent heard : Bool) → is_empty (asked_by (greeted_by sent heard)) ≡ false → both ≡ true
    never sent heard lacks = grind (arith, lacks)
lacks_there both state hand (Part.Awaits IdSizes ∷ rest) are h lacks = grind (arith, are, h)
lacks_there both state hand _ are h lacks = cc

-- once both sides are there, all is well
pub behind_true : (both attached behind : Bool) → both ≡ true → behind_both both attached behind ≡ true
behind_true both attached behind is = rw is refl

now_behind : (next : Machine) → has_handshake next.state ≡ true → IsBehind next
now_behind next is = behind_true (has_handshake next.state) (is_attached next.state.phase) (hand_behind next.hand) is

-- what is to be asked is lacking
some_wants : (asked : List Sent) (wants : List Want) → is_empty (with_wants asked [] wants) ≡ false
    → is_empty wants ≡ false
some_wants asked [] is = cc
some_wants asked (want ∷ wants) is = refl

-- where something is lacking, both sides are there
lacked_both : (m : Machine) (hand : Hand) → IsBehind (holds_hand m hand)
    → is_empty (lacked_by m.state hand hand.parts) ≡ false → has_handshake m.state ≡ true
lacked_both m hand h lacks =
    lacks_there (has_handshake m.state) m.state hand hand.parts refl
    (weaker (has_handshake m.state) (is_attached m.state.phase) (behind_handshake hand.parts) (is_empty hand.queue) h)
    lacks
  where
    weaker : (both attached behind queued : Bool) → behind_both both attached (cond behind queued false) ≡ true
        → behind_both both false behind ≡ true
    weaker both attached behind queued is = grind (arith, is)

lacking_both : (m : Machine) (hand : Hand) → IsBehind m → m.hand ≡ Some hand
    → is_empty (newly_lacked m.state hand) ≡ false → has_handshake m.state ≡ true
unfolding newly_lacked
lacking_both m hand h is lacks =
    lacked_both m hand (of_hand (λ (m : Machine). IsBehind m) m is h)
    (some_wants hand.asked (lacked_by m.state hand hand.parts) lacks)

-- what is to be asked is put anew
pub behind_anew : (m : Machine) (hand : Hand) {queue : List Want} → MayQueue m hand queue
    → IsBehind (holds_hand m hand) → IsBehind (to_ask m hand queue)
behind_anew m hand {queue} may h = by_queue queue may
  where
    emptied : (both attached behind none : Bool) → behind_both both attached (cond behind none false) ≡ true
        → behind_both both attached (cond behind true false) ≡ true
    emptied both attached behind none is = grind (arith, is)

    some_lacking : (want : Want) (wants : List Want) → MayQueue m hand (want ∷ wants) → (lacked : List Want)
        → lacked_by m.state hand hand.parts ≡ lacked → is_empty lacked ≡ false
    some_lacking want wants may [] is = let no : want ∷ wants ≡ [] = none_to_ask may is in cc
    some_lacking want wants may (one ∷ others) is = refl

    by_queue : (queue : List Want) → MayQueue m hand queue → IsBehind (to_ask m hand queue)
    by_queue [] may = emptied (has_handshake m.state) (is_attached m.state.phase) (behind_handshake hand.parts)
        (is_empty hand.queue) h
    by_queue (want ∷ wants) may = now_behind (to_ask m hand (want ∷ wants))
        (lacked_both m hand h (some_lacking want wants may (lacked_by m.state hand hand.parts) refl))

passes_both : (sent heard : Bool) → greeted_by sent heard ≡ passes → cond sent heard false ≡ true
passes_both sent heard is = grind (arith, is)

skipped_behind : (m : Machine) (hand : Hand) (part : Part) (rest : List Part) → IsBehind m → IsAt m hand part rest
    → Skips m hand part → IsBehind (left m hand rest)
skipped_behind m hand part rest h at (Skips.by_guard {guard = Handshake} is) =
    now_behind (left m hand rest)
    (passes_both m.state.greeting_sent m.state.greeting_heard is)
skipped_behind m hand part rest h at (Skips.by_guard {guard = IdSizes} is) =
    now_behind (left m hand rest)
    (both_there m hand (Part.Awaits IdSizes) rest h at refl refl)
skipped_behind m hand part rest h at (Skips.by_wishes is) =
    now_behind (left m hand rest)
    (both_there m hand Part.Updates rest h at refl refl)
skipped_behind m hand part rest h at (Skips.no_request is) = grind (arith, h, at.in_hand, at.parts)

both_replied : (command : TargetCommand) (replied : Replied) (state : State)
    → has_handshake (replied_to command replied state) ≡ has_handshake state
both_replied command replied state = grind arith

unfailed : (failed : Bool) (queue : List Want) → is_empty queue ≡ true → is_empty (unless_failed failed queue) ≡ true
unfailed failed queue is = grind (arith, is)

hand_replied_behind : (command : TargetCommand) (replied : Replied) (hand : Option Hand) → hand_behind hand ≡ true
    → hand_behind (option_map (hand_replied command replied) hand) ≡ true
hand_replied_behind command replied None is = refl
hand_replied_behind (a_question question) replied (Some hand) is =
    second_more (behind_handshake hand.parts) (is_empty hand.queue) _ is (unfailed
    (is_failed question replied hand.asked) hand.queue)
hand_replied_behind (an_effect effect) replied (Some hand) is = is

behind_weak : (both attached was now : Bool) → (was ≡ true → now ≡ true) → behind_both both attached was ≡ true
    → behind_both both attached now ≡ true
behind_weak both attached was now rest is = grind (arith, rest, is)

replied_behind : (m : Machine) (command : TargetCommand) (replied : Replied) → IsBehind m
    → IsBehind (replied_machine m command replied)
replied_behind m command replied h =
    rw (both_replied command replied m.state, same_replied command replied m.state)
    (behind_weak (has_handshake m.state) (is_attached m.state.phase) (hand_behind m.hand)
    (hand_behind (option_map (hand_replied command replied) m.hand)) (hand_replied_behind command replied m.hand) h)

given_behind : (both : Bool) (hand : Option Hand) → behind_both both false (hand_behind (option_map given_up hand))
    ≡ true
given_behind false (Some hand) = rw (gone_behind (has_response hand.parts) hand.item) refl
given_behind _ _ = refl

pub behind_on : (m next : Machine) (said : Option Message) → IsBehind m → Moves m said next → IsBehind next
behind_on m next said h (Moves.begins picked free none is) =
    by_both (has_handshake m.state) (is_attached m.state.phase) refl h
  where
    by_both : (both attached : Bool) → is_attached m.state.phase ≡ attached
        → behind_both both attached (hand_behind m.hand) ≡ true
        → behind_both both attached (cond (behind_handshake (parts_of m.state picked.item)) true false) ≡ true
    by_both true attached is h = refl
    by_both false true is h = cc
    by_both false false is h = rw (begun_behind m.state picked.item is) refl
behind_on m next said h (Moves.drops free is none) = grind (arith, h)
behind_on m next said h (Moves.responds {outcome} free at is) = grind (arith, h, at.in_hand, at.parts)
behind_on m next said h (Moves.finds {hand} {rest} {lookup} found free at needs done) =
    now_behind next (both_there m hand (Part.Looks lookup) rest h at refl refl)
behind_on m next said h (Moves.passes_over {hand} {part} {rest} free at why) = skipped_behind m hand part rest h at why
behind_on m next said h (Moves.tells {event} free at) = grind (arith, h, at.in_hand, at.parts)
behind_on m next said h (Moves.sends {hand} {rest} {deed} free at near) =
    now_behind next (both_there m hand (Part.Sends deed) rest h at refl refl)
behind_on m next said h (Moves.updates {hand} {rest = rest} free at is near) =
    now_behind next (both_there m hand Part.Updates rest h at refl refl)
behind_on m next said h (Moves.greets free at is near) = grind (arith, h)
behind_on m next said h (Moves.notes {note} free at) = grind (arith, h, at.in_hand, at.parts)
behind_on m next said h (Moves.unfolds {hand} {choice} {rest} free at) =
    by_both (has_handshake m.state) (is_attached m.state.phase) refl (grind (arith, h, at.in_hand, at.parts))
  where
    by_both : (both attached : Bool) → is_attached m.state.phase ≡ attached
        → behind_both both attached (cond (behind_handshake (Part.Unfolds choice ∷ rest)) (is_empty hand.queue) false) ≡ true
        → behind_both both attached (cond (behind_handshake (chosen choice m.state hand ++ rest))
        (is_empty hand.queue) false) ≡ true
    by_both true attached is h = refl
    by_both false true is h = cc
    by_both false false is h =
        rw (behind_joined (chosen choice m.state hand) rest (chosen_none choice m.state hand is (grind (arith, h))) (grind (arith, h)))
        (grind (arith, h))
behind_on m next said h (Moves.queues {hand} free is) =
    now_behind next (lacking_both m hand h is (lacking_hand m hand free is))
behind_on m next said h (Moves.asks {hand} {want} {wants} free room is are) =
    now_behind next (both_queued m hand want wants h is are)
behind_on m next said h (Moves.greeted read is) = grind (arith, h)
behind_on m next said h (Moves.answers {question} {replied} is waits reply stays) =
    replied_behind m (a_question question) replied h
behind_on m next said h (Moves.replies {effect} {replied} is flies reply stays) =
    replied_behind m (an_effect effect) replied h
behind_on m next said h (Moves.loses late near why) =
    given_behind (has_handshake m.state) m.hand
behind_on m next said h _ = h

-- What the messages say of it -----------------------------------------------------------------------------------------

pub such_more : (test : Message → Bool) (messages : List Message) (message : Message)
    → has_such test (messages ++ message ∷ []) ≡ (has_such test messages || test message)
such_more test [] message = grind arith
such_more test (first ∷ messages) message = grind (arith, such_more test messages message)

-- which sides of the handshake are among the messages
pub record IsGreeted (messages : List Message) (m : Machine) : Type 0 where
  pub sent : has_such is_greets messages ≡ m.state.greeting_sent
  pub heard : has_such is_greeted messages ≡ m.state.greeting_heard

abbrev said_such : (Message → Bool) → Option Message → Bool
said_such test None = false
said_such test (Some message) = test message

such_said : (test : Message → Bool) (messages : List Message) (said : Option Message) (was now : Bool)
    → has_such test messages ≡ was → (was || said_such test said) ≡ now → has_such test (with_said messages said) ≡ now
such_said test messages None was now is next = grind (arith, is, next)
such_said test messages (Some message) was now is next = such_more test messages message ∙ rw is next

-- what a move makes of the two flags
record Flags (m next : Machine) (said : Option Message) : Type 0 where
  sent : (m.state.greeting_sent || said_such is_greets said) ≡ next.state.greeting_sent
  heard : (m.state.greeting_heard || said_such is_greeted said) ≡ next.state.greeting_heard

flags_on : (m next : Machine) (said : Option Message) → Moves m said next → Flags m next said
flags_on m next said (Moves.loses late near Loses.by_end) = record { sent = grind arith; heard = grind arith }
flags_on m next said _ = record { sent = grind arith; heard = grind arith }

pub greeted_on : (messages : List Message) (m next : Machine) (said : Option Message) → IsGreeted messages m
    → Moves m said next → IsGreeted (with_said messages said) next
greeted_on messages m next said g moved = let f = flags_on m next said moved in record {
  sent = such_said is_greets messages said m.state.greeting_sent next.state.greeting_sent g.sent f.sent;
  heard = such_said is_greeted messages said m.state.greeting_heard next.state.greeting_heard g.heard f.heard;
}

pub handshake_said : (messages : List Message) (m : Machine) → IsGreeted messages m → has_handshake m.state ≡ true
    → have_handshake messages ≡ true
handshake_said messages m g is = rw (g.sent, g.heard) is
