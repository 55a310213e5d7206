-- How what came of the target is taken up: its end, its handshake, and its packets.
use Rattle.std.proofs.Common.{◌≡◌, ℕ, ◌+◌, ◌<◌, ◌≤◌, refl, sym, ap, subst, ◌∙◌, arith, Bool, true, false, List, [], ◌∷◌, ◌++◌}
use Rattle.std.proofs.Common.{cond, length, length-append, Option, None, Some, Result, Ok, Err, OnOk, IfErr}
use Rattle.std.proofs.lemmas.List.{length-drop}
use Rattle.bridge_core.specs.Calls.{AreRead, IsLike, RefusesEnd, RefusesPacket, TakesPacket, offset_of}
use Rattle.bridge_core.specs.Calls.{packet_of, without_target}
use Rattle.bridge_core.specs.Cores.{CoreState, Unheard, session_in, streams_in, with_machine}
use Rattle.bridge_core.specs.Cores.{IsReady as is_ready}
use Rattle.bridge_serve.specs.Following.{CoreGoesOn, CoreStops, GoesOn, Handles, HandlesLast, HasEnded}
use Rattle.bridge_serve.specs.Following.{IsMispacked, IsTakenUp, Leads, MayTake, MayTell, SameEnds, Stops}
use Rattle.bridge_serve.specs.Following.{packet_taken}
use Rattle.bridge_core.specs.Names.{Question, Replied, a_composite}
use Rattle.bridge_core.proofs.PacketLaws.{unread_more}
use Rattle.bridge_serve.specs.Names.{BadTarget, Client, Ending, Entry, Flood, Limits, NoMemory, Target, mispacked}
use Rattle.bridge_serve.proofs.LastWords.{words_here}
use Rattle.bridge_serve.proofs.Logs.{blames_on, keeps_on, keeps_same}
use Rattle.bridge_serve.proofs.Moves.{IsNoLink, is_on, leads_in_place, no_idle, no_link, stopped_here, stopped_on}
use Rattle.jdwp_packets.proofs.PacketLaws.{packet-steady}
use Rattle.jdwp_packets.specs.Packets.{Packet, greeting_front, packet_front}
use Rattle.jdwp_packets.specs.Receiving.{Received, before_greeting, received_front}
use Rattle.jdwp_packets.specs.Taking.{IsAnswer, IsTaken, Shows}
use Rattle.jdwp_packets.specs.declared.cutter.Packet.{Packet as Shown}
use Rattle.jdwp_packets.specs.declared.cutter.Packet.TheVariants.{Command, Reply}
use Rattle.jdwp_packets.specs.declared.fault.PacketFault.{PacketFault}
use Rattle.jdwp_packets.specs.declared.fault.PacketTrouble.{PacketTrouble}
use Rattle.machine_model.specs.Due.{Load, can_read, due, due_by, hand_load, is_full, load_of}
use Rattle.machine_model.specs.Replying.{ended, told_by}
use Rattle.machine_model.specs.Runs.{Allows, Message, greeting_heard}
use Rattle.machine_model.specs.State.{Machine, State, has_raw, is_gone, is_some}
use Rattle.machine_model.specs.declared.items.Item.{Item}
use Rattle.machine_model.specs.declared.acts.Act.{Act}
use Rattle.machine_steps.proofs.Stepping.{Moves, moved}
use Rattle.session_model.specs.Causes.{Cause, ReadsOn, ReadsTarget}
use Rattle.session_model.specs.Faults.{IsKeptFault, IsTargetFault}
use Rattle.session_model.specs.LastWords.{last_words}
use Rattle.session_model.specs.Saying.{Brings, PacketSays}
use Rattle.session_model.specs.Session.{Going}
use Rattle.session_model.specs.States.{SessionState, id_pending, target_front}
use Rattle.wire_core.specs.Outside.{IsOpen, Outside}
use Rattle.wire_core.specs.Streams.{Front, left, past}

-- One thing, and then what is due ------------------------------------------------------------------------------------

-- something was taken up: the machine knows of it, and may have something to do
pub record TakesUp (o : Outside) (core core' : CoreState) (unheard unheard' : Unheard) : Type 0 where
  pub leads : (limits : Limits) (turns : ℕ) → core.limit ≡ limits.waiting
      → Leads limits o turns (session_in core unheard) o turns (session_in core' unheard')
  pub shaken : core'.machine.state.greeting_heard ≡ true → unheard'.target.greeted ≡ true
  pub same_limit : core'.limit ≡ core.limit
  pub ends : SameEnds unheard unheard'

pub tells_on : (old new : Outside) (core middle core' : CoreState) (unheard unheard' : Unheard)
    → TakesUp old core middle unheard unheard' → CoreGoesOn old new middle core'
    → (due (id_pending core'.commands) core'.machine).act ≡ Act.Waits → GoesOn old new core core' unheard unheard'
tells_on old new core middle core' unheard unheard' takes on nothing_due = record {
  leads = λ limits turns limit begin follows.
      on.leads limits unheard' turns (takes.same_limit ∙ limit) begin (takes.leads limits turns limit begin follows);
  keeps = on.keeps;
  may_take = record {
    ready = on.may_tell.ready;
    unspoken = on.may_tell.unspoken;
    client = on.may_tell.client;
    target = λ near not_ended. on.may_tell.target near;
    nothing_due = nothing_due;
    shaken = λ heard. takes.shaken (sym on.same_greeted ∙ heard);
  };
  same_limit = on.same_limit ∙ takes.same_limit;
  same_ends = takes.ends;
}

pub tells_last : (old new : Outside) (core middle core' : CoreState) (unheard unheard' : Unheard) (ending : Ending)
    → TakesUp old core middle unheard unheard' → CoreStops old new middle core' ending
    → Stops old new core core' unheard ending
tells_last old new core middle core' unheard unheard' ending takes stops = record {
  stopped = λ limits turns limit.
      stopped_on limits old old new turns turns turns _ _ core' ending (takes.leads limits turns limit)
      (stops.stopped limits unheard' turns (takes.same_limit ∙ limit));
  keeps = stops.keeps;
  blames = stops.blames;
  awake = stops.awake;
}

-- what was heard was taken up, and the session goes on or ends behind it
pub handles_on : {hears : CoreState → Type 0} {old new : Outside} {core core' : CoreState} {unheard unheard' : Unheard}
    → ((middle : CoreState) → hears middle → TakesUp old core middle unheard unheard') → Handles hears old new core'
    → GoesOn old new core core' unheard unheard'
handles_on {old = old} {new} {core} {core'} {unheard} {unheard'} takes handles =
    tells_on old new core handles.middle core' unheard unheard' (takes handles.middle handles.heard) handles.goes_on
    handles.nothing_due

pub handles_last : {hears : CoreState → Type 0} {refuses : CoreState → Ending → Type 0} {old new : Outside}
    {core core' : CoreState} {unheard unheard' : Unheard} {ending : Ending}
    → ((middle : CoreState) → hears middle → TakesUp old core middle unheard unheard')
    → ((there : CoreState) (last : Ending) → refuses there last → Stops old old core there unheard last)
    → HandlesLast hears refuses old new core' ending → Stops old new core core' unheard ending
handles_last {core' = core'} {ending = ending} takes refused (HandlesLast.refuses h) = refused core' ending h
handles_last {old = old} {new} {core} {core'} {unheard} {unheard'} {ending} takes refused
    (HandlesLast.stops {middle = middle} h stops) =
    tells_last old new core middle core' unheard unheard' ending (takes middle h) stops

-- something may be told where no end waits to be taken up
pub may_tell : (o : Outside) (core : CoreState) (unheard : Unheard) → MayTake o core unheard → unheard.ended ≡ false
    → MayTell o core
may_tell o core unheard may not_ended = record {
  ready = may.ready;
  unspoken = may.unspoken;
  client = may.client;
  target = λ near. may.target near not_ended;
}

-- what came is read on
pub reads_on : (limits : Limits) (o : Outside) (core : CoreState) (unheard : Unheard) → MayTake o core unheard
    → core.limit ≡ limits.waiting → ReadsOn limits (session_in core unheard)
reads_on limits o core unheard may limit =
    record { nothing_due = may.nothing_due; on = is_on limits core unheard limit may.ready.room }

-- nothing was taken up
pub stays : (o : Outside) (core : CoreState) (unheard : Unheard) → MayTake o core unheard
    → GoesOn o o core core unheard unheard
stays o core unheard may = record {
  leads = λ limits turns limit begin follows. follows;
  keeps = keeps_same o;
  may_take = may;
  same_limit = refl;
  same_ends = record { client = refl; target = refl; quiets = refl };
}

ends_on : {u v w : Unheard} → SameEnds u v → SameEnds v w → SameEnds u w
ends_on h k =
    record { client = k.client ∙ h.client; target = k.target ∙ h.target; quiets = k.quiets ∙ h.quiets }

-- one after the other
pub on_and_on : (a b c : Outside) (x y z : CoreState) (u v w : Unheard) → GoesOn a b x y u v → GoesOn b c y z v w
    → GoesOn a c x z u w
on_and_on a b c x y z u v w h k = record {
  leads = λ limits turns limit begin follows.
      k.leads limits turns (h.same_limit ∙ limit) begin (h.leads limits turns limit begin follows);
  keeps = keeps_on h.keeps k.keeps;
  may_take = k.may_take;
  same_limit = k.same_limit ∙ h.same_limit;
  same_ends = ends_on h.same_ends k.same_ends;
}

pub on_and_stops : (a b c : Outside) (x y z : CoreState) (u v : Unheard) (ending : Ending) → GoesOn a b x y u v
    → Stops b c y z v ending → Stops a c x z u ending
on_and_stops a b c x y z u v ending h k = record {
  stopped = λ limits turns limit.
      stopped_on limits a b c turns turns turns _ _ z ending (h.leads limits turns limit)
      (k.stopped limits turns (h.same_limit ∙ limit));
  keeps = keeps_on h.keeps k.keeps;
  blames = blames_on c ending h.keeps k.blames;
  awake = k.awake;
}

-- Endings where nothing is sent --------------------------------------------------------------------------------------

-- memory ran out
pub forgets : (o : Outside) (core core' : CoreState) (unheard : Unheard) → Stops o o core core' unheard NoMemory
forgets o core core' unheard = record {
  stopped = λ limits turns limit begin follows. HasEnded.forgets follows;
  keeps = keeps_same o;
  blames = no_link o NoMemory tt;
  awake = no_idle NoMemory tt;
}

-- A cause stands where something was taken up, and the core is like that but for which commands are pending.
pub stops_there : (o : Outside) (core there core' : CoreState) (unheard unheard' : Unheard) (ending : Ending)
    → ((limits : Limits) (turns : ℕ) → core.limit ≡ limits.waiting
    → Leads limits o turns (session_in core unheard) o turns (session_in there unheard'))
    → ((limits : Limits) (turns : ℕ) → core.limit ≡ limits.waiting
    → Cause limits turns (session_in there unheard') ending [] 0)
    → there.words ≡ None → IsOpen Client o → (is_gone there.machine.state.phase ≡ false → IsOpen Target o)
    → IsLike there core' → IsNoLink ending → Stops o o core core' unheard ending
stops_there o core there core' unheard unheard' ending comes cause unspoken client target like none = record {
  stopped = λ limits turns limit.
      stopped_on limits o o o turns turns turns _ _ core' ending (comes limits turns limit)
      (stopped_here limits o turns _ core' ending (cause limits turns limit)
      (words_here o core' (session_in there unheard') ending (ap (λ (c : CoreState). c.words) like.same ∙ unspoken)
      client target (ap (λ (c : CoreState). last_words ending c.machine) (sym like.same))
      (ap (λ (c : CoreState). c.told) (sym like.same)) (sym like.next)));
  keeps = keeps_same o;
  blames = no_link o ending none;
  awake = no_idle ending none;
}

alike : (core : CoreState) → IsLike core core
alike core = record { same = refl; next = refl }

-- a cause stands here
pub stops_here : (o : Outside) (core core' : CoreState) (unheard : Unheard) (ending : Ending) → MayTell o core
    → ((limits : Limits) (turns : ℕ) → core.limit ≡ limits.waiting
    → Cause limits turns (session_in core unheard) ending [] 0)
    → IsLike core core' → IsNoLink ending → Stops o o core core' unheard ending
stops_here o core core' unheard ending may cause like none =
    stops_there o core core core' unheard unheard ending (λ limits turns limit begin follows. follows) cause
    may.unspoken may.client may.target like none

-- too many items wait where something was taken up
pub floods : (o : Outside) (core there core' : CoreState) (unheard unheard' : Unheard)
    → ((limits : Limits) (turns : ℕ) → core.limit ≡ limits.waiting
    → Leads limits o turns (session_in core unheard) o turns (session_in there unheard'))
    → there.words ≡ None → IsOpen Client o → (is_gone there.machine.state.phase ≡ false → IsOpen Target o)
    → there.limit ≡ core.limit → core' ≡ there → there.limit < length there.machine.waiting
    → Stops o o core core' unheard Flood
floods o core there core' unheard unheard' comes unspoken client target same_limit is more =
    subst (λ (c : CoreState). Stops o o core c unheard Flood) (sym is)
    (stops_there o core there there unheard unheard' Flood comes
    (λ limits turns limit. Cause.flood (omega (arith, same_limit, limit, more))) unspoken client target (alike there) tt)

-- The target's end ---------------------------------------------------------------------------------------------------

-- what the end leaves
record AtEnd (m next : Machine) : Type 0 where
  gone : is_gone next.state.phase ≡ true
  heard : next.state.greeting_heard ≡ m.state.greeting_heard

at_end : (gone : Bool) (m : Machine) → is_gone m.state.phase ≡ gone → AtEnd m (ended gone m)
at_end true m is = record { gone = is; heard = refl }
at_end false m is = record { gone = refl; heard = refl }

-- the end was taken up
abbrev pub end_taken : Unheard → Unheard
end_taken unheard = record unheard { ended = false }

end_leads : (o : Outside) (core : CoreState) (unheard : Unheard) → MayTake o core unheard → unheard.ended ≡ true
    → (limits : Limits) (turns : ℕ) → core.limit ≡ limits.waiting
    → Leads limits o turns (session_in core unheard) o turns (session_in (without_target core) (end_taken unheard))
end_leads o core unheard may is_ended limits turns limit = leads_in_place limits o turns _ _ (λ log messages g. (
  _,
  Going.hears g (reads_on limits o core unheard may limit) (Allows.ends may.ready.sound.none_to_read)
      (Brings.ends is_ended),
))

not_near : {gone : Bool} → gone ≡ true → gone ≡ false → ⊥
not_near is near = cc

pub takes_end : (o : Outside) (core middle : CoreState) (unheard : Unheard) → MayTake o core unheard
    → unheard.ended ≡ true → middle ≡ without_target core → TakesUp o core middle unheard (end_taken unheard)
takes_end o core middle unheard may is_ended is =
    let left = at_end (is_gone core.machine.state.phase) core.machine refl in
    subst (λ (c : CoreState). TakesUp o core c unheard (end_taken unheard)) (sym is) (record {
      leads = end_leads o core unheard may is_ended;
      shaken = λ heard. may.shaken (sym left.heard ∙ heard);
      same_limit = refl;
      ends = record { client = refl; target = refl; quiets = refl };
    })

-- behind it the core may tell and send
pub tells_end : (o : Outside) (core middle : CoreState) (unheard : Unheard) → MayTake o core unheard
    → middle ≡ without_target core → is_ready middle → MayTell o middle
tells_end o core middle unheard may is ready =
    let left = at_end (is_gone core.machine.state.phase) core.machine refl in
    record {
      ready = ready;
      unspoken = ap (λ (c : CoreState). c.words) is ∙ may.unspoken;
      client = may.client;
      target = λ near. absurd (not_near (ap (λ (c : CoreState). is_gone c.machine.state.phase) is ∙ left.gone) near);
    }

pub refuses_end : (o : Outside) (core core' : CoreState) (unheard : Unheard) (ending : Ending)
    → MayTake o core unheard → unheard.ended ≡ true → RefusesEnd core core' ending → Stops o o core core' unheard ending
refuses_end o core core' unheard ending may is_ended RefusesEnd.no_memory = forgets o core core' unheard
refuses_end o core core' unheard ending may is_ended (RefusesEnd.floods is more) =
    let left = at_end (is_gone core.machine.state.phase) core.machine refl in
    floods o core (without_target core) core' unheard (end_taken unheard) (end_leads o core unheard may is_ended)
    may.unspoken may.client (λ near. absurd (not_near left.gone near)) refl is
    (subst (λ (c : CoreState). c.limit < length c.machine.waiting) is more)

-- Its handshake ------------------------------------------------------------------------------------------------------

pub takes_greeting : (o : Outside) (core core' : CoreState) (unheard : Unheard) → MayTake o core unheard
    → core.machine.state.greeting_heard ≡ false → unheard.target.greeted ≡ true
    → core' ≡ with_machine core (greeting_heard core.machine) → TakesUp o core core' unheard unheard
takes_greeting o core core' unheard may first came is =
    subst (λ (c : CoreState). TakesUp o core c unheard unheard) (sym is) (record {
      leads = λ limits turns limit. leads_in_place limits o turns _ _ (λ log messages g. (
        _,
        Going.hears g (reads_on limits o core unheard may limit)
            (Allows.greeted may.ready.sound.none_to_read first) (Brings.greeted came),
      ));
      shaken = λ heard. came;
      same_limit = refl;
      ends = record { client = refl; target = refl; quiets = refl };
    })

-- behind it the core may tell and send
pub tells_greeting : (o : Outside) (core core' : CoreState) (unheard : Unheard) → MayTake o core unheard
    → unheard.ended ≡ false → core' ≡ with_machine core (greeting_heard core.machine) → is_ready core'
    → MayTell o core'
tells_greeting o core core' unheard may not_ended is ready = record {
  ready = ready;
  unspoken = ap (λ (c : CoreState). c.words) is ∙ may.unspoken;
  client = may.client;
  target = λ near. may.target (ap (λ (c : CoreState). is_gone c.machine.state.phase) (sym is) ∙ near) not_ended;
}

-- Its packets --------------------------------------------------------------------------------------------------------

-- what a packet may say
abbrev is_packet : Message → Bool
is_packet (Message.answers command replied) = true
is_packet (Message.comes at composite) = true
is_packet (Message.keeps at body) = true
is_packet _ = false

packet_says : {s : SessionState} {packet : Packet} {message : Message} {window : _}
    → PacketSays s packet message window → is_packet message ≡ true
packet_says (PacketSays.answers pending says) = refl
packet_says (PacketSays.comes is_one serves reads) = refl
packet_says (PacketSays.keeps is_one) = refl

-- What it leaves: what was heard of the target; a target that is gone stays so; and no more items wait where a composite
-- can be read then.
pub record Taken (m next : Machine) : Type 0 where
  heard : next.state.greeting_heard ≡ m.state.greeting_heard
  gone : is_gone m.state.phase ≡ true → is_gone next.state.phase ≡ true
  fewer : can_read next ≡ true → length next.waiting ≤ length m.waiting

told_heard : (question : Question) (replied : Replied) (state : State)
    → (told_by question replied state).greeting_heard ≡ state.greeting_heard
told_heard question replied state = grind arith

told_phase : (question : Question) (replied : Replied) (state : State)
    → (told_by question replied state).phase ≡ state.phase
told_phase question replied state = grind arith

taken_by : {m next : Machine} {message : Message} → Moves m (Some message) next → is_packet message ≡ true
    → Taken m next
taken_by (Moves.responds free at is) says = cc
taken_by (Moves.tells free at) says = cc
taken_by (Moves.sends free at near) says = cc
taken_by (Moves.updates free at is near) says = cc
taken_by (Moves.greets free at is near) says = cc
taken_by (Moves.asks free room is are) says = cc
taken_by (Moves.hears read is) says = cc
taken_by (Moves.greeted read is) says = cc
taken_by {m} (Moves.answers {question} {replied} is waits reply lasts) says = record {
  heard = told_heard question replied m.state;
  gone = λ gone. ap is_gone (told_phase question replied m.state) ∙ gone;
  fewer = λ read. omega arith;
}
taken_by (Moves.replies is flies reply lasts) says =
    record { heard = refl; gone = λ gone. gone; fewer = λ read. omega arith }
taken_by (Moves.late before after is reply) says =
    record { heard = refl; gone = λ gone. gone; fewer = λ read. omega arith }
taken_by (Moves.ends gone) says = cc
taken_by (Moves.loses late near why) says = record { heard = refl; gone = λ gone. refl; fewer = λ read. cc }
taken_by {m} (Moves.comes {at = at} {composite = composite} read sized taken) says = record {
  heard = refl;
  gone = λ gone. gone;
  fewer = λ reads. (let no : true ≡ false = sym reads ∙ unread_more m (a_composite at composite) refl read in cc);
}
taken_by {m} (Moves.keeps unsized) says =
    record { heard = refl; gone = λ gone. gone; fewer = λ reads. grind (arith, unsized, reads) }
taken_by (Moves.reads before after read is none taken) says = cc

-- composites that were kept are read: as many items wait as before
read_length : (before after : List Item) (old new : Item)
    → length (before ++ new ∷ after) ≡ length (before ++ old ∷ after)
read_length before after old new = length-append before (new ∷ after) ∙ sym (length-append before (old ∷ after))

read_lengths : {m next : Machine} → AreRead m next → length next.waiting ≡ length m.waiting
read_lengths AreRead.none = refl
read_lengths (AreRead.one_more middle are one) =
    ap (λ (now : Machine). length now.waiting) one.are ∙ read_length one.before one.after _ _
    ∙ ap length (sym one.were) ∙ read_lengths are

read_state : {m next : Machine} → AreRead m next → next.state ≡ m.state
read_state AreRead.none = refl
read_state (AreRead.one_more middle are one) = ap (λ (now : Machine). now.state) one.are ∙ read_state are

could_read : {m next : Machine} → AreRead m next → can_read next ≡ true → can_read m ≡ true
could_read AreRead.none can = can
could_read (AreRead.one_more middle are one) can = could_read are one.can

taken_read : {m behind next : Machine} → Taken m behind → AreRead behind next → Taken m next
taken_read taken reads = record {
  heard = ap (λ (state : State). state.greeting_heard) (read_state reads) ∙ taken.heard;
  gone = λ gone. ap (λ (state : State). is_gone state.phase) (read_state reads) ∙ taken.gone gone;
  fewer = λ can.
      let lengths = read_lengths reads in
      let fewer = taken.fewer (could_read reads can) in
      omega (arith, lengths, fewer);
}

behind_left : (core middle : CoreState) (unheard : Unheard) (packet : Packet)
    → (takes : TakesPacket core unheard.target.stream.at packet middle) → Taken core.machine takes.behind
behind_left core middle unheard packet takes =
    taken_by (moved takes.allows) (packet_says (takes.says unheard refl))

pub packet_left : (core middle : CoreState) (unheard : Unheard) (packet : Packet)
    → TakesPacket core unheard.target.stream.at packet middle → Taken core.machine middle.machine
packet_left core middle unheard packet takes =
    taken_read (behind_left core middle unheard packet takes) takes.reads

-- the packet is cut
abbrev pub packet_cut : Unheard → ℕ → Unheard
packet_cut unheard n =
    record unheard { target = record unheard.target { stream = past unheard.target.stream n } }

-- The target's packets are read on.
pub record IsReading (o : Outside) (core : CoreState) (unheard : Unheard) : Type 0 where
  pub may : MayTake o core unheard
  pub taken_up : IsTakenUp core unheard

pub is_reading : {o : Outside} {core : CoreState} {unheard : Unheard} → MayTake o core unheard
    → IsTakenUp core unheard → IsReading o core unheard
is_reading may taken_up = record { may = may; taken_up = taken_up }

pub reads_target : (limits : Limits) (o : Outside) (core : CoreState) (unheard : Unheard) → IsReading o core unheard
    → core.limit ≡ limits.waiting → ReadsTarget limits (session_in core unheard)
reads_target limits o core unheard reading limit = record {
  reads = reads_on limits o core unheard reading.may limit;
  none_to_read = reading.may.ready.sound.none_to_read;
  greeted = reading.taken_up.greeted;
}

-- a whole packet is one behind the handshake
front_greeted : (greeted : Bool) (bytes : List ℕ) (packet : Packet) (n : ℕ)
    → received_front greeted bytes ≡ Front.whole packet n
    → (greeted ≡ true) × (packet_front bytes ≡ Front.whole packet n)
front_greeted true bytes packet n h = (refl, h)
front_greeted false bytes packet n h = absurd (by (greeting_front bytes) h)
  where
    by : (front : Front (Unit {0}) PacketFault) → before_greeting front ≡ Front.whole packet n → ⊥
    by Front.waits h = cc
    by (Front.whole greeting k) h = cc
    by (Front.faulty fault place) h = cc

-- a composite that can be read is read first
busy_first : (gone reads : Bool) (other : Load) → cond gone false reads ≡ true
    → cond gone Load.clear (cond (cond gone false reads) Load.busy other) ≡ Load.busy
busy_first true reads other is = cc
busy_first false true other is = refl
busy_first false false other is = cc

waits_to_read : (full : Bool) (m : Machine) → can_read m ≡ true → (due full m).act ≡ Act.Waits
unfolding due load_of
waits_to_read full m is = ap (λ (load : Load). (due_by (is_full full m) load m).act)
    (busy_first (is_gone m.state.phase) (cond (is_some m.state.sizes) (has_raw m.waiting) false)
    (hand_load m.state m.hand) is)

-- composites that were kept are read, one by one
reads_all : {limits : Limits} {log : List Entry} {turns : ℕ} {m next : Machine} (core : CoreState) (unheard : Unheard)
    → core.limit ≡ limits.waiting → (can_read m ≡ true → length m.waiting ≤ core.limit) → AreRead m next
    → (messages : List Message) → Going limits log messages turns (session_in (with_machine core m) unheard)
    → (later : List Message) × Going limits log later turns (session_in (with_machine core next) unheard)
reads_all core unheard limit room AreRead.none messages g = (messages, g)
reads_all {limits} {log} {turns} core unheard limit room (AreRead.one_more {next = next} middle are one) messages g =
    let so_far = reads_all core unheard limit room are messages g in
    let lengths = read_lengths are in
    let fits = room (could_read are one.can) in (
      _,
      subst (λ (now : Machine). Going limits log (so_far.0 ++ Message.reads one.at one.body one.composite ∷ []) turns
          (session_in (with_machine core now) unheard)) (sym one.are) (Going.hears so_far.1 (record {
            nothing_due = waits_to_read (id_pending core.commands) middle one.can;
            on = is_on limits (with_machine core middle) unheard limit (omega (arith, lengths, fits));
          }) (Allows.reads one.before one.after one.can one.were one.is_first one.taken)
          (Brings.reads one.serves one.reads)),
    )

packet_leads : (o : Outside) (core middle : CoreState) (unheard : Unheard) (packet : Packet) (n : ℕ)
    → IsReading o core unheard → target_front (streams_in core unheard) ≡ Front.whole packet n
    → TakesPacket core unheard.target.stream.at packet middle → (limits : Limits) (turns : ℕ)
    → core.limit ≡ limits.waiting
    → Leads limits o turns (session_in core unheard) o turns (session_in middle (packet_cut unheard n))
packet_leads o core middle unheard packet n reading front takes limits turns limit =
    let room = reading.may.ready.room in
    let left = behind_left core middle unheard packet takes in
    leads_in_place limits o turns _ _ (λ log messages g.
    subst (λ (c : CoreState). (later : List Message)
    × Going limits log later turns (session_in c (packet_cut unheard n))) (sym takes.same)
    (reads_all (record core { commands = middle.commands }) (packet_cut unheard n) limit
    (λ can. let fewer = left.fewer can in omega (arith, fewer, room)) takes.reads _
    (Going.hears g (reads_on limits o core unheard reading.may limit) takes.allows
    (Brings.packet (reading.taken_up.greeted
    ∙ (front_greeted unheard.target.greeted unheard.target.stream.pending packet n front).0) front
    (takes.says unheard refl)))))

-- what the cutter hands out
pub record IsWhole (old : Received) (shown : Shown) : Type 0 where
  pub size : ℕ
  pub front : received_front old.greeted old.stream.pending ≡ Front.whole (packet_of shown) size
  pub at : offset_of shown ≡ old.stream.at

shows_is : (shown : Shown) (at : ℕ) (packet : Packet) → Shows shown at packet
    → (offset_of shown ≡ at) × (packet ≡ packet_of shown)
shows_is (Command at id set number body) offset packet h = h
shows_is (Reply at id error body) offset packet h = h

answer_whole : (front : Front Packet PacketFault) (at : ℕ) (shown : Shown) → IsAnswer front at (Ok (Some shown))
    → (size : ℕ) × (front ≡ Front.whole (packet_of shown) size) × (offset_of shown ≡ at)
answer_whole Front.waits at shown answer = cc
answer_whole (Front.whole packet size) at shown answer =
    let is = shows_is shown at packet answer in
    let front : Packet → Front Packet PacketFault = λ p. Front.whole p size in
    (size, ap front is.1, is.0)
answer_whole (Front.faulty fault distance) at shown answer = cc

taken_whole : (old : Received) (next : Option Shown) (shown : Shown) → IsTaken old (Ok next) → next ≡ Some shown
    → IsWhole old shown
taken_whole old next shown taken some =
    let found = answer_whole (received_front old.greeted old.stream.pending) old.stream.at shown (rw some at taken) in
    record { size = found.0; front = found.1; at = found.2 }

answer_none : (front : Front Packet PacketFault) (at : ℕ) → IsAnswer front at (Ok None) → front ≡ Front.waits
answer_none Front.waits at answer = refl
answer_none (Front.whole packet size) at answer = absurd answer
answer_none (Front.faulty fault distance) at answer = cc

pub taken_none : (old : Received) (next : Option Shown) → IsTaken old (Ok next) → next ≡ None
    → received_front old.greeted old.stream.pending ≡ Front.waits
taken_none old next taken none =
    answer_none (received_front old.greeted old.stream.pending) old.stream.at (rw none at taken)

answer_fault : (front : Front Packet PacketFault) (at : ℕ) (trouble : PacketTrouble) → IsAnswer front at (Err trouble)
    → (distance : ℕ) × (front ≡ Front.faulty trouble.fault distance) × (trouble.at ≡ at + distance)
answer_fault Front.waits at trouble answer = cc
answer_fault (Front.whole packet size) at trouble answer = absurd answer
answer_fault (Front.faulty fault distance) at trouble answer =
    let e : trouble ≡ record { fault = fault; at = at + distance } = cc answer in
    let stands : PacketTrouble → Front Packet PacketFault = λ t. Front.faulty t.fault distance in
    (distance, ap stands (sym e), ap (λ (t : PacketTrouble). t.at) e)

-- What the taking of a packet found, and what is left then.
pub record Next (unheard unheard' : Unheard) (shown : Shown) : Type 0 where
  pub found : IsWhole unheard.target shown
  pub left : unheard' ≡ packet_cut unheard found.size

-- what is left, by what stands at the front
abbrev left_by : Unheard → Front Packet PacketFault → Unheard
left_by unheard front =
    record unheard { target = record unheard.target { stream = left front unheard.target.stream } }

pub next_of : (unheard : Unheard) {unheard' : Unheard} {next : Option Shown} {shown : Shown}
    → IsTaken unheard.target (Ok next) → next ≡ Some shown → unheard' ≡ packet_taken unheard
    → Next unheard unheard' shown
next_of unheard {unheard'} {next} {shown} taken some is =
    let found = taken_whole unheard.target next shown taken some in
    record { found = found; left = is ∙ ap (left_by unheard) found.front }

-- nothing was found
pub none_left : (unheard : Unheard) {unheard' : Unheard}
    → received_front unheard.target.greeted unheard.target.stream.pending ≡ Front.waits
    → unheard' ≡ packet_taken unheard → unheard' ≡ unheard
none_left unheard none is = is ∙ ap (left_by unheard) none

-- what is left of the bytes, which come no further
fewer_left : (old : Received) (shown : Shown) (found : IsWhole old shown)
    → (length (past old.stream found.size).pending < length old.stream.pending)
    × ((past old.stream found.size).at + length (past old.stream found.size).pending
    ≡ old.stream.at + length old.stream.pending)
fewer_left old shown found =
    let front = (front_greeted old.greeted old.stream.pending (packet_of shown) found.size found.front).1 in
    let taken = packet-steady.takes old.stream.pending (packet_of shown) found.size front in
    let some = taken.0 in
    let most = taken.1 in
    let cut = length-drop found.size old.stream.pending in
    (omega (arith, some, most, cut), omega (arith, some, most, cut))

-- a packet that was taken leaves fewer bytes
pub fewer_behind : {unheard unheard' : Unheard} {shown : Shown} → Next unheard unheard' shown
    → length unheard'.target.stream.pending < length unheard.target.stream.pending
fewer_behind {unheard} {unheard'} {shown} next =
    subst (λ (u : Unheard). length u.target.stream.pending < length unheard.target.stream.pending) (sym next.left)
    (fewer_left unheard.target shown next.found).0

pub takes_packet : {o : Outside} {core : CoreState} {unheard unheard' : Unheard} {shown : Shown}
    → IsReading o core unheard → Next unheard unheard' shown → (middle : CoreState)
    → TakesPacket core (offset_of shown) (packet_of shown) middle → TakesUp o core middle unheard unheard'
takes_packet {o} {core} {unheard} {unheard'} {shown} reading next middle takes =
    let found = next.found in
    let here = subst (λ (at : ℕ). TakesPacket core at (packet_of shown) middle) found.at takes in
    let left = packet_left core middle unheard (packet_of shown) here in
    subst (λ (u : Unheard). TakesUp o core middle unheard u) (sym next.left) (record {
      leads = packet_leads o core middle unheard (packet_of shown) found.size reading found.front here;
      shaken = λ heard. reading.may.shaken (sym left.heard ∙ heard);
      same_limit = ap (λ (c : CoreState). c.limit) here.same;
      ends = record { client = refl; target = (fewer_left unheard.target shown found).1; quiets = refl };
    })

still_near : {was now : Bool} → (was ≡ true → now ≡ true) → now ≡ false → was ≡ false
still_near {was = true} stays near = let no = stays refl in cc
still_near {was = false} stays near = refl

-- behind a packet the core may tell and send
pub tells_packet : (o : Outside) (core middle : CoreState) (at : ℕ) (packet : Packet) → MayTell o core
    → is_ready middle → TakesPacket core at packet middle → MayTell o middle
tells_packet o core middle at packet may ready takes =
    let left = packet_left core middle
    (record {
      client = record { at = 0; pending = [] };
      target = record {
        greeted = true;
        stream = record
            { at = at; pending = [] };
      };
      ended = false;
      quiets = 0;
    }) packet takes in
    record {
      ready = ready;
      unspoken = ap (λ (c : CoreState). c.words) takes.same ∙ may.unspoken;
      client = may.client;
      target = λ near. may.target (still_near left.gone near);
    }

-- A packet ends the session.
kept_ends : (o : Outside) (core middle : CoreState) (unheard : Unheard) (packet : Packet) (n : ℕ) (fault : _)
    (offset : ℕ) → IsReading o core unheard → target_front (streams_in core unheard) ≡ Front.whole packet n
    → TakesPacket core unheard.target.stream.at packet middle → IsKeptFault middle.machine fault offset
    → Stops o o core middle unheard (BadTarget fault offset 0)
kept_ends o core middle unheard packet n fault offset reading front takes kept =
    let may = may_tell o core unheard reading.may reading.taken_up.not_ended in
    let left = packet_left core middle unheard packet takes in
    let fewer = left.fewer kept.can_be_read in
    let room = may.ready.room in
    let same_limit = ap (λ (c : CoreState). c.limit) takes.same in
    stops_there o core middle middle unheard (packet_cut unheard n) _
    (packet_leads o core middle unheard packet n reading front takes)
    (λ limits turns limit. Cause.misheard_kept (record {
      nothing_due = waits_to_read (id_pending middle.commands) middle.machine kept.can_be_read;
      on = is_on limits middle (packet_cut unheard n) (same_limit ∙ limit) (omega (arith, fewer, room, same_limit));
    }) kept)
    (ap (λ (c : CoreState). c.words) takes.same ∙ may.unspoken) may.client
    (λ near. may.target (still_near left.gone near)) (alike middle) tt

refused_by : (o : Outside) (core core' : CoreState) (unheard : Unheard) (packet : Packet) (n : ℕ) (ending : Ending)
    → IsReading o core unheard → target_front (streams_in core unheard) ≡ Front.whole packet n
    → RefusesPacket core unheard.target.stream.at packet core' ending → Stops o o core core' unheard ending
refused_by o core core' unheard packet n ending reading front RefusesPacket.no_memory = forgets o core core' unheard
refused_by o core core' unheard packet n ending reading front (RefusesPacket.faulty fault like) =
    stops_here o core core' unheard _ (may_tell o core unheard reading.may reading.taken_up.not_ended)
    (λ limits turns limit. Cause.misheard (reads_target limits o core unheard reading limit)
    (fault unheard (record { taken = n; front = front; offset = refl }))) like tt
refused_by o core core' unheard packet n ending reading front (RefusesPacket.refused reply is_error is_bad like) =
    stops_here o core core' unheard _ (may_tell o core unheard reading.may reading.taken_up.not_ended)
    (λ limits turns limit. Cause.refused (reads_target limits o core unheard reading limit)
    (reply unheard (record { taken = n; front = front; offset = refl })) is_error is_bad) like tt
refused_by o core core' unheard packet n ending reading front (RefusesPacket.kept {fault} {offset} takes kept) =
    kept_ends o core core' unheard packet n fault offset reading front takes kept
refused_by o core core' unheard packet n ending reading front (RefusesPacket.floods takes more) =
    let may = may_tell o core unheard reading.may reading.taken_up.not_ended in
    let left = packet_left core core' unheard packet takes in
    floods o core core' core' unheard (packet_cut unheard n)
    (packet_leads o core core' unheard packet n reading front takes)
    (ap (λ (c : CoreState). c.words) takes.same ∙ may.unspoken) may.client
    (λ near. may.target (still_near left.gone near)) (ap (λ (c : CoreState). c.limit) takes.same) refl more

pub refuses_packet : {o : Outside} {core : CoreState} {unheard unheard' : Unheard} {shown : Shown}
    → IsReading o core unheard → Next unheard unheard' shown → (core' : CoreState) (ending : Ending)
    → RefusesPacket core (offset_of shown) (packet_of shown) core' ending → Stops o o core core' unheard ending
refuses_packet {o} {core} {unheard} {unheard'} {shown} reading next core' ending refuses =
    let found = next.found in
    refused_by o core core' unheard (packet_of shown) found.size ending reading found.front
    (subst (λ (at : ℕ). RefusesPacket core at (packet_of shown) core' ending) found.at refuses)

-- a byte that no packet has there
pub mispacks : {o : Outside} {core : CoreState} {unheard : Unheard} (ending : Ending) → IsReading o core unheard
    → IsMispacked unheard ending → Stops o o core core unheard ending
mispacks {o} {core} {unheard} ending reading (trouble, taken, is) =
    let found = answer_fault (received_front unheard.target.greeted unheard.target.stream.pending)
    unheard.target.stream.at trouble taken in
    subst (λ (e : Ending). Stops o o core core unheard e) (sym is)
    (subst (λ (at : ℕ). Stops o o core core unheard (BadTarget (mispacked trouble.fault) at 0)) (sym found.2)
    (stops_here o core core unheard _ (may_tell o core unheard reading.may reading.taken_up.not_ended)
    (λ limits turns limit. Cause.misheard (reads_target limits o core unheard reading limit)
    (IsTargetFault.bad_packet found.1)) (alike core) tt))

-- what was taken up stays so
pub taken_up_on : {old new : Outside} {core core' : CoreState} {unheard unheard' : Unheard} {shown : Shown}
    → IsTakenUp core unheard → Next unheard unheard' shown
    → Handles (TakesPacket core (offset_of shown) (packet_of shown)) old new core' → IsTakenUp core' unheard'
taken_up_on {core = core} {unheard = unheard} {shown = shown} taken next handles =
    let here = subst (λ (at : ℕ). TakesPacket core at (packet_of shown) handles.middle) next.found.at handles.heard in
    record {
      greeted = handles.goes_on.same_greeted
          ∙ (packet_left core handles.middle unheard (packet_of shown) here).heard ∙ taken.greeted
          ∙ sym (ap (λ (u : Unheard). u.target.greeted) next.left);
      not_ended = ap (λ (u : Unheard). u.ended) next.left ∙ taken.not_ended;
    }

-- Results ------------------------------------------------------------------------------------------------------------

pub on_both : {T E : Type 0} (result : Result T E) (P Q R : Type 0) → OnOk result P → OnOk result Q → (P → Q → R)
    → OnOk result R
on_both (Ok value) P Q R h k leads = leads h k
on_both (Err error) P Q R h k leads = tt

pub if_error : {T E : Type 0} (result : Result T E) (P Q : E → Type 0) → IfErr result P
    → ((error : E) → P error → Q error) → IfErr result Q
if_error (Ok value) P Q h leads = tt
if_error (Err error) P Q h leads = leads error h

-- What is kept of it --------------------------------------------------------------------------------------------------

-- the same, said of what is kept
pub goes_as : {old new : Outside} {core core' : CoreState} {unheard unheard' kept : Unheard} → unheard' ≡ kept
    → GoesOn old new core core' unheard kept → GoesOn old new core core' unheard unheard'
goes_as {old} {new} {core} {core'} {unheard} is h =
    subst (λ (k : Unheard). GoesOn old new core core' unheard k) (sym is) h

pub is_true : (inside now : Bool) → true ≡ inside → inside ≡ now → now ≡ true
is_true inside now is view = sym view ∙ sym is
