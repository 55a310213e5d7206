-- What the calls of a core do: moves of the translation machine, message by message.
use Rattle.std.specs.Prelude.{ℕ, ◌≡◌, ◌<◌, ◌^◌, ◌∷◌, true, false, List, [], Option, None, Some, Ok, Err, length, ◌+◌}
use Rattle.std.specs.Prelude.{◌++◌}
use Rattle.dap_messages.specs.Reading.{reading_of}
use Rattle.dap_messages.specs.declared.requests.Incoming.TheVariants.{Ignored as ignored, Request as a_request}
use Rattle.dap_messages.specs.declared.requests.ReadFault.TheVariants.{NotAMessage as no_message, NotJson as no_json}
use Rattle.dap_messages.specs.declared.requests.Request.{Request}
use Rattle.jdwp_commands.specs.Commands.{number_of}
use Rattle.jdwp_packets.specs.Packets.{Packet, command_packet, reply_packet}
use Rattle.jdwp_packets.specs.declared.cutter.Packet.{Packet as Shown}
use Rattle.jdwp_packets.specs.declared.cutter.Packet.TheVariants.{Command, Reply}
use Rattle.machine_model.specs.Due.{can_read, due}
use Rattle.machine_model.specs.Replying.{SizesFor, ended, is_tolerated, wire}
use Rattle.machine_model.specs.Runs.{Allows, Message, Takes as IsTaken, heard}
use Rattle.machine_model.specs.State.{Machine, has_raw, is_gone}
use Rattle.machine_model.specs.declared.acts.Act.{Act}
use Rattle.machine_model.specs.declared.acts.TargetCommand.{TargetCommand}
use Rattle.machine_model.specs.declared.items.Phase.{Phase}
use Rattle.machine_model.specs.declared.parts.Finish.TheVariants.{Done as finish_done, OneThread as finish_one_thread}
use Rattle.bridge_core.specs.Cores.{CoreState, Unheard, session_in, streams_in, with_machine}
use Rattle.jdwp_events.specs.Composites.{composite_at}
use Rattle.jdwp_events.specs.declared.composite.Composite.{Composite}
use Rattle.jdwp_values.specs.declared.sizes.IdSizes.{IdSizes}
use Rattle.machine_model.specs.declared.items.Item.TheVariants.{Composite as a_composite, Raw as a_raw}
use Rattle.machine_model.specs.declared.items.Item.{Item}
use Rattle.machine_model.specs.declared.parts.Finish.{Finish}
use Rattle.session_model.specs.Faults.{HasReply, IsKeptFault, IsTargetFault}
use Rattle.target_bodies.specs.Hearing.{header}
use Rattle.session_model.specs.LastWords.{LastWord, last_word_said, last_words, word_bytes, word_side}
use Rattle.session_model.specs.Saying.{PacketSays, Speaks}
use Rattle.session_model.specs.States.{id_pending, target_front}
use Rattle.session_endings.specs.declared.ending.ClientFault.TheVariants.{NotAMessage, NotJson}
use Rattle.session_endings.specs.declared.ending.Ending.{Ending}
use Rattle.session_endings.specs.declared.ending.Ending.TheVariants.{BadClient, BadTarget, Done, Flood, NoMemory}
use Rattle.session_endings.specs.declared.ending.Ending.TheVariants.{TargetRefused}
use Rattle.session_endings.specs.declared.ending.TargetFault.TheVariants.{PolicyThread}
use Rattle.session_endings.specs.declared.ending.TargetFault.{TargetFault}
use Rattle.wire_core.specs.Streams.{Front}
use Rattle.wire_core.specs.declared.outside.Side.{Side}
use Rattle.wire_core.specs.declared.outside.Side.TheVariants.{Client}

-- What goes out -------------------------------------------------------------------------------------------------------

-- the machine goes from one place to another by steps that nobody sees
pub data Goes : Machine → Machine → Type 0 where
  stays : {m : Machine} → Goes m m
  goes : {m next : Machine} → Goes m next → (due false next).act ≡ Act.Goes → Goes m (due false next).next

-- a message goes out: what the machine tells or sends next, as bytes
pub record Sends (old : CoreState) (side : Side) (bytes : List ℕ) (new : CoreState) : Type 0 where
  pub before : Machine
  pub message : Message
  pub goes : Goes old.machine before
  pub allows : Allows before message new.machine
  pub speaks : (unheard : Unheard)
      → Speaks (session_in (with_machine old before) unheard) message side bytes (streams_in new unheard)
  -- a message that is told has a number below 2^63
  pub small : side ≡ Client → new.told < 2 ^ 63
  pub same : new ≡ record old { machine = new.machine; told = new.told; commands = new.commands }

-- nothing has to be sent until something comes
pub record IsIdle (old new : CoreState) : Type 0 where
  pub goes : Goes old.machine new.machine
  pub nothing_due : (due (id_pending new.commands) new.machine).act ≡ Act.Waits
  pub same : new ≡ with_machine old new.machine

-- How the machine's end ends the session: it is done; or a composite suspended one thread alone, and the fault stands at
-- its suspend policy, behind the header of its packet (JDWP, Event command set, Composite; JDWP, Constants,
-- SuspendPolicy).
abbrev pub finish_ending : Finish → Ending
finish_ending finish_done = Done
finish_ending (finish_one_thread at) = BadTarget PolicyThread (at + header) 0

-- the machine found that the session is over
pub record IsOver (old : CoreState) (finish : Finish) (new : CoreState) : Type 0 where
  pub goes : Goes old.machine new.machine
  pub is_due : (due (id_pending new.commands) new.machine).act ≡ Act.Over finish
  pub same : new ≡ with_machine old new.machine

-- want of memory is free; any other ending is the machine's
pub data Finds (old new : CoreState) : Ending → Type 0 where
  no_memory : Finds old new NoMemory
  over : {finish : Finish} → IsOver old finish new → Finds old new (finish_ending finish)

-- What the client says ------------------------------------------------------------------------------------------------

-- A body was heard: a request waits for its turn, a message of another kind is passed over, and so is whatever comes
-- behind a `disconnect`.
pub data Takes (old : CoreState) (body : List ℕ) (new : CoreState) : Type 0 where
  hears : {request : Request} → reading_of body ≡ Ok (a_request request) → old.machine.closing ≡ false
      → new ≡ with_machine old (heard old.machine request) → Takes old body new
  passes : reading_of body ≡ Ok ignored → new ≡ old → Takes old body new
  is_closed : old.machine.closing ≡ true → new ≡ old → Takes old body new

-- A body that is no message ends the session at the offset of its first byte; and a request does for which there is no
-- room.
pub data Refuses (old : CoreState) (body : List ℕ) (at : ℕ) (new : CoreState) : Ending → Type 0 where
  no_memory : Refuses old body at new NoMemory
  not_json : reading_of body ≡ Err no_json → new ≡ old → Refuses old body at new (BadClient NotJson at)
  not_a_message : reading_of body ≡ Err no_message → new ≡ old → Refuses old body at new (BadClient NotAMessage at)
  floods : Takes old body new → new.limit < length new.machine.waiting → Refuses old body at new Flood

-- What the target says ------------------------------------------------------------------------------------------------

-- the offset in the target's stream of a packet, as the cutter hands it out
abbrev pub offset_of : Shown → ℕ
offset_of (Command at id set number body) = at
offset_of (Reply at id error body) = at

-- its body
abbrev pub body_of : Shown → List ℕ
body_of (Command at id set number body) = body.now
body_of (Reply at id error body) = body.now

-- the packet itself
abbrev pub packet_of : Shown → Packet
packet_of (Command at id set number body) = command_packet id set number body.now
packet_of (Reply at id error body) = reply_packet id error body.now

-- the first of the composites that were kept is read
pub record ReadsOne (m next : Machine) : Type 0 where
  pub before : List Item
  pub after : List Item
  pub at : ℕ
  pub body : List ℕ
  pub composite : Composite
  pub used : IdSizes
  pub serves : SizesFor m.state.sizes used
  pub reads : composite_at used body ≡ Ok composite
  pub can : can_read m ≡ true
  pub were : m.waiting ≡ before ++ a_raw at body ∷ after
  pub is_first : has_raw before ≡ false
  pub taken : IsTaken m.state composite
  pub are : next ≡ record m { waiting = before ++ a_composite at composite ∷ after }

-- some of them are read, one by one
pub data AreRead : Machine → Machine → Type 0 where
  none : {m : Machine} → AreRead m m
  one_more : {m next : Machine} (middle : Machine) → AreRead m middle → ReadsOne middle next → AreRead m next

-- A packet was heard: a composite is taken or kept, or a command is replied to; and behind it composites are read that
-- were kept.
pub record TakesPacket (old : CoreState) (at : ℕ) (packet : Packet) (new : CoreState) : Type 0 where
  pub message : Message
  pub says : (unheard : Unheard) → unheard.target.stream.at ≡ at
      → PacketSays (session_in old unheard) packet message new.commands
  pub behind : Machine
  pub allows : Allows old.machine message behind
  pub reads : AreRead behind new.machine
  pub same : new ≡ record old { machine = new.machine; commands = new.commands }

-- this packet stands at the front of the target's uncut bytes, at this offset
pub record IsAtFront (old : CoreState) (at : ℕ) (packet : Packet) (unheard : Unheard) : Type 0 where
  pub taken : ℕ
  pub front : target_front (streams_in old unheard) ≡ Front.whole packet taken
  pub offset : unheard.target.stream.at ≡ at

-- nothing changed but which commands are pending
pub record IsLike (old new : CoreState) : Type 0 where
  pub same : new ≡ record old { commands = new.commands }
  pub next : new.commands.next ≡ old.commands.next

-- A packet ends the session: by a fault of its own, by a refusal that isn't tolerated, by a fault of the next composite
-- that was kept until its reply gave the sizes of ids, or since there is no room for it.
pub data RefusesPacket (old : CoreState) (at : ℕ) (packet : Packet) (new : CoreState) : Ending → Type 0 where
  no_memory : RefusesPacket old at packet new NoMemory
  faulty : {fault : TargetFault} {offset id : ℕ}
      → ((unheard : Unheard) → IsAtFront old at packet unheard
      → IsTargetFault (session_in old unheard) fault offset id)
      → IsLike old new → RefusesPacket old at packet new (BadTarget fault offset id)
  refused : {command : TargetCommand} {error : ℕ} {body : List ℕ}
      → ((unheard : Unheard) → IsAtFront old at packet unheard
      → HasReply (session_in old unheard) command error body)
      → 0 < error → is_tolerated command error ≡ false → IsLike old new
      → RefusesPacket old at packet new
      (TargetRefused (number_of (wire command)).0 (number_of (wire command)).1 error)
  kept : {fault : TargetFault} {offset : ℕ} → TakesPacket old at packet new → IsKeptFault new.machine fault offset
      → RefusesPacket old at packet new (BadTarget fault offset 0)
  floods : TakesPacket old at packet new → new.limit < length new.machine.waiting
      → RefusesPacket old at packet new Flood

-- the target's end was taken up
abbrev pub without_target : CoreState → CoreState
without_target core = with_machine core (ended (is_gone core.machine.state.phase) core.machine)

-- it ends the session where too many items wait
pub data RefusesEnd (old new : CoreState) : Ending → Type 0 where
  no_memory : RefusesEnd old new NoMemory
  floods : new ≡ without_target old → new.limit < length new.machine.waiting → RefusesEnd old new Flood

-- the session of this machine stands so with its target
abbrev pub in_phase : Phase → Machine → Machine
in_phase phase m = record m { state = record m.state { phase = phase } }

-- Last words ----------------------------------------------------------------------------------------------------------

-- those that are left of an ending's, or all before the first was asked for
abbrev pub words_of : Option (List LastWord) → Ending → Machine → List LastWord
words_of None ending m = last_words ending m
words_of (Some words) ending m = words

-- the last words that a core has to say
abbrev pub words_left : Ending → CoreState → List LastWord
words_left ending core = words_of core.words ending core.machine

-- the next of an ending's last words goes out, and the others are left
pub record SaysWord (ending : Ending) (old : CoreState) (side : Side) (bytes : List ℕ) (new : CoreState) : Type 0
  where
    pub word : LastWord
    pub left : words_left ending old ≡ word ∷ words_left ending new
    pub side_is : side ≡ word_side word
    pub bytes_are : (unheard : Unheard) → bytes ≡ word_bytes (streams_in old unheard) word
    pub streams_are : (unheard : Unheard) → streams_in new unheard ≡ last_word_said (streams_in old unheard) word
    pub same : new ≡ record old { told = new.told; words = new.words }
    pub small : side ≡ Client → new.told < 2 ^ 63

-- all were said
pub record SaysNoMore (ending : Ending) (old new : CoreState) : Type 0 where
  pub none_left : words_left ending old ≡ []
  pub still_none : words_left ending new ≡ []
  pub same : new ≡ record old { words = new.words }
