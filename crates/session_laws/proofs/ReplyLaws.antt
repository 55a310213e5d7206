-- What the target's bytes say in a session are its replies and its composites.
use Rattle.std.proofs.Common.{◌≡◌, ℕ, ◌+◌, ◌%◌, Bool, true, false, List, [], ◌∷◌, ◌++◌, drop, map, Option}
use Rattle.std.proofs.Common.{Some, None, refl, sym, ap, subst, ◌∙◌, arith}
use Rattle.std.proofs.lemmas.List.{drop-drop, drop_at, map-append}
use Rattle.jdwp_commands.specs.declared.asked.Asked.{Asked}
use Rattle.jdwp_packets.proofs.ReceivedLaws.{received-kept, taken-kept}
use Rattle.jdwp_packets.specs.Packets.{Packet, handshake, packet_front}
use Rattle.jdwp_packets.specs.Packets.{reply_packet}
use Rattle.jdwp_packets.specs.Receiving.{HandsOut, Received, handed, received_front}
use Rattle.jdwp_packets.specs.declared.fault.PacketFault.{PacketFault}
use Rattle.machine_model.specs.Replying.{wire}
use Rattle.machine_model.specs.Runs.{Message, Run}
use Rattle.machine_model.specs.State.{Machine}
use Rattle.pending_table.proofs.WindowLaws.{apart_more, apart_without, just_one_left_out, next_goes_on}
use Rattle.pending_table.specs.Places.{AreApart}
use Rattle.pending_table.specs.Windows.{Window, id_of, pending_under, settled, turn, with_sent, without}
use Rattle.session_model.specs.Names.{Entry, In, Limits, Out, Replied, Side, Target, TargetCommand}
use Rattle.session_laws.specs.Bytes.{came_by, came_from}
use Rattle.session_laws.specs.Replies.{ArePackets, under_id}
use Rattle.session_model.specs.Saying.{Brings, PacketSays, SaysReply, Speaks}
use Rattle.session_model.specs.Session.{Going, Comes}
use Rattle.session_model.specs.States.{SessionState, StreamState, past_packet, target_front}
use Rattle.session_laws.proofs.HearLaws.{Hands-rest}
use Rattle.session_laws.proofs.RunLaws.{is_run}
use Rattle.session_laws.proofs.Steps.{flat_map_one_more, flat_map_same}
use Rattle.wire_core.specs.Streams.{Front, Uncut, left, past}

-- Bytes ---------------------------------------------------------------------------------------------------------------

-- what is left once packets were handed out are the bytes from its offset on
pub left_from : (bytes : List ℕ) (packets : List (ℕ × Packet)) (greeted : Bool) (stream : Uncut)
    → HandsOut bytes packets greeted stream → stream.pending ≡ drop stream.at bytes
left_from bytes packets true stream (more, parts, hands) =
    let (n, offset, pending) = Hands-rest packet_front (record { at = 14; pending = more }) packets stream hands in
    let rest : drop 14 bytes ≡ more = ap (drop 14) parts ∙ drop_at handshake more 14 refl in
    pending ∙ ap (drop n) (sym rest) ∙ drop-drop n 14 bytes ∙ ap (λ (k : ℕ). drop k bytes) (sym offset)
left_from bytes packets false stream (none, same) = rw same refl

-- one packet more is handed out
one_packet : (bytes : List ℕ) (packets : List (ℕ × Packet)) (target : Received) {packet : Packet} {n : ℕ}
    → received_front target.greeted target.stream.pending ≡ Front.whole packet n
    → HandsOut bytes packets target.greeted target.stream
    → HandsOut bytes (packets ++ (target.stream.at, packet) ∷ []) target.greeted (past target.stream n)
one_packet bytes packets target whole h =
    subst (λ (f : Front Packet PacketFault). HandsOut bytes (packets ++ handed f target.stream.at) target.greeted
    (left f target.stream)) whole (taken-kept bytes packets target.greeted target.stream h)

-- Commands without a reply --------------------------------------------------------------------------------------------

-- what the window holds are the commands without a reply, each under its id
pub record IsHeld (window : Window) (count : ℕ) (unreplied : List (ℕ × Asked)) : Type 0 where
  pub number : window.next ≡ count % turn
  pub pending : window.sent ≡ map under_id unreplied
  pub apart : AreApart window.sent

same_id : (next count : ℕ) → next ≡ count % turn → id_of next ≡ id_of count
same_id next count is = omega (arith, is)

none_under : (found : Option Asked) → Rattle.std.specs.Prelude.is_some found ≡ false → found ≡ None
none_under None is = refl
none_under (Some asked) is = cc

one_held : {window : Window} {count : ℕ} {unreplied : List (ℕ × Asked)} (asked : Asked)
    → pending_under (id_of window.next) window.sent ≡ None → IsHeld window count unreplied
    → IsHeld (with_sent asked window) (count + 1) (unreplied ++ (count, asked) ∷ [])
one_held {window} {count} {unreplied} asked free h = record {
  number = ap (λ (n : ℕ). (n + 1) % turn) h.number ∙ next_goes_on count;
  pending = ap (λ (sent : List (ℕ × Asked)). sent ++ (id_of window.next, asked) ∷ []) h.pending
      ∙ ap (λ (id : ℕ). map under_id unreplied ++ (id, asked) ∷ []) (same_id window.next count h.number)
      ∙ sym (map-append under_id unreplied ((count, asked) ∷ []));
  apart = apart_more window.sent (id_of window.next, asked) h.apart free;
}

-- the command that is pending under an id stands among those without a reply
record IsAmong (unreplied front back : List (ℕ × Asked)) (id : ℕ) (asked : Asked) : Type 0 where
  pub number : ℕ
  pub before : List (ℕ × Asked)
  pub after : List (ℕ × Asked)
  pub is : unreplied ≡ before ++ (number, asked) ∷ after
  pub id_is : id_of number ≡ id
  pub others : front ++ back ≡ map under_id (before ++ after)

-- one more in front of all
one_before : {unreplied front back : List (ℕ × Asked)} {id : ℕ} {asked : Asked} (command first : ℕ × Asked)
    → under_id command ≡ first → IsAmong unreplied front back id asked
    → IsAmong (command ∷ unreplied) (first ∷ front) back id asked
one_before {front} {back} command first here s = record {
  number = s.number;
  before = command ∷ s.before;
  after = s.after;
  is = ap (λ (l : List (ℕ × Asked)). command ∷ l) s.is;
  id_is = s.id_is;
  others = ap (λ (x : ℕ × Asked). x ∷ (front ++ back)) (sym here)
      ∙ ap (λ (l : List (ℕ × Asked)). under_id command ∷ l) s.others;
}

are_among : (unreplied front back : List (ℕ × Asked)) (id : ℕ) (asked : Asked)
    → map under_id unreplied ≡ front ++ (id, asked) ∷ back → IsAmong unreplied front back id asked
are_among [] [] back id asked is = cc
are_among [] (first ∷ front) back id asked is = cc
are_among ((n, a) ∷ unreplied) [] back id asked is =
    let here : under_id (n, a) ≡ (id, asked) = cc in
    let rest : map under_id unreplied ≡ back = cc in
    record {
      number = n;
      before = [];
      after = unreplied;
      is = ap (λ (command : ℕ × Asked). (n, command.1) ∷ unreplied) here;
      id_is = ap (λ (command : ℕ × Asked). command.0) here;
      others = sym rest;
    }
are_among (command ∷ unreplied) (first ∷ front) back id asked is =
    let here : under_id command ≡ first = cc in
    let rest : map under_id unreplied ≡ front ++ (id, asked) ∷ back = cc in
    one_before command first here (are_among unreplied front back id asked rest)

-- What was said -------------------------------------------------------------------------------------------------------

-- the packets that came, and the commands that they answer
pub record IsSaid (log : List Entry) (messages : List Message) (s : SessionState) : Type 0 where
  pub packets : List (ℕ × Packet)
  pub count : ℕ
  pub unreplied : List (ℕ × Asked)
  pub cut : HandsOut (came_from Target log) packets s.streams.target.greeted s.streams.target.stream
  pub said : ArePackets packets messages count unreplied
  pub held : IsHeld s.streams.commands count unreplied

-- nothing comes of the target, and nothing goes to it
stays : {log later : List Entry} {messages : List Message} {s : SessionState} (next : SessionState)
    → came_from Target later ≡ came_from Target log → next.streams.target ≡ s.streams.target
    → next.streams.commands ≡ s.streams.commands → IsSaid log messages s → IsSaid later messages next
stays next bytes target commands h = record {
  packets = h.packets;
  count = h.count;
  unreplied = h.unreplied;
  cut = rw (bytes, target) h.cut;
  said = h.said;
  held = rw commands h.held;
}

-- one more message, of which the target's bytes say nothing
beside : {log later : List Entry} {messages : List Message} {s : SessionState} (next : SessionState) (message : Message)
    → came_from Target later ≡ came_from Target log → next.streams.target ≡ s.streams.target
    → next.streams.commands ≡ s.streams.commands
    → ((packets : List (ℕ × Packet)) (count : ℕ) (unreplied : List (ℕ × Asked))
    → ArePackets packets messages count unreplied → ArePackets packets (messages ++ message ∷ []) count unreplied)
    → IsSaid log messages s → IsSaid later (messages ++ message ∷ []) next
beside next message bytes target commands more h = record {
  packets = h.packets;
  count = h.count;
  unreplied = h.unreplied;
  cut = rw (bytes, target) h.cut;
  said = more h.packets h.count h.unreplied h.said;
  held = rw commands h.held;
}

-- one more packet, which is no reply
one_more : {log : List Entry} {messages : List Message} {s : SessionState} (next : SessionState) (message : Message)
    {packet : Packet} {n : ℕ}
    → target_front s.streams ≡ Front.whole packet n → next.streams ≡ past_packet s.streams n
    → ((packets : List (ℕ × Packet)) (count : ℕ) (unreplied : List (ℕ × Asked))
    → ArePackets packets messages count unreplied
    → ArePackets (packets ++ (s.streams.target.stream.at, packet) ∷ []) (messages ++ message ∷ []) count unreplied)
    → IsSaid log messages s → IsSaid log (messages ++ message ∷ []) next
one_more {log} {s} next message {packet} whole streams more h = record {
  packets = h.packets ++ (s.streams.target.stream.at, packet) ∷ [];
  count = h.count;
  unreplied = h.unreplied;
  cut = rw streams (one_packet (came_from Target log) h.packets s.streams.target whole h.cut);
  said = more h.packets h.count h.unreplied h.said;
  held = rw streams h.held;
}

-- a reply
answering : {log : List Entry} {messages : List Message} {s : SessionState} {id error n : ℕ} {body : List ℕ}
    {command : TargetCommand} {replied : Replied} {front back : List (ℕ × Asked)} (next : Machine)
    → target_front s.streams ≡ Front.whole (reply_packet id error body) n → Run messages s.machine
    → SaysReply s.machine.state.sizes command error body replied
    → without id s.streams.commands.sent ≡ front ++ back → (h : IsSaid log messages s)
    → IsAmong h.unreplied front back id (wire command)
    → IsSaid log (messages ++ Message.answers command replied ∷ []) (record s {
      machine = next;
      streams = record (past_packet s.streams n) { commands = settled id s.streams.commands };
    })
answering {log} {messages} {s} {id} {error} {body} {command} {replied} next whole run says others h a =
    let offset : ℕ = s.streams.target.stream.at in
    record {
      packets = h.packets ++ (offset, reply_packet id error body) ∷ [];
      count = h.count;
      unreplied = a.before ++ a.after;
      cut = one_packet (came_from Target log) h.packets s.streams.target whole h.cut;
      said = subst (λ (i : ℕ). ArePackets (h.packets ++ (offset, reply_packet i error body) ∷ [])
          (messages ++ Message.answers command replied ∷ []) h.count (a.before ++ a.after)) a.id_is
          (ArePackets.answers offset a.number a.before a.after run says
          (subst (λ (l : List (ℕ × Asked)). ArePackets h.packets messages h.count l) a.is h.said));
      held = record {
        number = h.held.number;
        pending = others ∙ a.others;
        apart = apart_without id s.streams.commands.sent h.held.apart;
      };
    }

-- what comes in
brings : {log : List Entry} {messages : List Message} {s : SessionState} {message : Message} {streams : StreamState}
    (next : Machine) → Run messages s.machine → Brings s message streams → IsSaid log messages s
    → IsSaid log (messages ++ message ∷ []) (record s { machine = next; streams = streams })
brings {message} next run (Brings.hears whole reading) h =
    beside _ message refl refl refl (λ packets count unreplied said. ArePackets.beside message refl said) h
brings {message} next run (Brings.greeted came) h =
    beside _ message refl refl refl (λ packets count unreplied said. ArePackets.beside message refl said) h
brings next run (Brings.packet heard whole (PacketSays.answers {id} {command} under says)) h =
    let one = just_one_left_out id (wire command) _ under in
    answering next whole run says one.others_are h
    (are_among h.unreplied one.front one.back id (wire command) (sym h.held.pending ∙ one.sent_are))
brings {s} {message} next run
    (Brings.packet heard whole (PacketSays.comes {id} {set} {number} {body} {composite} is serves reads)) h =
    one_more _ message whole refl
    (λ packets count unreplied said.
    ArePackets.comes s.streams.target.stream.at id set number body composite is run serves reads said) h
brings {s} {message} next run (Brings.packet heard whole (PacketSays.keeps {id} {set} {number} {body} is)) h =
    one_more _ message whole refl
    (λ packets count unreplied said. ArePackets.keeps s.streams.target.stream.at id set number body is said) h
brings {message} next run (Brings.ends came) h =
    beside _ message refl refl refl (λ packets count unreplied said. ArePackets.beside message refl said) h
brings {message} next run (Brings.reads {at} {body} {composite} serves reads) h =
    beside _ message refl refl refl
    (λ packets count unreplied said. ArePackets.reads at body composite run serves reads said) h

-- what goes out
speaks : {log : List Entry} {messages : List Message} {s : SessionState} {message : Message} {side : Side}
    {bytes : List ℕ} {streams : StreamState} (next : Machine) → Speaks s message side bytes streams
    → IsSaid log messages s
    → IsSaid (log ++ Out side bytes ∷ []) (messages ++ message ∷ []) (record s { machine = next; streams = streams })
speaks {log} {message} next Speaks.tells h =
    beside _ message (flat_map_same (came_by Target) log _ refl) refl refl
    (λ packets count unreplied said. ArePackets.beside message refl said) h
speaks {log} {message} next Speaks.greets h =
    beside _ message (flat_map_same (came_by Target) log _ refl) refl refl
    (λ packets count unreplied said. ArePackets.beside message refl said) h
speaks {log} next (Speaks.sends {command} apart serves) h = record {
  packets = h.packets;
  count = h.count + 1;
  unreplied = h.unreplied ++ (h.count, wire command) ∷ [];
  cut = rw (flat_map_same (came_by Target) log (Out Target _) refl) h.cut;
  said = ArePackets.sends command h.said;
  held = one_held (wire command) (none_under _ apart) h.held;
}

-- what comes from the outside
happens : {log : List Entry} {messages : List Message} {s : SessionState} {entry : Entry} {streams : StreamState}
    (n : ℕ) → Comes s.streams entry streams → IsSaid log messages s
    → IsSaid (log ++ entry ∷ []) messages (record s { streams = streams; quiets = n })
happens {log} n Comes.piece h = stays _ (flat_map_same (came_by Target) log _ refl) refl refl h
happens {log} {s} n (Comes.packets {bytes}) h =
    let target : Received = s.streams.target in
    record {
      packets = h.packets;
      count = h.count;
      unreplied = h.unreplied;
      cut = rw (flat_map_one_more (came_by Target) log (In Target bytes))
          (received-kept (came_from Target log) h.packets target.greeted target.stream bytes h.cut);
      said = h.said;
      held = h.held;
    }
happens {log} n Comes.ends h = stays _ (flat_map_same (came_by Target) log _ refl) refl refl h
happens {log} n Comes.passes_quiet h = stays _ (flat_map_same (came_by Target) log _ refl) refl refl h

pub is_said : {limits : Limits} {log : List Entry} {messages : List Message} {turns : ℕ} {s : SessionState}
    → Going limits log messages turns s → IsSaid log messages s
is_said Going.begins = record {
  packets = [];
  count = 0;
  unreplied = [];
  cut = (refl, refl);
  said = ArePackets.none;
  held = record { number = refl; pending = refl; apart = tt };
}
is_said (Going.goes g on is) = stays _ refl refl refl (is_said g)
is_said (Going.speaks {next} g on allows says) = speaks next says (is_said g)
is_said (Going.hears {next} g reads allows comes) = brings next (is_run g) comes (is_said g)
is_said (Going.ignores g reads whole reading) = stays _ refl refl refl (is_said g)
is_said (Going.happens g listens comes) = happens _ comes (is_said g)
