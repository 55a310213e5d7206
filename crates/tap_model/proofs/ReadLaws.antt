-- What is heard of each side are the packets of what came from it.
use Rattle.std.proofs.Common.{◌≡◌, ℕ, ◌+◌, List, [], ◌∷◌, ◌++◌, map, refl, sym, ap, subst, ◌∙◌, append_assoc}
use Rattle.std.proofs.Common.{append-nil}
use Rattle.std.proofs.lemmas.List.{map-append}
use Rattle.jdwp_packets.proofs.ReceivedLaws.{received-kept, taken-kept}
use Rattle.jdwp_packets.specs.Packets.{Packet, command_packet, reply_packet}
use Rattle.jdwp_packets.specs.Receiving.{HandsOut, Received, handed, received}
use Rattle.jdwp_packets.specs.declared.fault.PacketFault.{PacketFault}
use Rattle.jdwp_values.specs.declared.sizes.IdSizes.{IdSizes}
use Rattle.wire_core.specs.Streams.{Front, left, past}
use Rattle.tap_model.specs.Laws.{AreCut, AreRead}
use Rattle.tap_model.specs.Names.{Ask, Client, Debugger, Entry, In, Limits, of_question, Out, Owner, Side}
use Rattle.tap_model.specs.Names.{Sizes, Target}
use Rattle.tap_model.specs.Rules.{IsHeard, IsLearnt}
use Rattle.tap_model.specs.States.{Said, TapState, after, bytes_of, greets, hands, sends, side_of, taken_up, with_sizes}
use Rattle.tap_model.specs.Steps.{Message, front_of, said, tells}
use Rattle.tap_model.specs.Tapping.{Comes, Tapping}
use Rattle.tap_model.specs.Transcripts.{came_by, came_from, commands_read, packets_read}
use Rattle.tap_model.proofs.OwnerLaws.{heard_by, learnt_by}

-- Bytes that came -----------------------------------------------------------------------------------------------------

came-append : (side : Side) (log more : List Entry)
    → came_from side (log ++ more) ≡ came_from side log ++ came_from side more
came-append side [] more = refl
came-append side (entry ∷ log) more =
    ap (λ l. came_by side entry ++ l) (came-append side log more)
    ∙ sym (append_assoc (came_by side entry) (came_from side log) (came_from side more))

-- one entry more
came_more : (side : Side) (log : List Entry) (entry : Entry)
    → came_from side (log ++ entry ∷ []) ≡ came_from side log ++ came_by side entry
came_more side log entry =
    came-append side log (entry ∷ [])
    ∙ ap (λ l. came_from side log ++ l) (append-nil (came_by side entry))

came_none : (side : Side) (log : List Entry) (entry : Entry) → came_by side entry ≡ []
    → came_from side (log ++ entry ∷ []) ≡ came_from side log
came_none side log entry none =
    came_more side log entry ∙ (ap (λ l. came_from side log ++ l) none ∙ append-nil (came_from side log))

-- Packets that are cut ------------------------------------------------------------------------------------------------

-- a piece is cut later
cut_fed : (bytes piece : List ℕ) (packets : List Packet) (r : Received) → AreCut bytes packets r
    → AreCut (bytes ++ piece) packets (received r piece)
cut_fed bytes piece packets r cut = record {
  placed = cut.placed;
  cut = received-kept bytes cut.placed r.greeted r.stream piece cut.cut;
  are = cut.are;
}

-- a whole packet at the front is cut
cut_taken : (bytes : List ℕ) (packets : List Packet) (r : Received) (packet : Packet) (n : ℕ)
    → front_of r ≡ Front.whole packet n → AreCut bytes packets r
    → AreCut bytes (packets ++ packet ∷ []) (record r { stream = past r.stream n })
cut_taken bytes packets r packet n front cut = record {
  placed = cut.placed ++ (r.stream.at, packet) ∷ [];
  cut = subst (λ (f : Front Packet PacketFault). HandsOut bytes (cut.placed ++ handed f r.stream.at) r.greeted
      (left f r.stream)) front (taken-kept bytes cut.placed r.greeted r.stream cut.cut);
  are =
      map-append (λ (p : ℕ × Packet). p.1) cut.placed ((r.stream.at, packet) ∷ [])
      ∙ ap (λ (l : List Packet). l ++ packet ∷ []) cut.are;
}

-- Steps ---------------------------------------------------------------------------------------------------------------

-- what is said cuts nothing
uncut_by : (owner : Owner) (s : TapState)
    → ((taken_up owner s).debugger ≡ s.debugger) × ((taken_up owner s).target ≡ s.target)
uncut_by (Debugger id leaves) s = (refl, refl)
uncut_by Sizes s = (refl, refl)
uncut_by (of_question n) s = (refl, refl)

uncut : (what : Said) (s : TapState) → ((after what s).debugger ≡ s.debugger) × ((after what s).target ≡ s.target)
uncut (greets Client) s = (refl, refl)
uncut (greets Target) s = (refl, refl)
uncut (sends c) s = uncut_by c.owner _
uncut (hands bytes) s = (refl, refl)

said_read : (log : List Entry) (messages : List Message) (s : TapState) (what : Said) → AreRead log messages s
    → AreRead (log ++ Out (side_of what) (bytes_of what) ∷ []) (said what ∷ messages) (after what s)
said_read log messages s what read = record {
  debugger = rw (came_none Client log (Out (side_of what) (bytes_of what)) refl, (uncut what s).0) read.debugger;
  target = rw (came_none Target log (Out (side_of what) (bytes_of what)) refl, (uncut what s).1) read.target;
}

heard_read : (asks : List Ask) (log : List Entry) (messages : List Message) (s s' : TapState) (message : Message)
    → IsHeard asks s message s' → AreRead log messages s → AreRead log (message ∷ messages) s'
heard_read asks log messages s _ _ (IsHeard.commanded {id} {set} {number} {n} {body} a b) read = record {
  debugger = cut_taken (came_from Client log) (commands_read messages) s.debugger (command_packet id set number body) n
      a.here read.debugger;
  target = read.target;
}
heard_read asks log messages s _ _ (IsHeard.told {id} {set} {number} {n} {body} a b) read = record {
  debugger = read.debugger;
  target = cut_taken (came_from Target log) (packets_read messages) s.target (command_packet id set number body) n
      a.here read.target;
}
heard_read asks log messages s _ _ (IsHeard.replied {id} {error} {n} {own} {body} a b) read = record {
  debugger = read.debugger;
  target = cut_taken (came_from Target log) (packets_read messages) s.target (reply_packet id error body) n
      a.at_target.here read.target;
}
heard_read asks log messages s _ _ (IsHeard.answered {id} {error} {n} {question} {body} a b c d) read = record {
  debugger = read.debugger;
  target = cut_taken (came_from Target log) (packets_read messages) s.target (reply_packet id error body) n
      a.at_target.here read.target;
}
heard_read asks log messages s _ _ (IsHeard.refused {id} {error} {n} {question} {body} a b) read = record {
  debugger = read.debugger;
  target = cut_taken (came_from Target log) (packets_read messages) s.target (reply_packet id error body) n
      a.at_target.here read.target;
}

learnt_read : (asks : List Ask) (log : List Entry) (messages : List Message) (s s' : TapState) (packet : Packet)
    (numbers : List ℕ) (sizes : IdSizes) → IsLearnt asks s packet numbers s' → AreRead log messages s
    → AreRead log (tells packet ∷ messages) (with_sizes asks sizes s')
learnt_read asks log messages s _ _ _ sizes (IsLearnt.sized {id} {error} {n} {body} a b c d) read = record {
  debugger = read.debugger;
  target = cut_taken (came_from Target log) (packets_read messages) s.target (reply_packet id error body) n
      a.at_target.here read.target;
}

come_read : (log : List Entry) (messages : List Message) (s s' : TapState) (entry : Entry) → Comes s entry s'
    → AreRead log messages s → AreRead (log ++ entry ∷ []) messages s'
come_read log messages s _ entry (Comes.of_debugger {bytes}) read = record {
  debugger = rw (came_more Client log (In Client bytes))
      (cut_fed (came_from Client log) bytes (commands_read messages) s.debugger read.debugger);
  target = rw (came_none Target log (In Client bytes) refl) read.target;
}
come_read log messages s _ entry (Comes.of_target {bytes}) read = record {
  debugger = rw (came_none Client log (In Target bytes) refl) read.debugger;
  target = rw (came_more Target log (In Target bytes))
      (cut_fed (came_from Target log) bytes (packets_read messages) s.target read.target);
}
come_read log messages s _ entry Comes.passes_quiet read = record {
  debugger = rw (came_none Client log entry refl) read.debugger;
  target = rw (came_none Target log entry refl) read.target;
}

-- nothing came yet
nothing_cut : (r : Received) → HandsOut [] [] r.greeted r.stream
    → AreCut [] [] r
nothing_cut r cut = record { placed = []; cut = cut; are = refl }

pub are_read : {limits : Limits} {asks : List Ask} {log : List Entry} {messages : List Message} {turns : ℕ}
    {s : TapState} → Tapping limits asks log messages turns s → AreRead log messages s
are_read Tapping.begins = record { debugger = nothing_cut _ (refl, refl); target = nothing_cut _ (refl, refl) }
are_read (Tapping.says {log} {messages} {s} {what} t h) = said_read log messages s what (are_read t)
are_read {asks} (Tapping.hears {log} {messages} {s} {s'} {message} t h) =
    heard_read asks log messages s s' message (heard_by asks s h) (are_read t)
are_read {asks} (Tapping.learns {log} {messages} {s} {s'} {packet} {numbers} {sizes} t h e) =
    learnt_read asks log messages s s' packet numbers sizes (learnt_by asks s h) (are_read t)
are_read (Tapping.happens {log} {messages} {s} {s'} {entry} t listens comes) =
    come_read log messages s s' entry comes (are_read t)
