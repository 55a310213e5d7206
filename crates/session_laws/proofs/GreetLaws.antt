-- The target's handshake and its end are taken up where they came, and the window is the machine's.
use Rattle.std.proofs.Common.{◌≡◌, ◌≤◌, ℕ, ◌+◌, ◌||◌, Bool, true, false, cond, List, [], ◌∷◌, ◌++◌, length, refl, sym}
use Rattle.std.proofs.Common.{ap, subst, ◌∙◌, arith}
use Rattle.std.proofs.lemmas.List.Sums.{sum_by-append}
use Rattle.std.specs.List.{count_by}
use Rattle.jdwp_commands.specs.declared.asked.Asked.{Asked}
use Rattle.jdwp_packets.proofs.Greetings.{greeted-from}
use Rattle.jdwp_packets.specs.Packets.{IsGreeted, Packet, greeting_front, handshake}
use Rattle.jdwp_packets.specs.Receiving.{HandsOut, Received, greeted_by, received}
use Rattle.jdwp_packets.specs.declared.fault.PacketFault.{PacketFault}
use Rattle.machine_model.specs.Pending.{has_such, is_greeted}
use Rattle.machine_model.specs.Pending.{count as count_of}
use Rattle.machine_model.specs.Replying.{pending_of}
use Rattle.machine_model.specs.Runs.{Message, Run}
use Rattle.machine_steps.proofs.PendingLaws.{all_open, in_window}
use Rattle.session_model.specs.Names.{Entry, In, Limits, Out, Side, Target, TargetCommand}
use Rattle.session_laws.specs.Bytes.{came_by, came_from}
use Rattle.session_laws.specs.Replies.{AreReplied, count_under, is_end_come, is_end_taken, one_if}
use Rattle.session_model.specs.Saying.{Brings, PacketSays, Speaks}
use Rattle.session_model.specs.Session.{Going, Comes}
use Rattle.session_model.specs.States.{SessionState, StreamState}
use Rattle.session_laws.proofs.DeferredLaws.{are_kept}
use Rattle.session_laws.proofs.PendingLaws.{same_pending}
use Rattle.session_laws.proofs.ReplyLaws.{IsSaid, is_said, left_from}
use Rattle.session_laws.proofs.RunLaws.{is_run}
use Rattle.session_laws.proofs.Steps.{flat_map_one_more, flat_map_same}
use Rattle.wire_core.specs.Streams.{Front, Uncut, fed}

-- Counts --------------------------------------------------------------------------------------------------------------

count_none : {X : Type 0} (is : X → Bool) (xs : List X) (x : X) → is x ≡ false
    → count_by is (xs ++ x ∷ []) ≡ count_by is xs
count_none is xs x none =
    let last : count_by is (x ∷ []) ≡ 0 = rw none refl in
    omega (arith, last, sum_by-append (λ y. cond (is y) 1 0) xs (x ∷ []))

count_one : {X : Type 0} (is : X → Bool) (xs : List X) (x : X) → is x ≡ true
    → count_by is (xs ++ x ∷ []) ≡ count_by is xs + 1
count_one is xs x one =
    let last : count_by is (x ∷ []) ≡ 1 = rw one refl in
    omega (arith, last, sum_by-append (λ y. cond (is y) 1 0) xs (x ∷ []))

-- The handshake and the end -------------------------------------------------------------------------------------------

has_more : (test : Message → Bool) (messages : List Message) (message : Message)
    → has_such test (messages ++ message ∷ []) ≡ (has_such test messages || test message)
has_more test [] message = by_test (test message)
  where
    by_test : (is : Bool) → (is || false) ≡ (false || is)
    by_test true = refl
    by_test false = refl
has_more test (first ∷ messages) message =
    by_test (test first) (has_such test messages) (test message) (has_more test messages message)
  where
    by_test : {now : Bool} (is before last : Bool) → now ≡ (before || last) → (is || now) ≡ ((is || before) || last)
    by_test true before last same = refl
    by_test false before last same = same

-- the handshakes and the ends that were taken up had come
record AreTaken (log : List Entry) (messages : List Message) (s : SessionState) : Type 0 where
  pub came : has_such is_greeted messages ≡ true → s.streams.target.greeted ≡ true
  pub ends : count_by is_end_taken messages + one_if s.streams.ended ≡ count_by is_end_come log

-- neither the handshake nor an end comes or is taken up
keeps : {log later : List Entry} {messages : List Message} {s : SessionState} (next : SessionState) (message : Message)
    → is_end_taken message ≡ false → is_greeted message ≡ false
    → count_by is_end_come later ≡ count_by is_end_come log
    → next.streams.target.greeted ≡ s.streams.target.greeted → next.streams.ended ≡ s.streams.ended
    → AreTaken log messages s → AreTaken later (messages ++ message ∷ []) next
keeps {messages} {s} next message end greeting come target ended h = record {
  came = λ is. target ∙ h.came (not_last (has_such is_greeted messages) (is_greeted message) greeting
      (sym (has_more is_greeted messages message) ∙ is));
  ends = rw (count_none is_end_taken messages message end, come, ended) h.ends;
}
  where
    not_last : (before last : Bool) → last ≡ false → (before || last) ≡ true → before ≡ true
    not_last true last none is = refl
    not_last false last none is = cc

stays : {log later : List Entry} {messages : List Message} {s : SessionState} (next : SessionState)
    → count_by is_end_come later ≡ count_by is_end_come log
    → next.streams.target.greeted ≡ s.streams.target.greeted → next.streams.ended ≡ s.streams.ended
    → AreTaken log messages s → AreTaken later messages next
stays next come target ended h = record { came = λ is. target ∙ h.came is; ends = rw (come, ended) h.ends }

taken_out : {log : List Entry} {messages : List Message} {s : SessionState} {message : Message} {side : Side}
    {bytes : List ℕ} {streams : StreamState} (next : SessionState) → next.streams ≡ streams
    → Speaks s message side bytes streams → AreTaken log messages s
    → AreTaken (log ++ Out side bytes ∷ []) (messages ++ message ∷ []) next
taken_out {log} {message} next is Speaks.tells h =
    keeps next message refl refl (count_none is_end_come log _ refl) (rw is refl) (rw is refl) h
taken_out {log} {message} next is Speaks.greets h =
    keeps next message refl refl (count_none is_end_come log _ refl) (rw is refl) (rw is refl) h
taken_out {log} {message} next is (Speaks.sends apart serves) h =
    keeps next message refl refl (count_none is_end_come log _ refl) (rw is refl) (rw is refl) h

taken_in : {log : List Entry} {messages : List Message} {s : SessionState} {message : Message} {streams : StreamState}
    (next : SessionState) → next.streams ≡ streams → Brings s message streams → AreTaken log messages s
    → AreTaken log (messages ++ message ∷ []) next
taken_in {message} next is (Brings.hears whole reading) h =
    keeps next message refl refl refl (rw is refl) (rw is refl) h
taken_in {messages} {message} next is (Brings.greeted it_came) h = record {
  came = λ _. rw is it_came;
  ends = rw (count_none is_end_taken messages message refl, is) h.ends;
}
taken_in {message} next is (Brings.packet heard whole (PacketSays.answers under says)) h =
    keeps next message refl refl refl (rw is refl) (rw is refl) h
taken_in {message} next is (Brings.packet heard whole (PacketSays.comes composite serves reads)) h =
    keeps next message refl refl refl (rw is refl) (rw is refl) h
taken_in {message} next is (Brings.packet heard whole (PacketSays.keeps composite)) h =
    keeps next message refl refl refl (rw is refl) (rw is refl) h
taken_in {messages} {s} {message} next is (Brings.ends it_came) h = record {
  came = λ is_so. rw is (h.came (not_last (has_such is_greeted messages)
      (sym (has_more is_greeted messages message) ∙ is_so)));
  ends = rw is (let one = ap one_if it_came in
      let more = count_one is_end_taken messages message refl in
      let before = h.ends in omega arith);
}
  where
    not_last : (before : Bool) → (before || false) ≡ true → before ≡ true
    not_last true is = refl
    not_last false is = cc
taken_in {message} next is (Brings.reads serves reads) h = keeps next message refl refl refl (rw is refl) (rw is refl) h

-- a handshake that came is not lost
still_received : (target : Received) (bytes : List ℕ) → target.greeted ≡ true → (received target bytes).greeted ≡ true
still_received target bytes is = rw is refl

taken_then : {log : List Entry} {messages : List Message} {s : SessionState} {entry : Entry} {streams : StreamState}
    (n : ℕ) → s.streams.ended ≡ false → Comes s.streams entry streams → AreTaken log messages s
    → AreTaken (log ++ entry ∷ []) messages (record s { streams = streams; quiets = n })
taken_then {log} n none Comes.piece h = stays _ (count_none is_end_come log _ refl) refl refl h
taken_then {log} {s} n none (Comes.packets {bytes}) h = record {
  came = λ is. still_received s.streams.target bytes (h.came is);
  ends = h.ends ∙ sym (count_none is_end_come log (In Target bytes) refl);
}
taken_then {log} {entry} n none Comes.ends h =
    let before = ap one_if none in
    let more = count_one is_end_come log entry refl in
    let ends = h.ends in
    record { came = h.came; ends = omega arith }
taken_then {log} n none Comes.passes_quiet h = stays _ (count_none is_end_come log _ refl) refl refl h

are_taken : {limits : Limits} {log : List Entry} {messages : List Message} {turns : ℕ} {s : SessionState}
    → Going limits log messages turns s → AreTaken log messages s
are_taken Going.begins = record { came = λ is. cc; ends = refl }
are_taken (Going.goes g on is) = stays _ refl refl refl (are_taken g)
are_taken (Going.speaks g on allows speaks) = taken_out _ refl speaks (are_taken g)
are_taken (Going.hears g reads allows brings) = taken_in _ refl brings (are_taken g)
are_taken (Going.ignores g reads whole reading) = stays _ refl refl refl (are_taken g)
are_taken (Going.happens g listens comes) = taken_then _ listens.waits.not_ended comes (are_taken g)

-- The handshake is cut off --------------------------------------------------------------------------------------------

-- as soon as it has come
cut_off : (bytes : List ℕ) (packets : List (ℕ × Packet)) (greeted : Bool) (stream : Uncut) (piece : List ℕ)
    → HandsOut bytes packets greeted stream → IsGreeted (bytes ++ piece)
    → (received (record { greeted = greeted; stream = stream }) piece).greeted ≡ true
cut_off bytes packets true stream piece h is = refl
cut_off bytes packets false stream piece (none, same) (more, parts) =
    ap (λ (f : Front (Unit {0}) PacketFault). (greeted_by f (fed stream piece)).greeted)
    (ap (λ (u : Uncut). greeting_front (u.pending ++ piece)) same ∙ ap greeting_front parts
    ∙ greeted-from 0 handshake more)

-- where nothing of the target comes, it stays so
still_cut : {bytes more : List ℕ} {old new : Bool} → more ≡ bytes → new ≡ old → (IsGreeted bytes → old ≡ true)
    → IsGreeted more → new ≡ true
still_cut same target h is = target ∙ h (subst (λ (all : List ℕ). IsGreeted all) same is)

says_target : {s : SessionState} {message : Message} {side : Side} {bytes : List ℕ} {streams : StreamState}
    → Speaks s message side bytes streams → streams.target.greeted ≡ s.streams.target.greeted
says_target Speaks.tells = refl
says_target Speaks.greets = refl
says_target (Speaks.sends apart serves) = refl

brings_target : {s : SessionState} {message : Message} {streams : StreamState} → Brings s message streams
    → streams.target.greeted ≡ s.streams.target.greeted
brings_target (Brings.hears whole reading) = refl
brings_target (Brings.greeted came) = refl
brings_target (Brings.packet heard whole says) = refl
brings_target (Brings.ends came) = refl
brings_target (Brings.reads serves reads) = refl

cut_then : {log : List Entry} {messages : List Message} {s : SessionState} {entry : Entry} {streams : StreamState}
    → IsSaid log messages s → Comes s.streams entry streams
    → (IsGreeted (came_from Target log) → s.streams.target.greeted ≡ true)
    → IsGreeted (came_from Target (log ++ entry ∷ [])) → streams.target.greeted ≡ true
cut_then {log} {entry} said Comes.piece h = still_cut (flat_map_same (came_by Target) log entry refl) refl h
cut_then {log} {s} said (Comes.packets {bytes}) h = λ is.
    let target : Received = s.streams.target in
    cut_off (came_from Target log) said.packets target.greeted target.stream bytes said.cut
    (subst (λ (all : List ℕ). IsGreeted all) (flat_map_one_more (came_by Target) log (In Target bytes)) is)
cut_then {log} {entry} said Comes.ends h = still_cut (flat_map_same (came_by Target) log entry refl) refl h
cut_then {log} {entry} said Comes.passes_quiet h = still_cut (flat_map_same (came_by Target) log entry refl) refl h

is_cut_off : {limits : Limits} {log : List Entry} {messages : List Message} {turns : ℕ} {s : SessionState}
    → Going limits log messages turns s → IsGreeted (came_from Target log) → s.streams.target.greeted ≡ true
is_cut_off Going.begins (more, parts) = cc
is_cut_off (Going.goes g on is) begun = is_cut_off g begun
is_cut_off (Going.speaks {log} {side} {bytes} g on allows speaks) begun =
    still_cut (flat_map_same (came_by Target) log (Out side bytes) refl) (says_target speaks) (is_cut_off g) begun
is_cut_off (Going.hears g reads allows brings) begun = brings_target brings ∙ is_cut_off g begun
is_cut_off (Going.ignores g reads whole reading) begun = is_cut_off g begun
is_cut_off (Going.happens g listens comes) begun = cut_then (is_said g) comes (is_cut_off g) begun

-- All of it -----------------------------------------------------------------------------------------------------------

-- the packets begin behind the handshake
begins_so : (bytes : List ℕ) (packets : List (ℕ × Packet)) (greeted : Bool) (stream : Uncut)
    → HandsOut bytes packets greeted stream → greeted ≡ true → IsGreeted bytes
begins_so bytes packets true stream (more, parts, hands) is = (more, parts)
begins_so bytes packets false stream (none, same) is = cc

pub sent_all : (sent : List (ℕ × Asked)) → count_under (λ asked. true) sent ≡ length sent
sent_all [] = refl
sent_all (one ∷ sent) = let more = sent_all sent in omega arith

pub pending_all : (commands : List TargetCommand) → count_of (λ command. true) commands ≡ length commands
pending_all [] = refl
pending_all (command ∷ commands) = let more = pending_all commands in omega arith

few : {messages : List Message} (s : SessionState) → Run messages s.machine
    → count_under (λ asked. true) s.streams.commands.sent ≡ count_of (λ command. true) (pending_of s.machine)
    → length s.streams.commands.sent ≤ 16
few {messages} s run same =
    let mine = sent_all s.streams.commands.sent in
    let machine = pending_all (pending_of s.machine) in
    let in_window = (in_window messages s.machine run).few in
    omega arith

pub are_replied : {limits : Limits} {log : List Entry} {messages : List Message} {turns : ℕ} {s : SessionState}
    → Going limits log messages turns s → AreReplied log messages s
are_replied {log} {messages} {s} g =
    let h = is_said g in
    let t = are_taken g in
    let run = is_run g in
    let target : Received = s.streams.target in
    record {
      packets = h.packets;
      count = h.count;
      unreplied = h.unreplied;
      cut = h.cut;
      uncut_bytes = left_from (came_from Target log) h.packets target.greeted target.stream h.cut;
      said = h.said;
      pending = h.held.pending;
      apart = h.held.apart;
      same = λ test. same_pending test run h;
      few = few s run (same_pending (λ asked. true) run h);
      kept = are_kept run;
      begun = λ is. is_cut_off g is;
      greeted = λ is. begins_so (came_from Target log) h.packets target.greeted target.stream h.cut
          (t.came ((all_open run).greeted.heard ∙ is));
      ended = t.ends;
    }
