-- What each side is sent are the messages that go to it.
use Rattle.std.proofs.Common.{◌≡◌, ℕ, ◌+◌, ◌%◌, false, List, [], ◌∷◌, ◌++◌, refl}
use Rattle.std.proofs.Common.{sym, ap, subst, ◌∙◌, arith}
use Rattle.jdwp_commands.specs.Commands.{number_of, spell_command}
use Rattle.jdwp_commands.specs.declared.asked.Asked.{Asked}
use Rattle.jdwp_packets.specs.Packets.{command_packet, packet_bytes}
use Rattle.jdwp_values.specs.declared.sizes.IdSizes.{IdSizes}
use Rattle.machine_model.specs.Pending.{goes_out}
use Rattle.machine_model.specs.Replying.{wire}
use Rattle.machine_model.specs.Runs.{Allows, Message, Run}
use Rattle.machine_model.specs.State.{Machine}
use Rattle.pending_table.proofs.WindowLaws.{next_goes_on}
use Rattle.pending_table.specs.Windows.{id_of, turn}
use Rattle.session_model.specs.Names.{Client, Entry, Limits, Out}
use Rattle.session_model.specs.Names.{Side, Target}
use Rattle.session_laws.specs.Bytes.{went_by, went_to}
use Rattle.session_model.specs.Saying.{Brings, PacketSays, Speaks, nth_command, told_bytes}
use Rattle.session_laws.specs.Sending.{AreSentAs, GoesAs, IsCounted, IsSent, goes_to}
use Rattle.session_laws.specs.Sending.{is_told}
use Rattle.session_model.specs.Session.{Going, Comes}
use Rattle.session_model.specs.States.{SessionState, StreamState}
use Rattle.session_laws.proofs.RunLaws.{is_run}
use Rattle.session_laws.proofs.SizeLaws.{spelled_alike}
use Rattle.session_laws.proofs.Steps.{flat_map_one_more, flat_map_same}

-- Going on ------------------------------------------------------------------------------------------------------------

-- the numbers are where they were
same_count : (side : Side) (now next : StreamState) (n : ℕ) → next.told ≡ now.told
    → next.commands.next ≡ now.commands.next → IsCounted side now n → IsCounted side next n
same_count Client now next n told commands h = told ∙ h
same_count Target now next n told commands h = commands ∙ h

-- nothing is sent to this side
stays : (side : Side) {log later : List Entry} {messages : List Message} {s : SessionState} (next : SessionState)
    → went_to side later ≡ went_to side log → next.streams.told ≡ s.streams.told
    → next.streams.commands.next ≡ s.streams.commands.next → IsSent side log messages s
    → IsSent side later messages next
stays side {s} next bytes told commands h = record {
  count = h.count;
  spelled = rw bytes h.spelled;
  counted = same_count side s.streams next.streams h.count told commands h.counted;
}

-- one message more, which doesn't go to this side
aside : (side : Side) {log later : List Entry} {messages : List Message} {s : SessionState} (next : SessionState)
    (message : Message) → goes_to side message ≡ false → went_to side later ≡ went_to side log
    → ((n : ℕ) → IsCounted side s.streams n → IsCounted side next.streams n)
    → IsSent side log messages s → IsSent side later (messages ++ message ∷ []) next
aside side next message is bytes counted h = record {
  count = h.count;
  spelled = rw bytes (AreSentAs.aside message is h.spelled);
  counted = counted h.count h.counted;
}

-- one message more, which goes to it
more_goes : (side : Side) {log : List Entry} {messages : List Message} {s : SessionState} (next : SessionState)
    (message : Message) (bytes more : List ℕ) (number : ℕ) (h : IsSent side log messages s)
    → went_by side (Out side bytes) ≡ bytes → bytes ≡ more → GoesAs messages side h.count message more number
    → IsCounted side next.streams number → IsSent side (log ++ Out side bytes ∷ []) (messages ++ message ∷ []) next
more_goes side {log} {messages} next message bytes more number h own same goes counted = record {
  count = number;
  spelled = subst (λ all. AreSentAs side (messages ++ message ∷ []) number all)
      (sym (flat_map_one_more (went_by side) log (Out side bytes) ∙ ap (λ b. went_to side log ++ b) (own ∙ same)))
      (AreSentAs.goes message goes h.spelled);
  counted = counted;
}

-- the id of the next command
same_id : (next count : ℕ) → next ≡ count % turn → id_of next ≡ id_of count
same_id next count is = omega (arith, is)

pub same_command : (bytes : ℕ → List ℕ) (next count : ℕ) → next ≡ count % turn
    → bytes (id_of next) ≡ bytes (id_of count)
same_command bytes next count is = ap bytes (same_id next count is)

-- its packet, by its id
abbrev packet_under : IdSizes → Asked → ℕ → List ℕ
packet_under used asked id =
    packet_bytes (command_packet id (number_of asked).0 (number_of asked).1 (spell_command used asked))

-- what goes out
speaking : (side : Side) {log : List Entry} {messages : List Message} {s : SessionState} {message : Message}
    {to : Side} {bytes : List ℕ} {streams : StreamState} (next : Machine) → Run messages s.machine
    → Allows s.machine message next → Speaks s message to bytes streams → IsSent side log messages s
    → IsSent side (log ++ Out to bytes ∷ []) (messages ++ message ∷ []) (record s { machine = next; streams = streams })
speaking Client {s} next run allows (Speaks.tells {told}) h =
    more_goes Client _ (Message.tells told) (told_bytes s.streams.told told) (told_bytes h.count told) (h.count + 1) h
    refl (ap (λ n. told_bytes n told) h.counted) (GoesAs.tells told) (ap (λ n. n + 1) h.counted)
speaking Client {log} {message} next run allows Speaks.greets h =
    aside Client _ message refl (flat_map_same (went_by Client) log _ refl) (λ n is. is) h
speaking Client {log} {message} next run allows (Speaks.sends apart serves) h =
    aside Client _ message refl (flat_map_same (went_by Client) log _ refl) (λ n is. is) h
speaking Target {log} {message} next run allows Speaks.tells h =
    aside Target _ message refl (flat_map_same (went_by Target) log _ refl) (λ n is. is) h
speaking Target {message} {bytes} next run allows Speaks.greets h =
    more_goes Target _ message bytes bytes h.count h refl refl GoesAs.greets h.counted
speaking Target {s} next run allows (Speaks.sends {command} {used} apart serves) h =
    more_goes Target _ (Message.sends command) (nth_command s.streams.commands.next used (wire command))
    (nth_command h.count used (wire command)) (h.count + 1) h refl
    (same_command (packet_under used (wire command)) s.streams.commands.next h.count h.counted)
    (GoesAs.sends command run serves (λ other served.
    ap (λ body. packet_bytes (command_packet (id_of h.count) (number_of (wire command)).0
    (number_of (wire command)).1 body)) (spelled_alike run allows other used served serves)))
    (ap (λ n. (n + 1) % turn) h.counted ∙ next_goes_on h.count)

-- what comes in is not sent
pub record IsQuiet (s : SessionState) (message : Message) (streams : StreamState) : Type 0 where
  pub not_told : is_told message ≡ false
  pub not_out : goes_out message ≡ false
  pub told : streams.told ≡ s.streams.told
  pub commands : streams.commands.next ≡ s.streams.commands.next

pub comes_quiet : {s : SessionState} {message : Message} {streams : StreamState} → Brings s message streams
    → IsQuiet s message streams
comes_quiet (Brings.hears whole reading) = record { not_told = refl; not_out = refl; told = refl; commands = refl }
comes_quiet (Brings.greeted came) = record { not_told = refl; not_out = refl; told = refl; commands = refl }
comes_quiet (Brings.packet heard whole (PacketSays.answers under says)) =
    record { not_told = refl; not_out = refl; told = refl; commands = refl }
comes_quiet (Brings.packet heard whole (PacketSays.comes is serves reads)) =
    record { not_told = refl; not_out = refl; told = refl; commands = refl }
comes_quiet (Brings.packet heard whole (PacketSays.keeps is)) =
    record { not_told = refl; not_out = refl; told = refl; commands = refl }
comes_quiet (Brings.ends came) = record { not_told = refl; not_out = refl; told = refl; commands = refl }
comes_quiet (Brings.reads serves reads) = record { not_told = refl; not_out = refl; told = refl; commands = refl }

not_to : (side : Side) (message : Message) → is_told message ≡ false → goes_out message ≡ false
    → goes_to side message ≡ false
not_to Client message told out = told
not_to Target message told out = out

-- what comes from the outside
happening : (side : Side) {log : List Entry} {messages : List Message} {s : SessionState} {entry : Entry}
    {streams : StreamState} (n : ℕ) → Comes s.streams entry streams → IsSent side log messages s
    → IsSent side (log ++ entry ∷ []) messages (record s { streams = streams; quiets = n })
happening side {log} n Comes.piece h = stays side _ (flat_map_same (went_by side) log _ refl) refl refl h
happening side {log} n Comes.packets h = stays side _ (flat_map_same (went_by side) log _ refl) refl refl h
happening side {log} n Comes.ends h = stays side _ (flat_map_same (went_by side) log _ refl) refl refl h
happening side {log} n Comes.passes_quiet h = stays side _ (flat_map_same (went_by side) log _ refl) refl refl h

pub is_sent : (side : Side) {limits : Limits} {log : List Entry} {messages : List Message} {turns : ℕ}
    {s : SessionState} → Going limits log messages turns s → IsSent side log messages s
is_sent Client Going.begins = record { count = 0; spelled = AreSentAs.none; counted = refl }
is_sent Target Going.begins = record { count = 0; spelled = AreSentAs.none; counted = refl }
is_sent side (Going.goes g on is) = stays side _ refl refl refl (is_sent side g)
is_sent side (Going.speaks {next} g on allows speaks) = speaking side next (is_run g) allows speaks (is_sent side g)
is_sent side (Going.hears {s} {message} {streams} g reads allows brings) =
    let q = comes_quiet brings in
    aside side _ message (not_to side message q.not_told q.not_out) refl
    (λ n is. same_count side s.streams streams n q.told q.commands is) (is_sent side g)
is_sent side (Going.ignores g reads whole reading) = stays side _ refl refl refl (is_sent side g)
is_sent side (Going.happens g listens comes) = happening side _ comes (is_sent side g)
