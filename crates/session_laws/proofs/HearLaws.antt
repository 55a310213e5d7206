-- The requests of a session are what the client's bytes say.
use Rattle.std.proofs.Common.{◌≡◌, ℕ, Bool, false, List, [], ◌∷◌, ◌++◌, Ok, drop, ◌+◌, Option, Some, None, arith}
use Rattle.std.proofs.Common.{refl, sym, ap, ◌∙◌, append-nil}
use Rattle.std.proofs.lemmas.List.{drop-drop}
use Rattle.dap_frames.specs.Frames.{Frame, frame_front}
use Rattle.dap_messages.specs.Reading.{reading_of}
use Rattle.dap_messages.specs.declared.requests.Incoming.TheVariants.{Ignored as ignored, Request as a_request}
use Rattle.machine_model.specs.Rest.{request_by, requests_of}
use Rattle.machine_model.specs.Runs.{Allows, Message, Run, is_disconnect}
use Rattle.machine_model.specs.State.{Machine}
use Rattle.machine_steps.proofs.Stepping.{Loses, Moves, by_moves, moved, with_said}
use Rattle.session_model.specs.Names.{Client, Entry, Limits, Request, Side}
use Rattle.session_laws.specs.Bytes.{came_by, came_from}
use Rattle.session_laws.specs.Hearing.{AreHeard, AreRead}
use Rattle.session_model.specs.Saying.{Brings, PacketSays, Speaks}
use Rattle.session_model.specs.Session.{Going, Comes}
use Rattle.session_model.specs.States.{SessionState, StreamState, start}
use Rattle.session_laws.proofs.RunLaws.{is_run}
use Rattle.session_laws.proofs.Steps.{flat_map_one_more, flat_map_same}
use Rattle.wire_core.proofs.StreamLaws.{Hands-append, Hands-fed}
use Rattle.wire_core.specs.Streams.{Front, Hands, IsSteady, Uncut, fed, past, uncut}

-- A `disconnect` closes the client's side -----------------------------------------------------------------------------

-- whether the last of these requests is a `disconnect`
abbrev pub closes_after : Bool → List Request → Bool
closes_after closed [] = closed
closes_after closed (request ∷ requests) = closes_after (is_disconnect request.command) requests

pub closes_last : (closed : Bool) (requests : List Request) (request : Request)
    → closes_after closed (requests ++ request ∷ []) ≡ is_disconnect request.command
closes_last closed [] request = refl
closes_last closed (first ∷ requests) request = closes_last (is_disconnect first.command) requests request

abbrev Closes : List Message → Machine → Type 0
Closes messages m = m.closing ≡ closes_after false (requests_of messages)

-- the request that a step hears
abbrev pub request_said : Option Message → List Request
request_said None = []
request_said (Some message) = request_by message

requests_more : (messages : List Message) (said : Option Message)
    → requests_of (with_said messages said) ≡ requests_of messages ++ request_said said
requests_more messages None = sym (append-nil (requests_of messages))
requests_more messages (Some message) = flat_map_one_more request_by messages message

-- a step hears a request and may close, or keeps it as it was
pub data Closing (m next : Machine) : List Request → Type 0 where
  as_before : next.closing ≡ m.closing → Closing m next []
  by_request : (request : Request) → m.closing ≡ false → next.closing ≡ is_disconnect request.command
      → Closing m next (request ∷ [])

pub closing_by : {m next : Machine} {said : Option Message} → Moves m said next → Closing m next (request_said said)
closing_by (Moves.hears {request} read is_open) = Closing.by_request request is_open refl
closing_by (Moves.loses late near Loses.by_end) = Closing.as_before refl
closing_by (Moves.loses late near (Loses.by_question is waits reply last)) = Closing.as_before refl
closing_by (Moves.loses late near (Loses.by_effect is flying reply last)) = Closing.as_before refl
closing_by _ = Closing.as_before refl

closes_on : (messages : List Message) (m next : Machine) (said : Option Message) → Closes messages m
    → Moves m said next → Closes (with_said messages said) next
closes_on messages m next said h moves =
    by_request (request_said said) (closing_by moves) ∙ ap (closes_after false) (sym (requests_more messages said))
  where
    by_request : (requests : List Request) → Closing m next requests
        → next.closing ≡ closes_after false (requests_of messages ++ requests)
    by_request requests (Closing.as_before same) =
        same ∙ h ∙ ap (closes_after false) (sym (append-nil (requests_of messages)))
    by_request requests (Closing.by_request request is_open closes) =
        closes ∙ sym (closes_last false (requests_of messages) request)

pub closes_so : {messages : List Message} {m : Machine} → Run messages m → Closes messages m
closes_so r = by_moves {Holds = Closes}
    (record { starts = refl; moves = closes_on; queues = λ messages m hand queue may h. h }) r

-- where no request comes, it stays as it was
same_closing : {messages others : List Message} {m next : Machine} → Run messages m → Run others next
    → requests_of others ≡ requests_of messages → next.closing ≡ m.closing
same_closing before after same = closes_so after ∙ ap (closes_after false) same ∙ sym (closes_so before)

-- a request is heard while none closed
pub was_open : {m next : Machine} {request : Request} (requests : List Request) → requests ≡ request ∷ []
    → Closing m next requests → m.closing ≡ false
was_open requests is (Closing.as_before same) = cc
was_open requests is (Closing.by_request other is_open closes) = is_open

-- Frames --------------------------------------------------------------------------------------------------------------

-- what is left once messages were handed out are the bytes from its offset on
pub Hands-rest : {M F : Type 0} (front : List ℕ → Front M F) (old : Uncut) (messages : List (ℕ × M)) (new : Uncut)
    → Hands front old messages new → (n : ℕ) × (new.at ≡ old.at + n) × (new.pending ≡ drop n old.pending)
Hands-rest front old [] new same = (0, rw same (omega arith), rw same refl)
Hands-rest front old (m ∷ messages) new (n, here, offset, rest) =
    let (k, at, pending) = Hands-rest front (past old n) messages new rest in
    (n + k, omega arith, pending ∙ drop-drop k n old.pending)

-- the client's bytes are cut so, and read so
heard_as : (log : List Entry) (messages : List Message) (s : SessionState) (frames : List (ℕ × Frame))
    → Hands frame_front (fed uncut (came_from Client log)) frames s.streams.client
    → AreRead frames (requests_of messages) s.machine.closing → AreHeard log messages s
heard_as log messages s frames cut read =
    let (n, offset, pending) = Hands-rest frame_front (fed uncut (came_from Client log)) frames s.streams.client cut in
    let same : s.streams.client.at ≡ n = omega arith in
    record { frames = frames; cut = cut; read = read; uncut_bytes = rw same pending }

-- what is heard stays heard where no bytes and no requests come to it
still_heard : {log later : List Entry} {messages others : List Message} {s : SessionState} (next : SessionState)
    → came_from Client later ≡ came_from Client log → requests_of others ≡ requests_of messages
    → next.streams.client ≡ s.streams.client → next.machine.closing ≡ s.machine.closing → AreHeard log messages s
    → AreHeard later others next
still_heard {later} {others} next bytes requests client closing h =
    heard_as later others next h.frames (rw (bytes, client) h.cut) (rw (requests, closing) h.read)

-- one more frame, which is read so
one_more_frame : {log : List Entry} (messages others : List Message) (s : SessionState) {frame : Frame} {n : ℕ}
    (next : SessionState)
    → frame_front s.streams.client.pending ≡ Front.whole frame n → next.streams.client ≡ past s.streams.client n
    → AreHeard log messages s
    → ((frames : List (ℕ × Frame)) → AreRead frames (requests_of messages) s.machine.closing
    → AreRead (frames ++ (s.streams.client.at, frame) ∷ []) (requests_of others) next.machine.closing)
    → AreHeard log others next
one_more_frame {log} messages others s {frame} {n} next whole client h reads =
    let last : List (ℕ × Frame) = (s.streams.client.at, frame) ∷ [] in
    heard_as log others next (h.frames ++ last)
    (Hands-append frame_front (fed uncut (came_from Client log)) h.frames s.streams.client last next.streams.client
    h.cut
    (n, whole, refl, client))
    (reads h.frames h.read)

-- hearing a request
hearing : (messages : List Message) (request : Request) (frame : ℕ × Frame) (closing now : Bool) → closing ≡ false
    → now ≡ is_disconnect request.command → reading_of frame.1.body ≡ Ok (a_request request)
    → (frames : List (ℕ × Frame)) → AreRead frames (requests_of messages) closing
    → AreRead (frames ++ frame ∷ []) (requests_of (messages ++ Message.hears request ∷ [])) now
hearing messages request frame closing now is_open closes reading frames read =
    rw (closes, flat_map_one_more request_by messages (Message.hears request))
    (AreRead.one_more frame (rw is_open at read) reading)

-- passing a frame over
passing : {requests : List Request} (frame : ℕ × Frame) (closing : Bool) → closing ≡ false
    → reading_of frame.1.body ≡ Ok ignored
    → (frames : List (ℕ × Frame)) → AreRead frames requests closing → AreRead (frames ++ frame ∷ []) requests closing
passing {requests} frame closing is_open reading frames read =
    rw is_open (AreRead.passed_over frame (rw is_open at read) reading)

-- The session ---------------------------------------------------------------------------------------------------------

-- a message that is no request, whose bytes aren't the client's
record IsBeside (s : SessionState) (message : Message) (streams : StreamState) : Type 0 where
  pub no_request : request_by message ≡ []
  pub client : streams.client ≡ s.streams.client

says_beside : {s : SessionState} {message : Message} {side : Side} {bytes : List ℕ} {streams : StreamState}
    → Speaks s message side bytes streams → IsBeside s message streams
says_beside Speaks.tells = record { no_request = refl; client = refl }
says_beside Speaks.greets = record { no_request = refl; client = refl }
says_beside (Speaks.sends apart serves) = record { no_request = refl; client = refl }

heard_brings : {log : List Entry} {messages : List Message} {s : SessionState} {message : Message}
    {streams : StreamState} {next : Machine} → Run messages s.machine → Run (messages ++ message ∷ []) next
    → Allows s.machine message next → Brings s message streams → AreHeard log messages s
    → AreHeard log (messages ++ message ∷ []) (record s { machine = next; streams = streams })
heard_brings {messages} {s} {next} before after allows (Brings.hears {request} {frame} whole reading) h =
    one_more_frame messages _ s _ whole refl h
    (hearing messages request (s.streams.client.at, frame) s.machine.closing next.closing
    (was_open (request ∷ []) refl (closing_by (moved allows)))
    (closes_so after ∙ ap (closes_after false) (flat_map_one_more request_by messages (Message.hears request))
    ∙ closes_last false (requests_of messages) request) reading)
heard_brings {messages} {message} before after allows (Brings.greeted came) h =
    let same = flat_map_same request_by messages message refl in
    still_heard _ refl same refl (same_closing before after same) h
heard_brings {messages} {message} before after allows (Brings.packet greeted whole (PacketSays.answers under says)) h =
    let same = flat_map_same request_by messages message refl in
    still_heard _ refl same refl (same_closing before after same) h
heard_brings {messages} {message} before after allows
    (Brings.packet greeted whole (PacketSays.comes is serves reads)) h =
    let same = flat_map_same request_by messages message refl in
    still_heard _ refl same refl (same_closing before after same) h
heard_brings {messages} {message} before after allows (Brings.packet greeted whole (PacketSays.keeps is)) h =
    let same = flat_map_same request_by messages message refl in
    still_heard _ refl same refl (same_closing before after same) h
heard_brings {messages} {message} before after allows (Brings.ends came) h =
    let same = flat_map_same request_by messages message refl in
    still_heard _ refl same refl (same_closing before after same) h
heard_brings {messages} {message} before after allows (Brings.reads serves reads) h =
    let same = flat_map_same request_by messages message refl in
    still_heard _ refl same refl (same_closing before after same) h

heard_happens : IsSteady frame_front → {log : List Entry} {messages : List Message} {s : SessionState} {entry : Entry}
    {streams : StreamState} (n : ℕ) → Comes s.streams entry streams → AreHeard log messages s
    → AreHeard (log ++ entry ∷ []) messages (record s { streams = streams; quiets = n })
heard_happens steady {log} {messages} {s} {entry} n (Comes.piece {bytes}) h =
    heard_as (log ++ entry ∷ []) messages _ h.frames
    (rw (flat_map_one_more (came_by Client) log entry)
    (Hands-fed frame_front steady (fed uncut (came_from Client log)) h.frames s.streams.client bytes h.cut)) h.read
heard_happens steady {log} n Comes.packets h =
    still_heard _ (flat_map_same (came_by Client) log _ refl) refl refl refl h
heard_happens steady {log} n Comes.ends h =
    still_heard _ (flat_map_same (came_by Client) log _ refl) refl refl refl h
heard_happens steady {log} n Comes.passes_quiet h =
    still_heard _ (flat_map_same (came_by Client) log _ refl) refl refl refl h

pub are_heard : IsSteady frame_front → {limits : Limits} {log : List Entry} {messages : List Message} {turns : ℕ}
    {s : SessionState} → Going limits log messages turns s → AreHeard log messages s
are_heard steady Going.begins = heard_as [] [] start [] refl AreRead.none
are_heard steady (Going.goes g on is) =
    still_heard _ refl refl refl (same_closing (is_run g) (is_run (Going.goes g on is)) refl) (are_heard steady g)
are_heard steady (Going.speaks {log} {messages} {message} g on allows speaks) =
    let b = says_beside speaks in
    let same = flat_map_same request_by messages message b.no_request in
    still_heard _ (flat_map_same (came_by Client) log _ refl) same b.client
    (same_closing (is_run g) (is_run (Going.speaks g on allows speaks)) same) (are_heard steady g)
are_heard steady (Going.hears g reads allows brings) =
    heard_brings (is_run g) (is_run (Going.hears g reads allows brings)) allows brings (are_heard steady g)
are_heard steady (Going.ignores {messages} {s} {frame} g reads whole reading) =
    one_more_frame messages messages s _ whole refl (are_heard steady g)
    (passing (s.streams.client.at, frame) s.machine.closing reads.is_open reading)
are_heard steady (Going.happens g listens comes) = heard_happens steady _ comes (are_heard steady g)
