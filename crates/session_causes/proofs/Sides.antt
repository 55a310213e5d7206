-- Only one side has anything to take up: one entry comes where a session waits, and neither has.
use Rattle.std.proofs.Common.{◌≡◌, ◌⊎◌, inl, inr, ℕ, Bool, true, false, ◌||◌, List, [], ◌∷◌, ◌++◌}
use Rattle.std.proofs.Common.{refl, sym, ap, ◌∙◌}
use Rattle.dap_frames.specs.Frames.{frame_front}
use Rattle.machine_model.specs.Pending.{has_such, is_greeted}
use Rattle.machine_model.specs.Runs.{Allows, Message, Run}
use Rattle.machine_model.specs.State.{Machine}
use Rattle.machine_steps.proofs.HandshakeLaws.{such_more}
use Rattle.machine_steps.proofs.PendingLaws.{all_open}
use Rattle.machine_steps.proofs.Stepping.{gone_on, moved}
use Rattle.session_causes.proofs.Acts.{lets}
use Rattle.session_laws.proofs.HearLaws.{Closing, closing_by}
use Rattle.session_laws.proofs.RunLaws.{is_run}
use Rattle.session_model.specs.Causes.{IsWaiting}
use Rattle.session_model.specs.Names.{Entry, Limits, Request, Side}
use Rattle.session_model.specs.Saying.{Brings, Speaks}
use Rattle.session_model.specs.Session.{Comes, Going}
use Rattle.session_model.specs.States.{SessionState, StreamState, past_packet, start, target_front}
use Rattle.wire_core.specs.Streams.{Front}

-- nothing of the client is there to take up
abbrev pub IsClientIdle : SessionState → Type 0
IsClientIdle s = (s.machine.closing ≡ true) ⊎ (frame_front s.streams.client.pending ≡ Front.waits)

-- and nothing of the target, but for its end
pub record IsTargetIdle (s : SessionState) : Type 0 where
  pub front : target_front s.streams ≡ Front.waits
  pub greeted : s.machine.state.greeting_heard ≡ s.streams.target.greeted

-- the client alone has something to take up, or the target's bytes have, or its end is
pub data IsOneSided (s : SessionState) : Type 0 where
  of_client : IsTargetIdle s → s.streams.ended ≡ false → IsOneSided s
  of_target : IsClientIdle s → s.streams.ended ≡ false → IsOneSided s
  of_end : IsClientIdle s → IsTargetIdle s → IsOneSided s

-- What the machine keeps ----------------------------------------------------------------------------------------------

closes_on : {m next : Machine} {requests : List Request} → Closing m next requests → m.closing ≡ true
    → next.closing ≡ true
closes_on (Closing.as_before same) is = same ∙ is
closes_on (Closing.by_request request is_open closes) is = let no : true ≡ false = sym is ∙ is_open in cc

or_false : (b : Bool) → (b || false) ≡ b
or_false true = refl
or_false false = refl

-- the handshake is heard by a message of its own alone
heard_on : (messages : List Message) (message : Message) {m next : Machine} → is_greeted message ≡ false
    → Run messages m → Run (messages ++ message ∷ []) next
    → next.state.greeting_heard ≡ m.state.greeting_heard
heard_on messages message other before after =
    sym (all_open after).greeted.heard ∙ such_more is_greeted messages message
    ∙ ap (λ last. has_such is_greeted messages || last) other ∙ or_false (has_such is_greeted messages)
    ∙ (all_open before).greeted.heard

heard_still : {messages : List Message} {m next : Machine} → Run messages m → Run messages next
    → next.state.greeting_heard ≡ m.state.greeting_heard
heard_still before after = sym (all_open after).greeted.heard ∙ (all_open before).greeted.heard

-- One step more -------------------------------------------------------------------------------------------------------

-- what the machine and the bytes keep
record Keeps (s next : SessionState) : Type 0 where
  closing : s.machine.closing ≡ true → next.machine.closing ≡ true
  heard : next.machine.state.greeting_heard ≡ s.machine.state.greeting_heard
  client : next.streams.client ≡ s.streams.client
  target : next.streams.target ≡ s.streams.target

client_still : (s next : SessionState) → (s.machine.closing ≡ true → next.machine.closing ≡ true)
    → next.streams.client ≡ s.streams.client → IsClientIdle s → IsClientIdle next
client_still s next closing client (inl closes) = inl (closing closes)
client_still s next closing client (inr waits) = inr (ap (λ u. frame_front u.pending) client ∙ waits)

target_still : {s next : SessionState} → next.machine.state.greeting_heard ≡ s.machine.state.greeting_heard
    → next.streams.target ≡ s.streams.target → IsTargetIdle s → IsTargetIdle next
target_still heard target idle = record {
  front = rw target idle.front;
  greeted = heard ∙ idle.greeted ∙ ap (λ t. t.greeted) (sym target);
}

still : {s : SessionState} (next : SessionState) → Keeps s next → next.streams.ended ≡ s.streams.ended
    → IsOneSided s → IsOneSided next
still next k same (IsOneSided.of_client idle none) =
    IsOneSided.of_client (target_still k.heard k.target idle) (same ∙ none)
still {s} next k same (IsOneSided.of_target idle none) =
    IsOneSided.of_target (client_still s next k.closing k.client idle) (same ∙ none)
still {s} next k same (IsOneSided.of_end idle also) =
    IsOneSided.of_end (client_still s next k.closing k.client idle) (target_still k.heard k.target also)

-- What is taken up is there -------------------------------------------------------------------------------------------

-- what the client has is taken up where it is open
pub client_alone : (s : SessionState) → s.machine.closing ≡ false
    → (frame_front s.streams.client.pending ≡ Front.waits → ⊥) → IsClientIdle s → ⊥
client_alone s is_open some (inl closes) = let no : true ≡ false = sym closes ∙ is_open in cc
client_alone s is_open some (inr waits) = some waits

module _ {s : SessionState} where
  -- then the target has nothing
  pub target_idle : IsOneSided s → (IsClientIdle s → ⊥) → IsTargetIdle s × (s.streams.ended ≡ false)
  target_idle (IsOneSided.of_client idle none) some = (idle, none)
  target_idle (IsOneSided.of_target idle none) some = absurd (some idle)
  target_idle (IsOneSided.of_end idle also) some = absurd (some idle)

  -- where the target has something, the client has nothing
  pub client_idle : IsOneSided s → (IsTargetIdle s → ⊥) → IsClientIdle s × (s.streams.ended ≡ false)
  client_idle (IsOneSided.of_client idle none) some = absurd (some idle)
  client_idle (IsOneSided.of_target idle none) some = (idle, none)
  client_idle (IsOneSided.of_end idle also) some = absurd (some also)

  -- and where its end is to be taken up, neither has
  pub both_idle : IsOneSided s → s.streams.ended ≡ true → IsClientIdle s × IsTargetIdle s
  both_idle (IsOneSided.of_client idle none) came = let no : true ≡ false = sym came ∙ none in cc
  both_idle (IsOneSided.of_target idle none) came = let no : true ≡ false = sym came ∙ none in cc
  both_idle (IsOneSided.of_end idle also) came = (idle, also)

-- Each step -----------------------------------------------------------------------------------------------------------

spoken : {s : SessionState} {message : Message} {side : Side} {bytes : List ℕ} {streams : StreamState}
    (next : Machine) → Speaks s message side bytes streams
    → (s.machine.closing ≡ true → next.closing ≡ true)
    → (is_greeted message ≡ false → next.state.greeting_heard ≡ s.machine.state.greeting_heard) → IsOneSided s
    → IsOneSided (record s { machine = next; streams = streams })
spoken next Speaks.tells closing heard h =
    still _ (record { closing = closing; heard = heard refl; client = refl; target = refl }) refl h
spoken next Speaks.greets closing heard h =
    still _ (record { closing = closing; heard = heard refl; client = refl; target = refl }) refl h
spoken next (Speaks.sends apart serves) closing heard h =
    still _ (record { closing = closing; heard = heard refl; client = refl; target = refl }) refl h

brought : {s : SessionState} {message : Message} {streams : StreamState} {next : Machine}
    → Brings s message streams → Allows s.machine message next
    → (s.machine.closing ≡ true → next.closing ≡ true)
    → (is_greeted message ≡ false → next.state.greeting_heard ≡ s.machine.state.greeting_heard) → IsOneSided s
    → IsOneSided (record s { machine = next; streams = streams })
brought {s} (Brings.hears whole reading) allows closing heard h =
    let (idle, none) = target_idle h (client_alone s (lets allows).1 (λ waits. cc)) in
    IsOneSided.of_client (target_still (heard refl) refl idle) none
brought {s} {next = next} (Brings.greeted came) allows closing heard h =
    let (idle, none) = client_idle h (λ also. let first = (lets allows).1 in let same = also.greeted in cc) in
    IsOneSided.of_target (client_still s (record s { machine = next }) closing refl idle) none
brought {s} {next = next} (Brings.packet {commands = commands} {n = n} greeted whole says) allows closing heard h =
    let (idle, none) = client_idle h (λ also. let waits = also.front in cc) in
    let now : SessionState =
    record s { machine = next; streams = record (past_packet s.streams n) { commands = commands } } in
    IsOneSided.of_target (client_still s now closing refl idle) none
brought {s} {next = next} (Brings.ends came) allows closing heard h =
    let (idle, also) = both_idle h came in
    let now : SessionState = record s { machine = next; streams = record s.streams { ended = false } } in
    IsOneSided.of_end (client_still s now closing refl idle) (target_still (heard refl) refl also)
brought {s} (Brings.reads serves reads) allows closing heard h =
    still _ (record { closing = closing; heard = heard refl; client = refl; target = refl }) refl h

happened : {limits : Limits} {s : SessionState} {entry : Entry} {streams : StreamState} (n : ℕ)
    → IsWaiting limits s → Comes s.streams entry streams
    → IsOneSided (record s { streams = streams; quiets = n })
happened n w Comes.piece =
    IsOneSided.of_client (record { front = w.no_packet; greeted = w.reads.greeted }) w.not_ended
happened n w Comes.packets = IsOneSided.of_target w.no_frame w.not_ended
happened n w Comes.ends = IsOneSided.of_end w.no_frame (record { front = w.no_packet; greeted = w.reads.greeted })
happened n w Comes.passes_quiet = IsOneSided.of_target w.no_frame w.not_ended

at_start : IsOneSided start
unfolding frame_front
at_start = IsOneSided.of_target (inr refl) refl

pub one_sided : {limits : Limits} {log : List Entry} {messages : List Message} {turns : ℕ} {s : SessionState}
    → Going limits log messages turns s → IsOneSided s
one_sided Going.begins = at_start
one_sided (Going.goes g on is) = still _ (record {
  closing = closes_on (closing_by (gone_on is));
  heard = heard_still (is_run g) (is_run (Going.goes g on is));
  client = refl;
  target = refl;
}) refl (one_sided g)
one_sided (Going.speaks {messages} {message} {next = next} g on allows says) =
    spoken next says (closes_on (closing_by (moved allows)))
    (λ other. heard_on messages message other (is_run g) (is_run (Going.speaks g on allows says))) (one_sided g)
one_sided (Going.hears {messages} {message} g reads allows brings) =
    brought brings allows (closes_on (closing_by (moved allows)))
    (λ other. heard_on messages message other (is_run g) (is_run (Going.hears g reads allows brings))) (one_sided g)
one_sided (Going.ignores {s} g reads whole reading) =
    let (idle, none) = target_idle (one_sided g) (client_alone s reads.is_open (λ waits. cc)) in
    IsOneSided.of_client (record { front = idle.front; greeted = idle.greeted }) none
one_sided (Going.happens {entry} g listens comes) = happened _ listens.waits comes
