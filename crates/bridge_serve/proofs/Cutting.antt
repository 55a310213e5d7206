-- How the bodies that the client's cutter hands out lead a session on.
use Rattle.std.proofs.Common.{◌≡◌, ℕ, ◌+◌, ◌<◌, ◌⊎◌, refl, sym, ap, subst, ◌∙◌, arith, true, false, List}
use Rattle.std.proofs.Common.{length, Option, None, Some, Ok, Err}
use Rattle.std.proofs.lemmas.List.{length-drop}
use Rattle.bridge_core.specs.Calls.{IsLike, Refuses, Takes}
use Rattle.bridge_core.specs.Cores.{CoreState, Unheard, session_in, streams_in, with_machine}
use Rattle.bridge_core.specs.Cores.{IsReady as is_ready}
use Rattle.bridge_serve.specs.Following.{IsMisframed, IsTakenUp, Leads, MayTake, MayTell, SameEnds, Stops, body_taken}
use Rattle.bridge_serve.specs.Names.{BadClient, Ending, Limits, misframed}
use Rattle.bridge_serve.proofs.Moves.{leads_in_place}
use Rattle.bridge_serve.proofs.Taking.{IsReading, TakesUp, floods, forgets, may_tell, reads_on, reads_target}
use Rattle.bridge_serve.proofs.Taking.{stops_here}
use Rattle.dap_frames.proofs.FrameLaws.{front-steady}
use Rattle.dap_frames.specs.Frames.{Frame, frame_front}
use Rattle.dap_frames.specs.Taking.{IsAnswer, IsTaken}
use Rattle.dap_frames.specs.declared.cutter.Body.{Body}
use Rattle.dap_frames.specs.declared.fault.FrameFault.{FrameFault}
use Rattle.dap_frames.specs.declared.fault.FrameTrouble.{FrameTrouble}
use Rattle.dap_messages.specs.Reading.{reading_of}
use Rattle.dap_messages.specs.declared.requests.Incoming.TheVariants.{Request as a_request}
use Rattle.dap_messages.specs.declared.requests.Request.{Request}
use Rattle.machine_model.specs.Runs.{Allows, heard}
use Rattle.machine_model.specs.State.{is_gone}
use Rattle.session_model.specs.Causes.{Cause, IsWaiting, ReadsClient}
use Rattle.session_model.specs.Faults.{IsClientFault}
use Rattle.session_model.specs.Saying.{Brings}
use Rattle.session_model.specs.Session.{Going}
use Rattle.session_model.specs.States.{target_front}
use Rattle.wire_core.specs.Outside.{Outside}
use Rattle.wire_core.specs.Streams.{Front, Uncut, left, past}

-- the cutter's answers, by what stands at the front
pub record IsWhole (old : Uncut) (body : Body) : Type 0 where
  pub frame : Frame
  pub size : ℕ
  pub front : frame_front old.pending ≡ Front.whole frame size
  pub at : body.at ≡ old.at + frame.header
  pub bytes : body.bytes.now ≡ frame.body

answer_whole : (front : Front Frame FrameFault) (at : ℕ) (body : Body) → IsAnswer front at (Ok (Some body))
    → (frame : Frame) × (size : ℕ) × (front ≡ Front.whole frame size) × (body.at ≡ at + frame.header)
    × (body.bytes.now ≡ frame.body)
answer_whole Front.waits at body answer = cc
answer_whole (Front.whole frame size) at body answer = (frame, size, refl, answer.0, answer.1)
answer_whole (Front.faulty fault distance) at body answer = cc

taken_whole : (old : Uncut) (next : Option Body) (body : Body) → IsTaken old (Ok next) → next ≡ Some body
    → IsWhole old body
taken_whole old next body taken some =
    let found = answer_whole (frame_front old.pending) old.at body (rw some at taken) in
    record { frame = found.0; size = found.1; front = found.2; at = found.3; bytes = found.4 }

answer_fault : (front : Front Frame FrameFault) (at : ℕ) (trouble : FrameTrouble) → IsAnswer front at (Err trouble)
    → (distance : ℕ) × (front ≡ Front.faulty trouble.fault distance) × (trouble.at ≡ at + distance)
answer_fault Front.waits at trouble answer = cc
answer_fault (Front.whole frame size) at trouble answer = absurd answer
answer_fault (Front.faulty fault distance) at trouble answer =
    let e : trouble ≡ record { fault = fault; at = at + distance } = cc answer in
    let stands : FrameTrouble → Front Frame FrameFault = λ t. Front.faulty t.fault distance in
    (distance, ap stands (sym e), ap (λ (t : FrameTrouble). t.at) e)

-- what is left of the bytes, which come no further
fewer_left : (old : Uncut) (body : Body) (found : IsWhole old body)
    → (length (past old found.size).pending < length old.pending)
    × ((past old found.size).at + length (past old found.size).pending ≡ old.at + length old.pending)
fewer_left old body found =
    let taken = front-steady.takes old.pending found.frame found.size found.front in
    let some = taken.0 in
    let most = taken.1 in
    let cut = length-drop found.size old.pending in
    (omega (arith, some, most, cut), omega (arith, some, most, cut))

-- the frame is cut
abbrev pub frame_cut : Unheard → ℕ → Unheard
frame_cut unheard n = record unheard { client = past unheard.client n }

-- What the taking of a body found, and what is left then.
pub record Next (unheard unheard' : Unheard) (body : Body) : Type 0 where
  pub found : IsWhole unheard.client body
  pub left : unheard' ≡ frame_cut unheard found.size

-- what is left, by what stands at the front
abbrev left_by : Unheard → Front Frame FrameFault → Unheard
left_by unheard front = record unheard { client = left front unheard.client }

pub next_of : (unheard : Unheard) {unheard' : Unheard} {next : Option Body} {body : Body}
    → IsTaken unheard.client (Ok next) → next ≡ Some body → unheard' ≡ body_taken unheard
    → Next unheard unheard' body
next_of unheard {unheard'} {next} {body} taken some is =
    let found = taken_whole unheard.client next body taken some in
    record { found = found; left = is ∙ ap (left_by unheard) found.front }

-- nothing was found
answer_none : (front : Front Frame FrameFault) (at : ℕ) → IsAnswer front at (Ok None) → front ≡ Front.waits
answer_none Front.waits at answer = refl
answer_none (Front.whole frame size) at answer = absurd answer
answer_none (Front.faulty fault distance) at answer = cc

pub taken_none : (old : Uncut) (next : Option Body) → IsTaken old (Ok next) → next ≡ None
    → frame_front old.pending ≡ Front.waits
taken_none old next taken none = answer_none (frame_front old.pending) old.at (rw none at taken)

pub none_left : (unheard : Unheard) {unheard' : Unheard} → frame_front unheard.client.pending ≡ Front.waits
    → unheard' ≡ body_taken unheard → unheard' ≡ unheard
none_left unheard none is = is ∙ ap (left_by unheard) none

-- a body that was taken leaves fewer bytes
pub fewer_behind : {unheard unheard' : Unheard} {body : Body} → Next unheard unheard' body
    → length unheard'.client.pending < length unheard.client.pending
fewer_behind {unheard} {unheard'} {body} next =
    subst (λ (u : Unheard). length u.client.pending < length unheard.client.pending) (sym next.left)
    (fewer_left unheard.client body next.found).0

-- the session of this core reads on
reads : (limits : Limits) (o : Outside) (core : CoreState) (unheard : Unheard) → MayTake o core unheard
    → core.limit ≡ limits.waiting → core.machine.closing ≡ false → ReadsClient limits (session_in core unheard)
reads limits o core unheard may limit is_open = record {
  reads = reads_on limits o core unheard may limit;
  none_to_read = may.ready.sound.none_to_read;
  is_open = is_open;
}

-- a request is heard
request_leads : (o : Outside) (core : CoreState) (unheard : Unheard) (frame : Frame) (n : ℕ) (request : Request)
    → MayTake o core unheard → core.machine.closing ≡ false
    → frame_front unheard.client.pending ≡ Front.whole frame n → reading_of frame.body ≡ Ok (a_request request)
    → (limits : Limits) (turns : ℕ) → core.limit ≡ limits.waiting
    → Leads limits o turns (session_in core unheard) o turns
    (session_in (with_machine core (heard core.machine request)) (frame_cut unheard n))
request_leads o core unheard frame n request may is_open front read limits turns limit =
    leads_in_place limits o turns _ _ (λ log messages g. (
      _,
      Going.hears g (reads_on limits o core unheard may limit)
          (Allows.hears may.ready.sound.none_to_read is_open) (Brings.hears front read),
    ))

same_ends : (unheard : Unheard) (body : Body) (found : IsWhole unheard.client body)
    → SameEnds unheard (frame_cut unheard found.size)
same_ends unheard body found =
    record { client = (fewer_left unheard.client body found).1; target = refl; quiets = refl }

not_closed : {closing : _} → closing ≡ false → closing ≡ true → ⊥
not_closed is_open closed = cc

takes : (o : Outside) (core core' : CoreState) (unheard : Unheard) (body : Body) → MayTake o core unheard
    → core.machine.closing ≡ false → (found : IsWhole unheard.client body) → Takes core found.frame.body core'
    → TakesUp o core core' unheard (frame_cut unheard found.size)
takes o core core' unheard body may is_open found (Takes.hears {request} read is_still is) =
    subst (λ (c : CoreState). TakesUp o core c unheard (frame_cut unheard found.size)) (sym is) (record {
      leads = request_leads o core unheard found.frame found.size request may is_open found.front read;
      shaken = may.shaken;
      same_limit = refl;
      ends = same_ends unheard body found;
    })
takes o core core' unheard body may is_open found (Takes.passes read is) =
    subst (λ (c : CoreState). TakesUp o core c unheard (frame_cut unheard found.size)) (sym is) (record {
      leads = λ limits turns limit. leads_in_place limits o turns _ _ (λ log messages g.
          (messages, Going.ignores g (reads limits o core unheard may limit is_open) found.front read));
      shaken = may.shaken;
      same_limit = refl;
      ends = same_ends unheard body found;
    })
takes o core core' unheard body may is_open found (Takes.is_closed closed is) = absurd (not_closed is_open closed)

pub takes_body : {o : Outside} {core : CoreState} {unheard unheard' : Unheard} {body : Body} → IsReading o core unheard
    → core.machine.closing ≡ false → Next unheard unheard' body → (core' : CoreState)
    → Takes core body.bytes.now core' → TakesUp o core core' unheard unheard'
takes_body {o} {core} {unheard} {unheard'} {body} reading is_open next core' taken =
    let found = next.found in
    subst (λ (u : Unheard). TakesUp o core core' unheard u) (sym next.left)
    (takes o core core' unheard body reading.may is_open found
    (subst (λ (bytes : List ℕ). Takes core bytes core') found.bytes taken))

-- behind a body the core may tell and send
pub tells_body : (o : Outside) (core middle : CoreState) (body : List ℕ) → MayTell o core → is_ready middle
    → Takes core body middle → MayTell o middle
tells_body o core middle body may ready (Takes.hears read is_open is) = record {
  ready = ready;
  unspoken = ap (λ (c : CoreState). c.words) is ∙ may.unspoken;
  client = may.client;
  target = λ near. may.target (ap (λ (c : CoreState). is_gone c.machine.state.phase) (sym is) ∙ near);
}
tells_body o core middle body may ready (Takes.passes read is) = subst (MayTell o) (sym is) may
tells_body o core middle body may ready (Takes.is_closed closed is) = subst (MayTell o) (sym is) may

like_same : (core core' : CoreState) → core' ≡ core → IsLike core core'
like_same core core' is = subst (IsLike core) (sym is) (record { same = refl; next = refl })

-- A body ends the session.
refused_by : (o : Outside) (core core' : CoreState) (unheard : Unheard) (frame : Frame) (n : ℕ) (ending : Ending)
    → IsReading o core unheard → core.machine.closing ≡ false
    → frame_front unheard.client.pending ≡ Front.whole frame n
    → Refuses core frame.body (unheard.client.at + frame.header) core' ending → Stops o o core core' unheard ending
refused_by o core core' unheard frame n ending reading is_open front Refuses.no_memory = forgets o core core' unheard
refused_by o core core' unheard frame n ending reading is_open front (Refuses.not_json read is) =
    stops_here o core core' unheard _ (may_tell o core unheard reading.may reading.taken_up.not_ended)
    (λ limits turns limit. Cause.misread (reads limits o core unheard reading.may limit is_open)
    (IsClientFault.bad_json front read)) (like_same core core' is) tt
refused_by o core core' unheard frame n ending reading is_open front (Refuses.not_a_message read is) =
    stops_here o core core' unheard _ (may_tell o core unheard reading.may reading.taken_up.not_ended)
    (λ limits turns limit. Cause.misread (reads limits o core unheard reading.may limit is_open)
    (IsClientFault.bad_message front read)) (like_same core core' is) tt
refused_by o core core' unheard frame n ending reading is_open front
    (Refuses.floods (Takes.hears {request} read is_still is) more) =
    let may = may_tell o core unheard reading.may reading.taken_up.not_ended in
    floods o core (with_machine core (heard core.machine request)) core' unheard (frame_cut unheard n)
    (request_leads o core unheard frame n request reading.may is_open front read) may.unspoken may.client may.target
    refl is (subst (λ (c : CoreState). c.limit < length c.machine.waiting) is more)
refused_by o core core' unheard frame n ending reading is_open front (Refuses.floods (Takes.passes read is) more) =
    let room = reading.may.ready.room in
    let less : core.limit < length core.machine.waiting =
    subst (λ (c : CoreState). c.limit < length c.machine.waiting) is more in
    absurd (omega (arith, room, less))
refused_by o core core' unheard frame n ending reading is_open front
    (Refuses.floods (Takes.is_closed closed is) more) = absurd (not_closed is_open closed)

pub refuses_body : {o : Outside} {core : CoreState} {unheard unheard' : Unheard} {body : Body}
    → IsReading o core unheard → core.machine.closing ≡ false → Next unheard unheard' body
    → (core' : CoreState) (ending : Ending) → Refuses core body.bytes.now body.at core' ending
    → Stops o o core core' unheard ending
refuses_body {o} {core} {unheard} {unheard'} {body} reading is_open next core' ending refuses =
    let found = next.found in
    refused_by o core core' unheard found.frame found.size ending reading is_open found.front
    (subst (λ (at : ℕ). Refuses core found.frame.body at core' ending) found.at
    (subst (λ (bytes : List ℕ). Refuses core bytes body.at core' ending) found.bytes refuses))

-- a byte that no frame has there
pub misframes : {o : Outside} {core : CoreState} {unheard : Unheard} (ending : Ending) → IsReading o core unheard
    → core.machine.closing ≡ false → IsMisframed unheard ending → Stops o o core core unheard ending
misframes {o} {core} {unheard} ending reading is_open (trouble, taken, is) =
    let found = answer_fault (frame_front unheard.client.pending) unheard.client.at trouble taken in
    subst (λ (e : Ending). Stops o o core core unheard e) (sym is)
    (subst (λ (at : ℕ). Stops o o core core unheard (BadClient (misframed trouble.fault) at)) (sym found.2)
    (stops_here o core core unheard _ (may_tell o core unheard reading.may reading.taken_up.not_ended)
    (λ limits turns limit. Cause.misread (reads limits o core unheard reading.may limit is_open)
    (IsClientFault.bad_frame found.1)) (like_same core core refl) tt))

-- the session waits
pub waits_on : (limits : Limits) (o : Outside) (core : CoreState) (unheard : Unheard) → MayTake o core unheard
    → IsTakenUp core unheard → target_front (streams_in core unheard) ≡ Front.waits
    → (core.machine.closing ≡ true) ⊎ (frame_front unheard.client.pending ≡ Front.waits)
    → core.limit ≡ limits.waiting → IsWaiting limits (session_in core unheard)
waits_on limits o core unheard may taken_up no_packet no_frame limit = record {
  reads = reads_target limits o core unheard (record { may = may; taken_up = taken_up }) limit;
  no_frame = no_frame;
  no_packet = no_packet;
  not_ended = taken_up.not_ended;
}
