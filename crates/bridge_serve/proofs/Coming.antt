-- What comes where the session waits.
use Rattle.std.proofs.Common.{◌≡◌, ℕ, ◌+◌, ◌<◌, ◌≤◌, refl, sym, ap, subst, ◌∙◌, arith, Bool, true, false, List, [], ◌∷◌}
use Rattle.std.proofs.Common.{length, length-append, length-take-le, take}
use Rattle.bridge_core.specs.Cores.{CoreState, Unheard, session_in}
use Rattle.bridge_serve.specs.Following.{HasEnded, HasWords, Hears, HearsEnd, IsCounted, MayHear, MayTake, Waits}
use Rattle.bridge_serve.specs.Names.{Client, ClientLink, Ending, Entry, Idle, Left, Limits, NoMemory, Target, TargetLink}
use Rattle.bridge_serve.specs.Serving.{Blames}
use Rattle.bridge_serve.proofs.LastWords.{each_client, each_target, words_at}
use Rattle.bridge_serve.proofs.Moves.{Continues, leads_by, stopped_by}
use Rattle.jdwp_packets.proofs.ReceivedLaws.{received_size}
use Rattle.jdwp_packets.specs.Receiving.{Received, received}
use Rattle.machine_model.specs.State.{is_gone}
use Rattle.session_model.proofs.EndedRules.{ended_by}
use Rattle.session_model.specs.Causes.{Cause, Listens}
use Rattle.session_model.specs.LastWords.{LastWord, word_side}
use Rattle.session_model.specs.Session.{Comes, Going, quiets_after}
use Rattle.session_model.specs.States.{StreamState}
use Rattle.wire_core.specs.Outside.{Adds, IsOpen, Outside}
use Rattle.wire_core.specs.Outside.{Hears as hears}
use Rattle.wire_core.specs.Streams.{Uncut, fed}
use Rattle.wire_core.specs.declared.outside.Happening.TheVariants as happenings

-- what was heard so far, with this heard too
abbrev pub with_piece : Unheard → List ℕ → Unheard
with_piece unheard bytes = record unheard { client = fed unheard.client bytes; quiets = 0 }

abbrev pub with_packets : Unheard → List ℕ → Unheard
with_packets unheard bytes = record unheard { target = received unheard.target bytes; quiets = 0 }

abbrev pub with_end : Unheard → Unheard
with_end unheard = record unheard { ended = true; quiets = 0 }

abbrev pub with_quiet : Unheard → Unheard
with_quiet unheard = record unheard { quiets = unheard.quiets + 1 }

listens : (limits : Limits) (o : Outside) (core : CoreState) (unheard : Unheard) (turns : ℕ)
    → MayHear limits o core unheard → turns < limits.turns → Listens limits turns (session_in core unheard)
listens limits o core unheard turns may more =
    record { waits = may.waits; more_turns = more; patient = may.patient }

happens_on : (limits : Limits) (o : Outside) (core : CoreState) (unheard : Unheard) (turns : ℕ) (entry : Entry)
    (streams : StreamState) → MayHear limits o core unheard → turns < limits.turns
    → Comes (session_in core unheard).streams entry streams
    → Continues limits turns (session_in core unheard) (entry ∷ []) (turns + 1)
    (record (session_in core unheard) { streams = streams; quiets = quiets_after entry unheard.quiets })
unfolding Continues
happens_on limits o core unheard turns entry streams may more comes log messages g =
    (messages, Going.happens g (listens limits o core unheard turns may more) comes)

-- the session goes on after it
goes_on : (limits : Limits) (old new : Outside) (core : CoreState) (unheard unheard' : Unheard) (entry : Entry)
    (streams : StreamState) → MayHear limits old core unheard → Adds old new (entry ∷ [])
    → Comes (session_in core unheard).streams entry streams
    → record (session_in core unheard) { streams = streams; quiets = quiets_after entry unheard.quiets }
    ≡ session_in core unheard'
    → MayTake new core unheard' → Waits old new unheard.quiets unheard'.quiets
    → Hears limits old new core unheard unheard'
goes_on limits old new core unheard unheard' entry streams may adds comes is take waits = record {
  leads = λ turns more. leads_by limits old new (entry ∷ []) turns (turns + 1) _ _ adds
      (subst (λ s. Continues limits turns (session_in core unheard) (entry ∷ []) (turns + 1) s) is
      (happens_on limits old core unheard turns entry streams may more comes));
  may_take = take;
  waited = waits;
}

-- what comes leaves the core as it was
still_takes : (old new : Outside) (core : CoreState) (unheard unheard' : Unheard) → MayTake old core unheard
    → new.client.is_open ≡ old.client.is_open
    → (unheard'.ended ≡ false → new.target.is_open ≡ old.target.is_open)
    → (unheard'.ended ≡ false → unheard.ended ≡ false)
    → (unheard.target.greeted ≡ true → unheard'.target.greeted ≡ true) → MayTake new core unheard'
still_takes old new core unheard unheard' may client target ended greeted = record {
  ready = may.ready;
  unspoken = may.unspoken;
  client = client ∙ may.client;
  target = λ near not_ended. target not_ended ∙ may.target near (ended not_ended);
  nothing_due = may.nothing_due;
  shaken = λ heard. greeted (may.shaken heard);
}

stays_greeted : (old : Received) (piece : List ℕ) → old.greeted ≡ true → (received old piece).greeted ≡ true
stays_greeted old piece greeted = rw greeted refl

-- bytes of the client
pub piece_comes : (limits : Limits) (old new : Outside) (buffer : List ℕ) (n : ℕ) (core : CoreState)
    (unheard : Unheard) → MayHear limits old core unheard → hears old new buffer (happenings.Bytes Client n)
    → Hears limits old new core unheard (with_piece unheard (take n buffer))
piece_comes limits old new buffer n core unheard may came =
    goes_on limits old new core unheard _ _ _ may came.log Comes.piece refl
    (still_takes old new core unheard _ may.may_take came.happens.3.client (λ _. came.happens.3.target)
    (λ not_ended. not_ended) (λ greeted. greeted)) Waits.came

-- bytes of the target
pub packets_come : (limits : Limits) (old new : Outside) (buffer : List ℕ) (n : ℕ) (core : CoreState)
    (unheard : Unheard) → MayHear limits old core unheard → hears old new buffer (happenings.Bytes Target n)
    → Hears limits old new core unheard (with_packets unheard (take n buffer))
packets_come limits old new buffer n core unheard may came =
    goes_on limits old new core unheard _ _ _ may came.log Comes.packets refl
    (still_takes old new core unheard _ may.may_take came.happens.3.client (λ _. came.happens.3.target)
    (λ not_ended. not_ended) (stays_greeted unheard.target (take n buffer))) Waits.came

-- the target's end
pub end_comes : (limits : Limits) (old new : Outside) (buffer : List ℕ) (core : CoreState) (unheard : Unheard)
    → MayHear limits old core unheard → hears old new buffer (happenings.Shut Target)
    → Hears limits old new core unheard (with_end unheard)
end_comes limits old new buffer core unheard may came =
    goes_on limits old new core unheard _ _ _ may came.log Comes.ends refl
    (still_takes old new core unheard _ may.may_take came.happens.other (λ not_ended. cc) (λ not_ended. cc)
    (λ greeted. greeted)) Waits.came

-- nothing
pub quiet_comes : (limits : Limits) (old new : Outside) (buffer : List ℕ) (core : CoreState) (unheard : Unheard)
    → MayHear limits old core unheard → hears old new buffer happenings.Quiet
    → Hears limits old new core unheard (with_quiet unheard)
quiet_comes limits old new buffer core unheard may came =
    goes_on limits old new core unheard _ _ _ may came.log Comes.passes_quiet refl
    (still_takes old new core unheard _ may.may_take came.happens.0.client (λ _. came.happens.0.target)
    (λ not_ended. not_ended) (λ greeted. greeted))
    (Waits.in_vain came.happens.0 came.happens.1 came.happens.2)

-- memory ran out over bytes that came
forgets : (limits : Limits) (old new : Outside) (core : CoreState) (unheard unheard' : Unheard)
    → Hears limits old new core unheard unheard' → HearsEnd limits old new core unheard NoMemory
forgets limits old new core unheard unheard' heard = record {
  stopped = λ turns more begin follows. HasEnded.forgets (heard.leads turns more begin follows);
  blames = blames_none new;
  awake = λ is. cc;
}
  where
    blames_none : (new : Outside) → Blames old new NoMemory
    blames_none new = record {
      client = λ is_link. cc;
      target = λ is_link. cc;
      client_lost = λ is_link. cc;
      target_lost = λ is_link. cc;
      client_left = λ has_left. cc;
    }

pub piece_forgets : (limits : Limits) (old new : Outside) (buffer : List ℕ) (n : ℕ) (core : CoreState)
    (unheard : Unheard) → MayHear limits old core unheard → hears old new buffer (happenings.Bytes Client n)
    → HearsEnd limits old new core unheard NoMemory
piece_forgets limits old new buffer n core unheard may came =
    forgets limits old new core unheard _ (piece_comes limits old new buffer n core unheard may came)

pub packets_forget : (limits : Limits) (old new : Outside) (buffer : List ℕ) (n : ℕ) (core : CoreState)
    (unheard : Unheard) → MayHear limits old core unheard → hears old new buffer (happenings.Bytes Target n)
    → HearsEnd limits old new core unheard NoMemory
packets_forget limits old new buffer n core unheard may came =
    forgets limits old new core unheard _ (packets_come limits old new buffer n core unheard may came)

-- what came ends the session
ends_so : (limits : Limits) (old new : Outside) (core : CoreState) (unheard : Unheard) (entry : Entry)
    (ending : Ending) → Adds old new (entry ∷ [])
    → ((turns : ℕ) → turns < limits.turns → Cause limits turns (session_in core unheard) ending (entry ∷ []) 1)
    → HasWords new core (ended_by (session_in core unheard) ending) → Blames old new ending → (ending ≡ Idle → ⊥)
    → HearsEnd limits old new core unheard ending
ends_so limits old new core unheard entry ending adds cause has blames awake = record {
  stopped = λ turns more.
      stopped_by limits old new (entry ∷ []) turns 1 (turns + 1) _ core ending adds refl (cause turns more) has;
  blames = blames;
  awake = awake;
}

-- the target is still there
target_left : (limits : Limits) (old new : Outside) (core : CoreState) (unheard : Unheard)
    → MayHear limits old core unheard → new.target.is_open ≡ old.target.is_open
    → is_gone core.machine.state.phase ≡ false → IsOpen Target new
target_left limits old new core unheard may same near = same ∙ may.may_take.target near may.waits.not_ended

pub client_leaves : (limits : Limits) (old new : Outside) (buffer : List ℕ) (core : CoreState) (unheard : Unheard)
    → MayHear limits old core unheard → hears old new buffer (happenings.Shut Client)
    → HearsEnd limits old new core unheard Left
client_leaves limits old new buffer core unheard may came =
    ends_so limits old new core unheard _ Left came.log
    (λ turns more. Cause.shut (listens limits old core unheard turns may more))
    (words_at new core (session_in core unheard) Left may.may_take.unspoken refl
    (each_target (IsCounted (session_in core unheard).streams core) core.machine.state.phase (λ near. refl))
    (each_target (λ (word : LastWord). IsOpen (word_side word) new) core.machine.state.phase
    (target_left limits old new core unheard may came.happens.other)))
    (record {
      client = λ is_link. cc;
      target = λ is_link. cc;
      client_lost = λ is_link. cc;
      target_lost = λ is_link. cc;
      client_left = λ has_left. came.happens.closed;
    }) (λ is. cc)

pub client_is_lost : (limits : Limits) (old new : Outside) (buffer : List ℕ) (core : CoreState) (unheard : Unheard)
    → MayHear limits old core unheard → hears old new buffer (happenings.Failed Client)
    → HearsEnd limits old new core unheard ClientLink
client_is_lost limits old new buffer core unheard may came =
    ends_so limits old new core unheard _ ClientLink came.log
    (λ turns more. Cause.lost Client (listens limits old core unheard turns may more))
    (words_at new core (session_in core unheard) ClientLink may.may_take.unspoken refl
    (each_target (IsCounted (session_in core unheard).streams core) core.machine.state.phase (λ near. refl))
    (each_target (λ (word : LastWord). IsOpen (word_side word) new) core.machine.state.phase
    (target_left limits old new core unheard may came.happens.0.other)))
    (record {
      client = λ is_link. came.happens.1;
      target = λ is_link. cc;
      client_lost = λ is_link. came.happens.0.closed;
      target_lost = λ is_link. cc;
      client_left = λ has_left. cc;
    }) (λ is. cc)

pub target_is_lost : (limits : Limits) (old new : Outside) (buffer : List ℕ) (core : CoreState) (unheard : Unheard)
    → MayHear limits old core unheard → hears old new buffer (happenings.Failed Target)
    → HearsEnd limits old new core unheard TargetLink
target_is_lost limits old new buffer core unheard may came =
    ends_so limits old new core unheard _ TargetLink came.log
    (λ turns more. Cause.lost Target (listens limits old core unheard turns may more))
    (words_at new core (session_in core unheard) TargetLink may.may_take.unspoken refl
    (each_client (IsCounted (session_in core unheard).streams core) (λ told. refl) core.machine)
    (each_client (λ (word : LastWord). IsOpen (word_side word) new)
    (λ told. came.happens.0.other ∙ may.may_take.client) core.machine))
    (record {
      client = λ is_link. cc;
      target = λ is_link. came.happens.1;
      client_lost = λ is_link. cc;
      target_lost = λ is_link. came.happens.0.closed;
      client_left = λ has_left. cc;
    }) (λ is. cc)

-- How far the streams come ------------------------------------------------------------------------------------------

pub piece_grows : (u : Uncut) (buffer : List ℕ) (n : ℕ) → n ≤ length buffer → length buffer ≡ 65536
    → (fed u (take n buffer)).at + length (fed u (take n buffer)).pending ≤ u.at + length u.pending + 65536
piece_grows u buffer n within all =
    let more = length-append u.pending (take n buffer) in
    let taken = length-take-le n buffer within in
    omega (arith, within, all, more, taken)

pub packets_grow : (r : Received) (buffer : List ℕ) (n : ℕ) → n ≤ length buffer → length buffer ≡ 65536
    → (received r (take n buffer)).stream.at + length (received r (take n buffer)).stream.pending
    ≤ r.stream.at + length r.stream.pending + 65536
packets_grow r buffer n within all =
    let more = received_size r (take n buffer) in
    let taken = length-take-le n buffer within in
    omega (arith, within, all, more, taken)

-- What is kept of it --------------------------------------------------------------------------------------------------

abbrev unheard_of : Uncut → Received → Bool → ℕ → Unheard
unheard_of client target ended quiets =
    record { client = client; target = target; ended = ended; quiets = quiets }

module _ (unheard : Unheard) {client : Uncut} {target : Received} {ended : Bool} {quiets : ℕ}
    (view : unheard_of client target ended quiets ≡ unheard) where
  pub kept_piece : {client' : Uncut} {quiets' : ℕ} (bytes : List ℕ) → client' ≡ fed client bytes → quiets' ≡ 0
      → unheard_of client' target ended quiets' ≡ with_piece unheard bytes
  kept_piece {quiets'} bytes is zero =
      ap (λ (u : Uncut). unheard_of u target ended quiets') is
      ∙ ap (λ (n : ℕ). unheard_of (fed client bytes) target ended n) zero
      ∙ ap (λ (u : Unheard). with_piece u bytes) view

  pub kept_packets : {target' : Received} {quiets' : ℕ} (bytes : List ℕ) → target' ≡ received target bytes
      → quiets' ≡ 0 → unheard_of client target' ended quiets' ≡ with_packets unheard bytes
  kept_packets {quiets'} bytes is zero =
      ap (λ (r : Received). unheard_of client r ended quiets') is
      ∙ ap (λ (n : ℕ). unheard_of client (received target bytes) ended n) zero
      ∙ ap (λ (u : Unheard). with_packets u bytes) view

  pub kept_end : {quiets' : ℕ} → quiets' ≡ 0 → unheard_of client target true quiets' ≡ with_end unheard
  kept_end zero =
      ap (λ (n : ℕ). unheard_of client target true n) zero ∙ ap (λ (u : Unheard). with_end u) view

  pub kept_quiet : {quiets' : ℕ} → quiets' ≡ quiets + 1
      → unheard_of client target ended quiets' ≡ with_quiet unheard
  kept_quiet more =
      ap (λ (n : ℕ). unheard_of client target ended n) more ∙ ap (λ (u : Unheard). with_quiet u) view

-- the same, said of what is kept
pub hears_as : {limits : Limits} {old new : Outside} {core : CoreState} {unheard unheard' kept : Unheard}
    → unheard' ≡ kept → Hears limits old new core unheard kept → Hears limits old new core unheard unheard'
hears_as {limits} {old} {new} {core} {unheard} is h =
    subst (λ (k : Unheard). Hears limits old new core unheard k) (sym is) h
