-- How each message that goes out leads a session from one place to another.
use Rattle.std.proofs.Common.{◌≡◌, ℕ, ◌+◌, ◌<◌, ◌≤◌, refl, sym, ap, subst, ◌∙◌, arith, false, true, List, [], ◌∷◌, ◌++◌}
use Rattle.std.proofs.Common.{append-nil, length}
use Rattle.bridge_core.specs.Calls.{Finds, Goes, IsIdle, IsOver, Sends, finish_ending, in_phase}
use Rattle.bridge_core.specs.Cores.{CoreState, Unheard, session_in, with_machine}
use Rattle.bridge_core.specs.Cores.{IsReady as is_ready}
use Rattle.bridge_serve.specs.Following.{CoreGoesOn, CoreStops, HasEnded, HasWords, IsCounted, Leads}
use Rattle.bridge_serve.specs.Following.{MayTell, Stopped, nothing_heard}
use Rattle.bridge_serve.specs.Names.{Client, ClientLink, Done, Ending, Entry, Idle, Left, Limits, NoMemory, Out, Side, Target}
use Rattle.bridge_serve.specs.Names.{TargetLink}
use Rattle.bridge_serve.specs.Serving.{Blames}
use Rattle.bridge_serve.proofs.LastWords.{each_client, each_target, speaks_bytes, words_at, words_here}
use Rattle.bridge_serve.proofs.Logs.{adds_more, adds_none, blames_on, keeps_on, keeps_open, keeps_other}
use Rattle.bridge_serve.proofs.Logs.{keeps_same, no_wait}
use Rattle.bridge_serve.proofs.Steps.{goes_hidden, sent_so}
use Rattle.machine_model.specs.Due.{due}
use Rattle.machine_model.specs.Runs.{Message}
use Rattle.machine_model.specs.State.{Machine, is_gone}
use Rattle.session_model.proofs.EndedRules.{ended_by, ends_by}
use Rattle.session_model.specs.Causes.{Cause, IsOn, link_ending}
use Rattle.session_model.specs.LastWords.{LastWord, last_words, target_words, word_side}
use Rattle.session_model.specs.Session.{Going}
use Rattle.session_model.specs.Names.{Act, Finish, finish_done, finish_one_thread}
use Rattle.session_model.specs.States.{SessionState, due_now, id_pending}
use Rattle.wire_core.specs.Outside.{Adds, FailsToSend, IsOpen, Outside}
use Rattle.wire_core.specs.Outside.{Sends as sends}

module _ (limits : Limits) where
  -- a session that goes on from one place goes on from the other, with these entries
  unfoldable pub Continues : ℕ → SessionState → List Entry → ℕ → SessionState → Type 0
  Continues before from entries after to = (log : List Entry) (messages : List Message)
      → Going limits log messages before from
      → (later : List Message) × Going limits (log ++ entries) later after to

  -- whoever logs the entries leads the session on
  pub leads_by : (old new : Outside) (entries : List Entry) (before after : ℕ) (from to : SessionState)
      → Adds old new entries → Continues before from entries after to → Leads limits old before from new after to
  unfolding Continues
  leads_by old new entries before after from to adds goes_on begin follows =
      let next = goes_on follows.added follows.messages follows.going in
      record {
        added = follows.added ++ entries;
        messages = next.0;
        log = adds_more begin old new follows.added entries follows.log adds;
        going = next.1;
      }

  -- a step that logs nothing
  pub unlogged : (turns : ℕ) (from to : SessionState) → ((log : List Entry) (messages : List Message)
      → Going limits log messages turns from → (later : List Message) × Going limits log later turns to)
      → Continues turns from [] turns to
  unfolding Continues
  unlogged turns from to step log messages g = rw append-nil (step log messages g)

  -- and changes nothing outside
  pub leads_in_place : (o : Outside) (turns : ℕ) (from to : SessionState)
      → ((log : List Entry) (messages : List Message) → Going limits log messages turns from
      → (later : List Message) × Going limits log later turns to) → Leads limits o turns from o turns to
  leads_in_place o turns from to step =
      leads_by o o [] turns turns from to (adds_none o.log) (unlogged turns from to step)

  -- where a cause has come, with these entries and so many turns, the session has ended
  pub stopped_by : (old new : Outside) (entries : List Entry) (before taken after : ℕ) (s : SessionState)
      (core : CoreState) (ending : Ending) → Adds old new entries → after ≡ before + taken
      → Cause limits before s ending entries taken → HasWords new core (ended_by s ending)
      → Stopped limits old before s new after core ending
  stopped_by old new entries before taken after s core ending adds turns cause has begin follows =
      subst (λ (n : ℕ). HasEnded limits begin new n core ending) (sym turns)
      (HasEnded.ended (adds_more begin old new follows.added entries follows.log adds) (ends_by follows.going cause)
      has)

  -- nothing was logged
  pub stopped_here : (o : Outside) (turns : ℕ) (s : SessionState) (core : CoreState) (ending : Ending)
      → Cause limits turns s ending [] 0 → HasWords o core (ended_by s ending)
      → Stopped limits o turns s o turns core ending
  stopped_here o turns s core ending cause has =
      stopped_by o o [] turns 0 turns s core ending (adds_none o.log) (omega arith) cause has

  -- one thing after the other, up to an ending
  pub stopped_on : (a b c : Outside) (before middle after : ℕ) (from to : SessionState) (core : CoreState)
      (ending : Ending) → Leads limits a before from b middle to → Stopped limits b middle to c after core ending
      → Stopped limits a before from c after core ending
  stopped_on a b c before middle after from to core ending h k begin follows = k begin (h begin follows)

  -- where a core has room for what waits, the session is on
  pub is_on : (core : CoreState) (unheard : Unheard) → core.limit ≡ limits.waiting
      → length core.machine.waiting ≤ core.limit → IsOn limits (session_in core unheard)
  is_on core unheard limit room = record { no_flood = omega (arith, limit, room) }

  -- the machine goes on by itself
  pub goes_all : {m next : Machine} (core : CoreState) (unheard : Unheard) (log : List Entry) (messages : List Message)
      (turns : ℕ) → Goes m next → core.limit ≡ limits.waiting → length m.waiting ≤ core.limit
      → Going limits log messages turns (session_in (with_machine core m) unheard)
      → Going limits log messages turns (session_in (with_machine core next) unheard)
  goes_all core unheard log messages turns Goes.stays limit room g = g
  goes_all core unheard log messages turns (Goes.goes {next = middle} rest is) limit room g =
      let fewer = (goes_hidden rest).fewer in
      Going.goes (goes_all core unheard log messages turns rest limit room g)
      (is_on (with_machine core middle) unheard limit (omega (arith, room, fewer))) is

  -- and nothing is logged
  pub leads_hidden : (o : Outside) (turns : ℕ) (core : CoreState) (unheard : Unheard) (next : Machine)
      → Goes core.machine next → core.limit ≡ limits.waiting → length core.machine.waiting ≤ core.limit
      → Leads limits o turns (session_in core unheard) o turns (session_in (with_machine core next) unheard)
  leads_hidden o turns core unheard next hidden limit room = leads_in_place o turns _ _ (λ log messages g.
      (messages, goes_all core unheard log messages turns hidden limit room g))

-- Nothing was due -----------------------------------------------------------------------------------------------------

pub rests : (o : Outside) (core core' : CoreState) → MayTell o core → is_ready core' → IsIdle core core'
    → CoreGoesOn o o core core'
rests o core core' may ready idle =
    let hidden = goes_hidden idle.goes in
    record {
      leads = λ limits unheard turns limit.
          subst (λ (c : CoreState). Leads limits o turns (session_in core unheard) o turns (session_in c unheard))
          (sym idle.same) (leads_hidden limits o turns core unheard core'.machine idle.goes limit may.ready.room);
      keeps = keeps_same o;
      may_tell = record {
        ready = ready;
        unspoken = ap (λ (c : CoreState). c.words) idle.same ∙ may.unspoken;
        client = may.client;
        target = λ near. may.target (ap is_gone (sym hidden.phase) ∙ near);
      };
      same_greeted = hidden.heard;
      same_limit = ap (λ (c : CoreState). c.limit) idle.same;
    }

-- A message that is due goes out -------------------------------------------------------------------------------------

pub open_for : (o : Outside) (core core' : CoreState) (side : Side) (bytes : List ℕ) → MayTell o core
    → Sends core side bytes core' → IsOpen side o
open_for o core core' Client bytes may out = may.client
open_for o core core' Target bytes may out = may.target ((sent_so may.ready out).near refl)

pub bytes_for : (core core' : CoreState) (side : Side) (bytes : List ℕ) → Sends core side bytes core'
    → 0 < length bytes
bytes_for core core' side bytes out = speaks_bytes (out.speaks nothing_heard)

module _ (limits : Limits) (core core' : CoreState) (side : Side) (bytes : List ℕ) (out : Sends core side bytes core')
  where
    on_before : (o : Outside) (unheard : Unheard) → MayTell o core → core.limit ≡ limits.waiting
        → IsOn limits (session_in (with_machine core out.before) unheard)
    on_before o unheard may limit =
        let fewer = (sent_so may.ready out).room in
        let room = may.ready.room in
        is_on limits (with_machine core out.before) unheard limit (omega (arith, room, fewer))

    sends_one : (o : Outside) (unheard : Unheard) (turns : ℕ) → MayTell o core → core.limit ≡ limits.waiting
        → Continues limits turns (session_in core unheard) (Out side bytes ∷ []) turns (session_in core' unheard)
    unfolding Continues
    sends_one o unheard turns may limit log messages g = (
      _,
      Going.speaks (goes_all limits core unheard log messages turns out.goes limit may.ready.room g)
          (on_before o unheard may limit) out.allows (out.speaks unheard),
    )

pub sends_on : (old new : Outside) (core core' : CoreState) (side : Side) (bytes : List ℕ) → MayTell old core
    → is_ready core' → Sends core side bytes core' → sends old new side bytes → CoreGoesOn old new core core'
sends_on old new core core' side bytes may ready out sent =
    let left = sent_so may.ready out in
    record {
      leads = λ limits unheard turns limit.
          leads_by limits old new _ turns turns _ _ sent.log
          (sends_one limits core core' side bytes out old unheard turns may limit);
      keeps = keeps_open sent.counts (no_wait old new sent.waits) sent.asked sent.stays;
      may_tell = record {
        ready = ready;
        unspoken = ap (λ (c : CoreState). c.words) out.same ∙ may.unspoken;
        client = sent.stays.client ∙ may.client;
        target = λ near. sent.stays.target ∙ may.target (still_near core core' left.gone near);
      };
      same_greeted = left.heard;
      same_limit = ap (λ (c : CoreState). c.limit) out.same;
    }
  where
    still_near : (core core' : CoreState)
        → (is_gone core.machine.state.phase ≡ true → is_gone core'.machine.state.phase ≡ true)
        → is_gone core'.machine.state.phase ≡ false → is_gone core.machine.state.phase ≡ false
    still_near core core' gone near = grind (arith, gone, near)

-- what is left of a message that wasn't sent: the session stands with its target as before it
abbrev pub unsent_from : CoreState → CoreState → CoreState
unsent_from core core' = with_machine core' (in_phase core.machine.state.phase core'.machine)

-- the last words of a link that failed are those from before the message
words_broken : (core core' : CoreState) (side : Side) (bytes : List ℕ) → is_ready core
    → (out : Sends core side bytes core')
    → last_words (link_ending side) out.before ≡ last_words (link_ending side) (unsent_from core core').machine
words_broken core core' Client bytes ready out = ap target_words (sent_so ready out).phase
words_broken core core' Target bytes ready out = sym ((sent_so ready out).words refl)

has_broken : (old new : Outside) (core core' : CoreState) (side : Side) (bytes : List ℕ) (unheard : Unheard)
    → MayTell old core → (out : Sends core side bytes core') → FailsToSend old new side bytes
    → HasWords new (unsent_from core core')
    (ended_by (session_in (with_machine core out.before) unheard) (link_ending side))
has_broken old new core core' Client bytes unheard may out failed =
    let left = sent_so may.ready out in
    words_at new (unsent_from core core') (session_in (with_machine core out.before) unheard) ClientLink
    (ap (λ (c : CoreState). c.words) out.same ∙ may.unspoken) (words_broken core core' Client bytes may.ready out)
    (each_target (IsCounted (session_in (with_machine core out.before) unheard).streams (unsent_from core core'))
    out.before.state.phase (λ near. sym (left.next refl)))
    (each_target (λ (word : LastWord). IsOpen (word_side word) new) out.before.state.phase
    (λ near. failed.closes.other ∙ may.target (ap is_gone (sym left.phase) ∙ near)))
has_broken old new core core' Target bytes unheard may out failed =
    let left = sent_so may.ready out in
    words_at new (unsent_from core core') (session_in (with_machine core out.before) unheard) TargetLink
    (ap (λ (c : CoreState). c.words) out.same ∙ may.unspoken) (words_broken core core' Target bytes may.ready out)
    (each_client (IsCounted (session_in (with_machine core out.before) unheard).streams (unsent_from core core'))
    (λ told. sym (left.told refl)) out.before)
    (each_client (λ (word : LastWord). IsOpen (word_side word) new) (λ told. failed.closes.other ∙ may.client)
    out.before)

blames_broken : (old new : Outside) (side : Side) (bytes : List ℕ) → FailsToSend old new side bytes
    → Blames old new (link_ending side)
blames_broken old new Client bytes failed = record {
  client = λ is_link. failed.rose;
  target = λ is_link. cc;
  client_lost = λ is_link. failed.closes.closed;
  target_lost = λ is_link. cc;
  client_left = λ has_left. cc;
}
blames_broken old new Target bytes failed = record {
  client = λ is_link. cc;
  target = λ is_link. failed.rose;
  client_lost = λ is_link. cc;
  target_lost = λ is_link. failed.closes.closed;
  client_left = λ has_left. cc;
}

link_awake : (side : Side) → link_ending side ≡ Idle → ⊥
link_awake Client is = cc
link_awake Target is = cc

pub breaks : (old new : Outside) (core core' : CoreState) (side : Side) (bytes : List ℕ) → MayTell old core
    → Sends core side bytes core' → FailsToSend old new side bytes
    → CoreStops old new core (unsent_from core core') (link_ending side)
breaks old new core core' side bytes may out failed = record {
  stopped = λ limits unheard turns limit.
      stopped_on limits old old new turns turns turns _ _ (unsent_from core core') (link_ending side)
      (leads_hidden limits old turns core unheard out.before out.goes limit may.ready.room)
      (stopped_by limits old new _ turns 0 turns _ (unsent_from core core') (link_ending side) failed.log (omega arith)
      (Cause.broken (on_before limits core core' side bytes out old unheard may limit) out.allows (out.speaks unheard)
      failed.proper) (has_broken old new core core' side bytes unheard may out failed));
  keeps = keeps_other side failed.counts (no_wait old new failed.waits) failed.asked failed.closes;
  blames = blames_broken old new side bytes failed;
  awake = link_awake side;
}

-- The machine finds an end -------------------------------------------------------------------------------------------

-- no link is to blame, and nothing was waited for
abbrev pub IsNoLink : Ending → Type 0
IsNoLink Left = ⊥
IsNoLink ClientLink = ⊥
IsNoLink TargetLink = ⊥
IsNoLink Idle = ⊥
IsNoLink _ = Unit {0}

pub no_link : (o : Outside) (ending : Ending) → IsNoLink ending → Blames o o ending
no_link o ending none = record {
  client = λ is_link. absurd (subst IsNoLink is_link none);
  target = λ is_link. absurd (subst IsNoLink is_link none);
  client_lost = λ is_link. absurd (subst IsNoLink is_link none);
  target_lost = λ is_link. absurd (subst IsNoLink is_link none);
  client_left = λ has_left. absurd (subst IsNoLink has_left none);
}

pub no_idle : (ending : Ending) → IsNoLink ending → ending ≡ Idle → ⊥
no_idle ending none is = subst IsNoLink is none

-- memory ran out, and nothing was sent
pub stops_for_memory : (o : Outside) (core core' : CoreState) → CoreStops o o core core' NoMemory
stops_for_memory o core core' = record {
  stopped = λ limits unheard turns limit begin follows. HasEnded.forgets follows;
  keeps = keeps_same o;
  blames = no_link o NoMemory tt;
  awake = no_idle NoMemory tt;
}

-- the machine found the session over
over_cause : (limits : Limits) (turns : ℕ) (s : SessionState) (finish : Finish) → IsOn limits s
    → (due_now s).act ≡ Act.Over finish → Cause limits turns s (finish_ending finish) [] 0
over_cause limits turns s finish_done on is = Cause.over on is
over_cause limits turns s (finish_one_thread at) on is = Cause.one_thread on is

over_no_link : (finish : Finish) → IsNoLink (finish_ending finish)
over_no_link finish_done = tt
over_no_link (finish_one_thread at) = tt

over_stops : (o : Outside) (core core' : CoreState) (finish : Finish) → MayTell o core → IsOver core finish core'
    → CoreStops o o core core' (finish_ending finish)
over_stops o core core' finish may over =
    let hidden = goes_hidden over.goes in
    let fewer = hidden.fewer in
    let room = may.ready.room in
    let ending = finish_ending finish in
    record {
      stopped = λ limits unheard turns limit.
          subst (λ (c : CoreState). Stopped limits o turns (session_in core unheard) o turns c ending) (sym over.same)
          (stopped_on limits o o o turns turns turns _ _ (with_machine core core'.machine) ending
          (leads_hidden limits o turns core unheard core'.machine over.goes limit room)
          (stopped_here limits o turns _ (with_machine core core'.machine) ending
          (over_cause limits turns _ finish
          (is_on limits (with_machine core core'.machine) unheard limit (omega (arith, room, fewer)))
          (ap (λ (c : CoreState). (due (id_pending c.commands) core'.machine).act) (sym over.same) ∙ over.is_due))
          (words_here o (with_machine core core'.machine) _ ending may.unspoken may.client
          (λ near. may.target (ap is_gone (sym hidden.phase) ∙ near)) refl refl refl)));
      keeps = keeps_same o;
      blames = no_link o ending (over_no_link finish);
      awake = no_idle ending (over_no_link finish);
    }

pub finds_stops : (o : Outside) (core core' : CoreState) (ending : Ending) → MayTell o core → Finds core core' ending
    → CoreStops o o core core' ending
finds_stops o core core' ending may Finds.no_memory = stops_for_memory o core core'
finds_stops o core core' ending may (Finds.over {finish} over) = over_stops o core core' finish may over

-- One after the other -------------------------------------------------------------------------------------------------

pub core_on : (a b c : Outside) (x y z : CoreState) → CoreGoesOn a b x y → CoreGoesOn b c y z → CoreGoesOn a c x z
core_on a b c x y z h k = record {
  leads = λ limits unheard turns limit begin follows.
      k.leads limits unheard turns (h.same_limit ∙ limit) begin (h.leads limits unheard turns limit begin follows);
  keeps = keeps_on h.keeps k.keeps;
  may_tell = k.may_tell;
  same_greeted = k.same_greeted ∙ h.same_greeted;
  same_limit = k.same_limit ∙ h.same_limit;
}

pub core_stops_on : (a b c : Outside) (x y z : CoreState) (ending : Ending) → CoreGoesOn a b x y
    → CoreStops b c y z ending → CoreStops a c x z ending
core_stops_on a b c x y z ending h k = record {
  stopped = λ limits unheard turns limit.
      stopped_on limits a b c turns turns turns _ _ z ending (h.leads limits unheard turns limit)
      (k.stopped limits unheard turns (h.same_limit ∙ limit));
  keeps = keeps_on h.keeps k.keeps;
  blames = blames_on c ending h.keeps k.blames;
  awake = k.awake;
}

-- nothing was done yet
pub core_stays : (o : Outside) (x : CoreState) → MayTell o x → CoreGoesOn o o x x
core_stays o x may = record {
  leads = λ limits unheard turns limit begin follows. follows;
  keeps = keeps_same o;
  may_tell = may;
  same_greeted = refl;
  same_limit = refl;
}
