-- How a whole session is put together from its turns.
use Rattle.std.proofs.Common.{◌≡◌, ℕ, ◌+◌, ◌<◌, ◌≤◌, refl, sym, subst, ◌∙◌, arith, false, [], inr}
use Rattle.bridge_core.proofs.GoLaws.{fresh_ready}
use Rattle.bridge_core.specs.Calls.{words_left}
use Rattle.bridge_core.specs.Cores.{CoreState, Unheard, fresh_core, session_in}
use Rattle.bridge_serve.specs.Following.{Follows, GoesOn, HasEnded, Hears, HearsEnd, IsOver, MayHear, MayTake, Ran}
use Rattle.bridge_serve.specs.Following.{Says, Served, Speakable, Stops, lacks_memory, nothing_heard}
use Rattle.bridge_serve.specs.Names.{Client, Ending, Idle, Limits, NoMemory, Spent, Target}
use Rattle.bridge_serve.specs.Serving.{Blames, Idles, Keeps, WasQuiet}
use Rattle.bridge_serve.proofs.LastWords.{words_here}
use Rattle.bridge_serve.proofs.Logs.{adds_none, blames_on, blames_then, keeps_on, keeps_same, keeps_within, quiet_none}
use Rattle.bridge_serve.proofs.Logs.{quiet_on, quiet_then}
use Rattle.bridge_serve.proofs.Moves.{no_link, stopped_here}
use Rattle.dap_frames.proofs.Fronts.{front-reads}
use Rattle.machine_model.specs.Due.{due, load_of, wanted}
use Rattle.session_model.specs.Causes.{Cause, IsWaiting}
use Rattle.session_model.specs.Session.{Going, IsLeft, IsSession}
use Rattle.session_model.specs.States.{start}
use Rattle.wire_core.specs.Outside.{IsOpen, Outside}

-- a session that has not begun
begins : (limits : Limits) (o : Outside) → Follows limits o o 0 start
begins limits o = record { added = []; messages = []; log = adds_none o.log; going = Going.begins }

-- may be taken up, and waits
first_takes : (o : Outside) (limit : ℕ) → IsOpen Client o → IsOpen Target o
    → MayTake o (fresh_core limit) nothing_heard
unfolding due load_of wanted
first_takes o limit client target = record {
  ready = fresh_ready limit;
  unspoken = refl;
  client = client;
  target = λ near not_ended. target;
  nothing_due = refl;
  shaken = λ heard. cc;
}

first_waits : (limits : Limits) → IsWaiting limits start
unfolding due load_of wanted
first_waits limits = record {
  reads = record {
    reads = record { nothing_due = refl; on = record { no_flood = omega arith } };
    none_to_read = refl;
    greeted = refl;
  };
  no_frame = inr (front-reads [] _ refl);
  no_packet = refl;
  not_ended = refl;
}

-- the session of a call so far: it stands here after so many turns, and waits
pub record IsOnTurn (limits : Limits) (begin now : Outside) (turns : ℕ) (core : CoreState) (unheard : Unheard)
    : Type 0 where
  pub follows : Follows limits begin now turns (session_in core unheard)
  pub may_take : MayTake now core unheard
  pub waits : IsWaiting limits (session_in core unheard)
  pub same_limit : core.limit ≡ limits.waiting
  pub keeps : Keeps turns begin now
  pub quiet : WasQuiet unheard.quiets begin now

pub first_turn : (limits : Limits) (o : Outside) → IsOpen Client o → IsOpen Target o
    → IsOnTurn limits o o 0 (fresh_core limits.waiting) nothing_heard
first_turn limits o client target = record {
  follows = begins limits o;
  may_take = first_takes o limits.waiting client target;
  waits = first_waits limits;
  same_limit = refl;
  keeps = keeps_same o;
  quiet = quiet_none o;
}

module _ (limits : Limits) (begin old : Outside) (turns : ℕ) (core : CoreState) (unheard : Unheard)
    (now : IsOnTurn limits begin old turns core unheard) where
  -- what came ended it
  pub hears_last : (new : Outside) (ending : Ending) → turns < limits.turns
      → HearsEnd limits old new core unheard ending → Keeps 1 old new → Ran limits begin new core ending
  hears_last new ending more hears keeps = record {
    turns = turns + 1;
    has_ended = hears.stopped turns more begin now.follows;
    keeps = keeps_within (omega (arith, more)) (keeps_on now.keeps keeps);
    blames = blames_on new ending now.keeps hears.blames;
    idles = λ is. absurd (hears.awake is);
  }

  -- it ended while what came was handled
  pub handles_last : (middle new : Outside) (core' : CoreState) (unheard' : Unheard) (ending : Ending)
      → turns < limits.turns → Hears limits old middle core unheard unheard' → Keeps 1 old middle
      → Stops middle new core core' unheard' ending → Ran limits begin new core' ending
  handles_last middle new core' unheard' ending more hears keeps stops =
      let kept = keeps_on now.keeps keeps in
      record {
        turns = turns + 1;
        has_ended = stops.stopped limits (turns + 1) now.same_limit begin (hears.leads turns more begin now.follows);
        keeps = keeps_within (omega (arith, more)) (keeps_on kept stops.keeps);
        blames = blames_on new ending kept stops.blames;
        idles = λ is. absurd (stops.awake is);
      }

  -- a whole turn
  pub turns_on : (middle new : Outside) (core' : CoreState) (unheard' unheard'' : Unheard) → turns < limits.turns
      → Hears limits old middle core unheard unheard' → Keeps 1 old middle
      → GoesOn middle new core core' unheard' unheard'' → IsWaiting limits (session_in core' unheard'')
      → IsOnTurn limits begin new (turns + 1) core' unheard''
  turns_on middle new core' unheard' unheard'' more hears keeps on waits = record {
    follows = on.leads limits (turns + 1) now.same_limit begin (hears.leads turns more begin now.follows);
    may_take = on.may_take;
    waits = waits;
    same_limit = on.same_limit ∙ now.same_limit;
    keeps = keeps_on now.keeps (keeps_on keeps on.keeps);
    quiet = subst (λ (n : ℕ). WasQuiet n begin new) (sym on.same_ends.quiets)
        (quiet_then (quiet_on now.keeps now.quiet keeps hears.waited) on.keeps);
  }

  -- it ends where it waits
  ends_here : (ending : Ending) → turns ≤ limits.turns → Cause limits turns (session_in core unheard) ending [] 0
      → Blames old old ending → Idles limits begin old ending → Ran limits begin old core ending
  ends_here ending most cause blames idles = record {
    turns = turns;
    has_ended = stopped_here limits old turns (session_in core unheard) core ending cause
        (words_here old core (session_in core unheard) ending now.may_take.unspoken now.may_take.client
        (λ near. now.may_take.target near now.waits.not_ended) refl refl refl) begin now.follows;
    keeps = keeps_within most now.keeps;
    blames = blames_on old ending now.keeps blames;
    idles = idles;
  }

  -- too many waits in a row were in vain
  pub is_idle : turns < limits.turns → unheard.quiets ≤ limits.quiet → limits.quiet ≤ unheard.quiets
      → Ran limits begin old core Idle
  is_idle more most least =
      let all : unheard.quiets ≡ limits.quiet = omega (arith, most, least) in
      ends_here Idle (omega (arith, more)) (Cause.idle now.waits more all) (record {
        client = λ is_link. cc;
        target = λ is_link. cc;
        client_lost = λ is_link. cc;
        target_lost = λ is_link. cc;
        client_left = λ has_left. cc;
      }) (λ is. subst (λ (n : ℕ). WasQuiet n begin old) all now.quiet)

  -- all turns are taken
  pub is_spent : turns ≡ limits.turns → Ran limits begin old core Spent
  is_spent all =
      ends_here Spent (omega (arith, all)) (Cause.spent now.waits all) (no_link old Spent tt) (λ is. cc)

  -- what was heard so far may be followed by more
  pub may_hear : unheard.quiets < limits.quiet → MayHear limits old core unheard
  may_hear less = record { may_take = now.may_take; waits = now.waits; patient = less }

-- memory ran out before anything came
pub runs_short : (limits : Limits) (o : Outside) (core : CoreState) → Ran limits o o core NoMemory
runs_short limits o core = record {
  turns = 0;
  has_ended = HasEnded.forgets (begins limits o);
  keeps = keeps_within (omega arith) (keeps_same o);
  blames = no_link o NoMemory tt;
  idles = λ is. cc;
}

-- the last words that are left go to sides that are open
speakable_in : {limits : Limits} {begin now : Outside} {turns : ℕ} {core : CoreState} {ending : Ending}
    → HasEnded limits begin now turns core ending → lacks_memory ending ≡ false
    → Speakable now (words_left ending core)
speakable_in {now = now} (HasEnded.ended log ended has) caused =
    subst (λ (words : _). Speakable now words) has.words has.speakable
speakable_in (HasEnded.forgets follows) caused = cc

pub may_say : {limits : Limits} {old now : Outside} {core : CoreState} {ending : Ending}
    → Ran limits old now core ending → lacks_memory ending ≡ false → Speakable now (words_left ending core)
may_say ran caused = speakable_in ran.has_ended caused

session_so : (limits : Limits) (begin now : Outside) (turns : ℕ) (ending : Ending)
    → IsOver limits begin now turns ending → IsSession begin now limits ending
session_so limits begin now turns ending over =
    record { added = over.added; messages = over.messages; turns = turns; log = over.log; left = over.left }

-- the last words are said, and it is over
pub served : (limits : Limits) (old middle new : Outside) (core : CoreState) (ending result : Ending)
    → Ran limits old middle core ending → Says middle new core ending result → Served old new limits result
served limits old middle new core ending result ran (Says.all silent) = record {
  session = session_so limits old new ran.turns ending (silent.leads limits old ran.turns ran.has_ended);
  keeps = keeps_within (omega arith) (keeps_on ran.keeps silent.keeps);
  blames = blames_then ending ran.keeps ran.blames silent.keeps;
  idles = λ is. quiet_then (ran.idles is) silent.keeps;
}
served limits old middle new core ending result ran (Says.no_memory silent) = record {
  session = session_so limits old new ran.turns NoMemory (silent.leads limits old ran.turns ran.has_ended);
  keeps = keeps_within (omega arith) (keeps_on ran.keeps silent.keeps);
  blames = record {
    client = λ is_link. cc;
    target = λ is_link. cc;
    client_lost = λ is_link. cc;
    target_lost = λ is_link. cc;
    client_left = λ has_left. cc;
  };
  idles = λ is. cc;
}

-- memory ran out before it began
pub served_nothing : (limits : Limits) (o : Outside) → Served o o limits NoMemory
served_nothing limits o = record {
  session = record {
    added = [];
    messages = [];
    turns = 0;
    log = adds_none o.log;
    left = IsLeft.no_memory Going.begins;
  };
  keeps = keeps_within (omega arith) (keeps_same o);
  blames = no_link o NoMemory tt;
  idles = λ is. cc;
}

-- what a test found of what was heard
pub quiets_less : {seen unheard : Unheard} (n : ℕ) → seen ≡ unheard → seen.quiets < n → unheard.quiets < n
quiets_less n view h = subst (λ (it : Unheard). it.quiets < n) view h

pub quiets_least : {seen unheard : Unheard} (n : ℕ) → seen ≡ unheard → n ≤ seen.quiets → n ≤ unheard.quiets
quiets_least n view h = subst (λ (it : Unheard). n ≤ it.quiets) view h
