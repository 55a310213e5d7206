-- Each move of a scripted target's joint is a course of an obeying target.
use Rattle.std.proofs.Common.{◌≡◌, ◌∙◌, ℕ, ◌<◌, ◌^◌, Bool, true, false, cond, List, [], ◌∷◌, ◌++◌, refl, sym, ap, subst}
use Rattle.std.proofs.Common.{append_assoc, map}
use Rattle.std.proofs.lemmas.List.{append-nil}
use Rattle.std.proofs.Common.{arith, Option, Some, None, take}
use Rattle.std.specs.Prelude.{not, remove, slice_get, Ok, ◌&&◌}
use Rattle.std.specs.List.{AllByRecursion}
use Rattle.jdwp_values.specs.declared.id.ThreadId.{ThreadId}
use Rattle.jdwp_values.specs.declared.sizes.IdSizes.{IdSizes}
use Rattle.jdwp_events.specs.declared.composite.Composite.{Composite}
use Rattle.jdwp_events.specs.declared.kind.Policy.{Policy}
use Rattle.jdwp_events.specs.Composites.{spell_composite}
use Rattle.jdwp_commands.specs.declared.asked.Asked.{Asked}
use Rattle.jdwp_commands.specs.declared.asked.Asked.TheVariants as commands
use Rattle.jdwp_commands.specs.declared.asked.Replied.{Replied}
use Rattle.jdwp_packets.specs.Packets.{packet_bytes}
use Rattle.joint_model.specs.Obeying.{Emits, Serves as MayServe}
use Rattle.target_server.specs.declared.commands.Command.{Command}
use Rattle.target_server.specs.Flights.{CanTell, CanTellIf, Flight, id_behind, packet_of_events}
use Rattle.target_server.specs.Flights.{packet_of_reply, replied, told_if}
use Rattle.target_server.specs.Flights.{sent as put}
use Rattle.target_server.specs.Joints.{Advances, Greets, Joint, Serves, answered, end_event, end_of}
use Rattle.target_server.specs.Joints.{greeted_with, left, next_move, start_event, start_of}
use Rattle.target_server.proofs.JointLaws.{answered_program, answered_sound, made_is}
use Rattle.world_model.specs.declared.moves.Move.{Move}
use Rattle.world_model.specs.declared.world.World.{World}
use Rattle.world_model.specs.Kept.{Program}
use Rattle.world_model.specs.MoveFacts.{Facts, Requested}
use Rattle.world_model.specs.Moving.{moved}
use Rattle.world_model.specs.Replies.{reply_of}
use Rattle.world_model.specs.Sound.{IsSound}
use Rattle.world_model.proofs.HoldLaws.{all_push}
use Rattle.world_model.proofs.MoveLaws.{facts_stay, makes, requests_stay}
use Rattle.world_model.proofs.MoveSound.{moves_sound}
use Rattle.scripted_joints.specs.Scripts.{IsQuiet, IsScripted, MayBegin}
use Rattle.scripted_joints.specs.Sides.{AreSent, CanSend, Does, Obeys, Said, Sent, Side, a_reply, said_by, said_of}
use Rattle.scripted_joints.specs.Sides.{some_events}
use Rattle.scripted_joints.proofs.CommandLaws.{applied_quiet, serves_effect, serves_question}
use Rattle.scripted_joints.proofs.Passing.{Passes}
use Rattle.scripted_joints.proofs.ProgramLaws.{passes, untold}
use Rattle.scripted_joints.proofs.Sending.{goes_out, numbered, put_behind, shakes, shakes_and_tells}

-- Courses -------------------------------------------------------------------------------------------------------------

-- one course, and then another
pub and_then : {old middle new : Side} → Obeys old middle → Obeys middle new → Obeys old new
and_then before Obeys.stays = before
and_then before (Obeys.does after one) = Obeys.does (and_then before after) one

-- the side of a scripted target that sent these
abbrev pub side_of : Joint → List Sent → Side
side_of j sent = record { world = j.world; unserved = j.unserved; sent = sent }

-- and this, if anything
abbrev pub with_told : ℕ → Option Composite → List Sent → List Sent
with_told id None sent = sent
with_told id (Some composite) sent = sent ++ some_events id composite ∷ []

-- where a move of a scripted target leads, and what is said by what it sends
pub record Leads (old : Joint) (sent : List Sent) (out : List ℕ) (new : Joint) (said : List Said) : Type 0 where
  pub later : List Sent
  pub more : List Sent
  pub grown : later ≡ sent ++ more
  pub says : map said_of more ≡ said
  pub obeys : Obeys (side_of old sent) (side_of new later)
  pub spelled : AllByRecursion (CanSend new.world.sizes) later
  pub bytes : AreSent new.world.sizes later out new.flight
  pub scripted : IsScripted new

obeys_by : (old : Side) (now : World) (told : Option Composite) (id : ℕ) → Passes old.world told now
    → Obeys old (record old { world = now; sent = with_told id told old.sent })
obeys_by old now None id Passes.stays = Obeys.stays
obeys_by old now None id (Passes.runs runs) = Obeys.does Obeys.stays (Does.runs runs)
obeys_by old now (Some composite) id (Passes.tells emits) = Obeys.does Obeys.stays (Does.emits id emits)
obeys_by old now (Some composite) id (Passes.runs_and_tells runs emits) =
    Obeys.does (Obeys.does Obeys.stays (Does.runs runs)) (Does.emits id emits)
obeys_by old now (Some composite) id (Passes.tells_and_runs emits runs) =
    Obeys.does (Obeys.does Obeys.stays (Does.emits id emits)) (Does.runs runs)

-- Flights -------------------------------------------------------------------------------------------------------------

told_bytes : (sizes : IdSizes) (sent : List Sent) (out : List ℕ) (f : Flight) (what : Option Composite)
    → AreSent sizes sent out f → AreSent sizes (with_told f.next_id what sent) out (told_if sizes what f)
told_bytes sizes sent out f None all = all
told_bytes sizes sent out f (Some composite) all =
    put_behind sizes sent (some_events f.next_id composite) out (record f { next_id = id_behind f.next_id })
    (numbered sizes sent out f (id_behind f.next_id) all)

told_spelled : (sizes : IdSizes) (sent : List Sent) (id : ℕ) (what : Option Composite) → CanTellIf sizes what
    → AllByRecursion (CanSend sizes) sent → AllByRecursion (CanSend sizes) (with_told id what sent)
told_spelled sizes sent id None can all = all
told_spelled sizes sent id (Some composite) can all = all_push (CanSend sizes) sent (some_events id composite) all can

same_greeted : (b : Bool) (x y : Flight) (g : Bool) → x.greeted ≡ g → y.greeted ≡ g → (cond b x y).greeted ≡ g
same_greeted true x y g is so = is
same_greeted false x y g is so = so

put_greeted : (bytes : List ℕ) (f : Flight) → (put bytes f).greeted ≡ f.greeted
put_greeted bytes f = same_greeted f.greeted _ _ f.greeted refl refl

told_greeted : (sizes : IdSizes) (what : Option Composite) (f : Flight) → (told_if sizes what f).greeted ≡ f.greeted
told_greeted sizes None f = refl
told_greeted sizes (Some composite) f = put_greeted (packet_bytes (packet_of_events sizes f.next_id composite))
    (record f { next_id = id_behind f.next_id })

-- Commands ------------------------------------------------------------------------------------------------------------

-- what is so of a command that was served
pub record IsServed (w : World) (asked : Asked) (replied : Replied) (now : World) : Type 0 where
  pub may : MayServe w asked replied now
  pub quiet : AllByRecursion IsQuiet w.requests → AllByRecursion IsQuiet now.requests

pub is_served : (w now : World) (asked : Asked) (replied : Replied) → answered w asked ≡ Some (now, replied)
    → IsServed w asked replied now
unfolding answered
is_served w now (commands.Question question) replied h =
    let same : ◌≡◌ {A = World × Replied} (w, reply_of w question) (now, replied) = cc in
    record {
      may = serves_question w now question replied h;
      quiet = λ quiet. subst (λ (p : World × Replied). AllByRecursion IsQuiet p.0.requests) same quiet;
    }
is_served w now (commands.Effect effect) replied h = record {
  may = serves_effect w now effect replied h;
  quiet = λ quiet. applied_quiet w now effect replied quiet h;
}

-- the end of a target has a spelling
end_fits : (sizes : IdSizes) → CanTell sizes end_event
unfolding spell_composite
end_fits sizes = (record { count = omega arith; each = ((tt, tt), tt) }, omega arith)

-- a target whose end is told has ended
pub ends_dead : (a b : Bool) → (a && b) ≡ true → a ≡ true
ends_dead true b h = refl
ends_dead false b h = absurd cc

no_some : {A : Type 0} (x : A) → ◌≡◌ {A = Option A} None (Some x) → ⊥
no_some x h = cc

none_waits : (place : ℕ) (command : Command) → slice_get [] place ≡ Some command → ⊥
none_waits place command h = no_some command h

module _ (old new : Joint) (place : ℕ) (s : Serves old place new) (sent : List Sent) (out : List ℕ)
    (is : IsScripted old) (spelled : AllByRecursion (CanSend old.world.sizes) sent)
    (bytes : AreSent old.world.sizes sent out old.flight) where
  abbrev now : World
  now = new.world

  abbrev rest : List Command
  rest = remove old.unserved place

  abbrev one : Sent
  one = a_reply s.command.id s.reply

  abbrev flight : Flight
  flight = replied now.sizes s.command.id s.reply old.flight

  -- the joint behind the command, with its end where that is told
  abbrev behind : Option Composite → Joint
  behind end = record old { world = now; unserved = rest; flight = told_if now.sizes end flight }

  same_sizes : old.world.sizes ≡ now.sizes
  same_sizes = sym (ap (λ (p : Program). p.sizes)
      (answered_program old.world now s.command.asked s.reply s.answers))

  served : IsServed old.world s.command.asked s.reply now
  served = is_served old.world now s.command.asked s.reply s.answers

  replied_to : Obeys (side_of old sent) (record { world = now; unserved = rest; sent = sent ++ one ∷ [] })
  replied_to = Obeys.does Obeys.stays (Does.serves place s.command s.waited served.may)

  reply_spelled : AllByRecursion (CanSend now.sizes) (sent ++ one ∷ [])
  reply_spelled = all_push (CanSend now.sizes) sent one
      (subst (λ (z : IdSizes). AllByRecursion (CanSend z) sent) same_sizes spelled) s.spelled

  reply_sent : AreSent now.sizes (sent ++ one ∷ []) out flight
  reply_sent = put_behind now.sizes sent one out old.flight
      (subst (λ (z : IdSizes). AreSent z sent out old.flight) same_sizes bytes)

  -- no command is served before the handshake
  none_served : old.flight.greeted ≡ false → ⊥
  none_served still = none_waits place s.command
      (subst (λ (list : List Command). slice_get list place ≡ Some s.command) (is.first still).unserved s.waited)

  stays_scripted : (end : Option Composite) → IsScripted (behind end)
  stays_scripted end = record {
    sound = answered_sound old.world now s.command.asked s.reply is.sound s.answers;
    quiet = served.quiet is.quiet;
    begin = is.begin;
    first = λ still. absurd (none_served
        (sym (told_greeted now.sizes end flight
        ∙ put_greeted (packet_bytes (packet_of_reply now.sizes s.command.id s.reply)) old.flight) ∙ still));
  }

  ends_by : (b : Bool) → (now.dead && not old.world.dead) ≡ b → Leads old sent out (behind (cond b (Some end_event) None))
      (Said.of_reply s.reply ∷ said_by (cond b (Some end_event) None))
  ends_by false e = record {
    later = sent ++ one ∷ [];
    more = one ∷ [];
    grown = refl;
    says = refl;
    obeys = replied_to;
    spelled = reply_spelled;
    bytes = reply_sent;
    scripted = stays_scripted None;
  }
  ends_by true e =
      let dead : now.dead ≡ true = ends_dead now.dead (not old.world.dead) e in
      let sent_so = sent ++ one ∷ [] in
      let end = some_events flight.next_id end_event in
      record {
        later = sent_so ++ end ∷ [];
        more = one ∷ end ∷ [];
        grown = append_assoc sent (one ∷ []) (end ∷ []);
        says = refl;
        obeys = Obeys.does replied_to (subst (λ (w : World). Does
            (record { world = now; unserved = rest; sent = sent_so })
            (record { world = w; unserved = rest; sent = sent_so ++ end ∷ [] }))
            (ap (λ (d : Bool). record now { dead = d }) (sym dead)) (Does.emits flight.next_id Emits.ends));
        spelled = told_spelled now.sizes sent_so flight.next_id (Some end_event) (end_fits now.sizes) reply_spelled;
        bytes = told_bytes now.sizes sent_so out flight (Some end_event) reply_sent;
        scripted = stays_scripted (Some end_event);
      }

  -- a command that is served leads on
  pub serves_leads : Leads old sent out new (Said.of_reply s.reply ∷ said_by (end_of old.world.dead now.dead))
  serves_leads =
      let same : new ≡ behind (end_of old.world.dead now.dead) =
      s.others ∙ ap (λ (f : Flight). record old { world = now; unserved = rest; flight = f }) s.flight in
      subst (λ (j : Joint). Leads old sent out j (Said.of_reply s.reply ∷ said_by (end_of old.world.dead now.dead)))
      (sym same) (ends_by (now.dead && not old.world.dead) refl)

-- The handshake -------------------------------------------------------------------------------------------------------

none_begins : MayBegin None
none_begins thread policy e = absurd cc

counted_sound : (w : World) (n : ℕ) → IsSound w → n < 2 ^ 64 → IsSound (record w { count = n })
counted_sound w n s few = record {
  program = s.program;
  values = s.values;
  hold = record {
    distinct = s.hold.distinct;
    numbers = s.hold.numbers;
    next_number = s.hold.next_number;
    few = few;
  };
}

greets_passes : (old : Joint) → IsScripted old → (dead : Bool) (begin : Option (ThreadId × Policy))
    → old.world.dead ≡ dead → old.begin ≡ begin → (greeted_with (start_of dead begin) old).world.count < 2 ^ 64
    → Passes old.world (start_of dead begin) (greeted_with (start_of dead begin) old).world
greets_passes old is true begin d b few = Passes.stays
greets_passes old is false None d b few = Passes.stays
greets_passes old is false (Some begin) d b few =
    Passes.tells (Emits.begins {policy = begin.1} {thread = begin.0} d (is.begin begin.0 begin.1 b)
    (counted_sound old.world (greeted_with (Some (start_event begin)) old).world.count is.sound few))

-- what an obeying target does by that
pub greets_so : (old new : Joint) → Greets old new → IsScripted old
    → Passes old.world (start_of old.world.dead old.begin) new.world
greets_so old new g is =
    let few = g.few in
    subst (λ (j : Joint). Passes old.world (start_of old.world.dead old.begin) j.world) (sym g.same)
    (greets_passes old is old.world.dead old.begin refl refl (subst (λ (j : Joint). j.world.count < 2 ^ 64) g.same few))

module _ (old : Joint) (sent : List Sent) (out : List ℕ) (is : IsScripted old)
    (spelled : AllByRecursion (CanSend old.world.sizes) sent) (bytes : AreSent old.world.sizes sent out old.flight)
    (still : old.flight.greeted ≡ false) where
  none_greets : Leads old sent out (greeted_with None old) []
  none_greets = record {
    later = sent;
    more = [];
    grown = sym (append-nil sent);
    says = refl;
    obeys = Obeys.stays;
    spelled = spelled;
    bytes = shakes old.world.sizes sent out old.flight still bytes;
    scripted = record {
      sound = is.sound;
      quiet = is.quiet;
      begin = none_begins;
      first = λ e. absurd cc;
    };
  }

  greets_by : (dead : Bool) (begin : Option (ThreadId × Policy)) → old.world.dead ≡ dead → old.begin ≡ begin
      → CanTellIf old.world.sizes (start_of dead begin)
      → (greeted_with (start_of dead begin) old).world.count < 2 ^ 64
      → Leads old sent out (greeted_with (start_of dead begin) old) (said_by (start_of dead begin))
  greets_by true begin d b can few = none_greets
  greets_by false None d b can few = none_greets
  greets_by false (Some begin) d b can few =
      let one = some_events old.flight.next_id (start_event begin) in
      let sound = counted_sound old.world (greeted_with (Some (start_event begin)) old).world.count is.sound few in
      record {
        later = sent ++ one ∷ [];
        more = one ∷ [];
        grown = refl;
        says = refl;
        obeys = Obeys.does Obeys.stays (Does.emits old.flight.next_id
            (Emits.begins {policy = begin.1} {thread = begin.0} d (is.begin begin.0 begin.1 b) sound));
        spelled = all_push (CanSend old.world.sizes) sent one spelled can;
        bytes = shakes_and_tells old.world.sizes sent one out old.flight (id_behind old.flight.next_id) still
            ((is.first still).held d) bytes;
        scripted = record {
          sound = sound;
          quiet = is.quiet;
          begin = none_begins;
          first = λ e. absurd cc;
        };
      }

pub greets_leads : (old new : Joint) (g : Greets old new) (sent : List Sent) (out : List ℕ) → IsScripted old
    → AllByRecursion (CanSend old.world.sizes) sent → AreSent old.world.sizes sent out old.flight
    → Leads old sent out new (said_by (start_of old.world.dead old.begin))
greets_leads old new g sent out is spelled bytes =
    let few = g.few in
    subst (λ (j : Joint). Leads old sent out j (said_by (start_of old.world.dead old.begin))) (sym g.same)
    (greets_by old sent out is spelled bytes g.first old.world.dead old.begin refl refl g.spelled
    (subst (λ (j : Joint). j.world.count < 2 ^ 64) g.same few))

-- and the target has sent its own
pub greeted_now : (start : Option Composite) (j : Joint) → (greeted_with start j).flight.greeted ≡ true
greeted_now None j = refl
greeted_now (Some composite) j = refl

-- The program ---------------------------------------------------------------------------------------------------------

record IsMade (w : World) (program : List Move) (made : World × Option Composite) : Type 0 where
  next : Move
  is : moved w next ≡ Ok (made.0, made.1)

is_made : (w : World) (program : List Move) (made : World × Option Composite) → next_move w program ≡ Some made
    → IsMade w program made
is_made w [] made h = absurd (no_some made h)
is_made w (next ∷ later) made h = record { next = next; is = made_is (moved w next) made h }

-- what an obeying target does by that
pub advances_so : (old new : Joint) (a : Advances old new) → IsScripted old → Passes old.world a.made.1 new.world
advances_so old new a is =
    let m = is_made old.world old.program a.made a.can in
    subst (λ (j : Joint). Passes old.world a.made.1 j.world) (sym a.same)
    (passes old.world a.made.0 m.next a.made.1 is.sound is.quiet m.is)

told_grown : (id : ℕ) (what : Option Composite) (sent : List Sent) → with_told id what sent ≡ sent ++ with_told id what []
told_grown id None sent = sym (append-nil sent)
told_grown id (Some composite) sent = refl

told_says : (id : ℕ) (what : Option Composite) → map said_of (with_told id what []) ≡ said_by what
told_says id None = refl
told_says id (Some composite) = refl

pub advances_leads : (old new : Joint) (a : Advances old new) (sent : List Sent) (out : List ℕ) → IsScripted old
    → AllByRecursion (CanSend old.world.sizes) sent → AreSent old.world.sizes sent out old.flight
    → Leads old sent out new (said_by a.made.1)
advances_leads old new a sent out is spelled bytes =
    let w = old.world in
    let now = a.made.0 in
    let what = a.made.1 in
    let m = is_made w old.program a.made a.can in
    let requests = requests_stay w now m.next what m.is in
    let asked = ap (λ (r : Requested). r.requests) requests in
    let sizes : w.sizes ≡ now.sizes = sym (ap (λ (f : Facts). f.sizes) (facts_stay w now m.next what m.is)) in
    let sent_bytes = subst (λ (z : IdSizes). AreSent z sent out old.flight) sizes bytes in
    let id = old.flight.next_id in
    subst (λ (j : Joint). Leads old sent out j (said_by a.made.1)) (sym a.same) (record {
      later = with_told id what sent;
      more = with_told id what [];
      grown = told_grown id what sent;
      says = told_says id what;
      obeys = obeys_by (side_of old sent) now what id (passes w now m.next what is.sound is.quiet m.is);
      spelled = told_spelled now.sizes sent id what a.spelled
          (subst (λ (z : IdSizes). AllByRecursion (CanSend z) sent) sizes spelled);
      bytes = told_bytes now.sizes sent out old.flight what sent_bytes;
      scripted = record {
        sound = moves_sound w now m.next what is.sound m.is;
        quiet = subst (AllByRecursion IsQuiet) (sym asked) is.quiet;
        begin = is.begin;
        first = λ still.
            let untouched = is.first (sym (told_greeted now.sizes what old.flight) ∙ still) in
            record {
              unserved = untouched.unserved;
              requests = asked ∙ untouched.requests;
              held = λ lives.
                  ap (λ (t : Option Composite). (told_if now.sizes t old.flight).held)
                  (untold w now m.next what m.is untouched.requests lives)
                  ∙ untouched.held (moved_alive w now m.next what m.is);
            };
      };
    })
  where
    moved_alive : (w now : World) (next : Move) (what : Option Composite) → moved w next ≡ Ok (now, what)
        → w.dead ≡ false
    moved_alive w now next what h = (makes w next now what h).lives

-- What comes and goes -------------------------------------------------------------------------------------------------

pub leaves_leads : (old : Joint) (n : ℕ) (sent : List Sent) (out : List ℕ) → IsScripted old
    → AllByRecursion (CanSend old.world.sizes) sent → AreSent old.world.sizes sent out old.flight
    → Leads old sent (out ++ take n old.flight.bytes) (left n old) []
leaves_leads old n sent out is spelled bytes = record {
  later = sent;
  more = [];
  grown = sym (append-nil sent);
  says = refl;
  obeys = Obeys.stays;
  spelled = spelled;
  bytes = goes_out old.world.sizes sent out old.flight n bytes;
  scripted = record {
    sound = is.sound;
    quiet = is.quiet;
    begin = is.begin;
    first = λ still. record {
      unserved = (is.first still).unserved;
      requests = (is.first still).requests;
      held = (is.first still).held;
    };
  };
}
