-- A session over a scripted target is a joint of the machine and an obeying target.
use Rattle.std.proofs.Common.{◌≡◌, ◌∙◌, ℕ, zero, suc, ◌+◌, Bool, true, false, cond, List, [], ◌∷◌, ◌++◌, refl}
use Rattle.std.proofs.Common.{sym, ap, subst, take, drop, Option, None, Some, append_assoc}
use Rattle.std.specs.Prelude.{not, remove, reverse, slice_get, ◌&&◌}
use Rattle.std.proofs.Common.{map}
use Rattle.std.specs.List.{AllByRecursion}
use Rattle.std.proofs.lemmas.List.{append-nil, map-append, reverse-append}
use Rattle.jdwp_commands.specs.declared.asked.Asked.{Asked}
use Rattle.jdwp_commands.specs.declared.asked.Replied.TheVariants.{Error as an_error}
use Rattle.joint_model.specs.Joints.{Joint as Beside, Packet, a_reply, some_events}
use Rattle.joint_model.specs.Laws.{held, untold}
use Rattle.joint_model.specs.Names.{TargetCommand}
use Rattle.joint_model.specs.Obeying.{Emits, Serves as MayServe}
use Rattle.joint_model.proofs.BalanceLaws.{balances}
use Rattle.joint_model.proofs.ErrorLaws.{errors_taken}
use Rattle.machine_model.specs.Leaving.{sends_farewell}
use Rattle.machine_model.specs.Names.{Composite, Replied}
use Rattle.machine_model.specs.Pending.{has_such}
use Rattle.machine_model.specs.Replying.{IsReply as IsTaken, wire}
use Rattle.machine_model.specs.Runs.{Message}
use Rattle.machine_model.specs.State.{Machine, SizesRead}
use Rattle.target_server.specs.declared.commands.Command.{Command}
use Rattle.target_server.specs.declared.trouble.TargetTrouble.{TargetTrouble}
use Rattle.target_server.specs.Courses.{Calls}
use Rattle.target_server.specs.Flights.{Flight}
use Rattle.target_server.specs.Hearing.{Answers, Hears, HearsUpTo, Takes, TargetState, fed}
use Rattle.target_server.specs.Joints.{Greets, Joint, Serves, end_event, end_of, start_of}
use Rattle.jdwp_values.specs.declared.id.ThreadId.{ThreadId}
use Rattle.jdwp_events.specs.declared.kind.Policy.{Policy}
use Rattle.world_model.specs.declared.moves.Move.{Move}
use Rattle.world_model.specs.declared.world.World.{World}
use Rattle.scripted_joints.specs.Laws.{AreInFlight, first_side, out_by}
use Rattle.scripted_joints.specs.Scripts.{IsScript, IsScripted}
use Rattle.scripted_joints.specs.Sessions.{AreFirst, Session, and_events, begun_by, said_in, went_out}
use Rattle.scripted_joints.specs.Sides.{AreSent, CanSend, Said, Sent, Side, said_by, said_of}
use Rattle.scripted_joints.proofs.CallLaws.{Stage, calls_on, first_none, first_stage, said_in_call, told_with}
use Rattle.scripted_joints.proofs.Passing.{Passes}
use Rattle.scripted_joints.proofs.SideLaws.{advances_so, ends_dead, greeted_now, greets_so, is_served}

-- The commands that the target got ------------------------------------------------------------------------------------

first_sends : (unserved : List Command) (asked : List TargetCommand) (sent : TargetCommand) → AreFirst unserved asked
    → AreFirst unserved (asked ++ sent ∷ [])
first_sends [] asked sent h = tt
first_sends (command ∷ unserved) [] sent h = absurd h
first_sends (command ∷ unserved) (first ∷ asked) sent h = (h.0, first_sends unserved asked sent h.1)

first_at : (unserved : List Command) (asked : List TargetCommand) (place : ℕ) (command : Command) (sent : TargetCommand)
    → AreFirst unserved asked → slice_get unserved place ≡ Some command → slice_get asked place ≡ Some sent
    → command.asked ≡ wire sent
first_at [] asked place command sent h at is = absurd cc
first_at (one ∷ unserved) [] place command sent h at is = absurd h
first_at (one ∷ unserved) (first ∷ asked) zero command sent h at is =
    let here : one ≡ command = cc in
    let there : first ≡ sent = cc in
    ap (λ (c : Command). c.asked) (sym here) ∙ (h.0 ∙ ap wire there)
first_at (one ∷ unserved) (first ∷ asked) (suc place) command sent h at is =
    first_at unserved asked place command sent h.1 at is

first_removes : (unserved : List Command) (asked : List TargetCommand) (place : ℕ) (command : Command)
    → AreFirst unserved asked → slice_get unserved place ≡ Some command
    → AreFirst (remove unserved place) (remove asked place)
first_removes [] asked place command h at = absurd cc
first_removes (one ∷ unserved) [] place command h at = absurd h
first_removes (one ∷ unserved) (first ∷ asked) zero command h at = h.1
first_removes (one ∷ unserved) (first ∷ asked) (suc place) command h at =
    (h.0, first_removes unserved asked place command h.1 at)

-- what stands at a place
split_at : {A : Type 0} (xs : List A) (n : ℕ) (x : A) → slice_get xs n ≡ Some x → xs ≡ take n xs ++ x ∷ drop (suc n) xs
split_at [] n x h = absurd cc
split_at (y ∷ ys) zero x h = let same : y ≡ x = cc in ap (λ z. z ∷ ys) same
split_at (y ∷ ys) (suc n) x h = ap (λ zs. y ∷ zs) (split_at ys n x h)

-- and the same the other way round
split_back : {A : Type 0} (xs : List A) (n : ℕ) (x : A) → slice_get xs n ≡ Some x
    → reverse xs ≡ reverse (drop (suc n) xs) ++ x ∷ reverse (take n xs)
split_back xs n x h =
    ap reverse (split_at xs n x h)
    ∙ reverse-append (take n xs) (x ∷ drop (suc n) xs)
    ∙ ap (λ zs. zs ++ reverse (take n xs)) (reverse-append (x ∷ []) (drop (suc n) xs))
    ∙ append_assoc (reverse (drop (suc n) xs)) (x ∷ []) (reverse (take n xs))

-- Joints --------------------------------------------------------------------------------------------------------------

beside_none : {messages : List Message} {m : Machine} {w : World} {commands : List TargetCommand}
    {kept : List Composite} (packets : List Packet) → Beside messages m w commands packets kept
    → Beside messages m w commands (packets ++ []) kept
beside_none {messages} {m} {w} {commands} {kept} packets b =
    subst (λ (p : List Packet). Beside messages m w commands p kept) (sym (append-nil packets)) b

-- a target runs and tells
beside_passes : {messages : List Message} {m : Machine} {w now : World} {commands : List TargetCommand}
    {packets : List Packet} {kept : List Composite} {told : Option Composite}
    → Beside messages m w commands packets kept → Passes w told now
    → Beside messages m now commands (packets ++ and_events told) kept
beside_passes {packets = packets} b Passes.stays = beside_none packets b
beside_passes {packets = packets} b (Passes.runs runs) = beside_none packets (Beside.runs b runs)
beside_passes b (Passes.tells emits) = Beside.emits b emits
beside_passes b (Passes.runs_and_tells runs emits) = Beside.emits (Beside.runs b runs) emits
beside_passes b (Passes.tells_and_runs emits runs) = Beside.runs (Beside.emits b emits) runs

-- its end is told behind a reply
beside_ends : {messages : List Message} {m : Machine} {w : World} {commands : List TargetCommand}
    {kept : List Composite} (packets : List Packet) (reply : Packet) (ends : Bool) → (ends ≡ true → w.dead ≡ true)
    → Beside messages m w commands (packets ++ reply ∷ []) kept
    → Beside messages m w commands (packets ++ reply ∷ and_events (cond ends (Some end_event) None)) kept
beside_ends packets reply false dead b = b
beside_ends {messages} {m} {w} {commands} {kept} packets reply true dead b =
    subst (λ (p : List Packet). Beside messages m w commands p kept)
    (append_assoc packets (reply ∷ []) (some_events end_event ∷ []))
    (subst (λ (now : World). Beside messages m now commands ((packets ++ reply ∷ []) ++ some_events end_event ∷ []) kept)
    (ap (λ (d : Bool). record w { dead = d }) (sym (dead refl))) (Beside.emits b Emits.ends))

-- a command is served
beside_serves : {messages : List Message} {m : Machine} {w now : World} {packets : List Packet} {kept : List Composite}
    {replied : Replied} (asked : List TargetCommand) (place : ℕ) (sent : TargetCommand)
    → Beside messages m w (reverse asked) packets kept → slice_get asked place ≡ Some sent
    → MayServe w (wire sent) replied now
    → Beside messages m now (reverse (remove asked place)) (packets ++ a_reply sent replied ∷ []) kept
beside_serves {messages} {m} {w} {now} {packets} {kept} {replied} asked place sent b at may =
    subst (λ (commands : List TargetCommand). Beside messages m now commands (packets ++ a_reply sent replied ∷ []) kept)
    (sym (reverse-append (take place asked) (drop (suc place) asked)))
    (Beside.serves sent (reverse (drop (suc place) asked)) (reverse (take place asked))
    (subst (λ (commands : List TargetCommand). Beside messages m w commands packets kept)
    (split_back asked place sent at) b) may)

-- What is fed ---------------------------------------------------------------------------------------------------------

-- commands that are taken change neither the world nor what is on its way
record Keeps (old new : Joint) : Type 0 where
  world : new.world ≡ old.world
  flight : new.flight ≡ old.flight

takes_keep : (old new : TargetState) → Takes old new → Keeps old.joint new.joint
takes_keep old new Takes.none = record { world = refl; flight = refl }
takes_keep old new (Takes.one_more {middle = middle} before one) =
    let k = takes_keep old middle before in
    record {
      world = ap (λ (t : TargetState). t.joint.world) one.same ∙ k.world;
      flight = ap (λ (t : TargetState). t.joint.flight) one.same ∙ k.flight;
    }

begun_none : (start : Option Composite) (b : Bool) → cond (b && not b) start None ≡ None
begun_none start true = refl
begun_none start false = refl

-- nothing is greeted
begun_same : (old new : Joint) → Keeps old new → begun_by old new ≡ None
begun_same old new k =
    let start = start_of old.world.dead old.begin in
    ap (λ (f : Flight). cond (f.greeted && not old.flight.greeted) start None) k.flight
    ∙ begun_none start old.flight.greeted

-- the handshake is answered
begun_greets : (old middle new : Joint) → Greets old middle → Keeps middle new
    → begun_by old new ≡ start_of old.world.dead old.begin
begun_greets old middle new g k =
    let start = start_of old.world.dead old.begin in
    let greeted : new.flight.greeted ≡ true =
    ap (λ (f : Flight). f.greeted) k.flight ∙ (ap (λ (j : Joint). j.flight.greeted) g.same ∙ greeted_now start old) in
    ap (λ (b : Bool). cond (b && not old.flight.greeted) start None) greeted
    ∙ ap (λ (b : Bool). cond (not b) start None) g.first

-- what a piece brings is the start, where the handshake is answered
begun : (old greeted : TargetState) (new : Joint) (answers : Answers old greeted) → Keeps greeted.joint new
    → begun_by old.joint new ≡ told_with answers
begun old greeted new (Answers.is_greeted g) k = begun_same old.joint new k
begun old greeted new (Answers.waits_on w) k = begun_same old.joint new k
begun old greeted new (Answers.greets {joint = joint} g greets) k = begun_greets old.joint joint new greets k

answers_pass : (old greeted : TargetState) (answers : Answers old greeted) → IsScripted old.joint
    → Passes old.joint.world (told_with answers) greeted.joint.world
answers_pass old greeted (Answers.is_greeted g) is = Passes.stays
answers_pass old greeted (Answers.waits_on w) is = Passes.stays
answers_pass old greeted (Answers.greets {joint = joint} g greets) is = greets_so old.joint joint greets is

-- what an obeying target does as a piece is fed
record Fed (old new : Joint) (told : Option Composite) : Type 0 where
  passes : Passes old.world (begun_by old new) new.world
  is : begun_by old new ≡ told

fed_so : (old greeted : TargetState) (new : Joint) → IsScripted old.joint → (answers : Answers old greeted)
    → Keeps greeted.joint new → Fed old.joint new (told_with answers)
fed_so old greeted new is answers k =
    let same = begun old greeted new answers k in
    record {
      passes = subst (λ (w : World). Passes old.joint.world (begun_by old.joint new) w) (sym k.world)
          (subst (λ (told : Option Composite). Passes old.joint.world told greeted.joint.world) (sym same)
          (answers_pass old greeted answers is));
      is = same;
    }

hears_fed : (old new : TargetState) (piece : List ℕ) → IsScripted old.joint → (h : Hears old piece new)
    → Fed old.joint new.joint (told_with h.answers)
hears_fed old new piece is h =
    fed_so (fed old piece) h.greeted new.joint is h.answers (takes_keep h.greeted new h.takes.takes)

hears_up_to_fed : (old new : TargetState) (piece : List ℕ) (trouble : TargetTrouble) → IsScripted old.joint
    → (h : HearsUpTo old piece trouble new) → Fed old.joint new.joint (told_with h.answers)
hears_up_to_fed old new piece trouble is h =
    let k = takes_keep h.greeted h.takes.last h.takes.takes in
    fed_so (fed old piece) h.greeted new.joint is h.answers (record {
      world = ap (λ (t : TargetState). t.joint.world) h.takes.same ∙ k.world;
      flight = ap (λ (t : TargetState). t.joint.flight) h.takes.same ∙ k.flight;
    })

-- What is in flight ---------------------------------------------------------------------------------------------------

-- of what was sent some was read, and the packets are the others
record AreOthers (sent : List Sent) (packets : List Packet) : Type 0 where
  read : List Sent
  flying : List Sent
  parts : sent ≡ read ++ flying
  same : map said_of flying ≡ map said_in packets

-- the first of them is read
reads_one : (sent : List Sent) (packet : Packet) (packets : List Packet) → AreOthers sent (packet ∷ packets)
    → AreOthers sent packets
reads_one sent packet packets o = by o.flying o.parts o.same where
  by : (flying : List Sent) → sent ≡ o.read ++ flying → map said_of flying ≡ map said_in (packet ∷ packets)
      → AreOthers sent packets
  by [] parts same = absurd cc
  by (one ∷ flying) parts same = record {
    read = o.read ++ one ∷ [];
    flying = flying;
    parts = parts ∙ sym (append_assoc o.read (one ∷ []) flying);
    same = ap (drop 1) same;
  }

-- more is sent
sends_more : (sent later more : List Sent) (said : List Said) (packets on_way : List Packet) → later ≡ sent ++ more
    → map said_of more ≡ said → map said_in on_way ≡ map said_in packets ++ said → AreOthers sent packets
    → AreOthers later on_way
sends_more sent later more said packets on_way grown says way o = record {
  read = o.read;
  flying = o.flying ++ more;
  parts = grown ∙ ap (λ (xs : List Sent). xs ++ more) o.parts ∙ append_assoc o.read o.flying more;
  same = map-append said_of o.flying more ∙ ap (λ (xs : List Said). xs ++ map said_of more) o.same
      ∙ ap (λ (xs : List Said). map said_in packets ++ xs) says ∙ sym way;
}

said_events : (told : Option Composite) → map said_in (and_events told) ≡ said_by told
said_events None = refl
said_events (Some composite) = refl

with_events : (packets : List Packet) (told : Option Composite)
    → map said_in (packets ++ and_events told) ≡ map said_in packets ++ said_by told
with_events packets told =
    map-append said_in packets (and_events told)
    ∙ ap (λ (xs : List Said). map said_in packets ++ xs) (said_events told)

-- Sessions ------------------------------------------------------------------------------------------------------------

-- what is so of a session over a scripted target at any time
record Goes (messages : List Message) (m : Machine) (t : TargetState) (asked : List TargetCommand)
    (packets : List Packet) (kept : List Composite) (out : List ℕ) : Type 0 where
  beside : Beside messages m t.joint.world (reverse asked) packets kept
  first : AreFirst t.joint.unserved asked
  begin : Side
  stage : Stage begin out t.joint
  others : AreOthers stage.sent packets

-- a move of the machine
machine_goes : {messages later : List Message} {m next : Machine} {t : TargetState} {asked : List TargetCommand}
    {packets : List Packet} {kept still : List Composite} {out : List ℕ} → Goes messages m t asked packets kept out
    → (Beside messages m t.joint.world (reverse asked) packets kept
    → Beside later next t.joint.world (reverse asked) packets still)
    → Goes later next t asked packets still out
machine_goes g step = record {
  beside = step g.beside;
  first = g.first;
  begin = g.begin;
  stage = g.stage;
  others = g.others;
}

-- by which it reads a packet
machine_reads : {messages later : List Message} {m next : Machine} {t : TargetState} {asked : List TargetCommand}
    {packets : List Packet} {kept still : List Composite} {out : List ℕ} {packet : Packet}
    → Goes messages m t asked (packet ∷ packets) kept out
    → (Beside messages m t.joint.world (reverse asked) (packet ∷ packets) kept
    → Beside later next t.joint.world (reverse asked) packets still)
    → Goes later next t asked packets still out
machine_reads {packets = packets} {packet = packet} g step = record {
  beside = step g.beside;
  first = g.first;
  begin = g.begin;
  stage = g.stage;
  others = reads_one g.stage.sent packet packets g.others;
}

-- a call of the target
calls_goes : {messages : List Message} {m : Machine} {t new : TargetState} {asked after : List TargetCommand}
    {packets on_way : List Packet} {kept : List Composite} {out : List ℕ} (g : Goes messages m t asked packets kept out)
    (call : Calls t new) → Beside messages m new.joint.world (reverse after) on_way kept
    → AreFirst new.joint.unserved after → map said_in on_way ≡ map said_in packets ++ said_in_call call
    → Goes messages m new after on_way kept (out ++ out_by call)
calls_goes {t = t} {new} {packets = packets} {on_way} {out = out} g call beside first way =
    let s = calls_on g.begin out t new g.stage call in
    record {
      beside = beside;
      first = first;
      begin = g.begin;
      stage = s.stage;
      others = sends_more g.stage.sent s.stage.sent s.more (said_in_call call) packets on_way s.grown s.says way g.others;
    }

serves_goes : {messages : List Message} {m : Machine} {t : TargetState} {joint : Joint} {asked : List TargetCommand}
    {packets : List Packet} {kept : List Composite} {out : List ℕ} (place : ℕ) (sent : TargetCommand)
    (s : Serves t.joint place joint) → slice_get asked place ≡ Some sent → Goes messages m t asked packets kept out
    → Goes messages m (record t { joint = joint }) (remove asked place)
    (packets ++ a_reply sent s.reply ∷ and_events (end_of t.joint.world.dead joint.world.dead)) kept (out ++ [])
serves_goes {t = t} {joint} {asked} {packets} place sent s at g =
    let is = first_at t.joint.unserved asked place s.command sent g.first s.waited at in
    let served = is_served t.joint.world joint.world s.command.asked s.reply s.answers in
    let may = subst (λ (a : Asked). MayServe t.joint.world a s.reply joint.world) is served.may in
    let end = end_of t.joint.world.dead joint.world.dead in
    calls_goes g (Calls.serves place s)
    (beside_ends packets (a_reply sent s.reply) (joint.world.dead && not t.joint.world.dead)
    (ends_dead joint.world.dead (not t.joint.world.dead)) (beside_serves asked place sent g.beside at may))
    (subst (λ (list : List Command). AreFirst list (remove asked place)) (sym (ap (λ (x : Joint). x.unserved) s.others))
    (first_removes t.joint.unserved asked place s.command g.first s.waited))
    (map-append said_in packets (a_reply sent s.reply ∷ and_events end)
    ∙ ap (λ (xs : List Said). map said_in packets ++ Said.of_reply s.reply ∷ xs) (said_events end))

first_others : (world : World) (program : List Move) (begin : Option (ThreadId × Policy)) (is : IsScript world begin)
    → AreOthers (first_stage world program begin is).sent []
first_others world program begin is =
    record { read = []; flying = []; parts = first_none world program begin is; same = refl }

goes : {messages : List Message} {m : Machine} {t : TargetState} {asked : List TargetCommand} {packets : List Packet}
    {kept : List Composite} (s : Session messages m t asked packets kept)
    → Goes messages m t asked packets kept (went_out s)
goes (Session.starts {world} {program} {begin} is) = record {
  beside = Beside.starts is.sound is.lives is.free is.none;
  first = tt;
  begin = first_side world;
  stage = first_stage world program begin is;
  others = first_others world program begin is;
}
goes (Session.goes s is) = machine_goes (goes s) (λ b. Beside.goes b is)
goes (Session.says s allows aside) = machine_goes (goes s) (λ b. Beside.says b allows aside)
goes (Session.sends {messages} {next = next} {t = t} {asked} {packets} {kept} {command} s allows) =
    let g = goes s in
    record {
      beside = subst (λ (commands : List TargetCommand).
          Beside (messages ++ Message.sends command ∷ []) next t.joint.world commands packets kept)
          (sym (reverse-append asked (command ∷ []))) (Beside.sends g.beside allows);
      first = first_sends t.joint.unserved asked command g.first;
      begin = g.begin;
      stage = g.stage;
      others = g.others;
    }
goes (Session.gets s allows) = machine_reads (goes s) (λ b. Beside.gets b allows)
goes (Session.takes s allows) = machine_reads (goes s) (λ b. Beside.takes b allows)
goes (Session.keeps s is allows) = machine_reads (goes s) (λ b. Beside.keeps b is allows)
goes (Session.reads s is allows) = machine_goes (goes s) (λ b. Beside.reads b is allows)
goes (Session.loses s allows) = machine_goes (goes s) (λ b. Beside.loses b allows)
goes (Session.feeds {t = t} {new} {packets = packets} piece s f first) =
    let g = goes s in
    let fed = hears_fed t new piece g.stage.scripted f.hears in
    calls_goes g (Calls.feeds piece f) (beside_passes g.beside fed.passes) first
    (with_events packets (begun_by t.joint new.joint)
    ∙ ap (λ (told : Option Composite). map said_in packets ++ said_by told) fed.is)
goes (Session.feeds_up_to {t = t} {new} {packets = packets} piece trouble s f first) =
    let g = goes s in
    let fed = subst (λ (n : TargetState). Fed t.joint n.joint (told_with f.hears.answers)) (sym f.same)
    (hears_up_to_fed t f.last piece trouble g.stage.scripted f.hears) in
    calls_goes g (Calls.feeds_up_to piece trouble f) (beside_passes g.beside fed.passes) first
    (with_events packets (begun_by t.joint new.joint)
    ∙ ap (λ (told : Option Composite). map said_in packets ++ said_by told) fed.is)
goes (Session.serves place sent s serves at) = serves_goes place sent serves at (goes s)
goes (Session.advances {t = t} {joint} {asked} {packets} s a) =
    let g = goes s in
    calls_goes g (Calls.advances a) (beside_passes g.beside (advances_so t.joint joint a g.stage.scripted))
    (subst (λ (list : List Command). AreFirst list asked) (sym (ap (λ (x : Joint). x.unserved) a.same)) g.first)
    (with_events packets a.made.1)
goes (Session.leaves {packets = packets} n s) =
    let g = goes s in
    calls_goes g (Calls.sends n) g.beside g.first (sym (append-nil (map said_in packets)))

-- a session over a scripted target is a joint
pub session_joins : (messages : List Message) (m : Machine) (t : TargetState) (asked : List TargetCommand)
    (packets : List Packet) (kept : List Composite) → Session messages m t asked packets kept
    → Beside messages m t.joint.world (reverse asked) packets kept
session_joins messages m t asked packets kept s = (goes s).beside

-- and its suspensions balance
pub session_balances : (messages : List Message) (m : Machine) (t : TargetState) (asked : List TargetCommand)
    (packets : List Packet) (kept : List Composite) → Session messages m t asked packets kept
    → t.joint.world.dead ≡ false → has_such sends_farewell messages ≡ false
    → t.joint.world.count ≡ held messages + untold (reverse asked) packets kept
session_balances messages m t asked packets kept s lives near =
    balances messages m t.joint.world (reverse asked) packets kept (session_joins messages m t asked packets kept s)
    lives near

-- the packets in flight are those of the bytes
pub session_sends : (messages : List Message) (m : Machine) (t : TargetState) (asked : List TargetCommand)
    (packets : List Packet) (kept : List Composite) (session : Session messages m t asked packets kept)
    → AreInFlight t (went_out session) packets
session_sends messages m t asked packets kept session =
    let g = goes session in
    let o = g.others in
    record {
      read = o.read;
      flying = o.flying;
      same = o.same;
      spelled = subst (AllByRecursion (CanSend t.joint.world.sizes)) o.parts g.stage.spelled;
      bytes = subst (λ (sent : List Sent). AreSent t.joint.world.sizes sent (went_out session) t.joint.flight) o.parts
          g.stage.bytes;
    }

-- an error that is served ends no session
pub served_errors : (old new : Joint) (place : ℕ) (serves : Serves old place new) (sizes : Option SizesRead)
    (sent : TargetCommand) (code : ℕ) → serves.command.asked ≡ wire sent → serves.reply ≡ an_error code
    → IsTaken sizes sent (an_error code)
served_errors old new place s sizes sent code is error =
    let served = is_served old.world new.world s.command.asked s.reply s.answers in
    errors_taken old.world new.world sizes sent code
    (subst (λ (r : Replied). MayServe old.world (wire sent) r new.world) error
    (subst (λ (a : Asked). MayServe old.world a s.reply new.world) is served.may))
