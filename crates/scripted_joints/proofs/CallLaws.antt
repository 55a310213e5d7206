-- Each call of a scripted target is a course of an obeying target, and so is each course of calls.
use Rattle.std.proofs.Common.{◌≡◌, ◌∙◌, ℕ, Bool, true, false, List, [], ◌++◌, refl, sym, ap, subst, Option, Some}
use Rattle.std.proofs.Common.{◌∷◌, None, map, take}
use Rattle.std.specs.Prelude.{Ok}
use Rattle.std.specs.List.{AllByRecursion}
use Rattle.std.proofs.lemmas.List.{append-nil}
use Rattle.wire_core.specs.Streams.{Front, waits, whole, faulty}
use Rattle.jdwp_values.specs.declared.id.ThreadId.{ThreadId}
use Rattle.jdwp_values.specs.declared.sizes.IdSizes.{IdSizes}
use Rattle.jdwp_events.specs.declared.kind.Policy.{Policy}
use Rattle.jdwp_packets.specs.declared.fault.PacketFault.{PacketFault}
use Rattle.jdwp_packets.specs.Packets.{greeting_front}
use Rattle.jdwp_packets.specs.Receiving.{before_greeting, received_front}
use Rattle.target_server.specs.declared.commands.Command.{Command}
use Rattle.target_server.specs.declared.trouble.TargetTrouble.{TargetTrouble}
use Rattle.target_server.specs.Courses.{Calls, Course, fresh}
use Rattle.target_server.specs.Hearing.{Answers, Hears, HearsUpTo, Takes, TakesOne, TargetState, fed, next_by}
use Rattle.jdwp_events.specs.declared.composite.Composite.{Composite}
use Rattle.target_server.specs.Joints.{Joint, end_of, left, received, start_of}
use Rattle.target_server.proofs.CourseLaws.{IsAligned, course_leads}
use Rattle.world_model.specs.declared.moves.Move.{Move}
use Rattle.world_model.specs.declared.world.World.{World}
use Rattle.scripted_joints.specs.Laws.{Follows, IsTarget, first_side, out_by, out_of}
use Rattle.scripted_joints.specs.Scripts.{IsQuiet, IsScript, IsScripted}
use Rattle.scripted_joints.specs.Sides.{AreSent, CanSend, Does, IsBeside, Obeys, Said, Sent, Side, said_by, said_of}
use Rattle.scripted_joints.proofs.Sending.{no_wait}
use Rattle.scripted_joints.proofs.SideLaws.{Leads, advances_leads, and_then, greeted_now, greets_leads, leaves_leads}
use Rattle.scripted_joints.proofs.SideLaws.{serves_leads, side_of}

-- how far an obeying target came beside the joint of a scripted one
pub record Stage (begin : Side) (out : List ℕ) (j : Joint) : Type 0 where
  pub sent : List Sent
  pub obeys : Obeys begin (side_of j sent)
  pub spelled : AllByRecursion (CanSend j.world.sizes) sent
  pub bytes : AreSent j.world.sizes sent out j.flight
  pub scripted : IsScripted j

-- The same behind a move or a call, by which more was sent, and what is said by that.
pub record Step (begin : Side) (out : List ℕ) (j : Joint) (before : List Sent) (said : List Said) : Type 0 where
  pub stage : Stage begin out j
  pub more : List Sent
  pub grown : stage.sent ≡ before ++ more
  pub says : map said_of more ≡ said

-- it goes on with a move of the joint
leads_on : (begin : Side) (out later : List ℕ) (old new : Joint) (said : List Said) (s : Stage begin out old)
    → Leads old s.sent later new said → Step begin later new s.sent said
leads_on begin out later old new said s l = record {
  stage = record {
    sent = l.later;
    obeys = and_then s.obeys l.obeys;
    spelled = l.spelled;
    bytes = l.bytes;
    scripted = l.scripted;
  };
  more = l.more;
  grown = l.grown;
  says = l.says;
}

stays_on : (begin : Side) (out : List ℕ) (j : Joint) (s : Stage begin out j) → Step begin out j s.sent []
stays_on begin out j s = record { stage = s; more = []; grown = sym (append-nil s.sent); says = refl }

-- a command comes
receives_on : (begin : Side) (out : List ℕ) (j : Joint) (command : Command) (before : List Sent) (said : List Said)
    → j.flight.greeted ≡ true → Step begin out j before said → Step begin out (received command j) before said
receives_on begin out j command before said greeted s = record {
  stage = record {
    sent = s.stage.sent;
    obeys = Obeys.does s.stage.obeys (Does.gets command);
    spelled = s.stage.spelled;
    bytes = s.stage.bytes;
    scripted = record {
      sound = s.stage.scripted.sound;
      quiet = s.stage.scripted.quiet;
      begin = s.stage.scripted.begin;
      first = λ still. no_wait j.flight.greeted still greeted;
    };
  };
  more = s.more;
  grown = s.grown;
  says = s.says;
}

-- the same beside a scripted target
record At (begin : Side) (out : List ℕ) (t : TargetState) (before : List Sent) (said : List Said) : Type 0 where
  step : Step begin out t.joint before said
  aligned : IsAligned t

-- Feeding -------------------------------------------------------------------------------------------------------------

none_ungreeted : (sizes : IdSizes) (at : ℕ) (front : Front (Unit {0}) PacketFault) (command : Command)
    → next_by sizes at (before_greeting front) ≡ Ok (Some command) → ⊥
none_ungreeted sizes at waits command h = cc
none_ungreeted sizes at (whole greeting n) command h = cc
none_ungreeted sizes at (faulty fault behind) command h = cc

-- no command comes before the handshake
next_greeted : (sizes : IdSizes) (at : ℕ) (greeted : Bool) (bytes : List ℕ) (command : Command)
    → next_by sizes at (received_front greeted bytes) ≡ Ok (Some command) → greeted ≡ true
next_greeted sizes at true bytes command h = refl
next_greeted sizes at false bytes command h = absurd (none_ungreeted sizes at (greeting_front bytes) command h)

-- the start that is told with an answer to a handshake
abbrev pub told_with : {old new : TargetState} → Answers old new → Option Composite
told_with {old} (Answers.greets g greets) = start_of old.joint.world.dead old.joint.begin
told_with (Answers.is_greeted g) = None
told_with (Answers.waits_on w) = None

answers_on : (begin : Side) (out : List ℕ) (old new : TargetState) (s : Stage begin out old.joint)
    (answers : Answers old new) → At begin out new s.sent (said_by (told_with answers))
answers_on begin out old new s (Answers.is_greeted g) =
    record { step = stays_on begin out old.joint s; aligned = λ h. g }
answers_on begin out old new s (Answers.waits_on w) =
    record { step = stays_on begin out old.joint s; aligned = λ h. no_wait old.heard.greeted w h }
answers_on begin out old new s (Answers.greets {joint = joint} g greets) = record {
  step = leads_on begin out out old.joint joint _ s
      (greets_leads old.joint joint greets s.sent out s.scripted s.spelled s.bytes);
  aligned = λ h. ap (λ (j : Joint). j.flight.greeted) greets.same
      ∙ greeted_now (start_of old.joint.world.dead old.joint.begin) old.joint;
}

takes_one : (begin : Side) (out : List ℕ) (old new : TargetState) (before : List Sent) (said : List Said)
    → At begin out old before said → TakesOne old new → At begin out new before said
takes_one begin out old new before said a t =
    let greeted = a.aligned (next_greeted old.joint.world.sizes old.heard.stream.at old.heard.greeted
    old.heard.stream.pending t.command t.next) in
    subst (λ (n : TargetState). At begin out n before said) (sym t.same) (record {
      step = receives_on begin out old.joint t.command before said greeted a.step;
      aligned = λ h. greeted;
    })

takes : (begin : Side) (out : List ℕ) (old new : TargetState) (before : List Sent) (said : List Said)
    → At begin out old before said → Takes old new → At begin out new before said
takes begin out old new before said a Takes.none = a
takes begin out old new before said a (Takes.one_more {middle = middle} earlier one) =
    takes_one begin out middle new before said (takes begin out old middle before said a earlier) one

hears : (begin : Side) (out piece : List ℕ) (old new : TargetState) (s : Stage begin out old.joint)
    (h : Hears old piece new) → Step begin out new.joint s.sent (said_by (told_with h.answers))
hears begin out piece old new s h =
    (takes begin out h.greeted new s.sent (said_by (told_with h.answers))
    (answers_on begin out (fed old piece) h.greeted s h.answers) h.takes.takes).step

hears_up_to : (begin : Side) (out piece : List ℕ) (trouble : TargetTrouble) (old new : TargetState)
    (s : Stage begin out old.joint) (h : HearsUpTo old piece trouble new)
    → Step begin out new.joint s.sent (said_by (told_with h.answers))
hears_up_to begin out piece trouble old new s h =
    let said = said_by (told_with h.answers) in
    let last = takes begin out h.greeted h.takes.last s.sent said
    (answers_on begin out (fed old piece) h.greeted s h.answers) h.takes.takes in
    subst (λ (n : TargetState). Step begin out n.joint s.sent said) (sym h.takes.same) last.step

-- Calls ---------------------------------------------------------------------------------------------------------------

none_out : (begin : Side) (out : List ℕ) (j : Joint) (before : List Sent) (said : List Said)
    → Step begin out j before said → Step begin (out ++ []) j before said
none_out begin out j before said s =
    subst (λ (bytes : List ℕ). Step begin bytes j before said) (sym (append-nil out)) s

-- what is said by what is sent in a call
abbrev pub said_in_call : {old new : TargetState} → Calls old new → List Said
said_in_call (Calls.feeds piece f) = said_by (told_with f.hears.answers)
said_in_call (Calls.feeds_up_to piece trouble f) = said_by (told_with f.hears.answers)
said_in_call {old} (Calls.serves {joint = joint} place v) =
    Said.of_reply v.reply ∷ said_by (end_of old.joint.world.dead joint.world.dead)
said_in_call (Calls.advances a) = said_by a.made.1
said_in_call (Calls.sends n) = []

-- a call leads from one stage to the next
pub calls_on : (begin : Side) (out : List ℕ) (old new : TargetState) (s : Stage begin out old.joint)
    (call : Calls old new) → Step begin (out ++ out_by call) new.joint s.sent (said_in_call call)
calls_on begin out old new s (Calls.feeds piece f) =
    none_out begin out new.joint s.sent _ (hears begin out piece old new s f.hears)
calls_on begin out old new s (Calls.feeds_up_to piece trouble f) =
    none_out begin out new.joint s.sent _
    (subst (λ (n : TargetState). Step begin out n.joint s.sent (said_by (told_with f.hears.answers))) (sym f.same)
    (hears_up_to begin out piece trouble old f.last s f.hears))
calls_on begin out old new s (Calls.serves {joint = joint} place v) = none_out begin out joint s.sent _
    (leads_on begin out out old.joint joint _ s
    (serves_leads old.joint joint place v s.sent out s.scripted s.spelled s.bytes))
calls_on begin out old new s (Calls.advances {joint = joint} a) = none_out begin out joint s.sent _
    (leads_on begin out out old.joint joint _ s
    (advances_leads old.joint joint a s.sent out s.scripted s.spelled s.bytes))
calls_on begin out old new s (Calls.sends n) =
    leads_on begin out (out ++ take n old.joint.flight.bytes) old.joint (left n old.joint) [] s
    (leaves_leads old.joint n s.sent out s.scripted s.spelled s.bytes)

follows : (begin : Side) (out : List ℕ) (t : TargetState) → Stage begin out t.joint → Follows begin out t
follows begin out t s = record {
  side = side_of t.joint s.sent;
  obeys = s.obeys;
  beside = record { world = refl; unserved = refl; spelled = s.spelled; bytes = s.bytes };
}

-- a side that stands beside a scripted target is its own
beside_is : (out : List ℕ) (j : Joint) (side : Side) → IsBeside out j side → side ≡ side_of j side.sent
beside_is out j side b =
    ap (λ (w : World). record { world = w; unserved = side.unserved; sent = side.sent }) (sym b.world)
    ∙ ap (λ (list : List Command). record { world = j.world; unserved = list; sent = side.sent }) (sym b.unserved)

pub calls_obey : (old new : TargetState) (out : List ℕ) (side : Side) → IsTarget old → IsBeside out old.joint side
    → (call : Calls old new) → IsTarget new × Follows side (out ++ out_by call) new
calls_obey old new out side is b call =
    let first : Stage side out old.joint = record {
      sent = side.sent;
      obeys = subst (λ (s : Side). Obeys side s) (beside_is out old.joint side b) Obeys.stays;
      spelled = b.spelled;
      bytes = b.bytes;
      scripted = is.scripted;
    } in
    let last = (calls_on side out old new first call).stage in (
      record {
        scripted = last.scripted;
        aligned = (course_leads old new is.aligned (Course.calls Course.begins call)).aligned;
      },
      follows side (out ++ out_by call) new last,
    )

-- Courses -------------------------------------------------------------------------------------------------------------

no_greeting : {A : Type 0} → false ≡ true → A
no_greeting h = absurd cc

-- a target to which nothing was fed
pub first_stage : (world : World) (program : List Move) (begin : Option (ThreadId × Policy)) → IsScript world begin
    → Stage (first_side world) [] (fresh world program begin).joint
first_stage world program begin is = record {
  sent = [];
  obeys = Obeys.stays;
  spelled = tt;
  bytes = AreSent.wait refl refl refl;
  scripted = record {
    sound = is.sound;
    quiet = subst (AllByRecursion IsQuiet) (sym is.none) tt;
    begin = is.start;
    first = λ still. record { unserved = refl; requests = is.none; held = λ lives. refl };
  };
}

pub first_none : (world : World) (program : List Move) (begin : Option (ThreadId × Policy))
    (is : IsScript world begin) → (first_stage world program begin is).sent ≡ []
unfolding first_stage
first_none world program begin is = refl

course_on : (begin : Side) (first now : TargetState) → Stage begin [] first.joint → (course : Course first now)
    → Stage begin (out_of course) now.joint
course_on begin first now s Course.begins = s
course_on begin first now s (Course.calls {old = old} before call) =
    (calls_on begin (out_of before) old now (course_on begin first old s before) call).stage

pub courses_obey : (world : World) (program : List Move) (begin : Option (ThreadId × Policy)) (now : TargetState)
    → IsScript world begin → (course : Course (fresh world program begin) now)
    → Follows (first_side world) (out_of course) now
courses_obey world program begin now is course = follows (first_side world) (out_of course) now
    (course_on (first_side world) (fresh world program begin) now (first_stage world program begin is) course)
