-- What calls make of a target is moves of its joint.
use Rattle.std.proofs.Common.{◌≡◌, ℕ, Bool, true, false, List, cond, refl, sym, ap, subst, ◌∙◌, Option, None, Some}
use Rattle.std.specs.Prelude.{Ok}
use Rattle.wire_core.specs.Streams.{Front, waits, whole, faulty}
use Rattle.jdwp_values.specs.declared.id.ThreadId.{ThreadId}
use Rattle.jdwp_values.specs.declared.sizes.IdSizes.{IdSizes}
use Rattle.jdwp_events.specs.declared.composite.Composite.{Composite}
use Rattle.jdwp_events.specs.declared.kind.Policy.{Policy}
use Rattle.jdwp_packets.specs.declared.fault.PacketFault.{PacketFault}
use Rattle.jdwp_packets.specs.Packets.{greeting_front, packet_bytes}
use Rattle.jdwp_packets.specs.Receiving.{received_front, before_greeting}
use Rattle.world_model.specs.declared.moves.Move.{Move}
use Rattle.world_model.specs.declared.world.World.{World}
use Rattle.target_server.specs.declared.commands.Command.{Command}
use Rattle.target_server.specs.declared.trouble.TargetTrouble.{TargetTrouble}
use Rattle.target_server.specs.Courses.{Goes, Calls, Course, fresh}
use Rattle.target_server.specs.Hearing.{TargetState, next_by, Answers, TakesOne, Takes, Hears}
use Rattle.target_server.specs.Hearing.{HearsUpTo, fed}
use Rattle.target_server.specs.Flights.{Flight, sent, told_if, replied, packet_of_reply, packet_of_events, id_behind}
use Rattle.target_server.specs.Joints.{Joint, joint_of, greeted_with, start_of, end_of, Serves, Advances, Moves}

-- once the debugger's handshake came the target sent its own
abbrev pub IsAligned : TargetState → Type 0
IsAligned t = t.heard.greeted ≡ true → t.joint.flight.greeted ≡ true

-- where a call leads
pub record Leads (old new : TargetState) : Type 0 where
  pub goes : Goes old.joint new.joint
  pub aligned : IsAligned new

-- some moves, and then others
pub then : {old middle new : Joint} → Goes old middle → Goes middle new → Goes old new
then before Goes.stays = before
then before (Goes.goes after move) = Goes.goes (then before after) move

-- no command comes before the handshake
none_ungreeted : (sizes : IdSizes) (at : ℕ) (front : Front (Unit {0}) PacketFault) (command : Command)
    → next_by sizes at (before_greeting front) ≡ Ok (Some command) → ⊥
none_ungreeted sizes at waits command h = cc
none_ungreeted sizes at (whole greeting n) command h = cc
none_ungreeted sizes at (faulty fault behind) command h = cc

next_greeted : (sizes : IdSizes) (at : ℕ) (greeted : Bool) (bytes : List ℕ) (command : Command)
    → next_by sizes at (received_front greeted bytes) ≡ Ok (Some command) → greeted ≡ true
next_greeted sizes at true bytes command h = refl
next_greeted sizes at false bytes command h = absurd (none_ungreeted sizes at (greeting_front bytes) command h)

greets_greets : (start : Option Composite) (j : Joint) → (greeted_with start j).flight.greeted ≡ true
greets_greets None j = refl
greets_greets (Some composite) j = refl

no_both : (b : Bool) → b ≡ false → b ≡ true → ⊥
no_both b h k = cc

answers_lead : (old new : TargetState) → Answers old new → Leads old new
answers_lead old new (Answers.is_greeted g) = record { goes = Goes.stays; aligned = λ _. g }
answers_lead old new (Answers.waits_on w) = record { goes = Goes.stays; aligned = λ g. absurd (no_both old.heard.greeted w g) }
answers_lead old new (Answers.greets g greets) = record {
  goes = Goes.goes Goes.stays (Moves.greets greets);
  aligned = λ _. ap (λ (j : Joint). j.flight.greeted) greets.same ∙
      greets_greets (start_of old.joint.world.dead old.joint.begin) old.joint;
}

takes_one_leads : (old middle new : TargetState) → Leads old middle → TakesOne middle new → Leads old new
takes_one_leads old middle new l t =
    let greeted = next_greeted middle.joint.world.sizes middle.heard.stream.at middle.heard.greeted
    middle.heard.stream.pending t.command t.next in
    subst (λ (n : TargetState). Leads old n) (sym t.same) (record {
      goes = Goes.goes l.goes (Moves.receives t.command (l.aligned greeted));
      aligned = l.aligned;
    })

takes_lead : (begin old new : TargetState) → Leads begin old → Takes old new → Leads begin new
takes_lead begin old new l Takes.none = l
takes_lead begin old new l (Takes.one_more {middle = middle} before one) =
    takes_one_leads begin middle new (takes_lead begin old middle l before) one

hears_lead : (old new : TargetState) (piece : List ℕ) → Hears old piece new → Leads old new
hears_lead old new piece h =
    let answered = answers_lead (fed old piece) h.greeted h.answers in
    let from : Leads old h.greeted = record { goes = answered.goes; aligned = answered.aligned } in
    takes_lead old h.greeted new from h.takes.takes

hears_up_to_lead : (old new : TargetState) (piece : List ℕ) (trouble : TargetTrouble) → HearsUpTo old piece trouble new
    → Leads old new
hears_up_to_lead old new piece trouble h =
    let answered = answers_lead (fed old piece) h.greeted h.answers in
    let from : Leads old h.greeted = record { goes = answered.goes; aligned = answered.aligned } in
    let last = takes_lead old h.greeted h.takes.last from h.takes.takes in
    subst (λ (n : TargetState). Leads old n) (sym h.takes.same) (record { goes = last.goes; aligned = last.aligned })

-- The handshake that was sent stays so ------------------------------------------------------------------------------

both_greeted : (b : Bool) (x y : Flight) (g : Bool) → x.greeted ≡ g → y.greeted ≡ g → (cond b x y).greeted ≡ g
both_greeted true x y g is so = is
both_greeted false x y g is so = so

sent_greeted : (bytes : List ℕ) (f : Flight) → (sent bytes f).greeted ≡ f.greeted
sent_greeted bytes f = both_greeted f.greeted _ _ f.greeted refl refl

told_greeted : (sizes : IdSizes) (told : Option Composite) (f : Flight) → (told_if sizes told f).greeted ≡ f.greeted
told_greeted sizes None f = refl
told_greeted sizes (Some composite) f =
    sent_greeted (packet_bytes (packet_of_events sizes f.next_id composite))
    (record f { next_id = id_behind f.next_id })

serves_greeted : (old new : Joint) (place : ℕ) → Serves old place new → old.flight.greeted ≡ true
    → new.flight.greeted ≡ true
serves_greeted old new place s g =
    ap (λ (f : Flight). f.greeted) s.flight
    ∙ (told_greeted new.world.sizes (end_of old.world.dead new.world.dead)
    (replied new.world.sizes s.command.id s.reply old.flight)
    ∙ (sent_greeted (packet_bytes (packet_of_reply new.world.sizes s.command.id s.reply)) old.flight ∙ g))

advances_greeted : (old new : Joint) → Advances old new → old.flight.greeted ≡ true → new.flight.greeted ≡ true
advances_greeted old new a g =
    ap (λ (j : Joint). j.flight.greeted) a.same ∙ (told_greeted a.made.0.sizes a.made.1 old.flight ∙ g)

one_leads : (begin old new : TargetState) → Leads begin old → Calls old new → Leads begin new
one_leads begin old new l (Calls.feeds piece f) =
    let on = hears_lead old new piece f.hears in
    record { goes = then l.goes on.goes; aligned = on.aligned }
one_leads begin old new l (Calls.feeds_up_to piece trouble f) =
    let on = hears_up_to_lead old f.last piece trouble f.hears in
    subst (λ (n : TargetState). Leads begin n) (sym f.same)
    (record { goes = then l.goes on.goes; aligned = on.aligned })
one_leads begin old new l (Calls.serves {joint = joint} place s) = record {
  goes = Goes.goes l.goes (Moves.serves place s);
  aligned = λ g. serves_greeted old.joint joint place s (l.aligned g);
}
one_leads begin old new l (Calls.advances {joint = joint} a) = record {
  goes = Goes.goes l.goes (Moves.advances a);
  aligned = λ g. advances_greeted old.joint joint a (l.aligned g);
}
one_leads begin old new l (Calls.sends n) =
    record { goes = Goes.goes l.goes (Moves.leaves n); aligned = l.aligned }

pub course_leads : (begin now : TargetState) → IsAligned begin → Course begin now → Leads begin now
course_leads begin now a Course.begins = record { goes = Goes.stays; aligned = a }
course_leads begin now a (Course.calls {old = old} before call) =
    one_leads begin old now (course_leads begin old a before) call

pub fresh_leads : (world : World) (program : List Move) (begin : Option (ThreadId × Policy)) (now : TargetState)
    → Course (fresh world program begin) now → Goes (joint_of world program begin) now.joint
fresh_leads world program begin now course =
    (course_leads (fresh world program begin) now (λ g. absurd (no_both false refl g)) course).goes
