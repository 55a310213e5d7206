-- What a step of the machine leaves as it was, and which last words follow what goes out.
use Rattle.std.proofs.Common.{◌≡◌, ℕ, ◌<◌, ◌≤◌, refl, sym, ap, subst, ◌∙◌, arith, Bool, true, false, List, []}
use Rattle.std.proofs.Common.{length, Option, None, Some}
use Rattle.bridge_core.specs.Calls.{Goes, Sends}
use Rattle.bridge_core.specs.Cores.{CoreState, IsReady}
use Rattle.bridge_serve.specs.Following.{nothing_heard}
use Rattle.bridge_serve.specs.Names.{Client, Side, Target}
use Rattle.machine_model.specs.Due.{due}
use Rattle.machine_model.specs.Pending.{goes_out}
use Rattle.machine_model.specs.Rest.{request_by, response_by}
use Rattle.machine_model.specs.Rows.{noted}
use Rattle.machine_model.specs.Runs.{Allows, Message, Run, said}
use Rattle.machine_model.specs.State.{Machine, State, is_gone}
use Rattle.machine_steps.proofs.PendingLaws.{pending_is}
use Rattle.machine_steps.proofs.ServedLaws.{aside_left, left_on}
use Rattle.machine_steps.proofs.Stepping.{Moves, moved}
use Rattle.machine_steps.proofs.Tables.{once}
use Rattle.machine_steps.proofs.Testing.{tested}
use Rattle.machine_work.proofs.FrameLaws.{due_framed}
use Rattle.machine_work.proofs.OwnMoves.{is_own_message}
use Rattle.machine_work.proofs.WorkLaws.{due_less, due_moves, due_waiting}
use Rattle.machine_work.specs.Names.{Act, Note}
use Rattle.machine_work.specs.Working.{is_work, work}
use Rattle.session_model.specs.LastWords.{client_words}
use Rattle.session_model.specs.Saying.{Speaks}
use Rattle.session_model.specs.States.{SessionState, StreamState}

-- Steps that nobody sees ----------------------------------------------------------------------------------------------

noted_phase : (note : Note) (state : State) → (noted note state).phase ≡ state.phase
noted_phase note state = grind arith

silent_phase : {m next : Machine} → Moves m None next → next.state.phase ≡ m.state.phase
silent_phase (Moves.begins picked free none is) = refl
silent_phase (Moves.drops free is none) = refl
silent_phase (Moves.finds found free at needs done) = refl
silent_phase (Moves.passes_over free at why) = refl
silent_phase {m} (Moves.notes {note = note} free at) = noted_phase note m.state
silent_phase (Moves.unfolds free at) = refl
silent_phase (Moves.queues free is) = refl

-- where the session stands with its target, and what was heard of it, are as they were; no more items wait
pub record Hidden (m next : Machine) : Type 0 where
  pub phase : next.state.phase ≡ m.state.phase
  pub heard : next.state.greeting_heard ≡ m.state.greeting_heard
  pub fewer : length next.waiting ≤ length m.waiting
  pub less : work next ≤ work m

pub goes_hidden : {m next : Machine} → Goes m next → Hidden m next
goes_hidden Goes.stays = record { phase = refl; heard = refl; fewer = omega arith; less = omega arith }
goes_hidden {m} (Goes.goes {next = middle} rest is) =
    let h = goes_hidden rest in
    let fewer = due_waiting false middle in
    let less = due_less false middle (ap is_work is) in
    let was_fewer = h.fewer in
    let was_less = h.less in
    record {
      phase = silent_phase (subst (λ (s : Option Message). Moves middle s (due false middle).next) (ap said is)
          (due_moves false middle (ap is_work is))) ∙ h.phase;
      heard = (due_framed false middle).heard ∙ h.heard;
      fewer = omega arith;
      less = omega arith;
    }

pub goes_run : {messages : List Message} {m next : Machine} → Run messages m → Goes m next → Run messages next
goes_run run Goes.stays = run
goes_run run (Goes.goes rest is) = Run.goes (goes_run run rest) is

-- What goes out -------------------------------------------------------------------------------------------------------

-- the machine's own message is due
record Own (m : Machine) (message : Message) (next : Machine) : Type 0 where
  acts : said (due false m).act ≡ Some message
  next_is : (due false m).next ≡ next

own_so : {m next : Machine} {message : Message} → Allows m message next → is_own_message message ≡ true
    → Own m message next
own_so (Allows.acts is) own = record { acts = is; next_is = refl }
own_so (Allows.hears read is) own = cc
own_so (Allows.greeted read is) own = cc
own_so (Allows.answers hand read is waits reply) own = cc
own_so (Allows.replies hand read is flies reply) own = cc
own_so (Allows.late before after read is reply) own = cc
own_so (Allows.ends read) own = cc
own_so (Allows.comes read sized taken) own = cc
own_so (Allows.keeps is) own = cc
own_so (Allows.reads before after read is none taken) own = cc

said_works : (act : Act) (message : Message) → said act ≡ Some message → is_work act ≡ true
said_works act message is = grind (arith, is)

-- what goes to the target leaves what is told of its end
out_terminated : {m next : Machine} {message : Message} → Moves m (Some message) next → goes_out message ≡ true
    → next.state.terminated ≡ m.state.terminated
out_terminated (Moves.responds free at is) out = cc
out_terminated (Moves.tells free at) out = cc
out_terminated (Moves.sends free at near) out = refl
out_terminated (Moves.updates free at is near) out = refl
out_terminated (Moves.greets free at is near) out = refl
out_terminated (Moves.asks free room is are) out = refl
out_terminated (Moves.hears read is) out = cc
out_terminated (Moves.greeted read is) out = cc
out_terminated (Moves.answers is waits reply stays) out = cc
out_terminated (Moves.replies is flies reply stays) out = cc
out_terminated (Moves.late before after is reply) out = cc
out_terminated (Moves.ends gone) out = cc
out_terminated (Moves.loses late near why) out = refl
out_terminated (Moves.comes read sized taken) out = cc
out_terminated (Moves.keeps is) out = cc
out_terminated (Moves.reads before after read is none taken) out = cc

out_aside : (message : Message) → goes_out message ≡ true → (request_by message ≡ []) × (response_by message ≡ [])
out_aside message out = (grind (arith, out), grind (arith, out))

-- what goes to the target leaves what the client would be told at an end
out_words : {messages : List Message} {m next : Machine} {message : Message} → Run messages m → Allows m message next
    → goes_out message ≡ true → client_words next ≡ client_words m
out_words {m = m} {next} {message} run allows out =
    let aside = out_aside message out in
    let same = aside_left message aside.0 aside.1 (left_on m next (Some message) (tested once run) (moved allows)) in
    let ended = out_terminated (moved allows) out in
    rw (ended, same) refl

-- what goes out, to which side
pub record Speaking (s : SessionState) (message : Message) (side : Side) (bytes : List ℕ) (streams : StreamState)
    : Type 0 where
  pub own : is_own_message message ≡ true
  pub to_target : side ≡ Target → goes_out message ≡ true
  pub next : side ≡ Client → streams.commands.next ≡ s.streams.commands.next
  pub told : side ≡ Target → streams.told ≡ s.streams.told

pub speaking : {s : SessionState} {message : Message} {side : Side} {bytes : List ℕ} {streams : StreamState}
    → Speaks s message side bytes streams → Speaking s message side bytes streams
speaking Speaks.tells = record { own = refl; to_target = λ is. cc; next = λ is. refl; told = λ is. cc }
speaking Speaks.greets = record { own = refl; to_target = λ is. refl; next = λ is. cc; told = λ is. refl }
speaking (Speaks.sends free serves) =
    record { own = refl; to_target = λ is. refl; next = λ is. cc; told = λ is. refl }

-- A message that goes out leaves what was heard of the target, and a target that is gone stays gone. No more items wait,
-- and less is left to do. To the target something goes only while it isn't gone, and then the client would be told the
-- same at an end.
pub record Sent (core core' : CoreState) (before : Machine) (side : Side) : Type 0 where
  pub phase : before.state.phase ≡ core.machine.state.phase
  pub room : length before.waiting ≤ length core.machine.waiting
  pub heard : core'.machine.state.greeting_heard ≡ core.machine.state.greeting_heard
  pub gone : is_gone core.machine.state.phase ≡ true → is_gone core'.machine.state.phase ≡ true
  pub less : work core'.machine < work core.machine
  pub near : side ≡ Target → is_gone core.machine.state.phase ≡ false
  pub words : side ≡ Target → client_words core'.machine ≡ client_words before
  pub next : side ≡ Client → core'.commands.next ≡ core.commands.next
  pub told : side ≡ Target → core'.told ≡ core.told

near_by : (m : Machine) (gone : Bool) → is_gone m.state.phase ≡ gone → (is_gone m.state.phase ≡ true → ⊥)
    → is_gone m.state.phase ≡ false
near_by m true is none = absurd (none is)
near_by m false is none = is

pub sent_so : {core core' : CoreState} {side : Side} {bytes : List ℕ} → IsReady core
    → (sends : Sends core side bytes core') → Sent core core' sends.before side
sent_so {core} {core'} {side} ready sends =
    let hidden = goes_hidden sends.goes in
    let run = goes_run ready.sound.run sends.goes in
    let speaks = speaking (sends.speaks nothing_heard) in
    let own = own_so sends.allows speaks.own in
    let framed = due_framed false sends.before in
    let works = said_works (due false sends.before).act sends.message own.acts in
    let was_less = hidden.less in
    let less : work core'.machine < work sends.before =
    subst (λ (m : Machine). work m < work sends.before) own.next_is (due_less false sends.before works) in
    record {
      phase = hidden.phase;
      room = hidden.fewer;
      heard = ap (λ (m : Machine). m.state.greeting_heard) (sym own.next_is) ∙ framed.heard ∙ hidden.heard;
      gone = λ gone. ap (λ (m : Machine). is_gone m.state.phase) (sym own.next_is)
          ∙ framed.gone (ap is_gone hidden.phase ∙ gone);
      less = omega arith;
      near = λ is. ap is_gone (sym hidden.phase) ∙ near_by sends.before (is_gone sends.before.state.phase) refl
          (λ gone. let none = (pending_is ready.sound.messages sends.before run).gone sends.message core'.machine
          sends.allows gone in let out = speaks.to_target is in cc);
      words = λ is. out_words run sends.allows (speaks.to_target is);
      next = speaks.next;
      told = speaks.told;
    }
