-- What goes out is what the machine does next, and the core is ready behind it.
use Rattle.std.proofs.Common.{◌≡◌, ℕ, ◌+◌, ◌<◌, ◌≤◌, ◌^◌, ◌||◌, ◌++◌, ◌∷◌, Bool, true, false, cond, List, [], length}
use Rattle.std.proofs.Common.{Some, refl, sym, ap, subst, ◌∙◌, arith}
use Rattle.std.specs.Prelude.{◌==◌, is_some}
use Rattle.dap_messages.specs.declared.told.Told.{Told}
use Rattle.jdwp_commands.specs.declared.asked.Asked.{Asked}
use Rattle.jdwp_commands.specs.Commands.{FitsCommand}
use Rattle.jdwp_commands.specs.declared.asked.Asked.TheVariants as commands
use Rattle.jdwp_commands.specs.declared.effect.Effect.{Effect as WireEffect}
use Rattle.jdwp_packets.specs.Packets.{handshake}
use Rattle.jdwp_values.specs.declared.sizes.IdSizes.{IdSizes}
use Rattle.machine_model.specs.Due.{Due, can_read, due, due_as}
use Rattle.machine_model.specs.Due.{is_full as due_is_full}
use Rattle.machine_model.specs.Replying.{SizesFor, wire, wire_effect}
use Rattle.machine_model.specs.Runs.{Allows, Message, Run, said}
use Rattle.machine_model.specs.State.{Hand, Machine}
use Rattle.machine_model.specs.declared.acts.TargetCommand.{TargetCommand}
use Rattle.machine_model.specs.declared.parts.Finish.{Finish}
use Rattle.machine_steps.proofs.PendingLaws.{in_window}
use Rattle.pending_table.specs.Windows.{Window, id_of, is_full, pending_under, with_sent}
use Rattle.bridge_core.specs.Aligning.{Aligned}
use Rattle.bridge_core.proofs.Pending.{sent_by}
use Rattle.bridge_core.specs.Calls.{Finds, Goes, IsIdle, IsOver, Sends, finish_ending}
use Rattle.bridge_core.specs.Cores.{CoreState, IsReady, fresh_core, with_machine}
use Rattle.bridge_core.specs.Going.{Comes, IsSent, IsStep, IsTold, MaySend, is_hidden}
use Rattle.bridge_core.specs.Names.{Act, Effect, Question, a_question, an_effect}
use Rattle.target_bodies.specs.Hearing.{MayBe}
use Rattle.target_bodies.proofs.HearLaws.{may_hold}
use Rattle.machine_work.specs.Working.{is_wait, is_work, work}
use Rattle.machine_work.proofs.FrameLaws.{due_framed}
use Rattle.bridge_core.proofs.RunLaws.{asks_fits, hand_sized, sends_fits}
use Rattle.bridge_core.proofs.WindowLaws.{acts_aligned, aligned_length, asks_aligned, none_sent, same_full, sends_aligned}
use Rattle.machine_work.proofs.WorkLaws.{asks_free, due_any, due_less, due_stays, due_waiting, sends_alone}
use Rattle.session_model.specs.Saying.{Speaks, nth_command, told_bytes}
use Rattle.session_model.specs.States.{id_pending}
use Rattle.session_endings.specs.declared.ending.Ending.{Ending}
use Rattle.talk_plans.specs.Talking.{AreSized, act_of}
use Rattle.talk_plans.specs.declared.next.Next.{Next}
use Rattle.talk_plans.specs.declared.next.Next.TheVariants as nexts
use Rattle.wire_core.specs.declared.outside.Side.{Side}
use Rattle.wire_core.specs.declared.outside.Side.TheVariants.{Client, Target}

-- a message goes out, and the core is ready behind it
pub record GoesOut (old : CoreState) (side : Side) (bytes : List ℕ) (new : CoreState) : Type 0 where
  pub sends : Sends old side bytes new
  pub ready : IsReady new

-- Steps ---------------------------------------------------------------------------------------------------------------

-- a step, by what is due
pub step_so : (old new : CoreState) (next : Next)
    → due_as (act_of next) new.machine ≡ due (id_pending old.commands) old.machine
    → new ≡ with_machine old new.machine → IsStep old next new
step_so old new next is same = record { is_due = is; same = same }

-- the window is full by the ids where the machine says so
pub full_so : (core : CoreState) → IsReady core
    → due_is_full (id_pending core.commands) core.machine ≡ is_full core.commands
full_so core ready =
    sym (same_full core.commands core.machine ready.sound.aligned
    (in_window ready.sound.messages core.machine ready.sound.run).few)

-- what was asked for the item in hand is sized
pub sized_so : (core : CoreState) → IsReady core → (hand : Hand) → core.machine.hand ≡ Some hand
    → AreSized core.machine.state hand
sized_so core ready hand held = hand_sized ready.sound.run hand held

-- a core that has heard and told nothing is ready
pub fresh_ready : (limit : ℕ) → IsReady (fresh_core limit)
fresh_ready limit = record {
  sound = record { messages = []; run = Run.starts; aligned = refl; none_to_read = refl };
  room = omega arith;
}

-- the first step
pub comes_first : (old new : CoreState) (next : Next) → IsReady old → IsStep old next new → Comes old next new
comes_first old new next ready step =
    record { before = old.machine; goes = Goes.stays; ready = ready; is_due = step.is_due; same = step.same }

hidden_goes : (next : Next) → is_hidden next ≡ true → act_of next ≡ Act.Goes
hidden_goes next is = grind (arith, is)

-- an act is due that the session relation allows too, where it is no wait
record IsActed (old : CoreState) (before : Machine) (act : Act) (now : Machine) : Type 0 where
  act_is : (due false before).act ≡ act
  next_is : (due false before).next ≡ now

acted : (old : CoreState) (before now : Machine) (act : Act) → is_wait act ≡ false
    → due_as act now ≡ due (id_pending old.commands) before → IsActed old before act now
acted old before now act works is =
    let same = due_any (id_pending old.commands) before (ap (λ (to : Due). is_wait to.act) (sym is) ∙ works) in
    record {
      act_is = ap (λ (to : Due). to.act) (sym (is ∙ same));
      next_is = ap (λ (to : Due). to.next) (sym (is ∙ same));
    }

-- the core is ready behind a hidden step
pub comes_ready : (old mid : CoreState) (next : Next) → Comes old next mid → is_hidden next ≡ true → IsReady mid
comes_ready old mid next c hidden =
    let goes = hidden_goes next hidden in
    let a = acted old c.before mid.machine (act_of next) (ap is_wait goes) c.is_due in
    let act : (due (id_pending old.commands) c.before).act ≡ Act.Goes =
    ap (λ (to : Due). to.act) (sym c.is_due) ∙ goes in
    let now : (due (id_pending old.commands) c.before).next ≡ mid.machine =
    ap (λ (to : Due). to.next) (sym c.is_due) in
    let fewer : length mid.machine.waiting ≤ length c.before.waiting =
    subst (λ (m : Machine). length m.waiting ≤ length c.before.waiting) now
    (due_waiting (id_pending old.commands) c.before) in
    let limit : mid.limit ≡ old.limit = ap (λ (core : CoreState). core.limit) c.same in
    let room = c.ready.room in
    record {
      sound = record {
        messages = c.ready.sound.messages;
        run = subst (λ (m : Machine). Run c.ready.sound.messages m) a.next_is
            (Run.goes c.ready.sound.run (a.act_is ∙ goes));
        aligned = subst (λ (m : Machine). Aligned mid.commands.sent m) now
            (subst (λ (sent : List (ℕ × Asked)). Aligned sent (due (id_pending old.commands) c.before).next)
            (sym (ap (λ (core : CoreState). core.commands.sent) c.same))
            (acts_aligned c.ready.sound.run (id_pending old.commands) old.commands.sent (ap sent_by act)
            c.ready.sound.aligned));
        none_to_read = subst (λ (m : Machine). can_read m ≡ false) now
            ((due_framed (id_pending old.commands) c.before).unread c.ready.sound.none_to_read);
      };
      room = omega arith;
    }

-- and the next step goes on from there
pub comes_on : (old mid new : CoreState) (next then_next : Next) → Comes old next mid → is_hidden next ≡ true
    → IsStep mid then_next new → Comes old then_next new
comes_on old mid new next then_next c hidden step =
    let goes = hidden_goes next hidden in
    let a = acted old c.before mid.machine (act_of next) (ap is_wait goes) c.is_due in
    record {
      before = mid.machine;
      goes = subst (λ (m : Machine). Goes old.machine m) a.next_is (Goes.goes c.goes (a.act_is ∙ goes));
      ready = subst (λ (core : CoreState). IsReady core) c.same (comes_ready old mid next c hidden);
      is_due = step.is_due ∙ ap (λ (core : CoreState). due (id_pending core.commands) mid.machine) c.same;
      same = step.same ∙ ap (λ (core : CoreState). with_machine core new.machine) c.same;
    }

-- each hidden step lessens what the machine can still do
pub step_less : (mid new : CoreState) (next : Next) → IsStep mid next new → is_hidden next ≡ true
    → work new.machine < work mid.machine
step_less mid new next step hidden =
    let act : (due (id_pending mid.commands) mid.machine).act ≡ Act.Goes =
    ap (λ (to : Due). to.act) (sym step.is_due) ∙ hidden_goes next hidden in
    subst (λ (m : Machine). work m < work mid.machine) (ap (λ (to : Due). to.next) (sym step.is_due))
    (due_less (id_pending mid.commands) mid.machine (ap is_work act))

-- On the way to what is seen next: nothing was done yet, or a step was.
pub data Walks (old : CoreState) : Next → CoreState → Type 0 where
  starts : Walks old nexts.Go old
  comes : {next : Next} {new : CoreState} → Comes old next new → Walks old next new

pub walks_ready : (old mid : CoreState) (next : Next) → IsReady old → Walks old next mid → is_hidden next ≡ true
    → IsReady mid
walks_ready old mid next ready Walks.starts hidden = ready
walks_ready old mid next ready (Walks.comes c) hidden = comes_ready old mid next c hidden

pub walks_on : (old mid new : CoreState) (next then_next : Next) → IsReady old → Walks old next mid
    → is_hidden next ≡ true → IsStep mid then_next new → Walks old then_next new
walks_on old mid new next then_next ready Walks.starts hidden step =
    Walks.comes (comes_first old new then_next ready step)
walks_on old mid new next then_next ready (Walks.comes c) hidden step =
    Walks.comes (comes_on old mid new next then_next c hidden step)

pub walks_to : (old new : CoreState) (next : Next) → Walks old next new → is_hidden next ≡ false → Comes old next new
walks_to old new next Walks.starts seen = cc
walks_to old new next (Walks.comes c) seen = c

-- what is left to do behind a step: nothing behind one that is seen
abbrev pub left_to_do : Next → CoreState → ℕ
left_to_do next core = cond (is_hidden next) (1 + work core.machine) 0

-- each step behind a hidden one lessens it
pub loop_less : (mid new : CoreState) (next then_next : Next) → is_hidden next ≡ true → IsStep mid then_next new
    → left_to_do then_next new < left_to_do next mid
loop_less mid new next then_next hidden step = rw hidden (by_next (is_hidden then_next) refl)
  where
    by_next : (again : Bool) → is_hidden then_next ≡ again
        → cond again (1 + work new.machine) 0 < 1 + work mid.machine
    by_next true is = let less = step_less mid new then_next step is in omega arith
    by_next false is = omega arith

-- Messages ------------------------------------------------------------------------------------------------------------

said_works : (act : Act) (message : Message) → said act ≡ Some message → is_wait act ≡ false
said_works act message is = grind (arith, is)

-- the machine allows what goes out
pub comes_allowed : (old mid : CoreState) (next : Next) (message : Message) (c : Comes old next mid)
    → said (act_of next) ≡ Some message → Allows c.before message mid.machine
comes_allowed old mid next message c is =
    let a = acted old c.before mid.machine (act_of next) (said_works (act_of next) message is) c.is_due in
    subst (λ (m : Machine). Allows c.before message m) a.next_is (Allows.acts (ap said a.act_is ∙ is))

-- and the core is ready behind it
pub acts_ready : (old mid new : CoreState) (next : Next) (message : Message) (c : Comes old next mid)
    → said (act_of next) ≡ Some message → new.machine ≡ mid.machine → new.limit ≡ old.limit
    → Aligned new.commands.sent mid.machine → IsReady new
acts_ready old mid new next message c is same limit aligned =
    let now : (due (id_pending old.commands) c.before).next ≡ mid.machine =
    ap (λ (to : Due). to.next) (sym c.is_due) in
    let fewer : length new.machine.waiting ≤ length c.before.waiting =
    subst (λ (m : Machine). length m.waiting ≤ length c.before.waiting) (now ∙ sym same)
    (due_waiting (id_pending old.commands) c.before) in
    let room = c.ready.room in
    record {
      sound = record {
        messages = c.ready.sound.messages ++ message ∷ [];
        run = subst (λ (m : Machine). Run (c.ready.sound.messages ++ message ∷ []) m) (sym same)
            (Run.moves c.ready.sound.run (comes_allowed old mid next message c is));
        aligned = subst (λ (m : Machine). Aligned new.commands.sent m) (sym same) aligned;
        none_to_read = subst (λ (m : Machine). can_read m ≡ false) (now ∙ sym same)
            ((due_framed (id_pending old.commands) c.before).unread c.ready.sound.none_to_read);
      };
      room = omega arith;
    }

-- what sends nothing leaves the window as it was
still_aligned : (old mid : CoreState) (next : Next) (c : Comes old next mid) → sent_by (act_of next) ≡ []
    → Aligned old.commands.sent mid.machine
still_aligned old mid next c none =
    subst (λ (m : Machine). Aligned old.commands.sent m) (ap (λ (to : Due). to.next) (sym c.is_due))
    (acts_aligned c.ready.sound.run (id_pending old.commands) old.commands.sent
    (ap (λ (to : Due). sent_by to.act) (sym c.is_due) ∙ none) c.ready.sound.aligned)

-- something is told to the client
tells_plain : (old : CoreState) (now : Machine) (told : Told) → Comes old (nexts.Tell told) (with_machine old now)
    → old.told + 1 < 2 ^ 63
    → GoesOut old Client (told_bytes old.told told) (record (with_machine old now) { told = old.told + 1 })
tells_plain old now told c small = record {
  sends = record {
    before = c.before;
    message = Message.tells told;
    goes = c.goes;
    allows = comes_allowed old (with_machine old now) (nexts.Tell told) (Message.tells told) c refl;
    speaks = λ unheard. Speaks.tells;
    small = λ client. small;
    same = refl;
  };
  ready = acts_ready old (with_machine old now) (record (with_machine old now) { told = old.told + 1 })
      (nexts.Tell told) (Message.tells told) c refl refl refl
      (still_aligned old (with_machine old now) (nexts.Tell told) c refl);
}

plain : {old mid : CoreState} {next : Next} → Comes old next mid → Comes old next (with_machine old mid.machine)
plain {old} {mid} {next} c = subst (λ (core : CoreState). Comes old next core) c.same c

-- what goes out so goes out as this
goes_as : (old : CoreState) (side side' : Side) (bytes bytes' : List ℕ) (new new' : CoreState) → side' ≡ side
    → bytes' ≡ bytes → new' ≡ new → GoesOut old side bytes new → GoesOut old side' bytes' new'
goes_as old side side' bytes bytes' new new' is are same out =
    subst (λ (s : Side). GoesOut old s bytes' new') (sym is)
    (subst (λ (b : List ℕ). GoesOut old side b new') (sym are)
    (subst (λ (core : CoreState). GoesOut old side bytes core) (sym same) out))

pub tells_out : (old mid new : CoreState) (told : Told) (side : Side) (bytes : List ℕ)
    → Comes old (nexts.Tell told) mid → IsTold mid told side bytes new → GoesOut old side bytes new
tells_out old mid new told side bytes c t =
    let told_is : mid.told ≡ old.told = ap (λ (core : CoreState). core.told) c.same in
    let small : mid.told + 1 < 2 ^ 63 = subst (λ (n : ℕ). n < 2 ^ 63) (ap (λ (core : CoreState). core.told) t.same)
    t.small in
    goes_as old Client side (told_bytes old.told told) bytes
    (record (with_machine old mid.machine) { told = old.told + 1 }) new t.side_is
    (t.bytes_are ∙ ap (λ (n : ℕ). told_bytes n told) told_is)
    (t.same ∙ ap (λ (core : CoreState). record core { told = core.told + 1 }) c.same)
    (tells_plain old mid.machine told (plain c) (subst (λ (n : ℕ). n + 1 < 2 ^ 63) told_is small))

-- the handshake goes to the target
greets_plain : (old : CoreState) (now : Machine) → Comes old nexts.Greet (with_machine old now)
    → GoesOut old Target handshake (with_machine old now)
greets_plain old now c = record {
  sends = record {
    before = c.before;
    message = Message.greets;
    goes = c.goes;
    allows = comes_allowed old (with_machine old now) nexts.Greet Message.greets c refl;
    speaks = λ unheard. Speaks.greets;
    small = λ client. cc;
    same = refl;
  };
  ready = acts_ready old (with_machine old now) (with_machine old now) nexts.Greet Message.greets c refl refl refl
      (still_aligned old (with_machine old now) nexts.Greet c refl);
}

pub greets_out : (old mid : CoreState) (side : Side) (bytes : List ℕ) → Comes old nexts.Greet mid → side ≡ Target
    → bytes ≡ handshake → GoesOut old side bytes mid
greets_out old mid side bytes c is are =
    goes_as old Target side handshake bytes (with_machine old mid.machine) mid is are c.same
    (greets_plain old mid.machine (plain c))

-- Commands ------------------------------------------------------------------------------------------------------------

-- a command that the machine allows has room in the window, where its id isn't pending
room_in : (old : CoreState) (before : Machine) (next : Machine) (command : TargetCommand) (messages : List Message)
    → Run messages before → Aligned old.commands.sent before → Allows before (Message.sends command) next
    → id_pending old.commands ≡ false → is_full old.commands ≡ false
room_in old before next command messages run aligned allows free =
    let few = (in_window messages before run).room command next allows in
    let long = aligned_length old.commands.sent before aligned in
    rw free (by_count (length old.commands.sent) (omega arith))
  where
    by_count : (n : ℕ) → n < 16 → ((n == 16) || false) ≡ false
    by_count n less = grind (arith, less)

-- an effect is sent only where nothing is pending, so that its id isn't
pub sends_free : (old mid : CoreState) (effect : Effect) → Comes old (nexts.Send effect) mid
    → id_pending old.commands ≡ false
sends_free old mid effect c =
    let none = sends_alone c.ready.sound.run (id_pending old.commands) effect
    (ap (λ (to : Due). to.act) (sym c.is_due)) in
    ap (λ (sent : List (ℕ × Asked)). is_some (pending_under (id_of old.commands.next) sent))
    (none_sent old.commands.sent c.before none c.ready.sound.aligned)

pub asks_id_free : (old mid : CoreState) (question : Question) → Comes old (nexts.Ask question) mid
    → id_pending old.commands ≡ false
asks_id_free old mid question c =
    asks_free (id_pending old.commands) c.before question (ap (λ (to : Due). to.act) (sym c.is_due))

-- the sizes of ids are as they were
same_sizes : (old mid : CoreState) (next : Next) (c : Comes old next mid)
    → mid.machine.state.sizes ≡ c.before.state.sizes
same_sizes old mid next c =
    subst (λ (m : Machine). m.state.sizes ≡ c.before.state.sizes) (ap (λ (to : Due). to.next) (sym c.is_due))
    (due_framed (id_pending old.commands) c.before).sizes

-- the command of a step may be sent
may_plain : (old : CoreState) (now : Machine) (next : Next) (command : TargetCommand)
    (c : Comes old next (with_machine old now)) → said (act_of next) ≡ Some (Message.sends command)
    → id_pending old.commands ≡ false
    → ((used : IdSizes) → SizesFor now.state.sizes used → FitsCommand used (wire command))
    → MaySend (with_machine old now) (wire command)
may_plain old now next command c is free fits = record {
  room = room_in old c.before now command c.ready.sound.messages c.ready.sound.run c.ready.sound.aligned
      (comes_allowed old (with_machine old now) next (Message.sends command) c is) free;
  fits = fits;
}

-- a command is sent
sends_plain : (old : CoreState) (now : Machine) (next : Next) (command : TargetCommand) (used : IdSizes)
    (c : Comes old next (with_machine old now)) → said (act_of next) ≡ Some (Message.sends command)
    → id_pending old.commands ≡ false → SizesFor now.state.sizes used
    → Aligned (old.commands.sent ++ (id_of old.commands.next, wire command) ∷ []) now
    → GoesOut old Target (nth_command old.commands.next used (wire command))
    (record (with_machine old now) { commands = with_sent (wire command) old.commands })
sends_plain old now next command used c is free serves aligned = record {
  sends = record {
    before = c.before;
    message = Message.sends command;
    goes = c.goes;
    allows = comes_allowed old (with_machine old now) next (Message.sends command) c is;
    speaks = λ unheard. Speaks.sends free
        (subst (λ known. SizesFor known used) (same_sizes old (with_machine old now) next c) serves);
    small = λ client. cc;
    same = refl;
  };
  ready = acts_ready old (with_machine old now)
      (record (with_machine old now) { commands = with_sent (wire command) old.commands }) next
      (Message.sends command) c is refl refl aligned;
}

sends_out : (old mid new : CoreState) (next : Next) (command : TargetCommand) (side : Side) (bytes : List ℕ)
    (c : Comes old next mid) → said (act_of next) ≡ Some (Message.sends command) → id_pending old.commands ≡ false
    → Aligned (old.commands.sent ++ (id_of old.commands.next, wire command) ∷ []) mid.machine
    → IsSent mid (wire command) side bytes new → GoesOut old side bytes new
sends_out old mid new next command side bytes c is free aligned s =
    let commands_are : mid.commands ≡ old.commands = ap (λ (core : CoreState). core.commands) c.same in
    goes_as old Target side (nth_command old.commands.next s.used (wire command)) bytes
    (record (with_machine old mid.machine) { commands = with_sent (wire command) old.commands }) new s.side_is
    (s.bytes_are ∙ ap (λ (w : Window). nth_command w.next s.used (wire command)) commands_are)
    (s.same ∙ ap (λ (core : CoreState). record core { commands = with_sent (wire command) core.commands }) c.same)
    (sends_plain old mid.machine next command s.used (plain c) is free s.serves aligned)

may_send : (old mid : CoreState) (next : Next) (command : TargetCommand) (c : Comes old next mid)
    → said (act_of next) ≡ Some (Message.sends command) → id_pending old.commands ≡ false
    → ((used : IdSizes) → SizesFor c.before.state.sizes used → FitsCommand used (wire command))
    → MaySend mid (wire command)
may_send old mid next command c is free fits =
    subst (λ (core : CoreState). MaySend core (wire command)) (sym c.same)
    (may_plain old mid.machine next command (plain c) is free
    (λ used serves. fits used (subst (λ known. SizesFor known used) (same_sizes old mid next c) serves)))

pub may_ask : (old mid : CoreState) (question : Question) → Comes old (nexts.Ask question) mid
    → MaySend mid (commands.Question question)
may_ask old mid question c =
    may_send old mid (nexts.Ask question) (a_question question) c refl (asks_id_free old mid question c)
    (λ used serves. asks_fits c.ready.sound.run (id_pending old.commands) question used
    (ap (λ (to : Due). to.act) (sym c.is_due)) serves)

pub may_effect : (old mid : CoreState) (effect : Effect) (sent : WireEffect) → Comes old (nexts.Send effect) mid
    → sent ≡ wire_effect effect → MaySend mid (commands.Effect sent)
may_effect old mid effect sent c is =
    subst (λ (e : WireEffect). MaySend mid (commands.Effect e)) (sym is)
    (may_send old mid (nexts.Send effect) (an_effect effect) c refl (sends_free old mid effect c)
    (λ used serves. sends_fits c.ready.sound.run (id_pending old.commands) effect used
    (ap (λ (to : Due). to.act) (sym c.is_due)) serves))

pub asks_out : (old mid new : CoreState) (question : Question) (side : Side) (bytes : List ℕ)
    → Comes old (nexts.Ask question) mid → IsSent mid (commands.Question question) side bytes new
    → GoesOut old side bytes new
asks_out old mid new question side bytes c s =
    sends_out old mid new (nexts.Ask question) (a_question question) side bytes c refl
    (asks_id_free old mid question c)
    (subst (λ (m : Machine). Aligned (old.commands.sent ++ (id_of old.commands.next, wire (a_question question)) ∷ [])
    m) (ap (λ (to : Due). to.next) (sym c.is_due))
    (asks_aligned c.ready.sound.run (id_pending old.commands) question old.commands.sent (id_of old.commands.next)
    (ap (λ (to : Due). to.act) (sym c.is_due)) c.ready.sound.aligned)) s

pub effect_out : (old mid new : CoreState) (effect : Effect) (sent : WireEffect) (side : Side) (bytes : List ℕ)
    → Comes old (nexts.Send effect) mid → sent ≡ wire_effect effect
    → IsSent mid (commands.Effect sent) side bytes new → GoesOut old side bytes new
effect_out old mid new effect sent side bytes c is s =
    sends_out old mid new (nexts.Send effect) (an_effect effect) side bytes c refl
    (sends_free old mid effect c)
    (subst (λ (m : Machine). Aligned (old.commands.sent ++ (id_of old.commands.next, wire (an_effect effect)) ∷ [])
    m) (ap (λ (to : Due). to.next) (sym c.is_due))
    (sends_aligned c.ready.sound.run (id_pending old.commands) effect old.commands.sent (id_of old.commands.next)
    (ap (λ (to : Due). to.act) (sym c.is_due)) c.ready.sound.aligned))
    (subst (λ (e : WireEffect). IsSent mid (commands.Effect e) side bytes new) is s)

-- Nothing goes out ----------------------------------------------------------------------------------------------------

waits_same : (old mid : CoreState) (next : Next) (c : Comes old next mid) → is_work (act_of next) ≡ false
    → c.before ≡ mid.machine
waits_same old mid next c rests =
    sym (due_stays (id_pending old.commands) c.before (ap (λ (to : Due). is_work to.act) (sym c.is_due) ∙ rests))
    ∙ ap (λ (to : Due). to.next) (sym c.is_due)

-- nothing is due
pub rests_so : (old mid : CoreState) → Comes old nexts.Wait mid → IsIdle old mid
rests_so old mid c =
    let same = waits_same old mid nexts.Wait c refl in
    record {
      goes = subst (λ (m : Machine). Goes old.machine m) same c.goes;
      nothing_due = ap (λ (w : Window). (due (id_pending w) mid.machine).act)
          (ap (λ (core : CoreState). core.commands) c.same)
          ∙ ap (λ (m : Machine). (due (id_pending old.commands) m).act) (sym same)
          ∙ ap (λ (to : Due). to.act) (sym c.is_due);
      same = c.same;
    }

pub rests_ready : (old mid : CoreState) → Comes old nexts.Wait mid → IsReady mid
rests_ready old mid c =
    subst (λ (core : CoreState). IsReady core)
    (ap (λ (m : Machine). with_machine old m) (waits_same old mid nexts.Wait c refl) ∙ sym c.same) c.ready

-- the session is over
over_so : (old mid : CoreState) (finish : Finish) → Comes old (nexts.Over finish) mid → IsOver old finish mid
over_so old mid finish c =
    let same = waits_same old mid (nexts.Over finish) c refl in
    record {
      goes = subst (λ (m : Machine). Goes old.machine m) same c.goes;
      is_due = ap (λ (w : Window). (due (id_pending w) mid.machine).act)
          (ap (λ (core : CoreState). core.commands) c.same)
          ∙ ap (λ (m : Machine). (due (id_pending old.commands) m).act) (sym same)
          ∙ ap (λ (to : Due). to.act) (sym c.is_due);
      same = c.same;
    }

pub ends_so : (old mid : CoreState) (finish : Finish) (ending : Ending) → Comes old (nexts.Over finish) mid
    → MayBe ending (finish_ending finish) → Finds old mid ending
ends_so old mid finish ending c may =
    may_hold (Finds old mid) ending (finish_ending finish) Finds.no_memory (Finds.over (over_so old mid finish c)) may
