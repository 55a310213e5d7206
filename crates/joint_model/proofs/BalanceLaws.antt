-- A target that lives and wasn't left is suspended as often as the messages say, and as is still untold.
use Rattle.std.proofs.Common.{◌≡◌, ◌≤◌, ◌<◌, ℕ, ◌+◌, Bool, true, false, ◌||◌, List, [], ◌∷◌, ◌++◌, Some, fold}
use Rattle.std.proofs.Common.{refl, sym, ap, subst, ◌∙◌, arith}
use Rattle.jdwp_events.specs.declared.event.Event.{Event}
use Rattle.jdwp_events.specs.declared.event.Event.TheVariants as events
use Rattle.jdwp_events.specs.declared.kind.Policy.{Policy}
use Rattle.jdwp_events.specs.declared.kind.Policy.TheVariants.{NoThread, EventThread, All}
use Rattle.joint_model.specs.Joints.{Joint, Packet, a_reply, is_aside, some_events}
use Rattle.joint_model.specs.Laws.{held, held_by, resumes_in, suspends_by, suspends_in, total, untold}
use Rattle.joint_model.specs.Names.{Does, Resume, Suspension}
use Rattle.joint_model.specs.Names.{TargetCommand, a_question, an_effect}
use Rattle.joint_model.specs.Obeying.{Emits, behind, composite_of, prepared_by, start_of}
use Rattle.machine_model.specs.Knowing.{is_farewell}
use Rattle.machine_model.specs.Leaving.{sends_farewell}
use Rattle.machine_model.specs.Names.{Composite, Replied}
use Rattle.machine_model.specs.Pending.{bit, has_such}
use Rattle.machine_model.specs.Replying.{wire}
use Rattle.machine_model.specs.Runs.{Allows, Message, Run}
use Rattle.machine_model.specs.State.{Machine}
use Rattle.world_model.specs.declared.world.World.{World}
use Rattle.world_model.specs.Moving.{count_behind}
use Rattle.joint_model.proofs.HeldLaws.{held_last, resumes_held, total_last, total_middle}
use Rattle.joint_model.proofs.ServedLaws.{lets_go_asked, resumes_asked, served_counts, served_lives, suspends_asked}

-- The machine beside its world ----------------------------------------------------------------------------------------

-- the machine of a joint has a run of its own
pub run_of : {messages : List Message} {m : Machine} {w : World} {commands : List TargetCommand}
    {packets : List Packet} {kept : List Composite} → Joint messages m w commands packets kept → Run messages m
run_of (Joint.starts sound alive free none) = Run.starts
run_of (Joint.goes j is) = Run.goes (run_of j) is
run_of (Joint.queues j may) = Run.queues (run_of j) may
run_of (Joint.says j allows aside) = Run.moves (run_of j) allows
run_of (Joint.sends j allows) = Run.moves (run_of j) allows
run_of (Joint.gets j allows) = Run.moves (run_of j) allows
run_of (Joint.takes j allows) = Run.moves (run_of j) allows
run_of (Joint.keeps j is allows) = Run.moves (run_of j) allows
run_of (Joint.reads j is allows) = Run.moves (run_of j) allows
run_of (Joint.loses j allows) = Run.moves (run_of j) allows
run_of (Joint.serves command before after j serves) = run_of j
run_of (Joint.runs j runs) = run_of j
run_of (Joint.emits j emits) = run_of j
run_of (Joint.dies j) = run_of j

such_last : (test : Message → Bool) (messages : List Message) (message : Message)
    → has_such test (messages ++ message ∷ []) ≡ (test message || has_such test messages)
such_last test [] message = refl
such_last test (first ∷ messages) message = grind (arith, such_last test messages message)

-- it wasn't left before, nor by the last message
pub not_left : (messages : List Message) (message : Message)
    → has_such sends_farewell (messages ++ message ∷ []) ≡ false
    → (has_such sends_farewell messages ≡ false) × (sends_farewell message ≡ false)
not_left messages message is =
    neither (sends_farewell message) (has_such sends_farewell messages)
    (sym (such_last sends_farewell messages message) ∙ is)
  where
    neither : (one others : Bool) → (one || others) ≡ false → (others ≡ false) × (one ≡ false)
    neither true others is = cc
    neither false others is = (is, refl)

-- Commands ------------------------------------------------------------------------------------------------------------

abbrev leaves_in : TargetCommand → ℕ
leaves_in command = bit (is_farewell command)

let_go_none : (command : TargetCommand) → leaves_in command ≡ 0 → lets_go_asked (wire command) ≡ false
let_go_none command is = grind (arith, is)

resumes_alike : (command : TargetCommand) → resumes_asked (wire command) ≡ resumes_in command
resumes_alike command = grind arith

suspends_alike : (command : TargetCommand) (replied : Replied)
    → suspends_asked (wire command) ≡ suspends_in (a_reply command replied)
suspends_alike command replied = grind arith

aside_held : (n : ℕ) (message : Message) → is_aside message ≡ true → held_by n message ≡ n
aside_held n message is = grind (arith, is)

answered_held : (n : ℕ) (command : TargetCommand) (replied : Replied)
    → held_by n (Message.answers command replied) ≡ suspends_in (a_reply command replied) + n
answered_held n command replied = grind arith

sent_held : (n : ℕ) (command : TargetCommand)
    → ((suspension : Suspension) → command ≡ an_effect (Does (Resume suspension)) → 0 < n)
    → held_by n (Message.sends command) + resumes_in command ≡ n
sent_held n (an_effect (Does (Resume suspension))) some = let more = some suspension refl in omega arith
sent_held n (an_effect (Does _)) some = omega arith
sent_held n (an_effect _) some = omega arith
sent_held n (a_question question) some = omega arith

-- Composites ----------------------------------------------------------------------------------------------------------

counted_by : (n : ℕ) (composite : Composite) → count_behind n (Some composite) ≡ suspends_by composite + n
counted_by n composite = by_policy composite.policy composite refl
  where
    by_policy : (policy : Policy) (composite : Composite) → composite.policy ≡ policy
        → count_behind n (Some composite) ≡ suspends_by composite + n
    by_policy NoThread composite is = rw is (omega arith)
    by_policy EventThread composite is = rw is (omega arith)
    by_policy All composite is = rw is (omega arith)

-- classes that are prepared change no suspension
prepared_count : (told : List Event) (w : World)
    → ((fold prepared_by w told).count ≡ w.count) × ((fold prepared_by w told).dead ≡ w.dead)
prepared_count [] w = (refl, refl)
prepared_count (event ∷ told) w =
    let more = prepared_count told (prepared_by w event) in
    let one = by_event event in (more.0 ∙ one.0, more.1 ∙ one.1)
  where
    by_event : (event : Event) → ((prepared_by w event).count ≡ w.count) × ((prepared_by w event).dead ≡ w.dead)
    by_event (events.ClassPrepare id thread tag class signature status) = (refl, refl)
    by_event _ = (refl, refl)

behind_count : (w : World) (composite : Composite) → (behind w composite).count ≡ suspends_by composite + w.count
behind_count w composite =
    counted_by (fold prepared_by w composite.events).count composite
    ∙ ap (λ (n : ℕ). suspends_by composite + n) (prepared_count composite.events w).0

pub emitted_count : {w now : World} {composite : Composite} → Emits w composite now → now.dead ≡ false
    → (w.dead ≡ false) × (now.count ≡ suspends_by composite + w.count)
emitted_count {w} (Emits.tells first others lives told sound) alive =
    (lives, behind_count w (composite_of (first ∷ others)))
emitted_count {w} (Emits.begins {policy} {thread} lives other sound) alive =
    (lives, behind_count w (start_of policy thread))
emitted_count Emits.ends alive = absurd cc

-- The balance ---------------------------------------------------------------------------------------------------------

record IsBalanced (messages : List Message) (w : World) (commands : List TargetCommand) (packets : List Packet)
    (kept : List Composite) : Type 0 where
  stays : total leaves_in commands ≡ 0
  count : w.count ≡ held messages + untold commands packets kept

balanced : {messages : List Message} {m : Machine} {w : World} {commands : List TargetCommand} {packets : List Packet}
    {kept : List Composite} → Joint messages m w commands packets kept → w.dead ≡ false
    → has_such sends_farewell messages ≡ false → IsBalanced messages w commands packets kept
balanced (Joint.starts sound alive free none) lives near = record { stays = refl; count = free }
balanced (Joint.goes j is) lives near = balanced j lives near
balanced (Joint.queues j may) lives near = balanced j lives near
balanced (Joint.says {messages} {message = message} j allows aside) lives near =
    let b = balanced j lives (not_left messages message near).0 in
    let stays = b.stays in let count = b.count in
    let now = held_last 0 messages message in let same = aside_held (held messages) message aside in
    record { stays = stays; count = omega arith }
balanced (Joint.sends {messages} {m} {next} {command = command} j allows) lives near =
    let left = not_left messages (Message.sends command) near in
    let b = balanced j lives left.0 in
    let stays = b.stays in let count = b.count in
    let gone : leaves_in command ≡ 0 = ap bit left.1 in
    let now = held_last 0 messages (Message.sends command) in
    let same = sent_held (held messages) command
    (λ suspension is. resumes_held messages m next suspension (run_of j)
    (subst (λ (command : TargetCommand). Allows m (Message.sends command) next) is allows)) in
    record { stays = omega arith; count = omega arith }
balanced (Joint.gets {messages} {command = command} {replied} j allows) lives near =
    let b = balanced j lives (not_left messages (Message.answers command replied) near).0 in
    let stays = b.stays in let count = b.count in
    let now = held_last 0 messages (Message.answers command replied) in
    let same = answered_held (held messages) command replied in
    record { stays = stays; count = omega arith }
balanced (Joint.takes {messages} {composite = composite} {at} j allows) lives near =
    let b = balanced j lives (not_left messages (Message.comes at composite) near).0 in
    let stays = b.stays in let count = b.count in
    let now = held_last 0 messages (Message.comes at composite) in
    record { stays = stays; count = omega arith }
balanced (Joint.keeps {messages} {kept = kept} {composite} {at} {body} j is allows) lives near =
    let b = balanced j lives (not_left messages (Message.keeps at body) near).0 in
    let stays = b.stays in let count = b.count in
    let now = held_last 0 messages (Message.keeps at body) in
    let more = total_last suspends_by kept composite in
    record { stays = stays; count = omega arith }
balanced (Joint.reads {messages} {composite = composite} {at} {body} j is allows) lives near =
    let b = balanced j lives (not_left messages (Message.reads at body composite) near).0 in
    let stays = b.stays in let count = b.count in
    let now = held_last 0 messages (Message.reads at body composite) in
    record { stays = stays; count = omega arith }
balanced (Joint.loses {messages} j allows) lives near =
    let b = balanced j lives (not_left messages Message.ends near).0 in
    let stays = b.stays in let count = b.count in
    let now = held_last 0 messages Message.ends in
    record { stays = stays; count = omega arith }
balanced (Joint.serves {messages} {w = w} {now} {packets} {kept} {replied} command before after j serves) lives near =
    let b = balanced j (served_lives serves lives) near in
    let stays = b.stays in let count = b.count in
    let going = total_middle leaves_in before after command in
    let resuming = total_middle resumes_in before after command in
    let more = total_last suspends_in packets (a_reply command replied) in
    let gone : leaves_in command ≡ 0 = omega arith in
    let same = resumes_alike command in
    let enough : resumes_asked (wire command) ≤ w.count = omega arith in
    let served = (served_counts serves lives (let_go_none command gone) enough).1 in
    let told = suspends_alike command replied in
    record { stays = omega arith; count = omega arith }
balanced (Joint.runs j runs) lives near =
    let b = balanced j runs.alive near in
    record { stays = b.stays; count = runs.still_free ∙ sym runs.free ∙ b.count }
balanced (Joint.emits {packets = packets} {composite = composite} j emits) lives near =
    let now = emitted_count emits lives in
    let b = balanced j now.0 near in
    let stays = b.stays in let count = b.count in
    let counted = now.1 in
    let more = total_last suspends_in packets (some_events composite) in
    record { stays = stays; count = omega arith }
balanced (Joint.dies j) lives near = absurd cc

pub balances : (messages : List Message) (m : Machine) (w : World) (commands : List TargetCommand)
    (packets : List Packet) (kept : List Composite) → Joint messages m w commands packets kept → w.dead ≡ false
    → has_such sends_farewell messages ≡ false → w.count ≡ held messages + untold commands packets kept
balances messages m w commands packets kept j lives near = (balanced j lives near).count
