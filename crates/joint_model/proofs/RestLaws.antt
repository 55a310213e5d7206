-- At rest, with nothing on its way, a target is suspended once for a stop in hand, once as its entry, and else not.
use Rattle.std.proofs.Common.{◌≡◌, ◌<◌, ℕ, ◌+◌, Bool, true, false, cond, ◌||◌, List, [], ◌∷◌, ◌++◌, map, None}
use Rattle.std.proofs.Common.{Option, refl, sym, ap, ◌∙◌, arith, nat_lt}
use Rattle.std.specs.List.{AllByRecursion}
use Rattle.dap_messages.specs.declared.told.Event.{Event as EventTold}
use Rattle.dap_messages.specs.declared.told.Event.TheVariants as told_events
use Rattle.jdwp_commands.specs.declared.question.Question.TheVariants as questions
use Rattle.jdwp_events.specs.declared.event.Event.{Event}
use Rattle.jdwp_events.specs.declared.event.Event.TheVariants as events
use Rattle.joint_model.specs.Joints.{Joint, Packet, a_reply, is_aside, some_events}
use Rattle.joint_model.specs.Laws.{is_suspend, total}
use Rattle.joint_model.specs.Names.{Clear, Dispose, Does, Exit, Resume, Set, Suspend, TargetCommand, Writes, a_question}
use Rattle.joint_model.specs.Names.{an_effect}
use Rattle.joint_model.specs.Obeying.{Emits, IsTold, Matches}
use Rattle.machine_model.specs.Composites.{has_death, is_death}
use Rattle.machine_model.specs.Knowing.{AreSaid, View, come_view, event_view, held_in, is_farewell, is_fresh}
use Rattle.machine_model.specs.Knowing.{learnt_view, may_be, may_resume, replied_view, says, says_dead, turned_view}
use Rattle.machine_model.specs.Knowing.{waiting_composites}
use Rattle.machine_model.specs.Leaving.{sends_farewell}
use Rattle.machine_model.specs.Names.{Composite, Replied, a_response, an_event}
use Rattle.machine_model.specs.Pending.{bit, count, has_such}
use Rattle.machine_model.specs.Replying.{pending_in, pending_of}
use Rattle.machine_model.specs.Rest.{IsAtRest}
use Rattle.machine_model.specs.Runs.{Message}
use Rattle.machine_model.specs.State.{Hand, Machine, is_gone}
use Rattle.machine_model.specs.declared.items.Item.{Item}
use Rattle.machine_model.specs.declared.items.Phase.{Phase}
use Rattle.machine_model.specs.declared.items.Phase.TheVariants.{Attached, Fresh}
use Rattle.machine_laws.proofs.KnowingLaws.{is_known}
use Rattle.machine_steps.proofs.PendingLaws.{pending_is}
use Rattle.machine_steps.proofs.SizeLaws.{is_idle}
use Rattle.suspend_ledger.specs.Suspensions.{suspensions_by}
use Rattle.world_model.specs.declared.rows.Installed.{Installed}
use Rattle.world_model.specs.declared.world.World.{World}
use Rattle.joint_model.proofs.BalanceLaws.{balances, emitted_count, run_of}
use Rattle.joint_model.proofs.HeldLaws.{asked_by, came_by, done_is, exact, learnt_held, may_undo, sent_is}
use Rattle.joint_model.proofs.HeldLaws.{total_last, undone_by}
use Rattle.joint_model.proofs.ServedLaws.{served_lives}

-- A target that lives tells of no end ---------------------------------------------------------------------------------

abbrev death_in : Composite → ℕ
death_in composite = bit (has_death composite.events)

abbrev death_by : Message → ℕ
death_by (Message.comes at composite) = death_in composite
death_by (Message.reads at body composite) = death_in composite
death_by _ = 0

abbrev death_of : Packet → ℕ
death_of (a_reply command replied) = 0
death_of (some_events composite) = death_in composite

matched_lives : (w : World) (request : Installed) (event : Event) → Matches w request event → is_death event ≡ false
matched_lives w request (events.VMDeath id) is = absurd is
matched_lives w request _ is = refl

told_lives : (w : World) (told : List (Installed × Event)) → AllByRecursion (IsTold w) told
    → has_death (map (λ (one : Installed × Event). one.1) told) ≡ false
told_lives w [] are = refl
told_lives w (one ∷ told) are =
    neither (is_death one.1) _ (matched_lives w one.0 one.1 are.0.matches) (told_lives w told are.1)
  where
    neither : (first others : Bool) → first ≡ false → others ≡ false → (first || others) ≡ false
    neither first others is are = rw (is, are) refl

emitted_lives : {w now : World} {composite : Composite} → Emits w composite now → now.dead ≡ false
    → death_in composite ≡ 0
emitted_lives {w} (Emits.tells first others lives told sound) alive = ap bit (told_lives w (first ∷ others) told)
emitted_lives (Emits.begins lives other sound) alive = refl
emitted_lives Emits.ends alive = absurd cc

aside_lives : (message : Message) → is_aside message ≡ true → death_by message ≡ 0
aside_lives message is = grind (arith, is)

deaths : {messages : List Message} {m : Machine} {w : World} {commands : List TargetCommand} {packets : List Packet}
    {kept : List Composite} → Joint messages m w commands packets kept → w.dead ≡ false
    → total death_by messages + (total death_of packets + total death_in kept) ≡ 0
deaths (Joint.starts sound alive free none) lives = refl
deaths (Joint.goes j is) lives = deaths j lives
deaths (Joint.queues j may) lives = deaths j lives
deaths (Joint.says {messages} {message = message} j allows aside) lives =
    let before = deaths j lives in let one = aside_lives message aside in
    let last = total_last death_by messages message in omega arith
deaths (Joint.sends {messages} {command = command} j allows) lives =
    let before = deaths j lives in let last = total_last death_by messages (Message.sends command) in omega arith
deaths (Joint.gets {messages} {command = command} {replied} j allows) lives =
    let before = deaths j lives in
    let last = total_last death_by messages (Message.answers command replied) in omega arith
deaths (Joint.takes {messages} {composite = composite} {at} j allows) lives =
    let before = deaths j lives in
    let last = total_last death_by messages (Message.comes at composite) in omega arith
deaths (Joint.keeps {messages} {kept = kept} {composite} {at} {body} j is allows) lives =
    let before = deaths j lives in
    let last = total_last death_by messages (Message.keeps at body) in
    let more = total_last death_in kept composite in omega arith
deaths (Joint.reads {messages} {composite = composite} {at} {body} j is allows) lives =
    let before = deaths j lives in
    let last = total_last death_by messages (Message.reads at body composite) in omega arith
deaths (Joint.loses {messages} j allows) lives =
    let before = deaths j lives in let last = total_last death_by messages Message.ends in omega arith
deaths (Joint.serves {packets = packets} {replied = replied} command before after j serves) lives =
    let earlier = deaths j (served_lives serves lives) in
    let more = total_last death_of packets (a_reply command replied) in omega arith
deaths (Joint.runs j runs) lives = deaths j runs.alive
deaths (Joint.emits {packets = packets} {composite = composite} j emits) lives =
    let earlier = deaths j (emitted_count emits lives).0 in
    let one = emitted_lives emits lives in
    let more = total_last death_of packets (some_events composite) in omega arith
deaths (Joint.dies j) lives = absurd cc

-- The view of the messages, exactly -----------------------------------------------------------------------------------

-- a composite that tells of the target's end suspends nothing in a view
abbrev weight : Composite → ℕ
weight composite = cond (has_death composite.events) 0 (suspensions_by composite.policy)

abbrev weight_by : Message → ℕ
weight_by (Message.comes at composite) = weight composite
weight_by (Message.reads at body composite) = weight composite
weight_by _ = 0

abbrev Exactly : ℕ → ℕ → View → Type 0
Exactly some undone view = view.held + total weight view.composites + undone ≡ some

turned_weight : (dies : Bool) (n more : ℕ) → cond dies n (n + more) ≡ n + cond dies 0 more
turned_weight true n more = omega arith
turned_weight false n more = omega arith

turned_exactly : (some undone : ℕ) (view : View) (composite : Composite) (others : List Composite)
    → view.composites ≡ composite ∷ others → Exactly some undone view
    → Exactly some undone (turned_view composite others view)
turned_exactly some undone view composite others are h =
    let waiting = ap (total weight) are in
    let now = turned_weight (has_death composite.events) view.held (suspensions_by composite.policy) in omega arith

fresh_near : (phase : Phase) → is_fresh phase ≡ true → is_gone phase ≡ false
fresh_near phase is = grind (arith, is)

event_exactly : (some undone : ℕ) (view : View) (event : EventTold)
    → may_be view (Message.tells (an_event event)) ≡ true → is_gone (event_view event view).phase ≡ false
    → (is_gone view.phase ≡ false → Exactly some undone view)
    → Exactly some undone (event_view event view)
event_exactly some undone view told_events.Initialized may near h = h (fresh_near view.phase may)
event_exactly some undone view told_events.Terminated may near h = absurd cc
event_exactly some undone view _ may near h = h near

learnt_phase : (command : TargetCommand) (replied : Replied) (view : View)
    → (learnt_view command replied view).phase ≡ view.phase
learnt_phase (a_question questions.IdSizes) replied view = refl
learnt_phase (a_question _) replied view = refl
learnt_phase (an_effect effect) replied view = refl

replied_exactly : (gone ended : Bool) (some undone : ℕ) (view : View) (command : TargetCommand) (replied : Replied)
    → is_gone (replied_view gone ended command replied view).phase ≡ false
    → (is_gone view.phase ≡ false → Exactly some undone view)
    → Exactly some undone (replied_view gone ended command replied view)
replied_exactly true ended some undone view command replied near h = h near
replied_exactly false true some undone view command replied near h = absurd cc
replied_exactly false false some undone view command replied near h =
    let same = learnt_held command replied view in
    let before = h (ap is_gone (sym (learnt_phase command replied view)) ∙ near) in
    let held_same = same.0 in
    let waiting = ap (total weight) same.1 in omega arith

come_exactly : (gone : Bool) (some undone : ℕ) (view : View) (composite : Composite) → is_gone view.phase ≡ gone
    → is_gone (come_view gone composite view).phase ≡ false → (is_gone view.phase ≡ false → Exactly some undone view)
    → Exactly (weight composite + some) undone (come_view gone composite view)
come_exactly true some undone view composite is near h = let no : true ≡ false = sym is ∙ near in cc
come_exactly false some undone view composite is near h =
    let before = h near in
    let waiting = total_last weight view.composites composite in omega arith

says_exactly : (came asked undone : ℕ) (view : View) (message : Message) → may_be view message ≡ true
    → is_gone (says message view).phase ≡ false → (is_gone view.phase ≡ false → Exactly (came + asked) undone view)
    → Exactly ((weight_by message + came) + (asked_by message + asked)) (undone_by message + undone) (says message view)
says_exactly came asked undone view (Message.hears request) may near h = let before = h near in omega arith
says_exactly came asked undone view (Message.tells (a_response response)) may near h =
    let before = h near in omega arith
says_exactly came asked undone view (Message.tells (an_event event)) may near h =
    let now = event_exactly (came + asked) undone view event may near h in omega arith
says_exactly came asked undone view Message.greets may near h = let before = h near in omega arith
says_exactly came asked undone view Message.greeted may near h = let before = h near in omega arith
says_exactly came asked undone view (Message.sends (a_question question)) may near h =
    let before = h near in omega arith
says_exactly came asked undone view (Message.sends (an_effect (Set wish))) may near h =
    let before = h near in omega arith
says_exactly came asked undone view (Message.sends (an_effect (Clear wish request))) may near h =
    let before = h near in omega arith
says_exactly came asked undone view (Message.sends (an_effect (Does Suspend))) may near h =
    let before = h near in omega arith
says_exactly came asked undone view (Message.sends (an_effect (Does (Resume suspension)))) may near h =
    let before = h near in
    let some = may_undo (is_gone view.phase) (may_resume suspension view) (nat_lt 0 view.held) may in
    let more : 0 < view.held = grind (arith, some) in omega arith
says_exactly came asked undone view (Message.sends (an_effect (Does Dispose))) may near h =
    let before = h near in omega arith
says_exactly came asked undone view (Message.sends (an_effect (Does Exit))) may near h =
    let before = h near in omega arith
says_exactly came asked undone view (Message.sends (an_effect (Does (Writes write)))) may near h =
    let before = h near in omega arith
says_exactly came asked undone view (Message.answers command replied) may near h =
    let now = replied_exactly (is_gone view.phase) (cond (is_farewell command) false (says_dead replied))
    (came + asked) undone view command replied near h in omega arith
says_exactly came asked undone view Message.ends may near h = absurd cc
says_exactly came asked undone view (Message.comes at composite) may near h =
    let now = come_exactly (is_gone view.phase) (came + asked) undone view composite refl near h in omega arith
says_exactly came asked undone view (Message.keeps at body) may near h = let before = h near in omega arith
says_exactly came asked undone view (Message.reads at body composite) may near h =
    let now = come_exactly (is_gone view.phase) (came + asked) undone view composite refl near h in omega arith

exactly : {messages : List Message} {view : View} → AreSaid messages view → is_gone view.phase ≡ false
    → Exactly (total weight_by messages + total asked_by messages) (total undone_by messages) view
exactly AreSaid.none near = refl
exactly (AreSaid.turns {messages} {view} composite others said attached are) near =
    turned_exactly (total weight_by messages + total asked_by messages) (total undone_by messages) view composite others
    are (exactly said near)
exactly (AreSaid.one_more {messages} {view} message may said) near =
    rw (
      total_last weight_by messages message,
      total_last asked_by messages message,
      total_last undone_by messages message,
    )
    (says_exactly (total weight_by messages) (total asked_by messages) (total undone_by messages) view message may near
    (λ before. exactly said before))

weight_is : (composite : Composite) → death_in composite ≡ 0 → weight composite ≡ suspensions_by composite.policy
weight_is composite is = by_death (has_death composite.events) (suspensions_by composite.policy) is
  where
    by_death : (dies : Bool) (n : ℕ) → bit dies ≡ 0 → cond dies 0 n ≡ n
    by_death true n is = absurd (omega arith)
    by_death false n is = refl

weights_are : (messages : List Message) → total death_by messages ≡ 0
    → total weight_by messages ≡ total came_by messages
weights_are [] is = refl
weights_are (Message.comes at composite ∷ messages) is =
    let none : death_in composite ≡ 0 = omega arith in let rest : total death_by messages ≡ 0 = omega arith in
    let one = weight_is composite none in let more = weights_are messages rest in omega arith
weights_are (Message.reads at body composite ∷ messages) is =
    let none : death_in composite ≡ 0 = omega arith in let rest : total death_by messages ≡ 0 = omega arith in
    let one = weight_is composite none in let more = weights_are messages rest in omega arith
weights_are (_ ∷ messages) is =
    let rest : total death_by messages ≡ 0 = omega arith in let more = weights_are messages rest in omega arith

-- At rest -------------------------------------------------------------------------------------------------------------

waiting_none : (gone : Bool) (items : List Item) → items ≡ [] → waiting_composites gone items ≡ []
waiting_none true items are = refl
waiting_none false items are = rw are refl

pub counts_at_rest : (messages : List Message) (m : Machine) (w : World) → Joint messages m w [] [] []
    → w.dead ≡ false → has_such sends_farewell messages ≡ false → IsAtRest m → m.state.phase ≡ Attached
    → w.count ≡ bit m.state.stopped + bit m.state.entry
counts_at_rest messages m w j lives stays rests attached =
    let r = run_of j in
    let balance = balances messages m w [] [] [] j lives stays in
    let idle = is_idle messages m r rests in
    let near : is_gone m.state.phase ≡ false = ap is_gone attached in
    let view = exactly (is_known messages m r).said near in
    let waits = ap (total weight) (waiting_none (is_gone m.state.phase) m.waiting
    (idle.none_later (λ is. let no : Attached ≡ Fresh = sym attached ∙ is in cc))) in
    let alone : held_in m.state m.hand ≡ held_in m.state None = ap (held_in m.state) idle.no_hand in
    let pending : pending_of m ≡ [] = ap (λ (hand : Option Hand). m.late ++ pending_in hand) idle.no_hand
    ∙ ap (λ (late : List TargetCommand). late ++ []) ((pending_is messages m r).in_hand near) in
    let none : count is_suspend (pending_of m) ≡ 0 = ap (count is_suspend) pending in
    let counted = (pending_is messages m r).counted is_suspend in
    let before = exact r in
    let last = deaths j lives in
    let undying : total death_by messages ≡ 0 = omega arith in
    let same = weights_are messages undying in
    let sent = sent_is messages in
    let done = done_is messages in omega arith
