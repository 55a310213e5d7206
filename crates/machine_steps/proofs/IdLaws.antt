-- Each id in a command was read before it: what holds of the ids that stand in the machine holds of those in a command.
use Rattle.std.proofs.Common.{◌≡◌, ◌⊎◌, inl, inr, ℕ, Bool, true, false, cond, not, List, [], ◌∷◌, ◌++◌, Option, Some}
use Rattle.std.proofs.Common.{None, refl, sym, ap, subst, ◌∙◌, append-nil, arith, option_map}
use Rattle.std.specs.List.{AllByRecursion as All, Contains, find}
use Rattle.std.specs.Option.{option_or}
use Rattle.std.proofs.lemmas.List.Concat.{flat_map-append}
use Rattle.std.proofs.lemmas.List.Elements.{Contains-append_left, Contains-append_right, Contains-get_or}
use Rattle.std.proofs.lemmas.List.Elements.{recursion_from_All}
use Rattle.jdwp_commands.specs.Commands.{told_question}
use Rattle.jdwp_commands.specs.declared.asked.Asked.TheVariants as commands
use Rattle.machine_model.proofs.WriteIds.{IsWrite, OfDeed, OfStore, written_fits, written_ids, written_sized}
use Rattle.machine_model.specs.Ids.{Id, IsNull, class, ids_asked, ids_given, ids_of_composite, ids_read, thread_in}
use Rattle.machine_model.specs.Ids.{frame, object}
use Rattle.machine_model.specs.Plans.{question_of}
use Rattle.machine_model.specs.Replying.{wire}
use Rattle.machine_model.specs.Requests.{Wishes, effect_due, effect_of}
use Rattle.machine_model.specs.Runs.{MayQueue, Message, Run, to_ask}
use Rattle.machine_model.specs.State.{Hand, State, Machine, is_empty, is_gone, is_some, fresh, is_attached}
use Rattle.machine_steps.specs.Names.{Store, Write, Writes, to_element, to_field, to_slot, variable_write, Classes}
use Rattle.machine_steps.specs.Names.{Clear, Deed, Does, Effect, Exit, Item, Lines, Part, Question, Sent, Set, Success}
use Rattle.machine_steps.specs.Names.{TargetCommand, Want, a_composite, a_question, an_effect, thread_list, a_stop}
use Rattle.machine_steps.specs.Names.{some_news, thread_changed, thread_frames, Functions, Steps, Throws, Thrown, Seen}
use Rattle.machine_steps.specs.Names.{exception_info, exception_text, Body, ShownVariable, a_value, container_children}
use Rattle.machine_steps.specs.Names.{expression_value, frame_list, scope_list, variable_list, Decides, Strike}
use Rattle.machine_steps.specs.Names.{breakpoint_hits}
use Rattle.machine_steps.proofs.Standing.{needs_sizes, IsKept, Near, OfBody, PartStands, asked_in, at_front, ids_said}
use Rattle.machine_steps.proofs.Standing.{queue_in}
use Rattle.wish_sets.specs.Wished.{wished}
use Rattle.wish_sets.specs.Wishes.{EventRequest, clears, is_missing, is_surplus, next_change, sets}
use Rattle.wish_sets.specs.declared.wish.Wish.{Wish}
use Rattle.machine_model.proofs.IdRows.{all_weak, plain_fits}
use Rattle.machine_steps.proofs.ItemIds.{HandStands, Waits, waiting_on}
use Rattle.machine_steps.proofs.HitIds.{ItemStands}
use Rattle.machine_steps.proofs.ThreadIds.{TellStands}
use Rattle.stop_refs.specs.declared.thing.FrameThing.{FrameThing}
use Rattle.stop_refs.specs.declared.thing.Thing.{Thing}
use Rattle.stop_refs.specs.declared.thing.Thing.TheVariants as things
use Rattle.machine_model.proofs.PlanIds.{IsAskable, IsAsked, IsReplied, IsWanted, OfNamed, OfThread, OnSome, is_sizes}
use Rattle.machine_model.proofs.PlanIds.{OfClass, OfFrameThing, OfObject, OfShownFrame, OfSeen, OfShownVariable}
use Rattle.machine_model.proofs.PlanIds.{OfStrike, OfThing, OfThrown}
use Rattle.std.specs.Prelude.{zero, suc}
use Rattle.machine_model.proofs.Bools.{always}
use Rattle.machine_steps.proofs.StandingReplies.{anew_kept, queued_near, sizes_is}
use Rattle.machine_steps.proofs.StandingWalk.{kept_on}
use Rattle.machine_steps.proofs.Stepping.{Moves, by_moves, holds_hand, with_said, Loses}
use Rattle.machine_steps.proofs.WishIds.{AreWished, MaySend, SetMay, find_some, nothing_wished, weak_wished, wished_may}
use Rattle.machine_steps.proofs.StandingMoves.{sized_by}
use Rattle.machine_steps.proofs.RequestSteps.{parts_left}

-- A weaker test -------------------------------------------------------------------------------------------------------

module _ (P Q : Id → Type 0) (k : (id : Id) → P id → Q id) where
  weak_ids : (ids : List Id) → All P ids → All Q ids
  weak_ids ids h = all_weak P Q k ids h

  weak_frame : (one : FrameThing) → OfFrameThing P one → OfFrameThing Q one
  weak_frame one h = (k _ h.0, k _ h.1, k _ h.2, k _ h.3)

  weak_object : (id : ℕ) → OfObject P id → OfObject Q id
  weak_object zero h = tt
  weak_object (suc id) h = k (object (suc id)) h

  weak_thrown : (thrown : Thrown) → OfThrown P thrown → OfThrown Q thrown
  weak_thrown thrown h = (k _ h.0, weak_object thrown.object.0 h.1)

  pub weak_thing : (thing : Thing) → OfThing P thing → OfThing Q thing
  weak_thing (things.Frame one) h = weak_frame one h
  weak_thing (things.Locals one) h = weak_frame one h
  weak_thing (things.Object one) h = k (object one.0) h
  weak_thing (things.Array one) h = k (object one.0) h

  weak_seen : (seen : Seen) → OfSeen P seen → OfSeen Q seen
  weak_seen seen h = by_thing seen.thing h
    where
      by_thing : (thing : Option Thing) → OnSome (OfThing P) thing → OnSome (OfThing Q) thing
      by_thing None h = tt
      by_thing (Some thing) h = weak_thing thing h

  weak_variable : (one : ShownVariable) → OfShownVariable P one → OfShownVariable Q one
  weak_variable one h = weak_seen one.seen h

  weak_body : (body : Body) → OfBody P body → OfBody Q body
  weak_body (thread_list named) h = all_weak (OfNamed P) (OfNamed Q) (λ one. k _) named h
  weak_body (frame_list total frames) h =
      all_weak (OfShownFrame P) (OfShownFrame Q) (λ one. weak_frame one.frame) frames h
  weak_body (scope_list one) h = weak_frame one h
  weak_body (variable_list shown) h = all_weak (OfShownVariable P) (OfShownVariable Q) weak_variable shown h
  weak_body (a_value seen) h = weak_seen seen h
  weak_body _ h = tt

  weak_store : (store : Store) → OfStore P store → OfStore Q store
  weak_store (to_slot thread one slot) h = (k (object thread.0) h.0, k (frame thread.0 one.0) h.1)
  weak_store (to_field one field) h = (k (object one.0) h.0, k _ h.1)
  weak_store (to_element array index) h = k (object array.0) h

  weak_write : (write : Write) → IsWrite P write → IsWrite Q write
  weak_write write h = record { of_store = weak_store write.store h.of_store; plain = h.plain }

  weak_strikes : (strikes : List Strike) → All (OfStrike P) strikes → All (OfStrike Q) strikes
  weak_strikes strikes h = all_weak (OfStrike P) (OfStrike Q) (λ strike s. (k _ s.0, k _ s.1, k _ s.2)) strikes h

  weak_part : (part : Part) → PartStands P part → PartStands Q part
  weak_part (Part.Responds (Success body)) h = weak_body body h
  weak_part (Part.Notes (Lines key path entries)) h = h
  weak_part (Part.Notes (Functions entries)) h = h
  weak_part (Part.Notes (Steps (Some step))) h = k (object step.thread.0) h
  weak_part (Part.Looks (thread_frames thread start levels)) h = k (object thread.0) h
  weak_part (Part.Looks (container_children thing filter start count)) h = weak_thing thing h
  weak_part (Part.Looks (expression_value one expression)) h = weak_frame one h
  weak_part (Part.Looks (variable_write thing name text)) h = weak_thing thing h
  weak_part (Part.Looks (exception_text thread one)) h = weak_object one.0 h
  weak_part (Part.Sends (Writes write)) h = weak_write write h
  weak_part (Part.Looks (exception_info thrown)) h = weak_object thrown.object.0 h
  weak_part (Part.Looks (breakpoint_hits strikes)) h = weak_strikes strikes h
  weak_part (Part.Unfolds (Decides logged stops)) h = weak_strikes stops h
  weak_part (Part.Notes (Classes classes)) h = all_weak (OfClass P) (OfClass Q) (λ one. k _) classes h
  weak_part _ h = tt

  weak_sent : (sized : Bool) (sent : Sent) → IsAsked P sized sent → IsAsked Q sized sent
  weak_sent sized sent h = record { reply = by_reply sent.reply h.reply; first = h.first }
    where
      by_reply : (reply : Option _) → IsReplied P (question_of sent.want) reply
          → IsReplied Q (question_of sent.want) reply
      by_reply None h = tt
      by_reply (Some replied) h = weak_ids _ h

  weak_near : (state : State) (left : List Part) (queue : List Want) (asked : List Sent) → Near P state left queue asked
      → Near Q state left queue asked
  weak_near state left queue asked n = record {
    classes = record {
      loaded = all_weak _ _ (λ entry. k _) state.classes.loaded n.classes.loaded;
      methods = all_weak _ _ (λ entry. weak_ids _) state.classes.methods n.classes.methods;
      fields = all_weak _ _ (λ entry. weak_ids _) state.classes.fields n.classes.fields;
      supers = all_weak _ _ (λ entry. k _) state.classes.supers n.classes.supers;
    };
    wanted = weak_wished P Q (λ id other. k id) state.wishes.wanted n.wanted;
    order = n.order;
    parts = all_weak (PartStands P) (PartStands Q) weak_part left n.parts;
    wants = all_weak (IsWanted P (is_some state.sizes)) (IsWanted Q (is_some state.sizes))
        (λ want w. record { ids = weak_ids _ w.ids; plain = w.plain; first = w.first }) queue n.wants;
    replies = all_weak (IsAsked P (is_some state.sizes)) (IsAsked Q (is_some state.sizes))
        (weak_sent (is_some state.sizes)) asked n.replies;
  }

  pub weak_kept : (messages : List Message) (m : Machine) → IsKept P messages m → IsKept Q messages m
  weak_kept messages m h = record {
    once = h.once;
    sizes = h.sizes;
    none_late = h.none_late;
    near = λ near. weak_near m.state (parts_left m.hand) (queue_in m.hand) (asked_in m.hand) (h.near near);
  }

-- Runs ----------------------------------------------------------------------------------------------------------------

-- a test of ids by the messages so far: what passes goes on to pass, and what the target gives passes
pub record IsIdTest (P : List Message → Id → Type 0) : Type 0 where
  pub null : (messages : List Message) → P messages (class 0)
  pub grows : (messages : List Message) (message : Message) (id : Id) → P messages id → P (messages ++ message ∷ []) id
  pub brings : (messages : List Message) (m next : Machine) (message : Message) → IsKept (P messages) messages m
      → Moves m (Some message) next → is_gone next.state.phase ≡ false → All (P (messages ++ message ∷ []))
      (ids_given message)

-- what stands in the machine passes, and so does what waits
pub record Standing (P : Id → Type 0) (messages : List Message) (m : Machine) : Type 0 where
  pub waits : Waits P m
  pub kept : IsKept P messages m

weak_waits : (P Q : Id → Type 0) → ((id : Id) → P id → Q id) → (m : Machine) → Waits P m → Waits Q m
weak_waits P Q k m w near = record {
  waiting = all_weak (ItemStands P) (ItemStands Q) each m.waiting (w near).waiting;
  held = by_hand m.hand (w near).held;
  threads = all_weak (OfThread P) (OfThread Q) (λ thread. k (object thread.0)) m.state.threads (w near).threads;
  things = all_weak (OfThing P) (OfThing Q) (weak_thing P Q k) m.state.numbers.things (w near).things;
  thrown = all_weak (OfThrown P) (OfThrown Q) (weak_thrown P Q k) m.state.thrown (w near).thrown;
}
  where
    each : (item : Item) → ItemStands P item → ItemStands Q item
    each (a_composite at composite) h = weak_ids P Q k (ids_of_composite composite) h
    each _ h = tt

    tells : (part : Part) → TellStands P part → TellStands Q part
    tells (Part.Tells (some_news (thread_changed started thread))) h = k (object thread.0) h
    tells (Part.Tells (a_stop stopping)) h = k (object stopping.thread.0) h
    tells (Part.Looks (exception_text thread one)) h = k (object thread.0) h
    tells (Part.Notes (Throws thrown)) h = all_weak (OfThrown P) (OfThrown Q) (weak_thrown P Q k) thrown h
    tells _ h = tt

    by_hand : (hand : Option Hand) → HandStands P hand → HandStands Q hand
    by_hand None h = tt
    by_hand (Some hand) h = (each hand.item h.0, all_weak (TellStands P) (TellStands Q) tells hand.parts h.1)

stands_next : {P : Id → Type 0} (messages : List Message) (m next : Machine) (said : Option Message) → P (class 0)
    → Standing P messages m → Moves m said next → (is_gone next.state.phase ≡ false → All P (ids_said said))
    → Standing P (with_said messages said) next
stands_next {P} messages m next said null s move brought = record {
  waits = waiting_on P messages m next said s.waits s.kept move brought;
  kept = kept_on messages m next said null s.waits s.kept move brought;
}

kept_next : {P : List Message → Id → Type 0} → IsIdTest P → (messages : List Message) (m next : Machine)
    (said : Option Message) → Standing (P messages) messages m → Moves m said next
    → Standing (P (with_said messages said)) (with_said messages said) next
kept_next {P} t messages m next None s move = stands_next messages m next None (t.null messages) s move (λ near. tt)
kept_next {P} t messages m next (Some message) s move =
    let k = t.grows messages message in
    stands_next messages m next (Some message) (t.null (messages ++ message ∷ []))
    (record {
      waits = weak_waits (P messages) (P (messages ++ message ∷ [])) k m s.waits;
      kept = weak_kept (P messages) (P (messages ++ message ∷ [])) k messages m s.kept;
    }) move (λ near. t.brings messages m next message s.kept move near)

-- what is to be asked is put anew
standing_anew : {P : Id → Type 0} {messages : List Message} (m : Machine) (hand : Hand) {queue : List Want}
    → P (class 0) → MayQueue m hand queue → Standing P messages (holds_hand m hand)
    → Standing P messages (to_ask m hand queue)
standing_anew m hand null may s = record {
  waits = λ near. let w = s.waits near in
      record { waiting = w.waiting; held = w.held; threads = w.threads; things = w.things; thrown = w.thrown };
  kept = anew_kept m hand null may s.kept;
}

pub none_yet : (P : Id → Type 0) → IsKept P [] fresh
none_yet P = record {
  once = omega arith;
  sizes = λ near. refl;
  none_late = λ near. refl;
  near = λ near. record {
    classes = record { loaded = tt; methods = tt; fields = tt; supers = tt };
    wanted = nothing_wished P;
    order = refl;
    parts = tt;
    wants = tt;
    replies = tt;
  };
}

pub always_kept : {P : List Message → Id → Type 0} → IsIdTest P → {messages : List Message} {m : Machine}
    → Run messages m → IsKept (P messages) messages m
always_kept {P} t r =
    (by_moves {Holds = λ (messages : List Message) (m : Machine). Standing (P messages) messages m} (record {
      starts = record { waits = λ near. record { waiting = tt; held = tt; threads = tt; things = tt; thrown = tt }; kept = none_yet (P []) };
      moves = λ messages m next said s move. kept_next t messages m next said s move;
      queues = λ messages m hand queue may s. standing_anew m hand (t.null messages) may s;
    }) r).kept

-- What is sent --------------------------------------------------------------------------------------------------------

deed_may : (P : Id → Type 0) (sized : Bool) (deed : Deed) → OfDeed P deed
    → (needs_sizes (Part.Sends deed) ≡ true → sized ≡ true) → MaySend P sized (an_effect (Does deed))
deed_may P sized Exit k needs = record { ids = tt; sized_first = refl; fits = λ used h. (tt, tt) }
deed_may P sized (Writes write) k needs = subst (λ (sized : Bool). MaySend P sized (an_effect (Does (Writes write))))
    (sym (needs refl)) (record {
      ids = written_ids P write k;
      sized_first = written_sized write;
      fits = λ used h. written_fits used write k.plain h;
    })
deed_may P sized _ k needs = record { ids = tt; sized_first = refl; fits = λ used h. tt }

-- a command that clears has no id of the target's objects
clear_may : (P : Id → Type 0) (sized : Bool) (wish : Wish) (request : ℕ) → MaySend P sized (an_effect
    (Clear wish request))
clear_may P sized wish request = record { ids = tt; sized_first = refl; fits = λ used h. (tt, (tt, tt)) }

effect_may : (P : Id → Type 0) (w : Wishes) (effect : Effect) → P (class 0) → AreWished P w.wanted
    → effect_due w ≡ Some effect
    → MaySend P true (an_effect effect)
unfolding next_change
effect_may P w effect null h due =
    by_found (find (is_surplus (wished w.wanted)) w.installed)
    (find (is_missing w.installed w.refused) (wished w.wanted)) due
    (find_some (SetMay P) (is_missing w.installed w.refused) (wished w.wanted) (wished_may P w.wanted null h))
  where
    by_found : (cleared : Option EventRequest) (set : Option Wish)
        → option_map effect_of (option_or (option_map clears cleared) (option_map sets set)) ≡ Some effect
        → OnSome (SetMay P) set → MaySend P true (an_effect effect)
    by_found (Some one) set due h = let same : Clear one.wish one.request ≡ effect = cc in
        subst (λ (effect : Effect). MaySend P true (an_effect effect)) same (clear_may P true one.wish one.request)
    by_found None (Some wish) due h = let same : Set wish ≡ effect = cc in
        subst (λ (effect : Effect). MaySend P true (an_effect effect)) same h
    by_found None None due h = cc

question_may : (P : Id → Type 0) (sized : Bool) (question : Question) → IsAskable P sized question
    → MaySend P sized (a_question question)
question_may P sized question q = record {
  ids = q.ids;
  sized_first = by_sized sized q.first;
  fits = λ used h. plain_fits used (thread_in (told_question question)) (told_question question) q.plain h;
}
  where
    by_sized : (sized : Bool) → is_sizes question ≡ not sized
        → cond (is_empty (ids_asked (commands.Question question))) true sized ≡ true
    by_sized true first = always (is_empty (ids_asked (commands.Question question)))
    by_sized false first = subst (λ (q : Question). cond (is_empty (ids_asked (commands.Question q))) true false ≡ true)
        (sym (sizes_is question first)) refl

-- a command that is sent may be sent, and the target isn't gone
pub sends_may : {P : Id → Type 0} {messages : List Message} {m next : Machine} (command : TargetCommand)
    → P (class 0) → IsKept P messages m
    → Moves m (Some (Message.sends command)) next → (is_gone m.state.phase ≡ false) × MaySend P
    (is_some m.state.sizes) command
sends_may {P} {messages} {m} command null k move = by_move command (Some (Message.sends command)) refl move
  where
    by_move : {next : Machine} (command : TargetCommand) (said : Option Message) → said ≡ Some (Message.sends command)
        → Moves m said next → (is_gone m.state.phase ≡ false) × MaySend P (is_some m.state.sizes) command
    by_move command said is (Moves.sends {rest = rest} {deed = deed} free at near) =
        let same : an_effect (Does deed) ≡ command = cc in
        let n = (at_front k at).near near in (
          near,
          subst (λ command. MaySend P (is_some m.state.sizes) command) same (deed_may P
              (is_some m.state.sizes) deed n.parts.0 (λ needs. sized_by (is_some m.state.sizes)
              (is_attached m.state.phase) (Part.Sends deed) rest n.order refl needs)),
        )
    by_move command said is (Moves.updates {effect = effect} {rest} free at due near) =
        let same : an_effect effect ≡ command = cc in
        let n = (at_front k at).near near in
        let sized : is_some m.state.sizes ≡ true =
        sized_by (is_some m.state.sizes) (is_attached m.state.phase) Part.Updates rest n.order refl refl in (
          near,
          subst (λ command. MaySend P (is_some m.state.sizes) command) same
              (subst (λ sized. MaySend P sized (an_effect effect)) (sym sized)
              (effect_may P m.state.wishes effect null n.wanted due)),
        )
    by_move command said is (Moves.asks {want = want} {wants} free room held are) =
        let same : a_question (question_of want) ≡ command = cc in
        let near = queued_near m free in
        let queue = subst (λ wants. All (IsWanted P (is_some m.state.sizes)) wants) (ap queue_in held ∙ are)
        (k.near near).wants in (
          near,
          subst (λ command. MaySend P (is_some m.state.sizes) command) same
              (question_may P (is_some m.state.sizes) (question_of want) queue.0),
        )
    by_move command said is (Moves.loses late near Loses.by_end) = cc
    by_move command said is (Moves.loses late near (Loses.by_question held waits reply last)) = cc
    by_move command said is (Moves.loses late near (Loses.by_effect held flying reply last)) = cc
    by_move command said is _ = cc

-- one among these and one more is that one, or among these
pub last_or_not : {A : Type 0} (all : List A) (last one : A) (before after : List A)
    → all ++ last ∷ [] ≡ before ++ one ∷ after
    → ((all ≡ before) × (last ≡ one)) ⊎ ((rest : List A) × (all ≡ before ++ one ∷ rest))
last_or_not [] last one [] after is = inl (refl, cc)
last_or_not [] last one (first ∷ []) after is = cc
last_or_not [] last one (first ∷ second ∷ before) after is = cc
last_or_not {A} (first ∷ all) last one [] after is =
    let same : first ≡ one = cc in inr (all, ap (λ (m : A). m ∷ all) same)
last_or_not {A} (first ∷ all) last one (other ∷ before) after is =
    let same : first ≡ other = cc in
    let rest_is : all ++ last ∷ [] ≡ before ++ one ∷ after = cc in
    behind same (last_or_not all last one before after rest_is)
  where
    behind : first ≡ other → ((all ≡ before) × (last ≡ one)) ⊎ ((rest : List A) × (all ≡ before ++ one ∷ rest))
        → ((first ∷ all ≡ other ∷ before) × (last ≡ one))
        ⊎ ((rest : List A) × (first ∷ all ≡ other ∷ (before ++ one ∷ rest)))
    behind same (inl (all_same, it)) = inl (cc, it)
    behind same (inr (rest, all_more)) = inr (rest, cc)

-- what holds of each command as it is sent, by the messages before it
pub record Sends (P : List Message → Id → Type 0) (Good : List Message → TargetCommand → Type 0)
    (messages : List Message)
    (m : Machine) : Type 0 where
  pub stands : Standing (P messages) messages m
  pub sent : (before after : List Message) (command : TargetCommand)
      → messages ≡ before ++ Message.sends command ∷ after → Good before command

pub all_sent : {P : List Message → Id → Type 0} {Good : List Message → TargetCommand → Type 0} → IsIdTest P
    → ((messages : List Message) (m : Machine) (command : TargetCommand) → IsKept (P messages) messages m
    → is_gone m.state.phase ≡ false → MaySend (P messages) (is_some m.state.sizes) command → Good messages command)
    → {messages : List Message} {m : Machine} → Run messages m → Sends P Good messages m
all_sent {P} {Good} t good r = by_moves {Holds = Sends P Good} (record {
  starts = record {
    stands = record {
      waits = λ near. record { waiting = tt; held = tt; threads = tt; things = tt; thrown = tt };
      kept = none_yet (P []);
    };
    sent = none_sent;
  };
  moves = λ messages m next said h move. record {
    stands = kept_next t messages m next said h.stands move;
    sent = more messages m next said h move;
  };
  queues = λ messages m hand queue may h.
      record { stands = standing_anew m hand (t.null messages) may h.stands; sent = h.sent };
}) r
  where
    none_sent : (before after : List Message) (command : TargetCommand)
        → [] ≡ before ++ Message.sends command ∷ after → Good before command
    none_sent [] after command is = cc
    none_sent (first ∷ before) after command is = cc

    more : (messages : List Message) (m next : Machine) (said : Option Message) → Sends P Good messages m
        → Moves m said next → (before after : List Message) (command : TargetCommand)
        → with_said messages said ≡ before ++ Message.sends command ∷ after → Good before command
    more messages m next None h move before after command is = h.sent before after command is
    more messages m next (Some message) h move before after command is =
        by_place (last_or_not messages message (Message.sends command) before after is)
      where
        by_place : ((messages ≡ before) × (message ≡ Message.sends command))
            ⊎ ((rest : List Message) × (messages ≡ before ++ Message.sends command ∷ rest)) → Good before command
        by_place (inl (same, it)) = subst (λ (earlier : List Message). Good earlier command) same
            (let may = sends_may command (t.null messages) h.stands.kept (subst (λ (message : Message). Moves m (Some message) next) it move) in
            good messages m command h.stands.kept may.0 may.1)
        by_place (inr (rest, earlier)) = h.sent before rest command earlier

-- Ids were read -------------------------------------------------------------------------------------------------------

-- the id is null, or was read at any time
abbrev pub WasReadOnce : List Message → Id → Type 0
WasReadOnce messages id = IsNull id ⊎ Contains (ids_read messages) id

reads : IsIdTest WasReadOnce
reads = record {
  null = λ messages. inl IsNull.any_class;
  grows = λ messages message id h. by_case messages message id h;
  brings = λ messages m next message k move near. brought messages message;
}
  where
    more : (messages : List Message) (message : Message)
        → ids_read (messages ++ message ∷ []) ≡ ids_read messages ++ ids_given message
    more messages message = flat_map-append ids_given messages (message ∷ [])
        ∙ ap (λ (ids : List Id). ids_read messages ++ ids) (append-nil (ids_given message))

    by_case : (messages : List Message) (message : Message) (id : Id) → WasReadOnce messages id
        → WasReadOnce (messages ++ message ∷ []) id
    by_case messages message id (inl null) = inl null
    by_case messages message id (inr among) = inr (subst (λ (ids : List Id). Contains ids id) (sym
        (more messages message))
        (Contains-append_left (ids_read messages) (ids_given message) id among))

    brought : (messages : List Message) (message : Message) → All (WasReadOnce (messages ++ message ∷ []))
        (ids_given message)
    brought messages message = all_weak (Contains (ids_given message)) (WasReadOnce (messages ++ message ∷ []))
        (λ id among. inr (subst (λ (ids : List Id). Contains ids id) (sym (more messages message))
        (Contains-append_right (ids_read messages) (ids_given message) id among))) (ids_given message)
        (recursion_from_All (Contains (ids_given message)) (ids_given message)
        (λ place id less. Contains-get_or (ids_given message) place id less))

pub ids_were_read : (messages before after : List Message) (m : Machine) (command : TargetCommand) → Run messages m
    → messages ≡ before ++ Message.sends command ∷ after → All (WasReadOnce before) (ids_asked (wire command))
ids_were_read messages before after m command r is =
    (all_sent {Good = λ before command. All (WasReadOnce before) (ids_asked (wire command))} reads
    (λ messages m command k near may. may.ids) r).sent before after command is
