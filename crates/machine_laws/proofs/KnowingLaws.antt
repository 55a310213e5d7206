-- What is known is what the messages say.
use Rattle.std.proofs.Common.{◌≡◌, ℕ, Bool, true, false, cond, not, List, [], ◌∷◌, ◌++◌, length, Option, Some, None}
use Rattle.std.proofs.Common.{refl, sym, ap, subst, ◌∙◌, append-nil, arith, option_map}
use Rattle.std.proofs.lemmas.Grind.{flat_map-append}
use Rattle.jdwp_commands.specs.declared.question.Question.TheVariants as questions
use Rattle.machine_model.specs.Knowing.{AreInOrder, AreSaid, IsKnown, View, breakpoints_in, class_said, closes}
use Rattle.machine_model.specs.Knowing.{come_view, composite_in, dies, gone_view, has_last, held_in, held_with}
use Rattle.machine_model.specs.Knowing.{is_farewell, is_fresh, learnt_view, may_be, may_tell, newly_said, numbers_by}
use Rattle.machine_model.specs.Knowing.{numbers_in_event, numbers_in_outcome, owed_by, owed_in, replied_view, says}
use Rattle.machine_model.specs.Knowing.{says_dead, sizes_said, thread_numbers, told_view, turned_view, view_of}
use Rattle.machine_model.specs.Knowing.{waiting_composites, watch_set, with_facts}
use Rattle.jdwp_commands.specs.Answers.{kind_of_answer}
use Rattle.jdwp_commands.specs.Commands.{kind_of}
use Rattle.machine_model.specs.Replying.{IsReply, ended_with, hand_replied, is_end, replied_to, sizes_in, unlisted_by}
use Rattle.machine_model.specs.Replying.{knows_fact, learnt, still_unlisted, wire}
use Rattle.machine_model.specs.Rows.{chosen, end_parts, noted, request_parts}
use Rattle.machine_model.specs.Runs.{Message, Run, is_disconnect}
use Rattle.machine_model.specs.State.{Hand, Machine, SizesRead, State, is_gone, knowing, left}
use Rattle.machine_model.specs.Telling.{after_event, attached_from, event_told, numbered_by, outcome_told}
use Rattle.machine_model.specs.Classes.{classes_in, with_listed}
use Rattle.machine_model.specs.Plans.{answer_in}
use Rattle.machine_steps.specs.Names.{Answer, Attached, Command, Composite, Effect, EntryHeld, Event, Fresh, Gone}
use Rattle.machine_steps.specs.Names.{Logged}
use Rattle.machine_steps.specs.Names.{Initialized, Item, NamedThread, Note, Options, Outcome, Part, Phase, Question}
use Rattle.machine_steps.specs.Names.{Replied, Success, TargetCommand, Terminated, ThreadId, a_composite, a_question}
use Rattle.machine_steps.specs.Names.{a_raw, a_request, a_stop, an_answer, an_effect, an_event, some_news, target_end}
use Rattle.machine_steps.specs.Names.{thread_changed, thread_list, entry_verified}
use Rattle.machine_laws.proofs.BindingFacts.{is_mapped}
use Rattle.machine_laws.proofs.MarkLaws.{IsMarked, marked_at, marked_on, marks, over_gone, plain_last}
use Rattle.machine_laws.proofs.NumberLaws.{are_distinct, distinct_with, in_order_with, numbered_once}
use Rattle.machine_steps.proofs.TurnLaws.{NoneLate, unsent}
use Rattle.machine_steps.proofs.QuietLaws.{IsKept, IsQuiet, is_end_item, kept_end, kept_on, near_flies, near_waits}
use Rattle.machine_steps.proofs.QuietLaws.{picked_end, quiet_on}
use Rattle.machine_steps.proofs.RestLaws.{late_gone, near_asks, no_late}
use Rattle.machine_steps.proofs.Stepping.{IsAt, Loses, Moves, by_runs, with_said}
use Rattle.machine_steps.proofs.Testing.{Passed, tested, whole}
use Rattle.class_tables.specs.Facts.{Fact, Known, same_class, same_method, with_fact}
use Rattle.class_tables.specs.Tables.{under}
use Rattle.jdwp_commands.specs.declared.listed.LoadedClass.{LoadedClass}
use Rattle.jdwp_events.specs.declared.kind.Policy.{Policy}
use Rattle.machine_model.specs.Breakpoints.{with_told}
use Rattle.machine_model.specs.Composites.{has_death, prepared_in}
use Rattle.machine_model.specs.Due.{begun}
use Rattle.machine_model.specs.Outcomes.{result_of}
use Rattle.machine_laws.proofs.EarlyItems.{IsEarly, always_early, not_fresh}
use Rattle.machine_steps.proofs.HeldLaws.{asked_last, asked_owes, chosen_owes, composite_last, composite_owes, deed_may}
use Rattle.machine_steps.proofs.HeldLaws.{deed_view_is, dies_front, due_sends, end_owes, entry_held, found_owes}
use Rattle.machine_steps.proofs.HeldLaws.{free_owes, given_owes, gone_owed, held_as, held_front, replied_last}
use Rattle.machine_steps.proofs.HeldLaws.{replied_owes, row_last, row_owes, skipped_last, skipped_owes, stop_held}
use Rattle.machine_laws.proofs.ItemLaws.{IsInOrder, in_order, ordered_on, picked_composites, read_composites}
use Rattle.machine_laws.proofs.ItemLaws.{waits_in_order}
use Rattle.machine_steps.proofs.ServedLaws.{one_more}
use Rattle.machine_steps.proofs.Tables.{chosen_is, finished_is, free, free_once}
use Rattle.std.specs.List.{flat_map}
use Rattle.std.specs.Prelude.{fold, map, ◌+◌}
use Rattle.suspend_ledger.specs.Suspensions.{suspensions_by}
use Rattle.machine_model.specs.Lookups.{finished}
use Rattle.machine_model.proofs.Bools.{never, other_fails}
use Rattle.machine_steps.proofs.HoldingParts.{IsHolding, IsLost, holding, lost_flags, lost_held, numbered_entry}
use Rattle.machine_steps.proofs.HoldingParts.{numbered_stop, same_entry, same_stop}
use Rattle.machine_steps.proofs.ThreadIds.{replied_threads}
use Rattle.machine_steps.proofs.HeldLaws.{logged_held}

-- Replies -------------------------------------------------------------------------------------------------------------

-- a reply shows the target's end so
same_end : (command : TargetCommand) (replied : Replied)
    → cond (is_farewell command) false (says_dead replied) ≡ is_end command replied
same_end command replied = grind arith

-- the reply to IDSizes that is kept says sizes
sizes_are : (sizes before : Option SizesRead) (replied : Replied) → IsReply sizes (a_question questions.IdSizes) replied
    → is_end (a_question questions.IdSizes) replied ≡ false → sizes_in replied ≡ sizes_said replied before
sizes_are sizes before replied (IsReply.with_answer {answer} used serves is good) here = of_answer answer is.row
  where
    of_answer : (answer : Answer) → kind_of_answer answer ≡ kind_of (wire (a_question questions.IdSizes))
        → sizes_in (an_answer answer) ≡ sizes_said (an_answer answer) before
    of_answer answer row = grind (arith, row)
sizes_are sizes before replied (IsReply.with_error {code} some tolerated) here =
    let no : false ≡ true = sym here ∙ tolerated in cc

-- the classes of a list are learnt one by one
listed_is : (known : Known) (classes : List LoadedClass)
    → fold with_listed known classes ≡ with_facts (map class_said classes) known
listed_is known [] = refl
listed_is known (class ∷ classes) = listed_is (with_listed known class) classes

-- of a fact the first reply is learnt
facts_are : (question : Question) (heard : Option Answer) (known : Known)
    → learnt question heard known ≡ with_facts (newly_said question heard known) known
facts_are question heard known = by_question question
  where
    once : (knows said : Bool) → knows ≡ said → (fact : Fact)
        → cond knows known (with_fact fact known) ≡ with_facts (cond said [] (fact ∷ [])) known
    once knows said same fact = grind (arith, same)

    either : (knows : Bool) → cond knows known known ≡ known
    either knows = grind arith

    by_question : (question : Question)
        → learnt question heard known ≡ with_facts (newly_said question heard known) known
    by_question questions.AllClasses = listed_is known (classes_in heard)
    by_question (questions.Signature c) = either (knows_fact (questions.Signature c) known)
    by_question (questions.SourceFile c) = once _ _ (is_mapped _ (under same_class c known.sources)) _
    by_question (questions.Methods c) = once _ _ (is_mapped _ (under same_class c known.methods)) _
    by_question (questions.Fields c) = once _ _ (is_mapped _ (under same_class c known.fields)) _
    by_question (questions.Superclass c) = once _ _ (is_mapped _ (under same_class c known.supers)) _
    by_question (questions.LineTable c m) = once _ _ (is_mapped _ (under same_method (c, m) known.lines)) _
    by_question (questions.VariableTable c m) = once _ _ (is_mapped _ (under same_method (c, m) known.variables)) _
    by_question _ = refl

-- what a question's reply makes known
learnt_is : (m : Machine) (question : Question) (replied : Replied)
    → IsReply m.state.sizes (a_question question) replied
    → is_end (a_question question) replied ≡ false
    → record (view_of (record m { state = replied_to (a_question question) replied m.state })) {
      held = held_in m.state m.hand;
    } ≡ learnt_view (a_question question) replied (view_of m)
learnt_is m questions.IdSizes replied reply here =
    ap (λ (sizes : Option SizesRead). record (view_of m) { sizes = sizes })
    (sizes_are m.state.sizes m.state.sizes replied reply here)
learnt_is m question replied reply here =
    ap (λ (known : Known). record (view_of m) { classes = known; unlisted = still_unlisted question m.state.unlisted })
    (facts_are question (answer_in replied) m.state.classes)

-- and what an effect's does
watch_is : (effect : Effect) (replied : Replied) (unlisted : Bool)
    → unlisted_by effect replied unlisted ≡ watch_set effect replied unlisted
watch_is effect replied unlisted = grind arith

-- The view ------------------------------------------------------------------------------------------------------------

abbrev pub says_so : Option Message → View → View
says_so None view = view
says_so (Some message) view = says message view

response_view : (outcome : Outcome) (m : Machine)
    → record (view_of (record m { state = numbered_by outcome m.state })) { held = held_in m.state m.hand }
    ≡ record (view_of m) { bound = with_told m.state.bound (breakpoints_in (outcome_told outcome m.state)) }
response_view outcome m = grind arith

-- a note is made: what is held as the entry was held for the composite in hand
note_view : (m next : Machine) (hand : Hand) (note : Note) (rest : List Part) → IsHolding m
    → IsAt m hand (Part.Notes note) rest
    → view_of (left (knowing m (noted note m.state)) hand rest) ≡ view_of m
note_view m next hand EntryHeld rest h at = held_as m (left (knowing m (noted EntryHeld m.state)) hand rest)
    (entry_held h at) (sym (dies_front at)) refl
note_view m next hand note rest h at =
    held_as m (left (knowing m (noted note m.state)) hand rest) (sym (held_front at)) (sym (dies_front at)) refl

not_gone : (gone other : Bool) → cond (cond gone false true) other false ≡ true → not gone ≡ true
not_gone gone other is = grind (arith, is)

-- where an event is told, it may be
event_may : (m : Machine) (hand : Hand) (event : Event) (rest : List Part) → Passed free_once m → IsMarked m
    → IsHolding m → IsAt m hand (Part.Tells event) rest
    → may_tell (an_event (event_told event (after_event event m.state))) (view_of m) ≡ true
event_may m hand (some_news (entry_verified entry)) rest f h w at =
    not_gone (is_gone m.state.phase) _ (whole free_once f at)
event_may m hand (some_news (thread_changed started thread)) rest f h w at =
    not_gone (is_gone m.state.phase) _ (whole free_once f at)
event_may m hand (a_stop stopping) rest f h w at =
    by_gone (is_gone m.state.phase) _ _ (whole free_once f at) (stop_held w at).1
  where
    by_gone : (gone held other : Bool) → cond (cond gone false true) other false ≡ true → held ≡ true
        → cond gone false held ≡ true
    by_gone gone held other is some = grind (arith, is, some)
event_may m hand (Logged text) rest f h w at =
    by_gone (is_gone m.state.phase) _ _ (whole free_once f at) (logged_held w at)
  where
    by_gone : (gone held other : Bool) → cond (cond gone false true) other false ≡ true → held ≡ true
        → cond gone false held ≡ true
    by_gone gone held other is some = grind (arith, is, some)
event_may m hand Initialized rest f h w at =
    fresh_by (over_gone m.state.phase m.state.terminated) (is_fresh m.state.phase) _
    (marked_at m hand (Part.Tells Initialized) rest h at)
  where
    fresh_by : (over fresh other : Bool) → cond over (cond fresh other false) false ≡ true → fresh ≡ true
    fresh_by over fresh other is = grind (arith, is)
event_may m hand Terminated rest f h w at =
    by_gone (is_gone m.state.phase) (dies m.hand) m.state.terminated (dies_front at)
    (over_by (over_gone m.state.phase m.state.terminated) _ (not m.state.terminated)
    (marked_at m hand (Part.Tells Terminated) rest h at))
  where
    over_by : (over first last : Bool) → cond over (cond first last false) false ≡ true → last ≡ true
    over_by over first last is = grind (arith, is)

    by_gone : (gone dying told : Bool) → dying ≡ true → not told ≡ true
        → cond gone (not told) (cond (cond gone false dying) (not told) false) ≡ true
    by_gone gone dying told is untold = grind (arith, is, untold)

fresh_now : (phase : Phase) → is_fresh phase ≡ true → phase ≡ Fresh
fresh_now phase is = grind (arith, is)

attached_now : (phase : Phase) → is_fresh phase ≡ true → attached_from phase ≡ Attached
attached_now phase is = grind (arith, is)

-- what an event makes of what is known, as it says
event_view_is : (m : Machine) (hand : Hand) (event : Event) (rest : List Part) → Passed free_once m → IsMarked m
    → IsHolding m → IsAt m hand (Part.Tells event) rest
    → view_of (left (knowing m (after_event event m.state)) hand rest)
    ≡ told_view (an_event (event_told event (after_event event m.state))) (view_of m)
event_view_is m hand Initialized rest f h w at =
    let fresh = event_may m hand Initialized rest f h w at in
    held_as m (left (knowing m (after_event Initialized m.state)) hand rest) (sym (held_front at)) (sym (dies_front at))
    (ap (λ (phase : Phase). record (view_of m) {
      phase = phase;
      composites = waiting_composites (is_gone phase) m.waiting;
      dying = cond (is_gone phase) false (dies m.hand);
    }) (attached_now m.state.phase fresh)
    ∙ sym (ap (λ (phase : Phase). record (view_of m) {
      phase = Attached;
      composites = waiting_composites (is_gone phase) m.waiting;
      dying = cond (is_gone phase) false (dies m.hand);
    }) (fresh_now m.state.phase fresh)))
event_view_is m hand (some_news (entry_verified entry)) rest f h w at =
    held_as m (left (knowing m (after_event (some_news (entry_verified entry)) m.state)) hand rest)
    (sym (held_front at)) (sym (dies_front at)) refl
event_view_is m hand (some_news (thread_changed started thread)) rest f h w at =
    held_as m (left (knowing m (after_event (some_news (thread_changed started thread)) m.state)) hand rest)
    (sym (held_front at)) (sym (dies_front at)) refl
event_view_is m hand (a_stop stopping) rest f h w at =
    held_as m (left (knowing m (after_event (a_stop stopping) m.state)) hand rest) (stop_held w at).0
    (sym (dies_front at)) refl
event_view_is m hand (Logged text) rest f h w at =
    held_as m (left (knowing m (after_event (Logged text) m.state)) hand rest)
    (sym (held_front at)) (sym (dies_front at)) refl
event_view_is m hand Terminated rest f h w at =
    ap (λ (owed : ℕ). record (gone_view (view_of m)) { held = held_with false false owed; terminated = true })
    (free_owes false rest (tail (is_gone m.state.phase) (free_once true rest) (whole free_once f at)))
  where
    tail : (gone others : Bool) → cond (cond gone true true) others false ≡ true → others ≡ true
    tail gone others is = grind (arith, is)

gone_is : (phase : Phase) → is_gone phase ≡ true → phase ≡ Gone
gone_is phase is = grind (arith, is)

-- a reply that tells something
replied_is : (m : Machine) (command : TargetCommand) (replied : Replied) (now : View) → is_gone m.state.phase ≡ false
    → is_end command replied ≡ false → now ≡ learnt_view command replied (view_of m)
    → now ≡ says (Message.answers command replied) (view_of m)
replied_is m command replied now near here is =
    is ∙ sym (ap (λ (gone : Bool). replied_view gone (cond (is_farewell command) false (says_dead replied)) command
    replied (view_of m)) near
    ∙ ap (λ (last : Bool). replied_view false last command replied (view_of m)) (same_end command replied ∙ here))

-- a reply that shows the target's end
ended_is : (m : Machine) (command : TargetCommand) (replied : Replied) → is_gone m.state.phase ≡ false
    → is_end command replied ≡ true
    → gone_view (view_of m) ≡ says (Message.answers command replied) (view_of m)
ended_is m command replied near last =
    sym (ap (λ (gone : Bool). replied_view gone (cond (is_farewell command) false (says_dead replied)) command
    replied (view_of m)) near
    ∙ ap (λ (ended : Bool). replied_view false ended command replied (view_of m)) (same_end command replied ∙ last))

same_closes : (command : Command) → is_disconnect command ≡ closes command
same_closes command = grind arith

-- the target's end: nothing is held any more
lost_seen : (m : Machine) (late : List TargetCommand) → view_of (ended_with late m) ≡ gone_view (view_of m)
lost_seen m late = ap (λ (owed : ℕ). record (gone_view (view_of m)) { held = held_with false false owed })
    (given_owes m.hand)

-- a target that is gone doesn't end again
ended_seen : (m : Machine) → is_gone m.state.phase ≡ true → Passed free_once m → IsLost m → view_of m ≡ gone_view (view_of m)
ended_seen m gone f l =
    let lost = lost_flags m l gone in
    ap (λ (phase : Phase). record (view_of m) {
      phase = phase;
      composites = waiting_composites (is_gone phase) m.waiting;
      dying = cond (is_gone phase) false (dies m.hand);
    }) (gone_is m.state.phase gone)
    ∙ ap (λ (stopped : Bool). record (gone_view (view_of m)) {
      held = held_with stopped m.state.entry (owed_by stopped m.hand);
      stopped = stopped;
    }) lost.0
    ∙ ap (λ (entry : Bool). record (gone_view (view_of m)) { held = held_with false entry (owed_by false m.hand) })
    lost.1
    ∙ ap (λ (owed : ℕ). record (gone_view (view_of m)) { held = held_with false false owed })
    (gone_owed (is_gone m.state.phase) false m.hand gone f)

-- how a move changes what is known: as its message says; or a composite is at its turn
pub data Sees (m next : Machine) : Option Message → Type 0 where
  as_said : {said : Option Message} → view_of next ≡ says_so said (view_of m) → Sees m next said
  at_turn : (composite : Composite) (others : List Composite) → m.hand ≡ None → m.state.phase ≡ Attached
      → (view_of m).composites ≡ composite ∷ others → view_of next ≡ turned_view composite others (view_of m) → Sees m next None

-- Turns ---------------------------------------------------------------------------------------------------------------

-- an item is at its turn
begun_seen : (m : Machine) (item : Item) (rest : List Item) → m.hand ≡ None
    → ((at : ℕ) (composite : Composite) → item ≡ a_composite at composite → is_fresh m.state.phase ≡ false)
    → (is_end_item item ≡ true → is_gone m.state.phase ≡ true)
    → flat_map composite_in m.waiting ≡ composite_in item ++ flat_map composite_in rest
    → Sees m (begun m item rest) None
begun_seen m item rest none late ends are = by_item item late ends are
  where
    none_held : held_in m.state m.hand ≡ held_with m.state.stopped m.state.entry 0
    none_held = ap (held_in m.state) none

    none_dies : dies m.hand ≡ false
    none_dies = ap dies none

    passed : (now : List Composite) → flat_map composite_in m.waiting ≡ now
        → record (view_of m) { composites = cond (is_gone m.state.phase) [] now } ≡ view_of m
    passed now are = by_gone (is_gone m.state.phase)
      where
        by_gone : (gone : Bool) → record (view_of m) { composites = cond gone [] now }
            ≡ record (view_of m) { composites = waiting_composites gone m.waiting }
        by_gone true = refl
        by_gone false = ap (λ (all : List Composite). record (view_of m) { composites = all }) (sym are)

    waits : (gone : Bool) → waiting_composites gone rest ≡ cond gone [] (flat_map composite_in rest)
    waits gone = grind arith

    others : (parts : List Part) → owed_in m.state.stopped parts ≡ 0
        → cond (is_gone m.state.phase) false (has_last parts) ≡ false
        → flat_map composite_in m.waiting ≡ flat_map composite_in rest
        → record (view_of m) {
          composites = waiting_composites (is_gone m.state.phase) rest;
          held = held_with m.state.stopped m.state.entry (owed_in m.state.stopped parts);
          dying = cond (is_gone m.state.phase) false (has_last parts);
        } ≡ view_of m
    others parts owes lasts are = ap (λ (held : ℕ). record (view_of m) {
      composites = waiting_composites (is_gone m.state.phase) rest;
      held = held;
      dying = cond (is_gone m.state.phase) false (has_last parts);
    }) (ap (held_with m.state.stopped m.state.entry) owes ∙ sym none_held)
        ∙ ap (λ (dying : Bool). record (view_of m) {
          composites = waiting_composites (is_gone m.state.phase) rest;
          dying = dying;
        }) (lasts ∙ sym (still (is_gone m.state.phase) (dies m.hand) none_dies))
        ∙ ap (λ (all : List Composite). record (view_of m) { composites = all }) (waits (is_gone m.state.phase))
        ∙ passed (flat_map composite_in rest) are
      where
        still : (gone dying : Bool) → dying ≡ false → cond gone false dying ≡ false
        still gone dying is = grind (arith, is)

    holds : (dead : Bool) (policy : Policy) (held owed : ℕ) → held ≡ held_with m.state.stopped m.state.entry 0
        → owed ≡ cond dead 0 (0 + suspensions_by policy)
        → held_with m.state.stopped m.state.entry owed ≡ cond dead held (held + suspensions_by policy)
    holds true policy held owed is owes = ap (held_with m.state.stopped m.state.entry) owes ∙ sym is
    holds false policy held owed is owes = omega (arith, is, owes)

    by_phase : (at : ℕ) (composite : Composite) (phase : Phase) → m.state.phase ≡ phase → is_fresh phase ≡ false
        → flat_map composite_in m.waiting ≡ composite ∷ flat_map composite_in rest
        → Sees m (begun m (a_composite at composite) rest) None
    by_phase at composite Fresh is late are = cc
    by_phase at composite Attached is late are =
        Sees.at_turn composite (flat_map composite_in rest) none is (rw is are)
        (rw (
          is,
          holds (has_death composite.events) composite.policy (held_in m.state m.hand) _ none_held
              (composite_owes m.state.stopped (has_death composite.events) composite.policy at m.state.next_entry),
          composite_last (has_death composite.events) composite.policy at m.state.next_entry,
          listed_is m.state.classes (prepared_in composite),
        ) refl)
    by_phase at composite Gone is late are = Sees.as_said (rw (is, none_held) refl)

    by_item : (item : Item)
        → ((at : ℕ) (composite : Composite) → item ≡ a_composite at composite → is_fresh m.state.phase ≡ false)
        → (is_end_item item ≡ true → is_gone m.state.phase ≡ true)
        → flat_map composite_in m.waiting ≡ composite_in item ++ flat_map composite_in rest
        → Sees m (begun m item rest) None
    by_item (a_request request) late ends are = Sees.as_said
        (others (request_parts request.command m.state) (row_owes m.state request.command)
        (rw (row_last m.state request.command) (never (is_gone m.state.phase))) are)
    by_item (a_composite at composite) late ends are =
        by_phase at composite m.state.phase refl (late at composite refl) are
    by_item (a_raw at body) late ends are = Sees.as_said (others [] refl (never (is_gone m.state.phase)) are)
    by_item target_end late ends are = Sees.as_said
        (others (end_parts m.state.terminated) (end_owes m.state.stopped m.state.terminated) (rw (ends refl) refl) are)

-- one that is no composite came
came_seen : (m : Machine) (item : Item) → composite_in item ≡ []
    → waiting_composites (is_gone m.state.phase) (m.waiting ++ item ∷ [])
    ≡ waiting_composites (is_gone m.state.phase) m.waiting
came_seen m item none = by_gone (is_gone m.state.phase)
  where
    by_gone : (gone : Bool) → waiting_composites gone (m.waiting ++ item ∷ []) ≡ waiting_composites gone m.waiting
    by_gone true = refl
    by_gone false = one_more composite_in m.waiting item
        ∙ ap (λ (more : List Composite). flat_map composite_in m.waiting ++ more) none
        ∙ append-nil (flat_map composite_in m.waiting)

composite_seen : (m : Machine) (composite : Composite) (now : List Item)
    → (is_gone m.state.phase ≡ false → flat_map composite_in now ≡ flat_map composite_in m.waiting ++ composite ∷ [])
    → view_of (record m { waiting = now }) ≡ come_view (is_gone m.state.phase) composite (view_of m)
composite_seen m composite now more = by_gone (is_gone m.state.phase) more
  where
    by_gone : (gone : Bool)
        → (gone ≡ false → flat_map composite_in now ≡ flat_map composite_in m.waiting ++ composite ∷ [])
        → record (view_of m) { composites = waiting_composites gone now }
        ≡ come_view gone composite (record (view_of m) { composites = waiting_composites gone m.waiting })
    by_gone true more = refl
    by_gone false more = ap (λ (all : List Composite). record (view_of m) { composites = all }) (more refl)

responded_held : (outcome : Outcome) (state : State) (rest : List Part)
    → held_with (numbered_by outcome state).stopped (numbered_by outcome state).entry
    (owed_in (numbered_by outcome state).stopped rest)
    ≡ held_with state.stopped state.entry (owed_in state.stopped rest)
responded_held outcome state rest = rw (numbered_stop outcome state, numbered_entry outcome state) refl

replied_held : (m : Machine) (command : TargetCommand) (replied : Replied)
    → held_in (replied_to command replied m.state) (option_map (hand_replied command replied) m.hand)
    ≡ held_in m.state m.hand
replied_held m command replied = rw (same_stop command replied m.state, same_entry command replied m.state)
    (ap (held_with m.state.stopped m.state.entry) (replied_owes m.state.stopped command replied m.hand))

view_on : (m next : Machine) (said : Option Message) → IsQuiet m → IsKept m → NoneLate m → Passed free_once m
    → IsInOrder m → IsEarly m → IsMarked m → IsHolding m → IsLost m → Moves m said next → Sees m next said
view_on m next said q n k f o e h w l (Moves.begins picked free none is) =
    begun_seen m picked.item picked.rest none (λ at composite item. not_fresh m picked at composite e none is item)
    (λ end. kept_end m n (picked_end (is_gone m.state.phase) m.waiting picked is ∙ rw end refl))
    (picked_composites (is_gone m.state.phase) m.waiting picked is)
view_on m next said q n k f o e h w l (Moves.drops free is none) =
    Sees.as_said (held_as m next (sym (ap (held_in m.state) is
    ∙ ap (λ (parts : List Part). held_with m.state.stopped m.state.entry (owed_in m.state.stopped parts)) none))
    (sym (ap dies is ∙ ap has_last none)) refl)
view_on m next said q n k f o e h w l (Moves.responds {rest = rest} {outcome = outcome} free at is) =
    Sees.as_said (held_as m next (responded_held outcome m.state rest ∙ sym (held_front at)) (sym (dies_front at))
    (response_view outcome m))
view_on m next said q n k f o e h w l (Moves.finds {rest = rest} {lookup} found free at needs done) =
    Sees.as_said (held_as m next
    (ap (held_with m.state.stopped m.state.entry) (found_owes m.state.stopped lookup (result_of found) m.state rest)
    ∙ sym (held_front at))
    (plain_last (finished lookup (result_of found) m.state) rest (finished_is lookup (result_of found) m.state).plain
    ∙ sym (dies_front at)) refl)
view_on m next said q n k f o e h w l (Moves.passes_over {rest = rest} free at why) =
    Sees.as_said (held_as m next
    (ap (held_with m.state.stopped m.state.entry) (skipped_owes m.state.stopped rest why) ∙ sym (held_front at))
    (skipped_last rest why ∙ sym (dies_front at)) refl)
view_on m next said q n k f o e h w l (Moves.tells {hand} {rest} {event} free at) =
    Sees.as_said (event_view_is m hand event rest f h w at)
view_on m next said q n k f o e h w l (Moves.sends {hand} {rest} {deed} free at near) =
    Sees.as_said (deed_view_is m hand deed rest w at)
view_on m next said q n k f o e h w l (Moves.updates {effect = effect} free at is near) =
    Sees.as_said (held_as m next (sym (held_front at)) (sym (dies_front at))
    (sym (due_sends m.state.wishes effect (view_of m) is).1))
view_on m next said q n k f o e h w l (Moves.notes {hand} {note} {rest} free at) =
    Sees.as_said (note_view m next hand note rest w at)
view_on m next said q n k f o e h w l (Moves.unfolds {hand} {choice} {rest} free at) =
    Sees.as_said (held_as m next
    (ap (held_with m.state.stopped m.state.entry) (chosen_owes {choice = choice} w at) ∙ sym (held_front at))
    (plain_last (chosen choice m.state hand) rest (chosen_is choice m.state hand).plain ∙ sym (dies_front at)) refl)
view_on m next said q n k f o e h w l (Moves.queues free is) =
    Sees.as_said (held_as m next (sym (ap (held_in m.state) is)) (sym (ap dies is)) refl)
view_on m next said q n k f o e h w l (Moves.asks {want = want} free room is are) =
    Sees.as_said (held_as m next (ap (held_with m.state.stopped m.state.entry) (asked_owes m.state.stopped want m.hand))
    (asked_last want m.hand) refl)
view_on m next said q n k f o e h w l (Moves.answers {question} {replied} {hand} is waits reply stays) =
    let near = near_waits m hand question q is waits in
    let here = other_fails (is_gone m.state.phase) (is_end (a_question question) replied) near stays in
    Sees.as_said (held_as m next (replied_held m (a_question question) replied)
    (replied_last (a_question question) replied m.hand)
    (replied_is m (a_question question) replied _ near here (learnt_is m question replied reply here)))
view_on m next said q n k f o e h w l (Moves.replies {effect} {replied} {hand} is flies reply stays) =
    let near = near_flies m hand effect q is flies in
    let here = other_fails (is_gone m.state.phase) (is_end (an_effect effect) replied) near stays in
    Sees.as_said (held_as m next (replied_held m (an_effect effect) replied)
    (replied_last (an_effect effect) replied m.hand)
    (replied_is m (an_effect effect) replied _ near here
    (ap (λ (unlisted : Bool). record (view_of m) { unlisted = unlisted }) (watch_is effect replied m.state.unlisted))))
view_on m next said q n k f o e h w l (Moves.late {command} {replied} before after is reply) =
    Sees.as_said (rw (late_gone m before after command k is) refl)
view_on m next said q n k f o e h w l (Moves.ends gone) = Sees.as_said (ended_seen m gone f l)
view_on m next said q n k f o e h w l (Moves.loses late near Loses.by_end) = Sees.as_said (lost_seen m late)
view_on m next said q n k f o e h w l (Moves.loses late near (Loses.by_question {question} {replied} is waits reply last)) =
    Sees.as_said (lost_seen m late ∙ ended_is m (a_question question) replied near last)
view_on m next said q n k f o e h w l (Moves.loses late near (Loses.by_effect {effect} {replied} is flies reply last)) =
    Sees.as_said (lost_seen m late ∙ ended_is m (an_effect effect) replied near last)
view_on m next said q n k f o e h w l (Moves.hears {request} read is) =
    Sees.as_said (ap (λ (closing : Bool). record (view_of next) { closing = closing }) (same_closes request.command)
    ∙ ap (λ (all : List Composite). record (view_of m) { composites = all; closing = closes request.command })
    (came_seen m (a_request request) refl))
view_on m next said q n k f o e h w l (Moves.comes {at} {composite} read sized taken) =
    Sees.as_said (composite_seen m composite (m.waiting ++ a_composite at composite ∷ [])
    (λ near. one_more composite_in m.waiting (a_composite at composite)))
view_on m next said q n k f o e h w l (Moves.keeps {at} {body} is) =
    Sees.as_said (ap (λ (all : List Composite). record (view_of m) { composites = all })
    (came_seen m (a_raw at body) refl))
view_on m next said q n k f o e h w l (Moves.reads {at} {body} {composite} before after read is none taken) =
    Sees.as_said (composite_seen m composite (before ++ a_composite at composite ∷ after) (λ near.
    read_composites before after (a_raw at body) at composite refl none
    (subst (λ (items : List Item). in_order items ≡ true) is (waits_in_order m o near))
    ∙ ap (λ (items : List Item). flat_map composite_in items ++ composite ∷ []) (sym is)))
view_on m next said q n k f o e h w l _ = Sees.as_said refl

abbrev may_so : View → Option Message → Bool
may_so view None = true
may_so view (Some message) = may_be view message

near_sends : (gone may : Bool) → gone ≡ false → may ≡ true → cond gone false may ≡ true
near_sends gone may near is = grind (arith, near, is)

may_on : (m next : Machine) (said : Option Message) → Passed free_once m → IsMarked m → IsHolding m → Moves m said next
    → may_so (view_of m) said ≡ true
may_on m next said f h w (Moves.tells {hand} {rest} {event} free at) = event_may m hand event rest f h w at
may_on m next said f h w (Moves.sends {hand} {rest} {deed} free at near) =
    near_sends (is_gone m.state.phase) _ near (deed_may m hand deed rest w at)
may_on m next said f h w (Moves.updates {effect = effect} free at is near) =
    near_sends (is_gone m.state.phase) _ near (due_sends m.state.wishes effect (view_of m) is).0
may_on m next said f h w (Moves.greets {guard = guard} free at is near) = rw (unsent m guard is, near) refl
may_on m next said f h w (Moves.asks {hand} free room is are) = rw (near_asks m hand free is).0 refl
may_on m next said f h w (Moves.hears read is) = rw is refl
may_on m next said f h w (Moves.greeted read is) = rw is refl
may_on m next said f h w (Moves.loses late near Loses.by_end) = refl
may_on m next said f h w _ = refl

-- Numbers -------------------------------------------------------------------------------------------------------------

abbrev numbers_so : Option Message → List ℕ
numbers_so None = []
numbers_so (Some message) = numbers_by message

-- what a move makes of the threads and tells of their numbers
record Numbers (numbers : List ℕ) (threads now : List ThreadId) (told : List ℕ) : Type 0 where
  distinct : are_distinct threads ≡ true → are_distinct now ≡ true
  in_order : AreInOrder numbers (length threads) → AreInOrder (numbers ++ told) (length now)

no_numbers : (numbers : List ℕ) (threads : List ThreadId) → Numbers numbers threads threads []
no_numbers numbers threads = record { distinct = λ is. is; in_order = λ h. rw (append-nil numbers) h }

outcome_numbers : (numbers : List ℕ) (outcome : Outcome) (state : State)
    → Numbers numbers state.threads (numbered_by outcome state).threads (numbers_in_outcome
    (outcome_told outcome state))
outcome_numbers numbers (Success (thread_list named)) state = record {
  distinct = distinct_with state.threads named;
  in_order = in_order_with numbers state.threads named;
}
outcome_numbers numbers _ state = no_numbers numbers state.threads

event_numbers : (numbers : List ℕ) (event : Event) (state : State)
    → Numbers numbers state.threads (after_event event state).threads
    (numbers_in_event (event_told event (after_event event state)))
event_numbers numbers (some_news (thread_changed started thread)) state =
    let named : List NamedThread = record { thread = thread; name = [] } ∷ [] in record {
      distinct = distinct_with state.threads named;
      in_order = in_order_with numbers state.threads named;
    }
event_numbers numbers (a_stop stopping) state =
    let named : List NamedThread = record { thread = stopping.thread; name = [] } ∷ [] in record {
      distinct = distinct_with state.threads named;
      in_order = in_order_with numbers state.threads named;
    }
event_numbers numbers _ state = no_numbers numbers state.threads

note_numbers : (numbers : List ℕ) (note : Note) (state : State)
    → Numbers numbers state.threads (noted note state).threads []
note_numbers numbers (Options options) state = no_numbers numbers state.threads
note_numbers numbers _ state = no_numbers numbers state.threads

reply_numbers : (numbers : List ℕ) (command : TargetCommand) (replied : Replied) (state : State)
    → Numbers numbers state.threads (replied_to command replied state).threads []
reply_numbers numbers command replied state =
    subst (λ (threads : List ThreadId). Numbers numbers state.threads threads []) (sym
    (replied_threads command replied state))
    (no_numbers numbers state.threads)

numbers_on : (numbers : List ℕ) (m next : Machine) (said : Option Message) → Moves m said next
    → Numbers numbers m.state.threads next.state.threads (numbers_so said)
numbers_on numbers m next said (Moves.responds {outcome = outcome} free at is) = outcome_numbers numbers outcome m.state
numbers_on numbers m next said (Moves.tells {event = event} free at) = event_numbers numbers event m.state
numbers_on numbers m next said (Moves.notes {note = note} free at) = note_numbers numbers note m.state
numbers_on numbers m next said (Moves.answers {question} {replied} is waits reply stays) =
    reply_numbers numbers (a_question question) replied m.state
numbers_on numbers m next said (Moves.replies {effect} {replied} is flies reply stays) =
    reply_numbers numbers (an_effect effect) replied m.state
numbers_on numbers m next said (Moves.loses late near Loses.by_end) = no_numbers numbers m.state.threads
numbers_on numbers m next said _ = no_numbers numbers m.state.threads

-- The law -------------------------------------------------------------------------------------------------------------

record Said (messages : List Message) (m : Machine) : Type 0 where
  quiet : IsQuiet m
  kept : IsKept m
  marked : IsMarked m
  ordered : IsInOrder m
  said_so : AreSaid messages (view_of m)
  distinct : are_distinct m.state.threads ≡ true
  in_order : AreInOrder (thread_numbers messages) (length m.state.threads)

said_next : (messages : List Message) (m next : Machine) (said : Option Message) → may_so (view_of m) said ≡ true
    → Sees m next said → AreSaid messages (view_of m) → AreSaid (with_said messages said) (view_of next)
said_next messages m next None may (Sees.as_said is) h = subst (λ (view : View). AreSaid messages view) (sym is) h
said_next messages m next None may (Sees.at_turn composite others none attached are is) h =
    subst (λ (view : View). AreSaid messages view) (sym is) (AreSaid.turns composite others h attached are)
said_next messages m next (Some message) may (Sees.as_said is) h =
    subst (λ (view : View). AreSaid (messages ++ message ∷ []) view) (sym is) (AreSaid.one_more message may h)

order_next : (messages : List Message) (said : Option Message) (count : ℕ)
    → AreInOrder (thread_numbers messages ++ numbers_so said) count
    → AreInOrder (thread_numbers (with_said messages said)) count
order_next messages None count h =
    subst (λ (numbers : List ℕ). AreInOrder numbers count) (append-nil (thread_numbers messages)) h
order_next messages (Some message) count h =
    subst (λ (numbers : List ℕ). AreInOrder numbers count)
    (ap (λ (more : List ℕ). thread_numbers messages ++ more) (sym (append-nil (numbers_by message)))
    ∙ sym (flat_map-append numbers_by messages (message ∷ []))) h

said_on : (messages : List Message) (m next : Machine) (said : Option Message) → Run messages m → Said messages m
    → Moves m said next → Said (with_said messages said) next
said_on messages m next said r s moved =
    let n = numbers_on (thread_numbers messages) m next said moved in record {
      quiet = quiet_on m next said s.quiet moved;
      kept = kept_on m next said s.kept moved;
      marked = marked_on m next said (tested marks r) s.marked moved;
      ordered = ordered_on m next said s.ordered moved;
      said_so = said_next messages m next said (may_on m next said (tested free r) s.marked (holding r) moved)
          (view_on m next said s.quiet s.kept (no_late r) (tested free r) s.ordered (always_early r) s.marked (holding r)
          (lost_held r) moved) s.said_so;
      distinct = n.distinct s.distinct;
      in_order = order_next messages said (length next.state.threads) (n.in_order s.in_order);
    }

all_said : {messages : List Message} {m : Machine} → Run messages m → Said messages m
all_said r = by_runs {Holds = Said} (record {
  starts = record {
    quiet = refl;
    kept = refl;
    marked = refl;
    ordered = refl;
    said_so = AreSaid.none;
    distinct = refl;
    in_order = AreInOrder.none;
  };
  moves = λ messages m next said before s moved after. said_on messages m next said before s moved;
  queues = λ messages m hand queue before may s. record {
    quiet = s.quiet;
    kept = s.kept;
    marked = s.marked;
    ordered = s.ordered;
    said_so = s.said_so;
    distinct = s.distinct;
    in_order = s.in_order;
  };
}) r

pub is_known : (messages : List Message) (m : Machine) → Run messages m → IsKnown messages m
is_known messages m r = let s = all_said r in record {
  said = s.said_so;
  once = numbered_once m.state.threads s.distinct;
  in_order = s.in_order;
}

-- each move in a run changes what is known so
pub sees_on : {messages : List Message} {m next : Machine} {said : Option Message} → Run messages m
    → Moves m said next → Sees m next said
sees_on {m = m} {next} {said} r moved = let s = all_said r in
    view_on m next said s.quiet s.kept (no_late r) (tested free r) s.ordered (always_early r) s.marked (holding r)
    (lost_held r) moved
