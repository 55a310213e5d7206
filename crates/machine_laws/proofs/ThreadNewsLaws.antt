-- The event `thread` tells of the starts and ends of threads that composites told of, in order; at rest of all of them.
use Rattle.std.proofs.Common.{◌≡◌, ℕ, ◌+◌, Bool, true, false, cond, List, [], ◌∷◌, ◌++◌, Option, Some, None, refl, sym}
use Rattle.std.proofs.Common.{ap, subst, ◌∙◌, append-nil, append_assoc, arith}
use Rattle.std.proofs.lemmas.Bool.{eqb-true}
use Rattle.std.proofs.lemmas.List.Concat.{flat_map-append}
use Rattle.std.specs.List.{flat_map}
use Rattle.std.specs.Prelude.{◌==◌}
use Rattle.dap_messages.specs.declared.told.Event.TheVariants as events
use Rattle.dap_messages.specs.declared.told.ThreadChange.{ThreadChange}
use Rattle.machine_model.specs.Due.{can_read, due}
use Rattle.machine_model.specs.Knowing.{HasNumber, composite_in, is_fresh}
use Rattle.machine_model.specs.Lookups.{finished}
use Rattle.machine_model.specs.Outcomes.{result_of}
use Rattle.machine_model.specs.Rows.{chosen, news_of, parts_of, told_in}
use Rattle.machine_model.specs.Runs.{Allows, Message, Run, said}
use Rattle.machine_model.specs.State.{Hand, Machine, is_gone}
use Rattle.machine_model.specs.Telling.{attached_from, is_among, number_among, with_thread}
use Rattle.machine_steps.specs.Names.{Act, Attached, Composite, Does, Fresh, Gone, Initialized, Item, Part, Phase}
use Rattle.machine_steps.specs.Names.{TargetCommand, TellsNews, Terminated, ThreadId, a_composite, a_question, a_raw}
use Rattle.machine_steps.specs.Names.{a_request, an_effect, an_event, some_news, thread_changed}
use Rattle.machine_laws.specs.ThreadEvents.{AreThreadsTold, AreToldAs, Change, IsChange, changes_in, changes_of}
use Rattle.machine_laws.specs.ThreadEvents.{composite_by, told_by, told_of}
use Rattle.machine_laws.proofs.EarlyItems.{IsEarly, always_early, not_fresh}
use Rattle.machine_laws.proofs.ItemLaws.{IsInOrder, in_order, ordered_on, picked_composites, read_composites}
use Rattle.machine_laws.proofs.ItemLaws.{waits_in_order}
use Rattle.machine_laws.proofs.NumberLaws.{among_one, one_of_id}
use Rattle.machine_steps.proofs.RequestSteps.{near_before}
use Rattle.machine_steps.proofs.ServedLaws.{one_more}
use Rattle.machine_steps.proofs.SizeLaws.{is_idle}
use Rattle.machine_steps.proofs.Stepping.{IsAt, Loses, Moves, by_moves, by_runs, moved, with_said}
use Rattle.machine_steps.proofs.Tables.{free as free_test, free_once, is_free}
use Rattle.machine_steps.proofs.Testing.{Passed, same_noted, same_numbered, same_replied, tested, whole}
use Rattle.machine_laws.proofs.ThreadLaws.{Grows, grows_on, kept}
use Rattle.machine_laws.proofs.ThreadParts.{HandLast, IsBegun, IsLast, all_left, asked_last, asked_left, begun_left}
use Rattle.machine_laws.proofs.ThreadParts.{chosen_left, fewer_left, found_left, given_last, hand_left, item_changes}
use Rattle.machine_laws.proofs.ThreadParts.{left_in, left_of, news_left, replied_last, replied_left, skipped_left}

-- Numbers -------------------------------------------------------------------------------------------------------------

number_of : (threads : List ThreadId) (thread : ThreadId) → is_among threads thread ≡ true
    → HasNumber threads thread (number_among threads thread)
number_of [] thread is = cc
number_of (first ∷ threads) thread is = by_first (first.0 == thread.0) refl is (number_of threads thread)
  where
    by_first : (same : Bool) → (first.0 == thread.0) ≡ same → cond same true (is_among threads thread) ≡ true
        → (is_among threads thread ≡ true → HasNumber threads thread (number_among threads thread))
        → HasNumber (first ∷ threads) thread (cond same 1 (number_among threads thread + 1))
    by_first true same is others = record {
      before = [];
      after = threads;
      threads_are = ap (λ (one : ThreadId). one ∷ threads) (one_of_id (eqb-true first.0 thread.0 same));
      number_is = omega arith;
    }
    by_first false same is others = let h = others is in record {
      before = first ∷ h.before;
      after = h.after;
      threads_are = ap (λ (all : List ThreadId). first ∷ all) h.threads_are;
      number_is = omega (arith, h.number_is);
    }

told_still : {threads now : List ThreadId} {changes : List Change} {told : List ThreadChange} → Grows threads now
    → AreToldAs threads changes told → AreToldAs now changes told
told_still grows AreToldAs.none = AreToldAs.none
told_still grows (AreToldAs.one_more change h number) =
    AreToldAs.one_more change (told_still grows h) (kept grows number)

-- One move ------------------------------------------------------------------------------------------------------------

abbrev came_so : Option Message → List Change
came_so None = []
came_so (Some message) = flat_map changes_in (composite_by message)

abbrev told_so : Option Message → List ThreadChange
told_so None = []
told_so (Some message) = told_by message

-- a move tells of no thread, or of one
data Tells (threads : List ThreadId) : List Change → List ThreadChange → Type 0 where
  nothing : Tells threads [] []
  a_change : (change : Change) {number : ℕ} → HasNumber threads change.thread number
      → Tells threads (change ∷ []) (record { started = change.started; id = number } ∷ [])

-- before a session is attached no item in hand is to tell of threads
abbrev IsSoon : Machine → Type 0
IsSoon m = is_fresh m.state.phase ≡ true → hand_left m.hand ≡ []

-- what a move makes of what is left to tell
record Onward (m next : Machine) (said : Option Message) : Type 0 where
  final : HandLast m.hand → HandLast next.hand
  soon : IsSoon m → IsSoon next
  told : List Change
  tells : Tells next.state.threads told (told_so said)
  left : is_gone next.state.phase ≡ false → left_of m ++ came_so said ≡ told ++ left_of next
  quiet : is_gone next.state.phase ≡ true → told_so said ≡ []

-- nothing changes
still : (m next : Machine) (said : Option Message) → (HandLast m.hand → HandLast next.hand)
    → (is_fresh next.state.phase ≡ true → is_fresh m.state.phase ≡ true) → told_so said ≡ []
    → hand_left next.hand ≡ hand_left m.hand
    → flat_map changes_in (flat_map composite_in next.waiting)
    ≡ flat_map changes_in (flat_map composite_in m.waiting) ++ came_so said → Onward m next said
still m next said final fresh none same waits = record {
  final = final;
  soon = λ soon is. same ∙ soon (fresh is);
  told = [];
  tells = subst (λ (told : List ThreadChange). Tells next.state.threads [] told) (sym none) Tells.nothing;
  left = λ near. append_assoc (hand_left m.hand) (flat_map changes_in (flat_map composite_in m.waiting)) (came_so said)
      ∙ sym (ap (λ (left : List Change). left ++ flat_map changes_in (flat_map composite_in next.waiting)) same
      ∙ ap (λ (waits : List Change). hand_left m.hand ++ waits) waits);
  quiet = λ gone. none;
}

-- nor does what waits
same_waits : (m : Machine) → flat_map changes_in (flat_map composite_in m.waiting)
    ≡ flat_map changes_in (flat_map composite_in m.waiting) ++ []
same_waits m = sym (append-nil (flat_map changes_in (flat_map composite_in m.waiting)))

front : {m : Machine} {hand : Hand} {part : Part} {rest : List Part} → IsAt m hand part rest
    → hand_left m.hand ≡ left_in hand.item (part ∷ rest)
front {hand = hand} at = ap hand_left at.in_hand ∙ ap (λ (parts : List Part). left_in hand.item parts) at.parts

final_at : {m : Machine} {hand : Hand} {part : Part} {rest : List Part} → IsAt m hand part rest → HandLast m.hand
    → IsLast (item_changes hand.item) (left_in hand.item (part ∷ rest))
final_at {hand = hand} at h = subst (λ (parts : List Part). IsLast (item_changes hand.item) (left_in hand.item parts))
    at.parts (subst (λ (held : Option Hand). HandLast held) at.in_hand h)

-- other parts stand in front, by which the same is left to tell
parts_still : (m next : Machine) (said : Option Message) (hand now : Hand) (part : Part) (rest : List Part)
    → IsAt m hand part rest → next.hand ≡ Some now → now.item ≡ hand.item
    → left_in hand.item now.parts ≡ left_in hand.item (part ∷ rest)
    → (is_fresh next.state.phase ≡ true → is_fresh m.state.phase ≡ true) → told_so said ≡ []
    → next.waiting ≡ m.waiting → came_so said ≡ [] → Onward m next said
parts_still m next said hand now part rest at held item same fresh none waits came =
    still m next said
    (λ h. subst (λ (held : Option Hand). HandLast held) (sym held)
    (subst (λ (of : Item). IsLast (item_changes of) (left_in of now.parts)) (sym item)
    (subst (λ (left : List Change). IsLast (item_changes hand.item) left) (sym same) (final_at at h))))
    fresh none
    (ap hand_left held ∙ ap (λ (of : Item). left_in of now.parts) item ∙ same ∙ sym (front at))
    (ap (λ (items : List Item). flat_map changes_in (flat_map composite_in items)) waits ∙ same_waits m
    ∙ ap (λ (came : List Change). flat_map changes_in (flat_map composite_in m.waiting) ++ came) (sym came))

-- an item is begun
begun_on : (m : Machine) (item : Item) (rest : List Item) (next : Machine) → m.hand ≡ None
    → next.hand ≡ Some (record { item = item; parts = parts_of m.state item; queue = []; asked = []; effect = None })
    → next.state.phase ≡ m.state.phase → next.waiting ≡ rest
    → ((at : ℕ) (composite : Composite) → item ≡ a_composite at composite → is_fresh m.state.phase ≡ false)
    → flat_map composite_in m.waiting ≡ composite_in item ++ flat_map composite_in rest → Onward m next None
begun_on m item rest next none held same waits late are = by_phase m.state.phase refl (begun_left m.state item)
  where
    left_now : hand_left next.hand ≡ left_in item (parts_of m.state item)
    left_now = ap hand_left held

    item_all : (item : Item) → flat_map changes_in (composite_in item) ≡ item_changes item
    item_all (a_composite at composite) = append-nil (changes_in composite)
    item_all _ = refl

    fresh_none : (item : Item) → ((at : ℕ) (composite : Composite) → item ≡ a_composite at composite
        → is_fresh m.state.phase ≡ false) → is_fresh m.state.phase ≡ true → item_changes item ≡ []
    fresh_none (a_composite at composite) late is = let no = late at composite refl in cc
    fresh_none _ late is = refl

    waits_now : flat_map changes_in (flat_map composite_in m.waiting)
        ≡ item_changes item ++ flat_map changes_in (flat_map composite_in next.waiting)
    waits_now = ap (λ (all : List Composite). flat_map changes_in all) are
        ∙ flat_map-append changes_in (composite_in item) (flat_map composite_in rest)
        ∙ ap (λ (first : List Change). first ++ flat_map changes_in (flat_map composite_in rest)) (item_all item)
        ∙ ap (λ (items : List Item). item_changes item ++ flat_map changes_in (flat_map composite_in items)) (sym waits)

    -- all that the item told is left to tell, or the target isn't there
    onward : IsLast (item_changes item) (left_in item (parts_of m.state item))
        → (is_fresh m.state.phase ≡ true → left_in item (parts_of m.state item) ≡ [])
        → (is_gone m.state.phase ≡ false → left_in item (parts_of m.state item) ≡ item_changes item)
        → Onward m next None
    onward final soon all = record {
      final = λ h. subst (λ (held : Option Hand). HandLast held) (sym held) final;
      soon = λ h is. left_now ∙ soon (ap is_fresh (sym same) ∙ is);
      told = [];
      tells = Tells.nothing;
      left = λ near. append-nil (left_of m)
          ∙ ap (λ (held : Option Hand). hand_left held ++ flat_map changes_in (flat_map composite_in m.waiting)) none
          ∙ waits_now
          ∙ ap (λ (left : List Change). left ++ flat_map changes_in (flat_map composite_in next.waiting))
          (sym (left_now ∙ all (ap is_gone (sym same) ∙ near)));
      quiet = λ gone. refl;
    }

    none_in : IsLast (item_changes item) (left_in item (parts_of m.state item)) → item_changes item ≡ []
        → left_in item (parts_of m.state item) ≡ []
    none_in final none = last_none (item_changes item) final.done (left_in item (parts_of m.state item)) final.is none
      where
        last_none : (all done left : List Change) → all ≡ done ++ left → all ≡ [] → left ≡ []
        last_none all [] left is none = sym is ∙ none
        last_none all (one ∷ done) left is none = cc

    by_phase : (phase : Phase) → m.state.phase ≡ phase → IsBegun phase item (parts_of m.state item) → Onward m next None
    by_phase Attached is h = onward (all_left (item_changes item) _ h)
        (λ fresh. let no : false ≡ true = sym (ap is_fresh is) ∙ fresh in cc) (λ near. h)
    by_phase Fresh is h = onward h (λ fresh. none_in h (fresh_none item late fresh))
        (λ near. let nothing = fresh_none item late (ap is_fresh is) in none_in h nothing ∙ sym nothing)
    by_phase Gone is h = onward h (λ fresh. let no : false ≡ true = sym (ap is_fresh is) ∙ fresh in cc)
        (λ near. let no : true ≡ false = sym (ap is_gone is) ∙ near in cc)

-- what comes waits behind the others
more_waits : (items : List Item) (item : Item)
    → flat_map changes_in (flat_map composite_in (items ++ item ∷ []))
    ≡ flat_map changes_in (flat_map composite_in items) ++ flat_map changes_in (composite_in item)
more_waits items item = ap (λ (all : List Composite). flat_map changes_in all) (one_more composite_in items item)
    ∙ flat_map-append changes_in (flat_map composite_in items) (composite_in item)

-- a thread is told
change_on : (m : Machine) (hand : Hand) (rest : List Part) (started : Bool) (thread : ThreadId) (next : Machine)
    (said : Option Message) → IsAt m hand (Part.Tells (some_news (thread_changed started thread))) rest
    → is_gone m.state.phase ≡ false → next.hand ≡ Some (record hand { parts = rest })
    → next.state.phase ≡ m.state.phase → next.state.threads ≡ with_thread m.state.threads thread
    → next.waiting ≡ m.waiting → came_so said ≡ []
    → told_so said ≡ record { started = started; id = number_among next.state.threads thread } ∷ []
    → Onward m next said
change_on m hand rest started thread next said at near held same threads waits came told = record {
  final = λ h. subst (λ (held : Option Hand). HandLast held) (sym held)
      (fewer_left (item_changes hand.item) (change ∷ []) (left_in hand.item rest) (final_at at h));
  soon = λ soon fresh.
      let no : change ∷ left_in hand.item rest ≡ [] = sym (front at) ∙ soon (ap is_fresh (sym same) ∙ fresh) in cc;
  told = change ∷ [];
  tells = subst (λ (told : List ThreadChange). Tells next.state.threads (change ∷ []) told) (sym told)
      (Tells.a_change change (number_of next.state.threads thread
      (ap (λ (all : List ThreadId). is_among all thread) threads ∙ among_one m.state.threads thread)));
  left = λ here. ap (λ (came : List Change). left_of m ++ came) came ∙ append-nil (left_of m)
      ∙ ap (λ (left : List Change). left ++ flat_map changes_in (flat_map composite_in m.waiting)) (front at)
      ∙ sym (ap (λ (held : Option Hand). change ∷ (hand_left held
      ++ flat_map changes_in (flat_map composite_in next.waiting))) held
      ∙ ap (λ (items : List Item). change ∷ (left_in hand.item rest
      ++ flat_map changes_in (flat_map composite_in items))) waits);
  quiet = λ gone. let no : true ≡ false = sym gone ∙ ap is_gone same ∙ near in cc;
}
  where
    change : Change
    change = record { started = started; thread = thread }

-- what is told of a target that ends, or is lost, is dropped
over_on : (m next : Machine) (said : Option Message) → (HandLast m.hand → HandLast next.hand)
    → next.state.phase ≡ Gone → told_so said ≡ [] → Onward m next said
over_on m next said final gone none = record {
  final = final;
  soon = λ soon fresh. let no : false ≡ true = sym (ap is_fresh gone) ∙ fresh in cc;
  told = [];
  tells = subst (λ (told : List ThreadChange). Tells next.state.threads [] told) (sym none) Tells.nothing;
  left = λ near. let no : true ≡ false = sym (ap is_gone gone) ∙ near in cc;
  quiet = λ gone. none;
}

-- the choice to tell news: where the session is attached they are told, and else there are none
news_on : (m : Machine) (hand : Hand) (below : ℕ) (rest : List Part)
    → IsAt m hand (Part.Unfolds (TellsNews below)) rest → is_gone m.state.phase ≡ false → IsSoon m
    → left_in hand.item (chosen (TellsNews below) m.state hand ++ rest)
    ≡ left_in hand.item (Part.Unfolds (TellsNews below) ∷ rest)
news_on m hand below rest at near soon = by_phase m.state.phase refl
  where
    none_behind : (some left : List Change) → some ++ left ≡ [] → left ≡ some ++ left
    none_behind [] left is = refl
    none_behind (one ∷ some) left is = cc

    by_phase : (phase : Phase) → m.state.phase ≡ phase
        → left_in hand.item (told_in phase (news_of below m.state hand.item) ++ rest)
        ≡ left_in hand.item (Part.Unfolds (TellsNews below) ∷ rest)
    by_phase Attached is = news_left below m.state hand rest
    by_phase Fresh is = none_behind (item_changes hand.item) (left_in hand.item rest)
        (sym (front at) ∙ soon (ap is_fresh is))
    by_phase Gone is = let no : true ≡ false = sym (ap is_gone is) ∙ near in cc

lost_silent : {m : Machine} {message : Message} {late : List TargetCommand} → Loses m message late
    → told_by message ≡ []
lost_silent Loses.by_end = refl
lost_silent _ = refl

near_read : (m : Machine) → can_read m ≡ true → is_gone m.state.phase ≡ false
near_read m read = by_bools (is_gone m.state.phase) _ read
  where
    by_bools : (gone reads : Bool) → cond gone false reads ≡ true → gone ≡ false
    by_bools gone reads is = grind (arith, is)

once_fresh : (phase : Phase) → is_fresh (attached_from phase) ≡ true → is_fresh phase ≡ true
once_fresh phase is = grind (arith, is)

-- a part that needs the target stands in front
needs_near : {m : Machine} {hand : Hand} {part : Part} {rest : List Part} → Passed free_once m → IsAt m hand part rest
    → is_free part ≡ false → is_gone m.state.phase ≡ false
needs_near {m} {part = part} {rest} f at needs =
    by_bools (is_gone m.state.phase) (is_free part) _ needs (whole free_once f at)
  where
    by_bools : (gone frees others : Bool) → frees ≡ false → cond (cond gone frees true) others false ≡ true
        → gone ≡ false
    by_bools gone frees others none is = grind (arith, none, is)

on_move : (m next : Machine) (said : Option Message) → Passed free_once m → IsEarly m → IsInOrder m → IsSoon m
    → Moves m said next → Onward m next said
on_move m next said f e o soon (Moves.begins picked free none is) =
    begun_on m picked.item picked.rest next none refl refl refl
    (λ at composite item. not_fresh m picked at composite e none is item)
    (picked_composites (is_gone m.state.phase) m.waiting picked is)
on_move m next said f e o soon (Moves.drops {hand} free is none) =
    still m next said (λ h. tt) (λ fresh. fresh) refl
    (sym (ap hand_left is ∙ ap (λ (parts : List Part). left_in hand.item parts) none)) (same_waits m)
on_move m next said f e o soon (Moves.responds {hand} {rest} {outcome = outcome} free at is) =
    parts_still m next said hand (record hand { parts = rest }) (Part.Responds outcome) rest at refl refl refl
    (λ fresh. sym (ap is_fresh (same_numbered outcome m.state)) ∙ fresh) refl refl refl
on_move m next said f e o soon (Moves.finds {hand} {rest} {lookup} found free at needs done) =
    parts_still m next said hand (record hand { parts = finished lookup (result_of found) m.state ++ rest })
    (Part.Looks lookup) rest at refl refl (found_left hand.item lookup (result_of found) m.state rest)
    (λ fresh. fresh) refl refl refl
on_move m next said f e o soon (Moves.passes_over {hand} {part} {rest} free at why) =
    parts_still m next said hand (record hand { parts = rest }) part rest at refl refl
    (skipped_left hand.item rest why) (λ fresh. fresh) refl refl refl
on_move m next said f e o soon (Moves.tells {hand} {rest} {event = Initialized} free at) =
    parts_still m next said hand (record hand { parts = rest }) (Part.Tells Initialized) rest at refl refl refl
    (once_fresh m.state.phase) refl refl refl
on_move m next said f e o soon (Moves.tells {hand} {rest} {event = some_news (thread_changed started thread)} free at) =
    change_on m hand rest started thread next said at (needs_near f at refl) refl refl refl refl refl refl
on_move m next said f e o soon (Moves.tells {hand} {rest} {event = Terminated} free at) =
    over_on m next said (λ h. fewer_left (item_changes hand.item) (item_changes hand.item) (left_in hand.item rest)
    (final_at at h)) refl refl
on_move m next said f e o soon (Moves.tells {hand} {rest} {event} free at) =
    parts_still m next said hand (record hand { parts = rest }) (Part.Tells event) rest at refl refl refl
    (λ fresh. fresh) refl refl refl
on_move m next said f e o soon (Moves.sends {hand} {rest} {deed} free at near) =
    parts_still m next said hand
    (record hand { parts = rest; effect = Some (record { effect = Does deed; reply = None }) }) (Part.Sends deed) rest
    at refl refl refl (λ fresh. fresh) refl refl refl
on_move m next said f e o soon (Moves.updates {hand} {effect} {rest} free at is near) =
    parts_still m next said hand
    (record hand { parts = Part.Updates ∷ rest; effect = Some (record { effect = effect; reply = None }) })
    Part.Updates rest at refl refl refl (λ fresh. fresh) refl refl refl
on_move m next said f e o soon (Moves.notes {hand} {note} {rest} free at) =
    parts_still m next said hand (record hand { parts = rest }) (Part.Notes note) rest at refl refl refl
    (λ fresh. sym (ap is_fresh (same_noted note m.state)) ∙ fresh) refl refl refl
on_move m next said f e o soon (Moves.unfolds {hand} {choice = TellsNews below} {rest} free at) =
    parts_still m next said hand (record hand { parts = chosen (TellsNews below) m.state hand ++ rest })
    (Part.Unfolds (TellsNews below)) rest at refl refl (news_on m hand below rest at (needs_near f at refl) soon)
    (λ fresh. fresh) refl refl refl
on_move m next said f e o soon (Moves.unfolds {hand} {choice} {rest} free at) =
    parts_still m next said hand (record hand { parts = chosen choice m.state hand ++ rest }) (Part.Unfolds choice)
    rest at refl refl (chosen_left choice m.state hand rest refl) (λ fresh. fresh) refl refl refl
on_move m next said f e o soon (Moves.queues {hand} free is) =
    still m next said (λ h. subst (λ (held : Option Hand). HandLast held) is h) (λ fresh. fresh) refl
    (sym (ap hand_left is)) (same_waits m)
on_move m next said f e o soon (Moves.asks {want = want} free room is are) =
    still m next said (asked_last want m.hand) (λ fresh. fresh) refl (asked_left want m.hand) (same_waits m)
on_move m next said f e o soon (Moves.hears {request} read is) =
    still m next said (λ h. h) (λ fresh. fresh) refl refl (more_waits m.waiting (a_request request))
on_move m next said f e o soon (Moves.answers {question} {replied} is waits reply stays) =
    still m next said (replied_last (a_question question) replied m.hand)
    (λ fresh. sym (ap is_fresh (same_replied (a_question question) replied m.state)) ∙ fresh) refl
    (replied_left (a_question question) replied m.hand) (same_waits m)
on_move m next said f e o soon (Moves.replies {effect} {replied} is flies reply stays) =
    still m next said (replied_last (an_effect effect) replied m.hand)
    (λ fresh. sym (ap is_fresh (same_replied (an_effect effect) replied m.state)) ∙ fresh) refl
    (replied_left (an_effect effect) replied m.hand) (same_waits m)
on_move m next said f e o soon (Moves.loses late near why) =
    over_on m next said (λ h. given_last m.hand) refl (lost_silent why)
on_move m next said f e o soon (Moves.comes {at} {composite} read sized taken) =
    still m next said (λ h. h) (λ fresh. fresh) refl refl (more_waits m.waiting (a_composite at composite))
on_move m next said f e o soon (Moves.keeps {at} {body} is) =
    still m next said (λ h. h) (λ fresh. fresh) refl refl (more_waits m.waiting (a_raw at body))
on_move m next said f e o soon (Moves.reads {at} {body} {composite} before after read is none taken) =
    still m next said (λ h. h) (λ fresh. fresh) refl refl
    (ap (λ (all : List Composite). flat_map changes_in all)
    (read_composites before after (a_raw at body) at composite refl none
    (subst (λ (items : List Item). in_order items ≡ true) is (waits_in_order m o (near_read m read)))
    ∙ ap (λ (items : List Item). flat_map composite_in items ++ composite ∷ []) (sym is))
    ∙ flat_map-append changes_in (flat_map composite_in m.waiting) (composite ∷ []))
on_move m next said f e o soon _ = still m next said (λ h. h) (λ fresh. fresh) refl refl (same_waits m)

-- All moves -----------------------------------------------------------------------------------------------------------

record Telling (messages : List Message) (m : Machine) : Type 0 where
  final : HandLast m.hand
  soon : IsSoon m
  first : List Change
  others : List Change
  came : changes_of messages ≡ first ++ others
  told : AreToldAs m.state.threads first (told_of messages)
  left : is_gone m.state.phase ≡ false → others ≡ left_of m

changes_more : (messages : List Message) (said : Option Message)
    → changes_of (with_said messages said) ≡ changes_of messages ++ came_so said
changes_more messages None = sym (append-nil (changes_of messages))
changes_more messages (Some message) =
    ap (λ (all : List Composite). flat_map changes_in all) (one_more composite_by messages message)
    ∙ flat_map-append changes_in (flat_map composite_by messages) (composite_by message)

told_more : (messages : List Message) (said : Option Message)
    → told_of (with_said messages said) ≡ told_of messages ++ told_so said
told_more messages None = sym (append-nil (told_of messages))
told_more messages (Some message) = one_more told_by messages message

tells_more : {threads : List ThreadId} {first some : List Change} {told now : List ThreadChange}
    → AreToldAs threads first told → Tells threads some now → AreToldAs threads (first ++ some) (told ++ now)
tells_more {threads} {first} {told = told} h Tells.nothing =
    subst (λ (changes : List Change). AreToldAs threads changes (told ++ [])) (sym (append-nil first))
    (subst (λ (told : List ThreadChange). AreToldAs threads first told) (sym (append-nil told)) h)
tells_more h (Tells.a_change change number) = AreToldAs.one_more change h number

telling_on : (messages : List Message) (m next : Machine) (said : Option Message) → Telling messages m
    → Grows m.state.threads next.state.threads → Moves m said next → Onward m next said
    → Telling (with_said messages said) next
telling_on messages m next said t grows moved on = by_gone (is_gone next.state.phase) refl
  where
    came_now : changes_of (with_said messages said) ≡ t.first ++ (t.others ++ came_so said)
    came_now = changes_more messages said ∙ ap (λ (all : List Change). all ++ came_so said) t.came
        ∙ append_assoc t.first t.others (came_so said)

    told_before : AreToldAs next.state.threads t.first (told_of messages)
    told_before = told_still grows t.told

    by_gone : (gone : Bool) → is_gone next.state.phase ≡ gone → Telling (with_said messages said) next
    by_gone true gone = record {
      final = on.final t.final;
      soon = on.soon t.soon;
      first = t.first;
      others = t.others ++ came_so said;
      came = came_now;
      told = subst (λ (told : List ThreadChange). AreToldAs next.state.threads t.first told)
          (sym (told_more messages said ∙ ap (λ (now : List ThreadChange). told_of messages ++ now) (on.quiet gone)
          ∙ append-nil (told_of messages))) told_before;
      left = λ near. let no : true ≡ false = sym gone ∙ near in cc;
    }
    by_gone false near = record {
      final = on.final t.final;
      soon = on.soon t.soon;
      first = t.first ++ on.told;
      others = left_of next;
      came = came_now ∙ ap (λ (others : List Change). t.first ++ others)
          (ap (λ (others : List Change). others ++ came_so said) (t.left (near_before m next said moved near))
          ∙ on.left near) ∙ sym (append_assoc t.first on.told (left_of next));
      told = subst (λ (told : List ThreadChange). AreToldAs next.state.threads (t.first ++ on.told) told)
          (sym (told_more messages said)) (tells_more told_before on.tells);
      left = λ near. refl;
    }

ordered : {messages : List Message} {m : Machine} → Run messages m → IsInOrder m
ordered r = by_moves {Holds = λ (messages : List Message) (m : Machine). IsInOrder m}
    (record {
      starts = refl;
      moves = λ messages m next said h moved. ordered_on m next said h moved;
      queues = λ messages m hand queue may h. h;
    }) r

telling : {messages : List Message} {m : Machine} → Run messages m → Telling messages m
telling r = by_runs {Holds = Telling} (record {
  starts = record {
    final = tt;
    soon = λ fresh. refl;
    first = [];
    others = [];
    came = refl;
    told = AreToldAs.none;
    left = λ near. refl;
  };
  moves = λ messages m next said before t moved after. telling_on messages m next said t (grows_on m next said moved)
      moved (on_move m next said (tested free_test before) (always_early before) (ordered before) t.soon moved);
  queues = λ messages m hand queue before may t. record {
    final = t.final;
    soon = t.soon;
    first = t.first;
    others = t.others;
    came = t.came;
    told = t.told;
    left = t.left;
  };
}) r

-- The laws ------------------------------------------------------------------------------------------------------------

pub tells_threads : (messages : List Message) (m : Machine) → Run messages m → AreThreadsTold messages m
tells_threads messages m r = let t = telling r in record {
  first = t.first;
  others = t.others;
  came = t.came;
  told = t.told;
  all = λ rests attached. let idle = is_idle messages m r rests in
      t.left (ap is_gone attached)
      ∙ ap (λ (held : Option Hand). hand_left held ++ flat_map changes_in (flat_map composite_in m.waiting))
      idle.no_hand
      ∙ ap (λ (items : List Item). flat_map changes_in (flat_map composite_in items))
      (idle.none_later (λ fresh. let no : Attached ≡ Fresh = sym attached ∙ fresh in cc));
}

-- only a composite tells of threads
told_item : {m next : Machine} {hand : Hand} (item : Item) (told : ThreadChange) (thread : ThreadId)
    (left : List Change)
    → m.hand ≡ Some hand → hand.item ≡ item
    → IsLast (item_changes item) (record { started = told.started; thread = thread } ∷ left)
    → HasNumber next.state.threads thread told.id → IsChange m next told
told_item {hand = hand} (a_composite at composite) told thread left held is h number = record {
  hand = hand;
  place = at;
  composite = composite;
  before = h.done;
  after = left;
  thread = thread;
  is_held = held;
  is_item = is;
  changes_are = h.is;
  number_is = number;
}
told_item {m} {next} item told thread left held is h number = by_done h.done h.is
  where
    by_done : (done : List Change) → [] ≡ done ++ record { started = told.started; thread = thread } ∷ left
        → IsChange m next told
    by_done [] is = cc
    by_done (one ∷ done) is = cc

told_at : {messages : List Message} (m next : Machine) (said : Option Message) (told : ThreadChange) → Run messages m
    → said ≡ Some (Message.tells (an_event (events.Thread told))) → Moves m said next → IsChange m next told
told_at m next said told r is (Moves.tells {hand} {rest} {event = some_news (thread_changed started thread)} free at) =
    let same : told ≡ record {
      started = started;
      id = number_among (with_thread m.state.threads thread) thread;
    } = cc in
    subst (λ (told : ThreadChange). IsChange m next told) (sym same)
    (told_item hand.item _ thread (left_in hand.item rest) at.in_hand refl (final_at at (telling r).final)
    (number_of (with_thread m.state.threads thread) thread (among_one m.state.threads thread)))
told_at m next said told r is (Moves.loses late near Loses.by_end) = cc
told_at m next said told r is _ = cc

pub tells_in_hand : (messages : List Message) (m : Machine) (told : ThreadChange) → Run messages m
    → (due false m).act ≡ Act.Tells (an_event (events.Thread told)) → IsChange m (due false m).next told
tells_in_hand messages m told r is = told_at m (due false m).next _ told r refl (moved (Allows.acts (ap said is)))
