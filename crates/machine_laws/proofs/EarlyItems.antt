-- A composite that can be read comes to its turn only once the session is attached: until then the `attach` is in hand.
use Rattle.std.proofs.Common.{◌≡◌, Bool, true, false, cond, not, ◌||◌, List, [], ◌∷◌, ◌++◌, Option, Some, None, refl}
use Rattle.std.proofs.Common.{sym, ap, subst, ◌∙◌, option_map, arith, ℕ}
use Rattle.machine_model.specs.Due.{Picked, after_deed, greets as greets_way, passed_by, pick, sized_by, way}
use Rattle.machine_model.specs.Knowing.{is_fresh}
use Rattle.machine_model.specs.Lookups.{finished}
use Rattle.machine_model.specs.Outcomes.{result_of}
use Rattle.machine_model.specs.Replying.{IsReply, given_up, is_end, is_waiting, replied_machine, replied_to, shows_end}
use Rattle.machine_model.specs.Rows.{chosen, failure_of, news_of, noted, parts_by, parts_of, row_of, wanting}
use Rattle.machine_model.specs.Runs.{Message, Run}
use Rattle.machine_model.specs.State.{Hand, Machine, SizesRead, State, has_raw, has_waiting, is_gone, is_none, is_raw}
use Rattle.machine_model.specs.State.{is_some, knowing, left}
use Rattle.machine_model.specs.Telling.{after_event, attached_from, numbered_by}
use Rattle.machine_model.proofs.Bools.{first_holds, other_fails}
use Rattle.machine_steps.specs.Names.{Choice, Command, Composite, Decides, Event, Failure, Guard, Handshake, IdSizes}
use Rattle.machine_steps.specs.Names.{Judges}
use Rattle.machine_steps.specs.Names.{Initialized, Item, Note, Outcome, Part, Phase, Question, Replied, TellsNews}
use Rattle.machine_steps.specs.Names.{Terminated, a_composite, a_question, a_raw, a_request}
use Rattle.machine_steps.proofs.HandshakeLaws.{IsBehind, both_queued, is_handshake}
use Rattle.machine_laws.proofs.ItemLaws.{has_composite, has_more, has_rest, is_composite}
use Rattle.machine_steps.proofs.PendingLaws.{all_open}
use Rattle.machine_steps.proofs.QuietLaws.{attached_gone, waits_some}
use Rattle.machine_steps.proofs.SizeLaws.{question_sizes}
use Rattle.machine_steps.proofs.Standing.{asked_in}
use Rattle.machine_steps.proofs.Stepping.{IsAt, Moves, Skips, by_runs}
use Rattle.machine_steps.proofs.Tables.{chosen_is, decided_alike, finished_is, has_attach, judged_alike, plain_attach}
use Rattle.machine_steps.proofs.Tables.{told_alike}
use Rattle.machine_steps.proofs.Testing.{IsTest, Passed, same_noted, same_numbered, same_replied, tested, whole}
use Rattle.std.proofs.lemmas.Bool.{or_right}
use Rattle.machine_steps.proofs.RequestSteps.{parts_left}

-- The test ------------------------------------------------------------------------------------------------------------

-- what waits for the handshake attaches the session behind it
abbrev pub greets_first : List Part → Bool
greets_first [] = true
greets_first (part ∷ parts) = cond (cond (is_handshake part) (has_attach parts) true) (greets_first parts) false

abbrev greets_to_attach : Bool → List Part → Bool
greets_to_attach gone parts = greets_first parts

row_greets : (failure : Option Failure) (command : Command) (state : State)
    → greets_first (parts_by failure (row_of command state)) ≡ true
row_greets failure command state = grind arith

begun_greets : (state : State) (item : Item) → greets_first (parts_of state item) ≡ true
begun_greets state (a_request request) = row_greets (failure_of (wanting request.command) state) request.command state
begun_greets state (a_raw at body) = refl
begun_greets state _ = grind arith

rest_greets : (part : Part) (rest : List Part) → greets_first (part ∷ rest) ≡ true → greets_first rest ≡ true
rest_greets part rest is = grind (arith, is)

chosen_greets : (choice : Choice) (state : State) (hand : Hand) (rest : List Part) → greets_first rest ≡ true
    → greets_first (chosen choice state hand ++ rest) ≡ true
chosen_greets (TellsNews below) state hand rest is =
    told_alike greets_first (λ news parts. refl) state.phase (news_of below state hand.item) rest ∙ is
chosen_greets Judges state hand rest is =
    judged_alike greets_first (λ strikes parts. refl) state hand.item rest ∙ is
chosen_greets (Decides logged stops) state hand rest is =
    decided_alike greets_first (λ thrown parts. refl) (λ stopping parts. refl) (λ thread object parts. refl)
    (λ parts. refl) (λ parts. refl) (λ text texts strikes parts. refl) state logged stops hand.item rest ∙ is
chosen_greets _ state hand rest is = grind (arith, is)

greets_test : IsTest greets_to_attach
greets_test = record {
  none = λ gone. refl;
  tail = λ gone part rest is. rest_greets part rest is;
  begins = begun_greets;
  unfolds = λ choice state hand rest is.
      chosen_greets choice state hand rest (rest_greets (Part.Unfolds choice) rest is);
  finds = λ lookup result state rest is. grind (arith, is);
  gives_up = λ responds item. grind arith;
}

-- The invariant -------------------------------------------------------------------------------------------------------

-- Before the session is attached, and once the handshake went out, what attaches it is in hand; before the handshake
-- went out nothing is asked, and no sizes are known; and where a composite waits they are.
pub record IsEarly (m : Machine) : Type 0 where
  pub attaches : cond (is_fresh m.state.phase) (cond m.state.greeting_sent (has_attach (parts_left m.hand)) true) true
      ≡ true
  pub unsent : cond m.state.greeting_sent true (cond (has_waiting (asked_in m.hand)) false (is_none m.state.sizes))
      ≡ true
  pub sized : cond (is_gone m.state.phase) true (cond (has_composite m.waiting) (is_some m.state.sizes) true) ≡ true

-- the parts in front of the hand
front : {m : Machine} {hand : Hand} {part : Part} {rest : List Part} → IsEarly m → IsAt m hand part rest
    → cond (is_fresh m.state.phase) (cond m.state.greeting_sent (has_attach (part ∷ rest)) true) true ≡ true
front {m} h at = subst (λ (parts : List Part). cond (is_fresh m.state.phase) (cond m.state.greeting_sent
    (has_attach parts) true) true ≡ true) at.parts
    (subst (λ (held : Option Hand). cond (is_fresh m.state.phase) (cond m.state.greeting_sent
    (has_attach (parts_left held)) true) true ≡ true) at.in_hand h.attaches)

asked_now : {m : Machine} {hand : Hand} → IsEarly m → m.hand ≡ Some hand
    → cond m.state.greeting_sent true (cond (has_waiting hand.asked) false (is_none m.state.sizes)) ≡ true
asked_now {m} h is = subst (λ (held : Option Hand). cond m.state.greeting_sent true (cond
    (has_waiting (asked_in held)) false (is_none m.state.sizes)) ≡ true) is h.unsent

-- other parts stand in front, which attach the session where those did
parts_early : (m : Machine) (hand : Hand) (part : Part) (rest now : List Part) (state : State) → IsEarly m
    → IsAt m hand part rest → is_fresh state.phase ≡ is_fresh m.state.phase
    → is_gone state.phase ≡ is_gone m.state.phase → state.greeting_sent ≡ m.state.greeting_sent
    → state.sizes ≡ m.state.sizes → has_attach now ≡ has_attach (part ∷ rest)
    → IsEarly (left (knowing m state) hand now)
parts_early m hand part rest now state h at fresh gone sent sizes same = record {
  attaches = rw (fresh, sent, same) (front h at);
  unsent = rw (sent, sizes) (asked_now h at.in_hand);
  sized = rw (gone, sizes) h.sized;
}

numbered_flags : (outcome : Outcome) (state : State)
    → ((numbered_by outcome state).greeting_sent ≡ state.greeting_sent)
    × ((numbered_by outcome state).sizes ≡ state.sizes)
numbered_flags outcome state = (grind arith, grind arith)

noted_flags : (note : Note) (state : State)
    → ((noted note state).greeting_sent ≡ state.greeting_sent) × ((noted note state).sizes ≡ state.sizes)
noted_flags note state = (grind arith, grind arith)

skipped_same : {m : Machine} {hand : Hand} {part : Part} (rest : List Part) → Skips m hand part
    → has_attach rest ≡ has_attach (part ∷ rest)
skipped_same rest why = grind (arith, why)

event_early : (m : Machine) (hand : Hand) (event : Event) (rest : List Part) → IsEarly m
    → IsAt m hand (Part.Tells event) rest
    → IsEarly (left (knowing m (after_event event m.state)) hand rest)
event_early m hand Initialized rest h at = record {
  attaches = by_phase m.state.phase;
  unsent = asked_now h at.in_hand;
  sized = rw (attached_gone m.state.phase) h.sized;
}
  where
    by_phase : (phase : Phase) → cond (is_fresh (attached_from phase)) (cond m.state.greeting_sent
        (has_attach rest) true) true ≡ true
    by_phase phase = grind arith
event_early m hand Terminated rest h at =
    record { attaches = refl; unsent = asked_now h at.in_hand; sized = refl }
event_early m hand event rest h at =
    parts_early m hand (Part.Tells event) rest rest (after_event event m.state) h at refl refl refl refl refl

-- the handshake goes out
greets_early : (m : Machine) (hand : Hand) (guard : Guard) (rest : List Part) → Passed greets_to_attach m → IsEarly m
    → IsAt m hand (Part.Awaits guard) rest → way guard m.state ≡ greets_way
    → IsEarly (knowing m (record m.state { greeting_sent = true }))
greets_early m hand guard rest t h at is = record {
  attaches = by_fresh (is_fresh m.state.phase);
  unsent = refl;
  sized = h.sized;
}
  where
    first : (guard : Guard) → way guard m.state ≡ greets_way → greets_first (Part.Awaits guard ∷ rest) ≡ true
        → has_attach rest ≡ true
    first Handshake is passes = grind (arith, passes)
    first IdSizes is passes = by_sizes m.state.sizes is
      where
        by_sizes : (sizes : Option SizesRead) → sized_by sizes ≡ greets_way → has_attach rest ≡ true
        by_sizes sizes is = grind (arith, is)

    there : has_attach (parts_left m.hand) ≡ true
    there = ap (λ (held : Option Hand). has_attach (parts_left held)) at.in_hand ∙ ap has_attach at.parts
        ∙ first guard is (whole greets_to_attach t at)

    by_fresh : (fresh : Bool) → cond fresh (has_attach (parts_left m.hand)) true ≡ true
    by_fresh fresh = grind arith

-- a question is replied to: the handshake went out
answers_early : (m : Machine) (hand : Hand) (question : Question) (replied : Replied) → IsEarly m → m.hand ≡ Some hand
    → is_waiting question hand.asked ≡ true → IsReply m.state.sizes (a_question question) replied
    → shows_end m.state.phase (a_question question) replied ≡ false
    → IsEarly (replied_machine m (a_question question) replied)
answers_early m hand question replied h is waits reply stays = record {
  attaches = rw (same_replied (a_question question) replied m.state, sent_same question replied m.state, is) (ap (λ (held : Option Hand).
      cond (is_fresh m.state.phase) (cond m.state.greeting_sent (has_attach (parts_left held)) true) true) (sym is)
      ∙ h.attaches);
  unsent = rw (sent_same question replied m.state ∙ sent) refl;
  sized = by_gone (is_gone m.state.phase) refl;
}
  where
    sent_same : (question : Question) (replied : Replied) (state : State)
        → (replied_to (a_question question) replied state).greeting_sent ≡ state.greeting_sent
    sent_same question replied state = grind arith

    sent : m.state.greeting_sent ≡ true
    sent = by_bools m.state.greeting_sent (has_waiting hand.asked) (is_none m.state.sizes)
        (waits_some question hand.asked waits) (asked_now h is)
      where
        by_bools : (sent waits none : Bool) → waits ≡ true → cond sent true (cond waits false none) ≡ true
            → sent ≡ true
        by_bools sent waits none some h = grind (arith, some, h)

    by_gone : (gone : Bool) → is_gone m.state.phase ≡ gone
        → cond (is_gone (replied_to (a_question question) replied m.state).phase) true (cond (has_composite m.waiting)
        (is_some (replied_to (a_question question) replied m.state).sizes) true) ≡ true
    by_gone true gone = rw (same_replied (a_question question) replied m.state, gone) refl
    by_gone false near = rw (same_replied (a_question question) replied m.state, near)
        (by_bools (has_composite m.waiting) (is_some m.state.sizes) _ (sized_near (is_gone m.state.phase) (has_composite m.waiting)
        (is_some m.state.sizes) near h.sized)
        (question_sizes m.state question replied reply
        (other_fails (is_gone m.state.phase) (is_end (a_question question) replied) near stays)))
      where
        sized_near : (gone has known : Bool) → gone ≡ false → cond gone true (cond has known true) ≡ true
            → cond has known true ≡ true
        sized_near gone has known near h = grind (arith, near, h)

        by_bools : (has known now : Bool) → cond has known true ≡ true → (known ≡ true → now ≡ true)
            → cond has now true ≡ true
        by_bools has known now h grows = grind (arith, h, grows)

pub early_on : (m next : Machine) (said : Option Message) → Passed greets_to_attach m → IsBehind m → IsEarly m
    → Moves m said next → IsEarly next
early_on m next said t b h (Moves.begins picked free none is) = record {
  attaches = by_bools (is_fresh m.state.phase) m.state.greeting_sent (has_attach (parts_of m.state picked.item))
      (ap (λ (held : Option Hand). cond (is_fresh m.state.phase) (cond m.state.greeting_sent
      (has_attach (parts_left held)) true) true) (sym none) ∙ h.attaches);
  unsent = ap (λ (held : Option Hand). cond m.state.greeting_sent true (cond (has_waiting (asked_in held)) false
      (is_none m.state.sizes))) (sym none) ∙ h.unsent;
  sized = fewer (is_gone m.state.phase) (has_composite m.waiting) (has_composite picked.rest) (is_some m.state.sizes)
      (has_rest (is_gone m.state.phase) m.waiting picked is) h.sized;
}
  where
    by_bools : (fresh sent now : Bool) → cond fresh (cond sent false true) true ≡ true
        → cond fresh (cond sent now true) true ≡ true
    by_bools fresh sent now h = grind (arith, h)

    fewer : (gone has rest known : Bool) → (has ≡ false → rest ≡ false) → cond gone true (cond has known true) ≡ true
        → cond gone true (cond rest known true) ≡ true
    fewer gone has rest known none h = grind (arith, none, h)
early_on m next said t b h (Moves.drops {hand} free is none) = record {
  attaches = ap (λ (parts : List Part). cond (is_fresh m.state.phase) (cond m.state.greeting_sent
      (has_attach parts) true) true) (sym none) ∙ ap (λ (held : Option Hand). cond (is_fresh m.state.phase)
      (cond m.state.greeting_sent (has_attach (parts_left held)) true) true) (sym is) ∙ h.attaches;
  unsent = by_bools m.state.greeting_sent (has_waiting (asked_in m.hand)) (is_none m.state.sizes) h.unsent;
  sized = h.sized;
}
  where
    by_bools : (sent waits none : Bool) → cond sent true (cond waits false none) ≡ true → cond sent true none ≡ true
    by_bools sent waits none h = grind (arith, h)
early_on m next said t b h (Moves.responds {hand} {rest} {outcome = outcome} free at is) =
    let (sent, sizes) = numbered_flags outcome m.state in
    parts_early m hand (Part.Responds outcome) rest rest (numbered_by outcome m.state) h at
    (ap is_fresh (same_numbered outcome m.state)) (ap is_gone (same_numbered outcome m.state)) sent sizes refl
early_on m next said t b h (Moves.finds {hand} {rest} {lookup} found free at needs done) =
    parts_early m hand (Part.Looks lookup) rest (finished lookup (result_of found) m.state ++ rest) m.state h at
    refl refl refl refl
    (plain_attach (finished lookup (result_of found) m.state) rest (finished_is lookup (result_of found) m.state).plain)
early_on m next said t b h (Moves.passes_over {hand} {part} {rest} free at why) =
    parts_early m hand part rest rest m.state h at refl refl refl refl (skipped_same rest why)
early_on m next said t b h (Moves.tells {hand} {rest} {event} free at) = event_early m hand event rest h at
early_on m next said t b h (Moves.sends {hand} {rest} {deed} free at near) =
    let e = parts_early m hand (Part.Sends deed) rest rest (after_deed deed m.state) h at refl refl refl refl refl in
    record { attaches = e.attaches; unsent = e.unsent; sized = e.sized }
early_on m next said t b h (Moves.updates {hand} {rest = rest} free at is near) =
    let e = parts_early m hand Part.Updates rest (Part.Updates ∷ rest) m.state h at refl refl refl refl refl in
    record { attaches = e.attaches; unsent = e.unsent; sized = e.sized }
early_on m next said t b h (Moves.greets {hand} {guard} {rest} free at is near) =
    greets_early m hand guard rest t h at is
early_on m next said t b h (Moves.notes {hand} {note} {rest} free at) =
    let (sent, sizes) = noted_flags note m.state in
    parts_early m hand (Part.Notes note) rest rest (noted note m.state) h at
    (ap is_fresh (same_noted note m.state)) (ap is_gone (same_noted note m.state)) sent sizes refl
early_on m next said t b h (Moves.unfolds {hand} {choice} {rest} free at) =
    parts_early m hand (Part.Unfolds choice) rest (chosen choice m.state hand ++ rest) m.state h at refl refl refl refl
    (plain_attach (chosen choice m.state hand) rest (chosen_is choice m.state hand).plain)
early_on m next said t b h (Moves.queues {hand} free is) = record {
  attaches = ap (λ (held : Option Hand). cond (is_fresh m.state.phase) (cond m.state.greeting_sent
      (has_attach (parts_left held)) true) true) (sym is) ∙ h.attaches;
  unsent = asked_now h is;
  sized = h.sized;
}
early_on m next said t b h (Moves.asks {hand} {want} {wants} free room is are) = record {
  attaches = rw is (ap (λ (held : Option Hand). cond (is_fresh m.state.phase) (cond m.state.greeting_sent
      (has_attach (parts_left held)) true) true) (sym is) ∙ h.attaches);
  unsent = rw (first_holds m.state.greeting_sent m.state.greeting_heard (both_queued m hand want wants b is are)) refl;
  sized = h.sized;
}
early_on m next said t b h (Moves.hears {request} read is) = record {
  attaches = h.attaches;
  unsent = h.unsent;
  sized = rw (has_more m.waiting (a_request request) refl) h.sized;
}
early_on m next said t b h (Moves.answers {question} {replied} {hand} is waits reply stays) =
    answers_early m hand question replied h is waits reply stays
early_on m next said t b h (Moves.replies {effect} {replied} {hand} is flies reply stays) = record {
  attaches = rw is (ap (λ (held : Option Hand). cond (is_fresh m.state.phase) (cond m.state.greeting_sent
      (has_attach (parts_left held)) true) true) (sym is) ∙ h.attaches);
  unsent = rw is (asked_now h is);
  sized = h.sized;
}
early_on m next said t b h (Moves.ends gone) = h
early_on m next said t b h (Moves.loses late near why) = record {
  attaches = refl;
  unsent = given m.hand h.unsent;
  sized = refl;
}
  where
    given : (held : Option Hand) → cond m.state.greeting_sent true (cond (has_waiting (asked_in held)) false
        (is_none m.state.sizes)) ≡ true
        → cond m.state.greeting_sent true (cond (has_waiting (asked_in (option_map given_up held))) false
        (is_none m.state.sizes)) ≡ true
    given None h = h
    given (Some hand) h = by_bools m.state.greeting_sent (has_waiting hand.asked) (is_none m.state.sizes) h
      where
        by_bools : (sent waits none : Bool) → cond sent true (cond waits false none) ≡ true
            → cond sent true none ≡ true
        by_bools sent waits none h = grind (arith, h)
early_on m next said t b h (Moves.comes {at} {composite} read sized taken) = record {
  attaches = h.attaches;
  unsent = h.unsent;
  sized = by_bools (is_gone m.state.phase) (has_composite (m.waiting ++ a_composite at composite ∷ []))
      (is_some m.state.sizes) sized;
}
  where
    by_bools : (gone has known : Bool) → known ≡ true → cond gone true (cond has known true) ≡ true
    by_bools gone has known is = grind (arith, is)
early_on m next said t b h (Moves.keeps {at} {body} is) = record {
  attaches = h.attaches;
  unsent = h.unsent;
  sized = rw (has_more m.waiting (a_raw at body) refl) h.sized;
}
early_on m next said t b h (Moves.reads {at} {body} {composite} before after read is none taken) = record {
  attaches = h.attaches;
  unsent = h.unsent;
  sized = by_bools (is_gone m.state.phase) (is_some m.state.sizes) (has_raw m.waiting)
      (has_composite (before ++ a_composite at composite ∷ after)) read;
}
  where
    by_bools : (gone known raw has : Bool) → cond gone false (cond known raw false) ≡ true
        → cond gone true (cond has known true) ≡ true
    by_bools gone known raw has read = grind (arith, read)
early_on m next said t b h _ = record { attaches = h.attaches; unsent = h.unsent; sized = h.sized }

pub always_early : {messages : List Message} {m : Machine} → Run messages m → IsEarly m
always_early r = by_runs {Holds = λ (messages : List Message) (m : Machine). IsEarly m} (record {
  starts = record { attaches = refl; unsent = refl; sized = refl };
  moves = λ messages m next said before h moved after.
      early_on m next said (tested greets_test before) (all_open before).holds.behind h moved;
  queues = λ messages m hand queue before may h.
      record { attaches = h.attaches; unsent = h.unsent; sized = h.sized };
}) r

-- At its turn ---------------------------------------------------------------------------------------------------------

picked_waits : (gone : Bool) (items : List Item) (picked : Picked) (at : ℕ) (composite : Composite)
    → pick gone items ≡ Some picked → picked.item ≡ a_composite at composite → has_composite items ≡ true
picked_waits gone [] picked at composite is item = cc
picked_waits gone (first ∷ items) picked at composite is item =
    by_raw (cond gone false (is_raw first)) (pick gone items)
    (λ other are same. picked_waits gone items other at composite are same) is
  where
    by_raw : (skips : Bool) (found : Option Picked)
        → ((other : Picked) → found ≡ Some other → other.item ≡ a_composite at composite
        → has_composite items ≡ true)
        → cond skips (passed_by first found) (Some (record { item = first; rest = items })) ≡ Some picked
        → (is_composite first || has_composite items) ≡ true
    by_raw true None rest now = cc
    by_raw true (Some other) rest now =
        let one : record { item = other.item; rest = first ∷ other.rest } ≡ picked = cc in
        or_right (is_composite first) (has_composite items) (rest other refl
        (ap (λ (picked : Picked). picked.item) one ∙ item))
    by_raw false found rest now =
        let one : record { item = first; rest = items } ≡ picked = cc in
        ap (λ (item : Item). is_composite item || has_composite items)
        (ap (λ (picked : Picked). picked.item) one ∙ item)

-- the session is attached by then, or its target is gone
pub not_fresh : (m : Machine) (picked : Picked) (at : ℕ) (composite : Composite) → IsEarly m → m.hand ≡ None
    → pick (is_gone m.state.phase) m.waiting ≡ Some picked → picked.item ≡ a_composite at composite
    → is_fresh m.state.phase ≡ false
not_fresh m picked at composite h none is item =
    by_bools (is_fresh m.state.phase) (is_gone m.state.phase) m.state.greeting_sent (has_composite m.waiting)
    (is_some m.state.sizes) (is_none m.state.sizes) (never_both m.state.phase) (some_or_none m.state.sizes)
    (picked_waits (is_gone m.state.phase) m.waiting picked at composite is item)
    (ap (λ (held : Option Hand). cond (is_fresh m.state.phase) (cond m.state.greeting_sent
    (has_attach (parts_left held)) true) true) (sym none) ∙ h.attaches)
    (ap (λ (held : Option Hand). cond m.state.greeting_sent true (cond (has_waiting (asked_in held)) false
    (is_none m.state.sizes))) (sym none) ∙ h.unsent) h.sized
  where
    never_both : (phase : Phase) → cond (is_fresh phase) (is_gone phase) false ≡ false
    never_both phase = grind arith

    some_or_none : (sizes : Option SizesRead) → is_some sizes ≡ not (is_none sizes)
    some_or_none sizes = grind arith

    by_bools : (fresh gone sent has known none : Bool) → cond fresh gone false ≡ false → known ≡ not none
        → has ≡ true → cond fresh (cond sent false true) true ≡ true → cond sent true none ≡ true
        → cond gone true (cond has known true) ≡ true → fresh ≡ false
    by_bools fresh gone sent has known none a b c d e f = grind (arith, a, b, c, d, e, f)
