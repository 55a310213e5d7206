-- Only a composite is judged and decided on, and until it is decided nothing changes of the event requests.
use Rattle.std.proofs.Common.{◌≡◌, ℕ, Bool, true, false, cond, List, [], ◌∷◌, ◌++◌, Option, Some, None, refl, sym, ap}
use Rattle.std.proofs.Common.{subst, ◌∙◌, option_map, arith}
use Rattle.std.specs.List.{AllByRecursion as All}
use Rattle.jdwp_events.specs.declared.kind.Policy.{Policy}
use Rattle.jdwp_events.specs.declared.kind.Policy.TheVariants.{NoThread, EventThread, All as AllThreads}
use Rattle.machine_model.specs.Composites.{composite_parts, has_death}
use Rattle.machine_model.specs.Due.{asked_hand, clear, load_of}
use Rattle.machine_model.specs.Lookups.{finished, found_for, stops_of}
use Rattle.machine_model.specs.Outcomes.{result_of}
use Rattle.machine_model.specs.Plans.{Need, Result, need}
use Rattle.machine_model.specs.Replying.{given_up, hand_replied}
use Rattle.machine_model.specs.Requests.{Wishes}
use Rattle.machine_model.specs.Rows.{chosen, failure_of, gone_parts, has_response, news_of, parts_by, parts_of, row_of}
use Rattle.machine_model.specs.Rows.{told_in, wanting}
use Rattle.machine_model.specs.Runs.{Message, Run}
use Rattle.machine_model.specs.State.{Hand, Machine, State, is_attached, is_flying, is_gone}
use Rattle.machine_model.specs.Stops.{decided, decided_by, events_in, hits_in, holds_entry, judged, logged_first}
use Rattle.machine_model.specs.Stops.{stop_among, strikes_in, surplus, thrown_in, told_part}
use Rattle.machine_steps.specs.Names.{Attached, Choice, Command, Decides, Doing, Effect, Failure, Finding, Fresh, Gone}
use Rattle.machine_steps.specs.Names.{Halt, HaltCause, Item, Judges, Logged, Lookup, News, Part, Phase, Replied}
use Rattle.machine_steps.specs.Names.{Strike, TellsNews, ThreadId, Thrown, Want, a_composite, a_question, a_raw}
use Rattle.machine_steps.specs.Names.{a_request, an_effect, breakpoint_hits, by_client, came_to, exception_text}
use Rattle.machine_steps.specs.Names.{has_stepped, threw, of_composite, Resume, StopCause, a_stop as a_halt}
use Rattle.machine_steps.proofs.PartTests.{all_pass, all_passing, both_pass, is_of_stop, passes}
use Rattle.machine_steps.proofs.RequestSteps.{is_judging, learnt_wishes, numbered_wishes, told_wishes}
use Rattle.machine_steps.proofs.RestLaws.{is_free}
use Rattle.machine_steps.proofs.HoldingParts.{holding, may_front}
use Rattle.machine_steps.proofs.Stepping.{IsAt, Moves, by_runs}
use Rattle.machine_steps.proofs.Tables.{of_judged, told_alike}
use Rattle.machine_steps.proofs.Testing.{IsTest, tested, whole}
use Rattle.machine_model.proofs.Bools.{second_holds}
use Rattle.composite_laws.proofs.OwedParts.{is_clients, is_composite, last_judged}

-- Parts that judge ----------------------------------------------------------------------------------------------------

-- a part that neither looks at the breakpoints that threads came to, nor decides by them
abbrev judges_none : Part → Bool
judges_none (Part.Looks (breakpoint_hits strikes)) = false
judges_none (Part.Unfolds (Decides logged stops)) = false
judges_none _ = true

abbrev is_logged : Part → Bool
is_logged (Part.Tells (Logged text)) = true
is_logged _ = false

-- such a part stands in front, or behind what is logged
abbrev judges_first : List Part → Bool
judges_first [] = true
judges_first (part ∷ rest) = cond (cond (is_logged part) true (passes judges_none rest)) (judges_first rest) false

abbrev judged_first : Bool → List Part → Bool
judged_first gone parts = judges_first parts

none_first : (parts : List Part) → passes judges_none parts ≡ true → judges_first parts ≡ true
none_first [] is = refl
none_first (part ∷ parts) is = by_tests (judges_none part) (is_logged part) _ _ is (none_first parts)
  where
    by_tests : (first logged others now : Bool) → cond first others false ≡ true → (others ≡ true → now ≡ true)
        → cond (cond logged true others) now false ≡ true
    by_tests first logged others now is more = grind (arith, is, more)

none_behind : (part : Part) (rest : List Part) → is_logged part ≡ false → judges_first (part ∷ rest) ≡ true
    → passes judges_none rest ≡ true
none_behind part rest other is = by_tests (is_logged part) _ _ other is
  where
    by_tests : (logged none others : Bool) → logged ≡ false → cond (cond logged true none) others false ≡ true
        → none ≡ true
    by_tests logged none others other is = grind (arith, other, is)

row_none : (failure : Option Failure) (command : Command) (state : State)
    → passes judges_none (parts_by failure (row_of command state)) ≡ true
row_none failure command state = grind arith

begun_none : (state : State) (item : Item) → passes judges_none (parts_of state item) ≡ true
begun_none state (a_request request) = row_none (failure_of (wanting request.command) state) request.command state
begun_none state (a_raw at body) = refl
begun_none state _ = grind arith

found_none : (lookup : Lookup) (result : Result Finding) (state : State) → is_judging lookup ≡ false
    → passes judges_none (finished lookup result state) ≡ true
found_none lookup result state is = grind (arith, is)

abbrev goes_on : Choice → Bool
goes_on (TellsNews below) = true
goes_on Judges = true
goes_on (Decides logged stops) = true
goes_on _ = false

chosen_none : (choice : Choice) (state : State) (hand : Hand) → goes_on choice ≡ false
    → passes judges_none (chosen choice state hand) ≡ true
chosen_none choice state hand is = grind (arith, is)

gone_none : (responds : Bool) (item : Item) → passes judges_none (gone_parts responds item) ≡ true
gone_none responds item = grind arith

-- of what is decided no part judges, but behind what is logged
decided_none : (state : State) (stops : List Strike) (item : Item) (rest : List Part) → passes judges_none rest ≡ true
    → passes judges_none (decided state [] stops item ++ rest) ≡ true
decided_none state stops item rest none = by_phase (is_attached state.phase)
  where
    told : (cause : HaltCause) (thread : ThreadId) → judges_none (told_part stops cause thread) ≡ true
    told (came_to at) thread = refl
    told (threw object) thread = refl
    told has_stepped thread = refl

    by_halt : (stopped : Bool) (cause : HaltCause) (thread : ThreadId)
        → passes judges_none (told_part stops cause thread ∷ surplus stopped ++ rest) ≡ true
    by_halt true cause thread = rw (told cause thread) none
    by_halt false cause thread = rw (told cause thread) none

    by_stop : (stopped holds : Bool) (thrown : List Thrown) (stop : Option Halt)
        → passes judges_none (decided_by stopped holds thrown stops stop ++ rest) ≡ true
    by_stop stopped true thrown None = none
    by_stop stopped false thrown None = none
    by_stop stopped holds thrown (Some halt) = by_halt stopped halt.cause halt.thread

    by_phase : (attached : Bool)
        → passes judges_none (cond attached (logged_first state [] stops (events_in item)) [] ++ rest) ≡ true
    by_phase false = none
    by_phase true = by_stop state.stopped (holds_entry state (events_in item))
        (thrown_in state.wishes (events_in item)) (stop_among stops (hits_in state.wishes (events_in item)))

chosen_first : (choice : Choice) (state : State) (hand : Hand) (rest : List Part)
    → judges_first (Part.Unfolds choice ∷ rest) ≡ true → judges_first (chosen choice state hand ++ rest) ≡ true
chosen_first (TellsNews below) state hand rest is =
    none_first (told_in state.phase (news_of below state hand.item) ++ rest)
    (told_alike (passes judges_none) (λ news parts. refl) state.phase (news_of below state hand.item) rest
    ∙ none_behind (Part.Unfolds (TellsNews below)) rest refl is)
chosen_first Judges state hand rest is =
    let none = none_behind (Part.Unfolds Judges) rest refl is in
    of_judged (λ (parts : List Part). judges_first (parts ++ rest) ≡ true) (none_first rest none)
    (λ strikes. rw none (none_first rest none)) state hand.item
chosen_first (Decides [] stops) state hand rest is =
    none_first (decided state [] stops hand.item ++ rest)
    (decided_none state stops hand.item rest (none_behind (Part.Unfolds (Decides [] stops)) rest refl is))
chosen_first (Decides (text ∷ texts) stops) state hand rest is =
    let none = none_behind (Part.Unfolds (Decides (text ∷ texts) stops)) rest refl is in
    by_phase (is_attached state.phase) none
  where
    by_phase : (attached : Bool) → passes judges_none rest ≡ true
        → judges_first (cond attached (logged_first state (text ∷ texts) stops (events_in hand.item)) [] ++ rest) ≡ true
    by_phase false none = none_first rest none
    by_phase true none = rw none (none_first rest none)
chosen_first choice state hand rest is = none_first (chosen choice state hand ++ rest)
    (both_pass judges_none (chosen choice state hand) rest (chosen_none choice state hand refl)
    (none_behind (Part.Unfolds choice) rest refl is))

found_first : (lookup : Lookup) (result : Result Finding) (state : State) (rest : List Part)
    → judges_first (Part.Looks lookup ∷ rest) ≡ true → judges_first (finished lookup result state ++ rest) ≡ true
found_first (breakpoint_hits strikes) result state rest is = is
found_first lookup result state rest is = none_first (finished lookup result state ++ rest)
    (both_pass judges_none (finished lookup result state) rest (found_none lookup result state refl)
    (none_behind (Part.Looks lookup) rest refl is))

first_test : IsTest judged_first
first_test = record {
  none = λ gone. refl;
  tail = λ gone part rest is. second_holds (cond (is_logged part) true (passes judges_none rest)) _ is;
  begins = λ state item. none_first (parts_of state item) (begun_none state item);
  unfolds = λ choice state hand rest is. chosen_first choice state hand rest is;
  finds = λ lookup result state rest is. found_first lookup result state rest is;
  gives_up = λ responds item. none_first (gone_parts responds item) (gone_none responds item);
}

behind_none : {messages : List Message} {m : Machine} {hand : Hand} {part : Part} {rest : List Part} → Run messages m
    → IsAt m hand part rest → is_logged part ≡ false → passes judges_none rest ≡ true
behind_none {part = part} {rest} r at other = none_behind part rest other (whole judged_first (tested first_test r) at)

-- What is judged ------------------------------------------------------------------------------------------------------

-- these are the breakpoints that threads came to by a composite, as the event requests stand now, and none changes
pub record AreStruck (wishes : Wishes) (item : Item) (doing : Option Doing) (strikes : List Strike) : Type 0 where
  pub composite : is_composite item ≡ true
  pub still : is_flying doing ≡ false
  pub are : strikes ≡ strikes_in wishes (events_in item)

-- only a composite is told of by a stop that the client didn't ask for
abbrev pub IsOwnStop : Item → StopCause → Type 0
IsOwnStop item by_client = Unit {0}
IsOwnStop item _ = is_composite item ≡ true

abbrev pub PartStruck : Wishes → Item → Option Doing → Part → Type 0
PartStruck wishes item doing (Part.Tells (a_halt stopping)) = IsOwnStop item stopping.cause
PartStruck wishes item doing (Part.Sends (Resume of_composite)) = is_composite item ≡ true
PartStruck wishes item doing (Part.Looks (exception_text thread object)) = is_composite item ≡ true
PartStruck wishes item doing (Part.Unfolds Judges) = is_composite item ≡ true
PartStruck wishes item doing (Part.Looks (breakpoint_hits strikes)) = AreStruck wishes item doing strikes
PartStruck wishes item doing (Part.Unfolds (Decides logged stops)) = AreStruck wishes item doing stops
PartStruck wishes item doing _ = Unit {0}

abbrev pub HandStruck : Wishes → Option Hand → Type 0
HandStruck wishes None = Unit {0}
HandStruck wishes (Some hand) = All (PartStruck wishes hand.item hand.effect) hand.parts

-- a part that does nothing with a composite
abbrev judges_later : Part → Bool
judges_later (Part.Tells (a_halt stopping)) = is_clients stopping.cause
judges_later (Part.Sends (Resume of_composite)) = false
judges_later (Part.Looks (exception_text thread object)) = false
judges_later (Part.Unfolds Judges) = false
judges_later part = judges_none part

own_stop : (item : Item) (cause : StopCause) → is_clients cause ≡ true → IsOwnStop item cause
own_stop item by_client is = tt
own_stop item _ is = cc

later_struck : (wishes : Wishes) (item : Item) (doing : Option Doing) (part : Part) → judges_later part ≡ true
    → PartStruck wishes item doing part
later_struck wishes item doing (Part.Tells (a_halt stopping)) is = own_stop item stopping.cause is
later_struck wishes item doing (Part.Sends (Resume of_composite)) is = cc
later_struck wishes item doing (Part.Looks (exception_text thread object)) is = cc
later_struck wishes item doing (Part.Unfolds Judges) is = cc
later_struck wishes item doing (Part.Looks (breakpoint_hits strikes)) is = cc
later_struck wishes item doing (Part.Unfolds (Decides logged stops)) is = cc
later_struck wishes item doing _ is = tt

-- where no part judges, it doesn't matter how the event requests stand
stands_so : (wishes now : Wishes) (item : Item) (doing then_ : Option Doing) (part : Part) → judges_none part ≡ true
    → PartStruck wishes item doing part → PartStruck now item then_ part
stands_so wishes now item doing then_ (Part.Tells (a_halt stopping)) is h = h
stands_so wishes now item doing then_ (Part.Sends (Resume of_composite)) is h = h
stands_so wishes now item doing then_ (Part.Looks (exception_text thread object)) is h = h
stands_so wishes now item doing then_ (Part.Unfolds Judges) is h = h
stands_so wishes now item doing then_ (Part.Looks (breakpoint_hits strikes)) is h = cc
stands_so wishes now item doing then_ (Part.Unfolds (Decides logged stops)) is h = cc
stands_so wishes now item doing then_ _ is h = tt

stand_so : (wishes now : Wishes) (item : Item) (doing then_ : Option Doing) (parts : List Part)
    → passes judges_none parts ≡ true → All (PartStruck wishes item doing) parts → All (PartStruck now item then_) parts
stand_so wishes now item doing then_ [] is h = tt
stand_so wishes now item doing then_ (part ∷ parts) is h =
    by_test (judges_none part) refl is (λ is. stand_so wishes now item doing then_ parts is h.1)
  where
    by_test : (first : Bool) → judges_none part ≡ first → cond first (passes judges_none parts) false ≡ true
        → (passes judges_none parts ≡ true → All (PartStruck now item then_) parts)
        → All (PartStruck now item then_) (part ∷ parts)
    by_test true one is others = (stands_so wishes now item doing then_ part one h.0, others is)
    by_test false one is others = cc

-- nor does any where the reply to an effect is to come
flies_none : (wishes : Wishes) (item : Item) (doing : Option Doing) (part : Part) → is_flying doing ≡ true
    → PartStruck wishes item doing part → judges_none part ≡ true
flies_none wishes item doing (Part.Looks (breakpoint_hits strikes)) flies h =
    let no : false ≡ true = sym h.still ∙ flies in cc
flies_none wishes item doing (Part.Unfolds (Decides logged stops)) flies h =
    let no : false ≡ true = sym h.still ∙ flies in cc
flies_none wishes item doing _ flies h = refl

fly_none : (wishes : Wishes) (item : Item) (doing : Option Doing) (parts : List Part) → is_flying doing ≡ true
    → All (PartStruck wishes item doing) parts → passes judges_none parts ≡ true
fly_none wishes item doing [] flies h = refl
fly_none wishes item doing (part ∷ parts) flies h =
    rw (flies_none wishes item doing part flies h.0) (fly_none wishes item doing parts flies h.1)

-- The tables ----------------------------------------------------------------------------------------------------------

others_later : (state : State) (item : Item) → is_composite item ≡ false
    → passes judges_later (parts_of state item) ≡ true
others_later state (a_request request) is =
    row_later (failure_of (wanting request.command) state) request.command state
  where
    row_later : (failure : Option Failure) (command : Command) (state : State)
        → passes judges_later (parts_by failure (row_of command state)) ≡ true
    row_later failure command state = grind arith
others_later state (a_raw at body) is = refl
others_later state item is = grind (arith, is)

begun_struck : (wishes : Wishes) (state : State) (item : Item) → All (PartStruck wishes item None) (parts_of state item)
begun_struck wishes state (a_composite at composite) =
    by_phase state.phase (has_death composite.events) composite.policy
  where
    by_phase : (phase : Phase) (dies : Bool) (policy : Policy) → All (PartStruck wishes (a_composite at composite) None)
        (composite_parts phase dies policy at state.next_entry)
    by_phase Attached false AllThreads = (tt, (tt, (tt, (refl, tt))))
    by_phase Attached false NoThread = (tt, (tt, (tt, tt)))
    by_phase Attached false EventThread = (tt, tt)
    by_phase Attached true AllThreads = (tt, tt)
    by_phase Attached true NoThread = (tt, tt)
    by_phase Attached true EventThread = (tt, tt)
    by_phase Fresh dies policy = tt
    by_phase Gone dies policy = tt
begun_struck wishes state item =
    all_pass judges_later (later_struck wishes item None) (parts_of state item) (others_later state item refl)

-- all that threads came to stops
all_stop : (strikes : List Strike) (state : State) (hand : Hand)
    → stops_of (result_of (found_for (breakpoint_hits strikes) state hand)) ≡ strikes
unfolding need
all_stop strikes state hand = refl

found_struck : (state : State) (hand : Hand) (lookup : Lookup) (found : Need Finding)
    → found_for lookup state hand ≡ found → (rest : List Part)
    → All (PartStruck state.wishes hand.item hand.effect) (Part.Looks lookup ∷ rest)
    → All (PartStruck state.wishes hand.item hand.effect) (finished lookup (result_of found) state ++ rest)
found_struck state hand (breakpoint_hits strikes) found needs rest h = (
  record {
    composite = h.0.composite;
    still = h.0.still;
    are = ap (λ (found : Need Finding). stops_of (result_of found)) (sym needs) ∙ all_stop strikes state hand ∙ h.0.are;
  },
  h.1,
)
found_struck state hand (exception_text thread object) found needs rest h = h
found_struck state hand lookup found needs rest h =
    all_passing judges_later (later_struck state.wishes hand.item hand.effect) (finished lookup (result_of found) state)
    rest (found_later lookup (result_of found) state refl refl) h.1
  where
    found_later : (lookup : Lookup) (result : Result Finding) (state : State) → is_judging lookup ≡ false
        → is_of_stop lookup ≡ false → passes judges_later (finished lookup result state) ≡ true
    found_later lookup result state is none = grind (arith, is, none)

decided_struck : (state : State) (item : Item) (doing : Option Doing) (logged : List (List ℕ)) (stops : List Strike)
    (rest : List Part) → AreStruck state.wishes item doing stops → All (PartStruck state.wishes item doing) rest
    → All (PartStruck state.wishes item doing) (decided state logged stops item ++ rest)
decided_struck state item doing logged stops rest s h = by_phase (is_attached state.phase) logged
  where
    told : (cause : HaltCause) (thread : ThreadId)
        → PartStruck state.wishes item doing (told_part stops cause thread)
    told (came_to at) thread = s.composite
    told (threw object) thread = s.composite
    told has_stepped thread = s.composite

    by_surplus : (stopped : Bool) → All (PartStruck state.wishes item doing) (surplus stopped ++ rest)
    by_surplus false = h
    by_surplus true = (s.composite, h)

    by_stop : (stopped holds : Bool) (thrown : List Thrown) (stop : Option Halt)
        → All (PartStruck state.wishes item doing) (decided_by stopped holds thrown stops stop ++ rest)
    by_stop stopped true thrown None = (tt, h)
    by_stop stopped false thrown None = (s.composite, h)
    by_stop stopped holds thrown (Some halt) =
        (tt, (tt, (tt, (told halt.cause halt.thread, by_surplus stopped))))

    by_phase : (attached : Bool) (logged : List (List ℕ)) → All (PartStruck state.wishes item doing)
        (cond attached (logged_first state logged stops (events_in item)) [] ++ rest)
    by_phase false logged = h
    by_phase true [] = by_stop state.stopped (holds_entry state (events_in item))
        (thrown_in state.wishes (events_in item)) (stop_among stops (hits_in state.wishes (events_in item)))
    by_phase true (text ∷ texts) = (tt, (s, h))

chosen_struck : {messages : List Message} {m : Machine} {hand : Hand} {choice : Choice} {rest : List Part}
    → Run messages m → load_of m ≡ clear → IsAt m hand (Part.Unfolds choice) rest
    → All (PartStruck m.state.wishes hand.item hand.effect) (Part.Unfolds choice ∷ rest)
    → All (PartStruck m.state.wishes hand.item hand.effect) (chosen choice m.state hand ++ rest)
chosen_struck {m = m} {hand} {choice = TellsNews below} {rest} r free at h =
    by_news m.state.phase (news_of below m.state hand.item)
  where
    by_news : (phase : Phase) (news : List News)
        → All (PartStruck m.state.wishes hand.item hand.effect) (told_in phase news ++ rest)
    by_news Attached (one ∷ news) = (tt, by_news Attached news)
    by_news _ _ = h.1
chosen_struck {m = m} {hand} {choice = Judges} {rest} r free at h =
    of_judged_now (last_judged m.state rest (may_front (holding r) at)).attached
  where
    near : (phase : Phase) → is_attached phase ≡ true → is_gone phase ≡ false
    near phase is = grind (arith, is)

    of_judged_now : is_attached m.state.phase ≡ true
        → All (PartStruck m.state.wishes hand.item hand.effect) (judged m.state hand.item ++ rest)
    of_judged_now attached = rw attached (
      record {
        composite = h.0;
        still = (is_free m hand free (near m.state.phase attached) at.in_hand).lands;
        are = refl;
      },
      h.1,
    )
chosen_struck {m = m} {hand} {choice = Decides logged stops} {rest} r free at h =
    decided_struck m.state hand.item hand.effect logged stops rest h.0 h.1
chosen_struck {m = m} {hand} {choice} {rest} r free at h =
    all_passing judges_later (later_struck m.state.wishes hand.item hand.effect) (chosen choice m.state hand) rest
    (chosen_later choice m.state hand refl) h.1
  where
    chosen_later : (choice : Choice) (state : State) (hand : Hand) → goes_on choice ≡ false
        → passes judges_later (chosen choice state hand) ≡ true
    chosen_later choice state hand is = grind (arith, is)

given_struck : (wishes : Wishes) (hand : Option Hand) → HandStruck wishes (option_map given_up hand)
given_struck wishes None = tt
given_struck wishes (Some hand) =
    all_pass judges_later (later_struck wishes hand.item (given_up hand).effect)
    (gone_parts (has_response hand.parts) hand.item) (gone_later (has_response hand.parts) hand.item)
  where
    gone_later : (responds : Bool) (item : Item) → passes judges_later (gone_parts responds item) ≡ true
    gone_later responds item = grind arith

-- In runs -------------------------------------------------------------------------------------------------------------

abbrev Struck : Machine → Type 0
Struck m = HandStruck m.state.wishes m.hand

pub struck_front : {m : Machine} {hand : Hand} {part : Part} {rest : List Part} → HandStruck m.state.wishes m.hand
    → IsAt m hand part rest → All (PartStruck m.state.wishes hand.item hand.effect) (part ∷ rest)
struck_front {m} {hand} h at =
    subst (λ (parts : List Part). All (PartStruck m.state.wishes hand.item hand.effect) parts) at.parts
    (subst (λ (held : Option Hand). HandStruck m.state.wishes held) at.in_hand h)

-- the event requests stand as they did
stood : {wishes now : Wishes} (hand : Option Hand) → now ≡ wishes → HandStruck wishes hand → HandStruck now hand
stood hand same h = subst (λ (wishes : Wishes). HandStruck wishes hand) (sym same) h

answered_struck : (wishes : Wishes) (question : _) (replied : Replied) (hand : Option Hand) → HandStruck wishes hand
    → HandStruck wishes (option_map (hand_replied (a_question question) replied) hand)
answered_struck wishes question replied None h = tt
answered_struck wishes question replied (Some hand) h = h

-- the reply to an effect came: nothing is judged by then
replied_struck : (wishes now : Wishes) (effect : Effect) (replied : Replied) (held : Option Hand) (hand : Hand)
    → held ≡ Some hand → hand.effect ≡ Some (record { effect = effect; reply = None }) → HandStruck wishes held
    → HandStruck now (option_map (hand_replied (an_effect effect) replied) held)
replied_struck wishes now effect replied None hand is flies h = tt
replied_struck wishes now effect replied (Some one) hand is flies h =
    let same : one ≡ hand = cc in
    let flying : is_flying one.effect ≡ true = ap (λ (hand : Hand). is_flying hand.effect) same ∙ ap is_flying flies in
    stand_so wishes now one.item one.effect (Some (record { effect = effect; reply = Some replied })) one.parts
    (fly_none wishes one.item one.effect one.parts flying h) h

asked_struck : (wishes : Wishes) (want : Want) (hand : Option Hand) → HandStruck wishes hand
    → HandStruck wishes (option_map (asked_hand want) hand)
asked_struck wishes want None h = tt
asked_struck wishes want (Some hand) h = h

struck_on : (messages : List Message) (m next : Machine) (said : Option Message) → Run messages m → Struck m
    → Moves m said next → Struck next
struck_on messages m next said r h (Moves.begins picked free none is) = begun_struck m.state.wishes m.state picked.item
struck_on messages m next said r h (Moves.drops free is none) = tt
struck_on messages m next said r h (Moves.responds {hand} {rest} {outcome = outcome} free at is) =
    stood (Some (record hand { parts = rest })) (numbered_wishes outcome m.state) (struck_front h at).1
struck_on messages m next said r h (Moves.finds {hand} {rest} {lookup} found free at needs done) =
    found_struck m.state hand lookup found needs rest (struck_front h at)
struck_on messages m next said r h (Moves.passes_over free at why) = (struck_front h at).1
struck_on messages m next said r h (Moves.tells {hand} {rest} {event} free at) =
    stood (Some (record hand { parts = rest })) (told_wishes event m.state) (struck_front h at).1
struck_on messages m next said r h (Moves.sends {hand} {rest} free at near) =
    stand_so m.state.wishes m.state.wishes hand.item hand.effect _ rest (behind_none r at refl) (struck_front h at).1
struck_on messages m next said r h (Moves.updates {hand} {rest = rest} free at is near) = (
  tt,
  stand_so m.state.wishes m.state.wishes hand.item hand.effect _ rest (behind_none r at refl)
      (struck_front h at).1,
)
struck_on messages m next said r h (Moves.notes {hand} {rest = rest} free at) =
    stand_so m.state.wishes next.state.wishes hand.item hand.effect hand.effect rest (behind_none r at refl)
    (struck_front h at).1
struck_on messages m next said r h (Moves.unfolds free at) = chosen_struck r free at (struck_front h at)
struck_on messages m next said r h (Moves.queues free is) =
    subst (λ (held : Option Hand). HandStruck m.state.wishes held) is h
struck_on messages m next said r h (Moves.asks {want = want} free room is are) =
    asked_struck m.state.wishes want m.hand h
struck_on messages m next said r h (Moves.answers {question} {replied} is waits reply stays) =
    stood next.hand (learnt_wishes question replied m.state) (answered_struck m.state.wishes question replied m.hand h)
struck_on messages m next said r h (Moves.replies {effect} {replied} {hand} is flies reply stays) =
    replied_struck m.state.wishes next.state.wishes effect replied m.hand hand is flies h
struck_on messages m next said r h (Moves.loses late near why) = given_struck next.state.wishes m.hand
struck_on messages m next said r h _ = h

pub always_struck : {messages : List Message} {m : Machine} → Run messages m → HandStruck m.state.wishes m.hand
always_struck r = by_runs {Holds = λ (messages : List Message) (m : Machine). Struck m} (record {
  starts = tt;
  moves = λ messages m next said before h moved after. struck_on messages m next said before h moved;
  queues = λ messages m hand queue before may h. h;
}) r
