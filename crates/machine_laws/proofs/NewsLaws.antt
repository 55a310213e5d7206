-- A breakpoint that is told is verified, and the client wasn't told that it is.
use Rattle.std.proofs.Common.{◌≡◌, ℕ, Bool, true, false, cond, List, [], ◌∷◌, ◌++◌, Option, Some, None, refl, ap, subst}
use Rattle.std.proofs.Common.{◌∙◌, sym, ◌==◌, option_map, arith, filter, map}
use Rattle.std.proofs.lemmas.Cmp.{nat_cmp_total, on_total}
use Rattle.std.proofs.lemmas.List.Elements.{All-contains_itself, All-filter, recursion_from_All}
use Rattle.std.proofs.lemmas.List.Kept.{IsStrictlySortedBy-filter}
use Rattle.std.specs.List.{AllByRecursion as All, Contains, flat_map}
use Rattle.std.specs.List.Sorted.{IsStrictlySortedBy}
use Rattle.std.specs.Ordering.{nat_cmp, on}
use Rattle.std.specs.declared.cmp.Ordering.{Ordering}
use Rattle.std.specs.declared.cmp.Ordering.TheVariants.{Less}
use Rattle.dap_messages.specs.declared.told.Breakpoint.{Breakpoint}
use Rattle.dap_messages.specs.declared.told.Event.TheVariants as events
use Rattle.jdwp_events.specs.declared.event.Event.{Event as ATargetEvent}
use Rattle.jdwp_events.specs.declared.event.Event.TheVariants as happened
use Rattle.jdwp_values.specs.declared.id.ThreadId.{ThreadId}
use Rattle.machine_model.specs.BreakpointEvents.{IsNews}
use Rattle.machine_model.specs.Breakpoints.{has_id, is_news, with_id}
use Rattle.machine_model.specs.Composites.{change_told, changes_in}
use Rattle.machine_model.specs.Due.{due}
use Rattle.machine_model.specs.Lookups.{finished}
use Rattle.machine_model.specs.Outcomes.{result_of}
use Rattle.machine_model.specs.Plans.{Result}
use Rattle.machine_model.specs.Replying.{given_up, told_by}
use Rattle.machine_model.specs.Requests.{Wishes, wishes_after}
use Rattle.machine_model.specs.Rows.{chosen, each_told, failure_of, gone_parts, has_response, news_of, noted, parts_by}
use Rattle.machine_model.specs.Rows.{parts_of, refused_with, row_of, stepped_by, told_in, wanting}
use Rattle.machine_model.specs.Runs.{Allows, Message, Run, said}
use Rattle.machine_model.specs.State.{Hand, Machine, State}
use Rattle.machine_model.specs.Telling.{numbered_by}
use Rattle.machine_steps.specs.Names.{Act, Attached, Choice, Command, Decides, Does, Effect, Failure, Finding}
use Rattle.machine_steps.specs.Names.{Judges, Logged}
use Rattle.machine_steps.specs.Names.{Initialized, Item, Lookup, News, Part, Phase, Question, Replied, TellsNews}
use Rattle.machine_steps.specs.Names.{Terminated, a_composite, a_question, a_raw, a_request, a_stop, an_effect}
use Rattle.machine_steps.specs.Names.{an_event, entry_verified, some_news, thread_changed, Stepped}
use Rattle.machine_steps.proofs.QuietLaws.{IsQuiet, near_flies, quiet_on}
use Rattle.machine_steps.proofs.RequestLaws.{IsDue, settling, was_due}
use Rattle.machine_steps.proofs.RequestSteps.{asked_left, flying_in, flying_of, learnt_wishes, parts_left, replied_left}
use Rattle.machine_steps.proofs.Stepping.{IsAt, Moves, Skips, by_moves, by_runs, moved, Loses}
use Rattle.machine_steps.proofs.Tables.{decided_alike, starts_updates, judged_alike}
use Rattle.wish_sets.proofs.OrderLaws.{sorted-fold}
use Rattle.wish_sets.specs.Entries.{all_entries, is_verified, verified}
use Rattle.wish_sets.specs.declared.entry.VerifiedEntry.{VerifiedEntry}
use Rattle.machine_model.specs.Stops.{decided, judged}

-- News that are left --------------------------------------------------------------------------------------------------

-- a breakpoint is to be told
abbrev is_told : Part → Bool
is_told (Part.Tells (some_news (entry_verified entry))) = true
is_told _ = false

abbrev has_told : List Part → Bool
has_told [] = false
has_told (part ∷ parts) = cond (is_told part) true (has_told parts)

-- The breakpoints that are to be told stand in front. Each is verified, and unknown to a client that was told of those
-- before it.
abbrev AreNews : List ℕ → Wishes → List Part → Type 0
AreNews ids w [] = Unit {0}
AreNews ids w (Part.Tells (some_news (entry_verified entry)) ∷ rest) =
    Contains (verified w) entry × (has_id ids entry.id ≡ false) × AreNews (with_id ids entry.id) w rest
AreNews ids w (_ ∷ rest) = has_told rest ≡ false

none_told : (ids : List ℕ) (w : Wishes) (parts : List Part) → has_told parts ≡ false → AreNews ids w parts
none_told ids w [] is = tt
none_told ids w (Part.Tells (some_news (entry_verified entry)) ∷ rest) is = cc
none_told ids w (_ ∷ rest) is = is

-- while event requests are set, none is
updates_none : (ids : List ℕ) (w : Wishes) (parts : List Part) → starts_updates parts ≡ true → AreNews ids w parts
    → has_told parts ≡ false
updates_none ids w parts is h = grind (arith, is, h)

-- The tables ----------------------------------------------------------------------------------------------------------

row_untold : (failure : Option Failure) (command : Command) (state : State)
    → has_told (parts_by failure (row_of command state)) ≡ false
row_untold failure command state = grind arith

begun_untold : (state : State) (item : Item) → has_told (parts_of state item) ≡ false
begun_untold state (a_request request) = row_untold (failure_of (wanting request.command) state) request.command state
begun_untold state (a_raw at body) = refl
begun_untold state _ = grind arith

found_same : (lookup : Lookup) (result : Result Finding) (state : State) (rest : List Part)
    → has_told (finished lookup result state ++ rest) ≡ has_told rest
found_same lookup result state rest = grind arith

given_untold : (ids : List ℕ) (w : Wishes) (hand : Option Hand) → AreNews ids w (parts_left (option_map given_up hand))
given_untold ids w None = tt
given_untold ids w (Some hand) = none_told ids w (given_up hand).parts (untold (has_response hand.parts) hand.item)
  where
    untold : (responds : Bool) (item : Item) → has_told (gone_parts responds item) ≡ false
    untold responds item = grind arith

-- What becomes news ---------------------------------------------------------------------------------------------------

abbrev by_id : VerifiedEntry → VerifiedEntry → Ordering
by_id = on (λ (entry : VerifiedEntry). entry.id) nat_cmp

-- an id that comes in front is another
less_other : (one other : ℕ) → nat_cmp one other ≡ Less → (one == other) ≡ false
less_other one other is = grind (arith, is)

has_behind : (ids : List ℕ) (id other : ℕ) → (id == other) ≡ false → has_id ids other ≡ false
    → has_id (ids ++ id ∷ []) other ≡ false
has_behind [] id other differs none = rw differs refl
has_behind (first ∷ ids) id other differs none = grind (arith, none, has_behind ids id other differs)

still_new : (ids : List ℕ) (id other : ℕ) → (id == other) ≡ false → has_id ids other ≡ false
    → has_id (with_id ids id) other ≡ false
still_new ids id other differs none = by_test (has_id ids id)
  where
    by_test : (known : Bool) → has_id (cond known ids (ids ++ id ∷ [])) other ≡ false
    by_test true = none
    by_test false = has_behind ids id other differs none

abbrev AreNew : List ℕ → List VerifiedEntry → Type 0
AreNew ids entries = All (λ (entry : VerifiedEntry). has_id ids entry.id ≡ false) entries

-- the others are as new once one is told
others_new : (ids : List ℕ) (one : VerifiedEntry) (entries : List VerifiedEntry)
    → All (λ (entry : VerifiedEntry). by_id one entry ≡ Less) entries → AreNew ids entries
    → AreNew (with_id ids one.id) entries
others_new ids one [] above new = tt
others_new ids one (entry ∷ entries) above new = (
  still_new ids one.id entry.id (less_other one.id entry.id above.0) new.0,
  others_new ids one entries above.1 new.1,
)

-- breakpoints that are told
abbrev pub breakpoints_told : List VerifiedEntry → List Part
breakpoints_told entries = each_told (map entry_verified entries)

pub each_joined : (some others : List News) (rest : List Part)
    → each_told (some ++ others) ++ rest ≡ each_told some ++ (each_told others ++ rest)
each_joined [] others rest = refl
each_joined (one ∷ some) others rest = ap (λ parts. Part.Tells (some_news one) ∷ parts) (each_joined some others rest)

-- threads that are told change nothing to what their parts change nothing to
pub changes_alike : {A : Type 0} (f : List Part → A)
    → ((started : Bool) (thread : ThreadId) (parts : List Part)
    → f (Part.Tells (some_news (thread_changed started thread)) ∷ parts) ≡ f parts)
    → (item : Item) (rest : List Part) → f (each_told (changes_in item) ++ rest) ≡ f rest
changes_alike f each (a_composite at composite) rest = by_events composite.events
  where
    by_events : (events : List ATargetEvent) → f (each_told (flat_map change_told events) ++ rest) ≡ f rest
    by_events [] = refl
    by_events (happened.ThreadStart request thread ∷ events) = each true thread _ ∙ by_events events
    by_events (happened.ThreadDeath request thread ∷ events) = each false thread _ ∙ by_events events
    by_events (_ ∷ events) = by_events events
changes_alike f each _ rest = refl

told_in_front : (w : Wishes) (ids : List ℕ) (entries : List VerifiedEntry) (rest : List Part) → has_told rest ≡ false
    → All (Contains (verified w)) entries → AreNew ids entries → IsStrictlySortedBy by_id entries
    → AreNews ids w (breakpoints_told entries ++ rest)
unfolding IsStrictlySortedBy
told_in_front w ids [] rest none among new sorted = none_told ids w rest none
told_in_front w ids (entry ∷ entries) rest none among new sorted = (
  among.0,
  new.0,
  told_in_front w (with_id ids entry.id) entries rest none among.1
      (others_new ids entry entries sorted.0 new.1) sorted.1,
)

news_new : (below : ℕ) (ids : List ℕ) (entries : List VerifiedEntry) → AreNew ids (filter (is_news below ids) entries)
news_new below ids [] = tt
news_new below ids (entry ∷ entries) = by_test (is_news below ids entry) refl (news_new below ids entries)
  where
    is_new : (known old : Bool) → cond old false (cond known false true) ≡ true → known ≡ false
    is_new known old is = grind (arith, is)

    by_test : (is : Bool) → is_news below ids entry ≡ is → AreNew ids (filter (is_news below ids) entries)
        → AreNew ids (cond is (entry ∷ filter (is_news below ids) entries) (filter (is_news below ids) entries))
    by_test true is again = (grind (arith, is), again)
    by_test false is again = again

verified_sorted : (w : Wishes) → IsStrictlySortedBy by_id (verified w)
unfolding IsStrictlySortedBy
verified_sorted w = sorted-fold (on_total (λ (entry : VerifiedEntry). entry.id) nat_cmp_total) []
    (filter (is_verified w) (all_entries w.wanted)) tt

unfolded_news : (state : State) (below : ℕ) (item : Item) (phase : Phase) (rest : List Part)
    → has_told rest ≡ false → AreNews state.bound state.wishes (told_in phase (news_of below state item) ++ rest)
unfolded_news state below item Attached rest none =
    let those = verified state.wishes in
    let test = is_news below state.bound in
    subst (AreNews state.bound state.wishes)
    (sym (each_joined (map entry_verified (filter test those)) (changes_in item) rest))
    (told_in_front state.wishes state.bound (filter test those) (each_told (changes_in item) ++ rest)
    (changes_alike has_told (λ started thread parts. refl) item rest ∙ none)
    (recursion_from_All (Contains those) (filter test those)
    (All-filter test (Contains those) those (All-contains_itself those)))
    (news_new below state.bound those) (IsStrictlySortedBy-filter by_id test those (verified_sorted state.wishes)))
unfolded_news state below item _ rest none = none_told state.bound state.wishes rest none

unfolded : (choice : Choice) (state : State) (hand : Hand) (rest : List Part) → has_told rest ≡ false
    → AreNews state.bound state.wishes (chosen choice state hand ++ rest)
unfolded (TellsNews below) state hand rest none = unfolded_news state below hand.item state.phase rest none
unfolded Judges state hand rest none =
    none_told state.bound state.wishes (judged state hand.item ++ rest)
    (judged_alike has_told (λ strikes parts. refl) state hand.item rest ∙ none)
unfolded (Decides logged stops) state hand rest none =
    none_told state.bound state.wishes (decided state logged stops hand.item ++ rest)
    (decided_alike has_told (λ thrown parts. refl) (λ stopping parts. refl) (λ thread object parts. refl)
    (λ parts. refl) (λ parts. refl) (λ text texts strikes parts. refl) state logged stops hand.item rest ∙ none)
unfolded Stepped state hand rest none =
    none_told state.bound state.wishes (stepped_by (refused_with hand.effect) ++ rest)
    (by_code (refused_with hand.effect) ∙ none)
  where
    by_code : (code : Option ℕ) → has_told (stepped_by code ++ rest) ≡ has_told rest
    by_code code = grind arith
unfolded choice state hand rest none =
    none_told state.bound state.wishes (chosen choice state hand ++ rest) (grind (arith, none))

-- Runs ----------------------------------------------------------------------------------------------------------------

abbrev IsTelling : Machine → Type 0
IsTelling m = AreNews m.state.bound m.state.wishes (parts_left m.hand)

at_front : {m : Machine} {hand : Hand} {part : Part} {rest : List Part} → IsTelling m → IsAt m hand part rest
    → AreNews m.state.bound m.state.wishes (part ∷ rest)
at_front {m} h at = subst (λ (parts : List Part). AreNews m.state.bound m.state.wishes parts) at.parts
    (subst (λ (held : Option Hand). AreNews m.state.bound m.state.wishes (parts_left held)) at.in_hand h)

pub learnt_bound : (question : Question) (replied : Replied) (state : State)
    → (told_by question replied state).bound ≡ state.bound
learnt_bound question replied state = grind arith

-- news aren't left where the reply changes what stands
replied_news : (ids : List ℕ) (w : Wishes) (parts : List Part) (effect : Effect) (replied : Replied)
    → IsDue w parts (Some effect) → AreNews ids w parts → AreNews ids (wishes_after effect replied w) parts
replied_news ids w parts (Does deed) replied due h = h
replied_news ids w parts effect replied due h =
    none_told ids (wishes_after effect replied w) parts (updates_none ids w parts (due refl).1 h)

pub quiet : {messages : List Message} {m : Machine} → Run messages m → IsQuiet m
quiet r = by_moves {Holds = λ (messages : List Message) (m : Machine). IsQuiet m}
    (record {
      starts = refl;
      moves = λ messages m next said h moved. quiet_on m next said h moved;
      queues = λ messages m hand queue may h. h;
    }) r

telling_on : (messages : List Message) (m next : Machine) (said : Option Message) → Run messages m → IsTelling m
    → Moves m said next → IsTelling next
telling_on messages m next said r h (Moves.begins picked free none is) =
    none_told m.state.bound m.state.wishes (parts_of m.state picked.item) (begun_untold m.state picked.item)
telling_on messages m next said r h (Moves.drops free is none) = tt
telling_on messages m next said r h (Moves.responds {rest = rest} {outcome = outcome} free at is) =
    none_told (numbered_by outcome m.state).bound (numbered_by outcome m.state).wishes rest (at_front h at)
telling_on messages m next said r h (Moves.finds {rest = rest} {lookup} found free at needs done) =
    none_told m.state.bound m.state.wishes (finished lookup (result_of found) m.state ++ rest)
    (found_same lookup (result_of found) m.state rest ∙ at_front h at)
telling_on messages m next said r h (Moves.passes_over {rest = rest} free at (Skips.by_guard is)) =
    none_told m.state.bound m.state.wishes rest (at_front h at)
telling_on messages m next said r h (Moves.passes_over {rest = rest} free at (Skips.by_wishes is)) =
    none_told m.state.bound m.state.wishes rest (at_front h at)
telling_on messages m next said r h (Moves.passes_over {rest = rest} free at (Skips.no_request is)) =
    none_told m.state.bound m.state.wishes rest (at_front h at)
telling_on messages m next said r h (Moves.tells {rest = rest} {event = Initialized} free at) =
    none_told m.state.bound m.state.wishes rest (at_front h at)
telling_on messages m next said r h (Moves.tells {event = some_news (entry_verified entry)} free at) = (at_front h at).2
telling_on messages m next said r h
    (Moves.tells {rest = rest} {event = some_news (thread_changed started thread)} free at) =
    none_told m.state.bound m.state.wishes rest (at_front h at)
telling_on messages m next said r h (Moves.tells {rest = rest} {event = a_stop stopping} free at) =
    none_told m.state.bound m.state.wishes rest (at_front h at)
telling_on messages m next said r h (Moves.tells {rest = rest} {event = Logged text} free at) =
    none_told m.state.bound m.state.wishes rest (at_front h at)
telling_on messages m next said r h (Moves.tells {rest = rest} {event = Terminated} free at) =
    none_told m.state.bound m.state.wishes rest (at_front h at)
telling_on messages m next said r h (Moves.sends {rest = rest} free at near) =
    none_told m.state.bound m.state.wishes rest (at_front h at)
telling_on messages m next said r h (Moves.updates free at is near) = at_front h at
telling_on messages m next said r h (Moves.notes {note = note} {rest} free at) =
    none_told (noted note m.state).bound (noted note m.state).wishes rest (at_front h at)
telling_on messages m next said r h (Moves.unfolds {hand} {choice} {rest} free at) =
    unfolded choice m.state hand rest (at_front h at)
telling_on messages m next said r h (Moves.queues free is) =
    subst (λ (held : Option Hand). AreNews m.state.bound m.state.wishes (parts_left held)) is h
telling_on messages m next said r h (Moves.asks {want = want} free room is are) = rw (asked_left want m.hand) h
telling_on messages m next said r h (Moves.answers {question} {replied} is waits reply stays) =
    rw (
      learnt_bound question replied m.state,
      learnt_wishes question replied m.state,
      replied_left (a_question question) replied m.hand,
    ) h
telling_on messages m next said r h (Moves.replies {effect} {replied} {hand} is flies reply stays) =
    let near = near_flies m hand effect (quiet r) is flies in
    let due = was_due m effect (settling r near).awaited (ap flying_in is ∙ ap flying_of flies) in
    rw (replied_left (an_effect effect) replied m.hand)
    (replied_news m.state.bound m.state.wishes (parts_left m.hand) effect replied due h)
telling_on messages m next said r h (Moves.loses late near why) = given_untold m.state.bound m.state.wishes m.hand
telling_on messages m next said r h _ = h

telling : {messages : List Message} {m : Machine} → Run messages m → IsTelling m
telling r = by_runs {Holds = λ (messages : List Message) (m : Machine). IsTelling m} (record {
  starts = tt;
  moves = λ messages m next said before h moved after. telling_on messages m next said before h moved;
  queues = λ messages m hand queue before may h. h;
}) r

-- The law -------------------------------------------------------------------------------------------------------------

news_at : (m next : Machine) (said : Option Message) (told : Breakpoint) → IsTelling m
    → said ≡ Some (Message.tells (an_event (events.Breakpoint told))) → Moves m said next → IsNews m.state told
news_at m next said told h is (Moves.tells {event = some_news (entry_verified entry)} free at) =
    let front = at_front h at in
    record { entry = entry; is_told = cc; is_verified = front.0; is_new = front.1 }
news_at m next said told h is (Moves.loses late near Loses.by_end) = cc
news_at m next said told h is _ = cc

pub tells_news : (messages : List Message) (m : Machine) (told : Breakpoint) → Run messages m
    → (due false m).act ≡ Act.Tells (an_event (events.Breakpoint told)) → IsNews m.state told
tells_news messages m told r is =
    news_at m (due false m).next _ told (telling r) refl (moved (Allows.acts (ap said is)))
