-- Where the target has refused the event request of a step, its request fails.
use Rattle.std.proofs.Common.{◌≡◌, ◌||◌, ◌&&◌, ℕ, Bool, true, false, cond, not, List, [], ◌∷◌, ◌++◌, Option, Some}
use Rattle.std.proofs.Common.{None, refl, sym, ap, subst, ◌∙◌, ◌⊎◌, inl, inr, option_map, arith}
use Rattle.std.specs.Prelude.{find}
use Rattle.std.specs.List.{AllByRecursion as All}
use Rattle.std.specs.List.Sorted.{IsStrictlySortedBy}
use Rattle.std.specs.Ordering.{is_eq}
use Rattle.std.specs.declared.cmp.Ordering.TheVariants.{Less}
use Rattle.dap_messages.specs.declared.told.Response.{Response}
use Rattle.machine_model.specs.Due.{asked_hand, due, newly_lacked}
use Rattle.machine_model.specs.Replying.{hand_replied}
use Rattle.machine_model.specs.Requests.{Wishes, effect_due, effect_of, wishes_after}
use Rattle.machine_model.specs.Rest.{request_in, response_by}
use Rattle.machine_model.specs.Rows.{chosen, code_in, refused_with, stepped_by}
use Rattle.machine_model.specs.Runs.{Allows, Message, Run, said}
use Rattle.machine_model.specs.State.{Hand, Machine, is_gone, is_some}
use Rattle.machine_laws.specs.NamedThreads.{IsStep}
use Rattle.machine_steps.specs.Names.{Choice, Command, Effect, Failed, Part, Question, Replied, Request}
use Rattle.machine_steps.specs.Names.{Set, Stepped, Success, ThreadId, Want, a_question, a_request}
use Rattle.machine_steps.specs.Names.{Act, a_response, an_effect, an_error}
use Rattle.machine_laws.specs.StepRequests.{AsksStep, HasFailed, HasRefused}
use Rattle.machine_laws.proofs.ConfiguredEntry.{succeeds}
use Rattle.machine_steps.proofs.IdLaws.{last_or_not}
use Rattle.machine_laws.proofs.LeavingLaws.{first_in}
use Rattle.machine_laws.proofs.NamedLaws.{setting, wished_step}
use Rattle.machine_laws.proofs.PausedEvents.{behind_more, none_yet, same_held, same_told}
use Rattle.machine_steps.proofs.RequestLaws.{settling, was_due}
use Rattle.machine_steps.proofs.RequestSteps.{flying_in, flying_of, learnt_wishes, near_before}
use Rattle.machine_steps.proofs.RestLaws.{late_gone, no_late}
use Rattle.machine_steps.proofs.Stepping.{IsAt, Loses, Moves, Skips, gone_on, moved}
use Rattle.machine_steps.proofs.WishLemmas.{due_set, new_set_due}
use Rattle.wish_sets.proofs.LeftLaws.{each-has}
use Rattle.wish_sets.proofs.NextLaws.{is-none, sets-is}
use Rattle.wish_sets.proofs.TidyLaws.{refused-with}
use Rattle.wish_sets.proofs.WishLaws.{is_itself, wished_in_order}
use Rattle.wish_sets.specs.Order.{has_wish, is_wish, wish_cmp}
use Rattle.wish_sets.specs.Wanted.{Wanted}
use Rattle.wish_sets.specs.Wished.{wished}
use Rattle.wish_sets.specs.Wishes.{is_installed, is_missing, refused_now}
use Rattle.wish_sets.specs.declared.wish.Depth.{Depth}
use Rattle.wish_sets.specs.declared.wish.StepWish.{StepWish}
use Rattle.wish_sets.specs.declared.wish.Wish.{Wish}
use Rattle.wish_sets.specs.declared.wish.Wish.TheVariants as wishes

-- Behind a step nothing is set ----------------------------------------------------------------------------------------

-- the last that passes is the first, too: without it none does
last_alone : (it : Wish) (p q : Wish → Bool) → ((v : Wish) → q v ≡ (p v && not (is_wish v it))) → (those : List Wish)
    → All (λ v. ¬ (wish_cmp it v ≡ Less)) those → IsStrictlySortedBy wish_cmp those → find p those ≡ Some it
    → find q those ≡ None
unfolding IsStrictlySortedBy
last_alone it p q without [] none sorted is = cc
last_alone it p q without (x ∷ xs) none sorted is = by_test (p x) refl is (last_alone it p q without xs none.1 sorted.1)
  where
    no_more : x ≡ it → (ys : List Wish) → All (λ y. wish_cmp x y ≡ Less) ys → All (λ v. ¬ (wish_cmp it v ≡ Less)) ys
        → find q ys ≡ None
    no_more same [] above none = refl
    no_more same (y ∷ ys) above none =
        absurd (none.0 (ap (λ (one : Wish). wish_cmp one y) (sym same) ∙ above.0))

    by_test : (passes : Bool) → p x ≡ passes → cond passes (Some x) (find p xs) ≡ Some it
        → (find p xs ≡ Some it → find q xs ≡ None) → find q (x ∷ xs) ≡ None
    by_test true passes is others =
        let same : x ≡ it = cc in
        let fails : q x ≡ false = without x ∙ ap (λ (one : Wish). p x && not (is_wish x one)) (sym same)
        ∙ ap (λ (b : Bool). p x && not b) (is_itself x) ∙ rw passes refl in
        rw fails (no_more same xs sorted.0 none.1)
    by_test false passes is others =
        let fails : q x ≡ false = without x ∙ rw passes refl in rw fails (others is)

module _ (thread : ThreadId) (depth : Depth) where
  abbrev it : Wish
  it = wishes.Step thread depth

  one_step : {A : Type 0} (one other : StepWish) → wish_cmp (wishes.Step one.thread one.depth) (wishes.Step other.thread
      other.depth) ≡ Less → one ≡ other → A
  one_step one other less same =
      let no : false ≡ true = sym (ap is_eq (ap (λ (step : StepWish).
      wish_cmp (wishes.Step one.thread one.depth) (wishes.Step step.thread step.depth)) same ∙ less))
      ∙ is_itself (wishes.Step one.thread one.depth) in cc

  -- a step is the last that is wished
  none_above : (wanted : Wanted) → has_wish (wished wanted) it ≡ true → (v : Wish) → has_wish (wished wanted) v ≡ true
      → ¬ (wish_cmp it v ≡ Less)
  none_above wanted is (wishes.Step other more) v_is = λ less.
      one_step (record { thread = thread; depth = depth }) (record { thread = other; depth = more }) less
      (same_some (sym (wished_step thread depth wanted is) ∙ wished_step other more wanted v_is))
    where
      same_some : {one other : StepWish} → Some one ≡ Some other → one ≡ other
      same_some same = cc
  none_above wanted is _ v_is = λ less. cc

  each_below : (wanted : Wanted) → has_wish (wished wanted) it ≡ true → (those : List Wish)
      → All (λ v. has_wish (wished wanted) v ≡ true) those → All (λ v. ¬ (wish_cmp it v ≡ Less)) those
  each_below wanted is [] all = tt
  each_below wanted is (v ∷ those) all = (none_above wanted is v all.0, each_below wanted is those all.1)

  missing_less : (installed refused same : Bool)
      → not (installed || (same || refused)) ≡ (not (installed || refused) && not same)
  missing_less installed refused same = grind arith

  -- once it is refused no event request is to be set or cleared
  none_behind : (w : Wishes) → effect_due w ≡ Some (Set it) → effect_due (refused_now it w) ≡ None
  none_behind w is =
      let found = sets-is w it (due_set w it is) in
      let new = new_set_due w it is in
      ap (option_map effect_of) (is-none (refused_now it w) found.0
      (last_alone it (is_missing w.installed w.refused) (is_missing w.installed (refused_now it w).refused)
      (λ v. ap (λ (b : Bool). not (is_installed w.installed v || b)) (refused-with it w.refused v)
      ∙ missing_less (is_installed w.installed v) (has_wish w.refused v) (is_wish v it))
      (wished w.wanted) (each_below w.wanted new.is_wished (wished w.wanted)
      (each-has (wished w.wanted) (wished w.wanted) (λ v h. h))) (wished_in_order w.wanted) found.1))

-- What is left of such a step -----------------------------------------------------------------------------------------

-- it is to be decided how the step goes on
abbrev decides : List Part → Bool
decides [] = false
decides (Part.Responds outcome ∷ parts) = false
decides (Part.Unfolds Stepped ∷ parts) = true
decides (part ∷ parts) = decides parts

-- the response that comes says that the request fails, by the error that the last effect was refused with
abbrev fails_next : Option ℕ → List Part → Bool
fails_next code [] = false
fails_next code (Part.Responds outcome ∷ parts) = not (succeeds outcome)
fails_next code (Part.Unfolds Stepped ∷ parts) = is_some code
fails_next code (Part.Updates ∷ parts) = fails_next code parts
fails_next code (Part.Notes note ∷ parts) = cond (decides parts) false (fails_next code parts)
fails_next code (part ∷ parts) = false

-- another error makes no difference once that is decided
by_no_code : (parts : List Part) (code other : Option ℕ) → decides parts ≡ false
    → fails_next code parts ≡ fails_next other parts
by_no_code [] code other none = refl
by_no_code (Part.Responds outcome ∷ parts) code other none = refl
by_no_code (Part.Unfolds Stepped ∷ parts) code other none = cc
by_no_code (Part.Updates ∷ parts) code other none = by_no_code parts code other none
by_no_code (Part.Notes note ∷ parts) code other none =
    ap (λ (fails : Bool). cond (decides parts) false fails) (by_no_code parts code other none)
by_no_code (part ∷ parts) code other none = refl

-- and without one it is decided
none_decides : (parts : List Part) → fails_next None parts ≡ true → decides parts ≡ false
none_decides [] fails = cc
none_decides (Part.Responds outcome ∷ parts) fails = refl
none_decides (Part.Unfolds Stepped ∷ parts) fails = cc
none_decides (Part.Updates ∷ parts) fails = none_decides parts fails
none_decides (Part.Notes note ∷ parts) fails = by_test (decides parts) fails
  where
    by_test : (is : Bool) → cond is false (fails_next None parts) ≡ true → is ≡ false
    by_test is fails = grind (arith, fails)
none_decides (part ∷ parts) fails = cc

stepped_fails : (code : Option ℕ) (rest : List Part) → is_some code ≡ true
    → (fails_next code (stepped_by code ++ rest) ≡ true) × (decides (stepped_by code ++ rest) ≡ false)
stepped_fails None rest is = cc
stepped_fails (Some code) rest is = (refl, refl)

-- the request in hand asks for a step of this depth, and is to fail
record Fails (w : Wishes) (depth : Depth) (hand : Hand) : Type 0 where
  request : Request
  number : ℕ
  is_request : hand.item ≡ a_request request
  steps : IsStep request.command depth number
  fails : fails_next (refused_with hand.effect) hand.parts ≡ true
  none_due : decides hand.parts ≡ true → effect_due w ≡ None

abbrev HandFails : Wishes → Depth → Option Hand → Type 0
HandFails w depth None = ⊥
HandFails w depth (Some hand) = Fails w depth hand

-- In runs -------------------------------------------------------------------------------------------------------------

module _ (depth : Depth) where
  -- the item stays, and so does what is to come of it
  onward : {w : Wishes} {hand : Hand} (now : Wishes) (next : Hand) → next.item ≡ hand.item
      → fails_next (refused_with next.effect) next.parts ≡ true → (decides next.parts ≡ true → effect_due now ≡ None)
      → Fails w depth hand → Fails now depth next
  onward now next same fails none f = record {
    request = f.request;
    number = f.number;
    is_request = same ∙ f.is_request;
    steps = f.steps;
    fails = fails;
    none_due = none;
  }

  decided : {w : Wishes} {hand : Hand} (now : Wishes) (next : Hand) → next.item ≡ hand.item
      → fails_next (refused_with next.effect) next.parts ≡ true → decides next.parts ≡ false → Fails w depth hand
      → Fails now depth next
  decided now next same fails none f =
      onward now next same fails (λ is. let no : false ≡ true = sym none ∙ is in cc) f

  rewished_still : (w now : Wishes) (hand : Option Hand) → now ≡ w → HandFails w depth hand → HandFails now depth hand
  rewished_still w now hand same h = subst (λ (w : Wishes). HandFails w depth hand) (sym same) h

  asked_fails : (w : Wishes) (want : Want) (hand : Option Hand) → HandFails w depth hand
      → HandFails w depth (option_map (asked_hand want) hand)
  asked_fails w want None h = h
  asked_fails w want (Some hand) h = onward w (asked_hand want hand) refl h.fails h.none_due h

  answered_fails : (w : Wishes) (question : Question) (replied : Replied) (hand : Option Hand)
      → HandFails w depth hand → HandFails w depth (option_map (hand_replied (a_question question) replied) hand)
  answered_fails w question replied None h = h
  answered_fails w question replied (Some hand) h =
      onward w (hand_replied (a_question question) replied hand) refl h.fails h.none_due h

  replied_fails : {w : Wishes} (now : Wishes) (effect : Effect) (replied : Replied) (hand : Hand)
      → refused_with hand.effect ≡ None → Fails w depth hand
      → Fails now depth (hand_replied (an_effect effect) replied hand)
  replied_fails now effect replied hand flies f =
      let fails : fails_next None hand.parts ≡ true =
      ap (λ (code : Option ℕ). fails_next code hand.parts) (sym flies) ∙ f.fails in
      let none = none_decides hand.parts fails in
      decided now (hand_replied (an_effect effect) replied hand) refl
      (by_no_code hand.parts (code_in (Some replied)) None none ∙ fails) none f

  module _ {m : Machine} {hand : Hand} {part : Part} {rest : List Part} (h : HandFails m.state.wishes depth m.hand)
      (at : IsAt m hand part rest) where
    front : Fails m.state.wishes depth hand
    front = subst (λ (held : Option Hand). HandFails m.state.wishes depth held) at.in_hand h

    front_fails : fails_next (refused_with hand.effect) (part ∷ rest) ≡ true
    front_fails = ap (fails_next (refused_with hand.effect)) (sym at.parts) ∙ front.fails

    front_due : decides (part ∷ rest) ≡ true → effect_due m.state.wishes ≡ None
    front_due is = front.none_due (ap decides at.parts ∙ is)

  updated_fails : {m : Machine} {hand : Hand} {rest : List Part} (effect : Effect) → IsAt m hand Part.Updates rest
      → effect_due m.state.wishes ≡ Some effect → HandFails m.state.wishes depth m.hand
      → Fails m.state.wishes depth
      (record hand { parts = Part.Updates ∷ rest; effect = Some (record { effect = effect; reply = None }) })
  updated_fails {m} {hand} {rest} effect at is h = by_test (decides rest) refl
    where
      by_test : (waits : Bool) → decides rest ≡ waits → Fails m.state.wishes depth
          (record hand { parts = Part.Updates ∷ rest; effect = Some (record { effect = effect; reply = None }) })
      by_test true waits = let no : None ≡ Some effect = sym (front_due h at waits) ∙ is in cc
      by_test false waits = decided m.state.wishes
          (record hand { parts = Part.Updates ∷ rest; effect = Some (record { effect = effect; reply = None }) }) refl
          (by_no_code rest None (refused_with hand.effect) waits ∙ front_fails h at) waits (front h at)

  noted_fails : (w now : Wishes) (hand : Hand) (rest : List Part) (waits : Bool) → decides rest ≡ waits
      → cond waits false (fails_next (refused_with hand.effect) rest) ≡ true → Fails w depth hand
      → Fails now depth (record hand { parts = rest })
  noted_fails w now hand rest true is fails f = cc
  noted_fails w now hand rest false is fails f = decided now (record hand { parts = rest }) refl fails is f

  unfolded_fails : (m : Machine) (hand : Hand) (rest : List Part) (choice : Choice)
      → fails_next (refused_with hand.effect) (Part.Unfolds choice ∷ rest) ≡ true → Fails m.state.wishes depth hand
      → Fails m.state.wishes depth (record hand { parts = chosen choice m.state hand ++ rest })
  unfolded_fails m hand rest Stepped fails f =
      let stepped = stepped_fails (refused_with hand.effect) rest fails in
      decided m.state.wishes (record hand { parts = stepped_by (refused_with hand.effect) ++ rest }) refl stepped.0
      stepped.1 f
  unfolded_fails m hand rest _ fails f = cc

  skipped_fails : (m : Machine) (hand : Hand) {part : Part} (rest : List Part) → Skips m hand part
      → fails_next (refused_with hand.effect) (part ∷ rest) ≡ true
      → (decides (part ∷ rest) ≡ true → effect_due m.state.wishes ≡ None) → Fails m.state.wishes depth hand
      → Fails m.state.wishes depth (record hand { parts = rest })
  skipped_fails m hand rest (Skips.by_guard is) fails none f = cc
  skipped_fails m hand rest (Skips.by_wishes is) fails none f =
      onward m.state.wishes (record hand { parts = rest }) refl fails none f
  skipped_fails m hand rest (Skips.no_request is) fails none f =
      let no : [] ≡ f.request ∷ [] = sym is ∙ ap request_in f.is_request in cc

abbrev response_said : Option Message → List Response
response_said None = []
response_said (Some message) = response_by message

fails_on : (m next : Machine) (said : Option Message) (depth : Depth) → is_gone next.state.phase ≡ false
    → response_said said ≡ [] → HandFails m.state.wishes depth m.hand → Moves m said next
    → HandFails next.state.wishes depth next.hand
fails_on m next said depth near none h (Moves.begins picked free held is) =
    absurd (subst (λ (held : Option Hand). HandFails m.state.wishes depth held) held h)
fails_on m next said depth near none h (Moves.drops {hand} free is empty) =
    let f = subst (λ (held : Option Hand). HandFails m.state.wishes depth held) is h in
    let no : false ≡ true = ap (fails_next (refused_with hand.effect)) (sym empty) ∙ f.fails in cc
fails_on m next said depth near none h (Moves.responds free at is) = cc
fails_on m next said depth near none h (Moves.finds found free at needs done) =
    let no : false ≡ true = front_fails depth h at in cc
fails_on m next said depth near none h (Moves.passes_over {hand} {rest = rest} free at why) =
    skipped_fails depth m hand rest why (front_fails depth h at) (front_due depth h at) (front depth h at)
fails_on m next said depth near none h (Moves.tells free at) = let no : false ≡ true = front_fails depth h at in cc
fails_on m next said depth near none h (Moves.sends free at close) =
    let no : false ≡ true = front_fails depth h at in cc
fails_on m next said depth near none h (Moves.updates {effect = effect} free at is close) =
    updated_fails depth effect at is h
fails_on m next said depth near none h (Moves.greets free at is close) =
    let no : false ≡ true = front_fails depth h at in cc
fails_on m next said depth near none h (Moves.notes {hand} {rest = rest} free at) =
    noted_fails depth m.state.wishes next.state.wishes hand rest (decides rest) refl (front_fails depth h at)
    (front depth h at)
fails_on m next said depth near none h (Moves.unfolds {hand} {choice} {rest} free at) =
    unfolded_fails depth m hand rest choice (front_fails depth h at) (front depth h at)
fails_on m next said depth near none h (Moves.queues {hand} free is) =
    let f = subst (λ (held : Option Hand). HandFails m.state.wishes depth held) is h in
    onward depth m.state.wishes (record hand { queue = newly_lacked m.state hand }) refl f.fails f.none_due f
fails_on m next said depth near none h (Moves.asks {want = want} free room is are) =
    asked_fails depth m.state.wishes want m.hand h
fails_on m next said depth near none h (Moves.answers {question} {replied} is waits reply stays) =
    rewished_still depth m.state.wishes next.state.wishes next.hand (learnt_wishes question replied m.state)
    (answered_fails depth m.state.wishes question replied m.hand h)
fails_on m next said depth near none h (Moves.replies {effect} {replied} {hand} is flies reply stays) =
    subst (λ (held : Option Hand). HandFails next.state.wishes depth
    (option_map (hand_replied (an_effect effect) replied) held)) (sym is)
    (replied_fails depth next.state.wishes effect replied hand (ap refused_with flies)
    (subst (λ (held : Option Hand). HandFails m.state.wishes depth held) is h))
fails_on m next said depth near none h (Moves.loses late close why) = cc
fails_on m next said depth near none h _ = h

-- The refusal ---------------------------------------------------------------------------------------------------------

module _ {messages : List Message} {m : Machine} {hand : Hand} (thread : ThreadId) (depth : Depth) (code : ℕ)
    (r : Run messages m) (near : is_gone m.state.phase ≡ false) (held : m.hand ≡ Some hand) where
  refused_fails : hand.effect ≡ Some (record { effect = Set (wishes.Step thread depth); reply = None })
      → Fails (refused_now (wishes.Step thread depth) m.state.wishes) depth
      (hand_replied (an_effect (Set (wishes.Step thread depth))) (an_error code) hand)
  refused_fails flies =
      let due_now = (was_due m (Set (wishes.Step thread depth)) (settling r near).awaited
      (ap flying_in held ∙ ap flying_of flies) refl).0 in
      let s = setting r near thread depth (new_set_due m.state.wishes (wishes.Step thread depth) due_now) in
      let same = same_held s.is_held held in
      let parts : hand.parts ≡ Part.Updates ∷ Part.Unfolds Stepped ∷ [] =
      ap (λ (hand : Hand). hand.parts) (sym same) ∙ s.parts in record {
        request = s.to_step.request;
        number = s.to_step.number;
        is_request = ap (λ (hand : Hand). hand.item) (sym same) ∙ s.to_step.is_request;
        steps = s.to_step.steps;
        fails = ap (fails_next (Some code)) parts;
        none_due = λ decides_it. none_behind thread depth m.state.wishes due_now;
      }

  refused_hand : (effect : Effect) (replied : Replied)
      → hand.effect ≡ Some (record { effect = effect; reply = None }) → effect ≡ Set (wishes.Step thread depth)
      → replied ≡ an_error code → HandFails (wishes_after effect replied m.state.wishes) depth
      (option_map (hand_replied (an_effect effect) replied) m.hand)
  refused_hand effect replied flies same error =
      subst (λ (effect : Effect). HandFails (wishes_after effect replied m.state.wishes) depth
      (option_map (hand_replied (an_effect effect) replied) m.hand)) (sym same)
      (subst (λ (replied : Replied). HandFails (wishes_after (Set (wishes.Step thread depth)) replied m.state.wishes)
      depth (option_map (hand_replied (an_effect (Set (wishes.Step thread depth))) replied) m.hand)) (sym error)
      (subst (λ (held : Option Hand). HandFails (refused_now (wishes.Step thread depth) m.state.wishes) depth
      (option_map (hand_replied (an_effect (Set (wishes.Step thread depth))) (an_error code)) held)) (sym held)
      (refused_fails (flies ∙ ap (λ (effect : Effect). Some (record { effect = effect; reply = None })) same))))

-- the refusal comes: the request in hand is to fail
refused_at : {messages : List Message} (m next : Machine) (said : Option Message) (thread : ThreadId) (depth : Depth)
    (code : ℕ) → Run messages m → is_gone m.state.phase ≡ false → is_gone next.state.phase ≡ false
    → said ≡ Some (Message.answers (an_effect (Set (wishes.Step thread depth))) (an_error code)) → Moves m said next
    → HandFails next.state.wishes depth next.hand
refused_at m next said thread depth code r near here is (Moves.replies {effect} {replied} held flies reply stays) =
    refused_hand thread depth code r near held effect replied flies (cc) (cc)
refused_at m next said thread depth code r near here is (Moves.late {command} before after late reply) =
    let no : false ≡ true = sym near ∙ late_gone m before after command (no_late r) late in cc
refused_at m next said thread depth code r near here is (Moves.loses late close why) = cc
refused_at m next said thread depth code r near here is _ = cc

-- once a step was refused, its request is to fail until it has its response
failing : {messages : List Message} {m : Machine} → Run messages m → is_gone m.state.phase ≡ false
    → (h : HasRefused messages) → HandFails m.state.wishes h.depth m.hand
failing Run.starts near h = none_yet h.before h.after _ h.messages_are
failing (Run.goes {messages} {m} r goes) near h =
    let close = near_before m (due false m).next None (gone_on goes) near in
    fails_on m (due false m).next None h.depth near refl (failing r close h) (gone_on goes)
failing (Run.queues {m = m} r may) near h =
    let f = subst (λ (held : Option Hand). HandFails m.state.wishes h.depth held) may.held (failing r near h) in
    record {
      request = f.request;
      number = f.number;
      is_request = f.is_request;
      steps = f.steps;
      fails = f.fails;
      none_due = f.none_due;
    }
failing (Run.moves {messages} {m} {next} {message} r allows) near h =
    by_place (last_or_not messages message it h.before h.after h.messages_are) (λ earlier. failing r close earlier)
  where
    it : Message
    it = Message.answers (an_effect (Set (wishes.Step h.thread h.depth))) (an_error h.code)

    close : is_gone m.state.phase ≡ false
    close = near_before m next (Some message) (moved allows) near

    by_place : ((messages ≡ h.before) × (message ≡ it))
        ⊎ ((rest : List Message) × (messages ≡ h.before ++ it ∷ rest))
        → ((earlier : HasRefused messages) → HandFails m.state.wishes earlier.depth m.hand)
        → HandFails next.state.wishes h.depth next.hand
    by_place (inl (same, is)) others =
        refused_at m next (Some message) h.thread h.depth h.code r close near (ap Some is) (moved allows)
    by_place (inr (rest, was)) others =
        let none = behind_more response_by messages h.before rest h.after it message was h.messages_are h.none_told in
        fails_on m next (Some message) h.depth near none.1 (others (record {
          before = h.before;
          after = rest;
          thread = h.thread;
          depth = h.depth;
          code = h.code;
          messages_are = was;
          none_told = none.0;
        })) (moved allows)

-- The law -------------------------------------------------------------------------------------------------------------

-- both words for such a request say the same
asks_step : {command : Command} {depth : Depth} {number : ℕ} → IsStep command depth number
    → AsksStep command number depth
asks_step IsStep.over = AsksStep.over
asks_step IsStep.into = AsksStep.into
asks_step IsStep.out = AsksStep.out

failed_at : {messages : List Message} {m next : Machine} (depth : Depth) (said : Option Message) (response : Response)
    → Run messages m → HandFails m.state.wishes depth m.hand → said ≡ Some (Message.tells (a_response response))
    → Moves m said next → HasFailed messages depth response
failed_at {m = m} depth said response r h is
    (Moves.responds {hand} {rest} {request} {outcome = Failed failure} free at same) =
    let f = front depth h at in
    let one : request ≡ f.request = request_same (sym same ∙ f.is_request) in
    let told = sym (same_told is) in record {
      request = f.request;
      number = f.number;
      failure = failure;
      first = first_in r at f.is_request refl;
      asks = asks_step f.steps;
      answers = record {
        seq = ap (λ (response : Response). response.request_seq) told ∙ ap (λ (request : Request). request.seq) one;
        command = ap (λ (response : Response). response.command) told ∙ ap (λ (request : Request). request.name) one;
      };
      fails = ap (λ (response : Response). response.outcome) told;
    }
  where
    request_same : {one other : Request} → a_request one ≡ a_request other → one ≡ other
    request_same same = cc
failed_at depth said response r h is (Moves.responds {outcome = Success body} free at same) =
    let no : false ≡ true = front_fails depth h at in cc
failed_at depth said response r h is (Moves.tells free at) = cc
failed_at depth said response r h is (Moves.loses late close Loses.by_end) = cc
failed_at depth said response r h is _ = cc

pub fails_refused : (messages : List Message) (m : Machine) (response : Response) → Run messages m
    → is_gone m.state.phase ≡ false → (refused : HasRefused messages)
    → (due false m).act ≡ Act.Tells (a_response response) → HasFailed messages refused.depth response
fails_refused messages m response r near refused is =
    failed_at refused.depth _ response r (failing r near refused) refl (moved (Allows.acts (ap said is)))
