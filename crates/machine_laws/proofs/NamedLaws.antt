-- Frames are asked of the thread that the request names, and a step is set of it.
use Rattle.std.proofs.Common.{◌≡◌, ℕ, pos, zero, suc, Bool, true, false, cond, not, ◌||◌, ◌&&◌, List, [], ◌∷◌, ◌++◌}
use Rattle.std.proofs.Common.{Option, Some, None, refl, sym, ap, subst, ◌∙◌, option_map, arith}
use Rattle.std.proofs.lemmas.Bool.{eqb-true}
use Rattle.std.specs.List.{AllByRecursion as All, list_any}
use Rattle.std.specs.Prelude.{◌==◌, filter}
use Rattle.class_tables.specs.Lookups.{found_in}
use Rattle.jdwp_commands.specs.declared.listed.Frame.{Frame}
use Rattle.jdwp_commands.specs.declared.question.Question.TheVariants as questions
use Rattle.machine_model.specs.Due.{asked_hand, behind_first, clear, due, lacked_by, load_of, newly_lacked}
use Rattle.machine_model.specs.Frames.{count_from, count_in, counted_plan, frame_plan, frame_shown, frames_from}
use Rattle.machine_model.specs.Frames.{frames_in, frames_plan, lines_plan, methods_plan, shown_plan}
use Rattle.machine_model.specs.Frames.{signature_plan, source_plan}
use Rattle.machine_model.specs.Knowing.{HasNumber}
use Rattle.machine_model.specs.Lookups.{finished, sight_of}
use Rattle.machine_model.specs.Outcomes.{result_of}
use Rattle.machine_model.specs.Plans.{asking, both, each, question_of}
use Rattle.machine_model.specs.Replying.{given_up, hand_replied}
use Rattle.machine_model.specs.Requests.{Wishes, effect_due, request_in, set_to, wishes_after}
use Rattle.machine_model.specs.Rows.{chosen, noted}
use Rattle.machine_model.specs.Runs.{Allows, Message, Run, said}
use Rattle.machine_model.specs.State.{Hand, Machine, State, is_empty, is_gone, is_some}
use Rattle.machine_model.proofs.IdRows.{all_weak}
use Rattle.machine_steps.specs.Names.{Act, Classes, Clear, Does, Effect, Functions, Item, Lines, Note, Part, Question}
use Rattle.machine_steps.specs.Names.{Replied, Set, Stepped, Steps, StopsAt, TargetCommand, ThreadId, Want, a_question}
use Rattle.machine_steps.specs.Names.{an_answer, an_effect, an_error, frames_found, thread_frames}
use Rattle.machine_laws.specs.NamedThreads.{AsksStack, IsOfStack, IsOfStep}
use Rattle.machine_laws.proofs.BindingFacts.{only_classes}
use Rattle.machine_laws.proofs.BindingPlans.{AllWants, asks, chains, every, makes, plan_lacks}
use Rattle.machine_laws.proofs.BindingWatches.{or_false}
use Rattle.machine_steps.proofs.Frameless.{stack_of}
use Rattle.machine_laws.proofs.LeavingLaws.{first_in}
use Rattle.machine_laws.proofs.NamedParts.{AreNamed, IsToStep, named, named_front}
use Rattle.machine_laws.proofs.NumberLaws.{one_of_id, same_id}
use Rattle.machine_laws.proofs.QuestionLaws.{all_with, given_queue, replied_queue}
use Rattle.machine_steps.proofs.RequestLaws.{IsDue, settling, was_due}
use Rattle.machine_steps.proofs.RequestSteps.{flying_in, flying_of, learnt_wishes, near_before, numbered_wishes}
use Rattle.machine_steps.proofs.RequestSteps.{parts_left, replied_left, told_wishes}
use Rattle.machine_steps.proofs.RestLaws.{is_free, near_asks}
use Rattle.machine_steps.proofs.Standing.{queue_in}
use Rattle.machine_steps.proofs.Stepping.{IsAt, Loses, Moves, Skips, all_to_ask, by_moves, by_runs, moved}
use Rattle.machine_laws.proofs.StepLaws.{as_step, step_wished}
use Rattle.machine_laws.proofs.StopParts.{IsCalm, lacked_calm}
use Rattle.machine_steps.proofs.Tables.{is_updates}
use Rattle.machine_steps.proofs.ThreadIds.{replied_threads}
use Rattle.machine_steps.proofs.WishLemmas.{due_clear, new_set_due, none_due_change}
use Rattle.wish_sets.proofs.LeftLaws.{at_rest}
use Rattle.wish_sets.proofs.NextLaws.{surplus_clear}
use Rattle.wish_sets.proofs.TidyLaws.{installed-with, kept_refusals, refused-with}
use Rattle.wish_sets.proofs.WishLaws.{equal_is}
use Rattle.wish_sets.specs.Order.{has_wish, is_wish}
use Rattle.wish_sets.specs.Tidy.{IsNewSet, IsTidy}
use Rattle.wish_sets.specs.Wanted.{Wanted, nothing_wanted, with_exceptions, with_functions, with_known, with_lines}
use Rattle.wish_sets.specs.Wanted.{with_step}
use Rattle.wish_sets.specs.Wished.{stepping, wished}
use Rattle.wish_sets.specs.Wishes.{EventRequest, cleared, is_installed, rewished}
use Rattle.wish_sets.specs.declared.wish.Depth.{Depth}
use Rattle.wish_sets.specs.declared.wish.StepWish.{StepWish}
use Rattle.wish_sets.specs.declared.wish.Wish.{Wish}
use Rattle.wish_sets.specs.declared.wish.Wish.TheVariants as wishes

-- What the look-up of frames asks -------------------------------------------------------------------------------------

-- a want asks for frames of this thread, if of any
abbrev is_one_of : ThreadId → Option ThreadId → Bool
is_one_of thread None = true
is_one_of thread (Some other) = other.0 == thread.0

abbrev is_of : ThreadId → Want → Bool
is_of thread want = is_one_of thread (stack_of (question_of want))

frame_of : (state : State) (thread : ThreadId) (frame : Frame) → AllWants (is_of thread) (frame_plan state thread frame)
unfolding AllWants
frame_of state thread frame = makes (is_of thread) (frame_shown state thread frame)
    (both (both (signature_plan frame.at.class) (source_plan frame.at.class))
    (both (methods_plan frame.at.class) (lines_plan frame.at.class frame.at.method))) (
      ((refl, λ heard. tt), (refl, λ heard. tt), λ two. tt),
      ((refl, λ heard. tt), (refl, λ heard. tt), λ two. tt),
      λ two. tt,
    )

from_of : (thread : ThreadId) (start count : ℕ) → AllWants (is_of thread) (frames_from thread start count)
unfolding AllWants
from_of thread start zero = tt
from_of thread start (suc count) =
    asks (is_of thread) frames_in (Want.Must (questions.Frames thread (pos start) (pos (suc count)))) (same_id thread)

frames_of : (state : State) (thread : ThreadId) (start levels : ℕ)
    → AllWants (is_of thread) (frames_plan state thread start levels)
frames_of state thread start levels = chains (is_of thread) (asking count_in (Want.Must (questions.FrameCount thread)))
    (counted_plan state thread start levels)
    (asks (is_of thread) count_in (Want.Must (questions.FrameCount thread)) (same_id thread))
    (λ total. chains (is_of thread) (frames_from thread start (count_from total start levels))
    (shown_plan state thread total) (from_of thread start (count_from total start levels))
    (λ frames. makes (is_of thread) (frames_found total) (each (frame_plan state thread) frames)
    (every (is_of thread) (frame_plan state thread) (frame_of state thread) frames)))

-- the thread of whose frames the part in front is the look-up
abbrev looked_thread : List Part → Option ThreadId
looked_thread (Part.Looks (thread_frames thread start levels) ∷ rest) = Some thread
looked_thread _ = None

abbrev IsLooked : List Part → Option ThreadId → Type 0
IsLooked parts None = Unit {0}
IsLooked parts (Some thread) = looked_thread parts ≡ Some thread

-- what asks for frames is of that thread
abbrev WantLooked : List Part → Want → Type 0
WantLooked parts want = IsLooked parts (stack_of (question_of want))

of_looked : (parts : List Part) (thread : ThreadId) (found : Option ThreadId) → looked_thread parts ≡ Some thread
    → is_one_of thread found ≡ true → IsLooked parts found
of_looked parts thread None looks is = tt
of_looked parts thread (Some other) looks is = looks ∙ ap Some (one_of_id (sym (eqb-true other.0 thread.0 is)))

none_looked : (parts : List Part) (found : Option ThreadId) → is_some found ≡ false → IsLooked parts found
none_looked parts None is = tt
none_looked parts (Some thread) is = cc

lacked_looked : (state : State) (hand : Hand) (parts : List Part)
    → All (WantLooked parts) (lacked_by state hand parts)
lacked_looked state hand [] = tt
lacked_looked state hand (Part.Looks (thread_frames thread start levels) ∷ rest) =
    all_weak (λ want. is_of thread want ≡ true) (WantLooked (Part.Looks (thread_frames thread start levels) ∷ rest))
    (λ want is. of_looked (Part.Looks (thread_frames thread start levels) ∷ rest) thread (stack_of (question_of want))
    refl is) _
    (plan_lacks (is_of thread) (sight_of state hand) (frames_plan state thread start levels)
    (frames_of state thread start levels))
lacked_looked state hand (part ∷ rest) = all_weak IsCalm (WantLooked (part ∷ rest))
    (λ want is. none_looked (part ∷ rest) (stack_of (question_of want)) is) (lacked_by state hand (part ∷ rest))
    (lacked_calm state hand (part ∷ []) refl)

none_queued : (P : Want → Type 0) (m : Machine) (hand : Hand) → load_of m ≡ clear → is_gone m.state.phase ≡ false
    → m.hand ≡ Some hand → All P hand.queue
none_queued P m hand free near is = by_queue hand.queue (is_free m hand free near is).no_queue
  where
    by_queue : (queue : List Want) → is_empty queue ≡ true → All P queue
    by_queue [] none = tt
    by_queue (want ∷ queue) none = cc

queued_looked : (state : State) (hand : Hand) → All (WantLooked hand.parts) (newly_lacked state hand)
unfolding newly_lacked
queued_looked state hand = all_with (WantLooked hand.parts) hand.asked [] (lacked_by state hand hand.parts) tt
    (lacked_looked state hand hand.parts)

abbrev HandLooked : Option Hand → Type 0
HandLooked hand = All (WantLooked (parts_left hand)) (queue_in hand)

queue_front : (m : Machine) {hand : Hand} {want : Want} {wants : List Want} → HandLooked m.hand → m.hand ≡ Some hand
    → hand.queue ≡ want ∷ wants → All (WantLooked hand.parts) (want ∷ wants)
queue_front m {hand = hand} h is are = subst (λ (queue : List Want). All (WantLooked hand.parts) queue) are
    (subst (λ (held : Option Hand). HandLooked held) is h)

replied_looked : (command : TargetCommand) (replied : Replied) (hand : Option Hand) → HandLooked hand
    → HandLooked (option_map (hand_replied command replied) hand)
replied_looked command replied hand h =
    subst (λ (parts : List Part). All (WantLooked parts) (queue_in (option_map (hand_replied command replied) hand)))
    (sym (replied_left command replied hand)) (replied_queue (WantLooked (parts_left hand)) command replied hand h)

looked_on : (m next : Machine) (said : Option Message) → is_gone m.state.phase ≡ false → HandLooked m.hand
    → Moves m said next → HandLooked next.hand
looked_on m next said near h (Moves.begins picked free none is) = tt
looked_on m next said near h (Moves.drops free is none) = tt
looked_on m next said near h (Moves.responds {hand} {rest} free at is) =
    none_queued (WantLooked rest) m hand free near at.in_hand
looked_on m next said near h (Moves.finds {hand} {rest} {lookup} found free at needs done) =
    none_queued (WantLooked (finished lookup (result_of found) m.state ++ rest)) m hand free near at.in_hand
looked_on m next said near h (Moves.passes_over {hand} {rest = rest} free at why) =
    none_queued (WantLooked rest) m hand free near at.in_hand
looked_on m next said near h (Moves.tells {hand} {rest} free at) =
    none_queued (WantLooked rest) m hand free near at.in_hand
looked_on m next said near h (Moves.sends {hand} {rest} free at there) =
    none_queued (WantLooked rest) m hand free near at.in_hand
looked_on m next said near h (Moves.updates {hand} {rest = rest} free at is there) =
    none_queued (WantLooked (Part.Updates ∷ rest)) m hand free near at.in_hand
looked_on m next said near h (Moves.notes {hand} {rest = rest} free at) =
    none_queued (WantLooked rest) m hand free near at.in_hand
looked_on m next said near h (Moves.unfolds {hand} {choice} {rest} free at) =
    none_queued (WantLooked (chosen choice m.state hand ++ rest)) m hand free near at.in_hand
looked_on m next said near h (Moves.queues {hand} free is) = queued_looked m.state hand
looked_on m next said near h (Moves.asks {hand} {want} free room is are) =
    subst (λ (held : Option Hand). HandLooked (option_map (asked_hand want) held)) (sym is)
    (subst (λ (queue : List Want). All (WantLooked hand.parts) (behind_first queue)) (sym are)
    (queue_front m h is are).1)
looked_on m next said near h (Moves.answers {question} {replied} is waits reply stays) =
    replied_looked (a_question question) replied m.hand h
looked_on m next said near h (Moves.replies {effect} {replied} is flies reply stays) =
    replied_looked (an_effect effect) replied m.hand h
looked_on m next said near h (Moves.loses late there why) = given_queue
    (WantLooked (parts_left (option_map given_up m.hand))) m.hand
looked_on m next said near h _ = h

looked : {messages : List Message} {m : Machine} → Run messages m → is_gone m.state.phase ≡ false → HandLooked m.hand
looked r = by_moves
    {Holds = λ (messages : List Message) (m : Machine). is_gone m.state.phase ≡ false → HandLooked m.hand}
    (record {
      starts = λ near. tt;
      moves = λ messages m next said h moved here. let near = near_before m next said moved here in
          looked_on m next said near (h near) moved;
      queues = λ messages m hand queue may h near.
          all_to_ask (WantLooked hand.parts) may (lacked_looked m.state hand hand.parts);
    }) r

stack_is : {thread : ThreadId} {question : Question} → AsksStack thread question → stack_of question ≡ Some thread
stack_is AsksStack.counts = refl
stack_is AsksStack.frames = refl

stack_at : {messages : List Message} {m : Machine} {hand : Hand} (thread : ThreadId) (parts : List Part)
    → Run messages m → m.hand ≡ Some hand → hand.parts ≡ parts → looked_thread parts ≡ Some thread
    → IsOfStack messages m thread
stack_at {messages} {m} {hand} thread (Part.Looks (thread_frames other start levels) ∷ rest) r held are looks =
    let at : IsAt m hand (Part.Looks (thread_frames other start levels)) rest =
    record { in_hand = held; parts = are } in
    let s = (named_front m.state.threads (named r) at).0 in
    let same : other ≡ thread = cc in
    record {
      request = s.request;
      arguments = s.arguments;
      first = first_in r at s.is_request refl;
      asks = s.asks;
      has_number = subst (λ (thread : ThreadId). HasNumber m.state.threads thread s.arguments.thread_id) same
          s.has_number;
    }
stack_at thread _ r held are looks = cc

asked_at : {messages : List Message} (m next : Machine) (said : Option Message) (thread : ThreadId)
    (question : Question) → Run messages m → AsksStack thread question
    → said ≡ Some (Message.sends (a_question question)) → Moves m said next → IsOfStack messages m thread
asked_at m next said thread question r of is (Moves.asks {hand} {want} free room held are) =
    let same : question_of want ≡ question = cc in
    let first = (queue_front m (looked r (near_asks m hand free held).0) held are).0 in
    stack_at thread hand.parts r held refl
    (subst (λ (found : Option ThreadId). IsLooked hand.parts found) (ap stack_of same ∙ stack_is of) first)
asked_at m next said thread question r of is (Moves.loses late near Loses.by_end) = cc
asked_at m next said thread question r of is _ = cc

pub asks_named : (messages : List Message) (m : Machine) (thread : ThreadId) (question : Question) → Run messages m
    → AsksStack thread question → (due false m).act ≡ Act.Asks question → IsOfStack messages m thread
asks_named messages m thread question r of is =
    asked_at m (due false m).next _ thread question r of refl (moved (Allows.acts (ap said is)))

-- Steps that are to be set --------------------------------------------------------------------------------------------

-- the request for this step is in hand, and sets it
pub record IsSetting (held : Option Hand) (threads : List ThreadId) (thread : ThreadId) (depth : Depth) : Type 0 where
  pub hand : Hand
  pub is_held : held ≡ Some hand
  pub parts : hand.parts ≡ Part.Updates ∷ Part.Unfolds Stepped ∷ []
  pub to_step : IsToStep hand.item threads (record { thread = thread; depth = depth })

-- each step that is to be set is that of the request in hand
abbrev pub AreSetting : Machine → Type 0
AreSetting m = (thread : ThreadId) (depth : Depth) → IsNewSet m.state.wishes (wishes.Step thread depth)
    → IsSetting m.hand m.state.threads thread depth

module _ {threads : List ThreadId} {thread : ThreadId} {depth : Depth} where
  setting_parts : {hand : Hand} → IsSetting (Some hand) threads thread depth
      → hand.parts ≡ Part.Updates ∷ Part.Unfolds Stepped ∷ []
  setting_parts {hand} s = let same : s.hand ≡ hand = cc in ap (λ (hand : Hand). hand.parts) (sym same) ∙ s.parts

  -- another part doesn't stand in front then
  not_in_front : {A : Type 0} {m : Machine} {hand : Hand} {part : Part} {rest : List Part} → IsAt m hand part rest
      → is_updates part ≡ false → IsSetting m.hand threads thread depth → A
  not_in_front {hand = hand} {part} {rest} at is s =
      let first : part ∷ rest ≡ Part.Updates ∷ Part.Unfolds Stepped ∷ [] = sym at.parts
      ∙ setting_parts (subst (λ (held : Option Hand). IsSetting held threads thread depth) at.in_hand s) in
      let one : part ≡ Part.Updates = cc in
      let no : false ≡ true = sym is ∙ ap is_updates one in cc

  -- the hand changes otherwise
  setting_still : (hand now : Hand) → now.item ≡ hand.item → now.parts ≡ hand.parts
      → IsSetting (Some hand) threads thread depth → IsSetting (Some now) threads thread depth
  setting_still hand now item parts s = record {
    hand = now;
    is_held = refl;
    parts = parts ∙ setting_parts s;
    to_step = let same : s.hand ≡ hand = cc in
        subst (λ (item : Item). IsToStep item threads (record { thread = thread; depth = depth }))
        (ap (λ (hand : Hand). hand.item) same ∙ sym item) s.to_step;
  }

  asked_setting : (want : Want) (hand : Option Hand) → IsSetting hand threads thread depth
      → IsSetting (option_map (asked_hand want) hand) threads thread depth
  asked_setting want None s = let no : None ≡ Some s.hand = s.is_held in cc
  asked_setting want (Some hand) s = setting_still hand (asked_hand want hand) refl refl s

  replied_setting : (command : TargetCommand) (replied : Replied) (hand : Option Hand)
      → IsSetting hand threads thread depth
      → IsSetting (option_map (hand_replied command replied) hand) threads thread depth
  replied_setting command replied None s = let no : None ≡ Some s.hand = s.is_held in cc
  replied_setting (a_question question) replied (Some hand) s =
      setting_still hand (hand_replied (a_question question) replied hand) refl refl s
  replied_setting (an_effect effect) replied (Some hand) s =
      setting_still hand (hand_replied (an_effect effect) replied hand) refl refl s

-- Wishes --------------------------------------------------------------------------------------------------------------

module _ (thread : ThreadId) (depth : Depth) where
  abbrev it : Wish
  it = wishes.Step thread depth

  behind_true : (first second : Bool) → first ≡ true → (first && second) ≡ false → second ≡ false
  behind_true first second is none = grind (arith, is, none)

  neither : (first second : Bool) → (first || second) ≡ false → second ≡ false
  neither first second none = grind (arith, none)

  -- something else is wanted
  rewished_new : (w : Wishes) (wanted : Wanted) → wanted.step ≡ w.wanted.step → IsNewSet (rewished wanted w) it
      → IsNewSet w it
  rewished_new w wanted same new = record {
    is_wished = step_wished w.wanted thread depth
        ∙ ap (λ (step : Option StepWish). has_wish (stepping step) it) (sym same)
        ∙ sym (step_wished wanted thread depth) ∙ new.is_wished;
    not_installed = new.not_installed;
    not_refused = behind_true (has_wish (wished wanted) it) (has_wish w.refused it) new.is_wished
        (sym (kept_refusals wanted w it) ∙ new.not_refused);
  }

  -- the step that is wished
  pub wished_step : (wanted : Wanted) → has_wish (wished wanted) it ≡ true
      → wanted.step ≡ Some (record { thread = thread; depth = depth })
  wished_step wanted is = by_step wanted.step (sym (step_wished wanted thread depth) ∙ is)
    where
      by_step : (step : Option StepWish) → has_wish (stepping step) it ≡ true
          → step ≡ Some (record { thread = thread; depth = depth })
      by_step None is = cc
      by_step (Some step) is =
          ap Some (sym (ap as_step (equal_is it (wishes.Step step.thread step.depth) (sym (or_false _) ∙ is))))

  noted_step : (step : Option StepWish) (w : Wishes) → IsNewSet (rewished (with_step step w.wanted) w) it
      → step ≡ Some (record { thread = thread; depth = depth })
  noted_step step w new = wished_step (with_step step w.wanted) new.is_wished

  -- what is kept is what was there, as far as it passes
  any_same : {A : Type 0} (test keep : A → Bool) → ((a : A) → test a ≡ true → keep a ≡ true) → (list : List A)
      → list_any test (filter keep list) ≡ list_any test list
  any_same test keep kept [] = refl
  any_same test keep kept (a ∷ list) = by_tests (test a) (keep a) refl refl (kept a) (any_same test keep kept list)
    where
      by_tests : (passes keeps : Bool) → test a ≡ passes → keep a ≡ keeps → (passes ≡ true → keeps ≡ true)
          → list_any test (filter keep list) ≡ list_any test list
          → list_any test (cond keeps (a ∷ filter keep list) (filter keep list)) ≡ (passes || list_any test list)
      by_tests passes true is keeps must others =
          ap (λ (first : Bool). first || list_any test (filter keep list)) is
          ∙ ap (λ (rest : Bool). passes || rest) others
      by_tests true false is keeps must others = let no = must refl in cc
      by_tests false false is keeps must others = others

  -- what is cleared isn't wished
  cleared_new : (w : Wishes) (wish : Wish) → has_wish (wished w.wanted) wish ≡ false → IsNewSet (cleared wish w) it
      → IsNewSet w it
  cleared_new w wish none new = record {
    is_wished = new.is_wished;
    not_installed = sym (any_same (λ r. is_wish it r.wish) (λ r. not (is_wish wish r.wish)) kept w.installed)
        ∙ new.not_installed;
    not_refused = new.not_refused;
  }
    where
      kept : (r : EventRequest) → is_wish it r.wish ≡ true → not (is_wish wish r.wish) ≡ true
      kept r is = by_test (is_wish wish r.wish) refl
        where
          by_test : (same : Bool) → is_wish wish r.wish ≡ same → not same ≡ true
          by_test true same =
              let one : wish ≡ it = equal_is wish r.wish same ∙ sym (equal_is it r.wish is) in
              let no : false ≡ true = sym none ∙ ap (has_wish (wished w.wanted)) one ∙ new.is_wished in cc
          by_test false same = refl

  replied_new : (w : Wishes) (parts : List Part) (effect : Effect) (replied : Replied) → IsDue w parts (Some effect)
      → IsNewSet (wishes_after effect replied w) it → IsNewSet w it
  replied_new w parts (Does deed) replied due new = new
  replied_new w parts (Clear wish request) (an_error code) due new = new
  replied_new w parts (Clear wish request) (an_answer answer) due new =
      cleared_new w wish (surplus_clear w (record { wish = wish; request = request })
      (due_clear w wish request (due refl).0)) new
  replied_new w parts (Set wish) replied due new = by_id (request_in replied) new
    where
      by_id : (found : Option ℕ) → IsNewSet (set_to found wish w) it → IsNewSet w it
      by_id None new = record {
        is_wished = new.is_wished;
        not_installed = new.not_installed;
        not_refused = neither (is_wish it wish) (has_wish w.refused it)
            (sym (refused-with wish w.refused it) ∙ new.not_refused);
      }
      by_id (Some request) new = record {
        is_wished = new.is_wished;
        not_installed = neither (is_wish it wish) (is_installed w.installed it)
            (sym (installed-with (record { wish = wish; request = request }) w.installed it) ∙ new.not_installed);
        not_refused = new.not_refused;
      }

  -- where nothing is to be cleared or set, no step is
  none_new : {A : Type 0} (w : Wishes) → IsTidy w → effect_due w ≡ None → IsNewSet w it → A
  none_new w tidy none new =
      let no : false ≡ true = sym new.not_installed ∙ at_rest w tidy (none_due_change w none) it
      ∙ ap (λ (wished : Bool). wished && not (has_wish w.refused it)) new.is_wished
      ∙ ap (λ (refused : Bool). true && not refused) new.not_refused in cc

-- In runs -------------------------------------------------------------------------------------------------------------

module _ {m : Machine} {hand : Hand} {rest : List Part} (h : AreSetting m) (thread : ThreadId) (depth : Depth) where
  noted_setting : (note : Note) → IsAt m hand (Part.Notes note) rest
      → AreNamed hand.item m.state.threads (Part.Notes note ∷ rest)
      → IsNewSet (noted note m.state).wishes (wishes.Step thread depth)
      → IsSetting (Some (record hand { parts = rest })) (noted note m.state).threads thread depth
  noted_setting (Steps None) at names new =
      let no = noted_step thread depth None m.state.wishes new in cc
  noted_setting (Steps (Some step)) at names new = let n = names.0 in record {
    hand = record hand { parts = rest };
    is_held = refl;
    parts = n.behind;
    to_step = let same : step ≡ record { thread = thread; depth = depth } =
        same_some (noted_step thread depth (Some step) m.state.wishes new) in
        subst (λ (step : StepWish). IsToStep hand.item m.state.threads step) same n.to_step;
  }
    where
      same_some : {one other : StepWish} → Some one ≡ Some other → one ≡ other
      same_some is = cc
  noted_setting (Lines (Some key) path entries) at names new =
      not_in_front at refl (h thread depth (rewished_new thread depth m.state.wishes
      (with_lines key entries m.state.wishes.wanted) refl new))
  noted_setting (Functions entries) at names new =
      not_in_front at refl (h thread depth (rewished_new thread depth m.state.wishes
      (with_functions entries m.state.wishes.wanted) refl new))
  noted_setting (StopsAt caught uncaught) at names new =
      not_in_front at refl (h thread depth (rewished_new thread depth m.state.wishes
      (with_exceptions caught uncaught m.state.wishes.wanted) refl new))
  noted_setting (Classes classes) at names new =
      not_in_front at refl (h thread depth (rewished_new thread depth m.state.wishes
      (with_known (found_in m.state.classes) classes m.state.wishes.wanted)
      (ap (λ (wanted : Wanted). wanted.step)
      (only_classes (found_in m.state.classes) classes m.state.wishes.wanted)) new))
  noted_setting _ at names new = not_in_front at refl (h thread depth new)

setting_on : {messages : List Message} (m next : Machine) (said : Option Message) → Run messages m → AreSetting m
    → Moves m said next → is_gone m.state.phase ≡ false → is_gone next.state.phase ≡ false → (thread : ThreadId)
    (depth : Depth) → IsNewSet next.state.wishes (wishes.Step thread depth)
    → IsSetting next.hand next.state.threads thread depth
setting_on m next said r h (Moves.begins picked free none is) near here thread depth new =
    let s = h thread depth new in let no : None ≡ Some s.hand = sym none ∙ s.is_held in cc
setting_on m next said r h (Moves.drops {hand} free is none) near here thread depth new =
    let no : [] ≡ Part.Updates ∷ Part.Unfolds Stepped ∷ [] = sym none ∙ setting_parts
    (subst (λ (held : Option Hand). IsSetting held m.state.threads thread depth) is (h thread depth new)) in cc
setting_on m next said r h (Moves.responds {outcome = outcome} free at is) near here thread depth new =
    not_in_front at refl (h thread depth (subst (λ (w : Wishes). IsNewSet w (wishes.Step thread depth))
    (numbered_wishes outcome m.state) new))
setting_on m next said r h (Moves.finds found free at needs done) near here thread depth new =
    not_in_front at refl (h thread depth new)
setting_on m next said r h (Moves.passes_over free at (Skips.by_guard is)) near here thread depth new =
    not_in_front at refl (h thread depth new)
setting_on m next said r h (Moves.passes_over free at (Skips.by_wishes is)) near here thread depth new =
    none_new thread depth m.state.wishes (settling r near).tidy is new
setting_on m next said r h (Moves.passes_over free at (Skips.no_request is)) near here thread depth new =
    not_in_front at refl (h thread depth new)
setting_on m next said r h (Moves.tells {event = event} free at) near here thread depth new =
    not_in_front at refl (h thread depth (subst (λ (w : Wishes). IsNewSet w (wishes.Step thread depth))
    (told_wishes event m.state) new))
setting_on m next said r h (Moves.sends free at there) near here thread depth new =
    not_in_front at refl (h thread depth new)
setting_on m next said r h (Moves.updates {hand} {effect} {rest} free at is there) near here thread depth new =
    setting_still hand
    (record hand { parts = Part.Updates ∷ rest; effect = Some (record { effect = effect; reply = None }) })
    refl (sym at.parts)
    (subst (λ (held : Option Hand). IsSetting held m.state.threads thread depth) at.in_hand (h thread depth new))
setting_on m next said r h (Moves.notes {hand} {note} {rest} free at) near here thread depth new =
    noted_setting h thread depth note at (named_front m.state.threads (named r) at) new
setting_on m next said r h (Moves.unfolds free at) near here thread depth new =
    not_in_front at refl (h thread depth new)
setting_on m next said r h (Moves.queues {hand} free is) near here thread depth new =
    setting_still hand (record hand { queue = newly_lacked m.state hand }) refl refl
    (subst (λ (held : Option Hand). IsSetting held m.state.threads thread depth) is (h thread depth new))
setting_on m next said r h (Moves.asks {want = want} free room is are) near here thread depth new =
    asked_setting want m.hand (h thread depth new)
setting_on m next said r h (Moves.answers {question} {replied} is waits reply stays) near here thread depth new =
    subst (λ (threads : List ThreadId). IsSetting next.hand threads thread depth)
    (sym (replied_threads (a_question question) replied m.state))
    (replied_setting (a_question question) replied m.hand
    (h thread depth (subst (λ (w : Wishes). IsNewSet w (wishes.Step thread depth))
    (learnt_wishes question replied m.state) new)))
setting_on m next said r h (Moves.replies {effect} {replied} is flies reply stays) near here thread depth new =
    replied_setting (an_effect effect) replied m.hand (h thread depth
    (replied_new thread depth m.state.wishes (parts_left m.hand) effect replied
    (was_due m effect (settling r near).awaited (ap flying_in is ∙ ap flying_of flies)) new))
setting_on m next said r h (Moves.loses late there why) near here thread depth new = cc
setting_on m next said r h _ near here thread depth new = h thread depth new

setting_anew : (m : Machine) {hand : Hand} {thread : ThreadId} {depth : Depth} (queue : List Want)
    → IsSetting (Some hand) m.state.threads thread depth
    → IsSetting (Some (record hand { queue = queue })) m.state.threads thread depth
setting_anew m {hand} {thread} {depth} queue s =
    let same : s.hand ≡ hand = same_hand s.is_held in record {
      hand = record hand { queue = queue };
      is_held = refl;
      parts = ap (λ (hand : Hand). hand.parts) (sym same) ∙ s.parts;
      to_step = subst (λ (hand : Hand). IsToStep hand.item m.state.threads (record { thread = thread; depth = depth }))
          same s.to_step;
    }
  where
    same_hand : Some hand ≡ Some s.hand → s.hand ≡ hand
    same_hand is = cc

pub setting : {messages : List Message} {m : Machine} → Run messages m → is_gone m.state.phase ≡ false → AreSetting m
setting r = by_runs {Holds = λ (messages : List Message) (m : Machine). is_gone m.state.phase ≡ false → AreSetting m}
    (record {
      starts = λ near thread depth new. let no = wished_step thread depth nothing_wanted new.is_wished in cc;
      moves = λ messages m next said before h moved after here. let near = near_before m next said moved here in
          setting_on m next said before (h near) moved near here;
      queues = λ messages m hand queue before may h near thread depth new.
          setting_anew m queue (h near thread depth new);
    }) r

set_at : {messages : List Message} (m next : Machine) (said : Option Message) (thread : ThreadId) (depth : Depth)
    → Run messages m → said ≡ Some (Message.sends (an_effect (Set (wishes.Step thread depth)))) → Moves m said next
    → IsOfStep messages m thread depth
set_at {messages} m next said thread depth r is (Moves.updates {effect = effect} free at due near) =
    let same : effect ≡ Set (wishes.Step thread depth) = cc in
    let s = setting r near thread depth (new_set_due m.state.wishes (wishes.Step thread depth) (due ∙ ap Some same)) in
    let here : IsAt m s.hand Part.Updates (Part.Unfolds Stepped ∷ []) =
    record { in_hand = s.is_held; parts = s.parts } in
    record {
      request = s.to_step.request;
      number = s.to_step.number;
      first = first_in r here s.to_step.is_request refl;
      steps = s.to_step.steps;
      has_number = s.to_step.has_number;
    }
set_at m next said thread depth r is (Moves.loses late near Loses.by_end) = cc
set_at m next said thread depth r is _ = cc

pub steps_named : (messages : List Message) (m : Machine) (thread : ThreadId) (depth : Depth) → Run messages m
    → (due false m).act ≡ Act.Sends (Set (wishes.Step thread depth)) → IsOfStep messages m thread depth
steps_named messages m thread depth r is =
    set_at m (due false m).next _ thread depth r refl (moved (Allows.acts (ap said is)))
