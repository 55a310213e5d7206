-- Every id that stands in the machine passes a test that all ids that are read pass, and the sizes are asked once: what
-- each move keeps.
use Rattle.std.proofs.Common.{◌≡◌, ◌≤◌, ◌+◌, ℕ, Bool, true, false, cond, List, [], ◌∷◌, ◌++◌, length, Option, Some}
use Rattle.std.proofs.Common.{None, sym, ap, subst, ◌∙◌, append-nil, refl, option_map}
use Rattle.std.specs.List.{AllByRecursion as All}
use Rattle.std.proofs.lemmas.List.Concat.{flat_map-append}
use Rattle.jdwp_commands.specs.declared.question.Question.TheVariants as questions
use Rattle.machine_model.proofs.WriteIds.{OfDeed}
use Rattle.machine_model.specs.Ids.{Id, ids_given}
use Rattle.machine_model.specs.Plans.{question_of}
use Rattle.machine_model.specs.Replying.{waits_for}
use Rattle.machine_model.specs.Runs.{Message}
use Rattle.machine_model.specs.Spelling.{all_sizes, first_sizes, sizes_by, sizes_replied}
use Rattle.machine_model.specs.State.{State, Hand, Machine, SizesRead, is_attached, is_gone, is_some}
use Rattle.machine_model.proofs.PlanIds.{AreKnown, IsAsked, IsWanted, OfClass, OfFrameThing, OfLookup, OfNamed}
use Rattle.machine_model.proofs.PlanIds.{OfShownFrame, OfSeen, OfShownVariable, OfStrike, OnSome, is_sizes}
use Rattle.machine_steps.specs.Names.{Writes, Body, Classes, Failed, IdSizes, Initialized, Lines, Outcome, Part, Sent}
use Rattle.machine_steps.specs.Names.{Success, TargetCommand, Want, a_question, an_effect, frame_list, scope_list}
use Rattle.machine_steps.specs.Names.{thread_list, a_value, variable_list, Choice, Decides, Functions, Steps}
use Rattle.machine_steps.proofs.RequestSteps.{is_choice, parts_left}
use Rattle.machine_steps.proofs.Stepping.{IsAt, with_said}
use Rattle.machine_steps.proofs.WishIds.{AreWished, IsShortFunction, IsShortKey, OfStep}

-- The item in hand ----------------------------------------------------------------------------------------------------

abbrev pub queue_in : Option Hand → List Want
queue_in None = []
queue_in (Some hand) = hand.queue

abbrev pub asked_in : Option Hand → List Sent
asked_in None = []
asked_in (Some hand) = hand.asked

-- what a response has of ids passes
abbrev pub OfBody : (Id → Type 0) → Body → Type 0
OfBody P (thread_list named) = All (OfNamed P) named
OfBody P (frame_list total frames) = All (OfShownFrame P) frames
OfBody P (scope_list one) = OfFrameThing P one
OfBody P (variable_list shown) = All (OfShownVariable P) shown
OfBody P (a_value seen) = OfSeen P seen
OfBody P _ = Unit {0}

abbrev pub OfOutcome : (Id → Type 0) → Outcome → Type 0
OfOutcome P (Success body) = OfBody P body
OfOutcome P (Failed failure) = Unit {0}

-- what a choice has: what stops
abbrev pub ChoiceStands : (Id → Type 0) → Choice → Type 0
ChoiceStands P (Decides logged stops) = All (OfStrike P) stops
ChoiceStands P _ = Unit {0}

-- and what a part has
abbrev pub PartStands : (Id → Type 0) → Part → Type 0
PartStands P (Part.Responds outcome) = OfOutcome P outcome
PartStands P (Part.Notes (Lines key path entries)) = IsShortKey key
PartStands P (Part.Notes (Functions entries)) = All IsShortFunction entries
PartStands P (Part.Notes (Steps step)) = OnSome (OfStep P) step
PartStands P (Part.Looks lookup) = OfLookup P lookup
PartStands P (Part.Unfolds choice) = ChoiceStands P choice
PartStands P (Part.Sends deed) = OfDeed P deed
PartStands P (Part.Notes (Classes classes)) = All (OfClass P) classes
PartStands P _ = Unit {0}

-- What needs the sizes of ids stands behind what awaits them ----------------------------------------------------------

abbrev pub needs_sizes : Part → Bool
needs_sizes (Part.Looks lookup) = true
needs_sizes (Part.Sends (Writes write)) = true
needs_sizes Part.Updates = true
needs_sizes (Part.Tells Initialized) = true
needs_sizes (Part.Unfolds choice) = is_choice choice
needs_sizes _ = false

abbrev pub awaits_sizes : Part → Bool
awaits_sizes (Part.Awaits IdSizes) = true
awaits_sizes _ = false

abbrev pub are_behind : List Part → Bool
are_behind [] = true
are_behind (part ∷ parts) = cond (awaits_sizes part) true (cond (needs_sizes part) false (are_behind parts))

abbrev pub in_order : Bool → Bool → List Part → Bool
in_order sized attached parts = cond sized true (cond attached false (are_behind parts))

-- How often the sizes are asked ---------------------------------------------------------------------------------------

abbrev pub total : {A : Type 0} → (A → ℕ) → List A → ℕ
total count [] = 0
total count (a ∷ others) = count a + total count others

abbrev pub one_if : Bool → ℕ
one_if true = 1
one_if false = 0

abbrev pub by_want : Want → ℕ
by_want want = one_if (is_sizes (question_of want))

abbrev pub by_sent : Sent → ℕ
by_sent sent = one_if (waits_for sent questions.IdSizes)

abbrev pub by_command : TargetCommand → ℕ
by_command (a_question question) = one_if (is_sizes question)
by_command (an_effect effect) = 0

-- The invariant -------------------------------------------------------------------------------------------------------

-- while the target isn't gone, all that stands in the machine passes
pub record Near (P : Id → Type 0) (state : State) (left : List Part) (queue : List Want)
    (asked : List Sent) : Type 0 where
  pub classes : AreKnown P state.classes
  pub wanted : AreWished P state.wishes.wanted
  pub order : in_order (is_some state.sizes) (is_attached state.phase) left ≡ true
  pub parts : All (PartStands P) left
  pub wants : All (IsWanted P (is_some state.sizes)) queue
  pub replies : All (IsAsked P (is_some state.sizes)) asked

-- what the next state keeps of one, if only what is left and what is wished change
pub record Same (next state : State) : Type 0 where
  pub sizes : next.sizes ≡ state.sizes
  pub classes : next.classes ≡ state.classes
  pub back : is_gone next.phase ≡ false → is_gone state.phase ≡ false

-- The sizes that were replied are those that are known, and they are asked or replied at most once; a target that isn't
-- gone has left no command pending.
pub record Kept (P : Id → Type 0) (messages : List Message) (state : State) (left : List Part) (queue : List Want)
    (asked : List Sent) (late : List TargetCommand) : Type 0 where
  pub once : length (all_sizes messages) + total by_command late + total by_want queue + total by_sent asked ≤ 1
  pub sizes : is_gone state.phase ≡ false → state.sizes ≡ sizes_replied messages
  pub none_late : is_gone state.phase ≡ false → late ≡ []
  pub near : is_gone state.phase ≡ false → Near P state left queue asked

-- it holds of this hand, and of a machine
abbrev pub KeptHand : (Id → Type 0) → List Message → State → Option Hand → List TargetCommand → Type 0
KeptHand P messages state hand late = Kept P messages state (parts_left hand) (queue_in hand) (asked_in hand) late

abbrev pub IsKept : (Id → Type 0) → List Message → Machine → Type 0
IsKept P messages m = KeptHand P messages m.state m.hand m.late

pub taken_out : {P : Id → Type 0} {messages : List Message} (m : Machine) {hand : Option Hand} → IsKept P messages m
    → m.hand ≡ hand → KeptHand P messages m.state hand m.late
taken_out {P} {messages} m k is = subst (λ hand. KeptHand P messages m.state hand m.late) is k

pub put_back : {P : Id → Type 0} {messages : List Message} {state : State} {held : Option Hand} {hand : Hand}
    {late : List TargetCommand} (change : Hand → Hand) → held ≡ Some hand
    → KeptHand P messages state (Some (change hand)) late → KeptHand P messages state (option_map change held) late
put_back {P} {messages} {state} {late = late} change is k =
    subst (λ held. KeptHand P messages state (option_map change held) late) (sym is) k

pub at_front : {P : Id → Type 0} {messages : List Message} {m : Machine} {hand : Hand} {part : Part} {rest : List Part}
    → IsKept P messages m → IsAt m hand part rest → Kept P messages m.state (part ∷ rest) hand.queue hand.asked m.late
at_front {P} {messages} {m} {hand} k at =
    subst (λ left. Kept P messages m.state left hand.queue hand.asked m.late) at.parts (taken_out m k at.in_hand)

-- Moves that change neither what is to be asked nor what was ----------------------------------------------------------

abbrev pub ids_said : Option Message → List Id
ids_said None = []
ids_said (Some message) = ids_given message

abbrev pub sizes_said : Option Message → List SizesRead
sizes_said None = []
sizes_said (Some message) = sizes_by message

pub sizes_more : (messages : List Message) (said : Option Message)
    → all_sizes (with_said messages said) ≡ all_sizes messages ++ sizes_said said
sizes_more messages None = sym (append-nil (all_sizes messages))
sizes_more messages (Some message) = flat_map-append sizes_by messages (message ∷ [])
    ∙ ap (λ more. all_sizes messages ++ more) (append-nil (sizes_by message))

pub same_sizes : (messages : List Message) (said : Option Message) → sizes_said said ≡ []
    → all_sizes (with_said messages said) ≡ all_sizes messages
same_sizes messages said quiet = sizes_more messages said ∙ ap (λ more. all_sizes messages ++ more) quiet
    ∙ append-nil (all_sizes messages)

-- what isn't as it was
pub record Passes (P : Id → Type 0) (sized : Bool) (next : State) (left : List Part) : Type 0 where
  pub wanted : AreWished P next.wishes.wanted
  pub order : in_order sized (is_attached next.phase) left ≡ true
  pub parts : All (PartStands P) left

pub stays : {P : Id → Type 0} {messages : List Message} {state : State} {was : List Part} {queue : List Want}
    {asked : List Sent} {late : List TargetCommand} (next : State) (left : List Part) (said : Option Message)
    → Kept P messages state was queue asked late → Same next state → sizes_said said ≡ []
    → (is_gone next.phase ≡ false → Near P state was queue asked → Passes P (is_some state.sizes) next left)
    → Kept P (with_said messages said) next left queue asked late
stays {P} {messages} next left said k same quiet passes = record {
  once = rw (same_sizes messages said quiet) k.once;
  sizes = λ near. same.sizes ∙ k.sizes (same.back near) ∙ ap first_sizes (sym (same_sizes messages said quiet));
  none_late = λ near. k.none_late (same.back near);
  near = λ near. let n = k.near (same.back near) in let p = passes near n in record {
    classes = subst (λ known. AreKnown P known) (sym same.classes) n.classes;
    wanted = p.wanted;
    order = rw same.sizes p.order;
    parts = p.parts;
    wants = rw same.sizes n.wants;
    replies = rw same.sizes n.replies;
  };
}

pub same_state : (state : State) → Same state state
same_state state = record { sizes = refl; classes = refl; back = λ near. near }

-- all stands as it did
pub quiet_kept : {P : Id → Type 0} {messages : List Message} {state : State} {left : List Part} {queue : List Want}
    {asked : List Sent} {late : List TargetCommand} (next : State) (said : Option Message)
    → Kept P messages state left queue asked late → Same next state → sizes_said said ≡ [] → next.phase ≡ state.phase
    → next.wishes.wanted ≡ state.wishes.wanted
    → Kept P (with_said messages said) next left queue asked late
quiet_kept {P} {left = left} next said k same quiet phase wanted = stays next left said k same quiet
    (λ near n. record {
      wanted = rw wanted n.wanted;
      order = rw phase n.order;
      parts = n.parts;
    })
