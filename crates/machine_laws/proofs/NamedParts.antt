-- What an item does for a thread that its request names: the parts that it has for that.
use Rattle.std.proofs.Common.{◌≡◌, ℕ, zero, suc, ◌+◌, ◌-◌, Bool, true, false, cond, List, [], ◌∷◌, ◌++◌, Option, Some}
use Rattle.std.proofs.Common.{None, refl, sym, ap, subst, append-nil, option_map, arith}
use Rattle.std.specs.Prelude.{◌==◌, option_and_then, slice_get}
use Rattle.dap_messages.specs.declared.requests.StackTraceArguments.{StackTraceArguments}
use Rattle.machine_model.specs.Due.{asked_hand}
use Rattle.machine_model.specs.Knowing.{HasNumber}
use Rattle.machine_model.specs.Lookups.{finished}
use Rattle.machine_model.specs.Outcomes.{result_of}
use Rattle.machine_model.specs.Plans.{Result}
use Rattle.machine_model.specs.Replying.{given_up, hand_replied}
use Rattle.machine_model.specs.Rows.{chosen, failure_of, gone_parts, has_response, news_of, parts_by, parts_of, row_of}
use Rattle.machine_model.specs.Rows.{stack_parts, step_parts, stepped_thread, thread_there, thread_with, told_in}
use Rattle.machine_model.specs.Rows.{wanting}
use Rattle.machine_model.specs.Runs.{Message, Run}
use Rattle.machine_model.specs.State.{Hand, Machine, State}
use Rattle.machine_steps.specs.Names.{Attached, Choice, Command, Decides, Failure, Finding, Item, Lookup, News}
use Rattle.machine_steps.specs.Names.{Judges}
use Rattle.machine_steps.specs.Names.{Next, Note, Part, Phase, Replied, Request, StackTrace, StepIn, StepOut, Stepped}
use Rattle.machine_steps.specs.Names.{Steps, TargetCommand, TellsNews, ThreadId, Want, a_question, a_request, an_effect}
use Rattle.machine_steps.specs.Names.{thread_frames}
use Rattle.machine_laws.specs.NamedThreads.{IsStep}
use Rattle.machine_steps.proofs.PartTests.{is_request, passes}
use Rattle.machine_steps.proofs.Stepping.{IsAt, Moves, by_moves}
use Rattle.machine_steps.proofs.Tables.{of_decided, of_judged}
use Rattle.machine_laws.proofs.ThreadLaws.{Grows, grows_on, kept}
use Rattle.wish_sets.specs.declared.wish.Depth.{Depth}
use Rattle.wish_sets.specs.declared.wish.Depth.TheVariants.{Into, Out, Over}
use Rattle.wish_sets.specs.declared.wish.StepWish.{StepWish}

-- Numbers -------------------------------------------------------------------------------------------------------------

at_place : (threads : List ThreadId) (place : ℕ) (thread : ThreadId) → slice_get threads place ≡ Some thread
    → HasNumber threads thread (place + 1)
at_place [] place thread is = cc
at_place (first ∷ threads) zero thread is = record {
  before = [];
  after = threads;
  threads_are = let same : first ≡ thread = cc in ap (λ (one : ThreadId). one ∷ threads) same;
  number_is = omega arith;
}
at_place (first ∷ threads) (suc place) thread is = let h = at_place threads place thread is in record {
  before = first ∷ h.before;
  after = h.after;
  threads_are = ap (λ (all : List ThreadId). first ∷ all) h.threads_are;
  number_is = omega (arith, h.number_is);
}

-- the thread of a number has that number
pub numbered_so : (threads : List ThreadId) (number : ℕ) (thread : ThreadId) → thread_with threads number ≡ Some thread
    → HasNumber threads thread number
numbered_so threads number thread is = by_zero (number == 0) refl is
  where
    above : (number : ℕ) → (number == 0) ≡ false → (number - 1) + 1 ≡ number
    above zero none = cc
    above (suc below) none = omega arith

    by_zero : (none : Bool) → (number == 0) ≡ none → cond none None (slice_get threads (number - 1)) ≡ Some thread
        → HasNumber threads thread number
    by_zero true none is = cc
    by_zero false none is = subst (λ (number : ℕ). HasNumber threads thread number) (above number none)
        (at_place threads (number - 1) thread is)

-- Parts ---------------------------------------------------------------------------------------------------------------

-- the item is a `stackTrace` of this thread
pub record IsStack (item : Item) (threads : List ThreadId) (thread : ThreadId) : Type 0 where
  pub request : Request
  pub arguments : StackTraceArguments
  pub is_request : item ≡ a_request request
  pub asks : request.command ≡ StackTrace arguments
  pub has_number : HasNumber threads thread arguments.thread_id

-- the item is a request for this step
pub record IsToStep (item : Item) (threads : List ThreadId) (step : StepWish) : Type 0 where
  pub request : Request
  pub number : ℕ
  pub is_request : item ≡ a_request request
  pub steps : IsStep request.command step.depth number
  pub has_number : HasNumber threads step.thread number

-- behind the note of a step it is set
pub record IsNoted (item : Item) (threads : List ThreadId) (step : StepWish) (rest : List Part) : Type 0 where
  pub to_step : IsToStep item threads step
  pub behind : rest ≡ Part.Updates ∷ Part.Unfolds Stepped ∷ []

abbrev LookNamed : Item → List ThreadId → Lookup → Type 0
LookNamed item threads (thread_frames thread start levels) = IsStack item threads thread
LookNamed item threads _ = Unit {0}

abbrev StepNamed : Item → List ThreadId → Option StepWish → List Part → Type 0
StepNamed item threads None rest = Unit {0}
StepNamed item threads (Some step) rest = IsNoted item threads step rest

abbrev NoteNamed : Item → List ThreadId → Note → List Part → Type 0
NoteNamed item threads (Steps step) rest = StepNamed item threads step rest
NoteNamed item threads _ rest = Unit {0}

-- a part does something for the thread alone that the request names
abbrev PartNamed : Item → List ThreadId → Part → List Part → Type 0
PartNamed item threads (Part.Looks lookup) rest = LookNamed item threads lookup
PartNamed item threads (Part.Notes note) rest = NoteNamed item threads note rest
PartNamed item threads _ rest = Unit {0}

abbrev pub AreNamed : Item → List ThreadId → List Part → Type 0
AreNamed item threads [] = Unit {0}
AreNamed item threads (part ∷ rest) = PartNamed item threads part rest × AreNamed item threads rest

abbrev pub HandNamed : List ThreadId → Option Hand → Type 0
HandNamed threads None = Unit {0}
HandNamed threads (Some hand) = AreNamed hand.item threads hand.parts

-- The tables ----------------------------------------------------------------------------------------------------------

-- a part does nothing for a thread
abbrev names_none : Part → Bool
names_none (Part.Looks (thread_frames thread start levels)) = false
names_none (Part.Notes (Steps (Some step))) = false
names_none _ = true

none_named : (item : Item) (threads : List ThreadId) (part : Part) (rest : List Part) → names_none part ≡ true
    → PartNamed item threads part rest
none_named item threads (Part.Looks (thread_frames thread start levels)) rest is = cc
none_named item threads (Part.Notes (Steps (Some step))) rest is = cc
none_named item threads _ rest is = tt

plain_named : (item : Item) (threads : List ThreadId) (parts rest : List Part) → passes names_none parts ≡ true
    → AreNamed item threads rest → AreNamed item threads (parts ++ rest)
plain_named item threads [] rest is h = h
plain_named item threads (part ∷ parts) rest is h =
    by_test (names_none part) (none_named item threads part (parts ++ rest)) is (plain_named item threads parts rest)
  where
    by_test : (first : Bool) → (first ≡ true → PartNamed item threads part (parts ++ rest))
        → cond first (passes names_none parts) false ≡ true
        → (passes names_none parts ≡ true → AreNamed item threads rest → AreNamed item threads (parts ++ rest))
        → AreNamed item threads (part ∷ parts ++ rest)
    by_test true one is others = (one refl, others is h)
    by_test false one is others = cc

all_plain : (item : Item) (threads : List ThreadId) (parts : List Part) → passes names_none parts ≡ true
    → AreNamed item threads parts
all_plain item threads parts is =
    subst (λ (parts : List Part). AreNamed item threads parts) (append-nil parts)
    (plain_named item threads parts [] is tt)

-- a request that names a thread to do something for it
abbrev names_thread : Command → Bool
names_thread (StackTrace arguments) = true
names_thread (Next arguments) = true
names_thread (StepIn arguments) = true
names_thread (StepOut arguments) = true
names_thread _ = false

row_plain : (command : Command) (state : State) → names_thread command ≡ false
    → passes names_none (row_of command state) ≡ true
row_plain command state is = grind (arith, is)

-- a thread that steps isn't thread 0, but the one that was found
same_thread : (found : Option ThreadId) (thread : ThreadId) → option_and_then thread_there found ≡ Some thread
    → found ≡ Some thread
same_thread None thread is = cc
same_thread (Some other) thread is = by_zero (other.0 == 0) is
  where
    by_zero : (none : Bool) → cond none None (Some other) ≡ Some thread → Some other ≡ Some thread
    by_zero true is = cc
    by_zero false is = is

module _ (request : Request) (state : State) where
  steps_named : (depth : Depth) (number : ℕ) (found : Option ThreadId) → stepped_thread state number ≡ found
      → IsStep request.command depth number → AreNamed (a_request request) state.threads (step_parts depth found)
  steps_named depth number None is steps = (tt, tt)
  steps_named depth number (Some thread) is steps = (
    record {
      to_step = record {
        request = request;
        number = number;
        is_request = refl;
        steps = steps;
        has_number = numbered_so state.threads number thread
            (same_thread (thread_with state.threads number) thread is);
      };
      behind = refl;
    },
    (tt, (tt, tt)),
  )

  stack_named : (arguments : StackTraceArguments) (found : Option ThreadId) → request.command ≡ StackTrace arguments
      → thread_with state.threads arguments.thread_id ≡ found
      → AreNamed (a_request request) state.threads (stack_parts found arguments)
  stack_named arguments None asks is = (tt, tt)
  stack_named arguments (Some thread) asks is = (
    record {
      request = request;
      arguments = arguments;
      is_request = refl;
      asks = asks;
      has_number = numbered_so state.threads arguments.thread_id thread is;
    },
    tt,
  )

  row_named : (command : Command) → request.command ≡ command
      → AreNamed (a_request request) state.threads (row_of command state)
  row_named (StackTrace arguments) is =
      stack_named arguments (thread_with state.threads arguments.thread_id) is refl
  row_named (Next arguments) is = steps_named Over arguments.thread_id (stepped_thread state arguments.thread_id) refl
      (subst (λ (command : Command). IsStep command Over arguments.thread_id) (sym is) IsStep.over)
  row_named (StepIn arguments) is = steps_named Into arguments.thread_id (stepped_thread state arguments.thread_id) refl
      (subst (λ (command : Command). IsStep command Into arguments.thread_id) (sym is) IsStep.into)
  row_named (StepOut arguments) is = steps_named Out arguments.thread_id (stepped_thread state arguments.thread_id) refl
      (subst (λ (command : Command). IsStep command Out arguments.thread_id) (sym is) IsStep.out)
  row_named command is =
      all_plain (a_request request) state.threads (row_of command state) (row_plain command state refl)

  failed_named : (failure : Option Failure) (row : List Part) → AreNamed (a_request request) state.threads row
      → AreNamed (a_request request) state.threads (parts_by failure row)
  failed_named (Some failure) row h = (tt, tt)
  failed_named None row h = h

begun_plain : (state : State) (item : Item) → is_request item ≡ false → passes names_none (parts_of state item) ≡ true
begun_plain state item is = grind (arith, is)

begun_named : (state : State) (item : Item) → AreNamed item state.threads (parts_of state item)
begun_named state (a_request request) = failed_named request state (failure_of (wanting request.command) state)
    (row_of request.command state) (row_named request state request.command refl)
begun_named state item = all_plain item state.threads (parts_of state item) (begun_plain state item refl)

found_plain : (lookup : Lookup) (result : Result Finding) (state : State)
    → passes names_none (finished lookup result state) ≡ true
found_plain lookup result state = grind arith

chosen_plain : (choice : Choice) (state : State) (hand : Hand) → passes names_none (chosen choice state hand) ≡ true
chosen_plain (TellsNews below) state hand = by_news state.phase (news_of below state hand.item)
  where
    by_news : (phase : Phase) (news : List News) → passes names_none (told_in phase news) ≡ true
    by_news Attached (one ∷ news) = by_news Attached news
    by_news _ _ = refl
chosen_plain Judges state hand =
    of_judged (λ (parts : List Part). passes names_none parts ≡ true) refl (λ strikes. refl) state hand.item
chosen_plain (Decides logged stops) state hand =
    of_decided (λ (parts : List Part). passes names_none parts ≡ true) refl refl refl
    (λ stopped thrown stops halt. grind arith) (λ text texts stops. refl) state logged stops hand.item
chosen_plain _ state hand = grind arith

given_plain : (responds : Bool) (item : Item) → passes names_none (gone_parts responds item) ≡ true
given_plain responds item = grind arith

-- In runs -------------------------------------------------------------------------------------------------------------

part_still : (threads now : List ThreadId) (item : Item) (part : Part) (rest : List Part) → Grows threads now
    → PartNamed item threads part rest → PartNamed item now part rest
part_still threads now item (Part.Looks (thread_frames thread start levels)) rest grows h = record {
  request = h.request;
  arguments = h.arguments;
  is_request = h.is_request;
  asks = h.asks;
  has_number = kept grows h.has_number;
}
part_still threads now item (Part.Notes (Steps (Some step))) rest grows h = record {
  to_step = record {
    request = h.to_step.request;
    number = h.to_step.number;
    is_request = h.to_step.is_request;
    steps = h.to_step.steps;
    has_number = kept grows h.to_step.has_number;
  };
  behind = h.behind;
}
part_still threads now item _ rest grows h = tt

parts_still : (threads now : List ThreadId) (item : Item) (parts : List Part) → Grows threads now
    → AreNamed item threads parts → AreNamed item now parts
parts_still threads now item [] grows h = tt
parts_still threads now item (part ∷ parts) grows h =
    (part_still threads now item part parts grows h.0, parts_still threads now item parts grows h.1)

hand_still : (threads now : List ThreadId) (hand : Option Hand) → Grows threads now → HandNamed threads hand
    → HandNamed now hand
hand_still threads now None grows h = tt
hand_still threads now (Some hand) grows h = parts_still threads now hand.item hand.parts grows h

pub named_front : (threads : List ThreadId) {m : Machine} {hand : Hand} {part : Part} {rest : List Part}
    → HandNamed threads m.hand → IsAt m hand part rest → AreNamed hand.item threads (part ∷ rest)
named_front threads {hand = hand} h at =
    subst (λ (parts : List Part). AreNamed hand.item threads parts) at.parts
    (subst (λ (held : Option Hand). HandNamed threads held) at.in_hand h)

replied_named : (threads : List ThreadId) (command : TargetCommand) (replied : Replied) (hand : Option Hand)
    → HandNamed threads hand → HandNamed threads (option_map (hand_replied command replied) hand)
replied_named threads command replied None h = tt
replied_named threads (a_question question) replied (Some hand) h = h
replied_named threads (an_effect effect) replied (Some hand) h = h

asked_named : (threads : List ThreadId) (want : Want) (hand : Option Hand) → HandNamed threads hand
    → HandNamed threads (option_map (asked_hand want) hand)
asked_named threads want None h = tt
asked_named threads want (Some hand) h = h

given_named : (threads : List ThreadId) (hand : Option Hand) → HandNamed threads (option_map given_up hand)
given_named threads None = tt
given_named threads (Some hand) = all_plain hand.item threads (gone_parts (has_response hand.parts) hand.item)
    (given_plain (has_response hand.parts) hand.item)

-- what each move makes of it, by the threads that had numbers before
named_on : (m next : Machine) (said : Option Message) → HandNamed m.state.threads m.hand → Moves m said next
    → HandNamed m.state.threads next.hand
named_on m next said h (Moves.begins picked free none is) = begun_named m.state picked.item
named_on m next said h (Moves.drops free is none) = tt
named_on m next said h (Moves.responds free at is) = (named_front m.state.threads h at).1
named_on m next said h (Moves.finds {hand} {rest} {lookup} found free at needs done) =
    plain_named hand.item m.state.threads (finished lookup (result_of found) m.state) rest
    (found_plain lookup (result_of found) m.state) (named_front m.state.threads h at).1
named_on m next said h (Moves.passes_over free at why) = (named_front m.state.threads h at).1
named_on m next said h (Moves.tells free at) = (named_front m.state.threads h at).1
named_on m next said h (Moves.sends free at near) = (named_front m.state.threads h at).1
named_on m next said h (Moves.updates free at is near) = named_front m.state.threads h at
named_on m next said h (Moves.notes free at) = (named_front m.state.threads h at).1
named_on m next said h (Moves.unfolds {hand} {choice} {rest} free at) =
    plain_named hand.item m.state.threads (chosen choice m.state hand) rest (chosen_plain choice m.state hand)
    (named_front m.state.threads h at).1
named_on m next said h (Moves.queues free is) =
    subst (λ (held : Option Hand). HandNamed m.state.threads held) is h
named_on m next said h (Moves.asks {want = want} free room is are) = asked_named m.state.threads want m.hand h
named_on m next said h (Moves.answers {question} {replied} is waits reply stays) =
    replied_named m.state.threads (a_question question) replied m.hand h
named_on m next said h (Moves.replies {effect} {replied} is flies reply stays) =
    replied_named m.state.threads (an_effect effect) replied m.hand h
named_on m next said h (Moves.loses late near why) = given_named m.state.threads m.hand
named_on m next said h _ = h

pub named : {messages : List Message} {m : Machine} → Run messages m → HandNamed m.state.threads m.hand
named r = by_moves {Holds = λ (messages : List Message) (m : Machine). HandNamed m.state.threads m.hand} (record {
  starts = tt;
  moves = λ messages m next said h moved.
      hand_still m.state.threads next.state.threads next.hand (grows_on m next said moved)
      (named_on m next said h moved);
  queues = λ messages m hand queue may h. h;
}) r
