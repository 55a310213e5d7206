-- What a tap does next, in the words of the code, and what it says.
use Rattle.std.specs.Prelude.{ℕ, ◌≡◌, List, ◌∷◌, Some, slice_get}
use Rattle.tap_core.specs.Cores.{CoreState, core_after}
use Rattle.tap_core.specs.Names.{AnOut, AskNext, AskSizes, Floods, Greet, HandOn, Next, PassOn, Rests}
use Rattle.tap_core.specs.Names.{Ask, Debugger, DebuggerCommand, IdSizes, of_question, Owner, Sizes}
use Rattle.tap_model.specs.States.{Said, TapState, after, bytes_of, greets, hands, sends, side_of}
use Rattle.tap_model.specs.Steps.{Step, passed_on, question_command, sizes_command}

-- what is to be done where this is to be said
abbrev pub sending_next : Owner → Next
sending_next (Debugger id leaves) = PassOn
sending_next Sizes = AskSizes
sending_next (of_question n) = AskNext

abbrev pub said_next : Said → Next
said_next (greets side) = Greet side
said_next (sends c) = sending_next c.owner
said_next (hands bytes) = HandOn

-- what is to be done where this step is due
abbrev pub next_of : Step → Next
next_of (Step.says what) = said_next what
next_of (Step.hears message s) = Rests
next_of (Step.learns packet numbers s) = Rests
next_of (Step.ends ending) = Floods
next_of Step.waits = Rests

-- This is to be done where that step is due: something is said; the tap ends; or nothing is due.
abbrev pub Decides : Step → Next → Type 0
Decides step next = next ≡ next_of step

-- What is said, where this is to be done: what waits first.
abbrev pub Means : List Ask → TapState → Next → Said → Type 0
Means asks s (Greet side) what = what ≡ greets side
Means asks s AskSizes what = what ≡ sizes_command s.sent
Means asks s PassOn what = (command : DebuggerCommand) × (others : List DebuggerCommand)
    × (s.commands ≡ command ∷ others) × (what ≡ passed_on s.sent command)
Means asks s HandOn what = (bytes : List ℕ) × (others : List (List ℕ)) × (s.packets ≡ bytes ∷ others)
    × (what ≡ hands bytes)
Means asks s AskNext what = (sizes : IdSizes) × (n : ℕ) × (left : List ℕ) × (ask : Ask)
    × (s.asking.sizes ≡ Some sizes) × (s.asking.left ≡ n ∷ left) × (slice_get asks n ≡ Some ask)
    × (what ≡ question_command s.sent sizes n ask.question)
Means asks s Floods what = ⊥
Means asks s Rests what = ⊥

-- That is said by a core: its bytes go out, to its side, and the core stands behind it.
abbrev pub Speaks : Said → CoreState → AnOut → CoreState → Type 0
Speaks what old out new = (out.side ≡ side_of what) × (out.bytes ≡ bytes_of what) × (new ≡ core_after what old)

-- That was said: its bytes go out, to its side, and the tap stands behind it.
pub record IsSaid (what : Said) (old : TapState) (out : AnOut) (new : TapState) : Type 0 where
  pub side : out.side ≡ side_of what
  pub bytes : out.bytes ≡ bytes_of what
  pub behind : new ≡ after what old
