-- A talk: the item in hand, and what is known, apart from the machine that they stand in.
use Rattle.std.specs.Prelude.{◌≡◌, ◌∷◌, ◌||◌, not, Bool, true, false, cond, List, Option, None, Some}
use Rattle.jdwp_commands.specs.declared.asked.Replied.{Replied}
use Rattle.jdwp_commands.specs.declared.question.Question.{Question}
use Rattle.jdwp_commands.specs.declared.question.Question.TheVariants as questions
use Rattle.machine_model.specs.Apart.{was_asked}
use Rattle.machine_model.specs.Due.{Due, Load, clear, due_as, due_by, gated, hand_due, hand_load, lets}
use Rattle.machine_model.specs.Due.{part_due}
use Rattle.machine_model.specs.declared.acts.Act.{Act}
use Rattle.machine_model.specs.declared.parts.Part.{Part}
use Rattle.machine_model.specs.declared.acts.Sent.{Sent}
use Rattle.machine_model.specs.Keys.{same_question}
use Rattle.machine_model.specs.Replying.{is_waiting, sizes_in}
use Rattle.machine_model.specs.State.{Hand, Machine, SizesRead, State, is_gone, is_some}
use Rattle.talk_plans.specs.declared.next.Next.{Next}
use Rattle.talk_plans.specs.declared.next.Next.TheVariants as nexts

-- the machine with this known, and this item in hand
abbrev pub holding : Machine → State → Hand → Machine
holding m state hand = record m { state = state; hand = Some hand }

-- what a talk has next, as the machine's act
abbrev pub act_of : Next → Act
act_of nexts.Wait = Act.Waits
act_of nexts.Go = Act.Goes
act_of (nexts.Tell told) = Act.Tells told
act_of nexts.Greet = Act.Greets
act_of (nexts.Send effect) = Act.Sends effect
act_of (nexts.Ask question) = Act.Asks question
act_of (nexts.Over finish) = Act.Over finish
act_of nexts.Done = Act.Goes

-- a question is asked, where there is one
abbrev pub asks : Option Question → Next
asks None = nexts.Wait
asks (Some question) = nexts.Ask question

-- a talk that is done is in hand no more
abbrev pub hand_after : Next → Hand → Option Hand
hand_after nexts.Done hand = None
hand_after _ hand = Some hand

-- what a talk has next, and the machine behind it
abbrev pub step_of : Machine → Next → State → Hand → Due
step_of m next state hand = due_as (act_of next) (record m { state = state; hand = hand_after next hand })

-- what hinders the talk, in a machine in which no composite is to be read
abbrev pub load_for : State → Hand → Load
load_for state hand = cond (is_gone state.phase) clear (hand_load state (Some hand))

-- what is due in a machine of which the talk is in hand, and in which no composite is to be read
abbrev pub talk_due : Bool → Machine → State → Hand → Due
talk_due full m state hand = due_by full (load_for state hand) (holding m state hand)

-- with this part in front of those that are left
abbrev pub before : Part → Hand → Hand
before part hand = record hand { parts = part ∷ hand.parts }

-- what a part does that was taken out of the talk, where the gate lets it through
abbrev pub does : Machine → State → Hand → Part → Due
does m state hand part =
    let there = holding m state (before part hand) in
    let due = part_due there (before part hand) part hand.parts in
    gated (lets (is_gone state.phase) due.act) there due

-- the next part of the talk, where the gate lets it through
abbrev pub goes_on : Machine → State → Hand → Due
goes_on m state hand =
    let there = holding m state hand in
    let due = hand_due there hand hand.parts in
    gated (lets (is_gone state.phase) due.act) there due

-- the sizes of ids are known once they were asked for and replied to
abbrev pub sizes_kept : Option SizesRead → List Sent → Bool
sizes_kept sizes asked =
    is_some sizes || (is_waiting questions.IdSizes asked || not (was_asked questions.IdSizes asked))

-- Once the sizes of ids were asked for and replied to they are known, unless the target is gone.
abbrev pub AreSized : State → Hand → Type 0
AreSized state hand = cond (is_gone state.phase) true (sizes_kept state.sizes hand.asked) ≡ true

-- What is known stays sized: the sizes and what was asked are as they were, and a target that is gone stays gone.
pub record StaysSized (state : State) (hand : Hand) (later : State) (left : Hand) : Type 0 where
  pub near : is_gone later.phase ≡ false → is_gone state.phase ≡ false
  pub sizes : later.sizes ≡ state.sizes
  pub asked : left.asked ≡ hand.asked

-- a reply to the question of the sizes says them
abbrev pub SaysSizes : Question → Replied → Type 0
SaysSizes question replied = same_question question questions.IdSizes ≡ true → is_some (sizes_in replied) ≡ true
