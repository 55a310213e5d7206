-- What the body of a packet of the target's says, and how it ends a session.
use Rattle.std.specs.Prelude.{ℕ, ◌≡◌, ◌+◌, List, Ok, Err, None, Some, Option}
use Rattle.jdwp_commands.specs.Answers.{IsAnswerTo, answer_at}
use Rattle.jdwp_commands.specs.declared.answer.Answer.{Answer}
use Rattle.jdwp_commands.specs.declared.asked.Asked.{Asked}
use Rattle.jdwp_commands.specs.declared.fault.BodyFault.{BodyFault}
use Rattle.jdwp_commands.specs.declared.fault.BodyFault.TheVariants as body_faults
use Rattle.jdwp_events.specs.Composites.{FitsComposite, composite_at}
use Rattle.jdwp_events.specs.declared.composite.Composite.{Composite}
use Rattle.jdwp_events.specs.declared.composite.CompositeFault.{CompositeFault}
use Rattle.jdwp_events.specs.declared.composite.CompositeFault.TheVariants as composite_faults
use Rattle.jdwp_values.specs.declared.sizes.IdSizes.{IdSizes}
use Rattle.session_endings.specs.declared.ending.Ending.{Ending}
use Rattle.session_endings.specs.declared.ending.Ending.TheVariants.{BadTarget, NoMemory}
use Rattle.session_endings.specs.declared.ending.TargetFault.{TargetFault}
use Rattle.session_endings.specs.declared.ending.TargetFault.TheVariants.{BadCount, BadKind, BadPolicy, BadTag, Short}
use Rattle.session_endings.specs.declared.ending.TargetFault.TheVariants.{Trailing}

-- it is this ending, unless memory ran out
abbrev pub MayBe : Ending → Ending → Type 0
MayBe NoMemory wanted = Unit {0}
MayBe ending wanted = ending ≡ wanted

-- how many bytes of a packet stand before its body (JDWP, JDWP Packets, header)
abbrev pub header : ℕ
header = 11

-- Composites ----------------------------------------------------------------------------------------------------------

-- a fault of a composite's body, and its place in the body; want of memory is none
abbrev pub composite_fault : CompositeFault → Option (TargetFault × ℕ)
composite_fault composite_faults.NoMemory = None
composite_fault (composite_faults.Short place) = Some (Short, place)
composite_fault (composite_faults.BadKind place) = Some (BadKind, place)
composite_fault (composite_faults.BadPolicy place) = Some (BadPolicy, place)
composite_fault (composite_faults.BadCount place) = Some (BadCount, place)
composite_fault (composite_faults.BadTag place) = Some (BadTag, place)
composite_fault (composite_faults.Trailing place) = Some (Trailing, place)

-- the body reads as this composite (JDWP, Event command set, Composite)
pub record ReadsComposite (used : IdSizes) (body : List ℕ) (composite : Composite) : Type 0 where
  pub reads : composite_at used body ≡ Ok composite
  pub fits : FitsComposite used composite

-- the body of a composite, whose packet begins at this offset, has a fault
pub data IsBadBody (used : IdSizes) (body : List ℕ) (at : ℕ) : Ending → Type 0 where
  no_memory : IsBadBody used body at NoMemory
  faulty : {found : CompositeFault} {fault : TargetFault} {place : ℕ} → composite_at used body ≡ Err found
      → composite_fault found ≡ Some (fault, place) → IsBadBody used body at (BadTarget fault (at + header + place) 0)

-- Answers -------------------------------------------------------------------------------------------------------------

-- a fault of an answer's body, and its place in the body; a command that is sent is known
abbrev pub answer_fault : BodyFault → Option (TargetFault × ℕ)
answer_fault body_faults.NoMemory = None
answer_fault body_faults.UnknownCommand = None
answer_fault (body_faults.Short place) = Some (Short, place)
answer_fault (body_faults.BadTag place) = Some (BadTag, place)
answer_fault (body_faults.BadCount place) = Some (BadCount, place)
answer_fault (body_faults.Trailing place) = Some (Trailing, place)

-- the body reads as this answer to the command (JDWP, JDWP Packets, reply packet)
pub record ReadsAnswer (used : IdSizes) (asked : Asked) (body : List ℕ) (answer : Answer) : Type 0 where
  pub reads : answer_at used asked body ≡ Ok answer
  pub answers : IsAnswerTo used asked answer

-- the body of an answer to the command, whose packet begins at this offset, has a fault
pub data IsBadAnswer (used : IdSizes) (asked : Asked) (body : List ℕ) (at : ℕ) : Ending → Type 0 where
  no_memory : IsBadAnswer used asked body at NoMemory
  faulty : {found : BodyFault} {fault : TargetFault} {place : ℕ} → answer_at used asked body ≡ Err found
      → answer_fault found ≡ Some (fault, place)
      → IsBadAnswer used asked body at (BadTarget fault (at + header + place) 0)
