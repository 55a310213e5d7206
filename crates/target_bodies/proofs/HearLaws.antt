-- How what is judged of a body ends a session.
use Rattle.std.proofs.Common.{◌≡◌, ℕ, ◌+◌, List, Option, Some, Err, sym, subst}
use Rattle.jdwp_commands.specs.Answers.{answer_at}
use Rattle.jdwp_commands.specs.declared.asked.Asked.{Asked}
use Rattle.jdwp_commands.specs.declared.fault.BodyFault.{BodyFault}
use Rattle.jdwp_events.specs.Composites.{composite_at}
use Rattle.jdwp_events.specs.declared.composite.CompositeFault.{CompositeFault}
use Rattle.jdwp_values.specs.declared.sizes.IdSizes.{IdSizes}
use Rattle.session_endings.specs.declared.ending.Ending.{Ending}
use Rattle.session_endings.specs.declared.ending.Ending.TheVariants.{BadClient, BadTarget, ClientLink, Done, Flood}
use Rattle.session_endings.specs.declared.ending.Ending.TheVariants.{Idle}
use Rattle.session_endings.specs.declared.ending.Ending.TheVariants.{Left, NoMemory, Spent, TargetLink, TargetRefused}
use Rattle.session_endings.specs.declared.ending.TargetFault.{TargetFault}
use Rattle.target_bodies.specs.Hearing.{IsBadAnswer, IsBadBody, MayBe, answer_fault, composite_fault, header}

-- what holds of want of memory and of an ending holds of what may be it
pub may_hold : (P : Ending → Type 0) (ending wanted : Ending) → P NoMemory → P wanted → MayBe ending wanted → P ending
may_hold P NoMemory wanted none is may = none
may_hold P Done wanted none is may = subst P (sym may) is
may_hold P Left wanted none is may = subst P (sym may) is
may_hold P (BadClient fault at) wanted none is may = subst P (sym may) is
may_hold P (BadTarget fault at id) wanted none is may = subst P (sym may) is
may_hold P ClientLink wanted none is may = subst P (sym may) is
may_hold P TargetLink wanted none is may = subst P (sym may) is
may_hold P (TargetRefused set command code) wanted none is may = subst P (sym may) is
may_hold P Idle wanted none is may = subst P (sym may) is
may_hold P Spent wanted none is may = subst P (sym may) is
may_hold P Flood wanted none is may = subst P (sym may) is

pub bad_composite : (used : IdSizes) (body : List ℕ) (at place : ℕ) (found : CompositeFault) (fault : TargetFault)
    (ending : Ending) → composite_fault found ≡ Some (fault, place) → composite_at used body ≡ Err found
    → MayBe ending (BadTarget fault (at + header + place) 0) → IsBadBody used body at ending
bad_composite used body at place found fault ending is reads may =
    may_hold (IsBadBody used body at) ending (BadTarget fault (at + header + place) 0) IsBadBody.no_memory
    (IsBadBody.faulty reads is) may

pub bad_answer : (used : IdSizes) (asked : Asked) (body : List ℕ) (at place : ℕ) (found : BodyFault)
    (fault : TargetFault) (ending : Ending) → answer_fault found ≡ Some (fault, place)
    → answer_at used asked body ≡ Err found → MayBe ending (BadTarget fault (at + header + place) 0)
    → IsBadAnswer used asked body at ending
bad_answer used asked body at place found fault ending is reads may =
    may_hold (IsBadAnswer used asked body at) ending (BadTarget fault (at + header + place) 0) IsBadAnswer.no_memory
    (IsBadAnswer.faulty reads is) may
