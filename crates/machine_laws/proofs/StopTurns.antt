-- What each move is to the stop in hand: it goes on, or one begins, or it is over, also with its target.
use Rattle.std.proofs.Common.{◌≡◌, Bool, true, false, List, [], ◌∷◌, Option, Some, None, refl}
use Rattle.machine_model.specs.Due.{after_deed, sent}
use Rattle.machine_model.specs.Ids.{begins_stop, ids_given}
use Rattle.machine_model.specs.ReferenceNumbers.{ends_stop}
use Rattle.machine_model.specs.Runs.{Message}
use Rattle.machine_model.specs.State.{Hand, Machine, is_gone, knowing}
use Rattle.machine_steps.specs.Names.{Does, Effect, Part, Resume, Suspend, Terminated, a_question, a_stop, an_effect}
use Rattle.machine_steps.specs.Names.{of_stop}
use Rattle.machine_steps.proofs.HoldingParts.{numbered_stop, same_stop}
use Rattle.machine_steps.proofs.ReferenceLaws.{due_request}
use Rattle.machine_steps.proofs.RequestSteps.{is_deed}
use Rattle.machine_steps.proofs.Stepping.{IsAt, Moves}
use Rattle.machine_laws.proofs.StepLaws.{noted_stop}

abbrev pub says_end : Option Message → Bool
says_end None = false
says_end (Some message) = ends_stop message

-- what a move is to the stop in hand
pub data Turns (m : Machine) : Option Message → Machine → Type 0 where
  goes_on : {said : Option Message} {next : Machine} → next.state.stopped ≡ m.state.stopped → says_end said ≡ false
      → Turns m said next
  begins : {message : Message} {next : Machine} → next.state.stopped ≡ true → begins_stop message ≡ true
      → ends_stop message ≡ false → ids_given message ≡ [] → Turns m (Some message) next
  ends : {hand : Hand} {rest : List Part} → IsAt m hand (Part.Sends (Resume of_stop)) rest
      → Turns m (Some (Message.sends (an_effect (Does (Resume of_stop)))))
      (sent (knowing m (after_deed (Resume of_stop) m.state)) hand rest (Does (Resume of_stop)))
  loses : {said : Option Message} {next : Machine} → is_gone next.state.phase ≡ true → next.state.stopped ≡ false
      → Turns m said next

pub request_quiet : (effect : Effect) → is_deed effect ≡ false → ends_stop (Message.sends (an_effect effect)) ≡ false
request_quiet (Does deed) is = cc
request_quiet _ is = refl

pub turns : (m next : Machine) (said : Option Message) → Moves m said next → Turns m said next
turns m next said (Moves.responds {outcome = outcome} free at is) = Turns.goes_on (numbered_stop outcome m.state) refl
turns m next said (Moves.tells {event = a_stop stopping} free at) = Turns.begins refl refl refl refl
turns m next said (Moves.tells {event = Terminated} free at) = Turns.loses refl refl
turns m next said (Moves.sends {deed = Suspend} free at near) = Turns.begins refl refl refl refl
turns m next said (Moves.sends {deed = Resume of_stop} free at near) = Turns.ends at
turns m next said (Moves.updates {effect = effect} free at is near) =
    Turns.goes_on refl (request_quiet effect (due_request m.state.wishes effect is))
turns m next said (Moves.notes {note = note} free at) = Turns.goes_on (noted_stop note m.state) refl
turns m next said (Moves.answers {question} {replied} is waits reply last) =
    Turns.goes_on (same_stop (a_question question) replied m.state) refl
turns m next said (Moves.replies {effect} {replied} is flying reply last) =
    Turns.goes_on (same_stop (an_effect effect) replied m.state) refl
turns m next said (Moves.loses late near why) = Turns.loses refl refl
turns m next said _ = Turns.goes_on refl refl
