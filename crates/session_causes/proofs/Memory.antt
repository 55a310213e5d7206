-- Memory runs out in a session that goes on, or behind the cause of one that has ended.
use Rattle.std.proofs.Common.{◌≡◌, ℕ, List, subst}
use Rattle.machine_model.specs.Runs.{Message}
use Rattle.session_causes.specs.Memory.{IsCutOff}
use Rattle.session_laws.proofs.EndLaws.{shows}
use Rattle.session_laws.proofs.SendLaws.{is_sent}
use Rattle.session_laws.proofs.SentLaws.{is_sent_in_all}
use Rattle.session_laws.specs.Endings.{ShowsInLog}
use Rattle.session_model.specs.Names.{Ending, Entry, Limits, NoMemory}
use Rattle.session_model.specs.Session.{Ended, EndedState, IsLeft}

-- it is no cause
no_cause : {limits : Limits} {log : List Entry} {messages : List Message} {turns : ℕ} {e : EndedState}
    → Ended limits log messages turns e → e.ending ≡ NoMemory → ⊥
no_cause {limits} {log} {turns = turns} h is = subst (λ ending. ShowsInLog limits log turns ending) is (shows h)

pub for_memory : {limits : Limits} {log : List Entry} {messages : List Message} {turns : ℕ} {ending : Ending}
    → IsLeft limits log messages turns ending → ending ≡ NoMemory → IsCutOff limits log messages turns
for_memory (IsLeft.ended h done) is = absurd (no_cause h is)
for_memory (IsLeft.no_memory g) is = IsCutOff.going g (λ side. is_sent side g)
for_memory (IsLeft.no_memory_then h) is = IsCutOff.ended h (λ is. no_cause h is) (λ side. is_sent_in_all side h)
