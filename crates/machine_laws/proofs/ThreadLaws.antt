-- A thread keeps its number: others get theirs behind those that have one.
use Rattle.std.proofs.Common.{◌≡◌, ℕ, List, [], ◌∷◌, ◌++◌, sym, ap, ◌∙◌, append_assoc, append-nil, refl}
use Rattle.machine_model.specs.Knowing.{HasNumber}
use Rattle.machine_model.specs.Runs.{Message}
use Rattle.machine_model.specs.State.{Machine, State}
use Rattle.machine_model.specs.Telling.{after_event, numbered_by}
use Rattle.std.specs.Prelude.{Option}
use Rattle.machine_steps.specs.Names.{Event, NamedThread, Outcome, Success, ThreadId, a_question, a_stop, an_effect}
use Rattle.machine_steps.specs.Names.{some_news, thread_changed, thread_list}
use Rattle.machine_laws.specs.ThreadNumbers.{Reaches}
use Rattle.machine_laws.proofs.NumberLaws.{grows}
use Rattle.machine_steps.proofs.Stepping.{Moves, gone_on, moved}
use Rattle.machine_steps.proofs.ThreadIds.{noted_threads, replied_threads}

-- others stand behind these
abbrev pub Grows : List ThreadId → List ThreadId → Type 0
Grows threads now = (more : List ThreadId) × (now ≡ threads ++ more)

same_threads : (threads now : List ThreadId) → now ≡ threads → Grows threads now
same_threads threads now is = ([], is ∙ sym (append-nil threads))

outcome_grows : (outcome : Outcome) (state : State) → Grows state.threads (numbered_by outcome state).threads
outcome_grows (Success (thread_list named)) state = grows state.threads named
outcome_grows _ state = same_threads state.threads state.threads refl

event_grows : (event : Event) (state : State) → Grows state.threads (after_event event state).threads
event_grows (some_news (thread_changed started thread)) state =
    let named : List NamedThread = record { thread = thread; name = [] } ∷ [] in grows state.threads named
event_grows (a_stop stopping) state =
    let named : List NamedThread = record { thread = stopping.thread; name = [] } ∷ [] in grows state.threads named
event_grows _ state = same_threads state.threads state.threads refl

pub grows_on : (m next : Machine) (said : Option Message) → Moves m said next → Grows m.state.threads next.state.threads
grows_on m next said (Moves.responds {outcome = outcome} free at is) = outcome_grows outcome m.state
grows_on m next said (Moves.tells {event = event} free at) = event_grows event m.state
grows_on m next said (Moves.notes {note = note} free at) =
    same_threads m.state.threads next.state.threads (noted_threads note m.state)
grows_on m next said (Moves.answers {question} {replied} is waits reply stays) =
    same_threads m.state.threads next.state.threads (replied_threads (a_question question) replied m.state)
grows_on m next said (Moves.replies {effect} {replied} is flies reply stays) =
    same_threads m.state.threads next.state.threads (replied_threads (an_effect effect) replied m.state)
grows_on m next said _ = same_threads m.state.threads next.state.threads refl

pub kept : {threads now : List ThreadId} {thread : ThreadId} {number : ℕ} → Grows threads now
    → HasNumber threads thread number → HasNumber now thread number
kept {thread = thread} (more, is) h = record {
  before = h.before;
  after = h.after ++ more;
  threads_are = is ∙ ap (λ (threads : List ThreadId). threads ++ more) h.threads_are
      ∙ append_assoc h.before (thread ∷ h.after) more;
  number_is = h.number_is;
}

pub keeps_numbers : (here there : Machine) (thread : ThreadId) (number : ℕ) → Reaches here there
    → HasNumber here.state.threads thread number → HasNumber there.state.threads thread number
keeps_numbers here there thread number Reaches.stays h = h
keeps_numbers here there thread number (Reaches.goes {there = before} r is) h =
    kept (grows_on before there _ (gone_on is)) (keeps_numbers here before thread number r h)
keeps_numbers here there thread number (Reaches.queues {there = before} r may) h =
    keeps_numbers here before thread number r h
keeps_numbers here there thread number (Reaches.moves {there = before} r allows) h =
    kept (grows_on before there _ (moved allows)) (keeps_numbers here before thread number r h)
