-- In which order requests are due.
use Rattle.std.proofs.Common.{◌≡◌, ℕ, Bool, true, false, ◌||◌, ◌⊎◌, inl, inr, List, [], ◌∷◌, Option, Some, None}
use Rattle.std.proofs.Common.{ap, codes, refl, slice_get}
use Rattle.serde_json.specs.Data.{Data}
use Rattle.dump_client.specs.Answers.{failure_of, frames_said, threads_said, variables_said}
use Rattle.dump_client.specs.Conversing.{answered, at_first_threads, at_scopes_by, at_stack_by, at_this_frame, at_this_thread}
use Rattle.dump_client.specs.Conversing.{at_variables_by, is_gone, taken_by, with_text}
use Rattle.dump_client.specs.Lines.{failure_line}
use Rattle.dump_client.specs.Phases.{is_continuing, is_pausing, is_reading}
use Rattle.dump_client.specs.declared.answers.Heading.{Heading}
use Rattle.dump_client.specs.declared.conversation.Conversation.{Conversation}
use Rattle.dump_client.specs.declared.due.Due.{Due}
use Rattle.dump_client.specs.declared.due.Due.TheVariants as due

-- values are asked for, or the target goes on
abbrev GoesOn : Due → Type 0
GoesOn step = (is_reading step ≡ true) ⊎ (is_continuing step ≡ true)

thread_goes : (thread : Option Heading) (c : Conversation) → GoesOn (at_this_thread thread c).due
thread_goes None c = inr refl
thread_goes (Some thread) c = inl refl

frame_goes : (frame : Option Heading) (c : Conversation) → GoesOn (at_this_frame frame c).due
frame_goes None c = thread_goes (slice_get c.threads c.thread_at) c
frame_goes (Some frame) c = inl refl

stack_goes : (failure : Option ℕ) (d : Data) (c : Conversation) → GoesOn (at_stack_by failure d c).due
stack_goes None d c = frame_goes (slice_get (frames_said d) 0) (record c { frames = frames_said d; frame_at = 0 })
stack_goes (Some code) d c =
    thread_goes (slice_get c.threads c.thread_at) (with_text (failure_line (codes "  ") code) c)

scopes_go : (failure : Option ℕ) (d : Data) (c : Conversation) → GoesOn (at_scopes_by failure d c).due
scopes_go None d c = inl refl
scopes_go (Some code) d c =
    frame_goes (slice_get c.frames c.frame_at) (with_text (failure_line (codes "    ") code) c)

variables_go : (failure : Option ℕ) (d : Data) (c : Conversation) → GoesOn (at_variables_by failure d c).due
variables_go None d c = frame_goes (slice_get c.frames c.frame_at) (with_text (variables_said d) c)
variables_go (Some code) d c =
    frame_goes (slice_get c.frames c.frame_at) (with_text (failure_line (codes "    ") code) c)

goes_by : (step : Due) (d : Data) (c : Conversation) → is_reading step ≡ true → GoesOn (taken_by step d c).due
goes_by due.Initialize d c is = absurd cc
goes_by due.Attach d c is = absurd cc
goes_by due.ConfigurationDone d c is = absurd cc
goes_by due.FirstThreads d c is = absurd cc
goes_by (due.Pause thread) d c is = absurd cc
goes_by due.Threads d c is = absurd cc
goes_by (due.StackTrace thread) d c is = stack_goes (failure_of d) d c
goes_by (due.Scopes frame) d c is = scopes_go (failure_of d) d c
goes_by (due.Variables reference) d c is = variables_go (failure_of d) d c
goes_by (due.Continue thread) d c is = absurd cc
goes_by due.Disconnect d c is = absurd cc
goes_by due.Nothing d c is = absurd cc

-- a response came, and is still to be taken up
abbrev heard_by : Data → Conversation → Conversation
heard_by d c = record c { waits = false; gone = c.gone || is_gone c.due (failure_of d) }

pub goes_on : (d : Data) (c : Conversation) → is_reading c.due ≡ true → GoesOn (answered d c).due
goes_on d c is = goes_by c.due d (heard_by d c) is

first_reads : (threads : List Heading) (c : Conversation) → is_reading (at_first_threads threads c).due ≡ false
first_reads [] c = refl
first_reads (thread ∷ threads) c = refl

clash : {b : Bool} → b ≡ true → b ≡ false → ⊥
clash is so = cc

begins_by : (step : Due) (d : Data) (c : Conversation) → is_reading (taken_by step d c).due ≡ true
    → (is_reading step ≡ true) ⊎ (step ≡ due.Threads)
begins_by due.Initialize d c is = absurd cc
begins_by due.Attach d c is = absurd cc
begins_by due.ConfigurationDone d c is = absurd cc
begins_by due.FirstThreads d c is = absurd (clash is (first_reads (threads_said d) c))
begins_by (due.Pause thread) d c is = absurd cc
begins_by due.Threads d c is = inr refl
begins_by (due.StackTrace thread) d c is = inl refl
begins_by (due.Scopes frame) d c is = inl refl
begins_by (due.Variables reference) d c is = inl refl
begins_by (due.Continue thread) d c is = absurd cc
begins_by due.Disconnect d c is = absurd cc
begins_by due.Nothing d c is = absurd cc

pub begins : (d : Data) (c : Conversation) → is_reading (answered d c).due ≡ true
    → (is_reading c.due ≡ true) ⊎ (c.due ≡ due.Threads)
begins d c is = begins_by c.due d (heard_by d c) is

-- whether the threads that are shown are asked for
shows : Due → Bool
shows due.Threads = true
shows _ = false

goes_shows : (step : Due) → GoesOn step → shows step ≡ false
unfolding shows
goes_shows due.Initialize goes = refl
goes_shows due.Attach goes = refl
goes_shows due.ConfigurationDone goes = refl
goes_shows due.FirstThreads goes = refl
goes_shows (due.Pause thread) goes = refl
goes_shows due.Threads (inl is) = absurd cc
goes_shows due.Threads (inr is) = absurd cc
goes_shows (due.StackTrace thread) goes = refl
goes_shows (due.Scopes frame) goes = refl
goes_shows (due.Variables reference) goes = refl
goes_shows (due.Continue thread) goes = refl
goes_shows due.Disconnect goes = refl
goes_shows due.Nothing goes = refl

first_shows : (threads : List Heading) (c : Conversation) → shows (at_first_threads threads c).due ≡ false
unfolding shows
first_shows [] c = refl
first_shows (thread ∷ threads) c = refl

shows_threads : (step : Due) → step ≡ due.Threads → shows step ≡ true
unfolding shows
shows_threads step is = ap shows is

paused_by : (step : Due) (d : Data) (c : Conversation) → shows (taken_by step d c).due ≡ true → is_pausing step ≡ true
unfolding shows
paused_by due.Initialize d c is = absurd cc
paused_by due.Attach d c is = absurd cc
paused_by due.ConfigurationDone d c is = absurd cc
paused_by due.FirstThreads d c is = absurd (clash is (first_shows (threads_said d) c))
paused_by (due.Pause thread) d c is = refl
paused_by due.Threads d c is =
    absurd (clash is (goes_shows (taken_by due.Threads d c).due
    (thread_goes (slice_get (threads_said d) 0) (record c { threads = threads_said d; thread_at = 0 }))))
paused_by (due.StackTrace thread) d c is =
    absurd (clash is (goes_shows (at_stack_by (failure_of d) d c).due (stack_goes (failure_of d) d c)))
paused_by (due.Scopes frame) d c is =
    absurd (clash is (goes_shows (at_scopes_by (failure_of d) d c).due (scopes_go (failure_of d) d c)))
paused_by (due.Variables reference) d c is =
    absurd (clash is (goes_shows (at_variables_by (failure_of d) d c).due (variables_go (failure_of d) d c)))
paused_by (due.Continue thread) d c is = absurd cc
paused_by due.Disconnect d c is = absurd cc
paused_by due.Nothing d c is = absurd cc

pub paused : (d : Data) (c : Conversation) → (answered d c).due ≡ due.Threads → is_pausing c.due ≡ true
paused d c is = paused_by c.due d (heard_by d c) (shows_threads (answered d c).due is)
