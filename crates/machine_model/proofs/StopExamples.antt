-- Worked examples of stops, checked by computation.
use Rattle.std.proofs.Common.{◌≡◌, ℕ, List, [], ◌∷◌, refl}
use Rattle.dap_messages.specs.Telling.{not_stopped, unknown_thread}
use Rattle.dap_messages.specs.declared.told.Event.TheVariants as events
use Rattle.dap_messages.specs.declared.told.Failure.{Failure}
use Rattle.dap_messages.specs.declared.told.Outcome.TheVariants as outcomes
use Rattle.dap_messages.specs.declared.told.Shape.TheVariants as shapes
use Rattle.dap_messages.specs.declared.told.StopReason.{StopReason}
use Rattle.dap_messages.specs.declared.told.StopReason.TheVariants as reasons
use Rattle.jdwp_commands.specs.declared.answer.Answer.TheVariants as answers
use Rattle.jdwp_events.specs.declared.event.Event.{Event as ATargetEvent}
use Rattle.jdwp_events.specs.declared.event.Event.TheVariants as happened
use Rattle.jdwp_events.specs.declared.kind.Policy.TheVariants.{All, NoThread}
use Rattle.jdwp_values.specs.Lossy.{lossy, lossy_after}
use Rattle.machine_model.specs.Due.{due, load_of, newly_lacked, wanted}
use Rattle.machine_model.specs.Names.{Answer, ConfigurationDone, Continue, Deed, Does, Pause, Request, Resume, Suspend}
use Rattle.machine_model.specs.Names.{ThreadId, a_composite, an_answer, an_effect, an_event, of_composite, of_entry}
use Rattle.machine_model.specs.Names.{of_stop}
use Rattle.machine_model.specs.Plans.{chained, each, made_with, need}
use Rattle.machine_model.specs.Replying.{answered}
use Rattle.machine_model.specs.Runs.{Message, heard, with_item}
use Rattle.machine_model.specs.State.{Machine}
use Rattle.machine_model.proofs.BreakpointExamples.{at, bound}
use Rattle.machine_model.proofs.Examples.{attached, changes, drive, request, responds, said_on}
use Rattle.machine_model.specs.Breakpoints.{key_of}
use Rattle.std.specs.Str.{chars, is_utf8}
use lib.Utf8.{encode}
use Rattle.wish_sets.specs.Wished.{wished}
use Rattle.wish_sets.specs.Wishes.{next_change}

-- Words ---------------------------------------------------------------------------------------------------------------

abbrev pub happens : List ATargetEvent → Machine → Machine
happens happened m = with_item m (a_composite 90 (record { policy = All; events = happened }))

abbrev pub one : ThreadId
one = record { 0 = 1 }

abbrev two : ThreadId
two = record { 0 = 2 }

abbrev pub tells_stop : StopReason → ℕ → Message
tells_stop reason thread = Message.tells (an_event (events.Stopped (record { reason = reason; thread = thread })))

abbrev pub does : Deed → Message
does deed = changes (Does deed)

-- a deed was done
abbrev pub done : Deed → Answer → Machine → Machine
done deed answer m = answered m (an_effect (Does deed)) (an_answer answer)

abbrev pub fails : Request → Failure → Message
fails asked failure = responds asked (outcomes.Failure failure)

-- Hits ----------------------------------------------------------------------------------------------------------------

abbrev pub running : Machine
running = drive 8 bound

abbrev pub first_hit : Machine
first_hit = happens (happened.Breakpoint 4 one (at 5) ∷ []) running

-- the first hit begins a stop, and its suspension is kept
stops : said_on 16 first_hit ≡ tells_stop (reasons.Breakpoint (1 ∷ [])) 1 ∷ []
unfolding due wanted load_of newly_lacked next_change wished need chained made_with each key_of chars encode lossy
    lossy_after is_utf8
stops = refl

abbrev pub stopped : Machine
stopped = drive 16 first_hit

-- that of a second hit is undone
stops_again : said_on 16 (happens (happened.Breakpoint 4 two (at 5) ∷ []) stopped)
    ≡ tells_stop (reasons.Breakpoint (1 ∷ [])) 2 ∷ does (Resume of_composite) ∷ []
unfolding due wanted load_of newly_lacked next_change wished need chained made_with each key_of chars encode lossy
    lossy_after is_utf8
stops_again = refl

-- a step and a hit at one place are one stop; a hit under no event request is none, and nor is one where no breakpoint
-- stands
tells_once : said_on 16 (happens (happened.SingleStep 8 one (at 5) ∷ happened.Breakpoint 4 one (at 5) ∷ []) running)
    ≡ tells_stop (reasons.Breakpoint (1 ∷ [])) 1 ∷ []
unfolding due wanted load_of newly_lacked next_change wished need chained made_with each key_of chars encode lossy
    lossy_after is_utf8
tells_once = refl

runs_on : said_on 16 (happens (happened.Breakpoint 9 one (at 5) ∷ []) running) ≡ does (Resume of_composite) ∷ []
unfolding due wanted load_of newly_lacked next_change wished need chained made_with each key_of chars encode lossy
    lossy_after is_utf8
runs_on = refl

elsewhere : said_on 16 (happens (happened.Breakpoint 4 one (at 7) ∷ []) running)
    ≡ does (Resume of_composite) ∷ []
unfolding due wanted load_of newly_lacked next_change wished need chained made_with each key_of chars encode lossy
    lossy_after is_utf8
elsewhere = refl

-- Requests ------------------------------------------------------------------------------------------------------------

abbrev pub continues : ℕ → Request
continues thread = request 8 (Continue (record { thread_id = thread }))

abbrev pauses : ℕ → Request
pauses thread = request 9 (Pause (record { thread_id = thread }))

resumes_stop : said_on 8 (heard stopped (continues 1)) ≡ does (Resume of_stop) ∷ []
unfolding due wanted load_of newly_lacked next_change wished need chained made_with each key_of chars encode lossy
    lossy_after is_utf8
resumes_stop = refl

abbrev pub resumed : Machine
resumed = done (Resume of_stop) answers.Resume (drive 8 (heard stopped (continues 1)))

tells_continued : said_on 8 resumed ≡ responds (continues 1) (outcomes.Success shapes.Continued) ∷ []
unfolding due wanted load_of newly_lacked next_change wished need chained made_with each key_of chars encode lossy
    lossy_after is_utf8
tells_continued = refl

-- a thread that was never told, and no stop
fails_unknown : said_on 8 (heard stopped (continues 2)) ≡ fails (continues 2) unknown_thread ∷ []
unfolding due wanted load_of newly_lacked next_change wished need chained made_with each key_of chars encode lossy
    lossy_after is_utf8
fails_unknown = refl

fails_running : said_on 8 (heard (drive 8 resumed) (continues 1)) ≡ fails (continues 1) not_stopped ∷ []
unfolding due wanted load_of newly_lacked next_change wished need chained made_with each key_of chars encode lossy
    lossy_after is_utf8
fails_running = refl

-- the target is suspended for a pause, which is answered before its event
suspends : said_on 8 (heard (drive 8 resumed) (pauses 1)) ≡ does Suspend ∷ []
unfolding due wanted load_of newly_lacked next_change wished need chained made_with each key_of chars encode lossy
    lossy_after is_utf8
suspends = refl

abbrev paused : Machine
paused = done Suspend answers.Suspend (drive 8 (heard (drive 8 resumed) (pauses 1)))

tells_paused : said_on 8 paused
    ≡ responds (pauses 1) (outcomes.Success shapes.Nothing) ∷ tells_stop reasons.Pause 1 ∷ []
unfolding due wanted load_of newly_lacked next_change wished need chained made_with each key_of chars encode lossy
    lossy_after is_utf8
tells_paused = refl

-- in a stop there is nothing to do
pauses_again : said_on 8 (heard (drive 8 paused) (pauses 1))
    ≡ responds (pauses 1) (outcomes.Success shapes.Nothing) ∷ []
unfolding due wanted load_of newly_lacked next_change wished need chained made_with each key_of chars encode lossy
    lossy_after is_utf8
pauses_again = refl

-- The target's start and end ------------------------------------------------------------------------------------------

abbrev starts : Machine
starts = happens (happened.VMStart 0 one ∷ []) attached

abbrev configures : Request
configures = request 4 ConfigurationDone

-- the entry is held until all is configured
holds_entry : said_on 8 starts ≡ []
unfolding due wanted load_of newly_lacked next_change wished need chained made_with each key_of chars encode lossy
    lossy_after is_utf8
holds_entry = refl

resumes_entry : said_on 8 (heard (drive 16 starts) configures) ≡ does (Resume of_entry) ∷ []
unfolding due wanted load_of newly_lacked next_change wished need chained made_with each key_of chars encode lossy
    lossy_after is_utf8
resumes_entry = refl

-- and a target that starts later runs on
starts_later : said_on 16 (happens (happened.VMStart 0 one ∷ []) (drive 8 (heard attached configures)))
    ≡ does (Resume of_composite) ∷ []
unfolding due wanted load_of newly_lacked next_change wished need chained made_with each key_of chars encode lossy
    lossy_after is_utf8
starts_later = refl

-- the target's end is told, and nothing else of its composite
ends : said_on 8 (with_item running (a_composite 90 (record {
  policy = NoThread;
  events = happened.ThreadDeath 2 one ∷ happened.VMDeath 0 ∷ [];
}))) ≡ Message.tells (an_event events.Terminated) ∷ []
unfolding due wanted load_of newly_lacked next_change wished need chained made_with each key_of chars encode lossy
    lossy_after is_utf8
ends = refl
