-- The thread that a request names by its number, in every run. The laws stand at the end, behind what they speak of.
use Rattle.std.specs.Prelude.{◌≡◌, ℕ, ℤ, false, List}
use Rattle.dap_messages.specs.declared.requests.StackTraceArguments.{StackTraceArguments}
use Rattle.dap_messages.specs.declared.requests.ThreadArguments.{ThreadArguments}
use Rattle.jdwp_commands.specs.declared.question.Question.TheVariants as questions
use Rattle.machine_model.specs.Due.{due}
use Rattle.machine_model.specs.Knowing.{HasNumber}
use Rattle.machine_model.specs.Leaving.{IsFirst}
use Rattle.machine_model.specs.Runs.{Message, Run}
use Rattle.machine_model.specs.State.{Machine}
use Rattle.machine_steps.specs.Names.{Act, Command, Next, Question, Request, Set, StackTrace, StepIn, StepOut, ThreadId}
use Rattle.wish_sets.specs.declared.wish.Depth.{Depth}
use Rattle.wish_sets.specs.declared.wish.Depth.TheVariants.{Into, Out, Over}
use Rattle.wish_sets.specs.declared.wish.Wish.TheVariants as wishes

-- it asks how many frames a thread has, or for frames of it (JDWP, ThreadReference command set, FrameCount and Frames)
pub data AsksStack (thread : ThreadId) : Question → Type 0 where
  counts : AsksStack thread (questions.FrameCount thread)
  frames : {start length : ℤ} → AsksStack thread (questions.Frames thread start length)

-- the request is for a step of this depth, of the thread of this number (DAP specification, Next, StepIn and StepOut
-- requests)
pub data IsStep : Command → Depth → ℕ → Type 0 where
  over : {arguments : ThreadArguments} → IsStep (Next arguments) Over arguments.thread_id
  into : {arguments : ThreadArguments} → IsStep (StepIn arguments) Into arguments.thread_id
  out : {arguments : ThreadArguments} → IsStep (StepOut arguments) Out arguments.thread_id

-- a `stackTrace` is the first request without a response, and names this thread by its number
pub record IsOfStack (messages : List Message) (m : Machine) (thread : ThreadId) : Type 0 where
  pub request : Request
  pub arguments : StackTraceArguments
  pub first : IsFirst messages request
  pub asks : request.command ≡ StackTrace arguments
  pub has_number : HasNumber m.state.threads thread arguments.thread_id

-- a request for a step of this depth is the first without a response, and names this thread by its number
pub record IsOfStep (messages : List Message) (m : Machine) (thread : ThreadId) (depth : Depth) : Type 0 where
  pub request : Request
  pub number : ℕ
  pub first : IsFirst messages request
  pub steps : IsStep request.command depth number
  pub has_number : HasNumber m.state.threads thread number

-- Frames are asked of the thread that the request names.
abbrev pub AsksNamed : Type 0
AsksNamed = (messages : List Message) (m : Machine) (thread : ThreadId) (question : Question) → Run messages m
    → AsksStack thread question → (due false m).act ≡ Act.Asks question → IsOfStack messages m thread

-- A step is set of the thread that the request names, of the depth that it says.
abbrev pub StepsNamed : Type 0
StepsNamed = (messages : List Message) (m : Machine) (thread : ThreadId) (depth : Depth) → Run messages m
    → (due false m).act ≡ Act.Sends (Set (wishes.Step thread depth)) → IsOfStep messages m thread depth
