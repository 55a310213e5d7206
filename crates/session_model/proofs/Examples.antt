-- Worked examples, checked by computation.
use Rattle.std.proofs.Common.{◌≡◌, ℕ, inr, [], ◌∷◌, refl, arith}
use Rattle.dap_frames.specs.Frames.{frame_front}
use Rattle.dap_messages.specs.declared.told.Event.TheVariants as events
use Rattle.jdwp_commands.specs.Commands.{spell_command}
use Rattle.jdwp_commands.specs.declared.asked.Asked.{Asked}
use Rattle.jdwp_commands.specs.declared.asked.Asked.TheVariants as commands
use Rattle.jdwp_commands.specs.declared.effect.Effect.TheVariants as effects
use Rattle.jdwp_commands.specs.declared.question.Question.TheVariants as questions
use Rattle.jdwp_events.specs.declared.kind.EventKind.{EventKind}
use Rattle.jdwp_events.specs.declared.kind.EventKind.TheVariants as kinds
use Rattle.jdwp_events.specs.declared.kind.Policy.TheVariants.{NoThread}
use Rattle.jdwp_values.specs.declared.sizes.IdSizes.{IdSizes}
use Rattle.machine_model.specs.Due.{due, load_of, newly_lacked, wanted}
use Rattle.machine_model.specs.Replying.{wire}
use Rattle.machine_model.specs.State.{Machine, fresh}
use Rattle.session_model.specs.Names.{a_question, an_effect, an_event, Attached, Client, Dispose, Does, Idle, Left}
use Rattle.session_model.specs.Names.{Limits, Out, Quiet, Shut, Told}
use Rattle.session_model.specs.Causes.{Cause, IsWaiting}
use Rattle.session_model.specs.LastWords.{AreSpoken, LastWord, dispose_packet, last_words}
use Rattle.session_model.specs.Saying.{nth_command, told_bytes}
use Rattle.session_model.specs.Session.{Going, Comes, IsLeft}
use Rattle.session_model.specs.States.{SessionState, no_bytes}

abbrev limits : Limits
limits = record { turns = 9; quiet = 3; waiting = 2 }

-- Fresh ---------------------------------------------------------------------------------------------------------------

abbrev quiet_for : ℕ → SessionState
quiet_for n = record { machine = fresh; streams = no_bytes; quiets = n }

-- a session in which nothing came waits
waits : (n : ℕ) → IsWaiting limits (quiet_for n)
unfolding due wanted load_of newly_lacked frame_front
waits n = record {
  reads = record {
    reads = record { nothing_due = refl; on = record { no_flood = omega arith } };
    none_to_read = refl;
    greeted = refl;
  };
  no_frame = inr refl;
  no_packet = refl;
  not_ended = refl;
}

-- the client leaves at once: nothing is sent
left_at_once : IsLeft limits (Shut Client ∷ []) [] 1 Left
left_at_once = IsLeft.ended (record {
  before = [];
  by_cause = Shut Client ∷ [];
  by_words = [];
  earlier = 0;
  taken = 1;
  log_is = refl;
  turns_are = refl;
  going = Going.begins;
  cause = Cause.shut (record { waits = waits 0; more_turns = omega arith; patient = omega arith });
  words = AreSpoken.none;
}) refl

-- three waits in vain, one after the other, where three may be: the client is told that nothing more comes
abbrev gone : Told
gone = an_event events.Terminated

idle : IsLeft limits (Quiet ∷ Quiet ∷ Quiet ∷ Out Client (told_bytes 0 gone) ∷ []) [] 3 Idle
idle = IsLeft.ended (record {
  before = Quiet ∷ Quiet ∷ Quiet ∷ [];
  by_cause = [];
  by_words = Out Client (told_bytes 0 gone) ∷ [];
  earlier = 3;
  taken = 0;
  log_is = refl;
  turns_are = refl;
  going = Going.happens (Going.happens (Going.happens Going.begins
      (record { waits = waits 0; more_turns = omega arith; patient = omega arith }) Comes.passes_quiet)
      (record { waits = waits 1; more_turns = omega arith; patient = omega arith }) Comes.passes_quiet)
      (record { waits = waits 2; more_turns = omega arith; patient = omega arith }) Comes.passes_quiet;
  cause = Cause.idle (waits 3) (omega arith) refl;
  words = AreSpoken.one_more AreSpoken.none;
}) refl

-- Commands ------------------------------------------------------------------------------------------------------------

-- IDSizes is the first command, with any sizes
first_command : (used : IdSizes) → nth_command 0 used (wire (a_question questions.IdSizes))
    ≡ 0 ∷ 0 ∷ 0 ∷ 11 ∷ 0 ∷ 0 ∷ 0 ∷ 1 ∷ 0 ∷ 1 ∷ 7 ∷ []
unfolding spell_command
first_command used = refl

-- then the two event requests for threads
abbrev sets : EventKind → Asked
sets kind = commands.Effect (effects.Set kind NoThread [])

second_command : (used : IdSizes) → nth_command 1 used (sets kinds.ThreadStart)
    ≡ 0 ∷ 0 ∷ 0 ∷ 17 ∷ 0 ∷ 0 ∷ 0 ∷ 2 ∷ 0 ∷ 15 ∷ 1 ∷ 6 ∷ 0 ∷ 0 ∷ 0 ∷ 0 ∷ 0 ∷ []
unfolding spell_command
second_command used = refl

third_command : (used : IdSizes) → nth_command 2 used (sets kinds.ThreadDeath)
    ≡ 0 ∷ 0 ∷ 0 ∷ 17 ∷ 0 ∷ 0 ∷ 0 ∷ 3 ∷ 0 ∷ 15 ∷ 1 ∷ 7 ∷ 0 ∷ 0 ∷ 0 ∷ 0 ∷ 0 ∷ []
unfolding spell_command
third_command used = refl

-- the client leaves an attached target, which is left to run on
abbrev attached : Machine
attached = record fresh { state = record fresh.state { phase = Attached } }

leaves : last_words Left attached ≡ LastWord.disposes ∷ []
leaves = refl

last_command : dispose_packet 3 ≡ 0 ∷ 0 ∷ 0 ∷ 11 ∷ 0 ∷ 0 ∷ 0 ∷ 4 ∷ 0 ∷ 1 ∷ 6 ∷ []
last_command = refl

-- the same as where it is sent for a `disconnect`
same_command : (used : IdSizes) → nth_command 3 used (wire (an_effect (Does Dispose))) ≡ dispose_packet 3
unfolding spell_command
same_command used = refl
