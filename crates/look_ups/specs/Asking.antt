-- What was asked, as the code keeps it: each question with why it was asked and its reply.
use Rattle.std.specs.Prelude.{ℕ, cond, Option, Some, None, List, [], ◌∷◌}
use Rattle.jdwp_commands.specs.declared.question.Question.{Question}
use Rattle.jdwp_commands.specs.declared.asked.Replied.{Replied}
use Rattle.machine_model.specs.declared.acts.Sent.{Sent}
use Rattle.machine_model.specs.declared.acts.Want.{Want}
use Rattle.machine_model.specs.Plans.{Found}
use Rattle.machine_model.specs.Replying.{waits_for}
use Rattle.look_ups.specs.declared.asked.Reason.{Reason}
use Rattle.look_ups.specs.declared.asked.Reason.TheVariants as reasons
use Rattle.look_ups.specs.declared.asked.Tried.{Tried}

-- the want of a question
abbrev pub want_of : Reason → Question → Want
want_of reasons.Must question = Want.Must question
want_of reasons.May question = Want.May question
want_of reasons.Fact question = Want.Fact question

-- a reply at a place
abbrev pub found_of : ℕ → Replied → Found
found_of place replied = record { place = place; replied = replied }

-- the reply that was found
abbrev pub reply_in : Option Found → Option Replied
reply_in None = None
reply_in (Some found) = Some found.replied

-- the first want of a question that has no reply
abbrev pub waiting_in : Question → List Sent → Option Want
waiting_in question [] = None
waiting_in question (sent ∷ asked) = cond (waits_for sent question) (Some sent.want) (waiting_in question asked)

-- what was asked, of a question and what came of it
abbrev pub sent_of : Question × Tried → Sent
sent_of entry = record { want = want_of entry.1.reason entry.0; reply = entry.1.reply }
