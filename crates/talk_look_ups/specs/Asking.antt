-- What is to be asked for an item, and what was.
use Rattle.std.specs.Prelude.{Option, Some, None, List, [], ◌∷◌, ◌++◌}
use Rattle.jdwp_commands.specs.declared.question.Question.{Question}
use Rattle.jdwp_commands.specs.declared.asked.Replied.{Replied}
use Rattle.machine_model.specs.declared.acts.Sent.{Sent}
use Rattle.machine_model.specs.declared.acts.Want.{Want}
use Rattle.machine_model.specs.Plans.{question_of}
use Rattle.machine_model.specs.Replying.{filled, is_failed, unless_failed}
use Rattle.look_ups.specs.declared.asked.Reason.{Reason}
use Rattle.look_ups.specs.declared.asked.Reason.TheVariants as reasons

-- why a want is asked
abbrev pub reason_of : Want → Reason
reason_of (Want.Must question) = reasons.Must
reason_of (Want.May question) = reasons.May
reason_of (Want.Fact question) = reasons.Fact

-- what is to be asked for an item, and what was asked for it
pub record Questions : Type 0 where
  pub queue : List Want
  pub asked : List Sent

-- the first of what is to be asked is asked
abbrev pub asked_by_queue : List Want → List Sent → Option (Question × Questions)
asked_by_queue [] asked = None
asked_by_queue (want ∷ wants) asked =
    Some (question_of want, record { queue = wants; asked = asked ++ record { want = want; reply = None } ∷ [] })

abbrev pub asked_next : Questions → Option (Question × Questions)
asked_next q = asked_by_queue q.queue q.asked

-- what was asked once the first of the queue is
abbrev pub with_first : List Want → List Sent → List Sent
with_first [] asked = asked
with_first (want ∷ wants) asked = asked ++ record { want = want; reply = None } ∷ []

-- a question is replied to; an error to what nothing can stand in for empties what is to be asked
abbrev pub answered_in : Question → Replied → Questions → Questions
answered_in question replied q = record {
  queue = unless_failed (is_failed question replied q.asked) q.queue;
  asked = filled question replied q.asked;
}
