-- What may be asked for an item: each question is new there, and stands once.
use Rattle.std.specs.Prelude.{◌∷◌, ◌||◌, Bool, true, false, not, cond, List, []}
use Rattle.machine_model.specs.Due.{is_listed}
use Rattle.machine_model.specs.Names.{Question, Sent, Want}
use Rattle.machine_model.specs.Plans.{asks_for, question_of}

-- the question was asked here
abbrev pub was_asked : Question → List Sent → Bool
was_asked question [] = false
was_asked question (sent ∷ asked) = asks_for sent question || was_asked question asked

-- what is wanted wasn't asked here yet
abbrev pub is_new : Want → List Sent → Bool
is_new want asked = not (was_asked (question_of want) asked)

-- each is new, and its question stands once
abbrev pub are_apart : List Sent → List Want → Bool
are_apart asked [] = true
are_apart asked (want ∷ queue) =
    cond (is_new want asked) (cond (is_listed (question_of want) queue) false (are_apart asked queue)) false
