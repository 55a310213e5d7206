-- What was asked for an item, by the messages since its turn.
use Rattle.std.specs.Prelude.{◌≡◌, ◌∷◌, ◌++◌, Bool, true, false, List, [], Option, None, Some}
use Rattle.machine_model.specs.Apart.{is_new}
use Rattle.machine_model.specs.Names.{Doing, Effect, Question, Replied, Sent, Want, a_question, an_effect}
use Rattle.machine_model.specs.Plans.{question_of}
use Rattle.machine_model.specs.Replying.{filled, is_waiting}
use Rattle.machine_model.specs.Runs.{Message}
use Rattle.machine_model.specs.State.{has_waiting, is_flying}

-- neither a command nor a reply to one
abbrev pub is_aside : Message → Bool
is_aside (Message.sends command) = false
is_aside (Message.answers command replied) = false
is_aside _ = true

-- Among these messages these questions were asked, in this order, each once, and have these replies; and this was the
-- last effect, sent with nothing pending; no question was sent while an effect was pending.
pub data AreAsked : List Message → List Sent → Option Doing → Type 0 where
  none : AreAsked [] [] None
  aside : {messages : List Message} {asked : List Sent} {doing : Option Doing} (message : Message)
      → is_aside message ≡ true → AreAsked messages asked doing → AreAsked (messages ++ message ∷ []) asked doing
  asks : {messages : List Message} {asked : List Sent} {doing : Option Doing} (want : Want)
      → is_new want asked ≡ true → is_flying doing ≡ false → AreAsked messages asked doing
      → AreAsked (messages ++ Message.sends (a_question (question_of want)) ∷ [])
      (asked ++ record { want = want; reply = None } ∷ []) doing
  sends : {messages : List Message} {asked : List Sent} {doing : Option Doing} (effect : Effect)
      → has_waiting asked ≡ false → is_flying doing ≡ false → AreAsked messages asked doing
      → AreAsked (messages ++ Message.sends (an_effect effect) ∷ []) asked
      (Some (record { effect = effect; reply = None }))
  answers : {messages : List Message} {asked : List Sent} {doing : Option Doing} (question : Question)
      (replied : Replied) → is_waiting question asked ≡ true → AreAsked messages asked doing
      → AreAsked (messages ++ Message.answers (a_question question) replied ∷ []) (filled question replied asked) doing
  replies : {messages : List Message} {asked : List Sent} (effect : Effect) (replied : Replied)
      → AreAsked messages asked (Some (record { effect = effect; reply = None }))
      → AreAsked (messages ++ Message.answers (an_effect effect) replied ∷ []) asked
      (Some (record { effect = effect; reply = Some replied }))
