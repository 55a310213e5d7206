-- What a packet of the target's says, and how it ends a session: words for the code that judges it.
use Rattle.std.specs.Prelude.{ℕ, ◌≡◌, ◌<◌, ◌+◌, ◌*◌, ◌==◌, ◌∷◌, ◌++◌, Bool, true, false, cond, List, Ok, Err, Some}
use Rattle.std.specs.Prelude.{position}
use Rattle.jdwp_commands.specs.Answers.{IsAnswerTo, answer_at}
use Rattle.jdwp_commands.specs.Commands.{number_of}
use Rattle.jdwp_commands.specs.declared.answer.Answer.{Answer}
use Rattle.jdwp_commands.specs.declared.asked.Asked.{Asked}
use Rattle.jdwp_commands.specs.declared.asked.Asked.TheVariants as commands
use Rattle.jdwp_commands.specs.declared.asked.Replied.{Replied}
use Rattle.jdwp_commands.specs.declared.asked.Replied.TheVariants.{Answer as an_answer, Error as an_error}
use Rattle.jdwp_commands.specs.declared.effect.Effect.TheVariants as effects
use Rattle.jdwp_commands.specs.declared.fault.BodyFault.{BodyFault}
use Rattle.jdwp_events.specs.declared.composite.Composite.{Composite}
use Rattle.jdwp_values.specs.Sizes.{is_no_size}
use Rattle.jdwp_values.specs.declared.sizes.IdSizes.{IdSizes}
use Rattle.machine_model.specs.Replying.{has_good_sizes, is_essential_question}
use Rattle.machine_model.specs.State.{has_raw}
use Rattle.machine_model.specs.declared.items.Item.{Item}
use Rattle.machine_model.specs.declared.items.Item.TheVariants.{Composite as a_composite, Raw as a_raw}
use Rattle.session_model.specs.Faults.{numbers_in}
use Rattle.session_endings.specs.declared.ending.Ending.{Ending}
use Rattle.session_endings.specs.declared.ending.Ending.TheVariants.{BadTarget, NoMemory, TargetRefused}
use Rattle.session_endings.specs.declared.ending.TargetFault.{TargetFault}
use Rattle.session_endings.specs.declared.ending.TargetFault.TheVariants.{BadSizes}
use Rattle.target_bodies.specs.Hearing.{IsBadBody, ReadsComposite, answer_fault, header}

-- Composites ----------------------------------------------------------------------------------------------------------

-- the first of the composites that were kept is read
pub record IsReadFirst (used : IdSizes) (old new : List Item) : Type 0 where
  pub before : List Item
  pub after : List Item
  pub at : ℕ
  pub body : List ℕ
  pub composite : Composite
  pub were : old ≡ before ++ a_raw at body ∷ after
  pub is_first : has_raw before ≡ false
  pub reads : ReadsComposite used body composite
  pub are : new ≡ before ++ a_composite at composite ∷ after

-- some are read, one by one
pub data AreReadOff (used : IdSizes) (kept : List Item) : List Item → Type 0 where
  none : AreReadOff used kept kept
  one_more : {left : List Item} (middle : List Item) → AreReadOff used kept middle → IsReadFirst used middle left
      → AreReadOff used kept left

-- the first that is left ends the session
pub record IsFirstKept (used : IdSizes) (waiting : List Item) (ending : Ending) : Type 0 where
  pub before : List Item
  pub after : List Item
  pub at : ℕ
  pub body : List ℕ
  pub waiting_are : waiting ≡ before ++ a_raw at body ∷ after
  pub is_first : has_raw before ≡ false
  pub is_bad : IsBadBody used body at ending

-- that is so, unless memory ran out
pub data MayBeKept (used : IdSizes) (waiting : List Item) : Ending → Type 0 where
  no_memory : MayBeKept used waiting NoMemory
  kept : {ending : Ending} → IsFirstKept used waiting ending → MayBeKept used waiting ending

-- some were read, and then one ends the session, unless memory ran out
pub data MayBeLeft (used : IdSizes) (kept left : List Item) : Ending → Type 0 where
  no_memory : MayBeLeft used kept left NoMemory
  left_bad : {ending : Ending} → AreReadOff used kept left → IsFirstKept used left ending
      → MayBeLeft used kept left ending

-- Replies -------------------------------------------------------------------------------------------------------------

-- the commands whose refusal ends a session, as they are sent
abbrev pub is_essential_asked : Asked → Bool
is_essential_asked (commands.Question question) = is_essential_question question
is_essential_asked (commands.Effect (effects.Clear kind request)) = true
is_essential_asked (commands.Effect effects.Suspend) = true
is_essential_asked (commands.Effect effects.Resume) = true
is_essential_asked (commands.Effect _) = false

-- an error other than that of a dead target ends the session where the command is essential
abbrev pub is_tolerated_asked : Asked → ℕ → Bool
is_tolerated_asked asked code = cond (is_essential_asked asked) (code == 112) true

-- what the reply to a command says (JDWP, JDWP Packets, reply packet)
pub data IsJudged (used : IdSizes) (asked : Asked) : ℕ → List ℕ → Replied → Type 0 where
  answers : {body : List ℕ} {answer : Answer} → answer_at used asked body ≡ Ok answer → IsAnswerTo used asked answer
      → has_good_sizes answer ≡ true → IsJudged used asked 0 body (an_answer answer)
  refuses : {error : ℕ} {body : List ℕ} → 0 < error → is_tolerated_asked asked error ≡ true
      → IsJudged used asked error body (an_error error)

-- An answer, whose packet begins at this offset, ends the session by sizes of ids that are none.
pub data HasBadSizes (answer : Answer) (at : ℕ) : Ending → Type 0 where
  no_memory : HasBadSizes answer at NoMemory
  bad_sizes : {which : ℕ} → position is_no_size (numbers_in answer) ≡ Some which
      → HasBadSizes answer at (BadTarget BadSizes (at + header + 4 * which) 0)

-- A reply, whose packet begins at this offset, ends the session: by an error that isn't tolerated, by a fault of its
-- body, or by sizes of ids that are none (JDWP, VirtualMachine command set, IDSizes).
pub data IsRefused (used : IdSizes) (asked : Asked) (at : ℕ) : ℕ → List ℕ → Ending → Type 0 where
  no_memory : {error : ℕ} {body : List ℕ} → IsRefused used asked at error body NoMemory
  refused : {error : ℕ} {body : List ℕ} → 0 < error → is_tolerated_asked asked error ≡ false
      → IsRefused used asked at error body (TargetRefused (number_of asked).0 (number_of asked).1 error)
  bad_answer : {body : List ℕ} {found : BodyFault} {fault : TargetFault} {place : ℕ}
      → answer_at used asked body ≡ Err found → answer_fault found ≡ Some (fault, place)
      → IsRefused used asked at 0 body (BadTarget fault (at + header + place) 0)
  bad_sizes : {body : List ℕ} {answer : Answer} {ending : Ending} → answer_at used asked body ≡ Ok answer
      → HasBadSizes answer at ending → IsRefused used asked at 0 body ending
