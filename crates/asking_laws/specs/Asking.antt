-- Why a question is sent, in every run. The law stands at the end, behind what it speaks of.
use Rattle.std.specs.Prelude.{◌≡◌, ◌∷◌, ◌++◌, Bool, true, false, cond, List, [], Option, Some}
use Rattle.jdwp_commands.specs.declared.question.Question.TheVariants as questions
use Rattle.machine_model.specs.Apart.{was_asked}
use Rattle.machine_model.specs.Due.{lacked_by}
use Rattle.machine_model.specs.Names.{Question, Replied, an_error}
use Rattle.machine_model.specs.Lookups.{found_for}
use Rattle.machine_model.specs.Plans.{Fault, fails, question_of}
use Rattle.machine_model.specs.Runs.{Allows, Message, Run}
use Rattle.machine_model.specs.State.{Hand, Machine, State, is_gone}
use Rattle.machine_model.specs.declared.acts.Sent.{Sent}
use Rattle.machine_model.specs.declared.acts.TargetCommand.TheVariants.{Question as a_question}
use Rattle.machine_model.specs.declared.acts.Want.{Want}
use Rattle.machine_model.specs.declared.parts.Lookup.{Lookup}
use Rattle.machine_model.specs.declared.parts.Part.{Part}

-- the question, where the item can't do without its answer and the target refused it (JDWP, JDWP Packets, reply packet,
-- error code)
abbrev pub refused_in : Want → Option Replied → List Question
refused_in (Want.Must question) (Some (an_error code)) = question ∷ []
refused_in want reply = []

-- all such questions of those that were sent for the item, in order of sending
abbrev pub refused_of : List Sent → List Question
refused_of [] = []
refused_of (sent ∷ asked) = refused_in sent.want sent.reply ++ refused_of asked

-- It has been lacking since some time among these messages: the part in front of the item in hand lacked it by the
-- replies until then, and the target wasn't gone. The same parts are left of the item now, and since then nothing was
-- refused that it can't do without.
pub record IsLackingSince (messages : List Message) (hand : Hand) (want : Want) : Type 0 where
  pub earlier : List Message
  pub later : List Message
  pub there : Machine
  pub hand_then : Hand
  pub before : List Want
  pub after : List Want
  pub messages_are : messages ≡ earlier ++ later
  pub run : Run earlier there
  pub is_held : there.hand ≡ Some hand_then
  pub near : is_gone there.state.phase ≡ false
  pub lacked : lacked_by there.state hand_then hand_then.parts ≡ before ++ want ∷ after
  pub same_parts : hand.parts ≡ hand_then.parts
  pub none_refused : refused_of hand.asked ≡ refused_of hand_then.asked

-- a question whose answer tells more than one fact, or what one item wants to know (JDWP, VirtualMachine command set,
-- AllClasses and IDSizes)
abbrev pub is_general : Question → Bool
is_general questions.AllClasses = true
is_general questions.IdSizes = true
is_general _ = false

abbrev pub tells_much : Message → Bool
tells_much (Message.answers (a_question question) replied) = is_general question
tells_much _ = false

-- no such answer is among these messages
abbrev pub tell_little : List Message → Bool
tell_little [] = true
tell_little (message ∷ messages) = cond (tells_much message) false (tell_little messages)

-- the part in front lacks it by the replies so far, or has failed
pub data IsLackingNow (state : State) (hand : Hand) (want : Want) : Type 0 where
  lacks : (before after : List Want) → lacked_by state hand hand.parts ≡ before ++ want ∷ after
      → IsLackingNow state hand want
  has_failed : (lookup : Lookup) (rest : List Part) (fault : Fault) → hand.parts ≡ Part.Looks lookup ∷ rest
      → found_for lookup state hand ≡ fails fault → IsLackingNow state hand want

-- The question is asked for the item in hand, for the first time, and has been lacking. Unless all classes were listed
-- since then, or the sizes of ids told, it is lacking now, or the part in front has failed: by an error to something
-- else, that came before.
pub record IsAskedFor (messages : List Message) (m : Machine) (question : Question) : Type 0 where
  pub hand : Hand
  pub want : Want
  pub is_held : m.hand ≡ Some hand
  pub asks : question ≡ question_of want
  pub is_new : was_asked question hand.asked ≡ false
  pub since : IsLackingSince messages hand want
  pub now : tell_little since.later ≡ true → IsLackingNow m.state hand want

-- Each question that may be sent is such.
abbrev pub AsksWhatLacks : Type 0
AsksWhatLacks = (messages : List Message) (m next : Machine) (question : Question) → Run messages m
    → Allows m (Message.sends (a_question question)) next → IsAskedFor messages m question
