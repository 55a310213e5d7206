-- What is due where a session goes on, and what is said there.
use Rattle.std.proofs.Common.{◌≡◌, ◌⊎◌, inl, inr, ℕ, Bool, true, false, cond, List, ◌∷◌, ◌++◌, Option, None, Some, refl}
use Rattle.std.proofs.Common.{sym, ap, subst, ◌∙◌}
use Rattle.machine_model.specs.Due.{can_read, due}
use Rattle.machine_model.specs.Replying.{IsReply}
use Rattle.machine_model.specs.Runs.{Allows, Message, said}
use Rattle.machine_model.specs.State.{Machine, has_raw, is_gone, is_some}
use Rattle.session_laws.proofs.QuietLaws.{due_same}
use Rattle.session_model.specs.Names.{a_raw, Act, Item, Question, Side}
use Rattle.session_model.specs.Saying.{Speaks}
use Rattle.session_model.specs.States.{SessionState, StreamState, due_now, id_pending}

-- What is due ---------------------------------------------------------------------------------------------------------

-- it is done at once, whatever comes, and ends nothing
abbrev pub is_step : Act → Bool
is_step Act.Waits = false
is_step (Act.Over finish) = false
is_step _ = true

-- a question is due
abbrev asks : Act → Bool
asks (Act.Asks question) = true
asks _ = false

-- the next id matters to questions alone
same_step : {now alone : Act} → (now ≡ alone) ⊎ ((question : Question) × (alone ≡ Act.Asks question))
    → asks alone ≡ false → is_step alone ≡ true → is_step now ≡ true
same_step (inl same) other is = ap is_step same ∙ is
same_step (inr (question, is_it)) other is = let no : true ≡ false = sym (ap asks is_it) ∙ other in cc

pub goes_now : (s : SessionState) → (due false s.machine).act ≡ Act.Goes → is_step (due_now s).act ≡ true
goes_now s is = same_step (due_same (id_pending s.streams.commands) s.machine) (ap asks is) (ap is_step is)

says_step : (act : Act) {message : Message} → said act ≡ Some message → is_step act ≡ true
says_step Act.Waits is = cc
says_step (Act.Over finish) is = cc
says_step _ is = refl

-- a message that isn't a command
abbrev is_plain : Message → Bool
is_plain (Message.sends command) = false
is_plain _ = true

abbrev says_plain : Option Message → Bool
says_plain None = false
says_plain (Some message) = is_plain message

no_question : (act : Act) → says_plain (said act) ≡ true → asks act ≡ false
no_question (Act.Asks question) is = cc
no_question _ is = refl

says_now : (s : SessionState) (message : Message) → is_plain message ≡ true
    → said (due false s.machine).act ≡ Some message → is_step (due_now s).act ≡ true
says_now s message plain is =
    same_step (due_same (id_pending s.streams.commands) s.machine)
    (no_question (due false s.machine).act (ap says_plain is ∙ plain)) (says_step (due false s.machine).act is)

-- it goes out
abbrev is_out : Message → Bool
is_out (Message.tells told) = true
is_out Message.greets = true
is_out (Message.sends command) = true
is_out _ = false

says_so : {m next : Machine} {message : Message} → Allows m message next → is_out message ≡ true
    → said (due false m).act ≡ Some message
says_so (Allows.acts is) out = is
says_so _ out = cc

-- where a message goes out
pub speaks_now : {s : SessionState} {message : Message} {next : Machine} {side : Side} {bytes : List ℕ}
    {streams : StreamState} → Allows s.machine message next → Speaks s message side bytes streams
    → is_step (due_now s).act ≡ true
speaks_now {s} {message} allows Speaks.tells = says_now s message refl (says_so allows refl)
speaks_now {s} {message} allows Speaks.greets = says_now s message refl (says_so allows refl)
speaks_now {s} allows (Speaks.sends apart serves) =
    ap (λ pending. is_step (due pending s.machine).act) apart
    ∙ says_step (due false s.machine).act (says_so allows refl)

-- What may come -------------------------------------------------------------------------------------------------------

-- the composite is that of the first packet which was kept
pub record IsFirst (m : Machine) (at : ℕ) (body : List ℕ) : Type 0 where
  pub before : List Item
  pub after : List Item
  pub can_be_read : can_read m ≡ true
  pub waiting : m.waiting ≡ before ++ a_raw at body ∷ after
  pub is_first : has_raw before ≡ false

-- what holds of a machine that a message may come to
abbrev pub Lets : Machine → Message → Type 0
Lets m (Message.hears request) = (can_read m ≡ false) × (m.closing ≡ false)
Lets m (Message.tells told) = Unit {0}
Lets m Message.greets = Unit {0}
Lets m Message.greeted = (can_read m ≡ false) × (m.state.greeting_heard ≡ false)
Lets m (Message.sends command) = Unit {0}
Lets m (Message.answers command replied) = (can_read m ≡ false) × IsReply m.state.sizes command replied
Lets m Message.ends = can_read m ≡ false
Lets m (Message.comes at composite) = can_read m ≡ false
Lets m (Message.keeps at body) = is_some m.state.sizes ≡ false
Lets m (Message.reads at body composite) = IsFirst m at body

acted : (m : Machine) (act : Act) {message : Message} → said act ≡ Some message → Lets m message
acted m Act.Waits is = cc
acted m Act.Goes is = cc
acted m (Act.Over finish) is = cc
acted m _ is = subst (λ (s : Option Message). by_message s) is tt
  where
    by_message : Option Message → Type 0
    by_message None = Unit {0}
    by_message (Some message) = Lets m message

pub lets : {m next : Machine} {message : Message} → Allows m message next → Lets m message
lets {m} (Allows.acts is) = acted m (due false m).act is
lets (Allows.hears read is_open) = (read, is_open)
lets (Allows.greeted read first) = (read, first)
lets (Allows.answers hand read is waits reply) = (read, reply)
lets (Allows.replies hand read is flies reply) = (read, reply)
lets (Allows.late before after read is reply) = (read, reply)
lets (Allows.ends read) = read
lets (Allows.comes read sized taken) = read
lets (Allows.keeps none) = none
lets (Allows.reads before after read is none taken) =
    record { before = before; after = after; can_be_read = read; waiting = is; is_first = none }

-- no composite can be read before the sizes of ids are known
pub unread : (m : Machine) → is_some m.state.sizes ≡ false → can_read m ≡ false
unread m none = by (is_gone m.state.phase) (is_some m.state.sizes) none
  where
    by : (gone sized : Bool) → sized ≡ false → cond gone false (cond sized (has_raw m.waiting) false) ≡ false
    by true sized none = refl
    by false true none = cc
    by false false none = refl
