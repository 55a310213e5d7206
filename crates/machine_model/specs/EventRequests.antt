-- Event requests by the messages: which stand and which were refused, which is set or cleared next, and where all are
-- settled (JDWP, EventRequest command set, Set and Clear).
use Rattle.std.specs.Prelude.{ℕ, ◌≡◌, ◌==◌, ◌∷◌, ◌++◌, ◌&&◌, Bool, true, false, not, cond, List, [], filter, fold}
use Rattle.std.specs.Prelude.{Option, None, Some}
use Rattle.std.specs.List.{list_any}
use Rattle.jdwp_commands.specs.declared.answer.Answer.TheVariants as answers
use Rattle.machine_model.specs.Due.{due}
use Rattle.machine_model.specs.Names.{Act, Answer, Attached, Clear, Deed, Does, Effect, Replied, Set, TargetCommand}
use Rattle.machine_model.specs.Names.{a_question, an_answer, an_effect, an_error}
use Rattle.machine_model.specs.Requests.{Wishes, effect_due}
use Rattle.machine_model.specs.Rest.{IsAtRest}
use Rattle.machine_model.specs.Runs.{Message, Run}
use Rattle.machine_model.specs.State.{Machine, is_gone}
use Rattle.wish_sets.specs.Order.{has_wish, is_wish}
use Rattle.wish_sets.specs.Tidy.{IsTidy}
use Rattle.wish_sets.specs.Wished.{wished}
use Rattle.wish_sets.specs.Wishes.{EventRequest, is_installed}
use Rattle.wish_sets.specs.declared.wish.Wish.{Wish}

-- What the messages say -----------------------------------------------------------------------------------------------

-- The event requests that stand, and the effect that was sent and has no reply.
pub record Counted : Type 0 where
  pub installed : List EventRequest
  pub flying : Option Effect

-- the event request of a wish, under this id
abbrev pub is_request : Wish → ℕ → EventRequest → Bool
is_request wish request one = is_wish wish one.wish && (one.request == request)

-- a Set installs its wish under the id that is answered (JDWP, EventRequest command set, Set)
abbrev pub set_answered : Wish → Answer → List EventRequest → List EventRequest
set_answered wish (answers.Set request) installed = record { wish = wish; request = request } ∷ installed
set_answered wish _ installed = installed

abbrev pub set_replied : Wish → Replied → List EventRequest → List EventRequest
set_replied wish (an_answer answer) installed = set_answered wish answer installed
set_replied wish (an_error code) installed = installed

-- a Clear that is answered takes its request away (JDWP, EventRequest command set, Clear)
abbrev pub clear_replied : Wish → ℕ → Replied → List EventRequest → List EventRequest
clear_replied wish request (an_answer answer) installed = filter (λ one. not (is_request wish request one)) installed
clear_replied wish request (an_error code) installed = installed

abbrev pub installed_after : Effect → Replied → List EventRequest → List EventRequest
installed_after (Does deed) replied installed = installed
installed_after (Set wish) replied installed = set_replied wish replied installed
installed_after (Clear wish request) replied installed = clear_replied wish request replied installed

abbrev pub count_sent : TargetCommand → Counted → Counted
count_sent (a_question question) c = c
count_sent (an_effect effect) c = record c { flying = Some effect }

abbrev pub count_replied : TargetCommand → Replied → Counted → Counted
count_replied (a_question question) replied c = c
count_replied (an_effect effect) replied c =
    record { installed = installed_after effect replied c.installed; flying = None }

-- one message more
abbrev pub count : Counted → Message → Counted
count c (Message.sends command) = count_sent command c
count c (Message.answers command replied) = count_replied command replied c
count c _ = c

-- by all messages
unfoldable pub counted : List Message → Counted
counted messages = fold count (record { installed = []; flying = None }) messages

-- Refusals ------------------------------------------------------------------------------------------------------------

abbrev pub is_error : Replied → Bool
is_error (an_answer answer) = false
is_error (an_error code) = true

abbrev pub refused_by_effect : Wish → Effect → Replied → Bool → Bool
refused_by_effect wish (Does deed) replied was = was
refused_by_effect wish (Set other) replied was = cond (is_wish wish other) (is_error replied) was
refused_by_effect wish (Clear other request) replied was = was

abbrev pub refused_by_command : Wish → TargetCommand → Replied → Bool → Bool
refused_by_command wish (a_question question) replied was = was
refused_by_command wish (an_effect effect) replied was = refused_by_effect wish effect replied was

-- whether the last Set of a wish was answered with an error, after one more message
abbrev pub refused_after : Wish → Message → Bool → Bool
refused_after wish (Message.answers command replied) was = refused_by_command wish command replied was
refused_after wish _ was = was

-- The last Set of a wish was answered with an error, and the wish was wished ever since.
unfoldable pub refused_since : (wish : Wish) {messages : List Message} {m : Machine} → Run messages m → Bool
refused_since wish Run.starts = false
refused_since wish (Run.goes {m} r is) =
    cond (has_wish (wished (due false m).next.state.wishes.wanted) wish) (refused_since wish r) false
refused_since wish (Run.queues r may) = refused_since wish r
refused_since wish (Run.moves {next} {message} r allows) =
    cond (has_wish (wished next.state.wishes.wanted) wish) (refused_after wish message (refused_since wish r)) false

-- What stands ---------------------------------------------------------------------------------------------------------

-- What is installed is what the messages say: each wish whose Set was answered with an id, under that id, unless it was
-- cleared since; any test finds the same in both. What was refused are just the wishes whose last Set was answered with
-- an error and that were wished ever since. Both stand in wish order, each wish once, and no wish is in both.
pub record AreStanding {messages : List Message} {m : Machine} (r : Run messages m) : Type 0 where
  pub installed : (test : EventRequest → Bool)
      → list_any test m.state.wishes.installed ≡ list_any test (counted messages).installed
  pub refused : (wish : Wish) → has_wish m.state.wishes.refused wish ≡ refused_since wish r
  pub tidy : IsTidy m.state.wishes

-- What is sent --------------------------------------------------------------------------------------------------------

-- A Set is of a wish that is wished, isn't installed, and wasn't refused since it is wished; a Clear is of a wish that
-- isn't wished, and of a request that is installed under this id (JDWP, EventRequest command set, Set and Clear).
pub data IsNew {messages : List Message} {m : Machine} (r : Run messages m) : Effect → Type 0 where
  a_deed : {deed : Deed} → IsNew r (Does deed)
  new_set : {wish : Wish} → has_wish (wished m.state.wishes.wanted) wish ≡ true
      → list_any (λ one. is_wish wish one.wish) (counted messages).installed ≡ false → refused_since wish r ≡ false
      → IsNew r (Set wish)
  old_clear : {wish : Wish} {request : ℕ} → has_wish (wished m.state.wishes.wanted) wish ≡ false
      → list_any (is_request wish request) (counted messages).installed ≡ true → IsNew r (Clear wish request)

-- an effect is sent while none is in flight, and is new
pub record IsSentOnce {messages : List Message} {m : Machine} (r : Run messages m) (effect : Effect) : Type 0 where
  pub none_flies : (counted messages).flying ≡ None
  pub new : IsNew r effect

-- At rest -------------------------------------------------------------------------------------------------------------

-- nothing is to be cleared or set: just what is wished and wasn't refused is installed; no item is in hand, and none
-- waits
pub record IsSettled (m : Machine) : Type 0 where
  pub none_due : effect_due m.state.wishes ≡ None
  pub just_wished : (wish : Wish) → is_installed m.state.wishes.installed wish
      ≡ (has_wish (wished m.state.wishes.wanted) wish && not (has_wish m.state.wishes.refused wish))
  pub none_in_hand : m.hand ≡ None
  pub none_waits : m.waiting ≡ []

abbrev pub is_set_of : Wish → Effect → Bool
is_set_of wish (Does deed) = false
is_set_of wish (Set other) = is_wish wish other
is_set_of wish (Clear other request) = false

-- the command is the Set of a wish
abbrev pub is_set_command : Wish → TargetCommand → Bool
is_set_command wish (a_question question) = false
is_set_command wish (an_effect effect) = is_set_of wish effect

-- the message sends the Set of a wish, or is a reply to it
abbrev pub is_about_set : Wish → Message → Bool
is_about_set wish (Message.sends command) = is_set_command wish command
is_about_set wish (Message.answers command replied) = is_set_command wish command
is_about_set wish _ = false

-- the message, where it is about the Set of a wish
abbrev pub about_set : Wish → Message → List Message
about_set wish message = cond (is_about_set wish message) (message ∷ []) []

-- the messages about the Set of a wish since it is wished
unfoldable pub set_since : (wish : Wish) {messages : List Message} {m : Machine} → Run messages m → List Message
set_since wish Run.starts = []
set_since wish (Run.goes {m} r is) =
    cond (has_wish (wished (due false m).next.state.wishes.wanted) wish) (set_since wish r) []
set_since wish (Run.queues r may) = set_since wish r
set_since wish (Run.moves {next} {message} r allows) =
    cond (has_wish (wished next.state.wishes.wanted) wish) (set_since wish r ++ about_set wish message) []

-- since a wish is wished its Set was sent, once, and later the target replied to it, once
abbrev pub IsReplied : {messages : List Message} {m : Machine} → Run messages m → Wish → Replied → Type 0
IsReplied r wish replied = set_since wish r
    ≡ Message.sends (an_effect (Set wish)) ∷ Message.answers (an_effect (Set wish)) replied ∷ []

-- the event requests of a wish
abbrev pub requests_of : Wish → List EventRequest → List EventRequest
requests_of wish installed = filter (λ one. is_wish wish one.wish) installed

-- What stands of a wish is what a reply says: it is installed, once, under the id that was answered, and wasn't
-- refused; or it was refused with an error, and isn't installed (JDWP, EventRequest command set, Set).
pub data IsAsReplied (w : Wishes) (wish : Wish) : Replied → Type 0 where
  installed : {request : ℕ} → requests_of wish w.installed ≡ record { wish = wish; request = request } ∷ []
      → has_wish w.refused wish ≡ false → IsAsReplied w wish (an_answer (answers.Set request))
  refused : {code : ℕ} → requests_of wish w.installed ≡ [] → has_wish w.refused wish ≡ true
      → IsAsReplied w wish (an_error code)

-- the wish was set since it is wished, and stands as the target replied
pub record StandsAsReplied {messages : List Message} {m : Machine} (r : Run messages m) (wish : Wish) : Type 0 where
  pub reply : Replied
  pub is_replied : IsReplied r wish reply
  pub says : IsAsReplied m.state.wishes wish reply

-- The laws ------------------------------------------------------------------------------------------------------------

-- As long as there is a target, the event requests stand as the messages say.
abbrev pub Stands : Type 0
Stands = (messages : List Message) (m : Machine) (r : Run messages m) → is_gone m.state.phase ≡ false
    → AreStanding r

-- Each event request is set once and cleared once.
abbrev pub Once : Type 0
Once = (messages : List Message) (m : Machine) (r : Run messages m) (effect : Effect)
    → (due false m).act ≡ Act.Sends effect → IsSentOnce r effect

-- At rest, once the session is attached, all event requests are settled.
abbrev pub Settles : Type 0
Settles = (messages : List Message) (m : Machine) → Run messages m → IsAtRest m → m.state.phase ≡ Attached
    → IsSettled m

-- At rest, once the session is attached, each wish was set once since it is wished, and stands as the target replied.
abbrev pub AsReplied : Type 0
AsReplied = (messages : List Message) (m : Machine) (r : Run messages m) → IsAtRest m → m.state.phase ≡ Attached
    → (wish : Wish) → has_wish (wished m.state.wishes.wanted) wish ≡ true → StandsAsReplied r wish
