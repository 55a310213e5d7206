-- Worked examples, checked by computation.
use Rattle.std.proofs.Common.{◌≡◌, ℕ, zero, suc, Bool, true, false, List, [], ◌∷◌, ◌++◌, Option, Some, None, refl, map}
use Rattle.std.proofs.Common.{take, drop, arith}
use Rattle.class_tables.specs.Facts.{nothing}
use Rattle.dap_messages.specs.Telling.{target_gone}
use Rattle.dap_messages.specs.declared.told.Event.TheVariants as events
use Rattle.dap_messages.specs.declared.told.Outcome.TheVariants as outcomes
use Rattle.dap_messages.specs.declared.told.Shape.TheVariants as shapes
use Rattle.dap_messages.specs.declared.told.Thread.{Thread}
use Rattle.jdwp_commands.specs.declared.answer.Answer.TheVariants as answers
use Rattle.jdwp_commands.specs.declared.question.Question.TheVariants as questions
use Rattle.jdwp_values.specs.Lossy.{lossy}
use Rattle.machine_model.specs.Due.{due, load_of, newly_lacked, wanted}
use Rattle.machine_model.specs.Names.{Act, Answer, Attach, Attached, Command, Disconnect, Dispose, Does, Done, Effect}
use Rattle.machine_model.specs.Names.{Exit, Gone, Question, Request, Set, TargetCommand, ThreadId, Threads, Want}
use Rattle.machine_model.specs.Names.{a_question, an_answer, an_effect, an_error, an_event}
use Rattle.machine_model.specs.Plans.{chained, each, made_with, need}
use Rattle.machine_model.specs.Replying.{IsReply, answered, ended, learnt, pending_of}
use Rattle.machine_model.specs.Runs.{Allows, Message, greeting_heard, heard, said}
use Rattle.machine_model.specs.State.{Hand, Machine, fresh}
use Rattle.machine_model.specs.Telling.{response_to}
use Rattle.wish_sets.specs.Wished.{wished}
use Rattle.wish_sets.specs.Wishes.{next_change}
use Rattle.wish_sets.specs.declared.wish.Wish.TheVariants as wishes

-- the machine goes so many steps, or until something must come
abbrev pub drive : ℕ → Machine → Machine
drive zero m = m
drive (suc n) m = drive n (due false m).next

abbrev pub said_first : Option Message → List Message → List Message
said_first None messages = messages
said_first (Some message) messages = message ∷ messages

-- what it says on the way
abbrev pub said_on : ℕ → Machine → List Message
said_on zero m = []
said_on (suc n) m = said_first (said (due false m).act) (said_on n (due false m).next)

abbrev pub request : ℕ → Command → Request
request seq command = record { seq = seq; name = seq ∷ []; command = command }

-- a question is answered, and the machine goes on
abbrev pub answers_with : ℕ → Question → Answer → Machine → Machine
answers_with n question answer m = drive n (answered m (a_question question) (an_answer answer))

abbrev pub asks : Question → Message
asks question = Message.sends (a_question question)

abbrev pub changes : Effect → Message
changes effect = Message.sends (an_effect effect)

abbrev pub responds : Request → outcomes.the_data → Message
responds request outcome = Message.tells (response_to request outcome)

abbrev pub succeeds : Request → Message
succeeds request = responds request (outcomes.Success shapes.Nothing)

-- Attach --------------------------------------------------------------------------------------------------------------

abbrev attach : Request
attach = request 1 (Attach (record { source_roots = (115 ∷ []) ∷ [] }))

greets_first : said_on 6 (heard fresh attach) ≡ Message.greets ∷ []
unfolding due wanted load_of newly_lacked
greets_first = refl

abbrev greeted_now : Machine
greeted_now = greeting_heard (drive 6 (heard fresh attach))

asks_sizes : said_on 6 greeted_now ≡ asks questions.IdSizes ∷ []
unfolding due wanted load_of newly_lacked
asks_sizes = refl

abbrev sized : Machine
sized = answered (drive 6 greeted_now) (a_question questions.IdSizes) (an_answer (answers.IdSizes 8 8 8 8 8))

-- the wishes are set one by one
sets_first : said_on 6 sized ≡ changes (Set wishes.ThreadStart) ∷ []
unfolding due wanted load_of newly_lacked next_change wished
sets_first = refl

abbrev one_set : Machine
one_set = answered (drive 6 sized) (an_effect (Set wishes.ThreadStart)) (an_answer (answers.Set 1))

sets_next : said_on 6 one_set ≡ changes (Set wishes.ThreadDeath) ∷ []
unfolding due wanted load_of newly_lacked next_change wished
sets_next = refl

-- one that is refused is not set again; the session is attached behind the event
abbrev one_refused : Machine
one_refused = answered (drive 6 one_set) (an_effect (Set wishes.ThreadDeath)) (an_error 99)

attaches_then : said_on 8 one_refused ≡ succeeds attach ∷ Message.tells (an_event events.Initialized) ∷ []
unfolding due wanted load_of newly_lacked next_change wished
attaches_then = refl

abbrev pub attached : Machine
attached = drive 8 one_refused

is_attached_now : (attached.state.phase ≡ Attached) × (attached.hand ≡ None)
    × (attached.state.wishes.refused ≡ wishes.ThreadDeath ∷ [])
unfolding due wanted load_of newly_lacked next_change wished
is_attached_now = (refl, refl, refl)

-- Threads -------------------------------------------------------------------------------------------------------------

abbrev thread : ℕ → ThreadId
thread id = record { 0 = id }

abbrev threads : List ThreadId
threads = map thread (21 ∷ 22 ∷ 23 ∷ 24 ∷ 25 ∷ 26 ∷ 27 ∷ 28 ∷ 29 ∷ 30 ∷ 31 ∷ 32 ∷ 33 ∷ 34 ∷ 35 ∷ 36 ∷ 37 ∷ 38 ∷ [])

abbrev lists : Request
lists = request 2 Threads

asks_threads : said_on 6 (heard attached lists) ≡ asks questions.AllThreads ∷ []
unfolding due wanted load_of newly_lacked next_change wished need chained made_with each
asks_threads = refl

abbrev name_asked : ThreadId → Message
name_asked thread = asks (questions.ThreadName thread)

abbrev listed : Machine
listed = answered (drive 6 (heard attached lists)) (a_question questions.AllThreads) (an_answer
    (answers.AllThreads threads))

-- sixteen names are asked, and the others wait
asks_names : said_on 18 listed ≡ map name_asked (take 16 threads)
unfolding due wanted load_of newly_lacked next_change wished need chained made_with each
asks_names = refl

abbrev window_full : Machine
window_full = drive 18 listed

abbrev queue_in : Option Hand → List Want
queue_in None = []
queue_in (Some hand) = hand.queue

others_wait : queue_in window_full.hand ≡ map (λ (one : ThreadId). Want.May (questions.ThreadName one))
    (drop 16 threads)
unfolding due wanted load_of newly_lacked next_change wished need chained made_with each
others_wait = refl

-- one name is refused: there is room for another, but not while the next id is pending
abbrev refused_one : Machine
refused_one = answered window_full (a_question (questions.ThreadName (thread 25))) (an_error 10)

asks_next : ((due false refused_one).act ≡ Act.Asks (questions.ThreadName (thread 37)))
    × ((due true refused_one).act ≡ Act.Waits)
unfolding due wanted load_of newly_lacked next_change wished need chained made_with each
asks_next = (refl, refl)

-- a thread is named by its id, and the machine goes on
abbrev named : List ℕ → Machine → Machine
named [] m = m
named (id ∷ ids) m =
    named ids (drive 1
    (answered m (a_question (questions.ThreadName (thread id))) (an_answer (answers.ThreadName (id ∷ [])))))

abbrev told_as : ℕ → ℕ → Thread
told_as number id = record { id = number; name = lossy (id ∷ []) }

abbrev any_order : List ℕ
any_order = 36 ∷ 35 ∷ 34 ∷ 38 ∷ 33 ∷ 32 ∷ 31 ∷ 30 ∷ 29 ∷ 28 ∷ 37 ∷ 27 ∷ 26 ∷ 24 ∷ 23 ∷ 22 ∷ 21 ∷ []

-- the replies come in any order; the list is told in that of the target, without the one that was refused
tells_list : said_on 3 (named any_order (drive 1 refused_one))
    ≡ responds lists (outcomes.Success (shapes.Threads (
    told_as 1 21 ∷ told_as 2 22 ∷ told_as 3 23 ∷ told_as 4 24 ∷ told_as 5 26 ∷ told_as 6 27 ∷ told_as 7 28
    ∷ told_as 8 29 ∷ told_as 9 30 ∷ told_as 10 31 ∷ told_as 11 32 ∷ told_as 12 33 ∷ told_as 13 34 ∷ told_as 14 35 ∷
    told_as 15 36
    ∷ told_as 16 37 ∷ told_as 17 38 ∷ []))) ∷ []
unfolding due wanted load_of newly_lacked next_change wished need chained made_with each
tells_list = refl

-- A target that is lost -----------------------------------------------------------------------------------------------

-- fifteen replies are pending when the target ends
abbrev lost : Machine
lost = ended false refused_one

abbrev fifteen : List TargetCommand
fifteen =
    map (λ (id : ℕ). a_question (questions.ThreadName (thread id)))
    (21 ∷ 22 ∷ 23 ∷ 24 ∷ 26 ∷ 27 ∷ 28 ∷ 29 ∷ 30 ∷ 31 ∷ 32 ∷ 33 ∷ 34 ∷ 35 ∷ 36 ∷ [])

stay_pending : (pending_of lost ≡ fifteen) × (lost.state.phase ≡ Gone)
unfolding due wanted load_of newly_lacked next_change wished need chained made_with each
stay_pending = (refl, refl)

abbrev loss_told : List Message
loss_told = responds lists (outcomes.Failure target_gone) ∷ Message.tells (an_event events.Terminated) ∷ []

tells_loss : said_on 8 lost ≡ loss_told
unfolding due wanted load_of newly_lacked next_change wished need chained made_with each
tells_loss = refl

-- each late reply is taken, and takes one out
takes_late : Allows lost (Message.answers (a_question (questions.ThreadName (thread 23))) (an_error 10))
    (record lost { late = take 2 fifteen ++ drop 3 fifteen })
unfolding due wanted load_of newly_lacked next_change wished need chained made_with each
takes_late =
    Allows.late (take 2 fifteen) (drop 3 fifteen) refl refl (IsReply.with_error (omega arith) refl)

-- and changes nothing else, once all are there
tells_same : said_on 8 (record lost { late = [] }) ≡ loss_told
unfolding due wanted load_of newly_lacked next_change wished need chained made_with each
tells_same = refl

-- Disconnect ----------------------------------------------------------------------------------------------------------

abbrev leave : Bool → Request
leave ends = request 3 (Disconnect (record { terminate_debuggee = ends }))

-- before a target was attached
leaves_fresh : (said_on 6 (heard fresh (leave false)) ≡ succeeds (leave false) ∷ [])
    × ((due false (drive 6 (heard fresh (leave false)))).act ≡ Act.Over Done)
unfolding due wanted load_of newly_lacked
leaves_fresh = (refl, refl)

-- a target that is attached is left, or ends
leaves_attached : (said_on 6 (heard attached (leave false)) ≡ changes (Does Dispose) ∷ [])
    × (said_on 6 (heard attached (leave true)) ≡ changes (Does Exit) ∷ [])
unfolding due wanted load_of newly_lacked next_change wished
leaves_attached = (refl, refl)

abbrev disposing : Machine
disposing = drive 6 (heard attached (leave false))

-- any reply will do
leaves_then : (said_on 6 (answered disposing (an_effect (Does Dispose)) (an_error 112)) ≡ succeeds (leave false) ∷ [])
    × ((due false (drive 6 (answered disposing (an_effect (Does Dispose)) (an_error 112)))).act ≡ Act.Over Done)
unfolding due wanted load_of newly_lacked next_change wished
leaves_then = (refl, refl)

-- the target ends while its Dispose is pending
leaves_lost : (said_on 6 (ended false disposing) ≡ succeeds (leave false) ∷ [])
    × ((due false (drive 6 (ended false disposing))).act ≡ Act.Over Done)
    × (pending_of (drive 6 (ended false disposing)) ≡ an_effect (Does Dispose) ∷ [])
unfolding due wanted load_of newly_lacked next_change wished
leaves_lost = (refl, refl, refl)

abbrev gone_now : Machine
gone_now = drive 6 (ended false attached)

-- a target that is gone is not left
leaves_gone : (said_on 6 (ended false attached) ≡ Message.tells (an_event events.Terminated) ∷ [])
    × (said_on 6 (heard gone_now (leave false)) ≡ succeeds (leave false) ∷ [])
    × ((due false (drive 6 (heard gone_now (leave false)))).act ≡ Act.Over Done)
unfolding due wanted load_of newly_lacked next_change wished
leaves_gone = (refl, refl, refl)

-- Facts of classes ----------------------------------------------------------------------------------------------------

abbrev its_source : Question
its_source = questions.SourceFile (record { 0 = 16 })

abbrev source_read : Option Answer
source_read = Some (answers.SourceFile (65 ∷ []))

-- of two replies to a question for a fact the first counts, also where it is a refusal
first_counts : (learnt its_source None (learnt its_source source_read nothing) ≡ learnt its_source source_read nothing)
    × (learnt its_source source_read (learnt its_source None nothing) ≡ learnt its_source None nothing)
    × ((learnt its_source source_read nothing).sources ≡ (record { 0 = 16 }, Some (65 ∷ [])) ∷ [])
first_counts = (refl, refl, refl)
