-- What holds of every session, while it goes on and once it has ended. The laws stand here, each over words of a file
-- of its own.
use Rattle.std.specs.Prelude.{ℕ, ◌≡◌, true, false, List}
use Rattle.machine_model.specs.Rest.{awaits_greeting, is_silent}
use Rattle.machine_model.specs.Runs.{Message, Run}
use Rattle.session_model.specs.Names.{Done, Entry, Limits, Side}
use Rattle.session_model.specs.Causes.{IsWaiting}
use Rattle.session_laws.specs.Endings.{IsDone, ShowsInLog}
use Rattle.session_laws.specs.Hearing.{AreHeard}
use Rattle.session_laws.specs.Leaving.{IsLeftToRunOn}
use Rattle.session_laws.specs.Replies.{AreReadAlike, AreReplied}
use Rattle.session_laws.specs.Responses.{AreServedInAll}
use Rattle.session_laws.specs.Resting.{IsAnswered}
use Rattle.session_laws.specs.Sending.{IsSent, IsSentInAll}
use Rattle.session_model.specs.Session.{Ended, EndedState, Going}
use Rattle.session_model.specs.States.{SessionState}
use Rattle.session_laws.specs.Terminating.{IsToldOnce}
use Rattle.session_laws.specs.Turns.{AreTurns, AreTurnsThen, SaysLast}

-- this holds of every session that goes on
abbrev pub WhileGoing : (Limits → List Entry → List Message → ℕ → SessionState → Type 0) → Type 0
WhileGoing holds = (limits : Limits) (log : List Entry) (messages : List Message) (turns : ℕ) (s : SessionState)
    → Going limits log messages turns s → holds limits log messages turns s

-- this holds of every session that has ended
abbrev pub OnceEnded : (Limits → List Entry → List Message → ℕ → EndedState → Type 0) → Type 0
OnceEnded holds = (limits : Limits) (log : List Entry) (messages : List Message) (turns : ℕ) (e : EndedState)
    → Ended limits log messages turns e → holds limits log messages turns e

-- The messages of a session are a run of the machine.
abbrev pub AreRuns : Type 0
AreRuns = WhileGoing (λ limits log messages turns s. Run messages s.machine)

-- A turn is a wait that gave something: each entry but those of sends.
abbrev pub Turns : Type 0
Turns = WhileGoing (λ limits log messages turns s. AreTurns limits log turns)
    × OnceEnded (λ limits log messages turns e. AreTurnsThen limits log turns)

-- After an ending nothing is said but its last words, in their order, up to the first that can't be sent.
abbrev pub LastWordsSaid : Type 0
LastWordsSaid = OnceEnded (λ limits log messages turns e. SaysLast log e)

-- Where a target is to run on when a session ends, it is let do so behind the cause; else nothing goes to it there.
abbrev pub LeftToRunOn : Type 0
LeftToRunOn = (limits : Limits) (log : List Entry) (messages : List Message) (turns : ℕ) (e : EndedState)
    (ended : Ended limits log messages turns e) → IsLeftToRunOn e ended.by_words

-- `terminated` is told at most once, and just once where an ending is told to the client.
abbrev pub TerminatedOnce : Type 0
TerminatedOnce = OnceEnded (λ limits log messages turns e. IsToldOnce log messages e)

-- What a side is sent are the messages that go to it, numbered 1, 2, 3, and so on, and last words behind them.
abbrev pub SidesAreSent : Type 0
SidesAreSent = (side : Side) → WhileGoing (λ limits log messages turns s. IsSent side log messages s)
    × OnceEnded (λ limits log messages turns e. IsSentInAll side log messages e)

-- The requests are what the client's bytes say.
abbrev pub Requests : Type 0
Requests = WhileGoing (λ limits log messages turns s. AreHeard log messages s)
    × OnceEnded (λ limits log messages turns e. AreHeard log messages e.last)

-- All responses, those among the last words included, answer the requests, one by one, in order.
abbrev pub ResponsesToTheEnd : Type 0
ResponsesToTheEnd = OnceEnded (λ limits log messages turns e. AreServedInAll log messages e)

-- What the target's bytes say are its handshake and its replies, one each to a command with its id, and its composites.
abbrev pub Replies : Type 0
Replies = WhileGoing (λ limits log messages turns s. AreReplied log messages s)
    × OnceEnded (λ limits log messages turns e. AreReplied log messages e.last)

-- What the log shows of an ending's cause is there. Want of memory is no cause.
abbrev pub Endings : Type 0
Endings = OnceEnded (λ limits log messages turns e. ShowsInLog limits log turns e.ending)

-- A session that is done has answered all requests, its last with a success.
abbrev pub Dones : Type 0
Dones = OnceEnded (λ limits log messages turns e. e.ending ≡ Done → IsDone messages)

-- At each wait, also inside a session, all requests are answered where nothing is pending.
abbrev pub Waitings : Type 0
Waitings = WhileGoing (λ limits log messages turns s. IsWaiting limits s → is_silent s.machine ≡ true
    → awaits_greeting s.machine.state ≡ false → IsAnswered messages s.machine)

-- Before the sizes of ids are known, all sizes read the same of what is pending; and then the target's do.
abbrev pub Alike : Type 0
Alike = WhileGoing (λ limits log messages turns s. AreReadAlike s)
