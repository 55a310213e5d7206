-- What holds of legal logs, and of verdicts. The laws stand here.
use Rattle.std.specs.Prelude.{ℕ, ◌++◌, List, Option}
use Rattle.legal_logs.specs.Clauses.{Clause}
use Rattle.legal_logs.specs.Endings.{ReadOut}
use Rattle.legal_logs.specs.Fronts.{IsFront, IsLegal}
use Rattle.legal_logs.specs.Readings.{Reading}
use Rattle.legal_logs.specs.Verdicts.{IsBroken}
use Rattle.machine_model.specs.Runs.{Message, Run}
use Rattle.session_model.specs.Names.{Entry, Limits}
use Rattle.session_model.specs.Session.{EndedState}
use Rattle.session_model.specs.States.{SessionState}

-- A front of a front is one.
abbrev pub FrontsOfFronts : Type 0
FrontsOfFronts = (limits : Limits) (before after : List Entry) → IsFront limits (before ++ after)
    → IsFront limits before

-- No log is both legal and broken.
abbrev pub NoneIsBoth : Type 0
NoneIsBoth = (limits : Limits) (log : List Entry) (status : Option ℕ) (clause : Clause) (place : ℕ)
    → IsLegal limits log status → IsBroken limits log status clause place → ⊥

-- The messages of a reading are a run of the machine.
abbrev pub AreRuns : Type 0
AreRuns = (limits : Limits) (log : List Entry) (messages : List Message) (turns : ℕ) (s : SessionState)
    → Reading limits log messages turns s → Run messages s.machine

-- So are those of a reading that has ended.
abbrev pub AreRunsThen : Type 0
AreRunsThen = (limits : Limits) (log : List Entry) (messages : List Message) (turns : ℕ) (e : EndedState)
    → ReadOut limits log messages turns e → Run messages e.last.machine
