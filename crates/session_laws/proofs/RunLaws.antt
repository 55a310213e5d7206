-- Each session is a run of the machine.
use Rattle.std.proofs.Common.{ℕ, List}
use Rattle.machine_model.specs.Runs.{Message, Run}
use Rattle.session_model.specs.Names.{Entry, Limits}
use Rattle.session_model.specs.Session.{Going}
use Rattle.session_model.specs.States.{SessionState}

pub is_run : {limits : Limits} {log : List Entry} {messages : List Message} {turns : ℕ} {s : SessionState}
    → Going limits log messages turns s → Run messages s.machine
is_run Going.begins = Run.starts
is_run (Going.goes g on is) = Run.goes (is_run g) is
is_run (Going.speaks g on allows speaks) = Run.moves (is_run g) allows
is_run (Going.hears g reads allows brings) = Run.moves (is_run g) allows
is_run (Going.ignores g reads whole reading) = is_run g
is_run (Going.happens g listens comes) = is_run g
