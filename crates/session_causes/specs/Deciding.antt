-- Where no cause stands: what it is that the first cause decides.
use Rattle.std.specs.Prelude.{ℕ, List, []}
use Rattle.machine_model.specs.Runs.{Message}
use Rattle.session_model.specs.Causes.{Cause}
use Rattle.session_model.specs.Names.{Ending, Entry, Limits}
use Rattle.session_model.specs.Session.{Going}
use Rattle.session_model.specs.States.{SessionState}

-- No cause stands here, but for what may come from the outside or fail in a send: that leaves an entry in the log.
abbrev pub NoCause : Limits → ℕ → SessionState → Type 0
NoCause limits turns s = (ending : Ending) → Cause limits turns s ending [] 0 → ⊥

-- at each place that this session has left, no cause stood
abbrev pub NonePassed : {limits : Limits} {log : List Entry} {messages : List Message} {turns : ℕ} {s : SessionState}
    → Going limits log messages turns s → Type 0
NonePassed Going.begins = Unit {0}
NonePassed {limits} (Going.goes {turns = turns} {s = s} g on is) = NonePassed g × NoCause limits turns s
NonePassed {limits} (Going.speaks {turns = turns} {s = s} g on allows says) = NonePassed g × NoCause limits turns s
NonePassed {limits} (Going.hears {turns = turns} {s = s} g on allows brings) = NonePassed g × NoCause limits turns s
NonePassed {limits} (Going.ignores {turns = turns} {s = s} g on front reads) = NonePassed g × NoCause limits turns s
NonePassed {limits} (Going.happens {turns = turns} {s = s} g waits comes) = NonePassed g × NoCause limits turns s
