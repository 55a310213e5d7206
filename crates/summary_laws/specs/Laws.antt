-- The summary of the log of a session that is done.
use Rattle.std.specs.Prelude.{◌≡◌, ◌<◌, ◌^◌, length}
use Rattle.std.specs.List.{AllByRecursion}
use Rattle.machine_model.specs.Rest.{told_of}
use Rattle.session_laws.specs.Bytes.{HasLost}
use Rattle.session_laws.specs.Laws.{OnceEnded}
use Rattle.session_model.specs.Names.{Client, Done}
use Rattle.session_summaries.specs.Summaries.{summary_of}
use Rattle.summary_laws.specs.Messages.{IsReadable, summary_by}

-- It is that of the session's messages, where the client's link did not fail and the client can read each of them.
abbrev pub SummedUp : Type 0
SummedUp = OnceEnded (λ limits log messages turns e. e.ending ≡ Done → ¬ HasLost Client log
    → AllByRecursion IsReadable (told_of messages) → length (told_of messages) < 2 ^ 64
    → summary_of log ≡ summary_by messages)
