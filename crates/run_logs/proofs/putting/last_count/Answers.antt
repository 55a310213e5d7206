use Rattle.std.proofs.Common.{sym, ◌∙◌, ap}
use Rattle.run_logs.specs.Runs.{count_of}
use Rattle.run_logs.proofs.PutLaws.{last_is}
use Rattle.run_logs.proofs.putting.last_count.Goals as goal

pub returns-in-Some-Quiets : goal.returns-in-Some-Quiets
returns-in-Some-Quiets c =
    let last = c.in-Some-Quiets.ensures.item in
    sym (last_is _ _ last.3.0 last.1 ∙ ap count_of c.in-Some-Quiets.field-0-is)

pub returns-in-Some-One : goal.returns-in-Some-One
returns-in-Some-One c =
    let last = c.in-Some-One.ensures.item in
    sym (last_is _ _ last.3.0 last.1 ∙ ap count_of c.in-Some-One.field-0-is)
