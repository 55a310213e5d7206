use Rattle.machine_model.specs.Judging.{path_text}
use Rattle.look_ups.specs.Needs.{seen_by}
use Rattle.hit_values.proofs.EachPieces.{one_before}
use Rattle.hit_values.proofs.messages.beside_texts.Goals as goal

pub returns-in-Plain : goal.returns-in-Plain
returns-in-Plain c = λ others is. rw c.in-Plain.is is

pub returns-in_ok-all-in-Path : goal.returns-in_ok-all-in-Path
returns-in_ok-all-in-Path c = λ others is. rw c.in-Path.is
    (one_before (seen_by c.args.sight) (path_text c.args.thread) c.in-Path.expression others _ _ _
    c.in_ok-text-in-Path.ensures c.in_ok-all-in-Path.ensures is)
