use Rattle.std.proofs.Common.{rules}
use Rattle.tap_model.proofs.FitLaws.{fits}
use Rattle.tap_questions.proofs.questions.question_bytes.Goals as goal

pub write-requires : goal.write-requires
write-requires c =
    rw (c.in_ok-copy_of.ensures) ((fits c.args.sizes c.args.question.now (search rules)).spelled)
