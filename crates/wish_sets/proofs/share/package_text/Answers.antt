-- A text is shown as it is.
use Rattle.std.proofs.Common.{◌∙◌, subst}
use Rattle.std.specs.Prelude.{IsUtf8}
use Rattle.std.proofs.lemmas.Result.{IfOk-weaker}
use Rattle.jdwp_values.proofs.LossyLaws.{itself}
use Rattle.wish_sets.proofs.share.package_text.Goals as goal

pub returns : goal.returns
returns c =
    IfOk-weaker c.lossy.result _ _ (λ name is. is ∙ (itself c.package_named.result.now
    (c.package_named.ensures.utf8 (subst IsUtf8 c.as_str.ensures c.as_str.utf8))
    ∙ c.package_named.ensures.name)) c.lossy.ensures
