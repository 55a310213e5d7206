use Rattle.std.proofs.Common.{◌∙◌, ◌++◌, ap, append-nil, refl, sym}
use Rattle.std.specs.List.{flat_map}
use Rattle.std.proofs.lemmas.Result.{on_ok_weaker}
use Rattle.run_logs.specs.Runs.{entries_in}
use Rattle.session_summaries.specs.Summaries.{told_to_client}
use Rattle.session_summaries.proofs.RunLaws.{of_one, of_waits}
use Rattle.session_summaries.proofs.entries.add_told.Goals as goal

pub returns-in-One : goal.returns-in-One
returns-in-One c =
    let own = ap (λ run. flat_map told_to_client (entries_in run)) c.in-One.is ∙ of_one told_to_client c.in-One.entry in
    on_ok_weaker c.add_one_told.result (λ added. added ∙ ap (λ more. c.args.bytes.now ++ more) (sym own))
    c.add_one_told.ensures

pub returns-in-Quiets : goal.returns-in-Quiets
returns-in-Quiets c =
    let none = ap (λ run. flat_map told_to_client (entries_in run)) c.in-Quiets.is ∙ of_waits told_to_client c.in-Quiets.field-0 refl in
    sym (ap (λ more. c.args.bytes.now ++ more) none ∙ append-nil c.args.bytes.now)
