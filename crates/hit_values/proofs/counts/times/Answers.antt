use Rattle.std.proofs.Common.{◌==◌, sym, ◌∙◌}
use Rattle.std.proofs.lemmas.List.Sums.{length-filter}
use Rattle.hit_values.proofs.counts.times.Goals as goal

pub returns : goal.returns
returns c = c.counted.ensures ∙ sym (length-filter (λ other. other == c.args.id) c.args.ids.now)
