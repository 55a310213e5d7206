use Rattle.std.proofs.Common.{◌≡◌, ◌++◌, drop}
use Rattle.machine_model.specs.Rows.{each_told}
use Rattle.talk_events.proofs.news.each_told.Given as goal

abbrev pub invariant-loop-one : goal.invariant-loop-one
invariant-loop-one l = l.parts.items ++ each_told (drop l.one-index l.news) ≡ each_told l.news
