use Rattle.std.proofs.Common.{◌≡◌, ◌++◌, drop, filter, map}
use Rattle.machine_model.specs.Breakpoints.{is_news}
use Rattle.machine_model.specs.declared.parts.News.TheVariants.{Verified as entry_verified}
use Rattle.talk_events.proofs.news.verified_among.Given as goal

abbrev pub invariant-loop-entry : goal.invariant-loop-entry
invariant-loop-entry l =
    l.news ++ map entry_verified (filter (is_news l.below l.bound) (drop l.entry-index l.entries))
    ≡ map entry_verified (filter (is_news l.below l.bound) l.entries)
