-- Where the client knows of all that are verified, none is news.
use Rattle.std.proofs.Common.{◌∙◌}
use Rattle.talk_state.proofs.NewsLaws.{no_news}
use Rattle.talk_events.proofs.news.newly_verified.Goals as goal

pub returns-then-state : goal.returns-then-state
returns-then-state c =
    let told = rw c.if-state.true at c.state.invariant.1 in
    rw (← c.state.view_is) (c.new.ensures ∙ no_news c.args.below c.state.inside.bound c.state.inside.wishes told)
