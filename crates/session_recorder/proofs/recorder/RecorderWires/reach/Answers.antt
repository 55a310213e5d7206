use Rattle.std.proofs.Common.{refl}
use Rattle.session_recorder.proofs.SendLaws.{either_way, fails_to_reach, of_ok, on_err}
use Rattle.session_recorder.proofs.TieLaws.{tied_by_reaching, tied_by_not_reaching}
use Rattle.session_recorder.specs.declared.side_state.SideState.TheVariants.{Closed}
use Rattle.session_recorder.proofs.recorder.RecorderWires.reach.Goals as goal

pub returns-clause-err : goal.returns-clause-err
returns-clause-err g c =
    on_err c.open.result c.open.ensures.err
    (fails_to_reach (g.W.Wires.outside c.args.self.now.inner.now) (g.W.Wires.outside c.reach-opened.new.self)
    c.args.self.now.book.now c.open.new.self c.reach-opened.result c.args.target c.reach-opened.ensures.ok
    c.reach-opened.ensures.err)

pub returns-clause-stays : goal.returns-clause-stays
returns-clause-stays g c =
    let o = g.W.Wires.outside c.args.self.now.inner.now in
    let o' = g.W.Wires.outside c.reach-opened.new.self in
    let b = c.args.self.now.book.now in
    let b' = c.open.new.self in (
      refl,
      (
        refl,
        (
          c.reach-opened.ensures.stays,
          either_way c.open.result c.open.ensures.ok c.open.ensures.err
              (λ is. tied_by_reaching o o' b b' c.args.target Closed c.requires
              (of_ok c.reach-opened.result is.0 c.reach-opened.ensures.ok) is.1 is.2)
              (tied_by_not_reaching o o' b b' c.reach-opened.result c.args.target c.requires
              c.reach-opened.ensures.ok c.reach-opened.ensures.err),
        ),
      ),
    )
