use Rattle.std.proofs.Common.{refl}
use Rattle.session_recorder.proofs.SendLaws.{either_way, fails_to_connect, of_ok, on_err}
use Rattle.session_recorder.proofs.TieLaws.{tied_by_connecting, tied_by_not_connecting}
use Rattle.session_recorder.specs.declared.side_state.SideState.TheVariants.{Open}
use Rattle.session_recorder.proofs.recorder.RecorderWires.connect.Goals as goal

pub returns-clause-err : goal.returns-clause-err
returns-clause-err g c =
    on_err c.open.result c.open.ensures.err
    (fails_to_connect (g.W.Wires.outside c.args.self.now.inner.now) (g.W.Wires.outside c.connect-opened.new.self)
    c.args.self.now.book.now c.open.new.self c.connect-opened.result c.args.listen c.args.target c.connect-opened.ensures.ok
    c.connect-opened.ensures.err)

pub returns-clause-stays : goal.returns-clause-stays
returns-clause-stays g c =
    let o = g.W.Wires.outside c.args.self.now.inner.now in
    let o' = g.W.Wires.outside c.connect-opened.new.self in
    let b = c.args.self.now.book.now in
    let b' = c.open.new.self in (
      refl,
      (
        refl,
        (
          c.connect-opened.ensures.stays,
          either_way c.open.result c.open.ensures.ok c.open.ensures.err
              (λ is. tied_by_connecting o o' b b' c.args.listen c.args.target Open c.requires
              (of_ok c.connect-opened.result is.0 c.connect-opened.ensures.ok) is.1 is.2)
              (tied_by_not_connecting o o' b b' c.connect-opened.result c.args.listen c.args.target c.requires
              c.connect-opened.ensures.ok c.connect-opened.ensures.err),
        ),
      ),
    )
