use Rattle.std.proofs.Common.{take}
use Rattle.wire_core.specs.declared.outside.Side.TheVariants.{Client, Target}
use Rattle.script_wires.specs.Playing.{coming}
use Rattle.script_wires.specs.Plays.{playing}
use Rattle.script_wires.proofs.PlayLaws.{few_by, gives_of_client, gives_of_target, still_by}
use Rattle.script_wires.proofs.play.Play.give_first.Goals as goal

pub returns-then-count-gt0-clause-gives : goal.returns-then-count-gt0-clause-gives
returns-then-count-gt0-clause-gives c =
    let old = playing c.args.self.now c.args.links in
    let given = c.give-count.ensures in
    gives_of_client old (playing c.give-count.new.self c.args.links) c.give-count.result _ given.count
    c.if-count-gt0.true given.rest
    (c.heard.ensures.entry (take 65536 (coming Client old)) c.give-count.new.buffer given.count given.front)

pub returns-then-count-gt0-clause-possible : goal.returns-then-count-gt0-clause-possible
returns-then-count-gt0-clause-possible c =
    let old = playing c.args.self.now c.args.links in
    c.heard.ensures.possible c.args.links c.give-count.ensures.open
    (few_by (coming Client old) c.give-count.result c.give-count.ensures.count)

pub returns-then-count-gt0-2-clause-gives : goal.returns-then-count-gt0-2-clause-gives
returns-then-count-gt0-2-clause-gives c =
    let old = playing c.args.self.now c.args.links in
    let middle = playing c.give-count.new.self c.args.links in
    let before = c.give-count.ensures in
    let given = c.give-count-2.ensures in
    gives_of_target old middle (playing c.give-count-2.new.self c.args.links) c.give-count.result
    c.give-count-2.result _ before.count c.if-count-gt0.false before.rest given.count c.if-count-gt0-2.true given.rest
    (c.heard-then-count-gt0-2.ensures.entry (take 65536 (coming Target middle)) c.give-count-2.new.buffer given.count
    given.front)

pub returns-then-count-gt0-2-clause-possible : goal.returns-then-count-gt0-2-clause-possible
returns-then-count-gt0-2-clause-possible c =
    let middle = playing c.give-count.new.self c.args.links in
    c.heard-then-count-gt0-2.ensures.possible c.args.links c.give-count-2.ensures.open
    (few_by (coming Target middle) c.give-count-2.result c.give-count-2.ensures.count)

pub returns-clause-still : goal.returns-clause-still
returns-clause-still c =
    still_by (playing c.args.self.now c.args.links) (playing c.give-count.new.self c.args.links) c.give-count.result
    c.give-count-2.result c.give-count.ensures.count c.if-count-gt0.false c.give-count.ensures.rest
    c.give-count-2.ensures.count c.if-count-gt0-2.false
