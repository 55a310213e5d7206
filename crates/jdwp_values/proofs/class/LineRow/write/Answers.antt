use Rattle.std.proofs.Common.{[], ◌++◌, rules}
use Rattle.jdwp_values.specs.Parts.{int, index}
use Rattle.jdwp_values.specs.Spelling.{spell_part}
use Rattle.jdwp_values.proofs.Writings.{then_wrote, last_wrote}
use Rattle.jdwp_values.proofs.class.LineRow.write.Goals as goal

pub returns : goal.returns
returns c =
    let sizes = c.args.writer.now.sizes in
    let x = c.args.self.now in
    then_wrote c.args.writer.now c.index.new.self c.int.new.self (spell_part sizes index x.index)
    (spell_part sizes int x.line ++ []) c.in_ok-index.ensures
    (last_wrote c.index.new.self c.int.new.self (spell_part sizes int x.line) (search rules))
