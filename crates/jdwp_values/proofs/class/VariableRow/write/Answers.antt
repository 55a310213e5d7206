use Rattle.std.proofs.Common.{[], ◌++◌, rules}
use Rattle.jdwp_values.specs.Parts.{int, index, number, text}
use Rattle.jdwp_values.specs.Spelling.{spell_part}
use Rattle.jdwp_values.proofs.Writings.{then_wrote, last_wrote}
use Rattle.jdwp_values.proofs.class.VariableRow.write.Goals as goal

pub returns : goal.returns
returns c =
    let sizes = c.args.writer.now.sizes in
    let x = c.args.self.now in
    let slot = spell_part sizes int x.slot ++ [] in
    let len = spell_part sizes number x.length ++ slot in
    let signature = spell_part sizes text x.signature ++ len in
    let name = spell_part sizes text x.name ++ signature in
    then_wrote c.args.writer.now c.index.new.self c.int.new.self (spell_part sizes index x.index) name
    c.in_ok-index.ensures
    (then_wrote c.index.new.self c.text.new.self c.int.new.self (spell_part sizes text x.name) signature (search rules)
    (then_wrote c.text.new.self c.text-2.new.self c.int.new.self (spell_part sizes text x.signature) len (search rules)
    (then_wrote c.text-2.new.self c.number.new.self c.int.new.self (spell_part sizes number x.length) slot
    c.in_ok-number.ensures
    (last_wrote c.number.new.self c.int.new.self (spell_part sizes int x.slot) (search rules)))))
