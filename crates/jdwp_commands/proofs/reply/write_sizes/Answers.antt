use Rattle.std.proofs.Common.{[], ◌++◌}
use Rattle.jdwp_values.specs.Parts.{number}
use Rattle.jdwp_values.specs.Spelling.{spell_part}
use Rattle.jdwp_values.proofs.Writings.{then_wrote, last_wrote}
use Rattle.jdwp_commands.proofs.reply.write_sizes.Goals as goal

pub returns : goal.returns
returns c =
    let sizes = c.args.writer.now.sizes in
    let frame = spell_part sizes number c.args.frame ++ [] in
    let class = spell_part sizes number c.args.class ++ frame in
    let object = spell_part sizes number c.args.object ++ class in
    let method = spell_part sizes number c.args.method ++ object in
    then_wrote c.args.writer.now c.number.new.self c.number-5.new.self (spell_part sizes number c.args.field) method
    c.in_ok-number.ensures
    (then_wrote c.number.new.self c.number-2.new.self c.number-5.new.self (spell_part sizes number c.args.method) object
    c.in_ok-number-2.ensures
    (then_wrote c.number-2.new.self c.number-3.new.self c.number-5.new.self (spell_part sizes number c.args.object)
    class c.in_ok-number-3.ensures
    (then_wrote c.number-3.new.self c.number-4.new.self c.number-5.new.self (spell_part sizes number c.args.class) frame
    c.in_ok-number-4.ensures
    (last_wrote c.number-4.new.self c.number-5.new.self (spell_part sizes number c.args.frame)
    c.in_ok-number-5.ensures))))
