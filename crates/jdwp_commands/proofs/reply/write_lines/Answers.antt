use Rattle.std.proofs.Common.{[], ◌++◌, rules}
use Rattle.jdwp_values.specs.Classes.{line_row}
use Rattle.jdwp_values.specs.Parts.{long}
use Rattle.jdwp_values.specs.Rows.{spell_by, spell_list}
use Rattle.jdwp_values.specs.Spelling.{spell_part}
use Rattle.jdwp_values.proofs.Writings.{then_wrote, last_wrote}
use Rattle.jdwp_commands.proofs.reply.write_lines.Goals as goal

pub returns : goal.returns
returns c =
    let sizes = c.args.writer.now.sizes in
    let x = c.args.table.now in
    let lines = spell_list (spell_by line_row sizes) x.lines ++ [] in
    let end = spell_part sizes long x.end ++ lines in
    then_wrote c.args.writer.now c.long.new.self c.write_list.new.writer (spell_part sizes long x.start) end
    (search rules)
    (then_wrote c.long.new.self c.long-2.new.self c.write_list.new.writer (spell_part sizes long x.end) lines
    (search rules)
    (last_wrote c.long-2.new.self c.write_list.new.writer (spell_list (spell_by line_row sizes) x.lines)
    (search rules)))
