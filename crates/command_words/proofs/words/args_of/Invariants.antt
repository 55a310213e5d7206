use Rattle.std.proofs.Common.{◌≡◌, map, take}
use Rattle.clap.specs.Words.{rule_of}
use Rattle.command_words.specs.Forms.{rule_of_part}
use Rattle.command_words.proofs.words.args_of.Given as goal

abbrev pub invariant-loop-part : goal.invariant-loop-part
invariant-loop-part l = map rule_of l.args.items ≡ map rule_of_part (take l.part-index l.parts)
