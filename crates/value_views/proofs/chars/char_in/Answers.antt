use Rattle.std.proofs.Common.{◌∙◌, sym, ap}
use Rattle.value_views.specs.Chars.{unquoted}
use Rattle.value_views.proofs.CharLaws.{some_char, no_char}
use Rattle.value_views.proofs.chars.char_in.Goals as goal

pub returns-in-Some : goal.returns-in-Some
returns-in-Some c =
    c.unquoted.ensures ∙ ap unquoted c.as_bytes.ensures.value
    ∙ sym (some_char c.args.text.now c.in-Some.inside.now c.in-Some.ensures)

pub returns-in-None : goal.returns-in-None
returns-in-None c = sym (no_char c.args.text.now c.in-None.ensures)
