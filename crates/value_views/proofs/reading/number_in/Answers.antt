use Rattle.std.proofs.Common.{◌≡◌, true, arith, ap, sym, ◌∙◌, length, nat_lt, nat_le, ◌&&◌}
use Rattle.std.specs.Char.{is_ascii_digit}
use Rattle.std.specs.List.{list_all}
use Rattle.std.specs.Result.{result_ok}
use Rattle.std.proofs.lemmas.Bool.{and_parts, cond-true, ltb-true, leb-true}
use Rattle.std.proofs.lemmas.Str.Parse.{parse_gives, digits_value_short}
use Rattle.value_views.specs.Reads.{is_number}
use Rattle.value_views.proofs.Digits.{own}
use Rattle.value_views.proofs.reading.number_in.Goals as goal

pub returns-then-is_number : goal.returns-then-is_number
returns-then-is_number c =
    let text = c.args.text.now in
    let test : is_number text ≡ true = sym c.is_number.ensures ∙ c.if-is_number.true in
    let parts = and_parts (nat_lt 0 (length text) && nat_le (length text) 20) (list_all is_ascii_digit text) test in
    let len = and_parts (nat_lt 0 (length text)) (nat_le (length text) 20) parts.0 in
    let short = digits_value_short own text 20 parts.1 (leb-true (length text) 20 len.1) in
    let read = parse_gives own 128 text c.parse.result c.parse.ensures.value.0 parts.1
    (ltb-true 0 (length text) len.0) (omega (arith, short)) in
    c.ok.ensures.value ∙ ap (λ r. result_ok r) read ∙ sym (cond-true (is_number text) _ _ test)
