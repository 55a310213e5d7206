use Rattle.std.proofs.Common.{◌∙◌, ap, refl, sym}
use Rattle.std.specs.Char.{is_ascii_digit}
use Rattle.std.specs.List.{list_all}
use Rattle.child_pages.proofs.WriteLaws.{index_some, some_digits}
use Rattle.child_pages.proofs.writes.index_digits.Goals as goal

pub returns-then-are_digits : goal.returns-then-are_digits
returns-then-are_digits c =
    let digits = c.in-Some.digits.now in
    let both = index_some c.args.name.now digits c.in-Some.ensures in
    let some = some_digits digits (sym c.is_empty.ensures ∙ c.if-is_empty.false) in
    let all = ap (λ bytes. list_all is_ascii_digit bytes) (sym c.as_bytes.ensures.value) ∙ sym c.are_digits.ensures
    ∙ c.if-are_digits.true in
    (both.0 ∙ rw (some, all) refl, sym both.1)
