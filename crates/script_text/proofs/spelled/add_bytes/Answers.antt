use Rattle.std.proofs.Common.{ℕ, List, ◌++◌, ap, ◌∙◌, arith}
use Rattle.script_text.proofs.SpelledLaws.{spelled_line}
use Rattle.script_text.proofs.spelled.add_bytes.Goals as goal

pub returns : goal.returns
returns c =
    spelled_line c.args.way c.args.side c.args.bytes.now _ _ _ _
    (λ i. let f = c.type_inv.bytes i in omega arith)
    (c.in_ok-extend_from_slice.ensures.ok
    ∙ ap (λ (text : List ℕ). c.args.text.now ++ text) (c.as_bytes.ensures.value ∙ c.start_of.ensures))
    (c.in_ok-extend_from_slice-2.ensures.ok
    ∙ ap
    (λ (text : List ℕ). c.extend_from_slice.new.self ++ text)
    (c.as_bytes-2.ensures.value ∙ c.in_ok-digits.ensures))
    c.in_ok-extend_from_slice-3.ensures.ok
