use Rattle.std.proofs.Common.{ap, sym, ◌∙◌, length, string_bytes}
use Rattle.std.proofs.lemmas.Bool.{eqb-true}
use Rattle.jdwp_values.specs.Lossy.{lossy}
use Rattle.jdwp_values.proofs.LossyLaws.{replaced, at_end, last_text}
use Rattle.jdwp_values.proofs.shown.lossy.Goals as goal
use Rattle.jdwp_values.proofs.shown.lossy.Goals.{else-loop-rest-test, then-loop-rest-test+in_ok-push_str+in_default}

pub loop-rest-preserved : goal.loop-rest-preserved
loop-rest-preserved c =
    let front = c.text_at_front in
    replaced (string_bytes c.loop-rest.shown) (string_bytes c.push_str.new.self) (string_bytes c.push.new.self)
    front.result.0.now front.result.1.now
    c.loop-rest.rest.now (lossy c.args.bytes.now) c.in_ok-push_str.ensures.bytes c.in_ok-push.ensures.bytes
    front.ensures.parts front.ensures.text front.ensures.behind c.in-len1-up.len_at_least c.loop-rest.invariant

pub returns : goal.returns
returns c = c.from_string.ensures ∙ elim c.loop-rest-test.branch [
  | else-loop-rest-test w ↦
      ap (λ s. string_bytes s) w.shown-is ∙ at_end (string_bytes c.loop-rest.shown) c.loop-rest.rest.now
      (lossy c.args.bytes.now)
      (eqb-true (length c.loop-rest.rest.now) 0 (sym c.is_empty.ensures ∙ w.loop-rest-test.false)) c.loop-rest.invariant
  | then-loop-rest-test+in_ok-push_str+in_default w ↦ ap (λ s. string_bytes s) w.shown-is
      ∙ last_text (string_bytes c.loop-rest.shown) (string_bytes w.push_str.new.self) w.text_at_front.result.0.now
      w.text_at_front.result.1.now
      c.loop-rest.rest.now (lossy c.args.bytes.now) w.in_ok-push_str.ensures.bytes
      w.text_at_front.ensures.parts w.text_at_front.ensures.text w.in_default.len_below c.loop-rest.invariant
]
