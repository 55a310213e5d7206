use Rattle.std.proofs.Common.{ℕ, List, take, sym, ap₂, ◌∙◌, arith}
use Rattle.std.proofs.lemmas.List.{take_rest}
use Rattle.file_wires.proofs.CourseLaws.{bytes_come, bytes_pass, closed_passes, fits_within}
use Rattle.file_wires.proofs.replaying.give_bytes.Goals.{else-done-bytes-via-then-done-bytes+else-is_open}
use Rattle.file_wires.proofs.replaying.give_bytes.Goals.{else-done-bytes-via-else-done-bytes}
use Rattle.file_wires.proofs.replaying.give_bytes.Goals as goal

pub returns-then-is_open-clause-gives : goal.returns-then-is_open-clause-gives
returns-then-is_open-clause-gives c =
    bytes_come c.args.links c.args.side c.args.bytes.now c.copy_front-n.new.buffer c.args.done c.copy_front-n.result
    (sym c.is_open.ensures ∙ c.if-is_open.true)
    (omega (arith, c.if-done-bytes.true))
    (fits_within _ _ _ _ c.copy_front-n.ensures.count c.copy_front-n.auto.buffer)
    (c.copy_front-n.ensures.front
    ∙ ap₂ (λ (k : ℕ) (bs : List ℕ). take k bs) c.requires (take_rest c.args.bytes.now c.args.done))

pub returns-else-done-bytes-clause-passes : goal.returns-else-done-bytes-clause-passes
returns-else-done-bytes-clause-passes c = elim c.else-done-bytes.branch [
  | else-done-bytes-via-then-done-bytes+else-is_open w ↦
      closed_passes c.args.links c.args.side c.args.bytes.now c.args.done (sym w.is_open.ensures ∙ w.if-is_open.false)
  | else-done-bytes-via-else-done-bytes w ↦
      bytes_pass c.args.links c.args.side c.args.bytes.now c.args.done (omega (arith, w.if-done-bytes.false))
]
