-- a header lies within its bytes, and so does a refused byte
use Rattle.std.proofs.Common.{ap, sym, ◌∙◌, ℕ, List, ◌+◌, ◌≤◌, length, arith}
use Rattle.std.proofs.lemmas.List.{drop-take}
use Rattle.wire_core.specs.Streams.{whole}
use Rattle.dap_frames.proofs.Fronts.{ends-within, refused-within, front-reads, front-refused, front-short, front-whole}
use Rattle.dap_frames.proofs.front.found_by.Goals as goal

pub returns-in-Reads : goal.returns-in-Reads
returns-in-Reads c = front-reads c.args.pending.now c.in-Reads.field-0 (c.requires.says ∙ c.in-Reads.is)

pub returns-in-Refused : goal.returns-in-Refused
returns-in-Refused c = (
  front-refused c.args.pending.now c.in-Refused.fault c.in-Refused.place (c.requires.says ∙ c.in-Refused.is),
  omega (
    arith,
    (refused-within c.args.pending.now c.in-Refused.fault c.in-Refused.place (c.requires.says ∙ c.in-Refused.is)).0,
  ),
)

pub overflow_sub-pending : goal.overflow_sub-pending
overflow_sub-pending c =
    (ends-within c.args.pending.now c.in-Ends.length c.in-Ends.header (c.requires.says ∙ c.in-Ends.is)).1

pub returns-then-pending-header : goal.returns-then-pending-header
returns-then-pending-header c =
    front-short c.args.pending.now c.in-Ends.length c.in-Ends.header (c.requires.says ∙ c.in-Ends.is)
    (omega (
      arith,
      (ends-within c.args.pending.now c.in-Ends.length c.in-Ends.header (c.requires.says ∙ c.in-Ends.is)).1,
    ))

pub returns-else-pending-header : goal.returns-else-pending-header
returns-else-pending-header c =
    let within : c.in-Ends.header ≤ length c.args.pending.now =
    (ends-within c.args.pending.now c.in-Ends.length c.in-Ends.header (c.requires.says ∙ c.in-Ends.is)).1 in
    let long : c.in-Ends.header + c.in-Ends.length ≤ length c.args.pending.now = omega arith in (
      front-whole c.args.pending.now c.in-Ends.length c.in-Ends.header (c.requires.says ∙ c.in-Ends.is) long
          ∙ ap (λ (b : List ℕ). whole (record { header = c.in-Ends.header; body = b })
          (c.in-Ends.header + c.in-Ends.length))
          (sym (drop-take c.in-Ends.header c.in-Ends.length c.args.pending.now)),
      omega arith,
      long,
    )
