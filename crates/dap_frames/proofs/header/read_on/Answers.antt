-- a header lies within its bytes, whose number fits, and so does a refused byte
use Rattle.std.proofs.Common.{sym, arith}
use Rattle.dap_frames.proofs.Heads.{head-within, head-refused}
use Rattle.dap_frames.proofs.header.read_on.Goals as goal

pub overflow_add-result : goal.overflow_add-result
overflow_add-result c =
    omega (
      arith,
      head-within c.in-Reads.reading c.args.bytes.now c.in-Ends-head_of.length c.in-Ends-head_of.header
          (sym c.in-Ends-head_of.ensures),
    )

pub overflow_add-result-in-Refused-head_of : goal.overflow_add-result-in-Refused-head_of
overflow_add-result-in-Refused-head_of c =
    omega (
      arith,
      head-refused c.in-Reads.reading c.args.bytes.now c.in-Refused-head_of.fault c.in-Refused-head_of.place
          (sym c.in-Refused-head_of.ensures),
    )
