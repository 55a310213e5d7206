use Rattle.std.proofs.Common.{arith}
use Rattle.jdwp_packets.specs.Packets.{handshake}
use Rattle.jdwp_packets.proofs.Greetings.{goes, differs, unfinished}
use Rattle.jdwp_packets.proofs.front.greeting.Goals as goal

pub returns-then-i-bytes : goal.returns-then-i-bytes
returns-then-i-bytes c =
    unfinished handshake c.args.bytes.now c.loop-i.i c.loop-i.invariant.0 c.loop-i-test.true c.if-i-bytes.true

pub returns-then-bytes-i : goal.returns-then-bytes-i
returns-then-bytes-i c = (
  differs handshake c.args.bytes.now c.loop-i.i c.loop-i.invariant.0 c.loop-i-test.true c.if-i-bytes.false
      c.if-bytes-i.true,
  omega arith,
)

pub loop-i-preserved : goal.loop-i-preserved
loop-i-preserved c = (
  goes handshake c.args.bytes.now c.loop-i.i c.loop-i.invariant.0 c.loop-i-test.true c.if-i-bytes.false
      c.if-bytes-i.false,
  omega arith,
)
