use Rattle.std.proofs.Common.{◌+◌, ◌*◌, ◌<◌, ◌≤◌, get_or, arith, refl}
use Rattle.std.proofs.lemmas.Int.Digits.{number_more}
use Rattle.jdwp_values.proofs.Numbers.{below_more, fits_64}
use Rattle.jdwp_values.proofs.parts.big_endian.Goals as goal

pub overflow_mul-number : goal.overflow_mul-number
overflow_mul-number c =
    let more = below_more c.loop-byte.number c.loop-byte.byte-index 0 c.loop-byte.invariant.1 (omega arith) in
    let few : c.loop-byte.byte-index + 1 ≤ 8 = omega arith in
    let top = fits_64 (c.loop-byte.number * 256 + 0) (c.loop-byte.byte-index + 1) more few in
    omega (arith, top)

pub overflow_add-number : goal.overflow_add-number
overflow_add-number c =
    let b = get_or c.args.bytes.now c.loop-byte.byte-index 0 in
    let small : b < 256 = omega (arith, c.type_inv.bytes c.loop-byte.byte-index) in
    let more = below_more c.loop-byte.number c.loop-byte.byte-index b c.loop-byte.invariant.1 small in
    let few : c.loop-byte.byte-index + 1 ≤ 8 = omega arith in
    omega (arith, fits_64 (c.loop-byte.number * 256 + b) (c.loop-byte.byte-index + 1) more few)

pub loop-byte-preserved : goal.loop-byte-preserved
loop-byte-preserved c =
    let i = c.loop-byte.byte-index in
    let b = get_or c.args.bytes.now i 0 in
    let small : b < 256 = omega (arith, c.type_inv.bytes i) in
    let more = below_more c.loop-byte.number i b c.loop-byte.invariant.1 small in
    rw c.from.ensures
    (rw (number_more 256 c.args.bytes.now i c.loop-byte-test.true, ← c.loop-byte.invariant.0) refl, more)
