-- What is before the cursor is passed over.
use Rattle.std.proofs.Common.{◌+◌, ◌≤◌, ◌∙◌, sym, length, drop, arith}
use Rattle.std.proofs.lemmas.Result.{IfOk-weaker}
use Rattle.wish_sets.specs.Slots.{is_late}
use Rattle.wish_sets.proofs.CursorLaws.{none_within, late_left, late_passed}
use Rattle.wish_sets.proofs.slot.late_on.Goals as goal

pub from_place-requires : goal.from_place-requires
from_place-requires c = none_within is_late c.args.cursor.late c.args.slots.now c.requires.past.late

pub late_in-requires : goal.late_in-requires
late_in-requires c =
    let left = late_left c.args.cursor c.args.slots.now c.requires.past in
    rw c.from_place.ensures (omega (arith, left, c.requires.few))

pub returns-clause-found : goal.returns-clause-found
returns-clause-found c =
    let found = rw c.from_place.ensures at c.late_in.ensures.found in
    found ∙ sym (late_passed c.args.cursor.late 0 c.args.cursor.installed c.args.slots.now c.requires.past.late
    (omega (arith, c.requires.past.installed)))

pub returns-clause-within : goal.returns-clause-within
returns-clause-within c =
    let left = late_left c.args.cursor c.args.slots.now c.requires.past in
    let within = rw c.from_place.ensures at c.late_in.ensures.within in
    IfOk-weaker c.late_in.result
    (λ behind. behind ≤ c.args.cursor.installed + length (drop c.args.cursor.late c.args.slots.now))
    (λ behind. behind ≤ length c.args.slots.now) (λ behind less. omega (arith, less, left)) within
