-- What is before the cursor is passed over.
use Rattle.std.proofs.Common.{◌+◌, ◌≤◌, ◌∙◌, sym, length, drop, arith}
use Rattle.std.proofs.lemmas.Result.{IfOk-weaker}
use Rattle.wish_sets.specs.Slots.{is_unset}
use Rattle.wish_sets.proofs.CursorLaws.{none_within, unset_left, unset_passed}
use Rattle.wish_sets.proofs.slot.unset_on.Goals as goal

pub from_place-requires : goal.from_place-requires
from_place-requires c = none_within is_unset c.args.cursor.unset c.args.slots.now c.requires.past.unset

pub unset_in-requires : goal.unset_in-requires
unset_in-requires c =
    let left = unset_left c.args.cursor c.args.slots.now c.requires.past in
    rw c.from_place.ensures (omega (arith, left, c.requires.few))

pub returns-clause-found : goal.returns-clause-found
returns-clause-found c =
    let found = rw c.from_place.ensures at c.unset_in.ensures.found in
    found ∙ sym (unset_passed c.args.cursor.unset 0 c.args.cursor.wished c.args.slots.now c.requires.past.unset
    (omega (arith, c.requires.past.wished)))

pub returns-clause-within : goal.returns-clause-within
returns-clause-within c =
    let left = unset_left c.args.cursor c.args.slots.now c.requires.past in
    let within = rw c.from_place.ensures at c.unset_in.ensures.within in
    IfOk-weaker c.unset_in.result
    (λ behind. behind ≤ c.args.cursor.wished + length (drop c.args.cursor.unset c.args.slots.now))
    (λ behind. behind ≤ length c.args.slots.now) (λ behind less. omega (arith, less, left)) within
