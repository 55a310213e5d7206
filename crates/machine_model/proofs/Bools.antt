-- Tests on two or three Bools: `cond first other false` holds where both do.
use Rattle.std.proofs.Common.{◌≡◌, Bool, true, false, cond, ◌&&◌, ◌||◌, arith}

pub first_holds : (first other : Bool) → cond first other false ≡ true → first ≡ true
first_holds first other is = grind (arith, is)

pub second_holds : (first other : Bool) → cond first other false ≡ true → other ≡ true
second_holds first other is = grind (arith, is)

pub both_hold : (first other : Bool) → cond first other false ≡ true → (first ≡ true) × (other ≡ true)
both_hold first other is = (first_holds first other is, second_holds first other is)

pub second_more : (first was now : Bool) → cond first was false ≡ true → (was ≡ true → now ≡ true)
    → cond first now false ≡ true
second_more first was now is more = grind (arith, is, more)

pub first_fails : (first other : Bool) → cond (cond first false true) other false ≡ true → first ≡ false
first_fails first other is = grind (arith, is)

pub other_fails : (first other : Bool) → first ≡ false → cond first false other ≡ false → other ≡ false
other_fails first other fails is = grind (arith, fails, is)

pub and_first : (first other : Bool) → (first && other) ≡ true → first ≡ true
and_first first other is = grind (arith, is)

pub and_second : (first other : Bool) → (first && other) ≡ true → other ≡ true
and_second first other is = grind (arith, is)

pub or_more : (first was now : Bool) → (first || was) ≡ true → (was ≡ true → now ≡ true) → (first || now) ≡ true
or_more first was now is more = grind (arith, is, more)

pub never : (b : Bool) → cond b false false ≡ false
never b = grind arith

pub always : (b : Bool) → cond b true true ≡ true
always b = grind arith
