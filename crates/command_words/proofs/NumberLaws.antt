-- Numbers of scripts are from 1 to 1,000; and some texts, each with the number that it is.
use Rattle.std.proofs.Common.{◌≡◌, ◌≤◌, ◌+◌, ◌-◌, ◌*◌, ℕ, zero, suc, Bool, true, false, nat_le, if◌then◌else◌, List, [], ◌∷◌}
use Rattle.std.proofs.Common.{codes, length, ap, arith, refl, subst, Option, Some, None, unwrap_or, ne_eqb}
use Rattle.std.proofs.lemmas.Bool.{leb-true}
use Rattle.std.specs.Option.{option_and_then}
use Rattle.command_words.specs.Numbers.{digit_behind, if_some, number_behind, number_in}
use Rattle.command_words.specs.Words.{Names}
use Rattle.command_words.specs.declared.words.ScriptNumber.{ScriptNumber}
use Rattle.command_words.specs.declared.words.Task.TheVariants.{Generate}

-- the value in an option that has one
same_value : {m n : ℕ} → Some m ≡ Some n → m ≡ n
same_value is = ap (λ option. unwrap_or option 0) is

-- what is chosen by two tests, where it is a number
few_chosen : (digit few : Bool) (m n : ℕ) → nat_le m 1000 ≡ few
    → (if digit then (if few then Some m else None) else None) ≡ Some n → n ≤ 1000
few_chosen true true m n le is = subst (λ k. k ≤ 1000) (same_value is) (leb-true m 1000 le)
few_chosen true false m n le is = absurd cc
few_chosen false few m n le is = absurd cc

few_behind : (text : List ℕ) (m n : ℕ) → m ≤ 1000 → number_behind m text ≡ Some n → n ≤ 1000
few_behind [] m n few is = subst (λ k. k ≤ 1000) (same_value is) few
few_behind (byte ∷ bytes) m n few is =
    go (digit_behind m byte) (λ k found. few_chosen _ _ (m * 10 + (byte - 48)) k refl found)
    (few_behind bytes) is
  where
    go : (next : Option ℕ) → ((k : ℕ) → next ≡ Some k → k ≤ 1000)
        → ((k n : ℕ) → k ≤ 1000 → number_behind k bytes ≡ Some n → n ≤ 1000)
        → option_and_then (λ k. number_behind k bytes) next ≡ Some n → n ≤ 1000
    go None few rest is = absurd cc
    go (Some k) few rest is = rest k n (few k refl) is

-- a number that is one
some_is : (m n : ℕ) → m ≤ 1000 → if_some m ≡ Some n → (1 ≤ n) × (n ≤ 1000)
some_is zero n few is = absurd cc
some_is (suc m) n few is =
    let some = ne_eqb (suc m) 0 (λ none. omega (arith, none)) in
    subst (λ k. (1 ≤ k) × (k ≤ 1000)) (same_value (rw some at is)) (omega arith, few)

-- numbers that are read are from 1 to 1,000
read_few : (text : List ℕ) (n : ℕ) → number_in text ≡ Some n → (1 ≤ n) × (n ≤ 1000)
unfolding number_in
read_few text n is = go (nat_le (length text) 4) (number_behind 0 text) (λ k. few_behind text 0 k (omega arith)) is
  where
    go : (short : Bool) (number : Option ℕ) → ((k : ℕ) → number ≡ Some k → k ≤ 1000)
        → (if short then option_and_then if_some number else None) ≡ Some n → (1 ≤ n) × (n ≤ 1000)
    go true (Some k) few is = some_is k n (few k refl) is
    go true None few is = absurd cc
    go false number few is = absurd cc

-- the number that words name is from 1 to 1,000
pub named_few : (words : List (List ℕ)) (number : ScriptNumber) (file : List ℕ) → Names words (Generate number file)
    → (1 ≤ number.number) × (number.number ≤ 1000)
named_few [] number file names = absurd names
named_few (name ∷ words) number file (found, says) = read_few number.digits number.number says.task_is.number

-- Texts, each with its number ----------------------------------------------------------------------------------------

least : number_in (codes "1") ≡ Some 1
unfolding number_in
least = refl

with_zeros_in_front : number_in (codes "0001") ≡ Some 1
unfolding number_in
with_zeros_in_front = refl

greatest : number_in (codes "1000") ≡ Some 1000
unfolding number_in
greatest = refl

too_great : number_in (codes "1001") ≡ None
unfolding number_in
too_great = refl

too_long : number_in (codes "00001") ≡ None
unfolding number_in
too_long = refl

no_script : number_in (codes "0") ≡ None
unfolding number_in
no_script = refl

no_digits : number_in [] ≡ None
unfolding number_in
no_digits = refl

with_a_sign : number_in (codes "+1") ≡ None
unfolding number_in
with_a_sign = refl
