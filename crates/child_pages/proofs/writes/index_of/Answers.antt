use Rattle.std.proofs.Common.{◌≡◌, ◌≤◌, ◌<◌, ◌^◌, ℕ, List, MatchOption, arith, length, sym, subst}
use Rattle.std.specs.Result.{OkIff, result_ok}
use Rattle.std.specs.Prelude.{Result, Ok, Err}
use Rattle.std.specs.Str.Parse.{digits_value}
use Rattle.std.proofs.lemmas.Str.Parse.{parse_digits}
use Rattle.child_pages.proofs.WriteLaws.{own}
use Rattle.child_pages.proofs.writes.index_of.Goals as goal

number_in : {E : Type 0} (digits : List ℕ) (r : Result ℕ E) → 0 < length digits
    → OkIff r ((0 < length digits) × (digits_value 10 digits < 2 ^ 32)) (digits_value 10 digits)
    → MatchOption (result_ok r) (2 ^ 32 ≤ digits_value 10 digits) (λ index. index ≡ digits_value 10 digits)
number_in digits (Ok n) some is = is.1
number_in digits (Err e) some is = by_contradiction is
  where
    by_contradiction : (((0 < length digits) × (digits_value 10 digits < 2 ^ 32)) → ⊥) → 2 ^ 32 ≤ digits_value 10 digits
    by_contradiction none = omega (arith, λ (less : digits_value 10 digits < 2 ^ 32). none (some, less))

pub returns : goal.returns
returns c =
    let digits = c.args.digits.now in
    let read = parse_digits own 32 digits c.parse.result c.parse.ensures.value.0 c.requires.1 in
    subst (λ index. MatchOption index (2 ^ 32 ≤ digits_value 10 digits) (λ index. index ≡ digits_value 10 digits))
    (sym c.ok.ensures.value) (number_in digits c.parse.result c.requires.0 read)
