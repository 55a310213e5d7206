-- What stands behind a sign, by the words of the kit.
use Rattle.std.proofs.Common.{◌≡◌, ◌≢◌, ℕ, Bool, List, [], ◌∷◌, ◌++◌, sym, ap, ◌∙◌, refl}
use Rattle.std.proofs.Common.{Option, Some, None}
use Rattle.std.specs.Borrow.{Bor}
use Rattle.std.specs.Option.{MatchOption}
use Rattle.std.specs.Str.Pattern.{FindsTextPrefix, StripsPrefix}
use Rattle.std.specs.Prelude.{if◌then◌else◌}
use Rattle.std.proofs.lemmas.Bool.{eq-eqb}
use Rattle.break_rules.specs.Fronts.{IsBehind}
use Rattle.break_rules.specs.Parsing.{behind_sign}
use Rattle.break_rules.proofs.SignLaws.{behind_from}

behind_is : (sign rest : List ℕ) → behind_sign sign (sign ++ rest) ≡ Some rest
behind_is [] rest = refl
behind_is (byte ∷ sign) rest =
    ap (λ (b : Bool). if b then behind_sign sign (sign ++ rest) else None) (eq-eqb byte byte refl) ∙ behind_is sign rest

behind_none : (sign text : List ℕ) → ((rest : List ℕ) → text ≢ sign ++ rest) → behind_sign sign text ≡ None
behind_none sign text lacks = by (behind_sign sign text) refl
  where
    by : (found : Option (List ℕ)) → behind_sign sign text ≡ found → found ≡ None
    by None e = refl
    by (Some rest) e = absurd (lacks rest (behind_from sign text rest e))

pub is_behind : (sign text : List ℕ) (found : Option (Bor (List ℕ)))
    → MatchOption found (FindsTextPrefix sign text None) (λ x. StripsPrefix (FindsTextPrefix sign) text x.now)
    → IsBehind sign text found
is_behind sign text None lacks = sym (behind_none sign text lacks)
is_behind sign text (Some x) strips =
    let at = strips.1 in
    let whole = at.1 ∙ ap (λ (l : List ℕ). sign ++ l) (sym strips.2) in
    sym (ap (λ (l : List ℕ). behind_sign sign l) whole ∙ behind_is sign x.now)
