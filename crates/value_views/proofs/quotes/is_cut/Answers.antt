use Rattle.std.proofs.Common.{◌≡◌, ◌∙◌, ℕ, List, length, Option, Some, None, is_some, ltb, sym, ⊎_elim}
use Rattle.std.specs.List.{slice_get}
use Rattle.std.specs.Option.{option_map}
use Rattle.std.specs.Str.{chars}
use Rattle.std.proofs.lemmas.Bool.{cases_lt, lt-ltb, le-ltb}
use Rattle.std.proofs.lemmas.Iterator.{YieldsList-from_chars}
use Rattle.std.proofs.lemmas.Iterator.Consumers.{nth_from_yields_List}
use Rattle.std.proofs.lemmas.Option.{none-some, slice_get-get_or, slice_get_within}
use Rattle.value_views.proofs.quotes.is_cut.Goals as goal

-- an item is found just where the list is longer
found : (xs : List ℕ) (n : ℕ) (o : Option ℕ) → option_map (λ x. x) o ≡ slice_get xs n → is_some o ≡ ltb n (length xs)
found xs n None e =
    ⊎_elim (λ h. absurd (none-some _ (e ∙ slice_get-get_or xs n 0 h))) (λ h. sym (le-ltb n (length xs) h))
    (cases_lt n (length xs))
found xs n (Some c) e = sym (lt-ltb n (length xs) (slice_get_within xs n c (sym e)))

pub returns : goal.returns
returns c =
    let text = c.args.text.now in
    let nth = nth_from_yields_List c.nth.result c.nth.new.self 1000 c.nth.ensures.ran
    (YieldsList-from_chars text c.utf8.text cc) in
    c.is_some.ensures ∙ found (chars text) 1000 c.nth.result nth
