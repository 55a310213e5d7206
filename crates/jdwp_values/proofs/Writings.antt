-- What writing calls added, one after the other.
use Rattle.std.proofs.Common.{◌≡◌, ℕ, List, [], ◌++◌, sym, ap, ◌∙◌, append_assoc}
use Rattle.std.proofs.lemmas.List.{append-nil}
use Rattle.jdwp_values.specs.Spelling.{Written}

pub then_wrote : (old middle new : Written) (a b : List ℕ) → middle ≡ record old { bytes = old.bytes ++ a }
    → new ≡ record middle { bytes = middle.bytes ++ b } → new ≡ record old { bytes = old.bytes ++ (a ++ b) }
then_wrote old middle new a b first second =
    second ∙ ap (λ (w : Written). record w { bytes = w.bytes ++ b }) first ∙ ap
    (λ (t : List ℕ). record old { bytes = t }) (append_assoc old.bytes a b)

pub last_wrote : (old new : Written) (a : List ℕ) → new ≡ record old { bytes = old.bytes ++ a }
    → new ≡ record old { bytes = old.bytes ++ (a ++ []) }
last_wrote old new a wrote = wrote ∙ ap (λ (t : List ℕ). record old { bytes = old.bytes ++ t }) (sym (append-nil a))
