-- What is heard of a fact.
use Rattle.std.proofs.Common.{◌≡◌, Option, None, ap, ◌∙◌, sym}
use Rattle.machine_model.specs.Facts.{fact_known}
use Rattle.machine_model.specs.Names.{Answer, Question}
use Rattle.machine_model.specs.declared.acts.Want.{Want}
use Rattle.machine_model.specs.Plans.{Sight, after, asking, fact_heard, fact_replied, found_from, has, need}

-- what is read off a fact that wasn't learnt, by the reply
pub fact_asked : {A : Type 0} (sight : Sight) (question : Question) (read : Option Answer → A) (heard : Option Answer)
    → fact_known sight.classes question ≡ None
    → has heard ≡ fact_replied question (found_from 0 sight.asked question)
    → has (read heard) ≡ need sight (asking read (Want.Fact question))
unfolding need
fact_asked sight question read heard none is =
    ap (λ n. after n (λ heard. has (read heard))) is
    ∙ sym (ap (λ known. after (fact_heard question known (found_from 0 sight.asked question))
    (λ heard. has (read heard))) none)
