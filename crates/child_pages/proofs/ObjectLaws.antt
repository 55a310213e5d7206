-- The fields of an object.
use Rattle.std.proofs.Common.{◌≡◌, ℕ, ap, sym, ◌∙◌}
use Rattle.machine_model.specs.Children.{chain_fields, fields_named, object_fields}
use Rattle.machine_model.specs.Plans.{Sight, after, chained, need}
use Rattle.machine_model.specs.Values.{class_plan}
use Rattle.machine_model.proofs.PlanIds.{after_like, need_chained}
use Rattle.child_pages.proofs.NeedLaws.{after_after}

-- what is heard of its class decides
pub object_need : (sight : Sight) (id : ℕ)
    → need sight (object_fields id)
    ≡ after (need sight (class_plan id)) (λ class. need sight (chained (chain_fields class) fields_named))
object_need sight id =
    need_chained sight (chained (class_plan id) chain_fields) fields_named
    ∙ ap (λ n. after n (λ classes. need sight (fields_named classes)))
    (need_chained sight (class_plan id) chain_fields)
    ∙ sym (after_after (need sight (class_plan id)) (λ class. need sight (chain_fields class))
    (λ classes. need sight (fields_named classes)))
    ∙ after_like (need sight (class_plan id)) _ _
    (λ class. sym (need_chained sight (chain_fields class) fields_named))
