-- What a reader of parts answers, by what it found of the next element; and what an array is, by how many it has.
use Rattle.std.proofs.Common.{◌≡◌, ◌≤◌, Bool, true, false, List, [], ◌∷◌, length, Option, Some, None, Result, Ok, Err}
use Rattle.std.proofs.Common.{option_map, option_and_then, ok_or, refl, sym, subst, ap, ◌∙◌, arith}
use Rattle.serde_json.specs.Data.{Data, Items}
use Rattle.serde_json.specs.View.{items_view}
use Rattle.serde_json.specs.declared.value.Value.{Value}
use Rattle.line_elements.specs.declared.elements.LineFault.{LineFault}
use Rattle.line_elements.specs.declared.elements.LineFault.TheVariants.{BadShape}
use Rattle.line_elements.specs.Parts.{Part, Of, part_of, first_of, part_at, is_end, Tells}
use Rattle.line_elements.specs.Values.{two_of}

-- ---- the next element

pub part_at_none : (p : Part) (items : Items) → first_of items ≡ None → part_at p items ≡ None
unfolding part_at
part_at_none p items e = ap (option_and_then (λ x. option_map (λ v. (v, x.1)) (part_of p x.0))) e

part_at_some : (p : Part) (old new : Items) (d : Data) (found : Option (Of p)) → first_of old ≡ Some (d, new) →
    found ≡ part_of p d → part_at p old ≡ option_map (λ (v : Of p). (v, new)) found
unfolding part_at
part_at_some p old new d found first is =
    ap (option_and_then (λ x. option_map (λ v. (v, x.1)) (part_of p x.0))) first
    ∙ ap (option_map (λ (v : Of p). (v, new))) (sym is)

tells_found : (p : Part) (old new : Items) (d : Data) (found : Option (Of p)) → first_of old ≡ Some (d, new) →
    found ≡ part_of p d → Tells (λ x. x) (part_at p old) new (ok_or found BadShape)
tells_found p old new d (Some x) first is = part_at_some p old new d (Some x) first is
tells_found p old new d None first is = part_at_some p old new d None first is

pub tells_part : (p : Part) (old new : Items) (d : Data) (found : Option (Of p)) (result : Result (Of p) LineFault) →
    result ≡ ok_or found BadShape → first_of old ≡ Some (d, new) → found ≡ part_of p d →
    Tells (λ x. x) (part_at p old) new result
tells_part p old new d found result e first is =
    subst (λ (r : Result (Of p) LineFault). Tells (λ x. x) (part_at p old) new r) (sym e)
    (tells_found p old new d found first is)

-- ---- by length

pub end_of_none : (values : List Value) → length values ≡ 0 → is_end (items_view values) ≡ true
end_of_none [] none = refl
end_of_none (a ∷ values) none = absurd (omega arith)

pub end_of_some : (values : List Value) → 1 ≤ length values → is_end (items_view values) ≡ false
end_of_some [] some = absurd (omega arith)
end_of_some (a ∷ values) some = refl

pub two_of_one : (values : List Value) → length values ≡ 1 → two_of (items_view values) ≡ None
two_of_one [] one = absurd (omega arith)
two_of_one (a ∷ []) one = refl
two_of_one (a ∷ b ∷ values) one = absurd (omega arith)

pub two_of_many : (values : List Value) → 3 ≤ length values → two_of (items_view values) ≡ None
two_of_many [] many = absurd (omega arith)
two_of_many (a ∷ []) many = absurd (omega arith)
two_of_many (a ∷ b ∷ []) many = absurd (omega arith)
two_of_many (a ∷ b ∷ c ∷ values) many = refl
