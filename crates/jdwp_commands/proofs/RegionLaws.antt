-- A region of an array is read and spelled in one way.
use Rattle.std.proofs.Common.{◌≡◌, ℕ, Bool, true, false, List, ◌++◌, length, Some, Ok, refl, ap, subst, ◌∙◌}
use Rattle.std.proofs.Common.{append_assoc, ◌==◌}
use Rattle.std.specs.List.{AllByRecursion}
use Rattle.std.specs.Int.{bytes_high_first}
use Rattle.std.proofs.lemmas.Bool.{eqb-true}
use Rattle.jdwp_values.specs.declared.fault.RowFault.{RowFault}
use Rattle.jdwp_values.specs.declared.limit.Limit.{Limit}
use Rattle.jdwp_values.specs.declared.tag.Tag.{Tag}
use Rattle.jdwp_values.specs.Bytes.{IsBytes}
use Rattle.jdwp_values.specs.Counts.{allows}
use Rattle.jdwp_values.specs.Parts.{Part, reference, untagged}
use Rattle.jdwp_values.specs.Reading.{Place, behind, part_at}
use Rattle.jdwp_values.specs.Rows.{◌>>=◌, in_row, list_at, spell_list, FitsList}
use Rattle.jdwp_values.specs.Spelling.{spell_part, FitsPart, InRangePart, Ends}
use Rattle.jdwp_values.specs.Tags.{byte_of_tag, is_reference}
use Rattle.jdwp_values.proofs.PartLaws.{found_passes}
use Rattle.jdwp_values.proofs.PartLaws.{tag_small}
use Rattle.jdwp_values.proofs.RowLaws.{bind_ok, bind_is, ok_is, in_row_ok, TakesPlace, TakesPlace-then, part_at_takes}
use Rattle.jdwp_values.proofs.RowLaws.{part_at_again, IsFormat, list_format}
use Rattle.jdwp_commands.specs.declared.region.Region.{Region}
use Rattle.jdwp_commands.specs.Regions.{region_tags, region_tag_of, meaning_at, value_behind, element_at, region_at}
use Rattle.jdwp_commands.specs.Regions.{spell_behind, spell_element, spell_region, FitsBehind, FitsElement, FitsRegion}
use Rattle.jdwp_commands.specs.Regions.{InRangeRegion}
use Rattle.jdwp_commands.proofs.MeaningLaws.{meaning_takes, meaning_again}

-- a part that may stand before others
pub one_format : (p : Part) → ((rest : List ℕ) → Ends p rest)
    → IsFormat (λ place. in_row (part_at p place)) (λ sizes x. spell_part sizes p x) (λ sizes x. FitsPart sizes p x)
    (λ x. InRangePart p x)
one_format p ends = record {
  takes = λ place x fits e. part_at_takes p place x fits (in_row_ok (part_at p place) x e);
  again = λ place x rest fits range e. ap in_row (part_at_again p place x rest fits range (ends rest) e);
}

behind_format : (b : Bool) (tag : Tag)
    → IsFormat (value_behind b tag) (spell_behind b tag) (FitsBehind b tag) (InRangePart reference)
behind_format true tag = one_format reference (λ rest. tt)
behind_format false tag = one_format (untagged (byte_of_tag tag)) (λ rest. tt)

values_format : (tag : Tag) (limit : Limit)
    → IsFormat (list_at limit (element_at tag)) (λ sizes xs. spell_list (spell_element tag sizes) xs)
    (λ sizes xs. FitsList (FitsElement tag sizes) xs × (allows limit (length xs) ≡ true))
    (λ xs. AllByRecursion (InRangePart reference) xs)
values_format tag limit =
    list_format (element_at tag) (spell_element tag) (FitsElement tag) (InRangePart reference)
    (behind_format (is_reference tag) tag) limit

region_back : (n : ℕ) (tag : Tag) → region_tag_of n ≡ Some tag → byte_of_tag tag ≡ n
region_back n tag e = eqb-true _ _ (found_passes (λ t. byte_of_tag t == n) region_tags tag e)

region_takes : (limit : Limit) (place : Place) (x : Region × Place) → IsBytes place.rest → region_at limit place ≡ Ok x
    → TakesPlace place (spell_region place.sizes x.0) x.1 × FitsRegion limit place.sizes x.0
unfolding region_at
region_takes limit place x fits e =
    let a = bind_ok (meaning_at region_tag_of place)
    (λ tag. list_at limit (element_at tag.0) tag.1 >>= λ values. Ok
    (record { tag = tag.0; values = values.0 }, values.1)) x e in
    let tag = a.0.0 in
    let m = meaning_takes byte_of_tag region_tag_of region_back place a.0 fits a.1 in
    let t = m.0 in
    let next = behind place t.rest in
    let l =
    bind_ok (list_at limit (element_at tag) a.0.1)
    (λ values. Ok (record { tag = tag; values = values.0 }, values.1)) x a.2 in
    let l' : list_at limit (element_at tag) next ≡ Ok l.0 =
    subst (λ (z : Place). list_at limit (element_at tag) z ≡ Ok l.0) t.new_is l.1 in
    let items = (values_format tag limit).takes next l.0 t.takes.rest_fits l' in
    let first : TakesPlace place (bytes_high_first 1 (byte_of_tag tag)) next =
    record { rest = t.rest; new_is = refl; takes = t.takes } in
    let whole = TakesPlace-then place (bytes_high_first 1 (byte_of_tag tag)) next
    (spell_list (spell_element tag place.sizes) l.0.0) l.0.1 first items.0 in
    let here : Region × Place = (record { tag = tag; values = l.0.0 }, l.0.1) in
    subst (λ (y : Region × Place). TakesPlace place (spell_region place.sizes y.0) y.1
    × FitsRegion limit place.sizes y.0) (ok_is {E = RowFault} here x l.2)
    (whole, record { tag = m.1; values = items.1.0; count = items.1.1 })

region_again : (limit : Limit) (place : Place) (x : Region) (rest : List ℕ) → FitsRegion limit place.sizes x
    → InRangeRegion x → place.rest ≡ spell_region place.sizes x ++ rest
    → region_at limit place ≡ Ok (x, behind place rest)
unfolding region_at
region_again limit place x rest fits range e =
    let text = spell_list (spell_element x.tag place.sizes) x.values in
    let more = text ++ rest in
    let next = behind place more in
    let one = meaning_again byte_of_tag region_tag_of place x.tag more fits.tag (tag_small x.tag)
    (e ∙ append_assoc (bytes_high_first 1 (byte_of_tag x.tag)) text rest) in
    let others = (values_format x.tag limit).again next x.values rest (fits.values, fits.count) range refl in
    bind_is (meaning_at region_tag_of place)
    (λ tag. list_at limit (element_at tag.0) tag.1 >>= λ values. Ok
    (record { tag = tag.0; values = values.0 }, values.1)) (x.tag, next) one
    ∙ bind_is (list_at limit (element_at x.tag) next)
    (λ values. Ok (record { tag = x.tag; values = values.0 }, values.1)) (x.values, behind place rest) others

pub region_format : (limit : Limit) → IsFormat (region_at limit) spell_region (FitsRegion limit) InRangeRegion
region_format limit = record { takes = region_takes limit; again = region_again limit }
