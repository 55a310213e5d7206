-- The class at the place goes over to those that are done.
use Rattle.std.proofs.Common.{◌++◌, ◌∙◌, suc, drop, ap, sym, append_assoc}
use Rattle.std.specs.Prelude.{flat_map}
use Rattle.wish_sets.specs.Counts.{function_places_in}
use Rattle.wish_sets.proofs.TakenLaws.{drop_one, drop_none}
use Rattle.wish_sets.proofs.place.add_functions_places_at.Goals as goal

pub returns-in_default : goal.returns-in_default
returns-in_default c =
    ap (λ rest. c.args.places.now ++ flat_map (function_places_in c.args.functions.now) rest)
    (sym (drop_none c.args.classes.now.entries c.args.at c.in_default.ensures.entry))

pub returns : goal.returns
returns c =
    let those = function_places_in c.args.functions.now in
    let rest = drop (suc c.args.at) c.args.classes.now.entries in
    rw c.in_ok-add_functions_places_in.ensures
    (append_assoc c.args.places.now (those (c.in-Some.class.now, c.in-Some.facts.now)) (flat_map those rest)
    ∙ ap (λ all. c.args.places.now ++ flat_map those all)
    (sym (drop_one c.args.classes.now.entries c.args.at (c.in-Some.class.now, c.in-Some.facts.now)
    c.in-Some.ensures.entry)))
