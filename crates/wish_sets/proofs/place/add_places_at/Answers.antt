-- The class at the place goes over to those that are done.
use Rattle.std.proofs.Common.{◌++◌, ◌∙◌, suc, drop, ap, sym, append_assoc}
use Rattle.std.specs.Prelude.{flat_map}
use Rattle.wish_sets.specs.Kept.{wanted_by}
use Rattle.wish_sets.specs.Places.{places_in}
use Rattle.wish_sets.proofs.TakenLaws.{drop_one, drop_none}
use Rattle.wish_sets.proofs.place.add_places_at.Goals as goal

pub returns-in_default : goal.returns-in_default
returns-in_default c =
    ap (λ rest. c.args.places.now ++ flat_map (places_in (wanted_by c.args.wants.now)) rest)
    (sym (drop_none c.args.wants.now.classes.entries c.args.at c.in_default.ensures.entry))

pub returns : goal.returns
returns c =
    let those = places_in (wanted_by c.args.wants.now) in
    let rest = drop (suc c.args.at) c.args.wants.now.classes.entries in
    rw (c.in_ok-add_class_places.ensures, c.deref.ensures.value, c.as_slice.ensures)
    (append_assoc c.args.places.now (those (c.in-Some.class.now, c.in-Some.facts.now)) (flat_map those rest)
    ∙ ap (λ all. c.args.places.now ++ flat_map those all)
    (sym (drop_one c.args.wants.now.classes.entries c.args.at (c.in-Some.class.now, c.in-Some.facts.now)
    c.in-Some.ensures.entry)))
