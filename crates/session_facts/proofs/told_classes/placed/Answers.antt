use Rattle.std.proofs.Common.{◌≡◌, ◌∙◌, ◌||◌, List, Some, None, sym}
use Rattle.class_tables.specs.Facts.{same_class}
use Rattle.class_tables.specs.Lookups.{found_in}
use Rattle.class_tables.specs.Views.{nth_in}
use Rattle.jdwp_values.specs.declared.id.ClassId.{ClassId}
use Rattle.session_facts.specs.OpenClasses.{has_class, kept_by}
use Rattle.session_facts.proofs.WalkLaws.{ended, moved}
use Rattle.session_facts.proofs.told_classes.placed.Goals as goal

pub loop-other-preserved : goal.loop-other-preserved
loop-other-preserved c =
    let known = found_in c.args.classes.now in
    let those : ClassId → List ClassId =
    λ other. kept_by (same_class c.args.class other || has_class c.args.left.now other) other in
    let is : nth_in known c.loop-other.place ≡ Some c.in-Some.other = sym c.nth.ensures ∙ c.in-Some.is in
    moved those known.order c.loop-other.place c.in_ok-place.place c.in-Some.other c.loop-other.those
    c.add_placed.new.those is c.in_ok-place.ensures c.in_ok-add_placed.ensures c.loop-other.invariant

pub returns : goal.returns
returns c =
    let known = found_in c.args.classes.now in
    let those : ClassId → List ClassId =
    λ other. kept_by (same_class c.args.class other || has_class c.args.left.now other) other in
    let is : nth_in known c.loop-other.place ≡ None = sym c.nth.ensures ∙ c.in_default.is in
    ended those known.order c.loop-other.place c.loop-other.those is c.loop-other.invariant
