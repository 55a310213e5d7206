use Rattle.std.proofs.Common.{◌∙◌, Bool, ap, flat_map, subst, sym}
use Rattle.class_tables.specs.Lookups.{found_in}
use Rattle.jdwp_values.specs.declared.id.ClassId.{ClassId}
use Rattle.session_facts.specs.OpenClasses.{AreLeft, class_standing, kept_by, may_be_found, may_lack}
use Rattle.session_facts.proofs.OpenLaws.{all_left, needed_left}
use Rattle.session_facts.proofs.open_classes.sorted_out.Goals as goal

pub returns : goal.returns
returns c =
    let known = found_in c.args.classes.now in
    let lacks : ClassId → Bool = λ class. may_lack (class_standing c.args.wishes.now.wanted known class) in
    let finds : ClassId → Bool = λ class. may_be_found (class_standing c.args.wishes.now.wanted known class) in
    let lacking = c.in_ok-lacking.ensures
    ∙ ap (flat_map (λ (class : ClassId). kept_by (lacks class) class)) c.as_slice.ensures
    ∙ needed_left lacks known.order c.args.left.lacking c.requires.lacking in
    let others = c.in_ok-found.ensures
    ∙ ap (flat_map (λ (class : ClassId). kept_by (finds class) class)) c.as_slice-2.ensures
    ∙ needed_left finds known.order c.args.left.found c.requires.found in
    record {
      lacking = lacking;
      found = others;
      enough = record {
        lacking = subst (AreLeft lacks known.order) (sym lacking) (all_left lacks known.order);
        found = subst (AreLeft finds known.order) (sym others) (all_left finds known.order);
      };
    }
