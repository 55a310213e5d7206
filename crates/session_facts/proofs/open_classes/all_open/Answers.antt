use Rattle.std.proofs.Common.{◌≡◌, ◌∙◌, ◌++◌, Bool, Some, None, flat_map, subst, sym}
use Rattle.class_tables.specs.Lookups.{found_in}
use Rattle.jdwp_values.specs.declared.id.ClassId.{ClassId}
use Rattle.class_tables.specs.Views.{nth_in}
use Rattle.session_facts.specs.OpenClasses.{AreLeft, class_standing, kept_by, may_be_found, may_lack}
use Rattle.session_facts.specs.declared.open_classes.Standing.{Standing}
use Rattle.session_facts.proofs.OpenLaws.{all_left}
use Rattle.session_facts.proofs.WalkLaws.{ended, moved}
use Rattle.session_facts.proofs.open_classes.all_open.Goals as goal

pub loop-class-preserved : goal.loop-class-preserved
loop-class-preserved c =
    let known = found_in c.args.classes.now in
    let wanted = c.args.wishes.now.wanted in
    let class = c.in-Some.class in
    let is : nth_in known c.loop-class.place ≡ Some class = sym c.nth.ensures ∙ c.in-Some.is in
    let more : c.add.new.self.lacking
    ≡ c.loop-class.left.lacking ++ kept_by (may_lack (class_standing wanted known class)) class =
    subst (λ (s : Standing). c.add.new.self.lacking ≡ c.loop-class.left.lacking ++ kept_by (may_lack s) class)
    c.standing_of.ensures c.in_ok-add.ensures.lacking in
    let others : c.add.new.self.found
    ≡ c.loop-class.left.found ++ kept_by (may_be_found (class_standing wanted known class)) class =
    subst (λ (s : Standing). c.add.new.self.found ≡ c.loop-class.left.found ++ kept_by (may_be_found s) class)
    c.standing_of.ensures c.in_ok-add.ensures.found in
    record {
      lacking = moved (λ class. kept_by (may_lack (class_standing wanted known class)) class) known.order
          c.loop-class.place c.in_ok-place.place class c.loop-class.left.lacking c.add.new.self.lacking is
          c.in_ok-place.ensures more c.loop-class.invariant.lacking;
      found = moved (λ class. kept_by (may_be_found (class_standing wanted known class)) class) known.order
          c.loop-class.place c.in_ok-place.place class c.loop-class.left.found c.add.new.self.found is
          c.in_ok-place.ensures others c.loop-class.invariant.found;
    }

pub returns : goal.returns
returns c =
    let known = found_in c.args.classes.now in
    let wanted = c.args.wishes.now.wanted in
    let is : nth_in known c.loop-class.place ≡ None = sym c.nth.ensures ∙ c.in_default.is in
    let lacks : ClassId → Bool = λ class. may_lack (class_standing wanted known class) in
    let finds : ClassId → Bool = λ class. may_be_found (class_standing wanted known class) in
    let lacking = ended (λ (class : ClassId). kept_by (lacks class) class) known.order c.loop-class.place
    c.loop-class.left.lacking is c.loop-class.invariant.lacking in
    let others = ended (λ (class : ClassId). kept_by (finds class) class) known.order c.loop-class.place
    c.loop-class.left.found is c.loop-class.invariant.found in
    record {
      lacking = lacking;
      found = others;
      enough = record {
        lacking = subst (AreLeft lacks known.order) (sym lacking) (all_left lacks known.order);
        found = subst (AreLeft finds known.order) (sym others) (all_left finds known.order);
      };
    }
