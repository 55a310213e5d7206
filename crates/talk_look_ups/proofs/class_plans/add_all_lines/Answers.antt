-- One more method is gone through.
use Rattle.jdwp_values.specs.declared.class.Method.{Method}
use Rattle.machine_model.specs.Classes.{counts}
use Rattle.session_facts.specs.ClassPlanning.{lines_lacking}
use Rattle.talk_look_ups.specs.Planning.{sight_in}
use Rattle.talk_look_ups.proofs.ClassLaws.{one_counted}
use Rattle.talk_look_ups.proofs.class_plans.add_all_lines.Goals as goal

pub loop-method-preserved : goal.loop-method-preserved
loop-method-preserved c =
    let sight = sight_in c.args.state.now c.args.asked.now in
    one_counted (λ (method : Method). lines_lacking sight c.args.class method.id)
    (counts c.args.keyed c.args.state.now.wishes.wanted c.args.signature.now) c.loop-method.wants.items
    c.args.wants.now.items c.args.methods.now c.loop-method.method-index c.method-item.result
    c.add_counted.new.wants.items c.loop-method-test.true c.method-item.is c.in_ok-add_counted.ensures
    c.loop-method.invariant
