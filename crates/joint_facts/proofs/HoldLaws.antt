-- What is known of classes is so in the world of a target that obeys JDWP.
use Rattle.joint_facts.specs.Laws.{ClassesAreThere, FactsHold}
use Rattle.machine_laws.proofs.KnowingLaws.{is_known}
use Rattle.joint_model.proofs.BalanceLaws.{run_of}
use Rattle.joint_facts.proofs.FactLaws.{facts_from}
use Rattle.joint_facts.proofs.JointFacts.{are_so}
use Rattle.joint_facts.proofs.SaidFacts.{said_so, tables_there}

pub classes_are_there : ClassesAreThere
classes_are_there messages m w commands packets kept j =
    tables_there w m.state.classes (said_so w (is_known messages m (run_of j)).said (are_so j).said).classes

pub facts_hold : FactsHold
facts_hold messages m w commands packets kept j lives = record {
  facts = facts_from w m.state.classes lives (are_so j).keyed
      (classes_are_there messages m w commands packets kept j);
}
