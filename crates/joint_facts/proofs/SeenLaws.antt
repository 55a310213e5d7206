-- Beside a target that obeys JDWP, look-ups show its world.
use Rattle.joint_facts.specs.Laws.{LookUpsShow, ShowsAsItStands}
use Rattle.joint_model.proofs.HandLaws.{shows_the_world}
use Rattle.joint_model.proofs.LookUpLaws.{look_ups}
use Rattle.joint_facts.proofs.HoldLaws.{facts_hold}

pub look_ups_show : LookUpsShow
look_ups_show messages m w commands packets kept hand lookup j lives are =
    let facts = (facts_hold messages m w commands packets kept j lives).facts in record {
      agrees = (look_ups w m.state).agree hand lookup (record { replies = are; facts = facts });
      fails = (look_ups w m.state).fail hand lookup (record { replies = are; facts = facts });
    }

pub shows_as_it_stands : ShowsAsItStands
shows_as_it_stands messages m w commands packets kept hand lookup j lives near some few is wrote =
    shows_the_world messages m w commands packets kept hand lookup j lives near some few is wrote
    (facts_hold messages m w commands packets kept j lives)
