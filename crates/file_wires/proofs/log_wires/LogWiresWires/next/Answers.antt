use Rattle.std.proofs.Common.{refl, ap}
use Rattle.script_wires.specs.ScriptWires.{is_alone}
use Rattle.file_wires.specs.declared.log_wires.LogWires.{LogWires}
use Rattle.file_wires.proofs.FollowLaws.{gives_on, refuses_on, same_on}
use Rattle.file_wires.proofs.log_wires.LogWiresWires.next.Goals as goal

-- that the wait was counted changes nothing of what is left
pub returns-in-Ok-clause-stays : goal.returns-in-Ok-clause-stays
returns-in-Ok-clause-stays c = λ log replay.
    let waited : LogWires = record {
      alloc = c.args.self.now.alloc;
      journal = c.wait.new.self;
      runs = c.args.self.now.runs;
      place = c.args.self.now.place;
      refused = c.args.self.now.refused;
    } in
    gives_on log waited c.hear.new.self c.hear.new.buffer c.in-Ok.happening c.in-Ok.ensures.ok
    (same_on log c.args.self.now waited c.wait.ensures.log c.wait.ensures.links refl refl
    (ap is_alone c.wait.ensures.kept.asked) replay)

pub returns-in-Err-clause-stays : goal.returns-in-Err-clause-stays
returns-in-Err-clause-stays c = λ log replay.
    refuses_on log c.args.self.now c.refuse.new.self c.refuse.ensures.refused replay
