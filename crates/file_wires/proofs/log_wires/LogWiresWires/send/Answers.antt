use Rattle.std.proofs.Common.{refl, ap}
use Rattle.script_wires.specs.ScriptWires.{is_alone}
use Rattle.file_wires.specs.declared.log_wires.LogWires.{LogWires}
use Rattle.file_wires.proofs.FollowLaws.{refuses_on, sends_on}
use Rattle.file_wires.proofs.log_wires.LogWiresWires.send.Goals as goal

pub returns-in-Ok-clause-stays : goal.returns-in-Ok-clause-stays
returns-in-Ok-clause-stays c = λ log replay.
    let sent : LogWires = record {
      alloc = c.args.self.now.alloc;
      journal = c.send.new.self;
      runs = c.args.self.now.runs;
      place = c.args.self.now.place;
      refused = c.args.self.now.refused;
    } in
    sends_on log c.args.self.now sent c.args.side c.args.bytes.now c.in-Ok.ensures.log c.in-Ok.ensures.kept refl refl
    (ap is_alone c.in-Ok.ensures.links.asked) replay

pub returns-in-Err-clause-stays : goal.returns-in-Err-clause-stays
returns-in-Err-clause-stays c = λ log replay.
    refuses_on log c.args.self.now c.refuse.new.self c.refuse.ensures.refused replay
