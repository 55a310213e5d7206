use Rattle.std.proofs.Common.{false, refl}
use Rattle.file_wires.proofs.FollowLaws.{replays_new}
use Rattle.file_wires.proofs.log_wires.LogWires.new.Goals as goal

pub returns-clause-replays : goal.returns-clause-replays
returns-clause-replays c =
    replays_new (record {
      alloc = c.args.alloc;
      journal = c.in_ok-journal.journal;
      runs = c.args.log.runs;
      place = record { run = 0; done = 0 };
      refused = false;
    }) c.in_ok-journal.ensures refl
