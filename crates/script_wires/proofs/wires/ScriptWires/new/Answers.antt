use Rattle.std.proofs.Common.{refl, ap}
use Rattle.wire_core.specs.Outside.{Link}
use Rattle.wire_journals.specs.Journals.{IsNewJournal}
use Rattle.script_wires.proofs.wires.ScriptWires.new.Goals as goal

pub returns : goal.returns
returns c =
    let fresh : IsNewJournal c.in_ok-journal.journal = c.in_ok-journal.ensures in
    record {
      log = fresh.log;
      waits = fresh.waits;
      client = fresh.client;
      target = fresh.target;
      open_faults = fresh.open_faults;
      asked = fresh.asked;
      playing = c.new-play.ensures c.in_ok-journal.journal.links (ap (λ (l : Link). l.is_open) fresh.client)
          (ap (λ (l : Link). l.is_open) fresh.target);
      refused = refl;
    }
