use Rattle.command_words.proofs.NumberLaws.{named_few}
use Rattle.bridge_runs.specs.Command.{Does}
use Rattle.bridge_runs.proofs.command.run.Goals as goal

pub returns-in-Ok : goal.returns-in-Ok
returns-in-Ok g c = Does.serves (rw c.in-Ok-Serve.field-0-is at c.in-Ok-Serve.ensures) (record {
  opened = _;
  connects = c.in-Ok.ensures.ok;
  session = rw c.standard.ensures.values at c.serve.ensures.session;
  keeps = rw c.standard.ensures.values at c.serve.ensures.keeps;
  blames = c.serve.ensures.blames;
  idles = rw c.standard.ensures.values at c.serve.ensures.idles;
})

pub returns-in-Err : goal.returns-in-Err
returns-in-Err g c = Does.fails_to_open (rw c.in-Ok-Serve.field-0-is at c.in-Ok-Serve.ensures) c.in-Err.ensures.err

pub returns-in-Ok-Script : goal.returns-in-Ok-Script
returns-in-Ok-Script g c = Does.plays (rw c.in-Ok-Script.field-0-is at c.in-Ok-Script.ensures) c.play.ensures

pub returns-in-Ok-Replay : goal.returns-in-Ok-Replay
returns-in-Ok-Replay g c = Does.replays (rw c.in-Ok-Replay.field-0-is at c.in-Ok-Replay.ensures) c.replay.ensures

pub generate-requires-clause-from_one : goal.generate-requires-clause-from_one
generate-requires-clause-from_one g c =
    (named_few _ _ _ (rw c.in-Ok-Generate.field-0-is at c.in-Ok-Generate.ensures)).0

pub generate-requires-clause-few : goal.generate-requires-clause-few
generate-requires-clause-few g c =
    (named_few _ _ _ (rw c.in-Ok-Generate.field-0-is at c.in-Ok-Generate.ensures)).1

pub returns-in-Ok-Generate : goal.returns-in-Ok-Generate
returns-in-Ok-Generate g c =
    Does.generates _ (rw c.in-Ok-Generate.field-0-is at c.in-Ok-Generate.ensures) c.generate.ensures

pub returns-in-Ok-Record : goal.returns-in-Ok-Record
returns-in-Ok-Record g c = Does.records (rw c.in-Ok-Record.field-0-is at c.in-Ok-Record.ensures) c.record_to.ensures

pub returns-in-Ok-Dump : goal.returns-in-Ok-Dump
returns-in-Ok-Dump g c = Does.dumps (rw c.in-Ok-Dump.field-0-is at c.in-Ok-Dump.ensures) c.dump_from.ensures

pub returns-in-Err-Refused : goal.returns-in-Err-Refused
returns-in-Err-Refused g c = Does.misused (rw c.in-Err-Refused.field-0-is at c.in-Err-Refused.ensures)

pub returns-in-Err-NoMemory : goal.returns-in-Err-NoMemory
returns-in-Err-NoMemory g c = Does.forgets
