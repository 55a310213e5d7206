use Rattle.jdwp_commands.specs.Commands.{command_at}
use Rattle.target_server.proofs.hearing.read.Goals as goal

pub returns-in-Err : goal.returns-in-Err
returns-in-Err c =
    c.bad_body.ensures (command_at c.args.sizes c.args.set c.args.number c.args.body.now) c.args.id
    c.in-Err.ensures.exact
