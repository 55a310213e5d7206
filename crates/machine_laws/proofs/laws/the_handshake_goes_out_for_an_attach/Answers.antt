-- Only an `attach` awaits the handshake.
use Rattle.machine_laws.proofs.LeavingLaws.{greetings}
use Rattle.machine_laws.proofs.laws.the_handshake_goes_out_for_an_attach.Goals as goal

pub returns : goal.returns
returns c = greetings
