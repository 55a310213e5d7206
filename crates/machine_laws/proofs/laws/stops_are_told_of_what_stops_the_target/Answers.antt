-- A stop is told of a breakpoint that was hit, or that the client asked for; a surplus is undone at once.
use Rattle.machine_laws.proofs.StopLaws.{tells_stops, undoes_surplus}
use Rattle.machine_laws.proofs.laws.stops_are_told_of_what_stops_the_target.Goals as goal

pub returns-clause-told : goal.returns-clause-told
returns-clause-told c = tells_stops

pub returns-clause-surplus : goal.returns-clause-surplus
returns-clause-surplus c = undoes_surplus
