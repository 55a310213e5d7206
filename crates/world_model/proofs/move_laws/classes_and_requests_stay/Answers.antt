use Rattle.world_model.proofs.MoveLaws.{facts_stay, requests_stay}
use Rattle.world_model.proofs.move_laws.classes_and_requests_stay.Goals as goal

pub returns-clause-facts : goal.returns-clause-facts
returns-clause-facts c = λ w now next told h. facts_stay w now next told h

pub returns-clause-requests : goal.returns-clause-requests
returns-clause-requests c = λ w now next told h. requests_stay w now next told h
