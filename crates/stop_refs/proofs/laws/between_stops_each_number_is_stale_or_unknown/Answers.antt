use Rattle.stop_refs.proofs.ReferenceLaws.{stale_given, given_stale, unknown_not_given, not_given_unknown}
use Rattle.stop_refs.proofs.laws.between_stops_each_number_is_stale_or_unknown.Goals as goal

pub returns-clause-stale : goal.returns-clause-stale
returns-clause-stale c = λ start number stop stops.
    (stale_given start number stops stop, λ given. given_stale start number stops stop given.0 given.1)

pub returns-clause-unknown : goal.returns-clause-unknown
returns-clause-unknown c = λ start number stops.
    (unknown_not_given start number stops, not_given_unknown start number stops)
