use Rattle.stop_refs.proofs.ReferenceLaws.{known_given, given_known, stale_given_before, given_before_stale}
use Rattle.stop_refs.proofs.ReferenceLaws.{unknown_never_given, never_given_unknown}
use Rattle.stop_refs.proofs.laws.at_a_stop_its_own_numbers_are_known.Goals as goal

pub returns-clause-known : goal.returns-clause-known
returns-clause-known c = λ start number now before thing.
    (known_given start number now before thing, given_known start number now before thing)

pub returns-clause-stale : goal.returns-clause-stale
returns-clause-stale c = λ start number stop now before. (
  stale_given_before start number now before stop,
  λ given. given_before_stale start number now before stop given.0 given.1,
)

pub returns-clause-unknown : goal.returns-clause-unknown
returns-clause-unknown c = λ start number now before.
    (unknown_never_given start number now before, never_given_unknown start number now before)
