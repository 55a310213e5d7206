use Rattle.std.proofs.Common.{◌∙◌, sym}
use Rattle.stop_refs.proofs.SessionLaws.{stop_found, one_thing, one_number, within, given}
use Rattle.stop_refs.proofs.laws.a_number_is_given_to_one_thing.Goals as goal

pub returns-clause-once : goal.returns-clause-once
returns-clause-once c = λ start stop other number stops thing another gave also. (
  sym (stop_found start stop number stops thing gave) ∙ stop_found start other number stops another also,
  one_thing start stop other number stops thing another gave also,
)

pub returns-clause-kept : goal.returns-clause-kept
returns-clause-kept c = λ start stop number other stops thing gave also.
    one_number start stop number other stops thing gave also

pub returns-clause-no_gap : goal.returns-clause-no_gap
returns-clause-no_gap c = λ start number stops. (
  λ found. let where_is = within start found.0 number stops found.1 found.2 in
      (where_is.from_start, where_is.below_next),
  λ is. given start number stops is.0 is.1,
)
