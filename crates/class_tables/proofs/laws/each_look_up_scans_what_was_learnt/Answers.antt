use Rattle.std.proofs.Common.{ap}
use Rattle.class_tables.specs.Lookups.{Lookups}
use Rattle.class_tables.specs.Views.{nth_in, class_in, key_in, line_in, locations_in}
use Rattle.class_tables.proofs.HistoryLaws.{found_is_told}
use Rattle.class_tables.proofs.laws.each_look_up_scans_what_was_learnt.Goals as goal

pub returns-clause-nth : goal.returns-clause-nth
returns-clause-nth c = λ history place. ap (λ (known : Lookups). nth_in known place) (found_is_told history)

pub returns-clause-class : goal.returns-clause-class
returns-clause-class c = λ history class. ap (λ (known : Lookups). class_in known class) (found_is_told history)

pub returns-clause-lines : goal.returns-clause-lines
returns-clause-lines c =
    λ history class method. ap (λ (known : Lookups). known.lines class method) (found_is_told history)

pub returns-clause-variables : goal.returns-clause-variables
returns-clause-variables c =
    λ history class method. ap (λ (known : Lookups). known.variables class method) (found_is_told history)

pub returns-clause-key_of : goal.returns-clause-key_of
returns-clause-key_of c = λ history class. ap (λ (known : Lookups). key_in known class) (found_is_told history)

pub returns-clause-line_of : goal.returns-clause-line_of
returns-clause-line_of c =
    λ history location. ap (λ (known : Lookups). line_in known location) (found_is_told history)

pub returns-clause-locations : goal.returns-clause-locations
returns-clause-locations c =
    λ history class line. ap (λ (known : Lookups). locations_in known class line) (found_is_told history)
