-- What holds of each part that passes a test holds of all parts of a list that passes it.
use Rattle.std.proofs.Common.{◌≡◌, Bool, true, false, cond, List, [], ◌∷◌, ◌++◌, Option, Some, None, refl, arith, subst}
use Rattle.std.proofs.Common.{append-nil}
use Rattle.std.specs.List.{AllByRecursion as All}
use Rattle.machine_model.specs.Lookups.{finished}
use Rattle.machine_model.specs.Plans.{Result}
use Rattle.machine_model.specs.Rows.{chosen, gone_parts, parts_by, parts_of, row_of}
use Rattle.machine_model.specs.State.{Hand, State}
use Rattle.machine_steps.specs.Names.{Choice, Command, Decides, Failed, Failure, Finding, Item, Lookup, Part, Pause}
use Rattle.machine_steps.specs.Names.{TellsNews, Throws, a_request, a_stop, exception_text, some_news, thread_changed}

abbrev pub passes : (Part → Bool) → List Part → Bool
passes test [] = true
passes test (part ∷ parts) = cond (test part) (passes test parts) false

pub both_pass : (test : Part → Bool) (parts rest : List Part) → passes test parts ≡ true → passes test rest ≡ true
    → passes test (parts ++ rest) ≡ true
both_pass test [] rest is h = h
both_pass test (part ∷ parts) rest is h = by_test (test part) is (λ others. both_pass test parts rest others h)
  where
    by_test : (first : Bool) → cond first (passes test parts) false ≡ true
        → (passes test parts ≡ true → passes test (parts ++ rest) ≡ true)
        → cond first (passes test (parts ++ rest)) false ≡ true
    by_test true is k = k is
    by_test false is k = cc

-- each has what the test promises, and so have the parts behind them
pub all_passing : {Q : Part → Type 0} (test : Part → Bool) → ((part : Part) → test part ≡ true → Q part)
    → (parts rest : List Part) → passes test parts ≡ true → All Q rest → All Q (parts ++ rest)
all_passing test k [] rest is h = h
all_passing {Q} test k (part ∷ parts) rest is h = by_test (test part) (k part) is (all_passing test k parts rest)
  where
    by_test : (first : Bool) → (first ≡ true → Q part) → cond first (passes test parts) false ≡ true
        → (passes test parts ≡ true → All Q rest → All Q (parts ++ rest)) → All Q (part ∷ parts ++ rest)
    by_test true one is others = (one refl, others is h)
    by_test false one is others = cc

pub all_pass : {Q : Part → Type 0} (test : Part → Bool) → ((part : Part) → test part ≡ true → Q part)
    → (parts : List Part) → passes test parts ≡ true → All Q parts
all_pass {Q} test k parts is = subst (All Q) (append-nil parts) (all_passing test k parts [] is tt)

-- a request that fails tells its failure alone
pub of_failure : (Q : Part → Type 0) → ((failure : Failure) → Q (Part.Responds (Failed failure)))
    → (failure : Option Failure) (row : List Part) → All Q row → All Q (parts_by failure row)
of_failure Q k (Some failure) row h = (k failure, tt)
of_failure Q k None row h = h

-- Parts that tell of no thread ----------------------------------------------------------------------------------------

-- a part that tells no stop, no start or end of a thread, and nothing that was thrown
abbrev pub is_mute : Part → Bool
is_mute (Part.Tells (a_stop stopping)) = false
is_mute (Part.Tells (some_news (thread_changed started thread))) = false
is_mute (Part.Looks (exception_text thread one)) = false
is_mute (Part.Notes (Throws thrown)) = false
is_mute _ = true

abbrev pub is_pause_command : Command → Bool
is_pause_command (Pause arguments) = true
is_pause_command _ = false

-- no row does but that of `pause`
pub row_mute : (command : Command) (state : State) → is_pause_command command ≡ false
    → passes is_mute (row_of command state) ≡ true
row_mute command state is = grind (arith, is)

-- nor does what another item does
abbrev pub is_request : Item → Bool
is_request (a_request request) = true
is_request _ = false

pub begun_mute : (state : State) (item : Item) → is_request item ≡ false → passes is_mute (parts_of state item) ≡ true
begun_mute state item is = grind (arith, is)

pub given_mute : (responds : Bool) (item : Item) → passes is_mute (gone_parts responds item) ≡ true
given_mute responds item = grind arith

-- a look-up for the event `stopped` does, and two choices
abbrev pub is_of_stop : Lookup → Bool
is_of_stop (exception_text thread one) = true
is_of_stop _ = false

pub found_mute : (lookup : Lookup) (result : Result Finding) (state : State) → is_of_stop lookup ≡ false
    → passes is_mute (finished lookup result state) ≡ true
found_mute lookup result state is = grind (arith, is)

abbrev pub tells_more : Choice → Bool
tells_more (TellsNews below) = true
tells_more (Decides logged stops) = true
tells_more _ = false

pub chosen_mute : (choice : Choice) (state : State) (hand : Hand) → tells_more choice ≡ false
    → passes is_mute (chosen choice state hand) ≡ true
chosen_mute choice state hand is = grind (arith, is)
