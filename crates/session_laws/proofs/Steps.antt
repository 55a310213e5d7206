-- Logs, one entry longer.
use Rattle.std.proofs.Common.{◌≡◌, ℕ, ◌+◌, cond, List, [], ◌∷◌, ◌++◌, refl, sym, ap, ◌∙◌, append_assoc, append-nil}
use Rattle.std.proofs.lemmas.List.Concat.{flat_map-append}
use Rattle.std.proofs.lemmas.List.Sums.{sum_by-append}
use Rattle.std.specs.List.{count_by, flat_map}
use Rattle.session_model.specs.Names.{Client, Entry, Failed, Out, Side, Target}
use Rattle.session_laws.specs.Bytes.{came_from, HasLost, of_side, went_to}
use Rattle.session_laws.specs.Turns.{comes}
use Rattle.wire_core.specs.Outside.{broken_send}

-- what one more element adds
pub flat_map_one_more : {X A : Type 0} (f : X → List A) (xs : List X) (x : X)
    → flat_map f (xs ++ x ∷ []) ≡ flat_map f xs ++ f x
flat_map_one_more f xs x = flat_map-append f xs (x ∷ []) ∙ ap (λ ys. flat_map f xs ++ ys) (append-nil (f x))

-- where it adds nothing
pub flat_map_same : {X A : Type 0} (f : X → List A) (xs : List X) (x : X) → f x ≡ []
    → flat_map f (xs ++ x ∷ []) ≡ flat_map f xs
flat_map_same f xs x none =
    flat_map_one_more f xs x ∙ ap (λ more. flat_map f xs ++ more) none ∙ append-nil (flat_map f xs)

-- Broken sends --------------------------------------------------------------------------------------------------------

-- what a broken send gives
pub went-broken : (side to : Side) (bytes : List ℕ) → went_to side (broken_send to bytes) ≡ of_side side to bytes
went-broken Client Client [] = refl
went-broken Client Target [] = refl
went-broken Target Client [] = refl
went-broken Target Target [] = refl
went-broken side to (b ∷ bytes) = append-nil (of_side side to (b ∷ bytes))

-- it hears nothing
pub came-broken : (side to : Side) (bytes : List ℕ) → came_from side (broken_send to bytes) ≡ []
came-broken side to [] = refl
came-broken side to (b ∷ bytes) = refl

-- its link is lost behind it
pub lost_by : (log : List Entry) (side : Side) (bytes : List ℕ) → HasLost side (log ++ broken_send side bytes)
lost_by log side [] = (log, [], refl)
lost_by log side (b ∷ bytes) =
    (log ++ Out side (b ∷ bytes) ∷ [], [], sym (append_assoc log (Out side (b ∷ bytes) ∷ []) (Failed side ∷ [])))

-- and stays lost
pub still_lost : {side : Side} {log : List Entry} (more : List Entry) → HasLost side log → HasLost side (log ++ more)
still_lost {side} more (before, after, is) =
    (before, after ++ more, ap (λ l. l ++ more) is ∙ append_assoc before (Failed side ∷ after) more)

pub lost_behind : {side : Side} {log : List Entry} (before : List Entry) → HasLost side log
    → HasLost side (before ++ log)
lost_behind {side} more (before, after, is) =
    (more ++ before, after, ap (λ l. more ++ l) is ∙ sym (append_assoc more before (Failed side ∷ after)))

-- Entries that are waited for -----------------------------------------------------------------------------------------

abbrev pub waited : List Entry → ℕ
waited log = count_by comes log

pub waited-append : (log more : List Entry) → waited (log ++ more) ≡ waited log + waited more
waited-append log more = sum_by-append (λ (entry : Entry). cond (comes entry) 1 0) log more

pub waited-broken : (side : Side) (bytes : List ℕ) → waited (broken_send side bytes) ≡ 1
waited-broken side [] = refl
waited-broken side (b ∷ bytes) = refl
