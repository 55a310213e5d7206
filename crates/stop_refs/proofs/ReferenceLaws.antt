-- What a number is at a stop, and between stops, by which stop gave it.
use Rattle.std.proofs.Common.{◌≡◌, ℕ, zero, suc, ◌+◌, ◌-◌, ◌<◌, ◌≤◌, Bool, true, false, List, ◌∷◌, length}
use Rattle.std.proofs.Common.{Option, Some, None, Result, Ok, Err, refl, sym, ap, ◌∙◌, subst, inl, inr, arith}
use Rattle.std.proofs.Common.{ltb-true, ltb-false, lt-ltb, le-ltb}
use Rattle.std.specs.Prelude.{slice_get, nat_lt}
use Rattle.std.proofs.lemmas.Bool.{cond-true, cond-false}
use Rattle.stop_refs.specs.declared.thing.Thing.{Thing}
use Rattle.stop_refs.specs.declared.fault.RefFault.{RefFault}
use Rattle.stop_refs.specs.declared.fault.RefFault.TheVariants.{Unknown, Stale}
use Rattle.stop_refs.specs.Numbers.{Past, InHand, stop_with, refused_in, look, or_unknown, thing_with, next_in}
use Rattle.stop_refs.specs.Sessions.{told, past_of, Gave}
use Rattle.stop_refs.proofs.PlaceLaws.{distinct, told_is}
use Rattle.stop_refs.proofs.SessionLaws.{latest_or_earlier, gave_earlier, gave_latest, within}
use Rattle.stop_refs.proofs.SessionLaws.{none_counted, stop_found, given}

-- the fault of a number says its stop
stale_is : (next count stop : ℕ) → refused_in next count ≡ Stale stop → (count ≡ stop) × (0 < count)
stale_is next zero stop is = absurd cc
stale_is next (suc count) stop is = (cc, omega arith)

is_stale : (next stop : ℕ) → 0 < stop → refused_in next stop ≡ Stale stop
is_stale next zero some = absurd (omega arith)
is_stale next (suc stop) some = refl

unknown_is : (next count other : ℕ) → refused_in next count ≡ Unknown other → count ≡ 0
unknown_is next zero other is = refl
unknown_is next (suc count) other is = absurd cc

module _ (start number : ℕ) where
  -- what counts for a number below the next one
  pub counted_given : (stop : ℕ) (stops : List (List Thing)) → number < (past_of start stops).next
      → stop_with (past_of start stops).firsts number ≡ stop → 0 < stop
      → (thing : Thing) × Gave start stops stop number thing
  counted_given stop stops below count some = by (nat_lt number start) refl
    where
      by : (b : Bool) → nat_lt number start ≡ b → (thing : Thing) × Gave start stops stop number thing
      by true is =
          let none = none_counted start number stops (ltb-true _ _ is) in
          absurd (omega arith)
      by false is =
          let found = given start number stops (ltb-false _ _ is) below in
          let stop_is : found.0 ≡ stop = sym (stop_found start found.0 number stops found.1 found.2) ∙ count in
          (found.1, subst (λ (s : ℕ). Gave start stops s number found.1) stop_is found.2)

  module _ (stops : List (List Thing)) where
    abbrev past : Past
    past = past_of start stops

    below_is : number < past.next → look number past ≡ refused_in past.next (stop_with past.firsts number)
    below_is below = cond-true _ _ _ (lt-ltb _ _ below)

    behind_is : past.next ≤ number → look number past ≡ Unknown past.next
    behind_is behind = cond-false _ _ _ (le-ltb _ _ behind)

    pub stale_given : (stop : ℕ) → look number past ≡ Stale stop → (thing : Thing) × Gave start stops stop number thing
    stale_given stop is = by (nat_lt number past.next) refl
      where
        by : (b : Bool) → nat_lt number past.next ≡ b → (thing : Thing) × Gave start stops stop number thing
        by true below =
            let below = ltb-true _ _ below in
            let found = stale_is past.next _ stop (sym (below_is below) ∙ is) in
            let some = found.1 in
            counted_given stop stops below found.0 (omega (arith, found.0))
        by false behind =
            let unknown = behind_is (ltb-false _ _ behind) in
            absurd cc

    pub given_stale : (stop : ℕ) (thing : Thing) → Gave start stops stop number thing → look number past ≡ Stale stop
    given_stale stop thing gave =
        let where_is = within start stop number stops thing gave in
        below_is where_is.below_next
        ∙ ap (refused_in past.next) (stop_found start stop number stops thing gave)
        ∙ is_stale past.next stop where_is.from_first

    pub unknown_not_given : look number past ≡ Unknown past.next → (stop : ℕ) (thing : Thing)
        → ¬ Gave start stops stop number thing
    unknown_not_given is stop thing gave = let stale = given_stale stop thing gave in cc

    -- the stop that is counted for a number that was never given
    never_counted : ((stop : ℕ) (thing : Thing) → ¬ Gave start stops stop number thing) → number < past.next
        → (count : ℕ) → stop_with past.firsts number ≡ count → count ≡ 0
    never_counted never below zero is = refl
    never_counted never below (suc count) is =
        let found = counted_given (suc count) stops below is (omega arith) in
        absurd (never (suc count) found.0 found.1)

    pub not_given_unknown : ((stop : ℕ) (thing : Thing) → ¬ Gave start stops stop number thing)
        → look number past ≡ Unknown past.next
    not_given_unknown never = by (nat_lt number past.next) refl
      where
        by : (b : Bool) → nat_lt number past.next ≡ b → look number past ≡ Unknown past.next
        by true is =
            let below = ltb-true _ _ is in
            below_is below ∙ ap (refused_in past.next) (never_counted never below _ refl)
        by false behind = behind_is (ltb-false _ _ behind)

  module _ (now : List Thing) (before : List (List Thing)) where
    abbrev front : Past
    front = past_of start before

    abbrev pub in_hand : InHand
    in_hand = told now front

    abbrev shown : InHand
    shown = record { past = front; things = distinct now }

    shown_is : in_hand ≡ shown
    shown_is = told_is now front

    before_is : number < front.next
        → thing_with number in_hand ≡ Err (refused_in (next_in in_hand) (stop_with front.firsts number))
    before_is below =
        ap (thing_with number) shown_is ∙ cond-true _ _ _ (lt-ltb _ _ below)
        ∙ ap (λ (h : InHand). err_in h) (sym shown_is)
      where
        err_in : InHand → Result Thing RefFault
        err_in h = Err (refused_in (next_in h) (stop_with front.firsts number))

    inside_is : front.next ≤ number
        → thing_with number in_hand ≡ or_unknown (next_in in_hand) (slice_get (distinct now) (number - front.next))
    inside_is behind =
        ap (thing_with number) shown_is ∙ cond-false _ _ _ (le-ltb _ _ behind)
        ∙ ap (λ (h : InHand). or_unknown (next_in h) (slice_get (distinct now) (number - front.next))) (sym shown_is)

    -- the thing at a place is no fault
    found_is : (next : ℕ) (found : Option Thing) (thing : Thing) → or_unknown next found ≡ Ok thing → found ≡ Some thing
    found_is next (Some other) thing is = cc
    found_is next None thing is = absurd cc

    never_stale : (next stop : ℕ) (found : Option Thing) → or_unknown next found ≡ Err (Stale stop) → ⊥
    never_stale next stop (Some other) is = cc
    never_stale next stop None is = cc

    pub known_given : (thing : Thing) → thing_with number in_hand ≡ Ok thing
        → Gave start (now ∷ before) (length before + 1) number thing
    known_given thing is = by (nat_lt number front.next) refl
      where
        by : (b : Bool) → nat_lt number front.next ≡ b → Gave start (now ∷ before) (length before + 1) number thing
        by true below =
            let fault = before_is (ltb-true _ _ below) in
            absurd cc
        by false behind =
            let next : front.next ≤ number = ltb-false _ _ behind in
            gave_latest start number now before thing (record {
              at = number - front.next;
              number_is = omega arith;
              is = found_is _ _ thing (sym (inside_is next) ∙ is);
            })

    pub given_known : (thing : Thing) → Gave start (now ∷ before) (length before + 1) number thing
        → thing_with number in_hand ≡ Ok thing
    given_known thing gave =
        elim (latest_or_earlier start (length before + 1) number now before thing gave) [
          | inl here ↦
              let number_is = here.1.number_is in
              let at : number - front.next ≡ here.1.at = omega arith in
              inside_is (omega arith)
              ∙ ap (λ (p : ℕ). or_unknown (next_in in_hand) (slice_get (distinct now) p)) at
              ∙ ap (or_unknown (next_in in_hand)) here.1.is
          | inr earlier ↦
              absurd (let last = (within start (length before + 1) number before thing earlier).to_last in omega arith)
        ]

    pub stale_given_before : (stop : ℕ) → thing_with number in_hand ≡ Err (Stale stop)
        → (thing : Thing) × Gave start before stop number thing
    stale_given_before stop is = by (nat_lt number front.next) refl
      where
        by : (b : Bool) → nat_lt number front.next ≡ b → (thing : Thing) × Gave start before stop number thing
        by true below =
            let below = ltb-true _ _ below in
            let fault = before_is below in
            let same : refused_in (next_in in_hand) (stop_with front.firsts number) ≡ Stale stop = cc in
            let found = stale_is (next_in in_hand) _ stop same in
            let some = found.1 in
            counted_given stop before below found.0 (omega (arith, found.0))
        by false behind = absurd (never_stale _ stop _ (sym (inside_is (ltb-false _ _ behind)) ∙ is))

    pub given_before_stale : (stop : ℕ) (thing : Thing) → Gave start before stop number thing
        → thing_with number in_hand ≡ Err (Stale stop)
    given_before_stale stop thing gave =
        let where_is = within start stop number before thing gave in
        before_is where_is.below_next
        ∙ ap (λ (fault : RefFault). Err fault)
        (ap (refused_in (next_in in_hand)) (stop_found start stop number before thing gave)
        ∙ is_stale (next_in in_hand) stop where_is.from_first)

    pub unknown_never_given : thing_with number in_hand ≡ Err (Unknown (next_in in_hand)) → (stop : ℕ) (thing : Thing)
        → ¬ Gave start (now ∷ before) stop number thing
    unknown_never_given is stop thing gave =
        elim (latest_or_earlier start stop number now before thing gave) [
          | inl here ↦
              let known = given_known thing (gave_latest start number now before thing here.1) in
              cc
          | inr earlier ↦ let stale = given_before_stale stop thing earlier in cc
        ]

    pub never_given_unknown : ((stop : ℕ) (thing : Thing) → ¬ Gave start (now ∷ before) stop number thing)
        → thing_with number in_hand ≡ Err (Unknown (next_in in_hand))
    never_given_unknown never = by (nat_lt number front.next) refl
      where
        by : (b : Bool) → nat_lt number front.next ≡ b → thing_with number in_hand ≡ Err (Unknown (next_in in_hand))
        by true is =
            let below = ltb-true _ _ is in
            before_is below
            ∙ ap (λ (count : ℕ). Err (refused_in (next_in in_hand) count))
            (never_counted before (λ stop thing gave. never stop thing
            (gave_earlier start stop number now before thing gave)) below _ refl)
        by false is = inside_is next ∙ empty (slice_get (distinct now) (number - front.next)) refl
          where
            next : front.next ≤ number
            next = ltb-false _ _ is

            empty : (found : Option Thing) → slice_get (distinct now) (number - front.next) ≡ found
                → or_unknown (next_in in_hand) found ≡ Err (Unknown (next_in in_hand))
            empty None at = refl
            empty (Some thing) at =
                absurd (never (length before + 1) thing (gave_latest start number now before thing (record {
                  at = number - front.next;
                  number_is = let behind = next in omega arith;
                  is = at;
                })))
