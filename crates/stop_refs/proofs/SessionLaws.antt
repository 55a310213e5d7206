-- Which numbers a session gave, by induction over its stops.
use Rattle.std.proofs.Common.{◌≡◌, ℕ, ◌+◌, ◌-◌, ◌<◌, ◌≤◌, Bool, true, false, cond, List, [], ◌∷◌, ◌++◌, length}
use Rattle.std.proofs.Common.{Some, refl, sym, ap, ◌∙◌, ◌⊎◌, inl, inr, arith, ltb-true, ltb-false}
use Rattle.std.specs.Prelude.{slice_get, nat_le, nat_lt}
use Rattle.std.proofs.lemmas.List.Sums.{sum_by_push}
use Rattle.std.proofs.lemmas.Option.{slice_get_within, slice_get_cases}
use Rattle.stop_refs.specs.declared.thing.Thing.{Thing}
use Rattle.stop_refs.specs.Numbers.{InHand, over, number_of, stop_with}
use Rattle.stop_refs.specs.Sessions.{told, past_of, Gave}
use Rattle.stop_refs.proofs.PlaceLaws.{distinct, place, told_is, keeps_place, told_at, was_told, one_place}

module _ (start : ℕ) where
  -- the next number behind some stops
  abbrev pub next_after : List (List Thing) → ℕ
  next_after stops = (past_of start stops).next

  pub next-∷ : (latest : List Thing) (earlier : List (List Thing))
      → next_after (latest ∷ earlier) ≡ next_after earlier + length (distinct latest)
  next-∷ latest earlier = ap (λ (h : InHand). (over h).next) (told_is latest (past_of start earlier))

  firsts-∷ : (latest : List Thing) (earlier : List (List Thing))
      → (past_of start (latest ∷ earlier)).firsts ≡ (past_of start earlier).firsts ++ next_after earlier ∷ []
  firsts-∷ latest earlier = ap (λ (h : InHand). (over h).firsts) (told_is latest (past_of start earlier))

  -- a number is that of a thing of a stop
  pub record Stands (first : ℕ) (things : List Thing) (number : ℕ) (thing : Thing) : Type 0 where
    pub at : ℕ
    pub number_is : number ≡ first + at
    pub is : slice_get (distinct things) at ≡ Some thing

  -- it was given in the latest stop, or before it
  pub latest_or_earlier : (stop number : ℕ) (latest : List Thing) (earlier : List (List Thing)) (thing : Thing)
      → Gave start (latest ∷ earlier) stop number thing
      → ((stop ≡ length earlier + 1) × Stands (next_after earlier) latest number thing)
      ⊎ Gave start earlier stop number thing
  latest_or_earlier stop number latest earlier thing gave =
      by gave.later gave.earlier gave.behind gave.before gave.stops_are gave.stop_is gave.number_is
    where
      by : (later others : List (List Thing)) (behind before : List Thing)
          → latest ∷ earlier ≡ later ++ (behind ++ thing ∷ before) ∷ others → stop ≡ length others + 1
          → number ≡ number_of thing (told before (past_of start others))
          → ((stop ≡ length earlier + 1) × Stands (next_after earlier) latest number thing)
          ⊎ Gave start earlier stop number thing
      by [] others behind before are stop_is number_is =
          let same : others ≡ earlier = cc in
          let these : latest ≡ behind ++ thing ∷ before = cc in
          inl (
            stop_is ∙ ap (λ (l : List (List Thing)). length l + 1) same,
            record {
              at = place thing (distinct before);
              number_is = number_is
                  ∙ ap (λ (l : List (List Thing)). number_of thing (told before (past_of start l))) same
                  ∙ ap (number_of thing) (told_is before (past_of start earlier));
              is = ap (λ (l : List Thing). slice_get (distinct l) (place thing (distinct before))) these
                  ∙ keeps_place behind (thing ∷ before) (place thing (distinct before)) thing (told_at thing before);
            },
          )
      by (x ∷ later) others behind before are stop_is number_is =
          inr (record {
            later = later;
            earlier = others;
            behind = behind;
            before = before;
            stops_are = cc;
            stop_is = stop_is;
            number_is = number_is;
          })

  pub gave_earlier : (stop number : ℕ) (latest : List Thing) (earlier : List (List Thing)) (thing : Thing)
      → Gave start earlier stop number thing → Gave start (latest ∷ earlier) stop number thing
  gave_earlier stop number latest earlier thing gave = record {
    later = latest ∷ gave.later;
    earlier = gave.earlier;
    behind = gave.behind;
    before = gave.before;
    stops_are = ap (λ (l : List (List Thing)). latest ∷ l) gave.stops_are;
    stop_is = gave.stop_is;
    number_is = gave.number_is;
  }

  pub gave_latest : (number : ℕ) (latest : List Thing) (earlier : List (List Thing)) (thing : Thing)
      → Stands (next_after earlier) latest number thing
      → Gave start (latest ∷ earlier) (length earlier + 1) number thing
  gave_latest number latest earlier thing stands =
      let was = was_told latest stands.at thing stands.is in
      record {
        later = [];
        earlier = earlier;
        behind = was.behind;
        before = was.before;
        stops_are = ap (λ (l : List Thing). l ∷ earlier) was.things_are;
        stop_is = refl;
        number_is = stands.number_is ∙ ap (λ (p : ℕ). next_after earlier + p) was.place_is
            ∙ sym (ap (number_of thing) (told_is was.before (past_of start earlier)));
      }

  gave_none : (stop number : ℕ) (thing : Thing) → Gave start [] stop number thing → ⊥
  gave_none stop number thing gave = by gave.later gave.stops_are
    where
      by : (later : List (List Thing)) → [] ≡ later ++ (gave.behind ++ thing ∷ gave.before) ∷ gave.earlier → ⊥
      by [] are = cc
      by (x ∷ later) are = cc

  start_below : (stops : List (List Thing)) → start ≤ next_after stops
  start_below [] = omega arith
  start_below (latest ∷ earlier) =
      let before = start_below earlier in
      omega (arith, next-∷ latest earlier)

  -- where a number lies that was given, and its stop
  pub record IsWithin (stops : List (List Thing)) (stop number : ℕ) : Type 0 where
    pub from_start : start ≤ number
    pub below_next : number < next_after stops
    pub from_first : 0 < stop
    pub to_last : stop ≤ length stops

  pub within : (stop number : ℕ) (stops : List (List Thing)) (thing : Thing) → Gave start stops stop number thing
      → IsWithin stops stop number
  within stop number [] thing gave = absurd (gave_none stop number thing gave)
  within stop number (latest ∷ earlier) thing gave =
      let next = next-∷ latest earlier in
      elim (latest_or_earlier stop number latest earlier thing gave) [
        | inl here ↦
            let stop_is = here.0 in
            let number_is = here.1.number_is in
            let below = start_below earlier in
            let inside = slice_get_within (distinct latest) here.1.at thing here.1.is in
            record {
              from_start = omega arith;
              below_next = omega arith;
              from_first = omega arith;
              to_last = omega arith;
            }
        | inr before ↦
            let also = within stop number earlier thing before in
            let from_start = also.from_start in
            let below_next = also.below_next in
            let to_last = also.to_last in
            record {
              from_start = from_start;
              below_next = omega arith;
              from_first = also.from_first;
              to_last = omega arith;
            }
      ]

  count-last : (n first : ℕ) (before : List ℕ)
      → stop_with (before ++ first ∷ []) n ≡ stop_with before n + cond {A = ℕ} (nat_le first n) 1 0
  count-last n first before = sum_by_push (λ first. cond (nat_le first n) 1 0) before first

  not_counted : (n first : ℕ) → n < first → cond {A = ℕ} (nat_le first n) 1 0 ≡ 0
  not_counted n first above = grind arith

  is_counted : (n first : ℕ) → first ≤ n → cond {A = ℕ} (nat_le first n) 1 0 ≡ 1
  is_counted n first below = grind arith

  -- how many stops began with a number or below it, of the latest and those before it
  count-∷ : (number : ℕ) (latest : List Thing) (earlier : List (List Thing))
      → stop_with (past_of start (latest ∷ earlier)).firsts number
      ≡ stop_with (past_of start earlier).firsts number + cond {A = ℕ} (nat_le (next_after earlier) number) 1 0
  count-∷ number latest earlier =
      ap (λ (l : List ℕ). stop_with l number) (firsts-∷ latest earlier)
      ∙ count-last number (next_after earlier) (past_of start earlier).firsts

  -- all stops began below the next number, and none below the first
  all_counted : (number : ℕ) (stops : List (List Thing)) → next_after stops ≤ number
      → stop_with (past_of start stops).firsts number ≡ length stops
  all_counted number [] below = refl
  all_counted number (latest ∷ earlier) below =
      let next = next-∷ latest earlier in
      let before = all_counted number earlier (omega arith) in
      let one = is_counted number (next_after earlier) (omega arith) in
      count-∷ number latest earlier ∙ omega arith

  pub none_counted : (number : ℕ) (stops : List (List Thing)) → number < start
      → stop_with (past_of start stops).firsts number ≡ 0
  none_counted number [] below = refl
  none_counted number (latest ∷ earlier) below =
      let before = none_counted number earlier below in
      let above = start_below earlier in
      let none = not_counted number (next_after earlier) (omega arith) in
      count-∷ number latest earlier ∙ omega arith

  -- the stop that gave a number is found by the first numbers
  pub stop_found : (stop number : ℕ) (stops : List (List Thing)) (thing : Thing)
      → Gave start stops stop number thing → stop_with (past_of start stops).firsts number ≡ stop
  stop_found stop number [] thing gave = absurd (gave_none stop number thing gave)
  stop_found stop number (latest ∷ earlier) thing gave =
      elim (latest_or_earlier stop number latest earlier thing gave) [
        | inl here ↦
            let stop_is = here.0 in
            let number_is = here.1.number_is in
            let all = all_counted number earlier (omega arith) in
            let one = is_counted number (next_after earlier) (omega arith) in
            count-∷ number latest earlier ∙ omega arith
        | inr before ↦
            let found = stop_found stop number earlier thing before in
            let below = (within stop number earlier thing before).below_next in
            let none = not_counted number (next_after earlier) below in
            count-∷ number latest earlier ∙ omega arith
      ]

  -- each number from the first to the one in front of the next was given
  pub given : (number : ℕ) (stops : List (List Thing)) → start ≤ number → number < next_after stops
      → (stop : ℕ) × (thing : Thing) × Gave start stops stop number thing
  given number [] from_start below_next = absurd (omega arith)
  given number (latest ∷ earlier) from_start below_next =
      by (given number earlier from_start) (nat_lt number (next_after earlier)) refl
    where
      by : (number < next_after earlier → (stop : ℕ) × (thing : Thing) × Gave start earlier stop number thing)
          → (b : Bool) → nat_lt number (next_after earlier) ≡ b
          → (stop : ℕ) × (thing : Thing) × Gave start (latest ∷ earlier) stop number thing
      by before true is =
          let found = before (ltb-true _ _ is) in
          (found.0, found.1, gave_earlier found.0 number latest earlier found.1 found.2)
      by before false is =
          let behind : next_after earlier ≤ number = ltb-false _ _ is in
          let next = next-∷ latest earlier in
          elim (slice_get_cases (distinct latest) (number - next_after earlier)).1 [
            | inl found ↦ (
              length earlier + 1,
              found.0,
              gave_latest number latest earlier found.0 (record {
                at = number - next_after earlier;
                number_is = omega arith;
                is = found.2;
              }),
            )
            | inr past ↦ absurd (let long = past.0 in omega arith)
          ]

  -- a number is given to one thing
  pub one_thing : (stop other number : ℕ) (stops : List (List Thing)) (thing another : Thing)
      → Gave start stops stop number thing → Gave start stops other number another → thing ≡ another
  one_thing stop other number [] thing another gave also = absurd (gave_none stop number thing gave)
  one_thing stop other number (latest ∷ earlier) thing another gave also =
      elim (latest_or_earlier stop number latest earlier thing gave) [
        | inl here ↦ elim (latest_or_earlier other number latest earlier another also) [
          | inl there ↦
              let number_is = here.1.number_is in
              let number_also = there.1.number_is in
              let same : here.1.at ≡ there.1.at = omega arith in
              let is = here.1.is in
              let is_also = there.1.is in
              cc (ap (slice_get (distinct latest)) same)
          | inr before ↦
              absurd (let number_is = here.1.number_is in
              let below = (within other number earlier another before).below_next in
              omega arith)
        ]
        | inr before ↦ elim (latest_or_earlier other number latest earlier another also) [
          | inl there ↦
              absurd (let number_is = there.1.number_is in
              let below = (within stop number earlier thing before).below_next in
              omega arith)
          | inr too ↦ one_thing stop other number earlier thing another before too
        ]
      ]

  -- a thing keeps its number within its stop
  pub one_number : (stop number other : ℕ) (stops : List (List Thing)) (thing : Thing)
      → Gave start stops stop number thing → Gave start stops stop other thing → number ≡ other
  one_number stop number other [] thing gave also = absurd (gave_none stop number thing gave)
  one_number stop number other (latest ∷ earlier) thing gave also =
      elim (latest_or_earlier stop number latest earlier thing gave) [
        | inl here ↦ elim (latest_or_earlier stop other latest earlier thing also) [
          | inl there ↦
              let same = one_place latest here.1.at there.1.at thing here.1.is there.1.is in
              let number_is = here.1.number_is in
              let other_is = there.1.number_is in
              omega arith
          | inr before ↦
              absurd (let stop_is = here.0 in
              let last = (within stop other earlier thing before).to_last in
              omega arith)
        ]
        | inr before ↦ elim (latest_or_earlier stop other latest earlier thing also) [
          | inl there ↦
              absurd (let stop_is = there.0 in
              let last = (within stop number earlier thing before).to_last in
              omega arith)
          | inr too ↦ one_number stop number other earlier thing before too
        ]
      ]
