-- Composites wait in the order in which they came: none stands behind one that can't be read yet.
use Rattle.std.proofs.Common.{◌≡◌, Bool, true, false, cond, not, ◌||◌, List, [], ◌∷◌, ◌++◌, Option, Some, None, refl}
use Rattle.std.proofs.Common.{sym, ap, subst, ◌∙◌, append-nil, arith, ℕ}
use Rattle.std.specs.List.{flat_map}
use Rattle.std.proofs.lemmas.Grind.{flat_map-append}
use Rattle.machine_model.specs.Due.{Picked, can_read, passed_by, pick}
use Rattle.machine_model.specs.Knowing.{composite_in}
use Rattle.machine_model.specs.Runs.{Message}
use Rattle.machine_model.specs.State.{Machine, has_raw, is_gone, is_raw, is_some}
use Rattle.machine_steps.specs.Names.{Composite, Item, a_composite, a_raw, a_request, target_end}
use Rattle.machine_steps.proofs.RequestSteps.{near_before}
use Rattle.machine_steps.proofs.ServedLaws.{picked_all}
use Rattle.machine_steps.proofs.Stepping.{Moves}

abbrev pub is_composite : Item → Bool
is_composite (a_composite at composite) = true
is_composite _ = false

abbrev pub has_composite : List Item → Bool
has_composite [] = false
has_composite (item ∷ items) = is_composite item || has_composite items

-- behind the first raw one stands no composite
abbrev pub in_order : List Item → Bool
in_order [] = true
in_order (item ∷ items) = cond (is_raw item) (not (has_composite items)) (in_order items)

-- Lists ---------------------------------------------------------------------------------------------------------------

none_raw : (items : List Item) → has_raw items ≡ false → in_order items ≡ true
none_raw [] is = refl
none_raw (item ∷ items) is = grind (arith, is, none_raw items)

no_composite : (items : List Item) → has_composite items ≡ false → in_order items ≡ true
no_composite [] is = refl
no_composite (item ∷ items) is = grind (arith, is, no_composite items)

pub has_more : (items : List Item) (item : Item) → is_composite item ≡ false
    → has_composite (items ++ item ∷ []) ≡ has_composite items
has_more [] item is = rw is refl
has_more (first ∷ items) item is = ap (λ (b : Bool). is_composite first || b) (has_more items item is)

-- what is no composite stands behind all
one_more : (items : List Item) (item : Item) → is_composite item ≡ false → in_order items ≡ true
    → in_order (items ++ item ∷ []) ≡ true
one_more [] item is h = grind arith
one_more (first ∷ items) item is h = grind (arith, h, has_more items item is, one_more items item is)

pub raw_more : (items : List Item) (item : Item) → is_raw item ≡ false → has_raw items ≡ false
    → has_raw (items ++ item ∷ []) ≡ false
raw_more [] item is none = rw is refl
raw_more (first ∷ items) item is none = grind (arith, is, none, raw_more items item is)

-- the first raw one is read
one_read : (before after : List Item) (raw item : Item) → is_raw raw ≡ true → is_raw item ≡ false
    → has_raw before ≡ false → in_order (before ++ raw ∷ after) ≡ true → in_order (before ++ item ∷ after) ≡ true
one_read [] after raw item is other none h = grind (arith, is, other, h, no_composite after)
one_read (first ∷ before) after raw item is other none h =
    grind (arith, none, h, one_read before after raw item is other)

last_read : (before after : List Item) (raw : Item) → is_raw raw ≡ true → has_raw before ≡ false
    → in_order (before ++ raw ∷ after) ≡ true → has_composite after ≡ false
last_read [] after raw is none h = grind (arith, is, h)
last_read (first ∷ before) after raw is none h = grind (arith, none, h, last_read before after raw is)

pub has_rest : (gone : Bool) (items : List Item) (picked : Picked) → pick gone items ≡ Some picked
    → has_composite items ≡ false → has_composite picked.rest ≡ false
has_rest gone [] picked is none = cc
has_rest gone (item ∷ items) picked is none =
    by_raw (cond gone false (is_raw item)) (pick gone items) (has_rest gone items) is
    (first_of (is_composite item) (has_composite items) none) (rest_of (is_composite item) (has_composite items) none)
  where
    first_of : (first rest : Bool) → (first || rest) ≡ false → first ≡ false
    first_of first rest is = grind (arith, is)

    rest_of : (first rest : Bool) → (first || rest) ≡ false → rest ≡ false
    rest_of first rest is = grind (arith, is)

    by_raw : (raw : Bool) (found : Option Picked)
        → ((other : Picked) → found ≡ Some other → has_composite items ≡ false → has_composite other.rest ≡ false)
        → cond raw (passed_by item found) (Some (record { item = item; rest = items })) ≡ Some picked
        → is_composite item ≡ false → has_composite items ≡ false → has_composite picked.rest ≡ false
    by_raw true None rest is first none = cc
    by_raw true (Some other) rest is first none =
        let one : record { item = other.item; rest = item ∷ other.rest } ≡ picked = cc in
        subst (λ (picked : Picked). has_composite picked.rest ≡ false) one (rw first (rest other refl none))
    by_raw false found rest is first none =
        let one : record { item = item; rest = items } ≡ picked = cc in
        subst (λ (picked : Picked). has_composite picked.rest ≡ false) one none

order_rest : (gone : Bool) (items : List Item) (picked : Picked) → pick gone items ≡ Some picked
    → in_order items ≡ true → in_order picked.rest ≡ true
order_rest gone [] picked is h = cc
order_rest gone (item ∷ items) picked is h =
    by_raw (is_raw item) (cond gone false (is_raw item)) refl (pick gone items) refl (order_rest gone items) is h
  where
    by_raw : (raw skips : Bool) → is_raw item ≡ raw → (found : Option Picked) → pick gone items ≡ found
        → ((other : Picked) → pick gone items ≡ Some other → in_order items ≡ true → in_order other.rest ≡ true)
        → cond skips (passed_by item found) (Some (record { item = item; rest = items })) ≡ Some picked
        → cond raw (not (has_composite items)) (in_order items) ≡ true → in_order picked.rest ≡ true
    by_raw raw true is None are again now h = cc
    by_raw true true is (Some other) are again now h =
        let one : record { item = other.item; rest = item ∷ other.rest } ≡ picked = cc in
        let none : has_composite items ≡ false = grind (arith, h) in
        subst (λ (picked : Picked). in_order picked.rest ≡ true) one
        (rw is (ap not (has_rest gone items other are none)))
    by_raw false true is (Some other) are again now h =
        let one : record { item = other.item; rest = item ∷ other.rest } ≡ picked = cc in
        subst (λ (picked : Picked). in_order picked.rest ≡ true) one (rw is (again other are h))
    by_raw true false is found are again now h =
        let one : record { item = item; rest = items } ≡ picked = cc in
        let none : has_composite items ≡ false = grind (arith, h) in
        subst (λ (picked : Picked). in_order picked.rest ≡ true) one (no_composite items none)
    by_raw false false is found are again now h =
        let one : record { item = item; rest = items } ≡ picked = cc in
        subst (λ (picked : Picked). in_order picked.rest ≡ true) one h

-- Runs ----------------------------------------------------------------------------------------------------------------

-- while the target isn't gone, composites wait in order
abbrev pub IsInOrder : Machine → Type 0
IsInOrder m = cond (is_gone m.state.phase) true (in_order m.waiting) ≡ true

pub waits_in_order : (m : Machine) → IsInOrder m → is_gone m.state.phase ≡ false → in_order m.waiting ≡ true
waits_in_order m h near = grind (arith, h, near)

-- all composites are read where one that comes may be
unread : (m : Machine) → can_read m ≡ false → is_gone m.state.phase ≡ false → is_some m.state.sizes ≡ true
    → has_raw m.waiting ≡ false
unread m read near sized = grind (arith, read, near, sized)

waits_on : (m next : Machine) (said : Option Message) → in_order m.waiting ≡ true
    → is_gone m.state.phase ≡ false → is_gone next.state.phase ≡ false → Moves m said next
    → in_order next.waiting ≡ true
waits_on m next said h near here (Moves.begins picked free none is) =
    order_rest (is_gone m.state.phase) m.waiting picked is h
waits_on m next said h near here (Moves.hears {request} read is) = one_more m.waiting (a_request request) refl h
waits_on m next said h near here (Moves.comes {at} {composite} read sized taken) =
    none_raw (m.waiting ++ a_composite at composite ∷ [])
    (raw_more m.waiting (a_composite at composite) refl (unread m read near sized))
waits_on m next said h near here (Moves.keeps {at} {body} is) = one_more m.waiting (a_raw at body) refl h
waits_on m next said h near here (Moves.reads {at} {body} {composite} before after read is none taken) =
    one_read before after (a_raw at body) (a_composite at composite) refl refl none
    (subst (λ (items : List Item). in_order items ≡ true) is h)
waits_on m next said h near here (Moves.loses late away why) = cc
waits_on m next said h near here _ = h

pub ordered_on : (m next : Machine) (said : Option Message) → IsInOrder m → Moves m said next → IsInOrder next
ordered_on m next said h moved = by_gone (is_gone next.state.phase) refl
  where
    by_gone : (gone : Bool) → is_gone next.state.phase ≡ gone → cond gone true (in_order next.waiting) ≡ true
    by_gone true here = refl
    by_gone false here = let near = near_before m next said moved here in
        waits_on m next said (waits_in_order m h near) near here moved

-- Composites in order -------------------------------------------------------------------------------------------------

raw_none : (item : Item) → is_raw item ≡ true → composite_in item ≡ []
raw_none item is = grind (arith, is)

-- the first that waits is at its turn
pub picked_composites : (gone : Bool) (waiting : List Item) (picked : Picked) → pick gone waiting ≡ Some picked
    → flat_map composite_in waiting ≡ composite_in picked.item ++ flat_map composite_in picked.rest
picked_composites gone waiting picked is = picked_all composite_in gone waiting picked raw_none is

none_after : (items : List Item) → has_composite items ≡ false → flat_map composite_in items ≡ []
none_after [] is = refl
none_after (a_composite at composite ∷ items) is = cc
none_after (a_request request ∷ items) is = none_after items is
none_after (a_raw at body ∷ items) is = none_after items is
none_after (target_end ∷ items) is = none_after items is

-- one that is read stands behind all that were
pub read_composites : (before after : List Item) (raw : Item) (at : ℕ) (composite : Composite) → is_raw raw ≡ true
    → has_raw before ≡ false → in_order (before ++ raw ∷ after) ≡ true
    → flat_map composite_in (before ++ a_composite at composite ∷ after)
    ≡ flat_map composite_in (before ++ raw ∷ after) ++ composite ∷ []
read_composites before after raw at composite is none h =
    let last = none_after after (last_read before after raw is none h) in
    flat_map-append composite_in before (a_composite at composite ∷ after)
    ∙ ap (λ (others : List Composite). flat_map composite_in before ++ composite ∷ others) last
    ∙ sym (ap (λ (all : List Composite). all ++ composite ∷ []) (flat_map-append composite_in before (raw ∷ after)
    ∙ ap (λ (others : List Composite). flat_map composite_in before ++ others)
    (rw (raw_none raw is) last) ∙ append-nil (flat_map composite_in before)))
