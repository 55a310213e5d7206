-- The places that are kept are those of what is wanted, and slots stand in wish order.
use Rattle.std.proofs.Common.{◌∙◌, ◌++◌, refl, ap, sym, Some}
use Rattle.std.specs.Prelude.{◌==◌, ◌&&◌}
use Rattle.std.specs.List.{list_any}
use Rattle.std.proofs.lemmas.List.Sorted.{list_any-IsPermutation}
use Rattle.wish_sets.specs.declared.place.Place.{Place}
use Rattle.wish_sets.specs.declared.wish.Wish.TheVariants as wishes
use Rattle.wish_sets.specs.Entries.{entry_ids, has_location}
use Rattle.wish_sets.specs.Kept.{wanted_by}
use Rattle.wish_sets.specs.Places.{places}
use Rattle.wish_sets.specs.Slots.{requests_in, refusals_in}
use Rattle.wish_sets.proofs.SortedLaws.{both_sorted}
use Rattle.wish_sets.proofs.StandingLaws.{state_same}
use Rattle.wish_sets.proofs.wishes.Wishes.state_of.Goals as goal

pub returns-then-not-has_id : goal.returns-then-not-has_id
returns-then-not-has_id c =
    let listed = c.if-not-has_id.ensures ∙ (ap (list_any (λ other. other == c.args.id)) c.deref.ensures.value
    ∙ sym (list_any-IsPermutation (λ other. other == c.args.id) (entry_ids (wanted_by c.self.inside.wants))
    c.self.inside.bound.ids.items c.self.invariant.1.ids)) in
    rw (← c.self.view_is, ← listed) refl

pub entry_state-requires : goal.entry_state-requires
entry_state-requires c =
    rw c.deref-3.ensures.value (both_sorted c.self.inside.slots.items c.self.inside.fixed c.self.invariant.0.sorted)

pub returns : goal.returns
returns c =
    let listed = c.if-not-has_id.ensures ∙ (ap (list_any (λ other. other == c.args.id)) c.deref.ensures.value
    ∙ sym (list_any-IsPermutation (λ other. other == c.args.id) (entry_ids (wanted_by c.self.inside.wants))
    c.self.inside.bound.ids.items c.self.invariant.1.ids)) in
    let state = rw c.deref-3.ensures.value at c.entry_state.ensures in
    let slots = c.self.inside.slots.items ++ c.self.inside.fixed in
    rw (← c.self.view_is, ← listed)
    (ap Some (state ∙ state_same c.of_id-places.result.now (places (wanted_by c.self.inside.wants)) c.args.id
    (requests_in slots) (refusals_in slots)
    (λ test. c.of_id-places.ensures test
    ∙ (ap (λ those. has_location those c.args.id test) c.deref-2.ensures.value
    ∙ sym (list_any-IsPermutation (λ (place : Place). (place.id == c.args.id) && test (wishes.Stop place.at))
    (places (wanted_by c.self.inside.wants)) c.self.inside.bound.by_id.items c.self.invariant.1.by_id)))))
