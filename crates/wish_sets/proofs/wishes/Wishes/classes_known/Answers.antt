-- What is wanted is formed afresh, or else as it was.
use Rattle.std.proofs.Common.{◌++◌, ◌∙◌, ap, sym, subst, refl, ◌<◌, ◌^◌}
use Rattle.class_tables.specs.Lookups.{found_in}
use Rattle.wish_sets.specs.Bounds.{AreById, IsBound}
use Rattle.wish_sets.specs.Counts.{AreEarly}
use Rattle.wish_sets.specs.Entries.{entry_ids}
use Rattle.wish_sets.specs.Forming.{wished_or_installed}
use Rattle.wish_sets.specs.Kept.{wanted_by, wishes_by}
use Rattle.wish_sets.specs.Wishes.{rewished}
use Rattle.wish_sets.proofs.FormedKept.{in_order_now, wider_kept, wider_is, formed_kept, formed_is, few_wishes}
use Rattle.wish_sets.proofs.FormedKept.{nothing_else}
use Rattle.wish_sets.proofs.ShareLaws.{classes_are, places_stay}
use Rattle.wish_sets.proofs.ShiftLaws.{shifted_counts, shifted_formed, shifted_nothing, wider_counts}
use Rattle.wish_sets.proofs.TakenLaws.{known_is}
use Rattle.wish_sets.proofs.wishes.Wishes.classes_known.Goals as goal

pub returns-then-is_nothing-clause-ok : goal.returns-then-is_nothing-clause-ok
returns-then-is_nothing-clause-ok c =
    let before = wishes_by c.self.inside.wants (c.self.inside.slots.items ++ c.self.inside.fixed) in
    let nothing = rw c.deref-2.ensures.value at c.is_nothing.ensures.0 c.if-is_nothing.true in
    let same = rw (c.new-replaced.ensures.items, nothing) at c.know_all-told.ensures.back in
    rw (← c.self.view_is)
    (ap (λ classes. record before { wanted = record (wanted_by c.self.inside.wants) { classes = classes } }) same
    ∙ (nothing_else c.self.inside.wants c.self.inside.slots.items c.self.inside.fixed c.self.invariant.0
    ∙ (ap (λ classes. rewished (record (wanted_by c.self.inside.wants) { classes = classes }) before)
    (sym same ∙ c.in_default.ensures.ok)
    ∙ ap (λ wanted. rewished wanted before)
    (sym (known_is (found_in c.args.classes.now) c.args.those.now (wanted_by c.self.inside.wants))))))

pub returns-then-is_nothing-clause-bound : goal.returns-then-is_nothing-clause-bound
returns-then-is_nothing-clause-bound c =
    let before = wishes_by c.self.inside.wants (c.self.inside.slots.items ++ c.self.inside.fixed) in
    let nothing = rw c.deref-2.ensures.value at c.is_nothing.ensures.0 c.if-is_nothing.true in
    let same = rw (c.new-replaced.ensures.items, nothing) at c.know_all-told.ensures.back in
    subst (λ classes. wished_or_installed (record before {
      wanted = record (wanted_by c.self.inside.wants) { classes = classes };
    }) < 2 ^ 31) (sym same)
    (few_wishes c.self.inside.wants c.self.inside.slots.items c.self.inside.fixed c.self.invariant.0)

pub form-requires-clause-in_order : goal.form-requires-clause-in_order
form-requires-clause-in_order c =
    in_order_now c.self.inside.wants c.self.inside.wants refl refl refl c.self.inside.slots.items c.self.inside.fixed
    c.self.invariant.0

pub form-requires-clause-early : goal.form-requires-clause-early
form-requires-clause-early c = c.in_default.ensures.early (subst AreEarly (sym c.new-shift.ensures.added) tt)

pub invariant_of-self-in-Err-form : goal.invariant_of-self-in-Err-form
invariant_of-self-in-Err-form c =
    let back = rw c.new-replaced.ensures.items at c.know_all-told.ensures.back in
    rw (c.put_back-in-Err-form.ensures, back) (
      wider_kept c.self.inside.wants c.self.inside.wants refl refl
          refl c.self.inside.slots.items c.self.inside.fixed c.self.invariant.0 c.form.new.slots.items
          c.in-Err-form.ensures.err,
      subst (IsBound (wanted_by c.self.inside.wants)) (sym c.in-Err-form.ensures.same) c.self.invariant.1,
      c.in-Err-form.ensures.past,
      c.in-Err-form.ensures.owned,
      wider_counts (wanted_by c.self.inside.wants) c.self.inside.slots.items c.form.new.slots.items c.self.invariant.4
          c.in-Err-form.ensures.err,
    )

pub returns-in-Err-form-clause-err : goal.returns-in-Err-form-clause-err
returns-in-Err-form-clause-err c =
    let back = rw c.new-replaced.ensures.items at c.know_all-told.ensures.back in
    rw (c.put_back-in-Err-form.ensures, back) (wider_is c.self.inside.wants c.self.inside.wants refl refl
    refl c.self.inside.slots.items c.self.inside.fixed c.self.invariant.0 c.form.new.slots.items
    c.in-Err-form.ensures.err
    ∙ c.self.view_is)

pub invariant_of-self-in_default-form : goal.invariant_of-self-in_default-form
invariant_of-self-in_default-form c =
    let wants = c.self.inside.wants in
    let slots = c.self.inside.slots.items in
    let fixed = c.self.inside.fixed in
    let added = c.know_all-told.new.shift.added.items in
    let taken = c.know_all-told.new.shift.taken.items in
    let shift = classes_are (wanted_by wants) _ _ c.know_all-told.new.known.entries added taken _ _ c.deref.ensures.value
    c.as_slice.ensures c.in_default.ensures.shift c.new-shift.ensures.added c.new-shift.ensures.taken in
    let after = record wants { classes = c.know_all-told.new.known } in
    let ordered = in_order_now wants wants refl refl refl slots fixed c.self.invariant.0 in
    let formed = shifted_formed (wanted_by wants) (wanted_by after) added taken slots c.form.new.slots.items ordered
    c.self.invariant.4 shift c.in_default-form.ensures.ok in (
      formed_kept wants after refl refl refl slots fixed c.self.invariant.0 c.form.new.slots.items formed,
      c.in_default-form.ensures.places,
      c.in_default-form.ensures.past,
      c.in_default-form.ensures.owned,
      shifted_counts (wanted_by wants) (wanted_by after) added taken slots c.form.new.slots.items ordered
          c.self.invariant.4 shift c.in_default-form.ensures.ok,
    )

pub returns-clause-ok : goal.returns-clause-ok
returns-clause-ok c =
    let wants = c.self.inside.wants in
    let slots = c.self.inside.slots.items in
    let fixed = c.self.inside.fixed in
    let added = c.know_all-told.new.shift.added.items in
    let taken = c.know_all-told.new.shift.taken.items in
    let shift = classes_are (wanted_by wants) _ _ c.know_all-told.new.known.entries added taken _ _ c.deref.ensures.value
    c.as_slice.ensures c.in_default.ensures.shift c.new-shift.ensures.added c.new-shift.ensures.taken in
    let after = record wants { classes = c.know_all-told.new.known } in
    let ordered = in_order_now wants wants refl refl refl slots fixed c.self.invariant.0 in
    let formed = shifted_formed (wanted_by wants) (wanted_by after) added taken slots c.form.new.slots.items ordered
    c.self.invariant.4 shift c.in_default-form.ensures.ok in
    let before = wishes_by wants (slots ++ fixed) in
    rw (← c.self.view_is)
    (formed_is wants after refl refl refl slots fixed c.self.invariant.0 c.form.new.slots.items formed
    ∙ (ap (λ classes. rewished (record (wanted_by wants) { classes = classes }) before)
    c.in_default.ensures.ok
    ∙ ap (λ wanted. rewished wanted before)
    (sym (known_is (found_in c.args.classes.now) c.args.those.now (wanted_by wants)))))

pub returns-clause-bound : goal.returns-clause-bound
returns-clause-bound c =
    let wants = c.self.inside.wants in
    let slots = c.self.inside.slots.items in
    let fixed = c.self.inside.fixed in
    let added = c.know_all-told.new.shift.added.items in
    let taken = c.know_all-told.new.shift.taken.items in
    let shift = classes_are (wanted_by wants) _ _ c.know_all-told.new.known.entries added taken _ _ c.deref.ensures.value
    c.as_slice.ensures c.in_default.ensures.shift c.new-shift.ensures.added c.new-shift.ensures.taken in
    let after = record wants { classes = c.know_all-told.new.known } in
    let ordered = in_order_now wants wants refl refl refl slots fixed c.self.invariant.0 in
    let formed = shifted_formed (wanted_by wants) (wanted_by after) added taken slots c.form.new.slots.items ordered
    c.self.invariant.4 shift c.in_default-form.ensures.ok in
    few_wishes after c.form.new.slots.items fixed
    (formed_kept wants after refl refl refl slots fixed c.self.invariant.0 c.form.new.slots.items formed)

-- Nothing is wished more or less

pub invariant_of-self-then-is_nothing-2 : goal.invariant_of-self-then-is_nothing-2
invariant_of-self-then-is_nothing-2 c =
    let wants = c.self.inside.wants in
    let slots = c.self.inside.slots.items in
    let fixed = c.self.inside.fixed in
    let added = c.know_all-told.new.shift.added.items in
    let taken = c.know_all-told.new.shift.taken.items in
    let shift = classes_are (wanted_by wants) _ _ c.know_all-told.new.known.entries added taken _ _
    c.deref.ensures.value c.as_slice.ensures c.in_default.ensures.shift c.new-shift.ensures.added
    c.new-shift.ensures.taken in
    let after = record wants { classes = c.know_all-told.new.known } in
    let ordered = in_order_now wants wants refl refl refl slots fixed c.self.invariant.0 in
    let nothing = c.is_nothing-2.ensures.0 c.if-is_nothing-2.true in
    let is = shifted_nothing added taken slots ordered nothing.0 nothing.1 in
    let formed = shifted_formed (wanted_by wants) (wanted_by after) added taken slots slots ordered
    c.self.invariant.4 shift is in (
      formed_kept wants after refl refl refl slots fixed c.self.invariant.0 slots formed,
      subst (λ those. AreById (entry_ids (wanted_by wants)) those c.self.inside.bound)
          (sym (places_stay (wanted_by wants) _ _ c.know_all-told.new.known.entries added taken _ _
          c.deref.ensures.value c.as_slice.ensures c.in_default.ensures.shift c.new-shift.ensures.added
          c.new-shift.ensures.taken nothing.0 nothing.1)) c.self.invariant.1,
      c.self.invariant.2,
      c.self.invariant.3,
      shifted_counts (wanted_by wants) (wanted_by after) added taken slots slots ordered c.self.invariant.4 shift is,
    )

pub returns-then-is_nothing-2-clause-ok : goal.returns-then-is_nothing-2-clause-ok
returns-then-is_nothing-2-clause-ok c =
    let wants = c.self.inside.wants in
    let slots = c.self.inside.slots.items in
    let fixed = c.self.inside.fixed in
    let added = c.know_all-told.new.shift.added.items in
    let taken = c.know_all-told.new.shift.taken.items in
    let shift = classes_are (wanted_by wants) _ _ c.know_all-told.new.known.entries added taken _ _
    c.deref.ensures.value c.as_slice.ensures c.in_default.ensures.shift c.new-shift.ensures.added
    c.new-shift.ensures.taken in
    let after = record wants { classes = c.know_all-told.new.known } in
    let ordered = in_order_now wants wants refl refl refl slots fixed c.self.invariant.0 in
    let nothing = c.is_nothing-2.ensures.0 c.if-is_nothing-2.true in
    let is = shifted_nothing added taken slots ordered nothing.0 nothing.1 in
    let formed = shifted_formed (wanted_by wants) (wanted_by after) added taken slots slots ordered
    c.self.invariant.4 shift is in
    let before = wishes_by wants (slots ++ fixed) in
    rw (← c.self.view_is)
    (formed_is wants after refl refl refl slots fixed c.self.invariant.0 slots formed
    ∙ (ap (λ classes. rewished (record (wanted_by wants) { classes = classes }) before)
    c.in_default.ensures.ok
    ∙ ap (λ wanted. rewished wanted before)
    (sym (known_is (found_in c.args.classes.now) c.args.those.now (wanted_by wants)))))

pub returns-then-is_nothing-2-clause-bound : goal.returns-then-is_nothing-2-clause-bound
returns-then-is_nothing-2-clause-bound c =
    let wants = c.self.inside.wants in
    let slots = c.self.inside.slots.items in
    let fixed = c.self.inside.fixed in
    let added = c.know_all-told.new.shift.added.items in
    let taken = c.know_all-told.new.shift.taken.items in
    let shift = classes_are (wanted_by wants) _ _ c.know_all-told.new.known.entries added taken _ _
    c.deref.ensures.value c.as_slice.ensures c.in_default.ensures.shift c.new-shift.ensures.added
    c.new-shift.ensures.taken in
    let after = record wants { classes = c.know_all-told.new.known } in
    let ordered = in_order_now wants wants refl refl refl slots fixed c.self.invariant.0 in
    let nothing = c.is_nothing-2.ensures.0 c.if-is_nothing-2.true in
    let is = shifted_nothing added taken slots ordered nothing.0 nothing.1 in
    let formed = shifted_formed (wanted_by wants) (wanted_by after) added taken slots slots ordered
    c.self.invariant.4 shift is in
    few_wishes after slots fixed
    (formed_kept wants after refl refl refl slots fixed c.self.invariant.0 slots formed)
