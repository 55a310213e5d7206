-- What is wanted changes by the share of the functions, or else stays as it was.
use Rattle.std.proofs.Common.{◌∙◌, ap, refl, subst, sym}
use Rattle.wish_sets.specs.Bounds.{IsBound}
use Rattle.wish_sets.specs.Counts.{function_share, AreEarly}
use Rattle.wish_sets.specs.Kept.{wanted_by}
use Rattle.wish_sets.proofs.FormedKept.{in_order_now, wider_kept, wider_is, formed_kept, formed_is, few_wishes}
use Rattle.wish_sets.proofs.ShareLaws.{functions_are, function_share_early}
use Rattle.wish_sets.proofs.ShiftLaws.{shifted_counts, shifted_formed, wider_counts}
use Rattle.wish_sets.proofs.wishes.Wishes.set_functions.Goals as goal

pub form-requires-clause-in_order : goal.form-requires-clause-in_order
form-requires-clause-in_order c =
    in_order_now c.self.inside.wants c.self.inside.wants refl refl refl c.self.inside.slots.items c.self.inside.fixed
    c.self.invariant.0

pub form-requires-clause-early : goal.form-requires-clause-early
form-requires-clause-early c =
    subst AreEarly (sym c.in_ok-shift.ensures.added)
    (function_share_early c.self.inside.wants.classes.entries c.as_slice.result.now)

pub invariant_of-self : goal.invariant_of-self
invariant_of-self c =
    rw c.replace-before.ensures.value (
      wider_kept c.self.inside.wants c.self.inside.wants refl refl refl
          c.self.inside.slots.items c.self.inside.fixed c.self.invariant.0 c.form.new.slots.items c.in-Err.ensures.err,
      subst (IsBound (wanted_by c.self.inside.wants)) (sym c.in-Err.ensures.same) c.self.invariant.1,
      c.in-Err.ensures.past,
      c.in-Err.ensures.owned,
      wider_counts (wanted_by c.self.inside.wants) c.self.inside.slots.items c.form.new.slots.items c.self.invariant.4
          c.in-Err.ensures.err,
    )

pub returns-in-Err-clause-err : goal.returns-in-Err-clause-err
returns-in-Err-clause-err c =
    rw c.replace-before.ensures.value (wider_is c.self.inside.wants c.self.inside.wants refl refl refl
    c.self.inside.slots.items c.self.inside.fixed c.self.invariant.0 c.form.new.slots.items c.in-Err.ensures.err
    ∙ c.self.view_is)

pub invariant_of-self-in_default : goal.invariant_of-self-in_default
invariant_of-self-in_default c =
    let wants = c.self.inside.wants in
    let slots = c.self.inside.slots.items in
    let fixed = c.self.inside.fixed in
    let added = c.in_ok-shift.shift.added.items in
    let taken = c.in_ok-shift.shift.taken.items in
    let shift = functions_are c.replace-before.new.dest (wanted_by wants) added taken
    (c.in_ok-shift.ensures.added ∙ ap (function_share wants.classes.entries)
    (c.as_slice.ensures ∙ sym c.replace-before.ensures.after)) c.in_ok-shift.ensures.taken in
    let after = record wants { functions = c.replace-before.new.dest } in
    let ordered = in_order_now wants wants refl refl refl slots fixed c.self.invariant.0 in
    let formed = shifted_formed (wanted_by wants) (wanted_by after) added taken slots c.form.new.slots.items ordered
    c.self.invariant.4 shift c.in_default.ensures.ok in (
      formed_kept wants after refl refl refl slots fixed c.self.invariant.0 c.form.new.slots.items formed,
      c.in_default.ensures.places,
      c.in_default.ensures.past,
      c.in_default.ensures.owned,
      shifted_counts (wanted_by wants) (wanted_by after) added taken slots c.form.new.slots.items ordered
          c.self.invariant.4 shift c.in_default.ensures.ok,
    )

pub returns-clause-ok : goal.returns-clause-ok
returns-clause-ok c =
    let wants = c.self.inside.wants in
    let slots = c.self.inside.slots.items in
    let fixed = c.self.inside.fixed in
    let added = c.in_ok-shift.shift.added.items in
    let taken = c.in_ok-shift.shift.taken.items in
    let shift = functions_are c.replace-before.new.dest (wanted_by wants) added taken
    (c.in_ok-shift.ensures.added ∙ ap (function_share wants.classes.entries)
    (c.as_slice.ensures ∙ sym c.replace-before.ensures.after)) c.in_ok-shift.ensures.taken in
    let after = record wants { functions = c.replace-before.new.dest } in
    let ordered = in_order_now wants wants refl refl refl slots fixed c.self.invariant.0 in
    let formed = shifted_formed (wanted_by wants) (wanted_by after) added taken slots c.form.new.slots.items ordered
    c.self.invariant.4 shift c.in_default.ensures.ok in
    rw (← c.self.view_is, ← c.replace-before.ensures.after)
    (formed_is wants after refl refl refl slots fixed c.self.invariant.0 c.form.new.slots.items formed)

pub returns-clause-bound : goal.returns-clause-bound
returns-clause-bound c =
    let wants = c.self.inside.wants in
    let slots = c.self.inside.slots.items in
    let fixed = c.self.inside.fixed in
    let added = c.in_ok-shift.shift.added.items in
    let taken = c.in_ok-shift.shift.taken.items in
    let shift = functions_are c.replace-before.new.dest (wanted_by wants) added taken
    (c.in_ok-shift.ensures.added ∙ ap (function_share wants.classes.entries)
    (c.as_slice.ensures ∙ sym c.replace-before.ensures.after)) c.in_ok-shift.ensures.taken in
    let after = record wants { functions = c.replace-before.new.dest } in
    let ordered = in_order_now wants wants refl refl refl slots fixed c.self.invariant.0 in
    let formed = shifted_formed (wanted_by wants) (wanted_by after) added taken slots c.form.new.slots.items ordered
    c.self.invariant.4 shift c.in_default.ensures.ok in
    few_wishes after c.form.new.slots.items fixed
    (formed_kept wants after refl refl refl slots fixed c.self.invariant.0 c.form.new.slots.items formed)
