-- What is wanted changes by the share of the list, or else stays as it was.
use Rattle.std.proofs.Common.{◌++◌, ◌∙◌, ap, refl, subst, sym}
use Rattle.std.specs.Prelude.{bytes_eq}
use Rattle.wish_sets.specs.Bounds.{IsBound}
use Rattle.wish_sets.specs.Counts.{list_share, AreEarly}
use Rattle.wish_sets.specs.Kept.{wanted_by, wishes_by}
use Rattle.wish_sets.specs.Wishes.{rewished}
use Rattle.wish_sets.proofs.FormedKept.{in_order_now, wider_kept, wider_is, formed_kept, formed_is, few_wishes}
use Rattle.wish_sets.proofs.ShareLaws.{lines_are, list_share_early}
use Rattle.wish_sets.proofs.ShiftLaws.{shifted_counts, shifted_formed, wider_counts}
use Rattle.wish_sets.proofs.TableLaws.{put_is}
use Rattle.wish_sets.proofs.wishes.Wishes.set_lines.Goals as goal

pub lines_shift-requires : goal.lines_shift-requires
lines_shift-requires c = rw c.deref.ensures.value at c.list_at-at.ensures.place

pub form-requires-clause-in_order : goal.form-requires-clause-in_order
form-requires-clause-in_order c =
    in_order_now c.self.inside.wants c.self.inside.wants refl refl refl c.self.inside.slots.items c.self.inside.fixed
    c.self.invariant.0

pub form-requires-clause-early : goal.form-requires-clause-early
form-requires-clause-early c =
    subst AreEarly (sym c.in_ok-shift.ensures.added)
    (list_share_early c.self.inside.wants.classes.entries (c.args.key, c.as_slice.result.now))

pub invariant_of-self-in-Err : goal.invariant_of-self-in-Err
invariant_of-self-in-Err c =
    rw (c.take_back.ensures, c.in_ok-before.ensures.back) (
      wider_kept c.self.inside.wants c.self.inside.wants refl refl
          refl c.self.inside.slots.items c.self.inside.fixed c.self.invariant.0 c.form.new.slots.items
          c.in-Err.ensures.err,
      subst (IsBound (wanted_by c.self.inside.wants)) (sym c.in-Err.ensures.same) c.self.invariant.1,
      c.in-Err.ensures.past,
      c.in-Err.ensures.owned,
      wider_counts (wanted_by c.self.inside.wants) c.self.inside.slots.items c.form.new.slots.items c.self.invariant.4
          c.in-Err.ensures.err,
    )

pub returns-in-Err-clause-err : goal.returns-in-Err-clause-err
returns-in-Err-clause-err c =
    rw (c.take_back.ensures, c.in_ok-before.ensures.back) (wider_is c.self.inside.wants c.self.inside.wants refl refl
    refl c.self.inside.slots.items c.self.inside.fixed c.self.invariant.0 c.form.new.slots.items c.in-Err.ensures.err
    ∙ c.self.view_is)

pub invariant_of-self-in_default : goal.invariant_of-self-in_default
invariant_of-self-in_default c =
    let wants = c.self.inside.wants in
    let slots = c.self.inside.slots.items in
    let place = rw c.deref.ensures.value at c.list_at-at.ensures.place in
    let lists = c.in_ok-before.ensures.ok ∙ put_is bytes_eq c.args.key c.args.entries wants.lists.items
    c.list_at-at.result place in
    let shift = lines_are c.args.key c.args.entries (wanted_by wants) c.put_at.new.entries.items
    c.in_ok-shift.shift.added.items c.in_ok-shift.shift.taken.items lists
    (c.in_ok-shift.ensures.added ∙ ap (λ those. list_share wants.classes.entries (c.args.key, those)) c.as_slice.ensures)
    c.in_ok-shift.ensures.taken in
    let after = record wants { lists = c.put_at.new.entries } in
    let ordered = in_order_now wants wants refl refl refl slots c.self.inside.fixed c.self.invariant.0 in (
      formed_kept wants after refl refl refl slots c.self.inside.fixed c.self.invariant.0 c.form.new.slots.items
          (shifted_formed (wanted_by wants) (wanted_by after) c.in_ok-shift.shift.added.items
          c.in_ok-shift.shift.taken.items slots c.form.new.slots.items ordered c.self.invariant.4 shift
          c.in_default.ensures.ok),
      c.in_default.ensures.places,
      c.in_default.ensures.past,
      c.in_default.ensures.owned,
      shifted_counts (wanted_by wants) (wanted_by after) c.in_ok-shift.shift.added.items
          c.in_ok-shift.shift.taken.items slots c.form.new.slots.items ordered c.self.invariant.4 shift
          c.in_default.ensures.ok,
    )

pub returns-clause-ok : goal.returns-clause-ok
returns-clause-ok c =
    let wants = c.self.inside.wants in
    let slots = c.self.inside.slots.items in
    let fixed = c.self.inside.fixed in
    let place = rw c.deref.ensures.value at c.list_at-at.ensures.place in
    let lists = c.in_ok-before.ensures.ok ∙ put_is bytes_eq c.args.key c.args.entries wants.lists.items
    c.list_at-at.result place in
    let shift = lines_are c.args.key c.args.entries (wanted_by wants) c.put_at.new.entries.items
    c.in_ok-shift.shift.added.items c.in_ok-shift.shift.taken.items lists
    (c.in_ok-shift.ensures.added ∙ ap (λ those. list_share wants.classes.entries (c.args.key, those)) c.as_slice.ensures)
    c.in_ok-shift.ensures.taken in
    let after = record wants { lists = c.put_at.new.entries } in
    let ordered = in_order_now wants wants refl refl refl slots fixed c.self.invariant.0 in
    rw (← c.self.view_is)
    (formed_is wants after refl refl refl slots fixed c.self.invariant.0 c.form.new.slots.items
    (shifted_formed (wanted_by wants) (wanted_by after) c.in_ok-shift.shift.added.items
    c.in_ok-shift.shift.taken.items slots c.form.new.slots.items ordered c.self.invariant.4 shift
    c.in_default.ensures.ok)
    ∙ ap (λ lists. rewished (record (wanted_by wants) { lists = lists }) (wishes_by wants (slots ++ fixed))) lists)

pub returns-clause-bound : goal.returns-clause-bound
returns-clause-bound c =
    let wants = c.self.inside.wants in
    let slots = c.self.inside.slots.items in
    let fixed = c.self.inside.fixed in
    let place = rw c.deref.ensures.value at c.list_at-at.ensures.place in
    let lists = c.in_ok-before.ensures.ok ∙ put_is bytes_eq c.args.key c.args.entries wants.lists.items
    c.list_at-at.result place in
    let shift = lines_are c.args.key c.args.entries (wanted_by wants) c.put_at.new.entries.items
    c.in_ok-shift.shift.added.items c.in_ok-shift.shift.taken.items lists
    (c.in_ok-shift.ensures.added ∙ ap (λ those. list_share wants.classes.entries (c.args.key, those)) c.as_slice.ensures)
    c.in_ok-shift.ensures.taken in
    let after = record wants { lists = c.put_at.new.entries } in
    let ordered = in_order_now wants wants refl refl refl slots fixed c.self.invariant.0 in
    few_wishes after c.form.new.slots.items fixed
    (formed_kept wants after refl refl refl slots fixed c.self.invariant.0 c.form.new.slots.items
    (shifted_formed (wanted_by wants) (wanted_by after) c.in_ok-shift.shift.added.items
    c.in_ok-shift.shift.taken.items slots c.form.new.slots.items ordered c.self.invariant.4 shift
    c.in_default.ensures.ok))
