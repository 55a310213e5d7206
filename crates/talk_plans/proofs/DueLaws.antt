-- What is due in the machine, by the talk about the item in hand, or by the items that wait.
use Rattle.std.proofs.Common.{◌≡◌, Bool, true, false, cond, Option, Some, None, refl, ap, ◌∙◌}
use Rattle.machine_model.specs.Due.{Load, Picked, busy, can_read, clear, due, due_as, due_by, gated, hand_load}
use Rattle.machine_model.specs.Due.{is_full, lets, load_of, next_item, pick, wanted, wanted_in}
use Rattle.machine_model.specs.State.{Hand, Machine, has_raw, is_gone, is_some}
use Rattle.machine_model.specs.declared.acts.Act.{Act}
use Rattle.talk_plans.specs.Talking.{holding, load_for, talk_due}

-- what hinders the talk hinders the machine
load_is : (m : Machine) (hand : Hand) → m.hand ≡ Some hand → can_read m ≡ false → load_of m ≡ load_for m.state hand
unfolding load_of
load_is m hand is read = rw (read, is) refl

-- the machine holds the item that it has in hand
held : (m : Machine) (hand : Hand) → m.hand ≡ Some hand → m ≡ holding m m.state hand
held m hand is = ap (λ (one : Option Hand). record m { hand = one }) is

pub talk_is_due : (id_pending : Bool) (m : Machine) (hand : Hand) → m.hand ≡ Some hand → can_read m ≡ false
    → due id_pending m ≡ talk_due (is_full id_pending m) m m.state hand
unfolding due
talk_is_due id_pending m hand is read =
    ap (λ (load : Load). due_by (is_full id_pending m) load m) (load_is m hand is read)
    ∙ ap (λ (there : Machine). due_by (is_full id_pending m) (load_for m.state hand) there) (held m hand is)

-- nothing hinders a machine with no item in hand
none_hinders : (m : Machine) → m.hand ≡ None → can_read m ≡ false → load_of m ≡ clear
unfolding load_of
none_hinders m is read = rw (read, is) (by_gone (is_gone m.state.phase))
  where
    by_gone : (gone : Bool) → cond gone clear clear ≡ clear
    by_gone true = refl
    by_gone false = refl

-- an item is begun in a target that is gone too
lets_item : (m : Machine) (gone : Bool) (picked : Option Picked)
    → gated (lets gone (next_item m picked).act) m (next_item m picked) ≡ next_item m picked
lets_item m gone None = refl
lets_item m gone (Some picked) = refl

wants_item : (m : Machine) → m.hand ≡ None → wanted m ≡ next_item m (pick (is_gone m.state.phase) m.waiting)
unfolding wanted
wants_item m is = ap (λ (hand : Option Hand). wanted_in m hand) is

pub item_is_due : (id_pending : Bool) (m : Machine) → m.hand ≡ None → can_read m ≡ false
    → due id_pending m ≡ next_item m (pick (is_gone m.state.phase) m.waiting)
unfolding due
item_is_due id_pending m is read =
    ap (λ (load : Load). due_by (is_full id_pending m) load m) (none_hinders m is read)
    ∙ rw (wants_item m is) (lets_item m (is_gone m.state.phase) (pick (is_gone m.state.phase) m.waiting))

-- a composite that can be read hinders all else
reading_hinders : (m : Machine) → can_read m ≡ true → load_of m ≡ busy
unfolding load_of
reading_hinders m read =
    by_gone (is_gone m.state.phase) (cond (is_some m.state.sizes) (has_raw m.waiting) false) read
  where
    by_gone : (gone reads : Bool) → cond gone false reads ≡ true
        → cond gone clear (cond (cond gone false reads) busy (hand_load m.state m.hand)) ≡ busy
    by_gone true reads is = cc
    by_gone false reads is = rw is refl

pub reading_is_due : (id_pending : Bool) (m : Machine) → can_read m ≡ true
    → due id_pending m ≡ due_as Act.Waits m
unfolding due
reading_is_due id_pending m read =
    ap (λ (load : Load). due_by (is_full id_pending m) load m) (reading_hinders m read)
