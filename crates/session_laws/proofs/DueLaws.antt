-- The end of a session is due where it is in front of the item in hand, and nowhere else.
use Rattle.std.proofs.Common.{◌≡◌, Bool, true, false, cond, List, [], ◌∷◌, Option, Some, None, refl}
use Rattle.machine_model.specs.Due.{Load, Picked, Way, asked_first, asked_next, busy, can_read, clear, due, due_by}
use Rattle.machine_model.specs.Due.{gated, guarded, hand_due, hand_load, is_full, lacking_more, lets, load_of}
use Rattle.machine_model.specs.Due.{looked, newly_lacked, next_item, pick, queued, queued_next, responded}
use Rattle.machine_model.specs.Due.{updated, waiting, wanted, wanted_in, way}
use Rattle.machine_model.specs.Due.Way.{passes, greets as greets_way, holds as holds_way, asks as asks_way}
use Rattle.machine_model.specs.Lookups.{found_for}
use Rattle.machine_model.specs.Plans.{Need, fails, has, lacks}
use Rattle.machine_model.specs.Requests.{effect_due}
use Rattle.machine_model.specs.State.{Hand, Machine, State, has_waiting, is_empty, is_flying, is_gone, left}
use Rattle.machine_steps.proofs.RestLaws.{is_free}
use Rattle.machine_steps.proofs.Stepping.{IsAt}
use Rattle.session_model.specs.Names.{a_composite, a_raw, a_request, Act, Effect, Finding}
use Rattle.session_model.specs.Names.{finish_done, finish_one_thread, Item, Outcome, Part}
use Rattle.session_model.specs.Names.{target_end, Want}
use Rattle.session_model.specs.States.{id_pending}
use Rattle.session_laws.proofs.PartLaws.{ends_first}

-- The end of one that is done is due where it is in front ------------------------------------------------------------------------------

pub over_now : (id_pending : Bool) (m : Machine) (hand : Hand) (rest : List Part) → load_of m ≡ clear
    → m.hand ≡ Some hand → hand.parts ≡ Part.Ends finish_done ∷ rest → (due id_pending m).act ≡ Act.Over finish_done
unfolding due wanted
over_now id_pending m hand rest free held parts = rw (free, held, parts) refl

-- and nowhere else
abbrev pub is_over : Act → Bool
is_over (Act.Over finish_done) = true
is_over _ = false

abbrev pub ends_now : Option Hand → Bool
ends_now None = false
ends_now (Some hand) = ends_first hand.parts

over_next : (m : Machine) (picked : Option Picked) → is_over (next_item m picked).act ≡ false
over_next m None = refl
over_next m (Some picked) = refl

over_responded : (item : Item) (outcome : Outcome) (m : Machine) (hand : Hand) (rest : List Part)
    → is_over (responded item outcome m hand rest).act ≡ false
over_responded (a_request request) outcome m hand rest = refl
over_responded (a_composite at composite) outcome m hand rest = refl
over_responded (a_raw at body) outcome m hand rest = refl
over_responded target_end outcome m hand rest = refl

over_guarded : (found : Way) (m : Machine) (hand : Hand) (rest : List Part)
    → is_over (guarded found m hand rest).act ≡ false
over_guarded passes m hand rest = refl
over_guarded greets_way m hand rest = refl
over_guarded holds_way m hand rest = refl
over_guarded (asks_way want) m hand rest = refl

over_updated : (found : Option Effect) (m : Machine) (hand : Hand) (rest : List Part)
    → is_over (updated found m hand rest).act ≡ false
over_updated None m hand rest = refl
over_updated (Some effect) m hand rest = refl

over_part : (m : Machine) (hand : Hand) (parts : List Part) → is_over (hand_due m hand parts).act ≡ true
    → ends_first parts ≡ true
over_part m hand [] is = cc
over_part m hand (Part.Ends finish_done ∷ rest) is = refl
over_part m hand (Part.Ends (finish_one_thread at) ∷ rest) is = cc
over_part m hand (Part.Responds outcome ∷ rest) is = let no = over_responded hand.item outcome m hand rest in cc
over_part m hand (Part.Tells event ∷ rest) is = cc
over_part m hand (Part.Sends deed ∷ rest) is = cc
over_part m hand (Part.Looks lookup ∷ rest) is = by_need (found_for lookup m.state hand) is
  where
    by_need : (found : Need Finding) → is_over (looked lookup found m hand rest).act ≡ true
        → ends_first (Part.Looks lookup ∷ rest) ≡ true
    by_need (has finding) is = cc
    by_need (fails fault) is = cc
    by_need (lacks want others) is = cc
over_part m hand (Part.Awaits guard ∷ rest) is = let no = over_guarded (way guard m.state) m hand rest in cc
over_part m hand (Part.Updates ∷ rest) is = let no = over_updated (effect_due m.state.wishes) m hand rest in cc
over_part m hand (Part.Notes note ∷ rest) is = cc
over_part m hand (Part.Unfolds choice ∷ rest) is = cc

over_in : (m : Machine) (hand : Option Hand) → is_over (wanted_in m hand).act ≡ true → ends_now hand ≡ true
over_in m None is = let no = over_next m (pick (is_gone m.state.phase) m.waiting) in cc
over_in m (Some hand) is = over_part m hand hand.parts is

over_first : (full : Bool) (m : Machine) (wants : List Want) → is_over (asked_first full m wants).act ≡ false
over_first full m [] = refl
over_first true m (want ∷ wants) = refl
over_first false m (want ∷ wants) = refl

over_queued : (full : Bool) (m : Machine) (hand : Option Hand) → is_over (asked_next full m hand).act ≡ false
over_queued full m None = refl
over_queued full m (Some hand) = over_first full m hand.queue

over_lacking : (m : Machine) (hand : Option Hand) → is_over (queued_next m hand).act ≡ false
over_lacking m None = refl
over_lacking m (Some hand) = refl

over_wanted : (m : Machine) → is_over (wanted m).act ≡ true → ends_now m.hand ≡ true
unfolding wanted
over_wanted m is = over_in m m.hand is

over_gated : (gate : Bool) (m : Machine) → is_over (gated gate m (wanted m)).act ≡ true → ends_now m.hand ≡ true
over_gated true m is = over_wanted m is
over_gated false m is = cc

over_by : (full : Bool) (m : Machine) (load : Load) → is_over (due_by full load m).act ≡ true → ends_now m.hand ≡ true
over_by full m busy is = cc
over_by full m queued is = let no = over_queued full m m.hand in cc
over_by full m lacking_more is = let no = over_lacking m m.hand in cc
over_by full m waiting is = cc
over_by full m clear is = over_gated (lets (is_gone m.state.phase) (wanted m).act) m is

pub over_ends : (id_pending : Bool) (m : Machine) → is_over (due id_pending m).act ≡ true → ends_now m.hand ≡ true
unfolding due
over_ends id_pending m is = over_by (is_full id_pending m) m (load_of m) is

-- Nothing hinders it behind the response ------------------------------------------------------------------------------

near_read : (gone read : Bool) (load : Load) → gone ≡ false → cond gone clear (cond read busy load) ≡ clear
    → read ≡ false
near_read true read load near is = cc
near_read false true load near is = cc
near_read false false load near is = refl

gate_open : (gone read : Bool) (load : Load) → (gone ≡ false → (read ≡ false) × (load ≡ clear))
    → cond gone clear (cond read busy load) ≡ clear
gate_open true read load h = refl
gate_open false read load h = rw ((h refl).0, (h refl).1) refl

end_load : (state : State) (hand : Hand) → is_flying hand.effect ≡ false
    → is_empty hand.queue ≡ true → has_waiting hand.asked ≡ false
    → hand_load state (Some (record hand { parts = Part.Ends finish_done ∷ [] })) ≡ clear
unfolding newly_lacked
end_load state hand lands none silent = rw (lands, none, silent) refl

pub clear_behind : (m : Machine) (hand : Hand) (part : Part) → load_of m ≡ clear
    → IsAt m hand part (Part.Ends finish_done ∷ []) → load_of (left m hand (Part.Ends finish_done ∷ [])) ≡ clear
unfolding load_of
clear_behind m hand part free at =
    gate_open (is_gone m.state.phase) (can_read m)
    (hand_load m.state (Some (record hand { parts = Part.Ends finish_done ∷ [] })))
    (λ near. let f = is_free m hand free near at.in_hand in (
      near_read (is_gone m.state.phase) (can_read m) (hand_load m.state m.hand) near free,
      end_load m.state hand f.lands f.no_queue f.silent,
    ))
