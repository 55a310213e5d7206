-- The end for a suspension of one thread alone stands in the row of such a composite, and nowhere else; and it is due
-- where it is in front of the item in hand.
use Rattle.std.proofs.Common.{◌≡◌, ℕ, Bool, true, false, cond, List, [], ◌∷◌, ◌++◌, Option, Some, None, refl, sym, ap}
use Rattle.std.proofs.Common.{◌∙◌, arith}
use Rattle.clean_sessions.specs.Premises.{suspends_one}
use Rattle.jdwp_events.specs.declared.kind.Policy.{Policy}
use Rattle.machine_model.specs.Composites.{composite_parts, has_death}
use Rattle.machine_model.specs.Due.{Load, Picked, Way, asked_first, asked_next, busy, clear, due, due_by, gated}
use Rattle.machine_model.specs.Due.{guarded, hand_due, is_full, lacking_more, lets, load_of, looked, next_item, pick}
use Rattle.machine_model.specs.Due.{queued, queued_next, responded, updated, waiting, wanted, wanted_in, way}
use Rattle.machine_model.specs.Due.Way.{passes as passes_way, greets as greets_way, holds as holds_way}
use Rattle.machine_model.specs.Due.Way.{asks as asks_way}
use Rattle.machine_model.specs.Lookups.{finished, found_for}
use Rattle.machine_model.specs.Plans.{Need, Result, fails, has, lacks}
use Rattle.machine_model.specs.Requests.{effect_due}
use Rattle.machine_model.specs.Rows.{chosen, failure_of, gone_parts, news_of, parts_by, parts_of, row_of, wanting}
use Rattle.machine_model.specs.State.{Hand, Machine, State, is_gone}
use Rattle.dap_messages.specs.declared.told.Failure.{Failure}
use Rattle.machine_steps.proofs.PartTests.{passes}
use Rattle.machine_steps.proofs.Tables.{decided_alike, judged_alike, told_alike}
use Rattle.session_model.specs.Names.{a_composite, a_raw, a_request, Act, Choice, Command, Decides, Effect, Finding}
use Rattle.session_model.specs.Names.{Finish, finish_done, finish_one_thread, Item, Judges, Lookup, Outcome, Part}
use Rattle.session_model.specs.Names.{Phase, target_end, TellsNews, Want}

-- Where it stands -----------------------------------------------------------------------------------------------------

-- the part doesn't end the session for a single thread
abbrev pub is_other : Part → Bool
is_other (Part.Ends (finish_one_thread at)) = false
is_other _ = true

-- it is a composite that suspends one thread alone
abbrev pub is_single : Item → Bool
is_single (a_request request) = false
is_single (a_composite at composite) = suspends_one composite.policy
is_single (a_raw at body) = false
is_single target_end = false

row_other : (failure : Option Failure) (command : Command) (state : State)
    → passes is_other (parts_by failure (row_of command state)) ≡ true
row_other failure command state = grind arith

composite_other : (phase : Phase) (dies : Bool) (policy : Policy) (at below : ℕ) → suspends_one policy ≡ false
    → passes is_other (composite_parts phase dies policy at below) ≡ true
composite_other phase dies policy at below none = grind (arith, none)

-- it stands in no row but that of such a composite
pub begun_other : (state : State) (item : Item) → is_single item ≡ false → passes is_other (parts_of state item) ≡ true
begun_other state (a_request request) none =
    row_other (failure_of (wanting request.command) state) request.command state
begun_other state (a_composite at composite) none =
    composite_other state.phase (has_death composite.events) composite.policy at state.next_entry none
begun_other state (a_raw at body) none = refl
begun_other state target_end none = grind arith

pub given_other : (responds : Bool) (item : Item) → passes is_other (gone_parts responds item) ≡ true
given_other responds item = grind arith

pub finished_other : (lookup : Lookup) (result : Result Finding) (state : State)
    → passes is_other (finished lookup result state) ≡ true
finished_other lookup result state = grind arith

-- no choice brings it
pub chosen_other : (choice : Choice) (state : State) (hand : Hand) (rest : List Part) → passes is_other rest ≡ true
    → passes is_other (chosen choice state hand ++ rest) ≡ true
chosen_other (TellsNews below) state hand rest is =
    told_alike (passes is_other) (λ news parts. refl) state.phase (news_of below state hand.item) rest ∙ is
chosen_other Judges state hand rest is =
    judged_alike (passes is_other) (λ strikes parts. refl) state hand.item rest ∙ is
chosen_other (Decides logged stops) state hand rest is =
    decided_alike (passes is_other) (λ thrown parts. refl) (λ stopping parts. refl) (λ thread object parts. refl)
    (λ parts. refl) (λ parts. refl) (λ text texts strikes parts. refl) state logged stops hand.item rest ∙ is
chosen_other _ state hand rest is = grind (arith, is)

-- Where it is due -----------------------------------------------------------------------------------------------------

abbrev finish_of : Act → Option Finish
finish_of (Act.Over finish) = Some finish
finish_of _ = None

abbrev finish_at : Part → Option Finish
finish_at (Part.Ends finish) = Some finish
finish_at _ = None

-- the end that is in front
abbrev pub finish_in : List Part → Option Finish
finish_in [] = None
finish_in (part ∷ parts) = finish_at part

abbrev pub finish_now : Option Hand → Option Finish
finish_now None = None
finish_now (Some hand) = finish_in hand.parts

next_none : (m : Machine) (picked : Option Picked) → finish_of (next_item m picked).act ≡ None
next_none m None = refl
next_none m (Some picked) = refl

responded_none : (item : Item) (outcome : Outcome) (m : Machine) (hand : Hand) (rest : List Part)
    → finish_of (responded item outcome m hand rest).act ≡ None
responded_none (a_request request) outcome m hand rest = refl
responded_none (a_composite at composite) outcome m hand rest = refl
responded_none (a_raw at body) outcome m hand rest = refl
responded_none target_end outcome m hand rest = refl

looked_none : (lookup : Lookup) (found : Need Finding) (m : Machine) (hand : Hand) (rest : List Part)
    → finish_of (looked lookup found m hand rest).act ≡ None
looked_none lookup (has finding) m hand rest = refl
looked_none lookup (fails fault) m hand rest = refl
looked_none lookup (lacks want others) m hand rest = refl

guarded_none : (found : Way) (m : Machine) (hand : Hand) (rest : List Part)
    → finish_of (guarded found m hand rest).act ≡ None
guarded_none passes_way m hand rest = refl
guarded_none greets_way m hand rest = refl
guarded_none holds_way m hand rest = refl
guarded_none (asks_way want) m hand rest = refl

updated_none : (found : Option Effect) (m : Machine) (hand : Hand) (rest : List Part)
    → finish_of (updated found m hand rest).act ≡ None
updated_none (Some effect) m hand rest = refl
updated_none None m hand rest = refl

due_of_parts : (m : Machine) (hand : Hand) (parts : List Part)
    → finish_of (hand_due m hand parts).act ≡ finish_in parts
due_of_parts m hand [] = refl
due_of_parts m hand (Part.Ends finish ∷ rest) = refl
due_of_parts m hand (Part.Responds outcome ∷ rest) = responded_none hand.item outcome m hand rest
due_of_parts m hand (Part.Tells event ∷ rest) = refl
due_of_parts m hand (Part.Sends deed ∷ rest) = refl
due_of_parts m hand (Part.Looks lookup ∷ rest) = looked_none lookup (found_for lookup m.state hand) m hand rest
due_of_parts m hand (Part.Awaits guard ∷ rest) = guarded_none (way guard m.state) m hand rest
due_of_parts m hand (Part.Updates ∷ rest) = updated_none (effect_due m.state.wishes) m hand rest
due_of_parts m hand (Part.Notes note ∷ rest) = refl
due_of_parts m hand (Part.Unfolds choice ∷ rest) = refl

due_of_hand : (m : Machine) (hand : Option Hand) → finish_of (wanted_in m hand).act ≡ finish_now hand
due_of_hand m None = next_none m (pick (is_gone m.state.phase) m.waiting)
due_of_hand m (Some hand) = due_of_parts m hand hand.parts

due_of_wanted : (m : Machine) → finish_of (wanted m).act ≡ finish_now m.hand
unfolding wanted
due_of_wanted m = due_of_hand m m.hand

first_none : (full : Bool) (m : Machine) (wants : List Want) → finish_of (asked_first full m wants).act ≡ None
first_none full m [] = refl
first_none true m (want ∷ wants) = refl
first_none false m (want ∷ wants) = refl

asked_none : (full : Bool) (m : Machine) (hand : Option Hand) → finish_of (asked_next full m hand).act ≡ None
asked_none full m None = refl
asked_none full m (Some hand) = first_none full m hand.queue

lacking_none : (m : Machine) (hand : Option Hand) → finish_of (queued_next m hand).act ≡ None
lacking_none m None = refl
lacking_none m (Some hand) = refl

due_of_gate : (gate : Bool) (m : Machine) (finish : Finish) → finish_of (gated gate m (wanted m)).act ≡ Some finish
    → finish_now m.hand ≡ Some finish
due_of_gate true m finish is = sym (due_of_wanted m) ∙ is
due_of_gate false m finish is = cc

due_of_load : (full : Bool) (m : Machine) (load : Load) (finish : Finish)
    → finish_of (due_by full load m).act ≡ Some finish → finish_now m.hand ≡ Some finish
due_of_load full m busy finish is = cc
due_of_load full m queued finish is = let no : None ≡ Some finish = sym (asked_none full m m.hand) ∙ is in cc
due_of_load full m lacking_more finish is = let no : None ≡ Some finish = sym (lacking_none m m.hand) ∙ is in cc
due_of_load full m waiting finish is = cc
due_of_load full m clear finish is = due_of_gate (lets (is_gone m.state.phase) (wanted m).act) m finish is

over_now : (id_pending : Bool) (m : Machine) (finish : Finish) → finish_of (due id_pending m).act ≡ Some finish
    → finish_now m.hand ≡ Some finish
unfolding due
over_now id_pending m finish is = due_of_load (is_full id_pending m) m (load_of m) finish is

-- an end that is due is in front of the item in hand
pub over_in_front : (id_pending : Bool) (m : Machine) (finish : Finish)
    → (due id_pending m).act ≡ Act.Over finish → finish_now m.hand ≡ Some finish
over_in_front id_pending m finish is = over_now id_pending m finish (ap finish_of is)

-- Neither -------------------------------------------------------------------------------------------------------------

part_single : (part : Part) (at : ℕ) → finish_at part ≡ Some (finish_one_thread at) → is_other part ≡ false
part_single (Part.Ends finish_done) at is = cc
part_single (Part.Ends (finish_one_thread place)) at is = refl
part_single _ at is = cc

-- where it doesn't stand it isn't in front
pub not_in_front : (parts : List Part) (at : ℕ) → passes is_other parts ≡ true
    → finish_in parts ≡ Some (finish_one_thread at) → ⊥
not_in_front [] at none is = cc
not_in_front (part ∷ parts) at none is =
    let no : false ≡ true =
    ap (λ (b : Bool). cond b (passes is_other parts) false) (sym (part_single part at is)) ∙ none in cc
