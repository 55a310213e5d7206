-- The faults of answers and of composites are those of their layouts.
use Rattle.std.proofs.Common.{◌≡◌, ℕ, ◌+◌, Bool, true, false, cond, eqb, List, [], ◌∷◌, length, Option, Some, None, ◌-◌}
use Rattle.std.proofs.Common.{Result, Ok, Err, refl, sym, ap, ◌∙◌, arith, inl, inr}
use Rattle.jdwp_values.specs.declared.fault.ReadTrouble.{ReadTrouble}
use Rattle.jdwp_values.specs.declared.fault.RowFault.{RowFault}
use Rattle.jdwp_values.specs.declared.fault.RowFault.TheVariants as faults
use Rattle.jdwp_values.specs.declared.fault.ValueFault.{ValueFault}
use Rattle.jdwp_values.specs.declared.fault.ValueFault.TheVariants as causes
use Rattle.jdwp_values.specs.declared.limit.Limit.TheVariants.{Any}
use Rattle.jdwp_values.specs.declared.sizes.IdSizes.{IdSizes}
use Rattle.jdwp_values.specs.Bytes.{IsBytes}
use Rattle.jdwp_values.specs.Parts.{byte}
use Rattle.jdwp_values.specs.Reading.{Place, offset, part_at}
use Rattle.jdwp_values.specs.Rows.{◌>>=◌, in_row, list_at}
use Rattle.jdwp_events.specs.declared.composite.Composite.{Composite}
use Rattle.jdwp_events.specs.declared.composite.CompositeFault.{CompositeFault}
use Rattle.jdwp_events.specs.declared.composite.CompositeFault.TheVariants as composite_faults
use Rattle.jdwp_events.specs.declared.event.Event.{Event}
use Rattle.jdwp_events.specs.declared.kind.Policy.{Policy}
use Rattle.jdwp_events.specs.Composites.{composite_fault, in_composite, policy_or_fault, composite_at}
use Rattle.jdwp_events.specs.Composites.{ended as composite_ended, fault_at as composite_fault_at}
use Rattle.jdwp_events.specs.Events.{event_at}
use Rattle.jdwp_events.specs.Kinds.{policy_of_byte}
use Rattle.jdwp_commands.specs.declared.asked.Asked.{Asked}
use Rattle.jdwp_commands.specs.declared.fault.BodyFault.{BodyFault}
use Rattle.jdwp_commands.specs.declared.fault.BodyFault.TheVariants as body_faults
use Rattle.jdwp_commands.specs.Answers.{limit_of, answered_at, answer_at}
use Rattle.jdwp_commands.specs.Bodies.{fault_at, body_fault, in_body, ended, start}
use Rattle.jdwp_commands.specs.Commands.{kind_of}
use Rattle.jdwp_commands.specs.Items.{Item, part, many, region, policy, event_kind}
use Rattle.body_faults.specs.Layouts.{Cause, bad_policy, trailing, Layout, ends, refuses, meant, list_then, event_then}
use Rattle.body_faults.specs.Layouts.{composite_layout, items_then, answer_row, answer_layout}
use Rattle.body_faults.specs.Wrongs.{IsWrongAt, body_fault_of, composite_fault_of}
use Rattle.body_faults.proofs.CauseLaws.{cause_in}
use Rattle.body_faults.proofs.FollowLaws.{Trouble, memory, wrong, trouble_of, Checked, onto, layout_at, rest_at}
use Rattle.body_faults.proofs.FollowLaws.{list_follows, event_follows, answer_follows}
use Rattle.body_faults.proofs.WrongLaws.{shows, fails_there}

-- whether a reading fails, and why
abbrev outcome : {A F : Type 0} → Result A F → Result (Unit {0}) F
outcome (Ok x) = Ok tt
outcome (Err d) = Err d

outcome_err : {A F : Type 0} (r : Result A F) (d : F) → outcome r ≡ Err d → r ≡ Err d
outcome_err (Ok x) d e = absurd cc
outcome_err {A} {F} (Err c) d e = let is : c ≡ d = cc in ap (λ (q : F). Err q) is

-- the same of a layout's, as a fault of another type
abbrev as_fault : {F : Type 0} → (Trouble → F) → Checked → Result (Unit {0}) F
as_fault of (Ok x) = Ok tt
as_fault of (Err t) = Err (of t)

as_fault_err : {F : Type 0} (of : Trouble → F) (r : Checked) (d : F) → as_fault of r ≡ Err d
    → (t : Trouble) × (r ≡ Err t) × (d ≡ of t)
as_fault_err of (Ok x) d e = absurd cc
as_fault_err of (Err t) d e = let is : of t ≡ d = cc in (t, refl, sym is)

-- ---- any body

module _ {A F : Type 0} (of : Trouble → F) (sizes : IdSizes) (body : List ℕ) (layout : Layout)
    (goes_on : (cause : Cause) → layout ≡ refuses cause → ⊥) (read : Result A F)
    (alike : outcome read ≡ as_fault of (layout_at layout 0 (start sizes body))) where
  pub fault_found : (fault : F) → IsBytes body → read ≡ Err fault
      → (at : ℕ) × (cause : Cause) × (fault ≡ of (wrong cause at)) × IsWrongAt sizes layout body at cause
  fault_found fault fits e =
      let f = as_fault_err of (layout_at layout 0 (start sizes body)) fault (sym alike ∙ ap outcome e) in
      elim (shows sizes body layout 0 body f.0 fits (omega arith) f.1) [
        | inl refused ↦ absurd (goes_on refused.0 refused.1)
        | inr found ↦
            let at : length body - length body + found.0 ≡ found.0 = omega arith in
            (found.0, found.1, f.2 ∙ ap of found.2 ∙ ap (λ (n : ℕ). of (wrong found.1 n)) at, found.3)
      ]

  pub fault_back : (at : ℕ) (cause : Cause) → IsBytes body → IsWrongAt sizes layout body at cause
      → read ≡ Err (of (wrong cause at))
  fault_back at cause fits w =
      let here : length body - length body + at ≡ at = omega arith in
      let fails = fails_there sizes body layout body at cause w 0 fits (omega arith) in
      outcome_err read (of (wrong cause at))
      (alike ∙ ap (as_fault of) fails ∙ ap (λ (n : ℕ). as_fault of (Err (wrong cause n))) here)

-- ---- answers

abbrev body_of : Trouble → BodyFault
body_of memory = body_faults.NoMemory
body_of (wrong cause at) = body_fault_of cause at

part_of_body : (d : ValueFault) (at : ℕ) → fault_at d at ≡ body_fault_of (cause_in d) at
part_of_body causes.Short at = refl
part_of_body causes.BadTag at = refl
part_of_body causes.BadCount at = refl

fault_of_body : (d : RowFault) → body_fault d ≡ body_of (trouble_of d)
fault_of_body faults.NoMemory = refl
fault_of_body (faults.Part trouble) = part_of_body trouble.fault trouble.at
fault_of_body (faults.BadKind at) = refl

end_of_body : {A : Type 0} (b : Bool) (x : A) (at : ℕ)
    → outcome (cond b (Ok x) (Err (body_faults.Trailing at)))
    ≡ as_fault body_of (cond b (Ok tt) (Err (wrong trailing at)))
end_of_body true x at = refl
end_of_body false x at = refl

body_alike : {A : Type 0} (r : Result (A × Place) RowFault)
    → outcome (in_body r >>= λ x. ended x) ≡ as_fault body_of (onto r (rest_at ends))
body_alike (Ok x) = end_of_body (eqb (length x.1.rest) 0) x.0 (offset x.1)
body_alike (Err d) = ap (λ (f : BodyFault). Err f) (fault_of_body d)

answer_goes_on : (row : List Item) (cause : Cause) → items_then row ends ≡ refuses cause → ⊥
answer_goes_on [] cause e = absurd cc
answer_goes_on (part p ∷ row) cause e = absurd cc
answer_goes_on (many limit l ∷ row) cause e = absurd cc
answer_goes_on (region limit ∷ row) cause e = absurd cc
answer_goes_on (event_kind ∷ row) cause e = absurd cc
answer_goes_on (policy ∷ row) cause e = absurd cc

answer_alike : (sizes : IdSizes) (asked : Asked) (body : List ℕ)
    → outcome (answer_at sizes asked body) ≡ as_fault body_of (layout_at (answer_layout asked) 0 (start sizes body))
unfolding answer_at
answer_alike sizes asked body =
    let kind = kind_of asked in
    let limit = limit_of asked in
    let place = start sizes body in
    body_alike (answered_at kind limit place)
    ∙ ap (as_fault body_of) (sym (answer_follows kind limit ends (λ a b other. refl) 0 place))

pub answer_fault_found : (sizes : IdSizes) (asked : Asked) (body : List ℕ) (fault : BodyFault) → IsBytes body
    → answer_at sizes asked body ≡ Err fault
    → (at : ℕ) × (cause : Cause) × (fault ≡ body_fault_of cause at)
    × IsWrongAt sizes (answer_layout asked) body at cause
answer_fault_found sizes asked body =
    fault_found body_of sizes body (answer_layout asked) (answer_goes_on (answer_row (kind_of asked) (limit_of asked)))
    (answer_at sizes asked body) (answer_alike sizes asked body)

pub answer_fault_back : (sizes : IdSizes) (asked : Asked) (body : List ℕ) (at : ℕ) (cause : Cause) → IsBytes body
    → IsWrongAt sizes (answer_layout asked) body at cause → answer_at sizes asked body ≡ Err (body_fault_of cause at)
answer_fault_back sizes asked body =
    fault_back body_of sizes body (answer_layout asked) (answer_goes_on (answer_row (kind_of asked) (limit_of asked)))
    (answer_at sizes asked body) (answer_alike sizes asked body)

-- ---- composites

abbrev composite_of : Trouble → CompositeFault
composite_of memory = composite_faults.NoMemory
composite_of (wrong cause at) = composite_fault_of cause at

part_of_composite : (d : ValueFault) (at : ℕ) → composite_fault_at d at ≡ composite_fault_of (cause_in d) at
part_of_composite causes.Short at = refl
part_of_composite causes.BadTag at = refl
part_of_composite causes.BadCount at = refl

fault_of_composite : (d : RowFault) → composite_fault d ≡ composite_of (trouble_of d)
fault_of_composite faults.NoMemory = refl
fault_of_composite (faults.Part trouble) = part_of_composite trouble.fault trouble.at
fault_of_composite (faults.BadKind at) = refl

end_of_composite : (b : Bool) (x : Composite) (at : ℕ)
    → outcome (cond b (Ok x) (Err (composite_faults.Trailing at)))
    ≡ as_fault composite_of (cond b (Ok tt) (Err (wrong trailing at)))
end_of_composite true x at = refl
end_of_composite false x at = refl

events_alike : (kind : Policy) (r : Result (List Event × Place) RowFault)
    → outcome (in_composite r >>= λ events. composite_ended events.1 (record { policy = kind; events = events.0 }))
    ≡ as_fault composite_of (onto r (rest_at ends))
events_alike kind (Ok x) =
    end_of_composite (eqb (length x.1.rest) 0) (record { policy = kind; events = x.0 }) (offset x.1)
events_alike kind (Err d) = ap (λ (f : CompositeFault). Err f) (fault_of_composite d)

policy_alike : (o : Option Policy) (at : ℕ) (place : Place)
    → outcome (policy_or_fault o at >>= λ kind. in_composite (list_at Any event_at place) >>= λ events. composite_ended
    events.1 (record { policy = kind; events = events.0 }))
    ≡ as_fault composite_of
    (layout_at (meant o bad_policy (λ kind. list_then Any event_then ends)) at place)
policy_alike (Some kind) at place =
    events_alike kind (list_at Any event_at place)
    ∙ ap (as_fault composite_of)
    (sym (list_follows event_at event_then event_follows Any ends (λ a b other. refl) at place))
policy_alike None at place = refl

byte_alike : (at : ℕ) (r : Result (ℕ × Place) ReadTrouble)
    → outcome (in_composite (in_row r) >>= λ b. policy_or_fault (policy_of_byte b.0) at >>= λ kind.
    in_composite (list_at Any event_at b.1) >>= λ events. composite_ended
    events.1 (record { policy = kind; events = events.0 }))
    ≡ as_fault composite_of (onto (in_row r)
    (λ b. layout_at (meant (policy_of_byte b.0) bad_policy (λ kind. list_then Any event_then ends)) at b.1))
byte_alike at (Ok b) = policy_alike (policy_of_byte b.0) at b.1
byte_alike at (Err trouble) = ap (λ (f : CompositeFault). Err f) (part_of_composite trouble.fault trouble.at)

composite_alike : (sizes : IdSizes) (body : List ℕ)
    → outcome (composite_at sizes body) ≡ as_fault composite_of (layout_at composite_layout 0 (start sizes body))
unfolding composite_at
composite_alike sizes body = byte_alike (offset (start sizes body)) (part_at byte (start sizes body))

composite_goes_on : (cause : Cause) → composite_layout ≡ refuses cause → ⊥
composite_goes_on cause e = absurd cc

pub composite_fault_found : (sizes : IdSizes) (body : List ℕ) (fault : CompositeFault) → IsBytes body
    → composite_at sizes body ≡ Err fault
    → (at : ℕ) × (cause : Cause) × (fault ≡ composite_fault_of cause at)
    × IsWrongAt sizes composite_layout body at cause
composite_fault_found sizes body =
    fault_found composite_of sizes body composite_layout composite_goes_on (composite_at sizes body)
    (composite_alike sizes body)

pub composite_fault_back : (sizes : IdSizes) (body : List ℕ) (at : ℕ) (cause : Cause) → IsBytes body
    → IsWrongAt sizes composite_layout body at cause → composite_at sizes body ≡ Err (composite_fault_of cause at)
composite_fault_back sizes body =
    fault_back composite_of sizes body composite_layout composite_goes_on (composite_at sizes body)
    (composite_alike sizes body)
