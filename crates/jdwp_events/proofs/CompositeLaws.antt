-- A composite that is read was spelled, and one that is spelled is read.
use Rattle.std.proofs.Common.{◌≡◌, ℕ, Bool, true, false, cond, eqb, List, [], ◌++◌, length, Option, Some, None, Result}
use Rattle.std.proofs.Common.{Ok, Err, refl, sym, ap, subst, ◌∙◌}
use Rattle.std.specs.Prelude.{IfOk}
use Rattle.std.specs.List.{AllByRecursion}
use Rattle.std.specs.Int.{bytes_high_first}
use Rattle.std.proofs.lemmas.Bool.{eqb-true}
use Rattle.std.proofs.lemmas.List.{append-nil, nil_from_length}
use Rattle.jdwp_values.specs.declared.fault.RowFault.{RowFault}
use Rattle.jdwp_values.specs.declared.limit.Limit.TheVariants.{Any}
use Rattle.jdwp_values.specs.declared.sizes.IdSizes.{IdSizes}
use Rattle.jdwp_values.specs.Bytes.{IsBytes}
use Rattle.jdwp_values.specs.Counts.{allows}
use Rattle.jdwp_values.specs.Parts.{byte}
use Rattle.jdwp_values.specs.Reading.{Place, behind, offset, part_at}
use Rattle.jdwp_values.specs.Rows.{◌>>=◌, in_row, list_at, spell_list, FitsList}
use Rattle.jdwp_values.proofs.RowLaws.{bind_ok, bind_is, in_row_ok, TakesPlace, TakesPlace-then, part_at_takes}
use Rattle.jdwp_values.proofs.RowLaws.{part_at_again, IsFormat, list_format}
use Rattle.jdwp_events.specs.declared.composite.Composite.{Composite}
use Rattle.jdwp_events.specs.declared.composite.CompositeFault.{CompositeFault}
use Rattle.jdwp_events.specs.declared.composite.CompositeFault.TheVariants.{Trailing}
use Rattle.jdwp_events.specs.declared.kind.Policy.{Policy}
use Rattle.jdwp_events.specs.Composites.{in_composite, policy_or_fault, ended, composite_at, spell_composite}
use Rattle.jdwp_events.specs.Composites.{FitsComposite, InRangeComposite, IsRead}
use Rattle.jdwp_events.specs.Events.{event_at, spell_event, FitsEvent, InRangeEvent}
use Rattle.jdwp_events.specs.Kinds.{byte_of_policy, policy_of_byte}
use Rattle.jdwp_events.proofs.EventLaws.{event_format}
use Rattle.jdwp_events.proofs.KindLaws.{policy_back, policy_of-byte, policy_small}

in_composite_ok : {A : Type 0} (r : Result A RowFault) (x : A) → in_composite r ≡ Ok x → r ≡ Ok x
in_composite_ok {A} (Ok y) x e = let is : y ≡ x = cc in ap (λ (z : A). Ok z) is
in_composite_ok (Err d) x e = absurd cc

policy_ok : (o : Option Policy) (at : ℕ) (policy : Policy) → policy_or_fault o at ≡ Ok policy → o ≡ Some policy
policy_ok (Some p) at policy e = let is : p ≡ policy = cc in ap (λ (q : Policy). Some q) is
policy_ok None at policy e = absurd cc

ended_ok : (b : Bool) (d : CompositeFault) (x y : Composite) → cond b (Ok x) (Err d) ≡ Ok y → (b ≡ true) × (x ≡ y)
ended_ok true d x y e = (refl, cc)
ended_ok false d x y e = absurd cc

events_format : IsFormat (list_at Any event_at) (λ sizes xs. spell_list (spell_event sizes) xs)
    (λ sizes xs. FitsList (FitsEvent sizes) xs × (allows Any (length xs) ≡ true)) (λ xs. AllByRecursion InRangeEvent xs)
events_format = list_format event_at spell_event FitsEvent InRangeEvent event_format Any

pub composite_takes : (sizes : IdSizes) (body : List ℕ) (c : Composite) → IsBytes body → composite_at sizes body ≡ Ok c
    → FitsComposite sizes c × (body ≡ spell_composite sizes c)
unfolding composite_at spell_composite
composite_takes sizes body c fits e =
    let start : Place = record { sizes = sizes; body = body; rest = body } in
    let a = bind_ok (in_composite (in_row (part_at byte start)))
    (λ b. policy_or_fault (policy_of_byte b.0) (offset start) >>= λ policy. in_composite (list_at Any event_at b.1)
    >>= λ events. ended events.1 (record { policy = policy; events = events.0 })) c e in
    let t =
    part_at_takes byte start a.0 fits
    (in_row_ok (part_at byte start) a.0 (in_composite_ok (in_row (part_at byte start)) a.0 a.1)) in
    let next = behind start t.0.rest in
    let b = bind_ok (policy_or_fault (policy_of_byte a.0.0) (offset start))
    (λ policy. in_composite (list_at Any event_at a.0.1) >>= λ events. ended events.1
    (record { policy = policy; events = events.0 })) c a.2 in
    let policy_is = policy_back a.0.0 b.0 (policy_ok (policy_of_byte a.0.0) (offset start) b.0 b.1) in
    let l =
    bind_ok (in_composite (list_at Any event_at a.0.1))
    (λ events. ended events.1 (record { policy = b.0; events = events.0 })) c b.2 in
    let l' : list_at Any event_at next ≡ Ok l.0 =
    subst (λ (z : Place). list_at Any event_at z ≡ Ok l.0) t.0.new_is
    (in_composite_ok (list_at Any event_at a.0.1) l.0 l.1) in
    let events = events_format.takes next l.0 t.0.takes.rest_fits l' in
    let g =
    ended_ok (eqb (length l.0.1.rest) 0) (Trailing (offset l.0.1)) (record { policy = b.0; events = l.0.0 }) c
    l.2 in
    let here : TakesPlace start (bytes_high_first 1 a.0.0) next =
    record { rest = t.0.rest; new_is = refl; takes = t.0.takes } in
    let first : TakesPlace start (bytes_high_first 1 (byte_of_policy b.0)) next =
    subst (λ (n : ℕ). TakesPlace start (bytes_high_first 1 n) next) (sym policy_is) here in
    let whole =
    TakesPlace-then start (bytes_high_first 1 (byte_of_policy b.0)) next (spell_list (spell_event sizes) l.0.0)
    l.0.1 first events.0 in
    let rest_is : whole.rest ≡ l.0.1.rest = ap (λ (p : Place). p.rest) (sym whole.new_is) in
    let nothing : whole.rest ≡ [] = rest_is ∙ nil_from_length l.0.1.rest (eqb-true _ _ g.0) in
    let text = bytes_high_first 1 (byte_of_policy b.0) ++ spell_list (spell_event sizes) l.0.0 in
    let spelled : body ≡ text = whole.takes.parts ∙ ap (λ (r : List ℕ). text ++ r) nothing ∙ append-nil text in
    subst (λ (v : Composite). FitsComposite sizes v
    × (body ≡ bytes_high_first 1 (byte_of_policy v.policy) ++ spell_list (spell_event sizes) v.events)) g.1
    (events.1.0, spelled)

pub composite_again : (sizes : IdSizes) (c : Composite) → FitsComposite sizes c → InRangeComposite c
    → composite_at sizes (spell_composite sizes c) ≡ Ok c
unfolding composite_at spell_composite
composite_again sizes c fits range =
    let text = spell_list (spell_event sizes) c.events in
    let n = byte_of_policy c.policy in
    let body = bytes_high_first 1 n ++ text in
    let start : Place = record { sizes = sizes; body = body; rest = body } in
    let next = behind start text in
    let one = part_at_again byte start n text tt (policy_small c.policy) tt refl in
    let more = events_format.again next c.events [] (fits, refl) range (sym (append-nil text)) in
    bind_is (in_composite (in_row (part_at byte start)))
    (λ b. policy_or_fault (policy_of_byte b.0) (offset start) >>= λ policy. in_composite (list_at Any event_at b.1)
    >>= λ events. ended events.1 (record { policy = policy; events = events.0 })) (n, next)
    (ap (λ r. in_composite (in_row r)) one)
    ∙ bind_is (policy_or_fault (policy_of_byte n) (offset start))
    (λ policy. in_composite (list_at Any event_at next) >>= λ events. ended events.1
    (record { policy = policy; events = events.0 })) c.policy
    (ap (λ (o : Option Policy). policy_or_fault o (offset start)) (policy_of-byte c.policy))
    ∙ bind_is (in_composite (list_at Any event_at next))
    (λ events. ended events.1 (record { policy = c.policy; events = events.0 })) (c.events, behind next [])
    (ap in_composite more)

pub is_found : (sizes : IdSizes) (body : List ℕ) (r : Result Composite CompositeFault) → IsBytes body
    → IsRead (composite_at sizes body) r → IfOk r (λ c. FitsComposite sizes c × (body ≡ spell_composite sizes c))
is_found sizes body (Ok c) fits given = composite_takes sizes body c fits given
is_found sizes body (Err d) fits given = tt
