-- How what is judged of a packet ends a session.
use Rattle.std.proofs.Common.{◌≡◌, ℕ, ◌+◌, ◌*◌, ◌++◌, ◌∷◌, Bool, true, false, List, [], Option, None, Some, Ok}
use Rattle.std.proofs.Common.{Err, refl, sym, ap, subst, ◌∙◌, get_or, ◌<◌, cond, arith, OnOk}
use Rattle.std.specs.Prelude.{IfErr, IfOk, Result, ◌<◌, position, set}
use Rattle.jdwp_commands.specs.Commands.{number_of}
use Rattle.jdwp_commands.specs.declared.asked.Replied.{Replied}
use Rattle.jdwp_commands.specs.declared.asked.Replied.TheVariants.{Error as an_error}
use Rattle.jdwp_commands.specs.declared.answer.Answer.{Answer}
use Rattle.jdwp_commands.specs.declared.asked.Asked.{Asked}
use Rattle.jdwp_commands.specs.declared.fault.BodyFault.{BodyFault}
use Rattle.jdwp_commands.specs.declared.fault.BodyFault.TheVariants as body_faults
use Rattle.jdwp_events.specs.declared.composite.Composite.{Composite}
use Rattle.jdwp_events.specs.declared.composite.CompositeFault.{CompositeFault}
use Rattle.jdwp_events.specs.declared.composite.CompositeFault.TheVariants as composite_faults
use Rattle.jdwp_values.specs.Sizes.{is_no_size}
use Rattle.jdwp_values.specs.declared.sizes.IdSizes.{IdSizes}
use Rattle.machine_model.specs.Due.{can_read}
use Rattle.machine_model.specs.Replying.{SizesFor, sizes_of}
use Rattle.machine_model.specs.State.{Machine, SizesRead, has_raw, is_gone, is_raw, is_some}
use Rattle.machine_model.specs.declared.items.Item.{Item}
use Rattle.machine_model.specs.declared.items.Item.TheVariants.{Composite as a_composite, Raw as a_raw}
use Rattle.message_bodies.specs.Hearing.{AreReadOff, HasBadSizes, IsJudged, IsReadFirst, IsRefused, MayBeKept}
use Rattle.message_bodies.specs.Hearing.{MayBeLeft, is_tolerated_asked}
use Rattle.message_bodies.proofs.PickLaws.{kept_at}
use Rattle.session_model.specs.Faults.{IsBodyFault, IsCompositeFault, numbers_in}
use Rattle.session_endings.specs.declared.ending.Ending.{Ending}
use Rattle.session_endings.specs.declared.ending.Ending.TheVariants.{BadTarget, TargetRefused}
use Rattle.session_endings.specs.declared.ending.TargetFault.{TargetFault}
use Rattle.session_endings.specs.declared.ending.TargetFault.TheVariants.{BadCount, BadKind, BadPolicy, BadSizes}
use Rattle.session_endings.specs.declared.ending.TargetFault.TheVariants.{BadTag}
use Rattle.session_endings.specs.declared.ending.TargetFault.TheVariants.{Short, Trailing}
use Rattle.target_bodies.specs.Hearing.{IsBadAnswer, IsBadBody, MayBe, ReadsComposite, answer_fault}
use Rattle.target_bodies.specs.Hearing.{composite_fault, header}
use Rattle.target_bodies.proofs.HearLaws.{may_hold}

-- a fault that was found at a place is that fault, and stands there
found_at : (P : TargetFault → ℕ → Type 0) {at place : ℕ} {fault : TargetFault} (found : TargetFault)
    → ◌≡◌ {A = Option (TargetFault × ℕ)} (Some (found, at)) (Some (fault, place)) → P found at
    → P fault place
found_at P {at} {place} {fault} found is p =
    subst (λ (f : TargetFault). P f place) (ap (λ (o : Option (TargetFault × ℕ)). fault_of o) is)
    (subst (λ (n : ℕ). P found n) (ap (λ (o : Option (TargetFault × ℕ)). place_of o) is) p)
  where
    fault_of : Option (TargetFault × ℕ) → TargetFault
    fault_of None = found
    fault_of (Some pair) = pair.0

    place_of : Option (TargetFault × ℕ) → ℕ
    place_of None = at
    place_of (Some pair) = pair.1

pub is_composite_fault : (found : CompositeFault) (fault : TargetFault) (place : ℕ)
    → composite_fault found ≡ Some (fault, place) → IsCompositeFault found fault place
is_composite_fault composite_faults.NoMemory fault place is = cc
is_composite_fault (composite_faults.Short at) fault place is =
    found_at (IsCompositeFault (composite_faults.Short at)) Short is IsCompositeFault.short
is_composite_fault (composite_faults.BadKind at) fault place is =
    found_at (IsCompositeFault (composite_faults.BadKind at)) BadKind is IsCompositeFault.bad_kind
is_composite_fault (composite_faults.BadPolicy at) fault place is =
    found_at (IsCompositeFault (composite_faults.BadPolicy at)) BadPolicy is IsCompositeFault.bad_policy
is_composite_fault (composite_faults.BadCount at) fault place is =
    found_at (IsCompositeFault (composite_faults.BadCount at)) BadCount is IsCompositeFault.bad_count
is_composite_fault (composite_faults.BadTag at) fault place is =
    found_at (IsCompositeFault (composite_faults.BadTag at)) BadTag is IsCompositeFault.bad_tag
is_composite_fault (composite_faults.Trailing at) fault place is =
    found_at (IsCompositeFault (composite_faults.Trailing at)) Trailing is IsCompositeFault.trailing

pub is_answer_fault : (found : BodyFault) (fault : TargetFault) (place : ℕ)
    → answer_fault found ≡ Some (fault, place) → IsBodyFault found fault place
is_answer_fault body_faults.NoMemory fault place is = cc
is_answer_fault body_faults.UnknownCommand fault place is = cc
is_answer_fault (body_faults.Short at) fault place is =
    found_at (IsBodyFault (body_faults.Short at)) Short is IsBodyFault.short
is_answer_fault (body_faults.BadTag at) fault place is =
    found_at (IsBodyFault (body_faults.BadTag at)) BadTag is IsBodyFault.bad_tag
is_answer_fault (body_faults.BadCount at) fault place is =
    found_at (IsBodyFault (body_faults.BadCount at)) BadCount is IsBodyFault.bad_count
is_answer_fault (body_faults.Trailing at) fault place is =
    found_at (IsBodyFault (body_faults.Trailing at)) Trailing is IsBodyFault.trailing

-- a fault of an answer's body ends the session
pub answer_ends : {used : IdSizes} {asked : Asked} {body : List ℕ} {at : ℕ} {ending : Ending}
    → IsBadAnswer used asked body at ending → IsRefused used asked at 0 body ending
answer_ends IsBadAnswer.no_memory = IsRefused.no_memory
answer_ends (IsBadAnswer.faulty reads is) = IsRefused.bad_answer reads is

pub bad_sizes_are : (answer : Answer) (at which : ℕ) (ending : Ending)
    → position is_no_size (numbers_in answer) ≡ Some which
    → MayBe ending (BadTarget BadSizes (at + header + 4 * which) 0) → HasBadSizes answer at ending
bad_sizes_are answer at which ending is may =
    may_hold (HasBadSizes answer at) ending (BadTarget BadSizes (at + header + 4 * which) 0) HasBadSizes.no_memory
    (HasBadSizes.bad_sizes is) may

-- Sizes ---------------------------------------------------------------------------------------------------------------

pub any_serve : (sizes : Option SizesRead) (used : IdSizes) → sizes ≡ None → SizesFor sizes used
any_serve sizes used is = subst (λ (s : Option SizesRead). SizesFor s used) (sym is) SizesFor.any_sizes

pub known_serve : (sizes : Option SizesRead) (found : SizesRead) (used : IdSizes) → sizes ≡ Some found
    → found ≡ sizes_of used → SizesFor sizes used
known_serve sizes found used is same =
    subst (λ (s : Option SizesRead). SizesFor s used) (sym (is ∙ ap (λ (s : SizesRead). Some s) same))
    SizesFor.sizes_read

-- Composites that were kept -------------------------------------------------------------------------------------------

-- how many are left to be read
abbrev pub raws : List Item → ℕ
raws [] = 0
raws (item ∷ items) = cond (is_raw item) (raws items + 1) (raws items)

pub fewer_raws : (used : IdSizes) (left now : List Item) → IsReadFirst used left now → raws now < raws left
fewer_raws used left now r =
    let less = one_less r.before in
    let were : raws left ≡ raws (r.before ++ a_raw r.at r.body ∷ r.after) = ap raws r.were in
    let are : raws now ≡ raws (r.before ++ a_composite r.at r.composite ∷ r.after) = ap raws r.are in
    omega arith
  where
    one_less : (before : List Item) → raws (before ++ a_composite r.at r.composite ∷ r.after) + 1
        ≡ raws (before ++ a_raw r.at r.body ∷ r.after)
    one_less [] = refl
    one_less (item ∷ before) = by_test (is_raw item) (one_less before)
      where
        by_test : (raw : Bool) → raws (before ++ a_composite r.at r.composite ∷ r.after) + 1
            ≡ raws (before ++ a_raw r.at r.body ∷ r.after)
            → cond raw (raws (before ++ a_composite r.at r.composite ∷ r.after) + 1)
            (raws (before ++ a_composite r.at r.composite ∷ r.after)) + 1
            ≡ cond raw (raws (before ++ a_raw r.at r.body ∷ r.after) + 1)
            (raws (before ++ a_raw r.at r.body ∷ r.after))
        by_test true rest = ap (λ (n : ℕ). n + 1) rest
        by_test false rest = rest

-- the composite that was kept at a place is the first, and is read
pub read_so : (used : IdSizes) (items : List Item) (place at : ℕ) (item : Item) (body : List ℕ)
    (composite : Composite) → position is_raw items ≡ Some place → item ≡ get_or items place item
    → item ≡ a_raw at body → ReadsComposite used body composite
    → IsReadFirst used items (set items place (a_composite at composite))
read_so used items place at item body composite first there is read =
    let k = kept_at items place item first there in
    record {
      before = k.before;
      after = k.after;
      at = at;
      body = body;
      composite = composite;
      were = k.items_are ∙ ap (λ (i : Item). k.before ++ i ∷ k.after) is;
      is_first = k.is_first;
      reads = read;
      are = k.replaced (a_composite at composite);
    }

-- or it ends the session
pub kept_so : (used : IdSizes) (items : List Item) (place at : ℕ) (item : Item) (body : List ℕ) (ending : Ending)
    → position is_raw items ≡ Some place → item ≡ get_or items place item → item ≡ a_raw at body
    → IsBadBody used body at ending → MayBeKept used items ending
kept_so used items place at item body ending first there is cause =
    let k = kept_at items place item first there in
    MayBeKept.kept (record {
      before = k.before;
      after = k.after;
      at = at;
      body = body;
      waiting_are = k.items_are ∙ ap (λ (i : Item). k.before ++ i ∷ k.after) is;
      is_first = k.is_first;
      is_bad = cause;
    })

-- one whose body has a fault ends the session, behind those that were read
pub left_behind : (used : IdSizes) (kept left now : List Item) (ending : Ending) → AreReadOff used kept left
    → now ≡ left → MayBeKept used left ending → MayBeLeft used kept now ending
left_behind used kept left now ending read same MayBeKept.no_memory = MayBeLeft.no_memory
left_behind used kept left now ending read same (MayBeKept.kept first) =
    subst (λ (items : List Item). MayBeLeft used kept items ending) (sym same) (MayBeLeft.left_bad read first)

-- where none is left, none can be read
pub none_left_so : {A E : Type 0} (result : Result A E) (m : Machine) (left : List Item)
    → OnOk result (has_raw left ≡ false) → OnOk result (can_read (record m { waiting = left }) ≡ false)
none_left_so (Ok a) m left h = rw h (by_bools (is_gone m.state.phase) (is_some m.state.sizes))
  where
    by_bools : (gone sized : Bool) → cond gone false (cond sized false false) ≡ false
    by_bools gone sized = grind arith
none_left_so (Err ending) m left h = tt

-- Errors --------------------------------------------------------------------------------------------------------------

-- what a reply with an error says
pub refused_says : (result : Result Replied Ending) (used : IdSizes) (asked : Asked) (error : ℕ) (body : List ℕ)
    → 0 < error
    → IfOk result (λ replied. (is_tolerated_asked asked error ≡ true) × (replied ≡ an_error error))
    → IfOk result (IsJudged used asked error body)
refused_says (Ok replied) used asked error body positive h =
    subst (IsJudged used asked error body) (sym h.1) (IsJudged.refuses positive h.0)
refused_says (Err ending) used asked error body positive h = tt

pub refused_ends : (result : Result Replied Ending) (used : IdSizes) (asked : Asked) (at error : ℕ) (body : List ℕ)
    → 0 < error
    → IfErr result (λ ending. (is_tolerated_asked asked error ≡ false)
    × (ending ≡ TargetRefused (number_of asked).0 (number_of asked).1 error))
    → IfErr result (IsRefused used asked at error body)
refused_ends (Ok replied) used asked at error body positive h = tt
refused_ends (Err ending) used asked at error body positive h =
    subst (IsRefused used asked at error body) (sym h.1) (IsRefused.refused positive h.0)
