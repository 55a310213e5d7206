-- Reading by a layout fails just where its first wrong part stands, and for its cause.
use Rattle.std.proofs.Common.{◌≡◌, ℕ, suc, ◌+◌, ◌-◌, ◌≤◌, Bool, false, cond, eqb, List, [], ◌∷◌, length, Result, Ok}
use Rattle.std.proofs.Common.{Err, refl, sym, ap, ◌∙◌, arith, ◌⊎◌, inl, inr, ne_eqb}
use Rattle.std.proofs.lemmas.List.{length-append}
use Rattle.jdwp_values.specs.declared.fault.ValueFault.{ValueFault}
use Rattle.jdwp_values.specs.declared.sizes.IdSizes.{IdSizes}
use Rattle.jdwp_values.specs.Bytes.{IsBytes}
use Rattle.jdwp_values.specs.Parts.{Part, Of}
use Rattle.jdwp_values.specs.Reading.{Place, placed, part_at, read_part}
use Rattle.jdwp_values.specs.Rows.{in_row}
use Rattle.jdwp_values.specs.Spelling.{spell_part}
use Rattle.body_faults.specs.Layouts.{Cause, trailing, Layout, ends, begins, refuses}
use Rattle.body_faults.specs.Wrongs.{Stands, HasNone, cause_of, IsWrongAt, has_none, is_refused, is_behind, is_left}
use Rattle.body_faults.proofs.CauseLaws.{cause_in, part_cause}
use Rattle.body_faults.proofs.FollowLaws.{Trouble, memory, wrong, Checked, onto, layout_at}
use Rattle.body_faults.proofs.RangeLaws.{part_stands, part_read}

abbrev fails : Trouble → Checked
fails t = Err t

fails_alike : (t u : Trouble) → fails t ≡ fails u → t ≡ u
fails_alike t u e = cc

-- where the bytes that are left begin
abbrev from : ℕ → List ℕ → ℕ
from size bytes = size - length bytes

abbrev standing : IdSizes → List ℕ → List ℕ → Place
standing sizes body bytes = record { sizes = sizes; body = body; rest = bytes }

pub stands_long : (sizes : IdSizes) (p : Part) (bytes : List ℕ) (x : Of p) (rest : List ℕ) → Stands sizes p bytes x rest
    → length bytes ≡ length (spell_part sizes p x) + length rest
stands_long sizes p bytes x rest s = ap length s.spelled ∙ length-append (spell_part sizes p x) rest

-- ---- what fails

-- what a failure shows: the layout refuses the part before, or something is wrong from here on
abbrev Shows : IdSizes → List ℕ → Layout → ℕ → List ℕ → Trouble → Type 0
Shows sizes body layout last bytes t =
    ((cause : Cause) × (layout ≡ refuses cause) × (t ≡ wrong cause last))
    ⊎ ((at : ℕ) × (cause : Cause) × (t ≡ wrong cause (from (length body) bytes + at))
    × IsWrongAt sizes layout bytes at cause)

abbrev ShowsBehind : IdSizes → List ℕ → Layout → ℕ → List ℕ → Type 0
ShowsBehind sizes body layout last bytes = (t : Trouble) → IsBytes bytes → length bytes ≤ length body
    → layout_at layout last (standing sizes body bytes) ≡ Err t → Shows sizes body layout last bytes t

not_both : {A : Type 0} (r : Result A ValueFault) (x : A) (d : ValueFault) → r ≡ Ok x → r ≡ Err d → ⊥
not_both (Ok y) x d is e = absurd cc
not_both (Err c) x d is e = absurd cc

none_stands : (sizes : IdSizes) (p : Part) (bytes : List ℕ) (d : ValueFault) → read_part sizes p bytes ≡ Err d
    → HasNone sizes p bytes
none_stands sizes p bytes d e x rest s =
    not_both (read_part sizes p bytes) (x, rest) d (part_read sizes p bytes x rest s) e

shows_begins : (sizes : IdSizes) (body : List ℕ) (p : Part) (behind : Of p → Layout) (last : ℕ) (bytes : List ℕ)
    (t : Trouble) → IsBytes bytes → length bytes ≤ length body
    → ((x : Of p) (rest : List ℕ) → ShowsBehind sizes body (behind x) (from (length body) bytes) rest)
    → (r : Result (Of p × List ℕ) ValueFault) → read_part sizes p bytes ≡ r
    → onto (in_row (placed (standing sizes body bytes) r)) (λ x. layout_at (behind x.0) (from (length body) bytes) x.1)
    ≡ Err t
    → Shows sizes body (begins p behind) last bytes t
shows_begins sizes body p behind last bytes t fits le each (Err d) is e =
    let here : from (length body) bytes ≡ from (length body) bytes + 0 = omega arith in
    let cause : cause_in d ≡ cause_of p bytes = sym (part_cause sizes p bytes d is) in
    inr (
      0,
      cause_of p bytes,
      sym (fails_alike (wrong (cause_in d) (from (length body) bytes)) t e)
          ∙ (λ i. wrong (cause i) (here i)),
      has_none (none_stands sizes p bytes d is),
    )
shows_begins sizes body p behind last bytes t fits le each (Ok x) is e =
    let s = part_stands sizes p bytes x fits is in
    let long = stands_long sizes p bytes x.0 x.1 s.0 in
    let less : length x.1 ≤ length body = omega (arith, long, le) in
    elim (each x.0 x.1 t s.1 less e) [
      | inl refused ↦
          let here : from (length body) bytes ≡ from (length body) bytes + 0 = omega arith in
          inr (0, refused.0, refused.2 ∙ ap (wrong refused.0) here, is_refused x.0 x.1 s.0 refused.1)
      | inr later ↦
          let there : from (length body) x.1 + later.0
          ≡ from (length body) bytes + (length (spell_part sizes p x.0) + later.0) = omega (arith, long, le) in
          inr (
            length (spell_part sizes p x.0) + later.0,
            later.1,
            later.2 ∙ ap (wrong later.1) there,
            is_behind x.0 x.1 s.0 later.3,
          )
    ]

left_over : (n : ℕ) → eqb (suc n) 0 ≡ false
left_over n = ne_eqb (suc n) 0 (omega arith)

-- bytes are left behind the end
left_fails : (sizes : IdSizes) (body : List ℕ) (last b : ℕ) (bytes : List ℕ)
    → layout_at ends last (standing sizes body (b ∷ bytes))
    ≡ Err (wrong trailing (from (length body) (b ∷ bytes) + 0))
left_fails sizes body last b bytes =
    let start = from (length body) (b ∷ bytes) in
    let here : start ≡ start + 0 = omega arith in
    ap (λ (e : Bool). cond e (Ok tt) (fails (wrong trailing start))) (left_over (length bytes))
    ∙ ap (λ (n : ℕ). fails (wrong trailing n)) here

shows_left : (sizes : IdSizes) (body : List ℕ) (last : ℕ) (bytes : List ℕ) (t : Trouble)
    → layout_at ends last (standing sizes body bytes) ≡ Err t → Shows sizes body ends last bytes t
shows_left sizes body last [] t e = absurd cc
shows_left sizes body last (b ∷ bytes) t e =
    let there = wrong trailing (from (length body) (b ∷ bytes) + 0) in
    inr (0, trailing, sym (fails_alike there t (sym (left_fails sizes body last b bytes) ∙ e)), is_left)

pub shows : (sizes : IdSizes) (body : List ℕ) (layout : Layout) (last : ℕ) (bytes : List ℕ)
    → ShowsBehind sizes body layout last bytes
unfolding part_at
shows sizes body ends last bytes = λ t fits le e. shows_left sizes body last bytes t e
shows sizes body (begins p behind) last bytes = λ t fits le e.
    shows_begins sizes body p behind last bytes t fits le
    (λ x rest. shows sizes body (behind x) (from (length body) bytes) rest) (read_part sizes p bytes) refl e
shows sizes body (refuses cause) last bytes = λ t fits le e.
    inl (cause, refl, sym (fails_alike (wrong cause last) t e))

-- ---- what is wrong

wrong_none : (sizes : IdSizes) (body : List ℕ) (p : Part) (behind : Of p → Layout) (bytes : List ℕ) → IsBytes bytes
    → HasNone sizes p bytes → (r : Result (Of p × List ℕ) ValueFault) → read_part sizes p bytes ≡ r
    → onto (in_row (placed (standing sizes body bytes) r)) (λ x. layout_at (behind x.0) (from (length body) bytes) x.1)
    ≡ Err (wrong (cause_of p bytes) (from (length body) bytes + 0))
wrong_none sizes body p behind bytes fits none (Ok x) is =
    absurd (none x.0 x.1 (part_stands sizes p bytes x fits is).0)
wrong_none sizes body p behind bytes fits none (Err d) is =
    let here : from (length body) bytes ≡ from (length body) bytes + 0 = omega arith in
    let cause : cause_in d ≡ cause_of p bytes = sym (part_cause sizes p bytes d is) in
    λ i. fails (wrong (cause i) (here i))

pub fails_there : (sizes : IdSizes) (body : List ℕ) (layout : Layout) (bytes : List ℕ) (at : ℕ) (cause : Cause)
    → IsWrongAt sizes layout bytes at cause → (last : ℕ) → IsBytes bytes → length bytes ≤ length body
    → layout_at layout last (standing sizes body bytes) ≡ Err (wrong cause (from (length body) bytes + at))
unfolding part_at
fails_there sizes body _ _ _ _ (has_none {p} {behind} {bytes} none) last fits le =
    wrong_none sizes body p behind bytes fits none (read_part sizes p bytes) refl
fails_there sizes body _ _ _ _ (is_refused {p} {behind} {bytes} {cause} x rest s is) last fits le =
    let start = from (length body) bytes in
    let here : start ≡ start + 0 = omega arith in
    ap (λ (r : Result (Of p × List ℕ) ValueFault). onto (in_row (placed (standing sizes body bytes) r))
    (λ y. layout_at (behind y.0) start y.1)) (part_read sizes p bytes x rest s)
    ∙ ap (λ (l : Layout). layout_at l start (standing sizes body rest)) is ∙ ap (λ (n : ℕ). fails (wrong cause n)) here
fails_there sizes body _ _ _ _ (is_behind {p} {behind} {bytes} {at} {cause} x rest s later) last fits le =
    let start = from (length body) bytes in
    let read = part_read sizes p bytes x rest s in
    let long = stands_long sizes p bytes x rest s in
    let less : length rest ≤ length body = omega (arith, long, le) in
    let rest_fits = (part_stands sizes p bytes (x, rest) fits read).1 in
    let there : from (length body) rest + at ≡ start + (length (spell_part sizes p x) + at) =
    omega (arith, long, le) in
    ap (λ (r : Result (Of p × List ℕ) ValueFault). onto (in_row (placed (standing sizes body bytes) r))
    (λ y. layout_at (behind y.0) start y.1)) read
    ∙ fails_there sizes body (behind x) rest at cause later start rest_fits less
    ∙ ap (λ (n : ℕ). fails (wrong cause n)) there
fails_there sizes body _ _ _ _ (is_left {b} {bytes}) last fits le = left_fails sizes body last b bytes

-- ---- there is one

abbrev place_of : Trouble → ℕ
place_of memory = 0
place_of (wrong cause at) = at

abbrev cause_at : Trouble → Cause
cause_at memory = trailing
cause_at (wrong cause at) = cause

pub one_wrong : (sizes : IdSizes) (layout : Layout) (body : List ℕ) (at other : ℕ) (cause another : Cause)
    → IsBytes body → IsWrongAt sizes layout body at cause → IsWrongAt sizes layout body other another
    → (at ≡ other) × (cause ≡ another)
one_wrong sizes layout body at other cause another fits w v =
    let start = from (length body) body in
    let this = fails_there sizes body layout body at cause w 0 fits (omega arith) in
    let that = fails_there sizes body layout body other another v 0 fits (omega arith) in
    let same : wrong cause (start + at) ≡ wrong another (start + other) = fails_alike (wrong cause (start + at))
    (wrong another (start + other)) (sym this ∙ that) in
    let places : start + at ≡ start + other = ap place_of same in
    (omega (arith, places), ap cause_at same)
