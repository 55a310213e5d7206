-- A byte is refused just where it is the first of none, and for just the first cause that applies.
use Rattle.std.proofs.Common.{◌≡◌, ℕ, ◌+◌, ◌<◌, List, [], ◌∷◌, ◌++◌, length, take, drop, refl, sym, ap, subst, ◌∙◌}
use Rattle.std.proofs.Common.{arith, inl, inr, append_assoc}
use Rattle.std.proofs.lemmas.Bool.{cases_lt}
use Rattle.std.proofs.lemmas.List.{append-nil, take-append-drop, take-take}
use Rattle.wire_core.specs.Streams.{Front, waits, whole, faulty}
use Rattle.dap_frames.specs.declared.fault.FrameFault.{FrameFault}
use Rattle.dap_frames.specs.Frames.{Frame, IsRefused, IsLongHeader, HasNoFrame, frame_front}
use Rattle.dap_frames.specs.Faults.{causes, IsFirst}
use Rattle.dap_frames.proofs.FrameLaws.{frame-is}
use Rattle.dap_frames.proofs.Unfinished.{waits-is, refusal-is}
use Rattle.dap_frames.proofs.Causes.{cause-of}

-- with a refused byte no frame begins so
none-begins : (bytes more header body rest : List ℕ) (k : ℕ) → HasNoFrame (take k bytes)
    → IsLongHeader header (length body)
    → bytes ++ more ≡ (header ++ body) ++ rest → ⊥
none-begins bytes more header body rest k none is parts =
    none (drop k bytes ++ more) header body rest is
    (sym (append_assoc (take k bytes) (drop k bytes) more) ∙ ap (λ (l : List ℕ). l ++ more) (take-append-drop k bytes) ∙
    parts)

-- of two refused bytes neither is earlier
not-before : (bytes : List ℕ) (f g : FrameFault) (p q : ℕ) → IsRefused bytes f p → IsRefused bytes g q → p < q → ⊥
not-before bytes f g p q a b early =
    elim a.why [
      | inl late ↦ elim b.why [
        | inl other ↦ omega (arith, late.1, other.1)
        | inr other ↦ omega (arith, late.1, other.0)
      ]
      | inr here ↦
          let part = b.before in
          let first : take (p + 1) (take q bytes) ≡ take (p + 1) bytes = take-take (p + 1) q bytes (omega arith) in
          none-begins (take q bytes) part.more part.header part.body [] (p + 1)
          (subst HasNoFrame (sym first) here.1) part.is_header
          (part.parts ∙ sym (append-nil (part.header ++ part.body)))
    ]

first-one : (all : List FrameFault) (f g : FrameFault) (before : List ℕ) (b : ℕ) → IsFirst all f before b
    → IsFirst all g before b → f ≡ g
first-one [] f g before b x y = absurd x
first-one (c ∷ cs) f g before b (inl x) (inl y) = x.0 ∙ sym y.0
first-one (c ∷ cs) f g before b (inl x) (inr y) = absurd (y.0 x.1)
first-one (c ∷ cs) f g before b (inr x) (inl y) = absurd (x.0 y.1)
first-one (c ∷ cs) f g before b (inr x) (inr y) = first-one cs f g before b x.1 y.1

pub refused-from-cause : (before rest : List ℕ) (b : ℕ) (f : FrameFault)
    → IsRefused (before ++ b ∷ rest) f (length before) → IsFirst causes f before b
    → frame_front (before ++ b ∷ rest) ≡ faulty f (length before)
refused-from-cause before rest b f is first = by (frame_front bytes) refl
  where
    bytes : List ℕ
    bytes = before ++ b ∷ rest

    by : (x : Front Frame FrameFault) → frame_front bytes ≡ x → frame_front bytes ≡ faulty f (length before)
    by waits e =
        let unfinished = waits-is bytes e in
        let part = unfinished.is_part in
        absurd (elim is.why [
          | inl late ↦ elim unfinished.in_bounds [
            | inl few ↦ omega (arith, is.here, late.1)
            | inr h ↦ late.2 h.0 h.1 h.2 h.3 h.4
          ]
          | inr here ↦
              none-begins bytes part.more part.header part.body [] (length before + 1) here.1 part.is_header
              (part.parts ∙ sym (append-nil (part.header ++ part.body)))
        ])
    by (whole frame n) e =
        let begins = frame-is bytes frame n e in
        absurd (elim is.why [
          | inl late ↦
              late.2 begins.header (frame.body ++ begins.rest) (length frame.body) begins.is_header
              (begins.parts ∙ append_assoc begins.header frame.body begins.rest)
          | inr here ↦
              none-begins bytes [] begins.header frame.body begins.rest (length before + 1) here.1
              begins.is_header.is_long
              (append-nil bytes ∙ begins.parts)
        ])
    by (faulty g q) e =
        let other = refusal-is bytes g q e in
        elim (cases_lt q (length before)) [
          | inl early ↦ absurd (not-before bytes g f q (length before) other is early)
          | inr late ↦ elim (cases_lt (length before) q) [
            | inl early ↦ absurd (not-before bytes f g (length before) q is other early)
            | inr last ↦
                let same : q ≡ length before = omega arith in
                let here : frame_front bytes ≡ faulty g (length before) = e ∙ ap (λ (k : ℕ). faulty g k) same in
                here ∙ ap (λ (x : FrameFault). faulty x (length before))
                (first-one causes g f before b (cause-of before rest b g here) first)
          ]
        ]

-- both ways
pub refused-just : (before rest : List ℕ) (b : ℕ) (f : FrameFault)
    → (frame_front (before ++ b ∷ rest) ≡ faulty f (length before) → IsRefused (before ++ b ∷ rest) f (length before)
    × IsFirst causes f before b)
    × (IsRefused (before ++ b ∷ rest) f (length before) × IsFirst causes f before b
    → frame_front (before ++ b ∷ rest) ≡ faulty f (length before))
refused-just before rest b f = (
  λ e. (refusal-is (before ++ b ∷ rest) f (length before) e, cause-of before rest b f e),
  λ is. refused-from-cause before rest b f is.0 is.1,
)
