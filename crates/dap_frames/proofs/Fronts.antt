-- What stands at the front of a stream, by what its header says: a header has at most 4,096 bytes.
use Rattle.std.proofs.Common.{◌≡◌, ℕ, ◌+◌, ◌-◌, ◌<◌, ◌≤◌, min, Bool, true, false, cond, ltb, List, [], ◌++◌, length}
use Rattle.std.proofs.Common.{take, drop, None, refl, sym, ap, ◌∙◌, arith, ◌⊎◌, inl, inr, append_assoc}
use Rattle.std.proofs.lemmas.Bool.{lt-ltb, le-ltb, ltb-true, ltb-false, cases_lt}
use Rattle.std.proofs.lemmas.List.{append-nil, take-append-drop, length-append, length-take, take_all, take_at}
use Rattle.std.proofs.lemmas.List.{take-take, take-append-le, drop-take, take_min}
use Rattle.wire_core.specs.Streams.{waits, whole, faulty}
use Rattle.dap_frames.specs.declared.fault.FrameFault.{FrameFault}
use Rattle.dap_frames.specs.declared.fault.FrameFault.TheVariants.{HeaderTooLong}
use Rattle.dap_frames.specs.declared.header.Reading.{Reading}
use Rattle.dap_frames.specs.declared.header.Reading.TheVariants.{Line}
use Rattle.dap_frames.specs.declared.header.Head.{Head}
use Rattle.dap_frames.specs.declared.header.Head.TheVariants.{Reads, Ends, Refused}
use Rattle.dap_frames.specs.Reading.{head, onward}
use Rattle.dap_frames.specs.Frames.{IsHeader, bounded_by, header_of, front_by, frame_front}
use Rattle.dap_frames.specs.Taking.{IsRead}
use Rattle.dap_frames.proofs.Heads.{head-append, head-within, head-refused}
use Rattle.dap_frames.proofs.Lines.{header-read}
use Rattle.dap_frames.proofs.LinesBack.{header-is}

-- what the first 4,096 bytes say
abbrev pub start_of : List ℕ → Head
start_of bytes = head (Line None) (take 4096 bytes)

-- ---- the bound

-- still read: so few bytes came
pub record Unended (bytes : List ℕ) (r : Reading) : Type 0 where
  pub few : length bytes ≤ 4096
  pub says : head (Line None) bytes ≡ Reads r

pub reads-is : (bytes : List ℕ) (r : Reading) → header_of bytes ≡ Reads r → Unended bytes r
reads-is bytes r e = by (start_of bytes) refl e
  where
    found : (s : Reading) (many : Bool) → start_of bytes ≡ Reads s → ltb 4096 (length bytes) ≡ many
        → cond many (Refused HeaderTooLong 4096) (Reads s) ≡ Reads r → Unended bytes r
    found s true says test e = absurd cc
    found s false says test e =
        let few : length bytes ≤ 4096 = ltb-false 4096 (length bytes) test in
        record { few = few; says = ap (head (Line None)) (sym (take_all 4096 bytes few)) ∙ says ∙ e }

    by : (h : Head) → start_of bytes ≡ h → bounded_by (length bytes) h ≡ Reads r → Unended bytes r
    by (Reads s) says e = found s (ltb 4096 (length bytes)) says refl e
    by (Ends n h) says e = absurd cc
    by (Refused f p) says e = absurd cc

pub ends-is : (bytes : List ℕ) (n h : ℕ) → header_of bytes ≡ Ends n h → start_of bytes ≡ Ends n h
ends-is bytes n h e = by (start_of bytes) refl e
  where
    found : (s : Reading) (many : Bool) → cond many (Refused HeaderTooLong 4096) (Reads s) ≡ Ends n h
        → start_of bytes ≡ Ends n h
    found s true e = absurd cc
    found s false e = absurd cc

    by : (x : Head) → start_of bytes ≡ x → bounded_by (length bytes) x ≡ Ends n h → start_of bytes ≡ Ends n h
    by (Reads s) says e = found s (ltb 4096 (length bytes)) e
    by (Ends m k) says e = says ∙ e
    by (Refused f p) says e = absurd cc

pub ends-from : (bytes : List ℕ) (n h : ℕ) → start_of bytes ≡ Ends n h → header_of bytes ≡ Ends n h
ends-from bytes n h e = ap (bounded_by (length bytes)) e

-- a byte is refused for what it is, or for coming too late
pub refused-is : (bytes : List ℕ) (f : FrameFault) (p : ℕ) → header_of bytes ≡ Refused f p
    → (start_of bytes ≡ Refused f p) ⊎
    ((r : Reading) × (start_of bytes ≡ Reads r) × (4096 < length bytes) × (f ≡ HeaderTooLong) × (p ≡ 4096))
refused-is bytes f p e = by (start_of bytes) refl e
  where
    found : (s : Reading) (many : Bool) → start_of bytes ≡ Reads s → ltb 4096 (length bytes) ≡ many
        → cond many (Refused HeaderTooLong 4096) (Reads s) ≡ Refused f p
        → (start_of bytes ≡ Refused f p) ⊎
        ((r : Reading) × (start_of bytes ≡ Reads r) × (4096 < length bytes) × (f ≡ HeaderTooLong) × (p ≡ 4096))
    found s true says test e =
        let fault : HeaderTooLong ≡ f = cc in
        let place : 4096 ≡ p = cc in
        inr (s, says, ltb-true 4096 (length bytes) test, sym fault, sym place)
    found s false says test e = absurd cc

    by : (x : Head) → start_of bytes ≡ x → bounded_by (length bytes) x ≡ Refused f p
        → (start_of bytes ≡ Refused f p) ⊎
        ((r : Reading) × (start_of bytes ≡ Reads r) × (4096 < length bytes) × (f ≡ HeaderTooLong) × (p ≡ 4096))
    by (Reads s) says e = found s (ltb 4096 (length bytes)) says refl e
    by (Ends m k) says e = absurd cc
    by (Refused g q) says e = inl (says ∙ e)

pub refused-from : (bytes : List ℕ) (f : FrameFault) (p : ℕ) → start_of bytes ≡ Refused f p
    → header_of bytes ≡ Refused f p
refused-from bytes f p e = ap (bounded_by (length bytes)) e

pub too-long-from : (bytes : List ℕ) (r : Reading) → start_of bytes ≡ Reads r → 4096 < length bytes
    → header_of bytes ≡ Refused HeaderTooLong 4096
too-long-from bytes r e many =
    ap (bounded_by (length bytes)) e ∙ ap (λ (b : Bool). cond b (Refused HeaderTooLong 4096) (Reads r))
    (lt-ltb 4096 (length bytes) many)

-- ---- more bytes

-- the first 4,096 bytes go on with more
take-more : (bytes more : List ℕ) → (tail : List ℕ) × (take 4096 (bytes ++ more) ≡ take 4096 bytes ++ tail)
take-more bytes more =
    elim (cases_lt (length bytes) 4096) [
      | inl few ↦
          let all : List ℕ = take 4096 (bytes ++ more) in
          let first : take (length bytes) all ≡ bytes = take-take (length bytes) 4096 (bytes ++ more) (omega arith) ∙
          take_at bytes more (length bytes) refl in (
            drop (length bytes) all,
            sym (take-append-drop (length bytes) all)
                ∙ ap (λ (l : List ℕ). l ++ drop (length bytes) all) (first ∙ sym (take_all 4096 bytes (omega arith))),
          )
      | inr many ↦ ([], take-append-le 4096 bytes more many ∙ sym (append-nil (take 4096 bytes)))
    ]

start-more : (bytes more : List ℕ) (h : Head) → start_of bytes ≡ h
    → (tail : List ℕ) × (start_of (bytes ++ more) ≡ onward (length (take 4096 bytes)) h tail)
start-more bytes more h e =
    let t = take-more bytes more in (
      t.0,
      ap (head (Line None)) t.1 ∙ head-append (Line None) (take 4096 bytes) t.0 ∙ ap
          (λ (x : Head). onward (length (take 4096 bytes)) x t.0) e,
    )

pub ends-more : (bytes more : List ℕ) (n h : ℕ) → header_of bytes ≡ Ends n h → header_of (bytes ++ more) ≡ Ends n h
ends-more bytes more n h e = ends-from (bytes ++ more) n h (start-more bytes more (Ends n h) (ends-is bytes n h e)).1

pub refused-more : (bytes more : List ℕ) (f : FrameFault) (p : ℕ) → header_of bytes ≡ Refused f p
    → header_of (bytes ++ more) ≡ Refused f p
refused-more bytes more f p e =
    elim (refused-is bytes f p e) [
      | inl says ↦ refused-from (bytes ++ more) f p (start-more bytes more (Refused f p) says).1
      | inr late ↦
          let many : 4096 ≤ length bytes = omega (arith, late.2) in
          too-long-from (bytes ++ more) late.0 (ap (head (Line None)) (take-append-le 4096 bytes more many) ∙ late.1)
          (omega (arith, late.2, length-append bytes more))
          ∙ ap (λ (g : FrameFault). Refused g 4096) (sym late.3) ∙ ap (λ (q : ℕ). Refused f q) (sym late.4)
    ]

-- ---- places

pub ends-within : (bytes : List ℕ) (n h : ℕ) → header_of bytes ≡ Ends n h → (0 < h) × (h ≤ length bytes) × (h ≤ 4096)
ends-within bytes n h e =
    let inside = head-within (Line None) (take 4096 bytes) n h (ends-is bytes n h e) in
    (inside.0, omega (arith, inside.1, length-take 4096 bytes), omega (arith, inside.1, length-take 4096 bytes))

pub refused-within : (bytes : List ℕ) (f : FrameFault) (p : ℕ) → header_of bytes ≡ Refused f p
    → (p < length bytes) × (p ≤ 4096)
refused-within bytes f p e =
    elim (refused-is bytes f p e) [
      | inl says ↦
          let inside = head-refused (Line None) (take 4096 bytes) f p says in
          (omega (arith, length-take 4096 bytes), omega (arith, length-take 4096 bytes))
      | inr late ↦ (omega (arith, late.2, late.4), omega (arith, late.4))
    ]

-- ---- headers

-- the header that ends after h bytes
pub record Bounded (bytes : List ℕ) (n h : ℕ) : Type 0 where
  pub header : List ℕ
  pub rest : List ℕ
  pub parts : bytes ≡ header ++ rest
  pub is_header : IsHeader header n
  pub len : length header ≡ h

pub bounded-is : (bytes : List ℕ) (n h : ℕ) → header_of bytes ≡ Ends n h → Bounded bytes n h
bounded-is bytes n h e =
    let found = header-is (take 4096 bytes) n h (ends-is bytes n h e) in
    let len = found.len in
    record {
      header = found.header;
      rest = found.rest ++ drop 4096 bytes;
      parts = sym (take-append-drop 4096 bytes) ∙ ap (λ (l : List ℕ). l ++ drop 4096 bytes) found.parts
          ∙ append_assoc found.header found.rest (drop 4096 bytes);
      is_header = record { is_long = found.is_header; bounded = omega (arith, (ends-within bytes n h e).2) };
      len = found.len;
    }

pub bounded-read : (header : List ℕ) (n : ℕ) (more : List ℕ) → IsHeader header n
    → header_of (header ++ more) ≡ Ends n (length header)
bounded-read header n more is =
    let t = take-more header more in
    ends-from (header ++ more) n (length header)
    (ap (head (Line None)) (t.1 ∙ ap (λ (l : List ℕ). l ++ t.0) (take_all 4096 header is.bounded)) ∙ header-read header
    n t.0 is.is_long)

-- ---- reading on

-- what was read, and the rest of the first 4,096 bytes
pub header_more : (r : Reading) (read : ℕ) (pending : List ℕ) → IsRead (Reads r) read pending
    → (read ≤ min 4096 (length pending))
    × (bounded_by (length pending) (onward read (Reads r) (take (min 4096 (length pending) - read) (drop read pending)))
    ≡ header_of pending)
header_more r read pending known =
    let inside : read ≤ length pending = known.within in
    let unended = reads-is (take read pending) r known.says in
    let few = unended.few in
    let len : length (take read pending) ≡ read = omega (arith, length-take read pending) in
    let end : ℕ = min 4096 (length pending) in
    let before : read ≤ end = omega (arith, few) in
    let rest : List ℕ = take (end - read) (drop read pending) in
    let split : take 4096 pending ≡ take read pending ++ rest =
    sym (take_min 4096 pending) ∙ sym (take-append-drop read (take end pending))
    ∙ ap (λ (l : List ℕ). l ++ drop read (take end pending)) (take-take read end pending before)
    ∙ ap (λ (k : ℕ). take read pending ++ drop read (take k pending)) (omega arith)
    ∙ ap (λ (l : List ℕ). take read pending ++ l) (drop-take read (end - read) pending) in
    let on : head (Line None) (take 4096 pending) ≡ onward read (Reads r) rest =
    ap (head (Line None)) split ∙ head-append (Line None) (take read pending) rest
    ∙ ap (λ (h : Head). onward (length (take read pending)) h rest) unended.says ∙ ap
    (λ (k : ℕ). onward k (Reads r) rest) len in
    (before, ap (bounded_by (length pending)) (sym on))

-- what is said already stays said
pub header_kept : (h : Head) (read : ℕ) (pending : List ℕ) → IsRead h read pending
    → ((n k : ℕ) → h ≡ Ends n k → header_of pending ≡ Ends n k)
    × ((f : FrameFault) (p : ℕ) → h ≡ Refused f p → header_of pending ≡ Refused f p)
header_kept h read pending known =
    let whole_is : take read pending ++ drop read pending ≡ pending = take-append-drop read pending in (
      λ n k e. ap header_of (sym whole_is) ∙ ends-more (take read pending) (drop read pending) n k (known.says ∙ e),
      λ f p e. ap header_of (sym whole_is) ∙ refused-more (take read pending) (drop read pending) f p (known.says ∙ e),
    )

-- ---- the front by each thing that the header may say

module _ (bytes : List ℕ) where
  by : (h : Head) → header_of bytes ≡ h → frame_front bytes ≡ front_by h bytes
  unfolding frame_front
  by h e = ap (λ (x : Head). front_by x bytes) e

  pub front-reads : (r : Reading) → header_of bytes ≡ Reads r → frame_front bytes ≡ waits
  front-reads r e = by (Reads r) e

  pub front-refused : (f : FrameFault) (p : ℕ) → header_of bytes ≡ Refused f p → frame_front bytes ≡ faulty f p
  front-refused f p e = by (Refused f p) e

  pub front-short : (n h : ℕ) → header_of bytes ≡ Ends n h → length bytes < h + n → frame_front bytes ≡ waits
  front-short n h e short = by (Ends n h) e ∙ rw (lt-ltb (length bytes) (h + n) short) refl

  pub front-whole : (n h : ℕ) → header_of bytes ≡ Ends n h → h + n ≤ length bytes
      → frame_front bytes ≡ whole (record { header = h; body = take n (drop h bytes) }) (h + n)
  front-whole n h e long = by (Ends n h) e ∙ rw (le-ltb (length bytes) (h + n) long) refl
