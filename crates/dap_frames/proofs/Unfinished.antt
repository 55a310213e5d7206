-- What waits can go on to be a frame; what is refused can't, and what stands before it can.
use Rattle.std.proofs.Common.{◌≡◌, ℕ, suc, ◌+◌, ◌-◌, ◌<◌, ◌≤◌, Bool, true, false, cond, ltb, List, [], ◌∷◌, ◌++◌}
use Rattle.std.proofs.Common.{length, take, drop, replicate, Option, Some, None, refl, sym, ap, subst, ◌∙◌, arith, inl}
use Rattle.std.proofs.Common.{inr, append_assoc}
use Rattle.std.specs.Prelude.{codes}
use Rattle.std.specs.Str.Parse.{digits_value}
use Rattle.std.proofs.lemmas.Bool.{ltb-true, lt-ltb, eqb-true, cases_Bool, cases_eq}
use Rattle.std.proofs.lemmas.List.{append-nil, take-take, take_all, length-append, length-take, length-replicate}
use Rattle.std.proofs.lemmas.List.{nil_from_length}
use Rattle.wire_core.specs.Streams.{Front, waits, whole, faulty}
use Rattle.dap_frames.specs.declared.fault.FrameFault.{FrameFault}
use Rattle.dap_frames.specs.declared.header.Reading.{Reading}
use Rattle.dap_frames.specs.declared.header.Reading.TheVariants.{Line, Name, Digits, Value, LineEnd, End}
use Rattle.dap_frames.specs.declared.header.Step.{Step}
use Rattle.dap_frames.specs.declared.header.Step.TheVariants.{Goes, Ends, Refused}
use Rattle.dap_frames.specs.declared.header.Head.{Head}
use Rattle.dap_frames.specs.declared.header.Head.TheVariants as heads
use Rattle.dap_frames.specs.Reading.{step, after_step, head, later, onward, is_length_name, behind_name, next_match}
use Rattle.dap_frames.specs.Frames.{Frame, IsLongHeader, IsFrame, IsPart, IsUnfinished, HasNoFrame, IsRefused}
use Rattle.dap_frames.specs.Frames.{header_of, front_by, frame_front}
use Rattle.dap_frames.proofs.Heads.{head-append, head-refused}
use Rattle.dap_frames.proofs.Lines.{header-read}
use Rattle.dap_frames.proofs.LinesBack.{IsFront, Next, same_line, next_line, step-front, header-is}
use Rattle.dap_frames.proofs.Fronts.{reads-is, ends-is, refused-is, bounded-is, bounded-read, front-reads, front-short}
use Rattle.dap_frames.proofs.FrameLaws.{frame-found, faulty-is}

-- ---- bytes that end the header from here

record Ending (r : Reading) : Type 0 where
  text : List ℕ
  some : 0 < length text
  value : ℕ
  ends : head r text ≡ heads.Ends value (length text)

-- one byte, and then those that end it
leads : (r t : Reading) (b : ℕ) → step r b ≡ Goes t → Ending t → Ending r
leads r t b goes e = record {
  text = b ∷ e.text;
  some = omega arith;
  value = e.value;
  ends =
      ap (λ s. after_step s (λ u. head u e.text)) goes ∙ ap (later 1) e.ends ∙ ap (λ (k : ℕ). heads.Ends e.value k)
      (omega arith);
}

line-ending : (said : Option ℕ) → Ending (Line said)
line-ending None = record { text = codes "Content-Length:0\r\n\r\n"; some = omega arith; value = 0; ends = refl }
line-ending (Some n) = record { text = codes "\r\n"; some = omega arith; value = n; ends = refl }

line-end-ending : (said : Option ℕ) → Ending (LineEnd said)
line-end-ending said = leads (LineEnd said) (Line said) 10 refl (line-ending said)

value-ending : (said : Option ℕ) → Ending (Value said)
value-ending said = leads (Value said) (LineEnd said) 13 refl (line-end-ending said)

-- a name that isn't `Content-Length`
other-ending : (said m : Option ℕ) → is_length_name m ≡ false → Ending (Name said m)
other-ending said m other =
    leads (Name said m) (Value said) 58 (ap (λ (t : Bool). behind_name said t) other) (value-ending said)

-- one that is goes on with a letter
name-ending : (said m : Option ℕ) → Ending (Name said m)
name-ending said None = other-ending said None refl
name-ending said (Some k) =
    elim (cases_Bool (is_length_name (Some k))) [
      | inl says ↦
          leads (Name said (Some k)) (Name said None) 120
          (ap (λ (j : ℕ). Goes (Name said (next_match (Some j) 120))) (eqb-true k 14 says))
          (other-ending said None refl)
      | inr none ↦ other-ending said (Some k) none
    ]

digits-ending : (count value : ℕ) → (count ≡ 0 → value ≡ 0) → Ending (Digits count value)
digits-ending count value empty =
    elim (cases_eq count 0) [
      | inl none ↦
          leads (Digits count value) (Digits 1 0) 48
          (ap (λ (c : ℕ). step (Digits c value) 48) none ∙ ap (λ (v : ℕ). step (Digits 0 v) 48) (empty none))
          (leads (Digits 1 0) (LineEnd (Some 0)) 13 refl (line-end-ending (Some 0)))
      | inr some ↦
          let more : 0 < count = omega arith in
          leads (Digits count value) (LineEnd (Some value)) 13 (digit-end count value more)
          (line-end-ending (Some value))
    ]
  where
    digit-end : (c v : ℕ) → 0 < c → step (Digits c v) 13 ≡ Goes (LineEnd (Some v))
    digit-end c v some = rw (lt-ltb 0 c some) refl

ending : (r : Reading) (said : Option ℕ) (front : List ℕ) → IsFront r said front → Ending r
ending (Line length) said front is = line-ending length
ending (Name length m) said front is = name-ending length m
ending (Digits count value) said front is =
    digits-ending count value (λ none. let len = is.1.len in
    let empty : is.1.digits ≡ [] = nil_from_length is.1.digits (omega arith) in
    sym is.1.is ∙ ap (λ (l : List ℕ). digits_value 10 l) empty)
ending (Value length) said front is = value-ending length
ending (LineEnd length) said front is = line-end-ending length
ending (End n) said front is = record { text = 10 ∷ []; some = omega arith; value = n; ends = refl }

-- ---- what is read from a header's first byte on

record Reached (r : Reading) : Type 0 where
  said : Option ℕ
  front : List ℕ
  is : IsFront r said front

reached : (xs : List ℕ) (r t : Reading) (said : Option ℕ) (front : List ℕ) → IsFront r said front
    → head r xs ≡ heads.Reads t → Reached t
reached [] r t said front is e =
    let same : r ≡ t = cc in
    subst (λ (u : Reading). Reached u) same (record { said = said; front = front; is = is })
reached (x ∷ xs) r t said front is e = by (step r x) refl e (λ u s f. reached xs u t s f)
  where
    inner : (h : Head) → later 1 h ≡ heads.Reads t → h ≡ heads.Reads t
    inner (heads.Reads s) e = e
    inner (heads.Ends n h) e = absurd cc
    inner (heads.Refused f p) e = absurd cc

    next : (u : Reading) → Next u said (front ++ x ∷ []) → head u xs ≡ heads.Reads t
        → ((v : Reading) (s : Option ℕ) (f : List ℕ) → IsFront v s f → head v xs ≡ heads.Reads t → Reached t)
        → Reached t
    next u (same_line is_front) e rest = rest u said (front ++ x ∷ []) is_front e
    next u (next_line after line_is is_line) e rest =
        rest (Line after) after [] (refl, refl) (ap (λ (v : Reading). head v xs) (sym line_is) ∙ e)

    by : (s : Step) → step r x ≡ s → after_step s (λ u. head u xs) ≡ heads.Reads t
        → ((v : Reading) (s : Option ℕ) (f : List ℕ) → IsFront v s f → head v xs ≡ heads.Reads t → Reached t)
        → Reached t
    by (Goes u) goes e rest = next u (step-front r u x said front is goes) (inner (head u xs) e) rest
    by (Ends n) goes e rest = absurd cc
    by (Refused f) goes e rest = absurd cc

-- ---- parts of frames

-- bytes that are a header, all of them
all-header : (bytes : List ℕ) (value : ℕ) → head (Line None) bytes ≡ heads.Ends value (length bytes)
    → IsLongHeader bytes value
all-header bytes value e =
    let found = header-is bytes value (length bytes) e in
    let len = found.len in
    let none : found.rest ≡ [] =
    nil_from_length found.rest (omega (arith, ap length found.parts, length-append found.header found.rest)) in
    let same : found.header ≡ bytes =
    sym (found.parts ∙ ap (λ (l : List ℕ). found.header ++ l) none ∙ append-nil found.header) in
    subst (λ (l : List ℕ). IsLongHeader l value) same found.is_header

-- what is still read is a part of a frame with as many zeros as its body has
pub part-of-reads : (bytes : List ℕ) (r : Reading) → head (Line None) bytes ≡ heads.Reads r → IsPart bytes
part-of-reads bytes r e =
    let at = reached bytes (Line None) r None [] (refl, refl) e in
    let last = ending r at.said at.front at.is in
    let zeros : List ℕ = replicate last.value 0 in
    let some = last.some in
    let all : IsLongHeader (bytes ++ last.text) last.value =
    all-header (bytes ++ last.text) last.value
    (head-append (Line None) bytes last.text ∙ ap (λ (h : Head). onward (length bytes) h last.text) e ∙ ap
    (later (length bytes)) last.ends
    ∙ ap (λ (k : ℕ). heads.Ends last.value k) (sym (length-append bytes last.text))) in
    record {
      more = last.text ++ zeros;
      some = omega (arith, length-append last.text zeros);
      header = bytes ++ last.text;
      body = zeros;
      is_header = subst (λ (k : ℕ). IsLongHeader (bytes ++ last.text) k) (sym (length-replicate last.value 0)) all;
      parts = sym (append_assoc bytes last.text zeros);
    }

-- a body that isn't whole goes on with zeros
part-of-body : (bytes : List ℕ) (n h : ℕ) → header_of bytes ≡ heads.Ends n h → length bytes < h + n → IsPart bytes
part-of-body bytes n h e short =
    let header = bounded-is bytes n h e in
    let len = header.len in
    let missing : ℕ = n - length header.rest in
    let zeros : List ℕ = replicate missing 0 in
    let count : length zeros ≡ missing = length-replicate missing 0 in
    let here : length bytes ≡ length header.header + length header.rest =
    ap length header.parts ∙ length-append header.header header.rest in
    record {
      more = zeros;
      some = omega arith;
      header = header.header;
      body = header.rest ++ zeros;
      is_header =
          subst (λ (k : ℕ). IsLongHeader header.header k) (omega (arith, length-append header.rest zeros))
          header.is_header.is_long;
      parts = ap (λ (l : List ℕ). l ++ zeros) header.parts ∙ append_assoc header.header header.rest zeros;
    }

-- ---- what waits

pub waits-is : (bytes : List ℕ) → frame_front bytes ≡ waits → IsUnfinished bytes
unfolding frame_front
waits-is bytes e = by (header_of bytes) refl e
  where
    found : (n h : ℕ) (short : Bool) → header_of bytes ≡ heads.Ends n h → ltb (length bytes) (h + n) ≡ short
        → (m : Frame) (k : ℕ)
        → (let it : Front Frame FrameFault = cond short waits (whole m k) in it ≡ waits) → IsUnfinished bytes
    found n h true says test m k e =
        let header = bounded-is bytes n h says in
        record {
          is_part = part-of-body bytes n h says (ltb-true (length bytes) (h + n) test);
          in_bounds = inr (header.header, header.rest, n, header.is_header, header.parts);
        }
    found n h false says test m k e = absurd cc

    by : (h : Head) → header_of bytes ≡ h → front_by h bytes ≡ waits → IsUnfinished bytes
    by (heads.Reads r) says e =
        let u = reads-is bytes r says in
        record { is_part = part-of-reads bytes r u.says; in_bounds = inl u.few }
    by (heads.Ends n h) says e =
        found n h (ltb (length bytes) (h + n)) says refl (record { header = h; body = take n (drop h bytes) }) (h + n) e
    by (heads.Refused f p) says e = absurd cc

-- a header of any length at the front says what it says
long-read : (bytes header body rest : List ℕ) → IsLongHeader header (length body) → bytes ≡ (header ++ body) ++ rest
    → head (Line None) bytes ≡ heads.Ends (length body) (length header)
long-read bytes header body rest is parts =
    ap (head (Line None)) (parts ∙ append_assoc header body rest) ∙ header-read header (length body) (body ++ rest) is

ends-one : (m n h k : ℕ) → heads.Ends m h ≡ heads.Ends n k → (m ≡ n) × (h ≡ k)
ends-one m n h k e = (cc, cc)

-- a header that ended in the front is that of the whole
same-header : (bytes more : List ℕ) (p : IsPart bytes) (n h : ℕ) → head (Line None) bytes ≡ heads.Ends n h
    → (n ≡ length p.body) × (h ≡ length p.header)
same-header bytes more p n h e =
    ends-one n (length p.body) h (length p.header)
    (sym (head-append (Line None) bytes p.more ∙ ap (λ (x : Head). onward (length bytes) x p.more) e)
    ∙ long-read (bytes ++ p.more) p.header p.body [] p.is_header (p.parts ∙ sym (append-nil (p.header ++ p.body))))

part-size : (bytes : List ℕ) (p : IsPart bytes) → length bytes < length p.header + length p.body
part-size bytes p =
    let some = p.some in
    omega (arith, ap length p.parts, length-append bytes p.more, length-append p.header p.body)

pub waits-from : (bytes : List ℕ) → IsUnfinished bytes → frame_front bytes ≡ waits
waits-from bytes u =
    elim u.in_bounds [
      | inl few ↦ by-size few (header_of bytes) refl
      | inr h ↦
          let says : header_of bytes ≡ heads.Ends h.2 (length h.0) = ap header_of h.4 ∙ bounded-read h.0 h.2 h.1 h.3 in
          let raw : head (Line None) bytes ≡ heads.Ends h.2 (length h.0) =
          ap (head (Line None)) h.4 ∙ header-read h.0 h.2 h.1 h.3.is_long in
          let same = same-header bytes [] u.is_part h.2 (length h.0) raw in
          front-short bytes h.2 (length h.0) says (omega (arith, same.0, same.1, part-size bytes u.is_part))
    ]
  where
    by-size : length bytes ≤ 4096 → (x : Head) → header_of bytes ≡ x → frame_front bytes ≡ waits
    by-size few (heads.Reads r) e = front-reads bytes r e
    by-size few (heads.Ends n h) e =
        let raw : head (Line None) bytes ≡ heads.Ends n h =
        ap (head (Line None)) (sym (take_all 4096 bytes few)) ∙ ends-is bytes n h e in
        let same = same-header bytes [] u.is_part n h raw in
        front-short bytes n h e (omega (arith, same.0, same.1, part-size bytes u.is_part))
    by-size few (heads.Refused f p) e =
        elim (refused-is bytes f p e) [
          | inl says ↦
              let raw : head (Line None) bytes ≡ heads.Refused f p =
              ap (head (Line None)) (sym (take_all 4096 bytes few)) ∙ says in
              absurd (clash f p
              (sym (head-append (Line None) bytes u.is_part.more ∙ ap
              (λ (x : Head). onward (length bytes) x u.is_part.more) raw)
              ∙ long-read (bytes ++ u.is_part.more) u.is_part.header u.is_part.body [] u.is_part.is_header
              (u.is_part.parts ∙ sym (append-nil (u.is_part.header ++ u.is_part.body)))))
          | inr late ↦ absurd (omega (arith, late.2))
        ]
      where
        clash : (f : FrameFault) (p : ℕ) {n h : ℕ} → heads.Refused f p ≡ heads.Ends n h → ⊥
        clash f p e = cc

-- ---- what is refused

-- what stands before a refused byte is read, and with it nothing more is
pub record Prefix (r : Reading) (xs : List ℕ) (f : FrameFault) (p : ℕ) : Type 0 where
  pub state : Reading
  pub before : head r (take p xs) ≡ heads.Reads state
  pub with_it : head r (take (p + 1) xs) ≡ heads.Refused f p

pub prefix : (xs : List ℕ) (r : Reading) (f : FrameFault) (p : ℕ) → head r xs ≡ heads.Refused f p → Prefix r xs f p
prefix [] r f p e = absurd cc
prefix (x ∷ xs) r f p e = by (step r x) refl e (λ t g q. prefix xs t g q)
  where
    deeper : (t : Reading) (q : ℕ) → step r x ≡ Goes t → 1 + q ≡ p → Prefix t xs f q → Prefix r (x ∷ xs) f p
    deeper t q goes place found =
        subst (λ (k : ℕ). Prefix r (x ∷ xs) f k) place (shifted found)
      where
        shifted : Prefix t xs f q → Prefix r (x ∷ xs) f (1 + q)
        shifted found =
            let one : 1 + q ≡ suc q = omega arith in
            let two : 1 + q + 1 ≡ suc (q + 1) = omega arith in
            record {
              state = found.state;
              before = ap (λ (k : ℕ). head r (take k (x ∷ xs))) one
                  ∙ ap (λ s. after_step s (λ u. head u (take q xs))) goes ∙ ap (later 1) found.before;
              with_it = ap (λ (k : ℕ). head r (take k (x ∷ xs))) two
                  ∙ ap (λ s. after_step s (λ u. head u (take (q + 1) xs))) goes ∙ ap (later 1) found.with_it;
            }

    through : (t : Reading) (h : Head) → step r x ≡ Goes t → head t xs ≡ h → later 1 h ≡ heads.Refused f p
        → ((u : Reading) (g : FrameFault) (q : ℕ) → head u xs ≡ heads.Refused g q → Prefix u xs g q)
        → Prefix r (x ∷ xs) f p
    through t (heads.Reads s) goes is e rest = absurd cc
    through t (heads.Ends n h) goes is e rest = absurd cc
    through t (heads.Refused g q) goes is e rest =
        let fault : g ≡ f = cc in
        let place : 1 + q ≡ p = cc in
        deeper t q goes place (rest t f q (is ∙ ap (λ (k : FrameFault). heads.Refused k q) fault))

    by : (s : Step) → step r x ≡ s → after_step s (λ u. head u xs) ≡ heads.Refused f p
        → ((u : Reading) (g : FrameFault) (q : ℕ) → head u xs ≡ heads.Refused g q → Prefix u xs g q)
        → Prefix r (x ∷ xs) f p
    by (Goes t) goes e rest = through t (head t xs) goes refl e rest
    by (Ends n) goes e rest = absurd cc
    by (Refused g) goes e rest =
        let fault : g ≡ f = cc in
        let place : 0 ≡ p = cc in
        record {
          state = r;
          before = ap (λ (k : ℕ). head r (take k (x ∷ xs))) (sym place);
          with_it =
              ap (λ (k : ℕ). head r (take (k + 1) (x ∷ xs))) (sym place) ∙ ap (λ s. after_step s (λ u. head u []))
              goes ∙ e;
        }

-- nothing that begins with a refused byte is a frame
no-frame : (bytes : List ℕ) (f : FrameFault) (p : ℕ) → head (Line None) bytes ≡ heads.Refused f p → HasNoFrame bytes
no-frame bytes f p e more header body rest is parts =
    clash f p (sym (head-append (Line None) bytes more ∙ ap (λ (x : Head). onward (length bytes) x more) e)
    ∙ long-read (bytes ++ more) header body rest is parts)
  where
    clash : (f : FrameFault) (p : ℕ) {n h : ℕ} → heads.Refused f p ≡ heads.Ends n h → ⊥
    clash f p e = cc

pub refusal-is : (bytes : List ℕ) (f : FrameFault) (p : ℕ) → frame_front bytes ≡ faulty f p → IsRefused bytes f p
refusal-is bytes f p e =
    elim (refused-is bytes f p (faulty-is bytes f p e)) [
      | inl says ↦
          let inside = head-refused (Line None) (take 4096 bytes) f p says in
          let found = prefix (take 4096 bytes) (Line None) f p says in
          let below : p < 4096 = omega (arith, length-take 4096 bytes) in
          let first : take p (take 4096 bytes) ≡ take p bytes = take-take p 4096 bytes (omega arith) in
          let next : take (p + 1) (take 4096 bytes) ≡ take (p + 1) bytes = take-take (p + 1) 4096 bytes (omega arith) in
          record {
            here = omega (arith, length-take 4096 bytes);
            before = part-of-reads (take p bytes) found.state (ap (head (Line None)) (sym first) ∙ found.before);
            why = inr (below, no-frame (take (p + 1) bytes) f p (ap (head (Line None)) (sym next) ∙ found.with_it));
          }
      | inr late ↦
          record {
            here = omega (arith, late.2, late.4);
            before =
                subst (λ (k : ℕ). IsPart (take k bytes)) (sym late.4) (part-of-reads (take 4096 bytes) late.0 late.1);
            why = inl (
              late.3,
              late.4,
              λ header rest n is parts.
                  clash (sym late.1 ∙ ends-is bytes n (length header)
                  (ap header_of parts ∙ bounded-read header n rest is)),
            );
          }
    ]
  where
    clash : {r : Reading} {n h : ℕ} → heads.Reads r ≡ heads.Ends n h → ⊥
    clash e = cc

-- ---- two frames

-- a frame stands at the front of bytes that begin with it
frame-here : (text rest body : List ℕ) → IsFrame text body
    → (m : Frame) × (frame_front (text ++ rest) ≡ whole m (length text))
frame-here text rest body is =
    let frame : Frame = record { header = length is.header; body = body } in
    let size : length text ≡ length is.header + length body = ap length is.parts ∙ length-append is.header body in (
      frame,
      frame-found (text ++ rest) frame (length text) (record {
        header = is.header;
        rest = rest;
        parts = ap (λ (l : List ℕ). l ++ rest) is.parts;
        is_header = is.is_header;
        place = refl;
        taken = size;
      }),
    )

-- No frame is a proper prefix of another.
pub no-prefix : (text more body other : List ℕ) → IsFrame text body → IsFrame (text ++ more) other → more ≡ []
no-prefix text more body other first second =
    let a = frame-here text more body first in
    let b = frame-here (text ++ more) [] other second in
    let same : length text ≡ length (text ++ more) =
    same-size a.0 b.0 (length text) (length (text ++ more))
    (sym a.1 ∙ ap frame_front (sym (append-nil (text ++ more))) ∙ b.1) in
    nil_from_length more (omega (arith, length-append text more))
  where
    same-size : (m k : Frame) (n l : ℕ) → (let it : Front Frame FrameFault = whole m n in it ≡ whole k l) → n ≡ l
    same-size m k n l e = cc
