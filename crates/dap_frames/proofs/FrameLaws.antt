-- What stands at the front of a stream is a frame just where a frame stands there.
use Rattle.std.proofs.Common.{◌≡◌, ℕ, ◌+◌, ◌^◌, ◌<◌, ◌≤◌, Bool, true, false, cond, ltb, List, [], ◌∷◌, ◌++◌, length}
use Rattle.std.proofs.Common.{take, drop, refl, sym, ap, subst, ◌∙◌, arith, inr, append_assoc, ◌&&◌}
use Rattle.std.specs.Prelude.{codes, decimal}
use Rattle.std.specs.List.{AllByRecursion}
use Rattle.std.proofs.lemmas.Bool.{and_parts, ltb-false}
use Rattle.std.proofs.lemmas.List.{append-nil, take_at, drop_at, take-append-drop, length-append, length-take}
use Rattle.std.proofs.lemmas.List.{length-drop, drop-append-le, take-append-le}
use Rattle.std.proofs.lemmas.Fmt.{decimal_is_IsNumeral, length-decimal-le}
use Rattle.wire_core.specs.Streams.{Front, waits, whole, faulty, IsSteady}
use Rattle.dap_frames.specs.declared.fault.FrameFault.{FrameFault}
use Rattle.dap_frames.specs.declared.header.Head.{Head}
use Rattle.dap_frames.specs.declared.header.Head.TheVariants.{Reads, Ends, Refused}
use Rattle.dap_frames.specs.Reading.{is_name_byte}
use Rattle.dap_frames.specs.Frames.{Frame, IsNameByte, IsHeader, Begins, header_of, front_by, frame_front, frame_bytes}
use Rattle.dap_frames.proofs.Names.{name-byte-is}
use Rattle.dap_frames.proofs.Fronts.{Bounded, bounded-is, bounded-read, ends-more, refused-more, ends-within}
use Rattle.dap_frames.proofs.Fronts.{front-whole, front-refused}

-- a frame of a front
abbrev a_frame : Frame → ℕ → Front Frame FrameFault
a_frame m n = whole m n

-- what a whole frame at the front says of the header
pub record Whole (bytes : List ℕ) (m : Frame) (n : ℕ) : Type 0 where
  pub len : ℕ
  pub says : header_of bytes ≡ Ends len m.header
  pub body : m.body ≡ take len (drop m.header bytes)
  pub taken : n ≡ m.header + len
  pub within : n ≤ length bytes

pub whole-is : (bytes : List ℕ) (m : Frame) (n : ℕ) → frame_front bytes ≡ whole m n → Whole bytes m n
unfolding frame_front
whole-is bytes m n e = by (header_of bytes) refl e
  where
    found : (len h : ℕ) (short : Bool) → header_of bytes ≡ Ends len h → ltb (length bytes) (h + len) ≡ short
        → cond short waits (a_frame (record { header = h; body = take len (drop h bytes) }) (h + len)) ≡ whole m n
        → Whole bytes m n
    found len h true says test e = absurd cc
    found len h false says test e =
        let long : h + len ≤ length bytes = ltb-false (length bytes) (h + len) test in
        let is : a_frame (record { header = h; body = take len (drop h bytes) }) (h + len) ≡ a_frame m n = e in
        let size : h + len ≡ n = cc in
        let frame : Frame = record { header = h; body = take len (drop h bytes) } in
        let same : frame ≡ m = cc in
        let place : h ≡ m.header = ap (λ (f : Frame). f.header) same in
        record {
          len = len;
          says = says ∙ ap (λ (k : ℕ). Ends len k) place;
          body = sym (ap (λ (f : Frame). f.body) same) ∙ ap (λ (k : ℕ). take len (drop k bytes)) place;
          taken = omega arith;
          within = omega arith;
        }

    by : (h : Head) → header_of bytes ≡ h → front_by h bytes ≡ whole m n → Whole bytes m n
    by (Reads r) says e = absurd cc
    by (Ends len h) says e = found len h (ltb (length bytes) (h + len)) says refl e
    by (Refused f p) says e = absurd cc

-- the other way
whole-from : (bytes : List ℕ) (m : Frame) (n : ℕ) → Whole bytes m n → frame_front bytes ≡ whole m n
whole-from bytes m n w =
    let long : m.header + w.len ≤ length bytes = let t = w.taken in let i = w.within in omega arith in
    front-whole bytes w.len m.header w.says long
    ∙ ap (λ (b : List ℕ). a_frame (record { header = m.header; body = b }) (m.header + w.len)) (sym w.body)
    ∙ ap (λ (k : ℕ). a_frame m k) (sym w.taken)

-- a refused byte is the header's
pub faulty-is : (bytes : List ℕ) (f : FrameFault) (p : ℕ) → frame_front bytes ≡ faulty f p
    → header_of bytes ≡ Refused f p
unfolding frame_front
faulty-is bytes f p e = by (header_of bytes) refl e
  where
    found : (short : Bool) (m : Frame) (n : ℕ) → cond short waits (a_frame m n) ≡ faulty f p → ⊥
    found true m n e = absurd cc
    found false m n e = absurd cc

    refused : (g : FrameFault) (q : ℕ) → (let it : Front Frame FrameFault = faulty g q in it ≡ faulty f p)
        → Refused g q ≡ Refused f p
    refused g q e =
        let fault : g ≡ f = cc in
        let place : q ≡ p = cc in
        ap (λ (x : FrameFault). Refused x q) fault ∙ ap (λ (k : ℕ). Refused f k) place

    by : (h : Head) → header_of bytes ≡ h → front_by h bytes ≡ faulty f p → header_of bytes ≡ Refused f p
    by (Reads r) says e = absurd cc
    by (Ends len h) says e =
        absurd (found (ltb (length bytes) (h + len)) (record { header = h; body = take len (drop h bytes) })
        (h + len) e)
    by (Refused g q) says e = says ∙ refused g q e

-- What is whole or refused stays so.
pub front-steady : IsSteady frame_front
front-steady = record {
  stays_whole = λ bytes more m n e.
      let w = whole-is bytes m n e in
      let taken = w.taken in
      let within = w.within in
      let room : m.header ≤ length bytes = omega arith in
      let inside : w.len ≤ length (drop m.header bytes) = omega (arith, length-drop m.header bytes) in
      whole-from (bytes ++ more) m n (record {
        len = w.len;
        says = ends-more bytes more w.len m.header w.says;
        body =
            w.body ∙ sym
            (ap (take w.len) (drop-append-le m.header bytes more room) ∙ take-append-le w.len (drop m.header bytes)
            more inside);
        taken = w.taken;
        within = omega (arith, length-append bytes more);
      });
  stays_faulty =
      λ bytes more f p e. front-refused (bytes ++ more) f p (refused-more bytes more f p (faulty-is bytes f p e));
  takes = λ bytes m n e.
      let w = whole-is bytes m n e in
      let taken = w.taken in
      let header = ends-within bytes w.len m.header w.says in
      (omega (arith, header.0), w.within);
}

-- A frame is found, whatever follows it.
pub frame-found : (bytes : List ℕ) (m : Frame) (n : ℕ) → Begins bytes m n → frame_front bytes ≡ whole m n
frame-found bytes m n b =
    let all : bytes ≡ b.header ++ (m.body ++ b.rest) = b.parts ∙ append_assoc b.header m.body b.rest in
    let place = b.place in
    let taken = b.taken in
    whole-from bytes m n (record {
      len = length m.body;
      says =
          ap header_of all ∙ bounded-read b.header (length m.body) (m.body ++ b.rest) b.is_header ∙ ap
          (λ (k : ℕ). Ends (length m.body) k) b.place;
      body = sym (ap (λ (l : List ℕ). take (length m.body) (drop m.header l)) all
          ∙ ap (take (length m.body)) (drop_at b.header (m.body ++ b.rest) m.header b.place)
          ∙ take_at m.body b.rest (length m.body) refl);
      taken = b.taken;
      within = omega (arith, ap length all, length-append b.header (m.body ++ b.rest), length-append m.body b.rest);
    })

-- What is found is a frame.
pub frame-is : (bytes : List ℕ) (m : Frame) (n : ℕ) → frame_front bytes ≡ whole m n → Begins bytes m n
frame-is bytes m n e =
    let w = whole-is bytes m n e in
    let header : Bounded bytes w.len m.header = bounded-is bytes w.len m.header w.says in
    let taken = w.taken in
    let within = w.within in
    let place = header.len in
    let rest_is : drop m.header bytes ≡ header.rest =
    ap (drop m.header) header.parts ∙ drop_at header.header header.rest m.header header.len in
    let body_is : m.body ≡ take w.len header.rest = w.body ∙ ap (take w.len) rest_is in
    let long : w.len ≤ length header.rest =
    omega (arith, ap length header.parts, length-append header.header header.rest) in
    let len : length m.body ≡ w.len = omega (arith, ap length body_is, length-take w.len header.rest) in
    record {
      header = header.header;
      rest = drop w.len header.rest;
      parts = header.parts ∙ ap (λ (l : List ℕ). header.header ++ l) (sym (take-append-drop w.len header.rest))
          ∙ sym (append_assoc header.header (take w.len header.rest) (drop w.len header.rest))
          ∙ ap (λ (l : List ℕ). (header.header ++ l) ++ drop w.len header.rest) (sym body_is);
      is_header = subst (λ (k : ℕ). IsHeader header.header k) (sym len) header.is_header;
      place = header.len;
      taken = omega arith;
    }

-- bytes that are a name's, by a test
abbrev all_names : List ℕ → Bool
all_names [] = true
all_names (b ∷ bs) = is_name_byte b && all_names bs

names-are : (bs : List ℕ) → all_names bs ≡ true → AllByRecursion IsNameByte bs
names-are [] e = tt
names-are (b ∷ bs) e =
    let parts = and_parts (is_name_byte b) (all_names bs) e in
    (name-byte-is b parts.0, names-are bs parts.1)

-- What is written is a header: one line, with one blank.
pub header-written : (n : ℕ) → n ≤ 16777216 → IsHeader (codes "Content-Length: " ++ decimal n ++ codes "\r\n\r\n") n
header-written n fits =
    let small : n < 2 ^ 64 = omega arith in
    let numeral = decimal_is_IsNumeral n small in
    let short : length (decimal n) ≤ 8 = length-decimal-le 8 n (omega arith) (omega arith) small in
    let line : List ℕ = codes "Content-Length: " ++ decimal n ++ codes "\r\n" in
    record {
      is_long = record {
        lines = line ∷ [];
        text = sym (append_assoc (codes "Content-Length: " ++ decimal n) (codes "\r\n") (codes "\r\n"))
            ∙ ap (λ (l : List ℕ). l ++ codes "\r\n") (sym (append-nil line));
        are_lines = inr (
          refl,
          n,
          record {
            name = codes "Content-Length";
            blanks = 1;
            digits = decimal n;
            text = refl;
            is_name = (omega arith, names-are (codes "Content-Length") refl);
            says_length = refl;
            numeral = numeral.0;
            short = omega arith;
            value = numeral.1;
            bounded = fits;
          },
          refl,
        );
      };
      bounded =
          omega (
            arith,
            length-append (codes "Content-Length: " ++ decimal n) (codes "\r\n\r\n"),
            length-append (codes "Content-Length: ") (decimal n),
          );
    }

-- What is written is found again, whatever follows it.
pub frame-again : (body more : List ℕ) → length body ≤ 16777216
    → frame_front (frame_bytes body ++ more)
    ≡ whole (record
    { header = length (codes "Content-Length: " ++ decimal (length body) ++ codes "\r\n\r\n"); body = body })
    (length (frame_bytes body))
frame-again body more fits =
    let header : List ℕ = codes "Content-Length: " ++ decimal (length body) ++ codes "\r\n\r\n" in
    let n = length-append header body in
    frame-found (frame_bytes body ++ more) (record { header = length header; body = body }) (length (frame_bytes body))
    (record {
      header = header;
      rest = more;
      parts = refl;
      is_header = header-written (length body) fits;
      place = refl;
      taken = n;
    })
