-- What stands at the front of a stream is a packet just where a packet is spelled there.
use Rattle.std.proofs.Common.{◌≡◌, ◌≢◌, ℕ, ◌+◌, ◌^◌, ◌<◌, ◌≤◌, true, false, eqb, List, [], ◌∷◌, ◌++◌, length, get_or}
use Rattle.std.proofs.Common.{take, drop, refl, sym, ap, subst, ◌∙◌, arith, inl, inr, ◌⊎◌, ◌↔◌, append_assoc}
use Rattle.std.specs.Int.{w16, w32, to_be_bytes, from_be_bytes}
use Rattle.std.proofs.lemmas.Bool.{eqb-true, eq-eqb, ne_eqb, or_cases, cases_lt, both_ways}
use Rattle.std.proofs.lemmas.List.{length-append, length-drop, length-take, length-take-le, take_at, take-take}
use Rattle.std.proofs.lemmas.List.{take-append-le, take-append-drop, drop-drop, drop_more, get_or_append_left}
use Rattle.std.proofs.lemmas.List.{get_or-take, get_or-drop, get_or_past}
use Rattle.std.proofs.lemmas.Nat.{be_bytes_2, be_bytes_4, from_be_bytes-to_be_bytes_2, from_be_bytes-to_be_bytes_4}
use Rattle.wire_core.specs.Streams.{Front, waits, whole, faulty, IsSteady}
use Rattle.jdwp_packets.specs.declared.fault.PacketFault.{PacketFault}
use Rattle.jdwp_packets.specs.declared.fault.PacketFault.TheVariants.{ShortLength, TooLong, BadFlags}
use Rattle.jdwp_packets.specs.Packets.{Packet, command_packet, reply_packet, packet_bytes, Fits, size_of, flags_of}
use Rattle.jdwp_packets.specs.Packets.{packet_of, packet_front, Begins, AreBytes, IsSized}
use Rattle.jdwp_packets.proofs.Fronts.{has_kind, front-no_length, front-short, front-long, front-no_flags}
use Rattle.jdwp_packets.proofs.Fronts.{front-bad_flags, front-part, front-whole, Seen, no_length, short, long, no_flags}
use Rattle.jdwp_packets.proofs.Fronts.{bad_flags, part, all, seen}

-- ---- what is written

-- the front of a packet's bytes, by its size and its kind
found : (p : Packet) (more : List ℕ) → size_of (packet_bytes p ++ more) ≡ length (packet_bytes p)
    → 11 ≤ length (packet_bytes p)
    → length (packet_bytes p) ≤ 67108864 → has_kind (flags_of (packet_bytes p ++ more)) ≡ true
    → packet_of (packet_bytes p) ≡ p
    → packet_front (packet_bytes p ++ more) ≡ whole p (length (packet_bytes p))
found p more size least most kind same =
    let bytes : List ℕ = packet_bytes p ++ more in
    let len : length bytes ≡ length (packet_bytes p) + length more = length-append (packet_bytes p) more in
    let sized : IsSized bytes = (omega arith, omega arith, omega arith) in
    front-whole bytes sized kind (omega arith)
    ∙ ap (λ (n : ℕ). whole (packet_of (take n bytes)) n) size
    ∙ ap (λ (text : List ℕ). whole (packet_of text) (length (packet_bytes p)))
    (take_at (packet_bytes p) more (length (packet_bytes p)) refl)
    ∙ ap (λ (q : Packet). whole q (length (packet_bytes p))) same

-- A packet that is spelled is found, whatever follows it.
pub packet-again : (p : Packet) (more : List ℕ) → Fits p
    → packet_front (packet_bytes p ++ more) ≡ whole p (length (packet_bytes p))
packet-again (command_packet id set number body) more fits =
    let small : 11 + length body < 2 ^ 32 = omega (arith, fits.3) in
    found (command_packet id set number body) more
    (from_be_bytes-to_be_bytes_4 (11 + length body) small ∙ omega arith)
    (omega arith) (omega (arith, fits.3)) refl
    (ap (λ (n : ℕ). command_packet n set number body) (from_be_bytes-to_be_bytes_4 id fits.0))
packet-again (reply_packet id error body) more fits =
    let small : 11 + length body < 2 ^ 32 = omega (arith, fits.2) in
    found (reply_packet id error body) more
    (from_be_bytes-to_be_bytes_4 (11 + length body) small ∙ omega arith)
    (omega arith) (omega (arith, fits.2)) refl
    (ap (λ (n : ℕ). reply_packet n (from_be_bytes w16 (to_be_bytes w16 error)) body)
    (from_be_bytes-to_be_bytes_4 id fits.0)
    ∙ ap (λ (n : ℕ). reply_packet id n body) (from_be_bytes-to_be_bytes_2 error fits.1))

pub packet-found : (bytes : List ℕ) (p : Packet) (n : ℕ) → Begins bytes p n → packet_front bytes ≡ whole p n
packet-found bytes p n b =
    ap packet_front b.parts ∙ packet-again p b.rest b.fits ∙ ap (λ (k : ℕ). whole p k) (sym b.taken)

-- ---- what is read

AreBytes-drop : (n : ℕ) (bytes : List ℕ) → AreBytes bytes → AreBytes (drop n bytes)
AreBytes-drop n bytes h i = rw get_or-drop (h (n + i))

AreBytes-take : (n : ℕ) (bytes : List ℕ) → AreBytes bytes → AreBytes (take n bytes)
AreBytes-take n bytes h i =
    elim (cases_lt i n) [
      | inl lt ↦ rw (get_or-take n bytes i 0 lt) (h i)
      | inr le ↦ rw (get_or_past (take n bytes) i 0 (omega (arith, length-take n bytes))) (omega arith)
    ]

-- four bytes spell the number that they are read as
four-spelled : (bytes : List ℕ) → AreBytes bytes → 4 ≤ length bytes
    → (to_be_bytes w32 (from_be_bytes w32 (take 4 bytes)) ≡ take 4 bytes) × (from_be_bytes w32 (take 4 bytes) < 2 ^ 32)
four-spelled bytes are four =
    let fits = AreBytes-take 4 bytes are in
    (be_bytes_4 (take 4 bytes) _ (length-take-le 4 bytes four) fits refl, omega (arith, fits 0, fits 1, fits 2, fits 3))

two-spelled : (bytes : List ℕ) → AreBytes bytes → 2 ≤ length bytes
    → (to_be_bytes w16 (from_be_bytes w16 (take 2 bytes)) ≡ take 2 bytes) × (from_be_bytes w16 (take 2 bytes) < 2 ^ 16)
two-spelled bytes are two =
    let fits = AreBytes-take 2 bytes are in
    (be_bytes_2 (take 2 bytes) _ (length-take-le 2 bytes two) fits refl, omega (arith, fits 0, fits 1))

-- the header's first eight bytes are two numbers, and the rest stands behind them
eight-parts : (bytes : List ℕ) → (take 4 bytes ++ take 4 (drop 4 bytes)) ++ drop 8 bytes ≡ bytes
eight-parts bytes =
    append_assoc (take 4 bytes) (take 4 (drop 4 bytes)) (drop 8 bytes)
    ∙ ap (λ (l : List ℕ). take 4 bytes ++ (take 4 (drop 4 bytes) ++ l)) (sym (drop-drop 4 4 bytes))
    ∙ ap (λ (l : List ℕ). take 4 bytes ++ l) (take-append-drop 4 (drop 4 bytes)) ∙ take-append-drop 4 bytes

-- The bytes of a packet, their length being what they say, are spelled so.
record Spelled (text : List ℕ) : Type 0 where
  bytes : packet_bytes (packet_of text) ≡ text
  fits : Fits (packet_of text)

spelled-command : (text : List ℕ) → AreBytes text → 11 ≤ length text → length text ≤ 67108864
    → size_of text ≡ length text → flags_of text ≡ 0 → Spelled text
spelled-command text are least most size flags =
    let first = four-spelled text are (omega arith) in
    let second = four-spelled (drop 4 text) (AreBytes-drop 4 text are) (omega (arith, length-drop 4 text)) in
    let body : List ℕ = drop 11 text in
    let len : 11 + length body ≡ size_of text = omega (arith, length-drop 11 text) in
    let rest : drop 8 text ≡ 0 ∷ get_or text 9 0 ∷ get_or text 10 0 ∷ body =
    drop_more text 8 0 (omega arith) ∙ ap (λ (b : ℕ). b ∷ drop 9 text) flags
    ∙ ap (λ (l : List ℕ). 0 ∷ l)
    (drop_more text 9 0 (omega arith) ∙ ap (λ (l : List ℕ). get_or text 9 0 ∷ l)
    (drop_more text 10 0 (omega arith))) in
    let is : packet_of text ≡ command_packet (from_be_bytes w32 (take 4 (drop 4 text))) (get_or text 9 0)
    (get_or text 10 0) body
    = rw (eq-eqb (flags_of text) 0 flags) refl in
    record {
      bytes = ap packet_bytes is
          ∙ ap (λ (n : ℕ).
          ((to_be_bytes w32 n ++ to_be_bytes w32 (from_be_bytes w32 (take 4 (drop 4 text)))) ++ 0 ∷ get_or text 9 0
          ∷ get_or text 10 0 ∷ []) ++ body) len
          ∙ ap (λ (l : List ℕ).
          ((l ++ to_be_bytes w32 (from_be_bytes w32 (take 4 (drop 4 text)))) ++ 0 ∷ get_or text 9 0 ∷ get_or text 10
          0 ∷ []) ++ body) first.0
          ∙ ap (λ (l : List ℕ). ((take 4 text ++ l) ++ 0 ∷ get_or text 9 0 ∷ get_or text 10 0 ∷ []) ++ body) second.0
          ∙ append_assoc (take 4 text ++ take 4 (drop 4 text)) (0 ∷ get_or text 9 0 ∷ get_or text 10 0 ∷ []) body
          ∙ ap (λ (l : List ℕ). (take 4 text ++ take 4 (drop 4 text)) ++ l) (sym rest) ∙ eight-parts text;
      fits = subst Fits (sym is) (second.1, are 9, are 10, omega arith);
    }

spelled-reply : (text : List ℕ) → AreBytes text → 11 ≤ length text → length text ≤ 67108864 → size_of text ≡ length text
    → flags_of text ≡ 128 → Spelled text
spelled-reply text are least most size flags =
    let first = four-spelled text are (omega arith) in
    let second = four-spelled (drop 4 text) (AreBytes-drop 4 text are) (omega (arith, length-drop 4 text)) in
    let third = two-spelled (drop 9 text) (AreBytes-drop 9 text are) (omega (arith, length-drop 9 text)) in
    let body : List ℕ = drop 11 text in
    let len : 11 + length body ≡ size_of text = omega (arith, length-drop 11 text) in
    let rest : drop 8 text ≡ 128 ∷ (take 2 (drop 9 text) ++ body) =
    drop_more text 8 0 (omega arith) ∙ ap (λ (b : ℕ). b ∷ drop 9 text) flags
    ∙ ap (λ (l : List ℕ). 128 ∷ l)
    (sym (take-append-drop 2 (drop 9 text)) ∙ ap (λ (l : List ℕ). take 2 (drop 9 text) ++ l)
    (drop-drop 2 9 text)) in
    let is : packet_of text ≡ reply_packet (from_be_bytes w32 (take 4 (drop 4 text)))
    (from_be_bytes w16 (take 2 (drop 9 text))) body
    = rw (ne_eqb (flags_of text) 0 (omega arith)) refl in
    let front : List ℕ = take 4 text ++ take 4 (drop 4 text) in
    record {
      bytes = ap packet_bytes is
          ∙ ap (λ (n : ℕ).
          (((to_be_bytes w32 n ++ to_be_bytes w32 (from_be_bytes w32 (take 4 (drop 4 text)))) ++ 128 ∷ []) ++
          to_be_bytes w16 (from_be_bytes w16 (take 2 (drop 9 text)))) ++ body) len
          ∙ ap (λ (l : List ℕ).
          (((l ++ to_be_bytes w32 (from_be_bytes w32 (take 4 (drop 4 text)))) ++ 128 ∷ []) ++ to_be_bytes w16
          (from_be_bytes w16 (take 2 (drop 9 text)))) ++ body) first.0
          ∙ ap (λ (l : List ℕ).
          (((take 4 text ++ l) ++ 128 ∷ []) ++ to_be_bytes w16 (from_be_bytes w16 (take 2 (drop 9 text)))) ++ body)
          second.0
          ∙ ap (λ (l : List ℕ). ((front ++ 128 ∷ []) ++ l) ++ body) third.0
          ∙ append_assoc (front ++ 128 ∷ []) (take 2 (drop 9 text)) body
          ∙ append_assoc front (128 ∷ []) (take 2 (drop 9 text) ++ body)
          ∙ ap (λ (l : List ℕ). front ++ l) (sym rest) ∙ eight-parts text;
      fits = subst Fits (sym is) (second.1, third.1, omega arith);
    }

spelled : (text : List ℕ) → AreBytes text → 11 ≤ length text → length text ≤ 67108864 → size_of text ≡ length text
    → has_kind (flags_of text) ≡ true → Spelled text
spelled text are least most size kind =
    elim (or_cases (eqb (flags_of text) 0) (eqb (flags_of text) 128) kind) [
      | inl none ↦ spelled-command text are least most size (eqb-true (flags_of text) 0 none)
      | inr reply ↦ spelled-reply text are least most size (eqb-true (flags_of text) 128 reply)
    ]

-- ---- what stands at the front

-- no two kinds of fronts are one
whole-one : {p q : Packet} {m n : ℕ} → (let it : Front Packet PacketFault = whole p m in it ≡ whole q n) → (p ≡ q)
    × (m ≡ n)
whole-one e = (cc, cc)

waits-whole : {q : Packet} {n : ℕ} → (let it : Front Packet PacketFault = waits in it ≡ whole q n) → ⊥
waits-whole e = cc

faulty-whole : {f : PacketFault} {d : ℕ} {q : Packet} {n : ℕ}
    → (let it : Front Packet PacketFault = faulty f d in it ≡ whole q n) → ⊥
faulty-whole e = cc

faulty-one : {f g : PacketFault} {c d : ℕ} → (let it : Front Packet PacketFault = faulty f c in it ≡ faulty g d)
    → (f ≡ g) × (c ≡ d)
faulty-one e = (cc, cc)

waits-faulty : {f : PacketFault} {d : ℕ} → (let it : Front Packet PacketFault = waits in it ≡ faulty f d) → ⊥
waits-faulty e = cc

-- what is whole, by its size and its kind
pub record Whole (bytes : List ℕ) (p : Packet) (n : ℕ) : Type 0 where
  pub sized : IsSized bytes
  pub kind : has_kind (flags_of bytes) ≡ true
  pub here : size_of bytes ≤ length bytes
  pub is : packet_of (take (size_of bytes) bytes) ≡ p
  pub taken : size_of bytes ≡ n

pub whole-is : (bytes : List ℕ) (p : Packet) (n : ℕ) → packet_front bytes ≡ whole p n → Whole bytes p n
whole-is bytes p n e = by (seen bytes)
  where
    by : Seen bytes → Whole bytes p n
    by (no_length few) = absurd (waits-whole (sym (front-no_length bytes few) ∙ e))
    by (short four less) = absurd (faulty-whole (sym (front-short bytes four less) ∙ e))
    by (long four more) = absurd (faulty-whole (sym (front-long bytes four more) ∙ e))
    by (no_flags sized few) = absurd (waits-whole (sym (front-no_flags bytes sized few) ∙ e))
    by (bad_flags sized nine bad) = absurd (faulty-whole (sym (front-bad_flags bytes sized nine bad) ∙ e))
    by (part sized nine kind few) = absurd (waits-whole (sym (front-part bytes sized nine kind few) ∙ e))
    by (all sized kind here) =
        let same = whole-one (sym (front-whole bytes sized kind here) ∙ e) in
        record { sized = sized; kind = kind; here = here; is = same.0; taken = same.1 }

-- What is found in bytes is spelled there.
pub packet-is : (bytes : List ℕ) (p : Packet) (n : ℕ) → AreBytes bytes → packet_front bytes ≡ whole p n
    → Begins bytes p n
packet-is bytes p n are e =
    let w = whole-is bytes p n e in
    let size : ℕ = size_of bytes in
    let text : List ℕ = take size bytes in
    let sized = w.sized in
    let len : length text ≡ size = length-take-le size bytes w.here in
    let says : size_of text ≡ size_of bytes = ap (from_be_bytes w32) (take-take 4 size bytes (omega arith)) in
    let flags : flags_of text ≡ flags_of bytes = get_or-take size bytes 8 0 (omega arith) in
    let s =
    spelled text (AreBytes-take size bytes are) (omega arith) (omega arith) (says ∙ sym len)
    (ap has_kind flags ∙ w.kind) in
    let whole_text : packet_bytes p ≡ text = ap packet_bytes (sym w.is) ∙ s.bytes in
    record {
      rest = drop size bytes;
      parts = sym (take-append-drop size bytes) ∙ ap (λ (l : List ℕ). l ++ drop size bytes) (sym whole_text);
      fits = subst Fits w.is s.fits;
      taken = sym w.taken ∙ sym len ∙ ap length (sym whole_text);
    }

-- what the first bytes say they say whatever follows
size-more : (bytes more : List ℕ) → 4 ≤ length bytes → size_of (bytes ++ more) ≡ size_of bytes
size-more bytes more four = ap (from_be_bytes w32) (take-append-le 4 bytes more four)

sized-more : (bytes more : List ℕ) → IsSized bytes → IsSized (bytes ++ more)
sized-more bytes more sized =
    let same = size-more bytes more sized.0 in
    (omega (arith, length-append bytes more, sized.0), omega (arith, sized.1), omega (arith, sized.2))

flags-more : (bytes more : List ℕ) → 9 ≤ length bytes → flags_of (bytes ++ more) ≡ flags_of bytes
flags-more bytes more nine = get_or_append_left bytes more 0 8 (omega arith)

-- the three faults, whatever follows
pub record Refused (bytes : List ℕ) (f : PacketFault) (d : ℕ) : Type 0 where
  pub place : d ≡ 0
  pub why : ((f ≡ ShortLength) × (4 ≤ length bytes) × (size_of bytes < 11))
      ⊎ (((f ≡ TooLong) × (4 ≤ length bytes) × (67108864 < size_of bytes))
      ⊎ ((f ≡ BadFlags) × IsSized bytes × (9 ≤ length bytes) × (has_kind (flags_of bytes) ≡ false)))

pub refused-is : (bytes : List ℕ) (f : PacketFault) (d : ℕ) → packet_front bytes ≡ faulty f d → Refused bytes f d
refused-is bytes f d e = by (seen bytes)
  where
    whole-faulty : {q : Packet} {n : ℕ} → (let it : Front Packet PacketFault = whole q n in it ≡ faulty f d) → ⊥
    whole-faulty e = cc

    by : Seen bytes → Refused bytes f d
    by (no_length few) = absurd (waits-faulty (sym (front-no_length bytes few) ∙ e))
    by (short four less) =
        let same = faulty-one (sym (front-short bytes four less) ∙ e) in
        record { place = sym same.1; why = inl (sym same.0, four, less) }
    by (long four more) =
        let same = faulty-one (sym (front-long bytes four more) ∙ e) in
        record { place = sym same.1; why = inr (inl (sym same.0, four, more)) }
    by (no_flags sized few) = absurd (waits-faulty (sym (front-no_flags bytes sized few) ∙ e))
    by (bad_flags sized nine bad) =
        let same = faulty-one (sym (front-bad_flags bytes sized nine bad) ∙ e) in
        record { place = sym same.1; why = inr (inr (sym same.0, sized, nine, bad)) }
    by (part sized nine kind few) = absurd (waits-faulty (sym (front-part bytes sized nine kind few) ∙ e))
    by (all sized kind here) = absurd (whole-faulty (sym (front-whole bytes sized kind here) ∙ e))

pub refused-from : (bytes : List ℕ) (f : PacketFault) (d : ℕ) → Refused bytes f d → packet_front bytes ≡ faulty f d
refused-from bytes f d r =
    elim r.why [
      | inl w ↦ front-short bytes w.1 w.2 ∙ same ShortLength w.0
      | inr (inl w) ↦ front-long bytes w.1 w.2 ∙ same TooLong w.0
      | inr (inr w) ↦ front-bad_flags bytes w.1 w.2 w.3 ∙ same BadFlags w.0
    ]
  where
    same : (g : PacketFault) → f ≡ g → (let it : Front Packet PacketFault = faulty g 0 in it ≡ faulty f d)
    same g e = ap (λ (h : PacketFault). faulty h 0) (sym e) ∙ ap (λ (k : ℕ). faulty f k) (sym r.place)

refused-more : (bytes more : List ℕ) (f : PacketFault) (d : ℕ) → Refused bytes f d → Refused (bytes ++ more) f d
refused-more bytes more f d r = record {
  place = r.place;
  why = elim r.why [
    | inl w ↦ let same = size-more bytes more w.1 in
        inl (w.0, omega (arith, length-append bytes more, w.1), omega (arith, w.2))
    | inr (inl w) ↦ let same = size-more bytes more w.1 in
        inr (inl (w.0, omega (arith, length-append bytes more, w.1), omega (arith, w.2)))
    | inr (inr w) ↦
        inr (inr (
          w.0,
          sized-more bytes more w.1,
          omega (arith, length-append bytes more, w.2),
          ap has_kind (flags-more bytes more w.2) ∙ w.3,
        ))
  ];
}

-- What is whole or refused stays so.
pub packet-steady : IsSteady packet_front
packet-steady = record {
  stays_whole = λ bytes more p n e.
      let w = whole-is bytes p n e in
      let sized = w.sized in
      let here = w.here in
      let size : size_of (bytes ++ more) ≡ size_of bytes = size-more bytes more (w.sized.0) in
      front-whole (bytes ++ more) (sized-more bytes more w.sized)
      (ap has_kind (flags-more bytes more (omega arith)) ∙ w.kind)
      (omega (arith, length-append bytes more))
      ∙ ap (λ (k : ℕ). whole (packet_of (take k (bytes ++ more))) k) size
      ∙ ap (λ (text : List ℕ). whole (packet_of text) (size_of bytes))
      (take-append-le (size_of bytes) bytes more w.here)
      ∙ ap (λ (q : Packet). whole q (size_of bytes)) w.is ∙ ap (λ (k : ℕ). whole p k) w.taken;
  stays_faulty =
      λ bytes more f d e. refused-from (bytes ++ more) f d (refused-more bytes more f d (refused-is bytes f d e));
  takes = λ bytes p n e.
      let w = whole-is bytes p n e in
      let sized = w.sized in
      let taken = w.taken in
      let here = w.here in
      (omega arith, omega arith);
}

-- ---- each fault

not-both : {A : Type 0} → (ShortLength ≡ TooLong) ⊎ ((ShortLength ≡ BadFlags) ⊎ (TooLong ≡ BadFlags)) → A
not-both (inl e) = absurd cc
not-both (inr (inl e)) = absurd cc
not-both (inr (inr e)) = absurd cc

pub short-is : (bytes : List ℕ)
    → (packet_front bytes ≡ faulty ShortLength 0) ↔ ((4 ≤ length bytes) × (size_of bytes < 11))
short-is bytes = (λ e. by (refused-is bytes ShortLength 0 e).why, λ s. front-short bytes s.0 s.1)
  where
    by : ((ShortLength ≡ ShortLength) × (4 ≤ length bytes) × (size_of bytes < 11))
        ⊎ (((ShortLength ≡ TooLong) × (4 ≤ length bytes) × (67108864 < size_of bytes))
        ⊎ ((ShortLength ≡ BadFlags) × IsSized bytes × (9 ≤ length bytes) × (has_kind (flags_of bytes) ≡ false)))
        → (4 ≤ length bytes) × (size_of bytes < 11)
    by (inl w) = (w.1, w.2)
    by (inr (inl w)) = not-both (inl w.0)
    by (inr (inr w)) = not-both (inr (inl w.0))

pub long-is : (bytes : List ℕ)
    → (packet_front bytes ≡ faulty TooLong 0) ↔ ((4 ≤ length bytes) × (67108864 < size_of bytes))
long-is bytes = (λ e. by (refused-is bytes TooLong 0 e).why, λ s. front-long bytes s.0 s.1)
  where
    by : ((TooLong ≡ ShortLength) × (4 ≤ length bytes) × (size_of bytes < 11))
        ⊎ (((TooLong ≡ TooLong) × (4 ≤ length bytes) × (67108864 < size_of bytes))
        ⊎ ((TooLong ≡ BadFlags) × IsSized bytes × (9 ≤ length bytes) × (has_kind (flags_of bytes) ≡ false)))
        → (4 ≤ length bytes) × (67108864 < size_of bytes)
    by (inl w) = not-both (inl (sym w.0))
    by (inr (inl w)) = (w.1, w.2)
    by (inr (inr w)) = not-both (inr (inr w.0))

pub flags-are : (bytes : List ℕ) → (packet_front bytes ≡ faulty BadFlags 0)
    ↔ (IsSized bytes × (9 ≤ length bytes) × (flags_of bytes ≢ 0) × (flags_of bytes ≢ 128))
flags-are bytes = (
  λ e. by (refused-is bytes BadFlags 0 e).why,
  λ s. front-bad_flags bytes s.0 s.1 (rw (ne_eqb (flags_of bytes) 0 s.2, ne_eqb (flags_of bytes) 128 s.3) refl),
)
  where
    by : ((BadFlags ≡ ShortLength) × (4 ≤ length bytes) × (size_of bytes < 11))
        ⊎ (((BadFlags ≡ TooLong) × (4 ≤ length bytes) × (67108864 < size_of bytes))
        ⊎ ((BadFlags ≡ BadFlags) × IsSized bytes × (9 ≤ length bytes) × (has_kind (flags_of bytes) ≡ false)))
        → IsSized bytes × (9 ≤ length bytes) × (flags_of bytes ≢ 0) × (flags_of bytes ≢ 128)
    by (inl w) = not-both (inr (inl (sym w.0)))
    by (inr (inl w)) = not-both (inr (inr (sym w.0)))
    by (inr (inr w)) = (w.1, w.2, λ e. neither (inl e) w.3, λ e. neither (inr e) w.3)
      where
        neither : (flags_of bytes ≡ 0) ⊎ (flags_of bytes ≡ 128) → has_kind (flags_of bytes) ≡ false → ⊥
        neither (inl e) other = both_ways (has_kind (flags_of bytes)) other (ap has_kind e)
        neither (inr e) other = both_ways (has_kind (flags_of bytes)) other (ap has_kind e)

pub fault-place : (bytes : List ℕ) (f : PacketFault) (d : ℕ) → packet_front bytes ≡ faulty f d
    → (d ≡ 0) × ((f ≡ ShortLength) ⊎ ((f ≡ TooLong) ⊎ (f ≡ BadFlags)))
fault-place bytes f d e =
    let r = refused-is bytes f d e in
    (r.place, elim r.why [ inl w ↦ inl w.0 | inr (inl w) ↦ inr (inl w.0) | inr (inr w) ↦ inr (inr w.0) ])
