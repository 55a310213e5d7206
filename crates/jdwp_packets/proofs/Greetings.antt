-- The greeting, byte by byte.
use Rattle.std.proofs.Common.{◌≡◌, ℕ, zero, suc, ◌+◌, ◌<◌, ◌≤◌, Bool, true, false, cond, eqb, List, [], ◌∷◌, ◌++◌}
use Rattle.std.proofs.Common.{length, get_or, take, drop, refl, sym, ap, subst, ◌∙◌, arith, ◌↔◌}
use Rattle.std.proofs.lemmas.Bool.{eq-eqb, ne_eqb, eqb-true, eqb-false}
use Rattle.std.proofs.lemmas.List.{drop_more, drop_all}
use Rattle.wire_core.specs.Streams.{Front, waits, whole, faulty}
use Rattle.jdwp_packets.specs.declared.fault.PacketFault.{PacketFault}
use Rattle.jdwp_packets.specs.declared.fault.PacketFault.TheVariants.{BadHandshake}
use Rattle.jdwp_packets.specs.Packets.{greeting_from, greeting_front, handshake, Differs, IsGreeted, IsGreetingPart}

abbrev Greeting : Type 0
Greeting = Front (Unit {0}) PacketFault

-- The first i bytes are the text's: what is left decides.
module _ (text bytes : List ℕ) (i : ℕ)
    (so_far : greeting_from i (drop i text) (drop i bytes) ≡ greeting_from 0 text bytes) where
  both : i < length text → i < length bytes
      → cond (eqb (get_or bytes i 0) (get_or text i 0)) (greeting_from (i + 1) (drop (i + 1) text) (drop (i + 1) bytes))
      (faulty BadHandshake i)
      ≡ greeting_from 0 text bytes
  both inside here =
      sym (ap (λ (hs : List ℕ). greeting_from i hs (drop i bytes)) (drop_more text i 0 inside)
      ∙ ap (λ (bs : List ℕ). greeting_from i (get_or text i 0 ∷ drop (i + 1) text) bs) (drop_more bytes i 0 here)) ∙
      so_far

  pub goes : i < length text → i < length bytes → get_or bytes i 0 ≡ get_or text i 0
      → greeting_from (i + 1) (drop (i + 1) text) (drop (i + 1) bytes) ≡ greeting_from 0 text bytes
  goes inside here same =
      ap (λ (b : Bool). cond b (greeting_from (i + 1) (drop (i + 1) text) (drop (i + 1) bytes)) (faulty BadHandshake i))
      (sym (eq-eqb (get_or bytes i 0) (get_or text i 0) same)) ∙ both inside here

  pub differs : i < length text → i < length bytes → (get_or bytes i 0 ≡ get_or text i 0 → ⊥)
      → greeting_from 0 text bytes ≡ faulty BadHandshake i
  differs inside here other =
      sym (ap (λ (b : Bool). cond b (greeting_from (i + 1) (drop (i + 1) text) (drop (i + 1) bytes))
      (faulty BadHandshake i))
      (sym (ne_eqb (get_or bytes i 0) (get_or text i 0) other)) ∙ both inside here)

  pub unfinished : i < length text → length bytes ≤ i → greeting_from 0 text bytes ≡ waits
  unfinished inside over =
      sym so_far ∙ ap (λ (hs : List ℕ). greeting_from i hs (drop i bytes)) (drop_more text i 0 inside)
      ∙ ap (λ (bs : List ℕ). greeting_from i (get_or text i 0 ∷ drop (i + 1) text) bs) (drop_all i bytes over)

  pub finished : length text ≤ i → greeting_from 0 text bytes ≡ whole tt i
  finished over = sym so_far ∙ ap (λ (hs : List ℕ). greeting_from i hs (drop i bytes)) (drop_all i text over)

-- a front of the greeting
abbrev whole_greeting : ℕ → Greeting
whole_greeting n = whole tt n

abbrev bad : ℕ → Greeting
bad n = faulty BadHandshake n

-- What is taken for a greeting is one.
pub greeted-is : (k : ℕ) (text bytes : List ℕ) (n : ℕ) → greeting_from k text bytes ≡ whole tt n
    → (n ≡ k + length text) × (more : List ℕ) × (bytes ≡ text ++ more)
greeted-is k [] bytes n e = let same : k ≡ n = place e in (omega arith, bytes, refl)
  where
    place : whole_greeting k ≡ whole tt n → k ≡ n
    place e = cc
greeted-is k (h ∷ hs) [] n e = absurd (clash e)
  where
    clash : (let it : Greeting = waits in it ≡ whole tt n) → ⊥
    clash e = cc
greeted-is k (h ∷ hs) (b ∷ bs) n e = by (eqb b h) refl e (greeted-is (k + 1) hs bs n)
  where
    by : (same : Bool) → eqb b h ≡ same → cond same (greeting_from (k + 1) hs bs) (bad k) ≡ whole tt n
        → (greeting_from (k + 1) hs bs ≡ whole tt n → (n ≡ k + 1 + length hs) × (more : List ℕ) × (bs ≡ hs ++ more))
        → (n ≡ k + length (h ∷ hs)) × (more : List ℕ) × (b ∷ bs ≡ h ∷ hs ++ more)
    by true same e rest =
        let r = rest e in
        (omega (arith, r.0), r.1, ap (λ (l : List ℕ). b ∷ l) r.2 ∙ ap (λ (x : ℕ). x ∷ (hs ++ r.1)) (eqb-true b h same))
    by false same e rest = absurd cc

-- A greeting is taken, whatever follows it.
pub greeted-from : (k : ℕ) (text more : List ℕ) → greeting_from k text (text ++ more) ≡ whole tt (k + length text)
greeted-from k [] more = ap whole_greeting (omega arith)
greeted-from k (h ∷ hs) more =
    rw (eq-eqb h h refl) (greeted-from (k + 1) hs more ∙ ap whole_greeting (omega arith))

-- What waits is the beginning of a greeting, and not all of it.
pub waits-is : (k : ℕ) (text bytes : List ℕ) → greeting_from k text bytes ≡ waits
    → (more : List ℕ) × (0 < length more) × (bytes ++ more ≡ text)
waits-is k [] bytes e = absurd (clash e)
  where
    clash : whole_greeting k ≡ waits → ⊥
    clash e = cc
waits-is k (h ∷ hs) [] e = (h ∷ hs, omega arith, refl)
waits-is k (h ∷ hs) (b ∷ bs) e = by (eqb b h) refl e (waits-is (k + 1) hs bs)
  where
    by : (same : Bool) → eqb b h ≡ same → cond same (greeting_from (k + 1) hs bs) (bad k) ≡ waits
        → (greeting_from (k + 1) hs bs ≡ waits → (more : List ℕ) × (0 < length more) × (bs ++ more ≡ hs))
        → (more : List ℕ) × (0 < length more) × (b ∷ bs ++ more ≡ h ∷ hs)
    by true same e rest =
        let r = rest e in
        (r.0, r.1, ap (λ (l : List ℕ). b ∷ l) r.2 ∙ ap (λ (x : ℕ). x ∷ hs) (eqb-true b h same))
    by false same e rest = absurd cc

pub waits-from : (k : ℕ) (bytes more : List ℕ) → 0 < length more → greeting_from k (bytes ++ more) bytes ≡ waits
waits-from k [] [] some = absurd (omega arith)
waits-from k [] (m ∷ more) some = refl
waits-from k (b ∷ bs) more some = rw (eq-eqb b b refl) (waits-from (k + 1) bs more some)

-- What is refused is the first byte that differs.
pub differs-is : (k : ℕ) (text bytes : List ℕ) (f : PacketFault) (place : ℕ)
    → greeting_from k text bytes ≡ faulty f place
    → (f ≡ BadHandshake) × (n : ℕ) × (place ≡ k + n) × Differs text bytes n
differs-is k [] bytes f place e = absurd (clash e)
  where
    clash : whole_greeting k ≡ faulty f place → ⊥
    clash e = cc
differs-is k (h ∷ hs) [] f place e = absurd (clash e)
  where
    clash : (let it : Greeting = waits in it ≡ faulty f place) → ⊥
    clash e = cc
differs-is k (h ∷ hs) (b ∷ bs) f place e = by (eqb b h) refl e (differs-is (k + 1) hs bs f place)
  where
    by : (same : Bool) → eqb b h ≡ same → cond same (greeting_from (k + 1) hs bs) (bad k) ≡ faulty f place
        → (greeting_from (k + 1) hs bs ≡ faulty f place → (f ≡ BadHandshake) × (n : ℕ) × (place ≡ k + 1 + n)
        × Differs hs bs n)
        → (f ≡ BadHandshake) × (n : ℕ) × (place ≡ k + n) × Differs (h ∷ hs) (b ∷ bs) n
    by true same e rest =
        let r = rest e in
        let inside = r.3.0 in
        let here = r.3.1 in (
          r.0,
          suc r.1,
          omega (arith, r.2),
          (
            omega arith,
            omega arith,
            ap (λ (l : List ℕ). b ∷ l) r.3.2 ∙ ap (λ (x : ℕ). x ∷ take r.1 hs) (eqb-true b h same),
            r.3.3,
          ),
        )
    by false same e rest =
        let fault : BadHandshake ≡ f = cc in
        let at : k ≡ place = cc in
        (sym fault, 0, omega arith, (omega arith, omega arith, refl, eqb-false b h same))

pub differs-from : (k : ℕ) (text bytes : List ℕ) (n : ℕ) → Differs text bytes n
    → greeting_from k text bytes ≡ faulty BadHandshake (k + n)
differs-from k [] bytes n d = absurd (omega (arith, d.0))
differs-from k (h ∷ hs) [] n d = absurd (omega (arith, d.1))
differs-from k (h ∷ hs) (b ∷ bs) zero d = rw (ne_eqb b h d.3) (ap bad (omega arith))
differs-from k (h ∷ hs) (b ∷ bs) (suc n) d =
    let inside = d.0 in
    let here = d.1 in
    let first : b ≡ h = head-is b h (take n bs) (take n hs) d.2 in
    let rest : take n bs ≡ take n hs = tail-is b h (take n bs) (take n hs) d.2 in
    rw (eq-eqb b h first) (differs-from (k + 1) hs bs n (omega arith, omega arith, rest, d.3) ∙ ap bad (omega arith))
  where
    head-is : (x y : ℕ) (xs ys : List ℕ) → x ∷ xs ≡ y ∷ ys → x ≡ y
    head-is x y xs ys e = cc

    tail-is : (x y : ℕ) (xs ys : List ℕ) → x ∷ xs ≡ y ∷ ys → xs ≡ ys
    tail-is x y xs ys e = cc

-- ---- the handshake

pub handshake-whole : (bytes : List ℕ) (n : ℕ) → (greeting_front bytes ≡ whole tt n) ↔ ((n ≡ 14) × IsGreeted bytes)
handshake-whole bytes n = (
  λ e. let g = greeted-is 0 handshake bytes n e in (g.0 ∙ omega arith, (g.1, g.2)),
  λ g. ap greeting_front g.1.1 ∙ greeted-from 0 handshake g.1.0 ∙ ap whole_greeting (omega (arith, g.0)),
)

pub handshake-waits : (bytes : List ℕ) → (greeting_front bytes ≡ waits) ↔ IsGreetingPart bytes
handshake-waits bytes = (
  waits-is 0 handshake bytes,
  λ p. ap (λ (text : List ℕ). greeting_from 0 text bytes) (sym p.2) ∙ waits-from 0 bytes
      p.0 p.1,
)

pub handshake-refused : (bytes : List ℕ) (f : PacketFault) (place : ℕ) → (greeting_front bytes ≡ faulty f place)
    ↔ ((f ≡ BadHandshake) × Differs handshake bytes place)
handshake-refused bytes f place = (
  λ e. let d = differs-is 0 handshake bytes f place e in
      (d.0, subst (λ (k : ℕ). Differs handshake bytes k) (omega (arith, d.2)) d.3),
  λ d. differs-from 0 handshake bytes place d.1 ∙ ap bad (omega arith) ∙ ap (λ (g : PacketFault). faulty g place)
      (sym d.0),
)
