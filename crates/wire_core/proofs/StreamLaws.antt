-- However a stream is cut into pieces, the same messages are handed out.
use Rattle.std.proofs.Common.{◌≡◌, ℕ, ◌+◌, ◌≤◌, List, [], ◌∷◌, ◌++◌, length, refl, sym, ap, subst, ◌∙◌, arith}
use Rattle.std.proofs.Common.{append_assoc}
use Rattle.std.proofs.lemmas.List.{append-nil, drop-append-le, length-drop}
use Rattle.wire_core.specs.Streams.{Front, waits, whole, faulty, Uncut, fed, past, left, HasNoWhole, IsSteady, Hands}
use Rattle.wire_core.specs.Streams.{Cuts, Reads, joined}

module _ {M F : Type 0} (front : List ℕ → Front M F) where
  -- what is handed out of a stream is handed out of it whatever follows
  pub Hands-fed : IsSteady front → (old : Uncut) (messages : List (ℕ × M)) (new : Uncut) (more : List ℕ)
      → Hands front old messages new → Hands front (fed old more) messages (fed new more)
  Hands-fed steady old [] new more h = ap (λ (u : Uncut). fed u more) h
  Hands-fed steady old (m ∷ ms) new more (n, here, at, rest) =
      let inside : n ≤ length old.pending = (steady.takes old.pending m.1 n here).1 in
      let moved : Hands front (fed (past old n) more) ms (fed new more) =
      Hands-fed steady (past old n) ms new more rest in
      let same : fed (past old n) more ≡ past (fed old more) n =
      ap (λ (p : List ℕ). record { at = old.at + n; pending = p }) (sym (drop-append-le n old.pending more inside)) in (
        n,
        steady.stays_whole old.pending more m.1 n here,
        at,
        subst (λ (u : Uncut). Hands front u ms (fed new more)) same moved,
      )

  -- what is handed out first, and then what is handed out of what is left
  pub Hands-append : (old : Uncut) (first : List (ℕ × M)) (middle : Uncut) (second : List (ℕ × M)) (new : Uncut)
      → Hands front old first middle → Hands front middle second new → Hands front old (first ++ second) new
  Hands-append old [] middle second new h k = subst (λ (u : Uncut). Hands front u second new) h k
  Hands-append old (m ∷ ms) middle second new (n, here, at, rest) k =
      (n, here, at, Hands-append (past old n) ms middle second new rest k)

  -- feeding twice is feeding both at once
  fed-fed : (u : Uncut) (a b : List ℕ) → fed (fed u a) b ≡ fed u (a ++ b)
  fed-fed u a b = ap (λ (p : List ℕ). record { at = u.at; pending = p }) (append_assoc u.pending a b)

  -- What was handed out while the pieces came is handed out of the whole stream.
  pub Hands-pieces : IsSteady front → (old : Uncut) (pieces : List (List ℕ)) (messages : List (ℕ × M)) (new : Uncut)
      → Reads front old pieces messages new → Hands front (fed old (joined pieces)) messages new
  Hands-pieces steady old [] messages new (none, same) =
      subst (λ (ms : List (ℕ × M)). Hands front (fed old []) ms new) (sym none)
      (same ∙ ap (λ (p : List ℕ). record { at = old.at; pending = p }) (sym (append-nil old.pending)))
  Hands-pieces steady old (piece ∷ pieces) messages new (now, later, middle, first, rest, both) =
      let second : Hands front (fed middle (joined pieces)) later new =
      Hands-pieces steady middle pieces later new rest in
      let start : Hands front (fed (fed old piece) (joined pieces)) now (fed middle (joined pieces)) =
      Hands-fed steady (fed old piece) now middle (joined pieces) first in
      let all : Hands front (fed (fed old piece) (joined pieces)) (now ++ later) new =
      Hands-append (fed (fed old piece) (joined pieces)) now (fed middle (joined pieces)) later new start second in
      subst (λ (ms : List (ℕ × M)). Hands front (fed old (piece ++ joined pieces)) ms new) (sym both)
      (subst (λ (u : Uncut). Hands front u (now ++ later) new) (fed-fed old piece (joined pieces)) all)

  -- where nothing whole is left, no message stands at the front
  none_whole : (bytes : List ℕ) (m : M) (n : ℕ) → front bytes ≡ whole m n → HasNoWhole (front bytes) → ⊥
  none_whole bytes m n here rest = subst (λ (x : Front M F). HasNoWhole x) here rest

  -- A stream has one list of messages and one rest.
  pub Cuts-one : (old : Uncut) (ms : List (ℕ × M)) (u : Uncut) (ns : List (ℕ × M)) (v : Uncut)
      → Cuts front old ms u → Cuts front old ns v → (ms ≡ ns) × (u ≡ v)
  Cuts-one old [] u [] v p q = (refl, p.hands ∙ sym q.hands)
  Cuts-one old [] u (n ∷ ns) v p q =
      absurd (none_whole old.pending n.1 q.hands.0 q.hands.1
      (subst (λ (w : Uncut). HasNoWhole (front w.pending)) p.hands p.rest))
  Cuts-one old (m ∷ ms) u [] v p q =
      absurd (none_whole old.pending m.1 p.hands.0 p.hands.1
      (subst (λ (w : Uncut). HasNoWhole (front w.pending)) q.hands q.rest))
  Cuts-one old (m ∷ ms) u (n ∷ ns) v p q =
      let taken : M → ℕ → Front M F = λ k l. whole k l in
      let same : taken m.1 p.hands.0 ≡ taken n.1 q.hands.0 = sym p.hands.1 ∙ q.hands.1 in
      let len : p.hands.0 ≡ q.hands.0 = cc in
      let message : m.1 ≡ n.1 = cc in
      let second : Hands front (past old p.hands.0) ns v =
      subst (λ (k : ℕ). Hands front (past old k) ns v) (sym len) q.hands.3 in
      let rest : (ms ≡ ns) × (u ≡ v) = Cuts-one (past old p.hands.0) ms u ns v
      (record { hands = p.hands.3; rest = p.rest })
      (record { hands = second; rest = q.rest }) in
      let head : m ≡ n = ap (λ (x : ℕ × M). x) (pair m n (p.hands.2 ∙ sym q.hands.2) message) in
      (ap (λ (x : ℕ × M). x ∷ ms) head ∙ ap (λ (xs : List (ℕ × M)). n ∷ xs) rest.0, rest.1)
    where
      pair : (a b : ℕ × M) → a.0 ≡ b.0 → a.1 ≡ b.1 → a ≡ b
      pair a b x y = ap (λ (k : ℕ). (k, a.1)) x ∙ ap (λ (k : M). (b.0, k)) y

  -- Taking moves the front: as many bytes were fed as before.
  pub left_size : IsSteady front → (u : Uncut)
      → (left (front u.pending) u).at + length (left (front u.pending) u).pending ≡ u.at + length u.pending
  left_size steady u = by (front u.pending) refl
    where
      by : (f : Front M F) → front u.pending ≡ f → (left f u).at + length (left f u).pending ≡ u.at + length u.pending
      by waits e = refl
      by (whole m n) e =
          let inside : n ≤ length u.pending = (steady.takes u.pending m n e).1 in
          omega (arith, length-drop n u.pending)
      by (faulty f d) e = refl
