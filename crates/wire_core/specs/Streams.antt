-- What it is to cut a stream into messages, for any grammar of messages: frames and packets each give their own
-- `front`.
use Rattle.std.specs.Prelude.{◌≡◌, ℕ, ◌+◌, ◌<◌, ◌≤◌, List, [], ◌∷◌, ◌++◌, length, drop}

-- What stands at the front of some bytes: nothing that is decided yet; a message, and the number of bytes that it
-- takes; or a fault, and how far behind the front the refused byte stands.
pub data Front (M F : Type 0) : Type 0 where
  waits : Front M F
  whole : M → ℕ → Front M F
  faulty : F → ℕ → Front M F

-- The bytes of a stream that were fed and not handed out, and the offset of the first of them.
pub record Uncut : Type 0 where
  pub at : ℕ
  pub pending : List ℕ

-- nothing was fed yet
abbrev pub uncut : Uncut
uncut = record { at = 0; pending = [] }

-- a piece is appended
abbrev pub fed : Uncut → List ℕ → Uncut
fed u piece = record { at = u.at; pending = u.pending ++ piece }

-- the first n bytes are gone
abbrev pub past : Uncut → ℕ → Uncut
past u n = record { at = u.at + n; pending = drop n u.pending }

-- no whole message stands at the front: the next one isn't whole yet, or a byte is refused
abbrev pub HasNoWhole : {M F : Type 0} → Front M F → Type 0
HasNoWhole waits = Unit {0}
HasNoWhole (whole m n) = ⊥
HasNoWhole (faulty f d) = Unit {0}

-- what is left once what stands at the front was taken: a message is gone, all else stays
abbrev pub left : {M F : Type 0} → Front M F → Uncut → Uncut
left waits u = u
left (whole m n) u = past u n
left (faulty f d) u = u

-- the pieces, one after the other
abbrev pub joined : List (List ℕ) → List ℕ
joined [] = []
joined (piece ∷ pieces) = piece ++ joined pieces

module _ {M F : Type 0} (front : List ℕ → Front M F) where
  -- What is whole or refused stays so, whatever follows, and a message takes bytes that are there.
  pub record IsSteady : Type 0 where
    pub stays_whole : (bytes more : List ℕ) (m : M) (n : ℕ) → front bytes ≡ whole m n
        → front (bytes ++ more) ≡ whole m n
    pub stays_faulty : (bytes more : List ℕ) (f : F) (d : ℕ) → front bytes ≡ faulty f d
        → front (bytes ++ more) ≡ faulty f d
    pub takes : (bytes : List ℕ) (m : M) (n : ℕ) → front bytes ≡ whole m n → (0 < n) × (n ≤ length bytes)

  -- These messages, each with the offset of its first byte, are handed out one after the other, and `new` is left.
  abbrev pub Hands : Uncut → List (ℕ × M) → Uncut → Type 0
  Hands old [] new = new ≡ old
  Hands old (m ∷ ms) new = (n : ℕ) × (front old.pending ≡ whole m.1 n) × (m.0 ≡ old.at) × Hands (past old n) ms new

  -- The bytes are these messages, and then a rest that begins with no whole one.
  pub record Cuts (old : Uncut) (messages : List (ℕ × M)) (new : Uncut) : Type 0 where
    pub hands : Hands old messages new
    pub rest : HasNoWhole (front new.pending)

  -- The pieces are fed one after the other, and after each of them some messages are handed out, or none.
  abbrev pub Reads : Uncut → List (List ℕ) → List (ℕ × M) → Uncut → Type 0
  Reads old [] messages new = (messages ≡ []) × (new ≡ old)
  Reads old (piece ∷ pieces) messages new =
      (now : List (ℕ × M)) × (later : List (ℕ × M)) × (middle : Uncut) × Hands (fed old piece) now middle
      × Reads middle pieces later new × (messages ≡ now ++ later)
