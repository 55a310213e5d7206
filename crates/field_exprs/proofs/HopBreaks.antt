-- Where reading a hop breaks.
use Rattle.std.proofs.Common.{◌≡◌, ℕ, suc, ◌<◌, ◌≤◌, true, false, List, [], ◌∷◌, ◌++◌, length}
use Rattle.std.proofs.Common.{sym, ap, subst, ◌∙◌, refl, arith, ◌⊎◌, inl, inr, append_assoc, append-nil, length-append}
use Rattle.std.specs.Prelude.{◌≢◌, codes, ◌==◌}
use Rattle.std.specs.Char.{digit_value}
use Rattle.std.specs.List.{AllByRecursion}
use Rattle.std.specs.Str.Parse.{AllDigits, digits_value}
use Rattle.std.proofs.lemmas.Bool.{eqb-true, eqb-false}
use Rattle.std.proofs.lemmas.Str.Parse.{digits_value-take-le}
use Rattle.std.proofs.Math.Seq.{take-append_seam}
use Rattle.field_exprs.specs.declared.expr.Hop.TheVariants.{Field, Index}
use Rattle.field_exprs.specs.Grammar.{begins_name, is_in_name, BeginsIndex, IsWord}
use Rattle.field_exprs.specs.Reading.{IsTail, Stops, IsIndexBefore, IsHopBefore, Breaks}
use Rattle.field_exprs.proofs.Spans.{same_span, parts_before}
use Rattle.field_exprs.proofs.Tails.{word_passes, word_first, tail_stops, field_first, index_first}

-- Reading a hop breaks ------------------------------------------------------------------------------------------------

-- no field begins where no name does
no_field : (text : List ℕ) → Stops begins_name text → ¬ IsTail (46 ∷ text)
no_field text stop tail =
    let first = field_first text tail.0 tail.1 in word_first first.name first.left text first.is_name.0 first.parts stop

pub field_breaks : (text : List ℕ) → Stops begins_name text → Breaks (λ rest. IsTail (46 ∷ rest)) [] text
field_breaks text stop = record {
  outside = no_field text stop;
  more = codes "a";
  begins = (Field (codes "a") ∷ [], (codes ".a", [], refl, (refl, ((refl, tt), λ e. absurd cc)), tt));
  next = λ byte rest other e. no_field (byte ∷ other) (subst (Stops begins_name) e stop);
}

-- no field is `this`
no_this : (behind : List ℕ) → Stops is_in_name behind → ¬ IsTail (46 ∷ (codes "this" ++ behind))
no_this behind stop tail =
    let first = field_first (codes "this" ++ behind) tail.0 tail.1 in
    first.is_name.1
    (sym (same_span is_in_name (codes "this") first.name behind first.left (refl, (refl, (refl, (refl, tt))))
    (word_passes first.name first.is_name.0) stop (tail_stops first.left first.more first.behind) first.parts).0)

thiss_is_word : IsWord (codes "thiss")
thiss_is_word = (refl, (refl, (refl, (refl, (refl, tt)))))

pub this_breaks : (left : List ℕ) → Stops is_in_name left → Breaks (λ rest. IsTail (46 ∷ rest)) (codes "this") left
this_breaks left stop = record {
  outside = no_this left stop;
  more = codes "s";
  begins = (Field (codes "thiss") ∷ [], (codes ".thiss", [], refl, (refl, (thiss_is_word, λ e. absurd cc)), tt));
  next = λ byte rest other e. no_this (byte ∷ other) (subst (Stops is_in_name) e stop);
}

digits_split : (xs ys : List ℕ) → AllDigits 10 (xs ++ ys) → AllDigits 10 xs
digits_split [] ys all = tt
digits_split (x ∷ xs) ys all = (all.0, digits_split xs ys all.1)

pub each_digit : (digits : List ℕ) → AllDigits 10 digits → AllByRecursion (λ byte. digit_value byte < 10) digits
each_digit [] all = tt
each_digit (byte ∷ bytes) all = (all.0, each_digit bytes all.1)

-- what begins what an index begins with may begin one too
index_front : (xs ys : List ℕ) → BeginsIndex (xs ++ ys) → BeginsIndex xs
index_front xs ys begins =
    let size = length-append xs ys in
    let short = begins.short in
    record {
      digital = digits_split xs ys begins.digital;
      short = omega arith;
      small = omega (
        arith,
        begins.small,
        subst (λ (l : List ℕ). digits_value 10 l ≤ digits_value 10 (xs ++ ys)) (take-append_seam xs ys)
            (digits_value-take-le 10 (xs ++ ys) (length xs) (omega arith)),
      );
    }

-- behind the digits of an index stands `]`
no_index : (text digits left : List ℕ) (byte : ℕ) (other : List ℕ) → IsIndexBefore text digits left
    → ((digits ≡ []) ⊎ (byte ≢ 93)) → (BeginsIndex (digits ++ byte ∷ []) → ⊥) → ¬ IsTail (91 ∷ (digits ++ byte ∷ other))
no_index text digits left byte other before ends longest tail =
    let first = index_first (digits ++ byte ∷ other) tail.0 tail.1 in
    elim (parts_before (λ b. digit_value b < 10) digits first.digits other first.left byte 93
    (each_digit digits before.begins.digital) (each_digit first.digits first.begins.digital) (λ low. omega arith)
    first.parts) [
      | inl same ↦ elim ends [ inl empty ↦ first.some (sym same.0 ∙ empty) | inr differs ↦ differs same.1 ]
      | inr more ↦ longest (index_front (digits ++ byte ∷ []) more.0
          (subst BeginsIndex (more.1 ∙ sym (append_assoc digits (byte ∷ []) more.0)) first.begins))
    ]

zero_begins : BeginsIndex (codes "0")
zero_begins = record { digital = (omega arith, tt); short = omega arith; small = omega arith }

index_begins : (digits : List ℕ) → BeginsIndex digits → (more : List ℕ) × IsTail (91 ∷ (digits ++ more))
index_begins [] begins =
    (codes "0]", (Index 0 ∷ [], (codes "[0]", [], refl, (codes "0", refl, zero_begins, λ e. absurd cc, refl), tt)))
index_begins (byte ∷ bytes) begins = (
  codes "]",
  (
    Index (digits_value 10 (byte ∷ bytes)) ∷ [],
    (
      91 ∷ byte ∷ (bytes ++ codes "]"),
      [],
      sym (append-nil (91 ∷ byte ∷ (bytes ++ codes "]"))),
      (byte ∷ bytes, refl, begins, λ e. absurd cc, refl),
      tt,
    ),
  ),
)

pub digits_behind : (xs ys : List ℕ) → AllDigits 10 (xs ++ ys) → AllDigits 10 ys
digits_behind [] ys all = all
digits_behind (x ∷ xs) ys all = digits_behind xs ys all.1

no_close : (digits : List ℕ) (byte : ℕ) (rest : List ℕ)
    → ((digits ≡ []) ⊎ ((behind : List ℕ) → byte ∷ rest ≢ 93 ∷ behind)) → (digits ≡ []) ⊎ (byte ≢ 93)
no_close digits byte rest (inl empty) = inl empty
no_close digits byte rest (inr differs) = inr (λ same. differs rest (ap (λ (n : ℕ). n ∷ rest) same))

no_index_here : (text digits left : List ℕ) → IsIndexBefore text digits left
    → ((digits ≡ []) ⊎ ((rest : List ℕ) → left ≢ 93 ∷ rest)) → ¬ IsTail (91 ∷ (digits ++ left))
no_index_here text digits [] before ends tail =
    let first = index_first (digits ++ []) tail.0 tail.1 in
    let all = subst (AllDigits 10) (sym (append-nil digits) ∙ first.parts) before.begins.digital in
    let low = (digits_behind first.digits (93 ∷ first.left) all).0 in omega arith
no_index_here text digits (byte ∷ rest) before ends tail =
    no_index text digits (byte ∷ rest) byte rest before (no_close digits byte rest ends)
    (before.longest byte rest refl) tail

pub index_breaks : (text digits left : List ℕ) → IsIndexBefore text digits left
    → ((digits ≡ []) ⊎ ((rest : List ℕ) → left ≢ 93 ∷ rest)) → Breaks (λ rest. IsTail (91 ∷ rest)) digits left
index_breaks text digits left before ends =
    let found = index_begins digits before.begins in
    record {
      outside = no_index_here text digits left before ends;
      more = found.0;
      begins = found.1;
      next = λ byte rest other e.
          no_index text digits left byte other before
          (no_close digits byte rest
          (subst (λ (l : List ℕ). (digits ≡ []) ⊎ ((behind : List ℕ) → l ≢ 93 ∷ behind)) e ends))
          (before.longest byte rest e);
    }

pub no_length : (digits : List ℕ) → (length digits == 0) ≡ true → digits ≡ []
no_length [] e = refl
no_length (byte ∷ bytes) e = absurd (let none = eqb-true (suc (length bytes)) 0 e in omega arith)

-- digits and the `]` behind them are an index
pub index_before_close : (text digits left behind : List ℕ) (n : ℕ) → IsIndexBefore text digits left
    → (length digits == 0) ≡ false → left ≡ 93 ∷ behind → n ≡ digits_value 10 digits
    → IsHopBefore (91 ∷ text) behind (Index n)
index_before_close text digits left behind n before some close value = (
  91 ∷ (digits ++ codes "]"),
  ap (λ (l : List ℕ). 91 ∷ l)
      (before.parts ∙ ap (λ (l : List ℕ). digits ++ l) close ∙ sym (append_assoc digits (codes "]") behind)),
  (
    digits,
    refl,
    before.begins,
    λ none. eqb-false (length digits) 0 some (ap (λ (l : List ℕ). length l) none),
    sym value,
  ),
)
