-- Texts cut where a test first fails, and what stands between blanks.
use Rattle.std.proofs.Common.{◌≡◌, ◌≢◌, ◌<◌, ◌≤◌, ℕ, length, get_or, Bool, true, false, not, List, [], ◌∷◌, ◌++◌, take, drop, reverse}
use Rattle.std.proofs.Common.{sym, ap, subst, ◌∙◌, refl, arith, append_assoc}
use Rattle.std.specs.List.{prefix_len}
use Rattle.std.specs.Str.{IsCharBoundary}
use Rattle.std.proofs.lemmas.List.{length-reverse, reverse-append, reverse-reverse, take-append-drop}
use Rattle.std.proofs.lemmas.List.Sums.{prefix_len-le-length, prefix_len_stops}
use Rattle.field_exprs.specs.Grammar.{AreBlanks, is_blank}
use Rattle.field_exprs.specs.Parsing.{behind}
use Rattle.field_exprs.specs.Reading.{Stops}
use Rattle.field_exprs.proofs.Fronts.{passes, stops}
use Rattle.field_exprs.proofs.Spans.{AllPassing, same_span}
use Rattle.break_rules.specs.Grammar.{IsBetween}
use Rattle.break_rules.specs.Parsing.{core_of}

-- Lists ---------------------------------------------------------------------------------------------------------------

pub all_joined : (test : ℕ → Bool) (xs ys : List ℕ) → AllPassing test xs → AllPassing test ys → AllPassing test (xs ++ ys)
all_joined test [] ys front back = back
all_joined test (x ∷ xs) ys front back = (front.0, all_joined test xs ys front.1 back)

pub all_weaker : (test other : ℕ → Bool) → ((byte : ℕ) → test byte ≡ true → other byte ≡ true) → (xs : List ℕ)
    → AllPassing test xs → AllPassing other xs
all_weaker test other weaker [] all = tt
all_weaker test other weaker (x ∷ xs) all = (weaker x all.0, all_weaker test other weaker xs all.1)

all_turned : (test : ℕ → Bool) (xs : List ℕ) → AllPassing test xs → AllPassing test (reverse xs)
all_turned test [] all = tt
all_turned test (x ∷ xs) all =
    subst (AllPassing test) (sym (reverse-append (x ∷ []) xs))
    (all_joined test (reverse xs) (x ∷ []) (all_turned test xs all.1) (all.0, tt))

-- Cuts ----------------------------------------------------------------------------------------------------------------

-- a front of which each byte passes, before what stops, is what the text is cut into
pub cut_is : (test : ℕ → Bool) (front rest : List ℕ) → AllPassing test front → Stops test rest
    → (take (prefix_len test (front ++ rest)) (front ++ rest) ≡ front) × (behind test (front ++ rest) ≡ rest)
cut_is test front rest all stop =
    let text = front ++ rest in
    let n = prefix_len test text in
    same_span test (take n text) front (drop n text) rest (passes test text) all (stops test text) stop
    (take-append-drop n text)

pub cut_joined : (test : ℕ → Bool) (text : List ℕ) → text ≡ take (prefix_len test text) text ++ behind test text
cut_joined test text = sym (take-append-drop (prefix_len test text) text)

-- Between blanks ------------------------------------------------------------------------------------------------------

abbrev pub unblank : ℕ → Bool
unblank byte = not (is_blank byte)

blank_or : (b : Bool) → not b ≡ true → b ≡ false
blank_or true e = cc
blank_or false e = refl

solid_stops : (xs : List ℕ) → AllPassing unblank xs → Stops is_blank xs
solid_stops [] all = tt
solid_stops (x ∷ xs) all = blank_or (is_blank x) all.0

-- what has no blank itself stands between blanks
pub core_is : (before core after : List ℕ) → AreBlanks before → core ≢ [] → AllPassing unblank core → AreBlanks after
    → core_of (before ++ (core ++ after)) ≡ core
core_is before [] after blank some solid blank_after = absurd (some refl)
core_is before (byte ∷ bytes) after blank some solid blank_after =
    let core = byte ∷ bytes in
    let first = cut_is is_blank before (core ++ after) blank (blank_or (is_blank byte) solid.0) in
    let turned = ap (λ (l : List ℕ). reverse l) first.1 ∙ reverse-append core after in
    let second = cut_is is_blank (reverse after) (reverse core) (all_turned is_blank after blank_after)
    (solid_stops (reverse core) (all_turned unblank core solid)) in
    ap (λ (l : List ℕ). reverse (behind is_blank l)) turned ∙ ap (λ (l : List ℕ). reverse l) second.1
    ∙ reverse-reverse core

-- a text is what stands between its blanks, and these
pub between_is : (text : List ℕ) → IsBetween text (core_of text)
between_is text =
    let rest = behind is_blank text in
    let back = reverse rest in
    let n = prefix_len is_blank back in
    let whole = sym (reverse-reverse rest) ∙ ap (λ (l : List ℕ). reverse l) (cut_joined is_blank back)
    ∙ reverse-append (take n back) (behind is_blank back) in
    record {
      before = take (prefix_len is_blank text) text;
      behind = reverse (take n back);
      parts = cut_joined is_blank text ∙ ap (λ (l : List ℕ). take (prefix_len is_blank text) text ++ l) whole
          ∙ sym (append_assoc (take (prefix_len is_blank text) text) (core_of text) (reverse (take n back)));
      blank_before = passes is_blank text;
      blank_behind = all_turned is_blank (take n back) (passes is_blank back);
    }

pub between_parts : (text core : List ℕ) (is : IsBetween text core) → text ≡ is.before ++ (core ++ is.behind)
between_parts text core is = is.parts ∙ append_assoc is.before core is.behind

-- Texts ---------------------------------------------------------------------------------------------------------------

-- a text may be cut before ASCII
pub cut_before_ascii : (test : ℕ → Bool) → ((byte : ℕ) → test byte ≡ false → byte < 128) → (text : List ℕ)
    → IsCharBoundary text (prefix_len test text)
cut_before_ascii test stop_is_low text = (
  prefix_len-le-length test text,
  λ within high.
      let low = stop_is_low (get_or text (prefix_len test text) 0) (prefix_len_stops test text 0 within) in
      absurd (omega arith),
)

-- a cut of a text's bytes is one of the text
pub cut_of_bytes : (test : ℕ → Bool) (text bytes : List ℕ) (end : ℕ) → end ≡ prefix_len test bytes → bytes ≡ text
    → IsCharBoundary text (prefix_len test text) → IsCharBoundary text end
cut_of_bytes test text bytes end is same cut =
    subst (IsCharBoundary text) (sym (is ∙ ap (λ (l : List ℕ). prefix_len test l) same)) cut

-- as many blanks stand at an end as bytes at most
pub fewer_behind : (rest : List ℕ) → prefix_len is_blank (reverse rest) ≤ length rest
fewer_behind rest =
    let size = length-reverse rest in
    let within = prefix_len-le-length is_blank (reverse rest) in omega arith
