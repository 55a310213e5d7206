-- Steps, by their first byte.
use Rattle.std.proofs.Common.{◌≡◌, ℕ, Bool, true, false, List, [], ◌∷◌, ◌++◌}
use Rattle.std.proofs.Common.{sym, ap, subst, ◌∙◌, refl, arith, append_assoc}
use Rattle.std.specs.Prelude.{◌≢◌, codes, ◌||◌}
use Rattle.std.specs.Char.{is_ascii_digit}
use Rattle.std.specs.Str.Parse.{digits_value}
use Rattle.std.proofs.lemmas.Bool.Decides.{nat_tests}
use Rattle.field_exprs.specs.declared.expr.Hop.{Hop}
use Rattle.field_exprs.specs.declared.expr.Hop.TheVariants.{Field, Index}
use Rattle.field_exprs.specs.Grammar.{is_blank, begins_name, is_in_name, AreBlanks, BeginsIndex, IsWord, IsName}
use Rattle.field_exprs.specs.Grammar.{AreSteps}
use Rattle.field_exprs.specs.Reading.{Stops}
use Rattle.field_exprs.proofs.Spans.{AllPassing, same_head}

-- Words ---------------------------------------------------------------------------------------------------------------

begins_is_in : (byte : ℕ) → begins_name byte ≡ true → is_in_name byte ≡ true
begins_is_in byte begins = ap (λ (b : Bool). b || is_ascii_digit byte) begins

pub word_passes : (word : List ℕ) → IsWord word → AllPassing is_in_name word
word_passes [] is = absurd is
word_passes (byte ∷ bytes) is = (begins_is_in byte is.0, is.1)

pub blank_stops_word : (byte : ℕ) → is_blank byte ≡ true → is_in_name byte ≡ false
blank_stops_word byte blank = grind (arith, nat_tests)

-- a word with what is behind it begins with a byte of a word
pub word_first : (word left text : List ℕ) → IsWord word → text ≡ word ++ left → ¬ Stops begins_name text
word_first [] left text is e stop = is
word_first (byte ∷ bytes) left text is e stop =
    let no : begins_name byte ≡ false = subst (Stops begins_name) e stop in
    let yes : begins_name byte ≡ true = is.0 in absurd cc

-- what stands behind a name is in none
pub tail_stops : (text : List ℕ) (hops : List Hop) → AreSteps text hops → Stops is_in_name text
tail_stops [] [] steps = tt
tail_stops (byte ∷ bytes) [] steps = blank_stops_word byte steps.0
tail_stops text (Field name ∷ hops) steps =
    subst (Stops is_in_name) (sym (steps.2 ∙ ap (λ (l : List ℕ). l ++ steps.1) steps.3.0)) refl
tail_stops text (Index n ∷ hops) steps =
    subst (Stops is_in_name) (sym (steps.2 ∙ ap (λ (l : List ℕ). l ++ steps.1) steps.3.1)) refl

-- Steps by their first byte -------------------------------------------------------------------------------------------

-- steps that begin with a field
pub record FieldFirst (rest : List ℕ) (hops : List Hop) : Type 0 where
  pub name : List ℕ
  pub left : List ℕ
  pub more : List Hop
  pub hops_are : hops ≡ Field name ∷ more
  pub parts : rest ≡ name ++ left
  pub is_name : IsName name
  pub behind : AreSteps left more

pub field_first : (rest : List ℕ) (hops : List Hop) → AreSteps (46 ∷ rest) hops → FieldFirst rest hops
field_first rest [] steps = absurd cc
field_first rest (Field name ∷ more) steps =
    let whole : 46 ∷ rest ≡ 46 ∷ (name ++ steps.1) = steps.2 ∙ ap (λ (l : List ℕ). l ++ steps.1) steps.3.0 in
    record {
      name = name;
      left = steps.1;
      more = more;
      hops_are = refl;
      parts = cc;
      is_name = steps.3.1;
      behind = steps.4;
    }
field_first rest (Index n ∷ more) steps =
    let whole : 46 ∷ rest ≡ 91 ∷ (steps.3.0 ++ codes "]" ++ steps.1) =
    steps.2 ∙ ap (λ (l : List ℕ). l ++ steps.1) steps.3.1 in
    absurd (omega (arith, same_head 46 91 rest (steps.3.0 ++ codes "]" ++ steps.1) whole))

-- steps that begin with an index
pub record IndexFirst (rest : List ℕ) (hops : List Hop) : Type 0 where
  pub digits : List ℕ
  pub left : List ℕ
  pub more : List Hop
  pub hops_are : hops ≡ Index (digits_value 10 digits) ∷ more
  pub parts : rest ≡ digits ++ 93 ∷ left
  pub begins : BeginsIndex digits
  pub some : digits ≢ []
  pub behind : AreSteps left more

pub index_first : (rest : List ℕ) (hops : List Hop) → AreSteps (91 ∷ rest) hops → IndexFirst rest hops
index_first rest [] steps = absurd cc
index_first rest (Field name ∷ more) steps =
    let whole : 91 ∷ rest ≡ 46 ∷ (name ++ steps.1) = steps.2 ∙ ap (λ (l : List ℕ). l ++ steps.1) steps.3.0 in
    absurd (omega (arith, same_head 91 46 rest (name ++ steps.1) whole))
index_first rest (Index n ∷ more) steps =
    let digits = steps.3.0 in
    let whole : 91 ∷ rest ≡ 91 ∷ (digits ++ codes "]" ++ steps.1) =
    steps.2 ∙ ap (λ (l : List ℕ). l ++ steps.1) steps.3.1 in
    let tail : rest ≡ digits ++ codes "]" ++ steps.1 = cc in
    record {
      digits = digits;
      left = steps.1;
      more = more;
      hops_are = ap (λ (m : ℕ). Index m ∷ more) (sym steps.3.4);
      parts = tail ∙ append_assoc digits (codes "]") steps.1;
      begins = steps.3.2;
      some = steps.3.3;
      behind = steps.4;
    }

-- steps that begin with neither are none
pub no_hop_first : (text : List ℕ) (hops : List Hop) → ((rest : List ℕ) → text ≢ 46 ∷ rest)
    → ((rest : List ℕ) → text ≢ 91 ∷ rest) → AreSteps text hops → (hops ≡ []) × AreBlanks text
no_hop_first text [] no_field no_index steps = (refl, steps)
no_hop_first text (Field name ∷ more) no_field no_index steps =
    absurd (no_field (name ++ steps.1) (steps.2 ∙ ap (λ (l : List ℕ). l ++ steps.1) steps.3.0))
no_hop_first text (Index n ∷ more) no_field no_index steps =
    absurd (no_index (steps.3.0 ++ codes "]" ++ steps.1) (steps.2 ∙ ap (λ (l : List ℕ). l ++ steps.1) steps.3.1))
