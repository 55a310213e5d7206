-- An expression by its parts, and where a text breaks that is none.
use Rattle.std.proofs.Common.{◌≡◌, ℕ, ◌+◌, ◌-◌, Bool, true, false, List, [], ◌∷◌, ◌++◌, length}
use Rattle.std.proofs.Common.{sym, ap, subst, ◌∙◌, refl, arith, inl, inr, append_assoc, length-append}
use Rattle.std.specs.Prelude.{codes, bytes_eq, if◌then◌else◌}
use Rattle.std.specs.Cmp.Lexicographic.{bytes_decides}
use Rattle.std.proofs.lemmas.Bool.{true≢false, cases_lt}
use Rattle.std.proofs.lemmas.Bool.Decides.{nat_tests}
use Rattle.field_exprs.specs.declared.expr.Expr.{Expr}
use Rattle.field_exprs.specs.declared.expr.Head.{Head}
use Rattle.field_exprs.specs.declared.expr.Head.TheVariants.{This, Name}
use Rattle.field_exprs.specs.declared.expr.Hop.{Hop}
use Rattle.field_exprs.specs.declared.stuck.Stuck.{Stuck}
use Rattle.field_exprs.specs.declared.stuck.Stuck.TheVariants.{NoMemory, Before}
use Rattle.field_exprs.specs.Grammar.{is_blank, begins_name, is_in_name, AreBlanks, IsWord, IsHead, AreSteps, IsExpr}
use Rattle.field_exprs.specs.Parsing.{head_of}
use Rattle.field_exprs.specs.Reading.{IsAccepted, GoesWrong, IsTail, Stops, Skips, IsWordBefore, BreaksBefore}
use Rattle.field_exprs.specs.Sticking.{IsStuck}
use Rattle.field_exprs.proofs.Spans.{same_front, same_span, stops_alike, longer_front}
use Rattle.field_exprs.proofs.Tails.{word_passes, word_first, tail_stops}

-- Heads ---------------------------------------------------------------------------------------------------------------

this_is_word : IsWord (codes "this")
this_is_word = (refl, (refl, (refl, (refl, tt))))

pub head_is_word : (text : List ℕ) (head : Head) → IsHead text head → IsWord text
head_is_word text This is = subst IsWord (sym is) this_is_word
head_is_word text (Name name) is = subst IsWord (sym is.0) is.1.0

-- a word is a head: `this`, or a name
pub head_is : (word : List ℕ) → IsWord word → IsHead word (head_of word)
head_is word is_word = by (bytes_eq word (codes "this")) refl
  where
    by : (b : Bool) → bytes_eq word (codes "this") ≡ b → IsHead word (if b then This else Name word)
    by true e = (bytes_decides word (codes "this")).0 e
    by false e = (refl, (is_word, λ same. true≢false (sym ((bytes_decides word (codes "this")).1 same) ∙ e)))

begins_unblank : (byte : ℕ) → begins_name byte ≡ true → is_blank byte ≡ false
begins_unblank byte begins = grind (arith, nat_tests)

word_unblank : (word behind : List ℕ) → IsWord word → Stops is_blank (word ++ behind)
word_unblank [] behind is = absurd is
word_unblank (byte ∷ word) behind is = begins_unblank byte is.0

-- Parts ---------------------------------------------------------------------------------------------------------------

-- an expression has the blanks, the word and the steps that are seen in it
pub parts_are : (blanks word behind : List ℕ) (e : Expr) → AreBlanks blanks → IsWord word → Stops is_in_name behind
    → IsExpr (blanks ++ (word ++ behind)) e → IsHead word e.head × AreSteps behind e.steps
parts_are blanks word behind e blank is_word stop is =
    let head_word = head_is_word is.head e.head is.at_head in
    let first = same_span is_blank blanks is.blanks (word ++ behind) (is.head ++ is.steps) blank is.before
    (word_unblank word behind is_word) (word_unblank is.head is.steps head_word) is.parts in
    let second = same_span is_in_name word is.head behind is.steps (word_passes word is_word)
    (word_passes is.head head_word) stop (tail_stops is.steps e.steps is.behind) first.1 in (
      subst (λ (l : List ℕ). IsHead l e.head) (sym second.0) is.at_head,
      subst (λ (l : List ℕ). AreSteps l e.steps) (sym second.1) is.behind,
    )

pub expr_of : (blanks word behind : List ℕ) (head : Head) (hops : List Hop) → AreBlanks blanks → IsHead word head
    → AreSteps behind hops → IsExpr (blanks ++ (word ++ behind)) (record { head = head; steps = hops })
expr_of blanks word behind head hops blank at_head steps = record {
  blanks = blanks;
  head = word;
  steps = behind;
  parts = refl;
  before = blank;
  at_head = at_head;
  behind = steps;
}

pub expr_read : (text rest word left : List ℕ) (head : Head) (hops : List Hop) → Skips is_blank text rest
    → IsWordBefore rest word left → IsHead word head → AreSteps left hops
    → IsExpr text (record { head = head; steps = hops })
expr_read text rest word left head hops skips before at_head steps =
    subst (λ (l : List ℕ). IsExpr l (record { head = head; steps = hops }))
    (sym (skips.1 ∙ ap (λ (l : List ℕ). skips.0 ++ l) before.parts))
    (expr_of skips.0 word left head hops skips.2 at_head steps)

-- Breaks --------------------------------------------------------------------------------------------------------------

no_expr : (blanks behind : List ℕ) → AreBlanks blanks → Stops is_blank behind → Stops begins_name behind
    → ¬ IsAccepted (blanks ++ behind)
no_expr blanks behind blank stop begins accepted =
    let is = accepted.1 in
    let head_word = head_is_word is.head accepted.0.head is.at_head in
    let first = same_span is_blank blanks is.blanks behind (is.head ++ is.steps) blank is.before stop
    (word_unblank is.head is.steps head_word) is.parts in
    word_first is.head is.steps behind head_word first.1 begins

-- where no word begins behind the blanks, a text breaks
pub no_word : (text rest : List ℕ) → Skips is_blank text rest → Stops begins_name rest
    → BreaksBefore IsAccepted text rest
no_word text rest skips begins = (
  skips.0,
  skips.1,
  record {
    outside = no_expr skips.0 rest skips.2 skips.3 begins;
    more = codes "a";
    begins = (
      record { head = Name (codes "a"); steps = [] },
      expr_of skips.0 (codes "a") [] (Name (codes "a")) [] skips.2 (refl, ((refl, tt), λ e. absurd cc)) tt,
    );
    next = λ byte behind other e.
        no_expr skips.0 (byte ∷ other) skips.2 (subst (Stops is_blank) e skips.3) (subst (Stops begins_name) e begins);
  },
)

-- where the steps behind the word break, the text breaks
pub tail_breaks : (text rest word left behind : List ℕ) → Skips is_blank text rest → IsWordBefore rest word left
    → BreaksBefore IsTail left behind → BreaksBefore IsAccepted text behind
tail_breaks text rest word left behind skips before breaks =
    let blanks = skips.0 in
    let front = breaks.0 in
    let here = breaks.2 in
    let head = head_of word in
    let joined = λ (more : List ℕ).
    append_assoc blanks (word ++ front) more ∙ ap (λ (l : List ℕ). blanks ++ l) (append_assoc word front more) in
    let none = λ (more : List ℕ) (stop : Stops is_in_name (front ++ more)) (out : ¬ IsTail (front ++ more))
    (accepted : IsAccepted (blanks ++ (word ++ front) ++ more)).
    out (
      accepted.0.steps,
      (parts_are blanks word (front ++ more) accepted.0 skips.2 before.is_word stop
          (subst (λ (l : List ℕ). IsExpr l accepted.0) (joined more) accepted.1)).1,
    ) in (
      blanks ++ (word ++ front),
      skips.1 ∙ ap (λ (l : List ℕ). blanks ++ l) (before.parts ∙ ap (λ (l : List ℕ). word ++ l) breaks.1)
          ∙ sym (joined behind),
      record {
        outside = none behind (subst (Stops is_in_name) breaks.1 before.stops) here.outside;
        more = here.more;
        begins = (
          record { head = head; steps = here.begins.0 },
          subst (λ (l : List ℕ). IsExpr l (record { head = head; steps = here.begins.0 })) (sym (joined here.more))
              (expr_of blanks word (front ++ here.more) head here.begins.0 skips.2 (head_is word before.is_word)
              here.begins.1),
        );
        next = λ byte more other e.
            none (byte ∷ other)
            (stops_alike is_in_name (front ++ byte ∷ more) (front ++ byte ∷ other) (same_front front byte more other)
            (subst (Stops is_in_name) (breaks.1 ∙ ap (λ (l : List ℕ). front ++ l) e) before.stops))
            (here.next byte more other e);
      },
    )

pub whole_stuck : (text rest word left : List ℕ) (stuck : Stuck) → Skips is_blank text rest
    → IsWordBefore rest word left
    → IsStuck IsTail left stuck → IsStuck IsAccepted text stuck
whole_stuck text rest word left NoMemory skips before is = tt
whole_stuck text rest word left (Before behind) skips before is =
    tail_breaks text rest word left behind.now skips before is

-- Places --------------------------------------------------------------------------------------------------------------

-- a text goes wrong where it breaks
pub goes_wrong : (text left : List ℕ) → BreaksBefore IsAccepted text left → GoesWrong text (length text - length left)
goes_wrong text left breaks =
    let front = breaks.0 in
    let here = breaks.2 in
    let size : length text ≡ length front + length left =
    ap (λ (l : List ℕ). length l) breaks.1 ∙ length-append front left in
    record {
      front = front;
      left = left;
      parts = breaks.1;
      outside = subst (λ (l : List ℕ). ¬ IsAccepted l) (sym breaks.1) here.outside;
      begins = (here.more, here.begins);
      longest = λ other rest parts begun. elim (cases_lt (length front) (length other)) [
        | inl longer ↦ absurd
            (let more = longer_front front other left rest (sym breaks.1 ∙ parts) longer in
            here.next more.0 (more.1 ++ rest) (more.1 ++ begun.0) more.3
            (subst IsAccepted (ap (λ (l : List ℕ). l ++ begun.0) more.2
            ∙ append_assoc front (more.0 ∷ more.1) begun.0) begun.1))
        | inr shorter ↦ shorter
      ];
      at = omega arith;
    }
