-- Steps that are read one behind the other.
use Rattle.std.proofs.Common.{◌≡◌, ℕ, List, [], ◌∷◌, ◌++◌, sym, ap, subst, ◌∙◌, refl, true, false}
use Rattle.std.proofs.Common.{append_assoc, append-nil, ◌<◌, arith, inl, inr, length, suc, Bool, Option, None, Some}
use Rattle.std.proofs.Common.{Result, Ok, Err}
use Rattle.std.specs.Prelude.{MatchResult, IfErr, IsOkAnd, IsErrAnd, ◌==◌}
use Rattle.std.specs.Bool.{MatchBool}
use Rattle.std.specs.Borrow.{Bor}
use Rattle.std.specs.Char.{digit_value}
use Rattle.std.specs.Str.Parse.{AllDigits, digits_value}
use Rattle.std.proofs.lemmas.Bool.{true≢false, ne_eqb}
use Rattle.field_exprs.proofs.HopBreaks.{each_digit, digits_behind}
use Rattle.std.specs.Prelude.{◌≢◌, codes}
use Rattle.field_exprs.specs.declared.expr.Hop.{Hop}
use Rattle.field_exprs.specs.declared.expr.Hop.TheVariants.{Field, Index}
use Rattle.field_exprs.specs.Grammar.{is_blank, is_in_name, AreBlanks, BeginsIndex, IsName, IsHop, AreSteps}
use Rattle.field_exprs.specs.Reading.{IsTail, Stops, Skips, IsHopBefore, BreaksBefore}
use Rattle.field_exprs.specs.declared.stuck.Stuck.{Stuck}
use Rattle.field_exprs.specs.declared.stuck.Stuck.TheVariants.{NoMemory, Before}
use Rattle.field_exprs.specs.Sticking.{IsStuck, IsHopRead}
use Rattle.field_exprs.proofs.Spans.{SameFirst, same_head, same_first, same_front, same_span, stops_alike, parts_before}
use Rattle.field_exprs.proofs.Tails.{word_passes, tail_stops, field_first, index_first, no_hop_first}

-- A text is parted: what was read of it is some steps, and what is left says how it goes on. It may go on otherwise, if
-- that begins alike.
pub record Reads (text read rest : List ℕ) (found : List Hop) : Type 0 where
  pub parts : text ≡ read ++ rest
  pub onto : (behind : List ℕ) (hops : List Hop) → AreSteps behind hops → AreSteps (read ++ behind) (found ++ hops)
  pub only : (behind : List ℕ) (hops : List Hop) → SameFirst rest behind → AreSteps (read ++ behind) hops
      → (more : List Hop) × AreSteps behind more × (hops ≡ found ++ more)

pub nothing_read : (text : List ℕ) → Reads text [] text []
nothing_read text = record {
  parts = refl;
  onto = λ behind hops steps. steps;
  only = λ behind hops same steps. (hops, steps, refl);
}

-- a hop at the front, its text, and how its text may go on
record Leads (rest left : List ℕ) (hop : Hop) : Type 0 where
  first : List ℕ
  parts : rest ≡ first ++ left
  is_hop : IsHop first hop
  alike : (behind : List ℕ) → SameFirst rest (first ++ behind)
  only : (behind : List ℕ) (hops : List Hop) → SameFirst left behind → AreSteps (first ++ behind) hops
      → (more : List Hop) × AreSteps behind more × (hops ≡ hop ∷ more)

pub field_only : (name left : List ℕ) → IsName name → Stops is_in_name left
    → (behind : List ℕ) (hops : List Hop) → SameFirst left behind → AreSteps (46 ∷ (name ++ behind)) hops
    → (more : List Hop) × AreSteps behind more × (hops ≡ Field name ∷ more)
field_only name left is_name stop behind hops same steps =
    let found = field_first (name ++ behind) hops steps in
    let alike = same_span is_in_name name found.name behind found.left (word_passes name is_name.0)
    (word_passes found.name found.is_name.0) (stops_alike is_in_name left behind same stop)
    (tail_stops found.left found.more found.behind) found.parts in (
      found.more,
      subst (λ (l : List ℕ). AreSteps l found.more) (sym alike.1) found.behind,
      found.hops_are ∙ ap (λ (l : List ℕ). Field l ∷ found.more) (sym alike.0),
    )

pub index_only : (digits left : List ℕ) (n : ℕ) → BeginsIndex digits → digits ≢ [] → digits_value 10 digits ≡ n
    → (behind : List ℕ) (hops : List Hop) → AreSteps (91 ∷ (digits ++ 93 ∷ behind)) hops
    → (more : List Hop) × AreSteps behind more × (hops ≡ Index n ∷ more)
index_only digits left n begins some value behind hops steps =
    let found = index_first (digits ++ 93 ∷ behind) hops steps in
    elim (parts_before (λ b. digit_value b < 10) digits found.digits behind found.left 93 93
    (each_digit digits begins.digital) (each_digit found.digits found.begins.digital) (λ low. omega arith)
    found.parts) [
      | inl same ↦ (
        found.more,
        subst (λ (l : List ℕ). AreSteps l found.more) (sym same.2) found.behind,
        found.hops_are ∙ ap (λ (l : List ℕ). Index (digits_value 10 l) ∷ found.more) (sym same.0)
            ∙ ap (λ (m : ℕ). Index m ∷ found.more) value,
      )
      | inr more ↦ absurd
          (let all = subst (AllDigits 10) more.1 found.begins.digital in
          let low = (digits_behind digits (93 ∷ more.0) all).0 in omega arith)
    ]

leads : (rest left : List ℕ) (hop : Hop) → IsHopBefore rest left hop → Leads rest left hop
leads rest left (Field name) before = record {
  first = 46 ∷ name;
  parts = before.0;
  is_hop = (refl, before.1);
  alike = λ behind. subst (λ (l : List ℕ). SameFirst l (46 ∷ (name ++ behind))) (sym before.0) refl;
  only = field_only name left before.1 before.2;
}
leads rest left (Index n) before =
    let digits = before.2.0 in
    record {
      first = 91 ∷ (digits ++ codes "]");
      parts = before.1 ∙ ap (λ (l : List ℕ). l ++ left) before.2.1;
      is_hop = (digits, refl, before.2.2, before.2.3, before.2.4);
      alike = λ behind.
          subst (λ (l : List ℕ). SameFirst l (91 ∷ (digits ++ codes "]" ++ behind)))
          (sym (before.1 ∙ ap (λ (l : List ℕ). l ++ left) before.2.1)) refl;
      only = λ behind hops same steps.
          index_only digits left n before.2.2 before.2.3 before.2.4 behind hops
          (subst (λ (l : List ℕ). AreSteps (91 ∷ l) hops) (append_assoc digits (codes "]") behind) steps);
    }

-- one more hop is read
pub hop_read : (text read rest left : List ℕ) (found : List Hop) (hop : Hop) → Reads text read rest found
    → IsHopBefore rest left hop → (longer : List ℕ) × Reads text longer left (found ++ hop ∷ [])
hop_read text read rest left found hop so_far before =
    let here = leads rest left hop before in (
      read ++ here.first,
      record {
        parts = so_far.parts ∙ ap (λ (l : List ℕ). read ++ l) here.parts ∙ sym (append_assoc read here.first left);
        onto = λ behind hops steps.
            subst (λ (l : List ℕ). AreSteps l (found ++ hop ∷ [] ++ hops)) (sym (append_assoc read here.first behind))
            (subst (AreSteps (read ++ (here.first ++ behind))) (sym (append_assoc found (hop ∷ []) hops))
            (so_far.onto (here.first ++ behind) (hop ∷ hops) (here.first, behind, refl, here.is_hop, steps)));
        only = λ behind hops same steps.
            let old = so_far.only (here.first ++ behind) hops (here.alike behind)
            (subst (λ (l : List ℕ). AreSteps l hops) (append_assoc read here.first behind) steps) in
            let next = here.only behind old.0 same old.1 in
            let all = old.2 ∙ ap (λ (l : List Hop). found ++ l) next.2 ∙ sym (append_assoc found (hop ∷ []) next.0) in
            (next.0, next.1, all);
      },
    )

-- where what is left breaks, the text breaks
pub breaks_behind : (text read rest left : List ℕ) (found : List Hop) → Reads text read rest found
    → BreaksBefore IsTail rest left → BreaksBefore IsTail text left
breaks_behind text read rest left found so_far breaks =
    let front = breaks.0 in
    let here = breaks.2 in (
      read ++ front,
      so_far.parts ∙ ap (λ (l : List ℕ). read ++ l) breaks.1 ∙ sym (append_assoc read front left),
      record {
        outside = λ tail.
            let old = so_far.only (front ++ left) tail.0
            (subst (λ (l : List ℕ). SameFirst rest l) breaks.1 (same_first rest))
            (subst (λ (l : List ℕ). AreSteps l tail.0) (append_assoc read front left) tail.1) in
            here.outside (old.0, old.1);
        more = here.more;
        begins = (
          found ++ here.begins.0,
          subst (λ (l : List ℕ). AreSteps l (found ++ here.begins.0)) (sym (append_assoc read front here.more))
              (so_far.onto (front ++ here.more) here.begins.0 here.begins.1),
        );
        next = λ byte behind other e tail.
            let old = so_far.only (front ++ byte ∷ other) tail.0
            (subst (λ (l : List ℕ). SameFirst l (front ++ byte ∷ other))
            (sym (breaks.1 ∙ ap (λ (l : List ℕ). front ++ l) e)) (same_front front byte behind other))
            (subst (λ (l : List ℕ). AreSteps l tail.0) (append_assoc read front (byte ∷ other)) tail.1) in
            here.next byte behind other e (old.0, old.1);
      },
    )

-- the steps end where nothing but blanks is left
pub all_read : (text read rest left : List ℕ) (found : List Hop) → Reads text read rest found → Skips is_blank rest left
    → left ≡ [] → AreSteps text found
all_read text read rest left found so_far skips none =
    let blank : AreBlanks rest =
    subst AreBlanks (sym (skips.1 ∙ ap (λ (l : List ℕ). skips.0 ++ l) none ∙ append-nil skips.0)) skips.2 in
    subst (λ (l : List ℕ). AreSteps l found) (sym so_far.parts)
    (subst (AreSteps (read ++ rest)) (append-nil found) (so_far.onto rest [] blank))

last_blank : (blanks : List ℕ) (byte : ℕ) (behind : List ℕ) → AreBlanks (blanks ++ byte ∷ behind) → is_blank byte ≡ true
last_blank [] byte behind blank = blank.0
last_blank (first ∷ blanks) byte behind blank = last_blank blanks byte behind blank.1

-- blanks and then neither a hop nor the end are no steps
no_steps : (blanks rest behind : List ℕ) (byte : ℕ) → AreBlanks blanks → is_blank byte ≡ false
    → ((more : List ℕ) → blanks ++ byte ∷ rest ≢ 46 ∷ more) → ((more : List ℕ) → blanks ++ byte ∷ rest ≢ 91 ∷ more)
    → ¬ IsTail (blanks ++ byte ∷ behind)
no_steps [] rest behind byte blank stop no_field no_index tail =
    let none = no_hop_first (byte ∷ behind) tail.0
    (λ more e. no_field rest (ap (λ (n : ℕ). n ∷ rest) (same_head byte 46 behind more e)))
    (λ more e. no_index rest (ap (λ (n : ℕ). n ∷ rest) (same_head byte 91 behind more e))) tail.1 in
    true≢false (sym none.1.0 ∙ stop)
no_steps (first ∷ blanks) rest behind byte blank stop no_field no_index tail =
    let text : List ℕ = blanks ++ byte ∷ behind in
    let other : List ℕ = blanks ++ byte ∷ rest in
    let none = no_hop_first (first ∷ text) tail.0
    (λ more e. no_field other (ap (λ (n : ℕ). n ∷ other) (same_head first 46 text more e)))
    (λ more e. no_index other (ap (λ (n : ℕ). n ∷ other) (same_head first 91 text more e)))
    tail.1 in
    true≢false (sym (last_blank (first ∷ blanks) byte behind none.1) ∙ stop)

pub end_breaks : (rest left : List ℕ) → Skips is_blank rest left → left ≢ [] → ((more : List ℕ) → rest ≢ 46 ∷ more)
    → ((more : List ℕ) → rest ≢ 91 ∷ more) → BreaksBefore IsTail rest left
end_breaks rest [] skips some no_field no_index = absurd (some refl)
end_breaks rest (byte ∷ left) skips some no_field no_index =
    let blanks = skips.0 in
    let none = λ (behind : List ℕ). no_steps blanks left behind byte skips.2 skips.3
    (λ more e. no_field more (skips.1 ∙ e)) (λ more e. no_index more (skips.1 ∙ e)) in (
      blanks,
      skips.1,
      record {
        outside = none left;
        more = [];
        begins = ([], subst AreBlanks (sym (append-nil blanks)) skips.2);
        next = λ other behind more e.
            subst (λ (n : ℕ). ¬ IsTail (blanks ++ n ∷ more)) (same_head byte other left behind e) (none more);
      },
    )

-- What got stuck ------------------------------------------------------------------------------------------------------

pub break_behind : (sign : ℕ) (text rest left : List ℕ) → text ≡ sign ∷ rest
    → BreaksBefore (λ behind. IsTail (sign ∷ behind)) rest left → BreaksBefore IsTail text left
break_behind sign text rest left e is = (
  sign ∷ is.0,
  e ∙ ap (λ (l : List ℕ). sign ∷ l) is.1,
  record { outside = is.2.outside; more = is.2.more; begins = is.2.begins; next = is.2.next },
)

pub stuck_behind : (sign : ℕ) (text rest : List ℕ) (stuck : Stuck) → text ≡ sign ∷ rest
    → IsStuck (λ behind. IsTail (sign ∷ behind)) rest stuck → IsStuck IsTail text stuck
stuck_behind sign text rest NoMemory e is = tt
stuck_behind sign text rest (Before left) e is = break_behind sign text rest left.now e is

pub stuck_later : (text read rest : List ℕ) (found : List Hop) (stuck : Stuck) → Reads text read rest found
    → IsStuck IsTail rest stuck → IsStuck IsTail text stuck
stuck_later text read rest found NoMemory so_far is = tt
stuck_later text read rest found (Before left) so_far is = breaks_behind text read rest left.now found so_far is

-- an error is handed on, by `?` or by `map`
pub handed_on : {A : Type 0} (result : Result A Stuck) (stuck : Stuck) (Says : Stuck → Type 0)
    → IsErrAnd result (λ other. other ≡ stuck) → Says stuck → IfErr result Says
handed_on (Ok value) stuck Says same is = tt
handed_on (Err other) stuck Says same is = subst Says (sym same) is

pub mapped : {A B : Type 0} (before : Result A Stuck) (after : Result B Stuck) (Becomes : A → B → Type 0)
    (Says Tells : Stuck → Type 0) → MatchResult before (λ x. IsOkAnd after (Becomes x)) (λ stuck. after ≡ Err stuck)
    → IfErr before Says → ((stuck : Stuck) → Says stuck → Tells stuck) → IfErr after Tells
mapped (Ok x) (Ok y) Becomes Says Tells cases is tells = tt
mapped (Ok x) (Err stuck) Becomes Says Tells cases is tells = absurd cases
mapped (Err stuck) after Becomes Says Tells cases is tells =
    subst (λ r. IfErr r Tells) (sym cases) (tells stuck is)

-- One more look for a hop: it was read, or none begins there.
pub hop_looked_for : (text rest : List ℕ) (old new : List Hop) (found : Option (Bor (List ℕ))) (at : Bor (List ℕ))
    → (read : List ℕ) × Reads text read rest old → IsHopRead old new rest found → found ≡ Some at
    → (longer : List ℕ) × Reads text longer at.now new
hop_looked_for text rest old new None at so_far looked is = absurd cc
hop_looked_for text rest old new (Some next) at so_far looked is =
    let same : next ≡ at = cc in
    let longer = hop_read text so_far.0 rest next.now old looked.0 so_far.1 looked.1 in (
      longer.0,
      subst (λ (hops : List Hop). Reads text longer.0 at.now hops) (sym looked.2)
          (subst (λ (b : Bor (List ℕ)). Reads text longer.0 b.now (old ++ looked.0 ∷ [])) same longer.1),
    )

-- where none begins, the text ends or breaks
pub steps_end : (text rest left : List ℕ) (old new : List Hop) (found : Option (Bor (List ℕ)))
    → (read : List ℕ) × Reads text read rest old → IsHopRead old new rest found → found ≡ None
    → Skips is_blank rest left → MatchBool (length left == 0) (AreSteps text new) (BreaksBefore IsTail text left)
steps_end text rest left old new (Some next) so_far looked is skips = absurd cc
steps_end text rest [] old new None so_far looked is skips =
    subst (AreSteps text) (sym looked.0) (all_read text so_far.0 rest [] old so_far.1 skips refl)
steps_end text rest (byte ∷ left) old new None so_far looked is skips =
    subst (λ (b : Bool). MatchBool b (AreSteps text new) (BreaksBefore IsTail text (byte ∷ left)))
    (sym (ne_eqb (suc (length left)) 0 (λ e. omega arith)))
    (breaks_behind text so_far.0 rest (byte ∷ left) old so_far.1
    (end_breaks rest (byte ∷ left) skips (λ e. absurd cc) looked.1 looked.2))
