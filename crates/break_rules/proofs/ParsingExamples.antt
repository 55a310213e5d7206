-- Worked examples of what texts are read as, checked by computation.
use Rattle.std.proofs.Common.{◌≡◌, ℕ, pos, negsuc, List, [], ◌∷◌, true, Option, Some, None, refl}
use Rattle.std.specs.Prelude.{codes}
use Rattle.field_exprs.specs.declared.expr.Expr.{Expr}
use Rattle.field_exprs.specs.declared.expr.Head.TheVariants.{Name, This}
use Rattle.field_exprs.specs.declared.expr.Hop.TheVariants.{Field}
use Rattle.field_exprs.specs.Parsing.{parsed, steps_at}
use Rattle.break_rules.specs.declared.rule.Comparison.{Comparison}
use Rattle.break_rules.specs.declared.rule.Comparison.TheVariants.{Equal, GreaterEqual, LessEqual, Unequal}
use Rattle.break_rules.specs.declared.rule.Condition.{Condition}
use Rattle.break_rules.specs.declared.rule.Hit.{Hit}
use Rattle.break_rules.specs.declared.rule.HitRule.{HitRule}
use Rattle.break_rules.specs.declared.rule.HitRule.TheVariants as counts
use Rattle.break_rules.specs.declared.rule.Part.{Part}
use Rattle.break_rules.specs.declared.rule.Part.TheVariants as parts
use Rattle.break_rules.specs.declared.rule.Piece.TheVariants as pieces
use Rattle.break_rules.specs.Parsing.{condition_of, hit_of, pieces_at, template_of}

abbrev named : List ℕ → Expr
named name = record { head = Name name; steps = [] }

abbrev two : Part → Comparison → Part → Option Condition
two left comparison right = Some (record { left = left; rest = Some (comparison, right) })

abbrev one : Part → Option Condition
one left = Some (record { left = left; rest = None })

-- Conditions ----------------------------------------------------------------------------------------------------------

n_is_5 : condition_of (codes "n == 5") ≡ two (parts.Path (named (codes "n"))) Equal (parts.Number (pos 5))
unfolding condition_of parsed steps_at
n_is_5 = refl

no_blanks : condition_of (codes "i>=-3") ≡ two (parts.Path (named (codes "i"))) GreaterEqual (parts.Number (negsuc 2))
unfolding condition_of parsed steps_at
no_blanks = refl

a_path_alone : condition_of (codes " this.done ")
    ≡ one (parts.Path (record { head = This; steps = Field (codes "done") ∷ [] }))
unfolding condition_of parsed steps_at
a_path_alone = refl

not_null : condition_of (codes "next != null") ≡ two (parts.Path (named (codes "next"))) Unequal parts.Null
unfolding condition_of parsed steps_at
not_null = refl

a_truth : condition_of (codes "true") ≡ one (parts.Truth true)
unfolding condition_of parsed steps_at
a_truth = refl

-- behind a dot the word is a name's part
a_field_of_true : condition_of (codes "true.x")
    ≡ one (parts.Path (record { head = Name (codes "true"); steps = Field (codes "x") ∷ [] }))
unfolding condition_of parsed steps_at
a_field_of_true = refl

one_side_is_missing : condition_of (codes "n >") ≡ None
unfolding condition_of parsed steps_at
one_side_is_missing = refl

one_sign_is_half : condition_of (codes "n = 5") ≡ None
unfolding condition_of parsed steps_at
one_sign_is_half = refl

no_call : condition_of (codes "n.size() > 3") ≡ None
unfolding condition_of parsed steps_at
no_call = refl

no_third_side : condition_of (codes "1 < n < 3") ≡ None
unfolding condition_of parsed steps_at
no_third_side = refl

only_blanks : condition_of (codes "  ") ≡ None
unfolding condition_of parsed steps_at
only_blanks = refl

least_number : condition_of (codes "n <= -9223372036854775808")
    ≡ two (parts.Path (named (codes "n"))) LessEqual (parts.Number (negsuc 9223372036854775807))
unfolding condition_of parsed steps_at
least_number = refl

too_great : condition_of (codes "n <= 9223372036854775808") ≡ None
unfolding condition_of parsed steps_at
too_great = refl

-- Hit conditions ------------------------------------------------------------------------------------------------------

abbrev counting : HitRule → ℕ → Option Hit
counting rule count = Some (record { rule = rule; count = count })

each_second : hit_of (codes "% 2") ≡ counting counts.Multiple 2
unfolding hit_of
each_second = refl

a_number_alone : hit_of (codes "10") ≡ counting counts.Equal 10
unfolding hit_of
a_number_alone = refl

from_three_on : hit_of (codes " >= 3 ") ≡ counting counts.AtLeast 3
unfolding hit_of
from_three_on = refl

behind_three : hit_of (codes ">3") ≡ counting counts.Above 3
unfolding hit_of
behind_three = refl

never : hit_of (codes "0") ≡ None
unfolding hit_of
never = refl

half_a_sign : hit_of (codes "= 3") ≡ None
unfolding hit_of
half_a_sign = refl

apart : hit_of (codes "> = 3") ≡ None
unfolding hit_of
apart = refl

greatest : hit_of (codes "2147483647") ≡ counting counts.Equal 2147483647
unfolding hit_of
greatest = refl

above_the_greatest : hit_of (codes "2147483648") ≡ None
unfolding hit_of
above_the_greatest = refl

eleven_digits : hit_of (codes "00000000005") ≡ None
unfolding hit_of
eleven_digits = refl

-- Log messages --------------------------------------------------------------------------------------------------------

of_n_and_b : template_of (codes "n is {n}, {b}")
    ≡ Some (record {
      pieces = pieces.Plain (codes "n is ") ∷ pieces.Path (named (codes "n")) ∷ pieces.Plain (codes ", ")
          ∷ pieces.Path (named (codes "b")) ∷ [];
    })
unfolding template_of pieces_at parsed steps_at
of_n_and_b = refl

an_open_brace : template_of (codes "{") ≡ None
unfolding template_of pieces_at parsed steps_at
an_open_brace = refl

a_closed_brace : template_of (codes "}") ≡ Some (record { pieces = pieces.Plain (codes "}") ∷ [] })
unfolding template_of pieces_at parsed steps_at
a_closed_brace = refl

nothing_in_braces : template_of (codes "a {} b") ≡ None
unfolding template_of pieces_at parsed steps_at
nothing_in_braces = refl
