-- Worked examples of what texts are read as, checked by computation.
use Rattle.std.proofs.Common.{◌≡◌, ℕ, List, [], ◌∷◌, Ok, Err, refl}
use Rattle.std.specs.Prelude.{codes, replicate, Result}
use Rattle.field_exprs.specs.declared.expr.Expr.{Expr}
use Rattle.field_exprs.specs.declared.expr.Head.{Head}
use Rattle.field_exprs.specs.declared.expr.Head.TheVariants.{This, Name}
use Rattle.field_exprs.specs.declared.expr.Hop.{Hop}
use Rattle.field_exprs.specs.declared.expr.Hop.TheVariants.{Field, Index}
use Rattle.field_exprs.specs.Parsing.{parsed, steps_at}

-- an expression, by its parts
abbrev of : Head → List Hop → Result Expr ℕ
of head steps = Ok (record { head = head; steps = steps })

-- Expressions ---------------------------------------------------------------------------------------------------------

hops_of_both_kinds : parsed (codes "a.b[3].c")
    ≡ of (Name (codes "a")) (Field (codes "b") ∷ Index 3 ∷ Field (codes "c") ∷ [])
unfolding parsed steps_at
hops_of_both_kinds = refl

blanks_around_this : parsed (codes " this ") ≡ of This []
unfolding parsed steps_at
blanks_around_this = refl

a_field_of_this : parsed (codes "this.x") ≡ of This (Field (codes "x") ∷ [])
unfolding parsed steps_at
a_field_of_this = refl

-- a name may begin with `this`
longer_than_this : parsed (codes "thisX") ≡ of (Name (codes "thisX")) []
unfolding parsed steps_at
longer_than_this = refl

zeros_at_the_front : parsed (codes "x[0000000012] ") ≡ of (Name (codes "x")) (Index 12 ∷ [])
unfolding parsed steps_at
zeros_at_the_front = refl

greatest_index : parsed (codes "a[2147483647]") ≡ of (Name (codes "a")) (Index 2147483647 ∷ [])
unfolding parsed steps_at
greatest_index = refl

-- Other texts ---------------------------------------------------------------------------------------------------------

nothing : parsed [] ≡ Err 0
unfolding parsed steps_at
nothing = refl

a_digit_first : parsed (codes "7") ≡ Err 0
unfolding parsed steps_at
a_digit_first = refl

no_index : parsed (codes "a[") ≡ Err 2
unfolding parsed steps_at
no_index = refl

no_field : parsed (codes "a.") ≡ Err 2
unfolding parsed steps_at
no_field = refl

-- `a.thiss` goes on behind all six bytes
this_is_no_field : parsed (codes "a.this") ≡ Err 6
unfolding parsed steps_at
this_is_no_field = refl

a_blank_inside : parsed (codes "a .b") ≡ Err 2
unfolding parsed steps_at
a_blank_inside = refl

-- `a[214748364]` goes on behind eleven bytes
above_the_greatest_index : parsed (codes "a[2147483648]") ≡ Err 11
unfolding parsed steps_at
above_the_greatest_index = refl

eleven_digits : parsed (codes "a[00000000012]") ≡ Err 12
unfolding parsed steps_at
eleven_digits = refl

not_closed : parsed (codes "a[1") ≡ Err 3
unfolding parsed steps_at
not_closed = refl

-- Long texts ----------------------------------------------------------------------------------------------------------

longest : parsed (replicate 4096 97) ≡ of (Name (replicate 4096 97)) []
unfolding parsed steps_at
longest = refl

-- one byte more is refused behind the 4,096th
too_long : parsed (replicate 4097 97) ≡ Err 4096
unfolding parsed steps_at
too_long = refl
