-- What look-ups of one question behind the other come to, caught: errors are handed on.
use Rattle.std.proofs.Common.{◌≡◌}
use Rattle.field_exprs.specs.declared.expr.Expr.{Expr}
use Rattle.jdwp_values.specs.declared.value.Value.{Value}
use Rattle.machine_model.specs.Caught.{caught, handed_on}
use Rattle.machine_model.specs.Expressions.{named_in}
use Rattle.machine_model.specs.Judging.{shown_text}
use Rattle.machine_model.specs.Plans.{Sight, need}
use Rattle.machine_model.proofs.CaughtLaws.{caught_need, names_by_chain}
use Rattle.machine_model.proofs.JudgingLaws.{shown_by_chain}
use Rattle.stop_refs.specs.declared.thing.FrameThing.{FrameThing}

-- what an expression names
pub names_caught : (sight : Sight) (frame : FrameThing) (e : Expr)
    → need sight (caught (named_in frame e)) ≡ handed_on (need sight (named_in frame e))
names_caught sight frame e = caught_need sight (named_in frame e) (names_by_chain frame e)

-- the text of a value
pub text_caught : (sight : Sight) (value other : Value)
    → need sight (caught (shown_text value other)) ≡ handed_on (need sight (shown_text value other))
text_caught sight value other = caught_need sight (shown_text value other) (shown_by_chain value other)
