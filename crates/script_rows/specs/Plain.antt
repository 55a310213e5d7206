-- Rows in which no number is a float: all but a request whose arguments have one.
use Rattle.std.specs.Prelude.{◌≡◌, false}
use Rattle.serde_json.specs.Written.{has_float}
use Rattle.script_rows.specs.declared.rows.Row.{Row}
use Rattle.script_rows.specs.declared.rows.Row.TheVariants as rows
use Rattle.script_rows.specs.declared.script.Turn.{Turn}
use Rattle.script_rows.specs.declared.script.Turn.TheVariants as turns

abbrev pub IsPlainTurn : Turn → Type 0
IsPlainTurn (turns.Ask command arguments) = has_float arguments ≡ false
IsPlainTurn (turns.Client n) = Unit {0}
IsPlainTurn (turns.Target n) = Unit {0}
IsPlainTurn (turns.Serve n) = Unit {0}
IsPlainTurn turns.Move = Unit {0}
IsPlainTurn turns.Settle = Unit {0}
IsPlainTurn turns.Deliver = Unit {0}
IsPlainTurn (turns.Shut s) = Unit {0}

abbrev pub IsPlain : Row → Type 0
IsPlain (rows.Head told) = Unit {0}
IsPlain (rows.Sizes sizes) = Unit {0}
IsPlain (rows.Limits turns quiet waiting) = Unit {0}
IsPlain (rows.Class c) = Unit {0}
IsPlain (rows.Method m) = Unit {0}
IsPlain (rows.Variable v) = Unit {0}
IsPlain (rows.Field f) = Unit {0}
IsPlain (rows.Object o) = Unit {0}
IsPlain (rows.Array a) = Unit {0}
IsPlain (rows.Text s) = Unit {0}
IsPlain (rows.Put p) = Unit {0}
IsPlain (rows.Thread t) = Unit {0}
IsPlain (rows.Frame f) = Unit {0}
IsPlain (rows.Begin b) = Unit {0}
IsPlain (rows.Move m) = Unit {0}
IsPlain (rows.Turn t) = IsPlainTurn t
IsPlain rows.End = Unit {0}
