-- What stands behind a row's parts: nothing, or too much.
use Rattle.std.proofs.Common.{◌≡◌, true, false, Some, None, Result, Ok, Err, refl}
use Rattle.serde_json.specs.Data.{Items, no_items, item}
use Rattle.script_rows.specs.declared.rows.Row.{Row}
use Rattle.line_elements.specs.Parts.{is_end}
use Rattle.script_rows.specs.Rows.{whole}

pub whole_at_end : (row : Row) (items : Items) → is_end items ≡ true → whole row items ≡ Some row
whole_at_end row no_items e = refl
whole_at_end row (item d ds) e = absurd cc

pub whole_before_end : (row : Row) (items : Items) → is_end items ≡ false → whole row items ≡ None
whole_before_end row no_items e = absurd cc
whole_before_end row (item d ds) e = refl
