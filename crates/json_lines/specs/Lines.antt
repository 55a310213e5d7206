-- A value whose compact text is one line, of which it is read.
use Rattle.std.specs.Prelude.{◌≡◌, ◌≢◌, Some, true}
use Rattle.std.specs.List.{AllByRecursion}
use Rattle.std.specs.Str.{is_utf8}
use Rattle.serde_json.specs.Data.{Data}
use Rattle.serde_json.specs.Read.{read}
use Rattle.serde_json.specs.Written.{compact_text}

pub record IsLine (d : Data) : Type 0 where
  pub utf8 : is_utf8 (compact_text d) ≡ true
  pub no_feed : AllByRecursion (λ byte. byte ≢ 10) (compact_text d)
  pub is_read : read (compact_text d) ≡ Some d
