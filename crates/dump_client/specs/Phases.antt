-- Where a conversation stands, by the request that is due.
use Rattle.std.specs.Prelude.{Bool, true, false}
use Rattle.dump_client.specs.declared.due.Due.{Due}
use Rattle.dump_client.specs.declared.due.Due.TheVariants as due

-- stacks and values are asked for, of a target that stands still
abbrev pub is_reading : Due → Bool
is_reading (due.StackTrace thread) = true
is_reading (due.Scopes frame) = true
is_reading (due.Variables reference) = true
is_reading _ = false

-- a target is asked to stand still
abbrev pub is_pausing : Due → Bool
is_pausing (due.Pause thread) = true
is_pausing _ = false

-- a target is let go on
abbrev pub is_continuing : Due → Bool
is_continuing (due.Continue thread) = true
is_continuing _ = false
