use Rattle.std.proofs.Common.{◌≡◌, ◌++◌, flat_map, string_bytes}
use Rattle.value_views.specs.Quotes.{quoted_char}
use Rattle.value_views.proofs.quotes.push_chars.Given as goal

-- the characters so far are shown
abbrev pub invariant-loop-char : goal.invariant-loop-char
invariant-loop-char l = string_bytes l.shown ≡ string_bytes l.initial.shown ++ flat_map quoted_char l.yielded
