use Rattle.std.proofs.Common.{◌≡◌, ◌++◌, string_bytes}
use Rattle.value_views.specs.Names.{brackets}
use Rattle.value_views.proofs.names.class_name.Given as goal

-- the pairs so far stand behind the name of the innermost elements
abbrev pub invariant-loop-dimension : goal.invariant-loop-dimension
invariant-loop-dimension l = string_bytes l.text ≡ string_bytes l.initial.text ++ brackets l._dimension
