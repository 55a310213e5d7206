use Rattle.std.proofs.Common.{◌≡◌, map, string_bytes}
use Rattle.std.specs.Str.{encode_utf8_all}
use Rattle.machine_model.specs.Breakpoints.{slash_for}
use Rattle.talk_state.proofs.keys.slashed.Given as goal

abbrev pub invariant-loop-char : goal.invariant-loop-char
invariant-loop-char l = string_bytes l.text ≡ encode_utf8_all (map slash_for l.yielded)
