use Rattle.std.proofs.Common.{◌≡◌, ◌++◌, drop, map}
use Rattle.std.specs.List.{flat_map}
use Rattle.machine_model.specs.Rest.{request_in}
use Rattle.session_model.specs.LastWords.{fails_gone}
use Rattle.bridge_core.proofs.words.fail_waiting.Given as goal

-- what was said, and what is left to say, is all that is said
abbrev pub invariant-loop-place : goal.invariant-loop-place
invariant-loop-place l =
    l.words ++ map fails_gone (flat_map request_in (drop l.place l.waiting.items))
    ≡ l.initial.words ++ map fails_gone (flat_map request_in l.waiting.items)
