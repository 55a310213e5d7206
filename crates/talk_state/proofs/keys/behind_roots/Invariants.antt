use Rattle.std.proofs.Common.{◌≡◌, drop}
use Rattle.machine_model.specs.Breakpoints.{behind_roots}
use Rattle.talk_state.proofs.keys.behind_roots.Given as goal

abbrev pub invariant-loop-root : goal.invariant-loop-root
invariant-loop-root l = behind_roots (drop l.root-index l.roots) l.path ≡ behind_roots l.roots l.path
