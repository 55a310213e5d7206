use Rattle.std.proofs.Common.{◌≡◌, drop}
use Rattle.machine_model.specs.Frames.{path_listed}
use Rattle.session_facts.proofs.paths.Paths.listed.Given as goal

abbrev pub invariant-loop-key : goal.invariant-loop-key
invariant-loop-key l =
    path_listed (record { package_path = l.folder; file = l.file }) (drop l.key-index l.self)
    ≡ path_listed (record { package_path = l.folder; file = l.file }) l.self
