use Rattle.std.proofs.Common.{List, drop, ap, sym, ◌∙◌}
use Rattle.std.proofs.lemmas.List.{drop-drop}
use Rattle.world_model.specs.declared.moves.Move.{Move}
use Rattle.target_server.proofs.program.Program.pass.Goals as goal

pub returns-then-self-len : goal.returns-then-self-len
returns-then-self-len c =
    sym (drop-drop 1 c.self.inside.made c.self.inside.moves) ∙ ap (λ (l : List Move). drop 1 l) c.self.view_is
