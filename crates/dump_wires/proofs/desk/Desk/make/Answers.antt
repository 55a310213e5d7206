use Rattle.dump_wires.proofs.desk.Desk.make.Goals as goal

pub returns-clause-possible : goal.returns-clause-possible
returns-clause-possible c = c.in_ok-happening.ensures.possible c.args.self.now.journal.links c.requires.is_open
