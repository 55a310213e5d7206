use Rattle.std.proofs.Common.{sym, inl, inr}
use Rattle.dump_wires.proofs.desk.Desk.turn.Goals as goal

pub returns-in-Ok-Some-clause-turns : goal.returns-in-Ok-Some-clause-turns
returns-in-Ok-Some-clause-turns c = elim c.give.ensures.gives [
  | inl comes ↦ inl (_, sym (rw c.in-Ok-Some.field-0-is at c.in-Ok-Some.ensures), comes)
  | inr refuses ↦ inr refuses
]

pub returns-in-Err-clause-hears : goal.returns-in-Err-clause-hears
returns-in-Err-clause-hears c = c.lose_client.ensures.hears c.args.buffer.now
