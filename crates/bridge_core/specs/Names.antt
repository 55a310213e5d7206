-- The words of the machine and of commands, under the names that the definitions and lemmas use.
pub use Rattle.dap_messages.specs.declared.requests.Request.{Request}
pub use Rattle.jdwp_commands.specs.declared.asked.Asked.{Asked}
pub use Rattle.jdwp_commands.specs.declared.asked.Replied.{Replied}
pub use Rattle.jdwp_commands.specs.declared.effect.Effect.{Effect as WireEffect}
pub use Rattle.jdwp_commands.specs.declared.question.Question.{Question}
pub use Rattle.machine_model.specs.declared.acts.Act.{Act}
pub use Rattle.machine_model.specs.declared.acts.Doing.{Doing}
pub use Rattle.machine_model.specs.declared.acts.Effect.{Effect}
pub use Rattle.machine_model.specs.declared.acts.Effect.TheVariants.{Clear, Does, Set}
pub use Rattle.machine_model.specs.declared.acts.Sent.{Sent}
pub use Rattle.machine_model.specs.declared.acts.TargetCommand.{TargetCommand}
pub use Rattle.machine_model.specs.declared.acts.TargetCommand.TheVariants.{Effect as an_effect, Question as a_question}
pub use Rattle.machine_model.specs.declared.acts.Want.{Want}
pub use Rattle.machine_model.specs.declared.items.Item.{Item}
pub use Rattle.machine_model.specs.declared.items.Item.TheVariants.{Composite as a_composite, Raw as a_raw}
pub use Rattle.machine_model.specs.declared.items.Item.TheVariants.{Request as a_request}
