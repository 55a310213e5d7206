-- The words of questions, under the names that the definitions of a tap use.
pub use Rattle.jdwp_commands.specs.declared.asked.Asked.TheVariants.{Question as a_question}
pub use Rattle.tap_model.specs.declared.ask.Ask.{Ask}
pub use Rattle.tap_model.specs.declared.ask.Reached.TheVariants.{Never}
