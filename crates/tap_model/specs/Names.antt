-- The words of commands, endings and logs, under the names that the definitions use.
pub use Rattle.jdwp_commands.specs.declared.answer.Answer.{Answer}
pub use Rattle.jdwp_commands.specs.declared.asked.Asked.TheVariants.{Question as a_question}
pub use Rattle.jdwp_commands.specs.declared.fault.BodyFault.{BodyFault}
pub use Rattle.jdwp_commands.specs.declared.question.Question.{Question}
pub use Rattle.jdwp_packets.specs.declared.fault.PacketFault.{PacketFault}
pub use Rattle.jdwp_values.specs.declared.sizes.IdSizes.{IdSizes}
pub use Rattle.session_endings.specs.declared.ending.Limits.{Limits}
pub use Rattle.session_endings.specs.declared.ending.TargetFault.{TargetFault}
pub use Rattle.session_endings.specs.declared.ending.TargetFault.TheVariants.{BadSizes, Packet as mispacked}
pub use Rattle.session_endings.specs.declared.ending.TargetFault.TheVariants.{UnknownReply}
pub use Rattle.tap_model.specs.declared.ask.Ask.{Ask}
pub use Rattle.tap_model.specs.declared.ask.Reached.{Reached}
pub use Rattle.tap_model.specs.declared.ask.Reached.TheVariants.{Answer as an_answer, Error as an_error, Never, Unfit}
pub use Rattle.tap_model.specs.declared.command.DebuggerCommand.{DebuggerCommand}
pub use Rattle.tap_model.specs.declared.ending.TapEnding.{TapEnding}
pub use Rattle.tap_model.specs.declared.ending.TapEnding.TheVariants.{BadClient, BadTarget, ClientLink, Done, Flood}
pub use Rattle.tap_model.specs.declared.ending.TapEnding.TheVariants.{Idle, Left, NoMemory, Spent, TargetGone}
pub use Rattle.tap_model.specs.declared.ending.TapEnding.TheVariants.{TargetLink, TargetRefused}
pub use Rattle.tap_model.specs.declared.ending.TapFault.{TapFault}
pub use Rattle.tap_model.specs.declared.ending.TapFault.TheVariants.{NotACommand, Packet as misframed}
pub use Rattle.tap_model.specs.declared.owner.Owner.{Owner}
pub use Rattle.tap_model.specs.declared.owner.Owner.TheVariants.{Debugger, Question as of_question, Sizes}
pub use Rattle.wire_core.specs.declared.outside.Entry.{Entry}
pub use Rattle.wire_core.specs.declared.outside.Entry.TheVariants.{Failed, In, Out, Quiet, Shut}
pub use Rattle.wire_core.specs.declared.outside.Side.{Side}
pub use Rattle.wire_core.specs.declared.outside.Side.TheVariants.{Client, Target}
