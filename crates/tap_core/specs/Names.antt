-- The words of the code, under the names that the definitions use.
pub use Rattle.jdwp_commands.specs.declared.answer.Answer.{Answer}
pub use Rattle.jdwp_commands.specs.declared.asked.Asked.TheVariants.{Question as a_question}
pub use Rattle.jdwp_commands.specs.declared.fault.BodyFault.{BodyFault}
pub use Rattle.jdwp_packets.specs.declared.cutter.Packet.{Packet as Shown}
pub use Rattle.jdwp_packets.specs.declared.cutter.Packet.TheVariants.{Command as a_command, Reply as a_reply}
pub use Rattle.jdwp_values.specs.declared.sizes.IdSizes.{IdSizes}
pub use Rattle.session_endings.specs.declared.ending.Ending.{Ending}
pub use Rattle.session_endings.specs.declared.ending.Ending.TheVariants.{BadTarget as bad_target}
pub use Rattle.session_endings.specs.declared.ending.TargetFault.{TargetFault}
pub use Rattle.session_endings.specs.declared.ending.TargetFault.TheVariants.{BadSizes, UnknownReply}
pub use Rattle.tap_core.specs.declared.deciding.Next.{Next}
pub use Rattle.tap_core.specs.declared.deciding.Next.TheVariants.{AskNext, AskSizes, Floods, Greet, HandOn, PassOn}
pub use Rattle.tap_core.specs.declared.deciding.Next.TheVariants.{Rests}
pub use Rattle.tap_core.specs.declared.saying.Out.{Out as AnOut}
pub use Rattle.tap_model.specs.declared.ask.Ask.{Ask}
pub use Rattle.tap_model.specs.declared.ask.Reached.TheVariants.{Answer as an_answer, Never}
pub use Rattle.tap_model.specs.declared.command.DebuggerCommand.{DebuggerCommand}
pub use Rattle.tap_model.specs.declared.ending.TapEnding.{TapEnding}
pub use Rattle.tap_model.specs.declared.ending.TapEnding.TheVariants.{BadClient, BadTarget, Flood, NoMemory}
pub use Rattle.tap_model.specs.declared.ending.TapEnding.TheVariants.{TargetRefused}
pub use Rattle.tap_model.specs.declared.owner.Owner.{Owner}
pub use Rattle.tap_model.specs.declared.owner.Owner.TheVariants.{Debugger, Question as of_question, Sizes}
pub use Rattle.wire_core.specs.declared.outside.Side.TheVariants.{Client, Target}
