-- The words of the machine, of endings and of logs, under the names that the definitions use.
pub use Rattle.dap_messages.specs.declared.requests.Command.{Command}
pub use Rattle.dap_messages.specs.declared.requests.Request.{Request}
pub use Rattle.dap_messages.specs.declared.told.Told.{Told}
pub use Rattle.dap_messages.specs.declared.told.Told.TheVariants.{Event as an_event, Response as a_response}
pub use Rattle.jdwp_commands.specs.declared.answer.Answer.{Answer}
pub use Rattle.jdwp_commands.specs.declared.asked.Replied.{Replied}
pub use Rattle.jdwp_commands.specs.declared.asked.Replied.TheVariants.{Answer as an_answer, Error as an_error}
pub use Rattle.jdwp_commands.specs.declared.question.Question.{Question}
pub use Rattle.jdwp_events.specs.declared.composite.Composite.{Composite}
pub use Rattle.machine_model.specs.declared.acts.Act.{Act}
pub use Rattle.machine_model.specs.declared.acts.Effect.{Effect}
pub use Rattle.machine_model.specs.declared.acts.Effect.TheVariants.{Clear, Does, Set}
pub use Rattle.machine_model.specs.declared.acts.TargetCommand.{TargetCommand}
pub use Rattle.machine_model.specs.declared.acts.TargetCommand.TheVariants.{Effect as an_effect, Question as a_question}
pub use Rattle.machine_model.specs.declared.acts.Want.{Want}
pub use Rattle.machine_model.specs.declared.items.Item.{Item}
pub use Rattle.machine_model.specs.declared.items.Item.TheVariants.{Composite as a_composite, Raw as a_raw}
pub use Rattle.machine_model.specs.declared.items.Item.TheVariants.{Request as a_request, TargetEnd as target_end}
pub use Rattle.machine_model.specs.declared.items.Phase.{Phase}
pub use Rattle.machine_model.specs.declared.items.Phase.TheVariants.{Attached, Fresh, Gone}
pub use Rattle.machine_model.specs.declared.parts.Body.TheVariants.{Nothing}
pub use Rattle.machine_model.specs.declared.parts.Choice.{Choice}
pub use Rattle.machine_model.specs.declared.parts.Choice.TheVariants.{Decides, Judges, Leaves, Stepped, TellsNews, Written}
pub use Rattle.machine_model.specs.declared.parts.Deed.{Deed}
pub use Rattle.machine_model.specs.declared.parts.Deed.TheVariants.{Dispose, Exit, Resume, Suspend, Writes}
pub use Rattle.machine_model.specs.declared.parts.Event.{Event}
pub use Rattle.machine_model.specs.declared.parts.Finding.{Finding}
pub use Rattle.machine_model.specs.declared.parts.Finish.{Finish}
pub use Rattle.machine_model.specs.declared.parts.Finish.TheVariants.{Done as finish_done, OneThread as finish_one_thread}
pub use Rattle.machine_model.specs.declared.parts.Lookup.{Lookup}
pub use Rattle.machine_model.specs.declared.parts.Outcome.{Outcome}
pub use Rattle.machine_model.specs.declared.parts.Outcome.TheVariants.{Success}
pub use Rattle.machine_model.specs.declared.parts.Part.{Part}
pub use Rattle.session_endings.specs.declared.ending.ClientFault.{ClientFault}
pub use Rattle.session_endings.specs.declared.ending.ClientFault.TheVariants.{Frame as misframed, NotAMessage, NotJson}
pub use Rattle.session_endings.specs.declared.ending.Ending.{Ending}
pub use Rattle.session_endings.specs.declared.ending.Ending.TheVariants.{BadClient, BadTarget, ClientLink, Done, Flood}
pub use Rattle.session_endings.specs.declared.ending.Ending.TheVariants.{Idle, Left, NoMemory, Spent, TargetLink}
pub use Rattle.session_endings.specs.declared.ending.Ending.TheVariants.{TargetRefused}
pub use Rattle.session_endings.specs.declared.ending.Limits.{Limits}
pub use Rattle.session_endings.specs.declared.ending.TargetFault.{TargetFault}
pub use Rattle.session_endings.specs.declared.ending.TargetFault.TheVariants.{BadCommand, BadCount, BadKind, BadPolicy}
pub use Rattle.session_endings.specs.declared.ending.TargetFault.TheVariants.{BadSizes, BadTag, Packet as mispacked}
pub use Rattle.session_endings.specs.declared.ending.TargetFault.TheVariants.{PolicyThread, Short, Trailing}
pub use Rattle.session_endings.specs.declared.ending.TargetFault.TheVariants.{UnknownReply}
pub use Rattle.wire_core.specs.declared.outside.Entry.{Entry}
pub use Rattle.wire_core.specs.declared.outside.Entry.TheVariants.{Failed, In, Out, Quiet, Shut}
pub use Rattle.wire_core.specs.declared.outside.Side.{Side}
pub use Rattle.wire_core.specs.declared.outside.Side.TheVariants.{Client, Target}
