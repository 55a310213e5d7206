-- The words of endings and of logs, under the names that the definitions use.
pub use Rattle.session_endings.specs.declared.ending.ClientFault.TheVariants.{Frame as misframed, NotAMessage, NotJson}
pub use Rattle.session_endings.specs.declared.ending.Ending.{Ending}
pub use Rattle.session_endings.specs.declared.ending.Ending.TheVariants.{BadClient, BadTarget, ClientLink, Done, Flood}
pub use Rattle.session_endings.specs.declared.ending.Ending.TheVariants.{Idle, Left, NoMemory, Spent, TargetLink}
pub use Rattle.session_endings.specs.declared.ending.Ending.TheVariants.{TargetRefused}
pub use Rattle.session_endings.specs.declared.ending.Limits.{Limits}
pub use Rattle.session_endings.specs.declared.ending.TargetFault.TheVariants.{Packet as mispacked}
pub use Rattle.wire_core.specs.declared.outside.Entry.{Entry}
pub use Rattle.wire_core.specs.declared.outside.Entry.TheVariants.{Failed, In, Out, Quiet, Shut}
pub use Rattle.wire_core.specs.declared.outside.Side.{Side}
pub use Rattle.wire_core.specs.declared.outside.Side.TheVariants.{Client, Target}
