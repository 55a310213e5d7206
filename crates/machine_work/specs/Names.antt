-- The words of the machine, under the names that the definitions and lemmas use.
pub use Rattle.dap_messages.specs.declared.requests.Command.{Command}
pub use Rattle.dap_messages.specs.declared.requests.Command.TheVariants.{Attach, BadArguments, ConfigurationDone}
pub use Rattle.dap_messages.specs.declared.requests.Command.TheVariants.{Continue, Disconnect, Initialize, Pause}
pub use Rattle.dap_messages.specs.declared.requests.Command.TheVariants.{Scopes, SetBreakpoints, StackTrace, Threads, Unsupported}
pub use Rattle.dap_messages.specs.declared.requests.Command.TheVariants.{ExceptionInfo, Next, SetExceptionBreakpoints}
pub use Rattle.dap_messages.specs.declared.requests.Command.TheVariants.{SetFunctionBreakpoints, StepIn, StepOut, Variables}
pub use Rattle.dap_messages.specs.declared.requests.Command.TheVariants.{Evaluate, SetVariable}
pub use Rattle.dap_messages.specs.declared.told.Failure.{Failure}
pub use Rattle.jdwp_commands.specs.declared.question.Question.{Question}
pub use Rattle.machine_model.specs.declared.acts.Act.{Act}
pub use Rattle.machine_model.specs.declared.acts.Effect.{Effect}
pub use Rattle.machine_model.specs.declared.acts.Effect.TheVariants.{Does}
pub use Rattle.machine_model.specs.declared.acts.Sent.{Sent}
pub use Rattle.machine_model.specs.declared.acts.TargetCommand.{TargetCommand}
pub use Rattle.machine_model.specs.declared.acts.TargetCommand.TheVariants.{Effect as an_effect, Question as a_question}
pub use Rattle.machine_model.specs.declared.acts.Want.{Want}
pub use Rattle.machine_model.specs.declared.items.Item.{Item}
pub use Rattle.machine_model.specs.declared.items.Item.TheVariants.{Composite as a_composite, Raw as a_raw}
pub use Rattle.machine_model.specs.declared.items.Item.TheVariants.{Request as a_request, TargetEnd as target_end}
pub use Rattle.machine_model.specs.declared.items.Phase.{Phase}
pub use Rattle.machine_model.specs.declared.items.Phase.TheVariants.{Attached, Fresh, Gone}
pub use Rattle.machine_model.specs.declared.parts.Choice.{Choice}
pub use Rattle.machine_model.specs.declared.parts.Choice.TheVariants.{Decides, Judges, Leaves, Stepped, TellsNews, Written}
pub use Rattle.machine_model.specs.declared.parts.Deed.TheVariants.{Resume}
pub use Rattle.machine_model.specs.declared.parts.Event.{Event}
pub use Rattle.machine_model.specs.declared.parts.Finding.{Finding}
pub use Rattle.machine_model.specs.declared.parts.Lookup.{Lookup}
pub use Rattle.machine_model.specs.declared.parts.Lookup.TheVariants.{Hits as breakpoint_hits, Threads as all_threads}
pub use Rattle.machine_model.specs.declared.parts.Lookup.TheVariants.{Classes as class_facts, Frames as thread_frames}
pub use Rattle.machine_model.specs.declared.parts.Lookup.TheVariants.{Variables as container_children}
pub use Rattle.machine_model.specs.declared.parts.Lookup.TheVariants.{Value as expression_value, Write as variable_write}
pub use Rattle.machine_model.specs.declared.parts.Lookup.TheVariants.{ExceptionText as exception_text}
pub use Rattle.machine_model.specs.declared.parts.Lookup.TheVariants.{Exception as exception_info}
pub use Rattle.machine_model.specs.declared.parts.Note.{Note}
pub use Rattle.machine_model.specs.declared.parts.Note.TheVariants.{Classes, Configured, EntryHeld, Lines}
pub use Rattle.machine_model.specs.declared.parts.Note.TheVariants.{Functions, Options, Roots}
pub use Rattle.machine_model.specs.declared.parts.Note.TheVariants.{Exceptions as StopsAt, Step as Steps, Thrown as Throws}
pub use Rattle.machine_model.specs.declared.parts.Outcome.{Outcome}
pub use Rattle.machine_model.specs.declared.parts.Part.{Part}
pub use Rattle.machine_model.specs.declared.parts.Strike.{Strike}
