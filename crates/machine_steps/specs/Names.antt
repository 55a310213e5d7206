-- The words of the machine and of what it speaks to, under the names that the proofs of the laws use.
pub use Rattle.machine_model.specs.Names.{Command, Initialize, Attach, ConfigurationDone, SetBreakpoints, Continue}
pub use Rattle.machine_model.specs.Names.{Pause, StackTrace, Scopes, Variables, SetVariable, Evaluate}
pub use Rattle.machine_model.specs.Names.{SetFunctionBreakpoints, SetExceptionBreakpoints, Next, StepIn, StepOut}
pub use Rattle.machine_model.specs.Names.{ExceptionInfo, Disconnect, Request, Failure, a_response, an_event, Answer}
pub use Rattle.machine_model.specs.Names.{Replied, an_answer, an_error, Question, Composite, ClassId, ThreadId}
pub use Rattle.machine_model.specs.declared.acts.Act.{Act}
pub use Rattle.machine_model.specs.declared.acts.Doing.{Doing}
pub use Rattle.machine_model.specs.declared.acts.Effect.{Effect}
pub use Rattle.machine_model.specs.declared.acts.Effect.TheVariants.{Does, Set, Clear}
pub use Rattle.machine_model.specs.declared.acts.Sent.{Sent}
pub use Rattle.machine_model.specs.declared.acts.TargetCommand.{TargetCommand}
pub use Rattle.machine_model.specs.declared.acts.TargetCommand.TheVariants.{Question as a_question, Effect as an_effect}
pub use Rattle.machine_model.specs.declared.acts.Want.{Want}
pub use Rattle.machine_model.specs.declared.items.Item.{Item}
pub use Rattle.machine_model.specs.declared.items.Item.TheVariants.{Request as a_request, Composite as a_composite}
pub use Rattle.machine_model.specs.declared.items.Item.TheVariants.{Raw as a_raw, TargetEnd as target_end}
pub use Rattle.machine_model.specs.declared.items.Phase.{Phase}
pub use Rattle.machine_model.specs.declared.items.Phase.TheVariants.{Fresh, Attached, Gone}
pub use Rattle.machine_model.specs.declared.options.ClientOptions.{ClientOptions}
pub use Rattle.machine_model.specs.declared.parts.Body.{Body}
pub use Rattle.machine_model.specs.declared.parts.Body.TheVariants.{Nothing, Capabilities}
pub use Rattle.machine_model.specs.declared.parts.Body.TheVariants.{Breakpoints as breakpoint_list}
pub use Rattle.machine_model.specs.declared.parts.Body.TheVariants.{Threads as thread_list, Continued}
pub use Rattle.machine_model.specs.declared.parts.Body.TheVariants.{StackFrames as frame_list}
pub use Rattle.machine_model.specs.declared.parts.Body.TheVariants.{Scopes as scope_list, Variables as variable_list}
pub use Rattle.machine_model.specs.declared.parts.Body.TheVariants.{Value as a_value, Written as a_written}
pub use Rattle.machine_model.specs.declared.parts.Choice.{Choice}
pub use Rattle.machine_model.specs.declared.parts.Choice.TheVariants.{TellsNews, Judges, Decides, Stepped, Written}
pub use Rattle.machine_model.specs.declared.parts.Choice.TheVariants.{Leaves}
pub use Rattle.machine_model.specs.declared.parts.Deed.{Deed}
pub use Rattle.machine_model.specs.declared.parts.Deed.TheVariants.{Suspend, Resume, Dispose, Exit, Writes}
pub use Rattle.machine_model.specs.declared.parts.Event.{Event}
pub use Rattle.machine_model.specs.declared.parts.Event.TheVariants.{Initialized, News as some_news, Terminated}
pub use Rattle.machine_model.specs.declared.parts.Event.TheVariants.{Logged, Stopped as a_stop}
pub use Rattle.machine_model.specs.declared.parts.Finding.{Finding}
pub use Rattle.machine_model.specs.declared.parts.Finding.TheVariants.{Threads as threads_found}
pub use Rattle.machine_model.specs.declared.parts.Finding.TheVariants.{Classes as classes_found}
pub use Rattle.machine_model.specs.declared.parts.Finding.TheVariants.{Frames as frames_found}
pub use Rattle.machine_model.specs.declared.parts.Finding.TheVariants.{Variables as variables_found}
pub use Rattle.machine_model.specs.declared.parts.Finding.TheVariants.{Value as value_found, NoValue as no_value}
pub use Rattle.machine_model.specs.declared.parts.Finding.TheVariants.{Write as write_found}
pub use Rattle.machine_model.specs.declared.parts.Finding.TheVariants.{ExceptionText as text_found}
pub use Rattle.machine_model.specs.declared.parts.Finding.TheVariants.{Exception as exception_found, Hits as hits_found}
pub use Rattle.machine_model.specs.declared.parts.Guard.{Guard}
pub use Rattle.machine_model.specs.declared.parts.Guard.TheVariants.{Handshake, IdSizes}
pub use Rattle.machine_model.specs.declared.parts.Halt.{Halt}
pub use Rattle.machine_model.specs.declared.parts.HaltCause.{HaltCause}
pub use Rattle.machine_model.specs.declared.parts.HaltCause.TheVariants.{Breakpoint as came_to, Exception as threw}
pub use Rattle.machine_model.specs.declared.parts.HaltCause.TheVariants.{Step as has_stepped}
pub use Rattle.machine_model.specs.declared.parts.ListedBreakpoint.{ListedBreakpoint}
pub use Rattle.machine_model.specs.declared.parts.Lookup.{Lookup}
pub use Rattle.machine_model.specs.declared.parts.Lookup.TheVariants.{Threads as all_threads}
pub use Rattle.machine_model.specs.declared.parts.Lookup.TheVariants.{Classes as class_facts}
pub use Rattle.machine_model.specs.declared.parts.Lookup.TheVariants.{Frames as thread_frames}
pub use Rattle.machine_model.specs.declared.parts.Lookup.TheVariants.{Variables as container_children}
pub use Rattle.machine_model.specs.declared.parts.Lookup.TheVariants.{Value as expression_value, Write as variable_write}
pub use Rattle.machine_model.specs.declared.parts.Lookup.TheVariants.{ExceptionText as exception_text}
pub use Rattle.machine_model.specs.declared.parts.Lookup.TheVariants.{Exception as exception_info, Hits as breakpoint_hits}
pub use Rattle.machine_model.specs.declared.parts.NamedThread.{NamedThread}
pub use Rattle.machine_model.specs.declared.parts.News.{News}
pub use Rattle.machine_model.specs.declared.parts.News.TheVariants.{Verified as entry_verified}
pub use Rattle.machine_model.specs.declared.parts.News.TheVariants.{Thread as thread_changed}
pub use Rattle.machine_model.specs.declared.parts.Note.{Note}
pub use Rattle.machine_model.specs.declared.parts.Note.TheVariants.{Options, Lines, Classes}
pub use Rattle.machine_model.specs.declared.parts.Note.TheVariants.{EntryHeld, Configured, Functions}
pub use Rattle.machine_model.specs.declared.parts.Note.TheVariants.{Exceptions as StopsAt, Step as Steps, Thrown as Throws}
pub use Rattle.machine_model.specs.declared.parts.Outcome.{Outcome}
pub use Rattle.machine_model.specs.declared.parts.Outcome.TheVariants.{Success, Failure as Failed}
pub use Rattle.machine_model.specs.declared.parts.Part.{Part}
pub use Rattle.machine_model.specs.declared.parts.Seen.{Seen}
pub use Rattle.machine_model.specs.declared.parts.ShownFrame.{ShownFrame}
pub use Rattle.machine_model.specs.declared.parts.ShownVariable.{ShownVariable}
pub use Rattle.machine_model.specs.declared.parts.Spot.{Spot}
pub use Rattle.machine_model.specs.declared.parts.StopCause.{StopCause}
pub use Rattle.machine_model.specs.declared.parts.StopCause.TheVariants.{Hit, Exception as by_exception}
pub use Rattle.machine_model.specs.declared.parts.StopCause.TheVariants.{Step as by_step, Pause as by_client}
pub use Rattle.machine_model.specs.declared.parts.Stopping.{Stopping}
pub use Rattle.machine_model.specs.declared.parts.Store.{Store}
pub use Rattle.machine_model.specs.declared.parts.Store.TheVariants.{Slot as to_slot, Field as to_field}
pub use Rattle.machine_model.specs.declared.parts.Store.TheVariants.{Element as to_element}
pub use Rattle.machine_model.specs.declared.parts.Strike.{Strike}
pub use Rattle.machine_model.specs.declared.parts.Suspension.{Suspension}
pub use Rattle.machine_model.specs.declared.parts.Suspension.TheVariants.{Composite as of_composite, Entry as of_entry}
pub use Rattle.machine_model.specs.declared.parts.Suspension.TheVariants.{Stop as of_stop}
pub use Rattle.machine_model.specs.declared.parts.Thrown.{Thrown}
pub use Rattle.machine_model.specs.declared.parts.Write.{Write}
