-- The machine's types, by the names that the definitions here use.
pub use Rattle.machine_model.specs.declared.acts.Act.{Act}
pub use Rattle.machine_model.specs.declared.acts.Effect.{Effect}
pub use Rattle.machine_model.specs.declared.acts.Effect.TheVariants.{Clear, Does, Set}
pub use Rattle.machine_model.specs.declared.acts.TargetCommand.{TargetCommand}
pub use Rattle.machine_model.specs.declared.acts.TargetCommand.TheVariants.{Effect as an_effect, Question as a_question}
pub use Rattle.machine_model.specs.declared.items.Item.{Item}
pub use Rattle.machine_model.specs.declared.items.Item.TheVariants.{Raw as a_raw, Request as a_request}
pub use Rattle.machine_model.specs.declared.items.Phase.TheVariants.{Attached, Fresh}
pub use Rattle.machine_model.specs.declared.parts.Choice.{Choice}
pub use Rattle.machine_model.specs.declared.parts.Choice.TheVariants.{Decides, Judges, TellsNews}
pub use Rattle.machine_model.specs.declared.parts.Deed.{Deed}
pub use Rattle.machine_model.specs.declared.parts.Deed.TheVariants.{Dispose, Exit, Resume, Suspend, Writes}
pub use Rattle.machine_model.specs.declared.parts.Finding.{Finding}
pub use Rattle.machine_model.specs.declared.parts.Lookup.{Lookup}
pub use Rattle.machine_model.specs.declared.parts.Lookup.TheVariants.{Hits as breakpoint_hits, Threads as all_threads}
pub use Rattle.machine_model.specs.declared.parts.Lookup.TheVariants.{Write as variable_write}
pub use Rattle.machine_model.specs.declared.parts.Part.{Part}
pub use Rattle.machine_model.specs.declared.parts.Strike.{Strike}
pub use Rattle.machine_model.specs.declared.parts.Suspension.{Suspension}
