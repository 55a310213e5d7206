-- What moves leave as it was, and what the events of a move tell.
use Rattle.std.specs.Prelude.{ℕ, Bool, true, false, ◌==◌, ◌&&◌, List, map, Option, Some, None}
use Rattle.std.specs.List.{list_any}
use Rattle.std.specs.Option.{option_map_or}
use Rattle.jdwp_values.specs.declared.id.ClassId.{ClassId}
use Rattle.jdwp_values.specs.declared.sizes.IdSizes.{IdSizes}
use Rattle.jdwp_events.specs.declared.composite.Composite.{Composite}
use Rattle.jdwp_events.specs.declared.event.Event.{Event}
use Rattle.jdwp_events.specs.declared.event.Event.TheVariants as events
use Rattle.world_model.specs.declared.rows.Installed.{Installed}
use Rattle.world_model.specs.declared.rows.StepStart.{StepStart}
use Rattle.world_model.specs.declared.rows.WorldClass.{WorldClass}
use Rattle.world_model.specs.declared.rows.WorldField.{WorldField}
use Rattle.world_model.specs.declared.rows.WorldMethod.{WorldMethod}
use Rattle.world_model.specs.declared.rows.WorldVariable.{WorldVariable}
use Rattle.world_model.specs.declared.world.World.{World}
use Rattle.world_model.specs.Classes.{class_in}

-- a class but for whether it is prepared
abbrev pub class_facts : WorldClass → WorldClass
class_facts row = record row { prepared = false }

-- What a world says of its classes, but for which are prepared.
pub record Facts : Type 0 where
  pub sizes : IdSizes
  pub classes : List WorldClass
  pub methods : List WorldMethod
  pub variables : List WorldVariable
  pub fields : List WorldField

-- the facts of a world's classes
abbrev pub facts_of : World → Facts
facts_of w = record {
  sizes = w.sizes;
  classes = map class_facts w.classes;
  methods = w.methods;
  variables = w.variables;
  fields = w.fields;
}

-- What a debugger has asked for: its event requests (JDWP, EventRequest command set).
pub record Requested : Type 0 where
  pub requests : List Installed
  pub steps : List StepStart
  pub next_request : ℕ

-- the event requests of a world
abbrev pub requested_of : World → Requested
requested_of w = record { requests = w.requests; steps = w.steps; next_request = w.next_request }

-- whether a class is there and prepared (JDWP, Constants, ClassStatus, PREPARED)
abbrev pub is_prepared : World → ClassId → Bool
is_prepared w class = option_map_or (λ row. row.prepared) (class_in w class) false

-- the event of a class for a request (JDWP, Event command set, Composite, ClassPrepare)
abbrev pub is_prepare_of : ℕ → ClassId → Event → Bool
is_prepare_of request class (events.ClassPrepare number thread tag prepared signature status) =
    (number == request) && (prepared.0 == class.0)
is_prepare_of request class (events.SingleStep number thread at) = false
is_prepare_of request class (events.Breakpoint number thread at) = false
is_prepare_of request class (events.Exception number thread at exception catch) = false
is_prepare_of request class (events.ThreadStart number thread) = false
is_prepare_of request class (events.ThreadDeath number thread) = false
is_prepare_of request class (events.VMStart number thread) = false
is_prepare_of request class (events.VMDeath number) = false

-- whether events tell a request that a class was prepared
abbrev pub tells_prepared : Option Composite → ℕ → ClassId → Bool
tells_prepared None request class = false
tells_prepared (Some composite) request class = list_any (is_prepare_of request class) composite.events
