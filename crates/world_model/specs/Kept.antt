-- What commands leave as it was.
use Rattle.std.specs.Prelude.{Bool, true, false, List}
use Rattle.jdwp_values.specs.declared.sizes.IdSizes.{IdSizes}
use Rattle.jdwp_commands.specs.declared.effect.Effect.{Effect}
use Rattle.jdwp_commands.specs.declared.effect.Effect.TheVariants as effects
use Rattle.world_model.specs.declared.rows.Put.{Put}
use Rattle.world_model.specs.declared.rows.WorldArray.{WorldArray}
use Rattle.world_model.specs.declared.rows.WorldClass.{WorldClass}
use Rattle.world_model.specs.declared.rows.WorldField.{WorldField}
use Rattle.world_model.specs.declared.rows.WorldFrame.{WorldFrame}
use Rattle.world_model.specs.declared.rows.WorldMethod.{WorldMethod}
use Rattle.world_model.specs.declared.rows.WorldObject.{WorldObject}
use Rattle.world_model.specs.declared.rows.WorldString.{WorldString}
use Rattle.world_model.specs.declared.rows.WorldThread.{WorldThread}
use Rattle.world_model.specs.declared.rows.WorldVariable.{WorldVariable}
use Rattle.world_model.specs.declared.world.World.{World}

-- What a world has of its program beside values.
pub record Program : Type 0 where
  pub sizes : IdSizes
  pub classes : List WorldClass
  pub methods : List WorldMethod
  pub variables : List WorldVariable
  pub fields : List WorldField
  pub objects : List WorldObject
  pub strings : List WorldString
  pub threads : List WorldThread

-- the program of a world
abbrev pub program_of : World → Program
program_of w = record {
  sizes = w.sizes;
  classes = w.classes;
  methods = w.methods;
  variables = w.variables;
  fields = w.fields;
  objects = w.objects;
  strings = w.strings;
  threads = w.threads;
}

-- The values that a world has: in fields, in arrays and in frames.
pub record Values : Type 0 where
  pub puts : List Put
  pub arrays : List WorldArray
  pub frames : List WorldFrame

-- the values of a world
abbrev pub values_of : World → Values
values_of w = record { puts = w.puts; arrays = w.arrays; frames = w.frames }

-- a command that puts a value somewhere (JDWP, Detailed Command Information, commands SetValues)
abbrev pub puts_values : Effect → Bool
puts_values (effects.SetField object field value) = true
puts_values (effects.SetElement array first value) = true
puts_values (effects.SetSlot thread frame slot value) = true
puts_values effects.Dispose = false
puts_values effects.Suspend = false
puts_values effects.Resume = false
puts_values (effects.Exit code) = false
puts_values (effects.Set kind policy modifiers) = false
puts_values (effects.Clear kind request) = false
