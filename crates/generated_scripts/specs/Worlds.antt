-- The world of a generated script, and the moves of its program: a thread that goes through the lines of one method.
use Rattle.std.specs.Prelude.{ℕ, ◌-◌, ◌%◌, ◌≡◌, ℤ, pos, true, false, List, [], ◌∷◌, ◌++◌, codes, Some, refl}
use Rattle.std.proofs.Common.{◌≤◌}
use Rattle.std.proofs.lemmas.Bool.{leb-true}
use Rattle.jdwp_values.specs.declared.class.Line.{Line}
use Rattle.jdwp_values.specs.declared.id.ClassId.{ClassId}
use Rattle.jdwp_values.specs.declared.id.FrameId.{FrameId}
use Rattle.jdwp_values.specs.declared.id.MethodId.{MethodId}
use Rattle.jdwp_values.specs.declared.id.ObjectId.{ObjectId}
use Rattle.jdwp_values.specs.declared.id.ThreadId.{ThreadId}
use Rattle.jdwp_values.specs.declared.sizes.IdSizes.{IdSizes}
use Rattle.jdwp_values.specs.declared.tag.TypeTag.TheVariants.{Class}
use Rattle.jdwp_values.specs.declared.value.Value.TheVariants.{Int}
use Rattle.jdwp_values.specs.Sizes.{IsSize}
use Rattle.slot_values.specs.declared.slot.SlotValue.{SlotValue}
use Rattle.script_worlds.specs.Growing.{empty_world}
use Rattle.world_model.specs.declared.moves.Move.{Move}
use Rattle.world_model.specs.declared.moves.Move.TheVariants.{At, Death}
use Rattle.world_model.specs.declared.rows.WorldClass.{WorldClass}
use Rattle.world_model.specs.declared.rows.WorldFrame.{WorldFrame}
use Rattle.world_model.specs.declared.rows.WorldMethod.{WorldMethod}
use Rattle.world_model.specs.declared.rows.WorldThread.{WorldThread}
use Rattle.world_model.specs.declared.rows.WorldVariable.{WorldVariable}
use Rattle.world_model.specs.declared.world.World.{World}
use Rattle.generated_scripts.specs.Numbers.{for_each_to, number_behind}

-- eight bytes are a size of ids
pub eight_is : IsSize 8
eight_is = (leb-true 1 8 refl, leb-true 8 8 refl)

-- ids take eight bytes each (JDWP, VirtualMachine command set, IDSizes)
abbrev pub eight_bytes : IdSizes
eight_bytes = record {
  field = 8;
  method = 8;
  object = 8;
  class = 8;
  frame = 8;
  field_is_size = eight_is;
  method_is_size = eight_is;
  object_is_size = eight_is;
  class_is_size = eight_is;
  frame_is_size = eight_is;
}

-- the ids: there is one thing of each kind
abbrev pub class_id : ClassId
class_id = record { 0 = 1 }

abbrev pub method_id : MethodId
method_id = record { 0 = 1 }

abbrev pub thread_id : ThreadId
thread_id = record { 0 = 1 }

-- the class `gen.Main`, which extends none and is prepared (JDWP, VirtualMachine command set, AllClasses)
abbrev pub main_class : WorldClass
main_class = record {
  id = class_id;
  tag = Class;
  signature = codes "Lgen/Main;";
  source = Some (codes "Main.java");
  above = record { 0 = 0 };
  prepared = true;
}

-- a line of the source, whose code is the index before it (JDWP, Method command set, LineTable)
abbrev pub line : ℕ → Line
line i = record { index = i - 1; line = pos i }

-- its method `run`, public and static, with as many lines as the number says (JDWP, ReferenceType command set, Methods)
abbrev pub run_method : ℕ → WorldMethod
run_method number = record {
  class = class_id;
  method = record { id = method_id; name = codes "run"; signature = codes "()V"; bits = pos 9 };
  start = pos 0;
  end = pos number;
  lines = Some (for_each_to (λ i. line i ∷ []) number);
}

-- its variable `n`, an int, which all of its code has (JDWP, Method command set, VariableTable)
abbrev pub n_variable : ℕ → WorldVariable
n_variable number = record {
  class = class_id;
  method = method_id;
  variable = record { index = 0; name = codes "n"; signature = codes "I"; length = number; slot = pos 0 };
}

-- the thread `main`
abbrev pub main_thread : WorldThread
main_thread = record { id = thread_id; name = codes "main" }

-- the slot of `n`, with its value
abbrev pub n_slot : ℕ → SlotValue
n_slot value = record { slot = pos 0; value = Int (pos value) }

-- the thread's frame at this index of the method, where `n` has this value
abbrev pub frame_at : ℕ → ℕ → WorldFrame
frame_at index value = record {
  thread = thread_id;
  id = record { 0 = 1 };
  class = class_id;
  method = method_id;
  index = index;
  this = record { 0 = 0 };
  slots = n_slot value ∷ [];
}

-- the world where the thread stands there
abbrev pub world_at : ℕ → ℕ → ℕ → World
world_at number index value = record (empty_world eight_bytes) {
  classes = main_class ∷ [];
  methods = run_method number ∷ [];
  variables = n_variable number ∷ [];
  threads = main_thread ∷ [];
  frames = frame_at index value ∷ [];
}

-- the thread comes to the next line, behind the last one to the first; `n` has the next number
abbrev pub move_to : ℕ → ℕ → Move
move_to number i = At thread_id (i % number) (n_slot (number_behind number i) ∷ [])

-- it comes to as many lines as the number says, and then the target ends
abbrev pub moves : ℕ → List Move
moves number = for_each_to (λ i. move_to number i ∷ []) number ++ Death ∷ []
