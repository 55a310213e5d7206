-- The sizes of ids, as the code keeps them.
use Rattle.machine_model.specs.State as model
use Rattle.session_facts.specs.declared.sizes.SizesRead.{SizesRead}

-- the sizes that the target said
abbrev pub sizes_seen : SizesRead → model.SizesRead
sizes_seen sizes = record {
  field = sizes.field;
  method = sizes.method;
  object = sizes.object;
  class = sizes.class;
  frame = sizes.frame;
}
