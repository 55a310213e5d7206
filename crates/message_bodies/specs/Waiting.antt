-- Which of the items that wait is next.
use Rattle.std.specs.Prelude.{Bool, cond, true, not}
use Rattle.machine_model.specs.State.{is_raw}
use Rattle.machine_model.specs.declared.items.Item.{Item}

-- the item can be begun: a composite that is kept can't, while there is a target
abbrev pub is_next : Bool → Item → Bool
is_next gone item = cond gone true (not (is_raw item))
