-- Chains of classes (JDWP, ClassType command set, Superclass).
use Rattle.std.specs.Prelude.{ℕ, ◌+◌, ◌-◌, ◌^◌, min, Bool, true, false, not, ◌==◌, ◌&&◌, ◌||◌, if◌then◌else◌, List, []}
use Rattle.std.specs.Prelude.{◌∷◌, find, Option, position, option_map}
use Rattle.std.specs.List.{list_any}
use Rattle.std.specs.Option.{option_map_or, option_or}
use Rattle.jdwp_values.specs.declared.id.ClassId.{ClassId}
use Rattle.world_model.specs.declared.rows.WorldClass.{WorldClass}
use Rattle.world_model.specs.Sound.{ends}
use Rattle.target_scripts.specs.declared.building.Building.{Building}

-- a class is reached from another one, or from one above it, one step up for each of these classes
abbrev pub comes_to : List WorldClass → List WorldClass → ClassId → ClassId → Bool
comes_to [] classes from to = false
comes_to (step ∷ steps) classes from to =
    (from.0 == to.0) || option_map_or (λ row. comes_to steps classes row.above to)
    (find (λ row. row.id.0 == from.0) classes) false

-- no line gives the class above a class, or the chain from it returns to it
unfoldable pub is_open : List WorldClass → WorldClass → Bool
is_open classes row =
    not (row.above.0 == 0) && (not (list_any (λ other. other.id.0 == row.above.0) classes)
    || comes_to classes classes row.above row.id)

-- a chain from a class that doesn't end
abbrev pub goes_on : List WorldClass → WorldClass → Bool
goes_on classes row = not (ends classes classes row.id)

-- The first class whose chain is at fault, by its place. A chain that doesn't end comes to a class that is open, so the
-- second test finds nothing where the first does; it is what soundness asks for.
abbrev pub first_open : List WorldClass → Option ℕ
first_open classes = option_or (position (is_open classes) classes) (position (goes_on classes) classes)

-- the line of a class, by that of the first one; the last number stands for all that follow
abbrev pub line_of_class : ℕ → ℕ → ℕ
line_of_class first place = min (place + first) (2 ^ 32 - 1)

-- the line of the first class whose chain is at fault
abbrev pub chain_fault : Building → Option ℕ
chain_fault b = option_map (line_of_class b.first_class) (first_open b.script.world.classes)
