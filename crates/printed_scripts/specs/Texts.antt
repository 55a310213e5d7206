-- The text of a script: its lines, in the order of their kinds.
use Rattle.std.specs.Prelude.{ℕ, List, [], ◌∷◌, ◌++◌, map, Option, Some, None}
use Rattle.std.specs.List.{flat_map}
use Rattle.jdwp_values.specs.declared.sizes.IdSizes.{IdSizes}
use Rattle.script_rows.specs.declared.rows.Row.{Row}
use Rattle.script_rows.specs.declared.rows.Row.TheVariants as rows
use Rattle.script_rows.specs.declared.script.Begin.{Begin}
use Rattle.script_rows.specs.declared.script.Script.{Script}
use Rattle.line_elements.specs.declared.version.Version.TheVariants.{Second}
use Rattle.script_rows.specs.Printing.{data_of}
use Rattle.script_text.specs.Texts.{line_of}
use Rattle.world_model.specs.declared.world.World.{World}

-- a row as a line: the compact text of its value, and a line feed
abbrev pub row_text : Row → List ℕ
row_text row = line_of (data_of row)

-- how many bytes ids take: a field's, a method's, an object's, a class's and a frame's
abbrev pub size_numbers : IdSizes → List ℕ
size_numbers sizes = sizes.field ∷ sizes.method ∷ sizes.object ∷ sizes.class ∷ sizes.frame ∷ []

-- the start, where it is told
abbrev pub begin_rows : Option Begin → List Row
begin_rows (Some begin) = rows.Begin begin ∷ []
begin_rows None = []

-- the rows of the world, kind by kind
abbrev pub world_parts : World → List (List Row)
world_parts w =
    map rows.Class w.classes ∷ map rows.Method w.methods ∷ map rows.Variable w.variables ∷ map rows.Field w.fields
    ∷ map rows.Object w.objects ∷ map rows.Array w.arrays ∷ map rows.Text w.strings ∷ map rows.Put w.puts
    ∷ map rows.Thread w.threads ∷ map rows.Frame w.frames ∷ []

-- the rows of each kind that stands between the sizes and the end
abbrev pub parts : Script → List (List Row)
parts s =
    world_parts s.world ++ begin_rows s.begin ∷ map rows.Move s.program ∷ map rows.Turn s.schedule ∷ []

-- all of them, one kind behind another
abbrev pub together : List (List Row) → List Row
together [] = []
together (part ∷ parts) = part ++ together parts

-- the rows of a script, in the second version
abbrev pub rows_of : Script → List Row
rows_of s =
    rows.Head (Some Second) ∷ rows.Sizes (size_numbers s.world.sizes) ∷ rows.Limits s.turns s.quiet s.waiting
    ∷ (together (parts s) ++ rows.End ∷ [])

-- the text of a script: each row as a line
abbrev pub script_text : Script → List ℕ
script_text s = flat_map row_text (rows_of s)
