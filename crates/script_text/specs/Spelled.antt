-- The line of bytes that came or went out, byte by byte.
use Rattle.std.specs.Prelude.{ℕ, List, ◌++◌, codes}
use Rattle.wire_core.specs.declared.outside.Side.{Side}
use Rattle.wire_core.specs.declared.outside.Entry.{Entry}
use Rattle.wire_core.specs.declared.outside.Entry.TheVariants.{In, Out}
use Rattle.script_text.specs.declared.spelled.Way.{Way}
use Rattle.script_text.specs.declared.spelled.Way.TheVariants.{Came, Went}
use Rattle.script_text.specs.Texts.{side_name}

-- the name of a way
abbrev pub way_name : Way → List ℕ
way_name Came = codes "in"
way_name Went = codes "out"

-- what stands before the bytes
abbrev pub start_of : Way → Side → List ℕ
start_of way side = codes "[\"" ++ (way_name way ++ (codes "\",\"" ++ (side_name side ++ codes "\",\"")))

-- what came or went
abbrev pub entry_of : Way → Side → List ℕ → Entry
entry_of Came side bytes = In side bytes
entry_of Went side bytes = Out side bytes
