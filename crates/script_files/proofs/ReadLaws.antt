-- A script that was read is fit for a target.
use Rattle.std.proofs.Common.{◌≡◌, ℕ, ◌==◌, Bool, true, false, if◌then◌else◌, List, [], ◌∷◌, ◌++◌, Option, Some, None}
use Rattle.std.proofs.Common.{Result, Ok, Err, refl, sym, subst}
use Rattle.jdwp_values.specs.declared.sizes.IdSizes.{IdSizes}
use Rattle.script_rows.specs.declared.rows.Row.{Row}
use Rattle.script_rows.specs.declared.script.Script.{Script}
use Rattle.script_text.specs.declared.log.ScriptFault.{ScriptFault}
use Rattle.script_text.specs.declared.log.ScriptTrouble.{ScriptTrouble}
use Rattle.target_scripts.specs.declared.building.Building.{Building}
use Rattle.script_files.specs.declared.reading.Reading.{Reading}
use Rattle.target_scripts.specs.Adding.{grown}
use Rattle.target_scripts.specs.Chains.{chain_fault}
use Rattle.target_scripts.specs.Fit.{IsSoundSoFar, IsFit}
use Rattle.line_elements.specs.declared.version.Version.{Version}
use Rattle.script_files.specs.Reading.{Stop, row_in, version_of, numbers_of, headed, sized, with_sizes, first_taken}
use Rattle.script_files.specs.Reading.{behind_head, behind_row, taken_by, said, or_first, line_taken, after, finished}
use Rattle.script_files.specs.Reading.{read_on}
use Rattle.script_files.specs.Reading.{beginning, script_in, unless_open, open_line, judged, script_of}
use Rattle.script_files.specs.Sizes.{sizes_of}
use Rattle.target_scripts.proofs.SoundLaws.{begun_sound, grown_sound, whole_fit}

-- what was read so far is sound, where the sizes of ids were read
abbrev IsSoundIn : Option Building → Type 0
IsSoundIn None = Unit {0}
IsSoundIn (Some b) = IsSoundSoFar b

abbrev IfSized : Result Building ScriptFault → Type 0
IfSized (Ok b) = IsSoundSoFar b
IfSized (Err kind) = Unit {0}

abbrev IfTaken : Result Reading ScriptFault → Type 0
IfTaken (Ok reading) = IsSoundIn reading.building
IfTaken (Err kind) = Unit {0}

sized_sound : (sizes : Option IdSizes) → IfSized (sized sizes)
sized_sound None = tt
sized_sound (Some sizes) = begun_sound sizes

numbers_sound : (numbers : Option (List ℕ)) → IfSized (with_sizes numbers)
numbers_sound None = tt
numbers_sound (Some numbers) = sized_sound (sizes_of numbers)

behind_head_sound : (reading : Reading) (result : Result Version ScriptFault) → IsSoundIn reading.building
    → IfTaken (behind_head reading result)
behind_head_sound reading (Ok version) s = s
behind_head_sound reading (Err kind) s = tt

behind_sized_sound : (reading : Reading) (result : Result Building ScriptFault) → IfSized result
    → IfTaken (behind_row reading result)
behind_sized_sound reading (Ok b) s = s
behind_sized_sound reading (Err kind) s = tt

behind_row_sound : (reading : Reading) (b : Building) (row : Row) (result : Result Building ScriptFault)
    → IsSoundSoFar b → grown b row ≡ result → IfTaken (behind_row reading result)
behind_row_sound reading b row (Ok new) s e = grown_sound b new row s e
behind_row_sound reading b row (Err kind) s e = tt

first_sound : (reading : Reading) (row : Row) (version : Option Version) → IsSoundIn reading.building
    → IfTaken (first_taken reading row version)
first_sound reading row None s = behind_head_sound reading (headed (version_of row)) s
first_sound reading row (Some version) s =
    behind_sized_sound reading (with_sizes (numbers_of row)) (numbers_sound (numbers_of row))

taken_sound : (reading : Reading) (row : Row) (building : Option Building) → reading.building ≡ building
    → IsSoundIn building → IfTaken (taken_by reading row building)
taken_sound reading row None is s =
    first_sound reading row reading.version (subst IsSoundIn (sym is) s)
taken_sound reading row (Some b) is s = behind_row_sound reading b row (grown b row) s refl

said_sound : (reading : Reading) (result : Result Row ScriptFault) → IsSoundIn reading.building
    → IfTaken (said reading result)
said_sound reading (Ok row) s = taken_sound reading row reading.building refl s
said_sound reading (Err kind) s = tt

-- wherever reading stops
after_sound : (reading : Reading) (follows : Reading → Stop) (result : Result Reading ScriptFault)
    → IsSoundIn reading.building → IfTaken result
    → ((next : Reading) → IsSoundIn next.building → IsSoundIn (follows next).reading.building)
    → IsSoundIn (after reading follows result).reading.building
after_sound reading follows (Ok next) s taken each = each next taken
after_sound reading follows (Err kind) s taken each = s

finished_sound : (reading : Reading) (rest : List ℕ) → IsSoundIn reading.building
    → IsSoundIn (finished reading rest).reading.building
finished_sound reading [] s = s
finished_sound reading (byte ∷ rest) s =
    after_sound reading _ (line_taken reading (byte ∷ rest)) s (said_sound reading (row_in (or_first reading.version) (byte ∷ rest)) s)
    (λ next h. h)

one_byte : (feed : Bool) (reading : Reading) (line : List ℕ) (byte : ℕ) (bytes : List ℕ)
    → IsSoundIn reading.building
    → ((next : Reading) (begun : List ℕ) → IsSoundIn next.building → IsSoundIn (read_on next begun bytes).reading.building)
    → IsSoundIn (if feed then after reading (λ next. read_on next [] bytes) (line_taken reading line)
    else read_on reading (line ++ byte ∷ []) bytes).reading.building
one_byte true reading line byte bytes s later =
    after_sound reading (λ next. read_on next [] bytes) (line_taken reading line) s
    (said_sound reading (row_in (or_first reading.version) line) s) (λ next h. later next [] h)
one_byte false reading line byte bytes s later = later reading (line ++ byte ∷ []) s

stops_sound : (reading : Reading) (line bytes : List ℕ) → IsSoundIn reading.building
    → IsSoundIn (read_on reading line bytes).reading.building
stops_sound reading line [] s = finished_sound reading line s
stops_sound reading line (byte ∷ bytes) s =
    one_byte (byte == 10) reading line byte bytes s (λ next begun h. stops_sound next begun bytes h)

-- The end ------------------------------------------------------------------------------------------------------------

abbrev IfFit : Result Script ScriptTrouble → Type 0
IfFit (Ok script) = IsFit script
IfFit (Err trouble) = Unit {0}

whole_sound : (line : ℕ) (building : Option Building) (fault : Option ScriptFault) → IsSoundIn building
    → open_line building ≡ None → IfFit (script_in line building fault)
whole_sound line None None s h = tt
whole_sound line (Some b) None s h = whole_fit b s h
whole_sound line None (Some kind) s h = tt
whole_sound line (Some b) (Some kind) s h = tt

judged_sound : (line : ℕ) (building : Option Building) (fault : Option ScriptFault) (open_at : Option ℕ)
    → IsSoundIn building → open_line building ≡ open_at → IfFit (unless_open line building fault open_at)
judged_sound line building fault None s h = whole_sound line building fault s h
judged_sound line building fault (Some class_line) s h = tt

pub read_fit : (text : List ℕ) (script : Script) → script_of text ≡ Ok script → IsFit script
unfolding script_of
read_fit text script h =
    let stop = read_on beginning [] text in
    subst IfFit h (judged_sound stop.reading.line stop.reading.building stop.fault (open_line stop.reading.building)
    (stops_sound beginning [] text tt) refl)
