-- A text is read row by row: which rows, and that their lines are read as them again.
use Rattle.std.proofs.Common.{◌≡◌, ◌≢◌, ℕ, ◌==◌, Bool, true, false, if◌then◌else◌, List, [], ◌∷◌, ◌++◌, Option, Some}
use Rattle.std.proofs.Common.{None}
use Rattle.std.proofs.Common.{Result, Ok, Err, refl, sym, ap, ◌∙◌, append_assoc, append-nil}
use Rattle.std.specs.List.{AllByRecursion, flat_map}
use Rattle.std.specs.Str.{is_utf8}
use Rattle.std.proofs.lemmas.Bool.{ne_eqb}
use Rattle.std.proofs.lemmas.Option.{none-some}
use Rattle.std.proofs.lemmas.Str.{IsUtf8-from_is_utf8}
use Rattle.serde_json.specs.Data.{Data}
use Rattle.serde_json.specs.Read.{read}
use Rattle.serde_json.specs.Written.{compact_text}
use Rattle.serde_json.proofs.Nesting.{depth-read}
use Rattle.json_lines.proofs.AgainLaws.{is_line}
use Rattle.json_lines.proofs.SpelledLaws.{read_spelled}
use Rattle.script_rows.specs.declared.rows.Row.{Row}
use Rattle.script_rows.specs.Printing.{data_of}
use Rattle.script_rows.specs.Rows.{row_of}
use Rattle.script_rows.proofs.KindLaws.{printed_again}
use Rattle.script_rows.proofs.PlainLaws.{row_has_no_float}
use Rattle.script_text.specs.declared.log.ScriptFault.{ScriptFault}
use Rattle.script_text.specs.declared.log.ScriptFault.TheVariants.{NotUtf8, NoEnd}
use Rattle.script_text.specs.Texts.{line_of}
use Rattle.line_elements.specs.declared.version.Version.{Version}
use Rattle.line_elements.specs.declared.version.Version.TheVariants.{Second}
use Rattle.target_scripts.specs.declared.building.Building.{Building}
use Rattle.target_scripts.specs.Adding.{grown}
use Rattle.script_files.specs.Reading.{unless_shapeless, row_read, row_in, row_taken, said, line_taken, Stop, after}
use Rattle.script_files.specs.Reading.{end_fault, finished, read_on, or_first, behind_row, taken_by, first_taken}
use Rattle.script_files.specs.Reading.{with_sizes, numbers_of}
use Rattle.printed_scripts.specs.Texts.{row_text}
use Rattle.printed_scripts.proofs.RowLaws.{IsFit, IsTold, row_told}

-- ---- a line

abbrev NoFeed : List ℕ → Type 0
NoFeed bytes = AllByRecursion (λ byte. byte ≢ 10) bytes

-- what is printed of a row is one line, which is read as the value of the row, and that as the row
pub record IsShown (row : Row) : Type 0 where
  pub utf8 : is_utf8 (compact_text (data_of row)) ≡ true
  pub value : read (compact_text (data_of row)) ≡ Some (data_of row)
  pub again : row_of Second (data_of row) ≡ Some row
  pub no_feed : NoFeed (compact_text (data_of row))

row_found : (row : Row) (o : Option Row) → unless_shapeless o ≡ Ok row → o ≡ Some row
row_found row None e = absurd cc
row_found row (Some other) e = ap (found_row row) e
  where
    found_row : Row → Result Row ScriptFault → Option Row
    found_row row (Ok found) = Some found
    found_row row (Err kind) = Some row

row_if : Version → Bool → Option Data → Result Row ScriptFault
row_if v utf8 value = if utf8 then row_read v value else Err NotUtf8

-- from what a row's value is like, and that it is read as the row
pub shown_by : (row : Row) → IsTold row → row_of Second (data_of row) ≡ Some row → IsShown row
shown_by row told again =
    let shown = is_line (data_of row) told.fit.spelled told.fit.shallow (row_has_no_float row told.plain) in
    record { utf8 = shown.utf8; value = shown.is_read; again = again; no_feed = shown.no_feed }

-- a row that is shown is read in the version in which its value is the row
pub read_by : (v : Version) (row : Row) → IsShown row → row_of v (data_of row) ≡ Some row →
    row_in v (compact_text (data_of row)) ≡ Ok row
unfolding row_in row_if
read_by v row shown same =
    ap (λ test. row_if v test (read (compact_text (data_of row)))) shown.utf8
    ∙ ap (row_read v) shown.value
    ∙ ap unless_shapeless same

from_line : (v : Version) (line : List ℕ) (row : Row) (utf8 : Bool) (value : Option Data) → is_utf8 line ≡ utf8 →
    read line ≡ value → row_if v utf8 value ≡ Ok row → IsShown row
unfolding row_in row_if
from_line v line row true (Some d) utf8 e is =
    let found = row_found row (row_of v d) is in
    let fit : IsFit 127 d =
    record { spelled = read_spelled line d (IsUtf8-from_is_utf8 line utf8) e; shallow = depth-read line d e } in
    shown_by row (row_told v d row fit found) (printed_again v d row found)
from_line v line row true None utf8 e is = absurd cc
from_line v line row false value utf8 e is = absurd cc

shown_row : (v : Version) (line : List ℕ) (row : Row) → row_in v line ≡ Ok row → IsShown row
unfolding row_in row_if
shown_row v line row e = from_line v line row (is_utf8 line) (read line) refl refl e

-- ---- rows in order

abbrev Domain : {A B : Type 0} → (A → B) → Type 0
Domain {A} {B} f = A

-- what was read so far
abbrev pub Reading : Type 0
Reading = Domain row_taken

-- these rows lead from what was read before them to what was read then
abbrev pub Takes : Reading → List Row → Reading → Type 0
Takes reading [] now = reading ≡ now
Takes reading (row ∷ others) now = (next : Reading) × ((row_taken reading row ≡ Ok next) × Takes next others now)

pub record HasRows (reading : Reading) (stop : Stop) : Type 0 where
  pub read : List Row
  pub shown : AllByRecursion IsShown read
  pub taken : Takes reading read stop.reading
  pub ended : end_fault stop.reading.building ≡ None

one_row : (reading next : Reading) (row : Row) (stop : Stop) → IsShown row → row_taken reading row ≡ Ok next →
    HasRows next stop → HasRows reading stop
one_row reading next row stop shown taken more = record {
  read = row ∷ more.read;
  shown = (shown, more.shown);
  taken = (next, (taken, more.taken));
  ended = more.ended;
}

-- ---- the whole text

abbrev faulty : Reading → ScriptFault → Stop
faulty reading kind = record { reading = reading; fault = Some kind }

no_fault : (reading : Reading) (kind : ScriptFault) (stop : Stop) → faulty reading kind ≡ stop → stop.fault ≡ None → ⊥
no_fault reading kind stop e clear = none-some kind (sym (ap (λ (s : Stop). s.fault) e ∙ clear))

at_end : (reading : Reading) (line : List ℕ) (stop : Stop) → finished reading line ≡ stop → stop.fault ≡ None →
    HasRows reading stop
at_end reading [] stop e clear = record {
  read = [];
  shown = tt;
  taken = ap (λ (s : Stop). s.reading) e;
  ended = ap (λ (s : Stop). end_fault s.reading.building) (sym e) ∙ ap (λ (s : Stop). s.fault) e ∙ clear;
}
at_end reading (byte ∷ rest) stop e clear = absurd (never (line_taken reading (byte ∷ rest)) e)
  where
    never : (taken : Result Reading ScriptFault) → after reading (λ next. faulty next NoEnd) taken ≡ stop → ⊥
    never (Ok next) e = no_fault next NoEnd stop e clear
    never (Err kind) e = no_fault reading kind stop e clear

at_feed : (reading : Reading) (line : List ℕ) (follows : Reading → Stop) (stop : Stop) →
    after reading follows (line_taken reading line) ≡ stop → stop.fault ≡ None →
    ((next : Reading) → follows next ≡ stop → HasRows next stop) → HasRows reading stop
at_feed reading line follows stop e clear again = by_row (row_in (or_first reading.version) line) refl e
  where
    by_taken : (row : Row) (taken : Result Reading ScriptFault) → row_in (or_first reading.version) line ≡ Ok row →
        row_taken reading row ≡ taken →
        after reading follows taken ≡ stop → HasRows reading stop
    by_taken row (Ok next) is taken e = one_row reading next row stop (shown_row (or_first reading.version) line row is) taken (again next e)
    by_taken row (Err kind) is taken e = absurd (no_fault reading kind stop e clear)

    by_row : (found : Result Row ScriptFault) → row_in (or_first reading.version) line ≡ found →
        after reading follows (said reading found) ≡ stop → HasRows reading stop
    by_row (Ok row) is e = by_taken row (row_taken reading row) is refl e
    by_row (Err kind) is e = absurd (no_fault reading kind stop e clear)

pub has_rows : (bytes : List ℕ) (reading : Reading) (line : List ℕ) (stop : Stop) → read_on reading line bytes ≡ stop →
    stop.fault ≡ None → HasRows reading stop
has_rows [] reading line stop e clear = at_end reading line stop e clear
has_rows (byte ∷ bytes) reading line stop e clear =
    by_byte (byte == 10) (λ next so_far is. has_rows bytes next so_far stop is clear) e
  where
    by_byte : (feed : Bool) →
        ((next : Reading) (so_far : List ℕ) → read_on next so_far bytes ≡ stop → HasRows next stop) →
        (if feed then after reading (λ next. read_on next [] bytes) (line_taken reading line)
        else read_on reading (line ++ byte ∷ []) bytes) ≡ stop → HasRows reading stop
    by_byte true again e =
        at_feed reading line (λ next. read_on next [] bytes) stop e clear (λ next is. again next [] is)
    by_byte false again e = again reading (line ++ byte ∷ []) e

-- ---- read again

one_line : (reading : Reading) (line body more : List ℕ) → NoFeed body →
    read_on reading line (body ++ 10 ∷ more)
    ≡ after reading (λ next. read_on next [] more) (line_taken reading (line ++ body))
one_line reading line [] more clear =
    ap (λ (whole : List ℕ). after reading (λ next. read_on next [] more) (line_taken reading whole))
    (sym (append-nil line))
one_line reading line (byte ∷ body) more clear =
    ap (λ (feed : Bool).
    if feed then after reading (λ next. read_on next [] (body ++ 10 ∷ more)) (line_taken reading line)
    else read_on reading (line ++ byte ∷ []) (body ++ 10 ∷ more)) (ne_eqb byte 10 clear.0)
    ∙ one_line reading (line ++ byte ∷ []) body more clear.1
    ∙ ap (λ (whole : List ℕ). after reading (λ next. read_on next [] more) (line_taken reading whole))
    (append_assoc line (byte ∷ []) body)

-- the version stays behind the head
behind_version : (v : Version) (reading next : Reading) (result : Result Building ScriptFault) →
    reading.version ≡ Some v → behind_row reading result ≡ Ok next → next.version ≡ Some v
behind_version v reading next (Ok b) is e = sym (ap (version_or reading) e) ∙ is
  where
    version_or : Reading → Result Reading ScriptFault → Option Version
    version_or other (Ok found) = found.version
    version_or other (Err kind) = other.version
behind_version v reading next (Err kind) is e = absurd cc

version_stays : (v : Version) (reading next : Reading) (row : Row) → reading.version ≡ Some v →
    row_taken reading row ≡ Ok next → next.version ≡ Some v
version_stays v reading next row is e = by_building reading.building e
  where
    by_building : (building : Option Building) → taken_by reading row building ≡ Ok next → next.version ≡ Some v
    by_building (Some b) e = behind_version v reading next (grown b row) is e
    by_building None e =
        behind_version v reading next (with_sizes (numbers_of row)) is (sym (ap (first_taken reading row) is) ∙ e)

-- the next row is taken
pub row_again : (v : Version) (row : Row) (more : List ℕ) (reading next : Reading) → or_first reading.version ≡ v →
    IsShown row → row_of v (data_of row) ≡ Some row → row_taken reading row ≡ Ok next →
    read_on reading [] (row_text row ++ more) ≡ read_on next [] more
unfolding line_of
row_again v row more reading next is shown same taken =
    let body = compact_text (data_of row) in
    ap (read_on reading []) (append_assoc body (10 ∷ []) more)
    ∙ one_line reading [] body more shown.no_feed
    ∙ ap (λ (found : Result Row ScriptFault). after reading (λ next. read_on next [] more) (said reading found))
    (ap (λ (w : Version). row_in w body) is ∙ read_by v row shown same)
    ∙ ap (λ (found : Result Reading ScriptFault). after reading (λ next. read_on next [] more) found) taken

pub rows_again : (read : List Row) (reading now : Reading) → reading.version ≡ Some Second →
    AllByRecursion IsShown read → Takes reading read now → read_on reading [] (flat_map row_text read) ≡ finished now []
rows_again [] reading now is shown taken = ap (λ (r : Reading). finished r []) taken
rows_again (row ∷ others) reading now is shown taken =
    row_again Second row (flat_map row_text others) reading taken.0 (ap or_first is) shown.0 shown.0.again taken.1.0
    ∙ rows_again others taken.0 now (version_stays Second reading taken.0 row is taken.1.0) shown.1 taken.1.1
