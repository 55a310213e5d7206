-- The locations at which entries are bound: a plain scan of the lists, the functions and the classes that are known.
use Rattle.std.specs.Prelude.{ℕ, ℤ, pos, int_lt, nat_abs, bytes_eq, Bool, true, false, if◌then◌else◌, List, [], ◌++◌}
use Rattle.std.specs.Prelude.{map, filter_map, flat_map, Option, Some, None, option_map}
use Rattle.class_tables.specs.Lines.{line_start}
use Rattle.class_tables.specs.Signatures.{package_in}
use Rattle.class_tables.specs.Views.{Key, binding_entries}
use Rattle.jdwp_values.specs.declared.class.LineTable.{LineTable}
use Rattle.jdwp_values.specs.declared.id.ClassId.{ClassId}
use Rattle.jdwp_values.specs.declared.id.MethodId.{MethodId}
use Rattle.jdwp_values.specs.declared.location.Location.{Location}
use Rattle.wish_sets.specs.declared.entry.FunctionEntry.{FunctionEntry}
use Rattle.wish_sets.specs.declared.entry.LineEntry.{LineEntry}
use Rattle.wish_sets.specs.declared.facts.KnownClass.{KnownClass}
use Rattle.wish_sets.specs.declared.facts.KnownMethod.{KnownMethod}
pub use Rattle.wish_sets.specs.declared.place.Place.{Place}
use Rattle.wish_sets.specs.Names.{key_parts, same_key, names_class, method_named}
use Rattle.wish_sets.specs.Wanted.{Wanted}

-- a location in a method of a class, with the tag of the class
abbrev pub location_at : ClassId → KnownClass → MethodId → ℕ → Location
location_at class facts method index =
    record { tag = facts.tag; class = class; method = method; index = index }

-- the location at which a line begins in a method, nowhere in a native one
abbrev pub line_location : ClassId → KnownClass → ℤ → KnownMethod → Option Location
line_location class facts line method =
    option_map (location_at class facts method.id) (line_start line (binding_entries (Some method.lines)))

-- the locations of a line: that at which it begins in each method that has it, in the order of the methods
abbrev pub line_locations : ClassId → KnownClass → ℤ → List Location
line_locations class facts line = filter_map (line_location class facts line) facts.methods

-- a plain entry has each location of its line
abbrev pub entry_places : ClassId → KnownClass → LineEntry → List Place
entry_places class facts entry =
    if entry.plain
    then map (λ at. record { id = entry.id; line = true; at = at }) (line_locations class facts entry.line)
    else []

-- a class is of a source: its key is that of the source
abbrev pub is_of_key : List ℕ → Option Key → Bool
is_of_key source None = false
is_of_key source (Some key) = same_key (key_parts source) key

-- the key that a signature and a source file make
abbrev pub key_by : List ℕ → Option (List ℕ) → Option Key
key_by signature None = None
key_by signature (Some file) =
    option_map (λ path. record { package_path = path; file = file }) (package_in signature)

-- The key of a class: none where it has no source file, and where its signature is not that of a class (JDWP,
-- ReferenceType command set, Signature and SourceFile).
abbrev pub key_of : KnownClass → Option Key
key_of facts = key_by facts.signature facts.source

-- those of a list, where the class is of its source
abbrev pub list_places : ClassId → KnownClass → List ℕ × List LineEntry → List Place
list_places class facts list =
    if is_of_key list.0 (key_of facts) then flat_map (entry_places class facts) list.1 else []

-- a method's code begins at the first index of its lines; a native method's, at -1, nowhere (JDWP, Method command set,
-- LineTable, start)
abbrev pub code_start : Option LineTable → Option ℕ
code_start None = None
code_start (Some table) = if int_lt table.start (pos 0) then None else Some (nat_abs table.start)

-- the location at which a method begins, where it has this name
abbrev pub method_location : ClassId → KnownClass → List ℕ → KnownMethod → Option Location
method_location class facts name method =
    if bytes_eq name method.name
    then option_map (location_at class facts method.id) (code_start method.lines)
    else None

-- the locations at which methods of this name begin, in a class that the function names
abbrev pub function_locations : ClassId → KnownClass → List ℕ → List Location
function_locations class facts function =
    if names_class facts.signature function
    then filter_map (method_location class facts (method_named function)) facts.methods
    else []

-- a plain function has each location at which a method that it names begins, in a class that it names
abbrev pub function_places : ClassId → KnownClass → FunctionEntry → List Place
function_places class facts entry =
    if entry.plain
    then map (λ at. record { id = entry.id; line = false; at = at }) (function_locations class facts entry.name)
    else []

-- Those in a class: none before it is known to be prepared (JDWP, Constants, ClassStatus, PREPARED), else those of the
-- lists of its source, and those of functions.
abbrev pub places_in : Wanted → ClassId × KnownClass → List Place
places_in wanted class =
    if class.1.prepared
    then flat_map (list_places class.0 class.1) wanted.lists
    ++ flat_map (function_places class.0 class.1) wanted.functions
    else []

-- the places of all entries, class by class
abbrev pub places : Wanted → List Place
places wanted = flat_map (places_in wanted) wanted.classes
