-- The names of packages, sources, classes and functions: a signature has them with `/` between their parts, a client
-- with `.` (JNI specification, Types and Data Structures, Type Signatures; Java Language Specification, Fully Qualified
-- Names and Canonical Names).
use Rattle.std.specs.Prelude.{ℕ, List, ◌==◌, ◌&&◌, map, bytes_eq, Bool, false, if◌then◌else◌, Option, Some, None}
use Rattle.std.specs.Prelude.{option_map}
use Rattle.std.specs.List.{before_last, after_last, list_any}
use Rattle.class_tables.specs.Signatures.{class_path, package_in}
use Rattle.class_tables.specs.Views.{Key}
use Rattle.jdwp_values.specs.Lossy.{lossy}

-- the byte `/`
abbrev pub is_slash : ℕ → Bool
is_slash byte = byte == 47

-- the package and the file of a source: what stands before the last `/` of a text, and behind it
abbrev pub key_parts : List ℕ → Key
key_parts key = record { package_path = before_last is_slash key; file = after_last is_slash key }

-- two keys are one
abbrev pub same_key : Key → Key → Bool
same_key a b = bytes_eq a.package_path b.package_path && bytes_eq a.file b.file

-- a text is there, and is this one
abbrev pub is_text : List ℕ → Option (List ℕ) → Bool
is_text text None = false
is_text text (Some other) = bytes_eq text other

-- the byte `.`
abbrev pub is_dot : ℕ → Bool
is_dot byte = byte == 46

-- the name of a function's class stands before the last dot
abbrev pub class_named : List ℕ → List ℕ
class_named function = before_last is_dot function

-- the package of a function's class
abbrev pub package_named : List ℕ → List ℕ
package_named function = before_last is_dot (class_named function)

-- a function names a class: it has a dot
abbrev pub has_class : List ℕ → Bool
has_class function = list_any is_dot function

-- `.` in place of `/`
abbrev pub dotted : List ℕ → List ℕ
dotted path = map (λ byte. if is_slash byte then 46 else byte) path

-- a package, or a class, as a client names it, from the path that a signature has
abbrev pub package_name : List ℕ → List ℕ
package_name path = lossy (dotted path)

-- the name of a class, from its signature
abbrev pub name_in : List ℕ → Option (List ℕ)
name_in signature = option_map package_name (class_path signature)

-- A class is named by a function: its name and its package are those of the function's class. A text without a dot
-- names no class.
abbrev pub names_class : List ℕ → List ℕ → Bool
names_class signature function =
    has_class function && is_text (class_named function) (name_in signature)
    && is_text (package_named function) (option_map package_name (package_in signature))

-- the name of its method stands behind it
abbrev pub method_named : List ℕ → List ℕ
method_named function = after_last is_dot function
