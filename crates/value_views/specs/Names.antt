-- The names of types (JNI specification, Types and Data Structures, Type Signatures; Java Language Specification,
-- Types, Values, and Variables).
use Rattle.std.specs.Prelude.{ℕ, zero, suc, List, [], ◌∷◌, ◌++◌, ◌==◌, ◌&&◌, ◌-◌, take, drop, length, map}
use Rattle.std.specs.Prelude.{codes, nat_eq, if◌then◌else◌, find, Option, None, Some, option_map, unwrap_or}
use Rattle.std.specs.List.{starts_with, ends_with}
use Rattle.jdwp_values.specs.Lossy.{lossy}

-- the primitive types, each behind the byte of its signature
abbrev pub primitives : List (ℕ × List ℕ)
primitives = (66, codes "byte") ∷ (67, codes "char") ∷ (68, codes "double") ∷ (70, codes "float") ∷ (73, codes "int")
    ∷ (74, codes "long") ∷ (83, codes "short") ∷ (90, codes "boolean") ∷ (86, codes "void") ∷ []

-- the primitive type of a byte
abbrev pub primitive_of : ℕ → Option (List ℕ)
primitive_of byte = option_map (λ row. row.1) (find (λ row. row.0 == byte) primitives)

-- the primitive type in a signature: the byte stands alone
abbrev pub primitive_in : List ℕ → Option (List ℕ)
primitive_in [] = None
primitive_in (byte ∷ []) = primitive_of byte
primitive_in (byte ∷ next ∷ bytes) = None

-- the path in a class's signature, between `L` and `;`
abbrev pub class_path : List ℕ → Option (List ℕ)
class_path signature =
    if starts_with nat_eq signature (codes "L") && ends_with nat_eq signature (codes ";")
    then Some (take (length signature - 2) (drop 1 signature))
    else None

-- a byte of a class's path, as it stands in the class's name: `.` for `/`
abbrev pub dot_for : ℕ → ℕ
dot_for byte = if byte == 47 then 46 else byte

-- a class's path as text, with `.` where it has `/`
abbrev pub dotted : List ℕ → List ℕ
dotted path = lossy (map dot_for path)

-- a class's name; what is no class's signature is shown as it is
abbrev pub class_or_text : Option (List ℕ) → List ℕ → List ℕ
class_or_text None signature = lossy signature
class_or_text (Some path) signature = dotted path

-- the name of a type that is no array
abbrev pub plain_name : List ℕ → List ℕ
plain_name signature = unwrap_or (primitive_in signature) (class_or_text (class_path signature) signature)

-- the signature of an array's elements, behind `[`
abbrev pub element_in : List ℕ → Option (List ℕ)
element_in [] = None
element_in (byte ∷ bytes) = if byte == 91 then Some bytes else None

-- the name of a type: an array's is that of its elements, and `[]`
abbrev pub class_name : List ℕ → List ℕ
class_name [] = plain_name []
class_name (byte ∷ bytes) = if byte == 91 then class_name bytes ++ codes "[]" else plain_name (byte ∷ bytes)

-- the brackets behind the name of an array's innermost elements, a pair for each dimension
abbrev pub brackets : ℕ → List ℕ
brackets zero = []
brackets (suc dimensions) = codes "[]" ++ brackets dimensions
