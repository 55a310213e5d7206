-- The package in a class's signature: `L`, the path of the class, `;` (JNI specification, Types and Data Structures,
-- Type Signatures).
use Rattle.std.specs.Prelude.{◌≢◌, ℕ, ◌-◌, ◌==◌, ◌&&◌, if◌then◌else◌, nat_eq, List, take, drop, length, codes}
use Rattle.std.specs.Prelude.{Option, Some, None, option_map}
use Rattle.std.specs.List.{starts_with, ends_with, before_last, AllByRecursion}

-- the path in a class's signature; an array's and a primitive type's have none
abbrev pub class_path : List ℕ → Option (List ℕ)
class_path signature =
    if starts_with nat_eq signature (codes "L") && ends_with nat_eq signature (codes ";")
    then Some (take (length signature - 2) (drop 1 signature))
    else None

-- the package of a class's path: what stands before its last `/`, nothing in the default package
abbrev pub package_of : List ℕ → List ℕ
package_of path = before_last (λ byte. byte == 47) path

-- the package in a class's signature
abbrev pub package_in : List ℕ → Option (List ℕ)
package_in signature = option_map package_of (class_path signature)

-- a name that a class may have in its package
abbrev pub HasNoSlash : List ℕ → Type 0
HasNoSlash name = AllByRecursion (λ byte. byte ≢ 47) name
