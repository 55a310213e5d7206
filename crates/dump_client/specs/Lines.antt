-- The lines of a dump.
use Rattle.std.specs.Prelude.{ℕ, ℤ, List, ◌++◌, codes, decimal}
use Rattle.std.specs.Fmt.{signed_decimal}
use Rattle.value_views.specs.Quotes.{quote}

-- a thread: the number under which it was told, and its name in quotes
abbrev pub thread_line : ℕ → List ℕ → List ℕ
thread_line number name = codes "thread " ++ decimal number ++ codes " " ++ quote name ++ codes "\n"

-- a frame: its place in the stack, from 0 at the top, its name, and its line
abbrev pub frame_line : ℕ → List ℕ → ℤ → List ℕ
frame_line place name at =
    codes "  #" ++ decimal place ++ codes " " ++ name ++ codes ":" ++ signed_decimal at ++ codes "\n"

-- a variable: its name, its type and its value
abbrev pub variable_line : List ℕ → List ℕ → List ℕ → List ℕ
variable_line name kind value = codes "    " ++ name ++ codes ": " ++ kind ++ codes " = " ++ value ++ codes "\n"

-- a request that failed, behind these blanks: its code
abbrev pub failure_line : List ℕ → ℕ → List ℕ
failure_line blanks code = blanks ++ codes "failed " ++ decimal code ++ codes "\n"

-- the last line: how many threads there are
abbrev pub end_line : ℕ → List ℕ
end_line threads = codes "end " ++ decimal threads ++ codes "\n"
