-- Texts and chars as they are shown in quotes (Java Language Specification, Lexical Structure, Character Literals,
-- String Literals and Escape Sequences).
use Rattle.std.specs.Prelude.{ℕ, List, [], ◌∷◌, ◌++◌, ◌==◌, ◌-◌, length, replicate, take, flat_map, codes, nat_lt}
use Rattle.std.specs.Prelude.{false, if◌then◌else◌}
use Rattle.std.specs.Char.{encode_utf8, is_ascii_control}
use Rattle.std.specs.Fmt.{digits}
use Rattle.std.specs.Int.{is_in_range}
use Rattle.std.specs.Str.{chars}
use Rattle.jdwp_values.specs.Lossy.{lossy}

-- a number in lower-case hexadecimal, with so many digits at least
abbrev pub hexadecimal : ℕ → ℕ → List ℕ
hexadecimal width n = replicate (width - length (digits 16 false n)) 48 ++ digits 16 false n

-- `\u` and four digits
abbrev pub escaped : ℕ → List ℕ
escaped n = codes "\\u" ++ hexadecimal 4 n

-- A char of the target, without its quotes: `'` and `\` behind `\`, another printing character of ASCII as itself, any
-- other by its number.
abbrev pub char_inside : ℕ → List ℕ
char_inside n =
    if n == 39 then codes "\\'" else (if n == 92 then codes "\\\\" else
    (if is_in_range 32 126 n then n ∷ [] else escaped n))

-- a char of the target
abbrev pub char_text : ℕ → List ℕ
char_text n = codes "'" ++ char_inside n ++ codes "'"

-- A character of a string, in the string's quotes: `"` and `\` behind `\`, the ends of lines and the tab by a letter,
-- another control character of ASCII by its number, any other as itself.
abbrev pub quoted_char : ℕ → List ℕ
quoted_char c =
    if c == 34 then codes "\\\"" else (if c == 92 then codes "\\\\" else (if c == 10 then codes "\\n" else
    (if c == 13 then codes "\\r" else (if c == 9 then codes "\\t" else
    (if is_ascii_control c then escaped c else encode_utf8 c)))))

-- how many characters of a string are shown
abbrev pub shown_chars : ℕ
shown_chars = 1000

-- characters in quotes, and dots where more of them follow
abbrev pub quoted : List ℕ → List ℕ
quoted cs = codes "\"" ++ flat_map quoted_char (take shown_chars cs) ++ codes "\""
    ++ (if nat_lt shown_chars (length cs) then codes "..." else [])

-- a string of the target, by its bytes, in quotes
unfoldable pub quote : List ℕ → List ℕ
quote bytes = quoted (chars (lossy bytes))
