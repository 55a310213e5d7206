-- Numbers and texts, as JSON values.
use Rattle.std.specs.Prelude.{ℕ, zero, suc, ℤ, pos, negsuc, ◌-◌, ◌^◌, ◌&&◌, nat_lt, nat_le, int_le, if◌then◌else◌, List}
use Rattle.std.specs.Prelude.{Option, Some, None, option_map, option_and_then}
use Rattle.std.specs.Int.{w64, cast_signed, cast_unsigned}
use Rattle.std.specs.Str.{is_utf8}
use Rattle.jdwp_values.specs.Lossy.{lossy}
use Rattle.serde_json.specs.Data.{Data, Num, unsigned, negative, float, null, number, string}
use Rattle.line_elements.specs.declared.version.Version.{Version}
use Rattle.line_elements.specs.declared.version.Version.TheVariants.{First, Second}
use Rattle.serde_json.specs.Find.{as_number, as_str, as_u64, as_integer, of_integer}

-- a number without a sign, at least so much and below the bound
abbrev pub natural_within : ℕ → ℕ → ℕ → Option ℕ
natural_within least bound n = if nat_le least n && nat_lt n bound then Some n else None

abbrev pub natural_of : ℕ → ℕ → Data → Option ℕ
natural_of least bound d = option_and_then (natural_within least bound) (option_and_then as_u64 (as_number d))

abbrev pub natural_data : ℕ → Data
natural_data n = number (unsigned n)

-- a number with a sign, from the least to the most
abbrev pub signed_within : ℤ → ℤ → ℤ → Option ℤ
signed_within least most z = if int_le least z && int_le z most then Some z else None

abbrev pub signed_of : ℤ → ℤ → Data → Option ℤ
signed_of least most d = option_and_then (signed_within least most) (option_and_then as_integer (as_number d))

abbrev pub signed_data : ℤ → Data
signed_data z = number (of_integer z)

-- numbers of 32 and of 64 bits
abbrev pub int_of : Data → Option ℤ
int_of = signed_of (negsuc (2 ^ 31 - 1)) (pos (2 ^ 31 - 1))

abbrev pub long_of : Data → Option ℤ
long_of = signed_of (negsuc (2 ^ 63 - 1)) (pos (2 ^ 63 - 1))

-- where a frame stands in its method's code, and -1 in a native method, for which 2^64 - 1 is kept
abbrev pub index_of : Data → Option ℕ
index_of d = option_map (cast_unsigned w64) (signed_of (negsuc 0) (pos (2 ^ 63 - 1)) d)

abbrev pub index_data : ℕ → Data
index_data n = number (of_integer (cast_signed w64 n))

-- a text in UTF-8
abbrev pub utf8_text : List ℕ → Option (List ℕ)
utf8_text s = if is_utf8 s then Some s else None

abbrev pub text_of : Data → Option (List ℕ)
text_of d = option_and_then utf8_text (as_str d)

-- bytes that are not UTF-8 are shown by what can be read of them
abbrev pub text_data : List ℕ → Data
text_data s = string (lossy s)

-- a text, or null where there is none
abbrev pub text_or_null_of : Data → Option (Option (List ℕ))
text_or_null_of null = Some None
text_or_null_of (Data.boolean b) = None
text_or_null_of (Data.number n) = None
text_or_null_of (Data.string s) = option_map Some (utf8_text s)
text_or_null_of (Data.array ds) = None
text_or_null_of (Data.object ms) = None

abbrev pub text_or_null_data : Option (List ℕ) → Data
text_or_null_data (Some s) = text_data s
text_or_null_data None = null

-- the version of a number, where it is known
abbrev pub version_at : ℕ → Option Version
version_at zero = None
version_at (suc zero) = Some First
version_at (suc (suc zero)) = Some Second
version_at (suc (suc (suc n))) = None

-- the same, where the number is an integer
abbrev pub known_version : Num → Option (Option Version)
known_version (unsigned n) = Some (version_at n)
known_version (negative z) = Some None
known_version (float x) = None

abbrev pub version_of : Data → Option (Option Version)
version_of d = option_and_then known_version (as_number d)

abbrev pub version_data : Option Version → Data
version_data None = natural_data 0
version_data (Some First) = natural_data 1
version_data (Some Second) = natural_data 2
