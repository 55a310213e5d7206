-- Bits and their texts, worked out at their edges.
use Rattle.std.proofs.Common.{◌≡◌, ◌-◌, ◌^◌, codes, Some, None, refl}
use Rattle.std.specs.Fmt.{digits}
use Rattle.line_elements.specs.Bits.{bits_text, bits_of}

nothing_set : bits_text 0 ≡ codes "0x0"
unfolding bits_text digits
nothing_set = refl

letters_are_lower_case : bits_text 2989 ≡ codes "0xbad"
unfolding bits_text digits
letters_are_lower_case = refl

all_set : bits_text (2 ^ 64 - 1) ≡ codes "0xffffffffffffffff"
unfolding bits_text digits
all_set = refl

all_are_read : bits_of (codes "0xffffffffffffffff") ≡ Some (2 ^ 64 - 1)
unfolding bits_of
all_are_read = refl

one_more_is_none : bits_of (codes "0x10000000000000000") ≡ None
unfolding bits_of
one_more_is_none = refl

zeros_in_front_are_none : bits_of (codes "0x00") ≡ None
unfolding bits_of
zeros_in_front_are_none = refl

upper_case_is_none : bits_of (codes "0xA") ≡ None
unfolding bits_of
upper_case_is_none = refl

no_digit_is_none : bits_of (codes "0x") ≡ None
unfolding bits_of
no_digit_is_none = refl

no_sign_is_none : bits_of (codes "10") ≡ None
unfolding bits_of
no_sign_is_none = refl
