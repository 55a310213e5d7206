-- How long the compact text of a value is, at most.
use Rattle.std.proofs.Common.{ℕ, suc, ◌+◌, ◌<◌, ◌≤◌, ◌^◌, pos, negsuc, Bool, true, false, cond, List, [], ◌∷◌}
use Rattle.std.proofs.Common.{◌++◌, length, arith, decimal}
use Rattle.std.specs.Prelude.{◌/◌, ◌%◌, nat_lt}
use Rattle.std.specs.Char.{digit_char}
use Rattle.std.proofs.lemmas.List.{length-append}
use Rattle.std.proofs.lemmas.Fmt.{length-decimal-le}
use Rattle.json.specs.Print.{escape, escape_byte, escape_letter, quoted}
use Rattle.serde_json.specs.Data.{Num, unsigned, negative, float, Data, null, boolean, number, string, array, object}
use Rattle.serde_json.specs.Data.{Items, no_items, item, Members, no_members, member}
use Rattle.serde_json.specs.Written.{comma_if, compact_text, items_text, members_text, number_text}
use Rattle.json_lines.specs.Spelled.{IsNumber, IsSpelled, AreSpelled, AreMembers}

-- a text in quotes, each of its bytes escaped
abbrev quoted_room : List ℕ → ℕ
quoted_room [] = 2
quoted_room (byte ∷ text) = 6 + quoted_room text

-- at most so many bytes, whatever the numbers in it are
abbrev mutual
  pub room : Data → ℕ
  room null = 4
  room (boolean b) = 5
  room (number n) = 21
  room (string s) = quoted_room s
  room (array ds) = 1 + items_room ds
  room (object ms) = 1 + members_room ms

  items_room : Items → ℕ
  items_room no_items = 1
  items_room (item d ds) = 1 + (room d + items_room ds)

  members_room : Members → ℕ
  members_room no_members = 1
  members_room (member k d ms) = 1 + (quoted_room k + (1 + (room d + members_room ms)))

-- Texts ---------------------------------------------------------------------------------------------------------------

one_of : (b : Bool) (x y : List ℕ) → length x ≤ 6 → length y ≤ 6 → length (cond b x y) ≤ 6
one_of true x y first second = first
one_of false x y first second = second

escape_few : (byte : ℕ) → length (escape_byte byte) ≤ 6
unfolding escape_byte
escape_few byte =
    let short : List ℕ = 92 ∷ escape_letter byte ∷ [] in
    let long : List ℕ = 92 ∷ 117 ∷ 48 ∷ 48 ∷ digit_char (byte / 16) ∷ digit_char (byte % 16) ∷ [] in
    let plain : List ℕ = byte ∷ [] in
    one_of (nat_lt 0 (escape_letter byte)) short (cond (nat_lt byte 32) long plain) (omega arith)
    (one_of (nat_lt byte 32) long plain (omega arith) (omega arith))

escape_room : (text : List ℕ) → length (escape text) + 2 ≤ quoted_room text
escape_room [] = omega arith
escape_room (byte ∷ text) =
    omega (arith, length-append (escape_byte byte) (escape text), escape_few byte, escape_room text)

quoted_fits : (text : List ℕ) → length (quoted text) ≤ quoted_room text
quoted_fits text = omega (arith, length-append (escape text) (34 ∷ []), escape_room text)

-- Values --------------------------------------------------------------------------------------------------------------

decimal_fits : (n : ℕ) → n < 2 ^ 64 → length (decimal n) ≤ 20
decimal_fits n small = length-decimal-le 20 n (omega arith) (omega arith) small

number_fits : (n : Num) → IsNumber n → length (number_text n) ≤ 21
number_fits (unsigned n) small = omega (arith, decimal_fits n small)
number_fits (negative (pos n)) small = absurd small
number_fits (negative (negsuc n)) small = omega (arith, decimal_fits (suc n) (omega (arith, small)))
number_fits (float x) small = omega arith

comma_fits : (later : Bool) → length (comma_if later) ≤ 1
comma_fits true = omega arith
comma_fits false = omega arith

mutual
  pub text_fits : (d : Data) → IsSpelled d → length (compact_text d) ≤ room d
  text_fits null spelled = omega arith
  text_fits (boolean true) spelled = omega arith
  text_fits (boolean false) spelled = omega arith
  text_fits (number n) spelled = number_fits n spelled
  text_fits (string s) spelled = quoted_fits s
  text_fits (array ds) spelled = omega (arith, items_fit false ds spelled)
  text_fits (object ms) spelled = omega (arith, members_fit false ms spelled)

  items_fit : (later : Bool) (ds : Items) → AreSpelled ds → length (items_text later ds) ≤ items_room ds
  items_fit later no_items spelled = omega arith
  items_fit later (item d ds) spelled =
      omega (
        arith,
        length-append (comma_if later) (compact_text d ++ items_text true ds),
        length-append (compact_text d) (items_text true ds),
        comma_fits later,
        text_fits d spelled.0,
        items_fit true ds spelled.1,
      )

  members_fit : (later : Bool) (ms : Members) → AreMembers ms → length (members_text later ms) ≤ members_room ms
  members_fit later no_members spelled = omega arith
  members_fit later (member k d ms) spelled =
      omega (
        arith,
        length-append (comma_if later) (quoted k ++ 58 ∷ (compact_text d ++ members_text true ms)),
        length-append (quoted k) (58 ∷ (compact_text d ++ members_text true ms)),
        length-append (compact_text d) (members_text true ms),
        comma_fits later,
        quoted_fits k,
        text_fits d spelled.1.0,
        members_fit true ms spelled.1.1.1,
      )
