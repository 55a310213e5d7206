-- A request is read of its frame.
use Rattle.std.proofs.Common.{◌≡◌, ℕ, ◌<◌, ◌≤◌, ◌^◌, Bool, true, List, Option, Some, None, Ok, Err, if◌then◌else◌, codes}
use Rattle.std.proofs.Common.{decimal, length, ◌++◌, refl, ap, ◌∙◌, arith}
use Rattle.std.specs.Str.{IsUtf8, chars, is_utf8}
use Rattle.std.proofs.lemmas.Bool.{lt-ltb}
use Rattle.std.proofs.lemmas.Str.{IsUtf8-from_is_utf8}
use lib.Utf8.{encode}
use Rattle.serde_json.specs.Data.{Data, depth, member, no_members, number, string, unsigned}
use Rattle.serde_json.specs.Read.{max_depth, read}
use Rattle.serde_json.specs.Written.{compact_text}
use Rattle.json_lines.specs.Lines.{IsLine}
use Rattle.json_lines.specs.Spelled.{AreMembers, IsSpelled}
use Rattle.json_lines.proofs.AgainLaws.{is_line}
use Rattle.dap_frames.proofs.FrameLaws.{frame-again}
use Rattle.dap_messages.specs.Reading.{in_sequence, numbered_request, reading_of, reading_of_value}
use Rattle.dap_messages.specs.declared.requests.Incoming.TheVariants.{Request as a_request}
use Rattle.dap_messages.specs.declared.requests.ReadFault.TheVariants.{NotJson}
use Rattle.request_frames.specs.Requests.{request_data, request_frame}
use Rattle.request_frames.proofs.RequestLaws.{no_float}
use Rattle.request_laws.specs.Hearing.{CanBeRead, IsHeardAs, request_read}

-- The value -----------------------------------------------------------------------------------------------------------

utf8_literal : (text : List ℕ) → is_utf8 text ≡ true → IsUtf8 text
utf8_literal text e = IsUtf8-from_is_utf8 text e

-- the value of a request can be spelled
pub spelled : (seq : ℕ) (command : List ℕ) (arguments : Data) → seq < 2 ^ 53 → IsUtf8 command → IsSpelled arguments
    → IsSpelled (request_data seq command arguments)
unfolding chars is_utf8 encode
spelled seq command arguments small name are =
    (utf8_literal (codes "arguments") refl, (are, ((refl, (refl, (refl, tt))), command_on)))
  where
    type_on : AreMembers (member (codes "type") (string (codes "request")) no_members)
    type_on = (utf8_literal (codes "type") refl, (utf8_literal (codes "request") refl, (tt, tt)))

    seq_on : AreMembers (member (codes "seq") (number (unsigned seq))
        (member (codes "type") (string (codes "request")) no_members))
    seq_on = (utf8_literal (codes "seq") refl, (omega (arith, small), ((refl, tt), type_on)))

    command_on : AreMembers (member (codes "command") (string command) (member (codes "seq") (number (unsigned seq))
        (member (codes "type") (string (codes "request")) no_members)))
    command_on = (utf8_literal (codes "command") refl, (name, ((refl, (refl, tt)), seq_on)))

shallow : (seq : ℕ) (command : List ℕ) (arguments : Data) → depth arguments < max_depth
    → depth (request_data seq command arguments) ≤ max_depth
shallow seq command arguments less = omega arith

-- so it is read of its text
line : (seq : ℕ) (command : List ℕ) (arguments : Data) → CanBeRead seq command arguments
    → IsLine (request_data seq command arguments)
line seq command arguments can =
    is_line (request_data seq command arguments) (spelled seq command arguments can.in_sequence can.name
    can.spelled) (shallow seq command arguments can.shallow) (no_float seq command arguments can.plain)

-- The message ---------------------------------------------------------------------------------------------------------

numbered : (seq : ℕ) → seq < 2 ^ 53 → in_sequence seq ≡ Some seq
numbered seq small = ap (λ (b : Bool). if b then Some seq else None) (lt-ltb seq (2 ^ 53) small)

reads : (seq : ℕ) (command : List ℕ) (arguments : Data) → CanBeRead seq command arguments
    → reading_of (compact_text (request_data seq command arguments)) ≡ Ok (a_request (request_read seq command arguments))
unfolding reading_of
reads seq command arguments can =
    let is = line seq command arguments can in
    ap (λ (b : Bool). if b then reading_of_value (read (compact_text (request_data seq command arguments))) else Err NotJson)
    is.utf8
    ∙ ap reading_of_value is.is_read
    ∙ ap (λ (n : Option ℕ). numbered_request n (Some command) (request_data seq command arguments))
    (numbered seq can.in_sequence)

-- The frame -----------------------------------------------------------------------------------------------------------

pub heard_as : (seq : ℕ) (command : List ℕ) (arguments : Data) → CanBeRead seq command arguments
    → IsHeardAs (request_read seq command arguments) (request_frame seq command arguments)
unfolding request_frame
heard_as seq command arguments can =
    let body : List ℕ = compact_text (request_data seq command arguments) in
    record {
      frame = record { header = length (codes "Content-Length: " ++ decimal (length body) ++ codes "\r\n\r\n"); body = body };
      cut = λ more. frame-again body more can.short;
      reads = reads seq command arguments can;
    }
