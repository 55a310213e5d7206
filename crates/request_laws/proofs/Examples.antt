-- A request that is written, and read of its frame.
use Rattle.std.proofs.Common.{◌≡◌, ℕ, ◌-◌, ◌^◌, List, ◌++◌, Some, None, Ok, codes, refl}
use Rattle.std.specs.Float.Numeral.{scan_numeral}
use Rattle.std.specs.Fmt.{digits}
use Rattle.std.specs.Str.{chars, is_utf8}
use lib.Utf8.{encode}
use Rattle.json.specs.Json.{items, members, value}
use Rattle.json.specs.Lex.{lex, punctuate}
use Rattle.json.specs.Print.{escape_byte}
use Rattle.json.specs.Text.{content}
use Rattle.json.specs.Word.{after_number, word}
use Rattle.serde_json.specs.Data.{Data, number, object, unsigned, member, no_members}
use Rattle.serde_json.specs.Read.{number_of}
use Rattle.dap_frames.specs.Frames.{frame_front}
use Rattle.dap_messages.specs.Reading.{in_sequence, reading_of}
use Rattle.dap_messages.specs.declared.requests.Command.TheVariants.{Next}
use Rattle.dap_messages.specs.declared.requests.Incoming.TheVariants.{Request as a_request}
use Rattle.request_frames.specs.Requests.{request_frame}
use Rattle.wire_core.specs.Streams.{Front}

arguments : Data
arguments = object (member (codes "threadId") (number (unsigned 3)) no_members)

-- the request that the overview of the protocol shows, its members in the order of their names
text : List ℕ
text = codes "{\"arguments\":{\"threadId\":3},\"command\":\"next\",\"seq\":153,\"type\":\"request\"}"

written : request_frame 153 (codes "next") arguments ≡ codes "Content-Length: 72\r\n\r\n" ++ text
unfolding arguments text request_frame escape_byte digits
written = refl

-- the next one has begun behind it
cut : frame_front ((codes "Content-Length: 72\r\n\r\n" ++ text) ++ codes "Content-")
    ≡ Front.whole (record { header = 22; body = text }) 94
unfolding text frame_front
cut = refl

heard : reading_of text
    ≡ Ok (a_request (record { seq = 153; name = codes "next"; command = Next (record { thread_id = 3 }) }))
unfolding text reading_of chars is_utf8 encode lex punctuate content word after_number value items members number_of scan_numeral
heard = refl

-- the last number that a request may have, and the first that none has
last : in_sequence (2 ^ 53 - 1) ≡ Some 9007199254740991
last = refl

first_above : in_sequence (2 ^ 53) ≡ None
first_above = refl
