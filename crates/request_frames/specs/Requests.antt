-- The requests of a client, as they go on their way. (DAP specification, Base Protocol, Request)
use Rattle.std.specs.Prelude.{ℕ, List, codes}
use Rattle.serde_json.specs.Data.{Data, number, unsigned, string, object, no_members, member}
use Rattle.serde_json.specs.Written.{compact_text}
use Rattle.dap_frames.specs.Frames.{frame_bytes}

-- a request with this sequence number, its members in byte order of their names
abbrev pub request_data : ℕ → List ℕ → Data → Data
request_data seq command arguments =
    object (member (codes "arguments") arguments
    (member (codes "command") (string command)
    (member (codes "seq") (number (unsigned seq))
    (member (codes "type") (string (codes "request")) no_members))))

-- the frame of its compact text
unfoldable pub request_frame : ℕ → List ℕ → Data → List ℕ
request_frame seq command arguments = frame_bytes (compact_text (request_data seq command arguments))
