-- What the program prints and the status that it ends with, for each outcome of a run.
use Rattle.std.specs.Prelude.{ℕ, ◌≡◌, Bool, true, false, if◌then◌else◌, nat_eq, List, ◌++◌, codes, decimal}
use Rattle.run_outcomes.specs.declared.printing.Outcome.{Outcome}
use Rattle.run_outcomes.specs.declared.printing.Outcome.TheVariants.{Misused, NotOpened, NotUsed, BadLine, Logged, Summed}
use Rattle.run_outcomes.specs.declared.printing.Outcome.TheVariants.{TooLong as too_long, Dumped, TargetGone, Ended}
use Rattle.command_words.specs.Forms.{usage_line}
use Rattle.dap_frames.specs.declared.fault.FrameFault.{FrameFault}
use Rattle.dap_frames.specs.declared.fault.FrameFault.TheVariants.{NoLength, TwoLengths, BadLength, TooLong}
use Rattle.dap_frames.specs.declared.fault.FrameFault.TheVariants.{HeaderTooLong, BadHeader}
use Rattle.jdwp_packets.specs.declared.fault.PacketFault.{PacketFault}
use Rattle.jdwp_packets.specs.declared.fault.PacketFault.TheVariants.{BadHandshake, ShortLength, BadFlags}
use Rattle.jdwp_packets.specs.declared.fault.PacketFault.TheVariants.{TooLong as packet_too_long}
use Rattle.script_text.specs.declared.log.ScriptFault.{ScriptFault}
use Rattle.script_text.specs.declared.log.ScriptFault.TheVariants.{NotUtf8, BadShape, BadVersion, BadOrder, NoEnd}
use Rattle.script_text.specs.declared.log.ScriptFault.TheVariants.{RepeatedId, UnknownId, BadMove, AfterEnd}
use Rattle.script_text.specs.declared.log.ScriptFault.TheVariants.{NotJson as no_json}
use Rattle.wire_core.specs.Output.{Printed, Appends, FailsToWrite}
use Rattle.session_endings.specs.declared.ending.ClientFault.{ClientFault}
use Rattle.session_endings.specs.declared.ending.ClientFault.TheVariants.{Frame, NotJson, NotAMessage}
use Rattle.session_endings.specs.declared.ending.Ending.{Ending}
use Rattle.session_endings.specs.declared.ending.Ending.TheVariants.{Done, Left, BadClient, BadTarget, ClientLink}
use Rattle.session_endings.specs.declared.ending.Ending.TheVariants.{TargetLink, TargetRefused, Idle, Spent, Flood}
use Rattle.session_endings.specs.declared.ending.Ending.TheVariants.{NoMemory}
use Rattle.session_endings.specs.declared.ending.TargetFault.{TargetFault}
use Rattle.session_endings.specs.declared.ending.TargetFault.TheVariants.{Packet, Short, BadTag, BadCount, BadKind}
use Rattle.session_endings.specs.declared.ending.TargetFault.TheVariants.{BadPolicy, Trailing, BadSizes, PolicyThread}
use Rattle.session_endings.specs.declared.ending.TargetFault.TheVariants.{BadCommand, UnknownReply}

-- the name of a fault of a frame
abbrev pub frame_fault_name : FrameFault → List ℕ
frame_fault_name NoLength = codes "NoLength"
frame_fault_name TwoLengths = codes "TwoLengths"
frame_fault_name BadLength = codes "BadLength"
frame_fault_name TooLong = codes "TooLong"
frame_fault_name HeaderTooLong = codes "HeaderTooLong"
frame_fault_name BadHeader = codes "BadHeader"

-- the name under which a fault of the client's bytes is told
abbrev pub client_fault_name : ClientFault → List ℕ
client_fault_name (Frame fault) = frame_fault_name fault
client_fault_name NotJson = codes "NotJson"
client_fault_name NotAMessage = codes "NotAMessage"

-- the line of a fault of the client's bytes, with its offset in the client's stream
abbrev pub client_fault_line : ClientFault → ℕ → List ℕ
client_fault_line fault at =
    codes "ended 3 client " ++ client_fault_name fault ++ codes " at " ++ decimal at ++ codes "\n"

-- the name of a fault of a packet
abbrev pub packet_fault_name : PacketFault → List ℕ
packet_fault_name BadHandshake = codes "BadHandshake"
packet_fault_name ShortLength = codes "ShortLength"
packet_fault_name packet_too_long = codes "TooLong"
packet_fault_name BadFlags = codes "BadFlags"

-- the name under which a fault of the target's bytes is told
abbrev pub target_fault_name : TargetFault → List ℕ
target_fault_name (Packet fault) = packet_fault_name fault
target_fault_name Short = codes "Short"
target_fault_name BadTag = codes "BadTag"
target_fault_name BadCount = codes "BadCount"
target_fault_name BadKind = codes "BadKind"
target_fault_name BadPolicy = codes "BadPolicy"
target_fault_name Trailing = codes "Trailing"
target_fault_name BadSizes = codes "BadSizes"
target_fault_name PolicyThread = codes "PolicyThread"
target_fault_name BadCommand = codes "BadCommand"
target_fault_name UnknownReply = codes "UnknownReply"

-- only this fault is told with an id
abbrev pub is_unknown_reply : TargetFault → Bool
is_unknown_reply UnknownReply = true
is_unknown_reply _ = false

-- what is told under a name, with its offset
abbrev pub named_at : List ℕ → ℕ → List ℕ
named_at name at = name ++ codes " at " ++ decimal at

-- the line of a fault of the target's bytes, with its offset in the target's stream, and of a reply to no command also
-- with the id that it answers (JDWP, JDWP Packets, reply packet)
abbrev pub target_fault_line : TargetFault → ℕ → ℕ → List ℕ
target_fault_line fault at id = codes "ended 4 target " ++ named_at (target_fault_name fault) at
    ++ (if is_unknown_reply fault then codes " id " ++ decimal id ++ codes "\n" else codes "\n")

-- the number of a command: its set, and its number in that (JDWP, JDWP Packets, command packet); then what follows
abbrev pub command_then : ℕ → ℕ → List ℕ → List ℕ
command_then set command rest = decimal set ++ (codes "." ++ (decimal command ++ rest))

-- the line of a command that the target refused with an error
abbrev pub refused_line : ℕ → ℕ → ℕ → List ℕ
refused_line set command code =
    codes "ended 11 refused " ++ command_then set command (codes " error " ++ (decimal code ++ codes "\n"))

-- the line of a session's ending
unfoldable pub line_of_ending : Ending → List ℕ
line_of_ending Done = codes "ended 0 done\n"
line_of_ending Left = codes "ended 1 left\n"
line_of_ending (BadClient fault at) = client_fault_line fault at
line_of_ending (BadTarget fault at id) = target_fault_line fault at id
line_of_ending ClientLink = codes "ended 5 client link\n"
line_of_ending TargetLink = codes "ended 6 target link\n"
line_of_ending (TargetRefused set command code) = refused_line set command code
line_of_ending Idle = codes "ended 12 idle\n"
line_of_ending Spent = codes "ended 13 turns\n"
line_of_ending Flood = codes "ended 14 flood\n"
line_of_ending NoMemory = codes "ended 70 memory\n"

-- the status of a session's ending
abbrev pub status_of_ending : Ending → ℕ
status_of_ending Done = 0
status_of_ending Left = 1
status_of_ending (BadClient fault at) = 3
status_of_ending (BadTarget fault at id) = 4
status_of_ending ClientLink = 5
status_of_ending TargetLink = 6
status_of_ending (TargetRefused set command code) = 11
status_of_ending Idle = 12
status_of_ending Spent = 13
status_of_ending Flood = 14
status_of_ending NoMemory = 70

-- the name of a fault of a line, of a script or a session log
abbrev pub line_fault_name : ScriptFault → List ℕ
line_fault_name NotUtf8 = codes "NotUtf8"
line_fault_name no_json = codes "NotJson"
line_fault_name BadShape = codes "BadShape"
line_fault_name BadVersion = codes "BadVersion"
line_fault_name BadOrder = codes "BadOrder"
line_fault_name RepeatedId = codes "RepeatedId"
line_fault_name UnknownId = codes "UnknownId"
line_fault_name BadMove = codes "BadMove"
line_fault_name NoEnd = codes "NoEnd"
line_fault_name AfterEnd = codes "AfterEnd"

-- the line that tells a text's first faulty line, by its number
abbrev pub faulty_line : ℕ → ScriptFault → List ℕ
faulty_line line kind =
    codes "ended 10 script line " ++ (decimal line ++ (codes " " ++ (line_fault_name kind ++ codes "\n")))

-- what is printed of an outcome
unfoldable pub text_of : Outcome → List ℕ
text_of Misused = usage_line
text_of NotOpened = codes "ended 7 not opened\n"
text_of NotUsed = codes "ended 8 file\n"
text_of too_long = codes "ended 10 script line 0 TooLong\n"
text_of (BadLine line kind) = faulty_line line kind
text_of (Logged log) = log
text_of (Summed lines) = lines
text_of (Dumped text) = text
text_of TargetGone = codes "ended 15 target gone\n"
text_of (Ended ending) = line_of_ending ending

-- the status of an outcome
abbrev pub status_of : Outcome → ℕ
status_of Misused = 2
status_of NotOpened = 7
status_of NotUsed = 8
status_of too_long = 10
status_of (BadLine line kind) = 10
status_of (Logged log) = 0
status_of (Summed lines) = 0
status_of (Dumped text) = 0
status_of TargetGone = 15
status_of (Ended ending) = status_of_ending ending

-- the status in place of another where the text could not be written: that of want of memory stays
abbrev pub unprinted_status : ℕ → ℕ
unprinted_status status = if nat_eq status 70 then 70 else 9

-- What printing a text does, and the status that comes of the one that goes with it: the text is printed whole; the
-- output failed, maybe within it; or memory ran out, and nothing was printed.
pub data Prints (old new : Printed) (text : List ℕ) (wanted : ℕ) : ℕ → Type 0 where
  prints : Appends old new text → Prints old new text wanted wanted
  fails : FailsToWrite old new text → Prints old new text wanted (unprinted_status wanted)
  forgets : new.bytes ≡ old.bytes → Prints old new text wanted 70
