-- A script has one course. The laws stand here, over the words of the file beside it.
use Rattle.std.specs.Prelude.{◌≡◌, Bool, false, List}
use Rattle.wire_core.specs.declared.outside.Entry.{Entry}
use Rattle.script_courses.specs.Courses.{IsOne, doings, sends_of}
use Rattle.script_rows.specs.declared.script.Script.{Script}
use Rattle.script_wires.specs.Played.{Played}
use Rattle.script_wires.specs.Playing.{Playing}

-- Two sessions of one script in which the bridge did the same are one.
abbrev pub OneCourse : Type 0
OneCourse = (script : Script) (alone also : Bool) (log other : List Entry) (now last : Playing)
    (played : Played script alone log now) (again : Played script also other last) → doings played ≡ doings again
    → IsOne log other now last

-- Two in which both sides were reached and the bridge sent the same bytes at the same places are one.
abbrev pub OneLog : Type 0
OneLog = (script : Script) (log other : List Entry) (now last : Playing) → Played script false log now
    → Played script false other last → sends_of log ≡ sends_of other → IsOne log other now last
