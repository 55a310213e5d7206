use Rattle.std.proofs.Common.{◌≡◌, ◌++◌, drop, length}
use Rattle.serde_json.specs.View.{items_view}
use Rattle.dump_client.specs.Answers.{frames_from}
use Rattle.dump_client.proofs.answers.frames_among.Given as goal

abbrev pub invariant-loop-frame : goal.invariant-loop-frame
invariant-loop-frame l =
    frames_from 0 (items_view l.frames)
    ≡ l.headings ++ frames_from (length l.headings) (items_view (drop l.frame-index l.frames))
