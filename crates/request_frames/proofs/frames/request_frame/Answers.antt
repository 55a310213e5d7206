use Rattle.std.proofs.Common.{◌≡◌, ℕ, List, IfOk, ap, subst, ◌∙◌}
use Rattle.dap_frames.specs.Frames.{frame_bytes}
use Rattle.serde_json.specs.Data.{Data}
use Rattle.serde_json.specs.View.{view}
use Rattle.serde_json.specs.Written.{compact_text, has_float}
use Rattle.request_frames.specs.Requests.{request_frame}
use Rattle.request_frames.proofs.RequestLaws.{no_float}
use Rattle.request_frames.proofs.frames.request_frame.Goals as goal

pub framed-requires : goal.framed-requires
framed-requires c =
    ap has_float c.in_ok-value.ensures
    ∙ no_float c.args.seq c.args.command.now (view c.args.arguments.now) c.requires

pub returns : goal.returns
unfolding request_frame
returns c =
    subst (λ (d : Data). IfOk c.framed.result (λ bytes. bytes ≡ frame_bytes (compact_text d))) c.in_ok-value.ensures
    c.framed.ensures
