use Rattle.std.proofs.Common.{◌≡◌, ℕ, List, IfOk, ap, subst, ◌∙◌}
use Rattle.dap_frames.specs.Frames.{frame_bytes}
use Rattle.serde_json.specs.Data.{Data}
use Rattle.serde_json.specs.View.{view}
use Rattle.serde_json.specs.Written.{compact_text, has_float}
use Rattle.script_wires.specs.Requests.{request_data, request_frame}
use Rattle.script_wires.proofs.RequestLaws.{no_float}
use Rattle.script_wires.proofs.requests.request_frame.Goals as goal

pub framed-requires : goal.framed-requires
framed-requires c =
    ap has_float c.in_ok-value.ensures
    ∙ no_float c.args.seq c.as_str.result.now (view c.value.result.now) (ap has_float c.value.ensures.value ∙ c.value.ensures.plain)

pub returns : goal.returns
unfolding request_frame
returns c =
    let is = c.in_ok-value.ensures
    ∙ (ap (λ (text : List ℕ). request_data c.args.seq text (view c.value.result.now)) c.as_str.ensures
    ∙ ap (λ (d : Data). request_data c.args.seq c.args.command.now d) c.value.ensures.value) in
    subst (λ (d : Data). IfOk c.framed.result (λ bytes. bytes ≡ frame_bytes (compact_text d))) is c.framed.ensures
