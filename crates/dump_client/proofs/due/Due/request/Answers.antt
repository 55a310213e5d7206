use Rattle.std.proofs.Common.{ap, ◌∙◌}
use Rattle.serde_json.specs.Written.{has_float}
use Rattle.dump_client.proofs.RequestLaws.{no_float}
use Rattle.dump_client.proofs.due.Due.request.Goals as goal

pub request_frame-requires : goal.request_frame-requires
request_frame-requires c = ap has_float c.in_ok-arguments.ensures ∙ no_float c.args.self
