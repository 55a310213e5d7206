-- The JSON of a told message. (DAP specification, Base Protocol, Response, ErrorResponse and Event)
use Rattle.std.specs.Prelude.{ℕ, List, [], ◌∷◌, ◌++◌, true, false, codes, Option}
use Rattle.serde_json.specs.Data.{Data, string, boolean}
use Rattle.serde_json.specs.Written.{compact_text}
use Rattle.dap_messages.specs.Objects.{body_member, count, object_of}
use Rattle.dap_messages.specs.Bodies.{shape_data}
use Rattle.dap_messages.specs.Events.{event_data}
use Rattle.dap_messages.specs.Failures.{error_data, message_of}
pub use Rattle.dap_messages.specs.Failures.{unsupported, bad_arguments, already_attached, not_attached, target_gone}
pub use Rattle.dap_messages.specs.Failures.{not_stopped, stale, unknown_reference, wrong_kind, unknown_thread}
pub use Rattle.dap_messages.specs.Failures.{target_error, references_spent}
pub use Rattle.dap_messages.specs.Failures.{no_such_name, bad_expression, bad_index, not_writable}
use Rattle.dap_messages.specs.declared.told.Told.{Told}
use Rattle.dap_messages.specs.declared.told.Told.TheVariants as told
use Rattle.dap_messages.specs.declared.told.Response.{Response}
use Rattle.dap_messages.specs.declared.told.Outcome.{Outcome}
use Rattle.dap_messages.specs.declared.told.Outcome.TheVariants.{Success, Failure as Failed}
use Rattle.dap_messages.specs.declared.told.Failure.{Failure}

-- a response that succeeds (DAP specification, Base Protocol, Response)
abbrev pub answer_data : ℕ → ℕ → List ℕ → Option Data → Data
answer_data seq request_seq command body = object_of (body_member body ++
    (codes "command", string command) ∷
    (codes "request_seq", count request_seq) ∷
    (codes "seq", count seq) ∷
    (codes "success", boolean true) ∷
    (codes "type", string (codes "response")) ∷ [])

-- a response that fails (DAP specification, Base Protocol, ErrorResponse)
abbrev pub failure_data : ℕ → ℕ → List ℕ → Failure → Data
failure_data seq request_seq command failure = object_of (
    (codes "body", error_data failure) ∷
    (codes "command", string command) ∷
    (codes "message", string (message_of failure.code)) ∷
    (codes "request_seq", count request_seq) ∷
    (codes "seq", count seq) ∷
    (codes "success", boolean false) ∷
    (codes "type", string (codes "response")) ∷ [])

-- a response that succeeds or fails
abbrev pub outcome_data : ℕ → ℕ → List ℕ → Outcome → Data
outcome_data seq request_seq command (Success shape) = answer_data seq request_seq command (shape_data shape)
outcome_data seq request_seq command (Failed failure) = failure_data seq request_seq command failure

-- a response, with the number and the name of its request (DAP specification, Base Protocol, `request_seq`)
abbrev pub response_data : ℕ → Response → Data
response_data seq response = outcome_data seq response.request_seq response.command response.outcome

-- a message (DAP specification, Base Protocol, ProtocolMessage)
abbrev pub told_data : ℕ → Told → Data
told_data seq (told.Response response) = response_data seq response
told_data seq (told.Event event) = event_data seq event

-- the text of a told message: compact, with the members of each object in byte order of their names
unfoldable pub told_text : ℕ → Told → List ℕ
told_text seq message = compact_text (told_data seq message)
