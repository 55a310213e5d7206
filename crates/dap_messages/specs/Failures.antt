-- The failures of requests. (DAP specification, Base Protocol, ErrorResponse; Types, Message)
use Rattle.std.specs.Prelude.{ℕ, ◌==◌, List, [], ◌∷◌, ◌++◌, if◌then◌else◌, codes, decimal}
use Rattle.serde_json.specs.Data.{Data, string}
use Rattle.dap_messages.specs.Objects.{count, object_of}
use Rattle.dap_messages.specs.declared.told.Failure.{Failure}
use Rattle.dap_messages.specs.declared.told.Detail.{Detail}
use Rattle.dap_messages.specs.declared.told.Detail.TheVariants.{Plain, Number, Name}

-- the failures of requests: their codes are the adapter's own (DAP specification, Types, Message, `id`)
abbrev pub unsupported : Failure
unsupported = record { code = 1; detail = Plain }

abbrev pub bad_arguments : List ℕ → Failure
bad_arguments name = record { code = 2; detail = Name name }

abbrev pub already_attached : Failure
already_attached = record { code = 16; detail = Plain }

abbrev pub not_attached : Failure
not_attached = record { code = 3; detail = Plain }

abbrev pub target_gone : Failure
target_gone = record { code = 10; detail = Plain }

abbrev pub not_stopped : Failure
not_stopped = record { code = 4; detail = Plain }

abbrev pub stale : ℕ → Failure
stale stop = record { code = 5; detail = Number stop }

abbrev pub unknown_reference : ℕ → Failure
unknown_reference next = record { code = 6; detail = Number next }

abbrev pub wrong_kind : Failure
wrong_kind = record { code = 7; detail = Plain }

abbrev pub unknown_thread : Failure
unknown_thread = record { code = 8; detail = Plain }

abbrev pub target_error : ℕ → Failure
target_error error = record { code = 9; detail = Number error }

abbrev pub no_such_name : Failure
no_such_name = record { code = 11; detail = Plain }

abbrev pub bad_expression : ℕ → Failure
bad_expression place = record { code = 12; detail = Number place }

abbrev pub bad_index : Failure
bad_index = record { code = 13; detail = Plain }

abbrev pub not_writable : Failure
not_writable = record { code = 14; detail = Plain }

abbrev pub references_spent : Failure
references_spent = record { code = 15; detail = Plain }

-- the message of a code; a code of no failure says nothing (DAP specification, Base Protocol, Response, `message`)
abbrev pub message_of : ℕ → List ℕ
message_of code =
    if code == 1 then codes "unsupported" else
    (if code == 2 then codes "badArguments" else
    (if code == 3 then codes "notAttached" else
    (if code == 4 then codes "notStopped" else
    (if code == 5 then codes "stale" else
    (if code == 6 then codes "unknownReference" else
    (if code == 7 then codes "wrongKind" else
    (if code == 8 then codes "unknownThread" else
    (if code == 9 then codes "targetError" else
    (if code == 10 then codes "targetGone" else
    (if code == 11 then codes "noSuchName" else
    (if code == 12 then codes "badExpression" else
    (if code == 13 then codes "badIndex" else
    (if code == 14 then codes "notWritable" else
    (if code == 15 then codes "referencesSpent" else
    (if code == 16 then codes "alreadyAttached" else [])))))))))))))))

-- what follows the message, with a space before it
abbrev pub detail_text : Detail → List ℕ
detail_text Plain = []
detail_text (Number n) = 32 ∷ decimal n
detail_text (Name name) = 32 ∷ name

-- the message and what follows it (DAP specification, Types, Message, `format`)
abbrev pub format_of : Failure → List ℕ
format_of failure = message_of failure.code ++ detail_text failure.detail

-- the body of a response that fails (DAP specification, Base Protocol, ErrorResponse; Types, Message)
abbrev pub error_data : Failure → Data
error_data failure = object_of ((
  codes "error",
  object_of (
      (codes "format", string (format_of failure)) ∷
      (codes "id", count failure.code) ∷ []),
) ∷ [])
