-- What is read of a told message is what it comes to.
use Rattle.std.proofs.Common.{◌≡◌, ◌∙◌, ℕ, ◌+◌, ◌<◌, ◌^◌, Bool, true, false, cond, ◌&&◌, List, [], ◌∷◌, ◌++◌, Option, Some, None}
use Rattle.std.proofs.Common.{ap, ap₂, map, refl, sym}
use Rattle.std.specs.Option.{option_map_or}
use Rattle.std.specs.Prelude.{bytes_eq, codes}
use Rattle.serde_json.specs.Data.{Data}
use Rattle.serde_json.specs.View.{items_of}
use Rattle.dap_messages.specs.Bodies.{child_data, result_data, set_data, shape_data, variable_data}
use Rattle.dap_messages.specs.Telling.{answer_data, failure_data, told_data, told_text}
use Rattle.dap_messages.specs.declared.told.Event.{Event}
use Rattle.dap_messages.specs.declared.told.Event.TheVariants.{Initialized, Breakpoint as Changed, Output, Terminated}
use Rattle.dap_messages.specs.declared.told.Event.TheVariants.{Thread as ThreadChanged, Stopped as HasStopped}
use Rattle.dap_messages.specs.declared.told.Evaluated.{Evaluated}
use Rattle.dap_messages.specs.declared.told.Outcome.{Outcome}
use Rattle.dap_messages.specs.declared.told.Outcome.TheVariants.{Success, Failure as Failed}
use Rattle.dap_messages.specs.declared.told.Response.{Response}
use Rattle.dap_messages.specs.declared.told.Shape.{Shape}
use Rattle.dap_messages.specs.declared.told.Shape.TheVariants.{Nothing, Capabilities, Breakpoints, Threads, Continued}
use Rattle.dap_messages.specs.declared.told.Shape.TheVariants.{StackFrames, Scopes, Variables, ExceptionInfo}
use Rattle.dap_messages.specs.declared.told.Shape.TheVariants.{Written as IsWritten, Evaluated as IsEvaluated}
use Rattle.dap_messages.specs.declared.told.Told.{Told}
use Rattle.dap_messages.specs.declared.told.Told.TheVariants as told
use Rattle.dap_messages.specs.declared.told.Variable.{Variable}
use Rattle.dap_messages.specs.declared.told.Written.{Written}
use Rattle.session_summaries.specs.declared.told.Tally.{Tally}
use Rattle.session_summaries.specs.Told.{n_in, n_shown, n_sum, none_told, told_by, told_in, told_of, variables_in}
use Rattle.session_summaries.specs.Told.{with_told}
use Rattle.session_summaries.proofs.BodyLaws.{none_first, none_last, told_joined}
use Rattle.session_summaries.proofs.TellLaws.{told_utf8}
use Rattle.std.proofs.lemmas.Str.{IsUtf8-from_is_utf8}
use Rattle.told_values.proofs.TellableLaws.{told_read}
use Rattle.told_values.proofs.TellableLaws as tellable
use Rattle.told_values.specs.Tellable.{IsTellable}
use Rattle.summary_laws.specs.Messages.{n_among, n_of, n_of_response, n_of_shape, tally_among, tally_of}

-- Variables ----------------------------------------------------------------------------------------------------------

n_read : (v : Variable) → n_in (variable_data v) ≡ n_of v
n_read v = by v.indexed v.kind where
  by : (indexed : Option ℕ) (kind : Option (List ℕ)) → n_in (child_data v indexed kind) ≡ n_of v
  by None None = refl
  by None (Some kind) = refl
  by (Some indexed) None = refl
  by (Some indexed) (Some kind) = refl

all_read : (vs : List Variable) → n_sum (items_of (map variable_data vs)) ≡ n_among vs
all_read [] = refl
all_read (v ∷ vs) = ap₂ (λ a b. a + b) (n_read v) (all_read vs)

-- the variables that a body shows
abbrev shown_by : Option Data → ℕ
shown_by body = option_map_or n_sum (variables_in (answer_data 0 0 [] body)) 0

no_write : (value : List ℕ) (kind : Option (List ℕ)) → shown_by (Some (set_data value kind)) ≡ 0
no_write value None = refl
no_write value (Some kind) = refl

no_result : (e : Evaluated) (indexed : Option ℕ) (kind : Option (List ℕ))
    → shown_by (Some (result_data e indexed kind)) ≡ 0
no_result e None None = refl
no_result e None (Some kind) = refl
no_result e (Some indexed) None = refl
no_result e (Some indexed) (Some kind) = refl

shape_read : (shape : Shape) → shown_by (shape_data shape) ≡ n_of_shape shape
shape_read Nothing = refl
shape_read Capabilities = refl
shape_read (Breakpoints breakpoints) = refl
shape_read (Threads threads) = refl
shape_read (StackFrames frames total) = refl
shape_read (Scopes reference) = refl
shape_read (Variables variables) = all_read variables
shape_read (IsWritten written) = no_write written.value written.kind
shape_read (IsEvaluated evaluated) = no_result evaluated evaluated.indexed evaluated.kind
shape_read Continued = refl
shape_read (ExceptionInfo id mode) = refl

-- Messages -----------------------------------------------------------------------------------------------------------

if_success : (b : Bool) (x y : ℕ) → x ≡ y → cond (b && true) x 0 ≡ cond b y 0
if_success true x y e = e
if_success false x y e = refl

if_failure : (b : Bool) (x : ℕ) → cond (b && false) x 0 ≡ cond b 0 0
if_failure true x = refl
if_failure false x = refl

abbrev response_of : ℕ → Tally
response_of sum = record { responses = 1; events = 0; stops = 0; sum = sum }

answer_read : (seq request_seq : ℕ) (command : List ℕ) (body : Option Data) (n : ℕ) → shown_by body ≡ n
    → told_of (answer_data seq request_seq command body)
    ≡ response_of (cond (bytes_eq command (codes "variables")) n 0)
answer_read seq request_seq command None n e =
    ap response_of (if_success (bytes_eq command (codes "variables")) _ n e)
answer_read seq request_seq command (Some body) n e =
    ap response_of (if_success (bytes_eq command (codes "variables")) _ n e)

response_read : (seq : ℕ) (response : Response) → told_of (told_data seq (told.Response response))
    ≡ tally_of (told.Response response)
response_read seq response = by response.outcome where
  by : (outcome : Outcome) → told_of (told_data seq (told.Response (record response { outcome = outcome })))
      ≡ tally_of (told.Response (record response { outcome = outcome }))
  by (Success shape) =
      answer_read seq response.request_seq response.command (shape_data shape) (n_of_shape shape) (shape_read shape)
  by (Failed failure) = ap response_of (if_failure (bytes_eq response.command (codes "variables")) _)

event_read : (seq : ℕ) (event : Event) → told_of (told_data seq (told.Event event)) ≡ tally_of (told.Event event)
event_read seq Initialized = refl
event_read seq (Changed breakpoint) = refl
event_read seq (ThreadChanged change) = refl
event_read seq (HasStopped stopped) = refl
event_read seq (Output text) = refl
event_read seq Terminated = refl

data_read : (seq : ℕ) (message : Told) → told_of (told_data seq message) ≡ tally_of message
data_read seq (told.Response response) = response_read seq response
data_read seq (told.Event event) = event_read seq event

-- the text of a message tells what it comes to
pub message_read : (seq : ℕ) (message : Told) → seq < 2 ^ 64 → IsTellable message
    → told_by (told_text seq message) ≡ tally_of message
message_read seq message few is =
    told_utf8 (told_text seq message) (told_data seq message)
    (IsUtf8-from_is_utf8 (told_text seq message) (tellable.told_utf8 seq message few is)) (told_read seq message few is)
    ∙ data_read seq message

-- One more -----------------------------------------------------------------------------------------------------------

pub body_behind : (bodies : List (List ℕ)) (body : List ℕ)
    → told_in (bodies ++ body ∷ []) ≡ with_told (told_in bodies) (told_by body)
body_behind [] body = none_last (told_by body) ∙ sym (none_first (told_by body))
body_behind (first ∷ bodies) body =
    ap (λ more. with_told (told_by first) more) (body_behind bodies body)
    ∙ sym (told_joined (told_by first) (told_in bodies) (told_by body))

pub message_behind : (messages : List Told) (message : Told)
    → tally_among (messages ++ message ∷ []) ≡ with_told (tally_among messages) (tally_of message)
message_behind [] message = none_last (tally_of message) ∙ sym (none_first (tally_of message))
message_behind (first ∷ messages) message =
    ap (λ more. with_told (tally_of first) more) (message_behind messages message)
    ∙ sym (told_joined (tally_of first) (tally_among messages) (tally_of message))
