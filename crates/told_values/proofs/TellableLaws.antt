-- The value of each message that can be told is spelled, and at most nine deep.
use Rattle.std.proofs.Common.{◌≡◌, ℕ, suc, ◌<◌, List, [], ◌∷◌, map, Bool, true, false}
use Rattle.std.proofs.Common.{Option, Some, None, option_map, codes, decimal, refl, arith, if◌then◌else◌, ◌==◌}
use Rattle.std.specs.Char.{digit_value}
use Rattle.std.specs.List.{AllByRecursion}
use Rattle.std.specs.Str.{is_utf8, IsUtf8, IsAscii}
use Rattle.std.specs.Str.Parse.{AllDigits}
use Rattle.std.proofs.lemmas.Fmt.{decimal_is_IsNumeral}
use Rattle.std.proofs.lemmas.Str.{IsUtf8-append, IsUtf8-from_ascii}
use Rattle.std.proofs.lemmas.Str.Ascii.{IsAscii-nil, IsAscii-cons}
use Rattle.serde_json.specs.Data.{Data, string}
use Rattle.serde_json.specs.Read.{read}
use Rattle.serde_json.specs.View.{items_of}
use Rattle.json_lines.specs.Lines.{IsLine}
use Rattle.json_lines.proofs.AgainLaws.{is_line}
use Rattle.dap_messages.specs.Objects.{count, object_of}
use Rattle.dap_messages.specs.Bodies.{breakpoint_data, reason_of, standing_data, capabilities_data}
use Rattle.dap_messages.specs.Bodies.{frame_data, source_data, located_data}
use Rattle.dap_messages.specs.Bodies.{child_data, variable_data, scopes_data, mode_name}
use Rattle.dap_messages.specs.Bodies.{result_data, set_data}
use Rattle.dap_messages.specs.Bodies.{thread_data, shape_data}
use Rattle.dap_messages.specs.Events.{event_data, halt_data, hit_data, stop_data, named_data, change_reason}
use Rattle.dap_messages.specs.Failures.{message_of, detail_text, error_data}
use Rattle.dap_messages.specs.Telling.{answer_data, outcome_data, told_data, told_text}
use Rattle.dap_messages.specs.declared.told.Told.{Told}
use Rattle.dap_messages.specs.declared.told.Told.TheVariants as told
use Rattle.dap_messages.specs.declared.told.Outcome.{Outcome}
use Rattle.dap_messages.specs.declared.told.Outcome.TheVariants.{Success, Failure as Failed}
use Rattle.dap_messages.specs.declared.told.Failure.{Failure}
use Rattle.dap_messages.specs.declared.told.Detail.{Detail}
use Rattle.dap_messages.specs.declared.told.Detail.TheVariants.{Plain, Number, Name}
use Rattle.dap_messages.specs.declared.told.Shape.{Shape}
use Rattle.dap_messages.specs.declared.told.Shape.TheVariants.{Nothing, Capabilities, Breakpoints, Threads, Continued}
use Rattle.dap_messages.specs.declared.told.Shape.TheVariants.{StackFrames, Scopes, Variables, ExceptionInfo}
use Rattle.dap_messages.specs.declared.told.Shape.TheVariants.{Written as IsWritten, Evaluated as IsEvaluated}
use Rattle.dap_messages.specs.declared.told.Breakpoint.{Breakpoint}
use Rattle.dap_messages.specs.declared.told.BreakpointStatus.{BreakpointStatus}
use Rattle.dap_messages.specs.declared.told.BreakpointStatus.TheVariants.{Verified, NoSourceRoot}
use Rattle.dap_messages.specs.declared.told.BreakpointStatus.TheVariants.{ConditionsUnsupported, RefusedByTarget}
use Rattle.dap_messages.specs.declared.told.BreakpointStatus.TheVariants.{NotBoundYet}
use Rattle.dap_messages.specs.declared.told.Thread.{Thread}
use Rattle.dap_messages.specs.declared.told.Source.{Source}
use Rattle.dap_messages.specs.declared.told.StackFrame.{StackFrame}
use Rattle.dap_messages.specs.declared.told.Variable.{Variable}
use Rattle.dap_messages.specs.declared.told.Evaluated.{Evaluated}
use Rattle.dap_messages.specs.declared.told.BreakMode.{BreakMode}
use Rattle.dap_messages.specs.declared.told.BreakMode.TheVariants.{Always, Unhandled}
use Rattle.dap_messages.specs.declared.told.Event.{Event}
use Rattle.dap_messages.specs.declared.told.Event.TheVariants.{Initialized, Breakpoint as Changed, Output, Terminated}
use Rattle.dap_messages.specs.declared.told.Event.TheVariants.{Thread as ThreadChanged, Stopped as HasStopped}
use Rattle.dap_messages.specs.declared.told.StopReason.{StopReason}
use Rattle.dap_messages.specs.declared.told.StopReason.TheVariants.{Breakpoint as Hit, Exception, Step, Pause}
use Rattle.dap_messages.specs.declared.told.StopReason.TheVariants.{FunctionBreakpoint as FunctionHit}
use Rattle.dap_messages.proofs.Tellings.{has_float-told_data}
use Rattle.told_values.specs.Tellable.{IsCount, OrLeftOut, IsTellableBreakpoint, IsTellableThread, IsTellableSource}
use Rattle.told_values.specs.Tellable.{IsTellableFrame, IsTellableVariable, IsTellableResult}
use Rattle.told_values.specs.Tellable.{IsTellableShape, IsTellableDetail, IsTellableFailure, IsTellableOutcome}
use Rattle.told_values.specs.Tellable.{IsTellableReason, IsTellableEvent, IsTellable}
use Rattle.told_values.proofs.GoodLaws.{utf8_ascii, IsGood, AreGood, good_spelled, good_depth}

-- ---- lists

each_good : {A : Type 0} (P : A → Type 0) (f : A → Data) (n : ℕ) → ((a : A) → P a → IsGood n (f a)) →
    (xs : List A) → AllByRecursion P xs → AreGood n (items_of (map f xs))
each_good P f n h [] are = tt
each_good P f n h (x ∷ xs) are = (h x are.0, each_good P f n h xs are.1)

-- ---- bodies

standing_good : (n id : ℕ) (line : Option ℕ) (reason : Option (List ℕ)) → IsCount id → OrLeftOut IsCount line →
    OrLeftOut IsUtf8 reason → IsGood (suc n) (standing_data id line reason)
standing_good n id None None i l r = (refl, (i, (tt, tt)))
standing_good n id None (Some reason) i l r = (refl, (i, (r, (tt, tt))))
standing_good n id (Some line) None i l r = (refl, (i, (l, (tt, tt))))
standing_good n id (Some line) (Some reason) i l r = (refl, (i, (l, (r, (tt, tt)))))

reason_told : (status : BreakpointStatus) → OrLeftOut IsUtf8 (reason_of status)
reason_told Verified = tt
reason_told NoSourceRoot = utf8_ascii (codes "no source root") refl
reason_told ConditionsUnsupported = utf8_ascii (codes "conditions are not supported") refl
reason_told RefusedByTarget = utf8_ascii (codes "refused by the target") refl
reason_told NotBoundYet = utf8_ascii (codes "not bound yet") refl

breakpoint_good : (n : ℕ) (breakpoint : Breakpoint) → IsTellableBreakpoint breakpoint →
    IsGood (suc n) (breakpoint_data breakpoint)
breakpoint_good n breakpoint is =
    standing_good n breakpoint.id breakpoint.line (reason_of breakpoint.status) is.0 is.1
    (reason_told breakpoint.status)

thread_good : (thread : Thread) → IsTellableThread thread → IsGood 4 (thread_data thread)
thread_good thread is = (refl, (is.0, (is.1, tt)))

located_good : (frame : StackFrame) (source : Option Source) → IsTellableFrame frame →
    OrLeftOut IsTellableSource source → IsGood 4 (located_data frame (option_map source_data source))
located_good frame None is known = (refl, (is.0, (is.1.0, (is.1.1.0, (is.1.1.1.0, tt)))))
located_good frame (Some source) is known =
    (refl, (is.0, (is.1.0, (is.1.1.0, (is.1.1.1.0, ((refl, (known.0, (known.1, tt))), tt))))))

frame_good : (frame : StackFrame) → IsTellableFrame frame → IsGood 4 (frame_data frame)
frame_good frame is = located_good frame frame.source is is.1.1.1.1

child_good : (variable : Variable) (indexed : Option ℕ) (kind : Option (List ℕ)) → IsTellableVariable variable →
    OrLeftOut IsCount indexed → OrLeftOut IsUtf8 kind → IsGood 4 (child_data variable indexed kind)
child_good variable None None is i k = (refl, (is.1.0, (is.1.1.1.0, (is.1.1.1.1, tt))))
child_good variable None (Some kind) is i k = (refl, (is.1.0, (k, (is.1.1.1.0, (is.1.1.1.1, tt)))))
child_good variable (Some indexed) None is i k = (refl, (i, (is.1.0, (is.1.1.1.0, (is.1.1.1.1, tt)))))
child_good variable (Some indexed) (Some kind) is i k =
    (refl, (i, (is.1.0, (k, (is.1.1.1.0, (is.1.1.1.1, tt))))))

variable_good : (variable : Variable) → IsTellableVariable variable → IsGood 4 (variable_data variable)
variable_good variable is = child_good variable variable.indexed variable.kind is is.0 is.1.1.0

set_good : (value : List ℕ) (kind : Option (List ℕ)) → IsUtf8 value → OrLeftOut IsUtf8 kind →
    IsGood 6 (set_data value kind)
set_good value None v k = (refl, (v, (omega arith, tt)))
set_good value (Some kind) v k = (refl, (k, (v, (omega arith, tt))))

result_good : (evaluated : Evaluated) (indexed : Option ℕ) (kind : Option (List ℕ)) → IsTellableResult evaluated →
    OrLeftOut IsCount indexed → OrLeftOut IsUtf8 kind → IsGood 6 (result_data evaluated indexed kind)
result_good evaluated None None is i k = (refl, (is.1.0, (is.1.1.1, tt)))
result_good evaluated None (Some kind) is i k = (refl, (is.1.0, (k, (is.1.1.1, tt))))
result_good evaluated (Some indexed) None is i k = (refl, (i, (is.1.0, (is.1.1.1, tt))))
result_good evaluated (Some indexed) (Some kind) is i k = (refl, (i, (is.1.0, (k, (is.1.1.1, tt)))))

capabilities_good : IsGood 6 capabilities_data
capabilities_good = (
  refl,
  (
    (
      (refl, (utf8_ascii (codes "caught") refl, (utf8_ascii (codes "Caught exceptions") refl, tt))),
      ((refl, (utf8_ascii (codes "uncaught") refl, (utf8_ascii (codes "Uncaught exceptions") refl, tt))), tt),
    ),
    (tt, (tt, (tt, (tt, (tt, (tt, tt)))))),
  ),
)

scopes_good : (reference : ℕ) → IsCount reference → IsGood 6 (scopes_data reference)
scopes_good reference is = (
  refl,
  (
    (
      (refl, (tt, (utf8_ascii (codes "Locals") refl, (utf8_ascii (codes "locals") refl, (is, tt))))),
      tt,
    ),
    tt,
  ),
)

mode_told : (mode : BreakMode) → IsUtf8 (mode_name mode)
mode_told Always = utf8_ascii (codes "always") refl
mode_told Unhandled = utf8_ascii (codes "unhandled") refl

shape_good : (shape : Shape) → IsTellableShape shape → OrLeftOut (IsGood 6) (shape_data shape)
shape_good Nothing is = tt
shape_good Capabilities is = capabilities_good
shape_good (Breakpoints breakpoints) is =
    (refl, (each_good IsTellableBreakpoint breakpoint_data 4 (breakpoint_good 3) breakpoints is, tt))
shape_good (Threads threads) is = (refl, (each_good IsTellableThread thread_data 4 thread_good threads is, tt))
shape_good (StackFrames frames total) is =
    (refl, (each_good IsTellableFrame frame_data 4 frame_good frames is.0, (is.1, tt)))
shape_good (Scopes reference) is = scopes_good reference is
shape_good (Variables variables) is =
    (refl, (each_good IsTellableVariable variable_data 4 variable_good variables is, tt))
shape_good (IsWritten written) is = set_good written.value written.kind is.1 is.0
shape_good (IsEvaluated evaluated) is =
    result_good evaluated evaluated.indexed evaluated.kind is is.0 is.1.1.0
shape_good Continued is = (refl, (tt, tt))
shape_good (ExceptionInfo id mode) is = (refl, (mode_told mode, (is, tt)))

-- ---- failures

utf8_either : (b : Bool) (text more : List ℕ) → IsUtf8 text → IsUtf8 more → IsUtf8 (if b then text else more)
utf8_either true text more h k = h
utf8_either false text more h k = k

message_told : (code : ℕ) → IsUtf8 (message_of code)
message_told code =
    utf8_either (code == 1) (codes "unsupported") _ (utf8_ascii _ refl)
    (utf8_either (code == 2) (codes "badArguments") _ (utf8_ascii _ refl)
    (utf8_either (code == 3) (codes "notAttached") _ (utf8_ascii _ refl)
    (utf8_either (code == 4) (codes "notStopped") _ (utf8_ascii _ refl)
    (utf8_either (code == 5) (codes "stale") _ (utf8_ascii _ refl)
    (utf8_either (code == 6) (codes "unknownReference") _ (utf8_ascii _ refl)
    (utf8_either (code == 7) (codes "wrongKind") _ (utf8_ascii _ refl)
    (utf8_either (code == 8) (codes "unknownThread") _ (utf8_ascii _ refl)
    (utf8_either (code == 9) (codes "targetError") _ (utf8_ascii _ refl)
    (utf8_either (code == 10) (codes "targetGone") _ (utf8_ascii _ refl)
    (utf8_either (code == 11) (codes "noSuchName") _ (utf8_ascii _ refl)
    (utf8_either (code == 12) (codes "badExpression") _ (utf8_ascii _ refl)
    (utf8_either (code == 13) (codes "badIndex") _ (utf8_ascii _ refl)
    (utf8_either (code == 14) (codes "notWritable") _ (utf8_ascii _ refl)
    (utf8_either (code == 15) (codes "referencesSpent") _ (utf8_ascii _ refl)
    (utf8_either (code == 16) (codes "alreadyAttached") [] (utf8_ascii _ refl) (utf8_ascii [] refl))))))))))))))))

digit_ascii : (digit : ℕ) → digit_value digit < 10 → digit < 128
digit_ascii digit small = grind arith

digits_ascii : (digits : List ℕ) → AllDigits 10 digits → IsAscii digits
digits_ascii [] are = IsAscii-nil
digits_ascii (digit ∷ digits) are =
    IsAscii-cons digit digits (digit_ascii digit are.0) (digits_ascii digits are.1)

spaced : (text : List ℕ) → IsUtf8 text → IsUtf8 (32 ∷ text)
spaced text utf8 = IsUtf8-append (32 ∷ []) text (utf8_ascii (32 ∷ []) refl) utf8

detail_told : (detail : Detail) → IsTellableDetail detail → IsUtf8 (detail_text detail)
detail_told Plain is = utf8_ascii [] refl
detail_told (Number n) is =
    spaced (decimal n) (IsUtf8-from_ascii (decimal n) (digits_ascii (decimal n) (decimal_is_IsNumeral n is).0.1))
detail_told (Name name) is = spaced name is

error_good : (failure : Failure) → IsTellableFailure failure → IsGood 6 (error_data failure)
error_good failure is = (
  refl,
  (
    (
      refl,
      (
        IsUtf8-append (message_of failure.code) (detail_text failure.detail) (message_told failure.code)
            (detail_told failure.detail is.1),
        (is.0, tt),
      ),
    ),
    tt,
  ),
)

-- ---- messages

answer_good : (seq request_seq : ℕ) (command : List ℕ) (body : Option Data) → IsCount seq → IsCount request_seq →
    IsUtf8 command → OrLeftOut (IsGood 6) body → IsGood 7 (answer_data seq request_seq command body)
answer_good seq request_seq command None s r c good =
    (refl, (c, (r, (s, (tt, (utf8_ascii (codes "response") refl, tt))))))
answer_good seq request_seq command (Some body) s r c good =
    (refl, (good, (c, (r, (s, (tt, (utf8_ascii (codes "response") refl, tt)))))))

outcome_good : (seq request_seq : ℕ) (command : List ℕ) (outcome : Outcome) → IsCount seq → IsCount request_seq →
    IsUtf8 command → IsTellableOutcome outcome → IsGood 7 (outcome_data seq request_seq command outcome)
outcome_good seq request_seq command (Success shape) s r c is =
    answer_good seq request_seq command (shape_data shape) s r c (shape_good shape is)
outcome_good seq request_seq command (Failed failure) s r c is = (
  refl,
  (
    error_good failure is,
    (
      c,
      (
        message_told failure.code,
        (
          r,
          (
            s,
            (
              tt,
              (utf8_ascii (codes "response") refl, tt),
            ),
          ),
        ),
      ),
    ),
  ),
)

named_good : (seq : ℕ) (name : List ℕ) (body : Option Data) → IsCount seq → IsUtf8 name →
    OrLeftOut (IsGood 6) body → IsGood 7 (named_data seq name body)
named_good seq name None s n good = (refl, (n, (s, (utf8_ascii (codes "event") refl, tt))))
named_good seq name (Some body) s n good = (refl, (good, (n, (s, (utf8_ascii (codes "event") refl, tt)))))

hit_good : (reason ids : List ℕ) (thread : ℕ) → IsUtf8 reason → AllByRecursion IsCount ids → IsCount thread →
    IsGood 6 (hit_data reason ids thread)
hit_good reason ids thread r are t =
    (refl, (tt, (each_good IsCount count 4 (λ id is. is) ids are, (r, (t, tt)))))

halt_good : (reason : List ℕ) (text : Option (List ℕ)) (thread : ℕ) → IsUtf8 reason → OrLeftOut IsUtf8 text →
    IsCount thread → IsGood 6 (halt_data reason text thread)
halt_good reason None thread r x t = (refl, (tt, (r, (t, tt))))
halt_good reason (Some text) thread r x t = (refl, (tt, (r, (x, (t, tt)))))

stop_good : (reason : StopReason) (thread : ℕ) → IsTellableReason reason → IsCount thread →
    IsGood 6 (stop_data reason thread)
stop_good (Hit ids) thread is t = hit_good (codes "breakpoint") ids thread (utf8_ascii _ refl) is t
stop_good (FunctionHit ids) thread is t =
    hit_good (codes "function breakpoint") ids thread (utf8_ascii _ refl) is t
stop_good (Exception text) thread is t = halt_good (codes "exception") text thread (utf8_ascii _ refl) is t
stop_good Step thread is t = halt_good (codes "step") None thread (utf8_ascii _ refl) tt t
stop_good Pause thread is t = halt_good (codes "pause") None thread (utf8_ascii _ refl) tt t

change_told : (started : Bool) → IsUtf8 (change_reason started)
change_told true = utf8_ascii (codes "started") refl
change_told false = utf8_ascii (codes "exited") refl

event_good : (seq : ℕ) (event : Event) → IsCount seq → IsTellableEvent event → IsGood 7 (event_data seq event)
event_good seq Initialized s is = named_good seq (codes "initialized") None s (utf8_ascii _ refl) tt
event_good seq (Changed breakpoint) s is =
    let body = object_of (
    (codes "breakpoint", breakpoint_data breakpoint) ∷
    (codes "reason", string (codes "changed")) ∷ []) in
    let good : IsGood 6 body = (refl, (breakpoint_good 4 breakpoint is, (utf8_ascii (codes "changed") refl, tt))) in
    named_good seq (codes "breakpoint") (Some body) s (utf8_ascii _ refl) good
event_good seq (ThreadChanged change) s is =
    let body = object_of (
    (codes "reason", string (change_reason change.started)) ∷
    (codes "threadId", count change.id) ∷ []) in
    let good : IsGood 6 body = (refl, (change_told change.started, (is, tt))) in
    named_good seq (codes "thread") (Some body) s (utf8_ascii _ refl) good
event_good seq (HasStopped stopped) s is =
    named_good seq (codes "stopped") (Some (stop_data stopped.reason stopped.thread)) s (utf8_ascii _ refl)
    (stop_good stopped.reason stopped.thread is.0 is.1)
event_good seq (Output text) s is =
    let body = object_of (
    (codes "category", string (codes "console")) ∷
    (codes "output", string text) ∷ []) in
    let good : IsGood 6 body = (refl, (utf8_ascii (codes "console") refl, (is, tt))) in
    named_good seq (codes "output") (Some body) s (utf8_ascii _ refl) good
event_good seq Terminated s is = named_good seq (codes "terminated") None s (utf8_ascii _ refl) tt

told_good : (seq : ℕ) (message : Told) → IsCount seq → IsTellable message → IsGood 7 (told_data seq message)
told_good seq (told.Response response) s is =
    outcome_good seq response.request_seq response.command response.outcome s is.0 is.1.0 is.1.1
told_good seq (told.Event event) s is = event_good seq event s is

pub told_line : (seq : ℕ) (message : Told) → IsCount seq → IsTellable message → IsLine (told_data seq message)
told_line seq message s is =
    let good = told_good seq message s is in
    is_line (told_data seq message) (good_spelled 7 (told_data seq message) good)
    (omega (arith, good_depth 7 (told_data seq message) good)) (has_float-told_data seq message)

pub told_utf8 : (seq : ℕ) (message : Told) → IsCount seq → IsTellable message → is_utf8 (told_text seq message) ≡ true
unfolding told_text
told_utf8 seq message s is = (told_line seq message s is).utf8

pub told_read : (seq : ℕ) (message : Told) → IsCount seq → IsTellable message →
    read (told_text seq message) ≡ Some (told_data seq message)
unfolding told_text
told_read seq message s is = (told_line seq message s is).is_read
