-- The requests that are counted are those that were heard.
use Rattle.std.proofs.Common.{◌≡◌, ◌∙◌, ℕ, ◌+◌, ◌<◌, ◌≤◌, Bool, true, false, List, [], ◌∷◌, ◌++◌, Ok, ap, ap₂, append_assoc, arith}
use Rattle.std.proofs.Common.{drop, length, map, refl, subst, sym}
use Rattle.std.proofs.lemmas.List.{length-drop}
use Rattle.std.specs.List.{flat_map}
use Rattle.dap_frames.specs.Frames.{Frame, frame_front}
use Rattle.dap_frames.proofs.FrameLaws.{front-steady}
use Rattle.dap_messages.specs.declared.requests.Command.{Command}
use Rattle.dap_messages.specs.declared.requests.Command.TheVariants as commands
use Rattle.dap_messages.specs.declared.requests.Request.{Request}
use Rattle.dap_messages.specs.Reading.{reading_of}
use Rattle.machine_model.specs.Rest.{requests_of}
use Rattle.machine_model.specs.Runs.{Message, is_disconnect}
use Rattle.session_laws.specs.Bytes.{came_by, came_from}
use Rattle.session_laws.specs.Endings.{IsDone}
use Rattle.session_laws.specs.Hearing.{AreHeard, AreRead}
use Rattle.session_model.specs.Names.{Client, Entry, Failed, In, Out, Quiet, Shut, Side, Target}
use Rattle.session_model.specs.States.{SessionState}
use Rattle.session_summaries.specs.Bodies.{bodies_of, bodies_within, body_then}
use Rattle.session_summaries.specs.Requests.{counted, is_last, requests_in, said_if, said_in}
use Rattle.session_summaries.specs.Summaries.{said_by_client}
use Rattle.summary_laws.proofs.SentLaws.{body_in, length_behind, map_behind}
use Rattle.wire_core.specs.Streams.{Hands, Uncut, fed, past, uncut}

-- Frames -------------------------------------------------------------------------------------------------------------

-- bodies begin with those of the frames that were handed out
pub record BeginWith (frames : List (ℕ × Frame)) (bodies : List (List ℕ)) : Type 0 where
  pub more : List (List ℕ)
  pub parts : bodies ≡ map body_in frames ++ more

begin_with : (steps : List ℕ) (u now : Uncut) (frames : List (ℕ × Frame)) → length u.pending ≤ length steps
    → Hands frame_front u frames now → BeginWith frames (bodies_within steps u.pending)
begin_with steps u now [] enough hands = record { more = bodies_within steps u.pending; parts = refl }
begin_with [] u now (m ∷ ms) enough (n, here, at, rest) =
    let taken = front-steady.takes u.pending m.1 n here in
    let some : 0 < n = taken.0 in
    let inside : n ≤ length u.pending = taken.1 in
    absurd (omega (arith, enough))
begin_with (step ∷ steps) u now (m ∷ ms) enough (n, here, at, rest) =
    let taken = front-steady.takes u.pending m.1 n here in
    let some : 0 < n = taken.0 in
    let inside : n ≤ length u.pending = taken.1 in
    let fewer : length (drop n u.pending) ≤ length steps = omega (arith, enough, length-drop n u.pending) in
    let later = begin_with steps (past u n) now ms fewer rest in
    record {
      more = later.more;
      parts = ap (λ front. body_then front (λ k. bodies_within steps (drop k u.pending))) here
          ∙ ap (λ bodies. m.1.body ∷ bodies) later.parts;
    }

-- Requests -----------------------------------------------------------------------------------------------------------

same_last : (command : Command) → is_last command ≡ is_disconnect command
same_last (commands.Initialize arguments) = refl
same_last (commands.Attach arguments) = refl
same_last commands.ConfigurationDone = refl
same_last (commands.SetBreakpoints arguments) = refl
same_last (commands.SetFunctionBreakpoints arguments) = refl
same_last (commands.SetExceptionBreakpoints arguments) = refl
same_last commands.Threads = refl
same_last (commands.Continue arguments) = refl
same_last (commands.Next arguments) = refl
same_last (commands.StepIn arguments) = refl
same_last (commands.StepOut arguments) = refl
same_last (commands.Pause arguments) = refl
same_last (commands.ExceptionInfo arguments) = refl
same_last (commands.StackTrace arguments) = refl
same_last (commands.Scopes arguments) = refl
same_last (commands.Variables arguments) = refl
same_last (commands.SetVariable arguments) = refl
same_last (commands.Evaluate arguments) = refl
same_last (commands.Disconnect arguments) = refl
same_last commands.Unsupported = refl
same_last (commands.BadArguments argument) = refl

-- so many requests, and those that follow unless a `disconnect` was among them
abbrev with_more : Bool → ℕ → List (List ℕ) → ℕ
with_more true count more = count
with_more false count more = count + requests_in more

one_counted : (last : Bool) (count : ℕ) (more : List (List ℕ))
    → count + counted (said_if last) (requests_in more) ≡ with_more last (count + 1) more
one_counted true count more = refl
one_counted false count more = omega arith

counts_all : {frames : List (ℕ × Frame)} {requests : List Request} {closing : Bool} → AreRead frames requests closing
    → (more : List (List ℕ)) → requests_in (map body_in frames ++ more) ≡ with_more closing (length requests) more
counts_all AreRead.none more = omega arith
counts_all (AreRead.one_more {frames} {requests} {request} frame read reading) more =
    ap (λ bodies. requests_in (bodies ++ more)) (map_behind body_in frames frame)
    ∙ ap requests_in (append_assoc (map body_in frames) (frame.1.body ∷ []) more)
    ∙ counts_all read (frame.1.body ∷ more)
    ∙ ap (λ said. length requests + counted (said_in said) (requests_in more)) reading
    ∙ ap (λ last. length requests + counted (said_if last) (requests_in more)) (same_last request.command)
    ∙ one_counted (is_disconnect request.command) (length requests) more
    ∙ ap (λ count. with_more (is_disconnect request.command) count more) (sym (length_behind requests request))
counts_all (AreRead.passed_over {frames} {requests} frame read reading) more =
    ap (λ bodies. requests_in (bodies ++ more)) (map_behind body_in frames frame)
    ∙ ap requests_in (append_assoc (map body_in frames) (frame.1.body ∷ []) more)
    ∙ counts_all read (frame.1.body ∷ more)
    ∙ ap (λ said. length requests + counted (said_in said) (requests_in more)) reading

-- The end ------------------------------------------------------------------------------------------------------------

not_empty : {A : Type 0} (xs : List A) (x : A) → [] ≡ xs ++ x ∷ [] → ⊥
not_empty [] x h = absurd cc
not_empty (first ∷ xs) x h = absurd cc

same_end : {A : Type 0} (xs ys : List A) (x y : A) → xs ++ x ∷ [] ≡ ys ++ y ∷ [] → x ≡ y
same_end [] [] x y h = cc
same_end [] (b ∷ ys) x y h = absurd (not_empty ys y (ap (λ l. drop 1 l) h))
same_end (a ∷ xs) [] x y h = absurd (not_empty xs x (sym (ap (λ l. drop 1 l) h)))
same_end (a ∷ xs) (b ∷ ys) x y h = same_end xs ys x y (ap (λ l. drop 1 l) h)

closes : {frames : List (ℕ × Frame)} {requests : List Request} {closing : Bool} → AreRead frames requests closing
    → (earlier : List Request) (last : Request) → requests ≡ earlier ++ last ∷ []
    → is_disconnect last.command ≡ true → closing ≡ true
closes AreRead.none earlier last is disconnects = absurd (not_empty earlier last is)
closes (AreRead.one_more {requests} {request} frame read reading) earlier last is disconnects =
    ap (λ (r : Request). is_disconnect r.command) (same_end requests earlier request last is) ∙ disconnects
closes (AreRead.passed_over frame read reading) earlier last is disconnects = closes read earlier last is disconnects

-- The log ------------------------------------------------------------------------------------------------------------

same_entry : (entry : Entry) → said_by_client entry ≡ came_by Client entry
same_entry (In Client bytes) = refl
same_entry (In Target bytes) = refl
same_entry (Out to bytes) = refl
same_entry (Shut side) = refl
same_entry (Failed side) = refl
same_entry Quiet = refl

same_bytes : (log : List Entry) → flat_map said_by_client log ≡ came_from Client log
same_bytes [] = refl
same_bytes (entry ∷ log) = ap₂ (λ a b. a ++ b) (same_entry entry) (same_bytes log)

pub log_hears : (log : List Entry) (messages : List Message) (s : SessionState) → AreHeard log messages s
    → IsDone messages → requests_in (bodies_of (flat_map said_by_client log)) ≡ length (requests_of messages)
log_hears log messages s heard done =
    let start : Uncut = fed uncut (came_from Client log) in
    let begins = begin_with (came_from Client log) start s.streams.client heard.frames (omega arith) heard.cut in
    ap (λ bytes. requests_in (bodies_of bytes)) (same_bytes log)
    ∙ ap requests_in begins.parts
    ∙ counts_all heard.read begins.more
    ∙ ap (λ closing. with_more closing (length (requests_of messages)) begins.more)
    (closes heard.read done.earlier done.request done.heard done.disconnects)
