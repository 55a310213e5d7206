-- What is printed of a log is read again, line by line.
use Rattle.std.proofs.Common.{◌≡◌, ◌≢◌, ℕ, zero, suc, ◌+◌, ◌-◌, ◌<◌, ◌≤◌, ◌⊎◌, inl, inr, List, [], ◌∷◌, ◌++◌, true}
use Rattle.std.proofs.Common.{Option, Some, None, Result, Ok, refl, sym, ap, ap₂, ◌∙◌, append_assoc, append-nil, arith}
use Rattle.std.proofs.Common.{le-leb, lt-ltb}
use Rattle.std.specs.List.{list_all, flat_map}
use Rattle.std.proofs.lemmas.Bool.{and_parts, leb-true, eq-eqb}
use Rattle.std.specs.Prelude.{nat_le, nat_lt, replicate, codes}
use Rattle.serde_json.specs.Data.{Data}
use Rattle.serde_json.specs.Written.{compact_text}
use Rattle.run_logs.specs.Runs.{entries_in, entries_of, quiets_of, AreApart, BeginsApart, EachIsRun, IsRun}
use Rattle.run_logs.specs.declared.run.Run.{Run}
use Rattle.run_logs.specs.declared.run.Run.TheVariants.{One, Quiets as counted}
use Rattle.wire_core.specs.declared.outside.Entry.{Entry as Logged}
use Rattle.wire_core.specs.declared.outside.Entry.TheVariants.{In, Out, Shut, Failed, Quiet as nothing}
use Rattle.script_text.specs.declared.log.SessionLog.{SessionLog}
use Rattle.script_text.specs.declared.log.ScriptFault.{ScriptFault}
use Rattle.script_text.specs.declared.log.ScriptTrouble.{ScriptTrouble}
use Rattle.script_text.specs.declared.rows.Row.{Row}
use Rattle.script_text.specs.declared.rows.Row.TheVariants.{Head, Limits, Entry, Quiet, Quiets, Ending, End}
use Rattle.script_text.specs.declared.rows.Version.{Version}
use Rattle.script_text.specs.declared.rows.Version.TheVariants.{First, Second}
use Rattle.script_text.specs.declared.order.Closed.{Closed}
use Rattle.script_text.specs.declared.order.Stage.{Stage}
use Rattle.script_text.specs.declared.order.Stage.TheVariants.{Behind}
use Rattle.script_text.specs.declared.order.Place.TheVariants.{Headed, Inside, Ended, Over}
use Rattle.script_text.specs.declared.read.Reading.{Reading}
use Rattle.script_text.specs.Order.{none_closed, next_stage, goes_on, stands, waits_in}
use Rattle.script_text.specs.Orderly.{HasUsualLimits, IsOrderly, IsSpelled, IsStatus, KeepsOrder}
use Rattle.script_text.specs.Reading.{with_row, with_runs, run_of, next_line, staged, said, line_taken, and_then}
use Rattle.script_text.specs.Reading.{beginning, reading_of, usual_log}
use Rattle.script_text.specs.Rows.{most_quiets}
use Rattle.script_text.specs.Texts.{line_of, entry_data, run_text, quiets_data, ending_text, ending_data, end_data}
use Rattle.script_text.specs.Texts.{head_data, limits_data, log_text, bare_data, old_data, old_entry_text, old_text}
use Rattle.script_text.proofs.CutLaws.{read_on, read_on-feed, read_on-byte, reading_of-read_on}
use Rattle.script_text.proofs.OrderLaws.{run_of-none, run_of-some}
use Rattle.script_text.proofs.ShownLaws.{is_shown, IsPrinted, row_in-printed, printed-entry, printed-head}
use Rattle.script_text.proofs.ShownLaws.{printed-ending, printed-end, printed-limits, printed-quiet, printed-quiets}

-- a byte that is shown is no line feed
no_feed : (byte : ℕ) → is_shown byte ≡ true → byte ≢ 10
no_feed byte shown feed =
    let low = leb-true 32 byte (and_parts (nat_le 32 byte) (nat_lt byte 128) shown).0 in
    absurd (omega (arith, low, feed))

-- bytes without a line feed, and then one, are a line
read_on-line : (reading : Reading) (line body more : List ℕ) → list_all is_shown body ≡ true →
    read_on reading line (body ++ 10 ∷ more)
    ≡ and_then (λ next. read_on next [] more) (line_taken reading (line ++ body))
read_on-line reading line [] more shown =
    read_on-feed reading line 10 more refl
    ∙ ap
    (λ (whole : List ℕ). and_then (λ next. read_on next [] more) (line_taken reading whole))
    (sym (append-nil line))
read_on-line reading line (byte ∷ body) more shown =
    let parts = and_parts (is_shown byte) (list_all is_shown body) shown in
    read_on-byte reading line byte (body ++ 10 ∷ more) (no_feed byte parts.0)
    ∙ read_on-line reading (line ++ byte ∷ []) body more parts.1
    ∙ ap
    (λ (whole : List ℕ). and_then (λ next. read_on next [] more) (line_taken reading whole))
    (append_assoc line (byte ∷ []) body)

-- a reading with one row more
abbrev behind : Reading → Row → Stage → Reading
behind reading row stage =
    record { line = next_line reading.line; stage = stage; log = with_row reading.log (waits_in reading.stage) row }

-- the line of a row that may stand here
read_row : (reading : Reading) (value : Data) (row : Row) (stage : Stage) (more : List ℕ) → IsPrinted value row →
    next_stage reading.stage row ≡ Ok stage →
    read_on reading [] (line_of value ++ more) ≡ read_on (behind reading row stage) [] more
unfolding line_of
read_row reading value row stage more printed may =
    ap (read_on reading []) (append_assoc (compact_text value) (10 ∷ []) more)
    ∙ read_on-line reading [] (compact_text value) more printed.is_shown
    ∙ ap
    (λ (result : Result Row ScriptFault). and_then (λ next. read_on next [] more) (said reading result))
    (row_in-printed value row printed)
    ∙ ap
    (λ (result : Result Stage ScriptFault). and_then (λ next. read_on next [] more) (staged reading row result))
    may

-- runs so far, among which the log stands
abbrev among : ℕ → Version → ℕ → Closed → ℕ → SessionLog → List Run → Reading
among line version left closed before base runs =
    record { line = line; stage = Behind version left (Inside closed before); log = with_runs base runs }

-- what is read behind these runs, wherever the waits stand that come last, is this
abbrev Follows : Version → SessionLog → List Run → List ℕ → Result SessionLog ScriptTrouble → Type 0
Follows version base whole more result =
    (line left before : ℕ) (closed : Closed) (runs : List Run) → runs ++ run_of (before - left) ≡ whole →
    read_on (among line version left closed before base runs) [] more ≡ result

-- no waits stand last, or none come next
abbrev AreSplit : ℕ → List Run → Type 0
AreSplit waits runs = (waits ≡ 0) ⊎ BeginsApart runs

-- an entry more, and no waits behind it
entry_joins : (so_far runs : List Run) (waits left : ℕ) (entry : Logged) →
    ((so_far ++ run_of waits) ++ One entry ∷ []) ++ (run_of (left - (left - 0)) ++ runs)
    ≡ so_far ++ (run_of waits ++ One entry ∷ runs)
entry_joins so_far runs waits left entry =
    ap (λ (rs : List Run). ((so_far ++ run_of waits) ++ One entry ∷ []) ++ (rs ++ runs))
    (run_of-none (left - (left - 0)) (omega arith))
    ∙ append_assoc (so_far ++ run_of waits) (One entry ∷ []) runs
    ∙ append_assoc so_far (run_of waits) (One entry ∷ runs)

-- waits where none stand
waits_join : (so_far runs : List Run) (waits more n : ℕ) → waits ≡ 0 → more ≡ n → 0 < n →
    so_far ++ (run_of more ++ runs) ≡ so_far ++ (run_of waits ++ counted n ∷ runs)
waits_join so_far runs waits more n none same some =
    ap (λ (rs : List Run). so_far ++ (rs ++ runs)) (ap run_of same ∙ run_of-some n some)
    ∙ ap (λ (rs : List Run). so_far ++ (rs ++ counted n ∷ runs)) (sym (run_of-none waits none))

-- no waits come in front of a run of waits
split_none : (waits n : ℕ) (runs : List Run) → AreSplit waits (counted n ∷ runs) → waits ≡ 0
split_none waits n runs (inl none) = none
split_none waits n runs (inr apart) = absurd apart

-- counted waits may stand here
quiets_may : (left before n : ℕ) (closed : Closed) → n ≤ left → before - left ≡ 0 →
    next_stage (Behind Second left (Inside closed before)) (Quiets n)
    ≡ Ok (Behind Second (left - n) (Inside closed before))
quiets_may left before n closed few none = rw (le-leb n left few, eq-eqb (before - left) 0 none) refl

-- all runs
read_runs : (base : SessionLog) (runs so_far : List Run) (line left before : ℕ) (closed : Closed) (more : List ℕ)
    (result : Result SessionLog ScriptTrouble) → EachIsRun runs → AreApart runs → KeepsOrder closed runs →
    quiets_of runs ≤ left → left ≤ before → left ≤ most_quiets → AreSplit (before - left) runs →
    Follows Second base (so_far ++ (run_of (before - left) ++ runs)) more result →
    read_on (among line Second left closed before base so_far) [] (flat_map run_text runs ++ more) ≡ result
read_runs base [] so_far line left before closed more result each apart keeps few within most split follows =
    follows line left before closed so_far
    (ap (λ (rs : List Run). so_far ++ rs) (sym (append-nil (run_of (before - left)))))
read_runs base (One entry ∷ runs) so_far line left before closed more result each apart keeps few within most split
    follows =
    ap (read_on (among line Second left closed before base so_far) [])
    (append_assoc (run_text (One entry)) (flat_map run_text runs) more)
    ∙ read_row (among line Second left closed before base so_far) (entry_data entry) (Entry entry)
    (Behind Second (left - 0) (Inside keeps.1.0 left)) (flat_map run_text runs ++ more)
    (printed-entry entry each.0 keeps.0)
    (ap (λ (next : Option Closed). stands Second (left - 0) (goes_on left next)) keeps.1.1)
    ∙ read_runs base runs ((so_far ++ run_of (before - left)) ++ One entry ∷ []) (next_line line) (left - 0) left
    keeps.1.0 more result each.1 apart keeps.1.2 (omega (arith, few)) (omega arith) (omega (arith, most))
    (inl (omega arith))
    (λ later l b c rs e. follows later l b c rs (e ∙ entry_joins so_far runs (before - left) left entry))
read_runs base (counted n ∷ runs) so_far line left before closed more result each apart keeps few within most split
    follows =
    let none : before - left ≡ 0 = split_none (before - left) n runs split in
    let fits : n ≤ left = omega (arith, few) in
    let joined : before - (left - n) ≡ n = omega (arith, none, fits, within) in
    ap (read_on (among line Second left closed before base so_far) [])
    (append_assoc (run_text (counted n)) (flat_map run_text runs) more)
    ∙ read_row (among line Second left closed before base so_far) (quiets_data n) (Quiets n)
    (Behind Second (left - n) (Inside closed before)) (flat_map run_text runs ++ more)
    (printed-quiets n (record { some = each.0; most = omega (arith, fits, most) }))
    (quiets_may left before n closed fits none)
    ∙ read_runs base runs so_far (next_line line) (left - n) before closed more result each.1 apart.1 keeps
    (omega (arith, few)) (omega (arith, within)) (omega (arith, most)) (inr apart.0)
    (λ later l b c rs e. follows later l b c rs
    (e ∙ waits_join so_far runs (before - left) (before - (left - n)) n none joined each.0))

-- the end
read_end : (reading : Reading) (stage : Stage) (log : SessionLog) (version : Version) (left : ℕ) →
    stage ≡ Behind version left Over → next_stage reading.stage End ≡ Ok stage →
    with_row reading.log (waits_in reading.stage) End ≡ log → read_on reading [] (line_of end_data) ≡ Ok log
read_end reading stage log version left over may is =
    ap (read_on reading []) (sym (append-nil (line_of end_data)))
    ∙ read_row reading end_data End (Behind version left Over) [] printed-end (may ∙ ap Ok over)
    ∙ ap Ok is

-- a log of these runs and this ending
abbrev whole_log : SessionLog → List Run → Option ℕ → SessionLog
whole_log base runs ending = record {
  turns = base.turns;
  quiet = base.quiet;
  waiting = base.waiting;
  runs = runs;
  ending = ending;
}

-- the ending, where it is told, and the end
read_ending : (ending : Option ℕ) (version : Version) (base : SessionLog) (whole : List Run) → IsStatus ending →
    base.ending ≡ None →
    Follows version base whole (ending_text ending ++ line_of end_data) (Ok (whole_log base whole ending))
read_ending None version base whole status none line left before closed runs e =
    read_end (among line version left closed before base runs) _ (whole_log base whole None) version (left - 0) refl refl
    (ap₂ (λ (rs : List Run) (o : Option ℕ). whole_log base rs o) e none)
read_ending (Some status) version base whole fits none line left before closed runs e =
    read_row (among line version left closed before base runs) (ending_data status) (Ending status)
    (Behind version (left - 0) Ended) (line_of end_data) (printed-ending status fits) refl
    ∙ read_end (behind (among line version left closed before base runs) (Ending status)
    (Behind version (left - 0) Ended)) _ (whole_log base whole (Some status)) version ((left - 0) - 0) refl refl
    (ap (λ (rs : List Run). whole_log base rs (Some status)) (append-nil (runs ++ run_of (before - left)) ∙ e))

-- a log with these limits, and nothing else
abbrev limits_alone : SessionLog → SessionLog
limits_alone log =
    record { turns = log.turns; quiet = log.quiet; waiting = log.waiting; runs = []; ending = None }

pub read_again : (log : SessionLog) → IsOrderly log → reading_of (log_text log) ≡ Ok log
read_again log orderly =
    reading_of-read_on (log_text log)
    ∙ read_row beginning (head_data 2) (Head (Some Second)) (Behind Second most_quiets Headed)
    (line_of (limits_data log.turns log.quiet log.waiting)
    ++ (flat_map run_text log.runs ++ (ending_text log.ending ++ line_of end_data)))
    (printed-head 2 (Some Second) (omega arith) refl)
    refl
    ∙ read_row (record { line = 2; stage = Behind Second most_quiets Headed; log = usual_log })
    (limits_data log.turns log.quiet log.waiting) (Limits log.turns log.quiet log.waiting)
    (Behind Second (most_quiets - 0) (Inside none_closed most_quiets))
    (flat_map run_text log.runs ++ (ending_text log.ending ++ line_of end_data))
    (printed-limits log.turns log.quiet log.waiting orderly.limits)
    refl
    ∙ read_runs (limits_alone log) log.runs [] 3 (most_quiets - 0) most_quiets none_closed
    (ending_text log.ending ++ line_of end_data) (Ok log) orderly.runs.each orderly.runs.apart orderly.order
    (omega (arith, orderly.runs.few)) (omega arith) (omega arith) (inl (omega arith))
    (read_ending log.ending Second (limits_alone log) log.runs orderly.ending refl)

-- ---- version 1

-- an entry has the same line in both versions
printed-old : (entry : Logged) → IsRun (One entry) → IsSpelled entry → IsPrinted (old_data entry) (Entry entry)
printed-old (In side bytes) is spelled = printed-entry (In side bytes) is spelled
printed-old (Out side bytes) is spelled = printed-entry (Out side bytes) is spelled
printed-old (Shut side) is spelled = printed-entry (Shut side) is spelled
printed-old (Failed side) is spelled = printed-entry (Failed side) is spelled
printed-old nothing is spelled = absurd is

-- one wait more may stand here
quiet_may : (left before : ℕ) (closed : Closed) → 0 < left →
    next_stage (Behind First left (Inside closed before)) Quiet ≡ Ok (Behind First (left - 1) (Inside closed before))
quiet_may left before closed some = rw (lt-ltb 0 left some) refl

-- lines of waits, one after the other
read_waits : (base : SessionLog) (n : ℕ) (so_far : List Run) (line left before : ℕ) (closed : Closed) (more : List ℕ)
    (result : Result SessionLog ScriptTrouble) → n ≤ left →
    ((later rest : ℕ) → rest ≡ left - n →
    read_on (among later First rest closed before base so_far) [] more ≡ result) →
    read_on (among line First left closed before base so_far) []
    (flat_map old_entry_text (replicate n nothing) ++ more) ≡ result
read_waits base zero so_far line left before closed more result few follows = follows line left (omega arith)
read_waits base (suc n) so_far line left before closed more result few follows =
    ap (read_on (among line First left closed before base so_far) [])
    (append_assoc (old_entry_text nothing) (flat_map old_entry_text (replicate n nothing)) more)
    ∙ read_row (among line First left closed before base so_far) (bare_data (codes "quiet")) Quiet
    (Behind First (left - 1) (Inside closed before)) (flat_map old_entry_text (replicate n nothing) ++ more)
    printed-quiet (quiet_may left before closed (omega (arith, few)))
    ∙ read_waits base n so_far (next_line line) (left - 1) before closed more result (omega (arith, few))
    (λ later rest e. follows later rest (omega (arith, e)))

flat_map-append : (xs ys : List Logged) →
    flat_map old_entry_text (xs ++ ys) ≡ flat_map old_entry_text xs ++ flat_map old_entry_text ys
flat_map-append [] ys = refl
flat_map-append (x ∷ xs) ys =
    ap (λ (text : List ℕ). old_entry_text x ++ text) (flat_map-append xs ys)
    ∙ sym (append_assoc (old_entry_text x) (flat_map old_entry_text xs) (flat_map old_entry_text ys))

-- the lines of a run, and those of the runs behind it
run_then : (run : Run) (runs : List Run) (more : List ℕ) →
    flat_map old_entry_text (entries_of (run ∷ runs)) ++ more
    ≡ flat_map old_entry_text (entries_in run) ++ (flat_map old_entry_text (entries_of runs) ++ more)
run_then run runs more =
    ap (λ (text : List ℕ). text ++ more) (flat_map-append (entries_in run) (entries_of runs))
    ∙ append_assoc (flat_map old_entry_text (entries_in run)) (flat_map old_entry_text (entries_of runs)) more

one_then : (entry : Logged) (runs : List Run) (more : List ℕ) →
    flat_map old_entry_text (entries_of (One entry ∷ runs)) ++ more
    ≡ old_entry_text entry ++ (flat_map old_entry_text (entries_of runs) ++ more)
unfolding entries_in
one_then entry runs more =
    append_assoc (old_entry_text entry) (flat_map old_entry_text (entries_of runs)) more

waits_then : (n : ℕ) (runs : List Run) (more : List ℕ) →
    flat_map old_entry_text (entries_of (counted n ∷ runs)) ++ more
    ≡ flat_map old_entry_text (replicate n nothing) ++ (flat_map old_entry_text (entries_of runs) ++ more)
unfolding entries_in
waits_then n runs more = run_then (counted n) runs more

read_old_runs : (base : SessionLog) (runs so_far : List Run) (line left before : ℕ) (closed : Closed) (more : List ℕ)
    (result : Result SessionLog ScriptTrouble) → EachIsRun runs → AreApart runs → KeepsOrder closed runs →
    quiets_of runs ≤ left → left ≤ before → AreSplit (before - left) runs →
    Follows First base (so_far ++ (run_of (before - left) ++ runs)) more result →
    read_on (among line First left closed before base so_far) []
    (flat_map old_entry_text (entries_of runs) ++ more) ≡ result
read_old_runs base [] so_far line left before closed more result each apart keeps few within split follows =
    follows line left before closed so_far
    (ap (λ (rs : List Run). so_far ++ rs) (sym (append-nil (run_of (before - left)))))
read_old_runs base (One entry ∷ runs) so_far line left before closed more result each apart keeps few within split
    follows =
    ap (read_on (among line First left closed before base so_far) []) (one_then entry runs more)
    ∙ read_row (among line First left closed before base so_far) (old_data entry) (Entry entry)
    (Behind First (left - 0) (Inside keeps.1.0 left)) (flat_map old_entry_text (entries_of runs) ++ more)
    (printed-old entry each.0 keeps.0)
    (ap (λ (next : Option Closed). stands First (left - 0) (goes_on left next)) keeps.1.1)
    ∙ read_old_runs base runs ((so_far ++ run_of (before - left)) ++ One entry ∷ []) (next_line line) (left - 0) left
    keeps.1.0 more result each.1 apart keeps.1.2 (omega (arith, few)) (omega arith) (inl (omega arith))
    (λ later l b c rs e. follows later l b c rs (e ∙ entry_joins so_far runs (before - left) left entry))
read_old_runs base (counted n ∷ runs) so_far line left before closed more result each apart keeps few within split
    follows =
    let none : before - left ≡ 0 = split_none (before - left) n runs split in
    let fits : n ≤ left = omega (arith, few) in
    ap (read_on (among line First left closed before base so_far) []) (waits_then n runs more)
    ∙ read_waits base n so_far line left before closed (flat_map old_entry_text (entries_of runs) ++ more) result fits
    (λ later rest left_is.
    let joined : before - rest ≡ n = omega (arith, none, fits, within, left_is) in
    read_old_runs base runs so_far later rest before closed more result each.1 apart.1 keeps
    (omega (arith, few, left_is)) (omega (arith, within, left_is)) (inr apart.0)
    (λ last l b c rs e. follows last l b c rs
    (e ∙ waits_join so_far runs (before - left) (before - rest) n none joined each.0)))

-- a log whose limits are those of version 1
usual_whole : (log : SessionLog) → HasUsualLimits log → whole_log usual_log log.runs log.ending ≡ log
usual_whole log usual = rw (sym usual.turns, sym usual.quiet, sym usual.waiting) refl

pub read_old : (log : SessionLog) → IsOrderly log → HasUsualLimits log → reading_of (old_text log) ≡ Ok log
read_old log orderly usual =
    reading_of-read_on (old_text log)
    ∙ read_row beginning (head_data 1) (Head (Some First)) (Behind First most_quiets (Inside none_closed most_quiets))
    (flat_map old_entry_text (entries_of log.runs) ++ (ending_text log.ending ++ line_of end_data))
    (printed-head 1 (Some First) (omega arith) refl)
    refl
    ∙ read_old_runs usual_log log.runs [] 2 most_quiets most_quiets none_closed
    (ending_text log.ending ++ line_of end_data) (Ok (whole_log usual_log log.runs log.ending)) orderly.runs.each
    orderly.runs.apart orderly.order (omega (arith, orderly.runs.few)) (omega arith) (inl (omega arith))
    (read_ending log.ending First usual_log log.runs orderly.ending refl)
    ∙ ap Ok (usual_whole log usual)
