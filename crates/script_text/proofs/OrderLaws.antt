-- What is read keeps the order.
use Rattle.std.proofs.Common.{◌≡◌, ℕ, zero, suc, ◌+◌, ◌-◌, ◌==◌, ◌<◌, ◌≤◌, List, [], ◌∷◌, ◌++◌, length, Bool, true, false, if◌then◌else◌}
use Rattle.std.proofs.Common.{Option, Some, None, option_map, option_and_then, Result, Ok, Err, refl, sym, subst, arith}
use Rattle.std.specs.List.{list_all}
use Rattle.std.specs.Prelude.{nat_le, nat_lt, codes}
use Rattle.std.specs.Str.{bytes_eq, is_utf8}
use Rattle.std.proofs.lemmas.Bool.{and_parts, leb-true, ltb-true, ne_eqb}
use Rattle.std.proofs.Common.{◌&&◌, append-nil}
use Rattle.run_logs.specs.Runs.{AreRuns, IsRun, last_count, quiets_of}
use Rattle.run_logs.specs.declared.run.Run.{Run}
use Rattle.run_logs.specs.declared.run.Run.TheVariants.{One, Quiets as counted}
use Rattle.run_logs.proofs.RunLaws.{quiets_of-append, runs_with_count, runs_with_one, runs_with_quiet}
use Rattle.hex.specs.Hex.{decode_of}
use Rattle.hex.specs.declared.error.FromHexError.{FromHexError}
use Rattle.hex.proofs.HexLemmas.{decode_of-ok}
use Rattle.serde_json.specs.Data.{Data, Items, no_items, item}
use Rattle.serde_json.specs.Find.{as_array, as_number, as_str, as_u64}
use Rattle.serde_json.specs.Read.{read}
use Rattle.wire_core.specs.declared.outside.Side.{Side}
use Rattle.wire_core.specs.declared.outside.Entry.{Entry as Logged}
use Rattle.wire_core.specs.declared.outside.Entry.TheVariants.{Shut, Failed}
use Rattle.script_text.specs.declared.log.SessionLog.{SessionLog}
use Rattle.script_text.specs.declared.log.ScriptFault.{ScriptFault}
use Rattle.script_text.specs.declared.log.ScriptFault.TheVariants.{NotUtf8, BadShape, BadOrder, NoEnd}
use Rattle.script_text.specs.declared.log.ScriptTrouble.{ScriptTrouble}
use Rattle.script_text.specs.declared.log.ScriptTrouble.TheVariants.{At}
use Rattle.script_text.specs.declared.rows.Row.{Row}
use Rattle.script_text.specs.declared.rows.Row.TheVariants.{Head, Limits, Entry, Quiet, Quiets, Ending, End}
use Rattle.script_text.specs.declared.rows.Version.{Version}
use Rattle.script_text.specs.declared.rows.Version.TheVariants.{First, Second}
use Rattle.script_text.specs.declared.order.Closed.{Closed}
use Rattle.script_text.specs.declared.order.Place.{Place}
use Rattle.script_text.specs.declared.order.Place.TheVariants.{Headed, Inside, Ended, Over}
use Rattle.script_text.specs.declared.order.Stage.{Stage}
use Rattle.script_text.specs.declared.order.Stage.TheVariants.{Start, Behind}
use Rattle.script_text.specs.declared.read.Reading.{Reading}
use Rattle.script_text.specs.Order.{entered, none_closed, is_of, next_stage, next_place, goes_on}
use Rattle.script_text.specs.Order.{inside, stands, waits_of}
use Rattle.script_text.specs.Orderly.{HasBytes, HaveLine, IsOrderly, IsSpelled, IsStatus, IsWithin, KeepsOrder}
use Rattle.script_text.specs.Rows.{bare_row, bytes_in, bytes_of, bytes_row, count_in, count_of, decoded}
use Rattle.script_text.specs.Rows.{is_hexadecimal, is_lower_digit, limits_of, limits_row, most_quiet, most_quiets}
use Rattle.script_text.specs.Rows.{most_turns, most_waiting, row_of, row_of_items, side_in, single_row, status_in}
use Rattle.script_text.specs.Rows.{status_of, triple_row, version_in}
use Rattle.script_text.specs.Reading.{row_in, row_read, run_of, unless_shapeless, staged, said, line_taken, lines_taken}
use Rattle.script_text.specs.Reading.{and_then, cut_of, unless_open, unless_open_at, finished, beginning, reading_of}

-- ---- what holds of each value that there is

abbrev IfSome : {A : Type 0} → (A → Type 0) → Option A → Type 0
IfSome P None = Unit {0}
IfSome P (Some a) = P a

abbrev IfOk : {A E : Type 0} → (A → Type 0) → Result A E → Type 0
IfOk P (Ok a) = P a
IfOk P (Err e) = Unit {0}

if_either : {A : Type 0} (P : A → Type 0) (test : Bool) (x y : Option A) → IfSome P x → IfSome P y →
    IfSome P (if test then x else y)
if_either P true x y p q = p
if_either P false x y p q = q

if_then : {A B : Type 0} (P : A → Type 0) (Q : B → Type 0) (f : A → Option B) (o : Option A) → IfSome P o →
    ((a : A) → P a → IfSome Q (f a)) → IfSome Q (option_and_then f o)
if_then P Q f None p each = tt
if_then P Q f (Some a) p each = each a p

if_map : {A B : Type 0} (P : A → Type 0) (Q : B → Type 0) (f : A → B) (o : Option A) → IfSome P o →
    ((a : A) → P a → Q (f a)) → IfSome Q (option_map f o)
if_map P Q f None p each = tt
if_map P Q f (Some a) p each = each a p

abbrev Any : {A : Type 0} → A → Type 0
Any a = Unit {0}

any : {A : Type 0} (o : Option A) → IfSome Any o
any None = tt
any (Some a) = tt

-- ---- a line alone

-- an entry is no wait in vain, and is one or more bytes where it is bytes
abbrev IsWhole : Logged → Type 0
IsWhole entry = IsSpelled entry × IsRun (One entry)

abbrev IsSpelledRow : Row → Type 0
IsSpelledRow (Head version) = Unit {0}
IsSpelledRow (Limits turns quiet waiting) = HaveLine turns quiet waiting
IsSpelledRow (Entry entry) = IsWhole entry
IsSpelledRow Quiet = Unit {0}
IsSpelledRow (Quiets n) = IsWithin most_quiets n
IsSpelledRow (Ending status) = status < 256
IsSpelledRow End = Unit {0}

count_of-within : (most n : ℕ) (test : Bool) → (nat_le 1 n && nat_le n most) ≡ test →
    IfSome (IsWithin most) (if test then Some n else None)
count_of-within most n true e =
    let parts = and_parts (nat_le 1 n) (nat_le n most) e in
    let some = leb-true 1 n parts.0 in
    record { some = omega (arith, some); most = leb-true n most parts.1 }
count_of-within most n false e = tt

count_in-within : (most : ℕ) (d : Data) → IfSome (IsWithin most) (count_in most d)
count_in-within most d =
    if_then Any (IsWithin most) (count_of most) (option_and_then as_u64 (as_number d))
    (any (option_and_then as_u64 (as_number d)))
    (λ n _. count_of-within most n (nat_le 1 n && nat_le n most) refl)

limits_of-spelled : (turns quiet waiting : Data) → IfSome IsSpelledRow (limits_of turns quiet waiting)
limits_of-spelled turns quiet waiting =
    if_then (IsWithin most_turns) IsSpelledRow _ (count_in most_turns turns) (count_in-within most_turns turns)
    (λ t t_is. if_then (IsWithin most_quiet) IsSpelledRow _ (count_in most_quiet quiet)
    (count_in-within most_quiet quiet)
    (λ q q_is. if_map (IsWithin most_waiting) IsSpelledRow (Limits t q) (count_in most_waiting waiting)
    (count_in-within most_waiting waiting)
    (λ w w_is. record { turns_are = t_is; quiet_is = q_is; waiting_is = w_is })))

limits_row-spelled : (turns quiet waiting : Data) (name : List ℕ) →
    IfSome IsSpelledRow (limits_row turns quiet waiting name)
limits_row-spelled turns quiet waiting name =
    if_either IsSpelledRow (bytes_eq name (codes "limits")) _ _ (limits_of-spelled turns quiet waiting) tt

bytes_decoded : (text : List ℕ) (result : Result (List ℕ) FromHexError) → 0 < length text → decode_of text ≡ result →
    IfSome HasBytes (decoded result)
bytes_decoded text (Ok bytes) some e =
    let ok = decode_of-ok text bytes e in
    record { some = omega (arith, ok.2, some); are = ok.3 }
bytes_decoded text (Err fault) some e = tt

bytes_spelled : (text : List ℕ) (test : Bool) → is_hexadecimal text ≡ test →
    IfSome HasBytes (if test then decoded (decode_of text) else None)
bytes_spelled text true e =
    bytes_decoded text (decode_of text)
    (ltb-true 0 (length text) (and_parts (nat_lt 0 (length text)) (list_all is_lower_digit text) e).0)
    refl
bytes_spelled text false e = tt

bytes_in-spelled : (d : Data) → IfSome HasBytes (bytes_in d)
bytes_in-spelled d =
    if_then Any HasBytes bytes_of (as_str d) (any (as_str d))
    (λ text _. bytes_spelled text (is_hexadecimal text) refl)

status_of-small : (n : ℕ) (test : Bool) → nat_lt n 256 ≡ test →
    IfSome (λ status. status < 256) (if test then Some n else None)
status_of-small n true e = ltb-true n 256 e
status_of-small n false e = tt

status_in-small : (d : Data) → IfSome (λ status. status < 256) (status_in d)
status_in-small d =
    if_then Any (λ status. status < 256) status_of (option_and_then as_u64 (as_number d))
    (any (option_and_then as_u64 (as_number d)))
    (λ n _. status_of-small n (nat_lt n 256) refl)

bytes_row-spelled : (name : List ℕ) (side : Side) (bytes : List ℕ) → HasBytes bytes →
    IfSome IsSpelledRow (bytes_row name side bytes)
bytes_row-spelled name side bytes has =
    if_either IsSpelledRow (bytes_eq name (codes "in")) _ _ (has, tt)
    (if_either IsSpelledRow (bytes_eq name (codes "out")) _ _ (has, tt) tt)

bare_row-spelled : (name : List ℕ) → IfSome IsSpelledRow (bare_row name)
bare_row-spelled name =
    if_either IsSpelledRow (bytes_eq name (codes "quiet")) _ _ tt
    (if_either IsSpelledRow (bytes_eq name (codes "end")) _ _ tt tt)

single_row-spelled : (one : Data) (name : List ℕ) → IfSome IsSpelledRow (single_row one name)
single_row-spelled one name =
    if_either IsSpelledRow (bytes_eq name (codes "log")) _ _
    (if_map Any IsSpelledRow Head (version_in one) (any (version_in one)) (λ version _. tt))
    (if_either IsSpelledRow (bytes_eq name (codes "quiet")) _ _
    (if_map (IsWithin most_quiets) IsSpelledRow Quiets (count_in most_quiets one) (count_in-within most_quiets one)
    (λ n within. within))
    (if_either IsSpelledRow (bytes_eq name (codes "shut")) _ _
    (if_map Any IsSpelledRow (λ side. Entry (Shut side)) (side_in one) (any (side_in one)) (λ side _. (tt, tt)))
    (if_either IsSpelledRow (bytes_eq name (codes "failed")) _ _
    (if_map Any IsSpelledRow (λ side. Entry (Failed side)) (side_in one) (any (side_in one)) (λ side _. (tt, tt)))
    (if_either IsSpelledRow (bytes_eq name (codes "ending")) _ _
    (if_map (λ status. status < 256) IsSpelledRow Ending (status_in one) (status_in-small one) (λ status small. small))
    tt))))

triple_row-spelled : (first second : Data) (name : List ℕ) → IfSome IsSpelledRow (triple_row first second name)
triple_row-spelled first second name =
    if_then Any IsSpelledRow (λ side. option_and_then (bytes_row name side) (bytes_in second)) (side_in first)
    (any (side_in first))
    (λ side _. if_then HasBytes IsSpelledRow (bytes_row name side) (bytes_in second) (bytes_in-spelled second)
    (bytes_row-spelled name side))

items-spelled : (items : Items) → IfSome IsSpelledRow (row_of_items items)
items-spelled no_items = tt
items-spelled (item name no_items) =
    if_then Any IsSpelledRow bare_row (as_str name) (any (as_str name)) (λ n _. bare_row-spelled n)
items-spelled (item name (item one no_items)) =
    if_then Any IsSpelledRow (single_row one) (as_str name) (any (as_str name)) (λ n _. single_row-spelled one n)
items-spelled (item name (item first (item second no_items))) =
    if_then Any IsSpelledRow (triple_row first second) (as_str name) (any (as_str name))
    (λ n _. triple_row-spelled first second n)
items-spelled (item name (item first (item second (item third no_items)))) =
    if_then Any IsSpelledRow (limits_row first second third) (as_str name) (any (as_str name))
    (λ n _. limits_row-spelled first second third n)
items-spelled (item name (item first (item second (item third (item fourth more))))) = tt

shaped-spelled : (row : Option Row) → IfSome IsSpelledRow row → IfOk IsSpelledRow (unless_shapeless row)
shaped-spelled None spelled = tt
shaped-spelled (Some row) spelled = spelled

read-spelled : (value : Option Data) → IfOk IsSpelledRow (row_read value)
read-spelled None = tt
read-spelled (Some d) =
    shaped-spelled (row_of d)
    (if_then Any IsSpelledRow row_of_items (as_array d) (any (as_array d)) (λ items _. items-spelled items))

line-spelled : (line : List ℕ) (utf8 : Bool) →
    IfOk IsSpelledRow (if utf8 then row_read (read line) else Err NotUtf8)
line-spelled line true = read-spelled (read line)
line-spelled line false = tt

row_in-spelled : (line : List ℕ) → IfOk IsSpelledRow (row_in line)
unfolding row_in
row_in-spelled line = line-spelled line (is_utf8 line)

-- ---- lines in order

-- the runs lead from these closed sides to those
abbrev RunsTo : Closed → List Run → Closed → Type 0
RunsTo from [] to = from ≡ to
RunsTo from (One entry ∷ runs) to =
    IsSpelled entry × ((next : Closed) × (entered from entry ≡ Some next) × RunsTo next runs to)
RunsTo from (counted n ∷ runs) to = RunsTo from runs to

RunsTo-entry : (from : Closed) (runs : List Run) (mid : Closed) (entry : Logged) (to : Closed) →
    RunsTo from runs mid → IsSpelled entry → entered mid entry ≡ Some to → RunsTo from (runs ++ One entry ∷ []) to
RunsTo-entry from [] mid entry to leads spelled e =
    (spelled, (to, subst (λ (c : Closed). entered c entry ≡ Some to) (sym leads) e, refl))
RunsTo-entry from (One first ∷ runs) mid entry to leads spelled e =
    (leads.0, (leads.1.0, leads.1.1, RunsTo-entry leads.1.0 runs mid entry to leads.1.2 spelled e))
RunsTo-entry from (counted n ∷ runs) mid entry to leads spelled e = RunsTo-entry from runs mid entry to leads spelled e

RunsTo-waits : (from : Closed) (runs : List Run) (to : Closed) (n : ℕ) → RunsTo from runs to →
    RunsTo from (runs ++ counted n ∷ []) to
RunsTo-waits from [] to n leads = leads
RunsTo-waits from (One first ∷ runs) to n leads =
    (leads.0, (leads.1.0, leads.1.1, RunsTo-waits leads.1.0 runs to n leads.1.2))
RunsTo-waits from (counted k ∷ runs) to n leads = RunsTo-waits from runs to n leads

RunsTo-keeps : (from : Closed) (runs : List Run) (to : Closed) → RunsTo from runs to → KeepsOrder from runs
RunsTo-keeps from [] to leads = tt
RunsTo-keeps from (One entry ∷ runs) to leads =
    (leads.0, (leads.1.0, leads.1.1, RunsTo-keeps leads.1.0 runs to leads.1.2))
RunsTo-keeps from (counted n ∷ runs) to leads = RunsTo-keeps from runs to leads

-- an entry comes last
one_last : (before : Option ℕ) (runs : List Run) (entry : Logged) → last_count before (runs ++ One entry ∷ []) ≡ None
one_last before [] entry = refl
one_last before (One first ∷ runs) entry = one_last None runs entry
one_last before (counted n ∷ runs) entry = one_last (Some n) runs entry

-- a run of waits behind an entry
runs_with_waits : (runs : List Run) (n : ℕ) → AreRuns runs → last_count None runs ≡ None → 0 < n →
    quiets_of runs + n ≤ most_quiets → AreRuns (runs ++ counted n ∷ [])
runs_with_waits runs zero are last some few = absurd (omega arith)
runs_with_waits runs (suc zero) are last some few = runs_with_quiet runs are last (omega (arith, few))
runs_with_waits runs (suc (suc n)) are last some few =
    let fewer = runs_with_waits runs (suc n) are last (omega arith) (omega (arith, few)) in
    let next : suc n + 1 ≡ suc (suc n) = omega arith in
    let count = quiets_of-append runs (counted (suc n) ∷ []) in
    subst (λ (k : ℕ). AreRuns (runs ++ counted k ∷ [])) next
    (runs_with_count runs (suc n) fewer (omega (arith, few, count)))

-- waits in front of nothing are no run
pub run_of-none : (n : ℕ) → n ≡ 0 → run_of n ≡ []
run_of-none n e = rw e refl

pub run_of-some : (n : ℕ) → 0 < n → run_of n ≡ counted n ∷ []
run_of-some n some = rw (ne_eqb n 0 (λ e. omega (arith, some, e))) refl

-- what was read among the entries: the waits that stand last are no part of it yet
record IsSoundInside (runs : List Run) (closed : Closed) (before left : ℕ) : Type 0 where
  order : RunsTo none_closed runs closed
  are : AreRuns runs
  last : last_count None runs ≡ None
  within : left ≤ before
  count : quiets_of runs + before ≡ most_quiets

-- what was read with the waits that stand last
record IsSoundWith (runs : List Run) (closed : Closed) (left : ℕ) : Type 0 where
  order : RunsTo none_closed runs closed
  are : AreRuns runs
  count : quiets_of runs + left ≡ most_quiets

sound_with : (runs : List Run) (closed : Closed) (before left n : ℕ) → IsSoundInside runs closed before left →
    before - left ≡ n → IsSoundWith (runs ++ run_of n) closed left
sound_with runs closed before left zero sound e =
    rw (append-nil runs) (record {
      order = sound.order;
      are = sound.are;
      count = omega (arith, sound.within, sound.count, e);
    })
sound_with runs closed before left (suc n) sound e =
    let count = quiets_of-append runs (counted (suc n) ∷ []) in
    rw (run_of-some (suc n) (omega arith)) (record {
      order = RunsTo-waits none_closed runs closed (suc n) sound.order;
      are = runs_with_waits runs (suc n) sound.are sound.last (omega arith) (omega (arith, sound.count, e));
      count = omega (arith, sound.within, sound.count, e, count);
    })

-- a whole list of runs
record IsSoundWhole (runs : List Run) : Type 0 where
  are : AreRuns runs
  order : KeepsOrder none_closed runs

sound_whole : (runs : List Run) (closed : Closed) (before left : ℕ) → IsSoundInside runs closed before left →
    IsSoundWhole (runs ++ run_of (before - left))
sound_whole runs closed before left sound =
    let whole = sound_with runs closed before left (before - left) sound refl in
    record { are = whole.are; order = RunsTo-keeps none_closed (runs ++ run_of (before - left)) closed whole.order }

-- what was read so far keeps the order
abbrev IsSoundAt : ℕ → Place → List Run → Type 0
IsSoundAt left Headed runs = (runs ≡ []) × (left ≡ most_quiets)
IsSoundAt left (Inside closed before) runs = IsSoundInside runs closed before left
IsSoundAt left Ended runs = IsSoundWhole runs
IsSoundAt left Over runs = IsSoundWhole runs

abbrev IsSoundBehind : Stage → List Run → Type 0
IsSoundBehind Start runs = runs ≡ []
IsSoundBehind (Behind version left place) runs = IsSoundAt left place runs

record IsSound (reading : Reading) : Type 0 where
  limits : HaveLine reading.log.turns reading.log.quiet reading.log.waiting
  runs : IsSoundBehind reading.stage reading.log.runs
  ending : IsStatus reading.log.ending

-- no runs, and no waits yet
sound_none : (runs : List Run) (left : ℕ) → runs ≡ [] → left ≡ most_quiets →
    IsSoundInside runs none_closed most_quiets left
sound_none runs left none all = rw none (record {
  order = refl;
  are = record { each = tt; apart = tt; few = omega arith };
  last = refl;
  within = omega (arith, all);
  count = omega arith;
})

-- an entry more
sound_more : (runs : List Run) (closed next : Closed) (before left : ℕ) (entry : Logged) →
    IsSoundInside runs closed before left → IsWhole entry → entered closed entry ≡ Some next →
    IsSoundInside ((runs ++ run_of (before - left)) ++ One entry ∷ []) next left (left - 0)
sound_more runs closed next before left entry sound whole e =
    let all = sound_with runs closed before left (before - left) sound refl in
    let mid = runs ++ run_of (before - left) in
    let count = quiets_of-append mid (One entry ∷ []) in
    record {
      order = RunsTo-entry none_closed mid closed entry next all.order whole.0 e;
      are = runs_with_one mid entry all.are whole.1;
      last = one_last None mid entry;
      within = omega arith;
      count = omega (arith, all.count, count);
    }

sound_entry : (line : ℕ) (version : Version) (left before : ℕ) (closed : Closed) (log : SessionLog) (entry : Logged)
    (next : Option Closed) → HaveLine log.turns log.quiet log.waiting → IsSoundInside log.runs closed before left →
    IsStatus log.ending → IsWhole entry → entered closed entry ≡ next →
    IfOk IsSound
    (staged (record { line = line; stage = Behind version left (Inside closed before); log = log }) (Entry entry)
    (stands version (left - 0) (goes_on left next)))
sound_entry line version left before closed log entry None limits sound status whole e = tt
sound_entry line version left before closed log entry (Some next) limits sound status whole e = record {
  limits = limits;
  runs = sound_more log.runs closed next before left entry sound whole e;
  ending = status;
}

-- so many waits fewer may come
sound_fewer : (runs : List Run) (closed : Closed) (before left n : ℕ) → IsSoundInside runs closed before left →
    IsSoundInside runs closed before (left - n)
sound_fewer runs closed before left n sound = record {
  order = sound.order;
  are = sound.are;
  last = sound.last;
  within = omega (arith, sound.within);
  count = sound.count;
}

sound_quiets : (line : ℕ) (version : Version) (left before : ℕ) (closed : Closed) (log : SessionLog) (n : ℕ)
    (test : Bool) → HaveLine log.turns log.quiet log.waiting → IsSoundInside log.runs closed before left →
    IsStatus log.ending →
    IfOk IsSound
    (staged (record { line = line; stage = Behind version left (Inside closed before); log = log }) (Quiets n)
    (stands version (left - n) (if test then Ok (Inside closed before) else Err BadOrder)))
sound_quiets line version left before closed log n false limits sound status = tt
sound_quiets line version left before closed log n true limits sound status =
    record { limits = limits; runs = sound_fewer log.runs closed before left n sound; ending = status }

sound_inside : (line : ℕ) (version : Version) (left before : ℕ) (closed : Closed) (log : SessionLog) (row : Row) →
    HaveLine log.turns log.quiet log.waiting → IsSoundInside log.runs closed before left → IsStatus log.ending →
    IsSpelledRow row →
    IfOk IsSound
    (staged (record { line = line; stage = Behind version left (Inside closed before); log = log }) row
    (stands version (left - waits_of row) (inside left closed before row)))
sound_inside line version left before closed log (Head other) limits sound status spelled = tt
sound_inside line version left before closed log (Limits turns quiet waiting) limits sound status spelled = tt
sound_inside line version left before closed log (Entry entry) limits sound status spelled =
    sound_entry line version left before closed log entry (entered closed entry) limits sound status spelled refl
sound_inside line version left before closed log Quiet limits sound status spelled =
    record { limits = limits; runs = sound_fewer log.runs closed before left 1 sound; ending = status }
sound_inside line version left before closed log (Quiets n) limits sound status spelled =
    sound_quiets line version left before closed log n (before - left == 0) limits sound status
sound_inside line version left before closed log (Ending n) limits sound status spelled =
    record { limits = limits; runs = sound_whole log.runs closed before left sound; ending = spelled }
sound_inside line version left before closed log End limits sound status spelled =
    record { limits = limits; runs = sound_whole log.runs closed before left sound; ending = status }

sound_headed : (line : ℕ) (version : Version) (left : ℕ) (log : SessionLog) (row : Row) → log.runs ≡ [] →
    left ≡ most_quiets → IsStatus log.ending → IsSpelledRow row →
    IfOk IsSound
    (staged (record { line = line; stage = Behind version left Headed; log = log }) row
    (stands version (left - waits_of row) (next_place left Headed row)))
sound_headed line version left log (Head other) none all status spelled = tt
sound_headed line version left log (Limits turns quiet waiting) none all status spelled =
    record { limits = spelled; runs = sound_none log.runs (left - 0) none (omega (arith, all)); ending = status }
sound_headed line version left log (Entry entry) none all status spelled = tt
sound_headed line version left log Quiet none all status spelled = tt
sound_headed line version left log (Quiets n) none all status spelled = tt
sound_headed line version left log (Ending n) none all status spelled = tt
sound_headed line version left log End none all status spelled = tt

sound_ended : (line : ℕ) (version : Version) (left : ℕ) (log : SessionLog) (row : Row) →
    HaveLine log.turns log.quiet log.waiting → IsSoundWhole log.runs → IsStatus log.ending →
    IfOk IsSound
    (staged (record { line = line; stage = Behind version left Ended; log = log }) row
    (stands version (left - waits_of row) (next_place left Ended row)))
sound_ended line version left log (Head other) limits sound status = tt
sound_ended line version left log (Limits turns quiet waiting) limits sound status = tt
sound_ended line version left log (Entry entry) limits sound status = tt
sound_ended line version left log Quiet limits sound status = tt
sound_ended line version left log (Quiets n) limits sound status = tt
sound_ended line version left log (Ending n) limits sound status = tt
sound_ended line version left log End limits sound status = record {
  limits = limits;
  runs = subst IsSoundWhole (sym (append-nil log.runs)) sound;
  ending = status;
}

sound_place : (line : ℕ) (version : Version) (left : ℕ) (place : Place) (log : SessionLog) (row : Row) →
    HaveLine log.turns log.quiet log.waiting → IsSoundAt left place log.runs → IsStatus log.ending →
    IsSpelledRow row →
    IfOk IsSound
    (staged (record { line = line; stage = Behind version left place; log = log }) row
    (stands version (left - waits_of row) (next_place left place row)))
sound_place line version left Headed log row limits sound status spelled =
    sound_headed line version left log row sound.0 sound.1 status spelled
sound_place line version left (Inside closed before) log row limits sound status spelled =
    sound_inside line version left before closed log row limits sound status spelled
sound_place line version left Ended log row limits sound status spelled =
    sound_ended line version left log row limits sound status
sound_place line version left Over log row limits sound status spelled = tt

sound_behind : (line : ℕ) (version : Version) (left : ℕ) (place : Place) (log : SessionLog) (row : Row) (test : Bool) →
    HaveLine log.turns log.quiet log.waiting → IsSoundAt left place log.runs → IsStatus log.ending →
    IsSpelledRow row →
    IfOk IsSound
    (staged (record { line = line; stage = Behind version left place; log = log }) row
    (if test then stands version (left - waits_of row) (next_place left place row) else Err BadShape))
sound_behind line version left place log row true limits sound status spelled =
    sound_place line version left place log row limits sound status spelled
sound_behind line version left place log row false limits sound status spelled = tt

sound_first : (line : ℕ) (log : SessionLog) (row : Row) → HaveLine log.turns log.quiet log.waiting → log.runs ≡ [] →
    IsStatus log.ending →
    IfOk IsSound (staged (record { line = line; stage = Start; log = log }) row (next_stage Start row))
sound_first line log (Head (Some First)) limits none status =
    record { limits = limits; runs = sound_none log.runs most_quiets none refl; ending = status }
sound_first line log (Head (Some Second)) limits none status =
    record { limits = limits; runs = (none, refl); ending = status }
sound_first line log (Head None) limits none status = tt
sound_first line log (Limits turns quiet waiting) limits none status = tt
sound_first line log (Entry entry) limits none status = tt
sound_first line log Quiet limits none status = tt
sound_first line log (Quiets n) limits none status = tt
sound_first line log (Ending n) limits none status = tt
sound_first line log End limits none status = tt

sound_row : (line : ℕ) (stage : Stage) (log : SessionLog) (row : Row) →
    HaveLine log.turns log.quiet log.waiting → IsSoundBehind stage log.runs → IsStatus log.ending →
    IsSpelledRow row →
    IfOk IsSound (staged (record { line = line; stage = stage; log = log }) row (next_stage stage row))
sound_row line Start log row limits sound status spelled = sound_first line log row limits sound status
sound_row line (Behind version left place) log row limits sound status spelled =
    sound_behind line version left place log row (is_of version left row) limits sound status spelled

sound_said : (reading : Reading) (result : Result Row ScriptFault) → IsSound reading → IfOk IsSpelledRow result →
    IfOk IsSound (said reading result)
sound_said reading (Ok row) sound spelled =
    sound_row reading.line reading.stage reading.log row sound.limits sound.runs sound.ending spelled
sound_said reading (Err kind) sound spelled = tt

sound_line : (reading : Reading) (line : List ℕ) → IsSound reading → IfOk IsSound (line_taken reading line)
sound_line reading line sound = sound_said reading (row_in line) sound (row_in-spelled line)

-- what follows keeps what holds
sound_then : {A B : Type 0} (P : A → Type 0) (Q : B → Type 0) (result : Result A ScriptTrouble)
    (follows : A → Result B ScriptTrouble) → IfOk P result → ((a : A) → P a → IfOk Q (follows a)) →
    IfOk Q (and_then follows result)
sound_then P Q (Ok a) follows p each = each a p
sound_then P Q (Err trouble) follows p each = tt

sound_lines : (reading : Reading) (lines : List (List ℕ)) → IsSound reading → IfOk IsSound (lines_taken reading lines)
sound_lines reading [] sound = sound
sound_lines reading (line ∷ lines) sound =
    sound_then IsSound IsSound (line_taken reading line) (λ next. lines_taken next lines)
    (sound_line reading line sound)
    (λ next p. sound_lines next lines p)

sound_open_at : (reading : Reading) (left : ℕ) (place : Place) →
    HaveLine reading.log.turns reading.log.quiet reading.log.waiting → IsSoundAt left place reading.log.runs →
    IsStatus reading.log.ending → IfOk IsOrderly (unless_open_at reading place)
sound_open_at reading left Headed limits sound status = tt
sound_open_at reading left (Inside closed before) limits sound status = tt
sound_open_at reading left Ended limits sound status = tt
sound_open_at reading left Over limits sound status =
    record { limits = limits; runs = sound.are; order = sound.order; ending = status }

sound_open : (reading : Reading) (stage : Stage) → HaveLine reading.log.turns reading.log.quiet reading.log.waiting →
    IsSoundBehind stage reading.log.runs → IsStatus reading.log.ending → IfOk IsOrderly (unless_open reading stage)
sound_open reading Start limits sound status = tt
sound_open reading (Behind version left place) limits sound status = sound_open_at reading left place limits sound status

never : (taken : Result Reading ScriptTrouble) →
    IfOk IsOrderly (and_then (λ next. Err (At next.line NoEnd)) taken)
never (Ok next) = tt
never (Err trouble) = tt

sound_finish : (reading : Reading) (rest : List ℕ) → IsSound reading → IfOk IsOrderly (finished reading rest)
sound_finish reading [] sound = sound_open reading reading.stage sound.limits sound.runs sound.ending
sound_finish reading (byte ∷ rest) sound = never (line_taken reading (byte ∷ rest))

sound_beginning : IsSound beginning
sound_beginning = record {
  limits = record {
    turns_are = record { some = omega arith; most = omega arith };
    quiet_is = record { some = omega arith; most = omega arith };
    waiting_is = record { some = omega arith; most = omega arith };
  };
  runs = refl;
  ending = tt;
}

pub keeps_order : (text : List ℕ) (log : SessionLog) → reading_of text ≡ Ok log → IsOrderly log
unfolding reading_of
keeps_order text log e =
    subst (IfOk IsOrderly) e
    (sound_then IsSound IsOrderly (lines_taken beginning (cut_of text).lines) (λ last. finished last (cut_of text).rest)
    (sound_lines beginning (cut_of text).lines sound_beginning)
    (λ last sound. sound_finish last (cut_of text).rest sound))
