-- A text is read byte by byte as it is read by its lines.
use Rattle.std.proofs.Common.{◌≡◌, ◌≢◌, ℕ, suc, ◌+◌, ◌-◌, ◌<◌, ◌≤◌, ◌==◌, List, [], ◌∷◌, ◌++◌, length, take, drop}
use Rattle.std.proofs.Common.{get_or, Bool, true, false, if◌then◌else◌, None, Result, Ok, Err, refl, sym, ap, ◌∙◌}
use Rattle.std.proofs.Common.{append_assoc, append-nil, drop-cons, length-drop, add-one, arith}
use Rattle.std.proofs.Math.Seq.{take-suc}
use Rattle.std.proofs.lemmas.Bool.{ne_eqb}
use Rattle.std.proofs.lemmas.List.{get_or-drop}
use Rattle.run_logs.specs.declared.run.Run.{Run}
use Rattle.script_text.specs.declared.order.Stage.TheVariants.{Start}
use Rattle.script_text.specs.declared.log.SessionLog.{SessionLog}
use Rattle.script_text.specs.declared.log.ScriptTrouble.{ScriptTrouble}
use Rattle.script_text.specs.declared.read.Reading.{Reading}
use Rattle.script_text.specs.Reading.{Cut, before, before_lines, cut_of, and_then, line_taken, lines_taken, finished}
use Rattle.script_text.specs.Reading.{by_lines, beginning, reading_of}

-- the rest of a text, behind the bytes of a line so far
abbrev pub read_on : Reading → List ℕ → List ℕ → Result SessionLog ScriptTrouble
read_on reading line [] = finished reading line
read_on reading line (byte ∷ bytes) =
    if byte == 10 then and_then (λ next. read_on next [] bytes) (line_taken reading line)
    else read_on reading (line ++ byte ∷ []) bytes

before-nil : (lines : List (List ℕ)) (rest : List ℕ) →
    before_lines [] lines rest ≡ record { lines = lines; rest = rest }
before-nil [] rest = refl
before-nil (line ∷ lines) rest = refl

before-before : (line bytes : List ℕ) (lines : List (List ℕ)) (rest : List ℕ) →
    before line (before_lines bytes lines rest) ≡ before_lines (line ++ bytes) lines rest
before-before line bytes [] rest =
    ap (λ (text : List ℕ). record { lines = []; rest = text }) (sym (append_assoc line bytes rest))
before-before line bytes (first ∷ lines) rest =
    ap (λ (text : List ℕ). record { lines = text ∷ lines; rest = rest }) (sym (append_assoc line bytes first))

-- a line, and then what follows
then_lines : (taken : Result Reading ScriptTrouble) (follows : Reading → Result SessionLog ScriptTrouble) (cut : Cut) →
    ((next : Reading) → follows next ≡ by_lines next cut) →
    and_then follows taken
    ≡ and_then (λ last. finished last cut.rest) (and_then (λ next. lines_taken next cut.lines) taken)
then_lines (Ok next) follows cut same = same next
then_lines (Err trouble) follows cut same = refl

-- one byte more, which is a line feed or isn't
one_byte : (feed : Bool) (reading : Reading) (line : List ℕ) (byte : ℕ) (bytes : List ℕ) →
    ((next : Reading) (begun : List ℕ) → read_on next begun bytes ≡ by_lines next (before begun (cut_of bytes))) →
    (if feed then and_then (λ next. read_on next [] bytes) (line_taken reading line)
    else read_on reading (line ++ byte ∷ []) bytes)
    ≡ by_lines reading (before line (if feed
    then record { lines = [] ∷ (cut_of bytes).lines; rest = (cut_of bytes).rest }
    else before (byte ∷ []) (cut_of bytes)))
one_byte true reading line byte bytes same =
    then_lines (line_taken reading line) (λ next. read_on next [] bytes) (cut_of bytes)
    (λ next. same next [] ∙ ap (by_lines next) (before-nil (cut_of bytes).lines (cut_of bytes).rest))
    ∙ ap
    (λ (whole : List ℕ). by_lines reading
    (record { lines = whole ∷ (cut_of bytes).lines; rest = (cut_of bytes).rest }))
    (sym (append-nil line))
one_byte false reading line byte bytes same =
    same reading (line ++ byte ∷ [])
    ∙ ap (by_lines reading) (sym (before-before line (byte ∷ []) (cut_of bytes).lines (cut_of bytes).rest))

read_on-before : (reading : Reading) (line bytes : List ℕ) →
    read_on reading line bytes ≡ by_lines reading (before line (cut_of bytes))
read_on-before reading line [] = ap (finished reading) (sym (append-nil line))
read_on-before reading line (byte ∷ bytes) =
    one_byte (byte == 10) reading line byte bytes (λ next begun. read_on-before next begun bytes)

pub reading_of-read_on : (text : List ℕ) → reading_of text ≡ read_on beginning [] text
unfolding reading_of
reading_of-read_on text = sym (
    read_on-before beginning [] text
    ∙ ap (by_lines beginning) (before-nil (cut_of text).lines (cut_of text).rest))

-- ---- what the loop has read, one byte later

-- a log with the limits of version 1 and these runs
abbrev usual_with : List Run → SessionLog
usual_with runs = record { turns = 1099511627776; quiet = 43200000; waiting = 65536; runs = runs; ending = None }

-- what is read at the start
pub read_at_start : (text : List ℕ) (runs : List Run) → runs ≡ [] →
    reading_of text ≡ read_on (record { line = 1; stage = Start; log = usual_with runs }) [] text
read_at_start text runs none =
    reading_of-read_on text
    ∙ ap (λ (rs : List Run). read_on (record { line = 1; stage = Start; log = usual_with rs }) [] text) (sym none)

pub read_on-feed : (reading : Reading) (line : List ℕ) (byte : ℕ) (bytes : List ℕ) → byte ≡ 10 →
    read_on reading line (byte ∷ bytes) ≡ and_then (λ next. read_on next [] bytes) (line_taken reading line)
read_on-feed reading line byte bytes e = rw e refl

pub read_on-byte : (reading : Reading) (line : List ℕ) (byte : ℕ) (bytes : List ℕ) → byte ≢ 10 →
    read_on reading line (byte ∷ bytes) ≡ read_on reading (line ++ byte ∷ []) bytes
read_on-byte reading line byte bytes other = rw (ne_eqb byte 10 other) refl

-- behind a line feed a line was taken, and the next begins
pub read_line : (text : List ℕ) (reading : Reading) (taken : Result Reading ScriptTrouble) (begin end : ℕ) →
    end < length text → get_or text end 0 ≡ 10 → line_taken reading (take (end - begin) (drop begin text)) ≡ taken →
    reading_of text ≡ read_on reading (take (end - begin) (drop begin text)) (drop end text) →
    reading_of text ≡ and_then (λ next. read_on next [] (drop (suc end) text)) taken
read_line text reading taken begin end within feed is so_far =
    so_far
    ∙ ap (read_on reading (take (end - begin) (drop begin text))) (drop-cons text end 0 within)
    ∙ read_on-feed reading (take (end - begin) (drop begin text)) (get_or text end 0) (drop (suc end) text) feed
    ∙ ap (and_then (λ next. read_on next [] (drop (suc end) text))) is

pub read_next : (text : List ℕ) (reading next : Reading) (begin end begun : ℕ) →
    end < length text → get_or text end 0 ≡ 10 →
    line_taken reading (take (end - begin) (drop begin text)) ≡ Ok next → begun ≡ end + 1 →
    reading_of text ≡ read_on reading (take (end - begin) (drop begin text)) (drop end text) →
    reading_of text ≡ read_on next (take (end + 1 - begun) (drop begun text)) (drop (end + 1) text)
read_next text reading next begin end begun within feed is here so_far =
    let none : end + 1 - begun ≡ 0 = omega (arith, here) in
    read_line text reading (Ok next) begin end within feed is so_far
    ∙ ap (λ (n : ℕ). read_on next [] (drop n text)) (sym (add-one end))
    ∙ ap (λ (n : ℕ). read_on next (take n (drop begun text)) (drop (end + 1) text)) (sym none)

-- another byte belongs to the line
pub read_byte : (text : List ℕ) (reading : Reading) (begin end : ℕ) →
    begin ≤ end → end < length text → get_or text end 0 ≢ 10 →
    reading_of text ≡ read_on reading (take (end - begin) (drop begin text)) (drop end text) →
    reading_of text ≡ read_on reading (take (end + 1 - begin) (drop begin text)) (drop (end + 1) text)
read_byte text reading begin end in_range within other so_far =
    let steps : end + 1 - begin ≡ suc (end - begin) = omega (arith, in_range) in
    let place : begin + (end - begin) ≡ end = omega (arith, in_range) in
    let left = length-drop begin text in
    let more : take (end + 1 - begin) (drop begin text)
    ≡ take (end - begin) (drop begin text) ++ get_or text end 0 ∷ [] =
    ap (λ (n : ℕ). take n (drop begin text)) steps
    ∙ take-suc (drop begin text) (end - begin) 0 (omega (arith, left, within, in_range))
    ∙ ap
    (λ (byte : ℕ). take (end - begin) (drop begin text) ++ byte ∷ [])
    (get_or-drop begin text (end - begin) 0 ∙ ap (λ (n : ℕ). get_or text n 0) place) in
    so_far
    ∙ ap (read_on reading (take (end - begin) (drop begin text))) (drop-cons text end 0 within)
    ∙ read_on-byte reading (take (end - begin) (drop begin text)) (get_or text end 0) (drop (suc end) text) other
    ∙ ap (λ (line : List ℕ). read_on reading line (drop (suc end) text)) (sym more)
    ∙ ap (λ (n : ℕ). read_on reading (take (end + 1 - begin) (drop begin text)) (drop n text)) (sym (add-one end))
