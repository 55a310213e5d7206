-- A text is read byte by byte as the loop reads it line by line.
use Rattle.std.proofs.Common.{◌≡◌, ◌≢◌, ℕ, suc, ◌+◌, ◌-◌, ◌<◌, ◌≤◌, ◌==◌, List, [], ◌∷◌, ◌++◌, length, take, drop}
use Rattle.std.proofs.Common.{get_or, Result, Ok, Err, refl, sym, ap, subst, ◌∙◌, drop-cons, length-drop}
use Rattle.std.proofs.Common.{add-one, arith}
use Rattle.std.proofs.Math.Seq.{take-suc}
use Rattle.std.proofs.lemmas.Bool.{ne_eqb}
use Rattle.std.proofs.lemmas.List.{get_or-drop}
use Rattle.script_text.specs.declared.log.ScriptTrouble.{ScriptTrouble}
use Rattle.script_text.specs.declared.log.ScriptTrouble.TheVariants.{NoMemory, At}
use Rattle.script_text.specs.Reading.{IsRead, and_then}
use Rattle.tap_model.specs.declared.ask.Ask.{Ask}
use Rattle.ask_texts.specs.declared.read.Reading.{Reading}
use Rattle.ask_texts.specs.Reading.{line_taken, finished, read_on}

-- what a text comes to
abbrev pub Whole : Type 0
Whole = Result (List Ask) ScriptTrouble

pub read_on-feed : (reading : Reading) (line : List ℕ) (byte : ℕ) (bytes : List ℕ) → byte ≡ 10 →
    read_on reading line (byte ∷ bytes) ≡ and_then (λ next. read_on next [] bytes) (line_taken reading line)
read_on-feed reading line byte bytes e = rw e refl

pub read_on-byte : (reading : Reading) (line : List ℕ) (byte : ℕ) (bytes : List ℕ) → byte ≢ 10 →
    read_on reading line (byte ∷ bytes) ≡ read_on reading (line ++ byte ∷ []) bytes
read_on-byte reading line byte bytes other = rw (ne_eqb byte 10 other) refl

-- behind a line feed a line was taken, and the next begins
pub read_line : (whole : Whole) (text : List ℕ) (reading : Reading) (taken : Result Reading ScriptTrouble)
    (begin end : ℕ)
    → end < length text → get_or text end 0 ≡ 10 → line_taken reading (take (end - begin) (drop begin text)) ≡ taken
    → whole ≡ read_on reading (take (end - begin) (drop begin text)) (drop end text)
    → whole ≡ and_then (λ next. read_on next [] (drop (suc end) text)) taken
read_line whole text reading taken begin end within feed is so_far =
    so_far
    ∙ ap (read_on reading (take (end - begin) (drop begin text))) (drop-cons text end 0 within)
    ∙ read_on-feed reading (take (end - begin) (drop begin text)) (get_or text end 0) (drop (suc end) text) feed
    ∙ ap (and_then (λ next. read_on next [] (drop (suc end) text))) is

pub read_next : (whole : Whole) (text : List ℕ) (reading next : Reading) (begin end begun : ℕ)
    → end < length text → get_or text end 0 ≡ 10
    → line_taken reading (take (end - begin) (drop begin text)) ≡ Ok next → begun ≡ end + 1
    → whole ≡ read_on reading (take (end - begin) (drop begin text)) (drop end text)
    → whole ≡ read_on next (take (end + 1 - begun) (drop begun text)) (drop (end + 1) text)
read_next whole text reading next begin end begun within feed is here so_far =
    let none : end + 1 - begun ≡ 0 = omega (arith, here) in
    read_line whole text reading (Ok next) begin end within feed is so_far
    ∙ ap (λ (n : ℕ). read_on next [] (drop n text)) (sym (add-one end))
    ∙ ap (λ (n : ℕ). read_on next (take n (drop begun text)) (drop (end + 1) text)) (sym none)

-- another byte belongs to the line
pub read_byte : (whole : Whole) (text : List ℕ) (reading : Reading) (begin end : ℕ)
    → begin ≤ end → end < length text → get_or text end 0 ≢ 10
    → whole ≡ read_on reading (take (end - begin) (drop begin text)) (drop end text)
    → whole ≡ read_on reading (take (end + 1 - begin) (drop begin text)) (drop (end + 1) text)
read_byte whole text reading begin end in_range within other so_far =
    let steps : end + 1 - begin ≡ suc (end - begin) = omega (arith, in_range) in
    let place : begin + (end - begin) ≡ end = omega (arith, in_range) in
    let left = length-drop begin text in
    let more : take (end + 1 - begin) (drop begin text)
    ≡ take (end - begin) (drop begin text) ++ get_or text end 0 ∷ [] =
    ap (λ (n : ℕ). take n (drop begin text)) steps
    ∙ take-suc (drop begin text) (end - begin) 0 (omega (arith, left, within, in_range))
    ∙ ap
    (λ (byte : ℕ). take (end - begin) (drop begin text) ++ byte ∷ [])
    (get_or-drop begin text (end - begin) 0 ∙ ap (λ (n : ℕ). get_or text n 0) place) in
    so_far
    ∙ ap (read_on reading (take (end - begin) (drop begin text))) (drop-cons text end 0 within)
    ∙ read_on-byte reading (take (end - begin) (drop begin text)) (get_or text end 0) (drop (suc end) text) other
    ∙ ap (λ (line : List ℕ). read_on reading line (drop (suc end) text)) (sym more)
    ∙ ap (λ (n : ℕ). read_on reading (take (end + 1 - begin) (drop begin text)) (drop n text)) (sym (add-one end))
