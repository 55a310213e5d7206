-- Wires that replay a log follow it, whatever is asked of them.
use Rattle.std.proofs.Common.{◌≡◌, ◌∙◌, ℕ, true, false, List, [], ◌∷◌, ◌++◌, length, sym, ap, ap₂}
use Rattle.std.proofs.Common.{append-nil, subst, true≢false, Some}
use Rattle.std.proofs.Math.Seq.{take-append_seam}
use Rattle.std.proofs.lemmas.List.Elements.{filter-append}
use Rattle.std.specs.Prelude.{take, unwrap_or}
use Rattle.run_logs.specs.Runs.{entries_of}
use Rattle.script_wires.specs.ScriptWires.{is_alone}
use Rattle.wire_core.specs.Links.{Counts as CountsLinks, told}
use Rattle.wire_core.specs.Outside.{Adds, Link, entry_of}
use Rattle.wire_core.specs.declared.outside.Side.{Side}
use Rattle.wire_core.specs.declared.outside.Side.TheVariants.{Client, Target}
use Rattle.wire_core.specs.declared.outside.Happening.{Happening}
use Rattle.wire_core.specs.declared.outside.Happening.TheVariants.{Bytes, Shut as came_end}
use Rattle.wire_core.specs.declared.outside.Happening.TheVariants.{Failed as came_failure, Quiet as came_nothing}
use Rattle.wire_core.specs.declared.outside.Entry.{Entry}
use Rattle.wire_core.specs.declared.outside.Entry.TheVariants.{Out}
use Rattle.wire_journals.specs.Journals.{IsNewJournal}
use Rattle.file_wires.specs.Course.{Sides, both_open, came, course, is_coming}
use Rattle.file_wires.specs.LogWires.{GivesNext, IsReplayOf, ahead, entries_in, is_reached, is_refused}
use Rattle.file_wires.specs.LogWires.{left_in_wires, links_of, told_by}
use Rattle.file_wires.specs.Replaying.{left_at, open_by, sides_behind}
use Rattle.file_wires.specs.declared.log_wires.LogWires.{LogWires}
use Rattle.file_wires.proofs.CourseLaws.{came_more, comes_in, none_in}

-- which sides are open by what both links tell
abbrev sides_by : Link → Link → Sides
sides_by client target = record { client = client.is_open; target = target.is_open }

-- which sides are open behind what came
sides_after : (old new : LogWires) (h : Happening) → CountsLinks (told_by old) (told_by new) h
    → open_by (links_of new) ≡ sides_behind h (open_by (links_of old))
sides_after old new (Bytes side n) h = ap₂ sides_by h.client h.target
sides_after old new (came_end Client) h = ap₂ sides_by h.client h.target
sides_after old new (came_end Target) h = ap₂ sides_by h.client h.target
sides_after old new (came_failure Client) h = ap₂ sides_by h.client h.target
sides_after old new (came_failure Target) h = ap₂ sides_by h.client h.target
sides_after old new came_nothing h = ap₂ sides_by h.client h.target

-- the log grew by these entries
log_grew : (old new : LogWires) (more : List Entry) → Adds (told_by old) (told_by new) more
    → entries_in new ≡ entries_in old ++ more
log_grew old new more h = ap (λ log. unwrap_or log []) h

-- where a refusal is told, nothing is said
refused_follows : (log : List Entry) (w : LogWires) → is_refused w ≡ true → IsReplayOf log w
refused_follows log w refused both not_refused = absurd (true≢false (sym refused ∙ not_refused))

pub gives_on : (log : List Entry) (old new : LogWires) (buffer : List ℕ) (h : Happening) → GivesNext old new buffer h
    → IsReplayOf log old → IsReplayOf log new
gives_on log old new buffer h gives replay both not_refused =
    let left : ahead new ≡ course (sides_behind h (open_by (links_of old))) (left_in_wires new) =
    ap (λ sides. course sides (left_in_wires new)) (sides_after old new h gives.links) in
    let step : ahead old ≡ entry_of buffer h ∷ ahead new =
    gives.comes ∙ ap (λ xs. entry_of buffer h ∷ xs) (sym left) in
    ap (λ es. came es ++ ahead new) (log_grew old new (entry_of buffer h ∷ []) gives.log)
    ∙ came_more (entries_in old) (entry_of buffer h) (ahead new) (comes_in buffer h)
    ∙ ap (λ xs. came (entries_in old) ++ xs) (sym step)
    ∙ replay (sym (ap is_alone gives.links.asked) ∙ both) (sym gives.refused ∙ not_refused)

pub refuses_on : (log : List Entry) (old new : LogWires) → is_refused new ≡ true → IsReplayOf log old → IsReplayOf log new
refuses_on log old new refused replay = refused_follows log new refused

-- nothing more came, and as much is left
same_came : (log : List Entry) (old new : LogWires) → came (entries_in new) ≡ came (entries_in old)
    → links_of new ≡ links_of old → left_in_wires new ≡ left_in_wires old → is_refused new ≡ is_refused old
    → is_reached new ≡ is_reached old → IsReplayOf log old → IsReplayOf log new
same_came log old new same links left refused reached replay both not_refused =
    ap₂ (λ xs ys. xs ++ ys) same (ap₂ (λ ls es. course (open_by ls) es) links left)
    ∙ replay (sym reached ∙ both) (sym refused ∙ not_refused)

-- nothing was logged
pub same_on : (log : List Entry) (old new : LogWires) → (told_by new).log ≡ (told_by old).log
    → links_of new ≡ links_of old → left_in_wires new ≡ left_in_wires old → is_refused new ≡ is_refused old
    → is_reached new ≡ is_reached old → IsReplayOf log old → IsReplayOf log new
same_on log old new same links left refused reached replay =
    same_came log old new (ap (λ log. came (unwrap_or log [])) same) links left refused reached replay

-- what went out is nothing that came
pub sends_on : (log : List Entry) (old new : LogWires) (side : Side) (bytes : List ℕ)
    → Adds (told_by old) (told_by new) (Out side bytes ∷ []) → links_of new ≡ links_of old
    → left_in_wires new ≡ left_in_wires old → is_refused new ≡ is_refused old → is_reached new ≡ is_reached old
    → IsReplayOf log old → IsReplayOf log new
sends_on log old new side bytes adds links left refused reached replay =
    same_came log old new
    (ap came (log_grew old new (Out side bytes ∷ []) adds)
    ∙ filter-append is_coming (entries_in old) (Out side bytes ∷ [])
    ∙ append-nil (came (entries_in old)))
    links left refused reached replay

-- where the target alone was reached, nothing is said
pub reached_on : (log : List Entry) (old new : LogWires) (target : List ℕ) → (told_by new).asked ≡ target ∷ []
    → IsReplayOf log old → IsReplayOf log new
reached_on log old new target asked replay both not_refused = absurd (true≢false (sym (ap is_alone asked) ∙ both))

-- new wires have given nothing yet
pub replays_new : (w : LogWires) → IsNewJournal w.journal → w.place ≡ record { run = 0; done = 0 }
    → IsReplayOf (entries_of w.runs) w
replays_new w fresh start both not_refused =
    let empty : entries_in w ≡ [] = ap (λ log. unwrap_or log []) fresh.log in
    let sides : open_by (links_of w) ≡ both_open = ap₂ sides_by fresh.client fresh.target in
    ap₂ (λ es s. came es ++ course s (left_in_wires w)) empty sides
    ∙ ap (λ place. course both_open (left_at place w.runs)) start
    ∙ ap (course both_open) (none_in w.runs)

-- what came is the front of what the entries say
pub came_in_order : (told : List Entry) (w : LogWires) (log : List Entry) → IsReplayOf told w → is_reached w ≡ false
    → is_refused w ≡ false → (told_by w).log ≡ Some log
    → came log ≡ take (length (came log)) (course both_open told)
came_in_order told w log replay both not_refused kept =
    let same : entries_in w ≡ log = ap (λ log. unwrap_or log []) kept in
    let all : came (entries_in w) ++ ahead w ≡ course both_open told = replay both not_refused in
    let front : take (length (came (entries_in w))) (course both_open told) ≡ came (entries_in w) =
    ap (take (length (came (entries_in w)))) (sym all)
    ∙ take-append_seam (came (entries_in w)) (ahead w) in
    subst (λ es. came es ≡ take (length (came es)) (course both_open told)) same (sym front)
