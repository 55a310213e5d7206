-- What comes of a log that is replayed is the first of what is still to come.
use Rattle.std.proofs.Common.{◌≡◌, ◌∙◌, ℕ, zero, suc, ◌+◌, ◌-◌, ◌<◌, ◌≤◌, Bool, true, false, List, [], ◌∷◌, ◌++◌, length}
use Rattle.std.proofs.Common.{take, drop, get_or, refl, sym, ap, ap₂, arith}
use Rattle.std.specs.Prelude.{min, replicate}
use Rattle.std.proofs.Math.Nat.{min-le_right}
use Rattle.std.proofs.lemmas.List.{drop_all, drop-drop, drop_min, drop_more, length-drop, length-take, length-take-le}
use Rattle.run_logs.specs.Runs.{entries_in, entries_of}
use Rattle.run_logs.specs.declared.run.Run.{Run}
use Rattle.run_logs.specs.declared.run.Run.TheVariants.{One, Quiets}
use Rattle.wire_core.specs.Links.{is_open_in, first_open}
use Rattle.wire_core.specs.Outside.{entry_of}
use Rattle.wire_core.specs.declared.links.Links.{Links}
use Rattle.wire_core.specs.declared.outside.Side.{Side}
use Rattle.wire_core.specs.declared.outside.Side.TheVariants.{Client, Target}
use Rattle.wire_core.specs.declared.outside.Happening.{Happening}
use Rattle.wire_core.specs.declared.outside.Happening.TheVariants.{Bytes, Shut as came_end}
use Rattle.wire_core.specs.declared.outside.Happening.TheVariants.{Failed as came_failure, Quiet as came_nothing}
use Rattle.wire_core.specs.declared.outside.Entry.{Entry}
use Rattle.wire_core.specs.declared.outside.Entry.TheVariants.{In, Out, Shut as ends, Failed as fails, Quiet as nothing}
use Rattle.file_wires.specs.Course.{Sides, came, closing, course, is_coming, is_open, pieces}
use Rattle.file_wires.specs.Course.{ends as last_ends}
use Rattle.file_wires.specs.Replaying.{left_of, left_in, left_at, left_behind, open_by, sides_behind, Comes, Gives}
use Rattle.file_wires.specs.Replaying.{IsBehind, Passes}
use Rattle.file_wires.specs.declared.replaying.Place.{Place}

-- ---- what came

-- one more that came
pub came_more : (log : List Entry) (entry : Entry) (rest : List Entry) → is_coming entry ≡ true
    → came (log ++ entry ∷ []) ++ rest ≡ came log ++ entry ∷ rest
came_more [] entry rest h = rw h refl
came_more (e ∷ log) entry rest h = go (is_coming e) refl (came_more log entry rest h)
  where
    go : (t : Bool) → is_coming e ≡ t → came (log ++ entry ∷ []) ++ rest ≡ came log ++ entry ∷ rest
        → came ((e ∷ log) ++ entry ∷ []) ++ rest ≡ came (e ∷ log) ++ entry ∷ rest
    go true t more = rw t (ap (λ xs. e ∷ xs) more)
    go false t more = rw t more

-- ---- pieces

-- more pieces than bytes are never needed
pieces_enough : (n m : ℕ) (side : Side) (bytes : List ℕ) → length bytes ≤ n → length bytes ≤ m
    → pieces n side bytes ≡ pieces m side bytes
pieces_enough zero zero side bytes p q = refl
pieces_enough zero (suc m) side [] p q = refl
pieces_enough zero (suc m) side (b ∷ bs) p q = absurd (omega arith)
pieces_enough (suc n) zero side [] p q = refl
pieces_enough (suc n) zero side (b ∷ bs) p q = absurd (omega arith)
pieces_enough (suc n) (suc m) side [] p q = refl
pieces_enough (suc n) (suc m) side (b ∷ bs) p q =
    let less : length (drop 65536 (b ∷ bs)) ≡ length (b ∷ bs) - 65536 = length-drop 65536 (b ∷ bs) in
    ap (λ rest. In side (take 65536 (b ∷ bs)) ∷ rest)
    (pieces_enough n m side (drop 65536 (b ∷ bs)) (omega (arith, less, p)) (omega (arith, less, q)))

-- what is left behind a piece
rest_behind : (bytes buffer : List ℕ) (n : ℕ) → n ≤ length buffer → take n buffer ≡ take 65536 bytes
    → drop n bytes ≡ drop 65536 bytes
rest_behind bytes buffer n fits same =
    let count : n ≡ min 65536 (length bytes) =
    sym (length-take-le n buffer fits) ∙ ap length same ∙ length-take 65536 bytes in
    ap (λ k. drop k bytes) count ∙ drop_min 65536 bytes

-- a piece, and what is left behind it
a_piece : (sides : Sides) (side : Side) (b : ℕ) (bs buffer : List ℕ) (n : ℕ) (rest : List Entry)
    → is_open side sides ≡ true → n ≤ length buffer → take n buffer ≡ take 65536 (b ∷ bs)
    → course sides (In side (b ∷ bs) ∷ rest) ≡ In side (take n buffer) ∷ course sides (In side (drop n (b ∷ bs)) ∷ rest)
a_piece sides side b bs buffer n rest opened fits same =
    let behind_it : drop n (b ∷ bs) ≡ drop 65536 (b ∷ bs) = rest_behind (b ∷ bs) buffer n fits same in
    let less : length (drop 65536 (b ∷ bs)) ≡ length (b ∷ bs) - 65536 = length-drop 65536 (b ∷ bs) in
    let enough : pieces (length bs) side (drop 65536 (b ∷ bs))
    ≡ pieces (length (drop 65536 (b ∷ bs))) side (drop 65536 (b ∷ bs)) =
    pieces_enough (length bs) (length (drop 65536 (b ∷ bs))) side (drop 65536 (b ∷ bs)) (omega (arith, less)) (omega arith) in
    rw (same, behind_it, opened) (ap (λ xs. In side (take 65536 (b ∷ bs)) ∷ (xs ++ course sides rest)) enough)

some_piece : (sides : Sides) (side : Side) (left buffer : List ℕ) (n : ℕ) (rest : List Entry) → is_open side sides ≡ true
    → 0 < length left → n ≤ length buffer → take n buffer ≡ take 65536 left
    → course sides (In side left ∷ rest) ≡ In side (take n buffer) ∷ course sides (In side (drop n left) ∷ rest)
some_piece sides side [] buffer n rest opened some fits same = absurd (omega arith)
some_piece sides side (b ∷ bs) buffer n rest opened some fits same = a_piece sides side b bs buffer n rest opened fits same

no_piece : (sides : Sides) (side : Side) (left : List ℕ) (rest : List Entry) → left ≡ []
    → course sides (In side left ∷ rest) ≡ course sides rest
no_piece sides side left rest none = rw none (go (is_open side sides) refl)
  where
    go : (t : Bool) → is_open side sides ≡ t → course sides (In side [] ∷ rest) ≡ course sides rest
    go true t = rw t refl
    go false t = rw t refl

-- ---- what comes of a run

pub open_as : (side : Side) (links : Links) → is_open side (open_by links) ≡ is_open_in links side
open_as Client links = refl
open_as Target links = refl

-- bytes of an open side
pub bytes_come : (links : Links) (side : Side) (bytes buffer : List ℕ) (done n : ℕ) → is_open_in links side ≡ true
    → done < length bytes → n ≤ length buffer → take n buffer ≡ take 65536 (drop done bytes)
    → Gives links buffer (Bytes side n) done (One (In side bytes))
unfolding left_of
bytes_come links side bytes buffer done n opened some fits same rest =
    let count : length (drop done bytes) ≡ length bytes - done = length-drop done bytes in
    some_piece (open_by links) side (drop done bytes) buffer n rest (open_as side links ∙ opened)
    (omega (arith, count, some)) fits same
    ∙ ap (λ left. In side (take n buffer) ∷ course (open_by links) (In side left ∷ rest)) (drop-drop n done bytes)

-- as many as fit are no more than there is room for
pub fits_within : (n a b c : ℕ) → n ≡ min a b → c ≡ b → n ≤ c
fits_within n a b c count same = omega (arith, count, same, min-le_right a b)

-- bytes that all came
pub bytes_pass : (links : Links) (side : Side) (bytes : List ℕ) (done : ℕ) → length bytes ≤ done
    → Passes links done (One (In side bytes))
unfolding left_of
bytes_pass links side bytes done all rest = no_piece (open_by links) side (drop done bytes) rest (drop_all done bytes all)

-- bytes of a closed side
pub closed_passes : (links : Links) (side : Side) (bytes : List ℕ) (done : ℕ) → is_open_in links side ≡ false
    → Passes links done (One (In side bytes))
unfolding left_of
closed_passes links side bytes done closed rest = rw (open_as side links ∙ closed) refl

pub out_passes : (links : Links) (side : Side) (bytes : List ℕ) (done : ℕ) → Passes links done (One (Out side bytes))
unfolding left_of
out_passes links side bytes done rest = refl

-- the end of an open side, and of another
pub end_comes : (links : Links) (side : Side) (buffer : List ℕ) (done : ℕ) → is_open_in links side ≡ true
    → Gives links buffer (came_end side) done (One (ends side))
unfolding left_of
end_comes links side buffer done opened rest = rw (open_as side links ∙ opened) refl

pub end_passes : (links : Links) (side : Side) (done : ℕ) → is_open_in links side ≡ false
    → Passes links done (One (ends side))
unfolding left_of
end_passes links side done closed rest = rw (open_as side links ∙ closed) refl

-- the failure of an open side, and of another
pub failure_comes : (links : Links) (side : Side) (buffer : List ℕ) (done : ℕ) → is_open_in links side ≡ true
    → Gives links buffer (came_failure side) done (One (fails side))
unfolding left_of
failure_comes links side buffer done opened rest = rw (open_as side links ∙ opened) refl

pub failure_passes : (links : Links) (side : Side) (done : ℕ) → is_open_in links side ≡ false
    → Passes links done (One (fails side))
unfolding left_of
failure_passes links side done closed rest = rw (open_as side links ∙ closed) refl

-- waits that are left
more_waits : (k : ℕ) → 0 < k → replicate k nothing ≡ nothing ∷ replicate (k - 1) nothing
more_waits zero some = absurd (omega arith)
more_waits (suc k) some =
    let less : suc k - 1 ≡ k = omega arith in
    ap (λ (j : ℕ). nothing ∷ replicate j nothing) (sym less)

wait_comes : (links : Links) (buffer : List ℕ) (all done : ℕ) (rest : List Entry) → done < all
    → course (open_by links) (replicate (all - done) nothing ++ rest)
    ≡ nothing ∷ course (open_by links) (replicate (all - (done + 1)) nothing ++ rest)
wait_comes links buffer all done rest some =
    let less : all - done - 1 ≡ all - (done + 1) = omega arith in
    ap (λ left. course (open_by links) (left ++ rest)) (more_waits (all - done) (omega (arith, some)))
    ∙ ap (λ (k : ℕ). nothing ∷ course (open_by links) (replicate k nothing ++ rest)) less

no_waits : (links : Links) (k : ℕ) (rest : List Entry) → k ≡ 0
    → course (open_by links) (replicate k nothing ++ rest) ≡ course (open_by links) rest
no_waits links k rest none = rw none refl

pub waits_come : (links : Links) (buffer : List ℕ) (all done : ℕ) → done < all
    → Gives links buffer came_nothing done (Quiets all)
unfolding left_of
waits_come links buffer all done some rest = wait_comes links buffer all done rest some

pub waits_pass : (links : Links) (all done : ℕ) → all ≤ done → Passes links done (Quiets all)
unfolding left_of
waits_pass links all done none rest = no_waits links (all - done) rest (omega (arith, none))

pub one_wait_comes : (links : Links) (buffer : List ℕ) (done : ℕ) → done < 1
    → Gives links buffer came_nothing done (One nothing)
unfolding left_of
one_wait_comes links buffer done some rest = wait_comes links buffer 1 done rest some

pub one_wait_passes : (links : Links) (done : ℕ) → 1 ≤ done → Passes links done (One nothing)
unfolding left_of
one_wait_passes links done none rest = no_waits links (1 - done) rest (omega (arith, none))

-- ---- what comes of all runs

-- before anything came of a run
none_of : (run : Run) → left_of 0 run ≡ entries_in run
unfolding left_of entries_in
none_of (One (In side bytes)) = refl
none_of (One (Out side bytes)) = refl
none_of (One (ends side)) = refl
none_of (One (fails side)) = refl
none_of (One nothing) = refl
none_of (Quiets n) = ap (λ (k : ℕ). replicate k nothing) (omega arith)

pub none_in : (runs : List Run) → left_in 0 runs ≡ entries_of runs
none_in [] = refl
none_in (run ∷ runs) = ap (λ left. left ++ entries_of runs) (none_of run)

-- a run, and those behind it
pub run_here : (runs : List Run) (run : Run) (index : ℕ) → index < length runs → run ≡ get_or runs index run
    → drop index runs ≡ run ∷ drop (index + 1) runs
run_here runs run index within is =
    drop_more runs index run within ∙ ap (λ r. r ∷ drop (index + 1) runs) (sym is)

-- a run that is passed over
pub passed_over : (links : Links) (runs : List Run) (run : Run) (index done : ℕ)
    → drop index runs ≡ run ∷ drop (index + 1) runs → Passes links done run
    → course (open_by links) (left_in done (drop index runs)) ≡ course (open_by links) (left_in 0 (drop (index + 1) runs))
passed_over links runs run index done here passes =
    ap (λ left. course (open_by links) (left_in done left)) here
    ∙ passes (entries_of (drop (index + 1) runs))
    ∙ ap (course (open_by links)) (sym (none_in (drop (index + 1) runs)))

-- the same place, by its parts
left_same : (runs : List Run) (place : Place) (index done : ℕ) → place.run ≡ index → place.done ≡ done
    → left_at place runs ≡ left_in done (drop index runs)
left_same runs place index done run so_far = ap₂ (λ d r. left_in d (drop r runs)) so_far run

-- what is left behind what came of a run
left_then : (runs : List Run) (run : Run) (index done : ℕ) (place : Place) (h : Happening)
    → drop index runs ≡ run ∷ drop (index + 1) runs → IsBehind (record { run = index; done = done }) h place
    → left_at place runs ≡ left_behind h done run ++ entries_of (drop (index + 1) runs)
left_then runs run index done place (Bytes side n) here behind =
    left_same runs place index (done + n) behind.0 behind.1 ∙ ap (left_in (done + n)) here
left_then runs run index done place (came_end side) here behind =
    left_same runs place (index + 1) 0 behind.0 behind.1 ∙ none_in (drop (index + 1) runs)
left_then runs run index done place (came_failure side) here behind =
    left_same runs place (index + 1) 0 behind.0 behind.1 ∙ none_in (drop (index + 1) runs)
left_then runs run index done place came_nothing here behind =
    left_same runs place index (done + 1) behind.0 behind.1 ∙ ap (left_in (done + 1)) here

-- what a run gives comes
pub gives_at : (links : Links) (buffer : List ℕ) (runs : List Run) (run : Run) (index done : ℕ) (place : Place)
    (h : Happening) → drop index runs ≡ run ∷ drop (index + 1) runs → Gives links buffer h done run
    → IsBehind (record { run = index; done = done }) h place
    → Comes links buffer h (left_in done (drop index runs)) (left_at place runs)
gives_at links buffer runs run index done place h here gives behind =
    ap (λ left. course (open_by links) (left_in done left)) here
    ∙ gives (entries_of (drop (index + 1) runs))
    ∙ ap (λ left. entry_of buffer h ∷ course (sides_behind h (open_by links)) left)
    (sym (left_then runs run index done place h here behind))

-- the sides that are still open end where the log is used up, the client first
pub ends_come : (links : Links) (buffer : List ℕ) (index done : ℕ) (runs : List Run)
    → is_open_in links (first_open links) ≡ true → length runs ≤ index
    → Comes links buffer (came_end (first_open links)) (left_in done (drop index runs)) (left_in 0 (drop (length runs) runs))
ends_come links buffer index done runs opened all =
    rw (drop_all index runs all, drop_all (length runs) runs (omega arith)) (go links.client.is_open refl)
  where
    go : (t : Bool) → links.client.is_open ≡ t
        → last_ends (open_by links) ≡ ends (first_open links) ∷ last_ends (closing (first_open links) (open_by links))
    go true t = rw t refl
    go false t =
        let target : links.target.is_open ≡ true = rw t at opened in
        rw (t, target) refl

-- what comes is no sending
pub comes_in : (buffer : List ℕ) (h : Happening) → is_coming (entry_of buffer h) ≡ true
comes_in buffer (Bytes side n) = refl
comes_in buffer (came_end side) = refl
comes_in buffer (came_failure side) = refl
comes_in buffer came_nothing = refl
