-- Frames of a thread, a page of them.
use Rattle.std.proofs.Common.{◌≡◌, ◌<◌, ◌≤◌, ◌-◌, ◌^◌, ℕ, ℤ, zero, suc, Bool, true, false, List, [], ◌∷◌, ◌++◌, map}
use Rattle.std.proofs.Common.{refl, sym, ap, subst, ◌∙◌, arith, length, take, drop, min, not, ◌&&◌}
use Rattle.std.specs.Prelude.{codes, count_by, find, nat_lt, unwrap_or, ◌==◌, ◌||◌, int_lt, pos, negsuc, if◌then◌else◌}
use Rattle.std.specs.Prelude.{Option, Some, None, option_map, option_and_then, ok_or, is_some, Result, Ok, Err}
use Rattle.std.specs.Option.{option_map_or}
use Rattle.std.specs.Result.{result_ok}
use Rattle.std.proofs.lemmas.Bool.{eqb-true, le-ltb, lt-ltb}
use Rattle.std.proofs.lemmas.List.{length-drop, length-map, length-take, take-map, drop-map, take_min, take-take}
use Rattle.std.proofs.lemmas.List.Sums.{length-filter}
use Rattle.class_tables.specs.Lines.{entry_at}
use Rattle.class_tables.specs.Signatures.{package_in}
use Rattle.class_tables.specs.Views.{Key}
use Rattle.jdwp_commands.specs.declared.answer.Answer.TheVariants as answers
use Rattle.jdwp_commands.specs.declared.listed.Frame.{Frame}
use Rattle.jdwp_commands.specs.declared.question.Question.TheVariants as questions
use Rattle.jdwp_values.specs.Lossy.{lossy}
use Rattle.jdwp_values.specs.declared.class.LineTable.{LineTable}
use Rattle.jdwp_values.specs.declared.class.Method.{Method}
use Rattle.jdwp_values.specs.declared.id.ThreadId.{ThreadId}
use Rattle.machine_model.specs.Frames.{count_from, count_in, counted_plan, frame_plan, frame_shown, frames_from}
use Rattle.machine_model.specs.Frames.{frames_in, frames_plan, line_at, lines_plan, methods_plan, path_of, shown_plan}
use Rattle.machine_model.specs.Frames.{signature_plan, source_plan, spot_by}
use Rattle.machine_model.specs.Plans.{asking, both, each, of_world, two_of}
use Rattle.machine_model.specs.State.{State}
use Rattle.machine_model.specs.declared.acts.Want.{Want}
use Rattle.machine_model.specs.declared.parts.Finding.TheVariants as found
use Rattle.machine_model.specs.declared.parts.ShownFrame.{ShownFrame}
use Rattle.machine_model.specs.declared.parts.Spot.{Spot}
use Rattle.shown_worlds.specs.Facts.{line_table, methods, signature, source}
use Rattle.shown_worlds.specs.FrameRows as shown
use Rattle.shown_worlds.specs.Laws.{ShowsFrames}
use Rattle.shown_worlds.specs.Paging.{most_shown, page, so_many}
use Rattle.shown_worlds.proofs.FactLaws.{lines_there, methods_there, signature_there, source_there}
use Rattle.shown_worlds.proofs.PlanLemmas.{each_has, living, must_said, said_both, said_chained, said_made}
use Rattle.shown_worlds.proofs.RowLemmas.{found_all, found_passes}
use Rattle.value_views.specs.Names.{class_name}
use Rattle.wish_sets.specs.Places.{key_by}
use Rattle.world_model.specs.Classes.{and_then}
use Rattle.world_model.specs.Codes.{invalid_thread, not_implemented}
use Rattle.world_model.specs.Requests.{frames_under}
use Rattle.world_model.specs.Replies.{living_reply}
use Rattle.world_model.specs.Sound.{IsSound}
use Rattle.world_model.specs.Threads as threads
use Rattle.world_model.specs.declared.rows.WorldFrame.{WorldFrame}
use Rattle.world_model.specs.declared.rows.WorldThread.{WorldThread}
use Rattle.world_model.specs.declared.world.World.{World}

-- Pages ---------------------------------------------------------------------------------------------------------------

takes_so_many : {A : Type 0} (most count rest : ℕ) (items : List A) → length items ≡ rest
    → take (min most (min count rest)) items ≡ take most (take count items)
takes_so_many {A} most count rest items is =
    sym (take-take (min most (min count rest)) count items (omega arith))
    ∙ ap (λ n. take (min most n) (take count items)) (ap (min count) (sym is) ∙ sym (length-take count items))
    ∙ take_min most (take count items)

-- a page has as many items as are counted for it
pub paged : {A : Type 0} (start count : ℕ) (items : List A)
    → take (count_from (length items) start count) (drop start items) ≡ page start count items
paged start zero items =
    ap (λ n. take (min most_shown n) (drop start items)) (sym (length-drop start items))
    ∙ take_min most_shown (drop start items)
paged start (suc count) items =
    takes_so_many most_shown (suc count) (length items - start) (drop start items) (length-drop start items)

so_many_map : {A B : Type 0} (f : A → B) (count : ℕ) (items : List A)
    → so_many count (map f items) ≡ map f (so_many count items)
so_many_map f zero items = refl
so_many_map f (suc count) items = take-map f (suc count) items

pub page_map : {A B : Type 0} (f : A → B) (start count : ℕ) (items : List A)
    → page start count (map f items) ≡ map f (page start count items)
page_map f start count items =
    ap (λ l. take most_shown (so_many count l)) (drop-map f start items)
    ∙ ap (take most_shown) (so_many_map f count (drop start items))
    ∙ take-map f most_shown (so_many count (drop start items))

pub map_then : {A B C : Type 0} (f : A → B) (g : B → C) (items : List A)
    → map g (map f items) ≡ map (λ a. g (f a)) items
map_then f g [] = refl
map_then f g (a ∷ others) = ap (λ l. g (f a) ∷ l) (map_then f g others)

pub map_same : {A B : Type 0} (f g : A → B) → ((a : A) → f a ≡ g a) → (items : List A) → map f items ≡ map g items
map_same f g same [] = refl
map_same f g same (a ∷ others) = ap (λ b. b ∷ map f others) (same a) ∙ ap (λ l. g a ∷ l) (map_same f g same others)

-- A frame -------------------------------------------------------------------------------------------------------------

spot_found : (state : State) (key : Option Key) (line : Option ℤ)
    → spot_by state key line ≡ option_and_then (λ k. option_map (shown.spot_at (path_of state) k) line) key
spot_found state None line = refl
spot_found state (Some key) None = refl
spot_found state (Some key) (Some line) = refl

key_found : (signature : List ℕ) (source : Option (List ℕ))
    → key_by signature source ≡ option_and_then (λ file. option_map
    (λ path. record { package_path = path; file = file })
    (package_in signature)) source
key_found signature None = refl
key_found signature (Some file) = refl

line_found : (index : ℕ) (table : Option LineTable) → line_at index table
    ≡ option_map (λ entry. entry.line) (option_and_then (λ (known : LineTable). entry_at index known.lines) table)
line_found index None = refl
line_found index (Some table) = refl

name_found : (found : Option Method)
    → unwrap_or (option_map (λ (method : Method). lossy method.name) found) []
    ≡ option_map_or (λ (method : Method). lossy method.name) found []
name_found None = refl
name_found (Some method) = refl

-- what is heard of the class and the method of a frame
abbrev facts : World → WorldFrame → (List ℕ × Option (List ℕ)) × (List Method × Option LineTable)
facts w row = ((signature w row.class, source w row.class), (methods w row.class, line_table w row.class row.method))

frame_same : (w : World) (state : State) (thread : ThreadId) (row : WorldFrame)
    → frame_shown state thread (threads.shown_frame w row) (facts w row) ≡ shown.frame_of (path_of state) w thread row
frame_same w state thread row =
    ap (λ (name : List ℕ). record {
      frame = record { thread = thread; frame = row.id; at = shown.place_of w row };
      name = class_name (signature w row.class) ++ codes "." ++ name;
      spot = spot_by state (key_by (signature w row.class) (source w row.class))
          (line_at row.index (line_table w row.class row.method));
    }) (name_found (find (λ (method : Method). method.id.0 == row.method.0) (methods w row.class)))
    ∙ ap (λ (spot : Option Spot). record {
      frame = record { thread = thread; frame = row.id; at = shown.place_of w row };
      name = class_name (signature w row.class) ++ codes "." ++ shown.method_name w row;
      spot = spot;
    }) (ap (λ key. spot_by state key (line_at row.index (line_table w row.class row.method)))
    (key_found (signature w row.class) (source w row.class))
    ∙ spot_found state (shown.source_of w row.class) (line_at row.index (line_table w row.class row.method))
    ∙ ap (λ line. option_and_then (λ k. option_map (shown.spot_at (path_of state) k) line)
    (shown.source_of w row.class))
    (line_found row.index (line_table w row.class row.method)))

facts_there : (w : World) (frame : Frame)
    → of_world (living_reply w) (both (both (signature_plan frame.at.class) (source_plan frame.at.class))
    (both (methods_plan frame.at.class) (lines_plan frame.at.class frame.at.method)))
    ≡ Some (
      (signature w frame.at.class, source w frame.at.class),
      (methods w frame.at.class, line_table w frame.at.class frame.at.method),
    )
facts_there w frame =
    said_both (living_reply w) (both (signature_plan frame.at.class) (source_plan frame.at.class))
    (both (methods_plan frame.at.class) (lines_plan frame.at.class frame.at.method))
    ∙ ap (λ a. two_of a (of_world (living_reply w)
    (both (methods_plan frame.at.class) (lines_plan frame.at.class frame.at.method))))
    (said_both (living_reply w) (signature_plan frame.at.class) (source_plan frame.at.class)
    ∙ ap (λ s. two_of s (of_world (living_reply w) (source_plan frame.at.class))) (signature_there w frame.at.class)
    ∙ ap (two_of (Some (signature w frame.at.class))) (source_there w frame.at.class))
    ∙ ap (two_of (Some (signature w frame.at.class, source w frame.at.class)))
    (said_both (living_reply w) (methods_plan frame.at.class) (lines_plan frame.at.class frame.at.method)
    ∙ ap (λ s. two_of s (of_world (living_reply w) (lines_plan frame.at.class frame.at.method)))
    (methods_there w frame.at.class)
    ∙ ap (two_of (Some (methods w frame.at.class))) (lines_there w frame.at.class frame.at.method))

-- a frame, by what is heard of its class
abbrev frame_heard : World → State → ThreadId → Frame → ShownFrame
frame_heard w state thread frame = frame_shown state thread frame (
  (signature w frame.at.class, source w frame.at.class),
  (methods w frame.at.class, line_table w frame.at.class frame.at.method),
)

frame_there : (w : World) (state : State) (thread : ThreadId) (frame : Frame)
    → of_world (living_reply w) (frame_plan state thread frame) ≡ Some (frame_heard w state thread frame)
frame_there w state thread frame =
    said_made (living_reply w) (frame_shown state thread frame)
    (both (both (signature_plan frame.at.class) (source_plan frame.at.class))
    (both (methods_plan frame.at.class) (lines_plan frame.at.class frame.at.method)))
    ∙ ap (option_map (frame_shown state thread frame)) (facts_there w frame)

shown_there : (w : World) (state : State) (thread : ThreadId) (total : ℕ) (rows : List WorldFrame)
    → of_world (living_reply w) (shown_plan state thread total (map (threads.shown_frame w) rows))
    ≡ Some (found.Frames total (map (shown.frame_of (path_of state) w thread) rows))
shown_there w state thread total rows =
    said_made (living_reply w) (found.Frames total) (each (frame_plan state thread) (map (threads.shown_frame w) rows))
    ∙ ap (option_map (found.Frames total))
    (each_has (living_reply w) (frame_plan state thread) (frame_heard w state thread) (frame_there w state thread)
    (map (threads.shown_frame w) rows))
    ∙ ap (λ l. Some (found.Frames total l)) (map_then (threads.shown_frame w) (frame_heard w state thread) rows
    ∙ map_same (λ row. frame_heard w state thread (threads.shown_frame w row)) (shown.frame_of (path_of state) w thread)
    (frame_same w state thread) rows)

-- Whether they may be asked -------------------------------------------------------------------------------------------

-- what may be asked, by whether the thread is alive and whether it runs
abbrev may : Bool → Bool → Result (Unit {0}) ℕ
may alive runs = if alive then if runs then Err not_implemented else Ok tt else Err invalid_thread

pub by_may : {A : Type 0} (alive runs : Bool) (r : Result A ℕ)
    → result_ok (and_then (λ (u : Unit {0}). r) (may alive runs))
    ≡ (if alive && not runs then result_ok r else None)
by_may true true r = refl
by_may true false r = refl
by_may false true r = refl
by_may false false r = refl

-- Frames that are asked for -------------------------------------------------------------------------------------------

-- no more is counted than stands behind the start
counted_le : (total start count : ℕ) → count_from total start count ≤ total - start
counted_le total start zero = omega arith
counted_le total start (suc count) = omega arith

guard : (n start count : ℕ) → suc count ≤ n - start
    → (int_lt (pos start) (pos 0) || int_lt (pos (suc count)) (negsuc 0) || nat_lt n start) ≡ false
guard n start count some =
    ap (λ b. b || int_lt (pos (suc count)) (negsuc 0) || nat_lt n start) (le-ltb start 0 (omega arith))
    ∙ le-ltb n start (omega (arith, some))

-- what stands behind the start is there
asked_from : (frames : List Frame) (start count : ℕ) → suc count ≤ length frames - start
    → threads.frames_from frames (pos start) (pos (suc count)) ≡ Some (take (suc count) (drop start frames))
asked_from frames start count some =
    ap (λ b. if b then None else Some (threads.at_most (pos (suc count)) (drop start frames)))
    (guard (length frames) start count some)
    ∙ ap (λ b. Some (if b then drop start frames else take (suc count) (drop start frames)))
    (le-ltb (suc count) 0 (omega arith))

frames_asked : (w : World) (thread : ThreadId) (start count : ℕ) → shown.may_look w thread ≡ true
    → count ≤ length (threads.frames_of w thread) - start
    → of_world (living_reply w) (frames_from thread start count)
    ≡ Some (take count (drop start (threads.frames_of w thread)))
unfolding of_world
frames_asked w thread start zero may some = refl
frames_asked w thread start (suc count) may some =
    must_said answers.Frames frames_in (λ l. l) (λ l. refl) (threads.frames_in w thread (pos start) (pos (suc count)))
    ∙ ap (option_map (λ (l : List Frame). l)) (by_may (threads.is_alive w thread) (w.count == 0)
    (ok_or (threads.frames_from (threads.frames_of w thread) (pos start) (pos (suc count))) not_implemented)
    ∙ ap (λ b. if b then result_ok (ok_or {E = ℕ} (threads.frames_from (threads.frames_of w thread) (pos start)
    (pos (suc count))) not_implemented) else None) may
    ∙ ap (λ (o : Option (List Frame)). result_ok (ok_or {E = ℕ} o not_implemented))
    (asked_from (threads.frames_of w thread) start count some))

-- how many they are
count_there : (w : World) (thread : ThreadId)
    → of_world (living_reply w) (asking count_in (Want.Must (questions.FrameCount thread)))
    ≡ option_map (λ n. n) (if shown.may_look w thread
    then result_ok (threads.counted (length (threads.frames_of w thread))) else None)
unfolding of_world
count_there w thread =
    must_said answers.FrameCount count_in (λ n. n) (λ n. refl) (threads.frame_count_in w thread)
    ∙ ap (option_map (λ n. n)) (by_may (threads.is_alive w thread) (w.count == 0)
    (threads.counted (length (threads.frames_of w thread))))

-- a thread that is alive has so few that they can be counted
few_frames : (w : World) (thread : ThreadId) (there : Option WorldThread) → IsSound w
    → threads.thread_in w thread ≡ there → is_some there ≡ true → length (shown.frames_of w thread) < 2 ^ 31
few_frames w thread None sound is some = cc
few_frames w thread (Some row) sound is some =
    subst (λ n. n < 2 ^ 31)
    (ap (λ (n : ℕ). count_by (λ (r : WorldFrame). r.thread.0 == n) w.frames)
    (eqb-true row.id.0 thread.0 (found_passes (λ (r : WorldThread). r.id.0 == thread.0) w.threads row is))
    ∙ sym (length-filter (λ (r : WorldFrame). r.thread.0 == thread.0) w.frames))
    (found_all (λ (r : WorldThread). frames_under w.frames r.id < 2 ^ 31) (λ (r : WorldThread). r.id.0 == thread.0)
    w.threads sound.values.few row is)

left_true : (a b : Bool) → (a && b) ≡ true → a ≡ true
left_true true b h = refl
left_true false b h = h

counted_there : (w : World) (state : State) (thread : ThreadId) (start levels : ℕ) → shown.may_look w thread ≡ true
    → of_world (living_reply w) (counted_plan state thread start levels (length (threads.frames_of w thread)))
    ≡ Some (found.Frames (length (shown.frames_of w thread))
    (map (shown.frame_of (path_of state) w thread) (page start levels (shown.frames_of w thread))))
counted_there w state thread start levels may =
    said_chained (living_reply w) (frames_from thread start
    (count_from (length (threads.frames_of w thread)) start levels))
    (shown_plan state thread (length (threads.frames_of w thread)))
    ∙ ap (option_and_then (λ frames. of_world (living_reply w)
    (shown_plan state thread (length (threads.frames_of w thread)) frames)))
    (frames_asked w thread start (count_from (length (threads.frames_of w thread)) start levels) may
    (counted_le (length (threads.frames_of w thread)) start levels)
    ∙ ap Some (paged start levels (threads.frames_of w thread)
    ∙ page_map (threads.shown_frame w) start levels (shown.frames_of w thread)))
    ∙ shown_there w state thread (length (threads.frames_of w thread)) (page start levels (shown.frames_of w thread))
    ∙ ap (λ n. Some (found.Frames n
    (map (shown.frame_of (path_of state) w thread) (page start levels (shown.frames_of w thread)))))
    (length-map (shown.frames_of w thread) (threads.shown_frame w))

frames_by : (w : World) (state : State) (thread : ThreadId) (start levels : ℕ) (may : Bool) → IsSound w
    → shown.may_look w thread ≡ may
    → of_world (living_reply w) (frames_plan state thread start levels)
    ≡ (if may then Some (found.Frames (length (shown.frames_of w thread))
    (map (shown.frame_of (path_of state) w thread) (page start levels (shown.frames_of w thread)))) else None)
frames_by w state thread start levels false sound is =
    said_chained (living_reply w) (asking count_in (Want.Must (questions.FrameCount thread)))
    (counted_plan state thread start levels)
    ∙ ap (option_and_then (λ total. of_world (living_reply w) (counted_plan state thread start levels total)))
    (count_there w thread ∙ ap (λ b. option_map (λ n. n) (if b
    then result_ok (threads.counted (length (threads.frames_of w thread))) else None)) is)
frames_by w state thread start levels true sound is =
    said_chained (living_reply w) (asking count_in (Want.Must (questions.FrameCount thread)))
    (counted_plan state thread start levels)
    ∙ ap (option_and_then (λ total. of_world (living_reply w) (counted_plan state thread start levels total)))
    (count_there w thread ∙ ap (λ b. option_map (λ n. n) (if b
    then result_ok (threads.counted (length (threads.frames_of w thread))) else None)) is
    ∙ ap (λ b. option_map (λ n. n) (result_ok {E = ℕ} (if b then Ok (length (threads.frames_of w thread))
    else Err not_implemented))) (lt-ltb (length (threads.frames_of w thread)) (2 ^ 31)
    (subst (λ n. n < 2 ^ 31) (sym (length-map (shown.frames_of w thread) (threads.shown_frame w)))
    (few_frames w thread (threads.thread_in w thread) sound refl
    (left_true (threads.is_alive w thread) (not (w.count == 0)) is)))))
    ∙ counted_there w state thread start levels is

pub shows_frames : ShowsFrames
shows_frames w state thread start levels live =
    living w (frames_plan state thread start levels) live.alive
    ∙ frames_by w state thread start levels (shown.may_look w thread) live.sound refl
