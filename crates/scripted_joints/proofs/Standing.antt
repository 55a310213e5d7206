-- Where a thread stands behind a move.
use Rattle.std.proofs.Common.{◌≡◌, ◌∙◌, ℕ, ◌+◌, Bool, true, false, cond, List, [], ◌∷◌, map, refl, sym, ap, subst, ℤ}
use Rattle.std.proofs.Common.{arith, Option, Some, None, option_map, nat_eq}
use Rattle.std.specs.Prelude.{filter, find, count_by, not, option_and_then, ◌&&◌, ◌||◌, Contains}
use Rattle.std.specs.Cmp.{nat_eq_equiv}
use Rattle.std.proofs.lemmas.List.Sums.{sum_by-cons}
use Rattle.jdwp_values.specs.declared.id.FrameId.{FrameId}
use Rattle.jdwp_values.specs.declared.id.ThreadId.{ThreadId}
use Rattle.jdwp_values.specs.declared.location.Location.{Location}
use Rattle.jdwp_events.specs.declared.event.Event.TheVariants as events
use Rattle.jdwp_events.specs.declared.kind.EventKind.{EventKind}
use Rattle.jdwp_events.specs.declared.kind.EventKind.TheVariants as kinds
use Rattle.joint_model.specs.Obeying.{IsTold}
use Rattle.world_model.specs.declared.rows.Installed.{Installed}
use Rattle.slot_values.specs.declared.slot.SlotValue.{SlotValue}
use Rattle.world_model.specs.declared.rows.WorldFrame.{WorldFrame}
use Rattle.world_model.specs.declared.world.World.{World}
use Rattle.world_model.specs.Effects.{is_frame, same_event}
use Rattle.world_model.specs.Emitting.{is_hit, is_stepped, one_passes, is_at}
use Rattle.world_model.specs.Happenings.{place_at, running, is_outer, caller_of, frames_outside}
use Rattle.world_model.specs.Moving.{gone_on, frame_behind, slots_behind, frames_left, entered}
use Rattle.world_model.specs.Requests.{frames_under, innermost, line_at, line_of_thread, line_of_frame}
use Rattle.world_model.specs.Threads.{is_alive}

-- Rows that are found -------------------------------------------------------------------------------------------------

pub found_passes : {A : Type 0} (test : A → Bool) (rows : List A) (x : A) → find test rows ≡ Some x → test x ≡ true
found_passes test [] x h = absurd cc
found_passes test (row ∷ rows) x h = by (test row) refl h (found_passes test rows x) where
  by : (b : Bool) → test row ≡ b → cond b (Some row) (find test rows) ≡ Some x
      → (find test rows ≡ Some x → test x ≡ true) → test x ≡ true
  by true e f later = let same : row ≡ x = cc in subst (λ (y : _). test y ≡ true) same e
  by false e f later = later f

found_mapped : {A : Type 0} (test : A → Bool) (change : A → A) → ((x : A) → test (change x) ≡ test x) → (rows : List A)
    → find test (map change rows) ≡ option_map change (find test rows)
found_mapped test change same [] = refl
found_mapped test change same (row ∷ rows) =
    ap (λ (b : Bool). cond b (Some (change row)) (find test (map change rows))) (same row)
    ∙ by (test row) (found_mapped test change same rows)
  where
    by : (b : Bool) → find test (map change rows) ≡ option_map change (find test rows)
        → cond b (Some (change row)) (find test (map change rows)) ≡ option_map change (cond b (Some row) (find test rows))
    by true later = refl
    by false later = later

abbrev one_of : {A : Type 0} → (A → Bool) → A → ℕ
one_of test x = cond (test x) 1 0

counted_mapped : {A : Type 0} (test : A → Bool) (change : A → A) → ((x : A) → test (change x) ≡ test x)
    → (rows : List A) → count_by test (map change rows) ≡ count_by test rows
counted_mapped test change same [] = refl
counted_mapped test change same (row ∷ rows) =
    sum_by-cons (one_of test) (change row) (map change rows)
    ∙ ap (λ (b : Bool). cond b 1 0 + count_by test (map change rows)) (same row)
    ∙ ap (λ (n : ℕ). one_of test row + n) (counted_mapped test change same rows)
    ∙ sym (sum_by-cons (one_of test) row rows)

-- what is found among some rows
found_left : {A : Type 0} (test passes both : A → Bool) → ((x : A) → both x ≡ (passes x && test x)) → (rows : List A)
    → find test (filter passes rows) ≡ find both rows
found_left test passes both same [] = refl
found_left test passes both same (row ∷ rows) =
    by (passes row) (found_left test passes both same rows)
    ∙ ap (λ (b : Bool). cond b (Some row) (find both rows)) (sym (same row))
  where
    by : (b : Bool) → find test (filter passes rows) ≡ find both rows
        → find test (cond b (row ∷ filter passes rows) (filter passes rows))
        ≡ cond (b && test row) (Some row) (find both rows)
    by true later = ap (λ (found : Option _). cond (test row) (Some row) found) later
    by false later = later

counted_left : {A : Type 0} (test passes both : A → Bool) → ((x : A) → both x ≡ (passes x && test x)) → (rows : List A)
    → count_by test (filter passes rows) ≡ count_by both rows
counted_left test passes both same [] = refl
counted_left test passes both same (row ∷ rows) =
    by (passes row) (counted_left test passes both same rows)
    ∙ ap (λ (b : Bool). cond b 1 0 + count_by both rows) (sym (same row))
    ∙ sym (sum_by-cons (one_of both) row rows)
  where
    by : (b : Bool) → count_by test (filter passes rows) ≡ count_by both rows
        → count_by test (cond b (row ∷ filter passes rows) (filter passes rows))
        ≡ cond (b && test row) 1 0 + count_by both rows
    by true later = sum_by-cons (one_of test) row (filter passes rows) ∙ ap (λ (n : ℕ). one_of test row + n) later
    by false later = omega (arith, later)

-- Where a thread stands -----------------------------------------------------------------------------------------------

-- a thread stands at a place, with so many frames, at a line
pub record StandsIn (w : World) (thread : ThreadId) (at : Location) (frames : ℕ) (line : Option ℤ) : Type 0 where
  pub row : WorldFrame
  pub is_running : running w thread ≡ Some row
  pub is_at : at ≡ place_at w row.class row.method row.index
  pub frames_are : frames_under w.frames thread ≡ frames
  pub line_is : line_of_thread w thread ≡ line

pub alive_first : (b : Bool) (found : Option WorldFrame) (row : WorldFrame) → cond b found None ≡ Some row
    → (b ≡ true) × (found ≡ Some row)
alive_first true found row h = (refl, h)
alive_first false found row h = absurd cc

runs_so : (w : World) (thread : ThreadId) (row : WorldFrame) → is_alive w thread ≡ true
    → innermost w thread ≡ Some row → running w thread ≡ Some row
runs_so w thread row alive is = ap (λ (b : Bool). cond b (innermost w thread) None) alive ∙ is

line_so : (w : World) (thread : ThreadId) (row : WorldFrame) → innermost w thread ≡ Some row
    → line_of_thread w thread ≡ line_at w row.class row.method row.index
line_so w thread row is = ap (option_and_then (line_of_frame w)) is

-- It goes on in its innermost frame.
module _ (w : World) (thread : ThreadId) (index : ℕ) (slots : List SlotValue) (top : WorldFrame) where
  abbrev change : WorldFrame → WorldFrame
  change = frame_behind w thread top.id index slots

  same_thread_at : (b : Bool) (row : WorldFrame)
      → (cond b (record row { index = index; slots = slots_behind w slots row.slots }) row).thread ≡ row.thread
  same_thread_at true row = refl
  same_thread_at false row = refl

  same_thread : (row : WorldFrame) → nat_eq (change row).thread.0 thread.0 ≡ nat_eq row.thread.0 thread.0
  same_thread row =
      ap (λ (t : ThreadId). nat_eq t.0 thread.0) (same_thread_at (is_frame thread top.id row) row)

  changed_top : innermost w thread ≡ Some top
      → change top ≡ record top { index = index; slots = slots_behind w slots top.slots }
  changed_top is =
      let passes : nat_eq top.thread.0 thread.0 ≡ true =
      found_passes (λ (row : WorldFrame). nat_eq row.thread.0 thread.0) w.frames top is in
      ap (λ (b : Bool). cond (b && nat_eq top.id.0 top.id.0)
      (record top { index = index; slots = slots_behind w slots top.slots }) top) passes
      ∙ ap (λ (b : Bool). cond b (record top { index = index; slots = slots_behind w slots top.slots }) top)
      (nat_eq_equiv.refl top.id.0)

  pub goes_on : running w thread ≡ Some top
      → StandsIn (gone_on w thread index slots top) thread (place_at w top.class top.method index)
      (frames_under w.frames thread) (line_at w top.class top.method index)
  goes_on runs =
      let here = alive_first (is_alive w thread) (innermost w thread) top runs in
      let now = gone_on w thread index slots top in
      let row : WorldFrame = record top { index = index; slots = slots_behind w slots top.slots } in
      let is : innermost now thread ≡ Some row =
      found_mapped (λ (r : WorldFrame). nat_eq r.thread.0 thread.0) change same_thread w.frames
      ∙ ap (option_map change) here.1 ∙ ap Some (changed_top here.1) in
      record {
        row = row;
        is_running = runs_so now thread row here.0 is;
        is_at = refl;
        frames_are = counted_mapped (λ (r : WorldFrame). nat_eq r.thread.0 thread.0) change same_thread w.frames;
        line_is = line_so now thread row is;
      }

-- It begins a frame.
pub begins : (w : World) (frame : WorldFrame) → is_alive w frame.thread ≡ true
    → StandsIn (entered w frame) frame.thread (place_at w frame.class frame.method frame.index)
    (frames_under w.frames frame.thread + 1) (line_at w frame.class frame.method frame.index)
begins w frame alive =
    let now = entered w frame in
    let test = λ (r : WorldFrame). nat_eq r.thread.0 frame.thread.0 in
    let is : innermost now frame.thread ≡ Some frame =
    ap (λ (b : Bool). cond b (Some frame) (find test w.frames)) (nat_eq_equiv.refl frame.thread.0) in
    let counts = sum_by-cons (one_of test) frame w.frames
    ∙ ap (λ (b : Bool). cond b 1 0 + count_by test w.frames) (nat_eq_equiv.refl frame.thread.0) in
    record {
      row = frame;
      is_running = runs_so now frame.thread frame alive is;
      is_at = refl;
      frames_are = omega (arith, counts);
      line_is = line_so now frame.thread frame is;
    }

-- It comes back from its innermost frame.
outer : (a b : Bool) → (a && not b) ≡ (not (a && b) && a)
outer true true = refl
outer true false = refl
outer false b = refl

pub comes_back : (w : World) (thread : ThreadId) (top : FrameId) (row : WorldFrame) → is_alive w thread ≡ true
    → caller_of w thread top ≡ Some row
    → StandsIn (record w { frames = frames_left thread top w.frames }) thread
    (place_at w row.class row.method row.index) (frames_outside w.frames thread top)
    (line_at w row.class row.method row.index)
comes_back w thread top row alive called =
    let now : World = record w { frames = frames_left thread top w.frames } in
    let test = λ (r : WorldFrame). nat_eq r.thread.0 thread.0 in
    let passes = λ (r : WorldFrame). not (is_frame thread top r) in
    let both = is_outer thread top in
    let same = λ (r : WorldFrame). outer (nat_eq r.thread.0 thread.0) (nat_eq r.id.0 top.0) in
    let is : innermost now thread ≡ Some row = found_left test passes both same w.frames ∙ called in
    record {
      row = row;
      is_running = runs_so now thread row alive is;
      is_at = refl;
      frames_are = counted_left test passes both same w.frames;
      line_is = line_so now thread row is;
    }

-- What it is told -----------------------------------------------------------------------------------------------------

-- a request for breakpoints is none for steps
not_both : (kind : EventKind) → same_event kind kinds.Breakpoint ≡ true → same_event kind kinds.SingleStep ≡ false
not_both kinds.Breakpoint h = refl
not_both _ h = absurd cc

and_true : (a b : Bool) → a ≡ true → b ≡ true → (a && b) ≡ true
and_true a b h k = rw (h, k) refl

hit_there : (comes a b step : Bool) → ((comes && (a && b)) || step) ≡ true → step ≡ false → (a && b) ≡ true
hit_there true a b true h none = absurd cc
hit_there true true true false h none = refl
hit_there true true false false h none = absurd cc
hit_there true false b false h none = absurd cc
hit_there false a b step h none = absurd cc

step_there : (comes a b step : Bool) → ((comes && (a && b)) || step) ≡ true → a ≡ false → step ≡ true
step_there true true b step h none = absurd cc
step_there true false b step h none = h
step_there false a b step h none = h

first_none : (a b : Bool) → a ≡ false → (a && b) ≡ false
first_none true b h = absurd cc
first_none false b h = refl

module _ (w now : World) (thread : ThreadId) (at : Location) (frames : ℕ) (line : Option ℤ) (comes : Bool)
    (stands : StandsIn now thread at frames line) (asked : now.requests ≡ w.requests) (steps : now.steps ≡ w.steps)
    (request : Installed) where
  abbrev is_place : Bool
  is_place = same_event request.wish_kind kinds.Breakpoint

  abbrev is_there : Bool
  is_there = one_passes (is_at at) request.modifiers

  abbrev step_in : ℕ → Option ℤ → Bool
  step_in n l = is_stepped now thread n l request

  -- the same steps are made there
  steps_alike : is_stepped w thread frames line request ≡ true
      → step_in (frames_under now.frames thread) (line_of_thread now thread) ≡ true
  steps_alike h =
      ap (λ (n : ℕ). step_in n (line_of_thread now thread)) stands.frames_are
      ∙ ap (λ (l : Option ℤ). step_in frames l) stands.line_is
      ∙ ap (λ (rows : List _). is_stepped (record now { steps = rows }) thread frames line request) steps
      ∙ h

  stands_at : (b : Bool) → is_place ≡ b → Contains w.requests request
      → (is_hit at comes request || is_stepped w thread frames line request) ≡ true
      → IsTold now (
        request,
        cond b (events.Breakpoint request.request thread at)
            (events.SingleStep request.request thread at),
      )
  stands_at true e among h = record {
    asked = subst (λ (rows : List Installed). Contains rows request) (sym asked) among;
    id = refl;
    matches = (
      (stands.row, stands.is_running, stands.is_at),
      hit_there comes is_place is_there (is_stepped w thread frames line request) h
          (first_none (same_event request.wish_kind kinds.SingleStep) _ (not_both request.wish_kind e)),
    );
  }
  stands_at false e among h = record {
    asked = subst (λ (rows : List Installed). Contains rows request) (sym asked) among;
    id = refl;
    matches = (
      (stands.row, stands.is_running, stands.is_at),
      steps_alike (step_there comes is_place is_there (is_stepped w thread frames line request) h e),
    );
  }

  -- a request that is matched by a thread that stands there may be told so
  pub stands_told : Contains w.requests request
      → (is_hit at comes request || is_stepped w thread frames line request) ≡ true
      → IsTold now (
        request,
        cond is_place (events.Breakpoint request.request thread at)
            (events.SingleStep request.request thread at),
      )
  stands_told among h = stands_at is_place refl among h
