-- What holds of frames, slots and ids that a move brings.
use Rattle.std.proofs.Common.{◌≡◌, ◌∙◌, ℕ, ◌+◌, ◌<◌, ◌≤◌, ◌^◌, Bool, true, false, cond, List, [], ◌∷◌, ◌++◌, map, refl}
use Rattle.std.proofs.Common.{sym, ap, subst, arith, Option, Some, None, option_map, nat_eq, nat_lt}
use Rattle.std.specs.Prelude.{filter, find, not, is_some, count_by, Result, Ok, Err, ok_or, ◌&&◌, ◌||◌}
use Rattle.std.specs.Cmp.{nat_eq_equiv}
use Rattle.std.specs.List.{AllByRecursion, IsDistinct, list_any, list_all}
use Rattle.std.specs.Option.{option_or}
use Rattle.std.specs.Result.{is_ok, result_unwrap_or}
use Rattle.std.proofs.lemmas.Bool.{eqb-true, ltb-true}
use Rattle.std.proofs.lemmas.List.Sums.{sum_by-cons}
use Rattle.std.proofs.Math.Nat.{one-le-pow}
use Rattle.jdwp_values.specs.declared.id.ClassId.{ClassId}
use Rattle.jdwp_values.specs.declared.id.FrameId.{FrameId}
use Rattle.jdwp_values.specs.declared.id.MethodId.{MethodId}
use Rattle.jdwp_values.specs.declared.id.ObjectId.{ObjectId}
use Rattle.jdwp_values.specs.declared.id.ThreadId.{ThreadId}
use Rattle.jdwp_values.specs.declared.value.Value.{Value}
use Rattle.jdwp_values.specs.declared.value.Value.TheVariants as values
use Rattle.jdwp_values.specs.Spelling.{FitsValue}
use Rattle.slot_values.specs.declared.slot.SlotValue.{SlotValue}
use Rattle.world_model.specs.declared.rows.WorldArray.{WorldArray}
use Rattle.world_model.specs.declared.rows.WorldFrame.{WorldFrame}
use Rattle.world_model.specs.declared.rows.WorldMethod.{WorldMethod}
use Rattle.world_model.specs.declared.rows.WorldObject.{WorldObject}
use Rattle.world_model.specs.declared.rows.WorldString.{WorldString}
use Rattle.world_model.specs.declared.rows.WorldThread.{WorldThread}
use Rattle.world_model.specs.declared.world.World.{World}
use Rattle.world_model.specs.Classes.{has_class, method_in, method_at}
use Rattle.world_model.specs.Codes.{invalid_class, not_implemented}
use Rattle.world_model.specs.Effects.{is_frame}
use Rattle.world_model.specs.Happenings.{can_hold}
use Rattle.world_model.specs.Kept.{Program, program_of, values_of}
use Rattle.world_model.specs.Kinds.{reference_of, null}
use Rattle.world_model.specs.Moving.{held_slot, is_named, slots_behind, frame_behind}
use Rattle.world_model.specs.Objects.{object_in, array_in, string_in, reference_to, reference_in}
use Rattle.world_model.specs.Requests.{frames_under}
use Rattle.world_model.specs.Sound.{IsOfSize, AreValues, IsFrame}
use Rattle.world_model.specs.Storing.{kept_value}
use Rattle.world_model.specs.Threads.{thread_in}
use Rattle.world_model.proofs.FilterLaws.{all_left, fewer}
use Rattle.world_model.proofs.ReferenceLaws.{all_front, all_back, found_id}
use Rattle.world_model.proofs.StoringLaws.{kept_is}

-- Tests --------------------------------------------------------------------------------------------------------------

pub first_of : (a b : Bool) → (a && b) ≡ true → a ≡ true
first_of true b h = refl
first_of false b h = absurd cc

pub second_of : (a b : Bool) → (a && b) ≡ true → b ≡ true
second_of true b h = h
second_of false b h = absurd cc

pub is_not : (b : Bool) → not b ≡ true → b ≡ false
is_not true h = absurd cc
is_not false h = refl

none_first : (a b : Bool) → (a || b) ≡ false → a ≡ false
none_first true b h = absurd cc
none_first false b h = refl

none_later : (a b : Bool) → (a || b) ≡ false → b ≡ false
none_later true b h = absurd cc
none_later false b h = h

pub if_so : {A : Type 0} (b : Bool) (found : Option A) (x : A) → cond b found None ≡ Some x → b ≡ true
if_so true found x h = refl
if_so false found x h = absurd cc

pub all_both : {A : Type 0} (P : A → Type 0) (xs ys : List A) → AllByRecursion P xs → AllByRecursion P ys
    → AllByRecursion P (xs ++ ys)
all_both P [] ys h k = k
all_both P (x ∷ xs) ys h k = (h.0, all_both P xs ys h.1 k)

-- Slots --------------------------------------------------------------------------------------------------------------

module _ (w : World) (s : AreValues (program_of w) (values_of w)) where
  held_fits : (value : Value) (found : Result Value ℕ) → kept_value w value ≡ found → is_ok found ≡ true
      → FitsValue w.sizes (result_unwrap_or found value)
  held_fits value (Ok kept) e h = (kept_is w value kept s e).fits
  held_fits value (Err code) e h = absurd cc

  -- the values of slots, as they are kept, have ids that fit
  pub all_held : (slots : List SlotValue) → list_all (can_hold w) slots ≡ true
      → AllByRecursion (λ (row : SlotValue). FitsValue w.sizes row.value) (map (held_slot w) slots)
  all_held [] h = tt
  all_held (row ∷ rows) h = (
    held_fits row.value (kept_value w row.value) refl (first_of (can_hold w row) (list_all (can_hold w) rows) h),
    all_held rows (second_of (can_hold w row) (list_all (can_hold w) rows) h),
  )

  pub slots_fit : (slots held : List SlotValue) → list_all (can_hold w) slots ≡ true
      → AllByRecursion (λ (row : SlotValue). FitsValue w.sizes row.value) held
      → AllByRecursion (λ (row : SlotValue). FitsValue w.sizes row.value) (slots_behind w slots held)
  slots_fit slots held h k = all_both (λ (row : SlotValue). FitsValue w.sizes row.value) _ (map (held_slot w) slots)
      (all_left (λ (row : SlotValue). FitsValue w.sizes row.value) (λ row. not (is_named slots row)) held k)
      (all_held slots h)

  -- Ids --------------------------------------------------------------------------------------------------------------

  abbrev Fits : ObjectId → Type 0
  Fits id = IsOfSize w.sizes.object id.0

  or_fits : {A : Type 0} (id : ObjectId) (v : Value) (found : Option A) (make : A → Value) (rest : Option Value)
      → ((row : A) → found ≡ Some row → Fits id) → (rest ≡ Some v → Fits id)
      → option_or (option_map make found) rest ≡ Some v → Fits id
  or_fits id v None make rest is later h = later h
  or_fits id v (Some row) make rest is later h = is row refl

  thread_fits : (id : ObjectId) (v : Value) (found : Option WorldThread)
      → ((row : WorldThread) → found ≡ Some row → Fits id)
      → cond (is_some found) (Some (values.Thread id)) None ≡ Some v → Fits id
  thread_fits id v None is h = absurd cc
  thread_fits id v (Some row) is h = is row refl

  -- the id of an object that is there fits
  pub object_fits : (id : ObjectId) (v : Value) → reference_to w id ≡ Some v → Fits id
  object_fits id v h =
      let P = IsOfSize w.sizes.object in
      let arrays = map (λ (row : WorldArray). row.id.0) w.arrays in
      let objects = map (λ (row : WorldObject). row.id.0) w.objects in
      let strings = map (λ (row : WorldString). row.id.0) w.strings in
      let threads = map (λ (row : WorldThread). row.id.0) w.threads in
      let all = s.object_sizes in
      let behind = all_back P arrays (objects ++ (strings ++ threads)) all in
      let last = all_back P objects (strings ++ threads) behind in
      or_fits id v (object_in w id) (λ row. reference_of row.tag id) _
      (λ row e. found_id P (λ (r : WorldObject). r.id.0) id.0 w.objects row e
      (all_front P objects (strings ++ threads) behind))
      (or_fits id v (array_in w id) (λ row. values.Array id) _
      (λ row e. found_id P (λ (r : WorldArray). r.id.0) id.0 w.arrays row e
      (all_front P arrays (objects ++ (strings ++ threads)) all))
      (or_fits id v (string_in w id) (λ row. values.String id) _
      (λ row e. found_id P (λ (r : WorldString). r.id.0) id.0 w.strings row e (all_front P strings threads last))
      (thread_fits id v (thread_in w (record { 0 = id.0 }))
      (λ row e. found_id P (λ (r : WorldThread). r.id.0) id.0 w.threads row e (all_back P strings threads last)))))
      h

  null_fits : (id : ObjectId) (b : Bool) (found : Option Value) → nat_eq id.0 0 ≡ b → reference_to w id ≡ found
      → is_some (cond b (Some null) found) ≡ true → Fits id
  null_fits id true found e f h = rw (eqb-true id.0 0 e) (one-le-pow w.sizes.object 256 (omega arith))
  null_fits id false None e f h = absurd cc
  null_fits id false (Some v) e f h = object_fits id v f

  -- so does null's
  pub this_fits : (id : ObjectId) → is_some (reference_in w id) ≡ true → Fits id
  this_fits id h = null_fits id (nat_eq id.0 0) (reference_to w id) refl refl h

-- Methods ------------------------------------------------------------------------------------------------------------

pub method_there : (w : World) (class : ClassId) (method : MethodId) → is_ok (method_at w class method) ≡ true
    → is_some (method_in w class method) ≡ true
method_there w class method h = by (has_class w class) (method_in w class method) h where
  by : (b : Bool) (found : Option WorldMethod)
      → is_ok (cond b (ok_or found not_implemented) (Err invalid_class)) ≡ true → is_some found ≡ true
  by true (Some row) e = refl
  by true None e = absurd cc
  by false found e = absurd cc

-- Numbers of frames --------------------------------------------------------------------------------------------------

abbrev pub AreFew : List WorldFrame → List WorldThread → Type 0
AreFew frames threads = AllByRecursion (λ (row : WorldThread). frames_under frames row.id < 2 ^ 31) threads

-- fewer frames are few
pub few_left : (passes : WorldFrame → Bool) (frames : List WorldFrame) (threads : List WorldThread)
    → AreFew frames threads → AreFew (filter passes frames) threads
few_left passes frames [] h = tt
few_left passes frames (row ∷ threads) h = (
  (let less = fewer (λ (f : WorldFrame). nat_eq f.thread.0 row.id.0) passes frames in
      let few : frames_under frames row.id < 2 ^ 31 = h.0 in omega (arith, less, few)),
  few_left passes frames threads h.1,
)

more_at : (frame : WorldFrame) (frames : List WorldFrame) (other : ThreadId) (b : Bool)
    → nat_eq frame.thread.0 other.0 ≡ b → frames_under frames frame.thread + 1 < 2 ^ 31
    → frames_under frames other < 2 ^ 31 → cond b 1 0 + frames_under frames other < 2 ^ 31
more_at frame frames other true e room few =
    let same : frame.thread ≡ other = ap (λ n. record { 0 = n }) (eqb-true frame.thread.0 other.0 e) in
    let room_there : frames_under frames other + 1 < 2 ^ 31 =
    subst (λ (t : ThreadId). frames_under frames t + 1 < 2 ^ 31) same room in
    omega (arith, room_there)
more_at frame frames other false e room few = omega (arith, few)

-- one more of a thread that has room are few
pub few_with : (frame : WorldFrame) (frames : List WorldFrame) (threads : List WorldThread)
    → frames_under frames frame.thread + 1 < 2 ^ 31 → AreFew frames threads → AreFew (frame ∷ frames) threads
few_with frame frames [] room h = tt
few_with frame frames (row ∷ threads) room h = (
  subst (λ n. n < 2 ^ 31)
      (sym (sum_by-cons (λ (f : WorldFrame). cond (nat_eq f.thread.0 row.id.0) 1 0) frame frames))
      (more_at frame frames row.id (nat_eq frame.thread.0 row.id.0) refl room h.0),
  few_with frame frames threads room h.1,
)

-- Ids of frames ------------------------------------------------------------------------------------------------------

-- no frame has an id that is not found
pub apart_from : (n : ℕ) (frames : List WorldFrame) → list_any (λ (row : WorldFrame). nat_eq row.id.0 n) frames ≡ false
    → AllByRecursion (λ y. nat_eq n y ≡ false) (map (λ (row : WorldFrame). row.id.0) frames)
apart_from n [] h = tt
apart_from n (row ∷ frames) h = (
  nat_eq_equiv.symm n row.id.0 ∙ none_first (nat_eq row.id.0 n) _ h,
  apart_from n frames (none_later (nat_eq row.id.0 n) _ h),
)

-- A frame that goes on -----------------------------------------------------------------------------------------------

module _ (w : World) (thread : ThreadId) (top : FrameId) (index : ℕ) (slots : List SlotValue) where
  abbrev changed : WorldFrame → WorldFrame
  changed = frame_behind w thread top index slots

  same_id_at : (b : Bool) (row : WorldFrame)
      → (cond b (record row { index = index; slots = slots_behind w slots row.slots }) row).id.0 ≡ row.id.0
  same_id_at true row = refl
  same_id_at false row = refl

  -- the ids stay
  pub same_ids : (rows : List WorldFrame)
      → map (λ (row : WorldFrame). row.id.0) (map changed rows) ≡ map (λ (row : WorldFrame). row.id.0) rows
  same_ids [] = refl
  same_ids (row ∷ rows) =
      ap (λ n. n ∷ map (λ (r : WorldFrame). r.id.0) (map changed rows)) (same_id_at (is_frame thread top row) row)
      ∙ ap (λ ns. row.id.0 ∷ ns) (same_ids rows)

  same_thread_at : (b : Bool) (row : WorldFrame)
      → (cond b (record row { index = index; slots = slots_behind w slots row.slots }) row).thread ≡ row.thread
  same_thread_at true row = refl
  same_thread_at false row = refl

  same_number : (rows : List WorldFrame) (other : ThreadId)
      → frames_under (map changed rows) other ≡ frames_under rows other
  same_number [] other = refl
  same_number (row ∷ rows) other =
      let one = λ (f : WorldFrame). cond (nat_eq f.thread.0 other.0) 1 0 in
      sum_by-cons one (changed row) (map changed rows)
      ∙ ap (λ (t : ThreadId). cond (nat_eq t.0 other.0) 1 0 + frames_under (map changed rows) other)
      (same_thread_at (is_frame thread top row) row)
      ∙ ap (λ n. one row + n) (same_number rows other) ∙ sym (sum_by-cons one row rows)

  -- and so do the numbers of frames
  pub few_changed : (rows : List WorldFrame) (threads : List WorldThread) → AreFew rows threads
      → AreFew (map changed rows) threads
  few_changed rows [] h = tt
  few_changed rows (row ∷ threads) h =
      (subst (λ n. n < 2 ^ 31) (sym (same_number rows row.id)) h.0, few_changed rows threads h.1)

  module _ (s : AreValues (program_of w) (values_of w)) (can : list_all (can_hold w) slots ≡ true) where
    frame_at : (b : Bool) (row : WorldFrame) → IsFrame (program_of w) row
        → IsFrame (program_of w) (cond b (record row { index = index; slots = slots_behind w slots row.slots }) row)
    frame_at true row h = record {
      id_size = h.id_size;
      there = h.there;
      this_size = h.this_size;
      slots = slots_fit w s slots row.slots can h.slots;
    }
    frame_at false row h = h

    -- all frames stay sound
    pub frames_go_on : (rows : List WorldFrame) → AllByRecursion (IsFrame (program_of w)) rows
        → AllByRecursion (IsFrame (program_of w)) (map changed rows)
    frames_go_on [] h = tt
    frames_go_on (row ∷ rows) h = (frame_at (is_frame thread top row) row h.0, frames_go_on rows h.1)
