use Rattle.std.proofs.Common.{◌≡◌, ◌∙◌, ℕ, zero, suc, ◌+◌, ◌<◌, ◌^◌, Bool, true, false, cond, List, [], ◌∷◌, map}
use Rattle.std.proofs.Common.{set}
use Rattle.std.proofs.Common.{refl, sym, ap, subst, Some, nat_eq, ℤ}
use Rattle.std.specs.Prelude.{find, fold}
use Rattle.std.specs.Cmp.{nat_eq_equiv}
use Rattle.std.specs.List.{AllByRecursion, IsDistinct}
use Rattle.std.specs.Ordering.{int_eq}
use Rattle.std.proofs.lemmas.Bool.{eqb-true}
use Rattle.std.proofs.lemmas.List.{length-set}
use Rattle.std.proofs.lemmas.Map.Keys.{IsDistinct-head, IsDistinct-tail}
use Rattle.jdwp_values.specs.declared.id.FrameId.{FrameId}
use Rattle.jdwp_values.specs.declared.id.ObjectId.{ObjectId}
use Rattle.jdwp_values.specs.declared.id.ThreadId.{ThreadId}
use Rattle.jdwp_values.specs.declared.tag.Tag.{Tag}
use Rattle.jdwp_values.specs.declared.value.Value.{Value}
use Rattle.jdwp_values.specs.Spelling.{FitsValue}
use Rattle.slot_values.specs.declared.slot.SlotValue.{SlotValue}
use Rattle.world_model.specs.declared.rows.WorldArray.{WorldArray}
use Rattle.world_model.specs.declared.rows.WorldFrame.{WorldFrame}
use Rattle.world_model.specs.declared.rows.WorldThread.{WorldThread}
use Rattle.world_model.specs.Effects.{array_with, slot_with, is_frame, frame_with}
use Rattle.world_model.specs.Kept.{Program}
use Rattle.world_model.specs.Requests.{frames_under}
use Rattle.world_model.specs.Sound.{IsArray, IsElement, IsFrame, kind_of_class}

-- Arrays -------------------------------------------------------------------------------------------------------------

abbrev pub array_id : WorldArray → ℕ
array_id row = row.id.0

module _ (program : Program) (id : ObjectId) (place : ℕ) (value : Value) where
  same_array_at : (b : Bool) (row : WorldArray)
      → array_id (cond b (record row { values = set row.values place value }) row) ≡ array_id row
  same_array_at true row = refl
  same_array_at false row = refl

  -- the ids stay
  pub same_arrays : (rows : List WorldArray) → map array_id (map (array_with id place value) rows) ≡ map array_id rows
  same_arrays [] = refl
  same_arrays (row ∷ rows) =
      ap (λ n. n ∷ map array_id (map (array_with id place value) rows)) (same_array_at (nat_eq row.id.0 id.0) row)
      ∙ ap (λ ns. row.id.0 ∷ ns) (same_arrays rows)

  all_set : (P : Value → Type 0) (values : List Value) (n : ℕ) (v : Value) → AllByRecursion P values → P v
      → AllByRecursion P (set values n v)
  all_set P [] n v h p = tt
  all_set P (x ∷ xs) zero v h p = (p, h.1)
  all_set P (x ∷ xs) (suc n) v h p = (h.0, all_set P xs n v h.1 p)

  -- an array with another element of its kind
  set_array : (row : WorldArray) → ((tag : Tag) → kind_of_class program.classes row.class ≡ Some tag
      → IsElement program.sizes tag value) → IsArray program row
      → IsArray program (record row { values = set row.values place value })
  set_array row is h = record {
    kind = h.kind;
    is_kind = h.is_kind;
    elements = all_set (IsElement program.sizes h.kind) row.values place value h.elements (is h.kind h.is_kind);
    few = rw (length-set row.values place value) h.few;
  }

  untouched_at : (b : Bool) (row : WorldArray) → b ≡ false
      → cond b (record row { values = set row.values place value }) row ≡ row
  untouched_at true row e = absurd cc
  untouched_at false row e = refl

  -- no array behind the one that was found has its id
  untouched : (rows : List WorldArray) (n : ℕ) → n ≡ id.0 → AllByRecursion (λ y. nat_eq n y ≡ false) (map array_id rows)
      → AllByRecursion (IsArray program) rows → AllByRecursion (IsArray program) (map (array_with id place value) rows)
  untouched [] n same apart h = tt
  untouched (row ∷ rows) n same apart h = (
    subst (IsArray program) (sym (untouched_at (nat_eq row.id.0 id.0) row
        (nat_eq_equiv.symm row.id.0 id.0 ∙ subst (λ m. nat_eq m row.id.0 ≡ false) same apart.0))) h.0,
    untouched rows n same apart.1 h.1,
  )

  changed_at : (b : Bool) (row found : WorldArray) (rows : List WorldArray) → nat_eq row.id.0 id.0 ≡ b
      → cond b (Some row) (find (λ r. nat_eq r.id.0 id.0) rows) ≡ Some found
      → ((tag : Tag) → kind_of_class program.classes found.class ≡ Some tag → IsElement program.sizes tag value)
      → AllByRecursion (λ y. nat_eq row.id.0 y ≡ false) (map array_id rows)
      → IsArray program row → AllByRecursion (IsArray program) rows
      → (find (λ r. nat_eq r.id.0 id.0) rows ≡ Some found
      → AllByRecursion (IsArray program) (map (array_with id place value) rows))
      → IsArray program (cond b (record row { values = set row.values place value }) row)
      × AllByRecursion (IsArray program) (map (array_with id place value) rows)
  changed_at true row found rows e h is apart p all later =
      let same : row ≡ found = cc in (
        set_array row (subst (λ (r : WorldArray). (tag : Tag) → kind_of_class program.classes r.class ≡ Some tag
            → IsElement program.sizes tag value) (sym same) is) p,
        untouched rows row.id.0 (eqb-true row.id.0 id.0 e) apart all,
      )
  changed_at false row found rows e h is apart p all later = (p, later h)

  -- an element of the array's kind keeps all arrays sound
  pub arrays_stay : (rows : List WorldArray) (found : WorldArray) → find (λ r. nat_eq r.id.0 id.0) rows ≡ Some found
      → ((tag : Tag) → kind_of_class program.classes found.class ≡ Some tag → IsElement program.sizes tag value)
      → IsDistinct nat_eq (map array_id rows) → AllByRecursion (IsArray program) rows
      → AllByRecursion (IsArray program) (map (array_with id place value) rows)
  arrays_stay [] found h is distinct all = tt
  arrays_stay (row ∷ rows) found h is distinct all =
      changed_at (nat_eq row.id.0 id.0) row found rows refl h is
      (IsDistinct-head nat_eq row.id.0 (map array_id rows) distinct) all.0 all.1
      (λ e. arrays_stay rows found e is (IsDistinct-tail nat_eq row.id.0 (map array_id rows) distinct) all.1)

-- Frames -------------------------------------------------------------------------------------------------------------

module _ (program : Program) (thread : ThreadId) (frame : FrameId) (slot : ℤ) (value : Value) where
  abbrev changed : WorldFrame → WorldFrame
  changed = frame_with thread frame slot value

  same_frame_at : (b : Bool) (row : WorldFrame)
      → (cond b (record row { slots = map (slot_with slot value) row.slots }) row).id.0 ≡ row.id.0
  same_frame_at true row = refl
  same_frame_at false row = refl

  -- the ids stay
  pub same_frames : (rows : List WorldFrame)
      → map (λ (row : WorldFrame). row.id.0) (map changed rows) ≡ map (λ (row : WorldFrame). row.id.0) rows
  same_frames [] = refl
  same_frames (row ∷ rows) =
      ap (λ n. n ∷ map (λ (r : WorldFrame). r.id.0) (map changed rows)) (same_frame_at (is_frame thread frame row) row)
      ∙ ap (λ ns. row.id.0 ∷ ns) (same_frames rows)

  same_thread_at : (b : Bool) (row : WorldFrame)
      → (cond b (record row { slots = map (slot_with slot value) row.slots }) row).thread ≡ row.thread
  same_thread_at true row = refl
  same_thread_at false row = refl

  abbrev counted : ThreadId → ℕ → WorldFrame → ℕ
  counted other n row = n + cond (nat_eq row.thread.0 other.0) 1 0

  same_number_from : (n : ℕ) (rows : List WorldFrame) (other : ThreadId)
      → fold (counted other) n (map changed rows) ≡ fold (counted other) n rows
  same_number_from n [] other = refl
  same_number_from n (row ∷ rows) other =
      ap (λ (t : ThreadId). fold (counted other) (n + cond (nat_eq t.0 other.0) 1 0) (map changed rows))
      (same_thread_at (is_frame thread frame row) row)
      ∙ same_number_from (counted other n row) rows other

  -- and so do the numbers of frames
  same_number : (rows : List WorldFrame) (other : ThreadId)
      → frames_under (map changed rows) other ≡ frames_under rows other
  same_number rows other = same_number_from 0 rows other

  pub few_frames : (rows : List WorldFrame) (threads : List WorldThread)
      → AllByRecursion (λ (row : WorldThread). frames_under rows row.id < 2 ^ 31) threads
      → AllByRecursion (λ (row : WorldThread). frames_under (map changed rows) row.id < 2 ^ 31) threads
  few_frames rows [] h = tt
  few_frames rows (row ∷ threads) h =
      (subst (λ n. n < 2 ^ 31) (sym (same_number rows row.id)) h.0, few_frames rows threads h.1)

  slot_at : (b : Bool) (row : SlotValue) → FitsValue program.sizes value → FitsValue program.sizes row.value
      → FitsValue program.sizes (cond b (record row { value = value }) row).value
  slot_at true row is h = is
  slot_at false row is h = h

  slots_fit : (rows : List SlotValue) → FitsValue program.sizes value
      → AllByRecursion (λ (row : SlotValue). FitsValue program.sizes row.value) rows
      → AllByRecursion (λ (row : SlotValue). FitsValue program.sizes row.value) (map (slot_with slot value) rows)
  slots_fit [] is h = tt
  slots_fit (row ∷ rows) is h = (slot_at (int_eq row.slot slot) row is h.0, slots_fit rows is h.1)

  frame_stays : (b : Bool) (row : WorldFrame) → FitsValue program.sizes value → IsFrame program row
      → IsFrame program (cond b (record row { slots = map (slot_with slot value) row.slots }) row)
  frame_stays true row is h = record {
    id_size = h.id_size;
    there = h.there;
    this_size = h.this_size;
    slots = slots_fit row.slots is h.slots;
  }
  frame_stays false row is h = h

  -- a value whose id fits keeps all frames sound
  pub frames_stay : (rows : List WorldFrame) → FitsValue program.sizes value → AllByRecursion (IsFrame program) rows
      → AllByRecursion (IsFrame program) (map changed rows)
  frames_stay [] is h = tt
  frames_stay (row ∷ rows) is h = (frame_stays (is_frame thread frame row) row is h.0, frames_stay rows is h.1)
