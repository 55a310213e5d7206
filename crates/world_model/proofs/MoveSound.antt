-- A sound world stays sound as it moves.
use Rattle.std.proofs.Common.{◌≡◌, ◌∙◌, ℕ, ◌+◌, ◌<◌, ◌^◌, Bool, true, false, cond, List, [], ◌∷◌, ◌++◌, map, refl}
use Rattle.std.proofs.Common.{sym, ap, subst, arith, Option, Some, None, option_map, nat_eq, nat_lt}
use Rattle.std.specs.Prelude.{filter, find, not, is_some, Result, Ok, Err, option_and_then, ◌&&◌, ◌||◌}
use Rattle.std.specs.Cmp.{nat_eq_equiv}
use Rattle.std.specs.List.{AllByRecursion, IsDistinct, list_any, list_all}
use Rattle.std.specs.Option.{option_or, option_map_or}
use Rattle.std.specs.Result.{is_ok}
use Rattle.std.proofs.lemmas.Bool.{eqb-true, ltb-true}
use Rattle.std.proofs.lemmas.List.{append_assoc, map-append}
use Rattle.std.proofs.lemmas.Map.Keys.{IsDistinct-push, IsDistinct-cons}
use Rattle.jdwp_values.specs.declared.id.ClassId.{ClassId}
use Rattle.jdwp_values.specs.declared.id.FieldId.{FieldId}
use Rattle.jdwp_values.specs.declared.id.ObjectId.{ObjectId}
use Rattle.jdwp_values.specs.declared.id.ThreadId.{ThreadId}
use Rattle.jdwp_values.specs.declared.tag.Tag.{Tag}
use Rattle.jdwp_values.specs.declared.value.Value.{Value}
use Rattle.jdwp_values.specs.declared.value.Value.TheVariants as values
use Rattle.jdwp_values.specs.Parts.{tag_of_value}
use Rattle.jdwp_values.specs.Spelling.{FitsValue}
use Rattle.jdwp_events.specs.declared.composite.Composite.{Composite}
use Rattle.world_model.specs.declared.happening.Happening.{Happening}
use Rattle.world_model.specs.declared.moves.Move.{Move}
use Rattle.world_model.specs.declared.moves.Move.TheVariants as moves
use Rattle.world_model.specs.declared.rows.Put.{Put}
use Rattle.slot_values.specs.declared.slot.SlotValue.{SlotValue}
use Rattle.world_model.specs.declared.rows.WorldArray.{WorldArray}
use Rattle.world_model.specs.declared.rows.WorldClass.{WorldClass}
use Rattle.world_model.specs.declared.rows.WorldField.{WorldField}
use Rattle.world_model.specs.declared.rows.WorldFrame.{WorldFrame}
use Rattle.world_model.specs.declared.rows.WorldObject.{WorldObject}
use Rattle.world_model.specs.declared.rows.WorldString.{WorldString}
use Rattle.world_model.specs.declared.rows.WorldThread.{WorldThread}
use Rattle.world_model.specs.declared.world.World.{World}
use Rattle.world_model.specs.Classes.{method_at}
use Rattle.world_model.specs.Codes.{not_implemented}
use Rattle.world_model.specs.Happenings.{what_happens, running, can_hold, is_new_frame, can_enter, can_begin}
use Rattle.world_model.specs.Happenings.{is_new_thread, value_for, put_for, stored, fits}
use Rattle.world_model.specs.Kept.{Program, program_of, values_of}
use Rattle.world_model.specs.Kinds.{same_kind, kind_in, reference_of, element_kind}
use Rattle.world_model.specs.Moving.{held_slot, slots_behind, gone_on, class_behind, prepared, threads_left, others_left}
use Rattle.world_model.specs.Moving.{put_behind, behind, count_behind, moved}
use Rattle.world_model.specs.Objects.{object_in, array_in, string_in, reference_to, reference_in, is_there, is_thread}
use Rattle.world_model.specs.Objects.{object_at, field_of}
use Rattle.world_model.specs.Requests.{innermost, frames_under, suspends}
use Rattle.world_model.specs.Sound.{IsOfSize, ends, IsProgram, AreValues, IsArray, IsFrame, IsHold, IsSound}
use Rattle.world_model.specs.Sound.{kind_of_class, object_ids}
use Rattle.world_model.specs.Storing.{kept_value, put_of}
use Rattle.world_model.specs.Threads.{thread_in}
use Rattle.world_model.proofs.FilterLaws.{all_left, keys_left, distinct_left}
use Rattle.world_model.proofs.FrameLaws.{first_of, second_of, is_not, if_so, all_both, all_held, this_fits, method_there}
use Rattle.world_model.proofs.FrameLaws.{AreFew, few_left, few_with, apart_from, same_ids, few_changed, frames_go_on}
use Rattle.world_model.proofs.HoldLaws.{all_push}
use Rattle.world_model.proofs.MoveLaws.{makes, can_be, by_frame, by_put}
use Rattle.world_model.proofs.ReferenceLaws.{all_front, all_back}
use Rattle.world_model.proofs.SoundLaws.{put_sound}
use Rattle.world_model.proofs.StoringLaws.{and_then_ok, kept_is, put_fits}

abbrev frame_id : WorldFrame → ℕ
frame_id row = row.id.0

-- A frame that goes on, a new one, one that goes ---------------------------------------------------------------------

at_sound : (w : World) (thread : ThreadId) (index : ℕ) (slots : List SlotValue) → IsSound w
    → list_all (can_hold w) slots ≡ true → (top : WorldFrame) → IsSound (gone_on w thread index slots top)
at_sound w thread index slots s can top = record {
  program = s.program;
  values = record {
    objects = s.values.objects;
    object_sizes = s.values.object_sizes;
    puts = s.values.puts;
    arrays = s.values.arrays;
    frame_ids = subst (IsDistinct nat_eq) (sym (same_ids w thread top.id index slots w.frames)) s.values.frame_ids;
    frames = frames_go_on w thread top.id index slots s.values can w.frames s.values.frames;
    few = few_changed w thread top.id index slots w.frames w.threads s.values.few;
  };
  hold = s.hold;
}

frames_sound : (w : World) (frames : List WorldFrame) → IsSound w → IsDistinct nat_eq (map frame_id frames)
    → AllByRecursion (IsFrame (program_of w)) frames → AreFew frames w.threads
    → IsSound (record w { frames = frames })
frames_sound w frames s distinct all few = record {
  program = s.program;
  values = record {
    objects = s.values.objects;
    object_sizes = s.values.object_sizes;
    puts = s.values.puts;
    arrays = s.values.arrays;
    frame_ids = distinct;
    frames = all;
    few = few;
  };
  hold = s.hold;
}

-- what is so of a frame that a thread may begin
record CanCall (w : World) (frame : WorldFrame) : Type 0 where
  room : frames_under w.frames frame.thread + 1 < 2 ^ 31
  is_frame : IsFrame (program_of w) frame
  apart : list_any (λ (row : WorldFrame). nat_eq row.id.0 frame.id.0) w.frames ≡ false

call_sound : (w : World) (frame : WorldFrame) → IsSound w → CanCall w frame
    → IsSound (record w { frames = frame ∷ w.frames })
call_sound w frame s can = frames_sound w (frame ∷ w.frames) s
    (IsDistinct-cons nat_eq frame.id.0 (map frame_id w.frames) (apart_from frame.id.0 w.frames can.apart)
    s.values.frame_ids)
    (can.is_frame, s.values.frames) (few_with frame w.frames w.threads can.room s.values.few)

left_sound : (w : World) (passes : WorldFrame → Bool) → IsSound w → IsSound (record w { frames = filter passes w.frames })
left_sound w passes s = frames_sound w (filter passes w.frames) s
    (distinct_left frame_id passes w.frames s.values.frame_ids)
    (all_left (IsFrame (program_of w)) passes w.frames s.values.frames)
    (few_left passes w.frames w.threads s.values.few)

-- Threads ------------------------------------------------------------------------------------------------------------

-- Ids in front of others -----------------------------------------------------------------------------------------------

-- the ids of threads at the end of those of all objects
abbrev in_front : World → List ℕ → List ℕ
in_front w ids = map (λ (row : WorldArray). row.id.0) w.arrays
    ++ (map (λ (row : WorldObject). row.id.0) w.objects ++ (map (λ (row : WorldString). row.id.0) w.strings ++ ids))

fewer_behind : (P : ℕ → Type 0) (xs ys zs : List ℕ) → (AllByRecursion P ys → AllByRecursion P zs)
    → AllByRecursion P (xs ++ ys) → AllByRecursion P (xs ++ zs)
fewer_behind P [] ys zs less h = less h
fewer_behind P (x ∷ xs) ys zs less h = (h.0, fewer_behind P xs ys zs less h.1)

-- ids are apart where those in front are apart from those that are left
apart_behind : (xs ys zs : List ℕ) → ((P : ℕ → Type 0) → AllByRecursion P ys → AllByRecursion P zs)
    → (IsDistinct nat_eq ys → IsDistinct nat_eq zs) → IsDistinct nat_eq (xs ++ ys) → IsDistinct nat_eq (xs ++ zs)
unfolding IsDistinct
apart_behind [] ys zs less distinct h = distinct h
apart_behind (x ∷ xs) ys zs less distinct h = (
  fewer_behind (λ y. nat_eq x y ≡ false) xs ys zs (less (λ y. nat_eq x y ≡ false)) h.0,
  apart_behind xs ys zs less distinct h.1,
)

abbrev array_ids : World → List ℕ
array_ids w = map (λ (row : WorldArray). row.id.0) w.arrays

abbrev ids_of_objects : World → List ℕ
ids_of_objects w = map (λ (row : WorldObject). row.id.0) w.objects

abbrev string_ids : World → List ℕ
string_ids w = map (λ (row : WorldString). row.id.0) w.strings

module _ (w : World) (ys zs : List ℕ) (less : (P : ℕ → Type 0) → AllByRecursion P ys → AllByRecursion P zs) where
  behind_strings : (P : ℕ → Type 0) → AllByRecursion P (string_ids w ++ ys) → AllByRecursion P (string_ids w ++ zs)
  behind_strings P = fewer_behind P (string_ids w) ys zs (less P)

  behind_objects : (P : ℕ → Type 0) → AllByRecursion P (ids_of_objects w ++ (string_ids w ++ ys))
      → AllByRecursion P (ids_of_objects w ++ (string_ids w ++ zs))
  behind_objects P =
      fewer_behind P (ids_of_objects w) (string_ids w ++ ys) (string_ids w ++ zs) (behind_strings P)

  front_all : (P : ℕ → Type 0) → AllByRecursion P (in_front w ys) → AllByRecursion P (in_front w zs)
  front_all P = fewer_behind P (array_ids w) (ids_of_objects w ++ (string_ids w ++ ys))
      (ids_of_objects w ++ (string_ids w ++ zs)) (behind_objects P)

  front_distinct : (IsDistinct nat_eq ys → IsDistinct nat_eq zs) → IsDistinct nat_eq (in_front w ys)
      → IsDistinct nat_eq (in_front w zs)
  front_distinct distinct =
      apart_behind (array_ids w) (ids_of_objects w ++ (string_ids w ++ ys)) (ids_of_objects w ++ (string_ids w ++ zs))
      behind_objects
      (apart_behind (ids_of_objects w) (string_ids w ++ ys) (string_ids w ++ zs) behind_strings
      (apart_behind (string_ids w) ys zs less distinct))

-- what is so of all but threads stays with other threads
module _ (w : World) (threads : List WorldThread) where
  abbrev other : Program
  other = program_of (record w { threads = threads })

  same_program : IsProgram (program_of w) → IsProgram other
  same_program p = record {
    classes = p.classes;
    no_null = p.no_null;
    class_sizes = p.class_sizes;
    chains = p.chains;
    methods = p.methods;
    method_sizes = p.method_sizes;
    fields = p.fields;
    field_sizes = p.field_sizes;
  }

  same_arrays : (arrays : List WorldArray) → AllByRecursion (IsArray (program_of w)) arrays
      → AllByRecursion (IsArray other) arrays
  same_arrays [] h = tt
  same_arrays (row ∷ rows) h = (
    record { kind = h.0.kind; is_kind = h.0.is_kind; elements = h.0.elements; few = h.0.few },
    same_arrays rows h.1,
  )

  same_frames : (frames : List WorldFrame) → AllByRecursion (IsFrame (program_of w)) frames
      → AllByRecursion (IsFrame other) frames
  same_frames [] h = tt
  same_frames (row ∷ rows) h = (
    record { id_size = h.0.id_size; there = h.0.there; this_size = h.0.this_size; slots = h.0.slots },
    same_frames rows h.1,
  )

die_sound : (w : World) (thread : ThreadId) → IsSound w
    → IsSound (record w { threads = threads_left thread w.threads; frames = others_left thread w.frames })
die_sound w thread s =
    let stays = λ (row : WorldThread). not (nat_eq row.id.0 thread.0) in
    let passes = λ (row : WorldFrame). not (nat_eq row.thread.0 thread.0) in
    let id_of = λ (row : WorldThread). row.id.0 in
    let less = λ (P : ℕ → Type 0). keys_left id_of P stays w.threads in
    record {
      program = same_program w (threads_left thread w.threads) s.program;
      values = record {
        objects = front_distinct w (map id_of w.threads) (map id_of (filter stays w.threads)) less
            (distinct_left id_of stays w.threads) s.values.objects;
        object_sizes = front_all w (map id_of w.threads) (map id_of (filter stays w.threads)) less
            (IsOfSize w.sizes.object) s.values.object_sizes;
        puts = s.values.puts;
        arrays = same_arrays w (threads_left thread w.threads) w.arrays s.values.arrays;
        frame_ids = distinct_left frame_id passes w.frames s.values.frame_ids;
        frames = same_frames w (threads_left thread w.threads) (others_left thread w.frames)
            (all_left (IsFrame (program_of w)) passes w.frames s.values.frames);
        few = all_left (λ (row : WorldThread). frames_under (filter passes w.frames) row.id < 2 ^ 31) stays w.threads
            (few_left passes w.frames w.threads s.values.few);
      };
      hold = s.hold;
    }

-- A thread that starts -----------------------------------------------------------------------------------------------

-- no row has an id that is not found
not_found : {A : Type 0} (key : A → ℕ) (n : ℕ) (rows : List A) → find (λ row. nat_eq (key row) n) rows ≡ None
    → list_any (nat_eq n) (map key rows) ≡ false
not_found key n [] h = refl
not_found key n (row ∷ rows) h = by (nat_eq (key row) n) refl h (not_found key n rows) where
  by : (b : Bool) → nat_eq (key row) n ≡ b → cond b (Some row) (find (λ r. nat_eq (key r) n) rows) ≡ None
      → (find (λ r. nat_eq (key r) n) rows ≡ None → list_any (nat_eq n) (map key rows) ≡ false)
      → (nat_eq n (key row) || list_any (nat_eq n) (map key rows)) ≡ false
  by true e f later = absurd cc
  by false e f later = rw (nat_eq_equiv.symm n (key row), e) (later f)

any_both : (n : ℕ) (xs ys : List ℕ) → list_any (nat_eq n) xs ≡ false → list_any (nat_eq n) ys ≡ false
    → list_any (nat_eq n) (xs ++ ys) ≡ false
any_both n [] ys h k = k
any_both n (x ∷ xs) ys h k = by (nat_eq n x) h (any_both n xs ys) where
  by : (b : Bool) → (b || list_any (nat_eq n) xs) ≡ false
      → (list_any (nat_eq n) xs ≡ false → list_any (nat_eq n) ys ≡ false → list_any (nat_eq n) (xs ++ ys) ≡ false)
      → (b || list_any (nat_eq n) (xs ++ ys)) ≡ false
  by true e later = absurd cc
  by false e later = later e k

none_here : {A B : Type 0} (make : A → B) (found : Option A) (rest : Option B)
    → is_some (option_or (option_map make found) rest) ≡ false → found ≡ None
none_here make None rest h = refl
none_here make (Some x) rest h = absurd cc

none_behind : {A B : Type 0} (make : A → B) (found : Option A) (rest : Option B)
    → is_some (option_or (option_map make found) rest) ≡ false → is_some rest ≡ false
none_behind make None rest h = h
none_behind make (Some x) rest h = absurd cc

no_thread : {A B : Type 0} (x : B) (found : Option A) → is_some (cond (is_some found) (Some x) None) ≡ false
    → found ≡ None
no_thread x None h = refl
no_thread x (Some y) h = absurd cc

-- an id that nothing has is none of those of all objects
is_new_id : (w : World) (id : ObjectId) → is_there w id ≡ false
    → list_any (nat_eq id.0) (object_ids (program_of w) (values_of w)) ≡ false
is_new_id w id h =
    let threads = cond (is_thread w id) (Some (values.Thread id)) None in
    let strings = option_or (option_map (λ row. values.String id) (string_in w id)) threads in
    let arrays = option_or (option_map (λ row. values.Array id) (array_in w id)) strings in
    let no_object = none_here (λ (row : WorldObject). reference_of row.tag id) (object_in w id) arrays h in
    let behind_objects = none_behind (λ (row : WorldObject). reference_of row.tag id) (object_in w id) arrays h in
    let no_array = none_here (λ (row : WorldArray). values.Array id) (array_in w id) strings behind_objects in
    let behind_arrays = none_behind (λ (row : WorldArray). values.Array id) (array_in w id) strings behind_objects in
    let no_string = none_here (λ (row : WorldString). values.String id) (string_in w id) threads behind_arrays in
    let behind_strings = none_behind (λ (row : WorldString). values.String id) (string_in w id) threads behind_arrays in
    let none = no_thread (values.Thread id) (thread_in w (record { 0 = id.0 })) behind_strings in
    any_both id.0 _ _ (not_found (λ (row : WorldArray). row.id.0) id.0 w.arrays no_array)
    (any_both id.0 _ _ (not_found (λ (row : WorldObject). row.id.0) id.0 w.objects no_object)
    (any_both id.0 _ _ (not_found (λ (row : WorldString). row.id.0) id.0 w.strings no_string)
    (not_found (λ (row : WorldThread). row.id.0) id.0 w.threads none)))

-- one id more at the end
pushed_front : (w : World) (threads : List WorldThread) (row : WorldThread)
    → in_front w (map (λ (r : WorldThread). r.id.0) threads) ++ row.id.0 ∷ []
    ≡ in_front w (map (λ (r : WorldThread). r.id.0) (threads ++ row ∷ []))
pushed_front w threads row =
    let id_of = λ (r : WorldThread). r.id.0 in
    let arrays = map (λ (r : WorldArray). r.id.0) w.arrays in
    let objects = map (λ (r : WorldObject). r.id.0) w.objects in
    let strings = map (λ (r : WorldString). r.id.0) w.strings in
    append_assoc arrays (objects ++ (strings ++ map id_of threads)) (row.id.0 ∷ [])
    ∙ ap (λ ids. arrays ++ ids) (append_assoc objects (strings ++ map id_of threads) (row.id.0 ∷ [])
    ∙ ap (λ ids. objects ++ ids) (append_assoc strings (map id_of threads) (row.id.0 ∷ [])
    ∙ ap (λ ids. strings ++ ids) (sym (map-append id_of threads (row ∷ [])))))

start_sound : (w : World) (row : WorldThread) → IsSound w → is_there w (record { 0 = row.id.0 }) ≡ false
    → IsOfSize w.sizes.object row.id.0 → frames_under w.frames row.id ≡ 0
    → IsSound (record w { threads = w.threads ++ row ∷ [] })
start_sound w row s new size none =
    let ids = object_ids (program_of w) (values_of w) in
    let same = pushed_front w w.threads row in
    let threads = w.threads ++ row ∷ [] in
    record {
      program = same_program w threads s.program;
      values = record {
        objects = subst (IsDistinct nat_eq) same (IsDistinct-push nat_eq_equiv ids row.id.0 s.values.objects
            (is_new_id w (record { 0 = row.id.0 }) new));
        object_sizes = subst (AllByRecursion (IsOfSize w.sizes.object)) same
            (all_push (IsOfSize w.sizes.object) ids row.id.0 s.values.object_sizes size);
        puts = s.values.puts;
        arrays = same_arrays w threads w.arrays s.values.arrays;
        frame_ids = s.values.frame_ids;
        frames = same_frames w threads w.frames s.values.frames;
        few = all_push (λ (r : WorldThread). frames_under w.frames r.id < 2 ^ 31) w.threads row s.values.few
            (rw none (omega arith));
      };
      hold = s.hold;
    }

-- A class that is prepared -------------------------------------------------------------------------------------------

module _ (class : ClassId) where
  abbrev ready : WorldClass → WorldClass
  ready = class_behind class

  -- what is so of a class whether it is prepared or not
  ready_at : {A : Type 0} (of : WorldClass → A) → ((row : WorldClass) → of (record row { prepared = true }) ≡ of row)
      → (row : WorldClass) → of (ready row) ≡ of row
  ready_at of same row = by (nat_eq row.id.0 class.0) where
    by : (b : Bool) → of (cond b (record row { prepared = true }) row) ≡ of row
    by true = same row
    by false = refl

  ready_ids : (rows : List WorldClass)
      → map (λ (row : WorldClass). row.id.0) (map ready rows) ≡ map (λ (row : WorldClass). row.id.0) rows
  ready_ids [] = refl
  ready_ids (row ∷ rows) =
      ap (λ n. n ∷ map (λ (r : WorldClass). r.id.0) (map ready rows)) (ready_at (λ r. r.id.0) (λ r. refl) row)
      ∙ ap (λ ns. row.id.0 ∷ ns) (ready_ids rows)

  ready_sizes : (size : ℕ) (rows : List WorldClass) → AllByRecursion (λ (row : WorldClass). IsOfSize size row.id.0) rows
      → AllByRecursion (λ (row : WorldClass). IsOfSize size row.id.0) (map ready rows)
  ready_sizes size [] h = tt
  ready_sizes size (row ∷ rows) h =
      (subst (IsOfSize size) (sym (ready_at (λ r. r.id.0) (λ r. refl) row)) h.0, ready_sizes size rows h.1)

  ready_no_null : (rows : List WorldClass) → AllByRecursion (λ (row : WorldClass). 0 < row.id.0) rows
      → AllByRecursion (λ (row : WorldClass). 0 < row.id.0) (map ready rows)
  ready_no_null [] h = tt
  ready_no_null (row ∷ rows) h =
      (subst (λ n. 0 < n) (sym (ready_at (λ r. r.id.0) (λ r. refl) row)) h.0, ready_no_null rows h.1)

  ready_found : (id : ClassId) (rows : List WorldClass) → find (λ (row : WorldClass). nat_eq row.id.0 id.0) (map ready rows)
      ≡ option_map ready (find (λ (row : WorldClass). nat_eq row.id.0 id.0) rows)
  ready_found id [] = refl
  ready_found id (row ∷ rows) =
      ap (λ n. cond (nat_eq n id.0) (Some (ready row)) (find (λ (r : WorldClass). nat_eq r.id.0 id.0) (map ready rows)))
      (ready_at (λ r. r.id.0) (λ r. refl) row)
      ∙ by (nat_eq row.id.0 id.0) (ready_found id rows) where
        by : (b : Bool) → find (λ (r : WorldClass). nat_eq r.id.0 id.0) (map ready rows)
            ≡ option_map ready (find (λ (r : WorldClass). nat_eq r.id.0 id.0) rows)
            → cond b (Some (ready row)) (find (λ (r : WorldClass). nat_eq r.id.0 id.0) (map ready rows))
            ≡ option_map ready (cond b (Some row) (find (λ (r : WorldClass). nat_eq r.id.0 id.0) rows))
        by true later = refl
        by false later = later

  -- chains of classes end as they did
  ready_ends : (steps rows : List WorldClass) (id : ClassId) → ends (map ready steps) (map ready rows) id ≡ ends steps rows id
  ready_ends [] rows id = refl
  ready_ends (step ∷ steps) rows id =
      ap (λ b. cond (nat_eq id.0 0) true b)
      (ap (λ found. option_map_or (λ (row : WorldClass). ends (map ready steps) (map ready rows) row.above) found false)
      (ready_found id rows)
      ∙ by (find (λ (row : WorldClass). nat_eq row.id.0 id.0) rows) (ready_ends steps rows)) where
        by : (found : Option WorldClass)
            → ((above : ClassId) → ends (map ready steps) (map ready rows) above ≡ ends steps rows above)
            → option_map_or (λ (row : WorldClass). ends (map ready steps) (map ready rows) row.above)
            (option_map ready found) false
            ≡ option_map_or (λ (row : WorldClass). ends steps rows row.above) found false
        by None later = refl
        by (Some row) later =
            later (ready row).above ∙ ap (λ above. ends steps rows above) (ready_at (λ r. r.above) (λ r. refl) row)

  ready_chains : (all rows : List WorldClass)
      → AllByRecursion (λ (row : WorldClass). ends all all row.id ≡ true) rows
      → AllByRecursion (λ (row : WorldClass). ends (map ready all) (map ready all) row.id ≡ true) (map ready rows)
  ready_chains all [] h = tt
  ready_chains all (row ∷ rows) h = (
    ready_ends all all (ready row).id ∙ ap (λ id. ends all all id) (ready_at (λ r. r.id) (λ r. refl) row) ∙ h.0,
    ready_chains all rows h.1,
  )

  -- arrays have elements of the kind that they had
  ready_kind : (rows : List WorldClass) (id : ClassId) → kind_of_class (map ready rows) id ≡ kind_of_class rows id
  ready_kind rows id =
      ap (λ found. option_and_then (λ (row : WorldClass). element_kind row.signature) found) (ready_found id rows)
      ∙ by (find (λ (row : WorldClass). nat_eq row.id.0 id.0) rows) where
        by : (found : Option WorldClass)
            → option_and_then (λ (row : WorldClass). element_kind row.signature) (option_map ready found)
            ≡ option_and_then (λ (row : WorldClass). element_kind row.signature) found
        by None = refl
        by (Some row) = ap element_kind (ready_at (λ r. r.signature) (λ r. refl) row)

  ready_arrays : (w : World) (arrays : List WorldArray) → AllByRecursion (IsArray (program_of w)) arrays
      → AllByRecursion (IsArray (program_of (prepared w class))) arrays
  ready_arrays w [] h = tt
  ready_arrays w (row ∷ rows) h = (
    record {
      kind = h.0.kind;
      is_kind = ready_kind w.classes row.class ∙ h.0.is_kind;
      elements = h.0.elements;
      few = h.0.few;
    },
    ready_arrays w rows h.1,
  )

  ready_frames : (w : World) (frames : List WorldFrame) → AllByRecursion (IsFrame (program_of w)) frames
      → AllByRecursion (IsFrame (program_of (prepared w class))) frames
  ready_frames w [] h = tt
  ready_frames w (row ∷ rows) h = (
    record { id_size = h.0.id_size; there = h.0.there; this_size = h.0.this_size; slots = h.0.slots },
    ready_frames w rows h.1,
  )

  prepare_sound : (w : World) → IsSound w → IsSound (prepared w class)
  prepare_sound w s = record {
    program = record {
      classes = subst (IsDistinct nat_eq) (sym (ready_ids w.classes)) s.program.classes;
      no_null = ready_no_null w.classes s.program.no_null;
      class_sizes = ready_sizes w.sizes.class w.classes s.program.class_sizes;
      chains = ready_chains w.classes w.classes s.program.chains;
      methods = s.program.methods;
      method_sizes = s.program.method_sizes;
      fields = s.program.fields;
      field_sizes = s.program.field_sizes;
    };
    values = record {
      objects = s.values.objects;
      object_sizes = s.values.object_sizes;
      puts = s.values.puts;
      arrays = ready_arrays w w.arrays s.values.arrays;
      frame_ids = s.values.frame_ids;
      frames = ready_frames w w.frames s.values.frames;
      few = s.values.few;
    };
    hold = s.hold;
  }

-- A field that gets a value ------------------------------------------------------------------------------------------

value_fits : (w : World) (value : Value) (kind : Option Tag) (kept : Value) → AreValues (program_of w) (values_of w)
    → value_for w value kind ≡ Ok kept → FitsValue w.sizes kept
value_fits w value None kept s h = absurd cc
value_fits w value (Some tag) kept s h = by (same_kind tag (tag_of_value value)) h where
  by : (b : Bool) → cond b (kept_value w value) (Err not_implemented) ≡ Ok kept → FitsValue w.sizes kept
  by true e = (kept_is w value kept s e).fits
  by false e = absurd cc

put_for_fits : (w : World) (id : ObjectId) (field : FieldId) (value : Value) (row : Option WorldField) (put : Put)
    → AreValues (program_of w) (values_of w) → put_for w id field value row ≡ Ok put → FitsValue w.sizes put.value
put_for_fits w id field value None put s h = absurd cc
put_for_fits w id field value (Some row) put s h =
    put_fits w id field (value_for w value (kind_in row.field.signature)) put
    (λ v e. value_fits w value (kind_in row.field.signature) v s e) h

store_sound : (w : World) (id : ObjectId) (field : FieldId) (value : Value) (found : Result Put ℕ) → IsSound w
    → stored w id field value ≡ found → IsSound (put_behind w found)
store_sound w id field value (Err code) s h = s
store_sound w id field value (Ok put) s h =
    let x = and_then_ok (λ (object : WorldObject). put_for w object.id field value (field_of w object.class field))
    (object_at w id) put h in
    put_sound w put s (put_for_fits w x.0.id field value (field_of w x.0.class field) put s.values x.2)

-- All moves ----------------------------------------------------------------------------------------------------------

dead_sound : (w : World) → IsSound w → IsSound (record w { dead = true })
dead_sound w s = record { program = s.program; values = s.values; hold = s.hold }

can_call : (w : World) (frame : WorldFrame) (slots : List SlotValue) → IsSound w
    → (can_enter w frame.thread frame.class frame.method && can_begin w frame.id frame.this slots) ≡ true
    → frame.slots ≡ map (held_slot w) slots → CanCall w frame
can_call w frame slots s can same =
    let enters = first_of (can_enter w frame.thread frame.class frame.method) (can_begin w frame.id frame.this slots) can in
    let begins = second_of (can_enter w frame.thread frame.class frame.method) (can_begin w frame.id frame.this slots) can in
    let behind_alive = second_of _ _ enters in
    let is_new : is_new_frame w frame.id ≡ true = first_of _ _ begins in
    let rest = second_of (is_new_frame w frame.id) _ begins in
    record {
      room = ltb-true (frames_under w.frames frame.thread + 1) (2 ^ 31) (first_of _ _ behind_alive);
      is_frame = record {
        id_size = ltb-true frame.id.0 (256 ^ w.sizes.frame) (first_of (fits w.sizes.frame frame.id.0) _ is_new);
        there = method_there w frame.class frame.method (second_of _ _ behind_alive);
        this_size = this_fits w s.values frame.this (first_of _ _ rest);
        slots = subst (AllByRecursion (λ (row : SlotValue). FitsValue w.sizes row.value)) (sym same)
            (all_held w s.values slots (second_of (is_some (reference_in w frame.this)) _ rest));
      };
      apart = is_not _ (second_of (fits w.sizes.frame frame.id.0) _ is_new);
    }

new_thread_sound : (w : World) (row : WorldThread) → IsSound w → is_new_thread w row.id ≡ true
    → IsSound (record w { threads = w.threads ++ row ∷ [] })
new_thread_sound w row s new =
    let id = first_of (not (nat_eq row.id.0 0) && fits w.sizes.object row.id.0) _ new in
    let rest = second_of (not (nat_eq row.id.0 0) && fits w.sizes.object row.id.0) _ new in
    start_sound w row s (is_not _ (first_of _ (nat_eq (frames_under w.frames row.id) 0) rest))
    (ltb-true row.id.0 (256 ^ w.sizes.object) (second_of (not (nat_eq row.id.0 0)) _ id))
    (eqb-true (frames_under w.frames row.id) 0 (second_of (not (is_there w (record { 0 = row.id.0 }))) _ rest))

behind_sound : (w : World) (next : Move) (happened : Happening) → IsSound w → what_happens w next ≡ Some happened
    → IsSound (behind w next)
behind_sound w (moves.At thread index slots) happened s h =
    by_frame IsSound w _ (innermost w thread) s
    (at_sound w thread index slots s (if_so (list_all (can_hold w) slots) _ happened h))
behind_sound w (moves.Call thread frame class method index this slots) happened s h =
    call_sound w _ s (can_call w (record {
      thread = thread;
      id = frame;
      class = class;
      method = method;
      index = index;
      this = this;
      slots = map (held_slot w) slots;
    }) slots s (can_be _ _ happened h) refl)
behind_sound w (moves.Return thread) happened s h =
    by_frame IsSound w _ (innermost w thread) s (λ top. left_sound w _ s)
behind_sound w (moves.Prepare class thread) happened s h = prepare_sound class w s
behind_sound w (moves.Throw thread object class method index) happened s h = s
behind_sound w (moves.Start thread name) happened s h =
    new_thread_sound w (record { id = thread; name = name }) s (can_be _ _ happened h)
behind_sound w (moves.Die thread) happened s h = die_sound w thread s
behind_sound w (moves.Store object field value) happened s h =
    store_sound w object field value (stored w object field value) s refl
behind_sound w moves.Death happened s h = dead_sound w s

few_counts : (told : Option Composite) → count_behind 0 told < 2 ^ 64
few_counts None = omega arith
few_counts (Some composite) = by (suspends composite.policy 2) where
  by : (b : Bool) → cond b (0 + 1) 0 < 2 ^ 64
  by true = omega arith
  by false = omega arith

counted_sound : (w : World) (count : ℕ) → IsSound w → count < 2 ^ 64 → IsSound (record w { count = count })
counted_sound w count s few = record {
  program = s.program;
  values = s.values;
  hold = record {
    distinct = s.hold.distinct;
    numbers = s.hold.numbers;
    next_number = s.hold.next_number;
    few = few;
  };
}

pub moves_sound : (w now : World) (next : Move) (told : Option Composite) → IsSound w → moved w next ≡ Ok (now, told)
    → IsSound now
moves_sound w now next told s h = let m = makes w next now told h in
    subst IsSound m.is_now (counted_sound (behind w next) (count_behind w.count told)
    (behind_sound w next m.happened s m.is_happened)
    (subst (λ n. count_behind n told < 2 ^ 64) (sym m.free) (few_counts told)))
