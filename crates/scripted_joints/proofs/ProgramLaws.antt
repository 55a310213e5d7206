-- A move of a script's program is one that an obeying target may make: it runs, and tells what happens.
use Rattle.std.proofs.Common.{◌≡◌, ◌∙◌, ℕ, ◌+◌, ◌<◌, ◌^◌, Bool, true, false, cond, List, []}
use Rattle.std.proofs.Common.{◌∷◌, ◌++◌, map, refl, sym, ap, subst}
use Rattle.std.proofs.Common.{arith, Option, Some, None, option_map, nat_eq}
use Rattle.std.specs.Prelude.{filter, find, fold, is_some, Contains, Ok, option_and_then, ◌&&◌}
use Rattle.std.specs.BTreeSet.{insert_key}
use Rattle.std.specs.List.{AllByRecursion, list_all}
use Rattle.std.specs.Option.{option_map_or}
use Rattle.std.specs.Cmp.{nat_eq_equiv}
use Rattle.std.proofs.lemmas.List.Elements.{All-contains, All-from_recursion}
use Rattle.jdwp_values.specs.declared.id.ClassId.{ClassId}
use Rattle.jdwp_values.specs.declared.id.FieldId.{FieldId}
use Rattle.jdwp_values.specs.declared.id.FrameId.{FrameId}
use Rattle.jdwp_values.specs.declared.id.MethodId.{MethodId}
use Rattle.jdwp_values.specs.declared.id.ObjectId.{ObjectId}
use Rattle.jdwp_values.specs.declared.id.ThreadId.{ThreadId}
use Rattle.jdwp_values.specs.declared.location.Location.{Location}
use Rattle.jdwp_values.specs.declared.value.Value.{Value}
use Rattle.jdwp_events.specs.declared.composite.Composite.{Composite}
use Rattle.jdwp_events.specs.declared.event.Event.{Event}
use Rattle.jdwp_events.specs.declared.event.Event.TheVariants as events
use Rattle.jdwp_events.specs.declared.kind.EventKind.TheVariants as kinds
use Rattle.jdwp_events.specs.declared.kind.Policy.{Policy}
use Rattle.jdwp_events.specs.declared.kind.Policy.TheVariants as policies
use Rattle.joint_model.specs.Obeying.{Emits, IsTold, Runs, behind, counted, end_of, prepared_by}
use Rattle.world_model.specs.declared.moves.Move.{Move}
use Rattle.world_model.specs.declared.moves.Move.TheVariants as moves
use Rattle.world_model.specs.declared.rows.Installed.{Installed}
use Rattle.slot_values.specs.declared.slot.SlotValue.{SlotValue}
use Rattle.world_model.specs.declared.rows.WorldClass.{WorldClass}
use Rattle.world_model.specs.declared.rows.WorldFrame.{WorldFrame}
use Rattle.world_model.specs.declared.rows.WorldThread.{WorldThread}
use Rattle.world_model.specs.declared.world.World.{World}
use Rattle.world_model.specs.Effects.{same_event}
use Rattle.world_model.specs.Emitting.{composite_of, emitted, event_of, greater, hit_of, hits, is_end, matches}
use Rattle.world_model.specs.Emitting.{standing_event, unasked, watches}
use Rattle.world_model.specs.Happenings.{at_index, can_enter, can_hold, catch_in, frames_outside, is_unprepared}
use Rattle.world_model.specs.Happenings.{place_at, returns_from, running}
use Rattle.world_model.specs.Happenings.{stands, stored, throws_in, what_happens}
use Rattle.world_model.specs.MoveFacts.{facts_of, is_prepared, requested_of, tells_prepared}
use Rattle.world_model.specs.Moving.{behind as moved_on, class_behind, count_behind, frames_left, gone_on, held_slot}
use Rattle.world_model.specs.Moving.{moved, prepared}
use Rattle.world_model.specs.Objects.{reference_to}
use Rattle.world_model.specs.Requests.{frames_under, innermost, line_at, suspends}
use Rattle.world_model.specs.Sound.{IsSound}
use Rattle.world_model.specs.Threads.{is_alive}
use Rattle.world_model.proofs.FrameLaws.{first_of, second_of}
use Rattle.world_model.proofs.HitLaws.{by_number}
use Rattle.world_model.proofs.MoveLaws.{Makes, makes, by_frame, by_put, can_happen, can_be, facts_stay}
use Rattle.world_model.proofs.MoveLaws.{requests_stay}
use Rattle.world_model.proofs.MoveSound.{moves_sound}
use Rattle.world_model.proofs.WatchLaws.{told_to_watches}
use Rattle.scripted_joints.specs.Scripts.{IsQuiet}
use Rattle.scripted_joints.proofs.Passing.{Passes}
use Rattle.scripted_joints.proofs.Telling.{Happening, Hit, IsMatched, IsToldSo, all_matched, emits_so, prepare_none, told_of}
use Rattle.scripted_joints.proofs.Standing.{StandsIn, alive_first, begins, comes_back, goes_on, stands_told}

-- Counts --------------------------------------------------------------------------------------------------------------

abbrev at_count : World → ℕ → World
at_count w n = record w { count = n }

sound_at : (w : World) (n : ℕ) → IsSound w → n < 2 ^ 64 → IsSound (at_count w n)
sound_at w n s few = record {
  program = s.program;
  values = s.values;
  hold = record {
    distinct = s.hold.distinct;
    numbers = s.hold.numbers;
    next_number = s.hold.next_number;
    few = few;
  };
}

same_count : (w : World) (n : ℕ) → w.count ≡ n → at_count w n ≡ w
same_count w n is = ap (at_count w) (sym is)

few_behind : (told : Option Composite) → count_behind 0 told < 2 ^ 64
few_behind None = omega arith
few_behind (Some composite) = by (suspends composite.policy 2) where
  by : (b : Bool) → cond b (0 + 1) 0 < 2 ^ 64
  by true = omega arith
  by false = omega arith

-- what is so of the count and the end of a world behind each move
count_stays : (w : World) (next : Move) → (moved_on w next).count ≡ w.count
count_stays w (moves.At thread index slots) =
    by_frame (λ now. now.count ≡ w.count) w _ (innermost w thread) refl (λ top. refl)
count_stays w (moves.Return thread) =
    by_frame (λ now. now.count ≡ w.count) w _ (innermost w thread) refl (λ top. refl)
count_stays w (moves.Store object field value) =
    by_put (λ now. now.count ≡ w.count) w (stored w object field value) refl (λ put. refl)
count_stays w _ = refl

-- a move that is neither the end of the target nor one that prepares a class
abbrev pub is_plain : Move → Bool
is_plain (moves.Prepare class thread) = false
is_plain moves.Death = false
is_plain _ = true

abbrev pub is_death : Move → Bool
is_death moves.Death = true
is_death _ = false

end_stays : (w : World) (next : Move) → is_death next ≡ false → (moved_on w next).dead ≡ w.dead
end_stays w (moves.At thread index slots) same =
    by_frame (λ now. now.dead ≡ w.dead) w _ (innermost w thread) refl (λ top. refl)
end_stays w (moves.Return thread) same =
    by_frame (λ now. now.dead ≡ w.dead) w _ (innermost w thread) refl (λ top. refl)
end_stays w (moves.Store object field value) same =
    by_put (λ now. now.dead ≡ w.dead) w (stored w object field value) refl (λ put. refl)
end_stays w moves.Death same = absurd cc
end_stays w _ same = refl

classes_stay : (w : World) (next : Move) → is_plain next ≡ true → (moved_on w next).classes ≡ w.classes
classes_stay w (moves.At thread index slots) plain =
    by_frame (λ now. now.classes ≡ w.classes) w _ (innermost w thread) refl (λ top. refl)
classes_stay w (moves.Return thread) plain =
    by_frame (λ now. now.classes ≡ w.classes) w _ (innermost w thread) refl (λ top. refl)
classes_stay w (moves.Store object field value) plain =
    by_put (λ now. now.classes ≡ w.classes) w (stored w object field value) refl (λ put. refl)
classes_stay w (moves.Prepare class thread) plain = absurd cc
classes_stay w moves.Death plain = absurd cc
classes_stay w _ plain = refl

-- It runs -------------------------------------------------------------------------------------------------------------

-- what is so of each move that was made, but the target's end
record Goes (w : World) (next : Move) (now : World) (told : Option Composite) : Type 0 where
  made : Makes w next now told
  sound : IsSound (moved_on w next)
  count : (moved_on w next).count ≡ 0

goes : (w now : World) (next : Move) (told : Option Composite) → IsSound w → moved w next ≡ Ok (now, told)
    → Goes w next now told
goes w now next told s h =
    let m = makes w next now told h in
    let then = moved_on w next in
    let zero = count_stays w next ∙ m.free in
    let last = subst IsSound (sym m.is_now) (moves_sound w now next told s h) in
    record {
      made = m;
      sound = subst IsSound (same_count then 0 zero) (sound_at _ 0 last (omega arith));
      count = zero;
    }

same_prepared : (w now : World) (class : ClassId) → now.classes ≡ w.classes → is_prepared now class ≡ is_prepared w class
same_prepared w now class is =
    ap (λ (rows : List WorldClass). option_map_or (λ (row : WorldClass). row.prepared)
    (find (λ (row : WorldClass). nat_eq row.id.0 class.0) rows) false) is

-- it runs to the world behind the move, if classes that come to be prepared are unwatched
runs_by : (w now : World) (next : Move) (told : Option Composite) → IsSound w → moved w next ≡ Ok (now, told)
    → is_death next ≡ false
    → ((class : ClassId) → is_prepared w class ≡ true → is_prepared (moved_on w next) class ≡ true)
    → ((class : ClassId) → is_prepared w class ≡ false → is_prepared (moved_on w next) class ≡ true
    → AllByRecursion (λ (request : Installed). watches w class request ≡ false) w.requests)
    → Runs w (moved_on w next)
runs_by w now next told s h lives keeps unwatched =
    let g = goes w now next told s h in
    let m = g.made in
    record {
      alive = m.lives;
      free = m.free;
      still_alive = end_stays w next lives ∙ m.lives;
      still_free = g.count;
      facts = subst (λ (n : World). facts_of n ≡ facts_of w) (sym m.is_now) (facts_stay w now next told h);
      requests = subst (λ (n : World). requested_of n ≡ requested_of w) (sym m.is_now)
          (requests_stay w now next told h);
      stay_prepared = keeps;
      unwatched = unwatched;
      sound = g.sound;
    }

plain_lives : (next : Move) → is_plain next ≡ true → is_death next ≡ false
plain_lives moves.Death h = absurd cc
plain_lives _ h = refl

not_both : {A : Type 0} (b : Bool) → b ≡ false → b ≡ true → A
not_both true e f = absurd cc
not_both false e f = absurd cc

plain_runs : (w now : World) (next : Move) (told : Option Composite) → IsSound w → moved w next ≡ Ok (now, told)
    → is_plain next ≡ true → Runs w (moved_on w next)
plain_runs w now next told s h plain =
    let same = classes_stay w next plain in
    runs_by w now next told s h (plain_lives next plain)
    (λ class is. same_prepared w (moved_on w next) class same ∙ is)
    (λ class was is. not_both (is_prepared w class) was (sym (same_prepared w (moved_on w next) class same) ∙ is))

-- It tells ------------------------------------------------------------------------------------------------------------

-- what a move tells is told in a world
abbrev TellsIn : World → World → Happening → Type 0
TellsIn w then happened = (request : Installed) → Contains w.requests request → matches w happened request ≡ true
    → IsTold then (request, event_of w happened (hit_of request))

told_so : (w then : World) (happened : Happening) → TellsIn w then happened → (those : List Hit)
    → AllByRecursion (IsMatched w happened) those → AllByRecursion (IsToldSo then (event_of w happened)) those
told_so w then happened tells [] h = tt
told_so w then happened tells (hit ∷ those) h = (
  record {
    request = h.0.request;
    is_hit = h.0.is_hit;
    told = subst (λ (x : Hit). IsTold then (h.0.request, event_of w happened x)) (sym h.0.is_hit)
        (tells h.0.request h.0.asked h.0.passes);
  },
  told_so w then happened tells those h.1,
)

-- the world behind a composite that prepares no class
behind_is : (then : World) (of : Hit → Event) → ((u : World) (hit : Hit) → prepared_by u (of hit) ≡ u) → (hit : Hit)
    (those : List Hit) → behind then (told_of of hit those)
    ≡ at_count then (count_behind then.count (Some (told_of of hit those)))
behind_is then of none hit those =
    ap (λ (u : World). counted u (told_of of hit those)) (prepare_none of none (hit ∷ those) then)

-- it runs, and tells what happens as the world stands then
runs_and_tells : (w then : World) (happened : Happening) → Runs w then → TellsIn w then happened
    → ((u : World) (hit : Hit) → prepared_by u (event_of w happened hit) ≡ u) → (those : List Hit)
    → AllByRecursion (IsMatched w happened) those
    → Passes w (composite_of w happened those) (at_count then (count_behind w.count (composite_of w happened those)))
runs_and_tells w then happened runs tells none [] h =
    subst (λ (n : World). Passes w None n) (sym (same_count then w.count (runs.still_free ∙ sym runs.free)))
    (Passes.runs runs)
runs_and_tells w then happened runs tells none (hit ∷ those) h =
    let of = event_of w happened in
    let composite = told_of of hit those in
    let is = behind_is then of none hit those
    ∙ ap (λ (n : ℕ). at_count then (count_behind n (Some composite))) (runs.still_free ∙ sym runs.free) in
    let few = subst (λ (n : ℕ). count_behind n (Some composite) < 2 ^ 64) (sym runs.free) (few_behind (Some composite)) in
    let sound = sound_at then (count_behind w.count (Some composite)) runs.sound few in
    Passes.runs_and_tells runs (subst (λ (n : World). Emits then composite n) is
    (emits_so then of hit those runs.still_alive (told_so w then happened tells (hit ∷ those) h)
    (subst IsSound (sym is) sound)))

-- the same of the move whose world it is
passes_by : (w now : World) (next : Move) (told : Option Composite) (m : Makes w next now told)
    → is_end m.happened ≡ false
    → ((those : List Hit) → AllByRecursion (IsMatched w m.happened) those
    → Passes w (composite_of w m.happened those)
    (at_count (moved_on w next) (count_behind w.count (composite_of w m.happened those))))
    → Passes w told now
passes_by w now next told m lives passes =
    let all = passes (hits w m.happened) (all_matched w m.happened lives) in
    subst (λ (n : World). Passes w told n) m.is_now
    (subst (λ (t : Option Composite). Passes w t (at_count (moved_on w next) (count_behind w.count t))) m.is_told all)

-- Threads that stand somewhere ----------------------------------------------------------------------------------------

-- what holds of one of two holds of the one that a test picks
either : {A : Type 0} (P : A → Type 0) (b : Bool) (x y : A) → P x → P y → P (cond b x y)
either P true x y h k = h
either P false x y h k = k

standing_none : (thread : ThreadId) (at : Location) (u : World) (hit : Hit)
    → prepared_by u (standing_event thread at hit) ≡ u
standing_none thread at u hit =
    either (λ (e : Event). prepared_by u e ≡ u) (same_event hit.kind kinds.Breakpoint)
    (events.Breakpoint hit.request thread at) (events.SingleStep hit.request thread at) refl refl

-- a thread that comes to a place, or comes back, stands there in the world behind the move
record Arrives (w then : World) (happened : Happening) : Type 0 where
  thread : ThreadId
  class : ClassId
  method : MethodId
  index : ℕ
  frames : ℕ
  comes : Bool
  is : stands w thread class method index frames comes ≡ happened
  there : StandsIn then thread (place_at w class method index) frames (line_at w class method index)

arrives : (w now : World) (next : Move) (told : Option Composite) → IsSound w → moved w next ≡ Ok (now, told)
    → is_plain next ≡ true → (m : Makes w next now told) → Arrives w (moved_on w next) m.happened → Passes w told now
arrives w now next told s h plain m a =
    let runs = plain_runs w now next told s h plain in
    let asked = ap (λ r. r.requests) runs.requests in
    let steps = ap (λ r. r.steps) runs.requests in
    let what = stands w a.thread a.class a.method a.index a.frames a.comes in
    passes_by w now next told m (ap is_end (sym a.is))
    (subst (λ (x : Happening). (those : List Hit) → AllByRecursion (IsMatched w x) those
    → Passes w (composite_of w x those)
    (at_count (moved_on w next) (count_behind w.count (composite_of w x those)))) a.is
    (runs_and_tells w (moved_on w next) what runs
    (λ request among matched. stands_told w (moved_on w next) a.thread (place_at w a.class a.method a.index) a.frames
    (line_at w a.class a.method a.index) a.comes a.there asked steps request among matched)
    (standing_none a.thread (place_at w a.class a.method a.index))))

-- what was found and made
record FoundAnd {A B : Type 0} (make : A → B) (found : Option A) (made : B) : Type 0 where
  what : A
  is : found ≡ Some what
  so : make what ≡ made

found_and : {A B : Type 0} (make : A → B) (found : Option A) (made : B) → option_map make found ≡ Some made
    → FoundAnd make found made
found_and make None made h = absurd cc
found_and make (Some x) made h = record { what = x; is = refl; so = cc }

record FoundThen {A B : Type 0} (of : A → Option B) (found : Option A) (made : B) : Type 0 where
  what : A
  is : found ≡ Some what
  so : of what ≡ Some made

found_then : {A B : Type 0} (of : A → Option B) (found : Option A) (made : B) → option_and_then of found ≡ Some made
    → FoundThen of found made
found_then of None made h = absurd cc
found_then of (Some x) made h = record { what = x; is = refl; so = h }

where_so : {A : Type 0} (b : Bool) (found : Option A) (x : A) → cond b found None ≡ Some x → found ≡ Some x
where_so true found x h = h
where_so false found x h = absurd cc

at_arrives : (w : World) (thread : ThreadId) (index : ℕ) (slots : List SlotValue) (happened : Happening)
    → what_happens w (moves.At thread index slots) ≡ Some happened
    → Arrives w (moved_on w (moves.At thread index slots)) happened
at_arrives w thread index slots happened h =
    let f = found_and (at_index w thread index) (running w thread) happened
    (where_so (list_all (can_hold w) slots) _ happened h) in
    let top = f.what in
    let here = alive_first (is_alive w thread) (innermost w thread) top f.is in
    record {
      thread = thread;
      class = top.class;
      method = top.method;
      index = index;
      frames = frames_under w.frames thread;
      comes = true;
      is = f.so;
      there = subst (λ (found : Option WorldFrame). StandsIn (option_map_or (gone_on w thread index slots) found w) thread
          (place_at w top.class top.method index) (frames_under w.frames thread)
          (line_at w top.class top.method index)) (sym here.1)
          (goes_on w thread index slots top f.is);
    }

return_arrives : (w : World) (thread : ThreadId) (happened : Happening)
    → what_happens w (moves.Return thread) ≡ Some happened
    → Arrives w (moved_on w (moves.Return thread)) happened
return_arrives w thread happened h =
    let f = found_then (returns_from w thread) (running w thread) happened h in
    let top = f.what in
    let here = alive_first (is_alive w thread) (innermost w thread) top f.is in
    let back = found_and _ _ happened f.so in
    let row = back.what in
    record {
      thread = thread;
      class = row.class;
      method = row.method;
      index = row.index;
      frames = frames_outside w.frames thread top.id;
      comes = false;
      is = back.so;
      there = subst (λ (found : Option WorldFrame). StandsIn
          (option_map_or (λ (r : WorldFrame). record w { frames = frames_left thread r.id w.frames }) found w) thread
          (place_at w row.class row.method row.index) (frames_outside w.frames thread top.id)
          (line_at w row.class row.method row.index)) (sym here.1)
          (comes_back w thread top.id row here.0 back.is);
    }

-- Other moves ---------------------------------------------------------------------------------------------------------

none_ends : (what happened : Happening) → what ≡ happened → is_end what ≡ false → is_end happened ≡ false
none_ends what happened is lives = ap is_end (sym is) ∙ lives

-- a plain move that tells what happens in the world behind it
plain_passes : (w now : World) (next : Move) (told : Option Composite) → IsSound w → moved w next ≡ Ok (now, told)
    → is_plain next ≡ true → (m : Makes w next now told) (what : Happening) → what ≡ m.happened → is_end what ≡ false
    → TellsIn w (moved_on w next) what → ((u : World) (hit : Hit) → prepared_by u (event_of w what hit) ≡ u)
    → Passes w told now
plain_passes w now next told s h plain m what is lives tells none =
    passes_by w now next told m (none_ends what m.happened is lives)
    (subst (λ (x : Happening). (those : List Hit) → AllByRecursion (IsMatched w x) those
    → Passes w (composite_of w x those) (at_count (moved_on w next) (count_behind w.count (composite_of w x those)))) is
    (runs_and_tells w (moved_on w next) what (plain_runs w now next told s h plain) tells none))

-- an exception is thrown where the thread stands
throw_passes : (w now : World) (thread : ThreadId) (object : ObjectId) (class : ClassId) (method : MethodId) (index : ℕ)
    (told : Option Composite) → IsSound w → moved w (moves.Throw thread object class method index) ≡ Ok (now, told)
    → Passes w told now
throw_passes w now thread object class method index told s h =
    let next = moves.Throw thread object class method index in
    let m = makes w next now told h in
    let f = found_then (throws_in w thread (reference_to w object) (catch_in w class method index)) (running w thread)
    m.happened m.is_happened in
    let v = found_then _ (reference_to w object) m.happened f.so in
    let c = found_and _ (catch_in w class method index) m.happened v.so in
    plain_passes w now next told s h refl m _ c.so refl
    (λ request among matched. record {
      asked = among;
      id = refl;
      matches = ((f.what, f.is, refl), (object, v.is), c.what, refl, matched);
    })
    (λ u hit. refl)

-- a thread starts
some_found : {A : Type 0} (b : Bool) (x : A) (rest : Option A) → is_some rest ≡ true → is_some (cond b (Some x) rest) ≡ true
some_found true x rest later = refl
some_found false x rest later = later

is_there : (thread : ThreadId) (name : List ℕ) (rows : List WorldThread)
    → is_some (find (λ (row : WorldThread). nat_eq row.id.0 thread.0) (rows ++ record { id = thread; name = name } ∷ []))
    ≡ true
is_there thread name [] =
    ap (λ (b : Bool). is_some {T = WorldThread} (cond b (Some (record { id = thread; name = name })) None))
    (nat_eq_equiv.refl thread.0)
is_there thread name (row ∷ rows) = some_found (nat_eq row.id.0 thread.0) row _ (is_there thread name rows)

start_passes : (w now : World) (thread : ThreadId) (name : List ℕ) (told : Option Composite) → IsSound w
    → moved w (moves.Start thread name) ≡ Ok (now, told) → Passes w told now
start_passes w now thread name told s h =
    let m = makes w (moves.Start thread name) now told h in
    plain_passes w now (moves.Start thread name) told s h refl m _ (can_happen _ _ m.happened m.is_happened) refl
    (λ request among matched. record {
      asked = among;
      id = refl;
      matches = (is_there thread name w.threads, matched);
    })
    (λ u hit. refl)

-- a field gets a value
store_passes : (w now : World) (object : ObjectId) (field : FieldId) (value : Value) (told : Option Composite) → IsSound w
    → moved w (moves.Store object field value) ≡ Ok (now, told) → Passes w told now
store_passes w now object field value told s h =
    let m = makes w (moves.Store object field value) now told h in
    plain_passes w now (moves.Store object field value) told s h refl m _ (can_happen _ _ m.happened m.is_happened) refl
    (λ request among matched. absurd cc) (λ u hit. refl)

-- A thread ends -------------------------------------------------------------------------------------------------------

quiet_policy : (b : Bool) (p q : Policy) → suspends p 2 ≡ false → suspends q 2 ≡ false → suspends (cond b q p) 2 ≡ false
quiet_policy true p q h k = k
quiet_policy false p q h k = h

of_all : {A : Type 0} (P : A → Type 0) (rows : List A) (x : A) → AllByRecursion P rows → Contains rows x → P x
of_all P rows x all among = All-contains P rows x (All-from_recursion P rows all) among

-- Threads end, and requests for that are told.
module _ (w : World) (what : Happening) (quiet : AllByRecursion IsQuiet w.requests)
    (is : (request : Installed) → matches w what request ≡ true → same_event request.wish_kind kinds.ThreadDeath ≡ true) where
  -- the greatest of their policies suspends nothing
  quiet_from : (those : List Hit) (p : Policy) → suspends p 2 ≡ false → AllByRecursion (IsMatched w what) those
      → suspends (fold (λ (q : Policy) (hit : Hit). greater q hit.policy) p those) 2 ≡ false
  quiet_from [] p h all = h
  quiet_from (hit ∷ those) p h all =
      quiet_from those (greater p hit.policy) (quiet_policy _ p hit.policy h
      (ap (λ (x : Hit). suspends x.policy 2) all.0.is_hit
      ∙ of_all IsQuiet w.requests all.0.request quiet all.0.asked (is all.0.request all.0.passes))) all.1

  -- it is told first, and then it runs on without the thread
  dies_so : (then : World) → IsSound w → TellsIn w w what
      → ((u : World) (hit : Hit) → prepared_by u (event_of w what hit) ≡ u) → Runs w then → (those : List Hit)
      → AllByRecursion (IsMatched w what) those
      → Passes w (composite_of w what those) (at_count then (count_behind w.count (composite_of w what those)))
  dies_so then s tells none runs [] h =
      subst (λ (n : World). Passes w None n) (sym (same_count then w.count (runs.still_free ∙ sym runs.free)))
      (Passes.runs runs)
  dies_so then s tells none runs (hit ∷ those) h =
      let of = event_of w what in
      let composite = told_of of hit those in
      let quietly : suspends composite.policy 2 ≡ false = quiet_from (hit ∷ those) policies.NoThread refl h in
      let same = λ (n : ℕ). ap (λ (b : Bool). cond b (n + 1) n) quietly in
      let back : behind w composite ≡ w = behind_is w of none hit those ∙ ap (at_count w) (same w.count) in
      let out = emits_so w of hit those runs.alive (told_so w w what tells (hit ∷ those) h)
      (subst IsSound (sym back) s) in
      let last : at_count then (count_behind w.count (Some composite)) ≡ then =
      ap (at_count then) (same w.count) ∙ same_count then w.count (runs.still_free ∙ sym runs.free) in
      subst (λ (n : World). Passes w (Some composite) n) (sym last)
      (Passes.tells_and_runs (subst (λ (n : World). Emits w composite n) back out) runs)

-- what holds of what happened holds of the move
by_what : (w now : World) (next : Move) (told : Option Composite) (m : Makes w next now told) (what : Happening)
    → what ≡ m.happened → is_end what ≡ false
    → ((those : List Hit) → AllByRecursion (IsMatched w what) those
    → Passes w (composite_of w what those) (at_count (moved_on w next) (count_behind w.count (composite_of w what those))))
    → Passes w told now
by_what w now next told m what is lives all =
    passes_by w now next told m (none_ends what m.happened is lives)
    (subst (λ (x : Happening). (those : List Hit) → AllByRecursion (IsMatched w x) those
    → Passes w (composite_of w x those) (at_count (moved_on w next) (count_behind w.count (composite_of w x those)))) is
    all)

die_passes : (w now : World) (thread : ThreadId) (told : Option Composite) → IsSound w
    → AllByRecursion IsQuiet w.requests → moved w (moves.Die thread) ≡ Ok (now, told) → Passes w told now
die_passes w now thread told s quiet h =
    let m = makes w (moves.Die thread) now told h in
    let alive : is_alive w thread ≡ true = can_be _ _ m.happened m.is_happened in
    by_what w now (moves.Die thread) told m _ (can_happen _ _ m.happened m.is_happened) refl
    (dies_so w _ quiet (λ request matched. matched) (moved_on w (moves.Die thread)) s
    (λ request among matched. record { asked = among; id = refl; matches = (alive, matched) }) (λ u hit. refl)
    (plain_runs w now (moves.Die thread) told s h refl))

-- A class is prepared -------------------------------------------------------------------------------------------------

module _ (class : ClassId) where
  twice_at : (b : Bool) (row : WorldClass) → nat_eq row.id.0 class.0 ≡ b
      → class_behind class (cond b (record row { prepared = true }) row)
      ≡ cond b (record row { prepared = true }) row
  twice_at true row e =
      ap (λ (c : Bool). cond c (record row { prepared = true }) (record row { prepared = true })) e
  twice_at false row e = ap (λ (c : Bool). cond c (record row { prepared = true }) row) e

  twice_all : (rows : List WorldClass)
      → map (class_behind class) (map (class_behind class) rows) ≡ map (class_behind class) rows
  twice_all [] = refl
  twice_all (row ∷ rows) =
      ap (λ (r : WorldClass). r ∷ map (class_behind class) (map (class_behind class) rows))
      (twice_at (nat_eq row.id.0 class.0) row refl)
      ∙ ap (λ (rs : List WorldClass). class_behind class row ∷ rs) (twice_all rows)

  -- a class that is prepared once more is as it was
  twice : (w : World) → prepared (prepared w class) class ≡ prepared w class
  twice w = ap (λ (rows : List WorldClass). record w { classes = rows }) (twice_all w.classes)

  abbrev is_ready : List WorldClass → ClassId → Bool
  is_ready rows other =
      option_map_or (λ (row : WorldClass). row.prepared) (find (λ (row : WorldClass). nat_eq row.id.0 other.0) rows) false

  ready_at : (row now : WorldClass) (rest after : Option WorldClass) → (row.prepared ≡ true → now.prepared ≡ true)
      → (option_map_or (λ (r : WorldClass). r.prepared) rest false ≡ true
      → option_map_or (λ (r : WorldClass). r.prepared) after false ≡ true) → (found : Bool)
      → option_map_or (λ (r : WorldClass). r.prepared) (cond found (Some row) rest) false ≡ true
      → option_map_or (λ (r : WorldClass). r.prepared) (cond found (Some now) after) false ≡ true
  ready_at row now rest after here later true h = here h
  ready_at row now rest after here later false h = later h

  -- a class that is prepared stays so
  stays_ready : (other : ClassId) (rows : List WorldClass) → is_ready rows other ≡ true
      → is_ready (map (class_behind class) rows) other ≡ true
  stays_ready other [] h = absurd cc
  stays_ready other (row ∷ rows) h = by (nat_eq row.id.0 class.0) (stays_ready other rows) where
    by : (mine : Bool) → (is_ready rows other ≡ true → is_ready (map (class_behind class) rows) other ≡ true)
        → is_ready (cond mine (record row { prepared = true }) row ∷ map (class_behind class) rows) other ≡ true
    by true later = ready_at row (record row { prepared = true }) _ _ (λ was. refl) later (nat_eq row.id.0 other.0) h
    by false later = ready_at row row _ _ (λ was. was) later (nat_eq row.id.0 other.0) h

  -- It runs where no request watches the class, and else tells those that do.
  module _ (w : World) (what : Happening)
      (prepares : (u : World) (hit : Hit) → prepared_by u (event_of w what hit) ≡ prepared u class) where
    prepares_all : (u : World) (those : List Hit) → prepared u class ≡ u
        → fold prepared_by u (map (event_of w what) those) ≡ u
    prepares_all u [] same = refl
    prepares_all u (hit ∷ those) same =
        ap (λ (v : World). fold prepared_by v (map (event_of w what) those)) (prepares u hit ∙ same)
        ∙ prepares_all u those same

    prepares_so : IsSound (prepared w class) → w.dead ≡ false → w.count ≡ 0 → TellsIn w w what → (those : List Hit)
        → (composite_of w what those ≡ None → Runs w (prepared w class)) → AllByRecursion (IsMatched w what) those
        → Passes w (composite_of w what those)
        (at_count (prepared w class) (count_behind w.count (composite_of w what those)))
    prepares_so s lives free tells [] runs h = Passes.runs (runs refl)
    prepares_so s lives free tells (hit ∷ those) runs h =
        let of = event_of w what in
        let composite = told_of of hit those in
        let is : behind w composite ≡ at_count (prepared w class) (count_behind w.count (Some composite)) =
        ap (λ (u : World). counted u composite) (ap (λ (v : World). fold prepared_by v (map of those)) (prepares w hit)
        ∙ prepares_all (prepared w class) those (twice w)) in
        let few = subst (λ (n : ℕ). count_behind n (Some composite) < 2 ^ 64) (sym free) (few_behind (Some composite)) in
        Passes.tells (subst (λ (n : World). Emits w composite n) is
        (emits_so w of hit those lives (told_so w w what tells (hit ∷ those) h)
        (subst IsSound (sym is) (sound_at (prepared w class) (count_behind w.count (Some composite)) s few))))

-- no request watches what is told to none
none_watches : (w : World) (class : ClassId) (told : Option Composite) → told ≡ None → (rows : List Installed)
    → AllByRecursion (λ (row : Installed). watches w class row ≡ true → tells_prepared told row.request class ≡ true) rows
    → AllByRecursion (λ (row : Installed). watches w class row ≡ false) rows
none_watches w class told none [] h = tt
none_watches w class told none (row ∷ rows) h =
    (by (watches w class row) h.0, none_watches w class told none rows h.1)
  where
    by : (b : Bool) → (b ≡ true → tells_prepared told row.request class ≡ true) → b ≡ false
    by false tells = refl
    by true tells = not_both (tells_prepared told row.request class)
        (ap (λ (t : Option Composite). tells_prepared t row.request class) none) (tells refl)

prepare_by : (w now : World) (class : ClassId) (thread : ThreadId) (told : Option Composite) → IsSound w
    → moved w (moves.Prepare class thread) ≡ Ok (now, told) → (m : Makes w (moves.Prepare class thread) now told)
    → (what : Happening) → what ≡ m.happened → is_end what ≡ false
    → ((u : World) (hit : Hit) → prepared_by u (event_of w what hit) ≡ prepared u class) → IsSound (prepared w class)
    → TellsIn w w what → Passes w told now
prepare_by w now class thread told s h m what is lives prepares sound tells =
    let next = moves.Prepare class thread in
    let all = prepares_so class w what prepares sound m.lives m.free tells (hits w what)
    (λ none. runs_by w now next told s h refl (λ other was. stays_ready class other w.classes was)
    (λ other was ready. none_watches w other told (sym (ap (emitted w) is ∙ m.is_told) ∙ none) w.requests
    (told_to_watches w now next told other h was (subst (λ (n : World). is_prepared n other ≡ true) m.is_now ready))))
    (all_matched w what lives) in
    subst (λ (n : World). Passes w told n) m.is_now
    (subst (λ (t : Option Composite). Passes w t (at_count (prepared w class) (count_behind w.count t)))
    (ap (emitted w) is ∙ m.is_told) all)

prepare_passes : (w now : World) (class : ClassId) (thread : ThreadId) (told : Option Composite) → IsSound w
    → moved w (moves.Prepare class thread) ≡ Ok (now, told) → Passes w told now
prepare_passes w now class thread told s h =
    let next = moves.Prepare class thread in
    let m = makes w next now told h in
    let g = goes w now next told s h in
    let is = can_happen _ _ m.happened m.is_happened in
    let can = can_be (is_alive w thread && is_unprepared w class) _ m.happened m.is_happened in
    let alive = first_of (is_alive w thread) (is_unprepared w class) can in
    let new = second_of (is_alive w thread) (is_unprepared w class) can in
    prepare_by w now class thread told s h m _ is refl (λ u hit. refl) g.sound
    (λ request among matched. record {
      asked = among;
      id = refl;
      matches = (m.free, alive, new, refl, refl, (2, refl, refl), matched);
    })

-- The target ends -----------------------------------------------------------------------------------------------------

none_matched : (w : World) (what : Happening) → ((request : Installed) → matches w what request ≡ false)
    → (rows : List Installed) → filter (matches w what) rows ≡ []
none_matched w what none [] = refl
none_matched w what none (row ∷ rows) =
    ap (λ (b : Bool). cond b (row ∷ filter (matches w what) rows) (filter (matches w what) rows)) (none row)
    ∙ none_matched w what none rows

-- what no request matches is told unasked, if at all
none_told : (w : World) (what : Happening) → ((request : Installed) → matches w what request ≡ false)
    → emitted w what ≡ composite_of w what (unasked what)
none_told w what none = ap (λ (rows : List Installed). composite_of w what
    (fold (insert_key by_number) (unasked what) (map hit_of rows))) (none_matched w what none w.requests)

some_same : {A : Type 0} (x y : A) → Some x ≡ Some y → x ≡ y
some_same x y h = cc

death_by : (w now : World) (told : Option Composite) (m : Makes w moves.Death now told) (what : Happening)
    → what ≡ m.happened → ((request : Installed) → matches w what request ≡ false)
    → composite_of w what (unasked what) ≡ Some end_of → Passes w told now
death_by w now told m what is none ends =
    let last : Some end_of ≡ told = sym (none_told w what none ∙ ends) ∙ (ap (emitted w) is ∙ m.is_told) in
    subst (λ (n : World). Passes w told n) m.is_now
    (subst (λ (t : Option Composite). Passes w t (at_count (record w { dead = true }) (count_behind w.count t))) last
    (Passes.tells Emits.ends))

death_passes : (w now : World) (told : Option Composite) → moved w moves.Death ≡ Ok (now, told) → Passes w told now
death_passes w now told h =
    let m = makes w moves.Death now told h in
    death_by w now told m _ (some_same _ m.happened m.is_happened) (λ request. refl) refl

-- All moves -----------------------------------------------------------------------------------------------------------

call_passes : (w now : World) (thread : ThreadId) (frame : FrameId) (class : ClassId) (method : MethodId) (index : ℕ)
    (this : ObjectId) (slots : List SlotValue) (told : Option Composite) → IsSound w
    → moved w (moves.Call thread frame class method index this slots) ≡ Ok (now, told) → Passes w told now
call_passes w now thread frame class method index this slots told s h =
    let next = moves.Call thread frame class method index this slots in
    let m = makes w next now told h in
    let can = can_be _ _ m.happened m.is_happened in
    let row : WorldFrame = record {
      thread = thread;
      id = frame;
      class = class;
      method = method;
      index = index;
      this = this;
      slots = map (held_slot w) slots;
    } in
    arrives w now next told s h refl m (record {
      thread = thread;
      class = class;
      method = method;
      index = index;
      frames = frames_under w.frames thread + 1;
      comes = true;
      is = can_happen _ _ m.happened m.is_happened;
      there = begins w row (first_of (is_alive w thread) _ (first_of (can_enter w thread class method) _ can));
    })

-- A move of a script's program is one that an obeying target may make.
pub passes : (w now : World) (next : Move) (told : Option Composite) → IsSound w → AllByRecursion IsQuiet w.requests
    → moved w next ≡ Ok (now, told) → Passes w told now
passes w now (moves.At thread index slots) told s quiet h =
    let m = makes w (moves.At thread index slots) now told h in
    arrives w now (moves.At thread index slots) told s h refl m
    (at_arrives w thread index slots m.happened m.is_happened)
passes w now (moves.Call thread frame class method index this slots) told s quiet h =
    call_passes w now thread frame class method index this slots told s h
passes w now (moves.Return thread) told s quiet h =
    let m = makes w (moves.Return thread) now told h in
    arrives w now (moves.Return thread) told s h refl m (return_arrives w thread m.happened m.is_happened)
passes w now (moves.Prepare class thread) told s quiet h = prepare_passes w now class thread told s h
passes w now (moves.Throw thread object class method index) told s quiet h =
    throw_passes w now thread object class method index told s h
passes w now (moves.Start thread name) told s quiet h = start_passes w now thread name told s h
passes w now (moves.Die thread) told s quiet h = die_passes w now thread told s quiet h
passes w now (moves.Store object field value) told s quiet h = store_passes w now object field value told s h
passes w now moves.Death told s quiet h = death_passes w now told h

-- What is told where nothing was asked for ----------------------------------------------------------------------------

not_end : (w : World) (next : Move) (happened : Happening) → what_happens w next ≡ Some happened → is_death next ≡ false
    → is_end happened ≡ false
not_end w (moves.At thread index slots) happened h live =
    let f = found_and (at_index w thread index) (running w thread) happened
    (where_so (list_all (can_hold w) slots) _ happened h) in
    none_ends (at_index w thread index f.what) happened f.so refl
not_end w (moves.Call thread frame class method index this slots) happened h live =
    none_ends _ happened (can_happen _ _ happened h) refl
not_end w (moves.Return thread) happened h live =
    let f = found_then (returns_from w thread) (running w thread) happened h in
    let back = found_and _ _ happened f.so in
    none_ends _ happened back.so refl
not_end w (moves.Prepare class thread) happened h live = none_ends _ happened (can_happen _ _ happened h) refl
not_end w (moves.Throw thread object class method index) happened h live =
    let f = found_then (throws_in w thread (reference_to w object) (catch_in w class method index)) (running w thread)
    happened h in
    let v = found_then _ (reference_to w object) happened f.so in
    let c = found_and _ (catch_in w class method index) happened v.so in
    none_ends _ happened c.so refl
not_end w (moves.Start thread name) happened h live = none_ends _ happened (can_happen _ _ happened h) refl
not_end w (moves.Die thread) happened h live = none_ends _ happened (can_happen _ _ happened h) refl
not_end w (moves.Store object field value) happened h live = none_ends _ happened (can_happen _ _ happened h) refl
not_end w moves.Death happened h live = absurd cc

lives_on : (w now : World) (next : Move) (told : Option Composite) → Makes w next now told → now.dead ≡ false
    → is_death next ≡ false
lives_on w now moves.Death told m lives = not_both now.dead lives (sym (ap (λ (n : World). n.dead) m.is_now))
lives_on w now _ told m lives = refl

-- where no event request is set, a target that lives on tells nothing
pub untold : (w now : World) (next : Move) (told : Option Composite) → moved w next ≡ Ok (now, told)
    → w.requests ≡ [] → now.dead ≡ false → told ≡ None
untold w now next told h none lives =
    let m = makes w next now told h in
    let live = not_end w next m.happened m.is_happened (lives_on w now next told m lives) in
    sym m.is_told
    ∙ ap (λ (rows : List Installed). composite_of w m.happened
    (fold (insert_key by_number) (unasked m.happened) (map hit_of (filter (matches w m.happened) rows)))) none
    ∙ ap (λ (b : Bool). composite_of w m.happened
    (cond b (record { request = 0; kind = kinds.VMDeath; policy = policies.NoThread } ∷ []) [])) live
