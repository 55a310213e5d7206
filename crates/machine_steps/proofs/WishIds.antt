-- The ids and texts that stand in what is wanted: those of an event request that is wished pass, and it has a spelling.
use Rattle.std.proofs.Common.{◌≡◌, ◌≤◌, ◌<◌, ◌*◌, ◌^◌, ℕ, zero, suc, Bool, true, false, cond, List, [], ◌∷◌, ◌++◌}
use Rattle.std.proofs.Common.{length, Option, Some, None, refl, arith, option_map, length-append, ◌||◌, ◌-◌}
use Rattle.std.specs.Prelude.{ℤ, filter, find, filter_map, fold, map, if◌then◌else◌, not, bytes_eq}
use Rattle.std.specs.List.{AllByRecursion as All, before_last, flat_map, suffix_len, cons_option}
use Rattle.std.proofs.lemmas.List.{length-map, length-take}
use Rattle.class_tables.specs.Facts.{Known, same_class}
use Rattle.class_tables.specs.Lookups.{found_in}
use Rattle.class_tables.specs.Tables.{put}
use Rattle.class_tables.specs.declared.loaded.Loaded.{Loaded}
use Rattle.jdwp_commands.specs.Commands.{FitsCommand}
use Rattle.jdwp_values.specs.Classes.{method_row}
use Rattle.jdwp_values.specs.Lossy.{continued, lossy, lossy_after}
use Rattle.jdwp_values.specs.declared.class.Method.{Method}
use Rattle.jdwp_values.specs.declared.id.ClassId.{ClassId}
use Rattle.jdwp_values.specs.declared.location.Location.{Location}
use Rattle.jdwp_values.specs.declared.sizes.IdSizes.{IdSizes}
use Rattle.machine_model.specs.Breakpoints.{longest_key}
use Rattle.jdwp_values.specs.declared.id.ThreadId.{ThreadId}
use Rattle.machine_model.specs.Ids.{Id, class, ids_asked, ids_of, method, object}
use Rattle.machine_model.specs.Replying.{wire}
use Rattle.machine_model.specs.State.{is_empty}
use Rattle.machine_model.proofs.IdRows.{FitsId, all_flat, all_joined, all_weak}
use Rattle.machine_model.proofs.PlanIds.{AreKnown, OfClass, OnSome, put_key, under_some}
use Rattle.machine_steps.specs.Names.{Set, TargetCommand, an_effect}
use Rattle.machine_steps.proofs.Frameless.{is_frame}
use Rattle.wish_sets.proofs.OrderLaws.{each-insert}
use Rattle.wish_sets.specs.Names.{dotted, is_dot, is_slash, key_parts, method_named, names_class, package_name}
use Rattle.wish_sets.specs.Names.{has_class, package_named}
use Rattle.wish_sets.specs.Order.{wish_cmp}
use Rattle.wish_sets.specs.declared.place.Place.{Place}
use Rattle.wish_sets.specs.Places.{entry_places, is_of_key, key_of, line_location, line_locations, list_places}
use Rattle.wish_sets.specs.Places.{code_start, function_locations, function_places, location_at, method_location}
use Rattle.wish_sets.specs.Places.{places, places_in}
use Rattle.wish_sets.specs.Requests.{package_pattern}
use Rattle.wish_sets.specs.Wanted.{Wanted, facts_found, method_found, methods_found, nothing_wanted, put_known}
use Rattle.wish_sets.specs.Wanted.{with_class, with_functions, with_known, with_lines, with_step}
use Rattle.wish_sets.specs.Wished.{all_wished, has_entries, stepping, stops, thrown, watched, wished}
use Rattle.wish_sets.specs.declared.entry.FunctionEntry.{FunctionEntry}
use Rattle.wish_sets.specs.declared.entry.LineEntry.{LineEntry}
use Rattle.wish_sets.specs.declared.facts.KnownClass.{KnownClass}
use Rattle.wish_sets.specs.declared.facts.KnownMethod.{KnownMethod}
use Rattle.wish_sets.specs.declared.wish.Depth.{Depth}
use Rattle.wish_sets.specs.declared.wish.StepWish.{StepWish}
use Rattle.wish_sets.specs.declared.wish.Wish.{Wish}
use Rattle.wish_sets.specs.declared.wish.Wish.TheVariants as wishes
use Rattle.std.specs.BTreeSet.{insert_key}
use Rattle.std.specs.Str.Lossy.{replacement_bytes}
use Rattle.class_tables.specs.Lines.{line_start}
use Rattle.class_tables.specs.Views.{binding_entries}

-- What stands in what is wanted ---------------------------------------------------------------------------------------

-- a key may be so long that the pattern of its package has a spelling
abbrev pub IsShort : List ℕ → Type 0
IsShort key = length key ≤ longest_key

abbrev pub IsShortKey : Option (List ℕ) → Type 0
IsShortKey key = OnSome IsShort key

-- the ids of a class that was made known pass
pub record IsBound (P : Id → Type 0) (known : ClassId × KnownClass) : Type 0 where
  pub itself : P (class known.0.0)
  pub methods : All (λ (one : KnownMethod). P (method one.id.0)) known.1.methods

-- a function has a short name, too
abbrev pub IsShortFunction : FunctionEntry → Type 0
IsShortFunction entry = IsShort entry.name

-- a step is one of a thread whose id passes
abbrev pub OfStep : (Id → Type 0) → StepWish → Type 0
OfStep P step = P (object step.thread.0)

-- Keys and the names of functions are short, and the ids of classes and of the thread that steps pass.
pub record AreWished (P : Id → Type 0) (wanted : Wanted) : Type 0 where
  pub short : All (λ (list : List ℕ × List LineEntry). IsShort list.0) wanted.lists
  pub functions : All IsShortFunction wanted.functions
  pub bound : All (IsBound P) wanted.classes
  pub step : OnSome (OfStep P) wanted.step

pub nothing_wished : (P : Id → Type 0) → AreWished P nothing_wanted
nothing_wished P = record {
  short = tt;
  bound = tt;
  functions = tt;
  step = tt;
}

-- no frame stands there
pub weak_wished : (P Q : Id → Type 0) → ((id : Id) → is_frame id ≡ false → P id → Q id) → (wanted : Wanted)
    → AreWished P wanted → AreWished Q wanted
weak_wished P Q k wanted h = record {
  short = h.short;
  bound = all_weak (IsBound P) (IsBound Q)
      (λ known b. record {
        itself = k _ refl b.itself;
        methods = all_weak _ _ (λ one. k _ refl) known.1.methods b.methods;
      }) wanted.classes h.bound;
  functions = h.functions;
  step = by_step wanted.step h.step;
}
  where
    by_step : (step : Option StepWish) → OnSome (OfStep P) step → OnSome (OfStep Q) step
    by_step None h = tt
    by_step (Some step) h = k (object step.thread.0) refl h

-- a list of breakpoints is replaced
pub lines_stand : (P : Id → Type 0) (key : List ℕ) (entries : List LineEntry) (wanted : Wanted) → IsShort key
    → AreWished P wanted → AreWished P (with_lines key entries wanted)
lines_stand P key entries wanted short h = record {
  short = put_key IsShort bytes_eq key entries wanted.lists short h.short;
  bound = h.bound;
  functions = h.functions;
  step = h.step;
}

-- functions are replaced
pub functions_stand : (P : Id → Type 0) (entries : List FunctionEntry) (wanted : Wanted) → All IsShortFunction entries
    → AreWished P wanted → AreWished P (with_functions entries wanted)
functions_stand P entries wanted short h =
    record { short = h.short; functions = short; bound = h.bound; step = h.step }

-- the step in flight is another
pub step_stands : (P : Id → Type 0) (step : Option StepWish) (wanted : Wanted) → OnSome (OfStep P) step
    → AreWished P wanted → AreWished P (with_step step wanted)
step_stands P step wanted stands h =
    record { short = h.short; functions = h.functions; bound = h.bound; step = stands }

-- Classes that are made known -----------------------------------------------------------------------------------------

module _ (P : Id → Type 0) where
  abbrev OfMethods : List Method → Type 0
  OfMethods methods = All P (flat_map (ids_of method_row) methods)

  methods_stand : (known : Known) (c : ClassId) (methods : List Method) → OfMethods methods
      → All (λ (one : KnownMethod). P (method one.id.0)) (map (method_found (found_in known) c) methods)
  methods_stand known c [] h = tt
  methods_stand known c (one ∷ methods) h = (h.0, methods_stand known c methods h.1)

  found_stand : (known : Known) (c : ClassId) (found : Option (List Method)) → OnSome OfMethods found
      → All (λ (one : KnownMethod). P (method one.id.0)) (methods_found (found_in known) c found)
  found_stand known c None h = tt
  found_stand known c (Some methods) h = methods_stand known c methods h

  put_bound : (c : ClassId) (facts : KnownClass) (classes : List (ClassId × KnownClass)) → P (class c.0)
      → All (λ (one : KnownMethod). P (method one.id.0)) facts.methods → All (IsBound P) classes
      → All (IsBound P) (put same_class c facts classes)
  put_bound c facts [] k m h = (record { itself = k; methods = m }, tt)
  put_bound c facts (entry ∷ classes) k m h = by_key (same_class c entry.0) (put_bound c facts classes k m h.1)
    where
      by_key : (is : Bool) → All (IsBound P) (put same_class c facts classes)
          → All (IsBound P) (cond is ((entry.0, facts) ∷ classes) (entry ∷ put same_class c facts classes))
      by_key true rest = (record { itself = h.0.itself; methods = m }, h.1)
      by_key false rest = (h.0, rest)

  class_stands : (known : Known) (c : ClassId) (wanted : Wanted) → P (class c.0) → AreKnown P known
      → AreWished P wanted → AreWished P (with_class (found_in known) c wanted)
  class_stands known c wanted k facts h = record {
    short = h.short;
    bound = by_loaded ((found_in known).loaded c);
    functions = h.functions;
    step = h.step;
  }
    where
      by_loaded : (loaded : Option Loaded)
          → All (IsBound P) (put_known c (option_map (facts_found (found_in known) c) loaded) wanted.classes)
      by_loaded None = h.bound
      by_loaded (Some loaded) = put_bound c (facts_found (found_in known) c loaded) wanted.classes k
          (found_stand known c ((found_in known).methods c) (under_some OfMethods same_class c known.methods facts.methods))
          h.bound

  pub classes_stand : (known : Known) (classes : List ClassId) (wanted : Wanted) → All (OfClass P) classes
      → AreKnown P known → AreWished P wanted → AreWished P (with_known (found_in known) classes wanted)
  classes_stand known [] wanted k facts h = h
  classes_stand known (c ∷ classes) wanted k facts h =
      classes_stand known classes (with_class (found_in known) c wanted) k.1 facts
      (class_stands known c wanted k.0 facts h)

-- Lists ---------------------------------------------------------------------------------------------------------------

flat_each : {A B : Type 0} (P : B → Type 0) (f : A → List B) → ((x : A) → All P (f x)) → (xs : List A)
    → All P (flat_map f xs)
flat_each P f k [] = tt
flat_each P f k (x ∷ xs) = all_joined P (f x) (flat_map f xs) (k x) (flat_each P f k xs)

all_map : {A B : Type 0} (F : A → Type 0) (P : B → Type 0) (f : A → B) → ((x : A) → F x → P (f x)) → (xs : List A)
    → All F xs → All P (map f xs)
all_map F P f k [] h = tt
all_map F P f k (x ∷ xs) h = (k x h.0, all_map F P f k xs h.1)

all_found : {A B : Type 0} (F : A → Type 0) (P : B → Type 0) (f : A → Option B) → ((x : A) → F x → OnSome P (f x))
    → (xs : List A) → All F xs → All P (filter_map f xs)
all_found F P f k [] h = tt
all_found {A} {B} F P f k (x ∷ xs) h = by_found (f x) (k x h.0) (all_found F P f k xs h.1)
  where
    by_found : (found : Option B) → OnSome P found → All P (filter_map f xs)
        → All P (cons_option found (filter_map f xs))
    by_found None none rest = rest
    by_found (Some y) some rest = (some, rest)

all_kept : {A : Type 0} (P : A → Type 0) (test : A → Bool) (xs : List A) → All P xs → All P (filter test xs)
all_kept P test [] h = tt
all_kept {A} P test (x ∷ xs) h = by_test (test x) (all_kept P test xs h.1)
  where
    by_test : (b : Bool) → All P (filter test xs) → All P (cond b (x ∷ filter test xs) (filter test xs))
    by_test true rest = (h.0, rest)
    by_test false rest = rest

all_when : {A : Type 0} (P : A → Type 0) (b : Bool) (xs : List A) → All P xs → All P (if b then xs else [])
all_when P true xs h = h
all_when P false xs h = tt

pub find_some : {A : Type 0} (P : A → Type 0) (test : A → Bool) (xs : List A) → All P xs → OnSome P (find test xs)
find_some P test [] h = tt
find_some {A} P test (x ∷ xs) h = by_test (test x) (find_some P test xs h.1)
  where
    by_test : (b : Bool) → OnSome P (find test xs) → OnSome P (cond b (Some x) (find test xs))
    by_test true rest = h.0
    by_test false rest = rest

fold_in : (P : Wish → Type 0) (start those : List Wish) → All P start → All P those
    → All P (fold (insert_key wish_cmp) start those)
fold_in P start [] h k = h
fold_in P start (wish ∷ those) h k =
    fold_in P (insert_key wish_cmp start wish) those (each-insert wish_cmp P wish start k.0 h) k.1

-- Texts ---------------------------------------------------------------------------------------------------------------

lossy_short : (n : ℕ) (bytes : List ℕ) → length (lossy_after n bytes) ≤ 3 * length bytes
unfolding lossy_after
lossy_short n [] = omega arith
lossy_short (suc n) (byte ∷ bytes) = let rest = lossy_short n bytes in omega (arith, rest)
lossy_short zero (byte ∷ bytes) = by_next (continued byte bytes) (λ n. lossy_short n bytes)
  where
    by_next : (next : Option ℕ) → ((n : ℕ) → length (lossy_after n bytes) ≤ 3 * length bytes)
        → length (elim next as (λ _. List ℕ) [
          | None ↦ replacement_bytes ++ lossy_after 0 bytes
          | Some n ↦ byte ∷ lossy_after n bytes
        ]) ≤ 3 * length (byte ∷ bytes)
    by_next None rest = let more = rest 0 in omega (arith, more)
    by_next (Some n) rest = let more = rest n in omega (arith, more)

before_short : (test : ℕ → Bool) (key : List ℕ) → length (before_last test key) ≤ length key
before_short test key = let is = length-take (length key - suffix_len (λ x. not (test x)) key - 1) key in omega (arith, is)

-- the name of a key's package
name_short : (key : List ℕ) → IsShort key → length (package_name (key_parts key).package_path) ≤ 3 * longest_key
unfolding lossy
name_short key short =
    let same = length-map (before_last is_slash key) (λ byte. if is_slash byte then 46 else byte) in
    let fewer = before_short is_slash key in
    let most = lossy_short 0 (dotted (before_last is_slash key)) in
    omega (arith, same, fewer, most, short)

-- and that of a function's
function_short : (entry : FunctionEntry) → IsShort entry.name → length (package_named entry.name) ≤ 3 * longest_key
function_short entry short =
    let class = before_short is_dot entry.name in
    let fewer = before_short is_dot (before_last is_dot entry.name) in
    omega (arith, class, fewer, short)

pattern_short : (path : List ℕ) → length path ≤ 3 * longest_key → length (package_pattern path) < 2 ^ 31
pattern_short [] short = omega arith
pattern_short (byte ∷ bytes) short = let is = length-append (byte ∷ bytes) (46 ∷ 42 ∷ []) in omega (arith, short, is)

-- Commands that may be sent -------------------------------------------------------------------------------------------

-- a command that may be sent: its ids pass, it has a spelling by them, and it has none where no sizes are known
pub record MaySend (P : Id → Type 0) (sized : Bool) (command : TargetCommand) : Type 0 where
  pub ids : All P (ids_asked (wire command))
  pub sized_first : cond (is_empty (ids_asked (wire command))) true sized ≡ true
  pub fits : (used : IdSizes) → All (FitsId used) (ids_asked (wire command)) → FitsCommand used (wire command)

abbrev pub SetMay : (Id → Type 0) → Wish → Type 0
SetMay P wish = MaySend P true (an_effect (Set wish))

start_may : (P : Id → Type 0) → SetMay P wishes.ThreadStart
start_may P = record {
  ids = tt;
  sized_first = refl;
  fits = λ used h. (tt, (tt, ((record { count = omega arith; each = tt }, refl), tt)));
}

death_may : (P : Id → Type 0) → SetMay P wishes.ThreadDeath
death_may P = record {
  ids = tt;
  sized_first = refl;
  fits = λ used h. (tt, (tt, ((record { count = omega arith; each = tt }, refl), tt)));
}

watch_may : (P : Id → Type 0) (path : List ℕ) → length path ≤ 3 * longest_key → SetMay P (wishes.Watch path)
watch_may P path short = record {
  ids = tt;
  sized_first = refl;
  fits = λ used h. (
    tt,
    (tt, ((record { count = omega arith; each = ((pattern_short path short, tt), tt) }, refl), tt)),
  );
}

abbrev OfLocation : (Id → Type 0) → Location → Type 0
OfLocation P at = P (class at.class.0) × P (method at.method.0)

stop_may : (P : Id → Type 0) (at : Location) → OfLocation P at → SetMay P (wishes.Stop at)
stop_may P at h = record {
  ids = (h.0, (h.1, tt));
  sized_first = refl;
  fits = λ used k. (
    tt,
    (
      tt,
      (
        (
          record {
            count = omega arith;
            each = ((record { class = k.0; method = k.1.0 }, tt), tt);
          },
          refl,
        ),
        tt,
      ),
    ),
  );
}

thrown_may : (P : Id → Type 0) (caught uncaught : Bool) → P (class 0) → SetMay P (wishes.Thrown caught uncaught)
thrown_may P caught uncaught null = record {
  ids = (null, tt);
  sized_first = refl;
  fits = λ used k. (
    tt,
    (tt, ((record { count = omega arith; each = ((k.0, (tt, (tt, tt))), tt) }, refl), tt)),
  );
}

step_may : (P : Id → Type 0) (thread : ThreadId) (depth : Depth) → P (object thread.0) → SetMay P (wishes.Step thread depth)
step_may P thread depth h = record {
  ids = (h, tt);
  sized_first = refl;
  fits = λ used k. (
    tt,
    (tt, ((record { count = omega arith; each = ((k.0, (tt, (tt, tt))), tt) }, refl), tt)),
  );
}

-- What is wished ------------------------------------------------------------------------------------------------------

module _ (P : Id → Type 0) where
  abbrev OfPlace : Place → Type 0
  OfPlace place = OfLocation P place.at

  location_stands : (known : ClassId × KnownClass) → IsBound P known → (line : ℤ) (one : KnownMethod)
      → P (method one.id.0) → OnSome (OfLocation P) (line_location known.0 known.1 line one)
  location_stands known h line one k = by_start (line_start line (binding_entries (Some one.lines)))
    where
      by_start : (start : Option ℕ)
          → OnSome (OfLocation P) (option_map (location_at known.0 known.1 one.id) start)
      by_start None = tt
      by_start (Some index) = (h.itself, k)

  entry_stands : (known : ClassId × KnownClass) → IsBound P known → (entry : LineEntry)
      → All OfPlace (entry_places known.0 known.1 entry)
  entry_stands known h entry = all_when OfPlace entry.plain _
      (all_map (OfLocation P) OfPlace _ (λ at k. k) (line_locations known.0 known.1 entry.line)
      (all_found (λ (one : KnownMethod). P (method one.id.0)) (OfLocation P)
      (line_location known.0 known.1 entry.line) (location_stands known h entry.line) known.1.methods h.methods))

  list_stands : (known : ClassId × KnownClass) → IsBound P known → (list : List ℕ × List LineEntry)
      → All OfPlace (list_places known.0 known.1 list)
  list_stands known h list = all_when OfPlace (is_of_key list.0 (key_of known.1)) _
      (flat_each OfPlace (entry_places known.0 known.1) (entry_stands known h) list.1)

  method_stands : (known : ClassId × KnownClass) → IsBound P known → (name : List ℕ) (one : KnownMethod)
      → P (method one.id.0) → OnSome (OfLocation P) (method_location known.0 known.1 name one)
  method_stands known h name one k = by_name (bytes_eq name one.name) (code_start one.lines)
    where
      by_name : (named : Bool) (start : Option ℕ) → OnSome (OfLocation P)
          (if named then option_map (location_at known.0 known.1 one.id) start else None)
      by_name true (Some index) = (h.itself, k)
      by_name _ _ = tt

  named_stand : (known : ClassId × KnownClass) → IsBound P known → (name : List ℕ)
      → All (OfLocation P) (function_locations known.0 known.1 name)
  named_stand known h name = all_when (OfLocation P) (names_class known.1.signature name) _
      (all_found (λ (one : KnownMethod). P (method one.id.0)) (OfLocation P)
      (method_location known.0 known.1 (method_named name)) (method_stands known h (method_named name))
      known.1.methods h.methods)

  function_stands : (known : ClassId × KnownClass) → IsBound P known → (entry : FunctionEntry)
      → All OfPlace (function_places known.0 known.1 entry)
  function_stands known h entry = all_when OfPlace entry.plain _
      (all_map (OfLocation P) OfPlace _ (λ at k. k) (function_locations known.0 known.1 entry.name)
      (named_stand known h entry.name))

  places_stand : (wanted : Wanted) (known : ClassId × KnownClass) → IsBound P known
      → All OfPlace (places_in wanted known)
  places_stand wanted known h = all_when OfPlace known.1.prepared _
      (all_joined OfPlace (flat_map (list_places known.0 known.1) wanted.lists)
      (flat_map (function_places known.0 known.1) wanted.functions)
      (flat_each OfPlace (list_places known.0 known.1) (list_stands known h) wanted.lists)
      (flat_each OfPlace (function_places known.0 known.1) (function_stands known h) wanted.functions))

  watches_stand : (wanted : Wanted) → AreWished P wanted → All (SetMay P) (map wishes.Watch (watched wanted))
  watches_stand wanted h = all_map (λ (path : List ℕ). length path ≤ 3 * longest_key) (SetMay P) wishes.Watch
      (watch_may P) (watched wanted)
      (all_joined (λ (path : List ℕ). length path ≤ 3 * longest_key)
      (map (λ list. package_name (key_parts list.0).package_path) (filter has_entries wanted.lists))
      (map (λ entry. package_named entry.name) (filter (λ entry. has_class entry.name) wanted.functions))
      (all_map (λ (list : List ℕ × List LineEntry). IsShort list.0) (λ (path : List ℕ). length path ≤ 3 * longest_key)
      (λ list. package_name (key_parts list.0).package_path) (λ list short. name_short list.0 short)
      (filter has_entries wanted.lists)
      (all_kept (λ (list : List ℕ × List LineEntry). IsShort list.0) has_entries wanted.lists h.short))
      (all_map IsShortFunction (λ (path : List ℕ). length path ≤ 3 * longest_key) (λ entry. package_named entry.name)
      function_short (filter (λ entry. has_class entry.name) wanted.functions)
      (all_kept IsShortFunction (λ entry. has_class entry.name) wanted.functions h.functions)))

  stops_stand : (wanted : Wanted) → AreWished P wanted → All (SetMay P) (stops wanted)
  stops_stand wanted h = all_map OfPlace (SetMay P) (λ place. wishes.Stop place.at) (λ place k. stop_may P place.at k)
      (places wanted)
      (all_flat (IsBound P) OfPlace (places_in wanted) (places_stand wanted) wanted.classes h.bound)

  thrown_stand : (caught uncaught : Bool) → P (class 0) → All (SetMay P) (thrown caught uncaught)
  thrown_stand caught uncaught null =
      all_when (SetMay P) (caught || uncaught) _ (thrown_may P caught uncaught null, tt)

  step_stand : (step : Option StepWish) → OnSome (OfStep P) step → All (SetMay P) (stepping step)
  step_stand None h = tt
  step_stand (Some step) h = (step_may P step.thread step.depth h, tt)

  -- each event request that is wished may be set
  pub wished_may : (wanted : Wanted) → P (class 0) → AreWished P wanted → All (SetMay P) (wished wanted)
  unfolding wished
  wished_may wanted null h = fold_in (SetMay P) [] (all_wished wanted) tt (
    start_may P,
    (
      death_may P,
      all_joined (SetMay P) (map wishes.Watch (watched wanted) ++ stops wanted ++ thrown wanted.caught wanted.uncaught)
          (stepping wanted.step)
          (all_joined (SetMay P) (map wishes.Watch (watched wanted) ++ stops wanted)
          (thrown wanted.caught wanted.uncaught)
          (all_joined (SetMay P) (map wishes.Watch (watched wanted)) (stops wanted) (watches_stand wanted h)
          (stops_stand wanted h)) (thrown_stand wanted.caught wanted.uncaught null)) (step_stand wanted.step h.step),
    ),
  )
