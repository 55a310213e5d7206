-- What is printed of a script that was read is read as that script.
use Rattle.std.proofs.Common.{◌≡◌, ℕ, ◌==◌, ◌<◌, ◌≤◌, Bool, true, false, if◌then◌else◌, List, [], ◌∷◌, ◌++◌, Option, Some}
use Rattle.std.proofs.Common.{None, option_map, ◌⊎◌, inl, inr, arith}
use Rattle.std.proofs.Common.{Result, Ok, Err, refl, sym, subst, ap, ◌∙◌, append_assoc, append-nil}
use Rattle.std.specs.List.{AllByRecursion, flat_map}
use Rattle.std.proofs.lemmas.Bool.{lt-ltb, le-leb}
use Rattle.std.proofs.lemmas.Bool.Decides.{nat_tests}
use Rattle.std.proofs.lemmas.Option.{none-some, same_Some}
use Rattle.jdwp_values.specs.Sizes.{IsSize}
use Rattle.jdwp_values.specs.declared.sizes.IdSizes.{IdSizes}
use Rattle.line_elements.specs.declared.version.Version.{Version}
use Rattle.line_elements.specs.declared.version.Version.TheVariants.{First, Second}
use Rattle.line_elements.specs.Parts.{part_at}
use Rattle.script_rows.specs.Printing.{data_of}
use Rattle.script_rows.specs.Rows.{kind_of, row_in, row_of}
use Rattle.script_rows.specs.declared.rows.Row.{Row}
use Rattle.script_rows.specs.declared.rows.Row.TheVariants as rows
use Rattle.script_rows.specs.declared.script.Script.{Script}
use Rattle.script_text.specs.declared.log.ScriptFault.{ScriptFault}
use Rattle.script_text.specs.declared.log.ScriptFault.TheVariants.{BadShape, NoEnd}
use Rattle.script_text.specs.declared.log.ScriptTrouble.{ScriptTrouble}
use Rattle.target_scripts.specs.declared.building.Building.{Building}
use Rattle.target_scripts.specs.Adding.{begun, limited, added, unless_faulty, grown, usual_turns, usual_quiet}
use Rattle.target_scripts.specs.Adding.{usual_waiting}
use Rattle.target_scripts.specs.Chains.{line_of_class, first_open, chain_fault}
use Rattle.target_scripts.specs.Judging.{rank, is_twice, may_follow, limits_fit, row_fits, row_is_new, row_is_known, unless}
use Rattle.target_scripts.specs.Judging.{fault_of}
use Rattle.script_files.specs.Sizes.{all_sizes, size_of, sizes_of}
use Rattle.script_files.specs.Reading.{version_of, numbers_of, headed, sized, with_sizes, next_line, behind_head}
use Rattle.script_files.specs.Reading.{behind_row, row_taken, finished}
use Rattle.script_files.specs.Reading.{taken_by, Stop, end_fault, read_on, beginning, unless_open}
use Rattle.script_files.specs.Reading.{open_line, judged, script_of}
use Rattle.printed_scripts.specs.Texts.{row_text, size_numbers, parts, together, rows_of, script_text}
use Rattle.printed_scripts.proofs.OrderLaws.{IsOrdered, begun_ordered, limited_ordered, MayStand, is_added, last_is}
use Rattle.printed_scripts.proofs.OrderLaws.{added_ordered, moved_down, grown_down}
use Rattle.printed_scripts.proofs.RowLaws.{head_told, usual_told}
use Rattle.printed_scripts.proofs.ReadLaws.{Reading, Takes, has_rows, IsShown, shown_by, row_again, rows_again}

-- ---- the first rows

abbrev reading_of : Reading → Result Reading ScriptFault → Reading
reading_of other (Ok reading) = reading
reading_of other (Err kind) = other

abbrev behind_first : Version → Reading
behind_first v = record { line = next_line 1; version = Some v; building = None }

abbrev behind_sizes : Version → IdSizes → Reading
behind_sizes v sizes = record { line = next_line (next_line 1); version = Some v; building = Some (begun sizes) }

record IsHead (row : Row) (next : Reading) : Type 0 where
  version : Version
  is : row ≡ rows.Head (Some version)
  behind : behind_first version ≡ next

is_head : (row : Row) (next : Reading) → behind_head beginning (headed (version_of row)) ≡ Ok next → IsHead row next
is_head (rows.Head (Some v)) next e = record { version = v; is = refl; behind = ap (reading_of next) e }
is_head (rows.Head None) next e = absurd cc
is_head (rows.Sizes numbers) next e = absurd cc
is_head (rows.Limits turns quiet waiting) next e = absurd cc
is_head (rows.Class row) next e = absurd cc
is_head (rows.Method row) next e = absurd cc
is_head (rows.Variable row) next e = absurd cc
is_head (rows.Field row) next e = absurd cc
is_head (rows.Object row) next e = absurd cc
is_head (rows.Array row) next e = absurd cc
is_head (rows.Text row) next e = absurd cc
is_head (rows.Put row) next e = absurd cc
is_head (rows.Thread row) next e = absurd cc
is_head (rows.Frame row) next e = absurd cc
is_head (rows.Begin begin) next e = absurd cc
is_head (rows.Move row) next e = absurd cc
is_head (rows.Turn turn) next e = absurd cc
is_head rows.End next e = absurd cc

all_same : (f m o c r : ℕ) (p : Option (IsSize f)) (q : Option (IsSize m)) (s : Option (IsSize o))
    (t : Option (IsSize c)) (u : Option (IsSize r)) (sizes : IdSizes) → all_sizes f m o c r p q s t u ≡ Some sizes →
    f ∷ m ∷ o ∷ c ∷ r ∷ [] ≡ size_numbers sizes
all_same f m o c r None q s t u sizes e = absurd (none-some sizes e)
all_same f m o c r (Some p) None s t u sizes e = absurd (none-some sizes e)
all_same f m o c r (Some p) (Some q) None t u sizes e = absurd (none-some sizes e)
all_same f m o c r (Some p) (Some q) (Some s) None u sizes e = absurd (none-some sizes e)
all_same f m o c r (Some p) (Some q) (Some s) (Some t) None sizes e = absurd (none-some sizes e)
all_same f m o c r (Some p) (Some q) (Some s) (Some t) (Some u) sizes e = ap size_numbers (same_Some _ sizes e)

sizes_same : (numbers : List ℕ) (sizes : IdSizes) → sizes_of numbers ≡ Some sizes → numbers ≡ size_numbers sizes
sizes_same [] sizes e = absurd (none-some sizes e)
sizes_same (f ∷ []) sizes e = absurd (none-some sizes e)
sizes_same (f ∷ m ∷ []) sizes e = absurd (none-some sizes e)
sizes_same (f ∷ m ∷ o ∷ []) sizes e = absurd (none-some sizes e)
sizes_same (f ∷ m ∷ o ∷ c ∷ []) sizes e = absurd (none-some sizes e)
sizes_same (f ∷ m ∷ o ∷ c ∷ r ∷ []) sizes e =
    all_same f m o c r (size_of f) (size_of m) (size_of o) (size_of c) (size_of r) sizes e
sizes_same (f ∷ m ∷ o ∷ c ∷ r ∷ n ∷ more) sizes e = absurd (none-some sizes e)

record IsSized (v : Version) (row : Row) (next : Reading) : Type 0 where
  sizes : IdSizes
  is : row ≡ rows.Sizes (size_numbers sizes)
  behind : behind_sizes v sizes ≡ next
  again : sized (sizes_of (size_numbers sizes)) ≡ Ok (begun sizes)

from_numbers : (v : Version) (numbers : List ℕ) (next : Reading) (o : Option IdSizes) → sizes_of numbers ≡ o →
    behind_row (behind_first v) (sized o) ≡ Ok next → IsSized v (rows.Sizes numbers) next
from_numbers v numbers next None found e = absurd cc
from_numbers v numbers next (Some sizes) found e = record {
  sizes = sizes;
  is = ap (λ (given : List ℕ). rows.Sizes given) (sizes_same numbers sizes found);
  behind = ap (reading_of next) e;
  again = ap (λ (given : List ℕ). sized (sizes_of given)) (sym (sizes_same numbers sizes found)) ∙ ap sized found;
}

is_sized : (v : Version) (row : Row) (next : Reading) →
    behind_row (behind_first v) (with_sizes (numbers_of row)) ≡ Ok next → IsSized v row next
is_sized v (rows.Head told) next e = absurd cc
is_sized v (rows.Sizes numbers) next e = from_numbers v numbers next (sizes_of numbers) refl e
is_sized v (rows.Limits turns quiet waiting) next e = absurd cc
is_sized v (rows.Class row) next e = absurd cc
is_sized v (rows.Method row) next e = absurd cc
is_sized v (rows.Variable row) next e = absurd cc
is_sized v (rows.Field row) next e = absurd cc
is_sized v (rows.Object row) next e = absurd cc
is_sized v (rows.Array row) next e = absurd cc
is_sized v (rows.Text row) next e = absurd cc
is_sized v (rows.Put row) next e = absurd cc
is_sized v (rows.Thread row) next e = absurd cc
is_sized v (rows.Frame row) next e = absurd cc
is_sized v (rows.Begin begin) next e = absurd cc
is_sized v (rows.Move row) next e = absurd cc
is_sized v (rows.Turn turn) next e = absurd cc
is_sized v rows.End next e = absurd cc

-- ---- the rows behind them

-- the first of these rows stands behind the limits
abbrev BeginsBehind : List Row → Type 0
BeginsBehind [] = ⊥
BeginsBehind (row ∷ others) = 1 < rank row

-- Where a row is taken behind one kind, and where it is printed behind another: the same, which is behind the limits, or
-- the limits, where none were read.
abbrev GoesOn : ℕ → ℕ → List Row → Type 0
GoesOn last printed others =
    ((printed ≡ last) × (0 < last)) ⊎ ((printed ≡ 1) × BeginsBehind others)

-- rows that were read behind a script's first rows, and are read as well behind those that are printed
record AreCarried (start : Building) (again now : Reading) (others read : List Row) : Type 0 where
  building : Building
  is : now.building ≡ Some building
  printed : ℕ
  stopped : Reading
  taken : Takes again others stopped
  stopped_is : stopped.building ≡ Some (moved_down printed building)
  goes_on : GoesOn building.last printed []
  ordered : IsOrdered start building read

-- how the next row stands
record Follows (last printed : ℕ) (row : Row) : Type 0 where
  above : 1 < rank row
  other : (printed == 15) ≡ false
  follows : may_follow printed (rank row) ≡ true

not_first : (last next : ℕ) → 0 < last → last ≤ next → is_twice last next ≡ false → 1 < next
not_first last next some order once = grind (arith, nat_tests)

behind_limits : (next : ℕ) → 1 < next → may_follow 1 next ≡ true
behind_limits next above = grind (arith, nat_tests)

may_again : (last next : ℕ) → 0 < next → last ≤ next → is_twice last next ≡ false → may_follow last next ≡ true
may_again last next above order once = rw (lt-ltb 0 next above, le-leb last next order, once) refl

row_follows : (last printed : ℕ) (row : Row) (others : List Row) → GoesOn last printed (row ∷ others) →
    MayStand last (rank row) → Follows last printed row
row_follows last printed row others (inl same) may =
    let above = not_first last (rank row) same.1 may.order may.once in
    subst (λ (n : ℕ). Follows last n row) (sym same.0) (record {
      above = above;
      other = may.open_;
      follows = may_again last (rank row) may.above may.order may.once;
    })
row_follows last printed row others (inr first) may =
    subst (λ (n : ℕ). Follows last n row) (sym first.0)
    (record { above = first.1; other = refl; follows = behind_limits (rank row) first.1 })

carried : (start : Building) (others so_far : List Row) (reading again now : Reading) (b : Building) (printed : ℕ) →
    reading.building ≡ Some b → again.building ≡ Some (moved_down printed b) → IsOrdered start b so_far →
    GoesOn b.last printed others → Takes reading others now → AreCarried start again now others (so_far ++ others)
carried start [] so_far reading again now b printed is again_is ordered goes taken = record {
  building = b;
  is = ap (λ (r : Reading). r.building) (sym taken) ∙ is;
  printed = printed;
  stopped = again;
  taken = refl;
  stopped_is = again_is;
  goes_on = goes;
  ordered = subst (IsOrdered start b) (sym (append-nil so_far)) ordered;
}
carried start (row ∷ others) so_far reading again now b printed is again_is ordered goes taken =
    by_grown (grown b row) refl (sym (ap (taken_by reading row) is) ∙ taken.1.0)
    (λ next is_next after after_is next_ordered next_goes.
    carried start others (so_far ++ row ∷ []) taken.0 after now next next.last is_next after_is next_ordered next_goes
    taken.1.1)
  where
    by_grown : (result : Result Building ScriptFault) → grown b row ≡ result → behind_row reading result ≡ Ok taken.0 →
        ((next : Building) → taken.0.building ≡ Some next → (after : Reading) →
        after.building ≡ Some (moved_down next.last next) → IsOrdered start next (so_far ++ row ∷ []) →
        GoesOn next.last next.last others → AreCarried start after now others ((so_far ++ row ∷ []) ++ others)) →
        AreCarried start again now (row ∷ others) (so_far ++ row ∷ others)
    by_grown (Ok next) grows e more =
        let add = is_added b row next (fault_of b row) refl grows in
        let stands = row_follows b.last printed row others goes add.fair.may in
        let after : Reading =
        record { line = next_line again.line; version = again.version; building = Some (moved_down next.last next) } in
        let last = last_is b next row add.is stands.above in
        let rest = more next (ap (λ (r : Reading). r.building) (sym (ap (reading_of taken.0) e))) after refl
        (added_ordered start b next row so_far ordered add stands.above)
        (inl (refl, omega (arith, last, stands.above))) in
        record {
          building = rest.building;
          is = rest.is;
          printed = rest.printed;
          stopped = rest.stopped;
          taken = (
            after,
            (
              ap (taken_by again row) again_is
                  ∙ ap (behind_row again) (grown_down printed b next row add stands.above stands.other stands.follows),
              rest.taken,
            ),
          );
          stopped_is = rest.stopped_is;
          goes_on = rest.goes_on;
          ordered = subst (IsOrdered start rest.building) (append_assoc so_far (row ∷ []) others) rest.ordered;
        }
    by_grown (Err kind) grows e more = absurd cc

-- the end is the last row
ended_last : (b : Building) → end_fault (Some b) ≡ None → (b.last == 15) ≡ true
ended_last b e = by_test (b.last == 15) refl e
  where
    by_test : (test : Bool) → (b.last == 15) ≡ test → (if test then None else Some NoEnd) ≡ None → (b.last == 15) ≡ true
    by_test true is e = is
    by_test false is e = absurd (none-some NoEnd (sym e))

-- the printed text stops there, too
printed_last : (last printed : ℕ) → GoesOn last printed [] → (last == 15) ≡ true → (printed == 15) ≡ true
printed_last last printed (inl same) e = ap (λ (n : ℕ). n == 15) same.0 ∙ e
printed_last last printed (inr first) e = absurd first.1

-- ---- what is printed

-- the rows behind the sizes are the limits, if need be, and rows behind them
record AreBehind (sizes : IdSizes) (from now : Reading) (others : List Row) : Type 0 where
  start : Building
  printed : Reading
  rest : List Row
  sizes_are : start.script.world.sizes ≡ sizes
  limits : IsShown (rows.Limits start.script.turns start.script.quiet start.script.waiting)
  taken : row_taken from (rows.Limits start.script.turns start.script.quiet start.script.waiting) ≡ Ok printed
  rows_are : AreCarried start printed now rest rest
  shown : AllByRecursion IsShown rest

abbrev limits_end : Reading → Building → Reading
limits_end from b = record { line = next_line from.line; version = from.version; building = Some b }

usual_again : row_of Second (data_of (rows.Limits usual_turns usual_quiet usual_waiting))
    ≡ Some (rows.Limits usual_turns usual_quiet usual_waiting)
unfolding kind_of row_in part_at
usual_again = refl

limits_grown : (sizes : IdSizes) (turns quiet waiting : ℕ) → limits_fit turns quiet waiting ≡ true →
    grown (begun sizes) (rows.Limits turns quiet waiting) ≡ Ok (limited (begun sizes) turns quiet waiting)
unfolding fault_of row_fits row_is_new row_is_known added
limits_grown sizes turns quiet waiting fits =
    ap (λ (fit : Bool). unless_faulty (begun sizes) (rows.Limits turns quiet waiting) (unless fit BadShape None)) fits

limits_same : (b next : Building) (turns quiet waiting : ℕ) → added b (rows.Limits turns quiet waiting) ≡ Ok next →
    limited b turns quiet waiting ≡ next
unfolding added
limits_same b next turns quiet waiting e = ap (building_or next) e
  where
    building_or : Building → Result Building ScriptFault → Building
    building_or other (Ok found) = found
    building_or other (Err kind) = other

abbrev ok_building : Building → Result Building ScriptFault
ok_building b = Ok b

abbrev some_building : Building → Option Building
some_building b = Some b

-- where no limits were read, the usual ones are printed
without_limits : (sizes : IdSizes) (v : Version) (from now : Reading) (others : List Row) →
    from.building ≡ Some (begun sizes) → BeginsBehind others → AllByRecursion IsShown others →
    Takes (behind_sizes v sizes) others now → AreBehind sizes from now others
unfolding limited
without_limits sizes v from now others is begins shown taken = record {
  start = begun sizes;
  printed = limits_end from (moved_down 1 (begun sizes));
  rest = others;
  sizes_are = refl;
  limits = shown_by (rows.Limits usual_turns usual_quiet usual_waiting) usual_told usual_again;
  taken = ap (taken_by from (rows.Limits usual_turns usual_quiet usual_waiting)) is
      ∙ ap (behind_row from) (limits_grown sizes usual_turns usual_quiet usual_waiting refl);
  rows_are = carried (begun sizes) others [] (behind_sizes v sizes) (limits_end from (moved_down 1 (begun sizes))) now
      (begun sizes) 1 refl refl (begun_ordered sizes) (inr (refl, begins)) taken;
  shown = shown;
}

-- where limits were read, they are printed again
with_limits : (sizes : IdSizes) (v : Version) (from now : Reading) (turns quiet waiting : ℕ) (others : List Row) →
    from.building ≡ Some (begun sizes) → IsShown (rows.Limits turns quiet waiting) → AllByRecursion IsShown others →
    Takes (behind_sizes v sizes) (rows.Limits turns quiet waiting ∷ others) now →
    AreBehind sizes from now (rows.Limits turns quiet waiting ∷ others)
unfolding limited
with_limits sizes v from now turns quiet waiting others is first shown taken =
    by_grown (grown (begun sizes) (rows.Limits turns quiet waiting)) refl taken.1.0
  where
    by_grown : (result : Result Building ScriptFault) →
        grown (begun sizes) (rows.Limits turns quiet waiting) ≡ result →
        behind_row (behind_sizes v sizes) result ≡ Ok taken.0 →
        AreBehind sizes from now (rows.Limits turns quiet waiting ∷ others)
    by_grown (Ok next) grows e =
        let add = is_added (begun sizes) (rows.Limits turns quiet waiting) next _ refl grows in
        let same : limited (begun sizes) turns quiet waiting ≡ next =
        limits_same (begun sizes) next turns quiet waiting add.is in
        let start = limited (begun sizes) turns quiet waiting in
        let behind = limits_end from start in
        let rest = subst (λ (r : Reading). Takes r others now) (sym (ap (reading_of taken.0) e)) taken.1.1 in
        record {
          start = start;
          printed = behind;
          rest = others;
          sizes_are = refl;
          limits = first;
          taken = ap (taken_by from (rows.Limits turns quiet waiting)) is
              ∙ ap (behind_row from) (grows ∙ ap ok_building (sym same));
          rows_are = carried start others [] (limits_end (behind_sizes v sizes) next) behind now start 1
              (ap some_building (sym same)) refl (limited_ordered sizes turns quiet waiting)
              (inl (refl, omega arith)) rest;
          shown = shown;
        }
    by_grown (Err kind) grows e = absurd cc

-- a row that stands in one of the first two lines stands nowhere else
never_first : (sizes : IdSizes) (row : Row) (next : Reading) (v : Version) → rank row ≡ 0 →
    row_taken (behind_sizes v sizes) row ≡ Ok next → ⊥
never_first sizes row next v none e = by_grown (grown (begun sizes) row) refl e
  where
    by_grown : (result : Result Building ScriptFault) → grown (begun sizes) row ≡ result →
        behind_row (behind_sizes v sizes) result ≡ Ok next → ⊥
    by_grown (Ok now) grows e =
        let add = is_added (begun sizes) row now (fault_of (begun sizes) row) refl grows in
        omega (arith, none, add.fair.may.above)
    by_grown (Err kind) grows e = cc

behind : (sizes : IdSizes) (v : Version) (from now : Reading) (others : List Row) →
    from.building ≡ Some (begun sizes) → end_fault now.building ≡ None → AllByRecursion IsShown others →
    Takes (behind_sizes v sizes) others now → AreBehind sizes from now others
behind sizes v from now [] is ended shown taken =
    absurd (none-some NoEnd (sym (ap (λ (r : Reading). end_fault r.building) taken ∙ ended)))
behind sizes v from now (rows.Limits turns quiet waiting ∷ others) is ended shown taken =
    with_limits sizes v from now turns quiet waiting others is shown.0 shown.1 taken
behind sizes v from now (rows.Head told ∷ others) is ended shown taken =
    absurd (never_first sizes (rows.Head told) taken.0 v refl taken.1.0)
behind sizes v from now (rows.Sizes numbers ∷ others) is ended shown taken =
    absurd (never_first sizes (rows.Sizes numbers) taken.0 v refl taken.1.0)
behind sizes v from now (rows.Class row ∷ others) is ended shown taken =
    without_limits sizes v from now (rows.Class row ∷ others) is (omega arith) shown taken
behind sizes v from now (rows.Method row ∷ others) is ended shown taken =
    without_limits sizes v from now (rows.Method row ∷ others) is (omega arith) shown taken
behind sizes v from now (rows.Variable row ∷ others) is ended shown taken =
    without_limits sizes v from now (rows.Variable row ∷ others) is (omega arith) shown taken
behind sizes v from now (rows.Field row ∷ others) is ended shown taken =
    without_limits sizes v from now (rows.Field row ∷ others) is (omega arith) shown taken
behind sizes v from now (rows.Object row ∷ others) is ended shown taken =
    without_limits sizes v from now (rows.Object row ∷ others) is (omega arith) shown taken
behind sizes v from now (rows.Array row ∷ others) is ended shown taken =
    without_limits sizes v from now (rows.Array row ∷ others) is (omega arith) shown taken
behind sizes v from now (rows.Text row ∷ others) is ended shown taken =
    without_limits sizes v from now (rows.Text row ∷ others) is (omega arith) shown taken
behind sizes v from now (rows.Put row ∷ others) is ended shown taken =
    without_limits sizes v from now (rows.Put row ∷ others) is (omega arith) shown taken
behind sizes v from now (rows.Thread row ∷ others) is ended shown taken =
    without_limits sizes v from now (rows.Thread row ∷ others) is (omega arith) shown taken
behind sizes v from now (rows.Frame row ∷ others) is ended shown taken =
    without_limits sizes v from now (rows.Frame row ∷ others) is (omega arith) shown taken
behind sizes v from now (rows.Begin begin ∷ others) is ended shown taken =
    without_limits sizes v from now (rows.Begin begin ∷ others) is (omega arith) shown taken
behind sizes v from now (rows.Move row ∷ others) is ended shown taken =
    without_limits sizes v from now (rows.Move row ∷ others) is (omega arith) shown taken
behind sizes v from now (rows.Turn turn ∷ others) is ended shown taken =
    without_limits sizes v from now (rows.Turn turn ∷ others) is (omega arith) shown taken
behind sizes v from now (rows.End ∷ others) is ended shown taken =
    without_limits sizes v from now (rows.End ∷ others) is (omega arith) shown taken

-- ---- the text

record AreParts (building : Option Building) (fault : Option ScriptFault) (script : Script) : Type 0 where
  clear : fault ≡ None
  inside : Building
  is : building ≡ Some inside
  script_is : inside.script ≡ script
  closed : chain_fault inside ≡ None

abbrev ok_script : Script → Result Script ScriptTrouble
ok_script s = Ok s

abbrev script_or : Script → Result Script ScriptTrouble → Script
script_or other (Ok script) = script
script_or other (Err trouble) = other

are_parts : (line : ℕ) (building : Option Building) (fault : Option ScriptFault) (opened : Option ℕ) (script : Script) →
    open_line building ≡ opened → unless_open line building fault opened ≡ Ok script → AreParts building fault script
are_parts line None None None script open_is e = absurd cc
are_parts line (Some b) None None script open_is e =
    record { clear = refl; inside = b; is = refl; script_is = ap (script_or script) e; closed = open_is }
are_parts line None (Some kind) None script open_is e = absurd cc
are_parts line (Some b) (Some kind) None script open_is e = absurd cc
are_parts line building fault (Some class_line) script open_is e = absurd cc

-- chains of classes end wherever the classes stand
no_place : (first : ℕ) (place : Option ℕ) → option_map (line_of_class first) place ≡ None → place ≡ None
no_place first None e = refl
no_place first (Some n) e = absurd cc

still_closed : (printed : ℕ) (b : Building) → chain_fault b ≡ None → chain_fault (moved_down printed b) ≡ None
still_closed printed b e =
    ap (option_map (line_of_class 4)) (no_place b.first_class (first_open b.script.world.classes) e)

-- the rows that are printed
abbrev printed_rows : Building → List Row → List Row
printed_rows start rest =
    rows.Limits start.script.turns start.script.quiet start.script.waiting ∷ rest

head_again : row_of First (data_of (rows.Head (Some Second))) ≡ Some (rows.Head (Some Second))
unfolding kind_of row_in part_at
head_again = refl

head_again_second : row_of Second (data_of (rows.Head (Some Second))) ≡ Some (rows.Head (Some Second))
unfolding kind_of row_in part_at
head_again_second = refl

head_shown : IsShown (rows.Head (Some Second))
head_shown = shown_by (rows.Head (Some Second)) head_told head_again_second

all_again : (start b : Building) (sizes : IdSizes) (rest : List Row) → IsOrdered start b rest →
    start.script.world.sizes ≡ sizes → (b.last == 15) ≡ true →
    rows.Head (Some Second) ∷ rows.Sizes (size_numbers sizes) ∷ printed_rows start rest ≡ rows_of b.script
all_again start b sizes rest ordered sizes_are ended =
    let s = b.script in
    let whole = together (parts s) ++ rows.End ∷ [] in
    let rest_is : rest ≡ whole =
    ordered.all ∙ ap (λ (t : Bool). together (parts s) ++ (if t then rows.End ∷ [] else [])) ended in
    ap (λ (others : List Row). rows.Head (Some Second) ∷ rows.Sizes (size_numbers sizes)
    ∷ rows.Limits start.script.turns start.script.quiet start.script.waiting ∷ others) rest_is
    ∙ ap (λ (n : ℕ). rows.Head (Some Second) ∷ rows.Sizes (size_numbers sizes)
    ∷ rows.Limits n start.script.quiet start.script.waiting ∷ whole) (sym ordered.turns_are)
    ∙ ap (λ (n : ℕ). rows.Head (Some Second) ∷ rows.Sizes (size_numbers sizes)
    ∷ rows.Limits s.turns n start.script.waiting ∷ whole) (sym ordered.quiet_is)
    ∙ ap (λ (n : ℕ). rows.Head (Some Second) ∷ rows.Sizes (size_numbers sizes)
    ∷ rows.Limits s.turns s.quiet n ∷ whole) (sym ordered.waiting_is)
    ∙ ap (λ (given : IdSizes). rows.Head (Some Second) ∷ rows.Sizes (size_numbers given)
    ∷ rows.Limits s.turns s.quiet s.waiting ∷ whole) (sym (ordered.sizes_are ∙ sizes_are))

-- a script whose last row is the end
judged_end : (stopped : Reading) (printed : ℕ) (b : Building) (script : Script) →
    stopped.building ≡ Some (moved_down printed b) → (printed == 15) ≡ true → chain_fault b ≡ None → b.script ≡ script →
    judged (finished stopped []) ≡ Ok script
judged_end stopped printed b script is last closed script_is =
    ap (λ (building : Option Building).
    unless_open stopped.line building (end_fault building) (open_line building)) is
    ∙ ap (λ (t : Bool). unless_open stopped.line (Some (moved_down printed b)) (if t then None else Some NoEnd)
    (chain_fault (moved_down printed b))) last
    ∙ ap (λ (place : Option ℕ). unless_open stopped.line (Some (moved_down printed b)) None place)
    (still_closed printed b closed)
    ∙ ap (λ (s : Script). ok_script s) script_is

read_again : (read : List Row) (script : Script) (now : Reading) (b : Building) → now.building ≡ Some b →
    chain_fault b ≡ None → b.script ≡ script → Takes beginning read now → end_fault now.building ≡ None →
    AllByRecursion IsShown read → judged (read_on beginning [] (script_text script)) ≡ Ok script
read_again [] script now b is closed script_is taken ended shown =
    absurd (none-some b (ap (λ (r : Reading). r.building) taken ∙ is))
read_again (first ∷ []) script now b is closed script_is taken ended shown =
    let head = is_head first taken.0 taken.1.0 in
    absurd (none-some b (ap (λ (r : Reading). r.building) (head.behind ∙ taken.1.1) ∙ is))
read_again (first ∷ second ∷ others) script now b is closed script_is taken ended shown =
    let head = is_head first taken.0 taken.1.0 in
    let v = head.version in
    let more = subst (λ (r : Reading). Takes r (second ∷ others) now) (sym head.behind) taken.1.1 in
    let given = is_sized v second more.0 more.1.0 in
    let rest = subst (λ (r : Reading). Takes r others now) (sym given.behind) more.1.1 in
    let second_shown = subst IsShown given.is shown.1.0 in
    let after = behind given.sizes v (behind_sizes Second given.sizes) now others refl ended shown.1.1 rest in
    let c = after.rows_are in
    let same : c.building ≡ b = same_Some c.building b (sym c.is ∙ is) in
    let last = ended_last c.building (ap end_fault (sym c.is) ∙ ended) in
    let script_same : c.building.script ≡ script = ap (λ (k : Building). k.script) same ∙ script_is in
    let printed = rows.Sizes (size_numbers given.sizes) ∷ printed_rows after.start after.rest in
    ap judged
    (ap (λ (s : Script). read_on beginning [] (flat_map row_text (rows_of s))) (sym script_same)
    ∙ ap (λ (all : List Row). read_on beginning [] (flat_map row_text all))
    (sym (all_again after.start c.building given.sizes after.rest c.ordered after.sizes_are last))
    ∙ row_again First (rows.Head (Some Second)) (flat_map row_text printed) beginning (behind_first Second) refl
    head_shown head_again refl
    ∙ rows_again printed (behind_first Second) c.stopped refl (second_shown, (after.limits, after.shown)) (
      behind_sizes Second given.sizes,
      (ap (behind_row (behind_first Second)) given.again, (after.printed, (after.taken, c.taken))),
    ))
    ∙ judged_end c.stopped c.printed c.building script c.stopped_is
    (printed_last c.building.last c.printed c.goes_on last) (ap chain_fault same ∙ closed) script_same

pub printed_again : (text : List ℕ) (script : Script) → script_of text ≡ Ok script →
    script_of (script_text script) ≡ Ok script
unfolding script_of
printed_again text script e =
    let stop : Stop = read_on beginning [] text in
    let found =
    are_parts stop.reading.line stop.reading.building stop.fault (open_line stop.reading.building) script refl e in
    let has = has_rows text beginning [] stop refl found.clear in
    read_again has.read script stop.reading found.inside found.is found.closed found.script_is has.taken has.ended
    has.shown
