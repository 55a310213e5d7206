-- The rows that a script was read of are the rows of the script.
use Rattle.std.proofs.Common.{◌≡◌, ℕ, zero, suc, ◌-◌, ◌<◌, ◌≤◌, ◌==◌, Bool, true, false, not, ◌&&◌, if◌then◌else◌}
use Rattle.std.proofs.Common.{nat_lt, nat_le}
use Rattle.std.proofs.Common.{List, [], ◌∷◌, ◌++◌, Option, Some, None, Result, Ok, Err, refl, sym, subst, ap, ◌∙◌}
use Rattle.std.proofs.Common.{arith}
use Rattle.std.proofs.Common.{append_assoc, append-nil}
use Rattle.std.proofs.lemmas.Bool.{and_parts, not-true, leb-true, ltb-true}
use Rattle.std.proofs.lemmas.List.{map-append}
use Rattle.std.proofs.lemmas.Option.{none-some}
use Rattle.jdwp_values.specs.declared.sizes.IdSizes.{IdSizes}
use Rattle.script_rows.specs.declared.rows.Row.{Row}
use Rattle.script_rows.specs.declared.rows.Row.TheVariants as rows
use Rattle.script_text.specs.declared.log.ScriptFault.{ScriptFault}
use Rattle.target_scripts.specs.declared.building.Building.{Building}
use Rattle.target_scripts.specs.Adding.{in_world, limited, made, moved_on, added, unless_faulty, grown, begun}
use Rattle.target_scripts.specs.Judging.{rank, is_twice, may_follow, row_fits, unless, id_fault, fault_of}
use Rattle.world_model.specs.declared.moves.Move.{Move}
use Rattle.world_model.specs.declared.world.World.{World}
use Rattle.printed_scripts.specs.Texts.{parts, together}

-- ---- rows by their kinds

-- no row stands from a place on
abbrev AreEmpty : ℕ → List (List Row) → Type 0
AreEmpty place [] = Unit {0}
AreEmpty zero (part ∷ others) = (part ≡ []) × AreEmpty zero others
AreEmpty (suc place) (part ∷ others) = AreEmpty place others

later_empty : (n m : ℕ) (all : List (List Row)) → n ≤ m → AreEmpty n all → AreEmpty m all
later_empty n m [] le empty = tt
later_empty zero zero (part ∷ others) le empty = empty
later_empty zero (suc m) (part ∷ others) le empty = later_empty zero m others (omega arith) empty.1
later_empty (suc n) zero (part ∷ others) le empty = absurd (omega arith)
later_empty (suc n) (suc m) (part ∷ others) le empty = later_empty n m others (omega arith) empty

none_together : (all : List (List Row)) → AreEmpty zero all → together all ≡ []
none_together [] empty = refl
none_together (part ∷ others) empty = rw (empty.0, none_together others empty.1) refl

-- one row more in the part at a place
abbrev with_more : ℕ → Row → List (List Row) → List (List Row)
with_more place row [] = []
with_more zero row (part ∷ others) = (part ++ row ∷ []) ∷ others
with_more (suc place) row (part ∷ others) = part ∷ with_more place row others

abbrev HasPlace : ℕ → List (List Row) → Type 0
HasPlace place [] = ⊥
HasPlace zero (part ∷ others) = Unit {0}
HasPlace (suc place) (part ∷ others) = HasPlace place others

-- behind the last row that is there it is the last
together_more : (place : ℕ) (row : Row) (all : List (List Row)) → HasPlace place all → AreEmpty (suc place) all →
    together all ++ row ∷ [] ≡ together (with_more place row all)
together_more place row [] has empty = absurd has
together_more zero row (part ∷ others) has empty =
    rw (none_together others empty) (ap (λ (front : List Row). front ++ row ∷ []) (append-nil part)
    ∙ sym (append-nil (part ++ row ∷ [])))
together_more (suc place) row (part ∷ others) has empty =
    append_assoc part (together others) (row ∷ [])
    ∙ ap (λ (rest : List Row). part ++ rest) (together_more place row others has empty)

more_empty : (place : ℕ) (row : Row) (all : List (List Row)) → AreEmpty (suc place) all →
    AreEmpty (suc place) (with_more place row all)
more_empty place row [] empty = tt
more_empty zero row (part ∷ others) empty = empty
more_empty (suc place) row (part ∷ others) empty = more_empty place row others empty

-- ---- a script so far

-- the last row, where it was read
abbrev pub end_rows : ℕ → List Row
end_rows last = if last == 15 then rows.End ∷ [] else []

-- the rows behind the sizes of ids and the limits are those of the script, and of no kind behind the last one
pub record IsOrdered (start b : Building) (read : List Row) : Type 0 where
  pub sizes_are : b.script.world.sizes ≡ start.script.world.sizes
  pub turns_are : b.script.turns ≡ start.script.turns
  pub quiet_is : b.script.quiet ≡ start.script.quiet
  pub waiting_is : b.script.waiting ≡ start.script.waiting
  pub all : read ≡ together (parts b.script) ++ end_rows b.last
  pub behind : AreEmpty (b.last - 1) (parts b.script)

pub begun_ordered : (sizes : IdSizes) → IsOrdered (begun sizes) (begun sizes) []
begun_ordered sizes = record {
  sizes_are = refl;
  turns_are = refl;
  quiet_is = refl;
  waiting_is = refl;
  all = refl;
  behind = (refl, (refl, (refl, (refl, (refl, (refl, (refl, (refl, (refl, (refl, (refl, (refl, (refl, tt)))))))))))));
}

pub limited_ordered : (sizes : IdSizes) (turns quiet waiting : ℕ) →
    IsOrdered (limited (begun sizes) turns quiet waiting) (limited (begun sizes) turns quiet waiting) []
unfolding limited
limited_ordered sizes turns quiet waiting = record {
  sizes_are = refl;
  turns_are = refl;
  quiet_is = refl;
  waiting_is = refl;
  all = refl;
  behind = (refl, (refl, (refl, (refl, (refl, (refl, (refl, (refl, (refl, (refl, (refl, (refl, (refl, tt)))))))))))));
}

-- ---- one row more

pub record MayStand (last next : ℕ) : Type 0 where
  pub open_ : (last == 15) ≡ false
  pub above : 0 < next
  pub order : last ≤ next
  pub once : is_twice last next ≡ false

unless_none : (holds : Bool) (fault : ScriptFault) (next : Option ScriptFault) → unless holds fault next ≡ None →
    (holds ≡ true) × (next ≡ None)
unless_none true fault next e = (refl, e)
unless_none false fault next e = absurd (none-some fault (sym e))

-- what is so of a row that has no fault
pub record HasNoFault (b : Building) (row : Row) : Type 0 where
  pub may : MayStand b.last (rank row)
  pub fits : row_fits b.script.world row ≡ true
  pub ids : id_fault b.script row ≡ None

pub no_fault : (b : Building) (row : Row) → fault_of b row ≡ None → HasNoFault b row
unfolding fault_of
no_fault b row e =
    let p = unless_none (row_fits b.script.world row) _ _ e in
    let q = unless_none (not (b.last == 15)) _ _ p.1 in
    let r = unless_none (may_follow b.last (rank row)) _ (id_fault b.script row) q.1 in
    let s =
    and_parts (nat_lt 0 (rank row) && nat_le b.last (rank row)) (not (is_twice b.last (rank row))) r.0 in
    let t = and_parts (nat_lt 0 (rank row)) (nat_le b.last (rank row)) s.0 in
    record {
      may = record {
        open_ = not-true (b.last == 15) q.0;
        above = ltb-true 0 (rank row) t.0;
        order = leb-true b.last (rank row) t.1;
        once = not-true (is_twice b.last (rank row)) s.1;
      };
      fits = p.0;
      ids = r.1;
    }

-- a row that has no fault
pub record IsAdded (b : Building) (row : Row) (now : Building) : Type 0 where
  pub fair : HasNoFault b row
  pub is : added b row ≡ Ok now

pub is_added : (b : Building) (row : Row) (now : Building) (fault : Option ScriptFault) → fault_of b row ≡ fault →
    unless_faulty b row fault ≡ Ok now → IsAdded b row now
is_added b row now None clear e = record { fair = no_fault b row clear; is = e }
is_added b row now (Some kind) clear e = absurd cc

-- what was added
abbrev building_of : Building → Result Building ScriptFault → Building
building_of other (Ok now) = now
building_of other (Err kind) = other

-- so far without the end
before_end : (start b : Building) (read : List Row) → IsOrdered start b read → (b.last == 15) ≡ false →
    read ≡ together (parts b.script)
before_end start b read ordered other =
    ordered.all
    ∙ ap (λ (test : Bool). together (parts b.script) ++ (if test then rows.End ∷ [] else [])) other
    ∙ append-nil (together (parts b.script))

-- the sizes and the limits stay
record Keeps (b now : Building) : Type 0 where
  sizes_are : now.script.world.sizes ≡ b.script.world.sizes
  turns_are : now.script.turns ≡ b.script.turns
  quiet_is : now.script.quiet ≡ b.script.quiet
  waiting_is : now.script.waiting ≡ b.script.waiting

-- a row of the kind at a place
at_place : (place : ℕ) (start b now : Building) (row : Row) (read : List Row) → IsOrdered start b read →
    (b.last == 15) ≡ false → AreEmpty (suc place) (parts b.script) → HasPlace place (parts b.script) →
    Keeps b now → parts now.script ≡ with_more place row (parts b.script) →
    now.last - 1 ≡ suc place → end_rows now.last ≡ [] → IsOrdered start now (read ++ row ∷ [])
at_place place start b now row read ordered other empty has keeps are last no_end = record {
  sizes_are = keeps.sizes_are ∙ ordered.sizes_are;
  turns_are = keeps.turns_are ∙ ordered.turns_are;
  quiet_is = keeps.quiet_is ∙ ordered.quiet_is;
  waiting_is = keeps.waiting_is ∙ ordered.waiting_is;
  all = ap (λ (front : List Row). front ++ row ∷ []) (before_end start b read ordered other)
      ∙ together_more place row (parts b.script) has empty
      ∙ ap together (sym are)
      ∙ sym (append-nil (together (parts now.script)))
      ∙ ap (λ (rest : List Row). together (parts now.script) ++ rest) (sym no_end);
  behind = subst (λ (n : ℕ). AreEmpty n (parts now.script)) (sym last)
      (subst (AreEmpty (suc place)) (sym are) (more_empty place row (parts b.script) empty));
}

-- what is behind the kind of a row
behind_place : (place : ℕ) (start b : Building) (read : List Row) → IsOrdered start b read →
    b.last ≤ suc (suc place) → AreEmpty (suc place) (parts b.script)
behind_place place start b read ordered le =
    later_empty (b.last - 1) (suc place) (parts b.script) (omega (arith, le)) ordered.behind

one_more : (start b now : Building) (row : Row) (read : List Row) → IsOrdered start b read →
    IsAdded b row now → 1 < rank row → IsOrdered start now (read ++ row ∷ [])
unfolding added in_world
one_more start b now (rows.Head told) read ordered add above = absurd (omega (arith, above))
one_more start b now (rows.Sizes numbers) read ordered add above = absurd (omega (arith, above))
one_more start b now (rows.Limits turns quiet waiting) read ordered add above = absurd (omega (arith, above))
one_more start b now (rows.Class row) read ordered add above =
    subst (λ (made : Building). IsOrdered start made (read ++ rows.Class row ∷ [])) (ap (building_of now) add.is)
    (at_place 0 start b (in_world b (rows.Class row)) (rows.Class row) read ordered add.fair.may.open_
    (behind_place 0 start b read ordered add.fair.may.order) tt
    (record { sizes_are = refl; turns_are = refl; quiet_is = refl; waiting_is = refl })
    (rw (map-append rows.Class b.script.world.classes (row ∷ [])) refl) refl refl)
one_more start b now (rows.Method row) read ordered add above =
    subst (λ (made : Building). IsOrdered start made (read ++ rows.Method row ∷ [])) (ap (building_of now) add.is)
    (at_place 1 start b (in_world b (rows.Method row)) (rows.Method row) read ordered add.fair.may.open_
    (behind_place 1 start b read ordered add.fair.may.order) tt
    (record { sizes_are = refl; turns_are = refl; quiet_is = refl; waiting_is = refl })
    (rw (map-append rows.Method b.script.world.methods (row ∷ [])) refl) refl refl)
one_more start b now (rows.Variable row) read ordered add above =
    subst (λ (made : Building). IsOrdered start made (read ++ rows.Variable row ∷ [])) (ap (building_of now) add.is)
    (at_place 2 start b (in_world b (rows.Variable row)) (rows.Variable row) read ordered add.fair.may.open_
    (behind_place 2 start b read ordered add.fair.may.order) tt
    (record { sizes_are = refl; turns_are = refl; quiet_is = refl; waiting_is = refl })
    (rw (map-append rows.Variable b.script.world.variables (row ∷ [])) refl) refl refl)
one_more start b now (rows.Field row) read ordered add above =
    subst (λ (made : Building). IsOrdered start made (read ++ rows.Field row ∷ [])) (ap (building_of now) add.is)
    (at_place 3 start b (in_world b (rows.Field row)) (rows.Field row) read ordered add.fair.may.open_
    (behind_place 3 start b read ordered add.fair.may.order) tt
    (record { sizes_are = refl; turns_are = refl; quiet_is = refl; waiting_is = refl })
    (rw (map-append rows.Field b.script.world.fields (row ∷ [])) refl) refl refl)
one_more start b now (rows.Object row) read ordered add above =
    subst (λ (made : Building). IsOrdered start made (read ++ rows.Object row ∷ [])) (ap (building_of now) add.is)
    (at_place 4 start b (in_world b (rows.Object row)) (rows.Object row) read ordered add.fair.may.open_
    (behind_place 4 start b read ordered add.fair.may.order) tt
    (record { sizes_are = refl; turns_are = refl; quiet_is = refl; waiting_is = refl })
    (rw (map-append rows.Object b.script.world.objects (row ∷ [])) refl) refl refl)
one_more start b now (rows.Array row) read ordered add above =
    subst (λ (made : Building). IsOrdered start made (read ++ rows.Array row ∷ [])) (ap (building_of now) add.is)
    (at_place 5 start b (in_world b (rows.Array row)) (rows.Array row) read ordered add.fair.may.open_
    (behind_place 5 start b read ordered add.fair.may.order) tt
    (record { sizes_are = refl; turns_are = refl; quiet_is = refl; waiting_is = refl })
    (rw (map-append rows.Array b.script.world.arrays (row ∷ [])) refl) refl refl)
one_more start b now (rows.Text row) read ordered add above =
    subst (λ (made : Building). IsOrdered start made (read ++ rows.Text row ∷ [])) (ap (building_of now) add.is)
    (at_place 6 start b (in_world b (rows.Text row)) (rows.Text row) read ordered add.fair.may.open_
    (behind_place 6 start b read ordered add.fair.may.order) tt
    (record { sizes_are = refl; turns_are = refl; quiet_is = refl; waiting_is = refl })
    (rw (map-append rows.Text b.script.world.strings (row ∷ [])) refl) refl refl)
one_more start b now (rows.Put row) read ordered add above =
    subst (λ (made : Building). IsOrdered start made (read ++ rows.Put row ∷ [])) (ap (building_of now) add.is)
    (at_place 7 start b (in_world b (rows.Put row)) (rows.Put row) read ordered add.fair.may.open_
    (behind_place 7 start b read ordered add.fair.may.order) tt
    (record { sizes_are = refl; turns_are = refl; quiet_is = refl; waiting_is = refl })
    (rw (map-append rows.Put b.script.world.puts (row ∷ [])) refl) refl refl)
one_more start b now (rows.Thread row) read ordered add above =
    subst (λ (made : Building). IsOrdered start made (read ++ rows.Thread row ∷ [])) (ap (building_of now) add.is)
    (at_place 8 start b (in_world b (rows.Thread row)) (rows.Thread row) read ordered add.fair.may.open_
    (behind_place 8 start b read ordered add.fair.may.order) tt
    (record { sizes_are = refl; turns_are = refl; quiet_is = refl; waiting_is = refl })
    (rw (map-append rows.Thread b.script.world.threads (row ∷ [])) refl) refl refl)
one_more start b now (rows.Frame row) read ordered add above =
    subst (λ (made : Building). IsOrdered start made (read ++ rows.Frame row ∷ [])) (ap (building_of now) add.is)
    (at_place 9 start b (in_world b (rows.Frame row)) (rows.Frame row) read ordered add.fair.may.open_
    (behind_place 9 start b read ordered add.fair.may.order) tt
    (record { sizes_are = refl; turns_are = refl; quiet_is = refl; waiting_is = refl })
    (rw (map-append rows.Frame b.script.world.frames (row ∷ [])) refl) refl refl)
one_more start b now (rows.Begin row) read ordered add above =
    let next : Building = record b { last = 12; script = record b.script { begin = Some row } } in
    let none =
    later_empty (b.last - 1) 10 (parts b.script) (omega (arith, not_twelve b.last add.fair.may.order add.fair.may.once))
    ordered.behind in
    subst (λ (made : Building). IsOrdered start made (read ++ rows.Begin row ∷ [])) (ap (building_of now) add.is)
    (at_place 10 start b next (rows.Begin row) read ordered add.fair.may.open_
    (behind_place 10 start b read ordered add.fair.may.order) tt
    (record { sizes_are = refl; turns_are = refl; quiet_is = refl; waiting_is = refl })
    (rw (none.0) refl) refl refl)
  where
    not_twelve : (last : ℕ) → last ≤ 12 → is_twice last 12 ≡ false → last ≤ 11
    not_twelve last le once = grind arith
one_more start b now (rows.Move row) read ordered add above = move_more (made b.running row) add.is
  where
    move_more : (behind : Result World ScriptFault) → moved_on b row behind ≡ Ok now →
        IsOrdered start now (read ++ rows.Move row ∷ [])
    move_more (Ok world) e =
        let next : Building =
        record b { last = 13; script = record b.script { program = b.script.program ++ row ∷ [] }; running = world } in
        subst (λ (made : Building). IsOrdered start made (read ++ rows.Move row ∷ [])) (ap (building_of now) e)
        (at_place 11 start b next (rows.Move row) read ordered add.fair.may.open_
        (behind_place 11 start b read ordered add.fair.may.order) tt
        (record { sizes_are = refl; turns_are = refl; quiet_is = refl; waiting_is = refl })
        (rw (map-append rows.Move b.script.program (row ∷ [])) refl) refl refl)
    move_more (Err kind) e = absurd cc
one_more start b now (rows.Turn row) read ordered add above =
    let next : Building =
    record b { last = 14; script = record b.script { schedule = b.script.schedule ++ row ∷ [] } } in
    subst (λ (made : Building). IsOrdered start made (read ++ rows.Turn row ∷ [])) (ap (building_of now) add.is)
    (at_place 12 start b next (rows.Turn row) read ordered add.fair.may.open_
    (behind_place 12 start b read ordered add.fair.may.order) tt
    (record { sizes_are = refl; turns_are = refl; quiet_is = refl; waiting_is = refl })
    (rw (map-append rows.Turn b.script.schedule (row ∷ [])) refl) refl refl)
one_more start b now rows.End read ordered add above =
    let next : Building = record b { last = 15 } in
    subst (λ (made : Building). IsOrdered start made (read ++ rows.End ∷ [])) (ap (building_of now) add.is) (record {
      sizes_are = ordered.sizes_are;
      turns_are = ordered.turns_are;
      quiet_is = ordered.quiet_is;
      waiting_is = ordered.waiting_is;
      all = ap (λ (front : List Row). front ++ rows.End ∷ []) (before_end start b read ordered add.fair.may.open_);
      behind = tt;
    })

pub added_ordered : (start b now : Building) (row : Row) (read : List Row) → IsOrdered start b read →
    IsAdded b row now → 1 < rank row → IsOrdered start now (read ++ row ∷ [])
added_ordered start b now row read ordered add above = one_more start b now row read ordered add above

-- ---- a script whose classes stand one line further down

-- the same script, whose last row is of this kind
abbrev pub moved_down : ℕ → Building → Building
moved_down last b = record b { last = last; first_class = 4 }

abbrev pub down : Result Building ScriptFault → Result Building ScriptFault
down (Ok b) = Ok (moved_down b.last b)
down (Err kind) = Err kind

-- a row's kind is that of the last row then
abbrev LastIs : Row → Result Building ScriptFault → Type 0
LastIs row (Ok b) = b.last ≡ rank row
LastIs row (Err kind) = Unit {0}

move_last : (b : Building) (row : Move) (behind : Result World ScriptFault) → LastIs (rows.Move row) (moved_on b row behind)
move_last b row (Ok world) = refl
move_last b row (Err kind) = tt

added_last : (b : Building) (row : Row) → 1 < rank row → LastIs row (added b row)
unfolding added in_world
added_last b (rows.Head told) above = absurd (omega (arith, above))
added_last b (rows.Sizes sizes) above = absurd (omega (arith, above))
added_last b (rows.Limits turns quiet waiting) above = absurd (omega (arith, above))
added_last b (rows.Class row) above = refl
added_last b (rows.Method row) above = refl
added_last b (rows.Variable row) above = refl
added_last b (rows.Field row) above = refl
added_last b (rows.Object row) above = refl
added_last b (rows.Array row) above = refl
added_last b (rows.Text row) above = refl
added_last b (rows.Put row) above = refl
added_last b (rows.Thread row) above = refl
added_last b (rows.Frame row) above = refl
added_last b (rows.Begin begin) above = refl
added_last b (rows.Move row) above = move_last b row (made b.running row)
added_last b (rows.Turn turn) above = refl
added_last b rows.End above = refl

move_down : (last : ℕ) (b : Building) (row : Move) (behind : Result World ScriptFault) →
    moved_on (moved_down last b) row behind ≡ down (moved_on b row behind)
move_down last b row (Ok world) = refl
move_down last b row (Err kind) = refl

added_down : (last : ℕ) (b : Building) (row : Row) → 1 < rank row → added (moved_down last b) row ≡ down (added b row)
unfolding added in_world
added_down last b (rows.Head told) above = absurd (omega (arith, above))
added_down last b (rows.Sizes sizes) above = absurd (omega (arith, above))
added_down last b (rows.Limits turns quiet waiting) above = absurd (omega (arith, above))
added_down last b (rows.Class row) above = refl
added_down last b (rows.Method row) above = refl
added_down last b (rows.Variable row) above = refl
added_down last b (rows.Field row) above = refl
added_down last b (rows.Object row) above = refl
added_down last b (rows.Array row) above = refl
added_down last b (rows.Text row) above = refl
added_down last b (rows.Put row) above = refl
added_down last b (rows.Thread row) above = refl
added_down last b (rows.Frame row) above = refl
added_down last b (rows.Begin begin) above = refl
added_down last b (rows.Move row) above = move_down last b row (made b.running row)
added_down last b (rows.Turn turn) above = refl
added_down last b rows.End above = refl

pub last_is : (b now : Building) (row : Row) → added b row ≡ Ok now → 1 < rank row → now.last ≡ rank row
last_is b now row e above = subst (LastIs row) e (added_last b row above)

unfaulty : (last : ℕ) (b : Building) (row : Row) → HasNoFault b row → (last == 15) ≡ false →
    may_follow last (rank row) ≡ true → fault_of (moved_down last b) row ≡ None
unfolding fault_of
unfaulty last b row fair other follows = rw (fair.fits, other, follows, fair.ids) refl

-- where a row may stand, it makes the same of the script
pub grown_down : (last : ℕ) (b now : Building) (row : Row) → IsAdded b row now → 1 < rank row → (last == 15) ≡ false →
    may_follow last (rank row) ≡ true → grown (moved_down last b) row ≡ Ok (moved_down now.last now)
grown_down last b now row add above other follows =
    ap (unless_faulty (moved_down last b) row) (unfaulty last b row add.fair other follows)
    ∙ added_down last b row above
    ∙ ap down add.is
