-- Rows that no target tells.
use Rattle.std.proofs.Common.{◌≡◌, ◌∙◌, ℕ, Bool, true, false, Option, Some, None, refl, sym, ap, nat_lt, nat_eq}
use Rattle.std.specs.Prelude.{not, ◌&&◌}
use Rattle.jdwp_events.specs.declared.kind.Policy.TheVariants as policies
use Rattle.jdwp_values.specs.declared.id.ThreadId.{ThreadId}
use Rattle.script_rows.specs.declared.rows.Row.{Row}
use Rattle.script_rows.specs.declared.rows.Row.TheVariants as rows
use Rattle.script_text.specs.declared.log.ScriptFault.{ScriptFault}
use Rattle.script_text.specs.declared.log.ScriptFault.TheVariants as faults
use Rattle.script_worlds.specs.Shapes.{class_fits, thread_fits}
use Rattle.target_scripts.specs.declared.building.Building.{Building}
use Rattle.target_scripts.specs.Judging.{rank, may_follow, row_fits, unless, id_fault, fault_of}
use Rattle.world_model.specs.declared.rows.WorldClass.{WorldClass}
use Rattle.world_model.specs.declared.world.World.{World}
use Rattle.world_model.specs.Happenings.{fits}

never : (b : Bool) → (b && false) ≡ false
never true = refl
never false = refl

always : (b : Bool) → (b && true) ≡ b
always true = refl
always false = refl

-- a row that has no shape has that fault first
shapeless : (b : Building) (row : Row) → row_fits b.script.world row ≡ false → fault_of b row ≡ Some faults.BadShape
unfolding fault_of
shapeless b row h = rw h refl

null_is_none : (w : World) (row : WorldClass) → row.id.0 ≡ 0 → row_fits w (rows.Class row) ≡ false
unfolding row_fits
null_is_none w row null =
    ap (λ id. nat_lt 0 id && (fits w.sizes.class row.id.0 && fits w.sizes.class row.above.0)) null

pub null_faulty : (b : Building) (row : WorldClass) → row.id.0 ≡ 0
    → fault_of b (rows.Class row) ≡ Some faults.BadShape
null_faulty b row null = shapeless b (rows.Class row) (null_is_none b.script.world row null)

one_is_none : (w : World) (thread : ThreadId)
    → row_fits w (rows.Begin (record { thread = thread; policy = policies.EventThread })) ≡ false
unfolding row_fits
one_is_none w thread = never (thread_fits w.sizes thread)

pub one_faulty : (b : Building) (thread : ThreadId)
    → fault_of b (rows.Begin (record { thread = thread; policy = policies.EventThread })) ≡ Some faults.BadShape
one_faulty b thread = shapeless b _ (one_is_none b.script.world thread)

pub none_fits : (w : World) (thread : ThreadId)
    → row_fits w (rows.Begin (record { thread = thread; policy = policies.NoThread })) ≡ thread_fits w.sizes thread
unfolding row_fits
none_fits w thread = always (thread_fits w.sizes thread)

pub all_fits : (w : World) (thread : ThreadId)
    → row_fits w (rows.Begin (record { thread = thread; policy = policies.All })) ≡ thread_fits w.sizes thread
unfolding row_fits
all_fits w thread = always (thread_fits w.sizes thread)
