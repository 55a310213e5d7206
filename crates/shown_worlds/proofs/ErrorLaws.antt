-- With which errors the look-ups of children, values, writes and exceptions fail.
use Rattle.std.proofs.Common.{◌≡◌, ℕ, zero, suc, false, subst}
use Rattle.std.specs.Prelude.{codes, if◌then◌else◌}
use Rattle.jdwp_commands.specs.declared.asked.Replied.TheVariants.{Error as an_error}
use Rattle.machine_model.specs.Exceptions.{exception_plan, mode_of, text_plan}
use Rattle.machine_model.specs.Lookups.{plan}
use Rattle.machine_model.specs.Plans.{Fault, Plan, Sight, gives, made_with}
use Rattle.machine_model.specs.PlanLaws.{HasMet, IsOf}
use Rattle.machine_model.specs.Values.{by_id, type_plan}
use Rattle.machine_model.specs.Writing.{object_size}
use Rattle.machine_model.specs.declared.parts.Finding.TheVariants as found
use Rattle.machine_model.specs.declared.parts.Lookup.TheVariants as look_ups
use Rattle.machine_model.specs.declared.parts.Thrown.{Thrown}
use Rattle.shown_worlds.specs.Failures.{FailsByRows, IsSaidBy}
use Rattle.shown_worlds.specs.ThreadRows.{world_thrown_text}
use Rattle.shown_worlds.proofs.ChildErrors.{children_errs, never}
use Rattle.shown_worlds.proofs.ExpressionErrors.{value_errs}
use Rattle.shown_worlds.proofs.PlanErrors.{Errs, errs_made, met_there}
use Rattle.shown_worlds.proofs.ThreadLaws.{text_there}
use Rattle.shown_worlds.proofs.ValueErrors.{class_errs, type_class}
use Rattle.shown_worlds.proofs.WriteErrors.{write_errs}
use Rattle.value_views.specs.Names.{class_name}
use Rattle.world_model.specs.Codes.{invalid_object, vm_dead}
use Rattle.world_model.specs.Replies.{living_reply, reply_of}
use Rattle.world_model.specs.declared.world.World.{World}

-- in a world that lives
met_in : {A : Type 0} (w : World) (sight : Sight) (fault : Fault) (p : Plan A) → w.dead ≡ false → IsSaidBy w sight
    → IsOf (reply_of w) sight → HasMet sight p fault → Errs (living_reply w) fault.code p
met_in w sight fault p alive said of met =
    subst (λ dead. Errs (λ q. if dead then an_error vm_dead else living_reply w q) fault.code p) alive
    (met_there (reply_of w) sight fault p of said met)

name_errs : (w : World) (code n : ℕ)
    → Errs (living_reply w) code (by_id n (gives (codes "null")) (λ id. made_with class_name (type_plan id)))
    → code ≡ invalid_object
name_errs w code zero h = absurd h
name_errs w code (suc n) h =
    class_errs w (suc n) code (type_class w (suc n) code
    (errs_made (living_reply w) code class_name (type_plan (suc n)) h))

info_errs : (w : World) (code : ℕ) (thrown : Thrown) → Errs (living_reply w) code (exception_plan thrown)
    → code ≡ invalid_object
info_errs w code thrown h =
    name_errs w code thrown.object.0 (errs_made (living_reply w) code
    (λ id. found.Exception id (mode_of thrown.caught))
    (by_id thrown.object.0 (gives (codes "null")) (λ id. made_with class_name (type_plan id))) h)

pub fails_by_rows : FailsByRows
fails_by_rows w state sight fault live said of = record {
  children = λ thing filter start count met. children_errs w state.options.shows_types thing filter start count
      fault.code live
      (met_in w sight fault (plan (look_ups.Variables thing filter start count) state) live.alive said of met);
  value = λ frame expression met. value_errs w state.options.shows_types frame expression fault.code live
      (met_in w sight fault (plan (look_ups.Value frame expression) state) live.alive said of met);
  write = λ thing name text met. write_errs w
      (record { types = state.options.shows_types; size = object_size state.sizes; text = text }) thing name fault.code
      live (met_in w sight fault (plan (look_ups.Write thing name text) state) live.alive said of met);
  info = λ thrown met. info_errs w fault.code thrown
      (met_in w sight fault (plan (look_ups.Exception thrown) state) live.alive said of met);
  text = λ thread object met. never w fault.code (text_plan object.0) (world_thrown_text w object)
      (text_there w object.0) (met_in w sight fault (text_plan object.0) live.alive said of met);
}
