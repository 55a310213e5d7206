-- What look-ups come to, as the code has it.
use Rattle.class_tables.specs.Lookups.{found_in}
use Rattle.machine_model.specs.Plans as plans
use Rattle.look_ups.specs.declared.need.Need.{Need}
use Rattle.look_ups.specs.declared.need.Need.TheVariants.{Has, Fails, Lacks}
use Rattle.look_ups.specs.declared.sight.Sight.{Sight}

-- what an item sees
abbrev pub seen_by : Sight → plans.Sight
seen_by sight = record { classes = found_in sight.classes.now; asked = sight.asked.now }

-- what a look-up comes to, with its value seen so
abbrev pub need_with : {A B : Type 0} → (A → B) → Need A → plans.Need B
need_with read (Has a) = plans.has (read a)
need_with read (Fails place code) = plans.fails (record { place = place; code = code })
need_with read (Lacks first others) = plans.lacks first others.items

abbrev pub need_of : {A : Type 0} → Need A → plans.Need A
need_of found = need_with (λ a. a) found
