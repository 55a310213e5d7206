-- Lines and places at their edges, by computation.
use Rattle.std.proofs.Common.{◌≡◌, ◌+◌, ◌-◌, ◌^◌, Some, None, Ok, Err, refl}
use Rattle.script_text.specs.declared.log.ScriptFault.TheVariants.{BadShape, BadVersion, BadOrder, AfterEnd}
use Rattle.script_text.specs.declared.rows.Row.TheVariants.{Head, Limits, Quiet, Quiets, End}
use Rattle.script_text.specs.declared.rows.Version.TheVariants.{First, Second}
use Rattle.script_text.specs.declared.order.Place.TheVariants.{Headed, Inside, Over}
use Rattle.script_text.specs.declared.order.Stage.TheVariants.{Start, Behind}
use Rattle.script_text.specs.Order.{next_stage, none_closed, waits_in}
use Rattle.script_text.specs.Rows.{row_of}
use Rattle.script_text.specs.Texts.{head_data, limits_data, quiets_data}

-- ---- lines

known : row_of (head_data 2) ≡ Some (Head (Some Second))
known = refl

unknown : row_of (head_data 3) ≡ Some (Head None)
unknown = refl

highest_limits : row_of (limits_data (2 ^ 40) (2 ^ 63 - 1) (2 ^ 32 - 1))
    ≡ Some (Limits (2 ^ 40) (2 ^ 63 - 1) (2 ^ 32 - 1))
highest_limits = refl

too_many_turns : row_of (limits_data (2 ^ 40 + 1) 1 1) ≡ None
too_many_turns = refl

too_many_waits : row_of (limits_data 1 (2 ^ 63) 1) ≡ None
too_many_waits = refl

too_many_items : row_of (limits_data 1 1 (2 ^ 32)) ≡ None
too_many_items = refl

no_items_wait : row_of (limits_data 1 1 0) ≡ None
no_items_wait = refl

most : row_of (quiets_data (2 ^ 62)) ≡ Some (Quiets (2 ^ 62))
most = refl

more : row_of (quiets_data (2 ^ 62 + 1)) ≡ None
more = refl

none : row_of (quiets_data 0) ≡ None
none = refl

-- ---- places

of_no_version : next_stage Start (Head None) ≡ Err BadVersion
of_no_version = refl

without_limits : next_stage (Behind Second (2 ^ 62) Headed) End ≡ Err BadOrder
without_limits = refl

the_last_waits : next_stage (Behind Second 5 (Inside none_closed 5)) (Quiets 5)
    ≡ Ok (Behind Second 0 (Inside none_closed 5))
the_last_waits = refl

a_wait_too_many : next_stage (Behind Second 5 (Inside none_closed 5)) (Quiets 6) ≡ Err BadShape
a_wait_too_many = refl

side_by_side : next_stage (Behind Second 5 (Inside none_closed 6)) (Quiets 1) ≡ Err BadOrder
side_by_side = refl

-- one wait stood there, and another joins it
joined : waits_in (Behind First 4 (Inside none_closed 6)) ≡ 2
joined = refl

counted_in_version_1 : next_stage (Behind First 5 (Inside none_closed 5)) (Quiets 1) ≡ Err BadShape
counted_in_version_1 = refl

alone_in_version_2 : next_stage (Behind Second 5 Over) Quiet ≡ Err BadShape
alone_in_version_2 = refl

behind_the_end : next_stage (Behind Second 5 Over) (Quiets 5) ≡ Err AfterEnd
behind_the_end = refl
