use Rattle.std.proofs.Common.{◌≡◌, ◌++◌, drop, option_map}
use Rattle.serde_json.specs.View.{items_view}
use Rattle.dap_messages.specs.Arguments.{each_in}
use Rattle.dap_messages.specs.Breakpoints.{as_function}
use Rattle.dap_messages.proofs.breakpoints.functions_in.Given as goal

-- the functions of all items are those found so far, and those of the items that are left
abbrev pub invariant-loop-item : goal.invariant-loop-item
invariant-loop-item l = each_in as_function (items_view l.items)
    ≡ option_map (λ rest. l.functions ++ rest) (each_in as_function (items_view (drop l.item-index l.items)))
