use Rattle.std.proofs.Common.{◌≡◌, ◌+◌, ◌-◌, ◌++◌, map}
use Rattle.std.specs.List.{range_with_len}
use Rattle.machine_model.specs.Children.{of_index}
use Rattle.child_pages.proofs.paired.elements_of.Given as goal

abbrev pub invariant-loop-place : goal.invariant-loop-place
invariant-loop-place l = l.children.items ++ map (of_index l.array) (range_with_len (l.start + l.place) (l.count - l.place)) ≡ map (of_index l.array) (range_with_len l.start l.count)
