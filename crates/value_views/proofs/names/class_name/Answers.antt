use Rattle.std.proofs.Common.{string_bytes}
use Rattle.value_views.proofs.NamePairs.{pair_written}
use Rattle.value_views.proofs.names.class_name.Goals as goal

pub loop-dimension-preserved : goal.loop-dimension-preserved
loop-dimension-preserved c =
    pair_written (string_bytes c.in_ok-text.text) (string_bytes c.loop-dimension.text)
    (string_bytes c.push_str.new.self) c.loop-dimension._dimension
    c.loop-dimension.invariant c.in_ok-push_str.ensures.bytes
