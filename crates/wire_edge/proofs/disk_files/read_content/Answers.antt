use Rattle.std.proofs.Common.{◌≡◌, ℕ, ◌+◌, ◌≤◌, List, [], ◌++◌, length, take, take_all, min, Option, None, Some, IfSome, ap, subst, ◌∙◌, arith, length-take}
use Rattle.std.specs.Prelude.{option_map}
use Rattle.wire_edge.proofs.disk_files.read_content.Goals as goal

-- a front of one byte more than the limit that isn't longer than the limit is all
all_read : (known : Option (List ℕ)) (items before : List ℕ) (front limit : ℕ) → before ≡ [] → front ≡ limit + 1
    → length items ≤ limit → IfSome (option_map (take front) known) (λ read. items ≡ before ++ read)
    → IfSome known (λ all. items ≡ all)
all_read None items before front limit new next short read = tt
all_read (Some all) items before front limit new next short read =
    let is_front : items ≡ take front all = read ∙ ap (λ l. l ++ take front all) new in
    let front_len : length items ≡ min front (length all) = ap length is_front ∙ length-take front all in
    is_front ∙ take_all front all (omega (arith, front_len, next, short))

pub returns-else-len-limit : goal.returns-else-len-limit
returns-else-len-limit g c =
    let bytes = c.read_to_end.new.buf.items in (
      omega arith,
      λ small. subst (λ file. IfSome (g.F.Read.remaining file) (λ all. bytes ≡ all)) c.take.ensures.inner
          (all_read _ bytes _ c.take.result.limit c.args.limit c.new-bytes.ensures.items (omega (arith, small)) (omega arith)
          c.in_ok-read_to_end.ensures.bytes),
    )
