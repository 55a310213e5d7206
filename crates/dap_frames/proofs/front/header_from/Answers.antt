-- what was read lies within the first 4,096 bytes, and the rest of them says the rest
use Rattle.std.proofs.Common.{rules, ◌≤◌, ◌-◌, ap, ◌∙◌, ℕ, length, take, drop, arith}
use Rattle.dap_frames.specs.declared.header.Head.TheVariants.{Reads}
use Rattle.dap_frames.specs.Reading.{onward}
use Rattle.dap_frames.specs.Frames.{bounded_by}
use Rattle.dap_frames.proofs.Fronts.{header_more}
use Rattle.dap_frames.proofs.front.header_from.Goals as goal

pub slice_bounds-read_on-count : goal.slice_bounds-read_on-count
slice_bounds-read_on-count c =
    omega (arith, (header_more c.args.reading c.args.read c.args.pending.now c.requires.read).0)

pub slice_bounds-read_on-start : goal.slice_bounds-read_on-start
slice_bounds-read_on-start c =
    let inside : c.args.read ≤ c.min-end.result =
    omega (arith, (header_more c.args.reading c.args.read c.args.pending.now c.requires.read).0) in
    let end : c.min-end.result ≤ length c.args.pending.now = omega arith in
    search rules

pub returns : goal.returns
returns c =
    c.bounded.ensures ∙ ap (bounded_by (length c.args.pending.now)) c.read_on.ensures
    ∙ ap (λ (e : ℕ). bounded_by (length c.args.pending.now)
    (onward c.args.read (Reads c.args.reading) (take (e - c.args.read) (drop c.args.read c.args.pending.now))))
    c.min-end.ensures
    ∙ (header_more c.args.reading c.args.read c.args.pending.now c.requires.read).1
