use Rattle.std.proofs.Common.{◌∙◌, refl, sym}
use Rattle.bridge_serve.proofs.Coming.{piece_comes, packets_come, end_comes, quiet_comes, piece_forgets, packets_forget}
use Rattle.bridge_serve.proofs.Coming.{client_leaves, client_is_lost, target_is_lost, packets_grow, kept_piece}
use Rattle.bridge_serve.proofs.Coming.{kept_packets, kept_end, kept_quiet, hears_as}
use Rattle.bridge_serve.proofs.hearing.hear.Goals.{in-Ok, in-Err, in-Ok-feed, in-Err-feed}
use Rattle.bridge_serve.proofs.hearing.hear.Goals as goal

pub returns-after-feed-clause-ok : goal.returns-after-feed-clause-ok
returns-after-feed-clause-ok g c =
    let arm = c.in-Bytes-Client-default in
    let hears = rw arm.field-0-is at arm.ensures.hears in
    elim c.match-feed.branch [
      | in-Ok w ↦ rw w.result-is (λ limits core may.
          let kept = kept_piece c.args.inputs.now c.inputs.view_is _ w.in-Ok.ensures.ok refl in
          hears_as kept (piece_comes limits _ _ _ _ core c.args.inputs.now may hears))
      | in-Err w ↦ rw w.result-is tt
    ]

pub returns-after-feed-clause-err : goal.returns-after-feed-clause-err
returns-after-feed-clause-err g c =
    let arm = c.in-Bytes-Client-default in
    let hears = rw arm.field-0-is at arm.ensures.hears in
    elim c.match-feed.branch [
      | in-Ok w ↦ rw w.result-is tt
      | in-Err w ↦ rw w.result-is (λ limits core may. piece_forgets limits _ _ _ _ core c.args.inputs.now may hears)
    ]

pub returns-after-feed-2-clause-ok : goal.returns-after-feed-2-clause-ok
returns-after-feed-2-clause-ok g c =
    let arm = c.in-Bytes-Target-default in
    let hears = rw arm.field-0-is at arm.ensures.hears in
    elim c.match-feed-2.branch [
      | in-Ok-feed w ↦ rw w.result-is (λ limits core may.
          let kept = kept_packets c.args.inputs.now c.inputs.view_is _ w.in-Ok-feed.ensures.ok refl in
          hears_as kept (packets_come limits _ _ _ _ core c.args.inputs.now may hears))
      | in-Err-feed w ↦ rw w.result-is tt
    ]

pub returns-after-feed-2-clause-target_grows : goal.returns-after-feed-2-clause-target_grows
returns-after-feed-2-clause-target_grows g c =
    let arm = c.in-Bytes-Target-default in
    let hears = rw arm.field-0-is at arm.ensures.hears in
    elim c.match-feed-2.branch [
      | in-Ok-feed w ↦
          rw w.result-is
          (rw (w.in-Ok-feed.ensures.ok, sym c.inputs.view_is)
          (packets_grow c.inputs.inside.packets c.next.new.buffer arm.count hears.happens.1
          (c.next.auto.buffer ∙ c.requires.room)))
      | in-Err-feed w ↦ rw w.result-is tt
    ]

pub returns-after-feed-2-clause-err : goal.returns-after-feed-2-clause-err
returns-after-feed-2-clause-err g c =
    let arm = c.in-Bytes-Target-default in
    let hears = rw arm.field-0-is at arm.ensures.hears in
    elim c.match-feed-2.branch [
      | in-Ok-feed w ↦ rw w.result-is tt
      | in-Err-feed w ↦
          rw w.result-is (λ limits core may. packets_forget limits _ _ _ _ core c.args.inputs.now may hears)
    ]

pub returns-in-Shut-Client-clause-err : goal.returns-in-Shut-Client-clause-err
returns-in-Shut-Client-clause-err g c limits core may =
    let arm = c.in-Shut-Client in
    client_leaves limits _ _ _ core c.args.inputs.now may (rw arm.field-0-is at arm.ensures.hears)

pub returns-in-Shut-Target-clause-ok : goal.returns-in-Shut-Target-clause-ok
returns-in-Shut-Target-clause-ok g c limits core may =
    let arm = c.in-Shut-Target in
    let hears = rw arm.field-0-is at arm.ensures.hears in
    let kept = kept_end c.args.inputs.now c.inputs.view_is refl in
    hears_as kept (end_comes limits _ _ _ core c.args.inputs.now may hears)

pub returns-in-Failed-Client-clause-err : goal.returns-in-Failed-Client-clause-err
returns-in-Failed-Client-clause-err g c limits core may =
    let arm = c.in-Failed-Client in
    client_is_lost limits _ _ _ core c.args.inputs.now may (rw arm.field-0-is at arm.ensures.hears)

pub returns-in-Failed-Target-clause-err : goal.returns-in-Failed-Target-clause-err
returns-in-Failed-Target-clause-err g c limits core may =
    let arm = c.in-Failed-Target in
    target_is_lost limits _ _ _ core c.args.inputs.now may (rw arm.field-0-is at arm.ensures.hears)

pub returns-in-Quiet-clause-ok : goal.returns-in-Quiet-clause-ok
returns-in-Quiet-clause-ok g c limits core may =
    let kept = kept_quiet c.args.inputs.now c.inputs.view_is refl in
    hears_as kept (quiet_comes limits _ _ _ core c.args.inputs.now may c.in-Quiet.ensures.hears)
