-- The others are found still.
use Rattle.wish_sets.proofs.OwnerLaws.{put_kept}
use Rattle.wish_sets.proofs.owners.add.Goals as goal

pub returns-clause-kept : goal.returns-clause-kept
returns-clause-kept c =
    λ yes. put_kept c.args.places.now c.put.new.places c.args.slots.now c.args.at c.request_key-key.result
    (c.put.ensures yes) (c.is_taken.ensures c.if-is_taken.false)
