-- The verdict on a log that isn't legal: the clause that it breaks, and where.
use Rattle.std.specs.Prelude.{ℕ, ◌≡◌, ◌≤◌, ◌∷◌, ◌++◌, List, [], length, Option}
use Rattle.legal_logs.specs.Clauses.{Blames, Clause, ending, number_of}
use Rattle.legal_logs.specs.Fronts.{IsFront, IsLegal}
use Rattle.session_model.specs.Names.{Entry, Limits}

-- No reading goes through this entry, and one goes through all before it; of what may be said against the readings that
-- stand there this is the first clause.
pub record BreaksAt (limits : Limits) (before : List Entry) (entry : Entry) (clause : Clause) : Type 0 where
  pub front : IsFront limits before
  pub none : ¬ (IsFront limits (before ++ entry ∷ []))
  pub blames : Blames limits before entry clause
  pub first : (other : Clause) → Blames limits before entry other → number_of clause ≤ number_of other

-- The log breaks this clause at this place, its entries numbered from 0, each wait in vain by itself: at the first
-- entry that no reading goes through; or at its end, where its status is not that of its ending, or last words are
-- missing.
pub data IsBroken (limits : Limits) (log : List Entry) (status : Option ℕ) : Clause → ℕ → Type 0 where
  at_entry : {before : List Entry} {entry : Entry} {clause : Clause} (after : List Entry)
      → log ≡ before ++ entry ∷ after → BreaksAt limits before entry clause
      → IsBroken limits log status clause (length before)
  at_end : IsFront limits log → ¬ (IsLegal limits log status) → IsBroken limits log status ending (length log)
