-- That a book stays tied: without a call, and over calls one behind the other.
use Rattle.std.proofs.Common.{◌≡◌, ℕ, ◌≤◌, List, [], ◌++◌, Option, Some, None, option_map, refl, sym, ap, ◌∙◌, append_assoc, subst, le_refl, le_trans}
use Rattle.std.proofs.lemmas.List.{append-nil}
use Rattle.wire_core.specs.Outside.{Adds, Counts, Outside}
use Rattle.wire_core.specs.declared.outside.Entry.{Entry}
use Rattle.session_recorder.specs.Books.{entries_in}
use Rattle.session_recorder.specs.Recording.{Follows, IsKept, IsTied, agrees}
use Rattle.session_recorder.specs.declared.book.Book.{Book}

pub nothing_more : (o : Outside) → Adds o o []
nothing_more o = by o.log
  where
    by : (log : Option (List Entry)) → log ≡ option_map (λ before. before ++ []) log
    by None = refl
    by (Some log) = ap Some (sym (append-nil log))

two_more : (log : Option (List Entry)) (a b : List Entry) {mid new : Option (List Entry)}
    → mid ≡ option_map (λ before. before ++ a) log → new ≡ option_map (λ before. before ++ b) mid
    → new ≡ option_map (λ before. before ++ (a ++ b)) log
two_more None a b is are = are ∙ ap (option_map (λ before. before ++ b)) is
two_more (Some log) a b is are =
    are ∙ ap (option_map (λ before. before ++ b)) is ∙ ap Some (append_assoc log a b)

pub kept_on : {told kept told' kept' : List Entry} → IsKept told kept → IsKept told' kept'
    → IsKept (told ++ told') (kept ++ kept')
kept_on IsKept.none more = more
kept_on (IsKept.same entry is) more = IsKept.same entry (kept_on is more)
kept_on (IsKept.broken side part is) more = IsKept.broken side part (kept_on is more)

pub same_counts : (o : Outside) → Counts o o
same_counts o = record {
  client_faults = le_refl o.client.faults;
  target_faults = le_refl o.target.faults;
  client_empties = le_refl o.client.empties;
  target_empties = le_refl o.target.empties;
  open_faults = le_refl o.open_faults;
}

counts_on : (o p q : Outside) → Counts o p → Counts p q → Counts o q
counts_on o p q a b = record {
  client_faults = le_trans a.client_faults b.client_faults;
  target_faults = le_trans a.target_faults b.target_faults;
  client_empties = le_trans a.client_empties b.client_empties;
  target_empties = le_trans a.target_empties b.target_empties;
  open_faults = le_trans a.open_faults b.open_faults;
}

follows_on : (o p q : Outside) (b c d : Book) → Follows o b p c → Follows p c q d → Follows o b q d
follows_on o p q b c d (Follows.goes_on same right) (Follows.goes_on same' right') =
    Follows.goes_on (same' ∙ same) (λ is. right' (right is))
follows_on o p q b c d (Follows.goes_on same right) (Follows.asks none some_) = Follows.asks (sym same ∙ none) some_
follows_on o p q b c d (Follows.asks none some_) (Follows.goes_on same right) =
    Follows.asks none (λ is. some_ (sym same ∙ is))
follows_on o p q b c d (Follows.asks none some_) (Follows.asks none' some') = absurd (some_ none')

pub tied_so : (o : Outside) (b : Book) → IsTied o b o b
tied_so o b = record {
  before = λ is. is;
  counts = same_counts o;
  follows = Follows.goes_on refl (λ is. is);
  added = [];
  kept = [];
  inside = nothing_more o;
  own = λ is. sym (append-nil (entries_in b));
  is_kept = λ is. IsKept.none;
}

pub tied_on : (o p q : Outside) (b c d : Book) → IsTied o b p c → IsTied p c q d → IsTied o b q d
tied_on o p q b c d g h = record {
  before = λ is. g.before (h.before is);
  counts = counts_on o p q g.counts h.counts;
  follows = follows_on o p q b c d g.follows h.follows;
  added = g.added ++ h.added;
  kept = g.kept ++ h.kept;
  inside = two_more o.log g.added h.added g.inside h.inside;
  own = λ is. h.own is ∙ ap (λ (log : List Entry). log ++ h.kept) (g.own (h.before is))
      ∙ append_assoc (entries_in b) g.kept h.kept;
  is_kept = λ is. kept_on (g.is_kept (h.before is)) (h.is_kept is);
}

-- the same, where what is told and kept goes by other names
pub tied_same : {o p o' p' : Outside} {b c b' c' : Book} → IsTied o b p c → o' ≡ o → b' ≡ b → p' ≡ p → c' ≡ c
    → IsTied o' b' p' c'
tied_same {o} {p} {o'} {p'} {b} {c} {b'} {c'} is first second third fourth =
    subst (λ (d : Book). IsTied o' b' p' d) (sym fourth)
    (subst (λ (d : Outside). IsTied o' b' d c) (sym third)
    (subst (λ (d : Book). IsTied o' d p c) (sym second) (subst (λ (d : Outside). IsTied d b p c) (sym first) is)))
