-- That a desk goes on: without a call, and over calls one behind the other.
use Rattle.std.proofs.Common.{◌≡◌, ℕ, ◌≤◌, inl, inr, List, [], ◌∷◌, ◌++◌, Option, Some, None, option_map}
use Rattle.std.proofs.Common.{refl, sym, ap, ◌∙◌, append_assoc, arith, le_refl, le_trans, subst}
use Rattle.std.proofs.lemmas.Bool.{cases_lt}
use Rattle.std.proofs.lemmas.List.{append-nil}
use Rattle.dump_client.specs.Conversing.{asked, heard}
use Rattle.dump_client.specs.declared.conversation.Conversation.{Conversation}
use Rattle.dump_wires.specs.Desks.{entries_in}
use Rattle.dump_wires.specs.Talking.{FailsBy, Follows, IsTold, Talks}
use Rattle.dump_wires.specs.declared.desk.Desk.{Desk}
use Rattle.wire_core.specs.Outside.{Adds, Counts, Outside, Rose}
use Rattle.wire_core.specs.declared.outside.Entry.{Entry}
use Rattle.wire_core.specs.declared.outside.Entry.TheVariants.{In, Out, Shut, Failed, Quiet}
use Rattle.wire_core.specs.declared.outside.Side.TheVariants.{Client, Target}

pub nothing_more : (o : Outside) → Adds o o []
nothing_more o = by o.log
  where
    by : (log : Option (List Entry)) → log ≡ option_map (λ before. before ++ []) log
    by None = refl
    by (Some log) = ap Some (sym (append-nil log))

two_more : (log : Option (List Entry)) (a b : List Entry) {mid new : Option (List Entry)}
    → mid ≡ option_map (λ before. before ++ a) log → new ≡ option_map (λ before. before ++ b) mid
    → new ≡ option_map (λ before. before ++ (a ++ b)) log
two_more None a b is are = are ∙ ap (option_map (λ before. before ++ b)) is
two_more (Some log) a b is are =
    are ∙ ap (option_map (λ before. before ++ b)) is ∙ ap Some (append_assoc log a b)

pub same_counts : (o : Outside) → Counts o o
same_counts o = record {
  client_faults = le_refl o.client.faults;
  target_faults = le_refl o.target.faults;
  client_empties = le_refl o.client.empties;
  target_empties = le_refl o.target.empties;
  open_faults = le_refl o.open_faults;
}

counts_on : (o p q : Outside) → Counts o p → Counts p q → Counts o q
counts_on o p q a b = record {
  client_faults = le_trans a.client_faults b.client_faults;
  target_faults = le_trans a.target_faults b.target_faults;
  client_empties = le_trans a.client_empties b.client_empties;
  target_empties = le_trans a.target_empties b.target_empties;
  open_faults = le_trans a.open_faults b.open_faults;
}

-- the entries of two parts, one behind the other
pub talks_on : (c c' c'' : Conversation) (a b : List Entry) → Talks c a c' → Talks c' b c'' → Talks c (a ++ b) c''
talks_on c c' c'' [] b is more = subst (λ (d : Conversation). Talks d b c'') is more
talks_on c c' c'' (In Client frame ∷ a) b is more = (is.0, talks_on (asked c) c' c'' a b is.1 more)
talks_on c c' c'' (In Target bytes ∷ a) b is more = talks_on c c' c'' a b is more
talks_on c c' c'' (Out Client frame ∷ a) b is more = talks_on (heard frame c) c' c'' a b is more
talks_on c c' c'' (Out Target bytes ∷ a) b is more = talks_on c c' c'' a b is more
talks_on c c' c'' (Shut Client ∷ a) b is more = absurd is
talks_on c c' c'' (Shut Target ∷ a) b is more = talks_on c c' c'' a b is more
talks_on c c' c'' (Failed Client ∷ a) b is more = absurd is
talks_on c c' c'' (Failed Target ∷ a) b is more = talks_on c c' c'' a b is more
talks_on c c' c'' (Quiet ∷ a) b is more = talks_on c c' c'' a b is more

told_on : {told kept told' kept' : List Entry} → IsTold told kept → IsTold told' kept'
    → IsTold (told ++ told') (kept ++ kept')
told_on IsTold.none more = more
told_on (IsTold.same entry is) more = IsTold.same entry (told_on is more)
told_on (IsTold.broken part is) more = IsTold.broken part (told_on is more)
told_on (IsTold.asks frame is) more = IsTold.asks frame (told_on is more)
told_on (IsTold.takes frame is) more = IsTold.takes frame (told_on is more)
told_on (IsTold.waits is) more = IsTold.waits (told_on is more)

rose_then : (a b c : ℕ) → a ≤ b → Rose a b → b ≤ c → Rose a c
rose_then a b c le (inl less) more = inl (omega (arith, le, less, more))
rose_then a b c le (inr last) more =
    elim (cases_lt b c) [ inl less ↦ inl (omega (arith, le, less)) | inr most ↦ inr (omega (arith, last, more, most)) ]

rose_behind : (a b c : ℕ) → a ≤ b → Rose b c → Rose a c
rose_behind a b c le (inl less) = inl (omega (arith, le, less))
rose_behind a b c le (inr last) = inr last

fails_on : (o p q : Outside) (d e f : Desk) → Counts o p → Counts p q → FailsBy o d p e → FailsBy p e q f
    → FailsBy o d q f
fails_on o p q d e f first second (inl same) (inl same') = inl (same' ∙ same)
fails_on o p q d e f first second (inl same) (inr rose) =
    inr (rose_behind o.target.faults p.target.faults q.target.faults first.target_faults rose)
fails_on o p q d e f first second (inr rose) is =
    inr (rose_then o.target.faults p.target.faults q.target.faults first.target_faults rose second.target_faults)

pub follows_so : (o : Outside) (d : Desk) → Follows o d o d
follows_so o d = record {
  before = λ is. is;
  added = [];
  log = sym (append-nil (entries_in d));
  talks = λ is. refl;
  told = [];
  inside = nothing_more o;
  is_told = λ is. IsTold.none;
  fails_by = λ is. inl refl;
  counts = same_counts o;
  asked = refl;
}

pub follows_on : (o p q : Outside) (d e f : Desk) → Follows o d p e → Follows p e q f → Follows o d q f
follows_on o p q d e f g h = record {
  before = λ is. g.before (h.before is);
  added = g.added ++ h.added;
  log = h.log ∙ ap (λ (log : List Entry). log ++ h.added) g.log ∙ append_assoc (entries_in d) g.added h.added;
  talks = λ is. talks_on d.talk e.talk f.talk g.added h.added (g.talks (h.before is)) (h.talks is);
  told = g.told ++ h.told;
  inside = two_more o.log g.told h.told g.inside h.inside;
  is_told = λ is. told_on (g.is_told (h.before is)) (h.is_told is);
  fails_by = λ is. fails_on o p q d e f g.counts h.counts (g.fails_by (h.before is)) (h.fails_by is);
  counts = counts_on o p q g.counts h.counts;
  asked = h.asked ∙ g.asked;
}
