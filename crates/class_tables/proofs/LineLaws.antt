-- The entry of a code index and the start of a line, said of all entries.
use Rattle.std.proofs.Common.{◌≡◌, ℕ, ◌<◌, ◌≤◌, min, ℤ, Bool, true, false, cond, List, [], ◌∷◌, ◌++◌, map, filter}
use Rattle.std.proofs.Common.{Option, None, Some}
use Rattle.std.proofs.Common.{refl, sym, ap, subst, ◌∙◌, arith}
use Rattle.std.specs.Prelude.{nat_lt, nat_le}
use Rattle.std.specs.Ordering.{int_eq}
use Rattle.std.specs.List.{AllByRecursion}
use Rattle.std.proofs.lemmas.Bool.{cond-true, cond-false, leb-true, leb-false, le-leb, ltb-true, ltb-false}
use Rattle.std.proofs.lemmas.Bool.Decides.{Decides-int_eq}
use Rattle.jdwp_values.specs.declared.class.Line.{Line}
use Rattle.class_tables.specs.Lines.{entry_at, greatest, later, line_start, least, lesser, IsEntryAt, IsLineStart}

-- what holds of all holds of one
held : (P : Line → Type 0) (front back : List Line) (entry : Line) → AllByRecursion P (front ++ entry ∷ back) → P entry
held P [] back entry all = all.0
held P (other ∷ front) back entry all = held P front back entry all.1

joined : (P : Line → Type 0) (front back : List Line) (entry : Line) → AllByRecursion P front → P entry
    → AllByRecursion P back → AllByRecursion P (front ++ entry ∷ back)
joined P [] back entry before here behind = (here, behind)
joined P (other ∷ front) back entry before here behind = (before.0, joined P front back entry before.1 here behind)

mapped : (P Q : Line → Type 0) (entries : List Line) → ((entry : Line) → P entry → Q entry) → AllByRecursion P entries
    → AllByRecursion Q entries
mapped P Q [] gives all = tt
mapped P Q (entry ∷ entries) gives all = (gives entry all.0, mapped P Q entries gives all.1)

-- an entry above the index is passed over
pub passed : (index : ℕ) (entry : Line) (entries : List Line) → nat_le entry.index index ≡ false
    → entry_at index (entry ∷ entries) ≡ entry_at index entries
passed index entry entries above =
    ap greatest (cond-false (nat_le entry.index index) (entry ∷ filter (λ other. nat_le other.index index) entries)
    (filter (λ other. nat_le other.index index) entries) above)

pub taken : (index : ℕ) (entry : Line) (entries : List Line) → nat_le entry.index index ≡ true
    → entry_at index (entry ∷ entries) ≡ later (Some entry) (entry_at index entries)
taken index entry entries reached =
    ap greatest (cond-true (nat_le entry.index index) (entry ∷ filter (λ other. nat_le other.index index) entries)
    (filter (λ other. nat_le other.index index) entries) reached)

later_is_some : (entry : Line) (behind : Option Line) → later (Some entry) behind ≡ None → ⊥
later_is_some entry None none = absurd cc
later_is_some entry (Some other) none = by (nat_lt other.index entry.index) none
  where
    by : (b : Bool) → cond b (Some entry) (Some other) ≡ None → ⊥
    by true e = absurd cc
    by false e = absurd cc

abbrev IsAbove : ℕ → Line → Type 0
IsAbove index entry = index < entry.index

pub all_above : (index : ℕ) (entries : List Line) → entry_at index entries ≡ None
    → AllByRecursion (IsAbove index) entries
all_above index [] none = tt
all_above index (entry ∷ entries) none = by (nat_le entry.index index) refl (all_above index entries)
  where
    by : (b : Bool) → nat_le entry.index index ≡ b
        → (entry_at index entries ≡ None → AllByRecursion (IsAbove index) entries)
        → AllByRecursion (IsAbove index) (entry ∷ entries)
    by true e again =
        absurd (later_is_some entry (entry_at index entries) (sym (taken index entry entries e) ∙ none))
    by false e again = (leb-false entry.index index e, again (sym (passed index entry entries e) ∙ none))

pub none_reached : (index : ℕ) (entries : List Line) → AllByRecursion (IsAbove index) entries
    → entry_at index entries ≡ None
none_reached index [] above = refl
none_reached index (entry ∷ entries) above =
    by (nat_le entry.index index) refl (none_reached index entries above.1)
  where
    by : (b : Bool) → nat_le entry.index index ≡ b → entry_at index entries ≡ None
        → entry_at index (entry ∷ entries) ≡ None
    by true e again = absurd (let below = leb-true entry.index index e in let beyond = above.0 in omega arith)
    by false e again = passed index entry entries e ∙ again

-- the entry in front of all others
front_entry : (index : ℕ) (entry : Line) (entries : List Line) → entry.index ≤ index
    → AllByRecursion (λ other. other.index ≤ index → other.index < entry.index) entries
    → IsEntryAt index (entry ∷ entries) entry
front_entry index entry entries reached behind = record {
  front = [];
  back = entries;
  parts = refl;
  reached = reached;
  before = tt;
  behind = behind;
}

-- one entry more stands in front
more_front : (index : ℕ) (other entry : Line) (entries : List Line) → (other.index ≤ index → other.index ≤ entry.index)
    → IsEntryAt index entries entry → IsEntryAt index (other ∷ entries) entry
more_front index other entry entries low is = record {
  front = other ∷ is.front;
  back = is.back;
  parts = ap (λ (l : List Line). other ∷ l) is.parts;
  reached = is.reached;
  before = (low, is.before);
  behind = is.behind;
}

-- no entry that is reached is above that of the index
at_most : (index : ℕ) (entries : List Line) (entry : Line) → IsEntryAt index entries entry
    → AllByRecursion (λ other. other.index ≤ index → other.index ≤ entry.index) entries
at_most index entries entry is =
    let low : Line → Type 0 = λ other. other.index ≤ index → other.index ≤ entry.index in
    subst (AllByRecursion low) (sym is.parts)
    (joined low is.front is.back entry is.before (λ reached. omega arith)
    (mapped (λ other. other.index ≤ index → other.index < entry.index) low is.back
    (λ other below reached. let l = below reached in omega arith) is.behind))

pub is_found : (index : ℕ) (entries : List Line) (entry : Line) → entry_at index entries ≡ Some entry
    → IsEntryAt index entries entry
is_found index [] entry found = absurd cc
is_found index (first ∷ entries) entry found =
    by (nat_le first.index index) refl (entry_at index entries) refl (is_found index entries)
  where
    of_two : (other : Line) → entry_at index entries ≡ Some other → first.index ≤ index
        → IsEntryAt index entries other → (b : Bool) → nat_lt other.index first.index ≡ b
        → cond b (Some first) (Some other) ≡ Some entry → IsEntryAt index (first ∷ entries) entry
    of_two other f reached is true less e =
        let same : first ≡ entry = cc in
        let under : other.index < first.index = ltb-true other.index first.index less in
        subst (IsEntryAt index (first ∷ entries)) same
        (front_entry index first entries reached
        (mapped (λ o. o.index ≤ index → o.index ≤ other.index) (λ o. o.index ≤ index → o.index < first.index) entries
        (λ o low r. let l = low r in omega arith) (at_most index entries other is)))
    of_two other f reached is false less e =
        let same : other ≡ entry = cc in
        let under : first.index ≤ other.index = ltb-false other.index first.index less in
        subst (IsEntryAt index (first ∷ entries)) same
        (more_front index first other entries (λ r. under) is)

    by : (b : Bool) → nat_le first.index index ≡ b → (o : Option Line) → entry_at index entries ≡ o
        → ((other : Line) → entry_at index entries ≡ Some other → IsEntryAt index entries other)
        → IsEntryAt index (first ∷ entries) entry
    by false e o f again =
        more_front index first entry entries
        (λ r. absurd (let above = leb-false first.index index e in omega arith))
        (again entry (sym (passed index first entries e) ∙ found))
    by true e None f again =
        let is : Some first ≡ Some entry =
        sym (ap (later (Some first)) f) ∙ sym (taken index first entries e) ∙ found in
        let same : first ≡ entry = cc in
        subst (IsEntryAt index (first ∷ entries)) same
        (front_entry index first entries (leb-true first.index index e)
        (mapped (IsAbove index) (λ o. o.index ≤ index → o.index < first.index) entries
        (λ o above r. absurd (omega arith)) (all_above index entries f)))
    by true e (Some other) f again =
        of_two other f (leb-true first.index index e) (again other f) (nat_lt other.index first.index) refl
        (sym (ap (later (Some first)) f) ∙ sym (taken index first entries e) ∙ found)

-- the entry of an index is found
found_among : (index : ℕ) (front back : List Line) (entry : Line) → entry.index ≤ index
    → AllByRecursion (λ other. other.index ≤ index → other.index ≤ entry.index) front
    → AllByRecursion (λ other. other.index ≤ index → other.index < entry.index) back
    → entry_at index (front ++ entry ∷ back) ≡ Some entry
found_among index [] back entry reached before behind =
    taken index entry back (le-leb entry.index index reached) ∙ by (entry_at index back) refl
  where
    less : (other : Line) → other.index < entry.index → (b : Bool) → nat_lt other.index entry.index ≡ b
        → cond b (Some entry) (Some other) ≡ Some entry
    less other under true e = refl
    less other under false e = absurd (let over = ltb-false other.index entry.index e in omega arith)

    by : (o : Option Line) → entry_at index back ≡ o → later (Some entry) (entry_at index back) ≡ Some entry
    by None f = ap (later (Some entry)) f
    by (Some other) f =
        let is = is_found index back other f in
        let low : Line → Type 0 = λ o. o.index ≤ index → o.index < entry.index in
        let under : other.index < entry.index =
        held low is.front is.back other (subst (AllByRecursion low) is.parts behind) is.reached in
        ap (later (Some entry)) f ∙ less other under (nat_lt other.index entry.index) refl
found_among index (first ∷ front) back entry reached before behind =
    by (nat_le first.index index) refl (found_among index front back entry reached before.1 behind)
  where
    not_less : first.index ≤ entry.index → (b : Bool) → nat_lt entry.index first.index ≡ b
        → cond b (Some first) (Some entry) ≡ Some entry
    not_less low true e = absurd (let under = ltb-true entry.index first.index e in omega arith)
    not_less low false e = refl

    by : (b : Bool) → nat_le first.index index ≡ b → entry_at index (front ++ entry ∷ back) ≡ Some entry
        → entry_at index (first ∷ (front ++ entry ∷ back)) ≡ Some entry
    by true e again =
        taken index first (front ++ entry ∷ back) e ∙ ap (later (Some first)) again
        ∙ not_less (before.0 (leb-true first.index index e)) (nat_lt entry.index first.index) refl
    by false e again = passed index first (front ++ entry ∷ back) e ∙ again

pub found_is : (index : ℕ) (entries : List Line) (entry : Line) → IsEntryAt index entries entry
    → entry_at index entries ≡ Some entry
found_is index entries entry is =
    ap (entry_at index) is.parts ∙ found_among index is.front is.back entry is.reached is.before is.behind

-- an entry of another line is passed over
other_line : (line : ℤ) (entry : Line) (entries : List Line) → int_eq entry.line line ≡ false
    → line_start line (entry ∷ entries) ≡ line_start line entries
other_line line entry entries other =
    ap (λ (l : List Line). least (map (λ (e : Line). e.index) l))
    (cond-false (int_eq entry.line line) (entry ∷ filter (λ e. int_eq e.line line) entries)
    (filter (λ e. int_eq e.line line) entries) other)

of_the_line : (line : ℤ) (entry : Line) (entries : List Line) → int_eq entry.line line ≡ true
    → line_start line (entry ∷ entries) ≡ lesser (Some entry.index) (line_start line entries)
of_the_line line entry entries is =
    ap (λ (l : List Line). least (map (λ (e : Line). e.index) l))
    (cond-true (int_eq entry.line line) (entry ∷ filter (λ e. int_eq e.line line) entries)
    (filter (λ e. int_eq e.line line) entries) is)

lesser_is_some : (n : ℕ) (other : Option ℕ) → lesser (Some n) other ≡ None → ⊥
lesser_is_some n None none = absurd cc
lesser_is_some n (Some m) none = absurd cc

abbrev IsOther : ℤ → Line → Type 0
IsOther line entry = ¬ (entry.line ≡ line)

pub all_other : (line : ℤ) (entries : List Line) → line_start line entries ≡ None
    → AllByRecursion (IsOther line) entries
all_other line [] none = tt
all_other line (entry ∷ entries) none = by (int_eq entry.line line) refl (all_other line entries)
  where
    by : (b : Bool) → int_eq entry.line line ≡ b
        → (line_start line entries ≡ None → AllByRecursion (IsOther line) entries)
        → AllByRecursion (IsOther line) (entry ∷ entries)
    by true e again =
        absurd (lesser_is_some entry.index (line_start line entries) (sym (of_the_line line entry entries e) ∙ none))
    by false e again = (
      λ is. absurd (let yes = (Decides-int_eq entry.line line).1 is in cc),
      again (sym (other_line line entry entries e) ∙ none),
    )

pub begins_nowhere : (line : ℤ) (entries : List Line) → AllByRecursion (IsOther line) entries
    → line_start line entries ≡ None
begins_nowhere line [] others = refl
begins_nowhere line (entry ∷ entries) others =
    by (int_eq entry.line line) refl (begins_nowhere line entries others.1)
  where
    by : (b : Bool) → int_eq entry.line line ≡ b → line_start line entries ≡ None
        → line_start line (entry ∷ entries) ≡ None
    by true e again = absurd (others.0 ((Decides-int_eq entry.line line).0 e))
    by false e again = other_line line entry entries e ∙ again

abbrev HasFrom : ℤ → ℕ → Line → Type 0
HasFrom line start entry = entry.line ≡ line → start ≤ entry.index

-- the first entry is the least of the line
front_start : (line : ℤ) (entry : Line) (entries : List Line) → entry.line ≡ line
    → AllByRecursion (HasFrom line entry.index) entries → IsLineStart line (entry ∷ entries) entry.index
front_start line entry entries is others = record {
  entry = entry;
  front = [];
  back = entries;
  parts = refl;
  of_line = is;
  at = refl;
  least = (λ again. omega arith, others);
}

-- one entry more stands in front
more_start : (line : ℤ) (other : Line) (entries : List Line) (start : ℕ) → HasFrom line start other
    → IsLineStart line entries start → IsLineStart line (other ∷ entries) start
more_start line other entries start from is = record {
  entry = is.entry;
  front = other ∷ is.front;
  back = is.back;
  parts = ap (λ (l : List Line). other ∷ l) is.parts;
  of_line = is.of_line;
  at = is.at;
  least = (from, is.least);
}

pub is_start : (line : ℤ) (entries : List Line) (start : ℕ) → line_start line entries ≡ Some start
    → IsLineStart line entries start
is_start line [] start found = absurd cc
is_start line (first ∷ entries) start found =
    by (int_eq first.line line) refl (line_start line entries) refl (is_start line entries)
  where
    of_two : (other : ℕ) → first.line ≡ line → IsLineStart line entries other → (b : Bool)
        → nat_le first.index other ≡ b → Some (min first.index other) ≡ Some start
        → IsLineStart line (first ∷ entries) start
    of_two other of_line is true low e =
        let under : first.index ≤ other = leb-true first.index other low in
        let lesser : min first.index other ≡ start = cc in
        let same : first.index ≡ start = omega arith in
        subst (IsLineStart line (first ∷ entries)) same
        (front_start line first entries of_line
        (mapped (HasFrom line other) (HasFrom line first.index) entries
        (λ entry from again. let f = from again in omega arith) is.least))
    of_two other of_line is false low e =
        let over : other < first.index = leb-false first.index other low in
        let lesser : min first.index other ≡ start = cc in
        let same : other ≡ start = omega arith in
        subst (IsLineStart line (first ∷ entries)) same
        (more_start line first entries other (λ again. omega arith) is)

    by : (b : Bool) → int_eq first.line line ≡ b → (o : Option ℕ) → line_start line entries ≡ o
        → ((other : ℕ) → line_start line entries ≡ Some other → IsLineStart line entries other)
        → IsLineStart line (first ∷ entries) start
    by false e o f again =
        more_start line first entries start (λ is. absurd (let yes = (Decides-int_eq first.line line).1 is in cc))
        (again start (sym (other_line line first entries e) ∙ found))
    by true e None f again =
        let is : Some first.index ≡ Some start =
        sym (ap (lesser (Some first.index)) f) ∙ sym (of_the_line line first entries e) ∙ found in
        let same : first.index ≡ start = cc in
        subst (IsLineStart line (first ∷ entries)) same
        (front_start line first entries ((Decides-int_eq first.line line).0 e)
        (mapped (IsOther line) (HasFrom line first.index) entries (λ entry no is. absurd (no is))
        (all_other line entries f)))
    by true e (Some other) f again =
        of_two other ((Decides-int_eq first.line line).0 e) (again other f) (nat_le first.index other) refl
        (sym (ap (lesser (Some first.index)) f) ∙ sym (of_the_line line first entries e) ∙ found)

pub start_is : (line : ℤ) (entries : List Line) (start : ℕ) → IsLineStart line entries start
    → line_start line entries ≡ Some start
start_is line entries start is = by (line_start line entries) refl
  where
    by : (o : Option ℕ) → line_start line entries ≡ o → line_start line entries ≡ Some start
    by None f =
        absurd (held (IsOther line) is.front is.back is.entry
        (subst (AllByRecursion (IsOther line)) is.parts (all_other line entries f)) is.of_line)
    by (Some other) f =
        let found = is_start line entries other f in
        let low : other ≤ is.entry.index =
        held (HasFrom line other) is.front is.back is.entry
        (subst (AllByRecursion (HasFrom line other)) is.parts found.least) is.of_line in
        let high : start ≤ found.entry.index =
        held (HasFrom line start) found.front found.back found.entry
        (subst (AllByRecursion (HasFrom line start)) found.parts is.least) found.of_line in
        let at : is.entry.index ≡ start = is.at in
        let there : found.entry.index ≡ other = found.at in
        let same : other ≡ start = omega arith in
        f ∙ ap (λ (n : ℕ). Some n) same
