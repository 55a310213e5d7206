-- Commands behind different ids, and how the ids go.
use Rattle.std.proofs.Common.{◌≡◌, ℕ, ◌+◌, ◌≤◌, ◌%◌, Bool, true, false, cond, List, [], ◌∷◌, ◌++◌, length, Some, None, refl}
use Rattle.std.proofs.Common.{sym, ap, subst, ◌∙◌, arith}
use Rattle.std.specs.Prelude.{◌==◌}
use Rattle.std.proofs.lemmas.Bool.{cond-false, eqb-true}
use Rattle.jdwp_commands.specs.declared.asked.Asked.{Asked}
use Rattle.pending_table.specs.Windows.{pending_under, without, LackOne, turn, id_of, Move, sends, settles, after}
use Rattle.pending_table.specs.Windows.{sends_in}
use Rattle.pending_table.specs.Places.{AreApart}

abbrev Commands : Type 0
Commands = List (ℕ × Asked)

-- where none is pending under an id, all stay
pub none_left_out : (id : ℕ) (sent : Commands) → pending_under id sent ≡ None → without id sent ≡ sent
none_left_out id [] none = refl
none_left_out id (s ∷ sent) none = by (s.0 == id) (none_left_out id sent) none
  where
    by : (b : Bool) → (pending_under id sent ≡ None → without id sent ≡ sent)
        → cond b (Some s.1) (pending_under id sent) ≡ None → cond b sent (s ∷ without id sent) ≡ s ∷ sent
    by true again e = absurd cc
    by false again e = ap (λ (l : Commands). s ∷ l) (again e)

-- one command at most is left out
pub no_more_left : (id : ℕ) (sent : Commands) → length (without id sent) ≤ length sent
no_more_left id [] = omega arith
no_more_left id (s ∷ sent) = by (s.0 == id) (no_more_left id sent)
  where
    by : (b : Bool) → length (without id sent) ≤ length sent
        → length (cond b sent (s ∷ without id sent)) ≤ length (s ∷ sent)
    by true again = omega arith
    by false again = omega arith

-- the command that is left out stands in one place, and all others stay where they are
pub just_one_left_out : (id : ℕ) (asked : Asked) (sent : Commands) → pending_under id sent ≡ Some asked
    → LackOne id asked sent (without id sent)
just_one_left_out id asked [] is = absurd cc
just_one_left_out id asked (s ∷ sent) is = by (s.0 == id) refl (just_one_left_out id asked sent) is
  where
    by : (b : Bool) → (s.0 == id) ≡ b → (pending_under id sent ≡ Some asked → LackOne id asked sent (without id sent))
        → cond b (Some s.1) (pending_under id sent) ≡ Some asked
        → LackOne id asked (s ∷ sent) (cond b sent (s ∷ without id sent))
    by true has again e =
        let same_id : s.0 ≡ id = eqb-true s.0 id has in
        let same : s.1 ≡ asked = cc in
        record {
          front = [];
          back = sent;
          sent_are = rw (sym same_id, sym same) refl;
          others_are = refl;
        }
    by false has again e =
        let others = again e in
        record {
          front = s ∷ others.front;
          back = others.back;
          sent_are = ap (λ (l : Commands). s ∷ l) others.sent_are;
          others_are = ap (λ (l : Commands). s ∷ l) others.others_are;
        }

-- what isn't pending isn't pending among fewer
none_without : (id other : ℕ) (sent : Commands) → pending_under id sent ≡ None
    → pending_under id (without other sent) ≡ None
none_without id other [] none = refl
none_without id other (s ∷ sent) none = by (s.0 == id) refl (none_without id other sent) none
  where
    kept : (b : Bool) → (s.0 == id) ≡ false
        → (pending_under id sent ≡ None → pending_under id (without other sent) ≡ None)
        → pending_under id sent ≡ None → pending_under id (cond b sent (s ∷ without other sent)) ≡ None
    kept true differs again e = e
    kept false differs again e =
        cond-false (s.0 == id) (Some s.1) (pending_under id (without other sent)) differs ∙ again e

    by : (b : Bool) → (s.0 == id) ≡ b
        → (pending_under id sent ≡ None → pending_under id (without other sent) ≡ None)
        → cond b (Some s.1) (pending_under id sent) ≡ None → pending_under id (without other (s ∷ sent)) ≡ None
    by true is again e = absurd cc
    by false is again e = kept (s.0 == other) is again e

pub apart_without : (id : ℕ) (sent : Commands) → AreApart sent → AreApart (without id sent)
apart_without id [] apart = tt
apart_without id (s ∷ sent) apart = by (s.0 == id) (apart_without id sent apart.1)
  where
    by : (b : Bool) → AreApart (without id sent) → AreApart (cond b sent (s ∷ without id sent))
    by true others = apart.1
    by false others = (none_without s.0 id sent apart.0, others)

-- a command that was left out is pending no more
pub left_out_once : (id : ℕ) (sent : Commands) → AreApart sent → pending_under id (without id sent) ≡ None
left_out_once id [] apart = refl
left_out_once id (s ∷ sent) apart = by (s.0 == id) refl (left_out_once id sent apart.1)
  where
    by : (b : Bool) → (s.0 == id) ≡ b → pending_under id (without id sent) ≡ None
        → pending_under id (cond b sent (s ∷ without id sent)) ≡ None
    by true is others = subst (λ (k : ℕ). pending_under k sent ≡ None) (eqb-true s.0 id is) apart.0
    by false is others = cond-false (s.0 == id) (Some s.1) (pending_under id (without id sent)) is ∙ others

-- one more behind another id
none_more : (id : ℕ) (sent : Commands) (more : ℕ × Asked) → pending_under id sent ≡ None
    → (more.0 == id) ≡ false → pending_under id (sent ++ more ∷ []) ≡ None
none_more id [] more none differs = cond-false (more.0 == id) (Some more.1) None differs
none_more id (s ∷ sent) more none differs = by (s.0 == id) (λ e. none_more id sent more e differs) none
  where
    by : (b : Bool) → (pending_under id sent ≡ None → pending_under id (sent ++ more ∷ []) ≡ None)
        → cond b (Some s.1) (pending_under id sent) ≡ None
        → cond b (Some s.1) (pending_under id (sent ++ more ∷ [])) ≡ None
    by true again e = absurd cc
    by false again e = again e

differs_back : (a b : ℕ) → (a == b) ≡ false → (b == a) ≡ false
differs_back a b e = grind arith

pub apart_more : (sent : Commands) (more : ℕ × Asked) → AreApart sent → pending_under more.0 sent ≡ None
    → AreApart (sent ++ more ∷ [])
apart_more [] more apart none = (refl, tt)
apart_more (s ∷ sent) more apart none = by (s.0 == more.0) refl (apart_more sent more apart.1) none
  where
    by : (b : Bool) → (s.0 == more.0) ≡ b → (pending_under more.0 sent ≡ None → AreApart (sent ++ more ∷ []))
        → cond b (Some s.1) (pending_under more.0 sent) ≡ None
        → (pending_under s.0 (sent ++ more ∷ []) ≡ None) × AreApart (sent ++ more ∷ [])
    by true is again e = absurd cc
    by false is again e = (none_more s.0 sent more apart.0 (differs_back s.0 more.0 is), again e)

pub next_goes_on : (n : ℕ) → (n % turn + 1) % turn ≡ (n + 1) % turn
next_goes_on n = omega arith

pub next_after : (moves : List Move) → (after moves).next ≡ sends_in moves % turn
next_after [] = refl
next_after (sends asked ∷ moves) =
    ap (λ (k : ℕ). (k + 1) % turn) (next_after moves)
    ∙ next_goes_on (sends_in moves)
    ∙ ap (λ (k : ℕ). k % turn) (omega arith)
next_after (settles id ∷ moves) = next_after moves

pub id_after : (moves : List Move) → id_of (after moves).next ≡ id_of (sends_in moves)
id_after moves = let is = next_after moves in omega arith
