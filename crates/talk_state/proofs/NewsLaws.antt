-- Where all that is verified was told, nothing is news.
use Rattle.std.proofs.Common.{◌≡◌, ℕ, Bool, true, false, cond, List, [], ◌∷◌, refl, ap, sym, filter}
use Rattle.std.specs.Prelude.{◌&&◌, if◌then◌else◌, not, nat_le, map}
use Rattle.std.specs.List.{list_all}
use Rattle.machine_model.specs.Breakpoints.{has_id, is_news, newly_verified}
use Rattle.machine_model.specs.declared.parts.News.TheVariants.{Verified as entry_verified}
use Rattle.wish_sets.specs.Wishes.{Wishes}
use Rattle.wish_sets.specs.declared.entry.VerifiedEntry.{VerifiedEntry}
use Rattle.talk_state.specs.News.{AreTold}

none_among : (below : ℕ) (ids : List ℕ) (entries : List VerifiedEntry)
    → list_all (λ (entry : VerifiedEntry). has_id ids entry.id) entries ≡ true
    → filter (is_news below ids) entries ≡ []
none_among below ids [] told = refl
none_among below ids (x ∷ xs) told = by (nat_le below x.id) (has_id ids x.id) told (none_among below ids xs)
  where
    by : (a b : Bool) → (b && list_all (λ (entry : VerifiedEntry). has_id ids entry.id) xs) ≡ true
        → (list_all (λ (entry : VerifiedEntry). has_id ids entry.id) xs ≡ true → filter (is_news below ids) xs ≡ [])
        → (if cond a false (not b) then x ∷ filter (is_news below ids) xs else filter (is_news below ids) xs) ≡ []
    by true true e again = again e
    by false true e again = again e
    by a false e again = absurd (cc)

pub no_news : (below : ℕ) (ids : List ℕ) (wishes : Wishes) → AreTold wishes ids
    → [] ≡ map entry_verified (newly_verified below ids wishes)
no_news below ids wishes told = sym (ap (map entry_verified) (none_among below ids _ told))
