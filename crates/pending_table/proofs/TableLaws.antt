-- A window stays one where a command is sent or settled.
use Rattle.std.proofs.Common.{◌≡◌, ℕ, ◌+◌, ◌%◌, ◌<◌, false, List, [], ◌∷◌, ◌++◌, length, Option, Some, None, refl}
use Rattle.std.proofs.Common.{sym, ap, subst, ◌∙◌, arith}
use Rattle.std.specs.Prelude.{is_some, OnErr}
use Rattle.std.specs.Option.{ok_or}
use Rattle.std.proofs.lemmas.Bool.{or_parts, eqb-false}
use Rattle.std.proofs.lemmas.List.{length_push}
use Rattle.jdwp_commands.specs.declared.asked.Asked.{Asked}
use Rattle.pending_table.specs.declared.place.Sent.{Sent}
use Rattle.pending_table.specs.Windows.{Window, pending_under, without, turn, id_of, is_full}
use Rattle.pending_table.specs.Places.{sent_in, AreApart, IsWindow}
use Rattle.pending_table.proofs.PlaceLaws.{as_many, sent_in-push}
use Rattle.pending_table.proofs.WindowLaws.{no_more_left, apart_without, apart_more}

is_none : (o : Option Asked) → is_some o ≡ false → o ≡ None
is_none None e = refl
is_none (Some asked) e = absurd cc

-- where a window isn't full, one more fits and the next id isn't pending
pub room_left : (xs : List Sent) (next : ℕ) (w : Window) → IsWindow xs next
    → record { sent = sent_in xs; next = next } ≡ w → is_full w ≡ false → length xs < 16
room_left xs next w window view free =
    let here : is_full (record { sent = sent_in xs; next = next }) ≡ false = ap is_full view ∙ free in
    let differs = eqb-false (length (sent_in xs)) 16 (or_parts _ _ here).0 in
    let many = as_many xs in
    let fits = window.fits in
    omega (arith, differs)

pub id_left : (xs : List Sent) (next : ℕ) (w : Window) → record { sent = sent_in xs; next = next } ≡ w
    → is_full w ≡ false → pending_under (id_of next) (sent_in xs) ≡ None
id_left xs next w view free =
    let here : is_full (record { sent = sent_in xs; next = next }) ≡ false = ap is_full view ∙ free in
    is_none _ (or_parts _ _ here).1

pub window_sent : (xs ys : List Sent) (next : ℕ) (s : Sent) → IsWindow xs next → length xs < 16
    → ys ≡ xs ++ s ∷ [] → pending_under s.id (sent_in xs) ≡ None → IsWindow ys ((next + 1) % turn)
window_sent xs ys next s window room is none = record {
  fits = (let long = ap length is ∙ length_push xs s in omega arith);
  apart = subst AreApart (sym (ap sent_in is ∙ sent_in-push xs s)) (apart_more (sent_in xs) (s.id, s.asked) window.apart none);
  within = omega arith;
}

pub window_settled : (id : ℕ) (xs ys : List Sent) (next : ℕ) → IsWindow xs next
    → sent_in ys ≡ without id (sent_in xs) → IsWindow ys next
window_settled id xs ys next window is = record {
  fits = (
      let fewer = no_more_left id (sent_in xs) in
      let all = ap length is in
      let many = as_many xs in
      let left = as_many ys in
      let before = window.fits in
      omega arith);
  apart = subst AreApart (sym is) (apart_without id (sent_in xs) window.apart);
  within = window.within;
}

-- what holds where there is nothing holds of the error in its place
pub where_none : {A E : Type 0} (o : Option A) (e : E) (P : Type 0) → (o ≡ None → P) → OnErr (ok_or o e) P
where_none None e P gives = gives refl
where_none (Some x) e P gives = tt
