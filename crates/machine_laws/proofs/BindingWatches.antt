-- Each watch that is wished is installed or was refused: how that stays so.
use Rattle.std.proofs.Common.{◌≡◌, ℕ, Bool, true, false, ◌||◌, List, [], ◌∷◌, ◌++◌, Option, Some, None, refl, sym, ap}
use Rattle.std.proofs.Common.{◌∙◌}
use Rattle.std.specs.Prelude.{map}
use Rattle.class_tables.specs.Facts.{Known}
use Rattle.class_tables.specs.Lookups.{found_in}
use Rattle.jdwp_values.specs.declared.id.ClassId.{ClassId}
use Rattle.machine_model.specs.EventRequests.{is_set_of}
use Rattle.machine_model.specs.Replying.{IsReply}
use Rattle.machine_model.specs.Requests.{Wishes, effect_due, wishes_after}
use Rattle.machine_model.specs.State.{SizesRead}
use Rattle.machine_steps.specs.Names.{Effect, Part, Replied, Set, an_effect}
use Rattle.machine_laws.proofs.BindingFacts.{only_classes}
use Rattle.machine_laws.proofs.ReplyLaws.{IsUnset, new_unset, none_installed, other_stays, set_is}
use Rattle.machine_steps.proofs.RequestLaws.{IsDue}
use Rattle.machine_steps.proofs.RequestSteps.{is_deed}
use Rattle.machine_steps.proofs.WishLemmas.{new_set_due, none_due_change}
use Rattle.wish_sets.proofs.LeftLaws.{at_rest}
use Rattle.wish_sets.proofs.TidyLaws.{kept_refusals}
use Rattle.wish_sets.proofs.WatchLaws.{has-append}
use Rattle.wish_sets.proofs.WishLaws.{wished_has}
use Rattle.wish_sets.specs.Order.{has_wish}
use Rattle.wish_sets.specs.Tidy.{IsTidy}
use Rattle.wish_sets.specs.Places.{places}
use Rattle.wish_sets.specs.declared.place.Place.{Place}
use Rattle.wish_sets.specs.Wanted.{Wanted, nothing_wanted, with_known}
use Rattle.wish_sets.specs.Wished.{stepping, stops, thrown, watched, wished}
use Rattle.wish_sets.specs.declared.facts.KnownClass.{KnownClass}
use Rattle.wish_sets.specs.Wishes.{rewished}
use Rattle.wish_sets.specs.declared.wish.StepWish.{StepWish}
use Rattle.wish_sets.specs.declared.wish.Wish.{Wish}
use Rattle.wish_sets.specs.declared.wish.Wish.TheVariants as wishes

-- Watches -------------------------------------------------------------------------------------------------------------

-- each watch that is wished is installed or was refused
abbrev pub WatchesSet : Wishes → Type 0
WatchesSet w = (path : List ℕ) → has_wish (wished w.wanted) (wishes.Watch path) ≡ true
    → ¬ (IsUnset (wishes.Watch path) w)

pub none_wished : WatchesSet (record { wanted = nothing_wanted; installed = []; refused = [] })
unfolding wished
none_wished path is = absurd (cc)

-- where nothing is due all are set
pub due_set : (w : Wishes) → IsTidy w → effect_due w ≡ None → WatchesSet w
due_set w tidy none path asked u =
    let is = at_rest w tidy (none_due_change w none) (wishes.Watch path) in
    let no : false ≡ true = sym (none_installed (wishes.Watch path) w.installed u.0) ∙ is ∙ rw (asked, u.1) refl in cc

-- a watch that is due isn't
pub due_unset : (w : Wishes) (path : List ℕ) → WatchesSet w → ¬ (effect_due w ≡ Some (Set (wishes.Watch path)))
due_unset w path h due =
    let new = new_set_due w (wishes.Watch path) due in
    h path new.is_wished (new_unset w (wishes.Watch path) new)

pub replied_set : (sizes : Option SizesRead) (w : Wishes) (parts : List Part) (effect : Effect) (replied : Replied)
    → IsDue w parts (Some effect) → IsReply sizes (an_effect effect) replied
    → (wishes_after effect replied w).wanted ≡ w.wanted → WatchesSet w → WatchesSet (wishes_after effect replied w)
replied_set sizes w parts effect replied due reply same h path asked =
    by_test (is_set_of (wishes.Watch path) effect) refl
  where
    before : has_wish (wished w.wanted) (wishes.Watch path) ≡ true
    before = ap (λ (wanted : Wanted). has_wish (wished wanted) (wishes.Watch path)) (sym same) ∙ asked

    by_test : (is : Bool) → is_set_of (wishes.Watch path) effect ≡ is
        → ¬ (IsUnset (wishes.Watch path) (wishes_after effect replied w))
    by_test true is u =
        let one = set_is (wishes.Watch path) effect is in
        due_unset w path h ((due (ap is_deed one)).0 ∙ ap Some one)
    by_test false is u =
        let stays = other_stays sizes w parts effect replied (wishes.Watch path) due reply before is in
        h path before (sym stays.0 ∙ u.0, sym stays.1 ∙ u.1)

-- what is wanted changes, and which watches are wished doesn't
pub known_set : (w : Wishes) (wanted : Wanted) → (wished_alike : (path : List ℕ)
    → has_wish (wished wanted) (wishes.Watch path) ≡ has_wish (wished w.wanted) (wishes.Watch path)) → WatchesSet w
    → WatchesSet (rewished wanted w)
known_set w wanted alike h path asked u =
    let before = sym (alike path) ∙ asked in
    h path before (u.0, sym (kept_refusals wanted w (wishes.Watch path) ∙ rw asked refl) ∙ u.1)

-- which watches are wished doesn't hang on the classes
pub no_stop : (path : List ℕ) (those : List Place)
    → has_wish (map (λ (place : Place). wishes.Stop place.at) those) (wishes.Watch path) ≡ false
no_stop path [] = refl
no_stop path (place ∷ those) = no_stop path those

pub or_false : (b : Bool) → (b || false) ≡ b
or_false true = refl
or_false false = refl

pub without_mid : (it : Wish) (first mid third last : List Wish) → has_wish mid it ≡ false
    → has_wish (first ++ mid ++ third ++ last) it
    ≡ ((has_wish first it || has_wish third it) || has_wish last it)
without_mid it first mid third last none =
    has-append it (first ++ mid ++ third) last
    ∙ ap (λ b. b || has_wish last it) (has-append it (first ++ mid) third
    ∙ ap (λ b. b || has_wish third it) (has-append it first mid ∙ ap (λ b. has_wish first it || b) none
    ∙ or_false (has_wish first it)))

-- nor on the step and the exceptions that stop
no_thrown : (path : List ℕ) (caught uncaught : Bool) → has_wish (thrown caught uncaught) (wishes.Watch path) ≡ false
no_thrown path true uncaught = refl
no_thrown path false true = refl
no_thrown path false false = refl

no_step : (path : List ℕ) (step : Option StepWish) → has_wish (stepping step) (wishes.Watch path) ≡ false
no_step path None = refl
no_step path (Some step) = refl

abbrev watches_of : Wanted → List Wish
watches_of wanted = wishes.ThreadStart ∷ wishes.ThreadDeath ∷ map wishes.Watch (watched wanted)

only_watches : (wanted : Wanted) (path : List ℕ)
    → has_wish (wished wanted) (wishes.Watch path) ≡ has_wish (watches_of wanted) (wishes.Watch path)
only_watches wanted path =
    let it = wishes.Watch path in
    wished_has wanted it
    ∙ without_mid it (watches_of wanted) (stops wanted) (thrown wanted.caught wanted.uncaught) (stepping wanted.step)
    (no_stop path (places wanted))
    ∙ ap (λ b. (has_wish (watches_of wanted) it || b) || has_wish (stepping wanted.step) it)
    (no_thrown path wanted.caught wanted.uncaught)
    ∙ ap (λ b. (has_wish (watches_of wanted) it || false) || b) (no_step path wanted.step)
    ∙ or_false (has_wish (watches_of wanted) it || false) ∙ or_false (has_wish (watches_of wanted) it)

pub watch_alike : (classes : List (ClassId × KnownClass)) (step : Option StepWish) (caught uncaught : Bool)
    (wanted : Wanted) (path : List ℕ)
    → has_wish (wished (record wanted { classes = classes; step = step; caught = caught; uncaught = uncaught }))
    (wishes.Watch path) ≡ has_wish (wished wanted) (wishes.Watch path)
watch_alike classes step caught uncaught wanted path =
    only_watches (record wanted { classes = classes; step = step; caught = caught; uncaught = uncaught }) path
    ∙ sym (only_watches wanted path)

pub classes_alike : (known : Known) (classes : List ClassId) (wanted : Wanted) (path : List ℕ)
    → has_wish (wished (with_known (found_in known) classes wanted)) (wishes.Watch path)
    ≡ has_wish (wished wanted) (wishes.Watch path)
classes_alike known classes wanted path =
    ap (λ (w : Wanted). has_wish (wished w) (wishes.Watch path)) (only_classes (found_in known) classes wanted)
    ∙ watch_alike (with_known (found_in known) classes wanted).classes wanted.step wanted.caught wanted.uncaught wanted
    path
