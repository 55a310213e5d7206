-- Which premises can't be left out, and that they hold together.
use Rattle.std.specs.Prelude.{ℕ, ◌≡◌, ◌<◌, ◌∷◌, List, []}
use Rattle.std.specs.List.{AllByRecursion}
use Rattle.clean_sessions.specs.Endings.{EndsWell}
use Rattle.clean_sessions.specs.Premises.{Does, IsClean, Premise}
use Rattle.machine_model.specs.Runs.{Message}
use Rattle.session_model.specs.Names.{Ending, Entry, Limits}
use Rattle.session_model.specs.Session.{IsLeft}

-- There is a session that does all else that is asked, and didn't end well.
pub record IsNeeded (premise : Premise) : Type 0 where
  pub limits : Limits
  pub log : List Entry
  pub messages : List Message
  pub turns : ℕ
  pub ending : Ending
  pub left : IsLeft limits log messages turns ending
  pub others : (other : Premise) → ¬ (other ≡ premise) → Does limits log messages other
  pub badly : ¬ EndsWell messages ending

-- Each of these is needed.
abbrev pub AreNeeded : Type 0
AreNeeded = AllByRecursion IsNeeded (Premise.client_speaks ∷ Premise.client_stays ∷ Premise.links_hold
    ∷ Premise.target_speaks ∷ Premise.is_patient ∷ Premise.has_turns_left ∷ [])

-- All hold where a session begins, within limits that let one turn be taken and one wait be in vain.
abbrev pub HoldAtFirst : Type 0
HoldAtFirst = (limits : Limits) → 0 < limits.turns → 0 < limits.quiet → IsClean limits [] []
