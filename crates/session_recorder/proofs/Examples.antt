-- Recorders, worked out by computation, and where their counts end.
use Rattle.std.proofs.Common.{◌≡◌, true, false, [], ◌∷◌, refl}
use Rattle.wire_core.specs.Outside.{last_count}
use Rattle.wire_core.specs.declared.outside.Entry.TheVariants.{In, Out, Shut, Failed, Quiet}
use Rattle.wire_core.specs.declared.outside.Side.TheVariants.{Client, Target}
use Rattle.session_recorder.specs.Recording.{IsKept, has_failure, link_over, unsent}
use Rattle.session_recorder.specs.States.{faults_with, fits}
use Rattle.session_recorder.specs.declared.side_state.SideState.TheVariants.{Open, Closed, Lost}

-- a side that is lost has one fault more, unless its count stands at its last value
one_fault_more : faults_with Lost 4 ≡ 5
one_fault_more = refl

no_fault_more : faults_with Lost last_count ≡ last_count
no_fault_more = refl

as_many_faults : faults_with Closed 4 ≡ 4
as_many_faults = refl

-- a side that is taken for open wrongly is told as closed
told_open : (link_over true Open (record { faults = 1; empties = 2; is_open = true })).is_open ≡ true
told_open = refl

told_closed : (link_over false Open (record { faults = 1; empties = 2; is_open = false })).is_open ≡ false
told_closed = refl

-- of a side that was lost nothing has to be known
fits_either_way : fits Lost (record { faults = 0; empties = 0; is_open = true }) ≡ true
fits_either_way = refl

-- two bytes went out of a send that failed
two_bytes_left_out : IsKept (In Client (1 ∷ []) ∷ Out Target (2 ∷ 3 ∷ []) ∷ Failed Target ∷ Quiet ∷ [])
    (In Client (1 ∷ []) ∷ Failed Target ∷ Quiet ∷ [])
two_bytes_left_out =
    IsKept.same (In Client (1 ∷ [])) (IsKept.broken Target (2 ∷ 3 ∷ []) (IsKept.same Quiet IsKept.none))

-- a send behind which a link ended is kept
kept_before_an_end : IsKept (Out Target (2 ∷ []) ∷ Shut Target ∷ []) (Out Target (2 ∷ []) ∷ Shut Target ∷ [])
kept_before_an_end = IsKept.same (Out Target (2 ∷ [])) (IsKept.same (Shut Target) IsKept.none)

-- nothing that came is left out
came_is_kept : IsKept (In Client (1 ∷ []) ∷ []) [] → ⊥
came_is_kept is = elim is [ ]

what_came : unsent (In Client (1 ∷ []) ∷ Out Target (2 ∷ []) ∷ Shut Target ∷ []) ≡ In Client (1 ∷ []) ∷ Shut Target ∷ []
what_came = refl

none_failed : has_failure (Out Target (2 ∷ []) ∷ Shut Target ∷ []) ≡ false
none_failed = refl
