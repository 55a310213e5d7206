-- The bodies of frames, and what is counted of them, one frame at a time.
use Rattle.std.proofs.Common.{◌≡◌, ◌∙◌, ℕ, ◌+◌, ◌≤◌, ◌<◌, List, [], ◌∷◌, Option, Some, None, ap, arith, drop, length, map, refl}
use Rattle.std.proofs.Common.{add-one, drop-cons, get_or, suc, subst, sym}
use Rattle.std.proofs.lemmas.List.{length-drop}
use Rattle.wire_core.specs.Streams.{Cuts, Front, Hands, HasNoWhole, Uncut, fed, left, past, uncut, waits, whole, faulty}
use Rattle.dap_frames.specs.Frames.{Frame, frame_front}
use Rattle.dap_frames.specs.declared.fault.FrameFault.{FrameFault}
use Rattle.dap_frames.proofs.FrameLaws.{front-steady}
use Rattle.session_summaries.specs.declared.requests.Said.{Said}
use Rattle.session_summaries.specs.declared.told.Tally.{Tally}
use Rattle.session_summaries.specs.Bodies.{bodies_of, bodies_within, body_then}
use Rattle.session_summaries.specs.Requests.{counted, requests_in, said_at}
use Rattle.session_summaries.specs.Told.{none_told, told_at, told_in, with_told}

-- All frames ---------------------------------------------------------------------------------------------------------

-- where no frame is whole there is no body
none_then : (front : Front Frame FrameFault) (rest : ℕ → List (List ℕ)) → HasNoWhole front → body_then front rest ≡ []
none_then waits rest h = refl
none_then (whole frame n) rest h = absurd h
none_then (faulty fault place) rest h = refl

none_within : (steps bytes : List ℕ) → HasNoWhole (frame_front bytes) → bodies_within steps bytes ≡ []
none_within [] bytes h = refl
none_within (step ∷ steps) bytes h = none_then (frame_front bytes) (λ n. bodies_within steps (drop n bytes)) h

all_within : (steps : List ℕ) (u now : Uncut) (frames : List (ℕ × Frame)) → length u.pending ≤ length steps
    → Hands frame_front u frames now → HasNoWhole (frame_front now.pending)
    → bodies_within steps u.pending ≡ map (λ frame. frame.1.body) frames
all_within steps u now [] enough hands none =
    none_within steps u.pending (subst (λ (v : Uncut). HasNoWhole (frame_front v.pending)) hands none)
all_within [] u now (m ∷ ms) enough (n, here, at, rest) none =
    let taken = front-steady.takes u.pending m.1 n here in
    let some : 0 < n = taken.0 in
    let inside : n ≤ length u.pending = taken.1 in
    absurd (omega (arith, enough))
all_within (step ∷ steps) u now (m ∷ ms) enough (n, here, at, rest) none =
    let taken = front-steady.takes u.pending m.1 n here in
    let some : 0 < n = taken.0 in
    let inside : n ≤ length u.pending = taken.1 in
    let fewer : length (drop n u.pending) ≤ length steps = omega (arith, enough, length-drop n u.pending) in
    ap (λ front. body_then front (λ k. bodies_within steps (drop k u.pending))) here
    ∙ ap (λ bodies. m.1.body ∷ bodies) (all_within steps (past u n) now ms fewer rest none)

pub all_bodies : (bytes : List ℕ) (frames : List (ℕ × Frame)) (now : Uncut)
    → Cuts frame_front (fed uncut bytes) frames now → bodies_of bytes ≡ map (λ frame. frame.1.body) frames
all_bodies bytes frames now cuts = all_within bytes (fed uncut bytes) now frames (omega arith) cuts.hands cuts.rest

-- One frame more -----------------------------------------------------------------------------------------------------

pub requests_step : (step : ℕ) (steps : List ℕ) (u : Uncut) → requests_in (bodies_within (step ∷ steps) u.pending)
    ≡ counted (said_at (frame_front u.pending))
    (requests_in (bodies_within steps (left (frame_front u.pending) u).pending))
requests_step step steps u = by (frame_front u.pending) where
  by : (front : Front Frame FrameFault)
      → requests_in (body_then front (λ n. bodies_within steps (drop n u.pending)))
      ≡ counted (said_at front) (requests_in (bodies_within steps (left front u).pending))
  by waits = refl
  by (whole frame n) = refl
  by (faulty fault place) = refl

-- what the next frame tells, and what follows it
abbrev pub told_then : Option Tally → Tally → Tally
told_then None more = none_told
told_then (Some one) more = with_told one more

pub told_step : (step : ℕ) (steps : List ℕ) (u : Uncut) → told_in (bodies_within (step ∷ steps) u.pending)
    ≡ told_then (told_at (frame_front u.pending))
    (told_in (bodies_within steps (left (frame_front u.pending) u).pending))
told_step step steps u = by (frame_front u.pending) where
  by : (front : Front Frame FrameFault) → told_in (body_then front (λ n. bodies_within steps (drop n u.pending)))
      ≡ told_then (told_at front) (told_in (bodies_within steps (left front u).pending))
  by waits = refl
  by (whole frame n) = refl
  by (faulty fault place) = refl

-- Sums ---------------------------------------------------------------------------------------------------------------

told_is : (a b : Tally) → a.responses ≡ b.responses → a.events ≡ b.events → a.stops ≡ b.stops → a.sum ≡ b.sum → a ≡ b
told_is a b r e s n =
    ap (λ x. record a { responses = x }) r
    ∙ ap (λ x. record a { responses = b.responses; events = x }) e
    ∙ ap (λ x. record a { responses = b.responses; events = b.events; stops = x }) s
    ∙ ap (λ x. record b { sum = x }) n

pub told_joined : (a b c : Tally) → with_told (with_told a b) c ≡ with_told a (with_told b c)
told_joined a b c = told_is _ _ (omega arith) (omega arith) (omega arith) (omega arith)

pub none_first : (a : Tally) → with_told none_told a ≡ a
none_first a = told_is _ _ (omega arith) (omega arith) (omega arith) (omega arith)

pub none_last : (a : Tally) → with_told a none_told ≡ a
none_last a = told_is _ _ (omega arith) (omega arith) (omega arith) (omega arith)

-- At a place of the steps --------------------------------------------------------------------------------------------

pub requests_at : (steps : List ℕ) (i : ℕ) (u now : Uncut) (said : Said) → i < length steps
    → said ≡ said_at (frame_front u.pending) → now ≡ left (frame_front u.pending) u
    → requests_in (bodies_within (drop i steps) u.pending)
    ≡ counted said (requests_in (bodies_within (drop (i + 1) steps) now.pending))
requests_at steps i u now said within is goes =
    ap (λ rest. requests_in (bodies_within rest u.pending)) (drop-cons steps i 0 within)
    ∙ requests_step (get_or steps i 0) (drop (suc i) steps) u
    ∙ ap (λ one. counted one (requests_in (bodies_within (drop (suc i) steps) (left (frame_front u.pending) u).pending)))
    (sym is)
    ∙ ap (λ (v : Uncut). counted said (requests_in (bodies_within (drop (suc i) steps) v.pending))) (sym goes)
    ∙ ap (λ n. counted said (requests_in (bodies_within (drop n steps) now.pending))) (sym (add-one i))

pub told_at_step : (steps : List ℕ) (i : ℕ) (u now : Uncut) (one : Option Tally) → i < length steps
    → one ≡ told_at (frame_front u.pending) → now ≡ left (frame_front u.pending) u
    → told_in (bodies_within (drop i steps) u.pending)
    ≡ told_then one (told_in (bodies_within (drop (i + 1) steps) now.pending))
told_at_step steps i u now one within is goes =
    ap (λ rest. told_in (bodies_within rest u.pending)) (drop-cons steps i 0 within)
    ∙ told_step (get_or steps i 0) (drop (suc i) steps) u
    ∙ ap (λ o. told_then o (told_in (bodies_within (drop (suc i) steps) (left (frame_front u.pending) u).pending)))
    (sym is)
    ∙ ap (λ (v : Uncut). told_then one (told_in (bodies_within (drop (suc i) steps) v.pending))) (sym goes)
    ∙ ap (λ n. told_then one (told_in (bodies_within (drop n steps) now.pending))) (sym (add-one i))
