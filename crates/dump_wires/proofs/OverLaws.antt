-- What each call makes of what the wires of a dump tell.
use Rattle.std.proofs.Common.{◌≡◌, ℕ, ◌≤◌, ◌<◌, ◌⊎◌, inl, inr, Bool, true, false, not, ◌&&◌, ◌||◌, List, Option, Some, None}
use Rattle.std.proofs.Common.{[], ◌∷◌, if◌then◌else◌, length, arith, refl, sym, ap, ◌∙◌, subst}
use Rattle.dump_wires.proofs.FitLaws.{client_none, has_desk, has_fits, open_fits, over, target_there}
use Rattle.dump_wires.proofs.FollowLaws.{fits_alone, fits_failed, fits_heard, fits_passed, fits_taken}
use Rattle.dump_wires.specs.Desks.{FailsTarget, HearsAs, OpensNothing, Passes, Refuses, links_of, outside_of}
use Rattle.dump_wires.specs.Follows.{nothing_more}
use Rattle.dump_wires.specs.Talking.{fits, outside_over, told_if}
use Rattle.dump_wires.specs.declared.desk.Desk.{Desk}
use Rattle.wire_core.specs.Links.{Counts as LinkCounts, Keeps, IsPossible, first_open, is_open_in}
use Rattle.wire_core.specs.Outside.{Adds, Closes, Counts, FailsToConnect, FailsToReach, FailsToSend, Happens, HasOpen}
use Rattle.wire_core.specs.Outside.{Hears, IsOpen, Outside, SameWaits}
use Rattle.wire_core.specs.Outside.{Sends, last_count, raised}
use Rattle.wire_core.specs.declared.links.Links.{Links}
use Rattle.wire_core.specs.declared.outside.Entry.TheVariants.{Out, Failed}
use Rattle.wire_core.specs.declared.outside.Happening.{Happening}
use Rattle.wire_core.specs.declared.outside.Happening.TheVariants.{Bytes, Shut as ends, Failed as fails}
use Rattle.wire_core.specs.declared.outside.Happening.TheVariants.{Quiet as nothing}
use Rattle.wire_core.specs.declared.outside.Side.{Side}
use Rattle.wire_core.specs.declared.outside.Side.TheVariants.{Client, Target}
use Rattle.wire_journals.specs.Journals.{asked_in_vain}

-- Opening -------------------------------------------------------------------------------------------------------------

raised_more : (n : ℕ) → n ≤ raised n
raised_more n = grind arith

raised_rose : (n : ℕ) → (n < raised n) ⊎ (raised n ≡ last_count)
raised_rose n = grind arith

vain_counts : (listen : Option (List ℕ)) (target : List ℕ) (o : Outside) → Counts o (asked_in_vain listen target o)
vain_counts listen target o = record {
  client_faults = omega arith;
  target_faults = omega arith;
  client_empties = omega arith;
  target_empties = omega arith;
  open_faults = raised_more o.open_faults;
}

vain_if : (listen : Option (List ℕ)) (target : List ℕ) (b : Bool) (o : Outside)
    → told_if b (asked_in_vain listen target o) ≡ asked_in_vain listen target (told_if b o)
vain_if listen target true o = refl
vain_if listen target false o = refl

vain_over : (o : Outside) (d d' : Desk) (listen : Option (List ℕ)) (target : List ℕ) → OpensNothing listen target d d'
    → outside_over o d' ≡ asked_in_vain listen target (outside_over o d)
vain_over o d d' listen target is =
    ap (λ (links : Links). told_if (not o.client.is_open && (not links.target.is_open || o.target.is_open)) (outside_of d'))
    is.links
    ∙ ap (told_if (fits o d)) is.outside
    ∙ vain_if listen target (fits o d) (outside_of d)

pub fails_to_connect : (o : Outside) (d d' : Desk) (listen target : List ℕ) → OpensNothing (Some listen) target d d'
    → FailsToConnect (outside_over o d) (outside_over o d') listen target
fails_to_connect o d d' listen target is =
    subst (λ (x : Outside). FailsToConnect (outside_over o d) x listen target) (sym (vain_over o d d' (Some listen) target is))
    (record {
      log = nothing_more (outside_over o d);
      waits = refl;
      counts = vain_counts (Some listen) target (outside_over o d);
      asked = refl;
      rose = raised_rose (outside_over o d).open_faults;
    })

pub fails_to_reach : (o : Outside) (d d' : Desk) (target : List ℕ) → OpensNothing None target d d'
    → FailsToReach (outside_over o d) (outside_over o d') target
fails_to_reach o d d' target is =
    subst (λ (x : Outside). FailsToReach (outside_over o d) x target) (sym (vain_over o d d' None target is))
    (record {
      log = nothing_more (outside_over o d);
      waits = refl;
      counts = vain_counts None target (outside_over o d);
      asked = refl;
      rose = raised_rose (outside_over o d).open_faults;
    })

-- Sending -------------------------------------------------------------------------------------------------------------

pub takes_over : (o : Outside) (d d' : Desk) (bytes : List ℕ) → IsOpen Client (outside_over o d)
    → Sends (outside_of d) (outside_of d') Client bytes → Sends (outside_over o d) (outside_over o d') Client bytes
takes_over o d d' bytes open_ sends =
    let fit = open_fits Client o d open_ in
    over (λ (x y : Outside). Sends x y Client bytes) o o d d' fit
    (fits_taken o d d' fit (λ there. sym sends.stays.target ∙ there)) sends

target_before : (side : Side) (d d' : Desk) (bytes : List ℕ) → FailsToSend (outside_of d) (outside_of d') side bytes
    → IsOpen Target (outside_of d') → IsOpen Target (outside_of d)
target_before Client d d' bytes broken there = sym broken.closes.other ∙ there
target_before Target d d' bytes broken there = broken.closes.was_open

-- a failure by the desk alone
pub loses_over : (side : Side) (o : Outside) (d d' : Desk) (bytes : List ℕ) → IsOpen side (outside_over o d)
    → FailsToSend (outside_of d) (outside_of d') side bytes
    → FailsToSend (outside_over o d) (outside_over o d') side bytes
loses_over side o d d' bytes open_ broken =
    let fit = open_fits side o d open_ in
    over (λ (x y : Outside). FailsToSend x y side bytes) o o d d' fit
    (fits_taken o d d' fit (target_before side d d' bytes broken)) broken

pub passes_over : (o o' : Outside) (d d' : Desk) (bytes : List ℕ) → IsOpen Target (outside_over o d)
    → Sends o o' Target bytes → Sends (outside_of d) (outside_of d') Target bytes
    → Sends (outside_over o d) (outside_over o' d') Target bytes
passes_over o o' d d' bytes open_ inside sends =
    let fit = open_fits Target o d open_ in
    over (λ (x y : Outside). Sends x y Target bytes) o o' d d' fit
    (fits_passed o o' d d' bytes fit inside (λ there. sym sends.stays.target ∙ there)) sends

pub fails_over : (o o' : Outside) (d d' : Desk) (bytes : List ℕ) → IsOpen Target (outside_over o d)
    → FailsToSend o o' Target bytes → FailsToSend (outside_of d) (outside_of d') Target bytes
    → FailsToSend (outside_over o d) (outside_over o' d') Target bytes
fails_over o o' d d' bytes open_ inside broken =
    let fit = open_fits Target o d open_ in
    over (λ (x y : Outside). FailsToSend x y Target bytes) o o' d d' fit
    (fits_failed o o' d d' bytes fit inside broken.closes.closed) broken

-- A desk that was made ready, and then went on -------------------------------------------------------------------------

-- nothing changed that the desk tells
pub record Same (d p : Desk) : Type 0 where
  pub outside : outside_of p ≡ outside_of d
  pub talk : p.talk ≡ d.talk
  pub refused : p.refused ≡ d.refused

pub same_passes : (d p d' : Desk) (bytes : List ℕ) → Same d p → Passes bytes p d' → Passes bytes d d'
same_passes d p d' bytes same is = record {
  log = subst (λ (x : Outside). Adds x (outside_of d') (Out Target bytes ∷ [])) same.outside is.log;
  links = subst (λ (x : Outside). Keeps x (outside_of d')) same.outside is.links;
  waits = subst (λ (x : Outside). SameWaits x (outside_of d')) same.outside is.waits;
  talk = is.talk ∙ same.talk;
  refused = is.refused ∙ same.refused;
}

pub same_fails : (d p d' : Desk) → Same d p → FailsTarget p d' → FailsTarget d d'
same_fails d p d' same is = record {
  log = subst (λ (x : Outside). Adds x (outside_of d') (Failed Target ∷ [])) same.outside is.log;
  links = subst (λ (x : Outside). LinkCounts x (outside_of d') (fails Target)) same.outside is.links;
  waits = subst (λ (x : Outside). SameWaits x (outside_of d')) same.outside is.waits;
  talk = is.talk ∙ same.talk;
  refused = is.refused ∙ same.refused;
}

pub same_refuses : (d p d' : Desk) → Same d p → Refuses Target p d' → Refuses Target d d'
same_refuses d p d' same is = record {
  log = subst (λ (x : Outside). Adds x (outside_of d') (Failed Target ∷ [])) same.outside is.log;
  links = subst (λ (x : Outside). LinkCounts x (outside_of d') (fails Target)) same.outside is.links;
  waits = subst (λ (x : Outside). SameWaits x (outside_of d')) same.outside is.waits;
  refused = is.refused;
}

-- Hearing -------------------------------------------------------------------------------------------------------------

-- what the desk alone gave
pub given_over : (o : Outside) (d d' : Desk) (buffer : List ℕ) (happening : Happening) → HasOpen (outside_over o d)
    → Hears (outside_of d) (outside_of d') buffer happening
    → Hears (outside_over o d) (outside_over o d') buffer happening
given_over o d d' buffer happening some_ hears =
    let fit = has_fits o d some_ in
    over (λ (x y : Outside). Hears x y buffer happening) o o d d' fit
    (fits_alone o d d' buffer happening fit hears.happens) hears

-- what the wires inside gave
pub heard_over : (o o' : Outside) (d d' : Desk) (buffer : List ℕ) (happening result : Happening)
    → HasOpen (outside_over o d) → Hears o o' buffer happening → HearsAs happening d d' buffer result
    → Hears (outside_of d) (outside_of d') buffer result
    → Hears (outside_over o d) (outside_over o' d') buffer result
heard_over o o' d d' buffer happening result some_ inside answers hears =
    let fit = has_fits o d some_ in
    over (λ (x y : Outside). Hears x y buffer result) o o' d d' fit
    (fits_heard o o' d d' buffer happening result fit inside answers hears) hears

-- the wires inside have their target
pub one_inside : (o : Outside) (d : Desk) → HasOpen (outside_over o d) → is_open_in (links_of d) Target ≡ true → HasOpen o
one_inside o d some_ there = inr (target_there o d (has_fits o d some_) there)

clash : {b : Bool} → b ≡ true → b ≡ false → ⊥
clash is so = cc

shut_client : (o o' : Outside) → o.client.is_open ≡ false → Closes Client o o' → ⊥
shut_client o o' none closes = clash closes.was_open none

possible_by : (links : Links) (o o' : Outside) (buffer : List ℕ) (happening : Happening) → o.client.is_open ≡ false
    → links.target.is_open ≡ true → length buffer ≡ 65536 → Happens o o' buffer happening
    → IsPossible links 65536 happening
possible_by links o o' buffer (Bytes Client count) none there room is = absurd (clash is.2 none)
possible_by links o o' buffer (Bytes Target count) none there room is =
    (is.0, subst (λ (n : ℕ). count ≤ n) room is.1, there)
possible_by links o o' buffer (ends Client) none there room is = absurd (shut_client o o' none is)
possible_by links o o' buffer (ends Target) none there room is = there
possible_by links o o' buffer (fails Client) none there room is = absurd (shut_client o o' none is.0)
possible_by links o o' buffer (fails Target) none there room is = there
possible_by links o o' buffer nothing none there room is = tt

-- what they give may come
pub possible_inside : (o o' : Outside) (d : Desk) (buffer : List ℕ) (happening : Happening) → HasOpen (outside_over o d)
    → is_open_in (links_of d) Target ≡ true → length buffer ≡ 65536 → Hears o o' buffer happening
    → IsPossible (links_of d) 65536 happening
possible_inside o o' d buffer happening some_ there room hears =
    possible_by (links_of d) o o' buffer happening (client_none o d (has_fits o d some_)) there room hears.happens

first_by : (links : Links) (b : Bool) → links.client.is_open ≡ b
    → (links.client.is_open ≡ true) ⊎ (links.target.is_open ≡ true)
    → is_open_in links (if b then Client else Target) ≡ true
first_by links true is some_ = is
first_by links false is (inl client) = absurd cc
first_by links false is (inr target) = target

-- the first side that is open is so
pub first_opens : (o : Outside) (d : Desk) → HasOpen (outside_over o d)
    → is_open_in (links_of d) (first_open (links_of d)) ≡ true
first_opens o d some_ = first_by (links_of d) (links_of d).client.is_open refl (has_desk o d some_)
