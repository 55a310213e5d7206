-- How the desk goes on with each call.
use Rattle.std.proofs.Common.{◌≡◌, ℕ, ◌⊎◌, inl, inr, Bool, true, false, List, [], ◌∷◌, ◌++◌, Option, Some}
use Rattle.std.proofs.Common.{take, refl, sym, ap, ◌∙◌, subst, Result, Ok, Err, OnOk, OnErr}
use Rattle.std.proofs.lemmas.List.{append-nil}
use Rattle.dump_wires.proofs.FitLaws.{client_none, fits_still, target_there}
use Rattle.dump_wires.specs.Desks.{FailsTarget, HearsAs, OpensNothing, Passes, Refuses, Takes, Turns}
use Rattle.dump_wires.specs.Desks.{blamed, entries_in, links_of, outside_of}
use Rattle.dump_wires.specs.Follows.{nothing_more, same_counts}
use Rattle.dump_wires.specs.Talking.{FailsBy, Follows, IsTold, Talks, fits}
use Rattle.dump_wires.specs.declared.desk.Desk.{Desk}
use Rattle.wire_core.specs.Links.{link_after}
use Rattle.wire_core.specs.Outside.{Adds, Counts, FailsToSend, Happens, Hears, IsOpen, Link, Outside, Sends}
use Rattle.wire_core.specs.Outside.{broken_send, entry_of}
use Rattle.wire_core.specs.declared.outside.Entry.{Entry}
use Rattle.wire_core.specs.declared.outside.Entry.TheVariants.{In, Out, Failed, Quiet}
use Rattle.wire_core.specs.declared.outside.Happening.{Happening}
use Rattle.wire_core.specs.declared.outside.Happening.TheVariants.{Bytes, Shut as ends, Failed as fails}
use Rattle.wire_core.specs.declared.outside.Happening.TheVariants.{Quiet as nothing}
use Rattle.wire_core.specs.declared.outside.SendFailed.{SendFailed}
use Rattle.wire_core.specs.declared.outside.Side.{Side}
use Rattle.wire_core.specs.declared.outside.Side.TheVariants.{Client, Target}

clash : {b : Bool} → b ≡ true → b ≡ false → ⊥
clash is so = cc

some_same : {a b : List Entry} → Some a ≡ Some b → a ≡ b
some_same is = cc

-- what was added to the log that the desk tells
log_of : (d d' : Desk) (added : List Entry) → Adds (outside_of d) (outside_of d') added
    → entries_in d' ≡ entries_in d ++ added
log_of d d' added is = some_same is

-- what one call made of the wires inside: nothing, where none of theirs was made
pub record Inside (o o' : Outside) (told : List Entry) : Type 0 where
  pub inside : Adds o o' told
  pub counts : Counts o o'
  pub asked : o'.asked ≡ o.asked

pub none_inside : (o : Outside) → Inside o o []
none_inside o = record { inside = nothing_more o; counts = same_counts o; asked = refl }

-- memory was refused: only what the wires inside tell is left to say
pub refused_follows : (o o' : Outside) (d d' : Desk) (added told : List Entry)
    → Adds (outside_of d) (outside_of d') added → d'.refused ≡ true → Inside o o' told → Follows o d o' d'
refused_follows o o' d d' added told log refused is = record {
  before = λ whole. absurd (clash refused whole);
  added = added;
  log = log_of d d' added log;
  talks = λ whole. absurd (clash refused whole);
  told = told;
  inside = is.inside;
  is_told = λ whole. absurd (clash refused whole);
  fails_by = λ whole. absurd (clash refused whole);
  counts = is.counts;
  asked = is.asked;
}

-- an entry was logged
pub entry_follows : (o o' : Outside) (d d' : Desk) (entry : Entry) (told : List Entry)
    → Adds (outside_of d) (outside_of d') (entry ∷ []) → d'.refused ≡ d.refused → Inside o o' told
    → Talks d.talk (entry ∷ []) d'.talk → IsTold told (entry ∷ []) → FailsBy o d o' d' → Follows o d o' d'
entry_follows o o' d d' entry told log refused is talks is_told fails_by = record {
  before = λ whole. sym refused ∙ whole;
  added = entry ∷ [];
  log = log_of d d' (entry ∷ []) log;
  talks = λ whole. talks;
  told = told;
  inside = is.inside;
  is_told = λ whole. is_told;
  fails_by = λ whole. fails_by;
  counts = is.counts;
  asked = is.asked;
}

-- nothing was logged
pub nothing_follows : (o : Outside) (d d' : Desk) → entries_in d' ≡ entries_in d → d'.refused ≡ d.refused
    → d'.talk ≡ d.talk → (outside_of d').target.faults ≡ (outside_of d).target.faults → Follows o d o d'
nothing_follows o d d' log refused talk faults = record {
  before = λ whole. sym refused ∙ whole;
  added = [];
  log = log ∙ sym (append-nil (entries_in d));
  talks = λ whole. talk;
  told = [];
  inside = nothing_more o;
  is_told = λ whole. IsTold.none;
  fails_by = λ whole. inl faults;
  counts = same_counts o;
  asked = refl;
}

faults_same : {a b : Link} → a ≡ b → a.faults ≡ b.faults
faults_same is = ap (λ (l : Link). l.faults) is

-- Opening -------------------------------------------------------------------------------------------------------------

pub opens_follows : (o : Outside) (d d' : Desk) (listen : Option (List ℕ)) (target : List ℕ)
    → OpensNothing listen target d d' → Follows o d o d'
opens_follows o d d' listen target is =
    nothing_follows o d d' (some_same (ap (λ (x : Outside). x.log) is.outside)) is.refused is.talk
    (ap (λ (x : Outside). x.target.faults) is.outside)

-- Hearing -------------------------------------------------------------------------------------------------------------

pub turns_follows : (o : Outside) (d d' : Desk) (buffer : List ℕ) (happening : Happening)
    → Turns d d' buffer (Some happening) → Follows o d o d'
turns_follows o d d' buffer happening (inl (frame, due, comes)) =
    entry_follows o o d d' (In Client frame) []
    (subst (λ (e : Entry). Adds (outside_of d) (outside_of d') (e ∷ [])) comes.entry comes.log) comes.refused
    (none_inside o) (due, comes.talk) (IsTold.asks frame IsTold.none) (inl (faults_same comes.link))
turns_follows o d d' buffer happening (inr refuses) =
    refused_follows o o d d' (Failed Client ∷ []) [] refuses.log refuses.refused (none_inside o)

pub quiet_follows : (o : Outside) (d d' : Desk) (buffer : List ℕ) (result : Happening)
    → HearsAs nothing d d' buffer result → Follows o d o d'
quiet_follows o d d' buffer result (inl hands) =
    entry_follows o o d d' Quiet [] hands.log hands.refused (none_inside o) hands.talk (IsTold.waits IsTold.none)
    (inl (faults_same hands.link))
quiet_follows o d d' buffer result (inr refuses) =
    refused_follows o o d d' (Failed (blamed (links_of d) nothing) ∷ []) [] refuses.log refuses.refused (none_inside o)

-- what the wires inside gave is not of a client, which isn't there
not_client : (o o' : Outside) (buffer : List ℕ) (count : ℕ) → o.client.is_open ≡ false
    → ¬ Happens o o' buffer (Bytes Client count)
not_client o o' buffer count none is = clash is.2 none

talks_by : (o o' : Outside) (d d' : Desk) (buffer : List ℕ) (happening : Happening) → o.client.is_open ≡ false
    → Happens o o' buffer happening → d'.talk ≡ d.talk → Talks d.talk (entry_of buffer happening ∷ []) d'.talk
talks_by o o' d d' buffer (Bytes Client count) none is same = absurd (not_client o o' buffer count none is)
talks_by o o' d d' buffer (Bytes Target count) none is same = same
talks_by o o' d d' buffer (ends Client) none is same = absurd (clash is.was_open none)
talks_by o o' d d' buffer (ends Target) none is same = same
talks_by o o' d d' buffer (fails Client) none is same = absurd (clash is.0.was_open none)
talks_by o o' d d' buffer (fails Target) none is same = same
talks_by o o' d d' buffer nothing none is same = same

fails_heard : (o o' : Outside) (d d' : Desk) (buffer : List ℕ) (happening : Happening)
    → Happens o o' buffer happening
    → (outside_of d').target ≡ link_after Target happening (outside_of d).target → FailsBy o d o' d'
fails_heard o o' d d' buffer (Bytes side count) is link = inl (faults_same link)
fails_heard o o' d d' buffer (ends Client) is link = inl (faults_same link)
fails_heard o o' d d' buffer (ends Target) is link = inl (faults_same link)
fails_heard o o' d d' buffer (fails Client) is link = inl (faults_same link)
fails_heard o o' d d' buffer (fails Target) is link = inr is.1
fails_heard o o' d d' buffer nothing is link = inl (faults_same link)

pub hears_follows : (o o' : Outside) (d d' : Desk) (buffer : List ℕ) (happening result : Happening)
    → fits o d ≡ true → Hears o o' buffer happening → HearsAs happening d d' buffer result → Follows o d o' d'
hears_follows o o' d d' buffer happening result fit hears (inl hands) =
    entry_follows o o' d d' (entry_of buffer happening) (entry_of buffer happening ∷ []) hands.log hands.refused
    (record { inside = hears.log; counts = hears.counts; asked = hears.asked })
    (talks_by o o' d d' buffer happening (client_none o d fit) hears.happens hands.talk)
    (IsTold.same (entry_of buffer happening) IsTold.none)
    (fails_heard o o' d d' buffer happening hears.happens hands.link)
hears_follows o o' d d' buffer happening result fit hears (inr refuses) =
    refused_follows o o' d d' (Failed (blamed (links_of d) happening) ∷ []) (entry_of buffer happening ∷ [])
    refuses.log refuses.refused (record { inside = hears.log; counts = hears.counts; asked = hears.asked })

-- Sending -------------------------------------------------------------------------------------------------------------

pub takes_follows : (o : Outside) (d d' : Desk) (bytes : List ℕ) → Takes bytes d d' → Follows o d o d'
takes_follows o d d' bytes takes =
    entry_follows o o d d' (Out Client bytes) [] takes.log takes.refused (none_inside o) takes.talk
    (IsTold.takes bytes IsTold.none) (inl (faults_same takes.links.target))

pub refuses_follows : (o : Outside) (d d' : Desk) (side : Side) → Refuses side d d' → Follows o d o d'
refuses_follows o d d' side refuses =
    refused_follows o o d d' (Failed side ∷ []) [] refuses.log refuses.refused (none_inside o)

pub passes_follows : (o o' : Outside) (d d' : Desk) (bytes : List ℕ) → Sends o o' Target bytes → Passes bytes d d'
    → Follows o d o' d'
passes_follows o o' d d' bytes sends passes =
    entry_follows o o' d d' (Out Target bytes) (Out Target bytes ∷ []) passes.log passes.refused
    (record { inside = sends.log; counts = sends.counts; asked = sends.asked }) passes.talk
    (IsTold.same (Out Target bytes) IsTold.none) (inl (faults_same passes.links.target))

broken_told : (part : List ℕ) → IsTold (broken_send Target part) (Failed Target ∷ [])
broken_told [] = IsTold.same (Failed Target) IsTold.none
broken_told (byte ∷ bytes) = IsTold.broken (byte ∷ bytes) IsTold.none

pub fails_follows : (o o' : Outside) (d d' : Desk) (bytes : List ℕ) → FailsToSend o o' Target bytes → FailsTarget d d'
    → Follows o d o' d'
fails_follows o o' d d' bytes broken is =
    entry_follows o o' d d' (Failed Target) (broken_send Target (take broken.kept bytes)) is.log is.refused
    (record { inside = broken.log; counts = broken.counts; asked = broken.asked }) is.talk
    (broken_told (take broken.kept bytes)) (inr broken.rose)

-- a send to the client, done or not
pub sends_follows : (o : Outside) (d d' : Desk) (bytes : List ℕ) (r : Result Unit SendFailed) → OnOk r (Takes bytes d d')
    → OnErr r (Refuses Client d d') → Follows o d o d'
sends_follows o d d' bytes (Ok u) takes nothing_ = takes_follows o d d' bytes takes
sends_follows o d d' bytes (Err e) nothing_ refuses = refuses_follows o d d' Client refuses

-- Still right ---------------------------------------------------------------------------------------------------------

open_same : {a b : Link} → a ≡ b → b.is_open ≡ true → a.is_open ≡ true
open_same is open_ = ap (λ (l : Link). l.is_open) is ∙ open_

-- the target's side is not opened by a call
target_was : (d d' : Desk) (buffer : List ℕ) (happening : Happening)
    → Happens (outside_of d) (outside_of d') buffer happening → IsOpen Target (outside_of d') → IsOpen Target (outside_of d)
target_was d d' buffer (Bytes side count) is open_ = sym is.3.target ∙ open_
target_was d d' buffer (ends Client) is open_ = sym is.other ∙ open_
target_was d d' buffer (ends Target) is open_ = is.was_open
target_was d d' buffer (fails Client) is open_ = sym is.0.other ∙ open_
target_was d d' buffer (fails Target) is open_ = is.0.was_open
target_was d d' buffer nothing is open_ = sym is.0.target ∙ open_

-- a call of the desk alone
pub fits_alone : (o : Outside) (d d' : Desk) (buffer : List ℕ) (happening : Happening) → fits o d ≡ true
    → Happens (outside_of d) (outside_of d') buffer happening → fits o d' ≡ true
fits_alone o d d' buffer happening fit is =
    fits_still o d' (client_none o d fit) (λ open_. target_there o d fit (target_was d d' buffer happening is open_))

-- what the wires inside gave leaves their client as it is
client_heard : (o o' : Outside) (buffer : List ℕ) (happening : Happening) → o.client.is_open ≡ false
    → Happens o o' buffer happening → o'.client.is_open ≡ false
client_heard o o' buffer (Bytes side count) none is = is.3.client ∙ none
client_heard o o' buffer (ends Client) none is = is.closed
client_heard o o' buffer (ends Target) none is = is.other ∙ none
client_heard o o' buffer (fails Client) none is = is.0.closed
client_heard o o' buffer (fails Target) none is = is.0.other ∙ none
client_heard o o' buffer nothing none is = is.0.client ∙ none

-- the target's side is open behind what is heard where it was before, but for its end and its failure
still_open : (o o' : Outside) (buffer : List ℕ) (happening : Happening) → Happens o o' buffer happening
    → IsOpen Target o → (IsOpen Target o') ⊎ ((happening ≡ ends Target) ⊎ (happening ≡ fails Target))
still_open o o' buffer (Bytes side count) is open_ = inl (is.3.target ∙ open_)
still_open o o' buffer (ends Client) is open_ = inl (is.other ∙ open_)
still_open o o' buffer (ends Target) is open_ = inr (inl refl)
still_open o o' buffer (fails Client) is open_ = inl (is.0.other ∙ open_)
still_open o o' buffer (fails Target) is open_ = inr (inr refl)
still_open o o' buffer nothing is open_ = inl (is.0.target ∙ open_)

-- behind the end or the failure of the target its side is closed, as the desk tells it
closed_heard : (d d' : Desk) (buffer : List ℕ) (happening result : Happening)
    → (happening ≡ ends Target) ⊎ (happening ≡ fails Target)
    → Happens (outside_of d) (outside_of d') buffer result
    → (result ≡ happening) ⊎ (result ≡ fails (blamed (links_of d) happening))
    → (outside_of d').target.is_open ≡ false
closed_heard d d' buffer happening result (inl end) is (inl same) =
    (subst (λ (h : Happening). Happens (outside_of d) (outside_of d') buffer h) (same ∙ end) is).closed
closed_heard d d' buffer happening result (inl end) is (inr failed) =
    (subst (λ (h : Happening). Happens (outside_of d) (outside_of d') buffer h)
    (failed ∙ ap (λ (h : Happening). fails (blamed (links_of d) h)) end) is).0.closed
closed_heard d d' buffer happening result (inr end) is (inl same) =
    (subst (λ (h : Happening). Happens (outside_of d) (outside_of d') buffer h) (same ∙ end) is).0.closed
closed_heard d d' buffer happening result (inr end) is (inr failed) =
    (subst (λ (h : Happening). Happens (outside_of d) (outside_of d') buffer h)
    (failed ∙ ap (λ (h : Happening). fails (blamed (links_of d) h)) end) is).0.closed

answer_of : (d d' : Desk) (buffer : List ℕ) (happening result : Happening) → HearsAs happening d d' buffer result
    → (result ≡ happening) ⊎ (result ≡ fails (blamed (links_of d) happening))
answer_of d d' buffer happening result (inl hands) = inl hands.answer
answer_of d d' buffer happening result (inr refuses) = inr refuses.answer

pub fits_heard : (o o' : Outside) (d d' : Desk) (buffer : List ℕ) (happening result : Happening) → fits o d ≡ true
    → Hears o o' buffer happening → HearsAs happening d d' buffer result
    → Hears (outside_of d) (outside_of d') buffer result → fits o' d' ≡ true
fits_heard o o' d d' buffer happening result fit hears answers tells =
    fits_still o' d' (client_heard o o' buffer happening (client_none o d fit) hears.happens)
    (λ open_. elim (still_open o o' buffer happening hears.happens
    (target_there o d fit (target_was d d' buffer result tells.happens open_))) [
      | inl there ↦ there
      | inr gone ↦ absurd (clash open_ (closed_heard d d' buffer happening result gone tells.happens
          (answer_of d d' buffer happening result answers)))
    ])

-- a send by the desk alone
pub fits_taken : (o : Outside) (d d' : Desk) → fits o d ≡ true
    → (IsOpen Target (outside_of d') → IsOpen Target (outside_of d)) → fits o d' ≡ true
fits_taken o d d' fit was = fits_still o d' (client_none o d fit) (λ open_. target_there o d fit (was open_))

pub fits_passed : (o o' : Outside) (d d' : Desk) (bytes : List ℕ) → fits o d ≡ true → Sends o o' Target bytes
    → (IsOpen Target (outside_of d') → IsOpen Target (outside_of d)) → fits o' d' ≡ true
fits_passed o o' d d' bytes fit sends was =
    fits_still o' d' (sends.stays.client ∙ client_none o d fit)
    (λ open_. sends.stays.target ∙ target_there o d fit (was open_))

pub fits_failed : (o o' : Outside) (d d' : Desk) (bytes : List ℕ) → fits o d ≡ true → FailsToSend o o' Target bytes
    → (outside_of d').target.is_open ≡ false → fits o' d' ≡ true
fits_failed o o' d d' bytes fit broken closed =
    fits_still o' d' (broken.closes.other ∙ client_none o d fit) (λ open_. absurd (clash open_ closed))
