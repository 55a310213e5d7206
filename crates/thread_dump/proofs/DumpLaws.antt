-- What a session over the wires of a dump says of the wires inside.
use Rattle.std.proofs.Common.{◌≡◌, ℕ, ◌<◌, Bool, true, false, ◌⊎◌, inl, inr, List, [], ◌∷◌, ◌++◌, Option, Some, option_map}
use Rattle.std.proofs.Common.{Result, Ok, Err, arith, refl, sym, ap, subst, ◌∙◌}
use Rattle.bridge_serve.specs.Serving.{Blames, IsClosed}
use Rattle.dump_client.specs.Conversing.{start}
use Rattle.dump_client.specs.declared.conversation.Conversation.{Conversation}
use Rattle.dump_requests.proofs.HearLaws.{left_bad}
use Rattle.dump_wires.proofs.FitLaws.{fits_still, told_same}
use Rattle.dump_wires.specs.Desks.{IsNew, entries_in, outside_of}
use Rattle.dump_wires.specs.Talking.{FailsBy, Follows, Talks, fits, outside_over, told_if}
use Rattle.dump_wires.specs.declared.desk.Desk.{Desk}
use Rattle.session_endings.specs.declared.ending.Ending.{Ending}
use Rattle.session_endings.specs.declared.ending.Ending.TheVariants.{ClientLink, Done, Left, NoMemory, TargetLink}
use Rattle.session_endings.specs.Limits.{AreLimits}
use Rattle.session_endings.specs.declared.ending.Limits.{Limits}
use Rattle.session_model.specs.Session.{IsLeft}
use Rattle.thread_dump.proofs.EndLaws.{left_end, no_end}
use Rattle.thread_dump.specs.Dumps.{IsDump, IsEndOf, IsOther, Serves, ServesOver}
use Rattle.thread_dump.specs.declared.dumping.DumpEnd.{DumpEnd}
use Rattle.thread_dump.specs.declared.dumping.DumpEnd.TheVariants.{Ended, TargetGone}
use Rattle.wire_core.specs.Outside.{Counts, IsOpen, Link, Outside, Rose, last_count}
use Rattle.wire_core.specs.declared.outside.Entry.{Entry}
use Rattle.wire_core.specs.declared.outside.Side.TheVariants.{Client, Target}

-- Where a dump begins -------------------------------------------------------------------------------------------------

-- a new desk takes wires that reached their target alone for what they are
pub new_fits : (o : Outside) (d : Desk) → IsClosed Client o → IsOpen Target o → fits o d ≡ true
new_fits o d none there = fits_still o d none (λ open_. there)

open_link : {l : Link} {m : Link} → l ≡ m → m.is_open ≡ true → l.is_open ≡ true
open_link is open_ = ap (λ (k : Link). k.is_open) is ∙ open_

pub new_client : (o : Outside) (d : Desk) → IsNew d → IsClosed Client o → IsOpen Target o
    → IsOpen Client (outside_over o d)
new_client o d new none there =
    subst (λ (x : Outside). IsOpen Client x) (sym (told_same o d (new_fits o d none there)))
    (open_link new.journal.client refl)

pub new_target : (o : Outside) (d : Desk) → IsNew d → IsClosed Client o → IsOpen Target o
    → IsOpen Target (outside_over o d)
new_target o d new none there =
    subst (λ (x : Outside). IsOpen Target x) (sym (told_same o d (new_fits o d none there)))
    (open_link new.journal.target refl)

-- what goes by other names
pub serves_same : {limits : Limits} {o p o' p' : Outside} {d e d' e' : Desk} {ending : Ending}
    → ServesOver limits o d p e ending → o' ≡ o → d' ≡ d → p' ≡ p → e' ≡ e → ServesOver limits o' d' p' e' ending
serves_same {limits} {o} {p} {o'} {p'} {d} {e} {d'} {e'} {ending} is first second third fourth =
    subst (λ (x : Desk). ServesOver limits o' d' p' x ending) (sym fourth)
    (subst (λ (x : Outside). ServesOver limits o' d' x e ending) (sym third)
    (subst (λ (x : Desk). ServesOver limits o' x p e ending) (sym second)
    (subst (λ (x : Outside). ServesOver limits x d p e ending) (sym first) is)))

-- What was served -----------------------------------------------------------------------------------------------------

told_log : (b : Bool) (o : Outside) → (told_if b o).log ≡ o.log
told_log true o = refl
told_log false o = refl

told_faults : (b : Bool) (o : Outside) → (told_if b o).target.faults ≡ o.target.faults
told_faults true o = refl
told_faults false o = refl

-- a log that was empty is what was added to it
all_added : (before after added : List Entry) → before ≡ [] → after ≡ before ++ added → after ≡ added
all_added before after added none is = is ∙ ap (λ (l : List Entry). l ++ added) none

some_same : {a b : List Entry} → Some a ≡ Some b → a ≡ b
some_same is = cc

entries_none : (d : Desk) → IsNew d → entries_in d ≡ []
entries_none d new = some_same new.journal.log

not_risen : (n m : ℕ) → n ≡ 0 → m ≡ n → ¬ Rose n m
not_risen n m zero_ same (inl less) = omega (arith, zero_, same, less)
not_risen n m zero_ same (inr last) = omega (arith, zero_, same, last)

module _ (limits : Limits) (o o' : Outside) (d d' : Desk) (new : IsNew d) (ending : Ending)
    (serves : ServesOver limits o d o' d' ending) (whole : d'.refused ≡ false) where
  log_added : entries_in d' ≡ serves.session.added
  log_added = all_added (entries_in d) (entries_in d') serves.session.added (entries_none d new) more
    where
      both : Some (entries_in d') ≡ option_map (λ before. before ++ serves.session.added) (Some (entries_in d))
      both =
          sym (told_log (fits o' d') (outside_of d'))
          ∙ serves.session.log
          ∙ ap (option_map (λ before. before ++ serves.session.added)) (told_log (fits o d) (outside_of d))

      more : entries_in d' ≡ entries_in d ++ serves.session.added
      more = some_same both

  follows_added : entries_in d' ≡ serves.follows.added
  follows_added =
      all_added (entries_in d) (entries_in d') serves.follows.added (entries_none d new) serves.follows.log

  same_added : serves.follows.added ≡ serves.session.added
  same_added = sym follows_added ∙ log_added

  rose_inside : FailsBy o d o' d' → Rose (outside_of d).target.faults (outside_of d').target.faults
      → Rose o.target.faults o'.target.faults
  rose_inside (inl same) rose =
      absurd (not_risen (outside_of d).target.faults (outside_of d').target.faults
      (ap (λ (l : Link). l.faults) new.journal.target) same rose)
  rose_inside (inr rose) other = rose

  blames_inside : ending ≡ TargetLink → Rose o.target.faults o'.target.faults
  blames_inside is =
      rose_inside (serves.follows.fails_by whole)
      (subst (λ (n : ℕ). Rose (outside_of d).target.faults n) (told_faults (fits o' d') (outside_of d'))
      (subst (λ (n : ℕ). Rose n (outside_over o' d').target.faults) (told_faults (fits o d) (outside_of d))
      (serves.blames.target is)))

  pub serves_inside : Serves limits o o' ending d'.talk
  serves_inside = record {
    served = serves.follows.added;
    messages = serves.session.messages;
    turns = serves.session.turns;
    left = subst (λ (l : List Entry). IsLeft limits l serves.session.messages serves.session.turns ending) (sym same_added)
        serves.session.left;
    talks = subst (λ (c : Conversation). Talks c serves.follows.added d'.talk) new.talk (serves.follows.talks whole);
    told = serves.follows.told;
    inside = serves.follows.inside;
    is_told = serves.follows.is_told whole;
    blames = blames_inside;
  }

  pub other_inside : AreLimits limits → ¬ (ending ≡ Done) → IsOther ending
  other_inside are not_done = record {
    not_done = not_done;
    not_left = λ is. no_end start d'.talk serves_inside.served serves_inside.talks (left_end serves_inside.left (inl is));
    not_lost = λ is. no_end start d'.talk serves_inside.served serves_inside.talks (left_end serves_inside.left (inr is));
    not_bad = left_bad are serves_inside.left d'.talk serves_inside.talks;
  }

module _ (limits : Limits) (o o' : Outside) (d d' : Desk) (new : IsNew d) (ending : Ending)
    (serves : ServesOver limits o d o' d' ending) where
  -- it ended so
  as_ended : (other : Ending) → d'.refused ≡ false → ending ≡ other → Serves limits o o' other d'.talk
  as_ended other whole is =
      subst (λ (e : Ending). Serves limits o o' e d'.talk) is
      (serves_inside limits o o' d d' new ending serves whole)

  pub is_dump : AreLimits limits → (r : Result (List ℕ) DumpEnd) → IsEndOf ending d' r → IsDump limits o o' r
  is_dump are (Ok text) is = (d'.talk, (as_ended Done is.0 is.1.0, (is.1.1.0, is.1.1.1)))
  is_dump are (Err TargetGone) is = (d'.talk, (as_ended Done is.0 is.1.0, is.1.1))
  is_dump are (Err (Ended other)) (inl none) = inl none
  is_dump are (Err (Ended other)) (inr is) =
      inr (
        d'.talk,
        (
          as_ended other is.0 (sym is.1.0),
          subst IsOther (sym is.1.0)
              (other_inside limits o o' d d' new ending serves is.0 are is.1.1),
        ),
      )
