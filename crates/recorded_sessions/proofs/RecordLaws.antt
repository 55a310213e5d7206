-- What a session over a recorder says of the wires inside.
use Rattle.std.proofs.Common.{◌≡◌, ℕ, Bool, true, false, List, [], ◌++◌, Option, Some, option_map, Result, Ok, Err, IfOk}
use Rattle.std.proofs.Common.{refl, sym, ap, subst, ◌∙◌}
use Rattle.bridge_serve.specs.Following.{lacks_memory}
use Rattle.bridge_serve.specs.Names.{BadClient, BadTarget, ClientLink, Done, Ending, Flood, Idle, Left, Limits, NoMemory}
use Rattle.bridge_serve.specs.Names.{Spent, TargetLink, TargetRefused}
use Rattle.bridge_serve.specs.Serving.{Blames, IsClosed, Idles, Keeps, RoseBy}
use Rattle.recorded_sessions.specs.Records.{IsRecord, IsRecordOf, IsSessionOf, IsToldBy, ServesOver}
use Rattle.recorded_sessions.specs.declared.recording.Recorded.{Recorded}
use Rattle.run_logs.specs.Runs.{entries_of}
use Rattle.session_model.specs.Session.{IsLeft}
use Rattle.session_recorder.proofs.KeptLaws.{links_same}
use Rattle.session_recorder.proofs.OverLaws.{both_fit}
use Rattle.session_recorder.specs.Books.{IsNew, entries_in, is_refused}
use Rattle.session_recorder.specs.Recording.{Follows, IsKept, IsTied, agrees, outside_over}
use Rattle.session_recorder.specs.States.{fits}
use Rattle.session_recorder.specs.Ties.{tied_same}
use Rattle.session_recorder.specs.declared.book.Book.{Book}
use Rattle.session_recorder.specs.declared.side_state.SideState.{SideState}
use Rattle.wire_core.specs.Outside.{Counts, IsOpen, Link, Outside, Rose, link_of}
use Rattle.wire_core.specs.declared.outside.Entry.{Entry}
use Rattle.wire_core.specs.declared.outside.Side.{Side}
use Rattle.wire_core.specs.declared.outside.Side.TheVariants.{Client, Target}

clash : {b : Bool} → b ≡ true → b ≡ false → ⊥
clash is so = cc

-- what goes by other names
pub serves_same : {limits : Limits} {o p o' p' : Outside} {b c b' c' : Book} {ending : Ending}
    → ServesOver limits o b p c ending → o' ≡ o → b' ≡ b → p' ≡ p → c' ≡ c → ServesOver limits o' b' p' c' ending
serves_same {limits} {o} {p} {o'} {p'} {b} {c} {b'} {c'} {ending} is first second third fourth =
    subst (λ (d : Book). ServesOver limits o' b' p' d ending) (sym fourth)
    (subst (λ (d : Outside). ServesOver limits o' b' d c ending) (sym third)
    (subst (λ (d : Book). ServesOver limits o' d p c ending) (sym second)
    (subst (λ (d : Outside). ServesOver limits d b p c ending) (sym first) is)))

-- What the wires inside tell ------------------------------------------------------------------------------------------

-- a new book takes wires for open that are so
pub new_right : (o : Outside) (b : Book) → IsNew b → IsOpen Client o → IsOpen Target o → agrees o b ≡ true
new_right o b new client target =
    both_fit o b (ap (λ (s : SideState). fits s o.client) new.client ∙ client)
    (ap (λ (s : SideState). fits s o.target) new.target ∙ target)

-- it takes them for what they are still, as long as nothing more was asked for
right_still : (o o' : Outside) (b b' : Book) → Follows o b o' b' → o'.asked ≡ o.asked → agrees o b ≡ true
    → agrees o' b' ≡ true
right_still o o' b b' (Follows.goes_on same right) asked was = right was
right_still o o' b b' (Follows.asks none some_) asked was = absurd (some_ (asked ∙ none))

pub keeps_inside : (n : ℕ) (o o' : Outside) (b b' : Book) → IsOpen Client o → IsOpen Target o
    → Keeps n (outside_over o b) (outside_over o' b') → Counts o o' → Keeps n o o'
keeps_inside n o o' b b' client target keeps counts = record {
  counts = counts;
  waits = keeps.waits;
  asked = keeps.asked;
  client_closed = λ shut. absurd (clash client shut);
  target_closed = λ shut. absurd (clash target shut);
}

rose_same : {a b a' b' : Link} → a ≡ a' → b ≡ b' → Rose a.faults b.faults → Rose a'.faults b'.faults
rose_same {a} {b} {a'} {b'} first second is =
    subst (λ (l : Link). Rose a'.faults l.faults) second (subst (λ (l : Link). Rose l.faults b.faults) first is)

rose_by_same : (n : ℕ) {a b a' b' : Link} → a ≡ a' → b ≡ b' → RoseBy n a.empties b.empties
    → RoseBy n a'.empties b'.empties
rose_by_same n {a} {b} {a'} {b'} first second is =
    subst (λ (l : Link). RoseBy n a'.empties l.empties) second
    (subst (λ (l : Link). RoseBy n l.empties b.empties) first is)

open_same : {a b : Link} → a ≡ b → a.is_open ≡ b.is_open
open_same is = ap (λ (l : Link). l.is_open) is

-- both links, before and behind, as the recorder tells them
pub record TellsLinks (o o' : Outside) (b b' : Book) : Type 0 where
  pub client : (outside_over o b).client ≡ o.client
  pub target : (outside_over o b).target ≡ o.target
  pub client' : (outside_over o' b').client ≡ o'.client
  pub target' : (outside_over o' b').target ≡ o'.target

blames_inside : (o o' : Outside) (b b' : Book) (ending : Ending) → TellsLinks o o' b b'
    → Blames (outside_over o b) (outside_over o' b') ending → Blames o o' ending
blames_inside o o' b b' ending links blames = record {
  client = λ is. rose_same links.client links.client' (blames.client is);
  target = λ is. rose_same links.target links.target' (blames.target is);
  client_lost = λ is. sym (open_same links.client') ∙ blames.client_lost is;
  target_lost = λ is. sym (open_same links.target') ∙ blames.target_lost is;
  client_left = λ is. sym (open_same links.client') ∙ blames.client_left is;
}

idles_inside : (limits : Limits) (o o' : Outside) (b b' : Book) (ending : Ending) → TellsLinks o o' b b'
    → Idles limits (outside_over o b) (outside_over o' b') ending → Idles limits o o' ending
idles_inside limits o o' b b' ending links idles = λ is.
    let quiet = idles is in
    record {
      client = λ open_. rose_by_same limits.quiet links.client links.client'
          (quiet.client (open_same links.client' ∙ open_));
      target = λ open_. rose_by_same limits.quiet links.target links.target'
          (quiet.target (open_same links.target' ∙ open_));
    }

-- What was kept -------------------------------------------------------------------------------------------------------

none_lacks : (ending : Ending) → lacks_memory ending ≡ false → ¬ (ending ≡ NoMemory)
none_lacks ending is = λ so. clash (ap lacks_memory so) is

-- a log that was empty is what was added to it
all_added : (before after added : List Entry) → before ≡ [] → Some after ≡ Some (before ++ added) → added ≡ after
all_added before after added none is =
    let more : after ≡ before ++ added = cc in
    sym (more ∙ ap (λ (l : List Entry). l ++ added) none)

module _ (limits : Limits) (o o' : Outside) (b b' : Book) (new : IsNew b) (client : IsOpen Client o)
    (target : IsOpen Target o) (ending : Ending) (serves : ServesOver limits o b o' b' ending) where
  tells_links : is_refused b' ≡ false → TellsLinks o o' b b'
  tells_links whole =
      let was = serves.tied.before whole in
      let right = new_right o b new client target in
      let right' = right_still o o' b b' serves.tied.follows serves.keeps.asked right in
      record {
        client = links_same Client o b right was;
        target = links_same Target o b right was;
        client' = links_same Client o' b' right' whole;
        target' = links_same Target o' b' right' whole;
      }

  module _ (r : Recorded) (is : IsRecordOf ending b' r) where
    session_kept : IsSessionOf limits (entries_of r.runs) r.ending
    session_kept =
        let all = all_added (entries_in b) (entries_in b') serves.session.added new.entries serves.session.log in
        record {
          messages = serves.session.messages;
          turns = serves.session.turns;
          left = subst (λ (e : Ending). IsLeft limits (entries_of r.runs) serves.session.messages serves.session.turns e)
              (sym is.ending_is)
              (subst (λ (l : List Entry). IsLeft limits l serves.session.messages serves.session.turns ending)
              (all ∙ sym is.entries) serves.session.left);
        }

    told_kept : IsToldBy o o' (entries_of r.runs)
    told_kept = record {
      added = serves.tied.added;
      inside = serves.tied.inside;
      is_kept = subst (λ (l : List Entry). IsKept serves.tied.added l)
          (sym (is.entries ∙ serves.tied.own is.whole ∙ ap (λ (l : List Entry). l ++ serves.tied.kept) new.entries))
          (serves.tied.is_kept is.whole);
    }

    pub is_record : IsRecord limits o o' r
    is_record =
        let links = tells_links is.whole in
        record {
          session = session_kept;
          remembers = λ so. none_lacks ending is.remembers (sym is.ending_is ∙ so);
          runs = is.runs;
          told = told_kept;
          blames = subst (λ (e : Ending). Blames o o' e) (sym is.ending_is)
              (blames_inside o o' b b' ending links serves.blames);
          idles = subst (λ (e : Ending). Idles limits o o' e) (sym is.ending_is)
              (idles_inside limits o o' b b' ending links serves.idles);
        }

-- what holds of a value, where more follows of it
pub on_ok : {A E : Type 0} {P Q : A → Type 0} (r : Result A E) → IfOk r P → ((a : A) → P a → Q a) → IfOk r Q
on_ok (Ok a) p more = more a p
on_ok (Err e) p more = tt
