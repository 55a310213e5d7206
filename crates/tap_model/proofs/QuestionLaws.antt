-- The tap's own commands, and what its questions come to.
use Rattle.std.proofs.Common.{◌≡◌, ℕ, ◌+◌, ◌≤◌, ◌<◌, ◌&&◌, ◌==◌, Bool, true, false, not, cond, List, [], ◌∷◌, ◌++◌}
use Rattle.std.proofs.Common.{Option, Some, None, Ok, slice_get, slice_set, length, refl, sym, ap, subst}
use Rattle.std.proofs.Common.{◌∙◌, append-nil, arith, ◌⊎◌, inl, inr}
use Rattle.std.specs.Prelude.{count_by, nat_lt}
use Rattle.std.specs.List.{AllByRecursion}
use Rattle.std.proofs.lemmas.Bool.{eqb-false, eqb-true, ltb-true}
use Rattle.std.proofs.lemmas.List.{length-map, length-set}
use Rattle.jdwp_commands.specs.Answers.{answer_at}
use Rattle.jdwp_packets.specs.Packets.{Packet, reply_packet}
use Rattle.jdwp_values.specs.declared.sizes.IdSizes.{IdSizes}
use Rattle.pending_table.specs.Windows.{id_of}
use Rattle.tap_model.specs.Laws.{AreOwn, AreReplies, AreSpelled, IsQuiet, IsSpelled, can_be_asked}
use Rattle.tap_model.specs.Laws.{reached_by}
use Rattle.tap_model.specs.Names.{a_question, an_answer, an_error, Ask, Debugger, Entry, Limits, Never, of_question}
use Rattle.tap_model.specs.Names.{Owner, Reached, Sizes}
use Rattle.tap_model.specs.Questions.{fitting, unanswered}
use Rattle.tap_model.specs.Rules.{AllSaid, IsDue, IsHeard, IsLearnt, NoPacket, NoQuestion}
use Rattle.tap_model.specs.States.{Said, TapState, after, id_taken, is_question, with_sizes, without}
use Rattle.tap_model.specs.Steps.{Message, Step, can_ask, said, serving, step, tells}
use Rattle.tap_model.specs.Tapping.{Comes, Tapping}
use Rattle.tap_model.specs.Transcripts.{questions_sent, reply_in, sent_under}
use Rattle.tap_model.proofs.CountLaws.{IsThere, count_push, count_settled, count_without, fitting_there, one_of}
use Rattle.tap_model.proofs.CountLaws.{set_here}
use Rattle.tap_model.proofs.CountLaws.{set_there, slice_get-map, within}
use Rattle.tap_model.proofs.OwnerLaws.{AreLatest, are_latest, due_by, heard_by, learnt_by, rest_by}
use Rattle.tap_model.proofs.RuleLaws.{both}
use Rattle.tap_model.proofs.TheirLaws.{first_sent}

-- The sizes are asked for once ----------------------------------------------------------------------------------------

-- the command that asks for the sizes of ids
abbrev is_sizes : ℕ × Owner → Bool
is_sizes p = by p.1
  where
    by : Owner → Bool
    by (Debugger id leaves) = false
    by Sizes = true
    by (of_question n) = false

abbrev known : Option IdSizes → ℕ
known None = 0
known (Some sizes) = 1

abbrev one_where : Bool → ℕ
one_where true = 1
one_where false = 0

-- it is pending, or was answered, at most once, and only where it was sent
abbrev IsAskedOnce : TapState → Type 0
IsAskedOnce s = count_by is_sizes s.sent.pending + known s.asking.sizes ≤ one_where s.asking.asked_sizes

-- one more command of another kind
no_more_sizes : (s : TapState) (id : ℕ) (owner : Owner) → is_sizes (id, owner) ≡ false → IsAskedOnce s
    → count_by is_sizes (without id s.sent.pending ++ (id, owner) ∷ []) + known s.asking.sizes
    ≤ one_where s.asking.asked_sizes
no_more_sizes s id owner none once =
    let push = count_push is_sizes (without id s.sent.pending) (id, owner) in
    let less = count_without is_sizes id s.sent.pending in
    let zero_more : ◌≡◌ {A = ℕ} (cond (is_sizes (id, owner)) 1 0) 0 = ap (λ (b : Bool). cond b 1 0) none in
    omega (arith, push, less, zero_more, once)

due_once : (asks : List Ask) (s : TapState) (what : Said) → IsDue asks s what → IsAskedOnce s
    → IsAskedOnce (after what s)
due_once asks s _ (IsDue.target_greeted a) once = once
due_once asks s _ (IsDue.debugger_greeted a b) once = once
due_once asks s _ (IsDue.asks_sizes a b c) once =
    let push = count_push is_sizes (without (id_of s.sent.next) s.sent.pending) (id_of s.sent.next, Sizes) in
    let less = count_without is_sizes (id_of s.sent.next) s.sent.pending in
    let none : one_where s.asking.asked_sizes ≡ 0 = rw c refl in
    omega (arith, push, less, none, once)
due_once asks s _ (IsDue.passes {command} a b c) once = no_more_sizes s (id_of s.sent.next) _ refl once
due_once asks s _ (IsDue.hands_on a b c d) once = once
due_once asks s _ (IsDue.asks_question a b c d e f g) once = no_more_sizes s (id_of s.sent.next) _ refl once

settled_once : (s : TapState) (id : ℕ) → IsAskedOnce s
    → count_by is_sizes (without id s.sent.pending) + known s.asking.sizes ≤ one_where s.asking.asked_sizes
settled_once s id once = let less = count_without is_sizes id s.sent.pending in omega (arith, less, once)

heard_once : (asks : List Ask) (s s' : TapState) (message : Message) → IsHeard asks s message s' → IsAskedOnce s
    → IsAskedOnce s'
heard_once asks s _ _ (IsHeard.commanded a b) once = once
heard_once asks s _ _ (IsHeard.told a b) once = once
heard_once asks s _ _ (IsHeard.replied {id} a b) once = settled_once s id once
heard_once asks s _ _ (IsHeard.answered {id} a b c d) once = settled_once s id once
heard_once asks s _ _ (IsHeard.refused {id} a b) once = settled_once s id once

-- where they are answered they weren't known
one_at_most : (asked : Bool) → one_where asked ≤ 1
one_at_most true = omega arith
one_at_most false = omega arith

unknown : (sizes : Option IdSizes) → known sizes ≤ 0 → sizes ≡ None
unknown None few = refl
unknown (Some sizes) few = absurd (omega (arith, few))

learnt_once : (asks : List Ask) (s s' : TapState) (packet : Packet) (numbers : List ℕ) (sizes : IdSizes)
    → IsLearnt asks s packet numbers s' → IsAskedOnce s
    → IsAskedOnce (with_sizes asks sizes s') × (s.asking.sizes ≡ None)
learnt_once asks s _ _ _ sizes (IsLearnt.sized {id} a b c d) once =
    let less = count_settled is_sizes id Sizes s.sent.pending a.pending refl in
    let most = one_at_most s.asking.asked_sizes in (
      omega (arith, less, once),
      unknown s.asking.sizes (omega (arith, less, once, most)),
    )

come_once : (s s' : TapState) (entry : Entry) → Comes s entry s' → IsAskedOnce s → IsAskedOnce s'
come_once s _ _ Comes.of_debugger once = once
come_once s _ _ Comes.of_target once = once
come_once s _ _ Comes.passes_quiet once = once

are_once : {limits : Limits} {asks : List Ask} {log : List Entry} {messages : List Message} {turns : ℕ}
    {s : TapState} → Tapping limits asks log messages turns s → IsAskedOnce s
are_once Tapping.begins = omega arith
are_once {asks} (Tapping.says {s} {what} t h) = due_once asks s what (due_by asks s h) (are_once t)
are_once {asks} (Tapping.hears {s} {s'} {message} t h) = heard_once asks s s' message (heard_by asks s h) (are_once t)
are_once {asks} (Tapping.learns {s} {s'} {packet} {numbers} {sizes} t h e) =
    (learnt_once asks s s' packet numbers sizes (learnt_by asks s h) (are_once t)).0
are_once (Tapping.happens {s} {s'} {entry} t listens comes) = come_once s s' entry comes (are_once t)

-- The tap's own -------------------------------------------------------------------------------------------------------

-- where the sizes of ids aren't known no question was sent, so that any sizes will do
spelled_so : (asks : List Ask) (sizes : Option IdSizes) (messages : List Message) → AreSpelled asks None messages
    → AreSpelled asks sizes messages
spelled_so asks sizes [] spelled = tt
spelled_so asks sizes (said (Said.greets side) ∷ messages) spelled =
    (tt, spelled_so asks sizes messages spelled.1)
spelled_so asks sizes (said (Said.hands bytes) ∷ messages) spelled =
    (tt, spelled_so asks sizes messages spelled.1)
spelled_so asks sizes (said (Said.sends c) ∷ messages) spelled =
    (by c.owner spelled.0, spelled_so asks sizes messages spelled.1)
  where
    by : (owner : Owner) → IsSpelled asks None c owner → IsSpelled asks sizes c owner
    by (Debugger id leaves) h = tt
    by Sizes h = h
    by (of_question n) h = absurd (let none = h.3 in cc)
spelled_so asks sizes (Message.commands c ∷ messages) spelled = spelled_so asks sizes messages spelled
spelled_so asks sizes (tells packet ∷ messages) spelled = spelled_so asks sizes messages spelled

-- nothing was sent of questions, and none is left
none_before : (xs ys : List ℕ) → xs ++ ys ≡ [] → xs ≡ []
none_before [] ys is = refl
none_before (x ∷ xs) ys is = absurd cc

-- one more question at most has no reply
no_more_asked : (s : TapState) (id : ℕ) (owner : Owner) → is_question (id, owner) ≡ false
    → count_by is_question s.sent.pending ≤ 16
    → count_by is_question (without id s.sent.pending ++ (id, owner) ∷ []) ≤ 16
no_more_asked s id owner none few =
    let push = count_push is_question (without id s.sent.pending) (id, owner) in
    let less = count_without is_question id s.sent.pending in
    let zero_more : ◌≡◌ {A = ℕ} (cond (is_question (id, owner)) 1 0) 0 = ap (λ (b : Bool). cond b 1 0) none in
    omega (arith, push, less, zero_more, few)

due_own : (asks : List Ask) (messages : List Message) (s : TapState) (what : Said) → IsDue asks s what
    → AreOwn asks messages s → AreOwn asks (said what ∷ messages) (after what s)
due_own asks messages s _ (IsDue.target_greeted a) own = record {
  sizes = omega arith ∙ own.sizes;
  questions = ap (λ l. l ++ s.asking.left) (append-nil (questions_sent messages)) ∙ own.questions;
  spelled = (tt, own.spelled);
  few = own.few;
}
due_own asks messages s _ (IsDue.debugger_greeted a b) own = record {
  sizes = omega arith ∙ own.sizes;
  questions = ap (λ l. l ++ s.asking.left) (append-nil (questions_sent messages)) ∙ own.questions;
  spelled = (tt, own.spelled);
  few = own.few;
}
due_own asks messages s _ (IsDue.asks_sizes a b c) own = record {
  sizes =
      let is = own.sizes in
      let none : ◌≡◌ {A = ℕ} (cond s.asking.asked_sizes 1 0) 0 = ap (λ (b : Bool). cond b 1 0) c in
      omega (arith, is, none);
  questions = ap (λ l. l ++ s.asking.left) (append-nil (questions_sent messages)) ∙ own.questions;
  spelled = ((refl, refl, refl), own.spelled);
  few = no_more_asked s (id_of s.sent.next) Sizes refl own.few;
}
due_own asks messages s _ (IsDue.passes {command} a b c) own = record {
  sizes = omega arith ∙ own.sizes;
  questions = ap (λ l. l ++ s.asking.left) (append-nil (questions_sent messages)) ∙ own.questions;
  spelled = (tt, own.spelled);
  few = no_more_asked s (id_of s.sent.next) _ refl own.few;
}
due_own asks messages s _ (IsDue.hands_on a b c d) own = record {
  sizes = omega arith ∙ own.sizes;
  questions = ap (λ l. l ++ s.asking.left) (append-nil (questions_sent messages)) ∙ own.questions;
  spelled = (tt, own.spelled);
  few = own.few;
}
due_own asks messages s _ (IsDue.asks_question {sizes} {n} {left} {ask} a b c d e f can) own = record {
  sizes = omega arith ∙ own.sizes;
  questions = sym (first_sent (questions_sent messages) n left s.asking.left e) ∙ own.questions;
  spelled = ((ask, sizes, f, d, refl, refl, refl), own.spelled);
  few =
      let push =
      count_push is_question (without (id_of s.sent.next) s.sent.pending) (id_of s.sent.next, of_question n) in
      let less = count_without is_question (id_of s.sent.next) s.sent.pending in
      let two = both (nat_lt (count_by is_question s.sent.pending) 16) (not (id_taken s.sent)) can in
      let few : count_by is_question s.sent.pending < 16 = ltb-true _ _ two.0 in
      omega (arith, push, less, few);
}

settled_few : (s : TapState) (id : ℕ) → count_by is_question s.sent.pending ≤ 16
    → count_by is_question (without id s.sent.pending) ≤ 16
settled_few s id few = let less = count_without is_question id s.sent.pending in omega (arith, less, few)

heard_own : (asks : List Ask) (messages : List Message) (s s' : TapState) (message : Message)
    → IsHeard asks s message s' → AreOwn asks messages s → AreOwn asks (message ∷ messages) s'
heard_own asks messages s _ _ (IsHeard.commanded a b) own =
    record { sizes = own.sizes; questions = own.questions; spelled = own.spelled; few = own.few }
heard_own asks messages s _ _ (IsHeard.told a b) own =
    record { sizes = own.sizes; questions = own.questions; spelled = own.spelled; few = own.few }
heard_own asks messages s _ _ (IsHeard.replied {id} a b) own = record {
  sizes = own.sizes;
  questions = own.questions;
  spelled = own.spelled;
  few = settled_few s id own.few;
}
heard_own asks messages s _ _ (IsHeard.answered {id} a b c d) own = record {
  sizes = own.sizes;
  questions = own.questions;
  spelled = own.spelled;
  few = settled_few s id own.few;
}
heard_own asks messages s _ _ (IsHeard.refused {id} a b) own = record {
  sizes = own.sizes;
  questions = own.questions;
  spelled = own.spelled;
  few = settled_few s id own.few;
}

learnt_own : (asks : List Ask) (messages : List Message) (s s' : TapState) (packet : Packet) (numbers : List ℕ)
    (sizes : IdSizes) → IsLearnt asks s packet numbers s' → IsAskedOnce s → AreOwn asks messages s
    → AreOwn asks (tells packet ∷ messages) (with_sizes asks sizes s')
learnt_own asks messages s _ _ _ sizes (IsLearnt.sized {id} a b c d) once own =
    let none = (learnt_once asks s _ _ _ sizes (IsLearnt.sized a b c d) once).1 in
    let nothing : questions_sent messages ++ s.asking.left ≡ [] =
    own.questions ∙ ap (λ (o : Option IdSizes). can_be_asked o asks) none in
    record {
      sizes = own.sizes;
      questions = ap (λ l. l ++ fitting sizes 0 asks) (none_before (questions_sent messages) s.asking.left nothing);
      spelled = spelled_so asks (Some sizes) messages
          (subst (λ (o : Option IdSizes). AreSpelled asks o messages) none own.spelled);
      few = settled_few s id own.few;
    }

come_own : (asks : List Ask) (messages : List Message) (s s' : TapState) (entry : Entry) → Comes s entry s'
    → AreOwn asks messages s → AreOwn asks messages s'
come_own asks messages s _ _ Comes.of_debugger own =
    record { sizes = own.sizes; questions = own.questions; spelled = own.spelled; few = own.few }
come_own asks messages s _ _ Comes.of_target own =
    record { sizes = own.sizes; questions = own.questions; spelled = own.spelled; few = own.few }
come_own asks messages s _ _ Comes.passes_quiet own =
    record { sizes = own.sizes; questions = own.questions; spelled = own.spelled; few = own.few }

pub are_own : {limits : Limits} {asks : List Ask} {log : List Entry} {messages : List Message} {turns : ℕ}
    {s : TapState} → Tapping limits asks log messages turns s → AreOwn asks messages s
are_own Tapping.begins = record { sizes = refl; questions = refl; spelled = tt; few = omega arith }
are_own (Tapping.says t h) = due_own _ _ _ _ (due_by _ _ h) (are_own t)
are_own (Tapping.hears t h) = heard_own _ _ _ _ _ (heard_by _ _ h) (are_own t)
are_own (Tapping.learns {sizes} t h e) =
    learnt_own _ _ _ _ _ _ sizes (learnt_by _ _ h) (are_once t) (are_own t)
are_own (Tapping.happens t listens comes) = come_own _ _ _ _ _ comes (are_own t)

-- Waits ---------------------------------------------------------------------------------------------------------------

-- both sides have greeted, and the debugger was greeted
was_greeted : (d t g : Bool) → (d && t) && not g ≡ false → d ≡ true → t ≡ true → g ≡ true
was_greeted true true true h is at = refl
was_greeted true true false h is at = absurd cc
was_greeted true false g h is at = absurd cc
was_greeted false t g h is at = absurd cc

questions_wait : (asks : List Ask) (messages : List Message) (s : TapState) → AreOwn asks messages s
    → NoQuestion asks s → (s.asking.left ≡ []) ⊎ ((s.asking.sizes ≡ None) ⊎ (can_ask s.sent ≡ false))
questions_wait asks messages s own (NoQuestion.none_left none) = inl none
questions_wait asks messages s own (NoQuestion.no_sizes none) = inr (inl none)
questions_wait asks messages s own (NoQuestion.has_to_wait wait) = inr (inr wait)
questions_wait asks messages s own (NoQuestion.not_there {n} {left} first none) = by s.asking.sizes refl
  where
    by : (sizes : Option IdSizes) → s.asking.sizes ≡ sizes
        → (s.asking.left ≡ []) ⊎ ((s.asking.sizes ≡ None) ⊎ (can_ask s.sent ≡ false))
    by None unknown_yet = inr (inl unknown_yet)
    by (Some sizes) are_known =
        let parts : questions_sent messages ++ n ∷ left ≡ fitting sizes 0 asks =
        ap (λ l. questions_sent messages ++ l) (sym first)
        ∙ (own.questions ∙ ap (λ (o : Option IdSizes). can_be_asked o asks) are_known) in
        let all : AllByRecursion (IsThere asks) (questions_sent messages ++ n ∷ left) =
        subst (λ l. AllByRecursion (IsThere asks) l) (sym parts) (fitting_there sizes asks) in
        absurd (one_of (IsThere asks) (questions_sent messages) n left all none)

quiet_by : (asks : List Ask) (messages : List Message) (s : TapState) → AllSaid asks s → AreOwn asks messages s
    → IsQuiet s
quiet_by asks messages s (AllSaid.alone greeted none) own = record {
  target = greeted.target;
  debugger = λ d t. absurd cc;
  sizes = λ t. absurd cc;
  commands = λ t. absurd cc;
  packets = λ d t. absurd cc;
  questions = λ t. absurd cc;
}
quiet_by asks messages s (AllSaid.all_sent joined none packet question) own = record {
  target = joined.greeted.target;
  debugger = λ d t. was_greeted _ _ _ joined.greeted.debugger d t;
  sizes = λ t. joined.asked_sizes;
  commands = λ t. none;
  packets = λ d t. no_packet packet (was_greeted _ _ _ joined.greeted.debugger d t);
  questions = λ t. questions_wait asks messages s own question;
}
  where
    no_packet : NoPacket s → s.greeted.debugger ≡ true → s.packets ≡ []
    no_packet (NoPacket.no_packet is) greeted = is
    no_packet (NoPacket.not_greeted none_yet) greeted = absurd cc

pub is_quiet : {limits : Limits} {asks : List Ask} {log : List Entry} {messages : List Message} {turns : ℕ}
    {s : TapState} → Tapping limits asks log messages turns s → step asks s ≡ Step.waits → IsQuiet s
is_quiet {asks} {s = s} t h = quiet_by asks _ s (rest_by asks s h).debugger.all_said (are_own t)

-- Answers -------------------------------------------------------------------------------------------------------------

-- before the sizes of ids are known no question was sent, and none has a reply
record NoneYet (messages : List Message) (s : TapState) : Type 0 where
  pub sent : s.asking.sizes ≡ None → (id n : ℕ) → sent_under id messages ≡ Some (of_question n) → ⊥
  pub replied : s.asking.sizes ≡ None → (n : ℕ) → reply_in n messages ≡ None

-- one more command of another kind
other_sent : (id next n : ℕ) (owner : Owner) (earlier : Option Owner) → (owner ≡ of_question n → ⊥)
    → (earlier ≡ Some (of_question n) → ⊥) → cond (next == id) (Some owner) earlier ≡ Some (of_question n) → ⊥
other_sent id next n owner earlier other none = by (next == id)
  where
    by : (b : Bool) → cond b (Some owner) earlier ≡ Some (of_question n) → ⊥
    by true is = other cc
    by false is = none is

due_none : (asks : List Ask) (messages : List Message) (s : TapState) (what : Said) → IsDue asks s what
    → NoneYet messages s → NoneYet (said what ∷ messages) (after what s)
due_none asks messages s _ (IsDue.target_greeted a) none = record { sent = none.sent; replied = none.replied }
due_none asks messages s _ (IsDue.debugger_greeted a b) none = record { sent = none.sent; replied = none.replied }
due_none asks messages s _ (IsDue.asks_sizes a b c) none = record {
  sent = λ is id n. other_sent id (id_of s.sent.next) n Sizes (sent_under id messages) (λ e. absurd cc)
      (none.sent is id n);
  replied = none.replied;
}
due_none asks messages s _ (IsDue.passes {command} a b c) none = record {
  sent = λ is id n. other_sent id (id_of s.sent.next) n _ (sent_under id messages) (λ e. absurd cc)
      (none.sent is id n);
  replied = none.replied;
}
due_none asks messages s _ (IsDue.hands_on a b c d) none = record { sent = none.sent; replied = none.replied }
due_none asks messages s _ (IsDue.asks_question a b c d e f g) none =
    record { sent = λ is id n. absurd cc; replied = none.replied }

heard_none : (asks : List Ask) (messages : List Message) (s s' : TapState) (message : Message)
    → IsHeard asks s message s' → AreLatest messages s → NoneYet messages s → NoneYet (message ∷ messages) s'
heard_none asks messages s _ _ (IsHeard.commanded a b) latest none =
    record { sent = none.sent; replied = none.replied }
heard_none asks messages s _ _ (IsHeard.told a b) latest none = record { sent = none.sent; replied = none.replied }
heard_none asks messages s _ _ (IsHeard.replied {id} a b) latest none = record {
  sent = none.sent;
  replied = λ is n. let whose = latest id _ a.pending in rw whose (none.replied is n);
}
heard_none asks messages s _ _ (IsHeard.answered {id} {question = question} a b c d) latest none = record {
  sent = none.sent;
  replied = λ is n. absurd (none.sent is id question (latest id _ a.pending));
}
heard_none asks messages s _ _ (IsHeard.refused {id} {question = question} a b) latest none = record {
  sent = none.sent;
  replied = λ is n. absurd (none.sent is id question (latest id _ a.pending));
}

learnt_none : (asks : List Ask) (messages : List Message) (s s' : TapState) (packet : Packet) (numbers : List ℕ)
    (sizes : IdSizes) → IsLearnt asks s packet numbers s' → NoneYet messages s
    → NoneYet (tells packet ∷ messages) (with_sizes asks sizes s')
learnt_none asks messages s _ _ _ sizes (IsLearnt.sized a b c d) none =
    record { sent = λ is id n. absurd cc; replied = λ is n. absurd cc }

come_none : (messages : List Message) (s s' : TapState) (entry : Entry) → Comes s entry s' → NoneYet messages s
    → NoneYet messages s'
come_none messages s _ _ Comes.of_debugger none = record { sent = none.sent; replied = none.replied }
come_none messages s _ _ Comes.of_target none = record { sent = none.sent; replied = none.replied }
come_none messages s _ _ Comes.passes_quiet none = record { sent = none.sent; replied = none.replied }

none_yet : {limits : Limits} {asks : List Ask} {log : List Entry} {messages : List Message} {turns : ℕ}
    {s : TapState} → Tapping limits asks log messages turns s → NoneYet messages s
none_yet Tapping.begins = record { sent = λ is id n e. absurd cc; replied = λ is n. refl }
none_yet (Tapping.says t h) = due_none _ _ _ _ (due_by _ _ h) (none_yet t)
none_yet (Tapping.hears t h) = heard_none _ _ _ _ _ (heard_by _ _ h) (are_latest t) (none_yet t)
none_yet (Tapping.learns {sizes} t h e) = learnt_none _ _ _ _ _ _ sizes (learnt_by _ _ h) (none_yet t)
none_yet (Tapping.happens t listens comes) = come_none _ _ _ _ comes (none_yet t)

-- what is said changes no answer
due_answers : (asks : List Ask) (s : TapState) (what : Said) → IsDue asks s what
    → ((after what s).asking.answers ≡ s.asking.answers) × ((after what s).asking.sizes ≡ s.asking.sizes)
due_answers asks s _ (IsDue.target_greeted a) = (refl, refl)
due_answers asks s _ (IsDue.debugger_greeted a b) = (refl, refl)
due_answers asks s _ (IsDue.asks_sizes a b c) = (refl, refl)
due_answers asks s _ (IsDue.passes a b c) = (refl, refl)
due_answers asks s _ (IsDue.hands_on a b c d) = (refl, refl)
due_answers asks s _ (IsDue.asks_question a b c d e f g) = (refl, refl)

due_replies : (asks : List Ask) (messages : List Message) (s : TapState) (what : Said) → IsDue asks s what
    → AreReplies asks messages s → AreReplies asks (said what ∷ messages) (after what s)
due_replies asks messages s what due r =
    let same = due_answers asks s what due in
    record {
      as_many = ap (λ (l : List Reached). length l) same.0 ∙ r.as_many;
      each = λ n ask there. ap (λ (l : List Reached). slice_get l n) same.0
          ∙ (r.each n ask there
          ∙ ap (λ (o : Option IdSizes). Some (reached_by o ask (reply_in n messages))) (sym same.1));
    }

-- a reply to a question
module _ (asks : List Ask) (messages : List Message) (s : TapState) (r : AreReplies asks messages s)
    (id error question : ℕ) (body : List ℕ) (reached : Reached)
    (whose : sent_under id messages ≡ Some (of_question question))
    (is : (ask : Ask) → slice_get asks question ≡ Some ask
    → reached ≡ reached_by s.asking.sizes ask (Some (error, body))) where
  reached_each : (n : ℕ) (ask : Ask) → slice_get asks n ≡ Some ask
      → slice_get (slice_set s.asking.answers question reached) n
      ≡ Some (reached_by s.asking.sizes ask (reply_in n (tells (reply_packet id error body) ∷ messages)))
  reached_each n ask there = rw whose (by (question == n) refl)
    where
      by : (b : Bool) → (question == n) ≡ b → slice_get (slice_set s.asking.answers question reached) n
          ≡ Some (reached_by s.asking.sizes ask (cond b (Some (error, body)) (reply_in n messages)))
      by true same =
          let e : question ≡ n = eqb-true question n same in
          let less = within asks n ask there in
          let many = r.as_many in
          subst (λ k. slice_get (slice_set s.asking.answers k reached) n
          ≡ Some (reached_by s.asking.sizes ask (Some (error, body)))) (sym e)
          (set_here s.asking.answers n reached (omega (arith, less, many))
          ∙ ap (λ (x : Reached). Some x)
          (is ask (subst (λ k. slice_get asks k ≡ Some ask) (sym e) there)))
      by false differ =
          set_there s.asking.answers question n reached (eqb-false question n differ) ∙ r.each n ask there

  reached_many : length (slice_set s.asking.answers question reached) ≡ length asks
  reached_many = length-set s.asking.answers question reached ∙ r.as_many

heard_replies : (asks : List Ask) (messages : List Message) (s s' : TapState) (message : Message)
    → IsHeard asks s message s' → AreLatest messages s → AreReplies asks messages s
    → AreReplies asks (message ∷ messages) s'
heard_replies asks messages s _ _ (IsHeard.commanded a b) latest r = record { as_many = r.as_many; each = r.each }
heard_replies asks messages s _ _ (IsHeard.told a b) latest r = record { as_many = r.as_many; each = r.each }
heard_replies asks messages s _ _ (IsHeard.replied {id} a b) latest r = record {
  as_many = r.as_many;
  each = λ n ask there. let whose = latest id _ a.pending in rw whose (r.each n ask there);
}
heard_replies asks messages s _ _ (IsHeard.answered {id} {error} {n} {question} {body} {ask} {answer} a b c d)
    latest r =
    let whose = latest id _ a.pending in
    let is : (other : Ask) → slice_get asks question ≡ Some other
    → an_answer answer ≡ reached_by s.asking.sizes other (Some (error, body)) =
    λ other there.
    let same : ask ≡ other = cc in
    let reads : answer_at (serving s.asking.sizes) (a_question other.question) body ≡ Ok answer =
    subst (λ (x : Ask). answer_at (serving s.asking.sizes) (a_question x.question) body ≡ Ok answer) same d in
    rw (b, reads) refl in
    record {
      as_many = reached_many asks messages s r id error question body (an_answer answer) whose is;
      each = reached_each asks messages s r id error question body (an_answer answer) whose is;
    }
heard_replies asks messages s _ _ (IsHeard.refused {id} {error} {n} {question} {body} a b) latest r =
    let whose = latest id _ a.pending in
    let is : (other : Ask) → slice_get asks question ≡ Some other
    → an_error error ≡ reached_by s.asking.sizes other (Some (error, body)) = λ other there. rw b refl in
    record {
      as_many = reached_many asks messages s r id error question body (an_error error) whose is;
      each = reached_each asks messages s r id error question body (an_error error) whose is;
    }

learnt_replies : (asks : List Ask) (messages : List Message) (s s' : TapState) (packet : Packet) (numbers : List ℕ)
    (sizes : IdSizes) → IsLearnt asks s packet numbers s' → AreLatest messages s → IsAskedOnce s
    → NoneYet messages s → AreReplies asks messages s
    → AreReplies asks (tells packet ∷ messages) (with_sizes asks sizes s')
learnt_replies asks messages s _ _ _ sizes (IsLearnt.sized {id} a b c d) latest once none r =
    let unknown_yet = (learnt_once asks s _ _ _ sizes (IsLearnt.sized a b c d) once).1 in
    let whose = latest id _ a.pending in
    record {
      as_many = length-map asks (unanswered sizes);
      each = λ n ask there.
          rw (whose, none.replied unknown_yet n) (slice_get-map (unanswered sizes) asks n ask there);
    }

come_replies : (asks : List Ask) (messages : List Message) (s s' : TapState) (entry : Entry) → Comes s entry s'
    → AreReplies asks messages s → AreReplies asks messages s'
come_replies asks messages s _ _ Comes.of_debugger r = record { as_many = r.as_many; each = r.each }
come_replies asks messages s _ _ Comes.of_target r = record { as_many = r.as_many; each = r.each }
come_replies asks messages s _ _ Comes.passes_quiet r = record { as_many = r.as_many; each = r.each }

pub are_replies : {limits : Limits} {asks : List Ask} {log : List Entry} {messages : List Message} {turns : ℕ}
    {s : TapState} → Tapping limits asks log messages turns s → AreReplies asks messages s
are_replies {asks} Tapping.begins = record {
  as_many = length-map asks (λ (ask : Ask). Never);
  each = λ n ask there. slice_get-map (λ (ask : Ask). Never) asks n ask there;
}
are_replies (Tapping.says t h) = due_replies _ _ _ _ (due_by _ _ h) (are_replies t)
are_replies (Tapping.hears t h) = heard_replies _ _ _ _ _ (heard_by _ _ h) (are_latest t) (are_replies t)
are_replies (Tapping.learns {sizes} t h e) =
    learnt_replies _ _ _ _ _ _ sizes (learnt_by _ _ h) (are_latest t) (are_once t) (none_yet t) (are_replies t)
are_replies (Tapping.happens t listens comes) = come_replies _ _ _ _ _ comes (are_replies t)
