-- Event requests stand as the messages say, each is set and cleared once, and at rest each is as the target replied.
use Rattle.std.proofs.Common.{◌≡◌, Bool, true, false, cond, not, ◌||◌, List, [], ◌∷◌, Option, Some, None, refl, sym, ap}
use Rattle.std.proofs.Common.{subst, ◌∙◌, arith, ◌&&◌}
use Rattle.std.specs.Prelude.{◌&&◌}
use Rattle.std.specs.List.{list_any}
use Rattle.std.proofs.lemmas.List.Sums.{fold-append}
use Rattle.jdwp_commands.specs.Answers.{kind_of_answer}
use Rattle.jdwp_commands.specs.declared.answer.Answer.TheVariants as answers
use Rattle.jdwp_commands.specs.declared.kind.CommandKind.TheVariants as kinds
use Rattle.jdwp_commands.specs.declared.kind.EffectKind.TheVariants as effect_kinds
use Rattle.machine_model.specs.Due.{due}
use Rattle.machine_model.specs.EventRequests.{AreStanding, Counted, IsNew, IsSentOnce, count, counted, installed_after}
use Rattle.machine_model.specs.EventRequests.{is_request, refused_after, refused_by_effect, refused_since, set_answered}
use Rattle.machine_model.specs.Replying.{IsReply}
use Rattle.machine_model.specs.Requests.{Wishes, effect_due, request_in, set_to, wishes_after}
use Rattle.machine_model.specs.Runs.{Allows, Message, Run, said}
use Rattle.machine_model.specs.State.{Machine, SizesRead, is_gone}
use Rattle.machine_steps.specs.Names.{Act, Answer, Clear, Does, Effect, Part, Replied, Set, TargetCommand, an_answer}
use Rattle.machine_steps.specs.Names.{an_effect, an_error}
use Rattle.machine_steps.proofs.RequestLaws.{IsDue, Settling, settling, settling_on, step_of, was_due}
use Rattle.machine_steps.proofs.RequestSteps.{Step, flying_in, is_deed, lands, near_before, parts_left, says_aside}
use Rattle.machine_steps.proofs.Stepping.{Loses, Moves, by_runs, moved, with_said, gone_on}
use Rattle.machine_steps.proofs.WishLemmas.{any_kept, any_with, cleared_once, due_clear, new_set_due}
use Rattle.wish_sets.proofs.NextLaws.{clears-is, installed_clear, surplus_clear}
use Rattle.wish_sets.proofs.OrderLaws.{any-insert}
use Rattle.wish_sets.proofs.WishLaws.{alike, equal_is, is_itself}
use Rattle.wish_sets.specs.Order.{has_wish, is_wish, wish_cmp}
use Rattle.wish_sets.specs.Tidy.{IsNewSet, IsTidy}
use Rattle.wish_sets.specs.Wished.{wished}
use Rattle.wish_sets.specs.Wishes.{EventRequest, is_surplus}
use Rattle.wish_sets.specs.declared.wish.Wish.{Wish}
use Rattle.wish_sets.proofs.TidyLaws.{kept_refusals}

-- One message more ----------------------------------------------------------------------------------------------------

abbrev pub count_said : Option Message → Counted → Counted
count_said None c = c
count_said (Some message) c = count c message

pub counted_on : (messages : List Message) (said : Option Message)
    → counted (with_said messages said) ≡ count_said said (counted messages)
unfolding counted
counted_on messages None = refl
counted_on messages (Some message) = fold-append count _ messages (message ∷ [])

count_aside : (said : Option Message) (c : Counted) → says_aside said ≡ true → count_said said c ≡ c
count_aside said c is = grind (arith, is)

-- Installed -----------------------------------------------------------------------------------------------------------

-- the same are installed
abbrev AreSame : List EventRequest → List EventRequest → Type 0
AreSame some others = (test : EventRequest → Bool) → list_any test some ≡ list_any test others

same_set : (wish : Wish) (answer : Answer) (w : Wishes) (installed : List EventRequest) → IsNewSet w wish
    → AreSame w.installed installed
    → AreSame (set_to (request_in (an_answer answer)) wish w).installed (set_answered wish answer installed)
same_set wish (answers.Set request) w installed new h test =
    any_with test (record { wish = wish; request = request }) w.installed new.not_installed
    ∙ ap (λ (b : Bool). test (record { wish = wish; request = request }) || b) (h test)
same_set wish _ w installed new h test = h test

same_replied : (w : Wishes) (parts : List Part) (effect : Effect) (replied : Replied) (installed : List EventRequest)
    → IsDue w parts (Some effect) → IsTidy w → AreSame w.installed installed
    → AreSame (wishes_after effect replied w).installed (installed_after effect replied installed)
same_replied w parts (Set wish) (an_answer answer) installed due tidy h test =
    same_set wish answer w installed (new_set_due w wish (due refl).0) h test
same_replied w parts (Clear wish request) (an_answer answer) installed due tidy h test =
    let keep : EventRequest → Bool = λ one. not (is_request wish request one) in
    ap (list_any test) (sym (cleared_once (is_surplus (wished w.wanted)) (record { wish = wish; request = request })
    w.installed tidy.installed_in_order
    (clears-is w (record { wish = wish; request = request }) (due_clear w wish request (due refl).0))))
    ∙ any_kept test keep w.installed ∙ h (λ one. keep one && test one) ∙ sym (any_kept test keep installed)
same_replied w parts _ _ installed due tidy h test = h test

same_on : (m next : Machine) (said : Option Message) (c : Counted) → Settling m → Step m next said
    → AreSame m.state.wishes.installed c.installed → AreSame next.state.wishes.installed (count_said said c).installed
same_on m next said c s (Step.aside quiet same flew left) h test =
    ap (λ (w : Wishes). list_any test w.installed) same ∙ h test
    ∙ sym (ap (λ (c : Counted). list_any test c.installed) (count_aside said c quiet))
same_on m next said c s (Step.wants wanted same none now needs) h test =
    ap (λ (w : Wishes). list_any test w.installed) same ∙ h test
same_on m next said c s (Step.sends same none flies due) h test =
    ap (λ (w : Wishes). list_any test w.installed) same ∙ h test
same_on m next said c s (Step.replies {effect} {replied} same flew none reply) h test =
    ap (λ (w : Wishes). list_any test w.installed) same
    ∙ same_replied m.state.wishes (parts_left m.hand) effect replied c.installed (was_due m effect s.awaited flew)
    s.tidy h test

-- the effect in flight
flying_on : (m next : Machine) (said : Option Message) (c : Counted) → Step m next said → c.flying ≡ flying_in m.hand
    → (count_said said c).flying ≡ flying_in next.hand
flying_on m next said c (Step.aside quiet same flew left) h =
    ap (λ (c : Counted). c.flying) (count_aside said c quiet) ∙ h ∙ sym flew
flying_on m next said c (Step.wants wanted same none now needs) h = h ∙ none ∙ sym now
flying_on m next said c (Step.sends same none flies due) h = sym flies
flying_on m next said c (Step.replies same flew none reply) h = sym none

-- Refused -------------------------------------------------------------------------------------------------------------

-- an answer to a Set has an id, and refuses nothing
refused_answered : (w : Wishes) (other wish : Wish) (answer : Answer) → IsNewSet w other
    → kind_of_answer answer ≡ kinds.Effect effect_kinds.Set
    → has_wish (set_to (request_in (an_answer answer)) other w).refused wish
    ≡ cond (is_wish wish other) false (has_wish w.refused wish)
refused_answered w other wish (answers.Set request) new is = by_test (is_wish wish other) refl
  where
    by_test : (b : Bool) → is_wish wish other ≡ b → has_wish w.refused wish ≡ cond b false (has_wish w.refused wish)
    by_test true same = ap (has_wish w.refused) (equal_is wish other same) ∙ new.not_refused
    by_test false same = refl
refused_answered w other wish _ new is = cc

or_cond : (a b : Bool) → (a || b) ≡ cond a true b
or_cond a b = grind arith

pub refused_replied : (sizes : Option SizesRead) (w : Wishes) (parts : List Part) (effect : Effect) (replied : Replied)
    (wish : Wish) → IsDue w parts (Some effect) → IsReply sizes (an_effect effect) replied
    → has_wish (wishes_after effect replied w).refused wish
    ≡ refused_by_effect wish effect replied (has_wish w.refused wish)
refused_replied sizes w parts (Does deed) replied wish due reply = refl
refused_replied sizes w parts (Set other) replied wish due (IsReply.with_answer {answer} used serves is good) =
    refused_answered w other wish answer (new_set_due w other (due refl).0) is.row
refused_replied sizes w parts (Set other) replied wish due (IsReply.with_error some tolerated) =
    any-insert wish_cmp (is_wish wish) (alike wish) other w.refused
    ∙ or_cond (is_wish wish other) (has_wish w.refused wish)
refused_replied sizes w parts (Clear other request) (an_answer answer) wish due reply = refl
refused_replied sizes w parts (Clear other request) (an_error code) wish due reply = refl

and_cond : (a b : Bool) → (a && b) ≡ cond a b false
and_cond a b = grind arith

abbrev pub refused_said : Wish → Option Message → Bool → Bool
refused_said wish None was = was
refused_said wish (Some message) was = refused_after wish message was

refused_aside : (wish : Wish) (said : Option Message) (was : Bool) → says_aside said ≡ true
    → refused_said wish said was ≡ was
refused_aside wish said was is = grind (arith, is)

-- what was refused is wished
kept_so : (wish : Wish) (w : Wishes) (was : Bool) → IsTidy w → has_wish w.refused wish ≡ was
    → has_wish w.refused wish ≡ cond (has_wish (wished w.wanted) wish) was false
kept_so wish w was tidy is = by_tests (has_wish (wished w.wanted) wish) was refl is
  where
    by_tests : (asked was : Bool) → has_wish (wished w.wanted) wish ≡ asked → has_wish w.refused wish ≡ was
        → has_wish w.refused wish ≡ cond asked was false
    by_tests false true e is = absurd (let h = tidy.refused_is_wished wish is in cc)
    by_tests _ _ e is = is

refused_on : {messages : List Message} {m : Machine} (r : Run messages m) (wish : Wish) (next : Machine)
    (said : Option Message) (was : Bool) → Moves m said next → is_gone next.state.phase ≡ false
    → has_wish m.state.wishes.refused wish ≡ was
    → has_wish next.state.wishes.refused wish
    ≡ cond (has_wish (wished next.state.wishes.wanted) wish) (refused_said wish said was) false
refused_on {messages} {m} r wish next said was moved here is = by_step said (step_of r next said moved here)
    (settling_on m next said s moved (step_of r next said moved here) here).tidy
  where
    s : Settling m
    s = settling r (near_before m next said moved here)

    by_step : (said : Option Message) → Step m next said → IsTidy next.state.wishes
        → has_wish next.state.wishes.refused wish
        ≡ cond (has_wish (wished next.state.wishes.wanted) wish) (refused_said wish said was) false
    by_step said (Step.aside quiet same flew left) tidy = kept_so wish next.state.wishes (refused_said wish said was)
        tidy (ap (λ (w : Wishes). has_wish w.refused wish) same ∙ is ∙ sym (refused_aside wish said was quiet))
    by_step said (Step.wants wanted same none now needs) tidy =
        ap (λ (w : Wishes). has_wish w.refused wish) same ∙ kept_refusals wanted m.state.wishes wish
        ∙ and_cond (has_wish (wished wanted) wish) (has_wish m.state.wishes.refused wish)
        ∙ ap (λ b. cond (has_wish (wished wanted) wish) b false) is
        ∙ ap (λ (w : Wishes). cond (has_wish (wished w.wanted) wish) was false) (sym same)
    by_step said (Step.sends same none flies due) tidy = kept_so wish next.state.wishes was tidy
        (ap (λ (w : Wishes). has_wish w.refused wish) same ∙ is)
    by_step said (Step.replies {effect} {replied} same flew none reply) tidy =
        kept_so wish next.state.wishes (refused_said wish said was) tidy
        (ap (λ (w : Wishes). has_wish w.refused wish) same
        ∙ refused_replied m.state.sizes m.state.wishes (parts_left m.hand) effect replied wish
        (was_due m effect s.awaited flew) reply ∙ ap (refused_said wish said) is)

are_refused : {messages : List Message} {m : Machine} (r : Run messages m) → is_gone m.state.phase ≡ false
    → (wish : Wish)
    → has_wish m.state.wishes.refused wish ≡ refused_since wish r
unfolding refused_since
are_refused Run.starts near wish = refl
are_refused (Run.goes {m} r is) here wish =
    let move = gone_on is in
    refused_on r wish (due false m).next None (refused_since wish r) move here
    (are_refused r (near_before m (due false m).next None move here) wish)
are_refused (Run.queues r may) here wish = are_refused r here wish
are_refused (Run.moves {m} {next} {message} r allows) here wish =
    let move = moved allows in
    refused_on r wish next (Some message) (refused_since wish r) move here
    (are_refused r (near_before m next (Some message) move here) wish)

-- The laws ------------------------------------------------------------------------------------------------------------

pub record AreCounted (messages : List Message) (m : Machine) : Type 0 where
  pub installed : AreSame m.state.wishes.installed (counted messages).installed
  pub flying : (counted messages).flying ≡ flying_in m.hand

counted_step : {messages : List Message} {m : Machine} (r : Run messages m) (next : Machine) (said : Option Message)
    → Settling m → Step m next said → AreCounted messages m → AreCounted (with_said messages said) next
counted_step {messages} {m} r next said s step h = record {
  installed = subst (λ (c : Counted). AreSame next.state.wishes.installed c.installed) (sym (counted_on messages said))
      (same_on m next said (counted messages) s step h.installed);
  flying = ap (λ (c : Counted). c.flying) (counted_on messages said)
      ∙ flying_on m next said (counted messages) step h.flying;
}

pub are_counted : {messages : List Message} {m : Machine} → Run messages m → is_gone m.state.phase ≡ false
    → AreCounted messages m
unfolding counted
are_counted r = by_runs {Holds = λ (messages : List Message) (m : Machine). is_gone m.state.phase ≡ false
    → AreCounted messages m} (record {
      starts = λ near. record { installed = λ test. refl; flying = refl };
      moves = λ messages m next said r h moved after here.
          let near = near_before m next said moved here in
          counted_step r next said (settling r near) (step_of r next said moved here) (h near);
      queues = λ messages m hand queue r may h near. let c = h near in
          record { installed = c.installed; flying = c.flying };
    }) r

pub are_standing : (messages : List Message) (m : Machine) (r : Run messages m) → is_gone m.state.phase ≡ false
    → AreStanding r
are_standing messages m r near = record {
  installed = (are_counted r near).installed;
  refused = are_refused r near;
  tidy = (settling r near).tidy;
}

-- an effect that is sent is due, and none is in flight
record IsSending (m : Machine) (effect : Effect) : Type 0 where
  near : is_gone m.state.phase ≡ false
  is_due : is_deed effect ≡ false → effect_due m.state.wishes ≡ Some effect
  none : flying_in m.hand ≡ None

is_sending : (m next : Machine) (message : Message) (effect : Effect) → Moves m (Some message) next
    → message ≡ Message.sends (an_effect effect) → IsSending m effect
is_sending m next message effect (Moves.sends {hand} {deed = deed} free at near) is =
    let same : Does deed ≡ effect = cc in record {
      near = near;
      is_due = λ no. absurd (let h = ap is_deed same in cc);
      none = lands m hand free near at.in_hand;
    }
is_sending m next message effect (Moves.updates {hand} {effect = sent} free at next_one near) is =
    let same : sent ≡ effect = cc in record {
      near = near;
      is_due = λ no. next_one ∙ ap Some same;
      none = lands m hand free near at.in_hand;
    }
is_sending m next message effect (Moves.loses late near why) is = absurd (not_lost why is)
  where
    not_lost : {message : Message} {late : List TargetCommand} → Loses m message late
        → ¬ (message ≡ Message.sends (an_effect effect))
    not_lost Loses.by_end is = cc
    not_lost _ is = cc
is_sending m next message effect _ is = absurd (cc)

is_new : {messages : List Message} {m : Machine} (r : Run messages m) (effect : Effect) → IsSending m effect
    → IsNew r effect
is_new r (Does deed) s = IsNew.a_deed
is_new {messages} {m} r (Set wish) s =
    let new = new_set_due m.state.wishes wish (s.is_due refl) in
    IsNew.new_set new.is_wished
    (sym ((are_counted r s.near).installed (λ one. is_wish wish one.wish)) ∙ new.not_installed)
    (sym (are_refused r s.near wish) ∙ new.not_refused)
is_new {messages} {m} r (Clear wish request) s =
    let one : EventRequest = record { wish = wish; request = request } in
    let is = due_clear m.state.wishes wish request (s.is_due refl) in
    IsNew.old_clear (surplus_clear m.state.wishes one is)
    (sym ((are_counted r s.near).installed (is_request wish request))
    ∙ installed_clear m.state.wishes one is (is_request wish request) (rw (is_itself wish) (grind arith)))

pub is_sent_once : (messages : List Message) (m : Machine) (r : Run messages m) (effect : Effect)
    → (due false m).act ≡ Act.Sends effect → IsSentOnce r effect
is_sent_once messages m r effect is =
    let s = is_sending m (due false m).next (Message.sends (an_effect effect)) effect
    (moved (Allows.acts (ap said is))) refl in
    record { none_flies = (are_counted r s.near).flying ∙ s.none; new = is_new r effect s }
