-- Where a session waits and nothing is pending, the machine is at rest.
use Rattle.std.proofs.Common.{◌≡◌, ℕ, ◌⊎◌, inl, inr, Bool, true, false, cond, not, List, [], ◌∷◌, length, Option, Some}
use Rattle.std.proofs.Common.{None, refl, sym, ap, subst, ◌∙◌, arith}
use Rattle.machine_model.specs.Due.{can_read, due}
use Rattle.machine_model.specs.Pending.{goes_out}
use Rattle.machine_model.specs.Replying.{pending_in, pending_of}
use Rattle.machine_model.specs.Rest.{AreAnswered, IsAtRest, awaits_greeting, hand_silent, is_silent, responses_of}
use Rattle.machine_model.specs.Runs.{Allows, Message, said}
use Rattle.machine_model.specs.State.{Hand, has_waiting, is_flying, is_gone}
use Rattle.machine_steps.proofs.PendingLaws.{pending_is}
use Rattle.machine_steps.proofs.ServedLaws.{are_served}
use Rattle.machine_steps.proofs.TurnLaws.{none_flies, none_out}
use Rattle.session_model.specs.Causes.{IsWaiting}
use Rattle.session_model.specs.Names.{a_question, Act, Entry, Limits, Question}
use Rattle.session_laws.specs.Resting.{IsAnswered}
use Rattle.session_model.specs.Session.{Going}
use Rattle.session_model.specs.States.{SessionState, due_now, id_pending}
use Rattle.session_laws.proofs.GreetLaws.{pending_all, sent_all}
use Rattle.session_laws.proofs.PendingLaws.{same_pending}
use Rattle.session_laws.proofs.QuietLaws.{due_same}
use Rattle.session_laws.proofs.ReplyLaws.{is_said}
use Rattle.session_laws.proofs.RunLaws.{is_run}
use Rattle.pending_table.specs.Windows.{Window}

none_in : (hand : Option Hand) → hand_silent hand ≡ true → pending_in hand ≡ []
none_in None is = refl
none_in (Some hand) is =
    let (lands, silent) = by_tests (is_flying hand.effect) (has_waiting hand.asked) is in
    rw (none_out hand.asked silent, none_flies hand.effect lands) refl
  where
    by_tests : (flies waits : Bool) → cond flies false (not waits) ≡ true
        → (flies ≡ false) × (waits ≡ false)
    by_tests true waits is = cc
    by_tests false true is = cc
    by_tests false false is = (refl, refl)

-- nothing is pending by the machine, nor under an id
near_silent : (gone read : Bool) (hand : Bool) → gone ≡ false → cond gone true (cond read false hand) ≡ true
    → hand ≡ true
near_silent true read hand near is = cc
near_silent false true hand near is = cc
near_silent false false hand near is = is

none_listed : {A : Type 0} (xs : List A) → length xs ≡ 0 → xs ≡ []
none_listed [] is = refl
none_listed (x ∷ xs) is = absurd (omega (arith, is))

free_id : (window : Window) → window.sent ≡ [] → id_pending window ≡ false
free_id window none = rw none refl

no_asking : {act : Act} (question : Question) → act ≡ Act.Asks question → act ≡ Act.Waits → ⊥
no_asking question asks waits = let no : Act.Asks question ≡ Act.Waits = sym asks ∙ waits in cc

module _ {limits : Limits} {log : List Entry} {messages : List Message} {turns : ℕ} {s : SessionState}
    (g : Going limits log messages turns s) (w : IsWaiting limits s) (silent : is_silent s.machine ≡ true) where
  none_pending : is_gone s.machine.state.phase ≡ false → pending_of s.machine ≡ []
  none_pending near =
      rw ((pending_is messages s.machine (is_run g)).in_hand near)
      (none_in s.machine.hand
      (near_silent (is_gone s.machine.state.phase) (can_read s.machine) (hand_silent s.machine.hand) near silent))

  none_under : is_gone s.machine.state.phase ≡ false → s.streams.commands.sent ≡ []
  none_under near =
      let same = same_pending (λ asked. true) (is_run g) (is_said g) in
      let mine = sent_all s.streams.commands.sent in
      let machine = pending_all (pending_of s.machine) in
      let none = ap (λ commands. length commands) (none_pending near) in
      none_listed s.streams.commands.sent (omega arith)

  not_asking : (question : Question) (gone : Bool) → is_gone s.machine.state.phase ≡ gone
      → (due false s.machine).act ≡ Act.Asks question → ⊥
  not_asking question true far asks =
      let out : goes_out (Message.sends (a_question question)) ≡ false =
      (pending_is messages s.machine (is_run g)).gone (Message.sends (a_question question)) (due false s.machine).next
      (Allows.acts (ap said asks)) far in cc
  not_asking question false near asks =
      let free = free_id s.streams.commands (none_under near) in
      no_asking question asks
      (ap (λ pending. (due pending s.machine).act) (sym free) ∙ w.reads.reads.nothing_due)

  nothing_due : (due false s.machine).act ≡ Act.Waits
  nothing_due = by_same (due_same (id_pending s.streams.commands) s.machine)
    where
      by_same : ((due_now s).act ≡ (due false s.machine).act)
          ⊎ ((question : Question) × ((due false s.machine).act ≡ Act.Asks question))
          → (due false s.machine).act ≡ Act.Waits
      by_same (inl same) = sym same ∙ w.reads.reads.nothing_due
      by_same (inr (question, asks)) =
          absurd (not_asking question (is_gone s.machine.state.phase) refl asks)

  pub is_answered : awaits_greeting s.machine.state ≡ false → IsAnswered messages s.machine
  is_answered shaken =
      let rests : IsAtRest s.machine =
      record { nothing_due = nothing_due; nothing_pending = silent; no_greeting = shaken } in
      let served = are_served messages s.machine (is_run g) in
      record {
        at_rest = rests;
        answered = subst (λ requests. AreAnswered requests (responses_of messages)) (sym (served.all rests))
            served.responses;
      }
