-- A look-up by a target's replies is the look-up in the target's world.
use Rattle.std.proofs.Common.{◌≡◌, ◌∙◌, ℕ, Bool, true, false, cond, refl, sym, ap, ⊎_elim}
use Rattle.std.specs.Prelude.{Err, ◌==◌}
use Rattle.joint_model.specs.Laws.{AreOfTarget, FailsAsThere, IsOfTarget, IsRefusedAs}
use Rattle.joint_model.specs.Obeying.{MayRefuse, Replies}
use Rattle.machine_model.specs.Facts.{is_of_class}
use Rattle.machine_model.specs.Lookups.{plan, sight_of}
use Rattle.machine_model.specs.Names.{Question, Replied, an_answer, an_error}
use Rattle.machine_model.specs.declared.acts.Want.{Want}
use Rattle.machine_model.specs.PlanLaws.{FailsFirst, IsOf, IsRefused, Reaches}
use Rattle.machine_model.specs.Plans.{Fault, Need, Plan, Sight, answer_in, fails, gives, has, lacks, pairs, refusal_by}
use Rattle.machine_model.specs.Plans.{tried_of, tries, wants}
use Rattle.machine_model.specs.State.{State}
use Rattle.machine_laws.proofs.PlanLaws.{both}
use Rattle.machine_laws.proofs.WorldLaws.{worlds}
use Rattle.world_model.specs.declared.world.World.{World}
use Rattle.world_model.specs.Replies.{reply_of}

-- whichever error the target chose, the world refuses
answered_alike : {w : World} {question : Question} {replied : Replied} → Replies w question replied
    → answer_in replied ≡ answer_in (reply_of w question)
answered_alike (Replies.says is) = ap answer_in (sym is)
answered_alike (Replies.refuses is may) = ap answer_in (sym is)

-- and says of a thread that it isn't there where the world's error says so
code_alike : (of_class : Bool) {usual code : ℕ} → MayRefuse of_class usual code
    → cond of_class false (code == 10) ≡ cond of_class false (usual == 10)
code_alike true may = refl
code_alike false may = may.no_thread refl

tried_alike : {w : World} {question : Question} {replied : Replied} → Replies w question replied
    → tried_of question replied ≡ tried_of question (reply_of w question)
tried_alike {question = question} (Replies.says is) = ap (tried_of question) (sym is)
tried_alike {question = question} (Replies.refuses is may) =
    ap (λ (says : Bool). Err (refusal_by says)) (code_alike (is_of_class question) may)
    ∙ ap (tried_of question) (sym is)

of_the_world : (w : World) (sight : Sight) → IsOfTarget w sight → IsOf (reply_of w) sight
of_the_world w sight is = record {
  replies = λ question replied stands. answered_alike (is.replies question replied stands);
  refusals = λ question replied stands. tried_alike (is.replies question replied stands);
  facts = is.facts;
}

-- what a plan has come to is one of its wants
reached : {A : Type 0} (sight : Sight) (Kind : Want → Type 0) (p : Plan A) → Reaches sight Kind p
    → (want : Want) × Kind want
reached sight Kind (gives a) h = absurd h
reached sight Kind (wants want rest) h =
    ⊎_elim (λ here. (want, here)) (λ more. reached sight Kind (rest more.0) more.2) h
reached sight Kind (tries question rest) h =
    ⊎_elim (λ here. (Want.May question, here)) (λ more. reached sight Kind (rest (tried_of question more.0)) more.2) h
reached sight Kind (pairs p q rest) h =
    ⊎_elim (λ either. ⊎_elim (λ one. reached sight Kind p one) (λ one. reached sight Kind q one) either)
    (λ more. reached sight Kind (rest more.0) more.3) h

refused_as : (w : World) (question : Question) (replied : Replied) (code : ℕ) → replied ≡ an_error code
    → Replies w question replied → IsRefusedAs w code
refused_as w question (an_answer answer) code same r = cc
refused_as w question (an_error other) code same (Replies.refuses {usual} is may) = record {
  question = question;
  usual = usual;
  is_refused = is;
  may_refuse = rw (let codes : code ≡ other = cc in codes) may;
}

refused_there : (w : World) (sight : Sight) (fault : Fault) (want : Want) → IsOfTarget w sight
    → IsRefused sight fault want → IsRefusedAs w fault.code
refused_there w sight fault (Want.Must question) is h =
    refused_as w question (an_error fault.code) fault.code refl
    (is.replies question (an_error fault.code) (record { place = fault.place; stands = h }))
refused_there w sight fault (Want.May question) is h = absurd h
refused_there w sight fault (Want.Fact question) is h = absurd h

fails_there : {A : Type 0} (w : World) (sight : Sight) (p : Plan A) (n : Need A) → IsOfTarget w sight
    → FailsFirst sight p n → FailsAsThere w n
fails_there w sight p (has value) is first = tt
fails_there w sight p (fails fault) is first =
    let met = reached sight (IsRefused sight fault) p first.met in refused_there w sight fault met.0 is met.1
fails_there w sight p (lacks want others) is first = tt

pub look_ups : (w : World) (state : State) → AreOfTarget w state
look_ups w state = record {
  agree = λ hand lookup is. (worlds (reply_of w) state).agree hand lookup (of_the_world w (sight_of state hand) is);
  fail = λ hand lookup is. fails_there w (sight_of state hand) (plan lookup state) _ is
      (both (sight_of state hand) (plan lookup state)).0;
  threads = (worlds (reply_of w) state).threads;
}
