-- All responses, those among the last words included, answer the first of the requests.
use Rattle.std.proofs.Common.{◌≡◌, ℕ, Bool, true, false, List, [], ◌∷◌, ◌++◌, map, refl, sym, ap, subst, ◌∙◌}
use Rattle.std.proofs.Common.{append_assoc, append-nil}
use Rattle.dap_messages.specs.Telling.{target_gone}
use Rattle.dap_messages.specs.declared.told.Outcome.TheVariants as outcomes
use Rattle.dap_messages.specs.declared.told.Response.{Response}
use Rattle.machine_model.specs.Rest.{AreAnswered, responses_of, without_response}
use Rattle.machine_model.specs.Runs.{Message}
use Rattle.machine_model.specs.State.{Machine}
use Rattle.machine_steps.proofs.ServedLaws.{owing}
use Rattle.session_laws.specs.Bytes.{HasLost}
use Rattle.session_model.specs.LastWords.{LastWord, client_words, end_word, fails_gone, last_words, target_words}
use Rattle.session_model.specs.Names.{Attached, BadClient, BadTarget, Client, ClientLink, Done, Ending, Entry, Flood}
use Rattle.session_model.specs.Names.{Fresh, Gone, Idle, Left, Limits, NoMemory, Phase, Request, Spent, TargetLink}
use Rattle.session_model.specs.Names.{TargetRefused}
use Rattle.session_laws.specs.Responses.{AreServedInAll, response_by_word, responses_said, tells_client}
use Rattle.session_model.specs.Session.{Ended, EndedState}
use Rattle.session_laws.proofs.RunLaws.{is_run}
use Rattle.session_laws.proofs.Steps.{lost_behind, lost_by}
use Rattle.session_laws.proofs.TurnLaws.{Said, are_said}

-- Words that answer nothing -------------------------------------------------------------------------------------------

abbrev AnswerNone : List LastWord → Type 0
AnswerNone [] = Unit {0}
AnswerNone (word ∷ words) = (response_by_word word ≡ []) × AnswerNone words

none_said : (said rest : List LastWord) → AnswerNone (said ++ rest) → responses_said said ≡ []
none_said [] rest h = refl
none_said (word ∷ said) rest h =
    ap (λ first. first ++ responses_said said) h.0 ∙ none_said said rest h.1

target_none : (phase : Phase) → AnswerNone (target_words phase)
target_none Fresh = tt
target_none Attached = (refl, tt)
target_none Gone = tt

end_none : (terminated : Bool) (more : List LastWord) → AnswerNone more → AnswerNone (end_word terminated ++ more)
end_none true more h = h
end_none false more h = (refl, h)

-- Requests that fail --------------------------------------------------------------------------------------------------

abbrev gone_response : Request → Response
gone_response request =
    record { request_seq = request.seq; command = request.name; outcome = outcomes.Failure target_gone }

-- the next word is told to the client
abbrev pub tells_first : List LastWord → Bool
tells_first [] = false
tells_first (LastWord.tells told ∷ words) = true
tells_first (LastWord.disposes ∷ words) = false

-- the first of these requests failed by what was said, and the others are left
record Fails (requests : List Request) (said rest : List LastWord) : Type 0 where
  pub done : List Request
  pub left : List Request
  pub requests_are : requests ≡ done ++ left
  pub responses : responses_said said ≡ map gone_response done
  pub all : tells_first rest ≡ false → left ≡ []

one_more : {requests : List Request} {rest : List LastWord} (request : Request) (word : LastWord)
    (said : List LastWord) → word ≡ fails_gone request → Fails requests said rest
    → Fails (request ∷ requests) (word ∷ said) rest
one_more request word said first h = record {
  done = request ∷ h.done;
  left = h.left;
  requests_are = ap (λ all. request ∷ all) h.requests_are;
  responses = ap (λ w. response_by_word w ++ responses_said said) first
      ∙ ap (λ others. gone_response request ∷ others) h.responses;
  all = h.all;
}

fail : (requests : List Request) (more said rest : List LastWord) → AnswerNone more
    → said ++ rest ≡ map fails_gone requests ++ more → Fails requests said rest
fail [] more said rest none is = record {
  done = [];
  left = [];
  requests_are = refl;
  responses = none_said said rest (subst (λ words. AnswerNone words) (sym is) none);
  all = λ _. refl;
}
fail (request ∷ requests) more [] rest none is = record {
  done = [];
  left = request ∷ requests;
  requests_are = refl;
  responses = refl;
  all = λ later. let tells : tells_first rest ≡ true = ap tells_first is in cc;
}
fail (request ∷ requests) more (word ∷ said) rest none is =
    let first : word ≡ fails_gone request = cc in
    let others : said ++ rest ≡ map fails_gone requests ++ more = cc in
    one_more request word said first (fail requests more said rest none others)

-- they are answered behind those that were
answer_on : (answered done : List Request) (responses : List Response) → AreAnswered answered responses
    → AreAnswered (answered ++ done) (responses ++ map gone_response done)
answer_on answered [] responses h =
    subst (λ all. AreAnswered all (responses ++ [])) (sym (append-nil answered))
    (subst (λ all. AreAnswered answered all) (sym (append-nil responses)) h)
answer_on answered (request ∷ done) responses h =
    subst (λ all. AreAnswered all (responses ++ map gone_response (request ∷ done)))
    (append_assoc answered (request ∷ []) done)
    (subst (λ all. AreAnswered ((answered ++ request ∷ []) ++ done) all)
    (append_assoc responses (gone_response request ∷ []) (map gone_response done))
    (answer_on (answered ++ request ∷ []) done (responses ++ gone_response request ∷ [])
    (AreAnswered.one_more h (record { seq = refl; command = refl }))))

-- Once it has ended ---------------------------------------------------------------------------------------------------

-- the words of an ending: those that fail the requests without a response, and such as answer none; or only such
data Words (m : Machine) (words : List LastWord) : Bool → Type 0 where
  to_client : (more : List LastWord) → AnswerNone more → words ≡ map fails_gone (without_response m) ++ more
      → Words m words true
  beside : AnswerNone words → Words m words false

both_words : (m : Machine) → Words m (client_words m ++ target_words m.state.phase) true
both_words m = Words.to_client (end_word m.state.terminated ++ target_words m.state.phase)
    (end_none m.state.terminated (target_words m.state.phase) (target_none m.state.phase))
    (append_assoc (map fails_gone (without_response m)) (end_word m.state.terminated) (target_words m.state.phase))

client_only : (m : Machine) → Words m (client_words m) true
client_only m = Words.to_client (end_word m.state.terminated)
    (subst (λ words. AnswerNone words) (append-nil (end_word m.state.terminated))
    (end_none m.state.terminated [] tt)) refl

words_of : (ending : Ending) (m : Machine) → Words m (last_words ending m) (tells_client ending)
words_of Done m = Words.beside tt
words_of Left m = Words.beside (target_none m.state.phase)
words_of (BadClient fault at) m = Words.beside (target_none m.state.phase)
words_of (BadTarget fault at id) m = client_only m
words_of ClientLink m = Words.beside (target_none m.state.phase)
words_of TargetLink m = client_only m
words_of (TargetRefused set command code) m = both_words m
words_of Idle m = both_words m
words_of Spent m = Words.beside (target_none m.state.phase)
words_of Flood m = Words.beside (target_none m.state.phase)
words_of NoMemory m = Words.beside tt

-- what was said, what is left of the words, and that no word to the client was cut short, unless its link failed
pub record Rests (words said left : List LastWord) (log : List Entry) : Type 0 where
  pub rest : List LastWord
  pub all : said ++ rest ≡ words
  pub later : left ≡ [] → ¬ HasLost Client log → tells_first rest ≡ false

no_word : (left : List LastWord) → left ≡ [] → tells_first left ≡ false
no_word left none = rw none refl

module _ {limits : Limits} {log : List Entry} {messages : List Message} {turns : ℕ} {e : EndedState}
    (h : Ended limits log messages turns e) where
  pub rests : Said (last_words e.ending e.last.machine) e.said e.left h.by_words e.streams
      → Rests (last_words e.ending e.last.machine) e.said e.left log
  rests (Said.whole all) = record { rest = e.left; all = all; later = λ none _. no_word e.left none }
  rests (Said.broken before (LastWord.tells told) unsaid all none proper is) = record {
    rest = LastWord.tells told ∷ unsaid;
    all = all;
    later = λ _ kept. absurd (kept (subst (λ l. HasLost Client l) (sym h.log_is)
        (lost_behind (h.before ++ h.by_cause) (subst (λ l. HasLost Client l) (sym is) (lost_by before Client _)))));
  }
  rests (Said.broken before LastWord.disposes unsaid all none proper is) =
      record { rest = LastWord.disposes ∷ unsaid; all = all; later = λ _ _. refl }

  by_words : (tells : Bool) → tells_client e.ending ≡ tells → Words e.last.machine (last_words e.ending e.last.machine)
      tells → Rests (last_words e.ending e.last.machine) e.said e.left log → AreServedInAll log messages e
  by_words tells is (Words.to_client more none words) r =
      let owes = owing (is_run h.going) in
      let f = fail (without_response e.last.machine) more e.said r.rest none (r.all ∙ words) in
      record {
        answered = owes.answered ++ f.done;
        left = f.left;
        requests = owes.requests ∙ ap (λ left. owes.answered ++ left) f.requests_are
            ∙ sym (append_assoc owes.answered f.done f.left);
        responses = subst (λ said. AreAnswered (owes.answered ++ f.done) (responses_of messages ++ said))
            (sym f.responses) (answer_on owes.answered f.done (responses_of messages) owes.responses);
        all = λ _ none_left kept. f.all (r.later none_left kept);
      }
  by_words tells is (Words.beside none) r =
      let owes = owing (is_run h.going) in
      let nothing = none_said e.said r.rest (subst (λ words. AnswerNone words) (sym r.all) none) in
      record {
        answered = owes.answered;
        left = without_response e.last.machine;
        requests = owes.requests;
        responses = subst (λ said. AreAnswered owes.answered said)
            (sym (ap (λ said. responses_of messages ++ said) nothing ∙ append-nil (responses_of messages)))
            owes.responses;
        all = λ tells _ _. cc;
      }

  pub are_served_in_all : AreServedInAll log messages e
  are_served_in_all =
      by_words (tells_client e.ending) refl (words_of e.ending e.last.machine) (rests (are_said h.words))
