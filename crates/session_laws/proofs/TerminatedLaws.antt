-- `terminated` is told at most once, and once where an ending is told to the client.
use Rattle.std.proofs.Common.{◌≡◌, ℕ, ◌+◌, ◌≤◌, Bool, true, false, cond, not, List, [], ◌∷◌, ◌++◌, map, refl, sym, ap}
use Rattle.std.proofs.Common.{subst, ◌∙◌, append_assoc, arith}
use Rattle.std.proofs.lemmas.List.Sums.{sum_by-append, sum_by-cons, sum_by_push}
use Rattle.std.specs.Prelude.{count_by}
use Rattle.dap_messages.specs.declared.told.Event.TheVariants as events
use Rattle.machine_model.specs.Knowing.{AreSaid, View, come_view, deed_view, is_farewell, learnt_view, may_be}
use Rattle.machine_model.specs.Knowing.{replied_view, says, says_dead, sent_view}
use Rattle.machine_model.specs.Pending.{bit}
use Rattle.machine_model.specs.Rest.{without_response}
use Rattle.machine_model.specs.Runs.{Message}
use Rattle.machine_model.specs.State.{Machine, is_gone}
use Rattle.machine_laws.proofs.KnowingLaws.{is_known}
use Rattle.session_model.specs.LastWords.{LastWord, end_word, fails_gone, last_words}
use Rattle.session_laws.specs.Leaving.{must_run_on}
use Rattle.session_model.specs.Names.{a_question, a_response, an_effect, an_event, Clear, Composite, Deed, Dispose}
use Rattle.session_model.specs.Names.{Does, Entry, Exit, Limits, Replied, Request, Resume, Set, Suspend}
use Rattle.session_model.specs.Names.{TargetCommand, Writes}
use Rattle.session_laws.specs.Responses.{tells_client}
use Rattle.session_model.specs.Session.{Ended, EndedState}
use Rattle.session_laws.specs.Terminating.{IsToldOnce, by_message, by_word}
use Rattle.session_laws.proofs.LeavingLaws.{word_to_target, words_are, words_to_client}
use Rattle.session_laws.proofs.RunLaws.{is_run}
use Rattle.session_laws.proofs.ServeLaws.{Rests, rests, tells_first}
use Rattle.session_laws.proofs.TurnLaws.{are_said}

-- Messages ------------------------------------------------------------------------------------------------------------

-- how often a message tells it
abbrev in_message : Message → ℕ
in_message message = cond (by_message message) 1 0

-- other messages leave it as it was
same_deed : (deed : Deed) (view : View) → (deed_view deed view).terminated ≡ view.terminated
same_deed Suspend view = refl
same_deed (Resume suspension) view = refl
same_deed Dispose view = refl
same_deed Exit view = refl
same_deed (Writes write) view = refl

same_sent : (command : TargetCommand) (view : View) → (sent_view command view).terminated ≡ view.terminated
same_sent (a_question question) view = refl
same_sent (an_effect (Does deed)) view = same_deed deed view
same_sent (an_effect (Set wish)) view = refl
same_sent (an_effect (Clear wish request)) view = refl

same_learnt : (command : TargetCommand) (replied : Replied) (view : View)
    → (learnt_view command replied view).terminated ≡ view.terminated
same_learnt (a_question question) replied view = grind arith
same_learnt (an_effect effect) replied view = refl

same_replied : (gone ended : Bool) (command : TargetCommand) (replied : Replied) (view : View)
    → (replied_view gone ended command replied view).terminated ≡ view.terminated
same_replied true ended command replied view = refl
same_replied false true command replied view = refl
same_replied false false command replied view = same_learnt command replied view

same_come : (gone : Bool) (composite : Composite) (view : View)
    → (come_view gone composite view).terminated ≡ view.terminated
same_come true composite view = refl
same_come false composite view = refl

as_before : (was now : Bool) → now ≡ was → bit was + 0 ≡ bit now
as_before was now is = omega (arith, ap bit is)

-- it is told only where it wasn't
first_time : (gone dying terminated : Bool)
    → cond gone (not terminated) (cond dying (not terminated) false) ≡ true → bit terminated + 1 ≡ 1
first_time true dying true is = cc
first_time true dying false is = refl
first_time false true true is = cc
first_time false true false is = refl
first_time false false terminated is = cc

tells_then : (message : Message) (view : View) → may_be view message ≡ true
    → bit view.terminated + in_message message ≡ bit (says message view).terminated
tells_then (Message.hears request) view may = as_before view.terminated view.terminated refl
tells_then (Message.tells (a_response response)) view may = as_before view.terminated view.terminated refl
tells_then (Message.tells (an_event events.Initialized)) view may = as_before view.terminated view.terminated refl
tells_then (Message.tells (an_event (events.Breakpoint breakpoint))) view may =
    as_before view.terminated view.terminated refl
tells_then (Message.tells (an_event (events.Thread change))) view may =
    as_before view.terminated view.terminated refl
tells_then (Message.tells (an_event (events.Stopped stop))) view may =
    as_before view.terminated view.terminated refl
tells_then (Message.tells (an_event (events.Output text))) view may =
    as_before view.terminated view.terminated refl
tells_then (Message.tells (an_event events.Terminated)) view may =
    first_time (is_gone view.phase) view.dying view.terminated may
tells_then (Message.sends command) view may =
    as_before view.terminated (sent_view command view).terminated (same_sent command view)
tells_then Message.greets view may = as_before view.terminated view.terminated refl
tells_then Message.greeted view may = as_before view.terminated view.terminated refl
tells_then (Message.answers command replied) view may =
    as_before view.terminated (says (Message.answers command replied) view).terminated
    (same_replied (is_gone view.phase) (cond (is_farewell command) false (says_dead replied)) command replied view)
tells_then Message.ends view may = as_before view.terminated view.terminated refl
tells_then (Message.comes at composite) view may =
    as_before view.terminated (come_view (is_gone view.phase) composite view).terminated
    (same_come (is_gone view.phase) composite view)
tells_then (Message.keeps at body) view may = as_before view.terminated view.terminated refl
tells_then (Message.reads at body composite) view may =
    as_before view.terminated (come_view (is_gone view.phase) composite view).terminated
    (same_come (is_gone view.phase) composite view)

told_as_known : {messages : List Message} {view : View} → AreSaid messages view
    → count_by by_message messages ≡ bit view.terminated
told_as_known AreSaid.none = refl
told_as_known (AreSaid.turns composite others said attached waits) = told_as_known said
told_as_known (AreSaid.one_more {messages} {view} message may said) =
    sum_by_push in_message messages message ∙ ap (λ (n : ℕ). n + in_message message) (told_as_known said)
    ∙ tells_then message view may

-- Last words ----------------------------------------------------------------------------------------------------------

abbrev in_word : LastWord → ℕ
in_word word = cond (by_word word) 1 0

abbrev in_words : List LastWord → ℕ
in_words words = count_by by_word words

-- a Dispose is the last of these words, if there is one
abbrev is_ordered : List LastWord → Bool
is_ordered [] = true
is_ordered (LastWord.tells told ∷ words) = is_ordered words
is_ordered (LastWord.disposes ∷ []) = true
is_ordered (LastWord.disposes ∷ word ∷ words) = false

-- requests that fail, and what comes then
fails_ordered : (requests : List Request) (more : List LastWord) → is_ordered more ≡ true
    → is_ordered (map fails_gone requests ++ more) ≡ true
fails_ordered [] more is = is
fails_ordered (request ∷ requests) more is = fails_ordered requests more is

fails_in : (requests : List Request) (more : List LastWord)
    → in_words (map fails_gone requests ++ more) ≡ in_words more
fails_in [] more = refl
fails_in (request ∷ requests) more =
    sum_by-cons in_word (fails_gone request) (map fails_gone requests ++ more) ∙ none_more (fails_in requests more)
  where
    none_more : {n k : ℕ} → n ≡ k → 0 + n ≡ k
    none_more is = omega (arith, is)

end_ordered : (terminated must : Bool) → is_ordered (end_word terminated ++ word_to_target must) ≡ true
end_ordered true true = refl
end_ordered true false = refl
end_ordered false true = refl
end_ordered false false = refl

end_in : (terminated must : Bool) → in_words (end_word terminated ++ word_to_target must) ≡ bit (not terminated)
end_in true true = refl
end_in true false = refl
end_in false true = refl
end_in false false = refl

-- the words of an ending
all_ordered : (tells must : Bool) (m : Machine) → is_ordered (words_to_client tells m ++ word_to_target must) ≡ true
all_ordered true must m =
    subst (λ (words : List LastWord). is_ordered words ≡ true)
    (sym (append_assoc (map fails_gone (without_response m)) (end_word m.state.terminated) (word_to_target must)))
    (fails_ordered (without_response m) (end_word m.state.terminated ++ word_to_target must)
    (end_ordered m.state.terminated must))
all_ordered false true m = refl
all_ordered false false m = refl

all_in : (tells must : Bool) (m : Machine)
    → in_words (words_to_client tells m ++ word_to_target must) ≡ cond tells (bit (not m.state.terminated)) 0
all_in true must m =
    ap (λ (words : List LastWord). in_words words)
    (append_assoc (map fails_gone (without_response m)) (end_word m.state.terminated) (word_to_target must))
    ∙ fails_in (without_response m) (end_word m.state.terminated ++ word_to_target must)
    ∙ end_in m.state.terminated must
all_in false true m = refl
all_in false false m = refl

-- where the next word goes to no client, it is told no more
none_behind : (said rest : List LastWord) → is_ordered (said ++ rest) ≡ true → tells_first rest ≡ false
    → in_words rest ≡ 0
none_behind [] [] is first = refl
none_behind [] (LastWord.tells told ∷ rest) is first = cc
none_behind [] (LastWord.disposes ∷ []) is first = refl
none_behind [] (LastWord.disposes ∷ word ∷ rest) is first = cc
none_behind (LastWord.tells told ∷ said) rest is first = none_behind said rest is first
none_behind (LastWord.disposes ∷ []) [] is first = refl
none_behind (LastWord.disposes ∷ []) (word ∷ rest) is first = cc
none_behind (LastWord.disposes ∷ word ∷ said) rest is first = cc

-- In all --------------------------------------------------------------------------------------------------------------

one_in_all : (terminated : Bool) → bit terminated + bit (not terminated) ≡ 1
one_in_all true = refl
one_in_all false = refl

some_in : (tells terminated : Bool) → cond tells (bit (not terminated)) 0 ≤ bit (not terminated)
some_in true terminated = omega arith
some_in false terminated = omega arith

one_at_most : (told said rest was left all : ℕ) → told ≡ was → said + rest ≡ all → all ≤ left → was + left ≡ 1
    → told + said ≤ 1
one_at_most told said rest was left all before parts some whole = omega arith

just_one : (told said rest was left : ℕ) → told ≡ was → said + rest ≡ left → rest ≡ 0 → was + left ≡ 1
    → told + said ≡ 1
just_one told said rest was left before parts none whole = omega arith

module _ {limits : Limits} {log : List Entry} {messages : List Message} {turns : ℕ} {e : EndedState}
    (h : Ended limits log messages turns e) where
  before : count_by by_message messages ≡ bit e.last.machine.state.terminated
  before = told_as_known (is_known messages e.last.machine (is_run h.going)).said

  parts : (r : Rests (last_words e.ending e.last.machine) e.said e.left log)
      → in_words e.said + in_words r.rest
      ≡ cond (tells_client e.ending) (bit (not e.last.machine.state.terminated)) 0
  parts r =
      sym (sum_by-append in_word e.said r.rest)
      ∙ ap (λ (words : List LastWord). in_words words) (r.all ∙ words_are e.ending e.last.machine)
      ∙ all_in (tells_client e.ending) (must_run_on e.ending e.last.machine.state.phase) e.last.machine

  no_more : (r : Rests (last_words e.ending e.last.machine) e.said e.left log) → tells_first r.rest ≡ false
      → in_words r.rest ≡ 0
  no_more r first =
      none_behind e.said r.rest
      (subst (λ (words : List LastWord). is_ordered words ≡ true) (sym (r.all ∙ words_are e.ending e.last.machine))
      (all_ordered (tells_client e.ending) (must_run_on e.ending e.last.machine.state.phase) e.last.machine)) first

  pub is_told_once : IsToldOnce log messages e
  is_told_once =
      let r = rests h (are_said h.words) in
      let whole = one_in_all e.last.machine.state.terminated in
      record {
        at_most = one_at_most (count_by by_message messages) (in_words e.said) (in_words r.rest)
            (bit e.last.machine.state.terminated) (bit (not e.last.machine.state.terminated))
            (cond (tells_client e.ending) (bit (not e.last.machine.state.terminated)) 0) before (parts r)
            (some_in (tells_client e.ending) e.last.machine.state.terminated) whole;
        once = λ told none kept. just_one (count_by by_message messages) (in_words e.said) (in_words r.rest)
            (bit e.last.machine.state.terminated) (bit (not e.last.machine.state.terminated)) before (parts r
            ∙ ap (λ (tells : Bool). cond tells (bit (not e.last.machine.state.terminated)) 0) told)
            (no_more r (r.later none kept)) whole;
      }
