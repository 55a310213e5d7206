-- What was refused of what an item can't do without: a question that is sent refuses nothing, and nor does a reply that
-- fails nothing.
use Rattle.std.proofs.Common.{◌≡◌, Bool, true, false, cond, List, [], ◌∷◌, ◌++◌, Option, Some, None, refl, sym, ap, ◌∙◌}
use Rattle.machine_model.specs.Plans.{asks_for}
use Rattle.machine_model.specs.Replying.{fails_by, filled, is_failed, waits_for}
use Rattle.machine_model.specs.State.{is_none}
use Rattle.machine_steps.specs.Names.{Question, Replied, Sent, Want, an_answer, an_error}
use Rattle.asking_laws.specs.Asking.{refused_in, refused_of}

-- what has no reply wasn't refused
none_yet : (want : Want) → refused_in want None ≡ []
none_yet (Want.Must question) = refl
none_yet (Want.May question) = refl
none_yet (Want.Fact question) = refl

pub refused_last : (asked : List Sent) (want : Want)
    → refused_of (asked ++ record { want = want; reply = None } ∷ []) ≡ refused_of asked
refused_last [] want = ap (λ (refused : List Question). refused ++ []) (none_yet want)
refused_last (sent ∷ asked) want =
    ap (λ (rest : List Question). refused_in sent.want sent.reply ++ rest) (refused_last asked want)

-- a reply that fails nothing
spares : (want : Want) (replied : Replied) → fails_by want replied ≡ false → refused_in want (Some replied) ≡ []
spares (Want.Must question) (an_answer answer) is = refl
spares (Want.Must question) (an_error code) is = cc
spares (Want.May question) _ is = refl
spares (Want.Fact question) _ is = refl

none_there : (reply : Option Replied) (asks : Bool) → cond (is_none reply) asks false ≡ true → reply ≡ None
none_there None asks is = refl
none_there (Some replied) asks is = cc

pub refused_filled : (question : Question) (replied : Replied) (asked : List Sent)
    → is_failed question replied asked ≡ false → refused_of (filled question replied asked) ≡ refused_of asked
refused_filled question replied [] is = refl
refused_filled question replied (sent ∷ asked) is =
    by_test (waits_for sent question) (none_there sent.reply (asks_for sent question)) is
    (refused_filled question replied asked)
  where
    by_test : (waits : Bool) → (waits ≡ true → sent.reply ≡ None)
        → cond waits (fails_by sent.want replied) (is_failed question replied asked) ≡ false
        → (is_failed question replied asked ≡ false → refused_of (filled question replied asked) ≡ refused_of asked)
        → refused_of (cond waits (record sent { reply = Some replied } ∷ asked) (sent ∷ filled question replied asked))
        ≡ refused_in sent.want sent.reply ++ refused_of asked
    by_test true none is rest = ap (λ (refused : List Question). refused ++ refused_of asked)
        (spares sent.want replied is ∙ sym (ap (refused_in sent.want) (none refl) ∙ none_yet sent.want))
    by_test false none is rest =
        ap (λ (refused : List Question). refused_in sent.want sent.reply ++ refused) (rest is)
