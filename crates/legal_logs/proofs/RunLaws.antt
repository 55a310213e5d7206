-- Each reading is a run of the machine.
use Rattle.std.proofs.Common.{◌≡◌, ◌⊎◌, inl, inr, ℕ, Bool, false, cond, List, [], ◌∷◌, ◌++◌, Option, None}
use Rattle.std.proofs.Common.{Some}
use Rattle.std.proofs.Common.{refl, sym, ap, subst, ◌∙◌}
use Rattle.legal_logs.specs.Asking.{MaySay, due_asked, due_under}
use Rattle.legal_logs.specs.Endings.{Halts, ReadOut}
use Rattle.legal_logs.specs.Readings.{Reading}
use Rattle.machine_model.specs.Due.{Due, Load, asked_now, asked_next, busy, can_read, clear, due, due_as, due_by}
use Rattle.machine_model.specs.Due.{is_full, lacking_more, load_of, queued, waiting}
use Rattle.machine_model.specs.Plans.{question_of}
use Rattle.machine_model.specs.Runs.{Allows, MayQueue, Message, Run, said, to_ask}
use Rattle.machine_model.specs.State.{Hand, Machine, is_flying, is_gone}
use Rattle.session_model.specs.Names.{a_question, Act, Ending, Entry, Limits, Want}
use Rattle.session_model.specs.Session.{EndedState}
use Rattle.session_model.specs.States.{SessionState}

-- What is due ---------------------------------------------------------------------------------------------------------

same_under : (full : Bool) (load : Load) (m : Machine)
    → ((due_under load m).act ≡ Act.Waits) ⊎ (due_by full load m ≡ due_under load m)
same_under full busy m = inl refl
same_under full queued m = inl refl
same_under full lacking_more m = inl refl
same_under full waiting m = inl refl
same_under full clear m = inr refl

-- what is due but questions is what is due, unless nothing is
pub same_due : (m : Machine) → ((due_asked m).act ≡ Act.Waits) ⊎ (due false m ≡ due_asked m)
unfolding due due_asked
same_due m = same_under (is_full false m) (load_of m) m

goes_on : (m : Machine) → ((due_asked m).act ≡ Act.Waits) ⊎ (due false m ≡ due_asked m)
    → (due_asked m).act ≡ Act.Goes → due false m ≡ due_asked m
goes_on m (inl waits) goes = let no : Act.Waits ≡ Act.Goes = sym waits ∙ goes in cc
goes_on m (inr same) goes = same

says_so : (m : Machine) {message : Message} → ((due_asked m).act ≡ Act.Waits) ⊎ (due false m ≡ due_asked m)
    → said (due_asked m).act ≡ Some message → due false m ≡ due_asked m
says_so m {message} (inl waits) says = let no : None ≡ Some message = sym (ap said waits) ∙ says in cc
says_so m (inr same) says = same

-- What is asked -------------------------------------------------------------------------------------------------------

queued_load : (gone read flying : Bool) (behind : Load) → gone ≡ false → read ≡ false → flying ≡ false
    → cond gone clear (cond read busy (cond flying busy behind)) ≡ behind
queued_load gone read flying behind near unread still =
    ap (λ (b : Bool). cond b clear (cond read busy (cond flying busy behind))) near
    ∙ ap (λ (b : Bool). cond b busy (cond flying busy behind)) unread ∙ ap (λ (b : Bool). cond b busy behind) still

-- what is put in front is to be asked
to_be_asked : {m : Machine} {hand : Hand} {want : Want} → MayQueue m hand (want ∷ [])
    → load_of (to_ask m hand (want ∷ [])) ≡ queued
unfolding load_of
to_be_asked {m} {hand} may =
    queued_load (is_gone m.state.phase) (can_read m) (is_flying hand.effect) queued may.near may.unread may.still

-- and there is room as before
same_room : {m : Machine} {hand : Hand} {want : Want} → MayQueue m hand (want ∷ []) → is_full false m ≡ false
    → is_full false (to_ask m hand (want ∷ [])) ≡ false
same_room {m} {hand} may room =
    ap (λ (held : Option Hand). is_full false (record m { hand = held })) (sym may.held) ∙ room

asked_due : {m : Machine} {hand : Hand} {want : Want} → MayQueue m hand (want ∷ []) → is_full false m ≡ false
    → due false (to_ask m hand (want ∷ []))
    ≡ due_as (Act.Asks (question_of want)) (asked_now (to_ask m hand (want ∷ [])) want)
unfolding due
asked_due {m} {hand} {want} may room =
    let now : Machine = to_ask m hand (want ∷ []) in
    ap (λ load. due_by (is_full false now) load now) (to_be_asked may)
    ∙ ap (λ full. asked_next full now now.hand) (same_room may room)

-- Runs ----------------------------------------------------------------------------------------------------------------

run_on : {messages : List Message} {m next : Machine} {message : Message} → Run messages m → MaySay m message next
    → Run (messages ++ message ∷ []) next
run_on {messages} {m} {message = message} r (MaySay.acts says) =
    let same = says_so m (same_due m) says in
    subst (λ (d : Due). Run (messages ++ message ∷ []) d.next) same
    (Run.moves r (Allows.acts (ap (λ (d : Due). said d.act) same ∙ says)))
run_on {messages} r (MaySay.asks {want} {next} may) =
    let due_is = asked_due may.lacking may.room in
    subst (λ (last : Machine). Run (messages ++ Message.sends (a_question (question_of want)) ∷ []) last)
    (ap (λ (d : Due). d.next) due_is ∙ sym may.asked)
    (Run.moves (Run.queues r may.lacking) (Allows.acts (ap (λ (d : Due). said d.act) due_is)))

pub is_run : {limits : Limits} {log : List Entry} {messages : List Message} {turns : ℕ} {s : SessionState}
    → Reading limits log messages turns s → Run messages s.machine
is_run Reading.begins = Run.starts
is_run (Reading.goes {messages = messages} {s = s} r on is) =
    let same = goes_on s.machine (same_due s.machine) is in
    subst (λ (d : Due). Run messages d.next) same (Run.goes (is_run r) (ap (λ (d : Due). d.act) same ∙ is))
is_run (Reading.speaks r on may speaks added) = run_on (is_run r) may
is_run (Reading.hears r reads allows brings) = Run.moves (is_run r) allows
is_run (Reading.ignores r reads whole reading) = is_run r
is_run (Reading.happens r waits comes) = is_run r

halted_run : {limits : Limits} {log : List Entry} {messages : List Message} {turns : ℕ} {s : SessionState}
    {ending : Ending} → Halts limits log messages turns s ending → Run messages s.machine
halted_run (Halts.here r ends) = is_run r
halted_run (Halts.shut r waits) = is_run r
halted_run (Halts.lost side r turn) = is_run r
halted_run (Halts.unsent r on may speaks) = is_run r
halted_run (Halts.broken part) = is_run part.reading

pub is_run_then : {limits : Limits} {log : List Entry} {messages : List Message} {turns : ℕ} {e : EndedState}
    → ReadOut limits log messages turns e → Run messages e.last.machine
is_run_then (ReadOut.halts h) = halted_run h
is_run_then (ReadOut.says ended is) = is_run_then ended
is_run_then (ReadOut.fails ended is) = is_run_then ended
is_run_then (ReadOut.breaks ended is some proper) = is_run_then ended
