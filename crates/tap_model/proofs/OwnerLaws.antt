-- The command that is pending under an id is the latest that was sent under it.
use Rattle.std.proofs.Common.{◌≡◌, ℕ, ◌==◌, Bool, true, false, not, cond, List, [], ◌∷◌, ◌++◌, Option, Some, None}
use Rattle.std.proofs.Common.{refl, sym, ap, subst, ◌∙◌, arith}
use Rattle.std.proofs.lemmas.Bool.{eqb-true}
use Rattle.std.proofs.lemmas.Bool.Decides.{nat_tests}
use Rattle.jdwp_packets.specs.Packets.{Packet}
use Rattle.jdwp_values.specs.declared.sizes.IdSizes.{IdSizes}
use Rattle.wire_core.specs.Streams.{Front}
use Rattle.pending_table.specs.Windows.{id_of}
use Rattle.tap_model.specs.Names.{Ask, Debugger, Entry, Limits, of_question, Owner, Sizes}
use Rattle.tap_model.specs.Rules.{AtTarget, IsDue, IsHeard, IsLearnt, IsStep}
use Rattle.tap_model.specs.States.{Said, SentCommands, TapState, after, pending_under, taken_up, with_sent}
use Rattle.tap_model.specs.States.{with_sizes, without}
use Rattle.tap_model.specs.Steps.{Message, Step, lets_go, said, step, tells}
use Rattle.tap_model.specs.Tapping.{Comes, Tapping}
use Rattle.tap_model.specs.Transcripts.{sent_under}
use Rattle.tap_model.proofs.RuleLaws.{step_by}

-- A step by its rule --------------------------------------------------------------------------------------------------

module _ (asks : List Ask) (s : TapState) where
  pub due_by : {what : Said} → step asks s ≡ Step.says what → IsDue asks s what
  due_by h = subst (IsStep asks s) h (step_by asks s)

  pub heard_by : {message : Message} {s' : TapState} → step asks s ≡ Step.hears message s'
      → IsHeard asks s message s'
  heard_by h = subst (IsStep asks s) h (step_by asks s)

  pub learnt_by : {packet : Packet} {numbers : List ℕ} {s' : TapState} → step asks s ≡ Step.learns packet numbers s'
      → IsLearnt asks s packet numbers s'
  learnt_by h = subst (IsStep asks s) h (step_by asks s)

  pub rest_by : step asks s ≡ Step.waits → AtTarget asks s Front.waits
  rest_by h = subst (IsStep asks s) h (step_by asks s)

-- Lists of commands ---------------------------------------------------------------------------------------------------

abbrev Pending : Type 0
Pending = List (ℕ × Owner)

same_number : (n : ℕ) → (n == n) ≡ true
same_number n = grind (arith, nat_tests)

-- nothing is pending under an id that was taken out
pub none_under : (id : ℕ) (pending : Pending) → pending_under id (without id pending) ≡ None
none_under id [] = refl
none_under id (p ∷ pending) = by (p.0 == id) refl (none_under id pending)
  where
    by : (b : Bool) → (p.0 == id) ≡ b → pending_under id (without id pending) ≡ None
        → pending_under id (cond (not b) (p ∷ without id pending) (without id pending)) ≡ None
    by true is again = again
    by false is again = rw is again

-- what is pending under another id stays
pub other_under : (id other : ℕ) (pending : Pending) → (id == other) ≡ false
    → pending_under other (without id pending) ≡ pending_under other pending
other_under id other [] differ = refl
other_under id other (p ∷ pending) differ = by (p.0 == id) refl (other_under id other pending differ)
  where
    by : (b : Bool) → (p.0 == id) ≡ b
        → pending_under other (without id pending) ≡ pending_under other pending
        → pending_under other (cond (not b) (p ∷ without id pending) (without id pending))
        ≡ pending_under other (p ∷ pending)
    by true is again =
        let same : p.0 ≡ id = eqb-true p.0 id is in
        let no : (p.0 == other) ≡ false = subst (λ k. (k == other) ≡ false) (sym same) differ in
        rw no again
    by false is again = ap (λ (rest : Option Owner). cond (p.0 == other) (Some p.1) rest) again

-- the first of two, where there is one
abbrev or_this : Option Owner → Option Owner → Option Owner
or_this None other = other
or_this (Some owner) other = Some owner

-- one more command behind those that are pending
pub under_push : (id i : ℕ) (owner : Owner) (pending : Pending)
    → pending_under id (pending ++ (i, owner) ∷ [])
    ≡ or_this (pending_under id pending) (cond (i == id) (Some owner) None)
under_push id i owner [] = refl
under_push id i owner (p ∷ pending) = by (p.0 == id) (under_push id i owner pending)
  where
    by : (b : Bool) → pending_under id (pending ++ (i, owner) ∷ [])
        ≡ or_this (pending_under id pending) (cond (i == id) (Some owner) None)
        → cond b (Some p.1) (pending_under id (pending ++ (i, owner) ∷ []))
        ≡ or_this (cond b (Some p.1) (pending_under id pending)) (cond (i == id) (Some owner) None)
    by true again = refl
    by false again = again

-- what is pending once a command was sent
pub under_sent : (id i : ℕ) (owner : Owner) (pending : Pending)
    → pending_under id (without i pending ++ (i, owner) ∷ [])
    ≡ cond (i == id) (Some owner) (pending_under id pending)
under_sent id i owner pending = under_push id i owner (without i pending) ∙ by (i == id) refl
  where
    none : (o : Option Owner) → or_this o None ≡ o
    none None = refl
    none (Some x) = refl

    by : (b : Bool) → (i == id) ≡ b → or_this (pending_under id (without i pending)) (cond b (Some owner) None)
        ≡ cond b (Some owner) (pending_under id pending)
    by true is =
        let same : i ≡ id = eqb-true i id is in
        let gone : pending_under id (without i pending) ≡ None =
        subst (λ k. pending_under id (without k pending) ≡ None) (sym same) (none_under id pending) in
        rw gone refl
    by false is = none (pending_under id (without i pending)) ∙ other_under i id pending is

-- Owners --------------------------------------------------------------------------------------------------------------

-- each command that is pending is the latest under its id
abbrev pub AreLatest : List Message → TapState → Type 0
AreLatest messages s = (id : ℕ) (owner : Owner) → pending_under id s.sent.pending ≡ Some owner
    → sent_under id messages ≡ Some owner

sent_pending : (owner : Owner) (s : TapState) → (taken_up owner s).sent ≡ s.sent
sent_pending (Debugger id leaves) s = refl
sent_pending Sizes s = refl
sent_pending (of_question n) s = refl

sends_latest : (messages : List Message) (s : TapState) (owner : Owner) → AreLatest messages s → (id : ℕ)
    (found : Owner)
    → pending_under id (taken_up owner (record s { sent = with_sent owner s.sent })).sent.pending ≡ Some found
    → cond (id_of s.sent.next == id) (Some owner) (sent_under id messages) ≡ Some found
sends_latest messages s owner latest id found is =
    by (id_of s.sent.next == id) (sym (under_sent id (id_of s.sent.next) owner s.sent.pending)
    ∙ (ap (λ (sent : SentCommands). pending_under id sent.pending)
    (sym (sent_pending owner (record s { sent = with_sent owner s.sent }))) ∙ is))
  where
    by : (b : Bool) → cond b (Some owner) (pending_under id s.sent.pending) ≡ Some found
        → cond b (Some owner) (sent_under id messages) ≡ Some found
    by true e = e
    by false e = latest id found e

due_latest : (asks : List Ask) (messages : List Message) (s : TapState) (what : Said) → IsDue asks s what
    → AreLatest messages s → AreLatest (said what ∷ messages) (after what s)
due_latest asks messages s _ (IsDue.target_greeted none) latest = latest
due_latest asks messages s _ (IsDue.debugger_greeted a b) latest = latest
due_latest asks messages s _ (IsDue.asks_sizes a b c) latest = sends_latest messages s Sizes latest
due_latest asks messages s _ (IsDue.passes {command} a b c) latest =
    sends_latest messages s (Debugger command.id (lets_go command.set command.command)) latest
due_latest asks messages s _ (IsDue.hands_on a b c d) latest = latest
due_latest asks messages s _ (IsDue.asks_question {n = n} a b c d e f g) latest =
    sends_latest messages s (of_question n) latest

-- where a reply settles one
settles_latest : (messages : List Message) (i : ℕ) (pending : Pending)
    → ((id : ℕ) (owner : Owner) → pending_under id pending ≡ Some owner → sent_under id messages ≡ Some owner)
    → (id : ℕ) (owner : Owner) → pending_under id (without i pending) ≡ Some owner
    → sent_under id messages ≡ Some owner
settles_latest messages i pending latest id owner is = by (i == id) refl
  where
    by : (b : Bool) → (i == id) ≡ b → sent_under id messages ≡ Some owner
    by true same =
        let e : i ≡ id = eqb-true i id same in
        let gone : pending_under id (without i pending) ≡ None =
        subst (λ k. pending_under id (without k pending) ≡ None) (sym e) (none_under id pending) in
        absurd cc
    by false differ = latest id owner (sym (other_under i id pending differ) ∙ is)

heard_latest : (asks : List Ask) (messages : List Message) (s s' : TapState) (message : Message)
    → IsHeard asks s message s' → AreLatest messages s → AreLatest (message ∷ messages) s'
heard_latest asks messages s _ _ (IsHeard.commanded a b) latest = latest
heard_latest asks messages s _ _ (IsHeard.told a b) latest = latest
heard_latest asks messages s _ _ (IsHeard.replied {id} a b) latest =
    settles_latest messages id s.sent.pending latest
heard_latest asks messages s _ _ (IsHeard.answered {id} a b c d) latest =
    settles_latest messages id s.sent.pending latest
heard_latest asks messages s _ _ (IsHeard.refused {id} a b) latest =
    settles_latest messages id s.sent.pending latest

learnt_latest : (asks : List Ask) (messages : List Message) (s s' : TapState) (packet : Packet) (numbers : List ℕ)
    (sizes : IdSizes) → IsLearnt asks s packet numbers s' → AreLatest messages s
    → AreLatest (tells packet ∷ messages) (with_sizes asks sizes s')
learnt_latest asks messages s _ _ _ sizes (IsLearnt.sized {id} a b c d) latest =
    settles_latest messages id s.sent.pending latest

come_latest : (messages : List Message) (s s' : TapState) (entry : Entry) → Comes s entry s'
    → AreLatest messages s → AreLatest messages s'
come_latest messages s _ _ Comes.of_debugger latest = latest
come_latest messages s _ _ Comes.of_target latest = latest
come_latest messages s _ _ Comes.passes_quiet latest = latest

pub are_latest : {limits : Limits} {asks : List Ask} {log : List Entry} {messages : List Message} {turns : ℕ}
    {s : TapState} → Tapping limits asks log messages turns s → AreLatest messages s
are_latest Tapping.begins = λ id owner is. absurd cc
are_latest {asks} (Tapping.says {messages} {s} {what} t h) =
    due_latest asks messages s what (due_by asks s h) (are_latest t)
are_latest {asks} (Tapping.hears {messages} {s} {s'} {message} t h) =
    heard_latest asks messages s s' message (heard_by asks s h) (are_latest t)
are_latest {asks} (Tapping.learns {messages} {s} {s'} {packet} {numbers} {sizes} t h e) =
    learnt_latest asks messages s s' packet numbers sizes (learnt_by asks s h) (are_latest t)
are_latest (Tapping.happens {messages} {s} {s'} {entry} t listens comes) =
    come_latest messages s s' entry comes (are_latest t)
