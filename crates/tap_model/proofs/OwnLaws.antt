-- The tap's own commands, the ids of all, and what goes to each side.
use Rattle.std.proofs.Common.{◌≡◌, ℕ, ◌+◌, ◌%◌, List, [], ◌∷◌, ◌++◌}
use Rattle.std.proofs.Common.{refl, sym, ap, ◌∙◌, append_assoc, append-nil, arith}
use Rattle.jdwp_packets.specs.Packets.{Packet}
use Rattle.jdwp_values.specs.declared.sizes.IdSizes.{IdSizes}
use Rattle.pending_table.specs.Windows.{id_of, turn}
use Rattle.tap_model.specs.Laws.{AreNumbered, AreSent}
use Rattle.tap_model.specs.Names.{Ask, Client, Entry, Limits, Out}
use Rattle.tap_model.specs.Names.{Side, Target}
use Rattle.tap_model.specs.Rules.{IsDue, IsHeard, IsLearnt}
use Rattle.tap_model.specs.States.{Said, TapState, after, bytes_of, side_of, with_sizes}
use Rattle.tap_model.specs.Steps.{Message, said, tells}
use Rattle.tap_model.specs.Tapping.{Comes, Tapping}
use Rattle.tap_model.specs.Transcripts.{said_to, sends_in, went_by, went_to}
use Rattle.tap_model.proofs.OwnerLaws.{due_by, heard_by, learnt_by}

-- Ids -----------------------------------------------------------------------------------------------------------------

-- the next id is that of the count of commands so far, whole turns left out
record IsCounted (messages : List Message) (s : TapState) : Type 0 where
  pub next : s.sent.next ≡ sends_in messages % turn
  pub numbered : AreNumbered messages

turned : (n : ℕ) → n % turn % turn ≡ n % turn
turned n = omega arith

one_more_turned : (n : ℕ) → (n % turn + 1) % turn ≡ (n + 1) % turn
one_more_turned n = omega arith

id_counted : (n next : ℕ) → next ≡ n % turn → id_of next ≡ id_of n
id_counted n next is = ap (λ k. k % turn + 1) is ∙ ap (λ k. k + 1) (turned n)

next_counted : (n next : ℕ) → next ≡ n % turn → (next + 1) % turn ≡ (n + 1) % turn
next_counted n next is = ap (λ k. (k + 1) % turn) is ∙ one_more_turned n

due_counted : (asks : List Ask) (messages : List Message) (s : TapState) (what : Said) → IsDue asks s what
    → IsCounted messages s → IsCounted (said what ∷ messages) (after what s)
due_counted asks messages s _ (IsDue.target_greeted a) c = record { next = c.next; numbered = (tt, c.numbered) }
due_counted asks messages s _ (IsDue.debugger_greeted a b) c = record { next = c.next; numbered = (tt, c.numbered) }
due_counted asks messages s _ (IsDue.asks_sizes a b d) c = record {
  next = next_counted (sends_in messages) s.sent.next c.next;
  numbered = (id_counted (sends_in messages) s.sent.next c.next, c.numbered);
}
due_counted asks messages s _ (IsDue.passes a b d) c = record {
  next = next_counted (sends_in messages) s.sent.next c.next;
  numbered = (id_counted (sends_in messages) s.sent.next c.next, c.numbered);
}
due_counted asks messages s _ (IsDue.hands_on a b d e) c = record { next = c.next; numbered = (tt, c.numbered) }
due_counted asks messages s _ (IsDue.asks_question a b d e f g h) c = record {
  next = next_counted (sends_in messages) s.sent.next c.next;
  numbered = (id_counted (sends_in messages) s.sent.next c.next, c.numbered);
}

heard_counted : (asks : List Ask) (messages : List Message) (s s' : TapState) (message : Message)
    → IsHeard asks s message s' → IsCounted messages s → IsCounted (message ∷ messages) s'
heard_counted asks messages s _ _ (IsHeard.commanded a b) c = record { next = c.next; numbered = c.numbered }
heard_counted asks messages s _ _ (IsHeard.told a b) c = record { next = c.next; numbered = c.numbered }
heard_counted asks messages s _ _ (IsHeard.replied a b) c = record { next = c.next; numbered = c.numbered }
heard_counted asks messages s _ _ (IsHeard.answered a b d e) c = record { next = c.next; numbered = c.numbered }
heard_counted asks messages s _ _ (IsHeard.refused a b) c = record { next = c.next; numbered = c.numbered }

learnt_counted : (asks : List Ask) (messages : List Message) (s s' : TapState) (packet : Packet) (numbers : List ℕ)
    (sizes : IdSizes) → IsLearnt asks s packet numbers s' → IsCounted messages s
    → IsCounted (tells packet ∷ messages) (with_sizes asks sizes s')
learnt_counted asks messages s _ _ _ sizes (IsLearnt.sized a b d e) c =
    record { next = c.next; numbered = c.numbered }

come_counted : (messages : List Message) (s s' : TapState) (entry : Entry) → Comes s entry s'
    → IsCounted messages s → IsCounted messages s'
come_counted messages s _ _ Comes.of_debugger c = record { next = c.next; numbered = c.numbered }
come_counted messages s _ _ Comes.of_target c = record { next = c.next; numbered = c.numbered }
come_counted messages s _ _ Comes.passes_quiet c = record { next = c.next; numbered = c.numbered }

are_counted : {limits : Limits} {asks : List Ask} {log : List Entry} {messages : List Message} {turns : ℕ}
    {s : TapState} → Tapping limits asks log messages turns s → IsCounted messages s
are_counted Tapping.begins = record { next = omega arith; numbered = tt }
are_counted (Tapping.says t h) = due_counted _ _ _ _ (due_by _ _ h) (are_counted t)
are_counted (Tapping.hears t h) = heard_counted _ _ _ _ _ (heard_by _ _ h) (are_counted t)
are_counted (Tapping.learns {sizes} t h e) = learnt_counted _ _ _ _ _ _ sizes (learnt_by _ _ h) (are_counted t)
are_counted (Tapping.happens t listens comes) = come_counted _ _ _ _ comes (are_counted t)

pub are_numbered : {limits : Limits} {asks : List Ask} {log : List Entry} {messages : List Message} {turns : ℕ}
    {s : TapState} → Tapping limits asks log messages turns s → AreNumbered messages
are_numbered t = (are_counted t).numbered

-- Bytes ---------------------------------------------------------------------------------------------------------------

went-append : (side : Side) (log more : List Entry) → went_to side (log ++ more) ≡ went_to side log ++ went_to side more
went-append side [] more = refl
went-append side (entry ∷ log) more =
    ap (λ l. went_by side entry ++ l) (went-append side log more)
    ∙ sym (append_assoc (went_by side entry) (went_to side log) (went_to side more))

-- one entry more
went_more : (side : Side) (log : List Entry) (entry : Entry) (bytes : List ℕ) → went_to side log ≡ bytes
    → went_to side (log ++ entry ∷ []) ≡ bytes ++ went_by side entry
went_more side log entry bytes is =
    went-append side log (entry ∷ [])
    ∙ (ap (λ l. l ++ (went_by side entry ++ [])) is ∙ ap (λ l. bytes ++ l) (append-nil (went_by side entry)))

went_none : (side : Side) (log : List Entry) (entry : Entry) (bytes : List ℕ) → went_by side entry ≡ []
    → went_to side log ≡ bytes → went_to side (log ++ entry ∷ []) ≡ bytes
went_none side log entry bytes none is =
    went_more side log entry bytes is ∙ (ap (λ l. bytes ++ l) none ∙ append-nil bytes)

come_none : (side : Side) (s s' : TapState) (entry : Entry) → Comes s entry s' → went_by side entry ≡ []
come_none side s _ _ Comes.of_debugger = refl
come_none side s _ _ Comes.of_target = refl
come_none side s _ _ Comes.passes_quiet = refl

heard_said : (side : Side) (asks : List Ask) (messages : List Message) (s s' : TapState) (message : Message)
    → IsHeard asks s message s' → said_to side (message ∷ messages) ≡ said_to side messages
heard_said side asks messages s _ _ (IsHeard.commanded a b) = refl
heard_said side asks messages s _ _ (IsHeard.told a b) = refl
heard_said side asks messages s _ _ (IsHeard.replied a b) = refl
heard_said side asks messages s _ _ (IsHeard.answered a b c d) = refl
heard_said side asks messages s _ _ (IsHeard.refused a b) = refl

sent_to : (side : Side) {limits : Limits} {asks : List Ask} {log : List Entry} {messages : List Message} {turns : ℕ}
    {s : TapState} → Tapping limits asks log messages turns s → went_to side log ≡ said_to side messages
sent_to side Tapping.begins = refl
sent_to side (Tapping.says {log} {what} t h) =
    went_more side log (Out (side_of what) (bytes_of what)) _ (sent_to side t)
sent_to side {asks} (Tapping.hears {messages} {s} {s'} {message} t h) =
    sent_to side t ∙ sym (heard_said side asks messages s s' message (heard_by asks s h))
sent_to side (Tapping.learns t h e) = sent_to side t
sent_to side (Tapping.happens {log} {s} {s'} {entry} t listens comes) =
    went_none side log entry _ (come_none side s s' entry comes) (sent_to side t)

pub are_sent : {limits : Limits} {asks : List Ask} {log : List Entry} {messages : List Message} {turns : ℕ}
    {s : TapState} → Tapping limits asks log messages turns s → AreSent log messages
are_sent t = record { target = sent_to Target t; debugger = sent_to Client t }
