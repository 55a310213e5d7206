-- What the debugger and the target say to each other is what each of them is sent.
use Rattle.std.proofs.Common.{◌≡◌, ℕ, List, [], ◌∷◌, ◌++◌, Option, refl, sym, ap, subst, ◌∙◌, drop}
use Rattle.std.proofs.Common.{append_assoc, append-nil}
use Rattle.jdwp_packets.specs.Packets.{Packet, command_packet, packet_bytes, reply_packet}
use Rattle.jdwp_values.specs.declared.sizes.IdSizes.{IdSizes}
use Rattle.tap_model.specs.Laws.{AreTheirs}
use Rattle.tap_model.specs.Names.{Ask, DebuggerCommand, Entry, Limits, Owner}
use Rattle.tap_model.specs.Rules.{IsDue, IsHeard, IsLearnt}
use Rattle.tap_model.specs.States.{Said, TapState, after, with_sizes}
use Rattle.tap_model.specs.Steps.{Message, said, tells}
use Rattle.tap_model.specs.Tapping.{Comes, Tapping}
use Rattle.tap_model.specs.Transcripts.{Spoken, commands_in, conversation, from_debugger, given_back, handed, handed_by}
use Rattle.tap_model.specs.Transcripts.{packets_in, passed, passed_by, sent_under, to_debugger}
use Rattle.tap_model.proofs.OwnerLaws.{AreLatest, are_latest, due_by, heard_by, learnt_by}

-- one more of what is said
commands-append : (a b : List Spoken) → commands_in (a ++ b) ≡ commands_in a ++ commands_in b
commands-append [] b = refl
commands-append (from_debugger c ∷ a) b = ap (λ (l : List DebuggerCommand). c ∷ l) (commands-append a b)
commands-append (to_debugger bytes ∷ a) b = commands-append a b

packets-append : (a b : List Spoken) → packets_in (a ++ b) ≡ packets_in a ++ packets_in b
packets-append [] b = refl
packets-append (from_debugger c ∷ a) b = packets-append a b
packets-append (to_debugger bytes ∷ a) b = ap (λ (l : List (List ℕ)). bytes ∷ l) (packets-append a b)

-- nothing is sent of what waits
none_sent : {A : Type 0} (before waiting : List A) → before ++ waiting ≡ (before ++ []) ++ waiting
none_sent before waiting = sym (append_assoc before [] waiting)

-- the first of what waits is sent
pub first_sent : {A : Type 0} (before : List A) (first : A) (others waiting : List A) → waiting ≡ first ∷ others
    → before ++ waiting ≡ (before ++ first ∷ []) ++ drop 1 waiting
first_sent before first others waiting is =
    subst (λ l. before ++ l ≡ (before ++ first ∷ []) ++ drop 1 l) (sym is)
    (sym (append_assoc before (first ∷ []) others))

-- What is said --------------------------------------------------------------------------------------------------------

due_commands : (asks : List Ask) (s : TapState) (what : Said) → IsDue asks s what → (before : List DebuggerCommand)
    → before ++ s.commands ≡ (before ++ passed_by what) ++ (after what s).commands
due_commands asks s _ (IsDue.target_greeted a) before = none_sent before s.commands
due_commands asks s _ (IsDue.debugger_greeted a b) before = none_sent before s.commands
due_commands asks s _ (IsDue.asks_sizes a b c) before = none_sent before s.commands
due_commands asks s _ (IsDue.passes {command} {others} a b c) before =
    first_sent before command others s.commands b
due_commands asks s _ (IsDue.hands_on a b c d) before = none_sent before s.commands
due_commands asks s _ (IsDue.asks_question a b c d e f g) before = none_sent before s.commands

due_packets : (asks : List Ask) (s : TapState) (what : Said) → IsDue asks s what → (before : List (List ℕ))
    → before ++ s.packets ≡ (before ++ handed_by what) ++ (after what s).packets
due_packets asks s _ (IsDue.target_greeted a) before = none_sent before s.packets
due_packets asks s _ (IsDue.debugger_greeted a b) before = none_sent before s.packets
due_packets asks s _ (IsDue.asks_sizes a b c) before = none_sent before s.packets
due_packets asks s _ (IsDue.passes a b c) before = none_sent before s.packets
due_packets asks s _ (IsDue.hands_on {bytes} {others} a b c d) before = first_sent before bytes others s.packets d
due_packets asks s _ (IsDue.asks_question a b c d e f g) before = none_sent before s.packets

due_theirs : (asks : List Ask) (messages : List Message) (s : TapState) (what : Said) → IsDue asks s what
    → AreTheirs messages s → AreTheirs (said what ∷ messages) (after what s)
due_theirs asks messages s what due theirs = record {
  commands = theirs.commands ∙ due_commands asks s what due (passed messages);
  packets = theirs.packets ∙ due_packets asks s what due (handed messages);
}

-- What is heard -------------------------------------------------------------------------------------------------------

-- one more of what is said, which waits
one_more : {A : Type 0} (before waiting more : List A) (all : List A) → all ≡ before ++ waiting
    → all ++ more ≡ before ++ (waiting ++ more)
one_more before waiting more all is = ap (λ l. l ++ more) is ∙ append_assoc before waiting more

-- and none of it is the tap's
none_more : {A : Type 0} (before waiting : List A) (all : List A) → all ≡ before ++ waiting
    → all ++ [] ≡ before ++ waiting
none_more before waiting all is = append-nil all ∙ is

module _ (messages : List Message) (s : TapState) (theirs : AreTheirs messages s) where
  with_more : (more : List Spoken) (commands : List DebuggerCommand) (packets : List (List ℕ))
      → s.commands ++ commands_in more ≡ commands → s.packets ++ packets_in more ≡ packets
      → (commands_in (conversation messages ++ more) ≡ passed messages ++ commands)
      × (packets_in (conversation messages ++ more) ≡ handed messages ++ packets)
  with_more more commands packets c p = (
    commands-append (conversation messages) more
        ∙ (one_more (passed messages) s.commands (commands_in more) (commands_in (conversation messages))
        theirs.commands
        ∙ ap (λ l. passed messages ++ l) c),
    packets-append (conversation messages) more
        ∙ (one_more (handed messages) s.packets (packets_in more) (packets_in (conversation messages)) theirs.packets
        ∙ ap (λ l. handed messages ++ l) p),
  )

heard_theirs : (asks : List Ask) (messages : List Message) (s s' : TapState) (message : Message)
    → IsHeard asks s message s' → AreLatest messages s → AreTheirs messages s → AreTheirs (message ∷ messages) s'
heard_theirs asks messages s _ _ (IsHeard.commanded {id} {set} {number} {n} {body} a b) latest theirs =
    let c : DebuggerCommand = record { id = id; set = set; command = number; body = body } in
    let both = with_more messages s theirs (from_debugger c ∷ []) (s.commands ++ c ∷ []) s.packets refl
    (append-nil s.packets) in
    record { commands = both.0; packets = both.1 }
heard_theirs asks messages s _ _ (IsHeard.told {id} {set} {number} {n} {body} a b) latest theirs =
    let bytes : List ℕ = packet_bytes (command_packet id set number body) in
    let both = with_more messages s theirs (to_debugger bytes ∷ []) s.commands (s.packets ++ bytes ∷ [])
    (append-nil s.commands) refl in
    record { commands = both.0; packets = both.1 }
heard_theirs asks messages s _ _ (IsHeard.replied {id} {error} {n} {own} {body} a b) latest theirs =
    let bytes : List ℕ = packet_bytes (reply_packet own error body) in
    let is = latest id _ a.pending in
    let both = with_more messages s theirs (given_back error body (sent_under id messages)) s.commands
    (s.packets ++ bytes ∷ [])
    (ap (λ (o : Option Owner). s.commands ++ commands_in (given_back error body o)) is ∙ append-nil s.commands)
    (ap (λ (o : Option Owner). s.packets ++ packets_in (given_back error body o)) is) in
    record { commands = both.0; packets = both.1 }
heard_theirs asks messages s _ _ (IsHeard.answered {id} {error} {n} {question} {body} a b c d) latest theirs =
    let is = latest id _ a.pending in
    let both = with_more messages s theirs (given_back error body (sent_under id messages)) s.commands s.packets
    (ap (λ (o : Option Owner). s.commands ++ commands_in (given_back error body o)) is ∙ append-nil s.commands)
    (ap (λ (o : Option Owner). s.packets ++ packets_in (given_back error body o)) is ∙ append-nil s.packets) in
    record { commands = both.0; packets = both.1 }
heard_theirs asks messages s _ _ (IsHeard.refused {id} {error} {n} {question} {body} a b) latest theirs =
    let is = latest id _ a.pending in
    let both = with_more messages s theirs (given_back error body (sent_under id messages)) s.commands s.packets
    (ap (λ (o : Option Owner). s.commands ++ commands_in (given_back error body o)) is ∙ append-nil s.commands)
    (ap (λ (o : Option Owner). s.packets ++ packets_in (given_back error body o)) is ∙ append-nil s.packets) in
    record { commands = both.0; packets = both.1 }

learnt_theirs : (asks : List Ask) (messages : List Message) (s s' : TapState) (packet : Packet) (numbers : List ℕ)
    (sizes : IdSizes) → IsLearnt asks s packet numbers s' → AreLatest messages s → AreTheirs messages s
    → AreTheirs (tells packet ∷ messages) (with_sizes asks sizes s')
learnt_theirs asks messages s _ _ _ sizes (IsLearnt.sized {id} {error} {n} {body} a b c d) latest theirs =
    let is = latest id _ a.pending in
    let both = with_more messages s theirs (given_back error body (sent_under id messages)) s.commands s.packets
    (ap (λ (o : Option Owner). s.commands ++ commands_in (given_back error body o)) is ∙ append-nil s.commands)
    (ap (λ (o : Option Owner). s.packets ++ packets_in (given_back error body o)) is ∙ append-nil s.packets) in
    record { commands = both.0; packets = both.1 }

come_theirs : (messages : List Message) (s s' : TapState) (entry : Entry) → Comes s entry s'
    → AreTheirs messages s → AreTheirs messages s'
come_theirs messages s _ _ Comes.of_debugger theirs =
    record { commands = theirs.commands; packets = theirs.packets }
come_theirs messages s _ _ Comes.of_target theirs = record { commands = theirs.commands; packets = theirs.packets }
come_theirs messages s _ _ Comes.passes_quiet theirs = record { commands = theirs.commands; packets = theirs.packets }

pub are_theirs : {limits : Limits} {asks : List Ask} {log : List Entry} {messages : List Message} {turns : ℕ}
    {s : TapState} → Tapping limits asks log messages turns s → AreTheirs messages s
are_theirs Tapping.begins = record { commands = refl; packets = refl }
are_theirs (Tapping.says t h) = due_theirs _ _ _ _ (due_by _ _ h) (are_theirs t)
are_theirs (Tapping.hears t h) = heard_theirs _ _ _ _ _ (heard_by _ _ h) (are_latest t) (are_theirs t)
are_theirs (Tapping.learns {sizes} t h e) =
    learnt_theirs _ _ _ _ _ _ sizes (learnt_by _ _ h) (are_latest t) (are_theirs t)
are_theirs (Tapping.happens t listens comes) = come_theirs _ _ _ _ comes (are_theirs t)
