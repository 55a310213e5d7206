-- The commands under ids are those that the machine has pending.
use Rattle.std.proofs.Common.{◌≡◌, ℕ, ◌+◌, Bool, true, List, [], ◌∷◌, ◌++◌, map}
use Rattle.std.proofs.Common.{refl, ap, ◌∙◌, arith}
use Rattle.jdwp_commands.specs.declared.asked.Asked.{Asked}
use Rattle.jdwp_packets.specs.Packets.{Packet}
use Rattle.machine_model.specs.Pending.{bit, commands_replied, commands_sent, replied_by, sent_by}
use Rattle.machine_model.specs.Pending.{count as count_of}
use Rattle.machine_model.specs.Replying.{pending_of, wire}
use Rattle.machine_model.specs.Runs.{Message, Run}
use Rattle.machine_steps.proofs.PendingLaws.{pending_is}
use Rattle.session_model.specs.Names.{Entry, TargetCommand}
use Rattle.session_laws.specs.Replies.{ArePackets, count_under, is_beside, under_id}
use Rattle.session_model.specs.States.{SessionState}
use Rattle.session_laws.proofs.Steps.{flat_map_one_more}
use Rattle.session_laws.proofs.ReplyLaws.{IsSaid}

-- The same commands are pending ---------------------------------------------------------------------------------------

module _ (test : Asked → Bool) where
  abbrev of_command : TargetCommand → Bool
  of_command command = test (wire command)

  held_append : (some others : List (ℕ × Asked))
      → count_under test (some ++ others) ≡ count_under test some + count_under test others
  held_append [] others = omega arith
  held_append (sent ∷ some) others = let more = held_append some others in omega arith

  count_append : (some others : List TargetCommand)
      → count_of of_command (some ++ others) ≡ count_of of_command some + count_of of_command others
  count_append [] others = omega arith
  count_append (command ∷ some) others = let more = count_append some others in omega arith

  abbrev IsCounted : List (ℕ × Asked) → List Message → Type 0
  IsCounted unreplied messages =
      count_under test unreplied + count_of of_command (commands_replied messages)
      ≡ count_of of_command (commands_sent messages)

  counted_more : (messages : List Message) (message : Message) (unreplied now : List (ℕ × Asked))
      → IsCounted unreplied messages
      → count_under test now + count_of of_command (replied_by message)
      ≡ count_under test unreplied + count_of of_command (sent_by message)
      → IsCounted now (messages ++ message ∷ [])
  counted_more messages message unreplied now h is =
      rw (
        flat_map_one_more replied_by messages message,
        flat_map_one_more sent_by messages message,
        count_append (commands_replied messages) (replied_by message),
        count_append (commands_sent messages) (sent_by message),
      ) (omega arith)

  counted : {packets : List (ℕ × Packet)} {messages : List Message} {count : ℕ} {unreplied : List (ℕ × Asked)}
      → ArePackets packets messages count unreplied → IsCounted unreplied messages
  counted ArePackets.none = refl
  counted (ArePackets.beside {messages} {unreplied} message is h) =
      counted_more messages message unreplied unreplied (counted h) (none message is)
    where
      none : (message : Message) → is_beside message ≡ true
          → count_under test unreplied + count_of of_command (replied_by message)
          ≡ count_under test unreplied + count_of of_command (sent_by message)
      none message is = grind (arith, is)
  counted (ArePackets.sends {messages} {count} {unreplied} command h) =
      counted_more messages (Message.sends command) unreplied (unreplied ++ (count, wire command) ∷ []) (counted h)
      (let more = held_append unreplied ((count, wire command) ∷ []) in omega arith)
  counted (ArePackets.answers {messages} {command} {replied} offset number before after run says h) =
      counted_more messages (Message.answers command replied) (before ++ (number, wire command) ∷ after)
      (before ++ after) (counted h)
      (let was = held_append before ((number, wire command) ∷ after) in
      let now = held_append before after in omega arith)
  counted (ArePackets.comes {messages} {unreplied} offset id set number body composite is run serves reads h) =
      counted_more messages _ unreplied unreplied (counted h) refl
  counted (ArePackets.keeps {messages} {unreplied} offset id set number body is h) =
      counted_more messages _ unreplied unreplied (counted h) refl
  counted (ArePackets.reads {messages} {unreplied} offset body composite run serves reads h) =
      counted_more messages _ unreplied unreplied (counted h) refl

  under_ids : (unreplied : List (ℕ × Asked)) → count_under test (map under_id unreplied) ≡ count_under test unreplied
  under_ids [] = refl
  under_ids (one ∷ unreplied) = ap (λ n. bit (test one.1) + n) (under_ids unreplied)

  pub same_pending : {log : List Entry} {messages : List Message} {s : SessionState} → Run messages s.machine
      → IsSaid log messages s
      → count_under test s.streams.commands.sent ≡ count_of of_command (pending_of s.machine)
  same_pending {messages} {s} run h =
      let machine = (pending_is messages s.machine run).counted of_command in
      let mine = counted h.said in
      ap (λ sent. count_under test sent) h.held.pending ∙ under_ids h.unreplied ∙ omega (arith, machine, mine)
