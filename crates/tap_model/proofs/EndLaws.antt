-- The causes of endings are those of the table, and the first one decides.
use Rattle.std.proofs.Common.{◌≡◌, ℕ, ◌<◌, ◌⊎◌, inl, inr, Bool, true, false, cond}
use Rattle.std.proofs.Common.{List, [], ◌∷◌, Option, Some, None, slice_get, refl, ap, subst}
use Rattle.std.proofs.Common.{◌∙◌, arith, length, take}
use Rattle.jdwp_packets.specs.Packets.{Packet, reply_packet}
use Rattle.jdwp_packets.specs.declared.fault.PacketFault.{PacketFault}
use Rattle.wire_core.specs.Outside.{broken_send}
use Rattle.wire_core.specs.Streams.{Front}
use Rattle.tap_model.specs.Endings.{AreCauses, IsCause, IsDecided}
use Rattle.tap_model.specs.Names.{Ask, Client, Done, Entry, Failed, Flood, IdSizes, Idle}
use Rattle.tap_model.specs.Names.{Left}
use Rattle.tap_model.specs.Names.{Limits, NoMemory, Owner, Shut, Side, Spent, TapEnding, Target}
use Rattle.tap_model.specs.Names.{TargetGone}
use Rattle.tap_model.specs.Rules.{AllSaid, AtDebugger, AtTarget, HasReply, IsDue, IsEnding, IsJoined, IsStep}
use Rattle.tap_model.specs.Rules.{NoPacket, NoQuestion}
use Rattle.tap_model.specs.States.{Said, TapState, bytes_of, past_target, side_of}
use Rattle.tap_model.specs.Steps.{Step, asked_due, at_debugger, at_target, can_ask, command_due, due, first_step}
use Rattle.tap_model.specs.Steps.{front_of, left_due, packet_due, reply_to, step}
use Rattle.tap_model.specs.Tapping.{Listens, TapCause, is_whole, link_ending, shut_ending}
use Rattle.tap_model.proofs.OwnerLaws.{due_by}
use Rattle.tap_model.proofs.RuleLaws.{step_by}

module _ (asks : List Ask) (s : TapState) where
  -- What is due -------------------------------------------------------------------------------------------------------

  joined_due : IsJoined s → due asks s ≡ command_due asks s s.commands
  joined_due joined = rw (joined.greeted.target, joined.greeted.debugger, joined.target, joined.asked_sizes) refl

  no_command : IsJoined s → s.commands ≡ [] → due asks s ≡ packet_due asks s s.packets
  no_command joined none = joined_due joined ∙ ap (command_due asks s) none

  no_packet : NoPacket s → packet_due asks s s.packets ≡ left_due asks s.sent s.asking.sizes s.asking.left
  no_packet (NoPacket.no_packet none) = ap (packet_due asks s) none
  no_packet (NoPacket.not_greeted not_yet) = by s.packets
    where
      by : (packets : List (List ℕ)) → packet_due asks s packets ≡ left_due asks s.sent s.asking.sizes s.asking.left
      by [] = refl
      by (bytes ∷ others) = rw not_yet refl

  asked_waits : (sizes : IdSizes) (n : ℕ) (found : Option Ask) → can_ask s.sent ≡ false
      → asked_due s.sent sizes n found ≡ Step.waits
  asked_waits sizes n None wait = refl
  asked_waits sizes n (Some ask) wait = rw wait refl

  left_waits : (sizes : Option IdSizes) (left : List ℕ) → can_ask s.sent ≡ false
      → left_due asks s.sent sizes left ≡ Step.waits
  left_waits sizes [] wait = refl
  left_waits None (n ∷ left) wait = refl
  left_waits (Some sizes) (n ∷ left) wait = asked_waits sizes n (slice_get asks n) wait

  none_waits : (left : List ℕ) → left_due asks s.sent None left ≡ Step.waits
  none_waits [] = refl
  none_waits (n ∷ left) = refl

  not_there_waits : (sizes : Option IdSizes) (n : ℕ) (left : List ℕ) → slice_get asks n ≡ None
      → left_due asks s.sent sizes (n ∷ left) ≡ Step.waits
  not_there_waits None n left none = refl
  not_there_waits (Some sizes) n left none = ap (asked_due s.sent sizes n) none

  no_question : NoQuestion asks s → left_due asks s.sent s.asking.sizes s.asking.left ≡ Step.waits
  no_question (NoQuestion.none_left none) = ap (left_due asks s.sent s.asking.sizes) none
  no_question (NoQuestion.no_sizes none) =
      ap (λ (o : Option IdSizes). left_due asks s.sent o s.asking.left) none ∙ none_waits s.asking.left
  no_question (NoQuestion.has_to_wait wait) = left_waits s.asking.sizes s.asking.left wait
  no_question (NoQuestion.not_there {n} {left} first none) =
      ap (left_due asks s.sent s.asking.sizes) first ∙ not_there_waits s.asking.sizes n left none

  pub all_said : AllSaid asks s → due asks s ≡ Step.waits
  all_said (AllSaid.alone greeted none) = rw (greeted.target, greeted.debugger, none) refl
  all_said (AllSaid.all_sent joined none packet question) =
      no_command joined none ∙ (no_packet packet ∙ no_question question)

  due_is : {what : Said} → IsDue asks s what → due asks s ≡ Step.says what
  due_is (IsDue.target_greeted a) = rw a refl
  due_is (IsDue.debugger_greeted a b) = rw (a, b) refl
  due_is (IsDue.asks_sizes a b c) = rw (a.target, a.debugger, b, c) refl
  due_is (IsDue.passes {command} {others} a b c) =
      joined_due a ∙ (ap (command_due asks s) b ∙ rw c refl)
  due_is (IsDue.hands_on a b c d) = no_command a b ∙ (ap (packet_due asks s) d ∙ rw c refl)
  due_is (IsDue.asks_question {sizes} {n} {left} a b c d e f g) =
      no_command a b ∙ (no_packet c ∙ (ap (λ (o : Option IdSizes). left_due asks s.sent o s.asking.left) d
      ∙ (ap (left_due asks s.sent (Some sizes)) e ∙ (ap (asked_due s.sent sizes n) f ∙ rw g refl))))

  -- What came ---------------------------------------------------------------------------------------------------------

  abbrev then_came : Step
  then_came = first_step (at_debugger (front_of s.debugger) s) (at_target asks (front_of s.target) s)

  pub says_it : {what : Said} → IsDue asks s what → step asks s ≡ Step.says what
  says_it is = ap (λ (d : Step). first_step d then_came) (due_is is)

  debugger_step : {front : Front Packet PacketFault} → AtDebugger asks s front
      → step asks s ≡ first_step (at_debugger front s) (at_target asks (front_of s.target) s)
  debugger_step at =
      ap (λ (d : Step). first_step d then_came) (all_said at.all_said)
      ∙ ap (λ (f : Front Packet PacketFault). first_step (at_debugger f s) (at_target asks (front_of s.target) s))
      at.here

  target_step : {front : Front Packet PacketFault} → AtTarget asks s front → step asks s ≡ at_target asks front s
  target_step at =
      debugger_step at.debugger ∙ ap (λ (f : Front Packet PacketFault). at_target asks f s) at.here

  reply_step : {id error : ℕ} {body : List ℕ} {n : ℕ} {owner : Option Owner} → HasReply asks s id error body n owner
      → step asks s
      ≡ reply_to asks (reply_packet id error body) s.target.stream.at id error body owner (past_target n s)
  reply_step {id} {error} {body} {n} reply =
      target_step reply.at_target
      ∙ ap (λ (o : Option Owner). reply_to asks (reply_packet id error body) s.target.stream.at id error body o
      (past_target n s)) reply.pending

  pub waits_so : AtTarget asks s Front.waits → step asks s ≡ Step.waits
  waits_so at = target_step at

  pub ends_it : {ending : TapEnding} → IsEnding asks s ending → (ending ≡ NoMemory) ⊎ (step asks s ≡ Step.ends ending)
  ends_it (IsEnding.bad_client at) = inr (debugger_step at)
  ends_it (IsEnding.no_command at) = inr (debugger_step at)
  ends_it (IsEnding.bad_packet at) = inr (target_step at)
  ends_it (IsEnding.unknown_reply reply) = inr (reply_step reply)
  ends_it (IsEnding.bad_sizes_body reply none reads at) = inr (reply_step reply ∙ rw (none, reads, at) refl)
  ends_it (IsEnding.bad_sizes reply none reads which) = inr (reply_step reply ∙ rw (none, reads, which) refl)
  ends_it (IsEnding.sizes_refused reply some) = inr (reply_step reply ∙ rw some refl)
  ends_it (IsEnding.bad_answer reply none there reads at) =
      inr (reply_step reply ∙ rw (none, there, reads, at) refl)
  ends_it (IsEnding.id_is_taken a b c) =
      let floods : due asks s ≡ Step.ends Flood = joined_due a ∙ (ap (command_due asks s) b ∙ rw c refl) in
      inr (ap (λ (d : Step). first_step d then_came) floods)
  ends_it (IsEnding.too_many_commands at cannot) = inr (debugger_step at ∙ rw cannot refl)
  ends_it (IsEnding.too_many_events at full) = inr (target_step at ∙ rw full refl)
  ends_it (IsEnding.too_many_replies reply full) = inr (reply_step reply ∙ rw full refl)
  ends_it IsEnding.no_memory = inl refl

-- Causes --------------------------------------------------------------------------------------------------------------

module _ (limits : Limits) (asks : List Ask) (turns : ℕ) (s : TapState) where
  shut_causes : (side : Side) → Listens limits asks turns s → IsCause limits asks turns s (shut_ending side s)
  shut_causes Client listens = by (is_whole s.debugger) refl
    where
      by : (b : Bool) → is_whole s.debugger ≡ b → IsCause limits asks turns s (cond b Done Left)
      by true is = IsCause.debugger_is_done listens is
      by false is = IsCause.debugger_has_left listens is
  shut_causes Target listens = by s.left_by refl
    where
      by : (b : Bool) → s.left_by ≡ b → IsCause limits asks turns s (cond b Done TargetGone)
      by true is = IsCause.target_was_let_go listens is
      by false is = IsCause.target_is_gone listens is

  some_bytes : (kept : ℕ) (bytes : List ℕ) → kept < length bytes → 0 < length bytes
  some_bytes kept bytes less = omega (arith, less)

  only : (ending : TapEnding) (entries : List Entry) (taken : ℕ) → TapCause limits asks turns s ending entries taken
      → IsCause limits asks turns s ending
  only _ _ _ (TapCause.judged h) = IsCause.is_wrong (subst (IsStep asks s) h (step_by asks s))
  only _ _ _ (TapCause.broken {what} {kept} h less) =
      IsCause.link_breaks (due_by asks s h) (some_bytes kept (bytes_of what) less)
  only _ _ _ (TapCause.shut side listens) = shut_causes side listens
  only _ _ _ (TapCause.lost side listens) = IsCause.link_is_lost side listens
  only _ _ _ (TapCause.idle a b c) = IsCause.too_quiet a b c
  only _ _ _ (TapCause.spent a b) = IsCause.too_long a b

  abbrev Has : TapEnding → Type 0
  Has ending =
      (ending ≡ NoMemory) ⊎ ((entries : List Entry) × (taken : ℕ) × TapCause limits asks turns s ending entries taken)

  shut_has : (side : Side) (ending : TapEnding) → Listens limits asks turns s → shut_ending side s ≡ ending → Has ending
  shut_has side ending listens is =
      inr (
        Shut side ∷ [],
        1,
        subst (λ (e : TapEnding). TapCause limits asks turns s e (Shut side ∷ []) 1) is
            (TapCause.shut side listens),
      )

  each : (ending : TapEnding) → IsCause limits asks turns s ending → Has ending
  each _ (IsCause.debugger_is_done listens is) = shut_has Client Done listens (rw is refl)
  each _ (IsCause.target_was_let_go listens is) = shut_has Target Done listens (rw is refl)
  each _ (IsCause.debugger_has_left listens is) = shut_has Client Left listens (rw is refl)
  each _ (IsCause.target_is_gone listens is) = shut_has Target TargetGone listens (rw is refl)
  each ending (IsCause.is_wrong is) = by (ends_it asks s is)
    where
      by : (ending ≡ NoMemory) ⊎ (step asks s ≡ Step.ends ending) → Has ending
      by (inl none) = inl none
      by (inr h) = inr ([], 0, TapCause.judged h)
  each _ (IsCause.link_is_lost side listens) = inr (Failed side ∷ [], 1, TapCause.lost side listens)
  each _ (IsCause.link_breaks {what} due some) =
      inr (broken_send (side_of what) (take 0 (bytes_of what)), 0, TapCause.broken {kept = 0} (says_it asks s due) some)
  each _ (IsCause.too_quiet a b c) = inr ([], 0, TapCause.idle a b c)
  each _ (IsCause.too_long a b) = inr ([], 0, TapCause.spent a b)

  pub are_causes : AreCauses limits asks turns s
  are_causes = record { only = only; each = each }

  -- The first cause ---------------------------------------------------------------------------------------------------

  judged : (first ending : TapEnding) (entries : List Entry) (taken : ℕ) → step asks s ≡ Step.ends first
      → TapCause limits asks turns s ending entries taken → ending ≡ first
  judged first _ _ _ is (TapCause.judged h) = cc
  judged first _ _ _ is (TapCause.broken h less) = absurd cc
  judged first _ _ _ is (TapCause.shut side listens) = let waits = listens.waits in absurd cc
  judged first _ _ _ is (TapCause.lost side listens) = let waits = listens.waits in absurd cc
  judged first _ _ _ is (TapCause.idle a b c) = absurd cc
  judged first _ _ _ is (TapCause.spent a b) = absurd cc

  speaks : (what : Said) (ending : TapEnding) (entries : List Entry) (taken : ℕ) → step asks s ≡ Step.says what
      → TapCause limits asks turns s ending entries taken → ending ≡ link_ending (side_of what)
  speaks what _ _ _ is (TapCause.judged h) = absurd cc
  speaks what _ _ _ is (TapCause.broken {what = other} h less) =
      let same : other ≡ what = cc in ap (λ (w : Said). link_ending (side_of w)) same
  speaks what _ _ _ is (TapCause.shut side listens) = let waits = listens.waits in absurd cc
  speaks what _ _ _ is (TapCause.lost side listens) = let waits = listens.waits in absurd cc
  speaks what _ _ _ is (TapCause.idle a b c) = absurd cc
  speaks what _ _ _ is (TapCause.spent a b) = absurd cc

  shut : (side : Side) (ending : TapEnding) (entries : List Entry) (taken : ℕ) → step asks s ≡ Step.waits
      → entries ≡ Shut side ∷ [] → TapCause limits asks turns s ending entries taken → ending ≡ shut_ending side s
  shut side _ _ _ is e (TapCause.judged h) = absurd cc
  shut side _ _ _ is e (TapCause.broken h less) = absurd cc
  shut side _ _ _ is e (TapCause.shut other listens) =
      let same : other ≡ side = cc in ap (λ (x : Side). shut_ending x s) same
  shut side _ _ _ is e (TapCause.lost other listens) = absurd cc
  shut side _ _ _ is e (TapCause.idle a b c) = absurd cc
  shut side _ _ _ is e (TapCause.spent a b) = absurd cc

  lost : (side : Side) (ending : TapEnding) (entries : List Entry) (taken : ℕ) → step asks s ≡ Step.waits
      → entries ≡ Failed side ∷ [] → TapCause limits asks turns s ending entries taken → ending ≡ link_ending side
  lost side _ _ _ is e (TapCause.judged h) = absurd cc
  lost side _ _ _ is e (TapCause.broken h less) = absurd cc
  lost side _ _ _ is e (TapCause.shut other listens) = absurd cc
  lost side _ _ _ is e (TapCause.lost other listens) =
      let same : other ≡ side = cc in ap (λ (x : Side). link_ending x) same
  lost side _ _ _ is e (TapCause.idle a b c) = absurd cc
  lost side _ _ _ is e (TapCause.spent a b) = absurd cc

  limited : (ending : TapEnding) (entries : List Entry) (taken : ℕ) → step asks s ≡ Step.waits → entries ≡ []
      → TapCause limits asks turns s ending entries taken
      → ((ending ≡ Idle) × (turns < limits.turns)) ⊎ ((ending ≡ Spent) × (turns ≡ limits.turns))
  limited _ _ _ is e (TapCause.judged h) = absurd cc
  limited _ _ _ is e (TapCause.broken h less) = absurd cc
  limited _ _ _ is e (TapCause.shut other listens) = absurd cc
  limited _ _ _ is e (TapCause.lost other listens) = absurd cc
  limited _ _ _ is e (TapCause.idle a b c) = inl (refl, b)
  limited _ _ _ is e (TapCause.spent a b) = inr (refl, b)

  pub is_decided : IsDecided limits asks turns s
  is_decided = record { judged = judged; speaks = speaks; shut = shut; lost = lost; limited = limited }
