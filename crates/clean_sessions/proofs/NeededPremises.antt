-- Sessions in which one thing alone goes wrong, checked by computation.
use Rattle.std.proofs.Common.{◌≡◌, ◌<◌, ◌≤◌, ℕ, inr, Bool, true, false, List, [], ◌∷◌, ◌++◌, None, Option, Some}
use Rattle.std.proofs.Common.{length, map, refl, sym, ap, subst, ◌∙◌, arith}
use Rattle.std.proofs.lemmas.List.{length-append, length-replicate}
use Rattle.std.specs.List.{AllByRecursion as All}
use Rattle.std.specs.Prelude.{replicate}
use Rattle.clean_sessions.specs.Client.{AreMessages}
use Rattle.clean_sessions.specs.Endings.{EndsWell}
use Rattle.clean_sessions.specs.Needed.{AreNeeded, HoldAtFirst, IsNeeded}
use Rattle.clean_sessions.specs.Premises.{ClientSpeaks, ClientStays, Does, FewWait, HasTurnsLeft, IsPatient, LinkHolds}
use Rattle.clean_sessions.specs.Premises.{Premise, RefusesLittle, TargetSpeaks}
use Rattle.clean_sessions.specs.Target.{IsWellFormed}
use Rattle.dap_frames.specs.Frames.{frame_front}
use Rattle.dap_frames.specs.declared.fault.FrameFault.TheVariants.{BadHeader}
use Rattle.dap_messages.specs.declared.told.Event.TheVariants as events
use Rattle.jdwp_commands.specs.declared.asked.Asked.{Asked}
use Rattle.jdwp_packets.specs.Packets.{Packet}
use Rattle.jdwp_packets.specs.Receiving.{HandsOut, received_front}
use Rattle.jdwp_packets.specs.declared.fault.PacketFault.TheVariants.{BadHandshake}
use Rattle.machine_model.specs.Due.{due, load_of, newly_lacked, pick, wanted}
use Rattle.machine_model.specs.Replying.{wire}
use Rattle.machine_model.specs.Runs.{Message, Run}
use Rattle.machine_model.specs.State.{Machine, fresh, is_gone}
use Rattle.machine_steps.proofs.Stepping.{Moves, by_moves, with_said}
use Rattle.pending_table.specs.Windows.{pending_under}
use Rattle.session_causes.specs.Outside.{HasEntry, client_end}
use Rattle.session_laws.specs.Bytes.{came_from}
use Rattle.session_laws.specs.Replies.{ArePackets, under_id}
use Rattle.session_model.specs.Causes.{Cause, IsWaiting, Listens}
use Rattle.session_model.specs.Faults.{IsClientFault, IsTargetFault}
use Rattle.session_model.specs.LastWords.{AreSpoken}
use Rattle.session_model.specs.Names.{an_event, BadClient, BadTarget, Client, ClientLink, Done, Ending, Entry, Failed}
use Rattle.session_model.specs.Names.{Idle, In, Left, Limits, misframed, mispacked, NoMemory, Out, Quiet, Shut, Side}
use Rattle.session_model.specs.Names.{Spent, Target}
use Rattle.session_model.specs.Names.{Told}
use Rattle.session_model.specs.Saying.{told_bytes}
use Rattle.session_model.specs.Session.{Comes, Going, IsLeft}
use Rattle.session_model.specs.States.{SessionState, no_bytes}
use Rattle.wire_core.specs.Streams.{Front, Uncut}

-- Where no message was said -------------------------------------------------------------------------------------------

some_last : {A : Type 0} (xs : List A) (x : A) → xs ++ x ∷ [] ≡ [] → ⊥
some_last [] x is = cc
some_last (first ∷ xs) x is = cc

-- nothing waits
waits_on : (messages : List Message) (m next : Machine) (said : Option Message) → (messages ≡ [] → m.waiting ≡ [])
    → Moves m said next → with_said messages said ≡ [] → next.waiting ≡ []
waits_on messages m next None h (Moves.begins picked free none is) empty =
    let no : None ≡ Some picked = sym (ap (λ items. pick (is_gone m.state.phase) items) (h empty)) ∙ is in cc
waits_on messages m next None h _ empty = h empty
waits_on messages m next (Some message) h moved empty = absurd (some_last messages message empty)

none_waits : {messages : List Message} {m : Machine} → Run messages m → messages ≡ [] → m.waiting ≡ []
none_waits r =
    by_moves {Holds = λ (messages : List Message) (m : Machine). messages ≡ [] → m.waiting ≡ []}
    (record {
      starts = λ empty. refl;
      moves = λ messages m next said h moved empty. waits_on messages m next said h moved empty;
      queues = λ messages m hand queue may h empty. h empty;
    }) r

few : (limits : Limits) → FewWait limits []
few limits m run =
    subst (λ items. length items ≤ limits.waiting) (sym (none_waits run refl)) (omega arith)

-- no packet was taken, and no command has no reply
record IsUnsaid (packets : List (ℕ × Packet)) (unreplied : List (ℕ × Asked)) : Type 0 where
  packets_none : packets ≡ []
  unreplied_none : unreplied ≡ []

unsaid : {packets : List (ℕ × Packet)} {messages : List Message} {count : ℕ} {unreplied : List (ℕ × Asked)}
    → ArePackets packets messages count unreplied → messages ≡ [] → IsUnsaid packets unreplied
unsaid ArePackets.none is = record { packets_none = refl; unreplied_none = refl }
unsaid (ArePackets.beside {messages} message beside said) is = absurd (some_last messages message is)
unsaid (ArePackets.sends {messages} command said) is = absurd (some_last messages _ is)
unsaid (ArePackets.answers {messages} offset number before after run says said) is =
    absurd (some_last messages _ is)
unsaid (ArePackets.comes {messages} offset id set number body composite is_one run serves reads said) is =
    absurd (some_last messages _ is)
unsaid (ArePackets.keeps {messages} offset id set number body is_one said) is = absurd (some_last messages _ is)
unsaid (ArePackets.reads {messages} offset body composite run serves reads said) is =
    absurd (some_last messages _ is)

little : (log : List Entry) → RefusesLittle log []
little log unreplied command id error n body next pending some =
    let none = (unsaid next.said refl).unreplied_none in
    let no : None ≡ Some (wire command) =
    ap (λ sent. pending_under id (map under_id sent)) (sym none) ∙ pending in cc

nothing_next : (bytes : List ℕ) (packets : List (ℕ × Packet)) (greeted : Bool) (stream : Uncut) → bytes ≡ []
    → HandsOut bytes packets greeted stream → received_front greeted stream.pending ≡ Front.waits
nothing_next bytes packets true stream none (more, parts, hands) = cc
nothing_next bytes packets false stream none (no_packet, same) = rw (same, none) refl

silent : (log : List Entry) → came_from Target log ≡ [] → TargetSpeaks log []
silent log none unreplied front next =
    let waits = nothing_next (came_from Target log) next.packets next.greeted next.stream none next.cut in
    subst (λ f. IsWellFormed [] unreplied f) (sym waits ∙ next.is) tt

-- Logs ----------------------------------------------------------------------------------------------------------------

abbrev AllAre : (Entry → Bool) → List Entry → Type 0
AllAre test log = All (λ (entry : Entry). test entry ≡ true) log

all_at : (test : Entry → Bool) (before : List Entry) (entry : Entry) (after : List Entry)
    → AllAre test (before ++ entry ∷ after) → test entry ≡ true
all_at test [] entry after all = all.0
all_at test (first ∷ before) entry after all = all_at test before entry after all.1

-- a log in which all pass a test has none that fails it
has_none : (test : Entry → Bool) (entry : Entry) (log : List Entry) → AllAre test log → test entry ≡ false
    → HasEntry entry log → ⊥
has_none test entry log all fails (before, after, is) =
    let no : true ≡ false = sym (all_at test before entry after (subst (λ log. AllAre test log) is all)) ∙ fails in cc

abbrev is_no_end : Entry → Bool
is_no_end (Shut Client) = false
is_no_end _ = true

abbrev is_no_failure : Entry → Bool
is_no_failure (Failed side) = false
is_no_failure _ = true

-- a log that is too short for so many waits has fewer
few_waits : (limits : Limits) (log : List Entry) → length log < limits.quiet → IsPatient limits log
few_waits limits log short before after is =
    let all = ap (λ (l : List Entry). length l) is
    ∙ length-append (before ++ replicate limits.quiet Quiet) after in
    let front = length-append before (replicate limits.quiet Quiet) in
    let waits = length-replicate limits.quiet Quiet in
    omega (arith, all, front, waits, short)

-- All but one ---------------------------------------------------------------------------------------------------------

record AllBut (limits : Limits) (log : List Entry) (premise : Premise) : Type 0 where
  speaks : ¬ (Premise.client_speaks ≡ premise) → ClientSpeaks log
  stays : ¬ (Premise.client_stays ≡ premise) → ClientStays log
  holds : ¬ (Premise.links_hold ≡ premise) → (side : Side) → LinkHolds side log
  target : ¬ (Premise.target_speaks ≡ premise) → TargetSpeaks log []
  patient : ¬ (Premise.is_patient ≡ premise) → IsPatient limits log
  turns : ¬ (Premise.has_turns_left ≡ premise) → HasTurnsLeft limits log

others : (limits : Limits) (log : List Entry) {premise : Premise} → AllBut limits log premise → (other : Premise)
    → ¬ (other ≡ premise) → Does limits log [] other
others limits log a Premise.client_speaks apart = a.speaks apart
others limits log a Premise.client_stays apart = a.stays apart
others limits log a Premise.links_hold apart = a.holds apart
others limits log a Premise.target_speaks apart = a.target apart
others limits log a Premise.kept_read apart = tt
others limits log a Premise.none_suspends_one apart = tt
others limits log a Premise.refuses_little apart = little log
others limits log a Premise.few_wait apart = few limits
others limits log a Premise.is_patient apart = a.patient apart
others limits log a Premise.has_turns_left apart = a.turns apart

abbrev is_bad : Ending → Bool
is_bad Done = false
is_bad NoMemory = false
is_bad _ = true

badly_by : {ending : Ending} → is_bad ending ≡ true → EndsWell [] ending → ⊥
badly_by is (EndsWell.done done) = cc
badly_by is EndsWell.no_memory = cc

-- The sessions --------------------------------------------------------------------------------------------------------

-- so many turns and so many waits in a row there may be
abbrev within : ℕ → ℕ → Limits
within turns quiet = record { turns = turns; quiet = quiet; waiting = 2 }

abbrev quiet_for : ℕ → SessionState
quiet_for n = record { machine = fresh; streams = no_bytes; quiets = n }

-- a session in which nothing came waits
waits : (turns quiet n : ℕ) → IsWaiting (within turns quiet) (quiet_for n)
unfolding due wanted load_of newly_lacked frame_front
waits turns quiet n = record {
  reads = record {
    reads = record { nothing_due = refl; on = record { no_flood = omega arith } };
    none_to_read = refl;
    greeted = refl;
  };
  no_frame = inr refl;
  no_packet = refl;
  not_ended = refl;
}

listens : Listens (within 3 3) 0 (quiet_for 0)
listens = record { waits = waits 3 3 0; more_turns = omega arith; patient = omega arith }

nothing_said : (log : List Entry) → came_from Client log ≡ [] → ClientSpeaks log
unfolding frame_front
nothing_said log none = AreMessages.none_whole (rw none refl)

abbrev gone : Told
gone = an_event events.Terminated

-- the client's stream ends
leaves : IsNeeded Premise.client_stays
leaves = record {
  limits = within 3 3;
  log = Shut Client ∷ [];
  messages = [];
  turns = 1;
  ending = Left;
  left = IsLeft.ended (record {
    before = [];
    by_cause = Shut Client ∷ [];
    by_words = [];
    earlier = 0;
    taken = 1;
    log_is = refl;
    turns_are = refl;
    going = Going.begins;
    cause = Cause.shut listens;
    words = AreSpoken.none;
  }) refl;
  others = others (within 3 3) (Shut Client ∷ []) (record {
    speaks = λ apart. nothing_said (Shut Client ∷ []) refl;
    stays = λ apart. absurd (apart refl);
    holds = λ apart side. has_none is_no_failure (Failed side) (Shut Client ∷ []) (refl, tt) refl;
    target = λ apart. silent (Shut Client ∷ []) refl;
    patient = λ apart. few_waits (within 3 3) (Shut Client ∷ []) (omega arith);
    turns = λ apart. omega arith;
  });
  badly = λ well. badly_by refl well;
}

-- the client's link fails
fails : IsNeeded Premise.links_hold
fails = record {
  limits = within 3 3;
  log = Failed Client ∷ [];
  messages = [];
  turns = 1;
  ending = ClientLink;
  left = IsLeft.ended (record {
    before = [];
    by_cause = Failed Client ∷ [];
    by_words = [];
    earlier = 0;
    taken = 1;
    log_is = refl;
    turns_are = refl;
    going = Going.begins;
    cause = Cause.lost Client listens;
    words = AreSpoken.none;
  }) refl;
  others = others (within 3 3) (Failed Client ∷ []) (record {
    speaks = λ apart. nothing_said (Failed Client ∷ []) refl;
    stays = λ apart. has_none is_no_end client_end (Failed Client ∷ []) (refl, tt) refl;
    holds = λ apart. absurd (apart refl);
    target = λ apart. silent (Failed Client ∷ []) refl;
    patient = λ apart. few_waits (within 3 3) (Failed Client ∷ []) (omega arith);
    turns = λ apart. omega arith;
  });
  badly = λ well. badly_by refl well;
}

-- one turn is taken, where one may be
spends : IsNeeded Premise.has_turns_left
spends = record {
  limits = within 1 3;
  log = Quiet ∷ [];
  messages = [];
  turns = 1;
  ending = Spent;
  left = IsLeft.ended (record {
    before = Quiet ∷ [];
    by_cause = [];
    by_words = [];
    earlier = 1;
    taken = 0;
    log_is = refl;
    turns_are = refl;
    going = Going.happens Going.begins
        (record { waits = waits 1 3 0; more_turns = omega arith; patient = omega arith }) Comes.passes_quiet;
    cause = Cause.spent (waits 1 3 1) refl;
    words = AreSpoken.none;
  }) refl;
  others = others (within 1 3) (Quiet ∷ []) (record {
    speaks = λ apart. nothing_said (Quiet ∷ []) refl;
    stays = λ apart. has_none is_no_end client_end (Quiet ∷ []) (refl, tt) refl;
    holds = λ apart side. has_none is_no_failure (Failed side) (Quiet ∷ []) (refl, tt) refl;
    target = λ apart. silent (Quiet ∷ []) refl;
    patient = λ apart. few_waits (within 1 3) (Quiet ∷ []) (omega arith);
    turns = λ apart. absurd (apart refl);
  });
  badly = λ well. badly_by refl well;
}

-- one wait is in vain, where one may be
abbrev idle_log : List Entry
idle_log = Quiet ∷ Out Client (told_bytes 0 gone) ∷ []

idles : IsNeeded Premise.is_patient
idles = record {
  limits = within 3 1;
  log = idle_log;
  messages = [];
  turns = 1;
  ending = Idle;
  left = IsLeft.ended (record {
    before = Quiet ∷ [];
    by_cause = [];
    by_words = Out Client (told_bytes 0 gone) ∷ [];
    earlier = 1;
    taken = 0;
    log_is = refl;
    turns_are = refl;
    going = Going.happens Going.begins
        (record { waits = waits 3 1 0; more_turns = omega arith; patient = omega arith }) Comes.passes_quiet;
    cause = Cause.idle (waits 3 1 1) (omega arith) refl;
    words = AreSpoken.one_more AreSpoken.none;
  }) refl;
  others = others (within 3 1) idle_log (record {
    speaks = λ apart. nothing_said idle_log refl;
    stays = λ apart. has_none is_no_end client_end idle_log (refl, (refl, tt)) refl;
    holds = λ apart side. has_none is_no_failure (Failed side) idle_log (refl, (refl, tt)) refl;
    target = λ apart. silent idle_log refl;
    patient = λ apart. absurd (apart refl);
    turns = λ apart. omega arith;
  });
  badly = λ well. badly_by refl well;
}

-- the client's first byte is the end of a line
abbrev client_log : List Entry
client_log = In Client (10 ∷ []) ∷ []

speaks_badly : IsNeeded Premise.client_speaks
unfolding due wanted load_of newly_lacked frame_front
speaks_badly = record {
  limits = within 3 3;
  log = client_log;
  messages = [];
  turns = 1;
  ending = BadClient (misframed BadHeader) 0;
  left = IsLeft.ended (record {
    before = client_log;
    by_cause = [];
    by_words = [];
    earlier = 1;
    taken = 0;
    log_is = refl;
    turns_are = refl;
    going = Going.happens Going.begins listens Comes.piece;
    cause = Cause.misread (record {
      reads = record { nothing_due = refl; on = record { no_flood = omega arith } };
      none_to_read = refl;
      is_open = refl;
    }) (IsClientFault.bad_frame {fault = BadHeader} {distance = 0} refl);
    words = AreSpoken.none;
  }) refl;
  others = others (within 3 3) client_log (record {
    speaks = λ apart. absurd (apart refl);
    stays = λ apart. has_none is_no_end client_end client_log (refl, tt) refl;
    holds = λ apart side. has_none is_no_failure (Failed side) client_log (refl, tt) refl;
    target = λ apart. silent client_log refl;
    patient = λ apart. few_waits (within 3 3) client_log (omega arith);
    turns = λ apart. omega arith;
  });
  badly = λ well. badly_by refl well;
}

-- the target's first byte is none of the handshake
abbrev target_log : List Entry
target_log = In Target (0 ∷ []) ∷ Out Client (told_bytes 0 gone) ∷ []

answers_badly : IsNeeded Premise.target_speaks
unfolding due wanted load_of newly_lacked frame_front
answers_badly = record {
  limits = within 3 3;
  log = target_log;
  messages = [];
  turns = 1;
  ending = BadTarget (mispacked BadHandshake) 0 0;
  left = IsLeft.ended (record {
    before = In Target (0 ∷ []) ∷ [];
    by_cause = [];
    by_words = Out Client (told_bytes 0 gone) ∷ [];
    earlier = 1;
    taken = 0;
    log_is = refl;
    turns_are = refl;
    going = Going.happens Going.begins listens Comes.packets;
    cause = Cause.misheard (record {
      reads = record { nothing_due = refl; on = record { no_flood = omega arith } };
      none_to_read = refl;
      greeted = refl;
    }) (IsTargetFault.bad_packet {fault = BadHandshake} {distance = 0} refl);
    words = AreSpoken.one_more AreSpoken.none;
  }) refl;
  others = others (within 3 3) target_log (record {
    speaks = λ apart. nothing_said target_log refl;
    stays = λ apart. has_none is_no_end client_end target_log (refl, (refl, tt)) refl;
    holds = λ apart side. has_none is_no_failure (Failed side) target_log (refl, (refl, tt)) refl;
    target = λ apart. absurd (apart refl);
    patient = λ apart. few_waits (within 3 3) target_log (omega arith);
    turns = λ apart. omega arith;
  });
  badly = λ well. badly_by refl well;
}

pub are_needed : AreNeeded
are_needed = (speaks_badly, (leaves, (fails, (answers_badly, (idles, (spends, tt))))))

pub hold_at_first : HoldAtFirst
hold_at_first limits turns quiet Premise.client_speaks = nothing_said [] refl
hold_at_first limits turns quiet Premise.client_stays = has_none is_no_end client_end [] tt refl
hold_at_first limits turns quiet Premise.links_hold = λ side. has_none is_no_failure (Failed side) [] tt refl
hold_at_first limits turns quiet Premise.target_speaks = silent [] refl
hold_at_first limits turns quiet Premise.kept_read = tt
hold_at_first limits turns quiet Premise.none_suspends_one = tt
hold_at_first limits turns quiet Premise.refuses_little = little []
hold_at_first limits turns quiet Premise.few_wait = few limits
hold_at_first limits turns quiet Premise.is_patient = few_waits limits [] quiet
hold_at_first limits turns quiet Premise.has_turns_left = turns
