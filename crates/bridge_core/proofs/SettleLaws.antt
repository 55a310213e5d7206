-- Replies: moves of the machine, and endings.
use Rattle.std.proofs.Common.{◌≡◌, ℕ, ◌+◌, ◌*◌, ◌<◌, ◌++◌, ◌∷◌, Bool, true, false, cond, List, [], length, Option}
use Rattle.std.proofs.Common.{None, Some, Ok, Err, refl, sym, ap, subst, ◌∙◌, arith, OnOk}
use Rattle.std.specs.Prelude.{option_map, IfErr, Result}
use Rattle.std.specs.List.{position_or_len, remove}
use Rattle.jdwp_commands.specs.Answers.{answer_at}
use Rattle.jdwp_commands.specs.Commands.{number_of}
use Rattle.jdwp_commands.specs.declared.asked.Asked.{Asked}
use Rattle.jdwp_commands.specs.declared.asked.Asked.TheVariants as commands
use Rattle.jdwp_commands.specs.declared.asked.Replied.{Replied}
use Rattle.jdwp_commands.specs.declared.effect.Effect.{Effect as WireEffect}
use Rattle.jdwp_commands.specs.declared.question.Question.{Question}
use Rattle.jdwp_packets.specs.Packets.{reply_packet}
use Rattle.jdwp_values.specs.declared.sizes.IdSizes.{IdSizes}
use Rattle.machine_model.specs.Due.{can_read}
use Rattle.machine_model.specs.Replying.{IsReply, SizesFor, answered, is_tolerated, wire}
use Rattle.machine_model.specs.Runs.{Allows, Message, Run}
use Rattle.machine_model.specs.State.{Hand, Machine, is_gone}
use Rattle.machine_model.specs.declared.acts.TargetCommand.{TargetCommand}
use Rattle.pending_table.specs.Windows.{Window, pending_under, place_under, settled, without}
use Rattle.bridge_core.specs.Aligning.{Aligned}
use Rattle.bridge_core.proofs.Pending as pending
use Rattle.bridge_core.proofs.Pending.{has_id}
use Rattle.bridge_core.specs.Calls.{AreRead, IsAtFront, IsLike, RefusesPacket, TakesPacket}
use Rattle.bridge_core.specs.Cores.{CoreState, IsReady, Unheard, session_in, with_machine}
use Rattle.message_bodies.specs.Hearing.{HasBadSizes, IsJudged, IsRefused, is_tolerated_asked}
use Rattle.bridge_core.specs.Moving.{IsFlight, RefusesKept}
use Rattle.bridge_core.specs.Names.{Effect, a_composite, a_question, an_effect}
use Rattle.bridge_core.specs.Packets.{CanReply, Hears, IsSettled, IsUnsettled, Replies}
use Rattle.bridge_core.proofs.KeptLaws.{read_run}
use Rattle.message_bodies.proofs.HearLaws.{is_answer_fault}
use Rattle.bridge_core.proofs.RunLaws.{hand_next, near_late}
use Rattle.bridge_core.proofs.WindowLaws.{effect_under, found, items_aligned, late_under, none_held, question_under}
use Rattle.session_model.specs.Faults.{HasReply, IsTargetFault}
use Rattle.target_bodies.specs.Hearing.{header}
use Rattle.session_model.specs.Saying.{PacketSays, SaysReply}
use Rattle.session_endings.specs.declared.ending.Ending.{Ending}
use Rattle.session_endings.specs.declared.ending.Ending.TheVariants.{BadTarget, TargetRefused}
use Rattle.session_endings.specs.declared.ending.TargetFault.TheVariants.{BadSizes, UnknownReply}

-- Places --------------------------------------------------------------------------------------------------------------

-- the place under an id is the first that has it
placed : (id : ℕ) (sent : List (ℕ × Asked)) (place : ℕ) → place_under id sent ≡ Some place
    → pending.place_under id sent ≡ place
placed id [] place is = cc
placed id (s ∷ sent) place is =
    by_id (has_id id s) refl is (λ at found. placed id sent at found)
  where
    by_rest : (found : Option ℕ) → place_under id sent ≡ found → option_map (λ (n : ℕ). 1 + n) found ≡ Some place
        → ((at : ℕ) → place_under id sent ≡ Some at → position_or_len (has_id id) sent ≡ at)
        → 1 + position_or_len (has_id id) sent ≡ place
    by_rest None at is rest = cc
    by_rest (Some n) at is rest = let one = rest n at in let two : 1 + n ≡ place = cc in omega arith

    by_id : (here : Bool) → has_id id s ≡ here
        → cond here (Some 0) (option_map (λ (n : ℕ). 1 + n) (place_under id sent)) ≡ Some place
        → ((at : ℕ) → place_under id sent ≡ Some at → position_or_len (has_id id) sent ≡ at)
        → position_or_len (has_id id) (s ∷ sent) ≡ place
    by_id true same is rest = rw same (let zero_is : 0 ≡ place = cc in zero_is)
    by_id false same is rest = rw same (by_rest (place_under id sent) refl is rest)

-- What can be replied to ----------------------------------------------------------------------------------------------

-- a command under an id can be replied to
pub can_reply : (core : CoreState) (id place : ℕ) (asked : Asked) → IsReady core
    → pending_under id core.commands.sent ≡ Some asked → place_under id core.commands.sent ≡ Some place
    → CanReply core.machine place
can_reply core id place asked ready has at = record {
  late = λ gone. let l = late_under ready.sound.run gone core.commands.sent ready.sound.aligned id asked has in
      let there : length l.before ≡ place = l.place ∙ placed id core.commands.sent place at in
      let long : length core.machine.late ≡ length (l.before ++ l.command ∷ l.after) = ap length l.late_is in
      let all = within l.before l.command l.after in omega arith;
  next = λ hand effect flight. hand_next ready.sound.run hand flight.held effect flight.flying;
}
  where
    within : (before : List TargetCommand) (command : TargetCommand) (after : List TargetCommand)
        → length before < length (before ++ command ∷ after)
    within [] command after = omega arith
    within (first ∷ before) command after = let rest = within before command after in omega arith

-- Replies that are taken ----------------------------------------------------------------------------------------------

-- the machine's command that was replied to, and what that leads to
pub record IsReplied (old : CoreState) (id : ℕ) (asked : Asked) (replied : Replied) (next : Machine) : Type 0 where
  pub command : TargetCommand
  pub is_sent : wire command ≡ asked
  pub allows : IsReply old.machine.state.sizes command replied
      → Allows old.machine (Message.answers command replied) next
  pub aligned : Aligned (without id old.commands.sent) next

no_reply : {A : Type 0} (id : ℕ) (asked : Asked) (sent : List (ℕ × Asked)) → sent ≡ []
    → pending_under id sent ≡ Some asked → A
no_reply id asked sent none has = absurd (let no : None ≡ Some asked = sym (ap (pending_under id) none) ∙ has in cc)

replied_late : (old : CoreState) (id place : ℕ) (asked : Asked) (replied : Replied) (next : Machine) → IsReady old
    → pending_under id old.commands.sent ≡ Some asked → place_under id old.commands.sent ≡ Some place
    → is_gone old.machine.state.phase ≡ true
    → next ≡ record old.machine { late = remove old.machine.late place } → IsReplied old id asked replied next
replied_late old id place asked replied next ready has at gone is =
    let l = late_under ready.sound.run gone old.commands.sent ready.sound.aligned id asked has in
    let there : pending.place_under id old.commands.sent ≡ place = placed id old.commands.sent place at in
    let now : record old.machine { late = l.before ++ l.after } ≡ next =
    ap (λ (late : List TargetCommand). record old.machine { late = late })
    (l.removed ∙ ap (remove old.machine.late) there) ∙ sym is in
    subst (λ (m : Machine). IsReplied old id asked replied m) now (record {
      command = l.command;
      is_sent = l.is_sent;
      allows = λ reply. Allows.late l.before l.after ready.sound.none_to_read l.late_is reply;
      aligned = l.aligned;
    })

replied_question : (old : CoreState) (id : ℕ) (question : Question) (replied : Replied) (next : Machine) → IsReady old
    → pending_under id old.commands.sent ≡ Some (commands.Question question) → is_gone old.machine.state.phase ≡ false
    → ((hand : Hand) → old.machine.hand ≡ Some hand → next ≡ answered old.machine (a_question question) replied)
    → IsReplied old id (commands.Question question) replied next
replied_question old id question replied next ready has near is = by_hand old.machine.hand refl
  where
    by_hand : (held : Option Hand) → old.machine.hand ≡ held
        → IsReplied old id (commands.Question question) replied next
    by_hand None none =
        no_reply id (commands.Question question) old.commands.sent
        (none_held old.commands.sent old.machine (near_late ready.sound.run near) none ready.sound.aligned) has
    by_hand (Some hand) held =
        let q = question_under ready.sound.run (near_late ready.sound.run near) hand held old.commands.sent
        ready.sound.aligned id question has in
        subst (λ (m : Machine). IsReplied old id (commands.Question question) replied m) (sym (is hand held)) (record {
          command = a_question question;
          is_sent = refl;
          allows = λ reply. Allows.answers hand ready.sound.none_to_read held q.waits reply;
          aligned = q.aligned replied;
        })

replied_effect : (old : CoreState) (id : ℕ) (effect : WireEffect) (replied : Replied) (next : Machine) → IsReady old
    → pending_under id old.commands.sent ≡ Some (commands.Effect effect) → is_gone old.machine.state.phase ≡ false
    → ((hand : Hand) (of : Effect) → IsFlight old.machine hand of
    → next ≡ answered old.machine (an_effect of) replied)
    → IsReplied old id (commands.Effect effect) replied next
replied_effect old id effect replied next ready has near is = by_hand old.machine.hand refl
  where
    by_hand : (held : Option Hand) → old.machine.hand ≡ held
        → IsReplied old id (commands.Effect effect) replied next
    by_hand None none =
        no_reply id (commands.Effect effect) old.commands.sent
        (none_held old.commands.sent old.machine (near_late ready.sound.run near) none ready.sound.aligned) has
    by_hand (Some hand) held =
        let e = effect_under ready.sound.run (near_late ready.sound.run near) hand held old.commands.sent
        ready.sound.aligned id effect has in
        subst (λ (m : Machine). IsReplied old id (commands.Effect effect) replied m)
        (sym (is hand e.of (record { held = held; flying = e.flies }))) (record {
          command = an_effect e.of;
          is_sent = e.is_sent;
          allows = λ reply. Allows.replies hand ready.sound.none_to_read held e.flies reply;
          aligned = e.aligned replied;
        })

is_replied : (old : CoreState) (id place : ℕ) (asked : Asked) (replied : Replied) (next : Machine) → IsReady old
    → pending_under id old.commands.sent ≡ Some asked → place_under id old.commands.sent ≡ Some place
    → Replies old.machine place asked replied next → IsReplied old id asked replied next
is_replied old id place asked replied next ready has at (Replies.late gone is) =
    replied_late old id place asked replied next ready has at gone is
is_replied old id place asked replied next ready has at (Replies.question question near same is) =
    subst (λ (a : Asked). IsReplied old id a replied next) (sym same)
    (replied_question old id question replied next ready (has ∙ ap (λ (a : Asked). Some a) same) near is)
is_replied old id place asked replied next ready has at (Replies.effect effect near same is) =
    subst (λ (a : Asked). IsReplied old id a replied next) (sym same)
    (replied_effect old id effect replied next ready (has ∙ ap (λ (a : Asked). Some a) same) near is)

tolerated_so : (command : TargetCommand) (code : ℕ)
    → is_tolerated_asked (wire command) code ≡ is_tolerated command code
tolerated_so command code = grind arith

-- a reply that was judged is one that may come
is_reply : (sizes : _) (used : IdSizes) (command : TargetCommand) (error : ℕ) (body : List ℕ) (replied : Replied)
    → SizesFor sizes used → IsJudged used (wire command) error body replied → IsReply sizes command replied
is_reply sizes used command error body replied serves (IsJudged.answers reads answers good) =
    IsReply.with_answer used serves answers good
is_reply sizes used command error body replied serves (IsJudged.refuses positive tolerated) =
    IsReply.with_error positive (sym (tolerated_so command error) ∙ tolerated)

says_reply : (sizes : _) (used : IdSizes) (command : TargetCommand) (error : ℕ) (body : List ℕ) (replied : Replied)
    → SizesFor sizes used → IsJudged used (wire command) error body replied → SaysReply sizes command error body replied
says_reply sizes used command error body replied serves (IsJudged.answers reads answers good) =
    SaysReply.answers serves reads
says_reply sizes used command error body replied serves (IsJudged.refuses positive tolerated) =
    SaysReply.refuses positive

-- a reply is taken, and behind it composites are read that were kept
takes_to : (old : CoreState) (id place error at : ℕ) (body : List ℕ) (new : CoreState) (next : Machine) → IsReady old
    → place_under id old.commands.sent ≡ Some place → IsSettled old id place error body new
    → AreRead new.machine next → TakesPacket old at (reply_packet id error body) (with_machine new next)
takes_to old id place error at body new next ready there s read =
    let r = is_replied old id place s.asked s.replied new.machine ready s.has there s.replies in
    let judged = subst (λ (a : Asked). IsJudged s.used a error body s.replied) (sym r.is_sent) s.judged in
    record {
      message = Message.answers r.command s.replied;
      says = λ unheard same. subst (λ window. PacketSays (session_in old unheard) (reply_packet id error body)
          (Message.answers r.command s.replied) window) (sym (ap (λ (c : CoreState). c.commands) s.same))
          (PacketSays.answers (s.has ∙ ap (λ (a : Asked). Some a) (sym r.is_sent))
          (says_reply old.machine.state.sizes s.used r.command error body s.replied s.serves judged));
      behind = new.machine;
      allows = r.allows (is_reply old.machine.state.sizes s.used r.command error body s.replied s.serves judged);
      reads = read;
      same = ap (λ (c : CoreState). with_machine c next) s.same ∙ ap (λ window. record old {
        machine = next;
        commands = window;
      }) (sym (ap (λ (c : CoreState). c.commands) s.same));
    }

-- composites that are read leave what is pending
read_aligned : (sent : List (ℕ × Asked)) {m next : Machine} → Aligned sent m → AreRead m next → Aligned sent next
read_aligned sent a AreRead.none = a
read_aligned sent a (AreRead.one_more middle are one) =
    subst (λ (now : Machine). Aligned sent now) (sym one.are)
    (items_aligned sent middle (one.before ++ a_composite one.at one.composite ∷ one.after) (read_aligned sent a are))

-- a reply is taken
pub settles_so : (old : CoreState) (id place error at : ℕ) (body : List ℕ) (new : CoreState) (next : Machine)
    → IsReady old → place_under id old.commands.sent ≡ Some place → IsSettled old id place error body new
    → AreRead new.machine next → can_read next ≡ false
    → Hears old at (reply_packet id error body) (with_machine new next)
settles_so old id place error at body new next ready there s read none =
    let t = takes_to old id place error at body new next ready there s read in
    let r = is_replied old id place s.asked s.replied new.machine ready s.has there s.replies in
    let run = read_run (record {
      messages = ready.sound.messages ++ t.message ∷ [];
      run = Run.moves ready.sound.run t.allows;
    }) t.reads in
    record {
      takes = t;
      sound = record {
        messages = run.messages;
        run = run.run;
        aligned = read_aligned _ (subst (λ (sent : List (ℕ × Asked)). Aligned sent new.machine)
            (sym (ap (λ (c : CoreState). c.commands.sent) s.same)) r.aligned) read;
        none_to_read = none;
      };
    }

-- one of the composites that were kept ends the session behind it
pub refuses_behind : (old : CoreState) (id place error at : ℕ) (body : List ℕ) (new : CoreState) (next : Machine)
    (ending : Ending) → IsReady old → place_under id old.commands.sent ≡ Some place
    → IsSettled old id place error body new → RefusesKept new.machine next ending
    → RefusesPacket old at (reply_packet id error body) (with_machine new next) ending
refuses_behind old id place error at body new next ending ready there s refuses = by_cause refuses
  where
    by_cause : {ending : Ending} → RefusesKept new.machine next ending
        → RefusesPacket old at (reply_packet id error body) (with_machine new next) ending
    by_cause RefusesKept.no_memory = RefusesPacket.no_memory
    by_cause (RefusesKept.faulty read fault) =
        RefusesPacket.kept (takes_to old id place error at body new next ready there s read) fault

-- Replies that end the session ----------------------------------------------------------------------------------------

-- a reply to no command
pub refuses_unknown : (old new : CoreState) (id error at : ℕ) (body : List ℕ)
    → pending_under id old.commands.sent ≡ None → new ≡ old
    → RefusesPacket old at (reply_packet id error body) new (BadTarget UnknownReply at id)
refuses_unknown old new id error at body none same =
    RefusesPacket.faulty (λ unheard front. subst (λ (offset : ℕ). IsTargetFault (session_in old unheard) UnknownReply
    offset id) front.offset (IsTargetFault.unknown_reply front.front none))
    (subst (λ (core : CoreState). IsLike old core) (sym same) (record { same = refl; next = refl }))

pub none_under : (id : ℕ) (sent : List (ℕ × Asked)) → place_under id sent ≡ None → pending_under id sent ≡ None
none_under id [] is = refl
none_under id (s ∷ sent) is = by_id (has_id id s) is (λ rest. none_under id sent rest)
  where
    rest_none : (found : Option ℕ) → option_map (λ (n : ℕ). 1 + n) found ≡ None → found ≡ None
    rest_none None is = refl
    rest_none (Some n) is = cc

    by_id : (here : Bool) → cond here (Some 0) (option_map (λ (n : ℕ). 1 + n) (place_under id sent)) ≡ None
        → (place_under id sent ≡ None → pending_under id sent ≡ None)
        → cond here (Some s.1) (pending_under id sent) ≡ None
    by_id true is rest = cc
    by_id false is rest = rest (rest_none (place_under id sent) is)

-- a reply that isn't taken
pub refuses_reply : (old new : CoreState) (at id error : ℕ) (body : List ℕ) (ending : Ending) → IsReady old
    → IsUnsettled old at id error body new ending → RefusesPacket old at (reply_packet id error body) new ending
refuses_reply old new at id error body ending ready IsUnsettled.no_memory = RefusesPacket.no_memory
refuses_reply old new at id error body ending ready (IsUnsettled.refused asked used has serves cause same) =
    by_cause cause
  where
    command : TargetCommand
    command = (found id asked old.commands.sent _ ready.sound.aligned has).command

    is_sent : wire command ≡ asked
    is_sent = (found id asked old.commands.sent _ ready.sound.aligned has).is_sent

    like : IsLike old new
    like = subst (λ (core : CoreState). IsLike old core) (sym same) (record { same = refl; next = refl })

    has_reply : {error : ℕ} (unheard : Unheard) → IsAtFront old at (reply_packet id error body) unheard
        → HasReply (session_in old unheard) command error body
    has_reply unheard front = record {
      id = id;
      taken = front.taken;
      front = front.front;
      pending = has ∙ ap (λ (a : Asked). Some a) (sym is_sent);
    }

    by_cause : {error : ℕ} {ending : Ending} → IsRefused used asked at error body ending
        → RefusesPacket old at (reply_packet id error body) new ending
    by_cause IsRefused.no_memory = RefusesPacket.no_memory
    by_cause {error} (IsRefused.refused positive untolerated) =
        subst (λ (a : Asked). RefusesPacket old at (reply_packet id error body) new
        (TargetRefused (number_of a).0 (number_of a).1 error)) is_sent
        (RefusesPacket.refused (λ unheard front. has_reply unheard front) positive
        (sym (tolerated_so command error) ∙ ap (λ (a : Asked). is_tolerated_asked a error) is_sent ∙ untolerated) like)
    by_cause (IsRefused.bad_answer {found = wrong} {fault = fault} {place = place} reads is) =
        RefusesPacket.faulty (λ unheard front. subst (λ (offset : ℕ). IsTargetFault (session_in old unheard) fault
        (offset + header + place) 0) front.offset (IsTargetFault.bad_answer (record {
          body = body;
          used = used;
          reply = has_reply unheard front;
          serves = serves;
          reads = ap (λ (a : Asked). answer_at used a body) is_sent ∙ reads;
        }) (is_answer_fault wrong fault place is))) like
    by_cause (IsRefused.bad_sizes {answer = answer} reads bad) = by_sizes bad
      where
        by_sizes : {ending : Ending} → HasBadSizes answer at ending
            → RefusesPacket old at (reply_packet id 0 body) new ending
        by_sizes HasBadSizes.no_memory = RefusesPacket.no_memory
        by_sizes (HasBadSizes.bad_sizes {which} is) =
            RefusesPacket.faulty (λ unheard front. subst (λ (offset : ℕ). IsTargetFault (session_in old unheard)
            BadSizes (offset + header + 4 * which) 0) front.offset (IsTargetFault.bad_sizes (record {
              body = body;
              used = used;
              reply = has_reply unheard front;
              serves = serves;
              reads = ap (λ (a : Asked). answer_at used a body) is_sent ∙ reads;
            }) is)) like

-- The parts of a core -------------------------------------------------------------------------------------------------

-- a command under an id stands at a place
pub never_none : (id place : ℕ) (sent : List (ℕ × Asked)) → place_under id sent ≡ Some place
    → pending_under id sent ≡ None → ⊥
never_none id place [] is none = (let no : None ≡ Some place = is in cc)
never_none id place (s ∷ sent) is none = by_id (has_id id s) is none (λ at found. never_none id at sent found)
  where
    by_rest : (found : Option ℕ) → place_under id sent ≡ found → option_map (λ (n : ℕ). 1 + n) found ≡ Some place
        → pending_under id sent ≡ None
        → ((at : ℕ) → place_under id sent ≡ Some at → pending_under id sent ≡ None → ⊥) → ⊥
    by_rest None at is none rest = cc
    by_rest (Some n) at is none rest = rest n at none

    by_id : (here : Bool)
        → cond here (Some 0) (option_map (λ (n : ℕ). 1 + n) (place_under id sent)) ≡ Some place
        → cond here (Some s.1) (pending_under id sent) ≡ None
        → ((at : ℕ) → place_under id sent ≡ Some at → pending_under id sent ≡ None → ⊥) → ⊥
    by_id true is none rest = (let no : Some s.1 ≡ None = none in cc)
    by_id false is none rest = by_rest (place_under id sent) refl is none rest

-- as `can_reply`, of a core that is seen otherwise
pub can_reply_in : (core old : CoreState) (id place : ℕ) (asked : Asked) → core ≡ old → IsReady old
    → pending_under id core.commands.sent ≡ Some asked → place_under id old.commands.sent ≡ Some place
    → CanReply core.machine place
can_reply_in core old id place asked same ready has at =
    can_reply core id place asked (subst IsReady (sym same) ready) has
    (ap (λ (c : CoreState). place_under id c.commands.sent) same ∙ at)

-- a command was replied to, by what became of the core's parts
pub settled_in : (core old : CoreState) (next : Machine) (window : Window) (id place error : ℕ) (body : List ℕ)
    (asked : Asked) (replied : Replied) (used : IdSizes) → core ≡ old
    → pending_under id core.commands.sent ≡ Some asked → SizesFor core.machine.state.sizes used
    → IsJudged used asked error body replied → Replies core.machine place asked replied next
    → window ≡ settled id core.commands
    → IsSettled old id place error body (record core { machine = next; commands = window })
settled_in core old next window id place error body asked replied used same has serves judged replies now =
    subst (λ (c : CoreState). IsSettled c id place error body (record core { machine = next; commands = window })) same
    (record {
      asked = asked;
      replied = replied;
      used = used;
      has = has;
      serves = serves;
      judged = judged;
      replies = replies;
      same = ap (λ (w : Window). record core { machine = next; commands = w }) now;
    })

-- or it ends the session
pub unsettled_in : (core old : CoreState) (window : Window) (at id error : ℕ) (body : List ℕ) (ending : Ending)
    (asked : Asked) (used : IdSizes) → core ≡ old → pending_under id core.commands.sent ≡ Some asked
    → SizesFor core.machine.state.sizes used → IsRefused used asked at error body ending
    → window ≡ settled id core.commands
    → IsUnsettled old at id error body (record core { commands = window }) ending
unsettled_in core old window at id error body ending asked used same has serves cause now =
    subst (λ (c : CoreState). IsUnsettled c at id error body (record core { commands = window }) ending) same
    (IsUnsettled.refused asked used has serves cause (ap (λ (w : Window). record core { commands = w }) now))

-- as `refuses_behind`, of a call's result
pub refuses_behind_so : {A : Type 0} (result : Result A Ending) (old : CoreState) (id place error at : ℕ)
    (body : List ℕ) (new : CoreState) (next : Machine) → IsReady old → place_under id old.commands.sent ≡ Some place
    → IsSettled old id place error body new → IfErr result (RefusesKept new.machine next)
    → IfErr result (RefusesPacket old at (reply_packet id error body) (with_machine new next))
refuses_behind_so (Ok a) old id place error at body new next ready there s h = tt
refuses_behind_so (Err ending) old id place error at body new next ready there s h =
    refuses_behind old id place error at body new next ending ready there s h

-- what reading does to the core that settled a reply, by what became of its machine
pub settles_on : {A : Type 0} (result : Result A Ending) (old : CoreState) (id place error at : ℕ) (body : List ℕ)
    (new : CoreState) (next : Machine) {core : CoreState} → IsReady old
    → place_under id old.commands.sent ≡ Some place → IsSettled old id place error body new → core ≡ new
    → OnOk result (AreRead core.machine next) → OnOk result (can_read next ≡ false)
    → OnOk result (Hears old at (reply_packet id error body) (with_machine core next))
settles_on (Ok a) old id place error at body new next {core} ready there s is read none =
    settles_so old id place error at body core next ready there
    (subst (λ (c : CoreState). IsSettled old id place error body c) (sym is) s) read none
settles_on (Err ending) old id place error at body new next ready there s is read none = tt

pub refuses_on : {A : Type 0} (result : Result A Ending) (old : CoreState) (id place error at : ℕ) (body : List ℕ)
    (new : CoreState) (next : Machine) {core : CoreState} → IsReady old
    → place_under id old.commands.sent ≡ Some place → IsSettled old id place error body new → core ≡ new
    → IfErr result (RefusesKept core.machine next)
    → IfErr result (RefusesPacket old at (reply_packet id error body) (with_machine core next))
refuses_on result old id place error at body new next {core} ready there s is h =
    refuses_behind_so result old id place error at body core next ready there
    (subst (λ (c : CoreState). IsSettled old id place error body c) (sym is) s) h
