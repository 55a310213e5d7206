-- What each move keeps of the ids that stand in the machine: all moves.
use Rattle.machine_steps.proofs.ItemIds.{Waits, in_front, picked_stand, taken_stand}
use Rattle.std.proofs.Common.{◌≡◌, ◌++◌, false, List, Option, refl, ap, ◌∙◌}
use Rattle.std.specs.List.{AllByRecursion as All}
use Rattle.machine_model.specs.Ids.{Id, class}
use Rattle.machine_model.specs.Runs.{Message}
use Rattle.machine_model.specs.State.{Machine, is_attached, is_gone, is_some}
use Rattle.machine_model.specs.Rows.{chosen, noted}
use Rattle.machine_model.specs.Replying.{done_by, hand_replied}
use Rattle.machine_model.specs.Telling.{after_event, numbered_by}
use Rattle.machine_model.specs.Due.{after_deed}
use Rattle.machine_steps.specs.Names.{a_question, an_effect}
use Rattle.machine_steps.proofs.Stepping.{Moves, with_said}
use Rattle.machine_steps.proofs.Testing.{same_noted, same_numbered, same_replied}
use Rattle.machine_steps.proofs.Standing.{IsKept, at_front, ids_said, put_back, quiet_kept, same_state, stays}
use Rattle.machine_steps.proofs.Standing.{taken_out}
use Rattle.machine_steps.proofs.StandingMoves.{begun_order, begun_parts, chosen_order, chosen_parts, dropped_kept}
use Rattle.machine_steps.proofs.StandingMoves.{sent_order, effect_same, event_order, event_same, found_kept, note_same}
use Rattle.machine_steps.proofs.StandingMoves.{skipped_order, told_same, effect_wanted, event_wanted, told_wanted}
use Rattle.machine_steps.proofs.StandingMoves.{note_wished}
use Rattle.machine_steps.proofs.StandingReplies.{answered_kept, asked_kept, late_kept, lost_kept, queued_kept}

pub kept_on : {P : Id → Type 0} (messages : List Message) (m next : Machine) (said : Option Message) → P (class 0)
    → Waits P m → IsKept P messages m → Moves m said next → (is_gone next.state.phase ≡ false → All P (ids_said said))
    → IsKept P (with_said messages said) next
kept_on {P} messages m next said null w k (Moves.begins picked free none is) brought =
    let b = taken_out m k none in record {
      once = b.once;
      sizes = b.sizes;
      none_late = b.none_late;
      near = λ near. let n = b.near near in record {
        classes = taken_stand P m.state.phase picked.item m.state.classes
            (picked_stand P (is_gone m.state.phase) m.waiting picked is (w near).waiting).0 n.classes;
        wanted = n.wanted;
        order = begun_order m.state (is_some m.state.sizes) picked.item n.order;
        parts = begun_parts P m.state picked.item (w near).threads (w near).things (w near).thrown;
        wants = tt;
        replies = tt;
      };
    }
kept_on messages m next said null w k (Moves.drops free is none) brought = dropped_kept k
kept_on {P} messages m next said null w k (Moves.responds {rest = rest} {outcome = outcome} free at is) brought =
    stays (numbered_by outcome m.state) rest said (at_front k at) (told_same outcome m.state) refl (λ near n. record {
      wanted = rw (told_wanted outcome m.state) n.wanted;
      order = rw (same_numbered outcome m.state) n.order;
      parts = n.parts.1;
    })
kept_on messages m next said null w k (Moves.finds found free at needs done) brought =
    found_kept found null k at needs
kept_on messages m next said null w k (Moves.passes_over {rest = rest} free at why) brought =
    stays m.state rest said (at_front k at) (same_state m.state) refl
    (λ near n. record { wanted = n.wanted; order = skipped_order rest why n.order; parts = n.parts.1 })
kept_on messages m next said null w k (Moves.tells {rest = rest} {event} free at) brought =
    stays (after_event event m.state) rest said (at_front k at) (event_same event m.state) refl (λ near n. record {
      wanted = rw (event_wanted event m.state) n.wanted;
      order = event_order m.state event rest near n.order;
      parts = n.parts.1;
    })
kept_on messages m next said null w k (Moves.sends {rest = rest} {deed} free at near) brought =
    stays (after_deed deed m.state) rest said (at_front k at)
    (record { sizes = refl; classes = refl; back = λ near. near }) refl
    (λ near n. record { wanted = n.wanted; order = sent_order (is_some m.state.sizes) (is_attached m.state.phase) deed rest n.order; parts = n.parts.1 })
kept_on messages m next said null w k (Moves.updates {rest = rest} free at is near) brought =
    quiet_kept m.state said (at_front k at) (same_state m.state) refl refl refl
kept_on messages m next said null w k (Moves.greets free at is near) brought =
    quiet_kept next.state said k
    (record { sizes = refl; classes = refl; back = λ near. near }) refl refl refl
kept_on {P} messages m next said null w k (Moves.notes {note = note} {rest} free at) brought =
    stays (noted note m.state) rest said (at_front k at) (note_same note m.state) refl (λ near n. record {
      wanted = note_wished P note m.state n.parts.0 n.classes n.wanted;
      order = rw (same_noted note m.state) n.order;
      parts = n.parts.1;
    })
kept_on {P} messages m next said null w k (Moves.unfolds {hand} {choice} {rest} free at) brought =
    stays m.state (chosen choice m.state hand ++ rest) said (at_front k at) (same_state m.state) refl
    (λ near n. record {
      wanted = n.wanted;
      order = chosen_order choice m.state hand (is_some m.state.sizes) (is_attached m.state.phase) rest n.order;
      parts = chosen_parts P choice m.state hand rest (in_front (w near) at).0 n.parts.0 n.parts.1;
    })
kept_on messages m next said null w k (Moves.queues free is) brought = queued_kept m null k free is
kept_on messages m next said null w k (Moves.asks free room is are) brought = asked_kept m k is are
kept_on messages m next said null w k (Moves.greeted read is) brought =
    quiet_kept next.state said k
    (record { sizes = refl; classes = refl; back = λ near. near }) refl refl refl
kept_on messages m next said null w k (Moves.answers {question} {replied} is waits reply last) brought =
    answered_kept m question replied null k is waits reply last
    (λ near. brought (ap is_gone (same_replied (a_question question) replied m.state) ∙ near))
kept_on messages m next said null w k (Moves.replies {effect} {replied} is flying reply last) brought =
    put_back (hand_replied (an_effect effect) replied) is
    (quiet_kept (done_by effect replied m.state) said (taken_out m k is)
    (effect_same effect replied m.state) refl refl (effect_wanted effect replied m.state))
kept_on messages m next said null w k (Moves.late {command} {replied} before after is reply) brought =
    late_kept m command replied before after k is
kept_on messages m next said null w k (Moves.loses {message} late near why) brought = lost_kept message late k why
kept_on messages m next said null w k _ brought = quiet_kept m.state said k (same_state m.state) refl refl refl
