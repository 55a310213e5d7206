-- Worked examples of faults, checked by computation.
use Rattle.std.proofs.Common.{ℕ, true, List, [], ◌∷◌, Some, refl, arith}
use Rattle.jdwp_commands.specs.Answers.{answer_at}
use Rattle.jdwp_commands.specs.declared.question.Question.TheVariants as questions
use Rattle.jdwp_events.specs.Composites.{composite_at}
use Rattle.jdwp_events.specs.Events.{event_at}
use Rattle.jdwp_packets.specs.declared.fault.PacketFault.TheVariants as packets
use Rattle.jdwp_values.specs.Reading.{count_at, part_at, simple_at, unsigned_at}
use Rattle.jdwp_values.specs.Rows.{list_at, times_at}
use Rattle.jdwp_values.specs.Sizes.{IsSize}
use Rattle.jdwp_values.specs.declared.sizes.IdSizes.{IdSizes}
use Rattle.machine_model.specs.Replying.{any_sizes, sizes_of, wire}
use Rattle.machine_model.specs.State.{fresh}
use Rattle.session_model.specs.Faults.{IsCompositeFault, IsTargetFault, RefusesComposite}
use Rattle.session_model.specs.Names.{a_question, Attached, BadKind, BadSizes, mispacked, UnknownReply}
use Rattle.session_model.specs.States.{SessionState, no_bytes}

fits : IsSize 8
fits = (omega arith, omega arith)

abbrev eight : IdSizes
eight = record {
  field = 8;
  method = 8;
  object = 8;
  class = 8;
  frame = 8;
  field_is_size = fits;
  method_is_size = fits;
  object_is_size = fits;
  class_is_size = fits;
  frame_is_size = fits;
}

-- a session that is attached, and has cut 75 bytes of the target's, so that these are next
abbrev behind_75 : List ℕ → SessionState
behind_75 bytes = record {
  machine = record fresh { state = record fresh.state { phase = Attached; sizes = Some (sizes_of eight) } };
  streams =
      record no_bytes { target = record { greeted = true; stream = record { at = 75; pending = bytes } } };
  quiets = 0;
}

-- a reply with id 99, under which no command is pending
unknown : IsTargetFault (behind_75 (0 ∷ 0 ∷ 0 ∷ 11 ∷ 0 ∷ 0 ∷ 0 ∷ 99 ∷ 128 ∷ 0 ∷ 0 ∷ [])) UnknownReply 75 99
unknown = IsTargetFault.unknown_reply refl refl

-- a packet of length 10
too_short : IsTargetFault (behind_75 (0 ∷ 0 ∷ 0 ∷ 10 ∷ [])) (mispacked packets.ShortLength) 75 0
too_short = IsTargetFault.bad_packet refl

-- a composite whose first event is of kind 3, which there is none of
bad_kind : IsTargetFault (behind_75
    (0 ∷ 0 ∷ 0 ∷ 17 ∷ 0 ∷ 0 ∷ 0 ∷ 1 ∷ 0 ∷ 64 ∷ 100 ∷ 0 ∷ 0 ∷ 0 ∷ 0 ∷ 1 ∷ 3 ∷ [])) BadKind 91 0
unfolding composite_at event_at part_at simple_at unsigned_at list_at count_at times_at
bad_kind = IsTargetFault.bad_composite refl refl (RefusesComposite.bad_body eight refl refl IsCompositeFault.bad_kind)

-- Sizes ---------------------------------------------------------------------------------------------------------------

-- IDSizes is pending under id 1, and its reply stands behind the handshake
abbrev asks_sizes : List ℕ → SessionState
asks_sizes bytes = record {
  machine = fresh;
  streams = record no_bytes {
    target = record { greeted = true; stream = record { at = 14; pending = bytes } };
    commands = record { sent = (1, wire (a_question questions.IdSizes)) ∷ []; next = 1 };
  };
  quiets = 0;
}

-- its sizes are 8, 8, 9, 8, 8: the third is none
abbrev sizes_reply : List ℕ
sizes_reply = 0 ∷ 0 ∷ 0 ∷ 31 ∷ 0 ∷ 0 ∷ 0 ∷ 1 ∷ 128 ∷ 0 ∷ 0 ∷ 0 ∷ 0 ∷ 0 ∷ 8 ∷ 0 ∷ 0 ∷ 0 ∷ 8 ∷ 0 ∷ 0 ∷ 0 ∷ 9
    ∷ 0 ∷ 0 ∷ 0 ∷ 8 ∷ 0 ∷ 0 ∷ 0 ∷ 8 ∷ []

bad_sizes : IsTargetFault (asks_sizes sizes_reply) BadSizes 33 0
unfolding answer_at part_at simple_at unsigned_at
bad_sizes = IsTargetFault.bad_sizes {command = a_question questions.IdSizes} (record {
  body = _;
  used = eight;
  reply = record { id = 1; taken = 31; front = refl; pending = refl };
  serves = any_sizes;
  reads = refl;
}) refl
