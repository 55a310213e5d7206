-- What a packet does to a tap.
use Rattle.std.specs.Prelude.{ℕ, ◌≡◌, List, Result, Err}
use Rattle.jdwp_packets.specs.Packets.{Packet, command_packet, reply_packet}
use Rattle.target_bodies.specs.Hearing.{answer_fault}
use Rattle.tap_core.specs.Names.{Ending, Shown, a_command, a_reply, bad_target}
use Rattle.tap_core.specs.Names.{Answer, Ask, BadTarget, BodyFault, IdSizes, NoMemory, TapEnding}
use Rattle.tap_model.specs.States.{TapState, with_sizes}
use Rattle.tap_model.specs.Steps.{Step, body_ending}
use Rattle.tap_model.specs.Tapping.{numbers_of}

-- the offset in its stream of a packet, as the cutter hands it out (JDWP, JDWP Packets)
abbrev pub offset_of : Shown → ℕ
offset_of (a_command at id set number body) = at
offset_of (a_reply at id error body) = at

-- the packet itself
abbrev pub packet_of : Shown → Packet
packet_of (a_command at id set number body) = command_packet id set number body.now
packet_of (a_reply at id error body) = reply_packet id error body.now

-- A tap takes a packet by this step, and stands here then: it hears the packet, or learns the sizes of ids by it.
abbrev pub Takes : List Ask → Step → TapState → Type 0
Takes asks (Step.says what) new = ⊥
Takes asks (Step.hears message s) new = new ≡ s
Takes asks (Step.learns packet numbers s) new =
    (sizes : IdSizes) × (numbers_of sizes ≡ numbers) × (new ≡ with_sizes asks sizes s)
Takes asks (Step.ends ending) new = ⊥
Takes asks Step.waits new = ⊥

-- Or it ends so, by this step; for want of memory it may end at each.
pub data EndsBy (step : Step) : TapEnding → Type 0 where
  no_memory : EndsBy step NoMemory
  ends : {ending : TapEnding} → step ≡ Step.ends ending → EndsBy step ending

-- an answer that was read so, of a packet at this offset, ends a tap by its body's fault
pub data IsBadReply (read : Result Answer BodyFault) (at : ℕ) : TapEnding → Type 0 where
  no_memory : IsBadReply read at NoMemory
  faulty : {found : BodyFault} {ending : TapEnding} → read ≡ Err found → ending ≡ body_ending at (answer_fault found)
      → IsBadReply read at ending

-- how a body that can't be read ends a tap
abbrev pub tap_ending : Ending → TapEnding
tap_ending (bad_target fault at id) = BadTarget fault at id
tap_ending _ = NoMemory
