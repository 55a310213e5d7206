use Rattle.dap_frames.proofs.FrameLaws.{front-steady}
use Rattle.dap_frames.proofs.Unfinished.{refusal-is}
use Rattle.dap_frames.proofs.laws.refused_at_the_first_byte.Goals as goal

pub returns : goal.returns
returns c = record { refused = refusal-is; stays = front-steady.stays_faulty }
