use Rattle.shown_worlds.proofs.FrameLaws.{shows_frames}
use Rattle.shown_worlds.proofs.laws.stack_traces_show_the_frames_of_the_world.Goals as goal

pub returns : goal.returns
returns c = shows_frames
