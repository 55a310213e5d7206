-- Dumps: the session that is served, its client, and the text.
use Rattle.std.specs.Prelude.{ℕ, ◌≡◌, ◌⊎◌, true, false, List, [], Result, Ok, Err}
use Rattle.bridge_serve.specs.Serving.{Blames}
use Rattle.dump_client.specs.Conversing.{start}
use Rattle.dump_client.specs.declared.conversation.Conversation.{Conversation}
use Rattle.dump_wires.specs.Desks.{IsNew}
use Rattle.dump_wires.specs.Talking.{Follows, IsTold, Talks, outside_over}
use Rattle.dump_wires.specs.declared.desk.Desk.{Desk}
use Rattle.machine_model.specs.Runs.{Message}
use Rattle.session_endings.specs.declared.ending.ClientFault.{ClientFault}
use Rattle.session_endings.specs.declared.ending.Ending.{Ending}
use Rattle.session_endings.specs.declared.ending.Ending.TheVariants.{BadClient, ClientLink, Done, Left, NoMemory, TargetLink}
use Rattle.session_endings.specs.declared.ending.Limits.{Limits}
use Rattle.session_model.specs.Session.{IsLeft, IsSession}
use Rattle.thread_dump.specs.declared.dumping.DumpEnd.{DumpEnd}
use Rattle.thread_dump.specs.declared.dumping.DumpEnd.TheVariants.{Ended, TargetGone}
use Rattle.wire_core.specs.Outside.{Adds, Outside, Rose}
use Rattle.wire_core.specs.declared.outside.Entry.{Entry}

-- A session was served whose client is a dump, and it ended so: its entries take the conversation from its beginning to
-- here; and where the wires tell a log, they logged just that of it which is not the client's. The target's link is
-- blamed only where the count of its faults rose.
pub record Serves (limits : Limits) (old new : Outside) (ending : Ending) (talk : Conversation) : Type 0 where
  pub served : List Entry
  pub messages : List Message
  pub turns : ℕ
  pub left : IsLeft limits served messages turns ending
  pub talks : Talks start served talk
  pub told : List Entry
  pub inside : Adds old new told
  pub is_told : IsTold told served
  pub blames : ending ≡ TargetLink → Rose old.target.faults new.target.faults

-- it ended in another way, and not by the client, which neither ends nor fails, and whose bytes have no fault
pub record IsOther (ending : Ending) : Type 0 where
  pub not_done : ¬ (ending ≡ Done)
  pub not_left : ¬ (ending ≡ Left)
  pub not_lost : ¬ (ending ≡ ClientLink)
  pub not_bad : (fault : ClientFault) (offset : ℕ) → ¬ (ending ≡ BadClient fault offset)

-- The text is that of the conversation as far as it came, where no request but the last was answered by `targetGone`;
-- or one was; or the session ended in another way, or for want of memory, which may be at any time.
abbrev pub IsDump : Limits → Outside → Outside → Result (List ℕ) DumpEnd → Type 0
IsDump limits old new (Ok text) =
    (talk : Conversation) × (Serves limits old new Done talk × ((talk.gone ≡ false) × (text ≡ talk.text)))
IsDump limits old new (Err TargetGone) = (talk : Conversation) × (Serves limits old new Done talk × (talk.gone ≡ true))
IsDump limits old new (Err (Ended ending)) =
    (ending ≡ NoMemory) ⊎ ((talk : Conversation) × (Serves limits old new ending talk × IsOther ending))

-- what a session comes to that ended so at this desk
abbrev pub IsEndOf : Ending → Desk → Result (List ℕ) DumpEnd → Type 0
IsEndOf ending desk (Ok text) =
    (desk.refused ≡ false) × ((ending ≡ Done) × ((desk.talk.gone ≡ false) × (text ≡ desk.talk.text)))
IsEndOf ending desk (Err TargetGone) = (desk.refused ≡ false) × ((ending ≡ Done) × (desk.talk.gone ≡ true))
IsEndOf ending desk (Err (Ended other)) =
    (other ≡ NoMemory) ⊎ ((desk.refused ≡ false) × ((other ≡ ending) × ¬ (ending ≡ Done)))

-- a session was served over the wires of a dump, and the desk went on by it
pub record ServesOver (limits : Limits) (old : Outside) (desk : Desk) (new : Outside) (desk' : Desk) (ending : Ending)
    : Type 0 where
  pub session : IsSession (outside_over old desk) (outside_over new desk') limits ending
  pub blames : Blames (outside_over old desk) (outside_over new desk') ending
  pub follows : Follows old desk new desk'
