-- What the core does between its calls: a step of the machine, and the bytes of what goes out.
use Rattle.std.specs.Prelude.{ℕ, ◌≡◌, ◌<◌, ◌+◌, ◌^◌, ◌∷◌, Bool, true, false, cond, not, List}
use Rattle.jdwp_commands.specs.Commands.{FitsCommand}
use Rattle.jdwp_commands.specs.declared.asked.Asked.{Asked}
use Rattle.jdwp_values.specs.declared.sizes.IdSizes.{IdSizes}
use Rattle.machine_model.specs.Due.{due, due_as}
use Rattle.machine_model.specs.Replying.{SizesFor}
use Rattle.machine_model.specs.Rest.{awaits_greeting, is_silent}
use Rattle.machine_model.specs.State.{Machine, is_empty}
use Rattle.dap_messages.specs.declared.told.Told.{Told}
use Rattle.pending_table.specs.Windows.{is_full, with_sent}
use Rattle.bridge_core.specs.Calls.{Goes, words_left}
use Rattle.bridge_core.specs.Cores.{CoreState, IsReady, Unheard, streams_in, with_machine}
use Rattle.session_model.specs.LastWords.{LastWord, last_word_said, word_bytes, word_side}
use Rattle.session_model.specs.Saying.{nth_command, told_bytes}
use Rattle.session_model.specs.States.{id_pending}
use Rattle.session_endings.specs.declared.ending.Ending.{Ending}
use Rattle.talk_plans.specs.Talking.{act_of}
use Rattle.talk_plans.specs.declared.next.Next.{Next}
use Rattle.talk_plans.specs.declared.next.Next.TheVariants as nexts
use Rattle.wire_core.specs.declared.outside.Side.{Side}
use Rattle.wire_core.specs.declared.outside.Side.TheVariants.{Client, Target}

-- a step that nobody sees
abbrev pub is_hidden : Next → Bool
is_hidden nexts.Go = true
is_hidden nexts.Done = true
is_hidden _ = false

-- this is due, and the core stands where it leads
pub record IsStep (old : CoreState) (next : Next) (new : CoreState) : Type 0 where
  pub is_due : due_as (act_of next) new.machine ≡ due (id_pending old.commands) old.machine
  pub same : new ≡ with_machine old new.machine

-- By hidden steps, and then this one, the core came to where it stands.
pub record Comes (old : CoreState) (next : Next) (new : CoreState) : Type 0 where
  pub before : Machine
  pub goes : Goes old.machine before
  pub ready : IsReady (with_machine old before)
  pub is_due : due_as (act_of next) new.machine ≡ due (id_pending old.commands) before
  pub same : new ≡ with_machine old new.machine

-- no command is pending, and no handshake of the target's is awaited
abbrev pub awaits_nothing : CoreState → Bool
awaits_nothing core = cond (is_empty core.commands.sent) (not (awaits_greeting core.machine.state)) false

-- nothing is pending; of a target that is gone nothing is
abbrev pub rests : Machine → Bool
rests m = cond (is_silent m) (not (awaits_greeting m.state)) false

-- the client is told a message, as these bytes
pub record IsTold (old : CoreState) (told : Told) (side : Side) (bytes : List ℕ) (new : CoreState) : Type 0 where
  pub side_is : side ≡ Client
  pub bytes_are : bytes ≡ told_bytes old.told told
  pub same : new ≡ record old { told = old.told + 1 }
  pub small : new.told < 2 ^ 63

-- one of the last words is said, as these bytes
pub record IsSaid (old : CoreState) (word : LastWord) (side : Side) (bytes : List ℕ) (new : CoreState) : Type 0 where
  pub side_is : side ≡ word_side word
  pub bytes_are : (unheard : Unheard) → bytes ≡ word_bytes (streams_in old unheard) word
  pub streams_are : (unheard : Unheard) → streams_in new unheard ≡ last_word_said (streams_in old unheard) word
  pub same : new ≡ record old { told = new.told }
  pub small : side ≡ Client → new.told < 2 ^ 63

-- the next of an ending's last words, and those that are left
pub record HasNext (ending : Ending) (old : CoreState) (word : LastWord) (new : CoreState) : Type 0 where
  pub left : words_left ending old ≡ word ∷ words_left ending new
  pub same : new ≡ record old { words = new.words }

-- a command may be sent: there is room for it, and it has a spelling with all sizes that serve
pub record MaySend (core : CoreState) (asked : Asked) : Type 0 where
  pub room : is_full core.commands ≡ false
  pub fits : (used : IdSizes) → SizesFor core.machine.state.sizes used → FitsCommand used asked

-- a command is sent, as these bytes
pub record IsSent (old : CoreState) (asked : Asked) (side : Side) (bytes : List ℕ) (new : CoreState) : Type 0 where
  pub side_is : side ≡ Target
  pub used : IdSizes
  pub serves : SizesFor old.machine.state.sizes used
  pub bytes_are : bytes ≡ nth_command old.commands.next used asked
  pub same : new ≡ record old { commands = with_sent asked old.commands }
