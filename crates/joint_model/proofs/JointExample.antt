-- A joint that is worked out by computation: the client attaches to a target with ids of eight bytes, two event
-- requests are set, the target's start is held until all is configured, the threads are listed, and a pause stops the
-- target.
use Rattle.std.proofs.Common.{◌≡◌, ℕ, zero, suc, ◌<◌, ◌^◌, true, false, List, [], ◌∷◌, ◌++◌, Option, Some, None}
use Rattle.std.proofs.Common.{refl, arith}
use Rattle.std.specs.List.{IsDistinct}
use Rattle.dap_messages.specs.declared.told.Event.TheVariants as told_events
use Rattle.dap_messages.specs.declared.told.Outcome.TheVariants as outcomes
use Rattle.dap_messages.specs.declared.told.Shape.TheVariants as shapes
use Rattle.dap_messages.specs.declared.told.StopReason.TheVariants as reasons
use Rattle.jdwp_commands.specs.declared.answer.Answer.TheVariants as answers
use Rattle.jdwp_commands.specs.declared.question.Question.TheVariants as questions
use Rattle.jdwp_events.specs.declared.kind.EventKind.TheVariants as kinds
use Rattle.jdwp_events.specs.declared.kind.Policy.TheVariants.{All, NoThread}
use Rattle.jdwp_values.specs.declared.id.ThreadId.{ThreadId}
use Rattle.jdwp_values.specs.declared.sizes.IdSizes.{IdSizes}
use Rattle.jdwp_values.specs.Lossy.{lossy}
use Rattle.joint_model.specs.Joints.{Joint, Packet, is_aside, some_events}
use Rattle.joint_model.specs.Laws.{IsStill, held}
use Rattle.joint_model.specs.Names.{Act, Does, Effect, Resume, Set, Suspend, TargetCommand, a_question, an_effect}
use Rattle.joint_model.specs.Obeying.{Emits, Replies, Serves, start_of}
use Rattle.machine_model.specs.Due.{can_read, due, load_of, newly_lacked, wanted}
use Rattle.machine_model.specs.Names.{Attach, Command, Composite, ConfigurationDone, Pause, Question, Replied}
use Rattle.machine_model.specs.Names.{Request, Threads, an_answer, an_event}
use Rattle.machine_model.specs.Plans.{chained, each, made_with, need}
use Rattle.machine_model.specs.Replying.{IsReply, SizesFor, answered, is_waiting, sizes_of, wire}
use Rattle.machine_model.specs.Runs.{Allows, Message, greeting_heard, heard, said, with_item}
use Rattle.machine_model.specs.State.{Hand, Machine, SizesRead, fresh, in_hand, is_some}
use Rattle.machine_model.specs.declared.items.Item.TheVariants.{Composite as a_composite, TargetEnd as target_end}
use Rattle.machine_model.specs.declared.parts.Suspension.TheVariants.{Entry as of_entry}
use Rattle.machine_model.specs.Telling.{response_to}
use Rattle.wish_sets.specs.Wished.{wished}
use Rattle.wish_sets.specs.Wishes.{next_change}
use Rattle.wish_sets.specs.declared.wish.Wish.TheVariants as wishes
use Rattle.world_model.specs.declared.rows.Installed.{Installed}
use Rattle.world_model.specs.declared.world.World.{World}
use Rattle.world_model.specs.Sound.{IsHold, IsSound}
use Rattle.joint_model.proofs.HeldLaws.{stops_are_held}
use Rattle.joint_model.proofs.StillLaws.{stands_still}

-- The machine ---------------------------------------------------------------------------------------------------------

-- the machine goes on by itself as far as it can, so many steps at most
abbrev until : ℕ → Machine → Machine
until zero m = m
until (suc n) m = elim (due false m).act as (λ act. Machine) [
  | Act.Waits ↦ m
  | Act.Goes ↦ until n (due false m).next
  | Act.Tells told ↦ m
  | Act.Greets ↦ m
  | Act.Sends effect ↦ m
  | Act.Asks question ↦ m
  | Act.Over finish ↦ m
]

until_by : {messages : List Message} {w : World} {commands : List TargetCommand} {packets : List Packet}
    {kept : List Composite} (n : ℕ) (m : Machine) (act : Act) → (due false m).act ≡ act
    → Joint messages m w commands packets kept
    → (Joint messages (due false m).next w commands packets kept
    → Joint messages (until n (due false m).next) w commands packets kept)
    → Joint messages (elim act as (λ act. Machine) [
      | Act.Waits ↦ m
      | Act.Goes ↦ until n (due false m).next
      | Act.Tells told ↦ m
      | Act.Greets ↦ m
      | Act.Sends effect ↦ m
      | Act.Asks question ↦ m
      | Act.Over finish ↦ m
    ]) w commands packets kept
until_by n m Act.Goes is j then = then (Joint.goes j is)
until_by n m _ is j then = j

on : (n : ℕ) {messages : List Message} {m : Machine} {w : World} {commands : List TargetCommand}
    {packets : List Packet} {kept : List Composite} → Joint messages m w commands packets kept
    → Joint messages (until n m) w commands packets kept
on zero j = j
on (suc n) {m = m} j = until_by n m (due false m).act refl j (λ next. on n next)

abbrev then : Machine → Machine
then m = until 9 (due false m).next

abbrev hand_of : Option Hand → Hand
hand_of (Some hand) = hand
hand_of None = in_hand target_end []

in_hand_now : (hand : Option Hand) → is_some hand ≡ true → hand ≡ Some (hand_of hand)
in_hand_now (Some hand) is = refl
in_hand_now None is = cc

-- Rounds --------------------------------------------------------------------------------------------------------------

-- the client says something
hears : {messages : List Message} {m : Machine} {w : World} (request : Request) → Joint messages m w [] [] []
    → can_read m ≡ false → m.closing ≡ false
    → Joint (messages ++ Message.hears request ∷ []) (until 9 (heard m request)) w [] [] []
hears request j read open_still = on 9 (Joint.says j (Allows.hears read open_still) refl)

-- the machine says something to it, or the handshake
tells : {messages : List Message} {m : Machine} {w : World} (message : Message) → Joint messages m w [] [] []
    → said (due false m).act ≡ Some message → is_aside message ≡ true
    → Joint (messages ++ message ∷ []) (then m) w [] [] []
tells message j is aside = on 9 (Joint.says j (Allows.acts is) aside)

abbrev asked_then : Question → Replied → Machine → Machine
asked_then question replied m = until 9 (answered (due false m).next (a_question question) replied)

-- a question is sent, served and replied to
asks : {messages : List Message} {m : Machine} {w : World} (known : Option SizesRead) (question : Question)
    (replied : Replied) → Joint messages m w [] [] []
    → said (due false m).act ≡ Some (Message.sends (a_question question))
    → Replies w question replied → can_read (due false m).next ≡ false → is_some (due false m).next.hand ≡ true
    → is_waiting question (hand_of (due false m).next.hand).asked ≡ true → (due false m).next.state.sizes ≡ known
    → IsReply known (a_question question) replied
    → Joint ((messages ++ Message.sends (a_question question) ∷ [])
    ++ Message.answers (a_question question) replied ∷ [])
    (asked_then question replied m) w [] [] []
asks {m = m} known question replied j is reply read some waits sized fits =
    on 9 (Joint.gets (Joint.serves (a_question question) [] [] (Joint.sends j (Allows.acts is)) (Serves.replies reply))
    (Allows.answers (hand_of (due false m).next.hand) read (in_hand_now (due false m).next.hand some) waits
    (rw sized fits)))

abbrev done_then : Effect → Replied → Machine → Machine
done_then effect replied m = until 9 (answered (due false m).next (an_effect effect) replied)

-- and an effect
does : {messages : List Message} {m : Machine} {w now : World} (known : Option SizesRead) (effect : Effect)
    (replied : Replied) → Joint messages m w [] [] [] → said (due false m).act ≡ Some (Message.sends (an_effect effect))
    → Serves w (wire (an_effect effect)) replied now → can_read (due false m).next ≡ false
    → is_some (due false m).next.hand ≡ true
    → (hand_of (due false m).next.hand).effect ≡ Some (record { effect = effect; reply = None })
    → (due false m).next.state.sizes ≡ known → IsReply known (an_effect effect) replied
    → Joint ((messages ++ Message.sends (an_effect effect) ∷ []) ++ Message.answers (an_effect effect) replied ∷ [])
    (done_then effect replied m) now [] [] []
does {m = m} known effect replied j is serves read some flies sized fits =
    on 9 (Joint.gets (Joint.serves (an_effect effect) [] [] (Joint.sends j (Allows.acts is)) serves)
    (Allows.replies (hand_of (due false m).next.hand) read (in_hand_now (due false m).next.hand some) flies
    (rw sized fits)))

-- The world -----------------------------------------------------------------------------------------------------------

abbrev sizes : IdSizes
sizes = record {
  field = 8;
  method = 8;
  object = 8;
  class = 8;
  frame = 8;
  field_is_size = (omega arith, omega arith);
  method_is_size = (omega arith, omega arith);
  object_is_size = (omega arith, omega arith);
  class_is_size = (omega arith, omega arith);
  frame_is_size = (omega arith, omega arith);
}

abbrev main : ThreadId
main = record { 0 = 1 }

-- one thread, and nothing else; with these event requests and suspensions
abbrev world : List Installed → ℕ → ℕ → World
world requests next count = record {
  sizes = sizes;
  classes = [];
  methods = [];
  variables = [];
  fields = [];
  objects = [];
  arrays = [];
  strings = [];
  puts = [];
  threads = record { id = main; name = 109 ∷ [] } ∷ [];
  frames = [];
  requests = requests;
  steps = [];
  next_request = next;
  count = count;
  dead = false;
}

sound : (requests : List Installed) (next count : ℕ) → IsHold requests next count → IsSound (world requests next count)
unfolding IsDistinct
sound requests next count hold = record {
  program = record {
    classes = tt;
    no_null = tt;
    class_sizes = tt;
    chains = tt;
    methods = tt;
    method_sizes = tt;
    fields = tt;
    field_sizes = tt;
  };
  values = record {
    objects = (tt, tt);
    object_sizes = (omega arith, tt);
    puts = tt;
    arrays = tt;
    frame_ids = tt;
    frames = tt;
    few = (omega arith, tt);
  };
  hold = hold;
}

none_held : IsHold [] 1 0
unfolding IsDistinct
none_held = record {
  distinct = tt;
  numbers = tt;
  next_number = (omega arith, omega arith);
  few = omega arith;
}

-- the world with both event requests
abbrev watched : ℕ → World
watched count = world (record { request = 1; wish_kind = kinds.ThreadStart; policy = NoThread; modifiers = [] }
    ∷ record { request = 2; wish_kind = kinds.ThreadDeath; policy = NoThread; modifiers = [] } ∷ []) 3 count

watched_sound : (count : ℕ) → count < 2 ^ 64 → IsSound (watched count)
unfolding IsDistinct
watched_sound count few = sound (watched count).requests 3 count (record {
  distinct = ((refl, tt), (tt, tt));
  numbers = ((omega arith, omega arith), ((omega arith, omega arith), tt));
  next_number = (omega arith, omega arith);
  few = few;
})

-- Attach --------------------------------------------------------------------------------------------------------------

abbrev request : ℕ → Command → Request
request seq command = record { seq = seq; name = seq ∷ []; command = command }

abbrev attach : Request
attach = request 1 (Attach (record { source_roots = (115 ∷ []) ∷ [] }))

abbrev said_next : Machine → Message
said_next m = said_or (said (due false m).act)
  where
    said_or : Option Message → Message
    said_or None = Message.ends
    said_or (Some message) = message

abbrev greeting : Machine
greeting = until 9 (heard fresh attach)

abbrev greeted : Machine
greeted = until 9 (greeting_heard (then greeting))

greets : Joint (Message.hears attach ∷ Message.greets ∷ Message.greeted ∷ []) greeted (world [] 1 0) [] [] []
unfolding due wanted load_of newly_lacked
greets = on 9 (Joint.says (tells Message.greets (hears attach
    (Joint.starts (sound [] 1 0 none_held) refl refl refl)
    refl refl) refl refl) (Allows.greeted refl refl) refl)

abbrev sizes_told : Replied
sizes_told = an_answer (answers.IdSizes 8 8 8 8 8)

abbrev sized : Machine
sized = asked_then questions.IdSizes sizes_told greeted

abbrev greeting_said : List Message
greeting_said = Message.hears attach ∷ Message.greets ∷ Message.greeted ∷ []

abbrev sizes_said : List Message
sizes_said = Message.sends (a_question questions.IdSizes)
    ∷ Message.answers (a_question questions.IdSizes) sizes_told ∷ []

reads_sizes : Joint (greeting_said ++ sizes_said) sized (world [] 1 0) [] [] []
unfolding due wanted load_of newly_lacked
reads_sizes = asks None questions.IdSizes sizes_told greets refl (Replies.says refl) refl refl refl refl
    (IsReply.with_answer sizes SizesFor.any_sizes (record { row = refl; fits = (tt, (tt, (tt, (tt, (tt, tt))))) }) refl)

abbrev known : Option SizesRead
known = Some (sizes_of sizes)

abbrev installed : ℕ → Replied
installed id = an_answer (answers.Set id)

abbrev starts_set : Effect
starts_set = Set wishes.ThreadStart

abbrev ends_set : Effect
ends_set = Set wishes.ThreadDeath

abbrev one_set : Machine
one_set = done_then starts_set (installed 1) sized

abbrev both_set : Machine
both_set = done_then ends_set (installed 2) one_set

abbrev sets_said : List Message
sets_said = Message.sends (an_effect starts_set) ∷ Message.answers (an_effect starts_set) (installed 1)
    ∷ Message.sends (an_effect ends_set) ∷ Message.answers (an_effect ends_set) (installed 2) ∷ []

sets_one : Joint ((greeting_said ++ sizes_said) ++ (Message.sends (an_effect starts_set)
    ∷ Message.answers (an_effect starts_set) (installed 1) ∷ [])) one_set
    (world (record { request = 1; wish_kind = kinds.ThreadStart; policy = NoThread; modifiers = [] } ∷ []) 2 0) [] [] []
unfolding due wanted load_of newly_lacked next_change wished
sets_one = does known starts_set (installed 1) reads_sizes refl (Serves.does refl) refl refl refl refl
    (IsReply.with_answer sizes SizesFor.sizes_read (record { row = refl; fits = (tt, tt) }) refl)

sets_both : Joint ((greeting_said ++ sizes_said) ++ sets_said) both_set (watched 0) [] [] []
unfolding due wanted load_of newly_lacked next_change wished
sets_both = does known ends_set (installed 2) sets_one refl (Serves.does refl) refl refl refl refl
    (IsReply.with_answer sizes SizesFor.sizes_read (record { row = refl; fits = (tt, tt) }) refl)

abbrev succeeds : Request → Message
succeeds asked = Message.tells (response_to asked (outcomes.Success shapes.Nothing))

abbrev attached : Machine
attached = then (then both_set)

abbrev attach_said : List Message
attach_said = greeting_said ++ sizes_said ++ sets_said ++ succeeds attach
    ∷ Message.tells (an_event told_events.Initialized) ∷ []

attaches : Joint attach_said attached (watched 0) [] [] []
unfolding due wanted load_of newly_lacked next_change wished
attaches = tells (Message.tells (an_event told_events.Initialized)) (tells (succeeds attach) sets_both refl refl) refl
    refl

-- The target's start --------------------------------------------------------------------------------------------------

abbrev start : Composite
start = start_of All main

abbrev started : Machine
started = until 9 (with_item attached (a_composite 90 start))

starts : Joint attach_said attached (watched 1) [] (some_events start ∷ []) []
starts = Joint.emits attaches (Emits.begins {policy = All} {thread = main} refl (λ is. cc)
    (watched_sound 1 (omega arith)))

-- it is held, as the messages say and as it is in the target
holds_start : Joint (attach_said ++ Message.comes 90 start ∷ []) started (watched 1) [] [] []
unfolding due wanted load_of newly_lacked next_change wished need made_with each
holds_start = on 9 (Joint.takes starts (Allows.comes refl refl (record {
  used = sizes;
  serves = SizesFor.sizes_read;
  fits = record { count = omega arith; each = ((tt, (omega arith, tt)), tt) };
})))

is_held : (started.state.entry ≡ true) × (held (attach_said ++ Message.comes 90 start ∷ []) ≡ 1)
unfolding due wanted load_of newly_lacked next_change wished need made_with each
is_held = (refl, refl)

-- Configured ----------------------------------------------------------------------------------------------------------

abbrev configures : Request
configures = request 2 ConfigurationDone

abbrev configured : Machine
configured = until 9 (heard started configures)

abbrev resumes : Effect
resumes = Does (Resume of_entry)

abbrev resumed : Machine
resumed = then (done_then resumes (an_answer answers.Resume) configured)

abbrev start_said : List Message
start_said = attach_said ++ Message.comes 90 start ∷ Message.hears configures ∷ Message.sends (an_effect resumes)
    ∷ Message.answers (an_effect resumes) (an_answer answers.Resume) ∷ succeeds configures ∷ []

-- the target runs on
runs_on : Joint start_said resumed (watched 0) [] [] []
unfolding due wanted load_of newly_lacked next_change wished need made_with each
runs_on = tells (succeeds configures) (does known resumes (an_answer answers.Resume)
    (hears configures holds_start refl refl) refl (Serves.does refl) refl refl refl refl
    (IsReply.with_answer sizes SizesFor.sizes_read (record { row = refl; fits = tt }) refl)) refl refl

-- Threads -------------------------------------------------------------------------------------------------------------

abbrev lists : Request
lists = request 3 Threads

abbrev threads_told : Replied
threads_told = an_answer (answers.AllThreads (main ∷ []))

abbrev name_told : Replied
name_told = an_answer (answers.ThreadName (109 ∷ []))

abbrev listing : Machine
listing = until 9 (heard resumed lists)

abbrev named : Machine
named = asked_then (questions.ThreadName main) name_told (asked_then questions.AllThreads threads_told listing)

abbrev threads_said : List Message
threads_said = start_said ++ Message.hears lists ∷ Message.sends (a_question questions.AllThreads)
    ∷ Message.answers (a_question questions.AllThreads) threads_told
    ∷ Message.sends (a_question (questions.ThreadName main))
    ∷ Message.answers (a_question (questions.ThreadName main)) name_told
    ∷ Message.tells (response_to lists (outcomes.Success (shapes.Threads (record { id = 1; name = lossy (109 ∷ []) }
    ∷ [])))) ∷ []

lists_one : Joint (start_said ++ Message.hears lists ∷ Message.sends (a_question questions.AllThreads)
    ∷ Message.answers (a_question questions.AllThreads) threads_told ∷ [])
    (asked_then questions.AllThreads threads_told listing) (watched 0) [] [] []
unfolding due wanted load_of newly_lacked next_change wished need made_with each chained
lists_one = asks known questions.AllThreads threads_told (hears lists runs_on refl refl) refl (Replies.says refl) refl
    refl refl refl (IsReply.with_answer sizes SizesFor.sizes_read (record {
      row = refl;
      fits = ((record { count = omega arith; each = (omega arith, tt) }, refl), tt);
    }) refl)

-- the thread is told with the name that it has in the world
lists_threads : Joint threads_said (then named) (watched 0) [] [] []
unfolding due wanted load_of newly_lacked next_change wished need made_with each chained
lists_threads = tells (Message.tells (response_to lists (outcomes.Success (shapes.Threads
    (record { id = 1; name = lossy (109 ∷ []) } ∷ [])))))
    (asks known (questions.ThreadName main) name_told lists_one refl (Replies.says refl) refl refl refl refl
    (IsReply.with_answer sizes SizesFor.sizes_read (record { row = refl; fits = (omega arith, tt) }) refl)) refl refl

-- A stop --------------------------------------------------------------------------------------------------------------

abbrev pauses : Request
pauses = request 4 (Pause (record { thread_id = 1 }))

abbrev suspends : Effect
suspends = Does Suspend

abbrev pausing : Machine
pausing = until 9 (heard (then named) pauses)

abbrev stops : Message
stops = Message.tells (an_event (told_events.Stopped (record { reason = reasons.Pause; thread = 1 })))

abbrev stopped : Machine
stopped = then (then (done_then suspends (an_answer answers.Suspend) pausing))

abbrev pause_said : List Message
pause_said = threads_said ++ Message.hears pauses ∷ Message.sends (an_effect suspends)
    ∷ Message.answers (an_effect suspends) (an_answer answers.Suspend) ∷ succeeds pauses ∷ stops ∷ []

-- the client asks for a pause, and the target is suspended for it
stops_for_pause : Joint pause_said stopped (watched 1) [] [] []
unfolding due wanted load_of newly_lacked next_change wished need made_with each chained
stops_for_pause = tells stops (tells (succeeds pauses) (does {now = watched 1} known suspends
    (an_answer answers.Suspend) (hears pauses lists_threads refl refl) refl (Serves.does refl) refl refl refl refl
    (IsReply.with_answer sizes SizesFor.sizes_read (record { row = refl; fits = tt }) refl)) refl refl) refl refl

-- it stands still then
still_there : IsStill (watched 1)
unfolding due wanted load_of newly_lacked next_change wished need made_with each chained
still_there =
    stands_still pause_said stopped (watched 1) [] [] [] stops_for_pause refl refl (stops_are_held stopped refl) refl
