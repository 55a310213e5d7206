-- What the machine knows between two messages, and the item that it has in hand.
use Rattle.std.specs.Prelude.{ℕ, ◌||◌, Bool, true, false, List, [], ◌∷◌, Option, None, Some}
use Rattle.class_tables.specs.Facts.{Known, nothing}
use Rattle.machine_model.specs.Names.{Attached, ClientOptions, Doing, Fresh, Gone, Item, Part, Phase, Sent}
use Rattle.machine_model.specs.Names.{TargetCommand, ThreadId, Thrown, Want, a_composite, a_raw, a_request, target_end}
use Rattle.machine_model.specs.Requests.{Wishes, new_wishes}
use Rattle.stop_refs.specs.Numbers.{InHand, begun as begun_stop, from, over}

-- How many bytes an id of each kind takes, as the target said (JDWP, VirtualMachine command set, IDSizes).
pub record SizesRead : Type 0 where
  pub field : ℕ
  pub method : ℕ
  pub object : ℕ
  pub class : ℕ
  pub frame : ℕ

-- What is known: how the client wants to be served; where the session stands with its target, and which sides of the
-- handshake went out and came; the sizes of ids; the folders that sources stand in, and the path under which the client
-- listed breakpoints of a source last, by its key; the id that the next breakpoint gets; which event requests are wished
-- and which stand; whether a watch was set since all classes were listed; the facts of classes; the threads that were
-- told, in the order of their numbers; the ids of the breakpoints that were told to be verified; whether a stop is in
-- hand, the numbers of what was told in it, none while the target runs, and what was thrown in it; whether the target's
-- entry is held, and whether the client has configured all; and whether it was told that nothing more comes of the target.
pub record State : Type 0 where
  pub options : ClientOptions
  pub phase : Phase
  pub greeting_sent : Bool
  pub greeting_heard : Bool
  pub sizes : Option SizesRead
  pub roots : List (List ℕ)
  pub paths : List (List ℕ × List ℕ)
  pub next_entry : ℕ
  pub wishes : Wishes
  pub unlisted : Bool
  pub classes : Known
  pub threads : List ThreadId
  pub bound : List ℕ
  pub stopped : Bool
  pub numbers : InHand
  pub thrown : List Thrown
  pub entry : Bool
  pub configured : Bool
  pub terminated : Bool

-- The item in hand, what is left of it to do, what is to be asked for it, what was asked for it in order of sending,
-- and the last effect that was sent for it.
pub record Hand : Type 0 where
  pub item : Item
  pub parts : List Part
  pub queue : List Want
  pub asked : List Sent
  pub effect : Option Doing

-- The whole: what is known; the items that wait, in the order in which their last bytes came; the one in hand; the
-- commands that an item which was given up left without a reply; and whether a `disconnect` was heard, after which
-- nothing more of the client is.
pub record Machine : Type 0 where
  pub state : State
  pub waiting : List Item
  pub hand : Option Hand
  pub late : List TargetCommand
  pub closing : Bool

-- how a client is served until it asks otherwise (DAP specification, Initialize request, the defaults of its arguments)
abbrev pub usual_options : ClientOptions
usual_options = record { lines_from_one = true; columns_from_one = true; shows_types = false }

-- before anything was heard
abbrev pub nothing_known : State
nothing_known = record {
  options = usual_options;
  phase = Fresh;
  greeting_sent = false;
  greeting_heard = false;
  sizes = None;
  roots = [];
  paths = [];
  next_entry = 1;
  wishes = new_wishes;
  unlisted = false;
  classes = nothing;
  threads = [];
  bound = [];
  stopped = false;
  numbers = begun_stop (from 1);
  thrown = [];
  entry = false;
  configured = false;
  terminated = false;
}

abbrev pub fresh : Machine
fresh = record { state = nothing_known; waiting = []; hand = None; late = []; closing = false }

-- an item as it is begun, with these parts
abbrev pub in_hand : Item → List Part → Hand
in_hand item parts = record { item = item; parts = parts; queue = []; asked = []; effect = None }

-- what was told in a stop has no number any more once it is over (DAP specification, Overview, Lifetime of Objects
-- References)
abbrev pub numbers_over : Bool → InHand → InHand
numbers_over false numbers = numbers
numbers_over true numbers = begun_stop (over numbers)

-- the target is gone, and with it the stop in hand and the entry that was held
abbrev pub lost : State → State
lost state = record state {
  phase = Gone;
  stopped = false;
  numbers = numbers_over state.stopped state.numbers;
  thrown = [];
  entry = false;
}

-- this is known now
abbrev pub knowing : Machine → State → Machine
knowing m state = record m { state = state }

-- these parts are left of the item in hand
abbrev pub left : Machine → Hand → List Part → Machine
left m hand parts = record m { hand = Some (record hand { parts = parts }) }

-- Small words --------------------------------------------------------------------------------------------------------

abbrev pub is_gone : Phase → Bool
is_gone Fresh = false
is_gone Attached = false
is_gone Gone = true

abbrev pub is_attached : Phase → Bool
is_attached Fresh = false
is_attached Attached = true
is_attached Gone = false

abbrev pub is_some : {A : Type 0} → Option A → Bool
is_some None = false
is_some (Some a) = true

abbrev pub is_none : {A : Type 0} → Option A → Bool
is_none None = true
is_none (Some a) = false

abbrev pub is_empty : {A : Type 0} → List A → Bool
is_empty [] = true
is_empty (a ∷ others) = false

-- a composite whose body can't be read yet
abbrev pub is_raw : Item → Bool
is_raw (a_raw at body) = true
is_raw (a_request request) = false
is_raw (a_composite at composite) = false
is_raw target_end = false

abbrev pub has_raw : List Item → Bool
has_raw [] = false
has_raw (item ∷ items) = is_raw item || has_raw items

-- an effect was sent, and its reply isn't there
abbrev pub is_flying : Option Doing → Bool
is_flying None = false
is_flying (Some doing) = is_none doing.reply

-- some question has no reply
abbrev pub has_waiting : List Sent → Bool
has_waiting [] = false
has_waiting (sent ∷ asked) = is_none sent.reply || has_waiting asked
