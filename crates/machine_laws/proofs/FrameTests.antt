-- A test of ids by the stop in hand: a frame was read in it. What passes as the stop goes on, and where no frame is left.
use Rattle.std.proofs.Common.{◌≡◌, Bool, true, false, List, [], ◌∷◌, ◌++◌, Option, Some, None, refl, sym, ap, subst}
use Rattle.std.proofs.Common.{◌∙◌, append-nil, append_assoc, ℕ, zero, suc}
use Rattle.std.specs.List.{AllByRecursion as All, Contains}
use Rattle.std.proofs.lemmas.List.Concat.{flat_map-append}
use Rattle.std.proofs.lemmas.List.Elements.{Contains-append_left, Contains-append_right}
use Rattle.class_tables.specs.Facts.{Known}
use Rattle.class_tables.specs.declared.loaded.Loaded.{Loaded}
use Rattle.jdwp_values.specs.declared.class.Field.{Field}
use Rattle.jdwp_values.specs.declared.class.Method.{Method}
use Rattle.jdwp_values.specs.declared.id.ClassId.{ClassId}
use Rattle.machine_model.specs.Due.{sent}
use Rattle.machine_model.specs.Ids.{AreOfStop, Id, WasReadInStop, begins_stop, class, frame, ids_given, ids_read}
use Rattle.machine_model.specs.ReferenceNumbers.{ends_stop}
use Rattle.machine_model.specs.Runs.{Message}
use Rattle.machine_model.specs.State.{Hand, Machine, State, is_some}
use Rattle.machine_model.proofs.IdRows.{all_joined}
use Rattle.machine_model.proofs.PlanIds.{AreKnown, IsAsked, IsWanted, OfClass, OfObject, OfThrown}
use Rattle.machine_model.proofs.Bools.{both_hold}
use Rattle.machine_steps.specs.Names.{Writes, Classes, Item, Lines, Part, Sent, Success, ThreadId, Want, a_composite}
use Rattle.machine_steps.specs.Names.{Decides}
use Rattle.machine_steps.specs.Names.{of_stop, Functions, Thrown, Throws, Dispose, Exit, Resume, Suspend, a_written}
use Rattle.machine_steps.specs.Names.{Capabilities, Continued, Failed, Nothing, a_stop, breakpoint_list, Steps}
use Rattle.machine_steps.specs.Names.{exception_text, some_news, thread_changed}
use Rattle.machine_steps.proofs.Frameless.{composite_free, every_one, fields_free, is_frame, methods_free}
use Rattle.machine_steps.proofs.ItemIds.{AreItems, HandStands}
use Rattle.machine_steps.proofs.Standing.{Near, PartStands}
use Rattle.machine_steps.proofs.Stepping.{with_said}
use Rattle.machine_laws.proofs.StopParts.{are_bare, is_bare}
use Rattle.machine_laws.proofs.StopTurns.{says_end}
use Rattle.machine_steps.proofs.ThingIds.{AreThings}
use Rattle.machine_steps.proofs.HitIds.{ItemStands}
use Rattle.machine_steps.proofs.ThreadIds.{TellStands}
use Rattle.machine_steps.proofs.WishIds.{weak_wished}

-- The test ------------------------------------------------------------------------------------------------------------

-- a frame was read in the stop in hand, and one is; all other ids pass
abbrev pub IsOfStop : Bool → List Message → Id → Type 0
IsOfStop stopped messages (frame thread id) = (stopped ≡ true) × WasReadInStop messages (frame thread id)
IsOfStop stopped messages _ = Unit {0}

pub free : (stopped : Bool) (messages : List Message) (id : Id) → is_frame id ≡ false → IsOfStop stopped messages id
free stopped messages (frame thread id) is = cc
free stopped messages _ is = tt

pub longer : {messages since : List Message} (message : Message) → ends_stop message ≡ false → AreOfStop messages since
    → AreOfStop (messages ++ message ∷ []) (since ++ message ∷ [])
longer {messages} {since} message on h = record {
  before = h.before;
  beginning = h.beginning;
  messages_are = ap (λ (all : List Message). all ++ message ∷ []) h.messages_are
      ∙ append_assoc h.before (h.beginning ∷ since) (message ∷ []);
  begins = h.begins;
  goes_on = all_joined (λ (one : Message). ends_stop one ≡ false) since (message ∷ []) h.goes_on (on, tt);
}

pub begun_now : (messages : List Message) (message : Message) → begins_stop message ≡ true
    → AreOfStop (messages ++ message ∷ []) []
begun_now messages message is =
    record { before = messages; beginning = message; messages_are = refl; begins = is; goes_on = tt }

ids_more : (since : List Message) (message : Message)
    → ids_read (since ++ message ∷ []) ≡ ids_read since ++ ids_given message
ids_more since message = flat_map-append ids_given since (message ∷ [])
    ∙ ap (λ (ids : List Id). ids_read since ++ ids) (append-nil (ids_given message))

read_more : {messages : List Message} (message : Message) (id : Id) → ends_stop message ≡ false
    → WasReadInStop messages id → WasReadInStop (messages ++ message ∷ []) id
read_more message id on h = record {
  since = h.since ++ message ∷ [];
  of_stop = longer message on h.of_stop;
  is_read = subst (λ (ids : List Id). Contains ids id) (sym (ids_more h.since message))
      (Contains-append_left (ids_read h.since) (ids_given message) id h.is_read);
}

pub read_now : {messages since : List Message} (message : Message) (id : Id) → ends_stop message ≡ false
    → AreOfStop messages since → Contains (ids_given message) id → WasReadInStop (messages ++ message ∷ []) id
read_now {messages} {since} message id on h among = record {
  since = since ++ message ∷ [];
  of_stop = longer message on h;
  is_read = subst (λ (ids : List Id). Contains ids id) (sym (ids_more since message))
      (Contains-append_right (ids_read since) (ids_given message) id among);
}

-- what passes goes on to pass while the stop goes on
pub grows : (messages : List Message) (said : Option Message) (stopped now : Bool) → (stopped ≡ true → now ≡ true)
    → says_end said ≡ false → (id : Id) → IsOfStop stopped messages id → IsOfStop now (with_said messages said) id
grows messages None stopped now up on (frame thread id) h = (up h.0, h.1)
grows messages (Some message) stopped now up on (frame thread id) h =
    (up h.0, read_more message (frame thread id) on h.1)
grows messages said stopped now up on _ h = tt

-- Where no frame is left ----------------------------------------------------------------------------------------------

module _ (stopped : Bool) (messages : List Message) where
  abbrev P : Id → Type 0
  P = IsOfStop stopped messages

  free_now : (id : Id) → is_frame id ≡ false → P id
  free_now = free stopped messages

  object_free : (id : ℕ) → OfObject P id
  object_free zero = tt
  object_free (suc id) = tt

  thrown_free : (thrown : Thrown) → OfThrown P thrown
  thrown_free thrown = (tt, object_free thrown.object.0)

  item_free : (item : Item) → ItemStands P item
  item_free (a_composite at composite) = composite_free P free_now composite
  item_free _ = tt

  tell_free : (part : Part) → TellStands P part
  tell_free (Part.Tells (some_news (thread_changed started thread))) = tt
  tell_free (Part.Tells (a_stop stopping)) = tt
  tell_free (Part.Looks (exception_text thread object)) = tt
  tell_free (Part.Notes (Throws thrown)) = every_one (OfThrown P) thrown_free thrown
  tell_free _ = tt

  hand_free : (hand : Option Hand) → HandStands P hand
  hand_free None = tt
  hand_free (Some hand) = (item_free hand.item, every_one (TellStands P) tell_free hand.parts)

  -- what waits has no frames but by number
  pub items_free : (m : Machine) → AreThings P m.state.numbers → AreItems P m
  items_free m things = record {
    waiting = every_one (ItemStands P) item_free m.waiting;
    held = hand_free m.hand;
    threads = every_one (λ (thread : ThreadId). Unit {0}) (λ thread. tt) m.state.threads;
    things = things;
    thrown = every_one (OfThrown P) thrown_free m.state.thrown;
  }

  known_free : (known : Known) → AreKnown P known
  known_free known = record {
    loaded = every_one (λ (entry : ClassId × Loaded). Unit {0}) (λ entry. tt) known.loaded;
    methods = every_one _ (λ (entry : ClassId × List Method). methods_free P free_now entry.1) known.methods;
    fields = every_one _ (λ (entry : ClassId × List Field). fields_free P free_now entry.1) known.fields;
    supers = every_one (λ (entry : ClassId × ClassId). Unit {0}) (λ entry. tt) known.supers;
  }

  part_free : (R : Id → Type 0) (part : Part) → is_bare part ≡ true → PartStands R part → PartStands P part
  part_free R (Part.Responds (Success Nothing)) bare h = tt
  part_free R (Part.Responds (Success Capabilities)) bare h = tt
  part_free R (Part.Responds (Success Continued)) bare h = tt
  part_free R (Part.Responds (Success (a_written seen))) bare h = tt
  part_free R (Part.Responds (Success (breakpoint_list rooted listed))) bare h = tt
  part_free R (Part.Responds (Success body)) bare h = cc
  part_free R (Part.Responds (Failed failure)) bare h = tt
  part_free R (Part.Looks lookup) bare h = cc
  part_free R (Part.Unfolds (Decides logged stops)) bare h = cc
  part_free R (Part.Sends (Writes write)) bare h = cc
  part_free R (Part.Sends Suspend) bare h = tt
  part_free R (Part.Sends (Resume suspension)) bare h = tt
  part_free R (Part.Sends Dispose) bare h = tt
  part_free R (Part.Sends Exit) bare h = tt
  part_free R (Part.Notes (Lines key path entries)) bare h = h
  part_free R (Part.Notes (Functions entries)) bare h = h
  part_free R (Part.Notes (Steps None)) bare h = tt
  part_free R (Part.Notes (Steps (Some step))) bare h = tt
  part_free R (Part.Notes (Classes classes)) bare h = every_one (OfClass P) (λ class. tt) classes
  part_free R _ bare h = tt

  parts_free : (R : Id → Type 0) (parts : List Part) → are_bare parts ≡ true → All (PartStands R) parts
      → All (PartStands P) parts
  parts_free R [] bare h = tt
  parts_free R (part ∷ parts) bare h = let two = both_hold (is_bare part) (are_bare parts) bare in
      (part_free R part two.0 h.0, parts_free R parts two.1 h.1)

  -- and nor has what is left of an item that ends the stop
  pub near_free : (R : Id → Type 0) (state : State) (left : List Part) (queue : List Want) (asked : List Sent)
      → are_bare left ≡ true → queue ≡ [] → asked ≡ [] → Near R state left queue asked → Near P state left queue asked
  near_free R state left queue asked bare none_queued none_asked n = record {
    classes = known_free state.classes;
    wanted = weak_wished R P (λ id other h. free_now id other) state.wishes.wanted n.wanted;
    order = n.order;
    parts = parts_free R left bare n.parts;
    wants = subst (λ (wants : List Want). All (IsWanted P (is_some state.sizes)) wants) (sym none_queued) tt;
    replies = subst (λ (sent : List Sent). All (IsAsked P (is_some state.sizes)) sent) (sym none_asked) tt;
  }
