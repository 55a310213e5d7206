-- What a target says of its classes in a joint is so in its world, as long as the joint goes on.
use Rattle.std.proofs.Common.{◌≡◌, ◌∙◌, Bool, true, false, cond, not, List, [], ◌∷◌, ◌++◌, map, fold, refl, sym}
use Rattle.std.proofs.Common.{ap, Option, Some, None, option_map}
use Rattle.std.specs.Prelude.{find, is_some, ◌==◌}
use Rattle.std.specs.List.{AllByRecursion}
use Rattle.std.specs.Option.{option_map_or}
use Rattle.class_tables.specs.Facts.{is_loaded}
use Rattle.jdwp_commands.specs.declared.asked.Asked.{Asked}
use Rattle.jdwp_commands.specs.declared.asked.Replied.TheVariants.{Error as an_error}
use Rattle.jdwp_events.specs.declared.event.Event.{Event}
use Rattle.jdwp_events.specs.declared.event.Event.TheVariants as events
use Rattle.jdwp_values.specs.declared.id.ClassId.{ClassId}
use Rattle.joint_facts.specs.Facts.{IsClassOf}
use Rattle.joint_model.specs.Joints.{Joint, Packet, a_reply, is_aside, some_events}
use Rattle.joint_model.specs.Names.{TargetCommand, a_question, an_effect}
use Rattle.joint_model.specs.Obeying.{Emits, IsTold, Matches, Runs, Serves, composite_of, counted, prepared_by}
use Rattle.machine_model.specs.Knowing.{facts_said, says_dead}
use Rattle.machine_model.specs.Names.{Composite, Replied}
use Rattle.machine_model.specs.Plans.{answer_in}
use Rattle.machine_model.specs.Replying.{wire}
use Rattle.machine_model.specs.Runs.{Message}
use Rattle.machine_model.specs.State.{Machine}
use Rattle.shown_worlds.proofs.RowLemmas.{found_passes}
use Rattle.world_model.specs.Classes.{class_in, has_class}
use Rattle.world_model.specs.Kept.{Program, program_of}
use Rattle.world_model.specs.MoveFacts.{Facts, class_facts, is_prepared}
use Rattle.world_model.specs.Moving.{class_behind, prepared}
use Rattle.world_model.specs.declared.rows.Installed.{Installed}
use Rattle.world_model.specs.declared.rows.WorldClass.{WorldClass}
use Rattle.world_model.specs.declared.world.World.{World}
use Rattle.world_model.proofs.HoldLaws.{all_push}
use Rattle.world_model.proofs.KeptLaws.{programs}
use Rattle.joint_facts.proofs.WorldFacts.{GoesOn, IsKeyed, IsSo, replied_so, sound_keyed, stays_keyed, stays_so}

-- What is said --------------------------------------------------------------------------------------------------------

-- an event that tells of a class tells what is so of it, and that it is prepared
abbrev pub IsEventSo : World → Event → Type 0
IsEventSo w (events.ClassPrepare id thread tag class signature status) =
    IsClassOf w class (record { tag = tag; signature = signature; prepared = true })
IsEventSo w _ = Unit {0}

abbrev pub IsCompositeSo : World → Composite → Type 0
IsCompositeSo w composite = AllByRecursion (IsEventSo w) composite.events

-- what is replied of a class is so, unless it is that the target has ended
abbrev pub IsReplySo : World → TargetCommand → Replied → Type 0
IsReplySo w (a_question question) replied =
    says_dead replied ≡ false → AllByRecursion (IsSo w) (facts_said question (answer_in replied))
IsReplySo w (an_effect effect) replied = Unit {0}

abbrev pub IsMessageSo : World → Message → Type 0
IsMessageSo w (Message.answers command replied) = IsReplySo w command replied
IsMessageSo w (Message.comes at composite) = IsCompositeSo w composite
IsMessageSo w (Message.reads at body composite) = IsCompositeSo w composite
IsMessageSo w _ = Unit {0}

abbrev IsPacketSo : World → Packet → Type 0
IsPacketSo w (a_reply command replied) = IsReplySo w command replied
IsPacketSo w (some_events composite) = IsCompositeSo w composite

-- It stays so ---------------------------------------------------------------------------------------------------------

module _ {A : Type 0} (P Q : A → Type 0) where
  all_on : ((a : A) → P a → Q a) → (some : List A) → AllByRecursion P some → AllByRecursion Q some
  all_on each [] are = tt
  all_on each (a ∷ some) are = (each a are.0, all_on each some are.1)

module _ {w now : World} (on : GoesOn w now) where
  event_on : (event : Event) → IsEventSo w event → IsEventSo now event
  event_on (events.ClassPrepare id thread tag class signature status) so =
      stays_so on (is_loaded class tag signature true) so
  event_on _ so = tt

  composite_on : (composite : Composite) → IsCompositeSo w composite → IsCompositeSo now composite
  composite_on composite so = all_on (IsEventSo w) (IsEventSo now) event_on composite.events so

  reply_on : (command : TargetCommand) (replied : Replied) → IsReplySo w command replied → IsReplySo now command replied
  reply_on (a_question question) replied so = λ living.
      all_on (IsSo w) (IsSo now) (stays_so on) (facts_said question (answer_in replied)) (so living)
  reply_on (an_effect effect) replied so = tt

  message_on : (message : Message) → IsMessageSo w message → IsMessageSo now message
  message_on (Message.answers command replied) so = reply_on command replied so
  message_on (Message.comes at composite) so = composite_on composite so
  message_on (Message.reads at body composite) so = composite_on composite so
  message_on _ so = tt

  packet_on : (packet : Packet) → IsPacketSo w packet → IsPacketSo now packet
  packet_on (a_reply command replied) so = reply_on command replied so
  packet_on (some_events composite) so = composite_on composite so

-- Classes that are prepared -------------------------------------------------------------------------------------------

here : {w : World} → GoesOn w w
here = record { facts = refl; prepared = λ class is. is }

further : {first second third : World} → GoesOn first second → GoesOn second third → GoesOn first third
further one other = record {
  facts = other.facts ∙ one.facts;
  prepared = λ class is. other.prepared class (one.prepared class is);
}

abbrev row_prepared : WorldClass → Bool
row_prepared row = row.prepared

facts_behind : (class : ClassId) (classes : List WorldClass)
    → map class_facts (map (class_behind class) classes) ≡ map class_facts classes
facts_behind class [] = refl
facts_behind class (row ∷ classes) =
    ap (λ (first : WorldClass). first ∷ map class_facts (map (class_behind class) classes)) (by (row.id.0 == class.0))
    ∙ ap (λ (others : List WorldClass). class_facts row ∷ others) (facts_behind class classes)
  where
    by : (b : Bool) → class_facts (cond b (record row { prepared = true }) row) ≡ class_facts row
    by true = refl
    by false = refl

id_behind : (class : ClassId) (row : WorldClass) → (class_behind class row).id ≡ row.id
id_behind class row = by (row.id.0 == class.0) where
  by : (b : Bool) → (cond b (record row { prepared = true }) row).id ≡ row.id
  by true = refl
  by false = refl

found_behind : (class other : ClassId) (classes : List WorldClass)
    → find (λ (row : WorldClass). row.id.0 == other.0) (map (class_behind class) classes)
    ≡ option_map (class_behind class) (find (λ (row : WorldClass). row.id.0 == other.0) classes)
found_behind class other [] = refl
found_behind class other (row ∷ classes) =
    rw (id_behind class row) (by (row.id.0 == other.0) (found_behind class other classes))
  where
    by : (b : Bool) → find (λ (row : WorldClass). row.id.0 == other.0) (map (class_behind class) classes)
        ≡ option_map (class_behind class) (find (λ (row : WorldClass). row.id.0 == other.0) classes)
        → cond b (Some (class_behind class row))
        (find (λ (row : WorldClass). row.id.0 == other.0) (map (class_behind class) classes))
        ≡ option_map (class_behind class) (cond b (Some row) (find (λ (row : WorldClass). row.id.0 == other.0) classes))
    by true later = refl
    by false later = later

kept_behind : (class : ClassId) (found : Option WorldClass) → option_map_or row_prepared found false ≡ true
    → option_map_or row_prepared (option_map (class_behind class) found) false ≡ true
kept_behind class None is = absurd cc
kept_behind class (Some row) is = by (row.id.0 == class.0) where
  by : (b : Bool) → (cond b (record row { prepared = true }) row).prepared ≡ true
  by true = refl
  by false = is

now_behind : (class : ClassId) (classes : List WorldClass)
    → is_some (find (λ (row : WorldClass). row.id.0 == class.0) classes) ≡ true
    → option_map_or row_prepared
    (option_map (class_behind class) (find (λ (row : WorldClass). row.id.0 == class.0) classes)) false ≡ true
now_behind class classes there = by (find (λ (row : WorldClass). row.id.0 == class.0) classes) refl there where
  by : (found : Option WorldClass) → find (λ (row : WorldClass). row.id.0 == class.0) classes ≡ found
      → is_some found ≡ true → option_map_or row_prepared (option_map (class_behind class) found) false ≡ true
  by None is there = absurd cc
  by (Some row) is there = ap (λ (b : Bool). (cond b (record row { prepared = true }) row).prepared)
      (found_passes (λ (row : WorldClass). row.id.0 == class.0) classes row is)

abbrev with_classes : World → List WorldClass → Facts
with_classes w classes = record {
  sizes = w.sizes;
  classes = classes;
  methods = w.methods;
  variables = w.variables;
  fields = w.fields;
}

prepare_on : (w : World) (class : ClassId) → GoesOn w (prepared w class)
prepare_on w class = record {
  facts = ap (with_classes w) (facts_behind class w.classes);
  prepared = λ other is. ap (λ found. option_map_or row_prepared found false) (found_behind class other w.classes)
      ∙ kept_behind class (class_in w other) is;
}

is_prepared_now : (w : World) (class : ClassId) → has_class w class ≡ true → is_prepared (prepared w class) class ≡ true
is_prepared_now w class there =
    ap (λ found. option_map_or row_prepared found false) (found_behind class class w.classes)
    ∙ now_behind class w.classes there

event_behind : (event : Event) (w : World) → GoesOn w (prepared_by w event)
event_behind (events.ClassPrepare id thread tag class signature status) w = prepare_on w class
event_behind _ w = here

events_behind : (told : List Event) (w : World) → GoesOn w (fold prepared_by w told)
events_behind [] w = here
events_behind (event ∷ told) w = further (event_behind event w) (events_behind told (prepared_by w event))

-- What a target does --------------------------------------------------------------------------------------------------

unprepared_there : (found : Option WorldClass)
    → option_map_or (λ (row : WorldClass). not row.prepared) found false ≡ true → is_some found ≡ true
unprepared_there None is = absurd cc
unprepared_there (Some row) is = refl

-- what an event tells of a class is so behind it
matched_so : (first w : World) (request : Installed) (event : Event) → GoesOn first w → Matches first request event
    → IsEventSo (prepared_by w event) event
matched_so first w request (events.ClassPrepare id thread tag class signature status) on is =
    let there = unprepared_there (class_in first class) is.2 in
    let listed = stays_so on (is_loaded class tag signature false) (record {
      there = there;
      tag = sym is.3;
      signature = sym is.4;
      prepared = λ known. absurd cc;
    }) in
    let told = stays_so (prepare_on w class) (is_loaded class tag signature false) listed in record {
      there = told.there;
      tag = told.tag;
      signature = told.signature;
      prepared = λ known. is_prepared_now w class listed.there;
    }
matched_so first w request _ on is = tt

abbrev event_of : Installed × Event → Event
event_of one = one.1

told_so : (first w : World) (told : List (Installed × Event)) → GoesOn first w → AllByRecursion (IsTold first) told
    → AllByRecursion (IsEventSo (fold prepared_by w (map event_of told))) (map event_of told)
told_so first w [] on are = tt
told_so first w (one ∷ told) on are = (
  event_on (events_behind (map event_of told) (prepared_by w one.1)) one.1
      (matched_so first w one.0 one.1 on are.0.matches),
  told_so first (prepared_by w one.1) told (further on (event_behind one.1 w)) are.1,
)

counted_on : (w : World) (composite : Composite) → GoesOn w (counted w composite)
counted_on w composite = record { facts = refl; prepared = λ class is. is }

record IsEmitted (w now : World) (composite : Composite) : Type 0 where
  on : GoesOn w now
  so : IsCompositeSo now composite

emitted_so : {w now : World} {composite : Composite} → Emits w composite now → IsEmitted w now composite
emitted_so {w} (Emits.tells first others lives told sound) =
    let composite = composite_of (first ∷ others) in
    let last = fold prepared_by w composite.events in record {
      on = further (events_behind composite.events w) (counted_on last composite);
      so = composite_on (counted_on last composite) composite (told_so w w (first ∷ others) here told);
    }
emitted_so (Emits.begins lives other sound) = record {
  on = record { facts = refl; prepared = λ class is. is };
  so = (tt, tt);
}
emitted_so Emits.ends = record { on = record { facts = refl; prepared = λ class is. is }; so = (tt, tt) }

abbrev facts_in : Program → Facts
facts_in program = record {
  sizes = program.sizes;
  classes = map class_facts program.classes;
  methods = program.methods;
  variables = program.variables;
  fields = program.fields;
}

program_on : {w now : World} → program_of now ≡ program_of w → GoesOn w now
program_on same = record {
  facts = ap facts_in same;
  prepared = λ class is. ap (λ (program : Program). option_map_or row_prepared
      (find (λ (row : WorldClass). row.id.0 == class.0) program.classes) false) same ∙ is;
}

served_on : {w now : World} {asked : Asked} {replied : Replied} → Serves w asked replied now → GoesOn w now
served_on (Serves.replies is) = here
served_on {w} {now} {replied = replied} (Serves.does {effect} is) = program_on (programs w effect now replied is)
served_on (Serves.installs lives may id free) = record { facts = refl; prepared = λ class is. is }
served_on {w} {now} (Serves.refuses {effect} {usual} is may) = program_on (programs w effect now (an_error usual) is)

served_so : {w now : World} {replied : Replied} (command : TargetCommand) → Serves w (wire command) replied now
    → IsKeyed w → IsReplySo now command replied
served_so (a_question question) (Serves.replies is) keyed = λ living. replied_so keyed is living
served_so (an_effect effect) serves keyed = tt

ran_on : {w now : World} → Runs w now → GoesOn w now
ran_on runs = record { facts = runs.facts; prepared = runs.stay_prepared }

died_on : (w : World) → GoesOn w (record w { dead = true })
died_on w = record { facts = refl; prepared = λ class is. is }

-- Every joint ---------------------------------------------------------------------------------------------------------

-- what was said so far, what is in flight, and what is unread is so
pub record AreSo (messages : List Message) (w : World) (packets : List Packet) (kept : List Composite) : Type 0 where
  pub keyed : IsKeyed w
  pub said : AllByRecursion (IsMessageSo w) messages
  pub flying : AllByRecursion (IsPacketSo w) packets
  pub unread : AllByRecursion (IsCompositeSo w) kept

are_on : {messages : List Message} {w now : World} {packets : List Packet} {kept : List Composite} → GoesOn w now
    → AreSo messages w packets kept → AreSo messages now packets kept
are_on {messages} {w} {now} {packets} {kept} on are = record {
  keyed = stays_keyed on are.keyed;
  said = all_on (IsMessageSo w) (IsMessageSo now) (message_on on) messages are.said;
  flying = all_on (IsPacketSo w) (IsPacketSo now) (packet_on on) packets are.flying;
  unread = all_on (IsCompositeSo w) (IsCompositeSo now) (composite_on on) kept are.unread;
}

one_said : {messages : List Message} {w : World} {packets : List Packet} {kept : List Composite} (message : Message)
    → IsMessageSo w message → AreSo messages w packets kept → AreSo (messages ++ message ∷ []) w packets kept
one_said {messages} {w} message so are = record {
  keyed = are.keyed;
  said = all_push (IsMessageSo w) messages message are.said so;
  flying = are.flying;
  unread = are.unread;
}

one_flies : {messages : List Message} {w : World} {packets : List Packet} {kept : List Composite} (packet : Packet)
    → IsPacketSo w packet → AreSo messages w packets kept → AreSo messages w (packets ++ packet ∷ []) kept
one_flies {w = w} {packets} packet so are = record {
  keyed = are.keyed;
  said = are.said;
  flying = all_push (IsPacketSo w) packets packet are.flying so;
  unread = are.unread;
}

aside_so : (w : World) (message : Message) → is_aside message ≡ true → IsMessageSo w message
aside_so w (Message.answers command replied) aside = absurd cc
aside_so w (Message.comes at composite) aside = absurd cc
aside_so w (Message.reads at body composite) aside = absurd cc
aside_so w _ aside = tt

pub are_so : {messages : List Message} {m : Machine} {w : World} {commands : List TargetCommand} {packets : List Packet}
    {kept : List Composite} → Joint messages m w commands packets kept → AreSo messages w packets kept
are_so (Joint.starts {w} sound lives free none) =
    record { keyed = sound_keyed w sound; said = tt; flying = tt; unread = tt }
are_so (Joint.goes j is) = are_so j
are_so (Joint.queues j may) = are_so j
are_so (Joint.says {w = w} {message = message} j allows aside) = one_said message (aside_so w message aside) (are_so j)
are_so (Joint.sends {command = command} j allows) = one_said (Message.sends command) tt (are_so j)
are_so (Joint.gets {messages} {w = w} {command = command} {replied} j allows) = let are = are_so j in record {
  keyed = are.keyed;
  said = all_push (IsMessageSo w) messages (Message.answers command replied) are.said are.flying.0;
  flying = are.flying.1;
  unread = are.unread;
}
are_so (Joint.takes {messages} {w = w} {composite = composite} {at} j allows) = let are = are_so j in record {
  keyed = are.keyed;
  said = all_push (IsMessageSo w) messages (Message.comes at composite) are.said are.flying.0;
  flying = are.flying.1;
  unread = are.unread;
}
are_so (Joint.keeps {messages} {w = w} {kept = kept} {composite} {at} {body} j is allows) =
    let are = are_so j in record {
      keyed = are.keyed;
      said = all_push (IsMessageSo w) messages (Message.keeps at body) are.said tt;
      flying = are.flying.1;
      unread = all_push (IsCompositeSo w) kept composite are.unread are.flying.0;
    }
are_so (Joint.reads {messages} {w = w} {composite = composite} {at} {body} j is allows) = let are = are_so j in record {
  keyed = are.keyed;
  said = all_push (IsMessageSo w) messages (Message.reads at body composite) are.said are.unread.0;
  flying = are.flying;
  unread = are.unread.1;
}
are_so (Joint.loses j allows) = one_said Message.ends tt (are_so j)
are_so (Joint.serves {replied = replied} command before after j serves) = let are = are_so j in
    one_flies (a_reply command replied) (served_so command serves are.keyed) (are_on (served_on serves) are)
are_so (Joint.runs j runs) = are_on (ran_on runs) (are_so j)
are_so (Joint.emits {composite = composite} j emits) = let emitted = emitted_so emits in
    one_flies (some_events composite) emitted.so (are_on emitted.on (are_so j))
are_so (Joint.dies {w = w} j) = are_on (died_on w) (are_so j)
