-- No composite of a target that obeys JDWP suspends one thread alone.
use Rattle.std.proofs.Common.{◌≡◌, ◌∙◌, ◌^◌, ◌+◌, ℕ, Bool, true, false, cond, List, [], ◌∷◌, ◌++◌, map, fold, refl, sym}
use Rattle.std.proofs.Common.{subst}
use Rattle.std.specs.Prelude.{nat_abs, nat_lt, Err, Ok, Result}
use Rattle.std.specs.List.{AllByRecursion}
use Rattle.std.proofs.lemmas.List.Elements.{All-contains, All-from_recursion}
use Rattle.jdwp_commands.specs.declared.answer.Answer.TheVariants as answers
use Rattle.jdwp_commands.specs.declared.asked.Asked.{Asked}
use Rattle.jdwp_commands.specs.declared.asked.Replied.{Replied}
use Rattle.jdwp_commands.specs.declared.asked.Replied.TheVariants.{Error as an_error}
use Rattle.jdwp_commands.specs.declared.effect.Effect.{Effect}
use Rattle.jdwp_commands.specs.declared.effect.Effect.TheVariants as effects
use Rattle.jdwp_events.specs.Kinds.{byte_of_policy}
use Rattle.jdwp_events.specs.declared.event.Event.{Event}
use Rattle.jdwp_events.specs.declared.event.Event.TheVariants as events
use Rattle.jdwp_events.specs.declared.kind.EventKind.{EventKind}
use Rattle.jdwp_events.specs.declared.kind.Policy.{Policy}
use Rattle.jdwp_events.specs.declared.kind.Policy.TheVariants.{All, EventThread, NoThread}
use Rattle.jdwp_events.specs.declared.modifier.Modifier.{Modifier}
use Rattle.joint_facts.specs.Arrivals.{IsWhole, IsWholeMessage, IsWholePacket, NoneSuspendsOne, is_whole}
use Rattle.joint_model.specs.Joints.{Joint, Packet, a_reply, is_aside, some_events}
use Rattle.joint_model.specs.Names.{TargetCommand}
use Rattle.joint_model.specs.Obeying.{Emits, IsTold, Serves, composite_of, prepared_by}
use Rattle.machine_model.specs.Names.{Composite}
use Rattle.machine_model.specs.Runs.{Message}
use Rattle.machine_model.specs.State.{Machine}
use Rattle.world_model.specs.Effects.{living, set_where, with_element, with_put, with_request, with_slot}
use Rattle.world_model.specs.Emitting.{greater, hit_of}
use Rattle.world_model.specs.MoveFacts.{Requested}
use Rattle.world_model.specs.Requests.{allowed, free_id, is_of_threads}
use Rattle.world_model.specs.Codes.{not_implemented}
use Rattle.world_model.specs.Storing.{element_stored, field_stored, slot_stored}
use Rattle.world_model.specs.declared.rows.Installed.{Installed}
use Rattle.world_model.specs.declared.world.World.{World}
use Rattle.world_model.proofs.FilterLaws.{all_left}
use Rattle.world_model.proofs.HoldLaws.{all_push}
use Rattle.world_model.proofs.KeptLaws.{Leaves, leaves, leaves_applied, leaves_installed, leaves_suspended, leaves_with}

abbrev IsWholeRequest : Installed → Type 0
IsWholeRequest row = is_whole row.policy ≡ true

abbrev AreWholeRequests : World → Type 0
AreWholeRequests w = AllByRecursion IsWholeRequest w.requests

-- Event requests ------------------------------------------------------------------------------------------------------

-- a request that is allowed suspends no thread, or all
allowed_whole : (w : World) (kind : EventKind) (policy : Policy) (modifiers : List Modifier)
    → allowed w kind policy modifiers ≡ Ok tt → is_whole policy ≡ true
allowed_whole w kind NoThread modifiers is = refl
allowed_whole w kind All modifiers is = refl
allowed_whole w kind EventThread modifiers is = by (is_of_threads kind) is where
  by : (threads : Bool)
      → ◌≡◌ {A = Result (Unit {0}) ℕ} (cond threads (Err not_implemented) (Err not_implemented)) (Ok tt) → false ≡ true
  by true is = absurd cc
  by false is = absurd cc

installed_whole : (w : World) (kind : EventKind) (policy : Policy) (modifiers : List Modifier) (n : ℕ)
    → is_whole policy ≡ true → AreWholeRequests w → AreWholeRequests (with_request w kind policy modifiers n)
installed_whole w kind policy modifiers n is are = all_push IsWholeRequest w.requests
    (record { request = n; wish_kind = kind; policy = policy; modifiers = modifiers }) are is

abbrev Keeps : World → Replied → Type 0
Keeps now replied = AreWholeRequests now

set_whole : (w : World) (kind : EventKind) (policy : Policy) (modifiers : List Modifier) → AreWholeRequests w
    → Leaves Keeps (set_where w kind policy modifiers (allowed w kind policy modifiers))
set_whole w kind policy modifiers are = by (allowed w kind policy modifiers) refl where
  by : (found : Result (Unit {0}) ℕ) → allowed w kind policy modifiers ≡ found
      → Leaves Keeps (set_where w kind policy modifiers found)
  by (Ok _) is = leaves_installed Keeps w kind policy modifiers (free_id w)
      (λ n free. installed_whole w kind policy modifiers n (allowed_whole w kind policy modifiers is) are)
  by (Err code) is = leaves Keeps w (an_error code) are

living_whole : (w : World) (effect : Effect) → AreWholeRequests w → Leaves Keeps (living w effect)
living_whole w effects.Dispose are = leaves Keeps _ _ tt
living_whole w effects.Suspend are = leaves_suspended Keeps w (nat_lt (w.count + 1) (2 ^ 64)) (λ fits. are)
living_whole w effects.Resume are = leaves Keeps _ _ are
living_whole w (effects.Exit code) are = leaves Keeps _ _ are
living_whole w (effects.SetField object field value) are =
    leaves_with Keeps w (with_put w) answers.SetField (field_stored w object field value) (λ x is. are) (λ code. are)
living_whole w (effects.SetElement array first value) are =
    leaves_with Keeps w (with_element w array (nat_abs first)) answers.SetElement (element_stored w array first value)
    (λ x is. are) (λ code. are)
living_whole w (effects.Set kind policy modifiers) are = set_whole w kind policy modifiers are
living_whole w (effects.Clear kind request) are = leaves Keeps _ _ (all_left IsWholeRequest _ w.requests are)
living_whole w (effects.SetSlot thread frame slot value) are =
    leaves_with Keeps w (with_slot w thread frame slot) answers.SetSlot (slot_stored w thread frame slot value)
    (λ x is. are) (λ code. are)

served_whole : {w now : World} {asked : Asked} {replied : Replied} → Serves w asked replied now → AreWholeRequests w
    → AreWholeRequests now
served_whole (Serves.replies is) are = are
served_whole {w} {now} {replied = replied} (Serves.does {effect} is) are =
    leaves_applied Keeps w effect w.dead are (living_whole w effect are) now replied is
served_whole {w} (Serves.installs {kind} {policy} {modifiers} {id} lives may number free) are =
    installed_whole w kind policy modifiers id (allowed_whole w kind policy modifiers may) are
served_whole {w} {now} (Serves.refuses {effect} {usual} is may) are =
    leaves_applied Keeps w effect w.dead are (living_whole w effect are) now (an_error usual) is

-- Composites ----------------------------------------------------------------------------------------------------------

greater_whole : (a b : Policy) → is_whole a ≡ true → is_whole b ≡ true → is_whole (greater a b) ≡ true
greater_whole a b one other = by (nat_lt (byte_of_policy a) (byte_of_policy b)) where
  by : (less : Bool) → is_whole (cond less b a) ≡ true
  by true = other
  by false = one

-- so is the greatest of some
greatest_whole : {A B : Type 0} (some : List B) (make : B → A) (of : A → Policy) (policy : Policy)
    → AllByRecursion (λ (b : B). is_whole (of (make b)) ≡ true) some → is_whole policy ≡ true
    → is_whole (fold (λ (greatest : Policy) (a : A). greater greatest (of a)) policy (map make some)) ≡ true
greatest_whole [] make of policy are is = is
greatest_whole (b ∷ some) make of policy are is =
    greatest_whole some make of (greater policy (of (make b))) are.1 (greater_whole policy (of (make b)) is are.0)

told_whole : (w : World) (told : List (Installed × Event)) → AreWholeRequests w → AllByRecursion (IsTold w) told
    → AllByRecursion (λ (one : Installed × Event). IsWholeRequest one.0) told
told_whole w [] whole are = tt
told_whole w (one ∷ told) whole are = (
  All-contains IsWholeRequest w.requests one.0 (All-from_recursion IsWholeRequest w.requests whole) are.0.asked,
  told_whole w told whole are.1,
)

requests_behind : (told : List Event) (w : World) → (fold prepared_by w told).requests ≡ w.requests
requests_behind [] w = refl
requests_behind (event ∷ told) w = requests_behind told (prepared_by w event) ∙ by_event event where
  by_event : (event : Event) → (prepared_by w event).requests ≡ w.requests
  by_event (events.ClassPrepare id thread tag class signature status) = refl
  by_event _ = refl

start_whole : (policy : Policy) → (policy ≡ EventThread → ⊥) → is_whole policy ≡ true
start_whole NoThread other = refl
start_whole EventThread other = absurd (other refl)
start_whole All other = refl

record IsEmittedWhole (now : World) (composite : Composite) : Type 0 where
  requests : AreWholeRequests now
  whole : IsWhole composite

emitted_whole : {w now : World} {composite : Composite} → Emits w composite now → AreWholeRequests w
    → IsEmittedWhole now composite
emitted_whole {w} (Emits.tells first others lives told sound) are = record {
  requests = subst (λ (rows : List Installed). AllByRecursion IsWholeRequest rows)
      (sym (requests_behind (composite_of (first ∷ others)).events w)) are;
  whole = greatest_whole (first ∷ others) (λ (one : Installed × Event). hit_of one.0) _ NoThread
      (told_whole w (first ∷ others) are told) refl;
}
emitted_whole (Emits.begins {policy} lives other sound) are =
    record { requests = are; whole = start_whole policy other }
emitted_whole Emits.ends are = record { requests = are; whole = refl }

-- Every joint ---------------------------------------------------------------------------------------------------------

record AreWholeBeside (messages : List Message) (w : World) (packets : List Packet) (kept : List Composite)
    : Type 0 where
  requests : AreWholeRequests w
  came : AllByRecursion IsWholeMessage messages
  flying : AllByRecursion IsWholePacket packets
  unread : AllByRecursion IsWhole kept

one_came : {messages : List Message} {w : World} {packets : List Packet} {kept : List Composite} (message : Message)
    → IsWholeMessage message → AreWholeBeside messages w packets kept
    → AreWholeBeside (messages ++ message ∷ []) w packets kept
one_came {messages} message is are = record {
  requests = are.requests;
  came = all_push IsWholeMessage messages message are.came is;
  flying = are.flying;
  unread = are.unread;
}

aside_whole : (message : Message) → is_aside message ≡ true → IsWholeMessage message
aside_whole (Message.comes at composite) aside = absurd cc
aside_whole (Message.reads at body composite) aside = absurd cc
aside_whole _ aside = tt

beside : {messages : List Message} {m : Machine} {w : World} {commands : List TargetCommand} {packets : List Packet}
    {kept : List Composite} → Joint messages m w commands packets kept → AreWholeBeside messages w packets kept
beside (Joint.starts sound lives free none) = record {
  requests = subst (λ (rows : List Installed). AllByRecursion IsWholeRequest rows) (sym none) tt;
  came = tt;
  flying = tt;
  unread = tt;
}
beside (Joint.goes j is) = beside j
beside (Joint.queues j may) = beside j
beside (Joint.says {message = message} j allows aside) = one_came message (aside_whole message aside) (beside j)
beside (Joint.sends {command = command} j allows) = one_came (Message.sends command) tt (beside j)
beside (Joint.gets {messages} {command = command} {replied} j allows) = let are = beside j in record {
  requests = are.requests;
  came = all_push IsWholeMessage messages (Message.answers command replied) are.came tt;
  flying = are.flying.1;
  unread = are.unread;
}
beside (Joint.takes {messages} {composite = composite} {at} j allows) = let are = beside j in record {
  requests = are.requests;
  came = all_push IsWholeMessage messages (Message.comes at composite) are.came are.flying.0;
  flying = are.flying.1;
  unread = are.unread;
}
beside (Joint.keeps {messages} {kept = kept} {composite} {at} {body} j is allows) = let are = beside j in record {
  requests = are.requests;
  came = all_push IsWholeMessage messages (Message.keeps at body) are.came tt;
  flying = are.flying.1;
  unread = all_push IsWhole kept composite are.unread are.flying.0;
}
beside (Joint.reads {messages} {composite = composite} {at} {body} j is allows) = let are = beside j in record {
  requests = are.requests;
  came = all_push IsWholeMessage messages (Message.reads at body composite) are.came are.unread.0;
  flying = are.flying;
  unread = are.unread.1;
}
beside (Joint.loses j allows) = one_came Message.ends tt (beside j)
beside (Joint.serves {packets = packets} {replied = replied} command before after j serves) =
    let are = beside j in record {
      requests = served_whole serves are.requests;
      came = are.came;
      flying = all_push IsWholePacket packets (a_reply command replied) are.flying tt;
      unread = are.unread;
    }
beside (Joint.runs j runs) = let are = beside j in record {
  requests = subst (λ (held : Requested). AllByRecursion IsWholeRequest held.requests) (sym runs.requests) are.requests;
  came = are.came;
  flying = are.flying;
  unread = are.unread;
}
beside (Joint.emits {packets = packets} {composite = composite} j emits) =
    let are = beside j in let emitted = emitted_whole emits are.requests in record {
      requests = emitted.requests;
      came = are.came;
      flying = all_push IsWholePacket packets (some_events composite) are.flying emitted.whole;
      unread = are.unread;
    }
beside (Joint.dies j) = let are = beside j in record {
  requests = are.requests;
  came = are.came;
  flying = are.flying;
  unread = are.unread;
}

pub none_suspends_one : NoneSuspendsOne
none_suspends_one messages m w commands packets kept j = let are = beside j in record {
  came = are.came;
  flying = are.flying;
  unread = are.unread;
}
