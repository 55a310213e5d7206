-- What the target's packets do to a core: moves of the machine, and endings.
use Rattle.std.proofs.Common.{◌≡◌, ℕ, ◌<◌, ◌++◌, ◌∷◌, Bool, true, false, cond, List, [], length, None, Some, Ok, Err}
use Rattle.std.proofs.Common.{refl, sym, ap, subst, ◌≤◌, ◌||◌}
use Rattle.std.specs.Prelude.{IfErr, OnOk, Result}
use Rattle.jdwp_packets.specs.Packets.{Packet, command_packet}
use Rattle.jdwp_values.specs.declared.sizes.IdSizes.{IdSizes}
use Rattle.machine_model.specs.Due.{can_read}
use Rattle.machine_model.specs.Replying.{SizesFor, sizes_of}
use Rattle.machine_model.specs.Runs.{Allows, Message, Run, with_item}
use Rattle.machine_model.specs.State.{Machine, has_raw, is_gone, is_raw, is_some}
use Rattle.bridge_core.specs.Names.{Item, a_composite, a_raw}
use Rattle.bridge_core.specs.Calls.{AreRead, IsLike, RefusesPacket, TakesPacket}
use Rattle.bridge_core.specs.Cores.{CoreState, IsReady, session_in, with_machine}
use Rattle.target_bodies.specs.Hearing.{IsBadBody}
use Rattle.bridge_core.specs.Packets.{Hears, IsTakenIn, IsUntaken}
use Rattle.message_bodies.proofs.HearLaws.{is_composite_fault}
use Rattle.bridge_core.proofs.WindowLaws.{item_aligned}
use Rattle.session_model.specs.Faults.{IsTargetFault, RefusesComposite}
use Rattle.session_model.specs.Saying.{PacketSays, is_composite}
use Rattle.session_endings.specs.declared.ending.Ending.{Ending}
use Rattle.session_endings.specs.declared.ending.Ending.TheVariants.{BadTarget, Flood, NoMemory}
use Rattle.session_endings.specs.declared.ending.TargetFault.{TargetFault}
use Rattle.session_endings.specs.declared.ending.TargetFault.TheVariants.{BadCommand}

-- Composites ----------------------------------------------------------------------------------------------------------

-- no composite can be read where the sizes of ids aren't known, or the target is gone
unread_early : (m : Machine) (item : Item) → m.state.sizes ≡ None → can_read (with_item m item) ≡ false
unread_early m item early = rw early (by_gone (is_gone m.state.phase))
  where
    by_gone : (gone : Bool) → cond gone false false ≡ false
    by_gone true = refl
    by_gone false = refl

raw_same : (items : List Item) (item : Item) → is_raw item ≡ false
    → has_raw (items ++ item ∷ []) ≡ has_raw items
raw_same [] item is = rw is refl
raw_same (first ∷ items) item is = ap (λ (rest : Bool). is_raw first || rest) (raw_same items item is)

pub unread_more : (m : Machine) (item : Item) → is_raw item ≡ false → can_read m ≡ false
    → can_read (with_item m item) ≡ false
unread_more m item is none = rw (raw_same m.waiting item is) none

-- a composite is kept, before the sizes of ids are known
pub keeps_so : (old new : CoreState) (at id set number : ℕ) (body : List ℕ) → IsReady old
    → is_composite set number ≡ true → old.machine.state.sizes ≡ None
    → new ≡ with_machine old (with_item old.machine (a_raw at body))
    → Hears old at (command_packet id set number body) new
keeps_so old new at id set number body ready is early same =
    subst (λ (core : CoreState). Hears old at (command_packet id set number body) core) (sym same) (record {
      takes = record {
        message = Message.keeps at body;
        says = λ unheard there. subst (λ (offset : ℕ). PacketSays (session_in old unheard)
            (command_packet id set number body) (Message.keeps offset body) old.commands) there (PacketSays.keeps is);
        behind = with_item old.machine (a_raw at body);
        allows = allowed;
        reads = AreRead.none;
        same = refl;
      };
      sound = record {
        messages = ready.sound.messages ++ Message.keeps at body ∷ [];
        run = Run.moves ready.sound.run allowed;
        aligned = item_aligned old.commands.sent old.machine (a_raw at body) ready.sound.aligned;
        none_to_read = unread_early old.machine (a_raw at body) early;
      };
    })
  where
    allowed : Allows old.machine (Message.keeps at body) (with_item old.machine (a_raw at body))
    allowed = Allows.keeps (ap is_some early)

-- a composite is taken
pub takes_so : (old new : CoreState) (used : IdSizes) (at id set number : ℕ) (body : List ℕ) → IsReady old
    → is_composite set number ≡ true → old.machine.state.sizes ≡ Some (sizes_of used)
    → IsTakenIn old used at body new → Hears old at (command_packet id set number body) new
takes_so old new used at id set number body ready is sizes taken =
    subst (λ (core : CoreState). Hears old at (command_packet id set number body) core) (sym taken.same) (record {
      takes = record {
        message = Message.comes at taken.composite;
        says = λ unheard there. subst (λ (offset : ℕ). PacketSays (session_in old unheard)
            (command_packet id set number body) (Message.comes offset taken.composite) old.commands) there
            (PacketSays.comes is serves taken.reads.reads);
        behind = with_item old.machine (a_composite at taken.composite);
        allows = allowed;
        reads = AreRead.none;
        same = refl;
      };
      sound = record {
        messages = ready.sound.messages ++ Message.comes at taken.composite ∷ [];
        run = Run.moves ready.sound.run allowed;
        aligned = item_aligned old.commands.sent old.machine (a_composite at taken.composite) ready.sound.aligned;
        none_to_read = unread_more old.machine (a_composite at taken.composite) refl ready.sound.none_to_read;
      };
    })
  where
    serves : SizesFor old.machine.state.sizes used
    serves = subst (λ known. SizesFor known used) (sym sizes) SizesFor.sizes_read

    allowed : Allows old.machine (Message.comes at taken.composite)
        (with_item old.machine (a_composite at taken.composite))
    allowed = Allows.comes ready.sound.none_to_read (ap is_some sizes) (record {
      used = used;
      serves = serves;
      fits = taken.reads.fits;
    })

-- where nothing changed
is_like : (old new : CoreState) → new ≡ old → IsLike old new
is_like old new same = subst (λ (core : CoreState). IsLike old core) (sym same) (record { same = refl; next = refl })

-- a command that is no composite ends the session
pub refuses_command : (old new : CoreState) (at id set number : ℕ) (body : List ℕ) → is_composite set number ≡ false
    → new ≡ old → RefusesPacket old at (command_packet id set number body) new (BadTarget BadCommand at 0)
refuses_command old new at id set number body is same =
    RefusesPacket.faulty (λ unheard front. subst (λ (offset : ℕ). IsTargetFault (session_in old unheard) BadCommand
    offset 0) front.offset (IsTargetFault.bad_command front.front is)) (is_like old new same)

-- a composite that can't be read does
pub refuses_untaken : (old new : CoreState) (used : IdSizes) (at id set number : ℕ) (body : List ℕ) (ending : Ending)
    → is_composite set number ≡ true → old.machine.state.sizes ≡ Some (sizes_of used)
    → IsUntaken old used at body new ending → RefusesPacket old at (command_packet id set number body) new ending
refuses_untaken old new used at id set number body ending is sizes untaken = by_cause untaken
  where
    faulty : {fault : TargetFault} {offset : ℕ} → new ≡ old → RefusesComposite old.machine body at fault offset
        → RefusesPacket old at (command_packet id set number body) new (BadTarget fault offset 0)
    faulty {fault} {offset} same refused =
        RefusesPacket.faulty (λ unheard front. IsTargetFault.bad_composite front.front is
        (subst (λ (place : ℕ). RefusesComposite old.machine body place fault offset) (sym front.offset) refused))
        (is_like old new same)

    by_body : {ending : Ending} → new ≡ old → IsBadBody used body at ending
        → RefusesPacket old at (command_packet id set number body) new ending
    by_body same IsBadBody.no_memory = RefusesPacket.no_memory
    by_body same (IsBadBody.faulty {found} {fault} {place} reads is) =
        faulty same (RefusesComposite.bad_body used sizes reads (is_composite_fault found fault place is))

    by_cause : {ending : Ending} → IsUntaken old used at body new ending
        → RefusesPacket old at (command_packet id set number body) new ending
    by_cause IsUntaken.no_memory = RefusesPacket.no_memory
    by_cause (IsUntaken.bad_body bad same) = by_body same bad

-- what there is no memory for ends the session
pub refuses_memory : {A : Type 0} (result : Result A Ending) (old new : CoreState) (at : ℕ) (packet : Packet)
    → IfErr result (λ ending. ending ≡ NoMemory) → IfErr result (RefusesPacket old at packet new)
refuses_memory (Ok a) old new at packet h = tt
refuses_memory (Err ending) old new at packet h = subst (RefusesPacket old at packet new) (sym h) RefusesPacket.no_memory

-- as `refuses_untaken`, of a call's result
pub refuses_untaken_so : {A : Type 0} (result : Result A Ending) (old new : CoreState) (used : IdSizes)
    (at id set number : ℕ) (body : List ℕ) → is_composite set number ≡ true
    → old.machine.state.sizes ≡ Some (sizes_of used) → IfErr result (IsUntaken old used at body new)
    → IfErr result (RefusesPacket old at (command_packet id set number body) new)
refuses_untaken_so (Ok a) old new used at id set number body is sizes h = tt
refuses_untaken_so (Err ending) old new used at id set number body is sizes h =
    refuses_untaken old new used at id set number body ending is sizes h

-- Room ----------------------------------------------------------------------------------------------------------------

-- where there is room behind a packet, the core goes on
pub goes_on_ready : {A : Type 0} (result : Result A Ending) (old new : CoreState) (at : ℕ) (packet : Packet)
    → Hears old at packet new → OnOk result (length new.machine.waiting ≤ new.limit) → OnOk result (IsReady new)
goes_on_ready (Ok a) old new at packet hears room = record { sound = hears.sound; room = room }
goes_on_ready (Err ending) old new at packet hears room = tt

pub takes_on : {A : Type 0} (result : Result A Ending) (old new : CoreState) (at : ℕ) (packet : Packet)
    → Hears old at packet new → OnOk result (TakesPacket old at packet new)
takes_on (Ok a) old new at packet hears = hears.takes
takes_on (Err ending) old new at packet hears = tt

-- where there is none, it ends
pub floods_on : {A : Type 0} (result : Result A Ending) (old new : CoreState) (at : ℕ) (packet : Packet)
    → Hears old at packet new
    → IfErr result (λ ending. (ending ≡ Flood) × (new.limit < length new.machine.waiting))
    → IfErr result (RefusesPacket old at packet new)
floods_on (Ok a) old new at packet hears h = tt
floods_on (Err ending) old new at packet hears h =
    subst (RefusesPacket old at packet new) (sym h.0) (RefusesPacket.floods hears.takes h.1)
