-- The machine reads the composites that were kept, and what it comes to is a run; or the first that is left ends the
-- session.
use Rattle.std.proofs.Common.{◌≡◌, ℕ, ◌||◌, ◌++◌, ◌∷◌, Bool, true, false, List, [], Option, Some, Ok}
use Rattle.std.proofs.Common.{Err, refl, sym, ap, subst, ◌∙◌, OnOk}
use Rattle.std.specs.Prelude.{IfErr, Result}
use Rattle.jdwp_values.specs.declared.sizes.IdSizes.{IdSizes}
use Rattle.machine_model.specs.Replying.{SizesFor, sizes_of}
use Rattle.machine_model.specs.Runs.{Allows, Message, Run}
use Rattle.machine_model.specs.State.{Machine, SizesRead, has_raw, is_gone, is_raw}
use Rattle.machine_model.specs.declared.items.Item.{Item}
use Rattle.machine_model.specs.declared.items.Item.TheVariants.{Raw as a_raw}
use Rattle.message_bodies.specs.Hearing.{AreReadOff, IsFirstKept, MayBeLeft}
use Rattle.target_bodies.specs.Hearing.{IsBadBody}
use Rattle.bridge_core.specs.Moving.{RefusesKept}
use Rattle.message_bodies.proofs.HearLaws.{is_composite_fault}
use Rattle.bridge_core.specs.Calls.{AreRead}
use Rattle.session_model.specs.Faults.{RefusesComposite}
use Rattle.session_endings.specs.declared.ending.Ending.{Ending}
use Rattle.session_endings.specs.declared.ending.Ending.TheVariants.{BadTarget}
use Rattle.session_endings.specs.declared.ending.TargetFault.{TargetFault}

-- Composites that can be read ------------------------------------------------------------------------------------------

or_true : (raw : Bool) → (raw || true) ≡ true
or_true true = refl
or_true false = refl

raw_within : (before : List Item) (at : ℕ) (body : List ℕ) (after : List Item)
    → has_raw (before ++ a_raw at body ∷ after) ≡ true
raw_within [] at body after = refl
raw_within (item ∷ before) at body after =
    ap (λ (rest : Bool). is_raw item || rest) (raw_within before at body after) ∙ or_true (is_raw item)

-- the machine reads those that were read off
pub reads_all : (m : Machine) (used : IdSizes) (left : List Item) → is_gone m.state.phase ≡ false
    → m.state.sizes ≡ Some (sizes_of used) → AreReadOff used m.waiting left
    → AreRead m (record m { waiting = left })
reads_all m used left near sizes AreReadOff.none = AreRead.none
reads_all m used left near sizes (AreReadOff.one_more middle read first) =
    AreRead.one_more (record m { waiting = middle }) (reads_all m used middle near sizes read) (record {
      before = first.before;
      after = first.after;
      at = first.at;
      body = first.body;
      composite = first.composite;
      used = used;
      serves = serves;
      reads = first.reads.reads;
      can = rw (near, sizes, first.were) (raw_within first.before first.at first.body first.after);
      were = first.were;
      is_first = first.is_first;
      taken = record { used = used; serves = serves; fits = first.reads.fits };
      are = ap (λ (waiting : List Item). record m { waiting = waiting }) first.are;
    })
  where
    serves : SizesFor m.state.sizes used
    serves = subst (λ (known : Option SizesRead). SizesFor known used) (sym sizes) SizesFor.sizes_read

-- the first that is left ends the session
refuses_first : (m next : Machine) (used : IdSizes) (ending : Ending) → AreRead m next
    → is_gone next.state.phase ≡ false → next.state.sizes ≡ Some (sizes_of used)
    → IsFirstKept used next.waiting ending → RefusesKept m next ending
refuses_first m next used ending read near sizes first = by_body first.is_bad
  where
    fault_by : {fault : TargetFault} {offset : ℕ} → RefusesComposite next first.body first.at fault offset
        → RefusesKept m next (BadTarget fault offset 0)
    fault_by refused = RefusesKept.faulty read (record {
      before = first.before;
      after = first.after;
      at = first.at;
      body = first.body;
      can_be_read = rw (near, sizes, first.waiting_are) (raw_within first.before first.at first.body first.after);
      waiting = first.waiting_are;
      is_first = first.is_first;
      refused = refused;
    })

    by_body : {ending : Ending} → IsBadBody used first.body first.at ending → RefusesKept m next ending
    by_body IsBadBody.no_memory = RefusesKept.no_memory
    by_body (IsBadBody.faulty {found} {fault} {place} reads is) =
        fault_by (RefusesComposite.bad_body used sizes reads (is_composite_fault found fault place is))

pub refuses_kept : (m : Machine) (used : IdSizes) (left : List Item) (ending : Ending) → is_gone m.state.phase ≡ false
    → m.state.sizes ≡ Some (sizes_of used) → MayBeLeft used m.waiting left ending
    → RefusesKept m (record m { waiting = left }) ending
refuses_kept m used left ending near sizes MayBeLeft.no_memory = RefusesKept.no_memory
refuses_kept m used left ending near sizes (MayBeLeft.left_bad read first) =
    refuses_first m (record m { waiting = left }) used ending (reads_all m used left near sizes read) near sizes first

pub refuses_kept_so : {A : Type 0} (result : Result A Ending) (m : Machine) (used : IdSizes) (left : List Item)
    → is_gone m.state.phase ≡ false → m.state.sizes ≡ Some (sizes_of used)
    → IfErr result (MayBeLeft used m.waiting left) → IfErr result (RefusesKept m (record m { waiting = left }))
refuses_kept_so (Ok a) m used left near sizes h = tt
refuses_kept_so (Err ending) m used left near sizes h = refuses_kept m used left ending near sizes h

-- or all are read
pub reads_kept_so : {A E : Type 0} (result : Result A E) (m : Machine) (used : IdSizes) (left : List Item)
    → is_gone m.state.phase ≡ false → m.state.sizes ≡ Some (sizes_of used)
    → OnOk result (AreReadOff used m.waiting left) → OnOk result (AreRead m (record m { waiting = left }))
reads_kept_so (Ok a) m used left near sizes h = reads_all m used left near sizes h
reads_kept_so (Err ending) m used left near sizes h = tt

-- Runs ----------------------------------------------------------------------------------------------------------------

-- a machine that is that of a run
pub record RunTo (m : Machine) : Type 0 where
  pub messages : List Message
  pub run : Run messages m

pub read_run : {m next : Machine} → RunTo m → AreRead m next → RunTo next
read_run r AreRead.none = r
read_run r (AreRead.one_more middle are one) =
    let earlier = read_run r are in
    subst RunTo (sym one.are) (record {
      messages = earlier.messages ++ Message.reads one.at one.body one.composite ∷ [];
      run = Run.moves earlier.run (Allows.reads one.before one.after one.can one.were one.is_first one.taken);
    })
