-- A write to a frame's variable asks for the receiver only where it is named.
use Rattle.std.proofs.Common.{◌≡◌, ◌++◌, ℕ, zero, suc, Bool, true, false, cond, List, [], None, Some, Option, refl, ap}
use Rattle.std.specs.Prelude.{codes}
use Rattle.jdwp_commands.specs.declared.question.Question.TheVariants as questions
use Rattle.jdwp_values.specs.declared.value.Value.{Value}
use Rattle.machine_laws.proofs.BindingPlans.{AllWants, asks, chains, makes, plan_lacks}
use Rattle.machine_laws.specs.ReceiverQuestions.{NamesOthers, SparesReceivers, spares_receiver}
use Rattle.machine_model.specs.Children.{Child, is_known, listed_variables, object_named, of_this, variables_plan, visible_at, visible_plan}
use Rattle.machine_model.specs.Facts.{signature_in}
use Rattle.machine_model.specs.Frames.{signature_plan}
use Rattle.machine_model.specs.Plans.{Plan, gives, question_of}
use Rattle.machine_model.specs.Values.{Declared, by_id, class_in, class_plan, declared_plan, element_of, element_plan}
use Rattle.machine_model.specs.Values.{is_signature, type_plan}
use Rattle.machine_model.specs.Writing.{Writing, child_named, child_written, slot_store, sought_in, value_for, write_with}
use Rattle.machine_model.specs.Writing.{is_this, local_written}
use Rattle.machine_steps.specs.Names.{Want}
use Rattle.stop_refs.specs.declared.thing.FrameThing.{FrameThing}

abbrev is_other : Want → Bool
is_other want = spares_receiver (question_of want)

visible_spares : (frame : FrameThing) → AllWants is_other (visible_plan frame)
visible_spares frame = makes is_other (visible_at frame.at.index) (variables_plan frame.at.class frame.at.method)
    (asks is_other listed_variables (Want.Fact (questions.VariableTable frame.at.class frame.at.method)) refl)

type_spares : (id : ℕ) → AllWants is_other (type_plan id)
type_spares id = chains is_other (class_plan id) signature_plan
    (asks is_other class_in (Want.Must (questions.ObjectType (record { 0 = id }))) refl)
    (λ class. asks is_other signature_in (Want.Fact (questions.Signature class)) refl)

declared_spares : (declared : Declared) → AllWants is_other (declared_plan declared)
unfolding AllWants
declared_spares (is_signature signature) = tt
declared_spares (element_of zero) = tt
declared_spares (element_of (suc id)) = makes is_other _ (type_plan (suc id)) (type_spares (suc id))

child_spares : (w : Writing) (frame : FrameThing) (child : Option Child)
    → AllWants is_other (child_written w (slot_store frame) child)
unfolding AllWants
child_spares w frame None = tt
child_spares w frame (Some child) = makes is_other
    (λ declared. write_with w (slot_store frame child.place) declared (value_for declared w.text))
    (declared_plan child.declared) (declared_spares child.declared)

sought_spares : (frame : FrameThing) (this : Bool) → this ≡ false → AllWants is_other (sought_in frame this)
sought_spares frame false is = visible_spares frame
sought_spares frame true is = absurd cc

pub spares : SparesReceivers
spares sight w frame name is = plan_lacks is_other sight (local_written w frame name)
    (chains is_other (sought_in frame (is_this name))
    (λ children. child_written w (slot_store frame) (child_named name children))
    (sought_spares frame (is_this name) is) (λ children. child_spares w frame (child_named name children)))

-- the receiver's name isn't the one that is sought
beside_this : (name : List ℕ) (value : Value) (id : ℕ) (children : List Child) → is_this name ≡ false
    → child_named name (of_this value id ++ children) ≡ child_named name children
beside_this name value zero children is = refl
beside_this name value (suc id) children is = ap (λ found. cond found (Some this) (child_named name children)) is
  where
    this : Child
    this = record { name = codes "this"; declared = is_signature []; place = is_known value }

pub others : NamesOthers
others name value children is = beside_this name value (object_named value) children is
