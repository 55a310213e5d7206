-- What a composite does when its turn comes (JDWP, Event command set, Composite).
use Rattle.std.specs.Prelude.{ℕ, ◌∷◌, ◌||◌, Bool, true, false, cond, fold, List, []}
use Rattle.std.specs.List.{flat_map}
use Rattle.class_tables.specs.Facts.{Known}
use Rattle.jdwp_events.specs.declared.event.Event.{Event as ATargetEvent}
use Rattle.jdwp_events.specs.declared.event.Event.TheVariants as happened
use Rattle.jdwp_events.specs.declared.kind.Policy.{Policy}
use Rattle.jdwp_events.specs.declared.kind.Policy.TheVariants.{NoThread, EventThread, All}
use Rattle.machine_model.specs.Classes.{with_listed}
use Rattle.machine_model.specs.Names.{Attached, Composite, Fresh, Gone, Item, Judges, LoadedClass, News, OneThread}
use Rattle.machine_model.specs.Names.{Part, Phase, TellsNews, Terminated, a_composite, a_raw, a_request, class_facts}
use Rattle.machine_model.specs.Names.{target_end, thread_changed}

-- Threads -------------------------------------------------------------------------------------------------------------

-- a thread that has started or ended is told (DAP specification, Events, Thread)
abbrev pub change_told : ATargetEvent → List News
change_told (happened.ThreadStart request thread) = thread_changed true thread ∷ []
change_told (happened.ThreadDeath request thread) = thread_changed false thread ∷ []
change_told _ = []

abbrev pub changes_in : Item → List News
changes_in (a_request request) = []
changes_in (a_composite at composite) = flat_map change_told composite.events
changes_in (a_raw at body) = []
changes_in target_end = []

-- Classes that were prepared ------------------------------------------------------------------------------------------

-- the class, as a list of all classes has it
abbrev pub prepared_by : ATargetEvent → List LoadedClass
prepared_by (happened.ClassPrepare request thread tag class signature status) =
    record { tag = tag; class = class; signature = signature; status = status } ∷ []
prepared_by _ = []

-- one that suspends a single thread is never served, and tells of none
abbrev pub prepared_under : Policy → List LoadedClass → List LoadedClass
prepared_under NoThread classes = classes
prepared_under EventThread classes = []
prepared_under All classes = classes

-- the target's end (JDWP, Event command set, Composite, VMDeath)
abbrev pub is_death : ATargetEvent → Bool
is_death (happened.VMDeath request) = true
is_death _ = false

abbrev pub has_death : List ATargetEvent → Bool
has_death [] = false
has_death (event ∷ events) = is_death event || has_death events

-- beside the target's end nothing is learnt
abbrev pub prepared_in : Composite → List LoadedClass
prepared_in composite =
    cond (has_death composite.events) [] (prepared_under composite.policy (flat_map prepared_by composite.events))

-- they are learnt, where the session is attached
abbrev pub learnt_in : Phase → Composite → Known → Known
learnt_in Fresh composite known = known
learnt_in Attached composite known = fold with_listed known (prepared_in composite)
learnt_in Gone composite known = known

-- what an item tells of classes when its turn comes
abbrev pub learnt_by : Phase → Item → Known → Known
learnt_by phase (a_request request) known = known
learnt_by phase (a_composite at composite) known = learnt_in phase composite known
learnt_by phase (a_raw at body) known = known
learnt_by phase target_end known = known

-- The row -------------------------------------------------------------------------------------------------------------

-- Classes are asked for what has to be known of them, and what is wished in them is set. The client is told of the
-- breakpoints that are verified by it, of those with an id below this one, and then of threads.
abbrev pub binding_parts : ℕ → List Part → List Part
binding_parts below behind =
    Part.Looks class_facts ∷ Part.Updates ∷ Part.Unfolds (TellsNews below) ∷ behind

-- By its suspend policy: once all that is wished in the classes stands, the breakpoints that threads came to are judged,
-- and it is decided what becomes of the suspension of the whole target; one of a single thread was never asked for, and
-- ends the session (JDWP, Constants, SuspendPolicy).
abbrev pub composite_row : Policy → ℕ → ℕ → List Part
composite_row NoThread at below = binding_parts below []
composite_row EventThread at below = Part.Ends (OneThread at) ∷ []
composite_row All at below = binding_parts below (Part.Unfolds Judges ∷ [])

-- the target's end is told, and nothing else of its composite (DAP specification, Events, Terminated)
abbrev pub dying_row : Policy → ℕ → List Part
dying_row NoThread at = Part.Tells Terminated ∷ []
dying_row EventThread at = Part.Ends (OneThread at) ∷ []
dying_row All at = Part.Tells Terminated ∷ []

abbrev pub events_row : Bool → Policy → ℕ → ℕ → List Part
events_row true policy at below = dying_row policy at
events_row false policy at below = composite_row policy at below

-- where the target is gone it does nothing
abbrev pub composite_parts : Phase → Bool → Policy → ℕ → ℕ → List Part
composite_parts Fresh dies policy at below = []
composite_parts Attached dies policy at below = events_row dies policy at below
composite_parts Gone dies policy at below = []
