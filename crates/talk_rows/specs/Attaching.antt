-- What attaches to a target, and what leaves it.
use Rattle.std.specs.Prelude.{◌∷◌, Bool, List, [], ℕ}
use Rattle.machine_model.specs.declared.parts.Body.TheVariants.{Nothing}
use Rattle.machine_model.specs.declared.parts.Choice.TheVariants.{Leaves}
use Rattle.machine_model.specs.declared.parts.Event.TheVariants.{Initialized}
use Rattle.machine_model.specs.declared.parts.Finish.TheVariants.{Done}
use Rattle.machine_model.specs.declared.parts.Guard.TheVariants.{Handshake, IdSizes}
use Rattle.machine_model.specs.declared.parts.Note.TheVariants.{Roots}
use Rattle.machine_model.specs.declared.parts.Outcome.TheVariants.{Success}
use Rattle.machine_model.specs.declared.parts.Part.{Part}

abbrev pub attach_parts : List (List ℕ) → List Part
attach_parts roots =
    Part.Notes (Roots roots) ∷ Part.Awaits Handshake ∷ Part.Awaits IdSizes ∷ Part.Updates
    ∷ Part.Responds (Success Nothing) ∷ Part.Tells Initialized ∷ []

abbrev pub disconnect_parts : Bool → List Part
disconnect_parts exits = Part.Unfolds (Leaves exits) ∷ Part.Responds (Success Nothing) ∷ Part.Ends Done ∷ []
