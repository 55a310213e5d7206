-- What look-ups come to, in the words of the code.
use Rattle.std.specs.Prelude.{◌∷◌, List, [], Option, None, Some}
use Rattle.class_tables.specs.Lookups.{found_in}
use Rattle.jdwp_commands.specs.declared.question.Question.{Question}
use Rattle.jdwp_commands.specs.declared.question.Question.TheVariants as questions
use Rattle.machine_model.specs.Lookups.{named_by}
use Rattle.machine_model.specs.declared.parts.Finding.{Finding}
use Rattle.machine_model.specs.declared.parts.Finding.TheVariants.{Classes as classes_found}
use Rattle.machine_model.specs.declared.parts.NamedThread.{NamedThread}
use Rattle.jdwp_commands.specs.declared.asked.Replied.{Replied}
use Rattle.machine_model.specs.declared.acts.Sent.{Sent}
use Rattle.jdwp_values.specs.declared.id.ThreadId.{ThreadId}
use Rattle.machine_model.specs.declared.acts.Want.{Want}
use Rattle.machine_model.specs.Plans as needs
use Rattle.look_ups.specs.Asking.{reply_in}
use Rattle.machine_model.specs.Plans.{Found, Sight, answer_in, found_from, must_by}
use Rattle.machine_model.specs.State.{State}
use Rattle.talk_look_ups.specs.declared.need.Need.{Need}
use Rattle.talk_look_ups.specs.declared.need.Need.TheVariants.{Has, Fails, Lacks}

-- what an item sees, that asked these
abbrev pub sight_in : State → List Sent → Sight
sight_in state asked = record { classes = found_in state.classes; asked = asked }

-- what a look-up comes to
abbrev pub need_of : Need → needs.Need Finding
need_of (Has finding) = needs.has finding
need_of (Fails place code) = needs.fails (record { place = place; code = code })
need_of (Lacks first others) = needs.lacks first others.items

abbrev pub name_question : ThreadId → Question
name_question thread = questions.ThreadName thread

-- a thread with the name that was replied; one whose name was refused is left out
abbrev pub named_thread : ThreadId → Option Replied → List NamedThread
named_thread thread None = []
named_thread thread (Some replied) = named_by thread (answer_in replied)

abbrev pub unless_replied : Option Replied → Want → List Want
unless_replied None want = want ∷ []
unless_replied (Some replied) want = []

-- the reply to the question for a thread's name
abbrev pub name_reply : List Sent → ThreadId → Option Replied
name_reply asked thread = reply_in (found_from 0 asked (name_question thread))

-- the name of a thread, where it has no reply
abbrev pub lacking_name : List Sent → ThreadId → List Want
lacking_name asked thread = unless_replied (name_reply asked thread) (Want.May (name_question thread))

-- the thread with its name, where it has one
abbrev pub name_known : List Sent → ThreadId → List NamedThread
name_known asked thread = named_thread thread (name_reply asked thread)

-- what is found, or these are lacking
abbrev pub lacks_or : {A : Type 0} → List Want → A → needs.Need A
lacks_or [] found = needs.has found
lacks_or (first ∷ others) found = needs.lacks first others

-- all classes are listed beside what is lacking of those that are known, and none is found before
abbrev pub listing_by : Option Found → List Want → needs.Need Finding
listing_by None wants = needs.lacks (Want.Must questions.AllClasses) wants
listing_by (Some found) wants =
    needs.after (must_by found.place found.replied) (λ heard. lacks_or wants (classes_found []))

-- what is lacking, or else what is found
abbrev pub need_or : Option Need → Finding → needs.Need Finding
need_or None found = needs.has found
need_or (Some need) found = need_of need
