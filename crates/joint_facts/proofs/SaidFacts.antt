-- Where each message is so in a world, what the messages say of classes is so.
use Rattle.std.proofs.Common.{◌≡◌, ℕ, Bool, true, false, cond, ◌||◌, List, [], ◌∷◌, ◌++◌, map, refl, subst, Option}
use Rattle.std.proofs.Common.{Some, None}
use Rattle.std.specs.List.{AllByRecursion, flat_map}
use Rattle.class_tables.specs.Facts.{Fact, Known, MethodOf, has_fields, has_lines, has_methods, has_source}
use Rattle.class_tables.specs.Facts.{has_variables, is_below, is_loaded, is_prepared, same_class, same_method}
use Rattle.class_tables.specs.Facts.{with_fact}
use Rattle.class_tables.specs.Lookups.{found_in}
use Rattle.class_tables.specs.Tables.{under}
use Rattle.class_tables.specs.declared.loaded.Loaded.{Loaded}
use Rattle.dap_messages.specs.declared.told.Event.{Event as EventTold}
use Rattle.dap_messages.specs.declared.told.Event.TheVariants as told_events
use Rattle.jdwp_commands.specs.declared.question.Question.TheVariants as questions
use Rattle.jdwp_events.specs.declared.event.Event.{Event}
use Rattle.jdwp_events.specs.declared.event.Event.TheVariants as events
use Rattle.jdwp_events.specs.declared.kind.Policy.{Policy}
use Rattle.jdwp_events.specs.declared.kind.Policy.TheVariants.{All, EventThread, NoThread}
use Rattle.jdwp_values.specs.declared.class.Field.{Field}
use Rattle.jdwp_values.specs.declared.class.LineTable.{LineTable}
use Rattle.jdwp_values.specs.declared.class.Method.{Method}
use Rattle.jdwp_values.specs.declared.class.Variable.{Variable}
use Rattle.jdwp_values.specs.declared.id.ClassId.{ClassId}
use Rattle.joint_facts.specs.Facts.{AreClassesOf, IsClassOf, above_of, fields_of, lines_of, methods_of, source_file}
use Rattle.joint_facts.specs.Facts.{variables_of}
use Rattle.joint_model.specs.Names.{Clear, Dispose, Does, Exit, Resume, Set, Suspend, TargetCommand, Writes}
use Rattle.joint_model.specs.Names.{a_question, an_effect}
use Rattle.machine_model.specs.Composites.{has_death, prepared_by, prepared_in, prepared_under}
use Rattle.machine_model.specs.Knowing.{AreSaid, View, class_said, come_view, event_view, facts_said, gone_view}
use Rattle.machine_model.specs.Knowing.{is_farewell, learnt_view, newly_said, replied_view, says, says_dead, sent_view}
use Rattle.machine_model.specs.Knowing.{was_said, with_facts}
use Rattle.machine_model.specs.Names.{Composite, Question, Replied, a_response, an_event}
use Rattle.machine_model.specs.Plans.{answer_in}
use Rattle.machine_model.specs.Runs.{Message}
use Rattle.machine_model.specs.State.{is_gone}
use Rattle.world_model.specs.MoveFacts as moves
use Rattle.world_model.specs.declared.world.World.{World}
use Rattle.world_model.proofs.HoldLaws.{all_push}
use Rattle.joint_facts.proofs.JointFacts.{IsCompositeSo, IsEventSo, IsMessageSo}
use Rattle.joint_facts.proofs.TableFacts.{AllSo, one_class, one_method, put_so, under_so}
use Rattle.joint_facts.proofs.WorldFacts.{IsSo}

-- Tables --------------------------------------------------------------------------------------------------------------

-- each entry of each table is so in the world
pub record AreTablesOf (w : World) (known : Known) : Type 0 where
  pub loaded : AllSo (IsClassOf w) known.loaded
  pub sources : AllSo (λ (class : ClassId) (found : Option (List ℕ)). found ≡ source_file w class) known.sources
  pub methods : AllSo (λ (class : ClassId) (found : List Method). found ≡ methods_of w class) known.methods
  pub lines : AllSo (λ (key : MethodOf) (found : Option LineTable). found ≡ lines_of w key.0 key.1) known.lines
  pub variables : AllSo (λ (key : MethodOf) (found : Option (List Variable)). found ≡ variables_of w key.0 key.1)
      known.variables
  pub fields : AllSo (λ (class : ClassId) (found : List Field). found ≡ fields_of w class) known.fields
  pub supers : AllSo (λ (class : ClassId) (found : ClassId). found ≡ above_of w class) known.supers

either : {X : Type 0} (a b : Bool) → (a || b) ≡ true → (a ≡ true → X) → (b ≡ true → X) → X
either true b is one other = one refl
either false b is one other = other is

-- a class that was known to be prepared is so
was_prepared : (w : World) (class : ClassId) (loaded : List (ClassId × Loaded)) → AllSo (IsClassOf w) loaded
    → is_prepared (under same_class class loaded) ≡ true → moves.is_prepared w class ≡ true
was_prepared w class loaded are is = by (under same_class class loaded) refl is where
  by : (found : Option Loaded) → under same_class class loaded ≡ found → is_prepared found ≡ true
      → moves.is_prepared w class ≡ true
  by None there is = absurd cc
  by (Some found) there is = (under_so (IsClassOf w) same_class one_class class loaded found are there).prepared is

-- a fact that is so is learnt
fact_so : (w : World) (fact : Fact) (known : Known) → IsSo w fact → AreTablesOf w known
    → AreTablesOf w (with_fact fact known)
fact_so w (is_loaded class tag signature prepared) known so are = record {
  loaded = put_so (IsClassOf w) same_class one_class class (record {
    tag = tag;
    signature = signature;
    prepared = prepared || is_prepared (under same_class class known.loaded);
  }) known.loaded (record {
    there = so.there;
    tag = so.tag;
    signature = so.signature;
    prepared = λ is. either prepared (is_prepared (under same_class class known.loaded)) is so.prepared
        (was_prepared w class known.loaded are.loaded);
  }) are.loaded;
  sources = are.sources;
  methods = are.methods;
  lines = are.lines;
  variables = are.variables;
  fields = are.fields;
  supers = are.supers;
}
fact_so w (has_source class source) known so are = record {
  loaded = are.loaded;
  sources = put_so (λ (class : ClassId) (found : Option (List ℕ)). found ≡ source_file w class) same_class one_class
      class source known.sources so are.sources;
  methods = are.methods;
  lines = are.lines;
  variables = are.variables;
  fields = are.fields;
  supers = are.supers;
}
fact_so w (has_methods class methods) known so are = record {
  loaded = are.loaded;
  sources = are.sources;
  methods = put_so (λ (class : ClassId) (found : List Method). found ≡ methods_of w class) same_class one_class class
      methods known.methods so are.methods;
  lines = are.lines;
  variables = are.variables;
  fields = are.fields;
  supers = are.supers;
}
fact_so w (has_lines class method lines) known so are = record {
  loaded = are.loaded;
  sources = are.sources;
  methods = are.methods;
  lines = put_so (λ (key : MethodOf) (found : Option LineTable). found ≡ lines_of w key.0 key.1) same_method one_method
      (class, method) lines known.lines so are.lines;
  variables = are.variables;
  fields = are.fields;
  supers = are.supers;
}
fact_so w (has_variables class method variables) known so are = record {
  loaded = are.loaded;
  sources = are.sources;
  methods = are.methods;
  lines = are.lines;
  variables = put_so (λ (key : MethodOf) (found : Option (List Variable)). found ≡ variables_of w key.0 key.1)
      same_method one_method (class, method) variables known.variables so are.variables;
  fields = are.fields;
  supers = are.supers;
}
fact_so w (has_fields class fields) known so are = record {
  loaded = are.loaded;
  sources = are.sources;
  methods = are.methods;
  lines = are.lines;
  variables = are.variables;
  fields = put_so (λ (class : ClassId) (found : List Field). found ≡ fields_of w class) same_class one_class class
      fields known.fields so are.fields;
  supers = are.supers;
}
fact_so w (is_below class above) known so are = record {
  loaded = are.loaded;
  sources = are.sources;
  methods = are.methods;
  lines = are.lines;
  variables = are.variables;
  fields = are.fields;
  supers = put_so (λ (class : ClassId) (found : ClassId). found ≡ above_of w class) same_class one_class class above
      known.supers so are.supers;
}

facts_so : (w : World) (facts : List Fact) (known : Known) → AllByRecursion (IsSo w) facts → AreTablesOf w known
    → AreTablesOf w (with_facts facts known)
facts_so w [] known so are = are
facts_so w (fact ∷ facts) known so are =
    facts_so w facts (with_fact fact known) so.1 (fact_so w fact known so.0 are)

-- what is found in tables that are so
pub tables_there : (w : World) (known : Known) → AreTablesOf w known → AreClassesOf w (found_in known)
tables_there w known are = record {
  loaded = λ class found is. under_so (IsClassOf w) same_class one_class class known.loaded found are.loaded is;
  source = λ class found is. under_so (λ (class : ClassId) (found : Option (List ℕ)). found ≡ source_file w class)
      same_class one_class class known.sources found are.sources is;
  methods = λ class found is. under_so (λ (class : ClassId) (found : List Method). found ≡ methods_of w class)
      same_class one_class class known.methods found are.methods is;
  lines = λ class method found is.
      under_so (λ (key : MethodOf) (found : Option LineTable). found ≡ lines_of w key.0 key.1) same_method one_method
      (class, method) known.lines found are.lines is;
  variables = λ class method found is.
      under_so (λ (key : MethodOf) (found : Option (List Variable)). found ≡ variables_of w key.0 key.1) same_method
      one_method (class, method) known.variables found are.variables is;
  fields = λ class found is. under_so (λ (class : ClassId) (found : List Field). found ≡ fields_of w class) same_class
      one_class class known.fields found are.fields is;
  above = λ class found is. under_so (λ (class : ClassId) (found : ClassId). found ≡ above_of w class) same_class
      one_class class known.supers found are.supers is;
}

-- Composites ----------------------------------------------------------------------------------------------------------

events_so : (w : World) (told : List Event) → AllByRecursion (IsEventSo w) told
    → AllByRecursion (IsSo w) (map class_said (flat_map prepared_by told))
events_so w [] are = tt
events_so w (events.ClassPrepare id thread tag class signature status ∷ told) are = (
  record {
    there = are.0.there;
    tag = are.0.tag;
    signature = are.0.signature;
    prepared = λ known. are.0.prepared refl;
  },
  events_so w told are.1,
)
events_so w (_ ∷ told) are = events_so w told are.1

-- the classes that a composite tells of are so
prepared_so : (w : World) (composite : Composite) → IsCompositeSo w composite
    → AllByRecursion (IsSo w) (map class_said (prepared_in composite))
prepared_so w composite are = by_death (has_death composite.events) where
  by_policy : (policy : Policy)
      → AllByRecursion (IsSo w) (map class_said (prepared_under policy (flat_map prepared_by composite.events)))
  by_policy NoThread = events_so w composite.events are
  by_policy EventThread = tt
  by_policy All = events_so w composite.events are

  by_death : (dies : Bool) → AllByRecursion (IsSo w)
      (map class_said (cond dies [] (prepared_under composite.policy (flat_map prepared_by composite.events))))
  by_death true = tt
  by_death false = by_policy composite.policy

-- What the messages say -----------------------------------------------------------------------------------------------

-- what is known of classes is so, and what the composites tell that wait for their turn
pub record IsViewOf (w : World) (view : View) : Type 0 where
  pub classes : AreTablesOf w view.classes
  pub composites : AllByRecursion (IsCompositeSo w) view.composites

gone_so : (w : World) (view : View) → IsViewOf w view → IsViewOf w (gone_view view)
gone_so w view is = record { classes = is.classes; composites = tt }

event_so : (w : World) (event : EventTold) (view : View) → IsViewOf w view → IsViewOf w (event_view event view)
event_so w told_events.Initialized view is = record { classes = is.classes; composites = is.composites }
event_so w (told_events.Breakpoint breakpoint) view is = record { classes = is.classes; composites = is.composites }
event_so w (told_events.Thread change) view is = is
event_so w (told_events.Stopped stop) view is = record { classes = is.classes; composites = is.composites }
event_so w (told_events.Output text) view is = is
event_so w told_events.Terminated view is = record { classes = is.classes; composites = tt }

sent_so : (w : World) (command : TargetCommand) (view : View) → IsViewOf w view → IsViewOf w (sent_view command view)
sent_so w (a_question question) view is = is
sent_so w (an_effect (Does Suspend)) view is = record { classes = is.classes; composites = is.composites }
sent_so w (an_effect (Does (Resume suspension))) view is =
    record { classes = is.classes; composites = is.composites }
sent_so w (an_effect (Does Dispose)) view is = is
sent_so w (an_effect (Does Exit)) view is = is
sent_so w (an_effect (Does (Writes write))) view is = is
sent_so w (an_effect (Set wish)) view is = is
sent_so w (an_effect (Clear wish request)) view is = is

newly_so : (w : World) (question : Question) (replied : Replied) (known : Known)
    → AllByRecursion (IsSo w) (facts_said question (answer_in replied))
    → AllByRecursion (IsSo w) (newly_said question (answer_in replied) known)
newly_so w question replied known are = by (was_said question known) where
  by : (said : Bool) → AllByRecursion (IsSo w) (cond said [] (facts_said question (answer_in replied)))
  by true = tt
  by false = are

learnt_so : (w : World) (question : Question) (replied : Replied) (view : View)
    → AllByRecursion (IsSo w) (facts_said question (answer_in replied)) → IsViewOf w view
    → IsViewOf w (learnt_view (a_question question) replied view)
learnt_so w questions.IdSizes replied view are is = record { classes = is.classes; composites = is.composites }
learnt_so w question replied view are is = record {
  classes = facts_so w (newly_said question (answer_in replied) view.classes) view.classes
      (newly_so w question replied view.classes are) is.classes;
  composites = is.composites;
}

replied_so : (w : World) (command : TargetCommand) (replied : Replied) (view : View)
    → IsMessageSo w (Message.answers command replied) → IsViewOf w view
    → IsViewOf w (says (Message.answers command replied) view)
replied_so w (a_question question) replied view so is = by (is_gone view.phase) (says_dead replied) refl where
  by : (gone dead : Bool) → says_dead replied ≡ dead
      → IsViewOf w (replied_view gone dead (a_question question) replied view)
  by true dead living = is
  by false true living = gone_so w view is
  by false false living = learnt_so w question replied view (so living) is
replied_so w (an_effect effect) replied view so is =
    by (is_gone view.phase) (cond (is_farewell (an_effect effect)) false (says_dead replied))
  where
    by : (gone dead : Bool) → IsViewOf w (replied_view gone dead (an_effect effect) replied view)
    by true dead = is
    by false true = gone_so w view is
    by false false = record { classes = is.classes; composites = is.composites }

come_so : (w : World) (gone : Bool) (composite : Composite) (view : View) → IsCompositeSo w composite
    → IsViewOf w view → IsViewOf w (come_view gone composite view)
come_so w true composite view so is = is
come_so w false composite view so is = record {
  classes = is.classes;
  composites = all_push (IsCompositeSo w) view.composites composite is.composites so;
}

says_so : (w : World) (message : Message) (view : View) → IsMessageSo w message → IsViewOf w view
    → IsViewOf w (says message view)
says_so w (Message.hears request) view so is = record { classes = is.classes; composites = is.composites }
says_so w (Message.tells (a_response response)) view so is =
    record { classes = is.classes; composites = is.composites }
says_so w (Message.tells (an_event event)) view so is = event_so w event view is
says_so w (Message.sends command) view so is = sent_so w command view is
says_so w Message.greets view so is = record { classes = is.classes; composites = is.composites }
says_so w Message.greeted view so is = record { classes = is.classes; composites = is.composites }
says_so w (Message.answers command replied) view so is = replied_so w command replied view so is
says_so w Message.ends view so is = gone_so w view is
says_so w (Message.comes at composite) view so is = come_so w (is_gone view.phase) composite view so is
says_so w (Message.keeps at body) view so is = is
says_so w (Message.reads at body composite) view so is = come_so w (is_gone view.phase) composite view so is

module _ {A : Type 0} (P : A → Type 0) where
  all_but_last : (some : List A) (last : A) → AllByRecursion P (some ++ last ∷ []) → AllByRecursion P some × P last
  all_but_last [] last are = (tt, are.0)
  all_but_last (a ∷ some) last are = let more = all_but_last some last are.1 in ((are.0, more.0), more.1)

pub said_so : (w : World) {messages : List Message} {view : View} → AreSaid messages view
    → AllByRecursion (IsMessageSo w) messages → IsViewOf w view
said_so w AreSaid.none are = record {
  classes = record {
    loaded = tt;
    sources = tt;
    methods = tt;
    lines = tt;
    variables = tt;
    fields = tt;
    supers = tt;
  };
  composites = tt;
}
said_so w (AreSaid.turns {view = view} composite others said attached waits) are =
    let before = said_so w said are in
    let waiting = subst (λ (some : List Composite). AllByRecursion (IsCompositeSo w) some) waits before.composites in
    record {
      classes = facts_so w (map class_said (prepared_in composite)) view.classes (prepared_so w composite waiting.0)
          before.classes;
      composites = waiting.1;
    }
said_so w (AreSaid.one_more {messages} {view} message may said) are =
    let both = all_but_last (IsMessageSo w) messages message are in
    says_so w message view both.1 (said_so w said both.0)
