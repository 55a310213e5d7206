-- A command is spelled alike with all sizes of ids that serve where it is sent.
use Rattle.std.proofs.Common.{◌≡◌, ℕ, Bool, true, false, not, List, [], ◌∷◌, Option, Some, None, refl}
use Rattle.std.proofs.Common.{sym, ap, subst, ◌∙◌}
use Rattle.std.proofs.Math.Bridge.{le_prop}
use Rattle.std.specs.List.{AllByRecursion as All}
use Rattle.jdwp_commands.specs.Commands.{spell_command}
use Rattle.jdwp_commands.specs.declared.question.Question.TheVariants as questions
use Rattle.jdwp_values.specs.Sizes.{IsSize}
use Rattle.jdwp_values.specs.declared.sizes.IdSizes.{IdSizes}
use Rattle.machine_model.specs.Ids.{Id, ids_given}
use Rattle.machine_model.specs.Plans.{question_of}
use Rattle.machine_model.specs.Replying.{SizesFor, any_sizes, sizes_of, sizes_read, wire}
use Rattle.machine_model.specs.Runs.{Allows, Message, Run}
use Rattle.machine_model.specs.State.{Machine, SizesRead, is_attached, is_some}
use Rattle.machine_model.proofs.PlanIds.{IsWanted, is_sizes}
use Rattle.machine_steps.proofs.IdLaws.{IsIdTest, always_kept}
use Rattle.machine_steps.proofs.RestLaws.{near_asks}
use Rattle.machine_steps.proofs.Standing.{IsKept, at_front, awaits_sizes, in_order, needs_sizes, queue_in}
use Rattle.machine_steps.proofs.StandingReplies.{sizes_is}
use Rattle.machine_steps.proofs.Stepping.{Loses, Moves, moved}
use Rattle.session_model.specs.Names.{a_question, an_effect, Clear, Deed, Dispose, Does, Exit, Part, Resume, Set, Suspend}
use Rattle.session_model.specs.Names.{TargetCommand, Writes}

-- Sizes that were read are one ----------------------------------------------------------------------------------------

one_size : {n : ℕ} (p q : IsSize n) → p ≡ q
one_size p q = ap (λ low. (low, p.1)) (le_prop p.0 q.0) ∙ ap (λ high. (q.0, high)) (le_prop p.1 q.1)

-- these are the sizes, whichever way they are shown to be such
abbrev Are : IdSizes → ℕ → ℕ → ℕ → ℕ → ℕ → Type 0
Are a f m o c r = (pf : IsSize f) (pm : IsSize m) (po : IsSize o) (pc : IsSize c) (pr : IsSize r) → a ≡ record {
  field = f;
  method = m;
  object = o;
  class = c;
  frame = r;
  field_is_size = pf;
  method_is_size = pm;
  object_is_size = po;
  class_is_size = pc;
  frame_is_size = pr;
}

are_own : (a : IdSizes) → Are a a.field a.method a.object a.class a.frame
are_own a pf pm po pc pr =
    ap (λ p. record a { field_is_size = p }) (one_size a.field_is_size pf)
    ∙ ap (λ p. record a { field_is_size = pf; method_is_size = p }) (one_size a.method_is_size pm)
    ∙ ap (λ p. record a { field_is_size = pf; method_is_size = pm; object_is_size = p })
    (one_size a.object_is_size po)
    ∙ ap (λ p. record a { field_is_size = pf; method_is_size = pm; object_is_size = po; class_is_size = p })
    (one_size a.class_is_size pc)
    ∙ ap (λ p. record a {
      field_is_size = pf;
      method_is_size = pm;
      object_is_size = po;
      class_is_size = pc;
      frame_is_size = p;
    }) (one_size a.frame_is_size pr)

same_used : (a b : IdSizes) → sizes_of a ≡ sizes_of b → a ≡ b
same_used a b same =
    subst (λ r. Are a b.field b.method b.object b.class r) (ap (λ (s : SizesRead). s.frame) same)
    (subst (λ c. Are a b.field b.method b.object c a.frame) (ap (λ (s : SizesRead). s.class) same)
    (subst (λ o. Are a b.field b.method o a.class a.frame) (ap (λ (s : SizesRead). s.object) same)
    (subst (λ m. Are a b.field m a.object a.class a.frame) (ap (λ (s : SizesRead). s.method) same)
    (subst (λ f. Are a f a.method a.object a.class a.frame) (ap (λ (s : SizesRead). s.field) same)
    (are_own a))))) b.field_is_size b.method_is_size b.object_is_size b.class_is_size b.frame_is_size

is_read : (sizes : Option SizesRead) (used : IdSizes) → SizesFor sizes used → is_some sizes ≡ true
    → sizes ≡ Some (sizes_of used)
is_read None used any_sizes is = cc
is_read (Some sizes) used sizes_read is = refl

pub one_read : (sizes : Option SizesRead) (a b : IdSizes) → SizesFor sizes a → SizesFor sizes b → is_some sizes ≡ true
    → a ≡ b
one_read sizes a b first second is =
    let both : Some (sizes_of a) ≡ Some (sizes_of b) =
    sym (is_read sizes a first is) ∙ is_read sizes b second is in
    let same : sizes_of a ≡ sizes_of b = cc in same_used a b same

-- Commands before the sizes are known ---------------------------------------------------------------------------------

-- such as may be sent before: they have no ids
abbrev pub is_early : TargetCommand → Bool
is_early (a_question question) = is_sizes question
is_early (an_effect (Does (Writes write))) = false
is_early (an_effect (Does deed)) = true
is_early (an_effect (Set wish)) = false
is_early (an_effect (Clear wish request)) = false

sizes_alike : (a b : IdSizes)
    → spell_command a (wire (a_question questions.IdSizes)) ≡ spell_command b (wire (a_question questions.IdSizes))
unfolding spell_command
sizes_alike a b = refl

early_alike : (command : TargetCommand) → is_early command ≡ true → (a b : IdSizes)
    → spell_command a (wire command) ≡ spell_command b (wire command)
unfolding spell_command
early_alike (a_question question) is a b =
    subst (λ question. spell_command a (wire (a_question question)) ≡ spell_command b (wire (a_question question)))
    (sym (sizes_is question is)) (sizes_alike a b)
early_alike (an_effect (Does Suspend)) is a b = refl
early_alike (an_effect (Does (Resume suspension))) is a b = refl
early_alike (an_effect (Does Dispose)) is a b = refl
early_alike (an_effect (Does Exit)) is a b = refl
early_alike (an_effect (Does (Writes write))) is a b = cc
early_alike (an_effect (Set wish)) is a b = cc
early_alike (an_effect (Clear wish request)) is a b = cc

abbrev pub Any : List Message → Id → Type 0
Any messages id = Unit {0}

all_any : (ids : List Id) → All (λ (id : Id). Unit {0}) ids
all_any [] = tt
all_any (id ∷ ids) = (tt, all_any ids)

pub any_id : IsIdTest Any
any_id = record {
  null = λ messages. tt;
  grows = λ messages message id h. tt;
  brings = λ messages m next message k moves near. all_any (ids_given message);
}

not_behind : (part : Part) (sized attached : Bool) (rest : List Part) → awaits_sizes part ≡ false → needs_sizes part ≡ true
    → sized ≡ false → in_order sized attached (part ∷ rest) ≡ true → ⊥
not_behind part sized true rest awaits needs none is =
    let no : in_order sized true (part ∷ rest) ≡ false = rw none refl in cc
not_behind part sized false rest awaits needs none is =
    let no : in_order sized false (part ∷ rest) ≡ false = rw (none, awaits, needs) refl in cc

-- nothing is written before
early_deed : (deed : Deed) (sized attached : Bool) (rest : List Part) → sized ≡ false
    → in_order sized attached (Part.Sends deed ∷ rest) ≡ true → is_early (an_effect (Does deed)) ≡ true
early_deed Suspend sized attached rest none is = refl
early_deed (Resume suspension) sized attached rest none is = refl
early_deed Dispose sized attached rest none is = refl
early_deed Exit sized attached rest none is = refl
early_deed (Writes write) sized attached rest none is =
    absurd (not_behind (Part.Sends (Writes write)) sized attached rest refl refl none is)

pub early_sent : {messages : List Message} {m next : Machine} (command : TargetCommand) (said : Option Message)
    → IsKept (Any messages) messages m → is_some m.state.sizes ≡ false → said ≡ Some (Message.sends command)
    → Moves m said next → is_early command ≡ true
early_sent {m = m} command said k none is (Moves.sends {rest = rest} {deed = deed} free at near) =
    let same : an_effect (Does deed) ≡ command = cc in
    ap is_early (sym same) ∙ early_deed deed (is_some m.state.sizes) (is_attached m.state.phase) rest none
    ((at_front k at).near near).order
early_sent {m = m} command said k none is (Moves.updates {rest = rest} free at due near) =
    absurd (not_behind Part.Updates (is_some m.state.sizes) (is_attached m.state.phase) rest refl refl none
    ((at_front k at).near near).order)
early_sent {messages} {m} command said k none is (Moves.asks {hand} {want} {wants} free room held are) =
    let same : a_question (question_of want) ≡ command = cc in
    let near = (near_asks m hand free held).0 in
    let queue = subst (λ wants. All (IsWanted (Any messages) (is_some m.state.sizes)) wants) (ap queue_in held ∙ are)
    (k.near near).wants in
    ap is_early (sym same) ∙ queue.0.first ∙ ap not none
early_sent command said k none is (Moves.loses late near Loses.by_end) = cc
early_sent command said k none is (Moves.loses late near (Loses.by_question held waits reply last)) = cc
early_sent command said k none is (Moves.loses late near (Loses.by_effect held flying reply last)) = cc
early_sent command said k none is _ = cc

-- whichever sizes serve, the command has one spelling
pub spelled_alike : {messages : List Message} {m next : Machine} {command : TargetCommand} → Run messages m
    → Allows m (Message.sends command) next → (a b : IdSizes) → SizesFor m.state.sizes a → SizesFor m.state.sizes b
    → spell_command a (wire command) ≡ spell_command b (wire command)
spelled_alike {m = m} {command} run allows a b first second = by_sized (is_some m.state.sizes) refl
  where
    by_sized : (sized : Bool) → is_some m.state.sizes ≡ sized
        → spell_command a (wire command) ≡ spell_command b (wire command)
    by_sized true is = ap (λ used. spell_command used (wire command)) (one_read m.state.sizes a b first second is)
    by_sized false is =
        early_alike command
        (early_sent command (Some (Message.sends command)) (always_kept any_id run) is refl (moved allows)) a b
