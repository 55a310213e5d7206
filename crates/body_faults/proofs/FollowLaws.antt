-- What is read of a body is what its layout says: both fail alike.
use Rattle.std.proofs.Common.{◌≡◌, ℕ, zero, suc, Bool, true, false, cond, eqb, List, [], ◌∷◌, length, Option}
use Rattle.std.proofs.Common.{Some, None}
use Rattle.std.proofs.Common.{Result, Ok, Err, refl, sym, ◌∙◌}
use Rattle.jdwp_values.specs.declared.fault.RowFault.{RowFault}
use Rattle.jdwp_values.specs.declared.fault.RowFault.TheVariants as faults
use Rattle.jdwp_values.specs.declared.limit.Limit.{Limit}
use Rattle.jdwp_values.specs.declared.tag.Tag.{Tag}
use Rattle.jdwp_values.specs.Classes.{method_row, field_row, line_row, variable_row}
use Rattle.jdwp_values.specs.Parts.{Part, byte, count, field, reference, thread, untagged, value}
use Rattle.jdwp_values.specs.Reading.{Place, offset, part_at}
use Rattle.jdwp_values.specs.Rows.{From, ◌>>=◌, in_row, row_at, times_at, list_at}
use Rattle.jdwp_values.specs.Tags.{byte_of_tag, is_reference}
use Rattle.jdwp_events.specs.declared.event.Event.TheVariants as events
use Rattle.jdwp_events.specs.declared.kind.EventKind.{EventKind}
use Rattle.jdwp_events.specs.declared.kind.EventKind.TheVariants as event_kinds
use Rattle.jdwp_events.specs.declared.modifier.Modifier.TheVariants as modifiers
use Rattle.jdwp_events.specs.declared.modifier.ModifierKind.{ModifierKind}
use Rattle.jdwp_events.specs.declared.modifier.ModifierKind.TheVariants as modifier_kinds
use Rattle.jdwp_events.specs.Events.{event_row, event_behind, event_of_kind, event_at}
use Rattle.jdwp_events.specs.Kinds.{kind_of_byte, policy_of_byte}
use Rattle.jdwp_events.specs.Modifiers.{modifier_of_byte, modifier_row, modifier_behind, modifier_of_kind, modifier_at}
use Rattle.jdwp_commands.specs.declared.answer.Answer.TheVariants as answers
use Rattle.jdwp_commands.specs.declared.kind.CommandKind.{CommandKind}
use Rattle.jdwp_commands.specs.declared.kind.CommandKind.TheVariants as commands
use Rattle.jdwp_commands.specs.declared.kind.EffectKind.{EffectKind}
use Rattle.jdwp_commands.specs.declared.kind.EffectKind.TheVariants as effect_kinds
use Rattle.jdwp_commands.specs.declared.kind.QuestionKind.{QuestionKind}
use Rattle.jdwp_commands.specs.declared.kind.QuestionKind.TheVariants as question_kinds
use Rattle.jdwp_commands.specs.Answers.{question_answer_row, effect_answer_row, line_table, question_answer_at}
use Rattle.jdwp_commands.specs.Answers.{effect_answer_at, answered_at}
use Rattle.jdwp_commands.specs.Items.{Listed, threads, field_ids, values, modifiers as a_modifier, methods}
use Rattle.jdwp_commands.specs.Items.{fields, lines}
use Rattle.jdwp_commands.specs.Items.{variables, class_statuses, loaded_classes, frames, slots, listed_at, Item, part}
use Rattle.jdwp_commands.specs.Items.{many, region, policy, event_kind, item_at, FromItems, items_at}
use Rattle.jdwp_commands.specs.Listed.{class_status_row, loaded_class_row, frame_row, slot_row}
use Rattle.jdwp_commands.specs.Regions.{region_tag_of, meant_at, meaning_at, value_behind, element_at, region_at}
use Rattle.body_faults.specs.Layouts.{Cause, bad_tag, bad_kind, trailing, Layout, ends, begins, refuses, row_then}
use Rattle.body_faults.specs.Layouts.{times_then, list_then, meant, byte_then, event_then, modifier_then, element_part}
use Rattle.body_faults.specs.Layouts.{element_then, region_then, listed_then, item_then, items_then, answer_row}
use Rattle.body_faults.proofs.CauseLaws.{cause_in}

-- why reading by a layout fails
pub data Trouble : Type 0 where
  memory : Trouble
  wrong : Cause → ℕ → Trouble

abbrev pub trouble_of : RowFault → Trouble
trouble_of faults.NoMemory = memory
trouble_of (faults.Part trouble) = wrong (cause_in trouble.fault) trouble.at
trouble_of (faults.BadKind at) = wrong bad_kind at

abbrev pub Checked : Type 0
Checked = Result (Unit {0}) Trouble

-- what was read is handed on
abbrev pub onto : {A : Type 0} → Result A RowFault → (A → Checked) → Checked
onto (Ok x) f = f x
onto (Err d) f = Err (trouble_of d)

-- reading by a layout, behind a part that began at an offset
abbrev pub layout_at : Layout → ℕ → Place → Checked
layout_at ends last place = cond (eqb (length place.rest) 0) (Ok tt) (Err (wrong trailing (offset place)))
layout_at (begins p behind) last place =
    onto (in_row (part_at p place)) (λ x. layout_at (behind x.0) (offset place) x.1)
layout_at (refuses cause) last place = Err (wrong cause last)

onto_then : {A B : Type 0} (r : Result A RowFault) (f : A → Result B RowFault) (g : B → Checked) (h : A → Checked)
    → ((x : A) → h x ≡ onto (f x) g) → onto r h ≡ onto (r >>= f) g
onto_then (Ok x) f g h same = same x
onto_then (Err d) f g h same = refl

onto_same : {A : Type 0} (r : Result A RowFault) (f g : A → Checked) → ((x : A) → f x ≡ g x) → onto r f ≡ onto r g
onto_same (Ok x) f g same = same x
onto_same (Err d) f g same = refl

-- where the part before began is the same to it
abbrev pub IsSteady : Layout → Type 0
IsSteady next = (a b : ℕ) (place : Place) → layout_at next a place ≡ layout_at next b place

abbrev pub rest_at : {A : Type 0} → Layout → A × Place → Checked
rest_at next x = layout_at next 0 x.1

-- what is read is one thing of a layout
abbrev pub Follows : {A : Type 0} → (Place → Result (A × Place) RowFault) → (Layout → Layout) → Type 0
Follows read one = (next : Layout) → IsSteady next → (last : ℕ) (place : Place)
    → layout_at (one next) last place ≡ onto (read place) (rest_at next)

steady_before : {A : Type 0} (read : Place → Result (A × Place) RowFault) (one : Layout → Layout) → Follows read one
    → (next : Layout) → IsSteady next → IsSteady (one next)
steady_before read one follows next steady a b place = follows next steady a place ∙ sym (follows next steady b place)

part_follows : (p : Part) → Follows (λ place. in_row (part_at p place)) (λ next. begins p (λ x. next))
part_follows p next steady last place =
    onto_same (in_row (part_at p place)) (λ x. layout_at next (offset place) x.1) (rest_at next)
    (λ x. steady (offset place) 0 x.1)

row_follows : (row : List Part) (A : Type 0) (make : From row A) → Follows (row_at row make) (row_then row)
row_follows [] A make next steady last place = steady last 0 place
row_follows (p ∷ row) A make next steady last place =
    onto_then (in_row (part_at p place)) (λ x. row_at row (make x.0) x.1) (rest_at next)
    (λ x. layout_at (row_then row next) (offset place) x.1)
    (λ x. row_follows row A (make x.0) next steady (offset place) x.1)

-- ---- lists

module _ {A : Type 0} (read : Place → Result (A × Place) RowFault) (one : Layout → Layout) (follows : Follows read one)
  where
    times_follow : (n : ℕ) → Follows (times_at n read) (times_then n one)
    unfolding times_at
    times_follow zero next steady last place = steady last 0 place
    times_follow (suc n) next steady last place =
        let more = times_then n one next in
        let others = times_follow n next steady in
        follows more (λ a b other. others a other ∙ sym (others b other)) last place
        ∙ onto_then (read place) (λ first. times_at n read first.1 >>= λ rest. Ok (first.0 ∷ rest.0, rest.1))
        (rest_at next) (rest_at more)
        (λ first. others 0 first.1
        ∙ onto_then (times_at n read first.1) (λ rest. Ok (first.0 ∷ rest.0, rest.1)) (rest_at next) (rest_at next)
        (λ rest. refl))

    pub list_follows : (limit : Limit) → Follows (list_at limit read) (list_then limit one)
    unfolding list_at
    list_follows limit next steady last place =
        onto_then (in_row (part_at (count limit) place)) (λ n. times_at n.0 read n.1) (rest_at next)
        (λ n. layout_at (times_then n.0 one next) (offset place) n.1)
        (λ n. times_follow n.0 next steady (offset place) n.1)

-- ---- a byte that means something

byte_follows : {A C : Type 0} (of_byte : ℕ → Option A) (cause : Cause) (behind : A → Layout)
    (read : Option A → Place → Place → Result C RowFault) (g : C → Checked)
    → ((x : A) (old new : Place) → layout_at (behind x) (offset old) new ≡ onto (read (Some x) old new) g)
    → ((old new : Place) → Err (wrong cause (offset old)) ≡ onto (read None old new) g) → (last : ℕ) (place : Place)
    → layout_at (byte_then of_byte cause behind) last place
    ≡ onto (in_row (part_at byte place) >>= λ b. read (of_byte b.0) place b.1) g
byte_follows {A} of_byte cause behind read g somes nones last place =
    let each : (o : Option A) (new : Place)
    → layout_at (meant o cause behind) (offset place) new ≡ onto (read o place new) g =
    elim [ Some x ↦ λ new. somes x place new | None ↦ λ new. nones place new ] in
    onto_then (in_row (part_at byte place)) (λ b. read (of_byte b.0) place b.1) g
    (λ b. layout_at (meant (of_byte b.0) cause behind) (offset place) b.1) (λ b. each (of_byte b.0) b.1)

meaning_follows : {A : Type 0} (of_byte : ℕ → Option A) (behind : A → Layout) (g : A × Place → Checked)
    → ((x : A) (old new : Place) → layout_at (behind x) (offset old) new ≡ g (x, new)) → (last : ℕ) (place : Place)
    → layout_at (byte_then of_byte bad_tag behind) last place ≡ onto (meaning_at of_byte place) g
meaning_follows of_byte behind g somes last place =
    byte_follows of_byte bad_tag behind meant_at g somes (λ old new. refl) last place

event_behind_follows : (kind : EventKind) → Follows (event_behind kind) (row_then (event_row kind))
event_behind_follows event_kinds.SingleStep = row_follows (event_row event_kinds.SingleStep) _ events.SingleStep
event_behind_follows event_kinds.Breakpoint = row_follows (event_row event_kinds.Breakpoint) _ events.Breakpoint
event_behind_follows event_kinds.Exception = row_follows (event_row event_kinds.Exception) _ events.Exception
event_behind_follows event_kinds.ThreadStart = row_follows (event_row event_kinds.ThreadStart) _ events.ThreadStart
event_behind_follows event_kinds.ThreadDeath = row_follows (event_row event_kinds.ThreadDeath) _ events.ThreadDeath
event_behind_follows event_kinds.ClassPrepare = row_follows (event_row event_kinds.ClassPrepare) _ events.ClassPrepare
event_behind_follows event_kinds.VMStart = row_follows (event_row event_kinds.VMStart) _ events.VMStart
event_behind_follows event_kinds.VMDeath = row_follows (event_row event_kinds.VMDeath) _ events.VMDeath

pub event_follows : Follows event_at event_then
unfolding event_at
event_follows next steady =
    byte_follows kind_of_byte bad_kind (λ kind. row_then (event_row kind) next)
    (λ o old new. event_of_kind o (offset old) new) (rest_at next)
    (λ kind old new. event_behind_follows kind next steady (offset old) new) (λ old new. refl)

modifier_behind_follows : (kind : ModifierKind) → Follows (modifier_behind kind) (row_then (modifier_row kind))
modifier_behind_follows modifier_kinds.Count = row_follows (modifier_row modifier_kinds.Count) _ modifiers.Count
modifier_behind_follows modifier_kinds.ThreadOnly =
    row_follows (modifier_row modifier_kinds.ThreadOnly) _ modifiers.ThreadOnly
modifier_behind_follows modifier_kinds.ClassOnly =
    row_follows (modifier_row modifier_kinds.ClassOnly) _ modifiers.ClassOnly
modifier_behind_follows modifier_kinds.ClassMatch =
    row_follows (modifier_row modifier_kinds.ClassMatch) _ modifiers.ClassMatch
modifier_behind_follows modifier_kinds.ClassExclude =
    row_follows (modifier_row modifier_kinds.ClassExclude) _ modifiers.ClassExclude
modifier_behind_follows modifier_kinds.LocationOnly =
    row_follows (modifier_row modifier_kinds.LocationOnly) _ modifiers.LocationOnly
modifier_behind_follows modifier_kinds.ExceptionOnly =
    row_follows (modifier_row modifier_kinds.ExceptionOnly) _ modifiers.ExceptionOnly
modifier_behind_follows modifier_kinds.Step = row_follows (modifier_row modifier_kinds.Step) _ modifiers.Step

modifier_follows : Follows modifier_at modifier_then
unfolding modifier_at
modifier_follows next steady =
    byte_follows modifier_of_byte bad_tag (λ kind. row_then (modifier_row kind) next)
    (λ o old new. modifier_of_kind o (offset old) new) (rest_at next)
    (λ kind old new. modifier_behind_follows kind next steady (offset old) new) (λ old new. refl)

-- ---- regions

behind_follows : (b : Bool) (tag : Tag)
    → Follows (value_behind b tag) (λ next. begins (element_part b tag) (λ v. next))
behind_follows true tag = part_follows reference
behind_follows false tag = part_follows (untagged (byte_of_tag tag))

region_follows : (limit : Limit) → Follows (region_at limit) (region_then limit)
unfolding region_at
region_follows limit next steady last place =
    meaning_follows region_tag_of (λ tag. list_then limit (element_then tag) next)
    (λ tag. onto (list_at limit (element_at tag.0) tag.1) (rest_at next))
    (λ tag old new. list_follows (element_at tag) (element_then tag) (behind_follows (is_reference tag) tag) limit next
    steady (offset old) new) last place
    ∙ onto_then (meaning_at region_tag_of place)
    (λ tag. list_at limit (element_at tag.0) tag.1 >>= λ values.
    Ok (record { tag = tag.0; values = values.0 }, values.1)) (rest_at next)
    (λ tag. onto (list_at limit (element_at tag.0) tag.1) (rest_at next))
    (λ tag. onto_then (list_at limit (element_at tag.0) tag.1)
    (λ values. Ok (record { tag = tag.0; values = values.0 }, values.1)) (rest_at next) (rest_at next) (λ values. refl))

-- ---- items

listed_follows : (l : Listed) → Follows (listed_at l) (listed_then l)
listed_follows threads = row_follows (thread ∷ []) _ (λ id. id)
listed_follows field_ids = row_follows (field ∷ []) _ (λ id. id)
listed_follows values = row_follows (value ∷ []) _ (λ v. v)
listed_follows a_modifier = modifier_follows
listed_follows methods = row_follows method_row.parts _ method_row.make
listed_follows fields = row_follows field_row.parts _ field_row.make
listed_follows lines = row_follows line_row.parts _ line_row.make
listed_follows variables = row_follows variable_row.parts _ variable_row.make
listed_follows class_statuses = row_follows class_status_row.parts _ class_status_row.make
listed_follows loaded_classes = row_follows loaded_class_row.parts _ loaded_class_row.make
listed_follows frames = row_follows frame_row.parts _ frame_row.make
listed_follows slots = row_follows slot_row.parts _ slot_row.make

item_follows : (i : Item) → Follows (item_at i) (item_then i)
item_follows (part p) = part_follows p
item_follows (many limit l) = list_follows (listed_at l) (listed_then l) (listed_follows l) limit
item_follows (region limit) = region_follows limit
item_follows event_kind = λ next steady.
    meaning_follows kind_of_byte (λ kind. next) (rest_at next) (λ kind old new. steady (offset old) 0 new)
item_follows policy = λ next steady.
    meaning_follows policy_of_byte (λ policy. next) (rest_at next) (λ policy old new. steady (offset old) 0 new)

steady_items : (row : List Item) (next : Layout) → IsSteady next → IsSteady (items_then row next)
steady_items [] next steady = steady
steady_items (i ∷ row) next steady =
    steady_before (item_at i) (item_then i) (item_follows i) (items_then row next) (steady_items row next steady)

items_follow : (row : List Item) (A : Type 0) (make : FromItems row A) → Follows (items_at row make) (items_then row)
items_follow [] A make next steady last place = steady last 0 place
items_follow (i ∷ row) A make next steady last place =
    item_follows i (items_then row next) (steady_items row next steady) last place
    ∙ onto_then (item_at i place) (λ x. items_at row (make x.0) x.1) (rest_at next) (rest_at (items_then row next))
    (λ x. items_follow row A (make x.0) next steady 0 x.1)

-- ---- answers

question_follows : (kind : QuestionKind) (limit : Limit)
    → Follows (question_answer_at kind limit) (items_then (question_answer_row kind limit))
question_follows question_kinds.ClassesBySignature limit =
    items_follow (question_answer_row question_kinds.ClassesBySignature limit) _ answers.ClassesBySignature
question_follows question_kinds.AllClasses limit =
    items_follow (question_answer_row question_kinds.AllClasses limit) _ answers.AllClasses
question_follows question_kinds.AllThreads limit =
    items_follow (question_answer_row question_kinds.AllThreads limit) _ answers.AllThreads
question_follows question_kinds.IdSizes limit =
    items_follow (question_answer_row question_kinds.IdSizes limit) _ answers.IdSizes
question_follows question_kinds.Signature limit =
    items_follow (question_answer_row question_kinds.Signature limit) _ answers.Signature
question_follows question_kinds.Fields limit =
    items_follow (question_answer_row question_kinds.Fields limit) _ answers.Fields
question_follows question_kinds.Methods limit =
    items_follow (question_answer_row question_kinds.Methods limit) _ answers.Methods
question_follows question_kinds.SourceFile limit =
    items_follow (question_answer_row question_kinds.SourceFile limit) _ answers.SourceFile
question_follows question_kinds.Superclass limit =
    items_follow (question_answer_row question_kinds.Superclass limit) _ answers.Superclass
question_follows question_kinds.LineTable limit =
    items_follow (question_answer_row question_kinds.LineTable limit) _ line_table
question_follows question_kinds.VariableTable limit =
    items_follow (question_answer_row question_kinds.VariableTable limit) _ answers.VariableTable
question_follows question_kinds.ObjectType limit =
    items_follow (question_answer_row question_kinds.ObjectType limit) _ answers.ObjectType
question_follows question_kinds.GetFields limit =
    items_follow (question_answer_row question_kinds.GetFields limit) _ answers.GetFields
question_follows question_kinds.StringValue limit =
    items_follow (question_answer_row question_kinds.StringValue limit) _ answers.StringValue
question_follows question_kinds.ThreadName limit =
    items_follow (question_answer_row question_kinds.ThreadName limit) _ answers.ThreadName
question_follows question_kinds.Frames limit =
    items_follow (question_answer_row question_kinds.Frames limit) _ answers.Frames
question_follows question_kinds.FrameCount limit =
    items_follow (question_answer_row question_kinds.FrameCount limit) _ answers.FrameCount
question_follows question_kinds.ArrayLength limit =
    items_follow (question_answer_row question_kinds.ArrayLength limit) _ answers.ArrayLength
question_follows question_kinds.GetElements limit =
    items_follow (question_answer_row question_kinds.GetElements limit) _ answers.GetElements
question_follows question_kinds.GetSlots limit =
    items_follow (question_answer_row question_kinds.GetSlots limit) _ answers.GetSlots
question_follows question_kinds.ThisObject limit =
    items_follow (question_answer_row question_kinds.ThisObject limit) _ answers.ThisObject

effect_follows : (kind : EffectKind) → Follows (effect_answer_at kind) (items_then (effect_answer_row kind))
effect_follows effect_kinds.Dispose = items_follow (effect_answer_row effect_kinds.Dispose) _ answers.Dispose
effect_follows effect_kinds.Suspend = items_follow (effect_answer_row effect_kinds.Suspend) _ answers.Suspend
effect_follows effect_kinds.Resume = items_follow (effect_answer_row effect_kinds.Resume) _ answers.Resume
effect_follows effect_kinds.Exit = items_follow (effect_answer_row effect_kinds.Exit) _ answers.Exit
effect_follows effect_kinds.SetField = items_follow (effect_answer_row effect_kinds.SetField) _ answers.SetField
effect_follows effect_kinds.SetElement = items_follow (effect_answer_row effect_kinds.SetElement) _ answers.SetElement
effect_follows effect_kinds.Set = items_follow (effect_answer_row effect_kinds.Set) _ answers.Set
effect_follows effect_kinds.Clear = items_follow (effect_answer_row effect_kinds.Clear) _ answers.Clear
effect_follows effect_kinds.SetSlot = items_follow (effect_answer_row effect_kinds.SetSlot) _ answers.SetSlot

pub answer_follows : (kind : CommandKind) (limit : Limit)
    → Follows (answered_at kind limit) (items_then (answer_row kind limit))
answer_follows (commands.Question kind) limit = question_follows kind limit
answer_follows (commands.Effect kind) limit = effect_follows kind
