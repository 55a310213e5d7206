-- A row that was read is read again from what is printed of it.
use Rattle.std.proofs.Common.{◌≡◌, List, [], ◌∷◌, Option, Some, None, option_map, option_and_then, codes}
use Rattle.std.proofs.Common.{refl, sym, subst, ap, ◌∙◌, ℕ}
use Rattle.std.proofs.lemmas.Option.{none-some, same_Some, option_and_then_some}
use Rattle.serde_json.specs.Data.{Data, string, array, Items, no_items, item}
use Rattle.serde_json.specs.Find.{as_array, as_str}
use Rattle.serde_json.specs.View.{items_of}
use Rattle.world_model.specs.declared.moves.Move.TheVariants as moves
use Rattle.script_rows.specs.declared.kinds.Kind.{Kind}
use Rattle.script_rows.specs.declared.kinds.Kind.TheVariants as kinds
use Rattle.script_rows.specs.declared.kinds.WorldKind.{WorldKind}
use Rattle.script_rows.specs.declared.kinds.WorldKind.TheVariants as world
use Rattle.script_rows.specs.declared.kinds.MoveKind.{MoveKind}
use Rattle.script_rows.specs.declared.kinds.MoveKind.TheVariants as move
use Rattle.script_rows.specs.declared.kinds.TurnKind.{TurnKind}
use Rattle.script_rows.specs.declared.kinds.TurnKind.TheVariants as turn
use Rattle.script_rows.specs.declared.rows.Row.{Row}
use Rattle.script_rows.specs.declared.rows.Row.TheVariants as rows
use Rattle.script_rows.specs.declared.script.Turn.TheVariants as turns
use Rattle.line_elements.specs.Values.{array_of}
use Rattle.line_elements.specs.Parts.{Part, version, side, Of, part_of, part_data, part_at, first_of, Holds, From}
use Rattle.line_elements.specs.Parts.{row_at, row_data}
use Rattle.script_rows.specs.Rows.{kind_of, kind_row, whole, row_in, row_of_items, row_of, as_row}
use Rattle.script_rows.specs.Rows.{sizes_made, limits_parts, limits_made}
use Rattle.script_rows.specs.Rows.{id, sizes_parts, class_parts, class_made, method_parts, method_made, variable_parts}
use Rattle.script_rows.specs.Rows.{variable_made, field_parts, field_made, object_parts, object_made, array_parts}
use Rattle.script_rows.specs.Rows.{array_made, string_parts, string_made, put_parts, put_made, thread_parts}
use Rattle.script_rows.specs.Rows.{thread_made, frame_parts, frame_made, begin_parts, begin_made, at_parts, at_made}
use Rattle.script_rows.specs.Rows.{call_parts, call_made, prepare_parts, throw_parts, throw_made, ask_parts, bytes_parts}
use Rattle.script_rows.specs.Rows.{serve_parts}
use Rattle.script_rows.specs.Printing.{data_of}
use Rattle.line_elements.proofs.AgainLaws.{Again, part_again}
use Rattle.line_elements.specs.declared.version.Version.{Version}
use Rattle.line_elements.specs.declared.version.Version.TheVariants.{First, Second}

-- ---- rows of parts

-- what is made of a row's values
abbrev made : (row : List Part) {A : Type 0} → From row A → Holds row → A
made [] make held = make
made (p ∷ row) make held = made row (make held.0) held.1

-- each part is read again from what is printed of it, values in the second version
abbrev AreAgain : (row : List Part) → Holds row → Type 0
AreAgain [] held = Unit {0}
AreAgain (p ∷ row) held = Again p held.0 × AreAgain row held.1

-- the same, where all are read as they were before
abbrev AreSame : (row : List Part) → Holds row → Type 0
AreSame [] held = Unit {0}
AreSame (p ∷ row) held = (part_of p (part_data p held.0) ≡ Some held.0) × AreSame row held.1

record IsMade (row : List Part) {A : Type 0} (make : From row A) (a : A) : Type 0 where
  held : Holds row
  is : made row make held ≡ a
  again : AreAgain row held

first_again : (p : Part) (items : Items) (x : Of p × Items) → part_at p items ≡ Some x → Again p x.0
unfolding part_at
first_again p items x e =
    option_and_then_some (λ y. option_map (λ v. (v, y.1)) (part_of p y.0)) (first_of items) x e
    (λ y _ found. inside y x (part_of p y.0) refl found)
  where
    inside : (y : Data × Items) (x : Of p × Items) (o : Option (Of p)) → part_of p y.0 ≡ o →
        option_map (λ v. (v, y.1)) o ≡ Some x → Again p x.0
    inside y x None found is = absurd (none-some x is)
    inside y x (Some v) found is =
        subst (λ (z : Of p × Items). Again p z.0) (same_Some (v, y.1) x is)
        (part_again p y.0 v found)

row_is_made : (row : List Part) {A : Type 0} (make : From row A) (items : Items) (x : A × Items) →
    row_at row make items ≡ Some x → IsMade row make x.0
row_is_made [] {A} make items x e =
    record { held = tt; is = ap (λ (y : A × Items). y.0) (same_Some {A = A × Items} (make, items) x e); again = tt }
row_is_made (p ∷ row) {A} make items x e =
    option_and_then_some (λ y. row_at row (make y.0) y.1) (part_at p items) x e
    (λ y found others.
    let more = row_is_made row (make y.0) y.1 x others in
    record { held = (y.0, more.held); is = more.is; again = (first_again p items y found, more.again) })

part_at-data : (p : Part) (v : Of p) (items : Items) → part_of p (part_data p v) ≡ Some v →
    part_at p (item (part_data p v) items) ≡ Some (v, items)
unfolding part_at
part_at-data p v items e = ap (option_map (λ (x : Of p). (x, items))) e

row_again : (row : List Part) {A : Type 0} (make : From row A) (held : Holds row) → AreSame row held →
    row_at row make (items_of (row_data row held)) ≡ Some (made row make held, no_items)
row_again [] make held again = refl
row_again (p ∷ row) {A} make held again =
    ap (option_and_then (λ y. row_at row (make y.0) y.1))
    (part_at-data p held.0 (items_of (row_data row held.1)) again.0)
    ∙ row_again row (make held.0) held.1 again.1

-- ---- lines

-- a line whose row is made of the parts behind its name
line_again : {A : Type 0} (v : Version) (kind : Kind) (name : List ℕ) (row : Version → List Part)
    (make : (w : Version) → From (row w) A) (wrap : A → Row) → kind_of name ≡ Some kind →
    ((items : Items) → kind_row v kind items ≡ as_row wrap (row_at (row v) (make v) items)) →
    ((items : Items) → kind_row Second kind items ≡ as_row wrap (row_at (row Second) (make Second) items)) →
    ((held : Holds (row Second)) →
    data_of (wrap (made (row Second) (make Second) held)) ≡ array_of (string name ∷ row_data (row Second) held)) →
    (later : Holds (row v) → Holds (row Second)) →
    ((held : Holds (row v)) → AreAgain (row v) held → AreSame (row Second) (later held)) →
    ((held : Holds (row v)) → made (row Second) (make Second) (later held) ≡ made (row v) (make v) held) →
    (items : Items) (r : Row) → row_in v kind items ≡ Some r → row_of Second (data_of r) ≡ Some r
unfolding row_in
line_again {A} v kind name row make wrap named reads reads_later shows later again_later made_later items r e =
    option_and_then_some (λ (x : Row × Items). whole x.0 x.1) (kind_row v kind items) r e
    (λ x found all. taken x (row_at (row v) (make v) items) refl (sym (reads items) ∙ found) all)
  where
    printed : (held : Holds (row Second)) → AreSame (row Second) held →
        row_of Second (data_of (wrap (made (row Second) (make Second) held))) ≡ Some (wrap (made (row Second) (make Second) held))
    printed held again =
        ap (row_of Second) (shows held)
        ∙ ap (option_and_then (λ k. row_in Second k (items_of (row_data (row Second) held)))) named
        ∙ ap (option_and_then (λ (x : Row × Items). whole x.0 x.1))
        (reads_later (items_of (row_data (row Second) held)) ∙ ap (as_row wrap) (row_again (row Second) (make Second) held again))

    ended : (a : Row) (left : Items) → whole a left ≡ Some r → a ≡ r
    ended a no_items all = same_Some a r all
    ended a (item d ds) all = absurd (none-some r all)

    taken : (x : Row × Items) (o : Option (A × Items)) → row_at (row v) (make v) items ≡ o → as_row wrap o ≡ Some x →
        whole x.0 x.1 ≡ Some r → row_of Second (data_of r) ≡ Some r
    taken x None found is all = absurd (none-some x is)
    taken x (Some y) found is all =
        let m = row_is_made (row v) (make v) items y found in
        let first : wrap y.0 ≡ x.0 =
        ap (λ (z : Row × Items). z.0) (same_Some {A = Row × Items} (wrap y.0, y.1) x is) in
        let same : wrap (made (row Second) (make Second) (later m.held)) ≡ r =
        ap wrap (made_later m.held ∙ m.is) ∙ first ∙ ended x.0 x.1 all in
        subst (λ (z : Row). row_of Second (data_of z) ≡ Some z) same
        (printed (later m.held) (again_later m.held m.again))

same_row : {A : Type 0} (read : Option (A × Items)) → read ≡ as_row (λ (r : A). r) read
same_row None = refl
same_row (Some x) = refl

no_limits : (items : Items) (r : Row) → row_in First (kinds.World world.Limits) items ≡ Some r → ⊥
unfolding row_in
no_limits items r e = none-some r e

limits_again : (v : Version) (items : Items) (r : Row) → row_in v (kinds.World world.Limits) items ≡ Some r →
    row_of Second (data_of r) ≡ Some r
unfolding kind_of
limits_again First = λ items r e. absurd (no_limits items r e)
limits_again Second =
    line_again Second (kinds.World world.Limits) (codes "limits") (λ w. limits_parts) (λ w. limits_made) (λ r. r)
    refl (λ items. same_row (row_at limits_parts limits_made items))
    (λ items. same_row (row_at limits_parts limits_made items)) (λ held. refl)
    (λ held. held) (λ held again. again) (λ held. refl)

world_again : (v : Version) (kind : WorldKind) (items : Items) (r : Row) → row_in v (kinds.World kind) items ≡ Some r →
    row_of Second (data_of r) ≡ Some r
unfolding kind_of
world_again v world.Script =
    line_again v (kinds.World world.Script) (codes "script") (λ w. version ∷ [])
    (λ w told. rows.Head told) (λ r. r)
    refl (λ items. same_row (row_at (version ∷ []) (λ told. rows.Head told) items))
    (λ items. same_row (row_at (version ∷ []) (λ told. rows.Head told) items)) (λ held. refl)
    (λ held. held) (λ held again. again) (λ held. refl)
world_again v world.Sizes =
    line_again v (kinds.World world.Sizes) (codes "sizes") (λ w. sizes_parts)
    (λ w. sizes_made) (λ r. r)
    refl (λ items. same_row (row_at sizes_parts sizes_made items))
    (λ items. same_row (row_at sizes_parts sizes_made items)) (λ held. refl) (λ held. held) (λ held again. again) (λ held. refl)
world_again v world.Limits = limits_again v
world_again v world.Class =
    line_again v (kinds.World world.Class) (codes "class") (λ w. class_parts)
    (λ w. class_made) rows.Class
    refl (λ items. refl) (λ items. refl) (λ held. refl) (λ held. held) (λ held again. again) (λ held. refl)
world_again v world.Method =
    line_again v (kinds.World world.Method) (codes "method") (λ w. method_parts)
    (λ w. method_made) rows.Method
    refl (λ items. refl) (λ items. refl) (λ held. refl) (λ held. held) (λ held again. again) (λ held. refl)
world_again v world.Variable =
    line_again v (kinds.World world.Variable) (codes "variable") (λ w. variable_parts)
    (λ w. variable_made) rows.Variable
    refl (λ items. refl) (λ items. refl) (λ held. refl) (λ held. held) (λ held again. again) (λ held. refl)
world_again v world.Field =
    line_again v (kinds.World world.Field) (codes "field") (λ w. field_parts)
    (λ w. field_made) rows.Field
    refl (λ items. refl) (λ items. refl) (λ held. refl) (λ held. held) (λ held again. again) (λ held. refl)
world_again v world.Object =
    line_again v (kinds.World world.Object) (codes "object") (λ w. object_parts)
    (λ w. object_made) rows.Object
    refl (λ items. refl) (λ items. refl) (λ held. refl) (λ held. held) (λ held again. again) (λ held. refl)
world_again v world.Array =
    line_again v (kinds.World world.Array) (codes "array") array_parts
    array_made rows.Array
    refl (λ items. refl) (λ items. refl) (λ held. refl) (λ held. held) (λ held again. again) (λ held. refl)
world_again v world.String =
    line_again v (kinds.World world.String) (codes "string") (λ w. string_parts)
    (λ w. string_made) rows.Text
    refl (λ items. refl) (λ items. refl) (λ held. refl) (λ held. held) (λ held again. again) (λ held. refl)
world_again v world.Put =
    line_again v (kinds.World world.Put) (codes "put") put_parts
    put_made rows.Put
    refl (λ items. refl) (λ items. refl) (λ held. refl) (λ held. held) (λ held again. again) (λ held. refl)
world_again v world.Thread =
    line_again v (kinds.World world.Thread) (codes "thread") (λ w. thread_parts)
    (λ w. thread_made) rows.Thread
    refl (λ items. refl) (λ items. refl) (λ held. refl) (λ held. held) (λ held again. again) (λ held. refl)
world_again v world.Frame =
    line_again v (kinds.World world.Frame) (codes "frame") frame_parts
    frame_made rows.Frame
    refl (λ items. refl) (λ items. refl) (λ held. refl) (λ held. held) (λ held again. again) (λ held. refl)
world_again v world.Begin =
    line_again v (kinds.World world.Begin) (codes "begin") (λ w. begin_parts)
    (λ w. begin_made) rows.Begin
    refl (λ items. refl) (λ items. refl) (λ held. refl) (λ held. held) (λ held again. again) (λ held. refl)
world_again v world.End =
    line_again v (kinds.World world.End) (codes "end") (λ w. [])
    (λ w. rows.End) (λ r. r)
    refl (λ items. refl) (λ items. refl) (λ held. refl) (λ held. held) (λ held again. again) (λ held. refl)

move_again : (v : Version) (kind : MoveKind) (items : Items) (r : Row) → row_in v (kinds.Move kind) items ≡ Some r →
    row_of Second (data_of r) ≡ Some r
unfolding kind_of
move_again v move.At =
    line_again v (kinds.Move move.At) (codes "at") at_parts
    at_made rows.Move
    refl (λ items. refl) (λ items. refl) (λ held. refl) (λ held. held) (λ held again. again) (λ held. refl)
move_again v move.Call =
    line_again v (kinds.Move move.Call) (codes "call") call_parts
    call_made rows.Move
    refl (λ items. refl) (λ items. refl) (λ held. refl) (λ held. held) (λ held again. again) (λ held. refl)
move_again v move.Return =
    line_again v (kinds.Move move.Return) (codes "return") (λ w. id ∷ [])
    (λ w thread. moves.Return (record { 0 = thread })) rows.Move
    refl (λ items. refl) (λ items. refl) (λ held. refl) (λ held. held) (λ held again. again) (λ held. refl)
move_again v move.Prepare =
    line_again v (kinds.Move move.Prepare) (codes "prepare") (λ w. prepare_parts)
    (λ w class thread. moves.Prepare (record { 0 = class }) (record { 0 = thread })) rows.Move
    refl (λ items. refl) (λ items. refl) (λ held. refl) (λ held. held) (λ held again. again) (λ held. refl)
move_again v move.Throw =
    line_again v (kinds.Move move.Throw) (codes "throw") (λ w. throw_parts)
    (λ w. throw_made) rows.Move
    refl (λ items. refl) (λ items. refl) (λ held. refl) (λ held. held) (λ held again. again) (λ held. refl)
move_again v move.Start =
    line_again v (kinds.Move move.Start) (codes "start") (λ w. thread_parts)
    (λ w thread name. moves.Start (record { 0 = thread }) name) rows.Move
    refl (λ items. refl) (λ items. refl) (λ held. refl) (λ held. held) (λ held again. again) (λ held. refl)
move_again v move.Die =
    line_again v (kinds.Move move.Die) (codes "die") (λ w. id ∷ [])
    (λ w thread. moves.Die (record { 0 = thread })) rows.Move
    refl (λ items. refl) (λ items. refl) (λ held. refl) (λ held. held) (λ held again. again) (λ held. refl)
move_again v move.Store =
    line_again v (kinds.Move move.Store) (codes "store") put_parts
    (λ w object field value. moves.Store (record { 0 = object }) (record { 0 = field }) value) rows.Move
    refl (λ items. refl) (λ items. refl) (λ held. refl) (λ held. held) (λ held again. again) (λ held. refl)
move_again v move.Death =
    line_again v (kinds.Move move.Death) (codes "death") (λ w. [])
    (λ w. moves.Death) rows.Move
    refl (λ items. refl) (λ items. refl) (λ held. refl) (λ held. held) (λ held again. again) (λ held. refl)

turn_again : (v : Version) (kind : TurnKind) (items : Items) (r : Row) → row_in v (kinds.Turn kind) items ≡ Some r →
    row_of Second (data_of r) ≡ Some r
unfolding kind_of
turn_again v turn.Ask =
    line_again v (kinds.Turn turn.Ask) (codes "ask") (λ w. ask_parts)
    (λ w command arguments. turns.Ask command arguments) rows.Turn
    refl (λ items. refl) (λ items. refl) (λ held. refl) (λ held. held) (λ held again. again) (λ held. refl)
turn_again v turn.Client =
    line_again v (kinds.Turn turn.Client) (codes "client") (λ w. bytes_parts)
    (λ w n. turns.Client n) rows.Turn
    refl (λ items. refl) (λ items. refl) (λ held. refl) (λ held. held) (λ held again. again) (λ held. refl)
turn_again v turn.Target =
    line_again v (kinds.Turn turn.Target) (codes "target") (λ w. bytes_parts)
    (λ w n. turns.Target n) rows.Turn
    refl (λ items. refl) (λ items. refl) (λ held. refl) (λ held. held) (λ held again. again) (λ held. refl)
turn_again v turn.Serve =
    line_again v (kinds.Turn turn.Serve) (codes "serve") (λ w. serve_parts)
    (λ w n. turns.Serve n) rows.Turn
    refl (λ items. refl) (λ items. refl) (λ held. refl) (λ held. held) (λ held again. again) (λ held. refl)
turn_again v turn.Move =
    line_again v (kinds.Turn turn.Move) (codes "move") (λ w. [])
    (λ w. turns.Move) rows.Turn
    refl (λ items. refl) (λ items. refl) (λ held. refl) (λ held. held) (λ held again. again) (λ held. refl)
turn_again v turn.Settle =
    line_again v (kinds.Turn turn.Settle) (codes "settle") (λ w. [])
    (λ w. turns.Settle) rows.Turn
    refl (λ items. refl) (λ items. refl) (λ held. refl) (λ held. held) (λ held again. again) (λ held. refl)
turn_again v turn.Deliver =
    line_again v (kinds.Turn turn.Deliver) (codes "deliver") (λ w. [])
    (λ w. turns.Deliver) rows.Turn
    refl (λ items. refl) (λ items. refl) (λ held. refl) (λ held. held) (λ held again. again) (λ held. refl)
turn_again v turn.Shut =
    line_again v (kinds.Turn turn.Shut) (codes "shut") (λ w. side ∷ [])
    (λ w s. turns.Shut s) rows.Turn
    refl (λ items. refl) (λ items. refl) (λ held. refl) (λ held. held) (λ held again. again) (λ held. refl)

kind_again : (v : Version) (kind : Kind) (items : Items) (r : Row) → row_in v kind items ≡ Some r →
    row_of Second (data_of r) ≡ Some r
kind_again v (kinds.World kind) = world_again v kind
kind_again v (kinds.Move kind) = move_again v kind
kind_again v (kinds.Turn kind) = turn_again v kind

items_again : (v : Version) (items : Items) (r : Row) → row_of_items v items ≡ Some r →
    row_of Second (data_of r) ≡ Some r
items_again v no_items r e = absurd (none-some r e)
items_again v (item name items) r e =
    option_and_then_some (λ kind. row_in v kind items) (option_and_then kind_of (as_str name)) r e
    (λ kind _ found. kind_again v kind items r found)

pub printed_again : (v : Version) (d : Data) (r : Row) → row_of v d ≡ Some r → row_of Second (data_of r) ≡ Some r
printed_again v d r e =
    option_and_then_some (row_of_items v) (as_array d) r e (λ items _ found. items_again v items r found)
