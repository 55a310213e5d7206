-- The text that is added line by line is the text of the rows.
use Rattle.std.proofs.Common.{◌≡◌, ℕ, Some, List, [], ◌∷◌, ◌++◌, map, refl, sym, ap, ◌∙◌, append_assoc, append-nil}
use Rattle.std.specs.List.{flat_map}
use Rattle.line_elements.specs.declared.version.Version.TheVariants.{Second}
use Rattle.script_rows.specs.declared.rows.Row.{Row}
use Rattle.script_rows.specs.declared.rows.Row.TheVariants as rows
use Rattle.script_rows.specs.declared.script.Script.{Script}
use Rattle.world_model.specs.declared.world.World.{World}
use Rattle.printed_scripts.specs.Texts.{row_text, size_numbers, begin_rows, world_parts, together, script_text}

texts-append : (xs ys : List Row) → flat_map row_text (xs ++ ys) ≡ flat_map row_text xs ++ flat_map row_text ys
texts-append [] ys = refl
texts-append (row ∷ xs) ys =
    ap (λ (rest : List ℕ). row_text row ++ rest) (texts-append xs ys)
    ∙ sym (append_assoc (row_text row) (flat_map row_text xs) (flat_map row_text ys))

texts-map : {A : Type 0} (kind : A → Row) (xs : List A) →
    flat_map (λ x. row_text (kind x)) xs ≡ flat_map row_text (map kind xs)
texts-map kind [] = refl
texts-map kind (x ∷ xs) = ap (λ (rest : List ℕ). row_text (kind x) ++ rest) (texts-map kind xs)

-- behind rows stand others
some_added : (old new : List ℕ) (some rest : List Row) → new ≡ old ++ flat_map row_text some →
    new ++ flat_map row_text rest ≡ old ++ flat_map row_text (some ++ rest)
some_added old new some rest e =
    ap (λ (text : List ℕ). text ++ flat_map row_text rest) e
    ∙ append_assoc old (flat_map row_text some) (flat_map row_text rest)
    ∙ ap (λ (text : List ℕ). old ++ text) (sym (texts-append some rest))

one_added : (old new : List ℕ) (row : Row) (rest : List Row) → new ≡ old ++ row_text row →
    new ++ flat_map row_text rest ≡ old ++ flat_map row_text (row ∷ rest)
one_added old new row rest e =
    some_added old new (row ∷ []) rest (e ∙ ap (λ (text : List ℕ). old ++ text) (sym (append-nil (row_text row))))

kind_added : {A : Type 0} (old new : List ℕ) (kind : A → Row) (xs : List A) (rest : List Row) →
    new ≡ old ++ flat_map (λ x. row_text (kind x)) xs →
    new ++ flat_map row_text rest ≡ old ++ flat_map row_text (map kind xs ++ rest)
kind_added old new kind xs rest e =
    some_added old new (map kind xs) rest (e ∙ ap (λ (text : List ℕ). old ++ text) (texts-map kind xs))

-- all rows of the world
pub world_added : (w : World) (start : List ℕ) (a b c d e f g h i j : List ℕ) →
    a ≡ start ++ flat_map (λ x. row_text (rows.Class x)) w.classes →
    b ≡ a ++ flat_map (λ x. row_text (rows.Method x)) w.methods →
    c ≡ b ++ flat_map (λ x. row_text (rows.Variable x)) w.variables →
    d ≡ c ++ flat_map (λ x. row_text (rows.Field x)) w.fields →
    e ≡ d ++ flat_map (λ x. row_text (rows.Object x)) w.objects →
    f ≡ e ++ flat_map (λ x. row_text (rows.Array x)) w.arrays →
    g ≡ f ++ flat_map (λ x. row_text (rows.Text x)) w.strings →
    h ≡ g ++ flat_map (λ x. row_text (rows.Put x)) w.puts →
    i ≡ h ++ flat_map (λ x. row_text (rows.Thread x)) w.threads →
    j ≡ i ++ flat_map (λ x. row_text (rows.Frame x)) w.frames →
    j ≡ start ++ flat_map row_text (together (world_parts w))
world_added w start a b c d e f g h i j p q r s t u v x y z =
    let frames = map rows.Frame w.frames ++ [] in
    let threads = map rows.Thread w.threads ++ frames in
    let puts = map rows.Put w.puts ++ threads in
    let strings = map rows.Text w.strings ++ puts in
    let arrays = map rows.Array w.arrays ++ strings in
    let objects = map rows.Object w.objects ++ arrays in
    let fields = map rows.Field w.fields ++ objects in
    let variables = map rows.Variable w.variables ++ fields in
    let methods = map rows.Method w.methods ++ variables in
    sym (append-nil j)
    ∙ kind_added i j rows.Frame w.frames [] z
    ∙ kind_added h i rows.Thread w.threads frames y
    ∙ kind_added g h rows.Put w.puts threads x
    ∙ kind_added f g rows.Text w.strings puts v
    ∙ kind_added e f rows.Array w.arrays strings u
    ∙ kind_added d e rows.Object w.objects arrays t
    ∙ kind_added c d rows.Field w.fields objects s
    ∙ kind_added b c rows.Variable w.variables fields r
    ∙ kind_added a b rows.Method w.methods variables q
    ∙ kind_added start a rows.Class w.classes methods p

together-append : (front back : List (List Row)) (last : List Row) →
    together front ++ (together back ++ last) ≡ together (front ++ back) ++ last
together-append [] back last = refl
together-append (part ∷ front) back last =
    append_assoc part (together front) (together back ++ last)
    ∙ ap (λ (rest : List Row). part ++ rest) (together-append front back last)
    ∙ sym (append_assoc part (together (front ++ back)) last)

three-append : (a b c last : List Row) → a ++ (b ++ (c ++ last)) ≡ (a ++ (b ++ (c ++ []))) ++ last
three-append a b c last = simp (append_assoc, append-nil) refl

-- a whole script
pub script_added : (s : Script) (start a b l c d e f g : List ℕ) → start ≡ [] →
    a ≡ start ++ row_text (rows.Head (Some Second)) →
    b ≡ a ++ row_text (rows.Sizes (size_numbers s.world.sizes)) →
    l ≡ b ++ row_text (rows.Limits s.turns s.quiet s.waiting) →
    c ≡ l ++ flat_map row_text (together (world_parts s.world)) →
    d ≡ c ++ flat_map row_text (begin_rows s.begin) →
    e ≡ d ++ flat_map (λ x. row_text (rows.Move x)) s.program →
    f ≡ e ++ flat_map (λ x. row_text (rows.Turn x)) s.schedule →
    g ≡ f ++ row_text rows.End →
    g ≡ script_text s
script_added s start a b l c d e f g none p q k r t u v x =
    let end = rows.End ∷ [] in
    let turns = map rows.Turn s.schedule ++ end in
    let moves = map rows.Move s.program ++ turns in
    let begin = begin_rows s.begin ++ moves in
    let whole = together (world_parts s.world) ++ begin in
    let sizes = rows.Sizes (size_numbers s.world.sizes) in
    let limits = rows.Limits s.turns s.quiet s.waiting in
    sym (append-nil g)
    ∙ one_added f g rows.End [] x
    ∙ kind_added e f rows.Turn s.schedule end v
    ∙ kind_added d e rows.Move s.program turns u
    ∙ some_added c d (begin_rows s.begin) moves t
    ∙ some_added l c (together (world_parts s.world)) begin r
    ∙ one_added b l limits whole k
    ∙ one_added a b sizes (limits ∷ whole) q
    ∙ one_added start a (rows.Head (Some Second)) (sizes ∷ limits ∷ whole) p
    ∙ ap (λ (text : List ℕ). text ++ flat_map row_text (rows.Head (Some Second) ∷ sizes ∷ limits ∷ whole)) none
    ∙ ap (λ (rest : List Row). flat_map row_text (rows.Head (Some Second) ∷ sizes ∷ limits ∷ rest))
    (ap (λ (rest : List Row). together (world_parts s.world) ++ rest)
    (three-append (begin_rows s.begin) (map rows.Move s.program) (map rows.Turn s.schedule) end)
    ∙ together-append (world_parts s.world)
    (begin_rows s.begin ∷ map rows.Move s.program ∷ map rows.Turn s.schedule ∷ []) end)
