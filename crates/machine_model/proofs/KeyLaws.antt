-- Questions with the same key are one question.
use Rattle.std.proofs.Common.{◌≡◌, ℕ, zero, suc, ℤ, pos, negsuc, Bool, true, false, List, [], ◌∷◌, ◌++◌, map, drop}
use Rattle.std.proofs.Common.{flat_map, refl, sym, ap, ◌∙◌}
use Rattle.std.proofs.lemmas.Bool.{false≢true}
use Rattle.std.proofs.lemmas.Slice.Eq.{bytes_eq-Decides}
use Rattle.machine_model.specs.Keys.{same_question, question_key, signed_key, slot_key}
use Rattle.jdwp_commands.specs.declared.listed.Slot.{Slot}
use Rattle.jdwp_commands.specs.declared.question.Question.{Question}
use Rattle.jdwp_commands.specs.declared.question.Question.TheVariants as questions
use Rattle.jdwp_values.specs.declared.id.FieldId.{FieldId}

-- the first number of a list, the second, and the third
abbrev first : List ℕ → ℕ
first [] = 0
first (n ∷ others) = n

abbrev second : List ℕ → ℕ
second key = first (drop 1 key)

abbrev third : List ℕ → ℕ
third key = first (drop 2 key)

-- what a key of a number with a sign is of, and two of them, a slot's, and those of slots
abbrev signed_at : ℕ → ℕ → ℤ
signed_at zero n = pos n
signed_at (suc sign) n = negsuc n

abbrev range_at : List ℕ → ℤ × ℤ
range_at key = (signed_at (first key) (second key), signed_at (third key) (first (drop 3 key)))

abbrev slots_at : List ℕ → List Slot
slots_at [] = []
slots_at (tag ∷ []) = []
slots_at (tag ∷ sign ∷ []) = []
slots_at (tag ∷ sign ∷ n ∷ others) = record { slot = signed_at sign n; tag = tag } ∷ slots_at others

ranges : (start len : ℤ) → range_at (signed_key start ++ signed_key len) ≡ (start, len)
ranges (pos m) (pos n) = refl
ranges (pos m) (negsuc n) = refl
ranges (negsuc m) (pos n) = refl
ranges (negsuc m) (negsuc n) = refl

one_slot : (tag : ℕ) (n : ℤ) (rest : List ℕ)
    → slots_at ((tag ∷ signed_key n) ++ rest) ≡ record { slot = n; tag = tag } ∷ slots_at rest
one_slot tag (pos n) rest = refl
one_slot tag (negsuc n) rest = refl

slots : (s : List Slot) → slots_at (flat_map slot_key s) ≡ s
slots [] = refl
slots (slot ∷ others) =
    one_slot slot.tag slot.slot (flat_map slot_key others) ∙ ap (λ rest. slot ∷ rest) (slots others)

fields : (f : List FieldId) → map (λ n. record { 0 = n }) (map (λ (field : FieldId). field.0) f) ≡ f
fields [] = refl
fields (field ∷ others) = ap (λ rest. field ∷ rest) (fields others)

pub is_one : (a b : Question) → same_question a b ≡ true → a ≡ b
is_one a b h = by_key a b h ((bytes_eq-Decides (question_key a) (question_key b)).0 h)
  where
    by_key : (a b : Question) → same_question a b ≡ true → question_key a ≡ question_key b → a ≡ b
    by_key (questions.ClassesBySignature x) (questions.ClassesBySignature y) h e =
        ap (λ key. questions.ClassesBySignature (drop 1 key)) e
    by_key questions.AllClasses questions.AllClasses h e = refl
    by_key questions.AllThreads questions.AllThreads h e = refl
    by_key questions.IdSizes questions.IdSizes h e = refl
    by_key (questions.Signature x) (questions.Signature y) h e =
        ap (λ key. questions.Signature (record { 0 = second key })) e
    by_key (questions.Fields x) (questions.Fields y) h e = ap (λ key. questions.Fields (record { 0 = second key })) e
    by_key (questions.Methods x) (questions.Methods y) h e = ap (λ key. questions.Methods (record { 0 = second key })) e
    by_key (questions.SourceFile x) (questions.SourceFile y) h e =
        ap (λ key. questions.SourceFile (record { 0 = second key })) e
    by_key (questions.Superclass x) (questions.Superclass y) h e =
        ap (λ key. questions.Superclass (record { 0 = second key })) e
    by_key (questions.LineTable x m) (questions.LineTable y n) h e =
        ap (λ key. questions.LineTable (record { 0 = second key }) (record { 0 = third key })) e
    by_key (questions.VariableTable x m) (questions.VariableTable y n) h e =
        ap (λ key. questions.VariableTable (record { 0 = second key }) (record { 0 = third key })) e
    by_key (questions.ObjectType x) (questions.ObjectType y) h e =
        ap (λ key. questions.ObjectType (record { 0 = second key })) e
    by_key (questions.GetFields x f) (questions.GetFields y g) h e =
        ap (λ f. questions.GetFields x f) (sym (fields f))
        ∙ ap (λ key. questions.GetFields (record { 0 = second key }) (map (λ n. record { 0 = n }) (drop 2 key))) e
        ∙ ap (λ f. questions.GetFields y f) (fields g)
    by_key (questions.StringValue x) (questions.StringValue y) h e =
        ap (λ key. questions.StringValue (record { 0 = second key })) e
    by_key (questions.ThreadName x) (questions.ThreadName y) h e =
        ap (λ key. questions.ThreadName (record { 0 = second key })) e
    by_key (questions.Frames x s m) (questions.Frames y t n) h e =
        ap (λ r. questions.Frames x r.0 r.1) (sym (ranges s m))
        ∙ ap (λ key. let r = range_at (drop 2 key) in questions.Frames (record { 0 = second key }) r.0 r.1) e
        ∙ ap (λ r. questions.Frames y r.0 r.1) (ranges t n)
    by_key (questions.FrameCount x) (questions.FrameCount y) h e =
        ap (λ key. questions.FrameCount (record { 0 = second key })) e
    by_key (questions.ArrayLength x) (questions.ArrayLength y) h e =
        ap (λ key. questions.ArrayLength (record { 0 = second key })) e
    by_key (questions.GetElements x s m) (questions.GetElements y t n) h e =
        ap (λ r. questions.GetElements x r.0 r.1) (sym (ranges s m))
        ∙ ap (λ key. let r = range_at (drop 2 key) in questions.GetElements (record { 0 = second key }) r.0 r.1) e
        ∙ ap (λ r. questions.GetElements y r.0 r.1) (ranges t n)
    by_key (questions.GetSlots x f s) (questions.GetSlots y g t) h e =
        ap (λ s. questions.GetSlots x f s) (sym (slots s))
        ∙ ap (λ key. questions.GetSlots (record { 0 = second key }) (record { 0 = third key }) (slots_at
        (drop 3 key))) e
        ∙ ap (λ t. questions.GetSlots y g t) (slots t)
    by_key (questions.ThisObject x f) (questions.ThisObject y g) h e =
        ap (λ key. questions.ThisObject (record { 0 = second key }) (record { 0 = third key })) e
    by_key a b h e = absurd (false≢true h)

pub is_same : (a : Question) → same_question a a ≡ true
is_same a = (bytes_eq-Decides (question_key a) (question_key a)).1 refl

-- whether two questions are one doesn't hang on their order
pub same_back : (a b : Question) → same_question a b ≡ same_question b a
same_back a b = by_both (same_question a b) (same_question b a) refl refl
  where
    by_both : (here there : Bool) → same_question a b ≡ here → same_question b a ≡ there → here ≡ there
    by_both true false h k =
        let no : true ≡ false = sym (is_same b) ∙ ap (λ (q : Question). same_question b q) (sym (is_one a b h)) ∙ k in
        absurd (false≢true (sym no))
    by_both false true h k =
        let no : true ≡ false = sym (is_same a) ∙ ap (λ (q : Question). same_question a q) (sym (is_one b a k)) ∙ h in
        absurd (false≢true (sym no))
    by_both _ _ h k = refl
