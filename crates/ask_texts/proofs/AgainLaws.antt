-- The text of a file of questions is read as these questions.
use Rattle.std.proofs.Common.{◌≡◌, ◌≢◌, ℕ, suc, ◌+◌, ◌-◌, ◌/◌, ◌%◌, ◌^◌, ◌<◌, ◌≤◌, ℤ, pos, negsuc, Bool, true}
use Rattle.std.proofs.Common.{false, ◌&&◌, List, [], ◌∷◌, ◌++◌, map, length, Option, Some, None, option_map, option_and_then}
use Rattle.std.proofs.Common.{Result, Ok, IsUtf8, FitsSigned, if◌then◌else◌, refl, sym, ap, ◌∙◌}
use Rattle.std.proofs.Common.{append_assoc, append-nil, length-append, arith, le-leb, lt-ltb}
use Rattle.std.specs.Prelude.{codes, nat_le, nat_lt, slice_index}
use Rattle.std.specs.Int.{w32}
use Rattle.std.specs.List.{AllByRecursion, flat_map, list_all}
use Rattle.std.specs.Str.{IsAscii}
use Rattle.std.proofs.lemmas.Bool.{and_parts, ltb-true}
use Rattle.std.proofs.lemmas.Str.{IsUtf8-from_is_utf8, IsUtf8-from_ascii}
use Rattle.std.proofs.lemmas.Str.Ascii.{IsAscii-nil, IsAscii-cons}
use Rattle.hex.specs.Hex.{IsBytes, encode_lower, encode_with, lower_digits}
use Rattle.hex.proofs.HexLemmas.{decode_of-encode_lower, IsAscii-encode_with}
use Rattle.jdwp_commands.specs.declared.question.Question.{Question}
use Rattle.jdwp_commands.specs.declared.question.Question.TheVariants as questions
use Rattle.jdwp_commands.specs.declared.listed.Slot.{Slot}
use Rattle.jdwp_commands.specs.Items.{field_ids, slots}
use Rattle.jdwp_values.specs.declared.id.FieldId.{FieldId}
use Rattle.json_lines.specs.Lines.{IsLine}
use Rattle.json_lines.specs.Spelled.{IsSpelled, AreSpelled}
use Rattle.json_lines.proofs.AgainLaws.{is_line}
use Rattle.line_elements.specs.Numbers.{int_of, natural_data, natural_of, signed_data}
use Rattle.line_elements.specs.Values.{each_of}
use Rattle.script_text.specs.Reading.{and_then, next_line}
use Rattle.script_text.specs.Rows.{decoded, is_lower_digit}
use Rattle.script_text.specs.Texts.{line_of}
use Rattle.script_text.specs.declared.log.ScriptFault.{ScriptFault}
use Rattle.script_text.proofs.ShownLaws.{all_below, all_below-at}
use Rattle.serde_json.specs.Data.{Data, depth, items_depth}
use Rattle.serde_json.specs.Read.{max_depth}
use Rattle.serde_json.specs.View.{items_of}
use Rattle.serde_json.specs.Written.{compact_text, has_float}
use Rattle.tap_model.specs.declared.ask.Ask.{Ask}
use Rattle.ask_texts.specs.declared.read.Reading.{Reading}
use Rattle.ask_texts.specs.declared.read.Stage.TheVariants.{Inside}
use Rattle.ask_texts.specs.declared.rows.Row.{Row}
use Rattle.ask_texts.specs.declared.rows.Row.TheVariants.{Head, Ask as an_ask, End}
use Rattle.ask_texts.specs.Forms.{ask_data, bytes_data, listed_data}
use Rattle.ask_texts.specs.Parts.{bytes_in, field_in, slot_of}
use Rattle.ask_texts.specs.Reading.{beginning, line_taken, most_asks, read_on, reading_of, row_in, row_read}
use Rattle.ask_texts.specs.Reading.{row_taken, told_at}
use Rattle.ask_texts.specs.Rows.{row_of}
use Rattle.ask_texts.specs.Sayable.{IsId, IsSayable, IsSlot}
use Rattle.ask_texts.specs.Texts.{ask_text, asks_text, end_data, head_data}
use Rattle.ask_texts.proofs.CutLaws.{read_on-byte, read_on-feed}
use Rattle.ask_texts.proofs.LineLaws.{row_in-read}
use Rattle.ask_texts.proofs.PlainLaws.{list_plain, neither, signed_plain}

-- Numbers and bytes ---------------------------------------------------------------------------------------------------

int_again : (z : ℤ) → FitsSigned w32 z → int_of (signed_data z) ≡ Some z
int_again (pos n) fits = rw (le-leb n (2 ^ 31 - 1) (omega (arith, fits.sfits))) refl
int_again (negsuc n) fits = rw (le-leb n (2 ^ 31 - 1) (omega (arith, fits.sfits))) refl

signed_spelled : (z : ℤ) → FitsSigned w32 z → IsSpelled (signed_data z)
signed_spelled (pos n) fits = omega (arith, fits.sfits)
signed_spelled (negsuc n) fits = omega (arith, fits.sfits)

both : (a b : Bool) → a ≡ true → b ≡ true → (a && b) ≡ true
both a b e f = rw (e, f) refl

byte_again : (n : ℕ) → n < 256 → natural_of 0 256 (natural_data n) ≡ Some n
byte_again n small =
    ap (λ (within : Bool). if within then Some n else None)
    (both (nat_le 0 n) (nat_lt n 256) (le-leb 0 n (omega arith)) (lt-ltb n 256 small))

is_digit : ℕ → Bool
is_digit d = is_lower_digit (slice_index lower_digits d)

digit_is_lower : (d : ℕ) → d < 16 → is_digit d ≡ true
unfolding is_digit all_below
digit_is_lower d lt = all_below-at is_digit 16 d refl lt

digit_lower : (d : ℕ) → d < 16 → is_lower_digit (slice_index lower_digits d) ≡ true
unfolding is_digit
digit_lower d lt = digit_is_lower d lt

hexadecimal_is_lower : (bytes : List ℕ) → IsBytes bytes → list_all is_lower_digit (encode_lower bytes) ≡ true
unfolding encode_with
hexadecimal_is_lower [] are = refl
hexadecimal_is_lower (byte ∷ bytes) are =
    let fits : byte < 256 = are 0 in
    both _ _ (digit_lower (byte / 16) (omega arith))
    (both _ _ (digit_lower (byte % 16) (omega arith)) (hexadecimal_is_lower bytes (λ i. are (suc i))))

bytes_again : (bytes : List ℕ) → IsBytes bytes → bytes_in (bytes_data bytes) ≡ Some bytes
bytes_again bytes are =
    rw (hexadecimal_is_lower bytes are) (ap decoded (decode_of-encode_lower bytes are))

abbrev is_ascii : ℕ → Bool
is_ascii byte = nat_lt byte 128

are_ascii : (text : List ℕ) → list_all is_ascii text ≡ true → IsAscii text
are_ascii [] e = IsAscii-nil
are_ascii (byte ∷ text) e =
    let parts = and_parts (is_ascii byte) (list_all is_ascii text) e in
    IsAscii-cons byte text (ltb-true byte 128 parts.0) (are_ascii text parts.1)

bytes_spelled : (bytes : List ℕ) → IsSpelled (bytes_data bytes)
bytes_spelled bytes =
    IsUtf8-from_ascii (encode_lower bytes) (IsAscii-encode_with lower_digits bytes (are_ascii lower_digits refl))

utf8 : (text : List ℕ) → list_all is_ascii text ≡ true → IsUtf8 text
utf8 text e = IsUtf8-from_ascii text (are_ascii text e)

-- Lists ---------------------------------------------------------------------------------------------------------------

-- an element more
one_more : {A : Type 0} (read : Data → Option A) (x : A) (d : Data) (xs : List A) (more : Option (List A))
    → read d ≡ Some x → more ≡ Some xs
    → option_and_then (λ y. option_map (λ ys. y ∷ ys) more) (read d) ≡ Some (x ∷ xs)
one_more read x d xs more e f = rw (e, f) refl

list_again : {A : Type 0} (Is : A → Type 0) (read : Data → Option A) (write : A → Data) (xs : List A)
    → ((x : A) → Is x → read (write x) ≡ Some x) → AllByRecursion Is xs
    → each_of read (items_of (map write xs)) ≡ Some xs
list_again Is read write [] again are = refl
list_again Is read write (x ∷ xs) again are =
    one_more read x (write x) xs (each_of read (items_of (map write xs))) (again x are.0)
    (list_again Is read write xs again are.1)

list_spelled : {A : Type 0} (Is : A → Type 0) (write : A → Data) (xs : List A)
    → ((x : A) → Is x → IsSpelled (write x)) → AllByRecursion Is xs → AreSpelled (items_of (map write xs))
list_spelled Is write [] spelled are = tt
list_spelled Is write (x ∷ xs) spelled are = (spelled x are.0, list_spelled Is write xs spelled are.1)

list_shallow : {A : Type 0} (write : A → Data) (xs : List A) → ((x : A) → depth (write x) ≤ 1)
    → items_depth (items_of (map write xs)) ≤ 1
list_shallow write [] shallow = omega arith
list_shallow write (x ∷ xs) shallow =
    let first = shallow x in
    let others = list_shallow write xs shallow in
    omega (arith, first, others)

slot_again : (s : Slot) → IsSlot s → slot_of (listed_data slots s) ≡ Some s
slot_again s is = rw (int_again s.slot is.0, byte_again s.tag is.1) refl

slot_spelled : (s : Slot) → IsSlot s → IsSpelled (listed_data slots s)
slot_spelled s is = (signed_spelled s.slot is.0, (omega (arith, is.1), tt))

fields_again : (fields : List FieldId) → AllByRecursion (λ field. IsId field.0) fields
    → each_of field_in (items_of (map (listed_data field_ids) fields)) ≡ Some fields
fields_again fields are =
    list_again (λ field. IsId field.0) field_in (listed_data field_ids) fields (λ field is. refl) are

slots_again : (ss : List Slot) → AllByRecursion IsSlot ss
    → each_of slot_of (items_of (map (listed_data slots) ss)) ≡ Some ss
slots_again ss are = list_again IsSlot slot_of (listed_data slots) ss slot_again are

-- Questions -----------------------------------------------------------------------------------------------------------

-- the line of a question is a row, and says it
question_again : (q : Question) → IsSayable q → row_of (ask_data q) ≡ Some (an_ask q)
question_again (questions.ClassesBySignature s) is = rw (bytes_again s is) refl
question_again questions.AllClasses is = refl
question_again questions.AllThreads is = refl
question_again questions.IdSizes is = refl
question_again (questions.Signature x) is = refl
question_again (questions.Fields x) is = refl
question_again (questions.Methods x) is = refl
question_again (questions.SourceFile x) is = refl
question_again (questions.Superclass x) is = refl
question_again (questions.LineTable x y) is = refl
question_again (questions.VariableTable x y) is = refl
question_again (questions.ObjectType x) is = refl
question_again (questions.GetFields x fs) is = rw (fields_again fs is.1) refl
question_again (questions.StringValue x) is = refl
question_again (questions.ThreadName x) is = refl
question_again (questions.Frames x first n) is = rw (int_again first is.1.0, int_again n is.1.1) refl
question_again (questions.FrameCount x) is = refl
question_again (questions.ArrayLength x) is = refl
question_again (questions.GetElements x first n) is = rw (int_again first is.1.0, int_again n is.1.1) refl
question_again (questions.GetSlots x y ss) is = rw (slots_again ss is.1.1) refl
question_again (questions.ThisObject x y) is = refl

named : {P : Type 0} (name : List ℕ) → list_all is_ascii name ≡ true → P
    → IsUtf8 (codes "ask") × (IsUtf8 name × P)
named name e more = (utf8 (codes "ask") refl, (utf8 name e, more))

question_spelled : (q : Question) → IsSayable q → IsSpelled (ask_data q)
question_spelled (questions.ClassesBySignature s) is =
    named (codes "ClassesBySignature") refl (bytes_spelled s, tt)
question_spelled questions.AllClasses is =
    named (codes "AllClasses") refl tt
question_spelled questions.AllThreads is =
    named (codes "AllThreads") refl tt
question_spelled questions.IdSizes is =
    named (codes "IdSizes") refl tt
question_spelled (questions.Signature x) is =
    named (codes "Signature") refl (is, tt)
question_spelled (questions.Fields x) is =
    named (codes "Fields") refl (is, tt)
question_spelled (questions.Methods x) is =
    named (codes "Methods") refl (is, tt)
question_spelled (questions.SourceFile x) is =
    named (codes "SourceFile") refl (is, tt)
question_spelled (questions.Superclass x) is =
    named (codes "Superclass") refl (is, tt)
question_spelled (questions.LineTable x y) is =
    named (codes "LineTable") refl (is.0, (is.1, tt))
question_spelled (questions.VariableTable x y) is =
    named (codes "VariableTable") refl (is.0, (is.1, tt))
question_spelled (questions.ObjectType x) is =
    named (codes "ObjectType") refl (is, tt)
question_spelled (questions.GetFields x fs) is =
    named (codes "GetFields") refl
    (is.0, (list_spelled (λ field. IsId field.0) (listed_data field_ids) fs (λ field f. f) is.1, tt))
question_spelled (questions.StringValue x) is =
    named (codes "StringValue") refl (is, tt)
question_spelled (questions.ThreadName x) is =
    named (codes "ThreadName") refl (is, tt)
question_spelled (questions.Frames x first n) is =
    named (codes "Frames") refl
    (is.0, (signed_spelled first is.1.0, (signed_spelled n is.1.1, tt)))
question_spelled (questions.FrameCount x) is =
    named (codes "FrameCount") refl (is, tt)
question_spelled (questions.ArrayLength x) is =
    named (codes "ArrayLength") refl (is, tt)
question_spelled (questions.GetElements x first n) is =
    named (codes "GetElements") refl
    (is.0, (signed_spelled first is.1.0, (signed_spelled n is.1.1, tt)))
question_spelled (questions.GetSlots x y ss) is =
    named (codes "GetSlots") refl
    (is.0, (is.1.0, (list_spelled IsSlot (listed_data slots) ss slot_spelled is.1.1, tt)))
question_spelled (questions.ThisObject x y) is =
    named (codes "ThisObject") refl (is.0, (is.1, tt))

question_shallow : (q : Question) → depth (ask_data q) ≤ max_depth
question_shallow (questions.ClassesBySignature s) = omega arith
question_shallow questions.AllClasses = omega arith
question_shallow questions.AllThreads = omega arith
question_shallow questions.IdSizes = omega arith
question_shallow (questions.Signature x) = omega arith
question_shallow (questions.Fields x) = omega arith
question_shallow (questions.Methods x) = omega arith
question_shallow (questions.SourceFile x) = omega arith
question_shallow (questions.Superclass x) = omega arith
question_shallow (questions.LineTable x y) = omega arith
question_shallow (questions.VariableTable x y) = omega arith
question_shallow (questions.ObjectType x) = omega arith
question_shallow (questions.GetFields x fs) =
    let few = list_shallow (listed_data field_ids) fs (λ field. omega arith) in omega (arith, few)
question_shallow (questions.StringValue x) = omega arith
question_shallow (questions.ThreadName x) = omega arith
question_shallow (questions.Frames x first n) = omega arith
question_shallow (questions.FrameCount x) = omega arith
question_shallow (questions.ArrayLength x) = omega arith
question_shallow (questions.GetElements x first n) = omega arith
question_shallow (questions.GetSlots x y ss) =
    let few = list_shallow (listed_data slots) ss (λ s. omega arith) in omega (arith, few)
question_shallow (questions.ThisObject x y) = omega arith

question_plain : (q : Question) → has_float (ask_data q) ≡ false
question_plain (questions.ClassesBySignature s) = refl
question_plain questions.AllClasses = refl
question_plain questions.AllThreads = refl
question_plain questions.IdSizes = refl
question_plain (questions.Signature x) = refl
question_plain (questions.Fields x) = refl
question_plain (questions.Methods x) = refl
question_plain (questions.SourceFile x) = refl
question_plain (questions.Superclass x) = refl
question_plain (questions.LineTable x y) = refl
question_plain (questions.VariableTable x y) = refl
question_plain (questions.ObjectType x) = refl
question_plain (questions.GetFields x fs) = neither _ false (list_plain (listed_data field_ids) fs (λ field. refl)) refl
question_plain (questions.StringValue x) = refl
question_plain (questions.ThreadName x) = refl
question_plain (questions.Frames x first n) = neither (has_float (signed_data first)) _ (signed_plain first)
    (neither (has_float (signed_data n)) false (signed_plain n) refl)
question_plain (questions.FrameCount x) = refl
question_plain (questions.ArrayLength x) = refl
question_plain (questions.GetElements x first n) = neither (has_float (signed_data first)) _ (signed_plain first)
    (neither (has_float (signed_data n)) false (signed_plain n) refl)
question_plain (questions.GetSlots x y ss) = neither _ false (list_plain (listed_data slots) ss
    (λ s. neither (has_float (signed_data s.slot)) false (signed_plain s.slot) refl)) refl
question_plain (questions.ThisObject x y) = refl

-- Lines ---------------------------------------------------------------------------------------------------------------

-- a value's text is one line, and says a row
record IsPrinted (d : Data) (row : Row) : Type 0 where
  line : IsLine d
  says : row_of d ≡ Some row

printed_ask : (q : Question) → IsSayable q → IsPrinted (ask_data q) (an_ask q)
printed_ask q is = record {
  line = is_line (ask_data q) (question_spelled q is) (question_shallow q) (question_plain q);
  says = question_again q is;
}

printed_head : IsPrinted head_data (Head true)
printed_head = record {
  line = is_line head_data (utf8 (codes "tap") refl, (omega arith, tt)) (omega arith) refl;
  says = refl;
}

printed_end : IsPrinted end_data End
printed_end = record { line = is_line end_data (utf8 (codes "end") refl, tt) (omega arith) refl; says = refl }

shaped_row : (d : Data) (row : Row) → row_of d ≡ Some row → row_read (Some d) ≡ Ok row
shaped_row d row e = rw e refl

row_in-printed : (d : Data) (row : Row) → IsPrinted d row → row_in (compact_text d) ≡ Ok row
row_in-printed d row printed =
    row_in-read (compact_text d) (Some d) (IsUtf8-from_is_utf8 (compact_text d) printed.line.utf8) printed.line.is_read
    ∙ shaped_row d row printed.says

abbrev NoFeed : List ℕ → Type 0
NoFeed bytes = AllByRecursion (λ byte. byte ≢ 10) bytes

-- bytes without a line feed, and then one, are a line
read_on-line : (reading : Reading) (line body more : List ℕ) → NoFeed body →
    read_on reading line (body ++ 10 ∷ more)
    ≡ and_then (λ next. read_on next [] more) (line_taken reading (line ++ body))
read_on-line reading line [] more plain =
    read_on-feed reading line 10 more refl
    ∙ ap (λ (whole : List ℕ). and_then (λ next. read_on next [] more) (line_taken reading whole))
    (sym (append-nil line))
read_on-line reading line (byte ∷ body) more plain =
    read_on-byte reading line byte (body ++ 10 ∷ more) plain.0
    ∙ read_on-line reading (line ++ byte ∷ []) body more plain.1
    ∙ ap (λ (whole : List ℕ). and_then (λ next. read_on next [] more) (line_taken reading whole))
    (append_assoc line (byte ∷ []) body)

-- the line of a row
read_row : (reading : Reading) (d : Data) (row : Row) (more : List ℕ) → IsPrinted d row →
    read_on reading [] (line_of d ++ more) ≡ and_then (λ next. read_on next [] more) (row_taken reading row)
unfolding line_of
read_row reading d row more printed =
    ap (read_on reading []) (append_assoc (compact_text d) (10 ∷ []) more)
    ∙ read_on-line reading [] (compact_text d) more printed.line.no_feed
    ∙ ap
    (λ (result : Result Row ScriptFault). and_then (λ next. read_on next [] more)
    (and_then (row_taken reading) (told_at reading.line result)))
    (row_in-printed d row printed)

-- questions so far
abbrev among : ℕ → List Ask → Reading
among line asks = record { line = line; stage = Inside; asks = asks }

-- a question more may stand here
ask_may : (line : ℕ) (asks : List Ask) (q : Question) → length asks < most_asks →
    row_taken (among line asks) (an_ask q) ≡ Ok (among (next_line line) (asks ++ record { question = q } ∷ []))
ask_may line asks q few = rw (lt-ltb (length asks) most_asks few) refl

asks_again : (asks so_far : List Ask) (line : ℕ) → length so_far + length asks ≤ most_asks →
    AllByRecursion (λ ask. IsSayable ask.question) asks →
    read_on (among line so_far) [] (flat_map ask_text asks ++ line_of end_data) ≡ Ok (so_far ++ asks)
asks_again [] so_far line few are =
    ap (read_on (among line so_far) []) (sym (append-nil (line_of end_data)))
    ∙ read_row (among line so_far) end_data End [] printed_end
    ∙ ap Ok (sym (append-nil so_far))
asks_again (ask ∷ asks) so_far line few are =
    let more = length-append so_far (ask ∷ []) in
    ap (read_on (among line so_far) []) (append_assoc (ask_text ask) (flat_map ask_text asks) (line_of end_data))
    ∙ read_row (among line so_far) (ask_data ask.question) (an_ask ask.question)
    (flat_map ask_text asks ++ line_of end_data) (printed_ask ask.question are.0)
    ∙ ap (and_then (λ next. read_on next [] (flat_map ask_text asks ++ line_of end_data)))
    (ask_may line so_far ask.question (omega (arith, few)))
    ∙ asks_again asks (so_far ++ ask ∷ []) (next_line line) (omega (arith, few, more)) are.1
    ∙ ap Ok (append_assoc so_far (ask ∷ []) asks)

pub text_again : (asks : List Ask) → length asks ≤ most_asks → AllByRecursion (λ ask. IsSayable ask.question) asks →
    reading_of (asks_text asks) ≡ Ok asks
unfolding reading_of
text_again asks few are =
    read_row beginning head_data (Head true) (flat_map ask_text asks ++ line_of end_data) printed_head
    ∙ asks_again asks [] 2 (omega (arith, few)) are
