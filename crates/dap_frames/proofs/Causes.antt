-- The fault of a refused byte is the first that applies: what was read knows its lines, and each cause is read as its
-- fault.
use Rattle.std.proofs.Common.{◌≡◌, ℕ, ◌+◌, ◌-◌, ◌<◌, ◌≤◌, Bool, true, false, ◌&&◌, cond, ltb, leb, eqb, List, [], ◌∷◌}
use Rattle.std.proofs.Common.{◌++◌, length, take, replicate, Option, Some, None, refl, sym, ap, subst, ◌∙◌, arith, ◌⊎◌}
use Rattle.std.proofs.Common.{inl, inr, append_assoc}
use Rattle.std.specs.Prelude.{codes}
use Rattle.std.specs.Char.{digit_value}
use Rattle.std.specs.List.{AllByRecursion}
use Rattle.std.specs.Str.Parse.{digits_value}
use Rattle.std.proofs.lemmas.Bool.{and_parts, and_from, ltb-true, ltb-false, leb-true, eqb-true, le-ltb, lt-ltb, le-leb}
use Rattle.std.proofs.lemmas.Bool.{ne_eqb}
use Rattle.std.proofs.lemmas.List.{append-nil, length-append, length-take, length_push, take-take, take_at}
use Rattle.wire_core.specs.Streams.{joined, faulty}
use Rattle.dap_frames.specs.declared.fault.FrameFault.{FrameFault}
use Rattle.dap_frames.specs.declared.fault.FrameFault.TheVariants.{HeaderTooLong, NoLength, TwoLengths, TooLong}
use Rattle.dap_frames.specs.declared.fault.FrameFault.TheVariants.{BadLength, BadHeader}
use Rattle.dap_frames.specs.declared.header.Reading.{Reading}
use Rattle.dap_frames.specs.declared.header.Reading.TheVariants.{Line, Name, Digits, Value, LineEnd, End}
use Rattle.dap_frames.specs.declared.header.Step.{Step}
use Rattle.dap_frames.specs.declared.header.Step.TheVariants.{Goes, Ends, Refused}
use Rattle.dap_frames.specs.declared.header.Head.{Head}
use Rattle.dap_frames.specs.declared.header.Head.TheVariants as heads
use Rattle.dap_frames.specs.declared.header.TheConstants.{MOST_DIGITS, LONGEST_BODY}
use Rattle.dap_frames.specs.Reading.{step, after_step, head, later, onward, is_digit, with_digit, next_match}
use Rattle.dap_frames.specs.Reading.{is_name_byte, is_length_name, behind_name, end_of, more_digits}
use Rattle.dap_frames.specs.Frames.{IsLengthLine, IsOtherLine, AreLines, frame_front}
use Rattle.dap_frames.specs.Faults.{IsDigit, IsSecondName, IsInLength, IsNoneOfLength, Applies, causes, IsFirst}
use Rattle.dap_frames.proofs.Heads.{later-later, later-zero, head-append, head-refused}
use Rattle.dap_frames.proofs.Names.{length-name-true, length-name-is}
use Rattle.dap_frames.proofs.Lines.{name-starts, other-read, length-read, blanks-read, digits-read}
use Rattle.dap_frames.proofs.LinesBack.{IsFront, IsLine, LengthFront, Next, same_line, next_line, step-front}
use Rattle.dap_frames.proofs.LinesBack.{value-push}
use Rattle.dap_frames.proofs.Fronts.{refused-is}
use Rattle.dap_frames.proofs.FrameLaws.{faulty-is}
use Rattle.dap_frames.proofs.Unfinished.{prefix}

-- ---- lines, and one more

-- what whole lines say
abbrev Say : List (List ℕ) → Option ℕ → Type 0
Say lines None = AllByRecursion IsOtherLine lines
Say lines (Some n) = AreLines None lines n

joined-push : (lines : List (List ℕ)) (line : List ℕ) → joined (lines ++ line ∷ []) ≡ joined lines ++ line
joined-push [] line = append-nil line
joined-push (l ∷ lines) line =
    ap (λ (x : List ℕ). l ++ x) (joined-push lines line) ∙ sym (append_assoc l (joined lines) line)

others-push : (lines : List (List ℕ)) (line : List ℕ) → AllByRecursion IsOtherLine lines → IsOtherLine line
    → AllByRecursion IsOtherLine (lines ++ line ∷ [])
others-push [] line all is = (is, tt)
others-push (l ∷ lines) line all is = (all.0, others-push lines line all.1 is)

said-push : (lines : List (List ℕ)) (line : List ℕ) (n : ℕ) → AllByRecursion IsOtherLine lines → IsLengthLine line n
    → AreLines None (lines ++ line ∷ []) n
said-push [] line n all is = inr (refl, n, is, refl)
said-push (l ∷ lines) line n all is = inl (all.0, said-push lines line n all.1 is)

kept-push : (lines : List (List ℕ)) (line : List ℕ) (said : Option ℕ) (n : ℕ) → AreLines said lines n → IsOtherLine line
    → AreLines said (lines ++ line ∷ []) n
kept-push [] line said n are is = inl (is, are)
kept-push (l ∷ lines) line said n are is =
    elim are [
      | inl o ↦ inl (o.0, kept-push lines line said n o.1 is)
      | inr s ↦ inr (s.0, s.1, s.2, kept-push lines line (Some s.1) n s.3 is)
    ]

say-push : (lines : List (List ℕ)) (line : List ℕ) (said after : Option ℕ) → Say lines said → IsLine said line after
    → Say (lines ++ line ∷ []) after
say-push lines line said after say is =
    elim is [
      | inl o ↦ subst (Say (lines ++ line ∷ [])) (sym o.1) (other said say o.0)
      | inr l ↦
          subst (Say (lines ++ line ∷ [])) (sym l.3)
          (said-push lines line l.1 (subst (Say lines) l.0 say) l.2)
    ]
  where
    other : (s : Option ℕ) → Say lines s → IsOtherLine line → Say (lines ++ line ∷ []) s
    other None all is = others-push lines line all is
    other (Some n) are is = kept-push lines line None n are is

-- ---- what was read of a header: whole lines, and the front of one

record Came (r : Reading) (before : List ℕ) : Type 0 where
  lines : List (List ℕ)
  said : Option ℕ
  front : List ℕ
  text : before ≡ joined lines ++ front
  say : Say lines said
  is : IsFront r said front

came-one : (r t : Reading) (b : ℕ) (before : List ℕ) → Came r before → step r b ≡ Goes t → Came t (before ++ b ∷ [])
came-one r t b before c goes = by (step-front r t b c.said c.front c.is goes)
  where
    text : before ++ b ∷ [] ≡ joined c.lines ++ (c.front ++ b ∷ [])
    text = ap (λ (l : List ℕ). l ++ b ∷ []) c.text ∙ append_assoc (joined c.lines) c.front (b ∷ [])

    by : Next t c.said (c.front ++ b ∷ []) → Came t (before ++ b ∷ [])
    by (same_line is) =
        record { lines = c.lines; said = c.said; front = c.front ++ b ∷ []; text = text; say = c.say; is = is }
    by (next_line after line_is is_line) =
        subst (λ (r : Reading). Came r (before ++ b ∷ [])) (sym line_is)
        (record {
          lines = c.lines ++ (c.front ++ b ∷ []) ∷ [];
          said = after;
          front = [];
          text =
              text ∙ sym (joined-push c.lines (c.front ++ b ∷ [])) ∙ sym
              (append-nil (joined (c.lines ++ (c.front ++ b ∷ []) ∷ [])));
          say = say-push c.lines (c.front ++ b ∷ []) c.said after c.say is_line;
          is = (refl, refl);
        })

came : (xs : List ℕ) (r t : Reading) (before : List ℕ) → Came r before → head r xs ≡ heads.Reads t
    → Came t (before ++ xs)
came [] r t before c e =
    let same : r ≡ t = cc in
    subst (λ (u : Reading). Came u (before ++ [])) same (subst (Came r) (sym (append-nil before)) c)
came (x ∷ xs) r t before c e = by (step r x) refl e (λ u b d. came xs u t b d)
  where
    inner : (h : Head) → later 1 h ≡ heads.Reads t → h ≡ heads.Reads t
    inner (heads.Reads s) e = e
    inner (heads.Ends n h) e = absurd cc
    inner (heads.Refused f p) e = absurd cc

    by : (s : Step) → step r x ≡ s → after_step s (λ u. head u xs) ≡ heads.Reads t
        → ((u : Reading) (b : List ℕ) → Came u b → head u xs ≡ heads.Reads t → Came t (b ++ xs))
        → Came t (before ++ x ∷ xs)
    by (Goes u) goes e rest =
        subst (Came t) (append_assoc before (x ∷ []) xs)
        (rest u (before ++ x ∷ []) (came-one r u x before c goes) (inner (head u xs) e))
    by (Ends n) goes e rest = absurd cc
    by (Refused f) goes e rest = absurd cc

-- ---- what is refused has its cause

-- but for the two that are no cause of a byte's own
abbrev Caused : FrameFault → List ℕ → ℕ → Type 0
Caused HeaderTooLong before b = ⊥
Caused NoLength before b = Applies NoLength before b
Caused TwoLengths before b = Applies TwoLengths before b
Caused TooLong before b = Applies TooLong before b
Caused BadLength before b = Applies BadLength before b
Caused BadHeader before b = Unit {0}

fault-is : (f g : FrameFault) (before : List ℕ) (b : ℕ) → (let it : Step = Refused f in it ≡ Refused g)
    → Caused f before b → Caused g before b
fault-is f g before b e is =
    let same : f ≡ g = cc in
    subst (λ (k : FrameFault). Caused k before b) same is

-- what was read of a length
in-length : (before : List ℕ) (count value : ℕ) (c : Came (Digits count value) before)
    → (digits : List ℕ) × IsInLength before digits × (length digits ≡ count) × (digits_value 10 digits ≡ value)
in-length before count value c =
    let f : LengthFront c.front count value = c.is.1 in
    let len = f.len in
    let is = f.is in
    let short = f.short in
    let bounded = f.bounded in (
      f.digits,
      record {
        lines = c.lines;
        name = f.name;
        blanks = f.blanks;
        text = c.text ∙ ap (λ (l : List ℕ). joined c.lines ++ l) f.text;
        others = subst (Say c.lines) c.is.0 c.say;
        is_name = f.is_name;
        says_length = f.says_length;
        numeral = f.all;
        short = omega arith;
        bounded = omega arith;
      },
      f.len,
      f.is,
    )

is-digit : (b : ℕ) → is_digit b ≡ true → IsDigit b
is-digit b e = let range = and_parts (leb 48 b) (leb b 57) e in (leb-true 48 b range.0, leb-true b 57 range.1)

digit-true : (b : ℕ) → IsDigit b → is_digit b ≡ true
digit-true b is = and_from (leb 48 b) (leb b 57) (le-leb 48 b is.0) (le-leb b 57 is.1)

no-digit : (b : ℕ) → is_digit b ≡ false → ¬ IsDigit b
no-digit b e is = clash (sym e ∙ digit-true b is)
  where
    clash : false ≡ true → ⊥
    clash e = cc

digit-value : (b : ℕ) → IsDigit b → digit_value b ≡ b - 48
digit-value b is =
    let below : b < 58 = omega (arith, is.1) in
    rw (le-ltb b 48 is.0, lt-ltb b 58 below) refl

refused-cause : (r : Reading) (b : ℕ) (f : FrameFault) (before : List ℕ) → Came r before → step r b ≡ Refused f
    → Caused f before b
refused-cause (Line said) b f before c e = by (eqb b 13) (is_name_byte b) refl e
  where
    empty : (l : Option ℕ) → l ≡ said → b ≡ 13 → end_of l ≡ Refused f → Caused f before b
    empty None same return e =
        fault-is NoLength f before b e (
          record {
            lines = c.lines;
            text = c.text ∙ ap (λ (l : List ℕ). joined c.lines ++ l) c.is.0 ∙ append-nil (joined c.lines);
            others = subst (Say c.lines) (sym c.is.1 ∙ sym same) c.say;
          },
          return,
        )
    empty (Some n) same return e = absurd cc

    by : (return named : Bool) → eqb b 13 ≡ return
        → cond return (end_of said) (cond named (Goes (Name said (next_match (Some 0) b))) (Refused BadHeader)) ≡
        Refused f → Caused f before b
    by true named return e = empty said refl (eqb-true b 13 return) e
    by false true return e = absurd cc
    by false false return e = fault-is BadHeader f before b e tt
refused-cause (Name said m) b f before c e = by (eqb b 58) (is_name_byte b) refl e
  where
    behind : (l : Option ℕ) (says : Bool) → l ≡ said → is_length_name m ≡ says → b ≡ 58 → behind_name l says ≡ Refused f
        → Caused f before b
    behind l false same says colon e = absurd cc
    behind None true same says colon e = absurd cc
    behind (Some n) true same says colon e =
        fault-is TwoLengths f before b e (
          record {
            lines = c.lines;
            name = c.front;
            said = n;
            text = c.text;
            are_lines = subst (Say c.lines) (sym (same ∙ c.is.0)) c.say;
            is_name = c.is.1;
            says_length = length-name-is c.front (sym (ap is_length_name c.is.2) ∙ says);
          },
          colon,
        )

    by : (colon named : Bool) → eqb b 58 ≡ colon
        → cond colon (behind_name said (is_length_name m))
        (cond named (Goes (Name said (next_match m b))) (Refused BadHeader)) ≡ Refused f → Caused f before b
    by true named colon e = behind said (is_length_name m) refl refl (eqb-true b 58 colon) e
    by false true colon e = absurd cc
    by false false colon e = fault-is BadHeader f before b e tt
refused-cause (Digits count value) b f before c e =
    by (is_digit b) (eqb b 32 && eqb count 0) (eqb b 13 && ltb 0 count) refl refl refl e
  where
    here : (digits : List ℕ) × IsInLength before digits × (length digits ≡ count) × (digits_value 10 digits ≡ value)
    here = in-length before count value c

    digit : (long fewer : Bool) → ltb LONGEST_BODY (with_digit value b) ≡ long → ltb count MOST_DIGITS ≡ fewer
        → IsDigit b
        → cond long (Refused TooLong) (cond fewer (Goes (Digits (count + 1) (with_digit value b))) (Refused BadLength))
        ≡ Refused f
        → Caused f before b
    digit true fewer long less is e =
        let above : 16777216 < with_digit value b = ltb-true 16777216 (with_digit value b) long in
        fault-is TooLong f before b e
        (here.0, here.1, is, omega (arith, value-push here.0 0 b, digit-value b is, here.3))
    digit false true long less is e = absurd cc
    digit false false long less is e =
        let many : 10 ≤ count = ltb-false count 10 less in
        fault-is BadLength f before b e (here.0, here.1, eleventh here.0 is (omega (arith, here.1.short, here.2)))
      where
        eleventh : (digits : List ℕ) → IsDigit b → length digits ≡ 10 → IsNoneOfLength digits b
        eleventh [] is ten = absurd (omega (arith, ten))
        eleventh (d ∷ ds) is ten = inr (is, ten)

    other : (digits : List ℕ) → length digits ≡ count → ¬ IsDigit b → (eqb b 32 && eqb count 0) ≡ false
        → (eqb b 13 && ltb 0 count) ≡ false → IsNoneOfLength digits b
    other [] len none blank return = (
      none,
      λ space. clash
          (sym blank ∙ and_from (eqb b 32) (eqb count 0) (ap (λ (k : ℕ). eqb k 32) space)
          (ap (λ (k : ℕ). eqb k 0) (sym len))),
    )
      where
        clash : false ≡ true → ⊥
        clash e = cc
    other (d ∷ ds) len none blank return =
        inl (
          none,
          λ is. clash
              (sym return ∙ and_from (eqb b 13) (ltb 0 count) (ap (λ (k : ℕ). eqb k 13) is)
              (ap (ltb 0) (sym len) ∙ lt-ltb 0 (length (d ∷ ds)) (omega arith))),
        )
      where
        clash : false ≡ true → ⊥
        clash e = cc

    by : (one blank return : Bool) → is_digit b ≡ one → (eqb b 32 && eqb count 0) ≡ blank
        → (eqb b 13 && ltb 0 count) ≡ return
        → cond one (more_digits count value b)
        (cond blank (Goes (Digits 0 value)) (cond return (Goes (LineEnd (Some value))) (Refused BadLength))) ≡ Refused f
        → Caused f before b
    by true blank return one is_blank is_return e =
        digit (ltb LONGEST_BODY (with_digit value b)) (ltb count MOST_DIGITS) refl refl (is-digit b one) e
    by false true return one is_blank is_return e = absurd cc
    by false false true one is_blank is_return e = absurd cc
    by false false false one is_blank is_return e =
        fault-is BadLength f before b e (here.0, here.1, other here.0 here.2 (no-digit b one) is_blank is_return)
refused-cause (Value said) b f before c e = by (eqb b 13) (eqb b 10) e
  where
    by : (return feed : Bool)
        → cond return (Goes (LineEnd said)) (cond feed (Refused BadHeader) (Goes (Value said))) ≡ Refused f
        → Caused f before b
    by true feed e = absurd cc
    by false true e = fault-is BadHeader f before b e tt
    by false false e = absurd cc
refused-cause (LineEnd said) b f before c e = by (eqb b 10) e
  where
    by : (feed : Bool) → cond feed (Goes (Line said)) (Refused BadHeader) ≡ Refused f → Caused f before b
    by true e = absurd cc
    by false e = fault-is BadHeader f before b e tt
refused-cause (End n) b f before c e = by (eqb b 10) e
  where
    by : (feed : Bool) → cond feed (Ends n) (Refused BadHeader) ≡ Refused f → Caused f before b
    by true e = absurd cc
    by false e = fault-is BadHeader f before b e tt

-- ---- each cause is read as its fault

others-lead : (lines : List (List ℕ)) (said : Option ℕ) (rest : List ℕ) → AllByRecursion IsOtherLine lines
    → head (Line said) (joined lines ++ rest) ≡ later (length (joined lines)) (head (Line said) rest)
others-lead [] said rest all = sym (later-zero (head (Line said) rest))
others-lead (line ∷ lines) said rest all =
    ap (head (Line said)) (append_assoc line (joined lines) rest)
    ∙ other-read line said (joined lines ++ rest) all.0
    ∙ ap (later (length line)) (others-lead lines said rest all.1)
    ∙ later-later (length line) (length (joined lines)) (head (Line said) rest)
    ∙ ap (λ (k : ℕ). later k (head (Line said) rest)) (sym (length-append line (joined lines)))

lines-lead : (lines : List (List ℕ)) (said : Option ℕ) (n : ℕ) (rest : List ℕ) → AreLines said lines n
    → head (Line said) (joined lines ++ rest) ≡ later (length (joined lines)) (head (Line (Some n)) rest)
lines-lead [] said n rest are =
    ap (λ (s : Option ℕ). head (Line s) rest) are ∙ sym (later-zero (head (Line (Some n)) rest))
lines-lead (line ∷ lines) said n rest are =
    ap (head (Line said)) (append_assoc line (joined lines) rest)
    ∙ by are (λ s. lines-lead lines s n rest)
    ∙ later-later (length line) (length (joined lines)) (head (Line (Some n)) rest)
    ∙ ap (λ (k : ℕ). later k (head (Line (Some n)) rest)) (sym (length-append line (joined lines)))
  where
    by : AreLines said (line ∷ lines) n
        → ((s : Option ℕ) → AreLines s lines n → head (Line s) (joined lines ++ rest) ≡ later (length (joined lines))
        (head (Line (Some n)) rest))
        → head (Line said) (line ++ (joined lines ++ rest)) ≡ later (length line)
        (later (length (joined lines)) (head (Line (Some n)) rest))
    by (inl o) next = other-read line said (joined lines ++ rest) o.0 ∙ ap (later (length line)) (next said o.1)
    by (inr l) next =
        ap (λ (s : Option ℕ). head (Line s) (line ++ (joined lines ++ rest))) l.0
        ∙ length-read line l.1 (joined lines ++ rest) l.2 ∙ ap (later (length line)) (next (Some l.1) l.3)

-- some byte of these is refused, for this
record Refuses (bytes : List ℕ) (f : FrameFault) : Type 0 where
  place : ℕ
  says : head (Line None) bytes ≡ heads.Refused f place

unsaid-refuses : (before : List ℕ) (b : ℕ) → Applies NoLength before b → Refuses (before ++ b ∷ []) NoLength
unsaid-refuses before b is =
    record {
      place = length (joined is.0.lines) + 0;
      says = ap (head (Line None)) (ap (λ (l : List ℕ). l ++ b ∷ []) is.0.text)
          ∙ others-lead is.0.lines None (b ∷ []) is.0.others
          ∙ ap (λ (x : ℕ). later (length (joined is.0.lines)) (head (Line None) (x ∷ []))) is.1;
    }

second-refuses : (before : List ℕ) (b : ℕ) → Applies TwoLengths before b → Refuses (before ++ b ∷ []) TwoLengths
second-refuses before b is =
    let s : IsSecondName before = is.0 in
    record {
      place = length (joined s.lines) + (length s.name + 0);
      says =
          ap (head (Line None))
          (ap (λ (l : List ℕ). l ++ b ∷ []) s.text ∙ append_assoc (joined s.lines) s.name (b ∷ []))
          ∙ lines-lead s.lines None s.said (s.name ++ b ∷ []) s.are_lines
          ∙ ap (λ (x : ℕ). later (length (joined s.lines)) (head (Line (Some s.said)) (s.name ++ x ∷ []))) is.1
          ∙ ap (later (length (joined s.lines))) (name-starts s.name (Some s.said) [] s.is_name)
          ∙ ap (λ (t : Bool). later (length (joined s.lines))
          (later (length s.name) (after_step (behind_name (Some s.said) t) (λ u. head u []))))
          (length-name-true s.name s.says_length);
    }

-- within a length the byte is read as the next of its digits
length-leads : (before digits : List ℕ) (b : ℕ) (l : IsInLength before digits)
    → (k : ℕ)
    × (head (Line None) (before ++ b ∷ []) ≡ later k
    (after_step (step (Digits (length digits) (digits_value 10 digits)) b) (λ u. head u [])))
length-leads before digits b l =
    let tail : List ℕ = replicate l.blanks 32 ++ (digits ++ b ∷ []) in
    let a : ℕ = length (joined l.lines) in
    let n : ℕ = length l.name in
    let last : Head = head (Digits (length digits) (digits_value 10 digits)) (b ∷ []) in
    let none : 0 + length digits ≡ length digits = omega arith in
    let parts : (l.name ++ codes ":" ++ replicate l.blanks 32 ++ digits) ++ b ∷ [] ≡ l.name ++ 58 ∷ tail =
    append_assoc (l.name ++ codes ":" ++ replicate l.blanks 32) digits (b ∷ [])
    ∙ append_assoc (l.name ++ codes ":") (replicate l.blanks 32) (digits ++ b ∷ [])
    ∙ append_assoc l.name (codes ":") tail in (
      a + (n + (1 + (l.blanks + length digits))),
      ap (head (Line None)) (ap (λ (x : List ℕ). x ++ b ∷ []) l.text
          ∙ append_assoc (joined l.lines) (l.name ++ codes ":" ++ replicate l.blanks 32 ++ digits) (b ∷ [])
          ∙ ap (λ (x : List ℕ). joined l.lines ++ x) parts)
          ∙ others-lead l.lines None (l.name ++ 58 ∷ tail) l.others
          ∙ ap (later a) (name-starts l.name None tail l.is_name)
          ∙ ap (λ (t : Bool). later a (later n (after_step (behind_name None t) (λ u. head u tail))))
          (length-name-true l.name l.says_length)
          ∙ ap (λ (h : Head). later a (later n (later 1 h))) (blanks-read l.blanks (digits ++ b ∷ []))
          ∙ ap (λ (h : Head). later a (later n (later 1 (later l.blanks h))))
          (digits-read digits 0 0 (b ∷ []) l.numeral (omega (arith, l.short)) l.bounded)
          ∙ ap (λ (c : ℕ). later a
          (later n (later 1
          (later l.blanks (later (length digits) (head (Digits c (digits_value 10 digits)) (b ∷ []))))))) none
          ∙ ap (λ (h : Head). later a (later n (later 1 h))) (later-later l.blanks (length digits) last)
          ∙ ap (λ (h : Head). later a (later n h)) (later-later 1 (l.blanks + length digits) last)
          ∙ ap (later a) (later-later n (1 + (l.blanks + length digits)) last)
          ∙ later-later a (n + (1 + (l.blanks + length digits))) last,
    )

long-refuses : (before : List ℕ) (b : ℕ) → Applies TooLong before b → Refuses (before ++ b ∷ []) TooLong
long-refuses before b is =
    let lead = length-leads before is.0 b is.1 in
    let above : 16777216 < with_digit (digits_value 10 is.0) b =
    omega (arith, is.3, value-push is.0 0 b, digit-value b is.2) in
    let long : ltb LONGEST_BODY (with_digit (digits_value 10 is.0) b) ≡ true =
    lt-ltb 16777216 (with_digit (digits_value 10 is.0) b) above in
    let refused : step (Digits (length is.0) (digits_value 10 is.0)) b ≡ Refused TooLong =
    rw (digit-true b is.2, long) refl in
    record { place = lead.0 + 0; says = lead.1 ∙ ap (λ s. later lead.0 (after_step s (λ u. head u []))) refused }

-- another byte of a length is refused too, for one of two causes
none-refuses : (before : List ℕ) (b : ℕ) → Applies BadLength before b
    → Refuses (before ++ b ∷ []) TooLong ⊎ Refuses (before ++ b ∷ []) BadLength
none-refuses before b is =
    let lead = length-leads before is.0 b is.1 in
    elim (stepped is.0 is.2) [
      | inl long ↦
          inl (record
          { place = lead.0 + 0; says = lead.1 ∙ ap (λ s. later lead.0 (after_step s (λ u. head u []))) long })
      | inr bad ↦
          inr (record
          { place = lead.0 + 0; says = lead.1 ∙ ap (λ s. later lead.0 (after_step s (λ u. head u []))) bad })
    ]
  where
    not-digit : ¬ IsDigit b → is_digit b ≡ false
    not-digit none = by (is_digit b) refl
      where
        by : (one : Bool) → is_digit b ≡ one → is_digit b ≡ false
        by true e = absurd (none (is-digit b e))
        by false e = e

    and-false : (x y : Bool) → y ≡ false → (x && y) ≡ false
    and-false true y e = e
    and-false false y e = refl

    other : (count value : ℕ) → ¬ IsDigit b → (eqb b 32 && eqb count 0) ≡ false → (eqb b 13 && ltb 0 count) ≡ false
        → step (Digits count value) b ≡ Refused BadLength
    other count value digit blank return = rw (not-digit digit, blank, return) refl

    eleventh : (count value : ℕ) → IsDigit b → 10 ≤ count → (long : Bool) → ltb LONGEST_BODY (with_digit value b) ≡ long
        → (step (Digits count value) b ≡ Refused TooLong) ⊎ (step (Digits count value) b ≡ Refused BadLength)
    eleventh count value digit many true long = inl (rw (digit-true b digit, long) refl)
    eleventh count value digit many false long =
        let full : ltb count MOST_DIGITS ≡ false = le-ltb count 10 many in
        inr (rw (digit-true b digit, long, full) refl)

    stepped : (digits : List ℕ) → IsNoneOfLength digits b
        → (step (Digits (length digits) (digits_value 10 digits)) b ≡ Refused TooLong) ⊎
        (step (Digits (length digits) (digits_value 10 digits)) b ≡ Refused BadLength)
    stepped [] is =
        inr (other 0 0 is.0 (ap (λ (t : Bool). t && eqb 0 0) (ne_eqb b 32 is.1)) (and-false (eqb b 13) (ltb 0 0) refl))
    stepped (d ∷ ds) (inl is) =
        inr (other (length (d ∷ ds)) (digits_value 10 (d ∷ ds)) is.0
        (and-false (eqb b 32) (eqb (length (d ∷ ds)) 0) (ne_eqb (length (d ∷ ds)) 0 (omega arith)))
        (ap (λ (t : Bool). t && ltb 0 (length (d ∷ ds))) (ne_eqb b 13 is.1)))
    stepped (d ∷ ds) (inr is) =
        eleventh (length (d ∷ ds)) (digits_value 10 (d ∷ ds)) is.0 (omega (arith, is.1))
        (ltb LONGEST_BODY (with_digit (digits_value 10 (d ∷ ds)) b)) refl

-- ---- the first of them

-- bytes are refused for one cause
one-fault : (bytes : List ℕ) (f g : FrameFault) (p : ℕ) → head (Line None) bytes ≡ heads.Refused f p → Refuses bytes g
    → f ≡ g
one-fault bytes f g p e is = same p is.place (sym e ∙ is.says)
  where
    same : (p q : ℕ) → heads.Refused f p ≡ heads.Refused g q → f ≡ g
    same p q e = cc

first-cause : (before : List ℕ) (b : ℕ) (f : FrameFault) (p : ℕ) → length before < 4096
    → head (Line None) (before ++ b ∷ []) ≡ heads.Refused f p
    → Caused f before b → IsFirst causes f before b
first-cause before b HeaderTooLong p few e is = absurd is
first-cause before b NoLength p few e is = inr (λ late. omega (arith, late), inl (refl, is))
first-cause before b TwoLengths p few e is =
    inr (
      λ late. omega (arith, late),
      inr (
        λ unsaid. clash (one-fault (before ++ b ∷ []) TwoLengths NoLength p e (unsaid-refuses before b unsaid)),
        inl (refl, is),
      ),
    )
  where
    clash : (let f : FrameFault = TwoLengths in f ≡ NoLength) → ⊥
    clash e = cc
first-cause before b TooLong p few e is =
    inr (
      λ late. omega (arith, late),
      inr (
        λ unsaid. unsaid_clash (one-fault (before ++ b ∷ []) TooLong NoLength p e (unsaid-refuses before b unsaid)),
        inr (
          λ second. second_clash
              (one-fault (before ++ b ∷ []) TooLong TwoLengths p e (second-refuses before b second)),
          inl (refl, is),
        ),
      ),
    )
  where
    unsaid_clash : (let f : FrameFault = TooLong in f ≡ NoLength) → ⊥
    unsaid_clash e = cc

    second_clash : (let f : FrameFault = TooLong in f ≡ TwoLengths) → ⊥
    second_clash e = cc
first-cause before b BadLength p few e is =
    inr (
      λ late. omega (arith, late),
      inr (
        λ unsaid. unsaid_clash (one-fault (before ++ b ∷ []) BadLength NoLength p e (unsaid-refuses before b unsaid)),
        inr (
          λ second. second_clash
              (one-fault (before ++ b ∷ []) BadLength TwoLengths p e (second-refuses before b second)),
          inr (
            λ long. long_clash (one-fault (before ++ b ∷ []) BadLength TooLong p e (long-refuses before b long)),
            inl (refl, is),
          ),
        ),
      ),
    )
  where
    unsaid_clash : (let f : FrameFault = BadLength in f ≡ NoLength) → ⊥
    unsaid_clash e = cc

    second_clash : (let f : FrameFault = BadLength in f ≡ TwoLengths) → ⊥
    second_clash e = cc

    long_clash : (let f : FrameFault = BadLength in f ≡ TooLong) → ⊥
    long_clash e = cc
first-cause before b BadHeader p few e is =
    inr (
      λ late. omega (arith, late),
      inr (
        λ unsaid. unsaid_clash (one-fault (before ++ b ∷ []) BadHeader NoLength p e (unsaid-refuses before b unsaid)),
        inr (
          λ second. second_clash
              (one-fault (before ++ b ∷ []) BadHeader TwoLengths p e (second-refuses before b second)),
          inr (
            λ long. long_clash (one-fault (before ++ b ∷ []) BadHeader TooLong p e (long-refuses before b long)),
            inr (
              λ bad. elim (none-refuses before b bad) [
                | inl long ↦ long_clash (one-fault (before ++ b ∷ []) BadHeader TooLong p e long)
                | inr other ↦ bad_clash (one-fault (before ++ b ∷ []) BadHeader BadLength p e other)
              ],
              inl (refl, tt),
            ),
          ),
        ),
      ),
    )
  where
    unsaid_clash : (let f : FrameFault = BadHeader in f ≡ NoLength) → ⊥
    unsaid_clash e = cc

    second_clash : (let f : FrameFault = BadHeader in f ≡ TwoLengths) → ⊥
    second_clash e = cc

    long_clash : (let f : FrameFault = BadHeader in f ≡ TooLong) → ⊥
    long_clash e = cc

    bad_clash : (let f : FrameFault = BadHeader in f ≡ BadLength) → ⊥
    bad_clash e = cc

-- what the byte behind bytes that are still read is refused for
step-refused : (before : List ℕ) (r : Reading) (b : ℕ) (f : FrameFault) (p : ℕ)
    → head (Line None) before ≡ heads.Reads r
    → head (Line None) (before ++ b ∷ []) ≡ heads.Refused f p → step r b ≡ Refused f
step-refused before r b f p reads e =
    by (step r b) refl
    (sym (head-append (Line None) before (b ∷ []) ∙ ap (λ (h : Head). onward (length before) h (b ∷ [])) reads) ∙ e)
  where
    by : (s : Step) → step r b ≡ s → later (length before) (after_step s (λ u. head u [])) ≡ heads.Refused f p
        → step r b ≡ Refused f
    by (Goes t) is e = absurd cc
    by (Ends n) is e = absurd cc
    by (Refused g) is e =
        let same : g ≡ f = cc in
        is ∙ ap (λ (k : FrameFault). Refused k) same

pub cause-of : (before rest : List ℕ) (b : ℕ) (f : FrameFault)
    → frame_front (before ++ b ∷ rest) ≡ faulty f (length before)
    → IsFirst causes f before b
cause-of before rest b f e =
    elim (refused-is bytes f (length before) (faulty-is bytes f (length before) e)) [
      | inl says ↦
          let inside = head-refused (Line None) (take 4096 bytes) f (length before) says in
          let few : length before < 4096 = omega (arith, inside, length-take 4096 bytes) in
          let found = prefix (take 4096 bytes) (Line None) f (length before) says in
          let first : take (length before) (take 4096 bytes) ≡ before =
          take-take (length before) 4096 bytes (omega arith) ∙ take_at before (b ∷ rest) (length before) refl in
          let next : take (length before + 1) (take 4096 bytes) ≡ before ++ b ∷ [] =
          take-take (length before + 1) 4096 bytes (omega arith) ∙ ap (take (length before + 1))
          (sym (append_assoc before (b ∷ []) rest))
          ∙ take_at (before ++ b ∷ []) rest (length before + 1) (length_push before b) in
          let reads : head (Line None) before ≡ heads.Reads found.state =
          ap (head (Line None)) (sym first) ∙ found.before in
          let refused : head (Line None) (before ++ b ∷ []) ≡ heads.Refused f (length before) =
          ap (head (Line None)) (sym next) ∙ found.with_it in
          let start : Came (Line None) [] =
          record { lines = []; said = None; front = []; text = refl; say = tt; is = (refl, refl) } in
          first-cause before b f (length before) few refused
          (refused-cause found.state b f before (came before (Line None) found.state [] start reads)
          (step-refused before found.state b f (length before) reads refused))
      | inr late ↦ inl (late.3, late.4)
    ]
  where
    bytes : List ℕ
    bytes = before ++ b ∷ rest
