-- What ends a header is lines and an empty one: each state of reading knows what was read of its line.
use Rattle.std.proofs.Common.{◌≡◌, ℕ, ◌+◌, ◌-◌, ◌*◌, ◌<◌, ◌≤◌, Bool, true, false, ◌&&◌, cond, ltb, leb, eqb, List, []}
use Rattle.std.proofs.Common.{◌∷◌, ◌++◌, length, replicate, Option, Some, None, refl, sym, ap, subst, ◌∙◌, arith, ◌⊎◌}
use Rattle.std.proofs.Common.{inl, inr, append_assoc}
use Rattle.std.specs.Prelude.{codes}
use Rattle.std.specs.Char.{digit_value}
use Rattle.std.specs.List.{AllByRecursion}
use Rattle.std.specs.Str.Parse.{AllDigits, digits_value, digits_value_after}
use Rattle.std.proofs.lemmas.Bool.{and_parts, ltb-true, ltb-false, leb-true, eqb-true, eqb-false, le-ltb, lt-ltb}
use Rattle.std.proofs.lemmas.Bool.{true≢false}
use Rattle.std.proofs.lemmas.List.{append-nil, length-append, length_push, nil_from_length, replicate_more}
use Rattle.wire_core.specs.Streams.{joined}
use Rattle.dap_frames.specs.declared.fault.FrameFault.TheVariants.{BadLength, TooLong, BadHeader}
use Rattle.dap_frames.specs.declared.header.Reading.{Reading}
use Rattle.dap_frames.specs.declared.header.Reading.TheVariants.{Line, Name, Digits, Value, LineEnd, End}
use Rattle.dap_frames.specs.declared.header.Step.{Step}
use Rattle.dap_frames.specs.declared.header.Step.TheVariants.{Goes, Ends, Refused}
use Rattle.dap_frames.specs.declared.header.Head.{Head}
use Rattle.dap_frames.specs.declared.header.Head.TheVariants as heads
use Rattle.dap_frames.specs.declared.header.TheConstants.{MOST_DIGITS, LONGEST_BODY}
use Rattle.dap_frames.specs.Reading.{step, after_step, head, later, is_digit, with_digit, next_match, is_name_byte}
use Rattle.dap_frames.specs.Reading.{is_length_name, behind_name, end_of, more_digits}
use Rattle.dap_frames.specs.Frames.{IsNameByte, IsName, IsLengthName, IsPlain, IsLengthLine, IsOtherLine, AreLines}
use Rattle.dap_frames.specs.Frames.{IsLongHeader}
use Rattle.dap_frames.proofs.Names.{name-byte-is, matched, matched-more, length-name-true, length-name-is}

-- what ends a header, read from further on
pub later-ends : (j : ℕ) (x : Head) (n h : ℕ) → later j x ≡ heads.Ends n h
    → (k : ℕ) × (x ≡ heads.Ends n k) × (j + k ≡ h)
later-ends j (heads.Reads r) n h e = absurd cc
later-ends j (heads.Ends m k) n h e =
    let value : m ≡ n = cc in
    let place : j + k ≡ h = cc in
    (k, ap (λ (v : ℕ). heads.Ends v k) value, place)
later-ends j (heads.Refused f p) n h e = absurd cc

-- ---- what was read of a line

-- a name and a part of a value
pub record OtherFront (front : List ℕ) : Type 0 where
  pub name : List ℕ
  pub value : List ℕ
  pub text : front ≡ name ++ codes ":" ++ value
  pub is_name : IsName name
  pub other : ¬ IsLengthName name
  pub plain : AllByRecursion IsPlain value

-- `Content-Length`, blanks, and some digits
pub record LengthFront (front : List ℕ) (count value : ℕ) : Type 0 where
  pub name : List ℕ
  pub blanks : ℕ
  pub digits : List ℕ
  pub text : front ≡ name ++ codes ":" ++ replicate blanks 32 ++ digits
  pub is_name : IsName name
  pub says_length : IsLengthName name
  pub all : AllDigits 10 digits
  pub len : length digits ≡ count
  pub is : digits_value 10 digits ≡ value
  pub short : count ≤ 10
  pub bounded : value ≤ 16777216

-- a line, and what is said after it
abbrev pub IsLine : Option ℕ → List ℕ → Option ℕ → Type 0
IsLine said line after =
    (IsOtherLine line × (after ≡ said)) ⊎ ((said ≡ None) × (n : ℕ) × IsLengthLine line n × (after ≡ Some n))

-- what was read of the line that is read in this state, and what was said before it
abbrev pub IsFront : Reading → Option ℕ → List ℕ → Type 0
IsFront (Line length) said front = (front ≡ []) × (length ≡ said)
IsFront (Name length m) said front = (length ≡ said) × IsName front × (m ≡ matched (Some 0) front)
IsFront (Digits count value) said front = (said ≡ None) × LengthFront front count value
IsFront (Value length) said front = (length ≡ said) × OtherFront front
IsFront (LineEnd length) said front = IsLine said (front ++ 10 ∷ []) length
IsFront (End n) said front = (said ≡ Some n) × (front ≡ 13 ∷ [])

-- what one more byte leads to: more of the same line, or the start of the next
pub data Next (t : Reading) (said : Option ℕ) (front : List ℕ) : Type 0 where
  same_line : IsFront t said front → Next t said front
  next_line : (after : Option ℕ) → t ≡ Line after → IsLine said front after → Next t said front

-- ---- one more of each kind

All-push : (P : ℕ → Type 0) (xs : List ℕ) (b : ℕ) → AllByRecursion P xs → P b → AllByRecursion P (xs ++ b ∷ [])
All-push P [] b all is = (is, tt)
All-push P (x ∷ xs) b all is = (all.0, All-push P xs b all.1 is)

AllDigits-push : (ds : List ℕ) (b : ℕ) → AllDigits 10 ds → digit_value b < 10 → AllDigits 10 (ds ++ b ∷ [])
AllDigits-push [] b all is = (is, tt)
AllDigits-push (d ∷ ds) b all is = (all.0, AllDigits-push ds b all.1 is)

pub value-push : (ds : List ℕ) (v b : ℕ)
    → digits_value_after 10 v (ds ++ b ∷ []) ≡ digits_value_after 10 v ds * 10 + digit_value b
value-push [] v b = refl
value-push (d ∷ ds) v b = value-push ds (v * 10 + digit_value d) b

goes-is : (r t : Reading) → (let it : Step = Goes r in it ≡ Goes t) → r ≡ t
goes-is r t e = cc

-- ---- each state

line-front : (length : Option ℕ) (t : Reading) (b : ℕ) (said : Option ℕ) (front : List ℕ)
    → IsFront (Line length) said front
    → step (Line length) b ≡ Goes t → Next t said (front ++ b ∷ [])
line-front length t b said front is e = by (eqb b 13) (is_name_byte b) refl refl e
  where
    start : front ++ b ∷ [] ≡ b ∷ []
    start = ap (λ (l : List ℕ). l ++ b ∷ []) is.0

    empty : (l : Option ℕ) → l ≡ length → b ≡ 13 → end_of l ≡ Goes t → Next t said (front ++ b ∷ [])
    empty None same_length return e = absurd cc
    empty (Some n) same_length return e =
        subst (λ (r : Reading). Next r said (front ++ b ∷ [])) (goes-is (End n) t e)
        (same_line (sym is.1 ∙ sym same_length, start ∙ ap (λ (x : ℕ). x ∷ []) return))

    by : (return named : Bool) → eqb b 13 ≡ return → is_name_byte b ≡ named
        → cond return (end_of length) (cond named (Goes (Name length (next_match (Some 0) b))) (Refused BadHeader)) ≡
        Goes t → Next t said (front ++ b ∷ [])
    by true named return name e = empty length refl (eqb-true b 13 return) e
    by false true return name e =
        subst (λ (r : Reading). Next r said (front ++ b ∷ [])) (goes-is (Name length (next_match (Some 0) b)) t e)
        (same_line (
          is.1,
          subst IsName (sym start) (omega arith, (name-byte-is b name, tt)),
          ap (matched (Some 0)) (sym start),
        ))
    by false false return name e = absurd cc

name-front : (length m : Option ℕ) (t : Reading) (b : ℕ) (said : Option ℕ) (front : List ℕ)
    → IsFront (Name length m) said front
    → step (Name length m) b ≡ Goes t → Next t said (front ++ b ∷ [])
name-front length m t b said front is e = by (eqb b 58) (is_name_byte b) refl refl e
  where
    behind : (l : Option ℕ) (says : Bool) → l ≡ length → is_length_name m ≡ says → b ≡ 58 → behind_name l says ≡ Goes t
        → Next t said (front ++ b ∷ [])
    behind l false same_length says colon e =
        subst (λ (r : Reading). Next r said (front ++ b ∷ [])) (goes-is (Value l) t e)
        (same_line (
          same_length ∙ is.0,
          record {
            name = front;
            value = [];
            text = ap (λ (x : ℕ). front ++ x ∷ []) colon ∙ sym (append-nil (front ++ codes ":"));
            is_name = is.1;
            other = λ named. true≢false (sym (ap is_length_name is.2 ∙ length-name-true front named) ∙ says);
            plain = tt;
          },
        ))
    behind None true same_length says colon e =
        subst (λ (r : Reading). Next r said (front ++ b ∷ [])) (goes-is (Digits 0 0) t e)
        (same_line (
          sym (same_length ∙ is.0),
          record {
            name = front;
            blanks = 0;
            digits = [];
            text =
                ap (λ (x : ℕ). front ++ x ∷ []) colon ∙ sym (append-nil (front ++ codes ":")) ∙ sym
                (append-nil ((front ++ codes ":") ++ []));
            is_name = is.1;
            says_length = length-name-is front (sym (ap is_length_name is.2) ∙ says);
            all = tt;
            len = refl;
            is = refl;
            short = omega arith;
            bounded = omega arith;
          },
        ))
    behind (Some n) true same_length says colon e = absurd cc

    by : (colon named : Bool) → eqb b 58 ≡ colon → is_name_byte b ≡ named
        → cond colon (behind_name length (is_length_name m))
        (cond named (Goes (Name length (next_match m b))) (Refused BadHeader)) ≡ Goes t
        → Next t said (front ++ b ∷ [])
    by true named colon name e = behind length (is_length_name m) refl refl (eqb-true b 58 colon) e
    by false true colon name e =
        subst (λ (r : Reading). Next r said (front ++ b ∷ [])) (goes-is (Name length (next_match m b)) t e)
        (same_line (
          is.0,
          (omega (arith, length_push front b), All-push IsNameByte front b is.1.1 (name-byte-is b name)),
          ap (λ (k : Option ℕ). next_match k b) is.2 ∙ sym (matched-more (Some 0) front b),
        ))
    by false false colon name e = absurd cc

value-front : (length : Option ℕ) (t : Reading) (b : ℕ) (said : Option ℕ) (front : List ℕ)
    → IsFront (Value length) said front
    → step (Value length) b ≡ Goes t → Next t said (front ++ b ∷ [])
value-front length t b said front is e = by (eqb b 13) (eqb b 10) refl refl e
  where
    f : OtherFront front
    f = is.1

    by : (return feed : Bool) → eqb b 13 ≡ return → eqb b 10 ≡ feed
        → cond return (Goes (LineEnd length)) (cond feed (Refused BadHeader) (Goes (Value length))) ≡ Goes t
        → Next t said (front ++ b ∷ [])
    by true feed return is_feed e =
        subst (λ (r : Reading). Next r said (front ++ b ∷ [])) (goes-is (LineEnd length) t e)
        (same_line (inl (
          record {
            name = f.name;
            value = f.value;
            text = append_assoc front (b ∷ []) (10 ∷ []) ∙ ap (λ (x : ℕ). front ++ x ∷ 10 ∷ []) (eqb-true b 13 return)
                ∙ ap (λ (l : List ℕ). l ++ 13 ∷ 10 ∷ []) f.text;
            is_name = f.is_name;
            other = f.other;
            plain = f.plain;
          },
          is.0,
        )))
    by false true return is_feed e = absurd cc
    by false false return is_feed e =
        subst (λ (r : Reading). Next r said (front ++ b ∷ [])) (goes-is (Value length) t e)
        (same_line (
          is.0,
          record {
            name = f.name;
            value = f.value ++ b ∷ [];
            text = ap (λ (l : List ℕ). l ++ b ∷ []) f.text ∙ append_assoc (f.name ++ codes ":") f.value (b ∷ []);
            is_name = f.is_name;
            other = f.other;
            plain = All-push IsPlain f.value b f.plain (eqb-false b 13 return, eqb-false b 10 is_feed);
          },
        ))

line-end-front : (length : Option ℕ) (t : Reading) (b : ℕ) (said : Option ℕ) (front : List ℕ)
    → IsFront (LineEnd length) said front
    → step (LineEnd length) b ≡ Goes t → Next t said (front ++ b ∷ [])
line-end-front length t b said front is e = by (eqb b 10) refl e
  where
    by : (feed : Bool) → eqb b 10 ≡ feed → cond feed (Goes (Line length)) (Refused BadHeader) ≡ Goes t
        → Next t said (front ++ b ∷ [])
    by true feed e =
        next_line length (sym (goes-is (Line length) t e))
        (subst (λ (x : ℕ). IsLine said (front ++ x ∷ []) length) (sym (eqb-true b 10 feed)) is)
    by false feed e = absurd cc

digits-front : (count value : ℕ) (t : Reading) (b : ℕ) (said : Option ℕ) (front : List ℕ)
    → IsFront (Digits count value) said front
    → step (Digits count value) b ≡ Goes t → Next t said (front ++ b ∷ [])
digits-front count value t b said front is e =
    by (is_digit b) (eqb b 32 && eqb count 0) (eqb b 13 && ltb 0 count) refl refl refl e
  where
    f : LengthFront front count value
    f = is.1

    -- one more digit
    digit : (long fewer : Bool) → ltb LONGEST_BODY (with_digit value b) ≡ long → ltb count MOST_DIGITS ≡ fewer
        → is_digit b ≡ true
        → cond long (Refused TooLong) (cond fewer (Goes (Digits (count + 1) (with_digit value b))) (Refused BadLength))
        ≡ Goes t
        → Next t said (front ++ b ∷ [])
    digit true fewer long less one e = absurd cc
    digit false false long less one e = absurd cc
    digit false true long less one e =
        let range = and_parts (leb 48 b) (leb b 57) one in
        let low : 48 ≤ b = leb-true 48 b range.0 in
        let high : b ≤ 57 = leb-true b 57 range.1 in
        let below : b < 58 = omega arith in
        let is_value : digit_value b ≡ b - 48 = rw (le-ltb b 48 low, lt-ltb b 58 below) refl in
        let room : count < 10 = ltb-true count 10 less in
        let fits : with_digit value b ≤ 16777216 = ltb-false 16777216 (with_digit value b) long in
        let len = f.len in
        let v = f.is in
        subst (λ (r : Reading). Next r said (front ++ b ∷ [])) (goes-is (Digits (count + 1) (with_digit value b)) t e)
        (same_line (
          is.0,
          record {
            name = f.name;
            blanks = f.blanks;
            digits = f.digits ++ b ∷ [];
            text =
                ap (λ (l : List ℕ). l ++ b ∷ []) f.text ∙ append_assoc ((f.name ++ codes ":") ++ replicate f.blanks 32)
                f.digits (b ∷ []);
            is_name = f.is_name;
            says_length = f.says_length;
            all = AllDigits-push f.digits b f.all (omega arith);
            len = length_push f.digits b ∙ omega arith;
            is = value-push f.digits 0 b ∙ omega arith;
            short = omega arith;
            bounded = fits;
          },
        ))

    by : (one blank return : Bool) → is_digit b ≡ one → (eqb b 32 && eqb count 0) ≡ blank
        → (eqb b 13 && ltb 0 count) ≡ return
        → cond one (more_digits count value b)
        (cond blank (Goes (Digits 0 value)) (cond return (Goes (LineEnd (Some value))) (Refused BadLength))) ≡ Goes t
        → Next t said (front ++ b ∷ [])
    by true blank return one is_blank is_return e =
        digit (ltb LONGEST_BODY (with_digit value b)) (ltb count MOST_DIGITS) refl refl one e
    by false true return one is_blank is_return e =
        let parts = and_parts (eqb b 32) (eqb count 0) is_blank in
        let space : b ≡ 32 = eqb-true b 32 parts.0 in
        let none : count ≡ 0 = eqb-true count 0 parts.1 in
        let len = f.len in
        let empty : f.digits ≡ [] = nil_from_length f.digits (omega arith) in
        let before : List ℕ = f.name ++ codes ":" in
        let blanks : List ℕ = replicate f.blanks 32 in
        let front_is : front ≡ before ++ blanks =
        f.text ∙ ap (λ (l : List ℕ). (before ++ blanks) ++ l) empty ∙ append-nil (before ++ blanks) in
        let text : front ++ b ∷ [] ≡ (before ++ replicate (f.blanks + 1) 32) ++ [] =
        ap (λ (l : List ℕ). l ++ b ∷ []) front_is ∙ append_assoc before blanks (b ∷ [])
        ∙ ap (λ (x : ℕ). before ++ (blanks ++ x ∷ [])) space ∙ ap (λ (l : List ℕ). before ++ l)
        (replicate_more f.blanks 32)
        ∙ sym (append-nil (before ++ replicate (f.blanks + 1) 32)) in
        subst (λ (r : Reading). Next r said (front ++ b ∷ [])) (goes-is (Digits 0 value) t e)
        (same_line (
          is.0,
          record {
            name = f.name;
            blanks = f.blanks + 1;
            digits = [];
            text = text;
            is_name = f.is_name;
            says_length = f.says_length;
            all = tt;
            len = refl;
            is = ap (digits_value 10) (sym empty) ∙ f.is;
            short = omega arith;
            bounded = f.bounded;
          },
        ))
    by false false true one is_blank is_return e =
        let parts = and_parts (eqb b 13) (ltb 0 count) is_return in
        let return : b ≡ 13 = eqb-true b 13 parts.0 in
        let some : 0 < count = ltb-true 0 count parts.1 in
        let len = f.len in
        let short = f.short in
        subst (λ (r : Reading). Next r said (front ++ b ∷ [])) (goes-is (LineEnd (Some value)) t e)
        (same_line (inr (
          is.0,
          value,
          record {
            name = f.name;
            blanks = f.blanks;
            digits = f.digits;
            text =
                append_assoc front (b ∷ []) (10 ∷ []) ∙ ap (λ (x : ℕ). front ++ x ∷ 10 ∷ []) return ∙ ap
                (λ (l : List ℕ). l ++ 13 ∷ 10 ∷ []) f.text;
            is_name = f.is_name;
            says_length = f.says_length;
            numeral = (omega arith, f.all);
            short = omega arith;
            value = f.is;
            bounded = f.bounded;
          },
          refl,
        )))
    by false false false one is_blank is_return e = absurd cc

-- one more byte, in any state
pub step-front : (r t : Reading) (b : ℕ) (said : Option ℕ) (front : List ℕ) → IsFront r said front → step r b ≡ Goes t
    → Next t said (front ++ b ∷ [])
step-front (Line length) t b said front is e = line-front length t b said front is e
step-front (Name length m) t b said front is e = name-front length m t b said front is e
step-front (Digits count value) t b said front is e = digits-front count value t b said front is e
step-front (Value length) t b said front is e = value-front length t b said front is e
step-front (LineEnd length) t b said front is e = line-end-front length t b said front is e
step-front (End n) t b said front is e = absurd (never (eqb b 10) e)
  where
    never : (feed : Bool) → cond feed (Ends n) (Refused BadHeader) ≡ Goes t → ⊥
    never true e = cc
    never false e = cc

-- only the empty line ends a header
end-front : (r : Reading) (b n : ℕ) (said : Option ℕ) (front : List ℕ) → IsFront r said front → step r b ≡ Ends n
    → (said ≡ Some n) × (front ++ b ∷ [] ≡ codes "\r\n")
end-front (End m) b n said front is e = by (eqb b 10) refl e
  where
    by : (feed : Bool) → eqb b 10 ≡ feed → cond feed (Ends m) (Refused BadHeader) ≡ Ends n
        → (said ≡ Some n) × (front ++ b ∷ [] ≡ codes "\r\n")
    by true feed e =
        let same : m ≡ n = cc in (
          is.0 ∙ ap (λ (k : ℕ). Some k) same,
          ap (λ (l : List ℕ). l ++ b ∷ []) is.1 ∙ ap (λ (x : ℕ). 13 ∷ x ∷ [])
              (eqb-true b 10 feed),
        )
    by false feed e = absurd cc
end-front (Line length) b n said front is e = absurd (by (eqb b 13) (is_name_byte b) e)
  where
    empty : (l : Option ℕ) → end_of l ≡ Ends n → ⊥
    empty None e = cc
    empty (Some k) e = cc

    by : (return named : Bool)
        → cond return (end_of length) (cond named (Goes (Name length (next_match (Some 0) b))) (Refused BadHeader)) ≡
        Ends n → ⊥
    by true named e = empty length e
    by false true e = cc
    by false false e = cc
end-front (Name length m) b n said front is e = absurd (by (eqb b 58) (is_name_byte b) e)
  where
    behind : (l : Option ℕ) (says : Bool) → behind_name l says ≡ Ends n → ⊥
    behind l false e = cc
    behind None true e = cc
    behind (Some k) true e = cc

    by : (colon named : Bool)
        → cond colon (behind_name length (is_length_name m))
        (cond named (Goes (Name length (next_match m b))) (Refused BadHeader)) ≡ Ends n → ⊥
    by true named e = behind length (is_length_name m) e
    by false true e = cc
    by false false e = cc
end-front (Digits count value) b n said front is e =
    absurd (by (is_digit b) (eqb b 32 && eqb count 0) (eqb b 13 && ltb 0 count) e)
  where
    digit : (long fewer : Bool)
        → cond long (Refused TooLong) (cond fewer (Goes (Digits (count + 1) (with_digit value b))) (Refused BadLength))
        ≡ Ends n → ⊥
    digit true fewer e = cc
    digit false true e = cc
    digit false false e = cc

    by : (one blank return : Bool)
        → cond one (more_digits count value b)
        (cond blank (Goes (Digits 0 value)) (cond return (Goes (LineEnd (Some value))) (Refused BadLength))) ≡ Ends
        n → ⊥
    by true blank return e = digit (ltb LONGEST_BODY (with_digit value b)) (ltb count MOST_DIGITS) e
    by false true return e = cc
    by false false true e = cc
    by false false false e = cc
end-front (Value length) b n said front is e = absurd (by (eqb b 13) (eqb b 10) e)
  where
    by : (return feed : Bool)
        → cond return (Goes (LineEnd length)) (cond feed (Refused BadHeader) (Goes (Value length))) ≡ Ends n → ⊥
    by true feed e = cc
    by false true e = cc
    by false false e = cc
end-front (LineEnd length) b n said front is e = absurd (by (eqb b 10) e)
  where
    by : (feed : Bool) → cond feed (Goes (Line length)) (Refused BadHeader) ≡ Ends n → ⊥
    by true e = cc
    by false e = cc

-- ---- the whole header

-- from this state the header ends after h more bytes: what was read of the line and those bytes are lines and an empty
-- one
pub record Ended (said : Option ℕ) (front bytes : List ℕ) (n h : ℕ) : Type 0 where
  pub lines : List (List ℕ)
  pub rest : List ℕ
  pub parts : front ++ bytes ≡ (joined lines ++ codes "\r\n") ++ rest
  pub are_lines : AreLines said lines n
  pub place : length front + h ≡ length (joined lines) + 2

-- a line in front of others
with-line : (said : Option ℕ) (line : List ℕ) (after : Option ℕ) (bytes : List ℕ) (n h : ℕ) → IsLine said line after
    → Ended after [] bytes n h
    → Ended said line bytes n h
with-line said line after bytes n h is e =
    let place = e.place in
    record {
      lines = line ∷ e.lines;
      rest = e.rest;
      parts = ap (λ (l : List ℕ). line ++ l) e.parts ∙ sym (append_assoc line (joined e.lines ++ codes "\r\n") e.rest)
          ∙ ap (λ (l : List ℕ). l ++ e.rest) (sym (append_assoc line (joined e.lines) (codes "\r\n")));
      are_lines = elim is [
        | inl o ↦ inl (o.0, subst (λ (s : Option ℕ). AreLines s e.lines n) o.1 e.are_lines)
        | inr l ↦ inr (l.0, l.1, l.2, subst (λ (s : Option ℕ). AreLines s e.lines n) l.3 e.are_lines)
      ];
      place = omega (arith, length-append line (joined e.lines));
    }

-- one byte goes from the bytes to what was read
one-on : (said : Option ℕ) (front : List ℕ) (b : ℕ) (bs : List ℕ) (n k : ℕ) → Ended said (front ++ b ∷ []) bs n k
    → Ended said front (b ∷ bs) n (1 + k)
one-on said front b bs n k e =
    let place = e.place in
    record {
      lines = e.lines;
      rest = e.rest;
      parts = sym (append_assoc front (b ∷ []) bs) ∙ e.parts;
      are_lines = e.are_lines;
      place = omega (arith, length_push front b);
    }

pub ended-from : (bytes : List ℕ) (r : Reading) (said : Option ℕ) (front : List ℕ) (n h : ℕ) → IsFront r said front
    → head r bytes ≡ heads.Ends n h
    → Ended said front bytes n h
ended-from [] r said front n h is e = absurd cc
ended-from (b ∷ bs) r said front n h is e = by (step r b) refl e (λ t s f k. ended-from bs t s f n k)
  where
    moved : (k : ℕ) → 1 + k ≡ h → Ended said front (b ∷ bs) n (1 + k) → Ended said front (b ∷ bs) n h
    moved k same x = subst (λ (j : ℕ). Ended said front (b ∷ bs) n j) same x

    next : (t : Reading) (k : ℕ) → Next t said (front ++ b ∷ []) → head t bs ≡ heads.Ends n k
        → ((u : Reading) (s : Option ℕ) (f : List ℕ) (j : ℕ) → IsFront u s f → head u bs ≡ heads.Ends n j
        → Ended s f bs n j)
        → Ended said (front ++ b ∷ []) bs n k
    next t k (same_line is_front) ends rest = rest t said (front ++ b ∷ []) k is_front ends
    next t k (next_line after line_is is_line) ends rest =
        with-line said (front ++ b ∷ []) after bs n k is_line
        (rest (Line after) after [] k (refl, refl) (ap (λ (u : Reading). head u bs) (sym line_is) ∙ ends))

    by : (s : Step) → step r b ≡ s → after_step s (λ t. head t bs) ≡ heads.Ends n h
        → ((u : Reading) (s : Option ℕ) (f : List ℕ) (j : ℕ) → IsFront u s f → head u bs ≡ heads.Ends n j
        → Ended s f bs n j)
        → Ended said front (b ∷ bs) n h
    by (Goes t) goes e rest =
        let inner = later-ends 1 (head t bs) n h e in
        moved inner.0 inner.2
        (one-on said front b bs n inner.0 (next t inner.0 (step-front r t b said front is goes) inner.1 rest))
    by (Ends m) goes e rest =
        let length_is : m ≡ n = cc in
        let place : 1 ≡ h = cc in
        let end = end-front r b m said front is goes in
        let all : length front + 1 ≡ 2 = sym (length_push front b) ∙ ap length end.1 in
        record {
          lines = [];
          rest = bs;
          parts = sym (append_assoc front (b ∷ []) bs) ∙ ap (λ (l : List ℕ). l ++ bs) end.1;
          are_lines = end.0 ∙ ap (λ (k : ℕ). Some k) length_is;
          place = omega arith;
        }
    by (Refused f) goes e rest = absurd cc

-- the header that ends after h bytes
pub record Header (bytes : List ℕ) (n h : ℕ) : Type 0 where
  pub header : List ℕ
  pub rest : List ℕ
  pub parts : bytes ≡ header ++ rest
  pub is_header : IsLongHeader header n
  pub len : length header ≡ h

-- What is read as a header is one.
pub header-is : (bytes : List ℕ) (n h : ℕ) → head (Line None) bytes ≡ heads.Ends n h → Header bytes n h
header-is bytes n h e =
    let ended = ended-from bytes (Line None) None [] n h (refl, refl) e in
    let place = ended.place in
    record {
      header = joined ended.lines ++ codes "\r\n";
      rest = ended.rest;
      parts = ended.parts;
      is_header = record { lines = ended.lines; text = refl; are_lines = ended.are_lines };
      len = omega (arith, length-append (joined ended.lines) (codes "\r\n"));
    }
