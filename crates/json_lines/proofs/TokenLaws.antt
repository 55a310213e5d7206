-- The texts of a tree that is read of a text in UTF-8 are UTF-8, and its numbers are.
use Rattle.std.proofs.Common.{◌≡◌, ℕ, zero, suc, Bool, true, false, cond, ◌==◌, List, [], ◌∷◌, length, Option, Some}
use Rattle.std.proofs.Common.{None}
use Rattle.std.proofs.Common.{option_and_then, refl, subst}
use Rattle.std.specs.Str.{IsUtf8}
use Rattle.std.proofs.lemmas.Bool.{eqb-true}
use Rattle.json.specs.Token.{Token, begin_object, end_object, begin_array, end_array, key, string, number, boolean}
use Rattle.json.specs.Token.{null, bad}
use Rattle.json.specs.Text.{content, plain}
use Rattle.json.specs.Word.{head, ends_word, number_before, after_number, word, is_operator, is_space}
use Rattle.json.specs.Lex.{Lexeme, token, comma, colon, Class, quote, backslash, operator, space, other, class}
use Rattle.json.specs.Lex.{operator_lexeme}
use Rattle.json.specs.Lex.{string_token, Mode, between, in_word, in_string, in_escape, lex_byte, lex, Place, fresh}
use Rattle.json.specs.Lex.{after_value}
use Rattle.json.specs.Lex.{after_comma, after_key, begins_colon, may_begin, may_close, if_allowed, place_token}
use Rattle.json.specs.Lex.{punctuate, tokens}
use Rattle.json.specs.Json.{Json, array, object, Items, no_items, item, Members, no_members, member, Parse, parse_map}
use Rattle.json.specs.Json.{after_end_array, read_key, items_step, members_step, items, members, value_with, value}
use Rattle.json.specs.Json.{if_last}
use Rattle.json_lines.proofs.TextLaws.{content_is_text, AreQuoted, are_quoted}

-- ---- tokens

abbrev IsSaid : Token → Type 0
IsSaid begin_object = Unit {0}
IsSaid end_object = Unit {0}
IsSaid begin_array = Unit {0}
IsSaid end_array = Unit {0}
IsSaid (key s) = IsUtf8 s
IsSaid (string s) = IsUtf8 s
IsSaid (number s) = Unit {0}
IsSaid (boolean b) = Unit {0}
IsSaid null = Unit {0}
IsSaid bad = Unit {0}

abbrev AreSaid : List Token → Type 0
AreSaid [] = Unit {0}
AreSaid (t ∷ ts) = IsSaid t × AreSaid ts

one_of : (b : Bool) (x y : Token) → IsSaid x → IsSaid y → IsSaid (cond b x y)
one_of true x y p q = p
one_of false x y p q = q

number_said : (t : List ℕ) (o : Option (List ℕ)) → IsSaid (number_before t o)
number_said t None = tt
number_said t (Some rest) = one_of (ends_word rest) _ bad tt tt

word_said : (t : List ℕ) → IsSaid (word t)
unfolding word
word_said t =
    one_of (head t == 116) _ _ (one_of _ (boolean true) bad tt tt)
    (one_of (head t == 102) _ _ (one_of _ (boolean false) bad tt tt)
    (one_of (head t == 110) _ _ (one_of _ null bad tt tt) (number_said t (after_number t))))

abbrev IsLexeme : Lexeme → Type 0
IsLexeme (token t) = IsSaid t
IsLexeme comma = Unit {0}
IsLexeme colon = Unit {0}

abbrev AreLexemes : List Lexeme → Type 0
AreLexemes [] = Unit {0}
AreLexemes (l ∷ ls) = IsLexeme l × AreLexemes ls

mark : (b : Bool) (x y : Lexeme) → IsLexeme x → IsLexeme y → IsLexeme (cond b x y)
mark true x y p q = p
mark false x y p q = q

marks : (x : ℕ) → IsLexeme (operator_lexeme x)
marks x =
    mark (x == 123) (token begin_object) _ tt
    (mark (x == 125) (token end_object) _ tt
    (mark (x == 91) (token begin_array) _ tt
    (mark (x == 93) (token end_array) _ tt (mark (x == 44) comma colon tt tt))))

string_said : (xs : List ℕ) (o : Option (List ℕ)) → content plain xs ≡ o → IsUtf8 xs → IsSaid (string_token o)
string_said xs None e utf8 = tt
string_said xs (Some s) e utf8 = content_is_text xs s utf8 e

byte_said : (m : Mode) (c : Class) (x : ℕ) (xs : List ℕ) (k : Mode → List Lexeme) → (c ≡ quote → IsUtf8 xs) →
    ((n : Mode) → AreLexemes (k n)) → AreLexemes (lex_byte m c x xs k)
byte_said between quote x xs k quoted h = (string_said xs (content plain xs) refl (quoted refl), h in_string)
byte_said between backslash x xs k quoted h = (tt, h in_word)
byte_said between operator x xs k quoted h = (marks x, h between)
byte_said between space x xs k quoted h = h between
byte_said between other x xs k quoted h = (word_said (x ∷ xs), h in_word)
byte_said in_word quote x xs k quoted h = h in_word
byte_said in_word backslash x xs k quoted h = h in_word
byte_said in_word operator x xs k quoted h = (marks x, h between)
byte_said in_word space x xs k quoted h = h between
byte_said in_word other x xs k quoted h = h in_word
byte_said in_string quote x xs k quoted h = h between
byte_said in_string backslash x xs k quoted h = h in_escape
byte_said in_string operator x xs k quoted h = h in_string
byte_said in_string space x xs k quoted h = h in_string
byte_said in_string other x xs k quoted h = h in_string
byte_said in_escape c x xs k quoted h = h in_string

-- only a quote is of its class
abbrev NotQuote : Class → Type 0
NotQuote quote = ⊥
NotQuote backslash = Unit {0}
NotQuote operator = Unit {0}
NotQuote space = Unit {0}
NotQuote other = Unit {0}

some_of : (b : Bool) (p q : Class) → NotQuote p → NotQuote q → NotQuote (cond b p q)
some_of true p q h k = h
some_of false p q h k = k

abbrev no_quote : ℕ → Class
no_quote x = cond (x == 92) backslash (cond (is_operator x) operator (cond (is_space x) space other))

no_quote_said : (x : ℕ) → NotQuote (no_quote x)
no_quote_said x =
    some_of (x == 92) backslash _ tt (some_of (is_operator x) operator _ tt (some_of (is_space x) space other tt tt))

class_quote : (b : Bool) (x : ℕ) → (x == 34) ≡ b → cond b quote (no_quote x) ≡ quote → x ≡ 34
class_quote true x is e = eqb-true x 34 is
class_quote false x is e = absurd (subst NotQuote e (no_quote_said x))

lexemes_said : (xs : List ℕ) (m : Mode) → AreQuoted xs → AreLexemes (lex m xs)
unfolding lex
lexemes_said [] m quoted = tt
lexemes_said (x ∷ xs) m quoted =
    byte_said m (class x) x xs (λ n. lex n xs) (λ e. quoted.0 (class_quote (x == 34) x refl e))
    (λ n. lexemes_said xs n quoted.1)

allowed : (b : Bool) (t : Token) (k : Place → List Token) (next : Place) → IsSaid t → AreSaid (k next) →
    AreSaid (if_allowed b t k next)
allowed true t k next p q = (p, q)
allowed false t k next p q = (tt, tt)

placed : (p : Place) (t : Token) (b : Bool) (k : Place → List Token) → IsSaid t → ((n : Place) → AreSaid (k n)) →
    AreSaid (place_token p t b k)
placed p begin_object b k q h = allowed (may_begin p) begin_object k fresh q (h fresh)
placed p end_object b k q h = allowed (may_close p) end_object k after_value q (h after_value)
placed p begin_array b k q h = allowed (may_begin p) begin_array k fresh q (h fresh)
placed p end_array b k q h = allowed (may_close p) end_array k after_value q (h after_value)
placed p (key s) b k q h = (tt, tt)
placed p (string s) true k q h = allowed (may_begin p) (key s) k after_key q (h after_key)
placed p (string s) false k q h = allowed (may_begin p) (string s) k after_value q (h after_value)
placed p (number s) b k q h = allowed (may_begin p) (number s) k after_value q (h after_value)
placed p (boolean v) b k q h = allowed (may_begin p) (boolean v) k after_value q (h after_value)
placed p null b k q h = allowed (may_begin p) null k after_value q (h after_value)
placed p bad b k q h = (tt, tt)

punctuated : (ls : List Lexeme) → AreLexemes ls → (p : Place) → AreSaid (punctuate p ls)
unfolding punctuate
punctuated [] h fresh = tt
punctuated [] h after_value = tt
punctuated [] h after_comma = (tt, tt)
punctuated [] h after_key = (tt, tt)
punctuated (token t ∷ ls) h p = placed p t (begins_colon ls) (λ n. punctuate n ls) h.0 (punctuated ls h.1)
punctuated (comma ∷ ls) h fresh = (tt, tt)
punctuated (comma ∷ ls) h after_value = punctuated ls h.1 after_comma
punctuated (comma ∷ ls) h after_comma = (tt, tt)
punctuated (comma ∷ ls) h after_key = (tt, tt)
punctuated (colon ∷ ls) h fresh = (tt, tt)
punctuated (colon ∷ ls) h after_value = (tt, tt)
punctuated (colon ∷ ls) h after_comma = (tt, tt)
punctuated (colon ∷ ls) h after_key = punctuated ls h.1 fresh

tokens_said : (text : List ℕ) → IsUtf8 text → AreSaid (tokens text)
tokens_said text utf8 = punctuated (lex between text) (lexemes_said text between (are_quoted text utf8)) fresh

-- ---- trees

abbrev mutual
  pub HasTexts : Json → Type 0
  HasTexts Json.null = Unit {0}
  HasTexts (Json.boolean b) = Unit {0}
  HasTexts (Json.number s) = Unit {0}
  HasTexts (Json.string s) = IsUtf8 s
  HasTexts (array js) = ItemsHaveTexts js
  HasTexts (object ms) = MembersHaveTexts ms

  pub ItemsHaveTexts : Items → Type 0
  ItemsHaveTexts no_items = Unit {0}
  ItemsHaveTexts (item j js) = HasTexts j × ItemsHaveTexts js

  pub MembersHaveTexts : Members → Type 0
  MembersHaveTexts no_members = Unit {0}
  MembersHaveTexts (member k j ms) = IsUtf8 k × (HasTexts j × MembersHaveTexts ms)

abbrev Gives : {A : Type 0} → (A → Type 0) → Option (A × List Token) → Type 0
Gives Q None = Unit {0}
Gives Q (Some p) = Q p.0 × AreSaid p.1

abbrev Keeps : {A : Type 0} → (A → Type 0) → Parse A → Type 0
Keeps Q p = (ts : List Token) → AreSaid ts → Gives Q (p ts)

mapped : {A B : Type 0} (P : A → Type 0) (Q : B → Type 0) (f : A → B) → ((a : A) → P a → Q (f a)) →
    (o : Option (A × List Token)) → Gives P o → Gives Q (parse_map f o)
mapped P Q f g None h = tt
mapped P Q f g (Some p) h = (g p.0 h.0, h.1)

and_more : {B : Type 0} (Q : B → Type 0) (f : Json → B → B) → ((j : Json) (b : B) → HasTexts j → Q b → Q (f j b)) →
    (more : Parse B) → Keeps Q more → (o : Option (Json × List Token)) → Gives HasTexts o →
    Gives Q (option_and_then (λ q. parse_map (f q.0) (more q.1)) o)
and_more Q f g more keeps None h = tt
and_more Q f g more keeps (Some q) h = mapped Q Q (f q.0) (λ b. g q.0 b h.0) (more q.1) (keeps q.1 h.1)

abbrev Rest : Option (List Token) → Type 0
Rest None = Unit {0}
Rest (Some r) = AreSaid r

closing : (ts : List Token) → AreSaid ts → Rest (after_end_array ts)
closing [] h = tt
closing (begin_object ∷ ts) h = tt
closing (end_object ∷ ts) h = tt
closing (begin_array ∷ ts) h = tt
closing (end_array ∷ ts) h = h.1
closing (key s ∷ ts) h = tt
closing (string s ∷ ts) h = tt
closing (number s ∷ ts) h = tt
closing (boolean v ∷ ts) h = tt
closing (null ∷ ts) h = tt
closing (bad ∷ ts) h = tt

abbrev IsName : Option (List ℕ) → Type 0
IsName None = Unit {0}
IsName (Some k) = IsUtf8 k

naming : Keeps IsName read_key
naming [] h = tt
naming (begin_object ∷ ts) h = tt
naming (end_object ∷ ts) h = (tt, h.1)
naming (begin_array ∷ ts) h = tt
naming (end_array ∷ ts) h = tt
naming (key s ∷ ts) h = (h.0, h.1)
naming (string s ∷ ts) h = tt
naming (number s ∷ ts) h = tt
naming (boolean v ∷ ts) h = tt
naming (null ∷ ts) h = tt
naming (bad ∷ ts) h = tt

module _ (p : Parse Json) (keeps : Keeps HasTexts p) where
  item_turn : (more : Parse Items) → Keeps ItemsHaveTexts more → (ts : List Token) → AreSaid ts →
      (o : Option (List Token)) → Rest o → Gives ItemsHaveTexts (items_step p more ts o)
  item_turn more again ts h (Some r) q = (tt, q)
  item_turn more again ts h None q =
      and_more ItemsHaveTexts item (λ j b x y. (x, y)) more again (p ts) (keeps ts h)

  keeps_items : (n : ℕ) → Keeps ItemsHaveTexts (items p n)
  unfolding items
  keeps_items zero ts h = tt
  keeps_items (suc n) ts h = item_turn (items p n) (keeps_items n) ts h (after_end_array ts) (closing ts h)

  member_turn : (more : Parse Members) → Keeps MembersHaveTexts more → (o : Option (Option (List ℕ) × List Token)) →
      Gives IsName o → Gives MembersHaveTexts (option_and_then (λ q. members_step p more q.0 q.1) o)
  member_turn more again None h = tt
  member_turn more again (Some (None, ts)) h = (tt, h.1)
  member_turn more again (Some (Some k, ts)) h =
      and_more MembersHaveTexts (member k) (λ j b x y. (h.0, (x, y))) more again (p ts) (keeps ts h.1)

  keeps_members : (n : ℕ) → Keeps MembersHaveTexts (members p n)
  unfolding members
  keeps_members zero ts h = tt
  keeps_members (suc n) ts h = member_turn (members p n) (keeps_members n) (read_key ts) (naming ts h)

keeps_one : (a : Parse Items) (o : Parse Members) → Keeps ItemsHaveTexts a → Keeps MembersHaveTexts o →
    Keeps HasTexts (value_with a o)
keeps_one a o p q [] h = tt
keeps_one a o p q (begin_object ∷ ts) h = mapped MembersHaveTexts HasTexts object (λ m x. x) (o ts) (q ts h.1)
keeps_one a o p q (end_object ∷ ts) h = tt
keeps_one a o p q (begin_array ∷ ts) h = mapped ItemsHaveTexts HasTexts array (λ m x. x) (a ts) (p ts h.1)
keeps_one a o p q (end_array ∷ ts) h = tt
keeps_one a o p q (key s ∷ ts) h = tt
keeps_one a o p q (string s ∷ ts) h = h
keeps_one a o p q (number s ∷ ts) h = h
keeps_one a o p q (boolean v ∷ ts) h = h
keeps_one a o p q (null ∷ ts) h = h
keeps_one a o p q (bad ∷ ts) h = tt

keeps_value : (deep : ℕ) → Keeps HasTexts (value deep)
unfolding value
keeps_value zero = keeps_one (λ ts. None) (λ ts. None) (λ ts h. tt) (λ ts h. tt)
keeps_value (suc deep) =
    keeps_one (λ ts. items (value deep) (length ts) ts) (λ ts. members (value deep) (length ts) ts)
    (λ ts. keeps_items (value deep) (keeps_value deep) (length ts) ts)
    (λ ts. keeps_members (value deep) (keeps_value deep) (length ts) ts)

abbrev IfFound : Option Json → Type 0
IfFound None = Unit {0}
IfFound (Some j) = HasTexts j

last_said : (o : Option (Json × List Token)) → Gives HasTexts o → IfFound (option_and_then (λ p. if_last p.0 p.1) o)
last_said None h = tt
last_said (Some (j, [])) h = h.0
last_said (Some (j, t ∷ ts)) h = tt

pub tree_has_texts : (text : List ℕ) (deep : ℕ) (j : Json) → IsUtf8 text →
    option_and_then (λ p. if_last p.0 p.1) (value deep (tokens text)) ≡ Some j → HasTexts j
tree_has_texts text deep j utf8 e =
    subst IfFound e (last_said (value deep (tokens text)) (keeps_value deep (tokens text) (tokens_said text utf8)))
