-- What a look-up lacks is asked with ids that its sight has: once over plans, and by row what its plan says.
use Rattle.std.proofs.Common.{◌≡◌, ℕ, suc, Bool, true, false, cond, not, List, [], ◌∷◌, Option, Some, None, refl, ◌∙◌}
use Rattle.std.proofs.Common.{option_map, subst, zero}
use Rattle.std.specs.List.{AllByRecursion as All, flat_map}
use Rattle.class_tables.specs.Facts.{Known, same_class}
use Rattle.class_tables.specs.Lookups.{found_in}
use Rattle.class_tables.specs.Tables.{put, under}
use Rattle.jdwp_commands.specs.Commands.{told_question}
use Rattle.jdwp_commands.specs.declared.asked.Asked.TheVariants as commands
use Rattle.jdwp_commands.specs.declared.answer.Answer.TheVariants as answers
use Rattle.jdwp_commands.specs.declared.question.Question.TheVariants as questions
use Rattle.jdwp_values.specs.Classes.{field_row, method_row}
use Rattle.jdwp_values.specs.declared.class.Field.{Field}
use Rattle.jdwp_values.specs.declared.class.Method.{Method}
use Rattle.jdwp_values.specs.declared.id.ClassId.{ClassId}
use Rattle.machine_model.specs.Facts.{fact_known, fact_of}
use Rattle.machine_model.specs.Ids.{Id, class, frame, ids_answered, ids_asked, ids_of, ids_replied, method, no_thread}
use Rattle.machine_model.specs.Ids.{object, thread_of}
use Rattle.machine_model.specs.Keys.{same_question}
use Rattle.machine_model.specs.Names.{Answer, Finding, Lookup, NamedThread, Question, Replied, Sent, ThreadId, Want}
use Rattle.machine_model.specs.Names.{all_threads, an_answer, an_error, threads_found, classes_found, class_facts, Seen}
use Rattle.machine_model.specs.Names.{ShownFrame, ShownVariable, container_children, expression_value, frames_found}
use Rattle.machine_model.specs.Names.{no_value, thread_frames, value_found, variable_write, write_found, Thrown}
use Rattle.machine_model.specs.Names.{exception_found, exception_info, exception_text, text_found, variables_found}
use Rattle.machine_model.specs.Names.{Strike, breakpoint_hits, hits_found}
use Rattle.machine_model.proofs.WriteIds.{IsWrite}
use Rattle.machine_model.specs.Plans.{Found, Need, Plan, Sight, after, answer_in, asks_for, beside, chained, fails}
use Rattle.machine_model.specs.Plans.{found_at, found_from, gives, has, heard_of, lacks, made_with, need, pairs}
use Rattle.machine_model.specs.Plans.{question_of, tries, try_hear, wants}
use Rattle.machine_model.proofs.IdRows.{all_joined, are_plain, none_in}
use Rattle.machine_model.proofs.KeyLaws.{is_one}
use Rattle.stop_refs.specs.declared.thing.FrameThing.{FrameThing}
use Rattle.stop_refs.specs.declared.thing.Thing.{Thing}
use Rattle.stop_refs.specs.declared.thing.Thing.TheVariants as things
use Rattle.class_tables.specs.declared.loaded.Loaded.{Loaded}

-- What may be asked, and what was heard -------------------------------------------------------------------------------

abbrev pub is_sizes : Question → Bool
is_sizes question = same_question question questions.IdSizes

-- a question that may be asked: its ids pass, it has ids and numbers alone, and the sizes are asked before they are
-- known
pub record IsAskable (P : Id → Type 0) (sized : Bool) (question : Question) : Type 0 where
  pub ids : All P (ids_asked (commands.Question question))
  pub plain : are_plain (told_question question) ≡ true
  pub first : is_sizes question ≡ not sized

abbrev pub IsWanted : (Id → Type 0) → Bool → Want → Type 0
IsWanted P sized want = IsAskable P sized (question_of want)

abbrev pub OnSome : {A : Type 0} → (A → Type 0) → Option A → Type 0
OnSome P None = Unit {0}
OnSome P (Some a) = P a

-- an answer without a frame, one to this question, and a reply to it
abbrev pub IsHeard : (Id → Type 0) → Option Answer → Type 0
IsHeard P heard = OnSome (λ answer. All P (ids_answered no_thread answer)) heard

abbrev pub IsHeardOf : (Id → Type 0) → Question → Option Answer → Type 0
IsHeardOf P question heard = OnSome (λ answer. All P (ids_answered (thread_of question) answer)) heard

abbrev pub IsReplied : (Id → Type 0) → Question → Option Replied → Type 0
IsReplied P question reply = OnSome (λ replied. All P (ids_replied (thread_of question) replied)) reply

-- the facts of classes have ids that pass
pub record AreKnown (P : Id → Type 0) (known : Known) : Type 0 where
  pub loaded : All (λ (entry : ClassId × Loaded). P (class entry.0.0)) known.loaded
  pub methods : All (λ entry. All P (flat_map (ids_of method_row) entry.1)) known.methods
  pub fields : All (λ entry. All P (flat_map (ids_of field_row) entry.1)) known.fields
  pub supers : All (λ (entry : ClassId × ClassId). P (class entry.1.0)) known.supers

pub under_some : {K V : Type 0} (Q : V → Type 0) (same : K → K → Bool) (key : K) (entries : List (K × V))
    → All (λ (entry : K × V). Q entry.1) entries → OnSome Q (under same key entries)
under_some Q same key [] h = tt
under_some {K} {V} Q same key (entry ∷ entries) h = by_key (same key entry.0) (under_some Q same key entries h.1)
  where
    by_key : (is : Bool) → OnSome Q (under same key entries) → OnSome Q (cond is (Some entry.1)
        (under same key entries))
    by_key true k = h.0
    by_key false k = k

pub put_all : {K V : Type 0} (Q : V → Type 0) (same : K → K → Bool) (key : K) (value : V) (entries : List (K × V))
    → Q value → All (λ (entry : K × V). Q entry.1) entries → All (λ (entry : K × V). Q entry.1)
    (put same key value entries)
put_all Q same key value [] k h = (k, tt)
put_all {K} {V} Q same key value (entry ∷ entries) k h = by_key (same key entry.0)
    (put_all Q same key value entries k h.1)
  where
    by_key : (is : Bool) → All (λ (entry : K × V). Q entry.1) (put same key value entries)
        → All (λ (entry : K × V). Q entry.1) (cond is ((entry.0, value) ∷ entries) (entry ∷ put same key value entries))
    by_key true rest = (k, h.1)
    by_key false rest = (h.0, rest)

pub put_key : {K V : Type 0} (Q : K → Type 0) (same : K → K → Bool) (key : K) (value : V) (entries : List (K × V))
    → Q key → All (λ (entry : K × V). Q entry.0) entries → All (λ (entry : K × V). Q entry.0)
    (put same key value entries)
put_key Q same key value [] k h = (k, tt)
put_key {K} {V} Q same key value (entry ∷ entries) k h = by_key (same key entry.0)
    (put_key Q same key value entries k h.1)
  where
    by_key : (is : Bool) → All (λ (entry : K × V). Q entry.0) (put same key value entries)
        → All (λ (entry : K × V). Q entry.0) (cond is ((entry.0, value) ∷ entries) (entry ∷ put same key value entries))
    by_key true rest = h
    by_key false rest = (h.0, rest)

mapped : {A B : Type 0} (P : A → Type 0) (Q : B → Type 0) (f : A → B) → ((a : A) → P a → Q (f a)) → (found : Option A)
    → OnSome P found → OnSome Q (option_map f found)
mapped P Q f k None h = tt
mapped P Q f k (Some a) h = k a h

abbrev pub Any : {A : Type 0} → A → Type 0
Any a = Unit {0}

any : {A : Type 0} (found : Option A) → OnSome Any found
any None = tt
any (Some a) = tt

-- a fact that is known, as an answer, has ids that pass
pub fact_some : (P : Id → Type 0) (known : Known) (question : Question) → AreKnown P known
    → OnSome (IsHeardOf P question) (fact_known (found_in known) question)
fact_some P known (questions.Signature c) h =
    mapped Any (IsHeard P) _ (λ loaded k. tt) ((found_in known).loaded c) (any _)
fact_some P known (questions.SourceFile c) h =
    mapped Any (IsHeard P) _ (λ file k. mapped Any _ answers.SourceFile (λ name k. tt) file (any file))
    ((found_in known).source c) (any _)
fact_some P known (questions.Methods c) h = mapped (λ (found : List Method). All P (flat_map (ids_of method_row) found))
    (IsHeard P) _ (λ found k. all_joined P (flat_map (ids_of method_row) found) [] k tt) ((found_in known).methods c)
    (under_some _ same_class c known.methods h.methods)
fact_some P known (questions.Fields c) h = mapped (λ (found : List Field). All P (flat_map (ids_of field_row) found))
    (IsHeard P) _ (λ found k. all_joined P (flat_map (ids_of field_row) found) [] k tt) ((found_in known).fields c)
    (under_some _ same_class c known.fields h.fields)
fact_some P known (questions.Superclass c) h = mapped (λ (above : ClassId). P (class above.0))
    (IsHeard P) _ (λ above k. (k, tt)) ((found_in known).above c) (under_some _ same_class c known.supers h.supers)
fact_some P known (questions.LineTable c m) h = mapped Any (IsHeard P) _
    (λ table k. mapped Any _ answers.LineTable (λ lines k. all_joined P (flat_map (λ line. []) lines.lines) []
    (none_in P lines.lines) tt)
    table (any table)) ((found_in known).lines c m) (any _)
fact_some P known (questions.VariableTable c m) h = mapped Any (IsHeard P) _
    (λ table k. mapped Any _ _ (λ found k. all_joined P (flat_map (λ one. []) found) [] (none_in P found) tt) table
    (any table))
    ((found_in known).variables c m) (any _)
fact_some P known _ h = tt

-- and so has a fact that was replied
pub fact_good : (P : Id → Type 0) → P (class 0) → (question : Question) (heard : Option Answer)
    → IsHeardOf P question heard → IsHeardOf P question (fact_of question heard)
fact_good P null (questions.Signature c) heard h = tt
fact_good P null (questions.SourceFile c) (Some (answers.SourceFile file)) h = tt
fact_good P null (questions.SourceFile c) _ h = tt
fact_good P null (questions.Methods c) (Some (answers.Methods found)) h = h
fact_good P null (questions.Methods c) _ h = tt
fact_good P null (questions.Fields c) (Some (answers.Fields found)) h = h
fact_good P null (questions.Fields c) _ h = tt
fact_good P null (questions.Superclass c) (Some (answers.Superclass above)) h = h
fact_good P null (questions.Superclass c) _ h = (null, tt)
fact_good P null (questions.LineTable c m) (Some (answers.LineTable table)) h = h
fact_good P null (questions.LineTable c m) _ h = tt
fact_good P null (questions.VariableTable c m) (Some (answers.VariableTable count found)) h = h
fact_good P null (questions.VariableTable c m) _ h = tt
fact_good P null _ heard h = h

-- what was asked so far, and its reply: before the sizes are known nothing else is asked
pub record IsAsked (P : Id → Type 0) (sized : Bool) (sent : Sent) : Type 0 where
  pub reply : IsReplied P (question_of sent.want) sent.reply
  pub first : cond sized true (is_sizes (question_of sent.want)) ≡ true

pub reply_heard : (P : Id → Type 0) (question : Question) (replied : Replied)
    → All P (ids_replied (thread_of question) replied) → IsHeardOf P question (answer_in replied)
reply_heard P question (an_answer answer) h = h
reply_heard P question (an_error code) h = tt

abbrev pub IsFound : (Id → Type 0) → Question → Found → Type 0
IsFound P question found = All P (ids_replied (thread_of question) found.replied)

pub found_some : (P : Id → Type 0) (sized : Bool) (place : ℕ) (asked : List Sent) (question : Question)
    → All (IsAsked P sized) asked → OnSome (IsFound P question) (found_from place asked question)
found_some P sized place [] question h = tt
found_some P sized place (sent ∷ asked) question h =
    by_key (asks_for sent question) refl sent.reply h.0.reply (found_some P sized (suc place) asked question h.1)
  where
    by_key : (is : Bool) → asks_for sent question ≡ is → (reply : Option Replied)
        → IsReplied P (question_of sent.want) reply
        → OnSome (IsFound P question) (found_from (suc place) asked question)
        → OnSome (IsFound P question) (cond is (found_at place reply) (found_from (suc place) asked question))
    by_key true same None k rest = tt
    by_key true same (Some replied) k rest =
        subst (λ (q : Question). All P (ids_replied (thread_of q) replied)) (is_one (question_of sent.want) question same) k
    by_key false same reply k rest = rest

-- Needs ---------------------------------------------------------------------------------------------------------------

-- what is lacking may be asked, and a value is good
abbrev pub NeedStands : {A : Type 0} → (Id → Type 0) → (A → Type 0) → Need A → Type 0
NeedStands P Good (has a) = Good a
NeedStands P Good (fails fault) = Unit {0}
NeedStands P Good (lacks want others) = All (IsWanted P true) (want ∷ others)

pub after_stands : {A B : Type 0} (P : Id → Type 0) (Good : A → Type 0) (Best : B → Type 0) (n : Need A) (f : A → Need B)
    → NeedStands P Good n → ((a : A) → Good a → NeedStands P Best (f a)) → NeedStands P Best (after n f)
after_stands P Good Best (has a) f h k = k a h
after_stands P Good Best (fails fault) f h k = tt
after_stands P Good Best (lacks want others) f h k = h

pub beside_stands : {A B : Type 0} (P : Id → Type 0) (Good : A → Type 0) (Best : B → Type 0) (m : Need A) (n : Need B)
    → NeedStands P Good m → NeedStands P Best n → NeedStands P (λ two. Good two.0 × Best two.1) (beside m n)
beside_stands P Good Best (has a) (has b) h k = (h, k)
beside_stands P Good Best (has a) (lacks want others) h k = k
beside_stands P Good Best (fails fault) (has b) h k = tt
beside_stands P Good Best (lacks want others) (has b) h k = h
beside_stands P Good Best (lacks want others) (lacks other more) h k =
    all_joined (IsWanted P true) (want ∷ others) (other ∷ more) h k
beside_stands P Good Best _ _ h k = tt

after_after : {A B C : Type 0} (n : Need A) (f : A → Need B) (g : B → Need C)
    → after n (λ a. after (f a) g) ≡ after (after n f) g
after_after (has a) f g = refl
after_after _ f g = refl

pub after_like : {A B : Type 0} (n : Need A) (f g : A → Need B) → ((a : A) → f a ≡ g a) → after n f ≡ after n g
after_like (has a) f g like = like a
after_like _ f g like = refl

pub need_chained : {A B : Type 0} (sight : Sight) (p : Plan A) (f : A → Plan B)
    → need sight (chained p f) ≡ after (need sight p) (λ a. need sight (f a))
unfolding need chained
need_chained sight (gives a) f = refl
need_chained sight (wants want rest) f =
    after_like (heard_of sight want) _ _ (λ heard. need_chained sight (rest heard) f)
    ∙ after_after (heard_of sight want) (λ heard. need sight (rest heard)) (λ a. need sight (f a))
need_chained sight (tries question rest) f =
    after_like (try_hear question (found_from 0 sight.asked question)) _ _ (λ heard. need_chained sight (rest heard) f)
    ∙ after_after (try_hear question (found_from 0 sight.asked question)) (λ heard. need sight (rest heard))
    (λ a. need sight (f a))
need_chained sight (pairs p q rest) f =
    after_like (beside (need sight p) (need sight q)) _ _ (λ two. need_chained sight (rest two) f)
    ∙ after_after (beside (need sight p) (need sight q)) (λ two. need sight (rest two)) (λ a. need sight (f a))

pub need_made : {A B : Type 0} (sight : Sight) (f : A → B) (p : Plan A)
    → need sight (made_with f p) ≡ after (need sight p) (λ a. has (f a))
unfolding need made_with
need_made sight f (gives a) = refl
need_made sight f (wants want rest) =
    after_like (heard_of sight want) _ _ (λ heard. need_made sight f (rest heard))
    ∙ after_after (heard_of sight want) (λ heard. need sight (rest heard)) (λ a. has (f a))
need_made sight f (tries question rest) =
    after_like (try_hear question (found_from 0 sight.asked question)) _ _ (λ heard. need_made sight f (rest heard))
    ∙ after_after (try_hear question (found_from 0 sight.asked question)) (λ heard. need sight (rest heard))
    (λ a. has (f a))
need_made sight f (pairs p q rest) =
    after_like (beside (need sight p) (need sight q)) _ _ (λ two. need_made sight f (rest two))
    ∙ after_after (beside (need sight p) (need sight q)) (λ two. need sight (rest two)) (λ a. has (f a))

-- What a look-up has of ids -------------------------------------------------------------------------------------------

abbrev pub OfThread : (Id → Type 0) → ThreadId → Type 0
OfThread P thread = P (object thread.0)

-- an object, unless it is null
abbrev pub OfObject : (Id → Type 0) → ℕ → Type 0
OfObject P zero = Unit {0}
OfObject P (suc id) = P (object (suc id))

abbrev pub OfThrown : (Id → Type 0) → Thrown → Type 0
OfThrown P thrown = OfThread P thrown.thread × OfObject P thrown.object.0

abbrev pub OfClass : (Id → Type 0) → ClassId → Type 0
OfClass P c = P (class c.0)

abbrev pub OfMethod : (Id → Type 0) → Method → Type 0
OfMethod P one = P (method one.id.0)

abbrev pub OfNamed : (Id → Type 0) → NamedThread → Type 0
OfNamed P named = P (object named.thread.0)

-- a frame that was told, and what a number stands for
abbrev pub OfFrameThing : (Id → Type 0) → FrameThing → Type 0
OfFrameThing P one =
    P (object one.thread.0) × P (frame one.thread.0 one.frame.0) × P (class one.at.class.0) × P (method one.at.method.0)

abbrev pub OfThing : (Id → Type 0) → Thing → Type 0
OfThing P (things.Frame one) = OfFrameThing P one
OfThing P (things.Locals one) = OfFrameThing P one
OfThing P (things.Object one) = P (object one.0)
OfThing P (things.Array one) = P (object one.0)

abbrev pub OfShownFrame : (Id → Type 0) → ShownFrame → Type 0
OfShownFrame P shown = OfFrameThing P shown.frame

abbrev pub OfSeen : (Id → Type 0) → Seen → Type 0
OfSeen P seen = OnSome (OfThing P) seen.thing

abbrev pub OfShownVariable : (Id → Type 0) → ShownVariable → Type 0
OfShownVariable P shown = OfSeen P shown.seen

-- a strike: its thread, and the class and the method of its place
abbrev pub OfStrike : (Id → Type 0) → Strike → Type 0
OfStrike P strike = OfThread P strike.thread × P (class strike.at.class.0) × P (method strike.at.method.0)

-- what a look-up finds has ids that pass
abbrev pub IsGood : (Id → Type 0) → Finding → Type 0
IsGood P (threads_found named) = All (OfNamed P) named
IsGood P (classes_found classes) = All (OfClass P) classes
IsGood P (frames_found total frames) = All (OfShownFrame P) frames
IsGood P (variables_found shown) = All (OfShownVariable P) shown
IsGood P (value_found seen) = OfSeen P seen
IsGood P (no_value failure) = Unit {0}
IsGood P (write_found write seen) = IsWrite P write
IsGood P (text_found text) = Unit {0}
IsGood P (exception_found name mode) = Unit {0}
IsGood P (hits_found passed logged stops) = All (OfStrike P) stops

-- what a look-up is of
abbrev pub OfLookup : (Id → Type 0) → Lookup → Type 0
OfLookup P all_threads = Unit {0}
OfLookup P (thread_frames thread start levels) = OfThread P thread
OfLookup P (container_children thing filter start count) = OfThing P thing
OfLookup P (expression_value one expression) = OfFrameThing P one
OfLookup P (variable_write thing name text) = OfThing P thing
OfLookup P (exception_text thread one) = OfObject P one.0
OfLookup P (exception_info thrown) = OfObject P thrown.object.0
OfLookup P (breakpoint_hits strikes) = All (OfStrike P) strikes
OfLookup P class_facts = Unit {0}
