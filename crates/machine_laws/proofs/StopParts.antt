-- Which parts an item has that ends the stop: such as ask nothing and show nothing by numbers. And the look-up of frames
-- alone asks for them.
use Rattle.std.proofs.Common.{◌≡◌, Bool, true, false, cond, not, ◌&&◌, ◌||◌, List, [], ◌∷◌, ◌++◌, refl, ◌∙◌, arith, ap}
use Rattle.std.proofs.Common.{ℕ, Option}
use Rattle.std.specs.List.{AllByRecursion as All}
use Rattle.class_tables.specs.Lookups.{found_in}
use Rattle.machine_model.specs.Classes.{classes_plan}
use Rattle.machine_model.specs.Due.{is_listed, lacked_by, with_want, with_wants}
use Rattle.machine_model.specs.Lookups.{finished, sight_of}
use Rattle.machine_model.specs.Plans.{Result, lacking, made_with, need, question_of}
use Rattle.machine_model.specs.Replying.{is_waiting}
use Rattle.machine_model.specs.Rows.{chosen, news_of, parts_of, refused_with, stepped_by}
use Rattle.machine_model.specs.Runs.{Message, Run}
use Rattle.machine_model.specs.State.{Hand, Machine, State}
use Rattle.machine_model.proofs.IdRows.{all_joined, all_weak}
use Rattle.machine_steps.specs.Names.{Writes, a_written, variable_write, Body, Capabilities, Choice, Continued, Decides}
use Rattle.machine_steps.specs.Names.{Judges}
use Rattle.machine_steps.specs.Names.{Failed, Finding, Item, Lookup, Nothing, Outcome, Part, Question, Resume, Sent}
use Rattle.machine_steps.specs.Names.{Success, TellsNews, Want, breakpoint_list, class_facts, classes_found, Stepped}
use Rattle.machine_steps.specs.Names.{of_stop, thread_frames}
use Rattle.machine_laws.proofs.BindingParts.{lacked_safe, looks_apart}
use Rattle.machine_laws.proofs.BindingPlans.{classes_want, is_fact, makes, plan_lacks, wants_fact}
use Rattle.machine_steps.proofs.Frameless.{asks_stack}
use Rattle.machine_laws.proofs.SafePlans.{is_meek, is_safe}
use Rattle.machine_steps.proofs.Stepping.{IsAt}
use Rattle.machine_steps.proofs.Tables.{decided_alike, judged_alike, told_alike}
use Rattle.machine_steps.proofs.Testing.{IsTest, tested, whole}
use Rattle.wish_sets.specs.Wanted.{Wanted}
use Rattle.machine_model.proofs.Bools.{and_second}
use Rattle.std.proofs.lemmas.Bool.{not-true}

-- The end of a stop ---------------------------------------------------------------------------------------------------

-- a part that ends the stop in hand, or may
abbrev pub ends_one : Part → Bool
ends_one (Part.Sends (Resume of_stop)) = true
ends_one (Part.Unfolds Stepped) = true
ends_one _ = false

abbrev pub ends_ahead : List Part → Bool
ends_ahead [] = false
ends_ahead (part ∷ parts) = cond (ends_one part) true (ends_ahead parts)

-- a body that shows nothing by numbers
abbrev pub is_bare_body : Body → Bool
is_bare_body Nothing = true
is_bare_body Capabilities = true
is_bare_body Continued = true
is_bare_body (a_written seen) = true
is_bare_body (breakpoint_list rooted listed) = true
is_bare_body _ = false

abbrev pub is_bare_outcome : Outcome → Bool
is_bare_outcome (Success body) = is_bare_body body
is_bare_outcome (Failed failure) = true

-- a part that asks nothing, and shows nothing by numbers; what comes may begin a stop
abbrev pub is_bare : Part → Bool
is_bare (Part.Responds outcome) = is_bare_outcome outcome
is_bare (Part.Looks lookup) = false
is_bare (Part.Sends (Writes write)) = false
is_bare (Part.Awaits guard) = false
is_bare (Part.Unfolds Judges) = false
is_bare (Part.Unfolds (Decides logged stops)) = false
is_bare _ = true

abbrev pub are_bare : List Part → Bool
are_bare [] = true
are_bare (part ∷ parts) = cond (is_bare part) (are_bare parts) false

-- an item that ends the stop has such parts alone
abbrev pub bare_ends : Bool → List Part → Bool
bare_ends gone parts = cond (ends_ahead parts) (are_bare parts) true

tail_bare : (part : Part) (rest : List Part) → bare_ends false (part ∷ rest) ≡ true → bare_ends false rest ≡ true
tail_bare part rest is = by_tests (ends_one part) (ends_ahead rest) (is_bare part) (are_bare rest) is
  where
    by_tests : (ends behind bare others : Bool) → cond (cond ends true behind) (cond bare others false) true ≡ true
        → cond behind others true ≡ true
    by_tests ends behind bare others is = grind (arith, is)

begun_bare : (state : State) (item : Item) → bare_ends false (parts_of state item) ≡ true
begun_bare state item = grind arith

-- parts that don't end the stop
none_ends : (parts : List Part) (ends : Bool) → ends_ahead parts ≡ ends → cond ends false true ≡ true
    → bare_ends false parts ≡ true
none_ends parts true same is = cc
none_ends parts false same is = ap (λ (ends : Bool). cond ends (are_bare parts) true) same

chosen_bare : (choice : Choice) (state : State) (hand : Hand) (rest : List Part)
    → bare_ends false (Part.Unfolds choice ∷ rest) ≡ true → bare_ends false (chosen choice state hand ++ rest) ≡ true
chosen_bare (TellsNews below) state hand rest is =
    told_alike (bare_ends false) (λ news parts. refl) state.phase (news_of below state hand.item) rest ∙ is
chosen_bare Judges state hand rest is = none_ends (chosen Judges state hand ++ rest) (ends_ahead rest)
    (judged_alike ends_ahead (λ strikes parts. refl) state hand.item rest) is
chosen_bare (Decides logged stops) state hand rest is =
    none_ends (chosen (Decides logged stops) state hand ++ rest) (ends_ahead rest)
    (decided_alike ends_ahead (λ thrown parts. refl) (λ stopping parts. refl) (λ thread object parts. refl)
    (λ parts. refl) (λ parts. refl) (λ text texts strikes parts. refl) state logged stops hand.item rest) is
chosen_bare Stepped state hand rest is = by_code (refused_with hand.effect)
  where
    by_code : (code : Option ℕ) → bare_ends false (stepped_by code ++ rest) ≡ true
    by_code code = grind arith
chosen_bare _ state hand rest is = grind (arith, is)

found_bare : (lookup : Lookup) (result : Result Finding) (state : State) (rest : List Part)
    → bare_ends false (Part.Looks lookup ∷ rest) ≡ true → bare_ends false (finished lookup result state ++ rest) ≡ true
found_bare lookup result state rest is = by_lookup lookup
  where
    no_end : (ends bare : Bool) → cond ends false true ≡ true → cond ends bare true ≡ true
    no_end ends bare is = grind (arith, is)

    by_lookup : (lookup : Lookup) → bare_ends false (finished lookup result state ++ rest) ≡ true
    by_lookup (variable_write thing name text) = grind (arith, is)
    by_lookup _ = no_end (ends_ahead rest) _ is

pub bare_test : IsTest bare_ends
bare_test = record {
  none = λ gone. refl;
  tail = λ gone part rest is. tail_bare part rest is;
  begins = begun_bare;
  unfolds = chosen_bare;
  finds = found_bare;
  gives_up = λ responds item. grind arith;
}

-- which parts are left where the stop ends
pub bare_parts : {messages : List Message} {m : Machine} {hand : Hand} {part : Part} {rest : List Part} → Run messages m
    → IsAt m hand part rest → ends_one part ≡ true → are_bare rest ≡ true
bare_parts {m = m} {part = part} {rest} r at ends =
    by_tests (ends_one part) (ends_ahead rest) (is_bare part) (are_bare rest) ends (whole bare_ends (tested bare_test r) at)
  where
    by_tests : (ends behind bare others : Bool) → ends ≡ true
        → cond (cond ends true behind) (cond bare others false) true ≡ true → others ≡ true
    by_tests ends behind bare others fits is = grind (arith, fits, is)

-- Frames that are asked for -------------------------------------------------------------------------------------------

abbrev pub looks_frames : Part → Bool
looks_frames (Part.Looks (thread_frames thread start levels)) = true
looks_frames _ = false

abbrev pub frames_ahead : List Part → Bool
frames_ahead [] = false
frames_ahead (part ∷ parts) = cond (looks_frames part) true (frames_ahead parts)

abbrev pub IsCalm : Want → Type 0
IsCalm want = asks_stack (question_of want) ≡ false

abbrev pub IsCalmSent : Sent → Type 0
IsCalmSent sent = IsCalm sent.want

-- the look-up of classes asks for no frames
fact_calm : (want : Want) → wants_fact want ≡ true → IsCalm want
fact_calm (Want.Fact question) is = by_question question is
  where
    by_question : (question : Question) → is_fact question ≡ true → asks_stack question ≡ false
    by_question question is = grind (arith, is)
fact_calm _ is = cc

classes_calm : (unlisted : Bool) (wanted : Wanted) (state : State) (hand : Hand)
    → All IsCalm (lacking (need (sight_of state hand)
    (made_with classes_found (classes_plan unlisted wanted (found_in state.classes)))))
classes_calm unlisted wanted state hand = all_weak (λ want. not (asks_stack (question_of want)) ≡ true) IsCalm
    (λ want is. not-true (asks_stack (question_of want)) is) _
    (plan_lacks (λ want. not (asks_stack (question_of want))) (sight_of state hand)
    (made_with classes_found (classes_plan unlisted wanted (found_in state.classes)))
    (makes _ classes_found _ (classes_want _ refl (λ want is. ap not (fact_calm want is)) unlisted wanted
    (found_in state.classes))))

-- what a part lacks that doesn't look up frames
pub lacked_calm : (state : State) (hand : Hand) (parts : List Part) → frames_ahead parts ≡ false
    → All IsCalm (lacked_by state hand parts)
lacked_calm state hand (Part.Looks class_facts ∷ rest) none = classes_calm state.unlisted state.wishes.wanted state hand
lacked_calm state hand parts none = by_apart (looks_apart parts) refl
  where
    by_apart : (apart : Bool) → looks_apart parts ≡ apart → All IsCalm (lacked_by state hand parts)
    by_apart false is = all_weak (λ want. is_safe want ≡ true) IsCalm
        (λ want safe. not-true (asks_stack (question_of want))
        (and_second (is_meek want) (not (asks_stack (question_of want))) safe)) (lacked_by state hand parts)
        (lacked_safe state hand parts is)
    by_apart true is = cc

pub lacked_none : (state : State) (hand : Hand) (parts : List Part) → are_bare parts ≡ true → lacked_by state hand parts ≡ []
lacked_none state hand parts bare = grind (arith, bare)

pub taken_calm : (asked : List Sent) (queue wants : List Want) → All IsCalm queue → All IsCalm wants
    → All IsCalm (with_wants asked queue wants)
taken_calm asked queue [] h k = h
taken_calm asked queue (want ∷ wants) h k = taken_calm asked (with_want asked queue want) wants
    (by_test (is_waiting (question_of want) asked) (is_listed (question_of want) queue)) k.1
  where
    by_test : (waits listed : Bool) → All IsCalm (cond (waits || listed) queue (queue ++ want ∷ []))
    by_test false false = all_joined IsCalm queue (want ∷ []) h (k.0, tt)
    by_test _ _ = h
