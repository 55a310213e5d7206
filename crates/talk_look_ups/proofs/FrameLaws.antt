-- What the look-up of frames comes to, as the code computes it.
use Rattle.std.proofs.Common.{◌≡◌, ℕ, zero, suc, ◌<◌, List, [], ◌∷◌, ◌++◌, Option, Some, None, refl, sym, ap, ◌∙◌}
use Rattle.std.proofs.Common.{◌+◌, flat_map, map, option_map, pos, arith, unwrap_or}
use Rattle.std.proofs.lemmas.List.{append-nil}
use Rattle.jdwp_commands.specs.declared.answer.Answer.TheVariants as answers
use Rattle.jdwp_commands.specs.declared.listed.Frame.{Frame}
use Rattle.jdwp_commands.specs.declared.question.Question.TheVariants as questions
use Rattle.jdwp_values.specs.declared.class.LineTable.{LineTable}
use Rattle.jdwp_values.specs.declared.class.Method.{Method}
use Rattle.jdwp_values.specs.declared.id.ClassId.{ClassId}
use Rattle.jdwp_values.specs.declared.id.MethodId.{MethodId}
use Rattle.jdwp_values.specs.declared.id.ThreadId.{ThreadId}
use Rattle.class_tables.specs.declared.loaded.Loaded.{Loaded}
use Rattle.machine_model.specs.Facts.{lines_in, methods_in, signature_in, source_in}
use Rattle.machine_model.specs.Frames.{count_from, count_in, frame_plan, frames_from, frames_in}
use Rattle.machine_model.specs.Frames.{frame_shown, lines_plan, methods_plan, shown_plan, signature_plan}
use Rattle.machine_model.specs.Frames.{source_plan}
use Rattle.machine_model.specs.Plans.{Found, Plan, Sight, after, answer_in, beside, both, chained, each, fact_heard}
use Rattle.machine_model.specs.Plans.{found_from, has, lacks, must_hear, need}
use Rattle.machine_model.specs.State.{State}
use Rattle.machine_model.specs.declared.acts.Sent.{Sent}
use Rattle.machine_model.specs.declared.acts.Want.{Want}
use Rattle.machine_model.specs.declared.parts.Finding.TheVariants.{Frames as frames_found}
use Rattle.talk_look_ups.proofs.PlanLaws.{each_lacks, made_lacks}
use Rattle.session_facts.specs.ClassPlanning.{known_or, lines_heard, lines_lacking, lines_question}
use Rattle.session_facts.specs.ClassPlanning.{unless_heard}
use Rattle.talk_look_ups.specs.FramePlanning.{counted_in, frame_found, frame_lacking, listed_in, listed_plan}
use Rattle.talk_look_ups.specs.FramePlanning.{methods_found, methods_lacking, shown_in, signature_found}
use Rattle.talk_look_ups.specs.FramePlanning.{signature_lacking, source_found, source_lacking, stack_in}
use Rattle.talk_look_ups.specs.Planning.{lacks_or, sight_in}

-- Facts ---------------------------------------------------------------------------------------------------------------

signature_need : (sight : Sight) (class : ClassId)
    → need sight (signature_plan class) ≡ lacks_or (signature_lacking sight class) (signature_found sight class)
unfolding need
signature_need sight class =
    by_known (sight.classes.loaded class) (found_from 0 sight.asked (questions.Signature class))
  where
    by_known : (known : Option Loaded) (found : Option Found)
        → after (fact_heard (questions.Signature class)
        (option_map (λ loaded. Some (answers.Signature loaded.signature)) known) found)
        (λ heard. has (signature_in heard))
        ≡ lacks_or (unless_heard (known_or (option_map (λ loaded. loaded.signature) known) signature_in found)
        (questions.Signature class))
        (unwrap_or (known_or (option_map (λ loaded. loaded.signature) known) signature_in found) [])
    by_known (Some loaded) found = refl
    by_known None None = refl
    by_known None (Some found) = refl

source_need : (sight : Sight) (class : ClassId)
    → need sight (source_plan class) ≡ lacks_or (source_lacking sight class) (source_found sight class)
unfolding need
source_need sight class =
    by_known (sight.classes.source class) (found_from 0 sight.asked (questions.SourceFile class))
  where
    by_source : (source : Option (List ℕ)) → source_in (option_map answers.SourceFile source) ≡ source
    by_source None = refl
    by_source (Some file) = refl

    by_known : (known : Option (Option (List ℕ))) (found : Option Found)
        → after (fact_heard (questions.SourceFile class) (option_map (option_map answers.SourceFile) known) found)
        (λ heard. has (source_in heard))
        ≡ lacks_or (unless_heard (known_or known source_in found) (questions.SourceFile class))
        (unwrap_or (known_or known source_in found) None)
    by_known (Some source) found = ap has (by_source source)
    by_known None None = refl
    by_known None (Some found) = ap has (by_source (source_in (answer_in found.replied)))

methods_need : (sight : Sight) (class : ClassId)
    → need sight (methods_plan class) ≡ lacks_or (methods_lacking sight class) (methods_found sight class)
unfolding need
methods_need sight class =
    by_known (sight.classes.methods class) (found_from 0 sight.asked (questions.Methods class))
  where
    by_known : (known : Option (List Method)) (found : Option Found)
        → after (fact_heard (questions.Methods class) (option_map (λ list. Some (answers.Methods list)) known) found)
        (λ heard. has (methods_in heard))
        ≡ lacks_or (unless_heard (known_or known methods_in found) (questions.Methods class))
        (unwrap_or (known_or known methods_in found) [])
    by_known (Some methods) found = refl
    by_known None None = refl
    by_known None (Some found) = refl

lines_need : (sight : Sight) (class : ClassId) (method : MethodId)
    → need sight (lines_plan class method)
    ≡ lacks_or (lines_lacking sight class method) (unwrap_or (lines_heard sight class method) None)
unfolding need
lines_need sight class method =
    by_known (sight.classes.lines class method) (found_from 0 sight.asked (lines_question class method))
  where
    by_lines : (lines : Option LineTable) → lines_in (option_map answers.LineTable lines) ≡ lines
    by_lines None = refl
    by_lines (Some table) = refl

    by_known : (known : Option (Option LineTable)) (found : Option Found)
        → after (fact_heard (lines_question class method) (option_map (option_map answers.LineTable) known) found)
        (λ heard. has (lines_in heard))
        ≡ lacks_or (unless_heard (known_or known lines_in found) (lines_question class method))
        (unwrap_or (known_or known lines_in found) None)
    by_known (Some lines) found = ap has (by_lines lines)
    by_known None None = refl
    by_known None (Some found) = ap has (by_lines (lines_in (answer_in found.replied)))

-- Frames --------------------------------------------------------------------------------------------------------------

-- two plans side by side that have a value or lack something
both_lacks : {A B : Type 0} (sight : Sight) (p : Plan A) (q : Plan B) (wants more : List Want) (a : A) (b : B)
    → need sight p ≡ lacks_or wants a → need sight q ≡ lacks_or more b
    → need sight (both p q) ≡ lacks_or (wants ++ more) (a, b)
unfolding need
both_lacks {A} {B} sight p q wants more a b is_p is_q =
    ap (λ n. after (beside n (need sight q)) (λ two. has two)) is_p
    ∙ ap (λ n. after (beside (lacks_or wants a) n) (λ two. has two)) is_q
    ∙ by_wants wants more
  where
    by_wants : (wants more : List Want)
        → after (beside (lacks_or wants a) (lacks_or more b)) (λ two. has two) ≡ lacks_or (wants ++ more) (a, b)
    by_wants [] [] = refl
    by_wants [] (want ∷ more) = refl
    by_wants (want ∷ wants) [] = ap (λ rest. lacks want rest) (sym (append-nil wants))
    by_wants (want ∷ wants) (other ∷ more) = refl

frame_need : (state : State) (sight : Sight) (thread : ThreadId) (frame : Frame)
    → need sight (frame_plan state thread frame)
    ≡ lacks_or (frame_lacking sight frame) (frame_found state sight thread frame)
frame_need state sight thread frame =
    let class = frame.at.class in
    made_lacks sight (frame_shown state thread frame) _ _ _
    (both_lacks sight _ _ _ _ _ _
    (both_lacks sight _ _ _ _ _ _ (signature_need sight class) (source_need sight class))
    (both_lacks sight _ _ _ _ _ _ (methods_need sight class) (lines_need sight class frame.at.method)))

-- each of some frames
pub shown_need : (state : State) (asked : List Sent) (thread : ThreadId) (total : ℕ) (frames : List Frame)
    → shown_in (sight_in state asked) state thread total frames
    ≡ lacks_or (flat_map (frame_lacking (sight_in state asked)) frames)
    (frames_found total (map (frame_found state (sight_in state asked) thread) frames))
unfolding shown_in
shown_need state asked thread total frames =
    let sight = sight_in state asked in
    made_lacks sight (frames_found total) (each (frame_plan state thread) frames) _ _
    (each_lacks sight (frame_plan state thread) (frame_lacking sight) (frame_found state sight thread)
    (frame_need state sight thread) frames)

-- so many frames are asked for, and each is shown
pub listed_need : (state : State) (asked : List Sent) (thread : ThreadId) (total start count : ℕ)
    → listed_in (sight_in state asked) state thread total start count
    ≡ after (must_hear (questions.Frames thread (pos start) (pos count))
    (found_from 0 asked (questions.Frames thread (pos start) (pos count))))
    (λ heard. shown_in (sight_in state asked) state thread total (frames_in heard))
unfolding need chained shown_in listed_in
listed_need state asked thread total start count = refl

-- where none is shown none is asked for
pub none_need : (state : State) (asked : List Sent) (thread : ThreadId) (start levels total : ℕ)
    → count_from total start levels ≡ 0
    → counted_in (sight_in state asked) state thread start levels total
    ≡ shown_in (sight_in state asked) state thread total []
unfolding chained counted_in shown_in
none_need state asked thread start levels total none = rw none refl

pub some_need : (state : State) (asked : List Sent) (thread : ThreadId) (start levels total count : ℕ)
    → count ≡ count_from total start levels → 0 < count
    → counted_in (sight_in state asked) state thread start levels total
    ≡ listed_in (sight_in state asked) state thread total start count
unfolding counted_in listed_in
some_need state asked thread start levels total count is some = rw (sym is) (by_count count some)
  where
    by_count : (count : ℕ) → 0 < count
        → need (sight_in state asked) (chained (frames_from thread start count) (shown_plan state thread total))
        ≡ need (sight_in state asked) (listed_plan state thread total start count)
    by_count zero none = absurd (omega (arith, none))
    by_count (suc count) some = refl

-- how many there are, and then those that are shown
pub frames_need : (state : State) (asked : List Sent) (thread : ThreadId) (start levels : ℕ)
    → stack_in (sight_in state asked) state thread start levels
    ≡ after (must_hear (questions.FrameCount thread) (found_from 0 asked (questions.FrameCount thread)))
    (λ heard. counted_in (sight_in state asked) state thread start levels (count_in heard))
unfolding need chained counted_in stack_in
frames_need state asked thread start levels = refl
