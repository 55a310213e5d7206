-- With which errors look-ups fail.
use Rattle.std.proofs.Common.{◌≡◌, ℕ, zero, suc, Bool, true, false, List, [], ◌∷◌, refl, ap, ◌∙◌, ⊎_elim}
use Rattle.std.specs.Prelude.{if◌then◌else◌, length, nat_lt, ok_or, pos, ◌^◌, ◌==◌, Option, Some, None, Result, Ok}
use Rattle.std.specs.Prelude.{Err}
use Rattle.jdwp_commands.specs.declared.answer.Answer.{Answer}
use Rattle.jdwp_commands.specs.declared.answer.Answer.TheVariants as answers
use Rattle.jdwp_commands.specs.declared.asked.Replied.TheVariants.{Error as an_error}
use Rattle.jdwp_commands.specs.declared.listed.Frame.{Frame}
use Rattle.jdwp_commands.specs.declared.question.Question.{Question}
use Rattle.jdwp_commands.specs.declared.question.Question.TheVariants as questions
use Rattle.jdwp_values.specs.declared.id.ThreadId.{ThreadId}
use Rattle.machine_model.specs.Facts.{lines_in, methods_in, signature_in, source_in}
use Rattle.machine_model.specs.Frames.{count_from, count_in, frame_plan, frames_from, frames_in, frames_plan}
use Rattle.machine_model.specs.Frames.{lines_plan, methods_plan, shown_plan, signature_plan, source_plan}
use Rattle.machine_model.specs.Lookups.{name_plan, named_by, threads_in, threads_plan}
use Rattle.machine_model.specs.PlanLaws.{IsRefused, Reaches, RepliedAt}
use Rattle.machine_model.specs.Plans.{Fault, Plan, Sight, asking, both, chained, each, joined, made_with}
use Rattle.machine_model.specs.State.{State}
use Rattle.machine_model.specs.declared.acts.Want.{Want}
use Rattle.machine_model.specs.declared.parts.Finding.TheVariants as found
use Rattle.shown_worlds.specs.FailureRows.{why_no_frames}
use Rattle.shown_worlds.specs.Failures.{Fails, IsSaidBy}
use Rattle.world_model.specs.Classes.{and_then}
use Rattle.world_model.specs.Codes.{invalid_thread, not_implemented, told, vm_dead}
use Rattle.world_model.specs.Replies.{living_reply}
use Rattle.world_model.specs.Threads.{counted, frame_count_in, frames_of, is_alive}
use Rattle.world_model.specs.Threads as threads
use Rattle.world_model.specs.declared.world.World.{World}

-- Plans that meet no error --------------------------------------------------------------------------------------------

-- the plan has met an error
abbrev Meets : {A : Type 0} → Sight → Fault → Plan A → Type 0
Meets sight fault p = Reaches sight (IsRefused sight fault) p

-- a fact of a class may be absent
fact_none : {A : Type 0} (sight : Sight) (fault : Fault) (read : Option Answer → A) (question : Question)
    → Meets sight fault (asking read (Want.Fact question)) → ⊥
fact_none sight fault read question h = ⊎_elim (λ here. here) (λ more. more.2) h

name_none : {A : Type 0} (sight : Sight) (fault : Fault) (read : Option Answer → A) (question : Question)
    → Meets sight fault (asking read (Want.May question)) → ⊥
name_none sight fault read question h = ⊎_elim (λ here. here) (λ more. more.2) h

both_none : {A B : Type 0} (sight : Sight) (fault : Fault) (p : Plan A) (q : Plan B) → (Meets sight fault p → ⊥)
    → (Meets sight fault q → ⊥) → Meets sight fault (both p q) → ⊥
both_none sight fault p q first second h = ⊎_elim (λ either. ⊎_elim first second either) (λ more. more.3) h

each_none : {A B : Type 0} (sight : Sight) (fault : Fault) (f : A → Plan B) → ((a : A) → Meets sight fault (f a) → ⊥)
    → (items : List A) → Meets sight fault (each f items) → ⊥
unfolding each
each_none sight fault f none [] h = h
each_none sight fault f none (a ∷ others) h =
    ⊎_elim (λ either. ⊎_elim (none a) (each_none sight fault f none others) either) (λ more. more.3) h

made_none : {A B C : Type 0} (sight : Sight) (fault : Fault) (f : A → Plan B) (g : List B → C)
    → ((a : A) → Meets sight fault (f a) → ⊥) → (items : List A) → Meets sight fault (made_with g (each f items)) → ⊥
unfolding each made_with
made_none sight fault f g none [] h = h
made_none sight fault f g none (a ∷ others) h =
    ⊎_elim (λ either. ⊎_elim (none a) (each_none sight fault f none others) either) (λ more. more.3) h

frame_none : (sight : Sight) (fault : Fault) (state : State) (thread : ThreadId) (frame : Frame)
    → Meets sight fault (frame_plan state thread frame) → ⊥
unfolding made_with
frame_none sight fault state thread frame h =
    ⊎_elim (λ either. ⊎_elim
    (both_none sight fault (signature_plan frame.at.class) (source_plan frame.at.class)
    (fact_none sight fault signature_in (questions.Signature frame.at.class))
    (fact_none sight fault source_in (questions.SourceFile frame.at.class)))
    (both_none sight fault (methods_plan frame.at.class) (lines_plan frame.at.class frame.at.method)
    (fact_none sight fault methods_in (questions.Methods frame.at.class))
    (fact_none sight fault lines_in (questions.LineTable frame.at.class frame.at.method)))
    either) (λ more. more.3) h

-- Errors --------------------------------------------------------------------------------------------------------------

-- an error that was replied is the world's
error_said : (w : World) (sight : Sight) (fault : Fault) (question : Question) → w.dead ≡ false → IsSaidBy w sight
    → RepliedAt fault.place sight.asked question (an_error fault.code) → an_error fault.code ≡ living_reply w question
error_said w sight fault question alive said h =
    said question (an_error fault.code) (record { place = fault.place; stands = h })
    ∙ ap (λ dead. if dead then an_error vm_dead else living_reply w question) alive

pub told_error : {A : Type 0} (answer : A → Answer) (r : Result A ℕ) (code why : ℕ) → ((c : ℕ) → r ≡ Err c → c ≡ why)
    → an_error code ≡ told answer r → code ≡ why
told_error answer (Ok a) code why so is = cc
told_error answer (Err c) code why so is = (let same : code ≡ c = cc in same) ∙ so c refl

pub may_error : {A : Type 0} (alive runs : Bool) (r : Result A ℕ) → ((c : ℕ) → r ≡ Err c → c ≡ not_implemented) → (c : ℕ)
    → and_then (λ (u : Unit {0}). r)
    (if alive then if runs then Err not_implemented else Ok tt else Err invalid_thread) ≡ Err c
    → c ≡ (if alive then not_implemented else invalid_thread)
may_error true true r so c is = cc
may_error true false r so c is = so c is
may_error false true r so c is = cc
may_error false false r so c is = cc

pub counted_error : (n : ℕ) (few : Bool) (c : ℕ)
    → ◌≡◌ {A = Result ℕ ℕ} (if few then Ok n else Err not_implemented) (Err c) → c ≡ not_implemented
counted_error n true c is = cc
counted_error n false c is = cc

pub found_error : {A : Type 0} (o : Option A) (c : ℕ) → ok_or o not_implemented ≡ Err c → c ≡ not_implemented
found_error None c is = cc
found_error (Some a) c is = cc

-- Look-ups ------------------------------------------------------------------------------------------------------------

threads_fail : (w : World) (sight : Sight) (fault : Fault) → w.dead ≡ false → IsSaidBy w sight
    → Meets sight fault threads_plan → ⊥
unfolding chained
threads_fail w sight fault alive said h =
    ⊎_elim (λ here. let is = error_said w sight fault questions.AllThreads alive said here in cc)
    (λ more. made_none sight fault name_plan (λ named. found.Threads (joined named))
    (λ thread. name_none sight fault (named_by thread) (questions.ThreadName thread)) (threads_in more.0) more.2) h

-- frames that are asked for
asked_fail : (w : World) (state : State) (sight : Sight) (fault : Fault) (thread : ThreadId) (total start count : ℕ)
    → w.dead ≡ false → IsSaidBy w sight
    → Meets sight fault (chained (frames_from thread start count) (shown_plan state thread total))
    → fault.code ≡ why_no_frames w thread
unfolding chained
asked_fail w state sight fault thread total start zero alive said h =
    absurd (made_none sight fault (frame_plan state thread) (found.Frames total)
    (frame_none sight fault state thread) [] h)
asked_fail w state sight fault thread total start (suc count) alive said h =
    ⊎_elim (λ here. told_error answers.Frames (threads.frames_in w thread (pos start) (pos (suc count))) fault.code
    (why_no_frames w thread) (may_error (is_alive w thread) (w.count == 0)
    (ok_or (threads.frames_from (frames_of w thread) (pos start) (pos (suc count))) not_implemented)
    (found_error (threads.frames_from (frames_of w thread) (pos start) (pos (suc count)))))
    (error_said w sight fault (questions.Frames thread (pos start) (pos (suc count))) alive said here))
    (λ more. absurd (made_none sight fault (frame_plan state thread) (found.Frames total)
    (frame_none sight fault state thread)
    (frames_in more.0) more.2)) h

frames_fail : (w : World) (state : State) (sight : Sight) (fault : Fault) (thread : ThreadId) (start levels : ℕ)
    → w.dead ≡ false → IsSaidBy w sight → Meets sight fault (frames_plan state thread start levels)
    → fault.code ≡ why_no_frames w thread
unfolding chained
frames_fail w state sight fault thread start levels alive said h =
    ⊎_elim (λ here. told_error answers.FrameCount (frame_count_in w thread) fault.code (why_no_frames w thread)
    (may_error (is_alive w thread) (w.count == 0) (counted (length (frames_of w thread)))
    (counted_error (length (frames_of w thread)) (nat_lt (length (frames_of w thread)) (2 ^ 31))))
    (error_said w sight fault (questions.FrameCount thread) alive said here))
    (λ more. asked_fail w state sight fault thread (count_in more.0) start
    (count_from (count_in more.0) start levels) alive said more.2) h

pub fails : Fails
fails w state sight fault live said = record {
  threads = threads_fail w sight fault live.alive said;
  frames = λ thread start levels. frames_fail w state sight fault thread start levels live.alive said;
}
