-- Each choice is one that the target has.
use Rattle.std.proofs.Common.{◌≡◌, ℕ, ◌<◌, ◌+◌, ◌==◌, Bool, true, false, List, [], ◌∷◌, None, Some, refl}
use Rattle.std.proofs.Common.{sym, subst, arith, cond, append_assoc, append-nil}
use Rattle.std.specs.Option.{option_map_or}
use Rattle.jdwp_events.specs.declared.event.Event.TheVariants as events
use Rattle.jdwp_events.specs.declared.kind.Policy.TheVariants.{All, NoThread}
use Rattle.jdwp_values.specs.Sizes.{IsSize}
use Rattle.jdwp_values.specs.declared.id.ClassId.{ClassId}
use Rattle.joint_examples.proofs.SoundWorlds.{later_sound, world_sound}
use Rattle.joint_examples.specs.Choices.{AnyIdsAt, AnyNumbersAt, AnyOrderAt, Sends, ToldBesideAt, UnaskedAt, ends_set}
use Rattle.joint_examples.specs.Choices.{ended, name_asked, threads_asked}
use Rattle.joint_examples.specs.Worlds.{class_of, class_row, frame_row, hit_request, later, place, start_request}
use Rattle.joint_examples.specs.Worlds.{thread_of, world}
use Rattle.joint_model.specs.Joints.{Joint, Packet, some_events}
use Rattle.joint_model.specs.Names.{a_question}
use Rattle.joint_model.specs.Obeying.{Emits, IsTold, MayRefuse, Replies, Runs, Serves, start_of}
use Rattle.jdwp_commands.specs.declared.question.Question.TheVariants as questions
use Rattle.world_model.specs.MoveFacts.{is_prepared}
use Rattle.world_model.specs.declared.rows.WorldClass.{WorldClass}

-- Events --------------------------------------------------------------------------------------------------------------

hit_told : (fits : IsSize 8) → IsTold (world fits 1) (hit_request, events.Breakpoint 7 (thread_of 2) place)
hit_told fits = record {
  asked = (0, omega arith, refl);
  id = refl;
  matches = ((frame_row 2 65, refl, refl), refl);
}

start_told : (fits : IsSize 8) → IsTold (world fits 1) (start_request, events.ThreadStart 9 (thread_of 1))
start_told fits = record { asked = (1, omega arith, refl); id = refl; matches = (refl, refl) }

pub told_beside : (fits : IsSize 8) → ToldBesideAt fits
told_beside fits = record {
  alone = λ messages m commands packets kept j. Joint.emits j
      (Emits.tells (hit_request, events.Breakpoint 7 (thread_of 2) place) [] refl (hit_told fits, tt)
      (world_sound fits 2 (omega arith)));
  together = λ messages m commands packets kept j. Joint.emits j
      (Emits.tells (start_request, events.ThreadStart 9 (thread_of 1))
      ((hit_request, events.Breakpoint 7 (thread_of 2) place) ∷ []) refl (start_told fits, (hit_told fits, tt))
      (world_sound fits 2 (omega arith)));
}

-- Errors --------------------------------------------------------------------------------------------------------------

of_a_class : (code : ℕ) → 0 < code → (code == 112) ≡ false → MayRefuse true 101 code
of_a_class code is ended = record { is_error = is; ended = ended; no_thread = λ of_class. cc }

of_another : (usual code : ℕ) → 0 < code → (code == 112) ≡ (usual == 112) → (code == 10) ≡ (usual == 10)
    → MayRefuse false usual code
of_another usual code is ended thread = record { is_error = is; ended = ended; no_thread = λ of_class. thread }

pub any_numbers : (fits : IsSize 8) → AnyNumbersAt fits
any_numbers fits = record {
  source = λ messages m packets kept j. Joint.serves (a_question (questions.SourceFile (class_of 16))) [] [] j
      (Serves.replies (Replies.refuses refl (of_a_class 502 (omega arith) refl)));
  of_class = λ messages m packets kept j. Joint.serves (a_question (questions.SourceFile (class_of 16))) [] [] j
      (Serves.replies (Replies.refuses refl (of_a_class 10 (omega arith) refl)));
  slot = λ messages m packets kept j. Joint.serves _ [] [] j
      (Serves.replies (Replies.refuses refl (of_another 99 35 (omega arith) refl refl)));
  effect = Serves.refuses refl (of_another 21 41 (omega arith) refl refl);
}

-- Ids -----------------------------------------------------------------------------------------------------------------

pub any_ids : (fits : IsSize 8) → AnyIdsAt fits
any_ids fits = record {
  greatest = λ messages m kept j. Joint.serves ends_set [] [] j
      (Serves.installs refl refl (omega arith, omega arith) refl);
  named = λ messages m kept j. Joint.serves ends_set [] [] j
      (Serves.installs refl refl (omega arith, omega arith) refl);
}

-- Order ---------------------------------------------------------------------------------------------------------------

pub any_order : (fits : IsSize 8) → AnyOrderAt fits
any_order fits = record {
  first = λ messages m kept j. Joint.serves name_asked [] []
      (Joint.serves threads_asked [] (name_asked ∷ []) j (Serves.replies (Replies.says refl)))
      (Serves.replies (Replies.says refl));
  second = λ messages m kept j. Joint.serves threads_asked [] []
      (Joint.serves name_asked (threads_asked ∷ []) [] j (Serves.replies (Replies.says refl)))
      (Serves.replies (Replies.says refl));
}

-- The program ---------------------------------------------------------------------------------------------------------

-- whether a class with one of the two ids is prepared, where the second class is or isn't
abbrev prepared_by : Bool → Bool → Bool → Bool
prepared_by first second prepared = option_map_or (λ (row : WorldClass). row.prepared)
    (cond first (Some (class_row 16 (76 ∷ 65 ∷ 59 ∷ []) true))
    (cond second (Some (class_row 17 (76 ∷ 66 ∷ 59 ∷ []) prepared)) None)) false

stays_so : (first second : Bool) → prepared_by first second false ≡ true → prepared_by first second true ≡ true
stays_so true second is = refl
stays_so false true is = refl
stays_so false false is = is

stays_prepared : (fits : IsSize 8) (class : ClassId) → is_prepared (world fits 0) class ≡ true
    → is_prepared (later fits) class ≡ true
stays_prepared fits class is = stays_so (16 == class.0) (17 == class.0) is

runs : (fits : IsSize 8) → Runs (world fits 0) (later fits)
runs fits = record {
  alive = refl;
  free = refl;
  still_alive = refl;
  still_free = refl;
  facts = refl;
  requests = refl;
  stay_prepared = stays_prepared fits;
  unwatched = λ class before now. (refl, (refl, tt));
  sound = later_sound fits;
}

pub any_run : (fits : IsSize 8) → Sends (world fits 0) (later fits) []
any_run fits = λ messages m commands packets kept j.
    subst (λ (more : List Packet). Joint messages m (later fits) commands more kept) (sym (append-nil packets))
    (Joint.runs j (runs fits))

-- Start and end -------------------------------------------------------------------------------------------------------

begins : (fits : IsSize 8) (count : ℕ) → count < 2 → Emits (world fits count) (start_of All (thread_of 1))
    (world fits (count + 1))
begins fits count few = Emits.begins {policy = All} {thread = thread_of 1} refl (λ is. cc)
    (world_sound fits (count + 1) (omega (arith, few)))

pub unasked : (fits : IsSize 8) → UnaskedAt fits
unasked fits = record {
  starts = λ messages m commands packets kept j. Joint.emits j
      (Emits.begins {policy = All} {thread = thread_of 5} refl (λ is. cc) (world_sound fits 2 (omega arith)));
  starts_free = λ messages m commands packets kept j. Joint.emits j
      (Emits.begins {policy = NoThread} {thread = thread_of 1} refl (λ is. cc) (world_sound fits 1 (omega arith)));
  twice = λ messages m commands packets kept j.
      subst (λ (more : List Packet). Joint messages m (world fits 2) commands more kept)
      (append_assoc packets (some_events (start_of All (thread_of 1)) ∷ [])
      (some_events (start_of All (thread_of 1)) ∷ []))
      (Joint.emits (Joint.emits j (begins fits 0 (omega arith))) (begins fits 1 (omega arith)));
  ends = λ messages m commands packets kept j. Joint.emits j Emits.ends;
  ends_again = λ messages m commands packets kept j. Joint.emits j Emits.ends;
  dies = λ messages m commands packets kept j.
      subst (λ (more : List Packet). Joint messages m (ended (world fits 1)) commands more kept)
      (sym (append-nil packets)) (Joint.dies j);
}
