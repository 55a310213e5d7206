-- Threads, and what they throw.
use Rattle.std.proofs.Common.{◌≡◌, ℕ, zero, suc, Bool, true, false, List, [], ◌∷◌, ◌++◌, map, refl, ap, ◌∙◌}
use Rattle.std.specs.Prelude.{codes, Option, Some, None, option_map, ok_or}
use Rattle.std.specs.List.{AllByRecursion}
use Rattle.jdwp_commands.specs.declared.answer.Answer.TheVariants as answers
use Rattle.jdwp_values.specs.declared.id.ClassId.{ClassId}
use Rattle.jdwp_values.specs.declared.id.ThreadId.{ThreadId}
use Rattle.jdwp_values.specs.declared.tag.TypeTag.{TypeTag}
use Rattle.machine_model.specs.Exceptions.{exception_plan, mode_of, name_by, named_plan, text_by, text_plan}
use Rattle.machine_model.specs.Frames.{signature_plan}
use Rattle.machine_model.specs.Lookups.{name_plan, named_by, names_plan, threads_plan}
use Rattle.machine_model.specs.Plans.{answer_in, chained, each, gives, joined, made_with, of_world}
use Rattle.machine_model.specs.Values.{by_id, type_plan}
use Rattle.machine_model.specs.declared.parts.Finding.TheVariants as found
use Rattle.machine_model.specs.declared.parts.NamedThread.{NamedThread}
use Rattle.machine_model.specs.declared.parts.Thrown.{Thrown}
use Rattle.shown_worlds.specs.Facts.{if_null, signature, type_of}
use Rattle.shown_worlds.specs.Laws.{ShowsThreads, ShowsThrown}
use Rattle.shown_worlds.specs.ThreadRows.{break_mode, named, thrown_name, world_thrown, world_threads}
use Rattle.shown_worlds.proofs.FactLaws.{object, signature_there, type_there}
use Rattle.shown_worlds.proofs.PlanLemmas.{each_has, living, said_made}
use Rattle.shown_worlds.proofs.RowLemmas.{IsOwn, distinct_behind, own_keys}
use Rattle.value_views.specs.Names.{class_name}
use Rattle.world_model.specs.Codes.{invalid_object, invalid_thread, told}
use Rattle.world_model.specs.Objects.{class_of, tag_of_type}
use Rattle.world_model.specs.Replies.{living_reply}
use Rattle.world_model.specs.Sound.{IsSound}
use Rattle.world_model.specs.Threads.{name_in}
use Rattle.world_model.specs.declared.rows.WorldThread.{WorldThread}
use Rattle.world_model.specs.declared.world.World.{World}

-- Threads -------------------------------------------------------------------------------------------------------------

abbrev key : WorldThread → ℕ
key row = row.id.0

own_threads : (w : World) → IsSound w → AllByRecursion (IsOwn key w.threads) w.threads
own_threads w sound =
    own_keys key w.threads
    (distinct_behind (map (λ row. row.id.0) w.strings) (map key w.threads)
    (distinct_behind (map (λ row. row.id.0) w.objects) (map (λ row. row.id.0) w.strings ++ map key w.threads)
    (distinct_behind (map (λ row. row.id.0) w.arrays)
    (map (λ row. row.id.0) w.objects ++ (map (λ row. row.id.0) w.strings ++ map key w.threads)) sound.values.objects)))

-- the name that is heard of a thread
abbrev heard : World → ThreadId → List NamedThread
heard w thread = named_by thread (answer_in (told answers.ThreadName (name_in w thread)))

name_there : (w : World) (thread : ThreadId) → of_world (living_reply w) (name_plan thread) ≡ Some (heard w thread)
unfolding of_world
name_there w thread = refl

name_found : (row : WorldThread) (there : Option WorldThread) → there ≡ Some row
    → named_by row.id (answer_in (told answers.ThreadName (ok_or (option_map (λ r. r.name) there) invalid_thread)))
    ≡ named row ∷ []
name_found row there is =
    ap (λ (o : Option WorldThread).
    named_by row.id (answer_in (told answers.ThreadName (ok_or (option_map (λ r. r.name) o) invalid_thread)))) is

named_all : (w : World) (rows : List WorldThread) → AllByRecursion (IsOwn key w.threads) rows
    → joined (map (heard w) (map (λ row. row.id) rows)) ≡ map named rows
named_all w [] own = refl
named_all w (row ∷ rows) own =
    ap (λ (l : List NamedThread). l ++ joined (map (heard w) (map (λ r. r.id) rows))) (name_found row _ own.0)
    ∙ ap (λ l. named row ∷ l) (named_all w rows own.1)

names_there : (w : World) (threads : List ThreadId)
    → of_world (living_reply w) (names_plan threads) ≡ Some (found.Threads (joined (map (heard w) threads)))
names_there w threads =
    said_made (living_reply w) (λ named. found.Threads (joined named)) (each name_plan threads)
    ∙ ap (option_map (λ named. found.Threads (joined named)))
    (each_has (living_reply w) name_plan (heard w) (name_there w) threads)

threads_there : (w : World) → IsSound w → of_world (living_reply w) threads_plan ≡ Some (world_threads w)
unfolding of_world chained
threads_there w sound =
    names_there w (map (λ row. row.id) w.threads)
    ∙ ap (λ l. Some (found.Threads l)) (named_all w w.threads (own_threads w sound))

pub shows_threads : ShowsThreads
shows_threads w state live = living w threads_plan live.alive ∙ threads_there w live.sound

-- What was thrown -----------------------------------------------------------------------------------------------------

text_heard : (w : World) (there : Option ClassId) → of_world (living_reply w) (text_by (answer_in (told
    (λ (t : TypeTag × ClassId). answers.ObjectType t.0 t.1)
    (ok_or (option_map (λ class. (tag_of_type w class, class)) there) invalid_object))))
    ≡ Some (option_map class_name (option_map (signature w) there))
unfolding of_world
text_heard w None = refl
text_heard w (Some class) =
    said_made (living_reply w) name_by (signature_plan class) ∙ ap (option_map name_by) (signature_there w class)

named_there : (w : World) (n : ℕ)
    → of_world (living_reply w) (named_plan n) ≡ Some (option_map class_name (type_of w (object n)))
unfolding of_world chained
named_there w n = text_heard w (class_of w (object n))

pub text_there : (w : World) (n : ℕ)
    → of_world (living_reply w) (text_plan n)
    ≡ Some (found.ExceptionText (if_null n None (option_map class_name (type_of w (object n)))))
unfolding of_world made_with
text_there w zero = refl
text_there w (suc n) =
    said_made (living_reply w) found.ExceptionText (named_plan (suc n))
    ∙ ap (option_map found.ExceptionText) (named_there w (suc n))

name_told : (w : World) (n : ℕ)
    → of_world (living_reply w) (by_id n (gives (codes "null")) (λ id. made_with class_name (type_plan id)))
    ≡ if_null n (Some (codes "null")) (option_map class_name (type_of w (object n)))
unfolding of_world
name_told w zero = refl
name_told w (suc n) =
    said_made (living_reply w) class_name (type_plan (suc n)) ∙ ap (option_map class_name) (type_there w (suc n))

mode_is : (caught : Bool) → mode_of caught ≡ break_mode caught
mode_is true = refl
mode_is false = refl

info_there : (w : World) (thrown : Thrown) → of_world (living_reply w) (exception_plan thrown) ≡ world_thrown w thrown
info_there w thrown =
    said_made (living_reply w) (λ id. found.Exception id (mode_of thrown.caught))
    (by_id thrown.object.0 (gives (codes "null")) (λ id. made_with class_name (type_plan id)))
    ∙ ap (option_map (λ id. found.Exception id (mode_of thrown.caught))) (name_told w thrown.object.0)
    ∙ ap (λ mode. option_map (λ id. found.Exception id mode) (thrown_name w thrown.object)) (mode_is thrown.caught)

pub shows_thrown : ShowsThrown
shows_thrown w state live = record {
  text = λ thread object. living w (text_plan object.0) live.alive ∙ text_there w object.0;
  info = λ thrown. living w (exception_plan thrown) live.alive ∙ info_there w thrown;
}
