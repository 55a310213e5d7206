-- A listed class is found under its own id.
use Rattle.std.proofs.Common.{◌≡◌, ◌∙◌, ℕ, ◌<◌, Bool, true, false, cond, List, [], ◌∷◌, map, refl, sym, ap, arith}
use Rattle.std.proofs.Common.{Option, Some, Ok, nat_eq, if◌then◌else◌}
use Rattle.std.specs.Prelude.{find, option_map, ok_or, codes}
use Rattle.std.specs.Cmp.{nat_eq_equiv}
use Rattle.std.specs.List.{AllByRecursion, IsDistinct}
use Rattle.std.proofs.lemmas.Bool.{ne_eqb}
use Rattle.jdwp_commands.specs.declared.answer.Answer.TheVariants as answers
use Rattle.jdwp_commands.specs.declared.asked.Replied.TheVariants.{Answer as an_answer, Error as an_error}
use Rattle.jdwp_commands.specs.declared.question.Question.TheVariants as questions
use Rattle.world_model.specs.declared.rows.WorldClass.{WorldClass}
use Rattle.world_model.specs.declared.world.World.{World}
use Rattle.world_model.specs.Classes.{class_in, signature_in}
use Rattle.world_model.specs.Codes.{invalid_class, told, vm_dead}
use Rattle.world_model.specs.Replies.{reply_of, living_reply}
use Rattle.world_model.specs.Sound.{IsSound}

abbrev IsOwn : List WorldClass → WorldClass → Type 0
IsOwn classes row = find (λ (r : WorldClass). nat_eq r.id.0 row.id.0) classes ≡ Some row

-- behind one class more that has none of their ids they are found as before
own_behind : (first : WorldClass) (classes rows : List WorldClass)
    → AllByRecursion (λ n. nat_eq first.id.0 n ≡ false) (map (λ (row : WorldClass). row.id.0) rows)
    → AllByRecursion (IsOwn classes) rows → AllByRecursion (IsOwn (first ∷ classes)) rows
own_behind first classes [] apart own = tt
own_behind first classes (row ∷ rows) apart own = (
  ap (λ b. cond b (Some first) (find (λ (r : WorldClass). nat_eq r.id.0 row.id.0) classes)) apart.0 ∙ own.0,
  own_behind first classes rows apart.1 own.1,
)

own_ids : (classes : List WorldClass) → IsDistinct nat_eq (map (λ (row : WorldClass). row.id.0) classes)
    → AllByRecursion (IsOwn classes) classes
unfolding IsDistinct
own_ids [] apart = tt
own_ids (row ∷ rows) apart = (
  ap (λ b. cond b (Some row) (find (λ (r : WorldClass). nat_eq r.id.0 row.id.0) rows)) (nat_eq_equiv.refl row.id.0),
  own_behind row rows rows apart.0 (own_ids rows apart.1),
)

-- its signature is its own, since it isn't null
signed : (w : World) (row : WorldClass) → 0 < row.id.0 → IsOwn w.classes row
    → signature_in w row.id ≡ Ok row.signature
signed w row above own =
    ap (λ b. if b then Ok (codes "Ljava/lang/Thread;")
    else ok_or (option_map (λ (r : WorldClass). r.signature) (class_in w row.id)) invalid_class)
    (ne_eqb row.id.0 0 (λ e. omega (arith, above, e)))
    ∙ ap (λ (found : Option WorldClass). ok_or (option_map (λ r. r.signature) found) invalid_class) own

abbrev Listed : World → WorldClass → Type 0
Listed w row = reply_of w (questions.Signature row.id) ≡ an_answer (answers.Signature row.signature)

listed_from : (w : World) (rows : List WorldClass) → w.dead ≡ false
    → AllByRecursion (λ (row : WorldClass). 0 < row.id.0) rows → AllByRecursion (IsOwn w.classes) rows
    → AllByRecursion (Listed w) rows
listed_from w [] alive above own = tt
listed_from w (row ∷ rows) alive above own = (
  ap (λ b. if b then an_error vm_dead else living_reply w (questions.Signature row.id)) alive
      ∙ ap (told answers.Signature) (signed w row above.0 own.0),
  listed_from w rows alive above.1 own.1,
)

pub listed : (w : World) → IsSound w → w.dead ≡ false → AllByRecursion (λ (row : WorldClass).
    reply_of w (questions.Signature row.id) ≡ an_answer (answers.Signature row.signature)) w.classes
listed w s alive = listed_from w w.classes alive s.program.no_null (own_ids w.classes s.program.classes)
