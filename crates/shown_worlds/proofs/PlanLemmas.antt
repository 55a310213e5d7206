-- What plans come to in a world, by their parts.
use Rattle.std.proofs.Common.{◌≡◌, List, [], ◌∷◌, false, map, refl, ap, ◌∙◌}
use Rattle.std.specs.Prelude.{ℕ, Option, Some, None, option_map, option_and_then, Result, Ok, Err, if◌then◌else◌}
use Rattle.std.specs.Result.{result_ok}
use Rattle.jdwp_commands.specs.declared.answer.Answer.{Answer}
use Rattle.jdwp_commands.specs.declared.asked.Replied.{Replied}
use Rattle.jdwp_commands.specs.declared.asked.Replied.TheVariants.{Error as an_error}
use Rattle.jdwp_commands.specs.declared.question.Question.{Question}
use Rattle.machine_model.specs.Plans.{Plan, both, chained, each, gives, made_with, must_say, of_world, pairs, said_of, tried_of, tries}
use Rattle.machine_model.specs.Plans.{two_of, wants}
use Rattle.world_model.specs.Codes.{told, vm_dead}
use Rattle.world_model.specs.Replies.{living_reply, reply_of}
use Rattle.world_model.specs.Scans.{all_of}
use Rattle.world_model.specs.declared.world.World.{World}

-- Options -------------------------------------------------------------------------------------------------------------

pub and_then_then : {A B C : Type 0} (f : A → Option C) (g : A → Option B) (h : B → Option C)
    → ((a : A) → f a ≡ option_and_then h (g a)) → (o : Option A)
    → option_and_then f o ≡ option_and_then h (option_and_then g o)
and_then_then f g h same None = refl
and_then_then f g h same (Some a) = same a

pub and_then_map : {A B C : Type 0} (f : A → Option C) (g : A → Option B) (h : B → C)
    → ((a : A) → f a ≡ option_map h (g a)) → (o : Option A)
    → option_and_then f o ≡ option_map h (option_and_then g o)
and_then_map f g h same None = refl
and_then_map f g h same (Some a) = same a

-- functions that are alike make the same
pub and_then_alike : {A B : Type 0} (f g : A → Option B) → ((a : A) → f a ≡ g a) → (o : Option A)
    → option_and_then f o ≡ option_and_then g o
and_then_alike f g same None = refl
and_then_alike f g same (Some a) = same a

pub and_then_some : {A B : Type 0} (f : A → Option B) (g : A → B) → ((a : A) → f a ≡ Some (g a)) → (o : Option A)
    → option_and_then f o ≡ option_map g o
and_then_some f g same None = refl
and_then_some f g same (Some a) = same a

pub map_alike : {A B : Type 0} (f g : A → B) → ((a : A) → f a ≡ g a) → (o : Option A) → option_map f o ≡ option_map g o
map_alike f g same None = refl
map_alike f g same (Some a) = ap Some (same a)

pub map_map : {A B C : Type 0} (f : A → B) (g : B → C) (o : Option A)
    → option_map g (option_map f o) ≡ option_map (λ a. g (f a)) o
map_map f g None = refl
map_map f g (Some a) = refl

-- Plans ---------------------------------------------------------------------------------------------------------------

pub said_chained : {A B : Type 0} (world : Question → Replied) (p : Plan A) (go : A → Plan B)
    → of_world world (chained p go) ≡ option_and_then (λ a. of_world world (go a)) (of_world world p)
unfolding of_world chained
said_chained world (gives a) go = refl
said_chained world (wants want rest) go =
    and_then_then (λ heard. of_world world (chained (rest heard) go)) (λ heard. of_world world (rest heard))
    (λ a. of_world world (go a)) (λ heard. said_chained world (rest heard) go) (said_of world want)
said_chained world (tries question rest) go = said_chained world (rest (tried_of question (world question))) go
said_chained world (pairs p q rest) go =
    and_then_then (λ two. of_world world (chained (rest two) go)) (λ two. of_world world (rest two))
    (λ a. of_world world (go a)) (λ two. said_chained world (rest two) go)
    (two_of (of_world world p) (of_world world q))

pub said_made : {A B : Type 0} (world : Question → Replied) (f : A → B) (p : Plan A)
    → of_world world (made_with f p) ≡ option_map f (of_world world p)
unfolding of_world made_with
said_made world f (gives a) = refl
said_made world f (wants want rest) =
    and_then_map (λ heard. of_world world (made_with f (rest heard))) (λ heard. of_world world (rest heard)) f
    (λ heard. said_made world f (rest heard)) (said_of world want)
said_made world f (tries question rest) = said_made world f (rest (tried_of question (world question)))
said_made world f (pairs p q rest) =
    and_then_map (λ two. of_world world (made_with f (rest two))) (λ two. of_world world (rest two)) f
    (λ two. said_made world f (rest two)) (two_of (of_world world p) (of_world world q))

two_together : {A B : Type 0} (a : Option A) (b : Option B) → option_and_then Some (two_of a b) ≡ two_of a b
two_together None b = refl
two_together (Some a) None = refl
two_together (Some a) (Some b) = refl

pub said_both : {A B : Type 0} (world : Question → Replied) (p : Plan A) (q : Plan B)
    → of_world world (both p q) ≡ two_of (of_world world p) (of_world world q)
unfolding of_world
said_both world p q = two_together (of_world world p) (of_world world q)

one_more : {A : Type 0} (a : Option A) (others : Option (List A))
    → option_and_then (λ two. Some (two.0 ∷ two.1)) (two_of a others)
    ≡ option_and_then (λ y. option_map (λ ys. y ∷ ys) others) a
one_more None others = refl
one_more (Some a) None = refl
one_more (Some a) (Some others) = refl

-- plans side by side
pub said_each : {A B : Type 0} (world : Question → Replied) (f : A → Plan B) (items : List A)
    → of_world world (each f items) ≡ all_of (λ a. of_world world (f a)) items
unfolding of_world each
said_each world f [] = refl
said_each world f (a ∷ others) =
    one_more (of_world world (f a)) (of_world world (each f others))
    ∙ ap (λ o. option_and_then (λ y. option_map (λ ys. y ∷ ys) o) (of_world world (f a))) (said_each world f others)

pub all_alike : {A B : Type 0} (f g : A → Option B) → ((a : A) → f a ≡ g a) → (items : List A)
    → all_of f items ≡ all_of g items
all_alike f g same [] = refl
all_alike f g same (a ∷ others) =
    ap (λ o. option_and_then (λ y. option_map (λ ys. y ∷ ys) o) (f a)) (all_alike f g same others)
    ∙ ap (option_and_then (λ y. option_map (λ ys. y ∷ ys) (all_of g others))) (same a)

pub all_some : {A B : Type 0} (g : A → B) (items : List A) → all_of (λ a. Some (g a)) items ≡ Some (map g items)
all_some g [] = refl
all_some g (a ∷ others) = ap (option_map (λ ys. g a ∷ ys)) (all_some g others)

-- of plans that each have a value
pub each_has : {A B : Type 0} (world : Question → Replied) (f : A → Plan B) (g : A → B)
    → ((a : A) → of_world world (f a) ≡ Some (g a)) → (items : List A)
    → of_world world (each f items) ≡ Some (map g items)
each_has world f g has items =
    said_each world f items ∙ all_alike (λ a. of_world world (f a)) (λ a. Some (g a)) has items ∙ all_some g items

-- Worlds --------------------------------------------------------------------------------------------------------------

-- a world that lives replies so
pub living : {A : Type 0} (w : World) (p : Plan A) → w.dead ≡ false
    → of_world (reply_of w) p ≡ of_world (living_reply w) p
living w p alive = ap (λ dead. of_world (λ q. if dead then an_error vm_dead else living_reply w q) p) alive

-- what is read off from an answer that a plan can't do without
pub must_said : {A B : Type 0} (answer : A → Answer) (read : Option Answer → B) (value : A → B)
    → ((a : A) → read (Some (answer a)) ≡ value a) → (r : Result A ℕ)
    → option_and_then (λ heard. Some (read heard)) (must_say (told answer r)) ≡ option_map value (result_ok r)
must_said answer read value same (Ok a) = ap Some (same a)
must_said answer read value same (Err code) = refl
