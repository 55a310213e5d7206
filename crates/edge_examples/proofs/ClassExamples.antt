-- Worked examples of what is read off flags, statuses, paths and lines, and of chains of classes, at their edges.
use Rattle.std.proofs.Common.{◌≡◌, ℕ, pos, negsuc, true, false, List, [], ◌∷◌, Some, refl}
use Rattle.std.specs.Prelude.{◌++◌, codes, replicate}
use Rattle.std.specs.Str.{chars}
use lib.Utf8.{encode}
use Rattle.class_tables.specs.Facts.{nothing}
use Rattle.class_tables.specs.Lookups.{found_in}
use Rattle.jdwp_commands.specs.declared.answer.Answer.TheVariants as answers
use Rattle.jdwp_commands.specs.declared.question.Question.TheVariants as questions
use Rattle.machine_model.specs.Breakpoints.{key_of, target_line}
use Rattle.machine_model.specs.Children.{chain, is_static, reach}
use Rattle.machine_model.specs.Classes.{has_prepared}
use Rattle.machine_model.specs.Names.{an_answer}
use Rattle.machine_model.specs.declared.acts.Sent.{Sent}
use Rattle.machine_model.specs.declared.acts.Want.{Want}
use Rattle.machine_model.specs.Plans.{Sight, chained, has, need}

-- Flags of fields (Java Virtual Machine Specification, Fields) --------------------------------------------------------

-- public static, private final, synthetic, and what a machine may set above, bit 31 among them
static_fields : (is_static (pos 9) ≡ true) × (is_static (pos 18) ≡ false) × (is_static (pos 4104) ≡ true)
    × (is_static (pos 4096) ≡ false) × (is_static (negsuc 2147483639) ≡ true) × (is_static (negsuc 2147483647) ≡ false)
static_fields = (refl, refl, refl, refl, refl, refl)

-- Statuses of classes (JDWP, Constants, ClassStatus) ------------------------------------------------------------------

-- verified, prepared, initialized and in error, alone and together
prepared_classes : (has_prepared (pos 1) ≡ false) × (has_prepared (pos 2) ≡ true) × (has_prepared (pos 3) ≡ true)
    × (has_prepared (pos 4) ≡ false) × (has_prepared (pos 7) ≡ true) × (has_prepared (pos 8) ≡ false)
    × (has_prepared (pos 12) ≡ false) × (has_prepared (pos 15) ≡ true) × (has_prepared (negsuc 0) ≡ true)
    × (has_prepared (negsuc 2147483647) ≡ false)
prepared_classes = (refl, refl, refl, refl, refl, refl, refl, refl, refl, refl)

-- Paths and lines -----------------------------------------------------------------------------------------------------

-- a folder of 300 bytes
abbrev long_folder : List ℕ
long_folder = replicate 300 97

-- A long path has the key that is behind its folder of sources, and the key itself may be as long.
long_paths : (key_of ((codes "/" ++ long_folder) ∷ []) (codes "/" ++ long_folder ++ codes "/b/C.java")
    ≡ Some (codes "b/C.java"))
    × (key_of (codes "/s" ∷ []) (codes "/s/" ++ long_folder ++ codes "/C.java")
    ≡ Some (long_folder ++ codes "/C.java"))
unfolding key_of chars encode
long_paths = (refl, refl)

-- lines above 65,535 are as they are, and so is the greatest that a target has; above that one it is the greatest
long_sources : (target_line true 70000 ≡ 70000) × (target_line false 69999 ≡ 70000)
    × (target_line true 2147483647 ≡ 2147483647) × (target_line true 2147483648 ≡ 2147483647)
    × (target_line false 2147483647 ≡ 2147483647)
long_sources = (refl, refl, refl, refl, refl)

-- Chains of classes (JDWP, ClassType command set, Superclass) ---------------------------------------------------------

abbrev says_above : ℕ → ℕ → Sent
says_above class above = record {
  want = Want.Fact (questions.Superclass (record { 0 = class }));
  reply = Some (an_answer (answers.Superclass (record { 0 = above })));
}

-- ten classes, each below the next, the last below none
abbrev ten_deep : Sight
ten_deep = record {
  classes = found_in nothing;
  asked = says_above 1 2 ∷ says_above 2 3 ∷ says_above 3 4 ∷ says_above 4 5 ∷ says_above 5 6 ∷ says_above 6 7
      ∷ says_above 7 8 ∷ says_above 8 9 ∷ says_above 9 10 ∷ says_above 10 0 ∷ [];
}

-- all are followed
follows_all : need ten_deep (chain reach [] 1) ≡ has (1 ∷ 2 ∷ 3 ∷ 4 ∷ 5 ∷ 6 ∷ 7 ∷ 8 ∷ 9 ∷ 10 ∷ [])
unfolding need chained chain
follows_all = refl

-- and classes that a target lists in a circle, once each
abbrev circle : Sight
circle = record {
  classes = found_in nothing;
  asked = says_above 1 2 ∷ says_above 2 3 ∷ says_above 3 1 ∷ [];
}

follows_once : need circle (chain reach [] 1) ≡ has (1 ∷ 2 ∷ 3 ∷ [])
unfolding need chained chain
follows_once = refl
