-- What one text of a breakpoint comes to (DAP specification, Types, SourceBreakpoint, condition, hitCondition and
-- logMessage).
use Rattle.std.specs.Prelude.{ℕ, ◌≡◌, List, Option}
use Rattle.machine_model.specs.RuleTexts.{goes_wrong, if_some, rule_in}
use Rattle.rule_tables.specs.declared.texts.Said.{Said}

-- the rule that a text is, and whether it is there and is none
pub record IsSaid {A : Type 0} (rule : List ℕ → Option A) (text : Option (List ℕ)) (said : Said A) : Type 0 where
  pub is : said.rule ≡ rule_in rule text
  pub wrong : said.wrong ≡ goes_wrong rule (if_some text)
