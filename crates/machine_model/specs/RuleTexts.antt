-- The three texts that a client may say of a breakpoint, and the rules that they are (DAP specification, Types,
-- SourceBreakpoint and FunctionBreakpoint, condition, hitCondition and logMessage).
use Rattle.std.specs.Prelude.{ℕ, ◌∷◌, ◌||◌, Bool, true, false, List, [], Option, None, Some, option_and_then}
use Rattle.break_rules.specs.Parsing.{condition_of, hit_of, template_of}
use Rattle.machine_model.specs.Names.{RuleText, Ruled, of_condition, of_hit, of_log}
use Rattle.machine_model.specs.State.{is_some}

-- an empty text counts as missing
abbrev pub if_some : Option (List ℕ) → Option (List ℕ)
if_some None = None
if_some (Some []) = None
if_some (Some (byte ∷ bytes)) = Some (byte ∷ bytes)

-- the rule that a text is, where it is there and is one
abbrev pub rule_in : {A : Type 0} → (List ℕ → Option A) → Option (List ℕ) → Option A
rule_in rule text = option_and_then rule (if_some text)

-- it is there, and is none
abbrev pub is_outside : {A : Type 0} → Option A → Bool
is_outside None = true
is_outside (Some rule) = false

abbrev pub goes_wrong : {A : Type 0} → (List ℕ → Option A) → Option (List ℕ) → Bool
goes_wrong rule None = false
goes_wrong rule (Some text) = is_outside (rule text)

-- the first of the three that is there and is no rule
abbrev pub fault_by : Bool → Bool → Bool → Option RuleText
fault_by true hit log = Some of_condition
fault_by false true log = Some of_hit
fault_by false false true = Some of_log
fault_by false false false = None

-- by the texts of a condition, of a hit condition and of a message to log
abbrev pub fault_in : Option (List ℕ) → Option (List ℕ) → Option (List ℕ) → Option RuleText
fault_in condition hit log = fault_by (goes_wrong condition_of (if_some condition)) (goes_wrong hit_of (if_some hit))
    (goes_wrong template_of (if_some log))

-- one whose texts are missing or are rules is bound; any other never is
abbrev pub is_plain : Option RuleText → Bool
is_plain None = true
is_plain (Some fault) = false

-- what is kept of it: nothing of one that is never bound, nor of one without rules
abbrev pub ruled_if : Bool → Ruled → List Ruled
ruled_if true ruled = ruled ∷ []
ruled_if false ruled = []

abbrev pub ruled_by : Option RuleText → Ruled → List Ruled
ruled_by (Some fault) ruled = []
ruled_by None ruled = ruled_if (is_some ruled.condition || is_some ruled.hit || is_some ruled.log) ruled

abbrev pub ruled_of : ℕ → Option (List ℕ) → Option (List ℕ) → Option (List ℕ) → List Ruled
ruled_of id condition hit log = ruled_by (fault_in condition hit log) (record {
  id = id;
  condition = rule_in condition_of condition;
  hit = rule_in hit_of hit;
  log = rule_in template_of log;
  passed = 0;
})
