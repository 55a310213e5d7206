-- The words of the program: a command's name, and behind it what that command is given.
use Rattle.std.specs.Prelude.{ℕ, ◌≡◌, true, false, is_some, List, [], ◌∷◌, map, Option, Some, None, Result, Ok, Err}
use Rattle.std.specs.Prelude.{codes, Bool, option_and_then}
use Rattle.std.specs.List.{AllByRecursion}
use Rattle.clap.specs.Words.{app_of, args_of, groups_of}
use Rattle.clap.specs.declared.builder.command.Command.{Command}
use Rattle.clap.specs.declared.builder.command.Command.TheViews.{out-Command}
use Rattle.command_words.specs.Forms.{bare_app, form_fault, form_given, form_of, kind_named, names_of, words_of}
use Rattle.command_words.specs.Numbers.{number_in}
use Rattle.command_words.specs.declared.forms.Kind.{Kind}
use Rattle.command_words.specs.declared.forms.Kind.TheVariants as kind
use Rattle.command_words.specs.declared.words.ScriptNumber.{ScriptNumber}
use Rattle.command_words.specs.declared.words.Task.{Task}
use Rattle.command_words.specs.declared.words.Task.TheVariants.{Serve, Script, Replay, Generate, Record, Dump}
use Rattle.command_words.specs.declared.words.WordsFault.{WordsFault}
use Rattle.command_words.specs.declared.words.WordsFault.TheVariants.{Refused, NoMemory}

-- it is a command of this name that `clap` gives no flags, and has no argument yet
pub record IsBare (command : Command) (name : List ℕ) : Type 0 where
  pub app : app_of command ≡ bare_app name
  pub args : args_of command ≡ []
  pub groups : groups_of command ≡ []
  pub globals : (out-Command command).has_globals ≡ false
  pub negates : (out-Command command).subcommand_negates_reqs ≡ false

-- the command of a task, and its values in the order of that command's form
abbrev pub said : Task → Kind × List (List ℕ)
said (Serve addresses) = (kind.Serve, addresses.listen ∷ addresses.target ∷ [])
said (Script file) = (kind.Script, file ∷ [])
said (Replay file) = (kind.Replay, file ∷ [])
said (Generate number file) = (kind.Generate, number.digits ∷ file ∷ [])
said (Record addresses file) = (kind.Record, addresses.listen ∷ addresses.target ∷ file ∷ [])
said (Dump target) = (kind.Dump, target ∷ [])

-- each value of a command is given, by its name
abbrev pub HasAll : Kind → (List ℕ → Option (List ℕ)) → Type 0
HasAll kind given = AllByRecursion (λ name. is_some (given name) ≡ true) (names_of (form_of kind))

-- the number of a task is what its digits are
abbrev pub IsNumbered : Task → Type 0
IsNumbered (Serve addresses) = Unit {0}
IsNumbered (Script file) = Unit {0}
IsNumbered (Replay file) = Unit {0}
IsNumbered (Generate number file) = number_in number.digits ≡ Some number.number
IsNumbered (Record addresses file) = Unit {0}
IsNumbered (Dump target) = Unit {0}

-- whether what is given for the number of a script, where the command has one, is a number
abbrev pub is_numbered : Kind → (List ℕ → Option (List ℕ)) → Bool
is_numbered kind.Serve given = true
is_numbered kind.Script given = true
is_numbered kind.Replay given = true
is_numbered kind.Generate given = is_some (option_and_then number_in (given (codes "number")))
is_numbered kind.Record given = true
is_numbered kind.Dump given = true

-- the task of a command that was given these values, by their names
pub record IsTask (kind : Kind) (given : List ℕ → Option (List ℕ)) (task : Task) : Type 0 where
  pub kind_is : (said task).0 ≡ kind
  pub values : map given (names_of (form_of kind)) ≡ map Some (said task).1
  pub number : IsNumbered task

-- what a command that was given these values comes to: its task; or there is none, since a number is missing
abbrev pub IsTaskOf : Kind → (List ℕ → Option (List ℕ)) → Result Task WordsFault → Type 0
IsTaskOf kind given (Ok task) = IsTask kind given task
IsTaskOf kind given (Err Refused) = is_numbered kind given ≡ false
IsTaskOf kind given (Err NoMemory) = Unit {0}

-- what is given for the number of a script is read as this number, or it is none
abbrev pub IsNumberOf : Option (List ℕ) → Result ScriptNumber WordsFault → Type 0
IsNumberOf given (Ok number) = (given ≡ Some number.digits) × (number_in number.digits ≡ Some number.number)
IsNumberOf given (Err Refused) = option_and_then number_in given ≡ None
IsNumberOf given (Err NoMemory) = Unit {0}

-- the words behind the name of a command are taken: `clap` takes them, and a number is one
pub record AreTaken (kind : Kind) (words : List (List ℕ)) : Type 0 where
  pub fit : form_fault (form_of kind) words ≡ []
  pub numbered : is_numbered kind (form_given (form_of kind) words) ≡ true

-- the words behind the name of a command are taken, and say this task
pub record Says (kind : Kind) (words : List (List ℕ)) (task : Task) : Type 0 where
  pub taken : form_fault (form_of kind) words ≡ []
  pub task_is : IsTask kind (form_given (form_of kind) words) task

-- what reading the words behind the name of a command gives
abbrev pub ReadsBehind : Kind → List (List ℕ) → Result Task WordsFault → Type 0
ReadsBehind kind words (Ok task) = Says kind words task
ReadsBehind kind words (Err Refused) = ¬ AreTaken kind words
ReadsBehind kind words (Err NoMemory) = Unit {0}

-- the words are this task: the name of its command, and what that is given
abbrev pub Names : List (List ℕ) → Task → Type 0
Names [] task = ⊥
Names (name ∷ words) task = (kind_named name ≡ Some (said task).0) × Says (said task).0 words task

-- the words are refused: there is no name, or where it is that of a command, the words behind it are refused
abbrev pub AreRefused : List (List ℕ) → Type 0
AreRefused [] = Unit {0}
AreRefused (name ∷ words) = (kind : Kind) → kind_named name ≡ Some kind → ¬ AreTaken kind words

-- what reading the words of the program gives
abbrev pub Reads : List (List ℕ) → Result Task WordsFault → Type 0
Reads words (Ok task) = Names words task
Reads words (Err Refused) = AreRefused words
Reads words (Err NoMemory) = Unit {0}

-- a value that can't be taken for an option: not empty, and with no hyphen in front
abbrev pub IsValue : List ℕ → Type 0
IsValue [] = ⊥
IsValue (b ∷ bs) = ¬ (b ≡ 45)

-- the words of a task in the form of the usage line
abbrev pub usage_words : Task → List (List ℕ)
usage_words task = words_of (form_of (said task).0) (said task).1
