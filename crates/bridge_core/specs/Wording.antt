-- Last words, in the words of the code.
use Rattle.std.specs.Prelude.{Bool, true, false}
use Rattle.bridge_core.specs.declared.words.Word.{Word}
use Rattle.bridge_core.specs.declared.words.Word.TheVariants.{Disposes, Tells}
use Rattle.session_model.specs.LastWords.{LastWord}
use Rattle.session_endings.specs.declared.ending.Ending.{Ending}
use Rattle.session_endings.specs.declared.ending.Ending.TheVariants.{BadClient, BadTarget, ClientLink, Flood, Idle}
use Rattle.session_endings.specs.declared.ending.Ending.TheVariants.{Left}
use Rattle.session_endings.specs.declared.ending.Ending.TheVariants.{Spent, TargetLink, TargetRefused}

-- a last word, as the definitions have it
abbrev pub word_seen : Word → LastWord
word_seen (Tells told) = LastWord.tells told
word_seen Disposes = LastWord.disposes

-- the client is told of the ending
abbrev pub tells_client : Ending → Bool
tells_client (BadTarget fault at id) = true
tells_client TargetLink = true
tells_client (TargetRefused set command code) = true
tells_client Idle = true
tells_client _ = false

-- a target that is attached is left to run on
abbrev pub leaves_target : Ending → Bool
leaves_target Left = true
leaves_target (BadClient fault at) = true
leaves_target ClientLink = true
leaves_target (TargetRefused set command code) = true
leaves_target Idle = true
leaves_target Spent = true
leaves_target Flood = true
leaves_target _ = false
