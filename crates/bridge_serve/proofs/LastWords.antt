-- Last words: to which sides they go, and what their bytes depend on.
use Rattle.std.proofs.Common.{◌≡◌, ℕ, ◌+◌, ◌<◌, refl, sym, ap, ◌∙◌, arith, Bool, true, false, List, [], ◌∷◌, ◌++◌}
use Rattle.std.proofs.Common.{length, map, None, Option}
use Rattle.std.specs.List.{AllByRecursion}
use Rattle.bridge_core.specs.Calls.{words_of}
use Rattle.bridge_core.specs.Cores.{CoreState}
use Rattle.bridge_serve.specs.Following.{HasWords, IsCounted}
use Rattle.bridge_serve.specs.Names.{BadClient, BadTarget, Client, ClientLink, Done, Ending, Flood, Idle, Left, NoMemory}
use Rattle.bridge_serve.specs.Names.{Spent, Target, TargetLink, TargetRefused}
use Rattle.dap_frames.specs.Frames.{frame_bytes}
use Rattle.dap_messages.specs.Telling.{told_text}
use Rattle.dap_messages.specs.declared.requests.Request.{Request}
use Rattle.dap_messages.specs.declared.told.Told.{Told}
use Rattle.jdwp_packets.specs.Packets.{command_packet, handshake, packet_bytes}
use Rattle.machine_model.specs.Replying.{wire}
use Rattle.machine_model.specs.Rest.{without_response}
use Rattle.machine_model.specs.Runs.{Message}
use Rattle.machine_model.specs.State.{Machine, is_gone}
use Rattle.machine_model.specs.declared.items.Phase.{Phase}
use Rattle.machine_model.specs.declared.items.Phase.TheVariants.{Attached, Fresh, Gone}
use Rattle.pending_table.specs.Windows.{id_of}
use Rattle.session_model.proofs.EndedRules.{ended_by}
use Rattle.session_model.specs.LastWords.{LastWord, client_words, end_word, fails_gone, last_words, target_words}
use Rattle.session_model.specs.LastWords.{word_bytes, word_side}
use Rattle.session_model.specs.Saying.{Speaks, nth_command, told_bytes}
use Rattle.session_model.specs.States.{SessionState, StreamState}
use Rattle.wire_core.specs.Outside.{IsOpen, Outside}
use Rattle.wire_core.specs.declared.outside.Side.{Side}

-- some bytes go out
some_bytes : (xs : List ℕ) {x : ℕ} {rest : List ℕ} → xs ≡ x ∷ rest → 0 < length xs
some_bytes xs is = let count = ap length is in omega (arith, count)

pub speaks_bytes : {s : SessionState} {message : Message} {side : Side} {bytes : List ℕ} {streams : StreamState}
    → Speaks s message side bytes streams → 0 < length bytes
speaks_bytes {s} (Speaks.tells {told}) = some_bytes (told_bytes s.streams.told told) refl
speaks_bytes Speaks.greets = some_bytes handshake refl
speaks_bytes {s} (Speaks.sends {command} {used} free serves) =
    some_bytes (nth_command s.streams.commands.next used (wire command)) refl

pub word_some_bytes : (streams : StreamState) (word : LastWord) → 0 < length (word_bytes streams word)
word_some_bytes streams (LastWord.tells told) = some_bytes (told_bytes streams.told told) refl
word_some_bytes streams LastWord.disposes = some_bytes (word_bytes streams LastWord.disposes) refl

-- what holds of each word holds of what follows from it
pub each_map : (P Q : LastWord → Type 0) → ((word : LastWord) → P word → Q word) → (words : List LastWord)
    → AllByRecursion P words → AllByRecursion Q words
each_map P Q leads [] h = tt
each_map P Q leads (word ∷ words) h = (leads word h.0, each_map P Q leads words h.1)

module _ (P : LastWord → Type 0) where
  each_append : (first later : List LastWord) → AllByRecursion P first → AllByRecursion P later
      → AllByRecursion P (first ++ later)
  each_append [] later h k = k
  each_append (word ∷ first) later h k = (h.0, each_append first later h.1 k)

  each_failure : ((told : Told) → P (LastWord.tells told)) → (requests : List Request)
      → AllByRecursion P (map fails_gone requests)
  each_failure tells [] = tt
  each_failure tells (request ∷ requests) = (tells _, each_failure tells requests)

  each_end : ((told : Told) → P (LastWord.tells told)) → (terminated : Bool) → AllByRecursion P (end_word terminated)
  each_end tells true = tt
  each_end tells false = (tells _, tt)

  -- the client's words
  pub each_client : ((told : Told) → P (LastWord.tells told)) → (m : Machine) → AllByRecursion P (client_words m)
  each_client tells m = each_append _ _ (each_failure tells (without_response m)) (each_end tells m.state.terminated)

  -- the target's
  pub each_target : (phase : Phase) → (is_gone phase ≡ false → P LastWord.disposes) → AllByRecursion P (target_words phase)
  each_target Fresh disposes = tt
  each_target Attached disposes = (disposes refl, tt)
  each_target Gone disposes = tt

  -- those of any ending
  pub each_last : (ending : Ending) (m : Machine) → ((told : Told) → P (LastWord.tells told))
      → (is_gone m.state.phase ≡ false → P LastWord.disposes) → AllByRecursion P (last_words ending m)
  each_last Done m tells disposes = tt
  each_last Left m tells disposes = each_target m.state.phase disposes
  each_last (BadClient fault at) m tells disposes = each_target m.state.phase disposes
  each_last (BadTarget fault at id) m tells disposes = each_client tells m
  each_last ClientLink m tells disposes = each_target m.state.phase disposes
  each_last TargetLink m tells disposes = each_client tells m
  each_last (TargetRefused set command code) m tells disposes =
      each_append _ _ (each_client tells m) (each_target m.state.phase disposes)
  each_last Idle m tells disposes = each_append _ _ (each_client tells m) (each_target m.state.phase disposes)
  each_last Spent m tells disposes = each_target m.state.phase disposes
  each_last Flood m tells disposes = each_target m.state.phase disposes
  each_last NoMemory m tells disposes = tt

-- a word's bytes depend on what the core counts
pub same_bytes : (streams other : StreamState) (core : CoreState) (word : LastWord) → IsCounted streams core word
    → IsCounted other core word → word_bytes streams word ≡ word_bytes other word
same_bytes streams other core (LastWord.tells told) h k =
    ap (λ (n : ℕ). frame_bytes (told_text (n + 1) told)) (h ∙ sym k)
same_bytes streams other core LastWord.disposes h k =
    ap (λ (n : ℕ). packet_bytes (command_packet (id_of n) 1 6 [])) (h ∙ sym k)

-- A session ends where it stands, and this core has the same words to say.
pub words_at : (o : Outside) (core : CoreState) (s : SessionState) (ending : Ending) → core.words ≡ None
    → last_words ending s.machine ≡ last_words ending core.machine
    → AllByRecursion (IsCounted s.streams core) (last_words ending s.machine)
    → AllByRecursion (λ (word : LastWord). IsOpen (word_side word) o) (last_words ending s.machine)
    → HasWords o core (ended_by s ending)
words_at o core s ending unspoken same counted speakable = record {
  words = same ∙ sym (ap (λ (words : Option (List LastWord)). words_of words ending core.machine) unspoken);
  counted = counted;
  speakable = speakable;
}

-- Both sides are open, but for a target that is gone.
pub words_here : (o : Outside) (core : CoreState) (s : SessionState) (ending : Ending) → core.words ≡ None
    → IsOpen Client o → (is_gone s.machine.state.phase ≡ false → IsOpen Target o)
    → last_words ending s.machine ≡ last_words ending core.machine → s.streams.told ≡ core.told
    → s.streams.commands.next ≡ core.commands.next → HasWords o core (ended_by s ending)
words_here o core s ending unspoken client target same told next =
    words_at o core s ending unspoken same
    (each_last (IsCounted s.streams core) ending s.machine (λ _. told) (λ _. next))
    (each_last (λ (word : LastWord). IsOpen (word_side word) o) ending s.machine (λ _. client) target)
