-- How the last words are said, one after the other.
use Rattle.std.proofs.Common.{◌≡◌, ℕ, ◌+◌, ◌<◌, refl, sym, ap, subst, ◌∙◌, arith, true, false, List, [], ◌∷◌, ◌++◌, length, take}
use Rattle.std.specs.List.{AllByRecursion}
use Rattle.bridge_core.specs.Calls.{SaysNoMore, SaysWord, words_left}
use Rattle.bridge_core.specs.Cores.{CoreState, Unheard, streams_in}
use Rattle.bridge_serve.specs.Following.{FallsSilent, HasEnded, HasWords, IsCounted, IsOver, Says, SaysOne, Speakable}
use Rattle.bridge_serve.specs.Following.{lacks_memory, nothing_heard}
use Rattle.bridge_serve.specs.Names.{Client, Ending, Entry, Limits, NoMemory, Out, Side, Target}
use Rattle.bridge_serve.proofs.LastWords.{each_map, same_bytes, word_some_bytes}
use Rattle.bridge_serve.proofs.Logs.{adds_more, keeps_on, keeps_open, keeps_other, keeps_same, no_wait}
use Rattle.machine_model.specs.Runs.{Message}
use Rattle.session_model.proofs.EndedRules.{breaks_off, says_next}
use Rattle.session_model.specs.LastWords.{LastWord, last_word_said, word_bytes, word_side}
use Rattle.session_model.specs.Session.{Ended, EndedState, IsLeft}
use Rattle.session_model.specs.States.{StreamState}
use Rattle.wire_core.specs.Outside.{Adds, FailsToSend, IsOpen, Outside, StaysOpen, broken_send}
use Rattle.wire_core.specs.Outside.{Sends as sends}

-- the core counts on from its own place
own_counted : (core : CoreState) (unheard : Unheard) (word : LastWord) → IsCounted (streams_in core unheard) core word
own_counted core unheard (LastWord.tells told) = refl
own_counted core unheard LastWord.disposes = refl

counted_on : (streams : StreamState) (core core' : CoreState) (unheard : Unheard) (word other : LastWord)
    → streams_in core' unheard ≡ last_word_said (streams_in core unheard) word → IsCounted streams core other
    → IsCounted (last_word_said streams word) core' other
counted_on streams core core' unheard (LastWord.tells told) (LastWord.tells other) is h =
    ap (λ (n : ℕ). n + 1) h ∙ sym (ap (λ (s : StreamState). s.told) is)
counted_on streams core core' unheard (LastWord.tells told) LastWord.disposes is h =
    h ∙ sym (ap (λ (s : StreamState). s.commands.next) is)
counted_on streams core core' unheard LastWord.disposes (LastWord.tells other) is h =
    h ∙ sym (ap (λ (s : StreamState). s.told) is)
counted_on streams core core' unheard LastWord.disposes LastWord.disposes is h =
    h ∙ sym (ap (λ (s : StreamState). s.commands.next) is)

open_on : (old new : Outside) (side : Side) → StaysOpen old new → IsOpen side old → IsOpen side new
open_on old new Client stays is_open = stays.client ∙ is_open
open_on old new Target stays is_open = stays.target ∙ is_open

module _ {ending : Ending} {core core' : CoreState} {side : Side} {bytes : List ℕ}
    (says : SaysWord ending core side bytes core') where
  -- what holds of all words that are left holds of the next, and of the others
  split : (P : LastWord → Type 0) → AllByRecursion P (words_left ending core)
      → P says.word × AllByRecursion P (words_left ending core')
  split P h = subst (AllByRecursion P) says.left h

  -- the bytes of the next word, wherever a session counts so
  bytes_at : (streams : StreamState) → IsCounted streams core says.word → bytes ≡ word_bytes streams says.word
  bytes_at streams counted =
      says.bytes_are nothing_heard
      ∙ same_bytes (streams_in core nothing_heard) streams core says.word
      (own_counted core nothing_heard says.word) counted

  pub word_open : (o : Outside) → Speakable o (words_left ending core) → IsOpen side o
  word_open o speakable =
      subst (λ (s : Side). IsOpen s o) (sym says.side_is)
      (split (λ (word : LastWord). IsOpen (word_side word) o) speakable).0

  pub word_bytes_some : 0 < length bytes
  word_bytes_some =
      subst (λ (bs : List ℕ). 0 < length bs) (sym (says.bytes_are nothing_heard))
      (word_some_bytes (streams_in core nothing_heard) says.word)

  pub fewer_words : length (words_left ending core') < length (words_left ending core)
  fewer_words = let count = ap length says.left in omega (arith, count)

  speakable_on : (old new : Outside) → StaysOpen old new → Speakable old (words_left ending core)
      → Speakable new (words_left ending core')
  speakable_on old new stays speakable =
      each_map (λ (word : LastWord). IsOpen (word_side word) old) (λ (word : LastWord). IsOpen (word_side word) new)
      (λ word is_open. open_on old new (word_side word) stays is_open) (words_left ending core')
      (split (λ (word : LastWord). IsOpen (word_side word) old) speakable).1

  -- it is said
  said_on : (limits : Limits) (begin old new : Outside) (turns : ℕ) {added : List Entry} {messages : List Message}
      (e : EndedState) → e.ending ≡ ending → sends old new side bytes → Adds begin old added
      → Ended limits added messages turns e → HasWords old core e → HasEnded limits begin new turns core' ending
  said_on limits begin old new turns {added} {messages} e is sent log ended has =
      let words : e.left ≡ words_left ending core = has.words ∙ ap (λ (n : Ending). words_left n core) is in
      let counted = split (IsCounted e.streams core) (subst (AllByRecursion (IsCounted e.streams core)) words
      has.counted) in
      let entry : Out (word_side says.word) (word_bytes e.streams says.word) ≡ Out side bytes =
      ap (λ (s : Side). Out s (word_bytes e.streams says.word)) (sym says.side_is)
      ∙ ap (λ (bs : List ℕ). Out side bs) (sym (bytes_at e.streams counted.0)) in
      let streams = last_word_said e.streams says.word in
      subst (λ (n : Ending). HasEnded limits begin new turns core' n) is (HasEnded.ended
      {e = record e { said = e.said ++ says.word ∷ []; left = words_left ending core'; streams = streams }}
      (adds_more begin old new added (Out side bytes ∷ []) log sent.log)
      (subst (λ (one : Entry). Ended limits (added ++ one ∷ []) messages turns
      (record e { said = e.said ++ says.word ∷ []; left = words_left ending core'; streams = streams })) entry
      (says_next ended (words ∙ says.left))) (record {
        words = ap (λ (n : Ending). words_left n core') (sym is);
        counted = each_map (IsCounted e.streams core) (IsCounted streams core')
            (λ word h. counted_on e.streams core core' nothing_heard says.word word
            (says.streams_are nothing_heard) h) (words_left ending core') counted.1;
        speakable = speakable_on old new sent.stays (subst (λ (ws : List LastWord). Speakable old ws) words
            has.speakable);
      }))

  said_at : (limits : Limits) (begin old new : Outside) (turns : ℕ) (now : Ending) → now ≡ ending
      → lacks_memory now ≡ false → sends old new side bytes → HasEnded limits begin old turns core now
      → HasEnded limits begin new turns core' ending
  said_at limits begin old new turns now is caused sent (HasEnded.ended {e = e} log ended has) =
      said_on limits begin old new turns e is sent log ended has
  said_at limits begin old new turns now is caused sent (HasEnded.forgets follows) = cc

  pub says_one : (old new : Outside) → lacks_memory ending ≡ false → Speakable old (words_left ending core)
      → sends old new side bytes → SaysOne old new core core' ending
  says_one old new caused speakable sent = record {
    leads = λ limits begin turns h. said_at limits begin old new turns ending refl caused sent h;
    keeps = keeps_open sent.counts (no_wait old new sent.waits) sent.asked sent.stays;
    speakable = speakable_on old new sent.stays speakable;
  }

  -- it can't be said
  broken_on : (limits : Limits) (begin old new : Outside) (turns : ℕ) {added : List Entry} {messages : List Message}
      (e : EndedState) → e.ending ≡ ending → FailsToSend old new side bytes → Adds begin old added
      → Ended limits added messages turns e → HasWords old core e → IsOver limits begin new turns ending
  broken_on limits begin old new turns {added} {messages} e is failed log ended has =
      let words : e.left ≡ words_left ending core = has.words ∙ ap (λ (n : Ending). words_left n core) is in
      let counted = split (IsCounted e.streams core) (subst (AllByRecursion (IsCounted e.streams core)) words
      has.counted) in
      let same = bytes_at e.streams counted.0 in
      let proper : failed.kept < length (word_bytes e.streams says.word) =
      subst (λ (bs : List ℕ). failed.kept < length bs) same failed.proper in
      let entries : broken_send (word_side says.word) (take failed.kept (word_bytes e.streams says.word))
      ≡ broken_send side (take failed.kept bytes) =
      ap (λ (s : Side). broken_send s (take failed.kept (word_bytes e.streams says.word))) (sym says.side_is)
      ∙ ap (λ (bs : List ℕ). broken_send side (take failed.kept bs)) (sym same) in
      record {
        added = added ++ broken_send side (take failed.kept bytes);
        messages = messages;
        log = adds_more begin old new added _ log failed.log;
        left = subst (λ (n : Ending). IsLeft limits (added ++ broken_send side (take failed.kept bytes)) messages turns n)
            is (IsLeft.ended {e = record e { left = [] }}
            (subst (λ (es : List Entry). Ended limits (added ++ es) messages turns (record e { left = [] })) entries
            (breaks_off ended (words ∙ says.left) proper)) refl);
      }

  broken_at : (limits : Limits) (begin old new : Outside) (turns : ℕ) (now : Ending) → now ≡ ending
      → lacks_memory now ≡ false → FailsToSend old new side bytes → HasEnded limits begin old turns core now
      → IsOver limits begin new turns ending
  broken_at limits begin old new turns now is caused failed (HasEnded.ended {e = e} log ended has) =
      broken_on limits begin old new turns e is failed log ended has
  broken_at limits begin old new turns now is caused failed (HasEnded.forgets follows) = cc

  pub falls_silent : (old new : Outside) → lacks_memory ending ≡ false → FailsToSend old new side bytes
      → FallsSilent old new core ending ending
  falls_silent old new caused failed = record {
    leads = λ limits begin turns h. broken_at limits begin old new turns ending refl caused failed h;
    keeps = keeps_other side failed.counts (no_wait old new failed.waits) failed.asked failed.closes;
  }

-- all were said
all_said : (limits : Limits) (begin o : Outside) (turns : ℕ) (core : CoreState) (ending : Ending)
    → lacks_memory ending ≡ false → words_left ending core ≡ [] → HasEnded limits begin o turns core ending
    → IsOver limits begin o turns ending
all_said limits begin o turns core ending caused none (HasEnded.ended {added} {messages} log ended has) =
    record { added = added; messages = messages; log = log; left = IsLeft.ended ended (has.words ∙ none) }
all_said limits begin o turns core ending caused none (HasEnded.forgets follows) = cc

pub none_left : (o : Outside) (core core' : CoreState) (ending : Ending) → lacks_memory ending ≡ false
    → SaysNoMore ending core core' → FallsSilent o o core ending ending
none_left o core core' ending caused no_more = record {
  leads = λ limits begin turns h. all_said limits begin o turns core ending caused no_more.none_left h;
  keeps = keeps_same o;
}

-- memory ran out
forgot : (limits : Limits) (begin o : Outside) (turns : ℕ) (core : CoreState) (ending : Ending)
    → HasEnded limits begin o turns core ending → IsOver limits begin o turns NoMemory
forgot limits begin o turns core ending (HasEnded.ended {added} {messages} log ended has) =
    record { added = added; messages = messages; log = log; left = IsLeft.no_memory_then ended }
forgot limits begin o turns core ending (HasEnded.forgets follows) = record {
  added = follows.added;
  messages = follows.messages;
  log = follows.log;
  left = IsLeft.no_memory follows.going;
}

pub forgets : (o : Outside) (core : CoreState) (ending : Ending) → FallsSilent o o core ending NoMemory
forgets o core ending =
    record { leads = λ limits begin turns h. forgot limits begin o turns core ending h; keeps = keeps_same o }

memory_is : (ending : Ending) → lacks_memory ending ≡ true → ending ≡ NoMemory
memory_is ending is = grind (arith, is)

-- nothing is said for want of memory
pub says_nothing : (o : Outside) (core : CoreState) (ending : Ending) → lacks_memory ending ≡ true
    → Says o o core ending ending
says_nothing o core ending is =
    subst (λ (n : Ending). Says o o core n n) (sym (memory_is ending is)) (Says.no_memory (forgets o core NoMemory))

-- nothing was said yet
pub speaks_none : (o : Outside) (core : CoreState) (ending : Ending) → Speakable o (words_left ending core)
    → SaysOne o o core core ending
speaks_none o core ending speakable =
    record { leads = λ limits begin turns h. h; keeps = keeps_same o; speakable = speakable }

-- one after the other
pub speaks_on : (a b c : Outside) (x y z : CoreState) (ending : Ending) → SaysOne a b x y ending
    → SaysOne b c y z ending → SaysOne a c x z ending
speaks_on a b c x y z ending h k = record {
  leads = λ limits begin turns has. k.leads limits begin turns (h.leads limits begin turns has);
  keeps = keeps_on h.keeps k.keeps;
  speakable = k.speakable;
}

pub silent_on : (a b c : Outside) (x y : CoreState) (ending result : Ending) → SaysOne a b x y ending
    → FallsSilent b c y ending result → FallsSilent a c x ending result
silent_on a b c x y ending result h k = record {
  leads = λ limits begin turns has. k.leads limits begin turns (h.leads limits begin turns has);
  keeps = keeps_on h.keeps k.keeps;
}
