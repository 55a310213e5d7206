-- What a client was sent tells what the messages come to.
use Rattle.std.proofs.Common.{◌≡◌, ◌∙◌, ℕ, ◌+◌, ◌<◌, ◌≤◌, ◌^◌, List, [], ◌∷◌, ◌++◌, ap, ap₂, arith, drop, length, map, refl, subst}
use Rattle.std.proofs.Common.{append-nil, sym, true, false}
use Rattle.std.specs.List.{AllByRecursion, flat_map}
use Rattle.std.proofs.lemmas.List.{drop_all}
use Rattle.dap_frames.specs.Frames.{Frame, frame_bytes, frame_front}
use Rattle.dap_frames.proofs.FrameLaws.{frame-again, front-steady}
use Rattle.dap_messages.specs.Telling.{told_text}
use Rattle.dap_messages.specs.declared.told.Told.{Told}
use Rattle.machine_model.specs.Rest.{told_by, told_of}
use Rattle.machine_model.specs.Runs.{Message}
use Rattle.session_laws.specs.Bytes.{of_side, went_by, went_to}
use Rattle.session_laws.specs.Sending.{AreSentAs, GoesAs, is_told}
use Rattle.session_laws.proofs.Steps.{flat_map_one_more, flat_map_same}
use Rattle.session_model.specs.Names.{Client, Entry, Failed, In, Out, Quiet, Shut, Side, Target}
use Rattle.session_summaries.specs.Bodies.{bodies_of}
use Rattle.session_summaries.specs.Summaries.{told_to_client}
use Rattle.session_summaries.specs.Told.{told_by as tells_by, told_in, with_told}
use Rattle.session_summaries.proofs.BodyLaws.{all_bodies}
use Rattle.summary_laws.specs.Messages.{IsReadable, tally_among, tally_of}
use Rattle.summary_laws.proofs.MessageLaws.{body_behind, message_behind, message_read}
use Rattle.wire_core.specs.Streams.{Front, Hands, HasNoWhole, Uncut, fed, past, uncut, whole}
use Rattle.wire_core.proofs.StreamLaws.{Hands-append, Hands-fed}

abbrev pub body_in : ℕ × Frame → List ℕ
body_in frame = frame.1.body

-- bytes are whole frames, which tell what these messages come to
pub record TellsAll (told : List Told) (n : ℕ) (bytes : List ℕ) : Type 0 where
  pub frames : List (ℕ × Frame)
  pub now : Uncut
  pub hands : Hands frame_front (fed uncut bytes) frames now
  pub whole : now.pending ≡ []
  pub tells : told_in (map body_in frames) ≡ tally_among told
  pub count : n ≡ length told

-- Lists that grow at the end -----------------------------------------------------------------------------------------

front_of : {A : Type 0} (Is : A → Type 0) (xs : List A) (x : A) → AllByRecursion Is (xs ++ x ∷ [])
    → AllByRecursion Is xs × Is x
front_of Is [] x all = (tt, all.0)
front_of Is (first ∷ xs) x all = let rest = front_of Is xs x all.1 in ((all.0, rest.0), rest.1)

pub map_behind : {A B : Type 0} (f : A → B) (xs : List A) (x : A) → map f (xs ++ x ∷ []) ≡ map f xs ++ f x ∷ []
map_behind f [] x = refl
map_behind f (first ∷ xs) x = ap (λ ys. f first ∷ ys) (map_behind f xs x)

pub length_behind : {A : Type 0} (xs : List A) (x : A) → length (xs ++ x ∷ []) ≡ length xs + 1
length_behind [] x = refl
length_behind (first ∷ xs) x = let rest = length_behind xs x in omega (arith, rest)

-- One message more ---------------------------------------------------------------------------------------------------

one_more : (told : List Told) (n : ℕ) (bytes : List ℕ) (message : Told) → TellsAll told n bytes → n + 1 < 2 ^ 64
    → IsReadable message
    → TellsAll (told ++ message ∷ []) (n + 1) (bytes ++ frame_bytes (told_text (n + 1) message))
one_more told n bytes message so few is =
    by _ (ap frame_front (sym (append-nil (frame_bytes (told_text (n + 1) message))))
    ∙ frame-again (told_text (n + 1) message) [] (is.short (n + 1) few)) refl where
      by : (frame : Frame) → frame_front (frame_bytes (told_text (n + 1) message))
          ≡ whole frame (length (frame_bytes (told_text (n + 1) message)))
          → frame.body ≡ told_text (n + 1) message
          → TellsAll (told ++ message ∷ []) (n + 1) (bytes ++ frame_bytes (told_text (n + 1) message))
      by frame here body_is =
          let more : List ℕ = frame_bytes (told_text (n + 1) message) in
          let size : ℕ = length more in
          let start : Uncut = fed so.now more in
          let last : ℕ × Frame = (so.now.at, frame) in
          let pending : so.now.pending ++ more ≡ more = ap (λ front. front ++ more) so.whole in
          let now : Uncut = past start size in
          let first : Hands frame_front (fed (fed uncut bytes) more) so.frames start =
          Hands-fed frame_front front-steady (fed uncut bytes) so.frames so.now more so.hands in
          let second : Hands frame_front start (last ∷ []) now = (size, ap frame_front pending ∙ here, refl, refl) in
          let behind : length (told ++ message ∷ []) ≡ length told + 1 = length_behind told message in
          record {
            frames = so.frames ++ last ∷ [];
            now = now;
            hands = Hands-append frame_front (fed (fed uncut bytes) more) so.frames start (last ∷ []) now first second;
            whole = ap (λ p. drop size p) pending ∙ drop_all size more (omega arith);
            tells =
                ap told_in (map_behind body_in so.frames last)
                ∙ body_behind (map body_in so.frames) frame.body
                ∙ ap₂ (λ a b. with_told a b) so.tells
                (ap tells_by body_is ∙ message_read (n + 1) message few is.tellable)
                ∙ sym (message_behind told message);
            count = omega (arith, so.count, behind);
          }

-- All messages -------------------------------------------------------------------------------------------------------

not_told : (message : Message) → is_told message ≡ false → told_by message ≡ []
not_told (Message.tells told) h = absurd cc
not_told (Message.hears request) h = refl
not_told Message.greets h = refl
not_told Message.greeted h = refl
not_told (Message.sends command) h = refl
not_told (Message.answers command replied) h = refl
not_told Message.ends h = refl
not_told (Message.comes at composite) h = refl
not_told (Message.keeps at body) h = refl
not_told (Message.reads at body composite) h = refl

pub sent_tells : {messages : List Message} {n : ℕ} {bytes : List ℕ} → AreSentAs Client messages n bytes
    → AllByRecursion IsReadable (told_of messages) → length (told_of messages) < 2 ^ 64
    → TellsAll (told_of messages) n bytes
sent_tells AreSentAs.none all few = record {
  frames = [];
  now = fed uncut [];
  hands = refl;
  whole = refl;
  tells = refl;
  count = refl;
}
sent_tells (AreSentAs.aside {messages} {n} {bytes} message is sent) all few =
    let same = flat_map_same told_by messages message (not_told message is) in
    subst (λ told. TellsAll told n bytes) (sym same)
    (sent_tells sent (subst (AllByRecursion IsReadable) same all) (subst (λ told. length told < 2 ^ 64) same few))
sent_tells (AreSentAs.goes {messages} {n} {bytes} message (GoesAs.tells told) sent) all few =
    let same = flat_map_one_more told_by messages (Message.tells told) in
    let both = front_of IsReadable (told_of messages) told (subst (AllByRecursion IsReadable) same all) in
    let size = length_behind (told_of messages) told in
    let fewer : length (told_of messages ++ told ∷ []) < 2 ^ 64 = subst (λ told. length told < 2 ^ 64) same few in
    let so = sent_tells sent both.0 (omega (arith, fewer, size)) in
    subst (λ all. TellsAll all (n + 1) (bytes ++ frame_bytes (told_text (n + 1) told))) (sym same)
    (one_more (told_of messages) n bytes told so (omega (arith, fewer, size, so.count)) both.1)

-- The log ------------------------------------------------------------------------------------------------------------

same_entry : (entry : Entry) → told_to_client entry ≡ went_by Client entry
same_entry (In from bytes) = refl
same_entry (Out Client bytes) = refl
same_entry (Out Target bytes) = refl
same_entry (Shut side) = refl
same_entry (Failed side) = refl
same_entry Quiet = refl

same_bytes : (log : List Entry) → flat_map told_to_client log ≡ went_to Client log
same_bytes [] = refl
same_bytes (entry ∷ log) = ap₂ (λ a b. a ++ b) (same_entry entry) (same_bytes log)

waits_empty : HasNoWhole (frame_front [])
unfolding frame_front
waits_empty = tt

pub log_tells : (log : List Entry) (told : List Told) (n : ℕ) (bytes : List ℕ) → went_to Client log ≡ bytes
    → TellsAll told n bytes → told_in (bodies_of (flat_map told_to_client log)) ≡ tally_among told
log_tells log told n bytes is so =
    ap (λ b. told_in (bodies_of b)) (same_bytes log ∙ is)
    ∙ ap told_in (all_bodies bytes so.frames so.now (record {
      hands = so.hands;
      rest = subst (λ p. HasNoWhole (frame_front p)) (sym so.whole) waits_empty;
    }))
    ∙ so.tells
