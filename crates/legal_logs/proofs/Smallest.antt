-- The smallest session: the client leaves before a target was attached, and is answered. Where each reading of a log
-- stands that begins so.
use Rattle.std.proofs.Common.{◌≡◌, ◌⊎◌, inl, inr, ℕ, ◌<◌, Bool, true, false, List, [], ◌∷◌, ◌++◌, Option, None, Some}
use Rattle.std.proofs.Common.{Result, Ok, Err, ◌≤◌, ◌+◌, codes, length, refl, sym, ap, subst, ◌∙◌, arith}
use Rattle.std.specs.List.{Contains}
use Rattle.dap_frames.specs.Frames.{Frame, frame_front}
use Rattle.dap_messages.specs.Reading.{reading_of}
use Rattle.dap_messages.specs.declared.requests.Incoming.{Incoming}
use Rattle.dap_messages.specs.declared.requests.ReadFault.{ReadFault}
use Rattle.dap_messages.specs.declared.requests.Incoming.TheVariants.{Ignored as ignored, Request as says_request}
use Rattle.dap_messages.specs.declared.told.Outcome.TheVariants as outcomes
use Rattle.dap_messages.specs.declared.told.Shape.TheVariants as shapes
use Rattle.legal_logs.specs.Asking.{MayAsk, MaySay, due_asked}
use Rattle.legal_logs.specs.Endings.{EndsHere}
use Rattle.legal_logs.specs.Readings.{HasReadAll, IsAdded, Reading}
use Rattle.machine_model.specs.Due.{can_read, due, lacked_by, load_of, newly_lacked, wanted}
use Rattle.machine_model.specs.Runs.{Allows, Message, heard, said}
use Rattle.machine_model.specs.State.{Hand, Machine, State, fresh}
use Rattle.machine_model.specs.Telling.{response_to}
use Rattle.session_model.specs.Faults.{HasReply, IsClientFault, IsTargetFault}
use Rattle.session_model.specs.Names.{Act, Client, ClientFault, Done, Ending, Entry, finish_done}
use Rattle.session_model.specs.Names.{finish_one_thread, Finish, In, Limits, Out, Request, Side, Target}
use Rattle.session_model.specs.Names.{Composite, TargetCommand, TargetFault, Told, Want}
use Rattle.dap_messages.specs.declared.requests.Command.TheVariants.{Disconnect}
use Rattle.session_model.specs.Saying.{Brings, Speaks, one_told, told_bytes}
use Rattle.session_model.specs.Session.{Comes, quiets_after}
use Rattle.session_model.specs.States.{SessionState, StreamState, no_bytes, start, target_front}
use Rattle.wire_core.specs.Streams.{Front, Uncut, fed, past, uncut}

-- The session ---------------------------------------------------------------------------------------------------------

abbrev pub limits : Limits
limits = record { turns = 9; quiet = 3; waiting = 2 }

abbrev pub leave : Request
leave = record {
  seq = 1;
  name = codes "disconnect";
  command = Disconnect (record { terminate_debuggee = false });
}

-- a piece that says it
pub record SaysLeave (piece : List ℕ) (n : ℕ) : Type 0 where
  pub frame : Frame
  pub whole : frame_front piece ≡ Front.whole frame n
  pub says : reading_of frame.body ≡ Ok (says_request leave)

-- where the session stands once that came, was heard, was begun, and had its choice made; and once it was answered
abbrev pub came : List ℕ → SessionState
came piece = record start { streams = record no_bytes { client = fed no_bytes.client piece } }

abbrev pub is_heard : List ℕ → ℕ → SessionState
is_heard piece n = record (came piece) {
  machine = heard fresh leave;
  streams = record (came piece).streams { client = past (came piece).streams.client n };
}

abbrev pub stepped : SessionState → SessionState
stepped s = record s { machine = (due_asked s.machine).next }

abbrev pub is_begun : List ℕ → ℕ → SessionState
is_begun piece n = stepped (is_heard piece n)

abbrev pub has_chosen : List ℕ → ℕ → SessionState
has_chosen piece n = stepped (is_begun piece n)

abbrev pub is_answered : List ℕ → ℕ → SessionState
is_answered piece n = record (stepped (has_chosen piece n)) { streams = one_told (has_chosen piece n).streams }

-- its answer
abbrev pub answer : Told
answer = response_to leave (outcomes.Success shapes.Nothing)

abbrev pub answer_bytes : List ℕ
answer_bytes = told_bytes 0 answer

-- What is due there ---------------------------------------------------------------------------------------------------

abbrev pub m_heard : Machine
m_heard = heard fresh leave

abbrev pub m_begun : Machine
m_begun = (due_asked m_heard).next

abbrev pub m_chosen : Machine
m_chosen = (due_asked m_begun).next

abbrev pub m_answered : Machine
m_answered = (due_asked m_chosen).next

pub fresh_waits : (due_asked fresh).act ≡ Act.Waits
unfolding due_asked load_of wanted newly_lacked
fresh_waits = refl

pub heard_goes : (due_asked m_heard).act ≡ Act.Goes
unfolding due_asked load_of wanted newly_lacked
heard_goes = refl

pub begun_goes : (due_asked m_begun).act ≡ Act.Goes
unfolding due_asked load_of wanted newly_lacked
begun_goes = refl

pub chosen_tells : (due_asked m_chosen).act ≡ Act.Tells answer
unfolding due_asked load_of wanted newly_lacked
chosen_tells = refl

pub answered_over : (due_asked m_answered).act ≡ Act.Over finish_done
unfolding due_asked load_of wanted newly_lacked
answered_over = refl

-- and nothing is lacking
abbrev lacked_in : State → Option Hand → List Want
lacked_in state None = []
lacked_in state (Some hand) = lacked_by state hand hand.parts

begun_lacks : lacked_in m_begun.state m_begun.hand ≡ []
unfolding due_asked load_of wanted newly_lacked
begun_lacks = refl

chosen_lacks : lacked_in m_chosen.state m_chosen.hand ≡ []
unfolding due_asked load_of wanted newly_lacked
chosen_lacks = refl

answered_lacks : lacked_in m_answered.state m_answered.hand ≡ []
unfolding due_asked load_of wanted newly_lacked
answered_lacks = refl

none_in : {wants : List Want} {want : Want} → wants ≡ [] → Contains wants want → ⊥
none_in {want} none among = of_none (subst (λ (wants : List Want). Contains wants want) none among)
  where
    of_none : Contains [] want → ⊥
    of_none (place, less, is) = omega (arith, less)

asks_none : {m next : Machine} {want : Want} → lacked_in m.state m.hand ≡ [] → MayAsk m want next → ⊥
asks_none {m} {want = want} none may =
    none_in {want = want} (ap (λ (hand : Option Hand). lacked_in m.state hand) (sym may.lacking.held) ∙ none)
    may.lacking.lacking.0

pub none_said : {found : Option Message} {message : Message} → found ≡ None → found ≡ Some message → ⊥
none_said none says = cc

-- nothing goes out where nothing is said and nothing is lacking
says_none : {m next : Machine} {message : Message} → said (due_asked m).act ≡ None → lacked_in m.state m.hand ≡ []
    → MaySay m message next → ⊥
says_none none lacks (MaySay.acts says) = none_said none says
says_none none lacks (MaySay.asks may) = asks_none lacks may

-- Where a reading stands ----------------------------------------------------------------------------------------------

-- a log of at most two entries, the first of which is the piece
abbrev pub Fits : List ℕ → List Entry → Type 0
Fits piece [] = Unit {0}
Fits piece (first ∷ []) = first ≡ In Client piece
Fits piece (first ∷ second ∷ []) = first ≡ In Client piece
Fits piece (first ∷ second ∷ third ∷ rest) = ⊥

pub fits_less : (piece : List ℕ) (log : List Entry) (last : Entry) → Fits piece (log ++ last ∷ []) → Fits piece log
fits_less piece [] last fits = tt
fits_less piece (first ∷ []) last fits = fits
fits_less piece (first ∷ second ∷ []) last fits = absurd fits
fits_less piece (first ∷ second ∷ third ∷ rest) last fits = absurd fits

-- the last of them may be another send
fits_other : (piece : List ℕ) (log : List Entry) (side : Side) (bytes others : List ℕ)
    → Fits piece (log ++ Out side bytes ∷ []) → Fits piece (log ++ Out side others ∷ [])
fits_other piece [] side bytes others fits = absurd cc
fits_other piece (first ∷ []) side bytes others fits = fits
fits_other piece (first ∷ second ∷ []) side bytes others fits = absurd fits
fits_other piece (first ∷ second ∷ third ∷ rest) side bytes others fits = absurd fits

pub data Stage (piece : List ℕ) (n : ℕ) : List Entry → ℕ → SessionState → Type 0 where
  at_first : Stage piece n [] 0 start
  came_now : Stage piece n (In Client piece ∷ []) 1 (came piece)
  heard_now : Stage piece n (In Client piece ∷ []) 1 (is_heard piece n)
  begun_now : Stage piece n (In Client piece ∷ []) 1 (is_begun piece n)
  chosen_now : Stage piece n (In Client piece ∷ []) 1 (has_chosen piece n)
  answered_now : Stage piece n (In Client piece ∷ Out Client answer_bytes ∷ []) 1 (is_answered piece n)

-- A step --------------------------------------------------------------------------------------------------------------

goes_not : {act : Act} → act ≡ Act.Waits → act ≡ Act.Goes → ⊥
goes_not waits goes = cc

tells_not : {act : Act} {told : Told} → act ≡ Act.Tells told → act ≡ Act.Goes → ⊥
tells_not tells goes = cc

over_not : {act : Act} {finish : Finish} → act ≡ Act.Over finish → act ≡ Act.Goes → ⊥
over_not over goes = cc

stage_goes : {piece : List ℕ} {n turns : ℕ} {log : List Entry} {s : SessionState} → Stage piece n log turns s
    → (due_asked s.machine).act ≡ Act.Goes → Stage piece n log turns (stepped s)
stage_goes Stage.at_first goes = absurd (goes_not fresh_waits goes)
stage_goes Stage.came_now goes = absurd (goes_not fresh_waits goes)
stage_goes Stage.heard_now goes = Stage.begun_now
stage_goes Stage.begun_now goes = Stage.chosen_now
stage_goes Stage.chosen_now goes = absurd (tells_not chosen_tells goes)
stage_goes Stage.answered_now goes = absurd (over_not answered_over goes)

-- What goes out -------------------------------------------------------------------------------------------------------

-- the answer alone goes out, and nothing else
pub record IsAnswer (piece : List ℕ) (log : List Entry) (side : Side) (bytes : List ℕ) : Type 0 where
  pub log_is : log ≡ In Client piece ∷ []
  pub side_is : side ≡ Client
  pub bytes_are : bytes ≡ answer_bytes

same_told : {act : Act} {told other : Told} → act ≡ Act.Tells told → said act ≡ Some (Message.tells other)
    → other ≡ told
same_told {told} {other} is says =
    let so : Some (Message.tells told) ≡ Some (Message.tells other) = sym (ap said is) ∙ says in cc

no_greeting : {act : Act} {told : Told} → act ≡ Act.Tells told → said act ≡ Some Message.greets → ⊥
no_greeting {told} is says =
    let so : Some (Message.tells told) ≡ Some Message.greets = sym (ap said is) ∙ says in cc

no_command : {act : Act} {told : Told} {command : TargetCommand} → act ≡ Act.Tells told
    → said act ≡ Some (Message.sends command) → ⊥
no_command {told} {command} is says =
    let so : Some (Message.tells told) ≡ Some (Message.sends command) = sym (ap said is) ∙ says in cc

chosen_says : (piece : List ℕ) (n : ℕ) {bytes : List ℕ} {next : Machine} {message : Message} {side : Side}
    {streams : StreamState} → MaySay m_chosen message next
    → Speaks (has_chosen piece n) message side bytes streams
    → IsAnswer piece (In Client piece ∷ []) side bytes
chosen_says piece n (MaySay.acts says) Speaks.tells = record {
  log_is = refl;
  side_is = refl;
  bytes_are = ap (λ told. told_bytes 0 told) (same_told chosen_tells says);
}
chosen_says piece n (MaySay.acts says) Speaks.greets = absurd (no_greeting chosen_tells says)
chosen_says piece n (MaySay.acts says) (Speaks.sends id serves) = absurd (no_command chosen_tells says)
chosen_says piece n (MaySay.asks may) speaks = absurd (asks_none chosen_lacks may)

pub only_answer : {piece bytes : List ℕ} {n turns : ℕ} {log : List Entry} {s : SessionState} {next : Machine}
    {message : Message} {side : Side} {streams : StreamState} → Stage piece n log turns s
    → MaySay s.machine message next → Speaks s message side bytes streams → IsAnswer piece log side bytes
only_answer Stage.at_first may speaks = absurd (says_none (ap said fresh_waits) refl may)
only_answer Stage.came_now may speaks = absurd (says_none (ap said fresh_waits) refl may)
only_answer Stage.heard_now may speaks = absurd (says_none (ap said heard_goes) refl may)
only_answer Stage.begun_now may speaks = absurd (says_none (ap said begun_goes) begun_lacks may)
only_answer {piece} {n = n} Stage.chosen_now may speaks = chosen_says piece n may speaks
only_answer Stage.answered_now may speaks = absurd (says_none (ap said answered_over) answered_lacks may)

chosen_stage : {piece bytes : List ℕ} {n : ℕ} {next : Machine} {message : Message} {side : Side}
    {streams : StreamState} → MaySay m_chosen message next
    → Speaks (has_chosen piece n) message side bytes streams
    → Stage piece n (In Client piece ∷ Out side bytes ∷ []) 1
    (record (has_chosen piece n) { machine = next; streams = streams })
chosen_stage {piece} {n = n} (MaySay.acts says) Speaks.tells =
    subst (λ told. Stage piece n (In Client piece ∷ Out Client (told_bytes 0 told) ∷ []) 1 (is_answered piece n))
    (sym (same_told chosen_tells says)) Stage.answered_now
chosen_stage (MaySay.acts says) Speaks.greets = absurd (no_greeting chosen_tells says)
chosen_stage (MaySay.acts says) (Speaks.sends id serves) = absurd (no_command chosen_tells says)
chosen_stage (MaySay.asks may) speaks = absurd (asks_none chosen_lacks may)

stage_apart : {piece bytes : List ℕ} {n turns : ℕ} {log : List Entry} {s : SessionState} {next : Machine}
    {message : Message} {side : Side} {streams : StreamState} → Stage piece n log turns s
    → MaySay s.machine message next → Speaks s message side bytes streams
    → Stage piece n (log ++ Out side bytes ∷ []) turns (record s { machine = next; streams = streams })
stage_apart Stage.at_first may speaks = absurd (says_none (ap said fresh_waits) refl may)
stage_apart Stage.came_now may speaks = absurd (says_none (ap said fresh_waits) refl may)
stage_apart Stage.heard_now may speaks = absurd (says_none (ap said heard_goes) refl may)
stage_apart Stage.begun_now may speaks = absurd (says_none (ap said begun_goes) begun_lacks may)
stage_apart Stage.chosen_now may speaks = chosen_stage may speaks
stage_apart Stage.answered_now may speaks = absurd (says_none (ap said answered_over) answered_lacks may)

abbrev ends_with_send : List Entry → Bool
ends_with_send [] = false
ends_with_send (Out side bytes ∷ []) = true
ends_with_send (In side bytes ∷ []) = false
ends_with_send (_ ∷ []) = false
ends_with_send (first ∷ second ∷ rest) = ends_with_send (second ∷ rest)

sent_last : (log : List Entry) (side : Side) (bytes : List ℕ) → ends_with_send (log ++ Out side bytes ∷ []) ≡ true
sent_last [] side bytes = refl
sent_last (first ∷ []) side bytes = refl
sent_last (first ∷ second ∷ rest) side bytes = sent_last (second ∷ rest) side bytes

-- it stands in an entry of its own
pub not_joined : {piece : List ℕ} (log : List Entry) (side : Side) (begun : List ℕ)
    → log ++ Out side begun ∷ [] ≡ In Client piece ∷ [] → ⊥
not_joined log side begun is =
    let no : true ≡ false = sym (sent_last log side begun) ∙ ap ends_with_send is in cc

stage_speaks : {piece bytes : List ℕ} {n turns : ℕ} {log longer : List Entry} {s : SessionState} {next : Machine}
    {message : Message} {side : Side} {streams : StreamState} → Stage piece n log turns s
    → MaySay s.machine message next → Speaks s message side bytes streams → IsAdded side bytes log longer
    → Stage piece n longer turns (record s { machine = next; streams = streams })
stage_speaks stage may speaks IsAdded.apart = stage_apart stage may speaks
stage_speaks {side = side} stage may speaks (IsAdded.joined log begun) =
    absurd (not_joined log side begun (only_answer stage may speaks).log_is)

-- What is read --------------------------------------------------------------------------------------------------------

not_whole : {M F : Type 0} {front : Front M F} {m : M} {n : ℕ} → front ≡ Front.whole m n → front ≡ Front.waits → ⊥
not_whole whole waits = cc

pub not_false : {b : Bool} → b ≡ true → b ≡ false → ⊥
not_false holds fails = cc

pub no_frame_yet : frame_front [] ≡ Front.waits
unfolding frame_front
no_frame_yet = refl

not_faulty : {M F : Type 0} {front : Front M F} {m : M} {f : F} {n distance : ℕ} → front ≡ Front.whole m n
    → front ≡ Front.faulty f distance → ⊥
not_faulty whole faulty = cc

no_fault : {M F : Type 0} {front : Front M F} {f : F} {distance : ℕ} → front ≡ Front.waits
    → front ≡ Front.faulty f distance → ⊥
no_fault waits faulty = cc

same_message : {M F : Type 0} {front : Front M F} {m other : M} {n count : ℕ} → front ≡ Front.whole m n
    → front ≡ Front.whole other count → other ≡ m
same_message whole also = cc

same_count : {M F : Type 0} {front : Front M F} {m other : M} {n count : ℕ} → front ≡ Front.whole m n
    → front ≡ Front.whole other count → count ≡ n
same_count whole also = cc

-- what a body says is one thing
one_request : {read : Result Incoming ReadFault} {one other : Request} → read ≡ Ok (says_request one)
    → read ≡ Ok (says_request other) → other ≡ one
one_request says also = cc

none_passed : {read : Result Incoming ReadFault} {one : Request} → read ≡ Ok (says_request one) → read ≡ Ok ignored
    → ⊥
none_passed says also = cc

none_refused : {read : Result Incoming ReadFault} {one : Request} {fault : ReadFault} → read ≡ Ok (says_request one)
    → read ≡ Err fault → ⊥
none_refused says also = cc

-- of the piece's frame
says_it : {piece : List ℕ} {n count : ℕ} {frame : Frame} (h : SaysLeave piece n)
    → frame_front piece ≡ Front.whole frame count → reading_of frame.body ≡ Ok (says_request leave)
says_it h whole = ap (λ (frame : Frame). reading_of frame.body) (same_message h.whole whole) ∙ h.says

-- a fresh machine allows a request to be heard, and it is heard
fresh_says : said (due false fresh).act ≡ None
unfolding due load_of wanted newly_lacked
fresh_says = refl

fresh_hears : {request : Request} {next : Machine} → Allows fresh (Message.hears request) next
    → next ≡ heard fresh request
fresh_hears (Allows.acts says) = absurd (none_said fresh_says says)
fresh_hears (Allows.hears read is_open) = refl

fresh_reads : {at : ℕ} {body : List ℕ} {composite : Composite} {next : Machine}
    → Allows fresh (Message.reads at body composite) next → ⊥
fresh_reads (Allows.acts says) = none_said fresh_says says
fresh_reads (Allows.reads before after read waiting first takes) = not_false read refl

-- before the piece came nothing is read
start_brings : {message : Message} {next : Machine} {streams : StreamState} → Allows fresh message next
    → Brings start message streams → ⊥
start_brings allows (Brings.hears whole says) = not_whole whole no_frame_yet
start_brings allows (Brings.greeted sure) = not_false sure refl
start_brings allows (Brings.packet greeted front says) = not_false greeted refl
start_brings allows (Brings.ends sure) = not_false sure refl
start_brings allows (Brings.reads serves reads) = fresh_reads allows

came_as : {piece : List ℕ} {n count : ℕ} {request : Request} {next : Machine} → next ≡ heard fresh request
    → request ≡ leave → count ≡ n → Stage piece n (In Client piece ∷ []) 1 (record (came piece) {
      machine = next;
      streams = record (came piece).streams { client = past (came piece).streams.client count };
    })
came_as {piece} {n} {count} {request} {next} is same taken =
    subst (λ (machine : Machine). Stage piece n (In Client piece ∷ []) 1 (record (came piece) {
      machine = machine;
      streams = record (came piece).streams { client = past (came piece).streams.client count };
    })) (sym (is ∙ ap (λ (heard_one : Request). heard fresh heard_one) same))
    (subst (λ (place : ℕ). Stage piece n (In Client piece ∷ []) 1 (record (came piece) {
      machine = heard fresh leave;
      streams = record (came piece).streams { client = past (came piece).streams.client place };
    })) (sym taken) Stage.heard_now)

came_hears : {piece : List ℕ} {n : ℕ} {message : Message} {next : Machine} {streams : StreamState}
    → SaysLeave piece n → Allows fresh message next → Brings (came piece) message streams
    → Stage piece n (In Client piece ∷ []) 1 (record (came piece) { machine = next; streams = streams })
came_hears h allows (Brings.hears whole says) =
    came_as (fresh_hears allows)
    (one_request (says_it h whole) says)
    (same_count h.whole whole)
came_hears h allows (Brings.greeted sure) = absurd (not_false sure refl)
came_hears h allows (Brings.packet greeted front says) = absurd (not_false greeted refl)
came_hears h allows (Brings.ends sure) = absurd (not_false sure refl)
came_hears h allows (Brings.reads serves reads) = absurd (fresh_reads allows)

waits_not : {act : Act} → act ≡ Act.Goes → act ≡ Act.Waits → ⊥
waits_not goes waits = cc

waits_not_tells : {act : Act} {told : Told} → act ≡ Act.Tells told → act ≡ Act.Waits → ⊥
waits_not_tells tells waits = cc

waits_not_over : {act : Act} {finish : Finish} → act ≡ Act.Over finish → act ≡ Act.Waits → ⊥
waits_not_over over waits = cc

stage_hears : {piece : List ℕ} {n turns : ℕ} {log : List Entry} {s : SessionState} {message : Message}
    {next : Machine} {streams : StreamState} → SaysLeave piece n → Stage piece n log turns s
    → (due_asked s.machine).act ≡ Act.Waits → Allows s.machine message next → Brings s message streams
    → Stage piece n log turns (record s { machine = next; streams = streams })
stage_hears h Stage.at_first waits allows brings = absurd (start_brings allows brings)
stage_hears h Stage.came_now waits allows brings = came_hears h allows brings
stage_hears h Stage.heard_now waits allows brings = absurd (waits_not heard_goes waits)
stage_hears h Stage.begun_now waits allows brings = absurd (waits_not begun_goes waits)
stage_hears h Stage.chosen_now waits allows brings = absurd (waits_not_tells chosen_tells waits)
stage_hears h Stage.answered_now waits allows brings = absurd (waits_not_over answered_over waits)

-- nothing is passed over
stage_ignores : {piece : List ℕ} {n turns count : ℕ} {log : List Entry} {s : SessionState} {frame : Frame}
    → SaysLeave piece n → Stage piece n log turns s → (due_asked s.machine).act ≡ Act.Waits
    → frame_front s.streams.client.pending ≡ Front.whole frame count → reading_of frame.body ≡ Ok ignored → ⊥
stage_ignores h Stage.at_first waits whole passed = not_whole whole no_frame_yet
stage_ignores h Stage.came_now waits whole passed =
    none_passed (says_it h whole) passed
stage_ignores h Stage.heard_now waits whole passed = waits_not heard_goes waits
stage_ignores h Stage.begun_now waits whole passed = waits_not begun_goes waits
stage_ignores h Stage.chosen_now waits whole passed = waits_not_tells chosen_tells waits
stage_ignores h Stage.answered_now waits whole passed = waits_not_over answered_over waits

-- Waits ---------------------------------------------------------------------------------------------------------------

frame_there : {piece : List ℕ} {n : ℕ} → SaysLeave piece n → HasReadAll limits (came piece) → ⊥
frame_there {piece} h all = of_frame all.no_frame
  where
    of_frame : (false ≡ true) ⊎ (frame_front piece ≡ Front.waits) → ⊥
    of_frame (inl closing) = not_false closing refl
    of_frame (inr waits) = not_whole h.whole waits

-- once the piece came not all is read, up to the end
pub all_read : {piece : List ℕ} {n turns : ℕ} {log : List Entry} {s : SessionState} → SaysLeave piece n
    → Stage piece n log turns s → HasReadAll limits s → log ≡ []
all_read h Stage.at_first all = refl
all_read h Stage.came_now all = absurd (frame_there h all)
all_read h Stage.heard_now all = absurd (waits_not heard_goes all.reads.reads.nothing_due)
all_read h Stage.begun_now all = absurd (waits_not begun_goes all.reads.reads.nothing_due)
all_read h Stage.chosen_now all = absurd (waits_not_tells chosen_tells all.reads.reads.nothing_due)
all_read h Stage.answered_now all = absurd (waits_not_over answered_over all.reads.reads.nothing_due)

same_piece : {side : Side} {bytes piece : List ℕ} → In side bytes ≡ In Client piece → bytes ≡ piece
same_piece is = cc

not_target : {bytes piece : List ℕ} → In Target bytes ≡ In Client piece → ⊥
not_target is = cc

first_comes : {piece : List ℕ} {n : ℕ} {entry : Entry} {streams : StreamState} → Comes no_bytes entry streams
    → entry ≡ In Client piece
    → Stage piece n (entry ∷ []) 1 (record start { streams = streams; quiets = quiets_after entry 0 })
first_comes {piece} {n} Comes.piece is =
    subst (λ (bytes : List ℕ). Stage piece n (In Client bytes ∷ []) 1 (came bytes)) (sym (same_piece is))
    Stage.came_now
first_comes Comes.packets is = absurd (not_target is)
first_comes Comes.ends is = absurd cc
first_comes Comes.passes_quiet is = absurd cc

stage_happens : {piece : List ℕ} {n turns : ℕ} {log : List Entry} {s : SessionState} {entry : Entry}
    {streams : StreamState} → SaysLeave piece n → Stage piece n log turns s → HasReadAll limits s
    → Comes s.streams entry streams → Fits piece (log ++ entry ∷ [])
    → Stage piece n (log ++ entry ∷ []) (turns + 1)
    (record s { streams = streams; quiets = quiets_after entry s.quiets })
stage_happens h Stage.at_first all comes fits = first_comes comes fits
stage_happens h Stage.came_now all comes fits = absurd (frame_there h all)
stage_happens h Stage.heard_now all comes fits = absurd (waits_not heard_goes all.reads.reads.nothing_due)
stage_happens h Stage.begun_now all comes fits = absurd (waits_not begun_goes all.reads.reads.nothing_due)
stage_happens h Stage.chosen_now all comes fits = absurd (waits_not_tells chosen_tells all.reads.reads.nothing_due)
stage_happens h Stage.answered_now all comes fits = absurd (waits_not_over answered_over all.reads.reads.nothing_due)

-- All readings --------------------------------------------------------------------------------------------------------

pub fits_before : (piece : List ℕ) {bytes : List ℕ} {side : Side} {log longer : List Entry}
    → IsAdded side bytes log longer → Fits piece longer → Fits piece log
fits_before piece {bytes} {side} {log} IsAdded.apart fits = fits_less piece log (Out side bytes) fits
fits_before piece {bytes} {side} (IsAdded.joined log begun) fits =
    fits_other piece log side (begun ++ bytes) begun fits

pub stands_at : {piece : List ℕ} {n turns : ℕ} {log : List Entry} {messages : List Message} {s : SessionState}
    → SaysLeave piece n → Reading limits log messages turns s → Fits piece log → Stage piece n log turns s
stands_at h Reading.begins fits = Stage.at_first
stands_at h (Reading.goes r on is) fits = stage_goes (stands_at h r fits) is
stands_at {piece} h (Reading.speaks r on may speaks added) fits =
    stage_speaks (stands_at h r (fits_before piece added fits)) may speaks added
stands_at h (Reading.hears r reads allows brings) fits =
    stage_hears h (stands_at h r fits) reads.nothing_due allows brings
stands_at h (Reading.ignores r reads whole passed) fits =
    absurd (stage_ignores h (stands_at h r fits) reads.reads.nothing_due whole passed)
stands_at {piece} h (Reading.happens {log} {entry = entry} r waits comes) fits =
    stage_happens h (stands_at h r (fits_less piece log entry fits)) waits.turn.read comes fits

-- Endings -------------------------------------------------------------------------------------------------------------

client_none : {u : Uncut} {fault : ClientFault} {offset : ℕ} → frame_front u.pending ≡ Front.waits
    → IsClientFault u fault offset → ⊥
client_none waits (IsClientFault.bad_frame faulty) = no_fault waits faulty
client_none waits (IsClientFault.bad_json whole reads) = not_whole whole waits
client_none waits (IsClientFault.bad_message whole reads) = not_whole whole waits

client_good : {piece : List ℕ} {n : ℕ} {fault : ClientFault} {offset : ℕ} → SaysLeave piece n
    → IsClientFault (fed uncut piece) fault offset → ⊥
client_good h (IsClientFault.bad_frame faulty) = not_faulty h.whole faulty
client_good h (IsClientFault.bad_json whole reads) = none_refused (says_it h whole) reads
client_good h (IsClientFault.bad_message whole reads) = none_refused (says_it h whole) reads

reply_none : {s : SessionState} {command : TargetCommand} {error : ℕ} {body : List ℕ}
    → target_front s.streams ≡ Front.waits → HasReply s command error body → ⊥
reply_none waits r = not_whole r.front waits

target_none : {s : SessionState} {fault : TargetFault} {offset id : ℕ} → target_front s.streams ≡ Front.waits
    → IsTargetFault s fault offset id → ⊥
target_none waits (IsTargetFault.bad_packet front) = no_fault waits front
target_none waits (IsTargetFault.bad_command front none) = not_whole front waits
target_none waits (IsTargetFault.bad_composite front is bad) = not_whole front waits
target_none waits (IsTargetFault.unknown_reply front none) = not_whole front waits
target_none waits (IsTargetFault.bad_answer has bad) = reply_none waits has.reply
target_none waits (IsTargetFault.bad_sizes has which) = reply_none waits has.reply

-- where nothing came of the target, and nothing is due
record IsPlain (turns : ℕ) (s : SessionState) : Type 0 where
  waits : (due_asked s.machine).act ≡ Act.Waits
  good : (fault : ClientFault) (offset : ℕ) → IsClientFault s.streams.client fault offset → ⊥
  none_came : target_front s.streams ≡ Front.waits
  none_kept : can_read s.machine ≡ false
  few : length s.machine.waiting ≤ 2
  early : turns < 9
  loud : s.quiets < 3

plain_ends : {turns : ℕ} {s : SessionState} {ending : Ending} → IsPlain turns s → EndsHere limits turns s ending → ⊥
plain_ends p (EndsHere.over on is) = waits_not_over is p.waits
plain_ends p (EndsHere.one_thread on is) = waits_not_over is p.waits
plain_ends p (EndsHere.misread {fault} {offset} r bad) = p.good fault offset bad
plain_ends p (EndsHere.misheard r bad) = target_none p.none_came bad
plain_ends p (EndsHere.misheard_kept r bad) = not_false bad.can_be_read p.none_kept
plain_ends p (EndsHere.refused r reply some none) = reply_none p.none_came reply
plain_ends p (EndsHere.flood many) = let few = p.few in omega (arith, many, few)
plain_ends p (EndsHere.idle all more quiet) = let loud = p.loud in omega (arith, quiet, loud)
plain_ends p (EndsHere.spent all taken) = let early = p.early in omega (arith, taken, early)

-- where something is due that is no end
abbrev is_step : Act → Bool
is_step Act.Waits = false
is_step (Act.Over finish) = false
is_step _ = true

busy_ends : {turns : ℕ} {s : SessionState} {ending : Ending} → is_step (due_asked s.machine).act ≡ true
    → length s.machine.waiting ≤ 2 → EndsHere limits turns s ending → ⊥
busy_ends step few (EndsHere.over on is) = not_false step (ap is_step is)
busy_ends step few (EndsHere.one_thread on is) = not_false step (ap is_step is)
busy_ends step few (EndsHere.misread r bad) = not_false step (ap is_step r.reads.nothing_due)
busy_ends step few (EndsHere.misheard r bad) = not_false step (ap is_step r.reads.nothing_due)
busy_ends step few (EndsHere.misheard_kept r bad) = not_false step (ap is_step r.nothing_due)
busy_ends step few (EndsHere.refused r reply some none) = not_false step (ap is_step r.reads.nothing_due)
busy_ends step few (EndsHere.flood many) = omega (arith, many, few)
busy_ends step few (EndsHere.idle all more quiet) = not_false step (ap is_step all.reads.reads.nothing_due)
busy_ends step few (EndsHere.spent all taken) = not_false step (ap is_step all.reads.reads.nothing_due)

done_ends : {turns : ℕ} {s : SessionState} {ending : Ending} → (due_asked s.machine).act ≡ Act.Over finish_done
    → length s.machine.waiting ≤ 2 → EndsHere limits turns s ending → ending ≡ Done
done_ends done few (EndsHere.over on is) = refl
done_ends done few (EndsHere.one_thread {at} on is) =
    let no : Act.Over finish_done ≡ Act.Over (finish_one_thread at) = sym done ∙ is in absurd cc
done_ends done few (EndsHere.misread r bad) = absurd (waits_not_over done r.reads.nothing_due)
done_ends done few (EndsHere.misheard r bad) = absurd (waits_not_over done r.reads.nothing_due)
done_ends done few (EndsHere.misheard_kept r bad) = absurd (waits_not_over done r.nothing_due)
done_ends done few (EndsHere.refused r reply some none) = absurd (waits_not_over done r.reads.nothing_due)
done_ends done few (EndsHere.flood many) = absurd (omega (arith, many, few))
done_ends done few (EndsHere.idle all more quiet) = absurd (waits_not_over done all.reads.reads.nothing_due)
done_ends done few (EndsHere.spent all taken) = absurd (waits_not_over done all.reads.reads.nothing_due)

pub one_waits : length m_heard.waiting ≤ 2
one_waits = omega arith

pub none_waits : (length m_begun.waiting ≤ 2) × ((length m_chosen.waiting ≤ 2) × (length m_answered.waiting ≤ 2))
unfolding due_asked load_of wanted newly_lacked
none_waits = (omega arith, (omega arith, omega arith))

plain_start : IsPlain 0 start
plain_start = record {
  waits = fresh_waits;
  good = λ fault offset bad. client_none no_frame_yet bad;
  none_came = refl;
  none_kept = refl;
  few = omega arith;
  early = omega arith;
  loud = omega arith;
}

plain_came : {piece : List ℕ} {n : ℕ} → SaysLeave piece n → IsPlain 1 (came piece)
plain_came h = record {
  waits = fresh_waits;
  good = λ fault offset bad. client_good h bad;
  none_came = refl;
  none_kept = refl;
  few = omega arith;
  early = omega arith;
  loud = omega arith;
}

-- the session ends behind the answer alone
pub ends_so : {piece : List ℕ} {n turns : ℕ} {log : List Entry} {s : SessionState} {ending : Ending}
    → SaysLeave piece n → Stage piece n log turns s → EndsHere limits turns s ending
    → (log ≡ In Client piece ∷ Out Client answer_bytes ∷ []) × (ending ≡ Done)
ends_so h Stage.at_first ends = absurd (plain_ends plain_start ends)
ends_so h Stage.came_now ends = absurd (plain_ends (plain_came h) ends)
ends_so h Stage.heard_now ends = absurd (busy_ends (ap is_step heard_goes) one_waits ends)
ends_so h Stage.begun_now ends = absurd (busy_ends (ap is_step begun_goes) none_waits.0 ends)
ends_so h Stage.chosen_now ends = absurd (busy_ends (ap is_step chosen_tells) none_waits.1.0 ends)
ends_so h Stage.answered_now ends = (refl, done_ends answered_over none_waits.1.1 ends)
