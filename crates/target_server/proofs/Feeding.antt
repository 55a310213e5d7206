-- How a piece of the debugger's stream is taken.
use Rattle.std.proofs.Common.{◌≡◌, ℕ, ◌+◌, ◌≤◌, List, length, subst, sym, arith, OnOk, IfErr, None}
use Rattle.std.specs.Prelude.{Result, Ok, Err, OnErr}
use Rattle.jdwp_packets.proofs.ReceivedLaws.{received_size}
use Rattle.jdwp_packets.specs.Receiving.{Received, received}
use Rattle.target_server.specs.declared.trouble.TargetTrouble.{TargetTrouble}
use Rattle.target_server.specs.declared.trouble.TargetTrouble.TheVariants.{NoMemory, Packet as BadPacket, NotACommand}
use Rattle.target_server.specs.declared.trouble.TargetTrouble.TheVariants.{Body as BadBody}
use Rattle.target_server.specs.Hearing.{TargetState, HearsUpTo, FeedsUpTo, IfSaid, heard_end, stopped}

-- what follows where a result is Ok
pub on_ok : {A E P Q : Type 0} (result : Result A E) → (P → Q) → OnOk result P → OnOk result Q
on_ok (Ok x) leads p = leads p
on_ok (Err e) leads p = tt

-- what follows where a trouble says something
pub said_on : (P Q : TargetTrouble → Type 0) → ((t : TargetTrouble) → P t → Q t) → (trouble : TargetTrouble)
    → IfSaid P trouble → IfSaid Q trouble
said_on P Q leads NoMemory p = tt
said_on P Q leads (BadPacket t) p = leads (BadPacket t) p
said_on P Q leads (NotACommand at) p = leads (NotACommand at) p
said_on P Q leads (BadBody at fault) p = leads (BadBody at fault) p

pub err_on : {A : Type 0} (P Q : TargetTrouble → Type 0) → ((t : TargetTrouble) → P t → Q t)
    → (result : Result A TargetTrouble) → IfErr result (IfSaid P) → IfErr result (IfSaid Q)
err_on P Q leads (Ok x) p = tt
err_on P Q leads (Err trouble) p = said_on P Q leads trouble p

-- the end of a stream to which a piece was added, or not
pub added_end : {A E : Type 0} (result : Result A E) (old new : Received) (piece : List ℕ) (n : ℕ)
    → heard_end old ≤ n → OnOk result (new ≡ received old piece) → OnErr result (new ≡ old)
    → heard_end new ≤ n + length piece
added_end (Ok x) old new piece n few ok err =
    let size = received_size old piece in
    subst (λ (r : Received). heard_end r ≤ n + length piece) (sym ok) (omega (arith, size, few))
added_end (Err e) old new piece n few ok err =
    subst (λ (r : Received). heard_end r ≤ n + length piece) (sym err) (omega (arith, few))

-- a trouble is kept
pub stops_said : (old last new : TargetState) (piece : List ℕ) (trouble : TargetTrouble) → new ≡ stopped trouble last
    → IfSaid (λ t. HearsUpTo old piece t last) trouble
    → IfSaid (λ t. old.trouble ≡ None → FeedsUpTo old piece t new) trouble
stops_said old last new piece NoMemory same h = tt
stops_said old last new piece (BadPacket t) same h = λ _. record { last = last; hears = h; same = same }
stops_said old last new piece (NotACommand at) same h = λ _. record { last = last; hears = h; same = same }
stops_said old last new piece (BadBody at fault) same h = λ _. record { last = last; hears = h; same = same }
