-- The bytes on their way are those of what was sent.
use Rattle.std.proofs.Common.{◌≡◌, ◌∙◌, ℕ, Bool, true, false, cond, List, [], ◌∷◌, ◌++◌, refl, sym, ap, append_assoc}
use Rattle.std.proofs.Common.{take, drop}
use Rattle.std.proofs.lemmas.List.{append-nil, take-append-drop}
use Rattle.jdwp_values.specs.declared.sizes.IdSizes.{IdSizes}
use Rattle.jdwp_packets.specs.Packets.{handshake, packet_bytes}
use Rattle.target_server.specs.Flights.{Flight, gone, released, shaken}
use Rattle.target_server.specs.Flights.{sent as put}
use Rattle.scripted_joints.specs.Sides.{AreSent, Sent, bytes_sent, packet_sent}

-- one thing more
pub bytes_last : (sizes : IdSizes) (sent : List Sent) (one : Sent)
    → bytes_sent sizes (sent ++ one ∷ []) ≡ bytes_sent sizes sent ++ packet_bytes (packet_sent sizes one)
bytes_last sizes [] one = append-nil (packet_bytes (packet_sent sizes one))
bytes_last sizes (first ∷ sent) one =
    ap (λ (bytes : List ℕ). packet_bytes (packet_sent sizes first) ++ bytes) (bytes_last sizes sent one)
    ∙ sym (append_assoc (packet_bytes (packet_sent sizes first)) (bytes_sent sizes sent)
    (packet_bytes (packet_sent sizes one)))

-- the next packet's number doesn't matter
pub numbered : (sizes : IdSizes) (sent : List Sent) (out : List ℕ) (f : Flight) (n : ℕ) → AreSent sizes sent out f
    → AreSent sizes sent out (record f { next_id = n })
numbered sizes sent out f n (AreSent.wait still none held) = AreSent.wait still none held
numbered sizes sent out f n (AreSent.go greeted none bytes) = AreSent.go greeted none bytes

pub no_wait : {A : Type 0} (b : Bool) → b ≡ false → b ≡ true → A
no_wait true e f = absurd cc
no_wait false e f = absurd cc

module _ (sizes : IdSizes) (sent : List Sent) (one : Sent) (out : List ℕ) (f : Flight) where
  abbrev bytes : List ℕ
  bytes = packet_bytes (packet_sent sizes one)

  abbrev held_more : Flight
  held_more = record f { held = f.held ++ bytes }

  abbrev sent_more : Flight
  sent_more = record f { bytes = f.bytes ++ bytes }

  put_by : (b : Bool) → f.greeted ≡ b → AreSent sizes sent out f
      → AreSent sizes (sent ++ one ∷ []) out (cond b sent_more held_more)
  put_by true e (AreSent.wait still none held) = no_wait f.greeted still e
  put_by true e (AreSent.go greeted none all) = AreSent.go greeted none
      (sym (append_assoc out f.bytes bytes) ∙ ap (λ (xs : List ℕ). xs ++ bytes) all
      ∙ append_assoc handshake (bytes_sent sizes sent) bytes
      ∙ ap (λ (xs : List ℕ). handshake ++ xs) (sym (bytes_last sizes sent one)))
  put_by false e (AreSent.wait still none held) = AreSent.wait still none
      (ap (λ (xs : List ℕ). xs ++ bytes) held ∙ sym (bytes_last sizes sent one))
  put_by false e (AreSent.go greeted none all) = no_wait f.greeted e greeted

  -- a packet goes on its way behind all others
  pub put_behind : AreSent sizes sent out f → AreSent sizes (sent ++ one ∷ []) out (put bytes f)
  put_behind all = put_by f.greeted refl all

-- some bytes go out
pub goes_out : (sizes : IdSizes) (sent : List Sent) (out : List ℕ) (f : Flight) (n : ℕ) → AreSent sizes sent out f
    → AreSent sizes sent (out ++ take n f.bytes) (gone n f)
goes_out sizes sent out f n all =
    let same : (out ++ take n f.bytes) ++ drop n f.bytes ≡ out ++ f.bytes =
    append_assoc out (take n f.bytes) (drop n f.bytes) ∙ ap (λ (xs : List ℕ). out ++ xs) (take-append-drop n f.bytes) in
    by all same
  where
    by : AreSent sizes sent out f → (out ++ take n f.bytes) ++ drop n f.bytes ≡ out ++ f.bytes
        → AreSent sizes sent (out ++ take n f.bytes) (gone n f)
    by (AreSent.wait still none held) same = AreSent.wait still (same ∙ none) held
    by (AreSent.go greeted none bytes) same = AreSent.go greeted none (same ∙ bytes)

-- The handshake goes out, and what waited for it.
still_waits : (sizes : IdSizes) (sent : List Sent) (out : List ℕ) (f : Flight) → f.greeted ≡ false
    → AreSent sizes sent out f → (out ++ f.bytes ≡ []) × (f.held ≡ bytes_sent sizes sent)
still_waits sizes sent out f still (AreSent.wait e none held) = (none, held)
still_waits sizes sent out f still (AreSent.go greeted none all) = no_wait f.greeted still greeted

pub shakes : (sizes : IdSizes) (sent : List Sent) (out : List ℕ) (f : Flight) → f.greeted ≡ false
    → AreSent sizes sent out f → AreSent sizes sent out (released (shaken f))
shakes sizes sent out f still all =
    let waits = still_waits sizes sent out f still all in
    AreSent.go refl refl
    (ap (λ (xs : List ℕ). out ++ xs) (append_assoc f.bytes handshake f.held)
    ∙ sym (append_assoc out f.bytes (handshake ++ f.held))
    ∙ ap (λ (xs : List ℕ). xs ++ (handshake ++ f.held)) waits.0
    ∙ ap (λ (xs : List ℕ). handshake ++ xs) waits.1)

-- The same, and the start goes between the two, where nothing waited.
pub shakes_and_tells : (sizes : IdSizes) (sent : List Sent) (one : Sent) (out : List ℕ) (f : Flight) (n : ℕ)
    → f.greeted ≡ false → f.held ≡ [] → AreSent sizes sent out f
    → AreSent sizes (sent ++ one ∷ []) out
    (released (put (packet_bytes (packet_sent sizes one)) (record (shaken f) { next_id = n })))
shakes_and_tells sizes sent one out f n still none all =
    let waits = still_waits sizes sent out f still all in
    let bytes = packet_bytes (packet_sent sizes one) in
    let empty : bytes_sent sizes sent ≡ [] = sym waits.1 ∙ none in
    AreSent.go refl refl
    (ap (λ (xs : List ℕ). out ++ (((f.bytes ++ handshake) ++ bytes) ++ xs)) none
    ∙ ap (λ (xs : List ℕ). out ++ xs) (append-nil ((f.bytes ++ handshake) ++ bytes))
    ∙ ap (λ (xs : List ℕ). out ++ xs) (append_assoc f.bytes handshake bytes)
    ∙ sym (append_assoc out f.bytes (handshake ++ bytes))
    ∙ ap (λ (xs : List ℕ). xs ++ (handshake ++ bytes)) waits.0
    ∙ ap (λ (xs : List ℕ). handshake ++ (xs ++ bytes)) (sym empty)
    ∙ ap (λ (xs : List ℕ). handshake ++ xs) (sym (bytes_last sizes sent one)))
