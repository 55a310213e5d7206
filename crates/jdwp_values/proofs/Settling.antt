-- What a reader answers once it has settled what was found at the front of its bytes.
use Rattle.std.proofs.Common.{List, ℕ, Result, Ok, Err, refl}
use Rattle.std.specs.Borrow.{Bor}
use Rattle.jdwp_values.specs.declared.fault.ReadTrouble.{ReadTrouble}
use Rattle.jdwp_values.specs.declared.fault.ValueFault.{ValueFault}
use Rattle.jdwp_values.specs.Reading.{Place, Gives, placed, Reads, Settles}

pub reads_settled : {A : Type 0} (old new : Place) (found : Result (A × Bor (List ℕ)) ValueFault)
    (read : Result (A × List ℕ) ValueFault) (result : Result A ReadTrouble)
    → Gives (λ x. (x.0, x.1.now)) found read → Settles old new found result
    → Reads (λ x. x) (placed old read) old new result
reads_settled old new (Ok x) read result gives settles = rw (gives, settles.0, settles.1) refl
reads_settled old new (Err f) read result gives settles = rw (gives, settles.0, settles.1) (refl, refl)

-- the same for bytes that are handed out where they stand
pub reads_bytes : (old new : Place) (found : Result (Bor (List ℕ) × Bor (List ℕ)) ValueFault)
    (read : Result (List ℕ × List ℕ) ValueFault) (result : Result (Bor (List ℕ)) ReadTrouble)
    → Gives (λ x. (x.0.now, x.1.now)) found read → Settles old new found result
    → Reads (λ x. x.now) (placed old read) old new result
reads_bytes old new (Ok x) read result gives settles = rw (gives, settles.0, settles.1) refl
reads_bytes old new (Err f) read result gives settles = rw (gives, settles.0, settles.1) (refl, refl)
