-- A request has no float where its arguments have none.
use Rattle.std.proofs.Common.{◌≡◌, ℕ, Bool, false, List, ap}
use Rattle.std.specs.Prelude.{◌||◌}
use Rattle.serde_json.specs.Data.{Data}
use Rattle.serde_json.specs.Written.{has_float}
use Rattle.request_frames.specs.Requests.{request_data}

pub no_float : (seq : ℕ) (command : List ℕ) (arguments : Data) → has_float arguments ≡ false
    → has_float (request_data seq command arguments) ≡ false
no_float seq command arguments plain = ap (λ (b : Bool). b || false) plain
