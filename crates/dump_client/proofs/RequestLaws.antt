-- No request of a dump has a float.
use Rattle.std.proofs.Common.{◌≡◌, false, refl}
use Rattle.serde_json.specs.Written.{has_float}
use Rattle.dump_client.specs.Requests.{arguments_of}
use Rattle.dump_client.specs.declared.due.Due.{Due}
use Rattle.dump_client.specs.declared.due.Due.TheVariants as due

pub no_float : (due : Due) → has_float (arguments_of due) ≡ false
no_float due.Initialize = refl
no_float due.Attach = refl
no_float due.ConfigurationDone = refl
no_float due.FirstThreads = refl
no_float (due.Pause thread) = refl
no_float due.Threads = refl
no_float (due.StackTrace thread) = refl
no_float (due.Scopes frame) = refl
no_float (due.Variables reference) = refl
no_float (due.Continue thread) = refl
no_float due.Disconnect = refl
no_float due.Nothing = refl
