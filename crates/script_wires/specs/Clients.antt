-- What a script's client sends, as it is kept.
use Rattle.std.specs.Prelude.{ℕ, List}
use Rattle.script_wires.specs.declared.client.Client.{Client}

-- the sequence number of its next request
abbrev pub client_seq : Client → ℕ
client_seq c = c.next_seq

-- the bytes that are on their way from it
abbrev pub client_bytes : Client → List ℕ
client_bytes c = c.stream.pending
