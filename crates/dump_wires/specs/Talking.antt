-- What the wires of a dump tell of themselves, and how they go on.
use Rattle.std.specs.Prelude.{ℕ, ◌≡◌, ◌⊎◌, Bool, true, false, not, ◌&&◌, ◌||◌, List, [], ◌∷◌, ◌++◌, Some}
use Rattle.dump_client.specs.Conversing.{asked, heard, request_due}
use Rattle.dump_client.specs.declared.conversation.Conversation.{Conversation}
use Rattle.dump_wires.specs.Desks.{entries_in, outside_of}
use Rattle.dump_wires.specs.declared.desk.Desk.{Desk}
use Rattle.wire_core.specs.Links.{shut_link}
use Rattle.wire_core.specs.Outside.{Adds, Counts, Outside, Rose}
use Rattle.wire_core.specs.declared.outside.Entry.{Entry}
use Rattle.wire_core.specs.declared.outside.Entry.TheVariants.{In, Out, Shut, Failed, Quiet}
use Rattle.wire_core.specs.declared.outside.Side.TheVariants.{Client, Target}

-- the wires inside are as the desk takes them for: no client is there, and the target is, where its side is open
abbrev pub fits : Outside → Desk → Bool
fits o d = not o.client.is_open && (not d.journal.links.target.is_open || o.target.is_open)

-- what is told where that is so; else both sides are closed
abbrev pub told_if : Bool → Outside → Outside
told_if true o = o
told_if false o = record o { client = shut_link o.client; target = shut_link o.target }

-- what the wires of a dump tell
abbrev pub outside_over : Outside → Desk → Outside
outside_over o d = told_if (fits o d) (outside_of d)

-- The entries of a session take the conversation from here to there: what came of the client are the requests that were due,
-- and the conversation heard what was told. A request is due only where the one before it was answered. The client neither
-- ends nor fails.
abbrev pub Talks : Conversation → List Entry → Conversation → Type 0
Talks c [] c' = c' ≡ c
Talks c (In Client frame ∷ entries) c' = (request_due c ≡ Some frame) × Talks (asked c) entries c'
Talks c (In Target bytes ∷ entries) c' = Talks c entries c'
Talks c (Out Client frame ∷ entries) c' = Talks (heard frame c) entries c'
Talks c (Out Target bytes ∷ entries) c' = Talks c entries c'
Talks c (Shut Client ∷ entries) c' = ⊥
Talks c (Shut Target ∷ entries) c' = Talks c entries c'
Talks c (Failed Client ∷ entries) c' = ⊥
Talks c (Failed Target ∷ entries) c' = Talks c entries c'
Talks c (Quiet ∷ entries) c' = Talks c entries c'

-- What the wires inside logged, and what a dump over them logged: the same in the same order, but that the dump has the
-- entries of its client, too, and waits where the target has ended, and not the part that went out of a send which failed.
pub data IsTold : List Entry → List Entry → Type 0 where
  none : IsTold [] []
  same : {told kept : List Entry} (entry : Entry) → IsTold told kept → IsTold (entry ∷ told) (entry ∷ kept)
  broken : {told kept : List Entry} (part : List ℕ) → IsTold told kept
      → IsTold (Out Target part ∷ Failed Target ∷ told) (Failed Target ∷ kept)
  asks : {told kept : List Entry} (frame : List ℕ) → IsTold told kept → IsTold told (In Client frame ∷ kept)
  takes : {told kept : List Entry} (frame : List ℕ) → IsTold told kept → IsTold told (Out Client frame ∷ kept)
  waits : {told kept : List Entry} → IsTold told kept → IsTold told (Quiet ∷ kept)

-- the target's link failed no more often, or the faults of the wires inside rose
abbrev pub FailsBy : Outside → Desk → Outside → Desk → Type 0
FailsBy o d o' d' =
    ((outside_of d').target.faults ≡ (outside_of d).target.faults) ⊎ Rose o.target.faults o'.target.faults

-- The desk goes on by what was logged since, which is what the wires inside logged and what the client said and was told,
-- unless memory was refused; a refusal stays.
pub record Follows (o : Outside) (d : Desk) (o' : Outside) (d' : Desk) : Type 0 where
  pub before : d'.refused ≡ false → d.refused ≡ false
  pub added : List Entry
  pub log : entries_in d' ≡ entries_in d ++ added
  pub talks : d'.refused ≡ false → Talks d.talk added d'.talk
  pub told : List Entry
  pub inside : Adds o o' told
  pub is_told : d'.refused ≡ false → IsTold told added
  pub fails_by : d'.refused ≡ false → FailsBy o d o' d'
  pub counts : Counts o o'
  pub asked : o'.asked ≡ o.asked
