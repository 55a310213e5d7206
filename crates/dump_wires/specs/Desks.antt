-- The desk of a dump, and what its calls make of it.
use Rattle.std.specs.Prelude.{ℕ, ◌≡◌, ◌⊎◌, true, false, List, [], ◌∷◌, Option, Some, None}
use Rattle.dump_client.specs.Conversing.{asked, heard, request_due, start}
use Rattle.dump_wires.specs.declared.desk.Desk.{Desk}
use Rattle.wire_core.specs.Links.{Counts, Keeps, first_open, link_after}
use Rattle.wire_core.specs.Outside.{Adds, Outside, SameWaits, entry_of}
use Rattle.wire_core.specs.declared.links.Links.{Links}
use Rattle.wire_core.specs.declared.outside.Entry.{Entry}
use Rattle.wire_core.specs.declared.outside.Entry.TheVariants.{In, Out, Failed}
use Rattle.wire_core.specs.declared.outside.Happening.{Happening}
use Rattle.wire_core.specs.declared.outside.Happening.TheVariants.{Bytes, Shut as ends, Failed as fails, Quiet as nothing}
use Rattle.wire_core.specs.declared.outside.Side.{Side}
use Rattle.wire_core.specs.declared.outside.Side.TheVariants.{Client, Target}
use Rattle.wire_journals.specs.Journals.{HasRoom, IsNewJournal, asked_in_vain, outside_in}

-- what it tells of its links and its log
abbrev pub outside_of : Desk → Outside
outside_of d = outside_in d.journal

abbrev pub links_of : Desk → Links
links_of d = d.journal.links

-- the log
abbrev pub entries_in : Desk → List Entry
entries_in d = d.journal.log.entries

-- there is room to log what goes out
abbrev pub HasSpare : Desk → Type 0
HasSpare d = HasRoom d.journal

-- the side that fails where there is no memory for what came: the one that it names; of a wait, the first that is open
abbrev pub blamed : Links → Happening → Side
blamed links (Bytes side n) = side
blamed links (ends side) = side
blamed links (fails side) = side
blamed links nothing = first_open links

-- what comes is this frame of the client
abbrev pub entry_is : List ℕ → List ℕ → Happening → Type 0
entry_is frame buffer happening = entry_of buffer happening ≡ In Client frame

-- of a dump that has not begun
pub record IsNew (d : Desk) : Type 0 where
  pub journal : IsNewJournal d.journal
  pub talk : d.talk ≡ start
  pub refused : d.refused ≡ false

-- memory was refused, and a side fails
pub record Refuses (side : Side) (old new : Desk) : Type 0 where
  pub log : Adds (outside_of old) (outside_of new) (Failed side ∷ [])
  pub links : Counts (outside_of old) (outside_of new) (fails side)
  pub waits : SameWaits (outside_of old) (outside_of new)
  pub refused : new.refused ≡ true

-- memory was refused, and a failure of a side came in place of what was to come
pub record Withholds (side : Side) (old new : Desk) (result : Happening) : Type 0 where
  pub log : Adds (outside_of old) (outside_of new) (Failed side ∷ [])
  pub refused : new.refused ≡ true
  pub answer : result ≡ fails side

-- a request was made, with this frame
pub record Makes (frame : List ℕ) (old new : Desk) (buffer : List ℕ) (happening : Happening) : Type 0 where
  pub entry : entry_is frame buffer happening
  pub log : Adds (outside_of old) (outside_of new) (entry_of buffer happening ∷ [])
  pub links : Counts (outside_of old) (outside_of new) happening
  pub link : (outside_of new).target ≡ (outside_of old).target
  pub waits : SameWaits (outside_of old) (outside_of new)
  pub talk : new.talk ≡ asked old.talk
  pub refused : new.refused ≡ old.refused

-- and so came, as the next thing
pub record Comes (frame : List ℕ) (old new : Desk) (buffer : List ℕ) (happening : Happening) : Type 0 where
  pub entry : entry_is frame buffer happening
  pub log : Adds (outside_of old) (outside_of new) (entry_of buffer happening ∷ [])
  pub link : (outside_of new).target ≡ (outside_of old).target
  pub talk : new.talk ≡ asked old.talk
  pub refused : new.refused ≡ old.refused

abbrev pub Gives : List ℕ → Desk → Desk → List ℕ → Happening → Type 0
Gives frame old new buffer happening = Comes frame old new buffer happening ⊎ Withholds Client old new happening

-- the request that was due came, or the client failed; or nothing is done
abbrev pub Turns : Desk → Desk → List ℕ → Option Happening → Type 0
Turns old new buffer None = new ≡ old
Turns old new buffer (Some happening) =
    ((frame : List ℕ) × (request_due old.talk ≡ Some frame) × Comes frame old new buffer happening)
    ⊎ Withholds Client old new happening

-- what the wires inside gave came
pub record Hands (happening : Happening) (old new : Desk) (buffer : List ℕ) (result : Happening) : Type 0 where
  pub answer : result ≡ happening
  pub log : Adds (outside_of old) (outside_of new) (entry_of buffer happening ∷ [])
  pub link : (outside_of new).target ≡ link_after Target happening (outside_of old).target
  pub talk : new.talk ≡ old.talk
  pub refused : new.refused ≡ old.refused

abbrev pub HearsAs : Happening → Desk → Desk → List ℕ → Happening → Type 0
HearsAs happening old new buffer result =
    Hands happening old new buffer result ⊎ Withholds (blamed (links_of old) happening) old new result

-- the client took a frame
pub record Takes (bytes : List ℕ) (old new : Desk) : Type 0 where
  pub log : Adds (outside_of old) (outside_of new) (Out Client bytes ∷ [])
  pub links : Keeps (outside_of old) (outside_of new)
  pub waits : SameWaits (outside_of old) (outside_of new)
  pub talk : new.talk ≡ heard bytes old.talk
  pub refused : new.refused ≡ old.refused

-- bytes went to the target
pub record Passes (bytes : List ℕ) (old new : Desk) : Type 0 where
  pub log : Adds (outside_of old) (outside_of new) (Out Target bytes ∷ [])
  pub links : Keeps (outside_of old) (outside_of new)
  pub waits : SameWaits (outside_of old) (outside_of new)
  pub talk : new.talk ≡ old.talk
  pub refused : new.refused ≡ old.refused

-- the target's link failed
pub record FailsTarget (old new : Desk) : Type 0 where
  pub log : Adds (outside_of old) (outside_of new) (Failed Target ∷ [])
  pub links : Counts (outside_of old) (outside_of new) (fails Target)
  pub waits : SameWaits (outside_of old) (outside_of new)
  pub talk : new.talk ≡ old.talk
  pub refused : new.refused ≡ old.refused

-- names were asked for in vain
pub record OpensNothing (listen : Option (List ℕ)) (target : List ℕ) (old new : Desk) : Type 0 where
  pub outside : outside_of new ≡ asked_in_vain listen target (outside_of old)
  pub links : links_of new ≡ links_of old
  pub talk : new.talk ≡ old.talk
  pub refused : new.refused ≡ old.refused
