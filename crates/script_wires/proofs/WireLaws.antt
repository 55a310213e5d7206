-- Which sides are open behind what is heard.
use Rattle.std.proofs.Common.{◌≡◌, ℕ, Bool, false, List, refl, ap, ◌∙◌}
use Rattle.wire_core.specs.declared.outside.Side.{Side}
use Rattle.wire_core.specs.declared.outside.Side.TheVariants.{Client, Target}
use Rattle.wire_core.specs.declared.outside.Happening.{Happening}
use Rattle.wire_core.specs.declared.outside.Happening.TheVariants.{Bytes, Shut, Failed, Quiet}
use Rattle.wire_core.specs.declared.links.Links.{Links}
use Rattle.wire_core.specs.Outside.{Link, entry_of}
use Rattle.wire_core.specs.Links.{link_after, told, is_open_in, Counts}
use Rattle.wire_journals.specs.declared.journal.Journal.{Journal}
use Rattle.script_wires.specs.declared.play.Play.{Play}
use Rattle.wire_journals.specs.Journals.{outside_in}
use Rattle.script_wires.specs.Playing.{Playing, is_open, closed_by}
use Rattle.script_wires.specs.Plays.{playing}
use Rattle.script_wires.specs.Schedules.{Reaches, Comes}

-- a session in which these sides are open
abbrev opened : Playing → Bool → Bool → Playing
opened p c t = record p { client_open = c; target_open = t }

opened_by : (play : Play) (old new : Links) (c t : Bool) → new.client.is_open ≡ c → new.target.is_open ≡ t
    → playing play new ≡ opened (playing play old) c t
opened_by play old new c t client target =
    ap (λ (b : Bool). opened (playing play old) b new.target.is_open) client
    ∙ ap (λ (b : Bool). opened (playing play old) c b) target

pub closes_by : (play : Play) (old new : Links) (buffer : List ℕ) (happening : Happening)
    → told new.client ≡ link_after Client happening (told old.client)
    → told new.target ≡ link_after Target happening (told old.target)
    → playing play new ≡ closed_by (entry_of buffer happening) (playing play old)
closes_by play old new buffer (Bytes side n) c t =
    opened_by play old new old.client.is_open old.target.is_open
    (ap (λ (k : Link). k.is_open) c) (ap (λ (k : Link). k.is_open) t)
closes_by play old new buffer (Shut Client) c t =
    opened_by play old new false old.target.is_open
    (ap (λ (k : Link). k.is_open) c) (ap (λ (k : Link). k.is_open) t)
closes_by play old new buffer (Shut Target) c t =
    opened_by play old new old.client.is_open false
    (ap (λ (k : Link). k.is_open) c) (ap (λ (k : Link). k.is_open) t)
closes_by play old new buffer (Failed Client) c t =
    opened_by play old new false old.target.is_open
    (ap (λ (k : Link). k.is_open) c) (ap (λ (k : Link). k.is_open) t)
closes_by play old new buffer (Failed Target) c t =
    opened_by play old new old.client.is_open false
    (ap (λ (k : Link). k.is_open) c) (ap (λ (k : Link). k.is_open) t)
closes_by play old new buffer Quiet c t =
    opened_by play old new old.client.is_open old.target.is_open
    (ap (λ (k : Link). k.is_open) c) (ap (λ (k : Link). k.is_open) t)

-- a side is open in a session where its link is
pub open_same : (side : Side) (play : Play) (links : Links) → is_open side (playing play links) ≡ is_open_in links side
open_same Client play links = refl
open_same Target play links = refl

-- what is reached and counted comes
pub comes_by : (before after : Play) (old new : Journal) (buffer : List ℕ) (happening : Happening)
    → Reaches (playing before old.links) (entry_of buffer happening) (playing after old.links)
    → Counts (outside_in old) (outside_in new) happening
    → Comes (playing before old.links) (entry_of buffer happening) (playing after new.links)
comes_by before after old new buffer happening reaches counts = record {
  behind = playing after old.links;
  reaches = reaches;
  closes = closes_by after old.links new.links buffer happening counts.client counts.target;
}
