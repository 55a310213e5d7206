-- That a wait was counted changes nothing of a session.
use Rattle.std.proofs.Common.{◌≡◌, ℕ, List, [], ◌∷◌, ◌++◌, option_map, refl, sym, ap, subst, ◌∙◌, inl, inr}
use Rattle.wire_core.specs.declared.links.Links.{Links}
use Rattle.wire_core.specs.declared.outside.Entry.{Entry}
use Rattle.wire_core.specs.declared.outside.Entry.TheVariants.{Failed}
use Rattle.wire_core.specs.declared.outside.Side.{Side}
use Rattle.wire_core.specs.declared.outside.Side.TheVariants.{Client, Target}
use Rattle.wire_core.specs.declared.outside.Happening.{Happening}
use Rattle.wire_core.specs.declared.outside.Happening.TheVariants.{Failed as fails}
use Rattle.wire_core.specs.Links.{link_after, first_open, Keeps, Counts}
use Rattle.wire_core.specs.Outside.{Outside, Adds, entry_of}
use Rattle.script_wires.specs.declared.wires.ScriptWires.{ScriptWires}
use Rattle.script_wires.specs.Playing.{Playing}
use Rattle.script_wires.specs.Plays.{playing}
use Rattle.script_wires.specs.Schedules.{Comes}
use Rattle.script_wires.specs.ScriptWires.{outside_of, links_of, playing_of, is_alone, is_refused, KeepsPlaying}
use Rattle.script_wires.specs.ScriptWires.{GivesNext, Refuses, Withholds, NextOfScript}

-- wires that counted a wait
pub record HasWaited (old new : ScriptWires) : Type 0 where
  pub log : (outside_of new).log ≡ (outside_of old).log
  pub links : links_of new ≡ links_of old
  pub kept : Keeps (outside_of old) (outside_of new)
  pub playing : playing_of new ≡ playing_of old
  pub refused : is_refused new ≡ is_refused old

adds_over : (old x new : Outside) (entries : List Entry) → x.log ≡ old.log → Adds x new entries → Adds old new entries
adds_over old x new entries same added =
    added ∙ ap (option_map (λ (before : List Entry). before ++ entries)) same

counts_over : (old x new : Outside) (happening : Happening) → Keeps old x → Counts x new happening →
    Counts old new happening
counts_over old x new happening keeps counts = record {
  client = counts.client ∙ ap (link_after Client happening) keeps.client;
  target = counts.target ∙ ap (link_after Target happening) keeps.target;
  open_faults = counts.open_faults ∙ keeps.open_faults;
  asked = counts.asked ∙ keeps.asked;
}

gives_over : (old x new : ScriptWires) (buffer : List ℕ) (happening : Happening) → HasWaited old x →
    GivesNext x new buffer happening → GivesNext old new buffer happening
gives_over old x new buffer happening waited gives = record {
  comes = subst (λ (p : Playing). Comes p (entry_of buffer happening) (playing_of new)) waited.playing gives.comes;
  log = adds_over (outside_of old) (outside_of x) (outside_of new) _ waited.log gives.log;
  links = counts_over (outside_of old) (outside_of x) (outside_of new) happening waited.kept gives.links;
  refused = gives.refused ∙ waited.refused;
}

refuses_over : (old x new : ScriptWires) (side : Side) → HasWaited old x → Refuses x new side → Refuses old new side
refuses_over old x new side waited refuses = record {
  log = adds_over (outside_of old) (outside_of x) (outside_of new) _ waited.log refuses.log;
  links = counts_over (outside_of old) (outside_of x) (outside_of new) (fails side) waited.kept refuses.links;
  refused = refuses.refused;
}

withholds_over : (old x new : ScriptWires) (happening : Happening) → HasWaited old x → Withholds x new happening →
    Withholds old new happening
withholds_over old x new happening waited withholds = record {
  refuses = subst (Refuses old new) (ap first_open waited.links)
      (refuses_over old x new (first_open (links_of x)) waited withholds.refuses);
  failure = withholds.failure ∙ ap (λ (links : Links). fails (first_open links)) waited.links;
}

-- what came behind the wait came of the wires before it
pub next_over : (old x new : ScriptWires) (buffer : List ℕ) (happening : Happening) → HasWaited old x →
    NextOfScript x new buffer happening → NextOfScript old new buffer happening
next_over old x new buffer happening waited (inl gives) = inl (gives_over old x new buffer happening waited gives)
next_over old x new buffer happening waited (inr withholds) =
    inr (withholds_over old x new happening waited withholds)

-- where nothing came of the wires behind the wait, since memory was refused
pub refused_over : (old x y new : ScriptWires) (buffer : List ℕ) (side : Side) → HasWaited old x →
    outside_of y ≡ outside_of x → links_of y ≡ links_of x → side ≡ first_open (links_of y) → Refuses y new side →
    NextOfScript old new buffer (fails side)
refused_over old x y new buffer side waited same links first refuses =
    inr (withholds_over old x new (fails side) waited (record {
      refuses = subst (Refuses x new) (first ∙ ap first_open links) (record {
        log = subst (λ (o : Outside). Adds o (outside_of new) (Failed side ∷ [])) same refuses.log;
        links = subst (λ (o : Outside). Counts o (outside_of new) (fails side)) same refuses.links;
        refused = refuses.refused;
      });
      failure = ap fails (first ∙ ap first_open links);
    }))
