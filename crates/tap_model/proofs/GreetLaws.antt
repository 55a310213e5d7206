-- The handshake goes to each side once, before all else.
use Rattle.std.proofs.Common.{◌≡◌, ℕ, ◌&&◌, true, not, List, ◌∷◌, refl, sym, ◌∙◌}
use Rattle.jdwp_packets.specs.Packets.{Packet}
use Rattle.jdwp_packets.specs.Receiving.{Received, received}
use Rattle.jdwp_values.specs.declared.sizes.IdSizes.{IdSizes}
use Rattle.tap_model.specs.Laws.{AreGreeted}
use Rattle.tap_model.specs.Names.{Ask, Entry, Limits}
use Rattle.tap_model.specs.Rules.{IsDue, IsHeard, IsLearnt}
use Rattle.tap_model.specs.States.{Said, TapState, after, with_sizes}
use Rattle.tap_model.specs.Steps.{Message, said, tells}
use Rattle.tap_model.specs.Tapping.{Comes, Tapping}
use Rattle.tap_model.proofs.OwnerLaws.{due_by, heard_by, learnt_by}
use Rattle.tap_model.proofs.RuleLaws.{both, not_true}

due_greeted : (asks : List Ask) (messages : List Message) (s : TapState) (what : Said) → IsDue asks s what
    → AreGreeted messages s → AreGreeted (said what ∷ messages) (after what s)
due_greeted asks messages s _ (IsDue.target_greeted none) g = record {
  in_order = (sym g.target ∙ none, g.in_order);
  target = refl;
  debugger = g.debugger;
  both = g.both;
}
due_greeted asks messages s _ (IsDue.debugger_greeted greeted due) g =
    let two = both (s.debugger.greeted && s.target.greeted) (not s.greeted.debugger) due in
    let sides = both s.debugger.greeted s.target.greeted two.0 in
    record {
      in_order = (sym g.debugger ∙ not_true s.greeted.debugger two.1, g.in_order);
      target = g.target;
      debugger = refl;
      both = λ now. (sides.0, sides.1);
    }
due_greeted asks messages s _ (IsDue.asks_sizes a b c) g = record {
  in_order = (sym g.target ∙ a.target, g.in_order);
  target = g.target;
  debugger = g.debugger;
  both = g.both;
}
due_greeted asks messages s _ (IsDue.passes a b c) g = record {
  in_order = (sym g.target ∙ a.greeted.target, g.in_order);
  target = g.target;
  debugger = g.debugger;
  both = g.both;
}
due_greeted asks messages s _ (IsDue.hands_on a b c d) g = record {
  in_order = (sym g.debugger ∙ c, g.in_order);
  target = g.target;
  debugger = g.debugger;
  both = g.both;
}
due_greeted asks messages s _ (IsDue.asks_question a b c d e f h) g = record {
  in_order = (sym g.target ∙ a.greeted.target, g.in_order);
  target = g.target;
  debugger = g.debugger;
  both = g.both;
}

heard_greeted : (asks : List Ask) (messages : List Message) (s s' : TapState) (message : Message)
    → IsHeard asks s message s' → AreGreeted messages s → AreGreeted (message ∷ messages) s'
heard_greeted asks messages s _ _ (IsHeard.commanded a b) g =
    record { in_order = g.in_order; target = g.target; debugger = g.debugger; both = g.both }
heard_greeted asks messages s _ _ (IsHeard.told a b) g =
    record { in_order = g.in_order; target = g.target; debugger = g.debugger; both = g.both }
heard_greeted asks messages s _ _ (IsHeard.replied a b) g =
    record { in_order = g.in_order; target = g.target; debugger = g.debugger; both = g.both }
heard_greeted asks messages s _ _ (IsHeard.answered a b c d) g =
    record { in_order = g.in_order; target = g.target; debugger = g.debugger; both = g.both }
heard_greeted asks messages s _ _ (IsHeard.refused a b) g =
    record { in_order = g.in_order; target = g.target; debugger = g.debugger; both = g.both }

learnt_greeted : (asks : List Ask) (messages : List Message) (s s' : TapState) (packet : Packet) (numbers : List ℕ)
    (sizes : IdSizes) → IsLearnt asks s packet numbers s' → AreGreeted messages s
    → AreGreeted (tells packet ∷ messages) (with_sizes asks sizes s')
learnt_greeted asks messages s _ _ _ sizes (IsLearnt.sized a b c d) g =
    record { in_order = g.in_order; target = g.target; debugger = g.debugger; both = g.both }

-- a side that has greeted has done so for good
stays_greeted : (old : Received) (piece : List ℕ) → old.greeted ≡ true → (received old piece).greeted ≡ true
stays_greeted old piece greeted = rw greeted refl

come_greeted : (messages : List Message) (s s' : TapState) (entry : Entry) → Comes s entry s'
    → AreGreeted messages s → AreGreeted messages s'
come_greeted messages s _ _ (Comes.of_debugger {bytes}) g = record {
  in_order = g.in_order;
  target = g.target;
  debugger = g.debugger;
  both = λ now. (stays_greeted s.debugger bytes (g.both now).0, (g.both now).1);
}
come_greeted messages s _ _ (Comes.of_target {bytes}) g = record {
  in_order = g.in_order;
  target = g.target;
  debugger = g.debugger;
  both = λ now. ((g.both now).0, stays_greeted s.target bytes (g.both now).1);
}
come_greeted messages s _ _ Comes.passes_quiet g =
    record { in_order = g.in_order; target = g.target; debugger = g.debugger; both = g.both }

pub are_greeted : {limits : Limits} {asks : List Ask} {log : List Entry} {messages : List Message} {turns : ℕ}
    {s : TapState} → Tapping limits asks log messages turns s → AreGreeted messages s
are_greeted Tapping.begins = record { in_order = tt; target = refl; debugger = refl; both = λ now. absurd cc }
are_greeted (Tapping.says t h) = due_greeted _ _ _ _ (due_by _ _ h) (are_greeted t)
are_greeted (Tapping.hears t h) = heard_greeted _ _ _ _ _ (heard_by _ _ h) (are_greeted t)
are_greeted (Tapping.learns {sizes} t h e) = learnt_greeted _ _ _ _ _ _ sizes (learnt_by _ _ h) (are_greeted t)
are_greeted (Tapping.happens t listens comes) = come_greeted _ _ _ _ comes (are_greeted t)
