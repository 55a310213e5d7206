-- What a core says, and where the tap stands then.
use Rattle.std.proofs.Common.{◌≡◌, refl, sym, ap, ◌∙◌}
use Rattle.std.specs.Prelude.{Err, IfOk, Ok, Result}
use Rattle.tap_core.specs.Cores.{CoreState, Unheard, core_after, core_taken_up, state_in}
use Rattle.tap_core.specs.Names.{AnOut}
use Rattle.tap_core.specs.Saying.{IsSaid, Speaks}
use Rattle.tap_core.specs.Names.{Client, Debugger, of_question, Owner, Sizes, Target}
use Rattle.tap_model.specs.States.{Said, after, bytes_of, greets, hands, sends, side_of, taken_up}

taken_up_in : (owner : Owner) (core : CoreState) (unheard : Unheard)
    → state_in (core_taken_up owner core) unheard ≡ taken_up owner (state_in core unheard)
taken_up_in (Debugger id leaves) core unheard = refl
taken_up_in Sizes core unheard = refl
taken_up_in (of_question n) core unheard = refl

after_in : (what : Said) (core : CoreState) (unheard : Unheard)
    → state_in (core_after what core) unheard ≡ after what (state_in core unheard)
after_in (greets Client) core unheard = refl
after_in (greets Target) core unheard = refl
after_in (sends c) core unheard = taken_up_in c.owner _ unheard
after_in (hands bytes) core unheard = refl

-- what a core says is said
pub says_on : {E : Type 0} (what wanted : Said) (core core' : CoreState) (unheard : Unheard) (result : Result AnOut E)
    → what ≡ wanted → IfOk result (λ out. Speaks wanted core out core')
    → IfOk result (λ out. IsSaid what (state_in core unheard) out (state_in core' unheard))
says_on what wanted core core' unheard (Ok out) is speaks = record {
  side = speaks.0 ∙ ap side_of (sym is);
  bytes = speaks.1 ∙ ap bytes_of (sym is);
  behind = ap (λ (c : CoreState). state_in c unheard) speaks.2
      ∙ (after_in wanted core unheard ∙ ap (λ (w : Said). after w (state_in core unheard)) (sym is));
}
says_on what wanted core core' unheard (Err e) is speaks = tt
