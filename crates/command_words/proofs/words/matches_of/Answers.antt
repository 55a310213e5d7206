use Rattle.std.proofs.Common.{◌≡◌, ◌∙◌, ap, subst, true, List, ℕ, map}
use Rattle.std.proofs.lemmas.Bool.{and_parts}
use Rattle.std.proofs.lemmas.Result.{IfOk-weaker}
use Rattle.clap.specs.Words.{App, FailsBy, fault_of, first_of, found_of, is_simple}
use Rattle.clap.specs.Words.{is_simple_and_free, matches_of}
use Rattle.clap.proofs.WalkLemmas.{first_value-rows}
use Rattle.command_words.specs.Forms.{form_app, form_fault, form_given, form_of}
use Rattle.command_words.proofs.ArgLaws.{all_fit, formed}
use Rattle.command_words.proofs.words.matches_of.Goals as goal

pub returns : goal.returns
unfolding form_fault form_given
returns c =
    let parse = c.try_get_matches_from in
    let app = form_app (form_of c.args.kind) in
    let words : List (List ℕ) = map (λ word. word.now) c.args.words.now in
    let is = formed c.args.kind _ _ _ _ c.form_of.ensures.name c.bare_command-bare.ensures c.in_ok-command.ensures
    (c.in_ok-args_of.ensures ∙ c.form_of.ensures.parts) in
    let free : is_simple_and_free app ≡ true = (and_parts _ _ (all_fit c.args.kind)).0 in
    let simple : is_simple app ≡ true = (and_parts _ _ free).0 in
    record {
      kinds = subst (λ (a : App). FailsBy (fault_of a words) parse.result) is.app
          (parse.ensures.kinds (ap is_simple_and_free is.app ∙ free));
      values = IfOk-weaker parse.result _ _ (λ m h. λ i name. (first_value-rows (found_of m) name
          ∙ ap (first_of name) ((h (ap is_simple is.app ∙ simple)).0 ∙ ap (λ (a : App). matches_of a words) is.app)) i)
          parse.ensures.matches;
      given = IfOk-weaker parse.result _ _ is.given parse.ensures.parsed;
    }
