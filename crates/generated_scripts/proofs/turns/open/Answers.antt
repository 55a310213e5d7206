use Rattle.std.proofs.Common.{◌≡◌, ◌∙◌, List, ◌++◌, ap, Some, sym}
use Rattle.std.specs.Prelude.{codes}
use Rattle.line_elements.specs.Values.{arguments_of}
use Rattle.generated_scripts.specs.Turns.{ask, attach_data, breakpoints_data, initialize_data, nothing}
use Rattle.generated_scripts.proofs.ArgumentLaws.{breakpoints_are_arguments, five_behind}
use Rattle.generated_scripts.proofs.turns.open.Goals as goal

pub ask-requires-3 : goal.ask-requires-3
ask-requires-3 c =
    ap arguments_of c.in_ok-breakpoints_value.ensures ∙ breakpoints_are_arguments c.args.number
    ∙ ap Some (sym c.in_ok-breakpoints_value.ensures)

pub returns : goal.returns
returns c = five_behind _ _ _ _ _ _ c.ask.new.list c.ask-2.new.list c.ask-3.new.list c.ask-4.new.list c.push.new.self
    (c.in_ok-ask.ensures
    ∙ ap (λ d. c.args.list.now ++ ask (codes "initialize") d) c.in_ok-initialize_value.ensures)
    (c.in_ok-ask-2.ensures ∙ ap (λ d. c.ask.new.list ++ ask (codes "attach") d) c.in_ok-attach_value.ensures)
    (c.in_ok-ask-3.ensures
    ∙ ap (λ d. c.ask-2.new.list ++ ask (codes "setBreakpoints") d) c.in_ok-breakpoints_value.ensures)
    (c.in_ok-ask-4.ensures ∙ ap (λ d. c.ask-3.new.list ++ ask (codes "configurationDone") d) c.nothing.ensures)
    c.in_ok-push.ensures.ok
