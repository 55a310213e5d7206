use Rattle.std.proofs.Common.{◌≡◌, ap, sym, subst, ◌∙◌, arith}
use Rattle.jdwp_commands.specs.Bodies.{IsRead}
use Rattle.jdwp_commands.specs.Commands.{number_of, command_at, spell_command, FitsCommand}
use Rattle.jdwp_commands.proofs.BodyLaws.{of_read}
use Rattle.jdwp_commands.proofs.CommandLaws.{command_takes, command_again}
use Rattle.jdwp_commands.proofs.command.read_command.Goals as goal

pub returns-clause-found : goal.returns-clause-found
returns-clause-found c =
    of_read (λ x. (number_of x ≡ (c.args.set, c.args.command)) × FitsCommand c.args.sizes x
    × (c.args.body.now ≡ spell_command c.args.sizes x))
    (command_at c.args.sizes c.args.set c.args.command c.args.body.now) c.read.result
    (λ x e. let t = command_takes c.args.sizes c.args.set c.args.command c.args.body.now x
    (λ i. omega (arith, c.type_inv.body i)) e in (t.number, t.fits, t.spelled)) c.read.ensures.exact

pub returns-clause-only : goal.returns-clause-only
returns-clause-only c = λ x fits range number e.
    subst (λ f. IsRead f c.read.result)
    (ap (command_at c.args.sizes c.args.set c.args.command) e ∙ sym
    (ap (λ n. command_at c.args.sizes n.0 n.1 (spell_command c.args.sizes x)) number) ∙ command_again c.args.sizes x
    fits range)
    c.read.ensures.exact
