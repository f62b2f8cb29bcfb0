-- Words of this name that ask for no caster that keeps serving are of no form.
use Rattle.std.proofs.Common.{sym}
use Rattle.caster_top.proofs.KeepWordLemmas.{keep_excluded}
use Rattle.caster_top.proofs.command.command_of_four.Goals as goal

pub returns-then-eq-2 : goal.returns-then-eq-2
returns-then-eq-2 c =
    keep_excluded c.args.name.now c.args.first.now c.args.second.now c.args.third.now c.requires
    (sym c.if-eq-2.ensures)
