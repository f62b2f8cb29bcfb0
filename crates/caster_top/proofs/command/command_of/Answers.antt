-- What is read as a command are the words of its form, and nothing else is.
use Rattle.std.proofs.Common.{map, string_bytes}
use Rattle.caster_top.proofs.WordLemmas.{command-form, command-none}
use Rattle.caster_top.proofs.command.command_of.Goals as goal

pub returns-clause-form : goal.returns-clause-form
returns-clause-form c =
    command-form (map (λ word. string_bytes word) c.args.words.now) c.command_in.result c.command_in.ensures

pub returns-clause-none : goal.returns-clause-none
returns-clause-none c =
    command-none (map (λ word. string_bytes word) c.args.words.now) c.command_in.result c.command_in.ensures
