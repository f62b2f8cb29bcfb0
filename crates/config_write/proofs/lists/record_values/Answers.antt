use Rattle.std.proofs.Common.{rules}
use Rattle.sourcetable.specs.declared.record.Record.{Record}
use Rattle.sourcetable.specs.Record.{line_of}
use Rattle.toml.specs.Data.{string}
use Rattle.config_write.proofs.lists.record_values.Goals as goal

pub returns : goal.returns
returns c =
    c.values_of.ensures (λ (r : Record). string (line_of r))
    (λ k d inside shown value is post. search rules)
