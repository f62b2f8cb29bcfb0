use Rattle.std.proofs.Common.{sym, ◌∙◌}
use Rattle.cast_text.proofs.NameLemmas.{is_name_unless}
use Rattle.cast_text.proofs.name.GroupName.new.Goals as goal

pub of-requires : goal.of-requires
of-requires c = is_name_unless c.args.text.now (sym c.fault_of.ensures ∙ c.in_default.is)
