use Rattle.std.proofs.Common.{arith}
use Rattle.std.proofs.lemmas.Grind.{common_steps}
use Rattle.std.proofs.lemmas.List.Splits.{length-slice_split}
use Rattle.gga_read.proofs.FieldLemmas.{is_comma}
use Rattle.gga_read.proofs.sentence.count_fields.Goals as goal

pub returns : goal.returns
returns c = grind (arith, common_steps, length-slice_split is_comma c.args.text.now)
