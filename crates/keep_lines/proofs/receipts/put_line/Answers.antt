-- One line was put.
use Rattle.keep_lines.proofs.PutLemmas.{told_one}
use Rattle.keep_lines.proofs.receipts.put_line.Goals as goal

pub returns-clause-put : goal.returns-clause-put
returns-clause-put g c = told_one c.args.me c.args.line _ _ c.put.ensures.put
