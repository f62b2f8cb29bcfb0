use Rattle.std.proofs.Common.{arith}
use Rattle.ntrip_client.proofs.SayingLemmas.{long_line}
use Rattle.ntrip_client.proofs.head.by_size.Goals as goal

pub returns-else-head-lt-MAX_HEAD_BYTES-clause-says : goal.returns-else-head-lt-MAX_HEAD_BYTES-clause-says
returns-else-head-lt-MAX_HEAD_BYTES-clause-says c = long_line c.args.head.now c.requires.line (omega arith)
