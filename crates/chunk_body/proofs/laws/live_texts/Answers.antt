use Rattle.chunk_body.proofs.TextLemmas.{live_by_bytes, live_front}
use Rattle.chunk_body.proofs.laws.live_texts.Goals as goal

pub returns-clause-bytes : goal.returns-clause-bytes
returns-clause-bytes c = live_by_bytes

pub returns-clause-fronts : goal.returns-clause-fronts
returns-clause-fronts c = live_front
