use Rattle.source_session.proofs.BodyLemmas.{frames_more, completed_both}
use Rattle.source_session.proofs.laws.pieces_are_joined.Goals as goal

pub returns-clause-grows : goal.returns-clause-grows
returns-clause-grows c = frames_more

pub returns-clause-both : goal.returns-clause-both
returns-clause-both c = completed_both
