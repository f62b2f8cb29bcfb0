-- One file was asked for.
use Rattle.std.proofs.Common.{[], ◌∷◌, refl}
use Rattle.caster_top.proofs.answers.answer_offline.Goals as goal

pub returns-in-Over-clause-asked : goal.returns-in-Over-clause-asked
returns-in-Over-clause-asked g c =
    rw c.in-Over.is (c.in-Over.path.now ∷ [], refl, c.answer_over.ensures.asked)

pub returns-in-Over-clause-kept : goal.returns-in-Over-clause-kept
returns-in-Over-clause-kept g c = rw c.in-Over.is c.answer_over.ensures.kept

pub returns-in-Replay-clause-kept : goal.returns-in-Replay-clause-kept
returns-in-Replay-clause-kept g c = rw c.in-Replay.is c.answer_to_replay.ensures.kept
