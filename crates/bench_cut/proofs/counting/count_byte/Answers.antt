use Rattle.bench_cut.proofs.CountLemmas.{pushed_more}
use Rattle.bench_cut.proofs.counting.count_byte.Goals as goal

pub returns-clause-gave : goal.returns-clause-gave
returns-clause-gave g c = λ all before.
    pushed_more all _ _ _ _ _ _ before c.push.ensures.stands c.take_ready.ensures.gave
