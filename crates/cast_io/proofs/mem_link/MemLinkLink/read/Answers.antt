-- A read takes a step and notes it.
use Rattle.cast_io.proofs.ToldLemmas.{link_read}
use Rattle.cast_io.proofs.mem_link.MemLinkLink.read.Goals as goal

pub returns-clause-read : goal.returns-clause-read
returns-clause-read c =
    let took = c.take_step-got.ensures in
    let noted = c.note-2.ensures in
    link_read _ c.take_step-got.new.self _ _ _ took.left took.same.1 took.same.0 took.rises.0 took.rises.1
    noted.same (noted.grew _ c.step_taken.ensures) noted.later
