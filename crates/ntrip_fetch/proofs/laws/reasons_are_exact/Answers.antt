-- By each reason for which a link may be left.
use Rattle.ntrip_fetch.proofs.LawLemmas.{enough_exact, refused_exact, by_done, by_fault}
use Rattle.ntrip_fetch.proofs.laws.reasons_are_exact.Goals as goal

pub returns-clause-enough : goal.returns-clause-enough
returns-clause-enough c = λ target most before after frames tried some x.
    enough_exact target most before after frames tried x some

pub returns-clause-refused : goal.returns-clause-refused
returns-clause-refused c = λ target most before after frames tried why some x says.
    refused_exact target most before after frames tried x why some says

pub returns-clause-done : goal.returns-clause-done
returns-clause-done c = λ target most before after frames tried less x done.
    by_done most before after x.taken x.answer tried.frames tried.left x.left less done

pub returns-clause-bad_chunk : goal.returns-clause-bad_chunk
returns-clause-bad_chunk c = λ target most before after frames tried place less x bad.
    by_fault most before after x.taken x.answer tried.frames tried.left place x.left less bad
