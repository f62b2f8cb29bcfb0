use Rattle.upstream_relay.proofs.LawLemmas.{done_ended, bad_chunk}
use Rattle.upstream_relay.proofs.laws.halts_tell_of_the_body.Goals as goal

pub returns-clause-done : goal.returns-clause-done
returns-clause-done c = λ mount session bytes steps at chunked x says is.
    done_ended mount session.me session.stage bytes steps at chunked x says is

pub returns-clause-bad : goal.returns-clause-bad
returns-clause-bad c = λ mount session bytes steps at chunked place x says is.
    bad_chunk mount session.me session.stage bytes steps at chunked place x says is
