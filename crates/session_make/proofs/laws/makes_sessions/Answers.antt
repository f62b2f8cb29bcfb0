use Rattle.std.proofs.Common.{arith}
use Rattle.session_script.specs.declared.ScriptKind.TheVariants.{Bare}
use Rattle.session_script.proofs.ScriptLemmas.{reads_plain}
use Rattle.session_make.specs.Rounds.{events_of}
use Rattle.session_make.proofs.SessionLemmas.{made_is_session}
use Rattle.session_make.proofs.SizeLemmas.{script_within}
use Rattle.session_make.proofs.laws.makes_sessions.Goals as goal

pub returns-clause-session : goal.returns-clause-session
returns-clause-session c = made_is_session

pub returns-clause-reads : goal.returns-clause-reads
returns-clause-reads c = λ seed frames rovers most some few.
    let size = script_within seed frames rovers some few in
    reads_plain Bare (events_of seed frames rovers) (made_is_session seed frames rovers some few) (omega (arith, size))
