use Rattle.ntrip_head.proofs.AnswerLemmas.{head_once, upstream_once}
use Rattle.ntrip_head.proofs.laws.heads_have_one_answer.Goals as goal

pub returns-clause-head : goal.returns-clause-head
returns-clause-head c = head_once

pub returns-clause-upstream : goal.returns-clause-upstream
returns-clause-upstream c = upstream_once
