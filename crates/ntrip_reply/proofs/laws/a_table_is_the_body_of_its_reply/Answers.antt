use Rattle.ntrip_reply.proofs.HeadLemmas.{table_is_body}
use Rattle.ntrip_reply.proofs.laws.a_table_is_the_body_of_its_reply.Goals as goal

pub returns : goal.returns
returns c = table_is_body
