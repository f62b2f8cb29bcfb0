use Rattle.ntrip_reply.proofs.HeadLemmas.{reply_is_head}
use Rattle.ntrip_reply.proofs.laws.replies_are_heads_of_http.Goals as goal

pub returns : goal.returns
returns c = reply_is_head
