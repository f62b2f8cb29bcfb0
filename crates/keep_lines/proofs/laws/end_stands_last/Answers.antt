-- The last line of a receipt, and all others.
use Rattle.keep_lines.proofs.EndLemmas.{asks_says_other, end_says_end, entered_says_other, others_say_others, peer_says_other}
use Rattle.keep_lines.proofs.laws.end_stands_last.Goals as goal

pub returns-clause-peer : goal.returns-clause-peer
returns-clause-peer c = λ peer. peer_says_other c.args.link peer

pub returns-clause-asks : goal.returns-clause-asks
returns-clause-asks c = λ asks. asks_says_other c.args.link asks

pub returns-clause-entered : goal.returns-clause-entered
returns-clause-entered c = λ config entered. entered_says_other config c.args.link entered

pub returns-clause-last : goal.returns-clause-last
returns-clause-last c = λ config who receipt. end_says_end config c.args.link who receipt

pub returns-clause-others : goal.returns-clause-others
returns-clause-others c = λ config who receipt done rest next same.
    others_say_others config c.args.link who receipt done rest next same
