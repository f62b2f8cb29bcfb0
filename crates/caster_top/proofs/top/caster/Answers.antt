-- The clauses of the call, from how the run of its words ended.
use Rattle.caster_top.proofs.RunLemmas.{HasRun-keeping}
use Rattle.caster_top.proofs.KeepEndLemmas.{keep_lost, keep_whole}
use Rattle.caster_top.proofs.GivenLemmas.{file_short}
use Rattle.caster_top.proofs.ContractLemmas.{contract_met}
use Rattle.caster_top.proofs.top.caster.Goals as goal

pub returns-clause-call : goal.returns-clause-call
returns-clause-call g c =
    contract_met _ _ _ _ c.run_words.ensures.run c.run_words.ensures.asked c.run_words.ensures.kept_output

pub returns-clause-keeping : goal.returns-clause-keeping
returns-clause-keeping g c = HasRun-keeping c.run_words.ensures.run

pub returns-clause-kept_to_its_end : goal.returns-clause-kept_to_its_end
returns-clause-kept_to_its_end g c zero config addr quiet are =
    let store = g.S.Source in
    keep_whole
    (file_short (store.store c.args.store.now).files (store.log c.args.store.now) (store.log c.run_words.new.store))
    (HasRun-keeping c.run_words.ensures.run config addr quiet are) zero

pub returns-clause-kept_network_fault : goal.returns-clause-kept_network_fault
returns-clause-kept_network_fault g c six config addr quiet are =
    keep_lost (HasRun-keeping c.run_words.ensures.run config addr quiet are) six
