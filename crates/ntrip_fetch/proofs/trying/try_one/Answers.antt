-- The link came back, or there was none.
use Rattle.std.proofs.Common.{Err, ap, arith}
use Rattle.ntrip_fetch.proofs.TriesLemmas.{run_ended, run_stopped, dial_failed, dial_stopped, ended_within, ended_fewer}
use Rattle.ntrip_fetch.proofs.WritingLemmas.{if_ok_so}
use Rattle.ntrip_fetch.proofs.trying.try_one.Goals as goal

pub returns-in-Ok-clause-run : goal.returns-in-Ok-clause-run
returns-in-Ok-clause-run g c =
    run_ended c.args.target.now c.args.most c.address_of.result.now _ _ _ _ _ _ _ c.fetch_link-tried.result
    c.address_of.ensures c.in-Ok.ensures.wanted c.in-Ok.ensures.each c.hang_up.ensures.left
    c.fetch_link-tried.ensures.fetched

pub returns-in-Ok-clause-stopped : goal.returns-in-Ok-clause-stopped
returns-in-Ok-clause-stopped g c =
    run_stopped c.args.target.now c.args.most c.address_of.result.now _ _ _ _ _ _ _ c.fetch_link-tried.result
    c.address_of.ensures c.in-Ok.ensures.wanted c.in-Ok.ensures.each c.hang_up.ensures.left
    c.fetch_link-tried.ensures.broken c.fetch_link-tried.ensures.nothing

pub returns-in-Err-Failed-clause-run : goal.returns-in-Err-Failed-clause-run
returns-in-Err-Failed-clause-run g c =
    dial_failed c.args.target.now c.args.most c.address_of.result.now _ _ _ c.address_of.ensures
    c.in-Err-Failed.ensures.wanted (c.in-Err-Failed.ensures.cause (ap Err c.in-Err-Failed.field-0-is))

pub returns-in-Err-Memory-clause-stopped : goal.returns-in-Err-Memory-clause-stopped
returns-in-Err-Memory-clause-stopped g c =
    dial_stopped c.args.target.now c.args.most c.address_of.result.now _ _ _ c.address_of.ensures
    c.in-Err-Memory.ensures.wanted

pub returns-in-Ok-clause-within : goal.returns-in-Ok-clause-within
returns-in-Ok-clause-within g c =
    if_ok_so c.fetch_link-tried.result _ _ (λ tried x. ended_within c.args.target.now c.args.most _ _ _ _ tried x)
    (run_ended c.args.target.now c.args.most c.address_of.result.now _ _ _ _ _ _ _ c.fetch_link-tried.result
    c.address_of.ensures c.in-Ok.ensures.wanted c.in-Ok.ensures.each c.hang_up.ensures.left
    c.fetch_link-tried.ensures.fetched)

pub returns-in-Ok-clause-fewer : goal.returns-in-Ok-clause-fewer
returns-in-Ok-clause-fewer g c =
    if_ok_so c.fetch_link-tried.result _ _
    (λ tried x. ended_fewer c.args.target.now c.args.most _ _ _ _ tried (omega (arith, c.requires.some)) x)
    (run_ended c.args.target.now c.args.most c.address_of.result.now _ _ _ _ _ _ _ c.fetch_link-tried.result
    c.address_of.ensures c.in-Ok.ensures.wanted c.in-Ok.ensures.each c.hang_up.ensures.left
    c.fetch_link-tried.ensures.fetched)
