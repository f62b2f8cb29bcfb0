-- The request, and what came behind it.
use Rattle.std.proofs.Common.{◌≡◌, ◌∙◌, ◌++◌, List, ℕ, ap, arith}
use Rattle.ntrip_fetch.specs.Request.{target_request}
use Rattle.ntrip_fetch.proofs.WritingLemmas.{if_ok_so, appends_none}
use Rattle.ntrip_fetch.proofs.FetchedLemmas.{fetched_behind, broken_behind, unsent}
use Rattle.ntrip_fetch.proofs.receiving.fetch_link.Goals as goal

pub returns-in_default-clause-fetched : goal.returns-in_default-clause-fetched
returns-in_default-clause-fetched g c =
    let same : c.deref.result.now ≡ c.request_of.new.out.items = cc in
    unsent c.args.t.now c.args.most _ _ (g.O.Sink.taken c.args.out.now) _ c.deref.result.now c.in_ok-head.head
    c.in_default.ensures.written
    (same ∙ c.in_ok-request_of.ensures.ok
    ∙ ap (λ (l : List ℕ). l ++ target_request c.args.t.now) c.new-request.ensures.items)
    c.in_ok-head.ensures.empty c.in_ok-head.ensures.open (omega (arith, c.requires.some))
    (appends_none (g.O.Sink.taken c.args.out.now))

pub returns-clause-fetched : goal.returns-clause-fetched
returns-clause-fetched g c =
    let same : c.deref.result.now ≡ c.request_of.new.out.items = cc in
    if_ok_so c.receive.result _ _ (λ tried x.
    fetched_behind c.args.t.now c.args.most _ _ _ _ _ tried _ c.deref.result.now c.in-Ok.ensures.written
    (same ∙ c.in_ok-request_of.ensures.ok
    ∙ ap (λ (l : List ℕ). l ++ target_request c.args.t.now) c.new-request.ensures.items)
    x) c.receive.ensures.received

pub returns-clause-broken : goal.returns-clause-broken
returns-clause-broken g c = λ is.
    let same : c.deref.result.now ≡ c.request_of.new.out.items = cc in
    broken_behind c.args.t.now c.args.most _ _ _ _ _ _ c.deref.result.now c.in-Ok.ensures.written
    (same ∙ c.in_ok-request_of.ensures.ok
    ∙ ap (λ (l : List ℕ). l ++ target_request c.args.t.now) c.new-request.ensures.items)
    (c.receive.ensures.broken is)
