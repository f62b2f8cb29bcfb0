use Rattle.std.proofs.Common.{◌∙◌, List, ℕ, ◌++◌, arith, drop, ap, subst}
use Rattle.std.proofs.lemmas.List.{take_all, take_rest}
use Rattle.ntrip_client.specs.declared.Answer.{Answer}
use Rattle.ntrip_client.specs.Answer.{IsAnswer}
use Rattle.upstream_relay.specs.Standing.{StandsAt}
use Rattle.ntrip_client.proofs.SayingLemmas.{accepted_at, front_and_rest}
use Rattle.upstream_relay.proofs.StageLemmas.{open_stands, refused_on, adds_none}
use Rattle.upstream_relay.proofs.body.decide.Goals as goal

pub returns-in-Open-clause-adds : goal.returns-in-Open-clause-adds
returns-in-Open-clause-adds g c = λ mount.
    let taken = c.feed-taken.ensures in
    adds_none _ _ c.args.me mount _ _
    (open_stands mount c.args.me c.feed-taken.new.self c.args.cutter (c.args.head ++ c.args.bytes.now)
    (taken.bytes ∙ ap (λ (l : List ℕ). c.args.head ++ l)
    (take_all c.feed-taken.result.count c.args.bytes.now (omega (arith, taken.all c.in-Open.is))))
    (subst (λ (a : Answer). IsAnswer c.feed-taken.new.self a) c.in-Open.is taken.says))

pub returns-in-Accepted-clause-adds : goal.returns-in-Accepted-clause-adds
returns-in-Accepted-clause-adds g c = λ mount.
    let taken = c.feed-taken.ensures in
    let x = c.begin.ensures.adds mount c.feed-taken.new.self
    (accepted_at c.feed-taken.new.self c.feed-taken.result.answer c.in-Accepted.at c.in-Accepted.chunked
    c.in-Accepted.is
    taken.begins taken.says) in (
      x.0,
      x.1,
      subst (λ (l : List ℕ). StandsAt mount c.args.me c.begin.result.stage l x.0)
          (ap (λ (l : List ℕ). c.feed-taken.new.self ++ l) (take_rest c.args.bytes.now c.feed-taken.result.count)
          ∙ front_and_rest c.args.head c.feed-taken.new.self c.args.bytes.now c.feed-taken.result.count taken.bytes)
          x.2,
    )

pub returns-in-Refused-clause-adds : goal.returns-in-Refused-clause-adds
returns-in-Refused-clause-adds g c = λ mount.
    let taken = c.feed-taken.ensures in
    adds_none _ _ c.args.me mount _ _
    (refused_on mount c.args.me c.in-Refused.refusal c.from-halt.result c.feed-taken.new.self
    (drop c.feed-taken.result.count c.args.bytes.now) (c.args.head ++ c.args.bytes.now) c.from-halt.ensures
    (front_and_rest c.args.head c.feed-taken.new.self c.args.bytes.now c.feed-taken.result.count taken.bytes)
    (subst (λ (a : Answer). IsAnswer c.feed-taken.new.self a) c.in-Refused.is taken.says))
