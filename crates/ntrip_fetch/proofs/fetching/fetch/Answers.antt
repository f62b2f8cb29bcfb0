-- All targets, or until a fault.
use Rattle.std.proofs.Common.{◌≡◌, ◌∙◌, length, ap, sym, subst, Err, inl, inr}
use Rattle.std.specs.Prelude.{IfOk, vec_len}
use Rattle.std.proofs.lemmas.Result.{err_from_is_err_and}
use Rattle.ntrip_fetch.proofs.WritingLemmas.{if_err}
use Rattle.ntrip_fetch.proofs.TriesLemmas.{stopped_first, asked_stopped, asked_of, within_of, all_of, as_given}
use Rattle.ntrip_fetch.proofs.fetching.fetch.Goals as goal

pub returns-in_err-tries-clause-stopped : goal.returns-in_err-tries-clause-stopped
returns-in_err-tries-clause-stopped g c =
    let p = err_from_is_err_and c.from_residual.result c.from_residual.ensures.1 in
    if_err _ c.from_residual.result _ (p.1 ∙ ap Err p.2)
    (stopped_first c.args.frames c.args.targets.now (g.N.Street.told c.args.street.now)
    (g.O.Sink.taken c.args.out.now))

pub returns-in_err-fetch_from-clause-asked : goal.returns-in_err-fetch_from-clause-asked
returns-in_err-fetch_from-clause-asked g c =
    let p = err_from_is_err_and c.from_residual-in_err-fetch_from.result c.from_residual-in_err-fetch_from.ensures.1 in
    let asked = asked_stopped c.in_err-fetch_from.ensures.stopped.stopped in (
      asked.0,
      asked.1,
      subst (λ r. IfOk r (λ tries. asked.0 ≡ vec_len tries)) (sym (p.1 ∙ ap Err p.2)) tt,
    )

pub returns-clause-asked : goal.returns-clause-asked
returns-clause-asked g c =
    let x = c.in_ok-fetch_from.ensures.tried in (
      length c.fetch_from.new.tries.items,
      asked_of c.args.frames c.args.targets.now _ _ _ _ c.fetch_from.new.tries.items
          (as_given c.args.frames c.args.targets.now _ _ _ _ c.in_ok-tries.tries.items c.fetch_from.new.tries.items x.0
          c.in_ok-tries.ensures.items x.1 x.2),
      sym c.fetch_from.new.tries.ok.0,
    )

pub returns-clause-within : goal.returns-clause-within
returns-clause-within g c =
    let x = c.in_ok-fetch_from.ensures.tried in
    within_of c.args.frames c.args.targets.now _ _ _ _ c.fetch_from.new.tries.items
    (as_given c.args.frames c.args.targets.now _ _ _ _ c.in_ok-tries.tries.items c.fetch_from.new.tries.items x.0
    c.in_ok-tries.ensures.items x.1 x.2)

pub returns-clause-all : goal.returns-clause-all
returns-clause-all g c =
    let x = c.in_ok-fetch_from.ensures.tried in
    elim (all_of c.args.frames c.args.targets.now _ _ _ _ c.fetch_from.new.tries.items
    (as_given c.args.frames c.args.targets.now _ _ _ _ c.in_ok-tries.tries.items c.fetch_from.new.tries.items x.0
    c.in_ok-tries.ensures.items x.1 x.2)) [
      | inl all ↦ inl all
      | inr each ↦ inr (c.fetch_from.new.tries.ok.0 ∙ each)
    ]
