-- One target is tried, and then those behind it.
use Rattle.std.proofs.Common.{◌≡◌, ◌∙◌, ◌+◌, ◌-◌, ◌<◌, ◌≤◌, List, [], ◌∷◌, ◌++◌, suc, length, rules, refl, ap, sym, subst, Err, arith, append_assoc}
use Rattle.std.specs.Prelude.{vec_len, vec_capacity}
use Rattle.std.specs.List.{All}
use Rattle.std.proofs.lemmas.List.{append-nil}
use Rattle.std.proofs.lemmas.List.Elements.{All-tail}
use Rattle.std.proofs.lemmas.Result.{err_from_is_err_and}
use Rattle.ntrip_fetch.specs.declared.target.Target.{Target}
use Rattle.ntrip_fetch.specs.Tries.{CanBeTried, HasTried}
use Rattle.ntrip_fetch.proofs.WritingLemmas.{if_err, if_err_so, on_ok_so}
use Rattle.ntrip_fetch.proofs.TriesLemmas.{tried_none, tried_last, tried_more, stopped_here, stopped_behind}
use Rattle.ntrip_fetch.proofs.fetching.+fetch_from.Goals as goal

none_of : (targets : List Target) → length targets ≡ 0 → targets ≡ []
none_of [] none = refl
none_of (target ∷ more) none = absurd (omega (arith, none))

pub returns-in_default-clause-tried : goal.returns-in_default-clause-tried
returns-in_default-clause-tried g t c =
    let empty : c.args.targets.now ≡ [] = none_of c.args.targets.now c.in_default.ensures.cases in
    let told = g.N.Street.told c.args.street.now in
    let start = g.O.Sink.taken c.args.out.now in (
      [],
      sym (append-nil c.args.tries.now.items),
      subst (λ (l : List Target). HasTried c.args.frames l told told start start []) (sym empty)
          (tried_none c.args.frames told start),
    )

pub returns-in_err-tried-clause-stopped : goal.returns-in_err-tried-clause-stopped
returns-in_err-tried-clause-stopped g t c =
    let p = err_from_is_err_and c.from_residual.result c.from_residual.ensures.1 in
    if_err _ c.from_residual.result _ (p.1 ∙ ap Err p.2)
    (stopped_here c.args.frames c.in-Some.target.now c.in-Some.later.now c.args.targets.now _ _ _ _ _
    c.in-Some.ensures.cases.0 c.in_err-tried.ensures.stopped)

pub returns-then-is_enough-clause-tried : goal.returns-then-is_enough-clause-tried
returns-then-is_enough-clause-tried g t c = (
  c.in_ok-tried.tried ∷ [],
  c.push_reserved.ensures.items,
  tried_last c.args.frames c.in-Some.target.now c.in-Some.later.now c.args.targets.now _ _ _ _ c.in_ok-tried.tried
      c.in-Some.ensures.cases.0 (c.is_enough.ensures.yes c.if-is_enough.true) c.in_ok-tried.ensures.run,
)

pub fetch_from-requires : goal.fetch_from-requires
fetch_from-requires g t c =
    let is = c.in-Some.ensures.cases.0 in
    let all : All CanBeTried c.in-Some.later.now = All-tail CanBeTried _ _
    (subst (All CanBeTried) is c.requires.targets) in
    let one : length c.args.targets.now ≡ suc (length c.in-Some.later.now) = ap length is in
    let smaller : length c.in-Some.later.now < length c.args.targets.now = omega (arith, one) in
    let fewer : c.in_ok-tried.tried.frames < c.args.frames =
    c.in_ok-tried.ensures.fewer (c.is_enough.ensures.no c.if-is_enough.false) in
    let some : 1 ≤ c.args.frames - c.in_ok-tried.tried.frames = omega (arith, fewer) in
    let few : c.args.frames - c.in_ok-tried.tried.frames ≤ 1000000 = omega (arith, c.requires.few) in
    let room : vec_len c.push_reserved.new.self + length c.in-Some.later.now ≤ vec_capacity c.push_reserved.new.self =
    omega (arith, one, c.requires.room, c.push_reserved.ensures.len, c.push_reserved.ensures.capacity) in
    search rules

pub returns-clause-tried : goal.returns-clause-tried
returns-clause-tried g t c =
    on_ok_so c.fetch_from.result _ _ (λ x. (
      c.in_ok-tried.tried ∷ x.0,
      x.1 ∙ ap (λ l. l ++ x.0) c.push_reserved.ensures.items
          ∙ append_assoc c.args.tries.now.items (c.in_ok-tried.tried ∷ []) x.0,
      tried_more c.args.frames c.in-Some.target.now c.in-Some.later.now c.args.targets.now _ _ _ _ _ _
          c.in_ok-tried.tried x.0 c.in-Some.ensures.cases.0 (c.is_enough.ensures.no c.if-is_enough.false)
          c.in_ok-tried.ensures.run x.2,
    )) c.fetch_from.ensures.tried

pub returns-clause-stopped : goal.returns-clause-stopped
returns-clause-stopped g t c =
    if_err_so c.fetch_from.result _ _ (λ fault x.
    stopped_behind c.args.frames c.in-Some.target.now c.in-Some.later.now c.args.targets.now _ _ _ _ _ _
    c.in_ok-tried.tried fault c.in-Some.ensures.cases.0 (c.is_enough.ensures.no c.if-is_enough.false)
    c.in_ok-tried.ensures.run x) c.fetch_from.ensures.stopped
