use Rattle.std.proofs.Common.{ℕ, List, ◌++◌, subst, refl}
use Rattle.session_calls.specs.Steps.{Step}
use Rattle.upstream_relay.specs.declared.body.RelayStage.{RelayStage}
use Rattle.upstream_relay.specs.declared.body.RelayStage.TheVariants.{Head, Body}
use Rattle.upstream_relay.specs.Standing.{StandsAt}
use Rattle.upstream_relay.proofs.StageLemmas.{halted_stays, open_steps, body_of, adds_none, adds_again, adds_first}
use Rattle.upstream_relay.proofs.body.go_on.Goals as goal

pub returns-in-Halted-clause-adds : goal.returns-in-Halted-clause-adds
returns-in-Halted-clause-adds g c = λ mount before steps x.
    adds_none _ _ c.args.me mount _ _
    (halted_stays mount c.args.me c.in-Halted.halt before c.args.bytes.now steps
    (subst (λ (s : RelayStage). StandsAt mount c.args.me s before steps) c.in-Halted.is x))

pub returns-in-Body-clause-adds : goal.returns-in-Body-clause-adds
returns-in-Body-clause-adds g c = λ mount before steps x.
    let me = c.args.me in
    let source = c.in-Body.source in
    let y : StandsAt mount me (Body source) before steps =
    subst (λ (s : RelayStage). StandsAt mount me s before steps) c.in-Body.is x in
    adds_again _ _ me mount _ _ source.me _ _
    (λ (m : ℕ) (later : List Step). StandsAt mount m (Body c.feed_body-fed.new.source) (before ++ c.args.bytes.now)
    (steps ++ later)) refl refl y.at_stage.caller
    (c.feed_body-fed.ensures.adds mount before steps (body_of mount me source before steps y))

pub returns-in-Head-clause-adds : goal.returns-in-Head-clause-adds
returns-in-Head-clause-adds g c = λ mount before steps x.
    let me = c.args.me in
    let y : StandsAt mount me (Head c.in-Head.head c.in-Head.cutter) before steps =
    subst (λ (s : RelayStage). StandsAt mount me s before steps) c.in-Head.is x in
    adds_first _ _ me mount c.decide.result.stage c.in-Head.head before c.args.bytes.now steps _ _ y.at_stage.0
    (open_steps mount me c.in-Head.head c.in-Head.cutter before steps y) (c.decide.ensures.adds mount)
