use Rattle.std.proofs.Common.{◌∙◌, ◌++◌, ℕ, List, [], ◌∷◌, length, map, take, ap, arith}
use Rattle.std.proofs.lemmas.List.{length-map, take_all}
use Rattle.mount_ring.specs.History.{state_of}
use Rattle.session_model.specs.declared.report.MountTotal.{MountTotal}
use Rattle.session_model.specs.Reports.{mount_total}
use Rattle.caster_replay.proofs.DeskLemmas.{totals_more}
use Rattle.session_model.proofs.ReportSums.{total_with}
use Rattle.caster_replay.proofs.totals.mounts.Goals as goal

pub loop-place-preserved : goal.loop-place-preserved
loop-place-preserved g c =
    let history = g.P.Turns.seen c.place-item.result in
    c.in_ok-push.ensures.items
    ∙ ap (λ (totals : List MountTotal). totals ++ total_with c.published.result c.claims.result ∷ [])
    c.loop-place.invariant
    ∙ ap (λ (total : MountTotal).
    map mount_total (take c.loop-place.place-index (map g.P.Turns.seen c.args.places.now)) ++ total ∷ [])
    (ap (λ (n : ℕ). total_with n c.claims.result) (c.published.ensures history c.ring-ring.ensures)
    ∙ ap (total_with (length (state_of history).published)) (c.claims.ensures history c.ring-ring.ensures))
    ∙ totals_more c.args.places.now c.loop-place.place-index c.place-item.result g.P.Turns.seen
    c.loop-place-test.true c.place-item.is

pub returns : goal.returns
returns g c =
    c.loop-place.invariant
    ∙ ap (map mount_total)
    (take_all c.loop-place.place-index (map g.P.Turns.seen c.args.places.now)
    (omega (arith, c.loop-place-test.false, length-map c.args.places.now g.P.Turns.seen)))
