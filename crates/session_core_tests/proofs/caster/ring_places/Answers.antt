use Rattle.std.proofs.Common.{◌≡◌, ◌<◌, List, length, get_or, ap, subst, arith}
use Rattle.turn_log.specs.Desks.{desk_shape}
use Rattle.cast_config.specs.declared.config.Mount.{Mount}
use Rattle.session_core_tests.specs.Refusing.{tired_shape}
use Rattle.session_core_tests.proofs.ShapeLemmas.{rings_more, rings_all}
use Rattle.session_core_tests.proofs.caster.ring_places.Goals as goal

pub loop-m-preserved : goal.loop-m-preserved
loop-m-preserved c =
    let mounts : c.as_slice-mounts.result.now ≡ c.args.config.now.mount = c.as_slice-mounts.ensures in
    rings_more (tired_shape desk_shape) c.args.config.now c.loop-m.m c.index-mounts-m.result
    (get_or c.as_slice-mounts.result.now c.loop-m.m c.index-mounts-m.result) c.filters.result.now
    c.loop-m.places.items c.push.new.self.items c.in_ok-place.place
    (subst (λ (l : List Mount). c.loop-m.m < length l) mounts c.loop-m-test.true)
    (ap (λ (l : List Mount). get_or l c.loop-m.m c.index-mounts-m.result) mounts)
    c.filters.ensures c.loop-m.invariant c.in_ok-push.ensures.items c.in_ok-place.ensures

pub returns : goal.returns
returns c =
    let mounts : c.as_slice-mounts.result.now ≡ c.args.config.now.mount = c.as_slice-mounts.ensures in
    let long : length c.as_slice-mounts.result.now ≡ length c.args.config.now.mount = ap length mounts in
    rings_all (tired_shape desk_shape) c.args.config.now c.loop-m.m c.loop-m.places.items
    (omega (arith, c.loop-m-test.false, long)) c.loop-m.invariant
