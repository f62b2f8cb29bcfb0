use Rattle.std.proofs.Common.{map, arith}
use Rattle.std.proofs.lemmas.Result.{err_from_is_err_and}
use Rattle.session_calls.specs.Rings.{all_alone}
use Rattle.session_calls.proofs.PlaceLemmas.{speak_same, alone_same}
use Rattle.rover_session.proofs.AtLemmas.{stay_both, look_refused}
use Rattle.rover_session.proofs.BaseLemmas.{asked_next, asked_first, went_as}
use Rattle.rover_session.proofs.places.held_among.Goals as goal

pub look-requires-clause-speaks : goal.look-requires-clause-speaks
look-requires-clause-speaks g c =
    speak_same g.T.Turns.speaks c.args.places.now c.loop-base.places c.args.me c.loop-base.invariant.stay.same.1
    c.requires.speaks

pub returns-in_err-live-clause-first : goal.returns-in_err-live-clause-first
returns-in_err-live-clause-first g c =
    let place = g.T.Turns in
    let p = err_from_is_err_and c.from_residual.result c.from_residual.ensures.1 in
    rw p.1 (asked_first (map place.shape c.args.places.now) (all_alone place.alone c.args.places.now)
    (map place.seen c.args.places.now) (map place.seen c.loop-base.places) (map place.seen c.look.new.places) c.args.me
    c.loop-base.base-index c.args.bases.now c.loop-base.held.items c.loop-base.invariant.asked
    c.in_err-live.ensures.err)

pub returns-in_err-live-clause-cause : goal.returns-in_err-live-clause-cause
returns-in_err-live-clause-cause g c =
    let p = err_from_is_err_and c.from_residual.result c.from_residual.ensures.1 in
    rw (p.1, p.2) (look_refused g.T.Turns.may_lack g.T.Turns.worn c.look.new.places _ c.in_err-live.ensures.fault)

pub loop-base-preserved : goal.loop-base-preserved
loop-base-preserved g c =
    let place = g.T.Turns in
    let same = c.loop-base.invariant.stay.same in record {
      stay = stay_both place c.args.places.now c.loop-base.places c.look.new.places c.loop-base.invariant.stay
          (record { same = c.look.ensures.same; worn = c.look.ensures.worn });
      asked = asked_next (map place.shape c.args.places.now) (all_alone place.alone c.args.places.now)
          (map place.seen c.args.places.now) (map place.seen c.loop-base.places) (map place.seen c.look.new.places)
          c.args.me c.args.bases.now c.loop-base.held.items c.push_live.new.held.items c.loop-base.base-index _
          c.in_ok-live.live c.loop-base-test.true c.loop-base.invariant.asked
          (went_as (map place.shape c.args.places.now) (map place.shape c.loop-base.places)
          (all_alone place.alone c.args.places.now) (all_alone place.alone c.loop-base.places)
          (map place.seen c.loop-base.places) (map place.seen c.look.new.places) c.args.me _ same.0
          (alone_same place.alone c.args.places.now c.loop-base.places same.3) c.in_ok-live.ensures.went)
          c.push_live.ensures.items;
      room = omega (arith, c.push_live.ensures.len, c.push_live.ensures.capacity, c.loop-base.invariant.room);
    }
