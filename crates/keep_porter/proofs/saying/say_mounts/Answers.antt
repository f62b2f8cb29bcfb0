-- One mountpoint more, and all of them.
use Rattle.std.proofs.Common.{refl}
use Rattle.session_calls.proofs.PlaceLemmas.{speak_same}
use Rattle.rover_session.proofs.AtLemmas.{stay_both, stay_still}
use Rattle.caster_press.proofs.PlaceLemmas.{same_then}
use Rattle.keep_porter.proofs.SayLemmas.{said_more, said_none}
use Rattle.keep_porter.proofs.saying.say_mounts.Goals as goal

pub find-found-requires-clause-speaks : goal.find-found-requires-clause-speaks
find-found-requires-clause-speaks g c =
    speak_same g.T.Turns.speaks c.args.rings.now c.loop-mount.rings c.args.me c.loop-mount.invariant.stay.same.1
    c.requires.speaks

pub loop-mount-init : goal.loop-mount-init
loop-mount-init g c = record {
  stay = stay_still g.T.Turns c.args.rings.now;
  same = record { speaks = refl; home = refl; start = refl };
  said = said_none _ _ _ _ _ _ _ _ _;
}

pub loop-mount-preserved : goal.loop-mount-preserved
loop-mount-preserved g c =
    let so_far = c.loop-mount.invariant in record {
      stay = stay_both g.T.Turns c.args.rings.now c.loop-mount.rings c.find-found.new.places so_far.stay
          c.find-found.ensures.stay;
      same = same_then _ _ _ so_far.same c.put.ensures.same;
      said = said_more g.T.Turns c.args.rings.now c.loop-mount.rings c.find-found.new.places c.args.me
          c.args.config.now c.args.by c.loop-mount.mount c.find-found.result c.mount_line.result _ _ _ so_far.stay
          c.find-found.ensures.stay so_far.said c.find-found.ensures.went c.find-found.ensures.found
          c.mount_line.ensures c.put.ensures.put;
    }
