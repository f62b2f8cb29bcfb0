-- One answer more, or none; and why it is over.
use Rattle.std.proofs.Common.{refl}
use Rattle.session_calls.proofs.PlaceLemmas.{speak_same}
use Rattle.rover_session.proofs.AtLemmas.{stay_both, stay_still}
use Rattle.caster_press.proofs.PlaceLemmas.{same_then}
use Rattle.keep_porter.proofs.SayLemmas.{given_more, given_none, told_busy}
use Rattle.keep_porter.proofs.saying.wait_at.Goals as goal

pub loop-init : goal.loop-init
loop-init g c = record {
  can = tt;
  finite = tt;
  stay = stay_still g.T.Turns c.args.rings.now;
  same = record { speaks = refl; home = refl; start = refl };
  given = given_none _ _ _ _ _ _ _ _ _ _;
}

pub say-requires-clause-speaks : goal.say-requires-clause-speaks
say-requires-clause-speaks g c =
    speak_same g.T.Turns.speaks c.args.rings.now c.loop.rings c.args.me c.loop.invariant.stay.same.1 c.requires.speaks

pub loop-preserved-in-Status : goal.loop-preserved-in-Status
loop-preserved-in-Status g c =
    let so_far = c.loop.invariant in
    let said = c.say.ensures.said in
    let busy = c.in-Status.ensures.0 in record {
      can = tt;
      finite = tt;
      stay = stay_both g.T.Turns c.args.rings.now c.loop.rings c.say.new.rings so_far.stay c.say.ensures.stay;
      same = same_then _ _ _ so_far.same c.say.ensures.same;
      given = given_more g.T.Turns c.args.rings.now c.loop.rings c.say.new.rings c.args.me
          (g.C.Console.told c.args.console.now) (g.C.Console.told c.loop.console) (g.C.Console.told c.hear.new.self) c.args.config.now
          c.args.by said.0 _ _ _ so_far.stay c.say.ensures.stay so_far.given
          (told_busy (g.C.Console.told c.loop.console) (g.C.Console.told c.hear.new.self) c.in-Status.busy said.0.busy
          busy said.1) said.2 said.3 said.4 said.5;
    }
