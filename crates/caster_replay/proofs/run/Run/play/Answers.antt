use Rattle.std.proofs.Common.{subst}
use Rattle.std.proofs.lemmas.Result.{on_ok_weaker}
use Rattle.caster_replay.specs.Scripts.{Asks}
use Rattle.caster_replay.proofs.RunLemmas.{plays_of}
use Rattle.caster_replay.proofs.run.Run.play.Goals as goal

pub open-requires-clause-run : goal.open-requires-clause-run
open-requires-clause-run g c = (
  c.requires.run.0,
  c.args.event.now,
  subst (Asks c.args.event.now c.request_of-number.result.0) c.in-Open.is c.request_of-number.ensures,
  plays_of c.args.config.now c.requires.run.0 c.args.event.now c.args.self.now c.requires.run.1 c.requires.run.2,
)

pub returns-in-Open : goal.returns-in-Open
returns-in-Open g c =
    let asked = subst (Asks c.args.event.now c.request_of-number.result.0) c.in-Open.is c.request_of-number.ensures in
    record {
      played = λ script stands comes.
          on_ok_weaker c.open.result (λ after. record { table = stands.table; stands = after })
          (c.open.ensures.ok script c.args.event.now asked
          (plays_of c.args.config.now script c.args.event.now c.args.self.now stands comes));
      sends = c.open.ensures.sends c.args.event.now asked;
      homes = c.open.ensures.same.homes;
    }

pub apply-requires-clause-run : goal.apply-requires-clause-run
apply-requires-clause-run g c = (
  c.requires.run.0,
  c.args.event.now,
  subst (Asks c.args.event.now c.request_of-number.result.0) c.in-Apply.is c.request_of-number.ensures,
  plays_of c.args.config.now c.requires.run.0 c.args.event.now c.args.self.now c.requires.run.1 c.requires.run.2,
)

pub returns-in-Apply : goal.returns-in-Apply
returns-in-Apply g c =
    let asked = subst (Asks c.args.event.now c.request_of-number.result.0) c.in-Apply.is c.request_of-number.ensures in
    record {
      played = λ script stands comes.
          on_ok_weaker c.apply.result (λ after. record { table = stands.table; stands = after })
          (c.apply.ensures.ok script c.args.event.now asked
          (plays_of c.args.config.now script c.args.event.now c.args.self.now stands comes));
      sends = c.apply.ensures.sends c.args.event.now asked;
      homes = c.apply.ensures.same.homes;
    }
