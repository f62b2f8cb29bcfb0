-- What the street was asked, and how it went on.
use Rattle.std.proofs.Common.{Err, ℕ, length, ap, subst, arith}
use Rattle.caster_serve.specs.Prepared.{IsPrepared}
use Rattle.caster_serve.proofs.WholeLemmas.{as_many_ends, refused_at_once, refused_memory, refused_network, some_ends, went_as}
use Rattle.caster_serve.proofs.whole.serve.Goals as goal

pub returns-in_default : goal.returns-in_default
returns-in_default g c = record { served = refused_at_once c.args.config.now c.args.addr.now c.args.limit _ }

pub returns-in-Err-Failed : goal.returns-in-Err-Failed
returns-in-Err-Failed g c =
    let asked = c.in-Err-Failed.ensures.asked in record {
      served = refused_network c.args.config.now c.args.addr.now c.args.limit asked.0 _ _ _ _ asked.1
          (c.in-Err-Failed.ensures.cause (ap Err c.in-Err-Failed.field-0-is)) c.in-Err-Failed.ensures.unused
          c.give_back.ensures;
    }

pub returns-in-Err-Memory : goal.returns-in-Err-Memory
returns-in-Err-Memory g c =
    let asked = c.in-Err-Memory.ensures.asked in record {
      served = refused_memory c.args.config.now c.args.addr.now c.args.limit asked.0 _ _ _ _ asked.1
          c.in-Err-Memory.ensures.unused c.give_back-in-Err-Memory.ensures;
    }

pub serve_given-requires-clause-prepared : goal.serve_given-requires-clause-prepared
serve_given-requires-clause-prepared g c κs within =
    let long = as_many_ends c.args.config.now _ c.ask_all.new.tasks.items c.in-Ok-ask_all.ensures.kinds in
    subst (λ (n : ℕ). IsPrepared n c.in-Ok-prepare.ready) (omega (arith, long, ap length c.as_slice.ensures))
    c.in-Ok-prepare.ensures.prepared

pub serve_given-requires-clause-some_caller : goal.serve_given-requires-clause-some_caller
serve_given-requires-clause-some_caller g c κs within =
    let long = as_many_ends c.args.config.now _ c.ask_all.new.tasks.items c.in-Ok-ask_all.ensures.kinds in
    (some_ends _ c.args.config.now _ c.requires.kept.1 long).0

pub serve_given-requires-clause-few : goal.serve_given-requires-clause-few
serve_given-requires-clause-few g c κs within =
    let long = as_many_ends c.args.config.now _ c.ask_all.new.tasks.items c.in-Ok-ask_all.ensures.kinds in
    (some_ends _ c.args.config.now _ c.requires.kept.1 long).1

pub returns-in-Ok-prepare : goal.returns-in-Ok-prepare
returns-in-Ok-prepare g c =
    let asked = c.in-Ok-ask_all.ensures.asked in record {
      served = went_as c.args.config.now _ c.args.addr.now c.args.limit asked.0 _ _ _ _ c.in-Ok-prepare.ensures.config
          asked.1 asked.2 c.serve_given.ensures.asked c.serve_given.ensures.later c.serve_given.ensures.ended;
    }

pub returns-in-Err : goal.returns-in-Err
returns-in-Err g c =
    let asked = c.in-Ok-ask_all.ensures.asked in record {
      served = refused_memory c.args.config.now c.args.addr.now c.args.limit asked.0 _ _ _ _ asked.1
          c.in-Ok-ask_all.ensures.unused c.give_back-in-Err.ensures;
    }
