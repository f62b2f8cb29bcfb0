-- One read after the other.
use Rattle.std.proofs.Common.{◌∙◌, refl, subst, arith}
use Rattle.ntrip_fetch.specs.Fetched.{HeardIs}
use Rattle.ntrip_fetch.proofs.WritingLemmas.{appends_none}
use Rattle.ntrip_fetch.proofs.ReceivingLemmas.{begins, runs_out}
use Rattle.ntrip_fetch.proofs.receiving.receive.Goals as goal

pub loop-init : goal.loop-init
loop-init g c = record {
  can = tt;
  finite = tt;
  size = refl;
  few = omega arith;
  unharmed = refl;
  receiving = begins c.args.most (g.L.Link.told c.args.link.now) (g.O.Sink.taken c.args.out.now) c.args.head
      c.requires.empty c.requires.open (appends_none (g.O.Sink.taken c.args.out.now));
}

pub returns-then-given-ge-MAX_LINK_BYTES-clause-received : goal.returns-then-given-ge-MAX_LINK_BYTES-clause-received
returns-then-given-ge-MAX_LINK_BYTES-clause-received g c =
    runs_out c.args.most _ _ _ _ c.loop.stage c.loop.frames c.loop.given c.requires.some c.loop.invariant.receiving
    (omega (arith, c.if-given-ge-MAX_LINK_BYTES.true))

pub hear-requires-clause-received : goal.hear-requires-clause-received
hear-requires-clause-received g c =
    (g.L.Link.told c.args.link.now, g.O.Sink.taken c.args.out.now, c.loop.invariant.receiving)

pub loop-preserved : goal.loop-preserved
loop-preserved g c = record {
  can = tt;
  finite = tt;
  size = c.hear.auto.piece ∙ c.loop.invariant.size;
  few = c.hear.ensures.few;
  unharmed = c.in-Ok-None.ensures.sink.unharmed ∙ c.loop.invariant.unharmed;
  receiving = subst (HeardIs c.args.most (g.L.Link.told c.args.link.now) (g.L.Link.told c.hear.new.link)
      (g.O.Sink.taken c.args.out.now) (g.O.Sink.taken c.hear.new.out) c.hear.new.stage c.hear.new.frames
      c.hear.new.given) c.in-Ok-None.field-0-is
      (c.in-Ok-None.ensures.heard (g.L.Link.told c.args.link.now) (g.O.Sink.taken c.args.out.now)
      c.loop.invariant.receiving);
}

pub returns-in-Ok-Some-clause-received : goal.returns-in-Ok-Some-clause-received
returns-in-Ok-Some-clause-received g c =
    subst (HeardIs c.args.most (g.L.Link.told c.args.link.now) (g.L.Link.told c.hear.new.link)
    (g.O.Sink.taken c.args.out.now) (g.O.Sink.taken c.hear.new.out) c.hear.new.stage c.hear.new.frames
    c.hear.new.given) c.in-Ok-Some.field-0-is
    (c.in-Ok-Some.ensures.heard (g.L.Link.told c.args.link.now) (g.O.Sink.taken c.args.out.now)
    c.loop.invariant.receiving)

pub returns-in-Err-clause-broken : goal.returns-in-Err-clause-broken
returns-in-Err-clause-broken g c = λ same.
    c.in-Err.ensures.broken (g.L.Link.told c.args.link.now) (g.O.Sink.taken c.args.out.now) c.loop.invariant.receiving
