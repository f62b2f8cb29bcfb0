use Rattle.std.proofs.Common.{◌∙◌, sym, arith}
use Rattle.caster_record.proofs.RoundLemmas.{rests_again}
use Rattle.caster_record.proofs.recorder.Recorder.serve_all.Goals as goal

pub serve_at-requires-clause-place : goal.serve_at-requires-clause-place
serve_at-requires-clause-place g c = (
  c.requires.begins.0,
  c.requires.begins.1,
  c.loop-at.invariant.place c.requires.begins.0 c.requires.begins.1 c.requires.begins.2,
)

pub loop-at-preserved : goal.loop-at-preserved
loop-at-preserved g c = record {
  place = λ before door w.
      c.in_ok-busy.ensures.place before door (c.loop-at.invariant.place before door w);
  given = c.serve_at.ensures.given ∙ c.loop-at.invariant.given;
  count = c.serve_at.ensures.count ∙ c.loop-at.invariant.count;
  most = omega (arith, c.loop-at.invariant.most, c.serve_at.ensures.count);
  all = c.loop-at.invariant.all ∙ sym c.serve_at.ensures.count;
}

pub returns-clause-rests : goal.returns-clause-rests
returns-clause-rests g c =
    λ before door w.
    rests_again g.L.Link.told c.args.setup.now.config.now c.args.setup.now.limit c.loop-at.at before door c.loop-at.self
    c.loop-at.links.items c.loop-at.torn.items (c.loop-at.invariant.place before door w)
    (omega (arith, c.loop-at-test.false, c.loop-at.auto.at-end, c.loop-at.invariant.all))
