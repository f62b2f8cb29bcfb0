-- What was written before, and one more piece of it or its first part.
use Rattle.std.proofs.Common.{◌≡◌, ℕ, ◌+◌, ◌-◌, take, arith, subst, ◌∙◌}
use Rattle.std.specs.Io.KnownBytes.{Appends}
use Rattle.caster_top.proofs.PieceLemmas.{piece_written, piece_torn}
use Rattle.caster_top.proofs.top.write_text.Goals as goal

pub returns-in_default-clause-torn : goal.returns-in_default-clause-torn
returns-in_default-clause-torn g c =
    piece_torn _ _ _ c.args.text.now c.loop-at.at (c.loop-at.at + c.min.result - c.loop-at.at)
    c.loop-at.invariant.within c.loop-at.invariant.written c.in_default.ensures.torn

pub loop-at-preserved : goal.loop-at-preserved
loop-at-preserved g c =
    let at = c.loop-at.at in
    let count = c.min.result in
    let same : at + (at + count - at) ≡ at + count = omega arith in
    record {
      within = omega arith;
      written = subst
          (λ (n : ℕ). Appends (g.O.Sink.taken c.args.out.now) (g.O.Sink.taken c.write.new.self)
          (take n c.args.text.now))
          same
          (piece_written _ _ _ c.args.text.now at (at + count - at) c.loop-at.invariant.written c.in-Ok.ensures.whole);
      unharmed = c.in-Ok.ensures.unharmed ∙ c.loop-at.invariant.unharmed;
    }
