-- What was taken before, and one more part of the rest.
use Rattle.std.proofs.Common.{rules, ◌-◌, ◌≤◌, ◌∙◌, length, drop, arith, length-take, length-drop}
use Rattle.caster_net.proofs.PieceLemmas.{part_taken}
use Rattle.caster_net.proofs.ToldLemmas.{none_told, told_more}
use Rattle.caster_net.proofs.wire.Wire.write_heeding.Goals as goal

pub loop-at-init : goal.loop-at-init
loop-at-init g c = record {
  within = search rules;
  took = search rules;
  keep = search rules;
  told = none_told c.args.heed.now.room;
}

pub loop-at-preserved : goal.loop-at-preserved
loop-at-preserved g c =
    let at = c.loop-at.at in
    let count = c.in-Some.count in
    let piece = c.args.piece.now in
    let rest = length piece - at in
    let so_far = c.loop-at.invariant.took in
    let more = c.in-Some.ensures.took in
    let size = length-take rest (drop at piece) in
    let left = length-drop at piece in
    let part : count ≤ rest = omega (arith, c.in-Some.ensures.bound.1, size, left) in
    record {
      within = omega (arith, part);
      took = record {
        both = part_taken _ _ _ _ _ _ piece at count rest part so_far.both more.both;
        taken = more.taken ∙ so_far.taken;
        faults = more.faults ∙ so_far.faults;
      };
      keep = cc;
      told = told_more _ _ _ _ at count c.loop-at.invariant.told c.in-Some.ensures.room
          c.take_part.ensures.told;
    }
