use Rattle.std.proofs.Common.{bit_xor, get_or, ap, ◌∙◌}
use Rattle.rtcm_frame.proofs.SumLemmas.{part_is}
use Rattle.rtcm_frame.proofs.sums.part_crc.Goals as goal

pub returns : goal.returns
returns c = λ buffer summed fits within chained.
    let sums = c.args.sums.now in
    ap (bit_xor (get_or sums c.args.end 0)) c.moved_by.ensures.value
    ∙ part_is buffer sums c.args.start c.args.end summed chained c.requires.fits c.requires.order within fits
