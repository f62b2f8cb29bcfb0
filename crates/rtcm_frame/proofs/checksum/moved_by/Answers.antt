use Rattle.std.proofs.Common.{◌*◌, ◌/◌, ap, ◌∙◌}
use Rattle.rtcm_frame.specs.Bytewise.{moved}
use Rattle.rtcm_frame.proofs.StepLemmas.{moved_steps}
use Rattle.rtcm_frame.proofs.checksum.moved_by.Goals as goal

pub returns-clause-value : goal.returns-clause-value
returns-clause-value c =
    c.moved_far.ensures.value
    ∙ ap (moved (32 * (c.args.zeros / 32))) c.moved_near.ensures.value
    ∙ moved_steps c.args.zeros c.args.crc
