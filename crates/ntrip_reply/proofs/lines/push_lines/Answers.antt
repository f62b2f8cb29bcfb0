use Rattle.std.proofs.Common.{[], length, take, vec_len, ap, ◌∙◌, arith}
use Rattle.std.proofs.lemmas.List.{length-append}
use Rattle.std.proofs.lemmas.Bool.{false≢true}
use Rattle.ntrip_reply.specs.Message.{lines, texts_in}
use Rattle.ntrip_reply.proofs.TextLemmas.{front_kept, on_err, lines_within}
use Rattle.ntrip_reply.proofs.lines.push_lines.Goals as goal

pub returns-in_err-push_line-clause-kept : goal.returns-in_err-push_line-clause-kept
returns-in_err-push_line-clause-kept c =
    let so_far = lines (texts_in (take c.loop-text.text-index c.args.texts.now)) in
    let grown = ap length c.loop-text.invariant.0 in
    on_err c.from_residual.result
    (front_kept c.args.out.now.items so_far c.push_line.new.out.items (vec_len c.args.out.now)
    (vec_len c.loop-text.out) (omega arith) (omega (arith, grown, length-append c.args.out.now.items so_far))
    (c.in_err-push_line.ensures.kept ∙ c.loop-text.invariant.0))

pub returns-in_err-push_line-clause-room : goal.returns-in_err-push_line-clause-room
returns-in_err-push_line-clause-room c = λ room.
    let so_far = lines (texts_in (take c.loop-text.text-index c.args.texts.now)) in
    let grown = ap length c.loop-text.invariant.0 in
    let within = lines_within c.args.texts.now c.loop-text.text-index
    (record { ref_ptr = (0, 0); now = [] }) c.loop-text-test.true in
    absurd (false≢true (c.in_err-push_line.ensures.room
    (omega (arith, grown, length-append c.args.out.now.items so_far, within))))
