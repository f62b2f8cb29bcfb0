use Rattle.session_text.proofs.DigitLemmas.{digits_none, digits_more}
use Rattle.session_text.proofs.report_lines.push_digits.Goals as goal

pub loop-byte-init : goal.loop-byte-init
loop-byte-init c = digits_none c.args.out.now.items

pub loop-byte-preserved : goal.loop-byte-preserved
loop-byte-preserved c =
    digits_more c.args.bytes.now c.loop-byte.byte-index 0 c.loop-byte-test.true
    c.args.out.now.items c.loop-byte.out.items c.push.new.self.items c.push-in-loop-byte.new.self.items
    c.digit.result c.digit-in-loop-byte.result c.digit.ensures c.digit-in-loop-byte.ensures
    c.loop-byte.invariant c.in_ok-push.ensures.items c.in_ok-push-2.ensures.items
