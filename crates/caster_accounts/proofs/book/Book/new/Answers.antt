use Rattle.std.proofs.Common.{◌<◌, length, arith}
use Rattle.caster_accounts.proofs.BookLemmas.{each_opened, caps_opened}
use Rattle.caster_accounts.proofs.book.Book.new.Goals as goal

pub loop-cap-preserved : goal.loop-cap-preserved
loop-cap-preserved c =
    let low : c.loop-cap.cap-index < length c.args.caps.now = omega (
      arith,
      c.loop-cap-test.true,
      c.loop-cap.auto.cap-index-end,
    ) in
    record {
      caps = caps_opened c.args.caps.now c.loop-cap.cap-index c.loop-cap.accounts.items c.push.new.self.items
          c.new.result
          c.in_ok-push.ensures.items c.new.ensures.cap low c.loop-cap.invariant.caps;
      keeps = each_opened c.loop-cap.accounts.items c.push.new.self.items c.new.result c.in_ok-push.ensures.items
          c.new.ensures.busy
          c.new.ensures.sum c.loop-cap.invariant.keeps;
    }
