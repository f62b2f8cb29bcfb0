use Rattle.std.proofs.Common.{◌<◌, length, arith, ap}
use Rattle.std.proofs.lemmas.List.Sums.{sum_by_more}
use Rattle.session_model.specs.Text.{account_line}
use Rattle.session_text.specs.Room.{account_room}
use Rattle.session_text.proofs.TextLemmas.{zip_more, zip_all}
use Rattle.session_text.proofs.text.push_accounts.Goals as goal

pub loop-i-preserved : goal.loop-i-preserved
loop-i-preserved c =
    let within : c.loop-i.i < length c.args.accounts.now = omega (arith, c.loop-i-test.true) in
    let more = sum_by_more account_room c.args.accounts.now c.loop-i.i c.index-accounts-i.result within in
    let one = ap account_room c.index-accounts-i.is in
    record {
      items = zip_more account_line c.args.accounts.now c.args.sums.now c.loop-i.i c.index-accounts-i.result
          (record { sessions = 0; sent = 0; overrun = 0 })
          c.index-accounts-i.result c.index-accounts-i.is within c.requires
          c.args.out.now.items c.loop-i.out.items c.push_account.new.out.items c.loop-i.invariant.items
          c.in_ok-push_account.ensures.ok;
      short = omega (arith, more, one, c.loop-i.invariant.short, c.in_ok-push_account.ensures.fits.short);
      capacity = omega (arith, c.loop-i.invariant.capacity, c.in_ok-push_account.ensures.fits.capacity);
    }

pub returns-clause-ok : goal.returns-clause-ok
returns-clause-ok c =
    zip_all account_line c.args.accounts.now c.args.sums.now c.loop-i.i (omega
    (arith, c.loop-i-test.false)) c.args.out.now.items
    c.loop-i.out.items c.loop-i.invariant.items
