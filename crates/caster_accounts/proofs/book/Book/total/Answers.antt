use Rattle.std.proofs.Common.{◌<◌, length, refl, arith}
use Rattle.std.proofs.lemmas.List.{length-map}
use Rattle.std.proofs.lemmas.Option.{slice_get_read}
use Rattle.caster_accounts.specs.declared.account.Account.{Account}
use Rattle.caster_accounts.proofs.book.Book.total.Goals as goal

pub returns : goal.returns
returns c = λ h keeps.
    let accounts = c.args.self.now.accounts.items in
    let inside : c.args.account < length accounts =
    omega (arith, c.requires, length-map accounts (λ (a : Account). a.cap)) in
    (keeps.each c.args.account c.index.result.now
    (slice_get_read accounts (length accounts) c.args.account c.index.result.now refl inside c.index.ensures)).sum
