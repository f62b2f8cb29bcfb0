use Rattle.std.proofs.Common.{◌≡◌, [], take}
use Rattle.caster_accounts.specs.Kept.{KeepsEach}
use Rattle.caster_accounts.proofs.BookLemmas.{caps}
use Rattle.caster_accounts.proofs.book.Book.new.Given as goal

abbrev pub invariant-loop-cap : goal.invariant-loop-cap
invariant-loop-cap l = record {
  caps : caps l.accounts.items ≡ take l.cap-index l.caps;
  keeps : KeepsEach l.accounts.items [];
}
