use Rattle.std.proofs.Common.{◌≡◌, ◌≤◌, IsPermutation, length, subst, arith}
use Rattle.type_filter.proofs.NumberLaws.{list_in_order}
use Rattle.type_filter.specs.Numbers.{IsNumberList, in_order}
use Rattle.type_filter.proofs.selection.in_order.Goals as goal

-- the sorted numbers without repeats are the set of the given ones, in order
both : (c : goal.After-dedup)
    → IsNumberList c.dedup.new.self.items × (c.dedup.new.self.items ≡ in_order c.args.numbers.now)
both c =
    let shorter : length c.dedup.new.self.items ≤ length c.sort_unstable.new.self.items =
    omega (arith, c.dedup.new.self.ok, c.sort_unstable.new.self.ok) in
    list_in_order c.args.numbers.now c.sort_unstable.new.self.items c.dedup.new.self.items
    c.requires.count c.requires.low
    (subst (λ l. IsPermutation l c.sort_unstable.new.self.items) c.in_ok-kept.ensures.items
    c.sort_unstable.ensures.permutation)
    c.sort_unstable.ensures.sorted c.dedup.ensures.filtered shorter

pub returns-clause-list : goal.returns-clause-list
returns-clause-list c = (both c).1

pub returns-clause-valid : goal.returns-clause-valid
returns-clause-valid c = (both c).0
