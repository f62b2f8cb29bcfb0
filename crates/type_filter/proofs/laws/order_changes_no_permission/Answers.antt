use Rattle.type_filter.proofs.NumberLaws.{permits_in_order}
use Rattle.type_filter.proofs.laws.order_changes_no_permission.Goals as goal

pub returns : goal.returns
returns c = permits_in_order
