use Rattle.type_filter.proofs.NumberLaws.{in_order_same, in_order_rises, in_order_stays, in_order_again}
use Rattle.type_filter.proofs.laws.numbers_are_put_in_order.Goals as goal

pub returns-clause-same : goal.returns-clause-same
returns-clause-same c = in_order_same

pub returns-clause-rising : goal.returns-clause-rising
returns-clause-rising c = in_order_rises

pub returns-clause-stays : goal.returns-clause-stays
returns-clause-stays c = in_order_stays

pub returns-clause-again : goal.returns-clause-again
returns-clause-again c = in_order_again
