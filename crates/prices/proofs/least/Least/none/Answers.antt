use Rattle.prices.proofs.Rows.{none_yet}
use Rattle.prices.proofs.least.Least.none.Goals as goal

pub returns-clause-prices : goal.returns-clause-prices
returns-clause-prices c = none_yet 64
