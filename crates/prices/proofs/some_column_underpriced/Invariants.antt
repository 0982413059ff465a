use Rattle.std.proofs.Common.{◌≡◌}
use Rattle.masks.specs.Masks.{bit}
use Rattle.masks.specs.Members.{members}
use Rattle.plans.specs.Least.{least, least_below}
use Rattle.plans.specs.Masked.{masked, price_row, toll_table}
use Rattle.prices.proofs.some_column_underpriced.Given as goal

-- the least prices of the last row come from those of the row above and the rows to come
abbrev pub invariant-loop-row : goal.invariant-loop-row
invariant-loop-row g l =
    let card = masked l.standing l.usable in
    let m = g.T.Tariff.meaning l.tariff in
    let toll = toll_table l.tolls in
    record {
      can_go_on : (goal.iterator-loop-row g).can_next l.row-iterator;
      ends : (goal.iterator-loop-row g).is_finite l.row-iterator;
      least : least card m toll ≡ least_below card m toll l.least.row (price_row l.least.prices) (members (bit l.row-iterator.left));
    }
