use Rattle.std.proofs.Common.{◌≡◌, ◌+◌}
use Rattle.std.specs.Iterator.Adapters.{zip_first, zip_second}
use Rattle.std.specs.Slice.Iter.{iter_rest}
use Rattle.masks.specs.Masks.{bit}
use Rattle.masks.specs.Members.{members}
use Rattle.tariff.specs.Charges.{charge}
use Rattle.tariff.proofs.Charges.{onward}
use Rattle.tariff.proofs.column.column_charge.Given as goal

abbrev pub invariant-loop-row : goal.invariant-loop-row
invariant-loop-row g l = record {
  can_go_on : (goal.iterator-loop-row g).can_next l.row-iterator;
  ends : (goal.iterator-loop-row g).is_finite l.row-iterator;
  paid :
      charge (g.T.Tariff.meaning l.tariff) (members (bit l.standing)) l.columns ≡
      l.sum + onward (g.T.Tariff.meaning l.tariff) l.above (members (bit (zip_first l.row-iterator).left)) (iter_rest (zip_second l.row-iterator));
}
