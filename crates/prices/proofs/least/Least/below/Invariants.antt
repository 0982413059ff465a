use Rattle.std.proofs.Common.{◌≡◌, ℕ, length}
use Rattle.std.specs.List.{AllByRecursion}
use Rattle.masks.specs.Masks.{bit}
use Rattle.masks.specs.Members.{members}
use Rattle.plans.specs.Least.{least_row}
use Rattle.plans.specs.Masked.{in_mask, price_row, toll_row}
use Rattle.prices.proofs.Rows.{MemberOf, NotIn}
use Rattle.prices.proofs.least.Least.below.Given as goal

-- the prices of all columns but those to come are right
abbrev pub invariant-loop-column : goal.invariant-loop-column
invariant-loop-column g l = record {
  can_go_on : (goal.iterator-loop-column g).can_next l.column-iterator;
  ends : (goal.iterator-loop-column g).is_finite l.column-iterator;
  long : length l.prices ≡ 64;
  inside : AllByRecursion (MemberOf l.usable) (members (bit l.column-iterator.left));
  right :
      (k : ℕ) → NotIn (members (bit l.column-iterator.left)) k →
      price_row l.prices k ≡ least_row (in_mask l.usable) (g.T.Tariff.meaning l.tariff) (toll_row l.tolls) l.self.row (price_row l.self.prices) l.row k;
}
